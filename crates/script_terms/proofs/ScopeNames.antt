-- Names of a scope: which are live, and that what they stand for is of the table.
use Rattle.std.proofs.Common.{◌≡◌, Bool, true, false, List, [], ◌∷◌, All, Option, Some, None, refl, subst, option_map, ap, sym, ◌∙◌}
use Rattle.std.proofs.lemmas.List.Elements.{All-head, All-tail}
use Rattle.smt_lex.specs.Names.{Name}
use Rattle.smt_terms.specs.Equal.{name_eq}
use Rattle.smt_terms.specs.Fresh.{Supply}
use Rattle.smt_terms.proofs.Equal.{name_same}
use Rattle.term_table.specs.Formulas.{Formulas}
use Rattle.term_subst.specs.declared.maps.Definition.{Definition}
use Rattle.script_terms.specs.declared.scopes.Entry.{Entry}
use Rattle.script_terms.specs.Known.{Scoped, find, IsEntry, IsScopedEntry, Scoping, terms_shown, sorts_shown, terms_live, sorts_live, meant_by}
use Rattle.script_terms.specs.Scope.{or_later}
use Rattle.std.specs.Prelude.{is_some}
use Rattle.script_terms.specs.Reading.{ReadBinding, entry_of, live_sorts}
use Rattle.script_terms.proofs.Showing.{entry_found, entry_meant, sort_found}

-- ---- what a name stands for is of the table

module _ (t : Formulas) (supply : Supply) (ds : List Definition) (n : Name) (e : Entry) where
  found_first : (m : Name) (d : Entry) (b : Bool) (later : Option Entry) → name_eq m n ≡ b → or_later b d later ≡ Some e → IsEntry t supply ds m d → (later ≡ Some e → IsEntry t supply ds n e) → IsEntry t supply ds n e
  found_first m d true later same found is below = let here : d ≡ e = cc in subst (λ x. IsEntry t supply ds n x) here (subst (λ k. IsEntry t supply ds k d) (name_same m n same) is)
  found_first m d false later same found is below = below found

  pub entry_is : (bs : List (Scoped Entry)) → All (IsScopedEntry t supply ds) bs → find bs n ≡ Some e → IsEntry t supply ds n e
  entry_is [] all found = absurd (cc)
  entry_is (None ∷ bs) all found = entry_is bs (All-tail (IsScopedEntry t supply ds) None bs all) found
  entry_is (Some p ∷ bs) all found =
      found_first p.0 p.1 (name_eq p.0 n) (find bs n) refl found (All-head (IsScopedEntry t supply ds) (Some p) bs all) (λ h. entry_is bs (All-tail (IsScopedEntry t supply ds) (Some p) bs all) h)

both_some : {A B C : Type 0} (f : A → C) (g : B → C) (a : Option A) (b : Option B) → option_map f a ≡ option_map g b → is_some a ≡ is_some b
both_some f g (Some a) (Some b) same = refl
both_some f g (Some a) None same = absurd (cc)
both_some f g None (Some b) same = absurd (cc)
both_some f g None None same = refl

still_some : {A C : Type 0} (f : A → C) (a : Option A) → is_some (option_map f a) ≡ is_some a
still_some f (Some a) = refl
still_some f None = refl

-- a name of a scope is live
module _ (t : Formulas) (s : Scoping) (live : List ReadBinding) where
  pub entry_live : terms_shown t s ≡ terms_live live → (n : Name) → is_some (entry_of live n) ≡ is_some (find s.terms n)
  entry_live shown n = sym (both_some (meant_by t s.definitions) entry_meant (find s.terms n) (entry_of live n) (entry_found t s live shown n))

  pub sort_live : sorts_shown t s ≡ sorts_live live → (n : Name) → is_some (live_sorts live n) ≡ is_some (find s.sorts n)
  sort_live shown n = sym (ap is_some (sort_found t s live shown n)) ∙ still_some _ (find s.sorts n)
