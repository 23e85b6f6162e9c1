-- Fresh names for all variables of a quantified formula: the quantifier over the new ones, and the body over them.
use Rattle.std.proofs.Common.{◌≡◌, ◌≤◌, Bool, true, false, ◌⊎◌, inl, inr, List, [], ◌∷◌, map, Some, refl, ap, sym, ◌∙◌}
use Rattle.std.specs.Prelude.{⊤}
use Rattle.std.specs.List.{list_all}
use Rattle.smt_terms.specs.Sorts.{Name, Sort, bool, Symbol, Variable}
use Rattle.smt_terms.specs.Term.{Term, constant_of, variable}
use Rattle.smt_terms.specs.Equal.{name_eq}
use Rattle.smt_terms.specs.Free.{is_among, name_among, free}
use Rattle.smt_terms.specs.Rank.{has_name, are_bindable, is_sort, is_regular, sort_of}
use Rattle.smt_terms.specs.Values.{is_true}
use Rattle.smt_terms.specs.Models.{Model}
use Rattle.smt_terms.specs.Val.{Env, runs, val}
use Rattle.smt_terms.specs.Fresh.{Supply, next_name, after_draw, fresh_for, NeverGives}
use Rattle.smt_terms.specs.Subst.{Map, image, Renamed, bind, renaming, subst}
use Rattle.smt_terms.specs.SubstLaws.{under, HaveSorts, names_within, GivesNone, GivesNoImage, ReplacesConstants, LeftFree, stays, comes, Later}
use Rattle.smt_terms.proofs.Tests.{both_true, or_false, left_true, right_true}
use Rattle.smt_terms.proofs.Equal.{Decides-name_eq}
use Rattle.smt_terms.proofs.Fresh.{never-next, never-after}
use Rattle.smt_terms.proofs.Agree.{val_same}
use Rattle.smt_terms.proofs.Sorted.{IsQuantified, quantified_sort}
use Rattle.smt_terms.proofs.Renaming.{VariablesSpared, renaming-later, renaming-sorts, renaming-spared, renaming-bindable}
use Rattle.smt_terms.proofs.Runs.{KeysFree, SymbolsSpared, renaming-runs}
use Rattle.smt_terms.proofs.Substitution.{symbols-spared, variables-spared, subst-keeps_meaning, subst-gives_later}
use Rattle.smt_terms.proofs.SubstNames.{RenamedSpared, renaming-named, subst-spares_names}
use Rattle.smt_terms.proofs.SubstFree.{Source, before, bound, renaming-source, NoImage, renaming-none, renaming-constants, one-symbol, subst-leaves_free}
use Rattle.normal_forms.specs.Prenex.{Quantified, whole, quantifiers}
use Rattle.normal_forms.proofs.Clear.{Clear, to-without}
use Rattle.normal_forms.proofs.Inside.{in-left, in-right}
use Rattle.normal_forms.proofs.Substituted.{IsSubst, renamed-have, renamed-all, any_sort, all-any, Unquantified, variable-regular, subst-any, subst-is, subst-regular, subst-fewer, subst-clear}

abbrev pub names : List Variable → List Name
names xs = map (λ x. x.name) xs

-- the new variables, the map to them and the names behind them; the body over them and the names that are left
abbrev pub drawn : Quantified → Supply → Renamed
drawn f s = renaming (names f.variables) f.variables [] s

abbrev pub renamed_body : Quantified → Supply → Term × Supply
renamed_body f s = subst (drawn f s).map f.body (drawn f s).names

-- a name that isn't given is no new variable's, where all are drawn
captured-fresh : (c : List Name) (xs : List Variable) (f : Map) (s : Supply) → ((n : Name) → name_among (names xs) n ≡ true → name_among c n ≡ true) → (n : Name) → NeverGives s n → has_name n (names (renaming c xs f s).variables) ≡ false
captured-fresh c [] f s all n never = refl
captured-fresh c (x ∷ xs) f s all n never = go (name_among c x.name) refl (λ g t h. captured-fresh c xs g t (λ k among. all k (right_true (name_eq x.name k) (name_among (names xs) k) among)) n h)
  where
    differs : (b : Bool) → name_eq n (next_name s) ≡ b → b ≡ false
    differs true e = absurd (never-next s n never ((Decides-name_eq n (next_name s)).0 e))
    differs false e = refl

    kept : name_among c x.name ≡ false → ⊥
    kept e = let there : name_among c x.name ≡ true = all x.name (left_true (name_eq x.name x.name) (name_among (names xs) x.name) ((Decides-name_eq x.name x.name).1 refl)) in absurd cc

    go : (b : Bool) → name_among c x.name ≡ b → ((g : Map) (t : Supply) → NeverGives t n → has_name n (names (renaming c xs g t).variables) ≡ false) → has_name n (names (bind b x f s (λ g t. renaming c xs g t)).variables) ≡ false
    go true e below = or_false (name_eq n (next_name s)) (has_name n (names (renaming c xs ((constant_of x, variable (fresh_for x s)) ∷ f) (after_draw s)).variables)) (differs (name_eq n (next_name s)) refl) (below ((constant_of x, variable (fresh_for x s)) ∷ f) (after_draw s) (never-after s n never))
    go false e below = absurd (kept e)

keys-none : (c : List Name) (xs : List Variable) → KeysFree c [] xs
keys-none c [] = tt
keys-none c (x ∷ xs) = ((λ kept. refl), keys-none c xs)

-- of a quantified formula, where the supply gives none of its names
pub record Draws (f : Quantified) (s : Supply) : Type 0 where
  pub bindable : are_bindable (drawn f s).variables ≡ true
  pub sort : sort_of (renamed_body f s).0 ≡ Some bool
  pub runs : (m : Model) (e : Env) → runs f.quantifier (drawn f s).variables m.sizes (λ d. is_true (val m (renamed_body f s).0 d)) e ≡ is_true (val m (whole f) e)
  pub sorts : is_regular (whole f) ≡ true → list_all (λ y. is_sort y.sort) (drawn f s).variables ≡ true
  pub regular : is_regular (whole f) ≡ true → is_regular (renamed_body f s).0 ≡ true
  pub later : Later s (renamed_body f s).1
  pub variables : GivesNone (renamed_body f s).1 (names (drawn f s).variables)
  pub names : GivesNone (renamed_body f s).1 (names_within (renamed_body f s).0)
  pub fresh : (n : Name) → NeverGives s n → has_name n (map (λ y. y.name) (drawn f s).variables) ≡ false
  pub symbols : (g : Symbol) → is_among (free (renamed_body f s).0) g ≡ true → (is_among (free (whole f)) g ≡ true) ⊎ (is_among (map constant_of (drawn f s).variables) g ≡ true)
  pub clear : Clear (whole f) → Clear (renamed_body f s).0

no-image : {A : Type 0} (g : Symbol) (u : Term) → image [] g ≡ Some u → A
no-image g u found = absurd cc

pub renamed-fewer : (f : Quantified) (s : Supply) → quantifiers (renamed_body f s).0 ≤ quantifiers f.body
renamed-fewer f s =
    subst-fewer ⊥ f.body (drawn f s).map (renamed_body f s).0 (subst-any (drawn f s).map f.body (drawn f s).names)
    (renamed-have Unquantified any_sort (λ y e. refl) (names f.variables) f.variables [] s (all-any f.variables) (λ g u found. no-image g u found))

pub draws : (f : Quantified) (s : Supply) (sort : Sort) → sort_of (whole f) ≡ Some sort → GivesNone s (names_within (whole f)) → Draws f s
draws f s sort has given = record {
  bindable = renaming-bindable c xs [] s parts.bindable variables;
  sort = told.0;
  runs = λ m e.
      ap (λ (A : Env → Bool). runs f.quantifier (drawn f s).variables m.sizes A e) (λ i d. is_true (told.1 m d i))
      ∙ renaming-runs c xs [] s f.quantifier m.sizes m (free f.body) (λ d. is_true (val m f.body d)) (λ d k same. ap is_true (val_same f.body m d k same)) e e
      (λ g u found. no-image g u found) (keys-none c xs) variables (λ g u found. no-image g u found) symbols (λ g among. refl);
  sorts = λ regular. renamed-all is_sort c xs [] s ∙ (both_true (list_all (λ y. is_sort y.sort) xs) (is_regular f.body) regular).0;
  regular = λ regular.
      let rules = both_true (list_all (λ y. is_sort y.sort) xs) (is_regular f.body) regular in
      subst-regular ⊤ f.body (drawn f s).map (renamed_body f s).0 made rules.1 (renamed-have (λ t. is_regular t ≡ true) is_sort variable-regular c xs [] s rules.0 (λ g u found. no-image g u found));
  later = λ n never. rest n (later n never);
  variables = λ n among. rest n (spared.variables n among);
  names = subst-spares_names (drawn f s).map f.body (drawn f s).names body spared.images;
  fresh = captured-fresh c xs [] s (λ n among. among);
  symbols = λ g among. left g (subst-leaves_free (drawn f s).map f.body (drawn f s).names bool parts.body constants g among);
  clear = λ clear. subst-clear f.body (drawn f s).map (renamed_body f s).0 bool parts.body made clear.1 (renamed-have Clear any_sort (λ y e. tt) c xs [] s (all-any xs) (λ g u found. no-image g u found));
}
  where
    xs : List Variable
    xs = f.variables

    c : List Name
    c = names f.variables

    parts : IsQuantified f.variables f.body sort
    parts = quantified_sort f.quantifier f.variables f.body sort has

    variables : VariablesSpared s f.variables
    variables = variables-spared s f.variables (λ n among. given n (in-left (names f.variables) (names_within f.body) n among))

    symbols : SymbolsSpared s (free f.body)
    symbols = symbols-spared s f.body (λ n among. given n (in-right (names f.variables) (names_within f.body) n among))

    later : Later s (renaming (names f.variables) f.variables [] s).names
    later = renaming-later (names f.variables) f.variables [] s

    body : GivesNone (drawn f s).names (names_within f.body)
    body n among = later n (given n (in-right (names f.variables) (names_within f.body) n among))

    images : GivesNoImage (drawn f s).names (drawn f s).map
    images = renaming-spared (names f.variables) f.variables [] s (λ g u found. no-image g u found)

    sorts : HaveSorts (drawn f s).map
    sorts = renaming-sorts (names f.variables) f.variables [] s (λ g u found. no-image g u found)

    constants : ReplacesConstants (drawn f s).map
    constants = renaming-constants (names f.variables) f.variables [] s (λ g u found. no-image g u found)

    spared : RenamedSpared (drawn f s)
    spared = renaming-named (names f.variables) f.variables [] s (λ n among. given n (in-left (names f.variables) (names_within f.body) n among)) (λ g u found. no-image g u found)

    told : (sort_of (renamed_body f s).0 ≡ Some bool) × ((m : Model) (e : Env) → val m (renamed_body f s).0 e ≡ val m f.body (under m (drawn f s).map e))
    told = subst-keeps_meaning (drawn f s).map f.body (drawn f s).names sorts images body bool parts.body

    rest : Later (drawn f s).names (renamed_body f s).1
    rest = subst-gives_later (drawn f s).map f.body (drawn f s).names sorts images body

    made : IsSubst ⊤ (drawn f s).map f.body (renamed_body f s).0
    made = subst-is (drawn f s).map f.body (drawn f s).names constants images body

    left : (g : Symbol) → LeftFree (drawn f s).map (free f.body) g → (is_among (free (whole f)) g ≡ true) ⊎ (is_among (map constant_of (drawn f s).variables) g ≡ true)
    left g (stays among none_) = go (is_among (map constant_of f.variables) g) refl
      where
        out : NoImage [] f.variables (drawn f s).variables g
        out = renaming-none (names f.variables) f.variables [] s g none_

        go : (b : Bool) → is_among (map constant_of f.variables) g ≡ b → (is_among (free (whole f)) g ≡ true) ⊎ (is_among (map constant_of (drawn f s).variables) g ≡ true)
        go true e = inr (out.still e)
        go false e = inl (to-without f.variables (free f.body) g among e)
    left g (comes h u among found there) = from (renaming-source (names f.variables) f.variables [] s h u found)
      where
        from : Source [] (drawn f s).variables h u → (is_among (free (whole f)) g ≡ true) ⊎ (is_among (map constant_of (drawn f s).variables) g ≡ true)
        from (before e) = no-image h u e
        from (bound y e inside) =
            let same : constant_of y ≡ g = one-symbol (constant_of y) g (ap (λ t. is_among (free t) g) (sym e) ∙ there) in
            inr (ap (is_among (map constant_of (drawn f s).variables)) (sym same) ∙ inside)
