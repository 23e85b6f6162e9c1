-- What is known between two commands stays regular when levels are opened and closed; and literals are regular.
use Rattle.std.proofs.Common.{◌≡◌, subst, refl, ℕ, zero, suc, Bool, true, false, cond, List, [], ◌∷◌, Option, Some, None, Ok}
use Rattle.std.specs.Prelude.{option_map, codes}
use Rattle.std.specs.List.{list_all}
use Rattle.smt_lex.specs.Names.{Name}
use Rattle.smt_lex.specs.Lex.{symbol_of}
use Rattle.smt_lex.specs.Forms.{Form, atom, node, Forms, none, ◌⨾◌}
use Rattle.smt_terms.specs.declared.op.Op.TheVariants.{Not}
use Rattle.smt_terms.specs.Connectives.{negated}
use Rattle.smt_terms.specs.Equal.{sort_eq}
use Rattle.smt_terms.specs.Rank.{is_sort, has_sorts, is_regular}
use Rattle.smt_terms.specs.Sorts.{Sort, bool, Symbol}
use Rattle.smt_terms.specs.Term.{op, symbol, Term, terms, none as no_terms, constant}
use Rattle.smt_terms.proofs.Tests.{and_true}
use Rattle.script_terms.specs.Parts.{symbol_in, is_name}
use Rattle.script_terms.specs.Reading.{ReadBinding, level_known, is_level_known, Entry, symbol_entry, definition_entry, term_entry, entry_of}
use Rattle.script_terms.specs.Refusals.{mapped}
use Rattle.script_terms.specs.Scope.{opened, closed, merged, flattened, popped, emptied}
use Rattle.script_read.specs.Script.{boolean_constant, constant_entry, declared_constant, literal}
use Rattle.script_terms.specs.SortForms.{Sorts, sort_in, parts_in, all_sorts, sorts_in}
use Rattle.script_terms.proofs.Outcomes.{and_then_ok, mapped_ok, ok_same}
use Rattle.script_read.proofs.RegularReads.{AllRegular, entry_regular}
use Rattle.script_read.proofs.RegularTerms.{symbol_regular, made_regular}
use Rattle.script_terms.proofs.SortFacts.{SortsFine, sort_fine}

-- ---- levels

pub regular_opened : (n : ℕ) (bs : List ReadBinding) → AllRegular bs → AllRegular (opened level_known n bs)
regular_opened zero bs all = all
regular_opened (suc n) bs all = (tt, regular_opened n bs all)

regular_closed : (n : ℕ) (bs : List ReadBinding) → AllRegular bs → AllRegular (closed is_level_known n bs)
regular_closed n [] all = tt
regular_closed zero (b ∷ bs) all = all
regular_closed (suc n) (level_known ∷ bs) all = regular_closed n bs all.1
regular_closed (suc n) (_ ∷ bs) all = regular_closed (suc n) bs all.1

regular_merged : (n : ℕ) (bs : List ReadBinding) → AllRegular bs → AllRegular (merged is_level_known n bs)
regular_merged n [] all = tt
regular_merged zero (b ∷ bs) all = all
regular_merged (suc n) (level_known ∷ bs) all = regular_merged n bs all.1
regular_merged (suc n) (b ∷ bs) all = (all.0, regular_merged (suc n) bs all.1)

regular_flattened : (bs : List ReadBinding) → AllRegular bs → AllRegular (flattened is_level_known bs)
regular_flattened [] all = tt
regular_flattened (level_known ∷ bs) all = regular_flattened bs all.1
regular_flattened (b ∷ bs) all = (all.0, regular_flattened bs all.1)

pub regular_popped : (global : Bool) (n : ℕ) (bs : List ReadBinding) → AllRegular bs → AllRegular (popped is_level_known global n bs)
regular_popped true n bs all = regular_merged n bs all
regular_popped false n bs all = regular_closed n bs all

pub regular_emptied : (global : Bool) (bs : List ReadBinding) → AllRegular bs → AllRegular (emptied is_level_known global bs)
regular_emptied true bs all = regular_flattened bs all
regular_emptied false bs all = tt

-- ---- sorts of arguments

pub sorts_fine : (gs : Forms) (live : Sorts) (rs : List Sort) → SortsFine live → sorts_in live gs ≡ Ok rs → list_all is_sort rs ≡ true
sorts_fine none live rs fine h = subst (λ qs. list_all is_sort qs ≡ true) (ok_same [] rs (Ok []) refl h) refl
sorts_fine (f ⨾ gs) live rs fine h =
    let (r, here, rest) = and_then_ok (λ r. mapped (λ qs. r ∷ qs) (all_sorts (parts_in live gs))) (sort_in live f) rs h in
    let (qs, others, all) = mapped_ok (λ qs. r ∷ qs) (all_sorts (parts_in live gs)) rs rest in
    subst (λ ps. list_all is_sort ps ≡ true) all (and_true (is_sort r) (list_all is_sort qs) (sort_fine f live r fine here) (sorts_fine gs live qs fine others))

-- ---- literals

module _ (live : List ReadBinding) (all : AllRegular live) where
  constant_regular : (f : Symbol) (args : List Sort) (t : Term) → has_sorts (symbol f) ≡ true → boolean_constant f args ≡ Some t → is_regular t ≡ true
  constant_regular f [] t fine h = go (sort_eq f.result bool) h
    where
      go : (b : Bool) → cond b (Some (constant f)) None ≡ Some t → is_regular t ≡ true
      go true e = let same : constant f ≡ t = cc in subst (λ u. is_regular u ≡ true) same (symbol_regular f no_terms fine refl)
      go false e = absurd cc
  constant_regular f (a ∷ args) t fine h = absurd cc

  entry_constant_regular : (n : Name) (o : Option Entry) (t : Term) → entry_of live n ≡ o → constant_entry o ≡ Some t → is_regular t ≡ true
  entry_constant_regular n (Some (symbol_entry f)) t entry h = constant_regular f f.args t (entry_regular live all n (symbol_entry f) entry) h
  entry_constant_regular n (Some (definition_entry xs u)) t entry h = absurd cc
  entry_constant_regular n (Some (term_entry u)) t entry h = absurd cc
  entry_constant_regular n None t entry h = absurd cc

  declared_regular : (o : Option Name) (t : Term) → declared_constant live o ≡ Some t → is_regular t ≡ true
  declared_regular None t h = absurd cc
  declared_regular (Some n) t h = entry_constant_regular n (entry_of live n) t refl h

  negated_regular : (t : Term) → is_regular t ≡ true → is_regular (negated t) ≡ true
  negated_regular t h = made_regular (op Not) (terms (t ∷ [])) refl (and_true (is_regular t) true h refl)

  negation_regular : (c : Form) (o : Option Term) (t : Term) → declared_constant live (symbol_in c) ≡ o → option_map negated o ≡ Some t → is_regular t ≡ true
  negation_regular c None t entry h = absurd cc
  negation_regular c (Some u) t entry h = let same : negated u ≡ t = cc in subst (λ v. is_regular v ≡ true) same (negated_regular u (declared_regular (symbol_in c) u entry))

  pub literal_regular : (f : Form) (t : Term) → literal live f ≡ Some t → is_regular t ≡ true
  literal_regular (atom k) t h = declared_regular (symbol_of k) t h
  literal_regular (node place (f ⨾ c ⨾ none)) t h = go (is_name (codes "not") (symbol_in f)) h
    where
      go : (b : Bool) → cond b (option_map negated (declared_constant live (symbol_in c))) None ≡ Some t → is_regular t ≡ true
      go true k = negation_regular c (declared_constant live (symbol_in c)) t refl k
      go false k = absurd cc
  literal_regular (node place _) t h = absurd cc
