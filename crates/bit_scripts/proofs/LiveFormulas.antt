-- Assertions and literals that may stand in a script: they are well-sorted formulas over live symbols.
use Rattle.std.proofs.Common.{◌≡◌, ◌∙◌, sym, ap, refl, subst, ℕ, suc, eqb, Bool, true, false, not, ◌&&◌, ◌⊎◌, inl, inr, List, [], ◌∷◌, length, Option, Some, None, All, arith}
use Rattle.std.specs.Prelude.{is_some, flat_map}
use Rattle.std.specs.List.{list_all}
use Rattle.std.proofs.lemmas.Bool.{ne_eqb}
use Rattle.std.proofs.lemmas.List.Elements.{All-nil, All-cons}
use Rattle.smt_terms.specs.declared.op.Op.TheVariants.{Not}
use Rattle.smt_terms.specs.Equal.{symbol_eq}
use Rattle.smt_terms.specs.Free.{is_among, free, free_of}
use Rattle.smt_terms.specs.Fresh.{Supply}
use Rattle.smt_terms.specs.Rank.{rank, with_sort, sort_over, sort_of, is_regular, is_minus, is_minus_of, is_well_sorted, IsWellSorted}
use Rattle.smt_terms.specs.Shapes.{is_bool, is_clear}
use Rattle.smt_terms.specs.Sorts.{Name, Sort, bool, Symbol}
use Rattle.smt_terms.specs.SubstLaws.{names_within, GivesNone}
use Rattle.smt_terms.specs.Term.{op, symbol, const_array, Term, apply, quantified, none, ◌⨾◌, constant}
use Rattle.smt_terms.proofs.Among.{is_among-with_more}
use Rattle.smt_terms.proofs.Equal.{Decides-sort_eq, Decides-symbol_eq}
use Rattle.smt_terms.proofs.Keeping.{not_minus}
use Rattle.smt_terms.proofs.Substitution.{gives-left, gives-right}
use Rattle.smt_terms.proofs.Tests.{both_true, and_true, either_true}
use Rattle.script_terms.specs.Read.{is_of_sort, has_sort}
use Rattle.script_read.specs.Commands.{State, assert, sorts_of_state, symbols_of_state}
use Rattle.script_read.specs.Printable.{sort_is_live, all_within, is_usable, symbols_are_live, is_printable_term, is_live_constant, is_live_literal, may_stand}
use Rattle.bit_scripts.proofs.DistinctNames.{among_one}

-- a well-sorted formula over these symbols, none of whose names the supply gives
pub record IsLiveFormula (s : Supply) (fs : List Symbol) (t : Term) : Type 0 where
  pub sort : sort_of t ≡ Some bool
  pub sorted : IsWellSorted t
  pub names : GivesNone s (names_within t)
  pub free : (f : Symbol) → is_among (free t) f ≡ true → is_among fs f ≡ true

pub with_more_live : (s : Supply) (fs gs : List Symbol) → ((f : Symbol) → is_among fs f ≡ true → is_among gs f ≡ true) → (t : Term) → IsLiveFormula s fs t → IsLiveFormula s gs t
with_more_live s fs gs more t formula = record { sort = formula.sort; sorted = formula.sorted; names = formula.names; free = λ f among. more f (formula.free f among) }

-- ---- assertions

of_each : (test : Symbol → Bool) (fs : List Symbol) (g : Symbol) → list_all test fs ≡ true → is_among fs g ≡ true → test g ≡ true
of_each test [] g all among = absurd cc
of_each test (f ∷ fs) g all among =
    let parts = both_true (test f) (list_all test fs) all in
    elim (either_true (symbol_eq f g) (is_among fs g) among) [
      | inl here ↦ subst (λ h. test h ≡ true) ((Decides-symbol_eq f g).0 here) parts.0
      | inr there ↦ of_each test fs g parts.1 there
    ]

sort_is_bool : (o : Option Sort) → is_of_sort bool o ≡ true → o ≡ Some bool
sort_is_bool None e = absurd cc
sort_is_bool (Some s) e = ap Some ((Decides-sort_eq s bool).0 e)

pub assertion_live : (s : Supply) (begun : Bool) (st : State Term) (i : ℕ) (t : Term) → may_stand begun st (assert i t) ≡ true → GivesNone s (names_within t) → IsLiveFormula s (symbols_of_state st) t
assertion_live s begun st i t h names =
    let a = both_true (has_sort bool t) (is_printable_term st t) h in
    let b = both_true (is_well_sorted t) (is_clear t && (symbols_are_live st t && all_within (sort_is_live (sorts_of_state st)) is_usable t)) a.1 in
    let c = both_true (is_clear t) (symbols_are_live st t && all_within (sort_is_live (sorts_of_state st)) is_usable t) b.1 in
    let d = both_true (symbols_are_live st t) (all_within (sort_is_live (sorts_of_state st)) is_usable t) c.1 in
    record {
      sort = sort_is_bool (sort_of t) a.0;
      sorted = b.0;
      names = names;
      free = λ f among. of_each (λ g. is_among (symbols_of_state st) g) (free t) f d.0 among;
    }

-- ---- literals

record IsFormula (fs : List Symbol) (t : Term) : Type 0 where
  sort : sort_of t ≡ Some bool
  regular : is_regular t ≡ true
  free : (f : Symbol) → is_among (free t) f ≡ true → is_among fs f ≡ true

bool_sort : (s : Sort) → is_bool s ≡ true → s ≡ bool
bool_sort bool h = refl
bool_sort _ h = absurd cc

no_arguments : (ss : List Sort) → eqb (length ss) 0 ≡ true → ss ≡ []
no_arguments [] h = refl
no_arguments (s ∷ ss) h = let more : eqb (suc (length ss)) 0 ≡ false = ne_eqb (suc (length ss)) 0 (λ same. omega (arith, same)) in absurd cc

flag : Name → Symbol
flag n = record { name = n; args = []; result = bool }

flag_sort : (n : Name) → sort_of (constant (flag n)) ≡ Some bool
unfolding rank flag
flag_sort n = refl

flag_regular : (n : Name) → is_regular (constant (flag n)) ≡ true
unfolding is_minus_of flag
flag_regular n = refl

only_symbol : (f g : Symbol) → is_among (free (constant f)) g ≡ true → f ≡ g
only_symbol f g among = among_one f g among

constant_formula : (st : State Term) (t : Term) → is_live_constant st t ≡ true → IsFormula (symbols_of_state st) t
unfolding flag
constant_formula st (apply (symbol f) none) h =
    let parts = both_true (is_bool f.result) (eqb (length f.args) 0 && is_among (symbols_of_state st) f) h in
    let rest = both_true (eqb (length f.args) 0) (is_among (symbols_of_state st) f) parts.1 in
    let same : flag f.name ≡ f = λ i. record { name = f.name; args = sym (no_arguments f.args rest.0) i; result = sym (bool_sort f.result parts.0) i } in
    record {
      sort = subst (λ g. sort_of (constant g) ≡ Some bool) same (flag_sort f.name);
      regular = subst (λ g. is_regular (constant g) ≡ true) same (flag_regular f.name);
      free = λ g among. subst (λ k. is_among (symbols_of_state st) k ≡ true) (only_symbol f g among) rest.1;
    }
constant_formula st (apply (symbol f) (u ⨾ us)) h = absurd cc
constant_formula st (apply (op o) us) h = absurd cc
constant_formula st (apply (const_array a) us) h = absurd cc
constant_formula st (quantified q xs u) h = absurd cc

negation_formula : (fs : List Symbol) (t : Term) → IsFormula fs t → IsFormula fs (apply (op Not) (t ⨾ none))
unfolding rank is_minus
negation_formula fs t formula = record {
  sort = ap (λ o. sort_over (op Not) (with_sort o (Some []))) formula.sort;
  regular = and_true (not (is_minus_of (op Not) (t ⨾ none))) (is_regular t && true) (ap not (not_minus Not (t ⨾ none) refl)) (and_true (is_regular t) true formula.regular refl);
  free = λ f among. formula.free f (inside f (either_true (is_among (free t) f) false (sym (is_among-with_more (free t) [] f) ∙ sym (is_among-with_more [] (free_of (t ⨾ none)) f) ∙ among)));
}
  where
    inside : (f : Symbol) → (is_among (free t) f ≡ true) ⊎ (false ≡ true) → is_among (free t) f ≡ true
    inside f (inl here) = here
    inside f (inr never) = absurd cc

literal_formula : (st : State Term) (t : Term) → is_live_literal st t ≡ true → IsFormula (symbols_of_state st) t
literal_formula st (apply (op Not) (u ⨾ none)) h = negation_formula (symbols_of_state st) u (constant_formula st u h)
literal_formula st u h = constant_formula st u h

literal_live : (s : Supply) (st : State Term) (t : Term) → is_live_literal st t ≡ true → GivesNone s (names_within t) → IsLiveFormula s (symbols_of_state st) t
literal_live s st t h names =
    let formula : IsFormula (symbols_of_state st) t = literal_formula st t h in
    record { sort = formula.sort; sorted = and_true (is_some (sort_of t)) (is_regular t) (ap is_some formula.sort) formula.regular; names = names; free = formula.free }

pub literals_live : (s : Supply) (st : State Term) (ls : List Term) → list_all (is_live_literal st) ls ≡ true → GivesNone s (flat_map names_within ls) → All (IsLiveFormula s (symbols_of_state st)) ls
literals_live s st [] all names = All-nil (IsLiveFormula s (symbols_of_state st))
literals_live s st (l ∷ ls) all names =
    let parts = both_true (is_live_literal st l) (list_all (is_live_literal st) ls) all in
    All-cons (IsLiveFormula s (symbols_of_state st)) l ls
    (literal_live s st l parts.0 (gives-left s (names_within l) (flat_map names_within ls) names))
    (literals_live s st ls parts.1 (gives-right s (names_within l) (flat_map names_within ls) names))
