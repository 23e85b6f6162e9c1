-- Which nodes are an `ite` over terms.
use Rattle.std.proofs.Common.{◌≡◌, ◌↔◌, Bool, true, false, not, ◌&&◌, List, [], ◌∷◌, Some, refl, ap, sym, ◌∙◌}
use Rattle.std.specs.Prelude.{IsTrue, is_some}
use Rattle.smt_terms.specs.declared.op.Op.{Op}
use Rattle.smt_terms.specs.declared.op.Op.TheVariants.{Ite}
use Rattle.smt_terms.specs.Connectives.{operator_kind, where_branch_bool, conditional, kind_of}
use Rattle.smt_terms.specs.Rank.{shape, sort_of, sorts_of, is_regular, IsWellSorted}
use Rattle.smt_terms.specs.Shapes.{is_ite_operator, is_atom_kind, is_term_ite, is_bool}
use Rattle.smt_terms.specs.Sorts.{Sort, bool}
use Rattle.smt_terms.specs.Term.{op, Term, apply, Terms, over, terms}
use Rattle.smt_terms.proofs.Keeping.{the_sort}
use Rattle.smt_terms.proofs.Ranked.{rank-takes}
use Rattle.smt_terms.proofs.Sorted.{applied}
use Rattle.smt_terms.proofs.Tests.{both_true}
use Rattle.term_table.specs.Formulas.{Formulas, Kind, theory, applied as applied_kind, filled, binder, kind, kind_term, term_over}
use Rattle.term_table.proofs.Operators.{kind-theory}
use Rattle.ite_free.specs.Removing.{is_choice}

-- ---- an `ite`

branch-kind : (s : Sort) → is_atom_kind (where_branch_bool (Some (bool ∷ s ∷ s ∷ [])) conditional) ≡ not (is_bool s)
branch-kind bool = refl
branch-kind _ = refl

bool-told : (s : Sort) → is_bool s ≡ true → s ≡ bool
bool-told bool e = refl
bool-told _ e = absurd cc

told-bool : (b : Bool) (u : Term) (s : Sort) → sort_of u ≡ Some s → (IsTrue b ↔ (sort_of u ≡ Some bool)) → b ≡ is_bool s
told-bool true u s has told =
    let is : Some s ≡ Some bool = sym has ∙ told.0 refl in
    let same : s ≡ bool = cc in
    sym (ap is_bool same)
told-bool false u s has told = by (is_bool s) refl
  where
    by : (b : Bool) → is_bool s ≡ b → false ≡ b
    by true e = told.1 (has ∙ ap Some (bool-told s e))
    by false e = refl

ite-operands : (ts : Terms) (s : Sort) → sort_of (apply (op Ite) ts) ≡ Some s → sorts_of ts ≡ Some (bool ∷ s ∷ s ∷ [])
unfolding shape
ite-operands ts s has =
    let over = applied (op Ite) ts s has in
    let takes = rank-takes (op Ite) over.sorts s over.rank in
    over.operands ∙ ap Some takes.1 ∙ ap (λ r. Some (bool ∷ r ∷ r ∷ [])) (sym takes.2)

ite-kind : (ts : Terms) (s : Sort) → sort_of (apply (op Ite) ts) ≡ Some s → is_term_ite (op Ite) ts ≡ not (is_bool s)
unfolding is_ite_operator operator_kind
ite-kind ts s has = ap (λ ss. is_atom_kind (where_branch_bool ss conditional)) (ite-operands ts s has) ∙ branch-kind s

pub ite-choice : (u : Term) (us : List Term) (b : Bool) → IsWellSorted u → u ≡ over (op Ite) us → (IsTrue b ↔ (sort_of u ≡ Some bool)) → not b ≡ is_choice u
ite-choice u us b fine same told =
    let found = the_sort (sort_of u) (both_true (is_some (sort_of u)) (is_regular u) fine).0 in
    ap not (told-bool b u found.0 found.1 told)
    ∙ sym (ite-kind (terms us) found.0 (ap sort_of (sym same) ∙ found.1))
    ∙ ap is_choice (sym same)

-- ---- other operators

other-operator : (p : Op) → (p ≡ Ite → ⊥) → is_ite_operator p ≡ false
unfolding is_ite_operator
other-operator Ite other = absurd (other refl)
other-operator _ other = refl

pub other-choice : (t : Formulas) (u : Term) (p : Op) (us : List Term) → (p ≡ Ite → ⊥) → u ≡ term_over t p us → false ≡ is_choice u
other-choice t u p us other same = sym (ap is_choice same ∙ by (kind p) refl)
  where
    by : (k : Kind) → kind p ≡ k → is_choice (kind_term t.symbols t.sorts (kind p) us) ≡ false
    by (theory q) e =
        ap (λ k. is_choice (kind_term t.symbols t.sorts k us)) e
        ∙ ap (λ r. is_ite_operator r && is_atom_kind (kind_of (op r) (terms us))) (sym (kind-theory p q e))
        ∙ ap (λ b. b && is_atom_kind (kind_of (op p) (terms us))) (other-operator p other)
    by (applied_kind f) e = ap (λ k. is_choice (kind_term t.symbols t.sorts k us)) e
    by (filled s) e = ap (λ k. is_choice (kind_term t.symbols t.sorts k us)) e
    by (binder q) e = ap (λ k. is_choice (kind_term t.symbols t.sorts k us)) e
