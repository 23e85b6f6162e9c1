-- An operator is told by its term, and a row by its term with its operands.
use Rattle.std.proofs.Common.{◌≡◌, ℕ, ◌<◌, List, length, get_or, refl, ap, sym, ◌∙◌}
use Rattle.smt_terms.specs.declared.op.Op.{Op}
use Rattle.smt_terms.specs.declared.op.Op.TheVariants.{Sym, Forall, Exists, ConstArray}
use Rattle.smt_terms.specs.Sorts.{Sort, Symbol}
use Rattle.smt_terms.specs.Term.{universal, existential, op, symbol, const_array, Term}
use Rattle.smt_values.specs.SortIds.{sort_at, IsSortList}
use Rattle.smt_values.proofs.SortIds.{sort_one}
use Rattle.term_table.specs.Formulas.{no_symbol, Kind, theory, applied, filled, binder, kind, kind_term, IsKindOf}

-- ---- an operator is made of its kind again

operator : Kind → Op
operator (theory p) = p
operator (applied f) = Sym f
operator (filled s) = ConstArray s
operator (binder universal) = Forall
operator (binder existential) = Exists

operator-kind : (p : Op) → operator (kind p) ≡ p
unfolding operator kind
operator-kind (Sym f) = refl
operator-kind _ = refl

pub kind-one : (p q : Op) → kind p ≡ kind q → p ≡ q
kind-one p q e = sym (operator-kind p) ∙ ap operator e ∙ operator-kind q

pub kind-theory : (p q : Op) → kind p ≡ theory q → p ≡ q
unfolding operator
kind-theory p q e = sym (operator-kind p) ∙ ap operator e

-- ---- kinds of one term over the same operands

module _ (fs : List Symbol) (ss : List Sort) (table : IsSortList ss)
    (one : (i j : ℕ) → i < length fs → j < length fs → get_or fs i no_symbol ≡ get_or fs j no_symbol → i ≡ j) where
  pub kind_term-one : (k l : Kind) (ts : List Term) → IsKindOf fs ss k → IsKindOf fs ss l → kind_term fs ss k ts ≡ kind_term fs ss l ts → k ≡ l
  kind_term-one (theory p) (theory q) ts a b e = let same : op p ≡ op q = cc in cc
  kind_term-one (theory p) (applied g) ts a b e = let same : op p ≡ symbol (get_or fs g.0 no_symbol) = cc in absurd cc
  kind_term-one (theory p) (filled t) ts a b e = let same : op p ≡ const_array (sort_at ss t) = cc in absurd cc
  kind_term-one (theory p) (binder q) ts a b e = absurd cc
  kind_term-one (applied f) (theory q) ts a b e = let same : symbol (get_or fs f.0 no_symbol) ≡ op q = cc in absurd cc
  kind_term-one (applied f) (applied g) ts a b e =
      let same : symbol (get_or fs f.0 no_symbol) ≡ symbol (get_or fs g.0 no_symbol) = cc in
      let symbols : get_or fs f.0 no_symbol ≡ get_or fs g.0 no_symbol = cc in
      let number : f.0 ≡ g.0 = one f.0 g.0 a b symbols in
      λ i. applied (record { 0 = number i })
  kind_term-one (applied f) (filled t) ts a b e = let same : symbol (get_or fs f.0 no_symbol) ≡ const_array (sort_at ss t) = cc in absurd cc
  kind_term-one (applied f) (binder q) ts a b e = absurd cc
  kind_term-one (filled s) (theory q) ts a b e = let same : const_array (sort_at ss s) ≡ op q = cc in absurd cc
  kind_term-one (filled s) (applied g) ts a b e = let same : const_array (sort_at ss s) ≡ symbol (get_or fs g.0 no_symbol) = cc in absurd cc
  kind_term-one (filled s) (filled t) ts a b e =
      let same : const_array (sort_at ss s) ≡ const_array (sort_at ss t) = cc in
      let sorts : sort_at ss s ≡ sort_at ss t = cc in
      let number : s.0 ≡ t.0 = sort_one ss table s.0 t.0 a b sorts in
      λ i. filled (record { 0 = number i })
  kind_term-one (filled s) (binder q) ts a b e = absurd cc
  kind_term-one (binder p) (theory q) ts a b e = absurd cc
  kind_term-one (binder p) (applied g) ts a b e = absurd cc
  kind_term-one (binder p) (filled t) ts a b e = absurd cc
  kind_term-one (binder p) (binder q) ts a b e = let same : p ≡ q = cc in ap binder same
