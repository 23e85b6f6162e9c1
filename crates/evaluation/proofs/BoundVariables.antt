-- Variables that are bound: the nodes of their constants, and their values.
use Rattle.std.proofs.Common.{◌≡◌, ℕ, ◌-◌, ◌^◌, ◌<◌, ◌≤◌, ◌==◌, inl, inr, Bool, true, false, length, Some, refl, ap, sym, ◌∙◌, arith}
use Rattle.std.proofs.lemmas.Bool.Decides.{Decides-eqb}
use Rattle.smt_terms.specs.declared.ids.NodeId.{NodeId}
use Rattle.smt_terms.specs.declared.ids.SortId.{SortId}
use Rattle.smt_terms.specs.declared.ids.SymId.{SymId}
use Rattle.smt_terms.specs.declared.op.Op.TheVariants.{Sym}
use Rattle.smt_terms.specs.BitVectors.{nat2bv}
use Rattle.smt_terms.specs.Models.{Model}
use Rattle.smt_terms.specs.Rank.{sort_of}
use Rattle.smt_terms.specs.Sorts.{bool, bit_vector, Symbol, Variable}
use Rattle.smt_terms.specs.Term.{op, symbol, const_array, Term, apply, quantified, none, ◌⨾◌, constant_of}
use Rattle.smt_terms.specs.Val.{Env, val}
use Rattle.smt_terms.specs.Values.{truth, bits, is_value}
use Rattle.smt_terms.proofs.BitLengths.{length-nat2bv}
use Rattle.smt_values.specs.SortIds.{sort_at, IsSortId, IsSortList}
use Rattle.smt_values.specs.declared.scalar.Scalar.TheVariants.{Truth, Bits}
use Rattle.term_table.specs.Formulas.{Formulas, kind, tree, term_over, operands, symbol_at, variable_of, IsSymbol, IsOpOf}
use Rattle.term_walk.specs.Binders.{is_quantified}
use Rattle.quantifier_forms.proofs.Stands.{same-number, number-same}
use Rattle.evaluation.specs.Bindings.{IsBinding}
use Rattle.evaluation.specs.Choices.{IsVariable}
use Rattle.evaluation.specs.Operated.{applied_at, operand_values}
use Rattle.evaluation.proofs.SortNumbers.{variable-sort, variable-number}

-- a term with operands is no variable
pub with-operands : (m : Model) (u : Term) (e : Env) → is_quantified u ≡ false → 0 < length (operands u) → val m u e ≡ applied_at m u (operand_values m e u)
with-operands m (apply h none) e applied some = absurd (omega (arith, some))
with-operands m (apply (op o) (t ⨾ ts)) e applied some = refl
with-operands m (apply (symbol f) (t ⨾ ts)) e applied some = refl
with-operands m (apply (const_array s) (t ⨾ ts)) e applied some = refl
with-operands m (quantified q xs b) e applied some = absurd cc

-- the symbol of a variable's node
module _ (t : Formulas) (k : NodeId) (f : SymId) where
  pub symbol-of : IsVariable t k → tree t k ≡ term_over t (Sym f) (operands (tree t k)) → symbol_at t f ≡ constant_of (variable_of (tree t k))
  unfolding kind
  symbol-of v term = let one = sym term ∙ v.constant_is in cc

  pub symbol-within : IsOpOf t (Sym f) → IsSymbol t f
  unfolding kind
  symbol-within numbers = numbers

-- the sort of a variable, by its number
module _ (t : Formulas) (k : NodeId) (sorts : IsSortList t.sorts) (v : IsVariable t k) (n : SortId) (within : IsSortId t.sorts n) (is : sort_of (tree t k) ≡ Some (sort_at t.sorts n)) where
  pub first-sort : (n.0 == 0) ≡ true → (variable_of (tree t k)).sort ≡ bool
  first-sort e = elim (variable-number t k sorts v n within is) [
    | inl first ↦ sym (variable-sort t k v (sort_at t.sorts n) is) ∙ first.1
    | inr word ↦ (let low = word.0 in let none_there = same-number n.0 0 e in absurd (omega arith))
  ]

  pub word-sort : (n.0 == 0) ≡ false → (2 ≤ n.0) × (n.0 < 130) × ((variable_of (tree t k)).sort ≡ bit_vector (n.0 - 1))
  word-sort e = elim (variable-number t k sorts v n within is) [
    | inl first ↦ (let yes = number-same n.0 0 first.0 in absurd cc)
    | inr word ↦ (word.0, word.1, sym (variable-sort t k v (sort_at t.sorts n) is) ∙ word.2)
  ]

-- a variable's symbol with a value of its sort
module _ (t : Formulas) (f : SymId) (x : Variable) (here : IsSymbol t f) (is : symbol_at t f ≡ constant_of x) where
  pub truth-binding : (b : Bool) → x.sort ≡ bool → IsBinding t (record { symbol = f; value = Truth b })
  truth-binding b sort = record {
    symbol = here;
    scalar = tt;
    valid = λ sizes. ap (λ (g : Symbol). is_value g.result sizes (truth b)) is ∙ ap (λ s. is_value s sizes (truth b)) sort;
  }

  pub bits-binding : (w n : ℕ) → x.sort ≡ bit_vector w → 1 ≤ w → w ≤ 128 → n < 2 ^ w → IsBinding t (record { symbol = f; value = Bits w n })
  bits-binding w n sort low high fits = record {
    symbol = here;
    scalar = (low, high, fits);
    valid = λ sizes.
        ap (λ (g : Symbol). is_value g.result sizes (bits (nat2bv w n))) is
        ∙ ap (λ s. is_value s sizes (bits (nat2bv w n))) sort
        ∙ (Decides-eqb (length (nat2bv w n)) w).1 (length-nat2bv w n);
  }
