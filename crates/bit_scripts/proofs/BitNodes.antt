-- What is read off the node of a bit of a constant.
use Rattle.std.proofs.Common.{◌≡◌, ◌∙◌, sym, ap, subst, refl, ℕ, List, [], ◌∷◌, get_or}
use Rattle.smt_terms.specs.declared.ids.NodeId.{NodeId}
use Rattle.smt_terms.specs.declared.ids.SymId.{SymId}
use Rattle.smt_terms.specs.declared.op.Op.{Op}
use Rattle.smt_terms.specs.declared.op.Op.TheVariants.{Sym, Extract}
use Rattle.smt_terms.specs.Constants.{bits_term}
use Rattle.smt_terms.specs.Sorts.{Symbol}
use Rattle.smt_terms.specs.Term.{op, symbol, Term, apply, Terms, none, ◌⨾◌, constant}
use Rattle.term_table.specs.Formulas.{Formulas, Kind, theory, applied, filled, binder, kind, kind_term, tree, trees_at, term_over, symbol_at, operands, IsOpOf, IsKindOf, IsSymbol}
use Rattle.term_table.proofs.Operators.{kind-one, kind-theory}
use Rattle.bit_blast.specs.Blasted.{bit_of}
use Rattle.bit_scripts.specs.Lifting.{HasBit, IsBitAt}

pub first_operand : (t : Formulas) (ks : List NodeId) (d : NodeId) (u : Term) (us : List Term) → trees_at t ks ≡ u ∷ us → tree t (get_or ks 0 d) ≡ u
first_operand t [] d u us e = absurd cc
first_operand t (k ∷ ks) d u us e = cc

pub theory_head : (t : Formulas) (p q : Op) (us : List Term) (ts : Terms) → term_over t p us ≡ apply (op q) ts → p ≡ q
theory_head t p q us ts e = go (kind p) refl e
  where
    go : (k : Kind) → kind p ≡ k → kind_term t.symbols t.sorts k us ≡ apply (op q) ts → p ≡ q
    go (theory r) is same = let heads : op r ≡ op q = cc in let ops : r ≡ q = cc in kind-theory p q (is ∙ ap theory ops)
    go (applied f) is same = absurd cc
    go (filled s) is same = absurd cc
    go (binder b) is same = absurd cc

-- an operator that applies a symbol
pub record IsApplied (t : Formulas) (p : Op) (g : Symbol) : Type 0 where
  pub number : SymId
  pub is : p ≡ Sym number
  pub within : IsSymbol t number
  pub symbol : symbol_at t number ≡ g

pub symbol_head : (t : Formulas) (p : Op) (g : Symbol) (us : List Term) (ts : Terms) → IsOpOf t p → term_over t p us ≡ apply (symbol g) ts → IsApplied t p g
unfolding kind
symbol_head t p g us ts of e = go (kind p) refl of e
  where
    go : (k : Kind) → kind p ≡ k → IsKindOf t.symbols t.sorts k → kind_term t.symbols t.sorts k us ≡ apply (symbol g) ts → IsApplied t p g
    go (theory r) is within same = absurd cc
    go (applied f) is within same =
        let heads : symbol (symbol_at t f) ≡ symbol g = cc in
        record { number = f; is = kind-one p (Sym f) is; within = within; symbol = cc }
    go (filled s) is within same = absurd cc
    go (binder b) is within same = absurd cc

-- ---- the node of a bit, its part and the part's constant

module _ (t : Formulas) (id : NodeId) (bit : HasBit (tree t id)) (ks js : List NodeId) (d : NodeId) (kids : trees_at t ks ≡ operands (tree t id)) where
  part_term : tree t (get_or ks 0 d) ≡ apply (op (Extract bit.place bit.place)) (constant bit.constant ⨾ none)
  part_term =
      first_operand t ks d (apply (op (Extract bit.place bit.place)) (constant bit.constant ⨾ none)) (bits_term 1 1 ∷ [])
      (kids ∙ ap operands bit.is)

  pub part_operator : (p : Op) → tree t (get_or ks 0 d) ≡ term_over t p (operands (tree t (get_or ks 0 d))) → p ≡ Extract bit.place bit.place
  part_operator p e = theory_head t p (Extract bit.place bit.place) (operands (tree t (get_or ks 0 d))) (constant bit.constant ⨾ none) (sym e ∙ part_term)

  module _ (kids_of_part : trees_at t js ≡ operands (tree t (get_or ks 0 d))) where
    variable_term : tree t (get_or js 0 d) ≡ constant bit.constant
    variable_term = first_operand t js d (constant bit.constant) [] (kids_of_part ∙ ap operands part_term)

    pub variable_operator : (p : Op) → IsOpOf t p → tree t (get_or js 0 d) ≡ term_over t p (operands (tree t (get_or js 0 d))) → IsApplied t p bit.constant
    variable_operator p of e = symbol_head t p bit.constant (operands (tree t (get_or js 0 d))) none of (sym e ∙ variable_term)

    pub bit_read : (p q : Op) (high low : ℕ) (f : SymId) → IsOpOf t q → tree t (get_or ks 0 d) ≡ term_over t p (operands (tree t (get_or ks 0 d)))
        → tree t (get_or js 0 d) ≡ term_over t q (operands (tree t (get_or js 0 d))) → p ≡ Extract high low → q ≡ Sym f → IsBitAt t id record { constant = f; place = low }
    bit_read p q high low f of first second cuts applies =
        let places : Extract high low ≡ Extract bit.place bit.place = sym cuts ∙ part_operator p first in
        let place : low ≡ bit.place = cc in
        let found = variable_operator q of second in
        let number : found.number ≡ f = let same : Sym found.number ≡ Sym f = sym found.is ∙ applies in cc in
        record {
          symbol = subst (IsSymbol t) number found.within;
          term = bit.is ∙ (λ i. bit_of (sym (ap (symbol_at t) (sym number) ∙ found.symbol) i) (sym place i));
        }
