-- A node of an operator, by what is kept of its operands.
use Rattle.std.proofs.Common.{◌≡◌, ℕ, zero, suc, ◌<◌, true, false, List, [], ◌∷◌, map, length, get_or, All, Option, Some, unwrap_or, refl, ap, sym, ◌∙◌, subst, arith}
use Rattle.std.proofs.lemmas.List.{length-map, get_or-map}
use Rattle.std.proofs.lemmas.List.Elements.{All-head, All-tail, All-cons}
use Rattle.smt_terms.specs.declared.ids.NodeId.{NodeId}
use Rattle.smt_terms.specs.declared.ids.SymId.{SymId}
use Rattle.smt_terms.specs.declared.op.Op.{Op}
use Rattle.smt_terms.specs.declared.op.Op.TheVariants.{Sym, Forall, Exists, ConstArray}
use Rattle.smt_terms.specs.Equal.{term_eq}
use Rattle.smt_terms.specs.Groups.{Named, has_term}
use Rattle.smt_terms.specs.Rank.{sort_of, sorts_of, IsWellSorted}
use Rattle.smt_terms.specs.Sorts.{Sort, bool, int, bit_vector, array, free_sort, Symbol}
use Rattle.smt_terms.specs.Term.{op, symbol, Term, apply, Terms, none, ◌⨾◌, terms}
use Rattle.smt_terms.proofs.Equal.{Decides-term_eq}
use Rattle.smt_terms.proofs.Ranked.{rank-takes}
use Rattle.smt_terms.proofs.Sorted.{applied, sorted}
use Rattle.smt_terms.proofs.Tests.{both_true, left_true, right_true}
use Rattle.smt_values.specs.SortIds.{sort_at}
use Rattle.term_table.specs.Formulas.{Formulas, tree, tree_in, trees_at, symbol_at, kind, term_over, operands, sort_or_bool, sorts_in, IsNode, AreNodes, IsTable}
use Rattle.normal_forms.specs.Nodes.{IsFormula}
use Rattle.bit_blast.specs.Blasted.{is_bits_sort, is_bits_head, is_bits, are_bits, is_vector, term_gates, symbol_bits, bits, bits_each}
use Rattle.bit_blast.specs.Circuits.{circuit}
use Rattle.bit_blast.specs.KeptBits.{Lists, HasBits, HaveBits, IsNoVector}
use Rattle.bit_blast.specs.OperandBits.{nodes_of, HasNodes, operand_bits, widths, TakesBits}
use Rattle.bit_blast.proofs.BitTerms.{of-bits, no-array}
use Rattle.bit_blast.proofs.BitWidths.{bits_fit}
use Rattle.bit_blast.proofs.CircuitStatements.{bits_in, Fit, fit_none, fit_more}
use Rattle.bit_blast.proofs.OperandsFit.{takes-bits}

-- ---- a symbol

-- a symbol that is no bit vector is a truth value, whose bit is the symbol itself
pub record IsFlag (ns : Named) (u : Term) : Type 0 where
  pub bits : bits ns u ≡ u ∷ []
  pub sort : sort_of u ≡ Some bool

no-operands : (ts : Terms) → sorts_of ts ≡ Some [] → ts ≡ none
no-operands none e = refl
no-operands (t ⨾ ts) e = let parts = sorted t ts [] e in let all : [] ≡ parts.sort ∷ parts.sorts = parts.all in absurd cc

no-arguments : (f : Symbol) → is_bits_head (symbol f) ≡ true → f.args ≡ []
no-arguments f h = by f.args h
  where
    by : (ss : List Sort) → is_bits_head (symbol (record { name = []; args = ss; result = bool })) ≡ true → ss ≡ []
    by [] h = refl
    by (s ∷ ss) h = absurd cc

truth-result : (f : Symbol) → is_vector f ≡ false → is_bits_sort (Some f.result) ≡ true → f.result ≡ bool
truth-result f h fine = by f.result h fine
  where
    by : (s : Sort) → is_vector (record { name = []; args = []; result = s }) ≡ false → is_bits_sort (Some s) ≡ true → s ≡ bool
    by bool h fine = refl
    by int h fine = absurd cc
    by (bit_vector w) h fine = absurd cc
    by (array i e) h fine = absurd cc
    by (free_sort n) h fine = absurd cc

symbol-flag : (ns : Named) (f : Symbol) (ts : Terms) → is_bits (apply (symbol f) ts) ≡ true → is_vector f ≡ false → IsFlag ns (apply (symbol f) ts)
symbol-flag ns f ts e scalar =
    let of = of-bits (symbol f) ts e in
    let a = applied (symbol f) ts of.sort of.has in
    let takes = rank-takes (symbol f) a.sorts of.sort a.rank in
    let empty : ts ≡ none = no-operands ts (a.operands ∙ ap (λ ss. Some ss) (takes.0 ∙ no-arguments f of.head)) in
    let result : f.result ≡ bool = truth-result f scalar (subst (λ s. is_bits_sort (Some s) ≡ true) takes.1 of.fine) in
    record {
      bits = ap (symbol_bits ns f) result ∙ ap (λ us. apply (symbol f) us ∷ []) (sym empty);
      sort = of.has ∙ ap (λ s. Some s) (takes.1 ∙ result);
    }

pub symbol-node : (ns : Named) (t : Formulas) (f : SymId) (u : Term) → u ≡ term_over t (Sym f) (operands u) → is_bits u ≡ true → IsNoVector u → IsFlag ns u
unfolding kind
symbol-node ns t f u e vectors scalar =
    let seen = apply (symbol (symbol_at t f)) (terms (operands u)) in
    subst (IsFlag ns) (sym e) (symbol-flag ns (symbol_at t f) (terms (operands u)) (subst (λ v. is_bits v ≡ true) e vectors) (subst IsNoVector e scalar))

-- ---- an operator

pub operator-term : (t : Formulas) (o : Op) (u : Term) → u ≡ term_over t o (operands u) → is_bits u ≡ true → ((f : SymId) → o ≡ Sym f → ⊥) → u ≡ apply (op o) (terms (operands u))
unfolding kind
operator-term t (Sym f) u e vectors other = absurd (other f refl)
operator-term t (ConstArray s) u e vectors other = absurd (no-array (sort_at t.sorts s) (terms (operands u)) (subst (λ v. is_bits v ≡ true) e vectors))
operator-term t Forall u e vectors other = let wrong : false ≡ true = subst (λ v. is_bits v ≡ true) e vectors in absurd cc
operator-term t Exists u e vectors other = let wrong : false ≡ true = subst (λ v. is_bits v ≡ true) e vectors in absurd cc
operator-term t _ u e vectors other = e

-- ---- its operands

pub sorts-in : (us : List Term) (ss : List Sort) → sorts_of (terms us) ≡ Some ss → sorts_in us ≡ ss
sorts-in [] ss e = let empty : [] ≡ ss = cc in empty
sorts-in (u ∷ us) ss e =
    let parts = sorted u (terms us) ss e in
    let first : sort_of u ≡ Some parts.sort = parts.first in
    let others : sorts_in us ≡ parts.sorts = sorts-in us parts.sorts parts.others in
    (λ i. sort_or_bool (first i) ∷ others i) ∙ sym parts.all

has-term : (us : List Term) (i : ℕ) (d : Term) → i < length us → has_term us (get_or us i d) ≡ true
has-term [] i d lt = absurd (omega arith)
has-term (u ∷ us) zero d lt = left_true (term_eq u u) (has_term us u) ((Decides-term_eq u u).1 refl)
has-term (u ∷ us) (suc i) d lt = right_true (term_eq u (get_or us i d)) (has_term us (get_or us i d)) (has-term us i d (omega arith))

module _ (ns : Named) (t : Formulas) (ls : Lists) where
  -- a node of this sort, with its bits
  record FitsNode (k : NodeId) (s : Sort) : Type 0 where
    has : HasNodes t ls k
    fine : is_bits_sort (Some s) ≡ true
    width : length (nodes_of ls k) ≡ bits_in s
    bits : trees_at t (nodes_of ls k) ≡ bits ns (tree t k)

  fits-node : (k : NodeId) (s : Sort) → IsWellSorted (tree t k) → sort_of (tree t k) ≡ Some s → is_bits (tree t k) ≡ true → HasBits t ns ls k → FitsNode k s
  fits-node k s well has vectors b =
      let fit = bits_fit ns (tree t k) s well has vectors in
      let is : nodes_of ls k ≡ b.nodes = ap (λ (o : Option (List NodeId)). unwrap_or o []) b.found in
      let count : length (nodes_of ls k) ≡ length (bits ns (tree t k)) = ap length is ∙ sym (length-map b.nodes (tree_in t.trees)) ∙ ap length b.bits.terms in
      let some : 0 < length (nodes_of ls k) = let more = fit.2 in omega (arith, count, more) in
      record {
        has = record { some = some; formulas = subst (λ (js : List NodeId). All (IsFormula t) js) (sym is) b.bits.formulas };
        fine = fit.0;
        width = count ∙ fit.1;
        bits = ap (trees_at t) is ∙ b.bits.terms;
      }

  record FitNodes (ks : List NodeId) (ss : List Sort) : Type 0 where
    has : All (HasNodes t ls) ks
    fit : Fit ss (map (nodes_of ls) ks)
    bits : operand_bits t ls ks ≡ bits_each ns (terms (trees_at t ks))

  fit-nodes : (ks : List NodeId) (ss : List Sort) → IsTable t → AreNodes t ks → sorts_of (terms (trees_at t ks)) ≡ Some ss → are_bits (terms (trees_at t ks)) ≡ true → All (HasBits t ns ls) ks → FitNodes ks ss
  fit-nodes [] ss table nodes sorts vectors b =
      let empty : ss ≡ [] = cc in
      record { has = λ i d lt. absurd (omega arith); fit = subst (λ (rs : List Sort). Fit {A = NodeId} rs []) (sym empty) fit_none; bits = refl }
  fit-nodes (k ∷ ks) ss table nodes sorts vectors b =
      let parts = sorted (tree t k) (terms (trees_at t ks)) ss sorts in
      let each = both_true (is_bits (tree t k)) (are_bits (terms (trees_at t ks))) vectors in
      let first = fits-node k parts.sort (table.sorted k.0 (All-head (IsNode t) k ks nodes)) parts.first each.0 (All-head (HasBits t ns ls) k ks b) in
      let rest = fit-nodes ks parts.sorts table (All-tail (IsNode t) k ks nodes) parts.others each.1 (All-tail (HasBits t ns ls) k ks b) in
      record {
        has = All-cons (HasNodes t ls) k ks first.has rest.has;
        fit = subst (λ (rs : List Sort). Fit rs (nodes_of ls k ∷ map (nodes_of ls) ks)) (sym parts.all) (fit_more first.fine first.has.some first.width rest.fit);
        bits = λ i. first.bits i ∷ rest.bits i;
      }

-- a node of this operator over these operands, which have their bits
pub record IsOver (ns : Named) (t : Formulas) (ls : Lists) (o : Op) (ks : List NodeId) (u : Term) : Type 0 where
  pub has : All (HasNodes t ls) ks
  pub takes : TakesBits o (widths ls ks)
  pub bits : circuit term_gates o (sorts_in (trees_at t ks)) (operand_bits t ls ks) ≡ bits ns u

widths-are : (ls : Lists) (ks : List NodeId) → map length (map (nodes_of ls) ks) ≡ widths ls ks
widths-are ls [] = refl
widths-are ls (k ∷ ks) = ap (λ ws. length (nodes_of ls k) ∷ ws) (widths-are ls ks)

pub operator-node : (ns : Named) (t : Formulas) (ls : Lists) (o : Op) (id : NodeId) (ks : List NodeId) → IsTable t → IsNode t id → AreNodes t ks → is_bits (tree t id) ≡ true
    → tree t id ≡ term_over t o (operands (tree t id)) → ((f : SymId) → o ≡ Sym f → ⊥) → trees_at t ks ≡ operands (tree t id) → HaveBits t ns ls id → IsOver ns t ls o ks (tree t id)
operator-node ns t ls o id ks table node nodes vectors is other kids have =
    let us = trees_at t ks in
    let term : tree t id ≡ apply (op o) (terms us) = operator-term t o (tree t id) is vectors other ∙ ap (λ vs. apply (op o) (terms vs)) (sym kids) in
    let of = of-bits (op o) (terms us) (subst (λ v. is_bits v ≡ true) term vectors) in
    let a = applied (op o) (terms us) of.sort of.has in
    let count = length-map ks (tree_in t.trees) in
    let below = λ (i : ℕ) (d : NodeId) (lt : i < length ks). have (get_or ks i d) (nodes i d lt)
    (ap (λ vs. has_term vs (tree t (get_or ks i d))) (sym kids) ∙ ap (has_term us) (sym (get_or-map (tree_in t.trees) ks i d (tree t d) lt)) ∙ has-term us i (tree t d) (omega (arith, count, lt))) in
    let fit = fit-nodes ns t ls ks a.sorts table nodes a.operands of.operands below in
    record {
      has = fit.has;
      takes = subst (TakesBits o) (widths-are ls ks) (takes-bits (map (nodes_of ls) ks) o a.sorts of.sort (record { ranked = a.rank; result = of.fine }) fit.fit);
      bits =
          (λ i. circuit term_gates o (sorts-in us a.sorts a.operands i) (fit.bits i))
          ∙ ap (λ (ss : Option (List Sort)). circuit term_gates o (unwrap_or ss []) (bits_each ns (terms us))) (sym a.operands)
          ∙ ap (bits ns) (sym term);
    }
