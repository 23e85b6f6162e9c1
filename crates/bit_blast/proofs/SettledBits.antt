-- What is kept of nodes, after one list more and as the table gains.
use Rattle.std.proofs.Common.{◌≡◌, inl, inr, true, List, Some, is_some, refl, ap, sym, ◌∙◌, subst}
use Rattle.std.proofs.lemmas.Bool.Decides.{eqb_tells}
use Rattle.std.proofs.lemmas.List.Elements.{All-weaker}
use Rattle.smt_terms.specs.declared.ids.NodeId.{NodeId}
use Rattle.smt_terms.specs.Groups.{Named}
use Rattle.term_table.specs.Formulas.{Formulas}
use Rattle.term_walk.specs.Walking.{GrowsTo}
use Rattle.term_subst.proofs.Growing.{tree-grows, node-grows, trees-grow}
use Rattle.normal_forms.specs.Nodes.{IsFormula, formula_stays}
use Rattle.bit_blast.specs.Blasted.{bits}
use Rattle.bit_blast.specs.KeptBits.{Lists, Sets}
use Rattle.bit_blast.specs.Subterms.{IsKeptFor, AreKept, is_kept}

-- ---- one list more

pub sets-kept : (t : Formulas) (ns : Named) (old new : Lists) (k : NodeId) (js : List NodeId) → Sets old new k js → AreKept t ns old → IsKeptFor t ns k js → AreKept t ns new
sets-kept t ns old new k js sets kept one j is e = elim (eqb_tells j.0 k.0) [
  | inl same ↦
      let found : Some js ≡ Some is = sym (sets.here j same.1) ∙ e in
      let value : js ≡ is = cc in
      let key : k ≡ j = λ i. record { 0 = sym same.1 i } in
      subst (λ (x : NodeId). IsKeptFor t ns x is) key (subst (λ (x : List NodeId). IsKeptFor t ns k x) value one)
  | inr apart ↦ kept j is (sym (sets.others j apart.1) ∙ e)
]

pub sets-stay : (old new : Lists) (k : NodeId) (js : List NodeId) → Sets old new k js → (j : NodeId) → is_kept old j ≡ true → is_kept new j ≡ true
sets-stay old new k js sets j e = elim (eqb_tells j.0 k.0) [
  | inl same ↦ ap is_some (sets.here j same.1)
  | inr apart ↦ ap is_some (sets.others j apart.1) ∙ e
]

pub sets-here : (old new : Lists) (k : NodeId) (js : List NodeId) → Sets old new k js → is_kept new k ≡ true
sets-here old new k js sets = ap is_some (sets.here k refl)

-- ---- as the table gains

pub bits-stay : (old new : Formulas) (ns : Named) (k : NodeId) (js : List NodeId) → GrowsTo old new → IsKeptFor old ns k js → IsKeptFor new ns k js
bits-stay old new ns k js grows kept = record {
  node = node-grows old new grows k kept.node;
  bits = record {
    formulas = All-weaker (IsFormula old) (IsFormula new) (λ j f. formula_stays old new j grows f) js kept.bits.formulas;
    terms =
        trees-grow old new grows js (λ i d lt. (kept.bits.formulas i d lt).node)
        ∙ kept.bits.terms
        ∙ ap (bits ns) (sym (tree-grows old new grows k kept.node));
  };
}

pub kept-stay : (old new : Formulas) (ns : Named) (ls : Lists) → GrowsTo old new → AreKept old ns ls → AreKept new ns ls
kept-stay old new ns ls grows kept k js e = bits-stay old new ns k js grows (kept k js e)
