-- What takes the places of the inputs is made from them.
use Rattle.std.proofs.Common.{◌≡◌, true, List, [], ◌∷◌, ◌++◌, length, replicate, All, Some, refl, ap, sym, ◌∙◌, subst}
use Rattle.std.proofs.lemmas.List.Elements.{All-nil, All-cons, All-head, All-tail, All-weaker}
use Rattle.smt_terms.specs.declared.op.Op.TheVariants.{And}
use Rattle.smt_terms.specs.Connectives.{implies, equal}
use Rattle.smt_terms.specs.Equal.{symbol_eq}
use Rattle.smt_terms.specs.Groups.{Named, has_term, with_constants, with_constants_each}
use Rattle.smt_terms.specs.Rank.{shape, sorts_of}
use Rattle.smt_terms.specs.Sorts.{Sort, bool, Symbol}
use Rattle.smt_terms.specs.Term.{symbol, Term, apply, Terms, none, ◌⨾◌, terms, constant}
use Rattle.smt_terms.proofs.Equal.{Decides-symbol_eq}
use Rattle.smt_terms.proofs.Operands.{well_sorted}
use Rattle.smt_terms.proofs.Sorted.{sorted}
use Rattle.term_groups.specs.Drawing.{ConstantsAreNew}
use Rattle.term_groups.specs.Grouping.{terms_of}
use Rattle.ackermann.specs.Ackermann.{applications_of, equations, all_equal, pair, pairs}
use Rattle.ackermann.specs.Laws.{IsMadeFrom, IsUseIn, RemovalsMade}
use Rattle.ackermann.specs.Removals.{all_inputs, all_symbols, is_use, inner_uses}
use Rattle.ackermann.proofs.FromInputs.{AreFrom, from-first, from-others, IsUsed}
use Rattle.ackermann.proofs.GatheredTerms.{gathered-from}
use Rattle.ackermann.proofs.PlainTerms.{plain-args}
use Rattle.ackermann.proofs.RemovalChains.{AreUses, IsCovered, IsChain, chain}
use Rattle.ackermann.proofs.ReplacedUses.{built-part, closed-first, closed-others}
use Rattle.ackermann.proofs.UseBuilt.{IsBuilt, AreBuilt, built-none, built-more, built-operator, built-implies, built-equal}
use Rattle.ackermann.proofs.UseLists.{HasAll, All-has, terms-append}
use Rattle.term_groups.proofs.NamedTerms.{All-where_so}
use Rattle.ackermann.proofs.UseOrder.{Ordered, ordered-behind}
use Rattle.ackermann.proofs.UsePairs.{equated, equations-equated, pairs-all}
use Rattle.ackermann.proofs.UseSorts.{IsPairOf, all-pairs_of, use_of}

module _ (inputs : List Term) (ns : Named) (uses : AreUses inputs ns) where
  abbrev IsFormula : Term → Type 0
  IsFormula r = IsBuilt inputs ns r bool

  made : (r : Term) → IsFormula r → IsMadeFrom inputs ns r
  made r b = record {
    sorted = well_sorted r bool b.sort b.rules;
    sort = b.sort;
    plain = b.plain;
    constants = plain-args r bool b.sort b.plain;
    free = b.symbols;
    clear = b.clear;
    within = λ heads binders ops holds new. b.within heads binders (ops, holds, new);
  }

  -- ---- what equal arguments say

  equated_formulas : (ts ss : Terms) (us : List Sort) → sorts_of ts ≡ Some us → sorts_of ss ≡ Some us → AreFrom inputs ts → AreFrom inputs ss → HasAll (terms_of ns) (applications_of ts) → HasAll (terms_of ns) (applications_of ss) → All IsFormula (equated (with_constants_each ns ts) (with_constants_each ns ss))
  equated_formulas none ss us first second from_first from_second closed_first closed_second = All-nil IsFormula
  equated_formulas (t ⨾ ts) none us first second from_first from_second closed_first closed_second = All-nil IsFormula
  equated_formulas (t ⨾ ts) (s ⨾ ss) us first second from_first from_second closed_first closed_second =
      let left = sorted t ts us first in
      let right = sorted s ss us second in
      let both : left.sort ∷ left.sorts ≡ right.sort ∷ right.sorts = sym left.all ∙ right.all in
      let sort : right.sort ≡ left.sort = cc in
      let sorts : right.sorts ≡ left.sorts = cc in
      All-cons IsFormula (equal (with_constants ns t) (with_constants ns s)) (equated (with_constants_each ns ts) (with_constants_each ns ss))
      (built-equal inputs ns (with_constants ns t) (with_constants ns s) left.sort
      (built-part inputs ns uses.constants t left.sort left.first (from-first inputs t ts from_first) (closed-first ns t ts closed_first))
      (built-part inputs ns uses.constants s left.sort (right.first ∙ ap Some sort) (from-first inputs s ss from_second) (closed-first ns s ss closed_second)))
      (equated_formulas ts ss left.sorts left.others (right.others ∙ ap Some sorts) (from-others inputs t ts from_first) (from-others inputs s ss from_second) (closed-others ns t ts closed_first) (closed-others ns s ss closed_second))

  all_built : (es : List Term) → All IsFormula es → AreBuilt inputs ns (terms es) (replicate (length es) bool)
  all_built [] all = built-none inputs ns
  all_built (e ∷ es) all =
      built-more inputs ns e (terms es) bool (replicate (length es) bool) (All-head IsFormula e es all) (all_built es (All-tail IsFormula e es all))

  conjunction : (e : Term) (es : List Term) → All IsFormula (e ∷ es) → IsFormula (all_equal (e ∷ es))
  unfolding shape
  conjunction e [] all = All-head IsFormula e [] all
  conjunction e (d ∷ es) all = built-operator inputs ns And e d (terms es) (bool ∷ bool ∷ replicate (length es) bool) (length es, refl, refl) (all_built (e ∷ d ∷ es) all)

  pair_made : (u : Symbol) (a : Term) (v : Symbol) (b : Term) → is_use a ≡ true → is_use b ≡ true → IsPairOf inputs ns (u, a) → IsPairOf inputs ns (v, b) → All (IsMadeFrom inputs ns) (pair ns u a v b)
  pair_made u (apply (symbol f) (t ⨾ ts)) v (apply (symbol g) (s ⨾ ss)) here there first second =
      All-where_so (IsMadeFrom inputs ns) (symbol_eq f g) (implies (all_equal (equations ns (t ⨾ ts) (s ⨾ ss))) (equal (constant u) (constant v)))
      (λ same.
      let is : g ≡ f = sym ((Decides-symbol_eq f g).0 same) in
      let left = use_of inputs ns uses u f (t ⨾ ts) first in
      let right = use_of inputs ns uses v g (s ⨾ ss) second in
      let premises : IsFormula (all_equal (equations ns (t ⨾ ts) (s ⨾ ss))) =
      subst (λ es. IsFormula (all_equal es)) (sym (equations-equated ns (t ⨾ ts) (s ⨾ ss)))
      (conjunction (equal (with_constants ns t) (with_constants ns s)) (equated (with_constants_each ns ts) (with_constants_each ns ss))
      (equated_formulas (t ⨾ ts) (s ⨾ ss) f.args left.operands (right.operands ∙ ap (λ k. Some k.args) is) left.from right.from left.closed right.closed)) in
      made (implies (all_equal (equations ns (t ⨾ ts) (s ⨾ ss))) (equal (constant u) (constant v)))
      (built-implies inputs ns (all_equal (equations ns (t ⨾ ts) (s ⨾ ss))) (equal (constant u) (constant v)) premises
      (built-equal inputs ns (constant u) (constant v) f.result left.constant (subst (λ k. IsBuilt inputs ns (constant v) k.result) is right.constant))))
  pair_made u _ v _ here there first second = absurd cc

  pub pairs_made : All (IsMadeFrom inputs ns) (pairs ns [] ns)
  pairs_made =
      pairs-all (IsMadeFrom inputs ns) ns (IsPairOf inputs ns) (λ p q first second. pair_made p.0 p.1 q.0 q.1 first.application second.application first second)
      [] ns (All-nil (IsPairOf inputs ns)) (all-pairs_of inputs ns uses)

  pub input_made : (t : Term) → IsCovered inputs ns t → IsMadeFrom inputs ns (with_constants ns t)
  input_made t covered = made (with_constants ns t) (built-part inputs ns uses.constants t bool covered.sort covered.from covered.closed)

  pub use_in : (u : Term) → IsUsed inputs u → IsUseIn inputs u
  use_in u used = record { whole = used.whole; among = used.among; part = used.piece.part; application = used.application }

  pub all_behind : (us : Named) (p : Symbol × Term) (vs : Named) → ns ≡ us ++ p ∷ vs → All (λ u. has_term (terms_of us) u ≡ true) (inner_uses p.1)
  all_behind us p vs e =
      let all : HasAll (terms_of us) (inner_uses p.1) = ordered-behind [] (terms_of us) p.1 (terms_of vs) (subst (Ordered []) (ap terms_of e ∙ terms-append us (p ∷ vs)) uses.ordered) in
      All-weaker (λ u. has_term (inner_uses p.1) u ≡ true) (λ u. has_term (terms_of us) u ≡ true) all (inner_uses p.1) (All-has (inner_uses p.1))

pub removals-made : ConstantsAreNew → RemovalsMade
removals-made laws rs removals =
    let inputs = all_inputs rs in
    let ns = all_symbols rs in
    let c : IsChain inputs [] rs ns = chain laws rs removals in
    record {
      asserts = subst (All (IsMadeFrom inputs ns)) (sym c.asserts)
          (gathered-from (IsMadeFrom inputs ns) ns [] rs (pairs_made inputs ns c.uses)
          (All-weaker (IsCovered inputs ns) (λ t. IsMadeFrom inputs ns (with_constants ns t)) (input_made inputs ns c.uses) inputs c.covered));
      uses = All-weaker (λ p. IsUsed inputs p.1) (λ p. IsUseIn inputs p.1) (λ p used. use_in inputs ns c.uses p.1 used) ns c.uses.used;
      behind = all_behind inputs ns c.uses;
    }
