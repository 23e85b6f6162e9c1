-- The constants of applications, the live ones and the new ones, as results of nodes.
use Rattle.std.proofs.Common.{◌≡◌, ◌<◌, Bool, true, false, List, ◌++◌, length, get_or, All, Some, None, is_some, refl, sym, ◌∙◌, arith}
use Rattle.std.specs.Prelude.{is_none}
use Rattle.std.proofs.lemmas.List.Elements.{All-weaker}
use Rattle.smt_terms.specs.declared.ids.NodeId.{NodeId}
use Rattle.smt_terms.specs.declared.ids.SymId.{SymId}
use Rattle.smt_terms.specs.Groups.{Named, constant_for, with_constants}
use Rattle.smt_terms.specs.Shapes.{is_application}
use Rattle.smt_terms.specs.Term.{Head, op, symbol, const_array, Term, apply, quantified, none, ◌⨾◌, constant}
use Rattle.smt_terms.proofs.Tests.{both_true}
use Rattle.term_table.specs.Formulas.{Formulas, tree, operands, IsNode, AreNodes, IsTable}
use Rattle.term_walk.specs.Binders.{is_quantified}
use Rattle.quantifier_forms.specs.Memos.{Results, result_in}
use Rattle.term_groups.specs.declared.constants.Constants.{Constants}
use Rattle.term_groups.specs.Replacing.{AreConstantsFor, IsReplaced, AreReplaced, AreStarted}
use Rattle.term_groups.specs.Seen.{named_at, ArePairs}
use Rattle.term_groups.proofs.NamedTerms.{own-constants}
use Rattle.term_groups.proofs.OrderedNodes.{missing-constant}
use Rattle.term_groups.proofs.ReplacedNodes.{found-constant, own-become}
use Rattle.ackermann.specs.declared.uses.LiveUse.{LiveUse}
use Rattle.ackermann.specs.LiveUses.{constant_in, named_uses, IsUseIn}
use Rattle.ackermann.specs.Removals.{is_use}
use Rattle.ackermann.specs.Replacing.{is_new_use, AreNewConstants, all_named}
use Rattle.ackermann.proofs.FoundUses.{missing-first, found-first, is-none, found-use, missing-use}

-- ---- an application and its operands

pub plain-use : (u : Term) → is_use u ≡ true → is_quantified u ≡ false
plain-use (apply h ts) e = refl
plain-use (quantified q xs body) e = absurd cc

pub some-use : (u : Term) → is_use u ≡ true → 0 < length (operands u)
some-use (apply h none) e = absurd (no-operands h e)
  where
    no-operands : (h : Head) → is_application h none ≡ true → ⊥
    no-operands (op o) e = absurd cc
    no-operands (symbol f) e = absurd cc
    no-operands (const_array s) e = absurd cc
some-use (apply h (t ⨾ ts)) e = omega arith
some-use (quantified q xs body) e = absurd cc

-- ---- new constants

uses-become : (t : Formulas) (us : List LiveUse) (c : Constants) → AreNewConstants t us c → All (λ n. with_constants (all_named t us c) n.1 ≡ constant n.0) (named_at t c.symbols)
uses-become t us c are =
    let before : Named = named_uses t us in
    let drawn : Named = named_at t c.symbols in
    own-become (before ++ drawn) drawn
    (λ k d lt. plain-use (get_or drawn k d).1 (both_true (is_use (get_or drawn k d).1) (is_none (constant_for before (get_or drawn k d).1)) (are.each k d lt)).0)
    (λ k d lt.
    missing-first before drawn (get_or drawn k d).1 (is-none (constant_for before (get_or drawn k d).1) (both_true (is_use (get_or drawn k d).1) (is_none (constant_for before (get_or drawn k d).1)) (are.each k d lt)).1)
    ∙ own-constants drawn are.apart k d lt)

-- ---- live constants

-- the node r is the constant of a live application
live-replaced : (t : Formulas) → IsTable t → (us : List LiveUse) → All (IsUseIn t) us → (ms : Named) (k r : NodeId) → IsNode t k → constant_in us k ≡ Some r → IsReplaced t (named_uses t us ++ ms) k r
live-replaced t table us uses ms k r node found =
    let it = found-use t table us uses k r node found in
    record {
      node = node;
      result = it.result;
      term = it.constant_term ∙ sym (found-constant (named_uses t us ++ ms) (tree t k) it.symbol (plain-use (tree t k) it.applied) (found-first (named_uses t us) ms (tree t k) it.symbol it.found));
      like = it.like;
    }

all-live : (t : Formulas) → IsTable t → (us : List LiveUse) → All (IsUseIn t) us → (ms : Named) (ks : List NodeId) → AreNodes t ks → All (λ k. (r : NodeId) → constant_in us k ≡ Some r → IsReplaced t (named_uses t us ++ ms) k r) ks
all-live t table us uses ms ks nodes i d lt r found = live-replaced t table us uses ms (get_or ks i d) r (nodes i d lt) found

-- ---- all of them

-- nodes that have no results and aren't live have no constants
missing-all : (t : Formulas) → IsTable t → (us : List LiveUse) → All (IsUseIn t) us → (m : Results) (ps : List (SymId × NodeId)) → ArePairs t ps → All (λ (p : SymId × NodeId). is_some (result_in m 0 p.1) ≡ true) ps
    → (id : NodeId) → IsNode t id → result_in m 0 id ≡ None → constant_in us id ≡ None → constant_for (named_uses t us ++ named_at t ps) (tree t id) ≡ None
missing-all t table us uses m ps pairs kept id node missing none_live =
    missing-first (named_uses t us) (named_at t ps) (tree t id) (missing-use t table us uses id node none_live) ∙ missing-constant t table m ps pairs kept id node missing

-- m0: the results with the new constants alone; m: with the live ones as well
pub uses-started : (t : Formulas) → IsTable t → (us : List LiveUse) → All (IsUseIn t) us → (c : Constants) → AreNewConstants t us c → (m0 m : Results) (ks : List NodeId) → AreNodes t ks
    → ((wanted : Term → Bool) (ns : Named) → AreConstantsFor t wanted c → All (λ n. with_constants ns n.1 ≡ constant n.0) (named_at t c.symbols) → AreReplaced t ns m0)
    → All (λ (p : SymId × NodeId). is_some (result_in m0 0 p.1) ≡ true) c.symbols
    → ((ns : Named) → AreReplaced t ns m0 → All (λ k. (r : NodeId) → constant_in us k ≡ Some r → IsReplaced t ns k r) ks → AreReplaced t ns m)
    → All (λ k. result_in m 0 k ≡ None → constant_in us k ≡ None) ks → ((k : NodeId) → is_some (result_in m0 0 k) ≡ true → is_some (result_in m 0 k) ≡ true) → AreStarted t (all_named t us c) m ks
uses-started t table us uses c are m0 m ks nodes new_replaced kept replaced live stay = record {
  replaced = replaced (all_named t us c) (new_replaced (is_new_use (named_uses t us)) (all_named t us c) are (uses-become t us c are)) (all-live t table us uses (named_at t c.symbols) ks nodes);
  missing = λ i d lt none_there.
      missing-all t table us uses m c.symbols are.pairs
      (All-weaker (λ (p : SymId × NodeId). is_some (result_in m0 0 p.1) ≡ true) (λ (p : SymId × NodeId). is_some (result_in m 0 p.1) ≡ true) (λ p e. stay p.1 e) c.symbols kept)
      (get_or ks i d) (nodes i d lt) none_there (live i d lt none_there);
}
