use Rattle.std.proofs.Common.{◌≡◌, List, map, ap, sym, ◌∙◌, subst}
use Rattle.std.specs.Prelude.{IfSome}
use Rattle.smt_terms.specs.declared.ids.NodeId.{NodeId}
use Rattle.smt_terms.specs.Groups.{with_constants}
use Rattle.smt_terms.specs.Term.{symbol, Term, over}
use Rattle.term_table.specs.Formulas.{tree, trees_at, operands, symbol_at, IsSymbol, AreNodes}
use Rattle.quantifier_forms.specs.Rebuilding.{AreLike}
use Rattle.quantifier_forms.proofs.Sweeps.{kids-for, known-nodes, known-like, known-map}
use Rattle.term_groups.specs.Replacing.{IsReplaced}
use Rattle.term_groups.proofs.ReplacedNodes.{kids-fit}
use Rattle.ackermann.proofs.KeptConstants.{plain-use, some-use}
use Rattle.ackermann.proofs.entering.live_use.Goals as goal

pub returns-clause-live : goal.returns-clause-live
returns-clause-live c =
    let t = c.args.table.now in
    let id = c.args.pair.1 in
    let ks = c.kids.result.now in
    let each = kids-fit t c.args.memo.now id ks (plain-use (tree t id) c.requires.applied) c.requires.fit c.kids.ensures.terms c.kids.ensures.below in
    record {
      is_node = c.requires.node;
      is_function = subst (λ o. IfSome o (IsSymbol t)) c.unwrap-function.ensures c.function_of.ensures.symbol;
      is_symbol = c.requires.symbol;
      is_constant = c.requires.constant;
      sorted = c.know_table.ensures.sorted id.0 c.requires.node;
      are_results = subst (λ (js : List NodeId). AreNodes t js) (sym c.in_ok-operands.ensures) (known-nodes t c.args.memo.now 0 ks (λ i d lt. (each i d lt).result));
      some = some-use (tree t id) c.requires.applied;
      term = subst (λ o. IfSome o (λ f. tree t id ≡ over (symbol (symbol_at t f)) (operands (tree t id)))) c.unwrap-function.ensures c.function_of.ensures.term;
      constant_term = c.requires.term;
      like = c.requires.like;
      alike = subst (λ (us : List Term). AreLike us (trees_at t c.in_ok-operands.operands.items)) c.kids.ensures.terms
          (subst (λ (js : List NodeId). AreLike (trees_at t ks) (trees_at t js)) (sym c.in_ok-operands.ensures) (known-like t c.args.memo.now 0 ks (λ i d lt. (each i d lt).like)));
    }

pub returns-clause-settled : goal.returns-clause-settled
returns-clause-settled c ns ready =
    let t = c.args.table.now in
    let id = c.args.pair.1 in
    let ks = c.kids.result.now in
    let each = kids-for t c.args.memo.now 0 id ks (IsReplaced t ns) (ready (plain-use (tree t id) c.requires.applied)) c.kids.ensures.terms c.kids.ensures.below in
    ap (trees_at t) c.in_ok-operands.ensures
    ∙ known-map t c.args.memo.now 0 ks (with_constants ns) (λ i d lt. (each i d lt).term)
    ∙ ap (map (with_constants ns)) c.kids.ensures.terms
