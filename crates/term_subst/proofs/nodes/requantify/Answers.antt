use Rattle.std.proofs.Common.{◌≡◌, ◌∷◌, ◌++◌, [], ap, sym, ◌∙◌, subst}
use Rattle.std.proofs.lemmas.List.{map-append}
use Rattle.std.proofs.lemmas.List.Elements.{All-push}
use Rattle.term_table.specs.Formulas.{tree, tree_in, trees_at, IsNode, AreNodes}
use Rattle.term_subst.specs.State.{variables_at}
use Rattle.term_subst.proofs.NodesMade.{makes-binder, made-binder}
use Rattle.term_subst.proofs.nodes.requantify.Goals as goal

pub intern-requires : goal.intern-requires
intern-requires c =
    let t = c.args.table.now in
    let ks : c.deref.result.now ≡ c.args.variables.now ++ c.args.body ∷ [] = c.deref.ensures.value ∙ c.in_ok-push.ensures.items ∙ ap (λ vs. vs ++ c.args.body ∷ []) c.in_ok-kids.ensures.items in
    let operands = ap (trees_at t) ks ∙ map-append (tree_in t.trees) c.args.variables.now (c.args.body ∷ []) ∙ ap (λ us. us ++ tree t c.args.body ∷ []) c.requires.variables.terms in
    let nodes = subst (AreNodes t) (sym ks) (All-push (IsNode t) c.args.variables.now c.args.body c.requires.variables.nodes c.requires.body) in
    makes-binder t c.op-op.result (tree t c.args.node) c.op-op.ensures.term c.requires.binder c.deref.result.now nodes (variables_at t c.args.variables.now) (tree t c.args.body) operands c.requires.bindable c.requires.truth

pub returns-clause-term : goal.returns-clause-term
returns-clause-term c =
    let t = c.args.table.now in
    let ks : c.deref.result.now ≡ c.args.variables.now ++ c.args.body ∷ [] = c.deref.ensures.value ∙ c.in_ok-push.ensures.items ∙ ap (λ vs. vs ++ c.args.body ∷ []) c.in_ok-kids.ensures.items in
    let operands = ap (trees_at t) ks ∙ map-append (tree_in t.trees) c.args.variables.now (c.args.body ∷ []) ∙ ap (λ us. us ++ tree t c.args.body ∷ []) c.requires.variables.terms in
    let nodes = subst (AreNodes t) (sym ks) (All-push (IsNode t) c.args.variables.now c.args.body c.requires.variables.nodes c.requires.body) in
    c.in_ok-result.ensures.term
    ∙ made-binder t c.op-op.result (tree t c.args.node) c.op-op.ensures.term c.requires.binder c.deref.result.now nodes (variables_at t c.args.variables.now) (tree t c.args.body) operands
