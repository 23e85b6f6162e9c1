use Rattle.std.proofs.Common.{true, [], ◌∷◌, ◌++◌, ap, sym, ◌∙◌}
use Rattle.smt_terms.specs.declared.ids.NodeId.{NodeId}
use Rattle.term_table.specs.Formulas.{tree}
use Rattle.term_subst.proofs.Growing.{tree-grows}
use Rattle.cnf_polarity.specs.Cnf.{occurs, occurrences}
use Rattle.cnf_polarity.proofs.NamedClauses.{operand-literals, done-nodes, done-clauses}
use Rattle.cnf_polarity.proofs.clauses.named_clauses.Goals as goal

pub define_all-requires-clause-literals : goal.define_all-requires-clause-literals
define_all-requires-clause-literals c =
    operand-literals c.args.table.now c.keep_literals.new.table c.in_ok-literals.ensures.grows c.know_table.ensures c.args.id c.args.order.now c.args.named.now c.args.names.now c.requires.order c.requires.named
    c.in_ok-literals.literals c.in_ok-literals.ensures.literals

pub returns-clause-nodes : goal.returns-clause-nodes
returns-clause-nodes c =
    done-nodes c.args.table.now c.keep_literals.new.table c.in_ok-literals.ensures.grows c.know_table.ensures c.args.id c.args.order.now c.args.named.now c.args.names.now c.requires.order c.requires.named
    c.in_ok-literals.literals c.in_ok-literals.ensures.literals
    c.define_all.new.table c.in_ok-define_all.ensures.grows c.new-asserts.result c.define_all.new.asserts c.push.new.self c.requires.formula c.new-asserts.ensures (c.in_ok-push.ensures.ok ∙ ap (λ (k : NodeId). c.define_all.new.asserts ++ k ∷ []) c.known.ensures) c.in_ok-define_all.ensures.formulas

pub returns-clause-clauses : goal.returns-clause-clauses
returns-clause-clauses c =
    let t = c.args.table.now in
    let now = c.keep_literals.new.table in
    done-clauses t now c.in_ok-literals.ensures.grows c.know_table.ensures c.args.id c.args.order.now c.args.named.now c.args.names.now c.requires.order c.requires.named
    c.in_ok-literals.literals c.in_ok-literals.ensures.literals
    c.define_all.new.table c.in_ok-define_all.ensures.grows c.new-asserts.result c.define_all.new.asserts c.push.new.self c.requires.formula c.new-asserts.ensures (c.in_ok-push.ensures.ok ∙ ap (λ (k : NodeId). c.define_all.new.asserts ++ k ∷ []) c.known.ensures)
    (c.in_ok-define_all.ensures.puts (occurrences true (tree t c.args.id))
    (λ i d lt sign.
    c.in_ok-occurrences.ensures _ sign (c.requires.named.nodes i d lt) ∙ ap (λ u. occurs sign u (occurrences true (tree t c.args.id))) (sym (tree-grows t now c.in_ok-literals.ensures.grows _ (c.requires.named.nodes i d lt)))))
