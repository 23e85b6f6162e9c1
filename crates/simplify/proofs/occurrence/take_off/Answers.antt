use Rattle.std.proofs.Common.{◌≡◌, List, true, false, ap, sym, ◌∙◌, subst, arith}
use Rattle.smt_terms.specs.declared.ids.NodeId.{NodeId}
use Rattle.smt_terms.specs.Term.{constant_of}
use Rattle.smt_terms.proofs.Tests.{not_true}
use Rattle.term_table.specs.Formulas.{tree, variable_of}
use Rattle.term_walk.specs.FreeLists.{has_node}
use Rattle.quantifier_forms.specs.Tasks.{work_left}
use Rattle.quantifier_forms.proofs.Stands.{not_false, met-more, met-same}
use Rattle.simplify.specs.Occurring.{Searches}
use Rattle.simplify.proofs.Occurrences.{searches-on, searches-past, searches-nearer}
use Rattle.simplify.proofs.occurrence.take_off.Goals as goal

pub returns-then-branch-clause-searches : goal.returns-then-branch-clause-searches
returns-then-branch-clause-searches c root h =
    let t = c.args.table.now in
    let f = constant_of (variable_of (tree t c.args.variable)) in
    let met = c.args.met.now.keys in
    let unmet : has_node met c.args.id ≡ false = not_true (has_node met c.args.id) (sym c.in_ok-meet.ensures.first ∙ c.if-branch.true) in
    subst (λ (ks : List NodeId). Searches t f root c.open.new.waiting.items ks) (sym (met-more met c.meet.new.met.keys c.args.id unmet c.in_ok-meet.ensures.keys))
    (searches-on t f root c.args.id c.args.waiting.now.items met h c.requires.node unmet c.open.new.waiting.items c.in_ok-open.ensures)

pub returns-then-branch-clause-nearer : goal.returns-then-branch-clause-nearer
returns-then-branch-clause-nearer c n lt =
    let t = c.args.table.now in
    let met = c.args.met.now.keys in
    let unmet : has_node met c.args.id ≡ false = not_true (has_node met c.args.id) (sym c.in_ok-meet.ensures.first ∙ c.if-branch.true) in
    let near = searches-nearer t (constant_of (variable_of (tree t c.args.variable))) c.args.id c.args.waiting.now.items c.open.new.waiting.items met unmet c.in_ok-open.ensures n lt in
    let same = ap (λ ks. work_left t ks n) (met-more met c.meet.new.met.keys c.args.id unmet c.in_ok-meet.ensures.keys) in
    omega (arith, near, same)

pub returns-clause-searches : goal.returns-clause-searches
returns-clause-searches c root h =
    let t = c.args.table.now in
    let f = constant_of (variable_of (tree t c.args.variable)) in
    let met = c.args.met.now.keys in
    let was : has_node met c.args.id ≡ true = not_false (has_node met c.args.id) (sym c.in_ok-meet.ensures.first ∙ c.if-branch.false) in
    subst (λ (ks : List NodeId). Searches t f root c.args.waiting.now.items ks) (sym (met-same met c.meet.new.met.keys c.args.id was c.in_ok-meet.ensures.keys))
    (searches-past t f root c.args.id c.args.waiting.now.items met h was)
