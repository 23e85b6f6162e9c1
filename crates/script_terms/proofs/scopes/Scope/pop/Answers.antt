use Rattle.std.proofs.Common.{ap, ◌∙◌, count_by, arith}
use Rattle.script_terms.specs.Known.{is_mark}
use Rattle.script_terms.proofs.Laying.{levels-popped}
use Rattle.script_terms.proofs.scopes.Scope.pop.Goals as goal

pub invariant_of-self : goal.invariant_of-self
invariant_of-self c =
    let terms = ap (count_by is_mark) c.close.ensures ∙ levels-popped c.args.global c.args.n c.self.inside.terms in
    let sorts = ap (count_by is_mark) c.close-2.ensures ∙ levels-popped c.args.global c.args.n c.self.inside.sorts in
    omega (arith, terms, sorts, c.self.invariant)
