use Rattle.std.proofs.Common.{ap, ◌∙◌, count_by, arith}
use Rattle.script_terms.specs.Known.{is_mark}
use Rattle.script_terms.proofs.Laying.{levels-emptied}
use Rattle.script_terms.proofs.scopes.Scope.empty.Goals as goal

pub invariant_of-self : goal.invariant_of-self
invariant_of-self c =
    let terms = ap (count_by is_mark) c.empty.ensures ∙ levels-emptied c.args.global c.self.inside.terms in
    omega (arith, terms)
