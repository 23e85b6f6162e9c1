use Rattle.std.proofs.Common.{ℕ, List, Bor, sym, ◌∙◌}
use Rattle.smt_terms.specs.Sorts.{Name}
use Rattle.pass_laws.specs.declared.names.Pass.{Pass}
use Rattle.passes.proofs.ListedNames.{named_here, named_next}
use Rattle.passes.proofs.list.named_among.Goals as goal

abbrev seen : Bor (List ℕ) × Pass → Name × Pass
seen p = (p.0.now, p.1)

pub returns-then-eq : goal.returns-then-eq
returns-then-eq c =
    sym (c.loop-other.invariant ∙ named_here seen c.args.names.now c.args.name.now c.loop-other.other-index _ c.loop-other-test.true (sym c.eq.ensures ∙ c.if-eq.true))

pub loop-other-preserved : goal.loop-other-preserved
loop-other-preserved c =
    c.loop-other.invariant ∙ named_next seen c.args.names.now c.args.name.now c.loop-other.other-index _ c.loop-other-test.true (sym c.eq.ensures ∙ c.if-eq.false)
