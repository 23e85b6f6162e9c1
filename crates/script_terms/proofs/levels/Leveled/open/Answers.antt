use Rattle.std.proofs.Common.{◌≡◌, ◌+◌, ◌∙◌, None, ap, sym, subst, arith, rules}
use Rattle.script_terms.specs.Scope.{opened}
use Rattle.script_terms.specs.Laid.{borrowed, IsCut}
use Rattle.script_terms.specs.declared.levels.Run.{Run}
use Rattle.script_terms.proofs.Laying.{opened-is-cut, opened-cut}
use Rattle.script_terms.proofs.levels.Leveled.open.Goals as goal

pub invariant_of-self-2 : goal.invariant_of-self-2
invariant_of-self-2 g c =
    let r : Run = record { levels = c.args.n; below = c.len-below.result } in
    let apart = c.if-n-eq0.false in
    let all : c.in_ok-levels.levels ≡ c.self.inside.levels + c.args.n = search rules in
    subst (λ k. IsCut c.push.new.self.items k (borrowed c.self.inside.entries.entries)) (sym all)
    (opened-is-cut c.self.inside.marks.items c.push.new.self.items r c.self.inside.levels c.self.inside.entries.entries c.in_ok-push.ensures.items c.len-below.ensures.len (omega (arith, apart)) c.self.invariant)

pub returns-clause-ok : goal.returns-clause-ok
returns-clause-ok g c =
    let r : Run = record { levels = c.args.n; below = c.len-below.result } in
    opened-cut c.self.inside.marks.items c.push.new.self.items r c.self.inside.levels c.self.inside.entries.entries c.in_ok-push.ensures.items c.len-below.ensures.len
    ∙ ap (opened None c.args.n) c.self.view_is
