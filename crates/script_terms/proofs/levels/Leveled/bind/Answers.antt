use Rattle.std.proofs.Common.{◌∙◌, ap, ◌∷◌, Some, refl}
use Rattle.script_terms.specs.Known.{find}
use Rattle.script_terms.specs.Laid.{starts_of}
use Rattle.script_terms.proofs.Laying.{bound, bound-laid}
use Rattle.script_terms.proofs.levels.Leveled.bind.Goals as goal

pub invariant_of-self-2 : goal.invariant_of-self-2
invariant_of-self-2 g c =
    rw (c.in_ok-insert.ensures.entries) (record {
      runs = c.self.invariant.runs;
      count = c.self.invariant.count;
      names = bound-laid (starts_of c.self.inside.marks.items) c.self.inside.entries.entries c.args.name c.args.value c.args.name.now refl c.self.invariant.names (ap (λ bs. find bs c.args.name.now) c.self.view_is ∙ c.requires);
    })

pub returns-clause-ok : goal.returns-clause-ok
returns-clause-ok g c =
    rw (c.in_ok-insert.ensures.entries) (bound (starts_of c.self.inside.marks.items) c.self.inside.entries.entries c.args.name c.args.value c.args.name.now refl c.self.invariant.names (ap (λ bs. find bs c.args.name.now) c.self.view_is ∙ c.requires))
    ∙ ap (λ bs. Some (c.args.name.now, c.args.value) ∷ bs) c.self.view_is
