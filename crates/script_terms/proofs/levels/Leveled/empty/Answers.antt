use Rattle.std.proofs.Common.{◌∙◌, ap, sym, true}
use Rattle.script_terms.specs.Scope.{emptied}
use Rattle.script_terms.specs.Known.{is_mark}
use Rattle.script_terms.specs.Laid.{borrowed, starts_of}
use Rattle.script_terms.proofs.Laying.{flattened-laid}
use Rattle.script_terms.proofs.levels.Leveled.empty.Goals as goal

pub returns-then-keeps : goal.returns-then-keeps
returns-then-keeps g c =
    rw (c.clear.ensures.items, c.if-keeps.true) (sym (flattened-laid (starts_of c.self.inside.marks.items) (borrowed c.self.inside.entries.entries)) ∙ ap (emptied is_mark true) c.self.view_is)
