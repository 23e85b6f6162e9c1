use Rattle.std.proofs.Common.{◌≡◌}
use Rattle.term_walk.specs.Walking.{GrowsTo}
use Rattle.quantifier_forms.proofs.Sweeps.{AreDone}
use Rattle.boolean_quantifiers.specs.Replacing.{ArePut, Extends}
use Rattle.boolean_quantifiers.proofs.replacing.replace.Given as goal

abbrev pub invariant-loop-id : goal.invariant-loop-id
invariant-loop-id g l = record {
  grows : GrowsTo l.fn.table l.table;
  symbols : l.table.symbols ≡ l.fn.table.symbols;
  put : ArePut l.table (g.I.Images.images l.fn.images) l.memo l.fn.version;
  extends : Extends l.fn.memo l.memo l.fn.version;
  done : AreDone l.memo l.fn.version l.id-items l.id-index;
}
