use Rattle.std.proofs.Common.{◌≡◌, drop, map}
use Rattle.smt_lex.specs.Names.{is_among}
use Rattle.script_terms.proofs.terms.let_names.is_in.Given as goal

abbrev pub invariant-loop-other : goal.invariant-loop-other
invariant-loop-other l = is_among (map (λ e. e.0.now) l.terms) l.name ≡ is_among (map (λ e. e.0.now) (drop l.other-index l.terms)) l.name
