use Rattle.std.proofs.Common.{◌∙◌, ap, map, List}
use Rattle.smt_terms.specs.declared.ids.SymId.{SymId}
use Rattle.smt_terms.specs.Models.{Model}
use Rattle.term_table.specs.Formulas.{symbol_at}
use Rattle.models.specs.LiveNumbers.{signature_of}
use Rattle.models.specs.ModelView.{model_at}
use Rattle.bit_scripts.specs.Lifting.{with_flags}
use Rattle.bit_scripts.proofs.LiftedFlags.{flags_lifted}
use Rattle.bit_scripts.proofs.lifting.lift.Goals as goal

pub lift_bits-requires-clause-flags : goal.lift_bits-requires-clause-flags
lift_bits-requires-clause-flags c =
    let t = c.args.table.now in
    let m = model_at t c.args.model.now in
    let sig = signature_of t c.args.signature.now in
    c.in_ok-lift_flags.ensures.model
    ∙ ap (λ (fs : List SymId). with_flags (map (symbol_at t) fs) m (model_at t c.in_ok-lifted.lifted)) c.symbols.ensures
    ∙ ap (λ (n : Model). with_flags sig.symbols m n) c.in_ok-lifted.ensures.model
    ∙ flags_lifted sig m
