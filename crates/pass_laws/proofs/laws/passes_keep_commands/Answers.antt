use Rattle.pass_laws.proofs.Assertions.{FormLaws}
use Rattle.pass_laws.proofs.Kept.{pass_keeps, passes_keep}
use Rattle.pass_laws.proofs.laws.passes_keep_commands.Goals as goal

pub returns : goal.returns
returns c =
    let laws : FormLaws = record {
      simplify = c.simplify_keeps_values.ensures;
      nnf = c.nnf_keeps_values.ensures.values;
      aig = c.aig_keeps_values.ensures.values;
      prenex = c.prenex_keeps_values.ensures.values;
      reads = c.reads_keep_values.ensures;
      shannon = c.shannon_keeps_values.ensures.values;
      selfsub = c.selfsub_keeps_values.ensures.values;
    } in
    record { pass = pass_keeps laws; list = passes_keep laws }
