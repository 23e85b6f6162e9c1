use Rattle.std.proofs.Common.{◌≡◌, ap, ℕ, List, length}
use Rattle.smtrw_answers.specs.declared.status.Status.{Status}
use Rattle.smtrw_answers.specs.declared.status.Status.TheVariants.{OutOfMemory}
use Rattle.smtrw_run.proofs.CarriedModels.{if_refused}
use Rattle.smtrw_run.proofs.Demonstrations.{demonstration_ends, demonstration_shows, passes_are, passes_known}
use Rattle.smtrw_run.proofs.demo.demonstrated.Goals as goal

pub unreachable-requires : goal.unreachable-requires
unreachable-requires g c = passes_known c.parse_list.result c.in_default.field-0 c.parse_list.ensures c.in_default.is

pub returns-in_err-rewriting-clause-memory : goal.returns-in_err-rewriting-clause-memory
returns-in_err-rewriting-clause-memory g c =
    let laws = c.demo_scripts_are_accepted.ensures in
    let status = c.in_err-rewriting.field-0.0 in
    let passes = passes_are c.parse_list.result c.in-Ok.passes c.parse_list.ensures c.in-Ok.is in
    if_refused c.from_residual.result (λ (s : Status). s ≡ OutOfMemory) status c.from_residual.ensures.1
    (demonstration_ends c.args.seed c.args.size c.requires.least c.requires.most laws.accepted laws.short c.args.forest.bytes c.requires.made c.in-Ok.passes passes status c.in_err-rewriting.ensures.ends)

pub returns-clause-line : goal.returns-clause-line
returns-clause-line g c =
    let laws = c.demo_scripts_are_accepted.ensures in
    let passes = passes_are c.parse_list.result c.in-Ok.passes c.parse_list.ensures c.in-Ok.is in
    let bytes_in : length c.bytes.result.now ≡ length c.args.forest.bytes = ap (λ (b : List ℕ). length b) c.bytes.ensures in
    demonstration_shows c.args.seed c.args.size c.requires.least c.requires.most laws.accepted laws.short c.without_rules_one_list.ensures c.args.forest.bytes c.requires.made c.in-Ok.passes passes _ c.in_ok-rewriting.rewriting c.in_ok-rewriting.ensures.made
    (length c.bytes.result.now) c.len.result bytes_in c.len.ensures c.in_ok-line.line c.in_ok-line.ensures
