use Rattle.simplify.proofs.Gathered.{gathering, takes_scalars, whole_found, number_found, number_beyond}
use Rattle.simplify.proofs.numbers.combined.Goals as goal

pub apply_scalar-requires-clause-operands : goal.apply_scalar-requires-clause-operands
apply_scalar-requires-clause-operands c =
    let n = c.requires.gathers.0 in
    takes_scalars c.args.op n (gathering c.args.op n c.requires.gathers.1) c.args.numbers.now c.requires.numbers c.requires.several

pub number_of-requires : goal.number_of-requires
number_of-requires c =
    let n = c.requires.gathers.0 in
    whole_found c.args.op n (gathering c.args.op n c.requires.gathers.1) c.args.numbers.now c.in-Ok.scalar c.in-Ok.ensures.value c.in-Ok.ensures.scalar

pub returns-in-Ok : goal.returns-in-Ok
returns-in-Ok c =
    let n = c.requires.gathers.0 in
    number_found c.args.op n (gathering c.args.op n c.requires.gathers.1) c.args.numbers.now c.in-Ok.scalar c.number_of.result c.in-Ok.ensures.value c.in-Ok.ensures.scalar c.number_of.ensures

pub returns-in-Err : goal.returns-in-Err
returns-in-Err c =
    let n = c.requires.gathers.0 in
    number_beyond c.args.op n (gathering c.args.op n c.requires.gathers.1) c.args.numbers.now c.in-Err.ensures.beyond
