use Rattle.std.proofs.Common.{◌≡◌, ◌∷◌, get_or, arith, ap, ◌∙◌}
use Rattle.std.proofs.lemmas.List.{get_or_default}
use Rattle.smt_lex.specs.Names.{Name}
use Rattle.script_terms.specs.declared.binders.SortedName.{SortedName}
use Rattle.script_terms.specs.declared.locals.Constant.{Constant}
use Rattle.script_terms.specs.declared.locals.Local.TheVariants.{Parameter}
use Rattle.script_terms.specs.Bound.{LocalNames}
use Rattle.script_read.proofs.DefinitionSteps.{more_bound, all_bound}
use Rattle.script_read.proofs.session.definitions.bind_parameters.Goals as goal

no_name : SortedName
no_name = record { name = 0; sort = record { 0 = 0 } }

no_constant : Constant
no_constant = record { symbol = record { 0 = 0 }; node = record { 0 = 0 } }

renamed : (m n : Name) (c : Constant) (ps : LocalNames) → m ≡ n → (m, Parameter c) ∷ ps ≡ (n, Parameter c) ∷ ps
renamed m n c ps same = ap (λ k. (k, Parameter c) ∷ ps) same

pub loop-i-preserved : goal.loop-i-preserved
unfolding no_name no_constant
loop-i-preserved c = λ s t supply seen constants.
    let x : SortedName = get_or c.args.parameters.now c.loop-i.i no_name in
    let k : Constant = get_or c.args.constants.now c.loop-i.i no_constant in
    more_bound s t supply c.args.forest.now.tokens c.args.parameters.now c.args.constants.now seen constants c.loop-i.i x k (omega arith) (omega arith)
    (get_or_default c.args.parameters.now c.loop-i.i no_name x (omega arith)) (get_or_default c.args.constants.now c.loop-i.i no_constant k (omega arith))
    c.loop-i.locals c.enter.new.self (c.requires.own c.loop-i.i no_name (omega arith)) (c.loop-i.invariant s t supply seen constants)
    (c.in_ok-enter.ensures ∙ renamed c.name.result.now _ k c.loop-i.locals c.name.ensures)

pub returns : goal.returns
returns c = λ s t supply seen constants.
    all_bound s t supply c.args.forest.now.tokens c.args.parameters.now c.args.constants.now seen constants c.loop-i.i c.loop-i.locals (omega arith) (c.loop-i.invariant s t supply seen constants)
