use Rattle.std.proofs.Common.{◌∙◌, ◌++◌, ◌∷◌, [], sym, ap, subst, map, get_or, take, All, List}
use Rattle.std.proofs.lemmas.List.{map-append, map_more, take_all}
use Rattle.std.proofs.lemmas.List.Elements.{All-push, All-get_or}
use Rattle.smt_terms.specs.declared.ids.SymId.{SymId}
use Rattle.term_table.specs.Formulas.{symbol_at, IsSymbol}
use Rattle.script_read.specs.declared.scripts.Command.TheVariants.{Declare}
use Rattle.script_read.specs.CommandLists.{command_of, commands_of, IsCommandOf, AreCommandsOf}
use Rattle.script_read.specs.Commands.{declare}
use Rattle.bit_scripts.proofs.SpelledNodes.{declares}
use Rattle.bit_scripts.proofs.scripts.declared_flags.Goals as goal

pub loop-flag-preserved : goal.loop-flag-preserved
loop-flag-preserved c =
    let t = c.args.table.now in
    let fs = c.as_slice-flag-items.result.now in
    let i = c.loop-flag.flag-index in
    let d : SymId = record { 0 = 0 } in
    let f = get_or fs i d in
    let was = c.loop-flag.invariant in
    let symbols : All (IsSymbol t) fs = subst (All (IsSymbol t)) (sym c.as_slice-flag-items.ensures.value) c.in_ok-flags.ensures.symbols in
    let within : IsSymbol t f = All-get_or (IsSymbol t) fs i d c.loop-flag-test.true symbols in
    let all = c.in_ok-push.ensures.ok in
    record {
      numbers = subst (AreCommandsOf t) (sym all) (All-push (IsCommandOf t) c.loop-flag.commands (Declare f) was.numbers within);
      commands =
          ap (commands_of t) all ∙ map-append (command_of t) c.loop-flag.commands (Declare f ∷ [])
          ∙ ap (λ ds. ds ++ declare (symbol_at t f) ∷ []) was.commands
          ∙ sym (map-append declare (map (symbol_at t) (take i fs)) (symbol_at t f ∷ []))
          ∙ sym (ap declares (map_more (symbol_at t) fs i d c.loop-flag-test.true));
    }

pub returns-clause-commands : goal.returns-clause-commands
returns-clause-commands c =
    let t = c.args.table.now in
    let fs = c.as_slice-flag-items.result.now in
    c.loop-flag.invariant.commands
    ∙ ap (λ (gs : List SymId). declares (map (symbol_at t) gs)) (take_all c.loop-flag.flag-index fs c.loop-flag-test.false ∙ c.as_slice-flag-items.ensures.value)
    ∙ ap declares c.in_ok-flags.ensures.flags
