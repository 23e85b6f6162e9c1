use Rattle.std.proofs.Common.{option_map, ◌∙◌, sym, ap}
use Rattle.clap.specs.Words.{found_of}
use Rattle.smtrw_answers.specs.declared.words.Carried.{Carried}
use Rattle.smtrw_answers.specs.Asking.{check_in, command_of, passes_in}
use Rattle.smtrw_answers.proofs.CarriedWords.{is_carrying, values_found, values_given, no_list_fault}
use Rattle.smtrw_answers.proofs.words.carry_values.Goals as goal

pub carry_matches-requires : goal.carry_matches-requires
carry_matches-requires c = is_carrying _ c.args.script c.args.model c.requires.files

pub unreachable-requires : goal.unreachable-requires
unreachable-requires c =
    let command = command_of c.args.command in
    let values = values_found _ command (found_of c.in-Ok.matches) c.args.script c.args.model c.requires.files c.requires.named c.in-Ok.ensures.values in
    no_list_fault command (found_of c.in-Ok.matches) (option_map (λ t. t.now) c.get_str.result) c.passes_of.result c.in_default-passes_of.field-0 values.passes values.has_passes
    c.passes_of.ensures c.get_str.ensures c.in_default-passes_of.is

pub returns : goal.returns
returns c =
    let command = command_of c.args.command in
    let v : Carried = record { passes = c.in-Ok-passes_of.passes; check = c.in-Some.check; script = record { word = c.args.script; name = c.in-Some-get_str.script_name }; model = record { word = c.args.model; name = c.in-Some-get_str-2.model_name } } in
    values_given _ command (found_of c.in-Ok.matches) v c.requires.files c.requires.named c.in-Ok.ensures.values (
      sym (ap (passes_in command) c.get_str.ensures) ∙ sym c.passes_of.ensures ∙ c.in-Ok-passes_of.is,
      sym (ap check_in c.get_str-2.ensures) ∙ sym c.check_of.ensures ∙ c.in-Some.is,
      sym c.get_str-3.ensures ∙ ap (option_map (λ t. t.now)) c.in-Some-get_str.is,
      sym c.get_str-4.ensures ∙ ap (option_map (λ t. t.now)) c.in-Some-get_str-2.is,
    )
