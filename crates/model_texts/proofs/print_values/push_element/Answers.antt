use Rattle.std.proofs.Common.{◌∙◌, subst, sym}
use Rattle.smt_lex.specs.Names.{IsName}
use Rattle.model_texts.proofs.PrintedNames.{element_plain}
use Rattle.model_texts.proofs.print_values.push_element.Goals as goal

pub symbol_text-requires : goal.symbol_text-requires
symbol_text-requires c = subst IsName (sym (c.deref.ensures.value ∙ c.in_ok-name.ensures)) (element_plain c.args.sort.now c.args.number c.requires)
