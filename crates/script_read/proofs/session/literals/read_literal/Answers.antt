use Rattle.std.proofs.Common.{option_map, ap, sym, ◌∙◌}
use Rattle.term_table.specs.Formulas.{tree}
use Rattle.script_terms.specs.declared.causes.Cause.TheVariants.{BadForm}
use Rattle.script_terms.specs.Parts.{place_of}
use Rattle.script_terms.specs.Places.{form_from}
use Rattle.script_terms.specs.Refusals.{given}
use Rattle.script_terms.proofs.Refusing.{refused_at}
use Rattle.script_terms.proofs.Refusing.{refuses_as}
use Rattle.script_read.proofs.session.literals.read_literal.Goals as goal

pub returns-in-Some-clause-literal : goal.returns-in-Some-clause-literal
returns-in-Some-clause-literal c = λ supply live shows.
    ap (given BadForm (place_of (form_from c.args.forest.now.tokens c.args.i))) (sym (c.in_ok-id.ensures.literal supply live shows) ∙ ap (option_map (tree c.literal.new.table)) c.in-Some.is)

pub returns-in-None-clause-literal : goal.returns-in-None-clause-literal
returns-in-None-clause-literal c = λ supply live shows.
    refuses_as _ c.into.result c.fault.result c.into.ensures
    (ap (given BadForm (place_of (form_from c.args.forest.now.tokens c.args.i))) (sym (c.in_ok-id.ensures.literal supply live shows) ∙ ap (option_map (tree c.literal.new.table)) c.in-None.is)
    ∙ refused_at c.fault.result _ _ c.fault.ensures.cause c.fault.ensures.place)
