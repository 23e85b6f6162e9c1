use Rattle.std.proofs.Common.{List, [], ap, sym, ◌∙◌}
use Rattle.smt_lex.specs.Names.{Name}
use Rattle.smt_terms.specs.Free.{name_among}
use Rattle.smt_terms.specs.Fresh.{numbered_name}
use Rattle.script_terms.specs.Places.{forms_from}
use Rattle.script_terms.specs.TextNames.{names_with_all}
use Rattle.script_read.proofs.TextNames.{drawn_agree}
use Rattle.script_read.proofs.text_names.fresh_beside.Goals as goal

pub beside-requires : goal.beside-requires
beside-requires c =
    let all : List Name = names_with_all [] (forms_from c.args.forest.now.tokens 0) in
    λ i. ap (λ ns. name_among ns (numbered_name i)) c.in_ok-names.ensures ∙ drawn_agree all i ∙ sym (ap (λ ns. name_among ns (numbered_name i)) c.noted_in.ensures)
