use Rattle.std.proofs.Common.{◌≡◌, List, []}
use Rattle.smt_lex.specs.Forest.{rest_at}
use Rattle.smt_lex.specs.Names.{Name}
use Rattle.script_read.specs.DrawnNames.{drawn_among}
use Rattle.script_terms.specs.Places.{forms_from}
use Rattle.script_terms.specs.TextNames.{names_with_all}
use Rattle.script_read.proofs.TextNames.{names_left}
use Rattle.script_read.proofs.text_names.names_in.Given as goal

abbrev pub invariant-loop-token : goal.invariant-loop-token
invariant-loop-token l =
    (ns : List Name) × (l.names ≡ drawn_among ns) × (names_left ns (rest_at l.forest.tokens l.token) ≡ names_with_all [] (forms_from l.forest.tokens 0))
