-- The names of a text.
use Rattle.std.specs.Prelude.{◌+◌, cond, List, [], ◌∷◌, ◌++◌, Option, Some, None}
use Rattle.smt_lex.specs.Names.{Name, is_among}
use Rattle.smt_lex.specs.Forms.{Form, atom, node, Forms, none, ◌⨾◌}
use Rattle.script_terms.specs.Parts.{symbol_in}

abbrev pub with_name : List Name → Option Name → List Name
with_name ns None = ns
with_name ns (Some n) = cond (is_among ns n) ns (ns ++ n ∷ [])

-- these names, and then each that is a symbol anywhere in the form, once, in order
abbrev mutual
  pub names_with : List Name → Form → List Name
  names_with ns (atom t) = with_name ns (symbol_in (atom t))
  names_with ns (node place fs) = names_with_all ns fs

  pub names_with_all : List Name → Forms → List Name
  names_with_all ns none = ns
  names_with_all ns (f ⨾ fs) = names_with_all (names_with ns f) fs
