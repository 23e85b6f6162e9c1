-- The names of a text that are kept in memory: those that begin as names that are drawn.
use Rattle.std.specs.Prelude.{◌≡◌, List, filter, Option}
use Rattle.smt_lex.specs.Names.{Name}
use Rattle.term_subst.specs.Names.{begins_as_drawn}
use Rattle.script_terms.specs.TextNames.{with_name}

abbrev pub drawn_among : List Name → List Name
drawn_among ns = filter begins_as_drawn ns

-- what was kept of any names, and what is kept once this symbol is among them
abbrev pub KeepsWith : List Name → Option Name → List Name → Type 0
KeepsWith old symbol new = (ns : List Name) → old ≡ drawn_among ns → new ≡ drawn_among (with_name ns symbol)
