-- Signatures as the declarations of a script make them: no two symbols have one name, none has the name of a table of `div` or
-- `mod` by zero, and their ranks speak of live sorts alone.
use Rattle.std.specs.Prelude.{Bool, true, not, ◌&&◌, ◌||◌, List, [], ◌∷◌, IsTrue}
use Rattle.std.specs.List.{list_all}
use Rattle.smt_lex.specs.Names.{is_among}
use Rattle.smt_terms.specs.Equal.{name_eq}
use Rattle.smt_terms.specs.Free.{names_of}
use Rattle.smt_terms.specs.Sorts.{Name, Symbol}
use Rattle.script_read.specs.Commands.{Signature}
use Rattle.script_read.specs.Printable.{sort_is_live}
use Rattle.model_texts.specs.Entries.{division_table, modulus_table}

abbrev pub are_distinct : List Name → Bool
are_distinct [] = true
are_distinct (n ∷ ns) = not (is_among ns n) && are_distinct ns

-- the tables of `div` and `mod` by zero have names of their own
abbrev pub is_table_name : Name → Bool
is_table_name n = name_eq n division_table || name_eq n modulus_table

-- the declared sorts in a symbol's rank are these
abbrev pub rank_is_live : List Name → Symbol → Bool
rank_is_live ns f = list_all (sort_is_live ns) (f.result ∷ f.args)

pub record IsProper (sig : Signature) : Type 0 where
  pub names : IsTrue (are_distinct (names_of sig.symbols))
  pub tables : IsTrue (list_all (λ f. not (is_table_name f.name)) sig.symbols)
  pub ranks : IsTrue (list_all (rank_is_live sig.sorts) sig.symbols)
