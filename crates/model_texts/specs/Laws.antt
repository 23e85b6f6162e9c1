-- Statements of the laws of model texts.
use Rattle.std.specs.Prelude.{◌≡◌, ℕ, Bool, true, ◌&&◌, not, List, ◌∷◌, Ok, IfSome, IsTrue}
use Rattle.std.specs.List.{list_all}
use Rattle.smt_terms.specs.Free.{names_of}
use Rattle.smt_terms.specs.Models.{Row, Graph, NumberRow, NumberGraph, Model, IsModelOver}
use Rattle.smt_terms.specs.Rank.{is_sort}
use Rattle.smt_terms.specs.Sorts.{Sort, array, free_sort, Symbol}
use Rattle.smt_terms.specs.Term.{Term}
use Rattle.smt_terms.specs.Val.{within_range}
use Rattle.smt_terms.specs.Values.{Value, whole, table, Pairs, no_pairs, pair}
use Rattle.script_read.specs.Commands.{Command, Signature, signature}
use Rattle.script_read.specs.Printable.{is_writable, printable}
use Rattle.model_texts.specs.ModelText.{model_of}
use Rattle.model_texts.specs.ModelLines.{model_lines}
use Rattle.model_texts.specs.Proper.{are_distinct, is_table_name, IsProper}

-- ---- signatures over which models can be written

-- the names of free sorts in a sort can stand between bars
abbrev pub has_writable_names : Sort → Bool
has_writable_names (array i e) = has_writable_names i && has_writable_names e
has_writable_names (free_sort n) = is_writable n
has_writable_names _ = true

abbrev pub is_writable_sort : Sort → Bool
is_writable_sort s = is_sort s && has_writable_names s

abbrev pub is_writable_symbol : Symbol → Bool
is_writable_symbol f = is_writable f.name && (not (is_table_name f.name) && list_all is_writable_sort (f.result ∷ f.args))

-- sorts may stand twice, symbols' names may not
abbrev pub is_writable_signature : Signature → Bool
is_writable_signature sig =
    list_all is_writable sig.sorts && (list_all is_writable_symbol sig.symbols && are_distinct (names_of sig.symbols))

-- ---- models whose whole numbers can be read

abbrev mutual
  pub is_readable : Value → Bool
  is_readable (whole n) = within_range n
  is_readable (table d ps) = is_readable d && are_readable ps
  is_readable _ = true

  pub are_readable : Pairs → Bool
  are_readable no_pairs = true
  are_readable (pair k v ps) = is_readable k && (is_readable v && are_readable ps)

abbrev pub is_readable_row : Row → Bool
is_readable_row r = list_all is_readable r.keys && is_readable r.result

abbrev pub is_readable_graph : Graph → Bool
is_readable_graph g = list_all is_readable_row g.rows && is_readable g.otherwise

abbrev pub is_readable_table : NumberGraph → Bool
is_readable_table g = list_all (λ (r : NumberRow). within_range r.key && within_range r.result) g.rows && within_range g.otherwise

-- ---- a model's text gives the model

pub record IsTextable (sig : Signature) (m : Model) : Type 0 where
  pub over : IsModelOver sig.sorts sig.symbols m
  pub signature : IsTrue (is_writable_signature sig)
  pub graphs : (f : Symbol) → IfSome (m.graphs f) (λ g. IsTrue (is_readable_graph g))
  pub div_by_zero : IsTrue (is_readable_table m.div_by_zero)
  pub mod_by_zero : IsTrue (is_readable_table m.mod_by_zero)

abbrev pub ModelsReadBack : Type 0
ModelsReadBack = (sig : Signature) (m : Model) → IsTextable sig m → model_of (model_lines m sig) sig ≡ Ok m

-- over the signature at any point of a printable script, models can be written
abbrev pub SignaturesAreWritable : Type 0
SignaturesAreWritable = (cs : List (Command Term)) (k : ℕ) → IsTrue (printable cs) → IsTrue (is_writable_signature (signature cs k))

-- over the signature at any point of a printable script, texts can be read
abbrev pub SignaturesAreProper : Type 0
SignaturesAreProper = (cs : List (Command Term)) (k : ℕ) → IsTrue (printable cs) → IsProper (signature cs k)
