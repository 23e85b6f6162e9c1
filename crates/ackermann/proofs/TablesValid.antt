-- The table of a function with arguments is valid.
use Rattle.std.proofs.Common.{◌≡◌, Bool, true, false, ◌&&◌, List, [], ◌∷◌, All, refl}
use Rattle.std.specs.List.{list_all}
use Rattle.std.proofs.lemmas.List.Elements.{All-nil}
use Rattle.smt_terms.specs.Groups.{Named, with_constants_each}
use Rattle.smt_terms.specs.Models.{Row, Model, is_graph, IsModel, distinct_rows, rows_allowed}
use Rattle.smt_terms.specs.Rank.{is_empty}
use Rattle.smt_terms.specs.Sorts.{Sort, Symbol}
use Rattle.smt_terms.specs.Term.{symbol, Term, apply, Terms, constant}
use Rattle.smt_terms.specs.Val.{no_variables, val, vals}
use Rattle.smt_terms.specs.Values.{is_value, are_values, default_value}
use Rattle.smt_terms.proofs.Tests.{and_true}
use Rattle.smt_terms.proofs.Valid.{is_value-default, val_valid, vals_valid}
use Rattle.term_groups.specs.Drawing.{ConstantsAreNew}
use Rattle.ackermann.specs.Laws.{TablesFit}
use Rattle.ackermann.specs.Removals.{all_inputs, all_symbols}
use Rattle.ackermann.specs.Tables.{with_rows, application_graph}
use Rattle.ackermann.proofs.PairValues.{none_assigned}
use Rattle.ackermann.proofs.RemovalChains.{AreUses, chain}
use Rattle.ackermann.proofs.TableRows.{rows_distinct, rows_all, all_rows, all-rows, row_of}
use Rattle.ackermann.proofs.UseLists.{All-passes}
use Rattle.ackermann.proofs.UseSorts.{IsPairOf, all-pairs_of, use_of}

rows-allowed : (args : List Sort) (rows : List Row) → is_empty args ≡ false → rows_allowed args rows ≡ true
rows-allowed args [] some = refl
rows-allowed [] (r ∷ rows) some = absurd cc
rows-allowed (s ∷ args) (r ∷ rows) some = refl

module _ (inputs : List Term) (ns : Named) (uses : AreUses inputs ns) (m : Model) (model : IsModel m) (f : Symbol) where
  abbrev is_row : Row → Bool
  is_row r = are_values f.args m.sizes r.keys && is_value f.result m.sizes r.result

  valid_keys : (v : Symbol) (ts : Terms) → IsPairOf inputs ns (v, apply (symbol f) ts) → are_values f.args m.sizes (vals m (with_constants_each ns ts) no_variables) ≡ true
  valid_keys v ts p = vals_valid (with_constants_each ns ts) f.args m no_variables model (none_assigned m) (use_of inputs ns uses v f ts p).replaced.sorts

  valid_row : (v : Symbol) (ts : Terms) → IsPairOf inputs ns (v, apply (symbol f) ts) → is_row (row_of m ns f v ts) ≡ true
  valid_row v ts p =
      and_true (are_values f.args m.sizes (vals m (with_constants_each ns ts) no_variables)) (is_value f.result m.sizes (val m (constant v) no_variables))
      (valid_keys v ts p) (val_valid (constant v) f.result m no_variables model (none_assigned m) (use_of inputs ns uses v f ts p).constant.sort)

  pub keys_valid : All (λ r. are_values f.args m.sizes r.keys ≡ true) (all_rows m ns f)
  keys_valid = all-rows m ns f (λ r. are_values f.args m.sizes r.keys ≡ true) (IsPairOf inputs ns) valid_keys (all-pairs_of inputs ns uses)

  pub table_valid : is_empty f.args ≡ false → is_graph f m.sizes (application_graph m ns f) ≡ true
  table_valid some =
      let rows = with_rows f.args m.sizes [] (all_rows m ns f) in
      and_true (is_value f.result m.sizes (default_value f.result)) (list_all is_row rows && (distinct_rows f.args m.sizes rows && rows_allowed f.args rows))
      (is_value-default f.result m.sizes model.sizes)
      (and_true (list_all is_row rows) (distinct_rows f.args m.sizes rows && rows_allowed f.args rows)
      (All-passes is_row rows (rows_all f.args m.sizes (λ r. is_row r ≡ true) [] (all_rows m ns f) (All-nil (λ r. is_row r ≡ true)) (all-rows m ns f (λ r. is_row r ≡ true) (IsPairOf inputs ns) valid_row (all-pairs_of inputs ns uses))))
      (and_true (distinct_rows f.args m.sizes rows) (rows_allowed f.args rows) (rows_distinct f.args m.sizes [] (all_rows m ns f) refl) (rows-allowed f.args rows some)))

pub tables-fit : ConstantsAreNew → TablesFit
tables-fit laws rs m f removals model some = table_valid (all_inputs rs) (all_symbols rs) (chain laws rs removals).uses m model f some
