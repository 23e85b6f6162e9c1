use Rattle.std.proofs.Common.{◌≡◌, ◌≤◌, ◌-◌, ◌++◌, List, [], length, reverse}
use Rattle.smt_lex.specs.Forest.{token_at}
use Rattle.smt_lex.specs.Names.{Name}
use Rattle.term_table.specs.Formulas.{Formulas}
use Rattle.script_terms.specs.Known.{terms_shown, terms_live}
use Rattle.script_terms.specs.Parts.{named_parts}
use Rattle.script_terms.specs.Places.{forms_from}
use Rattle.script_terms.specs.Read.{term_names}
use Rattle.script_terms.specs.Reading.{ReadBinding}
use Rattle.script_terms.specs.Refusals.{mapped}
use Rattle.script_terms.specs.TermClauses.{defined_name, is_some_name, with_names, HasNames}
use Rattle.script_terms.proofs.terms.term_names.name_term.Given as goal

abbrev pub invariant-loop-defines : goal.invariant-loop-defines
invariant-loop-defines l = record {
  place : l.i ≤ length l.forest.tokens;
  names : List Name;
  scope : l.scope ≡ with_names names l.node l.fn.scope;
  definitions : l.scope.definitions ≡ l.fn.scope.definitions;
  named : l.is_named ≡ is_some_name names;
  has : (t : Formulas) (live : List ReadBinding) → terms_shown t l.fn.scope ≡ terms_live live → HasNames l.scope live (reverse names);
  rest : (t : Formulas) (live : List ReadBinding) → terms_shown t l.fn.scope ≡ terms_live live
      → term_names (defined_name l.forest.tokens l.defines) (token_at l.forest.tokens l.frame.list).start [] (named_parts (forms_from l.forest.tokens l.frame.attributes)) live
      ≡ mapped (λ ms. names ++ ms) (term_names (defined_name l.forest.tokens l.defines) (token_at l.forest.tokens l.frame.list).start (reverse names) (named_parts (forms_from l.forest.tokens l.i)) live);
}

abbrev pub decreases-loop-defines : goal.decreases-loop-defines
decreases-loop-defines l = length l.forest.tokens - l.i
