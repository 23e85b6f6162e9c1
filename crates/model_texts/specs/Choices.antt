-- The `ite` that a body is, as a program holds it: by the numbers of tokens.
use Rattle.std.specs.Prelude.{◌≡◌, if◌then◌else◌, List, codes, Option, Some, None}
use Rattle.smt_lex.specs.Lex.{Token}
use Rattle.smt_lex.specs.Forms.{Form, node, none, ◌⨾◌}
use Rattle.script_terms.specs.Parts.{symbol_in, is_name}
use Rattle.script_terms.specs.Places.{IsForm, form_from}
use Rattle.model_texts.specs.declared.tables.Choice.{Choice}

-- the condition, the value and the body behind them
abbrev pub choice_by : Form → Form → Form → Form → Option (Form × Form × Form)
choice_by f c v b = if is_name (codes "ite") (symbol_in f) then Some (c, v, b) else None

abbrev pub choice_in : Form → Option (Form × Form × Form)
choice_in (node place (f ⨾ c ⨾ v ⨾ b ⨾ none)) = choice_by f c v b
choice_in _ = None

-- the form is an `ite` of these parts
pub record IsChoiceAt (ts : List Token) (f : Form) (c : Choice) : Type 0 where
  pub condition : IsForm ts c.condition
  pub value : IsForm ts c.value
  pub otherwise : IsForm ts c.otherwise
  pub is : choice_in f ≡ Some (form_from ts c.condition, form_from ts c.value, form_from ts c.otherwise)
