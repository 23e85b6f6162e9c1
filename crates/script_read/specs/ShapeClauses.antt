-- The outlines that the code's stand for.
use Rattle.std.specs.Prelude.{◌≡◌, ℕ, ◌≤◌, List, length, Option, Some, None, option_map}
use Rattle.std.specs.Str.Parse.{digits_value}
use Rattle.smt_lex.specs.Lex.{Token, symbol_of}
use Rattle.smt_lex.specs.Forms.{Forms, none}
use Rattle.smt_lex.specs.Forest.{token_at}
use Rattle.smt_lex.specs.Names.{Name}
use Rattle.smt_lex.specs.declared.items.Item.TheVariants.{Numeral}
use Rattle.script_read.specs.declared.shapes.Outline.{Outline}
use Rattle.script_read.specs.declared.shapes.Outline.TheVariants.{Passing, GlobalOption, SortDeclaration, SortDefinition, SymbolDeclaration, SymbolDefinition, Assertion, Checking, Assuming, Pushing, Popping, Resetting, ResettingAssertions, Ending}
use Rattle.script_terms.specs.Bound.{name_at}
use Rattle.script_read.specs.Outlines.{At, Outline as OutlineOf, passing, global_option, sort_declaration, sort_definition, symbol_declaration, symbol_definition, assertion, checking, assuming, pushing, popping, resetting, resetting_assertions, ending}
use Rattle.script_terms.specs.Places.{IsForm, form_from, forms_from}

abbrev pub named_at : List Token → ℕ → At Name
named_at ts i = record { it = name_at ts i; place = (token_at ts i).start }

abbrev pub counted_at : List Token → ℕ → At ℕ
counted_at ts i = record { it = digits_value 10 (token_at ts i).text; place = (token_at ts i).start }

abbrev pub listed_at : List Token → Option ℕ → Forms
listed_at ts None = none
listed_at ts (Some i) = forms_from ts i

abbrev pub outline_seen : List Token → Outline → OutlineOf
outline_seen ts Passing = passing
outline_seen ts (GlobalOption i) = global_option (option_map (form_from ts) i)
outline_seen ts (SortDeclaration n i) = sort_declaration (named_at ts n) (counted_at ts i)
outline_seen ts (SortDefinition n ps s) = sort_definition (named_at ts n) (forms_from ts ps) (form_from ts s)
outline_seen ts (SymbolDeclaration n ss s) = symbol_declaration (named_at ts n) (listed_at ts ss) (form_from ts s)
outline_seen ts (SymbolDefinition n ps s body) = symbol_definition (named_at ts n) (forms_from ts ps) (form_from ts s) (form_from ts body)
outline_seen ts (Assertion i) = assertion (form_from ts i)
outline_seen ts Checking = checking
outline_seen ts (Assuming i) = assuming (forms_from ts i)
outline_seen ts (Pushing i) = pushing (option_map (counted_at ts) i)
outline_seen ts (Popping i) = popping (option_map (counted_at ts) i)
outline_seen ts Resetting = resetting
outline_seen ts ResettingAssertions = resetting_assertions
outline_seen ts Ending = ending

-- a symbol; a numeral; a place in a list
pub record IsNameAt (ts : List Token) (i : ℕ) : Type 0 where
  pub form : IsForm ts i
  pub symbol : symbol_of (token_at ts i) ≡ Some (name_at ts i)

pub record IsNumeralAt (ts : List Token) (i : ℕ) : Type 0 where
  pub form : IsForm ts i
  pub item : (token_at ts i).item ≡ Numeral

abbrev pub IsPlaceIn : List Token → ℕ → Type 0
IsPlaceIn ts i = i ≤ length ts

abbrev pub IfGiven : (ℕ → Type 0) → Option ℕ → Type 0
IfGiven P None = Unit {0}
IfGiven P (Some i) = P i

-- the parts are what they have to be
abbrev pub IsOutline : List Token → Outline → Type 0
IsOutline ts (GlobalOption i) = IfGiven (IsForm ts) i
IsOutline ts (SortDeclaration n i) = IsNameAt ts n × IsNumeralAt ts i
IsOutline ts (SortDefinition n ps s) = IsNameAt ts n × IsPlaceIn ts ps × IsForm ts s
IsOutline ts (SymbolDeclaration n ss s) = IsNameAt ts n × IfGiven (IsPlaceIn ts) ss × IsForm ts s
IsOutline ts (SymbolDefinition n ps s body) = IsNameAt ts n × IsPlaceIn ts ps × IsForm ts s × IsForm ts body
IsOutline ts (Assertion i) = IsForm ts i
IsOutline ts (Assuming i) = IsPlaceIn ts i
IsOutline ts (Pushing i) = IfGiven (IsNumeralAt ts) i
IsOutline ts (Popping i) = IfGiven (IsNumeralAt ts) i
IsOutline ts _ = Unit {0}
