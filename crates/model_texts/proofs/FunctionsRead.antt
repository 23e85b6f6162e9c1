-- Printed functions are read as entries of a name, parameters, a sort and a body, and the entries give the functions' tables.
use Rattle.std.proofs.Common.{◌≡◌, ℕ, suc, false, Some, List, [], ◌∷◌, ◌++◌, map, refl, ap, sym, ◌∙◌, subst}
use Rattle.std.specs.Prelude.{codes}
use Rattle.smt_lex.specs.Forms.{Form, none, forms_of_list}
use Rattle.smt_lex.specs.Names.{is_among, is_syntax_word, is_command_word}
use Rattle.smt_terms.specs.Models.{Graph}
use Rattle.smt_terms.specs.Sorts.{Symbol}
use Rattle.smt_terms.specs.Values.{Sizes}
use Rattle.smt_terms.proofs.Tests.{and_true}
use Rattle.script_terms.specs.Parts.{place_of}
use Rattle.script_read.proofs.FormTexts.{end_of, placed, placed_in}
use Rattle.script_read.specs.Commands.{Signature}
use Rattle.term_table.specs.WrittenForms.{word_form, symbol_form, list_form, sort_form, variable_form}
use Rattle.smt_print.proofs.SymbolsRead.{symbol_read}
use Rattle.model_texts.specs.Reading.{◌>>=◌, gives}
use Rattle.model_texts.specs.ValueForms.{is_sort_form}
use Rattle.model_texts.specs.Tables.{body_in}
use Rattle.model_texts.specs.Entries.{Entry, function, parameters_in, function_entry, entry_in, symbol_named, Given, have_sorts, with_table, function_given, entry_given}
use Rattle.model_texts.specs.ModelLines.{value_form, parameters, rows_form, function_form}
use Rattle.model_texts.proofs.BodiesRead.{RowsRead, body_read}
use Rattle.model_texts.proofs.Knowing.{Gives, gives_it, gives_next}
use Rattle.model_texts.proofs.ParametersRead.{ParametersRead, parameters_read}
use Rattle.model_texts.proofs.Placed.{has_placed}
use Rattle.model_texts.proofs.ValuesRead.{IsReadAs, gives_same}

module _ (sizes : Sizes) where
  -- the rows and the other value of a function are read
  pub record IsRead (f : Symbol) (g : Graph) : Type 0 where
    pub rows : RowsRead sizes (parameters 0 f.args) f.result g.rows
    pub otherwise : IsReadAs sizes f.result (value_form f.result g.otherwise) g.otherwise

  module _ (sig : Signature) (f : Symbol) (g : Graph) (p : ℕ) where
    body : Form
    body = rows_form (parameters 0 f.args) f.result g.rows (value_form f.result g.otherwise)

    name_place : ℕ
    name_place = suc (end_of (suc p) (word_form (codes "define-fun")))

    list_place : ℕ
    list_place = suc (end_of name_place (symbol_form f.name))

    sort_place : ℕ
    sort_place = suc (end_of list_place (list_form (map variable_form (parameters 0 f.args))))

    body_place : ℕ
    body_place = suc (end_of sort_place (sort_form f.result))

    read : ParametersRead f.args (parameters 0 f.args) (placed_in (suc list_place) (forms_of_list (map variable_form (parameters 0 f.args))) none)
    read = parameters_read f.args (suc list_place)

    entry : Entry
    entry = function f.name read.parameters (placed sort_place (sort_form f.result)) (placed body_place body)

    function_read : entry_in (placed p (function_form f g)) ≡ Some entry
    unfolding is_syntax_word is_command_word name_place list_place sort_place body_place body entry
    function_read =
        ap (λ o. function_entry (placed sort_place (sort_form f.result)) (placed body_place body) o (parameters_in (placed_in (suc list_place) (forms_of_list (map variable_form (parameters 0 f.args))) none))) (symbol_read f.name)
        ∙ ap (function_entry (placed sort_place (sort_form f.result)) (placed body_place body) (Some f.name)) read.read

    abbrev with_it : List Given → List Given
    with_it gs = gs ++ record { name = f.name; graph = g } ∷ []

    table_given : (gs : List Given) → IsRead f g → Gives sizes (with_table gs f read.parameters (placed body_place body)) (with_it gs)
    unfolding body
    table_given gs is =
        let rest = λ (g : Graph). gives (gs ++ record { name = f.name; graph = g } ∷ []) in
        subst (λ xs. Gives sizes (body_in (placed body_place body) xs f.result >>= rest) (with_it gs)) (sym read.are.variables)
        (gives_next sizes (body_in (placed body_place body) (parameters 0 f.args) f.result) rest g (with_it gs)
        (body_read sizes (parameters 0 f.args) f.result g.rows g.otherwise is.rows is.otherwise body_place) (gives_it sizes (with_it gs)))

    given_unless : (gs : List Given) (place : ℕ) → is_among (map (λ g. g.name) gs) f.name ≡ false
        → function_given place gs (Some f) read.parameters (placed sort_place (sort_form f.result)) (placed body_place body) ≡ with_table gs f read.parameters (placed body_place body)
    given_unless gs place new =
        let sorts = and_true (have_sorts f.args read.parameters) (is_sort_form f.result (placed sort_place (sort_form f.result))) read.are.sorts (has_placed (sort_form f.result) sort_place) in
        rw (new, sorts) refl

    -- a function that has no table yet
    pub function_gives : (gs : List Given) → symbol_named sig f.name ≡ Some f → is_among (map (λ g. g.name) gs) f.name ≡ false → IsRead f g
        → Gives sizes (entry_given sig gs (place_of (placed p (function_form f g))) (entry_in (placed p (function_form f g)))) (with_it gs)
    unfolding entry
    function_gives gs named new is =
        let s = placed sort_place (sort_form f.result) in
        let b = placed body_place body in
        gives_same sizes (entry_given sig gs (place_of (placed p (function_form f g))) (entry_in (placed p (function_form f g)))) (with_table gs f read.parameters b) (with_it gs)
        (ap (entry_given sig gs p) function_read ∙ ap (λ o. function_given p gs o read.parameters s b) named ∙ given_unless gs p new)
        (table_given gs is)
