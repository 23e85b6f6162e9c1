use Rattle.std.proofs.Common.{◌≡◌, List, All, map, ap, sym, ◌∙◌, subst}
use Rattle.std.proofs.lemmas.List.Elements.{All-weaker}
use Rattle.smt_lex.specs.Forms.{Form, Forms}
use Rattle.smt_lex.specs.Names.{Name}
use Rattle.smt_terms.specs.declared.ids.SortId.{SortId}
use Rattle.smt_terms.specs.Fresh.{NeverGives}
use Rattle.smt_terms.specs.Sorts.{Symbol}
use Rattle.smt_values.specs.SortIds.{sort_at, IsSortId, IsPlain}
use Rattle.term_table.specs.Formulas.{Formulas, symbol_at, symbol_over}
use Rattle.term_walk.specs.Walking.{GrowsTo}
use Rattle.term_walk.proofs.Visits.{table-grows}
use Rattle.script_terms.specs.Bound.{name_at}
use Rattle.script_terms.specs.Known.{IsEntry, symbol_meant, with_entry}
use Rattle.script_terms.specs.Places.{form_from}
use Rattle.script_read.specs.ShapeClauses.{named_at, listed_at}
use Rattle.script_terms.specs.Replies.{refused_seen}
use Rattle.script_read.specs.Script.{symbol_of_sorts}
use Rattle.script_terms.specs.SortForms.{sort_in, sorts_in}
use Rattle.script_read.specs.Steps.{one}
use Rattle.script_terms.proofs.Grown.{grown_self, grown_symbols, later_self, same_map, sort_stays, symbol_stays}
use Rattle.script_terms.proofs.Lexemes.{symbol_plain}
use Rattle.script_terms.proofs.Placing.{form_within}
use Rattle.script_terms.proofs.Showing.{sorts_found, sorts_known_stay}
use Rattle.script_read.proofs.SessionSteps.{steps_refused, refuses_whole, arguments_refused, result_refused, symbol_declared}
use Rattle.script_read.proofs.NewNames.{declarable_refused}
use Rattle.script_read.proofs.session.symbols.declare_symbol.Goals as goal

-- the symbol over sorts that were read in an earlier table
over_earlier : (t u : Formulas) (n : Name) (m : Name) (ks : List SortId) (k : SortId) → GrowsTo t u → All (IsSortId t.sorts) ks → m ≡ n → symbol_over u.sorts m ks k ≡ symbol_of_sorts n (map (sort_at t.sorts) ks) (sort_at u.sorts k)
over_earlier t u n m ks k grows within is =
    ap (λ j. symbol_over u.sorts j ks k) is
    ∙ ap (λ args. symbol_of_sorts n args (sort_at u.sorts k)) (same_map (sort_at u.sorts) (sort_at t.sorts) ks (All-weaker (IsSortId t.sorts) (λ j. sort_at u.sorts j ≡ sort_at t.sorts j) (sort_stays t.sorts u.sorts grows.sorts) ks within))

pub returns-in_err-check_new_name-clause-step : goal.returns-in_err-check_new_name-clause-step
returns-in_err-check_new_name-clause-step c = λ s stands.
    steps_refused one c.args.table.now _ _ c.from_residual.result _ c.from_residual.ensures.1
    (declarable_refused s.sofar.live (named_at c.args.forest.now.tokens c.args.name) _ (refused_seen c.in_err-check_new_name.field-0.0) (c.in_err-check_new_name.ensures.test c.args.table.now c.args.session.now.sofar.fresh s.sofar.live stands.shows))

pub returns-in_err-arguments-clause-step : goal.returns-in_err-arguments-clause-step
returns-in_err-arguments-clause-step c = λ s stands.
    let arguments : Forms = listed_at c.args.forest.now.tokens c.args.arguments in
    steps_refused one c.argument_sorts.new.table _ _ c.from_residual-in_err-arguments.result c.in_err-arguments.field-0.0 c.from_residual-in_err-arguments.ensures.1
    (refuses_whole _ _ c.in_err-arguments.field-0.0
    (λ e refused. arguments_refused c.args.table.now c.args.table.now c.args.session.now s stands (grown_self c.args.table.now) (named_at c.args.forest.now.tokens c.args.name) arguments (form_from c.args.forest.now.tokens c.args.sort)
    c.in_ok-check_new_name.field-0 (c.in_ok-check_new_name.ensures.test c.args.table.now c.args.session.now.sofar.fresh s.sofar.live stands.shows)
    e (ap (λ known. sorts_in known arguments) (sym (sorts_found c.args.table.now c.args.session.now.sofar.scope s.sofar.live stands.shows.sorts)) ∙ refused))
    c.in_err-arguments.ensures.sorts)

pub returns-in_err-sort-clause-step : goal.returns-in_err-sort-clause-step
returns-in_err-sort-clause-step c = λ s stands.
    let arguments : Forms = listed_at c.args.forest.now.tokens c.args.arguments in
    let to : Form = form_from c.args.forest.now.tokens c.args.sort in
    steps_refused one c.read_sort.new.table _ _ c.from_residual-in_err-sort.result c.in_err-sort.field-0.0 c.from_residual-in_err-sort.ensures.1
    (refuses_whole _ _ c.in_err-sort.field-0.0
    (λ e refused. result_refused c.args.table.now c.args.table.now c.args.session.now s stands (grown_self c.args.table.now) (named_at c.args.forest.now.tokens c.args.name) arguments to
    c.in_ok-check_new_name.field-0 (c.in_ok-check_new_name.ensures.test c.args.table.now c.args.session.now.sofar.fresh s.sofar.live stands.shows)
    _ e
    (ap (λ known. sorts_in known arguments) (sym (sorts_found c.args.table.now c.args.session.now.sofar.scope s.sofar.live stands.shows.sorts)) ∙ c.in_ok-arguments.ensures.sorts)
    (ap (λ known. sort_in known to) (sym (sorts_known_stay c.args.table.now c.argument_sorts.new.table c.args.session.now.sofar.fresh c.args.session.now.sofar.fresh c.in_ok-arguments.ensures.grows (later_self c.args.session.now.sofar.fresh) c.args.session.now.sofar.scope s.sofar.live stands.shows)) ∙ refused))
    c.in_err-sort.ensures.sort)

pub symbol-requires-clause-name : goal.symbol-requires-clause-name
symbol-requires-clause-name c =
    subst IsPlain (sym c.name.ensures) (symbol_plain c.args.forest.now.bytes c.args.forest.now.tokens c.args.name _ c.requires.read c.requires.name.symbol)

pub returns-clause-step : goal.returns-clause-step
returns-clause-step c = λ s stands.
    let arguments : Forms = listed_at c.args.forest.now.tokens c.args.arguments in
    let to : Form = form_from c.args.forest.now.tokens c.args.sort in
    let made : GrowsTo c.read_sort.new.table c.symbol.new.self = grown_symbols c.read_sort.new.table c.symbol.new.self c.in_ok-symbol.ensures.grows c.in_ok-symbol.ensures.sorts c.in_ok-symbol.ensures.trees in
    let read : GrowsTo c.args.table.now c.symbol.new.self = table-grows c.args.table.now c.argument_sorts.new.table c.symbol.new.self c.in_ok-arguments.ensures.grows (table-grows c.argument_sorts.new.table c.read_sort.new.table c.symbol.new.self c.in_ok-sort.ensures.grows made) in
    let grows : GrowsTo c.args.table.now c.symbol_entry.new.table = table-grows c.args.table.now c.symbol.new.self c.symbol_entry.new.table read c.in_ok-entry.ensures.grows in
    let k = c.in_ok-symbol.symbol in
    let is : symbol_at c.symbol.new.self k ≡ symbol_of_sorts (name_at c.args.forest.now.tokens c.args.name) (map (sort_at c.argument_sorts.new.table.sorts) c.in_ok-arguments.arguments.items) (sort_at c.read_sort.new.table.sorts c.in_ok-sort.sort) =
    c.in_ok-symbol.ensures.symbol ∙ ap (λ ks. symbol_over c.read_sort.new.table.sorts c.name.result.now ks c.in_ok-sort.sort) c.deref.ensures.value ∙ over_earlier c.argument_sorts.new.table c.read_sort.new.table (name_at c.args.forest.now.tokens c.args.name) c.name.result.now c.in_ok-arguments.arguments.items c.in_ok-sort.sort c.in_ok-sort.ensures.grows c.in_ok-arguments.ensures.within c.name.ensures in
    let never : NeverGives c.args.session.now.sofar.fresh (name_at c.args.forest.now.tokens c.args.name) =
    c.requires.text c.args.name (name_at c.args.forest.now.tokens c.args.name) (form_within c.args.forest.now.tokens c.args.name c.requires.name.form) c.requires.name.symbol in
    let named : (symbol_at c.symbol.new.self k).name ≡ name_at c.args.forest.now.tokens c.args.name = ap (λ (g : Symbol). g.name) is in
    symbol_declared c.args.table.now c.symbol_entry.new.table c.args.session.now s stands grows (named_at c.args.forest.now.tokens c.args.name) arguments to
    c.in_ok-check_new_name.field-0 (c.in_ok-check_new_name.ensures.test c.args.table.now c.args.session.now.sofar.fresh s.sofar.live stands.shows)
    (map (sort_at c.argument_sorts.new.table.sorts) c.in_ok-arguments.arguments.items) (sort_at c.read_sort.new.table.sorts c.in_ok-sort.sort) k c.in_ok-entry.entry c.bind.new.self
    (ap (λ known. sorts_in known arguments) (sym (sorts_found c.args.table.now c.args.session.now.sofar.scope s.sofar.live stands.shows.sorts)) ∙ c.in_ok-arguments.ensures.sorts)
    (ap (λ known. sort_in known to) (sym (sorts_known_stay c.args.table.now c.argument_sorts.new.table c.args.session.now.sofar.fresh c.args.session.now.sofar.fresh c.in_ok-arguments.ensures.grows (later_self c.args.session.now.sofar.fresh) c.args.session.now.sofar.scope s.sofar.live stands.shows)) ∙ c.in_ok-sort.ensures.sort)
    (symbol_stays c.symbol.new.self c.symbol_entry.new.table c.in_ok-entry.ensures.grows k c.in_ok-symbol.ensures.within ∙ is)
    (subst (λ n. IsEntry c.symbol_entry.new.table c.args.session.now.sofar.fresh c.args.session.now.sofar.scope.definitions n c.in_ok-entry.entry) named
    (c.in_ok-entry.ensures.entry c.args.session.now.sofar.fresh c.args.session.now.sofar.scope.definitions (subst (NeverGives c.args.session.now.sofar.fresh) (sym named) never)))
    (c.in_ok-entry.ensures.meant c.args.session.now.sofar.scope.definitions ∙ ap symbol_meant is)
    (c.in_ok-bind.ensures.entry ∙ ap (λ n. with_entry n c.in_ok-entry.entry c.args.session.now.sofar.scope) c.name-2.ensures)
