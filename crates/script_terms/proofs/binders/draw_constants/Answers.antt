use Rattle.std.proofs.Common.{◌≡◌, ◌++◌, get_or, ap, sym, ◌∙◌, append-nil}
use Rattle.std.proofs.lemmas.List.{drop_all}
use Rattle.smt_terms.specs.Sorts.{Variable}
use Rattle.smt_terms.specs.declared.ids.SymId.{SymId}
use Rattle.term_table.specs.Formulas.{symbol_at, no_symbol}
use Rattle.term_walk.proofs.Visits.{table-grows}
use Rattle.script_terms.specs.declared.binders.SortedName.{SortedName}
use Rattle.script_terms.specs.BinderSteps.{drawn_for, all_drawn}
use Rattle.script_terms.specs.Bound.{is_taken_in, symbols_seen, variable_seen, variables_seen}
use Rattle.script_terms.proofs.Grown.{later_on}
use Rattle.script_terms.proofs.DrawnConstants.{spares_later, drawn-left, drawn-symbols, symbols_stay, symbols-put, same_variable, constants-put, drawn-next, left-next}
use Rattle.script_terms.proofs.binders.draw_constants.Goals as goal

pub drawn_symbol-requires-clause-text : goal.drawn_symbol-requires-clause-text
drawn_symbol-requires-clause-text c = spares_later c.args.forest.now.tokens c.args.fresh.now c.loop-variable.fresh c.loop-variable.invariant.later c.requires.text

pub loop-variable-preserved : goal.loop-variable-preserved
loop-variable-preserved c =
    let inv = c.loop-variable.invariant in
    let ts = c.args.forest.now.tokens in
    let is_taken = is_taken_in c.args.scope.now c.args.locals.now in
    let t = c.args.table.now in
    let u = c.loop-variable.table in
    let v = c.drawn_symbol.new.table in
    let w = c.constant.new.table in
    let s = c.loop-variable.fresh in
    let r = c.drawn_symbol.new.fresh in
    let xs = c.args.variables.now in
    let i = c.loop-variable.variable-index in
    let d : SortedName = record { name = 0; sort = record { 0 = 0 } } in
    let x = get_or xs i d in
    let k = c.in_ok-constant.field-0 in
    let cs = c.loop-variable.constants.items in
    let ds = c.push.new.self.items in
    let grows = table-grows u v w c.drawn_symbol.ensures.grows c.constant.ensures.grows in
    let same : variable_seen u ts x ≡ variable_seen t ts x = same_variable t u ts x inv.sorts in
    let here : symbol_at w k.symbol ≡ (drawn_for is_taken (variable_seen t ts x) s).0 =
    ap (λ (fs : SymId). symbol_at w fs) c.in_ok-constant.ensures.symbol
    ∙ ap (λ fs. get_or fs c.in_ok-symbol.symbol.0 no_symbol) c.in_ok-constant.ensures.symbols
    ∙ c.in_ok-symbol.ensures.symbol
    ∙ ap (λ (y : Variable). (drawn_for is_taken y s).0) same in
    let left : r ≡ (drawn_for is_taken (variable_seen t ts x) s).1 = c.in_ok-symbol.ensures.left ∙ ap (λ (y : Variable). (drawn_for is_taken y s).1) same in
    record {
      symbols = drawn-next is_taken t ts xs i d s _ (symbols_seen u cs) (symbols_seen w ds) r c.loop-variable-test.true inv.symbols (symbols-put u w cs ds k (drawn_for is_taken (variable_seen t ts x) s).0 (symbols_stay u w s cs grows inv.constants) here c.in_ok-push.ensures.items) left;
      left = left-next is_taken t ts xs i d s _ r c.loop-variable-test.true inv.left left;
      constants = constants-put w cs ds k u s r grows c.drawn_symbol.ensures.later inv.constants (c.in_ok-constant.ensures.constant r c.in_ok-symbol.ensures.spared) c.in_ok-push.ensures.items;
      later = later_on c.args.fresh.now s r inv.later c.drawn_symbol.ensures.later;
      grows = table-grows t u w inv.grows grows;
      sorts = c.constant.ensures.sorts ∙ c.drawn_symbol.ensures.sorts ∙ inv.sorts;
    }

pub returns-clause-names : goal.returns-clause-names
returns-clause-names c =
    let ts = c.args.forest.now.tokens in
    let is_taken = is_taken_in c.args.scope.now c.args.locals.now in
    let t = c.args.table.now in
    let xs = c.args.variables.now in
    sym (drawn-left is_taken (variables_seen t ts xs) c.args.fresh.now ∙ c.loop-variable.invariant.left ∙ ap (λ ys. (all_drawn is_taken (variables_seen t ts ys) c.loop-variable.fresh).1) (drop_all c.loop-variable.variable-index xs c.loop-variable-test.false))

pub returns-clause-symbols : goal.returns-clause-symbols
returns-clause-symbols c =
    let ts = c.args.forest.now.tokens in
    let is_taken = is_taken_in c.args.scope.now c.args.locals.now in
    let t = c.args.table.now in
    let xs = c.args.variables.now in
    let fs = symbols_seen c.loop-variable.table c.loop-variable.constants.items in
    sym (drawn-symbols is_taken (variables_seen t ts xs) c.args.fresh.now ∙ c.loop-variable.invariant.symbols ∙ ap (λ ys. fs ++ (all_drawn is_taken (variables_seen t ts ys) c.loop-variable.fresh).0) (drop_all c.loop-variable.variable-index xs c.loop-variable-test.false) ∙ append-nil fs)
