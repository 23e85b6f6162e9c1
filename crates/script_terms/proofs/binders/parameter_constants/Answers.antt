use Rattle.std.proofs.Common.{◌≡◌, ◌++◌, ◌∷◌, List, [], get_or, ap, sym, ◌∙◌, subst}
use Rattle.smt_terms.specs.Fresh.{NeverGives}
use Rattle.smt_terms.specs.Sorts.{Symbol}
use Rattle.smt_terms.specs.declared.ids.SymId.{SymId}
use Rattle.smt_terms.specs.Subst.{parameter}
use Rattle.smt_values.specs.SortIds.{sort_at}
use Rattle.term_table.specs.Formulas.{symbol_at, no_symbol}
use Rattle.term_walk.proofs.Visits.{table-grows}
use Rattle.script_terms.specs.declared.binders.SortedName.{SortedName}
use Rattle.script_terms.proofs.Grown.{later_self}
use Rattle.script_terms.proofs.NameFacts.{parameter_never}
use Rattle.script_terms.proofs.DrawnConstants.{symbols_stay, symbols-put, constants-put, parameters-next}
use Rattle.script_terms.proofs.binders.parameter_constants.Goals as goal

pub loop-number-preserved : goal.loop-number-preserved
loop-number-preserved c =
    let inv = c.loop-number.invariant in
    let t = c.args.table.now in
    let u = c.loop-number.table in
    let v = c.parameter_symbol.new.table in
    let w = c.constant.new.table in
    let xs = c.args.variables.now in
    let i = c.loop-number.number in
    let d : SortedName = record { name = 0; sort = record { 0 = 0 } } in
    let x = get_or xs i d in
    let k = c.in_ok-constant.field-0 in
    let cs = c.loop-number.constants.items in
    let ds = c.push.new.self.items in
    let grows = table-grows u v w c.parameter_symbol.ensures.grows c.constant.ensures.grows in
    let there : symbol_at v c.in_ok-symbol.symbol ≡ parameter i (sort_at t.sorts x.sort) =
    c.in_ok-symbol.ensures.symbol ∙ ap (λ ss. parameter i (sort_at ss x.sort)) inv.sorts in
    let here : symbol_at w k.symbol ≡ parameter i (sort_at t.sorts x.sort) =
    ap (λ (f : SymId). symbol_at w f) c.in_ok-constant.ensures.symbol
    ∙ ap (λ fs. get_or fs c.in_ok-symbol.symbol.0 no_symbol) c.in_ok-constant.ensures.symbols
    ∙ there in
    record {
      symbols =
          symbols-put u w cs ds k (parameter i (sort_at t.sorts x.sort)) (symbols_stay u w (record { taken = []; number = 0 }) cs grows (inv.constants (record { taken = []; number = 0 }))) here c.in_ok-push.ensures.items
          ∙ ap (λ (fs : List Symbol). fs ++ parameter i (sort_at t.sorts x.sort) ∷ []) inv.symbols
          ∙ sym (parameters-next (λ y. sort_at t.sorts y.sort) xs i d c.loop-number-test.true);
      constants = λ supply.
          constants-put w cs ds k u supply supply grows (later_self supply) (inv.constants supply)
          (c.in_ok-constant.ensures.constant supply (subst (λ (f : Symbol). NeverGives supply f.name) (sym there) (parameter_never i (sort_at t.sorts x.sort) supply)))
          c.in_ok-push.ensures.items;
      grows = table-grows t u w inv.grows grows;
      sorts = c.constant.ensures.sorts ∙ c.parameter_symbol.ensures.sorts ∙ inv.sorts;
    }
