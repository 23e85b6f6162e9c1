use Rattle.std.proofs.Common.{◌∙◌, ap, subst, List, map}
use Rattle.std.proofs.lemmas.Result.{err_from_is_err_and}
use Rattle.smt_terms.specs.declared.ids.SymId.{SymId}
use Rattle.term_table.specs.Formulas.{symbol_at}
use Rattle.models.specs.ModelView.{model_at}
use Rattle.passes.specs.declared.searching.LiveSymbol.{LiveSymbol}
use Rattle.passes.specs.LiveSymbols.{live_at, given_at, with_defaults, AreValues}
use Rattle.passes.proofs.LiveStages.{live_given}
use Rattle.passes.proofs.carrying.give.Goals as goal

pub returns-in_err-define_defaults : goal.returns-in_err-define_defaults
returns-in_err-define_defaults c = let p = err_from_is_err_and c.from_residual-in_err-define_defaults.result c.from_residual-in_err-define_defaults.ensures.1 in rw (p.1, p.2) tt

pub returns-in_err-define_each : goal.returns-in_err-define_each
returns-in_err-define_each c = let p = err_from_is_err_and c.from_residual-in_err-define_each.result c.from_residual-in_err-define_each.ensures.1 in rw (p.1, p.2) tt

pub returns : goal.returns
returns c =
    let t = c.args.table.now in
    let defaults = c.in_ok-define_defaults.ensures in
    let each = c.in_ok-define_each.ensures in
    let are = subst (λ (ls : List LiveSymbol). AreValues t c.args.model.now (map (given_at t) ls) c.in_ok-values.values.items) c.as_slice-given.ensures.value c.in_ok-values.ensures in
    let left = c.leave_out.ensures in
    let idle = defaults.model ∙ ap (λ (fs : List SymId). with_defaults (map (symbol_at t) fs) (model_at t c.leave_out.new.model)) c.as_slice-idle.ensures.value in
    record {
      within = are.within;
      model = live_given t (live_at t c.args.live.now) c.args.is_removal c.args.model.now c.leave_out.new.model c.define_defaults.new.model c.define_each.new.model c.in_ok-values.values.items are left.model idle each.model;
      numbers = each.numbers (defaults.numbers left.numbers);
      valid = each.valid defaults.valid;
    }
