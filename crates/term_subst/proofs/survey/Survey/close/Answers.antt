use Rattle.std.proofs.Common.{List, filter, not, refl, sym, ap, subst, ◌∙◌}
use Rattle.smt_terms.specs.declared.ids.SymId.{SymId}
use Rattle.smt_terms.specs.Free.{is_among, with_more}
use Rattle.term_walk.specs.FreeLists.{named, EachOnce}
use Rattle.term_subst.specs.State.{variables_at}
use Rattle.term_subst.specs.Surveying.{symbols_in}
use Rattle.term_subst.proofs.NamesFound.{lists-put}
use Rattle.term_subst.proofs.Surveyed.{closed-free, closed-once, closed-surveys}
use Rattle.term_subst.proofs.survey.Survey.close.Goals as goal

pub list_all-requires-clause-once : goal.list_all-requires-clause-once
list_all-requires-clause-once c =
    let t = c.args.table.now in
    let x = c.args.self.now in
    let rest = c.in_ok-free.ensures.names ∙ ap (λ (fs : List SymId). filter (λ f. not (is_among (named t c.in_ok-bound.bound.keys) f)) (named t fs)) c.as_slice.ensures.keys in
    let once =
    closed-once t x.scope c.args.inner x.tasks c.requires.surveys.0 c.requires.surveys.1 (variables_at t c.split.result.0.now) c.in_ok-bound.bound.keys c.in_ok-free.free.items c.in_ok-bound.ensures.names c.split.ensures.bound rest
    c.in_ok-free.ensures.symbols in
    subst (λ (fs : List SymId). EachOnce (named t fs)) (sym c.deref.ensures.value) once

pub returns-clause-lists : goal.returns-clause-lists
returns-clause-lists c =
    let t = c.args.table.now in
    let x = c.args.self.now in
    let rest = c.in_ok-free.ensures.names ∙ ap (λ (fs : List SymId). filter (λ f. not (is_among (named t c.in_ok-bound.bound.keys) f)) (named t fs)) c.as_slice.ensures.keys in
    let free =
    closed-free t x.scope c.args.inner x.tasks c.requires.surveys.0 c.requires.surveys.1 (variables_at t c.split.result.0.now) c.in_ok-bound.bound.keys c.in_ok-free.free.items c.in_ok-bound.ensures.names c.split.ensures.bound rest
    c.in_ok-free.ensures.symbols in
    lists-put t c.args.lists.now c.put.new.self c.args.inner.node c.in_ok-free.free c.requires.lists c.requires.surveys.1.tasks_are.0.node free c.in_ok-put.ensures

pub returns-clause-surveys : goal.returns-clause-surveys
returns-clause-surveys c = λ goal surveys.
    (let t = c.args.table.now in
    let x = c.args.self.now in
    let rest = c.in_ok-free.ensures.names ∙ ap (λ (fs : List SymId). filter (λ f. not (is_among (named t c.in_ok-bound.bound.keys) f)) (named t fs)) c.as_slice.ensures.keys in
    let listed = c.in_ok-list_all.ensures.names ∙ ap (λ (fs : List SymId). with_more (symbols_in t c.args.inner.outer) (named t fs)) c.deref.ensures.value in
    closed-surveys t x.scope c.args.inner x.tasks goal surveys (variables_at t c.split.result.0.now) c.in_ok-bound.bound.keys c.in_ok-free.free.items c.in_ok-bound.ensures.names c.split.ensures.bound rest
    c.in_ok-free.ensures.symbols (record { symbols = c.list_all.new.listed; nodes = c.args.inner.outer.nodes }) refl listed c.in_ok-list_all.ensures.symbols)
