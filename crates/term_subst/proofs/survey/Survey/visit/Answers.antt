use Rattle.std.proofs.Common.{All, refl, sym, ap, subst, ◌∙◌}
use Rattle.smt_terms.specs.Free.{with_more}
use Rattle.term_table.specs.Formulas.{tree, IsSymbol}
use Rattle.term_walk.specs.FreeLists.{named, EachOnce}
use Rattle.term_subst.specs.Surveying.{symbols_in, tasks_at}
use Rattle.term_subst.proofs.SymbolLists.{once-free}
use Rattle.term_subst.proofs.Surveyed.{visited, listed-now}
use Rattle.term_subst.proofs.Turns.{load-some}
use Rattle.term_subst.proofs.survey.Survey.visit.Goals as goal

pub returns-then-contains-clause-surveys : goal.returns-then-contains-clause-surveys
returns-then-contains-clause-surveys c = λ goal surveys. visited c.args.table.now c.args.self.now.scope c.args.node c.args.self.now.tasks goal (sym c.contains.ensures ∙ c.if-contains.true) surveys

pub returns-then-contains-clause-nearer : goal.returns-then-contains-clause-nearer
returns-then-contains-clause-nearer c = load-some (tree c.args.table.now c.args.node) (tasks_at c.args.table.now c.args.self.now.tasks)

pub list_all-requires-clause-symbols : goal.list_all-requires-clause-symbols
list_all-requires-clause-symbols c =
    let found = c.requires.lists c.args.node c.in-Some.symbols.now (sym c.in-Some.ensures) in
    subst (All (IsSymbol c.args.table.now)) (sym c.as_slice.ensures.value) found.1.symbols

pub list_all-requires-clause-once : goal.list_all-requires-clause-once
list_all-requires-clause-once c =
    let t = c.args.table.now in
    let found = c.requires.lists c.args.node c.in-Some.symbols.now (sym c.in-Some.ensures) in
    subst EachOnce (sym (ap (named t) c.as_slice.ensures.value ∙ found.1.names)) (once-free (tree t c.args.node))

pub returns-in_ok-list_all-in-Some-clause-surveys : goal.returns-in_ok-list_all-in-Some-clause-surveys
returns-in_ok-list_all-in-Some-clause-surveys c = λ goal surveys.
    (let t = c.args.table.now in
    let x = c.args.self.now in
    let found = c.requires.lists c.args.node c.in-Some.symbols.now (sym c.in-Some.ensures) in
    let names = c.in_ok-list_all-in-Some.ensures.names ∙ ap (with_more (symbols_in t x.scope)) (ap (named t) c.as_slice.ensures.value ∙ found.1.names) in
    listed-now t x.scope (record { symbols = c.list_all.new.listed; nodes = x.scope.nodes }) c.args.node x.tasks goal refl names c.in_ok-list_all-in-Some.ensures.symbols surveys)

pub returns-in_ok-list_all-in-Some-clause-nearer : goal.returns-in_ok-list_all-in-Some-clause-nearer
returns-in_ok-list_all-in-Some-clause-nearer c = load-some (tree c.args.table.now c.args.node) (tasks_at c.args.table.now c.args.self.now.tasks)
