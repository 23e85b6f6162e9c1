use Rattle.std.proofs.Common.{◌≡◌, ◌∙◌, ℕ, sym, ap, subst, map, List}
use Rattle.smt_terms.specs.declared.ids.NodeId.{NodeId}
use Rattle.smt_terms.specs.Sorts.{Symbol}
use Rattle.term_table.specs.Formulas.{trees_at, AreNodes}
use Rattle.script_read.specs.CommandLists.{commands_of}
use Rattle.script_read.specs.Commands.{signature}
use Rattle.dimacs_link.specs.AnswerModels.{AreFlags}
use Rattle.dimacs_link.specs.CheckFaults.{fault_at, IsLinkCheckFault}
use Rattle.models.specs.LiveRoots.{flags}
use Rattle.dimacs_link.specs.Clauses.{IsLinkFault}
use Rattle.dimacs_link.specs.Constants.{constants_at, AreConstants}
use Rattle.dimacs_link.specs.Laws.{AreClauses}
use Rattle.dimacs_link.proofs.LinkedChecks.{flags_are, flags_constants}
use Rattle.dimacs_link.proofs.UnlinkedRoots.{live_nodes, linked, unlinked}
use Rattle.dimacs_link.proofs.checks.clause_constants.Goals as goal
use Rattle.dimacs_link.proofs.checks.clause_constants.Goals.{After-as_slice-3}

-- the roots are the nodes of what is live
roots_so : (c : After-as_slice-3) → c.as_slice-2.result.now ≡ map (λ l. l.0) c.in_ok-lives.lives.items
roots_so c =
    c.as_slice-2.ensures.value ∙ c.in_ok-roots.ensures
    ∙ ap (λ (ls : List (NodeId × ℕ)). map (λ l. l.0) ls) c.as_slice.ensures.value

-- and the constants are those of the check
constants_so : (c : After-as_slice-3) → constants_at c.args.table.now c.as_slice-3.result.now ≡ flags (commands_of c.args.table.now c.args.script.now.commands) c.args.check
constants_so c = ap (constants_at c.args.table.now) c.as_slice-3.ensures.value ∙ c.in_ok-constants.ensures.flags

pub check_clauses-requires-clause-roots : goal.check_clauses-requires-clause-roots
check_clauses-requires-clause-roots c =
    let t = c.args.table.now in
    let a = (goal.at.check_clauses-requires-clause-roots c).After-as_slice-3 in
    subst (AreNodes t) (sym (roots_so a)) (live_nodes t c.in_ok-lives.lives.items c.in_ok-lives.ensures.nodes)

-- which are different symbols
constants_differ : (c : After-as_slice-3) → AreConstants c.args.table.now c.in_ok-constants.constants.items
constants_differ c =
    let t = c.args.table.now in
    flags_constants t c.in_ok-constants.constants.items (commands_of t c.args.script.now.commands) c.args.check c.requires.printable c.in_ok-constants.ensures.symbols c.in_ok-constants.ensures.flags

pub check_clauses-requires-clause-constants : goal.check_clauses-requires-clause-constants
check_clauses-requires-clause-constants c =
    let a = (goal.at.check_clauses-requires-clause-constants c).After-as_slice-3 in
    subst (AreConstants c.args.table.now) (sym c.as_slice-3.ensures.value) (constants_differ a)

pub returns-in-Ok-clause-numbers : goal.returns-in-Ok-clause-numbers
returns-in-Ok-clause-numbers c = constants_differ (goal.at.returns-in-Ok-clause-numbers c).After-as_slice-3

pub returns-in-Ok-clause-flags : goal.returns-in-Ok-clause-flags
returns-in-Ok-clause-flags c =
    let cs = commands_of c.args.table.now c.args.script.now.commands in
    subst (AreFlags (signature cs c.args.check).symbols) (sym c.in_ok-constants.ensures.flags) (flags_are cs c.args.check)

pub returns-in-Ok-clause-clauses : goal.returns-in-Ok-clause-clauses
returns-in-Ok-clause-clauses c =
    let t = c.args.table.now in
    let a = (goal.at.returns-in-Ok-clause-clauses c).After-as_slice-3 in
    let cs = commands_of t c.args.script.now.commands in
    let over = subst (λ (fs : List Symbol). AreClauses fs (trees_at t c.as_slice-2.result.now)) (constants_so a) c.in-Ok.ensures.clauses in
    linked t c.in_ok-lives.lives.items cs c.args.check c.in_ok-lives.ensures.terms
    (subst (λ (ks : List NodeId). AreClauses (flags cs c.args.check) (trees_at t ks)) (roots_so a) over)

pub returns-in-Err-clause-fault : goal.returns-in-Err-clause-fault
returns-in-Err-clause-fault c =
    let t = c.args.table.now in
    let a = (goal.at.returns-in-Err-clause-fault c).After-as_slice-3 in
    let cs = commands_of t c.args.script.now.commands in
    let ls = c.in_ok-lives.lives.items in
    let is : c.fault_among.result ≡ fault_at ls c.in-Err.fault = c.fault_among.ensures ∙ ap (λ (ms : List (NodeId × ℕ)). fault_at ms c.in-Err.fault) c.as_slice-in-Err.ensures.value in
    let over = subst (λ (fs : List Symbol). IsLinkFault fs (trees_at t c.as_slice-2.result.now) c.in-Err.fault) (constants_so a) c.in-Err.ensures.fault in
    subst (IsLinkCheckFault cs c.args.check) (sym is)
    (unlinked t ls cs c.args.check c.in-Err.fault c.in_ok-lives.ensures.terms
    (subst (λ (ks : List NodeId). IsLinkFault (flags cs c.args.check) (trees_at t ks) c.in-Err.fault) (roots_so a) over))
