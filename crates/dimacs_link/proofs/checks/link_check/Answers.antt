use Rattle.std.proofs.Common.{◌≡◌, ◌∙◌, ℕ, sym, ap, subst, map, List}
use Rattle.smt_terms.specs.declared.ids.NodeId.{NodeId}
use Rattle.smt_terms.specs.Sorts.{Symbol}
use Rattle.term_table.specs.Formulas.{trees_at, AreNodes}
use Rattle.script_read.specs.CommandLists.{commands_of}
use Rattle.dimacs_link.specs.CheckFaults.{fault_at, IsLinkCheckFault}
use Rattle.models.specs.LiveRoots.{flags}
use Rattle.models.proofs.LiveRoots.{root_trees}
use Rattle.dimacs_link.specs.Clauses.{IsLinkFault}
use Rattle.dimacs_link.specs.Constants.{constants_at, AreConstants}
use Rattle.dimacs_link.specs.Laws.{AreClauses}
use Rattle.dimacs_link.proofs.LinkedChecks.{flags_constants}
use Rattle.dimacs_link.proofs.UnlinkedRoots.{live_nodes, linked, unlinked, text_so}
use Rattle.dimacs_link.proofs.checks.link_check.Goals as goal
use Rattle.dimacs_link.proofs.checks.link_check.Goals.{After-as_slice-3}

-- the roots are the nodes of what is live
roots_so : (c : After-as_slice-3) → c.as_slice-2.result.now ≡ map (λ l. l.0) c.in_ok-lives.lives.items
roots_so c =
    c.as_slice-2.ensures.value ∙ c.in_ok-roots.ensures
    ∙ ap (λ (ls : List (NodeId × ℕ)). map (λ l. l.0) ls) c.as_slice.ensures.value

-- and the constants are those of the check
constants_so : (c : After-as_slice-3) → constants_at c.args.table.now c.as_slice-3.result.now ≡ flags (commands_of c.args.table.now c.args.script.now.commands) c.args.check
constants_so c = ap (constants_at c.args.table.now) c.as_slice-3.ensures.value ∙ c.in_ok-constants.ensures.flags

pub dimacs_text-requires-clause-roots : goal.dimacs_text-requires-clause-roots
dimacs_text-requires-clause-roots c =
    let t = c.args.table.now in
    let a = (goal.at.dimacs_text-requires-clause-roots c).After-as_slice-3 in
    subst (AreNodes t) (sym (roots_so a)) (live_nodes t c.in_ok-lives.lives.items c.in_ok-lives.ensures.nodes)

pub dimacs_text-requires-clause-constants : goal.dimacs_text-requires-clause-constants
dimacs_text-requires-clause-constants c =
    let t = c.args.table.now in
    subst (AreConstants t) (sym c.as_slice-3.ensures.value)
    (flags_constants t c.in_ok-constants.constants.items (commands_of t c.args.script.now.commands) c.args.check c.requires.printable c.in_ok-constants.ensures.symbols c.in_ok-constants.ensures.flags)

pub returns-in-Ok-clause-text : goal.returns-in-Ok-clause-text
returns-in-Ok-clause-text c =
    let t = c.args.table.now in
    let a = (goal.at.returns-in-Ok-clause-text c).After-as_slice-3 in
    let cs = commands_of t c.args.script.now.commands in
    c.in-Ok.ensures.text
    ∙ text_so t c.as_slice-3.result.now c.as_slice-2.result.now cs c.args.check (constants_so a)
    (ap (λ (ks : List NodeId). trees_at t ks) (roots_so a) ∙ root_trees t c.in_ok-lives.lives.items cs c.args.check c.in_ok-lives.ensures.terms)

pub returns-in-Ok-clause-clauses : goal.returns-in-Ok-clause-clauses
returns-in-Ok-clause-clauses c =
    let t = c.args.table.now in
    let a = (goal.at.returns-in-Ok-clause-clauses c).After-as_slice-3 in
    let cs = commands_of t c.args.script.now.commands in
    let over = subst (λ (fs : List Symbol). AreClauses fs (trees_at t c.as_slice-2.result.now)) (constants_so a) c.in-Ok.ensures.clauses in
    linked t c.in_ok-lives.lives.items cs c.args.check c.in_ok-lives.ensures.terms
    (subst (λ (ks : List NodeId). AreClauses (flags cs c.args.check) (trees_at t ks)) (roots_so a) over)

pub returns-clause-fault : goal.returns-clause-fault
returns-clause-fault c =
    let t = c.args.table.now in
    let a = (goal.at.returns-clause-fault c).After-as_slice-3 in
    let cs = commands_of t c.args.script.now.commands in
    let ls = c.in_ok-lives.lives.items in
    let is : c.fault_among.result ≡ fault_at ls c.in-Err.fault = c.fault_among.ensures ∙ ap (λ (ms : List (NodeId × ℕ)). fault_at ms c.in-Err.fault) c.as_slice-in-Err.ensures.value in
    let over = subst (λ (fs : List Symbol). IsLinkFault fs (trees_at t c.as_slice-2.result.now) c.in-Err.fault) (constants_so a) c.in-Err.ensures.fault in
    subst (IsLinkCheckFault cs c.args.check) (sym is)
    (unlinked t ls cs c.args.check c.in-Err.fault c.in_ok-lives.ensures.terms
    (subst (λ (ks : List NodeId). IsLinkFault (flags cs c.args.check) (trees_at t ks) c.in-Err.fault) (roots_so a) over))
