use Rattle.std.proofs.Common.{◌≡◌, ◌∙◌, ◌++◌, ℕ, true, sym, ap, subst, map, All, List}
use Rattle.std.proofs.lemmas.List.{map-append}
use Rattle.std.proofs.lemmas.List.Elements.{All-append}
use Rattle.smt_terms.specs.declared.ids.NodeId.{NodeId}
use Rattle.normal_forms.specs.Nodes.{IsFormula}
use Rattle.term_table.specs.Formulas.{trees_at}
use Rattle.term_groups.specs.Seen.{IsGroup}
use Rattle.script_read.specs.CommandLists.{command_of, commands_of, IsCommandOf, AreCommandsOf}
use Rattle.script_read.proofs.CommandsStay.{commands_within, commands_stay}
use Rattle.bit_blast.specs.Blasted.{is_bits, blasted}
use Rattle.bit_blast.specs.Faults.{IsFault}
use Rattle.bit_scripts.specs.Nodes.{IsRefusedBy}
use Rattle.bit_scripts.specs.Places.{fault_at}
use Rattle.models.specs.LiveRoots.{roots}
use Rattle.bit_scripts.specs.Scripts.{root_group}
use Rattle.bit_scripts.specs.Spelled.{group_commands}
use Rattle.models.specs.LiveTerms.{numbered_at}
use Rattle.models.proofs.LiveRoots.{root_trees}
use Rattle.bit_scripts.proofs.LiveTruths.{IsBool, live_bool, live_nodes}
use Rattle.bit_scripts.proofs.RefusedRoots.{refused, accepted}
use Rattle.bit_scripts.proofs.SpelledNodes.{spelled_so, spelled_within, spelled_behind}
use Rattle.bit_scripts.proofs.scripts.blast_check.Goals as goal
use Rattle.bit_scripts.proofs.scripts.blast_check.Goals.{After-as_slice-2}

-- the roots are the nodes of what is live
roots_so : (c : After-as_slice-2) → c.as_slice-2.result.now ≡ map (λ l. l.0) c.in_ok-lives.lives.items
roots_so c =
    c.as_slice-2.ensures.value ∙ c.in_ok-roots.ensures
    ∙ ap (λ (ls : List (NodeId × ℕ)). map (λ l. l.0) ls) c.as_slice.ensures.value

-- and their terms what is live
terms_so : (c : After-as_slice-2) → trees_at c.args.table.now c.as_slice-2.result.now ≡ roots (commands_of c.args.table.now c.args.script.now.commands) c.args.check
terms_so c =
    let t = c.args.table.now in
    ap (trees_at t) (roots_so c) ∙ root_trees t c.in_ok-lives.lives.items (commands_of t c.args.script.now.commands) c.args.check c.in_ok-lives.ensures.terms

pub blast-requires : goal.blast-requires
blast-requires c =
    let t = c.args.table.now in
    let a = (goal.at.blast-requires c).After-as_slice-2 in
    let cs = commands_of t c.args.script.now.commands in
    let ls = c.in_ok-lives.lives.items in
    let sorts : All IsBool (numbered_at t ls) = subst (All IsBool) (sym c.in_ok-lives.ensures.terms) (live_bool cs c.args.check c.requires.printable) in
    record { roots = subst (All (IsFormula t)) (sym (roots_so a)) (live_nodes t ls c.in_ok-lives.ensures.nodes sorts) }

pub returns-in-Ok-clause-blasting : goal.returns-in-Ok-clause-blasting
returns-in-Ok-clause-blasting c =
    let t = c.args.table.now in
    let u = c.blast.new.table in
    let a = (goal.at.returns-in-Ok-clause-blasting c).After-as_slice-2 in
    let cs = commands_of t c.args.script.now.commands in
    let k = c.args.check in
    let s = c.args.fresh.now in
    let ks = c.in_ok-commands.commands in
    let g = c.in-Ok.group in
    let e = c.in-Ok.ensures in
    let is : IsGroup u g (root_group cs k s).group = subst (λ us. IsGroup u g (blasted us s).group) (terms_so a) e.group in
    record {
      numbers =
          subst (AreCommandsOf u) (sym c.in_ok-spell-in-Ok.ensures)
          (All-append (IsCommandOf u) ks (group_commands g) (commands_within t u e.grows ks c.in_ok-commands.ensures.numbers) (spelled_within u g (root_group cs k s).group is));
      commands =
          ap (commands_of u) c.in_ok-spell-in-Ok.ensures
          ∙ map-append (command_of u) ks (group_commands g)
          ∙ (λ i. (commands_stay t u e.grows ks c.in_ok-commands.ensures.numbers ∙ c.in_ok-commands.ensures.commands) i ++ spelled_so u g (root_group cs k s).group is i)
          ∙ spelled_behind cs k s;
      pairs = is.pairs;
      bits = is.symbols;
      accepted = accepted t c.in_ok-lives.lives.items cs k c.in_ok-lives.ensures.terms (subst (λ ks. All (λ v. is_bits v ≡ true) (trees_at t ks)) (roots_so a) e.bits);
    }

pub returns-in-Ok-clause-left : goal.returns-in-Ok-clause-left
returns-in-Ok-clause-left c =
    let a = (goal.at.returns-in-Ok-clause-left c).After-as_slice-2 in
    c.in-Ok.ensures.left ∙ ap (λ us. (blasted us c.args.fresh.now).names) (terms_so a)

pub returns-clause-fault : goal.returns-clause-fault
returns-clause-fault c =
    let t = c.args.table.now in
    let a = (goal.at.returns-clause-fault c).After-as_slice-2 in
    let cs = commands_of t c.args.script.now.commands in
    let ls = c.in_ok-lives.lives.items in
    let is : c.fault_among.result ≡ fault_at ls c.in-Err.fault = c.fault_among.ensures ∙ ap (λ ms. fault_at ms c.in-Err.fault) c.as_slice-in-Err.ensures.value in
    subst (IsRefusedBy cs c.args.check) (sym is)
    (refused t ls cs c.args.check c.in-Err.fault c.in_ok-lives.ensures.terms (subst (λ ks. IsFault (trees_at t ks) c.in-Err.fault) (roots_so a) c.in-Err.ensures.fault))
