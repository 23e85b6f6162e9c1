-- A removal of applications goes over an assertion: what is kept, with the group that takes its place.
use Rattle.std.proofs.Common.{◌≡◌, ◌∙◌, ap, sym, refl, subst, ℕ, ◌+◌, ◌≤◌, List, [], ◌∷◌, ◌++◌, append_assoc, map, length, Some, All, arith}
use Rattle.std.proofs.lemmas.List.{length-append, length-map, map-append}
use Rattle.std.proofs.lemmas.List.Elements.{All-append, All-cons, All-head, All-nil, All-push, All-tail}
use Rattle.smt_terms.specs.declared.ids.NodeId.{NodeId}
use Rattle.smt_terms.specs.declared.ids.SymId.{SymId}
use Rattle.smt_terms.specs.Fresh.{Supply, NeverGives}
use Rattle.smt_terms.specs.Groups.{Named}
use Rattle.smt_terms.specs.Sorts.{Symbol}
use Rattle.smt_terms.specs.Term.{Term}
use Rattle.term_groups.specs.Drawing.{ConstantsAreNew}
use Rattle.term_groups.specs.Seen.{named_at, IsGroup}
use Rattle.term_subst.specs.declared.maps.Group.{Group as NodeGroup}
use Rattle.term_table.specs.Formulas.{Formulas, symbol_at, tree, AreNodes, IsNode, IsSymbol}
use Rattle.term_walk.specs.Walking.{GrowsTo}
use Rattle.ackermann.specs.Ackermann.{applications, without_constant, joined, live, Levels, Acked, ack}
use Rattle.ackermann.specs.LevelsAt.{Live, levels_at, open_levels, AreLiveIn}
use Rattle.script_read.specs.CommandLists.{command_of, commands_of, IsCommandOf, AreCommandsOf}
use Rattle.script_read.specs.Commands.{assert}
use Rattle.script_read.proofs.CommandsStay.{commands_within, commands_stay}
use Rattle.passes.specs.declared.plan.Step.TheVariants.{Group}
use Rattle.passes.specs.declared.removing.Removal.{Removal}
use Rattle.pass_laws.specs.Groups.{node_commands}
use Rattle.pass_laws.specs.LiveGroups.{operands_with}
use Rattle.passes.specs.Plans.{step_of, Uses, IsStepOf, HaveUses}
use Rattle.passes.specs.Removing.{keys_of, AreApart, IsKept, Keeps, IsRemovalOver, Goes}
use Rattle.passes.proofs.DrawnKeys.{first_of, keys-apart, drawn-gone, earlier-gone}
use Rattle.passes.proofs.GroupingNodes.{group_commands_so, group_commands_within}
use Rattle.passes.proofs.KeptOperands.{kept-stays, kept-within, all-have-within, have-stays}
use Rattle.passes.proofs.KeptUses.{live-length}
use Rattle.passes.proofs.PlannedSteps.{steps_within, steps_stay}

pub live-joined : (new : Named) (ls : Levels) → live (joined new ls) ≡ live ls ++ new
live-joined new [] = refl
live-joined new (l ∷ ls) = sym (append_assoc (live ls) l new)

-- a list of keys and one of nodes, from those of a table
kept-each : (t : Formulas) (es : Uses) → All (IsSymbol t) (keys_of es) → All (λ e. AreNodes t e.1.operands.items) es → All (IsKept t) es
kept-each t [] keys nodes = All-nil (IsKept t)
kept-each t (e ∷ es) keys nodes =
    All-cons (IsKept t) e es (All-head (IsSymbol t) e.0 (keys_of es) keys, All-head (λ d. AreNodes t d.1.operands.items) e es nodes)
    (kept-each t es (All-tail (IsSymbol t) e.0 (keys_of es) keys) (All-tail (λ d. AreNodes t d.1.operands.items) e es nodes))

keys-each : (t : Formulas) (es : Uses) → All (IsKept t) es → All (IsSymbol t) (keys_of es)
keys-each t [] kept = All-nil (IsSymbol t)
keys-each t (e ∷ es) kept = All-cons (IsSymbol t) e.0 (keys_of es) (All-head (IsKept t) e es kept).0 (keys-each t es (All-tail (IsKept t) e es kept))

nodes-each : (t : Formulas) (es : Uses) → All (IsKept t) es → All (λ e. AreNodes t e.1.operands.items) es
nodes-each t [] kept = All-nil (λ e. AreNodes t e.1.operands.items)
nodes-each t (e ∷ es) kept = All-cons (λ d. AreNodes t d.1.operands.items) e es (All-head (IsKept t) e es kept).1 (nodes-each t es (All-tail (IsKept t) e es kept))

pairs-keys : (t : Formulas) (ps : List (SymId × NodeId)) → All (λ p. IsSymbol t p.0 × IsNode t p.1) ps → All (IsSymbol t) (map first_of ps)
pairs-keys t [] pairs = All-nil (IsSymbol t)
pairs-keys t (p ∷ ps) pairs =
    All-cons (IsSymbol t) p.0 (map first_of ps) (All-head (λ (q : SymId × NodeId). IsSymbol t q.0 × IsNode t q.1) p ps pairs).0
    (pairs-keys t ps (All-tail (λ (q : SymId × NodeId). IsSymbol t q.0 × IsNode t q.1) p ps pairs))

module _ (law : ConstantsAreNew) (t u : Formulas) (grows : GrowsTo t u) (s : Supply) (old : Removal) (over : IsRemovalOver t s old) (id : NodeId) (number : ℕ) (g : NodeGroup)
    (is : IsGroup u g (ack (tree t id) (levels_at t old.ack) s).group) where
  abbrev a : Acked
  a = ack (tree t id) (levels_at t old.ack) s

  abbrev new_terms : List Term
  new_terms = without_constant (live (levels_at t old.ack)) (applications (tree t id))

  pub group-apart : AreApart (keys_of old.uses.entries ++ map first_of g.symbols)
  group-apart = keys-apart t u grows law new_terms s g.symbols is.symbols old.uses.entries over.kept.each over.kept.apart over.names

  pub group-places : (b : Live) → levels_at u b ≡ a.levels → length g.symbols ≤ length b.uses
  group-places b levels =
      let all : length (live (levels_at t old.ack)) + length a.group.symbols ≡ length b.uses =
      sym (length-append (live (levels_at t old.ack)) a.group.symbols) ∙ ap length (sym (live-joined a.group.symbols (levels_at t old.ack))) ∙ ap (λ ls. length (live ls)) (sym levels) ∙ live-length u b in
      let last : length g.symbols ≡ length a.group.symbols = sym (length-map {B = Symbol × Term} g.symbols (λ (p : SymId × NodeId). (symbol_at u p.0, tree u p.1))) ∙ ap length is.symbols in
      omega (arith, all, last)

  -- behind it
  module _ (new : Removal) (levels : levels_at u new.ack ≡ a.levels) (alive : AreLiveIn u new.ack) (opened : open_levels new.ack ≡ open_levels old.ack)
      (commands : new.commands ≡ old.commands ++ node_commands number g) (keys : keys_of new.uses.entries ≡ keys_of old.uses.entries ++ map first_of g.symbols)
      (keeps : (earlier : Named) → live (levels_at u new.ack) ≡ earlier ++ named_at u g.symbols → Keeps u (live (levels_at u new.ack)) g.symbols old.uses.entries new.uses.entries)
      (steps : new.steps.items ≡ old.steps.items ++ Group number g.symbols ∷ []) (q : Supply) (left : q ≡ a.names) where
    all_live : live (levels_at u new.ack) ≡ live (levels_at t old.ack) ++ a.group.symbols
    all_live = ap live levels ∙ live-joined a.group.symbols (levels_at t old.ack)

    kept : Keeps u (live (levels_at u new.ack)) g.symbols old.uses.entries new.uses.entries
    kept = keeps (live (levels_at t old.ack)) (all_live ∙ ap (λ ns. live (levels_at t old.ack) ++ ns) (sym is.symbols))

    -- what was kept before, over the new table
    before : All (IsKept u) old.uses.entries
    before = kept-within t u grows old.uses.entries over.kept.each

    uses-behind : All (HaveUses u (Some new.uses.entries)) new.steps.items
    uses-behind =
        subst (All (HaveUses u (Some new.uses.entries))) (sym steps)
        (All-push (HaveUses u (Some new.uses.entries)) old.steps.items (Group number g.symbols)
        (have-stays u old.uses.entries new.uses.entries kept.others old.steps.items (all-have-within t u grows old.uses.entries old.steps.items over.steps over.uses))
        kept.these)

    names-behind : All (λ k. NeverGives q (symbol_at u k).name) (keys_of new.uses.entries)
    names-behind =
        subst (λ r. All (λ k. NeverGives r (symbol_at u k).name) (keys_of new.uses.entries)) (sym left)
        (subst (All (λ k. NeverGives a.names (symbol_at u k).name)) (sym keys)
        (All-append (λ k. NeverGives a.names (symbol_at u k).name) (keys_of old.uses.entries) (map first_of g.symbols)
        (earlier-gone t u grows law new_terms s g.symbols is.symbols old.uses.entries over.kept.each over.names)
        (drawn-gone t u grows law new_terms s g.symbols is.symbols)))

    pub group-over : IsRemovalOver u q new
    group-over = record {
      commands =
          subst (AreCommandsOf u) (sym commands)
          (All-append (IsCommandOf u) old.commands (node_commands number g) (commands_within t u grows old.commands over.commands) (group_commands_within u number g a.group is));
      steps = subst (All (IsStepOf u)) (sym steps) (All-push (IsStepOf u) old.steps.items (Group number g.symbols) (steps_within t u grows old.steps.items over.steps) is.pairs);
      live = alive;
      kept = record {
        each =
            kept-each u new.uses.entries
            (subst (All (IsSymbol u)) (sym keys) (All-append (IsSymbol u) (keys_of old.uses.entries) (map first_of g.symbols) (keys-each u old.uses.entries before) (pairs-keys u g.symbols is.pairs)))
            (kept.nodes (nodes-each u old.uses.entries before));
        apart = subst AreApart (sym keys) group-apart;
      };
      names = names-behind;
      uses = uses-behind;
    }

    pub group-goes : Goes t u (assert number (tree t id)) s q old new
    group-goes = record {
      commands =
          ap (commands_of u) commands ∙ map-append (command_of u) old.commands (node_commands number g)
          ∙ (λ j. commands_stay t u grows old.commands over.commands j ++ group_commands_so u number g a.group is j);
      steps =
          ap (map (step_of u)) steps ∙ map-append (step_of u) old.steps.items (Group number g.symbols ∷ [])
          ∙ (λ j. steps_stay t u grows old.steps.items over.steps j ++ assert number (record { number = number; symbols = is.symbols j }) ∷ []);
      way = λ j. record { levels = levels j; names = left j };
      operands =
          kept.operands
          ∙ (λ j. operands_with (kept-stays t u grows [] old.uses.entries over.kept.each j) (all_live j) (is.symbols j));
      opened = opened;
    }
