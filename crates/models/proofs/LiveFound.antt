-- The assertions that are found in the commands before a check are the live ones there, and the literals are those of the check.
use Rattle.std.proofs.Common.{◌≡◌, ◌∙◌, sym, ap, subst, refl, ℕ, zero, suc, ◌+◌, ◌-◌, ◌<◌, ◌≤◌, ◌==◌, max, nat_lt, Bool, true, false, cond, if◌then◌else◌, List, [], ◌∷◌, ◌++◌, map, length, get_or, take, reverse, count_by, Some, All, arith}
use Rattle.std.proofs.lemmas.List.{map-append, reverse-append}
use Rattle.std.proofs.lemmas.List.Sums.{sum_by-cons}
use Rattle.std.proofs.lemmas.List.Elements.{All-nil, All-cons, All-head, All-tail, All-append, All-push, All-map, All-same, All-take, All-get_or}
use Rattle.smt_terms.specs.declared.ids.NodeId.{NodeId}
use Rattle.smt_terms.specs.Term.{Term}
use Rattle.smt_values.specs.SortIds.{sort_at}
use Rattle.term_table.specs.Formulas.{Formulas, symbol_at, tree, trees_at, IsNode}
use Rattle.script_read.specs.declared.scripts.Command.{Command}
use Rattle.script_read.specs.declared.scripts.Command.TheVariants.{Passed, DeclareSort, Declare, Assert, Check, CheckAssuming, Push, Pop, Reset, ResetAssertions, Globals, Exit}
use Rattle.script_read.specs.CommandLists.{free_name, command_of, commands_of, is_check, IsCommandOf, AreCommandsOf}
use Rattle.script_read.specs.Commands.{Command as CommandOf, checked, assumed, State, start, after, with_sort, with_symbol, with_assertion, levels_popped, Point, points_from, nth_point, at_point, live_in, live, literals}
use Rattle.models.specs.GoingBack.{before_check}
use Rattle.models.specs.LiveAssertions.{levels_left, levels_behind, Placed, on_levels, placed_behind, Open, first_open, open_behind, open_behind_all, live_behind, assumed_by}
use Rattle.models.specs.LiveTerms.{with_number, live_terms, numbered_at, AreNumbered}
use Rattle.models.proofs.LiveBehind.{behind}
use Rattle.models.proofs.SignatureFound.{more_left, first_commands}
use Rattle.models.proofs.PlacedAssertions.{map-reverse, placed_in, kept, length_latest, latest_kept, latest_asserted, length_opened, placed_opened, length_popped, placed_popped, length_emptied, placed_emptied, asserted_throughout}

module _ (t : Formulas) where
  -- the command with numbers for what it asserts
  abbrev numbered : Command → CommandOf (Term × ℕ)
  numbered c = with_number (command_of t c)

  abbrev all_numbered : List Command → List (CommandOf (Term × ℕ))
  all_numbered cs = map with_number (commands_of t cs)

  abbrev place_of : Placed → (Term × ℕ) × ℕ
  place_of p = ((tree t p.0, p.1), p.2)

  -- ---- what is open behind commands

  record IsOpen (s : State (Term × ℕ)) (o : Open) : Type 0 where
    pub levels : length s.levels ≡ o.levels
    pub global : s.global ≡ o.global
    pub placed : placed_in s.levels ≡ map place_of o.placed

  kept_place : (n : ℕ) (p : Placed) (ps : List Placed) (b : Bool) → kept n (map place_of ps) ≡ map place_of (on_levels n ps)
      → (if b then kept n (map place_of ps) else place_of p ∷ map place_of ps) ≡ map place_of (if b then on_levels n ps else p ∷ ps)
  kept_place n p ps true h = h
  kept_place n p ps false h = refl

  kept_places : (n : ℕ) (ps : List Placed) → kept n (map place_of ps) ≡ map place_of (on_levels n ps)
  kept_places n [] = refl
  kept_places n (p ∷ ps) = kept_place n p ps (nat_lt n p.2) (kept_places n ps)

  step : (c : Command) (s : State (Term × ℕ)) (o : Open) → IsOpen s o → IsOpen (after (numbered c) s) (open_behind c o)
  step (Passed text) s o is = is
  step (DeclareSort n) s o is = record {
    levels = length_latest (with_sort (free_name (sort_at t.sorts n))) s.levels ∙ ap (λ n. max n 1) is.levels;
    global = is.global;
    placed = latest_kept (with_sort (free_name (sort_at t.sorts n))) (λ _. refl) s.levels ∙ is.placed;
  }
  step (Declare f) s o is = record {
    levels = length_latest (with_symbol (symbol_at t f)) s.levels ∙ ap (λ n. max n 1) is.levels;
    global = is.global;
    placed = latest_kept (with_symbol (symbol_at t f)) (λ _. refl) s.levels ∙ is.placed;
  }
  step (Assert id number) s o is = record {
    levels = length_latest (with_assertion (tree t id, number)) s.levels ∙ ap (λ n. max n 1) is.levels;
    global = is.global;
    placed = latest_asserted (tree t id, number) s.levels ∙ (λ i. ((tree t id, number), max (is.levels i) 1) ∷ is.placed i);
  }
  step Check s o is = is
  step (CheckAssuming ids) s o is = is
  step (Push n) s o is = record {
    levels = length_opened n s.levels ∙ ap (λ m. m + n) is.levels;
    global = is.global;
    placed = placed_opened n s.levels ∙ is.placed;
  }
  step (Pop n) s o is =
      let left : length (levels_popped s.global n s.levels) ≡ levels_left o.global n o.levels =
      length_popped s.global n s.levels ∙ (λ i. levels_left (is.global i) n (is.levels i)) in
      record {
        levels = left;
        global = is.global;
        placed = sym (placed_popped s.global n s.levels) ∙ (λ i. kept (left i) (is.placed i)) ∙ kept_places (levels_left o.global n o.levels) o.placed;
      }
  step Reset s o is = record { levels = refl; global = refl; placed = refl }
  step ResetAssertions s o is = record {
    levels = length_emptied s.global s.levels;
    global = is.global;
    placed = placed_emptied s.global s.levels;
  }
  step (Globals b) s o is = record { levels = is.levels; global = refl; placed = is.placed }
  step Exit s o is = is

  all_steps : (cs : List Command) (s : State (Term × ℕ)) (o : Open) → IsOpen s o → IsOpen (behind s (all_numbered cs)) (open_behind_all o cs)
  all_steps [] s o is = is
  all_steps (c ∷ cs) s o is = all_steps cs (after (numbered c) s) (open_behind c o) (step c s o is)

  numbers_of_places : (ps : List Placed) → map (λ p. p.0) (map place_of ps) ≡ numbered_at t (map (λ p. (p.0, p.1)) ps)
  numbers_of_places [] = refl
  numbers_of_places (p ∷ ps) = ap (λ xs. (tree t p.0, p.1) ∷ xs) (numbers_of_places ps)

  live_found : (cs : List Command) → live_in (behind start (all_numbered cs)) ≡ numbered_at t (live_behind cs)
  live_found cs =
      let is = all_steps cs start first_open (record { levels = refl; global = refl; placed = refl }) in
      let ps : List Placed = (open_behind_all first_open cs).placed in
      asserted_throughout (behind start (all_numbered cs)).levels ∙ ap (λ xs. reverse (map (λ p. p.0) xs)) is.placed ∙ ap reverse (numbers_of_places ps)
      ∙ sym (map-reverse (λ p. (tree t p.0, p.1)) (map (λ p. (p.0, p.1)) ps)) ∙ ap (numbered_at t) (sym (map-reverse (λ p. (p.0, p.1)) ps))

  -- ---- the point of a check

  -- point k of these, with the state behind the commands before it, and the literals of the command behind them
  abbrev IsPoint : List (Point (Term × ℕ)) → ℕ → State (Term × ℕ) → List Command → List Command → Type 0
  IsPoint ps k s cs before =
      (p : Point (Term × ℕ)) × (nth_point ps k ≡ Some p) × (p.state ≡ behind s (all_numbered before)) × (length before < length cs)
      × ((d : Command) → p.literals ≡ map (λ l. (l, 0)) (trees_at t (assumed_by (get_or cs (length before) d))))

  abbrev IsPointOf : ℕ → State (Term × ℕ) → List Command → Type 0
  IsPointOf k s cs = IsPoint (points_from s (all_numbered cs)) k s cs (before_check k cs)

  at_check : (k : ℕ) (s : State (Term × ℕ)) (c : Command) (cs : List Command) (p : Point (Term × ℕ)) → p.state ≡ s → after (numbered c) s ≡ s
      → p.literals ≡ map (λ l. (l, 0)) (trees_at t (assumed_by c)) → 1 ≤ k → k ≤ 1 + count_by is_check cs
      → ((j : ℕ) → 1 ≤ j → j ≤ count_by is_check cs → IsPointOf j s cs)
      → IsPoint (p ∷ points_from s (all_numbered cs)) k s (c ∷ cs) (if k == 1 then [] else c ∷ before_check (k - 1) cs)
  at_check zero s c cs p here unchanged ls some few rest = absurd (omega (arith, some))
  at_check (suc zero) s c cs p here unchanged ls some few rest = (p, refl, here, omega arith, λ d. ls)
  at_check (suc (suc k)) s c cs p here unchanged ls some few rest =
      let less : suc k ≡ suc (suc k) - 1 = omega arith in
      let r = rest (suc k) (omega arith) (omega (arith, few)) in
      let before : List Command = before_check (suc k) cs in
      let found : IsPoint (p ∷ points_from s (all_numbered cs)) (suc (suc k)) s (c ∷ cs) (c ∷ before) =
      (r.0, r.1, r.2 ∙ ap (λ x. behind x (all_numbered before)) (sym unchanged), omega (arith, r.3), r.4) in
      subst (IsPoint (p ∷ points_from s (all_numbered cs)) (suc (suc k)) s (c ∷ cs))
      (ap (λ j. c ∷ before_check j cs) less ∙ ap (λ b. if b then [] else c ∷ before_check (suc (suc k) - 1) cs) (sym (more_left t k))) found

  behind_one : (k : ℕ) (s : State (Term × ℕ)) (c : Command) (cs : List Command) → IsPointOf k (after (numbered c) s) cs
      → IsPoint (points_from (after (numbered c) s) (all_numbered cs)) k s (c ∷ cs) (c ∷ before_check k cs)
  behind_one k s c cs r = (r.0, r.1, r.2, omega (arith, r.3), r.4)

  point_at : (cs : List Command) (k : ℕ) (s : State (Term × ℕ)) → 1 ≤ k → k ≤ count_by is_check cs → IsPointOf k s cs
  point_at [] k s some few = absurd (omega (arith, some, few))
  point_at (Check ∷ cs) k s some few =
      at_check k s Check cs (record { kind = checked; state = s; literals = [] }) refl refl refl some
      (subst (λ n. k ≤ n) (sum_by-cons (λ c. cond (is_check c) 1 0) Check cs) few) (λ j. point_at cs j s)
  point_at (CheckAssuming ids ∷ cs) k s some few =
      at_check k s (CheckAssuming ids) cs (record { kind = assumed; state = s; literals = map (λ l. (l, 0)) (trees_at t ids) }) refl refl refl some
      (subst (λ n. k ≤ n) (sum_by-cons (λ c. cond (is_check c) 1 0) (CheckAssuming ids) cs) few) (λ j. point_at cs j s)
  point_at (c ∷ cs) k s some few = behind_one k s c cs (point_at cs k (after (numbered c) s) some few)

  -- ---- what is found for a check

  numbers_of_literals : (ids : List NodeId) → map (λ l. (l, 0)) (trees_at t ids) ≡ numbered_at t (map (λ l. (l, 0)) ids)
  numbers_of_literals [] = refl
  numbers_of_literals (n ∷ ids) = ap (λ xs. (tree t n, 0) ∷ xs) (numbers_of_literals ids)

  abbrev NumberIsNode : NodeId × ℕ → Type 0
  NumberIsNode p = IsNode t p.0

  abbrev PlaceIsNode : Placed → Type 0
  PlaceIsNode p = IsNode t p.0

  kept_nodes : (n : ℕ) (ps : List Placed) → All PlaceIsNode ps → All PlaceIsNode (on_levels n ps)
  kept_nodes n [] are = are
  kept_nodes n (p ∷ ps) are = chosen (nat_lt n p.2) (kept_nodes n ps (All-tail PlaceIsNode p ps are))
    where
      chosen : (b : Bool) → All PlaceIsNode (on_levels n ps) → All PlaceIsNode (if b then on_levels n ps else p ∷ ps)
      chosen true rest = rest
      chosen false rest = are

  nodes_behind : (c : Command) (n : ℕ) (ps : List Placed) → IsCommandOf t c → All PlaceIsNode ps → All PlaceIsNode (placed_behind n c ps)
  nodes_behind (Assert id number) n ps is are = All-cons PlaceIsNode (id, number, n) ps is are
  nodes_behind (Pop m) n ps is are = kept_nodes n ps are
  nodes_behind Reset n ps is are = All-nil PlaceIsNode
  nodes_behind ResetAssertions n ps is are = All-nil PlaceIsNode
  nodes_behind _ n ps is are = are

  all_nodes_behind : (cs : List Command) (o : Open) → AreCommandsOf t cs → All PlaceIsNode o.placed → All PlaceIsNode (open_behind_all o cs).placed
  all_nodes_behind [] o are h = h
  all_nodes_behind (c ∷ cs) o are h =
      all_nodes_behind cs (open_behind c o) (All-tail (IsCommandOf t) c cs are)
      (nodes_behind c (levels_behind o.global c o.levels) o.placed (All-head (IsCommandOf t) c cs are) h)

  nodes_reversed : (ps : List Placed) → All PlaceIsNode ps → All PlaceIsNode (reverse ps)
  nodes_reversed [] are = are
  nodes_reversed (p ∷ ps) are =
      All-same PlaceIsNode (reverse (p ∷ ps)) (reverse ps ++ p ∷ []) (reverse-append (p ∷ []) ps)
      (All-push PlaceIsNode (reverse ps) p (nodes_reversed ps (All-tail PlaceIsNode p ps are)) (All-head PlaceIsNode p ps are))

  live_nodes : (cs : List Command) → AreCommandsOf t cs → All NumberIsNode (live_behind cs)
  live_nodes cs are =
      let ps : List Placed = (open_behind_all first_open cs).placed in
      All-map NumberIsNode (λ p. (p.0, p.1)) (reverse ps) (nodes_reversed ps (all_nodes_behind cs first_open are (All-nil PlaceIsNode)))

  literal_nodes : (c : Command) → IsCommandOf t c → All NumberIsNode (map (λ l. (l, 0)) (assumed_by c))
  literal_nodes (CheckAssuming ids) is = All-map NumberIsNode (λ l. (l, 0)) ids is
  literal_nodes _ is = All-nil NumberIsNode

  module _ (cs : List Command) (k : ℕ) (some : 1 ≤ k) (few : k ≤ count_by is_check cs) where
    abbrev before : List Command
    before = before_check k cs

    pub check_within : length (before_check k cs) < length cs
    check_within = (point_at cs k start some few).3

    module _ (c : Command) (v : List (NodeId × ℕ)) (is : c ≡ get_or cs (length (before_check k cs)) c)
        (found : v ≡ live_behind (before_check k cs) ++ map (λ l. (l, 0)) (assumed_by c)) where
      pub terms_found : numbered_at t v ≡ live_terms (commands_of t cs) k
      terms_found =
          let r = point_at cs k start some few in
          let asserted : live (all_numbered cs) k ≡ numbered_at t (live_behind before) =
          ap (at_point (λ p. live_in p.state)) r.1 ∙ ap live_in r.2 ∙ live_found before in
          let assumed : literals (all_numbered cs) k ≡ numbered_at t (map (λ l. (l, 0)) (assumed_by c)) =
          ap (at_point (λ p. p.literals)) r.1 ∙ r.4 c ∙ ap (λ d. map (λ l. (l, 0)) (trees_at t (assumed_by d))) (sym is) ∙ numbers_of_literals (assumed_by c) in
          ap (numbered_at t) found ∙ map-append (λ p. (tree t p.0, p.1)) (live_behind before) (map (λ l. (l, 0)) (assumed_by c)) ∙ (λ i. sym asserted i ++ sym assumed i)

      pub nodes_found : AreCommandsOf t cs → AreNumbered t v
      nodes_found are =
          let first = first_commands k cs in
          let check : IsCommandOf t c = subst (IsCommandOf t) (sym is) (All-get_or (IsCommandOf t) cs (length before) c check_within are) in
          All-same NumberIsNode v (live_behind before ++ map (λ l. (l, 0)) (assumed_by c)) found
          (All-append NumberIsNode (live_behind before) (map (λ l. (l, 0)) (assumed_by c))
          (live_nodes before (All-same (IsCommandOf t) before (take first.0 cs) first.1 (All-take (IsCommandOf t) first.0 cs are))) (literal_nodes c check))
