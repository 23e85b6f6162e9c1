-- The signature at a check is what is found in the commands before it.
use Rattle.std.proofs.Common.{◌≡◌, ◌∙◌, sym, ap, subst, refl, ℕ, zero, suc, ◌+◌, ◌-◌, ◌≤◌, ◌==◌, Bool, true, false, cond, if◌then◌else◌, ◌&&◌, List, [], ◌∷◌, ◌++◌, map, take, count_by, Option, Some, None, Result, Ok, Err, All, arith}
use Rattle.std.specs.Prelude.{option_map, IfOk}
use Rattle.std.proofs.lemmas.Bool.{ne_eqb}
use Rattle.std.proofs.lemmas.List.{append-nil, take-map}
use Rattle.std.proofs.lemmas.List.Sums.{sum_by-cons}
use Rattle.std.proofs.lemmas.List.Elements.{All-take, All-nil, All-cons, All-head, All-tail}
use Rattle.std.proofs.lemmas.Option.{none-some, same_Some}
use Rattle.smt_terms.specs.Term.{Term}
use Rattle.smt_terms.proofs.Tests.{both_true, and_true}
use Rattle.smt_values.specs.SortIds.{sort_at}
use Rattle.term_table.specs.Formulas.{Formulas, symbol_at, trees_at, IsSymbol}
use Rattle.script_read.specs.declared.scripts.Command.{Command}
use Rattle.script_read.specs.declared.scripts.Command.TheVariants.{Passed, DeclareSort, Declare, Assert, Check, CheckAssuming, Push, Pop, Reset, ResetAssertions, Globals, Exit}
use Rattle.script_read.specs.CommandLists.{free_name, command_of, commands_of, is_check, IsCommandOf, AreCommandsOf}
use Rattle.script_read.specs.Commands.{Command as CommandOf, passed, declare_sort, declare, assert, check, check_assuming, push, pop, reset, reset_assertions, globals, exit, checked, assumed, Level, State, empty_level, start, throughout, after, Point, points_from, points, nth_point, at_point, sorts_of_state, symbols_of_state, signature}
use Rattle.script_read.specs.Printable.{may_stand, fixes, may_be_followed, printable_from, printable}
use Rattle.models.specs.LiveNumbers.{LiveNumbers, signature_of, IsFreeSort, AreLiveNumbersOf}
use Rattle.models.specs.GoingBack.{before_check, global_behind_all, begins_anew, Found, with_sort, with_symbol, with_closed, met, begun_anew, found_in}
use Rattle.models.proofs.LiveLevels.{below, below_bare}
use Rattle.models.proofs.LiveBehind.{behind, IsFound, before, live_is_found}

-- ---- the state at a check

-- a check among the commands, and the commands before the k-th one
module _ (t : Formulas) where
  abbrev pub IsStateAt : ℕ → State Term → List Command → Type 0
  IsStateAt k s cs = option_map (λ (p : Point Term). p.state) (nth_point (points_from s (commands_of t cs)) k) ≡ Some (behind s (commands_of t (before_check k cs)))

  pub more_left : (k : ℕ) → (suc (suc k) == 1) ≡ false
  more_left k = ne_eqb (suc (suc k)) 1 (λ same. omega (arith, same))

  -- a command that is a check
  state_at_check : (k : ℕ) (s : State Term) (c : Command) (cs : List Command) (p : Point Term) → p.state ≡ s → after (command_of t c) s ≡ s → 1 ≤ k
      → ((j : ℕ) → j ≡ k - 1 → 1 ≤ j → IsStateAt j s cs)
      → option_map (λ (q : Point Term). q.state) (nth_point (p ∷ points_from s (commands_of t cs)) k) ≡ Some (behind s (commands_of t (if k == 1 then [] else c ∷ before_check (k - 1) cs)))
  state_at_check zero s c cs p here unchanged some rest = absurd (omega (arith, some))
  state_at_check (suc zero) s c cs p here unchanged some rest = ap Some here
  state_at_check (suc (suc k)) s c cs p here unchanged some rest =
      let less : suc k ≡ suc (suc k) - 1 = omega arith in
      rest (suc k) less (omega arith) ∙ ap (λ j. Some (behind s (commands_of t (before_check j cs)))) less
      ∙ ap (λ r. Some (behind r (commands_of t (before_check (suc (suc k) - 1) cs)))) (sym unchanged)
      ∙ ap (λ b. Some (behind s (commands_of t (if b then [] else c ∷ before_check (suc (suc k) - 1) cs)))) (sym (more_left k))

  one_fewer : (j k n : ℕ) → j ≡ k - 1 → k ≤ 1 + n → 1 ≤ k → j ≤ n
  one_fewer j k n is few some = omega (arith, is, few, some)

  pub state_at : (cs : List Command) (k : ℕ) (s : State Term) → 1 ≤ k → k ≤ count_by is_check cs → IsStateAt k s cs
  state_at [] k s some few = absurd (omega (arith, some, few))
  state_at (Passed text ∷ cs) k s some few = state_at cs k s some few
  state_at (DeclareSort n ∷ cs) k s some few = state_at cs k (after (declare_sort (free_name (sort_at t.sorts n))) s) some few
  state_at (Declare f ∷ cs) k s some few = state_at cs k (after (declare (symbol_at t f)) s) some few
  state_at (Assert id number ∷ cs) k s some few = state_at cs k (after (command_of t (Assert id number)) s) some few
  state_at (Check ∷ cs) k s some few =
      state_at_check k s Check cs (record { kind = checked; state = s; literals = [] }) refl refl some (λ j is j-some. state_at cs j s j-some (one_fewer j k (count_by is_check cs) is (subst (λ n. k ≤ n) (sum_by-cons (λ c. cond (is_check c) 1 0) Check cs) few) some))
  state_at (CheckAssuming ids ∷ cs) k s some few =
      state_at_check k s (CheckAssuming ids) cs (record { kind = assumed; state = s; literals = trees_at t ids }) refl refl some (λ j is j-some. state_at cs j s j-some (one_fewer j k (count_by is_check cs) is (subst (λ n. k ≤ n) (sum_by-cons (λ c. cond (is_check c) 1 0) (CheckAssuming ids) cs) few) some))
  state_at (Push n ∷ cs) k s some few = state_at cs k (after (push n) s) some few
  state_at (Pop n ∷ cs) k s some few = state_at cs k (after (pop n) s) some few
  state_at (Reset ∷ cs) k s some few = state_at cs k start some few
  state_at (ResetAssertions ∷ cs) k s some few = state_at cs k (after reset_assertions s) some few
  state_at (Globals b ∷ cs) k s some few = state_at cs k (after (globals b) s) some few
  state_at (Exit ∷ cs) k s some few = state_at cs k s some few

-- what two clauses say of a result
pub both_ok : {A E : Type 0} {P Q : A → Type 0} (R : A → Type 0) (r : Result A E) → IfOk r P → IfOk r Q → ((x : A) → P x → Q x → R x) → IfOk r R
both_ok R (Ok x) p q f = f x p q
both_ok R (Err e) p q f = tt

part_at : {B : Type 0} (part : State Term → List B) (o : Option (Point Term)) (s : State Term) → option_map (λ (p : Point Term). p.state) o ≡ Some s → at_point (λ p. part p.state) o ≡ part s
part_at part None s h = absurd (none-some s h)
part_at part (Some p) s h = ap part (same_Some p.state s h)

-- ---- the commands before a check are the first ones

one_more : (c : Command) (cs : List Command) (j : ℕ) → ((n : ℕ) × (before_check j cs ≡ take n cs)) → (n : ℕ) × (c ∷ before_check j cs ≡ take n (c ∷ cs))
one_more c cs j p = (suc p.0, ap (λ ds. c ∷ ds) p.1)

first_with : (c : Command) (cs : List Command) (k : ℕ) → ((j : ℕ) → (n : ℕ) × (before_check j cs ≡ take n cs)) → (b a : Bool)
    → (n : ℕ) × ((if b then (if a then [] else c ∷ before_check (k - 1) cs) else c ∷ before_check k cs) ≡ take n (c ∷ cs))
first_with c cs k rest true true = (0, refl)
first_with c cs k rest true false = one_more c cs (k - 1) (rest (k - 1))
first_with c cs k rest false a = one_more c cs k (rest k)

pub first_commands : (k : ℕ) (cs : List Command) → (n : ℕ) × (before_check k cs ≡ take n cs)
first_commands k [] = (0, refl)
first_commands k (c ∷ cs) = first_with c cs k (λ j. first_commands j cs) (is_check c) (k == 1)

followed_still : (c : CommandOf Term) (cs : List (CommandOf Term)) (n : ℕ) → may_be_followed c cs ≡ true → may_be_followed c (take n cs) ≡ true
followed_still (passed text) cs n h = refl
followed_still (declare_sort s) cs n h = refl
followed_still (declare f) cs n h = refl
followed_still (assert i a) cs n h = refl
followed_still check cs n h = refl
followed_still (check_assuming ls) cs n h = refl
followed_still (push i) cs n h = refl
followed_still (pop i) cs n h = refl
followed_still reset cs n h = refl
followed_still reset_assertions cs n h = refl
followed_still (globals b) cs n h = refl
followed_still exit cs zero h = refl
followed_still exit [] (suc n) h = refl
followed_still exit (c ∷ cs) (suc n) h = h

printable_still : (n : ℕ) (cs : List (CommandOf Term)) (begun : Bool) (s : State Term) → printable_from begun s cs ≡ true → printable_from begun s (take n cs) ≡ true
printable_still zero cs begun s h = refl
printable_still (suc n) [] begun s h = refl
printable_still (suc n) (c ∷ cs) begun s h =
    let here = both_true (may_stand begun s c) (may_be_followed c cs && printable_from (fixes begun c) (after c s) cs) h in
    let there = both_true (may_be_followed c cs) (printable_from (fixes begun c) (after c s) cs) here.1 in
    and_true (may_stand begun s c) (may_be_followed c (take n cs) && printable_from (fixes begun c) (after c s) (take n cs)) here.0
    (and_true (may_be_followed c (take n cs)) (printable_from (fixes begun c) (after c s) (take n cs)) (followed_still c cs n there.0) (printable_still n cs (fixes begun c) (after c s) there.1))

-- ---- what is found has numbers of the table

module _ (t : Formulas) (g : Bool) where
  abbrev pub FoundOf : Found → Type 0
  FoundOf f = All (IsFreeSort t) f.sorts × All (IsSymbol t) f.symbols

  chosen : (b : Bool) (f k : Found) → FoundOf f → FoundOf k → FoundOf (if b then f else k)
  chosen true f k p q = p
  chosen false f k p q = q

  found_with : (c : Command) (f : Found) → IsCommandOf t c → FoundOf f → FoundOf (met g c f)
  found_with (Passed text) f is h = h
  found_with (DeclareSort s) f is h = chosen (f.closed == 0) (with_sort s f) f (All-cons (IsFreeSort t) s f.sorts is h.0, h.1) h
  found_with (Declare s) f is h = chosen (f.closed == 0) (with_symbol s f) f (h.0, All-cons (IsSymbol t) s f.symbols is h.1) h
  found_with (Assert id number) f is h = h
  found_with Check f is h = h
  found_with (CheckAssuming ids) f is h = h
  found_with (Push n) f is h = h
  found_with (Pop n) f is h = chosen g f (with_closed (f.closed + n) f) h h
  found_with Reset f is h = h
  found_with ResetAssertions f is h = h
  found_with (Globals b) f is h = h
  found_with Exit f is h = h

  pub found_numbers : (cs : List Command) → AreCommandsOf t cs → FoundOf (found_in g cs)
  found_numbers [] are = (All-nil (IsFreeSort t), All-nil (IsSymbol t))
  found_numbers (c ∷ cs) are =
      let f = found_in g cs in
      let rest : FoundOf f = found_numbers cs (All-tail (IsCommandOf t) c cs are) in
      chosen f.anew f (if begins_anew g c then begun_anew f else met g c f) rest
      (chosen (begins_anew g c) (begun_anew f) (met g c f) rest (found_with c f (All-head (IsCommandOf t) c cs are) rest))

-- ---- the signature

sorts_found : (t : Formulas) → IsFound t (λ l. l.sorts) (λ f. map (λ s. free_name (sort_at t.sorts s)) f.sorts)
sorts_found t = record {
  new_sort = λ s. free_name (sort_at t.sorts s) ∷ [];
  new_symbol = λ s. [];
  empty = refl;
  merged = λ above l. refl;
  asserted = λ a l. refl;
  sort_declared = λ s l. refl;
  symbol_declared = λ f l. sym (append-nil l.sorts);
  collapsed = λ ls. refl;
  none = refl;
  with_sort = λ s f. refl;
  with_symbol = λ s f. refl;
  with_closed = λ n f. refl;
  begun_anew = λ f. refl;
}

symbols_found : (t : Formulas) → IsFound t (λ l. l.symbols) (λ f. map (symbol_at t) f.symbols)
symbols_found t = record {
  new_sort = λ s. [];
  new_symbol = λ s. symbol_at t s ∷ [];
  empty = refl;
  merged = λ above l. refl;
  asserted = λ a l. refl;
  sort_declared = λ s l. sym (append-nil l.symbols);
  symbol_declared = λ f l. refl;
  collapsed = λ ls. refl;
  none = refl;
  with_sort = λ s f. refl;
  with_symbol = λ s f. refl;
  with_closed = λ n f. refl;
  begun_anew = λ f. refl;
}

module _ (t : Formulas) (cs : List Command) (k : ℕ) (printed : printable (commands_of t cs) ≡ true) (some : 1 ≤ k) (few : k ≤ count_by is_check cs) where
  abbrev pub ds : List Command
  ds = before_check k cs

  abbrev pub found : Found
  found = found_in (global_behind_all false ds) ds

  first : printable (commands_of t ds) ≡ true
  first =
      let p = first_commands k cs in
      ap (λ es. printable (commands_of t es)) p.1 ∙ ap printable (sym (take-map (command_of t) p.0 cs)) ∙ printable_still p.0 (commands_of t cs) false start printed

  state : IsStateAt t k start cs
  state = state_at t cs k start some few

  nothing_before : {B : Type 0} (part : Level Term → List B) (of : Found → List B) (is : IsFound t part of) → before t part of is (global_behind_all false ds) found (start {A = Term}).levels ≡ []
  nothing_before part of is = by found.anew
    where
      by : (b : Bool) → (if b then [] else below part is.empty found.closed (empty_level ∷ [])) ≡ []
      by true = refl
      by false = below_bare part is.empty found.closed

  live : {B : Type 0} (part : Level Term → List B) (of : Found → List B) (is : IsFound t part of) → throughout part (behind start (commands_of t ds)).levels ≡ of found
  live part of is =
      live_is_found t part of is (global_behind_all false ds) ds false start (λ _. refl) first refl ∙ ap (λ bs. bs ++ of found) (nothing_before part of is)

  pub signature_found : (l : LiveNumbers) → l.sorts ≡ found.sorts → l.symbols ≡ found.symbols → signature_of t l ≡ signature (commands_of t cs) k
  signature_found l sorts symbols =
      let names : map (λ s. free_name (sort_at t.sorts s)) l.sorts ≡ at_point (λ p. sorts_of_state p.state) (nth_point (points (commands_of t cs)) k) =
      ap (map (λ s. free_name (sort_at t.sorts s))) sorts ∙ sym (live (λ l. l.sorts) (λ f. map (λ s. free_name (sort_at t.sorts s)) f.sorts) (sorts_found t))
      ∙ sym (part_at sorts_of_state (nth_point (points (commands_of t cs)) k) (behind start (commands_of t ds)) state) in
      let functions : map (symbol_at t) l.symbols ≡ at_point (λ p. symbols_of_state p.state) (nth_point (points (commands_of t cs)) k) =
      ap (map (symbol_at t)) symbols ∙ sym (live (λ l. l.symbols) (λ f. map (symbol_at t) f.symbols) (symbols_found t))
      ∙ sym (part_at symbols_of_state (nth_point (points (commands_of t cs)) k) (behind start (commands_of t ds)) state) in
      λ i. record { sorts = names i; symbols = functions i }

  pub numbers_found : (l : LiveNumbers) → l.sorts ≡ found.sorts → l.symbols ≡ found.symbols → AreCommandsOf t cs → AreLiveNumbersOf t l
  numbers_found l sorts symbols are =
      let p = first_commands k cs in
      let numbers = found_numbers t (global_behind_all false ds) ds (subst (AreCommandsOf t) (sym p.1) (All-take (IsCommandOf t) p.0 cs are)) in
      (subst (All (IsFreeSort t)) (sym sorts) numbers.0, subst (All (IsSymbol t)) (sym symbols) numbers.1)
