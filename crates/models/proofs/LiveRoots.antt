-- What is live with its number is what is live: the roots are the live assertions of a check, and then its literals; and so are their
-- nodes, over a table.
use Rattle.std.proofs.Common.{◌≡◌, ◌∙◌, sym, ap, refl, ℕ, zero, suc, Bool, true, false, List, [], ◌∷◌, ◌++◌, map, replicate, Option, Some, None}
use Rattle.std.specs.Prelude.{option_map}
use Rattle.std.proofs.lemmas.List.{map-append, drop-map}
use Rattle.smt_terms.specs.declared.ids.NodeId.{NodeId}
use Rattle.smt_terms.specs.Sorts.{Name, Symbol}
use Rattle.smt_terms.specs.Term.{Term}
use Rattle.term_table.specs.Formulas.{Formulas, tree, trees_at}
use Rattle.script_read.specs.Commands.{Command, declare_sort, declare, assert, check, check_assuming, push, pop, reset_assertions, with_asserted, Level, State, empty_level, start, throughout, on_latest, with_sort, with_symbol, with_assertion, with_declarations, folded, levels_popped, levels_emptied, after, Point, with_point, points_from, points, nth_point, at_point, live_in, live, literals}
use Rattle.models.specs.LiveTerms.{with_number, live_terms, numbered_at}
use Rattle.models.specs.LiveRoots.{roots}

module _ {A B : Type 0} (g : A → B) where
  abbrev level_with : Level A → Level B
  level_with l = record { sorts = l.sorts; symbols = l.symbols; asserted = map g l.asserted }

  abbrev state_with : State A → State B
  state_with s = record { levels = map level_with s.levels; global = s.global }

  abbrev point_with : Point A → Point B
  point_with p = record { kind = p.kind; state = state_with p.state; literals = map g p.literals }

  -- ---- levels

  sorts_kept : (ls : List (Level A)) → throughout (λ l. l.sorts) (map level_with ls) ≡ throughout (λ l. l.sorts) ls
  sorts_kept [] = refl
  sorts_kept (l ∷ ls) = ap (λ ns. ns ++ l.sorts) (sorts_kept ls)

  symbols_kept : (ls : List (Level A)) → throughout (λ l. l.symbols) (map level_with ls) ≡ throughout (λ l. l.symbols) ls
  symbols_kept [] = refl
  symbols_kept (l ∷ ls) = ap (λ fs. fs ++ l.symbols) (symbols_kept ls)

  asserted_kept : (ls : List (Level A)) → throughout (λ l. l.asserted) (map level_with ls) ≡ map g (throughout (λ l. l.asserted) ls)
  asserted_kept [] = refl
  asserted_kept (l ∷ ls) = ap (λ xs. xs ++ map g l.asserted) (asserted_kept ls) ∙ sym (map-append g (throughout (λ l. l.asserted) ls) l.asserted)

  latest_sort : (n : Name) (ls : List (Level A)) → on_latest (with_sort n) (map level_with ls) ≡ map level_with (on_latest (with_sort n) ls)
  latest_sort n [] = refl
  latest_sort n (l ∷ ls) = refl

  latest_symbol : (f : Symbol) (ls : List (Level A)) → on_latest (with_symbol f) (map level_with ls) ≡ map level_with (on_latest (with_symbol f) ls)
  latest_symbol f [] = refl
  latest_symbol f (l ∷ ls) = refl

  latest_assertion : (a : A) (ls : List (Level A)) → on_latest (with_assertion (g a)) (map level_with ls) ≡ map level_with (on_latest (with_assertion a) ls)
  latest_assertion a [] = refl
  latest_assertion a (l ∷ ls) = ap (λ xs. record { sorts = l.sorts; symbols = l.symbols; asserted = xs } ∷ map level_with ls) (sym (map-append g l.asserted (a ∷ [])))

  levels_pushed : (n : ℕ) (ls : List (Level A)) → replicate n empty_level ++ map level_with ls ≡ map level_with (replicate n empty_level ++ ls)
  levels_pushed zero ls = refl
  levels_pushed (suc n) ls = ap (λ ks. empty_level ∷ ks) (levels_pushed n ls)

  folded_with : (n : ℕ) (ls : List (Level A)) → folded n (map level_with ls) ≡ map level_with (folded n ls)
  folded_with zero ls = refl
  folded_with (suc n) [] = refl
  folded_with (suc n) (l ∷ []) = refl
  folded_with (suc n) (above ∷ l ∷ ls) = folded_with n (with_declarations above l ∷ ls)

  popped_with : (global : Bool) (n : ℕ) (ls : List (Level A)) → levels_popped global n (map level_with ls) ≡ map level_with (levels_popped global n ls)
  popped_with true n ls = folded_with n ls
  popped_with false n ls = drop-map level_with n ls

  emptied_with : (global : Bool) (ls : List (Level A)) → levels_emptied global (map level_with ls) ≡ map level_with (levels_emptied global ls)
  emptied_with true ls = λ i. record { sorts = sorts_kept ls i; symbols = symbols_kept ls i; asserted = [] } ∷ []
  emptied_with false ls = refl

  -- ---- points

  same_state : (global : Bool) (ks ls : List (Level B)) → ks ≡ ls → ◌≡◌ {A = State B} (record { levels = ks; global = global }) (record { levels = ls; global = global })
  same_state global ks ls same = λ i. record { levels = same i; global = global }

  after_with : (c : Command A) (s : State A) → after (with_asserted g c) (state_with s) ≡ state_with (after c s)
  after_with (declare_sort n) s = same_state s.global (on_latest (with_sort n) (map level_with s.levels)) (map level_with (on_latest (with_sort n) s.levels)) (latest_sort n s.levels)
  after_with (declare f) s = same_state s.global (on_latest (with_symbol f) (map level_with s.levels)) (map level_with (on_latest (with_symbol f) s.levels)) (latest_symbol f s.levels)
  after_with (assert i a) s = same_state s.global (on_latest (with_assertion (g a)) (map level_with s.levels)) (map level_with (on_latest (with_assertion a) s.levels)) (latest_assertion a s.levels)
  after_with (push n) s = same_state s.global (replicate n empty_level ++ map level_with s.levels) (map level_with (replicate n empty_level ++ s.levels)) (levels_pushed n s.levels)
  after_with (pop n) s = same_state s.global (levels_popped s.global n (map level_with s.levels)) (map level_with (levels_popped s.global n s.levels)) (popped_with s.global n s.levels)
  after_with reset_assertions s = same_state s.global (levels_emptied s.global (map level_with s.levels)) (map level_with (levels_emptied s.global s.levels)) (emptied_with s.global s.levels)
  after_with _ s = refl

  point_behind : (c : Command A) (s : State A) (ps : List (Point A)) → with_point (with_asserted g c) (state_with s) (map point_with ps) ≡ map point_with (with_point c s ps)
  point_behind check s ps = refl
  point_behind (check_assuming ls) s ps = refl
  point_behind _ s ps = refl

  points_with : (s : State A) (cs : List (Command A)) → points_from (state_with s) (map (with_asserted g) cs) ≡ map point_with (points_from s cs)
  points_with s [] = refl
  points_with s (c ∷ cs) =
      ap (λ x. with_point (with_asserted g c) (state_with s) (points_from x (map (with_asserted g) cs))) (after_with c s)
      ∙ ap (λ ps. with_point (with_asserted g c) (state_with s) ps) (points_with (after c s) cs)
      ∙ point_behind c s (points_from (after c s) cs)

  nth_with : (ps : List (Point A)) (k : ℕ) → nth_point (map point_with ps) k ≡ option_map point_with (nth_point ps k)
  nth_with [] k = refl
  nth_with (p ∷ ps) zero = refl
  nth_with (p ∷ ps) (suc zero) = refl
  nth_with (p ∷ ps) (suc (suc k)) = nth_with ps (suc k)

  point_at : (cs : List (Command A)) (k : ℕ) → nth_point (points (map (with_asserted g) cs)) k ≡ option_map point_with (nth_point (points cs) k)
  point_at cs k = ap (λ ps. nth_point ps k) (points_with start cs) ∙ nth_with (points cs) k

  -- ---- what is live and what is assumed

  live_at : (o : Option (Point A)) → at_point (λ p. live_in p.state) (option_map point_with o) ≡ map g (at_point (λ p. live_in p.state) o)
  live_at (Some p) = asserted_kept p.state.levels
  live_at None = refl

  literals_at : (o : Option (Point A)) → at_point (λ p. p.literals) (option_map point_with o) ≡ map g (at_point (λ p. p.literals) o)
  literals_at (Some p) = refl
  literals_at None = refl

  live_with : (cs : List (Command A)) (k : ℕ) → live (map (with_asserted g) cs) k ≡ map g (live cs k)
  live_with cs k = ap (at_point (λ p. live_in p.state)) (point_at cs k) ∙ live_at (nth_point (points cs) k)

  literals_with : (cs : List (Command A)) (k : ℕ) → literals (map (with_asserted g) cs) k ≡ map g (literals cs k)
  literals_with cs k = ap (at_point (λ p. p.literals)) (point_at cs k) ∙ literals_at (nth_point (points cs) k)

-- ---- without the numbers

abbrev unnumbered : Term × ℕ → Term
unnumbered r = r.0

literals_back : (ls : List Term) → map unnumbered (map (λ l. (l, 0)) ls) ≡ ls
literals_back [] = refl
literals_back (l ∷ ls) = ap (λ ks. l ∷ ks) (literals_back ls)

number_off : (c : Command Term) → with_asserted unnumbered (with_number c) ≡ c
number_off (check_assuming ls) = ap check_assuming (literals_back ls)
number_off _ = refl

numbers_off : (cs : List (Command Term)) → map (with_asserted unnumbered) (map with_number cs) ≡ cs
numbers_off [] = refl
numbers_off (c ∷ cs) = λ i. number_off c i ∷ numbers_off cs i

pub roots_are : (cs : List (Command Term)) (k : ℕ) → roots cs k ≡ live cs k ++ literals cs k
roots_are cs k =
    map-append unnumbered (live (map with_number cs) k) (literals (map with_number cs) k)
    ∙ (λ i. sym (live_with unnumbered (map with_number cs) k) i ++ sym (literals_with unnumbered (map with_number cs) k) i)
    ∙ ap (λ ds. live ds k ++ literals ds k) (numbers_off cs)

-- ---- over a table

pub live_trees : (t : Formulas) (ls : List (NodeId × ℕ)) → trees_at t (map (λ l. l.0) ls) ≡ map (λ r. r.0) (numbered_at t ls)
live_trees t [] = refl
live_trees t (l ∷ ls) = ap (λ ts. tree t l.0 ∷ ts) (live_trees t ls)

pub live_numbers : (t : Formulas) (ls : List (NodeId × ℕ)) → map (λ r. r.1) (numbered_at t ls) ≡ map (λ l. l.1) ls
live_numbers t [] = refl
live_numbers t (l ∷ ls) = ap (λ ns. l.1 ∷ ns) (live_numbers t ls)

-- the terms of live nodes are the roots
pub root_trees : (t : Formulas) (ls : List (NodeId × ℕ)) (cs : List (Command Term)) (k : ℕ) → numbered_at t ls ≡ live_terms cs k → trees_at t (map (λ l. l.0) ls) ≡ roots cs k
root_trees t ls cs k same = live_trees t ls ∙ ap (λ (rs : List (Term × ℕ)). map unnumbered rs) same
