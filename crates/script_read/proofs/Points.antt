-- The points of commands don't hang on what assertions hold.
use Rattle.std.proofs.Common.{◌≡◌, ◌∙◌, sym, ap, refl, ℕ, zero, suc, Bool, true, false, List, [], ◌∷◌, ◌++◌, map, length, replicate, Option, Some, None}
use Rattle.std.specs.Prelude.{option_map}
use Rattle.std.proofs.lemmas.List.{map-append, drop-map, length-map}
use Rattle.smt_terms.specs.Sorts.{Name, Symbol}
use Rattle.smt_terms.specs.Term.{Term}
use Rattle.script_read.specs.Commands.{Command, declare_sort, declare, assert, check, check_assuming, push, pop, reset_assertions, with_asserted, Level, State, empty_level, start, throughout, on_latest, with_sort, with_symbol, with_assertion, folded, levels_popped, levels_emptied, after, Point, with_point, points_from, points, kinds, nth_point, at_point, live_in, sorts_of_state, symbols_of_state, live, signature, Signature}
use Rattle.script_read.specs.Laws.{blank, bare, SamePoints, PointsAgree}
use Rattle.script_read.specs.Scenes.{forms_script}
use Rattle.script_read.proofs.Agreement.{same_commands}

abbrev pub level_with : {A B : Type 0} → (A → B) → Level A → Level B
level_with g l = record { sorts = l.sorts; symbols = l.symbols; asserted = map g l.asserted }

abbrev pub state_with : {A B : Type 0} → (A → B) → State A → State B
state_with g s = record { levels = map (level_with g) s.levels; global = s.global }

abbrev pub point_with : {A B : Type 0} → (A → B) → Point A → Point B
point_with g p = record { kind = p.kind; state = state_with g p.state; literals = map g p.literals }

-- ---- levels

sorts_kept : {A B : Type 0} (g : A → B) (ls : List (Level A)) → throughout (λ l. l.sorts) (map (level_with g) ls) ≡ throughout (λ l. l.sorts) ls
sorts_kept g [] = refl
sorts_kept g (l ∷ ls) = ap (λ ns. ns ++ l.sorts) (sorts_kept g ls)

symbols_kept : {A B : Type 0} (g : A → B) (ls : List (Level A)) → throughout (λ l. l.symbols) (map (level_with g) ls) ≡ throughout (λ l. l.symbols) ls
symbols_kept g [] = refl
symbols_kept g (l ∷ ls) = ap (λ fs. fs ++ l.symbols) (symbols_kept g ls)

asserted_kept : {A B : Type 0} (g : A → B) (ls : List (Level A)) → throughout (λ l. l.asserted) (map (level_with g) ls) ≡ map g (throughout (λ l. l.asserted) ls)
asserted_kept g [] = refl
asserted_kept g (l ∷ ls) = ap (λ xs. xs ++ map g l.asserted) (asserted_kept g ls) ∙ sym (map-append g (throughout (λ l. l.asserted) ls) l.asserted)

latest_sort : {A B : Type 0} (g : A → B) (n : Name) (ls : List (Level A)) → on_latest (with_sort n) (map (level_with g) ls) ≡ map (level_with g) (on_latest (with_sort n) ls)
latest_sort g n [] = refl
latest_sort g n (l ∷ ls) = refl

latest_symbol : {A B : Type 0} (g : A → B) (f : Symbol) (ls : List (Level A)) → on_latest (with_symbol f) (map (level_with g) ls) ≡ map (level_with g) (on_latest (with_symbol f) ls)
latest_symbol g f [] = refl
latest_symbol g f (l ∷ ls) = refl

latest_assertion : {A B : Type 0} (g : A → B) (a : A) (ls : List (Level A)) → on_latest (with_assertion (g a)) (map (level_with g) ls) ≡ map (level_with g) (on_latest (with_assertion a) ls)
latest_assertion g a [] = refl
latest_assertion g a (l ∷ ls) = ap (λ xs. record { sorts = l.sorts; symbols = l.symbols; asserted = xs } ∷ map (level_with g) ls) (sym (map-append g l.asserted (a ∷ [])))

levels_pushed : {A B : Type 0} (g : A → B) (n : ℕ) (ls : List (Level A)) → replicate n empty_level ++ map (level_with g) ls ≡ map (level_with g) (replicate n empty_level ++ ls)
levels_pushed g zero ls = refl
levels_pushed g (suc n) ls = ap (λ ks. empty_level ∷ ks) (levels_pushed g n ls)

folded_with : {A B : Type 0} (g : A → B) (n : ℕ) (ls : List (Level A)) → folded n (map (level_with g) ls) ≡ map (level_with g) (folded n ls)
folded_with g zero ls = refl
folded_with g (suc n) [] = refl
folded_with g (suc n) (l ∷ []) = refl
folded_with g (suc n) (above ∷ l ∷ ls) = folded_with g n (record { sorts = l.sorts ++ above.sorts; symbols = l.symbols ++ above.symbols; asserted = l.asserted } ∷ ls)

popped_with : {A B : Type 0} (g : A → B) (global : Bool) (n : ℕ) (ls : List (Level A)) → levels_popped global n (map (level_with g) ls) ≡ map (level_with g) (levels_popped global n ls)
popped_with g true n ls = folded_with g n ls
popped_with g false n ls = drop-map (level_with g) n ls

emptied_with : {A B : Type 0} (g : A → B) (global : Bool) (ls : List (Level A)) → levels_emptied global (map (level_with g) ls) ≡ map (level_with g) (levels_emptied global ls)
emptied_with g true ls =
    ap (λ ns. record { sorts = ns; symbols = throughout (λ l. l.symbols) (map (level_with g) ls); asserted = [] } ∷ []) (sorts_kept g ls)
    ∙ ap (λ fs. record { sorts = throughout (λ l. l.sorts) ls; symbols = fs; asserted = [] } ∷ []) (symbols_kept g ls)
emptied_with g false ls = refl

-- ---- commands

abbrev state_of : {A : Type 0} → List (Level A) → Bool → State A
state_of ls global = record { levels = ls; global = global }

levels_same : {B : Type 0} (global : Bool) (ls ks : List (Level B)) → ls ≡ ks → state_of ls global ≡ state_of ks global
levels_same global ls ks h = ap (λ xs. state_of xs global) h

after_with : {A B : Type 0} (g : A → B) (c : Command A) (s : State A) → after (with_asserted g c) (state_with g s) ≡ state_with g (after c s)
after_with g (declare_sort n) s = levels_same s.global (on_latest (with_sort n) (map (level_with g) s.levels)) (map (level_with g) (on_latest (with_sort n) s.levels)) (latest_sort g n s.levels)
after_with g (declare f) s = levels_same s.global (on_latest (with_symbol f) (map (level_with g) s.levels)) (map (level_with g) (on_latest (with_symbol f) s.levels)) (latest_symbol g f s.levels)
after_with g (assert i a) s = levels_same s.global (on_latest (with_assertion (g a)) (map (level_with g) s.levels)) (map (level_with g) (on_latest (with_assertion a) s.levels)) (latest_assertion g a s.levels)
after_with g (push n) s = levels_same s.global (replicate n empty_level ++ map (level_with g) s.levels) (map (level_with g) (replicate n empty_level ++ s.levels)) (levels_pushed g n s.levels)
after_with g (pop n) s = levels_same s.global (levels_popped s.global n (map (level_with g) s.levels)) (map (level_with g) (levels_popped s.global n s.levels)) (popped_with g s.global n s.levels)
after_with g reset_assertions s = levels_same s.global (levels_emptied s.global (map (level_with g) s.levels)) (map (level_with g) (levels_emptied s.global s.levels)) (emptied_with g s.global s.levels)
after_with g _ s = refl

point_behind : {A B : Type 0} (g : A → B) (c : Command A) (s : State A) (ps : List (Point A)) → with_point (with_asserted g c) (state_with g s) (map (point_with g) ps) ≡ map (point_with g) (with_point c s ps)
point_behind g check s ps = refl
point_behind g (check_assuming ls) s ps = refl
point_behind g _ s ps = refl

pub points_with : {A B : Type 0} (g : A → B) (s : State A) (cs : List (Command A)) → points_from (state_with g s) (map (with_asserted g) cs) ≡ map (point_with g) (points_from s cs)
points_with g s [] = refl
points_with g s (c ∷ cs) =
    ap (λ x. with_point (with_asserted g c) (state_with g s) (points_from x (map (with_asserted g) cs))) (after_with g c s)
    ∙ ap (λ ps. with_point (with_asserted g c) (state_with g s) ps) (points_with g (after c s) cs)
    ∙ point_behind g c s (points_from (after c s) cs)

-- ---- what hangs on the points alone

kinds_kept : {A B : Type 0} (g : A → B) (ps : List (Point A)) → map (λ p. p.kind) (map (point_with g) ps) ≡ map (λ p. p.kind) ps
kinds_kept g [] = refl
kinds_kept g (p ∷ ps) = ap (λ ks. p.kind ∷ ks) (kinds_kept g ps)

pub nth_kept : {A B : Type 0} (g : A → B) (ps : List (Point A)) (k : ℕ) → nth_point (map (point_with g) ps) k ≡ option_map (point_with g) (nth_point ps k)
nth_kept g [] k = refl
nth_kept g (p ∷ ps) zero = refl
nth_kept g (p ∷ ps) (suc zero) = refl
nth_kept g (p ∷ ps) (suc (suc k)) = nth_kept g ps (suc k)

sorts_at : {A B : Type 0} (g : A → B) (o : Option (Point A)) → at_point (λ p. sorts_of_state p.state) (option_map (point_with g) o) ≡ at_point (λ p. sorts_of_state p.state) o
sorts_at g (Some p) = sorts_kept g p.state.levels
sorts_at g None = refl

symbols_at : {A B : Type 0} (g : A → B) (o : Option (Point A)) → at_point (λ p. symbols_of_state p.state) (option_map (point_with g) o) ≡ at_point (λ p. symbols_of_state p.state) o
symbols_at g (Some p) = symbols_kept g p.state.levels
symbols_at g None = refl

pub live_at : {A B : Type 0} (g : A → B) (o : Option (Point A)) → at_point (λ p. live_in p.state) (option_map (point_with g) o) ≡ map g (at_point (λ p. live_in p.state) o)
live_at g (Some p) = asserted_kept g p.state.levels
live_at g None = refl

bare_kinds : {A : Type 0} (cs : List (Command A)) → kinds (bare cs) ≡ kinds cs
bare_kinds cs = ap (λ ps. map (λ p. p.kind) ps) (points_with blank start cs) ∙ kinds_kept blank (points cs)

bare_point : {A : Type 0} (cs : List (Command A)) (k : ℕ) → nth_point (points (bare cs)) k ≡ option_map (point_with blank) (nth_point (points cs) k)
bare_point cs k = ap (λ ps. nth_point ps k) (points_with blank start cs) ∙ nth_kept blank (points cs) k

abbrev signature_from : List Name → List Symbol → Signature
signature_from ns fs = record { sorts = ns; symbols = fs }

bare_signature : {A : Type 0} (cs : List (Command A)) (k : ℕ) → signature (bare cs) k ≡ signature cs k
bare_signature cs k =
    ap (λ o. signature_from (at_point (λ p. sorts_of_state p.state) o) (at_point (λ p. symbols_of_state p.state) o)) (bare_point cs k)
    ∙ ap (λ ns. signature_from ns (at_point (λ p. symbols_of_state p.state) (option_map (point_with blank) (nth_point (points cs) k)))) (sorts_at blank (nth_point (points cs) k))
    ∙ ap (λ fs. signature_from (at_point (λ p. sorts_of_state p.state) (nth_point (points cs) k)) fs) (symbols_at blank (nth_point (points cs) k))

bare_live : {A : Type 0} (cs : List (Command A)) (k : ℕ) → length (live (bare cs) k) ≡ length (live cs k)
bare_live cs k =
    ap (λ o. length (at_point (λ p. live_in p.state) o)) (bare_point cs k)
    ∙ ap length (live_at blank (nth_point (points cs) k))
    ∙ length-map (at_point (λ p. live_in p.state) (nth_point (points cs) k)) blank

-- commands that are the same but for what they assert have the same points
same_points : (b : List ℕ) (cs : List (Command Term)) → bare cs ≡ bare (forms_script b) → SamePoints b cs
same_points b cs h = record {
  kinds = sym (bare_kinds cs) ∙ ap kinds h ∙ bare_kinds (forms_script b);
  signatures = λ k. sym (bare_signature cs k) ∙ ap (λ x. signature x k) h ∙ bare_signature (forms_script b) k;
  live = λ k. sym (bare_live cs k) ∙ ap (λ x. length (live x k)) h ∙ bare_live (forms_script b) k;
}

pub points_agree : PointsAgree
points_agree b r h = same_points b r.0 (same_commands b r h)
