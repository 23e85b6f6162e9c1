-- Commands that are alike, but for what their assertions hold, have points that are alike.
use Rattle.std.proofs.Common.{◌≡◌, ℕ, zero, suc, Bool, true, false, List, [], ◌∷◌, ◌++◌, map, replicate, drop, Option, Some, None, refl, ap, subst, ◌∙◌}
use Rattle.smt_terms.specs.Sorts.{Name, Symbol}
use Rattle.script_read.specs.Commands.{Command, passed, declare_sort, declare, assert, check, check_assuming, push, pop, reset, reset_assertions, globals, exit, Level, State, empty_level, start, throughout, on_latest, with_sort, with_symbol, with_assertion, with_declarations, folded, levels_popped, levels_emptied, after, Point, with_point, points_from, points, kinds, nth_point, at_point, live_in, sorts_of_state, symbols_of_state, live, literals, signature, Signature}
use Rattle.smt_print.specs.Laws.{Each}

-- the same command; the text of one that is passed on and the number of an assertion don't count
pub data LikeCommand (A B : Type 0) (R : A → B → Type 0) : Command A → Command B → Type 0 where
  like_passed : (s t : List ℕ) → LikeCommand A B R (passed s) (passed t)
  like_sort : (n : Name) → LikeCommand A B R (declare_sort n) (declare_sort n)
  like_symbol : (f : Symbol) → LikeCommand A B R (declare f) (declare f)
  like_assert : (i j : ℕ) (a : A) (b : B) → R a b → LikeCommand A B R (assert i a) (assert j b)
  like_check : LikeCommand A B R check check
  like_assuming : (xs : List A) (bs : List B) → Each R xs bs → LikeCommand A B R (check_assuming xs) (check_assuming bs)
  like_push : (n : ℕ) → LikeCommand A B R (push n) (push n)
  like_pop : (n : ℕ) → LikeCommand A B R (pop n) (pop n)
  like_reset : LikeCommand A B R reset reset
  like_emptying : LikeCommand A B R reset_assertions reset_assertions
  like_globals : (b : Bool) → LikeCommand A B R (globals b) (globals b)
  like_exit : LikeCommand A B R exit exit

abbrev signature_from : List Name → List Symbol → Signature
signature_from ns fs = record { sorts = ns; symbols = fs }

module _ (A B : Type 0) (R : A → B → Type 0) where
  pub record LikeLevel (k : Level A) (l : Level B) : Type 0 where
    sorts : k.sorts ≡ l.sorts
    symbols : k.symbols ≡ l.symbols
    asserted : Each R k.asserted l.asserted

  abbrev LikeLevels : List (Level A) → List (Level B) → Type 0
  LikeLevels [] [] = Unit {0}
  LikeLevels (k ∷ ks) (l ∷ ls) = LikeLevel k l × LikeLevels ks ls
  LikeLevels _ _ = ⊥

  pub record LikeState (s : State A) (t : State B) : Type 0 where
    levels : LikeLevels s.levels t.levels
    global : s.global ≡ t.global

  -- ---- lists

  each_more : (xs cs : List A) (bs ds : List B) → Each R xs bs → Each R cs ds → Each R (xs ++ cs) (bs ++ ds)
  each_more [] cs [] ds h k = k
  each_more [] cs (b ∷ bs) ds h k = absurd h
  each_more (a ∷ xs) cs [] ds h k = absurd h
  each_more (a ∷ xs) cs (b ∷ bs) ds h k = (h.0, each_more xs cs bs ds h.1 k)

  empty_like : LikeLevel empty_level empty_level
  empty_like = record { sorts = refl; symbols = refl; asserted = tt }

  pushed_like : (n : ℕ) (ks : List (Level A)) (ls : List (Level B)) → LikeLevels ks ls → LikeLevels (replicate n empty_level ++ ks) (replicate n empty_level ++ ls)
  pushed_like zero ks ls h = h
  pushed_like (suc n) ks ls h = (empty_like, pushed_like n ks ls h)

  dropped_like : (n : ℕ) (ks : List (Level A)) (ls : List (Level B)) → LikeLevels ks ls → LikeLevels (drop n ks) (drop n ls)
  dropped_like zero ks ls h = h
  dropped_like (suc n) [] [] h = tt
  dropped_like (suc n) [] (l ∷ ls) h = absurd h
  dropped_like (suc n) (k ∷ ks) [] h = absurd h
  dropped_like (suc n) (k ∷ ks) (l ∷ ls) h = dropped_like n ks ls h.1

  folded_like : (n : ℕ) (ks : List (Level A)) (ls : List (Level B)) → LikeLevels ks ls → LikeLevels (folded n ks) (folded n ls)
  folded_like zero ks ls h = h
  folded_like (suc n) [] [] h = tt
  folded_like (suc n) [] (l ∷ ls) h = absurd h
  folded_like (suc n) (k ∷ ks) [] h = absurd h
  folded_like (suc n) (k ∷ []) (l ∷ []) h = h
  folded_like (suc n) (k ∷ []) (l ∷ m ∷ ls) h = absurd h.1
  folded_like (suc n) (k ∷ j ∷ ks) (l ∷ []) h = absurd h.1
  folded_like (suc n) (k ∷ j ∷ ks) (l ∷ m ∷ ls) h =
      folded_like n (with_declarations k j ∷ ks) (with_declarations l m ∷ ls)
      (record { sorts = ap (λ ns. j.sorts ++ ns) h.0.sorts ∙ ap (λ ns. ns ++ l.sorts) h.1.0.sorts; symbols = ap (λ fs. j.symbols ++ fs) h.0.symbols ∙ ap (λ fs. fs ++ l.symbols) h.1.0.symbols; asserted = h.1.0.asserted }, h.1.1)

  sorts_like : (ks : List (Level A)) (ls : List (Level B)) → LikeLevels ks ls → throughout (λ l. l.sorts) ks ≡ throughout (λ l. l.sorts) ls
  sorts_like [] [] h = refl
  sorts_like [] (l ∷ ls) h = absurd h
  sorts_like (k ∷ ks) [] h = absurd h
  sorts_like (k ∷ ks) (l ∷ ls) h = ap (λ ns. ns ++ k.sorts) (sorts_like ks ls h.1) ∙ ap (λ ns. throughout (λ l. l.sorts) ls ++ ns) h.0.sorts

  symbols_like : (ks : List (Level A)) (ls : List (Level B)) → LikeLevels ks ls → throughout (λ l. l.symbols) ks ≡ throughout (λ l. l.symbols) ls
  symbols_like [] [] h = refl
  symbols_like [] (l ∷ ls) h = absurd h
  symbols_like (k ∷ ks) [] h = absurd h
  symbols_like (k ∷ ks) (l ∷ ls) h = ap (λ ns. ns ++ k.symbols) (symbols_like ks ls h.1) ∙ ap (λ ns. throughout (λ l. l.symbols) ls ++ ns) h.0.symbols

  asserted_like : (ks : List (Level A)) (ls : List (Level B)) → LikeLevels ks ls → Each R (throughout (λ l. l.asserted) ks) (throughout (λ l. l.asserted) ls)
  asserted_like [] [] h = tt
  asserted_like [] (l ∷ ls) h = absurd h
  asserted_like (k ∷ ks) [] h = absurd h
  asserted_like (k ∷ ks) (l ∷ ls) h = each_more (throughout (λ l. l.asserted) ks) k.asserted (throughout (λ l. l.asserted) ls) l.asserted (asserted_like ks ls h.1) h.0.asserted

  -- ---- states

  latest_sort : (n : Name) (ks : List (Level A)) (ls : List (Level B)) → LikeLevels ks ls → LikeLevels (on_latest (with_sort n) ks) (on_latest (with_sort n) ls)
  latest_sort n [] [] h = (record { sorts = refl; symbols = refl; asserted = tt }, tt)
  latest_sort n [] (l ∷ ls) h = absurd h
  latest_sort n (k ∷ ks) [] h = absurd h
  latest_sort n (k ∷ ks) (l ∷ ls) h = (record { sorts = ap (λ ns. ns ++ n ∷ []) h.0.sorts; symbols = h.0.symbols; asserted = h.0.asserted }, h.1)

  latest_symbol : (f : Symbol) (ks : List (Level A)) (ls : List (Level B)) → LikeLevels ks ls → LikeLevels (on_latest (with_symbol f) ks) (on_latest (with_symbol f) ls)
  latest_symbol f [] [] h = (record { sorts = refl; symbols = refl; asserted = tt }, tt)
  latest_symbol f [] (l ∷ ls) h = absurd h
  latest_symbol f (k ∷ ks) [] h = absurd h
  latest_symbol f (k ∷ ks) (l ∷ ls) h = (record { sorts = h.0.sorts; symbols = ap (λ fs. fs ++ f ∷ []) h.0.symbols; asserted = h.0.asserted }, h.1)

  latest_assertion : (a : A) (b : B) (ks : List (Level A)) (ls : List (Level B)) → R a b → LikeLevels ks ls → LikeLevels (on_latest (with_assertion a) ks) (on_latest (with_assertion b) ls)
  latest_assertion a b [] [] r h = (record { sorts = refl; symbols = refl; asserted = (r, tt) }, tt)
  latest_assertion a b [] (l ∷ ls) r h = absurd h
  latest_assertion a b (k ∷ ks) [] r h = absurd h
  latest_assertion a b (k ∷ ks) (l ∷ ls) r h = (record { sorts = h.0.sorts; symbols = h.0.symbols; asserted = each_more k.asserted (a ∷ []) l.asserted (b ∷ []) h.0.asserted (r, tt) }, h.1)

  popped_like : (b : Bool) (n : ℕ) (ks : List (Level A)) (ls : List (Level B)) → LikeLevels ks ls → LikeLevels (levels_popped b n ks) (levels_popped b n ls)
  popped_like true n ks ls h = folded_like n ks ls h
  popped_like false n ks ls h = dropped_like n ks ls h

  emptied_like : (b : Bool) (ks : List (Level A)) (ls : List (Level B)) → LikeLevels ks ls → LikeLevels (levels_emptied b ks) (levels_emptied b ls)
  emptied_like true ks ls h = (record { sorts = sorts_like ks ls h; symbols = symbols_like ks ls h; asserted = tt }, tt)
  emptied_like false ks ls h = (empty_like, tt)

  start_like : LikeState start start
  start_like = record { levels = (empty_like, tt); global = refl }

  after_like : (c : Command A) (d : Command B) → LikeCommand A B R c d → (s : State A) (t : State B) → LikeState s t → LikeState (after c s) (after d t)
  after_like _ _ (like_passed u v) s t h = h
  after_like _ _ (like_sort n) s t h = record { levels = latest_sort n s.levels t.levels h.levels; global = h.global }
  after_like _ _ (like_symbol f) s t h = record { levels = latest_symbol f s.levels t.levels h.levels; global = h.global }
  after_like _ _ (like_assert i j a b r) s t h = record { levels = latest_assertion a b s.levels t.levels r h.levels; global = h.global }
  after_like _ _ like_check s t h = h
  after_like _ _ (like_assuming xs bs e) s t h = h
  after_like _ _ (like_push n) s t h = record { levels = pushed_like n s.levels t.levels h.levels; global = h.global }
  after_like _ _ (like_pop n) s t h =
      record { levels = subst (λ g. LikeLevels (levels_popped s.global n s.levels) (levels_popped g n t.levels)) h.global (popped_like s.global n s.levels t.levels h.levels); global = h.global }
  after_like _ _ like_reset s t h = start_like
  after_like _ _ like_emptying s t h =
      record { levels = subst (λ g. LikeLevels (levels_emptied s.global s.levels) (levels_emptied g t.levels)) h.global (emptied_like s.global s.levels t.levels h.levels); global = h.global }
  after_like _ _ (like_globals b) s t h = record { levels = h.levels; global = refl }
  after_like _ _ like_exit s t h = h

  -- ---- points

  record LikePoint (p : Point A) (q : Point B) : Type 0 where
    kind : p.kind ≡ q.kind
    state : LikeState p.state q.state
    literals : Each R p.literals q.literals

  abbrev LikePoints : List (Point A) → List (Point B) → Type 0
  LikePoints [] [] = Unit {0}
  LikePoints (p ∷ ps) (q ∷ qs) = LikePoint p q × LikePoints ps qs
  LikePoints _ _ = ⊥

  abbrev pub LikeCommands : List (Command A) → List (Command B) → Type 0
  LikeCommands [] [] = Unit {0}
  LikeCommands (c ∷ cs) (d ∷ ds) = LikeCommand A B R c d × LikeCommands cs ds
  LikeCommands _ _ = ⊥

  with_like : (c : Command A) (d : Command B) → LikeCommand A B R c d → (s : State A) (t : State B) (ps : List (Point A)) (qs : List (Point B)) → LikeState s t → LikePoints ps qs → LikePoints (with_point c s ps) (with_point d t qs)
  with_like _ _ (like_passed u v) s t ps qs h k = k
  with_like _ _ (like_sort n) s t ps qs h k = k
  with_like _ _ (like_symbol f) s t ps qs h k = k
  with_like _ _ (like_assert i j a b r) s t ps qs h k = k
  with_like _ _ like_check s t ps qs h k = (record { kind = refl; state = h; literals = tt }, k)
  with_like _ _ (like_assuming xs bs e) s t ps qs h k = (record { kind = refl; state = h; literals = e }, k)
  with_like _ _ (like_push n) s t ps qs h k = k
  with_like _ _ (like_pop n) s t ps qs h k = k
  with_like _ _ like_reset s t ps qs h k = k
  with_like _ _ like_emptying s t ps qs h k = k
  with_like _ _ (like_globals b) s t ps qs h k = k
  with_like _ _ like_exit s t ps qs h k = k

  points_like : (cs : List (Command A)) (ds : List (Command B)) → LikeCommands cs ds → (s : State A) (t : State B) → LikeState s t → LikePoints (points_from s cs) (points_from t ds)
  points_like [] [] like s t h = (record { kind = refl; state = h; literals = tt }, tt)
  points_like [] (d ∷ ds) like s t h = absurd like
  points_like (c ∷ cs) [] like s t h = absurd like
  points_like (c ∷ cs) (d ∷ ds) like s t h =
      with_like c d like.0 s t (points_from (after c s) cs) (points_from (after d t) ds) h (points_like cs ds like.1 (after c s) (after d t) (after_like c d like.0 s t h))

  kinds_like : (ps : List (Point A)) (qs : List (Point B)) → LikePoints ps qs → map (λ p. p.kind) ps ≡ map (λ p. p.kind) qs
  kinds_like [] [] h = refl
  kinds_like [] (q ∷ qs) h = absurd h
  kinds_like (p ∷ ps) [] h = absurd h
  kinds_like (p ∷ ps) (q ∷ qs) h = ap (λ k. k ∷ map (λ p. p.kind) ps) h.0.kind ∙ ap (λ ks. q.kind ∷ ks) (kinds_like ps qs h.1)

  abbrev LikeOption : Option (Point A) → Option (Point B) → Type 0
  LikeOption None None = Unit {0}
  LikeOption (Some p) (Some q) = LikePoint p q
  LikeOption _ _ = ⊥

  nth_like : (ps : List (Point A)) (qs : List (Point B)) (k : ℕ) → LikePoints ps qs → LikeOption (nth_point ps k) (nth_point qs k)
  nth_like [] [] k h = tt
  nth_like [] (q ∷ qs) k h = absurd h
  nth_like (p ∷ ps) [] k h = absurd h
  nth_like (p ∷ ps) (q ∷ qs) zero h = tt
  nth_like (p ∷ ps) (q ∷ qs) (suc zero) h = h.0
  nth_like (p ∷ ps) (q ∷ qs) (suc (suc k)) h = nth_like ps qs (suc k) h.1

  live_like : (o : Option (Point A)) (q : Option (Point B)) → LikeOption o q → Each R (at_point (λ p. live_in p.state) o) (at_point (λ p. live_in p.state) q)
  live_like None None h = tt
  live_like None (Some q) h = absurd h
  live_like (Some p) None h = absurd h
  live_like (Some p) (Some q) h = asserted_like p.state.levels q.state.levels h.state.levels

  literals_like : (o : Option (Point A)) (q : Option (Point B)) → LikeOption o q → Each R (at_point (λ p. p.literals) o) (at_point (λ p. p.literals) q)
  literals_like None None h = tt
  literals_like None (Some q) h = absurd h
  literals_like (Some p) None h = absurd h
  literals_like (Some p) (Some q) h = h.literals

  signature_like : (o : Option (Point A)) (q : Option (Point B)) → LikeOption o q
      → (at_point (λ p. sorts_of_state p.state) o ≡ at_point (λ p. sorts_of_state p.state) q) × (at_point (λ p. symbols_of_state p.state) o ≡ at_point (λ p. symbols_of_state p.state) q)
  signature_like None None h = (refl, refl)
  signature_like None (Some q) h = absurd h
  signature_like (Some p) None h = absurd h
  signature_like (Some p) (Some q) h = (sorts_like p.state.levels q.state.levels h.state.levels, symbols_like p.state.levels q.state.levels h.state.levels)

  -- ---- what hangs on the points

  pub record Alike (cs : List (Command A)) (ds : List (Command B)) : Type 0 where
    pub kinds : kinds cs ≡ kinds ds
    pub signatures : (k : ℕ) → signature cs k ≡ signature ds k
    pub live : (k : ℕ) → Each R (live cs k) (live ds k)
    pub literals : (k : ℕ) → Each R (literals cs k) (literals ds k)

  pub alike : (cs : List (Command A)) (ds : List (Command B)) → LikeCommands cs ds → Alike cs ds
  alike cs ds like =
      let same = points_like cs ds like start start start_like in
      record {
        kinds = kinds_like (points cs) (points ds) same;
        signatures = λ k.
            let r = signature_like (nth_point (points cs) k) (nth_point (points ds) k) (nth_like (points cs) (points ds) k same) in
            ap (λ ns. signature_from ns (at_point (λ p. symbols_of_state p.state) (nth_point (points cs) k))) r.0
            ∙ ap (signature_from (at_point (λ p. sorts_of_state p.state) (nth_point (points ds) k))) r.1;
        live = λ k. live_like (nth_point (points cs) k) (nth_point (points ds) k) (nth_like (points cs) (points ds) k same);
        literals = λ k. literals_like (nth_point (points cs) k) (nth_point (points ds) k) (nth_like (points cs) (points ds) k same);
      }
