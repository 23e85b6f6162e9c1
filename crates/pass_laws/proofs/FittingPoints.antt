-- What holds of all that commands declare, assert and assume holds of what is declared, asserted and assumed at each point.
use Rattle.std.proofs.Common.{ℕ, zero, suc, Bool, true, false, List, [], ◌∷◌, ◌++◌, replicate, drop, Option, Some, None, All}
use Rattle.std.specs.Prelude.{IfSome}
use Rattle.std.proofs.lemmas.List.Elements.{All-nil, All-append, All-push}
use Rattle.smt_terms.specs.Sorts.{Symbol}
use Rattle.script_read.specs.Commands.{Command, passed, declare_sort, declare, assert, check, check_assuming, push, pop, reset, reset_assertions, globals, exit, Level, State, empty_level, start, throughout, on_latest, with_sort, with_symbol, with_assertion, with_declarations, folded, levels_popped, levels_emptied, after, Point, with_point, points_from, points, nth_point, at_point, live, literals, signature}

module _ (A : Type 0) (P : A → Type 0) (Q : Symbol → Type 0) (L : A → Type 0) where
  -- P holds of what is asserted, Q of what is declared, L of what is assumed
  abbrev pub Fits : Command A → Type 0
  Fits (declare f) = Q f
  Fits (assert i a) = P a
  Fits (check_assuming ls) = All L ls
  Fits _ = Unit {0}

  abbrev pub EachFits : List (Command A) → Type 0
  EachFits [] = Unit {0}
  EachFits (c ∷ cs) = Fits c × EachFits cs

  -- ---- levels

  record LevelFits (l : Level A) : Type 0 where
    symbols : All Q l.symbols
    asserted : All P l.asserted

  abbrev LevelsFit : List (Level A) → Type 0
  LevelsFit [] = Unit {0}
  LevelsFit (l ∷ ls) = LevelFits l × LevelsFit ls

  empty_fits : LevelFits empty_level
  empty_fits = record { symbols = All-nil Q; asserted = All-nil P }

  all_symbols : (ls : List (Level A)) → LevelsFit ls → All Q (throughout (λ l. l.symbols) ls)
  all_symbols [] h = All-nil Q
  all_symbols (l ∷ ls) h = All-append Q (throughout (λ l. l.symbols) ls) l.symbols (all_symbols ls h.1) h.0.symbols

  all_asserted : (ls : List (Level A)) → LevelsFit ls → All P (throughout (λ l. l.asserted) ls)
  all_asserted [] h = All-nil P
  all_asserted (l ∷ ls) h = All-append P (throughout (λ l. l.asserted) ls) l.asserted (all_asserted ls h.1) h.0.asserted

  latest_fits : (change : Level A → Level A) → ((l : Level A) → LevelFits l → LevelFits (change l)) → (ls : List (Level A)) → LevelsFit ls → LevelsFit (on_latest change ls)
  latest_fits change keeps [] h = (keeps empty_level empty_fits, tt)
  latest_fits change keeps (l ∷ ls) h = (keeps l h.0, h.1)

  pushed_fit : (n : ℕ) (ls : List (Level A)) → LevelsFit ls → LevelsFit (replicate n empty_level ++ ls)
  pushed_fit zero ls h = h
  pushed_fit (suc n) ls h = (empty_fits, pushed_fit n ls h)

  dropped_fit : (n : ℕ) (ls : List (Level A)) → LevelsFit ls → LevelsFit (drop n ls)
  dropped_fit zero ls h = h
  dropped_fit (suc n) [] h = tt
  dropped_fit (suc n) (l ∷ ls) h = dropped_fit n ls h.1

  folded_fit : (n : ℕ) (ls : List (Level A)) → LevelsFit ls → LevelsFit (folded n ls)
  folded_fit zero ls h = h
  folded_fit (suc n) [] h = tt
  folded_fit (suc n) (l ∷ []) h = h
  folded_fit (suc n) (above ∷ l ∷ ls) h =
      folded_fit n (with_declarations above l ∷ ls)
      (record { symbols = All-append Q l.symbols above.symbols h.1.0.symbols h.0.symbols; asserted = h.1.0.asserted }, h.1.1)

  popped_fit : (global : Bool) (n : ℕ) (ls : List (Level A)) → LevelsFit ls → LevelsFit (levels_popped global n ls)
  popped_fit true n ls h = folded_fit n ls h
  popped_fit false n ls h = dropped_fit n ls h

  emptied_fit : (global : Bool) (ls : List (Level A)) → LevelsFit ls → LevelsFit (levels_emptied global ls)
  emptied_fit true ls h = (record { symbols = all_symbols ls h; asserted = All-nil P }, tt)
  emptied_fit false ls h = (empty_fits, tt)

  after_fits : (c : Command A) (s : State A) → Fits c → LevelsFit s.levels → LevelsFit (after c s).levels
  after_fits (declare_sort n) s p h = latest_fits (with_sort n) (λ l k. record { symbols = k.symbols; asserted = k.asserted }) s.levels h
  after_fits (declare f) s p h = latest_fits (with_symbol f) (λ l k. record { symbols = All-push Q l.symbols f k.symbols p; asserted = k.asserted }) s.levels h
  after_fits (assert i a) s p h = latest_fits (with_assertion a) (λ l k. record { symbols = k.symbols; asserted = All-push P l.asserted a k.asserted p }) s.levels h
  after_fits (push n) s p h = pushed_fit n s.levels h
  after_fits (pop n) s p h = popped_fit s.global n s.levels h
  after_fits reset_assertions s p h = emptied_fit s.global s.levels h
  after_fits reset s p h = (empty_fits, tt)
  after_fits (globals b) s p h = h
  after_fits (passed text) s p h = h
  after_fits check s p h = h
  after_fits (check_assuming ls) s p h = h
  after_fits exit s p h = h

  -- ---- points

  record PointFits (p : Point A) : Type 0 where
    levels : LevelsFit p.state.levels
    literals : All L p.literals

  abbrev PointsFit : List (Point A) → Type 0
  PointsFit [] = Unit {0}
  PointsFit (p ∷ ps) = PointFits p × PointsFit ps

  with_point_fits : (c : Command A) (s : State A) (ps : List (Point A)) → Fits c → LevelsFit s.levels → PointsFit ps → PointsFit (with_point c s ps)
  with_point_fits check s ps p h k = (record { levels = h; literals = All-nil L }, k)
  with_point_fits (check_assuming ls) s ps p h k = (record { levels = h; literals = p }, k)
  with_point_fits _ s ps p h k = k

  points_fit : (cs : List (Command A)) (s : State A) → EachFits cs → LevelsFit s.levels → PointsFit (points_from s cs)
  points_fit [] s all h = (record { levels = h; literals = All-nil L }, tt)
  points_fit (c ∷ cs) s all h = with_point_fits c s (points_from (after c s) cs) all.0 h (points_fit cs (after c s) all.1 (after_fits c s all.0 h))

  nth_fits : (ps : List (Point A)) (k : ℕ) → PointsFit ps → IfSome (nth_point ps k) PointFits
  nth_fits [] k h = tt
  nth_fits (p ∷ ps) zero h = tt
  nth_fits (p ∷ ps) (suc zero) h = h.0
  nth_fits (p ∷ ps) (suc (suc k)) h = nth_fits ps (suc k) h.1

  all_at : {B : Type 0} (R : B → Type 0) (part : Point A → List B) → ((p : Point A) → PointFits p → All R (part p)) → (o : Option (Point A)) → IfSome o PointFits → All R (at_point part o)
  all_at R part each None h = All-nil R
  all_at R part each (Some p) h = each p h

  pub record FitAt (cs : List (Command A)) (k : ℕ) : Type 0 where
    pub live : All P (live cs k)
    pub symbols : All Q (signature cs k).symbols
    pub literals : All L (literals cs k)

  pub fit_at : (cs : List (Command A)) → EachFits cs → (k : ℕ) → FitAt cs k
  fit_at cs all k =
      let here : IfSome (nth_point (points cs) k) PointFits = nth_fits (points cs) k (points_fit cs start all (empty_fits, tt)) in
      record {
        live = all_at P _ (λ p h. all_asserted p.state.levels h.levels) (nth_point (points cs) k) here;
        symbols = all_at Q _ (λ p h. all_symbols p.state.levels h.levels) (nth_point (points cs) k) here;
        literals = all_at L _ (λ p h. h.literals) (nth_point (points cs) k) here;
      }
