-- The live applications over the nodes of a table, cut into levels.
use Rattle.std.specs.Prelude.{◌≡◌, ℕ, zero, suc, ◌+◌, ◌<◌, ◌≤◌, List, [], ◌∷◌, Some, map, flat_map, reverse, replicate, take, drop, length, All}
use Rattle.smt_terms.specs.Groups.{Named}
use Rattle.smt_terms.specs.Rank.{sort_of}
use Rattle.smt_terms.specs.Sorts.{Symbol}
use Rattle.smt_terms.specs.Term.{symbol, Term, over}
use Rattle.term_table.specs.Formulas.{Formulas, operands}
use Rattle.term_walk.specs.Walking.{GrowsTo}
use Rattle.ackermann.specs.Ackermann.{Levels}
use Rattle.ackermann.specs.Tables.{operands_of}
use Rattle.ackermann.specs.declared.live.Opened.{Opened}
use Rattle.ackermann.specs.declared.uses.LiveUse.{LiveUse}
use Rattle.ackermann.specs.LiveUses.{named_uses, AreUsesIn}

-- the live applications in the order drawn, and how many stood below each inner level when it was opened, the innermost first
pub record Live : Type 0 where
  pub uses : List LiveUse
  pub starts : List ℕ

abbrev pub cut : Named → List ℕ → Levels
cut ns [] = ns ∷ []
cut ns (s ∷ ss) = drop s ns ∷ cut (take s ns) ss

-- the levels, as terms
abbrev pub levels_at : Formulas → Live → Levels
levels_at t a = cut (named_uses t a.uses) a.starts

-- how many levels are open above the outermost
abbrev pub open_levels : Live → ℕ
open_levels a = length a.starts

-- without the innermost level, and what became live on it
abbrev pub closed_once : List LiveUse → List ℕ → Live
closed_once us [] = record { uses = us; starts = [] }
closed_once us (s ∷ ss) = record { uses = take s us; starts = ss }

-- without so many of the innermost levels
abbrev pub closed : ℕ → Live → Live
closed zero a = a
closed (suc n) a = closed n (closed_once a.uses a.starts)

-- what is live is of the table
abbrev pub AreLiveIn : Formulas → Live → Type 0
AreLiveIn t a = AreUsesIn t a.uses

-- each inner level was opened above those outside it
abbrev pub AreStarts : ℕ → List ℕ → Type 0
AreStarts n [] = Unit {0}
AreStarts n (s ∷ ss) = (s ≤ n) × AreStarts s ss

-- the term applies this function, which has arguments, and these are its operands with the constants in place; they have the
-- sorts of the operands
pub record IsApplicationOf (ns : Named) (f : Symbol) (us : List Term) (t : Term) : Type 0 where
  pub some : 0 < length f.args
  pub applied : t ≡ over (symbol f) (operands t)
  pub replaced : us ≡ operands_of ns t
  pub sorts : map sort_of us ≡ map (λ a. Some a) f.args

-- ---- as they are kept

-- levels that were opened at once have one start; the last ones stand first
abbrev pub starts_of : List Opened → List ℕ
starts_of os = flat_map (λ o. replicate o.levels o.below) (reverse os)

-- levels that are all closed aren't kept
abbrev pub AreOpened : List Opened → Type 0
AreOpened os = All (λ o. 0 < o.levels) os

-- ---- statements

-- as a table gains, what is live stays so, with the same levels
abbrev pub LiveStays : Type 0
LiveStays = (old new : Formulas) (a : Live) → GrowsTo old new → AreLiveIn old a → AreLiveIn new a × (levels_at new a ≡ levels_at old a)

abbrev pub LevelsCount : Type 0
LevelsCount = (t : Formulas) (a : Live) → length (levels_at t a) ≡ open_levels a + 1
