-- The commands of one group lead through no point, and change the latest level alone.
use Rattle.std.proofs.Common.{◌≡◌, ◌∙◌, sym, ap, refl, ℕ, ◌<◌, List, [], ◌∷◌, ◌++◌, map, length, append_assoc, append-nil, arith}
use Rattle.smt_terms.specs.Groups.{Named, Group}
use Rattle.smt_terms.specs.Sorts.{Symbol}
use Rattle.smt_terms.specs.Term.{Term}
use Rattle.term_groups.specs.Grouping.{symbols_of}
use Rattle.script_read.specs.Commands.{Command, declare, assert, Level, State, empty_level, on_latest, with_symbol, with_assertion, with_levels, points_from}
use Rattle.pass_laws.specs.Passed.{group_commands}
use Rattle.pass_laws.proofs.GroupLevels.{with_group}

-- levels behind declarations, and behind assertions
unfoldable pub declared_on : Named → List (Level Term) → List (Level Term)
declared_on [] ls = ls
declared_on (n ∷ ns) ls = declared_on ns (on_latest (with_symbol n.0) ls)

unfoldable pub asserted_on : List Term → List (Level Term) → List (Level Term)
asserted_on [] ls = ls
asserted_on (t ∷ ts) ls = asserted_on ts (on_latest (with_assertion t) ls)

abbrev with_symbols : List Symbol → Level Term → Level Term
with_symbols fs l = record { sorts = l.sorts; symbols = l.symbols ++ fs; asserted = l.asserted }

abbrev with_assertions : List Term → Level Term → Level Term
with_assertions ts l = record { sorts = l.sorts; symbols = l.symbols; asserted = l.asserted ++ ts }

-- ---- no point between

points_declared : (ns : Named) (s : State Term) (cs : List (Command Term)) → points_from s (map (λ n. declare n.0) ns ++ cs) ≡ points_from (with_levels s (declared_on ns s.levels)) cs
unfolding declared_on
points_declared [] s cs = refl
points_declared (n ∷ ns) s cs = points_declared ns (with_levels s (on_latest (with_symbol n.0) s.levels)) cs

points_asserted : (i : ℕ) (ts : List Term) (s : State Term) (cs : List (Command Term)) → points_from s (map (λ t. assert i t) ts ++ cs) ≡ points_from (with_levels s (asserted_on ts s.levels)) cs
unfolding asserted_on
points_asserted i [] s cs = refl
points_asserted i (t ∷ ts) s cs = points_asserted i ts (with_levels s (on_latest (with_assertion t) s.levels)) cs

-- ---- the level behind them

declared_level : (ns : Named) (l : Level Term) (ls : List (Level Term)) → declared_on ns (l ∷ ls) ≡ with_symbols (symbols_of ns) l ∷ ls
unfolding declared_on
declared_level [] l ls = ap (λ fs. record { sorts = l.sorts; symbols = fs; asserted = l.asserted } ∷ ls) (sym (append-nil l.symbols))
declared_level (n ∷ ns) l ls =
    declared_level ns (with_symbol n.0 l) ls ∙ ap (λ fs. record { sorts = l.sorts; symbols = fs; asserted = l.asserted } ∷ ls) (append_assoc l.symbols (n.0 ∷ []) (symbols_of ns))

asserted_level : (ts : List Term) (l : Level Term) (ls : List (Level Term)) → asserted_on ts (l ∷ ls) ≡ with_assertions ts l ∷ ls
unfolding asserted_on
asserted_level [] l ls = ap (λ us. record { sorts = l.sorts; symbols = l.symbols; asserted = us } ∷ ls) (sym (append-nil l.asserted))
asserted_level (t ∷ ts) l ls =
    asserted_level ts (with_assertion t l) ls ∙ ap (λ us. record { sorts = l.sorts; symbols = l.symbols; asserted = us } ∷ ls) (append_assoc l.asserted (t ∷ []) ts)

both_level : (ns : Named) (ts : List Term) (l : Level Term) (ls : List (Level Term)) → asserted_on ts (declared_on ns (l ∷ ls)) ≡ with_assertions ts (with_symbols (symbols_of ns) l) ∷ ls
both_level ns ts l ls = ap (asserted_on ts) (declared_level ns l ls) ∙ asserted_level ts (with_symbols (symbols_of ns) l) ls

-- where there is no level, the first of them opens one: some assertion is among them
pub group_levels : (g : Group) → 0 < length g.asserts → (ls : List (Level Term)) → asserted_on g.asserts (declared_on g.symbols ls) ≡ on_latest (with_group g) ls
unfolding declared_on asserted_on
group_levels g some (l ∷ ls) = both_level g.symbols g.asserts l ls
group_levels g some [] = opened g.symbols g.asserts some
  where
    opened : (ns : Named) (ts : List Term) → 0 < length ts → asserted_on ts (declared_on ns []) ≡ with_assertions ts (with_symbols (symbols_of ns) empty_level) ∷ []
    opened ns [] some = absurd (omega (arith, some))
    opened [] (t ∷ ts) some = asserted_level ts (with_assertion t empty_level) []
    opened (n ∷ ns) (t ∷ ts) some = both_level ns (t ∷ ts) (with_symbol n.0 empty_level) []

-- ---- the points from before a group are those from behind it

pub points_grouped : (i : ℕ) (g : Group) → 0 < length g.asserts → (s : State Term) (cs : List (Command Term)) → points_from s (group_commands i g ++ cs) ≡ points_from (with_levels s (on_latest (with_group g) s.levels)) cs
points_grouped i g some s cs =
    ap (points_from s) (append_assoc (map (λ n. declare n.0) g.symbols) (map (λ t. assert i t) g.asserts) cs)
    ∙ points_declared g.symbols s (map (λ t. assert i t) g.asserts ++ cs)
    ∙ points_asserted i g.asserts (with_levels s (declared_on g.symbols s.levels)) cs
    ∙ ap (λ ls. points_from (with_levels s ls) cs) (group_levels g some s.levels)
