-- States without the functions that have arguments: a command that declares none of these leads from such a state to such a state.
use Rattle.std.proofs.Common.{◌≡◌, ◌∙◌, sym, ap, refl, ℕ, zero, suc, ◌<◌, Bool, true, false, List, [], ◌∷◌, ◌++◌, map, length, append-nil, cond, Option, Some, None, All, arith}
use Rattle.std.specs.Prelude.{filter, option_map}
use Rattle.std.proofs.lemmas.List.Elements.{filter-append, All-head, All-tail}
use Rattle.smt_terms.specs.Free.{is_among}
use Rattle.smt_terms.specs.Groups.{Named, Group}
use Rattle.smt_terms.specs.Rank.{is_empty}
use Rattle.smt_terms.specs.Sorts.{Symbol}
use Rattle.smt_terms.specs.Term.{Term}
use Rattle.smt_terms.proofs.Among.{is_among-filter}
use Rattle.smt_terms.proofs.Tests.{both_true, and_true}
use Rattle.term_groups.specs.Grouping.{symbols_of}
use Rattle.script_read.specs.Commands.{Command, passed, declare_sort, declare, assert, check, check_assuming, push, pop, reset, reset_assertions, globals, exit, Level, State, throughout, on_latest, with_sort, with_symbol, with_assertion, with_declarations, levels_popped, levels_emptied, with_levels, after, Point, nth_point, at_point, live_in, sorts_of_state, symbols_of_state}
use Rattle.pass_laws.proofs.GroupLevels.{with_group}
use Rattle.pass_laws.proofs.MappedLevels.{mapped_latest, mapped_push, mapped_pop, mapped_throughout}

abbrev pub is_plain : Symbol → Bool
is_plain f = is_empty f.args

abbrev pub plain : List Symbol → List Symbol
plain fs = filter is_plain fs

abbrev pub plain_level : Level Term → Level Term
plain_level l = record { sorts = l.sorts; symbols = plain l.symbols; asserted = l.asserted }

abbrev pub plain_state : State Term → State Term
plain_state t = record { levels = map plain_level t.levels; global = t.global }

abbrev pub plain_point : Point Term → Point Term
plain_point p = record { kind = p.kind; state = plain_state p.state; literals = p.literals }

pub among_plain : (fs : List Symbol) (f : Symbol) → is_among fs f ≡ true → is_empty f.args ≡ true → is_among (plain fs) f ≡ true
among_plain fs f among is = is_among-filter is_plain fs f ∙ and_true (is_among fs f) (is_plain f) among is

pub plain_among : (fs : List Symbol) (f : Symbol) → is_among (plain fs) f ≡ true → (is_among fs f ≡ true) × (is_empty f.args ≡ true)
plain_among fs f among = both_true (is_among fs f) (is_plain f) (sym (is_among-filter is_plain fs f) ∙ among)

-- ---- levels

plain_below : (k l : Level Term) → with_declarations (plain_level k) (plain_level l) ≡ plain_level (with_declarations k l)
plain_below k l = ap (λ fs. record { sorts = l.sorts ++ k.sorts; symbols = fs; asserted = l.asserted }) (sym (filter-append is_plain l.symbols k.symbols))

pub constants_plain : (ns : Named) → All (λ n. n.0.args ≡ []) ns → plain (symbols_of ns) ≡ symbols_of ns
constants_plain [] constants = refl
constants_plain (n ∷ ns) constants =
    let here : n.0.args ≡ [] = All-head (λ (p : Symbol × Term). p.0.args ≡ []) n ns constants in
    λ i. cond (is_empty (here i)) (n.0 ∷ constants_plain ns (All-tail (λ (p : Symbol × Term). p.0.args ≡ []) n ns constants) i) (constants_plain ns (All-tail (λ (p : Symbol × Term). p.0.args ≡ []) n ns constants) i)

pub plain_sorts : (ls : List (Level Term)) → throughout (λ l. l.sorts) (map plain_level ls) ≡ throughout (λ l. l.sorts) ls
plain_sorts ls = mapped_throughout plain_level (λ l. l.sorts) (λ l. l.sorts) (λ l. refl) ls

pub plain_asserted : (ls : List (Level Term)) → throughout (λ l. l.asserted) (map plain_level ls) ≡ throughout (λ l. l.asserted) ls
plain_asserted ls = mapped_throughout plain_level (λ l. l.asserted) (λ l. l.asserted) (λ l. refl) ls

pub plain_symbols : (ls : List (Level Term)) → throughout (λ l. l.symbols) (map plain_level ls) ≡ plain (throughout (λ l. l.symbols) ls)
plain_symbols [] = refl
plain_symbols (l ∷ ls) = ap (λ fs. fs ++ plain l.symbols) (plain_symbols ls) ∙ sym (filter-append is_plain (throughout (λ k. k.symbols) ls) l.symbols)

plain_more : (l : Level Term) (fs gs : List Symbol) → plain fs ≡ gs → plain_level (record { sorts = l.sorts; symbols = l.symbols ++ fs; asserted = l.asserted }) ≡ record { sorts = l.sorts; symbols = plain l.symbols ++ gs; asserted = l.asserted }
plain_more l fs gs is = ap (λ hs. record { sorts = l.sorts; symbols = hs; asserted = l.asserted }) (filter-append is_plain l.symbols fs ∙ ap (λ hs. plain l.symbols ++ hs) is)

pub plain_group : (g : Group) → All (λ n. n.0.args ≡ []) g.symbols → (ls : List (Level Term)) → on_latest (with_group g) (map plain_level ls) ≡ map plain_level (on_latest (with_group g) ls)
plain_group g constants ls = mapped_latest plain_level refl (with_group g) (with_group g) (λ l. ap (λ fs. record { sorts = l.sorts; symbols = fs; asserted = l.asserted ++ g.asserts }) (ap (λ fs. plain l.symbols ++ fs) (sym (constants_plain g.symbols constants)) ∙ sym (filter-append is_plain l.symbols (symbols_of g.symbols)))) ls

plain_emptied : (b : Bool) (ls : List (Level Term)) → levels_emptied b (map plain_level ls) ≡ map plain_level (levels_emptied b ls)
plain_emptied true ls = λ i. record { sorts = plain_sorts ls i; symbols = plain_symbols ls i; asserted = [] } ∷ []
plain_emptied false ls = refl

-- ---- states

pub symbols_of_plain : (t : State Term) → symbols_of_state (plain_state t) ≡ plain (symbols_of_state t)
symbols_of_plain t = plain_symbols t.levels

pub sorts_of_plain : (t : State Term) → sorts_of_state (plain_state t) ≡ sorts_of_state t
sorts_of_plain t = plain_sorts t.levels

abbrev pub DeclaresNoFunction : Command Term → Type 0
DeclaresNoFunction (declare f) = is_empty f.args ≡ true
DeclaresNoFunction _ = Unit {0}

changed : (t : State Term) (ks ls : List (Level Term)) → ks ≡ map plain_level ls → with_levels (plain_state t) ks ≡ plain_state (with_levels t ls)
changed t ks ls same = ap (λ js. record { levels = js; global = t.global }) same

pub plain_after : (c : Command Term) → DeclaresNoFunction c → (t : State Term) → after c (plain_state t) ≡ plain_state (after c t)
plain_after (passed text) none t = refl
plain_after (declare_sort n) none t = changed t (on_latest (with_sort n) (map plain_level t.levels)) (on_latest (with_sort n) t.levels) (mapped_latest plain_level refl (with_sort n) (with_sort n) (λ l. refl) t.levels)
plain_after (declare f) none t =
    changed t (on_latest (with_symbol f) (map plain_level t.levels)) (on_latest (with_symbol f) t.levels)
    (mapped_latest plain_level refl (with_symbol f) (with_symbol f) (λ l. sym (plain_more l (f ∷ []) (f ∷ []) (λ i. cond (none i) (f ∷ []) []))) t.levels)
plain_after (assert i u) none t = changed t (on_latest (with_assertion u) (map plain_level t.levels)) (on_latest (with_assertion u) t.levels) (mapped_latest plain_level refl (with_assertion u) (with_assertion u) (λ l. refl) t.levels)
plain_after check none t = refl
plain_after (check_assuming ls) none t = refl
plain_after (push n) none t = changed t _ _ (mapped_push plain_level refl n t.levels)
plain_after (pop n) none t = changed t (levels_popped t.global n (map plain_level t.levels)) (levels_popped t.global n t.levels) (mapped_pop plain_level plain_below t.global n t.levels)
plain_after reset none t = refl
plain_after reset_assertions none t = changed t (levels_emptied t.global (map plain_level t.levels)) (levels_emptied t.global t.levels) (plain_emptied t.global t.levels)
plain_after (globals b) none t = refl
plain_after exit none t = refl

-- where a level is open, a function with arguments is left out
pub plain_without : (f : Symbol) → is_empty f.args ≡ false → (t : State Term) → 0 < length t.levels → plain_state (after (declare f) t) ≡ plain_state t
plain_without f some t some_open = changed_back t.levels some_open
  where
    changed_back : (ls : List (Level Term)) → 0 < length ls → plain_state (with_levels t (on_latest (with_symbol f) ls)) ≡ plain_state (with_levels t ls)
    changed_back [] some_open = absurd (omega (arith, some_open))
    changed_back (l ∷ ls) some_open =
        ap (λ k. with_levels t (k ∷ map plain_level ls))
        (plain_more l (f ∷ []) [] (λ i. cond (some i) (f ∷ []) []) ∙ ap (λ fs. record { sorts = l.sorts; symbols = fs; asserted = l.asserted }) (append-nil (plain l.symbols)))

-- ---- points

pub nth_plain : (ps : List (Point Term)) (k : ℕ) → nth_point (map plain_point ps) k ≡ option_map plain_point (nth_point ps k)
nth_plain [] k = refl
nth_plain (p ∷ ps) zero = refl
nth_plain (p ∷ ps) (suc zero) = refl
nth_plain (p ∷ ps) (suc (suc k)) = nth_plain ps (suc k)

-- what there is at a point, and what there was
pub record PlainSeen (p q : Option (Point Term)) : Type 0 where
  pub sorts : at_point (λ p. sorts_of_state p.state) q ≡ at_point (λ p. sorts_of_state p.state) p
  pub symbols : at_point (λ p. symbols_of_state p.state) q ≡ plain (at_point (λ p. symbols_of_state p.state) p)
  pub live : at_point (λ p. live_in p.state) q ≡ at_point (λ p. live_in p.state) p
  pub literals : at_point (λ p. p.literals) q ≡ at_point (λ p. p.literals) p

pub plain_seen : (o : Option (Point Term)) → PlainSeen o (option_map plain_point o)
plain_seen None = record { sorts = refl; symbols = refl; live = refl; literals = refl }
plain_seen (Some p) = record { sorts = plain_sorts p.state.levels; symbols = plain_symbols p.state.levels; live = plain_asserted p.state.levels; literals = refl }
