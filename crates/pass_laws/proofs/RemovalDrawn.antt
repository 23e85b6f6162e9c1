-- The constants that a removal of applications draws: they have no arguments, and names that the commands before don't have.
use Rattle.std.proofs.Common.{◌≡◌, ◌∙◌, sym, ap, refl, subst, ℕ, ◌<◌, true, false, ◌⊎◌, inl, inr, List, [], ◌∷◌, ◌++◌, length, All, arith}
use Rattle.std.specs.Prelude.{⊤}
use Rattle.std.proofs.lemmas.List.Elements.{All-head, All-tail}
use Rattle.smt_terms.specs.Equal.{symbol_eq}
use Rattle.smt_terms.specs.Free.{is_among}
use Rattle.smt_terms.specs.Fresh.{Supply, NeverGives}
use Rattle.smt_terms.specs.Groups.{Named, with_constants}
use Rattle.smt_terms.specs.Sorts.{Symbol}
use Rattle.smt_terms.specs.SubstLaws.{Later}
use Rattle.smt_terms.specs.Term.{Term}
use Rattle.smt_terms.proofs.Among.{is_among-append}
use Rattle.smt_terms.proofs.Equal.{Decides-symbol_eq}
use Rattle.smt_terms.proofs.Tests.{either_true, or_false}
use Rattle.term_groups.specs.Drawing.{ConstantsAreNew}
use Rattle.term_groups.specs.Grouping.{symbols_of}
use Rattle.ackermann.specs.Ackermann.{pairs}
use Rattle.script_read.specs.Commands.{Command, assert, check_assuming, pop, State, after, live_in, live}
use Rattle.pass_laws.specs.GroupPoints.{drawn_in}
use Rattle.pass_laws.specs.Passed.{Replacement}
use Rattle.pass_laws.proofs.DrawnSymbols.{AreDrawn}
use Rattle.pass_laws.proofs.FittingPoints.{EachFits, fit_at}
use Rattle.pass_laws.proofs.GroupLevels.{AllAmong, among_first, among_second}
use Rattle.pass_laws.proofs.GroupWalks.{AreGiven}
use Rattle.pass_laws.proofs.RemovalChains.{acked_drawn, acked_constants}
use Rattle.pass_laws.proofs.RemovalLinks.{pairs_of, IsAcked}
use Rattle.pass_laws.proofs.RemovalStates.{AreAcked, acked_later}

-- what is asserted last is something
some_asserted : (x : Replacement) (earlier : Named) (p q : Supply) → IsAcked earlier x p q → 0 < length x.group.asserts
some_asserted x earlier p q is = subst (λ ts. 0 < length ts) (sym is.asserts) (some_last (pairs (earlier ++ x.group.symbols) earlier x.group.symbols) (with_constants (earlier ++ x.group.symbols) x.term))
  where
    some_last : (ts : List Term) (t : Term) → 0 < length (ts ++ t ∷ [])
    some_last [] t = omega arith
    some_last (u ∷ ts) t = omega arith

pub constant_of_all : (ns : Named) (f : Symbol) → All (λ n. n.0.args ≡ []) ns → is_among (symbols_of ns) f ≡ true → f.args ≡ []
constant_of_all [] f all among = absurd cc
constant_of_all (n ∷ ns) f all among =
    go (either_true (symbol_eq n.0 f) (is_among (symbols_of ns) f) among) (constant_of_all ns f (All-tail (λ (p : Symbol × Term). p.0.args ≡ []) n ns all))
  where
    go : (symbol_eq n.0 f ≡ true) ⊎ (is_among (symbols_of ns) f ≡ true) → (is_among (symbols_of ns) f ≡ true → f.args ≡ []) → f.args ≡ []
    go (inl here) later = subst (λ (g : Symbol). g.args ≡ []) ((Decides-symbol_eq n.0 f).0 here) (All-head (λ (p : Symbol × Term). p.0.args ≡ []) n ns all)
    go (inr there) later = later there

module _ (law : ConstantsAreNew) (s : Supply) where
  pub all_later : (rs : List (Command Replacement)) (st : State Replacement) (p r : Supply) → AreAcked s rs st p r → Later p r
  all_later [] st p r is = subst (Later p) (sym is) (λ n never. never)
  all_later (assert i x ∷ rs) st p r is = λ n never. all_later rs (after (assert i x) st) is.1.0 r is.1.1.1 n (acked_later s law x (pairs_of (live_in st)) p is.1.0 is.1.1.0 n never)
  all_later (pop k ∷ rs) st p r is = all_later rs (after (pop k) st) p r is.1
  all_later (c ∷ rs) st p r is = all_later rs (after c st) p r is

  pub none_drawn : (rs : List (Command Replacement)) (st : State Replacement) (p r : Supply) → AreAcked s rs st p r → (f : Symbol) → NeverGives p f.name → is_among (drawn_in rs) f ≡ false
  none_drawn [] st p r is f never = refl
  none_drawn (assert i x ∷ rs) st p r is f never =
      let here : AreDrawn x.group.symbols p is.1.0 = acked_drawn law (pairs_of (live_in st)) x p is.1.0 is.1.1.0 in
      is_among-append (symbols_of x.group.symbols) (drawn_in rs) f
      ∙ or_false (is_among (symbols_of x.group.symbols) f) (is_among (drawn_in rs) f) (here.new f never) (none_drawn rs (after (assert i x) st) is.1.0 r is.1.1.1 f (here.later f.name never))
  none_drawn (pop k ∷ rs) st p r is f never = none_drawn rs (after (pop k) st) p r is.1 f never
  none_drawn (c ∷ rs) st p r is f never = none_drawn rs (after c st) p r is f never

  pub drawn_constants : (rs : List (Command Replacement)) (st : State Replacement) (p r : Supply) → AreAcked s rs st p r → (f : Symbol) → is_among (drawn_in rs) f ≡ true → f.args ≡ []
  drawn_constants [] st p r is f among = absurd cc
  drawn_constants (assert i x ∷ rs) st p r is f among =
      elim (either_true (is_among (symbols_of x.group.symbols) f) (is_among (drawn_in rs) f) (sym (is_among-append (symbols_of x.group.symbols) (drawn_in rs) f) ∙ among)) [
        | inl here ↦ constant_of_all x.group.symbols f (acked_constants law (pairs_of (live_in st)) x p is.1.0 is.1.1.0) here
        | inr there ↦ drawn_constants rs (after (assert i x) st) is.1.0 r is.1.1.1 f there
      ]
  drawn_constants (pop k ∷ rs) st p r is f among = drawn_constants rs (after (pop k) st) p r is.1 f among
  drawn_constants (c ∷ rs) st p r is f among = drawn_constants rs (after c st) p r is f among

  pub acked_given : (new : List Symbol) (rs : List (Command Replacement)) (st : State Replacement) (p r : Supply) → AreAcked s rs st p r → AllAmong (drawn_in rs) new → AreGiven new rs
  acked_given new [] st p r is among = tt
  acked_given new (assert i x ∷ rs) st p r is among = (
    (some_asserted x (pairs_of (live_in st)) p is.1.0 is.1.1.0, λ f here. among f (among_first (symbols_of x.group.symbols) (drawn_in rs) f here)),
    acked_given new rs (after (assert i x) st) is.1.0 r is.1.1.1 (λ f there. among f (among_second (symbols_of x.group.symbols) (drawn_in rs) f there)),
  )
  acked_given new (pop k ∷ rs) st p r is among = (tt, acked_given new rs (after (pop k) st) p r is.1 among)
  acked_given new (c ∷ rs) st p r is among = (tt, acked_given new rs (after c st) p r is among)

-- ---- those of live replacements

abbrev AreAmong : List Symbol → Replacement → Type 0
AreAmong new x = AllAmong (symbols_of x.group.symbols) new

each_among : (new : List Symbol) (rs : List (Command Replacement)) → AreGiven new rs → EachFits Replacement (AreAmong new) (λ f. ⊤) (λ t. ⊤) rs
each_among new [] given = tt
each_among new (assert i x ∷ rs) given = (given.0.1, each_among new rs given.1)
each_among new (check_assuming ls ∷ rs) given = (λ k d lt. tt, each_among new rs given.1)
each_among new (c ∷ rs) given = (tt, each_among new rs given.1)

pub live_among : (new : List Symbol) (rs : List (Command Replacement)) → AreGiven new rs → (k : ℕ) → AllAmong (symbols_of (pairs_of (live rs k))) new
live_among new rs given k = from_each (live rs k) (fit_at Replacement (AreAmong new) (λ f. ⊤) (λ t. ⊤) rs (each_among new rs given) k).live
  where
    both_symbols : (ns ms : Named) → symbols_of (ns ++ ms) ≡ symbols_of ns ++ symbols_of ms
    both_symbols [] ms = refl
    both_symbols (n ∷ ns) ms = ap (λ fs. n.0 ∷ fs) (both_symbols ns ms)

    from_each : (xs : List Replacement) → All (AreAmong new) xs → AllAmong (symbols_of (pairs_of xs)) new
    from_each [] all f among = absurd cc
    from_each (x ∷ xs) all f among =
        go (either_true (is_among (symbols_of x.group.symbols) f) (is_among (symbols_of (pairs_of xs)) f)
        (sym (is_among-append (symbols_of x.group.symbols) (symbols_of (pairs_of xs)) f) ∙ ap (λ fs. is_among fs f) (sym (both_symbols x.group.symbols (pairs_of xs))) ∙ among))
        (from_each xs (All-tail (AreAmong new) x xs all))
      where
        go : (is_among (symbols_of x.group.symbols) f ≡ true) ⊎ (is_among (symbols_of (pairs_of xs)) f ≡ true) → AllAmong (symbols_of (pairs_of xs)) new → is_among new f ≡ true
        go (inl here) later = (All-head (AreAmong new) x xs all) f here
        go (inr there) later = later f there
