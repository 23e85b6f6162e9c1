-- What is known at a point of grouped commands: the live groups, and that no new symbol is declared there before the pass or
-- free in what is asserted or assumed there.
use Rattle.std.proofs.Common.{◌≡◌, ◌∙◌, ap, ℕ, true, false, ◌⊎◌, inl, inr, List, [], ◌∷◌, map, Some, subst, All}
use Rattle.std.specs.Prelude.{⊤}
use Rattle.std.proofs.lemmas.List.Elements.{All-nil, All-cons, All-head, All-tail, All-weaker}
use Rattle.smt_terms.specs.Equal.{symbol_eq}
use Rattle.smt_terms.specs.Free.{is_among, free}
use Rattle.smt_terms.specs.Fresh.{Supply, NeverGives}
use Rattle.smt_terms.specs.Rank.{sort_of}
use Rattle.smt_terms.specs.Sorts.{bool, Symbol}
use Rattle.smt_terms.specs.Term.{Term}
use Rattle.smt_terms.proofs.Equal.{Decides-symbol_eq}
use Rattle.smt_terms.proofs.Substitution.{symbols-spared}
use Rattle.smt_terms.proofs.Tests.{either_true}
use Rattle.term_groups.specs.Drawing.{ConstantsAreNew}
use Rattle.script_read.specs.Commands.{Command, live, literals, signature}
use Rattle.pass_laws.specs.GroupPoints.{inputs, drawn_in, PointsOfGroups, AreGrouped}
use Rattle.pass_laws.specs.Laws.{IsReady}
use Rattle.pass_laws.specs.Passed.{Replacement}
use Rattle.pass_laws.proofs.DrawnSymbols.{pairs_in, drawn_are, not_drawn, IsGroupWithin, each_is_group}
use Rattle.pass_laws.proofs.FittingPoints.{fit_at}
use Rattle.pass_laws.proofs.ReadyTerms.{IsSpared, IsSparedSymbol, SparedAt, spared_at}

-- a formula in which no new symbol is free
pub record IsApart (rs : List (Command Replacement)) (t : Term) : Type 0 where
  pub sort : sort_of t ≡ Some bool
  pub free : (f : Symbol) → is_among (free t) f ≡ true → is_among (drawn_in rs) f ≡ false

pub record IsLiveGroup (rs : List (Command Replacement)) (a : Replacement) : Type 0 where
  pub term : IsApart rs a.term
  pub group : IsGroupWithin (pairs_in rs) a

pub record GroupsAt (rs : List (Command Replacement)) (k : ℕ) : Type 0 where
  pub live : All (IsLiveGroup rs) (live rs k)
  pub literals : All (IsApart rs) (literals (inputs rs) k)
  pub declared : (f : Symbol) → is_among (signature (inputs rs) k).symbols f ≡ true → is_among (drawn_in rs) f ≡ false

pub all_unmapped : {A B : Type 0} (P : B → Type 0) (f : A → B) (xs : List A) → All P (map f xs) → All (λ x. P (f x)) xs
all_unmapped P f [] all = All-nil (λ x. P (f x))
all_unmapped P f (x ∷ xs) all = All-cons (λ y. P (f y)) x xs (All-head P (f x) (map f xs) all) (all_unmapped P f xs (All-tail P (f x) (map f xs) all))

pub of_each_symbol : (Q : Symbol → Type 0) (fs : List Symbol) (f : Symbol) → All Q fs → is_among fs f ≡ true → Q f
of_each_symbol Q [] f all among = absurd cc
of_each_symbol Q (g ∷ fs) f all among = go (either_true (symbol_eq g f) (is_among fs f) among) (of_each_symbol Q fs f (All-tail Q g fs all))
  where
    go : (symbol_eq g f ≡ true) ⊎ (is_among fs f ≡ true) → (is_among fs f ≡ true → Q f) → Q f
    go (inl here) later = subst Q ((Decides-symbol_eq g f).0 here) (All-head Q g fs all)
    go (inr there) later = later there

module _ (law : ConstantsAreNew) (rs : List (Command Replacement)) (s r : Supply) (grouped : AreGrouped rs s r) where
  undrawn : (f : Symbol) → NeverGives s f.name → is_among (drawn_in rs) f ≡ false
  undrawn f never = ap (λ fs. is_among fs f) (drawn_are rs) ∙ not_drawn law rs s r grouped f never

  spared_apart : (t : Term) → IsSpared s t → IsApart rs t
  spared_apart t h = record { sort = h.sort; free = λ f among. undrawn f (symbols-spared s t h.names f among) }

  pub groups_at : PointsOfGroups rs → IsReady (inputs rs) s → (k : ℕ) → GroupsAt rs k
  groups_at points ready k =
      let spared : SparedAt s (inputs rs) k = spared_at (inputs rs) s ready k in
      let terms : All (λ a. IsSpared s a.term) (live rs k) = all_unmapped (IsSpared s) (λ (a : Replacement). a.term) (live rs k) (subst (All (IsSpared s)) (points.live_before k) spared.live) in
      let groups : All (IsGroupWithin (pairs_in rs)) (live rs k) = (fit_at Replacement (IsGroupWithin (pairs_in rs)) (λ f. ⊤) (λ t. ⊤) rs (each_is_group law rs s r grouped) k).live in
      record {
        live = λ i d lt. record { term = spared_apart _ (terms i d lt); group = groups i d lt };
        literals = All-weaker (IsSpared s) (IsApart rs) spared_apart (literals (inputs rs) k) spared.literals;
        declared = λ f among. undrawn f (of_each_symbol (IsSparedSymbol s) (signature (inputs rs) k).symbols f spared.symbols among);
      }
