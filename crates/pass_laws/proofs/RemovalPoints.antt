-- What is known at a point of commands with removals: the live ones are a chain, and behind them stand no functions with arguments.
use Rattle.std.proofs.Common.{◌≡◌, ◌∙◌, sym, ap, ℕ, true, false, ◌||◌, inl, inr, List, [], ◌∷◌, All}
use Rattle.std.proofs.lemmas.List.Elements.{All-head, All-tail}
use Rattle.smt_terms.specs.Free.{is_among, free}
use Rattle.smt_terms.specs.Fresh.{Supply, NeverGives}
use Rattle.smt_terms.specs.Sorts.{Name, Symbol}
use Rattle.smt_terms.specs.Term.{Term}
use Rattle.smt_terms.proofs.Substitution.{symbols-spared}
use Rattle.smt_terms.proofs.Tests.{either_true}
use Rattle.term_groups.specs.Drawing.{ConstantsAreNew}
use Rattle.term_groups.specs.Grouping.{symbols_of}
use Rattle.ackermann.specs.Laws.{RemovalsMade}
use Rattle.ackermann.specs.Removals.{Removal, AreRemovals, all_inputs, all_asserts, is_free_in}
use Rattle.script_read.specs.Commands.{Command, start, live, literals, signature}
use Rattle.smt_terms.specs.Rank.{is_empty, IsWellSorted}
use Rattle.pass_laws.specs.GroupPoints.{inputs, outputs, drawn_in, live_pairs, PointsOfGroups}
use Rattle.pass_laws.specs.Laws.{IsReady}
use Rattle.pass_laws.specs.Passed.{Replacement}
use Rattle.pass_laws.proofs.DrawnSymbols.{HasSortOf}
use Rattle.pass_laws.proofs.GroupPointsHold.{signatures_before, points_of_groups}
use Rattle.pass_laws.proofs.GroupsAtPoints.{of_each_symbol}
use Rattle.pass_laws.proofs.GroupWalks.{AreGiven}
use Rattle.pass_laws.proofs.NamedTerms.{HaveOwn}
use Rattle.pass_laws.proofs.PlainLiterals.{IsPlainFormula, plain_literals_at}
use Rattle.pass_laws.proofs.PlainPoints.{plain_outputs, PlainAt, plain_at}
use Rattle.pass_laws.proofs.PlainStates.{among_plain, plain_among}
use Rattle.pass_laws.proofs.ReadyTerms.{IsSparedSymbol, spared_at}
use Rattle.pass_laws.proofs.RemovalChains.{are_removals, uses_sorted, own_linked, sorts_linked}
use Rattle.pass_laws.proofs.RemovalDrawn.{none_drawn, drawn_constants, acked_given, live_among}
use Rattle.pass_laws.proofs.RemovalLinks.{removals, inputs_are, asserts_are, IsInput}
use Rattle.pass_laws.proofs.RemovalStates.{AreAcked, SoundAt, sound_at}

-- the live replacements, as removals
abbrev pub live_removals : List (Command Replacement) → ℕ → List Removal
live_removals rs k = removals (live rs k)

-- a symbol of what was asserted there is declared before the pass, and no new one
pub record IsKnown (rs : List (Command Replacement)) (k : ℕ) (f : Symbol) : Type 0 where
  pub declared : is_among (signature (inputs rs) k).symbols f ≡ true
  pub old : is_among (drawn_in rs) f ≡ false

pub record RemovalsAt (s : Supply) (rs : List (Command Replacement)) (k : ℕ) : Type 0 where
  pub chain : AreRemovals (all_inputs (live_removals rs k)) [] (live_removals rs k)
  pub live_before : live (inputs rs) k ≡ all_inputs (live_removals rs k)
  pub live_behind : live (plain_outputs rs) k ≡ all_asserts (live_removals rs k)
  pub known : (f : Symbol) → is_free_in (all_inputs (live_removals rs k)) f ≡ true → IsKnown rs k f
  pub literals_before : All (IsPlainFormula s) (literals (inputs rs) k)
  pub literals : literals (plain_outputs rs) k ≡ literals (inputs rs) k
  pub sorts : (signature (plain_outputs rs) k).sorts ≡ (signature (inputs rs) k).sorts
  -- what was declared without arguments is declared still, and nothing else is but new symbols, those of live assertions among them
  pub stays : (f : Symbol) → is_empty f.args ≡ true → is_among (signature (inputs rs) k).symbols f ≡ true → is_among (signature (plain_outputs rs) k).symbols f ≡ true
  pub plain : (f : Symbol) → is_among (signature (plain_outputs rs) k).symbols f ≡ true → is_empty f.args ≡ true
  pub comes : (f : Symbol) → is_among (signature (plain_outputs rs) k).symbols f ≡ true → (is_among (signature (inputs rs) k).symbols f || is_among (drawn_in rs) f) ≡ true
  pub declared : (f : Symbol) → is_among (symbols_of (live_pairs rs k)) f ≡ true → is_among (signature (plain_outputs rs) k).symbols f ≡ true
  pub drawn : (f : Symbol) → is_among (symbols_of (live_pairs rs k)) f ≡ true → is_among (drawn_in rs) f ≡ true
  pub old : (f : Symbol) → is_among (signature (inputs rs) k).symbols f ≡ true → is_among (drawn_in rs) f ≡ false
  pub spared : (f : Symbol) → NeverGives s f.name → is_among (drawn_in rs) f ≡ false
  pub constants : (f : Symbol) → is_among (drawn_in rs) f ≡ true → f.args ≡ []
  pub own : HaveOwn (live_pairs rs k) (live_pairs rs k)
  pub sorts_of_pairs : All (λ n. HasSortOf n.0 n.1) (live_pairs rs k)
  pub sorted : All (λ n. IsWellSorted n.1) (live_pairs rs k)

-- what is free in one of the inputs
free_known : (Q : Type 0) (s : Supply) (ds : List Name) (fs : List Symbol) (f : Symbol) (xs : List Replacement) → All (λ (x : Replacement). IsInput s ds fs x.term) xs
    → ((t : Term) → IsInput s ds fs t → is_among (free t) f ≡ true → Q) → is_free_in (all_inputs (removals xs)) f ≡ true → Q
free_known Q s ds fs f [] all each h = absurd cc
free_known Q s ds fs f (x ∷ xs) all each h =
    elim (either_true (is_among (free x.term) f) (is_free_in (all_inputs (removals xs)) f) h) [
      | inl here ↦ each x.term (All-head (λ (y : Replacement). IsInput s ds fs y.term) x xs all) here
      | inr there ↦ free_known Q s ds fs f xs (All-tail (λ (y : Replacement). IsInput s ds fs y.term) x xs all) each there
    ]

module _ (law : ConstantsAreNew) (made : RemovalsMade) (rs : List (Command Replacement)) (s r : Supply) (is : AreAcked s rs start s r) where
  given : AreGiven (drawn_in rs) rs
  given = acked_given law s (drawn_in rs) rs start s r is (λ f among. among)

  pub points_of_removals : PointsOfGroups rs
  points_of_removals = points_of_groups rs given

  pub removals_at : IsReady (inputs rs) s → (k : ℕ) → RemovalsAt s rs k
  removals_at ready k = record {
    chain = are_removals s (signature rs k).sorts (signature rs k).symbols (live rs k) at.links at.inputs;
    live_before = points_of_removals.live_before k ∙ sym (inputs_are (live rs k));
    live_behind = behind.live ∙ points_of_removals.live_behind k ∙ sym (asserts_are (live rs k));
    known = λ f among. free_known (IsKnown rs k f) s (signature rs k).sorts (signature rs k).symbols f (live rs k) at.inputs (λ t input there. record {
      declared = ap (λ g. is_among g.symbols f) (signatures_before rs k) ∙ input.symbols f there;
      old = none_drawn law s rs start s r is f (symbols-spared s t input.names f there);
    }) among;
    literals_before = plain_literals_at s (inputs rs) ready k;
    literals = behind.literals ∙ points_of_removals.literals k;
    sorts = behind.sorts ∙ points_of_removals.sorts k;
    stays = λ f empty among. ap (λ fs. is_among fs f) behind.symbols ∙ among_plain (signature (outputs rs) k).symbols f (points_of_removals.stays k f among) empty;
    plain = λ f among. (there f among).1;
    comes = λ f among. points_of_removals.comes k f (there f among).0;
    declared = λ f among.
        ap (λ fs. is_among fs f) behind.symbols
        ∙ among_plain (signature (outputs rs) k).symbols f (points_of_removals.declared k f among) (ap is_empty (drawn_constants law s rs start s r is f (live_among (drawn_in rs) rs given k f among)));
    drawn = live_among (drawn_in rs) rs given k;
    old = λ f among. none_drawn law s rs start s r is f (of_each_symbol (IsSparedSymbol s) (signature (inputs rs) k).symbols f (spared_at (inputs rs) s ready k).symbols among);
    spared = none_drawn law s rs start s r is;
    constants = drawn_constants law s rs start s r is;
    own = own_linked law s (live rs k) at.links;
    sorts_of_pairs = sorts_linked law s [] (live rs k) at.links;
    sorted = uses_sorted s (signature rs k).sorts (signature rs k).symbols made (live rs k) at.links at.inputs;
  }
    where
      at : SoundAt s rs k
      at = sound_at s law rs r is k

      behind : PlainAt rs k
      behind = plain_at law rs s r (drawn_in rs) is given k

      there : (f : Symbol) → is_among (signature (plain_outputs rs) k).symbols f ≡ true → (is_among (signature (outputs rs) k).symbols f ≡ true) × (is_empty f.args ≡ true)
      there f among = plain_among (signature (outputs rs) k).symbols f (ap (λ fs. is_among fs f) (sym behind.symbols) ∙ among)
