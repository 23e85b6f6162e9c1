-- The least number of a refused assertion, going from a command on.
use Rattle.std.proofs.Common.{◌≡◌, ◌∙◌, ap, sym, subst, ℕ, ◌+◌, ◌≤◌, List, [], ◌∷◌, ◌++◌, drop, length, slice_get, Some, add-one}
use Rattle.std.specs.Prelude.{min, flat_map}
use Rattle.std.proofs.Math.Seq.{drop-cons}
use Rattle.std.proofs.lemmas.List.{drop_all}
use Rattle.std.proofs.lemmas.List.Elements.{All-head, All-tail}
use Rattle.std.proofs.lemmas.Option.{slice_get_within, get_or_from_slice_get}
use Rattle.term_table.specs.Formulas.{Formulas}
use Rattle.script_read.specs.declared.scripts.Command.{Command}
use Rattle.script_read.specs.CommandLists.{command_of, commands_of, IsCommandOf, AreCommandsOf}
use Rattle.pass_laws.specs.Passed.{least, quantified_use}

-- what is left from a place on begins with what stands there
pub first_left : {A : Type 0} (xs : List A) (i : ℕ) (x : A) → slice_get xs i ≡ Some x → drop i xs ≡ x ∷ drop (i + 1) xs
first_left xs i x at =
    drop-cons xs i x (slice_get_within xs i x at)
    ∙ (λ j. get_or_from_slice_get xs i x x at j ∷ drop (sym (add-one i) j) xs)

-- the numbers of the refused assertions from a place on
abbrev pub refused_from : Formulas → List Command → ℕ → List ℕ
refused_from t ks i = flat_map quantified_use (commands_of t (drop i ks))

module _ (t : Formulas) (ks : List Command) (i : ℕ) (c : Command) (at : slice_get ks i ≡ Some c) where
  pub command_left : AreCommandsOf t (drop i ks) → IsCommandOf t c
  command_left are = All-head (IsCommandOf t) c (drop (i + 1) ks) (subst (AreCommandsOf t) (first_left ks i c at) are)

  pub commands_left : AreCommandsOf t (drop i ks) → AreCommandsOf t (drop (i + 1) ks)
  commands_left are = All-tail (IsCommandOf t) c (drop (i + 1) ks) (subst (AreCommandsOf t) (first_left ks i c at) are)

  refused_here : (ns : List ℕ) → quantified_use (command_of t c) ≡ ns → refused_from t ks i ≡ ns ++ refused_from t ks (i + 1)
  refused_here ns is =
      ap (λ js. flat_map quantified_use (commands_of t js)) (first_left ks i c at)
      ∙ ap (λ ms. ms ++ refused_from t ks (i + 1)) is

  -- with a number that was the least so far
  pub least_same : (n : ℕ) → quantified_use (command_of t c) ≡ [] → least (n ∷ refused_from t ks (i + 1)) ≡ least (n ∷ refused_from t ks i)
  least_same n is = ap (λ ms. least (n ∷ ms)) (sym (refused_here [] is))

  pub least_then : (n m : ℕ) → quantified_use (command_of t c) ≡ m ∷ [] → least (min n m ∷ refused_from t ks (i + 1)) ≡ least (n ∷ refused_from t ks i)
  least_then n m is = ap (λ ms. least (n ∷ ms)) (sym (refused_here (m ∷ []) is))

pub least_last : (t : Formulas) (ks : List Command) (i : ℕ) (n : ℕ) → length ks ≤ i → least (n ∷ refused_from t ks i) ≡ Some n
least_last t ks i n past = ap (λ js. least (n ∷ flat_map quantified_use (commands_of t js))) (drop_all i ks past)
