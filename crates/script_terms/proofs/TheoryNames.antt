-- The names of the theories: those of operators, and a few others.
use Rattle.std.proofs.Common.{◌≡◌, Bool, true, false, ◌||◌, inl, inr, List, [], ◌∷◌, Option, Some, None, refl, sym, subst, ◌∙◌}
use Rattle.std.specs.Prelude.{codes, bytes_eq, is_some}
use Rattle.std.specs.List.{list_all}
use Rattle.std.proofs.lemmas.Slice.Eq.{bytes_eq-Decides}
use Rattle.smt_lex.specs.Names.{Name, is_among, is_theory_name, is_bit_vector_constant, core_names, number_names, bit_vector_names, array_names}
use Rattle.smt_terms.specs.Written.{Indexed, operator_named}
use Rattle.smt_terms.proofs.Tests.{both_true, either_true, right_true, alike_from}
use Rattle.sort_check.specs.Forms.{found}
use Rattle.sort_check.specs.declared.written.Form.{Form}
use Rattle.script_terms.specs.Heads.{real_names, takes_no_index}
use Rattle.script_terms.proofs.NameFacts.{operator_reserved}

-- names of no operator
abbrev is_other : Name → Bool
is_other n = takes_no_index n || (is_among real_names n || is_bit_vector_constant n)

abbrev is_known : Name → Bool
is_known n = is_some (operator_named n) || is_other n

pub among_passes : (test : Name → Bool) (ns : List Name) (n : Name) → list_all test ns ≡ true → is_among ns n ≡ true → test n ≡ true
among_passes test [] n all h = absurd cc
among_passes test (m ∷ ns) n all h =
    let both = both_true (test m) (list_all test ns) all in
    elim (either_true (bytes_eq n m) (is_among ns n) h) [
      | inl same ↦ subst (λ (o : Name). test o ≡ true) (sym ((bytes_eq-Decides n m).0 same)) both.0
      | inr later ↦ among_passes test ns n both.1 later
    ]

-- ---- a name of the theories is one of these

core_known : list_all is_known core_names ≡ true
unfolding operator_named
core_known = refl

number_known : list_all is_known number_names ≡ true
unfolding operator_named
number_known = refl

vector_known : list_all is_known bit_vector_names ≡ true
unfolding operator_named
vector_known = refl

array_known : list_all is_known array_names ≡ true
unfolding operator_named
array_known = refl

theory_known : (n : Name) → is_theory_name n ≡ true → is_known n ≡ true
unfolding is_theory_name
theory_known n h =
    let core = is_among core_names n in
    let number = is_among number_names n in
    let vector = is_among bit_vector_names n in
    let array = is_among array_names n in
    elim (either_true (((core || number) || vector) || array) (is_bit_vector_constant n) h) [
      | inr digits ↦ right_true (is_some (operator_named n)) (is_other n) (right_true (takes_no_index n) _ (right_true (is_among real_names n) (is_bit_vector_constant n) digits))
      | inl four ↦ elim (either_true ((core || number) || vector) array four) [
        | inr is ↦ among_passes is_known array_names n array_known is
        | inl three ↦ elim (either_true (core || number) vector three) [
          | inr is ↦ among_passes is_known bit_vector_names n vector_known is
          | inl two ↦ elim (either_true core number two) [
            | inr is ↦ among_passes is_known number_names n number_known is
            | inl is ↦ among_passes is_known core_names n core_known is
          ]
        ]
      ]
    ]

-- ---- and each of these is a name of the theories

pub operator_theory : (n : Name) → is_some (operator_named n) ≡ true → is_theory_name n ≡ true
operator_theory n h = go (operator_named n) refl h
  where
    go : (o : Option Indexed) → operator_named n ≡ o → is_some o ≡ true → is_theory_name n ≡ true
    go (Some x) is some = operator_reserved n x is
    go None is some = absurd cc

pub word_theory : (n : Name) → takes_no_index n ≡ true → is_theory_name n ≡ true
unfolding is_theory_name
word_theory n h = among_passes is_theory_name (codes "true" ∷ codes "false" ∷ codes "const" ∷ []) n refl h

pub real_theory : (n : Name) → is_among real_names n ≡ true → is_theory_name n ≡ true
unfolding is_theory_name
real_theory n h = among_passes is_theory_name real_names n refl h

digits_theory : (n : Name) → is_bit_vector_constant n ≡ true → is_theory_name n ≡ true
unfolding is_theory_name
digits_theory n h = right_true _ (is_bit_vector_constant n) h

known_theory : (n : Name) → is_known n ≡ true → is_theory_name n ≡ true
known_theory n h =
    elim (either_true (is_some (operator_named n)) (is_other n) h) [
      | inl operator ↦ operator_theory n operator
      | inr other ↦ elim (either_true (takes_no_index n) _ other) [
        | inl word ↦ word_theory n word
        | inr rest ↦ elim (either_true (is_among real_names n) (is_bit_vector_constant n) rest) [
          | inl real ↦ real_theory n real
          | inr digits ↦ digits_theory n digits
        ]
      ]
    ]

fourth_decides : (a b c d : Bool) → a ≡ false → b ≡ false → c ≡ false → d ≡ (a || (b || (c || d)))
fourth_decides a b c d no_a no_b no_c = rw no_a (rw no_b (rw no_c refl))

pub digits_decide : (n : Name) → is_some (operator_named n) ≡ false → takes_no_index n ≡ false → is_among real_names n ≡ false → is_bit_vector_constant n ≡ is_theory_name n
digits_decide n operator word real =
    fourth_decides (is_some (operator_named n)) (takes_no_index n) (is_among real_names n) (is_bit_vector_constant n) operator word real
    ∙ alike_from (is_known n) (is_theory_name n) (known_theory n) (theory_known n)

-- ---- the form that the code finds

pub found_some : (o : Option Form) → is_some (found o) ≡ is_some o
found_some (Some x) = refl
found_some None = refl
