-- Reserved words by their first bytes.
use Rattle.std.proofs.Common.{◌≡◌, ℕ, ◌<◌, arith, inl, inr, nat_eq, true, false, true≢false, List, [], ◌∷◌, ◌++◌, length, filter, get_or, refl, ap, sym, ◌∙◌, subst}
use Rattle.std.specs.Prelude.{bytes_eq, codes}
use Rattle.std.specs.List.{list_all, list_any}
use Rattle.std.proofs.lemmas.List.Folds.{list_any-append}
use Rattle.std.proofs.lemmas.Bool.Decides.{Decides-eqb}
use Rattle.std.proofs.lemmas.Slice.Eq.{bytes_eq-Decides}
use Rattle.smt_lex.specs.Names.{Name, is_among, is_syntax_word, is_command_word, is_reserved, syntax_words, command_words}
use Rattle.smt_lex.proofs.Choices.{tell, and_left, and_right}

abbrev pub first_byte : Name → ℕ
first_byte w = get_or w 0 0

-- the words that begin with a byte
abbrev pub beginning : ℕ → List Name → List Name
beginning k words = filter (λ other. nat_eq (first_byte other) k) words

same_first : (w other : Name) → bytes_eq w other ≡ true → nat_eq (first_byte other) (first_byte w) ≡ true
same_first w other same = subst (λ (o : Name). nat_eq (first_byte o) (first_byte w) ≡ true) ((bytes_eq-Decides w other).0 same) ((Decides-eqb (first_byte w) (first_byte w)).1 refl)

among_beginning : (words : List Name) (w : Name) → is_among (beginning (first_byte w) words) w ≡ is_among words w
among_beginning [] w = refl
among_beginning (other ∷ words) w = elim (tell (bytes_eq w other)) [
  | inl same ↦ rw (same_first w other same, same) refl
  | inr apart ↦ elim (tell (nat_eq (first_byte other) (first_byte w))) [
    | inl is ↦ rw (is, apart) (among_beginning words w)
    | inr differs ↦ rw (differs, apart) (among_beginning words w)
  ]
]

none_among : (firsts : List ℕ) (words : List Name) (w : Name) → list_all (λ other. list_any (nat_eq (first_byte other)) firsts) words ≡ true → list_any (nat_eq (first_byte w)) firsts ≡ false → is_among words w ≡ false
none_among firsts [] w all lacks = refl
none_among firsts (other ∷ words) w all lacks = elim (tell (bytes_eq w other)) [
  | inl same ↦
      let first : list_any (nat_eq (first_byte other)) firsts ≡ true = and_left _ (list_all (λ o. list_any (nat_eq (first_byte o)) firsts) words) all in
      let is : list_any (nat_eq (first_byte w)) firsts ≡ true = subst (λ (o : Name). list_any (nat_eq (first_byte o)) firsts ≡ true) (sym ((bytes_eq-Decides w other).0 same)) first in
      absurd (true≢false (sym is ∙ lacks))
  | inr apart ↦ rw apart (none_among firsts words w (and_right (list_any (nat_eq (first_byte other)) firsts) _ all) lacks)
]

abbrev pub reserved_words : List Name
reserved_words = syntax_words ++ command_words

reserved_among : (w : Name) → is_among reserved_words w ≡ is_reserved w
unfolding is_syntax_word is_command_word
reserved_among w = list_any-append (λ other. bytes_eq w other) syntax_words command_words

pub reserved_beginning : (w : Name) (k : ℕ) → first_byte w ≡ k → is_among (beginning k reserved_words) w ≡ is_reserved w
reserved_beginning w k is = ap (λ j. is_among (beginning j reserved_words) w) (sym is) ∙ among_beginning reserved_words w ∙ reserved_among w

pub command_beginning : (w : Name) (k : ℕ) → first_byte w ≡ k → is_among (beginning k command_words) w ≡ is_command_word w
unfolding is_command_word
command_beginning w k is = ap (λ j. is_among (beginning j command_words) w) (sym is) ∙ among_beginning command_words w

-- a word that alone begins so
pub alone : (w : Name) {text other : Name} → text ≡ other → bytes_eq w text ≡ is_among (other ∷ []) w
alone w {text} {other} same = ap (bytes_eq w) same ∙ elim (tell (bytes_eq w other)) [
  | inl is ↦ rw is refl
  | inr apart ↦ rw apart refl
]

-- ---- words that begin like none

abbrev pub marks_and_capitals : List ℕ
marks_and_capitals = codes "!BDHNS_"

abbrev pub early_letters : List ℕ
early_letters = codes "acdef"

abbrev pub late_letters : List ℕ
late_letters = codes "glmprs"

abbrev pub command_letters : List ℕ
command_letters = codes "acdegprs"

neither : (b : ℕ) (firsts others : List ℕ) → list_any (nat_eq b) firsts ≡ false → list_any (nat_eq b) others ≡ false → list_any (nat_eq b) (firsts ++ others) ≡ false
neither b firsts others here there = list_any-append (nat_eq b) firsts others ∙ rw (here, there) refl

pub no_reserved_word : (w : Name) → list_any (nat_eq (first_byte w)) marks_and_capitals ≡ false → list_any (nat_eq (first_byte w)) early_letters ≡ false → list_any (nat_eq (first_byte w)) late_letters ≡ false
    → false ≡ is_reserved w
no_reserved_word w mark early late =
    let letter = neither (first_byte w) early_letters late_letters early late in
    let lacks = neither (first_byte w) marks_and_capitals (early_letters ++ late_letters) mark letter in
    sym (sym (reserved_among w) ∙ none_among (marks_and_capitals ++ (early_letters ++ late_letters)) reserved_words w refl lacks)

pub no_command_word : (w : Name) → list_any (nat_eq (first_byte w)) command_letters ≡ false → false ≡ is_command_word w
unfolding is_command_word
no_command_word w lacks = sym (none_among command_letters command_words w refl lacks)

pub empty_reserved : (w : Name) → length w < 1 → false ≡ is_reserved w
empty_reserved [] below = no_reserved_word [] refl refl refl
empty_reserved (b ∷ w) below = absurd (omega (arith, below))

pub empty_command : (w : Name) → length w < 1 → false ≡ is_command_word w
empty_command [] below = no_command_word [] refl
empty_command (b ∷ w) below = absurd (omega (arith, below))
