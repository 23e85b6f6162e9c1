-- What is known of a byte by its class.
use Rattle.std.proofs.Common.{◌≡◌, ℕ, ◌⊎◌, inl, inr, Bool, true, false, List, ◌∷◌, drop, not, suc, refl, ap, sym, subst}
use Rattle.std.specs.Char.{is_ascii_digit}
use Rattle.std.proofs.lemmas.Bool.Decides.{eqb_tells}
use Rattle.smt_lex.proofs.Choices.{tell}
use Rattle.smt_lex.specs.declared.classes.Class.{Class}
use Rattle.smt_lex.specs.declared.classes.Class.TheVariants.{Left, Right, Blank, Letter, Digit, Colon, Hash, Quote, Bar, Semicolon, Other}
use Rattle.smt_lex.specs.declared.items.Item.TheVariants.{Left as LeftItem, Right as RightItem}
use Rattle.smt_lex.specs.declared.fronts.Front.{Front}
use Rattle.smt_lex.specs.declared.fronts.Front.TheVariants.{Gap, Lexeme, BadByte}
use Rattle.smt_lex.specs.Lexicon.{quote, hash, left_parenthesis, right_parenthesis, colon, semicolon, bar, is_blank, is_symbol_byte, is_run_byte, is_line_end, length_while}
use Rattle.smt_lex.specs.Lex.{front, run_front, literal_front, quoted_front}
use Rattle.smt_lex.specs.ByteClasses.{class_of}
use Rattle.smt_lex.proofs.Printing.{front_run, run_byte, not_blank}

-- the bytes of this class are symbol bytes, or bytes of runs
abbrev pub is_symbol_class : Class → Bool
is_symbol_class Letter = true
is_symbol_class Digit = true
is_symbol_class _ = false

abbrev pub is_run_class : Class → Bool
is_run_class Letter = true
is_run_class Digit = true
is_run_class Colon = true
is_run_class Hash = true
is_run_class _ = false

-- what a text begins with whose first byte has this class
abbrev pub class_front : Class → List ℕ → Front
class_front Left bs = Lexeme LeftItem 1
class_front Right bs = Lexeme RightItem 1
class_front Blank bs = Gap 1
class_front Semicolon bs = Gap (suc (length_while (λ c. not (is_line_end c)) (drop 1 bs)))
class_front Quote bs = literal_front (drop 1 bs)
class_front Bar bs = quoted_front (drop 1 bs)
class_front Other bs = BadByte 0
class_front _ bs = run_front bs

pub record Told (c : Class) (b : ℕ) : Type 0 where
  pub symbol : is_symbol_byte b ≡ is_symbol_class c
  pub run : is_run_byte b ≡ is_run_class c
  pub letter : c ≡ Letter → is_ascii_digit b ≡ false
  pub digit : c ≡ Digit → is_ascii_digit b ≡ true
  pub front : (bs : List ℕ) → front (b ∷ bs) ≡ class_front c (b ∷ bs)

blank_symbol : (b : ℕ) → is_blank b ≡ true → is_symbol_byte b ≡ false
blank_symbol b blank = elim (tell (is_symbol_byte b)) [ inl symbol ↦ absurd (cc (blank, not_blank b (run_byte b symbol))) | inr other ↦ other ]

blank_run : (b : ℕ) → is_blank b ≡ true → is_run_byte b ≡ false
blank_run b blank = elim (tell (is_run_byte b)) [ inl runs ↦ absurd (cc (blank, not_blank b runs)) | inr other ↦ other ]

-- each test of the definition in turn
pub told : (b : ℕ) → Told (class_of b) b
unfolding class_of
told b = elim (eqb_tells b left_parenthesis) [
  | inl here ↦
      let is : class_of b ≡ Left = rw (here.0) refl in
      subst (λ c. Told c b) (sym is) (record { symbol = ap is_symbol_byte here.1; run = ap is_run_byte here.1; letter = λ h. absurd (cc); digit = λ h. absurd (cc); front = λ bs. rw (here.0) refl })
  | inr no_left_parenthesis ↦ elim (eqb_tells b right_parenthesis) [
    | inl here ↦
        let is : class_of b ≡ Right = rw (no_left_parenthesis.0, here.0) refl in
        subst (λ c. Told c b) (sym is) (record { symbol = ap is_symbol_byte here.1; run = ap is_run_byte here.1; letter = λ h. absurd (cc); digit = λ h. absurd (cc); front = λ bs. rw (no_left_parenthesis.0, here.0) refl })
    | inr no_right_parenthesis ↦ elim (eqb_tells b semicolon) [
      | inl here ↦
          let is : class_of b ≡ Semicolon = rw (no_left_parenthesis.0, no_right_parenthesis.0, here.0) refl in
          subst (λ c. Told c b) (sym is) (record { symbol = ap is_symbol_byte here.1; run = ap is_run_byte here.1; letter = λ h. absurd (cc); digit = λ h. absurd (cc); front = λ bs. rw (no_left_parenthesis.0, no_right_parenthesis.0, here.0) refl })
      | inr no_semicolon ↦ elim (eqb_tells b quote) [
        | inl here ↦
            let is : class_of b ≡ Quote = rw (no_left_parenthesis.0, no_right_parenthesis.0, no_semicolon.0, here.0) refl in
            subst (λ c. Told c b) (sym is) (record { symbol = ap is_symbol_byte here.1; run = ap is_run_byte here.1; letter = λ h. absurd (cc); digit = λ h. absurd (cc); front = λ bs. rw (no_left_parenthesis.0, no_right_parenthesis.0, no_semicolon.0, here.0) refl })
        | inr no_quote ↦ elim (eqb_tells b bar) [
          | inl here ↦
              let is : class_of b ≡ Bar = rw (no_left_parenthesis.0, no_right_parenthesis.0, no_semicolon.0, no_quote.0, here.0) refl in
              subst (λ c. Told c b) (sym is) (record { symbol = ap is_symbol_byte here.1; run = ap is_run_byte here.1; letter = λ h. absurd (cc); digit = λ h. absurd (cc); front = λ bs. rw (no_left_parenthesis.0, no_right_parenthesis.0, no_semicolon.0, no_quote.0, here.0) refl })
          | inr no_bar ↦ elim (tell (is_blank b)) [
            | inl blank ↦
                let is : class_of b ≡ Blank = rw (no_left_parenthesis.0, no_right_parenthesis.0, no_semicolon.0, no_quote.0, no_bar.0, blank) refl in
                subst (λ c. Told c b) (sym is) (record { symbol = blank_symbol b blank; run = blank_run b blank; letter = λ h. absurd (cc); digit = λ h. absurd (cc); front = λ bs. rw (no_left_parenthesis.0, no_right_parenthesis.0, no_semicolon.0, no_quote.0, no_bar.0, blank) refl })
            | inr no_blank ↦ elim (tell (is_symbol_byte b)) [
              | inl symbol ↦ elim (tell (is_ascii_digit b)) [
                | inl digit ↦
                    let is : class_of b ≡ Digit = rw (no_left_parenthesis.0, no_right_parenthesis.0, no_semicolon.0, no_quote.0, no_bar.0, no_blank, symbol, digit) refl in
                    subst (λ c. Told c b) (sym is) (record { symbol = symbol; run = run_byte b symbol; letter = λ h. absurd (cc); digit = λ h. digit; front = λ bs. front_run b bs (run_byte b symbol) })
                | inr no_digit ↦
                    let is : class_of b ≡ Letter = rw (no_left_parenthesis.0, no_right_parenthesis.0, no_semicolon.0, no_quote.0, no_bar.0, no_blank, symbol, no_digit) refl in
                    subst (λ c. Told c b) (sym is) (record { symbol = symbol; run = run_byte b symbol; letter = λ h. no_digit; digit = λ h. absurd (cc); front = λ bs. front_run b bs (run_byte b symbol) })
              ]
              | inr no_symbol ↦ elim (eqb_tells b colon) [
                | inl here ↦
                    let is : class_of b ≡ Colon = rw (no_left_parenthesis.0, no_right_parenthesis.0, no_semicolon.0, no_quote.0, no_bar.0, no_blank, no_symbol, here.0) refl in
                    let runs : is_run_byte b ≡ true = ap is_run_byte here.1 in
                    subst (λ c. Told c b) (sym is) (record { symbol = no_symbol; run = runs; letter = λ h. absurd (cc); digit = λ h. absurd (cc); front = λ bs. front_run b bs runs })
                | inr no_colon ↦ elim (eqb_tells b hash) [
                  | inl here ↦
                      let is : class_of b ≡ Hash = rw (no_left_parenthesis.0, no_right_parenthesis.0, no_semicolon.0, no_quote.0, no_bar.0, no_blank, no_symbol, no_colon.0, here.0) refl in
                      let runs : is_run_byte b ≡ true = ap is_run_byte here.1 in
                      subst (λ c. Told c b) (sym is) (record { symbol = no_symbol; run = runs; letter = λ h. absurd (cc); digit = λ h. absurd (cc); front = λ bs. front_run b bs runs })
                  | inr no_hash ↦
                      let is : class_of b ≡ Other = rw (no_left_parenthesis.0, no_right_parenthesis.0, no_semicolon.0, no_quote.0, no_bar.0, no_blank, no_symbol, no_colon.0, no_hash.0) refl in
                      let none : is_run_byte b ≡ false = rw (no_symbol, no_colon.0, no_hash.0) refl in
                      subst (λ c. Told c b) (sym is) (record { symbol = no_symbol; run = none; letter = λ h. absurd (cc); digit = λ h. absurd (cc); front = λ bs. rw (no_left_parenthesis.0, no_right_parenthesis.0, no_semicolon.0, no_quote.0, no_bar.0, no_blank, none) refl })
                ]
              ]
            ]
          ]
        ]
      ]
    ]
  ]
]

-- whether a byte is one of symbols or runs, by cases on its class
pub symbol_by : (c : Class) → (c ≡ Letter) ⊎ (c ≡ Digit) → is_symbol_class c ≡ true
symbol_by c is = elim is [ inl letter ↦ ap is_symbol_class letter | inr digit ↦ ap is_symbol_class digit ]

pub no_symbol_by : (c : Class) → (c ≡ Letter → ⊥) → (c ≡ Digit → ⊥) → is_symbol_class c ≡ false
no_symbol_by Letter letter digit = absurd (letter refl)
no_symbol_by Digit letter digit = absurd (digit refl)
no_symbol_by Left letter digit = refl
no_symbol_by Right letter digit = refl
no_symbol_by Blank letter digit = refl
no_symbol_by Colon letter digit = refl
no_symbol_by Hash letter digit = refl
no_symbol_by Quote letter digit = refl
no_symbol_by Bar letter digit = refl
no_symbol_by Semicolon letter digit = refl
no_symbol_by Other letter digit = refl

pub run_by : (c : Class) → (c ≡ Letter) ⊎ ((c ≡ Digit) ⊎ ((c ≡ Colon) ⊎ (c ≡ Hash))) → is_run_class c ≡ true
run_by c is = elim is [
  | inl letter ↦ ap is_run_class letter
  | inr more ↦ elim more [
    | inl digit ↦ ap is_run_class digit
    | inr mark ↦ elim mark [ inl colon_is ↦ ap is_run_class colon_is | inr hash_is ↦ ap is_run_class hash_is ]
  ]
]

pub no_run_by : (c : Class) → (c ≡ Letter → ⊥) → (c ≡ Digit → ⊥) → (c ≡ Colon → ⊥) → (c ≡ Hash → ⊥) → is_run_class c ≡ false
no_run_by Letter letter digit colon_not hash_not = absurd (letter refl)
no_run_by Digit letter digit colon_not hash_not = absurd (digit refl)
no_run_by Colon letter digit colon_not hash_not = absurd (colon_not refl)
no_run_by Hash letter digit colon_not hash_not = absurd (hash_not refl)
no_run_by Left letter digit colon_not hash_not = refl
no_run_by Right letter digit colon_not hash_not = refl
no_run_by Blank letter digit colon_not hash_not = refl
no_run_by Quote letter digit colon_not hash_not = refl
no_run_by Bar letter digit colon_not hash_not = refl
no_run_by Semicolon letter digit colon_not hash_not = refl
no_run_by Other letter digit colon_not hash_not = refl

pub other_by : (c : Class) → (c ≡ Left → ⊥) → (c ≡ Right → ⊥) → (c ≡ Blank → ⊥) → (c ≡ Letter → ⊥) → (c ≡ Digit → ⊥) → (c ≡ Colon → ⊥) → (c ≡ Hash → ⊥) → (c ≡ Quote → ⊥) → (c ≡ Bar → ⊥) → (c ≡ Semicolon → ⊥) → c ≡ Other
other_by Left a b d e f g h i j k = absurd (a refl)
other_by Right a b d e f g h i j k = absurd (b refl)
other_by Blank a b d e f g h i j k = absurd (d refl)
other_by Letter a b d e f g h i j k = absurd (e refl)
other_by Digit a b d e f g h i j k = absurd (f refl)
other_by Colon a b d e f g h i j k = absurd (g refl)
other_by Hash a b d e f g h i j k = absurd (h refl)
other_by Quote a b d e f g h i j k = absurd (i refl)
other_by Bar a b d e f g h i j k = absurd (j refl)
other_by Semicolon a b d e f g h i j k = absurd (k refl)
other_by Other a b d e f g h i j k = refl
