-- The text of a form whose tokens are tokens is read as this form, with the places that it has in the text.
use Rattle.std.proofs.Common.{◌≡◌, ℕ, zero, suc, ◌+◌, List, [], ◌∷◌, ◌++◌, length, Ok, refl, ap, sym, ◌∙◌, arith, append_assoc, append-nil}
use Rattle.std.specs.Prelude.{Result}
use Rattle.std.proofs.lemmas.Bool.{ne_eqb}
use Rattle.smt_lex.specs.declared.items.Item.{Item}
use Rattle.smt_lex.specs.declared.items.Item.TheVariants.{Left, Right}
use Rattle.smt_lex.specs.Lexicon.{left_parenthesis, right_parenthesis}
use Rattle.smt_lex.specs.Lex.{Token, Fault, Lexed, ended, next, lex_from, lex}
use Rattle.smt_lex.specs.Forms.{Form, atom, node, Forms, none, ◌⨾◌, with_token, balanced, before, rest, as_forms, forms}
use Rattle.smt_lex.proofs.Joining.{Stops, IsLexeme, lex_lexeme_before}
use Rattle.smt_lex.specs.FormText.{form_text, forms_text, further_text}

-- ---- forms that can be written

-- no parenthesis
abbrev pub IsInner : Item → Type 0
IsInner Left = ⊥
IsInner Right = ⊥
IsInner _ = Unit {0}

abbrev mutual
  pub IsWritten : Form → Type 0
  IsWritten (atom t) = IsInner t.item × IsLexeme t.item t.text
  IsWritten (node place fs) = AreWritten fs

  pub AreWritten : Forms → Type 0
  AreWritten none = Unit {0}
  AreWritten (f ⨾ fs) = IsWritten f × AreWritten fs

-- ---- places: where a text that begins at a place ends, and the form with its places there

abbrev mutual
  pub end_of : ℕ → Form → ℕ
  end_of p (atom t) = p + length t.text
  end_of p (node place fs) = suc (end_in (suc p) fs)

  pub end_in : ℕ → Forms → ℕ
  end_in p none = p
  end_in p (f ⨾ fs) = end_behind (end_of p f) fs

  pub end_behind : ℕ → Forms → ℕ
  end_behind p none = p
  end_behind p (f ⨾ fs) = end_behind (end_of (suc p) f) fs

abbrev pub token_at : ℕ → Item → List ℕ → Token
token_at p item text = record { item = item; start = p; text = text }

abbrev mutual
  pub placed : ℕ → Form → Form
  placed p (atom t) = atom (token_at p t.item t.text)
  placed p (node place fs) = node p (placed_in (suc p) fs none)

  -- in front of others
  pub placed_in : ℕ → Forms → Forms → Forms
  placed_in p none gs = gs
  placed_in p (f ⨾ fs) gs = placed p f ⨾ placed_behind (end_of p f) fs gs

  pub placed_behind : ℕ → Forms → Forms → Forms
  placed_behind p none gs = gs
  placed_behind p (f ⨾ fs) gs = placed (suc p) f ⨾ placed_behind (end_of (suc p) f) fs gs

-- ---- tokens, in front of others

abbrev pub left_at : ℕ → Token
left_at p = token_at p Left (left_parenthesis ∷ [])

abbrev pub right_at : ℕ → Token
right_at p = token_at p Right (right_parenthesis ∷ [])

abbrev mutual
  pub lexed_form : ℕ → Form → Lexed → Lexed
  lexed_form p (atom t) ts = next (token_at p t.item t.text) ts
  lexed_form p (node place fs) ts = next (left_at p) (lexed_in (suc p) fs (next (right_at (end_in (suc p) fs)) ts))

  pub lexed_in : ℕ → Forms → Lexed → Lexed
  lexed_in p none ts = ts
  lexed_in p (f ⨾ fs) ts = lexed_form p f (lexed_behind (end_of p f) fs ts)

  pub lexed_behind : ℕ → Forms → Lexed → Lexed
  lexed_behind p none ts = ts
  lexed_behind p (f ⨾ fs) ts = lexed_form (suc p) f (lexed_behind (end_of (suc p) f) fs ts)

abbrev mutual
  pub listed : ℕ → Form → List Token → List Token
  listed p (atom t) ts = token_at p t.item t.text ∷ ts
  listed p (node place fs) ts = left_at p ∷ listed_in (suc p) fs (right_at (end_in (suc p) fs) ∷ ts)

  pub listed_in : ℕ → Forms → List Token → List Token
  listed_in p none ts = ts
  listed_in p (f ⨾ fs) ts = listed p f (listed_behind (end_of p f) fs ts)

  pub listed_behind : ℕ → Forms → List Token → List Token
  listed_behind p none ts = ts
  listed_behind p (f ⨾ fs) ts = listed (suc p) f (listed_behind (end_of (suc p) f) fs ts)

-- ---- from bytes to tokens

stops_behind : (fs : Forms) (bytes : List ℕ) → Stops bytes → Stops (further_text fs ++ bytes)
stops_behind none bytes stops = stops
stops_behind (f ⨾ fs) bytes stops = refl

mutual
  pub lex_form : (f : Form) (p : ℕ) (bytes : List ℕ) → IsWritten f → Stops bytes
      → lex_from p 0 (form_text f ++ bytes) ≡ lexed_form p f (lex_from (end_of p f) 0 bytes)
  lex_form (atom t) p bytes is stops = lex_lexeme_before t.item t.text bytes p is.1 stops
  lex_form (node place fs) p bytes are stops =
      ap (λ xs. next (left_at p) (lex_from (suc p) 0 xs)) (append_assoc (forms_text fs) (right_parenthesis ∷ []) bytes)
      ∙ ap (next (left_at p)) (lex_in fs (suc p) (right_parenthesis ∷ bytes) are refl)

  lex_in : (fs : Forms) (p : ℕ) (bytes : List ℕ) → AreWritten fs → Stops bytes
      → lex_from p 0 (forms_text fs ++ bytes) ≡ lexed_in p fs (lex_from (end_in p fs) 0 bytes)
  lex_in none p bytes are stops = refl
  lex_in (f ⨾ fs) p bytes are stops =
      ap (lex_from p 0) (append_assoc (form_text f) (further_text fs) bytes)
      ∙ lex_form f p (further_text fs ++ bytes) are.0 (stops_behind fs bytes stops)
      ∙ ap (lexed_form p f) (lex_behind fs (end_of p f) bytes are.1 stops)

  lex_behind : (fs : Forms) (p : ℕ) (bytes : List ℕ) → AreWritten fs → Stops bytes
      → lex_from p 0 (further_text fs ++ bytes) ≡ lexed_behind p fs (lex_from (end_behind p fs) 0 bytes)
  lex_behind none p bytes are stops = refl
  lex_behind (f ⨾ fs) p bytes are stops =
      ap (lex_from (suc p) 0) (append_assoc (form_text f) (further_text fs) bytes)
      ∙ lex_form f (suc p) (further_text fs ++ bytes) are.0 (stops_behind fs bytes stops)
      ∙ ap (lexed_form (suc p) f) (lex_behind fs (end_of (suc p) f) bytes are.1 stops)

-- ---- from tokens to balanced ones

inner_balanced : (item : Item) (p depth : ℕ) (text : List ℕ) (ts : Lexed) → IsInner item
    → balanced depth (next (token_at p item text) ts) ≡ with_token (token_at p item text) (balanced depth ts)
inner_balanced Left p depth text ts inner = absurd inner
inner_balanced Right p depth text ts inner = absurd inner
inner_balanced item p zero text ts inner = refl
inner_balanced item p (suc depth) text ts inner = refl

left_balanced : (p depth : ℕ) (ts : Lexed) → balanced depth (next (left_at p) ts) ≡ with_token (left_at p) (balanced (suc depth) ts)
left_balanced p zero ts = refl
left_balanced p (suc depth) ts = refl

right_balanced : (p depth : ℕ) (ts : Lexed) → balanced (suc depth) (next (right_at p) ts) ≡ with_token (right_at p) (balanced depth ts)
right_balanced p depth ts = rw (ne_eqb (suc depth) 0 (λ same. omega (arith, same))) (ap (λ d. with_token (right_at p) (balanced d ts)) (omega arith))

with_ok : (t : Token) (r : Result (List Token) Fault) (us : List Token) → r ≡ Ok us → with_token t r ≡ Ok (t ∷ us)
with_ok t r us is = ap (with_token t) is

mutual
  pub form_balanced : (f : Form) (p depth : ℕ) (ts : Lexed) (us : List Token) → IsWritten f → balanced depth ts ≡ Ok us
      → balanced depth (lexed_form p f ts) ≡ Ok (listed p f us)
  form_balanced (atom t) p depth ts us is behind = inner_balanced t.item p depth t.text ts is.0 ∙ with_ok (token_at p t.item t.text) (balanced depth ts) us behind
  form_balanced (node place fs) p depth ts us are behind =
      let right = right_at (end_in (suc p) fs) in
      let closed : balanced (suc depth) (next right ts) ≡ Ok (right ∷ us) = right_balanced (end_in (suc p) fs) depth ts ∙ with_ok right (balanced depth ts) us behind in
      left_balanced p depth (lexed_in (suc p) fs (next right ts))
      ∙ with_ok (left_at p) (balanced (suc depth) (lexed_in (suc p) fs (next right ts))) (listed_in (suc p) fs (right ∷ us))
      (forms_balanced fs (suc p) (suc depth) (next right ts) (right ∷ us) are closed)

  forms_balanced : (fs : Forms) (p depth : ℕ) (ts : Lexed) (us : List Token) → AreWritten fs → balanced depth ts ≡ Ok us
      → balanced depth (lexed_in p fs ts) ≡ Ok (listed_in p fs us)
  forms_balanced none p depth ts us are behind = behind
  forms_balanced (f ⨾ fs) p depth ts us are behind =
      form_balanced f p depth (lexed_behind (end_of p f) fs ts) (listed_behind (end_of p f) fs us) are.0 (behind_balanced fs (end_of p f) depth ts us are.1 behind)

  behind_balanced : (fs : Forms) (p depth : ℕ) (ts : Lexed) (us : List Token) → AreWritten fs → balanced depth ts ≡ Ok us
      → balanced depth (lexed_behind p fs ts) ≡ Ok (listed_behind p fs us)
  behind_balanced none p depth ts us are behind = behind
  behind_balanced (f ⨾ fs) p depth ts us are behind =
      form_balanced f (suc p) depth (lexed_behind (end_of (suc p) f) fs ts) (listed_behind (end_of (suc p) f) fs us) are.0
      (behind_balanced fs (end_of (suc p) f) depth ts us are.1 behind)

-- ---- from tokens to forms

-- a form in front of what is left to read
abbrev pub with_form : Form → Forms × List Forms → Forms × List Forms
with_form f r = (f ⨾ r.0, r.1)

inner_before : (item : Item) (p : ℕ) (text : List ℕ) (r : Forms × List Forms) → IsInner item
    → before item (token_at p item text) r ≡ with_form (atom (token_at p item text)) r
inner_before Left p text r inner = absurd inner
inner_before Right p text r inner = absurd inner
inner_before item p text (fs, around) inner = refl

mutual
  pub form_rest : (f : Form) (p : ℕ) (ts : List Token) → IsWritten f → rest (listed p f ts) ≡ with_form (placed p f) (rest ts)
  form_rest (atom t) p ts is = inner_before t.item p t.text (rest ts) is.0
  form_rest (node place fs) p ts are =
      ap (before Left (left_at p)) (forms_rest fs (suc p) (right_at (end_in (suc p) fs) ∷ ts) are)

  forms_rest : (fs : Forms) (p : ℕ) (ts : List Token) → AreWritten fs → rest (listed_in p fs ts) ≡ (placed_in p fs (rest ts).0, (rest ts).1)
  forms_rest none p ts are = refl
  forms_rest (f ⨾ fs) p ts are =
      form_rest f p (listed_behind (end_of p f) fs ts) are.0 ∙ ap (with_form (placed p f)) (behind_rest fs (end_of p f) ts are.1)

  behind_rest : (fs : Forms) (p : ℕ) (ts : List Token) → AreWritten fs → rest (listed_behind p fs ts) ≡ (placed_behind p fs (rest ts).0, (rest ts).1)
  behind_rest none p ts are = refl
  behind_rest (f ⨾ fs) p ts are =
      form_rest f (suc p) (listed_behind (end_of (suc p) f) fs ts) are.0 ∙ ap (with_form (placed (suc p) f)) (behind_rest fs (end_of (suc p) f) ts are.1)

-- ---- from bytes to forms

pub forms_of_text : (f : Form) → IsWritten f → forms (form_text f) ≡ Ok (placed 0 f ⨾ none)
forms_of_text f is =
    let tokens : lex (form_text f) ≡ lexed_form 0 f (ended (end_of 0 f)) =
    ap (lex_from 0 0) (sym (append-nil (form_text f))) ∙ lex_form f 0 [] is refl in
    let matched : balanced 0 (lex (form_text f)) ≡ Ok (listed 0 f []) = ap (balanced 0) tokens ∙ form_balanced f 0 0 (ended (end_of 0 f)) [] is refl in
    ap as_forms matched ∙ ap (λ r. Ok r.0) (form_rest f 0 [] is)
