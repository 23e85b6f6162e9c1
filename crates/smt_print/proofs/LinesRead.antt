-- The text of commands is read as their forms, one for each line, up to an `(exit)`.
use Rattle.std.proofs.Common.{◌≡◌, ℕ, suc, false, Ok, List, [], ◌∷◌, ◌++◌, refl, ap, sym, subst, ◌∙◌, arith, append_assoc, ◌⊎◌, inl, inr}
use Rattle.std.proofs.lemmas.Bool.{ne_eqb}
use Rattle.smt_lex.specs.declared.items.Item.{Item}
use Rattle.smt_lex.specs.declared.items.Item.TheVariants.{Left, Right}
use Rattle.smt_lex.specs.Lexicon.{line_feed}
use Rattle.smt_lex.specs.Lex.{Token, Lexed, ended, next, lex_from}
use Rattle.smt_lex.specs.Forms.{Form, atom, node, Forms, none, ◌⨾◌, is_exit_word, depth_after, balanced, to_exit, rest, as_forms, forms_to_exit}
use Rattle.smt_lex.proofs.Joining.{lex_line_before}
use Rattle.smt_terms.specs.Term.{Term}
use Rattle.script_read.specs.Commands.{Command}
use Rattle.smt_lex.specs.FormText.{form_text}
use Rattle.smt_print.specs.Text.{command_text, lines_in}
use Rattle.smt_print.proofs.FormTexts.{IsInner, IsWritten, AreWritten, end_of, end_in, placed, token_at, left_at, right_at, lexed_form, lexed_in, lexed_behind, listed, lex_form, form_balanced, with_form, form_rest}

-- ---- lines

-- the text, with the end of a line behind it, is read as one form wherever it stands
pub record IsLine (text : List ℕ) (form : ℕ → Form) : Type 0 where
  pub lexed : ℕ → Lexed → Lexed
  pub listed : ℕ → List Token → List Token
  pub after : ℕ → ℕ
  pub lexes : (p : ℕ) (bytes : List ℕ) → lex_from p 0 (text ++ line_feed ∷ bytes) ≡ lexed p (lex_from (after p) 0 bytes)
  pub closes : (p : ℕ) (ts : Lexed) (us : List Token) → balanced 0 ts ≡ Ok us → balanced 0 (lexed p ts) ≡ Ok (listed p us)
  pub forms : (p : ℕ) (us : List Token) → rest (listed p us) ≡ with_form (form p) (rest us)

-- the tokens behind the line are examined too; none of them is
abbrev pub GoesOn : (ℕ → Lexed → Lexed) → Type 0
GoesOn lexed = (p : ℕ) (ts : Lexed) → to_exit 0 (lexed p ts) ≡ lexed p (to_exit 0 ts)

abbrev pub EndsThere : (ℕ → Lexed → Lexed) → Type 0
EndsThere lexed = (p : ℕ) (ts : Lexed) → to_exit 0 (lexed p ts) ≡ lexed p (ended 0)

abbrev pub form_line : (f : Form) → IsWritten f → IsLine (form_text f) (λ p. placed p f)
form_line f is = record {
  lexed = λ p ts. lexed_form p f ts;
  listed = λ p us. listed p f us;
  after = λ p. suc (end_of p f);
  lexes = λ p bytes. lex_form f p (line_feed ∷ bytes) is refl ∙ ap (lexed_form p f) (lex_line_before bytes (end_of p f));
  closes = λ p ts us h. form_balanced f p 0 ts us is h;
  forms = λ p us. form_rest f p us is;
}

-- ---- `(exit)` inside a list isn't looked for

inner_depth : (item : Item) (d : ℕ) → IsInner item → depth_after item d ≡ d
inner_depth Left d inner = absurd inner
inner_depth Right d inner = absurd inner
inner_depth item d inner = refl

deep_token : (t : Token) (d : ℕ) (ts : Lexed) → to_exit (suc d) (next t ts) ≡ next t (to_exit (depth_after t.item (suc d)) ts)
deep_token t d ts = rw (ne_eqb (suc d) 0 (λ same. omega (arith, same))) refl

deep_right : (p d : ℕ) (ts : Lexed) → to_exit (suc d) (next (right_at p) ts) ≡ next (right_at p) (to_exit d ts)
deep_right p d ts = deep_token (right_at p) d ts ∙ ap (λ k. next (right_at p) (to_exit k ts)) (omega arith)

mutual
  deep_form : (f : Form) (p d : ℕ) (ts : Lexed) → IsWritten f → to_exit (suc d) (lexed_form p f ts) ≡ lexed_form p f (to_exit (suc d) ts)
  deep_form (atom t) p d ts is = deep_token (token_at p t.item t.text) d ts ∙ ap (λ k. next (token_at p t.item t.text) (to_exit k ts)) (inner_depth t.item (suc d) is.0)
  deep_form (node place fs) p d ts are =
      deep_token (left_at p) d (lexed_in (suc p) fs (next (right_at (end_in (suc p) fs)) ts))
      ∙ ap (next (left_at p)) (deep_in fs (suc p) (suc d) (next (right_at (end_in (suc p) fs)) ts) are ∙ ap (lexed_in (suc p) fs) (deep_right (end_in (suc p) fs) (suc d) ts))

  deep_in : (fs : Forms) (p d : ℕ) (ts : Lexed) → AreWritten fs → to_exit (suc d) (lexed_in p fs ts) ≡ lexed_in p fs (to_exit (suc d) ts)
  deep_in none p d ts are = refl
  deep_in (f ⨾ fs) p d ts are = deep_form f p d (lexed_behind (end_of p f) fs ts) are.0 ∙ ap (lexed_form p f) (deep_behind fs (end_of p f) d ts are.1)

  deep_behind : (fs : Forms) (p d : ℕ) (ts : Lexed) → AreWritten fs → to_exit (suc d) (lexed_behind p fs ts) ≡ lexed_behind p fs (to_exit (suc d) ts)
  deep_behind none p d ts are = refl
  deep_behind (f ⨾ fs) p d ts are = deep_form f (suc p) d (lexed_behind (end_of (suc p) f) fs ts) are.0 ∙ ap (lexed_form (suc p) f) (deep_behind fs (end_of (suc p) f) d ts are.1)

-- a list that begins with another token than the word `exit`
pub list_goes_on : (w : Token) (fs : Forms) → IsWritten (node 0 (atom w ⨾ fs)) → is_exit_word w.item w.text ≡ false → GoesOn (λ p ts. lexed_form p (node 0 (atom w ⨾ fs)) ts)
list_goes_on w fs are other p ts =
    let right = right_at (end_in (suc p) (atom w ⨾ fs)) in
    rw other (ap (next (left_at p)) (deep_in (atom w ⨾ fs) (suc p) 0 (next right ts) are ∙ ap (lexed_in (suc p) (atom w ⨾ fs)) (deep_right (end_in (suc p) (atom w ⨾ fs)) 0 ts)))

-- ---- commands

-- a command's line, with what its form is
pub record CommandLine (text : List ℕ) (Is : Form → Type 0) : Type 0 where
  pub form_at : ℕ → Form
  pub line : IsLine text form_at
  pub is : (p : ℕ) → Is (form_at p)

-- an `exit` is the last command
abbrev pub EndsOrGoesOn : (ℕ → Lexed → Lexed) → List (Command Term) → Type 0
EndsOrGoesOn lexed cs = GoesOn lexed ⊎ (EndsThere lexed × (cs ≡ []))

abbrev pub AllLines : (Term → Form) → (Command Term → Form → Type 0) → List (Command Term) → Type 0
AllLines form Is [] = Unit {0}
AllLines form Is (c ∷ cs) = (l : CommandLine (command_text form c) (Is c)) × EndsOrGoesOn l.line.lexed cs × AllLines form Is cs

-- commands and forms, one by one
abbrev pub AreForms : (Command Term → Form → Type 0) → List (Command Term) → Forms → Type 0
AreForms Is [] none = Unit {0}
AreForms Is (c ∷ cs) (f ⨾ fs) = Is c f × AreForms Is cs fs
AreForms Is _ _ = ⊥

-- what a text from a place on is read as
pub record ReadAs (Is : Command Term → Form → Type 0) (cs : List (Command Term)) (ts : Lexed) : Type 0 where
  pub tokens : List Token
  pub forms : Forms
  pub closed : balanced 0 (to_exit 0 ts) ≡ Ok tokens
  pub left : rest tokens ≡ (forms, [])
  pub are : AreForms Is cs forms

line_read : (form : Term → Form) (Is : Command Term → Form → Type 0) (c : Command Term) (cs : List (Command Term)) (l : CommandLine (command_text form c) (Is c)) (p : ℕ) (ts more : Lexed) (us : List Token) (fs : Forms)
    → to_exit 0 (l.line.lexed p ts) ≡ l.line.lexed p more → balanced 0 more ≡ Ok us → rest us ≡ (fs, []) → AreForms Is cs fs → ReadAs Is (c ∷ cs) (l.line.lexed p ts)
line_read form Is c cs l p ts more us fs examined closed left are = record {
  tokens = l.line.listed p us;
  forms = l.form_at p ⨾ fs;
  closed = ap (balanced 0) examined ∙ l.line.closes p more us closed;
  left = l.line.forms p us ∙ ap (with_form (l.form_at p)) left;
  are = (l.is p, are);
}

first_line : (text more : List ℕ) → (text ++ line_feed ∷ []) ++ more ≡ text ++ line_feed ∷ more
first_line text more = append_assoc text (line_feed ∷ []) more

pub lines_read : (form : Term → Form) (Is : Command Term → Form → Type 0) (cs : List (Command Term)) (p : ℕ) → AllLines form Is cs → ReadAs Is cs (lex_from p 0 (lines_in form cs))
lines_read form Is [] p all = record { tokens = []; forms = none; closed = refl; left = refl; are = tt }
lines_read form Is (c ∷ cs) p all =
    let l = all.0 in
    let q = l.line.after p in
    let bytes = lines_in form cs in
    let lexes : lex_from p 0 (lines_in form (c ∷ cs)) ≡ l.line.lexed p (lex_from q 0 bytes) = ap (lex_from p 0) (first_line (command_text form c) bytes) ∙ l.line.lexes p bytes in
    subst (ReadAs Is (c ∷ cs)) (sym lexes)
    (elim (all.1) [
      | inl goes ↦
          let r = lines_read form Is cs q all.2 in
          line_read form Is c cs l p (lex_from q 0 bytes) (to_exit 0 (lex_from q 0 bytes)) r.tokens r.forms (goes p (lex_from q 0 bytes)) r.closed r.left r.are
      | inr ends ↦
          line_read form Is c cs l p (lex_from q 0 bytes) (ended 0) [] none (ends.0 p (lex_from q 0 bytes)) refl refl (subst (λ ds. AreForms Is ds none) (sym ends.1) tt)
    ])

pub forms_of_lines : (form : Term → Form) (Is : Command Term → Form → Type 0) (cs : List (Command Term)) → AllLines form Is cs → (fs : Forms) × (forms_to_exit (lines_in form cs) ≡ Ok fs) × AreForms Is cs fs
forms_of_lines form Is cs all =
    let r = lines_read form Is cs 0 all in
    (r.forms, ap as_forms r.closed ∙ ap (λ x. Ok x.0) r.left, r.are)
