-- The text of forms on lines between parentheses is read as one list of these forms.
use Rattle.std.proofs.Common.{◌≡◌, ℕ, suc, Ok, List, [], ◌∷◌, ◌++◌, refl, ap, ◌∙◌, append_assoc}
use Rattle.std.specs.Prelude.{codes, flat_map}
use Rattle.smt_lex.specs.declared.items.Item.TheVariants.{Left}
use Rattle.smt_lex.specs.Lexicon.{line_feed}
use Rattle.smt_lex.specs.Lex.{Token, Lexed, ended, next, lex_from, lex}
use Rattle.smt_lex.specs.Forms.{Form, node, none, ◌⨾◌, with_token, balanced, before, rest, as_forms, forms}
use Rattle.smt_lex.specs.FormText.{form_text}
use Rattle.smt_lex.proofs.Joining.{lex_line_before}
use Rattle.script_read.proofs.FormTexts.{IsWritten, end_of, placed, left_at, right_at, lexed_form, listed, lex_form, form_balanced, with_form, form_rest}
use Rattle.model_texts.specs.ModelLines.{line_of}
use Rattle.model_texts.proofs.EntriesRead.{on_lines}

abbrev pub AllWritten : List Form → Type 0
AllWritten [] = Unit {0}
AllWritten (f ∷ fs) = IsWritten f × AllWritten fs

-- ---- lines, in front of others

abbrev end_of_lines : ℕ → List Form → ℕ
end_of_lines p [] = p
end_of_lines p (f ∷ fs) = end_of_lines (suc (end_of p f)) fs

abbrev lexed_lines : ℕ → List Form → Lexed → Lexed
lexed_lines p [] ts = ts
lexed_lines p (f ∷ fs) ts = lexed_form p f (lexed_lines (suc (end_of p f)) fs ts)

abbrev listed_lines : ℕ → List Form → List Token → List Token
listed_lines p [] us = us
listed_lines p (f ∷ fs) us = listed p f (listed_lines (suc (end_of p f)) fs us)

abbrev lines_then : List Form → List ℕ → List ℕ
lines_then fs bytes = flat_map line_of fs ++ bytes

first_line : (f : Form) (fs : List Form) (bytes : List ℕ) → lines_then (f ∷ fs) bytes ≡ form_text f ++ line_feed ∷ lines_then fs bytes
first_line f fs bytes =
    ap (λ xs. xs ++ bytes) (append_assoc (form_text f) (line_feed ∷ []) (flat_map line_of fs))
    ∙ append_assoc (form_text f) (line_feed ∷ flat_map line_of fs) bytes

lex_lines : (fs : List Form) (p : ℕ) (bytes : List ℕ) → AllWritten fs → lex_from p 0 (lines_then fs bytes) ≡ lexed_lines p fs (lex_from (end_of_lines p fs) 0 bytes)
lex_lines [] p bytes are = refl
lex_lines (f ∷ fs) p bytes are =
    ap (lex_from p 0) (first_line f fs bytes)
    ∙ lex_form f p (line_feed ∷ lines_then fs bytes) are.0 refl
    ∙ ap (lexed_form p f) (lex_line_before (lines_then fs bytes) (end_of p f) ∙ lex_lines fs (suc (end_of p f)) bytes are.1)

lines_balanced : (fs : List Form) (p depth : ℕ) (ts : Lexed) (us : List Token) → AllWritten fs → balanced depth ts ≡ Ok us → balanced depth (lexed_lines p fs ts) ≡ Ok (listed_lines p fs us)
lines_balanced [] p depth ts us are behind = behind
lines_balanced (f ∷ fs) p depth ts us are behind =
    form_balanced f p depth (lexed_lines (suc (end_of p f)) fs ts) (listed_lines (suc (end_of p f)) fs us) are.0 (lines_balanced fs (suc (end_of p f)) depth ts us are.1 behind)

lines_rest : (fs : List Form) (p q : ℕ) → AllWritten fs → rest (listed_lines p fs (right_at q ∷ [])) ≡ (on_lines p fs, none ∷ [])
lines_rest [] p q are = refl
lines_rest (f ∷ fs) p q are =
    form_rest f p (listed_lines (suc (end_of p f)) fs (right_at q ∷ [])) are.0 ∙ ap (with_form (placed p f)) (lines_rest fs (suc (end_of p f)) q are.1)

-- ---- the text

abbrev pub list_text : List Form → List ℕ
list_text fs = codes "(\n" ++ flat_map line_of fs ++ codes ")\n"

tail_lexed : (p : ℕ) → lex_from p 0 (codes ")\n") ≡ next (right_at p) (ended (suc (suc p)))
tail_lexed p = refl

tail_balanced : (p n : ℕ) → balanced 1 (next (right_at p) (ended n)) ≡ Ok (right_at p ∷ [])
tail_balanced p n = refl

pub list_read : (fs : List Form) → AllWritten fs → forms (list_text fs) ≡ Ok (node 0 (on_lines 2 fs) ⨾ none)
list_read fs are =
    let q = end_of_lines 2 fs in
    let right = next (right_at q) (ended (suc (suc q))) in
    let tokens : lex (list_text fs) ≡ next (left_at 0) (lexed_lines 2 fs right) =
    ap (next (left_at 0)) (lex_lines fs 2 (codes ")\n") are ∙ ap (lexed_lines 2 fs) (tail_lexed q)) in
    let inside = lines_balanced fs 2 1 right (right_at q ∷ []) are (tail_balanced q (suc (suc q))) in
    let matched : balanced 0 (lex (list_text fs)) ≡ Ok (left_at 0 ∷ listed_lines 2 fs (right_at q ∷ [])) = ap (balanced 0) tokens ∙ ap (with_token (left_at 0)) inside in
    ap as_forms matched ∙ ap (λ r. Ok (before Left (left_at 0) r).0) (lines_rest fs 2 q are)
