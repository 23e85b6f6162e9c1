use Rattle.std.proofs.Common.{◌≡◌, ◌++◌, ◌+◌, ◌-◌, ◌<◌, ◌&&◌, ℕ, Bool, true, false, not, cond, List, [], ◌∷◌, length, take, drop, ap, sym, ◌∙◌, arith, append_assoc, append-nil}
use Rattle.smt_lex.specs.Forest.{Source, token_at, after_at, form_length, items}
use Rattle.smt_lex.specs.Forms.{is_left, is_right}
use Rattle.smt_lex.specs.FormText.{form_text}
use Rattle.smt_lex.specs.Lex.{Token}
use Rattle.script_terms.specs.Places.{IsRead, IsForm, form_from}
use Rattle.script_read.specs.TokenText.{spaced_text}
use Rattle.script_read.proofs.TokenTexts.{token_texts, tokens_text, next_text}
use Rattle.script_terms.proofs.Lexemes.{written}
use Rattle.script_read.proofs.Matching.{read_balanced}
use Rattle.script_read.proofs.form_texts.form_text.Goals as goal
use Rattle.script_read.proofs.form_texts.form_text.Goals.{then-behind+then-not-is_right+in_ok-push, else-behind, else-behind-via-then-behind+else-not-is_right, else-behind-via-else-behind}

begun : (source : Source) (i end : ℕ) → IsRead source → IsForm source.tokens i → end ≡ after_at source.tokens i → token_texts false (take (end - i) (drop i source.tokens)) ≡ form_text (form_from source.tokens i)
begun source i end read form is =
    let n : end - i ≡ form_length (drop i (items source.tokens)) = omega arith in
    ap (λ m. token_texts false (take m (drop i source.tokens))) n
    ∙ tokens_text source.tokens i form (λ j within. written source.bytes source.tokens j read within) (read_balanced source read)

-- a space or none, and the text of a token
spaced : (behind right : Bool) (text mid : List ℕ) → behind ≡ true → right ≡ false → mid ≡ text ++ 32 ∷ [] → mid ≡ text ++ cond (behind && not right) (32 ∷ []) []
spaced behind right text mid b r is = rw (b, r) is

unspaced_right : (behind right : Bool) (text mid : List ℕ) → right ≡ true → mid ≡ text → mid ≡ text ++ cond (behind && not right) (32 ∷ []) []
unspaced_right true right text mid r is = rw r (is ∙ sym (append-nil text))
unspaced_right false right text mid r is = is ∙ sym (append-nil text)

unspaced_first : (behind right : Bool) (text mid : List ℕ) → behind ≡ false → mid ≡ text → mid ≡ text ++ cond (behind && not right) (32 ∷ []) []
unspaced_first behind right text mid b is = rw b (is ∙ sym (append-nil text))

turned : (tokens : List Token) (i end : ℕ) (behind now : Bool) (text mid new whole : List ℕ) → i < end → i < length tokens
    → text ++ token_texts behind (take (end - i) (drop i tokens)) ≡ whole
    → mid ≡ text ++ cond (behind && not (is_right (token_at tokens i).item)) (32 ∷ []) []
    → new ≡ mid ++ (token_at tokens i).text
    → now ≡ not (is_left (token_at tokens i).item)
    → new ++ token_texts now (take (end - (i + 1)) (drop (i + 1) tokens)) ≡ whole
turned tokens i end behind now text mid new whole inside within before space_is text_is now_is =
    let t : Token = token_at tokens i in
    let more : List ℕ = token_texts (not (is_left t.item)) (take (end - (i + 1)) (drop (i + 1) tokens)) in
    let put : new ≡ text ++ spaced_text behind t = text_is ∙ ap (λ xs. xs ++ t.text) space_is ∙ append_assoc text (cond (behind && not (is_right t.item)) (32 ∷ []) []) t.text in
    ap (λ b. new ++ token_texts b (take (end - (i + 1)) (drop (i + 1) tokens))) now_is
    ∙ ap (λ xs. xs ++ more) put
    ∙ append_assoc text (spaced_text behind t) more
    ∙ ap (λ xs. text ++ xs) (sym (next_text tokens i end behind inside within))
    ∙ before

pub loop-token-init : goal.loop-token-init
loop-token-init c = ap (λ xs. xs ++ token_texts false (take (c.after-token-end.result - c.args.i) (drop c.args.i c.args.forest.now.tokens))) c.new-text.ensures ∙ begun c.args.forest.now c.args.i c.after-token-end.result c.requires.read c.requires.form c.after-token-end.ensures.behind

pub loop-token-preserved : goal.loop-token-preserved
loop-token-preserved c =
    let tokens : List Token = c.args.forest.now.tokens in
    let right : Bool = is_right (token_at tokens c.loop-token.token).item in
    turned tokens c.loop-token.token c.after-token-end.result c.loop-token.behind _ c.loop-token.text c.if-behind.text c.append.new.text _ (omega arith) (omega arith) c.loop-token.invariant
    (elim c.if-behind.branch [
      | then-behind+then-not-is_right+in_ok-push w ↦
          spaced c.loop-token.behind right c.loop-token.text c.if-behind.text w.if-behind.true (sym w.is_right.ensures ∙ w.if-not-is_right.true) (w.text-is ∙ w.in_ok-push.ensures.ok)
      | else-behind w ↦ elim w.else-behind.branch [
        | else-behind-via-then-behind+else-not-is_right w' ↦ unspaced_right c.loop-token.behind right c.loop-token.text c.if-behind.text (sym w'.is_right.ensures ∙ w'.if-not-is_right.false) w.text-is
        | else-behind-via-else-behind w' ↦ unspaced_first c.loop-token.behind right c.loop-token.text c.if-behind.text w'.if-behind.false w.text-is
      ]
    ])
    (c.in_ok-append.ensures ∙ ap (λ xs. c.if-behind.text ++ xs) c.text-in-loop-token.ensures.text)
    (ap not c.is_left-behind.ensures)
