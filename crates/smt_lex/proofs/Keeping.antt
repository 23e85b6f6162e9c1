-- What a forest keeps, and what it shows.
use Rattle.std.proofs.Common.{◌≡◌, ℕ, zero, suc, ◌+◌, ◌-◌, ◌<◌, ◌≤◌, ◌^◌, inl, inr, true, false, eqb, List, [], ◌∷◌, length, get_or, drop, Result, Ok, Err, refl, ap, sym, ◌∙◌, subst, arith, append-nil}
use Rattle.std.specs.Prelude.{◌&&◌, slice_range}
use Rattle.std.proofs.lemmas.List.{length-map, length-take-le, length-drop, get_or-map, get_or_default}
use Rattle.smt_lex.proofs.Choices.{tell}
use Rattle.smt_lex.specs.declared.items.Until.{Until}
use Rattle.smt_lex.specs.declared.items.Until.TheVariants.{End, Exit}
use Rattle.smt_lex.specs.declared.entries.Entry.{Entry}
use Rattle.smt_lex.specs.Lex.{Token, Fault, Lexed, ended, faulty, next, lex}
use Rattle.smt_lex.specs.Forms.{is_right, depth_after, with_token, balanced, to_exit, tokens_of}
use Rattle.smt_lex.specs.Forest.{no_token, token_at, end_of, items, form_length, after_at, closes, IsBalanced, IsScanned}
use Rattle.smt_lex.proofs.Stepping.{after_bounds}
use Rattle.smt_lex.specs.Building.{Nests, Spans, IsForest, entry_at, entry_end, entry_after, no_entry, entry_items, token_of, tokens_in, source}

pub with_token_ok : (t : Token) (r : Result (List Token) Fault) (us : List Token) → with_token t r ≡ Ok us → (vs : List Token) × (r ≡ Ok vs) × (us ≡ t ∷ vs)
with_token_ok t (Ok vs) us h = (vs, refl, cc)
with_token_ok t (Err fault) us h = absurd (cc)

closes_next : (t : Token) (us : List Token) (depth : ℕ) → (is_right t.item && eqb depth 0) ≡ false → closes (depth_after t.item depth) (items us) ≡ true → closes depth (items (t ∷ us)) ≡ true
closes_next t us depth goes behind = rw goes behind

-- tokens that were found to be balanced are
balanced_closes : (depth : ℕ) (ts : Lexed) (us : List Token) → balanced depth ts ≡ Ok us → closes depth (items us) ≡ true
balanced_closes zero (ended n) us h = let none : us ≡ [] = cc in ap (λ us. closes 0 (items us)) none
balanced_closes (suc depth) (ended n) us h = absurd (cc)
balanced_closes zero (faulty fault) us h = absurd (cc)
balanced_closes (suc depth) (faulty fault) us h = absurd (cc)
balanced_closes depth (next t ts) us h = elim (tell (is_right t.item && eqb depth 0)) [
  | inl over ↦ absurd (let e = rw over at h in cc)
  | inr goes ↦
      let behind = with_token_ok t (balanced (depth_after t.item depth) ts) us (rw goes at h) in
      ap (λ us. closes depth (items us)) behind.2 ∙ closes_next t behind.0 depth goes (balanced_closes (depth_after t.item depth) ts behind.0 behind.1)
]

pub tokens_balanced : (until : Until) (bytes : List ℕ) (ts : List Token) → tokens_of until bytes ≡ Ok ts → IsBalanced ts
tokens_balanced End bytes ts h = balanced_closes 0 (lex bytes) ts h
tokens_balanced Exit bytes ts h = balanced_closes 0 (to_exit 0 (lex bytes)) ts h

items_in : (bytes : List ℕ) (es : List Entry) → items (tokens_in bytes es) ≡ entry_items es
items_in bytes [] = refl
items_in bytes (e ∷ es) = ap (λ xs. e.item ∷ xs) (items_in bytes es)

module _ (bytes : List ℕ) (es : List Entry) (forest : IsForest bytes es) where
  count : length (tokens_in bytes es) ≡ length es
  count = length-map es (token_of bytes)

  pub token_is : (i : ℕ) → i < length es → token_at (tokens_in bytes es) i ≡ token_of bytes (entry_at es i)
  token_is i within = get_or-map (token_of bytes) es i no_entry no_token within

  pub after_is : (i : ℕ) → i < length es → entry_after (entry_at es i) i ≡ after_at (tokens_in bytes es) i
  after_is i within = elim (forest.ends.ends i within) [
    | inl listed ↦ absurd (let none = listed.1 in omega (arith, none))
    | inr ends ↦ sym (ends []) ∙ ap (λ xs. i + form_length (drop i xs)) (append-nil (entry_items es) ∙ sym (items_in bytes es))
  ]

  text_length : (i : ℕ) → i < length es → length (slice_range bytes (entry_at es i).start (entry_end (entry_at es i))) ≡ (entry_end (entry_at es i)) - (entry_at es i).start
  text_length i within =
      let stands = forest.spans.stands i within in
      length-take-le ((entry_end (entry_at es i)) - (entry_at es i).start) (drop (entry_at es i).start bytes) (omega (arith, length-drop (entry_at es i).start bytes, stands.some, stands.within))

  end_is : (i : ℕ) → i < length es → end_of (token_at (tokens_in bytes es) i) ≡ (entry_end (entry_at es i))
  end_is i within =
      let stands = forest.spans.stands i within in
      ap end_of (token_is i within) ∙ omega (arith, text_length i within, stands.some)

  pub scanned : IsScanned (source bytes es)
  scanned = record {
    small = forest.small;
    balanced = forest.balanced;
    some = λ i within.
        let inside : i < length es = omega (arith, within, count) in
        let stands = forest.spans.stands i inside in
        let size = ap (λ t. length t.text) (token_is i inside) in
        omega (arith, size, text_length i inside, stands.some);
    within = λ i within.
        let inside : i < length es = omega (arith, within, count) in
        let stands = forest.spans.stands i inside in
        omega (arith, end_is i inside, stands.within);
    texts = λ i within.
        let inside : i < length es = omega (arith, within, count) in
        ap (λ t. t.text) (token_is i inside)
        ∙ sym (ap (slice_range bytes (token_at (tokens_in bytes es) i).start) (end_is i inside) ∙ ap (λ t. slice_range bytes t.start (entry_end (entry_at es i))) (token_is i inside));
    order = λ i j below within.
        let last : j < length es = omega (arith, within, count) in
        let first : i < length es = omega (arith, below, last) in
        let starts = ap (λ t. t.start) (token_is j last) in
        omega (arith, end_is i first, starts, forest.spans.order i j below last);
  }

  pub number_small : (i : ℕ) → i < length (tokens_in bytes es) → i < 2 ^ 32
  number_small i within = omega (arith, count, within, forest.spans.count, forest.small)

  -- what is read of an entry
  pub end_within : (i : ℕ) (e : Entry) → e ≡ get_or es i e → i < length (tokens_in bytes es) → entry_end e < 2 ^ 32
  end_within i e read within =
      let inside : i < length es = omega (arith, within, count) in
      let is = ap entry_end (read ∙ get_or_default es i e no_entry inside) in
      let stands = forest.spans.stands i inside in
      omega (arith, is, stands.within, forest.small)

  pub after_read : (i : ℕ) (e : Entry) → e ≡ get_or es i e → i < length (tokens_in bytes es) → entry_after e i ≡ after_at (tokens_in bytes es) i
  after_read i e read within =
      let inside : i < length es = omega (arith, within, count) in
      ap (λ (e : Entry). entry_after e i) (read ∙ get_or_default es i e no_entry inside) ∙ after_is i inside

  pub after_within : (i : ℕ) (e : Entry) → e ≡ get_or es i e → i < length (tokens_in bytes es) → (i < entry_after e i) × (entry_after e i ≤ length (tokens_in bytes es))
  after_within i e read within =
      let is = after_read i e read within in
      let bounds = after_bounds (tokens_in bytes es) forest.balanced i within in
      (omega (arith, is, bounds.0), omega (arith, is, bounds.1))

pub is_forest : (until : Until) (bytes rest : List ℕ) (es : List Entry) → rest ≡ bytes → length bytes < 2 ^ 32 → Spans (length rest) es → Nests es [] → tokens_of until rest ≡ Ok (tokens_in rest es) → IsForest bytes es
is_forest until bytes rest es is small spans ends tokens = record {
  small = small;
  spans = subst (λ bytes. Spans (length bytes) es) is spans;
  ends = ends;
  balanced = tokens_balanced until bytes (tokens_in bytes es) (subst (λ bytes. tokens_of until bytes ≡ Ok (tokens_in bytes es)) is tokens);
}
