-- The texts of numbers, and of operators with indices.
use Rattle.std.proofs.Common.{◌≡◌, ℕ, zero, suc, ◌+◌, ◌*◌, ◌/◌, ◌%◌, ◌^◌, ◌<◌, ◌≤◌, nat_lt, Bool, true, false, List, [], ◌∷◌, ◌++◌, map, take, get_or, length, refl, ap, sym, ◌∙◌, arith, append_assoc, append-nil}
use Rattle.std.specs.Prelude.{codes}
use Rattle.std.specs.Fmt.{decimal, digits, digits_onto}
use Rattle.std.proofs.lemmas.Bool.{ltb-true, ltb-false}
use Rattle.std.proofs.lemmas.Bool.Decides.{nat_tests}
use Rattle.std.proofs.lemmas.List.{take_more}
use Rattle.std.proofs.Math.Nat.{div-lt_iff_lt-mul, div-lt_self, pow-suc}
use Rattle.smt_lex.specs.Lexicon.{right_parenthesis, space}
use Rattle.smt_lex.specs.Forms.{forms_of_list}
use Rattle.smt_lex.specs.FormText.{form_text, further_text}
use Rattle.smt_terms.specs.Numeral.{digits_before, numeral}
use Rattle.term_table.specs.WrittenForms.{indexed_form, numeral_form}

-- ---- numerals

onto_last : (k n : ℕ) (after : List ℕ) → n < 10 → digits_onto (suc k) 10 false n after ≡ (48 + n) ∷ after
onto_last k n after lt = grind (arith, nat_tests)

onto_more : (k n : ℕ) (after : List ℕ) → 10 ≤ n → digits_onto (suc k) 10 false n after ≡ digits_onto k 10 false (n / 10) ((48 + n % 10) ∷ after)
onto_more k n after le = grind (arith, nat_tests)

pub before_last : (room n : ℕ) (after : List ℕ) → n < 10 → digits_before (suc room) n after ≡ (48 + n) ∷ after
before_last room n after lt = grind (arith, nat_tests)

before_more : (room n : ℕ) (after : List ℕ) → 10 ≤ n → digits_before (suc room) n after ≡ digits_before room (n / 10) ((48 + n % 10) ∷ after)
before_more room n after le = grind (arith, nat_tests)

fewer : (k n : ℕ) → n < 10 ^ suc k → n / 10 < 10 ^ k
fewer k n h =
    let next : 10 ^ suc k ≡ 10 ^ k * 10 = pow-suc 10 k in
    (div-lt_iff_lt-mul {k = 10} {x = n} {y = 10 ^ k} (omega arith)).1 (omega arith)

-- the digits of a number that has no more than so many
digits-numeral : (k room n : ℕ) (after : List ℕ) → n < 10 ^ suc k → n < room → digits_onto (suc k) 10 false n after ≡ digits_before room n after
digits-numeral k zero n after few within = absurd (omega arith)
digits-numeral zero (suc room) n after few within = onto_last zero n after few ∙ sym (before_last room n after few)
digits-numeral (suc k) (suc room) n after few within = by (nat_lt n 10) refl (digits-numeral k room (n / 10) ((48 + n % 10) ∷ after))
  where
    by : (b : Bool) → nat_lt n 10 ≡ b
        → (n / 10 < 10 ^ suc k → n / 10 < room → digits_onto (suc k) 10 false (n / 10) ((48 + n % 10) ∷ after) ≡ digits_before room (n / 10) ((48 + n % 10) ∷ after))
        → digits_onto (suc (suc k)) 10 false n after ≡ digits_before (suc room) n after
    by true e rest = let lt : n < 10 = ltb-true n 10 e in onto_last (suc k) n after lt ∙ sym (before_last room n after lt)
    by false e rest =
        let le : 10 ≤ n = ltb-false n 10 e in
        let less : n / 10 < n = div-lt_self (omega arith) (omega arith) in
        onto_more (suc k) n after le ∙ rest (fewer (suc k) n few) (omega arith) ∙ sym (before_more room n after le)

pub decimal-numeral : (n : ℕ) → n < 2 ^ 128 → decimal n ≡ numeral n
unfolding digits
decimal-numeral n h = digits-numeral 63 (suc n) n [] (omega arith) (omega arith)

pub two-digits : (n : ℕ) → 10 ≤ n → n < 100 → numeral n ≡ (48 + n / 10) ∷ (48 + n % 10) ∷ []
two-digits zero le lt = absurd (omega arith)
two-digits (suc m) le lt = before_more (suc m) (suc m) [] le ∙ before_last m (suc m / 10) ((48 + suc m % 10) ∷ []) (fewer 1 (suc m) lt)

-- ---- indices

-- numerals with a space in front of each
abbrev pub spaced_numerals : List ℕ → List ℕ
spaced_numerals [] = []
spaced_numerals (n ∷ ns) = space ∷ (numeral n ++ spaced_numerals ns)

further-numerals : (ns : List ℕ) → further_text (forms_of_list (map numeral_form ns)) ≡ spaced_numerals ns
further-numerals [] = refl
further-numerals (n ∷ ns) = ap (λ xs. space ∷ (numeral n ++ xs)) (further-numerals ns)

spaced_numerals-push : (ns : List ℕ) (n : ℕ) → spaced_numerals (ns ++ n ∷ []) ≡ spaced_numerals ns ++ (space ∷ numeral n)
spaced_numerals-push [] n = ap (λ xs. space ∷ xs) (append-nil (numeral n))
spaced_numerals-push (m ∷ ns) n =
    ap (λ xs. space ∷ (numeral m ++ xs)) (spaced_numerals-push ns n) ∙ ap (λ xs. space ∷ xs) (sym (append_assoc (numeral m) (spaced_numerals ns) (space ∷ numeral n)))

-- one index more
pub index-more : (old now spaced new name ns : List ℕ) (i d : ℕ) → i < length ns → now ≡ old ++ (codes "(_ " ++ (name ++ spaced_numerals (take i ns)))
    → spaced ≡ now ++ space ∷ [] → new ≡ spaced ++ numeral (get_or ns i d) → new ≡ old ++ (codes "(_ " ++ (name ++ spaced_numerals (take (i + 1) ns)))
index-more old now spaced new name ns i d lt before between after =
    let more : spaced_numerals (take (i + 1) ns) ≡ spaced_numerals (take i ns) ++ (space ∷ numeral (get_or ns i d)) = ap spaced_numerals (take_more ns i d lt) ∙ spaced_numerals-push (take i ns) (get_or ns i d) in
    after ∙ ap (λ xs. xs ++ numeral (get_or ns i d)) (between ∙ ap (λ xs. xs ++ space ∷ []) before) ∙ behind old name (spaced_numerals (take i ns)) (numeral (get_or ns i d))
    ∙ ap (λ xs. old ++ (codes "(_ " ++ (name ++ xs))) (sym more)
  where
    behind : (old name before last : List ℕ) → ((old ++ (codes "(_ " ++ (name ++ before))) ++ space ∷ []) ++ last ≡ old ++ (codes "(_ " ++ (name ++ (before ++ (space ∷ last))))
    behind old name before last = simp append_assoc

pub indexed-text : (name ns : List ℕ) → form_text (indexed_form name ns) ≡ codes "(_ " ++ (name ++ (spaced_numerals ns ++ right_parenthesis ∷ []))
indexed-text name ns =
    ap (λ xs. codes "(_ " ++ xs) (append_assoc name (further_text (forms_of_list (map numeral_form ns))) (right_parenthesis ∷ []) ∙ ap (λ xs. name ++ (xs ++ right_parenthesis ∷ [])) (further-numerals ns))
