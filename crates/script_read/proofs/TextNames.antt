-- The names of a text, token by token.
use Rattle.std.proofs.Common.{◌≡◌, ℕ, zero, suc, ◌+◌, ◌<◌, ◌≤◌, inl, inr, Bool, true, false, not, cond, List, [], ◌∷◌, ◌++◌, length, None, Some, if◌then◌else◌, refl, ap, sym, ◌∙◌, subst, arith, ◌&&◌, ◌||◌, ◌==◌, true≢false}
use Rattle.std.specs.Bool.{⊤}
use Rattle.std.proofs.lemmas.List.{drop_more, drop_all}
use Rattle.std.proofs.lemmas.List.Elements.{filter-append}
use Rattle.std.proofs.lemmas.Bool.Decides.{eqb_tells}
use Rattle.smt_lex.specs.declared.items.Item.{Item}
use Rattle.smt_lex.specs.declared.items.Item.TheVariants.{Left, Right, Numeral, Decimal, Hex, Bin, Text, Word, Quoted, Keyword}
use Rattle.smt_lex.specs.Lex.{Token, symbol_by, symbol_of}
use Rattle.smt_lex.specs.Names.{Name, is_among}
use Rattle.smt_lex.specs.Forms.{Forms, is_right, depth_after, before, rest}
use Rattle.smt_lex.specs.Forest.{no_token, token_at, items, rest_at, closes, IsBalanced}
use Rattle.smt_terms.specs.Free.{name_among}
use Rattle.smt_terms.specs.Equal.{name_eq}
use Rattle.smt_terms.specs.Fresh.{Supply, numbered_name}
use Rattle.smt_terms.proofs.Equal.{name_same}
use Rattle.term_subst.specs.Names.{with_name as with_name_held, begins_as_drawn, AgreeOnNumbered}
use Rattle.script_terms.specs.Places.{SparesText, forms_from}
use Rattle.script_terms.specs.TextNames.{with_name, names_with_all}
use Rattle.script_read.specs.DrawnNames.{drawn_among, KeepsWith}
use Rattle.script_terms.proofs.NameFacts.{among_alike, among_new, kept_by_forms}

sure_left : (a b : Bool) → (a && b) ≡ true → a ≡ true
sure_left true b h = refl
sure_left false b h = h

sure_right : (a b : Bool) → (a && b) ≡ true → b ≡ true
sure_right true b h = h
sure_right false b h = absurd (cc)

-- ---- the lists around what is left

opened_left : (t : Token) (r : Forms × List Forms) (depth : ℕ) → length r.1 ≡ suc depth → length (before Left t r).1 ≡ depth
opened_left t (fs, []) depth is = absurd (omega (arith, is))
opened_left t (fs, gs ∷ gss) depth is = omega (arith, is)

opened_right : (t : Token) (r : Forms × List Forms) (depth : ℕ) → length r.1 ≡ depth → length (before Right t r).1 ≡ suc depth
opened_right t (fs, gss) depth is = ap suc is

opened_by : (item : Item) (t : Token) (r : Forms × List Forms) (depth : ℕ) → not (is_right item && depth == 0) ≡ true → length r.1 ≡ depth_after item depth → length (before item t r).1 ≡ depth
opened_by Left t r depth goes is = opened_left t r depth is
opened_by Right t r zero goes is = absurd (true≢false (sym goes))
opened_by Right t r (suc depth) goes is = opened_right t r depth (omega (arith, is))
opened_by Numeral t (fs, gss) depth goes is = is
opened_by Decimal t (fs, gss) depth goes is = is
opened_by Hex t (fs, gss) depth goes is = is
opened_by Bin t (fs, gss) depth goes is = is
opened_by Text t (fs, gss) depth goes is = is
opened_by Word t (fs, gss) depth goes is = is
opened_by Quoted t (fs, gss) depth goes is = is
opened_by Keyword t (fs, gss) depth goes is = is

around_open : (ts : List Token) (depth : ℕ) → closes depth (items ts) ≡ true → length (rest ts).1 ≡ depth
around_open [] depth matched = elim (eqb_tells depth 0) [ inl same ↦ sym same.1 | inr differs ↦ absurd (true≢false (sym matched ∙ differs.0)) ]
around_open (t ∷ ts) depth matched =
    opened_by t.item t (rest ts) depth (sure_left (not (is_right t.item && depth == 0)) (closes (depth_after t.item depth) (items ts)) matched)
    (around_open ts (depth_after t.item depth) (sure_right (not (is_right t.item && depth == 0)) (closes (depth_after t.item depth) (items ts)) matched))

empty_list : {A : Type 0} (xs : List A) → length xs ≡ 0 → xs ≡ []
empty_list [] is = refl
empty_list (x ∷ xs) is = absurd (omega (arith, is))

-- ---- names of what is left

abbrev names_around : List Name → List Forms → List Name
names_around ns [] = ns
names_around ns (fs ∷ around) = names_around (names_with_all ns fs) around

-- these names, and then those of all that is left to read
abbrev pub names_left : List Name → Forms × List Forms → List Name
names_left ns r = names_around (names_with_all ns r.0) r.1

names_before : (item : Item) (t : Token) (ns : List Name) (r : Forms × List Forms) → t.item ≡ item → names_left ns (before item t r) ≡ names_left (with_name ns (symbol_by item t.text)) r
names_before Left t ns (fs, []) is = refl
names_before Left t ns (fs, gs ∷ gss) is = refl
names_before Right t ns (fs, gss) is = refl
names_before Numeral t ns (fs, gss) is = ap (λ k. names_left (with_name ns (symbol_by k t.text)) (fs, gss)) is
names_before Decimal t ns (fs, gss) is = ap (λ k. names_left (with_name ns (symbol_by k t.text)) (fs, gss)) is
names_before Hex t ns (fs, gss) is = ap (λ k. names_left (with_name ns (symbol_by k t.text)) (fs, gss)) is
names_before Bin t ns (fs, gss) is = ap (λ k. names_left (with_name ns (symbol_by k t.text)) (fs, gss)) is
names_before Text t ns (fs, gss) is = ap (λ k. names_left (with_name ns (symbol_by k t.text)) (fs, gss)) is
names_before Word t ns (fs, gss) is = ap (λ k. names_left (with_name ns (symbol_by k t.text)) (fs, gss)) is
names_before Quoted t ns (fs, gss) is = ap (λ k. names_left (with_name ns (symbol_by k t.text)) (fs, gss)) is
names_before Keyword t ns (fs, gss) is = ap (λ k. names_left (with_name ns (symbol_by k t.text)) (fs, gss)) is

module _ (ts : List Token) (i : ℕ) (within : i < length ts) where
  pub names_next : (ns : List Name) → names_left ns (rest_at ts i) ≡ names_left (with_name ns (symbol_of (token_at ts i))) (rest_at ts (i + 1))
  names_next ns = ap (λ us. names_left ns (rest us)) (drop_more ts i no_token within) ∙ names_before (token_at ts i).item (token_at ts i) ns (rest_at ts (i + 1)) refl

pub names_at_end : (ts : List Token) (i : ℕ) (ns : List Name) → length ts ≤ i → names_left ns (rest_at ts i) ≡ ns
names_at_end ts i ns past = ap (λ us. names_left ns (rest us)) (drop_all i ts past)

pub names_at_start : (ts : List Token) (ns : List Name) → IsBalanced ts → names_left ns (rest_at ts 0) ≡ names_with_all ns (forms_from ts 0)
unfolding forms_from
names_at_start ts ns matched = ap (names_around (names_with_all ns (rest ts).0)) (empty_list (rest ts).1 (around_open ts 0 matched))

-- ---- the set that the code holds

among_drawn : (ns : List Name) (n : Name) → begins_as_drawn n ≡ true → name_among (drawn_among ns) n ≡ name_among ns n
among_drawn [] n drawn = refl
among_drawn (m ∷ ns) n drawn = by (begins_as_drawn m) refl (among_drawn ns n drawn)
  where
    apart : (b : Bool) → name_eq m n ≡ b → begins_as_drawn m ≡ false → b ≡ false
    apart true e not_drawn = absurd (true≢false (sym drawn ∙ ap begins_as_drawn (sym (name_same m n e)) ∙ not_drawn))
    apart false e not_drawn = refl

    by : (b : Bool) → begins_as_drawn m ≡ b → name_among (drawn_among ns) n ≡ name_among ns n
        → name_among (cond b (m ∷ drawn_among ns) (drawn_among ns)) n ≡ (name_eq m n || name_among ns n)
    by true e below = ap (λ b. name_eq m n || b) below
    by false e below = below ∙ sym (ap (λ b. b || name_among ns n) (apart (name_eq m n) refl e))

pub drawn_agree : (ns : List Name) → AgreeOnNumbered (drawn_among ns) ns
drawn_agree ns i = among_drawn ns (numbered_name i) refl

drawn_with : (ns : List Name) (n : Name) → begins_as_drawn n ≡ true → (there : Bool)
    → cond there (drawn_among ns) (drawn_among ns ++ n ∷ []) ≡ drawn_among (cond there ns (ns ++ n ∷ []))
drawn_with ns n drawn true = refl
drawn_with ns n drawn false = sym (filter-append begins_as_drawn ns (n ∷ []) ∙ ap (λ b. drawn_among ns ++ cond b (n ∷ []) []) drawn)

pub name_kept : (old new : List Name) (n : Name) → begins_as_drawn n ≡ true → new ≡ with_name_held old n → KeepsWith old (Some n) new
name_kept old new n drawn is ns held =
    is ∙ ap (λ ks. with_name_held ks n) held
    ∙ ap (λ b. cond b (drawn_among ns) (drawn_among ns ++ n ∷ [])) (among_drawn ns n drawn ∙ sym (among_alike ns n)) ∙ drawn_with ns n drawn (is_among ns n)

pub word_kept : (old new : List Name) (n : Name) (reserved : Bool) → reserved ≡ false → KeepsWith old (Some n) new → KeepsWith old (if reserved then None else Some n) new
word_kept old new n reserved is kept = rw is kept

-- ---- each symbol of the text is among its names

kept_around : (gss : List Forms) (ns : List Name) (n : Name) → name_among ns n ≡ true → name_among (names_around ns gss) n ≡ true
kept_around [] ns n among = among
kept_around (fs ∷ gss) ns n among = kept_around gss (names_with_all ns fs) n (kept_by_forms fs ns n among)

kept_left : (r : Forms × List Forms) (ns : List Name) (n : Name) → name_among ns n ≡ true → name_among (names_left ns r) n ≡ true
kept_left r ns n among = kept_around r.1 (names_with_all ns r.0) n (kept_by_forms r.0 ns n among)

-- what holds of no names, and of names with each symbol of the text if it holds of them
module _ (ts : List Token) (P : List Name → Type 0) (empty : P []) (next : (i : ℕ) → i < length ts → (ns : List Name) → P ns → P (with_name ns (symbol_of (token_at ts i)))) where
  names_before_token : (i : ℕ) → i ≤ length ts → (ns : List Name) × P ns × (names_left [] (rest_at ts 0) ≡ names_left ns (rest_at ts i))
  names_before_token zero within = ([], empty, refl)
  names_before_token (suc i) within =
      let (ns, holds, same) = names_before_token i (omega arith) in
      let behind : i + 1 ≡ suc i = omega arith in
      let more = with_name ns (symbol_of (token_at ts i)) in
      (more, next i (omega arith) ns holds, same ∙ names_next ts i (omega arith) ns ∙ ap (λ k. names_left more (rest_at ts k)) behind)

  pub holds_of_names : IsBalanced ts → P (names_with_all [] (forms_from ts 0))
  holds_of_names matched =
      let (ns, holds, same) = names_before_token (length ts) (omega arith) in
      subst P (sym (names_at_end ts (length ts) ns (omega arith)) ∙ sym same ∙ names_at_start ts [] matched) holds

symbol_among : (ts : List Token) (i : ℕ) (n : Name) → IsBalanced ts → i < length ts → symbol_of (token_at ts i) ≡ Some n → name_among (names_with_all [] (forms_from ts 0)) n ≡ true
symbol_among ts i n matched within symbol =
    let (ns, _, same) = names_before_token ts (λ _. ⊤) tt (λ _ _ _ _. tt) i (omega arith) in
    let here : names_left [] (rest_at ts 0) ≡ names_left (with_name ns (Some n)) (rest_at ts (i + 1)) = same ∙ names_next ts i within ns ∙ ap (λ o. names_left (with_name ns o) (rest_at ts (i + 1))) symbol in
    ap (λ ms. name_among ms n) (sym (names_at_start ts [] matched) ∙ here) ∙ kept_left (rest_at ts (i + 1)) (with_name ns (Some n)) n (among_new ns n)

pub text_spared : (ts : List Token) (supply : Supply) → IsBalanced ts → supply.taken ≡ names_with_all [] (forms_from ts 0) → SparesText ts supply
text_spared ts supply matched taken i n within symbol = λ j from is. ap (λ ms. name_among ms n) taken ∙ symbol_among ts i n matched within symbol
