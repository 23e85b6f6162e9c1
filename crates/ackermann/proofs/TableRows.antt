-- The rows of the applications of a function: which are kept, that no keys come twice, and which one is found.
use Rattle.std.proofs.Common.{◌≡◌, Bool, true, false, not, cond, ◌||◌, List, [], ◌∷◌, ◌++◌, All, refl, ap, sym, ◌∙◌, subst}
use Rattle.std.specs.List.{list_any, flat_map}
use Rattle.std.proofs.lemmas.List.Elements.{All-nil, All-cons, All-head, All-tail, All-push, All-weaker}
use Rattle.smt_terms.specs.Equal.{symbol_eq}
use Rattle.smt_terms.specs.Groups.{Named, with_constants_each}
use Rattle.smt_terms.specs.Models.{Row, row_value, Model, distinct_rows}
use Rattle.smt_terms.specs.Sorts.{Sort, Symbol}
use Rattle.smt_terms.specs.Term.{op, symbol, const_array, Term, apply, quantified, Terms, constant}
use Rattle.smt_terms.specs.Val.{no_variables, val, vals}
use Rattle.smt_terms.specs.Values.{Value, Sizes, same, all_same, are_values, is_value}
use Rattle.smt_terms.proofs.Equal.{Decides-symbol_eq}
use Rattle.smt_terms.proofs.Same.{same-itself, same-back}
use Rattle.smt_terms.proofs.Tests.{both_true, and_true, left_true, right_true, or_false, both_false, not_true}
use Rattle.ackermann.specs.Tables.{application_row, with_row, with_rows}
use Rattle.ackermann.proofs.UseLists.{All-flat_map}

-- ---- keys that are the same

pub keys-itself : (ss : List Sort) (sizes : Sizes) (vs : List Value) → are_values ss sizes vs ≡ true → all_same ss sizes vs vs ≡ true
keys-itself [] sizes [] valid = refl
keys-itself [] sizes (v ∷ vs) valid = absurd cc
keys-itself (s ∷ ss) sizes [] valid = absurd cc
keys-itself (s ∷ ss) sizes (v ∷ vs) valid =
    and_true (same s sizes v v) (all_same ss sizes vs vs) (same-itself s sizes v) (keys-itself ss sizes vs (both_true (is_value s sizes v) (are_values ss sizes vs) valid).1)

pub keys-back : (ss : List Sort) (sizes : Sizes) (vs ws : List Value) → all_same ss sizes vs ws ≡ true → all_same ss sizes ws vs ≡ true
keys-back [] sizes [] [] alike = refl
keys-back [] sizes [] (w ∷ ws) alike = absurd cc
keys-back [] sizes (v ∷ vs) ws alike = absurd cc
keys-back (s ∷ ss) sizes [] ws alike = absurd cc
keys-back (s ∷ ss) sizes (v ∷ vs) [] alike = absurd cc
keys-back (s ∷ ss) sizes (v ∷ vs) (w ∷ ws) alike =
    let parts = both_true (same s sizes v w) (all_same ss sizes vs ws) alike in
    and_true (same s sizes w v) (all_same ss sizes ws vs) (same-back s sizes v w parts.0) (keys-back ss sizes vs ws parts.1)

-- ---- one row more at the end

any-append : (p : Row → Bool) (rows more : List Row) → list_any p (rows ++ more) ≡ (list_any p rows || list_any p more)
any-append p [] more = refl
any-append p (r ∷ rows) more = ap (λ b. p r || b) (any-append p rows more) ∙ grouped (p r) (list_any p rows) (list_any p more)
  where
    grouped : (a b c : Bool) → (a || (b || c)) ≡ ((a || b) || c)
    grouped true b c = refl
    grouped false b c = refl

-- ---- the rows that are kept

module _ (args : List Sort) (sizes : Sizes) where
  abbrev pub alike : Row → Row → Bool
  alike q r = all_same args sizes q.keys r.keys

  distinct_push : (rows : List Row) (r : Row) → distinct_rows args sizes rows ≡ true → list_any (λ q. alike q r) rows ≡ false → distinct_rows args sizes (rows ++ r ∷ []) ≡ true
  distinct_push [] r distinct new = refl
  distinct_push (x ∷ rows) r distinct new =
      let parts = both_true (not (list_any (alike x) rows)) (distinct_rows args sizes rows) distinct in
      let others = both_false (alike x r) (list_any (λ q. alike q r) rows) new in
      and_true (not (list_any (alike x) (rows ++ r ∷ []))) (distinct_rows args sizes (rows ++ r ∷ []))
      (ap not (any-append (alike x) rows (r ∷ []) ∙ or_false (list_any (alike x) rows) (alike x r || false) (not_true (list_any (alike x) rows) parts.0) (or_false (alike x r) false others.0 refl)))
      (distinct_push rows r parts.1 others.1)

  -- what holds of the rows and of the rows with one more, where its keys are new
  row_either : (P : List Row → Type 0) (rows : List Row) (r : Row) → P rows → (list_any (λ q. alike q r) rows ≡ false → P (rows ++ r ∷ [])) → P (with_row args sizes rows r)
  row_either P rows r kept added = go (list_any (λ q. alike q r) rows) refl
    where
      go : (b : Bool) → list_any (λ q. alike q r) rows ≡ b → P (cond b rows (rows ++ r ∷ []))
      go true e = kept
      go false e = added e

  pub rows_distinct : (rows more : List Row) → distinct_rows args sizes rows ≡ true → distinct_rows args sizes (with_rows args sizes rows more) ≡ true
  rows_distinct rows [] distinct = distinct
  rows_distinct rows (r ∷ more) distinct =
      rows_distinct (with_row args sizes rows r) more
      (row_either (λ qs. distinct_rows args sizes qs ≡ true) rows r distinct (λ new. distinct_push rows r distinct new))

  pub rows_all : (P : Row → Type 0) (rows more : List Row) → All P rows → All P more → All P (with_rows args sizes rows more)
  rows_all P rows [] all others = all
  rows_all P rows (r ∷ more) all others =
      rows_all P (with_row args sizes rows r) more
      (row_either (All P) rows r all (λ new. All-push P rows r all (All-head P r more others))) (All-tail P r more others)

  any_stays : (p : Row → Bool) (rows more : List Row) → list_any p rows ≡ true → list_any p (with_rows args sizes rows more) ≡ true
  any_stays p rows [] there = there
  any_stays p rows (r ∷ more) there =
      any_stays p (with_row args sizes rows r) more
      (row_either (λ qs. list_any p qs ≡ true) rows r there (λ new. any-append p rows (r ∷ []) ∙ left_true (list_any p rows) (list_any p (r ∷ [])) there))

  any_there : (rows : List Row) (r : Row) → are_values args sizes r.keys ≡ true → list_any (λ q. alike q r) (with_row args sizes rows r) ≡ true
  any_there rows r valid = go (list_any (λ q. alike q r) rows) refl
    where
      go : (b : Bool) → list_any (λ q. alike q r) rows ≡ b → list_any (λ q. alike q r) (cond b rows (rows ++ r ∷ [])) ≡ true
      go true e = e
      go false e = any-append (λ q. alike q r) rows (r ∷ []) ∙ right_true (list_any (λ q. alike q r) rows) (alike r r || false) (left_true (alike r r) false (keys-itself args sizes r.keys valid))

  -- each row that came has its keys among the rows that are kept
  pub rows_found : (rows more : List Row) → All (λ r. are_values args sizes r.keys ≡ true) more → All (λ r. list_any (λ q. alike q r) (with_rows args sizes rows more) ≡ true) more
  rows_found rows [] valid = All-nil (λ r. list_any (λ q. alike q r) rows ≡ true)
  rows_found rows (r ∷ more) valid =
      All-cons (λ x. list_any (λ q. alike q x) (with_rows args sizes rows (r ∷ more)) ≡ true) r more
      (any_stays (λ q. alike q r) (with_row args sizes rows r) more (any_there rows r (All-head (λ x. are_values args sizes x.keys ≡ true) r more valid)))
      (rows_found (with_row args sizes rows r) more (All-tail (λ x. are_values args sizes x.keys ≡ true) r more valid))

-- ---- the row that is found

pub row-found : (fits : Row → Bool) (Q : Value → Type 0) (rows : List Row) (otherwise : Value) → list_any fits rows ≡ true → All (λ r. fits r ≡ true → Q r.result) rows → Q (row_value fits rows otherwise)
row-found fits Q [] otherwise there all = absurd cc
row-found fits Q (r ∷ rows) otherwise there all =
    go (fits r) refl there (λ behind. row-found fits Q rows otherwise behind (All-tail (λ x. fits x ≡ true → Q x.result) r rows all))
  where
    go : (b : Bool) → fits r ≡ b → (b || list_any fits rows) ≡ true → (list_any fits rows ≡ true → Q (row_value fits rows otherwise)) → Q (cond b r.result (row_value fits rows otherwise))
    go true e there behind = All-head (λ x. fits x ≡ true → Q x.result) r rows all e
    go false e there behind = behind there

-- ---- the rows of the applications of a function

module _ (m : Model) (ns : Named) (f : Symbol) where
  abbrev pub row_of : Symbol → Terms → Row
  row_of v ts = record { keys = vals m (with_constants_each ns ts) no_variables; result = val m (constant v) no_variables }

  abbrev pub all_rows : List Row
  all_rows = flat_map (λ n. application_row m ns f n.0 n.1) ns

  one_row : (P : Row → Type 0) (b : Bool) (r : Row) → (b ≡ true → P r) → All P (cond b (r ∷ []) [])
  one_row P true r holds = All-cons P r [] (holds refl) (All-nil P)
  one_row P false r holds = All-nil P

  rows_at : (P : Row → Type 0) (Good : Symbol × Term → Type 0) → ((v : Symbol) (ts : Terms) → Good (v, apply (symbol f) ts) → P (row_of v ts)) → (v : Symbol) (t : Term) → Good (v, t) → All P (application_row m ns f v t)
  rows_at P Good gives v (quantified q xs t) good = All-nil P
  rows_at P Good gives v (apply (op o) ts) good = All-nil P
  rows_at P Good gives v (apply (const_array s) ts) good = All-nil P
  rows_at P Good gives v (apply (symbol g) ts) good =
      one_row P (symbol_eq f g) (row_of v ts) (λ same. gives v ts (subst (λ k. Good (v, apply (symbol k) ts)) (sym ((Decides-symbol_eq f g).0 same)) good))

  -- what holds of the row of each application of f
  pub all-rows : (P : Row → Type 0) (Good : Symbol × Term → Type 0) → ((v : Symbol) (ts : Terms) → Good (v, apply (symbol f) ts) → P (row_of v ts)) → All Good ns → All P all_rows
  all-rows P Good gives all =
      All-flat_map P (λ n. application_row m ns f n.0 n.1) ns
      (All-weaker Good (λ n. All P (application_row m ns f n.0 n.1)) (λ n good. rows_at P Good gives n.0 n.1 good) ns all)
