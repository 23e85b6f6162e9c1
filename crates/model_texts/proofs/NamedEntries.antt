-- Maps from names, as lists of names with what stands at them.
use Rattle.std.proofs.Common.{◌≡◌, ◌∙◌, sym, ap, refl, ℕ, zero, suc, ◌+◌, Bool, true, false, cond, not, nat_lt, if◌then◌else◌, ◌||◌, List, [], ◌∷◌, map, length, position, slice_get, Option, Some, None, is_some, true≢false, arith}
use Rattle.std.specs.Prelude.{option_map}
use Rattle.std.specs.Borrow.{Bor}
use Rattle.std.specs.List.{position_or_len, AllByRecursion, IsDistinct}
use Rattle.std.specs.Map.{lookup, keys_of}
use Rattle.std.specs.Str.{bytes_eq}
use Rattle.std.proofs.lemmas.Bool.Decides.{nat_tests}
use Rattle.indexmap.specs.IndexMap.{insert_entry}
use Rattle.smt_lex.specs.Names.{is_among}
use Rattle.smt_terms.specs.Equal.{name_eq}
use Rattle.smt_terms.specs.Sorts.{Name}
use Rattle.smt_terms.proofs.Equal.{name_same}
use Rattle.smt_terms.proofs.Tests.{and_true, or_false, contrary}
use Rattle.model_texts.specs.GivenParameters.{place_named}
use Rattle.model_texts.specs.Proper.{are_distinct}
use Rattle.model_texts.specs.SignatureNames.{by_name, at_name}
use Rattle.model_texts.proofs.MetNames.{turned}

abbrev pub same_key : Bor (List ℕ) → Bor (List ℕ) → Bool
same_key a b = bytes_eq a.now b.now

pub looked_up : {A : Type 0} (es : List (Bor (List ℕ) × A)) (n : Name) → at_name (by_name es) n ≡ lookup (λ k. bytes_eq n k.now) es
looked_up [] n = refl
looked_up (e ∷ es) n = by (bytes_eq n e.0.now) (looked_up es n)
  where
    by : (b : Bool) → at_name (by_name es) n ≡ lookup (λ k. bytes_eq n k.now) es → (if b then Some e.1 else at_name (by_name es) n) ≡ cond b (Some e.1) (lookup (λ k. bytes_eq n k.now) es)
    by true rest = refl
    by false rest = rest

-- a name that is put in is found, and each other one as before
pub put_in : {A : Type 0} (es : List (Bor (List ℕ) × A)) (k : Bor (List ℕ)) (v : A) (n : Name)
    → at_name (by_name (insert_entry same_key es k v)) n ≡ (if name_eq n k.now then Some v else at_name (by_name es) n)
put_in [] k v n = refl
put_in {A = A} (e ∷ es) k v n = by (bytes_eq k.now e.0.now) refl (put_in es k v n)
  where
    behind : Option A
    behind = at_name (by_name es) n

    here : (b : Bool) → (if b then Some v else behind) ≡ (if b then Some v else (if b then Some e.1 else behind))
    here true = refl
    here false = refl

    there : (b c : Bool) → (b ≡ true → c ≡ true → ⊥) → (if b then Some e.1 else (if c then Some v else behind)) ≡ (if c then Some v else (if b then Some e.1 else behind))
    there true true apart = absurd (apart refl refl)
    there true false apart = refl
    there false true apart = refl
    there false false apart = refl

    by : (b : Bool) → bytes_eq k.now e.0.now ≡ b → at_name (by_name (insert_entry same_key es k v)) n ≡ (if name_eq n k.now then Some v else behind)
        → at_name (by_name (if b then (e.0, v) ∷ es else e ∷ insert_entry same_key es k v)) n ≡ (if name_eq n k.now then Some v else (if name_eq n e.0.now then Some e.1 else behind))
    by true same rest =
        let is : k.now ≡ e.0.now = name_same k.now e.0.now same in
        here (name_eq n e.0.now) ∙ ap (λ m. if name_eq n m then Some v else (if name_eq n e.0.now then Some e.1 else behind)) (sym is)
    by false other rest =
        ap (λ o. if name_eq n e.0.now then Some e.1 else o) rest
        ∙ there (name_eq n e.0.now) (name_eq n k.now) (λ p q.
        contrary (bytes_eq k.now e.0.now) (ap (λ m. name_eq m e.0.now) (sym (name_same n k.now q)) ∙ p) other)

-- ---- places of names

first_place : (l : ℕ) → cond {A = Option ℕ} (nat_lt 0 (suc l)) (Some 0) None ≡ Some 0
first_place l = let less : nat_lt 0 (suc l) ≡ true = grind (arith, nat_tests) in ap (λ b. cond {A = Option ℕ} b (Some 0) None) less

next_place : (k l : ℕ) → cond (nat_lt (1 + k) (suc l)) (Some (1 + k)) None ≡ option_map suc (cond (nat_lt k l) (Some k) None)
next_place k l = by (nat_lt k l) refl
  where
    by : (b : Bool) → nat_lt k l ≡ b → cond (nat_lt (1 + k) (suc l)) (Some (1 + k)) None ≡ option_map suc (cond b (Some k) None)
    by true e = let less : nat_lt (1 + k) (suc l) ≡ true = grind (arith, nat_tests, e) in let next : 1 + k ≡ suc k = omega arith in ap (λ b. cond b (Some (1 + k)) None) less ∙ ap Some next
    by false e = let less : nat_lt (1 + k) (suc l) ≡ false = grind (arith, nat_tests, e) in ap (λ b. cond b (Some (1 + k)) None) less

pub placed_by_name : (es : List (Bor (List ℕ) × ℕ)) (n : Name) → position (λ k. bytes_eq n k.now) (keys_of es) ≡ place_named (by_name es) n
placed_by_name [] n = refl
placed_by_name (e ∷ es) n =
    ap (λ (b : Bool). cond (nat_lt (cond (not b) (1 + behind) 0) (suc (length (keys_of es)))) (Some (cond (not b) (1 + behind) 0)) None) (turned n e.0.now)
    ∙ by (name_eq e.0.now n) (placed_by_name es n)
  where
    behind : ℕ
    behind = position_or_len (λ (k : Bor (List ℕ)). bytes_eq n k.now) (keys_of es)

    by : (b : Bool) → position (λ k. bytes_eq n k.now) (keys_of es) ≡ place_named (by_name es) n
        → cond (nat_lt (cond (not b) (1 + behind) 0) (suc (length (keys_of es)))) (Some (cond (not b) (1 + behind) 0)) None ≡ (if b then Some 0 else option_map suc (place_named (by_name es) n))
    by true rest = first_place (length (keys_of es))
    by false rest = next_place behind (length (keys_of es)) ∙ ap (option_map suc) rest

-- ---- names of which no two are alike

pub among_by_name : {A : Type 0} (es : List (Bor (List ℕ) × A)) (n : Name) → is_among (map (λ p. p.0) (by_name es)) n ≡ is_some (lookup (λ k. bytes_eq n k.now) es)
among_by_name [] n = refl
among_by_name (e ∷ es) n = by (bytes_eq n e.0.now) (among_by_name es n)
  where
    by : (b : Bool) → is_among (map (λ p. p.0) (by_name es)) n ≡ is_some (lookup (λ k. bytes_eq n k.now) es)
        → (b || is_among (map (λ p. p.0) (by_name es)) n) ≡ is_some (cond b (Some e.1) (lookup (λ k. bytes_eq n k.now) es))
    by true rest = refl
    by false rest = rest

none_among : {A : Type 0} (es : List (Bor (List ℕ) × A)) (k : Bor (List ℕ)) → AllByRecursion (λ j. same_key k j ≡ false) (keys_of es) → is_among (map (λ p. p.0) (by_name es)) k.now ≡ false
none_among [] k apart = refl
none_among (e ∷ es) k apart = or_false (name_eq k.now e.0.now) (is_among (map (λ p. p.0) (by_name es)) k.now) apart.0 (none_among es k apart.1)

pub distinct_by_name : {A : Type 0} (es : List (Bor (List ℕ) × A)) → IsDistinct same_key (keys_of es) → are_distinct (map (λ p. p.0) (by_name es)) ≡ true
unfolding IsDistinct
distinct_by_name [] apart = refl
distinct_by_name (e ∷ es) apart =
    and_true (not (is_among (map (λ p. p.0) (by_name es)) e.0.now)) (are_distinct (map (λ p. p.0) (by_name es)))
    (ap not (none_among es e.0 apart.0)) (distinct_by_name es apart.1)

-- ---- lengths and entries

pub length_by_name : {A : Type 0} (es : List (Bor (List ℕ) × A)) → length (by_name es) ≡ length es
length_by_name [] = refl
length_by_name (e ∷ es) = ap suc (length_by_name es)

pub got_by_name : {A : Type 0} (es : List (Bor (List ℕ) × A)) (i : ℕ) → slice_get (by_name es) i ≡ option_map (λ e. (e.0.now, e.1)) (slice_get es i)
got_by_name [] i = refl
got_by_name (e ∷ es) zero = refl
got_by_name (e ∷ es) (suc i) = got_by_name es i

pub none_from : {A : Type 0} {o p : Option A} → p ≡ o → is_some o ≡ false → p ≡ None
none_from {o = None} same h = same
none_from {o = Some x} same h = absurd (true≢false h)
