-- Indices of heads: those that are greater than they may be, and how many an operator takes.
use Rattle.std.proofs.Common.{◌≡◌, ◌≢◌, ℕ, ◌-◌, ◌<◌, ◌≤◌, ◌^◌, Bool, true, false, List, [], ◌∷◌, ◌++◌, map, length, All, Option, Some, None, option_map, Ok, refl, ap, sym, ◌∙◌, arith, append_assoc, append-nil, if◌then◌else◌}
use Rattle.std.specs.Prelude.{nat_lt, unwrap_or}
use Rattle.std.specs.Option.{option_or}
use Rattle.std.proofs.lemmas.Bool.{ltb-false}
use Rattle.std.proofs.lemmas.List.{map-append}
use Rattle.std.proofs.lemmas.List.Elements.{All-nil, All-cons}
use Rattle.smt_lex.specs.Forms.{Form, Forms, none, ◌⨾◌}
use Rattle.smt_terms.specs.Written.{Written, Indexed, without_index, with_index, with_indices, at_indices}
use Rattle.sort_check.specs.Forms.{index_count}
use Rattle.script_terms.specs.declared.causes.Cause.TheVariants.{NumberLimit}
use Rattle.script_terms.specs.Heads.{Callee, indices_within}
use Rattle.script_terms.specs.declared.terms.indices.Indices.{Indices}
use Rattle.script_terms.specs.HeadClauses.{beyond_in, ReadsIndices}
use Rattle.script_terms.specs.Parts.{place_of, numeral_in, numerals_in, numerals_with, greatest_number}
use Rattle.script_terms.specs.Places.{capped}
use Rattle.script_terms.specs.Refusals.{at, unless}

-- ---- one numeral

pub capped_small : (n : ℕ) → nat_lt greatest_number n ≡ false → (capped n ≡ n) × (n < 2 ^ 127)
capped_small n small =
    let most : n ≤ 2 ^ 127 - 1 = ltb-false greatest_number n small in
    (omega (arith, most), omega (arith, most))

pub capped_numeral : (o : Option ℕ) (v : ℕ) → option_map capped o ≡ Some v → (n : ℕ) × (o ≡ Some n) × (capped n ≡ v)
capped_numeral None v is = absurd cc
capped_numeral (Some n) v is = (n, refl, cc)

-- ---- the first beyond

pub within_limit : (fs : Forms) (c : Callee) → beyond_in fs ≡ None → indices_within fs c ≡ Ok c
within_limit none c is = refl
within_limit (f ⨾ fs) c is = by (nat_lt greatest_number (unwrap_or (numeral_in f) 0)) is (within_limit fs c)
  where
    by : (b : Bool) → (if b then Some (place_of f) else beyond_in fs) ≡ None → (beyond_in fs ≡ None → indices_within fs c ≡ Ok c) → unless b NumberLimit (place_of f) (indices_within fs c) ≡ Ok c
    by true here below = absurd cc
    by false here below = below here

pub beyond_limit : (fs : Forms) (c : Callee) (place : ℕ) → beyond_in fs ≡ Some place → indices_within fs c ≡ at NumberLimit place
beyond_limit none c place is = absurd cc
beyond_limit (f ⨾ fs) c place is = by (nat_lt greatest_number (unwrap_or (numeral_in f) 0)) is (beyond_limit fs c place)
  where
    by : (b : Bool) → (if b then Some (place_of f) else beyond_in fs) ≡ Some place → (beyond_in fs ≡ Some place → indices_within fs c ≡ at NumberLimit place) → unless b NumberLimit (place_of f) (indices_within fs c) ≡ at NumberLimit place
    by true here below = let same : place_of f ≡ place = cc in ap (λ p. at NumberLimit p) same
    by false here below = below here

pub one_more_place : (o : Option ℕ) (fs gs : Forms) (f : Form) → fs ≡ f ⨾ gs → option_or o (beyond_in fs) ≡ option_or (option_or o (beyond_in (f ⨾ none))) (beyond_in gs)
one_more_place o fs gs f forms = ap (λ hs. option_or o (beyond_in hs)) forms ∙ by o (nat_lt greatest_number (unwrap_or (numeral_in f) 0))
  where
    by : (p : Option ℕ) (b : Bool) → option_or p (if b then Some (place_of f) else beyond_in gs) ≡ option_or (option_or p (if b then Some (place_of f) else None)) (beyond_in gs)
    by None true = refl
    by None false = refl
    by (Some place) b = refl

pub no_more_places : (o : Option ℕ) (fs : Forms) → fs ≡ none → option_or o (beyond_in fs) ≡ o
no_more_places o fs forms = ap (λ hs. option_or o (beyond_in hs)) forms ∙ by o
  where
    by : (p : Option ℕ) → option_or p None ≡ p
    by None = refl
    by (Some place) = refl

-- ---- lists of numerals

pub numerals_parts : (o : Option ℕ) (p : Option (List ℕ)) (ns : List ℕ) → numerals_with o p ≡ Some ns → (n : ℕ) × (ms : List ℕ) × (o ≡ Some n) × (p ≡ Some ms) × (ns ≡ n ∷ ms)
numerals_parts None p ns is = absurd cc
numerals_parts (Some n) None ns is = absurd cc
numerals_parts (Some n) (Some ms) ns is = (n, ms, refl, refl, cc)

pub values_within : (fs : Forms) (ns : List ℕ) → numerals_in fs ≡ Some ns → beyond_in fs ≡ None → (map capped ns ≡ ns) × All (λ i. i < 2 ^ 127) ns
values_within none ns are few =
    let empty : ns ≡ [] = cc in
    rw empty (refl, All-nil (λ i. i < 2 ^ 127))
values_within (f ⨾ fs) ns are few =
    let parts = numerals_parts (numeral_in f) (numerals_in fs) ns are in
    rw parts.4 (by (nat_lt greatest_number (unwrap_or (numeral_in f) 0)) refl few parts.0 parts.1 parts.2 (values_within fs parts.1 parts.3))
  where
    by : (b : Bool) → nat_lt greatest_number (unwrap_or (numeral_in f) 0) ≡ b → (if b then Some (place_of f) else beyond_in fs) ≡ None → (n : ℕ) (ms : List ℕ) → numeral_in f ≡ Some n → (beyond_in fs ≡ None → (map capped ms ≡ ms) × All (λ i. i < 2 ^ 127) ms) → (map capped (n ∷ ms) ≡ n ∷ ms) × All (λ i. i < 2 ^ 127) (n ∷ ms)
    by true e here n ms is below = absurd cc
    by false e here n ms is below =
        let small = capped_small n (ap (λ o. nat_lt greatest_number (unwrap_or o 0)) (sym is) ∙ e) in
        let rest = below here in
        ((λ i. small.0 i ∷ rest.0 i), All-cons (λ i. i < 2 ^ 127) n ms small.1 rest.1)

next_joined : (ns : List ℕ) (n : ℕ) (o : Option (List ℕ)) → option_map (λ ms. ns ++ ms) (numerals_with (Some n) o) ≡ option_map (λ ms. (ns ++ n ∷ []) ++ ms) o
next_joined ns n None = refl
next_joined ns n (Some ms) = ap Some (sym (append_assoc ns (n ∷ []) ms))

pub one_more_numeral : (ns : List ℕ) (fs gs : Forms) (f : Form) (n : ℕ) → fs ≡ f ⨾ gs → numeral_in f ≡ Some n → option_map (λ ms. ns ++ ms) (numerals_in fs) ≡ option_map (λ ms. (ns ++ n ∷ []) ++ ms) (numerals_in gs)
one_more_numeral ns fs gs f n forms is =
    ap (λ hs. option_map (λ ms. ns ++ ms) (numerals_in hs)) forms
    ∙ ap (λ o. option_map (λ ms. ns ++ ms) (numerals_with o (numerals_in gs))) is
    ∙ next_joined ns n (numerals_in gs)

pub all_numerals : (ns : List ℕ) (fs : Forms) → fs ≡ none → option_map (λ ms. ns ++ ms) (numerals_in fs) ≡ Some ns
all_numerals ns fs forms = ap (λ hs. option_map (λ ms. ns ++ ms) (numerals_in hs)) forms ∙ ap Some (append-nil ns)

-- ---- how many indices an operator takes

pub as_many_indices : (o : Indexed) (ns : List ℕ) → length ns ≡ index_count o → (w : Written) × (at_indices o ns ≡ Some w)
as_many_indices (without_index w) [] same = (w, refl)
as_many_indices (without_index w) (n ∷ ns) same = absurd (omega (arith, same))
as_many_indices (with_index w) [] same = absurd (omega (arith, same))
as_many_indices (with_index w) (n ∷ []) same = (w n, refl)
as_many_indices (with_index w) (n ∷ m ∷ ns) same = absurd (omega (arith, same))
as_many_indices (with_indices w) [] same = absurd (omega (arith, same))
as_many_indices (with_indices w) (n ∷ []) same = absurd (omega (arith, same))
as_many_indices (with_indices w) (n ∷ m ∷ []) same = (w n m, refl)
as_many_indices (with_indices w) (n ∷ m ∷ k ∷ ns) same = absurd (omega (arith, same))

-- ---- the indices as the code keeps them

pub one_more_value : (vs us ns : List ℕ) (v n : ℕ) → us ≡ map capped ns → vs ≡ us ++ v ∷ [] → capped n ≡ v → vs ≡ map capped (ns ++ n ∷ [])
one_more_value vs us ns v n are pushed is =
    pushed ∙ (λ i. are i ++ sym is i ∷ []) ∙ sym (map-append capped ns (n ∷ []))

pub one_or_more : (fs : Forms) (x : Indices) (ns : List ℕ) → numerals_in fs ≡ Some ns → x.values.items ≡ map capped ns → x.beyond ≡ beyond_in fs → length x.values.items ≢ 0 → ReadsIndices fs (Some x)
one_or_more fs x [] numerals values beyond some = absurd (some (ap length values))
one_or_more fs x (n ∷ ns) numerals values beyond some = (n, ns, record { numerals = numerals; values = values; beyond = beyond })
