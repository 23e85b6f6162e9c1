-- Names of which no two are alike, with one more.
use Rattle.std.proofs.Common.{◌≡◌, true, false, not, List, [], ◌∷◌, ◌++◌, refl, ap, ◌∙◌}
use Rattle.smt_lex.specs.Names.{is_among}
use Rattle.smt_terms.specs.Equal.{name_eq}
use Rattle.smt_terms.specs.Sorts.{Name}
use Rattle.smt_terms.proofs.Equal.{name_itself, names_differ}
use Rattle.smt_terms.proofs.Tests.{both_true, and_true, both_false, or_false, not_true, contrary}
use Rattle.model_texts.specs.Proper.{are_distinct}

not_last : (ns : List Name) (m n : Name) → is_among ns m ≡ false → name_eq m n ≡ false → is_among (ns ++ n ∷ []) m ≡ false
not_last [] m n other apart = or_false (name_eq m n) false apart refl
not_last (k ∷ ns) m n other apart =
    let parts = both_false (name_eq m k) (is_among ns m) other in
    or_false (name_eq m k) (is_among (ns ++ n ∷ []) m) parts.0 (not_last ns m n parts.1 apart)

pub distinct_with : (ns : List Name) (n : Name) → are_distinct ns ≡ true → is_among ns n ≡ false → are_distinct (ns ++ n ∷ []) ≡ true
distinct_with [] n distinct other = refl
distinct_with (m ∷ ns) n distinct other =
    let a = both_true (not (is_among ns m)) (are_distinct ns) distinct in
    let b = both_false (name_eq n m) (is_among ns n) other in
    let apart : name_eq m n ≡ false = names_differ m n (λ same. contrary (name_eq n m) (ap (name_eq n) same ∙ name_itself n) b.0) in
    and_true (not (is_among (ns ++ n ∷ []) m)) (are_distinct (ns ++ n ∷ [])) (ap not (not_last ns m n (not_true (is_among ns m) a.0) apart)) (distinct_with ns n a.1 b.1)
