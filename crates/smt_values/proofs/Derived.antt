-- The comparison that the derive of the sort table's rows wrote.
use Rattle.std.proofs.Common.{◌≡◌, ℕ, ◌+◌, ◌<◌, Bool, true, List, length, ap, ◌==◌}
use Rattle.std.proofs.lemmas.Bool.Decides.{Decides-eqb}
use Rattle.std.proofs.lemmas.Slice.Eq.{bytes_eq-Decides}
use Rattle.smt_terms.specs.Sorts.{Sort, array, free_sort}
use Rattle.smt_terms.proofs.Tests.{both_true, and_true}
use Rattle.smt_values.specs.Compounds.{compound_sort, IsBelow}
use Rattle.smt_values.specs.SortIds.{sort_numbered}
use Rattle.smt_values.specs.declared.sort_table.Compound.{Compound}
use Rattle.smt_values.specs.declared.sort_table.Compound.TheVariants.{Array, Declared}
use Rattle.smt_values.specs.contracts.sort_table.CompoundPartialEq.TheImpl.{ghosts}

abbrev pub compound_eq : Compound → Compound → Bool
compound_eq = ghosts.eq

-- equal rows are of equal sorts
pub compound_eq-sort : (ss : List Sort) (a b : Compound) → compound_eq a b ≡ true → compound_sort ss a ≡ compound_sort ss b
compound_eq-sort ss (Array i e) (Array j f) h =
    let p = both_true (i.0 == j.0) (e.0 == f.0) h in
    let index : i.0 ≡ j.0 = (Decides-eqb i.0 j.0).0 p.0 in
    let element : e.0 ≡ f.0 = (Decides-eqb e.0 f.0).0 p.1 in
    λ k. array (sort_numbered ss (index k)) (sort_numbered ss (element k))
compound_eq-sort ss (Declared m) (Declared n) h = ap free_sort ((bytes_eq-Decides m.items n.items).0 h)
compound_eq-sort ss (Array i e) (Declared n) h = absurd cc
compound_eq-sort ss (Declared m) (Array j f) h = absurd cc

-- and rows of equal sorts are equal, where a sort has one number
pub compound_eq-from_sort : (ss : List Sort) (a b : Compound) → ((m n : ℕ) → m < 130 + length ss → n < 130 + length ss → sort_numbered ss m ≡ sort_numbered ss n → m ≡ n)
    → IsBelow (130 + length ss) a → IsBelow (130 + length ss) b → compound_sort ss a ≡ compound_sort ss b → compound_eq a b ≡ true
compound_eq-from_sort ss (Array i e) (Array j f) one a b h =
    let index : sort_numbered ss i.0 ≡ sort_numbered ss j.0 = cc in
    let element : sort_numbered ss e.0 ≡ sort_numbered ss f.0 = cc in
    and_true (i.0 == j.0) (e.0 == f.0) ((Decides-eqb i.0 j.0).1 (one i.0 j.0 a.0 b.0 index)) ((Decides-eqb e.0 f.0).1 (one e.0 f.0 a.1 b.1 element))
compound_eq-from_sort ss (Declared m) (Declared n) one a b h =
    let name : m.items ≡ n.items = cc in (bytes_eq-Decides m.items n.items).1 name
compound_eq-from_sort ss (Array i e) (Declared n) one a b h = absurd cc
compound_eq-from_sort ss (Declared m) (Array j f) one a b h = absurd cc
