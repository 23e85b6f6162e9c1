-- Statements of the laws of sameness and of arrays, for the sorts of a table and the values that a program holds.
use Rattle.std.specs.Prelude.{◌≡◌, false, List, IsTrue, IsFalse}
use Rattle.smt_terms.specs.declared.ids.SortId.{SortId}
use Rattle.smt_terms.specs.Sorts.{Sort, array}
use Rattle.smt_terms.specs.Rank.{is_array}
use Rattle.smt_terms.specs.Values.{Sizes, same, select, store}
use Rattle.smt_terms.specs.Values as plain
use Rattle.smt_values.specs.SortIds.{sort_at, IsSortId, IsSortList}
use Rattle.smt_values.specs.Meaning.{meaning}
use Rattle.smt_values.specs.Tables.{Table, as_value}
use Rattle.smt_values.specs.Valid.{IsValue}
use Rattle.smt_values.specs.declared.value.Value.{Value}

abbrev pub SameIsReflexive : Type 0
SameIsReflexive = (ss : List Sort) (s : SortId) (sizes : Sizes) (a : Value) → IsTrue (same (sort_at ss s) sizes (meaning a) (meaning a))

abbrev pub SameIsSymmetric : Type 0
SameIsSymmetric = (ss : List Sort) (s : SortId) (sizes : Sizes) (a b : Value) → IsTrue (same (sort_at ss s) sizes (meaning a) (meaning b)) → IsTrue (same (sort_at ss s) sizes (meaning b) (meaning a))

abbrev pub SameIsTransitive : Type 0
SameIsTransitive =
    (ss : List Sort) (s : SortId) (sizes : Sizes) (a b c : Value) → IsSortList ss → IsSortId ss s → IsValue (sort_at ss s) sizes a → IsValue (sort_at ss s) sizes b → IsValue (sort_at ss s) sizes c
    → IsTrue (same (sort_at ss s) sizes (meaning a) (meaning b)) → IsTrue (same (sort_at ss s) sizes (meaning b) (meaning c)) → IsTrue (same (sort_at ss s) sizes (meaning a) (meaning c))

-- arrays that are the same have values that are the same at every key
abbrev pub SameArraysReadAlike : Type 0
SameArraysReadAlike =
    (ss : List Sort) (s i e : SortId) (sizes : Sizes) (a b : Table) (k : Value) → IsSortList ss → IsSortId ss s → sort_at ss s ≡ array (sort_at ss i) (sort_at ss e) → IsValue (sort_at ss i) sizes k
    → IsTrue (same (sort_at ss s) sizes (as_value a) (as_value b)) → IsTrue (same (sort_at ss e) sizes (select (sort_at ss i) sizes (as_value a) (meaning k)) (select (sort_at ss i) sizes (as_value b) (meaning k)))

-- a key that a value was stored at reads as that value
abbrev pub StoredIsRead : Type 0
StoredIsRead =
    (index : Sort) (sizes : Sizes) (a k v j : plain.Value) → is_array index ≡ false → IsTrue (same index sizes k j) → select index sizes (store index sizes a k v) j ≡ v

-- and every other key reads as before
abbrev pub OthersReadAsBefore : Type 0
OthersReadAsBefore =
    (index : Sort) (sizes : Sizes) (a k v j : plain.Value) → is_array index ≡ false → IsFalse (same index sizes k j) → select index sizes (store index sizes a k v) j ≡ select index sizes a j
