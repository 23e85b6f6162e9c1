use Rattle.std.proofs.Common.{◌≡◌, ◌∙◌, ap, sym, true}
use Rattle.smt_terms.specs.Sorts.{array}
use Rattle.smt_terms.specs.Rank.{is_sort}
use Rattle.smt_terms.specs.Values.{same}
use Rattle.smt_terms.proofs.Same.{same-select, array_sorts}
use Rattle.smt_values.specs.SortIds.{sort_at}
use Rattle.smt_values.specs.Meaning.{meaning}
use Rattle.smt_values.specs.Tables.{as_value}
use Rattle.smt_values.proofs.SortIds.{sort_is}
use Rattle.smt_values.proofs.laws.same_arrays_read_alike.Goals as goal

pub returns : goal.returns
returns c ss s i e sizes a b k list id told valid h =
    let fine : is_sort (array (sort_at ss i) (sort_at ss e)) ≡ true = ap is_sort (sym told) ∙ sort_is ss list s.0 id in
    same-select (sort_at ss i) (sort_at ss e) sizes (as_value a) (as_value b) (meaning k) (array_sorts (sort_at ss i) (sort_at ss e) fine).0 valid.valid
    (ap (λ t. same t sizes (as_value a) (as_value b)) (sym told) ∙ h)
