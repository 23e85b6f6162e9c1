use Rattle.std.proofs.Common.{◌≡◌, ◌∙◌, ◌-◌, sym, ap, arith}
use Rattle.smt_terms.specs.Values as plain
use Rattle.smt_terms.specs.Values.{table}
use Rattle.smt_values.specs.Meaning.{meaning}
use Rattle.smt_values.specs.SizeTable.{sizes_by}
use Rattle.smt_values.specs.SortIds.{sort_at}
use Rattle.smt_values.specs.Tables.{as_value, with_value_at}
use Rattle.smt_values.proofs.Pairs.{put-place, put-nowhere}
use Rattle.smt_values.proofs.array.store.Goals as goal

pub returns-in-Some : goal.returns-in-Some
returns-in-Some c =
    let first : c.in-Some.i - 0 ≡ c.in-Some.i = omega arith in
    let found = sym c.find.ensures.place ∙ c.in-Some.is in
    ap as_value c.set_value.ensures ∙ ap (table c.args.array.fallback) (sym ((put-place 0 c.in-Some.i (plain.same (sort_at c.args.sorts.now c.args.index) (sizes_by c.args.sorts.now c.args.sizes.now)) (meaning c.args.key) (meaning c.args.value) c.args.array.pairs found).1 ∙ ap (λ i. with_value_at c.args.array.pairs i (meaning c.args.value)) first))

pub returns-in_ok-push-in-None : goal.returns-in_ok-push-in-None
returns-in_ok-push-in-None c =
    let missing = sym c.find.ensures.place ∙ c.in-None.is in
    ap as_value c.in_ok-push-in-None.ensures ∙ ap (table c.args.array.fallback) (sym (put-nowhere 0 (plain.same (sort_at c.args.sorts.now c.args.index) (sizes_by c.args.sorts.now c.args.sizes.now)) (meaning c.args.key) (meaning c.args.value) c.args.array.pairs missing))
