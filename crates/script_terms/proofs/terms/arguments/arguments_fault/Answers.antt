use Rattle.std.proofs.Common.{◌≡◌, ◌+◌, ◌<◌, suc, true, false, drop, length, get_or, refl, ap, sym, subst, ◌∙◌, arith}
use Rattle.std.proofs.lemmas.List.{drop_all}
use Rattle.std.proofs.lemmas.Option.{get_or_from_slice_get}
use Rattle.smt_terms.specs.declared.ids.NodeId.{NodeId}
use Rattle.smt_terms.specs.Equal.{sort_eq}
use Rattle.smt_terms.specs.Rank.{wrong_arity, wrong_sort, accepted, sort_of}
use Rattle.smt_terms.specs.Sorts.{bool}
use Rattle.term_table.specs.Formulas.{tree, symbol_at, sort_or_bool, IsSymbol}
use Rattle.script_terms.specs.Read.{has_sort}
use Rattle.script_terms.proofs.ArgumentsRanked.{misfit_from, another_number, that_number, argument_fits, argument_misfits, sort_told, no_argument}
use Rattle.script_terms.proofs.terms.arguments.arguments_fault.Goals as goal

pub returns-then-arguments-len : goal.returns-then-arguments-len
returns-then-arguments-len c =
    (wrong_arity, another_number c.args.table.now c.args.params.now c.args.arguments.now (λ same. c.if-arguments-len.true (same ∙ sym c.len.ensures)), refl)

pub symbol_rank-requires : goal.symbol_rank-requires
symbol_rank-requires c =
    let within : c.loop-i.i < length c.args.params.now = omega (arith, c.loop-i-test.true, c.if-arguments-len.false, c.len.ensures) in
    subst (IsSymbol c.args.table.now) (get_or_from_slice_get c.args.params.now c.loop-i.i c.get.result c.get.result c.get.ensures) (c.requires.params c.loop-i.i c.get.result within)

pub returns-then-not-has_sort : goal.returns-then-not-has_sort
returns-then-not-has_sort c =
    let t = c.args.table.now in
    let ps = c.args.params.now in
    let ks = c.args.arguments.now in
    let i = c.loop-i.i in
    let f = c.get.result in
    let d : NodeId = record { 0 = 0 } in
    let k = get_or ks i d in
    let same : length ks ≡ length ps = c.if-arguments-len.false ∙ c.len.ensures in
    let other : sort_eq (sort_or_bool (sort_of (tree t k))) (symbol_at t f).result ≡ false =
    sym (sort_told t c.has_sort.ensures.table k (c.requires.arguments i d c.loop-i-test.true) (symbol_at t f).result) ∙ ap (λ s. has_sort s (tree t k)) (sym c.symbol_rank.ensures.to) ∙ sym c.has_sort.ensures.answer ∙ c.if-not-has_sort.true in (
      wrong_sort i (sort_or_bool (sort_of (tree t k))) (symbol_at t f).result,
      that_number t ps ks same
          ∙ ap (λ o. accepted o true bool) (c.loop-i.invariant ∙ argument_misfits t i ps ks f d k (omega (arith, same, c.loop-i-test.true)) c.loop-i-test.true (get_or_from_slice_get ps i f f c.get.ensures) refl other),
      refl,
    )

pub loop-i-preserved : goal.loop-i-preserved
loop-i-preserved c =
    let t = c.args.table.now in
    let ps = c.args.params.now in
    let ks = c.args.arguments.now in
    let i = c.loop-i.i in
    let f = c.get.result in
    let d : NodeId = record { 0 = 0 } in
    let k = get_or ks i d in
    let same : length ks ≡ length ps = c.if-arguments-len.false ∙ c.len.ensures in
    let fits : sort_eq (sort_or_bool (sort_of (tree t k))) (symbol_at t f).result ≡ true =
    sym (sort_told t c.has_sort.ensures.table k (c.requires.arguments i d c.loop-i-test.true) (symbol_at t f).result) ∙ ap (λ s. has_sort s (tree t k)) (sym c.symbol_rank.ensures.to) ∙ sym c.has_sort.ensures.answer ∙ c.if-not-has_sort.false in
    let next : suc i ≡ i + 1 = omega arith in
    c.loop-i.invariant
    ∙ argument_fits t i ps ks f d k (omega (arith, same, c.loop-i-test.true)) c.loop-i-test.true (get_or_from_slice_get ps i f f c.get.ensures) refl fits
    ∙ ap (λ j. misfit_from t j (drop j ps) (drop j ks)) next

pub returns : goal.returns
returns c =
    let t = c.args.table.now in
    let ps = c.args.params.now in
    let ks = c.args.arguments.now in
    let same : length ks ≡ length ps = c.if-arguments-len.false ∙ c.len.ensures in
    that_number t ps ks same
    ∙ ap (λ o. accepted o true bool) (c.loop-i.invariant ∙ no_argument t c.loop-i.i (drop c.loop-i.i ps) (drop c.loop-i.i ks) (drop_all c.loop-i.i ps (omega (arith, same, c.loop-i-test.false))))
