use Rattle.std.proofs.Common.{◌≡◌, ◌+◌, ◌-◌, ℕ, All, length, get_or, take, ap, sym, ◌∙◌, subst, arith}
use Rattle.std.proofs.lemmas.List.{take_all}
use Rattle.smt_terms.specs.declared.ids.NodeId.{NodeId}
use Rattle.smt_terms.specs.Val.{bound_bits, bits_bound}
use Rattle.term_table.specs.Formulas.{tree, AreNodes}
use Rattle.evaluation.specs.Choices.{variables_at, IsVariable}
use Rattle.evaluation.specs.Evaluated.{told_bits}
use Rattle.evaluation.proofs.BinderParts.{body_in, variables_in, is-binder, binder-parts, are-variables}
use Rattle.evaluation.proofs.BoundLaws.{bits-next, kids-bounded}
use Rattle.evaluation.proofs.bounds.bound_of_binder.Goals as goal

pub bound_at-bits-requires : goal.bound_at-bits-requires
bound_at-bits-requires c =
    let ks = c.kids-kids.result.now in
    let p = binder-parts c.args.table.now c.know_table.ensures c.args.id c.requires.node c.requires.quantified ks c.kids-kids.ensures.terms c.kids-kids.ensures.below in
    let n = p.count in
    let nodes : AreNodes c.args.table.now ks = λ i d lt. let b = c.kids-kids.ensures.below i d lt in let here = c.requires.node in omega arith in
    kids-bounded c.args.table.now c.args.kept.now (tree c.args.table.now c.args.id) ks c.requires.operands c.kids-kids.ensures.terms nodes (length ks - 1) (record { 0 = 0 }) (omega (arith, n))

pub loop-variable-init : goal.loop-variable-init
loop-variable-init c =
    let t = c.args.table.now in
    let ks = c.kids-kids.result.now in
    let d : NodeId = record { 0 = 0 } in
    let p = binder-parts t c.know_table.ensures c.args.id c.requires.node c.requires.quantified ks c.kids-kids.ensures.terms c.kids-kids.ensures.below in
    let n = p.count in
    let last : length ks - 1 ≡ length (variables_in (tree t c.args.id)) = omega (arith, n) in
    let told : c.bound_at-bits.result ≡ told_bits (bits_bound (body_in (tree t c.args.id))) =
    c.requires.kept.related.related (get_or ks (length ks - 1) d) c.bound_at-bits.result c.bound_at-bits.ensures
    ∙ ap (λ u. told_bits (bits_bound u)) (ap (λ i. tree t (get_or ks i d)) last ∙ p.body d) in
    omega (arith, told)

pub bits_of-requires : goal.bits_of-requires
bits_of-requires c =
    let t = c.args.table.now in
    let ks = c.kids-kids.result.now in
    let p = binder-parts t c.know_table.ensures c.args.id c.requires.node c.requires.quantified ks c.kids-kids.ensures.terms c.kids-kids.ensures.below in
    let n = p.count in
    let last : length ks - 1 ≡ length (variables_in (tree t c.args.id)) = omega (arith, n) in
    let vars : All (IsVariable t) (take (length ks - 1) ks) = subst (λ (m : ℕ). All (IsVariable t) (take m ks)) (sym last) (are-variables t c.know_table.ensures c.args.id c.requires.node c.requires.quantified ks c.kids-kids.ensures.terms c.kids-kids.ensures.below) in
    vars c.loop-variable.variable-index (record { 0 = 0 }) c.loop-variable-test.true

pub loop-variable-preserved : goal.loop-variable-preserved
loop-variable-preserved c =
    let items = take (length c.kids-kids.result.now - 1) c.kids-kids.result.now in
    let next = bits-next c.args.table.now items c.loop-variable.variable-index (record { 0 = 0 }) c.loop-variable-test.true in
    let before = c.loop-variable.invariant in
    let one = c.bits_of.ensures in
    let sum = c.saturating_add-bits.ensures in
    omega (arith, next, before, one, sum)

pub returns : goal.returns
returns c =
    let t = c.args.table.now in
    let ks = c.kids-kids.result.now in
    let items = take (length ks - 1) ks in
    let p = binder-parts t c.know_table.ensures c.args.id c.requires.node c.requires.quantified ks c.kids-kids.ensures.terms c.kids-kids.ensures.below in
    let n = p.count in
    let last : length ks - 1 ≡ length (variables_in (tree t c.args.id)) = omega (arith, n) in
    let past = c.loop-variable-test.false in
    c.loop-variable.invariant
    ∙ ap (λ ys. told_bits (bound_bits ys + bits_bound (body_in (tree t c.args.id)))) (ap (variables_at t) (take_all c.loop-variable.variable-index items (omega arith)) ∙ ap (λ m. variables_at t (take m ks)) last ∙ p.named)
    ∙ ap (λ u. told_bits (bits_bound u)) (sym (is-binder (tree t c.args.id) c.requires.quantified))
