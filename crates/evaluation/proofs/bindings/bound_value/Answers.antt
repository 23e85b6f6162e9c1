use Rattle.std.proofs.Common.{◌≡◌, ◌+◌, suc, Option, take, false, ap, sym, ◌∙◌, subst, add-one}
use Rattle.std.specs.Prelude.{IfSome, option_map}
use Rattle.smt_values.specs.Meaning.{scalar_value, IsScalar}
use Rattle.smt_values.specs.declared.scalar.Scalar.{Scalar}
use Rattle.smt_values.specs.declared.scalar.Scalar.TheVariants.{Truth}
use Rattle.term_table.specs.Formulas.{symbol_at}
use Rattle.evaluation.specs.Bindings.{env_of}
use Rattle.evaluation.specs.declared.bindings.Binding.{Binding}
use Rattle.evaluation.proofs.EnvLaws.{next-here, next-other}
use Rattle.evaluation.proofs.bindings.bound_value.Goals as goal
use Rattle.evaluation.proofs.bindings.bound_value.Goals.{then-eq, else-eq}

pub loop-binding-preserved : goal.loop-binding-preserved
loop-binding-preserved c =
    let t = c.args.table.now in
    let bs = c.args.bindings.now in
    let i = c.loop-binding.binding-index in
    let d : Binding = record { symbol = record { 0 = 0 }; value = Truth false } in
    let one : env_of t (take (i + 1) bs) (symbol_at t c.args.symbol) ≡ env_of t (take (suc i) bs) (symbol_at t c.args.symbol) = ap (λ n. env_of t (take n bs) (symbol_at t c.args.symbol)) (add-one i) in
    elim c.if-eq.branch [
      | then-eq w ↦ record {
        value = ap (option_map scalar_value) w.found-is ∙ sym (one ∙ next-here t c.know_table.ensures bs c.requires.bindings c.args.symbol c.requires.symbol i d c.loop-binding-test.true (sym c.eq.ensures ∙ w.if-eq.true));
        scalar = subst (λ (o : Option Scalar). IfSome o IsScalar) (sym w.found-is) (c.requires.bindings i d c.loop-binding-test.true).scalar;
      }
      | else-eq w ↦ record {
        value = ap (option_map scalar_value) w.found-is ∙ c.loop-binding.invariant.value ∙ sym (one ∙ next-other t c.know_table.ensures bs c.requires.bindings c.args.symbol c.requires.symbol i d c.loop-binding-test.true (sym c.eq.ensures ∙ w.if-eq.false));
        scalar = subst (λ (o : Option Scalar). IfSome o IsScalar) (sym w.found-is) c.loop-binding.invariant.scalar;
      }
    ]
