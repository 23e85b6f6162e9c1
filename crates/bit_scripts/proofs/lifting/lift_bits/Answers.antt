use Rattle.std.proofs.Common.{◌≡◌, ◌∙◌, sym, ap, subst, suc, ◌+◌, ◌-◌, ◌*◌, ◌<◌, ◌^◌, [], drop, arith}
use Rattle.smt_terms.specs.BitVectors.{bit_number}
use Rattle.smt_terms.specs.Models.{symbol_value}
use Rattle.smt_terms.specs.Values.{is_true}
use Rattle.term_table.specs.Formulas.{symbol_at}
use Rattle.bit_blast.specs.Blasted.{width_of}
use Rattle.models.specs.LiveNumbers.{signature_of}
use Rattle.models.specs.ModelView.{model_at}
use Rattle.term_groups.specs.Seen.{named_at}
use Rattle.bit_scripts.specs.Lifting.{with_vector}
use Rattle.bit_scripts.proofs.LiftedBits.{Lifting, lifting}
use Rattle.bit_scripts.proofs.LiftedPlaces.{the_bit, told_bit, fits, vector_is, fits_width, complete, continued, lifted_at_last}
use Rattle.bit_scripts.proofs.lifting.lift_bits.Goals as goal
use Rattle.bit_scripts.proofs.lifting.lift_bits.Goals.{After-from}

pub bit_at-bit-requires-clause-bit : goal.bit_at-bit-requires-clause-bit
bit_at-bit-requires-clause-bit c =
    let t = c.args.table.now in
    let symbols = (signature_of t c.args.signature.now).symbols in
    the_bit t c.know_table.ensures symbols c.args.bits.now c.requires.pairs c.requires.bits (model_at t c.args.model.now) (c.loop-place.place - 1) c.get.result c.get.ensures

-- what was lifted behind the place
behind : (c : After-from) → lifting (signature_of c.args.table.now c.args.signature.now).symbols (model_at c.args.table.now c.args.model.now) (drop c.loop-place.place (named_at c.args.table.now c.args.bits.now))
    ≡ lifting (signature_of c.args.table.now c.args.signature.now).symbols (model_at c.args.table.now c.args.model.now) (drop (suc (c.loop-place.place - 1)) (named_at c.args.table.now c.args.bits.now))
behind c =
    let t = c.args.table.now in
    let positive = c.loop-place-test.true in
    let on : c.loop-place.place ≡ suc (c.loop-place.place - 1) = omega arith in
    ap (λ j. lifting (signature_of t c.args.signature.now).symbols (model_at t c.args.model.now) (drop j (named_at t c.args.bits.now))) on

-- the number with the bit of the place
more : (c : After-from) → c.from.result + 2 * c.loop-place.number
    ≡ bit_number (is_true (symbol_value (model_at c.args.table.now c.args.model.now) (symbol_at c.args.table.now c.get.result.0) [])) + 2 * c.loop-place.number
more c = ap (λ b. b + 2 * c.loop-place.number) (c.from.ensures ∙ told_bit c.is_true_in.result ∙ ap bit_number c.is_true_in.ensures)

small : (c : After-from) → c.from.result + 2 * c.loop-place.number < 2 ^ 128
small c =
    let t = c.args.table.now in
    subst (λ n. n < 2 ^ 128) (sym (more c))
    (fits t c.know_table.ensures (signature_of t c.args.signature.now).symbols c.args.bits.now c.requires.pairs c.requires.bits (model_at t c.args.model.now) (c.loop-place.place - 1) c.get.result c.get.ensures
    c.bit_at-bit.result c.bit_at-bit.ensures c.loop-place.number (c.loop-place.invariant.number ∙ ap (λ (l : Lifting). l.number) (behind c)))

pub overflow_mul-number : goal.overflow_mul-number
overflow_mul-number c = omega (arith, small c)

pub overflow_add-number : goal.overflow_add-number
overflow_add-number c = omega (arith, small c)

pub define_vector-requires-clause-vector : goal.define_vector-requires-clause-vector
define_vector-requires-clause-vector c =
    let t = c.args.table.now in
    let a = (goal.at.define_vector-requires-clause-vector c).After-from in
    vector_is t c.know_table.ensures (signature_of t c.args.signature.now).symbols c.args.bits.now c.requires.pairs c.requires.bits (model_at t c.args.model.now) (c.loop-place.place - 1) c.get.result c.get.ensures
    c.bit_at-bit.result c.bit_at-bit.ensures c.loop-place.number (c.loop-place.invariant.number ∙ ap (λ (l : Lifting). l.number) (behind a))

pub define_vector-requires-clause-fits : goal.define_vector-requires-clause-fits
define_vector-requires-clause-fits c =
    let t = c.args.table.now in
    let a = (goal.at.define_vector-requires-clause-fits c).After-from in
    subst (λ n. n < 2 ^ width_of (symbol_at t c.bit_at-bit.result.constant).result) (sym (more a))
    (fits_width t c.know_table.ensures (signature_of t c.args.signature.now).symbols c.args.bits.now c.requires.pairs c.requires.bits (model_at t c.args.model.now) (c.loop-place.place - 1) c.get.result c.get.ensures
    c.bit_at-bit.result c.bit_at-bit.ensures c.loop-place.number (c.loop-place.invariant.number ∙ ap (λ (l : Lifting). l.number) (behind a)) c.if-bit-eq0.true)

pub loop-place-preserved-then-bit-eq0 : goal.loop-place-preserved-then-bit-eq0
loop-place-preserved-then-bit-eq0 c =
    let t = c.args.table.now in
    let a = (goal.at.loop-place-preserved-then-bit-eq0 c).After-from in
    let was = c.loop-place.invariant in
    let within = was.within in
    let f = symbol_at t c.bit_at-bit.result.constant in
    let done =
    complete t c.know_table.ensures (signature_of t c.args.signature.now).symbols c.args.bits.now c.requires.pairs c.requires.bits (model_at t c.args.model.now) (c.loop-place.place - 1) c.get.result c.get.ensures
    c.bit_at-bit.result c.bit_at-bit.ensures c.loop-place.number (was.number ∙ ap (λ (l : Lifting). l.number) (behind a)) (model_at t c.loop-place.made) (was.model ∙ ap (λ (l : Lifting). l.model) (behind a))
    c.if-bit-eq0.true in
    record {
      within = omega arith;
      model = c.in_ok-define_vector.ensures.model ∙ ap (λ n. with_vector f n (model_at t c.loop-place.made)) (more a) ∙ sym (ap (λ (l : Lifting). l.model) done);
      number = sym (ap (λ (l : Lifting). l.number) done);
      numbers = λ of. c.in_ok-define_vector.ensures.numbers (was.numbers of);
    }

pub loop-place-preserved : goal.loop-place-preserved
loop-place-preserved c =
    let t = c.args.table.now in
    let a = (goal.at.loop-place-preserved c).After-from in
    let was = c.loop-place.invariant in
    let within = was.within in
    let done =
    continued t c.know_table.ensures (signature_of t c.args.signature.now).symbols c.args.bits.now c.requires.pairs c.requires.bits (model_at t c.args.model.now) (c.loop-place.place - 1) c.get.result c.get.ensures
    c.bit_at-bit.result c.bit_at-bit.ensures c.loop-place.number (was.number ∙ ap (λ (l : Lifting). l.number) (behind a)) (model_at t c.loop-place.made) (was.model ∙ ap (λ (l : Lifting). l.model) (behind a))
    c.if-bit-eq0.false in
    record {
      within = omega arith;
      model = sym (ap (λ (l : Lifting). l.model) done);
      number = more a ∙ sym (ap (λ (l : Lifting). l.number) done);
      numbers = was.numbers;
    }

pub returns-clause-model : goal.returns-clause-model
returns-clause-model c =
    let t = c.args.table.now in
    let ps = c.args.bits.now in
    let symbols = (signature_of t c.args.signature.now).symbols in
    let m = model_at t c.args.model.now in
    let past = c.loop-place-test.false in
    let none : c.loop-place.place ≡ 0 = omega arith in
    c.loop-place.invariant.model ∙ ap (λ j. (lifting symbols m (drop j (named_at t ps))).model) none
    ∙ lifted_at_last t c.know_table.ensures symbols ps c.requires.pairs c.requires.bits m
