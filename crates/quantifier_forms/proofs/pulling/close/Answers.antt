use Rattle.std.proofs.Common.{◌≡◌, ◌-◌, ◌<◌, suc, zero, List, length, get_or, drop, refl, ap, sym, ◌∙◌, subst, arith}
use Rattle.std.proofs.lemmas.List.{length-map}
use Rattle.smt_terms.specs.declared.ids.NodeId.{NodeId}
use Rattle.smt_terms.specs.Term.{quantified}
use Rattle.term_table.specs.Formulas.{tree}
use Rattle.term_walk.proofs.Visits.{grows-self, table-grows}
use Rattle.quantifier_forms.specs.Pulling.{Front, front_at, fronts_at, behind_fronts}
use Rattle.quantifier_forms.specs.Variables.{AreVariables}
use Rattle.quantifier_forms.proofs.Variables.{variables-stay}
use Rattle.quantifier_forms.proofs.Pulled.{front-at, is-front-at}
use Rattle.quantifier_forms.proofs.Turned.{behind-more, behind-none}
use Rattle.quantifier_forms.proofs.pulling.close.Goals as goal

pub loop-place-init : goal.loop-place-init
loop-place-init c =
    let n = length-map c.args.prefix.now (front_at c.args.table.now) in
    record {
      within = omega arith;
      formula = c.requires.matrix;
      term = behind-none (fronts_at c.args.table.now c.args.prefix.now) (length c.args.prefix.now) (tree c.args.table.now c.args.matrix) (omega (arith, n));
      grows = record { trees = grows-self _; symbols = grows-self _; sorts = grows-self _ };
      symbols = refl;
    }

pub quantify-requires-clause-variables : goal.quantify-requires-clause-variables
quantify-requires-clause-variables c =
    let t = c.args.table.now in
    let i = c.loop-place.place - 1 in
    let within = c.loop-place.invariant.within in
    let test = c.loop-place-test.true in
    let inside : i < length c.args.prefix.now = omega (arith, within, test) in
    let b = c.index-prefix-place.result in
    let front = is-front-at t c.args.prefix.now i b c.requires.prefix inside c.index-prefix-place.is in
    let xs = (front_at t b).variables in
    (xs, subst (λ (ks : List NodeId). AreVariables c.loop-place.table ks xs) (sym c.deref.ensures.value) (variables-stay t c.loop-place.table b.variables.items xs c.loop-place.invariant.grows front.are), front.bindable)

pub loop-place-preserved : goal.loop-place-preserved
loop-place-preserved c =
    let t = c.args.table.now in
    let i = c.loop-place.place - 1 in
    let within = c.loop-place.invariant.within in
    let test = c.loop-place-test.true in
    let inside : i < length c.args.prefix.now = omega (arith, within, test) in
    let b = c.index-prefix-place.result in
    let front = is-front-at t c.args.prefix.now i b c.requires.prefix inside c.index-prefix-place.is in
    let f : Front = front_at t b in
    let fs : List Front = fronts_at t c.args.prefix.now in
    let n = length-map c.args.prefix.now (front_at t) in
    let up : c.loop-place.place ≡ suc i = omega (arith, test) in
    let here : get_or fs i f ≡ f = front-at t c.args.prefix.now i b f inside c.index-prefix-place.is in
    let matrix = tree t c.args.matrix in
    record {
      within = omega (arith, within);
      formula = c.in_ok-form.ensures.formula;
      term =
          c.in_ok-form.ensures.term f.variables (subst (λ (ks : List NodeId). AreVariables c.loop-place.table ks f.variables) (sym c.deref.ensures.value) (variables-stay t c.loop-place.table b.variables.items f.variables c.loop-place.invariant.grows front.are))
          ∙ ap (quantified f.quantifier f.variables) (c.loop-place.invariant.term ∙ ap (λ k. behind_fronts (drop k fs) matrix) up)
          ∙ ap (λ (g : Front). quantified g.quantifier g.variables (behind_fronts (drop (suc i) fs) matrix)) (sym here)
          ∙ sym (behind-more fs i f matrix (omega (arith, n, inside)));
      grows = table-grows t c.loop-place.table c.quantify.new.table c.loop-place.invariant.grows c.in_ok-form.ensures.grows;
      symbols = c.in_ok-form.ensures.symbols ∙ c.loop-place.invariant.symbols;
    }

pub returns-clause-term : goal.returns-clause-term
returns-clause-term c =
    let t = c.args.table.now in
    let past : c.loop-place.place ≡ zero = let test = c.loop-place-test.false in omega (arith, test) in
    c.loop-place.invariant.term ∙ ap (λ k. behind_fronts (drop k (fronts_at t c.args.prefix.now)) (tree t c.args.matrix)) past
