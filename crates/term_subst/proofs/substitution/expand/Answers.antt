use Rattle.std.proofs.Common.{◌≡◌, zip, ap, sym, subst, ◌∙◌}
use Rattle.term_table.specs.Formulas.{tree}
use Rattle.term_subst.specs.Maps.{Pairs, image_in}
use Rattle.term_subst.specs.Substituting.{IsMap}
use Rattle.term_subst.proofs.Paired.{expand-by-images}
use Rattle.term_subst.proofs.substitution.expand.Goals as goal

pub run-requires-clause-map : goal.run-requires-clause-map
run-requires-clause-map c =
    let pairs : c.deref.result.now ≡ zip c.args.definition.now.params c.args.arguments.now = c.deref.ensures.value ∙ c.in_ok-pairs.ensures in
    c.in_ok-map.ensures.within c.args.table.now (subst (IsMap c.args.table.now) (sym pairs) c.requires.map)

pub returns-clause-term : goal.returns-clause-term
returns-clause-term c =
    let t = c.args.table.now in
    let fs = c.args.definition.now.params in
    let ks = c.args.arguments.now in
    let pairs : c.deref.result.now ≡ zip fs ks = c.deref.ensures.value ∙ c.in_ok-pairs.ensures in
    let within = c.in_ok-map.ensures.within t (subst (IsMap t) (sym pairs) c.requires.map) in
    c.in_ok-result.ensures.term
    ∙ ap (λ r. r.0) (expand-by-images t c.know_table.ensures c.in_ok-map.map within fs ks c.requires.map (λ f. c.in_ok-map.ensures.images f ∙ ap (λ (ps : Pairs). image_in ps f) pairs) (tree t c.args.definition.now.body) c.args.fresh.now)

pub returns-clause-left : goal.returns-clause-left
returns-clause-left c =
    let t = c.args.table.now in
    let fs = c.args.definition.now.params in
    let ks = c.args.arguments.now in
    let pairs : c.deref.result.now ≡ zip fs ks = c.deref.ensures.value ∙ c.in_ok-pairs.ensures in
    let within = c.in_ok-map.ensures.within t (subst (IsMap t) (sym pairs) c.requires.map) in
    c.in_ok-result.ensures.left
    ∙ ap (λ r. r.1) (expand-by-images t c.know_table.ensures c.in_ok-map.map within fs ks c.requires.map (λ f. c.in_ok-map.ensures.images f ∙ ap (λ (ps : Pairs). image_in ps f) pairs) (tree t c.args.definition.now.body) c.args.fresh.now)
