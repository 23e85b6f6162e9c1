use Rattle.std.proofs.Common.{◌≡◌, ◌++◌, ◌∷◌, [], List, refl, ap, ◌∙◌}
use Rattle.std.specs.Option.{option_to_list}
use Rattle.smt_terms.specs.declared.ids.NodeId.{NodeId}
use Rattle.term_table.specs.Formulas.{tree}
use Rattle.term_subst.specs.State.{variables_at}
use Rattle.term_subst.specs.Steps.{requantified}
use Rattle.term_subst.proofs.Gaining.{gains-nodes}
use Rattle.term_subst.proofs.Turning.{close-truth, close-none, close-after}
use Rattle.term_subst.proofs.machine.Machine.close.Goals as goal

pub requantify-requires-clause-truth : goal.requantify-requires-clause-truth
requantify-requires-clause-truth c =
    let x = c.args.self.now in
    let going = c.requires.going in
    let rest = c.pop.new.self.items in
    let last : x.values.items ≡ rest ++ c.unwrap-body.result ∷ [] = c.pop.ensures.items ∙ ap (λ r. rest ++ option_to_list r) c.unwrap-body.ensures in
    close-truth c.args.table.now c.know_table.ensures going.0 going.1 x.chosen x.level x.todo x.values.items rest c.unwrap-body.result x.findings going.2 c.args.opened last going.3

pub put-requires-2 : goal.put-requires-2
put-requires-2 c =
    let x = c.args.self.now in
    let going = c.requires.going in
    let rest = c.pop.new.self.items in
    let last : x.values.items ≡ rest ++ c.unwrap-body.result ∷ [] = c.pop.ensures.items ∙ ap (λ r. rest ++ option_to_list r) c.unwrap-body.ensures in
    let old = c.args.table.now in
    let new = c.requantify.new.table in
    let grows = (gains-nodes old new going.0 c.in_ok-result.ensures.grows.grows c.in_ok-result.ensures.symbols c.in_ok-result.ensures.sorts).grows in
    close-none old new grows c.know_table-2.ensures going.0 going.1 x.chosen x.level x.todo x.values.items rest c.unwrap-body.result x.findings going.2 c.args.opened last going.3

pub returns-clause-going : goal.returns-clause-going
returns-clause-going c = λ names first end going.
    (let x = c.args.self.now in
    let rest = c.pop.new.self.items in
    let body = c.unwrap-body.result in
    let r = c.in_ok-result.result in
    let o = c.args.opened in
    let last : x.values.items ≡ rest ++ body ∷ [] = c.pop.ensures.items ∙ ap (λ o. rest ++ option_to_list o) c.unwrap-body.ensures in
    let old = c.args.table.now in
    let new = c.requantify.new.table in
    let grows = (gains-nodes old new names c.in_ok-result.ensures.grows.grows c.in_ok-result.ensures.symbols c.in_ok-result.ensures.sorts).grows in
    let term = c.in_ok-result.ensures.term ∙ ap (λ (ks : List NodeId). requantified (tree old o.key.node) (variables_at old ks) (tree old body)) c.deref.ensures.value in
    close-after old new grows c.know_table-2.ensures names first x.chosen x.level x.todo x.values.items rest body x.findings end o last going r c.in_ok-result.ensures.node term c.put-2.new.self c.in_ok-put-2.ensures
    (record { map = o.outer.map; kept = c.put.new.self }) refl c.in_ok-put.ensures c.push.new.self.items c.in_ok-push.ensures.items)
