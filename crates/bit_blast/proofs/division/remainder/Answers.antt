use Rattle.std.proofs.Common.{List, length, take, sym, ap, ◌∙◌, subst, All}
use Rattle.std.proofs.lemmas.List.{take-map}
use Rattle.std.proofs.lemmas.List.Elements.{All-take}
use Rattle.smt_terms.specs.declared.ids.NodeId.{NodeId}
use Rattle.term_table.specs.Formulas.{tree_in, trees_at}
use Rattle.normal_forms.specs.Nodes.{IsFormula}
use Rattle.bit_blast.proofs.BitsOverTables.{trees-count}
use Rattle.bit_blast.proofs.division.remainder.Goals as goal

pub returns-clause-bits : goal.returns-clause-bits
returns-clause-bits c =
    let t = c.division.new.table in
    let n = length c.args.b.now in
    let cut = c.truncate.ensures.items in
    let rest = c.in_ok-divided.ensures.divided.rest in
    let width = sym (trees-count c.args.table.now c.args.b.now) in
    record {
      formulas = subst (λ (ks : List NodeId). All (IsFormula t) ks) (sym cut) (All-take (IsFormula t) n c.in_ok-divided.divided.rest.items rest.formulas);
      terms = ap (trees_at t) cut ∙ sym (take-map (tree_in t.trees) n c.in_ok-divided.divided.rest.items) ∙ (λ i. take (width i) (rest.terms i));
    }
