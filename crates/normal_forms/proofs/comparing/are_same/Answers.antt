use Rattle.std.proofs.Common.{◌≡◌, nat_eq, ap}
use Rattle.smt_terms.specs.declared.ids.NodeId.{NodeId}
use Rattle.smt_terms.specs.Equal.{term_eq}
use Rattle.smt_terms.proofs.Equal.{Decides-term_eq}
use Rattle.smt_terms.proofs.Tests.{alike_from}
use Rattle.std.proofs.lemmas.Bool.Decides.{Decides-eqb}
use Rattle.term_table.specs.Formulas.{tree}
use Rattle.normal_forms.proofs.comparing.are_same.Goals as goal

pub returns : goal.returns
returns c =
    let t = c.args.table.now in
    let a = c.args.a in
    let b = c.args.b in
    let one = c.equal_formulas_have_one_number.ensures.nodes a b c.requires.a c.requires.b in
    alike_from (nat_eq a.0 b.0) (term_eq (tree t a) (tree t b))
    (λ e. (Decides-term_eq (tree t a) (tree t b)).1 (let number : a.0 ≡ b.0 = (Decides-eqb a.0 b.0).0 e in λ i. tree t (record { 0 = number i })))
    (λ e. (Decides-eqb a.0 b.0).1 (ap (λ (k : NodeId). k.0) (one.1 ((Decides-term_eq (tree t a) (tree t b)).0 e))))
