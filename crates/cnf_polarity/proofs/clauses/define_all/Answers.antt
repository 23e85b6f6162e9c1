use Rattle.std.proofs.Common.{◌≡◌, ◌<◌, get_or, length, ap, sym, ◌∙◌, arith}
use Rattle.std.proofs.lemmas.Option.{get_or_from_slice_get}
use Rattle.smt_terms.specs.declared.ids.NodeId.{NodeId}
use Rattle.term_table.specs.Formulas.{tree, IsNode}
use Rattle.term_walk.proofs.Visits.{table-grows}
use Rattle.term_subst.proofs.Growing.{tree-grows}
use Rattle.cnf_polarity.specs.Cnf.{occurs}
use Rattle.cnf_polarity.specs.Literals.{symbol_in, names_at, IsName}
use Rattle.cnf_polarity.specs.Shapes.{has_connective}
use Rattle.cnf_polarity.proofs.DefinedNames.{literals-stay, clauses-next}
use Rattle.cnf_polarity.proofs.clauses.define_all.Goals as goal

pub loop-i-preserved : goal.loop-i-preserved
loop-i-preserved c =
    let t = c.args.table.now in
    let now = c.loop-i.table in
    let ks = c.args.named.now in
    let es = c.args.names.now in
    let i = c.loop-i.i in
    let d : NodeId = record { 0 = 0 } in
    let k : NodeId = get_or ks i d in
    let e : NodeId = get_or es i d in
    let within : i < length ks = let test = c.loop-i-test.true in omega arith in
    let within_names : i < length es = let number = c.requires.number in omega (arith, within) in
    let inv = c.loop-i.invariant in
    let node : IsNode t k = c.requires.nodes i d within in
    let name : IsName t e = c.requires.names i d within_names in
    let same_name : e ≡ c.get.result = get_or_from_slice_get es i c.get.result d c.get.ensures in
    let stays = tree-grows t now inv.grows k node in
    let ns = names_at t ks es in
    record {
      grows = table-grows t now c.define.new.table inv.grows c.in_ok-define.ensures.grows;
      symbols = c.in_ok-define.ensures.symbols ∙ inv.symbols;
      sorts = c.in_ok-define.ensures.sorts ∙ inv.sorts;
      formulas = c.in_ok-define.ensures.formulas;
      terms = λ os marks.
          clauses-next t ks es ns os now c.define.new.table c.loop-i.asserts c.define.new.asserts _ i d within within_names stays
          (c.in_ok-define.ensures.puts ns os (symbol_in (tree t e))
          (ap (tree now) (sym same_name) ∙ tree-grows t now inv.grows e name.formula.node ∙ name.constant)
          (λ connective. literals-stay t now inv.grows ns c.args.literals.now k node (c.requires.literals i d within (ap has_connective (sym stays) ∙ connective)))
          (λ sign. marks i d within sign ∙ ap (λ u. occurs sign u os) (sym stays)))
          (inv.terms os marks);
    }
