use Rattle.std.proofs.Common.{map, length, sym, ◌∙◌}
use Rattle.std.proofs.lemmas.Bool.Decides.{Decides-eqb}
use Rattle.smt_terms.specs.Rank.{symbol_name}
use Rattle.term_table.specs.Formulas.{kind, tree, trees_at, operands, symbol_at}
use Rattle.term_table.proofs.Binding.{may_told}
use Rattle.term_table.proofs.table.Table.may_bind.Goals as goal

pub returns : goal.returns
unfolding kind
returns c =
    let t = c.args.self.now in
    let fine = c.is_quantifiable_sort.ensures.0 c.if-not-is_quantifiable_sort.false in
    may_told (map symbol_name (trees_at t c.args.earlier.now)) (tree t c.args.kid) (symbol_at t c.in-Sym.f) (operands (tree t c.args.kid)) c.symbol_rank.result.0.now t.sorts c.symbol_rank.result.1 c.symbol_name.result.now c.is_named.result
    c.in-Sym.ensures.term (c.in-Sym.ensures.table.sorted c.args.kid.0 c.requires.kid) c.symbol_rank.ensures.args
    ((Decides-eqb (length c.symbol_rank.result.0.now) 0).0 (sym c.is_empty.ensures ∙ c.if-not-is_empty.false))
    c.symbol_rank.ensures.to fine.0 fine.1 c.symbol_name.ensures.name c.is_named.ensures
