use Rattle.std.proofs.Common.{◌≡◌, None, Ok, sym, ap, ◌∙◌}
use Rattle.std.proofs.lemmas.Result.{err_from_is_err_and}
use Rattle.smt_lex.specs.Forest.{token_at}
use Rattle.smt_lex.specs.Lex.{symbol_of}
use Rattle.script_terms.specs.Bound.{name_at}
use Rattle.script_terms.proofs.Placing.{symbol_here}
use Rattle.script_terms.proofs.SymbolsRead.{symbol_read, constant_read, same_reading, still_refuses}
use Rattle.script_terms.proofs.terms.atoms.read_atom.Goals as goal

pub returns-then-is_symbol-clause-term : goal.returns-then-is_symbol-clause-term
returns-then-is_symbol-clause-term c supply live bound shows shows_locals =
    let ts = c.args.forest.now.tokens in
    same_reading c.read_symbol.new.table supply _ _ (Ok c.in_ok-term.term) (symbol_read bound (token_at ts c.args.i) live (name_at ts c.args.i) (c.is_symbol.ensures.token c.if-is_symbol.true)) (c.in_ok-term.ensures.term supply live bound shows shows_locals)

pub returns-in_err-term-clause-term : goal.returns-in_err-term-clause-term
returns-in_err-term-clause-term c supply live bound shows shows_locals =
    let ts = c.args.forest.now.tokens in
    let p = err_from_is_err_and c.from_residual.result c.from_residual.ensures.1 in
    rw (p.1, p.2)
    (still_refuses _ _ c.in_err-term.field-0.0 (symbol_read bound (token_at ts c.args.i) live (name_at ts c.args.i) (c.is_symbol.ensures.token c.if-is_symbol.true)) (c.in_err-term.ensures.term supply live bound shows shows_locals))

pub returns-in_err-op-clause-term : goal.returns-in_err-op-clause-term
returns-in_err-op-clause-term c supply live bound shows shows_locals =
    let ts = c.args.forest.now.tokens in
    let none : symbol_of (token_at ts c.args.i) ≡ None = sym (symbol_here ts c.args.i c.requires.form) ∙ c.is_symbol.ensures.no c.if-is_symbol.false in
    let p = err_from_is_err_and c.from_residual-in_err-op.result c.from_residual-in_err-op.ensures.1 in
    rw (p.1, p.2) (constant_read bound (token_at ts c.args.i) live none ∙ c.in_err-op.ensures.constant)

pub returns-clause-term : goal.returns-clause-term
returns-clause-term c supply live bound shows shows_locals =
    let ts = c.args.forest.now.tokens in
    let none : symbol_of (token_at ts c.args.i) ≡ None = sym (symbol_here ts c.args.i c.requires.form) ∙ c.is_symbol.ensures.no c.if-is_symbol.false in
    (c.in_ok-node.ensures.spared supply, constant_read bound (token_at ts c.args.i) live none ∙ c.in_ok-op.ensures.constant ∙ ap Ok (sym c.in_ok-node.ensures.term))
