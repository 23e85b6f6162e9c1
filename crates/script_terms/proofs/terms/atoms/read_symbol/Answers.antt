use Rattle.std.proofs.Common.{◌≡◌, Some, None, Ok, sym, ap, ◌∙◌, subst}
use Rattle.smt_lex.specs.Forest.{token_at}
use Rattle.script_terms.specs.Bound.{name_at, innermost}
use Rattle.script_terms.specs.Heads.{symbol_term}
use Rattle.script_terms.specs.Known.{IsSpared}
use Rattle.script_terms.specs.Reading.{entry_of}
use Rattle.term_table.specs.Formulas.{tree}
use Rattle.script_terms.proofs.ShowingLocals.{bound_none, bound_some, bound_spared}
use Rattle.std.proofs.lemmas.Result.{err_from_is_err_and}
use Rattle.script_terms.proofs.SymbolsRead.{same_reading, still_refuses}
use Rattle.script_terms.proofs.terms.atoms.read_symbol.Goals as goal

pub returns-in-Some-clause-term : goal.returns-in-Some-clause-term
returns-in-Some-clause-term c supply live bound shows shows_locals =
    let t = c.args.table.now in
    let n = name_at c.args.forest.now.tokens c.args.i in
    let found : innermost c.args.locals.now n ≡ Some c.in-Some.local = ap (innermost c.args.locals.now) (sym c.name.ensures) ∙ sym c.find.ensures ∙ c.in-Some.is in (
      subst (IsSpared t supply) (sym c.node_of.ensures) (bound_spared t supply c.args.locals.now bound shows_locals n c.in-Some.local found),
      ap (λ o. symbol_term (token_at c.args.forest.now.tokens c.args.i).start n o (entry_of live n)) (bound_some t supply c.args.locals.now bound shows_locals n c.in-Some.local found)
          ∙ ap (λ k. Ok (tree t k)) (sym c.node_of.ensures),
    )

pub live_symbol-requires-clause-known : goal.live_symbol-requires-clause-known
live_symbol-requires-clause-known c = (c.requires.known.supply, c.requires.known.live, c.requires.known.shows)

pub returns-in_ok-node-in-None-clause-term : goal.returns-in_ok-node-in-None-clause-term
returns-in_ok-node-in-None-clause-term c supply live bound shows shows_locals =
    let n = name_at c.args.forest.now.tokens c.args.i in
    let missing : innermost c.args.locals.now n ≡ None = ap (innermost c.args.locals.now) (sym c.name.ensures) ∙ sym c.find.ensures ∙ c.in-None.is in
    same_reading c.live_symbol.new.table supply _ _ (Ok c.in_ok-node-in-None.node)
    (ap (λ o. symbol_term (token_at c.args.forest.now.tokens c.args.i).start n o (entry_of live n)) (bound_none c.args.table.now supply c.args.locals.now bound shows_locals n missing))
    (c.in_ok-node-in-None.ensures.term supply live shows)

pub returns-in_err-node-in-None-clause-term : goal.returns-in_err-node-in-None-clause-term
returns-in_err-node-in-None-clause-term c supply live bound shows shows_locals =
    let n = name_at c.args.forest.now.tokens c.args.i in
    let missing : innermost c.args.locals.now n ≡ None = ap (innermost c.args.locals.now) (sym c.name.ensures) ∙ sym c.find.ensures ∙ c.in-None.is in
    let p = err_from_is_err_and c.from_residual.result c.from_residual.ensures.1 in
    rw (p.1, p.2)
    (still_refuses _ _ c.in_err-node-in-None.field-0.0
    (ap (λ o. symbol_term (token_at c.args.forest.now.tokens c.args.i).start n o (entry_of live n)) (bound_none c.args.table.now supply c.args.locals.now bound shows_locals n missing))
    (c.in_err-node-in-None.ensures.term supply live shows))
