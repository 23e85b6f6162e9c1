use Rattle.std.proofs.Common.{◌≡◌, ℕ, ◌<◌, List, length, get_or, Some, None, option_map, Ok, sym, ap, ◌∙◌, subst, arith}
use Rattle.std.proofs.lemmas.Option.{get_or_from_slice_get}
use Rattle.std.proofs.lemmas.Result.{err_from_is_err_and}
use Rattle.smt_lex.specs.Forest.{token_at}
use Rattle.smt_lex.specs.Names.{Name}
use Rattle.smt_terms.specs.Fresh.{Supply}
use Rattle.term_table.specs.Formulas.{Formulas}
use Rattle.term_subst.specs.declared.maps.Definition.{Definition}
use Rattle.script_terms.specs.declared.causes.Cause.TheVariants.{WrongArity}
use Rattle.script_terms.specs.declared.scopes.Entry.{Entry}
use Rattle.script_terms.specs.declared.scopes.Entry.TheVariants.{Symbol as SymbolEntry, Constant as ConstantEntry, Definition as DefinitionEntry, Term as TermEntry}
use Rattle.script_terms.specs.Bound.{name_at}
use Rattle.script_terms.specs.Known.{Scoping, find, no_definition, meant_by, IsEntry, IsSpared, Shows}
use Rattle.script_terms.specs.Reading.{ReadBinding, entry_of}
use Rattle.script_terms.proofs.ScopeNames.{entry_is}
use Rattle.script_terms.proofs.Refusing.{refused_at}
use Rattle.script_terms.proofs.Refusing.{refuses_as}
use Rattle.script_terms.proofs.Showing.{constant_spared, entry_found, entry_meant}
use Rattle.script_terms.proofs.SymbolsRead.{unknown_read, constant_node_read, arguments_missing, named_read, alone_read, operands_missing, same_reading, still_refuses, no_items}
use Rattle.script_terms.proofs.terms.atoms.live_symbol.Goals as goal

module _ (t : Formulas) (supply : Supply) (s : Scoping) (live : List ReadBinding) (shows : Shows t supply s live) (n : Name) where
  known : (e : Entry) → find s.terms n ≡ Some e → IsEntry t supply s.definitions n e
  known e found = entry_is t supply s.definitions n e s.terms shows.numbers.terms found

  same : option_map (meant_by t s.definitions) (find s.terms n) ≡ option_map entry_meant (entry_of live n)
  same = entry_found t s live shows.terms n

  body_spared : (k : ℕ) (d : Definition) → find s.terms n ≡ Some (DefinitionEntry k) → get_or s.definitions k no_definition ≡ d → IsSpared t supply d.body
  body_spared k d found got = subst (λ x. IsSpared t supply x.body) got (shows.numbers.definitions k no_definition (known (DefinitionEntry k) found)).body

pub returns-in-Some-Constant-clause-term : goal.returns-in-Some-Constant-clause-term
returns-in-Some-Constant-clause-term c supply live shows =
    let t = c.args.table.now in
    let n = name_at c.args.forest.now.tokens c.args.i in
    let k = c.in-Some-Constant.constant in
    let found : find c.args.scope.now.terms n ≡ Some (ConstantEntry k) =
    ap (find c.args.scope.now.terms) (sym c.name.ensures) ∙ sym c.find.ensures ∙ c.in-Some-Constant.is ∙ ap Some c.in-Some-Constant.field-0-is in
    let constant = (known t supply c.args.scope.now live shows n (ConstantEntry k) found).constant in (
      constant_spared t supply k constant,
      constant_node_read t c.args.scope.now.definitions (token_at c.args.forest.now.tokens c.args.i).start n (find c.args.scope.now.terms n) (entry_of live n) (same t supply c.args.scope.now live shows n) supply k found constant,
    )

pub returns-in-Some-Symbol-clause-term : goal.returns-in-Some-Symbol-clause-term
returns-in-Some-Symbol-clause-term c supply live shows =
    let t = c.args.table.now in
    let n = name_at c.args.forest.now.tokens c.args.i in
    let f = c.in-Some-Symbol.field-0-0 in
    let found : find c.args.scope.now.terms n ≡ Some (SymbolEntry f) =
    ap (find c.args.scope.now.terms) (sym c.name.ensures) ∙ sym c.find.ensures ∙ c.in-Some-Symbol.is ∙ ap Some c.in-Some-Symbol.field-0-is in
    let function = known t supply c.args.scope.now live shows n (SymbolEntry f) found in
    refuses_as _ c.into.result c.fault.result c.into.ensures
    (arguments_missing t c.args.scope.now.definitions (token_at c.args.forest.now.tokens c.args.i).start n (find c.args.scope.now.terms n) (entry_of live n) (same t supply c.args.scope.now live shows n) f found function.args
    ∙ refused_at c.fault.result WrongArity _ c.fault.ensures.cause c.fault.ensures.start)

pub definition-definition-requires : goal.definition-definition-requires
definition-definition-requires c =
    let n = name_at c.args.forest.now.tokens c.args.i in
    let found : find c.args.scope.now.terms n ≡ Some (DefinitionEntry c.in-Some-Definition.number) =
    ap (find c.args.scope.now.terms) (sym c.name.ensures) ∙ sym c.find.ensures ∙ c.in-Some-Definition.is ∙ ap Some c.in-Some-Definition.field-0-is in
    known c.args.table.now c.requires.known.0 c.args.scope.now c.requires.known.1 c.requires.known.2 n (DefinitionEntry c.in-Some-Definition.number) found

pub returns-then-len-gt0-clause-term : goal.returns-then-len-gt0-clause-term
returns-then-len-gt0-clause-term c supply live shows =
    let t = c.args.table.now in
    let n = name_at c.args.forest.now.tokens c.args.i in
    let k = c.in-Some-Definition.number in
    let d = c.definition-definition.result.now in
    let found : find c.args.scope.now.terms n ≡ Some (DefinitionEntry k) =
    ap (find c.args.scope.now.terms) (sym c.name.ensures) ∙ sym c.find.ensures ∙ c.in-Some-Definition.is ∙ ap Some c.in-Some-Definition.field-0-is in
    let got = get_or_from_slice_get c.args.scope.now.definitions k d no_definition c.definition-definition.ensures in
    let some : 0 < length d.params = omega (arith, c.if-len-gt0.true, c.len.ensures) in
    refuses_as _ c.into-then-len-gt0.result c.fault-then-len-gt0.result c.into-then-len-gt0.ensures
    (operands_missing t c.args.scope.now.definitions (token_at c.args.forest.now.tokens c.args.i).start n (find c.args.scope.now.terms n) (entry_of live n) (same t supply c.args.scope.now live shows n) k d found got some
    ∙ refused_at c.fault-then-len-gt0.result WrongArity _ c.fault-then-len-gt0.ensures.cause c.fault-then-len-gt0.ensures.start)

pub returns-else-len-gt0-clause-term : goal.returns-else-len-gt0-clause-term
returns-else-len-gt0-clause-term c supply live shows =
    let t = c.args.table.now in
    let n = name_at c.args.forest.now.tokens c.args.i in
    let k = c.in-Some-Definition.number in
    let d = c.definition-definition.result.now in
    let found : find c.args.scope.now.terms n ≡ Some (DefinitionEntry k) =
    ap (find c.args.scope.now.terms) (sym c.name.ensures) ∙ sym c.find.ensures ∙ c.in-Some-Definition.is ∙ ap Some c.in-Some-Definition.field-0-is in
    let got = get_or_from_slice_get c.args.scope.now.definitions k d no_definition c.definition-definition.ensures in
    let none : length d.params ≡ 0 = omega (arith, c.if-len-gt0.false, c.len.ensures) in (
      body_spared t supply c.args.scope.now live shows n k d found got,
      alone_read t c.args.scope.now.definitions (token_at c.args.forest.now.tokens c.args.i).start n (find c.args.scope.now.terms n) (entry_of live n) (same t supply c.args.scope.now live shows n) k d found got (no_items d.params none),
    )

pub returns-in-Some-Term-clause-term : goal.returns-in-Some-Term-clause-term
returns-in-Some-Term-clause-term c supply live shows =
    let t = c.args.table.now in
    let n = name_at c.args.forest.now.tokens c.args.i in
    let k = c.in-Some-Term.node in
    let found : find c.args.scope.now.terms n ≡ Some (TermEntry k) =
    ap (find c.args.scope.now.terms) (sym c.name.ensures) ∙ sym c.find.ensures ∙ c.in-Some-Term.is ∙ ap Some c.in-Some-Term.field-0-is in (
      known t supply c.args.scope.now live shows n (TermEntry k) found,
      named_read t c.args.scope.now.definitions (token_at c.args.forest.now.tokens c.args.i).start n (find c.args.scope.now.terms n) (entry_of live n) (same t supply c.args.scope.now live shows n) k found,
    )

pub returns-in_ok-node-in-None-clause-term : goal.returns-in_ok-node-in-None-clause-term
returns-in_ok-node-in-None-clause-term c supply live shows =
    let n = name_at c.args.forest.now.tokens c.args.i in
    let missing : find c.args.scope.now.terms n ≡ None = ap (find c.args.scope.now.terms) (sym c.name.ensures) ∙ sym c.find.ensures ∙ c.in-None.is in
    same_reading c.theory_symbol.new.table supply _ _ (Ok c.in_ok-node-in-None.node)
    (unknown_read c.args.table.now c.args.scope.now.definitions (token_at c.args.forest.now.tokens c.args.i).start n (find c.args.scope.now.terms n) (entry_of live n) (same c.args.table.now supply c.args.scope.now live shows n) missing)
    (c.in_ok-node-in-None.ensures.term supply)

pub returns-in_err-node-in-None-clause-term : goal.returns-in_err-node-in-None-clause-term
returns-in_err-node-in-None-clause-term c supply live shows =
    let n = name_at c.args.forest.now.tokens c.args.i in
    let missing : find c.args.scope.now.terms n ≡ None = ap (find c.args.scope.now.terms) (sym c.name.ensures) ∙ sym c.find.ensures ∙ c.in-None.is in
    let p = err_from_is_err_and c.from_residual.result c.from_residual.ensures.1 in
    rw (p.1, p.2)
    (still_refuses _ _ c.in_err-node-in-None.field-0.0
    (unknown_read c.args.table.now c.args.scope.now.definitions (token_at c.args.forest.now.tokens c.args.i).start n (find c.args.scope.now.terms n) (entry_of live n) (same c.args.table.now supply c.args.scope.now live shows n) missing)
    (c.in_err-node-in-None.ensures.term supply))
