use Rattle.std.proofs.Common.{List, map, length, refl, ap, sym, ◌∙◌}
use Rattle.smt_lex.specs.Forms.{Form}
use Rattle.smt_lex.specs.Names.{Name}
use Rattle.smt_terms.specs.Sorts.{Sort, Variable}
use Rattle.smt_values.specs.SortIds.{sort_at}
use Rattle.term_table.specs.Formulas.{tree}
use Rattle.term_subst.specs.declared.maps.Definition.{Definition}
use Rattle.term_walk.specs.Walking.{GrowsTo}
use Rattle.term_walk.proofs.Visits.{table-grows}
use Rattle.script_terms.specs.declared.binders.SortedName.{SortedName}
use Rattle.script_terms.specs.declared.locals.Constant.{Constant}
use Rattle.script_terms.specs.Bound.{name_at, variables_seen}
use Rattle.script_terms.specs.Known.{find, with_definition, parameters_of}
use Rattle.script_terms.specs.Places.{form_from}
use Rattle.script_terms.specs.Read.{has_sort}
use Rattle.script_read.specs.Script.{body_context}
use Rattle.script_read.specs.Steps.{no_command}
use Rattle.script_read.proofs.DefinitionSteps.{ShowsParameters, same_lengths, seen_from, sorts_seen, locals_by, still_free, is_definition, body_refused, body_missorted, body_defined}
use Rattle.script_terms.proofs.Grown.{sort_stays}
use Rattle.script_terms.proofs.Refusing.{refused_at}
use Rattle.script_read.proofs.SessionSteps.{steps_refused, refuses_whole, stands_grown}
use Rattle.script_terms.proofs.Refusing.{refuses_as}
use Rattle.script_read.proofs.session.definitions.define_body.Goals as goal

pub bind_parameters-requires-clause-constants : goal.bind_parameters-requires-clause-constants
bind_parameters-requires-clause-constants c =
    ap length c.deref-3.ensures.value
    ∙ same_lengths c.parameter_constants.new.table c.args.table.now c.in_ok-constants.constants.items c.deref.result.now c.in_ok-constants.ensures.symbols
    ∙ ap length (c.deref.ensures.value ∙ sym c.deref-2.ensures.value)

pub read_term-requires-clause-known : goal.read_term-requires-clause-known
read_term-requires-clause-known c =
    (c.requires.known.0.sofar.live, (stands_grown c.args.table.now c.parameter_constants.new.table c.args.session.now c.requires.known.0 c.in_ok-constants.ensures.grows c.requires.known.1).shows)

pub read_term-requires-clause-locals : goal.read_term-requires-clause-locals
read_term-requires-clause-locals c = (
  body_context (name_at c.args.forest.now.tokens c.args.name) (variables_seen c.args.table.now c.args.forest.now.tokens c.args.header.now.parameters.items),
  locals_by c.args.forest.now.tokens c.args.header.now.parameters.items c.deref-2.result.now c.in_ok-constants.constants.items c.deref-3.result.now c.in_ok-locals.locals c.in_ok-locals.ensures c.deref-2.ensures.value c.deref-3.ensures.value
      c.args.table.now c.parameter_constants.new.table c.args.session.now.sofar.fresh
      (seen_from c.parameter_constants.new.table c.args.table.now c.args.forest.now.tokens c.in_ok-constants.constants.items c.args.header.now.parameters.items c.deref.result.now c.deref.ensures.value c.in_ok-constants.ensures.symbols)
      (c.in_ok-constants.ensures.constants c.args.session.now.sofar.fresh),
  refl,
)

pub returns-in_err-node-clause-step : goal.returns-in_err-node-clause-step
returns-in_err-node-clause-step c = λ s stands.
    let shown : ShowsParameters c.args.table.now c.parameter_constants.new.table c.args.session.now.sofar.fresh c.args.forest.now.tokens c.args.header.now.parameters.items c.in_ok-locals.locals =
    locals_by c.args.forest.now.tokens c.args.header.now.parameters.items c.deref-2.result.now c.in_ok-constants.constants.items c.deref-3.result.now c.in_ok-locals.locals c.in_ok-locals.ensures c.deref-2.ensures.value c.deref-3.ensures.value
    c.args.table.now c.parameter_constants.new.table c.args.session.now.sofar.fresh
    (seen_from c.parameter_constants.new.table c.args.table.now c.args.forest.now.tokens c.in_ok-constants.constants.items c.args.header.now.parameters.items c.deref.result.now c.deref.ensures.value c.in_ok-constants.ensures.symbols)
    (c.in_ok-constants.ensures.constants c.args.session.now.sofar.fresh) in
    let n : Name = name_at c.args.forest.now.tokens c.args.name in
    let xs : List Variable = variables_seen c.args.table.now c.args.forest.now.tokens c.args.header.now.parameters.items in
    let body : Form = form_from c.args.forest.now.tokens c.args.body in
    steps_refused no_command c.read_term.new.table _ _ c.from_residual-in_err-node.result c.in_err-node.field-0.0 c.from_residual-in_err-node.ensures.1
    (refuses_whole _ _ c.in_err-node.field-0.0
    (λ e refused. body_refused c.args.table.now c.args.table.now c.args.session.now s stands n xs (sort_at c.args.table.now.sorts c.args.header.now.sort) body e refused)
    (c.in_err-node.ensures.term (body_context n xs) s.sofar.live (stands_grown c.args.table.now c.parameter_constants.new.table c.args.session.now s c.in_ok-constants.ensures.grows stands).shows shown refl))

pub has_sort-requires-clause-node : goal.has_sort-requires-clause-node
has_sort-requires-clause-node c =
    let shown : ShowsParameters c.args.table.now c.parameter_constants.new.table c.args.session.now.sofar.fresh c.args.forest.now.tokens c.args.header.now.parameters.items c.in_ok-locals.locals =
    locals_by c.args.forest.now.tokens c.args.header.now.parameters.items c.deref-2.result.now c.in_ok-constants.constants.items c.deref-3.result.now c.in_ok-locals.locals c.in_ok-locals.ensures c.deref-2.ensures.value c.deref-3.ensures.value
    c.args.table.now c.parameter_constants.new.table c.args.session.now.sofar.fresh
    (seen_from c.parameter_constants.new.table c.args.table.now c.args.forest.now.tokens c.in_ok-constants.constants.items c.args.header.now.parameters.items c.deref.result.now c.deref.ensures.value c.in_ok-constants.ensures.symbols)
    (c.in_ok-constants.ensures.constants c.args.session.now.sofar.fresh) in
    (c.in_ok-node.ensures.term (body_context (name_at c.args.forest.now.tokens c.args.name) (variables_seen c.args.table.now c.args.forest.now.tokens c.args.header.now.parameters.items)) c.requires.known.0.sofar.live
    (stands_grown c.args.table.now c.parameter_constants.new.table c.args.session.now c.requires.known.0 c.in_ok-constants.ensures.grows c.requires.known.1).shows shown refl).0.node

pub returns-then-not-has_sort-clause-step : goal.returns-then-not-has_sort-clause-step
returns-then-not-has_sort-clause-step c = λ s stands.
    let shown : ShowsParameters c.args.table.now c.parameter_constants.new.table c.args.session.now.sofar.fresh c.args.forest.now.tokens c.args.header.now.parameters.items c.in_ok-locals.locals =
    locals_by c.args.forest.now.tokens c.args.header.now.parameters.items c.deref-2.result.now c.in_ok-constants.constants.items c.deref-3.result.now c.in_ok-locals.locals c.in_ok-locals.ensures c.deref-2.ensures.value c.deref-3.ensures.value
    c.args.table.now c.parameter_constants.new.table c.args.session.now.sofar.fresh
    (seen_from c.parameter_constants.new.table c.args.table.now c.args.forest.now.tokens c.in_ok-constants.constants.items c.args.header.now.parameters.items c.deref.result.now c.deref.ensures.value c.in_ok-constants.ensures.symbols)
    (c.in_ok-constants.ensures.constants c.args.session.now.sofar.fresh) in
    let n : Name = name_at c.args.forest.now.tokens c.args.name in
    let xs : List Variable = variables_seen c.args.table.now c.args.forest.now.tokens c.args.header.now.parameters.items in
    let body : Form = form_from c.args.forest.now.tokens c.args.body in
    let grows : GrowsTo c.args.table.now c.read_term.new.table = table-grows c.args.table.now c.parameter_constants.new.table c.read_term.new.table c.in_ok-constants.ensures.grows c.in_ok-node.ensures.grows in
    refuses_as _ c.into.result c.fault.result c.into.ensures
    (body_missorted c.args.table.now c.read_term.new.table c.args.session.now s stands n xs (sort_at c.args.table.now.sorts c.args.header.now.sort) body c.in_ok-node.node c.read_term.new.sofar.scope c.read_term.new.sofar.fresh
    (c.in_ok-node.ensures.term (body_context n xs) s.sofar.live (stands_grown c.args.table.now c.parameter_constants.new.table c.args.session.now s c.in_ok-constants.ensures.grows stands).shows shown refl).1
    (ap (λ to. has_sort to (tree c.read_term.new.table c.in_ok-node.node)) (sym (sort_stays c.args.table.now.sorts c.read_term.new.table.sorts grows.sorts c.args.header.now.sort c.requires.sort)) ∙ sym c.has_sort.ensures.answer ∙ c.if-not-has_sort.true)
    ∙ refused_at c.fault.result _ _ c.fault.ensures.cause c.fault.ensures.place)

pub define-requires : goal.define-requires
define-requires c =
    let shown : ShowsParameters c.args.table.now c.parameter_constants.new.table c.args.session.now.sofar.fresh c.args.forest.now.tokens c.args.header.now.parameters.items c.in_ok-locals.locals =
    locals_by c.args.forest.now.tokens c.args.header.now.parameters.items c.deref-2.result.now c.in_ok-constants.constants.items c.deref-3.result.now c.in_ok-locals.locals c.in_ok-locals.ensures c.deref-2.ensures.value c.deref-3.ensures.value
    c.args.table.now c.parameter_constants.new.table c.args.session.now.sofar.fresh
    (seen_from c.parameter_constants.new.table c.args.table.now c.args.forest.now.tokens c.in_ok-constants.constants.items c.args.header.now.parameters.items c.deref.result.now c.deref.ensures.value c.in_ok-constants.ensures.symbols)
    (c.in_ok-constants.ensures.constants c.args.session.now.sofar.fresh) in
    let n : Name = name_at c.args.forest.now.tokens c.args.name in
    let xs : List Variable = variables_seen c.args.table.now c.args.forest.now.tokens c.args.header.now.parameters.items in
    let known = (stands_grown c.args.table.now c.parameter_constants.new.table c.args.session.now c.requires.known.0 c.in_ok-constants.ensures.grows c.requires.known.1).shows in
    ap (find c.read_term.new.sofar.scope.terms) c.name.ensures
    ∙ still_free c.parameter_constants.new.table c.read_term.new.table c.args.session.now.sofar.fresh c.read_term.new.sofar.fresh c.args.session.now.sofar.scope c.read_term.new.sofar.scope c.requires.known.0.sofar.live n
    (form_from c.args.forest.now.tokens c.args.body) (body_context n xs) (tree c.read_term.new.table c.in_ok-node.node) known c.requires.free refl
    (c.in_ok-node.ensures.term (body_context n xs) c.requires.known.0.sofar.live known shown refl).1

pub returns-in_err-define-clause-grows : goal.returns-in_err-define-clause-grows
returns-in_err-define-clause-grows c = table-grows c.args.table.now c.parameter_constants.new.table c.read_term.new.table c.in_ok-constants.ensures.grows c.in_ok-node.ensures.grows

pub returns-clause-step : goal.returns-clause-step
returns-clause-step c = λ s stands.
    let shown : ShowsParameters c.args.table.now c.parameter_constants.new.table c.args.session.now.sofar.fresh c.args.forest.now.tokens c.args.header.now.parameters.items c.in_ok-locals.locals =
    locals_by c.args.forest.now.tokens c.args.header.now.parameters.items c.deref-2.result.now c.in_ok-constants.constants.items c.deref-3.result.now c.in_ok-locals.locals c.in_ok-locals.ensures c.deref-2.ensures.value c.deref-3.ensures.value
    c.args.table.now c.parameter_constants.new.table c.args.session.now.sofar.fresh
    (seen_from c.parameter_constants.new.table c.args.table.now c.args.forest.now.tokens c.in_ok-constants.constants.items c.args.header.now.parameters.items c.deref.result.now c.deref.ensures.value c.in_ok-constants.ensures.symbols)
    (c.in_ok-constants.ensures.constants c.args.session.now.sofar.fresh) in
    let n : Name = name_at c.args.forest.now.tokens c.args.name in
    let xs : List Variable = variables_seen c.args.table.now c.args.forest.now.tokens c.args.header.now.parameters.items in
    let body : Form = form_from c.args.forest.now.tokens c.args.body in
    let grows : GrowsTo c.args.table.now c.read_term.new.table = table-grows c.args.table.now c.parameter_constants.new.table c.read_term.new.table c.in_ok-constants.ensures.grows c.in_ok-node.ensures.grows in
    let read = c.in_ok-node.ensures.term (body_context n xs) s.sofar.live (stands_grown c.args.table.now c.parameter_constants.new.table c.args.session.now s c.in_ok-constants.ensures.grows stands).shows shown refl in
    let d : Definition = record { params = c.in_ok-params.params; body = c.in_ok-node.node } in
    let ss : List Sort = map (λ (x : SortedName). sort_at c.args.table.now.sorts x.sort) c.args.header.now.parameters.items in
    let made = is_definition c.parameter_constants.new.table c.read_term.new.table c.args.session.now.sofar.fresh c.read_term.new.sofar.fresh c.in_ok-constants.constants.items ss d c.in_ok-node.ensures.grows
    (c.in_ok-constants.ensures.symbols ∙ ap (λ zs. parameters_of 0 (map (λ (x : SortedName). sort_at c.args.table.now.sorts x.sort) zs)) c.deref.ensures.value)
    (c.in_ok-constants.ensures.constants c.args.session.now.sofar.fresh)
    (c.in_ok-params.ensures ∙ ap (map (λ (k : Constant). k.symbol)) c.deref-4.ensures.value) read.0 in
    body_defined c.args.table.now c.read_term.new.table c.args.session.now s stands n xs (sort_at c.args.table.now.sorts c.args.header.now.sort) body c.in_ok-node.node c.read_term.new.sofar.scope c.read_term.new.sofar.fresh read.1 d c.define.new.self
    (ap (λ to. has_sort to (tree c.read_term.new.table c.in_ok-node.node)) (sym (sort_stays c.args.table.now.sorts c.read_term.new.table.sorts grows.sorts c.args.header.now.sort c.requires.sort)) ∙ sym c.has_sort.ensures.answer ∙ c.if-not-has_sort.false)
    made.0
    (made.1 ∙ sym (sorts_seen c.args.table.now c.args.forest.now.tokens c.args.header.now.parameters.items))
    refl c.requires.own
    (c.in_ok-define.ensures ∙ ap (λ m. with_definition m d c.read_term.new.sofar.scope) c.name.ensures)

pub returns-clause-grows : goal.returns-clause-grows
returns-clause-grows c = table-grows c.args.table.now c.parameter_constants.new.table c.read_term.new.table c.in_ok-constants.ensures.grows c.in_ok-node.ensures.grows
