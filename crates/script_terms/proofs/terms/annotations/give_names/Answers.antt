use Rattle.std.proofs.Common.{[], Option, Ok, sym, ap, ◌∙◌, subst}
use Rattle.std.proofs.lemmas.Result.{err_from_is_err_and}
use Rattle.smt_lex.specs.Forest.{token_at}
use Rattle.smt_lex.specs.Names.{Name}
use Rattle.term_table.specs.Formulas.{tree}
use Rattle.script_terms.specs.declared.causes.Cause.TheVariants.{BadForm}
use Rattle.script_terms.specs.Known.{Scoping}
use Rattle.script_terms.specs.Parts.{named_parts}
use Rattle.script_terms.specs.Places.{forms_from}
use Rattle.script_terms.specs.Read.{term_names}
use Rattle.script_terms.specs.Replies.{Refuses}
use Rattle.script_terms.specs.TermClauses.{naming, NamesGiven}
use Rattle.script_terms.proofs.NamesOfTerms.{naming_refused, no_names, some_names, names_mention}
use Rattle.script_terms.proofs.Refusing.{refused_at}
use Rattle.script_terms.proofs.terms.annotations.give_names.Goals as goal

pub returns-in_err-is_named-clause-names : goal.returns-in_err-is_named-clause-names
returns-in_err-is_named-clause-names c supply live cx f shows shows_locals same spared =
    let t = c.args.table.now in
    let place = (token_at c.args.forest.now.tokens c.args.frame.list).start in
    let attributes = forms_from c.args.forest.now.tokens c.args.frame.attributes in
    let p = err_from_is_err_and c.from_residual.result c.from_residual.ensures.1 in
    rw (p.1, p.2)
    (naming_refused t supply c.args.scope.now live shows c.args.node spared place attributes cx f c.in_err-is_named.field-0.0
    (subst (λ (d : Option Name). Refuses (term_names d place [] (named_parts attributes) live) c.in_err-is_named.field-0.0) (sym same) (c.in_err-is_named.ensures.names t live shows.terms)))

pub returns-then-not-is_named-clause-names : goal.returns-then-not-is_named-clause-names
returns-then-not-is_named-clause-names c supply live cx f shows shows_locals same spared =
    let t = c.args.table.now in
    let place = (token_at c.args.forest.now.tokens c.args.frame.list).start in
    let attributes = forms_from c.args.forest.now.tokens c.args.frame.attributes in
    let x = c.in_ok-is_named.ensures.names in
    let names = ap (λ (d : Option Name). term_names d place [] (named_parts attributes) live) same ∙ x.3 t live shows.terms in
    subst (λ (s : Scoping). NamesGiven t supply s c.args.node (naming place attributes cx f (tree t c.args.node) (record { live = live; supply = supply })) (Ok tt)) (sym x.1)
    (no_names t supply c.args.scope.now live shows c.args.node spared place attributes cx f x.0 names (sym x.2 ∙ c.if-not-is_named.true))

pub returns-clause-names : goal.returns-clause-names
returns-clause-names c supply live cx f shows shows_locals same spared =
    let t = c.args.table.now in
    let place = (token_at c.args.forest.now.tokens c.args.frame.list).start in
    let attributes = forms_from c.args.forest.now.tokens c.args.frame.attributes in
    let x = c.in_ok-is_named.ensures.names in
    let names = ap (λ (d : Option Name). term_names d place [] (named_parts attributes) live) same ∙ x.3 t live shows.terms in
    subst (λ (s : Scoping). NamesGiven t supply s c.args.node (naming place attributes cx f (tree t c.args.node) (record { live = live; supply = supply })) (Ok tt)) (sym x.1)
    (some_names t supply c.args.scope.now live shows c.args.node spared place attributes cx f x.0 names (sym x.2 ∙ c.if-not-is_named.false) (sym (c.in_ok-mentions.ensures supply cx.locals shows_locals) ∙ c.if-mentions.false))

pub returns-then-mentions-clause-names : goal.returns-then-mentions-clause-names
returns-then-mentions-clause-names c supply live cx f shows shows_locals same spared =
    let t = c.args.table.now in
    let place = (token_at c.args.forest.now.tokens c.args.frame.list).start in
    let attributes = forms_from c.args.forest.now.tokens c.args.frame.attributes in
    let x = c.in_ok-is_named.ensures.names in
    let names = ap (λ (d : Option Name). term_names d place [] (named_parts attributes) live) same ∙ x.3 t live shows.terms in
    names_mention t supply c.args.scope.now live shows c.args.node spared place attributes cx f x.0 names (sym x.2 ∙ c.if-not-is_named.false) (sym (c.in_ok-mentions.ensures supply cx.locals shows_locals) ∙ c.if-mentions.true)
    ∙ refused_at c.bad_form.result BadForm place c.bad_form.ensures.cause c.bad_form.ensures.start
