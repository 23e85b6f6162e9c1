use Rattle.std.proofs.Common.{◌≡◌, ◌++◌, ◌∷◌, [], reverse, subst, refl, ap, sym, ◌∙◌}
use Rattle.std.proofs.lemmas.Result.{err_from_is_err_and}
use Rattle.smt_lex.specs.Forms.{◌⨾◌}
use Rattle.smt_lex.specs.Forest.{token_at}
use Rattle.script_terms.specs.declared.scopes.Entry.TheVariants.{Term as TermEntry}
use Rattle.script_terms.specs.Bound.{name_at}
use Rattle.script_terms.specs.Known.{with_entry}
use Rattle.script_terms.specs.Parts.{value_first, named_parts}
use Rattle.script_terms.specs.Places.{form_from, forms_from}
use Rattle.script_terms.specs.Read.{term_names}
use Rattle.script_terms.specs.Refusals.{mapped}
use Rattle.script_terms.specs.TermClauses.{defined_name, HasNames}
use Rattle.script_terms.proofs.NamesOfTerms.{with_one_more, one_is_some, has_live, has_one_more, unnamed_part, named_part, mapped_from_none, one_more_named, name_refused, all_named}
use Rattle.script_terms.proofs.terms.term_names.name_term.Goals as goal

pub loop-defines-init : goal.loop-defines-init
loop-defines-init c = record {
  place = c.requires.attributes;
  names = [];
  scope = refl;
  definitions = refl;
  named = refl;
  has = λ t live shown. has_live t c.args.scope.now live shown;
  rest = λ t live shown. mapped_from_none _;
}

-- an attribute that gives no name
pub loop-defines-preserved : goal.loop-defines-preserved
loop-defines-preserved c =
    let inv = c.loop-defines.invariant in
    let ts = c.args.forest.now.tokens in
    let f = form_from ts c.loop-defines.i in
    let forms : forms_from ts c.loop-defines.i ≡ f ⨾ forms_from ts c.after-value.result =
    (c.begins.ensures.yes c.loop-defines-test.true).forms ∙ ap (λ n. f ⨾ forms_from ts n) (sym c.after-value.ensures.behind) in
    record {
      place = c.after-value.ensures.within.1;
      names = inv.names;
      scope = inv.scope;
      definitions = inv.definitions;
      named = inv.named;
      has = inv.has;
      rest = λ t live shown. inv.rest t live shown
          ∙ ap (λ ps. mapped (λ ms. inv.names ++ ms) (term_names (defined_name ts c.args.defines) (token_at ts c.args.frame.list).start (reverse inv.names) ps live))
          (ap named_parts forms ∙ unnamed_part f (forms_from ts c.after-value.result) (sym c.names.ensures ∙ c.if-names.false));
    }

pub loop-defines-preserved-in_ok-bind : goal.loop-defines-preserved-in_ok-bind
loop-defines-preserved-in_ok-bind c =
    let inv = c.loop-defines.invariant in
    let ts = c.args.forest.now.tokens in
    let f = form_from ts c.loop-defines.i in
    let value = c.after-value.result in
    let n = name_at ts value in
    let defines = defined_name ts c.args.defines in
    let place = (token_at ts c.args.frame.list).start in
    let forms : forms_from ts c.loop-defines.i ≡ f ⨾ forms_from ts value =
    (c.begins.ensures.yes c.loop-defines-test.true).forms ∙ ap (λ m. f ⨾ forms_from ts m) (sym c.after-value.ensures.behind) in
    let bound : c.bind.new.self ≡ with_entry n (TermEntry c.args.node) c.loop-defines.scope =
    c.in_ok-bind.ensures.entry ∙ ap (λ m. with_entry m (TermEntry c.args.node) c.loop-defines.scope) c.name.ensures in
    record {
      place = c.after-value.ensures.within.1;
      names = inv.names ++ n ∷ [];
      scope = bound ∙ ap (with_entry n (TermEntry c.args.node)) inv.scope ∙ sym (with_one_more inv.names n c.args.node c.args.scope.now);
      definitions = c.bind.ensures.definitions ∙ inv.definitions;
      named = sym (one_is_some inv.names n);
      has = λ t live shown. subst (λ s. HasNames s live (reverse (inv.names ++ n ∷ []))) (sym bound) (has_one_more c.loop-defines.scope live inv.names n (TermEntry c.args.node) (inv.has t live shown));
      rest = λ t live shown. inv.rest t live shown
          ∙ ap (λ ps. mapped (λ ms. inv.names ++ ms) (term_names defines place (reverse inv.names) ps live)) (ap named_parts forms ∙ named_part f (forms_from ts value) (sym c.names.ensures ∙ c.if-names.true))
          ∙ one_more_named defines place live inv.names (value_first (forms_from ts value)) (named_parts (forms_from ts value)) n (c.in_ok-check_term_name.ensures.test live (reverse inv.names) (inv.has t live shown));
    }

pub returns-in_err-check_term_name-clause-names : goal.returns-in_err-check_term_name-clause-names
returns-in_err-check_term_name-clause-names c =
    let inv = c.loop-defines.invariant in
    let ts = c.args.forest.now.tokens in
    let f = form_from ts c.loop-defines.i in
    let value = c.after-value.result in
    let defines = defined_name ts c.args.defines in
    let place = (token_at ts c.args.frame.list).start in
    let forms : forms_from ts c.loop-defines.i ≡ f ⨾ forms_from ts value =
    (c.begins.ensures.yes c.loop-defines-test.true).forms ∙ ap (λ m. f ⨾ forms_from ts m) (sym c.after-value.ensures.behind) in
    let p = err_from_is_err_and c.from_residual.result c.from_residual.ensures.1 in
    rw (p.1, p.2)
    (λ t live shown. inv.rest t live shown
    ∙ ap (λ ps. mapped (λ ms. inv.names ++ ms) (term_names defines place (reverse inv.names) ps live)) (ap named_parts forms ∙ named_part f (forms_from ts value) (sym c.names.ensures ∙ c.if-names.true))
    ∙ name_refused defines place live inv.names (value_first (forms_from ts value)) (named_parts (forms_from ts value)) _ (c.in_err-check_term_name.ensures.test live (reverse inv.names) (inv.has t live shown)))

pub returns-in_err-check_term_name-clause-definitions : goal.returns-in_err-check_term_name-clause-definitions
returns-in_err-check_term_name-clause-definitions c = c.loop-defines.invariant.definitions

pub returns-in_err-bind-clause-definitions : goal.returns-in_err-bind-clause-definitions
returns-in_err-bind-clause-definitions c = c.in_err-bind.ensures.definitions ∙ c.loop-defines.invariant.definitions

pub returns-clause-definitions : goal.returns-clause-definitions
returns-clause-definitions c = c.loop-defines.invariant.definitions

pub returns-clause-names : goal.returns-clause-names
returns-clause-names c =
    let inv = c.loop-defines.invariant in
    let ts = c.args.forest.now.tokens in (
      inv.names,
      inv.scope,
      inv.named,
      λ t live shown. inv.rest t live shown
          ∙ ap (λ fs. mapped (λ ms. inv.names ++ ms) (term_names (defined_name ts c.args.defines) (token_at ts c.args.frame.list).start (reverse inv.names) (named_parts fs) live)) (c.begins.ensures.no c.loop-defines-test.false)
          ∙ all_named inv.names,
    )
