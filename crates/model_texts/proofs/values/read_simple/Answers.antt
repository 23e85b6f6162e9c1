use Rattle.std.proofs.Common.{◌≡◌, ◌==◌, if◌then◌else◌, Ok, refl, sym, ap, subst, ◌∙◌}
use Rattle.std.proofs.lemmas.Bool.Decides.{Decides-eqb}
use Rattle.smt_lex.specs.Lex.{name_of}
use Rattle.smt_lex.specs.Forest.{token_at}
use Rattle.smt_terms.proofs.Tests.{both_true}
use Rattle.smt_values.specs.Meaning.{meaning, IsHeld}
use Rattle.smt_values.specs.SortIds.{sort_at, is_free}
use Rattle.smt_values.specs.declared.value.Value.{Value}
use Rattle.smt_values.specs.declared.value.Value.TheVariants.{Scalar, Element as ElementHeld}
use Rattle.smt_values.proofs.Alike.{scalar_valid}
use Rattle.smt_terms.specs.Values as plain
use Rattle.script_terms.specs.Parts.{place_of}
use Rattle.script_terms.specs.Places.{form_from}
use Rattle.script_read.specs.CommandLists.{free_name}
use Rattle.models.specs.LiveNumbers.{IsFreeSort}
use Rattle.model_texts.specs.Met.{names_kept, with_name}
use Rattle.model_texts.specs.Reading.{beside, place_among, names_in}
use Rattle.model_texts.specs.Replies.{AreElementsOf, Replies}
use Rattle.model_texts.specs.Shapes.{shape_of, constant, element}
use Rattle.model_texts.specs.ValueForms.{is_sort_form}
use Rattle.model_texts.specs.declared.faults.Cause.TheVariants.{ModelSort}
use Rattle.model_texts.proofs.ElementNames.{element_met}
use Rattle.model_texts.proofs.SimpleValues.{refused_reply, constant_at, element_at, array_refused, shape_reads, not_declared, declared_met, element_valid}
use Rattle.model_texts.proofs.values.read_simple.Goals as goal

pub returns-in-Ok-clause-value : goal.returns-in-Ok-clause-value
returns-in-Ok-clause-value c es known =
    let ts = c.args.forest.now.tokens in
    let f = form_from ts c.args.at in
    let ss = c.args.table.now.sorts in
    let s = sort_at ss c.args.sort in
    let shape = constant_at ts (shape_of f) c.in-Constant.literal c.in-Constant.ensures in
    let read = c.in-Ok.ensures.scalar ss shape.0 c.requires.sorts c.requires.sort shape.2 in
    subst (λ q. Replies (λ (v : Value) (w : plain.Value). IsHeld v × (meaning v ≡ w)) (AreElementsOf c.args.table.now (names_kept c.args.elements.now)) q (Ok (Scalar c.in-Ok.scalar)))
    (sym (shape_reads f s es (constant shape.0) shape.1 ∙ ap (beside es) (read.1 (place_of f)))) ((read.0, refl), known)

pub returns-in-Ok-clause-valid : goal.returns-in-Ok-clause-valid
returns-in-Ok-clause-valid c =
    let ts = c.args.forest.now.tokens in
    let ss = c.args.table.now.sorts in
    let shape = constant_at ts (shape_of (form_from ts c.args.at)) c.in-Constant.literal c.in-Constant.ensures in
    record {
      held = (c.in-Ok.ensures.scalar ss shape.0 c.requires.sorts c.requires.sort shape.2).0;
      valid = λ sizes large. scalar_valid c.in-Ok.scalar (sort_at ss c.args.sort) sizes (c.in-Ok.ensures.sort ss);
    }

pub returns-in-Err-clause-value : goal.returns-in-Err-clause-value
returns-in-Err-clause-value c es known =
    let ts = c.args.forest.now.tokens in
    let f = form_from ts c.args.at in
    let ss = c.args.table.now.sorts in
    let shape = constant_at ts (shape_of f) c.in-Constant.literal c.in-Constant.ensures in
    let read = c.in-Err.ensures.scalar ss shape.0 c.requires.sorts c.requires.sort shape.2 in
    refused_reply _ _ _ c.refused.result c.in-Err.cause (place_of f)
    (shape_reads f (sort_at ss c.args.sort) es (constant shape.0) shape.1 ∙ ap (beside es) (read (place_of f))) c.refused.ensures

pub returns-then-not-is_declared_sort_at-clause-value : goal.returns-then-not-is_declared_sort_at-clause-value
returns-then-not-is_declared_sort_at-clause-value c es known =
    let ts = c.args.forest.now.tokens in
    let f = form_from ts c.args.at in
    let s = sort_at c.args.table.now.sorts c.args.sort in
    let n = name_of (token_at ts c.in-Element.name) in
    let g = form_from ts c.in-Element.written in
    refused_reply _ _ _ c.refused-then-not-is_declared_sort_at.result ModelSort (place_of f)
    (shape_reads f s es (element n g) (element_at ts (shape_of f) c.in-Element.name c.in-Element.written c.in-Element.ensures)
    ∙ not_declared (place_of f) s n g es (sym c.is_declared_sort_at.ensures ∙ c.if-not-is_declared_sort_at.true))
    c.refused-then-not-is_declared_sort_at.ensures

pub returns-in_ok-meet-in-Element-clause-value : goal.returns-in_ok-meet-in-Element-clause-value
returns-in_ok-meet-in-Element-clause-value c es known =
    let t = c.args.table.now in
    let ts = c.args.forest.now.tokens in
    let f = form_from ts c.args.at in
    let s = sort_at t.sorts c.args.sort in
    let n = name_of (token_at ts c.in-Element.name) in
    let g = form_from ts c.in-Element.written in
    let old = c.args.elements.now in
    let new = c.meet.new.self in
    let declared = sym c.is_declared_sort_at.ensures ∙ c.if-not-is_declared_sort_at.false in
    let free : IsFreeSort t c.args.sort = (c.requires.sort, (both_true (is_free s) (is_sort_form s g) declared).0) in
    let number : c.in_ok-meet-in-Element.field-0 ≡ place_among (names_in es (free_name s)) n =
    c.in_ok-meet-in-Element.ensures.number ∙ (λ i. place_among (sym (known c.args.sort free) i) (c.name.ensures i)) in
    subst (λ q. Replies (λ (v : Value) (w : plain.Value). IsHeld v × (meaning v ≡ w)) (AreElementsOf t (names_kept new)) q (Ok (ElementHeld c.in_ok-meet-in-Element.field-0)))
    (sym (shape_reads f s es (element n g) (element_at ts (shape_of f) c.in-Element.name c.in-Element.written c.in-Element.ensures) ∙ declared_met (place_of f) s n g es declared)) (
      (tt, ap plain.element number),
      element_met t c.requires.sorts c.args.sort free old new n
          (λ q. c.in_ok-meet-in-Element.ensures.met q ∙ ap (λ m. if q.0 == c.args.sort.0 then with_name m (names_kept old q) else names_kept old q) c.name.ensures) es known,
    )

pub returns-in_ok-meet-in-Element-clause-valid : goal.returns-in_ok-meet-in-Element-clause-valid
returns-in_ok-meet-in-Element-clause-valid c =
    let t = c.args.table.now in
    let s = sort_at t.sorts c.args.sort in
    let g = form_from c.args.forest.now.tokens c.in-Element.written in
    let old = names_kept c.args.elements.now c.args.sort in
    let n = c.name.result.now in
    let free : IsFreeSort t c.args.sort = (c.requires.sort, (both_true (is_free s) (is_sort_form s g) (sym c.is_declared_sort_at.ensures ∙ c.if-not-is_declared_sort_at.false)).0) in
    record {
      held = tt;
      valid = element_valid t c.meet.new.self c.args.sort free old n
          (c.in_ok-meet-in-Element.ensures.met c.args.sort ∙ ap (λ b. if b then with_name n old else old) ((Decides-eqb c.args.sort.0 c.args.sort.0).1 refl))
          c.in_ok-meet-in-Element.field-0 c.in_ok-meet-in-Element.ensures.number;
    }

pub returns-in-Filled-clause-value : goal.returns-in-Filled-clause-value
returns-in-Filled-clause-value c es known =
    let ts = c.args.forest.now.tokens in
    let f = form_from ts c.args.at in
    let s = sort_at c.args.table.now.sorts c.args.sort in
    refused_reply _ _ _ c.refused-in-Filled.result ModelSort (place_of f)
    (shape_reads f s es (shape_of f) refl ∙ array_refused ts (place_of f) s c.requires.simple es (shape_of f) c.shape_at.result c.shape_at.ensures c.in-Filled.is) c.refused-in-Filled.ensures
