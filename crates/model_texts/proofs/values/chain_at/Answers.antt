use Rattle.std.proofs.Common.{◌≡◌, ◌<◌, List, ◌∷◌, ◌++◌, [], All, sym, ap, subst, ◌∙◌}
use Rattle.std.proofs.lemmas.List.Elements.{All-nil, All-push}
use Rattle.smt_terms.specs.Sorts.{Sort, array}
use Rattle.script_terms.specs.Places.{IsForm, form_from}
use Rattle.model_texts.specs.declared.values.Stored.{Stored}
use Rattle.model_texts.specs.Chains.{with_stored, all_stored, AreStored}
use Rattle.model_texts.specs.Reading.{Element, ◌>>=◌, continued}
use Rattle.model_texts.specs.Shapes.{shape_of, IsShapeAt}
use Rattle.model_texts.specs.ValueForms.{value_in}
use Rattle.model_texts.proofs.ValueShapes.{gives_last, change_reads, chain_shorter, stored_last, store_at, change_held}
use Rattle.model_texts.proofs.values.chain_at.Goals as goal

pub loop-array-init : goal.loop-array-init
loop-array-init c =
    let ts = c.args.forest.now.tokens in
    (c.requires, subst (AreStored ts) (sym c.new-stores.ensures.items) (All-nil (λ (r : Stored). IsForm ts r.key × IsForm ts r.value)), λ i e es. gives_last (value_in (form_from ts c.args.at) (array i e) es) ∙ ap (λ ss. (value_in (form_from ts c.args.at) (array i e) >>= with_stored i e (all_stored ts ss)) es) (sym c.new-stores.ensures.items))

pub shape_at-requires : goal.shape_at-requires
shape_at-requires c = c.loop-array.invariant.0

pub loop-array-smaller : goal.loop-array-smaller
loop-array-smaller c =
    let ts = c.args.forest.now.tokens in
    let h = store_at ts (shape_of (form_from ts c.loop-array.innermost)) c.in-Store.array c.in-Store.key c.in-Store.value c.in-Store.ensures in
    chain_shorter (form_from ts c.loop-array.innermost) (form_from ts c.in-Store.array) (form_from ts c.in-Store.key) (form_from ts c.in-Store.value) h.0

pub loop-array-preserved : goal.loop-array-preserved
loop-array-preserved c =
    let ts = c.args.forest.now.tokens in
    let h = store_at ts (shape_of (form_from ts c.loop-array.innermost)) c.in-Store.array c.in-Store.key c.in-Store.value c.in-Store.ensures in
    let s : Stored = record { key = c.in-Store.key; value = c.in-Store.value } in (
      h.1,
      subst (AreStored ts) (sym c.in_ok-push.ensures.items) (All-push (λ (r : Stored). IsForm ts r.key × IsForm ts r.value) c.loop-array.stores.items s c.loop-array.invariant.1 (h.2, h.3)),
      λ i e es. c.loop-array.invariant.2 i e es
          ∙ change_reads (form_from ts c.loop-array.innermost) (form_from ts c.in-Store.array) (form_from ts c.in-Store.key) (form_from ts c.in-Store.value) h.0 i e (all_stored ts c.loop-array.stores.items) es
          ∙ ap (λ ps. (value_in (form_from ts c.in-Store.array) (array i e) >>= with_stored i e ps) es) (sym (ap (all_stored ts) c.in_ok-push.ensures.items ∙ stored_last ts c.loop-array.stores.items s)),
    )

pub returns : goal.returns
returns c =
    let ts = c.args.forest.now.tokens in
    record {
      form = c.loop-array.invariant.0;
      stored = c.loop-array.invariant.1;
      innermost = λ a k v is. change_held ts a k v c.shape_at.result (subst (λ s. IsShapeAt ts s c.shape_at.result) is c.shape_at.ensures) c.in_default.not-Store;
      reads = c.loop-array.invariant.2;
    }
