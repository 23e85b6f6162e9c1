use Rattle.std.proofs.Common.{◌≡◌, ◌≢◌, ◌++◌, ◌∷◌, [], length, rules, ap, sym, ◌∙◌}
use Rattle.std.specs.Option.{option_or}
use Rattle.smt_lex.specs.Forms.{◌⨾◌}
use Rattle.script_terms.specs.HeadClauses.{beyond_in}
use Rattle.script_terms.specs.Parts.{numeral_in}
use Rattle.script_terms.specs.Places.{form_from, forms_from}
use Rattle.script_terms.proofs.HeadIndices.{capped_numeral, one_more_numeral, all_numerals, one_more_value, one_more_place, no_more_places, one_or_more}
use Rattle.script_terms.proofs.terms.indices.Indices.read.Goals as goal

pub loop-values-preserved : goal.loop-values-preserved
loop-values-preserved c =
    let inv = c.loop-values.invariant in
    let ts = c.args.forest.now.tokens in
    let f = form_from ts c.loop-values.next in
    let forms : forms_from ts c.loop-values.next ≡ f ⨾ forms_from ts c.after-next.result = (c.begins.ensures.yes c.loop-values-test.true).forms ∙ ap (λ n. f ⨾ forms_from ts n) (sym c.after-next.ensures.behind) in
    let found = capped_numeral (numeral_in f) c.in-Some.value (sym c.in-Some.ensures) in
    record {
      place = c.after-next.ensures.within.1;
      numerals = inv.numerals ++ found.0 ∷ [];
      values = one_more_value c.push.new.self.items c.loop-values.values.items inv.numerals c.in-Some.value found.0 inv.values c.in_ok-push.ensures.ok found.2;
      beyond =
          inv.beyond ∙ one_more_place c.loop-values.beyond (forms_from ts c.loop-values.next) (forms_from ts c.after-next.result) f forms
          ∙ ap (λ o. option_or o (beyond_in (forms_from ts c.after-next.result))) (ap (option_or c.loop-values.beyond) (sym c.place_beyond.ensures) ∙ sym c.or-beyond.ensures);
      rest = inv.rest ∙ one_more_numeral inv.numerals (forms_from ts c.loop-values.next) (forms_from ts c.after-next.result) f found.0 forms found.1;
    }

pub returns : goal.returns
returns c =
    let inv = c.loop-values.invariant in
    let ts = c.args.forest.now.tokens in
    let some : length c.loop-values.values.items ≢ 0 = search rules in
    let end = c.begins.ensures.no c.loop-values-test.false in
    one_or_more (forms_from ts c.args.i) (record { values = c.loop-values.values; beyond = c.loop-values.beyond }) inv.numerals
    (inv.rest ∙ all_numerals inv.numerals (forms_from ts c.loop-values.next) end) inv.values
    (sym (inv.beyond ∙ no_more_places c.loop-values.beyond (forms_from ts c.loop-values.next) end)) some
