use Rattle.std.proofs.Common.{◌≡◌, ◌≤◌, ◌∷◌, slice_get, OnOk, rules, ap, subst, ◌∙◌}
use Rattle.script_terms.specs.Bound.{let_local}
use Rattle.script_terms.proofs.NamesOfLets.{later_is, later_none}
use Rattle.script_terms.proofs.terms.let_names.LetNames.enter_one.Goals as goal

pub returns-in-Some-get_index : goal.returns-in-Some-get_index
returns-in-Some-get_index c p is =
    let past : c.len.result ≤ c.args.place = search rules in
    let same =
    later_is c.self.inside.first.items c.self.inside.later.entries c.args.place c.len.result (c.in-Some-get_index.name.now, c.in-Some-get_index.term.now) p
    c.len.ensures.value past c.in-Some-get_index.ensures.entry (ap (λ ps. slice_get ps c.args.place) c.self.view_is ∙ is) in
    subst (λ q. OnOk c.enter-in-Some-get_index.result (c.enter-in-Some-get_index.new.self ≡ let_local q ∷ c.args.locals.now)) same c.enter-in-Some-get_index.ensures

pub returns-in-None : goal.returns-in-None
returns-in-None c p is =
    let past : c.len.result ≤ c.args.place = search rules in
    absurd
    (later_none c.self.inside.first.items c.self.inside.later.entries c.args.place c.len.result p
    c.len.ensures.value past c.in-None.ensures.entry (ap (λ ps. slice_get ps c.args.place) c.self.view_is ∙ is))
