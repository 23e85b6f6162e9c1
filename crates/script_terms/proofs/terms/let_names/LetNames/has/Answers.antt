use Rattle.std.proofs.Common.{◌≡◌, false, not, Option, Some, None, is_some, length, map, rules, Bor, refl, ap, ◌∙◌}
use Rattle.std.specs.Option.{option_copied}
use Rattle.smt_terms.specs.declared.ids.NodeId.{NodeId}
use Rattle.smt_lex.specs.Names.{is_among}
use Rattle.script_terms.proofs.NamesOfLets.{has_first, has_later, has_none}
use Rattle.script_terms.proofs.terms.let_names.LetNames.has.Goals as goal

copied : (o : Option (Bor NodeId)) → is_some o ≡ is_some (option_copied o)
copied (Some k) = refl
copied None = refl

pub returns-then-is_in : goal.returns-then-is_in
returns-then-is_in c =
    has_first c.self.inside.first.items c.self.inside.later.entries c.args.name.now c.is_in.result
    (c.is_in.ensures ∙ ap (λ es. is_among (map (λ e. e.0.now) es) c.args.name.now) c.deref.ensures) c.if-is_in.true
    ∙ ap (λ ps. is_among (map (λ p. p.0) ps) c.args.name.now) c.self.view_is

pub returns-then-not-is_empty : goal.returns-then-not-is_empty
returns-then-not-is_empty c =
    c.is_some.ensures ∙ copied _ ∙ ap is_some c.get.ensures.value
    ∙ has_later c.self.inside.first.items c.self.inside.later.entries c.args.name.now c.is_in.result
    (c.is_in.ensures ∙ ap (λ es. is_among (map (λ e. e.0.now) es) c.args.name.now) c.deref.ensures) c.if-is_in.false
    ∙ ap (λ ps. is_among (map (λ p. p.0) ps) c.args.name.now) c.self.view_is

pub returns-else-not-is_empty : goal.returns-else-not-is_empty
returns-else-not-is_empty c =
    let none : length c.self.inside.later.entries ≡ 0 = search rules in
    let no : not c.is_empty.result ≡ false = search rules in
    no
    ∙ has_none c.self.inside.first.items c.self.inside.later.entries c.args.name.now c.is_in.result
    (c.is_in.ensures ∙ ap (λ es. is_among (map (λ e. e.0.now) es) c.args.name.now) c.deref.ensures) c.if-is_in.false none
    ∙ ap (λ ps. is_among (map (λ p. p.0) ps) c.args.name.now) c.self.view_is
