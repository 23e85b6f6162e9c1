use Rattle.std.proofs.Common.{◌≡◌, ◌<◌, true, false, length, get_or, subst, ap, sym, ◌∙◌, true≢false}
use Rattle.std.specs.List.{list_all}
use Rattle.std.proofs.lemmas.List.Elements.{All-get_or}
use Rattle.model_texts.specs.declared.conditions.Equation.{Equation}
use Rattle.model_texts.proofs.KeysRead.{no_equation}
use Rattle.model_texts.proofs.OnceNamed.{within_either, named_twice, named_all}
use Rattle.model_texts.proofs.conditions.name_each_once.Goals as goal

pub returns-then-index : goal.returns-then-index
returns-then-index c =
    let n = c.args.parameters in
    let es = c.args.equations.now in
    let k = c.loop-equation.equation-index in
    let bs = c.loop-equation.named.items in
    let within = All-get_or (λ (e : Equation). e.parameter < n) es k no_equation c.loop-equation-test.true c.requires in
    let few : (get_or es k no_equation).parameter < length bs = subst (λ m. (get_or es k no_equation).parameter < m) (sym c.loop-equation.invariant.size) within in
    let either = within_either bs (get_or es k no_equation).parameter false c.index.result.now few in
    let there : get_or bs (get_or es k no_equation).parameter false ≡ true = cc in
    (λ h. absurd (true≢false (sym h)), λ once. absurd (named_twice n es k bs c.loop-equation.invariant c.loop-equation-test.true within there once))

pub returns : goal.returns
returns c =
    named_all c.args.parameters c.args.equations.now c.loop-equation.equation-index c.loop-equation.named.items c.loop-equation.invariant c.loop-equation-test.false
    c.are_all.result (c.are_all.ensures ∙ ap (list_all (λ b. b)) c.as_slice.ensures.value)
