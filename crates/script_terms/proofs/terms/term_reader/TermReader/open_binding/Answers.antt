use Rattle.std.proofs.Common.{suc, List, map, ap, sym, ◌∙◌}
use Rattle.std.proofs.lemmas.Result.{err_from_is_err_and}
use Rattle.smt_lex.specs.Names.{Name, is_among}
use Rattle.smt_terms.specs.declared.ids.NodeId.{NodeId}
use Rattle.script_terms.specs.Bound.{name_at}
use Rattle.script_terms.specs.Openings.{binding_in}
use Rattle.script_terms.specs.Places.{form_from}
use Rattle.script_terms.specs.Waiting.{reversed_names}
use Rattle.script_terms.proofs.StepsOfLets.{binding_refused, binding_begins}
use Rattle.script_terms.proofs.terms.term_reader.TermReader.open_binding.Goals as goal

pub returns-in_err-term-clause-steps : goal.returns-in_err-term-clause-steps
returns-in_err-term-clause-steps c t s r next =
    let p = err_from_is_err_and c.from_residual.result c.from_residual.ensures.1 in
    rw (p.1, p.2)
    (binding_refused c.args.forest.now.tokens t s c.args.self.now c.args.lets r next c.requires.part _
    (ap (λ ns. binding_in (reversed_names ns) (form_from c.args.forest.now.tokens c.args.lets.part)) (sym c.deref.ensures) ∙ c.in_err-term.ensures.name))

pub returns-clause-steps : goal.returns-clause-steps
returns-clause-steps c t s r next =
    let ts = c.args.forest.now.tokens in
    let held = sym c.deref.ensures in
    binding_begins ts t s c.args.self.now c.args.lets r next c.requires.part
    c.in_ok-term.term c.in_ok-term.ensures.form
    (ap (λ ns. binding_in (reversed_names ns) (form_from ts c.args.lets.part)) held ∙ c.in_ok-term.ensures.name)
    (ap (λ (ns : List (Name × NodeId)). is_among (map (λ p. p.0) ns) (name_at ts (suc c.args.lets.part))) held ∙ c.in_ok-term.ensures.new)
    c.in_ok-term.ensures.own c.in_ok-term.ensures.token c.push.new.self c.in_ok-push.ensures.items
