use Rattle.std.proofs.Common.{◌≡◌, ◌<◌, length, Ok, sym, ◌∙◌, ap, refl, subst, arith}
use Rattle.std.proofs.lemmas.Result.{IfOk-weaker, IfErr-weaker}
use Rattle.smt_lex.specs.declared.faults.LexFault.TheVariants.{Unbalanced}
use Rattle.smt_lex.specs.Lex.{line_at}
use Rattle.smt_lex.specs.Forms.{tokens_of}
use Rattle.smt_lex.specs.Forest.{Refuses}
use Rattle.smt_lex.specs.Building.{tokens_in}
use Rattle.smt_lex.proofs.Outcomes.{going_first, finished, unfinished}
use Rattle.smt_lex.proofs.builders.tokens_of.Goals as goal

pub loop-builder-init : goal.loop-builder-init
loop-builder-init c = rw (c.new.ensures.items, c.new-2.ensures.items) (going_first c.args.until c.args.bytes.now)

pub returns-clause-tokens : goal.returns-clause-tokens
returns-clause-tokens c =
    let end = c.loop-builder.builder in
    IfOk-weaker c.finish.result _ (λ entries. tokens_of c.args.until c.args.bytes.now ≡ Ok (tokens_in c.args.bytes.now entries.items))
    (λ entries said. finished c.args.until c.args.bytes.now end.place end.entries.items end.lists.items c.loop-builder.invariant c.loop-builder-test.false said.1
    ∙ ap (λ es. Ok (tokens_in c.args.bytes.now es)) (sym said.0))
    c.finish.ensures.ok

pub returns-clause-fault : goal.returns-clause-fault
returns-clause-fault c =
    let end = c.loop-builder.builder in
    let bytes = c.args.bytes.now in
    IfErr-weaker c.finish.result (λ fault. (0 < end.lists.len) × (fault ≡ Unbalanced (length bytes) (line_at bytes (length bytes)))) (Refuses bytes (tokens_of c.args.until bytes))
    (λ fault said. subst (Refuses bytes (tokens_of c.args.until bytes)) (sym said.1)
    (unfinished c.args.until bytes end.place end.entries.items end.lists.items c.loop-builder.invariant c.loop-builder-test.false (omega (arith, said.0, end.lists.ok.0)), refl))
    c.finish.ensures.fault
