use Rattle.std.proofs.Common.{◌≡◌, length, refl, subst, arith}
use Rattle.std.proofs.lemmas.List.{nil_from_length}
use Rattle.std.proofs.lemmas.Result.{err_from_is_err_and}
use Rattle.script_terms.specs.declared.terms.term_reader.TermReader.{TermReader}
use Rattle.script_terms.specs.Waiting.{Going}
use Rattle.script_terms.proofs.Running.{frame_waits, ends_reading, runs_on}
use Rattle.script_terms.proofs.terms.term_reader.TermReader.run.Goals as goal

pub returns-in_err-next-in-Form-clause-term : goal.returns-in_err-next-in-Form-clause-term
returns-in_err-next-in-Form-clause-term c r going =
    let now = c.loop-next in
    let p = err_from_is_err_and c.from_residual.result c.from_residual.ensures.1 in
    rw (p.1, p.2)
    (c.in_err-next-in-Form.ensures.steps r
    (subst (λ n. Going c.args.forest.now.tokens now.table now.sofar now.self n r) c.in-Form.is (now.invariant.steps r going)))

pub loop-next-preserved-in-Form : goal.loop-next-preserved-in-Form
loop-next-preserved-in-Form c =
    let now = c.loop-next in
    runs_on c.args.forest.now.tokens c.args.table.now c.args.sofar.now c.args.self.now c.args.i now.table now.sofar now.self now.next now.invariant
    c.open.new.table c.open.new.sofar c.open.new.self c.in_ok-next-in-Form.next c.in_ok-next-in-Form.ensures.keeps
    (λ r going. c.in_ok-next-in-Form.ensures.steps r (subst (λ n. Going c.args.forest.now.tokens now.table now.sofar now.self n r) c.in-Form.is going))

pub returns-in_default-clause-term : goal.returns-in_default-clause-term
returns-in_default-clause-term c r going =
    let now = c.loop-next in
    let none : length now.self.frames.items ≡ 0 = omega (arith, c.in_default.ensures.cases.0) in
    ends_reading c.args.forest.now.tokens now.table now.sofar now.self (nil_from_length now.self.frames.items none) c.in-Term.node c.in-Term.behind r
    (subst (λ n. Going c.args.forest.now.tokens now.table now.sofar now.self n r) c.in-Term.is (now.invariant.steps r going))

pub returns-in_err-next-in-Term-clause-term : goal.returns-in_err-next-in-Term-clause-term
returns-in_err-next-in-Term-clause-term c r going =
    let now = c.loop-next in
    let p = err_from_is_err_and c.from_residual-in_err-next-in-Term.result c.from_residual-in_err-next-in-Term.ensures.1 in
    rw (p.1, p.2)
    (c.in_err-next-in-Term.ensures.steps r
    (subst (λ n. Going c.args.forest.now.tokens now.table now.sofar now.self n r) c.in-Term.is (now.invariant.steps r going)))

pub loop-next-preserved-then-awaits_operand : goal.loop-next-preserved-then-awaits_operand
loop-next-preserved-then-awaits_operand c =
    let now = c.loop-next in
    runs_on c.args.forest.now.tokens c.args.table.now c.args.sofar.now c.args.self.now c.args.i now.table now.sofar now.self now.next now.invariant
    c.resume_operands.new.table c.resume_operands.new.sofar c.resume_operands.new.self c.in_ok-next-in-Term.next c.in_ok-next-in-Term.ensures.keeps
    (λ r going. c.in_ok-next-in-Term.ensures.steps r (subst (λ n. Going c.args.forest.now.tokens now.table now.sofar now.self n r) c.in-Term.is going))

pub returns-in_err-next-in-Term-2-clause-term : goal.returns-in_err-next-in-Term-2-clause-term
returns-in_err-next-in-Term-2-clause-term c r going =
    let now = c.loop-next in
    let waiting : TermReader = record { alloc = now.self.alloc; defines = now.self.defines; locals = now.self.locals; frames = c.pop.new.self; operands = now.self.operands; callees = now.self.callees } in
    let p = err_from_is_err_and c.from_residual-in_err-next-in-Term-2.result c.from_residual-in_err-next-in-Term-2.ensures.1 in
    rw (p.1, p.2)
    (c.in_err-next-in-Term-2.ensures.steps r
    (frame_waits c.args.forest.now.tokens now.table now.sofar now.self waiting c.in-Some.frame refl c.in-Some.ensures.items c.in-Term.node c.in-Term.behind r
    (subst (λ n. Going c.args.forest.now.tokens now.table now.sofar now.self n r) c.in-Term.is (now.invariant.steps r going))))

pub loop-next-preserved : goal.loop-next-preserved
loop-next-preserved c =
    let now = c.loop-next in
    let waiting : TermReader = record { alloc = now.self.alloc; defines = now.self.defines; locals = now.self.locals; frames = c.pop.new.self; operands = now.self.operands; callees = now.self.callees } in
    runs_on c.args.forest.now.tokens c.args.table.now c.args.sofar.now c.args.self.now c.args.i now.table now.sofar now.self now.next now.invariant
    c.resume.new.table c.resume.new.sofar c.resume.new.self c.in_ok-next-in-Term-2.next
    (record { gains = c.in_ok-next-in-Term-2.ensures.keeps.gains; defines = c.in_ok-next-in-Term-2.ensures.keeps.defines })
    (λ r going. c.in_ok-next-in-Term-2.ensures.steps r
    (frame_waits c.args.forest.now.tokens now.table now.sofar now.self waiting c.in-Some.frame refl c.in-Some.ensures.items c.in-Term.node c.in-Term.behind r
    (subst (λ n. Going c.args.forest.now.tokens now.table now.sofar now.self n r) c.in-Term.is going)))
