use Rattle.quantifier_forms.proofs.Exchanged.{sets-exchanged, set-known, same-known, exchanged-all-stay}
use Rattle.quantifier_forms.proofs.exchanging.settle.Goals as goal

pub returns-then-stays-clause-exchanged : goal.returns-then-stays-clause-exchanged
returns-then-stays-clause-exchanged c = exchanged-all-stay c.args.table.now c.exchanged.new.table c.args.exchange c.args.memo.now c.in_ok-result.ensures.grows c.requires.exchange c.requires.exchanged

pub returns-then-stays-clause-done : goal.returns-then-stays-clause-done
returns-then-stays-clause-done c =
    same-known c.exchanged.new.table c.args.exchange c.args.memo.now c.args.id c.in_ok-result.result
    (exchanged-all-stay c.args.table.now c.exchanged.new.table c.args.exchange c.args.memo.now c.in_ok-result.ensures.grows c.requires.exchange c.requires.exchanged)
    c.in_ok-result.ensures.exchanged c.if-stays.true

pub returns-clause-exchanged : goal.returns-clause-exchanged
returns-clause-exchanged c =
    sets-exchanged c.args.table.now c.exchanged.new.table c.args.exchange c.args.memo.now c.set.new.self c.args.id c.in_ok-result.result c.in_ok-result.ensures.grows c.requires.exchange c.requires.exchanged c.in_ok-result.ensures.exchanged c.in_ok-set.ensures.ok

pub returns-clause-done : goal.returns-clause-done
returns-clause-done c = set-known c.exchanged.new.table c.args.exchange c.args.memo.now c.set.new.self c.args.id c.in_ok-result.result c.in_ok-result.ensures.exchanged c.in_ok-set.ensures.ok

pub returns-clause-others : goal.returns-clause-others
returns-clause-others c k apart = c.in_ok-set.ensures.ok.others 0 k (λ v same. apart same)
