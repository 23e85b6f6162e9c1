use Rattle.std.proofs.Common.{subst}
use Rattle.std.specs.Prelude.{IfSome}
use Rattle.smt_values.specs.FlatKeys.{AreKeysOf}
use Rattle.smt_values.specs.Meaning.{meaning}
use Rattle.smt_values.proofs.FlatKeys.{keys-push}
use Rattle.smt_values.proofs.value.with_key.Goals as goal

pub returns-then-branch : goal.returns-then-branch
returns-then-branch c ps v before =
    keys-push ps c.in-Some-Some.places.keys c.insert.new.self.keys c.in-Some-Some.key (meaning c.args.key.now) v c.in_ok-insert.field-0 c.in_ok-insert.ensures.added c.if-branch.true c.in_ok-insert.ensures.keys c.in-Some-Some.ensures.value c.in-Some-Some.ensures.held
    (subst (λ places. IfSome places (λ t. AreKeysOf ps t.keys)) c.in-Some-Some.is-0 before)
