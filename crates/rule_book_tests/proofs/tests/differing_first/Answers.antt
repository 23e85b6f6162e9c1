use Rattle.std.proofs.Common.{refl}
use borrow.Pointer.Called.{made_tells}
use Rattle.rule_book_tests.proofs.tests.differing_first.OwnLists.{own-1, at-1-1, at-1-2}
use Rattle.rule_book_tests.proofs.tests.differing_first.Goals as goal

pub new-requires-2-clause-answers : goal.new-requires-2-clause-answers
new-requires-2-clause-answers g c = λ ss t v p shows post. made_tells own-1 (own-1.entry at-1-1) at-1-1 refl c.into_dyn_box.ensures.1 (v, tt) p post ss t shows

pub new-requires-4-clause-answers : goal.new-requires-4-clause-answers
new-requires-4-clause-answers g c = λ ss t v p shows post. made_tells own-1 (own-1.entry at-1-2) at-1-2 refl c.into_dyn_box-in_ok-new-2.ensures.1 (v, tt) p post ss t shows
