use Rattle.std.proofs.Common.{refl, map}
use borrow.Pointer.Called.{made_tells}
use Rattle.rule_book.specs.EightRules.{eight_names}
use Rattle.smtrw_run.proofs.EightRun.{eight_added, run_named}
use Rattle.smtrw_run.proofs.standard.run_by_book.OwnLists.{own-1, at-1-1, at-1-2, at-1-3, at-1-4, at-1-5, at-1-6, at-1-7, at-1-8}
use Rattle.smtrw_run.proofs.standard.run_by_book.Goals as goal

pub new-requires-2-clause-answers : goal.new-requires-2-clause-answers
new-requires-2-clause-answers g c = λ ss t v p shows post. made_tells own-1 (own-1.entry at-1-1) at-1-1 refl c.into_dyn_box.ensures.1 (v, tt) p post ss t shows

pub new-requires-4-clause-answers : goal.new-requires-4-clause-answers
new-requires-4-clause-answers g c = λ ss t v p shows post. made_tells own-1 (own-1.entry at-1-2) at-1-2 refl c.into_dyn_box-in_ok-new-2.ensures.1 (v, tt) p post ss t shows

pub new-requires-6-clause-answers : goal.new-requires-6-clause-answers
new-requires-6-clause-answers g c = λ ss t v p shows post. made_tells own-1 (own-1.entry at-1-3) at-1-3 refl c.into_dyn_box-in_ok-new-3.ensures.1 (v, tt) p post ss t shows

pub new-requires-8-clause-answers : goal.new-requires-8-clause-answers
new-requires-8-clause-answers g c = λ ss t v p shows post. made_tells own-1 (own-1.entry at-1-4) at-1-4 refl c.into_dyn_box-in_ok-new-4.ensures.1 (v, tt) p post ss t shows

pub new-requires-10-clause-answers : goal.new-requires-10-clause-answers
new-requires-10-clause-answers g c = λ ss t v p shows post. made_tells own-1 (own-1.entry at-1-5) at-1-5 refl c.into_dyn_box-in_ok-new-5.ensures.1 (v, tt) p post ss t shows

pub new-requires-12-clause-answers : goal.new-requires-12-clause-answers
new-requires-12-clause-answers g c = λ ss t v p shows post. made_tells own-1 (own-1.entry at-1-6) at-1-6 refl c.into_dyn_box-in_ok-new-6.ensures.1 (v, tt) p post ss t shows

pub new-requires-14-clause-answers : goal.new-requires-14-clause-answers
new-requires-14-clause-answers g c = λ ss t v p shows post. made_tells own-1 (own-1.entry at-1-7) at-1-7 refl c.into_dyn_box-in_ok-new-7.ensures.1 (v, tt) p post ss t shows

pub new-requires-16-clause-answers : goal.new-requires-16-clause-answers
new-requires-16-clause-answers g c = λ ss t v p shows post. made_tells own-1 (own-1.entry at-1-8) at-1-8 refl c.into_dyn_box-in_ok-new-8.ensures.1 (v, tt) p post ss t shows

pub returns-clause-run : goal.returns-clause-run
returns-clause-run g c =
    let e = c.run.ensures in
    run_named _ _ _ _ _ _ _ _ _ (map (λ r. r.name.now) c.add-8.new.self.rules.items) eight_names
    (eight_added _ _ _ _ _ _ _ _ _ _ _ _ _ _ _ _ _ c.new-book.ensures c.in_ok-add.ensures.added c.in_ok-add-2.ensures.added c.in_ok-add-3.ensures.added c.in_ok-add-4.ensures.added c.in_ok-add-5.ensures.added c.in_ok-add-6.ensures.added c.in_ok-add-7.ensures.added c.in_ok-add-8.ensures.added c.new-2.ensures c.new-4.ensures c.new-6.ensures c.new-8.ensures c.new-10.ensures c.new-12.ensures c.new-14.ensures c.new-16.ensures)
    (record {
      words = e.words;
      ends = e.ends;
      read = e.read;
      write = e.write;
      texts = e.texts;
      out = e.out;
      quiet = e.quiet;
      promise = e.promise;
      complete = e.complete;
      silent = e.silent;
      prefix = e.prefix;
      whole = e.whole;
    })
