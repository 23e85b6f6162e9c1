use Rattle.std.proofs.Common.{◌∙◌, List, map, ap, sym, string_bytes}
use Rattle.smtrw_answers.specs.Answers.{err_line}
use Rattle.smtrw_answers.specs.Words.{Word}
use Rattle.smtrw_answers.proofs.ErrorLines.{got_line, whole_line, unread_line}
use Rattle.smtrw_answers.proofs.lines.complain.Goals as goal

pub returns-in-ReadFailed-clause-whole : goal.returns-in-ReadFailed-clause-whole
returns-in-ReadFailed-clause-whole g c =
    let words : List Word = map string_bytes c.args.words.now in
    whole_line _ _ _ _ _ (ap unread_line c.name_of.ensures ∙ sym (ap (λ s. err_line s words) c.in-ReadFailed.is)) c.say_unread.ensures.whole

pub returns-in-WriteFailed-clause-prefix : goal.returns-in-WriteFailed-clause-prefix
returns-in-WriteFailed-clause-prefix g c =
    let words : List Word = map string_bytes c.args.words.now in
    got_line _ _ _ _ (sym (ap (λ s. err_line s words) c.in-WriteFailed.is)) c.say.ensures.prefix

pub returns-in-WriteFailed-clause-whole : goal.returns-in-WriteFailed-clause-whole
returns-in-WriteFailed-clause-whole g c =
    let words : List Word = map string_bytes c.args.words.now in
    whole_line _ _ _ _ _ (sym (ap (λ s. err_line s words) c.in-WriteFailed.is)) c.say.ensures.whole

pub returns-in-OutOfMemory-clause-whole : goal.returns-in-OutOfMemory-clause-whole
returns-in-OutOfMemory-clause-whole g c =
    let words : List Word = map string_bytes c.args.words.now in
    whole_line _ _ _ _ _ (sym (ap (λ s. err_line s words) c.in-OutOfMemory.is)) c.say-in-OutOfMemory.ensures.whole

pub returns-in-Refused-clause-whole : goal.returns-in-Refused-clause-whole
returns-in-Refused-clause-whole g c =
    let words : List Word = map string_bytes c.args.words.now in
    whole_line _ _ _ _ _ (c.as_str.ensures.value ∙ c.refusal_line.ensures ∙ sym (ap (λ s. err_line s words) c.in-Refused.is)) c.say-in-Refused.ensures.whole

pub returns-in-ModelRefused-clause-whole : goal.returns-in-ModelRefused-clause-whole
returns-in-ModelRefused-clause-whole g c =
    let words : List Word = map string_bytes c.args.words.now in
    whole_line _ _ _ _ _ (c.as_str-in-ModelRefused.ensures.value ∙ c.model_line.ensures ∙ sym (ap (λ s. err_line s words) c.in-ModelRefused.is)) c.say-in-ModelRefused.ensures.whole

pub returns-in-Beyond128-clause-whole : goal.returns-in-Beyond128-clause-whole
returns-in-Beyond128-clause-whole g c =
    let words : List Word = map string_bytes c.args.words.now in
    whole_line _ _ _ _ _ (c.as_str-in-Beyond128.ensures.value ∙ c.beyond_line.ensures ∙ sym (ap (λ s. err_line s words) c.in-Beyond128.is)) c.say-in-Beyond128.ensures.whole

pub returns-in-PassRefused-clause-whole : goal.returns-in-PassRefused-clause-whole
returns-in-PassRefused-clause-whole g c =
    let words : List Word = map string_bytes c.args.words.now in
    whole_line _ _ _ _ _ (c.as_str-in-PassRefused.ensures.value ∙ c.pass_line.ensures ∙ sym (ap (λ s. err_line s words) c.in-PassRefused.is)) c.say-in-PassRefused.ensures.whole
