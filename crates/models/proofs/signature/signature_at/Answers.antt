use Rattle.std.proofs.Common.{◌≡◌, ◌∙◌, ap, Bool, false, List}
use Rattle.smt_terms.specs.declared.ids.SortId.{SortId}
use Rattle.smt_terms.specs.declared.ids.SymId.{SymId}
use Rattle.script_read.specs.declared.scripts.Command.{Command}
use Rattle.script_read.specs.CommandLists.{commands_of}
use Rattle.script_read.specs.Commands.{signature}
use Rattle.models.specs.LiveNumbers.{signature_of, AreLiveNumbersOf}
use Rattle.models.specs.GoingBack.{Found, before_check, global_behind_all, found_in}
use Rattle.models.proofs.SignatureFound.{both_ok, signature_found, numbers_found}
use Rattle.models.proofs.signature.signature_at.Goals as goal

-- what is found in the commands before the check
same_found : (ds es : List Command) (b : Bool) → b ≡ global_behind_all false ds → ds ≡ es → found_in b ds ≡ found_in (global_behind_all false es) es
same_found ds es b h p = ap (λ x. found_in x ds) h ∙ ap (λ fs. found_in (global_behind_all false fs) fs) p

pub returns-clause-signature : goal.returns-clause-signature
returns-clause-signature c =
    let where_found = same_found c.before_check-commands.result.now (before_check c.args.check c.args.script.now.commands) c.is_global_behind.result c.is_global_behind.ensures
    (c.before_check-commands.ensures ∙ ap (before_check c.args.check) c.as_slice.ensures) in
    both_ok (λ s. signature_of c.args.table.now s ≡ signature (commands_of c.args.table.now c.args.script.now.commands) c.args.check) c.live_behind.result c.live_behind.ensures.sorts c.live_behind.ensures.symbols
    (λ s sorts symbols.
    signature_found c.args.table.now c.args.script.now.commands c.args.check c.requires.printable c.requires.first c.requires.last s
    (sorts ∙ ap {B = List SortId} (λ (f : Found). f.sorts) where_found) (symbols ∙ ap {B = List SymId} (λ (f : Found). f.symbols) where_found))

pub returns-clause-numbers : goal.returns-clause-numbers
returns-clause-numbers c =
    let where_found = same_found c.before_check-commands.result.now (before_check c.args.check c.args.script.now.commands) c.is_global_behind.result c.is_global_behind.ensures
    (c.before_check-commands.ensures ∙ ap (before_check c.args.check) c.as_slice.ensures) in
    both_ok (AreLiveNumbersOf c.args.table.now) c.live_behind.result c.live_behind.ensures.sorts c.live_behind.ensures.symbols
    (λ s sorts symbols.
    numbers_found c.args.table.now c.args.script.now.commands c.args.check c.requires.printable c.requires.first c.requires.last s
    (sorts ∙ ap {B = List SortId} (λ (f : Found). f.sorts) where_found) (symbols ∙ ap {B = List SymId} (λ (f : Found). f.symbols) where_found) c.requires.numbers)
