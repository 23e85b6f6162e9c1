use Rattle.std.proofs.Common.{◌≡◌, ◌++◌, ◌∷◌, [], refl, sym, append-nil}
use Rattle.script_read.specs.CommandLists.{command_of}
use Rattle.smt_lex.specs.Lexicon.{line_feed}
use Rattle.smt_print.specs.Prefix.{AppendsPrefix, Drafts}
use Rattle.smt_print.specs.Text.{term_form, command_text}
use Rattle.smt_print.proofs.Prefixes.{on_ok, on_err, drafts-waiting, prefix-whole}
use Rattle.smt_print.proofs.scripts.print_command.Goals as goal

pub returns-in_default : goal.returns-in_default
returns-in_default g c =
    let out = g.O.Output.text c.args.out.now in
    let waited = c.args.draft.now.text in
    let waits = c.print_short.new.text in
    let line = command_text (term_form c.args.layout) (command_of c.args.table.now c.args.command.now) ++ line_feed ∷ [] in
    record {
      ok = on_ok c.print_short.result (waits ≡ waited ++ line) (Drafts out waited out waits line) (drafts-waiting out waited waits line) (c.print_short.ensures c.args.layout);
      prefix = on_err c.print_short.result (AppendsPrefix out out (waited ++ line)) (prefix-whole out out [] (waited ++ line) (waited ++ line) (sym (append-nil out)) refl);
    }
