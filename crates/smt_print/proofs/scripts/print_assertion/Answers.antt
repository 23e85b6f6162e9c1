use Rattle.std.proofs.Common.{List, ℕ, ◌++◌, ◌∷◌, [], ap, sym, ◌∙◌, subst, append_assoc}
use Rattle.std.specs.Prelude.{codes}
use Rattle.smt_lex.specs.FormText.{form_text}
use Rattle.smt_lex.specs.Lexicon.{line_feed}
use Rattle.term_table.specs.Formulas.{tree}
use Rattle.smt_print.specs.Prefix.{AppendsPrefix, Drafts}
use Rattle.smt_print.specs.Text.{term_form, command_form}
use Rattle.smt_print.proofs.CommandLines.{assertion-line}
use Rattle.smt_print.proofs.Prefixes.{on_err, drafts-waiting, drafts-more, prefix-behind, prefix-whole}
use Rattle.smt_print.proofs.scripts.print_assertion.Goals as goal

pub returns-in_err-print_term-clause-prefix : goal.returns-in_err-print_term-clause-prefix
returns-in_err-print_term-clause-prefix g c =
    let o = g.O.Output.text in
    let waited = c.args.draft.now.text in
    let shown = form_text (term_form c.args.layout (tree c.args.table.now c.args.id)) in
    let whole = form_text (command_form (codes "assert") (term_form c.args.layout (tree c.args.table.now c.args.id) ∷ [])) ++ line_feed ∷ [] in
    on_err c.from_residual-in_err-print_term.result (AppendsPrefix (o c.args.out.now) (o c.print_term.new.out) (waited ++ whole))
    (prefix-behind (o c.args.out.now) waited (o c.args.out.now) c.push_short.new.self (o c.print_term.new.out) (codes "(assert ") shown (codes ")\n") whole
    (drafts-waiting (o c.args.out.now) waited c.push_short.new.self (codes "(assert ") c.in_ok-push_short.ensures)
    c.in_err-print_term.ensures.prefix (append_assoc (codes "(assert ") shown (codes ")\n") ∙ sym (assertion-line shown)))

pub returns-in_err-push_short-2-clause-prefix : goal.returns-in_err-push_short-2-clause-prefix
returns-in_err-push_short-2-clause-prefix g c =
    let o = g.O.Output.text in
    let waited = c.args.draft.now.text in
    let shown = form_text (term_form c.args.layout (tree c.args.table.now c.args.id)) in
    let whole = form_text (command_form (codes "assert") (term_form c.args.layout (tree c.args.table.now c.args.id) ∷ [])) ++ line_feed ∷ [] in
    let (done, is, same) =
    drafts-more (o c.args.out.now) waited (o c.args.out.now) c.push_short.new.self (o c.print_term.new.out) c.print_term.new.draft.text (codes "(assert ") shown
    (drafts-waiting (o c.args.out.now) waited c.push_short.new.self (codes "(assert ") c.in_ok-push_short.ensures) c.in_ok-print_term.ensures.ok
    in
    on_err c.from_residual-in_err-push_short-2.result (AppendsPrefix (o c.args.out.now) (o c.print_term.new.out) (waited ++ whole))
    (prefix-whole (o c.args.out.now) (o c.print_term.new.out) done (c.print_term.new.draft.text ++ codes ")\n") (waited ++ whole) is
    (sym (append_assoc done c.print_term.new.draft.text (codes ")\n")) ∙ ap (λ xs. xs ++ codes ")\n") same ∙ append_assoc waited (codes "(assert " ++ shown) (codes ")\n")
    ∙ ap (λ xs. waited ++ xs) (append_assoc (codes "(assert ") shown (codes ")\n") ∙ sym (assertion-line shown))))

pub returns-clause-ok : goal.returns-clause-ok
returns-clause-ok g c =
    let o = g.O.Output.text in
    let waited = c.args.draft.now.text in
    let shown = form_text (term_form c.args.layout (tree c.args.table.now c.args.id)) in
    let whole = form_text (command_form (codes "assert") (term_form c.args.layout (tree c.args.table.now c.args.id) ∷ [])) ++ line_feed ∷ [] in
    let begun =
    drafts-more (o c.args.out.now) waited (o c.args.out.now) c.push_short.new.self (o c.print_term.new.out) c.print_term.new.draft.text (codes "(assert ") shown
    (drafts-waiting (o c.args.out.now) waited c.push_short.new.self (codes "(assert ") c.in_ok-push_short.ensures) c.in_ok-print_term.ensures.ok
    in
    subst (λ (xs : List ℕ). Drafts (o c.args.out.now) waited (o c.print_term.new.out) c.push_short-2.new.self xs)
    (append_assoc (codes "(assert ") shown (codes ")\n") ∙ sym (assertion-line shown))
    (drafts-more (o c.args.out.now) waited (o c.print_term.new.out) c.print_term.new.draft.text (o c.print_term.new.out) c.push_short-2.new.self (codes "(assert " ++ shown) (codes ")\n") begun
    (drafts-waiting (o c.print_term.new.out) c.print_term.new.draft.text c.push_short-2.new.self (codes ")\n") c.in_ok-push_short-2.ensures))
