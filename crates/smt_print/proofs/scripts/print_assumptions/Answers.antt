use Rattle.std.proofs.Common.{◌≡◌, ◌<◌, ◌+◌, ◌++◌, ◌∷◌, List, ℕ, [], length, refl, ap, sym, ◌∙◌, subst, arith, append_assoc}
use Rattle.std.specs.Prelude.{codes, map}
use Rattle.std.proofs.lemmas.Option.{get_or_from_slice_get}
use Rattle.smt_lex.specs.FormText.{form_text}
use Rattle.smt_lex.specs.Forms.{Form}
use Rattle.smt_lex.specs.Lexicon.{line_feed}
use Rattle.smt_terms.specs.declared.ids.NodeId.{NodeId}
use Rattle.term_table.specs.Formulas.{tree, trees_at}
use Rattle.term_table.specs.WrittenForms.{list_form}
use Rattle.smt_print.specs.Prefix.{AppendsPrefix, Drafts}
use Rattle.smt_print.specs.Text.{command_form}
use Rattle.smt_print.specs.TermForms.{tree_form}
use Rattle.smt_print.proofs.CommandLines.{map-map, list-command-ended, list-command-split}
use Rattle.smt_print.proofs.ListTexts.{list_begun, separator, part-more}
use Rattle.smt_print.proofs.Prefixes.{on_err, drafts-waiting, drafts-more, prefix-behind, prefix-drafted}
use Rattle.smt_print.proofs.scripts.print_assumptions.Goals as goal

pub loop-i-init : goal.loop-i-init
loop-i-init g c =
    drafts-waiting (g.O.Output.text c.args.out.now) c.args.draft.now.text c.push_short.new.self (codes "(check-sat-assuming (") c.in_ok-push_short.ensures

pub loop-i-preserved : goal.loop-i-preserved
loop-i-preserved g c =
    let o = g.O.Output.text in
    let below = c.loop-i-test.true in
    let lt : c.loop-i.i < length c.args.literals.now = omega (arith, c.len-i-end.ensures) in
    let to : NodeId → Form = λ k. tree_form (tree c.args.table.now k) in
    let front = codes "(check-sat-assuming " in
    let begun = front ++ list_begun to c.args.literals.now c.loop-i.i in
    let shown = form_text (to c.get.result) in
    let apart = drafts-more (o c.args.out.now) c.args.draft.now.text (o c.loop-i.out) c.loop-i.draft.text (o c.loop-i.out) c.push_separator.new.out begun (separator c.loop-i.i) c.loop-i.invariant
    (drafts-waiting (o c.loop-i.out) c.loop-i.draft.text c.push_separator.new.out (separator c.loop-i.i) c.in_ok-push_separator.ensures)
    in
    let printed = drafts-more (o c.args.out.now) c.args.draft.now.text (o c.loop-i.out) c.push_separator.new.out (o c.print_tree.new.out) c.print_tree.new.draft.text (begun ++ separator c.loop-i.i) shown apart c.in_ok-print_tree.ensures.ok in
    subst (λ (xs : List ℕ). Drafts (o c.args.out.now) c.args.draft.now.text (o c.print_tree.new.out) c.print_tree.new.draft.text xs)
    (part-more to c.args.literals.now front begun (begun ++ separator c.loop-i.i) ((begun ++ separator c.loop-i.i) ++ shown) c.loop-i.i (record { 0 = 0 }) lt refl refl
    (ap (λ k. (begun ++ separator c.loop-i.i) ++ form_text (to k)) (sym (get_or_from_slice_get c.args.literals.now c.loop-i.i c.get.result (record { 0 = 0 }) c.get.ensures))))
    printed

pub returns-in_err-push_separator-clause-prefix : goal.returns-in_err-push_separator-clause-prefix
returns-in_err-push_separator-clause-prefix g c =
    let o = g.O.Output.text in
    let to : NodeId → Form = λ k. tree_form (tree c.args.table.now k) in
    let name = codes "check-sat-assuming" in
    let line = form_text (command_form name (list_form (map tree_form (trees_at c.args.table.now c.args.literals.now)) ∷ [])) ++ line_feed ∷ [] in
    let (rest, same) = list-command-split to c.args.literals.now name c.loop-i.i in
    on_err c.from_residual-in_err-push_separator.result (AppendsPrefix (o c.args.out.now) (o c.loop-i.out) (c.args.draft.now.text ++ line))
    (prefix-drafted (o c.args.out.now) c.args.draft.now.text (o c.loop-i.out) c.loop-i.draft.text (codes "(check-sat-assuming " ++ list_begun to c.args.literals.now c.loop-i.i) rest line c.loop-i.invariant
    (same ∙ ap (λ fs. form_text (command_form name (list_form fs ∷ [])) ++ line_feed ∷ []) (map-map tree_form (tree c.args.table.now) c.args.literals.now)))

pub returns-in_err-print_tree-clause-prefix : goal.returns-in_err-print_tree-clause-prefix
returns-in_err-print_tree-clause-prefix g c =
    let o = g.O.Output.text in
    let below = c.loop-i-test.true in
    let lt : c.loop-i.i < length c.args.literals.now = omega (arith, c.len-i-end.ensures) in
    let to : NodeId → Form = λ k. tree_form (tree c.args.table.now k) in
    let name = codes "check-sat-assuming" in
    let front = codes "(check-sat-assuming " in
    let begun = front ++ list_begun to c.args.literals.now c.loop-i.i in
    let shown = form_text (to c.get.result) in
    let line = form_text (command_form name (list_form (map tree_form (trees_at c.args.table.now c.args.literals.now)) ∷ [])) ++ line_feed ∷ [] in
    let apart = drafts-more (o c.args.out.now) c.args.draft.now.text (o c.loop-i.out) c.loop-i.draft.text (o c.loop-i.out) c.push_separator.new.out begun (separator c.loop-i.i) c.loop-i.invariant
    (drafts-waiting (o c.loop-i.out) c.loop-i.draft.text c.push_separator.new.out (separator c.loop-i.i) c.in_ok-push_separator.ensures)
    in
    let (rest, same) = list-command-split to c.args.literals.now name (c.loop-i.i + 1) in
    let more : (begun ++ separator c.loop-i.i) ++ shown ≡ front ++ list_begun to c.args.literals.now (c.loop-i.i + 1) =
    part-more to c.args.literals.now front begun (begun ++ separator c.loop-i.i) ((begun ++ separator c.loop-i.i) ++ shown) c.loop-i.i (record { 0 = 0 }) lt refl refl
    (ap (λ k. (begun ++ separator c.loop-i.i) ++ form_text (to k)) (sym (get_or_from_slice_get c.args.literals.now c.loop-i.i c.get.result (record { 0 = 0 }) c.get.ensures)))
    in
    on_err c.from_residual-in_err-print_tree.result (AppendsPrefix (o c.args.out.now) (o c.print_tree.new.out) (c.args.draft.now.text ++ line))
    (prefix-behind (o c.args.out.now) c.args.draft.now.text (o c.loop-i.out) c.push_separator.new.out (o c.print_tree.new.out) (begun ++ separator c.loop-i.i) shown rest line apart c.in_err-print_tree.ensures.prefix
    (ap (λ xs. xs ++ rest) more ∙ same ∙ ap (λ fs. form_text (command_form name (list_form fs ∷ [])) ++ line_feed ∷ []) (map-map tree_form (tree c.args.table.now) c.args.literals.now)))

pub returns-in_err-push_short-2-clause-prefix : goal.returns-in_err-push_short-2-clause-prefix
returns-in_err-push_short-2-clause-prefix g c =
    let o = g.O.Output.text in
    let to : NodeId → Form = λ k. tree_form (tree c.args.table.now k) in
    let name = codes "check-sat-assuming" in
    let line = form_text (command_form name (list_form (map tree_form (trees_at c.args.table.now c.args.literals.now)) ∷ [])) ++ line_feed ∷ [] in
    let (rest, same) = list-command-split to c.args.literals.now name c.loop-i.i in
    on_err c.from_residual-in_err-push_short-2.result (AppendsPrefix (o c.args.out.now) (o c.loop-i.out) (c.args.draft.now.text ++ line))
    (prefix-drafted (o c.args.out.now) c.args.draft.now.text (o c.loop-i.out) c.loop-i.draft.text (codes "(check-sat-assuming " ++ list_begun to c.args.literals.now c.loop-i.i) rest line c.loop-i.invariant
    (same ∙ ap (λ fs. form_text (command_form name (list_form fs ∷ [])) ++ line_feed ∷ []) (map-map tree_form (tree c.args.table.now) c.args.literals.now)))

pub returns-clause-ok : goal.returns-clause-ok
returns-clause-ok g c =
    let o = g.O.Output.text in
    let past = c.loop-i-test.false in
    let to : NodeId → Form = λ k. tree_form (tree c.args.table.now k) in
    let name = codes "check-sat-assuming" in
    let begun = codes "(check-sat-assuming " ++ list_begun to c.args.literals.now c.loop-i.i in
    let ended : begun ++ codes "))" ≡ form_text (command_form name (list_form (map to c.args.literals.now) ∷ [])) =
    list-command-ended to c.args.literals.now [] begun (begun ++ codes "))") name c.loop-i.i (omega (arith, c.len-i-end.ensures)) refl refl
    in
    subst (λ (xs : List ℕ). Drafts (o c.args.out.now) c.args.draft.now.text (o c.loop-i.out) c.push_short-2.new.self xs)
    (sym (append_assoc begun (codes "))") (line_feed ∷ [])) ∙ ap (λ xs. xs ++ line_feed ∷ []) ended
    ∙ ap (λ fs. form_text (command_form name (list_form fs ∷ [])) ++ line_feed ∷ []) (map-map tree_form (tree c.args.table.now) c.args.literals.now))
    (drafts-more (o c.args.out.now) c.args.draft.now.text (o c.loop-i.out) c.loop-i.draft.text (o c.loop-i.out) c.push_short-2.new.self begun (codes "))\n") c.loop-i.invariant
    (drafts-waiting (o c.loop-i.out) c.loop-i.draft.text c.push_short-2.new.self (codes "))\n") c.in_ok-push_short-2.ensures))
