use Rattle.std.proofs.Common.{List, ℕ, ◌++◌, ap, ◌∙◌, subst}
use Rattle.term_table.specs.Formulas.{Formulas, tree}
use Rattle.smt_print.specs.Prefix.{Drafts}
use Rattle.smt_print.specs.Text.{text}
use Rattle.smt_print.proofs.Prefixes.{drafts-all}
use Rattle.smt_print.proofs.terms.term_text.Goals as goal

pub returns : goal.returns
returns c =
    let old = c.new-bytes.result.items in
    let shown = text c.args.layout (tree c.args.table.now c.args.id) in
    let printed : Drafts old c.new-draft.result.text c.print_term.new.out.items c.print_term.new.draft.text shown =
    subst (λ (t : Formulas). Drafts old c.new-draft.result.text c.print_term.new.out.items c.print_term.new.draft.text (text c.args.layout (tree t c.args.id))) c.new-printed.ensures c.in_ok-print_term.ensures.ok
    in
    drafts-all old c.print_term.new.out.items c.print_term.new.draft.text c.pass_all.new.out.items shown
    (subst (λ (waited : List ℕ). Drafts old waited c.print_term.new.out.items c.print_term.new.draft.text shown) c.new-draft.ensures printed) c.in_ok-pass_all.ensures.ok
    ∙ ap (λ xs. xs ++ shown) c.new-bytes.ensures.items
