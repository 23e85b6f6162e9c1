use Rattle.std.proofs.Common.{◌≡◌, ◌∙◌, ap, subst, sym, List, length, None, Result}
use Rattle.smt_lex.specs.Forms.{as_forms, forms_of}
use Rattle.smt_lex.specs.Lex.{Token, Fault}
use Rattle.smt_terms.specs.declared.ids.NodeId.{NodeId}
use Rattle.term_table.specs.Formulas.{AreNodes, trees_at}
use Rattle.term_walk.specs.Subterms.{all_subterms}
use Rattle.script_read.specs.declared.scripts.Command.{Command}
use Rattle.script_read.specs.CommandLists.{commands_of}
use Rattle.smtrw_answers.specs.Endings.{script_end}
use Rattle.smtrw_answers.specs.Outputs.{stats_lines}
use Rattle.smtrw_run.specs.Counted.{declarations_in, ids_of}
use Rattle.smtrw_run.proofs.Commanded.{nodes_asserted}
use Rattle.smtrw_run.proofs.Counts.{lines_are}
use Rattle.smtrw_run.proofs.Endings.{accepted_ends}
use Rattle.smtrw_run.proofs.counting.counted.Goals as goal

pub count_nodes-requires : goal.count_nodes-requires
count_nodes-requires c =
    let t = c.read_script.new.table in
    let cs = c.in_ok-script.script.commands in
    let roots = c.deref.ensures.value ∙ c.in_ok-roots.ensures ∙ ap (λ (ds : List Command). ids_of ds) c.as_slice-commands.ensures in
    subst (λ (ks : List NodeId). AreNodes t ks) (sym roots) (nodes_asserted t cs c.in_ok-script.ensures.commands)

pub returns : goal.returns
returns c =
    let b = c.args.forest.now.bytes in
    let t = c.read_script.new.table in
    let cs = c.in_ok-script.script.commands in
    let is = c.in_ok-script.ensures.script in
    let list = c.as_slice-commands.ensures in
    let roots = c.in_ok-roots.ensures ∙ ap (λ (ds : List Command). ids_of ds) list in
    let formed = ap (λ (r : Result (List Token) Fault). as_forms r) c.requires.read in
    let nodes = c.in_ok-count_nodes.ensures ∙ ap (λ (ks : List NodeId). length (all_subterms (trees_at t ks))) (c.deref.ensures.value ∙ roots) in
    let text : c.in_ok-text.text ≡ stats_lines b =
    c.in_ok-text.ensures ∙ lines_are b t cs c.in_ok-script.field-0-1 is (forms_of c.args.forest.now.tokens) formed _ c.count_commands.ensures (c.declarations.ensures ∙ ap (λ (ds : List Command). declarations_in ds) list)
    (c.len.ensures ∙ c.in_ok-roots.roots.ok.0 ∙ ap (λ (ks : List NodeId). length ks) roots) c.checks.ensures nodes in
    let accepted : script_end b ≡ None = accepted_ends b c.requires.short (commands_of t cs, c.in_ok-script.field-0-1) is in
    (accepted, text)
