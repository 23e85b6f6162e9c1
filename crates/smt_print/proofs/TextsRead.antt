-- The text of a term is read as the term's form, in both layouts.
use Rattle.std.proofs.Common.{◌≡◌, Ok}
use Rattle.smt_lex.specs.Forms.{none, ◌⨾◌, forms}
use Rattle.smt_terms.specs.Term.{Term}
use Rattle.smt_print.specs.declared.layout.Layout.{Layout}
use Rattle.smt_print.specs.declared.layout.Layout.TheVariants.{Tree, Dag}
use Rattle.smt_print.specs.Text.{term_form, text}
use Rattle.smt_print.proofs.FormTexts.{IsWritten, placed, forms_of_text}
use Rattle.smt_print.proofs.WritableTerms.{IsWritable, tree_written, dag_written}

pub term_written : (layout : Layout) (t : Term) → IsWritable t → IsWritten (term_form layout t)
term_written Tree t is = tree_written t is
term_written Dag t is = dag_written t is

pub forms_of_term_text : (layout : Layout) (t : Term) → IsWritable t → forms (text layout t) ≡ Ok (placed 0 (term_form layout t) ⨾ none)
forms_of_term_text layout t is = forms_of_text (term_form layout t) (term_written layout t is)
