use Rattle.std.proofs.Common.{◌≡◌, ℕ, List, [], ◌∷◌, ◌++◌, ap, ◌∙◌, append_assoc}
use Rattle.std.specs.Prelude.{codes}
use Rattle.smt_lex.specs.Lexicon.{space}
use Rattle.smt_terms.specs.Numeral.{numeral}
use Rattle.smt_print.specs.DagSteps.{let_opening}
use Rattle.smt_print.proofs.dag.push_let.Goals as goal

opened : (old : List ℕ) (k : ℕ) → ((old ++ codes "(let ((.def_") ++ numeral k) ++ space ∷ [] ≡ old ++ let_opening k
unfolding let_opening
opened old k = append_assoc (old ++ codes "(let ((.def_") (numeral k) (space ∷ []) ∙ append_assoc old (codes "(let ((.def_") (numeral k ++ space ∷ [])

pub returns : goal.returns
returns c =
    c.in_ok-push.ensures
    ∙ ap (λ xs. xs ++ space ∷ []) (c.in_ok-push_number.ensures ∙ ap (λ xs. xs ++ numeral c.args.number) c.in_ok-push_short.ensures)
    ∙ opened c.args.text.now c.args.number
