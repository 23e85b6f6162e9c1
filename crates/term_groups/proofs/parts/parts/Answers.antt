use Rattle.std.proofs.Common.{◌≡◌, false, [], filter, ap, sym, ◌∙◌, subst}
use Rattle.std.proofs.lemmas.Result.{IfOk-weaker}
use Rattle.quantifier_forms.specs.Listing.{listed}
use Rattle.term_table.specs.Formulas.{tree, trees_at}
use Rattle.term_groups.specs.Parts.{collected, AreParts}
use Rattle.term_groups.proofs.ListedParts.{listed-parts, listed-collected}
use Rattle.term_groups.proofs.parts.parts.Goals as goal

pub returns-clause-parts : goal.returns-clause-parts
returns-clause-parts g c opens tell closed =
    let t = c.args.table.now in
    let root = tree t c.args.root in
    IfOk-weaker c.list.result (λ ks. trees_at t ks.items ≡ listed (λ _. false) opens root []) (λ ks. AreParts opens root (trees_at t ks.items))
    (λ ks terms. subst (AreParts opens root) (sym terms) (listed-parts opens closed root))
    (c.list.ensures.terms (λ _. false) opens (λ k node. c.requires.all k) tell)

pub returns-clause-collected : goal.returns-clause-collected
returns-clause-collected g c opens wanted tell closed =
    let t = c.args.table.now in
    let root = tree t c.args.root in
    IfOk-weaker c.list.result (λ ks. trees_at t ks.items ≡ listed (λ _. false) opens root []) (λ ks. filter wanted (trees_at t ks.items) ≡ collected opens wanted root)
    (λ ks terms. ap (filter wanted) terms ∙ listed-collected opens wanted closed root)
    (c.list.ensures.terms (λ _. false) opens (λ k node. c.requires.all k) tell)
