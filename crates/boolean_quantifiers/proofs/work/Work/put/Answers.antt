use Rattle.std.proofs.Common.{◌≡◌, [], true, ap, sym, ◌∙◌, subst}
use Rattle.smt_terms.specs.declared.ids.NodeId.{NodeId}
use Rattle.term_table.specs.Formulas.{IsNode}
use Rattle.term_walk.specs.FreeLists.{has_node}
use Rattle.quantifier_forms.proofs.Sweeps.{node-stays}
use Rattle.boolean_quantifiers.specs.declared.occurrences.Occurrences.{Occurrences}
use Rattle.boolean_quantifiers.specs.declared.work.Case.{Case}
use Rattle.boolean_quantifiers.specs.Occurrences.{AreTrue}
use Rattle.boolean_quantifiers.specs.Replacing.{ArePut, IsImage}
use Rattle.std.proofs.lemmas.List.Elements.{All-head}
use Rattle.boolean_quantifiers.specs.Working.{single}
use Rattle.boolean_quantifiers.proofs.Noted.{notes-stay}
use Rattle.boolean_quantifiers.proofs.Cases.{case-spares, cases-put}
use Rattle.boolean_quantifiers.proofs.work.Work.put.Goals as goal

pub replace-requires-clause-spares : goal.replace-requires-clause-spares
replace-requires-clause-spares c =
    let o = c.version.new.self.occurrences in
    let notes = subst (λ (x : Occurrences). AreTrue c.args.table.now x.candidates.keys x.notes.entries) (sym c.in_ok-version.ensures.occurrences) c.in_ok-note_all.ensures.notes in
    let image = All-head (IsImage c.args.table.now) (c.args.case.variable, c.args.case.image) [] c.requires.images in
    case-spares c.args.table.now o.candidates.keys o.notes.entries c.args.case image.from notes

pub replace-requires-clause-put : goal.replace-requires-clause-put
replace-requires-clause-put c =
    subst (λ (x : Case). ArePut c.args.table.now (single x) c.version.new.self.memo c.in_ok-version.version) (c.in_ok-version.ensures.case c.args.case)
    (c.in_ok-version.ensures.cases.put c.in_ok-version.version c.args.case c.in_ok-version.ensures.within)

pub returns-clause-work : goal.returns-clause-work
returns-clause-work c =
    let o = c.version.new.self.occurrences in
    let notes = subst (λ (x : Occurrences). AreTrue c.args.table.now x.candidates.keys x.notes.entries) (sym c.in_ok-version.ensures.occurrences) c.in_ok-note_all.ensures.notes in
    let same = ap (λ (x : Occurrences). x.candidates) c.in_ok-version.ensures.occurrences ∙ c.in_ok-note_all.ensures.candidates in
    let candidates : (k : NodeId) → has_node o.candidates.keys k ≡ true → IsNode c.args.table.now k = λ k e. c.requires.work.candidates k ((λ i. has_node (sym same i).keys k) ∙ e) in
    record {
      notes = notes-stay c.args.table.now c.replace.new.table o.candidates.keys o.notes.entries c.in_ok-result.ensures.grows candidates notes;
      candidates = λ k e. node-stays c.args.table.now c.replace.new.table k c.in_ok-result.ensures.grows (candidates k e);
      cases = cases-put c.args.table.now c.replace.new.table c.version.new.self.cases.keys c.version.new.self.memo c.replace.new.memo c.in_ok-version.version c.args.case c.in_ok-result.ensures.grows c.in_ok-version.ensures.cases c.in_ok-version.ensures.within c.in_ok-version.ensures.case c.in_ok-result.ensures.put c.in_ok-result.ensures.extends;
    }
