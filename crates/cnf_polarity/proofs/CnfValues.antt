-- Where all assertions of the group hold, the formula holds; and where the formula holds, all of them hold as soon as each name
-- has the value of its connective.
use Rattle.std.proofs.Common.{◌≡◌, Bool, true, false, List, [], ◌∷◌, flat_map, All, IsTrue, refl, sym, ◌∙◌, subst}
use Rattle.std.specs.List.{list_all}
use Rattle.smt_terms.specs.Free.{free}
use Rattle.smt_terms.specs.Fresh.{Supply}
use Rattle.smt_terms.specs.Groups.{Named, draw_each}
use Rattle.smt_terms.specs.Models.{Model, IsModel}
use Rattle.smt_terms.specs.Shapes.{is_clause}
use Rattle.smt_terms.specs.Term.{Term}
use Rattle.smt_terms.proofs.Tests.{both_true, and_true}
use Rattle.term_groups.specs.Drawing.{ConstantsAreNew}
use Rattle.term_groups.specs.Grouping.{holds_in, terms_of, IsGroupable, IsGiven}
use Rattle.cnf_polarity.specs.Cnf.{Occurrence, occurrences, literal, clauses, named_connectives, unless_clause, cnf}
use Rattle.cnf_polarity.proofs.CnfValueComplete.{holds-kept, literal-told, names-told}
use Rattle.cnf_polarity.proofs.CnfValueNames.{each-passes, all-pass, append-passes, parts-pass}
use Rattle.cnf_polarity.proofs.CnfValueSound.{literal-sound}
use Rattle.cnf_polarity.proofs.NamedParts.{IsTruthOver, named-are-truths}

-- all clauses of these names
abbrev all_clauses : Named → List Occurrence → List Term
all_clauses ns os = flat_map (λ n. clauses ns os n.0 n.1) ns

one : (test : Term → Bool) (l : Term) → test l ≡ true → list_all test (l ∷ []) ≡ true
one test l e = and_true (test l) true e refl

the-one : (test : Term → Bool) (l : Term) → list_all test (l ∷ []) ≡ true → test l ≡ true
the-one test l e = (both_true (test l) true e).0

sound-by : (b : Bool) (t : Term) (s : Supply) → IsGroupable t s → (m : Model) → IsTrue (list_all (holds_in m) (unless_clause b t s).group.asserts) → IsTrue (holds_in m t)
sound-by true t s able m all = the-one (holds_in m) t all
sound-by false t s able m all =
    let ns : Named = (draw_each (named_connectives t) s).symbols in
    let os : List Occurrence = occurrences true t in
    let parts = parts-pass (holds_in m) (all_clauses ns os) (literal ns t ∷ []) all in
    literal-sound m ns os (each-passes (holds_in m) (λ n. clauses ns os n.0 n.1) ns parts.0) t able.sort true (λ p u among. among) (the-one (holds_in m) (literal ns t) parts.1)

pub cnf-sound : ConstantsAreNew → (t : Term) (s : Supply) → IsGroupable t s → (m : Model) → IsModel m → IsTrue (list_all (holds_in m) (cnf t s).group.asserts) → IsTrue (holds_in m t)
cnf-sound new t s able m valid all = sound-by (is_clause t) t s able m all

complete-by : ConstantsAreNew → (b : Bool) (t : Term) (s : Supply) → IsGroupable t s → (m n : Model) → IsGiven m n t (unless_clause b t s).group.symbols → IsTrue (holds_in m t) → IsTrue (list_all (holds_in n) (unless_clause b t s).group.asserts)
complete-by new true t s able m n given holds = one (holds_in n) t (holds-kept m n t [] given t able.sort (λ f among. among) ∙ holds)
complete-by new false t s able m n given holds =
    let ns : Named = (draw_each (named_connectives t) s).symbols in
    let os : List Occurrence = occurrences true t in
    let parts : All (IsTruthOver (free t)) (terms_of ns) = subst (All (IsTruthOver (free t))) (sym (new.each (named_connectives t) s)) (named-are-truths (free t) t able.sort (λ f among. among)) in
    append-passes (holds_in n) (all_clauses ns os) (literal ns t ∷ [])
    (all-pass (holds_in n) (λ p. clauses ns os p.0 p.1) ns (names-told m n t ns given os ns given.given parts))
    (one (holds_in n) (literal ns t) (literal-told m n t ns given t able.sort (λ f among. among) ∙ holds))

pub cnf-complete : ConstantsAreNew → (t : Term) (s : Supply) → IsGroupable t s → (m n : Model) → IsModel m → IsGiven m n t (cnf t s).group.symbols → IsTrue (holds_in m t) → IsTrue (list_all (holds_in n) (cnf t s).group.asserts)
cnf-complete new t s able m n valid given holds = complete-by new (is_clause t) t s able m n given holds
