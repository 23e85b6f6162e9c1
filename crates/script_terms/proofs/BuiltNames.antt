-- The names of what written operators are made of.
use Rattle.std.proofs.Common.{◌≡◌, ◌∙◌, sym, ap, subst, refl, List, [], ◌∷◌, map}
use Rattle.smt_terms.specs.declared.op.Op.TheVariants.{Whole, Neg}
use Rattle.smt_terms.specs.Free.{name_among}
use Rattle.smt_terms.specs.Fresh.{Supply}
use Rattle.smt_terms.specs.Made.{minus, made}
use Rattle.smt_terms.specs.SubstLaws.{names_within, names_within_each, GivesNone}
use Rattle.smt_terms.specs.Term.{Head, op, Term, apply, Terms, none, ◌⨾◌, terms}
use Rattle.smt_terms.specs.Written.{Algebra, Written, build}
use Rattle.smt_terms.proofs.Cuts.{name_among-append}
use Rattle.smt_terms.proofs.Tests.{left_true, right_true}
use Rattle.script_terms.specs.Heads.{term_width, term_algebra}
use Rattle.script_terms.proofs.Builds.{builds}
use Rattle.script_terms.proofs.NameFacts.{spared_none, spared_both}

minus_named : (s : Supply) (t : Term) → GivesNone s (names_within (apply (op Neg) (t ⨾ none))) → GivesNone s (names_within (minus t))
minus_named s (apply (op (Whole n)) none) given = spared_none s
minus_named s t given = given

made_named : (s : Supply) (h : Head) (ts : Terms) → GivesNone s (names_within (apply h ts)) → GivesNone s (names_within (made h ts))
made_named s (op Neg) (t ⨾ none) given = minus_named s t given
made_named s h ts given = given

-- terms of whose names the supply gives none
abbrev SparedTerm : Supply → Type 0
SparedTerm s = (t : Term) × GivesNone s (names_within t)

abbrev plain_terms : (s : Supply) → List (SparedTerm s) → List Term
plain_terms s xs = map (λ x. x.0) xs

spared_each : (s : Supply) (xs : List (SparedTerm s)) → GivesNone s (names_within_each (terms (plain_terms s xs)))
spared_each s [] = spared_none s
spared_each s (x ∷ xs) = spared_both s (names_within x.0) (names_within_each (terms (plain_terms s xs))) x.1 (spared_each s xs)

with_names : (s : Supply) (ts : List Term) → GivesNone s (names_within_each (terms ts)) → (xs : List (SparedTerm s)) × (plain_terms s xs ≡ ts)
with_names s [] given = ([], refl)
with_names s (t ∷ ts) given =
    let rest = with_names s ts (λ n h. given n (name_among-append (names_within t) (names_within_each (terms ts)) n ∙ right_true (name_among (names_within t) n) (name_among (names_within_each (terms ts)) n) h)) in
    ((t, λ n h. given n (name_among-append (names_within t) (names_within_each (terms ts)) n ∙ left_true (name_among (names_within t) n) (name_among (names_within_each (terms ts)) n) h)) ∷ rest.0, ap (λ us. t ∷ us) rest.1)

spared_algebra : (s : Supply) → Algebra (SparedTerm s)
spared_algebra s = record {
  make = λ o xs. (made (op o) (terms (plain_terms s xs)), made_named s (op o) (terms (plain_terms s xs)) (spared_each s xs));
  width_in = λ x. term_width x.0;
}

pub build_spared : (s : Supply) (w : Written) (ts : List Term) → GivesNone s (names_within_each (terms ts)) → GivesNone s (names_within (build term_algebra w ts))
unfolding spared_algebra
build_spared s w ts given =
    let found = with_names s ts given in
    let same : build term_algebra w (plain_terms s found.0) ≡ (build (spared_algebra s) w found.0).0 = builds (spared_algebra s) term_algebra (λ x. x.0) (record { applications = λ o xs. refl; widths = λ x. refl }) w found.0 in
    subst (λ us. GivesNone s (names_within (build term_algebra w us))) found.1
    (subst (λ t. GivesNone s (names_within t)) (sym same) (build (spared_algebra s) w found.0).1)
