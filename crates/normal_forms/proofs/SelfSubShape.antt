-- Self-substitution leaves no quantifier over truth values, whatever the term and the supply are.
use Rattle.std.proofs.Common.{◌≡◌, Bool, true, false, List, [], ◌∷◌, Option, Some, None, refl, subst as carry}
use Rattle.std.specs.Prelude.{⊤}
use Rattle.smt_terms.specs.Sorts.{Sort, bool, int, bit_vector, array, free_sort, Variable}
use Rattle.smt_terms.specs.Term.{Quantifier, universal, existential, Term, apply, quantified, Terms, none, ◌⨾◌, constant_of}
use Rattle.smt_terms.specs.Equal.{term_eq}
use Rattle.smt_terms.specs.Fresh.{Supply}
use Rattle.smt_terms.specs.Subst.{subst}
use Rattle.smt_terms.specs.Shapes.{no_bool_quantifier, no_bool_quantifiers}
use Rattle.smt_terms.proofs.Tests.{and_true}
use Rattle.normal_forms.specs.Quantifiers.{over_left, not_bool, witness, substitute_bool, substitute_each, Solved, Solving, solved_for, solved_or, solve, selfsub_from, selfsubs_from, selfsub}
use Rattle.normal_forms.proofs.NoBool.{at_truth-free, kept-not_bool, over-left-free}
use Rattle.normal_forms.proofs.Substituted.{front-have, subst-any, subst-no_bool}

abbrev Plain : Term → Type 0
Plain t = no_bool_quantifier t ≡ true

witness-plain : (q : Quantifier) (x : Variable) (b : Term) → Plain b → Plain (witness q x b)
witness-plain existential x b plain = at_truth-free b true x plain
witness-plain universal x b plain = at_truth-free b false x plain

bool-plain : (s : Sort) (q : Quantifier) (x : Variable) (r : Term × Supply) → Plain r.0 → Plain (substitute_bool s q x r).0
bool-plain bool q x r plain =
    subst-no_bool ⊥ r.0 ((constant_of x, witness q x r.0) ∷ []) (subst ((constant_of x, witness q x r.0) ∷ []) r.0 r.1).0 (subst-any ((constant_of x, witness q x r.0) ∷ []) r.0 r.1) plain
    (front-have Plain x (witness q x r.0) [] (witness-plain q x r.0 plain) (λ g u found. absurd cc))
bool-plain int q x r plain = plain
bool-plain (bit_vector w) q x r plain = plain
bool-plain (array i e) q x r plain = plain
bool-plain (free_sort n) q x r plain = plain

each-plain : (q : Quantifier) (xs : List Variable) (r : Term × Supply) → Plain r.0 → Plain (substitute_each q xs r).0
each-plain q [] r plain = plain
each-plain q (x ∷ xs) r plain = bool-plain x.sort q x (substitute_each q xs r) (each-plain q xs r plain)

-- ---- what was kept, too

abbrev AllPlain : List Solved → Type 0
AllPlain [] = ⊤
AllPlain (e ∷ es) = Plain e.result × AllPlain es

found-plain : (es : List Solved) (t r : Term) → AllPlain es → solved_for es t ≡ Some r → Plain r
found-plain [] t r all found = absurd cc
found-plain (e ∷ es) t r all found = go (term_eq e.term t) found (found-plain es t r all.1)
  where
    go : (b : Bool) → elim b [ true ↦ Some e.result | false ↦ solved_for es t ] ≡ Some r → (solved_for es t ≡ Some r → Plain r) → Plain r
    go true k below = let same : e.result ≡ r = cc in carry Plain same all.0
    go false k below = below k

record Shaped (r : Term × Solving) : Type 0 where
  plain : Plain r.0
  solved : AllPlain r.1.solved

record AllShaped (r : Terms × Solving) : Type 0 where
  plain : no_bool_quantifiers r.0 ≡ true
  solved : AllPlain r.1.solved

quantified-shaped : (q : Quantifier) (xs : List Variable) (body : Term) (s : Solving) → AllPlain s.solved → Shaped (selfsub_from body s) → (o : Option Term) → solved_for s.solved (quantified q xs body) ≡ o → Shaped (solved_or o s (λ s'. solve (quantified q xs body) q xs (selfsub_from body s')))
quantified-shaped q xs body s all below (Some r) found = record { plain = found-plain s.solved (quantified q xs body) r all found; solved = all }
quantified-shaped q xs body s all below None found =
    let b : Term × Solving = selfsub_from body s in
    let r : Term × Supply = substitute_each q xs (b.0, b.1.names) in
    let plain : Plain (over_left q (not_bool xs) r.0) = over-left-free q (not_bool xs) r.0 (kept-not_bool xs) (each-plain q xs (b.0, b.1.names) below.plain) in
    record { plain = plain; solved = (plain, below.solved) }

mutual
  selfsub-shaped : (t : Term) (s : Solving) → AllPlain s.solved → Shaped (selfsub_from t s)
  selfsub-shaped (apply h ts) s all =
      let out : AllShaped (selfsubs_from ts s) = selfsubs-shaped ts s all in
      record { plain = out.plain; solved = out.solved }
  selfsub-shaped (quantified q xs body) s all = quantified-shaped q xs body s all (selfsub-shaped body s all) (solved_for s.solved (quantified q xs body)) refl

  selfsubs-shaped : (ts : Terms) (s : Solving) → AllPlain s.solved → AllShaped (selfsubs_from ts s)
  selfsubs-shaped none s all = record { plain = refl; solved = all }
  selfsubs-shaped (t ⨾ ts) s all =
      let first : Shaped (selfsub_from t s) = selfsub-shaped t s all in
      let rest : AllShaped (selfsubs_from ts (selfsub_from t s).1) = selfsubs-shaped ts (selfsub_from t s).1 first.solved in
      record { plain = and_true (no_bool_quantifier (selfsub_from t s).0) (no_bool_quantifiers (selfsubs_from ts (selfsub_from t s).1).0) first.plain rest.plain; solved = rest.solved }

pub selfsub-no_bool : (t : Term) (s : Supply) → no_bool_quantifier (selfsub t s).0 ≡ true
selfsub-no_bool t s = (selfsub-shaped t (record { names = s; solved = [] }) tt).plain
