-- Prenex form turn by turn: what each turn leaves to do, and what it keeps.
use Rattle.std.proofs.Common.{◌≡◌, ℕ, zero, suc, ◌≤◌, ◌<◌, List, [], ◌∷◌, ◌++◌, length, get_or, drop, Option, Some, None, refl, ap, sym, ◌∙◌, subst, arith}
use Rattle.std.proofs.Math.ListN.{drop_of_length-le}
use Rattle.smt_terms.specs.Fresh.{Supply, NeverGives}
use Rattle.smt_terms.specs.Free.{name_among, with_more, free}
use Rattle.smt_terms.specs.Rank.{sort_of}
use Rattle.smt_terms.specs.Sorts.{bool}
use Rattle.smt_terms.specs.SubstLaws.{GivesNone, names_within}
use Rattle.smt_terms.specs.Term.{Term, quantified}
use Rattle.normal_forms.specs.Nnf.{nnf}
use Rattle.normal_forms.specs.Prenex.{Quantified, whole, leftmost, replaced, quantifiers, in_front, pulled, prenex_turns}
use Rattle.normal_forms.proofs.Clear.{Clear, in-first, in-second}
use Rattle.normal_forms.proofs.Drawn.{Draws, draws, renamed-fewer}
use Rattle.normal_forms.proofs.Inside.{Within, nnf-inside}
use Rattle.normal_forms.proofs.Replaced.{leftmost-inherits, operands-within, replaced-within, replaced-less}
use Rattle.quantifier_forms.specs.Pulling.{all_fresh, fresh_body, Front, behind_fronts, all_turns}

-- the matrix behind a turn
abbrev pub next : Term → Quantified → Supply → Term
next t f s = replaced (whole f) (fresh_body f s).0 t

-- ---- each turn takes a quantifier out of the matrix

pub next-less : (t : Term) (f : Quantified) (s : Supply) → leftmost t ≡ Some f → suc (quantifiers (next t f s)) ≤ quantifiers t
next-less t f s e =
    let less : quantifiers (fresh_body f s).0 ≤ quantifiers f.body = renamed-fewer f s in
    replaced-less (fresh_body f s).0 t f e (omega (arith, less))

no-turns : (k : ℕ) (t : Term) (s : Supply) → leftmost t ≡ None → prenex_turns k t s ≡ (t, s)
no-turns zero t s e = refl
no-turns (suc k) t s e = ap (λ o. pulled o t s (λ u v. prenex_turns k u v)) e

a-turn : (k : ℕ) (t : Term) (f : Quantified) (s : Supply) → leftmost t ≡ Some f → prenex_turns (suc k) t s ≡ in_front f.quantifier (all_fresh f.variables s).variables (prenex_turns k (next t f s) (fresh_body f s).1)
a-turn k t f s e = ap (λ o. pulled o t s (λ u v. prenex_turns k u v)) e

none-left : (t : Term) (s : Supply) → quantifiers t ≤ 0 → leftmost t ≡ None
none-left t s few = by (leftmost t) refl
  where
    by : (o : Option Quantified) → leftmost t ≡ o → o ≡ None
    by None e = refl
    by (Some f) e = let less = next-less t f s e in absurd (omega (arith, less, few))

-- more turns than the matrix has quantifiers give the same
enough : (k j : ℕ) (t : Term) (s : Supply) → quantifiers t ≤ k → quantifiers t ≤ j → prenex_turns k t s ≡ prenex_turns j t s
enough zero j t s few fewer = sym (no-turns j t s (none-left t s few))
enough (suc k) zero t s few fewer = no-turns (suc k) t s (none-left t s fewer)
enough (suc k) (suc j) t s few fewer = by (leftmost t) refl (λ u v a b. enough k j u v a b)
  where
    by : (o : Option Quantified) → leftmost t ≡ o → ((u : Term) (v : Supply) → quantifiers u ≤ k → quantifiers u ≤ j → prenex_turns k u v ≡ prenex_turns j u v) → prenex_turns (suc k) t s ≡ prenex_turns (suc j) t s
    by None e below = no-turns (suc k) t s e ∙ sym (no-turns (suc j) t s e)
    by (Some f) e below =
        let less = next-less t f s e in
        a-turn k t f s e
        ∙ ap (in_front f.quantifier (all_fresh f.variables s).variables) (below (next t f s) (fresh_body f s).1 (omega (arith, less, few)) (omega (arith, less, fewer)))
        ∙ sym (a-turn j t f s e)

one-turn : (t : Term) (f : Quantified) (s : Supply) → leftmost t ≡ Some f → all_turns t s ≡ in_front f.quantifier (all_fresh f.variables s).variables (all_turns (next t f s) (fresh_body f s).1)
one-turn t f s e = by (quantifiers t) refl
  where
    by : (n : ℕ) → quantifiers t ≡ n → prenex_turns n t s ≡ in_front f.quantifier (all_fresh f.variables s).variables (all_turns (next t f s) (fresh_body f s).1)
    by zero h = let less = next-less t f s e in absurd (omega (arith, less, h))
    by (suc k) h =
        let less = next-less t f s e in
        a-turn k t f s e ∙ ap (in_front f.quantifier (all_fresh f.variables s).variables) (enough k (quantifiers (next t f s)) (next t f s) (fresh_body f s).1 (omega (arith, less, h)) (omega arith))

-- ---- what stands in front, and what is left to do

behind-pushed : (fs : List Front) (f : Front) (t : Term) → behind_fronts (fs ++ f ∷ []) t ≡ behind_fronts fs (quantified f.quantifier f.variables t)
behind-pushed [] f t = refl
behind-pushed (g ∷ fs) f t = ap (quantified g.quantifier g.variables) (behind-pushed fs f t)

-- one quantifier more, from the last to the first
pub behind-more : (fs : List Front) (i : ℕ) (d : Front) (u : Term) → i < length fs → behind_fronts (drop i fs) u ≡ quantified (get_or fs i d).quantifier (get_or fs i d).variables (behind_fronts (drop (suc i) fs) u)
behind-more [] i d u lt = absurd (omega arith)
behind-more (f ∷ fs) zero d u lt = refl
behind-more (f ∷ fs) (suc i) d u lt = behind-more fs i d u (omega arith)

pub behind-none : (fs : List Front) (i : ℕ) (u : Term) → length fs ≤ i → u ≡ behind_fronts (drop i fs) u
behind-none fs i u le = ap (λ gs. behind_fronts gs u) (sym (drop_of_length-le fs le))

-- all turns of the first matrix give these quantifiers over all turns of this one
abbrev pub LeadsOn : Term → Supply → List Front → Term → Supply → Type 0
LeadsOn t0 s0 fs t s = all_turns t0 s0 ≡ (behind_fronts fs (all_turns t s).0, (all_turns t s).1)

pub leads-first : (t : Term) (s : Supply) (fs : List Front) → fs ≡ [] → LeadsOn t s fs t s
leads-first t s fs none_yet = subst (λ (gs : List Front). LeadsOn t s gs t s) (sym none_yet) refl

pub leads-next : (t0 t : Term) (s0 s : Supply) (fs : List Front) (f : Quantified) → leftmost t ≡ Some f → LeadsOn t0 s0 fs t s
    → LeadsOn t0 s0 (fs ++ record { quantifier = f.quantifier; variables = (all_fresh f.variables s).variables } ∷ []) (next t f s) (fresh_body f s).1
leads-next t0 t s0 s fs f e leads =
    let g : Front = record { quantifier = f.quantifier; variables = (all_fresh f.variables s).variables } in
    let rest : Term × Supply = all_turns (next t f s) (fresh_body f s).1 in
    leads
    ∙ ap (λ (r : Term × Supply). (behind_fronts fs r.0, r.1)) (one-turn t f s e)
    ∙ ap (λ u. (u, rest.1)) (sym (behind-pushed fs g rest.0))

pub leads-last : (t0 t : Term) (s0 s : Supply) (fs : List Front) → leftmost t ≡ None → LeadsOn t0 s0 fs t s → all_turns t0 s0 ≡ (behind_fronts fs t, s)
leads-last t0 t s0 s fs e leads = leads ∙ ap (λ (r : Term × Supply). (behind_fronts fs r.0, r.1)) (no-turns (quantifiers t) t s e)

-- ---- names that are spared

itself-within : (t : Term) (s : Supply) → GivesNone s (names_within t) → Within (free t) (NeverGives s) (Clear t) t
itself-within t s given = record { symbols = λ g among. among; names = given; clear = λ c. c }

module _ (t : Term) (f : Quantified) (s : Supply) (e : leftmost t ≡ Some f) (given : GivesNone s (names_within t)) where
  inside : Within (free t) (NeverGives s) (Clear t) (whole f)
  inside = leftmost-inherits (Within (free t) (NeverGives s) (Clear t)) (operands-within (free t) (NeverGives s) (Clear t)) t f e (itself-within t s given)

  pub found-spared : GivesNone s (names_within (whole f))
  found-spared = inside.names

  module _ (has : sort_of (whole f) ≡ Some bool) where
    new : Draws f s
    new = draws f s bool has found-spared

    abbrev Left : Term → Type 0
    Left r = Within (with_more (free t) (free (fresh_body f s).0)) (NeverGives (fresh_body f s).1) (Clear t) r

    body-left : Left (fresh_body f s).0
    body-left = record { symbols = λ g among. in-second (free t) (free (fresh_body f s).0) g among; names = new.names; clear = λ c. new.clear (inside.clear c) }

    term-left : Left t
    term-left = record { symbols = λ g among. in-first (free t) (free (fresh_body f s).0) g among; names = λ n among. new.later n (given n among); clear = λ c. c }

    next-left : Left (next t f s)
    next-left = replaced-within (with_more (free t) (free (fresh_body f s).0)) (NeverGives (fresh_body f s).1) (Clear t) (whole f) (fresh_body f s).0 t body-left term-left

    pub next-spared : GivesNone (fresh_body f s).1 (names_within (next t f s))
    next-spared = next-left.names

-- the negation normal form has no names but the formula's
pub normal-spared : (t u : Term) (s : Supply) → u ≡ nnf t → GivesNone s (names_within t) → GivesNone s (names_within u)
normal-spared t u s e given n among = given n ((nnf-inside t).names n (ap (λ v. name_among (names_within v) n) (sym e) ∙ among))
