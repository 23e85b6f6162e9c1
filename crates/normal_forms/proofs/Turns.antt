-- Prenex form: each turn keeps the value of the matrix, and takes at least one quantifier out of it.
use Rattle.std.proofs.Common.{◌≡◌, ℕ, zero, suc, ◌≤◌, Bool, true, false, ◌⊎◌, inl, inr, List, [], ◌∷◌, map, Option, Some, None, refl, ap, sym, ◌∙◌, subst as carry, arith}
use Rattle.std.specs.Prelude.{is_some}
use Rattle.std.specs.List.{list_all}
use Rattle.smt_terms.specs.Sorts.{Name, Sort, bool, Symbol, Variable}
use Rattle.smt_terms.specs.Term.{Head, Term, apply, quantified, Terms, none, ◌⨾◌, constant_of}
use Rattle.smt_terms.specs.Equal.{name_eq, symbol_eq}
use Rattle.smt_terms.specs.Free.{is_among, name_among, with_more, free}
use Rattle.smt_terms.specs.Rank.{has_name, is_sort, is_regular, are_regular, sort_of, sorts_of, IsWellSorted}
use Rattle.smt_terms.specs.Values.{is_true}
use Rattle.smt_terms.specs.Models.{Model}
use Rattle.smt_terms.specs.Val.{Env, runs, val}
use Rattle.smt_terms.specs.Fresh.{Supply, NeverGives}
use Rattle.smt_terms.specs.Shapes.{is_bool, is_prenex}
use Rattle.smt_terms.specs.SubstLaws.{names_within, GivesNone, Later}
use Rattle.smt_terms.proofs.Tests.{both_true, and_true, both_false}
use Rattle.smt_terms.proofs.Equal.{Decides-name_eq, Decides-symbol_eq}
use Rattle.smt_terms.proofs.Sorted.{applied, sorted, quantified_sort, sort_of-quantified}
use Rattle.smt_terms.proofs.SortsOfTerms.{regular}
use Rattle.smt_terms.proofs.Built.{sense, Means, means-itself}
use Rattle.smt_terms.proofs.Keeping.{keeps_itself}
use Rattle.smt_terms.proofs.Substitution.{symbols-spared}
use Rattle.normal_forms.specs.Laws.{RewritesFresh, RewritesWith}
use Rattle.normal_forms.specs.Nnf.{nnf}
use Rattle.normal_forms.specs.Prenex.{Quantified, whole, through, leftmost, leftmost_of, replaced, quantifiers, quantifiers_of, pulled, prenex_turns, prenex}
use Rattle.normal_forms.proofs.Inherited.{AllOf}
use Rattle.normal_forms.proofs.Clear.{bindable-parts, Sees, Clear, in-more, in-first, in-second, in-without}
use Rattle.normal_forms.proofs.Inside.{in-both, Within, Inside, nnf-inside}
use Rattle.normal_forms.proofs.Keeps.{keeps-formula, plain-kind, nnf-plain, truly, never-bool, rewrites-from, sort-known}
use Rattle.normal_forms.proofs.Nnf.{nnf-means}
use Rattle.normal_forms.proofs.NnfShape.{nnf-regular}
use Rattle.normal_forms.proofs.Substituted.{unnamed-all, bound-sees}
use Rattle.normal_forms.proofs.Replaced.{matrix-prenex, leftmost-inherits, replaced-less, replaced-sort, replaced-regular, operands-within, replaced-within, says, says-itself, replaced-says, says-same, says-monotone, AllApart, runs-past}
use Rattle.normal_forms.proofs.Drawn.{names, drawn, renamed_body, renamed-fewer, Draws, draws}

abbrev Formula : Term → Type 0
Formula t = sort_of t ≡ Some bool

-- ---- what the leftmost one has

abbrev Sorted : Term → Type 0
Sorted t = (s : Sort) × (sort_of t ≡ Some s)

each-sorted : (ts : Terms) (ss : List Sort) → sorts_of ts ≡ Some ss → AllOf Sorted ts
each-sorted none ss has = tt
each-sorted (t ⨾ ts) ss has = let a = sorted t ts ss has in ((a.sort, a.first), each-sorted ts a.sorts a.others)

operands-sorted : (h : Head) (ts : Terms) → Sorted (apply h ts) → AllOf Sorted ts
operands-sorted h ts has = let a = applied h ts has.0 has.1 in each-sorted ts a.sorts a.operands

abbrev Regular : Term → Type 0
Regular t = is_regular t ≡ true

each-regular : (ts : Terms) → are_regular ts ≡ true → AllOf Regular ts
each-regular none all = tt
each-regular (t ⨾ ts) all = let parts = both_true (is_regular t) (are_regular ts) all in (parts.0, each-regular ts parts.1)

operands-fewer : (n : ℕ) (ts : Terms) → quantifiers_of ts ≤ n → AllOf (λ t. quantifiers t ≤ n) ts
operands-fewer n none less = tt
operands-fewer n (t ⨾ ts) less =
    let first : quantifiers t ≤ n = omega (arith, less) in
    let rest : quantifiers_of ts ≤ n = omega (arith, less) in
    (first, operands-fewer n ts rest)

found-sorted : (t : Term) (f : Quantified) → leftmost t ≡ Some f → Formula t → Formula (whole f)
found-sorted t f e has =
    let found : Sorted (whole f) = leftmost-inherits Sorted operands-sorted t f e (bool, has) in
    found.1 ∙ ap Some (quantified_sort f.quantifier f.variables f.body found.0 found.1).sort

found-regular : (t : Term) (f : Quantified) → leftmost t ≡ Some f → Regular t → Regular (whole f)
found-regular t f e given = leftmost-inherits Regular (λ h ts p. each-regular ts (regular h ts p).operands) t f e given

pub found-fewer : (t : Term) (f : Quantified) → leftmost t ≡ Some f → quantifiers (whole f) ≤ quantifiers t
found-fewer t f e = leftmost-inherits (λ u. quantifiers u ≤ quantifiers t) (λ h ts p. operands-fewer (quantifiers t) ts p) t f e (omega arith)

itself-within : (t : Term) (s : Supply) → GivesNone s (names_within t) → Within (free t) (NeverGives s) (Clear t) t
itself-within t s given = record { symbols = λ g among. among; names = given; clear = λ c. c }

-- ---- one turn

record Turned (t : Term) (s : Supply) (r : Term × Supply) : Type 0 where
  means : Means r.0 (sense t)
  regular : is_regular t ≡ true → is_regular r.0 ≡ true
  within : Within (free t) (NeverGives r.1) (Clear t) r.0
  later : Later s r.1

-- the matrix behind a turn
abbrev next : Term → Quantified → Supply → Term
next t f s = replaced (whole f) (renamed_body f s).0 t

all-apart : (fs : List Symbol) (ys : List Variable) → ((g : Symbol) → is_among fs g ≡ true → has_name g.name (names ys) ≡ false) → AllApart fs ys
all-apart fs [] apart = tt
all-apart fs (y ∷ ys) apart = (
  (λ g among. go g (both_false (name_eq g.name y.name) (has_name g.name (names ys)) (apart g among)).0 (symbol_eq (constant_of y) g) refl),
  all-apart fs ys (λ g among. (both_false (name_eq g.name y.name) (has_name g.name (names ys)) (apart g among)).1),
)
  where
    go : (g : Symbol) → name_eq g.name y.name ≡ false → (b : Bool) → symbol_eq (constant_of y) g ≡ b → b ≡ false
    go g other false e = refl
    go g other true e =
        let same : g.name ≡ y.name = sym (ap (λ (k : Symbol). k.name) ((Decides-symbol_eq (constant_of y) g).0 e)) in
        let here : name_eq g.name y.name ≡ true = (Decides-name_eq g.name y.name).1 same in
        absurd cc

module _ (t : Term) (f : Quantified) (s : Supply) (e : leftmost t ≡ Some f) (has : Formula t) (given : GivesNone s (names_within t)) where
  ys : List Variable
  ys = (drawn f s).variables

  inside : Within (free t) (NeverGives s) (Clear t) (whole f)
  inside = leftmost-inherits (Within (free t) (NeverGives s) (Clear t)) (operands-within (free t) (NeverGives s) (Clear t)) t f e (itself-within t s given)

  new : Draws f s
  new = draws f s bool (found-sorted t f e has) inside.names

  same : sort_of (renamed_body f s).0 ≡ sort_of (whole f)
  same = new.sort ∙ sym (found-sorted t f e has)

  next-formula : Formula (next t f s)
  next-formula = replaced-sort (whole f) (renamed_body f s).0 t same ∙ has

  abbrev Left : Term → Type 0
  Left r = Within (with_more (free t) (map constant_of (drawn f s).variables)) (NeverGives (renamed_body f s).1) (Clear t) r

  body-left : Left (renamed_body f s).0
  body-left = record { symbols = λ g among. go g (new.symbols g among); names = new.names; clear = λ c. new.clear (inside.clear c) }
    where
      go : (g : Symbol) → (is_among (free (whole f)) g ≡ true) ⊎ (is_among (map constant_of (drawn f s).variables) g ≡ true) → is_among (with_more (free t) (map constant_of (drawn f s).variables)) g ≡ true
      go g (inl here) = in-first (free t) (map constant_of (drawn f s).variables) g (inside.symbols g here)
      go g (inr there) = in-second (free t) (map constant_of (drawn f s).variables) g there

  term-left : Left t
  term-left = record { symbols = λ g among. in-first (free t) (map constant_of (drawn f s).variables) g among; names = λ n among. new.later n (given n among); clear = λ c. c }

  next-left : Left (next t f s)
  next-left = replaced-within (with_more (free t) (map constant_of (drawn f s).variables)) (NeverGives (renamed_body f s).1) (Clear t) (whole f) (renamed_body f s).0 t body-left term-left

  next-spared : GivesNone (renamed_body f s).1 (names_within (next t f s))
  next-spared = next-left.names

  sees : (g : Symbol) → is_among (with_more (free t) (map constant_of (drawn f s).variables)) g ≡ true → Sees (drawn f s).variables g
  sees g among = go (in-more (free t) (map constant_of (drawn f s).variables) g among)
    where
      go : (is_among (free t) g ≡ true) ⊎ (is_among (map constant_of (drawn f s).variables) g ≡ true) → Sees (drawn f s).variables g
      go (inl here) = unnamed-all (drawn f s).variables g (new.fresh g.name (symbols-spared s t given g here))
      go (inr there) = bound-sees (drawn f s).variables g (bindable-parts (drawn f s).variables new.bindable).0 there

  outside : (g : Symbol) → is_among (map constant_of (drawn f s).variables) g ≡ false → is_among (with_more (free t) (map constant_of (drawn f s).variables)) g ≡ true → is_among (free t) g ≡ true
  outside g apart among = go (in-more (free t) (map constant_of (drawn f s).variables) g among)
    where
      go : (is_among (free t) g ≡ true) ⊎ (is_among (map constant_of (drawn f s).variables) g ≡ true) → is_among (free t) g ≡ true
      go (inl here) = here
      go (inr there) = absurd cc

  turn-value : (r : Term) → ((m : Model) (d : Env) → is_true (val m r d) ≡ is_true (val m (next t f s) d)) → (m : Model) (d : Env) → is_true (val m (quantified f.quantifier (drawn f s).variables r) d) ≡ is_true (val m t d)
  turn-value r before m d =
      ap (λ (A : Env → Bool). runs f.quantifier (drawn f s).variables m.sizes A d) (λ i k. (before m k ∙ replaced-says m (whole f) (renamed_body f s).0 t k bool same has) i)
      ∙ runs-past f.quantifier (drawn f s).variables m.sizes (free t) (λ k b. says m (whole f) t k b) (λ k l b alike. says-same m (whole f) t k l b alike) (λ k. says-monotone m (whole f) t k) (λ k. is_true (val m (renamed_body f s).0 k))
      (bindable-parts (drawn f s).variables new.bindable).1 (all-apart (free t) (drawn f s).variables (λ g among. new.fresh g.name (symbols-spared s t given g among))) d
      ∙ ap (says m (whole f) t d) (new.runs m d)
      ∙ says-itself m (whole f) t d bool has

  turned : (r : Term × Supply) → Turned (next t f s) (renamed_body f s).1 r → Turned t s (quantified f.quantifier (drawn f s).variables r.0, r.1)
  turned r rest = record {
    means = record { sort = sort_of-quantified f.quantifier (drawn f s).variables r.0 new.bindable rest.means.sort; value = turn-value r.0 rest.means.value };
    regular = λ fine.
        let part : Regular (whole f) = found-regular t f e fine in
        and_true (list_all (λ y. is_sort y.sort) (drawn f s).variables) (is_regular r.0) (new.sorts part) (rest.regular (replaced-regular (whole f) (renamed_body f s).0 t (new.regular part) fine));
    within = record {
      symbols = λ g among. let parts = in-without (drawn f s).variables (free r.0) g among in outside g parts.1 (next-left.symbols g (rest.within.symbols g parts.0));
      names = λ n among. name n (in-both (names (drawn f s).variables) (names_within r.0) n among);
      clear = λ c. ((λ g among. sees g (next-left.symbols g (rest.within.symbols g among))), rest.within.clear (next-left.clear c));
    };
    later = λ n never. rest.later n (new.later n never);
  }
    where
      name : (n : Name) → (name_among (names (drawn f s).variables) n ≡ true) ⊎ (name_among (names_within r.0) n ≡ true) → NeverGives r.1 n
      name n (inl here) = rest.later n (new.variables n here)
      name n (inr there) = rest.within.names n there

-- ---- all turns

turn-by : (t : Term) (s : Supply) (more : Term → Supply → Term × Supply) → Formula t → GivesNone s (names_within t)
    → ((u : Term) (v : Supply) → Formula u → GivesNone v (names_within u) → Turned u v (more u v))
    → (o : Option Quantified) → leftmost t ≡ o → Turned t s (pulled o t s more)
turn-by t s more has given below None e = record { means = means-itself t has; regular = λ fine. fine; within = itself-within t s given; later = λ n never. never }
turn-by t s more has given below (Some f) e =
    turned t f s e has given (more (next t f s) (renamed_body f s).1) (below (next t f s) (renamed_body f s).1 (next-formula t f s e has given) (next-spared t f s e has given))

turns : (k : ℕ) (t : Term) (s : Supply) → Formula t → GivesNone s (names_within t) → Turned t s (prenex_turns k t s)
turns zero t s has given = record { means = means-itself t has; regular = λ fine. fine; within = itself-within t s given; later = λ n never. never }
turns (suc k) t s has given = turn-by t s (λ u v. prenex_turns k u v) has given (λ u v h g. turns k u v h g) (leftmost t) refl

pub next-less : (t : Term) (f : Quantified) (s : Supply) → leftmost t ≡ Some f → suc (quantifiers (next t f s)) ≤ quantifiers t
next-less t f s e =
    let less : quantifiers (renamed_body f s).0 ≤ quantifiers f.body = renamed-fewer f s in
    replaced-less (renamed_body f s).0 t f e (omega (arith, less))

prenex-by : (k : ℕ) (t : Term) (s : Supply) (more : Term → Supply → Term × Supply) → quantifiers t ≤ suc k → ((u : Term) (v : Supply) → quantifiers u ≤ k → is_prenex (more u v).0 ≡ true) → (o : Option Quantified) → leftmost t ≡ o → is_prenex (pulled o t s more).0 ≡ true
prenex-by k t s more few below None e = matrix-prenex t e
prenex-by k t s more few below (Some f) e =
    let less : suc (quantifiers (next t f s)) ≤ quantifiers t = next-less t f s e in
    below (next t f s) (renamed_body f s).1 (omega (arith, less, few))

turns-prenex : (k : ℕ) (t : Term) (s : Supply) → quantifiers t ≤ k → is_prenex (prenex_turns k t s).0 ≡ true
turns-prenex zero t s few = go (leftmost t) refl
  where
    go : (o : Option Quantified) → leftmost t ≡ o → is_prenex t ≡ true
    go None e = matrix-prenex t e
    go (Some f) e = let some : quantifiers (whole f) ≤ quantifiers t = found-fewer t f e in absurd (omega (arith, some, few))
turns-prenex (suc k) t s few = prenex-by k t s (λ u v. prenex_turns k u v) few (λ u v less. turns-prenex k u v less) (leftmost t) refl

pub prenex-shape : (t : Term) (s : Supply) → is_prenex (prenex t s).0 ≡ true
prenex-shape t s = turns-prenex (quantifiers (nnf t)) (nnf t) s (omega arith)

-- ---- terms of other sorts

plain-matrix : (t : Term) (s : Sort) → sort_of t ≡ Some s → is_bool s ≡ false → leftmost t ≡ None
plain-matrix (apply h ts) s has other = ap (λ k. through k (leftmost_of ts)) (plain-kind h ts s has other)
plain-matrix (quantified q xs body) s has other = absurd (never-bool s (quantified_sort q xs body s has).sort other)

pub no-turns : (k : ℕ) (t : Term) (s : Supply) → leftmost t ≡ None → prenex_turns k t s ≡ (t, s)
no-turns zero t s e = refl
no-turns (suc k) t s e = ap (λ o. pulled o t s (λ u v. prenex_turns k u v)) e

prenex-plain : (t : Term) (s : Supply) (sort : Sort) → sort_of t ≡ Some sort → is_bool sort ≡ false → prenex t s ≡ (t, s)
prenex-plain t s sort has other = ap (λ u. prenex_turns (quantifiers u) u s) (nnf-plain t sort has other) ∙ no-turns (quantifiers t) t s (plain-matrix t sort has other)

-- ---- the law

formula-rewrites : (t : Term) (s : Supply) → IsWellSorted t → GivesNone s (names_within t) → Formula t → RewritesFresh t (prenex t s).0 s (prenex t s).1
formula-rewrites t s fine given has =
    let form : Means (nnf t) (sense t) = nnf-means t has in
    let inner : Inside t (nnf t) = nnf-inside t in
    let out : Turned (nnf t) s (prenex t s) = turns (quantifiers (nnf t)) (nnf t) s form.sort (λ n among. given n (inner.names n among)) in
    let means : Means (prenex t s).0 (sense t) = record { sort = out.means.sort; value = λ m e. out.means.value m e ∙ form.value m e } in
    record {
      rewrites = rewrites-from t (prenex t s).0 bool has
          (keeps-formula t (prenex t s).0 fine has means (out.regular (nnf-regular t (both_true (is_some (sort_of t)) (is_regular t) fine).1)))
          (λ g among. inner.symbols g (out.within.symbols g among)) (λ c. out.within.clear (inner.clear c));
      later = out.later;
      names = out.within.names;
    }

pub prenex-rewrites : RewritesWith prenex
prenex-rewrites t s fine given =
    let found = sort-known t fine in
    go found.0 found.1 (is_bool found.0) refl
  where
    go : (sort : Sort) → sort_of t ≡ Some sort → (b : Bool) → is_bool sort ≡ b → RewritesFresh t (prenex t s).0 s (prenex t s).1
    go sort has true e = formula-rewrites t s fine given (has ∙ ap Some (truly sort e))
    go sort has false e = carry (λ (r : Term × Supply). RewritesFresh t r.0 s r.1) (sym (prenex-plain t s sort has e)) (record {
      rewrites = rewrites-from t t sort has (keeps_itself t fine) (λ g among. among) (λ c. c);
      later = λ n never. never;
      names = given;
    })
