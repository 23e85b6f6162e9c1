-- Shannon's expansion and self-substitution keep the tests of sorts and quantified names, where drawn names pass.
use Rattle.std.proofs.Common.{◌≡◌, ℕ, Bool, true, false, not, cond, ◌&&◌, List, [], ◌∷◌, map, Option, Some, None, refl, sym, subst as carry}
use Rattle.std.specs.List.{list_all}
use Rattle.std.specs.Prelude.{⊤}
use Rattle.smt_terms.specs.Sorts.{Name, Sort, bool, int, bit_vector, array, free_sort, Variable}
use Rattle.smt_terms.specs.Term.{Quantifier, universal, existential, Head, op, symbol, const_array, Term, apply, quantified, Terms, none, ◌⨾◌, constant_of, constant}
use Rattle.smt_terms.specs.Equal.{symbol_eq, term_eq}
use Rattle.smt_terms.specs.Free.{is_among}
use Rattle.smt_terms.specs.Fresh.{Supply, numbered_name}
use Rattle.smt_terms.specs.Connectives.{truth_term}
use Rattle.smt_terms.specs.Shapes.{is_bool}
use Rattle.smt_terms.proofs.Tests.{both_true, and_true}
use Rattle.smt_terms.proofs.Equal.{Decides-term_eq}
use Rattle.normal_forms.specs.Quantifiers.{over_left, not_bool, at_head, unless_bound, at_truth, at_truth_each, expanded, expand_bool, expand_each, shannon, shannon_each, witness, substitute_bool, substitute_each, Solved, Solving, solved_for, solved_or, solve, selfsub_from, selfsubs_from, selfsub}
use Rattle.normal_forms.proofs.Substituted.{front-have}
use Rattle.script_read.specs.Printable.{head_sorts, all_within, all_within_each}
use Rattle.script_read.proofs.UsableTerms.{subst_fine}

module _ (sorts : Sort → Bool) (names : Name → Bool) where
  abbrev within : Term → Bool
  within t = all_within sorts names t

  abbrev Within : Term → Type 0
  Within t = within t ≡ true

  abbrev passes : Variable → Bool
  passes x = sorts x.sort && names x.name

  over : (h : Head) (ts us : Terms) → Within (apply h ts) → all_within_each sorts names us ≡ true → Within (apply h us)
  over h ts us given each = and_true (list_all sorts (head_sorts h)) (all_within_each sorts names us) (both_true (list_all sorts (head_sorts h)) (all_within_each sorts names ts) given).0 each

  operands : (h : Head) (ts : Terms) → Within (apply h ts) → all_within_each sorts names ts ≡ true
  operands h ts given = (both_true (list_all sorts (head_sorts h)) (all_within_each sorts names ts) given).1

  -- ---- a truth value for a variable

  at_head-within : (v : Bool) (x : Variable) (h : Head) (ts : Terms) → Within (apply h ts) → Within (at_head v x h ts)
  at_head-within v x (symbol f) none given = go (symbol_eq (constant_of x) f)
    where
      go : (b : Bool) → Within (cond b (truth_term v) (constant f))
      go true = refl
      go false = given
  at_head-within v x (symbol f) (t ⨾ ts) given = given
  at_head-within v x (op o) ts given = given
  at_head-within v x (const_array s) ts given = given

  unless-within : (b : Bool) (t u : Term) → Within t → Within u → Within (unless_bound b t u)
  unless-within true t u a c = a
  unless-within false t u a c = c

  mutual
    at_truth-within : (t : Term) (v : Bool) (x : Variable) → Within t → Within (at_truth v x t)
    at_truth-within (apply h ts) v x given = at_head-within v x h (at_truth_each v x ts) (over h ts (at_truth_each v x ts) given (at_truths-within ts v x (operands h ts given)))
    at_truth-within (quantified q xs body) v x given =
        let parts = both_true (list_all passes xs) (within body) given in
        unless-within (is_among (map constant_of xs) (constant_of x)) (quantified q xs body) (quantified q xs (at_truth v x body)) given
        (and_true (list_all passes xs) (within (at_truth v x body)) parts.0 (at_truth-within body v x parts.1))

    at_truths-within : (ts : Terms) (v : Bool) (x : Variable) → all_within_each sorts names ts ≡ true → all_within_each sorts names (at_truth_each v x ts) ≡ true
    at_truths-within none v x given = refl
    at_truths-within (t ⨾ ts) v x given =
        let parts = both_true (within t) (all_within_each sorts names ts) given in
        and_true (within (at_truth v x t)) (all_within_each sorts names (at_truth_each v x ts)) (at_truth-within t v x parts.0) (at_truths-within ts v x parts.1)

  -- ---- Shannon's expansion

  two-within : (s t : Term) → Within s → Within t → (within s && (within t && true)) ≡ true
  two-within s t a b = and_true (within s) (within t && true) a (and_true (within t) true b refl)

  expanded-within : (q : Quantifier) (x : Variable) (b : Term) → Within b → Within (expanded q x b)
  expanded-within existential x b a = two-within (at_truth true x b) (at_truth false x b) (at_truth-within b true x a) (at_truth-within b false x a)
  expanded-within universal x b a = two-within (at_truth true x b) (at_truth false x b) (at_truth-within b true x a) (at_truth-within b false x a)

  expand_bool-within : (s : Sort) (q : Quantifier) (x : Variable) (b : Term) → Within b → Within (expand_bool s q x b)
  expand_bool-within bool q x b a = expanded-within q x b a
  expand_bool-within int q x b a = a
  expand_bool-within (bit_vector w) q x b a = a
  expand_bool-within (array i e) q x b a = a
  expand_bool-within (free_sort n) q x b a = a

  expand_each-within : (q : Quantifier) (xs : List Variable) (b : Term) → Within b → Within (expand_each q xs b)
  expand_each-within q [] b a = a
  expand_each-within q (x ∷ xs) b a = expand_bool-within x.sort q x (expand_each q xs b) (expand_each-within q xs b a)

  kept-pass : (xs : List Variable) → list_all passes xs ≡ true → list_all passes (not_bool xs) ≡ true
  kept-pass [] all = refl
  kept-pass (x ∷ xs) all =
      let parts = both_true (passes x) (list_all passes xs) all in
      go (is_bool x.sort) parts.0 (kept-pass xs parts.1)
    where
      go : (b : Bool) → passes x ≡ true → list_all passes (not_bool xs) ≡ true → list_all passes (cond (not b) (x ∷ not_bool xs) (not_bool xs)) ≡ true
      go true here below = below
      go false here below = and_true (passes x) (list_all passes (not_bool xs)) here below

  over-left-within : (q : Quantifier) (ys : List Variable) (b : Term) → list_all passes ys ≡ true → Within b → Within (over_left q ys b)
  over-left-within q [] b all a = a
  over-left-within q (y ∷ ys) b all a = and_true (list_all passes (y ∷ ys)) (within b) all a

  mutual
    pub shannon-within : (t : Term) → Within t → Within (shannon t)
    shannon-within (apply h ts) given = over h ts (shannon_each ts) given (shannons-within ts (operands h ts given))
    shannon-within (quantified q xs body) given =
        let parts = both_true (list_all passes xs) (within body) given in
        over-left-within q (not_bool xs) (expand_each q xs (shannon body)) (kept-pass xs parts.0) (expand_each-within q xs (shannon body) (shannon-within body parts.1))

    shannons-within : (ts : Terms) → all_within_each sorts names ts ≡ true → all_within_each sorts names (shannon_each ts) ≡ true
    shannons-within none given = refl
    shannons-within (t ⨾ ts) given =
        let parts = both_true (within t) (all_within_each sorts names ts) given in
        and_true (within (shannon t)) (all_within_each sorts names (shannon_each ts)) (shannon-within t parts.0) (shannons-within ts parts.1)

  -- ---- self-substitution

  witness-within : (q : Quantifier) (x : Variable) (b : Term) → Within b → Within (witness q x b)
  witness-within existential x b a = at_truth-within b true x a
  witness-within universal x b a = at_truth-within b false x a

  -- what was kept of terms that pass
  abbrev AllKept : List Solved → Type 0
  AllKept [] = ⊤
  AllKept (e ∷ es) = (Within e.term → Within e.result) × AllKept es

  found-within : (es : List Solved) (t r : Term) → AllKept es → solved_for es t ≡ Some r → Within t → Within r
  found-within [] t r all found given = absurd cc
  found-within (e ∷ es) t r all found given = go (term_eq e.term t) refl found (λ there. found-within es t r all.1 there given)
    where
      go : (b : Bool) → term_eq e.term t ≡ b → elim b [ true ↦ Some e.result | false ↦ solved_for es t ] ≡ Some r → (solved_for es t ≡ Some r → Within r) → Within r
      go true h k below =
          let same : e.term ≡ t = (Decides-term_eq e.term t).0 h in
          let result : e.result ≡ r = cc in
          carry Within result (all.0 (carry Within (sym same) given))
      go false h k below = below k

  record Passing (r : Term × Solving) : Type 0 where
    term : Within r.0
    solved : AllKept r.1.solved

  record AllPassing (r : Terms × Solving) : Type 0 where
    terms : all_within_each sorts names r.0 ≡ true
    solved : AllKept r.1.solved

  module _ (numbered : (i : ℕ) → names (numbered_name i) ≡ true) where
    bool-within : (s : Sort) (q : Quantifier) (x : Variable) (r : Term × Supply) → Within r.0 → Within (substitute_bool s q x r).0
    bool-within bool q x r a =
        subst_fine sorts names numbered ((constant_of x, witness q x r.0) ∷ []) r.0 r.1 a (front-have Within x (witness q x r.0) [] (witness-within q x r.0 a) (λ g u found. absurd cc))
    bool-within int q x r a = a
    bool-within (bit_vector w) q x r a = a
    bool-within (array i e) q x r a = a
    bool-within (free_sort n) q x r a = a

    each-within : (q : Quantifier) (xs : List Variable) (r : Term × Supply) → Within r.0 → Within (substitute_each q xs r).0
    each-within q [] r a = a
    each-within q (x ∷ xs) r a = bool-within x.sort q x (substitute_each q xs r) (each-within q xs r a)

    quantified-passing : (q : Quantifier) (xs : List Variable) (body : Term) (s : Solving) → AllKept s.solved → Within (quantified q xs body) → Passing (selfsub_from body s)
        → (o : Option Term) → solved_for s.solved (quantified q xs body) ≡ o → Passing (solved_or o s (λ s'. solve (quantified q xs body) q xs (selfsub_from body s')))
    quantified-passing q xs body s all given below (Some r) found = record { term = found-within s.solved (quantified q xs body) r all found given; solved = all }
    quantified-passing q xs body s all given below None found =
        let b : Term × Solving = selfsub_from body s in
        let r : Term × Supply = substitute_each q xs (b.0, b.1.names) in
        let parts = both_true (list_all passes xs) (within body) given in
        let term : Within (over_left q (not_bool xs) r.0) = over-left-within q (not_bool xs) r.0 (kept-pass xs parts.0) (each-within q xs (b.0, b.1.names) below.term) in
        record { term = term; solved = ((λ passed. term), below.solved) }

    mutual
      passing : (t : Term) (s : Solving) → AllKept s.solved → Within t → Passing (selfsub_from t s)
      passing (apply h ts) s all given =
          let out : AllPassing (selfsubs_from ts s) = all-passing ts s all (operands h ts given) in
          record { term = over h ts (selfsubs_from ts s).0 given out.terms; solved = out.solved }
      passing (quantified q xs body) s all given =
          quantified-passing q xs body s all given (passing body s all (both_true (list_all passes xs) (within body) given).1) (solved_for s.solved (quantified q xs body)) refl

      all-passing : (ts : Terms) (s : Solving) → AllKept s.solved → all_within_each sorts names ts ≡ true → AllPassing (selfsubs_from ts s)
      all-passing none s all given = record { terms = refl; solved = all }
      all-passing (t ⨾ ts) s all given =
          let parts = both_true (within t) (all_within_each sorts names ts) given in
          let first : Passing (selfsub_from t s) = passing t s all parts.0 in
          let rest : AllPassing (selfsubs_from ts (selfsub_from t s).1) = all-passing ts (selfsub_from t s).1 first.solved parts.1 in
          record { terms = and_true (within (selfsub_from t s).0) (all_within_each sorts names (selfsubs_from ts (selfsub_from t s).1).0) first.term rest.terms; solved = rest.solved }

    pub selfsub-within : (t : Term) (s : Supply) → Within t → Within (selfsub t s).0
    selfsub-within t s given = (passing t (record { names = s; solved = [] }) tt given).term
