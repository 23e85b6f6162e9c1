-- Doing without quantified truth values, from below and everywhere in a term. Over the rewritten body b, the Bool variables
-- of a quantifier are taken from the last to the first, whether they occur or not; bit-vector variables stay.
-- Shannon's expansion makes of `exists x` `(or b[true] b[false])` and of `forall x` `(and b[true] b[false])`.
-- Self-substitution makes of `exists x` b with b[true] for x, and of `forall x` b with b[false] for x.
use Rattle.std.specs.Prelude.{Bool, true, false, not, cond, List, [], ◌∷◌, map, filter, Option, Some, None}
use Rattle.smt_terms.specs.Sorts.{Sort, bool, Symbol, Variable}
use Rattle.smt_terms.specs.Term.{Quantifier, universal, existential, Head, symbol, Term, apply, quantified, Terms, none, ◌⨾◌, constant_of, constant}
use Rattle.smt_terms.specs.Equal.{symbol_eq, term_eq}
use Rattle.smt_terms.specs.Free.{is_among}
use Rattle.smt_terms.specs.Fresh.{Supply}
use Rattle.smt_terms.specs.Subst.{subst}
use Rattle.smt_terms.specs.Connectives.{truth_term, both, either}
use Rattle.smt_terms.specs.Shapes.{is_bool}

-- the quantifier over the variables that aren't Bool, or the body alone where there are none
abbrev pub over_left : Quantifier → List Variable → Term → Term
over_left q [] b = b
over_left q (x ∷ xs) b = quantified q (x ∷ xs) b

abbrev pub not_bool : List Variable → List Variable
not_bool xs = filter (λ x. not (is_bool x.sort)) xs

-- ---- a truth value for a variable, wherever it is free; it has no free symbols, so that nothing is captured

abbrev pub truth_at : Bool → Variable → Symbol → Term
truth_at v x f = cond (symbol_eq (constant_of x) f) (truth_term v) (constant f)

abbrev pub at_head : Bool → Variable → Head → Terms → Term
at_head v x (symbol f) none = truth_at v x f
at_head v x h ts = apply h ts

abbrev pub unless_bound : Bool → Term → Term → Term
unless_bound true t u = t
unless_bound false t u = u

abbrev mutual
  pub at_truth : Bool → Variable → Term → Term
  at_truth v x (apply h ts) = at_head v x h (at_truth_each v x ts)
  at_truth v x (quantified q xs body) = unless_bound (is_among (map constant_of xs) (constant_of x)) (quantified q xs body) (quantified q xs (at_truth v x body))

  pub at_truth_each : Bool → Variable → Terms → Terms
  at_truth_each v x none = none
  at_truth_each v x (t ⨾ ts) = at_truth v x t ⨾ at_truth_each v x ts

-- ---- Shannon's expansion

abbrev pub expanded : Quantifier → Variable → Term → Term
expanded existential x b = either (at_truth true x b) (at_truth false x b)
expanded universal x b = both (at_truth true x b) (at_truth false x b)

abbrev pub expand_bool : Sort → Quantifier → Variable → Term → Term
expand_bool bool q x b = expanded q x b
expand_bool _ q x b = b

-- the last variable is taken first
abbrev pub expand_each : Quantifier → List Variable → Term → Term
expand_each q [] b = b
expand_each q (x ∷ xs) b = expand_bool x.sort q x (expand_each q xs b)

abbrev mutual
  pub shannon : Term → Term
  shannon (apply h ts) = apply h (shannon_each ts)
  shannon (quantified q xs body) = over_left q (not_bool xs) (expand_each q xs (shannon body))

  pub shannon_each : Terms → Terms
  shannon_each none = none
  shannon_each (t ⨾ ts) = shannon t ⨾ shannon_each ts

-- ---- self-substitution

-- what stands for the variable of a quantifier: the body at true, or at false
abbrev pub witness : Quantifier → Variable → Term → Term
witness existential x b = at_truth true x b
witness universal x b = at_truth false x b

abbrev pub substitute_bool : Sort → Quantifier → Variable → Term × Supply → Term × Supply
substitute_bool bool q x r = subst ((constant_of x, witness q x r.0) ∷ []) r.0 r.1
substitute_bool _ q x r = r

abbrev pub substitute_each : Quantifier → List Variable → Term × Supply → Term × Supply
substitute_each q [] r = r
substitute_each q (x ∷ xs) r = substitute_bool x.sort q x (substitute_each q xs r)

-- a quantified term with its result, which is kept so that one subterm gets one choice of names
pub record Solved : Type 0 where
  pub term : Term
  pub result : Term

pub record Solving : Type 0 where
  pub names : Supply
  pub solved : List Solved

abbrev pub solved_for : List Solved → Term → Option Term
solved_for [] t = None
solved_for (e ∷ es) t = elim (term_eq e.term t) [ true ↦ Some e.result | false ↦ solved_for es t ]

abbrev pub solved_or : Option Term → Solving → (Solving → Term × Solving) → Term × Solving
solved_or (Some r) s more = (r, s)
solved_or None s more = more s

-- the result of the quantified term t, whose body was rewritten, is kept
abbrev pub solve : Term → Quantifier → List Variable → Term × Solving → Term × Solving
solve t q xs b =
    let r : Term × Supply = substitute_each q xs (b.0, b.1.names) in
    let result : Term = over_left q (not_bool xs) r.0 in
    (result, record { names = r.1; solved = record { term = t; result = result } ∷ b.1.solved })

abbrev mutual
  pub selfsub_from : Term → Solving → Term × Solving
  selfsub_from (apply h ts) s =
      let r : Terms × Solving = selfsubs_from ts s in (apply h r.0, r.1)
  selfsub_from (quantified q xs body) s =
      solved_or (solved_for s.solved (quantified q xs body)) s λ s'.
      solve (quantified q xs body) q xs (selfsub_from body s')

  pub selfsubs_from : Terms → Solving → Terms × Solving
  selfsubs_from none s = (none, s)
  selfsubs_from (t ⨾ ts) s =
      let a : Term × Solving = selfsub_from t s in
      let r : Terms × Solving = selfsubs_from ts a.1 in
      (a.0 ⨾ r.0, r.1)

-- the term without quantified truth values, and the names that are left
abbrev pub selfsub : Term → Supply → Term × Supply
selfsub t s =
    let r : Term × Solving = selfsub_from t (record { names = s; solved = [] }) in
    (r.0, r.1.names)
