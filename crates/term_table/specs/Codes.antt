-- How the logic stores a term, a symbol and what a contract sees of a table.
use Rattle.std.proofs.Common.{◌≡◌, List, refl, ap, arith}
use Rattle.std.specs.Coded.{Coded, code_by, coded×, coded_list}
use base.Stored.{Gv, gnil, gnum, gcons}
use Rattle.smt_terms.specs.contracts.op.Op as operator
use Rattle.smt_terms.specs.Sorts.{Name, Sort, Symbol, Variable}
use Rattle.smt_terms.specs.Term.{Quantifier, universal, existential, Head, op, symbol, const_array, Term, apply, quantified, Terms, none, ◌⨾◌}
use Rattle.smt_values.specs.Codes.{head, tail, apart, coded_name, coded_sort, coded_sorts}

abbrev pub coded_symbol : Coded Symbol
coded_symbol =
    code_by (Name × (List Sort × Sort)) (coded× coded_name (coded× coded_sorts coded_sort))
    (λ f. (f.name, (f.args, f.result))) (λ p. record { name = p.0; args = p.1.0; result = p.1.1 }) (λ _. refl)

abbrev pub coded_variables : Coded (List Variable)
coded_variables = coded_list (code_by (Name × Sort) (coded× coded_name coded_sort) (λ x. (x.name, x.sort)) (λ p. record { name = p.0; sort = p.1 }) (λ _. refl))

abbrev pub quantifier_code : Quantifier → Gv
quantifier_code universal = gcons (gnum 0) gnil
quantifier_code existential = gcons (gnum 1) gnil

pub quantifier_inj : (p q : Quantifier) → quantifier_code p ≡ quantifier_code q → p ≡ q
quantifier_inj universal universal e = refl
quantifier_inj universal existential e = absurd (apart 0 1 e (omega arith))
quantifier_inj existential universal e = absurd (apart 1 0 e (omega arith))
quantifier_inj existential existential e = refl

abbrev pub head_code : Head → Gv
head_code (op p) = gcons (gnum 0) (operator.the_row.coded.code p)
head_code (symbol f) = gcons (gnum 1) (coded_symbol.code f)
head_code (const_array s) = gcons (gnum 2) (coded_sort.code s)

pub head_inj : (g h : Head) → head_code g ≡ head_code h → g ≡ h
head_inj (op p) (op q) e = ap op (operator.the_row.coded.inj p q (ap tail e))
head_inj (op p) (symbol f) e = absurd (apart 0 1 e (omega arith))
head_inj (op p) (const_array s) e = absurd (apart 0 2 e (omega arith))
head_inj (symbol f) (op p) e = absurd (apart 1 0 e (omega arith))
head_inj (symbol f) (symbol g) e = ap symbol (coded_symbol.inj f g (ap tail e))
head_inj (symbol f) (const_array s) e = absurd (apart 1 2 e (omega arith))
head_inj (const_array s) (op p) e = absurd (apart 2 0 e (omega arith))
head_inj (const_array s) (symbol f) e = absurd (apart 2 1 e (omega arith))
head_inj (const_array s) (const_array t) e = ap const_array (coded_sort.inj s t (ap tail e))

abbrev mutual
  pub term_code : Term → Gv
  term_code (apply h ts) = gcons (gnum 0) (gcons (head_code h) (terms_code ts))
  term_code (quantified q xs t) = gcons (gnum 1) (gcons (quantifier_code q) (gcons (coded_variables.code xs) (term_code t)))

  pub terms_code : Terms → Gv
  terms_code none = gcons (gnum 0) gnil
  terms_code (t ⨾ ts) = gcons (gnum 1) (gcons (term_code t) (terms_code ts))

mutual
  pub term_inj : (t u : Term) → term_code t ≡ term_code u → t ≡ u
  term_inj (apply g ts) (apply h us) e = λ i. apply (head_inj g h (ap (λ c. head (tail c)) e) i) (terms_inj ts us (ap (λ c. tail (tail c)) e) i)
  term_inj (apply g ts) (quantified q xs t) e = absurd (apart 0 1 e (omega arith))
  term_inj (quantified q xs t) (apply g ts) e = absurd (apart 1 0 e (omega arith))
  term_inj (quantified p xs t) (quantified q ys u) e =
      λ i. quantified (quantifier_inj p q (ap (λ c. head (tail c)) e) i) (coded_variables.inj xs ys (ap (λ c. head (tail (tail c))) e) i) (term_inj t u (ap (λ c. tail (tail (tail c))) e) i)

  pub terms_inj : (ts us : Terms) → terms_code ts ≡ terms_code us → ts ≡ us
  terms_inj none none e = refl
  terms_inj none (u ⨾ us) e = absurd (apart 0 1 e (omega arith))
  terms_inj (t ⨾ ts) none e = absurd (apart 1 0 e (omega arith))
  terms_inj (t ⨾ ts) (u ⨾ us) e = λ i. term_inj t u (ap (λ c. head (tail c)) e) i ⨾ terms_inj ts us (ap (λ c. tail (tail c)) e) i

abbrev pub coded_term : Coded Term
coded_term = record { code = term_code; inj = term_inj }
