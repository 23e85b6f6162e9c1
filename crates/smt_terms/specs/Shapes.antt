-- Shapes of formulas. The connective part of a formula is what is reached from its root through connectives alone; where
-- it is said so, through quantifiers too. What an atom holds isn't looked at, unless that is said.
use Rattle.std.specs.Prelude.{Bool, true, false, not, ◌&&◌, ◌||◌, List, [], ◌∷◌, reverse, ◌++◌}
use Rattle.std.specs.List.{list_any}
use Rattle.smt_terms.specs.declared.op.Op.{Op}
use Rattle.smt_terms.specs.declared.op.Op.TheVariants.{Ite}
use Rattle.smt_terms.specs.Sorts.{Sort, bool, Symbol, Variable}
use Rattle.smt_terms.specs.Term.{Head, op, symbol, const_array, Term, apply, quantified, Terms, none, ◌⨾◌, list, constant_of}
use Rattle.smt_terms.specs.Equal.{name_eq, symbol_eq}
use Rattle.smt_terms.specs.Rank.{are_distinct}
use Rattle.smt_terms.specs.Connectives.{Kind, truth_value, negation, conjunction, disjunction, atom, kind_of, nth}
use Rattle.smt_terms.specs.Free.{free, names_of}

abbrev pub is_atom_kind : Kind → Bool
is_atom_kind atom = true
is_atom_kind _ = false

-- a formula that is no connective; a quantified formula counts as an atom
abbrev pub is_atom : Term → Bool
is_atom (apply h ts) = is_atom_kind (kind_of h ts)
is_atom (quantified q xs body) = true

-- a formula that is neither a connective nor quantified
abbrev pub is_bare_atom : Term → Bool
is_bare_atom (apply h ts) = is_atom_kind (kind_of h ts)
is_bare_atom (quantified q xs body) = false

-- ---- negation normal form: through quantifiers, only `and`, `or`, and `not` over atoms

abbrev pub nnf_node : Kind → List Term → Bool → Bool
nnf_node (truth_value b) ts inner = true
nnf_node atom ts inner = true
nnf_node negation ts inner = is_bare_atom (nth ts 0)
nnf_node conjunction ts inner = inner
nnf_node disjunction ts inner = inner
nnf_node _ ts inner = false

abbrev mutual
  pub is_nnf : Term → Bool
  is_nnf (apply h ts) = nnf_node (kind_of h ts) (list ts) (are_nnf ts)
  is_nnf (quantified q xs body) = is_nnf body

  pub are_nnf : Terms → Bool
  are_nnf none = true
  are_nnf (t ⨾ ts) = is_nnf t && are_nnf ts

-- ---- and-inverter form: through quantifiers, only `and` and `not`, and no `not` over a `not`

abbrev pub is_negation_kind : Kind → Bool
is_negation_kind negation = true
is_negation_kind _ = false

abbrev pub is_negation : Term → Bool
is_negation (apply h ts) = is_negation_kind (kind_of h ts)
is_negation (quantified q xs body) = false

abbrev pub aig_node : Kind → List Term → Bool → Bool
aig_node (truth_value b) ts inner = true
aig_node atom ts inner = true
aig_node negation ts inner = not (is_negation (nth ts 0)) && inner
aig_node conjunction ts inner = inner
aig_node _ ts inner = false

abbrev mutual
  pub is_aig : Term → Bool
  is_aig (apply h ts) = aig_node (kind_of h ts) (list ts) (are_aig ts)
  is_aig (quantified q xs body) = is_aig body

  pub are_aig : Terms → Bool
  are_aig none = true
  are_aig (t ⨾ ts) = is_aig t && are_aig ts

-- ---- prenex form: quantifiers over a matrix in which `and` and `or` alone lead to no quantified formula

abbrev pub reached : Kind → Bool → Bool
reached conjunction inner = inner
reached disjunction inner = inner
reached _ inner = false

abbrev mutual
  pub reaches_quantifier : Term → Bool
  reaches_quantifier (apply h ts) = reached (kind_of h ts) (reach_quantifier ts)
  reaches_quantifier (quantified q xs body) = true

  pub reach_quantifier : Terms → Bool
  reach_quantifier none = false
  reach_quantifier (t ⨾ ts) = reaches_quantifier t || reach_quantifier ts

abbrev pub is_prenex : Term → Bool
is_prenex (quantified q xs body) = is_prenex body
is_prenex (apply h ts) = not (reaches_quantifier (apply h ts))

-- ---- literals and clauses: quantified formulas are atoms here

abbrev pub literal_node : Kind → List Term → Bool
literal_node (truth_value b) ts = true
literal_node atom ts = true
literal_node negation ts = is_atom (nth ts 0)
literal_node _ ts = false

abbrev pub is_literal : Term → Bool
is_literal (apply h ts) = literal_node (kind_of h ts) (list ts)
is_literal (quantified q xs body) = true

abbrev pub are_literals : Terms → Bool
are_literals none = true
are_literals (t ⨾ ts) = is_literal t && are_literals ts

abbrev pub clause_node : Kind → Terms → Bool → Bool
clause_node disjunction ts single = are_literals ts
clause_node _ ts single = single

-- a literal, or an `or` of literals
abbrev pub is_clause : Term → Bool
is_clause (apply h ts) = clause_node (kind_of h ts) ts (is_literal (apply h ts))
is_clause (quantified q xs body) = true

-- ---- no `ite` of another sort than Bool outside quantifiers

unfoldable pub is_ite_operator : Op → Bool
is_ite_operator Ite = true
is_ite_operator _ = false

abbrev pub is_ite : Head → Bool
is_ite (op o) = is_ite_operator o
is_ite (symbol f) = false
is_ite (const_array s) = false

-- an `ite` that is no connective
abbrev pub is_term_ite : Head → Terms → Bool
is_term_ite h ts = is_ite h && is_atom_kind (kind_of h ts)

abbrev mutual
  pub no_term_ite : Term → Bool
  no_term_ite (apply h ts) = not (is_term_ite h ts) && no_term_ites ts
  no_term_ite (quantified q xs body) = true

  pub no_term_ites : Terms → Bool
  no_term_ites none = true
  no_term_ites (t ⨾ ts) = no_term_ite t && no_term_ites ts

-- ---- no symbol with arguments, anywhere

abbrev pub is_application : Head → Terms → Bool
is_application (symbol f) (t ⨾ ts) = true
is_application h ts = false

abbrev mutual
  pub no_application : Term → Bool
  no_application (apply h ts) = not (is_application h ts) && no_applications ts
  no_application (quantified q xs body) = no_application body

  pub no_applications : Terms → Bool
  no_applications none = true
  no_applications (t ⨾ ts) = no_application t && no_applications ts

-- ---- no quantifier that binds a Bool, anywhere

abbrev pub is_bool : Sort → Bool
is_bool bool = true
is_bool _ = false

abbrev mutual
  pub no_bool_quantifier : Term → Bool
  no_bool_quantifier (apply h ts) = no_bool_quantifiers ts
  no_bool_quantifier (quantified q xs body) = not (list_any (λ x. is_bool x.sort) xs) && no_bool_quantifier body

  pub no_bool_quantifiers : Terms → Bool
  no_bool_quantifiers none = true
  no_bool_quantifiers (t ⨾ ts) = no_bool_quantifier t && no_bool_quantifiers ts

-- ---- clear names: each symbol, where it occurs, is the innermost quantified variable of its name there, or no quantifier
-- above it binds its name; and no two free symbols have one name

-- among the quantified variables, the innermost first
abbrev pub is_seen : List Variable → Symbol → Bool
is_seen [] f = true
is_seen (x ∷ xs) f = elim (name_eq x.name f.name) [ true ↦ symbol_eq (constant_of x) f | false ↦ is_seen xs f ]

abbrev pub is_head_seen : List Variable → Head → Bool
is_head_seen xs (symbol f) = is_seen xs f
is_head_seen xs (op o) = true
is_head_seen xs (const_array s) = true

abbrev mutual
  pub is_clear_below : List Variable → Term → Bool
  is_clear_below xs (apply h ts) = is_head_seen xs h && are_clear_below xs ts
  is_clear_below xs (quantified q ys body) = is_clear_below (reverse ys ++ xs) body

  pub are_clear_below : List Variable → Terms → Bool
  are_clear_below xs none = true
  are_clear_below xs (t ⨾ ts) = is_clear_below xs t && are_clear_below xs ts

abbrev pub is_clear : Term → Bool
is_clear t = is_clear_below [] t && are_distinct (names_of (free t))
