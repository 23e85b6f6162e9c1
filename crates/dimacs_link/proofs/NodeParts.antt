-- The literals that nodes are, by their operators and operands.
use Rattle.std.proofs.Common.{◌≡◌, ap, refl, suc, ◌<◌, Bool, true, List, [], ◌∷◌, length, Some, None, arith}
use Rattle.smt_terms.specs.declared.op.Op.{Op}
use Rattle.smt_terms.specs.declared.op.Op.TheVariants.{Truth, Sym, Not, Or}
use Rattle.smt_terms.specs.declared.ids.NodeId.{NodeId}
use Rattle.smt_terms.specs.declared.ids.SymId.{SymId}
use Rattle.smt_terms.specs.Sorts.{Symbol}
use Rattle.smt_terms.specs.Term.{Term, terms}
use Rattle.term_table.specs.Formulas.{Formulas, kind, term_over, symbol_at, trees_at, IsSymbol, IsOpOf}
use Rattle.dimacs_link.specs.declared.literals.Part.TheVariants.{Fixed}
use Rattle.dimacs_link.specs.Clauses.{number_from, constant_number, literal_of, inverse_part, part, disjuncts}

pub symbol_in : (t : Formulas) (f : SymId) → IsOpOf t (Sym f) → IsSymbol t f
unfolding kind
symbol_in t f within = within

module _ (t : Formulas) (cs : List Symbol) where
  pub number_of_symbol : (f : SymId) → constant_number cs (term_over t (Sym f) []) ≡ number_from 1 cs (symbol_at t f)
  unfolding kind
  number_of_symbol f = refl

  pub number_of_applied : (f : SymId) (us : List Term) → 0 < length us → constant_number cs (term_over t (Sym f) us) ≡ None
  unfolding kind
  number_of_applied f [] some = absurd (omega arith)
  number_of_applied f (u ∷ us) some = refl

  pub number_of_other : (o : Op) (us : List Term) → ((f : SymId) → o ≡ Sym f → ⊥) → constant_number cs (term_over t o us) ≡ None
  unfolding kind
  number_of_other (Sym f) us other = absurd (other f refl)
  number_of_other o us other = refl

  pub part_of_truth : (b : Bool) (us : List Term) → part cs (term_over t (Truth b) us) ≡ Some (Fixed b)
  unfolding kind
  part_of_truth b us = refl

  pub part_of_not : (us : List Term) → part cs (term_over t Not us) ≡ inverse_part cs (terms us)
  unfolding kind
  part_of_not us = refl

  pub part_of_other : (o : Op) (us : List Term) → ((b : Bool) → o ≡ Truth b → ⊥) → (o ≡ Not → ⊥) → part cs (term_over t o us) ≡ literal_of true (constant_number cs (term_over t o us))
  unfolding kind
  part_of_other (Truth b) us no_truth no_not = absurd (no_truth b refl)
  part_of_other Not us no_truth no_not = absurd (no_not refl)
  part_of_other o us no_truth no_not = refl

  pub disjuncts_of_or : (us : List Term) → disjuncts (term_over t Or us) ≡ us
  unfolding kind
  disjuncts_of_or [] = refl
  disjuncts_of_or (u ∷ us) = ap (λ vs. u ∷ vs) (disjuncts_of_or us)

  pub disjuncts_of_other : (o : Op) (us : List Term) → (o ≡ Or → ⊥) → disjuncts (term_over t o us) ≡ term_over t o us ∷ []
  unfolding kind
  disjuncts_of_other Or us other = absurd (other refl)
  disjuncts_of_other o us other = refl

pub no_inverse : (cs : List Symbol) (us : List Term) → (length us ≡ 1 → ⊥) → inverse_part cs (terms us) ≡ None
no_inverse cs [] other = refl
no_inverse cs (u ∷ []) other = absurd (other refl)
no_inverse cs (u ∷ v ∷ us) other = refl

pub length-trees : (t : Formulas) (ks : List NodeId) → length (trees_at t ks) ≡ length ks
length-trees t [] = refl
length-trees t (k ∷ ks) = ap suc (length-trees t ks)

pub no_trees : (t : Formulas) (ks : List NodeId) → length ks < 1 → trees_at t ks ≡ []
no_trees t [] none = refl
no_trees t (k ∷ ks) none = absurd (omega arith)
