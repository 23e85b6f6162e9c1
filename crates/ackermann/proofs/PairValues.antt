-- What is said of the constants of two applications is true where the constants have the same value or the operands haven't.
use Rattle.std.proofs.Common.{◌≡◌, Bool, true, false, not, ◌&&◌, ◌||◌, List, [], ◌∷◌, Some, refl, ap, sym, ◌∙◌, subst}
use Rattle.std.specs.List.{list_all}
use Rattle.smt_terms.specs.Connectives.{implies, equal}
use Rattle.smt_terms.specs.Groups.{Named, with_constants_each}
use Rattle.smt_terms.specs.Laws.{IsEnv}
use Rattle.smt_terms.specs.Models.{Model}
use Rattle.smt_terms.specs.Operators.{op_value}
use Rattle.smt_terms.specs.Rank.{sort_of, sorts_of}
use Rattle.smt_terms.specs.Sorts.{Sort, Symbol}
use Rattle.smt_terms.specs.Term.{Term, Terms, none, ◌⨾◌, terms, constant}
use Rattle.smt_terms.specs.Val.{no_variables, val, vals}
use Rattle.smt_terms.specs.Values.{is_true, same, all_same}
use Rattle.smt_terms.proofs.Operands.{equal_value}
use Rattle.smt_terms.proofs.Sorted.{sorted}
use Rattle.term_groups.specs.Grouping.{holds_in}
use Rattle.ackermann.specs.Ackermann.{equations, all_equal}
use Rattle.ackermann.proofs.UsePairs.{equated, equations-equated}

-- no variable has a value of another sort
pub none_assigned : (m : Model) → IsEnv m.sizes no_variables
none_assigned m f = tt

-- operands have sorts
pub no_more : (t : Term) (ts : Terms) (us : List Sort) → sorts_of (t ⨾ ts) ≡ Some us → [] ≡ us → ⊥
no_more t ts us have empty = clash (sorted t ts us have).sort (sorted t ts us have).sorts (empty ∙ (sorted t ts us have).all)
  where
    clash : (s : Sort) (ss : List Sort) → [] ≡ s ∷ ss → ⊥
    clash s ss e = absurd cc

and_nothing : (b : Bool) → b ≡ (b && true)
and_nothing true = refl
and_nothing false = refl

module _ (m : Model) where
  implies_holds : (s t : Term) → holds_in m (implies s t) ≡ (not (holds_in m s) || holds_in m t)
  unfolding op_value
  implies_holds s t = refl

  equal_holds : (t u : Term) (s : Sort) → sort_of t ≡ Some s → sort_of u ≡ Some s → holds_in m (equal t u) ≡ same s m.sizes (val m t no_variables) (val m u no_variables)
  equal_holds t u s p q = ap is_true (equal_value m no_variables t u s p q)

  all_true : (es : List Term) → list_all is_true (vals m (terms es) no_variables) ≡ list_all (holds_in m) es
  all_true [] = refl
  all_true (e ∷ es) = ap (λ b. holds_in m e && b) (all_true es)

  all_equal_holds : (es : List Term) → holds_in m (all_equal es) ≡ list_all (holds_in m) es
  unfolding op_value
  all_equal_holds [] = refl
  all_equal_holds (e ∷ []) = and_nothing (holds_in m e)
  all_equal_holds (e ∷ d ∷ es) = all_true (e ∷ d ∷ es)

  equated_holds : (rs qs : Terms) (ss : List Sort) → sorts_of rs ≡ Some ss → sorts_of qs ≡ Some ss → list_all (holds_in m) (equated rs qs) ≡ all_same ss m.sizes (vals m rs no_variables) (vals m qs no_variables)
  equated_holds none none ss first second = let empty : [] ≡ ss = cc in subst (λ us. true ≡ all_same us m.sizes [] []) empty refl
  equated_holds none (q ⨾ qs) ss first second = absurd (no_more q qs ss second cc)
  equated_holds (r ⨾ rs) none ss first second = absurd (no_more r rs ss first cc)
  equated_holds (r ⨾ rs) (q ⨾ qs) ss first second =
      let left = sorted r rs ss first in
      let right = sorted q qs ss second in
      let both : left.sort ∷ left.sorts ≡ right.sort ∷ right.sorts = sym left.all ∙ right.all in
      let sort : right.sort ≡ left.sort = cc in
      let sorts : right.sorts ≡ left.sorts = cc in
      let here = equal_holds r q left.sort left.first (right.first ∙ ap Some sort) in
      let others = equated_holds rs qs left.sorts left.others (right.others ∙ ap Some sorts) in
      (λ i. here i && others i)
      ∙ ap (λ us. all_same us m.sizes (vals m (r ⨾ rs) no_variables) (vals m (q ⨾ qs) no_variables)) (sym left.all)

  pub pair_holds : (ns : Named) (u v : Symbol) (ts ss : Terms) (us : List Sort) (s : Sort) → sorts_of (with_constants_each ns ts) ≡ Some us → sorts_of (with_constants_each ns ss) ≡ Some us → sort_of (constant u) ≡ Some s → sort_of (constant v) ≡ Some s → holds_in m (implies (all_equal (equations ns ts ss)) (equal (constant u) (constant v))) ≡ (not (all_same us m.sizes (vals m (with_constants_each ns ts) no_variables) (vals m (with_constants_each ns ss) no_variables)) || same s m.sizes (val m (constant u) no_variables) (val m (constant v) no_variables))
  pair_holds ns u v ts ss us s first second left right =
      let premise : holds_in m (all_equal (equations ns ts ss)) ≡ all_same us m.sizes (vals m (with_constants_each ns ts) no_variables) (vals m (with_constants_each ns ss) no_variables) =
      ap (λ es. holds_in m (all_equal es)) (equations-equated ns ts ss)
      ∙ all_equal_holds (equated (with_constants_each ns ts) (with_constants_each ns ss))
      ∙ equated_holds (with_constants_each ns ts) (with_constants_each ns ss) us first second in
      let conclusion = equal_holds (constant u) (constant v) s left right in
      implies_holds (all_equal (equations ns ts ss)) (equal (constant u) (constant v))
      ∙ (λ i. not (premise i) || conclusion i)
