-- Simplified operands, and the nodes over them.
use Rattle.std.proofs.Common.{◌≡◌, ℕ, ◌+◌, ◌<◌, ◌==◌, inl, inr, Bool, true, false, List, [], ◌∷◌, ◌++◌, map, length, replicate, get_or, Option, Some, None, option_copied, Bor, Ok, is_ok, IsOk, refl, ap, sym, ◌∙◌, subst, arith}
use Rattle.std.proofs.Math.ListN.{get_or-append}
use Rattle.std.proofs.Math.Seq.{get_or-append_seam}
use Rattle.std.proofs.lemmas.Bool.Decides.{eqb_tells, Decides-eqb}
use Rattle.std.proofs.lemmas.List.{get_or-map, length-map, get_or_default, ext_get_or}
use Rattle.std.specs.Prelude.{is_some}
use Rattle.smt_terms.specs.declared.ids.NodeId.{NodeId}
use Rattle.smt_terms.specs.declared.ids.SymId.{SymId}
use Rattle.smt_terms.specs.declared.ids.SortId.{SortId}
use Rattle.smt_terms.specs.declared.op.Op.{Op}
use Rattle.smt_terms.specs.declared.op.Op.TheVariants.{Sym, ConstArray, And, Or, Add, Mul}
use Rattle.smt_terms.specs.Sorts.{Sort, bool, int, Symbol}
use Rattle.smt_terms.specs.Term.{universal, existential, Head, op, symbol, const_array, Term, apply, quantified, none, ◌⨾◌, terms, over}
use Rattle.smt_terms.specs.Rank.{shape, rank, sort_of, sorts_of, with_sort, is_minus, is_regular, are_regular, IsWellSorted}
use Rattle.smt_terms.proofs.Operands.{well_sorted}
use Rattle.smt_terms.proofs.Ranked.{rank-takes}
use Rattle.smt_terms.proofs.Sorted.{applied as is_applied, sorted, quantified_sort}
use Rattle.smt_terms.proofs.SortsOfTerms.{regular}
use Rattle.smt_terms.proofs.Tests.{both_true}
use Rattle.smt_terms.proofs.Keeping.{not_minus}
use Rattle.smt_values.specs.SortIds.{sort_at}
use Rattle.term_table.specs.Formulas.{Formulas, no_tree, no_symbol, tree_in, tree, trees_at, operands, sort_or_bool, sorts_in, Kind, theory, applied, filled, binder, kind, kind_term, kind_rank, term_over, IsOpOf, Makes, IsNode, AreNodes}
use Rattle.term_walk.specs.declared.kept.Place.{Place}
use Rattle.term_walk.specs.Places.{result_at}
use Rattle.term_walk.specs.Walking.{AreRelated}
use Rattle.normal_forms.specs.Nodes.{IsFormula}
use Rattle.normal_forms.specs.Results.{AreResults}
use Rattle.normal_forms.specs.Shape.{is_universally_quantified, quantifier_seen, variables_of, body_in}
use Rattle.term_walk.specs.Binders.{is_quantified}
use Rattle.normal_forms.proofs.KeptResults.{each-related, nodes-of-results, terms-of-results}
use Rattle.simplify.specs.Logic.{quantification}
use Rattle.simplify.specs.Reduced.{IsOver, IsSimplified}
use Rattle.simplify.specs.Simplified.{kind_reduced, reduced_over, IsNoBinder}
use Rattle.simplify.specs.Simplify.{law, folded_or_law, red, simp, simp_all}
use Rattle.simplify.proofs.Reductions.{sort-there}
use Rattle.simplify.proofs.SimplifyKeeps.{simplify_keeps}

-- ---- results, one for each operand

pub copied-some : {T : Type 0} (o : Option (Bor T)) → is_some (option_copied o) ≡ true → is_some o ≡ true
copied-some (Some r) h = refl
copied-some None h = h

pub no-operands : (t : Formulas) (ks : List NodeId) (b : Bool) → b ≡ (length ks == 0) → b ≡ true → trees_at t ks ≡ []
no-operands t [] b e h = refl
no-operands t (k ∷ ks) b e h = absurd (let none_there : (length (k ∷ ks) == 0) ≡ true = sym e ∙ h in let zero_there : length (k ∷ ks) ≡ 0 = (Decides-eqb (length (k ∷ ks)) 0).0 none_there in omega arith)

module _ (t : Formulas) (u : Term) (ks : List (Place NodeId)) (kids ids : List NodeId) (related : AreRelated IsSimplified t ks) (terms_are : trees_at t kids ≡ operands u) (found : AreResults ks kids ids) where
  pub simplified-nodes : AreNodes t ids
  simplified-nodes = nodes-of-results IsSimplified t ks kids ids related found (λ v k is. is.node)

  pub simplified-terms : trees_at t ids ≡ map simp (operands u)
  simplified-terms = terms-of-results t u kids ids terms_are found.number simp (λ i d lt. (each-related IsSimplified t ks kids ids related found i d lt).term)

-- ---- an operator over simplified operands

simp-list : (us : List Term) → simp_all (terms us) ≡ terms (map simp us)
simp-list [] = refl
simp-list (u ∷ us) = ap (λ ts. simp u ⨾ ts) (simp-list us)

simp-kind : (fs : List Symbol) (ss : List Sort) (k : Kind) (us : List Term) → is_quantified (kind_term fs ss k us) ≡ false → simp (kind_term fs ss k us) ≡ kind_reduced fs ss k (map simp us)
simp-kind fs ss (theory p) us plain = ap (red (op p)) (simp-list us)
simp-kind fs ss (applied f) us plain = ap (apply (symbol (get_or fs f.0 no_symbol))) (simp-list us)
simp-kind fs ss (filled s) us plain = ap (apply (const_array (sort_at ss s))) (simp-list us)
simp-kind fs ss (binder q) us plain = absurd cc

sorts-in : (us : List Term) (ss : List Sort) → sorts_of (terms us) ≡ Some ss → sorts_in us ≡ ss
sorts-in [] ss e = cc
sorts-in (u ∷ us) ss e =
    let parts = sorted u (terms us) ss e in
    let rest = sorts-in us parts.sorts parts.others in
    (λ i. sort_or_bool (parts.first i) ∷ rest i) ∙ sym parts.all

sorts-kept : (us : List Term) (ss : List Sort) → sorts_of (terms us) ≡ Some ss → are_regular (terms us) ≡ true → sorts_of (terms (map simp us)) ≡ Some ss
sorts-kept [] ss has fine = has
sorts-kept (u ∷ us) ss has fine =
    let parts = sorted u (terms us) ss has in
    let rules = both_true (is_regular u) (are_regular (terms us)) fine in
    let one = (simplify_keeps u (well_sorted u parts.sort parts.first rules.0)).sort ∙ parts.first in
    let rest = sorts-kept us parts.sorts parts.others rules.1 in
    (λ i. with_sort (one i) (rest i)) ∙ ap Some (sym parts.all)

ranks-head : (h : Head) (us : List Term) → IsWellSorted (over h us) → IsOk (rank h (sorts_in (map simp us)))
ranks-head h us fine =
    let rules = both_true (is_some (sort_of (over h us))) (is_regular (over h us)) fine in
    let has = sort-there (over h us) fine in
    let parts = is_applied h (terms us) has.0 has.1 in
    let kept = sorts-kept us parts.sorts parts.operands (regular h (terms us) rules.1).operands in
    ap is_ok (ap (rank h) (sorts-in (map simp us) parts.sorts kept) ∙ parts.rank)

ranks-kind : (fs : List Symbol) (ss : List Sort) (k : Kind) (us : List Term) → is_quantified (kind_term fs ss k us) ≡ false → IsWellSorted (kind_term fs ss k us) → IsOk (kind_rank fs ss k (map simp us))
ranks-kind fs ss (theory p) us plain fine = ranks-head (op p) us fine
ranks-kind fs ss (applied f) us plain fine = ranks-head (symbol (get_or fs f.0 no_symbol)) us fine
ranks-kind fs ss (filled s) us plain fine = ranks-head (const_array (sort_at ss s)) us fine
ranks-kind fs ss (binder q) us plain fine = absurd cc

module _ (t : Formulas) (u : Term) (p : Op) (ks : List NodeId) (is : u ≡ term_over t p (operands u)) (plain : is_quantified u ≡ false) (terms_are : trees_at t ks ≡ map simp (operands u)) where
  pub over-operands : IsWellSorted u → AreNodes t ks → IsOpOf t p → IsOver t p ks
  over-operands fine nodes numbers = record {
    kids = nodes;
    numbers = numbers;
    ranked = subst (λ (vs : List Term). IsOk (kind_rank t.symbols t.sorts (kind p) vs)) (sym terms_are) (ranks-kind t.symbols t.sorts (kind p) (operands u) (ap is_quantified (sym is) ∙ plain) (subst IsWellSorted is fine));
  }

  pub no-binder : IsNoBinder p
  no-binder q e = absurd (let b : is_quantified u ≡ true = ap is_quantified (is ∙ ap (λ k. kind_term t.symbols t.sorts k (operands u)) e) in cc)

  pub simplified-over : reduced_over t p (trees_at t ks) ≡ simp u
  simplified-over = ap (kind_reduced t.symbols t.sorts (kind p)) terms_are ∙ sym (simp-kind t.symbols t.sorts (kind p) (operands u) (ap is_quantified (sym is) ∙ plain)) ∙ ap simp (sym is)

-- ---- what the operators ask for

pub symbol-makes : (t : Formulas) (p : Op) (f : SymId) (ks : List NodeId) → p ≡ Sym f → IsOver t p ks → Makes t p ks
unfolding is_minus
symbol-makes t p f ks is o = record { kids = o.kids; numbers = o.numbers; ranked = o.ranked; minus = not_minus p (terms (trees_at t ks)) (ap is_minus is) }

pub filled-makes : (t : Formulas) (p : Op) (s : SortId) (ks : List NodeId) → p ≡ ConstArray s → IsOver t p ks → Makes t p ks
unfolding is_minus
filled-makes t p s ks is o = record { kids = o.kids; numbers = o.numbers; ranked = o.ranked; minus = not_minus p (terms (trees_at t ks)) (ap is_minus is) }

-- ---- a node without operands

leaf-law : (p : Op) (s : Sort) → rank (op p) [] ≡ Ok s → law p [] ≡ None
unfolding law shape
leaf-law And s ranked = let takes = rank-takes (op And) [] s ranked in let few : [] ≡ bool ∷ bool ∷ replicate takes.0 bool = takes.1 in absurd cc
leaf-law Or s ranked = let takes = rank-takes (op Or) [] s ranked in let few : [] ≡ bool ∷ bool ∷ replicate takes.0 bool = takes.1 in absurd cc
leaf-law Add s ranked = let takes = rank-takes (op Add) [] s ranked in let few : [] ≡ int ∷ int ∷ replicate takes.0 int = takes.1 in absurd cc
leaf-law Mul s ranked = let takes = rank-takes (op Mul) [] s ranked in let few : [] ≡ int ∷ int ∷ replicate takes.0 int = takes.1 in absurd cc
leaf-law _ s ranked = refl

pub leaf-simple : (u : Term) → IsWellSorted u → is_quantified u ≡ false → operands u ≡ [] → u ≡ simp u
leaf-simple (quantified q xs b) fine plain empty = absurd cc
leaf-simple (apply h (v ⨾ vs)) fine plain empty = absurd cc
leaf-simple (apply (symbol f) none) fine plain empty = refl
leaf-simple (apply (const_array s) none) fine plain empty = refl
leaf-simple (apply (op p) none) fine plain empty =
    let has = sort-there (apply (op p) none) fine in
    let parts = is_applied (op p) none has.0 has.1 in
    let bare : parts.sorts ≡ [] = cc in
    sym (ap (λ o. folded_or_law None o (apply (op p) none)) (leaf-law p has.0 (ap (rank (op p)) (sym bare) ∙ parts.rank)))

-- ---- a quantified node

pub quantified-formula : (t : Formulas) (k : NodeId) → IsNode t k → IsWellSorted (tree t k) → is_quantified (tree t k) ≡ true → IsFormula t k
quantified-formula t k node fine seen = record { node = node; sort = truly (tree t k) fine seen }
  where
    truly : (u : Term) → IsWellSorted u → is_quantified u ≡ true → sort_of u ≡ Some bool
    truly (quantified q xs b) fine seen =
        let has = sort-there (quantified q xs b) fine in
        has.1 ∙ ap Some (quantified_sort q xs b has.0 has.1).sort
    truly (apply h ts) fine seen = absurd cc

pub body-bool : (u : Term) → is_quantified u ≡ true → sort_of u ≡ Some bool → sort_of (body_in u) ≡ Some bool
body-bool (quantified q xs b) seen has = (quantified_sort q xs b bool has).body
body-bool (apply h ts) seen has = absurd cc

pub simplified-formula : (t : Formulas) (k r : NodeId) → IsWellSorted (tree t k) → sort_of (tree t k) ≡ Some bool → IsSimplified t (tree t k) r → IsFormula t r
simplified-formula t k r fine has is = record { node = is.node; sort = ap sort_of is.term ∙ (simplify_keeps (tree t k) fine).sort ∙ has }

pub simplified-quantified : (u v : Term) → is_quantified u ≡ true → v ≡ simp (body_in u) → quantification (quantifier_seen (is_universally_quantified u)) (variables_of u) v ≡ simp u
simplified-quantified (quantified universal xs b) v seen e = ap (quantification universal xs) e
simplified-quantified (quantified existential xs b) v seen e = ap (quantification existential xs) e
simplified-quantified (apply h ts) v seen e = absurd cc
