-- The rank of a definition's arguments, argument by argument.
use Rattle.std.proofs.Common.{◌≡◌, ◌≢◌, ℕ, suc, ◌<◌, true, false, List, [], ◌∷◌, map, length, drop, get_or, Option, Some, None, Err, refl, ap, sym, ◌∙◌, if◌then◌else◌, drop-cons}
use Rattle.std.proofs.lemmas.Bool.{ne_eqb, eq-eqb}
use Rattle.std.proofs.lemmas.List.{length-map}
use Rattle.smt_terms.specs.declared.ids.NodeId.{NodeId}
use Rattle.smt_terms.specs.declared.ids.SymId.{SymId}
use Rattle.smt_terms.specs.Equal.{sort_eq}
use Rattle.smt_terms.specs.Rank.{Fault, wrong_arity, wrong_sort, only, misfit, before, first_misfit, accepted, rank, sort_of}
use Rattle.smt_terms.specs.Sorts.{Sort, bool}
use Rattle.term_table.specs.Formulas.{Formulas, tree, trees_at, symbol_at, sort_or_bool, IsTable, IsNode}
use Rattle.term_table.specs.ShapeRank.{kid_sorts}
use Rattle.script_terms.specs.ApplicationClauses.{arguments_rank}
use Rattle.script_terms.specs.Read.{has_sort, is_of_sort}
use Rattle.script_terms.proofs.AppliedNodes.{node_sort}

-- the first argument of a wrong sort, the first having number i
abbrev pub misfit_from : Formulas → ℕ → List SymId → List NodeId → Option Fault
misfit_from t i params arguments = first_misfit i (map only (map (λ f. (symbol_at t f).result) params)) (kid_sorts t arguments)

module _ (t : Formulas) (params : List SymId) (arguments : List NodeId) where
  results : List Sort
  results = map (λ f. (symbol_at t f).result) params

  pub another_number : length arguments ≢ length params → arguments_rank t params arguments ≡ Err wrong_arity
  unfolding rank results
  another_number apart =
      let sorts : length (kid_sorts t arguments) ≡ length arguments = length-map (trees_at t arguments) (λ u. sort_or_bool (sort_of u)) ∙ length-map arguments (tree t) in
      let wants : length (map (λ f. (symbol_at t f).result) params) ≡ length params = length-map params (λ f. (symbol_at t f).result) in
      ap (λ b. if b then accepted (misfit_from t 0 params arguments) true bool else Err wrong_arity) (ne_eqb (length (kid_sorts t arguments)) (length results) (λ same. apart (sym sorts ∙ same ∙ wants)))

  pub that_number : length arguments ≡ length params → arguments_rank t params arguments ≡ accepted (misfit_from t 0 params arguments) true bool
  unfolding rank results
  that_number same =
      let sorts : length (kid_sorts t arguments) ≡ length arguments = length-map (trees_at t arguments) (λ u. sort_or_bool (sort_of u)) ∙ length-map arguments (tree t) in
      let wants : length (map (λ f. (symbol_at t f).result) params) ≡ length params = length-map params (λ f. (symbol_at t f).result) in
      ap (λ b. if b then accepted (misfit_from t 0 params arguments) true bool else Err wrong_arity) (eq-eqb (length (kid_sorts t arguments)) (length results) (sorts ∙ same ∙ sym wants))

module _ (t : Formulas) (i : ℕ) (params : List SymId) (arguments : List NodeId) (f : SymId) (d k : NodeId) (behind_f : i < length params) (behind_k : i < length arguments) (at_f : get_or params i f ≡ f) (at_k : get_or arguments i d ≡ k) where
  parts : misfit_from t i (drop i params) (drop i arguments) ≡ before (misfit i (only (symbol_at t f).result) (sort_or_bool (sort_of (tree t k)))) (misfit_from t (suc i) (drop (suc i) params) (drop (suc i) arguments))
  parts = λ j. misfit_from t i ((drop-cons params i f behind_f ∙ ap (λ g. g ∷ drop (suc i) params) at_f) j) ((drop-cons arguments i d behind_k ∙ ap (λ l. l ∷ drop (suc i) arguments) at_k) j)

  pub argument_fits : sort_eq (sort_or_bool (sort_of (tree t k))) (symbol_at t f).result ≡ true → misfit_from t i (drop i params) (drop i arguments) ≡ misfit_from t (suc i) (drop (suc i) params) (drop (suc i) arguments)
  argument_fits fits = parts ∙ rw fits refl

  pub argument_misfits : sort_eq (sort_or_bool (sort_of (tree t k))) (symbol_at t f).result ≡ false → misfit_from t i (drop i params) (drop i arguments) ≡ Some (wrong_sort i (sort_or_bool (sort_of (tree t k))) (symbol_at t f).result)
  argument_misfits other = parts ∙ rw other refl

-- the test of a node's sort
pub sort_told : (t : Formulas) → IsTable t → (k : NodeId) → IsNode t k → (s : Sort) → has_sort s (tree t k) ≡ sort_eq (sort_or_bool (sort_of (tree t k))) s
sort_told t table k node s = ap (is_of_sort s) (node_sort t table k node)

-- no argument is left
pub no_argument : (t : Formulas) (i : ℕ) (params : List SymId) (arguments : List NodeId) → params ≡ [] → misfit_from t i params arguments ≡ None
no_argument t i params arguments none = ap (λ fs. misfit_from t i fs arguments) none
