-- What is said of the constants of two applications, and the row that is found for the operands of one.
use Rattle.std.proofs.Common.{◌≡◌, Bool, true, false, not, cond, ◌||◌, List, [], ◌∷◌, All, Some, sym, ◌∙◌, subst}
use Rattle.std.specs.List.{list_any}
use Rattle.std.proofs.lemmas.List.Elements.{All-nil, All-head}
use Rattle.smt_terms.specs.Connectives.{implies, equal}
use Rattle.smt_terms.specs.Groups.{Named, constant_for, with_constants_each, where_so}
use Rattle.smt_terms.specs.Models.{Row, Model, graph_value, IsModel}
use Rattle.smt_terms.specs.Sorts.{Symbol}
use Rattle.smt_terms.specs.Term.{symbol, Term, apply, Terms, constant}
use Rattle.smt_terms.specs.Val.{no_variables, val, vals}
use Rattle.smt_terms.specs.Values.{Value, same, all_same}
use Rattle.smt_terms.proofs.Equal.{symbol_itself}
use Rattle.smt_terms.proofs.Respects.{equal_same}
use Rattle.smt_terms.proofs.Same.{same-back}
use Rattle.term_groups.specs.Grouping.{holds_in}
use Rattle.ackermann.specs.Ackermann.{equations, all_equal}
use Rattle.ackermann.specs.Tables.{application_row, application_graph}
use Rattle.ackermann.proofs.PairValues.{pair_holds}
use Rattle.ackermann.proofs.RemovalChains.{AreUses}
use Rattle.ackermann.proofs.TableRows.{keys-back, rows_all, rows_found, row-found, row_of, all_rows, all-rows}
use Rattle.ackermann.proofs.TablesValid.{keys_valid}
use Rattle.ackermann.proofs.UseLists.{All-from_flat_map, found-holds}
use Rattle.ackermann.proofs.UsePairs.{Linked, before, after, itself, LinkedTo, OfPair}
use Rattle.ackermann.proofs.UseSorts.{IsPairOf, all-pairs_of, IsUseOf, use_of}

follows : (a b : Bool) → (not a || b) ≡ true → a ≡ true → b ≡ true
follows true b h e = h
follows false b h e = absurd cc

module _ (inputs : List Term) (ns : Named) (uses : AreUses inputs ns) (m : Model) (model : IsModel m) where
  abbrev pub HoldsThere : Term → Type 0
  HoldsThere r = holds_in m r ≡ true

  abbrev pub replaced : Terms → List Value
  replaced ts = vals m (with_constants_each ns ts) no_variables

  said : (f u v : Symbol) (ts ss : Terms) → IsUseOf inputs ns u f ts → IsUseOf inputs ns v f ss → OfPair HoldsThere ns (u, apply (symbol f) ts) (v, apply (symbol f) ss) → all_same f.args m.sizes (replaced ts) (replaced ss) ≡ true → same f.result m.sizes (val m (constant u) no_variables) (val m (constant v) no_variables) ≡ true
  said f u v ts ss first second pair_said alike =
      let formula = implies (all_equal (equations ns ts ss)) (equal (constant u) (constant v)) in
      let one : All HoldsThere (formula ∷ []) = subst (λ b. All HoldsThere (where_so b (formula ∷ []))) (symbol_itself f) pair_said in
      follows (all_same f.args m.sizes (replaced ts) (replaced ss)) (same f.result m.sizes (val m (constant u) no_variables) (val m (constant v) no_variables))
      (sym (pair_holds m ns u v ts ss f.args f.result first.replaced.sorts second.replaced.sorts first.constant.sort second.constant.sort) ∙ All-head HoldsThere formula [] one)
      alike

  -- equal operands give the same value
  linked_same : (f u v : Symbol) (ts ss : Terms) → IsUseOf inputs ns u f ts → IsUseOf inputs ns v f ss → Linked HoldsThere ns (u, apply (symbol f) ts) (v, apply (symbol f) ss) → all_same f.args m.sizes (replaced ts) (replaced ss) ≡ true → same f.result m.sizes (val m (constant u) no_variables) (val m (constant v) no_variables) ≡ true
  linked_same f u v ts ss first second (before pair_said) alike = said f u v ts ss first second pair_said alike
  linked_same f u v ts ss first second (after pair_said) alike =
      same-back f.result m.sizes (val m (constant v) no_variables) (val m (constant u) no_variables)
      (said f v u ss ts second first pair_said (keys-back f.args m.sizes (replaced ts) (replaced ss) alike))
  linked_same f u v ts ss first second (itself e) alike = equal_same f.result m.sizes (λ i. val m (constant (e i).0) no_variables)

  module _ (linked : All (LinkedTo HoldsThere ns ns) ns) where
    record IsBeside (q p : Symbol × Term) : Type 0 where
      pair_of : IsPairOf inputs ns p
      link : Linked HoldsThere ns p q

    -- the row of an application is found, or one that has the same result
    pub found_result : (f v : Symbol) (ts : Terms) → constant_for ns (apply (symbol f) ts) ≡ Some v → same f.result m.sizes (graph_value f.args m.sizes (application_graph m ns f) (replaced ts)) (val m (constant v) no_variables) ≡ true
    found_result f v ts found =
        let fits : Row → Bool = λ r. all_same f.args m.sizes r.keys (replaced ts) in
        let IsSame : Value → Type 0 = λ w. same f.result m.sizes w (val m (constant v) no_variables) ≡ true in
        let graph = application_graph m ns f in
        let mine : IsUseOf inputs ns v f ts = use_of inputs ns uses v f ts (found-holds (IsPairOf inputs ns) ns (apply (symbol f) ts) v (all-pairs_of inputs ns uses) found) in
        let links : LinkedTo HoldsThere ns ns (v, apply (symbol f) ts) = found-holds (LinkedTo HoldsThere ns ns) ns (apply (symbol f) ts) v linked found in
        let beside : All (IsBeside (v, apply (symbol f) ts)) ns = λ k d less. record { pair_of = all-pairs_of inputs ns uses k d less; link = links k d less } in
        let IsFound : Row → Type 0 = λ r. list_any (λ q. all_same f.args m.sizes q.keys r.keys) graph.rows ≡ true in
        let all_found : All IsFound (all_rows m ns f) = rows_found f.args m.sizes [] (all_rows m ns f) (keys_valid inputs ns uses m model f) in
        let here : All IsFound (application_row m ns f v (apply (symbol f) ts)) =
        found-holds (λ p. All IsFound (application_row m ns f p.0 p.1)) ns (apply (symbol f) ts) v (All-from_flat_map IsFound (λ p. application_row m ns f p.0 p.1) ns all_found) found in
        let one : All IsFound (row_of m ns f v ts ∷ []) = subst (λ b. All IsFound (cond b (row_of m ns f v ts ∷ []) [])) (symbol_itself f) here in
        row-found fits IsSame graph.rows graph.otherwise
        (All-head IsFound (row_of m ns f v ts) [] one)
        (rows_all f.args m.sizes (λ r. fits r ≡ true → IsSame r.result) [] (all_rows m ns f) (All-nil (λ r. fits r ≡ true → IsSame r.result))
        (all-rows m ns f (λ r. fits r ≡ true → IsSame r.result) (IsBeside (v, apply (symbol f) ts))
        (λ u ss near alike. linked_same f u v ss ts (use_of inputs ns uses u f ss near.pair_of) mine near.link alike) beside))
