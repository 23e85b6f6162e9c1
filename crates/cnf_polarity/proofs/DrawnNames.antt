-- Names that were drawn for the terms of nodes, as nodes.
use Rattle.std.proofs.Common.{◌≡◌, ◌≤◌, List, [], ◌∷◌, map, length, get_or, All, Some, refl, ap, sym, ◌∙◌, subst, arith}
use Rattle.std.proofs.lemmas.List.{length-map, get_or-map}
use Rattle.std.proofs.lemmas.List.Elements.{All-nil, All-cons, All-head, All-tail}
use Rattle.smt_terms.specs.declared.ids.NodeId.{NodeId}
use Rattle.smt_terms.specs.Fresh.{Supply}
use Rattle.smt_terms.specs.Groups.{Named, draw_each}
use Rattle.smt_terms.specs.Rank.{sort_of, width, most_bits}
use Rattle.smt_terms.specs.Sorts.{bool, Symbol}
use Rattle.smt_terms.specs.Term.{symbol, Term, none, constant}
use Rattle.smt_terms.proofs.Ranked.{takes-rank}
use Rattle.smt_terms.proofs.Sorted.{sort_of-apply}
use Rattle.term_table.specs.Formulas.{Formulas, tree, trees_at, IsNode, AreNodes}
use Rattle.term_groups.specs.Grouping.{terms_of}
use Rattle.term_groups.proofs.Draws.{constants-are_new}
use Rattle.cnf_polarity.specs.Literals.{symbol_in, IsName, names_at}

constant-sort : (f : Symbol) → f.args ≡ [] → f.result ≡ bool → sort_of (constant f) ≡ Some bool
constant-sort f args result =
    let narrow : width bool ≤ most_bits = omega arith in
    sort_of-apply (symbol f) none [] bool refl (takes-rank (symbol f) [] bool (sym args, sym result) narrow)

first-of : Term → List Term → Term
first-of d [] = d
first-of d (u ∷ us) = u

rest-of : List Term → List Term
rest-of [] = []
rest-of (u ∷ us) = us

-- these nodes are those of these names
pub names-are : (t : Formulas) (ks es : List NodeId) (ms : Named) → trees_at t ks ≡ terms_of ms → trees_at t es ≡ map (λ n. constant n.0) ms → names_at t ks es ≡ ms
unfolding first-of rest-of
names-are t [] es [] terms constants = refl
names-are t [] es (m ∷ ms) terms constants = absurd cc
names-are t (k ∷ ks) es [] terms constants = absurd cc
names-are t (k ∷ ks) [] (m ∷ ms) terms constants = absurd cc
names-are t (k ∷ ks) (e ∷ es) (m ∷ ms) terms constants =
    let name : symbol_in (tree t e) ≡ m.0 = ap (λ us. symbol_in (first-of (tree t e) us)) constants in
    let term : tree t k ≡ m.1 = ap (first-of (tree t k)) terms in
    let rest = names-are t ks es ms (ap rest-of terms) (ap rest-of constants) in
    λ i. (name i, term i) ∷ rest i

each-name : (t : Formulas) (es : List NodeId) (ms : Named) → AreNodes t es → All (λ n. (n.0.args ≡ []) × (n.0.result ≡ bool)) ms → trees_at t es ≡ map (λ n. constant n.0) ms → All (IsName t) es
unfolding first-of rest-of
each-name t [] ms nodes all constants = All-nil (IsName t)
each-name t (e ∷ es) [] nodes all constants = absurd cc
each-name t (e ∷ es) (m ∷ ms) nodes all constants =
    let is : tree t e ≡ constant m.0 = ap (first-of (tree t e)) constants in
    let own = All-head (λ n. (n.0.args ≡ []) × (n.0.result ≡ bool)) m ms all in
    All-cons (IsName t) e es
    (record {
      formula = record { node = All-head (IsNode t) e es nodes; sort = ap sort_of is ∙ constant-sort m.0 own.0 own.1 };
      constant = is ∙ ap (λ u. constant (symbol_in u)) (sym is);
    })
    (each-name t es ms (All-tail (IsNode t) e es nodes) (All-tail (λ n. (n.0.args ≡ []) × (n.0.result ≡ bool)) m ms all) (ap rest-of constants))

module _ (ts : List Term) (s : Supply) where
  abbrev drawn : Named
  drawn = (draw_each ts s).symbols

  pub drawn-for : terms_of drawn ≡ ts
  drawn-for = constants-are_new.each ts s

  -- constants of truth values
  drawn-bool : All (λ u. sort_of u ≡ Some bool) ts → All (λ n. (n.0.args ≡ []) × (n.0.result ≡ bool)) drawn
  drawn-bool bools i d lt =
      let own = constants-are_new.constants ts s i d lt in
      let count = length-map drawn (λ n. n.1) in
      let term : get_or (terms_of drawn) i d.1 ≡ (get_or drawn i d).1 = get_or-map (λ n. n.1) drawn i d d.1 lt in
      (own.0, own.1 bool (ap sort_of (sym term) ∙ subst (All (λ u. sort_of u ≡ Some bool)) (sym drawn-for) bools i d.1 (omega (arith, count, lt))))

  pub names-of : (t : Formulas) (es : List NodeId) → AreNodes t es → All (λ u. sort_of u ≡ Some bool) ts → trees_at t es ≡ map (λ n. constant n.0) drawn → All (IsName t) es
  names-of t es nodes bools constants = each-name t es drawn nodes (drawn-bool bools) constants

  pub as-many : (old new : Formulas) (ks es : List NodeId) → trees_at old ks ≡ ts → trees_at new es ≡ map (λ n. constant n.0) drawn → length es ≡ length ks
  as-many old new ks es terms constants =
      sym (length-map es (tree new)) ∙ ap length constants ∙ length-map drawn (λ n. constant n.0)
      ∙ sym (length-map drawn (λ n. n.1)) ∙ ap length (drawn-for ∙ sym terms) ∙ length-map ks (tree old)
