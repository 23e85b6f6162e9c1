-- Self-substitution, from terms to nodes.
use Rattle.std.proofs.Common.{◌≡◌, ℕ, zero, suc, ◌+◌, ◌<◌, ◌≤◌, inl, inr, Bool, true, false, not, cond, List, [], ◌∷◌, ◌++◌, length, map, get_or, take, drop, All, Option, Some, None, is_some, refl, ap, sym, ◌∙◌, take_all, arith, subst as carry}
use Rattle.std.specs.Prelude.{unwrap_or}
use Rattle.std.proofs.lemmas.List.{get_or-map, length-map, take_more}
use Rattle.smt_terms.specs.declared.ids.NodeId.{NodeId}
use Rattle.smt_terms.specs.Equal.{symbol_eq}
use Rattle.smt_terms.specs.Free.{name_among, names_of, head_symbols}
use Rattle.smt_terms.specs.Fresh.{Supply}
use Rattle.smt_terms.specs.Groups.{has_term}
use Rattle.smt_terms.specs.Rank.{sort_of, is_regular}
use Rattle.smt_terms.specs.Shapes.{is_bool}
use Rattle.smt_terms.specs.Sorts.{Name, Sort, bool, int, bit_vector, array, free_sort, Variable}
use Rattle.smt_terms.specs.Subst.{Choices, subst}
use Rattle.smt_terms.specs.SubstLaws.{GivesNone, GivesNoNameIn, names_within, names_within_each}
use Rattle.smt_terms.specs.Term.{Quantifier, universal, existential, Term, apply, quantified, Terms, none, ◌⨾◌, list, terms, constant_of}
use Rattle.smt_terms.proofs.SubstNames.{subst-spares_names}
use Rattle.smt_terms.proofs.Tests.{both_true, and_true}
use Rattle.term_table.specs.Formulas.{Formulas, no_tree, tree, tree_in, trees_at, operands, variable_of, IsNode, IsTable}
use Rattle.term_walk.specs.Walking.{GrowsTo}
use Rattle.term_walk.proofs.Members.{has-at}
use Rattle.term_subst.specs.Substituting.{IsLater}
use Rattle.normal_forms.specs.Nodes.{IsFormula}
use Rattle.normal_forms.specs.Prenex.{quantifiers}
use Rattle.normal_forms.specs.Quantifiers.{over_left, not_bool, at_truth, witness, substitute_bool, substitute_each, Solved, Solving, solved_for, selfsub_from, selfsub}
use Rattle.normal_forms.specs.Shape.{quantifier_seen, variables_of, body_in}
use Rattle.term_walk.specs.Binders.{is_quantified}
use Rattle.normal_forms.proofs.Inside.{in-left, in-both}
use Rattle.normal_forms.proofs.ShannonInside.{at_truth-within, fewer-names}
use Rattle.quantifier_forms.specs.Listing.{listed}
use Rattle.quantifier_forms.specs.Memos.{Results, result_in, known_in, Sets}
use Rattle.quantifier_forms.specs.Rebuilding.{with_operands, is_number, IsLike}
use Rattle.quantifier_forms.proofs.Rebuilt.{formula-number}
use Rattle.quantifier_forms.proofs.Memos.{sets-each}
use Rattle.quantifier_forms.proofs.Bodies.{body-among, body-bool, quantified-formula}
use Rattle.quantifier_forms.proofs.Sweeps.{tree-stays, node-stays, kids-for, known-map}
use Rattle.boolean_quantifiers.specs.declared.work.Case.{Case}
use Rattle.boolean_quantifiers.specs.Replacing.{put, IsPut}
use Rattle.boolean_quantifiers.specs.Solving.{is_told, are_told, told, told_each, step, steps, solved_over, MayStand, AllMayStand, IsTold, AreTold, IsSolved, AreOperandsKnown, after}
use Rattle.boolean_quantifiers.specs.Working.{IsTruthVariable, IsVariable, single}
use Rattle.boolean_quantifiers.proofs.AtTruth.{its-variable}
use Rattle.boolean_quantifiers.proofs.Distinct.{listed-distinct, listed-names}
use Rattle.boolean_quantifiers.proofs.PlainSubst.{plain-subst}
use Rattle.boolean_quantifiers.proofs.SelfSteps.{Agrees, agrees-more, told-stays, first-found, steps-append, steps-keys, all-steps, after-told}

-- ---- supplies

pub later-self : (s : Supply) → IsLater s s
later-self s = record { taken = refl; number = omega arith }

pub later-on : (a b c : Supply) → IsLater a b → IsLater b c → IsLater a c
later-on a b c f g = let x = f.number in let y = g.number in record { taken = g.taken ∙ f.taken; number = omega arith }

pub spared-later : (a b : Supply) (ns : List Name) → IsLater a b → GivesNone a ns → GivesNone b ns
spared-later a b ns later given n among i le is = let x = later.number in ap (λ ts. name_among ts n) later.taken ∙ given n among i (omega arith) is

-- ---- one variable

witness-seen : (b : Bool) (x : Variable) (u : Term) → at_truth (not b) x u ≡ witness (quantifier_seen b) x u
witness-seen true x u = refl
witness-seen false x u = refl

witness-spared : (v : Bool) (x : Variable) (u : Term) (s : Supply) → x.sort ≡ bool → sort_of u ≡ Some bool → GivesNone s (names_within u)
    → GivesNone (subst ((constant_of x, at_truth v x u) ∷ []) u s).1 (names_within (subst ((constant_of x, at_truth v x u) ∷ []) u s).0)
witness-spared v x u s is has given = subst-spares_names ((constant_of x, at_truth v x u) ∷ []) u s given images
  where
    images : GivesNoNameIn s ((constant_of x, at_truth v x u) ∷ [])
    images g w found = by (symbol_eq (constant_of x) g) found
      where
        by : (b : Bool) → cond b (Some (at_truth v x u)) None ≡ Some w → GivesNone s (names_within w)
        by true e = let same : at_truth v x u ≡ w = cc in carry (λ r. GivesNone s (names_within r)) same (λ n among. given n ((at_truth-within u v x bool is has).names n among))
        by false e = absurd cc

regular-node : (t : Formulas) (k : NodeId) → IsTable t → IsNode t k → is_regular (tree t k) ≡ true
regular-node t k table node = (both_true (is_some (sort_of (tree t k))) (is_regular (tree t k)) (table.sorted k.0 node)).1

-- below no quantifier, a formula is put in the places of the variable
pub plain-put : (t new : Formulas) (c : Case) (k r : NodeId) (s : Supply) → IsTable t → GrowsTo t new → IsTruthVariable t c.variable → IsFormula t c.image → IsFormula t k → quantifiers (tree t k) ≡ 0 → IsPut new (single c) k r
    → subst ((constant_of (variable_of (tree t c.variable)), tree t c.image) ∷ []) (tree t k) s ≡ (tree new r, s)
plain-put t new c k r s table grows v w u free p =
    (λ i. subst ((constant_of (its-variable t c.variable v i), tree t c.image) ∷ []) (tree t k) s)
    ∙ ap (λ (a : Term × Choices). (a.0, a.1.names)) (plain-subst v.named (tree t c.image) (formula-number (tree t c.image) w.sort) (tree t k) (record { names = s; chosen = [] }) free (regular-node t k table u.node))
    ∙ ap (λ (a : Term). (a, s)) (sym (p.term ∙ (λ i. put (((tree-stays t new c.variable grows v.node ∙ v.is) i, tree-stays t new c.image grows w.node i) ∷ []) (tree-stays t new k grows u.node i))))

-- the witness in the places of a Bool variable
module _ (t mid new : Formulas) (every : Bool) (k body image r : NodeId) (s left : Supply) (x : Variable) (grows : GrowsTo t mid) (v : IsVariable t k) (u : IsFormula t body) (is : x.sort ≡ bool) (e : variable_of (tree t k) ≡ x)
    (made : tree mid image ≡ at_truth (not every) (variable_of (tree t k)) (tree t body))
    (term : tree new r ≡ (subst ((constant_of (variable_of (tree mid k)), tree mid image) ∷ []) (tree mid body) s).0)
    (names : left ≡ (subst ((constant_of (variable_of (tree mid k)), tree mid image) ∷ []) (tree mid body) s).1) where
  here : variable_of (tree mid k) ≡ x
  here = ap variable_of (tree-stays t mid k grows v.node) ∙ e

  at : tree mid image ≡ at_truth (not every) x (tree t body)
  at = made ∙ ap (λ y. at_truth (not every) y (tree t body)) e

  whole : (tree new r, left) ≡ subst ((constant_of x, at_truth (not every) x (tree t body)) ∷ []) (tree t body) s
  whole = (λ i. (term i, names i)) ∙ (λ i. subst ((constant_of (here i), at i) ∷ []) (tree-stays t mid body grows u.node i) s)

  pub bool-solved : (tree new r, left) ≡ substitute_bool x.sort (quantifier_seen every) x (tree t body, s)
  bool-solved =
      whole
      ∙ ap (λ w. subst ((constant_of x, w) ∷ []) (tree t body) s) (witness-seen every x (tree t body))
      ∙ ap (λ so. substitute_bool so (quantifier_seen every) x (tree t body, s)) (sym is)

  pub bool-spared : GivesNone s (names_within (tree t body)) → GivesNone left (names_within (tree new r))
  bool-spared given = carry (λ (p : Term × Supply). GivesNone p.1 (names_within p.0)) (sym whole) (witness-spared (not every) x (tree t body) s is u.sort given)

pub other-solved : (so : Sort) (q : Quantifier) (x : Variable) (r : Term × Supply) → is_bool so ≡ false → substitute_bool so q x r ≡ r
other-solved bool q x r e = absurd cc
other-solved int q x r e = refl
other-solved (bit_vector w) q x r e = refl
other-solved (array i j) q x r e = refl
other-solved (free_sort n) q x r e = refl

-- one variable more, from the last to the first
pub solve-more : (q : Quantifier) (xs : List Variable) (i : ℕ) (x : Variable) (r : Term × Supply) → i < length xs → substitute_each q (drop i xs) r ≡ substitute_bool (get_or xs i x).sort q (get_or xs i x) (substitute_each q (drop (suc i) xs) r)
solve-more q [] i x r lt = absurd (omega arith)
solve-more q (y ∷ xs) zero x r lt = refl
solve-more q (y ∷ xs) (suc i) x r lt = solve-more q xs i x r (omega arith)

-- ---- a quantified node

pub left-names : (u : Term) → is_quantified u ≡ true → (n : Name) → name_among (map (λ x. x.name) (not_bool (variables_of u))) n ≡ true → name_among (names_within u) n ≡ true
left-names (quantified q xs body) is n among = in-left (map (λ x. x.name) xs) (names_within body) n (fewer-names xs n among)
left-names (apply h ts) is n among = absurd cc

pub over-spared : (s : Supply) (q : Quantifier) (u b : Term) → is_quantified u ≡ true → GivesNone s (names_within u) → GivesNone s (names_within b) → GivesNone s (names_within (quantified q (not_bool (variables_of u)) b))
over-spared s q u b is outer inner n among = elim (in-both (map (λ x. x.name) (not_bool (variables_of u))) (names_within b) n among) [
  | inl bound ↦ outer n (left-names u is n bound)
  | inr below ↦ inner n below
]

step-quantified : (u : Term) (s : Solving) → is_quantified u ≡ true
    → step u s ≡ record { names = (solved_over u (told s.solved (body_in u)) s.names).1; solved = record { term = u; result = (solved_over u (told s.solved (body_in u)) s.names).0 } ∷ s.solved }
step-quantified (quantified universal xs body) s is = refl
step-quantified (quantified existential xs body) s is = refl
step-quantified (apply h ts) s is = absurd cc

found-told : (u e : Term) (es : List Solved) → is_quantified u ≡ true → (is_told (record { term = u; result = e } ∷ es) u ≡ true) × (told (record { term = u; result = e } ∷ es) u ≡ e)
found-told (quantified q xs body) e es is =
    let found = first-found (record { term = quantified q xs body; result = e }) es in
    (ap is_some found, ap (λ o. unwrap_or o (quantified q xs body)) found)
found-told (apply h ts) e es is = absurd cc

pub quantified-solved : (t new : Formulas) (s : Solving) (before left : Supply) (id body known r : NodeId) → is_quantified (tree t id) ≡ true → tree t body ≡ body_in (tree t id) → s.names ≡ before → IsTold t t s.solved body known
    → (tree new r, left) ≡ solved_over (tree t id) (tree t known) before → IsSolved t new s left id r
quantified-solved t new s before left id body known r is same names one made =
    let u = tree t id in
    let step_is = step-quantified u s is in
    let over : (tree new r, left) ≡ solved_over u (told s.solved (body_in u)) s.names = made ∙ (λ i. solved_over u ((one.term ∙ ap (told s.solved) same) i) (sym names i)) in
    let found = found-told u (solved_over u (told s.solved (body_in u)) s.names).0 s.solved is in
    record {
      names = ap (λ (z : Solving). z.names) step_is ∙ ap (λ (p : Term × Supply). p.1) (sym over);
      result = record {
        known = ap (λ (z : Solving). is_told z.solved u) step_is ∙ found.0;
        term = ap (λ (p : Term × Supply). p.0) over ∙ sym found.1 ∙ sym (ap (λ (z : Solving). told z.solved u) step_is);
      };
    }

step-applied : (u : Term) (s : Solving) → is_quantified u ≡ false → step u s ≡ s
step-applied (apply h ts) s plain = refl
step-applied (quantified q xs body) s plain = absurd cc

pub applied-solved : (t new : Formulas) (s : Solving) (left : Supply) (id r : NodeId) → is_quantified (tree t id) ≡ false → s.names ≡ left → IsTold t new s.solved id r → IsSolved t new s left id r
applied-solved t new s left id r plain names one =
    let e = step-applied (tree t id) s plain in
    record {
      names = ap (λ (z : Solving). z.names) e ∙ names;
      result = record { known = ap (λ (z : Solving). is_told z.solved (tree t id)) e ∙ one.known; term = one.term ∙ sym (ap (λ (z : Solving). told z.solved (tree t id)) e) };
    }

pub quantified-stands : (t new : Formulas) (left : Supply) (id r : NodeId) → IsTable t → GrowsTo t new → IsNode t id → is_quantified (tree t id) ≡ true → IsFormula new r → GivesNone left (names_within (tree new r)) → MayStand new left id r
quantified-stands t new left id r table grows node is formula spared =
    let whole = quantified-formula t id table node is in
    let same = tree-stays t new id grows node in
    record {
      node = node-stays t new id grows node;
      result = formula.node;
      like = record { sort = formula.sort ∙ sym whole.sort ∙ ap sort_of (sym same); number = formula-number (tree new r) formula.sort ∙ sym (formula-number (tree t id) whole.sort) ∙ ap is_number (sym same) };
      spared = spared;
    }

-- the body's result
pub body-known : (t : Formulas) (m : Results) (id body : NodeId) → is_quantified (tree t id) ≡ true → AreOperandsKnown t m id → body.0 < id.0 → tree t body ≡ body_in (tree t id) → result_in m 0 body ≡ Some (known_in m 0 body)
body-known t m id body is ready below same = ready body below (ap (has_term (operands (tree t id))) same ∙ body-among (tree t id) is)

pub body-formula : (t : Formulas) (left : Supply) (id body r : NodeId) → IsTable t → IsNode t id → is_quantified (tree t id) ≡ true → tree t body ≡ body_in (tree t id) → MayStand t left body r → IsFormula t r
body-formula t left id body r table node is same h = record { node = h.result; sort = h.like.sort ∙ ap sort_of same ∙ body-bool (tree t id) is (quantified-formula t id table node is).sort }

-- ---- a node that isn't quantified

each-told : (es : List Solved) (ts : Terms) → terms (map (told es) (list ts)) ≡ told_each es ts
each-told es none = refl
each-told es (t ⨾ ts) = ap (λ us. told es t ⨾ us) (each-told es ts)

told-applied : (es : List Solved) (u : Term) → is_quantified u ≡ false → told es u ≡ with_operands u (map (told es) (operands u))
told-applied es (apply h ts) plain = ap (apply h) (sym (each-told es ts))
told-applied es (quantified q xs body) plain = absurd cc

are-told-at : (es : List Solved) (ts : Terms) → ((i : ℕ) → i < length (list ts) → is_told es (get_or (list ts) i no_tree) ≡ true) → are_told es ts ≡ true
are-told-at es none each = refl
are-told-at es (t ⨾ ts) each = and_true (is_told es t) (are_told es ts) (each 0 (omega arith)) (are-told-at es ts (λ i lt. each (suc i) (omega arith)))

is-told-applied : (es : List Solved) (u : Term) → is_quantified u ≡ false → ((i : ℕ) → i < length (operands u) → is_told es (get_or (operands u) i no_tree) ≡ true) → is_told es u ≡ true
is-told-applied es (apply h ts) plain each = are-told-at es ts each
is-told-applied es (quantified q xs body) plain each = absurd cc

abbrev first_node : NodeId
first_node = record { 0 = 0 }

module _ (t new : Formulas) (m : Results) (id r : NodeId) (ks : List NodeId) (ready : AreOperandsKnown t m id) (same : trees_at t ks ≡ operands (tree t id)) (below : All (λ k. k.0 < id.0) ks) where
  pub kids-known : (i : ℕ) (d : NodeId) → i < length ks → result_in m 0 (get_or ks i d) ≡ Some (known_in m 0 (get_or ks i d))
  kids-known = kids-for t m 0 id ks (λ k s. result_in m 0 k ≡ Some s) ready same below

  pub applied-told : (es : List Solved) → is_quantified (tree t id) ≡ false → AreTold t es m → tree new r ≡ with_operands (tree t id) (trees_at t (map (known_in m 0) ks)) → IsTold t new es id r
  applied-told es plain are made = record {
    known = is-told-applied es (tree t id) plain (λ i lt.
        let n : length ks ≡ length (operands (tree t id)) = sym (length-map ks (tree_in t.trees)) ∙ ap length same in
        let inside : i < length ks = omega (arith, n) in
        ap (is_told es) (sym (ap (λ us. get_or us i no_tree) same) ∙ get_or-map (tree_in t.trees) ks i first_node no_tree inside)
        ∙ (are (get_or ks i first_node) (known_in m 0 (get_or ks i first_node)) (kids-known i first_node inside)).known);
    term =
        made
        ∙ ap (with_operands (tree t id)) (known-map t m 0 ks (told es) (λ i d lt. (are (get_or ks i d) (known_in m 0 (get_or ks i d)) (kids-known i d lt)).term) ∙ ap (map (told es)) same)
        ∙ sym (told-applied es (tree t id) plain);
  }

each-spared : (left : Supply) (us : List Term) → ((i : ℕ) → i < length us → GivesNone left (names_within (get_or us i no_tree))) → GivesNone left (names_within_each (terms us))
each-spared left [] each n among = absurd cc
each-spared left (u ∷ us) each n among = elim (in-both (names_within u) (names_within_each (terms us)) n among) [
  | inl first ↦ each 0 (omega arith) n first
  | inr rest ↦ each-spared left us (λ i lt. each (suc i) (omega arith)) n rest
]

applied-spared : (left : Supply) (u : Term) (us : List Term) → is_quantified u ≡ false → GivesNone left (names_within u) → GivesNone left (names_within_each (terms us)) → GivesNone left (names_within (with_operands u us))
applied-spared left (apply h ts) us plain own each n among = elim (in-both (names_of (head_symbols h)) (names_within_each (terms us)) n among) [
  | inl head ↦ own n (in-left (names_of (head_symbols h)) (names_within_each ts) n head)
  | inr rest ↦ each n rest
]
applied-spared left (quantified q xs body) us plain own each n among = absurd cc

pub applied-stands : (t new : Formulas) (m : Results) (left : Supply) (id r : NodeId) (ks : List NodeId) → GrowsTo t new → IsNode t id → is_quantified (tree t id) ≡ false → AllMayStand t left m → GivesNone left (names_within (tree t id))
    → ((i : ℕ) (d : NodeId) → i < length ks → result_in m 0 (get_or ks i d) ≡ Some (known_in m 0 (get_or ks i d))) → IsNode new r → tree new r ≡ with_operands (tree t id) (trees_at t (map (known_in m 0) ks)) → IsLike (tree t id) (tree new r) → MayStand new left id r
applied-stands t new m left id r ks grows node plain stand own each result made like =
    let same = tree-stays t new id grows node in
    record {
      node = node-stays t new id grows node;
      result = result;
      like = record { sort = like.sort ∙ ap sort_of (sym same); number = like.number ∙ ap is_number (sym same) };
      spared = carry (λ u. GivesNone left (names_within u)) (sym made) (applied-spared left (tree t id) (trees_at t (map (known_in m 0) ks)) plain own (each-spared left (trees_at t (map (known_in m 0) ks)) one));
    }
  where
    one : (i : ℕ) → i < length (trees_at t (map (known_in m 0) ks)) → GivesNone left (names_within (get_or (trees_at t (map (known_in m 0) ks)) i no_tree))
    one i lt =
        let a = length-map (map (known_in m 0) ks) (tree_in t.trees) in
        let b = length-map ks (known_in m 0) in
        let inside : i < length ks = omega (arith, a, b) in
        let at : get_or (trees_at t (map (known_in m 0) ks)) i no_tree ≡ tree t (known_in m 0 (get_or ks i first_node)) =
        get_or-map (tree_in t.trees) (map (known_in m 0) ks) i first_node no_tree (omega (arith, b)) ∙ ap (tree t) (get_or-map (known_in m 0) ks i first_node first_node inside) in
        carry (λ u. GivesNone left (names_within u)) (sym at) (stand (get_or ks i first_node) (known_in m 0 (get_or ks i first_node)) (each i first_node inside)).spared

-- ---- one result more

stands-stays : (old new : Formulas) (s0 s1 : Supply) (k r : NodeId) → GrowsTo old new → IsLater s0 s1 → MayStand old s0 k r → MayStand new s1 k r
stands-stays old new s0 s1 k r grows later h =
    let from = tree-stays old new k grows h.node in
    let image = tree-stays old new r grows h.result in
    record {
      node = node-stays old new k grows h.node;
      result = node-stays old new r grows h.result;
      like = record { sort = ap sort_of image ∙ h.like.sort ∙ ap sort_of (sym from); number = ap is_number image ∙ h.like.number ∙ ap is_number (sym from) };
      spared = carry (λ u. GivesNone s1 (names_within u)) (sym image) (spared-later s0 s1 (names_within (tree old r)) later h.spared);
    }

pub stand-more : (old new : Formulas) (s0 s1 : Supply) (m0 m1 : Results) (k r : NodeId) → GrowsTo old new → IsLater s0 s1 → AllMayStand old s0 m0 → MayStand new s1 k r → Sets m0 m1 0 k r → AllMayStand new s1 m1
stand-more old new s0 s1 m0 m1 k r grows later are one sets = sets-each m0 m1 0 k r (MayStand new s1) sets (λ j q e. stands-stays old new s0 s1 j q grows later (are j q e)) one

step-agrees : (u : Term) (s : Solving) → solved_for s.solved u ≡ None → Agrees s.solved (step u s).solved
step-agrees (apply h ts) s new = λ w some. refl
step-agrees (quantified q xs body) s new = agrees-more s.solved (record { term = quantified q xs body; result = over_left q (not_bool xs) (substitute_each q xs (told s.solved body, s.names)).0 }) new

pub told-more : (old new : Formulas) (s : Solving) (s0 left : Supply) (m0 m1 : Results) (k r : NodeId) → GrowsTo old new → IsNode old k → AllMayStand old s0 m0 → AreTold old s.solved m0 → solved_for s.solved (tree old k) ≡ None → IsSolved old new s left k r → Sets m0 m1 0 k r → AreTold new (step (tree old k) s).solved m1
told-more old new s s0 left m0 m1 k r grows node stand are unsolved one sets = sets-each m0 m1 0 k r (IsTold new new (step (tree old k) s).solved) sets before here
  where
    fs : List Solved
    fs = (step (tree old k) s).solved

    here : IsTold new new (step (tree old k) s).solved k r
    here = let same = tree-stays old new k grows node in record { known = ap (is_told (step (tree old k) s).solved) same ∙ one.result.known; term = one.result.term ∙ ap (told (step (tree old k) s).solved) (sym same) }

    before : (j q : NodeId) → result_in m0 0 j ≡ Some q → IsTold new new (step (tree old k) s).solved j q
    before j q e =
        let h = are j q e in
        let m = stand j q e in
        let from = tree-stays old new j grows m.node in
        let more = told-stays s.solved (step (tree old k) s).solved (tree old j) (step-agrees (tree old k) s unsolved) h.known in
        record {
          known = ap (is_told (step (tree old k) s).solved) from ∙ more.0;
          term = tree-stays old new q grows m.result ∙ h.term ∙ sym more.1 ∙ ap (told (step (tree old k) s).solved) (sym from);
        }

-- ---- the walk through a listing

pub known-some : (m : Results) (k : NodeId) → is_some (result_in m 0 k) ≡ true → result_in m 0 k ≡ Some (known_in m 0 k)
known-some m k e = by (result_in m 0 k) refl
  where
    by : (o : Option NodeId) → result_in m 0 k ≡ o → result_in m 0 k ≡ Some (known_in m 0 k)
    by (Some r) f = f ∙ ap (λ (q : NodeId). Some q) (sym (ap (λ o. unwrap_or o k) f))
    by None f = let no : false ≡ true = ap is_some (sym f) ∙ e in absurd cc

module _ (t : Formulas) (s : Supply) (root : NodeId) (ks : List NodeId) (all : trees_at t ks ≡ listed (λ _. false) (λ _. true) (tree t root) []) where
  tree-at : (n : ℕ) (d : NodeId) → n < length ks → get_or (listed (λ _. false) (λ _. true) (tree t root) []) n no_tree ≡ tree t (get_or ks n d)
  tree-at n d lt = ap (λ us. get_or us n no_tree) (sym all) ∙ get_or-map (tree_in t.trees) ks n d no_tree lt

  count : length (listed (λ _. false) (λ _. true) (tree t root) []) ≡ length ks
  count = ap length (sym all) ∙ length-map ks (tree_in t.trees)

  pub after-more : (n : ℕ) (d : NodeId) → n < length ks → after t s ks (n + 1) ≡ step (tree t (get_or ks n d)) (after t s ks n)
  after-more n d lt =
      let c = length-map ks (tree_in t.trees) in
      let more : take (n + 1) (trees_at t ks) ≡ take n (trees_at t ks) ++ get_or (trees_at t ks) n no_tree ∷ [] = take_more (trees_at t ks) n no_tree (omega (arith, c)) in
      ap (λ us. steps us (record { names = s; solved = [] })) more
      ∙ steps-append (take n (trees_at t ks)) (get_or (trees_at t ks) n no_tree ∷ []) (record { names = s; solved = [] })
      ∙ ap (λ u. step u (after t s ks n)) (get_or-map (tree_in t.trees) ks n d no_tree lt)

  pub new-solved : (n : ℕ) (d : NodeId) → n < length ks → solved_for (after t s ks n).solved (tree t (get_or ks n d)) ≡ None
  new-solved n d lt = by (solved_for (after t s ks n).solved (tree t (get_or ks n d))) refl
    where
      by : (o : Option Term) → solved_for (after t s ks n).solved (tree t (get_or ks n d)) ≡ o → o ≡ None
      by None e = refl
      by (Some r) e = elim (steps-keys (take n (trees_at t ks)) (record { names = s; solved = [] }) (tree t (get_or ks n d)) (ap is_some e)) [
        | inl before ↦ absurd cc
        | inr there ↦
            let apart = listed-distinct (tree t root) n (let c = count in omega (arith, c)) in
            let no : true ≡ false = sym there ∙ (λ i. has_term (take n (all i)) (sym (tree-at n d lt) i)) ∙ apart in
            absurd cc
      ]

  pub node-names : (n : ℕ) (d : NodeId) → n < length ks → GivesNone s (names_within (tree t root)) → GivesNone s (names_within (tree t (get_or ks n d)))
  node-names n d lt given m among =
      given m (listed-names (tree t root) (tree t (get_or ks n d)) (ap (has_term (listed (λ _. false) (λ _. true) (tree t root) [])) (sym (tree-at n d lt)) ∙ has-at (listed (λ _. false) (λ _. true) (tree t root) []) n no_tree (let c = count in omega (arith, c))) m among)

  pub after-all : (n : ℕ) → length ks ≤ n → after t s ks n ≡ steps (listed (λ _. false) (λ _. true) (tree t root) []) (record { names = s; solved = [] })
  after-all n le = let c = length-map ks (tree_in t.trees) in ap (λ us. steps us (record { names = s; solved = [] })) (take_all n (trees_at t ks) (omega (arith, c)) ∙ all)

  all-after : (n : ℕ) → length ks ≤ n → after t s ks n ≡ (selfsub_from (tree t root) (record { names = s; solved = [] })).1
  all-after n le = after-all n le ∙ all-steps (tree t root) (record { names = s; solved = [] }) refl

  pub names-left : (n : ℕ) → length ks ≤ n → (after t s ks n).names ≡ (selfsub (tree t root) s).1
  names-left n le = ap (λ (z : Solving). z.names) (all-after n le)

  pub root-solved : (new : Formulas) (r : NodeId) (n : ℕ) → length ks ≤ n → GrowsTo t new → IsNode t root → IsTold new new (after t s ks n).solved root r → tree new r ≡ (selfsub (tree t root) s).0
  root-solved new r n le grows node one =
      one.term
      ∙ (λ i. told (all-after n le i).solved (tree-stays t new root grows node i))
      ∙ (after-told (tree t root) (record { names = s; solved = [] })).1
