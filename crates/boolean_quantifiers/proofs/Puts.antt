-- Images in the places of constants, from terms to nodes.
use Rattle.std.proofs.Common.{◌≡◌, ℕ, zero, suc, ◌-◌, ◌<◌, inl, inr, ◌==◌, Bool, true, false, cond, ◌||◌, if◌then◌else◌, List, [], ◌∷◌, length, map, get_or, take, All, Option, Some, None, is_some, unwrap_or, refl, ap, sym, ◌∙◌, subst, arith}
use Rattle.std.specs.Prelude.{option_map}
use Rattle.std.proofs.lemmas.List.Elements.{All-head, All-tail}
use Rattle.smt_terms.specs.declared.ids.NodeId.{NodeId}
use Rattle.smt_terms.specs.Equal.{term_eq}
use Rattle.smt_terms.specs.Groups.{has_term}
use Rattle.smt_terms.specs.Rank.{sort_of}
use Rattle.smt_terms.specs.Sorts.{bool, Symbol, Variable}
use Rattle.smt_terms.specs.Term.{universal, existential, Term, apply, quantified, Terms, none, ◌⨾◌, list, terms, constant, variable}
use Rattle.smt_terms.proofs.Equal.{Decides-term_eq}
use Rattle.smt_terms.proofs.Tests.{either_true, left_true, right_true, or_false}
use Rattle.term_table.specs.Formulas.{Formulas, no_tree, tree, trees_at, operands, IsNode, AreNodes, IsTable}
use Rattle.term_walk.specs.Walking.{GrowsTo}
use Rattle.normal_forms.specs.Nodes.{IsFormula}
use Rattle.normal_forms.specs.Shape.{is_universally_quantified, quantifier_seen, variables_of, body_in}
use Rattle.term_walk.specs.Binders.{is_quantified}
use Rattle.quantifier_forms.specs.Memos.{Results, result_in, known_in, Sets}
use Rattle.quantifier_forms.specs.Orders.{IsOrdered}
use Rattle.quantifier_forms.specs.Rebuilding.{with_operands, is_number, IsLike}
use Rattle.quantifier_forms.proofs.Bodies.{body-among, body-bool, quantified-formula, bound-variables, kid-nodes}
use Rattle.quantifier_forms.proofs.Sweeps.{AreDone, tree-stays, node-stays, kids-for, known-map, ready-for, root-for}
use Rattle.quantifier_forms.proofs.Stands.{same-number, number-same}
use Rattle.boolean_quantifiers.specs.Replacing.{Images, Pairs, image_for, has_image, binds_image, or_else, put, put_each, image_of, images_at, IsImage, AreImages, IsPut, ArePut, Spares, AreReady, is_known, Extends}

-- ---- the same term under another table

pub images-stay : (old new : Formulas) (ps : Pairs) → GrowsTo old new → AreImages old ps → images_at new ps ≡ images_at old ps
images-stay old new [] grows are = refl
images-stay old new (p ∷ ps) grows are =
    let one = All-head (IsImage old) p ps are in
    let from = tree-stays old new p.0 grows one.from in
    let image = tree-stays old new p.1 grows one.image in
    let rest = images-stay old new ps grows (All-tail (IsImage old) p ps are) in
    λ i. (from i, image i) ∷ rest i

pub are-images-stay : (old new : Formulas) (ps : Pairs) → GrowsTo old new → AreImages old ps → AreImages new ps
are-images-stay old new ps grows are i d lt =
    let p = get_or ps i d in
    let one = are i d lt in
    let from = tree-stays old new p.0 grows one.from in
    let image = tree-stays old new p.1 grows one.image in
    record {
      from = node-stays old new p.0 grows one.from;
      symbol = one.symbol;
      constant_is = from ∙ one.constant_is;
      image = node-stays old new p.1 grows one.image;
      like = record { sort = ap sort_of image ∙ one.like.sort ∙ ap sort_of (sym from); number = ap is_number image ∙ one.like.number ∙ ap is_number (sym from) };
    }

pub put-stays : (old new : Formulas) (ps : Pairs) (k r : NodeId) → GrowsTo old new → AreImages old ps → IsPut old ps k r → IsPut new ps k r
put-stays old new ps k r grows are h =
    let from = tree-stays old new k grows h.node in
    let image = tree-stays old new r grows h.result in
    record {
      node = node-stays old new k grows h.node;
      result = node-stays old new r grows h.result;
      term = image ∙ h.term ∙ (λ i. put (sym (images-stay old new ps grows are) i) (sym from i));
      like = record { sort = ap sort_of image ∙ h.like.sort ∙ ap sort_of (sym from); number = ap is_number image ∙ h.like.number ∙ ap is_number (sym from) };
    }

-- ---- the images of nodes are those of their terms

module _ (t : Formulas) (table : IsTable t) (k : NodeId) (node : IsNode t k) where
  key-same : (j : NodeId) → IsNode t j → (j.0 == k.0) ≡ term_eq (tree t j) (tree t k)
  key-same j there = by (j.0 == k.0) (term_eq (tree t j) (tree t k)) refl refl
    where
      by : (a b : Bool) → (j.0 == k.0) ≡ a → term_eq (tree t j) (tree t k) ≡ b → a ≡ b
      by true true e f = refl
      by false false e f = refl
      by false true e f =
          let same : j.0 ≡ k.0 = table.one_tree j.0 k.0 there node ((Decides-term_eq (tree t j) (tree t k)).0 f) in
          let yes : (j.0 == k.0) ≡ true = number-same j.0 k.0 same in
          absurd cc
      by true false e f =
          let terms_same : tree t j ≡ tree t k = ap (λ i. get_or t.trees i no_tree) (same-number j.0 k.0 e) in
          let yes : term_eq (tree t j) (tree t k) ≡ true = (Decides-term_eq (tree t j) (tree t k)).1 terms_same in
          absurd cc

  pub image-at : (ps : Pairs) → AreImages t ps → image_for (images_at t ps) (tree t k) ≡ option_map (tree t) (image_of ps k)
  image-at [] are = refl
  image-at (p ∷ ps) are = by (p.0.0 == k.0) (key-same p.0 (All-head (IsImage t) p ps are).from) (image-at ps (All-tail (IsImage t) p ps are))
    where
      by : (b : Bool) → b ≡ term_eq (tree t p.0) (tree t k) → image_for (images_at t ps) (tree t k) ≡ option_map (tree t) (image_of ps k)
          → cond (term_eq (tree t p.0) (tree t k)) (Some (tree t p.1)) (image_for (images_at t ps) (tree t k)) ≡ option_map (tree t) (if◌then◌else◌ {A = Option NodeId} b (Some p.1) (image_of ps k))
      by true e rest = ap (λ c. cond c (Some (tree t p.1)) (image_for (images_at t ps) (tree t k))) (sym e)
      by false e rest = ap (λ c. cond c (Some (tree t p.1)) (image_for (images_at t ps) (tree t k))) (sym e) ∙ rest

  pub has-image-at : (ps : Pairs) → AreImages t ps → has_image (images_at t ps) (tree t k) ≡ is_some (image_of ps k)
  has-image-at [] are = refl
  has-image-at (p ∷ ps) are = by (p.0.0 == k.0) (key-same p.0 (All-head (IsImage t) p ps are).from) (has-image-at ps (All-tail (IsImage t) p ps are))
    where
      by : (b : Bool) → b ≡ term_eq (tree t p.0) (tree t k) → has_image (images_at t ps) (tree t k) ≡ is_some (image_of ps k)
          → (term_eq (tree t p.0) (tree t k) || has_image (images_at t ps) (tree t k)) ≡ is_some (if◌then◌else◌ {A = Option NodeId} b (Some p.1) (image_of ps k))
      by true e rest = ap (λ c. c || has_image (images_at t ps) (tree t k)) (sym e)
      by false e rest = ap (λ c. c || has_image (images_at t ps) (tree t k)) (sym e) ∙ rest

  -- the node itself and its image
  pub own-image : (ps : Pairs) (r : NodeId) → AreImages t ps → image_of ps k ≡ Some r → IsImage t (k, r)
  own-image [] r are e = absurd cc
  own-image (p ∷ ps) r are e = by (p.0.0 == k.0) refl e (λ f. own-image ps r (All-tail (IsImage t) p ps are) f)
    where
      by : (b : Bool) → (p.0.0 == k.0) ≡ b → (if◌then◌else◌ {A = Option NodeId} b (Some p.1) (image_of ps k)) ≡ Some r → (image_of ps k ≡ Some r → IsImage t (k, r)) → IsImage t (k, r)
      by true f g rest =
          let key : p.0 ≡ k = let n = same-number p.0.0 k.0 f in λ i. record { 0 = n i } in
          let one : p.1 ≡ r = cc in
          subst (IsImage t) (λ i. (key i, one i)) (All-head (IsImage t) p ps are)
      by false f g rest = rest g

-- ---- one node

each-map : (ps : Images) (ts : Terms) → terms (map (put ps) (list ts)) ≡ put_each ps ts
each-map ps none = refl
each-map ps (t ⨾ ts) = ap (λ us. put ps t ⨾ us) (each-map ps ts)

-- a term without an image is put together again
pub put-applied : (ps : Images) (u : Term) → is_quantified u ≡ false → image_for ps u ≡ None → put ps u ≡ with_operands u (map (put ps) (operands u))
put-applied ps (apply h ts) plain e = ap (λ o. or_else o (apply h (put_each ps ts))) e ∙ ap (apply h) (sym (each-map ps ts))
put-applied ps (quantified q xs body) plain e = absurd cc

pub put-image : (ps : Images) (u r : Term) → is_quantified u ≡ false → image_for ps u ≡ Some r → put ps u ≡ r
put-image ps (apply h ts) r plain e = ap (λ o. or_else o (apply h (put_each ps ts))) e
put-image ps (quantified q xs body) r plain e = absurd cc

module _ (t : Formulas) (ps : Pairs) (m : Results) (v : ℕ) where
  pub known-put : (k : NodeId) → ArePut t ps m v → is_some (result_in m v k) ≡ true → IsPut t ps k (known_in m v k)
  known-put k are e = by (result_in m v k) refl e
    where
      by : (o : Option NodeId) → result_in m v k ≡ o → is_some (result_in m v k) ≡ true → IsPut t ps k (known_in m v k)
      by (Some r) f g = subst (λ (x : NodeId). IsPut t ps k x) (sym (ap (λ q. unwrap_or q k) f)) (are k r f)
      by None f g = let no : false ≡ true = ap is_some (sym f) ∙ g in absurd cc

  itself-put : (k : NodeId) → IsNode t k → put (images_at t ps) (tree t k) ≡ tree t k → IsPut t ps k k
  itself-put k node e = record { node = node; result = node; term = sym e; like = record { sort = refl; number = refl } }

  pub spared-put : (k : NodeId) → IsNode t k → ArePut t ps m v → put (images_at t ps) (tree t k) ≡ tree t k → IsPut t ps k (known_in m v k)
  spared-put k node are e = by (result_in m v k) refl
    where
      by : (o : Option NodeId) → result_in m v k ≡ o → IsPut t ps k (known_in m v k)
      by (Some r) f = subst (λ (x : NodeId). IsPut t ps k x) (sym (ap (λ q. unwrap_or q k) f)) (are k r f)
      by None f = subst (λ (x : NodeId). IsPut t ps k x) (sym (ap (λ q. unwrap_or q k) f)) (itself-put k node e)

-- ---- the kids of a node are ready

pub kids-ready : (t : Formulas) (ps : Pairs) (m : Results) (v : ℕ) (id : NodeId) (ks : List NodeId) → AreReady t ps m v id → trees_at t ks ≡ operands (tree t id) → All (λ k. k.0 < id.0) ks → (i : ℕ) (d : NodeId) → i < length ks → IsPut t ps (get_or ks i d) (known_in m v (get_or ks i d))
kids-ready t ps m v id ks ready same below = kids-for t m v id ks (IsPut t ps) ready same below

-- ---- from turn to turn

module _ (t0 t1 : Formulas) (ps : Pairs) (m0 m1 : Results) (v : ℕ) (f : NodeId → Bool) (root : NodeId) (ks : List NodeId) (grows : GrowsTo t0 t1) (images : AreImages t0 ps) (spares : Spares t0 ps f) (order : IsOrdered t0 (is_known m0 v f) root ks) (more : Extends m0 m1 v) (are : ArePut t1 ps m1 v) where
  pub known-now : (k : NodeId) → IsNode t0 k → is_known m0 v f k ≡ true → IsPut t1 ps k (known_in m1 v k)
  known-now k node e = elim (either_true (is_some (result_in m0 v k)) (f k) e) [
    | inl had ↦ known-put t1 ps m1 v k are (more.stay k had)
    | inr spared ↦ spared-put t1 ps m1 v k (node-stays t0 t1 k grows node) are
        ((λ i. put (images-stay t0 t1 ps grows images i) (tree-stays t0 t1 k grows node i)) ∙ spares k node spared ∙ sym (tree-stays t0 t1 k grows node))
  ]

  pub ready-now : (n : ℕ) (d : NodeId) → n < length ks → AreDone m1 v ks n → AreReady t1 ps m1 v (get_or ks n d)
  ready-now n d lt done k below e = ready-for t0 t1 m1 v (is_known m0 v f) root ks (IsPut t1 ps) grows order (λ j some. known-put t1 ps m1 v j are some) known-now n d lt done k below e

  pub root-now : IsNode t0 root → AreDone m1 v ks (length ks) → IsPut t1 ps root (known_in m1 v root)
  root-now node done = root-for t0 t1 m1 v (is_known m0 v f) root ks (IsPut t1 ps) grows order (λ j some. known-put t1 ps m1 v j are some) known-now node done

-- ---- a quantified node

pub put-bound : (ps : Images) (u : Term) → is_quantified u ≡ true → binds_image ps (variables_of u) ≡ true → put ps u ≡ u
put-bound ps (quantified q xs body) is e = ap (λ b. cond b (quantified q xs body) (quantified q xs (put ps body))) e
put-bound ps (apply h ts) is e = absurd cc

pub put-under : (ps : Images) (u : Term) → is_quantified u ≡ true → binds_image ps (variables_of u) ≡ false → put ps u ≡ quantified (quantifier_seen (is_universally_quantified u)) (variables_of u) (put ps (body_in u))
put-under ps (quantified universal xs body) is e = ap (λ b. cond b (quantified universal xs body) (quantified universal xs (put ps body))) e
put-under ps (quantified existential xs body) is e = ap (λ b. cond b (quantified existential xs body) (quantified existential xs (put ps body))) e
put-under ps (apply h ts) is e = absurd cc

pub quantified-like : (u b : Term) → is_quantified u ≡ true → sort_of u ≡ Some bool → sort_of (quantified (quantifier_seen (is_universally_quantified u)) (variables_of u) b) ≡ Some bool → IsLike u (quantified (quantifier_seen (is_universally_quantified u)) (variables_of u) b)
quantified-like (quantified q xs body) b is has sort = record { sort = sort ∙ sym has; number = refl }
quantified-like (apply h ts) b is has sort = absurd cc

module _ (t : Formulas) (ps : Pairs) (m : Results) (v : ℕ) (id body : NodeId) (table : IsTable t) (node : IsNode t id) (is : is_quantified (tree t id) ≡ true) (ready : AreReady t ps m v id) (below : body.0 < id.0) (term : tree t body ≡ body_in (tree t id)) where
  pub body-put : IsPut t ps body (known_in m v body)
  body-put = ready body below (ap (has_term (operands (tree t id))) term ∙ body-among (tree t id) is)

  pub body-formula : IsFormula t (known_in m v body)
  body-formula =
      let h = body-put in
      record { node = h.result; sort = h.like.sort ∙ ap sort_of term ∙ body-bool (tree t id) is (quantified-formula t id table node is).sort }

  pub quantified-put : (new : Formulas) (r : NodeId) (every : Bool) → GrowsTo t new → AreImages t ps → binds_image (images_at t ps) (variables_of (tree t id)) ≡ false → every ≡ is_universally_quantified (tree t id) → IsFormula new r
      → tree new r ≡ quantified (quantifier_seen every) (variables_of (tree t id)) (tree t (known_in m v body)) → IsPut new ps id r
  quantified-put new r every grows images free same formula made =
      let one : tree new r ≡ quantified (quantifier_seen (is_universally_quantified (tree t id))) (variables_of (tree t id)) (put (images_at t ps) (body_in (tree t id))) =
      made ∙ (λ i. quantified (quantifier_seen (same i)) (variables_of (tree t id)) ((body-put.term ∙ ap (put (images_at t ps)) term) i)) in
      let now : put (images_at t ps) (tree t id) ≡ put (images_at new ps) (tree new id) = λ i. put (sym (images-stay t new ps grows images) i) (sym (tree-stays t new id grows node) i) in
      record {
        node = node-stays t new id grows node;
        result = formula.node;
        term = one ∙ sym (put-under (images_at t ps) (tree t id) is free) ∙ now;
        like =
            let like = quantified-like (tree t id) (put (images_at t ps) (body_in (tree t id))) is (quantified-formula t id table node is).sort (ap sort_of (sym one) ∙ formula.sort) in
            record {
              sort = ap sort_of one ∙ like.sort ∙ ap sort_of (sym (tree-stays t new id grows node));
              number = ap is_number one ∙ like.number ∙ ap is_number (sym (tree-stays t new id grows node));
            };
      }

pub bound-put : (t : Formulas) (ps : Pairs) (id : NodeId) → IsNode t id → is_quantified (tree t id) ≡ true → binds_image (images_at t ps) (variables_of (tree t id)) ≡ true → IsPut t ps id id
bound-put t ps id node is e = record { node = node; result = node; term = sym (put-bound (images_at t ps) (tree t id) is e); like = record { sort = refl; number = refl } }

-- ---- a constant with an image, and another node that isn't quantified

constant-plain : (u : Term) (f : Symbol) → u ≡ constant f → is_quantified u ≡ false
constant-plain u f e = ap is_quantified e

pub image-put : (t : Formulas) (ps : Pairs) (k r : NodeId) → IsTable t → AreImages t ps → IsNode t k → image_of ps k ≡ Some r → IsPut t ps k r
image-put t ps k r table images node e =
    let own : IsImage t (k, r) = own-image t table k node ps r images e in
    record {
      node = node;
      result = own.image;
      term = sym (put-image (images_at t ps) (tree t k) (tree t r) (constant-plain (tree t k) own.symbol own.constant_is) (image-at t table k node ps images ∙ ap (option_map (tree t)) e));
      like = own.like;
    }

pub rebuilt-put : (t new : Formulas) (ps : Pairs) (m : Results) (v : ℕ) (id r : NodeId) (ks : List NodeId) → IsTable t → GrowsTo t new → AreImages t ps → IsNode t id → is_quantified (tree t id) ≡ false → image_of ps id ≡ None
    → AreReady t ps m v id → trees_at t ks ≡ operands (tree t id) → All (λ k. k.0 < id.0) ks → IsNode new r → tree new r ≡ with_operands (tree t id) (trees_at t (map (known_in m v) ks)) → IsLike (tree t id) (tree new r) → IsPut new ps id r
rebuilt-put t new ps m v id r ks table grows images node plain none_there ready same below result made like =
    let each = kids-ready t ps m v id ks ready same below in
    let now : put (images_at t ps) (tree t id) ≡ put (images_at new ps) (tree new id) = λ i. put (sym (images-stay t new ps grows images) i) (sym (tree-stays t new id grows node) i) in
    record {
      node = node-stays t new id grows node;
      result = result;
      term =
          made
          ∙ ap (with_operands (tree t id)) (known-map t m v ks (put (images_at t ps)) (λ i d lt. (each i d lt).term) ∙ ap (map (put (images_at t ps))) same)
          ∙ sym (put-applied (images_at t ps) (tree t id) plain (image-at t table id node ps images ∙ ap (option_map (tree t)) none_there))
          ∙ now;
      like = record { sort = like.sort ∙ ap sort_of (sym (tree-stays t new id grows node)); number = like.number ∙ ap is_number (sym (tree-stays t new id grows node)) };
    }

-- ---- the variables of a quantified node

variables-none : (t : Formulas) (ps : Pairs) (ks : List NodeId) (xs : List Variable) (table : IsTable t) → AreImages t ps → AreNodes t ks → trees_at t ks ≡ map variable xs → ((i : ℕ) (d : NodeId) → i < length ks → is_some (image_of ps (get_or ks i d)) ≡ false) → binds_image (images_at t ps) xs ≡ false
variables-none t ps [] [] table images nodes same none_there = refl
variables-none t ps [] (x ∷ xs) table images nodes same none_there = absurd cc
variables-none t ps (k ∷ ks) [] table images nodes same none_there = absurd cc
variables-none t ps (k ∷ ks) (x ∷ xs) table images nodes same none_there =
    let first : tree t k ≡ variable x = cc in
    let others : trees_at t ks ≡ map variable xs = cc in
    let one : has_image (images_at t ps) (variable x) ≡ false = ap (has_image (images_at t ps)) (sym first) ∙ has-image-at t table k (All-head (IsNode t) k ks nodes) ps images ∙ none_there 0 k (omega arith) in
    or_false (has_image (images_at t ps) (variable x)) (binds_image (images_at t ps) xs) one
    (variables-none t ps ks xs table images (All-tail (IsNode t) k ks nodes) others (λ i d lt. none_there (suc i) d (omega arith)))

variables-one : (t : Formulas) (ps : Pairs) (ks : List NodeId) (xs : List Variable) (table : IsTable t) → AreImages t ps → AreNodes t ks → trees_at t ks ≡ map variable xs → (i : ℕ) (d : NodeId) → i < length ks → is_some (image_of ps (get_or ks i d)) ≡ true → binds_image (images_at t ps) xs ≡ true
variables-one t ps [] xs table images nodes same i d lt there = absurd (omega arith)
variables-one t ps (k ∷ ks) [] table images nodes same i d lt there = absurd cc
variables-one t ps (k ∷ ks) (x ∷ xs) table images nodes same zero d lt there =
    let first : tree t k ≡ variable x = cc in
    left_true (has_image (images_at t ps) (variable x)) (binds_image (images_at t ps) xs)
    (ap (has_image (images_at t ps)) (sym first) ∙ has-image-at t table k (All-head (IsNode t) k ks nodes) ps images ∙ there)
variables-one t ps (k ∷ ks) (x ∷ xs) table images nodes same (suc i) d lt there =
    let others : trees_at t ks ≡ map variable xs = cc in
    right_true (has_image (images_at t ps) (variable x)) (binds_image (images_at t ps) xs)
    (variables-one t ps ks xs table images (All-tail (IsNode t) k ks nodes) others i d (omega arith) there)

module _ (t : Formulas) (ps : Pairs) (id : NodeId) (kids : List NodeId) (table : IsTable t) (node : IsNode t id) (is : is_quantified (tree t id) ≡ true) (images : AreImages t ps) (same : trees_at t kids ≡ operands (tree t id)) (below : All (λ k. k.0 < id.0) kids) where
  variables : trees_at t (take (length kids - 1) kids) ≡ map variable (variables_of (tree t id))
  variables = bound-variables t (tree t id) is kids same

  pub none-bound : ((i : ℕ) (d : NodeId) → i < length (take (length kids - 1) kids) → is_some (image_of ps (get_or (take (length kids - 1) kids) i d)) ≡ false) → binds_image (images_at t ps) (variables_of (tree t id)) ≡ false
  none-bound none_there = variables-none t ps (take (length kids - 1) kids) (variables_of (tree t id)) table images (kid-nodes t id kids node below) variables none_there

  pub one-bound : (i : ℕ) (d : NodeId) → i < length (take (length kids - 1) kids) → is_some (image_of ps (get_or (take (length kids - 1) kids) i d)) ≡ true → binds_image (images_at t ps) (variables_of (tree t id)) ≡ true
  one-bound i d lt there = variables-one t ps (take (length kids - 1) kids) (variables_of (tree t id)) table images (kid-nodes t id kids node below) variables i d lt there

-- ---- one result more

pub sets-put : (old new : Formulas) (ps : Pairs) (m0 m1 : Results) (v : ℕ) (k r : NodeId) → GrowsTo old new → AreImages old ps → ArePut old ps m0 v → IsPut new ps k r → Sets m0 m1 v k r → ArePut new ps m1 v
sets-put old new ps m0 m1 v k r grows images are one sets j s e = by (j.0 == k.0) refl
  where
    by : (b : Bool) → (j.0 == k.0) ≡ b → IsPut new ps j s
    by true f =
        let number = same-number j.0 k.0 f in
        let found : Some r ≡ Some s = sym (sets.here j number) ∙ e in
        let value : r ≡ s = cc in
        let key : k ≡ j = λ i. record { 0 = sym number i } in
        subst (λ (x : NodeId). IsPut new ps x s) key (subst (λ (x : NodeId). IsPut new ps k x) value one)
    by false f = put-stays old new ps j s grows images (are j s (sym (sets.others v j (λ w same. let yes : (j.0 == k.0) ≡ true = number-same j.0 k.0 same in absurd cc)) ∙ e))

pub sets-extends : (m0 m1 : Results) (v : ℕ) (k r : NodeId) → Sets m0 m1 v k r → Extends m0 m1 v
sets-extends m0 m1 v k r sets = record {
  stay = λ j e. by j e (j.0 == k.0) refl;
  others = λ w j apart. sets.others w j (λ same number. apart same);
}
  where
    by : (j : NodeId) → is_some (result_in m0 v j) ≡ true → (b : Bool) → (j.0 == k.0) ≡ b → is_some (result_in m1 v j) ≡ true
    by j e true f = ap is_some (sets.here j (same-number j.0 k.0 f))
    by j e false f = ap is_some (sets.others v j (λ w same. let yes : (j.0 == k.0) ≡ true = number-same j.0 k.0 same in absurd cc)) ∙ e
