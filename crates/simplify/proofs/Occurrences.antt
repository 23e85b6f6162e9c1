-- A search for a free occurrence of a variable.
use Rattle.std.proofs.Common.{◌≡◌, ◌≢◌, ℕ, ◌+◌, ◌<◌, ◌≤◌, inl, inr, Bool, true, false, not, ◌&&◌, ◌||◌, ◌==◌, List, [], ◌∷◌, ◌++◌, map, length, All, Some, refl, ap, sym, ◌∙◌, subst, arith, length-append}
use Rattle.std.specs.List.{list_any}
use Rattle.std.proofs.lemmas.Bool.Decides.{eqb_tells}
use Rattle.std.proofs.lemmas.List.{length-map, append-nil}
use Rattle.std.proofs.lemmas.List.Elements.{All-append, All-cons, All-head, All-tail}
use Rattle.smt_terms.specs.declared.ids.NodeId.{NodeId}
use Rattle.smt_terms.specs.Equal.{symbol_eq}
use Rattle.smt_terms.specs.Free.{head_symbols, free, free_of, is_among}
use Rattle.smt_terms.specs.Groups.{has_term}
use Rattle.smt_terms.specs.Rank.{IsWellSorted}
use Rattle.smt_terms.specs.Sorts.{Symbol, Variable}
use Rattle.smt_terms.specs.Term.{Head, op, symbol, const_array, Term, apply, quantified, Terms, none, ◌⨾◌, list, constant_of, variable}
use Rattle.smt_terms.proofs.Among.{is_among-with_more, is_among-without}
use Rattle.smt_terms.proofs.Equal.{Decides-symbol_eq}
use Rattle.smt_terms.proofs.Ranked.{rank-takes}
use Rattle.smt_terms.proofs.Sorted.{applied, sorted}
use Rattle.smt_terms.proofs.StoredTerms.{fine_term}
use Rattle.smt_terms.proofs.Tests.{alike_from, contrary, either_true, left_true, right_true, true_or_false}
use Rattle.term_table.specs.Formulas.{Formulas, tree, tree_in, trees_at, variable_of, operands, IsNode, AreNodes, IsTable}
use Rattle.term_walk.specs.FreeLists.{has_node}
use Rattle.normal_forms.specs.Shape.{variables_of, body_in}
use Rattle.term_walk.specs.Binders.{is_quantified}
use Rattle.normal_forms.proofs.Bound.{quantified-operands}
use Rattle.quantifier_forms.specs.Tasks.{work_left}
use Rattle.quantifier_forms.proofs.Stands.{same-number, number-same, has_node-append, in-last, last-in, earlier-in, term-among, left_more}
use Rattle.simplify.specs.Occurring.{occurs_in, Opens, Awaits, Searches}

and-true : (b : Bool) → (b && true) ≡ b
and-true true = refl
and-true false = refl

and-false : (b : Bool) → (b && false) ≡ false
and-false true = refl
and-false false = refl

or-false : (b : Bool) → b ≡ (b || false)
or-false true = refl
or-false false = refl

-- ---- where the symbol of a variable occurs free in a term

module _ (x : Variable) where
  no-operands : (ts : Terms) → IsWellSorted (apply (symbol (constant_of x)) ts) → ts ≡ none
  no-operands none fine = refl
  no-operands (t ⨾ ts) fine =
      let f = fine_term (apply (symbol (constant_of x)) (t ⨾ ts)) fine in
      let parts = applied (symbol (constant_of x)) (t ⨾ ts) f.sort f.has in
      let taken = rank-takes (symbol (constant_of x)) parts.sorts f.sort parts.rank in
      let here = sorted t ts [] (parts.operands ∙ ap (λ ss. Some ss) taken.0) in
      absurd (let all : [] ≡ here.sort ∷ here.sorts = here.all in cc)

  head-other : (h : Head) (ts : Terms) → IsWellSorted (apply h ts) → (apply h ts ≡ variable x → ⊥) → is_among (head_symbols h) (constant_of x) ≡ false
  head-other (op o) ts fine other = refl
  head-other (const_array s) ts fine other = refl
  head-other (symbol g) ts fine other = elim (true_or_false (symbol_eq g (constant_of x))) [
    | inl e ↦
        let same : g ≡ constant_of x = (Decides-symbol_eq g (constant_of x)).0 e in
        let empty : ts ≡ none = no-operands ts (subst (λ f. IsWellSorted (apply (symbol f) ts)) same fine) in
        absurd (other (λ i. apply (symbol (same i)) (empty i)))
    | inr e ↦ ap (λ b. b || false) e
  ]

  operands-free : (ts : Terms) → is_among (free_of ts) (constant_of x) ≡ list_any (λ u. is_among (free u) (constant_of x)) (list ts)
  operands-free none = refl
  operands-free (t ⨾ ts) = is_among-with_more (free t) (free_of ts) (constant_of x) ∙ ap (λ b. is_among (free t) (constant_of x) || b) (operands-free ts)

  applied-free : (u : Term) → is_quantified u ≡ false → IsWellSorted u → (u ≡ variable x → ⊥) → is_among (free u) (constant_of x) ≡ list_any (λ w. is_among (free w) (constant_of x)) (operands u)
  applied-free (apply h ts) plain fine other =
      is_among-with_more (head_symbols h) (free_of ts) (constant_of x) ∙ (λ i. head-other h ts fine other i || operands-free ts i)
  applied-free (quantified q xs b) plain fine other = absurd cc

  bound-free : (u : Term) → is_quantified u ≡ true → is_among (free u) (constant_of x) ≡ (is_among (free (body_in u)) (constant_of x) && not (is_among (map constant_of (variables_of u)) (constant_of x)))
  bound-free (quantified q xs b) is = is_among-without xs (free b) (constant_of x)
  bound-free (apply h ts) is = absurd cc

  bound-none : (u : Term) → is_quantified u ≡ true → is_among (map constant_of (variables_of u)) (constant_of x) ≡ true → is_among (free u) (constant_of x) ≡ false
  bound-none u is e = bound-free u is ∙ ap (λ b. is_among (free (body_in u)) (constant_of x) && not b) e ∙ and-false (is_among (free (body_in u)) (constant_of x))

  bound-body : (u : Term) → is_quantified u ≡ true → is_among (map constant_of (variables_of u)) (constant_of x) ≡ false → is_among (free u) (constant_of x) ≡ is_among (free (body_in u)) (constant_of x)
  bound-body u is e = bound-free u is ∙ ap (λ b. is_among (free (body_in u)) (constant_of x) && not b) e ∙ and-true (is_among (free (body_in u)) (constant_of x))

  bound-named : (ys : List Variable) → has_term (map variable ys) (variable x) ≡ is_among (map constant_of ys) (constant_of x)
  bound-named [] = refl
  bound-named (y ∷ ys) = λ i. and-true (symbol_eq (constant_of y) (constant_of x)) i || bound-named ys i

  variable-free : is_among (free (variable x)) (constant_of x) ≡ true
  variable-free = left_true (symbol_eq (constant_of x) (constant_of x)) false ((Decides-symbol_eq (constant_of x) (constant_of x)).1 refl)

-- ---- what a node lets wait

any-trees : (t : Formulas) (test : Term → Bool) (ks : List NodeId) → list_any test (trees_at t ks) ≡ list_any (λ k. test (tree t k)) ks
any-trees t test [] = refl
any-trees t test (k ∷ ks) = ap (λ b. test (tree t k) || b) (any-trees t test ks)

module _ (t : Formulas) (table : IsTable t) (v : NodeId) (there : IsNode t v) (constant : tree t v ≡ variable (variable_of (tree t v))) where
  abbrev f : Symbol
  f = constant_of (variable_of (tree t v))

  pub bound-told : (ks : List NodeId) (xs : List Variable) → AreNodes t ks → trees_at t ks ≡ map variable xs → has_node ks v ≡ is_among (map constant_of xs) f
  bound-told ks xs nodes are =
      sym (term-among t table v there ks nodes) ∙ (λ i. has_term (are i) (constant i)) ∙ bound-named (variable_of (tree t v)) xs

  module _ (k : NodeId) (node : IsNode t k) (before after : List NodeId) where
    pub opens-applied : k.0 ≢ v.0 → is_quantified (tree t k) ≡ false → (kids : List NodeId) → trees_at t kids ≡ operands (tree t k) → All (λ j. j.0 < k.0) kids → after ≡ before ++ kids → Opens t f k before after
    opens-applied other plain kids terms below waiting = record {
      kids = kids;
      waiting = waiting;
      below = below;
      few = let n : length kids ≡ length (operands (tree t k)) = sym (length-map kids (tree_in t.trees)) ∙ ap length terms in omega (arith, n);
      same =
          applied-free (variable_of (tree t v)) (tree t k) plain (table.sorted k.0 node) (λ e. other (table.one_tree k.0 v.0 node there (e ∙ sym constant)))
          ∙ ap (list_any (λ w. is_among (free w) f)) (sym terms)
          ∙ any-trees t (λ w. is_among (free w) f) kids;
    }

    module _ (is : is_quantified (tree t k) ≡ true) where
      pub opens-binder : is_among (map constant_of (variables_of (tree t k))) f ≡ true → after ≡ before → Opens t f k before after
      opens-binder bound waiting = record {
        kids = [];
        waiting = waiting ∙ sym (append-nil before);
        below = λ i d lt. absurd (omega arith);
        few = omega arith;
        same = bound-none (variable_of (tree t v)) (tree t k) is bound;
      }

      pub opens-body : is_among (map constant_of (variables_of (tree t k))) f ≡ false → (body : NodeId) → body.0 < k.0 → tree t body ≡ body_in (tree t k) → after ≡ before ++ body ∷ [] → Opens t f k before after
      opens-body unbound body below term waiting = record {
        kids = body ∷ [];
        waiting = waiting;
        below = All-cons (λ (j : NodeId). j.0 < k.0) body [] below (λ i d lt. absurd (omega arith));
        few =
            let n : length (operands (tree t k)) ≡ length (map variable (variables_of (tree t k))) + 1 = ap length (quantified-operands (tree t k) is) ∙ length-append (map variable (variables_of (tree t k))) (body_in (tree t k) ∷ []) in
            omega (arith, n);
        same = bound-body (variable_of (tree t v)) (tree t k) is unbound ∙ ap (λ u. is_among (free u) f) (sym term) ∙ or-false (occurs_in t f body);
      }

-- ---- a search from turn to turn

all-front : {A : Type 0} (P : A → Type 0) (xs ys : List A) → All P (xs ++ ys) → All P xs
all-front P [] ys h = λ i d lt. absurd (omega arith)
all-front P (x ∷ xs) ys h = All-cons P x xs (All-head P x (xs ++ ys) h) (all-front P xs ys (All-tail P x (xs ++ ys) h))

all-last : {A : Type 0} (P : A → Type 0) (xs : List A) (y : A) → All P (xs ++ y ∷ []) → P y
all-last P [] y h = All-head P y [] h
all-last P (x ∷ xs) y h = all-last P xs y (All-tail P x (xs ++ y ∷ []) h)

later-in : (ks ls : List NodeId) (j : NodeId) → has_node ls j ≡ true → has_node (ks ++ ls) j ≡ true
later-in ks ls j e = has_node-append ks ls j ∙ right_true (has_node ks j) (has_node ls j) e

apart-in : (ks : List NodeId) (k j : NodeId) → j.0 ≢ k.0 → has_node (ks ++ k ∷ []) j ≡ has_node ks j
apart-in ks k j apart = alike_from (has_node (ks ++ k ∷ []) j) (has_node ks j) (λ e. elim (in-last ks k j e) [ inl before ↦ before | inr same ↦ absurd (apart same) ]) (λ e. earlier-in ks (k ∷ []) j e)

module _ (t : Formulas) (f : Symbol) where
  same-occurs : (j k : NodeId) → j.0 ≡ k.0 → occurs_in t f j ≡ true → occurs_in t f k ≡ true
  same-occurs j k same e = subst (λ (n : ℕ). occurs_in t f (record { 0 = n }) ≡ true) same e

  record Found (ks : List NodeId) : Type 0 where
    node : NodeId
    among : has_node ks node ≡ true
    occurs : occurs_in t f node ≡ true

  any-found : (ks : List NodeId) → list_any (occurs_in t f) ks ≡ true → Found ks
  any-found [] e = absurd cc
  any-found (k ∷ ks) e = elim (either_true (occurs_in t f k) (list_any (occurs_in t f) ks) e) [
    | inl here ↦ record { node = k; among = left_true (k.0 == k.0) (has_node ks k) (number-same k.0 k.0 refl); occurs = here }
    | inr behind ↦
        let r = any-found ks behind in
        record { node = r.node; among = right_true (r.node.0 == k.0) (has_node ks r.node) r.among; occurs = r.occurs }
  ]

  any-at : (ks : List NodeId) (j : NodeId) → has_node ks j ≡ true → occurs_in t f j ≡ true → list_any (occurs_in t f) ks ≡ true
  any-at [] j among e = absurd cc
  any-at (k ∷ ks) j among e = elim (either_true (j.0 == k.0) (has_node ks j) among) [
    | inl here ↦ left_true (occurs_in t f k) (list_any (occurs_in t f) ks) (same-occurs j k (same-number j.0 k.0 here) e)
    | inr behind ↦ right_true (occurs_in t f k) (list_any (occurs_in t f) ks) (any-at ks j behind e)
  ]

  among-below : (ks : List NodeId) (n : ℕ) → All (λ j. j.0 < n) ks → (k : NodeId) → has_node ks k ≡ true → k.0 < n
  among-below [] n below k e = absurd cc
  among-below (j ∷ ks) n below k e = elim (either_true (k.0 == j.0) (has_node ks k) e) [
    | inl here ↦ (let same = same-number k.0 j.0 here in let lt = All-head (λ (i : NodeId). i.0 < n) j ks below in omega arith)
    | inr behind ↦ among-below ks n (All-tail (λ (i : NodeId). i.0 < n) j ks below) k behind
  ]

  module _ (root k : NodeId) (rest met : List NodeId) (h : Searches t f root (rest ++ k ∷ []) met) where
    pub searches-node : IsNode t k
    searches-node = all-last (IsNode t) rest k h.nodes

    -- it was met before
    module _ (was : has_node met k ≡ true) where
      stays : (j : NodeId) → Awaits t f (rest ++ k ∷ []) met j → Awaits t f rest met j
      stays j a = elim (in-last rest k a.node a.waits) [
        | inl before ↦ record { node = a.node; waits = before; unmet = a.unmet; low = a.low; occurs = a.occurs }
        | inr same ↦ contrary (has_node met a.node) (subst (λ (n : ℕ). has_node met (record { 0 = n }) ≡ true) (sym same) was) a.unmet
      ]

      pub searches-past : Searches t f root rest met
      searches-past = record {
        nodes = all-front (IsNode t) rest (k ∷ []) h.nodes;
        reached = λ j waits e. h.reached j (earlier-in rest (k ∷ []) j waits) e;
        whole = λ e. stays root (h.whole e);
        covered = λ j m e. stays j (h.covered j m e);
      }

    -- it is met now
    module _ (node : IsNode t k) (unmet : has_node met k ≡ false) (after : List NodeId) (o : Opens t f k rest after) where
      kept : (i j : NodeId) (a : Awaits t f (rest ++ k ∷ []) met i) → (a.node.0 ≡ k.0 → ⊥) → a.node.0 ≤ j.0 → Awaits t f (rest ++ o.kids) (met ++ k ∷ []) j
      kept i j a apart low = record {
        node = a.node;
        waits = elim (in-last rest k a.node a.waits) [ inl before ↦ earlier-in rest o.kids a.node before | inr same ↦ absurd (apart same) ];
        unmet = apart-in met k a.node apart ∙ a.unmet;
        low = low;
        occurs = a.occurs;
      }

      below : (j : NodeId) → k.0 ≤ j.0 → occurs_in t f k ≡ true → Awaits t f (rest ++ o.kids) (met ++ k ∷ []) j
      below j le e =
          let kid = any-found o.kids (sym o.same ∙ e) in
          let lt : kid.node.0 < k.0 = among-below o.kids k.0 o.below kid.node kid.among in
          elim (true_or_false (has_node met kid.node)) [
            | inl was ↦
                let a = h.covered kid.node was kid.occurs in
                let low = a.low in
                kept kid.node j a (λ same. omega arith) (omega arith)
            | inr new ↦ record {
              node = kid.node;
              waits = later-in rest o.kids kid.node kid.among;
              unmet = apart-in met k kid.node (λ same. omega arith) ∙ new;
              low = omega arith;
              occurs = kid.occurs;
            }
          ]

      moves : (j : NodeId) → Awaits t f (rest ++ k ∷ []) met j → Awaits t f (rest ++ o.kids) (met ++ k ∷ []) j
      moves j a = elim (eqb_tells a.node.0 k.0) [
        | inl same ↦ (let equal = same.1 in let low = a.low in below j (omega arith) (same-occurs a.node k same.1 a.occurs))
        | inr apart ↦ kept j j a apart.1 a.low
      ]

      kids-nodes : AreNodes t o.kids
      kids-nodes i d lt = let b = o.below i d lt in omega arith

      turned : Searches t f root (rest ++ o.kids) (met ++ k ∷ [])
      turned = record {
        nodes = All-append (IsNode t) rest o.kids (all-front (IsNode t) rest (k ∷ []) h.nodes) kids-nodes;
        reached = λ j waits e. elim (either_true (has_node rest j) (has_node o.kids j) (sym (has_node-append rest o.kids j) ∙ waits)) [
          | inl before ↦ h.reached j (earlier-in rest (k ∷ []) j before) e
          | inr kid ↦ h.reached k (last-in rest k k refl) (o.same ∙ any-at o.kids j kid e)
        ];
        whole = λ e. moves root (h.whole e);
        covered = λ j m e. elim (in-last met k j m) [
          | inl before ↦ moves j (h.covered j before e)
          | inr same ↦ below j (omega arith) (same-occurs j k same e)
        ];
      }

      pub searches-on : Searches t f root after (met ++ k ∷ [])
      searches-on = subst (λ (ks : List NodeId). Searches t f root ks (met ++ k ∷ [])) (sym o.waiting) turned

  pub searches-nearer : (k : NodeId) (rest after met : List NodeId) → has_node met k ≡ false → Opens t f k rest after → (n : ℕ) → k.0 < n → work_left t (met ++ k ∷ []) n + length after ≤ work_left t met n + length rest
  searches-nearer k rest after met unmet o n lt =
      let more = left_more t met k n lt unmet in
      let long : length after ≡ length rest + length o.kids = ap length o.waiting ∙ length-append rest o.kids in
      let few = o.few in
      omega (arith, more, long, few)

  pub searches-begun : (root : NodeId) → IsNode t root → Searches t f root (root ∷ []) []
  searches-begun root node = record {
    nodes = All-cons (IsNode t) root [] node (λ i d lt. absurd (omega arith));
    reached = λ k waits e. elim (in-last [] root k waits) [ inl never ↦ absurd cc | inr same ↦ same-occurs k root same e ];
    whole = λ e. record { node = root; waits = last-in [] root root refl; unmet = refl; low = omega arith; occurs = e };
    covered = λ k m e. absurd cc;
  }

  pub searches-over : (root : NodeId) (met : List NodeId) → Searches t f root [] met → occurs_in t f root ≡ false
  searches-over root met h = elim (true_or_false (occurs_in t f root)) [
    | inl e ↦ absurd (let waits = (h.whole e).waits in cc)
    | inr none_there ↦ none_there
  ]

-- the variable's own node
pub searches-found : (t : Formulas) (v root k : NodeId) (rest met : List NodeId) → tree t v ≡ variable (variable_of (tree t v)) → Searches t (constant_of (variable_of (tree t v))) root (rest ++ k ∷ []) met → k.0 ≡ v.0 → occurs_in t (constant_of (variable_of (tree t v))) root ≡ true
searches-found t v root k rest met constant h same =
    let f = constant_of (variable_of (tree t v)) in
    let own : occurs_in t f v ≡ true = ap (λ u. is_among (free u) f) constant ∙ variable-free (variable_of (tree t v)) in
    h.reached k (last-in rest k k refl) (same-occurs t f v k (sym same) own)
