-- One formula in the place of another, from terms to nodes.
use Rattle.std.proofs.Common.{◌≡◌, ℕ, zero, suc, ◌+◌, ◌<◌, inl, inr, ◌==◌, Bool, true, false, if◌then◌else◌, List, [], ◌∷◌, ◌++◌, length, map, get_or, take, All, Option, Some, None, unwrap_or, refl, ap, sym, ◌∙◌, subst, arith}
use Rattle.std.proofs.lemmas.List.{get_or-map, length-map}
use Rattle.std.proofs.lemmas.List.Elements.{All-push}
use Rattle.std.proofs.lemmas.Bool.Decides.{eqb_tells}
use Rattle.smt_terms.specs.declared.ids.NodeId.{NodeId}
use Rattle.smt_terms.specs.declared.op.Op.{Op}
use Rattle.smt_terms.specs.declared.op.Op.TheVariants.{Whole}
use Rattle.smt_terms.specs.Connectives.{Kind, conjunction, disjunction, operator_kind, kind_of}
use Rattle.smt_terms.specs.Equal.{term_eq}
use Rattle.smt_terms.specs.Groups.{has_term}
use Rattle.smt_terms.specs.Rank.{sort_of, is_whole}
use Rattle.smt_terms.specs.Sorts.{Sort}
use Rattle.smt_terms.specs.Term.{Head, op, symbol, const_array, Term, apply, quantified, Terms, none, ◌⨾◌, list, terms}
use Rattle.smt_terms.proofs.Equal.{Decides-term_eq}
use Rattle.term_table.specs.Formulas.{Formulas, no_tree, tree, tree_in, trees_at, operands, IsNode, AreNodes, IsTable}
use Rattle.term_walk.specs.FreeLists.{has_node, with_node}
use Rattle.term_walk.specs.Walking.{GrowsTo}
use Rattle.term_walk.proofs.Members.{has-at}
use Rattle.normal_forms.specs.Nodes.{IsFormula, formula_stays}
use Rattle.normal_forms.specs.Prenex.{through, leftmost, leftmost_of, through_or, by_if, replaced, replaced_each}
use Rattle.term_walk.specs.Binders.{is_quantified}
use Rattle.normal_forms.proofs.Replaced.{replaced-sort}
use Rattle.quantifier_forms.specs.declared.exchanging.Exchange.{Exchange}
use Rattle.quantifier_forms.specs.Exchanging.{IsExchange, IsExchanged, AreExchanged, AreOperandsExchanged}
use Rattle.quantifier_forms.specs.Memos.{Results, result_in, known_in, Sets}
use Rattle.quantifier_forms.specs.Reaching.{is_joint, is_junction, IsBare, AreBare, AreReached}
use Rattle.quantifier_forms.specs.Rebuilding.{with_operands, is_number, IsLike, AreLike}
use Rattle.quantifier_forms.proofs.Rebuilt.{formula-number}
use Rattle.quantifier_forms.proofs.Reached.{none-both, at-bare}
use Rattle.quantifier_forms.proofs.Stands.{same-number, number-same}
use Rattle.quantifier_forms.proofs.Sweeps.{tree-stays, node-stays, at-number, taken-at, known-map, known-nodes, known-like}

-- ---- terms

unreached-over : (k : Kind) (h : Head) (ts us : Terms) → through k (leftmost_of ts) ≡ None → (leftmost_of ts ≡ None → us ≡ ts) → through_or k h ts us ≡ apply h ts
unreached-over conjunction h ts us e below = ap (apply h) (below e)
unreached-over disjunction h ts us e below = ap (apply h) (below e)
unreached-over _ h ts us e below = refl

-- where no quantified formula is reached, all stays as it is
mutual
  pub unreached : (f by t : Term) → leftmost t ≡ None → replaced f by t ≡ t
  unreached f by (apply h ts) e = unreached-over (kind_of h ts) h ts (replaced_each f by ts) e (unreached-each f by ts)
  unreached f by (quantified q xs body) e = absurd cc

  unreached-each : (f by : Term) (ts : Terms) → leftmost_of ts ≡ None → replaced_each f by ts ≡ ts
  unreached-each f by none e = refl
  unreached-each f by (t ⨾ ts) e =
      let parts = none-both (leftmost t) (leftmost_of ts) e in
      λ i. unreached f by t parts.0 i ⨾ unreached-each f by ts parts.1 i

each-map : (f by : Term) (ts : Terms) → terms (map (replaced f by) (list ts)) ≡ replaced_each f by ts
each-map f by none = refl
each-map f by (t ⨾ ts) = ap (λ us. replaced f by t ⨾ us) (each-map f by ts)

joint-over : (k : Kind) (h : Head) (ts us : Terms) → is_joint k ≡ true → through_or k h ts us ≡ apply h us
joint-over conjunction h ts us e = refl
joint-over disjunction h ts us e = refl
joint-over _ h ts us e = absurd cc

-- an `and` or an `or` is put together again
pub replaced-junction : (f by u : Term) → is_junction u ≡ true → replaced f by u ≡ with_operands u (map (replaced f by) (operands u))
replaced-junction f by (apply h ts) e = joint-over (kind_of h ts) h ts (replaced_each f by ts) e ∙ ap (apply h) (sym (each-map f by ts))
replaced-junction f by (quantified q xs body) e = absurd cc

pub replaced-itself : (f by : Term) → is_quantified f ≡ true → replaced f by f ≡ by
replaced-itself (quantified q xs body) by is = ap (λ b. by_if b by (quantified q xs body)) ((Decides-term_eq (quantified q xs body) (quantified q xs body)).1 refl)
replaced-itself (apply h ts) by is = absurd cc

pub replaced-other : (f by u : Term) → is_quantified u ≡ true → term_eq f u ≡ false → replaced f by u ≡ u
replaced-other f by (quantified q xs body) is e = ap (λ b. by_if b by (quantified q xs body)) e
replaced-other f by (apply h ts) is e = absurd cc

-- ---- no integer constant comes or goes

joint-whole : (p : Op) (ss : Option (List Sort)) → is_joint (operator_kind p ss) ≡ true → is_whole p ≡ false
unfolding operator_kind is_whole
joint-whole (Whole n) ss e = absurd cc
joint-whole _ ss e = refl

joint-number : (h : Head) (ts us : Terms) → is_joint (kind_of h ts) ≡ true → is_number (apply h us) ≡ false
joint-number (op p) ts none e = joint-whole p _ e
joint-number (op p) ts (u ⨾ us) e = refl
joint-number (symbol f) ts us e = refl
joint-number (const_array s) ts us e = refl

over-number : (k : Kind) (h : Head) (ts us : Terms) → kind_of h ts ≡ k → is_number (through_or k h ts us) ≡ is_number (apply h ts)
over-number conjunction h ts us is = joint-number h ts us (ap is_joint is) ∙ sym (joint-number h ts ts (ap is_joint is))
over-number disjunction h ts us is = joint-number h ts us (ap is_joint is) ∙ sym (joint-number h ts ts (ap is_joint is))
over-number _ h ts us is = refl

by-number : (b : Bool) (by t : Term) → is_number by ≡ false → is_number t ≡ false → is_number (by_if b by t) ≡ is_number t
by-number true by t e f = e ∙ sym f
by-number false by t e f = refl

pub replaced-number : (f by t : Term) → is_number by ≡ false → is_number (replaced f by t) ≡ is_number t
replaced-number f by (apply h ts) e = over-number (kind_of h ts) h ts (replaced_each f by ts) refl
replaced-number f by (quantified q xs body) e = by-number (term_eq f (quantified q xs body)) by (quantified q xs body) e refl

-- ---- nodes

pub exchange-stays : (old new : Formulas) (e : Exchange) → GrowsTo old new → IsExchange old e → IsExchange new e
exchange-stays old new e grows is = record {
  from = record { formula = formula_stays old new e.from grows is.from.formula; quantified = ap is_quantified (tree-stays old new e.from grows is.from.formula.node) ∙ is.from.quantified };
  to = formula_stays old new e.to grows is.to;
}

pub exchanged-stays : (old new : Formulas) (e : Exchange) (k r : NodeId) → GrowsTo old new → IsExchange old e → IsExchanged old e k r → IsExchanged new e k r
exchanged-stays old new e k r grows is h = record {
  node = node-stays old new k grows h.node;
  result = node-stays old new r grows h.result;
  term = tree-stays old new r grows h.result ∙ h.term
      ∙ (λ i. replaced (sym (tree-stays old new e.from grows is.from.formula.node) i) (sym (tree-stays old new e.to grows is.to.node) i) (sym (tree-stays old new k grows h.node) i));
}

pub bare-stay : (old new : Formulas) (bs : List NodeId) → GrowsTo old new → AreBare old bs → AreBare new bs
bare-stay old new bs grows are i d lt =
    let b = are i d lt in
    record { node = node-stays old new (get_or bs i d) grows b.node; none_reached = ap leftmost (tree-stays old new (get_or bs i d) grows b.node) ∙ b.none_reached }

pub noted-bare : (t : Formulas) (bs new : List NodeId) (k : NodeId) → AreBare t bs → IsBare t k → new ≡ with_node bs k → AreBare t new
noted-bare t bs new k are one same = subst (AreBare t) (sym same) (by (has_node bs k))
  where
    by : (b : Bool) → AreBare t (if◌then◌else◌ {A = List NodeId} b bs (bs ++ k ∷ []))
    by true = are
    by false = All-push (IsBare t) bs k are one

pub bare-exchanged : (t : Formulas) (e : Exchange) (k : NodeId) → IsBare t k → IsExchanged t e k k
bare-exchanged t e k b = record { node = b.node; result = b.node; term = sym (unreached (tree t e.from) (tree t e.to) (tree t k) b.none_reached) }

pub exchanged-formula : (t : Formulas) (e : Exchange) (k r : NodeId) → IsExchange t e → IsExchanged t e k r → IsFormula t k → IsFormula t r
exchanged-formula t e k r is h formula = record { node = h.result; sort = ap sort_of h.term ∙ replaced-sort (tree t e.from) (tree t e.to) (tree t k) (is.to.sort ∙ sym is.from.formula.sort) ∙ formula.sort }

module _ (t : Formulas) (e : Exchange) (table : IsTable t) (is : IsExchange t e) where
  pub exchanged-like : (k r : NodeId) → IsExchanged t e k r → IsLike (tree t k) (tree t r)
  exchanged-like k r h = record {
    sort = ap sort_of h.term ∙ replaced-sort (tree t e.from) (tree t e.to) (tree t k) (is.to.sort ∙ sym is.from.formula.sort);
    number = ap is_number h.term ∙ replaced-number (tree t e.from) (tree t e.to) (tree t k) (formula-number (tree t e.to) is.to.sort);
  }

  -- the quantified formula itself
  pub from-exchanged : (k : NodeId) → k.0 ≡ e.from.0 → IsExchanged t e k e.to
  from-exchanged k same =
      let key : e.from ≡ k = λ i. record { 0 = sym same i } in
      subst (λ (x : NodeId). IsExchanged t e x e.to) key (record { node = is.from.formula.node; result = is.to.node; term = sym (replaced-itself (tree t e.from) (tree t e.to) is.from.quantified) })

  -- another one
  pub other-exchanged : (k : NodeId) → IsNode t k → is_quantified (tree t k) ≡ true → (k.0 ≡ e.from.0 → ⊥) → IsExchanged t e k k
  other-exchanged k node quant apart = record { node = node; result = node; term = sym (replaced-other (tree t e.from) (tree t e.to) (tree t k) quant (by (term_eq (tree t e.from) (tree t k)) refl)) }
    where
      by : (b : Bool) → term_eq (tree t e.from) (tree t k) ≡ b → b ≡ false
      by false f = refl
      by true f = absurd (apart (table.one_tree k.0 e.from.0 node is.from.formula.node (sym ((Decides-term_eq (tree t e.from) (tree t k)).0 f))))

  -- the operands of an `and` or an `or` have results
  module _ (m : Results) (id : NodeId) (ks : List NodeId) (joint : is_junction (tree t id) ≡ true) (ready : AreOperandsExchanged t e m id) (same : trees_at t ks ≡ operands (tree t id)) (below : All (λ k. k.0 < id.0) ks) where
    each-operand : (i : ℕ) (d : NodeId) → i < length ks → IsExchanged t e (get_or ks i d) (known_in m 0 (get_or ks i d))
    each-operand i d lt =
        let n = length-map ks (tree_in t.trees) in
        let at : get_or (trees_at t ks) i no_tree ≡ tree t (get_or ks i d) = get_or-map (tree_in t.trees) ks i d no_tree lt in
        let there : has_term (trees_at t ks) (get_or (trees_at t ks) i no_tree) ≡ true = has-at (trees_at t ks) i no_tree (omega (arith, n)) in
        ready joint (get_or ks i d) (below i d lt) (ap (λ us. has_term us (tree t (get_or ks i d))) (sym same) ∙ ap (has_term (trees_at t ks)) (sym at) ∙ there)

    pub operand-nodes : AreNodes t (map (known_in m 0) ks)
    operand-nodes = known-nodes t m 0 ks (λ i d lt. (each-operand i d lt).result)

    pub operands-like : AreLike (operands (tree t id)) (trees_at t (map (known_in m 0) ks))
    operands-like = subst (λ (us : List Term). AreLike us (trees_at t (map (known_in m 0) ks))) same (known-like t m 0 ks (λ i d lt. exchanged-like (get_or ks i d) (known_in m 0 (get_or ks i d)) (each-operand i d lt)))

    pub junction-exchanged : (new : Formulas) (r : NodeId) → GrowsTo t new → IsNode t id → IsNode new r → tree new r ≡ with_operands (tree t id) (trees_at t (map (known_in m 0) ks)) → IsExchanged new e id r
    junction-exchanged new r grows node result made = record {
      node = node-stays t new id grows node;
      result = result;
      term =
          made
          ∙ ap (with_operands (tree t id)) (known-map t m 0 ks (replaced (tree t e.from) (tree t e.to)) (λ i d lt. (each-operand i d lt).term) ∙ ap (map (replaced (tree t e.from) (tree t e.to))) same)
          ∙ sym (replaced-junction (tree t e.from) (tree t e.to) (tree t id) joint)
          ∙ (λ i. replaced (sym (tree-stays t new e.from grows is.from.formula.node) i) (sym (tree-stays t new e.to grows is.to.node) i) (sym (tree-stays t new id grows node) i));
    }

-- ---- one result more

pub known-exchanged : (t : Formulas) (e : Exchange) (m : Results) (k : NodeId) → AreExchanged t e m → IsExchanged t e k k → IsExchanged t e k (known_in m 0 k)
known-exchanged t e m k are itself = by (result_in m 0 k) refl
  where
    by : (o : Option NodeId) → result_in m 0 k ≡ o → IsExchanged t e k (known_in m 0 k)
    by (Some r) f = subst (λ (x : NodeId). IsExchanged t e k x) (sym (ap (λ q. unwrap_or q k) f)) (are k r f)
    by None f = subst (λ (x : NodeId). IsExchanged t e k x) (sym (ap (λ q. unwrap_or q k) f)) itself

pub sets-exchanged : (old new : Formulas) (e : Exchange) (m0 m1 : Results) (k r : NodeId) → GrowsTo old new → IsExchange old e → AreExchanged old e m0 → IsExchanged new e k r → Sets m0 m1 0 k r → AreExchanged new e m1
sets-exchanged old new e m0 m1 k r grows is are one sets j s f = by (j.0 == k.0) refl
  where
    by : (b : Bool) → (j.0 == k.0) ≡ b → IsExchanged new e j s
    by true g =
        let number = same-number j.0 k.0 g in
        let found : Some r ≡ Some s = sym (sets.here j number) ∙ f in
        let value : r ≡ s = cc in
        let key : k ≡ j = λ i. record { 0 = sym number i } in
        subst (λ (x : NodeId). IsExchanged new e x s) key (subst (λ (x : NodeId). IsExchanged new e k x) value one)
    by false g = exchanged-stays old new e j s grows is (are j s (sym (sets.others 0 j (λ w same. let yes : (j.0 == k.0) ≡ true = number-same j.0 k.0 same in absurd cc)) ∙ f))

pub set-known : (t : Formulas) (e : Exchange) (m0 m1 : Results) (k r : NodeId) → IsExchanged t e k r → Sets m0 m1 0 k r → IsExchanged t e k (known_in m1 0 k)
set-known t e m0 m1 k r one sets = subst (λ (x : NodeId). IsExchanged t e k x) (sym (ap (λ q. unwrap_or q k) (sets.here k refl))) one

pub same-known : (t : Formulas) (e : Exchange) (m : Results) (k r : NodeId) → AreExchanged t e m → IsExchanged t e k r → r.0 ≡ k.0 → IsExchanged t e k (known_in m 0 k)
same-known t e m k r are one same =
    known-exchanged t e m k are (let key : r ≡ k = (λ i. record { 0 = same i }) in subst (λ (x : NodeId). IsExchanged t e k x) key one)

pub exchanged-all-stay : (old new : Formulas) (e : Exchange) (m : Results) → GrowsTo old new → IsExchange old e → AreExchanged old e m → AreExchanged new e m
exchanged-all-stay old new e m grows is are k r f = exchanged-stays old new e k r grows is (are k r f)

-- ---- from turn to turn

-- the first n of these nodes are settled
abbrev pub AreSettled : Formulas → Exchange → Results → List NodeId → ℕ → Type 0
AreSettled t e m ks n = (i : ℕ) (d : NodeId) → i < n → i < length ks → IsExchanged t e (get_or ks i d) (known_in m 0 (get_or ks i d))

pub settled-more : (old new : Formulas) (e : Exchange) (m0 m1 : Results) (ks : List NodeId) (n : ℕ) (d : NodeId) → GrowsTo old new → IsExchange old e → AreSettled old e m0 ks n → n < length ks
    → IsExchanged new e (get_or ks n d) (known_in m1 0 (get_or ks n d)) → ((k : NodeId) → (k.0 ≡ (get_or ks n d).0 → ⊥) → result_in m1 0 k ≡ result_in m0 0 k) → AreSettled new e m1 ks (n + 1)
settled-more old new e m0 m1 ks n d grows is settled within one others i c lt inside = elim (eqb_tells (get_or ks i c).0 (get_or ks n d).0) [
  | inl same ↦ (let key : get_or ks n d ≡ get_or ks i c = (λ j. record { 0 = sym same.1 j }) in subst (λ (x : NodeId). IsExchanged new e x (known_in m1 0 x)) key one)
  | inr apart ↦
      let k = get_or ks i c in
      subst (λ (x : NodeId). IsExchanged new e k x) (sym (ap (λ q. unwrap_or q k) (others k (λ f. apart.1 f))))
      (exchanged-stays old new e k (known_in m0 0 k) grows is (settled i c (earlier apart.1) inside))
]
  where
    earlier : ((get_or ks i c).0 ≡ (get_or ks n d).0 → ⊥) → i < n
    earlier differ = elim (eqb_tells i n) [
      | inl same ↦ absurd (differ (ap (λ (x : NodeId). x.0) (ap (λ j. get_or ks j c) same.1 ∙ at-default ks n within)))
      | inr apart ↦ (let a = apart.1 in omega arith)
    ]
      where
        at-default : (js : List NodeId) (j : ℕ) → j < length js → get_or js j c ≡ get_or js j d
        at-default [] j l = absurd (omega arith)
        at-default (x ∷ js) zero l = refl
        at-default (x ∷ js) (suc j) l = at-default js j (omega arith)

module _ (t0 t1 : Formulas) (e : Exchange) (m : Results) (bs ks : List NodeId) (root : NodeId) (grows : GrowsTo t0 t1) (bare : AreBare t0 bs) (order : AreReached t0 bs root ks) (are : AreExchanged t1 e m) where
  bare-known : (k : NodeId) → has_node bs k ≡ true → IsExchanged t1 e k (known_in m 0 k)
  bare-known k had =
      let b = at-bare t0 bs k bare had in
      let now : IsBare t1 k = record { node = node-stays t0 t1 k grows b.node; none_reached = ap leftmost (tree-stays t0 t1 k grows b.node) ∙ b.none_reached } in
      known-exchanged t1 e m k are (bare-exchanged t1 e k now)

  among-known : (n : ℕ) (k : NodeId) → AreSettled t1 e m ks n → has_node (take n ks) k ≡ true → IsExchanged t1 e k (known_in m 0 k)
  among-known n k settled had =
      let place = at-number (take n ks) k had in
      let at = taken-at n ks place.0 k place.1 in
      let same : (get_or ks place.0 k).0 ≡ k.0 = ap (λ (j : NodeId). j.0) (sym at.1) ∙ place.2 k in
      let key : get_or ks place.0 k ≡ k = λ i. record { 0 = same i } in
      subst (λ (x : NodeId). IsExchanged t1 e x (known_in m 0 x)) key (settled place.0 k at.0 (within n ks place.0 place.1))
    where
      within : (i : ℕ) (js : List NodeId) (j : ℕ) → j < length (take i js) → j < length js
      within zero js j lt = absurd (omega arith)
      within (suc i) [] j lt = absurd (omega arith)
      within (suc i) (x ∷ js) zero lt = omega arith
      within (suc i) (x ∷ js) (suc j) lt = let r = within i js j (omega arith) in omega arith

  pub ready-next : (n : ℕ) (d : NodeId) → n < length ks → AreSettled t1 e m ks n → AreOperandsExchanged t1 e m (get_or ks n d)
  ready-next n d lt settled joint k below there =
      let id = get_or ks n d in
      let here : IsNode t0 id = order.nodes n d lt in
      let node : IsNode t0 k = omega arith in
      let own = tree-stays t0 t1 id grows here in
      let terms_same : has_term (operands (tree t0 id)) (tree t0 k) ≡ true = (λ i. has_term (operands (sym own i)) (sym (tree-stays t0 t1 k grows node) i)) ∙ there in
      elim (order.each n d k lt (ap is_junction (sym own) ∙ joint) below terms_same) [ inl had ↦ bare-known k had | inr before ↦ among-known n k settled before ]

  pub root-exchanged : AreSettled t1 e m ks (length ks) → IsExchanged t1 e root (known_in m 0 root)
  root-exchanged settled = elim order.root_too [
    | inl had ↦ bare-known root had
    | inr there ↦
        let place = at-number ks root there in
        let key : get_or ks place.0 root ≡ root = λ i. record { 0 = place.2 root i } in
        subst (λ (x : NodeId). IsExchanged t1 e x (known_in m 0 x)) key (settled place.0 root place.1 place.1)
  ]
