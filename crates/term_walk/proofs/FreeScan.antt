-- A node is taken off those that wait.
use Rattle.std.proofs.Common.{◌≡◌, ◌≢◌, ℕ, zero, suc, ◌+◌, ◌<◌, ◌≤◌, ◌⊎◌, inl, inr, Bool, true, false, not, cond, ◌||◌, ◌==◌, nat_lt, if◌then◌else◌, drop, length-append, reverse, take, filter, is_some, None, Some, Vec, Global, List, [], ◌∷◌, ◌++◌, length, map, get_or, All, refl, ap, sym, ◌∙◌, subst, arith}
use Rattle.std.specs.List.{list_any}
use Rattle.std.proofs.lemmas.List.{map-append, get_or-map, length-map, drop_more, reverse-append, take_more}
use Rattle.std.proofs.lemmas.List.Elements.{All-head, All-tail, All-append, filter-append}
use Rattle.std.proofs.lemmas.Bool.{lt-ltb, ltb-true}
use Rattle.std.proofs.lemmas.Bool.Decides.{eqb_tells}
use Rattle.smt_terms.specs.declared.ids.NodeId.{NodeId}
use Rattle.smt_terms.specs.declared.ids.SymId.{SymId}
use Rattle.smt_terms.specs.Free.{is_among, with_more, head_symbols, free, free_of}
use Rattle.smt_terms.specs.Equal.{symbol_eq}
use Rattle.smt_terms.specs.Sorts.{Symbol, Variable}
use Rattle.smt_terms.proofs.Equal.{Decides-symbol_eq}
use Rattle.smt_terms.specs.Term.{Term, apply, quantified, terms, variable, constant_of}
use Rattle.smt_terms.proofs.Among.{is_among-with_more}
use Rattle.smt_terms.proofs.Tests.{either_true, left_true, right_true, true_or_false}
use Rattle.term_table.specs.Formulas.{Formulas, no_tree, no_symbol, symbol_at, IsTable, tree_in, tree, trees_at, operands, IsNode, AreNodes, IsSymbol}
use Rattle.term_walk.specs.FreeLists.{own_symbols, has_own, AreFree, EachOnce, Opens, HaveLists, IsReached, named, frees, has_node, with_node, operands_left, first_below, AreAmong, Lists}
use Rattle.term_walk.specs.Binders.{is_quantified}
use Rattle.term_walk.specs.declared.kept.Place.{Place}
use Rattle.term_walk.specs.Places.{result_at, Puts}
use Rattle.term_walk.specs.Marks.{is_marked, AreMarkedFrom}
use Rattle.term_walk.proofs.SymbolLists.{with_more-same, with_more-grouped, free_of-append, first-among, second-among, either-among, with_more-none, append-none, more-first, once-free, terms-list, filter-alike}

-- ---- nodes that were met

number_eq : (i j : ℕ) → (i == j) ≡ true → i ≡ j
number_eq i j e = elim (eqb_tells i j) [ inl same ↦ same.1 | inr apart ↦ absurd (let f = apart.0 in cc) ]

eq_number : (i : ℕ) → (i == i) ≡ true
eq_number i = elim (eqb_tells i i) [ inl same ↦ same.0 | inr apart ↦ absurd (apart.1 refl) ]

has_node-append : (ks ls : List NodeId) (k : NodeId) → has_node (ks ++ ls) k ≡ (has_node ks k || has_node ls k)
has_node-append [] ls k = refl
has_node-append (j ∷ ks) ls k = ap (λ b. k.0 == j.0 || b) (has_node-append ks ls k) ∙ or_grouped (k.0 == j.0) (has_node ks k) (has_node ls k)
  where
    or_grouped : (a b c : Bool) → (a || (b || c)) ≡ ((a || b) || c)
    or_grouped true b c = refl
    or_grouped false b c = refl

either_met : (ks : List NodeId) (k j : NodeId) → has_node (ks ++ k ∷ []) j ≡ true → (has_node ks j ≡ true) ⊎ (j.0 ≡ k.0)
either_met ks k j e = elim (either_true (has_node ks j) (has_node (k ∷ []) j) (sym (has_node-append ks (k ∷ []) j) ∙ e)) [
  | inl before ↦ inl before
  | inr last ↦ elim (either_true (j.0 == k.0) false last) [ inl same ↦ inr (number_eq j.0 k.0 same) | inr never ↦ absurd cc ]
]

met_node : (ks : List NodeId) (k j : NodeId) → j.0 ≡ k.0 → has_node (ks ++ k ∷ []) j ≡ true
met_node ks k j e = has_node-append ks (k ∷ []) j ∙ right_true (has_node ks j) (has_node (k ∷ []) j) (left_true (j.0 == k.0) false (subst (λ (n : ℕ). (j.0 == n) ≡ true) e (eq_number j.0)))

apart_node : (ks : List NodeId) (k j : NodeId) → j.0 ≢ k.0 → has_node (ks ++ k ∷ []) j ≡ has_node ks j
apart_node ks k j apart = has_node-append ks (k ∷ []) j ∙ by (j.0 == k.0) refl (has_node ks j)
  where
    by : (b : Bool) → (j.0 == k.0) ≡ b → (a : Bool) → (a || (b || false)) ≡ a
    by true e a = absurd (apart (number_eq j.0 k.0 e))
    by false e true = refl
    by false e false = refl

-- ---- the first nodes

below-true : (i n : ℕ) → i < n → nat_lt i n ≡ true
below-true i n lt = lt-ltb i n lt

below-false : (n : ℕ) → nat_lt n n ≡ false
below-false n = by (nat_lt n n) refl
  where
    by : (b : Bool) → nat_lt n n ≡ b → b ≡ false
    by true e = absurd (let lt = ltb-true n n e in omega arith)
    by false e = refl

is_below : (i n : ℕ) → nat_lt i n ≡ true → i < n
is_below i n e = ltb-true i n e

first_below-all : (n : ℕ) (ks js : List NodeId) → All (λ k. k.0 < n) ks → first_below n (ks ++ js) ≡ ks ++ first_below n js
first_below-all n [] js h = refl
first_below-all n (k ∷ ks) js h =
    let here : nat_lt k.0 n ≡ true = below-true k.0 n (All-head (λ (j : NodeId). j.0 < n) k ks h) in
    let rest = first_below-all n ks js (All-tail (λ (j : NodeId). j.0 < n) k ks h) in
    ap (λ b. cond b (k ∷ first_below n (ks ++ js)) []) here ∙ ap (λ ls. k ∷ ls) rest

frees-append : (t : Formulas) (ks js : List NodeId) → frees t (ks ++ js) ≡ with_more (frees t ks) (frees t js)
frees-append t ks js = ap (λ ts. free_of (terms ts)) (map-append (tree_in t.trees) ks js) ∙ free_of-append (trees_at t ks) (trees_at t js)

module _ (t : Formulas) (P : NodeId → Type 0) (fs : List Symbol) (k : NodeId) (js met : List NodeId) (cs : List SymId) (h : Lists t P fs (k ∷ js) met cs) where
  -- what a node that was met says, where the first node waits
  where_first : (j : NodeId) (f : Symbol) → has_node met j ≡ true → is_among (free (tree t j)) f ≡ true → (is_among (named t cs) f ≡ true) ⊎ ((nat_lt k.0 j.0 ≡ true) × ((is_among (free (tree t k)) f ≡ true) ⊎ (is_among (frees t (first_below j.0 js)) f ≡ true)))
  where_first j f m e = elim (either-among (named t cs) (frees t (first_below j.0 (k ∷ js))) f (h.covered j m f e)) [
    | inl listed ↦ inl listed
    | inr waits ↦ by (nat_lt k.0 j.0) refl waits
  ]
    where
      by : (b : Bool) → nat_lt k.0 j.0 ≡ b → is_among (frees t (cond b (k ∷ first_below j.0 js) [])) f ≡ true → (is_among (named t cs) f ≡ true) ⊎ ((nat_lt k.0 j.0 ≡ true) × ((is_among (free (tree t k)) f ≡ true) ⊎ (is_among (frees t (first_below j.0 js)) f ≡ true)))
      by true lt w = inr (lt, either-among (free (tree t k)) (frees t (first_below j.0 js)) f w)
      by false ge w = absurd cc

  -- ---- it was met before

  module _ (before : has_node met k ≡ true) where
    listed : AreAmong (free (tree t k)) (named t cs)
    listed f e = elim (where_first k f before e) [
      | inl named_already ↦ named_already
      | inr more ↦ let no = below-false k.0 in let lt = more.0 in absurd cc
    ]

    pub met-before : Lists t P fs js met cs
    met-before = record {
      nodes = All-tail (λ (j : NodeId). IsNode t j) k js h.nodes;
      reached = All-tail P k js h.reached;
      symbols = h.symbols;
      covered = λ j m f e. elim (where_first j f m e) [
        | inl already ↦ first-among (named t cs) (frees t (first_below j.0 js)) f already
        | inr more ↦ elim more.1 [
          | inl own ↦ first-among (named t cs) (frees t (first_below j.0 js)) f (listed f own)
          | inr waits ↦ second-among (named t cs) (frees t (first_below j.0 js)) f waits
        ]
      ];
      whole =
          ap (λ gs. with_more gs (frees t js)) (sym (with_more-same (named t cs) (free (tree t k)) listed))
          ∙ with_more-grouped (named t cs) (free (tree t k)) (frees t js)
          ∙ h.whole;
    }

  -- ---- it is met now: its own symbols are listed, and the kids wait

  module _ (own : List Symbol) (kids : List NodeId) (new : List SymId) (says : free (tree t k) ≡ with_more own (frees t kids)) (lists : named t new ≡ with_more (named t cs) own) (symbols : All (IsSymbol t) new) (below : All (λ j. j.0 < k.0) kids) (nodes : AreNodes t kids) (marked : All P kids) where
    stays : AreAmong (named t cs) (named t new)
    stays f e = subst (λ (gs : List Symbol). is_among gs f ≡ true) (sym lists) (first-among (named t cs) own f e)

    gains : AreAmong own (named t new)
    gains f e = subst (λ (gs : List Symbol). is_among gs f ≡ true) (sym lists) (second-among (named t cs) own f e)

    -- what the node says is listed, or waits before any node that isn't below n
    said : (n : ℕ) → k.0 ≤ n → (f : Symbol) → is_among (free (tree t k)) f ≡ true → is_among (with_more (named t new) (frees t (first_below n (kids ++ js)))) f ≡ true
    said n le f e =
        let all : first_below n (kids ++ js) ≡ kids ++ first_below n js = first_below-all n kids js (λ i d lt. let b = below i d lt in omega arith) in
        let parts : frees t (first_below n (kids ++ js)) ≡ with_more (frees t kids) (frees t (first_below n js)) = ap (frees t) all ∙ frees-append t kids (first_below n js) in
        elim (either-among own (frees t kids) f (subst (λ (gs : List Symbol). is_among gs f ≡ true) says e)) [
          | inl head ↦ first-among (named t new) (frees t (first_below n (kids ++ js))) f (gains f head)
          | inr tail ↦ second-among (named t new) (frees t (first_below n (kids ++ js))) f
              (subst (λ (gs : List Symbol). is_among gs f ≡ true) (sym parts) (first-among (frees t kids) (frees t (first_below n js)) f tail))
        ]

    later : (n : ℕ) → k.0 < n → (f : Symbol) → is_among (frees t (first_below n js)) f ≡ true → is_among (with_more (named t new) (frees t (first_below n (kids ++ js)))) f ≡ true
    later n lt f e =
        let all : first_below n (kids ++ js) ≡ kids ++ first_below n js = first_below-all n kids js (λ i d l. let b = below i d l in omega arith) in
        let parts : frees t (first_below n (kids ++ js)) ≡ with_more (frees t kids) (frees t (first_below n js)) = ap (frees t) all ∙ frees-append t kids (first_below n js) in
        second-among (named t new) (frees t (first_below n (kids ++ js))) f
        (subst (λ (gs : List Symbol). is_among gs f ≡ true) (sym parts) (second-among (frees t kids) (frees t (first_below n js)) f e))

    covers : (j : NodeId) → has_node (met ++ k ∷ []) j ≡ true → AreAmong (free (tree t j)) (with_more (named t new) (frees t (first_below j.0 (kids ++ js))))
    covers j m f e = elim (either_met met k j m) [
      | inl earlier ↦ elim (where_first j f earlier e) [
        | inl already ↦ first-among (named t new) (frees t (first_below j.0 (kids ++ js))) f (stays f already)
        | inr more ↦
            let lt : k.0 < j.0 = is_below k.0 j.0 more.0 in
            elim more.1 [
              | inl head ↦ said j.0 (omega arith) f head
              | inr waits ↦ later j.0 lt f waits
            ]
      ]
      | inr same ↦ said j.0 (omega arith) f (subst (λ (n : ℕ). is_among (free (get_or t.trees n no_tree)) f ≡ true) same e)
    ]

    pub met-now : Lists t P fs (kids ++ js) (met ++ k ∷ []) new
    met-now = record {
      nodes = All-append (λ (j : NodeId). IsNode t j) kids js nodes (All-tail (λ (j : NodeId). IsNode t j) k js h.nodes);
      reached = All-append P kids js marked (All-tail P k js h.reached);
      symbols = symbols;
      covered = covers;
      whole =
          (λ i. with_more (lists i) (frees-append t kids js i))
          ∙ with_more-grouped (named t cs) own (with_more (frees t kids) (frees t js))
          ∙ ap (with_more (named t cs)) (sym (with_more-grouped own (frees t kids) (frees t js)) ∙ ap (λ gs. with_more gs (frees t js)) (sym says))
          ∙ h.whole;
    }

-- ---- the listed symbols, by their numbers

same_number : (t : Formulas) → IsTable t → (g f : SymId) → IsSymbol t g → IsSymbol t f → ((f.0 == g.0) ≡ true) ⊎ ((f.0 == g.0) ≡ false) → (symbol_eq (symbol_at t g) (symbol_at t f) ≡ true) ⊎ (symbol_eq (symbol_at t g) (symbol_at t f) ≡ false) → symbol_eq (symbol_at t g) (symbol_at t f) ≡ (f.0 == g.0)
same_number t table g f h within (inl e) (inl d) = d ∙ sym e
same_number t table g f h within (inr e) (inr d) = d ∙ sym e
same_number t table g f h within (inl e) (inr d) =
    let same : symbol_at t g ≡ symbol_at t f = ap (λ n. get_or t.symbols n no_symbol) (sym (number_eq f.0 g.0 e)) in
    let told = (Decides-symbol_eq (symbol_at t g) (symbol_at t f)).1 same in
    absurd cc
same_number t table g f h within (inr e) (inl d) =
    let same : g.0 ≡ f.0 = table.one_symbol g.0 f.0 h within ((Decides-symbol_eq (symbol_at t g) (symbol_at t f)).0 d) in
    let told : (f.0 == g.0) ≡ true = subst (λ (n : ℕ). (f.0 == n) ≡ true) (sym same) (eq_number f.0) in
    absurd cc

among_number : (t : Formulas) → IsTable t → (fs : List SymId) (f : SymId) → All (IsSymbol t) fs → IsSymbol t f → is_among (named t fs) (symbol_at t f) ≡ list_any (λ g. f.0 == g.0) fs
among_number t table [] f h within = refl
among_number t table (g ∷ fs) f h within =
    let rest = among_number t table fs f (All-tail (IsSymbol t) g fs h) within in
    let here = same_number t table g f (All-head (IsSymbol t) g fs h) within (true_or_false (f.0 == g.0)) (true_or_false (symbol_eq (symbol_at t g) (symbol_at t f))) in
    λ i. here i || rest i

pub listed-one : (t : Formulas) → IsTable t → (fs : List SymId) (f : SymId) → All (IsSymbol t) fs → IsSymbol t f → named t (if list_any (λ g. f.0 == g.0) fs then fs else fs ++ f ∷ []) ≡ with_more (named t fs) (symbol_at t f ∷ [])
listed-one t table fs f h within =
    by (list_any (λ g. f.0 == g.0) fs)
    ∙ ap (λ b. named t fs ++ cond (not b) (symbol_at t f ∷ []) []) (sym (among_number t table fs f h within))
  where
    by : (b : Bool) → named t (if b then fs else fs ++ f ∷ []) ≡ named t fs ++ cond (not b) (symbol_at t f ∷ []) []
    by true = sym (append-none (named t fs))
    by false = map-append (symbol_at t) fs (f ∷ [])

pub symbols-one : (t : Formulas) (fs : List SymId) (f : SymId) → All (IsSymbol t) fs → IsSymbol t f → All (IsSymbol t) (if list_any (λ g. f.0 == g.0) fs then fs else fs ++ f ∷ [])
symbols-one t fs f h within = by (list_any (λ g. f.0 == g.0) fs)
  where
    one : All (IsSymbol t) (f ∷ [])
    one zero d lt = within
    one (suc i) d lt = absurd (omega arith)

    by : (b : Bool) → All (IsSymbol t) (if b then fs else fs ++ f ∷ [])
    by true = h
    by false = All-append (IsSymbol t) fs (f ∷ []) h one

once-drop : (t : Formulas) (fs : List SymId) (i : ℕ) → EachOnce (named t fs) → EachOnce (named t (drop i fs))
once-drop t fs zero h = h
once-drop t [] (suc i) h = h
once-drop t (f ∷ fs) (suc i) h = once-drop t fs i h.1

pub list-step : (t : Formulas) (old new fs : List SymId) (i : ℕ) (d : SymId) → i < length fs → EachOnce (named t fs) → named t new ≡ with_more (named t old) (symbol_at t (get_or fs i d) ∷ []) → with_more (named t new) (named t (drop (i + 1) fs)) ≡ with_more (named t old) (named t (drop i fs))
list-step t old new fs i d lt once lists =
    let split : drop i fs ≡ get_or fs i d ∷ drop (i + 1) fs = drop_more fs i d lt in
    ap (λ gs. with_more gs (named t (drop (i + 1) fs))) lists
    ∙ more-first (named t old) (named t (drop (i + 1) fs)) (symbol_at t (get_or fs i d)) (subst (λ (gs : List SymId). EachOnce (named t gs)) split (once-drop t fs i once))
    ∙ ap (λ gs. with_more (named t old) (named t gs)) (sym split)

drop-past : (fs : List SymId) (i : ℕ) → length fs ≤ i → drop i fs ≡ []
drop-past [] zero le = refl
drop-past [] (suc i) le = refl
drop-past (f ∷ fs) zero le = absurd (omega arith)
drop-past (f ∷ fs) (suc i) le = drop-past fs i (omega arith)

pub list-end : (t : Formulas) (listed fs : List SymId) (i : ℕ) → length fs ≤ i → with_more (named t listed) (named t (drop i fs)) ≡ named t listed
list-end t listed fs i le = ap (λ gs. with_more (named t listed) (named t gs)) (drop-past fs i le) ∙ append-none (named t listed)

-- ---- what a node says

pub says-applied : (t : Formulas) (u : Term) (kids : List NodeId) → is_quantified u ≡ false → trees_at t kids ≡ operands u → free u ≡ with_more (own_symbols u) (frees t kids)
says-applied t (apply h ts) kids e same =
    ap (with_more (head_symbols h)) (sym (ap (λ us. free_of (terms us)) same ∙ ap free_of (terms-list ts)))
says-applied t (quantified q xs body) kids e same = absurd cc

pub free-once : (t : Formulas) (u : Term) (fs : List SymId) → AreFree t u fs → EachOnce (named t fs)
free-once t u fs h = subst EachOnce (sym h.names) (once-free u)

pub opens-listed : (t : Formulas) (k : NodeId) (before : List NodeId) (old new fs : List SymId) → AreFree t (tree t k) fs → named t new ≡ with_more (named t old) (named t fs) → All (IsSymbol t) new → Opens t k before before old new
opens-listed t k before old new fs h lists symbols = record {
  own = free (tree t k);
  kids = [];
  waiting = refl;
  names = lists ∙ ap (with_more (named t old)) h.names;
  symbols = symbols;
  says = sym (append-none (free (tree t k)));
  nodes = λ i d lt. absurd (omega arith);
  below = λ i d lt. absurd (omega arith);
  operands = inl refl;
}

pub opens-applied : (t : Formulas) (k : NodeId) (before after : List NodeId) (old new : List SymId) (kids : List NodeId) → IsNode t k → is_quantified (tree t k) ≡ false → after ≡ kids ++ before → named t new ≡ with_more (named t old) (own_symbols (tree t k)) → All (IsSymbol t) new → trees_at t kids ≡ operands (tree t k) → All (λ j. j.0 < k.0) kids → Opens t k before after old new
opens-applied t k before after old new kids node e waiting lists symbols same below = record {
  own = own_symbols (tree t k);
  kids = kids;
  waiting = waiting;
  names = lists;
  symbols = symbols;
  says = says-applied t (tree t k) kids e same;
  nodes = λ i d lt. (let b = below i d lt in omega arith);
  below = below;
  operands = inr same;
}

-- ---- what is reached

kids-reached : (t : Formulas) (ks : List (Place (Vec SymId Global))) (ms : List Bool) (n : ℕ) (k : NodeId) (kids : List NodeId) → IsTable t → HaveLists t ks ms n → IsReached ms n k → trees_at t kids ≡ operands (tree t k) → AreNodes t kids → All (λ j. j.0 < k.0) kids → All (IsReached ms n) kids
kids-reached t ks ms n k kids table have reached same nodes below i d lt =
    let count : length kids ≡ length (operands (tree t k)) = sym (length-map kids (tree_in t.trees)) ∙ ap length same in
    let m = have.closed k reached.0 i no_tree (omega (arith, count, lt)) in
    let j = get_or kids i d in
    let one : tree t j ≡ get_or (operands (tree t k)) i no_tree = sym (get_or-map (tree_in t.trees) kids i d no_tree lt) ∙ ap (λ us. get_or us i no_tree) same in
    let number : m.id.0 ≡ j.0 = table.one_tree m.id.0 j.0 m.node (nodes i d lt) (m.term ∙ sym one) in
    let le = below i d lt in
    let within = reached.1 in
    (subst (λ (x : ℕ). is_marked ms x ≡ true) number m.marked, omega arith)

pub opened : (t : Formulas) (ks : List (Place (Vec SymId Global))) (ms : List Bool) (n : ℕ) (fs : List Symbol) (k : NodeId) (before after met met' : List NodeId) (old new : List SymId) → IsTable t → HaveLists t ks ms n → Lists t (IsReached ms n) fs (k ∷ before) met old → has_node met k ≡ false → met' ≡ with_node met k → Opens t k before after old new → Lists t (IsReached ms n) fs after met' new
opened t ks ms n fs k before after met met' old new table have h unmet is o =
    let reached = All-head (IsReached ms n) k before h.reached in
    let kids : All (IsReached ms n) o.kids = elim o.operands [
      | inl empty ↦ subst (All (IsReached ms n)) (sym empty) (λ i d lt. absurd (omega arith))
      | inr same ↦ kids-reached t ks ms n k o.kids table have reached same o.nodes o.below
    ] in
    let now : Lists t (IsReached ms n) fs (o.kids ++ before) (met ++ k ∷ []) new = met-now t (IsReached ms n) fs k before met old h o.own o.kids new o.says o.names o.symbols o.below o.nodes kids in
    let more : met ++ k ∷ [] ≡ met' = sym (is ∙ ap (λ b. if b then met else met ++ k ∷ []) unmet) in
    subst (λ (ws : List NodeId). Lists t (IsReached ms n) fs ws met' new) (sym o.waiting) (subst (λ (ls : List NodeId). Lists t (IsReached ms n) fs (o.kids ++ before) ls new) more now)

pub skipped : (t : Formulas) (P : NodeId → Type 0) (fs : List Symbol) (k : NodeId) (before met met' : List NodeId) (old : List SymId) → Lists t P fs (k ∷ before) met old → has_node met k ≡ true → met' ≡ with_node met k → Lists t P fs before met' old
skipped t P fs k before met met' old h e is =
    subst (λ (ls : List NodeId). Lists t P fs before ls old) (sym (is ∙ ap (λ b. if b then met else met ++ k ∷ []) e)) (met-before t P fs k before met old h e)

-- ---- fewer operands are left

left_one : (t : Formulas) (ks : List NodeId) (b : Bool) (n : ℕ) → has_node ks (record { 0 = n }) ≡ b → operands_left t ks (suc n) ≡ operands_left t ks n + cond b 0 (length (operands (get_or t.trees n no_tree)))
left_one t ks b n e = ap (λ c. operands_left t ks n + cond c 0 (length (operands (get_or t.trees n no_tree)))) e

left_below : (t : Formulas) (met : List NodeId) (k : NodeId) (n : ℕ) → n ≤ k.0 → operands_left t (met ++ k ∷ []) n ≡ operands_left t met n
left_below t met k zero le = refl
left_below t met k (suc n) le =
    let rest = left_below t met k n (omega arith) in
    let same : has_node (met ++ k ∷ []) (record { 0 = n }) ≡ has_node met (record { 0 = n }) = apart_node met k (record { 0 = n }) (λ e. omega arith) in
    let one : cond (has_node (met ++ k ∷ []) (record { 0 = n })) 0 (length (operands (get_or t.trees n no_tree))) ≡ cond (has_node met (record { 0 = n })) 0 (length (operands (get_or t.trees n no_tree))) = ap (λ b. cond b 0 (length (operands (get_or t.trees n no_tree)))) same in
    omega (arith, rest, one)

left_more : (t : Formulas) (met : List NodeId) (k : NodeId) (n : ℕ) → k.0 < n → has_node met k ≡ false → operands_left t (met ++ k ∷ []) n + length (operands (tree t k)) ≡ operands_left t met n
left_more t met k zero lt e = absurd (omega arith)
left_more t met k (suc n) lt e = elim (eqb_tells n k.0) [
  | inl same ↦
      let at : NodeId = record { 0 = n } in
      let own : get_or t.trees n no_tree ≡ tree t k = ap (λ i. get_or t.trees i no_tree) same.1 in
      let number = same.1 in
      let below = left_below t met k n (omega arith) in
      let here : has_node (met ++ k ∷ []) at ≡ true = met_node met k at same.1 in
      let there : has_node met at ≡ false = subst (λ (i : ℕ). has_node met (record { 0 = i }) ≡ false) (sym same.1) e in
      let after = left_one t (met ++ k ∷ []) true n here in
      let before = left_one t met false n there in
      let many : length (operands (get_or t.trees n no_tree)) ≡ length (operands (tree t k)) = ap (λ u. length (operands u)) own in
      omega (arith, below, after, before, many)
  | inr apart ↦
      let at : NodeId = record { 0 = n } in
      let below = left_more t met k n (let a = apart.1 in omega arith) e in
      let same : has_node (met ++ k ∷ []) at ≡ has_node met at = apart_node met k at (λ i. apart.1 i) in
      let after = left_one t (met ++ k ∷ []) (has_node met at) n same in
      let before = left_one t met (has_node met at) n refl in
      omega (arith, below, after, before)
]

pub opened-nearer : (t : Formulas) (k : NodeId) (before after : List NodeId) (met met' : List NodeId) (old new : List SymId) (n : ℕ) → k.0 < n → has_node met k ≡ false → met' ≡ with_node met k → Opens t k before after old new → operands_left t met' n + length after ≤ operands_left t met n + length before
opened-nearer t k before after met met' old new n lt unmet is o =
    let more : met' ≡ met ++ k ∷ [] = is ∙ ap (λ b. if b then met else met ++ k ∷ []) unmet in
    let left : operands_left t met' n ≡ operands_left t (met ++ k ∷ []) n = ap (λ ls. operands_left t ls n) more in
    let less = left_more t met k n lt unmet in
    let long : length after ≡ length o.kids + length before = ap length o.waiting ∙ length-append o.kids before in
    let few : length o.kids ≤ length (operands (tree t k)) = elim o.operands [
      | inl empty ↦ (let z : length o.kids ≡ 0 = ap length empty in omega arith)
      | inr same ↦ (let c : length o.kids ≡ length (operands (tree t k)) = sym (length-map o.kids (tree_in t.trees)) ∙ ap length same in omega arith)
    ] in
    omega (arith, left, less, long, few)

pub skipped-nearer : (t : Formulas) (k : NodeId) (met met' : List NodeId) (n : ℕ) → has_node met k ≡ true → met' ≡ with_node met k → operands_left t met' n ≡ operands_left t met n
skipped-nearer t k met met' n e is = ap (λ ls. operands_left t ls n) (is ∙ ap (λ b. if b then met else met ++ k ∷ []) e)

-- ---- a scope begins and ends

none_waits : {X : Type 0} (P : X → Type 0) → All P []
none_waits P i d lt = absurd (omega arith)

one_waits : {X : Type 0} (P : X → Type 0) (x : X) → P x → All P (x ∷ [])
one_waits P x h zero d lt = h
one_waits P x h (suc i) d lt = absurd (omega arith)

pub lists-begun : (t : Formulas) (P : NodeId → Type 0) (k : NodeId) → IsNode t k → P k → Lists t P (free (tree t k)) (k ∷ []) [] []
lists-begun t P k node reached = record {
  nodes = one_waits (IsNode t) k node;
  reached = one_waits P k reached;
  symbols = none_waits (IsSymbol t);
  covered = λ j m. absurd cc;
  whole = with_more-none (with_more (free (tree t k)) []) ∙ append-none (free (tree t k));
}

pub lists-ended : (t : Formulas) (P : NodeId → Type 0) (u : Term) (met : List NodeId) (listed : List SymId) → Lists t P (free u) [] met listed → AreFree t u listed
lists-ended t P u met listed h = record { names = sym (append-none (named t listed)) ∙ h.whole; symbols = h.symbols }

pub popped : (t : Formulas) (P : NodeId → Type 0) (fs : List Symbol) (k : NodeId) (before after met : List NodeId) (listed : List SymId) → Lists t P fs (reverse before) met listed → before ≡ after ++ k ∷ [] → Lists t P fs (k ∷ reverse after) met listed
popped t P fs k before after met listed h e = subst (λ (ws : List NodeId). Lists t P fs ws met listed) (ap reverse e ∙ reverse-append after (k ∷ [])) h

pub known-applied : (t : Formulas) (ks : List (Place (Vec SymId Global))) (ms : List Bool) (n : ℕ) (k : NodeId) → HaveLists t ks ms n → IsReached ms n k → result_at ks k.0 ≡ None → is_quantified (tree t k) ≡ false
known-applied t ks ms n k have reached none = by (is_quantified (tree t k)) refl
  where
    by : (b : Bool) → is_quantified (tree t k) ≡ b → b ≡ false
    by true e = absurd (let kept = have.known k reached e in let gone = ap is_some none in cc)
    by false e = refl

pub not_false : (b : Bool) → not b ≡ false → b ≡ true
not_false true e = refl
not_false false e = absurd cc

pub first-waits : (t : Formulas) (P : NodeId → Type 0) (fs : List Symbol) (k : NodeId) (js met : List NodeId) (listed : List SymId) → Lists t P fs (k ∷ js) met listed → IsNode t k
first-waits t P fs k js met _ h = All-head (IsNode t) k js h.nodes

pub first-reached : (t : Formulas) (P : NodeId → Type 0) (fs : List Symbol) (k : NodeId) (js met : List NodeId) (listed : List SymId) → Lists t P fs (k ∷ js) met listed → P k
first-reached t P fs k js met _ h = All-head P k js h.reached

pub none-left : (t : Formulas) (P : NodeId → Type 0) (u : Term) (ws met : List NodeId) (listed : List SymId) → Lists t P (free u) (reverse ws) met listed → length ws ≡ 0 → AreFree t u listed
none-left t P u [] met listed h e = lists-ended t P u met listed h
none-left t P u (w ∷ ws) met listed h e = absurd (omega arith)

-- ---- what is bound

pub no_own : (t : Formulas) (f : Symbol) → is_among (named t []) f ≡ false
no_own t f = refl

own-last : (t : Formulas) (ids : List NodeId) (i : ℕ) (d : NodeId) (f : Symbol) → i < length ids → has_own (trees_at t (take (suc i) ids)) f ≡ (has_own (trees_at t (take i ids)) f || is_among (own_symbols (tree t (get_or ids i d))) f)
own-last t [] i d f lt = absurd (omega arith)
own-last t (k ∷ ids) zero d f lt = or_none (is_among (own_symbols (tree t k)) f)
  where
    or_none : (b : Bool) → (b || false) ≡ b
    or_none true = refl
    or_none false = refl
own-last t (k ∷ ids) (suc i) d f lt =
    ap (λ b. is_among (own_symbols (tree t k)) f || b) (own-last t ids i d f (omega arith))
    ∙ or_grouped (is_among (own_symbols (tree t k)) f) (has_own (trees_at t (take i ids)) f) (is_among (own_symbols (tree t (get_or ids i d))) f)
  where
    or_grouped : (a b c : Bool) → (a || (b || c)) ≡ ((a || b) || c)
    or_grouped true b c = refl
    or_grouped false b c = refl

pub own-step : (t : Formulas) (old new : List SymId) (ids : List NodeId) (i : ℕ) (d : NodeId) → i < length ids → ((f : Symbol) → is_among (named t old) f ≡ has_own (trees_at t (take i ids)) f) → named t new ≡ with_more (named t old) (own_symbols (tree t (get_or ids i d))) → (f : Symbol) → is_among (named t new) f ≡ has_own (trees_at t (take (i + 1) ids)) f
own-step t old new ids i d lt before lists f =
    ap (λ gs. is_among gs f) lists
    ∙ is_among-with_more (named t old) (own_symbols (tree t (get_or ids i d))) f
    ∙ ap (λ b. b || is_among (own_symbols (tree t (get_or ids i d))) f) (before f)
    ∙ sym (ap (λ n. has_own (trees_at t (take n ids)) f) one_more ∙ own-last t ids i d f lt)
  where
    one_more : i + 1 ≡ suc i
    one_more = omega arith

pub own-all : (t : Formulas) (ids : List NodeId) (i : ℕ) (f : Symbol) → length ids ≤ i → has_own (trees_at t (take i ids)) f ≡ has_own (trees_at t ids) f
own-all t [] zero f le = refl
own-all t [] (suc i) f le = refl
own-all t (k ∷ ids) zero f le = absurd (omega arith)
own-all t (k ∷ ids) (suc i) f le = ap (λ b. is_among (own_symbols (tree t k)) f || b) (own-all t ids i f (omega arith))

own-variables : (xs : List Variable) (f : Symbol) → has_own (map variable xs) f ≡ is_among (map constant_of xs) f
own-variables [] f = refl
own-variables (x ∷ xs) f = let rest = own-variables xs f in λ i. or_last (symbol_eq (constant_of x) f) i || rest i
  where
    or_last : (b : Bool) → (b || false) ≡ b
    or_last true = refl
    or_last false = refl

-- one symbol more that is free or bound
pub unbound-one : (t : Formulas) → IsTable t → (bound free : List SymId) (f : SymId) → All (IsSymbol t) bound → IsSymbol t f → (b : Bool) → list_any (λ g. f.0 == g.0) bound ≡ b → named t (if b then free else free ++ f ∷ []) ≡ named t free ++ filter (λ g. not (is_among (named t bound) g)) (symbol_at t f ∷ [])
unbound-one t table bound free f h within b e =
    by b ∙ ap (λ c. named t free ++ cond (not c) (symbol_at t f ∷ []) []) (sym (among_number t table bound f h within ∙ e))
  where
    by : (c : Bool) → named t (if c then free else free ++ f ∷ []) ≡ named t free ++ cond (not c) (symbol_at t f ∷ []) []
    by true = sym (append-none (named t free))
    by false = map-append (symbol_at t) free (f ∷ [])

filter-symbols-take : (p : Symbol → Bool) (t : Formulas) (fs : List SymId) (i : ℕ) (d : SymId) → i < length fs → filter p (named t (take (i + 1) fs)) ≡ filter p (named t (take i fs)) ++ filter p (symbol_at t (get_or fs i d) ∷ [])
filter-symbols-take p t fs i d lt =
    ap (λ gs. filter p (named t gs)) (take_more fs i d lt)
    ∙ ap (filter p) (map-append (symbol_at t) (take i fs) (get_or fs i d ∷ []))
    ∙ filter-append p (named t (take i fs)) (symbol_at t (get_or fs i d) ∷ [])

pub unbound-step : (t : Formulas) (bound old new fs : List SymId) (i : ℕ) (d : SymId) → i < length fs → named t old ≡ filter (λ g. not (is_among (named t bound) g)) (named t (take i fs)) → named t new ≡ named t old ++ filter (λ g. not (is_among (named t bound) g)) (symbol_at t (get_or fs i d) ∷ []) → named t new ≡ filter (λ g. not (is_among (named t bound) g)) (named t (take (i + 1) fs))
unbound-step t bound old new fs i d lt before one =
    one
    ∙ ap (λ gs. gs ++ filter (λ g. not (is_among (named t bound) g)) (symbol_at t (get_or fs i d) ∷ [])) before
    ∙ sym (filter-symbols-take (λ g. not (is_among (named t bound) g)) t fs i d lt)

-- ---- a quantified node

last-body : (xs : List Variable) (us : List Term) (u body : Term) → us ++ u ∷ [] ≡ map variable xs ++ body ∷ [] → (us ≡ map variable xs) × (u ≡ body)
last-body [] [] u body e = (refl, (let h : u ≡ body = cc in h))
last-body [] (v ∷ []) u body e = absurd cc
last-body [] (v ∷ (w ∷ us)) u body e = absurd cc
last-body (x ∷ []) [] u body e = absurd cc
last-body (x ∷ (y ∷ xs)) [] u body e = absurd cc
last-body (x ∷ xs) (v ∷ us) u body e =
    let first : v ≡ variable x = cc in
    let rest : us ++ u ∷ [] ≡ map variable xs ++ body ∷ [] = cc in
    let r = last-body xs us u body rest in
    ((λ i. first i ∷ r.0 i), r.1)

pub quantified-free : (t : Formulas) (u : Term) (kids variables : List NodeId) (body : NodeId) (symbols bound free_ids : List SymId) → is_quantified u ≡ true → trees_at t kids ≡ operands u → kids ≡ variables ++ body ∷ [] → AreFree t (tree t body) symbols → ((f : Symbol) → is_among (named t bound) f ≡ has_own (trees_at t variables) f) → named t free_ids ≡ filter (λ f. not (is_among (named t bound) f)) (named t symbols) → All (IsSymbol t) free_ids → AreFree t u free_ids
quantified-free t (apply h ts) kids variables body symbols bound free_ids e same split inner own names within = absurd cc
quantified-free t (quantified q xs b) kids variables body symbols bound free_ids e same split inner own names within =
    let parts = last-body xs (trees_at t variables) (tree t body) b (sym (ap (trees_at t) split ∙ map-append (tree_in t.trees) variables (body ∷ [])) ∙ same) in
    record {
      names =
          names
          ∙ filter-alike (λ f. not (is_among (named t bound) f)) (λ f. not (is_among (map constant_of xs) f)) (named t symbols)
          (λ f among. ap not (own f ∙ ap (λ us. has_own us f) parts.0 ∙ own-variables xs f))
          ∙ ap (filter (λ f. not (is_among (map constant_of xs) f))) (inner.names ∙ ap free parts.1);
      symbols = within;
    }

-- ---- one list more

pub one-list-more : (t : Formulas) (old new : List (Place (Vec SymId Global))) (ms : List Bool) (k : NodeId) (r : Vec SymId Global) → HaveLists t old ms k.0 → Puts old new k.0 r → AreFree t (tree t k) r.items → HaveLists t new ms (suc k.0)
one-list-more t old new ms k r have puts own = record {
  each = λ j s e. elim (eqb_tells j.0 k.0) [
    | inl same ↦
        let here : Some r ≡ Some s = sym puts.here ∙ ap (result_at new) (sym same.1) ∙ e in
        let one : r ≡ s = cc in
        subst (λ (i : ℕ). AreFree t (get_or t.trees i no_tree) s.items) (sym same.1) (subst (λ (v : Vec SymId Global). AreFree t (tree t k) v.items) one own)
    | inr apart ↦ have.each j s (sym (puts.others j.0 apart.1) ∙ e)
  ];
  known = λ j reached q. elim (eqb_tells j.0 k.0) [
    | inl same ↦ ap is_some (ap (result_at new) same.1 ∙ puts.here)
    | inr apart ↦ ap is_some (puts.others j.0 apart.1) ∙ have.known j (reached.0, (let lt = reached.1 in let a = apart.1 in omega arith)) q
  ];
  closed = have.closed;
}

pub no-list-more : (t : Formulas) (ks : List (Place (Vec SymId Global))) (ms : List Bool) (k : NodeId) → HaveLists t ks ms k.0 → is_quantified (tree t k) ≡ false → HaveLists t ks ms (suc k.0)
no-list-more t ks ms k have e = record {
  each = have.each;
  known = λ j reached q. elim (eqb_tells j.0 k.0) [
    | inl same ↦ absurd (let f : is_quantified (tree t j) ≡ false = subst (λ (i : ℕ). is_quantified (get_or t.trees i no_tree) ≡ false) (sym same.1) e in cc)
    | inr apart ↦ have.known j (reached.0, (let lt = reached.1 in let a = apart.1 in omega arith)) q
  ];
  closed = have.closed;
}

pub no-mark-more : (t : Formulas) (ks : List (Place (Vec SymId Global))) (ms : List Bool) (n : ℕ) → HaveLists t ks ms n → is_marked ms n ≡ false → HaveLists t ks ms (suc n)
no-mark-more t ks ms n have e = record {
  each = have.each;
  known = λ j reached q. elim (eqb_tells j.0 n) [
    | inl same ↦ absurd (let m = reached.0 in let f : is_marked ms j.0 ≡ false = ap (is_marked ms) same.1 ∙ e in cc)
    | inr apart ↦ have.known j (reached.0, (let lt = reached.1 in let a = apart.1 in omega arith)) q
  ];
  closed = have.closed;
}

pub no-lists : (t : Formulas) (roots : List NodeId) (ms : List Bool) → AreMarkedFrom t roots 0 ms → HaveLists t [] ms 0
no-lists t roots ms from = record {
  each = λ j s e. absurd cc;
  known = λ j reached q. absurd (let lt = reached.1 in omega arith);
  closed = λ j m. from.closed j (omega arith) m;
}

pub begun-from : (t : Formulas) (P : NodeId → Type 0) (k : NodeId) (ws met : List NodeId) (listed : List SymId) → IsNode t k → P k → ws ≡ k ∷ [] → met ≡ [] → listed ≡ [] → Lists t P (free (tree t k)) (reverse ws) met listed
begun-from t P k ws met listed node reached a b c =
    let begun = lists-begun t P k node reached in
    let with_listed = subst (λ (ls : List SymId). Lists t P (free (tree t k)) (k ∷ []) [] ls) (sym c) begun in
    let with_met = subst (λ (ms : List NodeId). Lists t P (free (tree t k)) (k ∷ []) ms listed) (sym b) with_listed in
    subst (λ (vs : List NodeId). Lists t P (free (tree t k)) (reverse vs) met listed) (sym a) with_met

pub take-past : (fs : List SymId) (i : ℕ) → length fs ≤ i → take i fs ≡ fs
take-past [] zero le = refl
take-past [] (suc i) le = refl
take-past (f ∷ fs) zero le = absurd (omega arith)
take-past (f ∷ fs) (suc i) le = ap (λ gs. f ∷ gs) (take-past fs i (omega arith))

last-place : (variables : List NodeId) (body d : NodeId) → get_or (variables ++ body ∷ []) (length variables) d ≡ body
last-place [] body d = refl
last-place (v ∷ vs) body d = last-place vs body d

pub body-reached : (t : Formulas) (ks : List (Place (Vec SymId Global))) (ms : List Bool) (k : NodeId) (kids variables : List NodeId) (body : NodeId) → IsTable t → IsNode t k → HaveLists t ks ms k.0 → is_marked ms k.0 ≡ true → trees_at t kids ≡ operands (tree t k) → All (λ j. j.0 < k.0) kids → kids ≡ variables ++ body ∷ [] → IsReached ms k.0 body
body-reached t ks ms k kids variables body table node have marked same below split =
    let i = length variables in
    let many : length kids ≡ length variables + 1 = ap length split ∙ length-append variables (body ∷ []) in
    let last : get_or kids i body ≡ body = ap (λ js. get_or js i body) split ∙ last-place variables body body in
    let lt : body.0 < k.0 = subst (λ (j : NodeId). j.0 < k.0) last (below i body (omega (arith, many))) in
    let count : length kids ≡ length (operands (tree t k)) = sym (length-map kids (tree_in t.trees)) ∙ ap length same in
    let m = have.closed k marked i no_tree (omega (arith, count, many)) in
    let one : tree t body ≡ get_or (operands (tree t k)) i no_tree = ap (tree t) (sym last) ∙ sym (get_or-map (tree_in t.trees) kids i body no_tree (omega (arith, many))) ∙ ap (λ us. get_or us i no_tree) same in
    let number : m.id.0 ≡ body.0 = table.one_tree m.id.0 body.0 m.node (omega arith) (m.term ∙ sym one) in
    (subst (λ (x : ℕ). is_marked ms x ≡ true) number m.marked, lt)

pub some-body : (t : Formulas) (u : Term) (kids : List NodeId) → is_quantified u ≡ true → trees_at t kids ≡ operands u → 0 < length kids
some-body t (apply h ts) kids e same = absurd cc
some-body t (quantified q xs b) kids e same =
    let count : length kids ≡ length (map variable xs ++ b ∷ []) = sym (length-map kids (tree_in t.trees)) ∙ ap length same in
    let more = length-append (map variable xs) (b ∷ []) in
    omega (arith, count, more)

pub all-front : (n : ℕ) (vs : List NodeId) (b : NodeId) → All (λ j. j.0 < n) (vs ++ b ∷ []) → All (λ j. j.0 < n) vs
all-front n [] b h i d lt = absurd (omega arith)
all-front n (v ∷ vs) b h zero d lt = All-head (λ (j : NodeId). j.0 < n) v (vs ++ b ∷ []) h
all-front n (v ∷ vs) b h (suc i) d lt = all-front n vs b (All-tail (λ (j : NodeId). j.0 < n) v (vs ++ b ∷ []) h) i d (omega arith)

pub marked-within : (ms : List Bool) (i : ℕ) → is_marked ms i ≡ true → i < length ms
marked-within [] i m = absurd cc
marked-within (b ∷ ms) zero m = omega arith
marked-within (b ∷ ms) (suc i) m = let lt = marked-within ms i m in omega arith

pub root-reached : (t : Formulas) (root : NodeId) (ms : List Bool) (n : ℕ) → AreMarkedFrom t (root ∷ []) 0 ms → length ms ≤ n → IsReached ms n root
root-reached t root ms n from le = let m : is_marked ms root.0 ≡ true = from.begun zero root (omega arith) in let lt = marked-within ms root.0 m in (m, omega arith)
