-- The rank of a quantifier, one operand after the other.
use Rattle.std.proofs.Common.{◌≡◌, ◌≢◌, ℕ, zero, suc, ◌+◌, ◌<◌, ◌≤◌, Bool, true, false, cond, not, ◌||◌, ◌&&◌, is_some, nat_le, nat_lt, ◌==◌, ◌-◌, List, [], ◌∷◌, ◌++◌, map, length, drop, take, get_or, Option, Some, None, Ok, Err, Result, IsOk, ◌⊎◌, inl, inr, subst, refl, ap, sym, ◌∙◌, arith}
use Rattle.std.proofs.Math.Seq.{drop-cons, take-suc}
use Rattle.std.proofs.lemmas.List.{get_or-map, length-map, map-append}
use Rattle.std.proofs.lemmas.Bool.Decides.{nat_tests}
use Rattle.smt_terms.specs.declared.ids.NodeId.{NodeId}
use Rattle.smt_terms.specs.declared.ids.SortId.{SortId}
use Rattle.smt_terms.specs.Sorts.{Name, Sort, bool, int, bit_vector, Symbol}
use Rattle.smt_terms.specs.Term.{op, symbol, const_array, Term, apply, quantified, Terms, none, ◌⨾◌, list, terms}
use Rattle.smt_terms.specs.Equal.{name_eq, sort_eq}
use Rattle.smt_terms.specs.Rank.{Fault, wrong_arity, wrong_sort, is_quantifiable, is_empty, has_name, may_bind, symbol_name, rank_bound, rank_quantifier, sort_of, is_regular, IsWellSorted}
use Rattle.smt_terms.proofs.Ranked.{rank-takes}
use Rattle.smt_terms.proofs.Sorted.{applied, length-sorts_of}
use Rattle.smt_values.specs.SortIds.{sort_at, sort_numbered}
use Rattle.smt_terms.specs.declared.op.Op.{Op}
use Rattle.smt_terms.specs.declared.op.Op.TheVariants.{Forall, Exists}
use Rattle.term_table.specs.Formulas.{Formulas, no_tree, tree_in, trees_at, rank_over, sorts_in, kind}

-- ---- names

pub named-step : (n : Name) (ns : List Name) (k : ℕ) → k < length ns → name_eq n (get_or ns k []) ≡ false → has_name n (drop k ns) ≡ has_name n (drop (k + 1) ns)
named-step n ns k lt other =
    let next : suc k ≡ k + 1 = omega arith in
    ap (has_name n) (drop-cons ns k [] lt) ∙ ap (λ b. b || has_name n (drop (suc k) ns)) other ∙ ap (λ i. has_name n (drop i ns)) next

pub named-here : (n : Name) (ns : List Name) (k : ℕ) → k < length ns → name_eq n (get_or ns k []) ≡ true → has_name n (drop k ns) ≡ true
named-here n ns k lt same = ap (has_name n) (drop-cons ns k [] lt) ∙ ap (λ b. b || has_name n (drop (suc k) ns)) same

pub names_at : Formulas → List NodeId → List Name
names_at t ks = map symbol_name (trees_at t ks)

pub length-names : (t : Formulas) (ks : List NodeId) → length (map symbol_name (trees_at t ks)) ≡ length ks
length-names t ks = length-map (trees_at t ks) symbol_name ∙ length-map ks (tree_in t.trees)

pub name-at : (t : Formulas) (ks : List NodeId) (k : ℕ) (d : NodeId) → k < length ks → get_or (map symbol_name (trees_at t ks)) k [] ≡ symbol_name (tree_in t.trees (get_or ks k d))
name-at t ks k d lt =
    let count : length (trees_at t ks) ≡ length ks = length-map ks (tree_in t.trees) in
    let within : k < length (trees_at t ks) = omega arith in
    get_or-map symbol_name (trees_at t ks) k no_tree [] within ∙ ap symbol_name (get_or-map (tree_in t.trees) ks k d no_tree lt)

-- ---- a constant that may be bound

no_operands : (f : Symbol) (us : Terms) (s : Sort) → f.args ≡ [] → sort_of (apply (symbol f) us) ≡ Some s → us ≡ none
no_operands f none s e h = refl
no_operands f (u ⨾ us) s e h =
    let known = applied (symbol f) (u ⨾ us) s h in
    let taken = rank-takes (symbol f) known.sorts s known.rank in
    let count : length known.sorts ≡ length (list (u ⨾ us)) = length-sorts_of (u ⨾ us) known.sorts known.operands in
    let empty : length known.sorts ≡ 0 = ap length (taken.0 ∙ e) in
    absurd (omega arith)

both_held : (a b c : Bool) → a ≡ true → b ≡ true → (a && (b && c)) ≡ c
both_held true true c p q = refl
both_held true false c p q = absurd cc
both_held false b c p q = absurd cc

pub may_bind-symbol : (ns : List Name) (u : Term) (f : Symbol) (us : Terms) (s : Sort) → u ≡ apply (symbol f) us → sort_of u ≡ Some s → f.args ≡ [] → is_quantifiable f.result ≡ true → may_bind ns u ≡ not (has_name f.name ns)
may_bind-symbol ns u f us s e h args fine =
    let empty : us ≡ none = no_operands f us s args (ap sort_of (sym e) ∙ h) in
    ap (may_bind ns) e ∙ ap (λ ts. may_bind ns (apply (symbol f) ts)) empty
    ∙ both_held (is_empty f.args) (is_quantifiable f.result) (not (has_name f.name ns)) (ap is_empty args) fine

may_bind-names : (ns ms : List Name) (u : Term) → ((n : Name) → has_name n ns ≡ has_name n ms) → may_bind ns u ≡ may_bind ms u
may_bind-names ns ms (apply (symbol f) none) h = let same : has_name f.name ns ≡ has_name f.name ms = h f.name in cc
may_bind-names ns ms (apply (symbol f) (u ⨾ us)) h = refl
may_bind-names ns ms (apply (op p) us) h = refl
may_bind-names ns ms (apply (const_array s) us) h = refl
may_bind-names ns ms (quantified q xs u) h = refl

-- ---- the names of the operands that came before, the latest first

abbrev pub names_back : List Name → List Name → List Name
names_back acc [] = acc
names_back acc (n ∷ ns) = names_back (n ∷ acc) ns

or_turned : (a b c : Bool) → ((a || b) || c) ≡ (b || (a || c))
or_turned true true c = refl
or_turned true false c = refl
or_turned false true c = refl
or_turned false false c = refl

names_back-has : (n : Name) (acc ns : List Name) → has_name n (names_back acc ns) ≡ (has_name n acc || has_name n ns)
names_back-has n acc [] = right (has_name n acc)
  where
    right : (b : Bool) → b ≡ (b || false)
    right true = refl
    right false = refl
names_back-has n acc (m ∷ ns) = names_back-has n (m ∷ acc) ns ∙ or_turned (name_eq n m) (has_name n acc) (has_name n ns)

names_back-push : (acc ns : List Name) (m : Name) → names_back acc (ns ++ m ∷ []) ≡ m ∷ names_back acc ns
names_back-push acc [] m = refl
names_back-push acc (n ∷ ns) m = names_back-push (n ∷ acc) ns m

-- ---- one operand after the other

abbrev pub from_place : List Term → List Sort → ℕ → Result Sort Fault
from_place ts ss k = rank_bound k (names_back [] (map symbol_name (take k ts))) (drop k ts) (drop k ss)

two_left : {A : Type 0} (xs : List A) (k : ℕ) (d : A) → k + 1 < length xs → drop k xs ≡ get_or xs k d ∷ get_or xs (suc k) d ∷ drop (suc (suc k)) xs
two_left xs k d lt = drop-cons xs k d (omega arith) ∙ ap (λ l. get_or xs k d ∷ l) (drop-cons xs (suc k) d (omega arith))

module _ (ts : List Term) (ss : List Sort) (k : ℕ) (lt : k + 1 < length ts) (ls : k + 1 < length ss) where
  at_two : from_place ts ss k ≡ cond (may_bind (names_back [] (map symbol_name (take k ts))) (get_or ts k no_tree)) (rank_bound (suc k) (symbol_name (get_or ts k no_tree) ∷ names_back [] (map symbol_name (take k ts))) (drop (suc k) ts) (drop (suc k) ss)) (Err (wrong_sort k (get_or ss k bool) bool))
  at_two =
      (λ i. rank_bound k (names_back [] (map symbol_name (take k ts))) (two_left ts k no_tree lt i) (two_left ss k bool ls i))
      ∙ (λ i. cond (may_bind (names_back [] (map symbol_name (take k ts))) (get_or ts k no_tree))
      (rank_bound (suc k) (symbol_name (get_or ts k no_tree) ∷ names_back [] (map symbol_name (take k ts))) (sym (drop-cons ts (suc k) no_tree (omega arith)) i) (sym (drop-cons ss (suc k) bool (omega arith)) i))
      (Err (wrong_sort k (get_or ss k bool) bool)))

  in_order : may_bind (names_back [] (map symbol_name (take k ts))) (get_or ts k no_tree) ≡ may_bind (map symbol_name (take k ts)) (get_or ts k no_tree)
  in_order = may_bind-names (names_back [] (map symbol_name (take k ts))) (map symbol_name (take k ts)) (get_or ts k no_tree) (λ n. names_back-has n [] (map symbol_name (take k ts)))

  more_names : names_back [] (map symbol_name (take (suc k) ts)) ≡ symbol_name (get_or ts k no_tree) ∷ names_back [] (map symbol_name (take k ts))
  more_names =
      ap (λ l. names_back [] (map symbol_name l)) (take-suc ts k no_tree (omega arith))
      ∙ ap (names_back []) (map-append symbol_name (take k ts) (get_or ts k no_tree ∷ []))
      ∙ names_back-push [] (map symbol_name (take k ts)) (symbol_name (get_or ts k no_tree))

  pub bound_next : (j : ℕ) → j ≡ k + 1 → may_bind (map symbol_name (take k ts)) (get_or ts k no_tree) ≡ true → from_place ts ss k ≡ from_place ts ss j
  bound_next j e fine =
      let next : suc k ≡ j = omega arith in
      at_two
      ∙ ap (λ b. cond b (rank_bound (suc k) (symbol_name (get_or ts k no_tree) ∷ names_back [] (map symbol_name (take k ts))) (drop (suc k) ts) (drop (suc k) ss)) (Err (wrong_sort k (get_or ss k bool) bool))) (in_order ∙ fine)
      ∙ ap (λ ns. rank_bound (suc k) ns (drop (suc k) ts) (drop (suc k) ss)) (sym more_names)
      ∙ ap (from_place ts ss) next

  pub bound_not : may_bind (map symbol_name (take k ts)) (get_or ts k no_tree) ≡ false → from_place ts ss k ≡ Err (wrong_sort k (get_or ss k bool) bool)
  bound_not bad =
      at_two
      ∙ ap (λ b. cond b (rank_bound (suc k) (symbol_name (get_or ts k no_tree) ∷ names_back [] (map symbol_name (take k ts))) (drop (suc k) ts) (drop (suc k) ss)) (Err (wrong_sort k (get_or ss k bool) bool))) (in_order ∙ bad)

drop_all : {A : Type 0} (xs : List A) (k : ℕ) → length xs ≡ k → drop k xs ≡ []
drop_all [] zero e = refl
drop_all [] (suc k) e = absurd (omega arith)
drop_all (x ∷ xs) zero e = absurd (omega arith)
drop_all (x ∷ xs) (suc k) e = drop_all xs k (omega arith)

-- at the last operand
pub bound_last : (ts : List Term) (ss : List Sort) (k : ℕ) → length ts ≡ k + 1 → length ss ≡ k + 1 → from_place ts ss k ≡ cond (sort_eq (get_or ss k bool) bool) (Ok bool) (Err (wrong_sort k (get_or ss k bool) bool))
bound_last ts ss k lt ls =
    let one_term : drop k ts ≡ get_or ts k no_tree ∷ [] = drop-cons ts k no_tree (omega arith) ∙ ap (λ l. get_or ts k no_tree ∷ l) (drop_all ts (suc k) (omega arith)) in
    let one_sort : drop k ss ≡ get_or ss k bool ∷ [] = drop-cons ss k bool (omega arith) ∙ ap (λ l. get_or ss k bool ∷ l) (drop_all ss (suc k) (omega arith)) in
    λ i. rank_bound k (names_back [] (map symbol_name (take k ts))) (one_term i) (one_sort i)

pub bound_first : (ts : List Term) (ss : List Sort) → 2 ≤ length ts → rank_quantifier ts ss ≡ from_place ts ss 0
bound_first ts ss le =
    let two : nat_le 2 (length ts) ≡ true = grind (arith, nat_tests) in
    ap (λ b. cond b (rank_bound 0 [] ts ss) (Err wrong_arity)) two

-- ---- what the tests of one constant say

sorted_some : (o : Option Sort) (r : Bool) → (is_some o && r) ≡ true → (s : Sort) × (o ≡ Some s)
sorted_some (Some s) r h = (s, refl)
sorted_some None r h = absurd cc

no_numbers : (ks : List SortId) → length ks ≡ 0 → ks ≡ []
no_numbers [] e = refl
no_numbers (k ∷ ks) e = absurd (omega arith)

number_quantifiable : (ss : List Sort) (n : ℕ) → n ≢ 1 → n < 130 → is_quantifiable (sort_numbered ss n) ≡ true
number_quantifiable ss zero h lt = refl
number_quantifiable ss (suc m) h lt = by (suc m) (omega arith) h lt
  where
    by : (n : ℕ) → 0 < n → n ≢ 1 → n < 130 → is_quantifiable (sort_numbered ss n) ≡ true
    by n a b c =
        let first : (n == 0) ≡ false = grind (arith, nat_tests) in
        let second : (n == 1) ≡ false = grind (arith, nat_tests) in
        let third : nat_lt n 130 ≡ true = grind (arith, nat_tests) in
        λ i. is_quantifiable (cond (first i) bool (cond (second i) int (cond (third i) (bit_vector (n - 1)) (get_or ss (n - 130) bool))))

pub may_told : (ns : List Name) (u : Term) (g : Symbol) (us : List Term) (ks : List SortId) (ss : List Sort) (to : SortId) (n : Name) (b : Bool)
    → u ≡ apply (symbol g) (terms us) → IsWellSorted u → map (sort_at ss) ks ≡ g.args → length ks ≡ 0 → sort_at ss to ≡ g.result → to.0 ≢ 1 → to.0 < 130 → n ≡ g.name → b ≡ has_name n ns → not b ≡ may_bind ns u
may_told ns u g us ks ss to n b e sorted args without result other lt name has =
    let found = sorted_some (sort_of u) (is_regular u) sorted in
    let empty : g.args ≡ [] = sym args ∙ ap (map (sort_at ss)) (no_numbers ks without) in
    let fine : is_quantifiable g.result ≡ true = ap is_quantifiable (sym result) ∙ number_quantifiable ss to.0 other lt in
    sym (may_bind-symbol ns u g (terms us) found.0 e found.1 empty fine ∙ ap not (ap (λ m. has_name m ns) (sym name) ∙ sym has))

-- ---- the operands before one

take_map : {A B : Type 0} (f : A → B) (k : ℕ) (xs : List A) → take k (map f xs) ≡ map f (take k xs)
take_map f zero xs = refl
take_map f (suc k) [] = refl
take_map f (suc k) (x ∷ xs) = ap (λ l. f x ∷ l) (take_map f k xs)

pub earlier_terms : (t : Formulas) (ks : List NodeId) (k : ℕ) → take k (trees_at t ks) ≡ trees_at t (take k ks)
earlier_terms t ks k = take_map (tree_in t.trees) k ks

pub term-at : (t : Formulas) (ks : List NodeId) (k : ℕ) (d : NodeId) → k < length ks → get_or (trees_at t ks) k no_tree ≡ tree_in t.trees (get_or ks k d)
term-at t ks k d lt = get_or-map (tree_in t.trees) ks k d no_tree lt

pub bind_at : (t : Formulas) (ks : List NodeId) (k : ℕ) (d : NodeId) (b r : Bool) → k < length ks → b ≡ may_bind (map symbol_name (trees_at t (take k ks))) (tree_in t.trees (get_or ks k d)) → b ≡ r
    → may_bind (map symbol_name (take k (trees_at t ks))) (get_or (trees_at t ks) k no_tree) ≡ r
bind_at t ks k d b r lt told is =
    let names = earlier_terms t ks k in
    let term = term-at t ks k d lt in
    (λ i. may_bind (map symbol_name (names i)) (term i)) ∙ sym told ∙ is

pub last_fault : (b : Bool) (w f : Fault) → Some f ≡ cond b None (Some w) → cond b (Ok bool) (Err w) ≡ Err f
last_fault true w f e = absurd cc
last_fault false w f e = cc

pub last_fine : (b : Bool) (w : Fault) → None ≡ cond b None (Some w) → cond b (Ok bool) (Err w) ≡ Ok bool
last_fine true w e = refl
last_fine false w e = absurd cc

-- ---- a quantifier that has a rank gives a truth value

where_fine : (b : Bool) (r : Result Sort Fault) (f : Fault) → (IsOk r → r ≡ Ok bool) → IsOk (cond b r (Err f)) → cond b r (Err f) ≡ Ok bool
where_fine true r f fine h = fine h
where_fine false r f fine h = absurd cc

bound_truth : (k : ℕ) (ns : List Name) (ts : List Term) (ss : List Sort) → IsOk (rank_bound k ns ts ss) → rank_bound k ns ts ss ≡ Ok bool
bound_truth k ns [] ss h = absurd cc
bound_truth k ns (t ∷ []) [] h = absurd cc
bound_truth k ns (t ∷ u ∷ ts) [] h = absurd cc
bound_truth k ns (t ∷ []) (s ∷ []) h = where_fine (sort_eq s bool) (Ok bool) (wrong_sort k s bool) (λ _. refl) h
bound_truth k ns (t ∷ []) (s ∷ r ∷ ss) h = where_fine (may_bind ns t) (rank_bound (suc k) (symbol_name t ∷ ns) [] (r ∷ ss)) (wrong_sort k s bool) (bound_truth (suc k) (symbol_name t ∷ ns) [] (r ∷ ss)) h
bound_truth k ns (t ∷ u ∷ ts) (s ∷ ss) h = where_fine (may_bind ns t) (rank_bound (suc k) (symbol_name t ∷ ns) (u ∷ ts) ss) (wrong_sort k s bool) (bound_truth (suc k) (symbol_name t ∷ ns) (u ∷ ts) ss) h

binder_truth : (ts : List Term) → IsOk (rank_quantifier ts (sorts_in ts)) → rank_quantifier ts (sorts_in ts) ≡ Ok bool
binder_truth ts h = where_fine (nat_le 2 (length ts)) (rank_bound 0 [] ts (sorts_in ts)) wrong_arity (bound_truth 0 [] ts (sorts_in ts)) h

pub quantifier_truth : (t : Formulas) (p : Op) (ts : List Term) → (p ≡ Forall) ⊎ (p ≡ Exists) → IsOk (rank_over t p ts) → rank_over t p ts ≡ Ok bool
unfolding kind
quantifier_truth t p ts (inl e) h = ap (λ q. rank_over t q ts) e ∙ binder_truth ts (subst (λ q. IsOk (rank_over t q ts)) e h)
quantifier_truth t p ts (inr e) h = ap (λ q. rank_over t q ts) e ∙ binder_truth ts (subst (λ q. IsOk (rank_over t q ts)) e h)
