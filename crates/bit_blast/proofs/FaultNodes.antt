-- Which nodes aren't over bits, in an order in which each stands behind its operands.
use Rattle.std.proofs.Common.{◌≡◌, ℕ, ◌+◌, ◌<◌, ◌≤◌, ◌==◌, Bool, true, false, not, cond, ◌&&◌, ◌||◌, List, [], ◌∷◌, ◌++◌, length, get_or, take, All, Some, None, refl, ap, sym, ◌∙◌, arith}
use Rattle.std.specs.Prelude.{MatchOption, position, nat_lt}
use Rattle.std.specs.List.{list_any, position_or_len}
use Rattle.std.proofs.lemmas.Bool.{ltb-true, ltb-false}
use Rattle.std.proofs.lemmas.List.{get_or-map, length-map, take_more, get_or_default}
use Rattle.std.proofs.lemmas.List.Elements.{All-head, All-tail, All-map}
use Rattle.std.proofs.lemmas.List.Sums.{fails_before_first, passes_at_first}
use Rattle.smt_terms.specs.declared.ids.NodeId.{NodeId}
use Rattle.smt_terms.specs.Groups.{has_term}
use Rattle.smt_terms.specs.Rank.{sort_of}
use Rattle.smt_terms.specs.Term.{Term, apply, quantified, Terms, none, ◌⨾◌, terms, list}
use Rattle.term_table.specs.Formulas.{Formulas, no_tree, tree, tree_in, trees_at, operands, IsNode, AreNodes, IsTable}
use Rattle.term_walk.specs.FreeLists.{has_node, with_node}
use Rattle.term_walk.proofs.Members.{has-at}
use Rattle.quantifier_forms.proofs.Stands.{same-number, has_node-append, term-among}
use Rattle.term_groups.specs.Parts.{operands_of}
use Rattle.bit_blast.specs.Blasted.{is_bits_sort, is_bits, are_bits}
use Rattle.bit_blast.specs.Faults.{IsFirstFault}
use Rattle.bit_blast.specs.Subterms.{is_open, is_plain, AreSubterms}

-- the nodes of these that aren't over bits are among the faults
abbrev pub AreNoted : Formulas → List NodeId → List NodeId → Type 0
AreNoted t faults ks = All (λ k. has_node faults k ≡ not (is_bits (tree t k))) ks

-- ---- one node

not-not : (b : Bool) → not (not b) ≡ b
not-not true = refl
not-not false = refl

neither : (a b : Bool) → (not a || not b) ≡ not (a && b)
neither true true = refl
neither true false = refl
neither false b = refl

terms-list : (us : Terms) → terms (list us) ≡ us
terms-list none = refl
terms-list (u ⨾ us) = ap (λ vs. u ⨾ vs) (terms-list us)

any-fault : (t : Formulas) (faults ks : List NodeId) → AreNoted t faults ks → list_any (has_node faults) ks ≡ not (are_bits (terms (trees_at t ks)))
any-fault t faults [] noted = refl
any-fault t faults (k ∷ ks) noted =
    let first = All-head (λ j. has_node faults j ≡ not (is_bits (tree t j))) k ks noted in
    let rest = any-fault t faults ks (All-tail (λ j. has_node faults j ≡ not (is_bits (tree t j))) k ks noted) in
    (λ i. first i || rest i) ∙ neither (is_bits (tree t k)) (are_bits (terms (trees_at t ks)))

abbrev OperandsNoted : Formulas → List NodeId → Term → Type 0
OperandsNoted t faults u = is_open u ≡ true → (k : NodeId) → IsNode t k → has_term (operands_of u) (tree t k) ≡ true → has_node faults k ≡ not (is_bits (tree t k))

kids-noted : (t : Formulas) (faults ks : List NodeId) (us : List Term) → AreNodes t ks → trees_at t ks ≡ us → ((k : NodeId) → IsNode t k → has_term us (tree t k) ≡ true → has_node faults k ≡ not (is_bits (tree t k))) → AreNoted t faults ks
kids-noted t faults ks us nodes same told i d lt =
    let n = length-map ks (tree_in t.trees) in
    let at : get_or (trees_at t ks) i no_tree ≡ tree t (get_or ks i d) = get_or-map (tree_in t.trees) ks i d no_tree lt in
    told (get_or ks i d) (nodes i d lt) ((λ j. has_term (sym same j) (sym at j)) ∙ has-at (trees_at t ks) i no_tree (omega (arith, n)))

-- where a node is over bits without its operands, it is where none of them is a fault
pub over-bits : (t : Formulas) (faults ks : List NodeId) (u : Term) → is_plain u ≡ true → is_bits_sort (sort_of u) ≡ true → AreNodes t ks → trees_at t ks ≡ operands u → OperandsNoted t faults u → not (list_any (has_node faults) ks) ≡ is_bits u
over-bits t faults ks (quantified q xs body) plain sort nodes same noted = absurd cc
over-bits t faults ks (apply h us) plain sort nodes same noted =
    ap not (any-fault t faults ks (kids-noted t faults ks (list us) nodes same (noted refl)))
    ∙ not-not (are_bits (terms (trees_at t ks)))
    ∙ ap are_bits (ap terms same ∙ terms-list us)
    ∙ (λ i. (sym plain i && sym sort i) && are_bits us)

pub not-plain : (u : Term) → is_plain u ≡ false → is_bits u ≡ false
not-plain (quantified q xs body) e = refl
not-plain (apply h us) e = λ i. (e i && is_bits_sort (sort_of (apply h us))) && are_bits us

-- ---- one node after the other

has-with_node : (ks : List NodeId) (j k : NodeId) → has_node (with_node ks j) k ≡ (has_node ks k || (k.0 == j.0 || false))
has-with_node ks j k = by (has_node ks j) refl
  where
    again : (a e : Bool) → (e ≡ true → a ≡ true) → a ≡ (a || (e || false))
    again true e there = refl
    again false true there = there refl
    again false false there = refl

    by : (b : Bool) → has_node ks j ≡ b → has_node (cond b ks (ks ++ j ∷ [])) k ≡ (has_node ks k || (k.0 == j.0 || false))
    by true there = again (has_node ks k) (k.0 == j.0) (λ e. (let same = same-number k.0 j.0 e in (λ i. has_node ks (record { 0 = same i })) ∙ there))
    by false new = has_node-append ks (j ∷ []) k

-- what is known of the faults when the first n of these nodes were looked at
abbrev pub AreFaults : Formulas → List NodeId → List NodeId → ℕ → Type 0
AreFaults t faults ks n = (k : NodeId) → IsNode t k → has_node faults k ≡ (has_node (take n ks) k && not (is_bits (tree t k)))

module _ (t : Formulas) (ks old : List NodeId) (n : ℕ) (d : NodeId) (lt : n < length ks) (told : AreFaults t old ks n) where
  number-bits : (k : NodeId) (b : Bool) → is_bits (tree t (get_or ks n d)) ≡ b → (k.0 == (get_or ks n d).0) ≡ true → is_bits (tree t k) ≡ b
  number-bits k b is e = let same = same-number k.0 (get_or ks n d).0 e in (λ i. is_bits (tree t (record { 0 = same i }))) ∙ is

  one-more : (k : NodeId) → has_node (take (n + 1) ks) k ≡ (has_node (take n ks) k || (k.0 == (get_or ks n d).0 || false))
  one-more k = ap (λ js. has_node js k) (take_more ks n d lt) ∙ has_node-append (take n ks) (get_or ks n d ∷ []) k

  pub fault-more : (new : List NodeId) → is_bits (tree t (get_or ks n d)) ≡ false → new ≡ with_node old (get_or ks n d) → AreFaults t new ks (n + 1)
  fault-more new fault put k node =
      ap (λ js. has_node js k) put
      ∙ has-with_node old (get_or ks n d) k
      ∙ ap (λ b. b || (k.0 == (get_or ks n d).0 || false)) (told k node)
      ∙ both (has_node (take n ks) k) (k.0 == (get_or ks n d).0) (is_bits (tree t k)) (number-bits k false fault)
      ∙ ap (λ b. b && not (is_bits (tree t k))) (sym (one-more k))
    where
      both : (a e b : Bool) → (e ≡ true → b ≡ false) → ((a && not b) || (e || false)) ≡ ((a || (e || false)) && not b)
      both a true true here = let no : true ≡ false = here refl in absurd cc
      both true true false here = refl
      both false true false here = refl
      both true false true here = refl
      both false false true here = refl
      both true false false here = refl
      both false false false here = refl

  pub fine-more : (new : List NodeId) → is_bits (tree t (get_or ks n d)) ≡ true → new ≡ old → AreFaults t new ks (n + 1)
  fine-more new fine same k node =
      ap (λ js. has_node js k) same
      ∙ told k node
      ∙ both (has_node (take n ks) k) (k.0 == (get_or ks n d).0) (is_bits (tree t k)) (number-bits k true fine)
      ∙ ap (λ b. b && not (is_bits (tree t k))) (sym (one-more k))
    where
      both : (a e b : Bool) → (e ≡ true → b ≡ true) → (a && not b) ≡ ((a || (e || false)) && not b)
      both a true false here = let no : false ≡ true = here refl in absurd cc
      both true true true here = refl
      both false true true here = refl
      both true false true here = refl
      both false false true here = refl
      both true false false here = refl
      both false false false here = refl

-- ---- the roots

-- of a node that was looked at
pub fault-known : (t : Formulas) (faults ks : List NodeId) (n : ℕ) (k : NodeId) → AreFaults t faults ks n → IsNode t k → has_node (take n ks) k ≡ true → has_node faults k ≡ not (is_bits (tree t k))
fault-known t faults ks n k told node there = told k node ∙ ap (λ b. b && not (is_bits (tree t k))) there

pub roots-noted : (t : Formulas) → IsTable t → (faults ks roots : List NodeId) → AreSubterms t (trees_at t roots) ks → AreNodes t roots → ((k : NodeId) → IsNode t k → has_node faults k ≡ (has_node ks k && not (is_bits (tree t k)))) → AreNoted t faults roots
roots-noted t table faults ks roots are nodes told i d lt =
    let k = get_or roots i d in
    let n = length-map roots (tree_in t.trees) in
    let at : get_or (trees_at t roots) i no_tree ≡ tree t k = get_or-map (tree_in t.trees) roots i d no_tree lt in
    let there : has_term (trees_at t ks) (tree t k) ≡ true = ap (has_term (trees_at t ks)) (sym at) ∙ are.among i no_tree (omega (arith, n)) in
    told k (nodes i d lt) ∙ ap (λ b. b && not (is_bits (tree t k))) (sym (term-among t table k (nodes i d lt) ks are.order.nodes) ∙ there)

fine-not : (b : Bool) → not b ≡ false → b ≡ true
fine-not true e = refl
fine-not false e = absurd cc

fault-not : (b : Bool) → not b ≡ true → b ≡ false
fault-not true e = absurd cc
fault-not false e = refl

pub first-fault : (t : Formulas) (faults roots : List NodeId) → AreNoted t faults roots → MatchOption (position (has_node faults) roots) (All (λ u. is_bits u ≡ true) (trees_at t roots)) (IsFirstFault (trees_at t roots))
first-fault t faults roots noted = by (nat_lt place (length roots)) refl
  where
    first : NodeId
    first = record { 0 = 0 }

    place : ℕ
    place = position_or_len (has_node faults) roots

    at : (i : ℕ) → i < length roots → get_or (trees_at t roots) i no_tree ≡ tree t (get_or roots i first)
    at i lt = get_or-map (tree_in t.trees) roots i first no_tree lt

    bits-at : (i : ℕ) → i < length roots → i < place → is_bits (tree t (get_or roots i first)) ≡ true
    bits-at i lt before = fine-not (is_bits (tree t (get_or roots i first))) (sym (noted i first lt) ∙ fails_before_first (has_node faults) roots i first before)

    by : (b : Bool) → nat_lt place (length roots) ≡ b → MatchOption (cond b (Some place) None) (All (λ u. is_bits u ≡ true) (trees_at t roots)) (IsFirstFault (trees_at t roots))
    by true e =
        let within : place < length roots = ltb-true place (length roots) e in
        let n = length-map roots (tree_in t.trees) in
        record {
          within = omega (arith, n);
          here = ap is_bits (at place within) ∙ fault-not (is_bits (tree t (get_or roots place first))) (sym (noted place first within) ∙ passes_at_first (has_node faults) roots first within);
          before = λ i lt. ap is_bits (at i (omega arith)) ∙ bits-at i (omega arith) lt;
        }
    by false e =
        let past : length roots ≤ place = ltb-false place (length roots) e in
        All-map (λ u. is_bits u ≡ true) (tree_in t.trees) roots (λ i d lt. ap (λ k. is_bits (tree t k)) (get_or_default roots i d first lt) ∙ bits-at i lt (omega arith))
