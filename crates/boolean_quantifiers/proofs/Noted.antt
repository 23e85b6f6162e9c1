-- Notes are kept and found by the numbers of nodes.
use Rattle.std.proofs.Common.{◌≡◌, ℕ, suc, ◌<◌, ◌==◌, ◌||◌, Bool, true, false, cond, if◌then◌else◌, List, [], ◌∷◌, ◌++◌, length, map, get_or, Option, Some, None, is_some, refl, ap, sym, ◌∙◌, subst, arith}
use Rattle.std.specs.List.{list_any}
use Rattle.std.specs.Map.{lookup}
use Rattle.std.proofs.lemmas.List.{get_or-map, length-map}
use Rattle.smt_terms.specs.declared.ids.NodeId.{NodeId}
use Rattle.smt_terms.specs.contracts.ids.NodeIdPartialEq.TheImpl.{ghosts}
use Rattle.smt_terms.specs.Equal.{term_eq}
use Rattle.smt_terms.specs.Term.{Term, apply, quantified, Terms, none, ◌⨾◌, list, variable}
use Rattle.smt_terms.proofs.Equal.{Decides-term_eq}
use Rattle.smt_terms.proofs.Tests.{both_true, and_true, or_false, not_true}
use Rattle.term_table.specs.Formulas.{Formulas, no_tree, tree, tree_in, trees_at, operands, IsNode, IsTable}
use Rattle.term_walk.specs.FreeLists.{has_node}
use Rattle.term_walk.specs.Walking.{GrowsTo}
use Rattle.normal_forms.specs.Prenex.{quantifiers, quantifiers_of}
use Rattle.term_walk.specs.Binders.{is_quantified}
use Rattle.quantifier_forms.proofs.Stands.{same-number, number-same}
use Rattle.boolean_quantifiers.specs.declared.occurrences.Held.{Held}
use Rattle.boolean_quantifiers.specs.Occurrences.{Notes, note_of, occurs, occurs_each, is_noted, note_lacks, note_is_plain, is_plain, AreTrue, IsHeld}

turned : (i j : NodeId) → (i.0 == j.0) ≡ (j.0 == i.0)
turned i j = by (i.0 == j.0) (j.0 == i.0) refl refl
  where
    by : (a b : Bool) → (i.0 == j.0) ≡ a → (j.0 == i.0) ≡ b → a ≡ b
    by true true e f = refl
    by false false e f = refl
    by true false e f = let yes : (j.0 == i.0) ≡ true = number-same j.0 i.0 (sym (same-number i.0 j.0 e)) in absurd cc
    by false true e f = let yes : (i.0 == j.0) ≡ true = number-same i.0 j.0 (sym (same-number j.0 i.0 f)) in absurd cc

pub contains-node : (ks : List NodeId) (c : NodeId) → list_any (λ y. ghosts.eq y c) ks ≡ has_node ks c
contains-node [] c = refl
contains-node (k ∷ ks) c = λ i. turned k c i || contains-node ks c i

pub note-lookup : (ps : Notes) (k : NodeId) → note_of ps k ≡ lookup (ghosts.eq k) ps
note-lookup [] k = refl
note-lookup (p ∷ ps) k = by (note-lookup ps k) (k.0 == p.0.0)
  where
    by : note_of ps k ≡ lookup (ghosts.eq k) ps → (b : Bool) → (if b then Some p.1 else note_of ps k) ≡ cond {A = Option Held} b (Some p.1) (lookup (ghosts.eq k) ps)
    by rest true = refl
    by rest false = rest

-- ---- what occurs in a node occurs in an operand, or is the node

apart-each : (c : Term) (ts : Terms) → ((i : ℕ) → i < length (list ts) → occurs c (get_or (list ts) i no_tree) ≡ false) → occurs_each c ts ≡ false
apart-each c none apart = refl
apart-each c (t ⨾ ts) apart = or_false (occurs c t) (occurs_each c ts) (apart 0 (omega arith)) (apart-each c ts (λ i lt. apart (suc i) (omega arith)))

last-apart : (c : Term) (us : List Term) (t : Term) → ((i : ℕ) → i < length (us ++ t ∷ []) → occurs c (get_or (us ++ t ∷ []) i no_tree) ≡ false) → occurs c t ≡ false
last-apart c [] t apart = apart 0 (omega arith)
last-apart c (u ∷ us) t apart = last-apart c us t (λ i lt. apart (suc i) (omega arith))

apart-from-all : (c u : Term) → term_eq c u ≡ false → ((i : ℕ) → i < length (operands u) → occurs c (get_or (operands u) i no_tree) ≡ false) → occurs c u ≡ false
apart-from-all c (apply h ts) other apart = or_false (term_eq c (apply h ts)) (occurs_each c ts) other (apart-each c ts apart)
apart-from-all c (quantified q xs body) other apart = or_false (term_eq c (quantified q xs body)) (occurs c body) other (last-apart c (map variable xs) body apart)

none-each : (ts : Terms) → ((i : ℕ) → i < length (list ts) → quantifiers (get_or (list ts) i no_tree) ≡ 0) → quantifiers_of ts ≡ 0
none-each none each = refl
none-each (t ⨾ ts) each =
    let first = each 0 (omega arith) in
    let rest = none-each ts (λ i lt. each (suc i) (omega arith)) in
    omega (arith, first, rest)

none-applied : (u : Term) → is_quantified u ≡ false → ((i : ℕ) → i < length (operands u) → quantifiers (get_or (operands u) i no_tree) ≡ 0) → quantifiers u ≡ 0
none-applied (apply h ts) plain each = none-each ts each
none-applied (quantified q xs body) plain each = absurd cc

module _ (t : Formulas) (cs : List NodeId) (ns : Notes) (true_notes : AreTrue t cs ns) (id : NodeId) (kids : List NodeId) (same : trees_at t kids ≡ operands (tree t id)) where
  kid-term : (i : ℕ) (d : NodeId) → i < length kids → get_or (operands (tree t id)) i no_tree ≡ tree t (get_or kids i d)
  kid-term i d lt = ap (λ us. get_or us i no_tree) (sym same) ∙ get_or-map (tree_in t.trees) kids i d no_tree lt

  kid-count : length (operands (tree t id)) ≡ length kids
  kid-count = ap length (sym same) ∙ length-map kids (tree_in t.trees)

  -- a candidate that isn't in a list which has the node's own and all that is noted of the operands
  pub unlisted-apart : (ls : List NodeId) (c : NodeId) → IsTable t → IsNode t id → IsNode t c → has_node cs c ≡ true → has_node ls c ≡ false → (has_node cs id ≡ true → has_node ls id ≡ true)
      → ((i : ℕ) (d c : NodeId) → i < length kids → has_node ls c ≡ false → note_lacks (note_of ns (get_or kids i d)) c ≡ true) → occurs (tree t c) (tree t id) ≡ false
  unlisted-apart ls c table node there candidate unlisted own each =
      apart-from-all (tree t c) (tree t id) (by (term_eq (tree t c) (tree t id)) refl)
      (λ i lt.
      let n = kid-count in
      ap (occurs (tree t c)) (kid-term i c (omega (arith, n)))
      ∙ true_notes.lacking c (get_or kids i c) there (and_true (has_node cs c) (note_lacks (note_of ns (get_or kids i c)) c) candidate (each i c c (omega (arith, n)) unlisted)))
    where
      by : (b : Bool) → term_eq (tree t c) (tree t id) ≡ b → b ≡ false
      by false e = refl
      by true e =
          let number : c.0 ≡ id.0 = table.one_tree c.0 id.0 there node ((Decides-term_eq (tree t c) (tree t id)).0 e) in
          let key : c ≡ id = λ i. record { 0 = number i } in
          let listed : has_node ls c ≡ true = ap (has_node ls) key ∙ own (ap (has_node cs) (sym key) ∙ candidate) in
          absurd cc

  pub plain-below : is_quantified (tree t id) ≡ false → ((i : ℕ) (d : NodeId) → i < length kids → is_plain ns (get_or kids i d) ≡ true) → quantifiers (tree t id) ≡ 0
  plain-below plain each =
      none-applied (tree t id) plain (λ i lt.
      let n = kid-count in
      let zero_node : NodeId = record { 0 = 0 } in
      ap quantifiers (kid-term i zero_node (omega (arith, n))) ∙ true_notes.plain (get_or kids i zero_node) (each i zero_node (omega (arith, n))))

-- ---- one note more

pub notes-more : (t : Formulas) (cs : List NodeId) (old new : Notes) (id : NodeId) (h : Held) → IsNode t id → AreTrue t cs old → IsHeld t cs id h → ((q : NodeId) → lookup (ghosts.eq q) new ≡ cond {A = Option Held} (ghosts.eq id q) (Some h) (lookup (ghosts.eq q) old)) → AreTrue t cs new
notes-more t cs old new id h node true_notes held told = record {
  nodes = λ k e. nodes k (id.0 == k.0) refl e;
  lacking = λ c k there e. let parts = both_true (has_node cs c) (note_lacks (note_of new k) c) e in lacking c k there parts.0 (id.0 == k.0) refl parts.1;
  plain = λ k e. plain k (id.0 == k.0) refl e;
}
  where
    found : (k : NodeId) (b : Bool) → (id.0 == k.0) ≡ b → note_of new k ≡ cond {A = Option Held} b (Some h) (note_of old k)
    found k b e = note-lookup new k ∙ told k ∙ (λ i. cond {A = Option Held} (e i) (Some h) (sym (note-lookup old k) i))

    key : (k : NodeId) → (id.0 == k.0) ≡ true → id ≡ k
    key k e = let n = same-number id.0 k.0 e in λ i. record { 0 = n i }

    nodes : (k : NodeId) (b : Bool) → (id.0 == k.0) ≡ b → is_noted new k ≡ true → IsNode t k
    nodes k true e f = subst (IsNode t) (key k e) node
    nodes k false e f = true_notes.nodes k (ap is_some (sym (found k false e)) ∙ f)

    lacking : (c k : NodeId) → IsNode t c → has_node cs c ≡ true → (b : Bool) → (id.0 == k.0) ≡ b → note_lacks (note_of new k) c ≡ true → occurs (tree t c) (tree t k) ≡ false
    lacking c k there candidate true e f = subst (λ (j : NodeId). occurs (tree t c) (tree t j) ≡ false) (key k e) (held.lacking c there candidate (ap (λ o. note_lacks o c) (sym (found k true e)) ∙ f))
    lacking c k there candidate false e f = true_notes.lacking c k there (and_true (has_node cs c) (note_lacks (note_of old k) c) candidate (ap (λ o. note_lacks o c) (sym (found k false e)) ∙ f))

    plain : (k : NodeId) (b : Bool) → (id.0 == k.0) ≡ b → is_plain new k ≡ true → quantifiers (tree t k) ≡ 0
    plain k true e f = subst (λ (j : NodeId). quantifiers (tree t j) ≡ 0) (key k e) (held.plain (not_true h.binds (ap note_is_plain (sym (found k true e)) ∙ f)))
    plain k false e f = true_notes.plain k (ap note_is_plain (sym (found k false e)) ∙ f)

pub no-notes : (t : Formulas) (cs : List NodeId) → AreTrue t cs []
no-notes t cs = record { nodes = λ k e. absurd cc; lacking = λ c k there e. let parts = both_true (has_node cs c) false e in let no = parts.1 in absurd cc; plain = λ k e. absurd cc }

pub notes-stay : (old new : Formulas) (cs : List NodeId) (ns : Notes) → GrowsTo old new → ((c : NodeId) → has_node cs c ≡ true → IsNode old c) → AreTrue old cs ns → AreTrue new cs ns
notes-stay old new cs ns grows candidates true_notes = record {
  nodes = λ k e. let node = true_notes.nodes k e in let longer = grows.trees.longer in omega arith;
  lacking = λ c k there e.
      let parts = both_true (has_node cs c) (note_lacks (note_of ns k) c) e in
      let key = candidates c parts.0 in
      let node = true_notes.nodes k (some-note (note_of ns k) c parts.1) in
      (λ i. occurs (grows.trees.same c.0 no_tree key i) (grows.trees.same k.0 no_tree node i)) ∙ true_notes.lacking c k key e;
  plain = λ k e.
      let node = true_notes.nodes k (plain-note (note_of ns k) e) in
      ap quantifiers (grows.trees.same k.0 no_tree node) ∙ true_notes.plain k e;
}
  where
    some-note : (o : Option Held) (c : NodeId) → note_lacks o c ≡ true → is_some o ≡ true
    some-note (Some h) c e = refl
    some-note None c e = absurd cc

    plain-note : (o : Option Held) → note_is_plain o ≡ true → is_some o ≡ true
    plain-note (Some h) e = refl
    plain-note None e = absurd cc
