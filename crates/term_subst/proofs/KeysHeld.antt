-- Keys are told apart by their nodes and cut maps, and results that are kept are found from either end.
use Rattle.std.proofs.Common.{◌≡◌, ◌==◌, ◌&&◌, Bool, true, false, if◌then◌else◌, List, [], ◌∷◌, ◌++◌, reverse, Option, Some, None, refl, ap, sym, ◌∙◌}
use Rattle.std.specs.Map.{lookup}
use Rattle.std.proofs.lemmas.Bool.Decides.{Decides-eqb}
use Rattle.std.proofs.lemmas.List.{reverse-append}
use Rattle.std.proofs.lemmas.Slice.Eq.{slice_eq-Decides}
use Rattle.std.specs.Bool.{Decides}
use lib.Pointwise.{pointwise}
use Rattle.smt_terms.specs.declared.ids.NodeId.{NodeId}
use Rattle.smt_terms.specs.declared.ids.SymId.{SymId}
use Rattle.smt_terms.proofs.Tests.{both_true, and_true, alike_from}
use Rattle.term_subst.specs.declared.chosen.Key.{Key}
use Rattle.term_subst.specs.contracts.chosen.KeyPartialEq.TheImpl.{ghosts}
use Rattle.term_subst.specs.Keys.{pairs_eq, is_key, chosen_in, ReadsAlike}
use Rattle.term_subst.specs.Maps.{Pairs}

abbrev pub key_eq : Key → Key → Bool
key_eq = ghosts.eq

-- ---- when keys are equal

abbrev pair_eq : SymId × NodeId → SymId × NodeId → Bool
pair_eq p q = (p.0.0 == q.0.0) && (p.1.0 == q.1.0)

pair-ids : (p q : SymId × NodeId) → Decides (pair_eq p q) (p ≡ q)
pair-ids p q = (
  (λ e.
      (let parts = both_true (p.0.0 == q.0.0) (p.1.0 == q.1.0) e in
      let key : p.0.0 ≡ q.0.0 = (Decides-eqb p.0.0 q.0.0).0 parts.0 in
      let image : p.1.0 ≡ q.1.0 = (Decides-eqb p.1.0 q.1.0).0 parts.1 in
      λ i. (record { 0 = key i }, record { 0 = image i }))),
  (λ e. and_true (p.0.0 == q.0.0) (p.1.0 == q.1.0) ((Decides-eqb p.0.0 q.0.0).1 (ap (λ r. r.0.0) e)) ((Decides-eqb p.1.0 q.1.0).1 (ap (λ r. r.1.0) e))),
)

pairs_eq-same : (ps qs : Pairs) → pairs_eq ps qs ≡ true → ps ≡ qs
pairs_eq-same [] [] e = refl
pairs_eq-same [] (q ∷ qs) e = absurd cc
pairs_eq-same (p ∷ ps) [] e = absurd cc
pairs_eq-same (p ∷ ps) (q ∷ qs) e =
    let first = both_true (p.0.0 == q.0.0) ((p.1.0 == q.1.0) && pairs_eq ps qs) e in
    let second = both_true (p.1.0 == q.1.0) (pairs_eq ps qs) first.1 in
    let here = (pair-ids p q).0 (and_true (p.0.0 == q.0.0) (p.1.0 == q.1.0) first.0 second.0) in
    let rest = pairs_eq-same ps qs second.1 in
    λ i. here i ∷ rest i

pairs_eq-own : (ps : Pairs) → pairs_eq ps ps ≡ true
pairs_eq-own [] = refl
pairs_eq-own (p ∷ ps) =
    and_true (p.0.0 == p.0.0) ((p.1.0 == p.1.0) && pairs_eq ps ps) ((Decides-eqb p.0.0 p.0.0).1 refl)
    (and_true (p.1.0 == p.1.0) (pairs_eq ps ps) ((Decides-eqb p.1.0 p.1.0).1 refl) (pairs_eq-own ps))

-- the parts of a key
pub is_key-parts : (key : Key) (k : NodeId) (ps : Pairs) → is_key key k ps ≡ true → (key.cut.items ≡ ps) × (key.node ≡ k)
is_key-parts key k ps e =
    let parts = both_true (pairs_eq key.cut.items ps) (key.node.0 == k.0) e in
    let number : key.node.0 ≡ k.0 = (Decides-eqb key.node.0 k.0).0 parts.1 in
    (pairs_eq-same key.cut.items ps parts.0, λ i. record { 0 = number i })

is_key-from : (key : Key) (k : NodeId) (ps : Pairs) → key.cut.items ≡ ps → key.node ≡ k → is_key key k ps ≡ true
is_key-from key k ps cut node =
    and_true (pairs_eq key.cut.items ps) (key.node.0 == k.0) (ap (pairs_eq key.cut.items) (sym cut) ∙ pairs_eq-own key.cut.items) ((Decides-eqb key.node.0 k.0).1 (ap (λ n. n.0) node))

key_eq-is_key : (q key : Key) → key_eq q key ≡ is_key key q.node q.cut.items
key_eq-is_key q key =
    let cuts = slice_eq-Decides pair-ids q.cut.items key.cut.items (pointwise pair_eq q.cut.items key.cut.items) refl in
    alike_from (key_eq q key) (is_key key q.node q.cut.items)
    (λ e.
    (let parts = both_true (q.node.0 == key.node.0) (pointwise pair_eq q.cut.items key.cut.items) e in
    let number : q.node.0 ≡ key.node.0 = (Decides-eqb q.node.0 key.node.0).0 parts.0 in
    is_key-from key q.node q.cut.items (sym (cuts.0 parts.1)) (λ i. record { 0 = sym number i })))
    (λ e.
    (let parts = is_key-parts key q.node q.cut.items e in
    and_true (q.node.0 == key.node.0) (pointwise pair_eq q.cut.items key.cut.items) ((Decides-eqb q.node.0 key.node.0).1 (ap (λ n. n.0) (sym parts.1))) (cuts.1 (sym parts.0))))

pub chosen_in-lookup : (es : List (Key × NodeId)) (q : Key) → lookup (key_eq q) es ≡ chosen_in es q.node q.cut.items
chosen_in-lookup [] q = refl
chosen_in-lookup (e ∷ es) q = λ i. if key_eq-is_key q e.0 i then Some e.1 else chosen_in-lookup es q i

-- ---- one more result, of a key that had none

found-before : (b : Bool) (r : NodeId) (o : Option NodeId) → Option NodeId
found-before b r (Some u) = Some u
found-before b r None = if b then Some r else None

chosen_in-push : (es : List (Key × NodeId)) (key : Key) (r : NodeId) (k : NodeId) (ps : Pairs) → chosen_in (es ++ (key, r) ∷ []) k ps ≡ found-before (is_key key k ps) r (chosen_in es k ps)
unfolding found-before
chosen_in-push [] key r k ps = refl
chosen_in-push (e ∷ es) key r k ps = by (is_key e.0 k ps) (chosen_in-push es key r k ps)
  where
    by : (b : Bool) → chosen_in (es ++ (key, r) ∷ []) k ps ≡ found-before (is_key key k ps) r (chosen_in es k ps)
        → (if b then Some e.1 else chosen_in (es ++ (key, r) ∷ []) k ps) ≡ found-before (is_key key k ps) r (if b then Some e.1 else chosen_in es k ps)
    by true rest = refl
    by false rest = rest

reverse-push : (es : List (Key × NodeId)) (e : Key × NodeId) → reverse (es ++ e ∷ []) ≡ e ∷ reverse es
reverse-push es e = reverse-append es (e ∷ [])

module _ (es more : List (Key × NodeId)) (key : Key) (r : NodeId) (pushed : more ≡ es ++ (key, r) ∷ []) where
  pub chosen-put : reverse more ≡ (key, r) ∷ reverse es
  chosen-put = ap reverse pushed ∙ reverse-push es (key, r)

  pub reads-alike : ReadsAlike es → chosen_in es key.node key.cut.items ≡ None → ReadsAlike more
  unfolding found-before
  reads-alike alike new k ps =
      ap (λ ds. chosen_in ds k ps) chosen-put ∙ by (is_key key k ps) refl ∙ sym (chosen_in-push es key r k ps) ∙ ap (λ ds. chosen_in ds k ps) (sym pushed)
    where
      by : (b : Bool) → is_key key k ps ≡ b → (if b then Some r else chosen_in (reverse es) k ps) ≡ found-before b r (chosen_in es k ps)
      by true e =
          let parts = is_key-parts key k ps e in
          let none : chosen_in es k ps ≡ None = (λ i. chosen_in es (sym parts.1 i) (sym parts.0 i)) ∙ new in
          ap (found-before true r) (sym none)
      by false e = alike k ps ∙ same (chosen_in es k ps)
        where
          same : (o : Option NodeId) → o ≡ found-before false r o
          same (Some u) = refl
          same None = refl
