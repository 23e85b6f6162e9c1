-- What is said of the constants of two applications, and of all of them in order.
use Rattle.std.proofs.Common.{◌≡◌, List, [], ◌∷◌, ◌++◌, append_assoc, append-nil, get_or, All, refl, ap, sym, ◌∙◌, subst}
use Rattle.std.specs.List.{flat_map}
use Rattle.std.proofs.lemmas.List.Elements.{All-nil, All-cons, All-head, All-tail, All-append, All-push, All-weaker}
use Rattle.smt_terms.specs.Connectives.{implies, equal}
use Rattle.smt_terms.specs.Equal.{symbol_eq}
use Rattle.smt_terms.specs.Groups.{Named, with_constants, with_constants_each, where_so}
use Rattle.smt_terms.specs.Sorts.{Symbol}
use Rattle.smt_terms.specs.Term.{symbol, Term, apply, quantified, Terms, none, ◌⨾◌, constant}
use Rattle.ackermann.specs.Ackermann.{equations, all_equal, pair, pairs}
use Rattle.ackermann.proofs.UseLists.{All-flat_map, All-from_flat_map, All-first, All-second}

-- ---- equations of operands

abbrev pub equated : Terms → Terms → List Term
equated (r ⨾ rs) (q ⨾ qs) = equal r q ∷ equated rs qs
equated _ _ = []

pub equations-equated : (ns : Named) (ts ss : Terms) → equations ns ts ss ≡ equated (with_constants_each ns ts) (with_constants_each ns ss)
equations-equated ns none ss = refl
equations-equated ns (t ⨾ ts) none = refl
equations-equated ns (t ⨾ ts) (s ⨾ ss) = ap (λ es. equal (with_constants ns t) (with_constants ns s) ∷ es) (equations-equated ns ts ss)

-- ---- the same with other constants, where these change nothing in the operands

abbrev pub OperandsKept : (ns ms : Named) → Term → Type 0
OperandsKept ns ms (apply h ts) = with_constants_each ns ts ≡ with_constants_each ms ts
OperandsKept ns ms (quantified q xs body) = Unit {0}

pair-kept : (ns ms : Named) (u : Symbol) (a : Term) (v : Symbol) (b : Term) → OperandsKept ns ms a → OperandsKept ns ms b → pair ns u a v b ≡ pair ms u a v b
pair-kept ns ms u (apply (symbol f) ts) v (apply (symbol g) ss) first second =
    ap (λ es. where_so (symbol_eq f g) (implies (all_equal es) (equal (constant u) (constant v)) ∷ []))
    (equations-equated ns ts ss ∙ (λ i. equated (first i) (second i)) ∙ sym (equations-equated ms ts ss))
pair-kept ns ms u _ v _ first second = refl

flat_map-alike : {X : Type 0} (f g : X → List Term) (xs : List X) → All (λ x. f x ≡ g x) xs → flat_map f xs ≡ flat_map g xs
flat_map-alike f g [] all = refl
flat_map-alike f g (x ∷ xs) all =
    let first = All-head (λ y. f y ≡ g y) x xs all in
    let others = flat_map-alike f g xs (All-tail (λ y. f y ≡ g y) x xs all) in
    λ i. first i ++ others i

abbrev pub Kept : (ns ms : Named) → Symbol × Term → Type 0
Kept ns ms p = OperandsKept ns ms p.1

pub pairs-kept : (ns ms earlier new : Named) → All (Kept ns ms) earlier → All (Kept ns ms) new → pairs ns earlier new ≡ pairs ms earlier new
pairs-kept ns ms earlier [] before all = refl
pairs-kept ns ms earlier (n ∷ new) before all =
    let here = All-head (Kept ns ms) n new all in
    let first = flat_map-alike (λ e. pair ns e.0 e.1 n.0 n.1) (λ e. pair ms e.0 e.1 n.0 n.1) earlier
    (All-weaker (Kept ns ms) (λ e. pair ns e.0 e.1 n.0 n.1 ≡ pair ms e.0 e.1 n.0 n.1) (λ e kept. pair-kept ns ms e.0 e.1 n.0 n.1 kept here) earlier before) in
    let others = pairs-kept ns ms (earlier ++ n ∷ []) new (All-push (Kept ns ms) earlier n before here) (All-tail (Kept ns ms) n new all) in
    λ i. first i ++ others i

pub pairs-append : (ns earlier first second : Named) → pairs ns earlier (first ++ second) ≡ pairs ns earlier first ++ pairs ns (earlier ++ first) second
pairs-append ns earlier [] second = ap (λ es. pairs ns es second) (sym (append-nil earlier))
pairs-append ns earlier (n ∷ first) second =
    let here : List Term = flat_map (λ e. pair ns e.0 e.1 n.0 n.1) earlier in
    ap (λ ts. here ++ ts) (pairs-append ns (earlier ++ n ∷ []) first second)
    ∙ ap (λ es. here ++ (pairs ns (earlier ++ n ∷ []) first ++ pairs ns es second)) (append_assoc earlier (n ∷ []) first)
    ∙ sym (append_assoc here (pairs ns (earlier ++ n ∷ []) first) (pairs ns (earlier ++ n ∷ first) second))

-- ---- what holds of all pairs

module _ (P : Term → Type 0) (ns : Named) where
  abbrev pub OfPair : (p q : Symbol × Term) → Type 0
  OfPair p q = All P (pair ns p.0 p.1 q.0 q.1)

  -- what holds of the pairs of any two
  pub pairs-all : (Good : Symbol × Term → Type 0) → ((p q : Symbol × Term) → Good p → Good q → OfPair p q) → (earlier new : Named) → All Good earlier → All Good new → All P (pairs ns earlier new)
  pairs-all Good gives earlier [] before all = All-nil P
  pairs-all Good gives earlier (n ∷ new) before all =
      let here = All-head Good n new all in
      All-append P (flat_map (λ e. pair ns e.0 e.1 n.0 n.1) earlier) (pairs ns (earlier ++ n ∷ []) new)
      (All-flat_map P (λ e. pair ns e.0 e.1 n.0 n.1) earlier (All-weaker Good (λ e. OfPair e n) (λ e good. gives e n good here) earlier before))
      (pairs-all Good gives (earlier ++ n ∷ []) new (All-push Good earlier n before here) (All-tail Good n new all))

  -- any two of them are one, or are a pair in one of the two orders
  pub data Linked (p q : Symbol × Term) : Type 0 where
    before : OfPair p q → Linked p q
    after : OfPair q p → Linked p q
    itself : p ≡ q → Linked p q

  turned : (p q : Symbol × Term) → Linked p q → Linked q p
  turned p q (before said) = after said
  turned p q (after said) = before said
  turned p q (itself e) = itself (sym e)

  abbrev pub LinkedTo : Named → Symbol × Term → Type 0
  LinkedTo ps q = All (λ p. Linked p q) ps

  linked-with : (earlier new : Named) → All P (pairs ns earlier new) → All (LinkedTo (earlier ++ new)) new
  linked-with earlier [] all = All-nil (LinkedTo (earlier ++ []))
  linked-with earlier (n ∷ new) all =
      let said = All-from_flat_map P (λ e. pair ns e.0 e.1 n.0 n.1) earlier (All-first P (flat_map (λ e. pair ns e.0 e.1 n.0 n.1) earlier) (pairs ns (earlier ++ n ∷ []) new) all) in
      let others : All (LinkedTo ((earlier ++ n ∷ []) ++ new)) new = linked-with (earlier ++ n ∷ []) new (All-second P (flat_map (λ e. pair ns e.0 e.1 n.0 n.1) earlier) (pairs ns (earlier ++ n ∷ []) new) all) in
      let same : (earlier ++ n ∷ []) ++ new ≡ earlier ++ n ∷ new = append_assoc earlier (n ∷ []) new in
      let behind : All (λ q. Linked q n) new = λ k d less. turned n (get_or new k d) (All-head (λ p. Linked p (get_or new k d)) n new (All-second (λ p. Linked p (get_or new k d)) earlier (n ∷ new) (subst (λ es. LinkedTo es (get_or new k d)) same (others k d less)))) in
      All-cons (LinkedTo (earlier ++ n ∷ new)) n new
      (All-append (λ p. Linked p n) earlier (n ∷ new)
      (All-weaker (λ e. OfPair e n) (λ p. Linked p n) (λ e there. before there) earlier said)
      (All-cons (λ p. Linked p n) n new (itself refl) behind))
      (subst (λ es. All (LinkedTo es) new) same others)

  pub all-linked : (new : Named) → All P (pairs ns [] new) → All (LinkedTo new) new
  all-linked new all = linked-with [] new all
