-- New applications that become live, one after the other, each with what it has to do with those of its function before it.
use Rattle.std.proofs.Common.{◌≡◌, ℕ, zero, suc, ◌+◌, ◌<◌, ◌==◌, Bool, true, false, cond, List, [], ◌∷◌, ◌++◌, append_assoc, append-nil, length, map, get_or, take, slice_get, All, Some, None, refl, ap, sym, ◌∙◌, subst, arith}
use Rattle.std.specs.Prelude.{is_none}
use Rattle.std.specs.List.{flat_map}
use Rattle.std.proofs.lemmas.Bool.Decides.{Decides-eqb}
use Rattle.std.proofs.lemmas.List.{length-map, length-take, map-append, take-append-le, take_more}
use Rattle.std.proofs.lemmas.List.Elements.{All-head, All-tail, All-push, All-map}
use Rattle.std.proofs.lemmas.Option.{get_or_from_slice_get, slice_get_within}
use Rattle.smt_terms.specs.declared.ids.NodeId.{NodeId}
use Rattle.smt_terms.specs.declared.ids.SymId.{SymId}
use Rattle.smt_terms.specs.Connectives.{implies, equal}
use Rattle.smt_terms.specs.Equal.{symbol_eq, term_eq}
use Rattle.smt_terms.specs.Groups.{Named, has_term, constant_for, with_constants, where_so}
use Rattle.smt_terms.specs.Sorts.{Symbol}
use Rattle.smt_terms.specs.Term.{Term, terms, constant}
use Rattle.smt_terms.proofs.Equal.{Decides-term_eq, Decides-symbol_eq}
use Rattle.smt_terms.proofs.Tests.{both_true, contrary}
use Rattle.term_table.specs.Formulas.{Formulas, tree, symbol_at, operands, IsNode, IsSymbol, IsTable}
use Rattle.term_walk.specs.Walking.{GrowsTo}
use Rattle.term_walk.proofs.Members.{has-at}
use Rattle.term_subst.proofs.Growing.{tree-grows, node-grows, trees-grow, symbol-grows}
use Rattle.quantifier_forms.specs.Memos.{Results}
use Rattle.quantifier_forms.specs.Rebuilding.{IsLike}
use Rattle.term_groups.specs.declared.constants.Constants.{Constants}
use Rattle.term_groups.specs.Grouping.{terms_of}
use Rattle.term_groups.specs.Replacing.{AreApart, AreOperandsReplaced, IsDone, AreOperandsFit}
use Rattle.term_groups.specs.Seen.{named_at}
use Rattle.term_groups.proofs.NamedTerms.{All-of_terms}
use Rattle.term_groups.proofs.ReplacedNodes.{of-pair, at-pair, constant-at, done-stays, operands-fit}
use Rattle.ackermann.specs.Ackermann.{equations, all_equal, pair, pairs}
use Rattle.ackermann.specs.declared.uses.LiveUse.{LiveUse}
use Rattle.ackermann.specs.LiveUses.{constant_in, named_uses, is_use_of, uses_of, equal_each, said, IsUseIn, IsSettled, AreUsesIn}
use Rattle.ackermann.specs.Removals.{is_use}
use Rattle.ackermann.specs.Replacing.{is_new_use, AreNewConstants, all_named}
use Rattle.ackermann.proofs.FoundUses.{missing-first, is-none, absent-use, use-over}
use Rattle.ackermann.proofs.GrownUses.{use-grows, named-stay}
use Rattle.ackermann.proofs.SettledUses.{fewer-constants, closed-each}
use Rattle.ackermann.proofs.UsePairs.{pairs-append}

-- ---- what is said of a new application

each-equations : (ns : Named) (ts us : List Term) → equations ns (terms ts) (terms us) ≡ equal_each (map (with_constants ns) ts) (map (with_constants ns) us)
each-equations ns [] us = refl
each-equations ns (t ∷ ts) [] = refl
each-equations ns (t ∷ ts) (u ∷ us) = ap (λ es. equal (with_constants ns t) (with_constants ns u) ∷ es) (each-equations ns ts us)

same-functions : (t : Formulas) → IsTable t → (f g : SymId) → IsSymbol t f → IsSymbol t g → symbol_eq (symbol_at t f) (symbol_at t g) ≡ (g.0 == f.0)
same-functions t table f g first second = by (g.0 == f.0) refl (symbol_eq (symbol_at t f) (symbol_at t g)) refl
  where
    by : (b : Bool) → (g.0 == f.0) ≡ b → (d : Bool) → symbol_eq (symbol_at t f) (symbol_at t g) ≡ d → d ≡ b
    by true e true h = refl
    by false e false h = refl
    by true e false h =
        let number : g.0 ≡ f.0 = (Decides-eqb g.0 f.0).0 e in
        contrary (symbol_eq (symbol_at t f) (symbol_at t g)) ((Decides-symbol_eq (symbol_at t f) (symbol_at t g)).1 (ap (λ n. symbol_at t (record { 0 = n })) (sym number))) h
    by false e true h =
        let number : f.0 ≡ g.0 = table.one_symbol f.0 g.0 first second ((Decides-symbol_eq (symbol_at t f) (symbol_at t g)).0 h) in
        contrary (g.0 == f.0) ((Decides-eqb g.0 f.0).1 (sym number)) e

module _ (t : Formulas) (table : IsTable t) (ns : Named) (u : LiveUse) (new : IsUseIn t u) (settled : IsSettled t ns u) where
  pair-said : (w : LiveUse) → IsUseIn t w → IsSettled t ns w → pair ns (symbol_at t w.symbol) (tree t w.node) (symbol_at t u.symbol) (tree t u.node) ≡ where_so (is_use_of u.function w) (said t w u ∷ [])
  pair-said w use_in before =
      (λ i. pair ns (symbol_at t w.symbol) (use_in.term i) (symbol_at t u.symbol) (new.term i))
      ∙ (λ i. where_so (same-functions t table w.function u.function use_in.is_function new.is_function i)
      (implies (all_equal (each-equations ns (operands (tree t w.node)) (operands (tree t u.node)) i)) (equal (sym use_in.constant_term i) (sym new.constant_term i)) ∷ []))
      ∙ (λ i. where_so (is_use_of u.function w) (implies (all_equal (equal_each (sym before i) (sym settled i))) (equal (tree t w.constant) (tree t u.constant)) ∷ []))

  pairs-said : (us : List LiveUse) → All (IsUseIn t) us → All (IsSettled t ns) us
      → map (λ w. said t w u) (uses_of u.function us) ≡ flat_map (λ e. pair ns e.0 e.1 (symbol_at t u.symbol) (tree t u.node)) (named_uses t us)
  pairs-said [] each all = refl
  pairs-said (w ∷ us) each all =
      by (is_use_of u.function w) (pairs-said us (All-tail (IsUseIn t) w us each) (All-tail (IsSettled t ns) w us all))
      ∙ (λ i. sym (pair-said w (All-head (IsUseIn t) w us each) (All-head (IsSettled t ns) w us all)) i ++ flat_map (λ e. pair ns e.0 e.1 (symbol_at t u.symbol) (tree t u.node)) (named_uses t us))
    where
      by : (b : Bool) → map (λ v. said t v u) (uses_of u.function us) ≡ flat_map (λ e. pair ns e.0 e.1 (symbol_at t u.symbol) (tree t u.node)) (named_uses t us)
          → map (λ v. said t v u) (cond b (w ∷ uses_of u.function us) (uses_of u.function us)) ≡ where_so b (said t w u ∷ []) ++ flat_map (λ e. pair ns e.0 e.1 (symbol_at t u.symbol) (tree t u.node)) (named_uses t us)
      by true rest = ap (λ ts. said t w u ∷ ts) rest
      by false rest = rest

-- ---- terms that are apart

apart-before : (ns : Named) → AreApart (terms_of ns) → (i : ℕ) (d : Symbol × Term) → i < length ns → constant_for (take i ns) (get_or ns i d).1 ≡ None
apart-before [] apart i d lt = absurd (omega arith)
apart-before (n ∷ ns) apart zero d lt = refl
apart-before (n ∷ ns) apart (suc i) d lt = by (term_eq n.1 (get_or ns i d).1) refl (apart-before ns apart.1 i d (omega arith))
  where
    by : (b : Bool) → term_eq n.1 (get_or ns i d).1 ≡ b → constant_for (take i ns) (get_or ns i d).1 ≡ None → cond b (Some n.0) (constant_for (take i ns) (get_or ns i d).1) ≡ None
    by false e rest = rest
    by true e rest =
        let there : All (λ m. has_term (terms_of ns) m.1 ≡ true) ns = All-of_terms (λ v. has_term (terms_of ns) v ≡ true) ns (λ k x less. has-at (terms_of ns) k x less) in
        contrary (has_term (terms_of ns) n.1) (ap (has_term (terms_of ns)) ((Decides-term_eq n.1 (get_or ns i d).1).0 e) ∙ there i d (omega arith)) apart.0

-- ---- under a table that gained

settled-grows : (old new : Formulas) (ns : Named) (u : LiveUse) → GrowsTo old new → IsUseIn old u → IsSettled old ns u → IsSettled new ns u
settled-grows old new ns u grows use_in settled =
    trees-grow old new grows u.operands.items use_in.are_results ∙ settled ∙ ap (λ v. map (with_constants ns) (operands v)) (sym (tree-grows old new grows u.node use_in.is_node))

-- ---- the next application

drawn-count : (t : Formulas) (ps : List (SymId × NodeId)) → length (named_at t ps) ≡ length ps
drawn-count t ps = length-map ps (λ (q : SymId × NodeId). let n : Symbol × Term = (symbol_at t q.0, tree t q.1) in n)

-- t0: the table with the new constants; t: that with what has to do with the first of them
module _ (t0 t : Formulas) (grows : GrowsTo t0 t) (us0 : List LiveUse) (c : Constants) (are : AreNewConstants t0 us0 c) (i : ℕ) (p : SymId × NodeId) (r : NodeId)
    (lt : i < length c.symbols) (told : slice_get c.symbols i ≡ Some p) (told_node : slice_get c.nodes i ≡ Some r) where
  abbrev drawn : Named
  drawn = named_at t0 c.symbols

  abbrev known : Named
  known = named_uses t0 us0

  at : get_or c.symbols i p ≡ p
  at = get_or_from_slice_get c.symbols i p p told

  here : get_or c.nodes i r ≡ r
  here = get_or_from_slice_get c.nodes i r r told_node

  within : i < length c.nodes
  within = slice_get_within c.nodes i r told_node

  as-many : length drawn ≡ length c.symbols
  as-many = drawn-count t0 c.symbols

  own : IsSymbol t0 p.0 × IsNode t0 p.1
  own = subst (λ (q : SymId × NodeId). IsSymbol t0 q.0 × IsNode t0 q.1) at (are.pairs i p lt)

  own_node : IsNode t0 r
  own_node = subst (IsNode t0) here (are.nodes i r within)

  new_use : (is_use (tree t0 p.1) ≡ true) × (is_none (constant_for known (tree t0 p.1)) ≡ true)
  new_use = both_true (is_use (tree t0 p.1)) (is_none (constant_for known (tree t0 p.1))) (of-pair t0 c.symbols i p lt at (λ n. is_new_use known n.1 ≡ true) are.each)

  stays : tree t p.1 ≡ tree t0 p.1
  stays = tree-grows t0 t grows p.1 own.1

  constant_is : tree t0 r ≡ constant (symbol_at t0 p.0)
  constant_is = constant-at t0 c are.terms i p r lt within at here

  next-node : IsNode t p.1
  next-node = node-grows t0 t grows p.1 own.1

  pub next-applied : is_use (tree t p.1) ≡ true
  next-applied = ap is_use stays ∙ new_use.0

  pub next-constant : IsNode t r
  next-constant = node-grows t0 t grows r own_node

  pub next-term : tree t r ≡ constant (symbol_at t p.0)
  next-term = tree-grows t0 t grows r own_node ∙ constant_is ∙ ap constant (sym (symbol-grows t0 t grows p.0 own.0))

  pub next-like : IsLike (tree t p.1) (tree t r)
  next-like =
      subst (λ v. IsLike v (tree t r)) (sym stays)
      (subst (IsLike (tree t0 p.1)) (sym (tree-grows t0 t grows r own_node ∙ constant_is)) (of-pair t0 c.symbols i p lt at (λ n. IsLike n.1 (constant n.0)) are.like))

  module _ (m : Results) (done : All (λ (q : SymId × NodeId). IsDone t0 (all_named t0 us0 c) m q.1) c.symbols) where
    pub next-replaced : AreOperandsReplaced t (all_named t0 us0 c) m p.1
    next-replaced =
        let it : IsDone t0 (all_named t0 us0 c) m p.1 = subst (λ (q : SymId × NodeId). IsDone t0 (all_named t0 us0 c) m q.1) at (done i p lt) in
        (done-stays t0 t (all_named t0 us0 c) m p.1 grows it).operands

    pub next-fit : AreOperandsFit t m p.1
    next-fit = operands-fit t (all_named t0 us0 c) m p.1 next-replaced

  abbrev next : Symbol × Term
  next = (symbol_at t0 p.0, tree t0 p.1)

  fits : i < length drawn
  fits = let k = as-many in omega (arith, k)

  at-place : get_or drawn i next ≡ next
  at-place = at-pair t0 c.symbols i p lt at next

  take-next : take (i + 1) drawn ≡ take i drawn ++ next ∷ []
  take-next = take_more drawn i next fits ∙ ap (λ (q : Symbol × Term). take i drawn ++ q ∷ []) at-place

  module _ (us : List LiveUse) (named : named_uses t us ≡ known ++ take i drawn) (each : All (IsUseIn t) us) where
    pub next-absent : IsTable t → constant_in us p.1 ≡ None
    next-absent table =
        absent-use t table us each p.1 next-node
        ((λ j. constant_for (named j) (stays j))
        ∙ missing-first known (take i drawn) (tree t0 p.1) (is-none (constant_for known (tree t0 p.1)) new_use.1)
        ∙ ap (λ (q : Symbol × Term). constant_for (take i drawn) q.1) (sym at-place) ∙ apart-before drawn are.apart i next fits)

    -- t1: with what this application has to do with those before it
    module _ (t1 : Formulas) (more : GrowsTo t t1) (u : LiveUse) (new : IsUseIn t u) (node : u.node ≡ p.1) (is : u.symbol ≡ p.0) where
      same-name : (symbol_at t u.symbol, tree t u.node) ≡ next
      same-name = (λ j. (symbol_at t (is j), tree t (node j))) ∙ (λ j. (symbol-grows t0 t grows p.0 own.0 j, stays j))

      pub next-each : All (IsUseIn t1) (us ++ u ∷ [])
      next-each = All-push (IsUseIn t1) us u (λ j d l. use-grows t t1 more (get_or us j d) (each j d l)) (use-grows t t1 more u new)

      pub next-settled : All (IsSettled t (all_named t0 us0 c)) us → IsSettled t (all_named t0 us0 c) u → All (IsSettled t1 (all_named t0 us0 c)) (us ++ u ∷ [])
      next-settled all settled =
          All-push (IsSettled t1 (all_named t0 us0 c)) us u (λ j d l. settled-grows t t1 (all_named t0 us0 c) (get_or us j d) more (each j d l) (all j d l))
          (settled-grows t t1 (all_named t0 us0 c) u more new settled)

      pub next-named : named_uses t1 (us ++ u ∷ []) ≡ known ++ take (i + 1) drawn
      next-named =
          named-stay t t1 more (us ++ u ∷ []) (All-push (IsUseIn t) us u each new)
          ∙ map-append (λ (w : LiveUse). (symbol_at t w.symbol, tree t w.node)) us (u ∷ [])
          ∙ (λ j. named j ++ same-name j ∷ [])
          ∙ append_assoc known (take i drawn) (next ∷ [])
          ∙ ap (λ (ms : Named). known ++ ms) (sym take-next)

      pub next-pairs : IsTable t → (all : Named) → All (IsSettled t all) us → IsSettled t all u → pairs all known (take i drawn) ++ map (λ w. said t w u) (uses_of u.function us) ≡ pairs all known (take (i + 1) drawn)
      next-pairs table all before settled =
          ap (λ ts. pairs all known (take i drawn) ++ ts)
          (pairs-said t table all u new settled us each before
          ∙ (λ j. flat_map (λ e. pair all e.0 e.1 (same-name j).0 (same-name j).1) (named j))
          ∙ sym (append-nil (flat_map (λ e. pair all e.0 e.1 next.0 next.1) (known ++ take i drawn))))
          ∙ sym (pairs-append all known (take i drawn) (next ∷ []))
          ∙ ap (pairs all known) (sym take-next)

pub next-kept : (us0 us : List LiveUse) (u : LiveUse) → take (length us0) us ≡ us0 → take (length us0) (us ++ u ∷ []) ≡ us0
next-kept us0 us u kept =
    let long = ap length kept in
    let short = length-take (length us0) us in
    take-append-le (length us0) us (u ∷ []) (omega (arith, long, short)) ∙ kept

-- ---- before the first

-- live applications stay settled under further constants of applications
pub settled-all : (t : Formulas) (us : List LiveUse) (ps : Named) → AreUsesIn t us → All (λ n. is_use n.1 ≡ true) ps → All (IsSettled t (named_uses t us ++ ps)) us
settled-all t us ps are applied i d lt =
    let u = get_or us i d in
    are.settled i d lt
    ∙ sym (fewer-constants (named_uses t us) ps (tree t u.node) (use-over t u (are.each i d lt)) (All-map (λ v. is_use v ≡ true) (λ n. n.1) ps applied) (closed-each t us are.behind i d lt))

pub new-applied : (t : Formulas) (us : List LiveUse) (c : Constants) → AreNewConstants t us c → All (λ n. is_use n.1 ≡ true) (named_at t c.symbols)
new-applied t us c are i d lt =
    let n = get_or (named_at t c.symbols) i d in
    (both_true (is_use n.1) (is_none (constant_for (named_uses t us) n.1)) (are.each i d lt)).0
