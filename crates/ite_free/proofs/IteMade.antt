-- The group that takes the place of an assertion: its constants are drawn for parts of the assertion, its assertions are
-- made of such parts and of the constants, and no `ite` over terms is left in them.
use Rattle.std.proofs.Common.{◌≡◌, ◌+◌, ◌<◌, true, List, [], ◌∷◌, length, get_or, All, Some, ap, sym, subst, arith, length-append}
use Rattle.std.specs.Prelude.{is_some}
use Rattle.std.specs.List.{flat_map}
use Rattle.std.proofs.lemmas.List.Elements.{All-nil, All-cons, All-append}
use Rattle.smt_terms.specs.Connectives.{negated, implies, equal, kind_of}
use Rattle.smt_terms.specs.Free.{is_among}
use Rattle.smt_terms.specs.Fresh.{Supply}
use Rattle.smt_terms.specs.Groups.{Named, draw_each, with_constants}
use Rattle.smt_terms.specs.Rank.{sort_of, is_sort, is_regular, IsWellSorted}
use Rattle.smt_terms.specs.Shapes.{is_atom_kind, is_ite, no_term_ite}
use Rattle.smt_terms.specs.Sorts.{Sort, bool, Symbol}
use Rattle.smt_terms.specs.Term.{Head, Term, apply, quantified, Terms, none, ◌⨾◌, constant}
use Rattle.smt_terms.proofs.Keeping.{the_sort}
use Rattle.smt_terms.proofs.SortsOfTerms.{sort_is_sort}
use Rattle.smt_terms.proofs.Tests.{both_true}
use Rattle.term_groups.specs.Drawing.{ConstantsAreNew}
use Rattle.term_groups.specs.Grouping.{symbols_of, terms_of, IsPart, IsMadeOf}
use Rattle.ite_free.specs.Ite.{term_ites, defining, ite}
use Rattle.ite_free.specs.Laws.{IteLeavesNone}
use Rattle.ite_free.proofs.IteBuilt.{IsBuilt, built-made, built-part, built-constant, built-negated, built-implies, built-equal, AreBranches, branches}
use Rattle.ite_free.proofs.IteConstants.{IsConstantOf}
use Rattle.ite_free.proofs.IteGone.{HasAll, ites-closed, ites-gone, defining-gone}
use Rattle.ite_free.proofs.IteLists.{All-two, All-flat_map, All-passes}
use Rattle.term_groups.proofs.NamedTerms.{All-of_terms, All-among}
use Rattle.ite_free.proofs.IteParts.{IsClearPart, part-itself, part-through, part-in_first, part-in_others, part-in_operands, operands-well_sorted, AreWellSorted, first-well_sorted, others-well_sorted, IsChoice, ites-parts, ites-choices}

abbrev constants_of : Term → Supply → Named
constants_of t s = (draw_each (term_ites t) s).symbols

-- a constant of a part of t that is an `ite` and no connective, whose own parts of this kind have constants too
record IsDefined (t : Term) (ns : Named) (n : Symbol × Term) : Type 0 where
  constant_of : IsConstantOf n
  among : is_among (symbols_of ns) n.0 ≡ true
  part : IsClearPart t n.1
  choice : IsChoice n.1
  closed : HasAll (terms_of ns) (term_ites n.1)

-- what holds of the terms that get constants holds of the terms of the constants
of_terms : ConstantsAreNew → (t : Term) (s : Supply) (P : Term → Type 0) → All P (term_ites t) → All (λ n. P n.1) (constants_of t s)
of_terms laws t s P all = All-of_terms P (constants_of t s) (subst (All P) (sym (laws.each (term_ites t) s)) all)

all-constants : ConstantsAreNew → (t : Term) (s : Supply) → All IsConstantOf (constants_of t s)
all-constants laws t s = laws.constants (term_ites t) s

all-defined : ConstantsAreNew → (t : Term) (s : Supply) → IsWellSorted t → All (IsDefined t (constants_of t s)) (constants_of t s)
all-defined laws t s fine k d lt = record {
  constant_of = all-constants laws t s k d lt;
  among = All-among (constants_of t s) k d lt;
  part = of_terms laws t s (IsClearPart t) (ites-parts t fine) k d lt;
  choice = of_terms laws t s IsChoice (ites-choices t) k d lt;
  closed = of_terms laws t s (λ u. HasAll (terms_of (constants_of t s)) (term_ites u))
      (subst (λ ts. All (λ u. HasAll ts (term_ites u)) (term_ites t)) (sym (laws.each (term_ites t) s)) (ites-closed t)) k d lt;
}

-- ---- what the constant of an `ite` is

-- the operands of an `ite` that is a part of t
record AreParts (t : Term) (h : Head) (ts : Terms) : Type 0 where
  sort : Sort
  sort_fine : is_sort sort ≡ true
  has_sort : sort_of (apply h ts) ≡ Some sort
  branches : AreBranches ts sort
  condition : IsClearPart t branches.condition
  first : IsClearPart t branches.first
  second : IsClearPart t branches.second

operands-parts : (t c a b : Term) (h : Head) → IsClearPart t (apply h (c ⨾ a ⨾ b ⨾ none)) → IsClearPart t c × IsClearPart t a × IsClearPart t b
operands-parts t c a b h p =
    let all : AreWellSorted (c ⨾ a ⨾ b ⨾ none) = operands-well_sorted h (c ⨾ a ⨾ b ⨾ none) p.part.sorted in
    let others : AreWellSorted (a ⨾ b ⨾ none) = others-well_sorted c (a ⨾ b ⨾ none) all in
    let last : AreWellSorted (b ⨾ none) = others-well_sorted a (b ⨾ none) others in
    let within : (u : Term) → IsClearPart (apply h (c ⨾ a ⨾ b ⨾ none)) u → IsClearPart t u = λ u q. part-through t (apply h (c ⨾ a ⨾ b ⨾ none)) u p q in (
      within c (part-in_operands h (c ⨾ a ⨾ b ⨾ none) c (part-in_first c (a ⨾ b ⨾ none) c (part-itself c (first-well_sorted c (a ⨾ b ⨾ none) all)))),
      within a (part-in_operands h (c ⨾ a ⨾ b ⨾ none) a (part-in_others c (a ⨾ b ⨾ none) a (part-in_first a (b ⨾ none) a (part-itself a (first-well_sorted a (b ⨾ none) others))))),
      within b (part-in_operands h (c ⨾ a ⨾ b ⨾ none) b (part-in_others c (a ⨾ b ⨾ none) b (part-in_others a (b ⨾ none) b (part-in_first b none b (part-itself b (first-well_sorted b none last)))))),
    )

are-parts : (t : Term) (h : Head) (ts : Terms) → IsClearPart t (apply h ts) → IsChoice (apply h ts) → AreParts t h ts
are-parts t h ts p choice =
    let fine = both_true (is_some (sort_of (apply h ts))) (is_regular (apply h ts)) p.part.sorted in
    let found = the_sort (sort_of (apply h ts)) fine.0 in
    let b : AreBranches ts found.0 = branches h ts found.0 (both_true (is_ite h) (is_atom_kind (kind_of h ts)) choice).0 found.1 in
    let parts = operands-parts t b.condition b.first b.second h (subst (λ us. IsClearPart t (apply h us)) b.operands p) in
    record {
      sort = found.0;
      sort_fine = sort_is_sort (apply h ts) found.0 fine.1 found.1;
      has_sort = found.1;
      branches = b;
      condition = parts.0;
      first = parts.1;
      second = parts.2;
    }

defining-made : (t : Term) (ns : Named) (v : Symbol) (u : Term) → All IsConstantOf ns → IsDefined t ns (v, u) → All (IsMadeOf t ns) (defining ns v u)
defining-made t ns v (quantified q xs body) all d = All-nil (IsMadeOf t ns)
defining-made t ns v (apply h ts) all d =
    let p : AreParts t h ts = are-parts t h ts d.part d.choice in
    let c : Term = with_constants ns p.branches.condition in
    let a : Term = with_constants ns p.branches.first in
    let b : Term = with_constants ns p.branches.second in
    let condition : IsBuilt t ns c bool = built-part t ns all p.branches.condition bool p.condition p.branches.condition_sort in
    let first : IsBuilt t ns a p.sort = built-part t ns all p.branches.first p.sort p.first p.branches.first_sort in
    let second : IsBuilt t ns b p.sort = built-part t ns all p.branches.second p.sort p.second p.branches.second_sort in
    let new : IsBuilt t ns (constant v) p.sort = built-constant t ns v p.sort d.among d.constant_of.0 (d.constant_of.1 p.sort p.has_sort) p.sort_fine in
    subst (λ us. All (IsMadeOf t ns) (defining ns v (apply h us))) (sym p.branches.operands)
    (All-two (IsMadeOf t ns) (implies c (equal (constant v) a)) (implies (negated c) (equal (constant v) b))
    (built-made t ns (implies c (equal (constant v) a)) (built-implies t ns c (equal (constant v) a) condition (built-equal t ns (constant v) a p.sort new first)))
    (built-made t ns (implies (negated c) (equal (constant v) b)) (built-implies t ns (negated c) (equal (constant v) b) (built-negated t ns c condition) (built-equal t ns (constant v) b p.sort new second))))

none-defining : (t : Term) (ns : Named) (v : Symbol) (u : Term) → All IsConstantOf ns → IsDefined t ns (v, u) → All (λ r. no_term_ite r ≡ true) (defining ns v u)
none-defining t ns v (quantified q xs body) all d = All-nil (λ r. no_term_ite r ≡ true)
none-defining t ns v (apply h ts) all d =
    let p : AreParts t h ts = are-parts t h ts d.part d.choice in
    defining-gone ns v h ts p.sort all p.branches d.closed

-- ---- the group

-- what holds of the assertions that say what the constants are, and of the last, holds of all
all-asserts : (P : Term → Type 0) (t : Term) (s : Supply) → All (λ n. All P (defining (constants_of t s) n.0 n.1)) (constants_of t s) → P (with_constants (constants_of t s) t) → All P (ite t s).group.asserts
all-asserts P t s each last =
    All-append P (flat_map (λ n. defining (constants_of t s) n.0 n.1) (constants_of t s)) (with_constants (constants_of t s) t ∷ [])
    (All-flat_map P (λ n. defining (constants_of t s) n.0 n.1) (constants_of t s) each)
    (All-cons P (with_constants (constants_of t s) t) [] last (All-nil P))

pub ite-symbols : ConstantsAreNew → (t : Term) (s : Supply) → (ite t s).group.symbols ≡ (draw_each (terms_of (ite t s).group.symbols) s).symbols
ite-symbols laws t s = ap (λ ts. (draw_each ts s).symbols) (sym (laws.each (term_ites t) s))

pub ite-names : ConstantsAreNew → (t : Term) (s : Supply) → (ite t s).names ≡ (draw_each (terms_of (ite t s).group.symbols) s).names
ite-names laws t s = ap (λ ts. (draw_each ts s).names) (sym (laws.each (term_ites t) s))

pub ite-parts : ConstantsAreNew → (t : Term) (s : Supply) → IsWellSorted t → sort_of t ≡ Some bool → All (λ p. IsPart t p.1) (ite t s).group.symbols
ite-parts laws t s fine has k d lt = (all-defined laws t s fine k d lt).part.part

pub ite-some : (t : Term) (s : Supply) → 0 < length (ite t s).group.asserts
ite-some t s =
    let defined : List Term = flat_map (λ n. defining (constants_of t s) n.0 n.1) (constants_of t s) in
    let long : length (ite t s).group.asserts ≡ length defined + 1 = length-append defined (with_constants (constants_of t s) t ∷ []) in
    omega arith

pub ite-made : ConstantsAreNew → (t : Term) (s : Supply) → IsWellSorted t → sort_of t ≡ Some bool → All (IsMadeOf t (ite t s).group.symbols) (ite t s).group.asserts
ite-made laws t s fine has =
    all-asserts (IsMadeOf t (constants_of t s)) t s
    (λ k d lt. defining-made t (constants_of t s) (get_or (constants_of t s) k d).0 (get_or (constants_of t s) k d).1 (all-constants laws t s) (all-defined laws t s fine k d lt))
    (built-made t (constants_of t s) (with_constants (constants_of t s) t) (built-part t (constants_of t s) (all-constants laws t s) t bool (part-itself t fine) has))

pub ite-leaves-none : ConstantsAreNew → IteLeavesNone
ite-leaves-none laws t s fine has =
    All-passes no_term_ite (ite t s).group.asserts
    (all-asserts (λ r. no_term_ite r ≡ true) t s
    (λ k d lt. none-defining t (constants_of t s) (get_or (constants_of t s) k d).0 (get_or (constants_of t s) k d).1 (all-constants laws t s) (all-defined laws t s fine k d lt))
    (ites-gone (constants_of t s) (all-constants laws t s) t bool has
    (subst (λ ts. HasAll ts (term_ites t)) (sym (laws.each (term_ites t) s)) (λ u among. among))))
