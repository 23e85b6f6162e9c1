-- The constants that are drawn for the applications of a formula that have none.
use Rattle.std.proofs.Common.{◌≡◌, Bool, true, false, cond, ◌&&◌, List, [], ◌∷◌, ◌++◌, get_or, map, All, refl, ap, sym, ◌∙◌, subst}
use Rattle.std.specs.Prelude.{filter, is_none}
use Rattle.std.proofs.lemmas.List.Elements.{All-filter, All-weaker, filter_passes}
use Rattle.smt_terms.specs.declared.ids.NodeId.{NodeId}
use Rattle.smt_terms.specs.Fresh.{Supply}
use Rattle.smt_terms.specs.Groups.{Named, has_term, with_new, constant_for, draw_each, where_so}
use Rattle.smt_terms.specs.Rank.{IsWellSorted}
use Rattle.smt_terms.specs.Shapes.{is_application}
use Rattle.smt_terms.specs.Sorts.{Symbol}
use Rattle.smt_terms.specs.Term.{op, symbol, const_array, Term, apply, quantified, Terms, none, ◌⨾◌, constant}
use Rattle.smt_terms.proofs.Ranked.{takes-rank}
use Rattle.smt_terms.proofs.Sorted.{sort_of-apply}
use Rattle.smt_terms.proofs.StoredTerms.{fine_term}
use Rattle.smt_terms.proofs.Tests.{both_true}
use Rattle.term_table.specs.Formulas.{Formulas, trees_at, AreNodes}
use Rattle.term_walk.specs.Walking.{GrowsTo}
use Rattle.term_subst.proofs.MapsAt.{sort-narrow}
use Rattle.quantifier_forms.specs.Rebuilding.{is_number, IsLike}
use Rattle.term_groups.specs.declared.constants.Constants.{Constants}
use Rattle.term_groups.specs.Grouping.{terms_of}
use Rattle.term_groups.specs.Parts.{collected, collected_of}
use Rattle.term_groups.specs.Replacing.{is_open, AreApart, AreConstantsFor}
use Rattle.term_groups.specs.Seen.{named_at, ArePairs}
use Rattle.term_groups.proofs.Draws.{constants-are_new}
use Rattle.term_groups.proofs.NamedTerms.{All-of_terms, apart-filter, apart-new, apart-where}
use Rattle.term_groups.proofs.PartNodes.{constants-stay}
use Rattle.ackermann.specs.Ackermann.{applications, applications_of, without_constant}
use Rattle.ackermann.specs.declared.uses.LiveUse.{LiveUse}
use Rattle.ackermann.specs.LiveUses.{named_uses, IsUseIn, AreBehind}
use Rattle.ackermann.specs.Removals.{is_use, inner_uses}
use Rattle.ackermann.specs.Replacing.{is_new_use, AreNewConstants}
use Rattle.ackermann.proofs.GrownUses.{named-stay}
use Rattle.ackermann.proofs.ReplacedUses.{IsConstantOf}
use Rattle.ackermann.proofs.SettledUses.{as-ordered}
use Rattle.ackermann.proofs.UseLists.{All-has, terms-append, none-for, not_false}
use Rattle.ackermann.proofs.UseOrder.{Ordered, ordered-append, ordered-filter, applications-ordered}
use Rattle.ackermann.proofs.UseParts.{IsPiece, applications-pieces}

-- ---- the applications are those parts of a formula that are one

mutual
  collected-uses : (t : Term) → collected is_open is_use t ≡ applications t
  collected-uses (apply h ts) = ap (λ us. with_new us (where_so (is_application h ts) (apply h ts ∷ []))) (collected-uses_of ts)
  collected-uses (quantified q xs body) = refl

  collected-uses_of : (ts : Terms) → collected_of is_open is_use ts ≡ applications_of ts
  collected-uses_of none = refl
  collected-uses_of (t ⨾ ts) = λ i. with_new (collected-uses t i) (collected-uses_of ts i)

filter-both : (ns : Named) (ts : List Term) → filter (is_new_use ns) ts ≡ without_constant ns (filter is_use ts)
filter-both ns [] = refl
filter-both ns (t ∷ ts) = by (is_use t) (filter-both ns ts)
  where
    by : (b : Bool) → filter (is_new_use ns) ts ≡ without_constant ns (filter is_use ts)
        → cond (b && is_none (constant_for ns t)) (t ∷ filter (is_new_use ns) ts) (filter (is_new_use ns) ts) ≡ without_constant ns (cond b (t ∷ filter is_use ts) (filter is_use ts))
    by true rest = ap (λ us. cond (is_none (constant_for ns t)) (t ∷ us) us) rest
    by false rest = rest

-- those of these parts that are new
pub new-parts : (ns : Named) (ts : List Term) (t : Term) → filter is_use ts ≡ collected is_open is_use t → filter (is_new_use ns) ts ≡ without_constant ns (applications t)
new-parts ns ts t are = filter-both ns ts ∙ ap (without_constant ns) (are ∙ collected-uses t)

-- ---- no two of them are one term

mutual
  uses-apart : (t : Term) → AreApart (applications t)
  uses-apart (apply h ts) = apart-new (applications_of ts) (where_so (is_application h ts) (apply h ts ∷ [])) (uses-apart_each ts) (apart-where (is_application h ts) (apply h ts))
  uses-apart (quantified q xs body) = tt

  uses-apart_each : (ts : Terms) → AreApart (applications_of ts)
  uses-apart_each none = tt
  uses-apart_each (t ⨾ ts) = apart-new (applications t) (applications_of ts) (uses-apart t) (uses-apart_each ts)

-- ---- a constant may take the place of its application

use-number : (u : Term) → is_use u ≡ true → is_number u ≡ false
use-number (apply (op p) ts) applied = absurd cc
use-number (apply (symbol f) ts) applied = refl
use-number (apply (const_array s) ts) applied = absurd cc
use-number (quantified q xs body) applied = absurd cc

constant-like : (n : Symbol × Term) → IsConstantOf n → IsWellSorted n.1 → is_use n.1 ≡ true → IsLike n.1 (constant n.0)
constant-like n is fine applied =
    let found = fine_term n.1 fine in
    record {
      sort = sort_of-apply (symbol n.0) none [] found.sort refl (takes-rank (symbol n.0) [] found.sort (sym is.0, sym (is.1 found.sort found.has)) (sort-narrow n.1 found.sort found.has)) ∙ sym found.has;
      number = sym (use-number n.1 applied);
    }

-- ---- all of them

pub are-new_constants : (old new : Formulas) (us : List LiveUse) (ids : List NodeId) (ts : List Term) (c : Constants) (t : Term) (s : Supply) → GrowsTo old new → All (IsUseIn old) us → IsWellSorted t
    → trees_at old ids ≡ filter (is_new_use (named_uses old us)) ts → trees_at old ids ≡ without_constant (named_uses old us) (applications t)
    → ArePairs new c.symbols → AreNodes new c.nodes → named_at new c.symbols ≡ (draw_each (trees_at old ids) s).symbols → trees_at new c.nodes ≡ map (λ n. constant n.0) (draw_each (trees_at old ids) s).symbols → AreNewConstants new us c
are-new_constants old new us ids ts c t s grows uses fine new_are uses_are pairs nodes symbols terms =
    let ns = named_uses old us in
    let drawn = named_at new c.symbols in
    let stays : named_uses new us ≡ ns = named-stay old new grows us uses in
    let terms_are : terms_of drawn ≡ trees_at old ids = ap terms_of symbols ∙ constants-are_new.each (trees_at old ids) s in
    let constants : All IsConstantOf drawn = subst (All IsConstantOf) (sym symbols) (constants-are_new.constants (trees_at old ids) s) in
    let new_uses : All (λ n. is_new_use ns n.1 ≡ true) drawn =
    All-of_terms (λ u. is_new_use ns u ≡ true) drawn (subst (All (λ u. is_new_use ns u ≡ true)) (sym (terms_are ∙ new_are)) (filter_passes (is_new_use ns) ts)) in
    let pieces : All (λ n. IsPiece t n.1) drawn =
    All-of_terms (IsPiece t) drawn (subst (All (IsPiece t)) (sym (terms_are ∙ uses_are)) (All-filter (λ u. is_none (constant_for ns u)) (IsPiece t) (applications t) (applications-pieces t fine))) in
    record {
      pairs = pairs;
      nodes = nodes;
      terms = terms ∙ ap (map (λ n. constant n.0)) (sym symbols);
      each = subst (λ ms. All (λ n. is_new_use ms n.1 ≡ true) drawn) (sym stays) new_uses;
      like = λ k d lt. constant-like (get_or drawn k d) (constants k d lt) (pieces k d lt).part.sorted (both_true (is_use (get_or drawn k d).1) (is_none (constant_for ns (get_or drawn k d).1)) (new_uses k d lt)).0;
      apart = subst AreApart (sym (terms_are ∙ uses_are)) (apart-filter (λ u. is_none (constant_for ns u)) (applications t) (uses-apart t));
    }

-- the same under another table
pub new_constants-stay : (old new : Formulas) (us : List LiveUse) (c : Constants) → GrowsTo old new → All (IsUseIn old) us → AreNewConstants old us c → AreNewConstants new us c
new_constants-stay old new us c grows uses are =
    subst (λ ns. AreConstantsFor new (is_new_use ns) c) (sym (named-stay old new grows us uses)) (constants-stay old new (is_new_use (named_uses old us)) c grows are)

-- ---- the order

as-behind : (ds ts : List Term) → Ordered ds ts → AreBehind ds ts
as-behind ds [] order = tt
as-behind ds (t ∷ ts) order =
    (All-weaker (λ u. has_term (inner_uses t) u ≡ true) (λ u. has_term ds u ≡ true) (λ u there. order.0 u there) (inner_uses t) (All-has (inner_uses t)), as-behind (ds ++ t ∷ []) ts order.1)

pub new-behind : (ns drawn : Named) (t : Term) → AreBehind [] (terms_of ns) → terms_of drawn ≡ without_constant ns (applications t) → AreBehind [] (terms_of (ns ++ drawn))
new-behind ns drawn t behind are =
    let known = terms_of ns in
    subst (AreBehind []) (sym (terms-append ns drawn ∙ ap (λ ts. known ++ ts) are))
    (as-behind [] (known ++ without_constant ns (applications t))
    (ordered-append [] known (without_constant ns (applications t)) (as-ordered [] known behind)
    (ordered-filter (λ v. is_none (constant_for ns v)) [] known (applications t) (λ u among. absurd (never u among)) (λ u e. not_false (has_term known u) (sym (none-for ns u) ∙ e)) (applications-ordered t))))
  where
    never : (u : Term) → has_term [] u ≡ true → ⊥
    never u e = absurd cc
