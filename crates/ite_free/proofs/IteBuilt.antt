-- Formulas that are made of parts of a formula and of new constants, and the operands of an `ite`.
use Rattle.std.proofs.Common.{◌≡◌, ◌≤◌, Bool, true, not, ◌⊎◌, inl, inr, List, [], ◌∷◌, All, Some, refl, ap, sym, ◌∙◌, arith}
use Rattle.std.specs.Prelude.{IsTrue, is_some}
use Rattle.std.specs.List.{list_all}
use Rattle.smt_terms.specs.declared.op.Op.{Op}
use Rattle.smt_terms.specs.declared.op.Op.TheVariants.{Not, Implies, Equal, Ite}
use Rattle.smt_terms.specs.Connectives.{negated, implies, equal}
use Rattle.smt_terms.specs.Free.{is_among, with_more, free, free_of}
use Rattle.smt_terms.specs.Groups.{Named, with_constants}
use Rattle.smt_terms.specs.Rank.{shape, is_minus, width, most_bits, sort_of, sorts_of, is_sort, is_regular, are_regular}
use Rattle.smt_terms.specs.Shapes.{is_ite_operator, is_ite, is_clear_below, are_clear_below}
use Rattle.smt_terms.specs.Sorts.{Sort, bool, Symbol, Variable}
use Rattle.smt_terms.specs.Takes.{Takes}
use Rattle.smt_terms.specs.Term.{Head, op, symbol, const_array, Term, apply, Terms, none, ◌⨾◌, constant}
use Rattle.smt_terms.proofs.Among.{is_among-with_more}
use Rattle.smt_terms.proofs.Keeping.{not_minus}
use Rattle.smt_terms.proofs.Operands.{more_sorts, fewer_sorts, narrow_sort, sort_over_more, regular_over_more, well_sorted}
use Rattle.smt_terms.proofs.Ranked.{rank-takes, takes-rank}
use Rattle.smt_terms.proofs.Sorted.{applied, sorted, sort_of-apply}
use Rattle.smt_terms.proofs.SortsOfTerms.{regular_over}
use Rattle.smt_terms.proofs.Tests.{both_true, and_true, either_true}
use Rattle.term_groups.specs.Every.{every, every_of}
use Rattle.term_groups.specs.Grouping.{symbols_of, IsMadeOf}
use Rattle.ite_free.proofs.IteConstants.{IsConstantOf, IsKnown, known-in, constant-sort, constant-regular, constant-known, constant-within, constants-sort, constants-regular, constants-free, constants-clear, constants-within}
use Rattle.ite_free.proofs.IteParts.{IsClearPart}

-- a term of this sort that is made of what stands in t outside quantifiers, of operators and of new constants
pub record IsBuilt (t : Term) (ns : Named) (r : Term) (s : Sort) : Type 0 where
  pub sort : sort_of r ≡ Some s
  pub regular : is_regular r ≡ true
  pub symbols : (f : Symbol) → is_among (free r) f ≡ true → IsKnown ns (free t) f
  pub clear : is_clear_below [] t ≡ true → is_clear_below [] r ≡ true
  pub within : (heads : Head → Bool) (binders : List Variable → Bool) → ((o : Op) → IsTrue (heads (op o)))
      → IsTrue (every heads binders t) → IsTrue (list_all (λ f. heads (symbol f)) (symbols_of ns)) → IsTrue (every heads binders r)

pub built-made : (t : Term) (ns : Named) (r : Term) → IsBuilt t ns r bool → IsMadeOf t ns r
built-made t ns r b = record {
  sorted = well_sorted r bool b.sort b.regular;
  sort = b.sort;
  free = b.symbols;
  clear = b.clear;
  within = b.within;
}

-- a part with the constants in place
pub built-part : (t : Term) (ns : Named) → All IsConstantOf ns → (u : Term) (s : Sort) → IsClearPart t u → sort_of u ≡ Some s → IsBuilt t ns (with_constants ns u) s
built-part t ns all u s p has = record {
  sort = constants-sort ns all u s has;
  regular = constants-regular ns all u s (both_true (is_some (sort_of u)) (is_regular u) p.part.sorted).1 has;
  symbols = λ f among. known-in ns (free u) (free t) f (p.part.free f) (constants-free ns u f among);
  clear = λ clear. constants-clear ns u (p.clear clear);
  within = λ heads binders ops holds new. constants-within ns heads binders new u (p.part.within heads binders holds);
}

-- a new constant
pub built-constant : (t : Term) (ns : Named) (v : Symbol) (s : Sort) → is_among (symbols_of ns) v ≡ true → v.args ≡ [] → v.result ≡ s → is_sort s ≡ true → IsBuilt t ns (constant v) s
built-constant t ns v s among args result fine = record {
  sort = constant-sort v s args result (narrow_sort s fine);
  regular = constant-regular v s args result fine;
  symbols = λ f there. constant-known ns (free t) v f among there;
  clear = λ _. refl;
  within = λ heads binders ops holds new. constant-within ns heads binders v new among;
}

-- ---- operators over one and two operands

in-either : (fs gs : List Symbol) (f : Symbol) (A : Type 0) → (is_among fs f ≡ true → A) → (is_among gs f ≡ true → A) → is_among (with_more fs gs) f ≡ true → A
in-either fs gs f A first second among = go (either_true (is_among fs f) (is_among gs f) (sym (is_among-with_more fs gs f) ∙ among))
  where
    go : (is_among fs f ≡ true) ⊎ (is_among gs f ≡ true) → A
    go (inl here) = first here
    go (inr there) = second there

in-none : (f : Symbol) (A : Type 0) → is_among [] f ≡ true → A
in-none f A among = absurd (never among)
  where
    never : is_among [] f ≡ true → ⊥
    never h = absurd cc

pub built-negated : (t : Term) (ns : Named) (r : Term) → IsBuilt t ns r bool → IsBuilt t ns (negated r) bool
unfolding shape is_minus
built-negated t ns r b = record {
  sort = let narrow : width bool ≤ most_bits = omega arith in sort_of-apply (op Not) (r ⨾ none) (bool ∷ []) bool (more_sorts r none bool [] b.sort refl) (takes-rank (op Not) (bool ∷ []) bool (refl, refl) narrow);
  regular = regular_over (op Not) (r ⨾ none) (record {
    head = refl;
    no_minus = ap not (not_minus Not (r ⨾ none) refl);
    operands = and_true (is_regular r) true b.regular refl;
  });
  symbols = λ f. in-either [] (free_of (r ⨾ none)) f (IsKnown ns (free t) f) (in-none f (IsKnown ns (free t) f))
      (in-either (free r) [] f (IsKnown ns (free t) f) (b.symbols f) (in-none f (IsKnown ns (free t) f)));
  clear = λ clear. and_true (is_clear_below [] r) true (b.clear clear) refl;
  within = λ heads binders ops holds new. and_true (heads (op Not)) (every_of heads binders (r ⨾ none)) (ops Not)
      (and_true (every heads binders r) true (b.within heads binders ops holds new) refl);
}

built-two : (t : Term) (ns : Named) (o : Op) (a b : Term) (r s : Sort) → Takes (shape o) (r ∷ s ∷ []) bool → IsBuilt t ns a r → IsBuilt t ns b s → IsBuilt t ns (apply (op o) (a ⨾ b ⨾ none)) bool
built-two t ns o a b r s takes first second = record {
  sort = let narrow : width bool ≤ most_bits = omega arith in sort_over_more o a b none (r ∷ s ∷ []) bool (more_sorts a (b ⨾ none) r (s ∷ []) first.sort (more_sorts b none s [] second.sort refl)) takes narrow;
  regular = regular_over_more o a b none (and_true (is_regular a) (are_regular (b ⨾ none)) first.regular (and_true (is_regular b) true second.regular refl));
  symbols = λ f. in-either [] (free_of (a ⨾ b ⨾ none)) f (IsKnown ns (free t) f) (in-none f (IsKnown ns (free t) f))
      (in-either (free a) (free_of (b ⨾ none)) f (IsKnown ns (free t) f) (first.symbols f)
      (in-either (free b) [] f (IsKnown ns (free t) f) (second.symbols f) (in-none f (IsKnown ns (free t) f))));
  clear = λ clear. and_true (is_clear_below [] a) (are_clear_below [] (b ⨾ none)) (first.clear clear) (and_true (is_clear_below [] b) true (second.clear clear) refl);
  within = λ heads binders ops holds new. and_true (heads (op o)) (every_of heads binders (a ⨾ b ⨾ none)) (ops o)
      (and_true (every heads binders a) (every_of heads binders (b ⨾ none)) (first.within heads binders ops holds new)
      (and_true (every heads binders b) true (second.within heads binders ops holds new) refl));
}

pub built-implies : (t : Term) (ns : Named) (a b : Term) → IsBuilt t ns a bool → IsBuilt t ns b bool → IsBuilt t ns (implies a b) bool
unfolding shape
built-implies t ns a b = built-two t ns Implies a b bool bool (refl, refl)

pub built-equal : (t : Term) (ns : Named) (a b : Term) (s : Sort) → IsBuilt t ns a s → IsBuilt t ns b s → IsBuilt t ns (equal a b) bool
unfolding shape
built-equal t ns a b s = built-two t ns Equal a b s s (s, refl, refl)

-- ---- the operands of an `ite`

pub ite-head : (h : Head) → is_ite h ≡ true → h ≡ op Ite
unfolding is_ite_operator
ite-head (op Ite) e = refl
ite-head (op _) e = absurd cc
ite-head (symbol f) e = absurd cc
ite-head (const_array s) e = absurd cc

-- a condition and two terms of one sort
pub record AreBranches (ts : Terms) (s : Sort) : Type 0 where
  pub condition : Term
  pub first : Term
  pub second : Term
  pub operands : ts ≡ condition ⨾ first ⨾ second ⨾ none
  pub condition_sort : sort_of condition ≡ Some bool
  pub first_sort : sort_of first ≡ Some s
  pub second_sort : sort_of second ≡ Some s

no_more : (t : Term) (ts : Terms) → sorts_of (t ⨾ ts) ≡ Some [] → ⊥
no_more t ts has = empty (sorted t ts [] has).sort (sorted t ts [] has).sorts (sorted t ts [] has).all
  where
    empty : (s : Sort) (ss : List Sort) → [] ≡ s ∷ ss → ⊥
    empty s ss e = absurd cc

three : (ts : Terms) (s : Sort) → sorts_of ts ≡ Some (bool ∷ s ∷ s ∷ []) → AreBranches ts s
three none s has = absurd cc
three (c ⨾ none) s has = let no_first : Some [] ≡ Some (s ∷ s ∷ []) = (fewer_sorts c none bool (s ∷ s ∷ []) has).1 in absurd cc
three (c ⨾ (a ⨾ none)) s has =
    let behind = (fewer_sorts c (a ⨾ none) bool (s ∷ s ∷ []) has).1 in
    let no_second : Some [] ≡ Some (s ∷ []) = (fewer_sorts a none s (s ∷ []) behind).1 in
    absurd cc
three (c ⨾ (a ⨾ (b ⨾ none))) s has =
    let one = fewer_sorts c (a ⨾ b ⨾ none) bool (s ∷ s ∷ []) has in
    let two = fewer_sorts a (b ⨾ none) s (s ∷ []) one.1 in
    record { condition = c; first = a; second = b; operands = refl; condition_sort = one.0; first_sort = two.0; second_sort = (fewer_sorts b none s [] two.1).0 }
three (c ⨾ (a ⨾ (b ⨾ (d ⨾ ds)))) s has =
    let one = fewer_sorts c (a ⨾ b ⨾ d ⨾ ds) bool (s ∷ s ∷ []) has in
    let two = fewer_sorts a (b ⨾ d ⨾ ds) s (s ∷ []) one.1 in
    absurd (no_more d ds (fewer_sorts b (d ⨾ ds) s [] two.1).1)

pub branches : (h : Head) (ts : Terms) (s : Sort) → is_ite h ≡ true → sort_of (apply h ts) ≡ Some s → AreBranches ts s
unfolding shape
branches h ts s ite_there has =
    let over = applied (op Ite) ts s (ap (λ g. sort_of (apply g ts)) (sym (ite-head h ite_there)) ∙ has) in
    let takes = rank-takes (op Ite) over.sorts s over.rank in
    three ts s (over.operands ∙ ap Some takes.1 ∙ ap (λ r. Some (bool ∷ r ∷ r ∷ [])) (sym takes.2))
