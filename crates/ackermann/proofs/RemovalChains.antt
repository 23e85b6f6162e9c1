-- What a chain of removals has: the applications with constants, the inputs, and the assertions with all constants in place.
use Rattle.std.proofs.Common.{◌≡◌, true, false, inl, inr, List, [], ◌∷◌, ◌++◌, append_assoc, append-nil, All, Some, refl, ap, sym, ◌∙◌, subst}
use Rattle.std.specs.Prelude.{is_none}
use Rattle.std.proofs.lemmas.List.Elements.{All-nil, All-cons, All-append, All-map, All-weaker, All-filter}
use Rattle.smt_terms.specs.Equal.{term_eq}
use Rattle.smt_terms.specs.Fresh.{Supply}
use Rattle.smt_terms.specs.Groups.{Named, has_term, constant_for, draw_each, with_constants}
use Rattle.smt_terms.specs.Rank.{sort_of}
use Rattle.smt_terms.specs.Sorts.{bool}
use Rattle.smt_terms.specs.Term.{Term, apply, quantified}
use Rattle.smt_terms.proofs.Equal.{Decides-term_eq}
use Rattle.smt_terms.proofs.Tests.{and_true, left_true, right_true, true_or_false}
use Rattle.term_walk.proofs.Members.{has-filter}
use Rattle.term_groups.specs.Drawing.{ConstantsAreNew}
use Rattle.term_groups.specs.Grouping.{terms_of}
use Rattle.ackermann.specs.Ackermann.{applications, without_constant, pairs}
use Rattle.ackermann.specs.Removals.{Removal, IsRemoval, AreRemovals, all_inputs, all_symbols, all_asserts, inner_uses}
use Rattle.ackermann.proofs.FromInputs.{IsFrom, from-piece, IsUsed}
use Rattle.ackermann.proofs.MoreConstants.{more-constants, more-constants_each}
use Rattle.ackermann.proofs.ReplacedUses.{IsConstantOf}
use Rattle.ackermann.proofs.UseLists.{HasAll, has-before, has-behind, terms-append, All-first, All-second, none-for, not_false}
use Rattle.term_groups.proofs.NamedTerms.{All-of_terms}
use Rattle.ackermann.proofs.UseOrder.{Ordered, ordered-append, ordered-filter, applications-ordered, ordered-closed}
use Rattle.ackermann.proofs.UsePairs.{OperandsKept, Kept, pairs-kept}
use Rattle.ackermann.proofs.UseParts.{IsUse, piece-itself, applications-pieces, applications-uses}

-- ---- applications with constants

pub record AreUses (inputs : List Term) (ns : Named) : Type 0 where
  pub constants : All IsConstantOf ns
  pub used : All (λ p. IsUsed inputs p.1) ns
  pub ordered : Ordered [] (terms_of ns)

pub no-uses : (inputs : List Term) → AreUses inputs []
no-uses inputs = record { constants = All-nil IsConstantOf; used = All-nil (λ p. IsUsed inputs p.1); ordered = tt }

known : (ns : Named) (t : Term) → is_none (constant_for ns t) ≡ false → has_term (terms_of ns) t ≡ true
known ns t e = not_false (has_term (terms_of ns) t) (sym (none-for ns t) ∙ e)

module _ (laws : ConstantsAreNew) (inputs : List Term) (earlier : Named) (uses : AreUses inputs earlier) (t : Term) (s : Supply) where
  abbrev new : List Term
  new = without_constant earlier (applications t)

  abbrev drawn : Named
  drawn = (draw_each new s).symbols

  drawn_terms : terms_of (earlier ++ drawn) ≡ terms_of earlier ++ new
  drawn_terms = terms-append earlier drawn ∙ ap (λ ts. terms_of earlier ++ ts) (laws.each new s)

  drawn_closed : HasAll (terms_of (earlier ++ drawn)) (applications t)
  drawn_closed u among =
      ap (λ ts. has_term ts u) drawn_terms
      ∙ elim (true_or_false (is_none (constant_for earlier u))) [
        | inl absent ↦ has-behind (terms_of earlier) new u (has-filter (λ v. is_none (constant_for earlier v)) (applications t) u ∙ and_true (has_term (applications t) u) (is_none (constant_for earlier u)) among absent)
        | inr there ↦ has-before (terms_of earlier) new u (known earlier u there)
      ]

  drawn_uses : All (IsUsed inputs) (applications t) → AreUses inputs (earlier ++ drawn)
  drawn_uses used = record {
    constants = All-append IsConstantOf earlier drawn uses.constants (laws.constants new s);
    used = All-append (λ p. IsUsed inputs p.1) earlier drawn uses.used
        (All-of_terms (IsUsed inputs) drawn (subst (All (IsUsed inputs)) (sym (laws.each new s)) (All-filter (λ v. is_none (constant_for earlier v)) (IsUsed inputs) (applications t) used)));
    ordered = subst (Ordered []) (sym drawn_terms)
        (ordered-append [] (terms_of earlier) new uses.ordered
        (ordered-filter (λ v. is_none (constant_for earlier v)) [] (terms_of earlier) (applications t) (λ u among. absurd (never u among)) (λ u e. known earlier u e) (applications-ordered t)));
  }
    where
      never : (u : Term) → has_term [] u ≡ true → ⊥
      never u e = absurd cc

all-used : (inputs : List Term) (earlier : Named) (r : Removal) → IsRemoval inputs earlier r → has_term inputs r.input ≡ true → All (IsUsed inputs) (applications r.input)
all-used inputs earlier r removal among k d less = record {
  whole = r.input;
  among = among;
  outside = removal.outside;
  piece = applications-pieces r.input removal.sorted k d less;
  application = applications-uses r.input k d less;
}

more-uses : ConstantsAreNew → (inputs : List Term) (earlier : Named) (r : Removal) → AreUses inputs earlier → IsRemoval inputs earlier r → has_term inputs r.input ≡ true → AreUses inputs (earlier ++ r.symbols)
more-uses laws inputs earlier r uses removal among =
    subst (λ new. AreUses inputs (earlier ++ new)) (sym removal.symbols)
    (drawn_uses laws inputs earlier uses r.input removal.supply (all-used inputs earlier r removal among))

all-closed : ConstantsAreNew → (inputs : List Term) (earlier : Named) (r : Removal) → AreUses inputs earlier → IsRemoval inputs earlier r → HasAll (terms_of (earlier ++ r.symbols)) (applications r.input)
all-closed laws inputs earlier r uses removal =
    subst (λ new. HasAll (terms_of (earlier ++ new)) (applications r.input)) (sym removal.symbols) (drawn_closed laws inputs earlier uses r.input removal.supply)

-- ---- the chain

pub record IsCovered (inputs : List Term) (ns : Named) (t : Term) : Type 0 where
  pub from : IsFrom inputs t
  pub sort : sort_of t ≡ Some bool
  pub closed : HasAll (terms_of ns) (applications t)

-- the assertions, with these constants in place
abbrev pub gathered : Named → Named → List Removal → List Term
gathered ns earlier [] = []
gathered ns earlier (r ∷ rs) = (pairs ns earlier r.symbols ++ with_constants ns r.input ∷ []) ++ gathered ns (earlier ++ r.symbols) rs

pub record IsChain (inputs : List Term) (earlier : Named) (rs : List Removal) (ns : Named) : Type 0 where
  pub uses : AreUses inputs ns
  pub covered : All (IsCovered inputs ns) (all_inputs rs)
  pub asserts : all_asserts rs ≡ gathered ns earlier rs

pub uses-closed : (inputs : List Term) (ns : Named) → AreUses inputs ns → All (λ p. HasAll (terms_of ns) (inner_uses p.1)) ns
uses-closed inputs ns uses = All-of_terms (λ t. HasAll (terms_of ns) (inner_uses t)) ns (ordered-closed [] (terms_of ns) uses.ordered)

module _ (inputs : List Term) (ns ms : Named) (uses : AreUses inputs (ns ++ ms)) where
  later_uses : All IsUse (terms_of ms)
  later_uses = All-map IsUse (λ p. p.1) ms (All-weaker (λ p. IsUsed inputs p.1) (λ p. IsUse p.1) (λ p used. used.application) ms (All-second (λ p. IsUsed inputs p.1) ns ms uses.used))

  kept_operands : (t : Term) → HasAll (terms_of ns) (inner_uses t) → OperandsKept ns (ns ++ ms) t
  kept_operands (apply h ts) closed = sym (more-constants_each ns ms later_uses ts closed)
  kept_operands (quantified q xs body) closed = tt

  kept_pairs : AreUses inputs ns → (earlier new : Named) → ns ≡ earlier ++ new → pairs ns earlier new ≡ pairs (ns ++ ms) earlier new
  kept_pairs before earlier new e =
      let all : All (Kept ns (ns ++ ms)) ns = All-weaker (λ p. HasAll (terms_of ns) (inner_uses p.1)) (Kept ns (ns ++ ms)) (λ p closed. kept_operands p.1 closed) ns (uses-closed inputs ns before) in
      let parts : All (Kept ns (ns ++ ms)) (earlier ++ new) = subst (All (Kept ns (ns ++ ms))) e all in
      pairs-kept ns (ns ++ ms) earlier new (All-first (Kept ns (ns ++ ms)) earlier new parts) (All-second (Kept ns (ns ++ ms)) earlier new parts)

more-closed : (ns ms : Named) (ts : List Term) → HasAll (terms_of ns) ts → HasAll (terms_of (ns ++ ms)) ts
more-closed ns ms ts closed u among = ap (λ us. has_term us u) (terms-append ns ms) ∙ has-before (terms_of ns) (terms_of ms) u (closed u among)

first-removal : ConstantsAreNew → (inputs : List Term) (earlier : Named) (r : Removal) (rs : List Removal) → AreUses inputs earlier → IsRemoval inputs earlier r → has_term inputs r.input ≡ true → IsChain inputs (earlier ++ r.symbols) rs ((earlier ++ r.symbols) ++ all_symbols rs) → IsChain inputs earlier (r ∷ rs) ((earlier ++ r.symbols) ++ all_symbols rs)
first-removal laws inputs earlier r rs uses removal among behind =
    let ns = earlier ++ r.symbols in
    let ms = all_symbols rs in
    let closed = all-closed laws inputs earlier r uses removal in
    let same_pairs = kept_pairs inputs ns ms behind.uses (more-uses laws inputs earlier r uses removal among) earlier r.symbols refl in
    let same_input : with_constants ns r.input ≡ with_constants (ns ++ ms) r.input = sym (more-constants ns ms (later_uses inputs ns ms behind.uses) r.input closed) in
    record {
      uses = behind.uses;
      covered = All-cons (IsCovered inputs (ns ++ ms)) r.input (all_inputs rs) (record {
        from = from-piece inputs r.input r.input among removal.outside (piece-itself r.input removal.sorted);
        sort = removal.sort;
        closed = more-closed ns ms (applications r.input) closed;
      }) behind.covered;
      asserts = (λ i. removal.asserts i ++ behind.asserts i)
          ∙ (λ i. (same_pairs i ++ same_input i ∷ []) ++ gathered (ns ++ ms) ns rs);
    }

chain-behind : ConstantsAreNew → (inputs : List Term) (earlier : Named) (rs : List Removal) → AreUses inputs earlier → AreRemovals inputs earlier rs → HasAll inputs (all_inputs rs) → IsChain inputs earlier rs (earlier ++ all_symbols rs)
chain-behind laws inputs earlier [] uses removals among = record {
  uses = subst (AreUses inputs) (sym (append-nil earlier)) uses;
  covered = All-nil (IsCovered inputs (earlier ++ []));
  asserts = refl;
}
chain-behind laws inputs earlier (r ∷ rs) uses removals among =
    let here : has_term inputs r.input ≡ true = among r.input (left_true (term_eq r.input r.input) (has_term (all_inputs rs) r.input) ((Decides-term_eq r.input r.input).1 refl)) in
    let behind = chain-behind laws inputs (earlier ++ r.symbols) rs (more-uses laws inputs earlier r uses removals.0 here) removals.1 (λ t there. among t (right_true (term_eq r.input t) (has_term (all_inputs rs) t) there)) in
    subst (IsChain inputs earlier (r ∷ rs)) (append_assoc earlier r.symbols (all_symbols rs)) (first-removal laws inputs earlier r rs uses removals.0 here behind)

pub chain : ConstantsAreNew → (rs : List Removal) → AreRemovals (all_inputs rs) [] rs → IsChain (all_inputs rs) [] rs (all_symbols rs)
chain laws rs removals = chain-behind laws (all_inputs rs) [] rs (no-uses (all_inputs rs)) removals (λ t among. among)
