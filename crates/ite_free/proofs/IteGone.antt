-- No `ite` over terms is left where each of them has a constant.
use Rattle.std.proofs.Common.{◌≡◌, Bool, true, false, not, cond, ◌&&◌, ◌||◌, inl, inr, List, [], ◌∷◌, All, Some, None, refl, ap, sym, ◌∙◌, subst}
use Rattle.std.proofs.lemmas.List.Elements.{All-nil, All-weaker}
use Rattle.smt_terms.specs.declared.op.Op.{Op}
use Rattle.smt_terms.specs.declared.op.Op.TheVariants.{Implies, Equal}
use Rattle.smt_terms.specs.Connectives.{kind, negated, implies, equal}
use Rattle.smt_terms.specs.Equal.{term_eq}
use Rattle.smt_terms.specs.Groups.{Named, has_term, with_new, constant_for, with_constants, with_constants_each, where_so}
use Rattle.smt_terms.specs.Rank.{sort_of, sorts_of}
use Rattle.smt_terms.specs.Shapes.{is_atom_kind, is_ite_operator, is_ite, is_term_ite, no_term_ite, no_term_ites}
use Rattle.smt_terms.specs.Sorts.{Sort, bool, Symbol}
use Rattle.smt_terms.specs.Term.{Head, op, Term, apply, quantified, Terms, none, ◌⨾◌, constant}
use Rattle.smt_terms.proofs.Equal.{Decides-term_eq}
use Rattle.smt_terms.proofs.Sorted.{applied, sorted}
use Rattle.smt_terms.proofs.Tests.{and_true, left_true, right_true, true_or_false, contrary}
use Rattle.term_walk.proofs.Members.{has-with_new}
use Rattle.term_groups.specs.Grouping.{terms_of}
use Rattle.ite_free.specs.Ite.{term_ites, term_ites_of, defining}
use Rattle.ite_free.proofs.IteBuilt.{AreBranches}
use Rattle.ite_free.proofs.IteConstants.{IsConstantOf, constants-applied, constants-sorts}
use Rattle.ite_free.proofs.IteLists.{All-two}
use Rattle.term_groups.proofs.NamedTerms.{All-with_new, All-where_so}

-- ---- lists of terms that have all of another list

abbrev pub HasAll : List Term → List Term → Type 0
HasAll ts us = (t : Term) → has_term us t ≡ true → has_term ts t ≡ true

has-first : (ts us : List Term) → HasAll (with_new ts us) ts
has-first ts us t among = has-with_new ts us t ∙ left_true (has_term ts t) (has_term us t) among

has-second : (ts us : List Term) → HasAll (with_new ts us) us
has-second ts us t among = has-with_new ts us t ∙ right_true (has_term ts t) (has_term us t) among

has-through : (ts us vs : List Term) → HasAll ts us → HasAll us vs → HasAll ts vs
has-through ts us vs first second t among = first t (second t among)

-- ---- an `ite` that gets a constant has none below it that gets none

mutual
  pub ites-closed : (t : Term) → All (λ u. HasAll (term_ites t) (term_ites u)) (term_ites t)
  ites-closed (apply h ts) =
      All-with_new (λ u. HasAll (term_ites (apply h ts)) (term_ites u)) (term_ites_of ts) (where_so (is_term_ite h ts) (apply h ts ∷ []))
      (All-weaker (λ u. HasAll (term_ites_of ts) (term_ites u)) (λ u. HasAll (term_ites (apply h ts)) (term_ites u))
      (λ u below. has-through (term_ites (apply h ts)) (term_ites_of ts) (term_ites u) (has-first (term_ites_of ts) (where_so (is_term_ite h ts) (apply h ts ∷ []))) below)
      (term_ites_of ts) (ites-closed_each ts))
      (All-where_so (λ u. HasAll (term_ites (apply h ts)) (term_ites u)) (is_term_ite h ts) (apply h ts) (λ _ t among. among))
  ites-closed (quantified q xs body) = All-nil (λ u. HasAll [] (term_ites u))

  ites-closed_each : (ts : Terms) → All (λ u. HasAll (term_ites_of ts) (term_ites u)) (term_ites_of ts)
  ites-closed_each none = All-nil (λ u. HasAll [] (term_ites u))
  ites-closed_each (t ⨾ ts) =
      All-with_new (λ u. HasAll (term_ites_of (t ⨾ ts)) (term_ites u)) (term_ites t) (term_ites_of ts)
      (All-weaker (λ u. HasAll (term_ites t) (term_ites u)) (λ u. HasAll (term_ites_of (t ⨾ ts)) (term_ites u))
      (λ u below. has-through (term_ites_of (t ⨾ ts)) (term_ites t) (term_ites u) (has-first (term_ites t) (term_ites_of ts)) below)
      (term_ites t) (ites-closed t))
      (All-weaker (λ u. HasAll (term_ites_of ts) (term_ites u)) (λ u. HasAll (term_ites_of (t ⨾ ts)) (term_ites u))
      (λ u below. has-through (term_ites_of (t ⨾ ts)) (term_ites_of ts) (term_ites u) (has-second (term_ites t) (term_ites_of ts)) below)
      (term_ites_of ts) (ites-closed_each ts))

-- ---- terms with the constants in place

no_constant : (ns : Named) (t : Term) → constant_for ns t ≡ None → has_term (terms_of ns) t ≡ false
no_constant [] t missing = refl
no_constant (n ∷ ns) t missing = go (term_eq n.1 t) missing (no_constant ns t)
  where
    go : (b : Bool) → cond b (Some n.0) (constant_for ns t) ≡ None → (constant_for ns t ≡ None → has_term (terms_of ns) t ≡ false) → (b || has_term (terms_of ns) t) ≡ false
    go true here behind = absurd cc
    go false here behind = behind here

itself-among : (h : Head) (ts : Terms) → is_term_ite h ts ≡ true → has_term (term_ites (apply h ts)) (apply h ts) ≡ true
itself-among h ts choice = has-second (term_ites_of ts) (where_so (is_term_ite h ts) (apply h ts ∷ [])) (apply h ts) (go (is_term_ite h ts) choice)
  where
    go : (b : Bool) → b ≡ true → has_term (where_so b (apply h ts ∷ [])) (apply h ts) ≡ true
    go true e = left_true (term_eq (apply h ts) (apply h ts)) false ((Decides-term_eq (apply h ts) (apply h ts)).1 refl)
    go false e = absurd cc

no_choice : (ns : Named) (h : Head) (ts : Terms) → HasAll (terms_of ns) (term_ites (apply h ts)) → constant_for ns (apply h ts) ≡ None → is_term_ite h ts ≡ false
no_choice ns h ts all missing =
    elim (true_or_false (is_term_ite h ts)) [
      | inl choice ↦ contrary (has_term (terms_of ns) (apply h ts)) (all (apply h ts) (itself-among h ts choice)) (no_constant ns (apply h ts) missing)
      | inr other ↦ other
    ]

mutual
  pub ites-gone : (ns : Named) → All IsConstantOf ns → (t : Term) (s : Sort) → sort_of t ≡ Some s → HasAll (terms_of ns) (term_ites t) → no_term_ite (with_constants ns t) ≡ true
  ites-gone ns constants (apply h ts) s has all =
      let parts = applied h ts s has in
      let same_sorts : sorts_of (with_constants_each ns ts) ≡ sorts_of ts = constants-sorts ns constants ts parts.sorts parts.operands ∙ sym parts.operands in
      constants-applied (λ r. no_term_ite r ≡ true) ns h ts (λ f found. refl)
      (λ missing. and_true (not (is_term_ite h (with_constants_each ns ts))) (no_term_ites (with_constants_each ns ts))
      (ap (λ ss. not (is_ite h && is_atom_kind (kind h ss))) same_sorts ∙ ap not (no_choice ns h ts all missing))
      (ites-each_gone ns constants ts parts.sorts parts.operands
      (has-through (terms_of ns) (term_ites (apply h ts)) (term_ites_of ts) all (has-first (term_ites_of ts) (where_so (is_term_ite h ts) (apply h ts ∷ []))))))
  ites-gone ns constants (quantified q xs body) s has all = refl

  ites-each_gone : (ns : Named) → All IsConstantOf ns → (ts : Terms) (ss : List Sort) → sorts_of ts ≡ Some ss → HasAll (terms_of ns) (term_ites_of ts) → no_term_ites (with_constants_each ns ts) ≡ true
  ites-each_gone ns constants none ss has all = refl
  ites-each_gone ns constants (t ⨾ ts) ss has all =
      let parts = sorted t ts ss has in
      and_true (no_term_ite (with_constants ns t)) (no_term_ites (with_constants_each ns ts))
      (ites-gone ns constants t parts.sort parts.first (has-through (terms_of ns) (term_ites_of (t ⨾ ts)) (term_ites t) all (has-first (term_ites t) (term_ites_of ts))))
      (ites-each_gone ns constants ts parts.sorts parts.others (has-through (terms_of ns) (term_ites_of (t ⨾ ts)) (term_ites_of ts) all (has-second (term_ites t) (term_ites_of ts))))

-- ---- what the constant of an `ite` is

gone-two : (o : Op) (a b : Term) → is_ite_operator o ≡ false → no_term_ite a ≡ true → no_term_ite b ≡ true → no_term_ite (apply (op o) (a ⨾ b ⨾ none)) ≡ true
gone-two o a b other first second =
    and_true (not (is_term_ite (op o) (a ⨾ b ⨾ none))) (no_term_ites (a ⨾ b ⨾ none))
    (ap (λ i. not (i && is_atom_kind (kind (op o) (sorts_of (a ⨾ b ⨾ none))))) other)
    (and_true (no_term_ite a) (no_term_ites (b ⨾ none)) first (and_true (no_term_ite b) true second refl))

gone-implies : (a b : Term) → no_term_ite a ≡ true → no_term_ite b ≡ true → no_term_ite (implies a b) ≡ true
unfolding is_ite_operator
gone-implies a b = gone-two Implies a b refl

gone-equal : (a b : Term) → no_term_ite a ≡ true → no_term_ite b ≡ true → no_term_ite (equal a b) ≡ true
unfolding is_ite_operator
gone-equal a b = gone-two Equal a b refl

gone-negated : (a : Term) → no_term_ite a ≡ true → no_term_ite (negated a) ≡ true
unfolding is_ite_operator
gone-negated a gone = and_true (no_term_ite a) true gone refl

pub defining-gone : (ns : Named) (v : Symbol) (h : Head) (ts : Terms) (s : Sort) → All IsConstantOf ns → AreBranches ts s → HasAll (terms_of ns) (term_ites (apply h ts)) → All (λ r. no_term_ite r ≡ true) (defining ns v (apply h ts))
defining-gone ns v h ts s constants b all =
    subst (λ us. All (λ r. no_term_ite r ≡ true) (defining ns v (apply h us))) (sym b.operands)
    (All-two (λ r. no_term_ite r ≡ true) (implies (with_constants ns b.condition) (equal (constant v) (with_constants ns b.first))) (implies (negated (with_constants ns b.condition)) (equal (constant v) (with_constants ns b.second)))
    (gone-implies (with_constants ns b.condition) (equal (constant v) (with_constants ns b.first)) condition (gone-equal (constant v) (with_constants ns b.first) refl first))
    (gone-implies (negated (with_constants ns b.condition)) (equal (constant v) (with_constants ns b.second)) (gone-negated (with_constants ns b.condition) condition) (gone-equal (constant v) (with_constants ns b.second) refl second)))
  where
    behind : HasAll (terms_of ns) (term_ites_of (b.condition ⨾ b.first ⨾ b.second ⨾ none))
    behind = subst (λ us. HasAll (terms_of ns) (term_ites_of us)) b.operands
        (has-through (terms_of ns) (term_ites (apply h ts)) (term_ites_of ts) all (has-first (term_ites_of ts) (where_so (is_term_ite h ts) (apply h ts ∷ []))))

    condition : no_term_ite (with_constants ns b.condition) ≡ true
    condition = ites-gone ns constants b.condition bool b.condition_sort
        (has-through (terms_of ns) (term_ites_of (b.condition ⨾ b.first ⨾ b.second ⨾ none)) (term_ites b.condition) behind (has-first (term_ites b.condition) (term_ites_of (b.first ⨾ b.second ⨾ none))))

    others : HasAll (terms_of ns) (term_ites_of (b.first ⨾ b.second ⨾ none))
    others = has-through (terms_of ns) (term_ites_of (b.condition ⨾ b.first ⨾ b.second ⨾ none)) (term_ites_of (b.first ⨾ b.second ⨾ none)) behind
        (has-second (term_ites b.condition) (term_ites_of (b.first ⨾ b.second ⨾ none)))

    first : no_term_ite (with_constants ns b.first) ≡ true
    first = ites-gone ns constants b.first s b.first_sort
        (has-through (terms_of ns) (term_ites_of (b.first ⨾ b.second ⨾ none)) (term_ites b.first) others (has-first (term_ites b.first) (term_ites_of (b.second ⨾ none))))

    last : HasAll (terms_of ns) (term_ites_of (b.second ⨾ none))
    last = has-through (terms_of ns) (term_ites_of (b.first ⨾ b.second ⨾ none)) (term_ites_of (b.second ⨾ none)) others (has-second (term_ites b.first) (term_ites_of (b.second ⨾ none)))

    second : no_term_ite (with_constants ns b.second) ≡ true
    second = ites-gone ns constants b.second s b.second_sort
        (has-through (terms_of ns) (term_ites_of (b.second ⨾ none)) (term_ites b.second) last (has-first (term_ites b.second) []))
