-- A term with constants in place of all its applications is made of what stands in the inputs and of these constants.
use Rattle.std.proofs.Common.{◌≡◌, Bool, true, false, inl, inr, List, [], ◌∷◌, All, Option, Some, None, Ok, refl, ap, sym, ◌∙◌, subst}
use Rattle.std.specs.Prelude.{is_none}
use Rattle.smt_terms.specs.Equal.{term_eq}
use Rattle.smt_terms.specs.Free.{is_among, head_symbols, free_of}
use Rattle.smt_terms.specs.Groups.{Named, has_term, constant_for, constant_or, with_constants, with_constants_each, where_so}
use Rattle.smt_terms.specs.Rank.{rank, sort_of, sorts_of, is_minus_of}
use Rattle.smt_terms.specs.Shapes.{is_application, no_application}
use Rattle.smt_terms.specs.Sorts.{Sort, Symbol}
use Rattle.smt_terms.specs.Term.{Head, op, symbol, const_array, Term, apply, quantified, Terms, none, ◌⨾◌, constant}
use Rattle.smt_terms.proofs.Among.{is_among-with_more}
use Rattle.smt_terms.proofs.Equal.{Decides-term_eq}
use Rattle.smt_terms.proofs.Keeping.{two_or_more}
use Rattle.smt_terms.proofs.Sorted.{applied, sorted}
use Rattle.smt_terms.proofs.SortsOfTerms.{regular, sort_is_sort}
use Rattle.smt_terms.proofs.Tests.{both_true, left_true, not_true, true_or_false, contrary}
use Rattle.term_groups.specs.Every.{every_of}
use Rattle.term_groups.specs.Grouping.{symbols_of, terms_of}
use Rattle.ackermann.specs.Ackermann.{applications, applications_of}
use Rattle.ackermann.specs.Removals.{is_free_in}
use Rattle.ackermann.proofs.FromInputs.{IsFrom, AreFrom, from-operands, from-first, from-others}
use Rattle.ackermann.proofs.UseBuilt.{IsBuilt, AreBuilt, built-none, built-more, built-over, built-constant}
use Rattle.ackermann.proofs.UseLists.{HasAll, has-first, has-second, has-through, found-holds, none-for, not_false}
use Rattle.term_groups.proofs.NamedTerms.{All-among}

-- ---- the constant of a term

-- a constant without arguments, of its term's sort
abbrev pub IsConstantOf : Symbol × Term → Type 0
IsConstantOf p = (p.0.args ≡ []) × ((to : Sort) → sort_of p.1 ≡ Some to → p.0.result ≡ to)

found-among : (ns : Named) (t : Term) (f : Symbol) → constant_for ns t ≡ Some f → is_among (symbols_of ns) f ≡ true
found-among ns t f found = found-holds (λ n. is_among (symbols_of ns) n.0 ≡ true) ns t f (All-among ns) found

-- an applied head gives way to its constant, or stays over what its operands became
pub constants-applied : (P : Term → Type 0) (ns : Named) (h : Head) (ts : Terms) → ((f : Symbol) → constant_for ns (apply h ts) ≡ Some f → P (constant f)) → (constant_for ns (apply h ts) ≡ None → P (apply h (with_constants_each ns ts))) → P (with_constants ns (apply h ts))
constants-applied P ns h ts gone kept = go (constant_for ns (apply h ts)) refl
  where
    go : (o : Option Symbol) → constant_for ns (apply h ts) ≡ o → P (constant_or o (apply h (with_constants_each ns ts)))
    go (Some f) found = gone f found
    go None found = kept found

-- ---- what has no constant is no application

pub itself-among : (h : Head) (ts : Terms) → is_application h ts ≡ true → has_term (applications (apply h ts)) (apply h ts) ≡ true
itself-among h ts there = has-second (applications_of ts) (where_so (is_application h ts) (apply h ts ∷ [])) (apply h ts) (go (is_application h ts) there)
  where
    go : (b : Bool) → b ≡ true → has_term (where_so b (apply h ts ∷ [])) (apply h ts) ≡ true
    go true e = left_true (term_eq (apply h ts) (apply h ts)) false ((Decides-term_eq (apply h ts) (apply h ts)).1 refl)
    go false e = absurd cc

missing-none : (ns : Named) (t : Term) → constant_for ns t ≡ None → has_term (terms_of ns) t ≡ false
missing-none ns t missing = not_true (has_term (terms_of ns) t) (sym (none-for ns t) ∙ ap is_none missing)

pub not-used : (ns : Named) (h : Head) (ts : Terms) → HasAll (terms_of ns) (applications (apply h ts)) → constant_for ns (apply h ts) ≡ None → is_application h ts ≡ false
not-used ns h ts all missing =
    elim (true_or_false (is_application h ts)) [
      | inl there ↦ contrary (has_term (terms_of ns) (apply h ts)) (all (apply h ts) (itself-among h ts there)) (missing-none ns (apply h ts) missing)
      | inr other ↦ other
    ]

application-each : (ns : Named) (h : Head) (ts : Terms) → is_application h (with_constants_each ns ts) ≡ is_application h ts
application-each ns (op o) ts = refl
application-each ns (const_array s) ts = refl
application-each ns (symbol f) none = refl
application-each ns (symbol f) (t ⨾ ts) = refl

-- no unary minus comes to stand over a constant of the theory
minus-kept : (ns : Named) (h : Head) (ts : Terms) → is_minus_of h ts ≡ false → is_minus_of h (with_constants_each ns ts) ≡ false
unfolding is_minus_of
minus-kept ns (symbol f) ts plain = refl
minus-kept ns (const_array s) ts plain = refl
minus-kept ns (op p) none plain = refl
minus-kept ns (op p) (t ⨾ (u ⨾ us)) plain = two_or_more p (with_constants ns t) (with_constants ns u) (with_constants_each ns us)
minus-kept ns (op p) (quantified q xs body ⨾ none) plain = refl
minus-kept ns (op p) (apply g us ⨾ none) plain =
    constants-applied (λ r. is_minus_of (op p) (r ⨾ none) ≡ false) ns g us (λ f found. refl) (λ _. operand g us plain)
  where
    operand : (g : Head) (us : Terms) → is_minus_of (op p) (apply g us ⨾ none) ≡ false → is_minus_of (op p) (apply g (with_constants_each ns us) ⨾ none) ≡ false
    operand (symbol f) us plain = refl
    operand (const_array s) us plain = refl
    operand (op c) none plain = plain
    operand (op c) (u ⨾ us) plain = refl

-- ---- a term that stands in the inputs, with the constants in place

pub closed-operands : (ns : Named) (h : Head) (ts : Terms) → HasAll (terms_of ns) (applications (apply h ts)) → HasAll (terms_of ns) (applications_of ts)
closed-operands ns h ts closed =
    has-through (terms_of ns) (applications (apply h ts)) (applications_of ts) closed (has-first (applications_of ts) (where_so (is_application h ts) (apply h ts ∷ [])))

pub closed-first : (ns : Named) (t : Term) (ts : Terms) → HasAll (terms_of ns) (applications_of (t ⨾ ts)) → HasAll (terms_of ns) (applications t)
closed-first ns t ts closed = has-through (terms_of ns) (applications_of (t ⨾ ts)) (applications t) closed (has-first (applications t) (applications_of ts))

pub closed-others : (ns : Named) (t : Term) (ts : Terms) → HasAll (terms_of ns) (applications_of (t ⨾ ts)) → HasAll (terms_of ns) (applications_of ts)
closed-others ns t ts closed = has-through (terms_of ns) (applications_of (t ⨾ ts)) (applications_of ts) closed (has-second (applications t) (applications_of ts))

module _ (inputs : List Term) (ns : Named) (constants : All IsConstantOf ns) where
  stays : (h : Head) (ts : Terms) (s : Sort) (ss : List Sort) → sort_of (apply h ts) ≡ Some s → IsFrom inputs (apply h ts) → is_application h ts ≡ false → AreBuilt inputs ns (with_constants_each ns ts) ss → sorts_of ts ≡ Some ss → IsBuilt inputs ns (apply h (with_constants_each ns ts)) s
  stays h ts s ss has from plain operands have =
      let parts = applied h ts s has in
      let rules = regular h ts from.rules in
      let sorts : parts.sorts ≡ ss = let both : Some parts.sorts ≡ Some ss = sym parts.operands ∙ have in cc in
      built-over inputs ns h (with_constants_each ns ts) ss s (record {
        rank = subst (λ us. rank h us ≡ Ok s) sorts parts.rank;
        sorts = rules.head;
        no_minus = minus-kept ns h ts (not_true (is_minus_of h ts) rules.no_minus);
        plain = application-each ns h ts ∙ plain;
        symbols = λ f among. left_true (is_free_in inputs f) (is_among (symbols_of ns) f) (from.symbols f (is_among-with_more (head_symbols h) (free_of ts) f ∙ left_true (is_among (head_symbols h) f) (is_among (free_of ts) f) among));
        allowed = λ heads binders allowed. (both_true (heads h) (every_of heads binders ts) (from.within heads binders allowed.1)).0;
      }) operands

  gives_way : (h : Head) (ts : Terms) (s : Sort) (f : Symbol) → sort_of (apply h ts) ≡ Some s → IsFrom inputs (apply h ts) → constant_for ns (apply h ts) ≡ Some f → IsBuilt inputs ns (constant f) s
  gives_way h ts s f has from found =
      let it = found-holds IsConstantOf ns (apply h ts) f constants found in
      built-constant inputs ns f s (found-among ns (apply h ts) f found) it.0 (it.1 s has) (sort_is_sort (apply h ts) s from.rules has)

  mutual
    pub built-part : (t : Term) (s : Sort) → sort_of t ≡ Some s → IsFrom inputs t → HasAll (terms_of ns) (applications t) → IsBuilt inputs ns (with_constants ns t) s
    built-part (apply h ts) s has from closed =
        let parts = applied h ts s has in
        let operands = built-parts ts parts.sorts parts.operands (from-operands inputs h ts from) (closed-operands ns h ts closed) in
        constants-applied (λ r. IsBuilt inputs ns r s) ns h ts
        (λ f found. gives_way h ts s f has from found)
        (λ missing. stays h ts s parts.sorts has from (not-used ns h ts closed missing) operands parts.operands)
    built-part (quantified q xs body) s has from closed = record {
      sort = has;
      rules = from.rules;
      plain = not_false (no_application body) from.outside;
      symbols = λ f among. left_true (is_free_in inputs f) (is_among (symbols_of ns) f) (from.symbols f among);
      clear = from.clear;
      within = λ heads binders allowed. from.within heads binders allowed.1;
    }

    pub built-parts : (ts : Terms) (ss : List Sort) → sorts_of ts ≡ Some ss → AreFrom inputs ts → HasAll (terms_of ns) (applications_of ts) → AreBuilt inputs ns (with_constants_each ns ts) ss
    built-parts none ss have from closed = let empty : [] ≡ ss = cc in subst (AreBuilt inputs ns none) empty (built-none inputs ns)
    built-parts (t ⨾ ts) ss have from closed =
        let parts = sorted t ts ss have in
        subst (AreBuilt inputs ns (with_constants_each ns (t ⨾ ts))) (sym parts.all)
        (built-more inputs ns (with_constants ns t) (with_constants_each ns ts) parts.sort parts.sorts
        (built-part t parts.sort parts.first (from-first inputs t ts from) (closed-first ns t ts closed))
        (built-parts ts parts.sorts parts.others (from-others inputs t ts from) (closed-others ns t ts closed)))
