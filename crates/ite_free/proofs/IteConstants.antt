-- What a term keeps where constants take the place of terms of their sorts: its sort, that it is regular and clear, and
-- what holds of all that stands in it; its free symbols are free before or are among the constants.
use Rattle.std.proofs.Common.{◌≡◌, ◌≤◌, Bool, true, false, not, cond, ◌||◌, ◌⊎◌, inl, inr, List, [], ◌∷◌, All, Option, Some, None, refl, ap, sym, ◌∙◌, subst}
use Rattle.std.specs.List.{list_all}
use Rattle.std.proofs.lemmas.List.Elements.{All-head, All-tail}
use Rattle.smt_terms.specs.Equal.{symbol_eq, term_eq}
use Rattle.smt_terms.specs.Free.{is_among, with_more, head_symbols, free, free_of}
use Rattle.smt_terms.specs.Groups.{Named, constant_for, constant_or, with_constants, with_constants_each}
use Rattle.smt_terms.specs.Rank.{width, most_bits, sort_of, sorts_of, is_sort, is_minus_of, is_regular, are_regular}
use Rattle.smt_terms.specs.Shapes.{is_head_seen, is_clear_below, are_clear_below}
use Rattle.smt_terms.specs.Sorts.{Sort, Symbol, Variable}
use Rattle.smt_terms.specs.Term.{Head, op, symbol, const_array, Term, apply, quantified, Terms, none, ◌⨾◌, constant}
use Rattle.smt_terms.proofs.Among.{is_among-with_more}
use Rattle.smt_terms.proofs.Equal.{Decides-term_eq, Decides-symbol_eq}
use Rattle.smt_terms.proofs.Keeping.{two_or_more}
use Rattle.smt_terms.proofs.Operands.{more_sorts}
use Rattle.smt_terms.proofs.Ranked.{rank-narrow, takes-rank}
use Rattle.smt_terms.proofs.Sorted.{applied, sorted, sort_of-apply}
use Rattle.smt_terms.proofs.SortsOfTerms.{regular, regular_over, sort_is_sort}
use Rattle.smt_terms.proofs.Tests.{both_true, and_true, either_true, left_true, right_true, not_true}
use Rattle.term_groups.specs.Every.{every, every_of}
use Rattle.term_groups.specs.Grouping.{symbols_of}

-- ---- the constant of a term

-- what holds of all constants and their terms
pub found-holds : (P : Symbol × Term → Type 0) (ns : Named) (t : Term) (f : Symbol) → All P ns → constant_for ns t ≡ Some f → P (f, t)
found-holds P [] t f all found = absurd cc
found-holds P (n ∷ ns) t f all found = go (term_eq n.1 t) refl found (found-holds P ns t f (All-tail P n ns all))
  where
    go : (b : Bool) → term_eq n.1 t ≡ b → cond b (Some n.0) (constant_for ns t) ≡ Some f → (constant_for ns t ≡ Some f → P (f, t)) → P (f, t)
    go true same here behind =
        let symbols : n.0 ≡ f = cc in
        let terms : n.1 ≡ t = (Decides-term_eq n.1 t).0 same in
        subst P (λ i. (symbols i, terms i)) (All-head P n ns all)
    go false other here behind = behind here

found-among : (ns : Named) (t : Term) (f : Symbol) → constant_for ns t ≡ Some f → is_among (symbols_of ns) f ≡ true
found-among [] t f found = absurd cc
found-among (n ∷ ns) t f found = go (term_eq n.1 t) found (found-among ns t f)
  where
    go : (b : Bool) → cond b (Some n.0) (constant_for ns t) ≡ Some f → (constant_for ns t ≡ Some f → is_among (symbols_of ns) f ≡ true) → (symbol_eq n.0 f || is_among (symbols_of ns) f) ≡ true
    go true here behind = left_true (symbol_eq n.0 f) (is_among (symbols_of ns) f) ((Decides-symbol_eq n.0 f).1 cc)
    go false here behind = right_true (symbol_eq n.0 f) (is_among (symbols_of ns) f) (behind here)

among-passes : (p : Symbol → Bool) (fs : List Symbol) (f : Symbol) → list_all p fs ≡ true → is_among fs f ≡ true → p f ≡ true
among-passes p [] f all among = absurd cc
among-passes p (g ∷ fs) f all among =
    let parts = both_true (p g) (list_all p fs) all in
    go (either_true (symbol_eq g f) (is_among fs f) among) parts.0 (among-passes p fs f parts.1)
  where
    go : (symbol_eq g f ≡ true) ⊎ (is_among fs f ≡ true) → p g ≡ true → (is_among fs f ≡ true → p f ≡ true) → p f ≡ true
    go (inl same) here behind = ap p (sym ((Decides-symbol_eq g f).0 same)) ∙ here
    go (inr there) here behind = behind there

-- an applied head gives way to its constant, or stays over what its operands became
pub constants-applied : (P : Term → Type 0) (ns : Named) (h : Head) (ts : Terms) → ((f : Symbol) → constant_for ns (apply h ts) ≡ Some f → P (constant f)) → (constant_for ns (apply h ts) ≡ None → P (apply h (with_constants_each ns ts))) → P (with_constants ns (apply h ts))
constants-applied P ns h ts gone kept = go (constant_for ns (apply h ts)) refl
  where
    go : (o : Option Symbol) → constant_for ns (apply h ts) ≡ o → P (constant_or o (apply h (with_constants_each ns ts)))
    go (Some f) found = gone f found
    go None found = kept found

-- ---- sorts

-- a constant without arguments, of its term's sort
abbrev pub IsConstantOf : Symbol × Term → Type 0
IsConstantOf p = (p.0.args ≡ []) × ((to : Sort) → sort_of p.1 ≡ Some to → p.0.result ≡ to)

pub constant-sort : (f : Symbol) (s : Sort) → f.args ≡ [] → f.result ≡ s → width s ≤ most_bits → sort_of (constant f) ≡ Some s
constant-sort f s args result narrow = sort_of-apply (symbol f) none [] s refl (takes-rank (symbol f) [] s (sym args, sym result) narrow)

pub constant-regular : (f : Symbol) (s : Sort) → f.args ≡ [] → f.result ≡ s → is_sort s ≡ true → is_regular (constant f) ≡ true
unfolding is_minus_of
constant-regular f s args result fine = regular_over (symbol f) none (record {
  head = and_true (list_all is_sort f.args) (is_sort f.result) (ap (list_all is_sort) args) (ap is_sort result ∙ fine);
  no_minus = refl;
  operands = refl;
})

mutual
  pub constants-sort : (ns : Named) → All IsConstantOf ns → (t : Term) (s : Sort) → sort_of t ≡ Some s → sort_of (with_constants ns t) ≡ Some s
  constants-sort ns all (apply h ts) s has =
      let parts = applied h ts s has in
      constants-applied (λ r. sort_of r ≡ Some s) ns h ts
      (λ f found. let constant_of_it = found-holds IsConstantOf ns (apply h ts) f all found in constant-sort f s constant_of_it.0 (constant_of_it.1 s has) (rank-narrow h parts.sorts s parts.rank))
      (λ _. sort_of-apply h (with_constants_each ns ts) parts.sorts s (constants-sorts ns all ts parts.sorts parts.operands) parts.rank)
  constants-sort ns all (quantified q xs body) s has = has

  pub constants-sorts : (ns : Named) → All IsConstantOf ns → (ts : Terms) (ss : List Sort) → sorts_of ts ≡ Some ss → sorts_of (with_constants_each ns ts) ≡ Some ss
  constants-sorts ns all none ss has = has
  constants-sorts ns all (t ⨾ ts) ss has =
      let parts = sorted t ts ss has in
      more_sorts (with_constants ns t) (with_constants_each ns ts) parts.sort parts.sorts
      (constants-sort ns all t parts.sort parts.first) (constants-sorts ns all ts parts.sorts parts.others)
      ∙ ap Some (sym parts.all)

-- ---- regular terms

-- no unary minus comes to stand over a constant of the theory
minus-kept : (ns : Named) (h : Head) (ts : Terms) → is_minus_of h ts ≡ false → is_minus_of h (with_constants_each ns ts) ≡ false
unfolding is_minus_of
minus-kept ns (symbol f) ts plain = refl
minus-kept ns (const_array s) ts plain = refl
minus-kept ns (op p) none plain = refl
minus-kept ns (op p) (t ⨾ (u ⨾ us)) plain = two_or_more p (with_constants ns t) (with_constants ns u) (with_constants_each ns us)
minus-kept ns (op p) (quantified q xs body ⨾ none) plain = refl
minus-kept ns (op p) (apply g us ⨾ none) plain =
    constants-applied (λ r. is_minus_of (op p) (r ⨾ none) ≡ false) ns g us (λ f found. refl) (λ _. operand g us plain)
  where
    operand : (g : Head) (us : Terms) → is_minus_of (op p) (apply g us ⨾ none) ≡ false → is_minus_of (op p) (apply g (with_constants_each ns us) ⨾ none) ≡ false
    operand (symbol f) us plain = refl
    operand (const_array s) us plain = refl
    operand (op c) none plain = plain
    operand (op c) (u ⨾ us) plain = refl

mutual
  pub constants-regular : (ns : Named) → All IsConstantOf ns → (t : Term) (s : Sort) → is_regular t ≡ true → sort_of t ≡ Some s → is_regular (with_constants ns t) ≡ true
  constants-regular ns all (apply h ts) s fine has =
      let rules = regular h ts fine in
      let parts = applied h ts s has in
      constants-applied (λ r. is_regular r ≡ true) ns h ts
      (λ f found. let constant_of_it = found-holds IsConstantOf ns (apply h ts) f all found in constant-regular f s constant_of_it.0 (constant_of_it.1 s has) (sort_is_sort (apply h ts) s fine has))
      (λ _. regular_over h (with_constants_each ns ts) (record {
        head = rules.head;
        no_minus = ap not (minus-kept ns h ts (not_true (is_minus_of h ts) rules.no_minus));
        operands = constants-each_regular ns all ts parts.sorts rules.operands parts.operands;
      }))
  constants-regular ns all (quantified q xs body) s fine has = fine

  constants-each_regular : (ns : Named) → All IsConstantOf ns → (ts : Terms) (ss : List Sort) → are_regular ts ≡ true → sorts_of ts ≡ Some ss → are_regular (with_constants_each ns ts) ≡ true
  constants-each_regular ns all none ss fine has = refl
  constants-each_regular ns all (t ⨾ ts) ss fine has =
      let rules = both_true (is_regular t) (are_regular ts) fine in
      let parts = sorted t ts ss has in
      and_true (is_regular (with_constants ns t)) (are_regular (with_constants_each ns ts))
      (constants-regular ns all t parts.sort rules.0 parts.first) (constants-each_regular ns all ts parts.sorts rules.1 parts.others)

-- ---- free symbols

-- one that is free before or is among the constants
abbrev pub IsKnown : Named → List Symbol → Symbol → Type 0
IsKnown ns fs f = (is_among fs f || is_among (symbols_of ns) f) ≡ true

pub known-in : (ns : Named) (fs gs : List Symbol) (f : Symbol) → (is_among fs f ≡ true → is_among gs f ≡ true) → IsKnown ns fs f → IsKnown ns gs f
known-in ns fs gs f wider known = go (either_true (is_among fs f) (is_among (symbols_of ns) f) known)
  where
    go : (is_among fs f ≡ true) ⊎ (is_among (symbols_of ns) f ≡ true) → IsKnown ns gs f
    go (inl here) = left_true (is_among gs f) (is_among (symbols_of ns) f) (wider here)
    go (inr new) = right_true (is_among gs f) (is_among (symbols_of ns) f) new

in-first : (fs gs : List Symbol) (f : Symbol) → is_among fs f ≡ true → is_among (with_more fs gs) f ≡ true
in-first fs gs f among = is_among-with_more fs gs f ∙ left_true (is_among fs f) (is_among gs f) among

in-second : (fs gs : List Symbol) (f : Symbol) → is_among gs f ≡ true → is_among (with_more fs gs) f ≡ true
in-second fs gs f among = is_among-with_more fs gs f ∙ right_true (is_among fs f) (is_among gs f) among

-- where each of two lists has only known symbols, so has the list of both
known-joined : (ns : Named) (fs gs us vs : List Symbol) (f : Symbol) → (is_among us f ≡ true → IsKnown ns fs f) → (is_among vs f ≡ true → IsKnown ns gs f) → is_among (with_more us vs) f ≡ true → IsKnown ns (with_more fs gs) f
known-joined ns fs gs us vs f first second among = go (either_true (is_among us f) (is_among vs f) (sym (is_among-with_more us vs f) ∙ among))
  where
    go : (is_among us f ≡ true) ⊎ (is_among vs f ≡ true) → IsKnown ns (with_more fs gs) f
    go (inl here) = known-in ns fs (with_more fs gs) f (in-first fs gs f) (first here)
    go (inr there) = known-in ns gs (with_more fs gs) f (in-second fs gs f) (second there)

constant-among : (f g : Symbol) → is_among (free (constant f)) g ≡ true → f ≡ g
constant-among f g among = go (either_true (symbol_eq f g) false among)
  where
    go : (symbol_eq f g ≡ true) ⊎ (false ≡ true) → f ≡ g
    go (inl same) = (Decides-symbol_eq f g).0 same
    go (inr never) = absurd cc

pub constant-known : (ns : Named) (fs : List Symbol) (f g : Symbol) → is_among (symbols_of ns) f ≡ true → is_among (free (constant f)) g ≡ true → IsKnown ns fs g
constant-known ns fs f g among free_there =
    right_true (is_among fs g) (is_among (symbols_of ns) g) (ap (is_among (symbols_of ns)) (sym (constant-among f g free_there)) ∙ among)

mutual
  pub constants-free : (ns : Named) (t : Term) (f : Symbol) → is_among (free (with_constants ns t)) f ≡ true → IsKnown ns (free t) f
  constants-free ns (apply h ts) f among =
      constants-applied (λ r. is_among (free r) f ≡ true → IsKnown ns (free (apply h ts)) f) ns h ts
      (λ g found there. constant-known ns (free (apply h ts)) g f (found-among ns (apply h ts) g found) there)
      (λ _ there. known-joined ns (head_symbols h) (free_of ts) (head_symbols h) (free_of (with_constants_each ns ts)) f
      (λ here. left_true (is_among (head_symbols h) f) (is_among (symbols_of ns) f) here) (constants-each_free ns ts f) there)
      among
  constants-free ns (quantified q xs body) f among = left_true (is_among (free (quantified q xs body)) f) (is_among (symbols_of ns) f) among

  constants-each_free : (ns : Named) (ts : Terms) (f : Symbol) → is_among (free_of (with_constants_each ns ts)) f ≡ true → IsKnown ns (free_of ts) f
  constants-each_free ns none f among = absurd cc
  constants-each_free ns (t ⨾ ts) f among =
      known-joined ns (free t) (free_of ts) (free (with_constants ns t)) (free_of (with_constants_each ns ts)) f
      (constants-free ns t f) (constants-each_free ns ts f) among

-- ---- clear terms, and what holds of all that stands in a term

mutual
  pub constants-clear : (ns : Named) (t : Term) → is_clear_below [] t ≡ true → is_clear_below [] (with_constants ns t) ≡ true
  constants-clear ns (apply h ts) clear =
      let parts = both_true (is_head_seen [] h) (are_clear_below [] ts) clear in
      constants-applied (λ r. is_clear_below [] r ≡ true) ns h ts (λ f found. refl)
      (λ _. and_true (is_head_seen [] h) (are_clear_below [] (with_constants_each ns ts)) parts.0 (constants-each_clear ns ts parts.1))
  constants-clear ns (quantified q xs body) clear = clear

  constants-each_clear : (ns : Named) (ts : Terms) → are_clear_below [] ts ≡ true → are_clear_below [] (with_constants_each ns ts) ≡ true
  constants-each_clear ns none clear = refl
  constants-each_clear ns (t ⨾ ts) clear =
      let parts = both_true (is_clear_below [] t) (are_clear_below [] ts) clear in
      and_true (is_clear_below [] (with_constants ns t)) (are_clear_below [] (with_constants_each ns ts)) (constants-clear ns t parts.0) (constants-each_clear ns ts parts.1)

pub constant-within : (ns : Named) (heads : Head → Bool) (binders : List Variable → Bool) (f : Symbol) → list_all (λ g. heads (symbol g)) (symbols_of ns) ≡ true → is_among (symbols_of ns) f ≡ true → every heads binders (constant f) ≡ true
constant-within ns heads binders f new among =
    and_true (heads (symbol f)) true (among-passes (λ g. heads (symbol g)) (symbols_of ns) f new among) refl

mutual
  pub constants-within : (ns : Named) (heads : Head → Bool) (binders : List Variable → Bool) → list_all (λ g. heads (symbol g)) (symbols_of ns) ≡ true → (t : Term) → every heads binders t ≡ true → every heads binders (with_constants ns t) ≡ true
  constants-within ns heads binders new (apply h ts) holds =
      let parts = both_true (heads h) (every_of heads binders ts) holds in
      constants-applied (λ r. every heads binders r ≡ true) ns h ts
      (λ f found. constant-within ns heads binders f new (found-among ns (apply h ts) f found))
      (λ _. and_true (heads h) (every_of heads binders (with_constants_each ns ts)) parts.0 (constants-each_within ns heads binders new ts parts.1))
  constants-within ns heads binders new (quantified q xs body) holds = holds

  constants-each_within : (ns : Named) (heads : Head → Bool) (binders : List Variable → Bool) → list_all (λ g. heads (symbol g)) (symbols_of ns) ≡ true → (ts : Terms) → every_of heads binders ts ≡ true → every_of heads binders (with_constants_each ns ts) ≡ true
  constants-each_within ns heads binders new none holds = refl
  constants-each_within ns heads binders new (t ⨾ ts) holds =
      let parts = both_true (every heads binders t) (every_of heads binders ts) holds in
      and_true (every heads binders (with_constants ns t)) (every_of heads binders (with_constants_each ns ts))
      (constants-within ns heads binders new t parts.0) (constants-each_within ns heads binders new ts parts.1)
