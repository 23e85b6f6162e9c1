-- Terms without applications that are made of what stands in the inputs, of operators and of new constants.
use Rattle.std.proofs.Common.{◌≡◌, ◌≤◌, Bool, true, false, not, ◌||◌, inl, inr, List, [], ◌∷◌, Some, Ok, refl, ap, sym, ◌∙◌, arith}
use Rattle.std.specs.List.{list_all}
use Rattle.smt_terms.specs.declared.op.Op.{Op}
use Rattle.smt_terms.specs.declared.op.Op.TheVariants.{Implies, Equal}
use Rattle.smt_terms.specs.Connectives.{implies, equal}
use Rattle.smt_terms.specs.Equal.{symbol_eq}
use Rattle.smt_terms.specs.Free.{is_among, with_more, head_symbols, free, free_of}
use Rattle.smt_terms.specs.Groups.{Named}
use Rattle.smt_terms.specs.Rank.{shape, width, most_bits, rank, has_sorts, sort_of, sorts_of, is_sort, is_minus_of, is_regular, are_regular}
use Rattle.smt_terms.specs.Shapes.{is_application, no_application, no_applications, is_head_seen, is_clear_below, are_clear_below}
use Rattle.smt_terms.specs.Sorts.{Sort, bool, Symbol, Variable}
use Rattle.smt_terms.specs.Takes.{Takes}
use Rattle.smt_terms.specs.Term.{Head, op, symbol, const_array, Term, apply, Terms, none, ◌⨾◌, constant}
use Rattle.smt_terms.proofs.Among.{is_among-with_more}
use Rattle.smt_terms.proofs.Equal.{Decides-symbol_eq}
use Rattle.smt_terms.proofs.Keeping.{two_or_more}
use Rattle.smt_terms.proofs.Operands.{more_sorts, narrow_sort}
use Rattle.smt_terms.proofs.Ranked.{takes-rank}
use Rattle.smt_terms.proofs.Sorted.{sort_of-apply}
use Rattle.smt_terms.proofs.SortsOfTerms.{regular_over}
use Rattle.smt_terms.proofs.Tests.{and_true, either_true, right_true}
use Rattle.term_groups.specs.Every.{every, every_of}
use Rattle.term_groups.specs.Grouping.{symbols_of}
use Rattle.ackermann.specs.Removals.{is_free_in}
use Rattle.ackermann.proofs.UseLists.{among-passes}

-- free in the inputs, or a new constant
abbrev pub IsKnown : List Term → Named → Symbol → Type 0
IsKnown inputs ns f = (is_free_in inputs f || is_among (symbols_of ns) f) ≡ true

abbrev pub Allowed : List Term → Named → (Head → Bool) → (List Variable → Bool) → Type 0
Allowed inputs ns heads binders = ((o : Op) → heads (op o) ≡ true) × (list_all (every heads binders) inputs ≡ true) × (list_all (λ f. heads (symbol f)) (symbols_of ns) ≡ true)

pub record IsBuilt (inputs : List Term) (ns : Named) (r : Term) (s : Sort) : Type 0 where
  pub sort : sort_of r ≡ Some s
  pub rules : is_regular r ≡ true
  pub plain : no_application r ≡ true
  pub symbols : (f : Symbol) → is_among (free r) f ≡ true → IsKnown inputs ns f
  pub clear : list_all (is_clear_below []) inputs ≡ true → is_clear_below [] r ≡ true
  pub within : (heads : Head → Bool) (binders : List Variable → Bool) → Allowed inputs ns heads binders → every heads binders r ≡ true

pub record AreBuilt (inputs : List Term) (ns : Named) (rs : Terms) (ss : List Sort) : Type 0 where
  pub sorts : sorts_of rs ≡ Some ss
  pub rules : are_regular rs ≡ true
  pub plain : no_applications rs ≡ true
  pub symbols : (f : Symbol) → is_among (free_of rs) f ≡ true → IsKnown inputs ns f
  pub clear : list_all (is_clear_below []) inputs ≡ true → are_clear_below [] rs ≡ true
  pub within : (heads : Head → Bool) (binders : List Variable → Bool) → Allowed inputs ns heads binders → every_of heads binders rs ≡ true

-- a head that may stand over built operands of these sorts
pub record MayHead (inputs : List Term) (ns : Named) (h : Head) (rs : Terms) (ss : List Sort) (s : Sort) : Type 0 where
  pub rank : rank h ss ≡ Ok s
  pub sorts : has_sorts h ≡ true
  pub no_minus : is_minus_of h rs ≡ false
  pub plain : is_application h rs ≡ false
  pub symbols : (f : Symbol) → is_among (head_symbols h) f ≡ true → IsKnown inputs ns f
  pub allowed : (heads : Head → Bool) (binders : List Variable → Bool) → Allowed inputs ns heads binders → heads h ≡ true

in-either : (fs gs : List Symbol) (f : Symbol) (A : Type 0) → (is_among fs f ≡ true → A) → (is_among gs f ≡ true → A) → is_among (with_more fs gs) f ≡ true → A
in-either fs gs f A first second among = elim (either_true (is_among fs f) (is_among gs f) (sym (is_among-with_more fs gs f) ∙ among)) [
  | inl here ↦ first here
  | inr there ↦ second there
]

in-none : (f : Symbol) (A : Type 0) → is_among [] f ≡ true → A
in-none f A among = absurd (never among)
  where
    never : is_among [] f ≡ true → ⊥
    never h = absurd cc

head-seen : (h : Head) → is_head_seen [] h ≡ true
head-seen (op o) = refl
head-seen (symbol f) = refl
head-seen (const_array s) = refl

module _ (inputs : List Term) (ns : Named) where
  pub built-none : AreBuilt inputs ns none []
  built-none = record {
    sorts = refl;
    rules = refl;
    plain = refl;
    symbols = λ f. in-none f (IsKnown inputs ns f);
    clear = λ clear. refl;
    within = λ heads binders allowed. refl;
  }

  pub built-more : (r : Term) (rs : Terms) (s : Sort) (ss : List Sort) → IsBuilt inputs ns r s → AreBuilt inputs ns rs ss → AreBuilt inputs ns (r ⨾ rs) (s ∷ ss)
  built-more r rs s ss first others = record {
    sorts = more_sorts r rs s ss first.sort others.sorts;
    rules = and_true (is_regular r) (are_regular rs) first.rules others.rules;
    plain = and_true (no_application r) (no_applications rs) first.plain others.plain;
    symbols = λ f. in-either (free r) (free_of rs) f (IsKnown inputs ns f) (first.symbols f) (others.symbols f);
    clear = λ clear. and_true (is_clear_below [] r) (are_clear_below [] rs) (first.clear clear) (others.clear clear);
    within = λ heads binders allowed. and_true (every heads binders r) (every_of heads binders rs) (first.within heads binders allowed) (others.within heads binders allowed);
  }

  pub built-over : (h : Head) (rs : Terms) (ss : List Sort) (s : Sort) → MayHead inputs ns h rs ss s → AreBuilt inputs ns rs ss → IsBuilt inputs ns (apply h rs) s
  built-over h rs ss s head operands = record {
    sort = sort_of-apply h rs ss s operands.sorts head.rank;
    rules = regular_over h rs (record { head = head.sorts; no_minus = ap not head.no_minus; operands = operands.rules });
    plain = and_true (not (is_application h rs)) (no_applications rs) (ap not head.plain) operands.plain;
    symbols = λ f. in-either (head_symbols h) (free_of rs) f (IsKnown inputs ns f) (head.symbols f) (operands.symbols f);
    clear = λ clear. and_true (is_head_seen [] h) (are_clear_below [] rs) (head-seen h) (operands.clear clear);
    within = λ heads binders allowed. and_true (heads h) (every_of heads binders rs) (head.allowed heads binders allowed) (operands.within heads binders allowed);
  }

  -- ---- a new constant

  pub built-constant : (v : Symbol) (s : Sort) → is_among (symbols_of ns) v ≡ true → v.args ≡ [] → v.result ≡ s → is_sort s ≡ true → IsBuilt inputs ns (constant v) s
  unfolding is_minus_of
  built-constant v s among args result fine = built-over (symbol v) none [] s (record {
    rank = takes-rank (symbol v) [] s (sym args, sym result) (narrow_sort s fine);
    sorts = and_true (list_all is_sort v.args) (is_sort v.result) (ap (list_all is_sort) args) (ap is_sort result ∙ fine);
    no_minus = refl;
    plain = refl;
    symbols = λ f there. right_true (is_free_in inputs f) (is_among (symbols_of ns) f) (ap (is_among (symbols_of ns)) (sym (itself f there)) ∙ among);
    allowed = λ heads binders allowed. among-passes (λ g. heads (symbol g)) (symbols_of ns) v allowed.2 among;
  }) built-none
    where
      itself : (f : Symbol) → is_among (v ∷ []) f ≡ true → v ≡ f
      itself f there = elim (either_true (symbol_eq v f) false there) [
        | inl same ↦ (Decides-symbol_eq v f).0 same
        | inr never ↦ absurd cc
      ]

  -- ---- operators over two operands and more

  pub built-operator : (o : Op) (a b : Term) (rs : Terms) (ss : List Sort) → Takes (shape o) ss bool → AreBuilt inputs ns (a ⨾ (b ⨾ rs)) ss → IsBuilt inputs ns (apply (op o) (a ⨾ (b ⨾ rs))) bool
  built-operator o a b rs ss takes operands = built-over (op o) (a ⨾ (b ⨾ rs)) ss bool (record {
    rank = let narrow : width bool ≤ most_bits = omega arith in takes-rank (op o) ss bool takes narrow;
    sorts = refl;
    no_minus = two_or_more o a b rs;
    plain = refl;
    symbols = λ f. in-none f (IsKnown inputs ns f);
    allowed = λ heads binders allowed. allowed.0 o;
  }) operands

  pub built-implies : (a b : Term) → IsBuilt inputs ns a bool → IsBuilt inputs ns b bool → IsBuilt inputs ns (implies a b) bool
  unfolding shape
  built-implies a b first second =
      built-operator Implies a b none (bool ∷ bool ∷ []) (refl, refl) (built-more a (b ⨾ none) bool (bool ∷ []) first (built-more b none bool [] second built-none))

  pub built-equal : (a b : Term) (s : Sort) → IsBuilt inputs ns a s → IsBuilt inputs ns b s → IsBuilt inputs ns (equal a b) bool
  unfolding shape
  built-equal a b s first second =
      built-operator Equal a b none (s ∷ s ∷ []) (s, refl, refl) (built-more a (b ⨾ none) s (s ∷ []) first (built-more b none s [] second built-none))
