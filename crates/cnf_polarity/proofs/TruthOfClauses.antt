-- What the clauses of a name say of truth values: those for a positive occurrence say that the name implies its connective over
-- the literals, those for a negative one that the connective implies the name.
use Rattle.std.proofs.Common.{◌≡◌, ℕ, zero, suc, ◌≤◌, Bool, true, false, not, cond, ◌&&◌, ◌||◌, List, [], ◌∷◌, map, length, refl, ap, sym, ◌∙◌, arith}
use Rattle.std.specs.Bool.{beq}
use Rattle.std.specs.List.{list_all, list_any}
use Rattle.smt_terms.specs.declared.op.Op.TheVariants.{Truth, Not}
use Rattle.smt_terms.specs.Term.{op, Term, apply, none, ◌⨾◌, terms}
use Rattle.smt_terms.specs.Connectives.{Kind, truth_value, negation, conjunction, disjunction, exclusive, implication, equivalence, difference, conditional, atom, any_of, either, nth}
use Rattle.smt_terms.specs.Values.{is_true}
use Rattle.smt_terms.specs.Operators.{op_value}
use Rattle.smt_terms.specs.Models.{Model}
use Rattle.smt_terms.specs.Val.{no_variables, vals}
use Rattle.smt_terms.proofs.Connected.{Count, kind_value, distinct_bits, all_bits, any_bit, bit}
use Rattle.term_groups.specs.Grouping.{holds_in}
use Rattle.cnf_polarity.specs.Cnf.{complement, triple, differ_if, if_differ, distinct_if, if_distinct, positive_clauses, negative_clauses}
use Rattle.cnf_polarity.proofs.Polarity.{Follows}

-- the connectives that get names
abbrev pub gets_name : Kind → Bool
gets_name (truth_value b) = false
gets_name atom = false
gets_name negation = false
gets_name _ = true

-- the clauses for an occurrence in this polarity
abbrev pub clauses_at : Bool → Kind → Term → List Term → List Term
clauses_at true k n ls = positive_clauses k n ls
clauses_at false k n ls = negative_clauses k n ls

-- ---- laws of truth values

not_not : (a : Bool) → a ≡ not (not a)
not_not true = refl
not_not false = refl

and_right : (a : Bool) → (a && true) ≡ a
and_right true = refl
and_right false = refl

or_right : (a : Bool) → (a || false) ≡ a
or_right true = refl
or_right false = refl

or_true : (b : Bool) → (b || true) ≡ true
or_true true = refl
or_true false = refl

implies-all : (n a b : Bool) → ((not n || a) && (not n || b)) ≡ (not n || (a && b))
implies-all true a b = refl
implies-all false a b = refl

any-implies : (n a b : Bool) → ((n || not a) && (n || not b)) ≡ (n || not (a || b))
any-implies true a b = refl
any-implies false true b = refl
any-implies false false b = refl

some-not : (a b c : Bool) → b ≡ not c → (not a || b) ≡ not (a && c)
some-not true b c e = e
some-not false b c e = refl

differ-bits : (n a b : Bool) → ((not n || (a || b)) && ((not n || (not a || not b)) && true)) ≡ (not n || not (beq a b))
differ-bits false a b = refl
differ-bits true true true = refl
differ-bits true true false = refl
differ-bits true false true = refl
differ-bits true false false = refl

unlike-bits : (n a b : Bool) → ((n || (not a || b)) && ((n || (a || not b)) && true)) ≡ (n || not (not (beq a b)))
unlike-bits true a b = refl
unlike-bits false true true = refl
unlike-bits false true false = refl
unlike-bits false false true = refl
unlike-bits false false false = refl

agree-bits : (n a b : Bool) → ((not n || (not a || b)) && ((not n || (a || not b)) && true)) ≡ (not n || beq a b)
agree-bits false a b = refl
agree-bits true true true = refl
agree-bits true true false = refl
agree-bits true false true = refl
agree-bits true false false = refl

alike-bits : (n a b : Bool) → ((n || (a || b)) && ((n || (not a || not b)) && true)) ≡ (n || not (beq a b))
alike-bits true a b = refl
alike-bits false true true = refl
alike-bits false true false = refl
alike-bits false false true = refl
alike-bits false false false = refl

not-implied-bits : (n a b : Bool) → ((n || a) && ((n || not b) && true)) ≡ (n || not (not a || b))
not-implied-bits true a b = refl
not-implied-bits false true b = and_right (not b)
not-implied-bits false false b = refl

choice-bits : (n c a b : Bool) → ((not n || (not c || a)) && ((not n || (c || b)) && true)) ≡ (not n || cond c a b)
choice-bits false c a b = refl
choice-bits true true a b = and_right a
choice-bits true false a b = and_right b

not-chosen-bits : (n c a b : Bool) → ((n || (not c || not a)) && ((n || (c || not b)) && true)) ≡ (n || not (cond c a b))
not-chosen-bits true c a b = refl
not-chosen-bits false true a b = and_right (not a)
not-chosen-bits false false a b = and_right (not b)

-- ---- literals, and `or` of them

module _ (m : Model) where
  abbrev pub truths : List Term → List Bool
  truths ls = map (holds_in m) ls

  pub holds-complement : (l : Term) → holds_in m (complement l) ≡ not (holds_in m l)
  unfolding op_value
  holds-complement (apply (op (Truth b)) none) = refl
  holds-complement (apply (op Not) (t ⨾ none)) = not_not (holds_in m t)
  holds-complement _ = refl

  any-values : (ls : List Term) → list_any is_true (vals m (terms ls) no_variables) ≡ any_bit (truths ls)
  any-values [] = refl
  any-values (l ∷ ls) = ap (λ b. holds_in m l || b) (any-values ls)

  holds-any : (ls : List Term) → holds_in m (any_of ls) ≡ any_bit (truths ls)
  unfolding op_value
  holds-any ls = any-values ls

  holds-nth : (ls : List Term) (i : ℕ) → holds_in m (nth ls i) ≡ bit (truths ls) i
  unfolding op_value
  holds-nth [] i = refl
  holds-nth (l ∷ ls) zero = refl
  holds-nth (l ∷ ls) (suc i) = holds-nth ls i

  pub not-nth : (ls : List Term) (i : ℕ) → holds_in m (complement (nth ls i)) ≡ not (bit (truths ls) i)
  not-nth ls i = holds-complement (nth ls i) ∙ ap not (holds-nth ls i)

  either-says : (l k : Term) (x y : Bool) → holds_in m l ≡ x → holds_in m k ≡ y → holds_in m (either l k) ≡ (x || y)
  unfolding op_value
  either-says l k x y p q = (λ i. p i || (q i || false)) ∙ ap (λ b. x || b) (or_right y)

  triple-says : (l k j : Term) (x y z : Bool) → holds_in m l ≡ x → holds_in m k ≡ y → holds_in m j ≡ z → holds_in m (triple l k j) ≡ (x || (y || z))
  unfolding op_value
  triple-says l k j x y z p q r = (λ i. p i || (q i || (r i || false))) ∙ ap (λ b. x || (y || b)) (or_right z)

  one-says : (p : Term) (x : Bool) → holds_in m p ≡ x → list_all (holds_in m) (p ∷ []) ≡ x
  one-says p x a = ap (λ b. b && true) a ∙ and_right x

  two-say : (p q : Term) (x y : Bool) → holds_in m p ≡ x → holds_in m q ≡ y → list_all (holds_in m) (p ∷ q ∷ []) ≡ (x && (y && true))
  two-say p q x y a b = λ i. a i && (b i && true)

  -- ---- the clauses of a name by the kind of its connective

  module _ (n : Term) where
    abbrev named : Bool
    named = holds_in m n

    not-named : holds_in m (complement n) ≡ not named
    not-named = holds-complement n

    all-under : (ls : List Term) → list_all (holds_in m) (map (λ l. either (complement n) l) ls) ≡ (not named || all_bits (truths ls))
    all-under [] = sym (or_true (not named))
    all-under (l ∷ ls) = (λ i. either-says (complement n) l (not named) (holds_in m l) not-named refl i && all-under ls i) ∙ implies-all named (holds_in m l) (all_bits (truths ls))

    any-under : (ls : List Term) → list_all (holds_in m) (map (λ l. either n (complement l)) ls) ≡ (named || not (any_bit (truths ls)))
    any-under [] = sym (or_true named)
    any-under (l ∷ ls) = (λ i. either-says n (complement l) named (not (holds_in m l)) refl (holds-complement l) i && any-under ls i) ∙ any-implies named (holds_in m l) (any_bit (truths ls))

    some-complement : (ls : List Term) → any_bit (truths (map complement ls)) ≡ not (all_bits (truths ls))
    some-complement [] = refl
    some-complement (l ∷ ls) = ap (λ b. b || any_bit (truths (map complement ls))) (holds-complement l) ∙ some-not (holds_in m l) (any_bit (truths (map complement ls))) (all_bits (truths ls)) (some-complement ls)

    module _ (ls : List Term) where
      abbrev at : ℕ → Bool
      at i = bit (truths ls) i

      differ-said : list_all (holds_in m) (differ_if n (nth ls 0) (nth ls 1)) ≡ (not named || not (beq (at 0) (at 1)))
      differ-said =
          two-say (triple (complement n) (nth ls 0) (nth ls 1)) (triple (complement n) (complement (nth ls 0)) (complement (nth ls 1))) _ _
          (triple-says (complement n) (nth ls 0) (nth ls 1) (not named) (at 0) (at 1) not-named (holds-nth ls 0) (holds-nth ls 1))
          (triple-says (complement n) (complement (nth ls 0)) (complement (nth ls 1)) (not named) (not (at 0)) (not (at 1)) not-named (not-nth ls 0) (not-nth ls 1))
          ∙ differ-bits named (at 0) (at 1)

      unlike-said : list_all (holds_in m) (if_differ n (nth ls 0) (nth ls 1)) ≡ (named || not (not (beq (at 0) (at 1))))
      unlike-said =
          two-say (triple n (complement (nth ls 0)) (nth ls 1)) (triple n (nth ls 0) (complement (nth ls 1))) _ _
          (triple-says n (complement (nth ls 0)) (nth ls 1) named (not (at 0)) (at 1) refl (not-nth ls 0) (holds-nth ls 1))
          (triple-says n (nth ls 0) (complement (nth ls 1)) named (at 0) (not (at 1)) refl (holds-nth ls 0) (not-nth ls 1))
          ∙ unlike-bits named (at 0) (at 1)

      implied-said : list_all (holds_in m) (positive_clauses implication n ls) ≡ (not named || kind_value implication (truths ls))
      implied-said =
          one-says (triple (complement n) (complement (nth ls 0)) (nth ls 1)) _
          (triple-says (complement n) (complement (nth ls 0)) (nth ls 1) (not named) (not (at 0)) (at 1) not-named (not-nth ls 0) (holds-nth ls 1))

      not-implied-said : list_all (holds_in m) (negative_clauses implication n ls) ≡ (named || not (kind_value implication (truths ls)))
      not-implied-said =
          two-say (either n (nth ls 0)) (either n (complement (nth ls 1))) _ _
          (either-says n (nth ls 0) named (at 0) refl (holds-nth ls 0))
          (either-says n (complement (nth ls 1)) named (not (at 1)) refl (not-nth ls 1))
          ∙ not-implied-bits named (at 0) (at 1)

      agree-said : list_all (holds_in m) (positive_clauses equivalence n ls) ≡ (not named || kind_value equivalence (truths ls))
      agree-said =
          two-say (triple (complement n) (complement (nth ls 0)) (nth ls 1)) (triple (complement n) (nth ls 0) (complement (nth ls 1))) _ _
          (triple-says (complement n) (complement (nth ls 0)) (nth ls 1) (not named) (not (at 0)) (at 1) not-named (not-nth ls 0) (holds-nth ls 1))
          (triple-says (complement n) (nth ls 0) (complement (nth ls 1)) (not named) (at 0) (not (at 1)) not-named (holds-nth ls 0) (not-nth ls 1))
          ∙ agree-bits named (at 0) (at 1)

      alike-said : list_all (holds_in m) (negative_clauses equivalence n ls) ≡ (named || not (kind_value equivalence (truths ls)))
      alike-said =
          two-say (triple n (nth ls 0) (nth ls 1)) (triple n (complement (nth ls 0)) (complement (nth ls 1))) _ _
          (triple-says n (nth ls 0) (nth ls 1) named (at 0) (at 1) refl (holds-nth ls 0) (holds-nth ls 1))
          (triple-says n (complement (nth ls 0)) (complement (nth ls 1)) named (not (at 0)) (not (at 1)) refl (not-nth ls 0) (not-nth ls 1))
          ∙ alike-bits named (at 0) (at 1)

      chosen-said : list_all (holds_in m) (positive_clauses conditional n ls) ≡ (not named || kind_value conditional (truths ls))
      chosen-said =
          two-say (triple (complement n) (complement (nth ls 0)) (nth ls 1)) (triple (complement n) (nth ls 0) (nth ls 2)) _ _
          (triple-says (complement n) (complement (nth ls 0)) (nth ls 1) (not named) (not (at 0)) (at 1) not-named (not-nth ls 0) (holds-nth ls 1))
          (triple-says (complement n) (nth ls 0) (nth ls 2) (not named) (at 0) (at 2) not-named (holds-nth ls 0) (holds-nth ls 2))
          ∙ choice-bits named (at 0) (at 1) (at 2)

      not-chosen-said : list_all (holds_in m) (negative_clauses conditional n ls) ≡ (named || not (kind_value conditional (truths ls)))
      not-chosen-said =
          two-say (triple n (complement (nth ls 0)) (complement (nth ls 1))) (triple n (nth ls 0) (complement (nth ls 2))) _ _
          (triple-says n (complement (nth ls 0)) (complement (nth ls 1)) named (not (at 0)) (not (at 1)) refl (not-nth ls 0) (not-nth ls 1))
          (triple-says n (nth ls 0) (complement (nth ls 2)) named (at 0) (not (at 2)) refl (holds-nth ls 0) (not-nth ls 2))
          ∙ not-chosen-bits named (at 0) (at 1) (at 2)

    distinct-said : (ls : List Term) → 2 ≤ length ls → list_all (holds_in m) (distinct_if n ls) ≡ (not named || distinct_bits (truths ls))
    distinct-said (l ∷ k ∷ []) many = differ-said (l ∷ k ∷ [])
    distinct-said (l ∷ k ∷ j ∷ ls) many = one-says (complement n) (not named) not-named ∙ sym (or_right (not named))
    distinct-said [] many = absurd (omega arith)
    distinct-said (l ∷ []) many = absurd (omega arith)

    not-distinct-said : (ls : List Term) → 2 ≤ length ls → list_all (holds_in m) (if_distinct n ls) ≡ (named || not (distinct_bits (truths ls)))
    not-distinct-said (l ∷ k ∷ []) many = unlike-said (l ∷ k ∷ [])
    not-distinct-said (l ∷ k ∷ j ∷ ls) many = sym (or_true named)
    not-distinct-said [] many = absurd (omega arith)
    not-distinct-said (l ∷ []) many = absurd (omega arith)

  -- ---- of either polarity

  positive-said : (k : Kind) (n : Term) (ls : List Term) → gets_name k ≡ true → Count k (length ls) → list_all (holds_in m) (positive_clauses k n ls) ≡ (not (holds_in m n) || kind_value k (truths ls))
  positive-said conjunction n ls c count = all-under n ls
  positive-said disjunction n ls c count =
      one-says (any_of (complement n ∷ ls)) _ (holds-any (complement n ∷ ls)) ∙ ap (λ b. b || any_bit (truths ls)) (not-named n)
  positive-said exclusive n ls c count = differ-said n ls
  positive-said implication n ls c count = implied-said n ls
  positive-said equivalence n ls c count = agree-said n ls
  positive-said difference n ls c count = distinct-said n ls count
  positive-said conditional n ls c count = chosen-said n ls
  positive-said _ n ls c count = absurd cc

  negative-said : (k : Kind) (n : Term) (ls : List Term) → gets_name k ≡ true → Count k (length ls) → list_all (holds_in m) (negative_clauses k n ls) ≡ (holds_in m n || not (kind_value k (truths ls)))
  negative-said conjunction n ls c count =
      one-says (any_of (n ∷ map complement ls)) _ (holds-any (n ∷ map complement ls)) ∙ ap (λ b. holds_in m n || b) (some-complement n ls)
  negative-said disjunction n ls c count = any-under n ls
  negative-said exclusive n ls c count = unlike-said n ls
  negative-said implication n ls c count = not-implied-said n ls
  negative-said equivalence n ls c count = alike-said n ls
  negative-said difference n ls c count = not-distinct-said n ls count
  negative-said conditional n ls c count = not-chosen-said n ls
  negative-said _ n ls c count = absurd cc

  -- where they hold, the connective over the literals follows from the name in that polarity
  pub clauses-imply : (p : Bool) (k : Kind) (n : Term) (ls : List Term) → gets_name k ≡ true → Count k (length ls) → list_all (holds_in m) (clauses_at p k n ls) ≡ true → Follows p (holds_in m n) (kind_value k (truths ls))
  clauses-imply true k n ls c count h = λ e. implied (holds_in m n) (kind_value k (truths ls)) (sym (positive-said k n ls c count) ∙ h) e
    where
      implied : (a b : Bool) → (not a || b) ≡ true → a ≡ true → b ≡ true
      implied true b f e = f
      implied false b f e = absurd cc
  clauses-imply false k n ls c count h = λ e. implied (holds_in m n) (kind_value k (truths ls)) (sym (negative-said k n ls c count) ∙ h) e
    where
      implied : (a b : Bool) → (a || not b) ≡ true → b ≡ true → a ≡ true
      implied true b f e = refl
      implied false true f e = f
      implied false false f e = absurd cc

  -- and where the name says what the connective says over the literals, they hold
  pub clauses-hold : (p : Bool) (k : Kind) (n : Term) (ls : List Term) → gets_name k ≡ true → Count k (length ls) → holds_in m n ≡ kind_value k (truths ls) → list_all (holds_in m) (clauses_at p k n ls) ≡ true
  clauses-hold true k n ls c count e = positive-said k n ls c count ∙ ap (λ b. not b || kind_value k (truths ls)) e ∙ itself (kind_value k (truths ls))
    where
      itself : (a : Bool) → (not a || a) ≡ true
      itself true = refl
      itself false = refl
  clauses-hold false k n ls c count e = negative-said k n ls c count ∙ ap (λ b. b || not (kind_value k (truths ls))) e ∙ itself (kind_value k (truths ls))
    where
      itself : (a : Bool) → (a || not a) ≡ true
      itself true = refl
      itself false = refl
