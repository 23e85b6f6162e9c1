-- Where all clauses hold, a formula follows from its literal in each polarity in which it occurs: where it occurs positively, a
-- true literal makes it true, and where negatively, a false literal makes it false.
use Rattle.std.proofs.Common.{◌≡◌, ℕ, suc, Bool, true, false, not, List, map, length, All, Option, Some, None, refl, ap, sym, ◌∙◌, subst}
use Rattle.std.specs.List.{list_all}
use Rattle.smt_terms.specs.Connectives.{Kind, truth_value, negation, conjunction, disjunction, exclusive, implication, equivalence, difference, conditional, atom, is_connective, kind_of, nth}
use Rattle.smt_terms.specs.Groups.{Named, constant_for, constant_or, where_so}
use Rattle.smt_terms.specs.Models.{Model}
use Rattle.smt_terms.specs.Rank.{sort_of}
use Rattle.smt_terms.specs.Sorts.{bool, Symbol}
use Rattle.smt_terms.specs.Term.{Head, Term, apply, quantified, Terms, none, ◌⨾◌, list, constant}
use Rattle.smt_terms.specs.Val.{no_variables, vals}
use Rattle.smt_terms.specs.Values.{is_true}
use Rattle.smt_terms.proofs.BoolOperands.{IfBool, Each, each-bool, operand-number}
use Rattle.smt_terms.proofs.Connected.{is_logical, Count, Connected, connected, connective-value, kind_value}
use Rattle.term_groups.specs.Grouping.{holds_in}
use Rattle.cnf_polarity.specs.Cnf.{Occurrence, Turn, keeps, exchanges, takes_both, turn, turned, occurrences, occurrences_of, occurs, literal_at, literal, literals, complement, clauses}
use Rattle.cnf_polarity.proofs.CnfValueNames.{constant-found, parts-pass, there-passes}
use Rattle.cnf_polarity.proofs.Occurrences.{AreAmong, first-among, second-among, occurs-there, operands-among}
use Rattle.cnf_polarity.proofs.Polarity.{Follows, follows-same, follows-itself, follows-through, Turned, Related, connective-follows}
use Rattle.cnf_polarity.proofs.TruthOfClauses.{gets_name, clauses_at, truths, not-nth, clauses-imply}

pub length-literals : (ns : Named) (ts : Terms) → length (literals ns ts) ≡ length (list ts)
length-literals ns none = refl
length-literals ns (t ⨾ ts) = ap suc (length-literals ns ts)

pub logical : (k : Kind) → is_connective k ≡ true → is_logical k ≡ true
logical negation c = refl
logical conjunction c = refl
logical disjunction c = refl
logical exclusive c = refl
logical implication c = refl
logical equivalence c = refl
logical difference c = refl
logical conditional c = refl
logical _ c = absurd cc

-- ---- by the kind of a connective

-- a formula that is true as its connective says follows from its literal
abbrev Line : Model → Kind → Type 0
Line m k =
    (x : Term) (name : Option Symbol) (ls : List Term) (bs : List Bool) (p : Bool)
    → Count k (length ls) → holds_in m x ≡ kind_value k bs → Related k 0 p (truths m ls) bs
    → ((f : Symbol) → name ≡ Some f → gets_name k ≡ true → list_all (holds_in m) (clauses_at p k (constant f) ls) ≡ true)
    → Follows p (holds_in m (literal_at k name x ls)) (holds_in m x)

not-line : (m : Model) → Line m negation
not-line m x name ls bs p count says related told =
    follows-through p (holds_in m (complement (nth ls 0))) (kind_value negation (truths m ls)) (holds_in m x)
    (follows-same p (holds_in m (complement (nth ls 0))) (kind_value negation (truths m ls)) (not-nth m ls 0))
    (follows-through p (kind_value negation (truths m ls)) (kind_value negation bs) (holds_in m x)
    (connective-follows negation p (truths m ls) bs refl related)
    (follows-same p (kind_value negation bs) (holds_in m x) (sym says)))

named-line : (m : Model) (k : Kind) → gets_name k ≡ true → is_connective k ≡ true → (x : Term) (name : Option Symbol) (ls : List Term) (bs : List Bool) (p : Bool)
    → Count k (length ls) → holds_in m x ≡ kind_value k bs → Related k 0 p (truths m ls) bs
    → ((f : Symbol) → name ≡ Some f → gets_name k ≡ true → list_all (holds_in m) (clauses_at p k (constant f) ls) ≡ true)
    → Follows p (holds_in m (constant_or name x)) (holds_in m x)
named-line m k g c x None ls bs p count says related told = follows-itself p (holds_in m x)
named-line m k g c x (Some f) ls bs p count says related told =
    follows-through p (holds_in m (constant f)) (kind_value k (truths m ls)) (holds_in m x)
    (clauses-imply m p k (constant f) ls g count (told f refl g))
    (follows-through p (kind_value k (truths m ls)) (kind_value k bs) (holds_in m x)
    (connective-follows k p (truths m ls) bs c related)
    (follows-same p (kind_value k bs) (holds_in m x) (sym says)))

line : (m : Model) (k : Kind) → is_connective k ≡ true → Line m k
line m negation c = not-line m
line m conjunction c = named-line m conjunction refl refl
line m disjunction c = named-line m disjunction refl refl
line m exclusive c = named-line m exclusive refl refl
line m implication c = named-line m implication refl refl
line m equivalence c = named-line m equivalence refl refl
line m difference c = named-line m difference refl refl
line m conditional c = named-line m conditional refl refl
line m _ c = absurd cc

-- ---- all formulas

module _ (m : Model) (ns : Named) (os : List Occurrence) (told : All (λ n. list_all (holds_in m) (clauses ns os n.0 n.1) ≡ true) ns) where
  abbrev Sound : Term → Type 0
  Sound t = (p : Bool) → AreAmong (occurrences p t) os → Follows p (holds_in m (literal ns t)) (holds_in m t)

  turned-follows : (r : Turn) (p : Bool) (t : Term) → Sound t → AreAmong (turned r p (λ q. occurrences q t)) os → Turned r p (holds_in m (literal ns t)) (holds_in m t)
  turned-follows keeps p t sound among = sound p among
  turned-follows exchanges p t sound among = sound (not p) among
  turned-follows takes_both p t sound among = (
    sound true (first-among (occurrences true t) (occurrences false t) os among),
    sound false (second-among (occurrences true t) (occurrences false t) os among),
  )

  related : (k : Kind) (i : ℕ) (p : Bool) (ts : Terms) → Each Sound ts → AreAmong (occurrences_of k i p ts) os → Related k i p (truths m (literals ns ts)) (map is_true (vals m ts no_variables))
  related k i p none each among = tt
  related k i p (t ⨾ ts) each among =
      let here : List Occurrence = turned (turn k i) p (λ q. occurrences q t) in (
        turned-follows (turn k i) p t each.0 (first-among here (occurrences_of k (suc i) p ts) os among),
        related k (suc i) p ts each.1 (second-among here (occurrences_of k (suc i) p ts) os among),
      )

  told-at : (p : Bool) (h : Head) (ts : Terms) (f : Symbol) → constant_for ns (apply h ts) ≡ Some f → occurs p (apply h ts) os ≡ true → list_all (holds_in m) (clauses_at p (kind_of h ts) (constant f) (literals ns ts)) ≡ true
  told-at p h ts f found there =
      let all : list_all (holds_in m) (clauses ns os f (apply h ts)) ≡ true = constant-found (λ n. list_all (holds_in m) (clauses ns os n.0 n.1) ≡ true) ns (apply h ts) f found told in
      let parts = parts-pass (holds_in m) (where_so (occurs true (apply h ts) os) (clauses_at true (kind_of h ts) (constant f) (literals ns ts))) (where_so (occurs false (apply h ts) os) (clauses_at false (kind_of h ts) (constant f) (literals ns ts))) all in
      pick p there parts.0 parts.1
    where
      pick : (q : Bool) → occurs q (apply h ts) os ≡ true
          → list_all (holds_in m) (where_so (occurs true (apply h ts) os) (clauses_at true (kind_of h ts) (constant f) (literals ns ts))) ≡ true
          → list_all (holds_in m) (where_so (occurs false (apply h ts) os) (clauses_at false (kind_of h ts) (constant f) (literals ns ts))) ≡ true
          → list_all (holds_in m) (clauses_at q (kind_of h ts) (constant f) (literals ns ts)) ≡ true
      pick true e a b = there-passes (holds_in m) (occurs true (apply h ts) os) (clauses_at true (kind_of h ts) (constant f) (literals ns ts)) e a
      pick false e a b = there-passes (holds_in m) (occurs false (apply h ts) os) (clauses_at false (kind_of h ts) (constant f) (literals ns ts)) e b

  by_kind : (h : Head) (ts : Terms) → sort_of (apply h ts) ≡ Some bool → IfBool Sound ts → (b : Bool) → is_connective (kind_of h ts) ≡ b → Sound (apply h ts)
  by_kind h ts has waiting true c p among =
      let l : is_logical (kind_of h ts) ≡ true = logical (kind_of h ts) c in
      let joined : Connected h ts bool = connected h ts bool has l in
      let number : joined.number ≡ length (literals ns ts) = sym (operand-number h ts bool joined) ∙ sym (length-literals ns ts) in
      line m (kind_of h ts) c (apply h ts) (constant_for ns (apply h ts)) (literals ns ts) (map is_true (vals m ts no_variables)) p
      (subst (λ n. Count (kind_of h ts) n) number joined.count)
      (connective-value h ts bool m no_variables has l)
      (related (kind_of h ts) 0 p ts (each-bool Sound ts joined.number joined.sorts waiting) (operands-among p h ts os c among))
      (λ f found g. told-at p h ts f found (occurs-there p h ts os among))
  by_kind h ts has waiting false c p among = plain (kind_of h ts) c
    where
      plain : (k : Kind) → is_connective k ≡ false → Follows p (holds_in m (literal_at k (constant_for ns (apply h ts)) (apply h ts) (literals ns ts))) (holds_in m (apply h ts))
      plain atom e = follows-itself p (holds_in m (apply h ts))
      plain (truth_value b) e = follows-itself p (holds_in m (apply h ts))
      plain _ e = absurd cc

  mutual
    pub literal-sound : (t : Term) → sort_of t ≡ Some bool → Sound t
    literal-sound (apply h ts) has = by_kind h ts has (waiting ts) (is_connective (kind_of h ts)) refl
    literal-sound (quantified q xs body) has = λ p among. follows-itself p (holds_in m (quantified q xs body))

    waiting : (ts : Terms) → IfBool Sound ts
    waiting none = tt
    waiting (t ⨾ ts) = (literal-sound t, waiting ts)
