-- Clauses for a formula, over the connectives of the theory Core (SMT-LIB 2.6). An assertion that is a literal or an `or`
-- of literals stays. Otherwise each distinct connective of its connective part that isn't `not` gets a Boolean constant, its
-- name, in post-order of first occurrence, and clauses for the polarities in which it occurs; a quantified formula is an
-- atom here. Last comes the literal of the root.
use Rattle.std.specs.Prelude.{ℕ, zero, suc, Bool, true, false, not, ◌&&◌, List, [], ◌∷◌, ◌++◌, map, flat_map, Option}
use Rattle.std.specs.List.{list_any}
use Rattle.smt_terms.specs.declared.op.Op.TheVariants.{Truth, Not}
use Rattle.smt_terms.specs.Sorts.{Symbol}
use Rattle.smt_terms.specs.Term.{op, Term, apply, quantified, Terms, none, ◌⨾◌, constant}
use Rattle.smt_terms.specs.Equal.{term_eq}
use Rattle.smt_terms.specs.Fresh.{Supply}
use Rattle.smt_terms.specs.Connectives.{Kind, truth_value, negation, conjunction, disjunction, exclusive, implication, equivalence, difference, conditional, atom, kind_of, is_connective, truth_term, negated, any_of, either, nth}
use Rattle.smt_terms.specs.Groups.{Named, Grouped, Drawn, draw_each, with_new, constant_for, constant_or, where_so}
use Rattle.smt_terms.specs.Shapes.{is_clause}

-- ---- which connectives get names

abbrev pub named_at : Kind → Term → List Term → List Term
named_at (truth_value b) t inner = []
named_at atom t inner = []
named_at negation t inner = inner
named_at _ t inner = with_new inner (t ∷ [])

abbrev mutual
  -- the distinct connectives but `not` of the connective part, operands first
  pub named_connectives : Term → List Term
  named_connectives (apply h ts) = named_at (kind_of h ts) (apply h ts) (named_connectives_of ts)
  named_connectives (quantified q xs body) = []

  pub named_connectives_of : Terms → List Term
  named_connectives_of none = []
  named_connectives_of (t ⨾ ts) = with_new (named_connectives t) (named_connectives_of ts)

-- ---- polarities

-- what a connective does to the polarity of an operand
pub data Turn : Type 0 where
  keeps : Turn
  exchanges : Turn
  takes_both : Turn

abbrev pub turn : Kind → ℕ → Turn
turn negation i = exchanges
turn implication zero = exchanges
turn exclusive i = takes_both
turn equivalence i = takes_both
turn difference i = takes_both
turn conditional zero = takes_both
turn _ i = keeps

-- a formula, and whether it occurs positively there
abbrev pub Occurrence : Type 0
Occurrence = Term × Bool

abbrev pub turned : Turn → Bool → (Bool → List Occurrence) → List Occurrence
turned keeps positive occurrences = occurrences positive
turned exchanges positive occurrences = occurrences (not positive)
turned takes_both positive occurrences = occurrences true ++ occurrences false

abbrev pub within : Bool → List Occurrence → List Occurrence
within true below = below
within false below = []

abbrev mutual
  -- all occurrences in the connective part of a formula that occurs in this polarity
  pub occurrences : Bool → Term → List Occurrence
  occurrences positive (apply h ts) = (apply h ts, positive) ∷ within (is_connective (kind_of h ts)) (occurrences_of (kind_of h ts) 0 positive ts)
  occurrences positive (quantified q xs body) = (quantified q xs body, positive) ∷ []

  -- in the operands from number i on
  pub occurrences_of : Kind → ℕ → Bool → Terms → List Occurrence
  occurrences_of k i positive none = []
  occurrences_of k i positive (t ⨾ ts) = turned (turn k i) positive (λ p. occurrences p t) ++ occurrences_of k (suc i) positive ts

abbrev pub is_sign : Bool → Bool → Bool
is_sign true p = p
is_sign false p = not p

abbrev pub occurs : Bool → Term → List Occurrence → Bool
occurs positive t os = list_any (λ o. is_sign positive o.1 && term_eq o.0 t) os

-- ---- literals

-- the other literal: `true` and `false` are exchanged, a `not` is taken away, or else one is added
abbrev pub complement : Term → Term
complement (apply (op (Truth b)) none) = truth_term (not b)
complement (apply (op Not) (t ⨾ none)) = t
complement t = negated t

abbrev pub literal_at : Kind → Option Symbol → Term → List Term → Term
literal_at (truth_value b) name t inner = t
literal_at atom name t inner = t
literal_at negation name t inner = complement (nth inner 0)
literal_at _ name t inner = constant_or name t

abbrev mutual
  -- a constant or an atom itself, the complement of what is below a `not`, or the name
  pub literal : Named → Term → Term
  literal ns (apply h ts) = literal_at (kind_of h ts) (constant_for ns (apply h ts)) (apply h ts) (literals ns ts)
  literal ns (quantified q xs body) = quantified q xs body

  pub literals : Named → Terms → List Term
  literals ns none = []
  literals ns (t ⨾ ts) = literal ns t ∷ literals ns ts

-- ---- clauses, of the name n and the literals of the operands

abbrev pub triple : Term → Term → Term → Term
triple l m n = any_of (l ∷ m ∷ n ∷ [])

-- `n` implies that two differ, and what differ implies `n`
abbrev pub differ_if : Term → Term → Term → List Term
differ_if n a b = triple (complement n) a b ∷ triple (complement n) (complement a) (complement b) ∷ []

abbrev pub if_differ : Term → Term → Term → List Term
if_differ n a b = triple n (complement a) b ∷ triple n a (complement b) ∷ []

-- of more than two truth values some are equal
abbrev pub distinct_if : Term → List Term → List Term
distinct_if n (k ∷ l ∷ m ∷ ls) = complement n ∷ []
distinct_if n ls = differ_if n (nth ls 0) (nth ls 1)

abbrev pub if_distinct : Term → List Term → List Term
if_distinct n (k ∷ l ∷ m ∷ ls) = []
if_distinct n ls = if_differ n (nth ls 0) (nth ls 1)

-- where it occurs positively
abbrev pub positive_clauses : Kind → Term → List Term → List Term
positive_clauses conjunction n ls = map (λ l. either (complement n) l) ls
positive_clauses disjunction n ls = any_of (complement n ∷ ls) ∷ []
positive_clauses implication n ls = triple (complement n) (complement (nth ls 0)) (nth ls 1) ∷ []
positive_clauses exclusive n ls = differ_if n (nth ls 0) (nth ls 1)
positive_clauses equivalence n ls =
    triple (complement n) (complement (nth ls 0)) (nth ls 1) ∷ triple (complement n) (nth ls 0) (complement (nth ls 1)) ∷ []
positive_clauses conditional n ls =
    triple (complement n) (complement (nth ls 0)) (nth ls 1) ∷ triple (complement n) (nth ls 0) (nth ls 2) ∷ []
positive_clauses difference n ls = distinct_if n ls
positive_clauses _ n ls = []

-- where it occurs negatively
abbrev pub negative_clauses : Kind → Term → List Term → List Term
negative_clauses conjunction n ls = any_of (n ∷ map complement ls) ∷ []
negative_clauses disjunction n ls = map (λ l. either n (complement l)) ls
negative_clauses implication n ls = either n (nth ls 0) ∷ either n (complement (nth ls 1)) ∷ []
negative_clauses exclusive n ls = if_differ n (nth ls 0) (nth ls 1)
negative_clauses equivalence n ls =
    triple n (nth ls 0) (nth ls 1) ∷ triple n (complement (nth ls 0)) (complement (nth ls 1)) ∷ []
negative_clauses conditional n ls =
    triple n (complement (nth ls 0)) (complement (nth ls 1)) ∷ triple n (nth ls 0) (complement (nth ls 2)) ∷ []
negative_clauses difference n ls = if_distinct n ls
negative_clauses _ n ls = []

-- the clauses of one name, positive before negative
abbrev pub clauses : Named → List Occurrence → Symbol → Term → List Term
clauses ns os f (apply h ts) =
    where_so (occurs true (apply h ts) os) (positive_clauses (kind_of h ts) (constant f) (literals ns ts))
    ++ where_so (occurs false (apply h ts) os) (negative_clauses (kind_of h ts) (constant f) (literals ns ts))
clauses ns os f (quantified q xs body) = []

-- ---- the group

abbrev pub unless_clause : Bool → Term → Supply → Grouped
unless_clause true t s = record { group = record { symbols = []; asserts = t ∷ [] }; names = s }
unless_clause false t s =
    let d : Drawn = draw_each (named_connectives t) s in
    record {
      group = record {
        symbols = d.symbols;
        asserts = flat_map (λ n. clauses d.symbols (occurrences true t) n.0 n.1) d.symbols ++ literal d.symbols t ∷ [];
      };
      names = d.names;
    }

-- the group of an assertion, and the names that are left
abbrev pub cnf : Term → Supply → Grouped
cnf t s = unless_clause (is_clause t) t s
