-- The clauses of a name are clauses, made of parts of the formula and new symbols.
use Rattle.std.proofs.Common.{◌≡◌, ℕ, suc, ◌<◌, ◌≤◌, Bool, true, false, List, [], ◌∷◌, map, length, replicate, All, Some, refl, ap, arith}
use Rattle.std.proofs.lemmas.List.{length-map}
use Rattle.std.proofs.lemmas.List.Elements.{All-nil, All-cons, All-head, All-tail, All-append, All-map, All-weaker}
use Rattle.smt_terms.specs.declared.op.Op.TheVariants.{Or}
use Rattle.smt_terms.specs.Sorts.{bool, Symbol}
use Rattle.smt_terms.specs.Term.{Head, Term, apply, quantified, Terms, none, ◌⨾◌, list, terms, constant}
use Rattle.smt_terms.specs.Rank.{shape, width, most_bits, with_sort, sorts_of, is_minus}
use Rattle.smt_terms.specs.Connectives.{Kind, truth_value, conjunction, disjunction, exclusive, implication, equivalence, difference, conditional, atom, operator_kind, kind_of, is_connective, any_of, either, nth}
use Rattle.smt_terms.specs.Shapes.{literal_node, is_literal, are_literals, clause_node, is_clause}
use Rattle.smt_terms.specs.Groups.{Named, has_term, where_so}
use Rattle.smt_terms.proofs.Tests.{and_true}
use Rattle.smt_terms.proofs.Operands.{sort_over_more}
use Rattle.smt_terms.proofs.BoolOperands.{operand-number}
use Rattle.smt_terms.proofs.Connected.{Count, Connected, connected}
use Rattle.term_groups.specs.Grouping.{IsMadeOf}
use Rattle.cnf_polarity.specs.Cnf.{named_connectives, Occurrence, occurs, complement, literals, triple, differ_if, if_differ, distinct_if, if_distinct, positive_clauses, negative_clauses, clauses}
use Rattle.cnf_polarity.proofs.ConnectiveParts.{IsFormulaIn, operands-in, connective-logical}
use Rattle.cnf_polarity.proofs.MadeFormulas.{AreMadeOf, none-made, more-made, over-made}
use Rattle.cnf_polarity.proofs.MadeLiterals.{IsLiteralIn, HasName, complement-in, nth-in, literals-in}

literal-is-clause : (u : Term) → is_literal u ≡ true → is_clause u ≡ true
literal-is-clause (apply h ts) e = go (kind_of h ts) e
  where
    go : (k : Kind) → literal_node k (list ts) ≡ true → clause_node k ts (literal_node k (list ts)) ≡ true
    go disjunction e = absurd cc
    go _ e = e
literal-is-clause (quantified q xs body) e = refl

-- ---- a connective has operands

some-operands : (k : Kind) (n : ℕ) → is_connective k ≡ true → Count k n → 0 < n
some-operands (truth_value b) n c count = absurd cc
some-operands atom n c count = absurd cc
some-operands _ n c count = omega arith

length-literals : (ns : Named) (us : Terms) → length (literals ns us) ≡ length (list us)
length-literals ns none = refl
length-literals ns (u ⨾ us) = ap suc (length-literals ns us)

module _ (t : Term) (ns : Named) where
  -- a clause that is made of parts of t and new symbols
  pub record IsClauseIn (u : Term) : Type 0 where
    pub made : IsMadeOf t ns u
    pub clause : is_clause u ≡ true

  abbrev Literal : Term → Type 0
  Literal = IsLiteralIn t ns

  pub literal-clause : (u : Term) → IsLiteralIn t ns u → IsClauseIn u
  literal-clause u a = record { made = a.made; clause = literal-is-clause u a.literal }

  -- ---- an `or` of literals

  literals-made : (ls : List Term) → All Literal ls → AreMadeOf t ns (terms ls)
  literals-made [] all = none-made t ns
  literals-made (l ∷ ls) all = more-made t ns l (terms ls) (All-head Literal l ls all).made (literals-made ls (All-tail Literal l ls all))

  literals-sorts : (ls : List Term) → All Literal ls → sorts_of (terms ls) ≡ Some (replicate (length ls) bool)
  literals-sorts [] all = refl
  literals-sorts (l ∷ ls) all =
      let first = (All-head Literal l ls all).made.sort in
      let others = literals-sorts ls (All-tail Literal l ls all) in
      λ i. with_sort (first i) (others i)

  all-literals : (ls : List Term) → All Literal ls → are_literals (terms ls) ≡ true
  all-literals [] all = refl
  all-literals (l ∷ ls) all = and_true (is_literal l) (are_literals (terms ls)) (All-head Literal l ls all).literal (all-literals ls (All-tail Literal l ls all))

  any-in : (k l : Term) (ms : List Term) → Literal k → Literal l → All Literal ms → IsClauseIn (any_of (k ∷ l ∷ ms))
  unfolding shape operator_kind is_minus
  any-in k l ms a b c =
      let all : All Literal (k ∷ l ∷ ms) = All-cons Literal k (l ∷ ms) a (All-cons Literal l ms b c) in
      let narrow : width bool ≤ most_bits = omega arith in
      let has = sort_over_more Or k l (terms ms) (replicate (length (k ∷ l ∷ ms)) bool) bool (literals-sorts (k ∷ l ∷ ms) all) (length ms, refl, refl) narrow in
      record {
        made = over-made t ns Or (terms (k ∷ l ∷ ms)) refl has (literals-made (k ∷ l ∷ ms) all);
        clause = all-literals (k ∷ l ∷ ms) all;
      }

  either-in : (k l : Term) → Literal k → Literal l → IsClauseIn (either k l)
  either-in k l a b = any-in k l [] a b (All-nil Literal)

  triple-in : (k l m : Term) → Literal k → Literal l → Literal m → IsClauseIn (triple k l m)
  triple-in k l m a b c = any-in k l (m ∷ []) a b (All-cons Literal m [] c (All-nil Literal))

  one-more-in : (k : Term) (ls : List Term) → Literal k → 0 < length ls → All Literal ls → IsClauseIn (any_of (k ∷ ls))
  one-more-in k [] a some all = absurd (omega arith)
  one-more-in k (l ∷ ls) a some all = any-in k l ls a (All-head Literal l ls all) (All-tail Literal l ls all)

  single : (u : Term) → IsClauseIn u → All IsClauseIn (u ∷ [])
  single u a = All-cons IsClauseIn u [] a (All-nil IsClauseIn)

  pair : (u v : Term) → IsClauseIn u → IsClauseIn v → All IsClauseIn (u ∷ v ∷ [])
  pair u v a b = All-cons IsClauseIn u (v ∷ []) a (single v b)

  -- ---- the clauses of a connective, of its name and the literals of its operands

  module _ (n : Term) (name : IsLiteralIn t ns n) where
    denied : Literal (complement n)
    denied = complement-in t ns n name

    abbrev at : List Term → ℕ → Term
    at ls i = nth ls i

    abbrev not_at : List Term → ℕ → Term
    not_at ls i = complement (nth ls i)

    at-in : (ls : List Term) (i : ℕ) → All Literal ls → Literal (at ls i)
    at-in ls i all = nth-in t ns ls i all

    not_at-in : (ls : List Term) (i : ℕ) → All Literal ls → Literal (not_at ls i)
    not_at-in ls i all = complement-in t ns (nth ls i) (at-in ls i all)

    differ_if-in : (ls : List Term) → All Literal ls → All IsClauseIn (differ_if n (at ls 0) (at ls 1))
    differ_if-in ls all =
        pair (triple (complement n) (at ls 0) (at ls 1)) (triple (complement n) (not_at ls 0) (not_at ls 1))
        (triple-in (complement n) (at ls 0) (at ls 1) denied (at-in ls 0 all) (at-in ls 1 all))
        (triple-in (complement n) (not_at ls 0) (not_at ls 1) denied (not_at-in ls 0 all) (not_at-in ls 1 all))

    if_differ-in : (ls : List Term) → All Literal ls → All IsClauseIn (if_differ n (at ls 0) (at ls 1))
    if_differ-in ls all =
        pair (triple n (not_at ls 0) (at ls 1)) (triple n (at ls 0) (not_at ls 1))
        (triple-in n (not_at ls 0) (at ls 1) name (not_at-in ls 0 all) (at-in ls 1 all))
        (triple-in n (at ls 0) (not_at ls 1) name (at-in ls 0 all) (not_at-in ls 1 all))

    distinct_if-in : (ls : List Term) → All Literal ls → All IsClauseIn (distinct_if n ls)
    distinct_if-in [] all = differ_if-in [] all
    distinct_if-in (k ∷ []) all = differ_if-in (k ∷ []) all
    distinct_if-in (k ∷ l ∷ []) all = differ_if-in (k ∷ l ∷ []) all
    distinct_if-in (k ∷ l ∷ m ∷ ls) all = single (complement n) (literal-clause (complement n) denied)

    if_distinct-in : (ls : List Term) → All Literal ls → All IsClauseIn (if_distinct n ls)
    if_distinct-in [] all = if_differ-in [] all
    if_distinct-in (k ∷ []) all = if_differ-in (k ∷ []) all
    if_distinct-in (k ∷ l ∷ []) all = if_differ-in (k ∷ l ∷ []) all
    if_distinct-in (k ∷ l ∷ m ∷ ls) all = All-nil IsClauseIn

    positive-in : (k : Kind) (ls : List Term) → (is_connective k ≡ true → All Literal ls) → (is_connective k ≡ true → 0 < length ls) → All IsClauseIn (positive_clauses k n ls)
    positive-in conjunction ls all some =
        All-map IsClauseIn (λ l. either (complement n) l) ls (All-weaker Literal (λ l. IsClauseIn (either (complement n) l)) (λ l a. either-in (complement n) l denied a) ls (all refl))
    positive-in disjunction ls all some = single (any_of (complement n ∷ ls)) (one-more-in (complement n) ls denied (some refl) (all refl))
    positive-in implication ls all some =
        single (triple (complement n) (not_at ls 0) (at ls 1)) (triple-in (complement n) (not_at ls 0) (at ls 1) denied (not_at-in ls 0 (all refl)) (at-in ls 1 (all refl)))
    positive-in exclusive ls all some = differ_if-in ls (all refl)
    positive-in equivalence ls all some =
        pair (triple (complement n) (not_at ls 0) (at ls 1)) (triple (complement n) (at ls 0) (not_at ls 1))
        (triple-in (complement n) (not_at ls 0) (at ls 1) denied (not_at-in ls 0 (all refl)) (at-in ls 1 (all refl)))
        (triple-in (complement n) (at ls 0) (not_at ls 1) denied (at-in ls 0 (all refl)) (not_at-in ls 1 (all refl)))
    positive-in conditional ls all some =
        pair (triple (complement n) (not_at ls 0) (at ls 1)) (triple (complement n) (at ls 0) (at ls 2))
        (triple-in (complement n) (not_at ls 0) (at ls 1) denied (not_at-in ls 0 (all refl)) (at-in ls 1 (all refl)))
        (triple-in (complement n) (at ls 0) (at ls 2) denied (at-in ls 0 (all refl)) (at-in ls 2 (all refl)))
    positive-in difference ls all some = distinct_if-in ls (all refl)
    positive-in _ ls all some = All-nil IsClauseIn

    negative-in : (k : Kind) (ls : List Term) → (is_connective k ≡ true → All Literal ls) → (is_connective k ≡ true → 0 < length ls) → All IsClauseIn (negative_clauses k n ls)
    negative-in conjunction ls all some =
        single (any_of (n ∷ map complement ls)) (one-more-in n (map complement ls) name
        (let kept : length (map complement ls) ≡ length ls = length-map ls complement in let any : 0 < length ls = some refl in omega arith)
        (All-map Literal complement ls (All-weaker Literal (λ l. Literal (complement l)) (complement-in t ns) ls (all refl))))
    negative-in disjunction ls all some =
        All-map IsClauseIn (λ l. either n (complement l)) ls
        (All-weaker Literal (λ l. IsClauseIn (either n (complement l))) (λ l a. either-in n (complement l) name (complement-in t ns l a)) ls (all refl))
    negative-in implication ls all some =
        pair (either n (at ls 0)) (either n (not_at ls 1)) (either-in n (at ls 0) name (at-in ls 0 (all refl))) (either-in n (not_at ls 1) name (not_at-in ls 1 (all refl)))
    negative-in exclusive ls all some = if_differ-in ls (all refl)
    negative-in equivalence ls all some =
        pair (triple n (at ls 0) (at ls 1)) (triple n (not_at ls 0) (not_at ls 1))
        (triple-in n (at ls 0) (at ls 1) name (at-in ls 0 (all refl)) (at-in ls 1 (all refl)))
        (triple-in n (not_at ls 0) (not_at ls 1) name (not_at-in ls 0 (all refl)) (not_at-in ls 1 (all refl)))
    negative-in conditional ls all some =
        pair (triple n (not_at ls 0) (not_at ls 1)) (triple n (at ls 0) (not_at ls 2))
        (triple-in n (not_at ls 0) (not_at ls 1) name (not_at-in ls 0 (all refl)) (not_at-in ls 1 (all refl)))
        (triple-in n (at ls 0) (not_at ls 2) name (at-in ls 0 (all refl)) (not_at-in ls 2 (all refl)))
    negative-in difference ls all some = if_distinct-in ls (all refl)
    negative-in _ ls all some = All-nil IsClauseIn

  where_so-in : (b : Bool) (us : List Term) → All IsClauseIn us → All IsClauseIn (where_so b us)
  where_so-in true us all = all
  where_so-in false us all = All-nil IsClauseIn

  module _ (names : (x : Term) → has_term (named_connectives t) x ≡ true → HasName t ns x) where
    literals-some : (h : Head) (us : Terms) → IsFormulaIn t (apply h us) → is_connective (kind_of h us) ≡ true → 0 < length (literals ns us)
    literals-some h us a c =
        let r : Connected h us bool = connected h us bool a.sort (connective-logical (kind_of h us) c) in
        let some : 0 < r.number = some-operands (kind_of h us) r.number c r.count in
        let number : length (list us) ≡ r.number = operand-number h us bool r in
        let same : length (literals ns us) ≡ length (list us) = length-literals ns us in
        omega arith

    pub clauses-in : (os : List Occurrence) (f : Symbol) (u : Term) → IsFormulaIn t u → IsLiteralIn t ns (constant f) → All IsClauseIn (clauses ns os f u)
    clauses-in os f (apply h us) a name =
        let all : is_connective (kind_of h us) ≡ true → All Literal (literals ns us) = λ c. literals-in t ns names us (operands-in t h us a c) in
        All-append IsClauseIn
        (where_so (occurs true (apply h us) os) (positive_clauses (kind_of h us) (constant f) (literals ns us)))
        (where_so (occurs false (apply h us) os) (negative_clauses (kind_of h us) (constant f) (literals ns us)))
        (where_so-in (occurs true (apply h us) os) (positive_clauses (kind_of h us) (constant f) (literals ns us)) (positive-in (constant f) name (kind_of h us) (literals ns us) all (literals-some h us a)))
        (where_so-in (occurs false (apply h us) os) (negative_clauses (kind_of h us) (constant f) (literals ns us)) (negative-in (constant f) name (kind_of h us) (literals ns us) all (literals-some h us a)))
    clauses-in os f (quantified q xs body) a name = All-nil IsClauseIn
