-- The literals of the connective part of a formula are literals, made of parts of the formula and new symbols.
use Rattle.std.proofs.Common.{◌≡◌, ℕ, zero, suc, Bool, true, false, not, List, [], ◌∷◌, length, All, Some, refl, ap, sym, ◌∙◌, subst, arith}
use Rattle.std.specs.Prelude.{Option}
use Rattle.std.proofs.lemmas.List.Elements.{All-nil, All-cons, All-head, All-tail}
use Rattle.smt_terms.specs.declared.op.Op.{Op}
use Rattle.smt_terms.specs.declared.op.Op.TheVariants.{Truth, Not, Equal, Distinct, Ite}
use Rattle.smt_terms.specs.Sorts.{Sort, bool, Symbol}
use Rattle.smt_terms.specs.Term.{Head, op, symbol, const_array, Term, apply, quantified, Terms, none, ◌⨾◌, list, constant}
use Rattle.smt_terms.specs.Rank.{shape, sort_of, sorts_of}
use Rattle.smt_terms.specs.Connectives.{Kind, truth_value, negation, atom, operator_kind, kind_of, is_connective, truth_term, negated, nth}
use Rattle.smt_terms.specs.Shapes.{is_atom_kind, is_atom, literal_node, is_literal}
use Rattle.smt_terms.specs.Groups.{Named, has_term, constant_for, constant_or}
use Rattle.smt_terms.proofs.Ranked.{rank-takes}
use Rattle.smt_terms.proofs.Sorted.{applied, sorted}
use Rattle.smt_terms.proofs.BoolOperands.{operand-number}
use Rattle.smt_terms.proofs.Connected.{Count, Connected, connected, is_logical}
use Rattle.term_groups.specs.Grouping.{IsMadeOf}
use Rattle.cnf_polarity.specs.Cnf.{complement, literal_at, literal, literals, named_at, named_connectives, named_connectives_of}
use Rattle.cnf_polarity.proofs.ConnectiveParts.{IsFormulaIn, AreFormulasIn, operands-in, first-in, others-in}
use Rattle.cnf_polarity.proofs.ConnectiveNames.{named-itself}
use Rattle.cnf_polarity.proofs.MadeFormulas.{formula-made, truth-made, negated-made, below-made}

-- ---- truth values and negations, by their kinds

operator-truth : (o : Op) (ss : Option (List Sort)) (b : Bool) → operator_kind o ss ≡ truth_value b → o ≡ Truth b
unfolding operator_kind
operator-truth (Truth c) ss b e = let same : c ≡ b = cc in ap Truth same
operator-truth Equal (Some (bool ∷ ss)) b e = absurd cc
operator-truth Distinct (Some (bool ∷ ss)) b e = absurd cc
operator-truth Ite (Some (s ∷ bool ∷ ss)) b e = absurd cc
operator-truth _ ss b e = absurd cc

operator-negation : (o : Op) (ss : Option (List Sort)) → operator_kind o ss ≡ negation → o ≡ Not
unfolding operator_kind
operator-negation Not ss e = refl
operator-negation Equal (Some (bool ∷ ss)) e = absurd cc
operator-negation Distinct (Some (bool ∷ ss)) e = absurd cc
operator-negation Ite (Some (s ∷ bool ∷ ss)) e = absurd cc
operator-negation _ ss e = absurd cc

no-operands : (ts : Terms) → sorts_of ts ≡ Some [] → ts ≡ none
no-operands none e = refl
no-operands (t ⨾ ts) e = let a = sorted t ts [] e in let never : [] ≡ a.sort ∷ a.sorts = a.all in absurd cc

one-operand : (ts : Terms) → length (list ts) ≡ 1 → (t : Term) × (ts ≡ t ⨾ none)
one-operand none e = absurd (omega arith)
one-operand (t ⨾ none) e = (t, refl)
one-operand (t ⨾ (u ⨾ us)) e = absurd (omega arith)

truth-shape : (h : Head) (ts : Terms) (b : Bool) → sort_of (apply h ts) ≡ Some bool → kind_of h ts ≡ truth_value b → apply h ts ≡ truth_term b
unfolding shape
truth-shape (op o) ts b has e =
    let same : o ≡ Truth b = operator-truth o (sorts_of ts) b e in
    let a = applied (op (Truth b)) ts bool (ap (λ p. sort_of (apply (op p) ts)) (sym same) ∙ has) in
    let takes = rank-takes (op (Truth b)) a.sorts bool a.rank in
    let empty : ts ≡ none = no-operands ts (a.operands ∙ ap Some takes.0) in
    λ i. apply (op (same i)) (empty i)
truth-shape (symbol f) ts b has e = absurd cc
truth-shape (const_array s) ts b has e = absurd cc

negation-shape : (h : Head) (ts : Terms) → sort_of (apply h ts) ≡ Some bool → kind_of h ts ≡ negation → (t : Term) × (apply h ts ≡ negated t)
negation-shape (op o) ts has e =
    let c : Connected (op o) ts bool = connected (op o) ts bool has (ap is_logical e) in
    let count : c.number ≡ 1 = subst (λ k. Count k c.number) e c.count in
    let one = one-operand ts (operand-number (op o) ts bool c ∙ count) in
    let same : o ≡ Not = operator-negation o (sorts_of ts) e in
    (one.0, λ i. apply (op (same i)) (one.1 i))
negation-shape (symbol f) ts has e = absurd cc
negation-shape (const_array s) ts has e = absurd cc

atom-complement : (h : Head) (ts : Terms) → kind_of h ts ≡ atom → complement (apply h ts) ≡ negated (apply h ts)
unfolding operator_kind
atom-complement (op (Truth b)) ts e = absurd cc
atom-complement (op Not) ts e = absurd cc
atom-complement h ts e = refl

atom-literal : (u : Term) → is_atom u ≡ true → is_literal u ≡ true
atom-literal (apply h ts) e = go (kind_of h ts) e
  where
    go : (k : Kind) → is_atom_kind k ≡ true → literal_node k (list ts) ≡ true
    go atom e = refl
    go _ e = absurd cc
atom-literal (quantified q xs body) e = refl

module _ (t : Term) (ns : Named) where
  -- a literal that is made of parts of t and new symbols
  pub record IsLiteralIn (u : Term) : Type 0 where
    pub made : IsMadeOf t ns u
    pub literal : is_literal u ≡ true

  pub truth-in : (b : Bool) → IsLiteralIn (truth_term b)
  unfolding operator_kind
  truth-in b = record { made = truth-made t ns b; literal = refl }

  negated-in : (u : Term) → IsMadeOf t ns u → is_atom u ≡ true → IsLiteralIn (negated u)
  unfolding operator_kind
  negated-in u a plain = record { made = negated-made t ns u a; literal = plain }

  below-in : (u : Term) → IsLiteralIn (negated u) → IsLiteralIn u
  unfolding operator_kind
  below-in u a = record { made = below-made t ns u a.made; literal = atom-literal u a.literal }

  pub complement-in : (u : Term) → IsLiteralIn u → IsLiteralIn (complement u)
  complement-in (apply h ts) a = go (kind_of h ts) refl
    where
      go : (k : Kind) → kind_of h ts ≡ k → IsLiteralIn (complement (apply h ts))
      go (truth_value b) e = subst (λ u. IsLiteralIn (complement u)) (sym (truth-shape h ts b a.made.sort e)) (truth-in (not b))
      go negation e =
          let found = negation-shape h ts a.made.sort e in
          subst (λ u. IsLiteralIn (complement u)) (sym found.1) (below-in found.0 (subst IsLiteralIn found.1 a))
      go atom e = subst IsLiteralIn (sym (atom-complement h ts e)) (negated-in (apply h ts) a.made (ap is_atom_kind e))
      go _ e = let never : true ≡ false = sym a.literal ∙ ap (λ k. literal_node k (list ts)) e in absurd cc
  complement-in (quantified q xs body) a = negated-in (quantified q xs body) a.made refl

  pub nth-in : (us : List Term) (i : ℕ) → All IsLiteralIn us → IsLiteralIn (nth us i)
  nth-in [] i all = truth-in false
  nth-in (u ∷ us) zero all = All-head IsLiteralIn u us all
  nth-in (u ∷ us) (suc i) all = nth-in us i (All-tail IsLiteralIn u us all)

  -- ---- the literal of a formula, where all connectives have names

  pub record HasName (x : Term) : Type 0 where
    pub symbol : Symbol
    pub found : constant_for ns x ≡ Some symbol
    pub literal : IsLiteralIn (constant symbol)

  module _ (names : (x : Term) → has_term (named_connectives t) x ≡ true → HasName x) where
    name-in : (u : Term) → has_term (named_connectives t) u ≡ true → IsLiteralIn (constant_or (constant_for ns u) u)
    name-in u e = let n = names u e in subst (λ o. IsLiteralIn (constant_or o u)) (sym n.found) n.literal

    literal_at-in : (h : Head) (us : Terms) → IsFormulaIn t (apply h us) → (is_connective (kind_of h us) ≡ true → All IsLiteralIn (literals ns us))
        → (k : Kind) → kind_of h us ≡ k → IsLiteralIn (literal_at k (constant_for ns (apply h us)) (apply h us) (literals ns us))
    literal_at-in h us a below (truth_value b) e = record { made = formula-made t ns (apply h us) a; literal = ap (λ k. literal_node k (list us)) e }
    literal_at-in h us a below atom e = record { made = formula-made t ns (apply h us) a; literal = ap (λ k. literal_node k (list us)) e }
    literal_at-in h us a below negation e = complement-in (nth (literals ns us) 0) (nth-in (literals ns us) 0 (below (ap is_connective e)))
    literal_at-in h us a below _ e =
        name-in (apply h us) (a.named (apply h us) (ap (λ k. has_term (named_at k (apply h us) (named_connectives_of us)) (apply h us)) e ∙ named-itself (apply h us) (named_connectives_of us)))

    mutual
      pub literal-in : (u : Term) → IsFormulaIn t u → IsLiteralIn (literal ns u)
      literal-in (apply h us) a = literal_at-in h us a (λ c. literals-in us (operands-in t h us a c)) (kind_of h us) refl
      literal-in (quantified q xs body) a = record { made = formula-made t ns (quantified q xs body) a; literal = refl }

      pub literals-in : (us : Terms) → AreFormulasIn t us → All IsLiteralIn (literals ns us)
      literals-in none a = All-nil IsLiteralIn
      literals-in (u ⨾ us) a =
          All-cons IsLiteralIn (literal ns u) (literals ns us) (literal-in u (first-in t u us a)) (literals-in us (others-in t u us a))
