-- What the group of a formula in conjunctive normal form consists of: constants for parts of the formula, and clauses that
-- are made of its parts and these constants.
use Rattle.std.proofs.Common.{◌≡◌, ◌<◌, Bool, true, false, cond, ◌||◌, [], ◌∷◌, ◌++◌, length, length-append, All, Some, refl, ap, sym, subst, arith}
use Rattle.std.specs.Prelude.{flat_map}
use Rattle.std.proofs.lemmas.List.Elements.{All-nil, All-cons, All-head, All-tail, All-append, All-weaker}
use Rattle.smt_terms.specs.Sorts.{bool, Symbol}
use Rattle.smt_terms.specs.Term.{Term, constant}
use Rattle.smt_terms.specs.Equal.{term_eq, symbol_eq}
use Rattle.smt_terms.specs.Fresh.{Supply}
use Rattle.smt_terms.specs.Free.{is_among}
use Rattle.smt_terms.specs.Rank.{sort_of, IsWellSorted}
use Rattle.smt_terms.specs.Connectives.{operator_kind}
use Rattle.smt_terms.specs.Shapes.{is_clause}
use Rattle.smt_terms.specs.Groups.{Named, has_term, constant_for, draw_each}
use Rattle.smt_terms.proofs.Equal.{symbol_itself}
use Rattle.smt_terms.proofs.Tests.{left_true, right_true}
use Rattle.term_groups.specs.Drawing.{ConstantsAreNew}
use Rattle.term_groups.specs.Grouping.{symbols_of, terms_of, IsPart, IsMadeOf}
use Rattle.cnf_polarity.specs.Cnf.{named_connectives, occurrences, literal, clauses, unless_clause, cnf}
use Rattle.cnf_polarity.specs.Laws.{CnfGivesClauses}
use Rattle.cnf_polarity.proofs.TermLists.{all-from-map, all-flat_map, all-passed}
use Rattle.cnf_polarity.proofs.ConnectiveParts.{IsFormulaIn, formula-itself}
use Rattle.cnf_polarity.proofs.ConnectiveNames.{connectives-in}
use Rattle.cnf_polarity.proofs.MadeFormulas.{formula-made, constant-made}
use Rattle.cnf_polarity.proofs.MadeLiterals.{IsLiteralIn, HasName, literal-in}
use Rattle.cnf_polarity.proofs.MadeClauses.{IsClauseIn, literal-clause, clauses-in}

-- ---- the constants of names

all-among : (ns : Named) → All (λ n. is_among (symbols_of ns) n.0 ≡ true) ns
all-among [] = All-nil (λ n. is_among (symbols_of []) n.0 ≡ true)
all-among (n ∷ ns) =
    All-cons (λ m. is_among (symbols_of (n ∷ ns)) m.0 ≡ true) n ns
    (left_true (symbol_eq n.0 n.0) (is_among (symbols_of ns) n.0) (symbol_itself n.0))
    (All-weaker (λ m. is_among (symbols_of ns) m.0 ≡ true) (λ m. is_among (symbols_of (n ∷ ns)) m.0 ≡ true)
    (λ m e. right_true (symbol_eq n.0 m.0) (is_among (symbols_of ns) m.0) e) ns (all-among ns))

-- the constant of a term that has one
constant-of : (P : Symbol → Type 0) (ns : Named) (x : Term) → All (λ n. P n.0) ns → has_term (terms_of ns) x ≡ true → (f : Symbol) × (constant_for ns x ≡ Some f) × P f
constant-of P [] x all e = absurd cc
constant-of P (n ∷ ns) x all e = go (term_eq n.1 x) e (constant-of P ns x (All-tail (λ m. P m.0) n ns all))
  where
    go : (b : Bool) → (b || has_term (terms_of ns) x) ≡ true → (has_term (terms_of ns) x ≡ true → (f : Symbol) × (constant_for ns x ≡ Some f) × P f) → (f : Symbol) × (cond b (Some n.0) (constant_for ns x) ≡ Some f) × P f
    go true e behind = (n.0, refl, All-head (λ m. P m.0) n ns all)
    go false e behind = behind e

-- ---- the group of a formula that is no clause

module _ (law : ConstantsAreNew) (t : Term) (s : Supply) where
  abbrev names : Named
  names = (draw_each (named_connectives t) s).symbols

  drawn-for : terms_of names ≡ named_connectives t
  drawn-for = law.each (named_connectives t) s

  module _ (fine : IsWellSorted t) (has : sort_of t ≡ Some bool) where
    formulas : All (λ n. IsFormulaIn t n.1) names
    formulas =
        all-from-map (IsFormulaIn t) (λ n. n.1) names
        (subst (λ ts. All (IsFormulaIn t) ts) (sym drawn-for) (connectives-in t t (formula-itself t fine has)))

    constants : All (λ n. IsLiteralIn t names (constant n.0)) names
    unfolding operator_kind
    constants = λ k d less.
        let drawn = law.constants (named_connectives t) s k d less in
        let formula = formulas k d less in
        record { made = constant-made t names _ drawn.0 (drawn.1 bool formula.sort) (all-among names k d less); literal = refl }

    have-names : (x : Term) → has_term (named_connectives t) x ≡ true → HasName t names x
    have-names x e =
        let found = constant-of (λ f. IsLiteralIn t names (constant f)) names x constants (subst (λ ts. has_term ts x ≡ true) (sym drawn-for) e) in
        record { symbol = found.0; found = found.1; literal = found.2 }

    drawn-parts : All (λ n. IsPart t n.1) names
    drawn-parts = All-weaker (λ n. IsFormulaIn t n.1) (λ n. IsPart t n.1) (λ n a. record { sorted = a.sorted; free = a.free; within = a.within }) names formulas

    drawn-clauses : All (IsClauseIn t names) (flat_map (λ n. clauses names (occurrences true t) n.0 n.1) names ++ literal names t ∷ [])
    drawn-clauses =
        All-append (IsClauseIn t names) (flat_map (λ n. clauses names (occurrences true t) n.0 n.1) names) (literal names t ∷ [])
        (all-flat_map (IsClauseIn t names) (λ n. clauses names (occurrences true t) n.0 n.1) names
        (λ k d less. clauses-in t names have-names (occurrences true t) _ _ (formulas k d less) (constants k d less)))
        (All-cons (IsClauseIn t names) (literal names t) [] (literal-clause t names (literal names t) (literal-in t names have-names t (formula-itself t fine has))) (All-nil (IsClauseIn t names)))

-- ---- the group

symbols-by : (law : ConstantsAreNew) (b : Bool) (t : Term) (s : Supply) → (unless_clause b t s).group.symbols ≡ (draw_each (terms_of (unless_clause b t s).group.symbols) s).symbols
symbols-by law true t s = refl
symbols-by law false t s = ap (λ ts. (draw_each ts s).symbols) (sym (drawn-for law t s))

names-by : (law : ConstantsAreNew) (b : Bool) (t : Term) (s : Supply) → (unless_clause b t s).names ≡ (draw_each (terms_of (unless_clause b t s).group.symbols) s).names
names-by law true t s = refl
names-by law false t s = ap (λ ts. (draw_each ts s).names) (sym (drawn-for law t s))

parts-by : (law : ConstantsAreNew) (b : Bool) (t : Term) (s : Supply) → IsWellSorted t → sort_of t ≡ Some bool → All (λ p. IsPart t p.1) (unless_clause b t s).group.symbols
parts-by law true t s fine has = All-nil (λ p. IsPart t p.1)
parts-by law false t s fine has = drawn-parts law t s fine has

some-by : (b : Bool) (t : Term) (s : Supply) → 0 < length (unless_clause b t s).group.asserts
some-by true t s = omega arith
some-by false t s =
    let ns : Named = (draw_each (named_connectives t) s).symbols in
    let all = length-append (flat_map (λ n. clauses ns (occurrences true t) n.0 n.1) ns) (literal ns t ∷ []) in
    omega arith

-- all assertions, where t is a clause or not
clauses-by : (law : ConstantsAreNew) (b : Bool) (t : Term) (s : Supply) → is_clause t ≡ b → IsWellSorted t → sort_of t ≡ Some bool
    → All (IsClauseIn t (unless_clause b t s).group.symbols) (unless_clause b t s).group.asserts
clauses-by law true t s e fine has =
    All-cons (IsClauseIn t []) t [] (record { made = formula-made t [] t (formula-itself t fine has); clause = e }) (All-nil (IsClauseIn t []))
clauses-by law false t s e fine has = drawn-clauses law t s fine has

pub cnf-symbols : ConstantsAreNew → (t : Term) (s : Supply) → (cnf t s).group.symbols ≡ (draw_each (terms_of (cnf t s).group.symbols) s).symbols
cnf-symbols law t s = symbols-by law (is_clause t) t s

pub cnf-names : ConstantsAreNew → (t : Term) (s : Supply) → (cnf t s).names ≡ (draw_each (terms_of (cnf t s).group.symbols) s).names
cnf-names law t s = names-by law (is_clause t) t s

pub cnf-parts : ConstantsAreNew → (t : Term) (s : Supply) → IsWellSorted t → sort_of t ≡ Some bool → All (λ p. IsPart t p.1) (cnf t s).group.symbols
cnf-parts law t s fine has = parts-by law (is_clause t) t s fine has

pub cnf-some : (t : Term) (s : Supply) → 0 < length (cnf t s).group.asserts
cnf-some t s = some-by (is_clause t) t s

pub cnf-made : ConstantsAreNew → (t : Term) (s : Supply) → IsWellSorted t → sort_of t ≡ Some bool → All (IsMadeOf t (cnf t s).group.symbols) (cnf t s).group.asserts
cnf-made law t s fine has =
    All-weaker (IsClauseIn t (cnf t s).group.symbols) (IsMadeOf t (cnf t s).group.symbols) (λ u a. a.made) (cnf t s).group.asserts
    (clauses-by law (is_clause t) t s refl fine has)

pub cnf-clauses : ConstantsAreNew → CnfGivesClauses
cnf-clauses law t s fine has =
    all-passed is_clause (cnf t s).group.asserts
    (All-weaker (IsClauseIn t (cnf t s).group.symbols) (λ u. is_clause u ≡ true) (λ u a. a.clause) (cnf t s).group.asserts
    (clauses-by law (is_clause t) t s refl fine has))
