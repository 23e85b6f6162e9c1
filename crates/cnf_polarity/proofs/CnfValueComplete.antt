-- Where each name has the value of its connective, each literal says what its formula says, and all clauses hold.
use Rattle.std.proofs.Common.{◌≡◌, Bool, true, false, List, [], ◌∷◌, map, length, All, Option, Some, None, refl, ap, sym, ◌∙◌, subst}
use Rattle.std.specs.List.{list_all}
use Rattle.std.proofs.lemmas.List.Elements.{All-nil, All-cons, All-head, All-tail}
use Rattle.smt_terms.specs.Connectives.{Kind, truth_value, negation, atom, is_connective, kind_of}
use Rattle.smt_terms.specs.Free.{is_among, free}
use Rattle.smt_terms.specs.Groups.{Named, constant_for, constant_or, where_so}
use Rattle.smt_terms.specs.Laws.{AgreeOn, symbol_at}
use Rattle.smt_terms.specs.Models.{Model, number_value, graph_or_default}
use Rattle.smt_terms.specs.Rank.{sort_of}
use Rattle.smt_terms.specs.Sorts.{bool, Symbol}
use Rattle.smt_terms.specs.Term.{Head, Term, apply, quantified, Terms, none, ◌⨾◌, constant}
use Rattle.smt_terms.specs.Val.{no_variables, val, vals}
use Rattle.smt_terms.specs.Values.{Value, is_true}
use Rattle.smt_terms.proofs.BoolOperands.{IfBool, Each, each-bool, operand-number}
use Rattle.smt_terms.proofs.Connected.{is_logical, Count, Connected, connected, connective-value, kind_value}
use Rattle.smt_terms.proofs.Depends.{val_agrees, AgreeOn-fewer}
use Rattle.term_groups.specs.Grouping.{holds_in, IsGiven, terms_of}
use Rattle.cnf_polarity.specs.Cnf.{Occurrence, occurs, literal_at, literal, literals, clauses}
use Rattle.cnf_polarity.proofs.CnfValueNames.{constant-found, append-passes, where-passes}
use Rattle.cnf_polarity.proofs.CnfValueSound.{length-literals, logical}
use Rattle.cnf_polarity.proofs.NamedParts.{Within, IsTruthOver, operands-within}
use Rattle.cnf_polarity.proofs.TruthOfClauses.{gets_name, clauses_at, truths, not-nth, clauses-hold}

-- ---- by the kind of a connective

-- the literal says in n what the formula says in m
abbrev Line : Model → Model → Kind → Type 0
Line m n k =
    (x : Term) (name : Option Symbol) (ls : List Term) (bs : List Bool)
    → holds_in m x ≡ kind_value k bs → truths n ls ≡ bs → holds_in n x ≡ holds_in m x
    → ((f : Symbol) → name ≡ Some f → holds_in n (constant f) ≡ holds_in m x)
    → holds_in n (literal_at k name x ls) ≡ holds_in m x

not-line : (m n : Model) → Line m n negation
not-line m n x name ls bs says operands kept given = not-nth n ls 0 ∙ ap (kind_value negation) operands ∙ sym says

named-line : (m n : Model) (x : Term) (name : Option Symbol) → holds_in n x ≡ holds_in m x → ((f : Symbol) → name ≡ Some f → holds_in n (constant f) ≡ holds_in m x) → holds_in n (constant_or name x) ≡ holds_in m x
named-line m n x None kept given = kept
named-line m n x (Some f) kept given = given f refl

line : (m n : Model) (k : Kind) → is_connective k ≡ true → Line m n k
line m n negation c = not-line m n
line m n (truth_value b) c = absurd cc
line m n atom c = absurd cc
line m n _ c = λ x name ls bs says operands kept given. named-line m n x name kept given

-- ---- all formulas

module _ (m n : Model) (t : Term) (ns : Named) (is_given : IsGiven m n t ns) where
  agree : AgreeOn (free t) n m no_variables no_variables
  agree = record {
    backgrounds = λ i. record { sizes = is_given.sizes i; div_by_zero = number_value (is_given.div_by_zero i); mod_by_zero = number_value (is_given.mod_by_zero i) };
    symbols = λ f among vs len. at f among vs;
  }
    where
      at : (f : Symbol) → is_among (free t) f ≡ true → (vs : List Value) → symbol_at n no_variables f vs ≡ symbol_at m no_variables f vs
      at f among [] = λ i. graph_or_default f (is_given.sizes i) (is_given.kept f among i) []
      at f among (v ∷ vs) = λ i. graph_or_default f (is_given.sizes i) (is_given.kept f among i) (v ∷ vs)

  pub holds-kept : (u : Term) → sort_of u ≡ Some bool → Within (free t) u → holds_in n u ≡ holds_in m u
  holds-kept u has inside = ap is_true (val_agrees u bool n m no_variables no_variables has (AgreeOn-fewer (free t) (free u) n m no_variables no_variables inside agree))

  abbrev Given : Symbol × Term → Type 0
  Given p = n.graphs p.0 ≡ Some (record { rows = []; otherwise = val m p.1 no_variables })

  name-says : (f : Symbol) (u : Term) → Given (f, u) → holds_in n (constant f) ≡ holds_in m u
  name-says f u given = ap (λ g. is_true (graph_or_default f n.sizes g [])) given

  abbrev Told : Term → Type 0
  Told u = Within (free t) u → holds_in n (literal ns u) ≡ holds_in m u

  operands-told : (ts : Terms) → Each Told ts → Each (Within (free t)) ts → truths n (literals ns ts) ≡ map is_true (vals m ts no_variables)
  operands-told none told inside = refl
  operands-told (u ⨾ us) told inside = λ i. told.0 inside.0 i ∷ operands-told us told.1 inside.1 i

  by_kind : (h : Head) (ts : Terms) → sort_of (apply h ts) ≡ Some bool → IfBool Told ts → (b : Bool) → is_connective (kind_of h ts) ≡ b → Told (apply h ts)
  by_kind h ts has waiting true c inside =
      let l : is_logical (kind_of h ts) ≡ true = logical (kind_of h ts) c in
      let joined : Connected h ts bool = connected h ts bool has l in
      line m n (kind_of h ts) c (apply h ts) (constant_for ns (apply h ts)) (literals ns ts) (map is_true (vals m ts no_variables))
      (connective-value h ts bool m no_variables has l)
      (operands-told ts (each-bool Told ts joined.number joined.sorts waiting) (operands-within (free t) h ts inside))
      (holds-kept (apply h ts) has inside)
      (λ f found. name-says f (apply h ts) (constant-found Given ns (apply h ts) f found is_given.given))
  by_kind h ts has waiting false c inside = plain (kind_of h ts) c
    where
      plain : (k : Kind) → is_connective k ≡ false → holds_in n (literal_at k (constant_for ns (apply h ts)) (apply h ts) (literals ns ts)) ≡ holds_in m (apply h ts)
      plain atom e = holds-kept (apply h ts) has inside
      plain (truth_value b) e = holds-kept (apply h ts) has inside
      plain _ e = absurd cc

  mutual
    pub literal-told : (u : Term) → sort_of u ≡ Some bool → Told u
    literal-told (apply h ts) has = by_kind h ts has (waiting ts) (is_connective (kind_of h ts)) refl
    literal-told (quantified q xs body) has = λ inside. holds-kept (quantified q xs body) has inside

    waiting : (ts : Terms) → IfBool Told ts
    waiting none = tt
    waiting (u ⨾ us) = (literal-told u, waiting us)

  -- ---- the clauses of a name

  no-clauses : (p : Bool) (k : Kind) (l : Term) (ls : List Term) → gets_name k ≡ false → list_all (holds_in n) (clauses_at p k l ls) ≡ true
  no-clauses true (truth_value b) l ls e = refl
  no-clauses true negation l ls e = refl
  no-clauses true atom l ls e = refl
  no-clauses false (truth_value b) l ls e = refl
  no-clauses false negation l ls e = refl
  no-clauses false atom l ls e = refl
  no-clauses true _ l ls e = absurd cc
  no-clauses false _ l ls e = absurd cc

  connective : (k : Kind) → gets_name k ≡ true → is_connective k ≡ true
  connective (truth_value b) e = absurd cc
  connective atom e = absurd cc
  connective _ e = refl

  clauses-said : (h : Head) (ts : Terms) (f : Symbol) → IsTruthOver (free t) (apply h ts) → Given (f, apply h ts) → (b : Bool) → gets_name (kind_of h ts) ≡ b → (p : Bool) → list_all (holds_in n) (clauses_at p (kind_of h ts) (constant f) (literals ns ts)) ≡ true
  clauses-said h ts f part given true g p =
      let l : is_logical (kind_of h ts) ≡ true = logical (kind_of h ts) (connective (kind_of h ts) g) in
      let joined : Connected h ts bool = connected h ts bool part.sort l in
      let number : joined.number ≡ length (literals ns ts) = sym (operand-number h ts bool joined) ∙ sym (length-literals ns ts) in
      let operands : truths n (literals ns ts) ≡ map is_true (vals m ts no_variables) = operands-told ts (each-bool Told ts joined.number joined.sorts (waiting ts)) (operands-within (free t) h ts part.within) in
      clauses-hold n p (kind_of h ts) (constant f) (literals ns ts) g (subst (λ k. Count (kind_of h ts) k) number joined.count)
      (name-says f (apply h ts) given ∙ connective-value h ts bool m no_variables part.sort l ∙ ap (kind_value (kind_of h ts)) (sym operands))
  clauses-said h ts f part given false g p = no-clauses p (kind_of h ts) (constant f) (literals ns ts) g

  name-told : (os : List Occurrence) (f : Symbol) (u : Term) → IsTruthOver (free t) u → Given (f, u) → list_all (holds_in n) (clauses ns os f u) ≡ true
  name-told os f (apply h ts) part given =
      let said : (p : Bool) → list_all (holds_in n) (clauses_at p (kind_of h ts) (constant f) (literals ns ts)) ≡ true = clauses-said h ts f part given (gets_name (kind_of h ts)) refl in
      append-passes (holds_in n) (where_so (occurs true (apply h ts) os) (clauses_at true (kind_of h ts) (constant f) (literals ns ts))) (where_so (occurs false (apply h ts) os) (clauses_at false (kind_of h ts) (constant f) (literals ns ts)))
      (where-passes (holds_in n) (occurs true (apply h ts) os) (clauses_at true (kind_of h ts) (constant f) (literals ns ts)) (said true))
      (where-passes (holds_in n) (occurs false (apply h ts) os) (clauses_at false (kind_of h ts) (constant f) (literals ns ts)) (said false))
  name-told os f (quantified q xs body) part given = refl

  pub names-told : (os : List Occurrence) (ms : Named) → All Given ms → All (IsTruthOver (free t)) (terms_of ms) → All (λ p. list_all (holds_in n) (clauses ns os p.0 p.1) ≡ true) ms
  names-told os [] given parts = All-nil (λ p. list_all (holds_in n) (clauses ns os p.0 p.1) ≡ true)
  names-told os (p ∷ ms) given parts =
      All-cons (λ p. list_all (holds_in n) (clauses ns os p.0 p.1) ≡ true) p ms
      (name-told os p.0 p.1 (All-head (IsTruthOver (free t)) p.1 (terms_of ms) parts) (All-head Given p ms given))
      (names-told os ms (All-tail Given p ms given) (All-tail (IsTruthOver (free t)) p.1 (terms_of ms) parts))
