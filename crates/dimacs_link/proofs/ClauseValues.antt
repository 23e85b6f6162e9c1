-- What clauses are under the truth values that the constants have in a model.
use Rattle.std.proofs.Common.{◌≡◌, ◌∙◌, sym, ap, refl, ℕ, suc, ◌-◌, ◌≤◌, Bool, true, false, not, ◌&&◌, ◌||◌, if◌then◌else◌, List, [], ◌∷◌, ◌++◌, map, filter, get_or, Option, Some, None, arith}
use Rattle.std.specs.Prelude.{is_some}
use Rattle.std.specs.Bool.{beq}
use Rattle.std.specs.List.{list_any}
use Rattle.std.proofs.lemmas.List.Elements.{All-head, All-tail}
use Rattle.smt_terms.specs.declared.op.Op.{Op}
use Rattle.smt_terms.specs.declared.op.Op.TheVariants.{Truth, Not, Or}
use Rattle.smt_terms.specs.Equal.{symbol_eq}
use Rattle.smt_terms.specs.Models.{Model, symbol_value}
use Rattle.smt_terms.specs.Operators.{op_value}
use Rattle.smt_terms.specs.Sorts.{Symbol}
use Rattle.smt_terms.specs.Term.{op, symbol, const_array, Term, apply, quantified, Terms, none, ◌⨾◌, list}
use Rattle.smt_terms.specs.Val.{no_variables, vals}
use Rattle.smt_terms.specs.Values.{is_true}
use Rattle.smt_terms.proofs.Equal.{Decides-symbol_eq}
use Rattle.smt_terms.proofs.Tests.{both_true}
use Rattle.dimacs_link.specs.declared.literals.Part.{Part}
use Rattle.dimacs_link.specs.declared.literals.Part.TheVariants.{Fixed, Named}
use Rattle.dimacs_link.specs.AnswerModels.{truths_in}
use Rattle.dimacs_link.specs.Clauses.{number_from, constant_number, literal_of, inverse_part, connected_part, part, joined_by, disjuncts, are_parts, is_clause, is_true_part, has_true, literals_in, literals, clauses}
use Rattle.dimacs_link.specs.Laws.{constant_value, literal_value, clause_value, satisfies, holds, all_hold, AreClauses}

-- ---- constants

number_above : (k : ℕ) (cs : List Symbol) (f : Symbol) (n : ℕ) → number_from k cs f ≡ Some n → k ≤ n
number_above k [] f n e = absurd cc
number_above k (c ∷ cs) f n e = by (symbol_eq c f) e (number_above (suc k) cs f n)
  where
    by : (b : Bool) → (if b then Some k else number_from (suc k) cs f) ≡ Some n → (number_from (suc k) cs f ≡ Some n → suc k ≤ n) → k ≤ n
    by true h rest = let same : k ≡ n = cc in omega arith
    by false h rest = omega (arith, rest h)

value_at : (g : Symbol → Bool) (k : ℕ) (cs : List Symbol) (f : Symbol) (n : ℕ) → number_from k cs f ≡ Some n → get_or (map g cs) (n - k) false ≡ g f
value_at g k [] f n e = absurd cc
value_at g k (c ∷ cs) f n e = by (symbol_eq c f) refl e (value_at g (suc k) cs f n)
  where
    by : (b : Bool) → symbol_eq c f ≡ b → (if b then Some k else number_from (suc k) cs f) ≡ Some n → (number_from (suc k) cs f ≡ Some n → get_or (map g cs) (n - suc k) false ≡ g f)
        → get_or (g c ∷ map g cs) (n - k) false ≡ g f
    by true alike h rest =
        let same : k ≡ n = cc in
        let here : n - k ≡ 0 = omega arith in
        ap (λ i. get_or (g c ∷ map g cs) i false) here ∙ ap g ((Decides-symbol_eq c f).0 alike)
    by false alike h rest =
        let above = number_above (suc k) cs f n h in
        let there : n - k ≡ suc (n - suc k) = omega (arith, above) in
        ap (λ i. get_or (g c ∷ map g cs) i false) there ∙ rest h

-- ---- literals

-- what a part is under truth values
abbrev pub part_value : List Bool → Part → Bool
part_value vs (Fixed b) = b
part_value vs (Named l) = literal_value vs l

or_false : (b : Bool) → (b || false) ≡ b
or_false true = refl
or_false false = refl

positive : (b : Bool) → b ≡ beq true b
positive true = refl
positive false = refl

negative : (b : Bool) → not b ≡ beq false b
negative true = refl
negative false = refl

module _ (m : Model) (cs : List Symbol) where
  abbrev vs : List Bool
  vs = truths_in m cs

  number_value : (u : Term) (n : ℕ) → constant_number cs u ≡ Some n → holds m u ≡ constant_value vs n
  number_value (apply (symbol f) none) n e = sym (value_at (λ g. is_true (symbol_value m g [])) 1 cs f n e)
  number_value (apply (symbol f) (t ⨾ ts)) n e = absurd cc
  number_value (apply (op o) ts) n e = absurd cc
  number_value (apply (const_array s) ts) n e = absurd cc
  number_value (quantified q xs t) n e = absurd cc

  named_value : (b : Bool) (u : Term) (o : Option ℕ) (p : Part) → constant_number cs u ≡ o → literal_of b o ≡ Some p → beq b (holds m u) ≡ part_value vs p
  named_value b u None p number e = absurd cc
  named_value b u (Some n) p number e =
      ap (beq b) (number_value u n number) ∙ ap (part_value vs) (let same : Named (record { positive = b; constant = n }) ≡ p = cc in same)

  inverse_value : (ts : Terms) (p : Part) → inverse_part cs ts ≡ Some p → holds m (apply (op Not) ts) ≡ part_value vs p
  unfolding op_value
  inverse_value none p e = absurd cc
  inverse_value (t ⨾ none) p e = negative (holds m t) ∙ named_value false t (constant_number cs t) p refl e
  inverse_value (t ⨾ (u ⨾ us)) p e = absurd cc

  connected_value : (o : Op) (ts : Terms) (p : Part) → connected_part cs o ts ≡ Some p → holds m (apply (op o) ts) ≡ part_value vs p
  unfolding op_value
  connected_value (Truth b) ts p e = ap (part_value vs) (let same : Fixed b ≡ p = cc in same)
  connected_value Not ts p e = inverse_value ts p e
  connected_value o ts p e = absurd cc

  pub value_of_part : (u : Term) (p : Part) → part cs u ≡ Some p → holds m u ≡ part_value vs p
  value_of_part (apply (op o) ts) p e = connected_value o ts p e
  value_of_part (apply (symbol f) ts) p e = positive (holds m (apply (symbol f) ts)) ∙ named_value true (apply (symbol f) ts) (constant_number cs (apply (symbol f) ts)) p refl e
  value_of_part (apply (const_array s) ts) p e = absurd cc
  value_of_part (quantified q xs t) p e = absurd cc

  -- ---- clauses

  some_holds : (ts : Terms) → list_any is_true (vals m ts no_variables) ≡ list_any (holds m) (list ts)
  some_holds none = refl
  some_holds (t ⨾ ts) = ap (λ b. holds m t || b) (some_holds ts)

  joined_holds : (o : Op) (ts : Terms) → holds m (apply (op o) ts) ≡ list_any (holds m) (joined_by o ts)
  unfolding op_value
  joined_holds Or ts = some_holds ts
  joined_holds o ts = sym (or_false (holds m (apply (op o) ts)))

  disjunction : (t : Term) → holds m t ≡ list_any (holds m) (disjuncts t)
  disjunction (apply (op o) ts) = joined_holds o ts
  disjunction (apply (symbol f) ts) = sym (or_false (holds m (apply (symbol f) ts)))
  disjunction (apply (const_array s) ts) = sym (or_false (holds m (apply (const_array s) ts)))
  disjunction (quantified q xs t) = sym (or_false (holds m (quantified q xs t)))

  abbrev said : List Term → Bool
  said us = has_true cs us || clause_value vs (literals cs us)

  one_part : (u : Term) (us : List Term) (o : Option Part) → part cs u ≡ o → is_some o ≡ true → holds m u || said us ≡ (is_true_part o || has_true cs us) || clause_value vs (literals_in o ++ literals cs us)
  one_part u us None e some = absurd cc
  one_part u us (Some (Fixed b)) e some = ap (λ h. h || said us) (value_of_part u (Fixed b) e) ∙ or_assoc b (has_true cs us) (clause_value vs (literals cs us))
    where
      or_assoc : (a c d : Bool) → (a || (c || d)) ≡ ((a || c) || d)
      or_assoc true c d = refl
      or_assoc false c d = refl
  one_part u us (Some (Named l)) e some = ap (λ h. h || said us) (value_of_part u (Named l) e) ∙ or_moved (literal_value vs l) (has_true cs us) (clause_value vs (literals cs us))
    where
      or_moved : (a c d : Bool) → (a || (c || d)) ≡ (c || (a || d))
      or_moved true true d = refl
      or_moved true false d = refl
      or_moved false c d = refl

  parts_hold : (us : List Term) → are_parts cs us ≡ true → list_any (holds m) us ≡ said us
  parts_hold [] all = refl
  parts_hold (u ∷ us) all =
      let parts = both_true (is_some (part cs u)) (are_parts cs us) all in
      ap (λ b. holds m u || b) (parts_hold us parts.1) ∙ one_part u us (part cs u) refl parts.0

  clause_holds : (t : Term) → is_clause cs t ≡ true → holds m t ≡ said (disjuncts t)
  clause_holds t clause = disjunction t ∙ parts_hold (disjuncts t) clause

  pub all_clauses : (roots : List Term) → AreClauses cs roots → all_hold m roots ≡ satisfies vs (clauses cs roots)
  all_clauses [] all = refl
  all_clauses (t ∷ ts) all = by (has_true cs (disjuncts t)) refl (all_clauses ts (All-tail (λ u. is_clause cs u ≡ true) t ts all))
    where
      here : holds m t ≡ said (disjuncts t)
      here = clause_holds t (All-head (λ u. is_clause cs u ≡ true) t ts all)

      by : (h : Bool) → has_true cs (disjuncts t) ≡ h → all_hold m ts ≡ satisfies vs (clauses cs ts)
          → (holds m t && all_hold m ts) ≡ satisfies vs (map (λ u. literals cs (disjuncts u)) (if not h then t ∷ filter (λ u. not (has_true cs (disjuncts u))) ts else filter (λ u. not (has_true cs (disjuncts u))) ts))
      by true e rest = ap (λ b. b && all_hold m ts) (here ∙ ap (λ b. b || clause_value vs (literals cs (disjuncts t))) e) ∙ rest
      by false e rest = ap (λ b. b && all_hold m ts) (here ∙ ap (λ b. b || clause_value vs (literals cs (disjuncts t))) e) ∙ ap (λ b. clause_value vs (literals cs (disjuncts t)) && b) rest
