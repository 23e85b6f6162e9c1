-- An `and` or an `or` of its operands is the term itself.
use Rattle.std.proofs.Common.{◌≡◌, ◌==◌, Bool, true, false, List, [], ◌∷◌, Option, Some, None, refl, ap, sym, ◌∙◌}
use Rattle.std.proofs.lemmas.Bool.Decides.{Decides-eqb}
use Rattle.std.proofs.lemmas.Slice.Eq.{slice_eq-Decides}
use Rattle.std.specs.Bool.{Decides}
use Rattle.std.specs.Cmp.Lexicographic.{pointwise}
use Rattle.smt_terms.specs.declared.ids.NodeId.{NodeId}
use Rattle.smt_terms.specs.declared.op.Op.{Op}
use Rattle.smt_terms.specs.declared.op.Op.TheVariants.{And, Or, Equal, Distinct, Ite}
use Rattle.smt_terms.specs.Connectives.{Kind, conjunction, disjunction, equivalence, difference, conditional, where_bool, where_branch_bool, operator_kind, kind_of}
use Rattle.smt_terms.specs.Sorts.{Sort, bool, int, bit_vector, array, free_sort}
use Rattle.smt_terms.specs.Rank.{sorts_of}
use Rattle.smt_terms.specs.Term.{Head, op, symbol, const_array, Term, apply, quantified, Terms, list}
use Rattle.term_table.specs.Formulas.{Formulas, trees_at, operands}
use Rattle.normal_forms.specs.Nnf.{positive}
use Rattle.normal_forms.specs.Shape.{IsOfKind}
use Rattle.normal_forms.proofs.NodeShapes.{terms-list}

abbrev pub is_join : Kind → Bool
is_join conjunction = true
is_join disjunction = true
is_join _ = false

-- ---- by the operator

no_equation : (o : Option (List Sort)) → is_join (where_bool o equivalence) ≡ false
no_equation None = refl
no_equation (Some []) = refl
no_equation (Some (bool ∷ ss)) = refl
no_equation (Some (int ∷ ss)) = refl
no_equation (Some (bit_vector w ∷ ss)) = refl
no_equation (Some (array i e ∷ ss)) = refl
no_equation (Some (free_sort n ∷ ss)) = refl

no_difference : (o : Option (List Sort)) → is_join (where_bool o difference) ≡ false
no_difference None = refl
no_difference (Some []) = refl
no_difference (Some (bool ∷ ss)) = refl
no_difference (Some (int ∷ ss)) = refl
no_difference (Some (bit_vector w ∷ ss)) = refl
no_difference (Some (array i e ∷ ss)) = refl
no_difference (Some (free_sort n ∷ ss)) = refl

no_choice : (o : Option (List Sort)) → is_join (where_branch_bool o conditional) ≡ false
no_choice None = refl
no_choice (Some []) = refl
no_choice (Some (s ∷ [])) = refl
no_choice (Some (s ∷ bool ∷ ss)) = refl
no_choice (Some (s ∷ int ∷ ss)) = refl
no_choice (Some (s ∷ bit_vector w ∷ ss)) = refl
no_choice (Some (s ∷ array i e ∷ ss)) = refl
no_choice (Some (s ∷ free_sort n ∷ ss)) = refl

operator-again : (o : Op) (ts : Terms) (ns : List Term) → is_join (operator_kind o (sorts_of ts)) ≡ true → apply (op o) ts ≡ positive (operator_kind o (sorts_of ts)) (apply (op o) ts) (list ts) ns
unfolding operator_kind
operator-again And ts ns e = ap (apply (op And)) (sym (terms-list ts))
operator-again Or ts ns e = ap (apply (op Or)) (sym (terms-list ts))
operator-again Equal ts ns e = absurd (let no = no_equation (sorts_of ts) in cc)
operator-again Distinct ts ns e = absurd (let no = no_difference (sorts_of ts) in cc)
operator-again Ite ts ns e = absurd (let no = no_choice (sorts_of ts) in cc)
operator-again _ ts ns e = absurd cc

head-again : (h : Head) (ts : Terms) (ns : List Term) → is_join (kind_of h ts) ≡ true → apply h ts ≡ positive (kind_of h ts) (apply h ts) (list ts) ns
head-again (op o) ts ns e = operator-again o ts ns e
head-again (symbol f) ts ns e = absurd cc
head-again (const_array s) ts ns e = absurd cc

term-again : (u : Term) (k : Kind) (ns : List Term) → IsOfKind u k → is_join k ≡ true → u ≡ positive k u (operands u) ns
term-again (quantified q xs t) k ns is join = let h = is.0 in absurd cc
term-again (apply h ts) k ns is join = head-again h ts ns (ap is_join is.1 ∙ join) ∙ ap (λ j. positive j (apply h ts) (list ts) ns) is.1

-- ---- of nodes that are the operands

one-node : (a b : NodeId) → Decides (a.0 == b.0) (a ≡ b)
one-node a b = (
  (λ e. (let number : a.0 ≡ b.0 = (Decides-eqb a.0 b.0).0 e in λ i. record { 0 = number i })),
  (λ e. (Decides-eqb a.0 b.0).1 (ap (λ (k : NodeId). k.0) e)),
)

same-nodes : (ks ls : List NodeId) → pointwise (λ (a b : NodeId). a.0 == b.0) ks ls ≡ true → ks ≡ ls
same-nodes ks ls e = (slice_eq-Decides one-node ks ls (pointwise (λ (a b : NodeId). a.0 == b.0) ks ls) refl).0 e

pub joined-again : (t : Formulas) (u : Term) (k : Kind) (kids ks : List NodeId) (r : Bool) → IsOfKind u k → is_join k ≡ true → trees_at t kids ≡ operands u → r ≡ pointwise (λ (a b : NodeId). a.0 == b.0) kids ks → r ≡ true → (ns : List Term) → u ≡ positive k u (trees_at t ks) ns
joined-again t u k kids ks r is join terms_are told same ns =
    let equal = same-nodes kids ks (sym told ∙ same) in
    term-again u k ns is join ∙ ap (λ us. positive k u us ns) (sym terms_are ∙ ap (trees_at t) equal)
