-- What the ranks of the operators of Core say of their operands as nodes.
use Rattle.std.proofs.Common.{◌≡◌, ℕ, zero, suc, ◌<◌, ◌≤◌, inl, inr, Bool, true, false, cond, List, [], ◌∷◌, length, get_or, replicate, All, Option, Some, None, Result, Ok, Err, IsOk, refl, ap, sym, ◌∙◌, subst, arith}
use Rattle.std.specs.Prelude.{is_some, MatchOption}
use Rattle.std.proofs.lemmas.List.Elements.{All-nil, All-cons, All-head, All-tail}
use Rattle.smt_terms.specs.declared.ids.NodeId.{NodeId}
use Rattle.smt_terms.specs.declared.op.Op.{Op}
use Rattle.smt_terms.specs.declared.op.Op.TheVariants.{And, Or, Xor, Implies, Equal, Ite}
use Rattle.smt_terms.specs.Connectives.{truth_term}
use Rattle.smt_terms.specs.Equal.{op_eq}
use Rattle.smt_terms.specs.Rank.{Fault, rank, shape, sort_of, is_regular}
use Rattle.smt_terms.specs.Sorts.{Sort, bool}
use Rattle.smt_terms.specs.Takes.{Takes}
use Rattle.smt_terms.specs.Term.{op, symbol, const_array, Term, apply, quantified, Terms, none, ◌⨾◌}
use Rattle.smt_terms.proofs.Equal.{Decides-op_eq, Decides-term_eq}
use Rattle.smt_terms.proofs.Ranked.{rank-takes}
use Rattle.smt_terms.proofs.Tests.{both_true, contrary, true_or_false}
use Rattle.term_table.specs.Formulas.{Formulas, Kind, kind, theory, applied, filled, binder, kind_term, term_over, operands, kind_rank, rank_over, sort_or_bool, sorts_in, IsTable, tree, trees_at, IsNode, AreNodes, Makes}
use Rattle.term_table.proofs.Operators.{kind-theory}
use Rattle.normal_forms.specs.Nodes.{IsFormula}
use Rattle.simplify.specs.Folding.{is_truth}
use Rattle.simplify.specs.Folding as plain
use Rattle.simplify.specs.Reduced.{Answers}
use Rattle.simplify.proofs.Gives.{truth_operand}

-- ---- an operator over itself

pub twice-found : (o : Op) (t u : Term) → t ≡ apply (op o) (u ⨾ none) → plain.twice o t ≡ Some u
twice-found o t u is = ap (plain.twice o) is ∙ ap (λ b. cond b (Some u) None) ((Decides-op_eq o o).1 refl)

pub twice-none : (o : Op) (t : Term) → ((u : Term) → t ≡ apply (op o) (u ⨾ none) → ⊥) → plain.twice o t ≡ None
twice-none o (quantified q xs body) other = refl
twice-none o (apply (symbol f) ts) other = refl
twice-none o (apply (const_array s) ts) other = refl
twice-none o (apply (op p) none) other = refl
twice-none o (apply (op p) (u ⨾ (v ⨾ ts))) other = refl
twice-none o (apply (op p) (u ⨾ none)) other = elim (true_or_false (op_eq o p)) [
  | inl same ↦ absurd (other u (ap (λ q. apply (op q) (u ⨾ none)) (sym ((Decides-op_eq o p).0 same))))
  | inr apart ↦ ap (λ b. cond b (Some u) None) apart
]

pub twice-answers : (t : Formulas) (o : Op) (ids : List NodeId) (d : NodeId) (r : Option NodeId) → 1 ≤ length ids → length ids < 2 → MatchOption r ((u : Term) → tree t (get_or ids 0 d) ≡ apply (op o) (u ⨾ none) → ⊥) (λ k. IsNode t k × (tree t (get_or ids 0 d) ≡ apply (op o) (tree t k ⨾ none))) → Answers t (plain.one (plain.twice o) (trees_at t ids)) r
twice-answers t o [] d r some few h = absurd (omega arith)
twice-answers t o (j ∷ k ∷ ids) d r some few h = absurd (omega arith)
twice-answers t o (j ∷ []) d None some few h = subst (λ u. Answers t u None) (sym (twice-none o (tree t j) h)) tt
twice-answers t o (j ∷ []) d (Some k) some few h = subst (λ u. Answers t u (Some k)) (sym (twice-found o (tree t j) (tree t k) h.1)) (record { node = h.0; term = refl })

-- ---- the operator of a node

operator-seen : (t : Formulas) (p o : Op) (ts : List Term) (us : Terms) (k : Kind) → kind p ≡ k → kind_term t.symbols t.sorts k ts ≡ apply (op o) us → p ≡ o
operator-seen t p o ts us (theory q) is same =
    let one : q ≡ o = cc in
    kind-theory p q is ∙ one
operator-seen t p o ts us (applied f) is same = absurd cc
operator-seen t p o ts us (filled s) is same = absurd cc
operator-seen t p o ts us (binder q) is same = absurd cc

pub unlike-operator : (t : Formulas) (p o : Op) (b : Bool) (v : Term) → v ≡ term_over t p (operands v) → b ≡ false → ((b ≡ true → p ≡ o) × (p ≡ o → b ≡ true)) → (u : Term) → v ≡ apply (op o) (u ⨾ none) → ⊥
unlike-operator t p o b v term other told u same =
    let one : p ≡ o = operator-seen t p o (operands v) (u ⨾ none) (kind p) refl (sym term ∙ same) in
    contrary b (told.1 one) other

-- ---- sorts of operands

ok_value : (r : Result Sort Fault) → IsOk r → (s : Sort) × (r ≡ Ok s)
ok_value (Ok s) e = (s, refl)
ok_value (Err f) e = absurd cc

takes-over : (t : Formulas) (p : Op) (ts : List Term) → kind p ≡ theory p → IsOk (rank_over t p ts) → (s : Sort) × Takes (shape p) (sorts_in ts) s
takes-over t p ts is ranked =
    let ok = ok_value (rank (op p) (sorts_in ts)) (subst (λ (k : Kind). IsOk (kind_rank t.symbols t.sorts k ts)) is ranked) in
    (ok.0, rank-takes (op p) (sorts_in ts) ok.0 ok.1)

some-sort : (o : Option Sort) → is_some o ≡ true → o ≡ Some (sort_or_bool o)
some-sort (Some s) h = refl
some-sort None h = absurd cc

module _ (t : Formulas) (table : IsTable t) where
  sort-known : (k : NodeId) → IsNode t k → sort_of (tree t k) ≡ Some (sort_or_bool (sort_of (tree t k)))
  sort-known k node = some-sort (sort_of (tree t k)) (both_true (is_some (sort_of (tree t k))) (is_regular (tree t k)) (table.sorted k.0 node)).0

  formula : (k : NodeId) → IsNode t k → sort_or_bool (sort_of (tree t k)) ≡ bool → IsFormula t k
  formula k node is = record { node = node; sort = sort-known k node ∙ ap (λ s. Some s) is }

  formulas : (ks : List NodeId) (n : ℕ) → AreNodes t ks → sorts_in (trees_at t ks) ≡ replicate n bool → All (IsFormula t) ks
  formulas [] n nodes same = All-nil (IsFormula t)
  formulas (k ∷ ks) zero nodes same = absurd cc
  formulas (k ∷ ks) (suc n) nodes same =
      let here : sort_or_bool (sort_of (tree t k)) ≡ bool = cc in
      let rest : sorts_in (trees_at t ks) ≡ replicate n bool = cc in
      All-cons (IsFormula t) k ks (formula k (All-head (IsNode t) k ks nodes) here) (formulas ks n (All-tail (IsNode t) k ks nodes) rest)

  pub and-formulas : (ks : List NodeId) → Makes t And ks → All (IsFormula t) ks
  unfolding kind shape
  and-formulas ks makes =
      let found = takes-over t And (trees_at t ks) refl makes.ranked in
      formulas ks (suc (suc found.1.0)) makes.kids found.1.1

  pub or-formulas : (ks : List NodeId) → Makes t Or ks → All (IsFormula t) ks
  unfolding kind shape
  or-formulas ks makes =
      let found = takes-over t Or (trees_at t ks) refl makes.ranked in
      formulas ks (suc (suc found.1.0)) makes.kids found.1.1

  pub xor-formulas : (ks : List NodeId) → Makes t Xor ks → All (IsFormula t) ks
  unfolding kind shape
  xor-formulas ks makes = formulas ks 2 makes.kids (takes-over t Xor (trees_at t ks) refl makes.ranked).1.0

  pub implies-formulas : (ks : List NodeId) → Makes t Implies ks → All (IsFormula t) ks
  unfolding kind shape
  implies-formulas ks makes = formulas ks 2 makes.kids (takes-over t Implies (trees_at t ks) refl makes.ranked).1.0

  pub equal-sorts : (ids : List NodeId) (d : NodeId) → Makes t Equal ids → 2 ≤ length ids → sort_of (tree t (get_or ids 0 d)) ≡ sort_of (tree t (get_or ids 1 d))
  unfolding kind shape
  equal-sorts [] d makes some = absurd (omega arith)
  equal-sorts (a ∷ []) d makes some = absurd (omega arith)
  equal-sorts (a ∷ b ∷ ids) d makes some =
      let nodes = makes.kids in
      let found = takes-over t Equal (trees_at t (a ∷ b ∷ ids)) refl makes.ranked in
      let all : sort_or_bool (sort_of (tree t a)) ∷ sort_or_bool (sort_of (tree t b)) ∷ sorts_in (trees_at t ids) ≡ found.1.0 ∷ found.1.0 ∷ [] = found.1.1 in
      let same : sort_or_bool (sort_of (tree t a)) ≡ sort_or_bool (sort_of (tree t b)) = cc in
      sort-known a (nodes 0 a (omega arith)) ∙ ap (λ s. Some s) same ∙ sym (sort-known b (nodes 1 b (omega arith)))

  pub ite-formula : (ids : List NodeId) (d : NodeId) → Makes t Ite ids → 1 ≤ length ids → IsFormula t (get_or ids 0 d)
  unfolding kind shape
  ite-formula [] d makes some = absurd (omega arith)
  ite-formula (c ∷ ids) d makes some =
      let found = takes-over t Ite (trees_at t (c ∷ ids)) refl makes.ranked in
      let all : sort_or_bool (sort_of (tree t c)) ∷ sorts_in (trees_at t ids) ≡ bool ∷ found.1.0 ∷ found.1.0 ∷ [] = found.1.1 in
      let first : sort_or_bool (sort_of (tree t c)) ≡ bool = cc in
      formula c (makes.kids 0 c (omega arith)) first

-- what is equal to a truth value is one
pub like-truth : (t : Formulas) (b : Bool) (j k : NodeId) → is_truth b (tree t j) ≡ true → sort_of (tree t j) ≡ sort_of (tree t k) → IsNode t k → IsFormula t k
like-truth t b j k truth same node = record {
  node = node;
  sort = sym same ∙ ap sort_of ((Decides-term_eq (tree t j) (truth_term b)).0 truth) ∙ (truth_operand b).has;
}

-- ---- no law for so many operands

pub not-two : (t : Formulas) (law : Term → Term → Option Term) (ids : List NodeId) → (length ids ≡ 2 → ⊥) → Answers t (plain.two law (trees_at t ids)) None
not-two t law [] other = tt
not-two t law (a ∷ []) other = tt
not-two t law (a ∷ b ∷ []) other = absurd (other refl)
not-two t law (a ∷ b ∷ c ∷ ids) other = tt

pub not-three : (t : Formulas) (law : Term → Term → Term → Option Term) (ids : List NodeId) → (length ids ≡ 3 → ⊥) → Answers t (plain.three law (trees_at t ids)) None
not-three t law [] other = tt
not-three t law (a ∷ []) other = tt
not-three t law (a ∷ b ∷ []) other = tt
not-three t law (a ∷ b ∷ c ∷ []) other = absurd (other refl)
not-three t law (a ∷ b ∷ c ∷ d ∷ ids) other = tt
