-- The unary minus of a node: a constant of sort Int stands within the range, and its opposite does too.
use Rattle.std.proofs.Common.{◌≡◌, zero, suc, ◌^◌, ◌<◌, false, ℤ, pos, negsuc, nat_abs, ◌-ℤ◌, List, [], ◌∷◌, length, Option, Some, None, Ok, refl, ap, sym, ◌∙◌, subst, arith, IsOk, to_z, of_z, FitsSigned}
use Rattle.std.specs.Int.{w128}
use Rattle.std.proofs.lemmas.Int.{to_z-of_z, fits_signed_from_abs, ints}
use Rattle.std.specs.Prelude.{neg_ℤ}
use Rattle.smt_terms.specs.declared.ids.NodeId.{NodeId}
use Rattle.smt_terms.specs.declared.op.Op.{Op}
use Rattle.smt_terms.specs.declared.op.Op.TheVariants.{Whole, Neg}
use Rattle.smt_terms.specs.Sorts.{Sort, int, Symbol}
use Rattle.smt_terms.specs.Term.{op, Term, apply, Terms, none, ◌⨾◌, list, terms}
use Rattle.smt_terms.specs.Rank.{accepted, rank, shape, sort_of, is_minus_of, is_minus, is_whole}
use Rattle.smt_terms.specs.Made.{minus}
use Rattle.smt_terms.proofs.Sorted.{applied as is_applied, length-sorts_of}
use Rattle.smt_terms.proofs.Ranked.{rank-takes, lt_true}
use Rattle.term_table.specs.Formulas.{Formulas, Kind, theory, applied, filled, binder, kind_term, sort_or_bool, AreNodes, tree, trees_at, operands, kind, term_over, Makes, IsNode}
use Rattle.term_table.proofs.Operators.{kind-theory}

no_terms : (ts : Terms) → length (list ts) ≡ 0 → ts ≡ none
no_terms none e = refl
no_terms (t ⨾ ts) e = absurd (omega arith)

constant_alone : (n : ℤ) (ts : Terms) → sort_of (apply (op (Whole n)) ts) ≡ Some int → (ts ≡ none) × (nat_abs n < 2 ^ 127)
unfolding shape
constant_alone n ts e =
    let a = is_applied (op (Whole n)) ts int e in
    let takes = rank-takes (op (Whole n)) a.sorts int a.rank in
    let count = length-sorts_of ts a.sorts a.operands in
    let empty = ap length takes.0 in
    (no_terms ts (omega (arith, count, empty)), takes.1)

-- an integer node whose operator is a constant is that constant
pub constant_node : (t : Formulas) (k : NodeId) (n : ℤ) → tree t k ≡ term_over t (Whole n) (operands (tree t k)) → sort_of (tree t k) ≡ Some int → (tree t k ≡ apply (op (Whole n)) none) × (nat_abs n < 2 ^ 127)
unfolding kind
constant_node t k n term sorted =
    let alone = constant_alone n (terms (operands (tree t k))) (ap sort_of (sym term) ∙ sorted) in
    (term ∙ ap (apply (op (Whole n))) alone.0, alone.1)

-- ---- the opposite of a number in the range

-- its magnitude is the same
nat_abs-neg : (n : ℤ) → nat_abs (neg_ℤ n) ≡ nat_abs n
nat_abs-neg (pos zero) = refl
nat_abs-neg (pos (suc n)) = refl
nat_abs-neg (negsuc n) = refl

in_word : (n : ℤ) → nat_abs n < 2 ^ 127 → FitsSigned w128 n
in_word n lt = fits_signed_from_abs w128 n lt

zero_less : (n : ℤ) → pos 0 -ℤ n ≡ neg_ℤ n
zero_less n = omega (arith, ints)

as_computed : (n : ℤ) → nat_abs n < 2 ^ 127 → pos 0 -ℤ to_z w128 (of_z w128 n) ≡ neg_ℤ n
as_computed n lt = ap (λ z. pos 0 -ℤ z) (to_z-of_z w128 n (in_word n lt)) ∙ zero_less n

opposite_in : (n : ℤ) → nat_abs n < 2 ^ 127 → nat_abs (neg_ℤ n) < 2 ^ 127
opposite_in n lt = subst (λ k. k < 2 ^ 127) (sym (nat_abs-neg n)) lt

pub opposite_fits : (n : ℤ) → nat_abs n < 2 ^ 127 → FitsSigned w128 (pos 0 -ℤ to_z w128 (of_z w128 n))
opposite_fits n lt = subst (FitsSigned w128) (sym (as_computed n lt)) (in_word (neg_ℤ n) (opposite_in n lt))

pub opposite : (n : ℤ) → nat_abs n < 2 ^ 127 → to_z w128 (of_z w128 (pos 0 -ℤ to_z w128 (of_z w128 n))) ≡ neg_ℤ n
opposite n lt = ap (λ z. to_z w128 (of_z w128 z)) (as_computed n lt) ∙ to_z-of_z w128 (neg_ℤ n) (in_word (neg_ℤ n) (opposite_in n lt))

-- ---- what the two nodes ask for

no_nodes : (t : Formulas) → AreNodes t []
no_nodes t i d lt = absurd (omega arith)

constant_ranked : (n : ℤ) → nat_abs n < 2 ^ 127 → rank (op (Whole n)) [] ≡ Ok int
unfolding rank shape
constant_ranked n lt = ap (λ b. accepted None b int) (lt_true (nat_abs n) (2 ^ 127) lt)

pub makes_opposite : (t : Formulas) (n m : ℤ) → nat_abs n < 2 ^ 127 → m ≡ neg_ℤ n → Makes t (Whole m) []
unfolding kind is_minus_of is_minus
makes_opposite t n m lt is =
    let range : nat_abs m < 2 ^ 127 = subst (λ z. nat_abs z < 2 ^ 127) (sym is) (opposite_in n lt) in
    record { kids = no_nodes t; numbers = tt; ranked = subst IsOk (sym (constant_ranked m range)) refl; minus = refl }

whole_is : (p : Op) → ((n : ℤ) → p ≡ Whole n → ⊥) → is_whole p ≡ false
unfolding is_whole
whole_is (Whole n) not = absurd (not n refl)
whole_is _ not = refl

-- a term of another operator is no constant number
no_constant : (fs : List Symbol) (ss : List Sort) (k : Kind) (ts : List Term) → ((p : Op) → k ≡ theory p → is_whole p ≡ false) → is_minus_of (op Neg) (kind_term fs ss k ts ⨾ none) ≡ false
unfolding is_minus_of is_minus
no_constant fs ss (theory p) [] not = not p refl
no_constant fs ss (theory p) (t ∷ ts) not = refl
no_constant fs ss (applied f) [] not = refl
no_constant fs ss (applied f) (t ∷ ts) not = refl
no_constant fs ss (filled s) [] not = refl
no_constant fs ss (filled s) (t ∷ ts) not = refl
no_constant fs ss (binder q) ts not = refl

neg_ranked : (s : Option Sort) → s ≡ Some int → rank (op Neg) (sort_or_bool s ∷ []) ≡ Ok int
unfolding rank shape
neg_ranked s is = ap (λ u. rank (op Neg) (sort_or_bool u ∷ [])) is

one_node : (t : Formulas) (k : NodeId) → IsNode t k → AreNodes t (k ∷ [])
one_node t k node zero d lt = node
one_node t k node (suc i) d lt = absurd (omega arith)

pub makes_minus : (t : Formulas) (k : NodeId) (p : Op) → IsNode t k → sort_of (tree t k) ≡ Some int → tree t k ≡ term_over t p (operands (tree t k)) → ((n : ℤ) → p ≡ Whole n → ⊥) → Makes t Neg (k ∷ [])
unfolding kind
makes_minus t k p node sorted term not =
    let alone = no_constant t.symbols t.sorts (kind p) (operands (tree t k)) (λ q e. subst (λ r. is_whole r ≡ false) (kind-theory p q e) (whole_is p not)) in
    record {
      kids = one_node t k node;
      numbers = tt;
      ranked = subst IsOk (sym (neg_ranked (sort_of (tree t k)) sorted)) refl;
      minus = subst (λ u. is_minus_of (op Neg) (u ⨾ none) ≡ false) (sym term) alone;
    }

-- ---- the node that is made

pub opposite_term : (t : Formulas) (k : NodeId) (n m : ℤ) → tree t k ≡ apply (op (Whole n)) none → m ≡ neg_ℤ n → term_over t (Whole m) (trees_at t []) ≡ minus (tree t k)
unfolding kind
opposite_term t k n m is opposite = ap (λ z. apply (op (Whole z)) none) opposite ∙ ap minus (sym is)
