-- Two rules that tests ask of an exclusive or: its operands change places, or it becomes a `distinct`.
use Rattle.std.proofs.Common.{◌≡◌, ◌∙◌, Bool, true, false, not, ◌&&◌, ◌||◌, List, [], ◌∷◌, map, length, slice_get, Some, Ok, refl, ap, sym, arith}
use Rattle.std.specs.Bool.{beq}
use Rattle.smt_terms.specs.declared.op.Op.TheVariants.{Xor, Distinct}
use Rattle.smt_terms.specs.Sorts.{Name, Sort, bool}
use Rattle.smt_terms.specs.Term.{op, Term}
use Rattle.smt_terms.specs.Free.{name_among}
use Rattle.smt_terms.specs.Rank.{shape, rank}
use Rattle.smt_terms.specs.Values.{Value, is_true, truth}
use Rattle.smt_terms.specs.Operators.{Background, op_value}
use Rattle.smt_terms.proofs.Ranked.{rank-takes}
use Rattle.rule_book.specs.declared.views.Cell.{Cell}
use Rattle.rule_book.specs.declared.views.View.{View}
use Rattle.rule_book.specs.View.{TermCell, TermView, is_theory}
use Rattle.rule_book.specs.Template.{hole, applied, Template}
use Rattle.rule_book.specs.Seen.{Shows, cell_seen, view_seen}
use Rattle.rule_book.specs.Soundness.{MayReplace}
use Rattle.rule_book.specs.EightRules.{eight_names, operands}
use Rattle.rule_book.specs.Operands.{cells_at}
use Rattle.rule_book.specs.Told.{IsRuleAnswer}
use Rattle.rule_book.proofs.Answering.{IsRanked, root_ranked, operand_sort, equal_value, root_value}
use Rattle.rule_book.proofs.OperandsSeen.{under-seen}
use Rattle.rule_book.proofs.Replacing.{replaced_by_two}
use Rattle.rule_book.proofs.ViewRanks.{ranked}

-- ---- values

turned : (b : Background) (x y : Value) (rs ss : List Sort) → op_value b Xor ss (y ∷ x ∷ []) ≡ op_value b Xor rs (x ∷ y ∷ [])
unfolding op_value
turned b x y rs ss = ap (λ c. truth (not c)) (changed (is_true y) (is_true x))
  where
    changed : (c d : Bool) → beq c d ≡ beq d c
    changed true true = refl
    changed true false = refl
    changed false true = refl
    changed false false = refl

apart : (b : Background) (x y : Value) (rs : List Sort) → op_value b Distinct (bool ∷ bool ∷ []) (x ∷ y ∷ []) ≡ op_value b Xor rs (x ∷ y ∷ [])
unfolding op_value
apart b x y rs = ap truth (negated (beq (is_true x) (is_true y)))
  where
    negated : (c : Bool) → (not (c || false) && true) ≡ not c
    negated true = refl
    negated false = refl

-- ---- templates

module _ (v : TermView) (known : IsRanked v) (a b : TermCell) (root : v.root ≡ Xor) (cells : operands v ≡ a ∷ b ∷ []) where
  record AreTruths : Type 0 where
    first : a.sort ≡ bool
    second : b.sort ≡ bool
    result : v.sort ≡ bool

  truths : AreTruths
  unfolding shape
  truths =
      let told = rank-takes (op Xor) (a.sort ∷ b.sort ∷ []) v.sort (root_ranked v known Xor (a ∷ b ∷ []) root cells) in
      record { first = cc; second = cc; result = told.1 }

  pub swapped : MayReplace v (hole b.hole ∷ hole a.hole ∷ applied Xor 2 ∷ [])
  unfolding shape is_theory rank
  swapped =
      replaced_by_two v b.hole a.hole Xor bool bool refl
      (operand_sort v known 1 b bool (ap (λ cs. slice_get cs 1) cells) truths.second)
      (operand_sort v known 0 a bool (ap (λ cs. slice_get cs 0) cells) truths.first)
      (ap (λ s. Ok s) (sym truths.result))
      (equal_value v known (λ d holes. op_value d Xor (bool ∷ bool ∷ []) (holes b.hole ∷ holes a.hole ∷ [])) (λ d holes valid.
      turned d (holes a.hole) (holes b.hole) _ _ ∙ sym (root_value v known d holes Xor (a ∷ b ∷ []) root cells)))

  pub differing : MayReplace v (hole a.hole ∷ hole b.hole ∷ applied Distinct 2 ∷ [])
  unfolding shape is_theory rank
  differing =
      replaced_by_two v a.hole b.hole Distinct bool bool refl
      (operand_sort v known 0 a bool (ap (λ cs. slice_get cs 0) cells) truths.first)
      (operand_sort v known 1 b bool (ap (λ cs. slice_get cs 1) cells) truths.second)
      (ap (λ s. Ok s) (sym truths.result))
      (equal_value v known (λ d holes. op_value d Distinct (bool ∷ bool ∷ []) (holes a.hole ∷ holes b.hole ∷ [])) (λ d holes valid.
      apart d (holes a.hole) (holes b.hole) _ ∙ sym (root_value v known d holes Xor (a ∷ b ∷ []) root cells)))

-- ---- answers

-- the cells of two operands of the root
pub two_cells : (cs : List Cell) (a b : Cell) → length cs ≡ 2 → slice_get cs 0 ≡ Some a → slice_get cs 1 ≡ Some b → a.up ≡ 0 → b.up ≡ 0 → cells_at 0 cs ≡ a ∷ b ∷ []
two_cells [] a b so first second under beside = absurd (omega arith)
two_cells (x ∷ []) a b so first second under beside = absurd (omega arith)
two_cells (x ∷ y ∷ []) a b so first second under beside = cc
two_cells (x ∷ y ∷ z ∷ xs) a b so first second under beside = absurd (omega arith)

-- under a name that none of the eight has
answered : (n : Name) (v : TermView) (p : Template) → name_among eight_names n ≡ false → MayReplace v p → IsRuleAnswer n v (Some p)
answered n v p other sound = record { sound = sound; told = λ named. absurd (cc) }

module _ (n : Name) (other : name_among eight_names n ≡ false) (ss : List Sort) (t : Term) (v : View) (a b : Cell) (shows : Shows ss t v) (root : v.root ≡ Xor) (cells : cells_at 0 v.cells ≡ a ∷ b ∷ []) where
  seen : operands (view_seen ss v) ≡ cell_seen ss a ∷ cell_seen ss b ∷ []
  seen = under-seen ss 0 v.cells ∙ ap (λ cs. map (cell_seen ss) cs) cells

  pub swaps : IsRuleAnswer n (view_seen ss v) (Some (hole b.hole ∷ hole a.hole ∷ applied Xor 2 ∷ []))
  swaps = answered n (view_seen ss v) _ other (swapped (view_seen ss v) (ranked t (view_seen ss v) shows.sorted shows.view) (cell_seen ss a) (cell_seen ss b) root seen)

  pub differs : IsRuleAnswer n (view_seen ss v) (Some (hole a.hole ∷ hole b.hole ∷ applied Distinct 2 ∷ []))
  differs = answered n (view_seen ss v) _ other (differing (view_seen ss v) (ranked t (view_seen ss v) shows.sorted shows.view) (cell_seen ss a) (cell_seen ss b) root seen)
