-- Steps of the rules: what is known of a view, and of its cells, where a rule answers.
use Rattle.std.proofs.Common.{◌≡◌, Bool, true, false, cond, ◌⊎◌, inl, inr, List, [], ◌∷◌, Option, Some, None, refl}
use Rattle.smt_terms.specs.declared.op.Op.{Op}
use Rattle.smt_terms.specs.Equal.{op_eq}
use Rattle.smt_terms.proofs.Equal.{Decides-op_eq}
use Rattle.rule_book.specs.View.{TermCell, TermView}
use Rattle.rule_book.specs.Template.{Template}
use Rattle.rule_book.specs.EightRules.{is_op, one, two, three, where_root}

-- ---- choices of answers

pub if_some : {A : Type 0} (b : Bool) (x : Option A) (a : A) → cond b x None ≡ Some a → (b ≡ true) × (x ≡ Some a)
if_some true x a h = (refl, h)
if_some false x a h = absurd cc

pub one_of_two : {A : Type 0} (b c : Bool) (x y a : A) → cond b (Some x) (cond c (Some y) None) ≡ Some a → (b ≡ true) × (x ≡ a) ⊎ (c ≡ true) × (y ≡ a)
one_of_two true c x y a h = inl (refl, cc)
one_of_two false true x y a h = inr (refl, cc)
one_of_two false false x y a h = absurd cc

-- ---- the operator of the root, and of a cell

pub rooted : (o : Op) (v : TermView) (answer : Option Template) (p : Template) → where_root o v answer ≡ Some p → (v.root ≡ o) × (answer ≡ Some p)
rooted o v answer p h =
    let told = if_some (op_eq v.root o) answer p h in
    ((Decides-op_eq v.root o).0 told.0, told.1)

pub is_shown : (o : Op) (shown : Option Op) → is_op o shown ≡ true → shown ≡ Some o
is_shown o (Some p) h = let same : o ≡ p = (Decides-op_eq o p).0 h in cc
is_shown o None h = absurd cc

-- ---- so many cells

pub one_cell : (rule : TermCell → Option Template) (cells : List TermCell) (p : Template) → one rule cells ≡ Some p → (a : TermCell) × (cells ≡ a ∷ []) × (rule a ≡ Some p)
one_cell rule (a ∷ []) p h = (a, refl, h)
one_cell rule _ p h = absurd cc

pub two_cells : (rule : TermCell → TermCell → Option Template) (cells : List TermCell) (p : Template) → two rule cells ≡ Some p → (a : TermCell) × (b : TermCell) × (cells ≡ a ∷ b ∷ []) × (rule a b ≡ Some p)
two_cells rule (a ∷ b ∷ []) p h = (a, b, refl, h)
two_cells rule _ p h = absurd cc

pub three_cells : (rule : TermCell → TermCell → TermCell → Option Template) (cells : List TermCell) (p : Template) → three rule cells ≡ Some p → (a : TermCell) × (b : TermCell) × (c : TermCell) × (cells ≡ a ∷ b ∷ c ∷ []) × (rule a b c ≡ Some p)
three_cells rule (a ∷ b ∷ c ∷ []) p h = (a, b, c, refl, h)
three_cells rule _ p h = absurd cc
