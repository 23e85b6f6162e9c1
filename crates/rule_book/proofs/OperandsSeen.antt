-- What the eight rules read off a view, as the definitions read it off what the view shows.
use Rattle.std.proofs.Common.{◌≡◌, ℕ, suc, Bool, true, false, cond, if◌then◌else◌, ◌==◌, ◌||◌, ◌↔◌, List, [], ◌∷◌, map, length, slice_get, ◌≢◌, ◌⊎◌, Option, Some, None, IsTrue, option_and_then, inl, inr, refl, ap, sym, ◌∙◌, arith}
use Rattle.std.proofs.lemmas.Bool.Decides.{same_from_decides}
use Rattle.std.specs.List.{list_any}
use Rattle.smt_terms.specs.declared.op.Op.{Op}
use Rattle.smt_terms.specs.Equal.{op_eq}
use Rattle.smt_terms.specs.Sorts.{Sort}
use Rattle.smt_terms.proofs.Equal.{Decides-op_eq}
use Rattle.rule_book.specs.declared.views.Cell.{Cell}
use Rattle.rule_book.specs.declared.views.View.{View}
use Rattle.rule_book.specs.View.{TermCell}
use Rattle.rule_book.specs.Template.{Template}
use Rattle.rule_book.specs.Seen.{cell_seen, view_seen}
use Rattle.rule_book.specs.Soundness.{cells_under}
use Rattle.rule_book.specs.EightRules.{is_op, one, two, three, operands, operands_of_cell, has_hole, where_root}
use Rattle.rule_book.specs.Operands.{only, both, all_three, cells_at, two_at_root, three_at_root, only_below}

-- ---- operators

pub same_op : (p o : Op) (b : Bool) → (IsTrue b ↔ (p ≡ o)) → b ≡ op_eq p o
same_op p o b is = same_from_decides b (op_eq p o) is (Decides-op_eq p o)

pub shown_op : (p o : Op) (b : Bool) → (IsTrue b ↔ (p ≡ o)) → b ≡ op_eq o p
shown_op p o b is = same_from_decides b (op_eq o p) (λ h. sym (is.0 h), λ e. is.1 (sym e)) (Decides-op_eq o p)

pub other_op : (p o : Op) (b : Bool) → (IsTrue b ↔ (p ≡ o)) → b ≡ false → op_eq p o ≡ false
other_op p o b is fails = sym (same_op p o b is) ∙ fails

pub that_op : (p o : Op) (b : Bool) → (IsTrue b ↔ (p ≡ o)) → b ≡ true → op_eq p o ≡ true
that_op p o b is holds = sym (same_op p o b is) ∙ holds

-- ---- lists of so many elements

pub only-found : {A : Type 0} (xs : List A) (a : A) → length xs ≡ 1 → slice_get xs 0 ≡ Some a → Some a ≡ only xs
only-found [] a so first = absurd (omega arith)
only-found (x ∷ []) a so first = sym first
only-found (x ∷ y ∷ xs) a so first = absurd (omega arith)

pub both-found : {A : Type 0} (xs : List A) (a b : A) → length xs ≡ 2 → slice_get xs 0 ≡ Some a → slice_get xs 1 ≡ Some b → Some (a, b) ≡ both xs
both-found [] a b so first second = absurd (omega arith)
both-found (x ∷ []) a b so first second = absurd (omega arith)
both-found (x ∷ y ∷ []) a b so first second = cc
both-found (x ∷ y ∷ z ∷ xs) a b so first second = absurd (omega arith)

pub three-found : {A : Type 0} (xs : List A) (a b c : A) → length xs ≡ 3 → slice_get xs 0 ≡ Some a → slice_get xs 1 ≡ Some b → slice_get xs 2 ≡ Some c → Some (a, b, c) ≡ all_three xs
three-found [] a b c so first second third = absurd (omega arith)
three-found (x ∷ []) a b c so first second third = absurd (omega arith)
three-found (x ∷ y ∷ []) a b c so first second third = absurd (omega arith)
three-found (x ∷ y ∷ z ∷ []) a b c so first second third = cc
three-found (x ∷ y ∷ z ∷ u ∷ xs) a b c so first second third = absurd (omega arith)

pub only-missing : {A : Type 0} (xs : List A) → length xs ≢ 1 → None ≡ only xs
only-missing [] other = refl
only-missing (x ∷ []) other = absurd (other refl)
only-missing (x ∷ y ∷ xs) other = refl

pub both-missing : {A : Type 0} (xs : List A) → length xs ≢ 2 → None ≡ both xs
both-missing [] other = refl
both-missing (x ∷ []) other = refl
both-missing (x ∷ y ∷ []) other = absurd (other refl)
both-missing (x ∷ y ∷ z ∷ xs) other = refl

pub three-missing : {A : Type 0} (xs : List A) → length xs ≢ 3 → None ≡ all_three xs
three-missing [] other = refl
three-missing (x ∷ []) other = refl
three-missing (x ∷ y ∷ []) other = refl
three-missing (x ∷ y ∷ z ∷ []) other = absurd (other refl)
three-missing (x ∷ y ∷ z ∷ u ∷ xs) other = refl

-- where a test holds alone
pub absent : {A : Type 0} (b : Bool) (q : Option A) → (b ≡ false) ⊎ (None ≡ q) → None ≡ cond b q None
absent b q (inl fails) = ap (λ t. cond t q None) (sym fails)
absent true q (inr none) = none
absent false q (inr none) = refl

pub present : {A : Type 0} (b : Bool) (q r : Option A) → b ≡ true → r ≡ q → r ≡ cond b q None
present b q r holds is = is ∙ ap (λ t. cond t q None) (sym holds)

-- ---- the cells

seen_if : (ss : List Sort) (b : Bool) (c : Cell) (cs : List Cell) → cond b (cell_seen ss c ∷ map (cell_seen ss) cs) (map (cell_seen ss) cs) ≡ map (cell_seen ss) (cond b (c ∷ cs) cs)
seen_if ss true c cs = refl
seen_if ss false c cs = refl

pub under-seen : (ss : List Sort) (up : ℕ) (cs : List Cell) → cells_under up (map (cell_seen ss) cs) ≡ map (cell_seen ss) (cells_at up cs)
under-seen ss up [] = refl
under-seen ss up (c ∷ cs) = ap (λ r. cond (c.up == up) (cell_seen ss c ∷ r) r) (under-seen ss up cs) ∙ seen_if ss (c.up == up) c (cells_at up cs)

hole-seen : (ss : List Sort) (i : ℕ) (cs : List Cell) → has_hole i (map (cell_seen ss) cs) ≡ list_any (λ c. c.hole == i) cs
hole-seen ss i [] = refl
hole-seen ss i (c ∷ cs) = ap (λ r. (c.hole == i) || r) (hole-seen ss i cs)

pub has_hole-seen : (ss : List Sort) (i k : ℕ) (v : View) → has_hole i (operands_of_cell k (view_seen ss v)) ≡ list_any (λ c. c.hole == i) (cells_at (suc k) v.cells)
has_hole-seen ss i k v = ap (has_hole i) (under-seen ss (suc k) v.cells) ∙ hole-seen ss i (cells_at (suc k) v.cells)

if_then : {A : Type 0} (b : Bool) (f : A → Option Template) (q : Option A) → cond b (option_and_then f q) None ≡ option_and_then f (cond b q None)
if_then true f q = refl
if_then false f q = refl

one-seen : (ss : List Sort) (rule : TermCell → Option Template) (cs : List Cell) → one rule (map (cell_seen ss) cs) ≡ option_and_then (λ c. rule (cell_seen ss c)) (only cs)
one-seen ss rule [] = refl
one-seen ss rule (a ∷ []) = refl
one-seen ss rule (a ∷ b ∷ cs) = refl

two-seen : (ss : List Sort) (rule : TermCell → TermCell → Option Template) (cs : List Cell) → two rule (map (cell_seen ss) cs) ≡ option_and_then (λ r. rule (cell_seen ss r.0) (cell_seen ss r.1)) (both cs)
two-seen ss rule [] = refl
two-seen ss rule (a ∷ []) = refl
two-seen ss rule (a ∷ b ∷ []) = refl
two-seen ss rule (a ∷ b ∷ c ∷ cs) = refl

three-seen : (ss : List Sort) (rule : TermCell → TermCell → TermCell → Option Template) (cs : List Cell) → three rule (map (cell_seen ss) cs) ≡ option_and_then (λ r. rule (cell_seen ss r.0) (cell_seen ss r.1) (cell_seen ss r.2)) (all_three cs)
three-seen ss rule [] = refl
three-seen ss rule (a ∷ []) = refl
three-seen ss rule (a ∷ b ∷ []) = refl
three-seen ss rule (a ∷ b ∷ c ∷ []) = refl
three-seen ss rule (a ∷ b ∷ c ∷ d ∷ cs) = refl

pub one-below : (ss : List Sort) (o : Op) (shown : Option Op) (k : ℕ) (v : View) (rule : TermCell → Option Template) →
    (if is_op o shown then one rule (operands_of_cell k (view_seen ss v)) else None) ≡ option_and_then (λ c. rule (cell_seen ss c)) (only_below o shown (suc k) v.cells)
one-below ss o shown k v rule =
    ap (λ cs. if is_op o shown then one rule cs else None) (under-seen ss (suc k) v.cells)
    ∙ ap (λ r. if is_op o shown then r else None) (one-seen ss rule (cells_at (suc k) v.cells))
    ∙ if_then (is_op o shown) (λ c. rule (cell_seen ss c)) (only (cells_at (suc k) v.cells))

pub two-root : (ss : List Sort) (o : Op) (v : View) (rule : TermCell → TermCell → Option Template) →
    where_root o (view_seen ss v) (two rule (operands (view_seen ss v))) ≡ option_and_then (λ r. rule (cell_seen ss r.0) (cell_seen ss r.1)) (two_at_root o v)
two-root ss o v rule =
    ap (λ cs. where_root o (view_seen ss v) (two rule cs)) (under-seen ss 0 v.cells)
    ∙ ap (where_root o (view_seen ss v)) (two-seen ss rule (cells_at 0 v.cells))
    ∙ if_then (op_eq v.root o) (λ r. rule (cell_seen ss r.0) (cell_seen ss r.1)) (both (cells_at 0 v.cells))

pub three-root : (ss : List Sort) (o : Op) (v : View) (rule : TermCell → TermCell → TermCell → Option Template) →
    where_root o (view_seen ss v) (three rule (operands (view_seen ss v))) ≡ option_and_then (λ r. rule (cell_seen ss r.0) (cell_seen ss r.1) (cell_seen ss r.2)) (three_at_root o v)
three-root ss o v rule =
    ap (λ cs. where_root o (view_seen ss v) (three rule cs)) (under-seen ss 0 v.cells)
    ∙ ap (where_root o (view_seen ss v)) (three-seen ss rule (cells_at 0 v.cells))
    ∙ if_then (op_eq v.root o) (λ r. rule (cell_seen ss r.0) (cell_seen ss r.1) (cell_seen ss r.2)) (all_three (cells_at 0 v.cells))
