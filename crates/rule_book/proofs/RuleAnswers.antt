-- What each of the eight rules answers, by what its function reads off the view.
use Rattle.std.proofs.Common.{◌≡◌, ◌-◌, ◌^◌, Bool, true, false, ◌&&◌, ◌==◌, List, [], ◌∷◌, Option, Some, None, IfSome, if◌then◌else◌, option_and_then, refl, ap, sym, ◌∙◌}
use Rattle.std.specs.List.{list_any}
use Rattle.smt_terms.specs.declared.op.Op.{Op}
use Rattle.smt_terms.specs.declared.op.Op.TheVariants.{Not, Xor, Ite, Sub, Neg, Add, BvAnd, BvMul, BvUdiv, BvUrem, BvShl, BvLshr}
use Rattle.smt_terms.specs.Sorts.{Name, Sort}
use Rattle.smt_terms.specs.Term.{Term}
use Rattle.rule_book.specs.declared.templates.Tmpl.{Tmpl}
use Rattle.rule_book.specs.declared.views.Cell.{Cell}
use Rattle.rule_book.specs.declared.views.View.{View}
use Rattle.rule_book.specs.View.{TermCell, TermView}
use Rattle.rule_book.specs.Template.{hole, applied, Template}
use Rattle.rule_book.specs.Soundness.{Answers, MayReplace, IsSound}
use Rattle.rule_book.specs.Seen.{Shows, cell_seen, view_seen, answer_seen}
use Rattle.rule_book.specs.EightRules.{is_op, one, or_else, over_constant, power, operands, operands_of_cell, two, where_root, absorbed, mul_pow2, udiv_pow2, urem_pow2, sub_neg, ite_not, xor_not, eight}
use Rattle.rule_book.specs.Operands.{cells_at, two_at_root, three_at_root, only_below}
use Rattle.rule_book.specs.Told.{IsRuleAnswer}
use Rattle.rule_book.proofs.OperandsSeen.{one-below, two-root, three-root, has_hole-seen}

-- ---- a sound rule of that name

if_sound : (v : TermView) (p : Option Template) → ((q : Template) → p ≡ Some q → MayReplace v q) → IfSome p (MayReplace v)
if_sound v None sound = tt
if_sound v (Some q) sound = sound q refl

pub answers : (n : Name) (rule : Answers) (ss : List Sort) (v : View) (p : Option Tmpl) → IsSound rule → eight n (view_seen ss v) ≡ rule (view_seen ss v) → answer_seen p ≡ rule (view_seen ss v) →
    (t : Term) → Shows ss t v → IsRuleAnswer n (view_seen ss v) (answer_seen p)
answers n rule ss v p sound named is t shows = record {
  sound = if_sound (view_seen ss v) (answer_seen p) (λ q some. sound t (view_seen ss v) q shows.sorted shows.view (sym is ∙ some));
  told = λ _. is ∙ sym named;
}

-- ---- by what is read

-- a rule over two and three operands, and over one below
abbrev pub of_two : (Cell → Cell → Option Template) → Option (Cell × Cell) → Option Template
of_two f q = option_and_then (λ r. f r.0 r.1) q

abbrev pub of_three : (Cell → Cell → Cell → Option Template) → Option (Cell × Cell × Cell) → Option Template
of_three f q = option_and_then (λ r. f r.0 r.1 r.2) q

same-of_two : (f g : Cell → Cell → Option Template) → ((a b : Cell) → f a b ≡ g a b) → (q : Option (Cell × Cell)) → of_two f q ≡ of_two g q
same-of_two f g same q = λ i. option_and_then (λ r. same r.0 r.1 i) q

same-of_three : (f g : Cell → Cell → Cell → Option Template) → ((a b d : Cell) → f a b d ≡ g a b d) → (q : Option (Cell × Cell × Cell)) → of_three f q ≡ of_three g q
same-of_three f g same q = λ i. option_and_then (λ r. same r.0 r.1 r.2 i) q

-- a product, a quotient and a remainder

abbrev pub product : List Sort → Cell → Cell → Option Template
product ss a b = or_else (over_constant BvShl (cell_seen ss a) (λ k. k) (power b.op)) (over_constant BvShl (cell_seen ss b) (λ k. k) (power a.op))

pub mul_pow2-read : (ss : List Sort) (v : View) → mul_pow2 (view_seen ss v) ≡ of_two (product ss) (two_at_root BvMul v)
mul_pow2-read ss v = two-root ss BvMul v (λ a b. or_else (over_constant BvShl a (λ k. k) (power b.shown)) (over_constant BvShl b (λ k. k) (power a.shown)))

abbrev pub quotient : List Sort → Cell → Cell → Option Template
quotient ss x d = over_constant BvLshr (cell_seen ss x) (λ k. k) (power d.op)

pub udiv_pow2-read : (ss : List Sort) (v : View) → udiv_pow2 (view_seen ss v) ≡ of_two (quotient ss) (two_at_root BvUdiv v)
udiv_pow2-read ss v = two-root ss BvUdiv v (λ x d. over_constant BvLshr x (λ k. k) (power d.shown))

abbrev pub remainder : List Sort → Cell → Cell → Option Template
remainder ss x d = over_constant BvAnd (cell_seen ss x) (λ k. 2 ^ k - 1) (power d.op)

pub urem_pow2-read : (ss : List Sort) (v : View) → urem_pow2 (view_seen ss v) ≡ of_two (remainder ss) (two_at_root BvUrem v)
urem_pow2-read ss v = two-root ss BvUrem v (λ x d. over_constant BvAnd x (λ k. 2 ^ k - 1) (power d.shown))

-- a formula among the operands of the other

abbrev pub absorption : Op → View → Cell → Cell → Option Template
absorption inner v a b =
    if is_op inner b.op && list_any (λ c. c.hole == a.hole) (cells_at 2 v.cells) then Some (hole a.hole ∷ []) else
    if is_op inner a.op && list_any (λ c. c.hole == b.hole) (cells_at 1 v.cells) then Some (hole b.hole ∷ []) else None

absorbed-seen : (ss : List Sort) (inner : Op) (v : View) (a b : Cell) → absorbed inner (view_seen ss v) (cell_seen ss a) (cell_seen ss b) ≡ absorption inner v a b
absorbed-seen ss inner v a b = λ i.
    if is_op inner b.op && has_hole-seen ss a.hole 1 v i then Some (hole a.hole ∷ []) else
    if is_op inner a.op && has_hole-seen ss b.hole 0 v i then Some (hole b.hole ∷ []) else None

pub absorbed-read : (ss : List Sort) (outer inner : Op) (v : View) → where_root outer (view_seen ss v) (two (absorbed inner (view_seen ss v)) (operands (view_seen ss v))) ≡ of_two (absorption inner v) (two_at_root outer v)
absorbed-read ss outer inner v =
    two-root ss outer v (absorbed inner (view_seen ss v))
    ∙ same-of_two (λ a b. absorbed inner (view_seen ss v) (cell_seen ss a) (cell_seen ss b)) (absorption inner v) (absorbed-seen ss inner v) (two_at_root outer v)

pub first-absorbed : (inner : Op) (v : View) (a b : Cell) → (is_op inner b.op && list_any (λ c. c.hole == a.hole) (cells_at 2 v.cells)) ≡ true → absorption inner v a b ≡ Some (hole a.hole ∷ [])
first-absorbed inner v a b first =
    ap (λ t. if t then Some (hole a.hole ∷ []) else if is_op inner a.op && list_any (λ c. c.hole == b.hole) (cells_at 1 v.cells) then Some (hole b.hole ∷ []) else None) first

later-absorbed : (inner : Op) (v : View) (a b : Cell) → (is_op inner b.op && list_any (λ c. c.hole == a.hole) (cells_at 2 v.cells)) ≡ false →
    absorption inner v a b ≡ (if is_op inner a.op && list_any (λ c. c.hole == b.hole) (cells_at 1 v.cells) then Some (hole b.hole ∷ []) else None)
later-absorbed inner v a b first =
    ap (λ t. if t then Some (hole a.hole ∷ []) else if is_op inner a.op && list_any (λ c. c.hole == b.hole) (cells_at 1 v.cells) then Some (hole b.hole ∷ []) else None) first

pub second-absorbed : (inner : Op) (v : View) (a b : Cell) → (is_op inner b.op && list_any (λ c. c.hole == a.hole) (cells_at 2 v.cells)) ≡ false →
    (is_op inner a.op && list_any (λ c. c.hole == b.hole) (cells_at 1 v.cells)) ≡ true → absorption inner v a b ≡ Some (hole b.hole ∷ [])
second-absorbed inner v a b first second = later-absorbed inner v a b first ∙ ap (λ t. if t then Some (hole b.hole ∷ []) else None) second

pub none-absorbed : (inner : Op) (v : View) (a b : Cell) → (is_op inner b.op && list_any (λ c. c.hole == a.hole) (cells_at 2 v.cells)) ≡ false →
    (is_op inner a.op && list_any (λ c. c.hole == b.hole) (cells_at 1 v.cells)) ≡ false → absorption inner v a b ≡ None
none-absorbed inner v a b first second = later-absorbed inner v a b first ∙ ap (λ t. if t then Some (hole b.hole ∷ []) else None) second

-- a difference

abbrev pub sum_of : Cell → Cell → Option Template
sum_of a b = Some (hole a.hole ∷ hole b.hole ∷ applied Add 2 ∷ [])

abbrev pub difference : View → Cell → Cell → Option Template
difference v a n = option_and_then (sum_of a) (only_below Neg n.op 2 v.cells)

pub sub_neg-read : (ss : List Sort) (v : View) → sub_neg (view_seen ss v) ≡ of_two (difference v) (two_at_root Sub v)
sub_neg-read ss v =
    two-root ss Sub v (λ a n. if is_op Neg n.shown then one (λ b. Some (hole a.hole ∷ hole b.hole ∷ applied Add 2 ∷ [])) (operands_of_cell 1 (view_seen ss v)) else None)
    ∙ same-of_two (λ a n. if is_op Neg n.op then one (λ b. Some (hole a.hole ∷ hole b.hole ∷ applied Add 2 ∷ [])) (operands_of_cell 1 (view_seen ss v)) else None) (difference v)
    (λ a n. one-below ss Neg n.op 1 v (λ b. Some (hole a.hole ∷ hole b.hole ∷ applied Add 2 ∷ []))) (two_at_root Sub v)

-- a choice

abbrev pub choice_by : Cell → Cell → Cell → Option Template
choice_by a b c = Some (hole c.hole ∷ hole b.hole ∷ hole a.hole ∷ applied Ite 3 ∷ [])

abbrev pub choice : View → Cell → Cell → Cell → Option Template
choice v n a b = option_and_then (choice_by a b) (only_below Not n.op 1 v.cells)

pub ite_not-read : (ss : List Sort) (v : View) → ite_not (view_seen ss v) ≡ of_three (choice v) (three_at_root Ite v)
ite_not-read ss v =
    three-root ss Ite v (λ n a b. if is_op Not n.shown then one (λ c. Some (hole c.hole ∷ hole b.hole ∷ hole a.hole ∷ applied Ite 3 ∷ [])) (operands_of_cell 0 (view_seen ss v)) else None)
    ∙ same-of_three (λ n a b. if is_op Not n.op then one (λ c. Some (hole c.hole ∷ hole b.hole ∷ hole a.hole ∷ applied Ite 3 ∷ [])) (operands_of_cell 0 (view_seen ss v)) else None) (choice v)
    (λ n a b. one-below ss Not n.op 0 v (λ c. Some (hole c.hole ∷ hole b.hole ∷ hole a.hole ∷ applied Ite 3 ∷ []))) (three_at_root Ite v)

-- an exclusive or

abbrev pub exclusive_of : Cell → Cell → Option Template
exclusive_of p q = Some (hole p.hole ∷ hole q.hole ∷ applied Xor 2 ∷ [])

abbrev pub exclusive : View → Cell → Cell → Option Template
exclusive v m n = option_and_then (λ p. option_and_then (exclusive_of p) (only_below Not n.op 2 v.cells)) (only_below Not m.op 1 v.cells)

none-of-one : (cs : List TermCell) → None ≡ one (λ c. None) cs
none-of-one [] = refl
none-of-one (c ∷ []) = refl
none-of-one (c ∷ d ∷ cs) = refl

in-turn : (a b : Bool) (rule : TermCell → Option Template) (cs : List TermCell) → (if a && b then one rule cs else None) ≡ (if a then one (λ c. if b then rule c else None) cs else None)
in-turn true true rule cs = refl
in-turn true false rule cs = none-of-one cs
in-turn false b rule cs = refl

exclusive-seen : (ss : List Sort) (v : View) (m n : Cell) →
    (if is_op Not m.op && is_op Not n.op then one (λ p. one (λ q. Some (hole p.hole ∷ hole q.hole ∷ applied Xor 2 ∷ [])) (operands_of_cell 1 (view_seen ss v))) (operands_of_cell 0 (view_seen ss v)) else None) ≡ exclusive v m n
exclusive-seen ss v m n =
    in-turn (is_op Not m.op) (is_op Not n.op) (λ p. one (λ q. Some (hole p.hole ∷ hole q.hole ∷ applied Xor 2 ∷ [])) (operands_of_cell 1 (view_seen ss v))) (operands_of_cell 0 (view_seen ss v))
    ∙ one-below ss Not m.op 0 v (λ p. if is_op Not n.op then one (λ q. Some (hole p.hole ∷ hole q.hole ∷ applied Xor 2 ∷ [])) (operands_of_cell 1 (view_seen ss v)) else None)
    ∙ (λ i. option_and_then (λ p. one-below ss Not n.op 1 v (λ q. Some (hole p.hole ∷ hole q.hole ∷ applied Xor 2 ∷ [])) i) (only_below Not m.op 1 v.cells))

pub xor_not-read : (ss : List Sort) (v : View) → xor_not (view_seen ss v) ≡ of_two (exclusive v) (two_at_root Xor v)
xor_not-read ss v =
    two-root ss Xor v (λ m n. if is_op Not m.shown && is_op Not n.shown then one (λ p. one (λ q. Some (hole p.hole ∷ hole q.hole ∷ applied Xor 2 ∷ [])) (operands_of_cell 1 (view_seen ss v))) (operands_of_cell 0 (view_seen ss v)) else None)
    ∙ same-of_two (λ m n. if is_op Not m.op && is_op Not n.op then one (λ p. one (λ q. Some (hole p.hole ∷ hole q.hole ∷ applied Xor 2 ∷ [])) (operands_of_cell 1 (view_seen ss v))) (operands_of_cell 0 (view_seen ss v)) else None) (exclusive v)
    (exclusive-seen ss v) (two_at_root Xor v)
