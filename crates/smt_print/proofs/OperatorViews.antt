-- What is written for an operator over operands, and what a written operator means there: one record for each operator, so
-- that nothing else goes by cases over them.
use Rattle.std.proofs.Common.{◌≡◌, ℕ, ◌+◌, ◌%◌, ◌<◌, ◌≤◌, Bool, true, false, not, Result, Ok, Err, Some, None, List, [], ◌∷◌, length, map, refl, ap, sym, ◌∙◌, arith}
use Rattle.std.specs.Prelude.{◌&&◌, nat_lt, nat_le, if◌then◌else◌, replicate, codes}
use Rattle.std.proofs.Math.Nat.{mod-eq_of_lt}
use Rattle.std.proofs.lemmas.Bool.{le-ltb}
use Rattle.smt_lex.specs.Names.{Name, is_syntax_word, is_command_word, is_reserved, is_internal, is_theory_name}
use Rattle.smt_lex.specs.Forms.{Form}
use Rattle.smt_terms.specs.declared.op.Op.{Op}
use Rattle.smt_terms.specs.declared.op.Op.TheVariants.{Truth, Whole, Bits, Sym, Forall, Exists, ConstArray, Not, And, Or, Xor, Implies, Equal, Distinct, Ite, Neg, Sub, Add, Mul, Div, Mod, Abs, Le, Lt, Concat, Extract, BvNot, BvNeg, BvAnd, BvOr, BvXor, BvAdd, BvMul, BvSub, BvUdiv, BvUrem, BvSdiv, BvSrem, BvSmod, BvShl, BvLshr, BvAshr, BvComp, BvUlt, BvUle, BvSlt, BvSle, ZeroExt, SignExt, RotL, RotR, Select, Store}
use Rattle.smt_terms.specs.Rank.{wrong_arity, shape, most_bits, width, operand, accepted, rank}
use Rattle.smt_terms.specs.Sorts.{Sort, bool, int, bit_vector}
use Rattle.smt_terms.specs.Term.{op}
use Rattle.smt_terms.specs.Written.{Written, plain, over_all, left_associative, right_associative, chainable, subtraction, left_rotation, right_rotation, Indexed, without_index, with_index, with_indices, operator_named, at_indices, written_rank, Algebra, build}
use Rattle.smt_terms.proofs.Ranked.{rank-takes, rank-narrow, le_true}
use Rattle.script_terms.specs.Parts.{greatest_number}
use Rattle.term_table.specs.WrittenForms.{word_form, indexed_form}
use Rattle.smt_print.specs.TermForms.{operator_form}

-- a name of the theories, which nothing else has
abbrev pub is_operator_name : Name → Bool
is_operator_name n = not (is_reserved n) && (is_theory_name n && not (is_internal n))

-- a name, with its indices where it has some
abbrev pub named_form : Name → List ℕ → Form
named_form n [] = word_form n
named_form n (i ∷ is) = indexed_form n (i ∷ is)

abbrev pub AreSmall : List ℕ → Type 0
AreSmall [] = Unit {0}
AreSmall (i ∷ is) = (nat_lt greatest_number i ≡ false) × AreSmall is

-- the operator over operands of these sorts is written as a name that stands for it there
pub record View (o : Op) (ss : List Sort) (s : Sort) : Type 1 where
  pub name : Name
  pub indices : List ℕ
  pub indexed : Indexed
  pub written : Written
  pub form : operator_form o ≡ named_form name indices
  pub usual : is_operator_name name ≡ true
  pub named : operator_named name ≡ Some indexed
  pub taken : at_indices indexed indices ≡ Some written
  pub small : AreSmall indices
  pub ranked : written_rank written ss ≡ Ok s
  pub made : {A : Type 0} (a : Algebra A) (xs : List A) → map a.width_in xs ≡ map width ss → build a written xs ≡ a.make o xs

-- ---- written as itself

plain_view : (o : Op) (n : Name) (is : List ℕ) (i : Indexed) (ss : List Sort) (s : Sort) → operator_form o ≡ named_form n is → is_operator_name n ≡ true → operator_named n ≡ Some i
    → at_indices i is ≡ Some (plain o) → AreSmall is → rank (op o) ss ≡ Ok s → View o ss s
unfolding written_rank rank build
plain_view o n is i ss s form usual named taken small ranked = record {
  name = n;
  indices = is;
  indexed = i;
  written = plain o;
  form = form;
  usual = usual;
  named = named;
  taken = taken;
  small = small;
  ranked = ranked;
  made = λ a xs h. refl;
}

-- ---- over all operands

if_true : {A E : Type 0} (t u : Bool) (x : Result A E) (e : E) (a : A) → u ≡ true → (if t then x else Err e) ≡ Ok a → (if u then x else Err e) ≡ Ok a
if_true true u x e a is h = rw is h
if_true false u x e a is h = absurd (cc)

join_made : {A : Type 0} (a : Algebra A) (o : Op) (xs : List A) (v w : ℕ) (vs : List ℕ) → map a.width_in xs ≡ v ∷ (w ∷ vs) → build a (over_all o) xs ≡ a.make o xs
unfolding build
join_made a o [] v w vs h = absurd (cc)
join_made a o (x ∷ []) v w vs h = absurd (cc)
join_made a o (x ∷ y ∷ zs) v w vs h = refl

several_view : (o : Op) (n : Name) (ss : List Sort) (s a b : Sort) (rest : List Sort) → ss ≡ a ∷ (b ∷ rest) → operator_form o ≡ named_form n [] → is_operator_name n ≡ true
    → operator_named n ≡ Some (without_index (over_all o)) → (rank (op o) (a ∷ (b ∷ rest)) ≡ Ok s → written_rank (over_all o) (a ∷ (b ∷ rest)) ≡ Ok s) → rank (op o) ss ≡ Ok s → View o ss s
several_view o n ss s a b rest is form usual named same ranked = record {
  name = n;
  indices = [];
  indexed = without_index (over_all o);
  written = over_all o;
  form = form;
  usual = usual;
  named = named;
  taken = refl;
  small = tt;
  ranked = ap (written_rank (over_all o)) is ∙ same (sym (ap (rank (op o)) is) ∙ ranked);
  made = λ al xs h. join_made al o xs (width a) (width b) (map width rest) (h ∙ ap (map width) is);
}

-- ---- over two operands

pair_made : {A : Type 0} (a : Algebra A) (o : Op) (w : Written) (xs : List A) (u v : ℕ) → ((x y : A) → build a w (x ∷ (y ∷ [])) ≡ a.make o (x ∷ (y ∷ []))) → map a.width_in xs ≡ u ∷ (v ∷ [])
    → build a w xs ≡ a.make o xs
pair_made a o w [] u v two h = absurd (cc)
pair_made a o w (x ∷ []) u v two h = absurd (cc)
pair_made a o w (x ∷ y ∷ []) u v two h = two x y
pair_made a o w (x ∷ y ∷ z ∷ zs) u v two h = absurd (cc)

pair_view : (o : Op) (n : Name) (w : Written) (ss : List Sort) (s a b : Sort) → ss ≡ a ∷ (b ∷ []) → operator_form o ≡ named_form n [] → is_operator_name n ≡ true → operator_named n ≡ Some (without_index w)
    → written_rank w (a ∷ (b ∷ [])) ≡ rank (op o) (a ∷ (b ∷ [])) → ((A : Type 0) (al : Algebra A) (x y : A) → build al w (x ∷ (y ∷ [])) ≡ al.make o (x ∷ (y ∷ []))) → rank (op o) ss ≡ Ok s → View o ss s
pair_view o n w ss s a b is form usual named same two ranked = record {
  name = n;
  indices = [];
  indexed = without_index w;
  written = w;
  form = form;
  usual = usual;
  named = named;
  taken = refl;
  small = tt;
  ranked = ap (written_rank w) is ∙ same ∙ sym (ap (rank (op o)) is) ∙ ranked;
  made = λ al xs h. pair_made al o w xs (width a) (width b) (two _ al) (h ∙ ap (map width) is);
}

-- ---- over one operand

one_made : {A : Type 0} (a : Algebra A) (o : Op) (w : Written) (xs : List A) (u : ℕ) → ((x : A) → a.width_in x ≡ u → build a w (x ∷ []) ≡ a.make o (x ∷ [])) → map a.width_in xs ≡ u ∷ []
    → build a w xs ≡ a.make o xs
one_made a o w [] u one h = absurd (cc)
one_made a o w (x ∷ []) u one h = one x (cc)
one_made a o w (x ∷ y ∷ zs) u one h = absurd (cc)

one_view : (o : Op) (n : Name) (is : List ℕ) (i : Indexed) (w : Written) (ss : List Sort) (s a : Sort) → ss ≡ a ∷ [] → operator_form o ≡ named_form n is → is_operator_name n ≡ true → operator_named n ≡ Some i
    → at_indices i is ≡ Some w → AreSmall is → (rank (op o) (a ∷ []) ≡ Ok s → written_rank w (a ∷ []) ≡ Ok s)
    → ((A : Type 0) (al : Algebra A) (x : A) → al.width_in x ≡ width a → build al w (x ∷ []) ≡ al.make o (x ∷ [])) → rank (op o) ss ≡ Ok s → View o ss s
one_view o n is i w ss s a alone form usual named taken small same one ranked = record {
  name = n;
  indices = is;
  indexed = i;
  written = w;
  form = form;
  usual = usual;
  named = named;
  taken = taken;
  small = small;
  ranked = ap (written_rank w) alone ∙ same (sym (ap (rank (op o)) alone) ∙ ranked);
  made = λ al xs h. one_made al o w xs (width a) (one _ al) (h ∙ ap (map width) alone);
}

-- ---- indices

small_index : (i : ℕ) → i ≤ most_bits → nat_lt greatest_number i ≡ false
small_index i h = le-ltb greatest_number i (omega arith)

no_operands : (ss : List Sort) → ss ≡ [] → 0 < length ss → ⊥
no_operands ss none some = omega (arith, ap length none)

high_within : (ss : List Sort) (w high : ℕ) → ss ≡ bit_vector w ∷ [] → high < w → width (operand 0 ss) ≤ most_bits → high ≤ most_bits
high_within ss w high is less narrow =
    let same : width (operand 0 ss) ≡ w = ap (λ us. width (operand 0 us)) is in
    omega arith

extension_within : (o : Op) (ss : List Sort) (s : Sort) (w i : ℕ) → rank (op o) ss ≡ Ok s → s ≡ bit_vector (w + i) → i ≤ most_bits
extension_within o ss s w i ranked is =
    let narrow : width s ≤ most_bits = rank-narrow (op o) ss s ranked in
    let same : width s ≡ w + i = ap width is in
    omega arith

rotation_within : (o : Op) (ss : List Sort) (s : Sort) (w i : ℕ) → rank (op o) ss ≡ Ok s → i < w → s ≡ bit_vector w → i ≤ most_bits
rotation_within o ss s w i ranked less is =
    let narrow : width s ≤ most_bits = rank-narrow (op o) ss s ranked in
    let same : width s ≡ w = ap width is in
    omega arith

-- ---- rotations

rotation_accepted : (within : Bool) (t s : Sort) → accepted None within t ≡ Ok s → accepted None true t ≡ Ok s
rotation_accepted true t s h = h
rotation_accepted false t s h = absurd (cc)

rotated : {A : Type 0} (al : Algebra A) (rotation : ℕ → Op) (i n : ℕ) (x : A) → i < n → al.width_in x ≡ n → al.make (rotation (i % al.width_in x)) (x ∷ []) ≡ al.make (rotation i) (x ∷ [])
rotated al rotation i n x less is =
    let same : i % al.width_in x ≡ i = ap (λ k. i % k) is ∙ mod-eq_of_lt less in
    ap (λ k. al.make (rotation k) (x ∷ [])) same

-- ---- the operators

pub view : (o : Op) (ss : List Sort) (s : Sort) → rank (op o) ss ≡ Ok s → 0 < length ss → width (operand 0 ss) ≤ most_bits → View o ss s
unfolding operator_form is_syntax_word is_command_word is_theory_name operator_named shape rank written_rank build
view (Truth b) ss s r some narrow = absurd (no_operands ss (rank-takes (op (Truth b)) ss s r).0 some)
view (Whole n) ss s r some narrow = absurd (no_operands ss (rank-takes (op (Whole n)) ss s r).0 some)
view (Bits w n) ss s r some narrow = absurd (no_operands ss (rank-takes (op (Bits w n)) ss s r).0 some)
view (Sym f) ss s r some narrow = absurd (rank-takes (op (Sym f)) ss s r)
view Forall ss s r some narrow = absurd (rank-takes (op Forall) ss s r)
view Exists ss s r some narrow = absurd (rank-takes (op Exists) ss s r)
view (ConstArray f) ss s r some narrow = absurd (rank-takes (op (ConstArray f)) ss s r)
view Not ss s r some narrow = plain_view Not (codes "not") [] (without_index (plain Not)) ss s refl refl refl refl tt r
view And ss s r some narrow =
    let t = rank-takes (op And) ss s r in
    several_view And (codes "and") ss s bool bool (replicate t.0 bool) t.1 refl refl refl
    (λ h. if_true _ (nat_le 1 (length (bool ∷ (bool ∷ replicate t.0 bool)))) _ wrong_arity s (le_true 1 _ (omega arith)) h) r
view Or ss s r some narrow =
    let t = rank-takes (op Or) ss s r in
    several_view Or (codes "or") ss s bool bool (replicate t.0 bool) t.1 refl refl refl
    (λ h. if_true _ (nat_le 1 (length (bool ∷ (bool ∷ replicate t.0 bool)))) _ wrong_arity s (le_true 1 _ (omega arith)) h) r
view Xor ss s r some narrow = let t = rank-takes (op Xor) ss s r in pair_view Xor (codes "xor") (left_associative Xor) ss s bool bool t.0 refl refl refl refl (λ A al x y. refl) r
view Implies ss s r some narrow = let t = rank-takes (op Implies) ss s r in pair_view Implies (codes "=>") (right_associative Implies) ss s bool bool t.0 refl refl refl refl (λ A al x y. refl) r
view Equal ss s r some narrow = let t = rank-takes (op Equal) ss s r in pair_view Equal (codes "=") (chainable Equal) ss s t.0 t.0 t.1 refl refl refl refl (λ A al x y. refl) r
view Distinct ss s r some narrow = plain_view Distinct (codes "distinct") [] (without_index (plain Distinct)) ss s refl refl refl refl tt r
view Ite ss s r some narrow = plain_view Ite (codes "ite") [] (without_index (plain Ite)) ss s refl refl refl refl tt r
view Neg ss s r some narrow =
    let t = rank-takes (op Neg) ss s r in
    one_view Neg (codes "-") [] (without_index subtraction) subtraction ss s int t.0 refl refl refl refl tt (λ h. h) (λ A al x h. refl) r
view Sub ss s r some narrow = let t = rank-takes (op Sub) ss s r in pair_view Sub (codes "-") subtraction ss s int int t.0 refl refl refl refl (λ A al x y. refl) r
view Add ss s r some narrow =
    let t = rank-takes (op Add) ss s r in
    several_view Add (codes "+") ss s int int (replicate t.0 int) t.1 refl refl refl
    (λ h. if_true _ (nat_le 1 (length (int ∷ (int ∷ replicate t.0 int)))) _ wrong_arity s (le_true 1 _ (omega arith)) h) r
view Mul ss s r some narrow =
    let t = rank-takes (op Mul) ss s r in
    several_view Mul (codes "*") ss s int int (replicate t.0 int) t.1 refl refl refl
    (λ h. if_true _ (nat_le 1 (length (int ∷ (int ∷ replicate t.0 int)))) _ wrong_arity s (le_true 1 _ (omega arith)) h) r
view Div ss s r some narrow = let t = rank-takes (op Div) ss s r in pair_view Div (codes "div") (left_associative Div) ss s int int t.0 refl refl refl refl (λ A al x y. refl) r
view Mod ss s r some narrow = plain_view Mod (codes "mod") [] (without_index (plain Mod)) ss s refl refl refl refl tt r
view Abs ss s r some narrow = plain_view Abs (codes "abs") [] (without_index (plain Abs)) ss s refl refl refl refl tt r
view Le ss s r some narrow = let t = rank-takes (op Le) ss s r in pair_view Le (codes "<=") (chainable Le) ss s int int t.0 refl refl refl refl (λ A al x y. refl) r
view Lt ss s r some narrow = let t = rank-takes (op Lt) ss s r in pair_view Lt (codes "<") (chainable Lt) ss s int int t.0 refl refl refl refl (λ A al x y. refl) r
view Concat ss s r some narrow = plain_view Concat (codes "concat") [] (without_index (plain Concat)) ss s refl refl refl refl tt r
view (Extract high low) ss s r some narrow =
    let t = rank-takes (op (Extract high low)) ss s r in
    let within : high ≤ most_bits = high_within ss t.0 high t.1 t.3 narrow in
    let order : low ≤ high = t.2 in
    plain_view (Extract high low) (codes "extract") (high ∷ (low ∷ [])) (with_indices (λ high low. plain (Extract high low))) ss s refl refl refl refl
    (small_index high within, (small_index low (omega arith), tt)) r
view BvNot ss s r some narrow = plain_view BvNot (codes "bvnot") [] (without_index (plain BvNot)) ss s refl refl refl refl tt r
view BvNeg ss s r some narrow = plain_view BvNeg (codes "bvneg") [] (without_index (plain BvNeg)) ss s refl refl refl refl tt r
view BvAnd ss s r some narrow = let t = rank-takes (op BvAnd) ss s r in pair_view BvAnd (codes "bvand") (left_associative BvAnd) ss s (bit_vector t.0) (bit_vector t.0) t.1 refl refl refl refl (λ A al x y. refl) r
view BvOr ss s r some narrow = let t = rank-takes (op BvOr) ss s r in pair_view BvOr (codes "bvor") (left_associative BvOr) ss s (bit_vector t.0) (bit_vector t.0) t.1 refl refl refl refl (λ A al x y. refl) r
view BvXor ss s r some narrow = let t = rank-takes (op BvXor) ss s r in pair_view BvXor (codes "bvxor") (left_associative BvXor) ss s (bit_vector t.0) (bit_vector t.0) t.1 refl refl refl refl (λ A al x y. refl) r
view BvAdd ss s r some narrow = let t = rank-takes (op BvAdd) ss s r in pair_view BvAdd (codes "bvadd") (left_associative BvAdd) ss s (bit_vector t.0) (bit_vector t.0) t.1 refl refl refl refl (λ A al x y. refl) r
view BvMul ss s r some narrow = let t = rank-takes (op BvMul) ss s r in pair_view BvMul (codes "bvmul") (left_associative BvMul) ss s (bit_vector t.0) (bit_vector t.0) t.1 refl refl refl refl (λ A al x y. refl) r
view BvSub ss s r some narrow = plain_view BvSub (codes "bvsub") [] (without_index (plain BvSub)) ss s refl refl refl refl tt r
view BvUdiv ss s r some narrow = plain_view BvUdiv (codes "bvudiv") [] (without_index (plain BvUdiv)) ss s refl refl refl refl tt r
view BvUrem ss s r some narrow = plain_view BvUrem (codes "bvurem") [] (without_index (plain BvUrem)) ss s refl refl refl refl tt r
view BvSdiv ss s r some narrow = plain_view BvSdiv (codes "bvsdiv") [] (without_index (plain BvSdiv)) ss s refl refl refl refl tt r
view BvSrem ss s r some narrow = plain_view BvSrem (codes "bvsrem") [] (without_index (plain BvSrem)) ss s refl refl refl refl tt r
view BvSmod ss s r some narrow = plain_view BvSmod (codes "bvsmod") [] (without_index (plain BvSmod)) ss s refl refl refl refl tt r
view BvShl ss s r some narrow = plain_view BvShl (codes "bvshl") [] (without_index (plain BvShl)) ss s refl refl refl refl tt r
view BvLshr ss s r some narrow = plain_view BvLshr (codes "bvlshr") [] (without_index (plain BvLshr)) ss s refl refl refl refl tt r
view BvAshr ss s r some narrow = plain_view BvAshr (codes "bvashr") [] (without_index (plain BvAshr)) ss s refl refl refl refl tt r
view BvComp ss s r some narrow = plain_view BvComp (codes "bvcomp") [] (without_index (plain BvComp)) ss s refl refl refl refl tt r
view BvUlt ss s r some narrow = plain_view BvUlt (codes "bvult") [] (without_index (plain BvUlt)) ss s refl refl refl refl tt r
view BvUle ss s r some narrow = plain_view BvUle (codes "bvule") [] (without_index (plain BvUle)) ss s refl refl refl refl tt r
view BvSlt ss s r some narrow = plain_view BvSlt (codes "bvslt") [] (without_index (plain BvSlt)) ss s refl refl refl refl tt r
view BvSle ss s r some narrow = plain_view BvSle (codes "bvsle") [] (without_index (plain BvSle)) ss s refl refl refl refl tt r
view (ZeroExt i) ss s r some narrow =
    let t = rank-takes (op (ZeroExt i)) ss s r in
    plain_view (ZeroExt i) (codes "zero_extend") (i ∷ []) (with_index (λ i. plain (ZeroExt i))) ss s refl refl refl refl
    (small_index i (extension_within (ZeroExt i) ss s t.0 i r t.2), tt) r
view (SignExt i) ss s r some narrow =
    let t = rank-takes (op (SignExt i)) ss s r in
    plain_view (SignExt i) (codes "sign_extend") (i ∷ []) (with_index (λ i. plain (SignExt i))) ss s refl refl refl refl
    (small_index i (extension_within (SignExt i) ss s t.0 i r t.2), tt) r
view (RotL i) ss s r some narrow =
    let t = rank-takes (op (RotL i)) ss s r in
    one_view (RotL i) (codes "rotate_left") (i ∷ []) (with_index left_rotation) (left_rotation i) ss s (bit_vector t.0) t.1 refl refl refl refl
    (small_index i (rotation_within (RotL i) ss s t.0 i r t.2 t.3), tt) (λ h. rotation_accepted _ (bit_vector t.0) s h)
    (λ A al x is. rotated al RotL i t.0 x t.2 is) r
view (RotR i) ss s r some narrow =
    let t = rank-takes (op (RotR i)) ss s r in
    one_view (RotR i) (codes "rotate_right") (i ∷ []) (with_index right_rotation) (right_rotation i) ss s (bit_vector t.0) t.1 refl refl refl refl
    (small_index i (rotation_within (RotR i) ss s t.0 i r t.2 t.3), tt) (λ h. rotation_accepted _ (bit_vector t.0) s h)
    (λ A al x is. rotated al RotR i t.0 x t.2 is) r
view Select ss s r some narrow = plain_view Select (codes "select") [] (without_index (plain Select)) ss s refl refl refl refl tt r
view Store ss s r some narrow = plain_view Store (codes "store") [] (without_index (plain Store)) ss s refl refl refl refl tt r
