-- The simplifier brings nothing in: no free symbol, no name and no sort but those of the term, which stays clear.
use Rattle.std.proofs.Common.{◌≡◌, ℕ, ◌-◌, ◌^◌, Bool, true, false, not, cond, ◌&&◌, ◌||◌, ◌==◌, suc, ◌⊎◌, inl, inr, ℤ, pos, negsuc, ◌+ℤ◌, ◌*ℤ◌, List, [], ◌∷◌, ◌++◌, map, length, Option, Some, None, refl}
use Rattle.std.specs.Prelude.{⊤, IfSome, filter, is_some, nat_le, option_and_then, unwrap_or, if◌then◌else◌}
use Rattle.std.specs.List.{list_any, list_all}
use Rattle.std.specs.Ordering.{int_eq}
use Rattle.smt_terms.specs.declared.op.Op.{Op}
use Rattle.smt_terms.specs.declared.op.Op.TheVariants.{Truth, Whole, Bits, Not, And, Or, Xor, Implies, Equal, Distinct, Ite, Neg, Sub, Add, Mul, Div, Mod, Le, Lt, Extract, BvNot, BvNeg, BvAnd, BvOr, BvXor, BvAdd, BvMul, BvSub, BvUdiv, BvUrem, BvShl, BvLshr, BvAshr, BvComp, BvUlt, BvUle, BvSlt, BvSle, ZeroExt, SignExt, RotL, RotR, Select, Store}
use Rattle.smt_terms.specs.Sorts.{Name, Sort, Symbol, Variable}
use Rattle.smt_terms.specs.Term.{Quantifier, Head, op, symbol, const_array, Term, apply, quantified, Terms, none, ◌⨾◌, list, terms, constant_of}
use Rattle.smt_terms.specs.ArrayTerms.{selected, stored}
use Rattle.smt_terms.specs.BitVectors.{bv2nat}
use Rattle.smt_terms.specs.Connectives.{truth_term, opposite}
use Rattle.smt_terms.specs.Constants.{whole_term, bits_term, is_constant, are_different_constants, constant_term}
use Rattle.smt_terms.specs.Equal.{name_eq, symbol_eq, op_eq, term_eq}
use Rattle.smt_terms.specs.Free.{is_among, name_among, names_of, head_symbols, free, free_of}
use Rattle.smt_terms.specs.Operators.{op_value}
use Rattle.smt_terms.specs.Rank.{sort_of, sorts_of, is_regular, IsWellSorted}
use Rattle.smt_terms.specs.Shapes.{is_clear}
use Rattle.smt_terms.specs.SubstLaws.{names_within, names_within_each}
use Rattle.smt_terms.specs.Val.{within_range}
use Rattle.smt_terms.specs.Values.{Value, truth, whole, bits, element, table}
use Rattle.smt_terms.proofs.Keeping.{the_sort}
use Rattle.smt_terms.proofs.Runs.{among-name}
use Rattle.smt_terms.proofs.Tests.{both_true, and_true, either_true, left_true, right_true, both_false, or_false}
use Rattle.smt_terms.proofs.Equal.{Decides-symbol_eq}
use Rattle.simplify.specs.Folding.{is_truth, is_whole, is_bits, is_ones, constant_values, any_background, divides_by_zero, folded_values, folded, once, over_left, one, two, three, twice}
use Rattle.simplify.specs.Logic as logic
use Rattle.simplify.specs.Numbers as numbers
use Rattle.simplify.specs.Vectors as vectors
use Rattle.simplify.specs.Arrays.{selection, storing_anew, storing}
use Rattle.simplify.specs.Simplify.{law, folded_or_law, red, simp, simp_all}
use Rattle.normal_forms.proofs.Clear.{Sees, ClearEach, in-first, in-without, to-without, stays-clear}
use Rattle.normal_forms.proofs.Inside.{in-left, in-right, in-both, Within, NamedIn, Inside, InsideOne, inside-first, inside-rest, inside-operand, head-within, op-within}
use Rattle.normal_forms.proofs.Replaced.{operands-within}
use Rattle.script_read.specs.Printable.{all_within}
use Rattle.pass_laws.proofs.ReadsInside.{AllOf, all-map, IsWithin, passes, together, operands, over}

-- ---- what operands inherit and operators keep

module _ (P : Term → Type 0) (down : (h : Head) (ts : Terms) → P (apply h ts) → AllOf P ts) (make : (o : Op) (ts : Terms) → AllOf P ts → P (apply (op o) ts)) where
  abbrev All : List Term → Type 0
  All [] = ⊤
  All (t ∷ ts) = P t × All ts

  abbrev Has : Option Term → Type 0
  Has r = IfSome r P

  plain : (o : Op) → P (apply (op o) none)
  plain o = make o none tt

  either : (b : Bool) (x y : Term) → P x → P y → P (cond b x y)
  either true x y a c = a
  either false x y a c = c

  -- the lines of a law, one after the other
  line : (b : Bool) (x : Term) (rest : Option Term) → P x → Has rest → Has (if b then Some x else rest)
  line true x rest a others = a
  line false x rest a others = others

  -- ---- lists of operands

  listed : (ts : List Term) → All ts → AllOf P (terms ts)
  listed [] all = tt
  listed (t ∷ ts) all = (all.0, listed ts all.1)

  unlisted : (ts : Terms) → AllOf P ts → All (list ts)
  unlisted none all = tt
  unlisted (t ⨾ ts) all = (all.0, unlisted ts all.1)

  filtered : (test : Term → Bool) (ts : List Term) → All ts → All (filter test ts)
  filtered test [] all = tt
  filtered test (t ∷ ts) all = go (test t) (filtered test ts all.1)
    where
      go : (b : Bool) → All (filter test ts) → All (cond b (t ∷ filter test ts) (filter test ts))
      go true rest = (all.0, rest)
      go false rest = rest

  appended : (ts us : List Term) → All ts → All us → All (ts ++ us)
  appended [] us a b = b
  appended (t ∷ ts) us a b = (a.0, appended ts us a.1 b)

  once-has : (ts : List Term) → All ts → All (once ts)
  once-has [] all = tt
  once-has (t ∷ ts) all = (all.0, filtered (λ u. not (term_eq t u)) (once ts) (once-has ts all.1))

  left-has : (o : Op) (neutral : Term) (ts : List Term) → P neutral → All ts → P (over_left o neutral ts)
  left-has o neutral [] n all = n
  left-has o neutral (t ∷ []) n all = all.0
  left-has o neutral (t ∷ u ∷ ts) n all = make o (t ⨾ u ⨾ terms ts) (listed (t ∷ u ∷ ts) all)

  one-has : (f : Term → Option Term) → ((t : Term) → P t → Has (f t)) → (ts : List Term) → All ts → Has (one f ts)
  one-has f each (t ∷ []) all = each t all.0
  one-has f each _ all = tt

  two-has : (f : Term → Term → Option Term) → ((s t : Term) → P s → P t → Has (f s t)) → (ts : List Term) → All ts → Has (two f ts)
  two-has f each (s ∷ t ∷ []) all = each s t all.0 all.1.0
  two-has f each _ all = tt

  three-has : (f : Term → Term → Term → Option Term) → ((s t u : Term) → P s → P t → P u → Has (f s t u)) → (ts : List Term) → All ts → Has (three f ts)
  three-has f each (s ∷ t ∷ u ∷ []) all = each s t u all.0 all.1.0 all.1.1.0
  three-has f each _ all = tt

  -- ---- constants

  constant-has : (v : Value) → Has (constant_term v)
  constant-has (truth b) = plain (Truth b)
  constant-has (whole n) = line (within_range n) (whole_term n) None (plain (Whole n)) tt
  constant-has (bits bs) = plain (Bits (length bs) (bv2nat bs))
  constant-has (element i) = tt
  constant-has (table d ps) = tt

  folded-has : (o : Op) (ss : List Sort) (ts : List Term) → Has (folded o ss ts)
  folded-has o ss [] = tt
  folded-has o ss (t ∷ ts) = go (constant_values (t ∷ ts))
    where
      defined : (b : Bool) (v : Value) → Has (if b then None else constant_term v)
      defined true v = tt
      defined false v = constant-has v

      go : (q : Option (List Value)) → Has (option_and_then (folded_values o ss) q)
      go None = tt
      go (Some vs) = defined (divides_by_zero o vs) (op_value any_background o ss vs)

  -- ---- theory Core

  opposite-has : (t : Term) → P t → P (opposite t)
  opposite-has (apply (op Not) (t ⨾ none)) given = (down (op Not) (t ⨾ none) given).0
  opposite-has t given = make Not (t ⨾ none) (given, tt)

  twice-has : (o : Op) (t : Term) → P t → Has (twice o t)
  twice-has o (apply (op p) (t ⨾ none)) given = line (op_eq o p) t None (down (op p) (t ⨾ none) given).0 tt
  twice-has o t given = tt

  junction-has : (o : Op) (neutral : Bool) (ts : List Term) → All ts → P (logic.junction o neutral ts)
  junction-has o neutral ts all =
      let kept : List Term = filter (λ t. not (is_truth neutral t)) ts in
      either (logic.clashes neutral ts) (truth_term (not neutral)) (over_left o (truth_term neutral) (once kept)) (plain (Truth (not neutral)))
      (left-has o (truth_term neutral) (once kept) (plain (Truth neutral)) (once-has kept (filtered (λ t. not (is_truth neutral t)) ts all)))

  exclusive-has : (s t : Term) → P s → P t → Has (logic.exclusive s t)
  exclusive-has s t a b =
      line (term_eq s t) (truth_term false) _ (plain (Truth false))
      (line (is_truth true s) (opposite t) _ (opposite-has t b)
      (line (is_truth true t) (opposite s) _ (opposite-has s a)
      (line (is_truth false s) t _ b
      (line (is_truth false t) s None a tt))))

  implication-has : (s t : Term) → P s → P t → Has (logic.implication s t)
  implication-has s t a b =
      line (is_truth false s) (truth_term true) _ (plain (Truth true))
      (line (is_truth true t) (truth_term true) _ (plain (Truth true))
      (line (term_eq s t) (truth_term true) _ (plain (Truth true))
      (line (is_truth true s) t _ b
      (line (is_truth false t) (opposite s) None (opposite-has s a) tt))))

  equation-has : (s t : Term) → P s → P t → Has (logic.equation s t)
  equation-has s t a b =
      line (term_eq s t) (truth_term true) _ (plain (Truth true))
      (line (is_truth true s) t _ b
      (line (is_truth true t) s _ a
      (line (is_truth false s) (opposite t) _ (opposite-has t b)
      (line (is_truth false t) (opposite s) None (opposite-has s a) tt))))

  distinctness-has : (ts : List Term) → Has (logic.distinctness ts)
  distinctness-has ts = line (logic.has_copies ts || (nat_le 3 (length ts) && logic.starts_bool ts)) (truth_term false) None (plain (Truth false)) tt

  choice-has : (c s t : Term) → P c → P s → P t → Has (logic.choice c s t)
  choice-has c s t p a b =
      line (is_truth true c) s _ a
      (line (is_truth false c) t _ b
      (line (term_eq s t) s _ a
      (line (is_truth true s && is_truth false t) c _ p
      (line (is_truth false s && is_truth true t) (opposite c) None (opposite-has c p) tt))))

  -- ---- theory Ints

  unless-has : (neutral n : ℤ) → All (numbers.unless_neutral neutral n)
  unless-has neutral n = go (int_eq n neutral)
    where
      go : (b : Bool) → All (if b then [] else whole_term n ∷ [])
      go true = tt
      go false = (plain (Whole n), tt)

  gathered-has : (o : Op) (neutral n : ℤ) (ts : List Term) → All ts → Has (numbers.gathered o neutral n ts)
  gathered-has o neutral n ts all =
      let others : List Term = filter (λ t. not (is_constant t)) ts in
      let kept : List Term = others ++ numbers.unless_neutral neutral n in
      line (within_range n) (over_left o (whole_term neutral) kept) None
      (left-has o (whole_term neutral) kept (plain (Whole neutral)) (appended others (numbers.unless_neutral neutral n) (filtered (λ t. not (is_constant t)) ts all) (unless-has neutral n)))
      tt

  multiplication-has : (ts : List Term) → All ts → Has (numbers.multiplication ts)
  multiplication-has ts all =
      line (list_any (is_whole (pos 0)) ts) (whole_term (pos 0)) _ (plain (Whole (pos 0))) (gathered-has Mul (pos 1) (numbers.together ◌*ℤ◌ (pos 1) ts) ts all)

  subtraction-has : (s t : Term) → P s → P t → Has (numbers.subtraction s t)
  subtraction-has s t a b = line (is_whole (pos 0) t) s _ a (line (term_eq s t) (whole_term (pos 0)) None (plain (Whole (pos 0))) tt)

  division-has : (s t : Term) → P s → P t → Has (numbers.division s t)
  division-has s t a b = line (is_whole (pos 1) t) s None a tt

  remainder-has : (s t : Term) → P s → P t → Has (numbers.remainder s t)
  remainder-has s t a b = line (is_whole (pos 1) t || is_whole (negsuc 0) t) (whole_term (pos 0)) None (plain (Whole (pos 0))) tt

  itself-has : (v : Bool) (s t : Term) → P s → P t → Has (numbers.with_itself v s t)
  itself-has v s t a b = line (term_eq s t) (truth_term v) None (plain (Truth v)) tt

  -- ---- theory FixedSizeBitVectors

  zero-has : (t : Term) → P (vectors.zero_like t)
  zero-has t = plain (Bits (vectors.width_of t) 0)

  ones-has : (t : Term) → P (vectors.ones_like t)
  ones-has t = plain (Bits (vectors.width_of t) (2 ^ vectors.width_of t - 1))

  bit_and-has : (s t : Term) → P s → P t → Has (vectors.bit_and s t)
  bit_and-has s t a b =
      line (is_bits 0 s) s _ a (line (is_bits 0 t) t _ b (line (is_ones s) t _ b (line (is_ones t) s _ a (line (term_eq s t) s None a tt))))

  bit_or-has : (s t : Term) → P s → P t → Has (vectors.bit_or s t)
  bit_or-has s t a b =
      line (is_ones s) s _ a (line (is_ones t) t _ b (line (is_bits 0 s) t _ b (line (is_bits 0 t) s _ a (line (term_eq s t) s None a tt))))

  bit_exclusive-has : (s t : Term) → P s → P t → Has (vectors.bit_exclusive s t)
  bit_exclusive-has s t a b = line (term_eq s t) (vectors.zero_like s) _ (zero-has s) (line (is_bits 0 s) t _ b (line (is_bits 0 t) s None a tt))

  bit_addition-has : (s t : Term) → P s → P t → Has (vectors.addition s t)
  bit_addition-has s t a b = line (is_bits 0 s) t _ b (line (is_bits 0 t) s None a tt)

  bit_subtraction-has : (s t : Term) → P s → P t → Has (vectors.subtraction s t)
  bit_subtraction-has s t a b = line (is_bits 0 t) s _ a (line (term_eq s t) (vectors.zero_like s) None (zero-has s) tt)

  bit_multiplication-has : (s t : Term) → P s → P t → Has (vectors.multiplication s t)
  bit_multiplication-has s t a b = line (is_bits 0 s) s _ a (line (is_bits 0 t) t _ b (line (is_bits 1 s) t _ b (line (is_bits 1 t) s None a tt)))

  bit_division-has : (s t : Term) → P s → P t → Has (vectors.division s t)
  bit_division-has s t a b = line (is_bits 0 t) (vectors.ones_like t) _ (ones-has t) (line (is_bits 1 t) s None a tt)

  bit_remainder-has : (s t : Term) → P s → P t → Has (vectors.remainder s t)
  bit_remainder-has s t a b = line (is_bits 0 t) s _ a (line (is_bits 1 t) (vectors.zero_like t) None (zero-has t) tt)

  shift-has : (s t : Term) → P s → P t → Has (vectors.shift s t)
  shift-has s t a b = line (is_bits 0 t) s None a tt

  comparison-has : (s t : Term) → P s → P t → Has (vectors.comparison s t)
  comparison-has s t a b = line (term_eq s t) (bits_term 1 1) None (plain (Bits 1 1)) tt

  extraction-has : (high low : ℕ) (t : Term) → P t → Has (vectors.extraction high low t)
  extraction-has high low t a = line ((low == 0) && (vectors.width_of t == suc high)) t None a tt

  movement-has : (i : ℕ) (t : Term) → P t → Has (vectors.movement i t)
  movement-has i t a = line (i == 0) t None a tt

  -- ---- theory ArraysEx

  select-has : (a j : Term) → P a → P j → P (selected a j)
  select-has a j pa pj = make Select (a ⨾ j ⨾ none) (pa, (pj, tt))

  store-has : (a i v : Term) → P a → P i → P v → P (stored a i v)
  store-has a i v pa pi pv = make Store (a ⨾ i ⨾ v ⨾ none) (pa, (pi, (pv, tt)))

  selection-has : (a j : Term) → P a → P j → P (selection a j)
  selection-has (apply (const_array s) (v ⨾ none)) j pa pj = (down (const_array s) (v ⨾ none) pa).0
  selection-has (apply (op o) (a ⨾ i ⨾ v ⨾ none)) j pa pj =
      let each : AllOf P (a ⨾ i ⨾ v ⨾ none) = down (op o) (a ⨾ i ⨾ v ⨾ none) pa in
      either (op_eq o Store && term_eq i j) v _ each.1.1.0
      (either (op_eq o Store && are_different_constants i j) (selection a j) (selected (apply (op o) (a ⨾ i ⨾ v ⨾ none)) j) (selection-has a j each.0 pj) (select-has (apply (op o) (a ⨾ i ⨾ v ⨾ none)) j pa pj))
  selection-has a j pa pj = select-has a j pa pj

  storing_anew-has : (a i v : Term) → P a → P i → P v → P (storing_anew a i v)
  storing_anew-has a i v pa pi pv = either (term_eq v (selected a i)) a (stored a i v) pa (store-has a i v pa pi pv)

  storing-has : (a i v : Term) → P a → P i → P v → P (storing a i v)
  storing-has (apply (op o) (a ⨾ j ⨾ w ⨾ none)) i v pa pi pv =
      either (op_eq o Store && term_eq i j) (storing a i v) (storing_anew (apply (op o) (a ⨾ j ⨾ w ⨾ none)) i v)
      (storing-has a i v (down (op o) (a ⨾ j ⨾ w ⨾ none) pa).0 pi pv) (storing_anew-has (apply (op o) (a ⨾ j ⨾ w ⨾ none)) i v pa pi pv)
  storing-has a i v pa pi pv = storing_anew-has a i v pa pi pv

  -- ---- one operator after the other

  law-has : (o : Op) (ts : List Term) → All ts → Has (law o ts)
  unfolding law
  law-has Not ts all = one-has (twice Not) (twice-has Not) ts all
  law-has And ts all = junction-has And true ts all
  law-has Or ts all = junction-has Or false ts all
  law-has Xor ts all = two-has logic.exclusive exclusive-has ts all
  law-has Implies ts all = two-has logic.implication implication-has ts all
  law-has Equal ts all = two-has logic.equation equation-has ts all
  law-has Distinct ts all = distinctness-has ts
  law-has Ite ts all = three-has logic.choice choice-has ts all
  law-has Neg ts all = one-has (twice Neg) (twice-has Neg) ts all
  law-has Sub ts all = two-has numbers.subtraction subtraction-has ts all
  law-has Add ts all = gathered-has Add (pos 0) (numbers.together ◌+ℤ◌ (pos 0) ts) ts all
  law-has Mul ts all = multiplication-has ts all
  law-has Div ts all = two-has numbers.division division-has ts all
  law-has Mod ts all = two-has numbers.remainder remainder-has ts all
  law-has Le ts all = two-has (numbers.with_itself true) (itself-has true) ts all
  law-has Lt ts all = two-has (numbers.with_itself false) (itself-has false) ts all
  law-has (Extract high low) ts all = one-has (vectors.extraction high low) (extraction-has high low) ts all
  law-has BvNot ts all = one-has (twice BvNot) (twice-has BvNot) ts all
  law-has BvNeg ts all = one-has (twice BvNeg) (twice-has BvNeg) ts all
  law-has BvAnd ts all = two-has vectors.bit_and bit_and-has ts all
  law-has BvOr ts all = two-has vectors.bit_or bit_or-has ts all
  law-has BvXor ts all = two-has vectors.bit_exclusive bit_exclusive-has ts all
  law-has BvAdd ts all = two-has vectors.addition bit_addition-has ts all
  law-has BvMul ts all = two-has vectors.multiplication bit_multiplication-has ts all
  law-has BvSub ts all = two-has vectors.subtraction bit_subtraction-has ts all
  law-has BvUdiv ts all = two-has vectors.division bit_division-has ts all
  law-has BvUrem ts all = two-has vectors.remainder bit_remainder-has ts all
  law-has BvShl ts all = two-has vectors.shift shift-has ts all
  law-has BvLshr ts all = two-has vectors.shift shift-has ts all
  law-has BvAshr ts all = two-has vectors.shift shift-has ts all
  law-has BvComp ts all = two-has vectors.comparison comparison-has ts all
  law-has BvUlt ts all = two-has (numbers.with_itself false) (itself-has false) ts all
  law-has BvUle ts all = two-has (numbers.with_itself true) (itself-has true) ts all
  law-has BvSlt ts all = two-has (numbers.with_itself false) (itself-has false) ts all
  law-has BvSle ts all = two-has (numbers.with_itself true) (itself-has true) ts all
  law-has (ZeroExt i) ts all = one-has (vectors.movement i) (movement-has i) ts all
  law-has (SignExt i) ts all = one-has (vectors.movement i) (movement-has i) ts all
  law-has (RotL i) ts all = one-has (vectors.movement i) (movement-has i) ts all
  law-has (RotR i) ts all = one-has (vectors.movement i) (movement-has i) ts all
  law-has Select ts all = two-has (λ a j. Some (selection a j)) selection-has ts all
  law-has Store ts all = three-has (λ a i v. Some (storing a i v)) storing-has ts all
  law-has _ ts all = tt

  first-has : (f l : Option Term) (anew : Term) → Has f → Has l → P anew → P (folded_or_law f l anew)
  first-has (Some t) l anew a b c = a
  first-has None (Some t) anew a b c = b
  first-has None None anew a b c = c

  red-has : (h : Head) (ts : Terms) → P (apply h ts) → P (red h ts)
  red-has (op o) ts given =
      let ss : List Sort = unwrap_or (sorts_of ts) [] in
      first-has (folded o ss (list ts)) (law o (list ts)) (apply (op o) ts) (folded-has o ss (list ts)) (law-has o (list ts) (unlisted ts (down (op o) ts given))) given
  red-has (symbol f) ts given = given
  red-has (const_array s) ts given = given

-- ---- a quantifier over those of its variables that are free in the body

abbrev those_free : List Symbol → List Variable → List Variable
those_free fs xs = filter (λ x. is_among fs (constant_of x)) xs

-- a free symbol that none of these is, none of all variables is
none-missed : (fs : List Symbol) (xs : List Variable) (g : Symbol) → is_among fs g ≡ true → is_among (map constant_of (those_free fs xs)) g ≡ false → is_among (map constant_of xs) g ≡ false
none-missed fs [] g among apart = refl
none-missed fs (x ∷ xs) g among apart = go (is_among fs (constant_of x)) refl apart (none-missed fs xs g among)
  where
    other : is_among fs (constant_of x) ≡ false → (b : Bool) → symbol_eq (constant_of x) g ≡ b → b ≡ false
    other gone false e = refl
    other gone true e = let same : constant_of x ≡ g = (Decides-symbol_eq (constant_of x) g).0 e in cc

    go : (c : Bool) → is_among fs (constant_of x) ≡ c → is_among (map constant_of (cond c (x ∷ those_free fs xs) (those_free fs xs))) g ≡ false → (is_among (map constant_of (those_free fs xs)) g ≡ false → is_among (map constant_of xs) g ≡ false) → is_among (map constant_of (x ∷ xs)) g ≡ false
    go true e h below =
        let parts = both_false (symbol_eq (constant_of x) g) (is_among (map constant_of (those_free fs xs)) g) h in
        or_false (symbol_eq (constant_of x) g) (is_among (map constant_of xs) g) parts.0 (below parts.1)
    go false e h below = or_false (symbol_eq (constant_of x) g) (is_among (map constant_of xs) g) (other e (symbol_eq (constant_of x) g) refl) (below h)

fewer-sees : (fs : List Symbol) (xs : List Variable) (g : Symbol) → Sees xs g → Sees (those_free fs xs) g
fewer-sees fs [] g sees = tt
fewer-sees fs (x ∷ xs) g sees = go (is_among fs (constant_of x)) (fewer-sees fs xs g sees.1)
  where
    go : (c : Bool) → Sees (those_free fs xs) g → Sees (cond c (x ∷ those_free fs xs) (those_free fs xs)) g
    go true below = (sees.0, below)
    go false below = below

abbrev names_in : List Variable → List Name
names_in xs = map (λ x. x.name) xs

fewer-names : (fs : List Symbol) (xs : List Variable) (n : Name) → name_among (names_in (those_free fs xs)) n ≡ true → name_among (names_in xs) n ≡ true
fewer-names fs [] n among = among
fewer-names fs (x ∷ xs) n among = go (is_among fs (constant_of x)) among (fewer-names fs xs n)
  where
    first : (name_eq x.name n ≡ true) ⊎ (name_among (names_in (those_free fs xs)) n ≡ true) → (name_among (names_in (those_free fs xs)) n ≡ true → name_among (names_in xs) n ≡ true) → (name_eq x.name n || name_among (names_in xs) n) ≡ true
    first (inl here) below = left_true (name_eq x.name n) (name_among (names_in xs) n) here
    first (inr there) below = right_true (name_eq x.name n) (name_among (names_in xs) n) (below there)

    go : (c : Bool) → name_among (names_in (cond c (x ∷ those_free fs xs) (those_free fs xs))) n ≡ true → (name_among (names_in (those_free fs xs)) n ≡ true → name_among (names_in xs) n ≡ true) → (name_eq x.name n || name_among (names_in xs) n) ≡ true
    go true a below = first (either_true (name_eq x.name n) (name_among (names_in (those_free fs xs)) n) a) below
    go false a below = right_true (name_eq x.name n) (name_among (names_in xs) n) (below a)

quantification-inside : (q : Quantifier) (xs : List Variable) (body b : Term) → Inside body b → Inside (quantified q xs body) (logic.quantification q xs b)
quantification-inside q xs body b i = go (those_free (free b) xs) (none-missed (free b) xs) (fewer-sees (free b) xs) (fewer-names (free b) xs)
  where
    named : (n : Name) → (name_among (names_in xs) n ≡ true) ⊎ (name_among (names_within b) n ≡ true) → NamedIn (names_within (quantified q xs body)) n
    named n (inl here) = in-left (names_in xs) (names_within body) n here
    named n (inr there) = in-right (names_in xs) (names_within body) n (i.names n there)

    go : (ys : List Variable) → ((g : Symbol) → is_among (free b) g ≡ true → is_among (map constant_of ys) g ≡ false → is_among (map constant_of xs) g ≡ false) → ((g : Symbol) → Sees xs g → Sees ys g) → ((n : Name) → name_among (names_in ys) n ≡ true → name_among (names_in xs) n ≡ true) → Inside (quantified q xs body) (logic.over_variables q ys b)
    go [] bound sees names = record {
      symbols = λ g among. to-without xs (free body) g (i.symbols g among) (bound g among refl);
      names = λ n among. named n (inr among);
      clear = λ c. i.clear c.1;
    }
    go (y ∷ ys) bound sees names = record {
      symbols = λ g among. let parts = in-without (y ∷ ys) (free b) g among in to-without xs (free body) g (i.symbols g parts.0) (bound g parts.0 parts.1);
      names = λ n among. named n (either_named n (in-both (names_in (y ∷ ys)) (names_within b) n among));
      clear = λ c. ((λ g among. sees g (c.0 g (i.symbols g among))), i.clear c.1);
    }
      where
        either_named : (n : Name) → (name_among (names_in (y ∷ ys)) n ≡ true) ⊎ (name_among (names_within b) n ≡ true) → (name_among (names_in xs) n ≡ true) ⊎ (name_among (names_within b) n ≡ true)
        either_named n (inl here) = inl (names n here)
        either_named n (inr there) = inr there

-- ---- symbols, names and clearness

mutual
  simp-inside : (t : Term) → Inside t (simp t)
  simp-inside (apply h ts) =
      let fs : List Symbol = free (apply h ts) in
      let ns : List Name = names_within (apply h ts) in
      red-has (Within fs (NamedIn ns) (ClearEach ts)) (operands-within fs (NamedIn ns) (ClearEach ts)) (op-within fs (NamedIn ns) (ClearEach ts)) h (simp_all ts)
      (head-within fs (NamedIn ns) (ClearEach ts) h (simp_all ts)
      (λ g among. (in-first (head_symbols h) (free_of ts) g among, in-left (names_of (head_symbols h)) (names_within_each ts) g.name (among-name (head_symbols h) g among)))
      (all-map (InsideOne ts) (Inside (apply h ts)) (inside-operand h ts) (simp_all ts) (all-inside ts)))
  simp-inside (quantified q xs body) = quantification-inside q xs body (simp body) (simp-inside body)

  all-inside : (ts : Terms) → AllOf (InsideOne ts) (simp_all ts)
  all-inside none = tt
  all-inside (t ⨾ ts) = (inside-first t ts (simp t) (simp-inside t), all-map (InsideOne ts) (InsideOne (t ⨾ ts)) (inside-rest t ts) (simp_all ts) (all-inside ts))

pub simplify-symbols : (t : Term) (g : Symbol) → is_among (free (simp t)) g ≡ true → is_among (free t) g ≡ true
simplify-symbols t = (simp-inside t).symbols

pub simplify-names : (t : Term) (n : Name) → NamedIn (names_within (simp t)) n → NamedIn (names_within t) n
simplify-names t = (simp-inside t).names

pub simplify-clear : (t : Term) → IsWellSorted t → is_clear t ≡ true → is_clear (simp t) ≡ true
simplify-clear t fine =
    let found = the_sort (sort_of t) (both_true (is_some (sort_of t)) (is_regular t) fine).0 in
    stays-clear t (simp t) found.0 found.1 (simp-inside t).symbols (simp-inside t).clear

-- ---- sorts and quantified names

module _ (sorts : Sort → Bool) (names : Name → Bool) where
  abbrev Passing : Term → Type 0
  Passing = IsWithin sorts names

  abbrev pass : List Variable → Bool
  pass xs = list_all (passes sorts names) xs

  fewer-pass : (fs : List Symbol) (xs : List Variable) → pass xs ≡ true → pass (those_free fs xs) ≡ true
  fewer-pass fs [] all = refl
  fewer-pass fs (x ∷ xs) all =
      let parts = both_true (passes sorts names x) (pass xs) all in
      go (is_among fs (constant_of x)) parts.0 (fewer-pass fs xs parts.1)
    where
      go : (c : Bool) → passes sorts names x ≡ true → pass (those_free fs xs) ≡ true → pass (cond c (x ∷ those_free fs xs) (those_free fs xs)) ≡ true
      go true here below = and_true (passes sorts names x) (pass (those_free fs xs)) here below
      go false here below = below

  variables-within : (q : Quantifier) (ys : List Variable) (b : Term) → pass ys ≡ true → Passing b → Passing (logic.over_variables q ys b)
  variables-within q [] b all given = given
  variables-within q (y ∷ ys) b all given = and_true (pass (y ∷ ys)) (all_within sorts names b) all given

  mutual
    pub simplify-within : (t : Term) → IsWithin sorts names t → IsWithin sorts names (simp t)
    simplify-within (apply h ts) given =
        red-has Passing (operands sorts names) (λ o us each. together sorts names us each) h (simp_all ts) (over sorts names h ts (simp_all ts) given (all-within ts (operands sorts names h ts given)))
    simplify-within (quantified q xs body) given =
        let parts = both_true (pass xs) (all_within sorts names body) given in
        variables-within q (those_free (free (simp body)) xs) (simp body) (fewer-pass (free (simp body)) xs parts.0) (simplify-within body parts.1)

    all-within : (ts : Terms) → AllOf Passing ts → AllOf Passing (simp_all ts)
    all-within none each = tt
    all-within (t ⨾ ts) each = (simplify-within t each.0, all-within ts each.1)
