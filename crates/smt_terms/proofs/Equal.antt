-- The tests of equality say `true` exactly at equal arguments.
use Rattle.std.proofs.Common.{◌≡◌, ◌≢◌, ℕ, Bool, true, false, ◌&&◌, ◌==◌, ℤ, pos, negsuc, not, if◌then◌else◌, ◌-◌, List, [], ◌∷◌, get_or, refl, ap, sym, ◌∙◌, subst}
use Rattle.std.specs.Bool.{Decides}
use Rattle.std.specs.Ordering.{int_eq}
use Rattle.std.proofs.lemmas.Bool.{false_from_ne_true}
use Rattle.std.proofs.lemmas.Bool.Decides.{Decides-eqb, Decides-int_eq}
use Rattle.std.proofs.lemmas.Slice.Eq.{bytes_eq-Decides, slice_eq-Decides}
use lib.Pointwise.{pointwise}
use Rattle.smt_terms.specs.declared.op.Op.{Op}
use Rattle.smt_terms.specs.declared.op.Op.TheVariants.{Truth, Whole, Bits, Sym, Forall, Exists, ConstArray, Not, And, Or, Xor, Implies, Equal, Distinct, Ite, Neg, Sub, Add, Mul, Div, Mod, Abs, Le, Lt, Concat, Extract, BvNot, BvNeg, BvAnd, BvOr, BvXor, BvAdd, BvMul, BvSub, BvUdiv, BvUrem, BvSdiv, BvSrem, BvSmod, BvShl, BvLshr, BvAshr, BvComp, BvUlt, BvUle, BvSlt, BvSle, ZeroExt, SignExt, RotL, RotR, Select, Store}
use Rattle.smt_terms.specs.Sorts.{Name, Sort, bool, int, bit_vector, array, free_sort, Symbol, Variable}
use Rattle.smt_terms.specs.Term.{Quantifier, universal, existential, Head, op, symbol, const_array, Term, apply, quantified, Terms, none, ◌⨾◌}
use Rattle.smt_terms.specs.Equal.{name_eq, sort_eq, symbol_eq, variable_eq, place, parameters, op_eq, head_eq, quantifier_eq, term_eq, terms_eq}
use Rattle.smt_terms.proofs.Tests.{both_true, and_true}

-- ---- names and sorts

pub Decides-name_eq : (m n : Name) → Decides (name_eq m n) (m ≡ n)
Decides-name_eq = bytes_eq-Decides

pub name_same : (m n : Name) → name_eq m n ≡ true → m ≡ n
name_same m n h = (Decides-name_eq m n).0 h

pub name_itself : (n : Name) → name_eq n n ≡ true
name_itself n = (Decides-name_eq n n).1 refl

pub names_differ : (m n : Name) → m ≢ n → name_eq m n ≡ false
names_differ m n apart = false_from_ne_true (name_eq m n) (λ e. apart (name_same m n e))

sort_same : (s t : Sort) → sort_eq s t ≡ true → s ≡ t
sort_same bool bool h = refl
sort_same int int h = refl
sort_same (bit_vector v) (bit_vector w) h = ap bit_vector ((Decides-eqb v w).0 h)
sort_same (array i e) (array j f) h =
    let parts = both_true (sort_eq i j) (sort_eq e f) h in
    let index : i ≡ j = sort_same i j parts.0 in
    let element : e ≡ f = sort_same e f parts.1 in
    cc
sort_same (free_sort m) (free_sort n) h = ap free_sort ((Decides-name_eq m n).0 h)
sort_same _ _ h = absurd cc

sort_itself : (s : Sort) → sort_eq s s ≡ true
sort_itself bool = refl
sort_itself int = refl
sort_itself (bit_vector w) = (Decides-eqb w w).1 refl
sort_itself (array i e) = and_true (sort_eq i i) (sort_eq e e) (sort_itself i) (sort_itself e)
sort_itself (free_sort n) = (Decides-name_eq n n).1 refl

-- from a test that is true of equal arguments
decided : {A : Type 0} (same : A → A → Bool) → ((a b : A) → same a b ≡ true → a ≡ b) → ((a : A) → same a a ≡ true) → (a b : A) → Decides (same a b) (a ≡ b)
decided same equal itself a b = (equal a b, λ e. subst (λ c. same a c ≡ true) e (itself a))

pub Decides-sort_eq : (s t : Sort) → Decides (sort_eq s t) (s ≡ t)
Decides-sort_eq = decided sort_eq sort_same sort_itself

sorts_decided : (ss ts : List Sort) → Decides (pointwise sort_eq ss ts) (ss ≡ ts)
sorts_decided ss ts = slice_eq-Decides Decides-sort_eq ss ts (pointwise sort_eq ss ts) refl

-- ---- symbols and variables

symbol_same : (f g : Symbol) → symbol_eq f g ≡ true → f ≡ g
symbol_same f g h =
    let all = both_true (name_eq f.name g.name) (pointwise sort_eq f.args g.args && sort_eq f.result g.result) h in
    let rest = both_true (pointwise sort_eq f.args g.args) (sort_eq f.result g.result) all.1 in
    let name : f.name ≡ g.name = (Decides-name_eq f.name g.name).0 all.0 in
    let args : f.args ≡ g.args = (sorts_decided f.args g.args).0 rest.0 in
    let result : f.result ≡ g.result = (Decides-sort_eq f.result g.result).0 rest.1 in
    λ i. record { name = name i; args = args i; result = result i }

pub symbol_itself : (f : Symbol) → symbol_eq f f ≡ true
symbol_itself f =
    and_true (name_eq f.name f.name) (pointwise sort_eq f.args f.args && sort_eq f.result f.result)
    ((Decides-name_eq f.name f.name).1 refl)
    (and_true (pointwise sort_eq f.args f.args) (sort_eq f.result f.result) ((sorts_decided f.args f.args).1 refl) (sort_itself f.result))

pub Decides-symbol_eq : (f g : Symbol) → Decides (symbol_eq f g) (f ≡ g)
Decides-symbol_eq = decided symbol_eq symbol_same symbol_itself

variable_same : (x y : Variable) → variable_eq x y ≡ true → x ≡ y
variable_same x y h =
    let all = both_true (name_eq x.name y.name) (sort_eq x.sort y.sort) h in
    let name : x.name ≡ y.name = (Decides-name_eq x.name y.name).0 all.0 in
    let sort : x.sort ≡ y.sort = (Decides-sort_eq x.sort y.sort).0 all.1 in
    λ i. record { name = name i; sort = sort i }

variable_itself : (x : Variable) → variable_eq x x ≡ true
variable_itself x = and_true (name_eq x.name x.name) (sort_eq x.sort x.sort) ((Decides-name_eq x.name x.name).1 refl) (sort_itself x.sort)

pub Decides-variable_eq : (x y : Variable) → Decides (variable_eq x y) (x ≡ y)
Decides-variable_eq = decided variable_eq variable_same variable_itself

variables_decided : (xs ys : List Variable) → Decides (pointwise variable_eq xs ys) (xs ≡ ys)
variables_decided xs ys = slice_eq-Decides Decides-variable_eq xs ys (pointwise variable_eq xs ys) refl

-- ---- operators: place and parameters tell them apart, since an operator can be made of them again

natural : ℤ → ℕ
natural (pos n) = n
natural (negsuc _) = 0

truth : ℤ → Bool
truth z = not (natural z == 0)

plain : List Op
plain =
    Not ∷ And ∷ Or ∷ Xor ∷ Implies ∷ Equal ∷ Distinct ∷ Ite ∷ Neg ∷ Sub ∷ Add ∷ Mul ∷ Div ∷ Mod ∷ Abs ∷ Le ∷ Lt ∷ Concat ∷ Concat ∷ BvNot ∷ BvNeg ∷ BvAnd ∷ BvOr ∷ BvXor ∷ BvAdd ∷ BvMul ∷ BvSub ∷ BvUdiv ∷ BvUrem ∷ BvSdiv ∷ BvSrem ∷ BvSmod ∷ BvShl ∷ BvLshr ∷ BvAshr ∷ BvComp ∷ BvUlt ∷ BvUle ∷ BvSlt ∷ BvSle ∷ Forall ∷ Exists ∷ Not ∷ Not ∷ Select ∷ Store ∷ []

-- the operator at a place with these parameters
operator : ℕ → ℤ → ℤ → Op
operator k y z =
    if k == 0 then Truth (truth y)
    else if k == 1 then Whole y
    else if k == 2 then Bits (natural y) (natural z)
    else if k == 3 then Sym (record { 0 = natural y })
    else if k == 4 then Forall
    else if k == 5 then Exists
    else if k == 6 then ConstArray (record { 0 = natural y })
    else if k == 25 then Extract (natural y) (natural z)
    else if k == 47 then ZeroExt (natural y)
    else if k == 48 then SignExt (natural y)
    else if k == 49 then RotL (natural y)
    else if k == 50 then RotR (natural y)
    else get_or plain (k - 7) Not

made_again : (p : Op) → operator (place p) (get_or (parameters p) 0 (pos 0)) (get_or (parameters p) 1 (pos 0)) ≡ p
unfolding operator natural truth plain place parameters
made_again (Truth true) = refl
made_again (Truth false) = refl
made_again _ = refl

op_same : (p q : Op) → op_eq p q ≡ true → p ≡ q
unfolding op_eq
op_same p q h =
    let both = both_true (place p == place q) (pointwise int_eq (parameters p) (parameters q)) h in
    let places : place p ≡ place q = (Decides-eqb (place p) (place q)).0 both.0 in
    let numbers : parameters p ≡ parameters q = (slice_eq-Decides Decides-int_eq (parameters p) (parameters q) (pointwise int_eq (parameters p) (parameters q)) refl).0 both.1 in
    let again : operator (place p) (get_or (parameters p) 0 (pos 0)) (get_or (parameters p) 1 (pos 0)) ≡ operator (place q) (get_or (parameters q) 0 (pos 0)) (get_or (parameters q) 1 (pos 0)) =
    λ i. operator (places i) (get_or (numbers i) 0 (pos 0)) (get_or (numbers i) 1 (pos 0)) in
    sym (made_again p) ∙ again ∙ made_again q

op_itself : (p : Op) → op_eq p p ≡ true
unfolding op_eq
op_itself p = and_true (place p == place p) (pointwise int_eq (parameters p) (parameters p)) ((Decides-eqb (place p) (place p)).1 refl) ((slice_eq-Decides Decides-int_eq (parameters p) (parameters p) (pointwise int_eq (parameters p) (parameters p)) refl).1 refl)

pub Decides-op_eq : (p q : Op) → Decides (op_eq p q) (p ≡ q)
Decides-op_eq = decided op_eq op_same op_itself

-- ---- terms

head_same : (g h : Head) → head_eq g h ≡ true → g ≡ h
head_same (op p) (op q) e = ap op ((Decides-op_eq p q).0 e)
head_same (symbol f) (symbol g) e = ap symbol ((Decides-symbol_eq f g).0 e)
head_same (const_array s) (const_array t) e = ap const_array ((Decides-sort_eq s t).0 e)
head_same _ _ e = absurd cc

head_itself : (h : Head) → head_eq h h ≡ true
head_itself (op p) = op_itself p
head_itself (symbol f) = symbol_itself f
head_itself (const_array s) = sort_itself s

pub Decides-head_eq : (g h : Head) → Decides (head_eq g h) (g ≡ h)
Decides-head_eq = decided head_eq head_same head_itself

quantifier_same : (p q : Quantifier) → quantifier_eq p q ≡ true → p ≡ q
quantifier_same universal universal e = refl
quantifier_same existential existential e = refl
quantifier_same _ _ e = absurd cc

quantifier_itself : (q : Quantifier) → quantifier_eq q q ≡ true
quantifier_itself universal = refl
quantifier_itself existential = refl

mutual
  term_same : (t u : Term) → term_eq t u ≡ true → t ≡ u
  term_same (apply g ts) (apply h us) e =
      let parts = both_true (head_eq g h) (terms_eq ts us) e in
      let heads : g ≡ h = head_same g h parts.0 in
      let operands : ts ≡ us = terms_same ts us parts.1 in
      cc
  term_same (quantified p xs t) (quantified q ys u) e =
      let parts = both_true (quantifier_eq p q) (pointwise variable_eq xs ys && term_eq t u) e in
      let rest = both_true (pointwise variable_eq xs ys) (term_eq t u) parts.1 in
      let kinds : p ≡ q = quantifier_same p q parts.0 in
      let names : xs ≡ ys = (variables_decided xs ys).0 rest.0 in
      let bodies : t ≡ u = term_same t u rest.1 in
      cc
  term_same _ _ e = absurd cc

  terms_same : (ts us : Terms) → terms_eq ts us ≡ true → ts ≡ us
  terms_same none none e = refl
  terms_same (t ⨾ ts) (u ⨾ us) e =
      let parts = both_true (term_eq t u) (terms_eq ts us) e in
      let firsts : t ≡ u = term_same t u parts.0 in
      let others : ts ≡ us = terms_same ts us parts.1 in
      cc
  terms_same _ _ e = absurd cc

mutual
  term_itself : (t : Term) → term_eq t t ≡ true
  term_itself (apply h ts) = and_true (head_eq h h) (terms_eq ts ts) (head_itself h) (terms_itself ts)
  term_itself (quantified q xs t) =
      and_true (quantifier_eq q q) (pointwise variable_eq xs xs && term_eq t t) (quantifier_itself q)
      (and_true (pointwise variable_eq xs xs) (term_eq t t) ((variables_decided xs xs).1 refl) (term_itself t))

  terms_itself : (ts : Terms) → terms_eq ts ts ≡ true
  terms_itself none = refl
  terms_itself (t ⨾ ts) = and_true (term_eq t t) (terms_eq ts ts) (term_itself t) (terms_itself ts)

pub Decides-term_eq : (t u : Term) → Decides (term_eq t u) (t ≡ u)
Decides-term_eq = decided term_eq term_same term_itself

pub Decides-terms_eq : (ts us : Terms) → Decides (terms_eq ts us) (ts ≡ us)
Decides-terms_eq = decided terms_eq terms_same terms_itself
