-- The value of a term depends on what the environment gives its free symbols.
use Rattle.std.proofs.Common.{◌≡◌, Bool, true, false, not, cond, ◌&&◌, ◌||◌, List, [], ◌∷◌, map, Some, refl, ap, sym, ◌∙◌}
use Rattle.std.specs.Prelude.{unwrap_or}
use Rattle.smt_terms.specs.Sorts.{Sort, Symbol, Variable}
use Rattle.smt_terms.specs.Term.{Quantifier, Head, op, symbol, const_array, Term, apply, quantified, Terms, none, ◌⨾◌, constant_of}
use Rattle.smt_terms.specs.Equal.{symbol_eq}
use Rattle.smt_terms.specs.Free.{is_among, with_more, without, head_symbols, free, free_of}
use Rattle.smt_terms.specs.Rank.{sorts_of}
use Rattle.smt_terms.specs.Values.{Value, Sizes, is_true, over_values, truth}
use Rattle.smt_terms.specs.Models.{Model, symbol_value}
use Rattle.smt_terms.specs.Val.{Env, assign, runs, head_value, val, vals}
use Rattle.smt_terms.proofs.Tests.{and_true, left_true, right_true}
use Rattle.smt_terms.proofs.Equal.{Decides-symbol_eq}
use Rattle.smt_terms.proofs.Among.{is_among-with_more, is_among-without}

-- two environments give these symbols the same
abbrev pub SameAt : List Symbol → Env → Env → Type 0
SameAt fs d e = (f : Symbol) → is_among fs f ≡ true → d f ≡ e f

pub same_left : (fs gs : List Symbol) (d e : Env) → SameAt (with_more fs gs) d e → SameAt fs d e
same_left fs gs d e same f h = same f (is_among-with_more fs gs f ∙ left_true (is_among fs f) (is_among gs f) h)

pub same_right : (fs gs : List Symbol) (d e : Env) → SameAt (with_more fs gs) d e → SameAt gs d e
same_right fs gs d e same f h = same f (is_among-with_more fs gs f ∙ right_true (is_among fs f) (is_among gs f) h)

pub same_without-none : (fs : List Symbol) (d e : Env) → SameAt (without [] fs) d e → SameAt fs d e
same_without-none fs d e same f h = same f (is_among-without [] fs f ∙ and_true (is_among fs f) true h refl)

-- a symbol that one more variable doesn't bind
pub still_free : (x : Variable) (xs : List Variable) (fs : List Symbol) (f : Symbol) → is_among (without xs fs) f ≡ true → symbol_eq (constant_of x) f ≡ false → is_among (without (x ∷ xs) fs) f ≡ true
still_free x xs fs f among other =
    let before : (is_among fs f && not (is_among (map constant_of xs) f)) ≡ true = sym (is_among-without xs fs f) ∙ among in
    is_among-without (x ∷ xs) fs f ∙ ap (λ b. is_among fs f && not (b || is_among (map constant_of xs) f)) other ∙ before

same_assign : (x : Variable) (xs : List Variable) (fs : List Symbol) (d e : Env) (v : Value) → SameAt (without (x ∷ xs) fs) d e → SameAt (without xs fs) (assign x v d) (assign x v e)
same_assign x xs fs d e v same f h = go (symbol_eq (constant_of x) f) refl
  where
    go : (b : Bool) → symbol_eq (constant_of x) f ≡ b → cond b (Some v) (d f) ≡ cond b (Some v) (e f)
    go true here = refl
    go false other = same f (still_free x xs fs f h other)

runs_same : (q : Quantifier) (xs : List Variable) (fs : List Symbol) (sizes : Sizes) (A : Env → Bool) → ((d e : Env) → SameAt fs d e → A d ≡ A e) → (d e : Env) → SameAt (without xs fs) d e → runs q xs sizes A d ≡ runs q xs sizes A e
runs_same q [] fs sizes A alike d e same = alike d e (same_without-none fs d e same)
runs_same q (x ∷ xs) fs sizes A alike d e same =
    ap (over_values q x.sort sizes) (λ i v. runs_same q xs fs sizes A alike (assign x v d) (assign x v e) (same_assign x xs fs d e v same) i)

head_same : (m : Model) (h : Head) (d e : Env) (ss : List Sort) (vs : List Value) → SameAt (head_symbols h) d e → head_value m d h ss vs ≡ head_value m e h ss vs
head_same m (op o) d e ss vs same = refl
head_same m (symbol f) d e ss [] same = ap (λ v. unwrap_or v (symbol_value m f [])) (same f (left_true (symbol_eq f f) false ((Decides-symbol_eq f f).1 refl)))
head_same m (symbol f) d e ss (v ∷ vs) same = refl
head_same m (const_array s) d e ss vs same = refl

mutual
  pub val_same : (t : Term) (m : Model) (d e : Env) → SameAt (free t) d e → val m t d ≡ val m t e
  val_same (apply h ts) m d e same =
      ap (λ vs. head_value m d h (unwrap_or (sorts_of ts) []) vs) (vals_same ts m d e (same_right (head_symbols h) (free_of ts) d e same))
      ∙ head_same m h d e (unwrap_or (sorts_of ts) []) (vals m ts e) (same_left (head_symbols h) (free_of ts) d e same)
  val_same (quantified q xs t) m d e same =
      ap truth (runs_same q xs (free t) m.sizes (λ g. is_true (val m t g)) (λ f g a. ap is_true (val_same t m f g a)) d e same)

  pub vals_same : (ts : Terms) (m : Model) (d e : Env) → SameAt (free_of ts) d e → vals m ts d ≡ vals m ts e
  vals_same none m d e same = refl
  vals_same (t ⨾ ts) m d e same =
      let first : val m t d ≡ val m t e = val_same t m d e (same_left (free t) (free_of ts) d e same) in
      let rest : vals m ts d ≡ vals m ts e = vals_same ts m d e (same_right (free t) (free_of ts) d e same) in
      λ i. first i ∷ rest i
