-- The value of a term depends on its free symbols alone.
use Rattle.std.proofs.Common.{◌≡◌, suc, Bool, true, false, not, cond, ◌&&◌, ◌||◌, inl, inr, List, [], ◌∷◌, map, length, Some, refl, ap, sym, ◌∙◌, arith}
use Rattle.std.specs.Prelude.{unwrap_or}
use Rattle.smt_terms.specs.Sorts.{Sort, Symbol, Variable}
use Rattle.smt_terms.specs.Term.{Quantifier, Head, op, symbol, const_array, Term, apply, quantified, Terms, none, ◌⨾◌, list, constant_of}
use Rattle.smt_terms.specs.Equal.{symbol_eq}
use Rattle.smt_terms.specs.Free.{is_among, without, head_symbols, free, free_of}
use Rattle.smt_terms.specs.Rank.{sort_of, sorts_of}
use Rattle.smt_terms.specs.Operators.{Background, op_value, first_value}
use Rattle.smt_terms.specs.Values.{Value, table, no_pairs, Sizes, is_true, over_values, truth}
use Rattle.smt_terms.specs.Models.{Model, symbol_value}
use Rattle.smt_terms.specs.Val.{Env, assign, runs, head_value, val, vals}
use Rattle.smt_terms.specs.Laws.{symbol_at, AgreeOn}
use Rattle.smt_terms.proofs.Tests.{true_or_false, and_true, left_true, right_true}
use Rattle.smt_terms.proofs.Equal.{Decides-symbol_eq}
use Rattle.smt_terms.proofs.Among.{is_among-with_more, is_among-without}
use Rattle.smt_terms.proofs.Ranked.{rank-takes}
use Rattle.smt_terms.proofs.Sorted.{applied, sorted, length-sorts_of, quantified_sort}

pub length-vals : (m : Model) (ts : Terms) (e : Env) → length (vals m ts e) ≡ length (list ts)
length-vals m none e = refl
length-vals m (t ⨾ ts) e = ap suc (length-vals m ts e)

-- the operands' sorts make no difference to a symbol
pub symbol_at-sorts : (m : Model) (e : Env) (f : Symbol) (ss : List Sort) (vs : List Value) → head_value m e (symbol f) ss vs ≡ symbol_at m e f vs
symbol_at-sorts m e f ss [] = refl
symbol_at-sorts m e f ss (v ∷ vs) = refl

-- fewer symbols
pub AgreeOn-fewer : (fs gs : List Symbol) (m n : Model) (d e : Env) → ((f : Symbol) → is_among gs f ≡ true → is_among fs f ≡ true) → AgreeOn fs m n d e → AgreeOn gs m n d e
AgreeOn-fewer fs gs m n d e fewer agree = record {
  backgrounds = agree.backgrounds;
  symbols = λ f among vs len. agree.symbols f (fewer f among) vs len;
}

-- ---- one variable more

at_other : (m : Model) (x : Variable) (v : Value) (e : Env) (f : Symbol) (vs : List Value) → symbol_eq (constant_of x) f ≡ false → symbol_at m (assign x v e) f vs ≡ symbol_at m e f vs
at_other m x v e f [] other = ap (λ b. unwrap_or (cond b (Some v) (e f)) (symbol_value m f [])) other
at_other m x v e f (w ∷ vs) other = refl

at_itself : (m : Model) (x : Variable) (v : Value) (e : Env) (f : Symbol) (vs : List Value) → symbol_eq (constant_of x) f ≡ true → length vs ≡ length f.args → symbol_at m (assign x v e) f vs ≡ v
at_itself m x v e f [] here len = ap (λ b. unwrap_or (cond b (Some v) (e f)) (symbol_value m f [])) here
at_itself m x v e f (w ∷ vs) here len =
    let same : constant_of x ≡ f = (Decides-symbol_eq (constant_of x) f).0 here in
    let empty : length f.args ≡ 0 = sym (ap (λ (g : Symbol). length g.args) same) in
    absurd (omega arith)

agree_assign : (x : Variable) (xs : List Variable) (fs : List Symbol) (m n : Model) (d e : Env) (v : Value) → AgreeOn (without (x ∷ xs) fs) m n d e → AgreeOn (without xs fs) m n (assign x v d) (assign x v e)
agree_assign x xs fs m n d e v agree = record {
  backgrounds = agree.backgrounds;
  symbols = λ f among vs len. elim (true_or_false (symbol_eq (constant_of x) f)) [
    | inl here ↦ at_itself m x v d f vs here len ∙ sym (at_itself n x v e f vs here len)
    | inr other ↦ at_other m x v d f vs other ∙ agree.symbols f (still f among other) vs len ∙ sym (at_other n x v e f vs other)
  ];
}
  where
    still : (f : Symbol) → is_among (without xs fs) f ≡ true → symbol_eq (constant_of x) f ≡ false → is_among (without (x ∷ xs) fs) f ≡ true
    still f among other =
        let before : (is_among fs f && not (is_among (map constant_of xs) f)) ≡ true = sym (is_among-without xs fs f) ∙ among in
        is_among-without (x ∷ xs) fs f ∙ ap (λ b. is_among fs f && not (b || is_among (map constant_of xs) f)) other ∙ before

runs_agree : (q : Quantifier) (xs : List Variable) (fs : List Symbol) (m n : Model) (sizes : Sizes) (A B : Env → Bool) → ((d e : Env) → AgreeOn fs m n d e → A d ≡ B e) → (d e : Env) → AgreeOn (without xs fs) m n d e → runs q xs sizes A d ≡ runs q xs sizes B e
runs_agree q [] fs m n sizes A B alike d e agree =
    alike d e (AgreeOn-fewer (without [] fs) fs m n d e (λ f among. is_among-without [] fs f ∙ and_true (is_among fs f) true among refl) agree)
runs_agree q (x ∷ xs) fs m n sizes A B alike d e agree =
    ap (over_values q x.sort sizes) (λ i v. runs_agree q xs fs m n sizes A B alike (assign x v d) (assign x v e) (agree_assign x xs fs m n d e v agree) i)

-- ---- the law

below : (h : Head) (ts : Terms) (m n : Model) (d e : Env) → AgreeOn (free (apply h ts)) m n d e → AgreeOn (free_of ts) m n d e
below h ts m n d e = AgreeOn-fewer (free (apply h ts)) (free_of ts) m n d e (λ f among. is_among-with_more (head_symbols h) (free_of ts) f ∙ right_true (is_among (head_symbols h) f) (is_among (free_of ts) f) among)

mutual
  pub val_agrees : (t : Term) (s : Sort) (m n : Model) (d e : Env) → sort_of t ≡ Some s → AgreeOn (free t) m n d e → val m t d ≡ val n t e
  val_agrees (apply (op o) ts) s m n d e has agree =
      let parts = applied (op o) ts s has in
      let values : vals m ts d ≡ vals n ts e = vals_agree ts parts.sorts m n d e parts.operands (below (op o) ts m n d e agree) in
      λ i. op_value (agree.backgrounds i) o (unwrap_or (sorts_of ts) []) (values i)
  val_agrees (apply (symbol f) ts) s m n d e has agree =
      let parts = applied (symbol f) ts s has in
      let values : vals m ts d ≡ vals n ts e = vals_agree ts parts.sorts m n d e parts.operands (below (symbol f) ts m n d e agree) in
      let args : parts.sorts ≡ f.args = (rank-takes (symbol f) parts.sorts s parts.rank).0 in
      let number : length (vals n ts e) ≡ length f.args = length-vals n ts e ∙ sym (length-sorts_of ts parts.sorts parts.operands) ∙ ap length args in
      symbol_at-sorts m d f (unwrap_or (sorts_of ts) []) (vals m ts d)
      ∙ ap (symbol_at m d f) values
      ∙ agree.symbols f (is_among-with_more (f ∷ []) (free_of ts) f ∙ left_true (symbol_eq f f || false) (is_among (free_of ts) f) (left_true (symbol_eq f f) false ((Decides-symbol_eq f f).1 refl))) (vals n ts e) number
      ∙ sym (symbol_at-sorts n e f (unwrap_or (sorts_of ts) []) (vals n ts e))
  val_agrees (apply (const_array r) ts) s m n d e has agree =
      let parts = applied (const_array r) ts s has in
      let values : vals m ts d ≡ vals n ts e = vals_agree ts parts.sorts m n d e parts.operands (below (const_array r) ts m n d e agree) in
      ap (λ vs. table (first_value vs) no_pairs) values
  val_agrees (quantified q xs t) s m n d e has agree =
      let quantified = quantified_sort q xs t s has in
      let sizes : m.sizes ≡ n.sizes = ap (λ (b : Background). b.sizes) agree.backgrounds in
      ap (λ z. truth (runs q xs z (λ g. is_true (val m t g)) d)) sizes
      ∙ ap truth (runs_agree q xs (free t) m n n.sizes (λ g. is_true (val m t g)) (λ g. is_true (val n t g)) (λ f g a. ap is_true (val_agrees t _ m n f g quantified.body a)) d e agree)

  pub vals_agree : (ts : Terms) (ss : List Sort) (m n : Model) (d e : Env) → sorts_of ts ≡ Some ss → AgreeOn (free_of ts) m n d e → vals m ts d ≡ vals n ts e
  vals_agree none ss m n d e has agree = refl
  vals_agree (t ⨾ ts) ss m n d e has agree =
      let parts = sorted t ts ss has in
      let first : val m t d ≡ val n t e = val_agrees t parts.sort m n d e parts.first (AgreeOn-fewer (free_of (t ⨾ ts)) (free t) m n d e (λ f among. is_among-with_more (free t) (free_of ts) f ∙ left_true (is_among (free t) f) (is_among (free_of ts) f) among) agree) in
      let rest : vals m ts d ≡ vals n ts e = vals_agree ts parts.sorts m n d e parts.others (AgreeOn-fewer (free_of (t ⨾ ts)) (free_of ts) m n d e (λ f among. is_among-with_more (free t) (free_of ts) f ∙ right_true (is_among (free t) f) (is_among (free_of ts) f) among) agree) in
      λ i. first i ∷ rest i
