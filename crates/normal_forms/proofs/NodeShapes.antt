-- The kinds of terms, from the sorts of their operands.
use Rattle.std.proofs.Common.{◌≡◌, ℕ, zero, suc, ◌<◌, ◌↔◌, Bool, true, false, cond, IsTrue, List, [], ◌∷◌, length, get_or, replicate, All, Some, refl, ap, sym, ◌∙◌, subst, arith}
use Rattle.std.proofs.lemmas.List.Elements.{All-cons}
use Rattle.smt_terms.specs.declared.op.Op.TheVariants.{Ite}
use Rattle.smt_terms.specs.Connectives.{Kind, conditional, atom, where_bool, where_branch_bool, operator_kind}
use Rattle.smt_terms.specs.Sorts.{Sort, bool, int, bit_vector, array, free_sort}
use Rattle.smt_terms.specs.Term.{op, Term, apply, quantified, Terms, none, ◌⨾◌, list, terms, over}
use Rattle.smt_terms.specs.Rank.{shape, sort_of, sorts_of}
use Rattle.smt_terms.proofs.Connected.{Count, Connected, connected, is_logical}
use Rattle.smt_terms.proofs.Ranked.{rank-takes}
use Rattle.smt_terms.proofs.Sorted.{applied, sorted}
use Rattle.term_table.specs.Formulas.{no_tree, operands}
use Rattle.normal_forms.specs.declared.connective.Connective.{Connective}
use Rattle.normal_forms.specs.declared.connective.Connective.TheVariants.{Not, And, Or, Xor, Implies, Equal, Distinct, Ite as IteConnective}
use Rattle.normal_forms.specs.Shape.{term_kind, kind_seen, IsOfKind, Takes}
use Rattle.term_walk.specs.Binders.{is_quantified}

pub terms-list : (ts : Terms) → terms (list ts) ≡ ts
terms-list none = refl
terms-list (t ⨾ ts) = ap (λ us. t ⨾ us) (terms-list ts)

by_sort : (s : Sort) (ss : List Sort) (b : Bool) (k : Kind) → (IsTrue b ↔ (Some s ≡ Some bool)) → where_bool (Some (s ∷ ss)) k ≡ cond b k atom
by_sort bool ss true k iff = refl
by_sort bool ss false k iff = let h : false ≡ true = iff.1 refl in absurd cc
by_sort int ss false k iff = refl
by_sort (bit_vector w) ss false k iff = refl
by_sort (array i e) ss false k iff = refl
by_sort (free_sort n) ss false k iff = refl
by_sort int ss true k iff = let h : Some int ≡ Some bool = iff.0 refl in absurd cc
by_sort (bit_vector w) ss true k iff = let h : Some (bit_vector w) ≡ Some bool = iff.0 refl in absurd cc
by_sort (array i e) ss true k iff = let h : Some (array i e) ≡ Some bool = iff.0 refl in absurd cc
by_sort (free_sort n) ss true k iff = let h : Some (free_sort n) ≡ Some bool = iff.0 refl in absurd cc

pub where-first : (t u : Term) (b : Bool) (k : Kind) → sort_of t ≡ Some bool → is_quantified t ≡ false → 0 < length (operands t) → get_or (operands t) 0 no_tree ≡ u → (IsTrue b ↔ (sort_of u ≡ Some bool)) → where_bool (sorts_of (terms (operands t))) k ≡ cond b k atom
where-first (quantified q xs body) u b k has plain some first iff = absurd cc
where-first (apply h none) u b k has plain some first iff = absurd (omega arith)
where-first (apply h (v ⨾ vs)) u b k has plain some first iff =
    let a = applied h (v ⨾ vs) bool has in
    let parts = sorted v vs a.sorts a.operands in
    let seen : sorts_of (terms (list (v ⨾ vs))) ≡ Some (parts.sort ∷ parts.sorts) = ap sorts_of (terms-list (v ⨾ vs)) ∙ a.operands ∙ ap Some parts.all in
    let iff_sort : IsTrue b ↔ (Some parts.sort ≡ Some bool) = subst (λ o. IsTrue b ↔ (o ≡ Some bool)) (ap sort_of (sym first) ∙ parts.first) iff in
    ap (λ o. where_bool o k) seen ∙ by_sort parts.sort parts.sorts b k iff_sort

-- a choice of sort Bool is one between formulas
pub choice-kind : (t : Term) (us : List Term) → t ≡ over (op Ite) us → sort_of t ≡ Some bool → IsOfKind t conditional
unfolding shape operator_kind
choice-kind t us e has =
    let a = applied (op Ite) (terms us) bool (ap sort_of (sym e) ∙ has) in
    let takes = rank-takes (op Ite) a.sorts bool a.rank in
    (ap is_quantified e, ap term_kind e ∙ ap (λ o. where_branch_bool o conditional) (a.operands ∙ ap Some takes.1 ∙ ap (λ s. Some (bool ∷ s ∷ s ∷ [])) (sym takes.2)))

-- ---- the operands of a connective are formulas, as many as it may have

pub record AreOperands (t : Term) (c : Connective) : Type 0 where
  pub formulas : All (λ u. sort_of u ≡ Some bool) (operands t)
  pub number : Takes c (length (operands t))

each-bool : (ts : Terms) (n : ℕ) → sorts_of ts ≡ Some (replicate n bool) → All (λ u. sort_of u ≡ Some bool) (list ts) × (length (list ts) ≡ n)
each-bool none zero e = (λ i d lt. absurd (omega arith), refl)
each-bool none (suc n) e = absurd cc
each-bool (t ⨾ ts) zero e = let parts = sorted t ts [] e in let no : [] ≡ parts.sort ∷ parts.sorts = parts.all in absurd cc
each-bool (t ⨾ ts) (suc n) e =
    let parts = sorted t ts (bool ∷ replicate n bool) e in
    let first : parts.sort ≡ bool = let all : bool ∷ replicate n bool ≡ parts.sort ∷ parts.sorts = parts.all in cc in
    let others : parts.sorts ≡ replicate n bool = let all : bool ∷ replicate n bool ≡ parts.sort ∷ parts.sorts = parts.all in cc in
    let rest = each-bool ts n (parts.others ∙ ap Some others) in
    let count : length (list ts) ≡ n = rest.1 in
    (All-cons (λ u. sort_of u ≡ Some bool) t (list ts) (parts.first ∙ ap Some first) rest.0, ap suc count)

connective-logical : (c : Connective) → is_logical (kind_seen c) ≡ true
connective-logical Not = refl
connective-logical And = refl
connective-logical Or = refl
connective-logical Xor = refl
connective-logical Implies = refl
connective-logical Equal = refl
connective-logical Distinct = refl
connective-logical IteConnective = refl

count-takes : (c : Connective) (n : ℕ) → Count (kind_seen c) n → Takes c n
count-takes Not n h = h
count-takes And n h = h
count-takes Or n h = h
count-takes Xor n h = h
count-takes Implies n h = h
count-takes Equal n h = h
count-takes Distinct n h = h
count-takes IteConnective n h = h

pub connective-operands : (t : Term) (c : Connective) → sort_of t ≡ Some bool → IsOfKind t (kind_seen c) → AreOperands t c
connective-operands (quantified q xs body) c has kind = let h = kind.0 in absurd cc
connective-operands (apply h ts) c has kind =
    let r : Connected h ts bool = connected h ts bool has (ap is_logical kind.1 ∙ connective-logical c) in
    let each = each-bool ts r.number r.sorts in
    record {
      formulas = each.0;
      number = subst (Takes c) (sym each.1) (count-takes c r.number (subst (λ k. Count k r.number) kind.1 r.count));
    }
