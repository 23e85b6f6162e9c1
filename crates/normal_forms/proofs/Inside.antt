-- Terms that are made of what stands in another: no other free symbols, no other names, and clear where it is.
use Rattle.std.proofs.Common.{◌≡◌, ℕ, Bool, true, false, not, ◌⊎◌, inl, inr, List, [], ◌∷◌, ◌++◌, map, refl, sym, ◌∙◌, subst}
use Rattle.smt_terms.specs.declared.op.Op.{Op}
use Rattle.smt_terms.specs.declared.op.Op.TheVariants.{Truth, Not, And, Or}
use Rattle.smt_terms.specs.Sorts.{Name, Symbol, Variable}
use Rattle.smt_terms.specs.Term.{Quantifier, Head, op, symbol, const_array, Term, apply, quantified, Terms, none, ◌⨾◌, terms}
use Rattle.smt_terms.specs.Equal.{name_eq, symbol_eq}
use Rattle.smt_terms.specs.Free.{is_among, name_among, names_of, head_symbols, free, free_of}
use Rattle.smt_terms.specs.SubstLaws.{names_within, names_within_each}
use Rattle.smt_terms.specs.Connectives.{Kind, truth_value, negation, conjunction, disjunction, exclusive, implication, equivalence, difference, conditional, atom, kind_of, truth_term, negated, all_of, both, either, opposite, nth}
use Rattle.smt_terms.proofs.Tests.{either_true, left_true, right_true}
use Rattle.smt_terms.proofs.Equal.{Decides-name_eq, Decides-symbol_eq}
use Rattle.smt_terms.proofs.Cuts.{name_among-append}
use Rattle.normal_forms.specs.Nnf.{differ, agree, positive_distinct, negative_distinct, positive, negative, dual, nnf, nnf_not, nnf_each, nnf_not_each}
use Rattle.normal_forms.specs.Aig.{same_sides, aig_distinct, inverted, aig, aig_each}
use Rattle.normal_forms.proofs.Inherited.{All, AllOf, nth-inherits}
use Rattle.normal_forms.proofs.Clear.{Clear, ClearEach, in-more, in-first, in-second, in-without, to-without}

-- ---- names of two parts

pub in-left : (ms ns : List Name) (n : Name) → name_among ms n ≡ true → name_among (ms ++ ns) n ≡ true
in-left ms ns n among = name_among-append ms ns n ∙ left_true (name_among ms n) (name_among ns n) among

pub in-right : (ms ns : List Name) (n : Name) → name_among ns n ≡ true → name_among (ms ++ ns) n ≡ true
in-right ms ns n among = name_among-append ms ns n ∙ right_true (name_among ms n) (name_among ns n) among

pub in-both : (ms ns : List Name) (n : Name) → name_among (ms ++ ns) n ≡ true → (name_among ms n ≡ true) ⊎ (name_among ns n ≡ true)
in-both ms ns n among = either_true (name_among ms n) (name_among ns n) (sym (name_among-append ms ns n) ∙ among)

-- ---- what stands within a term

-- no free symbols but these, no names but such, and clear where C holds
pub record Within (fs : List Symbol) (N : Name → Type 0) (C : Type 0) (r : Term) : Type 0 where
  pub symbols : (g : Symbol) → is_among (free r) g ≡ true → is_among fs g ≡ true
  pub names : (n : Name) → name_among (names_within r) n ≡ true → N n
  pub clear : C → Clear r

abbrev pub NamedIn : List Name → Name → Type 0
NamedIn ns n = name_among ns n ≡ true

abbrev pub Inside : Term → Term → Type 0
Inside t r = Within (free t) (NamedIn (names_within t)) (Clear t) r

pub inside-itself : (t : Term) → Inside t t
inside-itself t = record { symbols = λ g among. among; names = λ n among. among; clear = λ c. c }

pub wider : (fs gs : List Symbol) (M N : Name → Type 0) (C D : Type 0) (r : Term) → ((g : Symbol) → is_among fs g ≡ true → is_among gs g ≡ true) → ((n : Name) → M n → N n) → (D → C) → Within fs M C r → Within gs N D r
wider fs gs M N C D r symbols names clear i = record {
  symbols = λ g among. symbols g (i.symbols g among);
  names = λ n among. names n (i.names n among);
  clear = λ d. i.clear (clear d);
}

-- ---- operands and bodies

-- inside one of these operands
abbrev pub InsideOne : Terms → Term → Type 0
InsideOne ts r = Within (free_of ts) (NamedIn (names_within_each ts)) (ClearEach ts) r

pub inside-first : (t : Term) (ts : Terms) (r : Term) → Inside t r → InsideOne (t ⨾ ts) r
inside-first t ts r i = wider (free t) (free_of (t ⨾ ts)) (NamedIn (names_within t)) (NamedIn (names_within_each (t ⨾ ts))) (Clear t) (ClearEach (t ⨾ ts)) r (in-first (free t) (free_of ts)) (in-left (names_within t) (names_within_each ts)) (λ c. c.0) i

pub inside-rest : (t : Term) (ts : Terms) (r : Term) → InsideOne ts r → InsideOne (t ⨾ ts) r
inside-rest t ts r i = wider (free_of ts) (free_of (t ⨾ ts)) (NamedIn (names_within_each ts)) (NamedIn (names_within_each (t ⨾ ts))) (ClearEach ts) (ClearEach (t ⨾ ts)) r (in-second (free t) (free_of ts)) (in-right (names_within t) (names_within_each ts)) (λ c. c.1) i

pub inside-operand : (h : Head) (ts : Terms) (r : Term) → InsideOne ts r → Inside (apply h ts) r
inside-operand h ts r i = wider (free_of ts) (free (apply h ts)) (NamedIn (names_within_each ts)) (NamedIn (names_within (apply h ts))) (ClearEach ts) (Clear (apply h ts)) r (in-second (head_symbols h) (free_of ts)) (in-right (names_of (head_symbols h)) (names_within_each ts)) (λ c. c) i

pub all-map : (P Q : Term → Type 0) → ((r : Term) → P r → Q r) → (rs : List Term) → All P rs → All Q rs
all-map P Q step [] all = tt
all-map P Q step (r ∷ rs) all = (step r all.0, all-map P Q step rs all.1)

-- a quantifier over the same variables
pub inside-body : (q p : Quantifier) (xs : List Variable) (body b : Term) → Inside body b → Inside (quantified q xs body) (quantified p xs b)
inside-body q p xs body b i = record {
  symbols = λ g among. let parts = in-without xs (free b) g among in to-without xs (free body) g (i.symbols g parts.0) parts.1;
  names = λ n among. go n (in-both (map (λ x. x.name) xs) (names_within b) n among);
  clear = λ c. ((λ g among. c.0 g (i.symbols g among)), i.clear c.1);
}
  where
    go : (n : Name) → (name_among (map (λ x. x.name) xs) n ≡ true) ⊎ (name_among (names_within b) n ≡ true) → name_among (names_within (quantified q xs body)) n ≡ true
    go n (inl here) = in-left (map (λ x. x.name) xs) (names_within body) n here
    go n (inr there) = in-right (map (λ x. x.name) xs) (names_within body) n (i.names n there)

-- ---- heads and operators

named-head : (h : Head) (n : Name) → name_among (names_of (head_symbols h)) n ≡ true → (g : Symbol) × (is_among (head_symbols h) g ≡ true) × (g.name ≡ n)
named-head (op o) n among = absurd cc
named-head (const_array s) n among = absurd cc
named-head (symbol f) n among = (f, left_true (symbol_eq f f) false ((Decides-symbol_eq f f).1 refl), go (either_true (name_eq f.name n) false among))
  where
    go : (name_eq f.name n ≡ true) ⊎ (false ≡ true) → f.name ≡ n
    go (inl here) = (Decides-name_eq f.name n).0 here
    go (inr never) = absurd cc

module _ (fs : List Symbol) (N : Name → Type 0) (C : Type 0) where
  abbrev P : Term → Type 0
  P = Within fs N C

  each-symbols : (us : Terms) → AllOf P us → (g : Symbol) → is_among (free_of us) g ≡ true → is_among fs g ≡ true
  each-symbols none all g among = absurd cc
  each-symbols (u ⨾ us) all g among = go (in-more (free u) (free_of us) g among) (each-symbols us all.1 g)
    where
      go : (is_among (free u) g ≡ true) ⊎ (is_among (free_of us) g ≡ true) → (is_among (free_of us) g ≡ true → is_among fs g ≡ true) → is_among fs g ≡ true
      go (inl here) below = all.0.symbols g here
      go (inr there) below = below there

  each-names : (us : Terms) → AllOf P us → (n : Name) → name_among (names_within_each us) n ≡ true → N n
  each-names none all n among = absurd cc
  each-names (u ⨾ us) all n among = go (in-both (names_within u) (names_within_each us) n among) (each-names us all.1 n)
    where
      go : (name_among (names_within u) n ≡ true) ⊎ (name_among (names_within_each us) n ≡ true) → (name_among (names_within_each us) n ≡ true → N n) → N n
      go (inl here) below = all.0.names n here
      go (inr there) below = below there

  each-clear : (us : Terms) → AllOf P us → C → ClearEach us
  each-clear none all c = tt
  each-clear (u ⨾ us) all c = (all.0.clear c, each-clear us all.1 c)

  pub head-within : (h : Head) (us : Terms) → ((g : Symbol) → is_among (head_symbols h) g ≡ true → (is_among fs g ≡ true) × N g.name) → AllOf P us → P (apply h us)
  head-within h us head all = record {
    symbols = λ g among. symbol g (in-more (head_symbols h) (free_of us) g among);
    names = λ n among. name n (in-both (names_of (head_symbols h)) (names_within_each us) n among);
    clear = each-clear us all;
  }
    where
      symbol : (g : Symbol) → (is_among (head_symbols h) g ≡ true) ⊎ (is_among (free_of us) g ≡ true) → is_among fs g ≡ true
      symbol g (inl here) = (head g here).0
      symbol g (inr there) = each-symbols us all g there

      name : (n : Name) → (name_among (names_of (head_symbols h)) n ≡ true) ⊎ (name_among (names_within_each us) n ≡ true) → N n
      name n (inl here) = let found = named-head h n here in subst N found.2 (head found.0 found.1).1
      name n (inr there) = each-names us all n there

  pub op-within : (o : Op) (us : Terms) → AllOf P us → P (apply (op o) us)
  op-within o us all = head-within (op o) us (λ g among. absurd cc) all

  under : (o : Op) (u : Term) → P (apply (op o) (u ⨾ none)) → P u
  under o u p = record {
    symbols = λ g among. p.symbols g (in-second [] (free_of (u ⨾ none)) g (in-first (free u) [] g among));
    names = λ n among. p.names n (in-left (names_within u) [] n among);
    clear = λ c. (p.clear c).0;
  }

  listed : (rs : List Term) → All P rs → AllOf P (terms rs)
  listed [] all = tt
  listed (r ∷ rs) all = (all.0, listed rs all.1)

  truths : (b : Bool) → P (truth_term b)
  truths b = op-within (Truth b) none tt

  and : (s t : Term) → P s → P t → P (both s t)
  and s t a b = op-within And (s ⨾ t ⨾ none) (a, (b, tt))

  or : (s t : Term) → P s → P t → P (either s t)
  or s t a b = op-within Or (s ⨾ t ⨾ none) (a, (b, tt))

  place : (rs : List Term) (i : ℕ) → All P rs → P (nth rs i)
  place = nth-inherits P (truths false)

  -- ---- the lines of negation normal form

  differ-within : (ps qs : List Term) → All P ps → All P qs → P (differ ps qs)
  differ-within ps qs a b = or (both (nth ps 0) (nth qs 1)) (both (nth qs 0) (nth ps 1)) (and (nth ps 0) (nth qs 1) (place ps 0 a) (place qs 1 b)) (and (nth qs 0) (nth ps 1) (place qs 0 b) (place ps 1 a))

  agree-within : (ps qs : List Term) → All P ps → All P qs → P (agree ps qs)
  agree-within ps qs a b = and (either (nth qs 0) (nth ps 1)) (either (nth ps 0) (nth qs 1)) (or (nth qs 0) (nth ps 1) (place qs 0 b) (place ps 1 a)) (or (nth ps 0) (nth qs 1) (place ps 0 a) (place qs 1 b))

  distinct-within : (ps qs : List Term) → All P ps → All P qs → P (positive_distinct ps qs) × P (negative_distinct ps qs)
  distinct-within [] qs a b = (differ-within [] qs a b, agree-within [] qs a b)
  distinct-within (p ∷ []) qs a b = (differ-within (p ∷ []) qs a b, agree-within (p ∷ []) qs a b)
  distinct-within (p ∷ q ∷ []) qs a b = (differ-within (p ∷ q ∷ []) qs a b, agree-within (p ∷ q ∷ []) qs a b)
  distinct-within (p ∷ q ∷ r ∷ ps) qs a b = (truths false, truths true)

  either-branch : (c a b : Term) → P c → P a → P b → (d : Term) → P d → P (both (either c a) (either d b))
  either-branch c a b pc pa pb d pd = and (either c a) (either d b) (or c a pc pa) (or d b pd pb)

  pub forms-within : (k : Kind) (t : Term) (ps qs : List Term) → P t → All P ps → All P qs → P (positive k t ps qs) × P (negative k t ps qs)
  forms-within (truth_value v) t ps qs p a b = (p, truths (not v))
  forms-within atom t ps qs p a b = (p, op-within Not (t ⨾ none) (p, tt))
  forms-within negation t ps qs p a b = (place qs 0 b, place ps 0 a)
  forms-within conjunction t ps qs p a b = (op-within And (terms ps) (listed ps a), op-within Or (terms qs) (listed qs b))
  forms-within disjunction t ps qs p a b = (op-within Or (terms ps) (listed ps a), op-within And (terms qs) (listed qs b))
  forms-within implication t ps qs p a b = (or (nth qs 0) (nth ps 1) (place qs 0 b) (place ps 1 a), and (nth ps 0) (nth qs 1) (place ps 0 a) (place qs 1 b))
  forms-within exclusive t ps qs p a b = (differ-within ps qs a b, agree-within ps qs a b)
  forms-within equivalence t ps qs p a b = (agree-within ps qs a b, differ-within ps qs a b)
  forms-within difference t ps qs p a b = distinct-within ps qs a b
  forms-within conditional t ps qs p a b = (
    either-branch (nth qs 0) (nth ps 1) (nth ps 2) (place qs 0 b) (place ps 1 a) (place ps 2 a) (nth ps 0) (place ps 0 a),
    either-branch (nth qs 0) (nth qs 1) (nth qs 2) (place qs 0 b) (place qs 1 b) (place qs 2 b) (nth ps 0) (place ps 0 a),
  )

  -- ---- the lines of and-inverter form

  opposite-added : (r : Term) → P r → opposite r ≡ negated r → P (opposite r)
  opposite-added r p e = subst P (sym e) (op-within Not (r ⨾ none) (p, tt))

  opposed : (r : Term) → P r → P (opposite r)
  opposed (apply (op Not) (t ⨾ none)) p = under Not t p
  opposed r p = opposite-added r p refl

  opposed-each : (rs : List Term) → All P rs → All P (map opposite rs)
  opposed-each [] all = tt
  opposed-each (r ∷ rs) all = (opposed r all.0, opposed-each rs all.1)

  -- not both the first and the contrary of the second
  not-without : (s t : Term) → P s → P t → P (opposite (both s (opposite t)))
  not-without s t a b = opposed (both s (opposite t)) (and s (opposite t) a (opposed t b))

  same-within : (rs : List Term) → All P rs → P (same_sides rs)
  same-within rs a =
      let r : P (nth rs 0) = place rs 0 a in
      let s : P (nth rs 1) = place rs 1 a in
      and (opposite (both (nth rs 0) (opposite (nth rs 1)))) (opposite (both (opposite (nth rs 0)) (nth rs 1)))
      (not-without (nth rs 0) (nth rs 1) r s) (opposed (both (opposite (nth rs 0)) (nth rs 1)) (and (opposite (nth rs 0)) (nth rs 1) (opposed (nth rs 0) r) s))

  aig_distinct-within : (rs : List Term) → All P rs → P (aig_distinct rs)
  aig_distinct-within [] a = opposed (same_sides []) (same-within [] a)
  aig_distinct-within (r ∷ []) a = opposed (same_sides (r ∷ [])) (same-within (r ∷ []) a)
  aig_distinct-within (r ∷ s ∷ []) a = opposed (same_sides (r ∷ s ∷ [])) (same-within (r ∷ s ∷ []) a)
  aig_distinct-within (r ∷ s ∷ t ∷ rs) a = truths false

  pub inverted-within : (k : Kind) (t : Term) (rs : List Term) → P t → All P rs → P (inverted k t rs)
  inverted-within (truth_value v) t rs p a = p
  inverted-within atom t rs p a = p
  inverted-within negation t rs p a = opposed (nth rs 0) (place rs 0 a)
  inverted-within conjunction t rs p a = op-within And (terms rs) (listed rs a)
  inverted-within disjunction t rs p a = opposed (all_of (map opposite rs)) (op-within And (terms (map opposite rs)) (listed (map opposite rs) (opposed-each rs a)))
  inverted-within implication t rs p a = not-without (nth rs 0) (nth rs 1) (place rs 0 a) (place rs 1 a)
  inverted-within exclusive t rs p a = opposed (same_sides rs) (same-within rs a)
  inverted-within equivalence t rs p a = same-within rs a
  inverted-within difference t rs p a = aig_distinct-within rs a
  inverted-within conditional t rs p a =
      and (opposite (both (nth rs 0) (opposite (nth rs 1)))) (opposite (both (opposite (nth rs 0)) (opposite (nth rs 2))))
      (not-without (nth rs 0) (nth rs 1) (place rs 0 a) (place rs 1 a)) (not-without (opposite (nth rs 0)) (nth rs 2) (opposed (nth rs 0) (place rs 0 a)) (place rs 2 a))

-- ---- negation normal form

mutual
  both-inside : (t : Term) → Inside t (nnf t) × Inside t (nnf_not t)
  both-inside (apply h ts) =
      let each : All (InsideOne ts) (nnf_each ts) × All (InsideOne ts) (nnf_not_each ts) = all-forms ts in
      forms-within (free (apply h ts)) (NamedIn (names_within (apply h ts))) (Clear (apply h ts)) (kind_of h ts) (apply h ts) (nnf_each ts) (nnf_not_each ts) (inside-itself (apply h ts))
      (all-map (InsideOne ts) (Inside (apply h ts)) (inside-operand h ts) (nnf_each ts) each.0)
      (all-map (InsideOne ts) (Inside (apply h ts)) (inside-operand h ts) (nnf_not_each ts) each.1)
  both-inside (quantified q xs body) =
      let inner : Inside body (nnf body) × Inside body (nnf_not body) = both-inside body in
      (inside-body q q xs body (nnf body) inner.0, inside-body q (dual q) xs body (nnf_not body) inner.1)

  all-forms : (ts : Terms) → All (InsideOne ts) (nnf_each ts) × All (InsideOne ts) (nnf_not_each ts)
  all-forms none = (tt, tt)
  all-forms (t ⨾ ts) =
      let first : Inside t (nnf t) × Inside t (nnf_not t) = both-inside t in
      let rest : All (InsideOne ts) (nnf_each ts) × All (InsideOne ts) (nnf_not_each ts) = all-forms ts in (
        (inside-first t ts (nnf t) first.0, all-map (InsideOne ts) (InsideOne (t ⨾ ts)) (inside-rest t ts) (nnf_each ts) rest.0),
        (inside-first t ts (nnf_not t) first.1, all-map (InsideOne ts) (InsideOne (t ⨾ ts)) (inside-rest t ts) (nnf_not_each ts) rest.1),
      )

pub nnf-inside : (t : Term) → Inside t (nnf t)
nnf-inside t = (both-inside t).0

-- ---- and-inverter form

mutual
  pub aig-inside : (t : Term) → Inside t (aig t)
  aig-inside (apply h ts) =
      inverted-within (free (apply h ts)) (NamedIn (names_within (apply h ts))) (Clear (apply h ts)) (kind_of h ts) (apply h ts) (aig_each ts) (inside-itself (apply h ts))
      (all-map (InsideOne ts) (Inside (apply h ts)) (inside-operand h ts) (aig_each ts) (aigs-inside ts))
  aig-inside (quantified q xs body) = inside-body q q xs body (aig body) (aig-inside body)

  aigs-inside : (ts : Terms) → All (InsideOne ts) (aig_each ts)
  aigs-inside none = tt
  aigs-inside (t ⨾ ts) = (inside-first t ts (aig t) (aig-inside t), all-map (InsideOne ts) (InsideOne (t ⨾ ts)) (inside-rest t ts) (aig_each ts) (aigs-inside ts))
