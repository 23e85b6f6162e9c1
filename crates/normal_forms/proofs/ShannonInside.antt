-- What Shannon's expansion leaves: no other free symbols and no other names, and clear terms are clear still. A truth value
-- for a variable takes it out of the free symbols.
use Rattle.std.proofs.Common.{◌≡◌, Bool, true, false, not, cond, ◌||◌, ◌⊎◌, inl, inr, List, [], ◌∷◌, map, Some, refl, ap, sym, ◌∙◌, subst}
use Rattle.std.specs.Prelude.{⊤, filter}
use Rattle.smt_terms.specs.declared.op.Op.TheVariants.{Truth, And, Or}
use Rattle.smt_terms.specs.Sorts.{Name, Sort, bool, int, bit_vector, array, free_sort, Symbol, Variable}
use Rattle.smt_terms.specs.Term.{Quantifier, universal, existential, Head, op, symbol, const_array, Term, apply, quantified, Terms, none, ◌⨾◌, constant_of, constant}
use Rattle.smt_terms.specs.Equal.{name_eq, symbol_eq}
use Rattle.smt_terms.specs.Free.{is_among, name_among, names_of, without, head_symbols, free, free_of}
use Rattle.smt_terms.specs.Rank.{sort_of, sorts_of}
use Rattle.smt_terms.specs.Connectives.{truth_term}
use Rattle.smt_terms.specs.Shapes.{is_bool}
use Rattle.smt_terms.specs.SubstLaws.{names_within, names_within_each}
use Rattle.smt_terms.proofs.Tests.{either_true, left_true, right_true, both_false, or_false}
use Rattle.smt_terms.proofs.Equal.{Decides-name_eq, Decides-symbol_eq}
use Rattle.smt_terms.proofs.Ranked.{rank-takes}
use Rattle.smt_terms.proofs.Runs.{among-name}
use Rattle.smt_terms.proofs.Sorted.{IsApplied, applied, sorted, quantified_sort}
use Rattle.smt_terms.proofs.Built.{sense, means-itself, means-both, means-either}
use Rattle.normal_forms.specs.Quantifiers.{over_left, not_bool, at_head, unless_bound, at_truth, at_truth_each, expanded, expand_bool, expand_each, shannon, shannon_each}
use Rattle.normal_forms.proofs.Inherited.{AllOf}
use Rattle.normal_forms.proofs.Clear.{Sees, Clear, ClearEach, in-first, in-second, in-without, to-without}
use Rattle.normal_forms.proofs.Inside.{in-left, in-right, in-both, Within, NamedIn, Inside, wider, InsideOne, inside-first, inside-rest, inside-operand, head-within, op-within}
use Rattle.normal_forms.proofs.AtTruth.{at_truth-sort}
use Rattle.normal_forms.proofs.Shannon.{shannon-sort}

pub each-map : (P Q : Term → Type 0) → ((r : Term) → P r → Q r) → (us : Terms) → AllOf P us → AllOf Q us
each-map P Q step none all = tt
each-map P Q step (u ⨾ us) all = (step u all.0, each-map P Q step us all.1)

-- ---- a truth value for a variable

-- a symbol that is applied to operands is no variable
applied-other : (f : Symbol) (t : Term) (ts : Terms) (s : Sort) (x : Variable) → sort_of (apply (symbol f) (t ⨾ ts)) ≡ Some s → symbol_eq (constant_of x) f ≡ false
applied-other f t ts s x has = go (symbol_eq (constant_of x) f) refl
  where
    a : IsApplied (symbol f) (t ⨾ ts) s
    a = applied (symbol f) (t ⨾ ts) s has

    empty : (ss : List Sort) → ss ≡ f.args → f.args ≡ [] → (r : Sort) (rs : List Sort) → ss ≡ r ∷ rs → ⊥
    empty ss e n r rs c = let same : [] ≡ r ∷ rs = sym n ∙ sym e ∙ c in absurd cc

    go : (b : Bool) → symbol_eq (constant_of x) f ≡ b → b ≡ false
    go false e = refl
    go true e =
        let parts = sorted t ts a.sorts a.operands in
        let none_there : f.args ≡ [] = sym (ap (λ (h : Symbol). h.args) ((Decides-symbol_eq (constant_of x) f).0 e)) in
        absurd (empty a.sorts (rank-takes (symbol f) a.sorts s a.rank).0 none_there parts.sort parts.sorts parts.all)

pub apart-from : (fs : List Symbol) (x g : Symbol) → is_among fs x ≡ true → is_among fs g ≡ false → symbol_eq x g ≡ false
apart-from fs x g inside outside = go (symbol_eq x g) refl
  where
    go : (b : Bool) → symbol_eq x g ≡ b → b ≡ false
    go false e = refl
    go true e = let there : is_among fs g ≡ true = ap (is_among fs) (sym ((Decides-symbol_eq x g).0 e)) ∙ inside in absurd cc

-- one variable less
pub one-less : (x : Variable) (fs : List Symbol) (g : Symbol) → is_among fs g ≡ true → symbol_eq (constant_of x) g ≡ false → is_among (without (x ∷ []) fs) g ≡ true
one-less x fs g among other = to-without (x ∷ []) fs g among (or_false (symbol_eq (constant_of x) g) false other refl)

pub in-less : (x : Variable) (fs : List Symbol) (g : Symbol) → is_among (without (x ∷ []) fs) g ≡ true → (is_among fs g ≡ true) × (symbol_eq (constant_of x) g ≡ false)
in-less x fs g among = let parts = in-without (x ∷ []) fs g among in (parts.0, (both_false (symbol_eq (constant_of x) g) false parts.1).0)

less-more : (x : Variable) (fs gs : List Symbol) → ((g : Symbol) → is_among fs g ≡ true → is_among gs g ≡ true) → (g : Symbol) → is_among (without (x ∷ []) fs) g ≡ true → is_among (without (x ∷ []) gs) g ≡ true
less-more x fs gs more g among = let parts = in-less x fs g among in one-less x gs g (more g parts.0) parts.1

-- of a term that was t
abbrev Less : Variable → Term → Term → Type 0
Less x t r = Within (without (x ∷ []) (free t)) (NamedIn (names_within t)) (Clear t) r

abbrev LessOne : Variable → Terms → Term → Type 0
LessOne x ts r = Within (without (x ∷ []) (free_of ts)) (NamedIn (names_within_each ts)) (ClearEach ts) r

less-operand : (x : Variable) (h : Head) (ts : Terms) (r : Term) → LessOne x ts r → Less x (apply h ts) r
less-operand x h ts r i = wider (without (x ∷ []) (free_of ts)) (without (x ∷ []) (free (apply h ts))) (NamedIn (names_within_each ts)) (NamedIn (names_within (apply h ts))) (ClearEach ts) (Clear (apply h ts)) r
    (less-more x (free_of ts) (free (apply h ts)) (in-second (head_symbols h) (free_of ts))) (in-right (names_of (head_symbols h)) (names_within_each ts)) (λ c. c) i

less-first : (x : Variable) (t : Term) (ts : Terms) (r : Term) → Less x t r → LessOne x (t ⨾ ts) r
less-first x t ts r i = wider (without (x ∷ []) (free t)) (without (x ∷ []) (free_of (t ⨾ ts))) (NamedIn (names_within t)) (NamedIn (names_within_each (t ⨾ ts))) (Clear t) (ClearEach (t ⨾ ts)) r
    (less-more x (free t) (free_of (t ⨾ ts)) (in-first (free t) (free_of ts))) (in-left (names_within t) (names_within_each ts)) (λ c. c.0) i

less-rest : (x : Variable) (t : Term) (ts : Terms) (r : Term) → LessOne x ts r → LessOne x (t ⨾ ts) r
less-rest x t ts r i = wider (without (x ∷ []) (free_of ts)) (without (x ∷ []) (free_of (t ⨾ ts))) (NamedIn (names_within_each ts)) (NamedIn (names_within_each (t ⨾ ts))) (ClearEach ts) (ClearEach (t ⨾ ts)) r
    (less-more x (free_of ts) (free_of (t ⨾ ts)) (in-second (free t) (free_of ts))) (in-right (names_within t) (names_within_each ts)) (λ c. c.1) i

same-symbol : (f g : Symbol) → is_among (f ∷ []) g ≡ true → f ≡ g
same-symbol f g among = go (either_true (symbol_eq f g) false among)
  where
    go : (symbol_eq f g ≡ true) ⊎ (false ≡ true) → f ≡ g
    go (inl here) = (Decides-symbol_eq f g).0 here
    go (inr never) = absurd cc

-- a head that isn't the variable
other-head : (x : Variable) (f : Symbol) (ts us : Terms) → symbol_eq (constant_of x) f ≡ false → AllOf (LessOne x ts) us → Less x (apply (symbol f) ts) (apply (symbol f) us)
other-head x f ts us other all =
    head-within (without (x ∷ []) (free (apply (symbol f) ts))) (NamedIn (names_within (apply (symbol f) ts))) (ClearEach ts) (symbol f) us
    (λ g among. subst (λ k. (is_among (without (x ∷ []) (free (apply (symbol f) ts))) k ≡ true) × NamedIn (names_within (apply (symbol f) ts)) k.name) (same-symbol f g among) itself)
    (each-map (LessOne x ts) (Less x (apply (symbol f) ts)) (less-operand x (symbol f) ts) us all)
  where
    itself : (is_among (without (x ∷ []) (free (apply (symbol f) ts))) f ≡ true) × NamedIn (names_within (apply (symbol f) ts)) f.name
    itself = (
      one-less x (free (apply (symbol f) ts)) f (in-first (f ∷ []) (free_of ts) f (left_true (symbol_eq f f) false ((Decides-symbol_eq f f).1 refl))) other,
      in-left (f.name ∷ []) (names_within_each ts) f.name (left_true (name_eq f.name f.name) false ((Decides-name_eq f.name f.name).1 refl)),
    )

abbrev is_nothing : Terms → Bool
is_nothing none = true
is_nothing (t ⨾ ts) = false

each-shape : (v : Bool) (x : Variable) (ts : Terms) → is_nothing (at_truth_each v x ts) ≡ is_nothing ts
each-shape v x none = refl
each-shape v x (t ⨾ ts) = refl

at_head-within : (v : Bool) (x : Variable) (h : Head) (ts us : Terms) (s : Sort) → sort_of (apply h ts) ≡ Some s → is_nothing us ≡ is_nothing ts → AllOf (LessOne x ts) us → Less x (apply h ts) (at_head v x h us)
at_head-within v x (op o) ts us s has same all = op-within (without (x ∷ []) (free (apply (op o) ts))) (NamedIn (names_within (apply (op o) ts))) (ClearEach ts) o us (each-map (LessOne x ts) (Less x (apply (op o) ts)) (less-operand x (op o) ts) us all)
at_head-within v x (const_array r) ts us s has same all =
    head-within (without (x ∷ []) (free (apply (const_array r) ts))) (NamedIn (names_within (apply (const_array r) ts))) (ClearEach ts) (const_array r) us (λ g among. absurd cc) (each-map (LessOne x ts) (Less x (apply (const_array r) ts)) (less-operand x (const_array r) ts) us all)
at_head-within v x (symbol f) none none s has same all = go (symbol_eq (constant_of x) f) refl
  where
    go : (b : Bool) → symbol_eq (constant_of x) f ≡ b → Less x (constant f) (cond b (truth_term v) (constant f))
    go true e = op-within (without (x ∷ []) (free (constant f))) (NamedIn (names_within (constant f))) ⊤ (Truth v) none tt
    go false e = other-head x f none none e tt
at_head-within v x (symbol f) (t ⨾ ts) (u ⨾ us) s has same all = other-head x f (t ⨾ ts) (u ⨾ us) (applied-other f t ts s x has) all
at_head-within v x (symbol f) none (u ⨾ us) s has same all = absurd cc
at_head-within v x (symbol f) (t ⨾ ts) none s has same all = absurd cc

unless-within : (b : Bool) (x : Variable) (q : Quantifier) (xs : List Variable) (body r : Term) → is_among (map constant_of xs) (constant_of x) ≡ b → Less x body r → Less x (quantified q xs body) (unless_bound b (quantified q xs body) (quantified q xs r))
unless-within true x q xs body r bound i = record {
  symbols = λ g among. one-less x (without xs (free body)) g among (apart-from (map constant_of xs) (constant_of x) g bound (in-without xs (free body) g among).1);
  names = λ n among. among;
  clear = λ c. c;
}
unless-within false x q xs body r bound i = record {
  symbols = λ g among.
      let parts = in-without xs (free r) g among in
      let less = in-less x (free body) g (i.symbols g parts.0) in
      one-less x (without xs (free body)) g (to-without xs (free body) g less.0 parts.1) less.1;
  names = λ n among. go n (in-both (map (λ y. y.name) xs) (names_within r) n among);
  clear = λ c. ((λ g among. c.0 g (in-less x (free body) g (i.symbols g among)).0), i.clear c.1);
}
  where
    go : (n : Name) → (name_among (map (λ y. y.name) xs) n ≡ true) ⊎ (name_among (names_within r) n ≡ true) → NamedIn (names_within (quantified q xs body)) n
    go n (inl here) = in-left (map (λ y. y.name) xs) (names_within body) n here
    go n (inr there) = in-right (map (λ y. y.name) xs) (names_within body) n (i.names n there)

mutual
  pub at_truth-within : (t : Term) (v : Bool) (x : Variable) (s : Sort) → x.sort ≡ bool → sort_of t ≡ Some s → Within (without (x ∷ []) (free t)) (NamedIn (names_within t)) (Clear t) (at_truth v x t)
  at_truth-within (apply h ts) v x s is has =
      let a = applied h ts s has in
      at_head-within v x h ts (at_truth_each v x ts) s has (each-shape v x ts) (at_truths-within ts v x a.sorts is a.operands)
  at_truth-within (quantified q xs body) v x s is has =
      unless-within (is_among (map constant_of xs) (constant_of x)) x q xs body (at_truth v x body) refl (at_truth-within body v x bool is (quantified_sort q xs body s has).body)

  at_truths-within : (ts : Terms) (v : Bool) (x : Variable) (ss : List Sort) → x.sort ≡ bool → sorts_of ts ≡ Some ss → AllOf (LessOne x ts) (at_truth_each v x ts)
  at_truths-within none v x ss is has = tt
  at_truths-within (t ⨾ ts) v x ss is has =
      let a = sorted t ts ss has in
      (less-first x t ts (at_truth v x t) (at_truth-within t v x a.sort is a.first), each-map (LessOne x ts) (LessOne x (t ⨾ ts)) (less-rest x t ts) (at_truth_each v x ts) (at_truths-within ts v x a.sorts is a.others))

-- ---- the Bool variables of a quantifier, and the others

abbrev pub bool_variables : List Variable → List Variable
bool_variables xs = filter (λ x. is_bool x.sort) xs

pub neither-part : (xs : List Variable) (g : Symbol) → is_among (map constant_of (not_bool xs)) g ≡ false → is_among (map constant_of (bool_variables xs)) g ≡ false → is_among (map constant_of xs) g ≡ false
neither-part [] g a b = refl
neither-part (x ∷ xs) g a b = go (is_bool x.sort) a b (neither-part xs g)
  where
    go : (c : Bool) → is_among (map constant_of (cond (not c) (x ∷ not_bool xs) (not_bool xs))) g ≡ false → is_among (map constant_of (cond c (x ∷ bool_variables xs) (bool_variables xs))) g ≡ false
        → (is_among (map constant_of (not_bool xs)) g ≡ false → is_among (map constant_of (bool_variables xs)) g ≡ false → is_among (map constant_of xs) g ≡ false) → is_among (map constant_of (x ∷ xs)) g ≡ false
    go true p q below =
        let parts = both_false (symbol_eq (constant_of x) g) (is_among (map constant_of (bool_variables xs)) g) q in
        or_false (symbol_eq (constant_of x) g) (is_among (map constant_of xs) g) parts.0 (below p parts.1)
    go false p q below =
        let parts = both_false (symbol_eq (constant_of x) g) (is_among (map constant_of (not_bool xs)) g) p in
        or_false (symbol_eq (constant_of x) g) (is_among (map constant_of xs) g) parts.0 (below parts.1 q)

fewer-sees : (xs : List Variable) (g : Symbol) → Sees xs g → Sees (not_bool xs) g
fewer-sees [] g sees = tt
fewer-sees (x ∷ xs) g sees = go (is_bool x.sort) (fewer-sees xs g sees.1)
  where
    go : (c : Bool) → Sees (not_bool xs) g → Sees (cond (not c) (x ∷ not_bool xs) (not_bool xs)) g
    go true below = below
    go false below = (sees.0, below)

pub fewer-names : (xs : List Variable) (n : Name) → name_among (map (λ x. x.name) (not_bool xs)) n ≡ true → name_among (map (λ x. x.name) xs) n ≡ true
fewer-names [] n among = among
fewer-names (x ∷ xs) n among = go (is_bool x.sort) among (fewer-names xs n)
  where
    go : (c : Bool) → name_among (map (λ y. y.name) (cond (not c) (x ∷ not_bool xs) (not_bool xs))) n ≡ true → (name_among (map (λ y. y.name) (not_bool xs)) n ≡ true → name_among (map (λ y. y.name) xs) n ≡ true) → (name_eq x.name n || name_among (map (λ y. y.name) xs) n) ≡ true
    go true a below = right_true (name_eq x.name n) (name_among (map (λ y. y.name) xs) n) (below a)
    go false a below = first (either_true (name_eq x.name n) (name_among (map (λ y. y.name) (not_bool xs)) n) a)
      where
        first : (name_eq x.name n ≡ true) ⊎ (name_among (map (λ y. y.name) (not_bool xs)) n ≡ true) → (name_eq x.name n || name_among (map (λ y. y.name) xs) n) ≡ true
        first (inl here) = left_true (name_eq x.name n) (name_among (map (λ y. y.name) xs) n) here
        first (inr there) = right_true (name_eq x.name n) (name_among (map (λ y. y.name) xs) n) (below there)

-- the quantifier over the variables that stay, over a body in which the Bool ones aren't free
pub over-left-within : (q : Quantifier) (xs : List Variable) (body b : Term) (N : Name → Type 0) → ((n : Name) → name_among (map (λ x. x.name) xs) n ≡ true → N n) → Within (without (bool_variables xs) (free body)) N (Clear body) b → Within (free (quantified q xs body)) N (Clear (quantified q xs body)) (over_left q (not_bool xs) b)
over-left-within q xs body b N names i = go (not_bool xs) (neither-part xs) (fewer-sees xs) (λ n among. names n (fewer-names xs n among))
  where
    go : (ys : List Variable) → ((g : Symbol) → is_among (map constant_of ys) g ≡ false → is_among (map constant_of (bool_variables xs)) g ≡ false → is_among (map constant_of xs) g ≡ false) → ((g : Symbol) → Sees xs g → Sees ys g) → ((n : Name) → name_among (map (λ x. x.name) ys) n ≡ true → N n) → Within (free (quantified q xs body)) N (Clear (quantified q xs body)) (over_left q ys b)
    go [] neither sees named = record {
      symbols = λ g among. let parts = in-without (bool_variables xs) (free body) g (i.symbols g among) in to-without xs (free body) g parts.0 (neither g refl parts.1);
      names = i.names;
      clear = λ c. i.clear c.1;
    }
    go (y ∷ ys) neither sees named = record {
      symbols = λ g among.
          let outer = in-without (y ∷ ys) (free b) g among in
          let parts = in-without (bool_variables xs) (free body) g (i.symbols g outer.0) in
          to-without xs (free body) g parts.0 (neither g outer.1 parts.1);
      names = λ n among. name n (in-both (map (λ x. x.name) (y ∷ ys)) (names_within b) n among);
      clear = λ c. ((λ g among. sees g (c.0 g (in-without (bool_variables xs) (free body) g (i.symbols g among)).0)), i.clear c.1);
    }
      where
        name : (n : Name) → (name_among (map (λ x. x.name) (y ∷ ys)) n ≡ true) ⊎ (name_among (names_within b) n ≡ true) → N n
        name n (inl here) = named n here
        name n (inr there) = i.names n there

-- ---- the expansion

abbrev Formula : Term → Type 0
Formula t = sort_of t ≡ Some bool

expanded-sort : (q : Quantifier) (x : Variable) (b : Term) → x.sort ≡ bool → Formula b → Formula (expanded q x b)
expanded-sort existential x b is has = (means-either (at_truth true x b) (at_truth false x b) (sense (at_truth true x b)) (sense (at_truth false x b)) (means-itself (at_truth true x b) (at_truth-sort b true x is ∙ has)) (means-itself (at_truth false x b) (at_truth-sort b false x is ∙ has))).sort
expanded-sort universal x b is has = (means-both (at_truth true x b) (at_truth false x b) (sense (at_truth true x b)) (sense (at_truth false x b)) (means-itself (at_truth true x b) (at_truth-sort b true x is ∙ has)) (means-itself (at_truth false x b) (at_truth-sort b false x is ∙ has))).sort

expanded-within : (q : Quantifier) (x : Variable) (b : Term) → x.sort ≡ bool → Formula b → Less x b (expanded q x b)
expanded-within existential x b is has = op-within (without (x ∷ []) (free b)) (NamedIn (names_within b)) (Clear b) Or (at_truth true x b ⨾ at_truth false x b ⨾ none) (at_truth-within b true x bool is has, (at_truth-within b false x bool is has, tt))
expanded-within universal x b is has = op-within (without (x ∷ []) (free b)) (NamedIn (names_within b)) (Clear b) And (at_truth true x b ⨾ at_truth false x b ⨾ none) (at_truth-within b true x bool is has, (at_truth-within b false x bool is has, tt))

-- without these Bool variables, of a body
record Expanded (xs : List Variable) (b r : Term) : Type 0 where
  sort : Formula r
  within : Within (without (bool_variables xs) (free b)) (NamedIn (names_within b)) (Clear b) r

-- one Bool variable less, below the others
pub more-without : (x : Variable) (ys : List Variable) (fs : List Symbol) (g : Symbol) → symbol_eq (constant_of x) g ≡ false → is_among (without ys fs) g ≡ true → is_among (without (x ∷ ys) fs) g ≡ true
more-without x ys fs g other among = let parts = in-without ys fs g among in to-without (x ∷ ys) fs g parts.0 (or_false (symbol_eq (constant_of x) g) (is_among (map constant_of ys) g) other parts.1)

expanded-less : (q : Quantifier) (x : Variable) (ys : List Variable) (b r : Term) → x.sort ≡ bool → Formula r → Within (without ys (free b)) (NamedIn (names_within b)) (Clear b) r → Within (without (x ∷ ys) (free b)) (NamedIn (names_within b)) (Clear b) (expanded q x r)
expanded-less q x ys b r is has i = wider (without (x ∷ []) (free r)) (without (x ∷ ys) (free b)) (NamedIn (names_within r)) (NamedIn (names_within b)) (Clear r) (Clear b) (expanded q x r)
    (λ g among. let parts = in-less x (free r) g among in more-without x ys (free b) g parts.1 (i.symbols g parts.0)) i.names i.clear (expanded-within q x r is has)

expand_bool-within : (s : Sort) (q : Quantifier) (x : Variable) (ys : List Variable) (b r : Term) → x.sort ≡ s → Formula r → Within (without ys (free b)) (NamedIn (names_within b)) (Clear b) r
    → Formula (expand_bool s q x r) × Within (without (cond (is_bool s) (x ∷ ys) ys) (free b)) (NamedIn (names_within b)) (Clear b) (expand_bool s q x r)
expand_bool-within bool q x ys b r is has i = (expanded-sort q x r is has, expanded-less q x ys b r is has i)
expand_bool-within int q x ys b r is has i = (has, i)
expand_bool-within (bit_vector w) q x ys b r is has i = (has, i)
expand_bool-within (array j e) q x ys b r is has i = (has, i)
expand_bool-within (free_sort n) q x ys b r is has i = (has, i)

expand_each-within : (q : Quantifier) (xs : List Variable) (b : Term) → Formula b → Expanded xs b (expand_each q xs b)
expand_each-within q [] b has = record {
  sort = has;
  within = record { symbols = λ g among. to-without [] (free b) g among refl; names = λ n among. among; clear = λ c. c };
}
expand_each-within q (x ∷ xs) b has =
    let below : Expanded xs b (expand_each q xs b) = expand_each-within q xs b has in
    let here = expand_bool-within x.sort q x (bool_variables xs) b (expand_each q xs b) refl below.sort below.within in
    record { sort = here.0; within = here.1 }

-- ---- all terms

mutual
  pub shannon-inside : (t : Term) (s : Sort) → sort_of t ≡ Some s → Inside t (shannon t)
  shannon-inside (apply h ts) s has =
      let a = applied h ts s has in
      head-within (free (apply h ts)) (NamedIn (names_within (apply h ts))) (ClearEach ts) h (shannon_each ts)
      (λ g among. (in-first (head_symbols h) (free_of ts) g among, in-left (names_of (head_symbols h)) (names_within_each ts) g.name (among-name (head_symbols h) g among)))
      (each-map (InsideOne ts) (Inside (apply h ts)) (inside-operand h ts) (shannon_each ts) (shannons-inside ts a.sorts a.operands))
  shannon-inside (quantified q xs body) s has =
      let inner : Inside body (shannon body) = shannon-inside body bool (quantified_sort q xs body s has).body in
      let out : Expanded xs (shannon body) (expand_each q xs (shannon body)) = expand_each-within q xs (shannon body) (shannon-sort body bool (quantified_sort q xs body s has).body) in
      over-left-within q xs body (expand_each q xs (shannon body)) (NamedIn (names_within (quantified q xs body))) (λ n among. in-left (map (λ x. x.name) xs) (names_within body) n among)
      (wider (without (bool_variables xs) (free (shannon body))) (without (bool_variables xs) (free body)) (NamedIn (names_within (shannon body))) (NamedIn (names_within (quantified q xs body))) (Clear (shannon body)) (Clear body) (expand_each q xs (shannon body))
      (λ g among. let parts = in-without (bool_variables xs) (free (shannon body)) g among in to-without (bool_variables xs) (free body) g (inner.symbols g parts.0) parts.1)
      (λ n among. in-right (map (λ x. x.name) xs) (names_within body) n (inner.names n among)) inner.clear out.within)

  shannons-inside : (ts : Terms) (ss : List Sort) → sorts_of ts ≡ Some ss → AllOf (InsideOne ts) (shannon_each ts)
  shannons-inside none ss has = tt
  shannons-inside (t ⨾ ts) ss has =
      let a = sorted t ts ss has in
      (inside-first t ts (shannon t) (shannon-inside t a.sort a.first), each-map (InsideOne ts) (InsideOne (t ⨾ ts)) (inside-rest t ts) (shannon_each ts) (shannons-inside ts a.sorts a.others))
