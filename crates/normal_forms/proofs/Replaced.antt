-- A quantified formula that is reached through `and` and `or` alone, and another one in its place: what that does to sorts, to
-- values and to what stands in the term. What a formula says, as a function of what the one in it says, is monotone.
use Rattle.std.proofs.Common.{◌≡◌, ℕ, zero, suc, ◌+◌, ◌≤◌, Bool, true, false, not, cond, ◌&&◌, ◌||◌, List, [], ◌∷◌, map, Option, Some, None, refl, ap, sym, ◌∙◌, subst, arith}
use Rattle.std.specs.Prelude.{⊤}
use Rattle.std.specs.List.{list_all}
use Rattle.smt_terms.specs.declared.op.Op.{Op}
use Rattle.smt_terms.specs.declared.op.Op.TheVariants.{Neg}
use Rattle.smt_terms.specs.Sorts.{Name, Sort, bool, int, bit_vector, array, free_sort, Symbol, Variable}
use Rattle.smt_terms.specs.Term.{Quantifier, universal, existential, Head, op, symbol, const_array, Term, apply, quantified, Terms, none, ◌⨾◌, constant_of}
use Rattle.smt_terms.specs.BitVectors.{BitVector}
use Rattle.smt_terms.specs.Equal.{symbol_eq, term_eq}
use Rattle.smt_terms.specs.Free.{is_among, name_among, names_of, head_symbols, free, free_of}
use Rattle.smt_terms.specs.Rank.{is_quantifiable, sort_over, with_sort, sort_of, sorts_of, is_minus, is_minus_of, is_regular, are_regular}
use Rattle.smt_terms.specs.Values.{Value, Sizes, truth, bits, is_true, joined, over_bits, over_values}
use Rattle.smt_terms.specs.Models.{Model}
use Rattle.smt_terms.specs.Val.{Env, assign, runs, val, vals}
use Rattle.smt_terms.specs.Connectives.{Kind, conjunction, disjunction, operator_kind, kind, kind_of}
use Rattle.smt_terms.specs.SubstLaws.{names_within, names_within_each}
use Rattle.smt_terms.specs.Shapes.{reached, reaches_quantifier, reach_quantifier, is_prenex}
use Rattle.smt_terms.proofs.Tests.{both_true, and_true}
use Rattle.smt_terms.proofs.Equal.{Decides-term_eq}
use Rattle.smt_terms.proofs.Agree.{SameAt, val_same, same_left, same_right}
use Rattle.smt_terms.proofs.Runs.{among-name}
use Rattle.smt_terms.proofs.Keeping.{not_minus}
use Rattle.smt_terms.proofs.Sorted.{applied, sorted}
use Rattle.smt_terms.proofs.SortsOfTerms.{regular, regular_over}
use Rattle.smt_terms.proofs.Connected.{is_logical, kind_value, connective-value, all_bits, any_bit}
use Rattle.normal_forms.specs.Prenex.{Quantified, whole, through, or_next, leftmost, leftmost_of, through_or, by_if, replaced, replaced_each, quantifiers, quantifiers_of}
use Rattle.normal_forms.proofs.Inherited.{AllOf}
use Rattle.normal_forms.proofs.Clear.{ClearEach, in-first, in-second}
use Rattle.normal_forms.proofs.Inside.{in-left, in-right, Within, head-within}

some-same : {A : Type 0} (a b : A) → Some a ≡ Some b → a ≡ b
some-same a b e = cc

-- ---- the leftmost one

nothing-through : (k : Kind) (o : Option Quantified) (b : Bool) → through k o ≡ None → (o ≡ None → b ≡ false) → reached k b ≡ false
nothing-through conjunction o b e below = below e
nothing-through disjunction o b e below = below e
nothing-through _ o b e below = refl

none-first : (o p : Option Quantified) → or_next o p ≡ None → (o ≡ None) × (p ≡ None)
none-first None p e = (refl, e)
none-first (Some f) p e = absurd cc

mutual
  not-reached : (t : Term) → leftmost t ≡ None → reaches_quantifier t ≡ false
  not-reached (apply h ts) e = nothing-through (kind_of h ts) (leftmost_of ts) (reach_quantifier ts) e (none-reached ts)
  not-reached (quantified q xs body) e = absurd cc

  none-reached : (ts : Terms) → leftmost_of ts ≡ None → reach_quantifier ts ≡ false
  none-reached none e = refl
  none-reached (t ⨾ ts) e =
      let parts = none-first (leftmost t) (leftmost_of ts) e in
      neither (reaches_quantifier t) (reach_quantifier ts) (not-reached t parts.0) (none-reached ts parts.1)
    where
      neither : (a b : Bool) → a ≡ false → b ≡ false → (a || b) ≡ false
      neither a b h k = cc

pub matrix-prenex : (t : Term) → leftmost t ≡ None → is_prenex t ≡ true
matrix-prenex (apply h ts) e = ap not (not-reached (apply h ts) e)
matrix-prenex (quantified q xs body) e = absurd cc

some-through : (k : Kind) (o : Option Quantified) (f : Quantified) → through k o ≡ Some f → o ≡ Some f
some-through conjunction o f e = e
some-through disjunction o f e = e
some-through _ o f e = absurd cc

mutual
  -- it has what its term has, where operands inherit that
  pub leftmost-inherits : (P : Term → Type 0) → ((h : Head) (ts : Terms) → P (apply h ts) → AllOf P ts) → (t : Term) (f : Quantified) → leftmost t ≡ Some f → P t → P (whole f)
  leftmost-inherits P down (apply h ts) f e p = leftmost-inherits-each P down ts f (some-through (kind_of h ts) (leftmost_of ts) f e) (down h ts p)
  leftmost-inherits P down (quantified q xs body) f e p = subst (λ g. P (whole g)) (some-same (record { quantifier = q; variables = xs; body = body }) f e) p

  leftmost-inherits-each : (P : Term → Type 0) → ((h : Head) (ts : Terms) → P (apply h ts) → AllOf P ts) → (ts : Terms) (f : Quantified) → leftmost_of ts ≡ Some f → AllOf P ts → P (whole f)
  leftmost-inherits-each P down none f e all = absurd cc
  leftmost-inherits-each P down (t ⨾ ts) f e all = go (leftmost t) e (λ h. leftmost-inherits P down t f h all.0) (λ h. leftmost-inherits-each P down ts f h all.1) refl
    where
      go : (o : Option Quantified) → or_next o (leftmost_of ts) ≡ Some f → (leftmost t ≡ Some f → P (whole f)) → (leftmost_of ts ≡ Some f → P (whole f)) → leftmost t ≡ o → P (whole f)
      go (Some g) k first rest h = first (h ∙ k)
      go None k first rest h = rest k

-- ---- the number of quantifiers

either-fewer : (k : Kind) (h : Head) (ts us : Terms) → quantifiers_of us ≤ quantifiers_of ts → quantifiers (through_or k h ts us) ≤ quantifiers_of ts
either-fewer conjunction h ts us less = less
either-fewer disjunction h ts us less = less
either-fewer _ h ts us less = omega arith

placed-fewer : (b : Bool) (f by t : Term) → term_eq f t ≡ b → quantifiers by ≤ quantifiers f → quantifiers (by_if b by t) ≤ quantifiers t
placed-fewer true f by t e less = subst (λ u. quantifiers by ≤ quantifiers u) ((Decides-term_eq f t).0 e) less
placed-fewer false f by t e less = omega arith

mutual
  replaced-fewer : (f by t : Term) → quantifiers by ≤ quantifiers f → quantifiers (replaced f by t) ≤ quantifiers t
  replaced-fewer f by (apply h ts) less = either-fewer (kind_of h ts) h ts (replaced_each f by ts) (replaceds-fewer f by ts less)
  replaced-fewer f by (quantified q xs body) less = placed-fewer (term_eq f (quantified q xs body)) f by (quantified q xs body) refl less

  replaceds-fewer : (f by : Term) (ts : Terms) → quantifiers by ≤ quantifiers f → quantifiers_of (replaced_each f by ts) ≤ quantifiers_of ts
  replaceds-fewer f by none less = omega arith
  replaceds-fewer f by (t ⨾ ts) less =
      let first : quantifiers (replaced f by t) ≤ quantifiers t = replaced-fewer f by t less in
      let rest : quantifiers_of (replaced_each f by ts) ≤ quantifiers_of ts = replaceds-fewer f by ts less in
      omega arith

both-less : (k : Kind) (h : Head) (ts us : Terms) (o : Option Quantified) (f : Quantified) → through k o ≡ Some f → suc (quantifiers_of us) ≤ quantifiers_of ts → suc (quantifiers (through_or k h ts us)) ≤ quantifiers_of ts
both-less conjunction h ts us o f e less = less
both-less disjunction h ts us o f e less = less
both-less _ h ts us o f e less = absurd cc

placed-less : (b : Bool) (f by t : Term) → term_eq f t ≡ b → f ≡ t → suc (quantifiers by) ≤ quantifiers f → suc (quantifiers (by_if b by t)) ≤ quantifiers t
placed-less true f by t e same less = subst (λ u. suc (quantifiers by) ≤ quantifiers u) same less
placed-less false f by t e same less = let yes_ : term_eq f t ≡ true = (Decides-term_eq f t).1 same in absurd cc

mutual
  pub replaced-less : (by t : Term) (f : Quantified) → leftmost t ≡ Some f → suc (quantifiers by) ≤ quantifiers (whole f) → suc (quantifiers (replaced (whole f) by t)) ≤ quantifiers t
  replaced-less by (apply h ts) f e less =
      both-less (kind_of h ts) h ts (replaced_each (whole f) by ts) (leftmost_of ts) f e (replaceds-less by ts f (some-through (kind_of h ts) (leftmost_of ts) f e) less)
  replaced-less by (quantified q xs body) f e less =
      placed-less (term_eq (whole f) (quantified q xs body)) (whole f) by (quantified q xs body) refl (sym (ap whole (some-same (record { quantifier = q; variables = xs; body = body }) f e))) less

  replaceds-less : (by : Term) (ts : Terms) (f : Quantified) → leftmost_of ts ≡ Some f → suc (quantifiers by) ≤ quantifiers (whole f) → suc (quantifiers_of (replaced_each (whole f) by ts)) ≤ quantifiers_of ts
  replaceds-less by none f e less = absurd cc
  replaceds-less by (t ⨾ ts) f e less = go (leftmost t) refl e (λ h. replaced-less by t f h less) (λ h. replaceds-less by ts f h less)
    where
      go : (o : Option Quantified) → leftmost t ≡ o → or_next o (leftmost_of ts) ≡ Some f
          → (leftmost t ≡ Some f → suc (quantifiers (replaced (whole f) by t)) ≤ quantifiers t)
          → (leftmost_of ts ≡ Some f → suc (quantifiers_of (replaced_each (whole f) by ts)) ≤ quantifiers_of ts)
          → suc (quantifiers (replaced (whole f) by t) + quantifiers_of (replaced_each (whole f) by ts)) ≤ quantifiers t + quantifiers_of ts
      go (Some g) h k first rest =
          let here : suc (quantifiers (replaced (whole f) by t)) ≤ quantifiers t = first (h ∙ k) in
          let there : quantifiers_of (replaced_each (whole f) by ts) ≤ quantifiers_of ts = replaceds-fewer (whole f) by ts (omega (arith, less)) in
          omega arith
      go None h k first rest =
          let here : quantifiers (replaced (whole f) by t) ≤ quantifiers t = replaced-fewer (whole f) by t (omega (arith, less)) in
          let there : suc (quantifiers_of (replaced_each (whole f) by ts)) ≤ quantifiers_of ts = rest k in
          omega arith

-- ---- sorts

either-sort : (k : Kind) (h : Head) (ts us : Terms) → sorts_of us ≡ sorts_of ts → sort_of (through_or k h ts us) ≡ sort_of (apply h ts)
either-sort conjunction h ts us same = ap (sort_over h) same
either-sort disjunction h ts us same = ap (sort_over h) same
either-sort _ h ts us same = refl

placed-sort : (b : Bool) (f by t : Term) → term_eq f t ≡ b → sort_of by ≡ sort_of f → sort_of (by_if b by t) ≡ sort_of t
placed-sort true f by t e same = same ∙ ap sort_of ((Decides-term_eq f t).0 e)
placed-sort false f by t e same = refl

mutual
  pub replaced-sort : (f by t : Term) → sort_of by ≡ sort_of f → sort_of (replaced f by t) ≡ sort_of t
  replaced-sort f by (apply h ts) same = either-sort (kind_of h ts) h ts (replaced_each f by ts) (replaceds-sort f by ts same)
  replaced-sort f by (quantified q xs body) same = placed-sort (term_eq f (quantified q xs body)) f by (quantified q xs body) refl same

  replaceds-sort : (f by : Term) (ts : Terms) → sort_of by ≡ sort_of f → sorts_of (replaced_each f by ts) ≡ sorts_of ts
  replaceds-sort f by none same = refl
  replaceds-sort f by (t ⨾ ts) same = λ i. with_sort (replaced-sort f by t same i) (replaceds-sort f by ts same i)

-- ---- regular terms

abbrev Regular : Term → Type 0
Regular t = is_regular t ≡ true

not-minus-kind : (o : Op) (ss : Option (List Sort)) → is_logical (operator_kind o ss) ≡ true → is_minus o ≡ false
unfolding operator_kind is_minus
not-minus-kind Neg ss e = absurd cc
not-minus-kind _ ss e = refl

logical-minus : (h : Head) (ts us : Terms) → is_logical (kind_of h ts) ≡ true → is_minus_of h us ≡ false
unfolding is_minus_of
logical-minus (op o) ts us e = not_minus o us (not-minus-kind o (sorts_of ts) e)
logical-minus (symbol f) ts us e = refl
logical-minus (const_array s) ts us e = refl

either-regular : (k : Kind) (h : Head) (ts us : Terms) → kind_of h ts ≡ k → Regular (apply h ts) → are_regular us ≡ true → Regular (through_or k h ts us)
either-regular conjunction h ts us is given each = regular_over h us (record { head = (regular h ts given).head; no_minus = ap not (logical-minus h ts us (ap is_logical is)); operands = each })
either-regular disjunction h ts us is given each = regular_over h us (record { head = (regular h ts given).head; no_minus = ap not (logical-minus h ts us (ap is_logical is)); operands = each })
either-regular _ h ts us is given each = given

by-has : (P : Term → Type 0) (b : Bool) (by t : Term) → P by → P t → P (by_if b by t)
by-has P true by t p r = p
by-has P false by t p r = r

mutual
  pub replaced-regular : (f by t : Term) → is_regular by ≡ true → is_regular t ≡ true → is_regular (replaced f by t) ≡ true
  replaced-regular f by (apply h ts) new given = either-regular (kind_of h ts) h ts (replaced_each f by ts) refl given (replaceds-regular f by ts new (regular h ts given).operands)
  replaced-regular f by (quantified q xs body) new given = by-has Regular (term_eq f (quantified q xs body)) by (quantified q xs body) new given

  replaceds-regular : (f by : Term) (ts : Terms) → is_regular by ≡ true → are_regular ts ≡ true → are_regular (replaced_each f by ts) ≡ true
  replaceds-regular f by none new given = refl
  replaceds-regular f by (t ⨾ ts) new given =
      let parts = both_true (is_regular t) (are_regular ts) given in
      and_true (is_regular (replaced f by t)) (are_regular (replaced_each f by ts)) (replaced-regular f by t new parts.0) (replaceds-regular f by ts new parts.1)

-- ---- what stands in the term

module _ (fs : List Symbol) (N : Name → Type 0) (C : Type 0) where
  abbrev P : Term → Type 0
  P = Within fs N C

  each-within : (ts : Terms) → ((g : Symbol) → is_among (free_of ts) g ≡ true → is_among fs g ≡ true) → ((n : Name) → name_among (names_within_each ts) n ≡ true → N n) → (C → ClearEach ts) → AllOf P ts
  each-within none symbols names clear = tt
  each-within (t ⨾ ts) symbols names clear = (
    record { symbols = λ g among. symbols g (in-first (free t) (free_of ts) g among); names = λ n among. names n (in-left (names_within t) (names_within_each ts) n among); clear = λ c. (clear c).0 },
    each-within ts (λ g among. symbols g (in-second (free t) (free_of ts) g among)) (λ n among. names n (in-right (names_within t) (names_within_each ts) n among)) (λ c. (clear c).1),
  )

  pub operands-within : (h : Head) (ts : Terms) → P (apply h ts) → AllOf P ts
  operands-within h ts p =
      each-within ts (λ g among. p.symbols g (in-second (head_symbols h) (free_of ts) g among)) (λ n among. p.names n (in-right (names_of (head_symbols h)) (names_within_each ts) n among)) p.clear

  head-within-again : (h : Head) (ts us : Terms) → P (apply h ts) → AllOf P us → P (apply h us)
  head-within-again h ts us p all = head-within fs N C h us (λ g among. (p.symbols g (in-first (head_symbols h) (free_of ts) g among), p.names g.name (in-left (names_of (head_symbols h)) (names_within_each ts) g.name (among-name (head_symbols h) g among)))) all

  either-within : (k : Kind) (h : Head) (ts us : Terms) → P (apply h ts) → AllOf P us → P (through_or k h ts us)
  either-within conjunction h ts us p all = head-within-again h ts us p all
  either-within disjunction h ts us p all = head-within-again h ts us p all
  either-within _ h ts us p all = p

  mutual
    pub replaced-within : (f by t : Term) → P by → P t → P (replaced f by t)
    replaced-within f by (apply h ts) new p = either-within (kind_of h ts) h ts (replaced_each f by ts) p (replaceds-within f by ts new (operands-within h ts p))
    replaced-within f by (quantified q xs body) new p = by-has P (term_eq f (quantified q xs body)) by (quantified q xs body) new p

    replaceds-within : (f by : Term) (ts : Terms) → P by → AllOf P ts → AllOf P (replaced_each f by ts)
    replaceds-within f by none new all = tt
    replaceds-within f by (t ⨾ ts) new all = (replaced-within f by t new all.0, replaceds-within f by ts new all.1)

-- ---- what a term says, where f in it says b

abbrev by_kind : Kind → Bool → List Bool → Bool
by_kind conjunction v bs = all_bits bs
by_kind disjunction v bs = any_bit bs
by_kind _ v bs = v

abbrev mutual
  pub says : Model → Term → Term → Env → Bool → Bool
  says m f (apply h ts) e b = by_kind (kind_of h ts) (is_true (val m (apply h ts) e)) (say m f ts e b)
  says m f (quantified q xs body) e b = cond (term_eq f (quantified q xs body)) b (is_true (val m (quantified q xs body) e))

  say : Model → Term → Terms → Env → Bool → List Bool
  say m f none e b = []
  say m f (t ⨾ ts) e b = says m f t e b ∷ say m f ts e b

-- with the value of f: the value of the term
kind-says : (k : Kind) (v : Bool) (bs : List Bool) → (is_logical k ≡ true → v ≡ kind_value k bs) → by_kind k v bs ≡ v
kind-says conjunction v bs told = sym (told refl)
kind-says disjunction v bs told = sym (told refl)
kind-says _ v bs told = refl

placed-says : (b : Bool) (f t : Term) (m : Model) (e : Env) → term_eq f t ≡ b → cond b (is_true (val m f e)) (is_true (val m t e)) ≡ is_true (val m t e)
placed-says true f t m e h = ap (λ u. is_true (val m u e)) ((Decides-term_eq f t).0 h)
placed-says false f t m e h = refl

mutual
  pub says-itself : (m : Model) (f t : Term) (e : Env) (s : Sort) → sort_of t ≡ Some s → says m f t e (is_true (val m f e)) ≡ is_true (val m t e)
  says-itself m f (apply h ts) e s has =
      let a = applied h ts s has in
      kind-says (kind_of h ts) (is_true (val m (apply h ts) e)) (say m f ts e (is_true (val m f e)))
      (λ logical. connective-value h ts s m e has logical ∙ ap (kind_value (kind_of h ts)) (sym (say-themselves m f ts e a.sorts a.operands)))
  says-itself m f (quantified q xs body) e s has = placed-says (term_eq f (quantified q xs body)) f (quantified q xs body) m e refl

  say-themselves : (m : Model) (f : Term) (ts : Terms) (e : Env) (ss : List Sort) → sorts_of ts ≡ Some ss → say m f ts e (is_true (val m f e)) ≡ map is_true (vals m ts e)
  say-themselves m f none e ss has = refl
  say-themselves m f (t ⨾ ts) e ss has =
      let a = sorted t ts ss has in
      λ i. says-itself m f t e a.sort a.first i ∷ say-themselves m f ts e a.sorts a.others i

-- with the value of another formula: the value of the term with that one in its place
either-says : (k : Kind) (h : Head) (ts us : Terms) (bs : List Bool) (s : Sort) (m : Model) (e : Env) → kind_of h ts ≡ k → sorts_of us ≡ sorts_of ts → sort_of (apply h ts) ≡ Some s → map is_true (vals m us e) ≡ bs → is_true (val m (through_or k h ts us) e) ≡ by_kind k (is_true (val m (apply h ts) e)) bs
either-says conjunction h ts us bs s m e is same has values =
    let now : kind_of h us ≡ conjunction = ap (kind h) same ∙ is in
    connective-value h us s m e (ap (sort_over h) same ∙ has) (ap is_logical now) ∙ (λ i. kind_value (now i) (values i))
either-says disjunction h ts us bs s m e is same has values =
    let now : kind_of h us ≡ disjunction = ap (kind h) same ∙ is in
    connective-value h us s m e (ap (sort_over h) same ∙ has) (ap is_logical now) ∙ (λ i. kind_value (now i) (values i))
either-says _ h ts us bs s m e is same has values = refl

by-says : (b : Bool) (by t : Term) (m : Model) (e : Env) → is_true (val m (by_if b by t) e) ≡ cond b (is_true (val m by e)) (is_true (val m t e))
by-says true by t m e = refl
by-says false by t m e = refl

mutual
  pub replaced-says : (m : Model) (f by t : Term) (e : Env) (s : Sort) → sort_of by ≡ sort_of f → sort_of t ≡ Some s → is_true (val m (replaced f by t) e) ≡ says m f t e (is_true (val m by e))
  replaced-says m f by (apply h ts) e s same has =
      let a = applied h ts s has in
      either-says (kind_of h ts) h ts (replaced_each f by ts) (say m f ts e (is_true (val m by e))) s m e refl (replaceds-sort f by ts same) has (replaceds-say m f by ts e a.sorts same a.operands)
  replaced-says m f by (quantified q xs body) e s same has = by-says (term_eq f (quantified q xs body)) by (quantified q xs body) m e

  replaceds-say : (m : Model) (f by : Term) (ts : Terms) (e : Env) (ss : List Sort) → sort_of by ≡ sort_of f → sorts_of ts ≡ Some ss → map is_true (vals m (replaced_each f by ts) e) ≡ say m f ts e (is_true (val m by e))
  replaceds-say m f by none e ss same has = refl
  replaceds-say m f by (t ⨾ ts) e ss same has =
      let a = sorted t ts ss has in
      λ i. replaced-says m f by t e a.sort same a.first i ∷ replaceds-say m f by ts e a.sorts same a.others i

-- the environment counts at the term's free symbols alone
mutual
  pub says-same : (m : Model) (f t : Term) (d e : Env) (b : Bool) → SameAt (free t) d e → says m f t d b ≡ says m f t e b
  says-same m f (apply h ts) d e b same =
      λ i. by_kind (kind_of h ts) (is_true (val_same (apply h ts) m d e same i)) (say-same m f ts d e b (same_right (head_symbols h) (free_of ts) d e same) i)
  says-same m f (quantified q xs body) d e b same = ap (λ v. cond (term_eq f (quantified q xs body)) b (is_true v)) (val_same (quantified q xs body) m d e same)

  say-same : (m : Model) (f : Term) (ts : Terms) (d e : Env) (b : Bool) → SameAt (free_of ts) d e → say m f ts d b ≡ say m f ts e b
  say-same m f none d e b same = refl
  say-same m f (t ⨾ ts) d e b same =
      λ i. says-same m f t d e b (same_left (free t) (free_of ts) d e same) i ∷ say-same m f ts d e b (same_right (free t) (free_of ts) d e same) i

-- ---- monotone functions of a truth value

abbrev pub Monotone : (Bool → Bool) → Type 0
Monotone g = g false ≡ true → g true ≡ true

-- what says yes of the first list says yes of the second
abbrev AllRise : List Bool → List Bool → Type 0
AllRise [] [] = ⊤
AllRise (a ∷ cs) (b ∷ bs) = (a ≡ true → b ≡ true) × AllRise cs bs
AllRise _ _ = ⊥

all-rise : (cs bs : List Bool) → AllRise cs bs → all_bits cs ≡ true → all_bits bs ≡ true
all-rise [] [] rise e = refl
all-rise (a ∷ cs) (b ∷ bs) rise e = let parts = both_true a (all_bits cs) e in and_true b (all_bits bs) (rise.0 parts.0) (all-rise cs bs rise.1 parts.1)
all-rise [] (b ∷ bs) rise e = absurd rise
all-rise (a ∷ cs) [] rise e = absurd rise

any-rise : (cs bs : List Bool) → AllRise cs bs → any_bit cs ≡ true → any_bit bs ≡ true
any-rise [] [] rise e = absurd cc
any-rise (a ∷ cs) (b ∷ bs) rise e = go a e rise.0 (any-rise cs bs rise.1)
  where
    left : (c d : Bool) → c ≡ true → (c || d) ≡ true
    left c d h = cc

    right : (c d : Bool) → d ≡ true → (c || d) ≡ true
    right true d h = refl
    right false d h = h

    go : (c : Bool) → (c || any_bit cs) ≡ true → (c ≡ true → b ≡ true) → (any_bit cs ≡ true → any_bit bs ≡ true) → (b || any_bit bs) ≡ true
    go true h first rest = left b (any_bit bs) (first refl)
    go false h first rest = right b (any_bit bs) (rest h)
any-rise [] (b ∷ bs) rise e = absurd rise
any-rise (a ∷ cs) [] rise e = absurd rise

kind-rise : (k : Kind) (v : Bool) (cs bs : List Bool) → AllRise cs bs → by_kind k v cs ≡ true → by_kind k v bs ≡ true
kind-rise conjunction v cs bs rise e = all-rise cs bs rise e
kind-rise disjunction v cs bs rise e = any-rise cs bs rise e
kind-rise _ v cs bs rise e = e

placed-rise : (c v : Bool) → cond c false v ≡ true → cond c true v ≡ true
placed-rise true v e = refl
placed-rise false v e = e

mutual
  pub says-monotone : (m : Model) (f t : Term) (e : Env) → Monotone (says m f t e)
  says-monotone m f (apply h ts) e given = kind-rise (kind_of h ts) (is_true (val m (apply h ts) e)) (say m f ts e false) (say m f ts e true) (say-rise m f ts e) given
  says-monotone m f (quantified q xs body) e given = placed-rise (term_eq f (quantified q xs body)) (is_true (val m (quantified q xs body) e)) given

  say-rise : (m : Model) (f : Term) (ts : Terms) (e : Env) → AllRise (say m f ts e false) (say m f ts e true)
  say-rise m f none e = tt
  say-rise m f (t ⨾ ts) e = (says-monotone m f t e, say-rise m f ts e)

-- ---- a quantifier over variables that aren't free in the rest of the term

joined-monotone : (q : Quantifier) (g : Bool → Bool) (a b : Bool) → Monotone g → joined q (g a) (g b) ≡ g (joined q a b)
joined-monotone universal g true b rises = go (g true) (g b) (below b)
  where
    below : (c : Bool) → g c ≡ true → g true ≡ true
    below true e = e
    below false e = rises e

    go : (x y : Bool) → (y ≡ true → x ≡ true) → (x && y) ≡ y
    go true y h = refl
    go false true h = h refl
    go false false h = refl
joined-monotone universal g false b rises = go (g false) (g b) (above b)
  where
    above : (c : Bool) → g false ≡ true → g c ≡ true
    above true e = rises e
    above false e = e

    go : (x y : Bool) → (x ≡ true → y ≡ true) → (x && y) ≡ x
    go true y h = h refl
    go false y h = refl
joined-monotone existential g true b rises = go (g true) (g b) (below b)
  where
    below : (c : Bool) → g c ≡ true → g true ≡ true
    below true e = e
    below false e = rises e

    go : (x y : Bool) → (y ≡ true → x ≡ true) → (x || y) ≡ x
    go true y h = refl
    go false true h = sym (h refl)
    go false false h = refl
joined-monotone existential g false b rises = go (g false) (g b) (above b)
  where
    above : (c : Bool) → g false ≡ true → g c ≡ true
    above true e = rises e
    above false e = e

    go : (x y : Bool) → (x ≡ true → y ≡ true) → (x || y) ≡ y
    go true y h = sym (h refl)
    go false y h = refl

bits-monotone : (q : Quantifier) (w : ℕ) (g : Bool → Bool) (test : BitVector → Bool) → Monotone g → over_bits q w (λ bs. g (test bs)) ≡ g (over_bits q w test)
unfolding over_bits
bits-monotone q zero g test rises = refl
bits-monotone q (suc w) g test rises =
    (λ i. joined q (bits-monotone q w g (λ bs. test (false ∷ bs)) rises i) (bits-monotone q w g (λ bs. test (true ∷ bs)) rises i))
    ∙ joined-monotone q g (over_bits q w (λ bs. test (false ∷ bs))) (over_bits q w (λ bs. test (true ∷ bs))) rises

values-monotone : (q : Quantifier) (s : Sort) (sizes : Sizes) (g : Bool → Bool) (test : Value → Bool) → is_quantifiable s ≡ true → Monotone g → over_values q s sizes (λ v. g (test v)) ≡ g (over_values q s sizes test)
values-monotone q bool sizes g test h rises = joined-monotone q g (test (truth false)) (test (truth true)) rises
values-monotone q (bit_vector w) sizes g test h rises = bits-monotone q w g (λ bs. test (bits bs)) rises
values-monotone q int sizes g test h rises = absurd cc
values-monotone q (array i e) sizes g test h rises = absurd cc
values-monotone q (free_sort s) sizes g test h rises = absurd cc

-- none of these variables is among the symbols
abbrev pub AllApart : List Symbol → List Variable → Type 0
AllApart fs [] = ⊤
AllApart fs (y ∷ ys) = ((g : Symbol) → is_among fs g ≡ true → symbol_eq (constant_of y) g ≡ false) × AllApart fs ys

assigned-same : (y : Variable) (v : Value) (fs : List Symbol) (e : Env) → ((g : Symbol) → is_among fs g ≡ true → symbol_eq (constant_of y) g ≡ false) → SameAt fs (assign y v e) e
assigned-same y v fs e apart g among = ap (λ b. cond b (Some v) (e g)) (apart g among)

pub runs-past : (q : Quantifier) (ys : List Variable) (sizes : Sizes) (fs : List Symbol) (P : Env → Bool → Bool) → ((d e : Env) (b : Bool) → SameAt fs d e → P d b ≡ P e b) → ((e : Env) → Monotone (P e)) → (B : Env → Bool) → list_all (λ y. is_quantifiable y.sort) ys ≡ true → AllApart fs ys → (e : Env) → runs q ys sizes (λ d. P d (B d)) e ≡ P e (runs q ys sizes B e)
runs-past q [] sizes fs P alike rises B all apart e = refl
runs-past q (y ∷ ys) sizes fs P alike rises B all apart e =
    let parts = both_true (is_quantifiable y.sort) (list_all (λ z. is_quantifiable z.sort) ys) all in
    ap (over_values q y.sort sizes) (λ i v. (runs-past q ys sizes fs P alike rises B parts.1 apart.1 (assign y v e) ∙ alike (assign y v e) e (runs q ys sizes B (assign y v e)) (assigned-same y v fs e apart.0)) i)
    ∙ values-monotone q y.sort sizes (P e) (λ v. runs q ys sizes B (assign y v e)) parts.0 (rises e)
