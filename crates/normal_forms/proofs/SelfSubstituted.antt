-- Self-substitution: the term has its sort and its value in every model, no quantifier over truth values, no other free
-- symbols, and it is clear where it was. What was kept of quantified terms has all this too.
use Rattle.std.proofs.Common.{◌≡◌, Bool, true, false, cond, ◌&&◌, ◌||◌, ◌⊎◌, inl, inr, ℤ, List, [], ◌∷◌, map, Option, Some, None, refl, ap, sym, ◌∙◌, subst as carry}
use Rattle.std.specs.Prelude.{⊤, unwrap_or, is_some}
use Rattle.std.specs.List.{list_all}
use Rattle.smt_terms.specs.declared.op.Op.{Op}
use Rattle.smt_terms.specs.declared.op.Op.TheVariants.{Whole}
use Rattle.smt_terms.specs.Sorts.{Name, Sort, bool, int, bit_vector, array, free_sort, Symbol, Variable}
use Rattle.smt_terms.specs.Term.{Quantifier, universal, existential, Head, op, symbol, const_array, Term, apply, quantified, Terms, none, ◌⨾◌, constant_of, constant, variable}
use Rattle.smt_terms.specs.Equal.{name_eq, symbol_eq, term_eq}
use Rattle.smt_terms.specs.Free.{is_among, name_among, names_of, without, head_symbols, free, free_of}
use Rattle.smt_terms.specs.Rank.{rank, shape, is_sort, is_minus_of, is_minus, is_whole, is_regular, are_regular, sort_over, with_sort, sort_of, sorts_of}
use Rattle.smt_terms.specs.Values.{Value, Sizes, truth, is_true, is_value, joined}
use Rattle.smt_terms.specs.Models.{Model, IsModel}
use Rattle.smt_terms.specs.Val.{Env, assign, runs, head_value, val, vals}
use Rattle.smt_terms.specs.Laws.{IsEnv}
use Rattle.smt_terms.specs.Keeps.{Keeps}
use Rattle.smt_terms.specs.Constants.{whole_term}
use Rattle.smt_terms.specs.Fresh.{Supply, NeverGives}
use Rattle.smt_terms.specs.Subst.{Map, image, subst}
use Rattle.smt_terms.specs.SubstLaws.{under, value_or, HaveSorts, names_within, names_within_each, GivesNone, GivesNoImage, ReplacesConstants, LeftFree, stays, comes, Later}
use Rattle.smt_terms.specs.Shapes.{is_bool}
use Rattle.smt_terms.proofs.Tests.{both_true, and_true, either_true, left_true, right_true}
use Rattle.smt_terms.proofs.Equal.{Decides-name_eq, Decides-symbol_eq, Decides-term_eq}
use Rattle.smt_terms.proofs.Ranked.{rank-takes}
use Rattle.smt_terms.proofs.Sorted.{applied, sorted, quantified_sort}
use Rattle.smt_terms.proofs.SortsOfTerms.{regular}
use Rattle.smt_terms.proofs.Respects.{equal_same}
use Rattle.smt_terms.proofs.Valid.{val_valid}
use Rattle.smt_terms.proofs.Keeping.{env_assign, runs_alike, two_or_more}
use Rattle.smt_terms.proofs.Runs.{among-name}
use Rattle.smt_terms.proofs.Substitution.{symbols-spared, subst-keeps_meaning, subst-gives_later}
use Rattle.smt_terms.proofs.SubstNames.{subst-spares_names}
use Rattle.smt_terms.proofs.SubstFree.{subst-leaves_free}
use Rattle.normal_forms.specs.Laws.{RewritesWith}
use Rattle.normal_forms.specs.Quantifiers.{over_left, not_bool, at_truth, witness, substitute_bool, substitute_each, Solved, Solving, solved_for, solved_or, solve, selfsub_from, selfsubs_from, selfsub}
use Rattle.normal_forms.proofs.Inherited.{AllOf}
use Rattle.normal_forms.proofs.Clear.{bindable-parts, Clear, ClearEach, in-first, in-second, to-without}
use Rattle.normal_forms.proofs.Inside.{in-left, in-right, Within, NamedIn, wider, head-within}
use Rattle.normal_forms.proofs.AtTruth.{at_truth-sort, at_truth-value}
use Rattle.normal_forms.proofs.Shannon.{bool_at, bools, runs-bools, kept-distinct, kept-quantifiable, over-left-sort}
use Rattle.normal_forms.proofs.ShannonRegular.{at_truth-regular, kept-sorts, over-left-regular, head-regular}
use Rattle.normal_forms.proofs.ShannonInside.{bool_variables, in-less, more-without, at_truth-within, over-left-within, each-map}
use Rattle.normal_forms.proofs.Substituted.{IsSubst, ImagesHave, subst-is, subst-regular, subst-clear}
use Rattle.normal_forms.proofs.Keeps.{rewrites-from, sort-known}

abbrev Formula : Term → Type 0
Formula t = sort_of t ≡ Some bool

-- ---- values of formulas in models

exact : (v : Value) (sizes : Sizes) → is_value bool sizes v ≡ true → v ≡ truth (is_true v)
exact (truth b) sizes e = refl
exact _ sizes e = absurd cc

formula-exact : (b : Term) (m : Model) (e : Env) → Formula b → IsModel m → IsEnv m.sizes e → val m b e ≡ truth (is_true (val m b e))
formula-exact b m e has model env = exact (val m b e) m.sizes (val_valid b bool m e model env has)

-- ---- one Bool variable: what stands for it is the body at a truth value

abbrev chosen : Quantifier → Bool
chosen existential = true
chosen universal = false

witness-at : (q : Quantifier) (x : Variable) (u : Term) → witness q x u ≡ at_truth (chosen q) x u
witness-at existential x u = refl
witness-at universal x u = refl

-- of the values of the body at false and at true
twice : (q : Quantifier) (T : Bool → Bool) → T (T (chosen q)) ≡ joined q (T false) (T true)
twice existential T = go (T true) refl
  where
    or-true : (a b : Bool) → b ≡ true → b ≡ (a || b)
    or-true true b e = e
    or-true false b e = refl

    or-false : (a b : Bool) → b ≡ false → a ≡ (a || b)
    or-false true b e = refl
    or-false false b e = sym e

    go : (b : Bool) → T true ≡ b → T (T true) ≡ (T false || T true)
    go true e = ap T e ∙ or-true (T false) (T true) e
    go false e = ap T e ∙ or-false (T false) (T true) e
twice universal T = go (T false) refl
  where
    and-true : (a b : Bool) → a ≡ true → b ≡ (a && b)
    and-true true b e = refl
    and-true false b e = absurd cc

    and-false : (a b : Bool) → a ≡ false → a ≡ (a && b)
    and-false true b e = absurd cc
    and-false false b e = refl

    go : (b : Bool) → T false ≡ b → T (T false) ≡ (T false && T true)
    go true e = ap T e ∙ and-true (T false) (T true) e
    go false e = ap T e ∙ and-false (T false) (T true) e

abbrev one : Variable → Term → Map
one x w = (constant_of x, w) ∷ []

one-image : (x : Variable) (w : Term) (g : Symbol) (u : Term) → image (one x w) g ≡ Some u → (symbol_eq (constant_of x) g ≡ true) × (w ≡ u)
one-image x w g u found = go (symbol_eq (constant_of x) g) refl found
  where
    go : (b : Bool) → symbol_eq (constant_of x) g ≡ b → cond b (Some w) None ≡ Some u → (symbol_eq (constant_of x) g ≡ true) × (w ≡ u)
    go true e h = let same : w ≡ u = cc in (e, same)
    go false e h = absurd cc

one-none : (x : Variable) (w : Term) (g : Symbol) → image (one x w) g ≡ None → symbol_eq (constant_of x) g ≡ false
one-none x w g found = go (symbol_eq (constant_of x) g) refl found
  where
    go : (b : Bool) → symbol_eq (constant_of x) g ≡ b → cond b (Some w) None ≡ None → b ≡ false
    go true e h = absurd cc
    go false e h = refl

one-has : (P : Term → Type 0) (x : Variable) (w : Term) → P w → ImagesHave P (one x w)
one-has P x w here g u found = carry P (one-image x w g u found).1 here

one-under : (m : Model) (x : Variable) (w : Term) (e : Env) → under m (one x w) e ≡ assign x (val m w e) e
one-under m x w e = λ i g. at g i
  where
    at : (g : Symbol) → under m (one x w) e g ≡ assign x (val m w e) e g
    at g = go (symbol_eq (constant_of x) g)
      where
        go : (b : Bool) → value_or m (cond b (Some w) None) e g ≡ cond b (Some (val m w e)) (e g)
        go true = refl
        go false = refl

variable-sort : (x : Variable) → x.sort ≡ bool → sort_of (variable x) ≡ Some bool
unfolding rank
variable-sort x is = ap (λ s. sort_of (constant (record { name = x.name; args = []; result = s }))) is

one-sorts : (x : Variable) (w : Term) → x.sort ≡ bool → Formula w → HaveSorts (one x w)
one-sorts x w is has g u found =
    let parts = one-image x w g u found in
    ap sort_of (sym parts.1) ∙ has ∙ sym (variable-sort x is) ∙ ap (λ f. sort_of (constant f)) ((Decides-symbol_eq (constant_of x) g).0 parts.0)

one-constants : (x : Variable) (w : Term) → ReplacesConstants (one x w)
one-constants x w g u found = sym (ap (λ (f : Symbol). f.args) ((Decides-symbol_eq (constant_of x) g).0 (one-image x w g u found).0))

-- names of free symbols are names within
named-symbol : (fs : List Symbol) (k : Name) → name_among (names_of fs) k ≡ true → (g : Symbol) × (is_among fs g ≡ true) × (g.name ≡ k)
named-symbol [] k among = absurd cc
named-symbol (f ∷ fs) k among = go (either_true (name_eq f.name k) (name_among (names_of fs) k) among) (named-symbol fs k)
  where
    go : (name_eq f.name k ≡ true) ⊎ (name_among (names_of fs) k ≡ true) → (name_among (names_of fs) k ≡ true → (g : Symbol) × (is_among fs g ≡ true) × (g.name ≡ k)) → (g : Symbol) × (is_among (f ∷ fs) g ≡ true) × (g.name ≡ k)
    go (inl here) below = (f, left_true (symbol_eq f f) (is_among fs f) ((Decides-symbol_eq f f).1 refl), (Decides-name_eq f.name k).0 here)
    go (inr there) below = let found = below there in (found.0, right_true (symbol_eq f found.0) (is_among fs found.0) found.1, found.2)

free-spared : (s : Supply) (t : Term) → GivesNone s (names_within t) → GivesNone s (names_of (free t))
free-spared s t given n among = let found = named-symbol (free t) n among in carry (NeverGives s) found.2 (symbols-spared s t given found.0 found.1)

-- ---- the body after some of the Bool variables

-- a formula and the supply that is left behind the supply n: what it says in models, where it is regular, and what is in it
record Taken (A : Model → Env → Bool) (R : Type 0) (fs : List Symbol) (C : Type 0) (n : Supply) (r : Term × Supply) : Type 0 where
  sort : Formula r.0
  value : (m : Model) (e : Env) → IsModel m → IsEnv m.sizes e → is_true (val m r.0 e) ≡ A m e
  regular : R → is_regular r.0 ≡ true
  within : Within fs (NeverGives r.1) C r.0
  later : Later n r.1

truth-env : (x : Variable) (b : Bool) (m : Model) (e : Env) → x.sort ≡ bool → IsEnv m.sizes e → IsEnv m.sizes (assign x (truth b) e)
truth-env x b m e is env = env_assign m.sizes x (truth b) e (ap (λ s. is_value s m.sizes (truth b)) is) env

at-value : (A : Model → Env → Bool) (q : Quantifier) (x : Variable) (u : Term) (r : Term) → x.sort ≡ bool → Formula u
    → ((m : Model) (e : Env) → IsModel m → IsEnv m.sizes e → is_true (val m u e) ≡ A m e)
    → ((m : Model) (e : Env) → val m r e ≡ val m u (under m (one x (at_truth (chosen q) x u)) e))
    → (m : Model) (e : Env) → IsModel m → IsEnv m.sizes e → is_true (val m r e) ≡ joined q (A m (assign x (truth false) e)) (A m (assign x (truth true) e))
at-value A q x u r is has before told m e model env =
    let w : Term = at_truth (chosen q) x u in
    let here : val m w e ≡ truth (is_true (val m u (assign x (truth (chosen q)) e))) =
    at_truth-value u (chosen q) x m e is ∙ formula-exact u m (assign x (truth (chosen q)) e) has model (truth-env x (chosen q) m e is env) in
    ap is_true (told m e ∙ ap (val m u) (one-under m x (at_truth (chosen q) x u) e) ∙ ap (λ v. val m u (assign x v e)) here)
    ∙ twice q (λ b. is_true (val m u (assign x (truth b) e)))
    ∙ (λ i. joined q (before m (assign x (truth false) e) model (truth-env x false m e is env) i) (before m (assign x (truth true) e) model (truth-env x true m e is env) i))

one-taken : (A : Model → Env → Bool) (R : Type 0) (fs gs : List Symbol) (C : Type 0) (n : Supply) (q : Quantifier) (x : Variable) (u : Term) (s : Supply) → x.sort ≡ bool
    → ((g : Symbol) → symbol_eq (constant_of x) g ≡ false → is_among fs g ≡ true → is_among gs g ≡ true)
    → Taken A R fs C n (u, s) → Taken (λ m e. joined q (A m (assign x (truth false) e)) (A m (assign x (truth true) e))) R gs C n (subst (one x (at_truth (chosen q) x u)) u s)
one-taken A R fs gs C n q x u s is less taken = record {
  sort = told.0;
  value = at-value A q x u (subst (one x w) u s).0 is taken.sort taken.value told.1;
  regular = λ given. subst-regular ⊤ u (one x w) (subst (one x w) u s).0 made (taken.regular given) (one-has (λ t. is_regular t ≡ true) x w (at_truth-regular u (chosen q) x (taken.regular given)));
  within = record {
    symbols = λ g among. left g (subst-leaves_free (one x w) u s bool taken.sort (one-constants x w) g among);
    names = subst-spares_names (one x w) u s taken.within.names (λ g v found. carry (λ t. GivesNone s (names_within t)) (one-image x w g v found).1 names);
    clear = λ c. subst-clear u (one x w) (subst (one x w) u s).0 bool taken.sort made (taken.within.clear c) (one-has Clear x w (inside.clear (taken.within.clear c)));
  };
  later = λ k never. subst-gives_later (one x w) u s sorts images taken.within.names k (taken.later k never);
}
  where
    w : Term
    w = at_truth (chosen q) x u

    inside : Within (without (x ∷ []) (free u)) (NamedIn (names_within u)) (Clear u) (at_truth (chosen q) x u)
    inside = at_truth-within u (chosen q) x bool is taken.sort

    names : GivesNone s (names_within (at_truth (chosen q) x u))
    names k among = taken.within.names k (inside.names k among)

    sorts : HaveSorts (one x (at_truth (chosen q) x u))
    sorts = one-sorts x (at_truth (chosen q) x u) is (at_truth-sort u (chosen q) x is ∙ taken.sort)

    images : GivesNoImage s (one x (at_truth (chosen q) x u))
    images g v found = carry (λ t. GivesNone s (names_of (free t))) (one-image x (at_truth (chosen q) x u) g v found).1 (free-spared s (at_truth (chosen q) x u) names)

    told : (sort_of (subst (one x (at_truth (chosen q) x u)) u s).0 ≡ Some bool) × ((m : Model) (e : Env) → val m (subst (one x (at_truth (chosen q) x u)) u s).0 e ≡ val m u (under m (one x (at_truth (chosen q) x u)) e))
    told = subst-keeps_meaning (one x (at_truth (chosen q) x u)) u s sorts images taken.within.names bool taken.sort

    made : IsSubst ⊤ (one x (at_truth (chosen q) x u)) u (subst (one x (at_truth (chosen q) x u)) u s).0
    made = subst-is (one x (at_truth (chosen q) x u)) u s (one-constants x (at_truth (chosen q) x u)) images taken.within.names

    left : (g : Symbol) → LeftFree (one x (at_truth (chosen q) x u)) (free u) g → is_among gs g ≡ true
    left g (stays among none_) = less g (one-none x (at_truth (chosen q) x u) g none_) (taken.within.symbols g among)
    left g (comes h v among found there) =
        let parts = in-less x (free u) g (inside.symbols g (ap (λ t. is_among (free t) g) (one-image x (at_truth (chosen q) x u) h v found).1 ∙ there)) in
        less g parts.1 (taken.within.symbols g parts.0)

bool-taken : (s : Sort) (A : Model → Env → Bool) (R : Type 0) (ys : List Variable) (fs : List Symbol) (C : Type 0) (n : Supply) (q : Quantifier) (x : Variable) (r : Term × Supply) → x.sort ≡ s
    → Taken A R (without ys fs) C n r → Taken (λ m e. bool_at s q x (A m) e) R (without (cond (is_bool s) (x ∷ ys) ys) fs) C n (substitute_bool s q x r)
bool-taken bool A R ys fs C n q x r is taken =
    carry (λ w. Taken (λ m e. joined q (A m (assign x (truth false) e)) (A m (assign x (truth true) e))) R (without (x ∷ ys) fs) C n (subst (one x w) r.0 r.1)) (sym (witness-at q x r.0))
    (one-taken A R (without ys fs) (without (x ∷ ys) fs) C n q x r.0 r.1 is (λ g other among. more-without x ys fs g other among) taken)
bool-taken int A R ys fs C n q x r is taken = taken
bool-taken (bit_vector w) A R ys fs C n q x r is taken = taken
bool-taken (array j e) A R ys fs C n q x r is taken = taken
bool-taken (free_sort k) A R ys fs C n q x r is taken = taken

each-taken : (A : Model → Env → Bool) (R : Type 0) (fs : List Symbol) (C : Type 0) (n : Supply) (q : Quantifier) (xs : List Variable) (r : Term × Supply)
    → Taken A R (without [] fs) C n r → Taken (λ m e. bools q xs (A m) e) R (without (bool_variables xs) fs) C n (substitute_each q xs r)
each-taken A R fs C n q [] r taken = taken
each-taken A R fs C n q (x ∷ xs) r taken =
    bool-taken x.sort (λ m e. bools q xs (A m) e) R (bool_variables xs) fs C n q x (substitute_each q xs r) refl (each-taken A R fs C n q xs r taken)

-- ---- results

-- r is what the well-sorted t of sort s becomes, where this supply is left
record Sound (t r : Term) (left : Supply) (s : Sort) : Type 0 where
  sort : sort_of r ≡ Some s
  value : (m : Model) (e : Env) → IsModel m → IsEnv m.sizes e → val m r e ≡ val m t e
  regular : is_regular t ≡ true → is_regular r ≡ true
  within : Within (free t) (NeverGives left) (Clear t) r

sound-later : (t r : Term) (left after : Supply) (s : Sort) → Later left after → Sound t r left s → Sound t r after s
sound-later t r left after s later sound = record {
  sort = sound.sort;
  value = sound.value;
  regular = sound.regular;
  within = wider (free t) (free t) (NeverGives left) (NeverGives after) (Clear t) (Clear t) r (λ g among. among) later (λ c. c) sound.within;
}

over-left-exact : (q : Quantifier) (ys : List Variable) (b : Term) (m : Model) (e : Env) → val m b e ≡ truth (is_true (val m b e)) → val m (over_left q ys b) e ≡ truth (runs q ys m.sizes (λ d. is_true (val m b d)) e)
over-left-exact q [] b m e known = known
over-left-exact q (y ∷ ys) b m e known = refl

quantified-sound : (q : Quantifier) (xs : List Variable) (body b : Term) (s : Sort) (n : Supply) (r : Term × Supply) → sort_of (quantified q xs body) ≡ Some s
    → ((m : Model) (e : Env) → IsModel m → IsEnv m.sizes e → val m b e ≡ val m body e)
    → ((k : Name) → name_among (map (λ x. x.name) xs) k ≡ true → NeverGives r.1 k)
    → Taken (λ m e. bools q xs (λ d. is_true (val m b d)) e) (is_regular body ≡ true) (without (bool_variables xs) (free body)) (Clear body) n r
    → Sound (quantified q xs body) (over_left q (not_bool xs) r.0) r.1 s
quantified-sound q xs body b s n r has same names taken =
    let parts = quantified_sort q xs body s has in
    let variables = bindable-parts xs parts.bindable in
    record {
      sort = over-left-sort q (not_bool xs) r.0 (kept-distinct xs variables.0) (kept-quantifiable xs variables.1) taken.sort ∙ ap Some (sym parts.sort);
      value = λ m e model env.
          over-left-exact q (not_bool xs) r.0 m e (formula-exact r.0 m e taken.sort model env)
          ∙ ap truth (
          runs_alike q (not_bool xs) m.sizes (λ d. is_true (val m r.0 d)) (bools q xs (λ d. is_true (val m b d))) (λ d valid. taken.value m d model valid) e env
          ∙ runs-bools q xs m.sizes (λ d. is_true (val m b d)) e
          ∙ runs_alike q xs m.sizes (λ d. is_true (val m b d)) (λ d. is_true (val m body d)) (λ d valid. ap is_true (same m d model valid)) e env
          );
      regular = λ given.
          let rules = both_true (list_all (λ x. is_sort x.sort) xs) (is_regular body) given in
          over-left-regular q (not_bool xs) r.0 (kept-sorts xs rules.0) (taken.regular rules.1);
      within = over-left-within q xs body r.0 (NeverGives r.1) names taken.within;
    }

-- ---- operands: no unary minus comes to stand over a constant

whole-sort : (n : ℤ) (s : Sort) → sort_of (whole_term n) ≡ Some s → s ≡ int
unfolding shape
whole-sort n s has =
    let parts = applied (op (Whole n)) none s has in
    (rank-takes (op (Whole n)) parts.sorts s parts.rank).2

formula-minus : (p : Op) (u : Term) → Formula u → is_minus_of (op p) (u ⨾ none) ≡ false
unfolding is_minus_of is_whole
formula-minus p (quantified q xs t) has = refl
formula-minus p (apply (symbol f) ts) has = refl
formula-minus p (apply (const_array s) ts) has = refl
formula-minus p (apply (op c) (t ⨾ ts)) has = refl
formula-minus p (apply (op (Whole n)) none) has = absurd (never (whole-sort n bool has))
  where
    never : bool ≡ int → ⊥
    never e = absurd cc
formula-minus p (apply (op c) none) has = nothing (is_minus p)
  where
    nothing : (b : Bool) → (b && false) ≡ false
    nothing true = refl
    nothing false = refl

-- ---- all terms, with the results that were kept

abbrev AllSound : Supply → List Solved → Type 0
AllSound left [] = ⊤
AllSound left (e ∷ es) = ((s : Sort) → sort_of e.term ≡ Some s → Sound e.term e.result left s) × AllSound left es

all-later : (left after : Supply) (es : List Solved) → Later left after → AllSound left es → AllSound after es
all-later left after [] later all = tt
all-later left after (e ∷ es) later all = ((λ s has. sound-later e.term e.result left after s later (all.0 s has)), all-later left after es later all.1)

found-sound : (left : Supply) (es : List Solved) (t r : Term) (s : Sort) → AllSound left es → solved_for es t ≡ Some r → sort_of t ≡ Some s → Sound t r left s
found-sound left [] t r s all found has = absurd cc
found-sound left (e ∷ es) t r s all found has = go (term_eq e.term t) refl found (λ there. found-sound left es t r s all.1 there has)
  where
    go : (b : Bool) → term_eq e.term t ≡ b → elim b [ true ↦ Some e.result | false ↦ solved_for es t ] ≡ Some r → (solved_for es t ≡ Some r → Sound t r left s) → Sound t r left s
    go true h k below =
        let same : e.term ≡ t = (Decides-term_eq e.term t).0 h in
        let result : e.result ≡ r = cc in
        carry (λ u. Sound u r left s) same (carry (λ u. Sound e.term u left s) result (all.0 s (ap sort_of same ∙ has)))
    go false h k below = below k

record Start (ns : List Name) (s : Solving) : Type 0 where
  names : GivesNone s.names ns
  solved : AllSound s.names s.solved

record End (t : Term) (sort : Sort) (s : Solving) (r : Term × Solving) : Type 0 where
  sound : Sound t r.0 r.1.names sort
  solved : AllSound r.1.names r.1.solved
  later : Later s.names r.1.names

-- of operands: what stands in them, as of one term
abbrev WithinEach : Terms → Supply → Term → Type 0
WithinEach ts left r = Within (free_of ts) (NeverGives left) (ClearEach ts) r

record Ends (ts : Terms) (ss : List Sort) (s : Solving) (r : Terms × Solving) : Type 0 where
  sorts : sorts_of r.0 ≡ Some ss
  values : (m : Model) (e : Env) → IsModel m → IsEnv m.sizes e → vals m r.0 e ≡ vals m ts e
  regular : are_regular ts ≡ true → are_regular r.0 ≡ true
  minus : (h : Head) → is_minus_of h r.0 ≡ is_minus_of h ts
  within : AllOf (WithinEach ts r.1.names) r.0
  solved : AllSound r.1.names r.1.solved
  later : Later s.names r.1.names

quantified-end : (q : Quantifier) (xs : List Variable) (body : Term) (sort : Sort) (s : Solving) → sort_of (quantified q xs body) ≡ Some sort → Start (names_within (quantified q xs body)) s
    → End body bool s (selfsub_from body s)
    → (o : Option Term) → solved_for s.solved (quantified q xs body) ≡ o
    → End (quantified q xs body) sort s (solved_or o s (λ s'. solve (quantified q xs body) q xs (selfsub_from body s')))
quantified-end q xs body sort s has start below (Some r) found = record {
  sound = found-sound s.names s.solved (quantified q xs body) r sort start.solved found has;
  solved = start.solved;
  later = λ n never. never;
}
quantified-end q xs body sort s has start below None found = record {
  sound = sound sort has;
  solved = (sound, all-later b.1.names r.1 b.1.solved taken.later below.solved);
  later = λ n never. taken.later n (below.later n never);
}
  where
    b : Term × Solving
    b = selfsub_from body s

    r : Term × Supply
    r = substitute_each q xs ((selfsub_from body s).0, (selfsub_from body s).1.names)

    begun : Taken (λ m e. is_true (val m (selfsub_from body s).0 e)) (is_regular body ≡ true) (without [] (free body)) (Clear body) (selfsub_from body s).1.names ((selfsub_from body s).0, (selfsub_from body s).1.names)
    begun = record {
      sort = below.sound.sort;
      value = λ m e model env. refl;
      regular = below.sound.regular;
      within = wider (free body) (without [] (free body)) (NeverGives (selfsub_from body s).1.names) (NeverGives (selfsub_from body s).1.names) (Clear body) (Clear body) (selfsub_from body s).0 (λ g among. to-without [] (free body) g among refl) (λ n never. never) (λ c. c) below.sound.within;
      later = λ n never. never;
    }

    taken : Taken (λ m e. bools q xs (λ d. is_true (val m (selfsub_from body s).0 d)) e) (is_regular body ≡ true) (without (bool_variables xs) (free body)) (Clear body) (selfsub_from body s).1.names (substitute_each q xs ((selfsub_from body s).0, (selfsub_from body s).1.names))
    taken = each-taken (λ m e. is_true (val m (selfsub_from body s).0 e)) (is_regular body ≡ true) (free body) (Clear body) (selfsub_from body s).1.names q xs ((selfsub_from body s).0, (selfsub_from body s).1.names) begun

    sound : (t : Sort) → sort_of (quantified q xs body) ≡ Some t → Sound (quantified q xs body) (over_left q (not_bool xs) (substitute_each q xs ((selfsub_from body s).0, (selfsub_from body s).1.names)).0) (substitute_each q xs ((selfsub_from body s).0, (selfsub_from body s).1.names)).1 t
    sound t known =
        quantified-sound q xs body (selfsub_from body s).0 t (selfsub_from body s).1.names (substitute_each q xs ((selfsub_from body s).0, (selfsub_from body s).1.names)) known below.sound.value
        (λ k among. taken.later k (below.later k (start.names k (in-left (map (λ x. x.name) xs) (names_within body) k among)))) taken

-- a single operand, and two or more
first-minus : (h : Head) (t : Term) (ts : Terms) (s : Solving) (sort : Sort) → sort_of t ≡ Some sort → sort_of (selfsub_from t s).0 ≡ Some sort → (v : Solving) → is_minus_of h ((selfsub_from t s).0 ⨾ (selfsubs_from ts v).0) ≡ is_minus_of h (t ⨾ ts)
unfolding is_minus_of
first-minus (symbol f) t ts s sort has after v = refl
first-minus (const_array r) t ts s sort has after v = refl
first-minus (op p) t (u ⨾ ts) s sort has after v = two_or_more p (selfsub_from t s).0 (selfsub_from u v).0 (selfsubs_from ts (selfsub_from u v).1).0 ∙ sym (two_or_more p t u ts)
first-minus (op p) (apply (symbol f) ws) none s sort has after v = refl
first-minus (op p) (apply (const_array r) ws) none s sort has after v = refl
first-minus (op p) (apply (op c) none) none s sort has after v = refl
first-minus (op p) (apply (op c) (w ⨾ ws)) none s sort has after v = refl
first-minus (op p) (quantified q xs w) none s sort has after v = formula-minus p (selfsub_from (quantified q xs w) s).0 (after ∙ ap Some (quantified_sort q xs w sort has).sort)

mutual
  selfsub-end : (t : Term) (sort : Sort) (s : Solving) → sort_of t ≡ Some sort → Start (names_within t) s → End t sort s (selfsub_from t s)
  selfsub-end (apply h ts) sort s has start =
      let a = applied h ts sort has in
      let out : Ends ts a.sorts s (selfsubs_from ts s) = selfsubs-end ts a.sorts s a.operands (record { names = λ n among. start.names n (in-right (names_of (head_symbols h)) (names_within_each ts) n among); solved = start.solved }) in
      let us : Terms = (selfsubs_from ts s).0 in
      let left : Supply = (selfsubs_from ts s).1.names in
      let same : sorts_of (selfsubs_from ts s).0 ≡ sorts_of ts = out.sorts ∙ sym a.operands in
      record {
        sound = record {
          sort = ap (sort_over h) same ∙ has;
          value = λ m e model env i. head_value m e h (unwrap_or (same i) []) (out.values m e model env i);
          regular = λ given. head-regular h ts (selfsubs_from ts s).0 (out.minus h) given (out.regular (regular h ts given).operands);
          within = head-within (free (apply h ts)) (NeverGives left) (ClearEach ts) h (selfsubs_from ts s).0
              (λ g among. (in-first (head_symbols h) (free_of ts) g among, out.later g.name (start.names g.name (in-left (names_of (head_symbols h)) (names_within_each ts) g.name (among-name (head_symbols h) g among)))))
              (each-map (WithinEach ts left) (Within (free (apply h ts)) (NeverGives left) (ClearEach ts)) (λ r i. wider (free_of ts) (free (apply h ts)) (NeverGives left) (NeverGives left) (ClearEach ts) (ClearEach ts) r (in-second (head_symbols h) (free_of ts)) (λ n never. never) (λ c. c) i) (selfsubs_from ts s).0 out.within);
        };
        solved = out.solved;
        later = out.later;
      }
  selfsub-end (quantified q xs body) sort s has start =
      quantified-end q xs body sort s has start
      (selfsub-end body bool s (quantified_sort q xs body sort has).body (record { names = λ n among. start.names n (in-right (map (λ x. x.name) xs) (names_within body) n among); solved = start.solved }))
      (solved_for s.solved (quantified q xs body)) refl

  selfsubs-end : (ts : Terms) (ss : List Sort) (s : Solving) → sorts_of ts ≡ Some ss → Start (names_within_each ts) s → Ends ts ss s (selfsubs_from ts s)
  selfsubs-end none ss s has start = record {
    sorts = has;
    values = λ m e model env. refl;
    regular = λ given. refl;
    minus = λ h. refl;
    within = tt;
    solved = start.solved;
    later = λ n never. never;
  }
  selfsubs-end (t ⨾ ts) ss s has start =
      let a = sorted t ts ss has in
      let first : End t a.sort s (selfsub_from t s) = selfsub-end t a.sort s a.first (record { names = λ n among. start.names n (in-left (names_within t) (names_within_each ts) n among); solved = start.solved }) in
      let v : Solving = (selfsub_from t s).1 in
      let rest : Ends ts a.sorts (selfsub_from t s).1 (selfsubs_from ts (selfsub_from t s).1) = selfsubs-end ts a.sorts (selfsub_from t s).1 a.others (record { names = λ n among. first.later n (start.names n (in-right (names_within t) (names_within_each ts) n among)); solved = first.solved }) in
      let left : Supply = (selfsubs_from ts (selfsub_from t s).1).1.names in
      record {
        sorts = (λ i. with_sort (first.sound.sort i) (rest.sorts i)) ∙ ap Some (sym a.all);
        values = λ m e model env i. first.sound.value m e model env i ∷ rest.values m e model env i;
        regular = λ given. let parts = both_true (is_regular t) (are_regular ts) given in and_true (is_regular (selfsub_from t s).0) (are_regular (selfsubs_from ts (selfsub_from t s).1).0) (first.sound.regular parts.0) (rest.regular parts.1);
        minus = λ h. first-minus h t ts s a.sort a.first first.sound.sort v;
        within = (
          wider (free t) (free_of (t ⨾ ts)) (NeverGives v.names) (NeverGives left) (Clear t) (ClearEach (t ⨾ ts)) (selfsub_from t s).0 (in-first (free t) (free_of ts)) rest.later (λ c. c.0) first.sound.within,
          each-map (WithinEach ts left) (WithinEach (t ⨾ ts) left) (λ r i. wider (free_of ts) (free_of (t ⨾ ts)) (NeverGives left) (NeverGives left) (ClearEach ts) (ClearEach (t ⨾ ts)) r (in-second (free t) (free_of ts)) (λ n never. never) (λ c. c.1) i) (selfsubs_from ts (selfsub_from t s).1).0 rest.within,
        );
        solved = rest.solved;
        later = λ n never. rest.later n (first.later n never);
      }

-- ---- the law

started : (t : Term) (s : Supply) → GivesNone s (names_within t) → Start (names_within t) (record { names = s; solved = [] })
started t s names = record { names = names; solved = tt }

pub selfsub-rewrites : RewritesWith selfsub
selfsub-rewrites t s fine names =
    let found = sort-known t fine in
    let out : End t found.0 (record { names = s; solved = [] }) (selfsub_from t (record { names = s; solved = [] })) = selfsub-end t found.0 (record { names = s; solved = [] }) found.1 (started t s names) in
    let parts = both_true (is_some (sort_of t)) (is_regular t) fine in
    let keeps : Keeps t (selfsub t s).0 = record {
      sorted = and_true (is_some (sort_of (selfsub t s).0)) (is_regular (selfsub t s).0) (ap is_some out.sound.sort) (out.sound.regular parts.1);
      sort = out.sound.sort ∙ sym found.1;
      value = λ m e sort model env has. equal_same sort m.sizes (sym (out.sound.value m e model env));
    } in
    record { rewrites = rewrites-from t (selfsub t s).0 found.0 found.1 keeps out.sound.within.symbols out.sound.within.clear; later = out.later; names = out.sound.within.names }
