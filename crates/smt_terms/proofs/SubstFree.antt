-- Which symbols are free after a substitution.
use Rattle.std.proofs.Common.{◌≡◌, Bool, true, false, not, cond, ◌&&◌, ◌||◌, ◌⊎◌, inl, inr, List, [], ◌∷◌, map, Option, Some, None, refl, ap, sym, ◌∙◌, subst as carry}
use Rattle.std.specs.Prelude.{⊤}
use Rattle.smt_terms.specs.declared.op.Op.TheVariants.{Whole, Neg}
use Rattle.smt_terms.specs.Sorts.{Name, Sort, bool, Symbol, Variable}
use Rattle.smt_terms.specs.Term.{Quantifier, Head, op, symbol, const_array, Term, apply, quantified, Terms, none, ◌⨾◌, constant_of, constant, variable}
use Rattle.smt_terms.specs.Equal.{symbol_eq, term_eq}
use Rattle.smt_terms.specs.Free.{is_among, name_among, with_more, without, head_symbols, free, free_of}
use Rattle.smt_terms.specs.Rank.{sort_of, sorts_of}
use Rattle.smt_terms.specs.Fresh.{Supply, after_draw, fresh_for}
use Rattle.smt_terms.specs.Made.{minus, made}
use Rattle.smt_terms.specs.Subst.{Map, image, cut_to, names_in, Renamed, bind, renaming, Chosen, Choices, map_eq, chosen_for, keep, kept_or, quantify, image_or_itself, rebuilt, subst_from, substs_from}
use Rattle.smt_terms.specs.SubstLaws.{ReplacesConstants, LeftFree, stays, comes, SubstLeavesFree}
use Rattle.smt_terms.proofs.Tests.{both_true, and_true, left_true, right_true, either_true}
use Rattle.smt_terms.proofs.Equal.{symbol_itself, Decides-symbol_eq, Decides-term_eq}
use Rattle.smt_terms.proofs.Among.{is_among-with_more, is_among-without}
use Rattle.smt_terms.proofs.Ranked.{rank-takes}
use Rattle.smt_terms.proofs.Sorted.{IsApplied, applied, sorted, quantified_sort}
use Rattle.smt_terms.proofs.Cuts.{cut-image, image-cut, map-same}

-- ---- renaming: where its images come from, and that what it binds anew has an image

-- an image of the renamed map is one of the map, or a variable that is bound now
pub data Source (f : Map) (ys : List Variable) (h : Symbol) (u : Term) : Type 0 where
  before : image f h ≡ Some u → Source f ys h u
  bound : (y : Variable) → u ≡ variable y → is_among (map constant_of ys) (constant_of y) ≡ true → Source f ys h u

more-bound : (f : Map) (x : Variable) (ys : List Variable) (h : Symbol) (u : Term) → Source f ys h u → Source f (x ∷ ys) h u
more-bound f x ys h u (before e) = before e
more-bound f x ys h u (bound y e among) = bound y e (right_true (symbol_eq (constant_of x) (constant_of y)) (is_among (map constant_of ys) (constant_of y)) among)

from-front : (f : Map) (x y : Variable) (ys : List Variable) (h : Symbol) (u : Term) → Source ((constant_of x, variable y) ∷ f) ys h u → Source f (y ∷ ys) h u
from-front f x y ys h u (bound z e among) = more-bound f y ys h u (bound z e among)
from-front f x y ys h u (before e) = go (symbol_eq (constant_of x) h) e
  where
    go : (b : Bool) → cond b (Some (variable y)) (image f h) ≡ Some u → Source f (y ∷ ys) h u
    go true k = let same : u ≡ variable y = cc in bound y same (left_true (symbol_eq (constant_of y) (constant_of y)) (is_among (map constant_of ys) (constant_of y)) (symbol_itself (constant_of y)))
    go false k = before k

bind-source : (b : Bool) (x : Variable) (f : Map) (s : Supply) (below : Map → Supply → Renamed) (h : Symbol) (u : Term) → ((g : Map) (t : Supply) → image (below g t).map h ≡ Some u → Source g (below g t).variables h u) → image (bind b x f s below).map h ≡ Some u → Source f (bind b x f s below).variables h u
bind-source true x f s below h u source e = from-front f x (fresh_for x s) (below ((constant_of x, variable (fresh_for x s)) ∷ f) (after_draw s)).variables h u (source ((constant_of x, variable (fresh_for x s)) ∷ f) (after_draw s) e)
bind-source false x f s below h u source e = more-bound f x (below f s).variables h u (source f s e)

pub renaming-source : (c : List Name) (xs : List Variable) (f : Map) (s : Supply) (h : Symbol) (u : Term) → image (renaming c xs f s).map h ≡ Some u → Source f (renaming c xs f s).variables h u
renaming-source c [] f s h u e = before e
renaming-source c (x ∷ xs) f s h u e = bind-source (name_among c x.name) x f s (λ g t. renaming c xs g t) h u (λ g t k. renaming-source c xs g t h u k) e

-- no image after renaming: none before, and if it was bound, it is bound still
pub record NoImage (f : Map) (xs ys : List Variable) (g : Symbol) : Type 0 where
  pub before : image f g ≡ None
  pub still : is_among (map constant_of xs) g ≡ true → is_among (map constant_of ys) g ≡ true

bind-none : (b : Bool) (c : List Name) (x : Variable) (xs : List Variable) (f : Map) (s : Supply) (g : Symbol) → ((k : Map) (t : Supply) → image (renaming c xs k t).map g ≡ None → NoImage k xs (renaming c xs k t).variables g) → image (bind b x f s (λ k t. renaming c xs k t)).map g ≡ None → NoImage f (x ∷ xs) (bind b x f s (λ k t. renaming c xs k t)).variables g
bind-none true c x xs f s g below e =
    let k : Map = (constant_of x, variable (fresh_for x s)) ∷ f in
    let rest : NoImage k xs (renaming c xs k (after_draw s)).variables g = below k (after_draw s) e in
    go (symbol_eq (constant_of x) g) refl rest.before rest.still
  where
    go : (b : Bool) → symbol_eq (constant_of x) g ≡ b → cond b (Some (variable (fresh_for x s))) (image f g) ≡ None
        → (is_among (map constant_of xs) g ≡ true → is_among (map constant_of (renaming c xs ((constant_of x, variable (fresh_for x s)) ∷ f) (after_draw s)).variables) g ≡ true)
        → NoImage f (x ∷ xs) (bind true x f s (λ k t. renaming c xs k t)).variables g
    go true here none_ still = absurd cc
    go false other none_ still = record {
      before = none_;
      still = λ among. right_true (symbol_eq (constant_of (fresh_for x s)) g) _ (still (sym (ap (λ b. b || is_among (map constant_of xs) g) other) ∙ among));
    }
bind-none false c x xs f s g below e =
    let rest : NoImage f xs (renaming c xs f s).variables g = below f s e in
    record { before = rest.before; still = λ among. either_still (symbol_eq (constant_of x) g) (is_among (map constant_of xs) g) (is_among (map constant_of (renaming c xs f s).variables) g) among rest.still }
  where
    either_still : (a b d : Bool) → (a || b) ≡ true → (b ≡ true → d ≡ true) → (a || d) ≡ true
    either_still true b d h k = refl
    either_still false b d h k = k h

pub renaming-none : (c : List Name) (xs : List Variable) (f : Map) (s : Supply) (g : Symbol) → image (renaming c xs f s).map g ≡ None → NoImage f xs (renaming c xs f s).variables g
renaming-none c [] f s g e = record { before = e; still = λ among. among }
renaming-none c (x ∷ xs) f s g e = bind-none (name_among c x.name) c x xs f s g (λ k t h. renaming-none c xs k t g h) e

-- ---- what is left free

unfoldable pub IsLeft : Map → Term → Term → Type 0
IsLeft f t r = (s : Sort) → sort_of t ≡ Some s → (g : Symbol) → is_among (free r) g ≡ true → LeftFree f (free t) g

AreLeft : Map → Terms → Terms → Type 0
AreLeft f ts us = (ss : List Sort) → sorts_of ts ≡ Some ss → (g : Symbol) → is_among (free_of us) g ≡ true → LeftFree f (free_of ts) g

left-more : (f : Map) (fs gs : List Symbol) (g : Symbol) → ((h : Symbol) → is_among fs h ≡ true → is_among gs h ≡ true) → LeftFree f fs g → LeftFree f gs g
left-more f fs gs g more (stays among none_) = stays (more g among) none_
left-more f fs gs g more (comes h u among found there) = comes h u (more h among) found there

left-uncut : (f : Map) (fs : List Symbol) (g : Symbol) → LeftFree (cut_to fs f) fs g → LeftFree f fs g
left-uncut f fs g (stays among none_) = stays among (sym (image-cut fs f g ∙ ap (λ b. cond b (image f g) None) among) ∙ none_)
left-uncut f fs g (comes h u among found there) = comes h u among (cut-image fs f h u found).1 there

-- ---- heads

in-head : (h : Head) (ts : Terms) (g : Symbol) → is_among (head_symbols h) g ≡ true → is_among (free (apply h ts)) g ≡ true
in-head h ts g among = is_among-with_more (head_symbols h) (free_of ts) g ∙ left_true (is_among (head_symbols h) g) (is_among (free_of ts) g) among

in-operands : (h : Head) (ts : Terms) (g : Symbol) → is_among (free_of ts) g ≡ true → is_among (free (apply h ts)) g ≡ true
in-operands h ts g among = is_among-with_more (head_symbols h) (free_of ts) g ∙ right_true (is_among (head_symbols h) g) (is_among (free_of ts) g) among

minus-free : (t : Term) (g : Symbol) → is_among (free (minus t)) g ≡ true → is_among (free (apply (op Neg) (t ⨾ none))) g ≡ true
minus-free (apply (op (Whole n)) none) g among = absurd cc
minus-free t g among = among

made-free : (h : Head) (ts : Terms) (g : Symbol) → is_among (free (made h ts)) g ≡ true → is_among (free (apply h ts)) g ≡ true
made-free (op Neg) (t ⨾ none) g among = minus-free t g among
made-free h ts g among = among

pub one-symbol : (k g : Symbol) → is_among (free (constant k)) g ≡ true → k ≡ g
one-symbol k g among = go (either_true (symbol_eq k g) false among)
  where
    go : (symbol_eq k g ≡ true) ⊎ (false ≡ true) → k ≡ g
    go (inl here) = (Decides-symbol_eq k g).0 here
    go (inr never) = absurd cc

constant-left : (f : Map) (k : Symbol) (o : Option Term) → image f k ≡ o → (g : Symbol) → is_among (free (image_or_itself o k)) g ≡ true → LeftFree f (free (constant k)) g
constant-left f k None e g among = stays among (ap (image f) (sym (one-symbol k g among)) ∙ e)
constant-left f k (Some u) e g among = comes k u (left_true (symbol_eq k k) false (symbol_itself k)) e among

-- a symbol with operands isn't replaced
pub applied-none : (f : Map) (k : Symbol) (t : Term) (ts : Terms) (s : Sort) → ReplacesConstants f → sort_of (apply (symbol k) (t ⨾ ts)) ≡ Some s → image f k ≡ None
applied-none f k t ts s constants has = go (image f k) refl
  where
    a : IsApplied (symbol k) (t ⨾ ts) s
    a = applied (symbol k) (t ⨾ ts) s has

    empty : (ss : List Sort) → ss ≡ k.args → k.args ≡ [] → (r : Sort) (rs : List Sort) → ss ≡ r ∷ rs → ⊥
    empty ss e n r rs c = let same : [] ≡ r ∷ rs = sym n ∙ sym e ∙ c in absurd cc

    go : (o : Option Term) → image f k ≡ o → image f k ≡ None
    go None e = e
    go (Some u) e =
        let parts = sorted t ts a.sorts a.operands in
        absurd (empty a.sorts (rank-takes (symbol k) a.sorts s a.rank).0 (constants k u e) parts.sort parts.sorts parts.all)

is-empty : Terms → Bool
is-empty none = true
is-empty (t ⨾ ts) = false

over-left : (f : Map) (h : Head) (ts us : Terms) (s : Sort) → sort_of (apply h ts) ≡ Some s → AreLeft f ts us → ((g : Symbol) → is_among (head_symbols h) g ≡ true → image f g ≡ None) → (g : Symbol) → is_among (free (apply h us)) g ≡ true → LeftFree f (free (apply h ts)) g
unfolding AreLeft
over-left f h ts us s has left head g among = go (either_true (is_among (head_symbols h) g) (is_among (free_of us) g) (sym (is_among-with_more (head_symbols h) (free_of us) g) ∙ among))
  where
    a : IsApplied h ts s
    a = applied h ts s has

    go : (is_among (head_symbols h) g ≡ true) ⊎ (is_among (free_of us) g ≡ true) → LeftFree f (free (apply h ts)) g
    go (inl here) = stays (in-head h ts g here) (head g here)
    go (inr there) = left-more f (free_of ts) (free (apply h ts)) g (λ k. in-operands h ts k) (left a.sorts a.operands g there)

rebuilt-left : (f : Map) (h : Head) (ts us : Terms) → ReplacesConstants f → is-empty us ≡ is-empty ts → AreLeft f ts us → IsLeft f (apply h ts) (rebuilt f h us)
unfolding IsLeft is-empty
rebuilt-left f (symbol k) none none constants shape left s has g among = constant-left f k (image f k) refl g among
rebuilt-left f (symbol k) (t ⨾ ts) (u ⨾ us) constants shape left s has g among =
    over-left f (symbol k) (t ⨾ ts) (u ⨾ us) s has left (λ j here. ap (image f) (sym (one-symbol k j here)) ∙ applied-none f k t ts s constants has) g among
rebuilt-left f (symbol k) none (u ⨾ us) constants shape left s has g among = absurd cc
rebuilt-left f (symbol k) (t ⨾ ts) none constants shape left s has g among = absurd cc
rebuilt-left f (op o) ts us constants shape left s has g among = over-left f (op o) ts us s has left (λ j here. absurd cc) g (made-free (op o) us g among)
rebuilt-left f (const_array r) ts us constants shape left s has g among = over-left f (const_array r) ts us s has left (λ j here. absurd cc) g among

-- ---- quantified terms

outside : (ys : List Variable) (fs : List Symbol) (g : Symbol) → is_among (without ys fs) g ≡ true → (is_among fs g ≡ true) × (not (is_among (map constant_of ys) g) ≡ true)
outside ys fs g among = both_true (is_among fs g) (not (is_among (map constant_of ys) g)) (sym (is_among-without ys fs g) ∙ among)

not-bound : (xs ys : List Variable) (g : Symbol) → (is_among (map constant_of xs) g ≡ true → is_among (map constant_of ys) g ≡ true) → not (is_among (map constant_of ys) g) ≡ true → not (is_among (map constant_of xs) g) ≡ true
not-bound xs ys g still apart = go (is_among (map constant_of xs) g) refl
  where
    go : (b : Bool) → is_among (map constant_of xs) g ≡ b → not b ≡ true
    go true e = let inside : is_among (map constant_of ys) g ≡ true = still e in let never : not true ≡ true = ap not (sym inside) ∙ apart in absurd cc
    go false e = refl

quantified-left : (f : Map) (q : Quantifier) (xs : List Variable) (body b : Term) (c : List Name) (s : Supply) → IsLeft (renaming c xs (cut_to (without xs (free body)) f) s).map body b → IsLeft (cut_to (without xs (free body)) f) (quantified q xs body) (quantified q (renaming c xs (cut_to (without xs (free body)) f) s).variables b)
unfolding IsLeft
quantified-left f q xs body b c s left sort has g among =
    let ys : List Variable = (renaming c xs (cut_to (without xs (free body)) f) s).variables in
    let parts = outside (renaming c xs (cut_to (without xs (free body)) f) s).variables (free b) g among in
    go parts.1 (left bool (quantified_sort q xs body sort has).body g parts.0)
  where
    cut : Map
    cut = cut_to (without xs (free body)) f

    go : not (is_among (map constant_of (renaming c xs (cut_to (without xs (free body)) f) s).variables) g) ≡ true → LeftFree (renaming c xs (cut_to (without xs (free body)) f) s).map (free body) g → LeftFree (cut_to (without xs (free body)) f) (without xs (free body)) g
    go apart (stays there none_) =
        let n : NoImage (cut_to (without xs (free body)) f) xs (renaming c xs (cut_to (without xs (free body)) f) s).variables g = renaming-none c xs (cut_to (without xs (free body)) f) s g none_ in
        stays (is_among-without xs (free body) g ∙ and_true (is_among (free body) g) (not (is_among (map constant_of xs) g)) there (not-bound xs (renaming c xs (cut_to (without xs (free body)) f) s).variables g n.still apart)) n.before
    go apart (comes h u there found free_in) = from (renaming-source c xs (cut_to (without xs (free body)) f) s h u found)
      where
        from : Source (cut_to (without xs (free body)) f) (renaming c xs (cut_to (without xs (free body)) f) s).variables h u → LeftFree (cut_to (without xs (free body)) f) (without xs (free body)) g
        from (before e) = comes h u (cut-image (without xs (free body)) f h u e).0 e free_in
        from (bound y e inside) =
            let here : constant_of y ≡ g = one-symbol (constant_of y) g (ap (λ t. is_among (free t) g) (sym e) ∙ free_in) in
            let in_ys : is_among (map constant_of (renaming c xs (cut_to (without xs (free body)) f) s).variables) g ≡ true = ap (is_among (map constant_of (renaming c xs (cut_to (without xs (free body)) f) s).variables)) (sym here) ∙ inside in
            let never : not true ≡ true = ap not (sym in_ys) ∙ apart in
            absurd cc

-- ---- maps of constants

pub cut-constants : (fs : List Symbol) (f : Map) → ReplacesConstants f → ReplacesConstants (cut_to fs f)
cut-constants fs f constants g u e = constants g u (cut-image fs f g u e).1

front-constants : (x : Variable) (u : Term) (f : Map) → ReplacesConstants f → ReplacesConstants ((constant_of x, u) ∷ f)
front-constants x u f constants g w e = go (symbol_eq (constant_of x) g) refl e
  where
    go : (b : Bool) → symbol_eq (constant_of x) g ≡ b → cond b (Some u) (image f g) ≡ Some w → g.args ≡ []
    go true here k = sym (ap (λ (h : Symbol). h.args) ((Decides-symbol_eq (constant_of x) g).0 here))
    go false other k = constants g w k

bind-constants : (b : Bool) (x : Variable) (f : Map) (s : Supply) (below : Map → Supply → Renamed) → ((g : Map) (t : Supply) → ReplacesConstants g → ReplacesConstants (below g t).map) → ReplacesConstants f → ReplacesConstants (bind b x f s below).map
bind-constants true x f s below constants given = constants ((constant_of x, variable (fresh_for x s)) ∷ f) (after_draw s) (front-constants x (variable (fresh_for x s)) f given)
bind-constants false x f s below constants given = constants f s given

pub renaming-constants : (c : List Name) (xs : List Variable) (f : Map) (s : Supply) → ReplacesConstants f → ReplacesConstants (renaming c xs f s).map
renaming-constants c [] f s given = given
renaming-constants c (x ∷ xs) f s given = bind-constants (name_among c x.name) x f s (λ g t. renaming c xs g t) (λ g t h. renaming-constants c xs g t h) given

-- ---- all terms, with what is kept

unfoldable pub AllLeft : List Chosen → Type 0
AllLeft [] = ⊤
AllLeft (c ∷ cs) = IsLeft c.cut c.term c.result × AllLeft cs

chosen-left : (cs : List Chosen) (f : Map) (t r : Term) → AllLeft cs → chosen_for cs f t ≡ Some r → IsLeft f t r
unfolding AllLeft
chosen-left [] f t r all found = absurd cc
chosen-left (c ∷ cs) f t r all found = go (map_eq c.cut f && term_eq c.term t) refl found (chosen-left cs f t r all.1)
  where
    go : (b : Bool) → (map_eq c.cut f && term_eq c.term t) ≡ b → cond b (Some c.result) (chosen_for cs f t) ≡ Some r → (chosen_for cs f t ≡ Some r → IsLeft f t r) → IsLeft f t r
    go true e h below =
        let parts = both_true (map_eq c.cut f) (term_eq c.term t) e in
        let cut : c.cut ≡ f = map-same c.cut f parts.0 in
        let term : c.term ≡ t = (Decides-term_eq c.term t).0 parts.1 in
        let result : c.result ≡ r = cc in
        carry (λ g. IsLeft g t r) cut (carry (λ u. IsLeft c.cut u r) term (carry (λ u. IsLeft c.cut c.term u) result all.0))
    go false e h below = below h

uncut-left : (f : Map) (t r : Term) → IsLeft (cut_to (free t) f) t r → IsLeft f t r
unfolding IsLeft
uncut-left f t r left s has g among = left-uncut f (free t) g (left s has g among)

pub record Leaves (f : Map) (t : Term) (r : Term × Choices) : Type 0 where
  pub result : IsLeft f t r.0
  pub kept : AllLeft r.1.chosen

record LeavesEach (f : Map) (ts : Terms) (r : Terms × Choices) : Type 0 where
  results : AreLeft f ts r.0
  shape : is-empty r.0 ≡ is-empty ts
  kept : AllLeft r.1.chosen

kept-leaves : (f : Map) (q : Quantifier) (xs : List Variable) (body : Term) (s : Choices) → ReplacesConstants f → AllLeft s.chosen
    → ((g : Map) (t : Choices) → ReplacesConstants g → AllLeft t.chosen → Leaves g body (subst_from g body t))
    → (o : Option Term) → chosen_for s.chosen (cut_to (without xs (free body)) f) (quantified q xs body) ≡ o
    → Leaves f (quantified q xs body) (kept_or o s λ s'. keep (cut_to (without xs (free body)) f) (quantified q xs body) (quantify q (renaming (names_in (cut_to (without xs (free body)) f)) xs (cut_to (without xs (free body)) f) s'.names) s'.chosen (λ m' s''. subst_from m' body s'')))
unfolding AllLeft
kept-leaves f q xs body s constants kept below (Some r) found = record {
  result = uncut-left f (quantified q xs body) r (chosen-left s.chosen (cut_to (without xs (free body)) f) (quantified q xs body) r kept found);
  kept = kept;
}
kept-leaves f q xs body s constants kept below None found =
    let cut : Map = cut_to (without xs (free body)) f in
    let c : List Name = names_in cut in
    let t : Choices = record { names = (renaming c xs cut s.names).names; chosen = s.chosen } in
    let out : Leaves (renaming c xs cut s.names).map body (subst_from (renaming c xs cut s.names).map body t) =
    below (renaming c xs cut s.names).map t (renaming-constants c xs cut s.names (cut-constants (without xs (free body)) f constants)) kept in
    let result : IsLeft cut (quantified q xs body) (quantified q (renaming c xs cut s.names).variables (subst_from (renaming c xs cut s.names).map body t).0) =
    quantified-left f q xs body (subst_from (renaming c xs cut s.names).map body t).0 c s.names out.result in
    record {
      result = uncut-left f (quantified q xs body) (quantified q (renaming c xs cut s.names).variables (subst_from (renaming c xs cut s.names).map body t).0) result;
      kept = (result, out.kept);
    }

both-left : (f : Map) (t : Term) (ts : Terms) (u : Term) (us : Terms) → IsLeft f t u → AreLeft f ts us → AreLeft f (t ⨾ ts) (u ⨾ us)
unfolding IsLeft AreLeft
both-left f t ts u us first rest ss has g among = go (either_true (is_among (free u) g) (is_among (free_of us) g) (sym (is_among-with_more (free u) (free_of us) g) ∙ among))
  where
    go : (is_among (free u) g ≡ true) ⊎ (is_among (free_of us) g ≡ true) → LeftFree f (with_more (free t) (free_of ts)) g
    go (inl here) = left-more f (free t) (with_more (free t) (free_of ts)) g (λ h k. is_among-with_more (free t) (free_of ts) h ∙ left_true (is_among (free t) h) (is_among (free_of ts) h) k) (first (sorted t ts ss has).sort (sorted t ts ss has).first g here)
    go (inr there) = left-more f (free_of ts) (with_more (free t) (free_of ts)) g (λ h k. is_among-with_more (free t) (free_of ts) h ∙ right_true (is_among (free t) h) (is_among (free_of ts) h) k) (rest (sorted t ts ss has).sorts (sorted t ts ss has).others g there)

same-shape : (u t : Term) (us ts : Terms) → is-empty (u ⨾ us) ≡ is-empty (t ⨾ ts)
unfolding is-empty
same-shape u t us ts = refl

nothing-left : (f : Map) → AreLeft f none none
unfolding AreLeft
nothing-left f ss has g among = absurd cc

mutual
  pub subst_from-leaves : (t : Term) (f : Map) (s : Choices) → ReplacesConstants f → AllLeft s.chosen → Leaves f t (subst_from f t s)
  subst_from-leaves (apply h ts) f s constants kept =
      let out : LeavesEach f ts (substs_from f ts s) = substs_from-leaves ts f s constants kept in
      record { result = rebuilt-left f h ts (substs_from f ts s).0 constants out.shape out.results; kept = out.kept }
  subst_from-leaves (quantified q xs body) f s constants kept =
      kept-leaves f q xs body s constants kept (λ g t c k. subst_from-leaves body g t c k) (chosen_for s.chosen (cut_to (without xs (free body)) f) (quantified q xs body)) refl

  substs_from-leaves : (ts : Terms) (f : Map) (s : Choices) → ReplacesConstants f → AllLeft s.chosen → LeavesEach f ts (substs_from f ts s)
  substs_from-leaves none f s constants kept = record { results = nothing-left f; shape = refl; kept = kept }
  substs_from-leaves (t ⨾ ts) f s constants kept =
      let first : Leaves f t (subst_from f t s) = subst_from-leaves t f s constants kept in
      let rest : LeavesEach f ts (substs_from f ts (subst_from f t s).1) = substs_from-leaves ts f (subst_from f t s).1 constants first.kept in
      record {
        results = both-left f t ts (subst_from f t s).0 (substs_from f ts (subst_from f t s).1).0 first.result rest.results;
        shape = same-shape (subst_from f t s).0 t (substs_from f ts (subst_from f t s).1).0 ts;
        kept = rest.kept;
      }

pub subst-leaves_free : SubstLeavesFree
unfolding IsLeft AllLeft
subst-leaves_free f t s r has constants g among = (subst_from-leaves t f (record { names = s; chosen = [] }) constants tt).result r has g among
