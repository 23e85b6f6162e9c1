-- Terms that are made of regular ones, or in which regular ones take the places of constants, are regular: each sort is well
-- formed, and no unary minus stands over a constant.
use Rattle.std.proofs.Common.{◌≡◌, sym, ap, subst as carry, refl, ℕ, suc, Bool, true, false, not, cond, ◌&&◌, List, [], ◌∷◌, map, zip, Option, Some, None}
use Rattle.std.specs.Prelude.{⊤}
use Rattle.smt_terms.specs.declared.op.Op.TheVariants.{Whole, Neg}
use Rattle.smt_terms.specs.Equal.{symbol_eq, term_eq}
use Rattle.smt_terms.specs.Free.{name_among, without, free}
use Rattle.smt_terms.specs.Fresh.{Supply, after_draw, fresh_for}
use Rattle.smt_terms.specs.Made.{made}
use Rattle.smt_terms.specs.Rank.{is_sort, has_sorts, is_minus, is_whole, is_minus_of, is_regular, are_regular}
use Rattle.smt_terms.specs.Sorts.{Name, Symbol, Variable}
use Rattle.smt_terms.specs.Subst.{Map, image, cut_to, names_in, Renamed, bind, renaming, Chosen, Choices, map_eq, chosen_for, keep, kept_or, quantify, image_or_itself, rebuilt, subst_from, substs_from, subst, parameter, expand}
use Rattle.smt_terms.specs.Term.{Quantifier, Head, op, symbol, const_array, Term, apply, quantified, Terms, none, ◌⨾◌, terms, constant_of, variable}
use Rattle.smt_terms.specs.Written.{Algebra, Written, build}
use Rattle.smt_terms.proofs.Cuts.{cut-image}
use Rattle.smt_terms.proofs.Keeping.{two_or_more, not_minus}
use Rattle.smt_terms.proofs.SortsOfTerms.{IsRegular, regular, regular_over}
use Rattle.smt_terms.proofs.Tests.{and_true, both_true}
use Rattle.script_terms.specs.Heads.{term_width, term_algebra, parameters_from}
use Rattle.script_terms.proofs.Builds.{builds}
use Rattle.script_read.proofs.Fitting.{have_sorts}

-- ---- what is made of regular terms

over_operands : (h : Head) (ts : Terms) → has_sorts h ≡ true → is_minus_of h ts ≡ false → are_regular ts ≡ true → is_regular (apply h ts) ≡ true
over_operands h ts sorts other operands = regular_over h ts (record { head = sorts; no_minus = ap not other; operands = operands })

pub symbol_regular : (f : Symbol) (ts : Terms) → has_sorts (symbol f) ≡ true → are_regular ts ≡ true → is_regular (apply (symbol f) ts) ≡ true
unfolding is_minus_of
symbol_regular f ts sorts operands = over_operands (symbol f) ts sorts refl operands

minus_regular : (ts : Terms) → are_regular ts ≡ true → is_regular (made (op Neg) ts) ≡ true
unfolding is_minus_of is_minus is_whole
minus_regular none h = refl
minus_regular (t ⨾ (u ⨾ us)) h = over_operands (op Neg) (t ⨾ (u ⨾ us)) refl (two_or_more Neg t u us) h
minus_regular (quantified q xs t ⨾ none) h = over_operands (op Neg) (quantified q xs t ⨾ none) refl refl h
minus_regular (apply (symbol f) ts ⨾ none) h = over_operands (op Neg) (apply (symbol f) ts ⨾ none) refl refl h
minus_regular (apply (const_array s) ts ⨾ none) h = over_operands (op Neg) (apply (const_array s) ts ⨾ none) refl refl h
minus_regular (apply (op (Whole n)) none ⨾ none) h = refl
minus_regular (apply (op (Whole n)) (t ⨾ ts) ⨾ none) h = over_operands (op Neg) (apply (op (Whole n)) (t ⨾ ts) ⨾ none) refl refl h
minus_regular (apply (op c) none ⨾ none) h = over_operands (op Neg) (apply (op c) none ⨾ none) refl refl h
minus_regular (apply (op c) (t ⨾ ts) ⨾ none) h = over_operands (op Neg) (apply (op c) (t ⨾ ts) ⨾ none) refl refl h

pub made_regular : (h : Head) (ts : Terms) → has_sorts h ≡ true → are_regular ts ≡ true → is_regular (made h ts) ≡ true
unfolding is_minus_of is_minus
made_regular (symbol f) ts sorts h = over_operands (symbol f) ts sorts refl h
made_regular (const_array s) ts sorts h = over_operands (const_array s) ts sorts refl h
made_regular (op Neg) ts sorts h = minus_regular ts h
made_regular (op p) ts sorts h = over_operands (op p) ts sorts (not_minus p ts refl) h

-- ---- written operators

abbrev RegularTerm : Type 0
RegularTerm = (t : Term) × (is_regular t ≡ true)

abbrev plain_terms : List RegularTerm → List Term
plain_terms xs = map (λ x. x.0) xs

each_regular : (xs : List RegularTerm) → are_regular (terms (plain_terms xs)) ≡ true
each_regular [] = refl
each_regular (x ∷ xs) = and_true (is_regular x.0) (are_regular (terms (plain_terms xs))) x.1 (each_regular xs)

with_rules : (ts : List Term) → are_regular (terms ts) ≡ true → (xs : List RegularTerm) × (plain_terms xs ≡ ts)
with_rules [] h = ([], refl)
with_rules (t ∷ ts) h =
    let parts = both_true (is_regular t) (are_regular (terms ts)) h in
    let rest = with_rules ts parts.1 in
    ((t, parts.0) ∷ rest.0, ap (λ us. t ∷ us) rest.1)

regular_algebra : Algebra RegularTerm
regular_algebra = record {
  make = λ o xs. (made (op o) (terms (plain_terms xs)), made_regular (op o) (terms (plain_terms xs)) refl (each_regular xs));
  width_in = λ x. term_width x.0;
}

pub build_regular : (w : Written) (ts : List Term) → are_regular (terms ts) ≡ true → is_regular (build term_algebra w ts) ≡ true
unfolding regular_algebra
build_regular w ts h =
    let found = with_rules ts h in
    let same : build term_algebra w (plain_terms found.0) ≡ (build regular_algebra w found.0).0 = builds regular_algebra term_algebra (λ x. x.0) (record { applications = λ o xs. refl; widths = λ x. refl }) w found.0 in
    carry (λ us. is_regular (build term_algebra w us) ≡ true) found.1
    (carry (λ t. is_regular t ≡ true) (sym same) (build regular_algebra w found.0).1)

-- ---- substitution

abbrev pub MapRegular : Map → Type 0
MapRegular f = (g : Symbol) (u : Term) → image f g ≡ Some u → is_regular u ≡ true

pub variable_regular : (y : Variable) → is_sort y.sort ≡ true → is_regular (variable y) ≡ true
variable_regular y h = symbol_regular (constant_of y) none h refl

record RenamedRegular (r : Renamed) : Type 0 where
  variables : have_sorts r.variables ≡ true
  images : MapRegular r.map

front_regular : (x y : Variable) (f : Map) → is_sort y.sort ≡ true → MapRegular f → MapRegular ((constant_of x, variable y) ∷ f)
front_regular x y f fine images g u found = go (symbol_eq (constant_of x) g) found
  where
    go : (b : Bool) → cond b (Some (variable y)) (image f g) ≡ Some u → is_regular u ≡ true
    go true e = let same : variable y ≡ u = cc in carry (λ t. is_regular t ≡ true) same (variable_regular y fine)
    go false e = images g u e

bind_regular : (b : Bool) (c : List Name) (x : Variable) (xs : List Variable) (f : Map) (s : Supply) → is_sort x.sort ≡ true → MapRegular f → ((g : Map) (t : Supply) → MapRegular g → RenamedRegular (renaming c xs g t)) → RenamedRegular (bind b x f s (λ g t. renaming c xs g t))
bind_regular true c x xs f s fine images below =
    let rest : RenamedRegular (renaming c xs ((constant_of x, variable (fresh_for x s)) ∷ f) (after_draw s)) = below ((constant_of x, variable (fresh_for x s)) ∷ f) (after_draw s) (front_regular x (fresh_for x s) f fine images) in
    record { variables = and_true (is_sort x.sort) (have_sorts (renaming c xs ((constant_of x, variable (fresh_for x s)) ∷ f) (after_draw s)).variables) fine rest.variables; images = rest.images }
bind_regular false c x xs f s fine images below =
    let rest : RenamedRegular (renaming c xs f s) = below f s images in
    record { variables = and_true (is_sort x.sort) (have_sorts (renaming c xs f s).variables) fine rest.variables; images = rest.images }

renamed_regular : (c : List Name) (xs : List Variable) (f : Map) (s : Supply) → have_sorts xs ≡ true → MapRegular f → RenamedRegular (renaming c xs f s)
renamed_regular c [] f s fine images = record { variables = refl; images = images }
renamed_regular c (x ∷ xs) f s fine images =
    let parts = both_true (is_sort x.sort) (have_sorts xs) fine in
    bind_regular (name_among c x.name) c x xs f s parts.0 images (λ g t h. renamed_regular c xs g t parts.1 h)

KeptRegular : List Chosen → Type 0
KeptRegular [] = ⊤
KeptRegular (c ∷ cs) = (is_regular c.result ≡ true) × KeptRegular cs

chosen_regular : (cs : List Chosen) (f : Map) (t r : Term) → KeptRegular cs → chosen_for cs f t ≡ Some r → is_regular r ≡ true
unfolding KeptRegular
chosen_regular [] f t r kept found = absurd cc
chosen_regular (c ∷ cs) f t r kept found = go (map_eq c.cut f && term_eq c.term t) found (chosen_regular cs f t r kept.1)
  where
    go : (b : Bool) → cond b (Some c.result) (chosen_for cs f t) ≡ Some r → (chosen_for cs f t ≡ Some r → is_regular r ≡ true) → is_regular r ≡ true
    go true e below = let same : c.result ≡ r = cc in carry (λ u. is_regular u ≡ true) same kept.0
    go false e below = below e

record Outcome (r : Term × Choices) : Type 0 where
  rules : is_regular r.0 ≡ true
  kept : KeptRegular r.1.chosen

record Outcomes (r : Terms × Choices) : Type 0 where
  rules : are_regular r.0 ≡ true
  kept : KeptRegular r.1.chosen

image_regular : (f : Map) (g : Symbol) (o : Option Term) → image f g ≡ o → MapRegular f → has_sorts (symbol g) ≡ true → is_regular (image_or_itself o g) ≡ true
image_regular f g None e images sorts = symbol_regular g none sorts refl
image_regular f g (Some u) e images sorts = images g u e

rebuilt_regular : (f : Map) (h : Head) (us : Terms) → MapRegular f → has_sorts h ≡ true → are_regular us ≡ true → is_regular (rebuilt f h us) ≡ true
rebuilt_regular f (symbol g) none images sorts h = image_regular f g (image f g) refl images sorts
rebuilt_regular f (symbol g) (u ⨾ us) images sorts h = symbol_regular g (u ⨾ us) sorts h
rebuilt_regular f (op o) us images sorts h = made_regular (op o) us sorts h
rebuilt_regular f (const_array t) us images sorts h = made_regular (const_array t) us sorts h

kept_outcome : (f : Map) (q : Quantifier) (xs : List Variable) (body : Term) (s : Choices) → is_regular (quantified q xs body) ≡ true → MapRegular f → KeptRegular s.chosen
    → ((g : Map) (t : Choices) → MapRegular g → KeptRegular t.chosen → Outcome (subst_from g body t))
    → (o : Option Term) → chosen_for s.chosen (cut_to (without xs (free body)) f) (quantified q xs body) ≡ o
    → Outcome (kept_or o s λ s'. keep (cut_to (without xs (free body)) f) (quantified q xs body) (quantify q (renaming (names_in (cut_to (without xs (free body)) f)) xs (cut_to (without xs (free body)) f) s'.names) s'.chosen (λ m' s''. subst_from m' body s'')))
unfolding KeptRegular
kept_outcome f q xs body s fine images kept below (Some r) found = record { rules = chosen_regular s.chosen (cut_to (without xs (free body)) f) (quantified q xs body) r kept found; kept = kept }
kept_outcome f q xs body s fine images kept below None found =
    let cut : Map = cut_to (without xs (free body)) f in
    let c : List Name = names_in cut in
    let t : Choices = record { names = (renaming c xs cut s.names).names; chosen = s.chosen } in
    let parts = both_true (have_sorts xs) (is_regular body) fine in
    let renamed : RenamedRegular (renaming c xs cut s.names) = renamed_regular c xs cut s.names parts.0 (λ g u e. images g u (cut-image (without xs (free body)) f g u e).1) in
    let out : Outcome (subst_from (renaming c xs cut s.names).map body t) = below (renaming c xs cut s.names).map t renamed.images kept in
    let rules : is_regular (quantified q (renaming c xs cut s.names).variables (subst_from (renaming c xs cut s.names).map body t).0) ≡ true =
    and_true (have_sorts (renaming c xs cut s.names).variables) (is_regular (subst_from (renaming c xs cut s.names).map body t).0) renamed.variables out.rules in
    record { rules = rules; kept = (rules, out.kept) }

mutual
  subst_outcome : (t : Term) (f : Map) (s : Choices) → is_regular t ≡ true → MapRegular f → KeptRegular s.chosen → Outcome (subst_from f t s)
  subst_outcome (apply h ts) f s fine images kept =
      let rules : IsRegular h ts = regular h ts fine in
      let out : Outcomes (substs_from f ts s) = substs_outcome ts f s rules.operands images kept in
      record { rules = rebuilt_regular f h (substs_from f ts s).0 images rules.head out.rules; kept = out.kept }
  subst_outcome (quantified q xs body) f s fine images kept =
      kept_outcome f q xs body s fine images kept (λ g t i k. subst_outcome body g t (both_true (have_sorts xs) (is_regular body) fine).1 i k) (chosen_for s.chosen (cut_to (without xs (free body)) f) (quantified q xs body)) refl

  substs_outcome : (ts : Terms) (f : Map) (s : Choices) → are_regular ts ≡ true → MapRegular f → KeptRegular s.chosen → Outcomes (substs_from f ts s)
  substs_outcome none f s fine images kept = record { rules = refl; kept = kept }
  substs_outcome (t ⨾ ts) f s fine images kept =
      let parts = both_true (is_regular t) (are_regular ts) fine in
      let first : Outcome (subst_from f t s) = subst_outcome t f s parts.0 images kept in
      let rest : Outcomes (substs_from f ts (subst_from f t s).1) = substs_outcome ts f (subst_from f t s).1 parts.1 images first.kept in
      record {
        rules = and_true (is_regular (subst_from f t s).0) (are_regular (substs_from f ts (subst_from f t s).1).0) first.rules rest.rules;
        kept = rest.kept;
      }

pub subst_regular : (f : Map) (t : Term) (s : Supply) → is_regular t ≡ true → MapRegular f → is_regular (subst f t s).0 ≡ true
unfolding KeptRegular
subst_regular f t s fine images = (subst_outcome t f (record { names = s; chosen = [] }) fine images tt).rules

-- ---- arguments for parameters

arguments_regular : (i : ℕ) (xs : List Variable) (ts : List Term) → are_regular (terms ts) ≡ true → MapRegular (zip (parameters_from i xs) ts)
arguments_regular i [] ts fine g u found = absurd cc
arguments_regular i (x ∷ xs) [] fine g u found = absurd cc
arguments_regular i (x ∷ xs) (t ∷ ts) fine g u found =
    let parts = both_true (is_regular t) (are_regular (terms ts)) fine in
    go (symbol_eq (parameter i x.sort) g) found parts.0 (arguments_regular (suc i) xs ts parts.1 g u)
  where
    go : (b : Bool) → cond b (Some t) (image (zip (parameters_from (suc i) xs) ts) g) ≡ Some u → is_regular t ≡ true → (image (zip (parameters_from (suc i) xs) ts) g ≡ Some u → is_regular u ≡ true) → is_regular u ≡ true
    go true e first below = let same : t ≡ u = cc in carry (λ v. is_regular v ≡ true) same first
    go false e first below = below e

pub expand_regular : (xs : List Variable) (t : Term) (ts : List Term) (s : Supply) → is_regular t ≡ true → are_regular (terms ts) ≡ true → is_regular (expand (parameters_from 0 xs) t ts s).0 ≡ true
expand_regular xs t ts s fine operands = subst_regular (zip (parameters_from 0 xs) ts) t s fine (arguments_regular 0 xs ts operands)
