-- What a substitution gives, said by the term alone and not by what was kept on the way; and that it stays regular and clear,
-- binds no Bool that wasn't bound, and adds no quantifier.
use Rattle.std.proofs.Common.{◌≡◌, ℕ, suc, ◌≤◌, Bool, true, false, not, cond, ◌&&◌, ◌||◌, ◌⊎◌, inl, inr, ℤ, List, [], ◌∷◌, map, Option, Some, None, refl, ap, sym, ◌∙◌, subst as carry, arith}
use Rattle.std.specs.Prelude.{⊤}
use Rattle.std.specs.List.{list_all, list_any}
use Rattle.smt_terms.specs.declared.op.Op.TheVariants.{Whole, Neg}
use Rattle.smt_terms.specs.Sorts.{Name, Sort, bool, Symbol, Variable}
use Rattle.smt_terms.specs.Term.{Quantifier, Head, op, symbol, const_array, Term, apply, quantified, Terms, none, ◌⨾◌, constant_of, constant, variable}
use Rattle.smt_terms.specs.Equal.{name_eq, symbol_eq, term_eq}
use Rattle.smt_terms.specs.Free.{is_among, name_among, names_of, without, head_symbols, free}
use Rattle.smt_terms.specs.Rank.{has_name, are_distinct, is_sort, has_sorts, is_minus, is_whole, is_minus_of, is_regular, are_regular, sort_of, sorts_of}
use Rattle.smt_terms.specs.Fresh.{Supply, after_draw, fresh_for, NeverGives}
use Rattle.smt_terms.specs.Made.{made}
use Rattle.smt_terms.specs.Constants.{whole_term}
use Rattle.smt_terms.specs.Shapes.{is_bool, no_bool_quantifier, no_bool_quantifiers}
use Rattle.smt_terms.specs.Subst.{Map, image, cut_to, names_in, bind, renaming, Chosen, Choices, map_eq, chosen_for, keep, kept_or, quantify, image_or_itself, rebuilt, subst_from, substs_from, subst}
use Rattle.smt_terms.specs.SubstLaws.{names_within, names_within_each, GivesNone, GivesNoImage, ReplacesConstants, LeftFree, stays, comes, Later}
use Rattle.smt_terms.proofs.Tests.{both_true, and_true, either_true, left_true, right_true, both_false, not_true}
use Rattle.smt_terms.proofs.Equal.{Decides-name_eq, Decides-symbol_eq, Decides-term_eq}
use Rattle.smt_terms.proofs.Fresh.{never-next, never-after}
use Rattle.smt_terms.proofs.Sorted.{applied, sorted, quantified_sort}
use Rattle.smt_terms.proofs.SortsOfTerms.{regular, regular_over}
use Rattle.smt_terms.proofs.Keeping.{not_minus, two_or_more}
use Rattle.smt_terms.proofs.Renaming.{renaming-later, renaming-spared, renaming-bindable}
use Rattle.smt_terms.proofs.Runs.{NoneNamed, among-name}
use Rattle.smt_terms.proofs.Cuts.{cut-image, cut-spared, names-apart, map-same}
use Rattle.smt_terms.proofs.Substitution.{symbols-spared, variables-spared}
use Rattle.smt_terms.proofs.SubstFree.{Source, before, bound, renaming-source, IsLeft, AllLeft, Leaves, subst_from-leaves, renaming-constants, cut-constants, one-symbol}
use Rattle.normal_forms.specs.Prenex.{quantifiers, quantifiers_of}
use Rattle.normal_forms.proofs.Clear.{Sees, Clear, ClearEach, bindable-parts}
use Rattle.normal_forms.proofs.Inside.{in-left, in-right}

-- ---- the relation

-- of a quantified term under a cut map: what P says of the body under the renaming; and, where K holds, that the supply gives
-- no name of the term or of an image, and what is free afterwards
pub record Bound (K : Type 0) (P : Map → Term → Type 0) (cut : Map) (q : Quantifier) (xs : List Variable) (body r : Term) : Type 0 where
  pub supply : Supply
  pub inner : Term
  pub names : K → GivesNone supply (names_within (quantified q xs body))
  pub images : K → GivesNoImage supply cut
  pub below : P (renaming (names_in cut) xs cut supply).map inner
  pub left : K → IsLeft (renaming (names_in cut) xs cut supply).map body inner
  pub result : quantified q (renaming (names_in cut) xs cut supply).variables inner ≡ r

pub record Over (P : Terms → Type 0) (f : Map) (h : Head) (r : Term) : Type 0 where
  pub operands : Terms
  pub each : P operands
  pub result : rebuilt f h operands ≡ r

abbrev mutual
  pub IsSubst : Type 0 → Map → Term → Term → Type 0
  IsSubst K f (apply h ts) r = Over (λ us. AreSubsts K f ts us) f h r
  IsSubst K f (quantified q xs body) r = Bound K (λ g b. IsSubst K g body b) (cut_to (without xs (free body)) f) q xs body r

  pub AreSubsts : Type 0 → Map → Terms → Terms → Type 0
  AreSubsts K f none none = ⊤
  AreSubsts K f (t ⨾ ts) (u ⨾ us) = IsSubst K f t u × AreSubsts K f ts us
  AreSubsts K f _ _ = ⊥

-- ---- what substitution gives is such

abbrev IsChosen : Type 0 → Map → Term → Term → Type 0
IsChosen K cut (apply h ts) r = ⊥
IsChosen K cut (quantified q xs body) r = Bound K (λ g b. IsSubst K g body b) cut q xs body r

abbrev AllChosen : Type 0 → List Chosen → Type 0
AllChosen K [] = ⊤
AllChosen K (c ∷ cs) = IsChosen K c.cut c.term c.result × AllChosen K cs

found-chosen : (K : Type 0) (cs : List Chosen) (f : Map) (t r : Term) → AllChosen K cs → chosen_for cs f t ≡ Some r → IsChosen K f t r
found-chosen K [] f t r all found = absurd cc
found-chosen K (c ∷ cs) f t r all found = go (map_eq c.cut f && term_eq c.term t) refl found (found-chosen K cs f t r all.1)
  where
    go : (b : Bool) → (map_eq c.cut f && term_eq c.term t) ≡ b → cond b (Some c.result) (chosen_for cs f t) ≡ Some r → (chosen_for cs f t ≡ Some r → IsChosen K f t r) → IsChosen K f t r
    go true e h below =
        let parts = both_true (map_eq c.cut f) (term_eq c.term t) e in
        let cut : c.cut ≡ f = map-same c.cut f parts.0 in
        let term : c.term ≡ t = (Decides-term_eq c.term t).0 parts.1 in
        let result : c.result ≡ r = cc in
        carry (λ g. IsChosen K g t r) cut (carry (λ u. IsChosen K c.cut u r) term (carry (λ u. IsChosen K c.cut c.term u) result all.0))
    go false e h below = below h

record Start (K : Type 0) (f : Map) (ns : List Name) (s : Choices) : Type 0 where
  constants : K → ReplacesConstants f
  images : K → GivesNoImage s.names f
  names : K → GivesNone s.names ns
  chosen : AllChosen K s.chosen
  left : K → AllLeft s.chosen

record End (K : Type 0) (f : Map) (t : Term) (s : Choices) (r : Term × Choices) : Type 0 where
  is : IsSubst K f t r.0
  chosen : AllChosen K r.1.chosen
  leaves : K → Leaves f t r
  later : Later s.names r.1.names

record Ends (K : Type 0) (f : Map) (ts : Terms) (s : Choices) (r : Terms × Choices) : Type 0 where
  are : AreSubsts K f ts r.0
  chosen : AllChosen K r.1.chosen
  left : K → AllLeft r.1.chosen
  later : Later s.names r.1.names

kept-end : (K : Type 0) (f : Map) (q : Quantifier) (xs : List Variable) (body : Term) (s : Choices) → Start K f (names_within (quantified q xs body)) s
    → ((g : Map) (t : Choices) → Start K g (names_within body) t → End K g body t (subst_from g body t))
    → (K → Leaves f (quantified q xs body) (subst_from f (quantified q xs body) s))
    → (o : Option Term) → chosen_for s.chosen (cut_to (without xs (free body)) f) (quantified q xs body) ≡ o
    → (r : Term × Choices) → subst_from f (quantified q xs body) s ≡ r
    → kept_or o s (λ s'. keep (cut_to (without xs (free body)) f) (quantified q xs body) (quantify q (renaming (names_in (cut_to (without xs (free body)) f)) xs (cut_to (without xs (free body)) f) s'.names) s'.chosen (λ m' s''. subst_from m' body s''))) ≡ r
    → End K f (quantified q xs body) s r
kept-end K f q xs body s start below leaves (Some w) found r whole e =
    let is : IsSubst K f (quantified q xs body) w = found-chosen K s.chosen (cut_to (without xs (free body)) f) (quantified q xs body) w start.chosen found in
    carry (End K f (quantified q xs body) s) e (record { is = is; chosen = start.chosen; leaves = λ k. carry (Leaves f (quantified q xs body)) (whole ∙ sym e) (leaves k); later = λ n never. never })
kept-end K f q xs body s start below leaves None found r whole e =
    let cut : Map = cut_to (without xs (free body)) f in
    let c : List Name = names_in cut in
    let t : Choices = record { names = (renaming c xs cut s.names).names; chosen = s.chosen } in
    let images : K → GivesNoImage s.names cut = λ k. cut-spared s.names (without xs (free body)) f (start.images k) in
    let later : Later s.names t.names = renaming-later c xs cut s.names in
    let out : End K (renaming c xs cut s.names).map body t (subst_from (renaming c xs cut s.names).map body t) = below (renaming c xs cut s.names).map t (record {
      constants = λ k. renaming-constants c xs cut s.names (cut-constants (without xs (free body)) f (start.constants k));
      images = λ k. renaming-spared c xs cut s.names (images k);
      names = λ k n among. later n (start.names k n (in-right (map (λ x. x.name) xs) (names_within body) n among));
      chosen = start.chosen;
      left = start.left;
    }) in
    let is : IsSubst K f (quantified q xs body) (quantified q (renaming c xs cut s.names).variables (subst_from (renaming c xs cut s.names).map body t).0) = record {
      supply = s.names;
      inner = (subst_from (renaming c xs cut s.names).map body t).0;
      names = start.names;
      images = images;
      below = out.is;
      left = λ k. (out.leaves k).result;
      result = refl;
    } in
    carry (End K f (quantified q xs body) s) e (record {
      is = is;
      chosen = (is, out.chosen);
      leaves = λ k. carry (Leaves f (quantified q xs body)) (whole ∙ sym e) (leaves k);
      later = λ n never. out.later n (later n never);
    })

mutual
  subst_from-end : (K : Type 0) (t : Term) (f : Map) (s : Choices) → Start K f (names_within t) s → End K f t s (subst_from f t s)
  subst_from-end K (apply h ts) f s start =
      let out : Ends K f ts s (substs_from f ts s) = substs_from-ends K ts f s (record { constants = start.constants; images = start.images; names = λ k n among. start.names k n (in-right (names_of (head_symbols h)) (names_within_each ts) n among); chosen = start.chosen; left = start.left }) in
      record {
        is = record { operands = (substs_from f ts s).0; each = out.are; result = refl };
        chosen = out.chosen;
        leaves = λ k. subst_from-leaves (apply h ts) f s (start.constants k) (start.left k);
        later = out.later;
      }
  subst_from-end K (quantified q xs body) f s start =
      kept-end K f q xs body s start (λ g t st. subst_from-end K body g t st) (λ k. subst_from-leaves (quantified q xs body) f s (start.constants k) (start.left k))
      (chosen_for s.chosen (cut_to (without xs (free body)) f) (quantified q xs body)) refl (subst_from f (quantified q xs body) s) refl refl

  substs_from-ends : (K : Type 0) (ts : Terms) (f : Map) (s : Choices) → Start K f (names_within_each ts) s → Ends K f ts s (substs_from f ts s)
  substs_from-ends K none f s start = record { are = tt; chosen = start.chosen; left = start.left; later = λ n never. never }
  substs_from-ends K (t ⨾ ts) f s start =
      let first : End K f t s (subst_from f t s) = subst_from-end K t f s (record { constants = start.constants; images = start.images; names = λ k n among. start.names k n (in-left (names_within t) (names_within_each ts) n among); chosen = start.chosen; left = start.left }) in
      let rest : Ends K f ts (subst_from f t s).1 (substs_from f ts (subst_from f t s).1) = substs_from-ends K ts f (subst_from f t s).1 (record {
        constants = start.constants;
        images = λ k g u found n among. first.later n (start.images k g u found n among);
        names = λ k n among. first.later n (start.names k n (in-right (names_within t) (names_within_each ts) n among));
        chosen = first.chosen;
        left = λ k. (first.leaves k).kept;
      }) in
      record { are = (first.is, rest.are); chosen = rest.chosen; left = rest.left; later = λ n never. rest.later n (first.later n never) }

-- in any case, and where the supply gives none of these names
pub subst-any : (f : Map) (t : Term) (s : Supply) → IsSubst ⊥ f t (subst f t s).0
subst-any f t s = (subst_from-end ⊥ t f (record { names = s; chosen = [] }) (record { constants = λ k. absurd k; images = λ k. absurd k; names = λ k. absurd k; chosen = tt; left = λ k. absurd k })).is

pub subst-is : (f : Map) (t : Term) (s : Supply) → ReplacesConstants f → GivesNoImage s f → GivesNone s (names_within t) → IsSubst ⊤ f t (subst f t s).0
unfolding AllLeft
subst-is f t s constants images names = (subst_from-end ⊤ t f (record { names = s; chosen = [] }) (record { constants = λ k. constants; images = λ k. images; names = λ k. names; chosen = tt; left = λ k. tt })).is

-- ---- what holds of renamed variables and of their images

abbrev pub ImagesHave : (Term → Type 0) → Map → Type 0
ImagesHave P f = (g : Symbol) (u : Term) → image f g ≡ Some u → P u

pub cut-have : (P : Term → Type 0) (fs : List Symbol) (f : Map) → ImagesHave P f → ImagesHave P (cut_to fs f)
cut-have P fs f have g u found = have g u (cut-image fs f g u found).1

pub front-have : (P : Term → Type 0) (x : Variable) (t : Term) (f : Map) → P t → ImagesHave P f → ImagesHave P ((constant_of x, t) ∷ f)
front-have P x t f here have g u found = go (symbol_eq (constant_of x) g) found
  where
    go : (b : Bool) → cond b (Some t) (image f g) ≡ Some u → P u
    go true e = let same : t ≡ u = cc in carry P same here
    go false e = have g u e

-- a test of sorts says of the new variables what it says of the old ones
pub renamed-all : (p : Sort → Bool) (c : List Name) (xs : List Variable) (f : Map) (s : Supply) → list_all (λ x. p x.sort) (renaming c xs f s).variables ≡ list_all (λ x. p x.sort) xs
renamed-all p c [] f s = refl
renamed-all p c (x ∷ xs) f s = go (name_among c x.name) (λ g t. renamed-all p c xs g t)
  where
    go : (b : Bool) → ((g : Map) (t : Supply) → list_all (λ y. p y.sort) (renaming c xs g t).variables ≡ list_all (λ y. p y.sort) xs) → list_all (λ y. p y.sort) (bind b x f s (λ g t. renaming c xs g t)).variables ≡ (p x.sort && list_all (λ y. p y.sort) xs)
    go true below = ap (λ b. p x.sort && b) (below ((constant_of x, variable (fresh_for x s)) ∷ f) (after_draw s))
    go false below = ap (λ b. p x.sort && b) (below f s)

renamed-any : (p : Sort → Bool) (c : List Name) (xs : List Variable) (f : Map) (s : Supply) → list_any (λ x. p x.sort) (renaming c xs f s).variables ≡ list_any (λ x. p x.sort) xs
renamed-any p c [] f s = refl
renamed-any p c (x ∷ xs) f s = go (name_among c x.name) (λ g t. renamed-any p c xs g t)
  where
    go : (b : Bool) → ((g : Map) (t : Supply) → list_any (λ y. p y.sort) (renaming c xs g t).variables ≡ list_any (λ y. p y.sort) xs) → list_any (λ y. p y.sort) (bind b x f s (λ g t. renaming c xs g t)).variables ≡ (p x.sort || list_any (λ y. p y.sort) xs)
    go true below = ap (λ b. p x.sort || b) (below ((constant_of x, variable (fresh_for x s)) ∷ f) (after_draw s))
    go false below = ap (λ b. p x.sort || b) (below f s)

-- the images after renaming, where P holds of variables of the sorts of these
pub renamed-have : (P : Term → Type 0) (p : Sort → Bool) → ((y : Variable) → p y.sort ≡ true → P (variable y)) → (c : List Name) (xs : List Variable) (f : Map) (s : Supply) → list_all (λ x. p x.sort) xs ≡ true → ImagesHave P f → ImagesHave P (renaming c xs f s).map
renamed-have P p variables c [] f s all have = have
renamed-have P p variables c (x ∷ xs) f s all have =
    let parts = both_true (p x.sort) (list_all (λ y. p y.sort) xs) all in
    go parts.0 (name_among c x.name) (λ g t h. renamed-have P p variables c xs g t parts.1 h)
  where
    go : p x.sort ≡ true → (b : Bool) → ((g : Map) (t : Supply) → ImagesHave P g → ImagesHave P (renaming c xs g t).map) → ImagesHave P (bind b x f s (λ g t. renaming c xs g t)).map
    go here true below = below ((constant_of x, variable (fresh_for x s)) ∷ f) (after_draw s) (front-have P x (variable (fresh_for x s)) f (variables (fresh_for x s) here) have)
    go here false below = below f s have

abbrev pub any_sort : Sort → Bool
any_sort s = true

pub all-any : (xs : List Variable) → list_all (λ x. any_sort x.sort) xs ≡ true
all-any [] = refl
all-any (x ∷ xs) = all-any xs

-- ---- what holds of a made term

made-has : (P : Term → Type 0) (h : Head) (us : Terms) → (is_minus_of h us ≡ false → P (apply h us)) → ((n : ℤ) → P (whole_term n)) → P (made h us)
unfolding is_minus_of is_minus is_whole
made-has P (symbol f) us plain whole = plain refl
made-has P (const_array s) us plain whole = plain refl
made-has P (op Neg) none plain whole = plain refl
made-has P (op Neg) (t ⨾ (u ⨾ us)) plain whole = plain (two_or_more Neg t u us)
made-has P (op Neg) (quantified q xs t ⨾ none) plain whole = plain refl
made-has P (op Neg) (apply (symbol f) ts ⨾ none) plain whole = plain refl
made-has P (op Neg) (apply (const_array s) ts ⨾ none) plain whole = plain refl
made-has P (op Neg) (apply (op (Whole n)) none ⨾ none) plain whole = whole _
made-has P (op Neg) (apply (op (Whole n)) (t ⨾ ts) ⨾ none) plain whole = plain refl
made-has P (op Neg) (apply (op c) none ⨾ none) plain whole = plain refl
made-has P (op Neg) (apply (op c) (t ⨾ ts) ⨾ none) plain whole = plain refl
made-has P (op p) us plain whole = plain (not_minus p us refl)

-- ---- regular terms

abbrev Regular : Term → Type 0
Regular t = is_regular t ≡ true

pub variable-regular : (y : Variable) → is_sort y.sort ≡ true → Regular (variable y)
unfolding is_minus_of
variable-regular y e = and_true (is_sort y.sort) true e refl

whole-regular : (n : ℤ) → Regular (whole_term n)
unfolding is_minus_of
whole-regular n = refl

image-has : (P : Term → Type 0) (f : Map) (g : Symbol) (o : Option Term) → image f g ≡ o → P (constant g) → ImagesHave P f → P (image_or_itself o g)
image-has P f g None e here have = here
image-has P f g (Some u) e here have = have g u e

rebuilt-regular : (f : Map) (h : Head) (ts us : Terms) → Regular (apply h ts) → ImagesHave Regular f → are_regular us ≡ true → Regular (rebuilt f h us)
unfolding is_minus_of
rebuilt-regular f (symbol g) ts none given have each = image-has Regular f g (image f g) refl (and_true (has_sorts (symbol g)) true (regular (symbol g) ts given).head refl) have
rebuilt-regular f (symbol g) ts (u ⨾ us) given have each = regular_over (symbol g) (u ⨾ us) (record { head = (regular (symbol g) ts given).head; no_minus = refl; operands = each })
rebuilt-regular f (op o) ts us given have each = made-has Regular (op o) us (λ e. regular_over (op o) us (record { head = refl; no_minus = ap not e; operands = each })) whole-regular
rebuilt-regular f (const_array s) ts us given have each = regular_over (const_array s) us (record { head = (regular (const_array s) ts given).head; no_minus = refl; operands = each })

mutual
  pub subst-regular : (K : Type 0) (t : Term) (f : Map) (r : Term) → IsSubst K f t r → is_regular t ≡ true → ImagesHave Regular f → is_regular r ≡ true
  subst-regular K (apply h ts) f r is given have = carry Regular is.result (rebuilt-regular f h ts is.operands given have (substs-regular K ts f is.operands is.each (regular h ts given).operands have))
  subst-regular K (quantified q xs body) f r is given have =
      let cut : Map = cut_to (without xs (free body)) f in
      let parts = both_true (list_all (λ x. is_sort x.sort) xs) (is_regular body) given in
      let images : ImagesHave Regular (renaming (names_in cut) xs cut is.supply).map = renamed-have Regular is_sort variable-regular (names_in cut) xs cut is.supply parts.0 (cut-have Regular (without xs (free body)) f have) in
      carry Regular is.result (and_true (list_all (λ x. is_sort x.sort) (renaming (names_in cut) xs cut is.supply).variables) (is_regular is.inner) (renamed-all is_sort (names_in cut) xs cut is.supply ∙ parts.0) (subst-regular K body (renaming (names_in cut) xs cut is.supply).map is.inner is.below parts.1 images))

  substs-regular : (K : Type 0) (ts : Terms) (f : Map) (us : Terms) → AreSubsts K f ts us → are_regular ts ≡ true → ImagesHave Regular f → are_regular us ≡ true
  substs-regular K none f none are given have = refl
  substs-regular K (t ⨾ ts) f (u ⨾ us) are given have =
      let parts = both_true (is_regular t) (are_regular ts) given in
      and_true (is_regular u) (are_regular us) (subst-regular K t f u are.0 parts.0 have) (substs-regular K ts f us are.1 parts.1 have)
  substs-regular K none f (u ⨾ us) are given have = absurd are
  substs-regular K (t ⨾ ts) f none are given have = absurd are

-- ---- no quantifier over truth values

abbrev NoBool : Term → Type 0
NoBool t = no_bool_quantifier t ≡ true

rebuilt-no_bool : (f : Map) (h : Head) (us : Terms) → ImagesHave NoBool f → no_bool_quantifiers us ≡ true → NoBool (rebuilt f h us)
rebuilt-no_bool f (symbol g) none have each = image-has NoBool f g (image f g) refl refl have
rebuilt-no_bool f (symbol g) (u ⨾ us) have each = each
rebuilt-no_bool f (op o) us have each = made-has NoBool (op o) us (λ e. each) (λ n. refl)
rebuilt-no_bool f (const_array s) us have each = each

mutual
  pub subst-no_bool : (K : Type 0) (t : Term) (f : Map) (r : Term) → IsSubst K f t r → no_bool_quantifier t ≡ true → ImagesHave NoBool f → no_bool_quantifier r ≡ true
  subst-no_bool K (apply h ts) f r is given have = carry NoBool is.result (rebuilt-no_bool f h is.operands have (substs-no_bool K ts f is.operands is.each given have))
  subst-no_bool K (quantified q xs body) f r is given have =
      let cut : Map = cut_to (without xs (free body)) f in
      let parts = both_true (not (list_any (λ x. is_bool x.sort) xs)) (no_bool_quantifier body) given in
      let images : ImagesHave NoBool (renaming (names_in cut) xs cut is.supply).map = renamed-have NoBool any_sort (λ y e. refl) (names_in cut) xs cut is.supply (all-any xs) (cut-have NoBool (without xs (free body)) f have) in
      carry NoBool is.result (and_true (not (list_any (λ x. is_bool x.sort) (renaming (names_in cut) xs cut is.supply).variables)) (no_bool_quantifier is.inner) (ap not (renamed-any is_bool (names_in cut) xs cut is.supply) ∙ parts.0) (subst-no_bool K body (renaming (names_in cut) xs cut is.supply).map is.inner is.below parts.1 images))

  substs-no_bool : (K : Type 0) (ts : Terms) (f : Map) (us : Terms) → AreSubsts K f ts us → no_bool_quantifiers ts ≡ true → ImagesHave NoBool f → no_bool_quantifiers us ≡ true
  substs-no_bool K none f none are given have = refl
  substs-no_bool K (t ⨾ ts) f (u ⨾ us) are given have =
      let parts = both_true (no_bool_quantifier t) (no_bool_quantifiers ts) given in
      and_true (no_bool_quantifier u) (no_bool_quantifiers us) (subst-no_bool K t f u are.0 parts.0 have) (substs-no_bool K ts f us are.1 parts.1 have)
  substs-no_bool K none f (u ⨾ us) are given have = absurd are
  substs-no_bool K (t ⨾ ts) f none are given have = absurd are

-- ---- no more quantifiers, where the images have none

abbrev pub Unquantified : Term → Type 0
Unquantified t = quantifiers t ≡ 0

rebuilt-fewer : (f : Map) (h : Head) (us : Terms) (n : ℕ) → ImagesHave Unquantified f → quantifiers_of us ≤ n → quantifiers (rebuilt f h us) ≤ n
rebuilt-fewer f (symbol g) none n have each =
    let nothing : quantifiers (image_or_itself (image f g) g) ≡ 0 = image-has Unquantified f g (image f g) refl refl have in
    omega arith
rebuilt-fewer f (symbol g) (u ⨾ us) n have each = each
rebuilt-fewer f (op o) us n have each = made-has (λ t. quantifiers t ≤ n) (op o) us (λ e. each) (λ m. omega arith)
rebuilt-fewer f (const_array s) us n have each = each

mutual
  pub subst-fewer : (K : Type 0) (t : Term) (f : Map) (r : Term) → IsSubst K f t r → ImagesHave Unquantified f → quantifiers r ≤ quantifiers t
  subst-fewer K (apply h ts) f r is have = carry (λ u. quantifiers u ≤ quantifiers_of ts) is.result (rebuilt-fewer f h is.operands (quantifiers_of ts) have (substs-fewer K ts f is.operands is.each have))
  subst-fewer K (quantified q xs body) f r is have =
      let cut : Map = cut_to (without xs (free body)) f in
      let images : ImagesHave Unquantified (renaming (names_in cut) xs cut is.supply).map = renamed-have Unquantified any_sort (λ y e. refl) (names_in cut) xs cut is.supply (all-any xs) (cut-have Unquantified (without xs (free body)) f have) in
      let inner : quantifiers is.inner ≤ quantifiers body = subst-fewer K body (renaming (names_in cut) xs cut is.supply).map is.inner is.below images in
      carry (λ u. quantifiers u ≤ suc (quantifiers body)) is.result (omega arith)

  substs-fewer : (K : Type 0) (ts : Terms) (f : Map) (us : Terms) → AreSubsts K f ts us → ImagesHave Unquantified f → quantifiers_of us ≤ quantifiers_of ts
  substs-fewer K none f none are have = omega arith
  substs-fewer K (t ⨾ ts) f (u ⨾ us) are have =
      let first : quantifiers u ≤ quantifiers t = subst-fewer K t f u are.0 have in
      let rest : quantifiers_of us ≤ quantifiers_of ts = substs-fewer K ts f us are.1 have in
      omega arith
  substs-fewer K none f (u ⨾ us) are have = absurd are
  substs-fewer K (t ⨾ ts) f none are have = absurd are

-- ---- clear terms

-- what isn't given has another name than each new variable
renamed-sees : (c : List Name) (xs : List Variable) (f : Map) (s : Supply) (g : Symbol) → NeverGives s g.name → Sees xs g → Sees (renaming c xs f s).variables g
renamed-sees c [] f s g never sees = tt
renamed-sees c (x ∷ xs) f s g never sees = go (name_among c x.name) (λ k t h. renamed-sees c xs k t g h sees.1)
  where
    go : (b : Bool) → ((k : Map) (t : Supply) → NeverGives t g.name → Sees (renaming c xs k t).variables g) → Sees (bind b x f s (λ k t. renaming c xs k t)).variables g
    go true below = ((λ same. absurd (never-next s g.name never (sym same))), below ((constant_of x, variable (fresh_for x s)) ∷ f) (after_draw s) (never-after s g.name never))
    go false below = (sees.0, below f s never)

-- and so has what no variable that keeps its name is named
unnamed-sees : (c : List Name) (xs : List Variable) (f : Map) (s : Supply) (g : Symbol) → NeverGives s g.name → NoneNamed c xs g.name → Sees (renaming c xs f s).variables g
unnamed-sees c [] f s g never unnamed = tt
unnamed-sees c (x ∷ xs) f s g never unnamed = go (name_among c x.name) refl (λ k t h. unnamed-sees c xs k t g h unnamed.1)
  where
    go : (b : Bool) → name_among c x.name ≡ b → ((k : Map) (t : Supply) → NeverGives t g.name → Sees (renaming c xs k t).variables g) → Sees (bind b x f s (λ k t. renaming c xs k t)).variables g
    go true e below = ((λ same. absurd (never-next s g.name never (sym same))), below ((constant_of x, variable (fresh_for x s)) ∷ f) (after_draw s) (never-after s g.name never))
    go false e below = ((λ same. absurd (unnamed.0 e same)), below f s never)

among-has : (ys : List Variable) (n : Name) (g : Symbol) → is_among (map constant_of ys) g ≡ true → n ≡ g.name → has_name n (map (λ y. y.name) ys) ≡ true
among-has [] n g among same = absurd cc
among-has (y ∷ ys) n g among same = go (either_true (symbol_eq (constant_of y) g) (is_among (map constant_of ys) g) among) (λ there. among-has ys n g there same)
  where
    go : (symbol_eq (constant_of y) g ≡ true) ⊎ (is_among (map constant_of ys) g ≡ true) → (is_among (map constant_of ys) g ≡ true → has_name n (map (λ z. z.name) ys) ≡ true) → (name_eq n y.name || has_name n (map (λ z. z.name) ys)) ≡ true
    go (inl here) below = left_true (name_eq n y.name) (has_name n (map (λ z. z.name) ys)) ((Decides-name_eq n y.name).1 (same ∙ sym (ap (λ (k : Symbol). k.name) ((Decides-symbol_eq (constant_of y) g).0 here))))
    go (inr there) below = right_true (name_eq n y.name) (has_name n (map (λ z. z.name) ys)) (below there)

pub unnamed-all : (ys : List Variable) (g : Symbol) → has_name g.name (map (λ y. y.name) ys) ≡ false → Sees ys g
unnamed-all [] g apart = tt
unnamed-all (y ∷ ys) g apart =
    let parts = both_false (name_eq g.name y.name) (has_name g.name (map (λ z. z.name) ys)) apart in
    ((λ same. absurd (differ parts.0 ((Decides-name_eq g.name y.name).1 (sym same)))), unnamed-all ys g parts.1)
  where
    differ : name_eq g.name y.name ≡ false → name_eq g.name y.name ≡ true → ⊥
    differ e h = absurd cc

-- one of the variables, whose names differ
pub bound-sees : (ys : List Variable) (g : Symbol) → are_distinct (map (λ y. y.name) ys) ≡ true → is_among (map constant_of ys) g ≡ true → Sees ys g
bound-sees [] g distinct among = tt
bound-sees (y ∷ ys) g distinct among =
    let parts = both_true (not (has_name y.name (map (λ z. z.name) ys))) (are_distinct (map (λ z. z.name) ys)) distinct in
    go parts.0 (either_true (symbol_eq (constant_of y) g) (is_among (map constant_of ys) g) among) (bound-sees ys g parts.1)
  where
    named : (zs : List Variable) → is_among (map constant_of zs) g ≡ true → y.name ≡ g.name → has_name y.name (map (λ z. z.name) zs) ≡ true
    named zs inside same = among-has zs y.name g inside same

    never : (a : Bool) → not a ≡ true → a ≡ true → ⊥
    never true h e = absurd cc
    never false h e = absurd cc

    go : not (has_name y.name (map (λ z. z.name) ys)) ≡ true → (symbol_eq (constant_of y) g ≡ true) ⊎ (is_among (map constant_of ys) g ≡ true) → (is_among (map constant_of ys) g ≡ true → Sees ys g) → Sees (y ∷ ys) g
    go apart (inl here) below =
        let same : constant_of y ≡ g = (Decides-symbol_eq (constant_of y) g).0 here in
        ((λ e. same), unnamed-all ys g (ap (λ n. has_name n (map (λ z. z.name) ys)) (ap (λ (k : Symbol). k.name) (sym same)) ∙ not_true (has_name y.name (map (λ z. z.name) ys)) apart))
    go apart (inr there) below = ((λ e. absurd (never (has_name y.name (map (λ z. z.name) ys)) apart (named ys there e))), below there)

-- free below the renamed quantifier: what it was before, or what comes with an image
quantified-clear : (f : Map) (q : Quantifier) (xs : List Variable) (body : Term) (r : Term) (sort : Sort) → sort_of (quantified q xs body) ≡ Some sort → (is : Bound ⊤ (λ g b. IsSubst ⊤ g body b) (cut_to (without xs (free body)) f) q xs body r) → Clear (quantified q xs body)
    → (g : Symbol) → is_among (free is.inner) g ≡ true → Sees (renaming (names_in (cut_to (without xs (free body)) f)) xs (cut_to (without xs (free body)) f) is.supply).variables g
unfolding IsLeft
quantified-clear f q xs body r sort has is clear g among = go (is.left tt bool (quantified_sort q xs body sort has).body g among)
  where
    cut : Map
    cut = cut_to (without xs (free body)) f

    distinct : are_distinct (map (λ y. y.name) (renaming (names_in (cut_to (without xs (free body)) f)) xs (cut_to (without xs (free body)) f) is.supply).variables) ≡ true
    distinct = (bindable-parts (renaming (names_in cut) xs cut is.supply).variables (renaming-bindable (names_in cut) xs cut is.supply (quantified_sort q xs body sort has).bindable (variables-spared is.supply xs (λ n inside. is.names tt n (in-left (map (λ x. x.name) xs) (names_within body) n inside))))).0

    go : LeftFree (renaming (names_in (cut_to (without xs (free body)) f)) xs (cut_to (without xs (free body)) f) is.supply).map (free body) g → Sees (renaming (names_in (cut_to (without xs (free body)) f)) xs (cut_to (without xs (free body)) f) is.supply).variables g
    go (stays there none_) =
        renamed-sees (names_in cut) xs cut is.supply g (symbols-spared is.supply body (λ n inside. is.names tt n (in-right (map (λ x. x.name) xs) (names_within body) n inside)) g there) (clear.0 g there)
    go (comes h u there found inside) = from (renaming-source (names_in cut) xs cut is.supply h u found)
      where
        from : Source (cut_to (without xs (free body)) f) (renaming (names_in (cut_to (without xs (free body)) f)) xs (cut_to (without xs (free body)) f) is.supply).variables h u → Sees (renaming (names_in (cut_to (without xs (free body)) f)) xs (cut_to (without xs (free body)) f) is.supply).variables g
        from (before e) =
            unnamed-sees (names_in cut) xs cut is.supply g (is.images tt h u e g.name (among-name (free u) g inside)) (names-apart xs cut h u e g.name (among-name (free u) g inside))
        from (bound y e within) =
            let same : constant_of y ≡ g = one-symbol (constant_of y) g (ap (λ t. is_among (free t) g) (sym e) ∙ inside) in
            bound-sees (renaming (names_in cut) xs cut is.supply).variables g distinct (ap (is_among (map constant_of (renaming (names_in cut) xs cut is.supply).variables)) (sym same) ∙ within)

rebuilt-clear : (f : Map) (h : Head) (us : Terms) → ImagesHave Clear f → ClearEach us → Clear (rebuilt f h us)
rebuilt-clear f (symbol g) none have each = image-has Clear f g (image f g) refl tt have
rebuilt-clear f (symbol g) (u ⨾ us) have each = each
rebuilt-clear f (op o) us have each = made-has Clear (op o) us (λ e. each) (λ n. tt)
rebuilt-clear f (const_array s) us have each = each

mutual
  pub subst-clear : (t : Term) (f : Map) (r : Term) (s : Sort) → sort_of t ≡ Some s → IsSubst ⊤ f t r → Clear t → ImagesHave Clear f → Clear r
  subst-clear (apply h ts) f r s has is clear have =
      let a = applied h ts s has in
      carry Clear is.result (rebuilt-clear f h is.operands have (substs-clear ts f is.operands a.sorts a.operands is.each clear have))
  subst-clear (quantified q xs body) f r s has is clear have =
      let cut : Map = cut_to (without xs (free body)) f in
      let images : ImagesHave Clear (renaming (names_in cut) xs cut is.supply).map = renamed-have Clear any_sort (λ y e. tt) (names_in cut) xs cut is.supply (all-any xs) (cut-have Clear (without xs (free body)) f have) in
      carry Clear is.result (quantified-clear f q xs body r s has is clear, subst-clear body (renaming (names_in cut) xs cut is.supply).map is.inner bool (quantified_sort q xs body s has).body is.below clear.1 images)

  substs-clear : (ts : Terms) (f : Map) (us : Terms) (ss : List Sort) → sorts_of ts ≡ Some ss → AreSubsts ⊤ f ts us → ClearEach ts → ImagesHave Clear f → ClearEach us
  substs-clear none f none ss has are clear have = tt
  substs-clear (t ⨾ ts) f (u ⨾ us) ss has are clear have =
      let a = sorted t ts ss has in
      (subst-clear t f u a.sort a.first are.0 clear.0 have, substs-clear ts f us a.sorts a.others are.1 clear.1 have)
  substs-clear none f (u ⨾ us) ss has are clear have = absurd are
  substs-clear (t ⨾ ts) f none ss has are clear have = absurd are
