-- Terms whose free symbols are among some, with clear names: what is made of them, and definitions over them.
use Rattle.std.proofs.Common.{◌≡◌, ◌∙◌, sym, ap, subst, refl, ℕ, suc, Bool, true, false, cond, ◌⊎◌, inl, inr, List, [], ◌∷◌, ◌++◌, map, zip, Some, None, Ok}
use Rattle.smt_terms.specs.declared.op.Op.{Op}
use Rattle.smt_terms.specs.declared.op.Op.TheVariants.{Whole, Neg}
use Rattle.smt_terms.specs.Equal.{symbol_eq}
use Rattle.smt_terms.specs.Free.{is_among, with_more, head_symbols, free, free_of}
use Rattle.smt_terms.specs.Fresh.{Supply}
use Rattle.smt_terms.specs.Made.{minus, made}
use Rattle.smt_terms.specs.Rank.{sort_of, sorts_of}
use Rattle.smt_terms.specs.Shapes.{is_head_seen, is_clear_below, are_clear_below}
use Rattle.smt_terms.specs.Sorts.{Sort, bool, Symbol, Variable}
use Rattle.smt_terms.specs.Subst.{image, parameter, expand}
use Rattle.smt_terms.specs.SubstLaws.{names_within, names_within_each, GivesNone, GivesNoImage, ReplacesConstants, LeftFree, stays, comes}
use Rattle.smt_terms.specs.Term.{Head, op, symbol, Term, apply, Terms, none, ◌⨾◌, terms, constant}
use Rattle.smt_terms.specs.Written.{Algebra, Written, build}
use Rattle.smt_terms.proofs.Among.{is_among-append, is_among-with_more}
use Rattle.smt_terms.proofs.Equal.{Decides-symbol_eq}
use Rattle.smt_terms.proofs.Operands.{fewer_sorts}
use Rattle.smt_terms.proofs.Ranked.{rank-takes}
use Rattle.smt_terms.proofs.SubstClear.{made_clear, subst-hides_nothing}
use Rattle.smt_terms.proofs.SubstFree.{subst-leaves_free}
use Rattle.smt_terms.proofs.Tests.{and_true, both_true, either_true, left_true, right_true, contrary}
use Rattle.script_terms.specs.Heads.{term_width, term_algebra, operand_sorts, parameters_from, rank_of_arguments}
use Rattle.script_terms.proofs.Builds.{builds}
use Rattle.script_read.proofs.Expanding.{Arguments, arguments_sound, free_spared, unwrapped}
use Rattle.script_read.proofs.Fitting.{have_sorts}

-- ---- terms whose free symbols are among these, with clear names

pub record ClearTerm (gs : List Symbol) (t : Term) : Type 0 where
  pub clear : is_clear_below [] t ≡ true
  pub within : (g : Symbol) → is_among (free t) g ≡ true → is_among gs g ≡ true

pub record ClearEach (gs : List Symbol) (ts : Terms) : Type 0 where
  pub clear : are_clear_below [] ts ≡ true
  pub within : (g : Symbol) → is_among (free_of ts) g ≡ true → is_among gs g ≡ true

pub clear_more : (fs gs : List Symbol) (t : Term) → ((g : Symbol) → is_among fs g ≡ true → is_among gs g ≡ true) → ClearTerm fs t → ClearTerm gs t
clear_more fs gs t more c = record { clear = c.clear; within = λ g among. more g (c.within g among) }

pub in_left : (fs gs : List Symbol) (g : Symbol) → is_among fs g ≡ true → is_among (fs ++ gs) g ≡ true
in_left fs gs g h = is_among-append fs gs g ∙ left_true (is_among fs g) (is_among gs g) h

pub in_right : (fs gs : List Symbol) (g : Symbol) → is_among gs g ≡ true → is_among (fs ++ gs) g ≡ true
in_right fs gs g h = is_among-append fs gs g ∙ right_true (is_among fs g) (is_among gs g) h

pub in_either : (fs gs : List Symbol) (g : Symbol) → is_among (fs ++ gs) g ≡ true → (is_among fs g ≡ true) ⊎ (is_among gs g ≡ true)
in_either fs gs g h = either_true (is_among fs g) (is_among gs g) (sym (is_among-append fs gs g) ∙ h)

-- of either list
from_both : (fs gs hs : List Symbol) (g : Symbol) → (is_among fs g ≡ true → is_among hs g ≡ true) → (is_among gs g ≡ true → is_among hs g ≡ true) → is_among (with_more fs gs) g ≡ true → is_among hs g ≡ true
from_both fs gs hs g a b among = go (either_true (is_among fs g) (is_among gs g) (sym (is_among-with_more fs gs g) ∙ among))
  where
    go : (is_among fs g ≡ true) ⊎ (is_among gs g ≡ true) → is_among hs g ≡ true
    go (inl h) = a h
    go (inr h) = b h

-- the one symbol of a list
only_one : (f g : Symbol) (hs : List Symbol) → is_among hs f ≡ true → is_among (f ∷ []) g ≡ true → is_among hs g ≡ true
only_one f g hs here among = go (either_true (symbol_eq f g) false among)
  where
    go : (symbol_eq f g ≡ true) ⊎ (false ≡ true) → is_among hs g ≡ true
    go (inl e) = ap (is_among hs) (sym ((Decides-symbol_eq f g).0 e)) ∙ here
    go (inr e) = absurd cc

pub each_clear : (gs : List Symbol) (t : Term) (ts : Terms) → ClearTerm gs t → ClearEach gs ts → ClearEach gs (t ⨾ ts)
each_clear gs t ts a b = record {
  clear = and_true (is_clear_below [] t) (are_clear_below [] ts) a.clear b.clear;
  within = λ g among. from_both (free t) (free_of ts) gs g (a.within g) (b.within g) among;
}

pub none_clear : (gs : List Symbol) → ClearEach gs none
none_clear gs = record { clear = refl; within = λ g among. absurd cc }

pub head_clear : (gs : List Symbol) (h : Head) (ts : Terms) → ((g : Symbol) → is_among (head_symbols h) g ≡ true → is_among gs g ≡ true) → is_head_seen [] h ≡ true → ClearEach gs ts → ClearTerm gs (apply h ts)
head_clear gs h ts known seen each = record {
  clear = and_true (is_head_seen [] h) (are_clear_below [] ts) seen each.clear;
  within = λ g among. from_both (head_symbols h) (free_of ts) gs g (known g) (each.within g) among;
}

pub symbol_clear : (gs : List Symbol) (f : Symbol) (ts : Terms) → is_among gs f ≡ true → ClearEach gs ts → ClearTerm gs (apply (symbol f) ts)
symbol_clear gs f ts known each = head_clear gs (symbol f) ts (λ g among. only_one f g gs known among) refl each

pub constant_clear : (gs : List Symbol) (f : Symbol) → is_among gs f ≡ true → ClearTerm gs (constant f)
constant_clear gs f known = symbol_clear gs f none known (none_clear gs)

pub number_clear : (gs : List Symbol) (o : Op) → ClearTerm gs (apply (op o) none)
number_clear gs o = head_clear gs (op o) none (λ g among. absurd cc) refl (none_clear gs)

-- ---- what is made of such terms

minus_within : (gs : List Symbol) (t : Term) → ((g : Symbol) → is_among (free (apply (op Neg) (t ⨾ none))) g ≡ true → is_among gs g ≡ true) → (g : Symbol) → is_among (free (minus t)) g ≡ true → is_among gs g ≡ true
minus_within gs (apply (op (Whole n)) none) within g among = absurd cc
minus_within gs t within g among = within g among

made_within : (gs : List Symbol) (h : Head) (ts : Terms) → ((g : Symbol) → is_among (free (apply h ts)) g ≡ true → is_among gs g ≡ true) → (g : Symbol) → is_among (free (made h ts)) g ≡ true → is_among gs g ≡ true
made_within gs (op Neg) (t ⨾ none) within g among = minus_within gs t within g among
made_within gs h ts within g among = within g among

module _ (gs : List Symbol) where
  abbrev ClearOne : Type 0
  ClearOne = (t : Term) × ClearTerm gs t

  abbrev plain_terms : List ClearOne → List Term
  plain_terms xs = map (λ x. x.0) xs

  all_of_them : (xs : List ClearOne) → ClearEach gs (terms (plain_terms xs))
  all_of_them [] = none_clear gs
  all_of_them (x ∷ xs) = each_clear gs x.0 (terms (plain_terms xs)) x.1 (all_of_them xs)

  with_facts : (ts : List Term) → ClearEach gs (terms ts) → (xs : List ClearOne) × (plain_terms xs ≡ ts)
  with_facts [] each = ([], refl)
  with_facts (t ∷ ts) each =
      let parts = both_true (is_clear_below [] t) (are_clear_below [] (terms ts)) each.clear in
      let rest = with_facts ts (record { clear = parts.1; within = λ g among. each.within g (is_among-with_more (free t) (free_of (terms ts)) g ∙ right_true (is_among (free t) g) (is_among (free_of (terms ts)) g) among) }) in
      ((t, record { clear = parts.0; within = λ g among. each.within g (is_among-with_more (free t) (free_of (terms ts)) g ∙ left_true (is_among (free t) g) (is_among (free_of (terms ts)) g) among) }) ∷ rest.0, ap (λ us. t ∷ us) rest.1)

  made_fine : (o : Op) (ts : Terms) → ClearEach gs ts → ClearTerm gs (made (op o) ts)
  made_fine o ts each = record {
    clear = made_clear [] (op o) ts refl each.clear;
    within = made_within gs (op o) ts (λ g among. from_both [] (free_of ts) gs g (λ h. absurd cc) (each.within g) among);
  }

  clear_algebra : Algebra ClearOne
  clear_algebra = record { make = λ o xs. (made (op o) (terms (plain_terms xs)), made_fine o (terms (plain_terms xs)) (all_of_them xs)); width_in = λ x. term_width x.0 }

  pub build_clear : (w : Written) (ts : List Term) → ClearEach gs (terms ts) → ClearTerm gs (build term_algebra w ts)
  unfolding clear_algebra
  build_clear w ts each =
      let found = with_facts ts each in
      let same : build term_algebra w (plain_terms found.0) ≡ (build clear_algebra w found.0).0 = builds clear_algebra term_algebra (λ x. x.0) (record { applications = λ o xs. refl; widths = λ x. refl }) w found.0 in
      subst (λ us. ClearTerm gs (build term_algebra w us)) found.1
      (subst (λ t. ClearTerm gs t) (sym same) (build clear_algebra w found.0).1)

-- ---- definitions over arguments

abbrev sorts_of_variables : List Variable → List Sort
sorts_of_variables xs = map (λ x. x.sort) xs

image_from : (i : ℕ) (xs : List Variable) (gs : List Symbol) (ts : List Term) → ClearEach gs (terms ts) → (g : Symbol) (u : Term) → image (zip (parameters_from i xs) ts) g ≡ Some u → ClearTerm gs u × (g.args ≡ [])
image_from i [] gs ts each g u found = absurd cc
image_from i (x ∷ xs) gs [] each g u found = absurd cc
image_from i (x ∷ xs) gs (t ∷ ts) each g u found =
    let parts = both_true (is_clear_below [] t) (are_clear_below [] (terms ts)) each.clear in
    go (symbol_eq (parameter i x.sort) g) refl found
    (record { clear = parts.0; within = λ h among. each.within h (is_among-with_more (free t) (free_of (terms ts)) h ∙ left_true (is_among (free t) h) (is_among (free_of (terms ts)) h) among) })
    (image_from (suc i) xs gs ts (record { clear = parts.1; within = λ h among. each.within h (is_among-with_more (free t) (free_of (terms ts)) h ∙ right_true (is_among (free t) h) (is_among (free_of (terms ts)) h) among) }) g u)
  where
    go : (b : Bool) → symbol_eq (parameter i x.sort) g ≡ b → cond b (Some t) (image (zip (parameters_from (suc i) xs) ts) g) ≡ Some u → ClearTerm gs t → (image (zip (parameters_from (suc i) xs) ts) g ≡ Some u → ClearTerm gs u × (g.args ≡ [])) → ClearTerm gs u × (g.args ≡ [])
    go true here e first below = let same : t ≡ u = cc in (subst (ClearTerm gs) same first, ap (λ (h : Symbol). h.args) (sym ((Decides-symbol_eq (parameter i x.sort) g).0 here)))
    go false other e first below = below e

-- a parameter is replaced, where there are as many arguments
replaced : (i : ℕ) (xs : List Variable) (ts : List Term) (g : Symbol) → sorts_of (terms ts) ≡ Some (sorts_of_variables xs) → is_among (parameters_from i xs) g ≡ true → image (zip (parameters_from i xs) ts) g ≡ None → ⊥
replaced i [] ts g sorts among found = absurd cc
replaced i (x ∷ xs) [] g sorts among found = absurd cc
replaced i (x ∷ xs) (t ∷ ts) g sorts among found =
    go (symbol_eq (parameter i x.sort) g) refl found (either_true (symbol_eq (parameter i x.sort) g) (is_among (parameters_from (suc i) xs) g) among)
    (replaced (suc i) xs ts g (fewer_sorts t (terms ts) x.sort (sorts_of_variables xs) sorts).1)
  where
    go : (b : Bool) → symbol_eq (parameter i x.sort) g ≡ b → cond b (Some t) (image (zip (parameters_from (suc i) xs) ts) g) ≡ None → (symbol_eq (parameter i x.sort) g ≡ true) ⊎ (is_among (parameters_from (suc i) xs) g ≡ true) → (is_among (parameters_from (suc i) xs) g ≡ true → image (zip (parameters_from (suc i) xs) ts) g ≡ None → ⊥) → ⊥
    go true e k place below = absurd cc
    go false e k (inl h) below = contrary (symbol_eq (parameter i x.sort) g) h e
    go false e k (inr h) below = below h k

no_parameter_left : (xs : List Variable) (ts : List Term) (to : Sort) (g : Symbol) → rank_of_arguments xs ts ≡ Ok to → is_among (parameters_from 0 xs) g ≡ true → image (zip (parameters_from 0 xs) ts) g ≡ None → ⊥
no_parameter_left [] ts to g ranked among found = absurd cc
no_parameter_left (x ∷ xs) ts to g ranked among found =
    let takes : operand_sorts ts ≡ sorts_of_variables (x ∷ xs) = (rank-takes (symbol (record { name = []; args = sorts_of_variables (x ∷ xs); result = bool })) (operand_sorts ts) to ranked).0 in
    replaced 0 (x ∷ xs) ts g (unwrapped (sorts_of (terms ts)) x.sort (sorts_of_variables xs) takes) among found

pub expand_clear : (fs gs : List Symbol) (s : Supply) (xs : List Variable) (t : Term) (ts : List Term) (r to : Sort) → ((g : Symbol) → is_among fs g ≡ true → is_among gs g ≡ true) → sort_of t ≡ Some r → have_sorts xs ≡ true → GivesNone s (names_within t) → GivesNone s (names_within_each (terms ts)) → rank_of_arguments xs ts ≡ Ok to → ClearTerm (parameters_from 0 xs ++ fs) t → ClearEach gs (terms ts) → ClearTerm gs (expand (parameters_from 0 xs) t ts s).0
expand_clear fs gs s xs t ts r to more sorted fine spared operands ranked body each = record {
  clear = subst-hides_nothing (zip (parameters_from 0 xs) ts) t s r sorted constants images spared body.clear (λ g u found. (image_from 0 xs gs ts each g u found).0.clear);
  within = λ g among. left g (subst-leaves_free (zip (parameters_from 0 xs) ts) t s r sorted constants g among);
}
  where
    constants : ReplacesConstants (zip (parameters_from 0 xs) ts)
    constants g u found = (image_from 0 xs gs ts each g u found).1

    arguments : Arguments s xs ts
    arguments = arguments_sound s xs ts to fine operands ranked

    images : GivesNoImage s (zip (parameters_from 0 xs) ts)
    images g u found = free_spared s u (arguments.images g u found).spared

    stayed : (g : Symbol) → image (zip (parameters_from 0 xs) ts) g ≡ None → (is_among (parameters_from 0 xs) g ≡ true) ⊎ (is_among fs g ≡ true) → is_among gs g ≡ true
    stayed g found (inl h) = absurd (no_parameter_left xs ts to g ranked h found)
    stayed g found (inr h) = more g h

    left : (g : Symbol) → LeftFree (zip (parameters_from 0 xs) ts) (free t) g → is_among gs g ≡ true
    left g (stays among found) = stayed g found (in_either (parameters_from 0 xs) fs g (body.within g among))
    left g (comes h u among found there) = (image_from 0 xs gs ts each h u found).0.within g there
