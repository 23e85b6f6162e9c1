-- A definition over its arguments: substitution of the arguments for the parameters keeps what the definition means.
use Rattle.std.proofs.Common.{◌≡◌, ◌≢◌, ◌∙◌, sym, ap, subst, refl, ℕ, suc, ◌<◌, Bool, true, false, cond, ◌⊎◌, inl, inr, List, [], ◌∷◌, map, zip, Option, Some, None, Ok, arith}
use Rattle.std.specs.Prelude.{unwrap_or}
use Rattle.smt_lex.specs.Names.{is_reserved_for_declaring}
use Rattle.smt_terms.specs.Equal.{name_eq, symbol_eq}
use Rattle.smt_terms.specs.Free.{is_among, name_among, names_of, free}
use Rattle.smt_terms.specs.Fresh.{Supply, NeverGives}
use Rattle.smt_terms.specs.Models.{Model}
use Rattle.smt_terms.specs.Rank.{is_sort, sort_of, sorts_of}
use Rattle.smt_terms.specs.Sorts.{Name, Sort, bool, Symbol, Variable}
use Rattle.smt_terms.specs.Subst.{Map, image, subst as substitute, parameter, expand}
use Rattle.smt_terms.specs.SubstLaws.{value_or, under, HaveSorts, names_within, names_within_each, GivesNone, GivesNoImage, Later}
use Rattle.smt_terms.specs.Term.{symbol, Term, terms, constant}
use Rattle.smt_terms.specs.Val.{Env, val}
use Rattle.smt_terms.proofs.Cuts.{name_among-append}
use Rattle.smt_terms.proofs.Equal.{Decides-symbol_eq, symbol_itself, name_same}
use Rattle.smt_terms.proofs.Operands.{fewer_sorts}
use Rattle.smt_terms.proofs.Ranked.{rank-takes}
use Rattle.smt_terms.proofs.Sorted.{sorted}
use Rattle.smt_terms.proofs.Substitution.{symbols-spared, subst-keeps_meaning, subst-gives_later}
use Rattle.smt_terms.proofs.SubstNames.{subst-spares_names}
use Rattle.smt_terms.proofs.Tests.{both_true, either_true, left_true, right_true, contrary}
use Rattle.script_terms.specs.Heads.{operand_sorts, parameters_from, rank_of_arguments}
use Rattle.script_read.specs.Laws.{denoted}
use Rattle.script_read.proofs.Agreeing.{variable_sort}
use Rattle.script_read.proofs.Fitting.{Unassigned, Given, have_sorts}
use Rattle.script_terms.proofs.NameFacts.{parameter_reserved, parameters_apart}

-- ---- names that are free in a term

name_from : (fs : List Symbol) (n : Name) → name_among (names_of fs) n ≡ true → (g : Symbol) × (is_among fs g ≡ true) × (name_eq g.name n ≡ true)
name_from [] n h = absurd cc
name_from (f ∷ fs) n h = go (either_true (name_eq f.name n) (name_among (names_of fs) n) h) (name_from fs n)
  where
    go : (name_eq f.name n ≡ true) ⊎ (name_among (names_of fs) n ≡ true) → (name_among (names_of fs) n ≡ true → (g : Symbol) × (is_among fs g ≡ true) × (name_eq g.name n ≡ true)) → (g : Symbol) × (is_among (f ∷ fs) g ≡ true) × (name_eq g.name n ≡ true)
    go (inl e) below = (f, left_true (symbol_eq f f) (is_among fs f) (symbol_itself f), e)
    go (inr e) below = let found = below e in (found.0, right_true (symbol_eq f found.0) (is_among fs found.0) found.1, found.2)

pub free_spared : (s : Supply) (t : Term) → GivesNone s (names_within t) → GivesNone s (names_of (free t))
free_spared s t given n among =
    let found = name_from (free t) n among in
    subst (NeverGives s) (name_same found.0.name n found.2) (symbols-spared s t given found.0 found.1)

-- ---- the arguments in the places of the parameters

pub record ImageSound (s : Supply) (g : Symbol) (u : Term) : Type 0 where
  pub sort : sort_of u ≡ sort_of (constant g)
  pub spared : GivesNone s (names_within u)
  pub reserved : is_reserved_for_declaring g.name ≡ true

abbrev arguments_from : ℕ → List Variable → List Term → Map
arguments_from i xs ts = zip (parameters_from i xs) ts

abbrev sorts_of_variables : List Variable → List Sort
sorts_of_variables xs = map (λ x. x.sort) xs

images_sound : (s : Supply) (i : ℕ) (xs : List Variable) (ts : List Term) → sorts_of (terms ts) ≡ Some (sorts_of_variables xs) → have_sorts xs ≡ true → GivesNone s (names_within_each (terms ts)) → (g : Symbol) (u : Term) → image (arguments_from i xs ts) g ≡ Some u → ImageSound s g u
images_sound s i [] ts sorts fine spared g u found = absurd cc
images_sound s i (x ∷ xs) [] sorts fine spared g u found = absurd cc
images_sound s i (x ∷ xs) (t ∷ ts) sorts fine spared g u found =
    let parts = fewer_sorts t (terms ts) x.sort (sorts_of_variables xs) sorts in
    let fine_parts = both_true (is_sort x.sort) (have_sorts xs) fine in
    go (symbol_eq (parameter i x.sort) g) refl found parts.0 fine_parts.0
    (λ e. images_sound s (suc i) xs ts parts.1 fine_parts.1 (λ n h. spared n (name_among-append (names_within t) (names_within_each (terms ts)) n ∙ right_true (name_among (names_within t) n) (name_among (names_within_each (terms ts)) n) h)) g u e)
  where
    go : (b : Bool) → symbol_eq (parameter i x.sort) g ≡ b → cond b (Some t) (image (arguments_from (suc i) xs ts) g) ≡ Some u → sort_of t ≡ Some x.sort → is_sort x.sort ≡ true → (image (arguments_from (suc i) xs ts) g ≡ Some u → ImageSound s g u) → ImageSound s g u
    go true here e sorted allowed below =
        let same : t ≡ u = cc in
        let key : parameter i x.sort ≡ g = (Decides-symbol_eq (parameter i x.sort) g).0 here in
        record {
          sort = ap sort_of (sym same) ∙ sorted ∙ sym (variable_sort (record { name = (parameter i x.sort).name; sort = x.sort }) allowed) ∙ ap (λ h. sort_of (constant h)) key;
          spared = λ n h. spared n (name_among-append (names_within t) (names_within_each (terms ts)) n ∙ left_true (name_among (names_within t) n) (name_among (names_within_each (terms ts)) n) (ap (λ v. name_among (names_within v) n) same ∙ h));
          reserved = ap (λ (h : Symbol). is_reserved_for_declaring h.name) (sym key) ∙ parameter_reserved i x.sort;
        }
    go false other e sorted allowed below = below e

-- a parameter of a lower number isn't replaced
later_images : (i j : ℕ) (r : Sort) (xs : List Variable) (ts : List Term) (g : Symbol) (u : Term) → i < j → image (arguments_from j xs ts) g ≡ Some u → symbol_eq (parameter i r) g ≡ false
later_images i j r [] ts g u less found = absurd cc
later_images i j r (x ∷ xs) [] g u less found = absurd cc
later_images i j r (x ∷ xs) (t ∷ ts) g u less found = go (symbol_eq (parameter j x.sort) g) refl found (later_images i (suc j) r xs ts g u (omega arith))
  where
    apart : i ≢ j
    apart same = absurd (omega arith)

    go : (b : Bool) → symbol_eq (parameter j x.sort) g ≡ b → cond b (Some t) (image (arguments_from (suc j) xs ts) g) ≡ Some u → (image (arguments_from (suc j) xs ts) g ≡ Some u → symbol_eq (parameter i r) g ≡ false) → symbol_eq (parameter i r) g ≡ false
    go true here e below = ap (symbol_eq (parameter i r)) (sym ((Decides-symbol_eq (parameter j x.sort) g).0 here)) ∙ parameters_apart i j r x.sort apart
    go false other e below = below e

arguments_given : (m : Model) (e d : Env) (i : ℕ) (xs : List Variable) (ts : List Term) → sorts_of (terms ts) ≡ Some (sorts_of_variables xs) → ((g : Symbol) (u : Term) → image (arguments_from i xs ts) g ≡ Some u → d g ≡ Some (val m u e)) → Given i xs (map (denoted m e) ts) d
arguments_given m e d i [] ts sorts have = tt
arguments_given m e d i (x ∷ xs) [] sorts have = absurd cc
arguments_given m e d i (x ∷ xs) (t ∷ ts) sorts have =
    let parts = fewer_sorts t (terms ts) x.sort (sorts_of_variables xs) sorts in (
      parts.0,
      have (parameter i x.sort) t (ap (λ b. cond b (Some t) (image (arguments_from (suc i) xs ts) (parameter i x.sort))) (symbol_itself (parameter i x.sort))),
      arguments_given m e d (suc i) xs ts parts.1 (λ g u found. have g u (ap (λ b. cond b (Some t) (image (arguments_from (suc i) xs ts) g)) (later_images i (suc i) x.sort xs ts g u (omega arith) found) ∙ found)),
    )

-- ---- the ranks of the arguments

pub unwrapped : (o : Option (List Sort)) (s : Sort) (ss : List Sort) → unwrap_or o [] ≡ s ∷ ss → o ≡ Some (s ∷ ss)
unwrapped (Some us) s ss h = ap Some h
unwrapped None s ss h = absurd cc

-- the arguments in the places of the parameters, with all that substitution asks of them
pub record Arguments (s : Supply) (xs : List Variable) (ts : List Term) : Type 0 where
  pub images : (g : Symbol) (u : Term) → image (arguments_from 0 xs ts) g ≡ Some u → ImageSound s g u
  pub given : (m : Model) (e : Env) → Given 0 xs (map (denoted m e) ts) (under m (arguments_from 0 xs ts) e)

pub arguments_sound : (s : Supply) (xs : List Variable) (ts : List Term) (r : Sort) → have_sorts xs ≡ true → GivesNone s (names_within_each (terms ts)) → rank_of_arguments xs ts ≡ Ok r → Arguments s xs ts
arguments_sound s [] ts r fine spared h = record { images = λ g u found. absurd (nothing_there g u found); given = λ m e. tt }
  where
    nothing_there : (g : Symbol) (u : Term) → image (arguments_from 0 [] ts) g ≡ Some u → ⊥
    nothing_there g u found = absurd cc
arguments_sound s (x ∷ xs) ts r fine spared h = record {
  images = λ g u found. images_sound s 0 (x ∷ xs) ts sorts fine spared g u found;
  given = λ m e. arguments_given m e (under m (arguments_from 0 (x ∷ xs) ts) e) 0 (x ∷ xs) ts sorts (λ g u found. ap (λ o. value_or m o e g) found);
}
  where
    takes : operand_sorts ts ≡ sorts_of_variables (x ∷ xs)
    takes = (rank-takes (symbol (record { name = []; args = sorts_of_variables (x ∷ xs); result = bool })) (operand_sorts ts) r h).0

    sorts : sorts_of (terms ts) ≡ Some (sorts_of_variables (x ∷ xs))
    sorts = unwrapped (sorts_of (terms ts)) x.sort (sorts_of_variables xs) takes

-- ---- the law of substitution at a definition

pub record Expanded (fs : List Symbol) (s : Supply) (xs : List Variable) (t : Term) (ts : List Term) : Type 0 where
  pub later : Later s (expand (parameters_from 0 xs) t ts s).1
  pub spared : GivesNone (expand (parameters_from 0 xs) t ts s).1 (names_within (expand (parameters_from 0 xs) t ts s).0)
  pub means : (m : Model) (e : Env) → Unassigned fs e → (d : Env) × Unassigned fs d × Given 0 xs (map (denoted m e) ts) d × (denoted m d t ≡ denoted m e (expand (parameters_from 0 xs) t ts s).0)

pub expansion : (fs : List Symbol) (s : Supply) (xs : List Variable) (t : Term) (ts : List Term) (r : Sort) (result : Sort) → sort_of t ≡ Some r → have_sorts xs ≡ true → GivesNone s (names_within t) → GivesNone s (names_within_each (terms ts)) → ((g : Symbol) → is_among fs g ≡ true → is_reserved_for_declaring g.name ≡ false) → rank_of_arguments xs ts ≡ Ok result → Expanded fs s xs t ts
expansion fs s xs t ts r result sorted fine spared operands declared ranked = record {
  later = subst-gives_later f t s sorts images spared;
  spared = subst-spares_names f t s spared (λ g u found. (a.images g u found).spared);
  means = λ m e own. (under m f e, (λ g among. untouched m e own g among (image f g) refl), a.given m e, same m e);
}
  where
    f : Map
    f = arguments_from 0 xs ts

    a : Arguments s xs ts
    a = arguments_sound s xs ts result fine operands ranked

    sorts : HaveSorts f
    sorts g u found = (a.images g u found).sort

    images : GivesNoImage s f
    images g u found = free_spared s u (a.images g u found).spared

    untouched : (m : Model) (e : Env) → Unassigned fs e → (g : Symbol) → is_among fs g ≡ true → (o : Option Term) → image f g ≡ o → value_or m o e g ≡ None
    untouched m e own g among None found = own g among
    untouched m e own g among (Some u) found = contrary (is_reserved_for_declaring g.name) (a.images g u found).reserved (declared g among)

    same : (m : Model) (e : Env) → denoted m (under m f e) t ≡ denoted m e (substitute f t s).0
    same m e =
        let law = subst-keeps_meaning f t s sorts images spared r sorted in
        let value : val m t (under m f e) ≡ val m (substitute f t s).0 e = sym (law.1 m e) in
        let sort : sort_of t ≡ sort_of (substitute f t s).0 = sorted ∙ sym law.0 in
        λ i. (value i, sort i)
