-- The names that a quantifier's variables are read as: the quantifier over them runs as the one that is written.
use Rattle.std.proofs.Common.{◌≡◌, ◌≢◌, ◌∙◌, sym, ap, subst, refl, Bool, true, false, cond, ◌⊎◌, inl, inr, List, [], ◌∷◌, ◌++◌, map, Some}
use Rattle.std.specs.Prelude.{bytes_eq}
use Rattle.std.proofs.lemmas.Bool.{false_from_ne_true}
use Rattle.smt_lex.specs.Names.{Name, is_among as is_among_names, is_reserved_for_declaring}
use Rattle.smt_terms.specs.Equal.{name_eq, symbol_eq}
use Rattle.smt_terms.specs.Free.{is_among, name_among, names_of}
use Rattle.smt_terms.specs.Fresh.{Supply, next_name, after_draw, NeverGives}
use Rattle.smt_terms.specs.Models.{Model}
use Rattle.smt_terms.specs.Rank.{is_sort}
use Rattle.smt_terms.specs.Sorts.{Symbol, Variable}
use Rattle.smt_terms.specs.SubstLaws.{names_within, GivesNone, Later}
use Rattle.smt_terms.specs.Term.{Quantifier, Term, constant_of}
use Rattle.smt_terms.specs.Val.{Env, assign, runs}
use Rattle.smt_terms.specs.Values.{Sizes, over_values}
use Rattle.smt_terms.proofs.Among.{is_among-append}
use Rattle.smt_terms.proofs.ClearTerms.{Apart, apart_front}
use Rattle.smt_terms.proofs.Equal.{Decides-symbol_eq, name_same, name_itself}
use Rattle.smt_terms.proofs.Fresh.{never-next, never-after, never-drawn}
use Rattle.smt_terms.proofs.Runs.{among-name}
use Rattle.smt_terms.proofs.Tests.{both_false, either_true, or_false, right_true, left_true, contrary}
use Rattle.script_read.specs.Mean.{Meaning, with_bound, denoted_as, over_variables}
use Rattle.script_terms.specs.Read.{local_constants, constant_names, name_drawn_if, with_quantified, renamed}
use Rattle.script_terms.specs.Reading.{ReadLocal, quantified_as, ReadBinding, bound_as, is_quantified, constant_as}
use Rattle.script_read.proofs.Agreeing.{variable_as, agrees_variable, locals_later}
use Rattle.script_read.proofs.Fitting.{Agrees, LetsMean, Origin, drawn, quantified, internal, ConstantSound, LocalsSound}
use Rattle.script_terms.proofs.NameFacts.{spared_first, spared_none, drawn_outside}
use Rattle.script_terms.proofs.SortFacts.{VariableSound, VariablesSound}

-- ---- one local variable more

origin_more : (ns : List Name) (ls : List ReadLocal) (x : Variable) (n k : Name) → Origin ns ls k → Origin ns (quantified_as x n ∷ ls) k
origin_more ns ls x n k (drawn h) = drawn h
origin_more ns ls x n k (quantified h) = quantified (right_true (name_eq x.name k) (is_quantified ls k) h)
origin_more ns ls x n k (internal h) = internal h

pub locals_variable : (ns : List Name) (fs : List Symbol) (s : Supply) (ls : List ReadLocal) (x : Variable) (n : Name) → NeverGives s n → is_among fs (constant_of (variable_as x n)) ≡ false → Origin ns (quantified_as x n ∷ ls) n → LocalsSound ns fs s ls → LocalsSound ns fs s (quantified_as x n ∷ ls)
locals_variable ns fs s ls x n never undeclared origin sound = record {
  terms = λ k t h. terms_of k t (name_eq x.name k) h;
  constants = λ g h. constants_of g (either_true (symbol_eq c g) (is_among (local_constants ls) g) h);
}
  where
    c : Symbol
    c = constant_of (variable_as x n)

    terms_of : (k : Name) (t : Term) (b : Bool) → cond b (Some (constant_as x n)) (bound_as ls k) ≡ Some t → GivesNone s (names_within t)
    terms_of k t true e = let same : constant_as x n ≡ t = cc in subst (λ u. GivesNone s (names_within u)) same (spared_first s n [] never (spared_none s))
    terms_of k t false e = sound.terms k t e

    constants_of : (g : Symbol) → (symbol_eq c g ≡ true) ⊎ (is_among (local_constants ls) g ≡ true) → ConstantSound ns fs s (quantified_as x n ∷ ls) g
    constants_of g (inl e) = subst (λ h. ConstantSound ns fs s (quantified_as x n ∷ ls) h) ((Decides-symbol_eq c g).0 e) (record { spared = never; undeclared = undeclared; origin = origin })
    constants_of g (inr e) = let old : ConstantSound ns fs s ls g = sound.constants g e in record { spared = old.spared; undeclared = old.undeclared; origin = origin_more ns ls x n g.name old.origin }

-- ---- the names of all variables

pub record Renames (ns : List Name) (fs : List Symbol) (xs : List Variable) (s : Supply) (ls : List ReadLocal) (r : List Name × Supply) : Type 0 where
  pub later : Later s r.1
  pub locals : LocalsSound ns fs r.1 (with_quantified xs r.0 ls)
  pub spared : GivesNone r.1 (map (λ x. x.name) (renamed xs r.0))
  pub lets : (bs : List ReadBinding) → LetsMean fs bs ls → LetsMean fs bs (with_quantified xs r.0 ls)
  pub apart : Apart (local_constants ls ++ fs) → Apart (local_constants (with_quantified xs r.0 ls) ++ fs)
  pub runs : (q : Quantifier) (m : Model) (bs : List ReadBinding) (sizes : Sizes) (means : Meaning → Bool) (test : Env → Bool) → ((E : Meaning) (e : Env) → Agrees m fs bs (with_quantified xs r.0 ls) e E → means E ≡ test e) → (E : Meaning) (e : Env) → Agrees m fs bs ls e E → over_variables q xs sizes means E ≡ runs q (renamed xs r.0) sizes test e

renames_none : (ns : List Name) (fs : List Symbol) (s : Supply) (ls : List ReadLocal) → LocalsSound ns fs s ls → Renames ns fs [] s ls ([], s)
renames_none ns fs s ls sound = record {
  later = λ n h. h;
  locals = sound;
  spared = spared_none s;
  lets = λ bs h. h;
  apart = λ h. h;
  runs = λ q m bs sizes means test same E e a. same E e a;
}

renames_first : (ns : List Name) (fs : List Symbol) (x : Variable) (n : Name) (xs : List Variable) (s t : Supply) (ls : List ReadLocal) (r : List Name × Supply) → is_sort x.sort ≡ true → Later s t → NeverGives t n → is_among (local_constants ls) (constant_of (variable_as x n)) ≡ false → is_among fs (constant_of (variable_as x n)) ≡ false → ((g : Symbol) → is_among (local_constants ls ++ fs) g ≡ true → n ≢ g.name) → Renames ns fs xs t (quantified_as x n ∷ ls) r → Renames ns fs (x ∷ xs) s ls (n ∷ r.0, r.1)
renames_first ns fs x n xs s t ls r fine later never outside undeclared unshared below = record {
  later = λ k h. below.later k (later k h);
  locals = below.locals;
  spared = spared_first r.1 n (map (λ y. y.name) (renamed xs r.0)) (below.later n never) below.spared;
  lets = λ bs h. below.lets bs (fine, h);
  apart = λ h. below.apart (apart_front (constant_of (variable_as x n)) (local_constants ls ++ fs) h unshared);
  runs = λ q m bs sizes means test same E e a.
      ap (over_values q x.sort sizes) (λ i v. below.runs q m bs sizes means test same (with_bound x.name (denoted_as v x.sort) E) (assign (variable_as x n) v e) (agrees_variable m fs bs ls e E x n v fine outside undeclared a) i);
}

-- a name that isn't taken is that of no declared symbol, and no quantifier around binds it, where no earlier name of the list is it
pub record Untaken (fs : List Symbol) (earlier : List Name) (ls : List ReadLocal) (taken : Name → Bool) : Type 0 where
  pub undeclared : (n : Name) → taken n ≡ false → name_among (names_of fs) n ≡ false
  pub unquantified : (n : Name) → taken n ≡ false → is_among_names earlier n ≡ false → is_quantified ls n ≡ false

pub record Known (ns : List Name) (fs : List Symbol) (s : Supply) : Type 0 where
  pub text : GivesNone s ns
  pub symbols : (g : Symbol) → is_among fs g ≡ true → name_among ns g.name ≡ true

known_later : (ns : List Name) (fs : List Symbol) (s t : Supply) → Later s t → Known ns fs s → Known ns fs t
known_later ns fs s t later k = record { text = λ n h. later n (k.text n h); symbols = k.symbols }

untaken_more : (fs : List Symbol) (earlier : List Name) (ls : List ReadLocal) (taken : Name → Bool) (x : Variable) (n : Name) → Untaken fs earlier ls taken → Untaken fs (x.name ∷ earlier) (quantified_as x n ∷ ls) taken
untaken_more fs earlier ls taken x n u = record {
  undeclared = u.undeclared;
  unquantified = λ k free apart.
      let parts = both_false (bytes_eq k x.name) (is_among_names earlier k) apart in
      or_false (name_eq x.name k) (is_quantified ls k) (false_from_ne_true (name_eq x.name k) (λ e. absurd (contrary {A = ⊥} (bytes_eq k x.name) (turned k (name_same x.name k e)) parts.0))) (u.unquantified k free parts.1);
}
  where
    turned : (k : Name) → x.name ≡ k → bytes_eq k x.name ≡ true
    turned k e = ap (λ j. bytes_eq k j) e ∙ name_itself k

renames_by : (b : Bool) (ns : List Name) (fs : List Symbol) (taken : Name → Bool) (earlier : List Name) (x : Variable) (xs : List Variable) (s : Supply) (ls : List ReadLocal) → taken x.name ≡ b → VariableSound ns x → is_among_names earlier x.name ≡ false → Known ns fs s → LocalsSound ns fs s ls → Untaken fs earlier ls taken → ((n : Name) (t : Supply) → Known ns fs t → LocalsSound ns fs t (quantified_as x n ∷ ls) → Renames ns fs xs t (quantified_as x n ∷ ls) (constant_names taken xs t)) → Renames ns fs (x ∷ xs) s ls (name_drawn_if b x.name s (λ t. constant_names taken xs t))
renames_by true ns fs taken earlier x xs s ls is sound other known locals untaken below =
    renames_first ns fs x (next_name s) xs s (after_draw s) ls (constant_names taken xs (after_draw s)) sound.fine after never outside undeclared unshared
    (below (next_name s) (after_draw s) (known_later ns fs s (after_draw s) after known)
    (locals_variable ns fs (after_draw s) ls x (next_name s) never undeclared (drawn (drawn_outside s ns known.text)) (locals_later ns fs s (after_draw s) ls after locals)))
  where
    c : Symbol
    c = constant_of (variable_as x (next_name s))

    after : Later s (after_draw s)
    after k h = never-after s k h

    never : NeverGives (after_draw s) (next_name s)
    never = never-drawn s

    outside : is_among (local_constants ls) c ≡ false
    outside = false_from_ne_true (is_among (local_constants ls) c) (λ e. absurd (never-next s (next_name s) (locals.constants c e).spared refl))

    undeclared : is_among fs c ≡ false
    undeclared = false_from_ne_true (is_among fs c) (λ e. absurd (never-next s (next_name s) (known.text (next_name s) (known.symbols c e)) refl))

    unshared : (g : Symbol) → is_among (local_constants ls ++ fs) g ≡ true → next_name s ≢ g.name
    unshared g among same = spared_by (either_true (is_among (local_constants ls) g) (is_among fs g) (sym (is_among-append (local_constants ls) fs g) ∙ among))
      where
        spared_by : (is_among (local_constants ls) g ≡ true) ⊎ (is_among fs g ≡ true) → ⊥
        spared_by (inl e) = never-next s g.name (locals.constants g e).spared (sym same)
        spared_by (inr e) = never-next s g.name (known.text g.name (known.symbols g e)) (sym same)
renames_by false ns fs taken earlier x xs s ls is sound other known locals untaken below =
    renames_first ns fs x x.name xs s s ls (constant_names taken xs s) sound.fine (λ k h. h) never outside undeclared unshared
    (below x.name s known
    (locals_variable ns fs s ls x x.name never undeclared (quantified (left_true (name_eq x.name x.name) (is_quantified ls x.name) (name_itself x.name))) locals))
  where
    c : Symbol
    c = constant_of (variable_as x x.name)

    never : NeverGives s x.name
    never = known.text x.name sound.text

    impossible : Origin ns ls x.name → ⊥
    impossible (drawn h) = contrary (name_among ns x.name) sound.text h
    impossible (quantified h) = contrary (is_quantified ls x.name) h (untaken.unquantified x.name is other)
    impossible (internal h) = contrary (is_reserved_for_declaring x.name) h sound.allowed

    outside : is_among (local_constants ls) c ≡ false
    outside = false_from_ne_true (is_among (local_constants ls) c) (λ e. absurd (impossible (locals.constants c e).origin))

    undeclared : is_among fs c ≡ false
    undeclared = false_from_ne_true (is_among fs c) (λ e. absurd (contrary {A = ⊥} (name_among (names_of fs) x.name) (among-name fs c e) (untaken.undeclared x.name is)))

    unshared : (g : Symbol) → is_among (local_constants ls ++ fs) g ≡ true → x.name ≢ g.name
    unshared g among same = named_by (either_true (is_among (local_constants ls) g) (is_among fs g) (sym (is_among-append (local_constants ls) fs g) ∙ among))
      where
        named_by : (is_among (local_constants ls) g ≡ true) ⊎ (is_among fs g ≡ true) → ⊥
        named_by (inl e) = impossible (subst (Origin ns ls) (sym same) (locals.constants g e).origin)
        named_by (inr e) = contrary {A = ⊥} (name_among (names_of fs) x.name) (ap (name_among (names_of fs)) same ∙ among-name fs g e) (untaken.undeclared x.name is)

pub renames : (ns : List Name) (fs : List Symbol) (taken : Name → Bool) (earlier : List Name) (xs : List Variable) (s : Supply) (ls : List ReadLocal) → VariablesSound ns earlier xs → Known ns fs s → LocalsSound ns fs s ls → Untaken fs earlier ls taken → Renames ns fs xs s ls (constant_names taken xs s)
renames ns fs taken earlier [] s ls sound known locals untaken = renames_none ns fs s ls locals
renames ns fs taken earlier (x ∷ xs) s ls sound known locals untaken =
    renames_by (taken x.name) ns fs taken earlier x xs s ls refl sound.0 sound.1 known locals untaken
    (λ n t k l. renames ns fs taken (x.name ∷ earlier) xs t (quantified_as x n ∷ ls) sound.2 k l (untaken_more fs earlier ls taken x n untaken))
