-- How agreement of a reader with a meaning goes on: to earlier states, to other environments, and below names that are bound.
use Rattle.std.proofs.Common.{◌≡◌, ◌∙◌, sym, ap, subst, refl, Bool, true, false, cond, List, [], ◌∷◌, map, Option, Some, Ok, Err}
use Rattle.std.specs.Prelude.{option_map, unwrap_or, if◌then◌else◌}
use Rattle.smt_lex.specs.Names.{Name}
use Rattle.smt_lex.specs.Forms.{Forms}
use Rattle.smt_terms.specs.Equal.{name_eq, symbol_eq}
use Rattle.smt_terms.specs.Sorts.{Symbol, Variable}
use Rattle.smt_terms.specs.Term.{Term, symbol, none, constant_of, variable}
use Rattle.smt_terms.specs.Free.{is_among}
use Rattle.smt_terms.specs.Fresh.{Supply}
use Rattle.smt_terms.specs.Models.{Model, symbol_value}
use Rattle.smt_terms.specs.Rank.{width_limit, width, most_bits, rank, sort_of, is_sort}
use Rattle.smt_terms.specs.SubstLaws.{names_within, Later}
use Rattle.smt_terms.specs.Val.{Env, assign, val}
use Rattle.smt_terms.specs.Values.{Value, default_value}
use Rattle.smt_terms.proofs.Agree.{SameAt}
use Rattle.smt_terms.proofs.Equal.{Decides-symbol_eq, symbol_itself}
use Rattle.smt_terms.proofs.Operands.{narrow_sort}
use Rattle.smt_terms.proofs.Ranked.{le_true}
use Rattle.smt_terms.proofs.Sorted.{sort_of-apply}
use Rattle.smt_terms.proofs.Tests.{left_true, right_true}
use Rattle.script_read.specs.Laws.{denoted}
use Rattle.script_read.specs.Mean.{Denoted, Meaning, bound_to, with_bound, with_all, denoted_as, mean_bindings, with_locals}
use Rattle.script_terms.specs.Read.{local_constants}
use Rattle.script_terms.specs.Reading.{ReadLocal, lets_as, quantified_as, parameter_as, ReadBinding, Sofar, as_local, term_among, term_or, bound_as, constant_as}
use Rattle.script_read.proofs.Fitting.{Unassigned, LiveFits, BoundFits, Agrees, pairs_denoted, LetsMean, ConstantSound, LocalsSound, Sound, Moves}
use Rattle.script_terms.proofs.NameFacts.{spared_later}

-- ---- states

pub moves_none : (ns : List Name) (fs : List Symbol) (s : Sofar) → Sound ns fs s → Moves ns fs s s
moves_none ns fs s sound = record { entries = λ n x h. h; sorts = refl; later = λ n h. h; sound = sound }

pub moves_both : (ns : List Name) (fs : List Symbol) (s t u : Sofar) → Moves ns fs s t → Moves ns fs t u → Moves ns fs s u
moves_both ns fs s t u a b = record {
  entries = λ n x h. b.entries n x (a.entries n x h);
  sorts = b.sorts ∙ a.sorts;
  later = λ n h. b.later n (a.later n h);
  sound = b.sound;
}

pub agrees_before : (ns : List Name) (fs : List Symbol) (s t : Sofar) (m : Model) (ls : List ReadLocal) (e : Env) (E : Meaning) → Moves ns fs s t → Agrees m fs t.live ls e E → Agrees m fs s.live ls e E
agrees_before ns fs s t m ls e E moves a = record {
  live = record { entries = λ n x h. a.live.entries n x (moves.entries n x h); theories = a.live.theories };
  sorts = a.sorts ∙ moves.sorts;
  bound = a.bound;
  own = a.own;
}

pub lets_later : (ns : List Name) (fs : List Symbol) (s t : Sofar) (ls : List ReadLocal) → Moves ns fs s t → LetsMean fs s.live ls → LetsMean fs t.live ls
lets_later ns fs s t [] moves lets = tt
lets_later ns fs s t (lets_as forms ts ∷ ls) moves lets = (λ m E e a. lets.0 m E e (agrees_before ns fs s t m ls e E moves a), lets_later ns fs s t ls moves lets.1)
lets_later ns fs s t (quantified_as x n ∷ ls) moves lets = (lets.0, lets_later ns fs s t ls moves lets.1)
lets_later ns fs s t (parameter_as x n ∷ ls) moves lets = (lets.0, lets_later ns fs s t ls moves lets.1)

pub locals_later : (ns : List Name) (fs : List Symbol) (s t : Supply) (ls : List ReadLocal) → Later s t → LocalsSound ns fs s ls → LocalsSound ns fs t ls
locals_later ns fs s t ls later sound = record {
  terms = λ n u h. spared_later s t (names_within u) later (sound.terms n u h);
  constants = λ g h. let c : ConstantSound ns fs s ls g = sound.constants g h in record { spared = later g.name c.spared; undeclared = c.undeclared; origin = c.origin };
}

-- ---- environments

pub agrees_moved : (m : Model) (fs : List Symbol) (bs : List ReadBinding) (ls : List ReadLocal) (d e : Env) (E : Meaning) → Agrees m fs bs ls e E → SameAt (local_constants ls) d e → Unassigned fs d → Agrees m fs bs ls d E
agrees_moved m fs bs ls d e E a same own = record {
  live = a.live;
  sorts = a.sorts;
  bound = λ d' same' own' n. a.bound d' (λ g among. same' g among ∙ same g among) own' n;
  own = own;
}

-- ---- one variable more

pub variable_sort : (y : Variable) → is_sort y.sort ≡ true → sort_of (variable y) ≡ Some y.sort
unfolding rank
variable_sort y h = sort_of-apply (symbol (constant_of y)) none [] y.sort refl (ap (λ b. if b then Ok y.sort else Err width_limit) (le_true (width y.sort) most_bits (narrow_sort y.sort h)))

-- a variable under another name
abbrev pub variable_as : Variable → Name → Variable
variable_as x n = record { name = n; sort = x.sort }

pub variable_denotes : (m : Model) (x : Variable) (n : Name) (v : Value) (d : Env) → is_sort x.sort ≡ true → d (constant_of (variable_as x n)) ≡ Some v → denoted_as v x.sort ≡ denoted m d (constant_as x n)
variable_denotes m x n v d fine given =
    let value : v ≡ val m (constant_as x n) d = ap (λ o. unwrap_or o (symbol_value m (constant_of (variable_as x n)) [])) (sym given) in
    let sort : Some x.sort ≡ sort_of (constant_as x n) = sym (variable_sort (variable_as x n) fine) in
    λ i. (value i, sort i)

pub bound_variable : (m : Model) (fs : List Symbol) (ls : List ReadLocal) (d e : Env) (bound : Name → Option Denoted) (x : Variable) (n : Name) (v : Value) → is_sort x.sort ≡ true → d (constant_of (variable_as x n)) ≡ Some v → SameAt (local_constants ls) d e → BoundFits m fs ls e bound → BoundFits m fs (quantified_as x n ∷ ls) d (bound_to x.name (denoted_as v x.sort) bound)
bound_variable m fs ls d e bound x n v fine given same fits d' same' own' k = go (name_eq x.name k)
  where
    c : Symbol
    c = constant_of (variable_as x n)

    go : (b : Bool) → cond b (Some (denoted_as v x.sort)) (bound k) ≡ option_map (denoted m d') (cond b (Some (constant_as x n)) (bound_as ls k))
    go true = ap Some (variable_denotes m x n v d' fine (same' c (left_true (symbol_eq c c) (is_among (local_constants ls) c) (symbol_itself c)) ∙ given))
    go false = fits d' (λ g among. same' g (right_true (symbol_eq c g) (is_among (local_constants ls) g) among) ∙ same g among) own' k

-- a constant that isn't among these differs from each of them
pub constants_differ : (gs : List Symbol) (c g : Symbol) → is_among gs c ≡ false → is_among gs g ≡ true → symbol_eq c g ≡ false
constants_differ gs c g outside among = go (symbol_eq c g) refl
  where
    go : (b : Bool) → symbol_eq c g ≡ b → b ≡ false
    go true e = let moved : is_among gs c ≡ true = ap (is_among gs) ((Decides-symbol_eq c g).0 e) ∙ among in absurd cc
    go false e = refl

pub agrees_variable : (m : Model) (fs : List Symbol) (bs : List ReadBinding) (ls : List ReadLocal) (e : Env) (E : Meaning) (x : Variable) (n : Name) (v : Value) → is_sort x.sort ≡ true → is_among (local_constants ls) (constant_of (variable_as x n)) ≡ false → is_among fs (constant_of (variable_as x n)) ≡ false → Agrees m fs bs ls e E → Agrees m fs bs (quantified_as x n ∷ ls) (assign (variable_as x n) v e) (with_bound x.name (denoted_as v x.sort) E)
agrees_variable m fs bs ls e E x n v fine outside undeclared a = record {
  live = a.live;
  sorts = a.sorts;
  bound = bound_variable m fs ls (assign (variable_as x n) v e) e E.bound x n v fine
      (ap (λ b. cond b (Some v) (e (constant_of (variable_as x n)))) (symbol_itself (constant_of (variable_as x n))))
      (λ g among. ap (λ b. cond b (Some v) (e g)) (constants_differ (local_constants ls) (constant_of (variable_as x n)) g outside among))
      a.bound;
  own = λ g among. ap (λ b. cond b (Some v) (e g)) (constants_differ fs (constant_of (variable_as x n)) g undeclared among) ∙ a.own g among;
}

-- ---- names of a `let`

pub all_live : (ps : List (Name × Denoted)) (E : Meaning) → (with_all ps E).live ≡ E.live
all_live [] E = refl
all_live (p ∷ ps) E = all_live ps E

pub all_sorts : (ps : List (Name × Denoted)) (E : Meaning) → (with_all ps E).sorts ≡ E.sorts
all_sorts [] E = refl
all_sorts (p ∷ ps) E = all_sorts ps E

pub pairs_bound : (m : Model) (d : Env) (E : Meaning) (n : Name) (o : Option Term) (ts : List (Name × Term)) → E.bound n ≡ option_map (denoted m d) o → (with_all (pairs_denoted m d ts) E).bound n ≡ option_map (denoted m d) (term_or (term_among ts n) o)
pairs_bound m d E n o [] h = h
pairs_bound m d E n o (p ∷ ts) h = go (name_eq p.0 n) (pairs_bound m d E n o ts h)
  where
    go : (b : Bool) → (with_all (pairs_denoted m d ts) E).bound n ≡ option_map (denoted m d) (term_or (term_among ts n) o) → cond b (Some (denoted m d p.1)) ((with_all (pairs_denoted m d ts) E).bound n) ≡ option_map (denoted m d) (term_or (cond b (Some p.1) (term_among ts n)) o)
    go true below = refl
    go false below = below

pub agrees_let : (m : Model) (fs : List Symbol) (bs : List ReadBinding) (ls : List ReadLocal) (e : Env) (E : Meaning) (forms : Forms) (ts : List (Name × Term)) (ps : List (Name × Denoted)) → ((d : Env) → Agrees m fs bs ls d E → ps ≡ pairs_denoted m d ts) → Agrees m fs bs ls e E → Agrees m fs bs (lets_as forms ts ∷ ls) e (with_all ps E)
agrees_let m fs bs ls e E forms ts ps same a = record {
  live = subst (λ live. LiveFits m fs bs live) (sym (all_live ps E)) a.live;
  sorts = all_sorts ps E ∙ a.sorts;
  bound = λ d alike own n.
      ap (λ qs. (with_all qs E).bound n) (same d (agrees_moved m fs bs ls d e E a alike own))
      ∙ pairs_bound m d E n (bound_as ls n) ts (a.bound d alike own n);
  own = a.own;
}

-- ---- quantified names and parameters at their sorts' default values

abbrev pub HaveDefaults : List ReadLocal → Env → Type 0
HaveDefaults ls e = (g : Symbol) → is_among (local_constants ls) g ≡ true → e g ≡ Some (default_value g.result)

defaults_below : (c : Symbol) (ls : List ReadLocal) (e : Env) → ((g : Symbol) → is_among (c ∷ local_constants ls) g ≡ true → e g ≡ Some (default_value g.result)) → HaveDefaults ls e
defaults_below c ls e have g among = have g (right_true (symbol_eq c g) (is_among (local_constants ls) g) among)

default_first : (c : Symbol) (ls : List ReadLocal) (e : Env) → ((g : Symbol) → is_among (c ∷ local_constants ls) g ≡ true → e g ≡ Some (default_value g.result)) → e c ≡ Some (default_value c.result)
default_first c ls e have = have c (left_true (symbol_eq c c) (is_among (local_constants ls) c) (symbol_itself c))

agrees_constant : (m : Model) (fs : List Symbol) (bs : List ReadBinding) (ls : List ReadLocal) (e : Env) (E : Meaning) (x : Variable) (n : Name) (v : Value) → is_sort x.sort ≡ true → e (constant_of (variable_as x n)) ≡ Some v → Agrees m fs bs ls e E → Agrees m fs bs (quantified_as x n ∷ ls) e (with_bound x.name (denoted_as v x.sort) E)
agrees_constant m fs bs ls e E x n v fine given a = record {
  live = a.live;
  sorts = a.sorts;
  bound = bound_variable m fs ls e e E.bound x n v fine given (λ g among. refl) a.bound;
  own = a.own;
}

-- the same record for a parameter
as_parameter : (m : Model) (fs : List Symbol) (bs : List ReadBinding) (ls : List ReadLocal) (e : Env) (E : Meaning) (x : Variable) (n : Name) → Agrees m fs bs (quantified_as x n ∷ ls) e E → Agrees m fs bs (parameter_as x n ∷ ls) e E
as_parameter m fs bs ls e E x n a = record { live = a.live; sorts = a.sorts; bound = a.bound; own = a.own }

pub agrees_default : (m : Model) (fs : List Symbol) (bs : List ReadBinding) (ls : List ReadLocal) (e : Env) (E : Meaning) → LetsMean fs bs ls → Agrees m fs bs [] e E → HaveDefaults ls e → Agrees m fs bs ls e (with_locals (map as_local ls) m E)
agrees_default m fs bs [] e E lets a have = a
agrees_default m fs bs (lets_as forms ts ∷ ls) e E lets a have =
    let below : Agrees m fs bs ls e (with_locals (map as_local ls) m E) = agrees_default m fs bs ls e E lets.1 a have in
    agrees_let m fs bs ls e (with_locals (map as_local ls) m E) forms ts (mean_bindings forms (with_locals (map as_local ls) m E) m) (λ d b. lets.0 m (with_locals (map as_local ls) m E) d b) below
agrees_default m fs bs (quantified_as x n ∷ ls) e E lets a have =
    agrees_constant m fs bs ls e (with_locals (map as_local ls) m E) x n (default_value x.sort) lets.0 (default_first (constant_of (variable_as x n)) ls e have)
    (agrees_default m fs bs ls e E lets.1 a (defaults_below (constant_of (variable_as x n)) ls e have))
agrees_default m fs bs (parameter_as x n ∷ ls) e E lets a have =
    as_parameter m fs bs ls e (with_bound x.name (denoted_as (default_value x.sort) x.sort) (with_locals (map as_local ls) m E)) x n
    (agrees_constant m fs bs ls e (with_locals (map as_local ls) m E) x n (default_value x.sort) lets.0 (default_first (constant_of (variable_as x n)) ls e have)
    (agrees_default m fs bs ls e E lets.1 a (defaults_below (constant_of (variable_as x n)) ls e have)))
