-- Definitions: a body that is read over its parameters means what the form means over the arguments' values.
use Rattle.std.proofs.Common.{◌≡◌, ◌∙◌, sym, ap, subst, refl, ℕ, suc, Bool, true, false, cond, ◌⊎◌, inl, inr, List, [], ◌∷◌, map, Some, None}
use Rattle.std.specs.Prelude.{option_map, bytes_eq}
use Rattle.std.proofs.lemmas.Bool.{false_from_ne_true}
use Rattle.smt_lex.specs.Names.{Name, is_among as is_among_names, is_reserved_for_declaring}
use Rattle.smt_terms.specs.Equal.{name_eq, symbol_eq}
use Rattle.smt_terms.specs.Free.{is_among}
use Rattle.smt_terms.specs.Models.{Model}
use Rattle.smt_terms.specs.Rank.{is_sort, has_name}
use Rattle.smt_terms.specs.Sorts.{Symbol, Variable}
use Rattle.smt_terms.specs.Subst.{parameter}
use Rattle.smt_terms.specs.SubstLaws.{names_within, GivesNone}
use Rattle.smt_terms.specs.Term.{Term}
use Rattle.smt_terms.specs.Val.{Env}
use Rattle.smt_terms.proofs.Agree.{SameAt}
use Rattle.smt_terms.proofs.Equal.{Decides-symbol_eq, name_same, name_itself, symbol_itself}
use Rattle.smt_terms.proofs.Tests.{and_true, both_false, either_true, left_true, right_true, both_true, contrary}
use Rattle.script_terms.specs.Heads.{parameters_from}
use Rattle.script_read.specs.Laws.{denoted}
use Rattle.script_read.specs.Mean.{Denoted, Meaning, with_bound, with_all, denoted_as, with_arguments}
use Rattle.script_terms.specs.Read.{local_constants}
use Rattle.script_terms.specs.Reading.{ReadLocal, parameter_as, ReadBinding, Sofar, term_among, term_or, bound_as, constant_as}
use Rattle.script_terms.specs.Scope.{or_later}
use Rattle.script_read.specs.Script.{parameters_read}
use Rattle.script_read.proofs.Agreeing.{variable_denotes, pairs_bound}
use Rattle.script_read.proofs.Fitting.{Given, LiveFits, BoundFits, Agrees, pairs_denoted, LetsMean, Origin, drawn, quantified, internal, ConstantSound, LocalsSound, have_sorts, Sound, Ready}
use Rattle.script_terms.proofs.NameFacts.{name_turned, parameter_reserved, parameter_never, spared_first, spared_none}
use Rattle.script_terms.proofs.SortFacts.{VariablesSound, earlier_apart}

pub variables_fine : (ns earlier : List Name) (xs : List Variable) → VariablesSound ns earlier xs → have_sorts xs ≡ true
variables_fine ns earlier [] sound = refl
variables_fine ns earlier (x ∷ xs) sound = and_true (is_sort x.sort) (have_sorts xs) sound.0.fine (variables_fine ns (x.name ∷ earlier) xs sound.2)

-- ---- parameters are ready to be read

module _ (ns : List Name) (fs : List Symbol) (s : Sofar) (sound : Sound ns fs s) where
  origin_parameter : (ls : List ReadLocal) (x : Variable) (n k : Name) → Origin ns ls k → Origin ns (parameter_as x n ∷ ls) k
  origin_parameter ls x n k (drawn h) = drawn h
  origin_parameter ls x n k (quantified h) = quantified h
  origin_parameter ls x n k (internal h) = internal h

  parameter_undeclared : (i : ℕ) (x : Variable) → is_among fs (parameter i x.sort) ≡ false
  parameter_undeclared i x = false_from_ne_true (is_among fs (parameter i x.sort)) (λ e. absurd (contrary {A = ⊥} (is_reserved_for_declaring (parameter i x.sort).name) (parameter_reserved i x.sort) (sound.symbols (parameter i x.sort) e).1))

  locals_parameter : (i : ℕ) (x : Variable) (ls : List ReadLocal) → LocalsSound ns fs s.supply ls → LocalsSound ns fs s.supply (parameter_as x (parameter i x.sort).name ∷ ls)
  locals_parameter i x ls locals = record {
    terms = λ k t h. terms_of k t (name_eq x.name k) h;
    constants = λ g h. constants_at g (either_true (symbol_eq c g) (is_among (local_constants ls) g) h);
  }
    where
      c : Symbol
      c = parameter i x.sort

      terms_of : (k : Name) (t : Term) (b : Bool) → cond b (Some (constant_as x (parameter i x.sort).name)) (bound_as ls k) ≡ Some t → GivesNone s.supply (names_within t)
      terms_of k t true e = let same : constant_as x (parameter i x.sort).name ≡ t = cc in subst (λ u. GivesNone s.supply (names_within u)) same (spared_first s.supply (parameter i x.sort).name [] (parameter_never i x.sort s.supply) (spared_none s.supply))
      terms_of k t false e = locals.terms k t e

      constants_at : (g : Symbol) → (symbol_eq c g ≡ true) ⊎ (is_among (local_constants ls) g ≡ true) → ConstantSound ns fs s.supply (parameter_as x (parameter i x.sort).name ∷ ls) g
      constants_at g (inl e) = subst (λ h. ConstantSound ns fs s.supply (parameter_as x (parameter i x.sort).name ∷ ls) h) ((Decides-symbol_eq c g).0 e) (record {
        spared = parameter_never i x.sort s.supply;
        undeclared = parameter_undeclared i x;
        origin = internal (parameter_reserved i x.sort);
      })
      constants_at g (inr e) = let old : ConstantSound ns fs s.supply ls g = locals.constants g e in record { spared = old.spared; undeclared = old.undeclared; origin = origin_parameter ls x (parameter i x.sort).name g.name old.origin }

  parameters_ready : (i : ℕ) (xs : List Variable) (ls : List ReadLocal) → have_sorts xs ≡ true → LocalsSound ns fs s.supply ls → LetsMean fs s.live ls → Ready ns fs (parameters_read xs (parameters_from i xs) ls) s
  parameters_ready i [] ls fine locals lets = record { sound = sound; locals = locals; lets = lets }
  parameters_ready i (x ∷ xs) ls fine locals lets =
      let parts = both_true (is_sort x.sort) (have_sorts xs) fine in
      parameters_ready (suc i) xs (parameter_as x (parameter i x.sort).name ∷ ls) parts.1 (locals_parameter i x ls locals) (parts.0, lets)

  pub nothing_ready : Ready ns fs [] s
  nothing_ready = record {
    sound = sound;
    locals = record { terms = λ n t h. no_term n t h; constants = λ g h. no_constant g h };
    lets = tt;
  }
    where
      no_term : (n : Name) (t : Term) → None ≡ Some t → GivesNone s.supply (names_within t)
      no_term n t h = absurd cc

      no_constant : (g : Symbol) → false ≡ true → ConstantSound ns fs s.supply [] g
      no_constant g h = absurd cc

  pub body_ready : (xs : List Variable) → have_sorts xs ≡ true → Ready ns fs (parameters_read xs (parameters_from 0 xs) []) s
  body_ready xs fine = parameters_ready 0 xs [] fine nothing_ready.locals tt

-- ---- parameters have the values of the arguments

abbrev terms_from : ℕ → List Variable → List (Name × Term)
terms_from i [] = []
terms_from i (x ∷ xs) = (x.name, constant_as x (parameter i x.sort).name) ∷ terms_from (suc i) xs

arguments_denoted : (m : Model) (i : ℕ) (xs : List Variable) (ds : List Denoted) (d : Env) (E : Meaning) → have_sorts xs ≡ true → Given i xs ds d → with_arguments xs ds E ≡ with_all (pairs_denoted m d (terms_from i xs)) E
arguments_denoted m i [] ds d E fine given = refl
arguments_denoted m i (x ∷ xs) [] d E fine given = absurd given
arguments_denoted m i (x ∷ xs) (a ∷ ds) d E fine given =
    let parts = both_true (is_sort x.sort) (have_sorts xs) fine in
    let sorted : a ≡ denoted_as a.0 x.sort = λ j. (a.0, given.0 j) in
    let first : a ≡ denoted m d (constant_as x (parameter i x.sort).name) = sorted ∙ variable_denotes m x (parameter i x.sort).name a.0 d parts.0 given.1 in
    let rest : with_arguments xs ds E ≡ with_all (pairs_denoted m d (terms_from (suc i) xs)) E = arguments_denoted m (suc i) xs ds d E parts.1 given.2 in
    λ j. with_bound x.name (first j) (rest j)

unnamed : (i : ℕ) (xs : List Variable) (n : Name) → has_name n (map (λ x. x.name) xs) ≡ false → term_among (terms_from i xs) n ≡ None
unnamed i [] n apart = refl
unnamed i (x ∷ xs) n apart =
    let parts = both_false (name_eq n x.name) (has_name n (map (λ y. y.name) xs)) apart in
    ap (λ b. or_later b (constant_as x (parameter i x.sort).name) (term_among (terms_from (suc i) xs) n)) (name_turned x.name n ∙ parts.0) ∙ unnamed (suc i) xs n parts.1

parameters_bound : (ns earlier : List Name) (i : ℕ) (xs : List Variable) (ls : List ReadLocal) (n : Name) → VariablesSound ns earlier xs → bound_as (parameters_read xs (parameters_from i xs) ls) n ≡ term_or (term_among (terms_from i xs) n) (bound_as ls n)
parameters_bound ns earlier i [] ls n sound = refl
parameters_bound ns earlier i (x ∷ xs) ls n sound =
    parameters_bound ns (x.name ∷ earlier) (suc i) xs (parameter_as x (parameter i x.sort).name ∷ ls) n sound.2 ∙ go (name_eq x.name n) refl
  where
    c : Term
    c = constant_as x (parameter i x.sort).name

    go : (b : Bool) → name_eq x.name n ≡ b → term_or (term_among (terms_from (suc i) xs) n) (or_later b c (bound_as ls n)) ≡ term_or (or_later b c (term_among (terms_from (suc i) xs) n)) (bound_as ls n)
    go true e =
        let apart : has_name n (map (λ y. y.name) xs) ≡ false = ap (λ k. has_name k (map (λ y. y.name) xs)) (sym (name_same x.name n e)) ∙ earlier_apart ns (x.name ∷ earlier) xs x.name sound.2 (left_true (bytes_eq x.name x.name) (is_among_names earlier x.name) (name_itself x.name)) in
        ap (λ o. term_or o (Some c)) (unnamed (suc i) xs n apart)
    go false e = refl

constant_kept : (i : ℕ) (xs : List Variable) (ls : List ReadLocal) (g : Symbol) → is_among (local_constants ls) g ≡ true → is_among (local_constants (parameters_read xs (parameters_from i xs) ls)) g ≡ true
constant_kept i [] ls g h = h
constant_kept i (x ∷ xs) ls g h = constant_kept (suc i) xs (parameter_as x (parameter i x.sort).name ∷ ls) g (right_true (symbol_eq (parameter i x.sort) g) (is_among (local_constants ls) g) h)

given_moved : (i : ℕ) (xs : List Variable) (ls : List ReadLocal) (ds : List Denoted) (d e : Env) → SameAt (local_constants (parameters_read xs (parameters_from i xs) ls)) d e → Given i xs ds e → Given i xs ds d
given_moved i [] ls ds d e same given = tt
given_moved i (x ∷ xs) ls [] d e same given = absurd given
given_moved i (x ∷ xs) ls (a ∷ ds) d e same given = (
  given.0,
  same (parameter i x.sort) (constant_kept (suc i) xs (parameter_as x (parameter i x.sort).name ∷ ls) (parameter i x.sort) (left_true (symbol_eq (parameter i x.sort) (parameter i x.sort)) (is_among (local_constants ls) (parameter i x.sort)) (symbol_itself (parameter i x.sort)))) ∙ given.1,
  given_moved (suc i) xs (parameter_as x (parameter i x.sort).name ∷ ls) ds d e same given.2,
)

arguments_live : (xs : List Variable) (ds : List Denoted) (E : Meaning) → (with_arguments xs ds E).live ≡ E.live
arguments_live [] ds E = refl
arguments_live (x ∷ xs) [] E = refl
arguments_live (x ∷ xs) (a ∷ ds) E = arguments_live xs ds E

arguments_sorts : (xs : List Variable) (ds : List Denoted) (E : Meaning) → (with_arguments xs ds E).sorts ≡ E.sorts
arguments_sorts [] ds E = refl
arguments_sorts (x ∷ xs) [] E = refl
arguments_sorts (x ∷ xs) (a ∷ ds) E = arguments_sorts xs ds E

pub agrees_arguments : (m : Model) (ns : List Name) (fs : List Symbol) (bs : List ReadBinding) (xs : List Variable) (ds : List Denoted) (d : Env) (E : Meaning) → VariablesSound ns [] xs → Agrees m fs bs [] d E → Given 0 xs ds d → Agrees m fs bs (parameters_read xs (parameters_from 0 xs) []) d (with_arguments xs ds E)
agrees_arguments m ns fs bs xs ds d E sound a given = record {
  live = subst (λ live. LiveFits m fs bs live) (sym (arguments_live xs ds E)) a.live;
  sorts = arguments_sorts xs ds E ∙ a.sorts;
  bound = bound_at;
  own = a.own;
}
  where
    bound_at : BoundFits m fs (parameters_read xs (parameters_from 0 xs) []) d (with_arguments xs ds E).bound
    bound_at e same own n =
        let moved : Given 0 xs ds e = given_moved 0 xs [] ds e d same given in
        ap (λ (F : Meaning). F.bound n) (arguments_denoted m 0 xs ds e E (variables_fine ns [] xs sound) moved)
        ∙ pairs_bound m e E n None (terms_from 0 xs) (a.bound d (λ g among. refl) a.own n)
        ∙ ap (option_map (denoted m e)) (sym (parameters_bound ns [] 0 xs [] n sound))
