-- When what a reader knows agrees with a meaning: under every environment that gives the constants of the local names the
-- same values and the declared symbols none, names are read as terms that have the values which the names mean.
use Rattle.std.proofs.Common.{◌≡◌, ℕ, suc, Bool, true, false, List, [], ◌∷◌, map, Option, Some, None}
use Rattle.std.specs.Prelude.{⊤, option_map}
use Rattle.std.specs.List.{list_all}
use Rattle.smt_lex.specs.Names.{Name, is_among as is_among_names, is_theory_name, is_reserved_for_declaring}
use Rattle.smt_lex.specs.Forms.{Forms}
use Rattle.smt_terms.specs.Sorts.{Sort, Symbol, Variable}
use Rattle.smt_terms.specs.Term.{Term, terms}
use Rattle.smt_terms.specs.Free.{is_among, name_among}
use Rattle.smt_terms.specs.Fresh.{Supply, NeverGives}
use Rattle.smt_terms.specs.Models.{Model}
use Rattle.smt_terms.specs.Rank.{sort_of, is_sort}
use Rattle.smt_terms.specs.Subst.{parameter}
use Rattle.smt_terms.specs.SubstLaws.{names_within, names_within_each, GivesNone, Later}
use Rattle.smt_terms.specs.Val.{Env}
use Rattle.smt_terms.proofs.Agree.{SameAt}
use Rattle.script_read.specs.Laws.{denoted}
use Rattle.script_read.specs.Mean.{Denoted, Meaning, over_symbol, mean, mean_all, mean_bindings, with_locals, with_arguments, meaning}
use Rattle.script_terms.specs.Read.{local_constants}
use Rattle.script_terms.specs.Reading.{ReadLocal, lets_as, quantified_as, parameter_as, ReadBinding, sort_known, function_known, definition_as, named_as, level_known, Sofar, as_local, as_bindings, live_sorts, Entry, symbol_entry, definition_entry, term_entry, entry_of, term_among, bound_as, is_quantified}

-- ---- live names

abbrev pub declared_of : List ReadBinding → List Symbol
declared_of [] = []
declared_of (function_known f ∷ bs) = f ∷ declared_of bs
declared_of (_ ∷ bs) = declared_of bs

-- the environment has no values for these symbols
abbrev pub Unassigned : List Symbol → Env → Type 0
Unassigned fs d = (g : Symbol) → is_among fs g ≡ true → d g ≡ None

-- the environment gives the parameters from number i on the values of the arguments, which have their sorts
abbrev pub Given : ℕ → List Variable → List Denoted → Env → Type 0
Given i [] ds d = ⊤
Given i (x ∷ xs) [] d = ⊥
Given i (x ∷ xs) (a ∷ ds) d = (a.1 ≡ Some x.sort) × (d (parameter i x.sort) ≡ Some a.0) × Given (suc i) xs ds d

-- an entry is what a live name means
abbrev pub EntryMeans : Model → List Symbol → Entry → (List Denoted → Denoted) → Type 0
EntryMeans m fs (symbol_entry f) F = (is_among fs f ≡ true) × ((ds : List Denoted) → F ds ≡ over_symbol m f ds)
EntryMeans m fs (definition_entry xs t) F = (ds : List Denoted) (d : Env) → Unassigned fs d → Given 0 xs ds d → F ds ≡ denoted m d t
EntryMeans m fs (term_entry t) F = (d : Env) → Unassigned fs d → F [] ≡ denoted m d t

pub record LiveFits (m : Model) (fs : List Symbol) (bs : List ReadBinding) (live : Name → Option (List Denoted → Denoted)) : Type 0 where
  pub entries : (n : Name) (x : Entry) → entry_of bs n ≡ Some x → (F : List Denoted → Denoted) × (live n ≡ Some F) × EntryMeans m fs x F
  pub theories : (n : Name) → is_theory_name n ≡ true → live n ≡ None

-- ---- local names

abbrev pub BoundFits : Model → List Symbol → List ReadLocal → Env → (Name → Option Denoted) → Type 0
BoundFits m fs ls e bound = (d : Env) → SameAt (local_constants ls) d e → Unassigned fs d → (n : Name) → bound n ≡ option_map (denoted m d) (bound_as ls n)

pub record Agrees (m : Model) (fs : List Symbol) (bs : List ReadBinding) (ls : List ReadLocal) (e : Env) (E : Meaning) : Type 0 where
  pub live : LiveFits m fs bs E.live
  pub sorts : E.sorts ≡ live_sorts bs
  pub bound : BoundFits m fs ls e E.bound
  pub own : Unassigned fs e

-- names with what terms denote
abbrev pub pairs_denoted : Model → Env → List (Name × Term) → List (Name × Denoted)
pairs_denoted m e ts = map (λ p. (p.0, denoted m e p.1)) ts

-- the terms of each `let` have the values of their forms, and the other names have sorts that are well formed
abbrev pub LetsMean : List Symbol → List ReadBinding → List ReadLocal → Type 0
LetsMean fs bs [] = ⊤
LetsMean fs bs (lets_as forms ts ∷ ls) =
    ((m : Model) (E : Meaning) (e : Env) → Agrees m fs bs ls e E → mean_bindings forms E m ≡ pairs_denoted m e ts) × LetsMean fs bs ls
LetsMean fs bs (quantified_as x n ∷ ls) = (is_sort x.sort ≡ true) × LetsMean fs bs ls
LetsMean fs bs (parameter_as x n ∷ ls) = (is_sort x.sort ≡ true) × LetsMean fs bs ls

-- ---- what is known of names

-- where a local constant's name comes from: a fresh one, a quantified one, or that of a parameter
pub data Origin (ns : List Name) (ls : List ReadLocal) (n : Name) : Type 0 where
  drawn : name_among ns n ≡ false → Origin ns ls n
  quantified : is_quantified ls n ≡ true → Origin ns ls n
  internal : is_reserved_for_declaring n ≡ true → Origin ns ls n

pub record ConstantSound (ns : List Name) (fs : List Symbol) (s : Supply) (ls : List ReadLocal) (g : Symbol) : Type 0 where
  pub spared : NeverGives s g.name
  pub undeclared : is_among fs g ≡ false
  pub origin : Origin ns ls g.name

pub record LocalsSound (ns : List Name) (fs : List Symbol) (s : Supply) (ls : List ReadLocal) : Type 0 where
  pub terms : (n : Name) (t : Term) → bound_as ls n ≡ Some t → GivesNone s (names_within t)
  pub constants : (g : Symbol) → is_among (local_constants ls) g ≡ true → ConstantSound ns fs s ls g

abbrev pub have_sorts : List Variable → Bool
have_sorts xs = list_all (λ x. is_sort x.sort) xs

abbrev pub EntrySound : Supply → Entry → Type 0
EntrySound s (symbol_entry f) = NeverGives s f.name
EntrySound s (definition_entry xs t) = GivesNone s (names_within t) × ((r : Sort) × (sort_of t ≡ Some r)) × (have_sorts xs ≡ true)
EntrySound s (term_entry t) = GivesNone s (names_within t)

-- what is known of a binding in front of others
abbrev pub BindingSound : List Name → Supply → List ReadBinding → ReadBinding → Type 0
BindingSound ns s bs (sort_known n r) = is_sort r ≡ true
BindingSound ns s bs (function_known f) = (name_among ns f.name ≡ true) × (is_reserved_for_declaring f.name ≡ false)
BindingSound ns s bs (definition_as n xs body t) =
    (is_reserved_for_declaring n ≡ false) × EntrySound s (definition_entry xs t)
    × ((m : Model) (ds : List Denoted) (d : Env) → Unassigned (declared_of bs) d → Given 0 xs ds d → mean body (with_arguments xs ds (meaning (as_bindings bs) m)) m ≡ denoted m d t)
BindingSound ns s bs (named_as names f t ls) =
    ((n : Name) → is_among_names names n ≡ true → is_reserved_for_declaring n ≡ false) × GivesNone s (names_within t)
    × ((m : Model) (d : Env) → Unassigned (declared_of bs) d → mean f (with_locals (map as_local ls) m (meaning (as_bindings bs) m)) m ≡ denoted m d t)
BindingSound ns s bs level_known = ⊤

-- the same of all bindings
abbrev pub Built : List Name → Supply → List ReadBinding → Type 0
Built ns s [] = ⊤
Built ns s (b ∷ bs) = BindingSound ns s bs b × Built ns s bs

pub record Sound (ns : List Name) (fs : List Symbol) (s : Sofar) : Type 0 where
  pub declared : declared_of s.live ≡ fs
  pub entries : (n : Name) (x : Entry) → entry_of s.live n ≡ Some x → EntrySound s.supply x × (is_reserved_for_declaring n ≡ false)
  pub symbols : (g : Symbol) → is_among fs g ≡ true → (name_among ns g.name ≡ true) × (is_reserved_for_declaring g.name ≡ false)
  pub text : GivesNone s.supply ns
  pub sorts : (n : Name) (r : Sort) → live_sorts s.live n ≡ Some r → is_sort r ≡ true
  pub meant : (m : Model) → LiveFits m fs s.live (meaning (as_bindings s.live) m).live
  pub built : Built ns s.supply s.live

-- ---- readings

-- what is known grows
pub record Moves (ns : List Name) (fs : List Symbol) (s t : Sofar) : Type 0 where
  pub entries : (n : Name) (x : Entry) → entry_of s.live n ≡ Some x → entry_of t.live n ≡ Some x
  pub sorts : live_sorts t.live ≡ live_sorts s.live
  pub later : Later s.supply t.supply
  pub sound : Sound ns fs t

-- something is read as a term that has its meaning in every later state
pub record Reads (ns : List Name) (fs : List Symbol) (ls : List ReadLocal) (means_at : Meaning → Model → Denoted) (s : Sofar) (p : Term × Sofar) : Type 0 where
  pub moves : Moves ns fs s p.1
  pub spared : GivesNone p.1.supply (names_within p.0)
  pub means : (m : Model) (E : Meaning) (e : Env) → Agrees m fs p.1.live ls e E → means_at E m ≡ denoted m e p.0

pub record ReadsAll (ns : List Name) (fs : List Symbol) (ls : List ReadLocal) (gs : Forms) (s : Sofar) (p : List Term × Sofar) : Type 0 where
  pub moves : Moves ns fs s p.1
  pub spared : GivesNone p.1.supply (names_within_each (terms p.0))
  pub means : (m : Model) (E : Meaning) (e : Env) → Agrees m fs p.1.live ls e E → mean_all gs E m ≡ map (denoted m e) p.0

pub record ReadsBindings (ns : List Name) (fs : List Symbol) (ls : List ReadLocal) (gs : Forms) (s : Sofar) (p : List (Name × Term) × Sofar) : Type 0 where
  pub moves : Moves ns fs s p.1
  pub spared : (n : Name) (t : Term) → term_among p.0 n ≡ Some t → GivesNone p.1.supply (names_within t)
  pub means : (m : Model) (E : Meaning) (e : Env) → Agrees m fs p.1.live ls e E → mean_bindings gs E m ≡ pairs_denoted m e p.0

-- what is known before a reading
pub record Ready (ns : List Name) (fs : List Symbol) (ls : List ReadLocal) (s : Sofar) : Type 0 where
  pub sound : Sound ns fs s
  pub locals : LocalsSound ns fs s.supply ls
  pub lets : LetsMean fs s.live ls
