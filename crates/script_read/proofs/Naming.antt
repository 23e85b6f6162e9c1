-- Names of terms: what is known when an annotation has given them.
use Rattle.std.proofs.Common.{◌≡◌, ◌∙◌, sym, ap, subst, refl, ℕ, Bool, true, false, cond, ◌⊎◌, inl, inr, List, [], ◌∷◌, map, Option, Some, None, Ok}
use Rattle.std.specs.Prelude.{bytes_eq, is_some}
use Rattle.std.specs.List.{list_any}
use Rattle.std.proofs.lemmas.Bool.{false_from_ne_true}
use Rattle.smt_lex.specs.Names.{Name, is_among as is_among_names, is_theory_name, is_reserved_for_declaring}
use Rattle.smt_lex.specs.Forms.{Form}
use Rattle.smt_terms.specs.Equal.{name_eq, symbol_eq}
use Rattle.smt_terms.specs.Free.{is_among, free}
use Rattle.smt_terms.specs.Models.{Model}
use Rattle.smt_terms.specs.Rank.{sort_of}
use Rattle.smt_terms.specs.Sorts.{Sort, Symbol}
use Rattle.smt_terms.specs.SubstLaws.{names_within, GivesNone}
use Rattle.smt_terms.specs.Term.{Term}
use Rattle.smt_terms.specs.Val.{Env}
use Rattle.smt_terms.specs.Values.{default_value}
use Rattle.smt_terms.proofs.Agree.{val_same}
use Rattle.smt_terms.proofs.Equal.{Decides-symbol_eq, name_same}
use Rattle.smt_terms.proofs.Tests.{both_false, either_true, contrary}
use Rattle.script_terms.specs.declared.causes.Cause.TheVariants.{Redeclared, ReservedName}
use Rattle.script_read.specs.Laws.{denoted}
use Rattle.script_read.specs.Mean.{Denoted, Meaning, mean, with_locals, meaning}
use Rattle.script_terms.specs.Parts.{place_of, symbol_in}
use Rattle.script_terms.specs.Read.{is_given, term_name, term_name_in, term_names, local_constants, mentions_local}
use Rattle.script_terms.specs.Reading.{ReadLocal, ReadBinding, named_as, as_local, as_bindings, Sofar, Entry, term_entry, entry_of}
use Rattle.script_terms.specs.Refusals.{unless, mapped}
use Rattle.script_terms.specs.Scope.{Binding, sort_name, function, definition, named, level, or_later, live_sort}
use Rattle.script_read.proofs.Agreeing.{agrees_default, HaveDefaults}
use Rattle.script_read.proofs.Fitting.{Unassigned, EntryMeans, LiveFits, Agrees, EntrySound, Sound, Moves, Ready}
use Rattle.script_terms.proofs.NameFacts.{theory_reserved}
use Rattle.script_terms.proofs.Outcomes.{and_then_ok, mapped_ok, ok_same}
use Rattle.script_terms.proofs.SortFacts.{unless_passed}

-- ---- what a list of bindings means, in part

pub meaning_sorts : (bs : List Binding) (m : Model) → (meaning bs m).sorts ≡ live_sort bs
meaning_sorts [] m = refl
meaning_sorts (sort_name n s ∷ bs) m =
    let front : (Name → Option Sort) → Name → Option Sort = λ live k. cond (name_eq n k) (Some s) (live k) in
    ap front (meaning_sorts bs m)
meaning_sorts (function f ∷ bs) m = meaning_sorts bs m
meaning_sorts (definition n xs body ∷ bs) m = meaning_sorts bs m
meaning_sorts (named ns f ls ∷ bs) m = meaning_sorts bs m
meaning_sorts (level ∷ bs) m = meaning_sorts bs m

pub meaning_bound : (bs : List Binding) (m : Model) (n : Name) → (meaning bs m).bound n ≡ None
meaning_bound [] m n = refl
meaning_bound (sort_name k s ∷ bs) m n = meaning_bound bs m n
meaning_bound (function f ∷ bs) m n = meaning_bound bs m n
meaning_bound (definition k xs body ∷ bs) m n = meaning_bound bs m n
meaning_bound (named ns f ls ∷ bs) m n = meaning_bound bs m n
meaning_bound (level ∷ bs) m n = meaning_bound bs m n

-- the meaning of what is live agrees where nothing is bound locally
pub agrees_alone : (ns : List Name) (fs : List Symbol) (s : Sofar) (m : Model) (e : Env) → Sound ns fs s → Unassigned fs e → Agrees m fs s.live [] e (meaning (as_bindings s.live) m)
agrees_alone ns fs s m e sound own = record {
  live = sound.meant m;
  sorts = meaning_sorts (as_bindings s.live) m;
  bound = λ d same other n. meaning_bound (as_bindings s.live) m n;
  own = own;
}

-- ---- the names of an annotation are new

is_none : {A : Type 0} (o : Option A) → is_some o ≡ false → o ≡ None
is_none None h = refl
is_none (Some a) h = absurd cc

pub record NewName (live : List ReadBinding) (n : Name) : Type 0 where
  pub free : entry_of live n ≡ None
  pub allowed : is_reserved_for_declaring n ≡ false

new_name : (live : List ReadBinding) (defines : Option Name) (earlier : List Name) (place : ℕ) (o : Option Name) (n : Name) → term_name live defines earlier place o ≡ Ok n → NewName live n
new_name live defines earlier place None n h = absurd cc
new_name live defines earlier place (Some k) n h =
    let (allowed, next) = unless_passed (is_reserved_for_declaring k) ReservedName place (unless (is_given live defines earlier k) Redeclared place (Ok k)) n h in
    let (ungiven, last) = unless_passed (is_given live defines earlier k) Redeclared place (Ok k) n next in
    let free : is_some (entry_of live k) ≡ false = (both_false (is_some (entry_of live k)) _ ungiven).0 in
    subst (NewName live) (ok_same k n (Ok k) refl last) (record { free = is_none (entry_of live k) free; allowed = allowed })

new_name_in : (live : List ReadBinding) (defines : Option Name) (earlier : List Name) (place : ℕ) (p : Option Form) (n : Name) → term_name_in live defines earlier place p ≡ Ok n → NewName live n
new_name_in live defines earlier place None n h = absurd cc
new_name_in live defines earlier place (Some f) n h = new_name live defines earlier (place_of f) (symbol_in f) n h

pub AreNew : List ReadBinding → List Name → Type 0
AreNew live ns = (n : Name) → is_among_names ns n ≡ true → NewName live n

pub names_new : (live : List ReadBinding) (defines : Option Name) (place : ℕ) (earlier : List Name) (ps : List (Option Form)) (ns : List Name) → term_names defines place earlier ps live ≡ Ok ns → AreNew live ns
unfolding AreNew
names_new live defines place earlier [] ns h n among = nothing (ok_same [] ns (Ok []) refl h)
  where
    nothing : [] ≡ ns → NewName live n
    nothing e = contrary (is_among_names ns n) among (ap (λ ks. is_among_names ks n) (sym e))
names_new live defines place earlier (p ∷ ps) ns h n among =
    let (k, here, rest) = and_then_ok (λ k. mapped (λ ks. k ∷ ks) (term_names defines place (k ∷ earlier) ps live)) (term_name_in live defines earlier place p) ns h in
    let (ks, behind, all) = mapped_ok (λ ks. k ∷ ks) (term_names defines place (k ∷ earlier) ps live) ns rest in
    go k ks (new_name_in live defines earlier place p k here) (names_new live defines place (k ∷ earlier) ps ks behind) (either_true (bytes_eq n k) (is_among_names ks n) (ap (λ js. is_among_names js n) all ∙ among))
  where
    go : (k : Name) (ks : List Name) → NewName live k → ((j : Name) → is_among_names ks j ≡ true → NewName live j) → (bytes_eq n k ≡ true) ⊎ (is_among_names ks n ≡ true) → NewName live n
    go k ks first below (inl e) = subst (NewName live) (sym (name_same n k e)) first
    go k ks first below (inr e) = below n e

-- ---- a term that mentions no local constant

pub none_of : (p : Symbol → Bool) (gs : List Symbol) (g : Symbol) → list_any p gs ≡ false → is_among gs g ≡ true → p g ≡ false
none_of p [] g h among = absurd cc
none_of p (k ∷ gs) g h among =
    let parts = both_false (p k) (list_any p gs) h in
    go parts.0 (either_true (symbol_eq k g) (is_among gs g) among) (λ e. none_of p gs g parts.1 e)
  where
    go : p k ≡ false → (symbol_eq k g ≡ true) ⊎ (is_among gs g ≡ true) → (is_among gs g ≡ true → p g ≡ false) → p g ≡ false
    go first (inl e) below = ap p (sym ((Decides-symbol_eq k g).0 e)) ∙ first
    go first (inr e) below = below e

-- the environment with default values for the local constants
abbrev default_env : List ReadLocal → Env → Env
default_env ls d g = cond (is_among (local_constants ls) g) (Some (default_value g.result)) (d g)

defaults_apart : (m : Model) (ls : List ReadLocal) (t : Term) (d : Env) → mentions_local ls t ≡ false → denoted m (default_env ls d) t ≡ denoted m d t
defaults_apart m ls t d apart =
    ap (λ v. (v, sort_of t))
    (val_same t m (default_env ls d) d (λ g among. ap (λ b. cond b (Some (default_value g.result)) (d g)) (none_of (λ f. is_among (local_constants ls) f) (free t) g apart among)))

-- ---- what is known behind the annotation

module _ (ns : List Name) (fs : List Symbol) (ls : List ReadLocal) (s : Sofar) (ready : Ready ns fs ls s) (f : Form) (t : Term) (spared : GivesNone s.supply (names_within t)) (means : (m : Model) (E : Meaning) (e : Env) → Agrees m fs s.live ls e E → mean f E m ≡ denoted m e t) (apart : mentions_local ls t ≡ false) (names : List Name) (new : AreNew s.live names) where
  abbrev behind : Sofar
  behind = record s { live = named_as names f t ls ∷ s.live }

  abbrev before : Model → Meaning
  before m = meaning (as_bindings s.live) m

  named_means : (m : Model) (d : Env) → Unassigned fs d → mean f (with_locals (map as_local ls) m (before m)) m ≡ denoted m d t
  named_means m d own =
      means m (with_locals (map as_local ls) m (before m)) (default_env ls d)
      (agrees_default m fs s.live ls (default_env ls d) (before m) ready.lets (agrees_alone ns fs s m (default_env ls d) ready.sound undeclared) defaults)
      ∙ defaults_apart m ls t d apart
    where
      undeclared : Unassigned fs (default_env ls d)
      undeclared g among =
          ap (λ b. cond b (Some (default_value g.result)) (d g)) (false_from_ne_true (is_among (local_constants ls) g) (λ e. absurd (contrary {A = ⊥} (is_among fs g) among (ready.locals.constants g e).undeclared)))
          ∙ own g among

      defaults : HaveDefaults ls (default_env ls d)
      defaults g among = ap (λ b. cond b (Some (default_value g.result)) (d g)) among

  kept_entry : (n : Name) (x : Entry) → entry_of s.live n ≡ Some x → entry_of behind.live n ≡ Some x
  unfolding AreNew
  kept_entry n x h = go (is_among_names names n) refl
    where
      go : (b : Bool) → is_among_names names n ≡ b → or_later b (term_entry t) (entry_of s.live n) ≡ Some x
      go true e = let none_there : entry_of s.live n ≡ None = (new n e).free in absurd (some_none (sym h ∙ none_there))
        where
          some_none : Some x ≡ None → ⊥
          some_none k = absurd cc
      go false e = h

  new_entry : (n : Name) (x : Entry) → entry_of behind.live n ≡ Some x → EntrySound s.supply x × (is_reserved_for_declaring n ≡ false)
  unfolding AreNew
  new_entry n x h = go (is_among_names names n) refl h
    where
      go : (b : Bool) → is_among_names names n ≡ b → or_later b (term_entry t) (entry_of s.live n) ≡ Some x → EntrySound s.supply x × (is_reserved_for_declaring n ≡ false)
      go true e k = let same : term_entry t ≡ x = cc in (subst (EntrySound s.supply) same spared, (new n e).allowed)
      go false e k = ready.sound.entries n x k

  new_means : (m : Model) → LiveFits m fs behind.live (meaning (as_bindings behind.live) m).live
  unfolding AreNew
  new_means m = record { entries = λ n x h. entry_means n x (is_among_names names n) h; theories = λ n h. theory_means n h (is_among_names names n) refl }
    where
      F : List Denoted → Denoted
      F ds = mean f (with_locals (map as_local ls) m (before m)) m

      entry_means : (n : Name) (x : Entry) (b : Bool) → or_later b (term_entry t) (entry_of s.live n) ≡ Some x → (G : List Denoted → Denoted) × (cond b (Some F) ((before m).live n) ≡ Some G) × EntryMeans m fs x G
      entry_means n x true h = let same : term_entry t ≡ x = cc in (F, refl, subst (λ y. EntryMeans m fs y F) same (λ d own. named_means m d own))
      entry_means n x false h = (ready.sound.meant m).entries n x h

      theory_means : (n : Name) → is_theory_name n ≡ true → (b : Bool) → is_among_names names n ≡ b → cond b (Some F) ((before m).live n) ≡ None
      theory_means n h true e = contrary (is_reserved_for_declaring n) (theory_reserved n h) (new n e).allowed
      theory_means n h false e = (ready.sound.meant m).theories n h

  new_allowed : (n : Name) → is_among_names names n ≡ true → is_reserved_for_declaring n ≡ false
  unfolding AreNew
  new_allowed n h = (new n h).allowed

  pub named_moves : Moves ns fs s (record s { live = named_as names f t ls ∷ s.live })
  named_moves = record {
    entries = kept_entry;
    sorts = refl;
    later = λ n h. h;
    sound = record {
      declared = ready.sound.declared;
      entries = new_entry;
      symbols = ready.sound.symbols;
      text = ready.sound.text;
      sorts = ready.sound.sorts;
      meant = new_means;
      built = ((λ n h. (new_allowed n h), spared, λ m d own. named_means m d (subst (λ gs. Unassigned gs d) ready.sound.declared own)), ready.sound.built);
    };
  }
