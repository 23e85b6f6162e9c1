-- What is known between two commands: each binding means what its terms mean under the bindings behind it, and so do all
-- together, also when levels are opened and closed.
use Rattle.std.proofs.Common.{◌≡◌, ◌∙◌, sym, ap, subst, refl, ℕ, zero, suc, Bool, true, false, cond, ◌⊎◌, inl, inr, List, [], ◌∷◌, map, Option, Some, None}
use Rattle.smt_lex.specs.Names.{Name, is_among as is_among_names, is_theory_name, is_reserved_for_declaring}
use Rattle.smt_terms.specs.Equal.{name_eq, symbol_eq}
use Rattle.smt_terms.specs.Free.{is_among, name_among}
use Rattle.smt_terms.specs.Fresh.{Supply}
use Rattle.smt_terms.specs.Models.{Model}
use Rattle.smt_terms.specs.Rank.{is_sort}
use Rattle.smt_terms.specs.Sorts.{Sort, Symbol}
use Rattle.smt_terms.specs.SubstLaws.{GivesNone}
use Rattle.smt_terms.proofs.Equal.{Decides-symbol_eq, name_same, symbol_itself}
use Rattle.smt_terms.proofs.Tests.{either_true, left_true, right_true, contrary}
use Rattle.script_read.specs.Mean.{Denoted, over_symbol, mean, with_locals, with_arguments, with_binding, meaning}
use Rattle.script_terms.specs.Reading.{ReadBinding, sort_known, function_known, definition_as, named_as, level_known, as_local, as_binding, as_bindings, live_sorts, is_level_known, Entry, symbol_entry, definition_entry, term_entry, entry_of}
use Rattle.script_terms.specs.Scope.{or_later, opened, closed, merged, flattened, popped, emptied}
use Rattle.script_read.proofs.Fitting.{declared_of, Unassigned, EntryMeans, LiveFits, EntrySound, BindingSound, Built, Sound}
use Rattle.script_terms.proofs.NameFacts.{theory_reserved}

-- ---- one binding in front

entry_front : (P : Entry → Type 0) (y x : Entry) (b : Bool) (o : Option Entry) → or_later b y o ≡ Some x → (b ≡ true → P y) → (o ≡ Some x → P x) → P x
entry_front P y x true o h here below = let same : y ≡ x = cc in subst P same (here refl)
entry_front P y x false o h here below = below h

more_symbols : (m : Model) (fs gs : List Symbol) → ((g : Symbol) → is_among fs g ≡ true → is_among gs g ≡ true) → (x : Entry) (F : List Denoted → Denoted) → EntryMeans m fs x F → EntryMeans m gs x F
more_symbols m fs gs more (symbol_entry f) F means = (more f means.0, means.1)
more_symbols m fs gs more (definition_entry xs t) F means = λ ds d own given. means ds d (λ g among. own g (more g among)) given
more_symbols m fs gs more (term_entry t) F means = λ d own. means d (λ g among. own g (more g among))

live_front : (m : Model) (fs gs : List Symbol) (bs new : List ReadBinding) (test : Name → Bool) (y : Entry) (F : List Denoted → Denoted) (live : Name → Option (List Denoted → Denoted)) → ((n : Name) → entry_of new n ≡ or_later (test n) y (entry_of bs n)) → ((g : Symbol) → is_among fs g ≡ true → is_among gs g ≡ true) → EntryMeans m gs y F → ((n : Name) → test n ≡ true → is_reserved_for_declaring n ≡ false) → LiveFits m fs bs live → LiveFits m gs new (λ n. cond (test n) (Some F) (live n))
live_front m fs gs bs new test y F live entry more means allowed fits = record {
  entries = λ n x h. entries n x (test n) (sym (entry n) ∙ h);
  theories = λ n h. theories n h (test n) refl;
}
  where
    entries : (n : Name) (x : Entry) (b : Bool) → or_later b y (entry_of bs n) ≡ Some x → (G : List Denoted → Denoted) × (cond b (Some F) (live n) ≡ Some G) × EntryMeans m gs x G
    entries n x true h = let same : y ≡ x = cc in (F, refl, subst (λ z. EntryMeans m gs z F) same means)
    entries n x false h = let found = fits.entries n x h in (found.0, found.1, more_symbols m fs gs more x found.0 found.2)

    theories : (n : Name) → is_theory_name n ≡ true → (b : Bool) → test n ≡ b → cond b (Some F) (live n) ≡ None
    theories n h true e = contrary (is_reserved_for_declaring n) (theory_reserved n h) (allowed n e)
    theories n h false e = fits.theories n h

-- ---- all bindings

module _ (ns : List Name) (s : Supply) (text : GivesNone s ns) where
  abbrev EntryFine : Name → Entry → Type 0
  EntryFine n x = EntrySound s x × (is_reserved_for_declaring n ≡ false)

  pub entries_built : (bs : List ReadBinding) → Built ns s bs → (n : Name) (x : Entry) → entry_of bs n ≡ Some x → EntrySound s x × (is_reserved_for_declaring n ≡ false)
  entries_built [] built n x h = absurd cc
  entries_built (sort_known k r ∷ bs) built n x h = entries_built bs built.1 n x h
  entries_built (function_known f ∷ bs) built n x h =
      entry_front (λ y. EntryFine n y) (symbol_entry f) x (name_eq f.name n) (entry_of bs n) h
      (λ e. (text f.name built.0.0, ap is_reserved_for_declaring (sym (name_same f.name n e)) ∙ built.0.1)) (λ k. entries_built bs built.1 n x k)
  entries_built (definition_as j xs body t ∷ bs) built n x h =
      entry_front (λ y. EntryFine n y) (definition_entry xs t) x (name_eq j n) (entry_of bs n) h
      (λ e. (built.0.1, ap is_reserved_for_declaring (sym (name_same j n e)) ∙ built.0.0)) (λ k. entries_built bs built.1 n x k)
  entries_built (named_as names f t ls ∷ bs) built n x h =
      entry_front (λ y. EntryFine n y) (term_entry t) x (is_among_names names n) (entry_of bs n) h
      (λ e. (built.0.1, built.0.0 n e)) (λ k. entries_built bs built.1 n x k)
  entries_built (level_known ∷ bs) built n x h = entries_built bs built.1 n x h

  symbols_built : (bs : List ReadBinding) → Built ns s bs → (g : Symbol) → is_among (declared_of bs) g ≡ true → (name_among ns g.name ≡ true) × (is_reserved_for_declaring g.name ≡ false)
  symbols_built [] built g h = absurd cc
  symbols_built (sort_known k r ∷ bs) built g h = symbols_built bs built.1 g h
  symbols_built (function_known f ∷ bs) built g h = go (either_true (symbol_eq f g) (is_among (declared_of bs) g) h) (symbols_built bs built.1 g)
    where
      go : (symbol_eq f g ≡ true) ⊎ (is_among (declared_of bs) g ≡ true) → (is_among (declared_of bs) g ≡ true → (name_among ns g.name ≡ true) × (is_reserved_for_declaring g.name ≡ false)) → (name_among ns g.name ≡ true) × (is_reserved_for_declaring g.name ≡ false)
      go (inl e) below = subst (λ (k : Symbol). (name_among ns k.name ≡ true) × (is_reserved_for_declaring k.name ≡ false)) ((Decides-symbol_eq f g).0 e) built.0
      go (inr e) below = below e
  symbols_built (definition_as j xs body t ∷ bs) built g h = symbols_built bs built.1 g h
  symbols_built (named_as names f t ls ∷ bs) built g h = symbols_built bs built.1 g h
  symbols_built (level_known ∷ bs) built g h = symbols_built bs built.1 g h

  sorts_built : (bs : List ReadBinding) → Built ns s bs → (n : Name) (r : Sort) → live_sorts bs n ≡ Some r → is_sort r ≡ true
  sorts_built [] built n r h = absurd cc
  sorts_built (sort_known k q ∷ bs) built n r h = go (name_eq k n) h (sorts_built bs built.1 n r)
    where
      go : (b : Bool) → or_later b q (live_sorts bs n) ≡ Some r → (live_sorts bs n ≡ Some r → is_sort r ≡ true) → is_sort r ≡ true
      go true e below = let same : q ≡ r = cc in ap is_sort (sym same) ∙ built.0
      go false e below = below e
  sorts_built (function_known f ∷ bs) built n r h = sorts_built bs built.1 n r h
  sorts_built (definition_as j xs body t ∷ bs) built n r h = sorts_built bs built.1 n r h
  sorts_built (named_as names f t ls ∷ bs) built n r h = sorts_built bs built.1 n r h
  sorts_built (level_known ∷ bs) built n r h = sorts_built bs built.1 n r h

  meant_built : (bs : List ReadBinding) (m : Model) → Built ns s bs → LiveFits m (declared_of bs) bs (meaning (as_bindings bs) m).live
  meant_built [] m built = record { entries = λ n x h. nothing n x h; theories = λ n h. refl }
    where
      nothing : (n : Name) (x : Entry) → None ≡ Some x → (F : List Denoted → Denoted) × (None ≡ Some F) × EntryMeans m [] x F
      nothing n x h = absurd cc
  meant_built (sort_known k r ∷ bs) m built =
      let below : LiveFits m (declared_of bs) bs (meaning (as_bindings bs) m).live = meant_built bs m built.1 in
      record { entries = λ n x h. below.entries n x h; theories = λ n h. below.theories n h }
  meant_built (function_known f ∷ bs) m built =
      live_front m (declared_of bs) (f ∷ declared_of bs) bs (function_known f ∷ bs) (name_eq f.name) (symbol_entry f) (over_symbol m f) (meaning (as_bindings bs) m).live
      (λ n. refl) (λ g h. right_true (symbol_eq f g) (is_among (declared_of bs) g) h) (left_true (symbol_eq f f) (is_among (declared_of bs) f) (symbol_itself f), λ ds. refl)
      (λ n e. ap is_reserved_for_declaring (sym (name_same f.name n e)) ∙ built.0.1) (meant_built bs m built.1)
  meant_built (definition_as j xs body t ∷ bs) m built =
      live_front m (declared_of bs) (declared_of bs) bs (definition_as j xs body t ∷ bs) (name_eq j) (definition_entry xs t) (λ ds. mean body (with_arguments xs ds (meaning (as_bindings bs) m)) m) (meaning (as_bindings bs) m).live
      (λ n. refl) (λ g h. h) (built.0.2 m)
      (λ n e. ap is_reserved_for_declaring (sym (name_same j n e)) ∙ built.0.0) (meant_built bs m built.1)
  meant_built (named_as names f t ls ∷ bs) m built =
      live_front m (declared_of bs) (declared_of bs) bs (named_as names f t ls ∷ bs) (is_among_names names) (term_entry t) (λ ds. mean f (with_locals (map as_local ls) m (meaning (as_bindings bs) m)) m) (meaning (as_bindings bs) m).live
      (λ n. refl) (λ g h. h) (built.0.2 m)
      built.0.0 (meant_built bs m built.1)
  meant_built (level_known ∷ bs) m built =
      let below : LiveFits m (declared_of bs) bs (meaning (as_bindings bs) m).live = meant_built bs m built.1 in
      record { entries = λ n x h. below.entries n x h; theories = λ n h. below.theories n h }

  pub sound_built : (bs : List ReadBinding) → Built ns s bs → Sound ns (declared_of bs) (record { live = bs; supply = s })
  sound_built bs built = record {
    declared = refl;
    entries = entries_built bs built;
    symbols = symbols_built bs built;
    text = text;
    sorts = sorts_built bs built;
    meant = λ m. meant_built bs m built;
    built = built;
  }

-- ---- levels

pub built_opened : (ns : List Name) (s : Supply) (n : ℕ) (bs : List ReadBinding) → Built ns s bs → Built ns s (opened level_known n bs)
built_opened ns s zero bs built = built
built_opened ns s (suc n) bs built = (tt, built_opened ns s n bs built)

pub built_closed : (ns : List Name) (s : Supply) (n : ℕ) (bs : List ReadBinding) → Built ns s bs → Built ns s (closed is_level_known n bs)
built_closed ns s n [] built = tt
built_closed ns s zero (b ∷ bs) built = built
built_closed ns s (suc n) (level_known ∷ bs) built = built_closed ns s n bs built.1
built_closed ns s (suc n) (_ ∷ bs) built = built_closed ns s (suc n) bs built.1

-- bindings that declare and mean the same
pub record Alike (bs cs : List ReadBinding) : Type 0 where
  pub declared : declared_of bs ≡ declared_of cs
  pub means : (m : Model) → meaning (as_bindings bs) m ≡ meaning (as_bindings cs) m

alike_front : (b : ReadBinding) (bs cs : List ReadBinding) → Alike bs cs → Alike (b ∷ bs) (b ∷ cs)
alike_front (sort_known n r) bs cs a = record { declared = a.declared; means = λ m. ap (with_binding (as_binding (sort_known n r)) m) (a.means m) }
alike_front (function_known f) bs cs a = record { declared = ap (λ gs. f ∷ gs) a.declared; means = λ m. ap (with_binding (as_binding (function_known f)) m) (a.means m) }
alike_front (definition_as n xs body t) bs cs a = record { declared = a.declared; means = λ m. ap (with_binding (as_binding (definition_as n xs body t)) m) (a.means m) }
alike_front (named_as names f t ls) bs cs a = record { declared = a.declared; means = λ m. ap (with_binding (as_binding (named_as names f t ls)) m) (a.means m) }
alike_front level_known bs cs a = record { declared = a.declared; means = λ m. ap (with_binding (as_binding level_known) m) (a.means m) }

sound_alike : (ns : List Name) (s : Supply) (b : ReadBinding) (bs cs : List ReadBinding) → Alike cs bs → BindingSound ns s bs b → BindingSound ns s cs b
sound_alike ns s (sort_known n r) bs cs a h = h
sound_alike ns s (function_known f) bs cs a h = h
sound_alike ns s (definition_as n xs body t) bs cs a h =
    (h.0, h.1, λ m ds d own given. ap (λ E. mean body (with_arguments xs ds E) m) (a.means m) ∙ h.2 m ds d (subst (λ gs. Unassigned gs d) a.declared own) given)
sound_alike ns s (named_as names f t ls) bs cs a h =
    (h.0, h.1, λ m d own. ap (λ E. mean f (with_locals (map as_local ls) m E) m) (a.means m) ∙ h.2 m d (subst (λ gs. Unassigned gs d) a.declared own))
sound_alike ns s level_known bs cs a h = tt

pub alike_merged : (n : ℕ) (bs : List ReadBinding) → Alike (merged is_level_known n bs) bs
alike_merged n [] = record { declared = refl; means = λ m. refl }
alike_merged zero (b ∷ bs) = record { declared = refl; means = λ m. refl }
alike_merged (suc n) (level_known ∷ bs) = let a : Alike (merged is_level_known n bs) bs = alike_merged n bs in record { declared = a.declared; means = a.means }
alike_merged (suc n) (b ∷ bs) = alike_front b (merged is_level_known (suc n) bs) bs (alike_merged (suc n) bs)

pub built_merged : (ns : List Name) (s : Supply) (n : ℕ) (bs : List ReadBinding) → Built ns s bs → Built ns s (merged is_level_known n bs)
built_merged ns s n [] built = tt
built_merged ns s zero (b ∷ bs) built = built
built_merged ns s (suc n) (level_known ∷ bs) built = built_merged ns s n bs built.1
built_merged ns s (suc n) (b ∷ bs) built =
    (sound_alike ns s b bs (merged is_level_known (suc n) bs) (alike_merged (suc n) bs) built.0, built_merged ns s (suc n) bs built.1)

pub alike_flattened : (bs : List ReadBinding) → Alike (flattened is_level_known bs) bs
alike_flattened [] = record { declared = refl; means = λ m. refl }
alike_flattened (level_known ∷ bs) = let a : Alike (flattened is_level_known bs) bs = alike_flattened bs in record { declared = a.declared; means = a.means }
alike_flattened (b ∷ bs) = alike_front b (flattened is_level_known bs) bs (alike_flattened bs)

pub built_flattened : (ns : List Name) (s : Supply) (bs : List ReadBinding) → Built ns s bs → Built ns s (flattened is_level_known bs)
built_flattened ns s [] built = tt
built_flattened ns s (level_known ∷ bs) built = built_flattened ns s bs built.1
built_flattened ns s (b ∷ bs) built = (sound_alike ns s b bs (flattened is_level_known bs) (alike_flattened bs) built.0, built_flattened ns s bs built.1)

pub built_popped : (ns : List Name) (s : Supply) (global : Bool) (n : ℕ) (bs : List ReadBinding) → Built ns s bs → Built ns s (popped is_level_known global n bs)
built_popped ns s true n bs built = built_merged ns s n bs built
built_popped ns s false n bs built = built_closed ns s n bs built

pub built_emptied : (ns : List Name) (s : Supply) (global : Bool) (bs : List ReadBinding) → Built ns s bs → Built ns s (emptied is_level_known global bs)
built_emptied ns s true bs built = built_flattened ns s bs built
built_emptied ns s false bs built = tt
