-- The terms that reading gives have clear names, and their free symbols are declared or stand for local names.
use Rattle.std.proofs.Common.{◌≡◌, ◌≢◌, ◌∙◌, sym, subst, refl, ℕ, Bool, true, false, not, cond, ◌||◌, ◌⊎◌, inl, inr, List, [], ◌∷◌, ◌++◌, map, Option, Some, None, Result, Ok, Err}
use Rattle.std.specs.Prelude.{⊤, reverse}
use Rattle.smt_lex.specs.Names.{Name, is_among as is_among_names}
use Rattle.smt_lex.specs.Lex.{Token}
use Rattle.smt_lex.specs.Forms.{Form, atom, node, Forms, none, ◌⨾◌}
use Rattle.smt_terms.specs.Equal.{name_eq, symbol_eq}
use Rattle.smt_terms.specs.Free.{is_among, free}
use Rattle.smt_terms.specs.Fresh.{Supply}
use Rattle.smt_terms.specs.Rank.{Fault, rank}
use Rattle.smt_terms.specs.Shapes.{is_seen}
use Rattle.smt_terms.specs.Sorts.{Sort, bool, Symbol, Variable}
use Rattle.smt_terms.specs.Subst.{expand}
use Rattle.smt_terms.specs.SubstLaws.{names_within, names_within_each, GivesNone}
use Rattle.smt_terms.specs.Term.{Quantifier, symbol, const_array, Term, quantified, terms, over, constant_of, constant}
use Rattle.smt_terms.specs.Written.{written_rank, build}
use Rattle.smt_terms.proofs.Among.{is_among-without}
use Rattle.smt_terms.proofs.ClearTerms.{clear_wider, constants-append, constants-reverse, Apart, apart_front}
use Rattle.smt_terms.proofs.Equal.{Decides-symbol_eq, name_same, symbol_itself}
use Rattle.smt_terms.proofs.Tests.{both_true, either_true, left_true, right_true, not_true, contrary}
use Rattle.script_terms.specs.declared.causes.Cause.TheVariants.{WrongSort, BadForm}
use Rattle.script_terms.specs.Heads.{atom_term, vector_constant, Callee, written, array_of_sort, called, defined, operandless, callee_of, term_algebra, operand_sorts, where_ranked, parameters_from, expanded, rank_of_arguments, applied}
use Rattle.script_read.specs.Mean.{mean}
use Rattle.script_terms.specs.Parts.{Opening, let_word, quantifier_word, annotation_word, index_word, head, opening, place_of, symbol_in, are_attributes, named_parts}
use Rattle.script_terms.specs.Read.{Context, with_local, is_empty, let_name, constant_names, is_taken, draws_names, with_quantified, below_quantifier, renamed, has_sort, quantified_over, term_names, local_constants, mentions_local, annotated, read, read_list, read_bindings, read_all}
use Rattle.script_terms.specs.Reading.{ReadLocal, lets_as, quantified_as, ReadBinding, sort_known, function_known, definition_as, named_as, level_known, Sofar, Entry, symbol_entry, definition_entry, term_entry, entry_of, live_sorts, term_among, term_or, bound_as, constant_as, Reading, ◌>>=◌, gives, by_live, binds}
use Rattle.script_terms.specs.Refusals.{unless}
use Rattle.script_terms.specs.Scope.{or_later}
use Rattle.script_terms.specs.Variables.{quantifier_binder, variables_in}
use Rattle.script_read.proofs.Agreeing.{variable_as, moves_both}
use Rattle.script_read.proofs.Calling.{CalleeSound, callee_read}
use Rattle.script_read.proofs.ClearBuilt.{ClearTerm, ClearEach, clear_more, in_left, in_right, in_either, each_clear, none_clear, number_clear, head_clear, symbol_clear, constant_clear, build_clear, expand_clear}
use Rattle.script_terms.proofs.NameFacts.{Within, AllWithin}
use Rattle.script_read.proofs.Fitting.{declared_of, Sound, Moves, Reads, ReadsAll, ReadsBindings, Ready}
use Rattle.script_terms.proofs.NameFacts.{spared_later, spared_both}
use Rattle.script_read.proofs.Naming.{none_of}
use Rattle.script_terms.proofs.Outcomes.{ok_same}
use Rattle.script_read.proofs.Quantifying.{Known, Renames, renames}
use Rattle.script_terms.proofs.SortFacts.{VariablesRead, variables_read, unless_passed}
use Rattle.script_read.proofs.Sources.{entry_alone, AtomSource, of_constant, of_local, of_entry, atom_source, entry_called, CalleeSource, of_operator, of_sort_form, of_nothing, of_live, callee_source}
use Rattle.script_read.proofs.TermsMean.{OnOk, then_on, on_rule, on_last, on_unless, on_given, on_refused, on_both, moves_supply, ready_later, ready_let, untaken, callee_later, vector_source, form_reads, bindings_read, all_read}

-- ---- what is known

abbrev pub EntryClear : List Symbol → Entry → Type 0
EntryClear fs (symbol_entry f) = is_among fs f ≡ true
EntryClear fs (definition_entry xs t) = ClearTerm (parameters_from 0 xs ++ fs) t
EntryClear fs (term_entry t) = ClearTerm fs t

-- what is known of a binding in front of others that declare these symbols
abbrev pub BindingClear : List Symbol → ReadBinding → Type 0
BindingClear fs (sort_known n r) = ⊤
BindingClear fs (function_known f) = (g : Symbol) → is_among fs g ≡ true → f.name ≢ g.name
BindingClear fs (definition_as n xs body t) = ClearTerm (parameters_from 0 xs ++ fs) t
BindingClear fs (named_as names f t ls) = ClearTerm fs t
BindingClear fs level_known = ⊤

abbrev pub AllClear : List ReadBinding → Type 0
AllClear [] = ⊤
AllClear (b ∷ bs) = BindingClear (declared_of bs) b × AllClear bs

entry_more : (fs gs : List Symbol) → ((g : Symbol) → is_among fs g ≡ true → is_among gs g ≡ true) → (x : Entry) → EntryClear fs x → EntryClear gs x
entry_more fs gs more (symbol_entry f) h = more f h
entry_more fs gs more (definition_entry xs t) h = clear_more (parameters_from 0 xs ++ fs) (parameters_from 0 xs ++ gs) t (λ g among. either g (in_either (parameters_from 0 xs) fs g among)) h
  where
    either : (g : Symbol) → (is_among (parameters_from 0 xs) g ≡ true) ⊎ (is_among fs g ≡ true) → is_among (parameters_from 0 xs ++ gs) g ≡ true
    either g (inl k) = in_left (parameters_from 0 xs) gs g k
    either g (inr k) = in_right (parameters_from 0 xs) gs g (more g k)
entry_more fs gs more (term_entry t) h = clear_more fs gs t more h

front_clear : (fs : List Symbol) (y x : Entry) (b : Bool) (o : Option Entry) → or_later b y o ≡ Some x → EntryClear fs y → (o ≡ Some x → EntryClear fs x) → EntryClear fs x
front_clear fs y x true o h here below = let same : y ≡ x = cc in subst (EntryClear fs) same here
front_clear fs y x false o h here below = below h

pub entry_clear : (bs : List ReadBinding) → AllClear bs → (n : Name) (x : Entry) → entry_of bs n ≡ Some x → EntryClear (declared_of bs) x
entry_clear [] all n x h = absurd cc
entry_clear (sort_known k r ∷ bs) all n x h = entry_clear bs all.1 n x h
entry_clear (function_known f ∷ bs) all n x h =
    front_clear (f ∷ declared_of bs) (symbol_entry f) x (name_eq f.name n) (entry_of bs n) h (left_true (symbol_eq f f) (is_among (declared_of bs) f) (symbol_itself f))
    (λ k. entry_more (declared_of bs) (f ∷ declared_of bs) (λ g among. right_true (symbol_eq f g) (is_among (declared_of bs) g) among) x (entry_clear bs all.1 n x k))
entry_clear (definition_as j xs body t ∷ bs) all n x h = front_clear (declared_of bs) (definition_entry xs t) x (name_eq j n) (entry_of bs n) h all.0 (λ k. entry_clear bs all.1 n x k)
entry_clear (named_as names f t ls ∷ bs) all n x h = front_clear (declared_of bs) (term_entry t) x (is_among_names names n) (entry_of bs n) h all.0 (λ k. entry_clear bs all.1 n x k)
entry_clear (level_known ∷ bs) all n x h = entry_clear bs all.1 n x h

pub declared_apart : (bs : List ReadBinding) → AllClear bs → Apart (declared_of bs)
declared_apart [] all = λ g h a b same. absurd cc
declared_apart (sort_known k r ∷ bs) all = declared_apart bs all.1
declared_apart (function_known f ∷ bs) all = apart_front f (declared_of bs) (declared_apart bs all.1) all.0
declared_apart (definition_as j xs body t ∷ bs) all = declared_apart bs all.1
declared_apart (named_as names f t ls ∷ bs) all = declared_apart bs all.1
declared_apart (level_known ∷ bs) all = declared_apart bs all.1

-- ---- local names

abbrev pub TermsClear : List Symbol → List ReadLocal → Type 0
TermsClear fs ls = (n : Name) (t : Term) → bound_as ls n ≡ Some t → ClearTerm (local_constants ls ++ fs) t

pub record LocalsClear (fs : List Symbol) (ls : List ReadLocal) : Type 0 where
  pub terms : TermsClear fs ls
  pub apart : Apart (local_constants ls ++ fs)

-- a constant in front of the local ones
pub constant_terms : (fs : List Symbol) (ls : List ReadLocal) (x : Variable) (m n : Name) (t : Term) (b : Bool) → TermsClear fs ls → cond b (Some (constant_as x m)) (bound_as ls n) ≡ Some t → ClearTerm (constant_of (variable_as x m) ∷ (local_constants ls ++ fs)) t
constant_terms fs ls x m n t true terms_are h =
    let same : constant_as x m ≡ t = cc in
    subst (ClearTerm (constant_of (variable_as x m) ∷ (local_constants ls ++ fs))) same
    (constant_clear (constant_of (variable_as x m) ∷ (local_constants ls ++ fs)) (constant_of (variable_as x m)) (left_true (symbol_eq (constant_of (variable_as x m)) (constant_of (variable_as x m))) (is_among (local_constants ls ++ fs) (constant_of (variable_as x m))) (symbol_itself (constant_of (variable_as x m)))))
constant_terms fs ls x m n t false terms_are h =
    clear_more (local_constants ls ++ fs) (constant_of (variable_as x m) ∷ (local_constants ls ++ fs)) t (λ g among. right_true (symbol_eq (constant_of (variable_as x m)) g) (is_among (local_constants ls ++ fs) g) among) (terms_are n t h)

quantified_terms : (fs : List Symbol) (xs : List Variable) (names : List Name) (ls : List ReadLocal) → TermsClear fs ls → TermsClear fs (with_quantified xs names ls)
quantified_terms fs [] names ls terms_are = terms_are
quantified_terms fs (x ∷ xs) [] ls terms_are = terms_are
quantified_terms fs (x ∷ xs) (m ∷ names) ls terms_are = quantified_terms fs xs names (quantified_as x m ∷ ls) (λ n t h. constant_terms fs ls x m n t (name_eq x.name n) terms_are h)

-- the constants below a quantifier are the new ones and those around
kept_constant : (xs : List Variable) (names : List Name) (ls : List ReadLocal) (g : Symbol) → is_among (local_constants ls) g ≡ true → is_among (local_constants (with_quantified xs names ls)) g ≡ true
kept_constant [] names ls g h = h
kept_constant (x ∷ xs) [] ls g h = h
kept_constant (x ∷ xs) (m ∷ names) ls g h = kept_constant xs names (quantified_as x m ∷ ls) g (right_true (symbol_eq (constant_of (variable_as x m)) g) (is_among (local_constants ls) g) h)

new_constant : (xs : List Variable) (names : List Name) (ls : List ReadLocal) (g : Symbol) → is_among (map constant_of (renamed xs names)) g ≡ true → is_among (local_constants (with_quantified xs names ls)) g ≡ true
new_constant [] names ls g h = absurd cc
new_constant (x ∷ xs) [] ls g h = absurd cc
new_constant (x ∷ xs) (m ∷ names) ls g h = go (either_true (symbol_eq (constant_of (variable_as x m)) g) (is_among (map constant_of (renamed xs names)) g) h) (new_constant xs names (quantified_as x m ∷ ls) g)
  where
    go : (symbol_eq (constant_of (variable_as x m)) g ≡ true) ⊎ (is_among (map constant_of (renamed xs names)) g ≡ true) → (is_among (map constant_of (renamed xs names)) g ≡ true → is_among (local_constants (with_quantified xs names (quantified_as x m ∷ ls))) g ≡ true) → is_among (local_constants (with_quantified xs names (quantified_as x m ∷ ls))) g ≡ true
    go (inl e) below = kept_constant xs names (quantified_as x m ∷ ls) g (left_true (symbol_eq (constant_of (variable_as x m)) g) (is_among (local_constants ls) g) e)
    go (inr e) below = below e

old_or_new : (xs : List Variable) (names : List Name) (ls : List ReadLocal) (g : Symbol) → is_among (local_constants (with_quantified xs names ls)) g ≡ true → (is_among (map constant_of (renamed xs names)) g ≡ true) ⊎ (is_among (local_constants ls) g ≡ true)
old_or_new [] names ls g h = inr h
old_or_new (x ∷ xs) [] ls g h = inr h
old_or_new (x ∷ xs) (m ∷ names) ls g h = go (old_or_new xs names (quantified_as x m ∷ ls) g h)
  where
    split : (symbol_eq (constant_of (variable_as x m)) g ≡ true) ⊎ (is_among (local_constants ls) g ≡ true) → ((symbol_eq (constant_of (variable_as x m)) g || is_among (map constant_of (renamed xs names)) g) ≡ true) ⊎ (is_among (local_constants ls) g ≡ true)
    split (inl e) = inl (left_true (symbol_eq (constant_of (variable_as x m)) g) (is_among (map constant_of (renamed xs names)) g) e)
    split (inr e) = inr e

    go : (is_among (map constant_of (renamed xs names)) g ≡ true) ⊎ (is_among (local_constants (quantified_as x m ∷ ls)) g ≡ true) → ((symbol_eq (constant_of (variable_as x m)) g || is_among (map constant_of (renamed xs names)) g) ≡ true) ⊎ (is_among (local_constants ls) g ≡ true)
    go (inl e) = inl (right_true (symbol_eq (constant_of (variable_as x m)) g) (is_among (map constant_of (renamed xs names)) g) e)
    go (inr e) = split (either_true (symbol_eq (constant_of (variable_as x m)) g) (is_among (local_constants ls) g) e)

-- symbols of different names are seen below their own variables
seen_among : (gs : List Symbol) → Apart gs → (ws : List Variable) → ((h : Symbol) → is_among (map constant_of ws) h ≡ true → is_among gs h ≡ true) → (g : Symbol) → is_among gs g ≡ true → is_seen ws g ≡ true
seen_among gs apart [] known g among = refl
seen_among gs apart (y ∷ ws) known g among = go (name_eq y.name g.name) refl (seen_among gs apart ws (λ h k. known h (right_true (symbol_eq (constant_of y) h) (is_among (map constant_of ws) h) k)) g among)
  where
    go : (b : Bool) → name_eq y.name g.name ≡ b → is_seen ws g ≡ true → elim b as (λ _. Bool) [ true ↦ symbol_eq (constant_of y) g | false ↦ is_seen ws g ] ≡ true
    go true e below =
        (Decides-symbol_eq (constant_of y) g).1
        (apart (constant_of y) g (known (constant_of y) (left_true (symbol_eq (constant_of y) (constant_of y)) (is_among (map constant_of ws) (constant_of y)) (symbol_itself (constant_of y)))) among (name_same y.name g.name e))
    go false e below = below

-- ---- readings

pub record ClearRead (gs : List Symbol) (p : Term × Sofar) : Type 0 where
  pub term : ClearTerm gs p.0
  pub live : AllClear p.1.live

record ClearAll (gs : List Symbol) (p : List Term × Sofar) : Type 0 where
  terms_are : ClearEach gs (terms p.0)
  live : AllClear p.1.live

record ClearBindings (gs : List Symbol) (p : List (Name × Term) × Sofar) : Type 0 where
  terms_are : (n : Name) (t : Term) → term_among p.0 n ≡ Some t → ClearTerm gs t
  live : AllClear p.1.live

alone_clear : (fs gs : List Symbol) (x : Entry) (r : Term) → ((g : Symbol) → is_among fs g ≡ true → is_among gs g ≡ true) → EntryClear fs x → entry_alone x ≡ Some r → ClearTerm gs r
alone_clear fs gs (symbol_entry f) r more fine h = let same : constant f ≡ r = cc in subst (ClearTerm gs) same (constant_clear gs f (more f fine))
alone_clear fs gs (definition_entry [] t) r more fine h = let same : t ≡ r = cc in subst (ClearTerm gs) same (clear_more fs gs t more fine)
alone_clear fs gs (definition_entry (x ∷ xs) t) r more fine h = absurd cc
alone_clear fs gs (term_entry t) r more fine h = let same : t ≡ r = cc in subst (ClearTerm gs) same (clear_more fs gs t more fine)

abbrev CalleeClear : List Symbol → Callee → Type 0
CalleeClear fs (called f) = is_among fs f ≡ true
CalleeClear fs (defined xs t) = ClearTerm (parameters_from 0 xs ++ fs) t
CalleeClear fs _ = ⊤

called_clear : (fs : List Symbol) (x : Entry) → EntryClear fs x → CalleeClear fs (entry_called x)
called_clear fs (symbol_entry f) fine = fine
called_clear fs (definition_entry xs t) fine = fine
called_clear fs (term_entry t) fine = tt

module _ (ns : List Name) (fs : List Symbol) where
  abbrev scope : List ReadLocal → List Symbol
  scope ls = local_constants ls ++ fs

  abbrev FormClear : Form → Type 0
  FormClear f = (c : Context) (s : Sofar) → Ready ns fs c.locals s → LocalsClear fs c.locals → AllClear s.live → OnOk (ClearRead (scope c.locals)) (read f c s)

  abbrev BindingsClear : Forms → Type 0
  BindingsClear bs = (earlier : List Name) (c : Context) (s : Sofar) → Ready ns fs c.locals s → LocalsClear fs c.locals → AllClear s.live → OnOk (ClearBindings (scope c.locals)) (read_bindings bs earlier c s)

  abbrev FormsClear : Forms → Type 0
  FormsClear gs = (c : Context) (s : Sofar) → Ready ns fs c.locals s → LocalsClear fs c.locals → AllClear s.live → OnOk (ClearAll (scope c.locals)) (read_all gs c s)

  entry_at : (s : Sofar) → Sound ns fs s → AllClear s.live → (n : Name) (x : Entry) → entry_of s.live n ≡ Some x → EntryClear fs x
  entry_at s sound all n x h = subst (λ gs. EntryClear gs x) sound.declared (entry_clear s.live all n x h)

  atom_clear : (t : Token) → FormClear (atom t)
  atom_clear t c s ready locals all = on_last (atom_term c.locals t s.live) s (ClearRead (scope c.locals)) (λ r h. record { term = go r (atom_source c.locals s.live t r h); live = all })
    where
      go : (r : Term) → AtomSource c.locals s.live r → ClearTerm (scope c.locals) r
      go r (of_constant o e) = subst (ClearTerm (scope c.locals)) e (number_clear (scope c.locals) o)
      go r (of_local n e) = locals.terms n r e
      go r (of_entry n x entry e) = alone_clear fs (scope c.locals) x r (in_right (local_constants c.locals) fs) (entry_at s ready.sound all n x entry) e

  -- ---- `let`

  let_terms : (ls : List ReadLocal) (bs : Forms) (ts : List (Name × Term)) → TermsClear fs ls → ((n : Name) (t : Term) → term_among ts n ≡ Some t → ClearTerm (scope ls) t) → TermsClear fs (lets_as bs ts ∷ ls)
  let_terms ls bs ts old new n t h = go (term_among ts n) refl h
    where
      go : (o : Option Term) → term_among ts n ≡ o → term_or o (bound_as ls n) ≡ Some t → ClearTerm (scope ls) t
      go (Some u) e k = new n t (e ∙ k)
      go None e k = old n t k

  let_clear : (part place : ℕ) (bs : Forms) (body : Form) → AllWithin ns bs → BindingsClear bs → FormClear body → (c : Context) (s : Sofar) → Ready ns fs c.locals s → LocalsClear fs c.locals → AllClear s.live → OnOk (ClearRead (scope c.locals)) (read_list let_word (node part bs ⨾ body ⨾ none) place c s)
  let_clear part place bs body within bindings inner c s ready locals all =
      let Q : Term × Sofar → Type 0 = ClearRead (scope c.locals) in
      let P : List (Name × Term) × Sofar → Type 0 = λ p. ReadsBindings ns fs c.locals bs s p × ClearBindings (scope c.locals) p in
      let next : List (Name × Term) → Reading Term = λ ts. read body (with_local (lets_as bs ts) c) in
      on_unless (is_empty bs) BadForm place (read_bindings bs [] c >>= next) s Q (λ some.
      then_on (read_bindings bs [] c s) next P Q
      (on_both (read_bindings bs [] c s) (ReadsBindings ns fs c.locals bs s) (ClearBindings (scope c.locals)) (bindings_read bs ns fs within [] c s ready) (bindings [] c s ready locals all))
      (λ p b. inner (with_local (lets_as bs p.0) c) p.1 (ready_let ns fs c.locals bs s p ready b.0) (record { terms = let_terms c.locals bs p.0 locals.terms b.1.terms_are; apart = locals.apart }) b.1.live))

  -- ---- quantifiers

  quantified_clear : (q : Quantifier) (xs : List Variable) (names : List Name) (ls : List ReadLocal) (t : Term) → Apart (scope (with_quantified xs names ls)) → ClearTerm (scope (with_quantified xs names ls)) t → ClearTerm (scope ls) (quantified q (renamed xs names) t)
  quantified_clear q xs names ls t apart inner = record {
    clear = clear_wider t [] [] (reverse (renamed xs names) ++ []) inner.clear (λ g among unbound_name seen. seen_among (scope (with_quantified xs names ls)) apart (reverse (renamed xs names) ++ []) known g (inner.within g among));
    within = λ g among. outside g (both_true (is_among (free t) g) (not (is_among (map constant_of (renamed xs names)) g)) (sym (is_among-without (renamed xs names) (free t) g) ∙ among));
  }
    where
      known : (h : Symbol) → is_among (map constant_of (reverse (renamed xs names) ++ [])) h ≡ true → is_among (scope (with_quantified xs names ls)) h ≡ true
      known h among = in_left (local_constants (with_quantified xs names ls)) fs h (new_constant xs names ls h (back (either_true (is_among (map constant_of (reverse (renamed xs names))) h) false (sym (constants-append (reverse (renamed xs names)) [] h) ∙ among))))
        where
          back : (is_among (map constant_of (reverse (renamed xs names))) h ≡ true) ⊎ (false ≡ true) → is_among (map constant_of (renamed xs names)) h ≡ true
          back (inl e) = sym (constants-reverse (renamed xs names) h) ∙ e
          back (inr e) = absurd cc

      place_of_symbol : (g : Symbol) → not (is_among (map constant_of (renamed xs names)) g) ≡ true → (is_among (map constant_of (renamed xs names)) g ≡ true) ⊎ (is_among (local_constants ls) g ≡ true) → is_among (scope ls) g ≡ true
      place_of_symbol g free_of_it (inl e) = contrary (is_among (map constant_of (renamed xs names)) g) e (not_true (is_among (map constant_of (renamed xs names)) g) free_of_it)
      place_of_symbol g free_of_it (inr e) = in_left (local_constants ls) fs g e

      either_place : (g : Symbol) → not (is_among (map constant_of (renamed xs names)) g) ≡ true → (is_among (local_constants (with_quantified xs names ls)) g ≡ true) ⊎ (is_among fs g ≡ true) → is_among (scope ls) g ≡ true
      either_place g free_of_it (inl e) = place_of_symbol g free_of_it (old_or_new xs names ls g e)
      either_place g free_of_it (inr e) = in_right (local_constants ls) fs g e

      outside : (g : Symbol) → (is_among (free t) g ≡ true) × (not (is_among (map constant_of (renamed xs names)) g) ≡ true) → is_among (scope ls) g ≡ true
      outside g parts = either_place g parts.1 (in_either (local_constants (with_quantified xs names ls)) fs g (inner.within g parts.0))

  quantifier_clear : (q : Quantifier) (part place : ℕ) (bs : Forms) (body : Form) → AllWithin ns bs → FormClear body → (c : Context) (s : Sofar) → Ready ns fs c.locals s → LocalsClear fs c.locals → AllClear s.live → OnOk (ClearRead (scope c.locals)) (read_list (quantifier_word q) (node part bs ⨾ body ⨾ none) place c s)
  quantifier_clear q part place bs body within inner c s ready locals all =
      let closing : List Variable → List Name → Term → Reading Term = λ xs names t. quantified_over place q (renamed xs names) t in
      let after_names : List Variable → List Name → Reading Term = λ xs names. read body (below_quantifier xs names c) >>= (λ t. closing xs names t) in
      let after_variables : List Variable → Reading Term = λ xs. draws_names c xs >>= (λ names. after_names xs names) in
      on_unless (is_empty bs) BadForm place (by_live (λ known. variables_in quantifier_binder (live_sorts known) [] bs) >>= after_variables) s (ClearRead (scope c.locals)) (λ some.
      on_rule (variables_in quantifier_binder (live_sorts s.live) [] bs) after_variables s (ClearRead (scope c.locals)) (λ xs h. over_names c s ready locals all xs h))
    where
      over_names : (c : Context) (s : Sofar) → Ready ns fs c.locals s → LocalsClear fs c.locals → AllClear s.live → (xs : List Variable) → variables_in quantifier_binder (live_sorts s.live) [] bs ≡ Ok xs → OnOk (ClearRead (scope c.locals)) ((draws_names c xs >>= (λ names. read body (below_quantifier xs names c) >>= (λ t. quantified_over place q (renamed xs names) t))) s)
      over_names c s ready locals all xs h =
          let r : List Name × Supply = constant_names (is_taken c.locals s.live) xs s.supply in
          let variables : VariablesRead ns quantifier_binder [] xs = variables_read ns quantifier_binder (live_sorts s.live) [] bs xs ready.sound.sorts within h in
          let known : Known ns fs s.supply = record { text = ready.sound.text; symbols = λ g k. (ready.sound.symbols g k).0 } in
          let R : Renames ns fs xs s.supply c.locals r = renames ns fs (is_taken c.locals s.live) [] xs s.supply c.locals variables.sound known ready.locals (untaken ns fs c.locals s ready.sound) in
          let drawn_moves : Moves ns fs s (record s { supply = r.1 }) = moves_supply ns fs s r.1 R.later ready.sound in
          let apart : Apart (scope (with_quantified xs r.0 c.locals)) = R.apart locals.apart in
          then_on (read body (below_quantifier xs r.0 c) (record s { supply = r.1 })) (λ t. quantified_over place q (renamed xs r.0) t) (ClearRead (scope (with_quantified xs r.0 c.locals))) (ClearRead (scope c.locals))
          (inner (below_quantifier xs r.0 c) (record s { supply = r.1 }) (record { sound = drawn_moves.sound; locals = R.locals; lets = R.lets s.live ready.lets }) (record { terms = quantified_terms fs xs r.0 c.locals locals.terms; apart = apart }) all)
          (λ p b. on_last (unless (not (has_sort bool p.0)) WrongSort place (Ok (quantified q (renamed xs r.0) p.0))) p.1 (ClearRead (scope c.locals)) (λ u k.
          let (sorted, last) = unless_passed (not (has_sort bool p.0)) WrongSort place (Ok (quantified q (renamed xs r.0) p.0)) u k in
          record {
            term = subst (ClearTerm (scope c.locals)) (ok_same (quantified q (renamed xs r.0) p.0) u (Ok (quantified q (renamed xs r.0) p.0)) refl last) (quantified_clear q xs r.0 c.locals p.0 apart b.term);
            live = b.live;
          }))

  -- ---- annotations

  unmentioned : (ls : List ReadLocal) (t : Term) → mentions_local ls t ≡ false → ClearTerm (scope ls) t → ClearTerm fs t
  unmentioned ls t apart c = record { clear = c.clear; within = λ g among. go g among (in_either (local_constants ls) fs g (c.within g among)) }
    where
      go : (g : Symbol) → is_among (free t) g ≡ true → (is_among (local_constants ls) g ≡ true) ⊎ (is_among fs g ≡ true) → is_among fs g ≡ true
      go g among (inl e) = contrary (is_among (local_constants ls) g) e (none_of (λ f. is_among (local_constants ls) f) (free t) g apart among)
      go g among (inr e) = e

  annotated_clear : (place : ℕ) (f : Form) (c : Context) (s : Sofar) (p : Term × Sofar) (names : List Name) → Reads ns fs c.locals (λ E m. mean f E m) s p → ClearRead (scope c.locals) p → OnOk (ClearRead (scope c.locals)) (annotated place c f p.0 names p.1)
  annotated_clear place f c s p [] reads b = on_given (ClearRead (scope c.locals)) (p.0, p.1) (record { term = b.term; live = b.live })
  annotated_clear place f c s p (n ∷ names) reads b =
      on_unless (mentions_local c.locals p.0) BadForm place (binds (named_as (n ∷ names) f p.0 c.locals) p.0) p.1 (ClearRead (scope c.locals)) (λ apart.
      on_given (ClearRead (scope c.locals)) (p.0, record p.1 { live = named_as (n ∷ names) f p.0 c.locals ∷ p.1.live }) (record {
        term = b.term;
        live = (subst (λ gs. ClearTerm gs p.0) (sym reads.moves.sound.declared) (unmentioned c.locals p.0 apart b.term), b.live);
      }))

  annotation_clear : (place : ℕ) (f : Form) (attributes : Forms) → Within ns f → FormClear f → (c : Context) (s : Sofar) → Ready ns fs c.locals s → LocalsClear fs c.locals → AllClear s.live → OnOk (ClearRead (scope c.locals)) (read_list annotation_word (f ⨾ attributes) place c s)
  annotation_clear place f attributes within inner c s ready locals all =
      let Q : Term × Sofar → Type 0 = ClearRead (scope c.locals) in
      let P : Term × Sofar → Type 0 = λ p. Reads ns fs c.locals (λ E m. mean f E m) s p × ClearRead (scope c.locals) p in
      let naming : Term → List Name → Reading Term = λ t names. annotated place c f t names in
      let after_term : Term → Reading Term = λ t. by_live (term_names c.defines place [] (named_parts attributes)) >>= (λ names. naming t names) in
      on_unless (not (are_attributes attributes)) BadForm place (read f c >>= after_term) s Q (λ fine.
      then_on (read f c s) after_term P Q
      (on_both (read f c s) (Reads ns fs c.locals (λ E m. mean f E m) s) (ClearRead (scope c.locals)) (form_reads f ns fs within c s ready) (inner c s ready locals all)) (λ p b.
      on_rule (term_names c.defines place [] (named_parts attributes) p.1.live) (λ names. naming p.0 names) p.1 Q (λ names h.
      annotated_clear place f c s p names b.0 b.1)))

  -- ---- applications

  callee_clear : (s : Sofar) → Sound ns fs s → AllClear s.live → (ls : List ReadLocal) (f : Form) (k : Callee) → callee_of ls f s.live ≡ Ok k → CalleeClear fs k
  callee_clear s sound all ls f k h = go (callee_source ls s.live f k h)
    where
      go : CalleeSource s.live k → CalleeClear fs k
      go (of_operator w e) = subst (CalleeClear fs) e tt
      go (of_sort_form g to sorted e) = subst (CalleeClear fs) e tt
      go (of_nothing e) = subst (CalleeClear fs) e tt
      go (of_live n x entry e) = subst (CalleeClear fs) e (called_clear fs x (entry_at s sound all n x entry))

  ranked_clear : (gs : List Symbol) (place : ℕ) (r : Result Sort Fault) (t u : Term) → ClearTerm gs t → where_ranked place r t ≡ Ok u → ClearTerm gs u
  ranked_clear gs place (Ok to) t u fine h = subst (ClearTerm gs) (ok_same t u (Ok t) refl h) fine
  ranked_clear gs place (Err e) t u fine h = absurd cc

  expanded_clear : (gs : List Symbol) (place : ℕ) (xs : List Variable) (t : Term) (ts : List Term) (r : Result Sort Fault) (s : Sofar) → ((g : Symbol) → is_among fs g ≡ true → is_among gs g ≡ true) → rank_of_arguments xs ts ≡ r → CalleeSound s.supply (defined xs t) → GivesNone s.supply (names_within_each (terms ts)) → ClearTerm (parameters_from 0 xs ++ fs) t → ClearEach gs (terms ts) → AllClear s.live → OnOk (ClearRead gs) (expanded place xs t ts r s)
  expanded_clear gs place xs t ts (Ok to) s more ranked sound spared body each all =
      on_given (ClearRead gs) ((expand (parameters_from 0 xs) t ts s.supply).0, record s { supply = (expand (parameters_from 0 xs) t ts s.supply).1 })
      (record { term = expand_clear fs gs s.supply xs t ts sound.1.0 to more sound.1.1 sound.2 sound.0 spared ranked body each; live = all })
  expanded_clear gs place xs t ts (Err e) s more ranked sound spared body each all = on_refused _ _

  applied_clear : (gs : List Symbol) (c : Callee) (place : ℕ) (ts : List Term) (s : Sofar) → ((g : Symbol) → is_among fs g ≡ true → is_among gs g ≡ true) → CalleeSound s.supply c → CalleeClear fs c → GivesNone s.supply (names_within_each (terms ts)) → ClearEach gs (terms ts) → AllClear s.live → OnOk (ClearRead gs) (applied c place ts s)
  applied_clear gs (written w) place ts s more sound fine spared each all =
      on_last (where_ranked place (written_rank w (operand_sorts ts)) (build term_algebra w ts)) s (ClearRead gs) (λ u h. record { term = ranked_clear gs place (written_rank w (operand_sorts ts)) (build term_algebra w ts) u (build_clear gs w ts each) h; live = all })
  applied_clear gs (array_of_sort to) place ts s more sound fine spared each all =
      on_last (where_ranked place (rank (const_array to) (operand_sorts ts)) (over (const_array to) ts)) s (ClearRead gs) (λ u h. record { term = ranked_clear gs place (rank (const_array to) (operand_sorts ts)) (over (const_array to) ts) u (head_clear gs (const_array to) (terms ts) (λ g among. no_head g among) refl each) h; live = all })
    where
      no_head : (g : Symbol) → false ≡ true → is_among gs g ≡ true
      no_head g e = absurd cc
  applied_clear gs (called f) place ts s more sound fine spared each all =
      on_last (where_ranked place (rank (symbol f) (operand_sorts ts)) (over (symbol f) ts)) s (ClearRead gs) (λ u h. record { term = ranked_clear gs place (rank (symbol f) (operand_sorts ts)) (over (symbol f) ts) u (symbol_clear gs f (terms ts) (more f fine) each) h; live = all })
  applied_clear gs (defined xs t) place ts s more sound fine spared each all = expanded_clear gs place xs t ts (rank_of_arguments xs ts) s more refl sound spared fine each all
  applied_clear gs operandless place ts s more sound fine spared each all = on_refused _ _

  application_clear : (place : ℕ) (f g : Form) (gs : Forms) → Within ns g → AllWithin ns gs → FormClear g → FormsClear gs → (c : Context) (s : Sofar) → Ready ns fs c.locals s → LocalsClear fs c.locals → AllClear s.live → OnOk (ClearRead (scope c.locals)) (read_list (head f) (g ⨾ gs) place c s)
  application_clear place f g gs within_first within_others first others c s ready locals all =
      let Q : Term × Sofar → Type 0 = ClearRead (scope c.locals) in
      let P : Term × Sofar → Type 0 = λ p. Reads ns fs c.locals (λ E m. mean g E m) s p × ClearRead (scope c.locals) p in
      let after_all : Callee → Term → List Term → Reading Term = λ callee t ts. applied callee place (t ∷ ts) in
      let after_first : Callee → Term → Reading Term = λ callee t. read_all gs c >>= (λ ts. after_all callee t ts) in
      on_rule (callee_of c.locals f s.live) (λ callee. read g c >>= (λ t. after_first callee t)) s Q (λ callee h.
      then_on (read g c s) (λ t. after_first callee t) P Q
      (on_both (read g c s) (Reads ns fs c.locals (λ E m. mean g E m) s) (ClearRead (scope c.locals)) (form_reads g ns fs within_first c s ready) (first c s ready locals all)) (λ p b.
      let after : Ready ns fs c.locals p.1 = ready_later ns fs c.locals s p.1 b.0.moves ready in
      let R : List Term × Sofar → Type 0 = λ q. ReadsAll ns fs c.locals gs p.1 q × ClearAll (scope c.locals) q in
      then_on (read_all gs c p.1) (λ ts. after_all callee p.0 ts) R Q
      (on_both (read_all gs c p.1) (ReadsAll ns fs c.locals gs p.1) (ClearAll (scope c.locals)) (all_read gs ns fs within_others c p.1 after) (others c p.1 after locals b.1.live)) (λ q b'.
      applied_clear (scope c.locals) callee place (p.0 ∷ q.0) q.1 (in_right (local_constants c.locals) fs)
      (callee_later ns fs s.supply q.1.supply callee (moves_both ns fs s p.1 q.1 b.0.moves b'.0.moves).later (callee_read ns fs c.locals s ready.sound f callee h).sound)
      (callee_clear s ready.sound all c.locals f callee h)
      (spared_both q.1.supply (names_within p.0) (names_within_each (terms q.0)) (spared_later p.1.supply q.1.supply (names_within p.0) b'.0.moves.later b.0.spared) b'.0.spared)
      (each_clear (scope c.locals) p.0 (terms q.0) b.1.term b'.1.terms_are) b'.1.live)))

  -- ---- lists

  binding_clear : (part : ℕ) (x f : Form) (bs : Forms) → Within ns f → FormClear f → BindingsClear bs → BindingsClear (node part (x ⨾ f ⨾ none) ⨾ bs)
  binding_clear part x f bs within inner others earlier c s ready locals all =
      let Q : List (Name × Term) × Sofar → Type 0 = ClearBindings (scope c.locals) in
      let P : Term × Sofar → Type 0 = λ p. Reads ns fs c.locals (λ E m. mean f E m) s p × ClearRead (scope c.locals) p in
      let after_others : Name → Term → List (Name × Term) → Reading (List (Name × Term)) = λ n t ts. gives ((n, t) ∷ ts) in
      let after_term : Name → Term → Reading (List (Name × Term)) = λ n t. read_bindings bs (n ∷ earlier) c >>= (λ ts. after_others n t ts) in
      on_rule (let_name earlier part (place_of x) (symbol_in x)) (λ n. read f c >>= (λ t. after_term n t)) s Q (λ n h.
      then_on (read f c s) (λ t. after_term n t) P Q
      (on_both (read f c s) (Reads ns fs c.locals (λ E m. mean f E m) s) (ClearRead (scope c.locals)) (form_reads f ns fs within c s ready) (inner c s ready locals all)) (λ p b.
      then_on (read_bindings bs (n ∷ earlier) c p.1) (λ ts. after_others n p.0 ts) (ClearBindings (scope c.locals)) Q (others (n ∷ earlier) c p.1 (ready_later ns fs c.locals s p.1 b.0.moves ready) locals b.1.live) (λ q b'.
      on_given Q ((n, p.0) ∷ q.0, q.1) (record { terms_are = λ k u e. pair_clear (scope c.locals) n p.0 q.0 k u (name_eq n k) b.1.term b'.terms_are e; live = b'.live }))))
    where
      pair_clear : (gs : List Symbol) (n : Name) (t : Term) (ts : List (Name × Term)) (k : Name) (u : Term) (b : Bool) → ClearTerm gs t → ((j : Name) (v : Term) → term_among ts j ≡ Some v → ClearTerm gs v) → cond b (Some t) (term_among ts k) ≡ Some u → ClearTerm gs u
      pair_clear gs n t ts k u true fine below e = let same : t ≡ u = cc in subst (ClearTerm gs) same fine
      pair_clear gs n t ts k u false fine below e = below k u e

  more_clear : (f : Form) (gs : Forms) → Within ns f → FormClear f → FormsClear gs → FormsClear (f ⨾ gs)
  more_clear f gs within inner others c s ready locals all =
      let Q : List Term × Sofar → Type 0 = ClearAll (scope c.locals) in
      let P : Term × Sofar → Type 0 = λ p. Reads ns fs c.locals (λ E m. mean f E m) s p × ClearRead (scope c.locals) p in
      let after_term : Term → Reading (List Term) = λ t. read_all gs c >>= (λ ts. gives (t ∷ ts)) in
      then_on (read f c s) after_term P Q
      (on_both (read f c s) (Reads ns fs c.locals (λ E m. mean f E m) s) (ClearRead (scope c.locals)) (form_reads f ns fs within c s ready) (inner c s ready locals all)) (λ p b.
      then_on (read_all gs c p.1) (λ ts. gives (p.0 ∷ ts)) (ClearAll (scope c.locals)) Q (others c p.1 (ready_later ns fs c.locals s p.1 b.0.moves ready) locals b.1.live) (λ q b'.
      on_given Q (p.0 ∷ q.0, q.1) (record { terms_are = each_clear (scope c.locals) p.0 (terms q.0) b.1.term b'.terms_are; live = b'.live })))

  index_clear : (place : ℕ) (gs : Forms) (c : Context) (s : Sofar) → AllClear s.live → OnOk (ClearRead (scope c.locals)) (read_list index_word gs place c s)
  index_clear place gs c s all = on_last (vector_constant place gs) s (ClearRead (scope c.locals)) (λ r h.
      let found = vector_source place gs r h in
      record { term = subst (ClearTerm (scope c.locals)) found.1 (number_clear (scope c.locals) found.0); live = all })

  no_bindings : (c : Context) (s : Sofar) → AllClear s.live → OnOk (ClearBindings (scope c.locals)) (read_bindings none [] c s)
  no_bindings c s all = on_given (ClearBindings (scope c.locals)) ([], s) (record { terms_are = λ n t h. nothing n t h; live = all })
    where
      nothing : (n : Name) (t : Term) → None ≡ Some t → ClearTerm (scope c.locals) t
      nothing n t h = absurd cc

mutual
  pub form_clear : (f : Form) (ns : List Name) (fs : List Symbol) → Within ns f → FormClear ns fs f
  form_clear (atom t) ns fs within c s ready locals all = atom_clear ns fs t c s ready locals all
  form_clear (node place none) ns fs within c s ready locals all = on_refused _ _
  form_clear (node place (f ⨾ gs)) ns fs within c s ready locals all = list_clear (opening f) gs ns fs place within.1 c s ready locals all

  list_clear : (o : Opening) (gs : Forms) (ns : List Name) (fs : List Symbol) (place : ℕ) → AllWithin ns gs → (c : Context) (s : Sofar) → Ready ns fs c.locals s → LocalsClear fs c.locals → AllClear s.live → OnOk (ClearRead (local_constants c.locals ++ fs)) (read_list o gs place c s)
  list_clear let_word (node part bs ⨾ body ⨾ none) ns fs place within c s ready locals all = let_clear ns fs part place bs body within.0 (bindings_clear bs ns fs within.0) (form_clear body ns fs within.1.0) c s ready locals all
  list_clear let_word _ ns fs place within c s ready locals all = on_refused _ _
  list_clear (quantifier_word q) (node part bs ⨾ body ⨾ none) ns fs place within c s ready locals all = quantifier_clear ns fs q part place bs body within.0 (form_clear body ns fs within.1.0) c s ready locals all
  list_clear (quantifier_word q) _ ns fs place within c s ready locals all = on_refused _ _
  list_clear annotation_word (f ⨾ attributes) ns fs place within c s ready locals all = annotation_clear ns fs place f attributes within.0 (form_clear f ns fs within.0) c s ready locals all
  list_clear annotation_word none ns fs place within c s ready locals all = on_refused _ _
  list_clear index_word gs ns fs place within c s ready locals all = index_clear ns fs place gs c s all
  list_clear (head f) (g ⨾ gs) ns fs place within c s ready locals all = application_clear ns fs place f g gs within.0 within.1 (form_clear g ns fs within.0) (all_clear gs ns fs within.1) c s ready locals all
  list_clear (head f) none ns fs place within c s ready locals all = on_refused _ _

  bindings_clear : (bs : Forms) (ns : List Name) (fs : List Symbol) → AllWithin ns bs → BindingsClear ns fs bs
  bindings_clear none ns fs within earlier c s ready locals all = no_bindings ns fs c s all
  bindings_clear (node part (x ⨾ f ⨾ none) ⨾ bs) ns fs within earlier c s ready locals all = binding_clear ns fs part x f bs within.0.1.0 (form_clear f ns fs within.0.1.0) (bindings_clear bs ns fs within.1) earlier c s ready locals all
  bindings_clear (f ⨾ bs) ns fs within earlier c s ready locals all = on_refused _ _

  all_clear : (gs : Forms) (ns : List Name) (fs : List Symbol) → AllWithin ns gs → FormsClear ns fs gs
  all_clear none ns fs within c s ready locals all = on_given (ClearAll (local_constants c.locals ++ fs)) ([], s) (record { terms_are = none_clear (local_constants c.locals ++ fs); live = all })
  all_clear (f ⨾ gs) ns fs within c s ready locals all = more_clear ns fs f gs within.0 (form_clear f ns fs within.0) (all_clear gs ns fs within.1) c s ready locals all
