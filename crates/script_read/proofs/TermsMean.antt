-- Reading a term keeps its meaning, in every state that comes later.
use Rattle.std.proofs.Common.{◌≡◌, ◌∙◌, sym, ap, subst, refl, ℕ, Bool, true, false, not, cond, ◌||◌, List, [], ◌∷◌, map, Option, Some, None, Result, Ok, Err}
use Rattle.std.specs.Prelude.{⊤, nat_le, nat_lt, ◌==◌, ◌^◌, if◌then◌else◌}
use Rattle.std.specs.List.{list_all}
use Rattle.smt_lex.specs.Names.{Name, is_among as is_among_names, is_reserved_for_let}
use Rattle.smt_lex.specs.Lex.{Token}
use Rattle.smt_lex.specs.Forms.{Form, atom, node, Forms, none, ◌⨾◌}
use Rattle.smt_terms.specs.declared.op.Op.{Op}
use Rattle.smt_terms.specs.declared.op.Op.TheVariants.{Bits}
use Rattle.smt_terms.specs.Equal.{name_eq}
use Rattle.smt_terms.specs.Free.{name_among, names_of}
use Rattle.smt_terms.specs.Fresh.{Supply}
use Rattle.smt_terms.specs.Models.{Model}
use Rattle.smt_terms.specs.Rank.{most_bits, sort_of, are_bindable}
use Rattle.smt_terms.specs.Sorts.{Sort, bool, Symbol, Variable}
use Rattle.smt_terms.specs.SubstLaws.{names_within, names_within_each, GivesNone, Later}
use Rattle.smt_terms.specs.Term.{Quantifier, op, Term, apply, quantified, none as no_terms, terms}
use Rattle.smt_terms.specs.Val.{Env, runs, val}
use Rattle.smt_terms.specs.Values.{is_true, truth}
use Rattle.smt_terms.proofs.Equal.{Decides-sort_eq}
use Rattle.smt_terms.proofs.Sorted.{sort_of-quantified}
use Rattle.smt_terms.proofs.Tests.{both_false}
use Rattle.script_terms.specs.declared.causes.Cause.{Cause}
use Rattle.script_terms.specs.declared.causes.Cause.TheVariants.{WrongSort, WidthLimit, BadIndex, BadForm, Redeclared, ReservedName}
use Rattle.script_terms.specs.Heads.{Callee, called, defined, is_vector_name, vector_of_width, vector_constant_of, vector_constant, callee_of, applied, atom_term}
use Rattle.script_read.specs.Laws.{denoted}
use Rattle.script_read.specs.Mean.{Denoted, Meaning, over_op, is_true_of, accepted_or, with_all, over_variables, quantified_variables, vector_means, index_means, head_means, quantifier_means, let_pair, mean, mean_list, mean_bindings, mean_all}
use Rattle.script_terms.specs.Parts.{Opening, let_word, quantifier_word, annotation_word, index_word, head, opening, place_of, symbol_in, numeral_in, vector_number, are_attributes, named_parts}
use Rattle.script_terms.specs.Read.{Context, with_local, is_empty, let_name, constant_names, is_taken, draws_names, with_quantified, below_quantifier, renamed, is_of_sort, has_sort, quantified_over, term_names, mentions_local, annotated, read, read_list, read_bindings, read_all}
use Rattle.script_terms.specs.Reading.{ReadLocal, lets_as, ReadBinding, sort_known, function_known, definition_as, named_as, level_known, Sofar, Entry, symbol_entry, definition_entry, term_entry, Reading, continued, ◌>>=◌, gives, refused_if, beside, by_live, binds, live_sorts, term_among, term_or, bound_as, is_declared, is_quantified}
use Rattle.script_terms.specs.Refusals.{Refused, at, unless}
use Rattle.script_terms.specs.Variables.{quantifier_binder, may_have, variables_in}
use Rattle.script_read.proofs.Agreeing.{moves_none, moves_both, agrees_before, lets_later, locals_later, agrees_let}
use Rattle.script_read.proofs.Applying.{AppliedRead, applied_read}
use Rattle.script_read.proofs.Calling.{atom_read, CalleeSound, CalleeRead, callee_read}
use Rattle.script_terms.proofs.NameFacts.{Within, AllWithin}
use Rattle.script_read.proofs.Fitting.{declared_of, Agrees, pairs_denoted, Origin, drawn, quantified as from_quantifier, internal, ConstantSound, LocalsSound, EntrySound, BindingSound, Built, Sound, Moves, Reads, ReadsAll, ReadsBindings, Ready}
use Rattle.script_terms.proofs.NameFacts.{spared_later, spared_both, spared_none}
use Rattle.script_read.proofs.Naming.{AreNew, names_new, named_moves}
use Rattle.script_terms.proofs.Outcomes.{ok_same}
use Rattle.script_read.proofs.Quantifying.{Known, Untaken, Renames, renames}
use Rattle.script_terms.proofs.QuantifiedNames.{names_bindable}
use Rattle.script_terms.proofs.SortFacts.{VariablesSound, VariablesRead, variables_read, variables_some, unless_passed}

-- ---- readings one behind the other

pub OnOk : {A : Type 0} → (A × Sofar → Type 0) → Result (A × Sofar) Refused → Type 0
OnOk P (Ok p) = P p
OnOk P (Err e) = ⊤

pub then_on : {A B : Type 0} (r : Result (A × Sofar) Refused) (next : A → Reading B) (P : A × Sofar → Type 0) (Q : B × Sofar → Type 0) → OnOk P r → ((p : A × Sofar) → P p → OnOk Q (next p.0 p.1)) → OnOk Q (continued next r)
unfolding OnOk
then_on (Ok p) next P Q h k = k p h
then_on (Err e) next P Q h k = tt

pub on_rule : {A B : Type 0} (r : Result A Refused) (next : A → Reading B) (s : Sofar) (Q : B × Sofar → Type 0) → ((a : A) → r ≡ Ok a → OnOk Q (next a s)) → OnOk Q (continued next (beside s r))
unfolding OnOk
on_rule (Ok a) next s Q k = k a refl
on_rule (Err e) next s Q k = tt

pub on_last : {A : Type 0} (r : Result A Refused) (s : Sofar) (Q : A × Sofar → Type 0) → ((a : A) → r ≡ Ok a → Q (a, s)) → OnOk Q (beside s r)
unfolding OnOk
on_last (Ok a) s Q k = k a refl
on_last (Err e) s Q k = tt

pub on_unless : {A : Type 0} (b : Bool) (cause : Cause) (place : ℕ) (next : Reading A) (s : Sofar) (Q : A × Sofar → Type 0) → (b ≡ false → OnOk Q (next s)) → OnOk Q (refused_if b cause place next s)
unfolding OnOk
on_unless true cause place next s Q k = tt
on_unless false cause place next s Q k = k refl

pub on_map : {A : Type 0} (r : Result (A × Sofar) Refused) (P Q : A × Sofar → Type 0) → ((p : A × Sofar) → P p → Q p) → OnOk P r → OnOk Q r
unfolding OnOk
on_map (Ok p) P Q k h = k p h
on_map (Err e) P Q k h = tt

pub on_both : {A : Type 0} (r : Result (A × Sofar) Refused) (P Q : A × Sofar → Type 0) → OnOk P r → OnOk Q r → OnOk (λ p. P p × Q p) r
unfolding OnOk
on_both (Ok p) P Q h k = (h, k)
on_both (Err e) P Q h k = tt

pub on_ok : {A : Type 0} (r : Result (A × Sofar) Refused) (Q : A × Sofar → Type 0) → ((p : A × Sofar) → r ≡ Ok p → Q p) → OnOk Q r
unfolding OnOk
on_ok (Ok p) Q k = k p refl
on_ok (Err e) Q k = tt

pub on_given : {A : Type 0} (Q : A × Sofar → Type 0) (p : A × Sofar) → Q p → OnOk Q (Ok p)
unfolding OnOk
on_given Q p h = h

pub on_refused : {A : Type 0} (Q : A × Sofar → Type 0) (e : Refused) → OnOk Q (Err e)
unfolding OnOk
on_refused Q e = tt

pub ok_on : {A : Type 0} (r : Result (A × Sofar) Refused) (Q : A × Sofar → Type 0) (p : A × Sofar) → OnOk Q r → r ≡ Ok p → Q p
unfolding OnOk
ok_on (Ok q) Q p h e = subst Q (ok_same q p (Ok q) refl e) h
ok_on (Err x) Q p h e = absurd cc

-- ---- states with fewer names left

pub entry_later : (s t : Supply) (x : Entry) → Later s t → EntrySound s x → EntrySound t x
entry_later s t (symbol_entry f) later h = later f.name h
entry_later s t (definition_entry xs u) later h = (spared_later s t (names_within u) later h.0, h.1, h.2)
entry_later s t (term_entry u) later h = spared_later s t (names_within u) later h

pub binding_later : (ns : List Name) (s t : Supply) (bs : List ReadBinding) (b : ReadBinding) → Later s t → BindingSound ns s bs b → BindingSound ns t bs b
binding_later ns s t bs (sort_known n r) later h = h
binding_later ns s t bs (function_known f) later h = h
binding_later ns s t bs (definition_as n xs body u) later h = (h.0, entry_later s t (definition_entry xs u) later h.1, h.2)
binding_later ns s t bs (named_as names f u ls) later h = (h.0, spared_later s t (names_within u) later h.1, h.2)
binding_later ns s t bs level_known later h = tt

pub built_later : (ns : List Name) (s t : Supply) (bs : List ReadBinding) → Later s t → Built ns s bs → Built ns t bs
built_later ns s t [] later h = tt
built_later ns s t (b ∷ bs) later h = (binding_later ns s t bs b later h.0, built_later ns s t bs later h.1)

pub moves_supply : (ns : List Name) (fs : List Symbol) (s : Sofar) (t : Supply) → Later s.supply t → Sound ns fs s → Moves ns fs s (record s { supply = t })
moves_supply ns fs s t later sound = record {
  entries = λ n x h. h;
  sorts = refl;
  later = later;
  sound = record {
    declared = sound.declared;
    entries = λ n x h. (entry_later s.supply t x later (sound.entries n x h).0, (sound.entries n x h).1);
    symbols = sound.symbols;
    text = spared_later s.supply t ns later sound.text;
    sorts = sound.sorts;
    meant = sound.meant;
    built = built_later ns s.supply t s.live later sound.built;
  };
}

pub ready_later : (ns : List Name) (fs : List Symbol) (ls : List ReadLocal) (s t : Sofar) → Moves ns fs s t → Ready ns fs ls s → Ready ns fs ls t
ready_later ns fs ls s t moves ready = record {
  sound = moves.sound;
  locals = locals_later ns fs s.supply t.supply ls moves.later ready.locals;
  lets = lets_later ns fs s t ls moves ready.lets;
}

-- ---- the sort that was tested

of_sort : (to : Sort) (o : Option Sort) → is_of_sort to o ≡ true → o ≡ Some to
of_sort to None h = absurd cc
of_sort to (Some r) h = ap Some ((Decides-sort_eq r to).0 h)

pub the_sort : (to : Sort) (t : Term) → not (has_sort to t) ≡ false → sort_of t ≡ Some to
the_sort to t h = of_sort to (sort_of t) (not_false (has_sort to t) h)
  where
    not_false : (b : Bool) → not b ≡ false → b ≡ true
    not_false true e = refl
    not_false false e = absurd cc

-- ---- bit vectors that are written with `_`

-- such a form is read as a constant
pub vector_source : (place : ℕ) (gs : Forms) (r : Term) → vector_constant place gs ≡ Ok r → (o : Op) × (apply (op o) no_terms ≡ r)
vector_source place (f ⨾ g ⨾ none) r h = of_parts (symbol_in f) (numeral_in g) h
  where
    of_width : (x n : ℕ) → vector_of_width place x n ≡ Ok r → (o : Op) × (apply (op o) no_terms ≡ r)
    of_width x n k =
        let (some, next) = unless_passed (n == 0) BadIndex place (unless (nat_lt most_bits n) WidthLimit place (unless (nat_le (2 ^ n) x) BadIndex place (Ok (apply (op (Bits n x)) no_terms)))) r k in
        let (few, last) = unless_passed (nat_lt most_bits n) WidthLimit place (unless (nat_le (2 ^ n) x) BadIndex place (Ok (apply (op (Bits n x)) no_terms))) r next in
        let (small, given) = unless_passed (nat_le (2 ^ n) x) BadIndex place (Ok (apply (op (Bits n x)) no_terms)) r last in
        (Bits n x, ok_same (apply (op (Bits n x)) no_terms) r (Ok (apply (op (Bits n x)) no_terms)) refl given)

    of_parts : (o : Option Name) (i : Option ℕ) → vector_constant_of place o i ≡ Ok r → (o : Op) × (apply (op o) no_terms ≡ r)
    of_parts (Some name) (Some n) k = tested (is_vector_name (Some name)) k
      where
        tested : (b : Bool) → (if b then vector_of_width place (vector_number name) n else at BadForm place) ≡ Ok r → (o : Op) × (apply (op o) no_terms ≡ r)
        tested true l = of_width (vector_number name) n l
        tested false l = absurd cc
    of_parts (Some name) None k = absurd cc
    of_parts None i k = absurd cc
vector_source place _ r h = absurd cc

vector_reads_width : (m : Model) (e : Env) (place x n : ℕ) (r : Term) → vector_of_width place x n ≡ Ok r → over_op m (Bits n x) [] ≡ denoted m e r
vector_reads_width m e place x n r h =
    let (some, next) = unless_passed (n == 0) BadIndex place (unless (nat_lt most_bits n) WidthLimit place (unless (nat_le (2 ^ n) x) BadIndex place (Ok (apply (op (Bits n x)) no_terms)))) r h in
    let (few, last) = unless_passed (nat_lt most_bits n) WidthLimit place (unless (nat_le (2 ^ n) x) BadIndex place (Ok (apply (op (Bits n x)) no_terms))) r next in
    let (small, given) = unless_passed (nat_le (2 ^ n) x) BadIndex place (Ok (apply (op (Bits n x)) no_terms)) r last in
    ap (denoted m e) (ok_same (apply (op (Bits n x)) no_terms) r (Ok (apply (op (Bits n x)) no_terms)) refl given)

vector_spared : (s : Supply) (place x n : ℕ) (r : Term) → vector_of_width place x n ≡ Ok r → GivesNone s (names_within r)
vector_spared s place x n r h =
    let (some, next) = unless_passed (n == 0) BadIndex place (unless (nat_lt most_bits n) WidthLimit place (unless (nat_le (2 ^ n) x) BadIndex place (Ok (apply (op (Bits n x)) no_terms)))) r h in
    let (few, last) = unless_passed (nat_lt most_bits n) WidthLimit place (unless (nat_le (2 ^ n) x) BadIndex place (Ok (apply (op (Bits n x)) no_terms))) r next in
    let (small, given) = unless_passed (nat_le (2 ^ n) x) BadIndex place (Ok (apply (op (Bits n x)) no_terms)) r last in
    subst (λ t. GivesNone s (names_within t)) (ok_same (apply (op (Bits n x)) no_terms) r (Ok (apply (op (Bits n x)) no_terms)) refl given) (spared_none s)

record VectorRead (gs : Forms) (r : Term) : Type 0 where
  means : (m : Model) (e : Env) → index_means m gs ≡ denoted m e r
  spared : (s : Supply) → GivesNone s (names_within r)

vector_read_of : (place : ℕ) (f g : Form) (o : Option Name) (i : Option ℕ) (r : Term) → symbol_in f ≡ o → numeral_in g ≡ i → vector_constant_of place o i ≡ Ok r → VectorRead (f ⨾ g ⨾ none) r
vector_read_of place f g (Some name) (Some n) r ef eg h = go (is_vector_name (Some name)) h
  where
    go : (b : Bool) → (if b then vector_of_width place (vector_number name) n else at BadForm place) ≡ Ok r → VectorRead (f ⨾ g ⨾ none) r
    go true k = record {
      means = λ m e. ap (λ o. vector_means m o (numeral_in g)) ef ∙ ap (λ i. vector_means m (Some name) i) eg ∙ vector_reads_width m e place (vector_number name) n r k;
      spared = λ s. vector_spared s place (vector_number name) n r k;
    }
    go false k = absurd cc
vector_read_of place f g (Some name) None r ef eg h = absurd cc
vector_read_of place f g None i r ef eg h = absurd cc

vector_read : (place : ℕ) (gs : Forms) (r : Term) → vector_constant place gs ≡ Ok r → VectorRead gs r
vector_read place (f ⨾ g ⨾ none) r h = vector_read_of place f g (symbol_in f) (numeral_in g) r refl refl h
vector_read place _ r h = absurd cc

-- ---- what is proved of each form, and of lists of forms

module _ (ns : List Name) (fs : List Symbol) where
  abbrev pub MeansAs : (Meaning → Model → Denoted) → Context → Sofar → Result (Term × Sofar) Refused → Type 0
  MeansAs means_at c s r = OnOk (Reads ns fs c.locals means_at s) r

  abbrev pub FormReads : Form → Type 0
  FormReads f = (c : Context) (s : Sofar) → Ready ns fs c.locals s → MeansAs (λ E m. mean f E m) c s (read f c s)

  abbrev pub BindingsRead : Forms → Type 0
  BindingsRead bs = (earlier : List Name) (c : Context) (s : Sofar) → Ready ns fs c.locals s → OnOk (ReadsBindings ns fs c.locals bs s) (read_bindings bs earlier c s)

  abbrev pub AllRead : Forms → Type 0
  AllRead gs = (c : Context) (s : Sofar) → Ready ns fs c.locals s → OnOk (ReadsAll ns fs c.locals gs s) (read_all gs c s)

  -- ---- atoms

  atom_reads : (t : Token) → FormReads (atom t)
  atom_reads t c s ready = on_last (atom_term c.locals t s.live) s (Reads ns fs c.locals (λ E m. mean (atom t) E m) s) (λ r h.
      let read = atom_read ns fs c.locals s ready.sound ready.locals t r h in
      record { moves = moves_none ns fs s ready.sound; spared = read.spared; means = λ m E e a. read.means m E e a })

  -- ---- `let`

  origin_let : (ls : List ReadLocal) (bs : Forms) (ts : List (Name × Term)) (n : Name) → Origin ns ls n → Origin ns (lets_as bs ts ∷ ls) n
  origin_let ls bs ts n (drawn h) = drawn h
  origin_let ls bs ts n (from_quantifier h) = from_quantifier h
  origin_let ls bs ts n (internal h) = internal h

  locals_let : (s : Supply) (ls : List ReadLocal) (bs : Forms) (ts : List (Name × Term)) → ((n : Name) (t : Term) → term_among ts n ≡ Some t → GivesNone s (names_within t)) → LocalsSound ns fs s ls → LocalsSound ns fs s (lets_as bs ts ∷ ls)
  locals_let s ls bs ts spared sound = record {
    terms = λ n t h. go n t (term_among ts n) refl h;
    constants = λ g h. let c : ConstantSound ns fs s ls g = sound.constants g h in record { spared = c.spared; undeclared = c.undeclared; origin = origin_let ls bs ts g.name c.origin };
  }
    where
      go : (n : Name) (t : Term) (o : Option Term) → term_among ts n ≡ o → term_or o (bound_as ls n) ≡ Some t → GivesNone s (names_within t)
      go n t (Some u) e h = spared n t (e ∙ h)
      go n t None e h = sound.terms n t h

  pub ready_let : (ls : List ReadLocal) (bs : Forms) (s : Sofar) (p : List (Name × Term) × Sofar) → Ready ns fs ls s → ReadsBindings ns fs ls bs s p → Ready ns fs (lets_as bs p.0 ∷ ls) p.1
  ready_let ls bs s p ready b = record {
    sound = b.moves.sound;
    locals = locals_let p.1.supply ls bs p.0 b.spared (locals_later ns fs s.supply p.1.supply ls b.moves.later ready.locals);
    lets = (λ m E e a. b.means m E e a, lets_later ns fs s p.1 ls b.moves ready.lets);
  }

  let_reads : (part place : ℕ) (bs : Forms) (body : Form) → BindingsRead bs → FormReads body → (c : Context) (s : Sofar) → Ready ns fs c.locals s → MeansAs (λ E m. mean_list let_word (node part bs ⨾ body ⨾ none) E m) c s (read_list let_word (node part bs ⨾ body ⨾ none) place c s)
  let_reads part place bs body bindings inner c s ready =
      let Q : Term × Sofar → Type 0 = Reads ns fs c.locals (λ E m. mean_list let_word (node part bs ⨾ body ⨾ none) E m) s in
      let next : List (Name × Term) → Reading Term = λ ts. read body (with_local (lets_as bs ts) c) in
      on_unless (is_empty bs) BadForm place (read_bindings bs [] c >>= next) s Q (λ some.
      then_on (read_bindings bs [] c s) next (ReadsBindings ns fs c.locals bs s) Q (bindings [] c s ready) (λ p b.
      on_map (read body (with_local (lets_as bs p.0) c) p.1) (Reads ns fs (lets_as bs p.0 ∷ c.locals) (λ E m. mean body E m) p.1) Q (λ q r. record {
        moves = moves_both ns fs s p.1 q.1 b.moves r.moves;
        spared = r.spared;
        means = λ m E e a.
            r.means m (with_all (mean_bindings bs E m) E) e
            (agrees_let m fs q.1.live c.locals e E bs p.0 (mean_bindings bs E m) (λ d a'. b.means m E d (agrees_before ns fs p.1 q.1 m c.locals d E r.moves a')) a);
      })
      (inner (with_local (lets_as bs p.0) c) p.1 (ready_let c.locals bs s p ready b))))

  -- ---- quantifiers

  declared_names : (bs : List ReadBinding) (n : Name) → is_declared bs n ≡ name_among (names_of (declared_of bs)) n
  declared_names [] n = refl
  declared_names (function_known f ∷ bs) n = ap (λ b. name_eq f.name n || b) (declared_names bs n)
  declared_names (_ ∷ bs) n = declared_names bs n

  pub untaken : (ls : List ReadLocal) (s : Sofar) → Sound ns fs s → Untaken fs [] ls (is_taken ls s.live)
  untaken ls s sound = record {
    undeclared = λ n h. ap (λ gs. name_among (names_of gs) n) (sym sound.declared) ∙ sym (declared_names s.live n) ∙ (both_false (is_declared s.live n) (is_quantified ls n) h).0;
    unquantified = λ n h other. (both_false (is_declared s.live n) (is_quantified ls n) h).1;
  }

  bindable : (live : List ReadBinding) (bs : Forms) (xs : List Variable) (taken : Name → Bool) (s : Supply) → is_empty bs ≡ false → variables_in quantifier_binder (live_sorts live) [] bs ≡ Ok xs → GivesNone s ns → VariablesSound ns [] xs → list_all (λ y. may_have quantifier_binder y.sort) xs ≡ true → are_bindable (renamed xs (constant_names taken xs s).0) ≡ true
  bindable live bs xs taken s some h text sound kinds =
      let found = variables_some quantifier_binder (live_sorts live) [] bs xs some h in
      subst (λ ys. VariablesSound ns [] ys → list_all (λ y. may_have quantifier_binder y.sort) ys ≡ true → are_bindable (renamed ys (constant_names taken ys s).0) ≡ true) found.2
      (λ v k. names_bindable ns taken found.0 found.1 s text v k) sound kinds

  quantifier_reads : (q : Quantifier) (part place : ℕ) (bs : Forms) (body : Form) → AllWithin ns bs → FormReads body → (c : Context) (s : Sofar) → Ready ns fs c.locals s → MeansAs (λ E m. mean_list (quantifier_word q) (node part bs ⨾ body ⨾ none) E m) c s (read_list (quantifier_word q) (node part bs ⨾ body ⨾ none) place c s)
  quantifier_reads q part place bs body within inner c s ready =
      let Q : Term × Sofar → Type 0 = Reads ns fs c.locals (λ E m. mean_list (quantifier_word q) (node part bs ⨾ body ⨾ none) E m) s in
      let closing : List Variable → List Name → Term → Reading Term = λ xs names t. quantified_over place q (renamed xs names) t in
      let after_names : List Variable → List Name → Reading Term = λ xs names. read body (below_quantifier xs names c) >>= (λ t. closing xs names t) in
      let after_variables : List Variable → Reading Term = λ xs. draws_names c xs >>= (λ names. after_names xs names) in
      on_unless (is_empty bs) BadForm place (by_live (λ live. variables_in quantifier_binder (live_sorts live) [] bs) >>= after_variables) s Q (λ some.
      on_rule (variables_in quantifier_binder (live_sorts s.live) [] bs) after_variables s Q (λ xs h. over c s ready some xs h))
    where
      over : (c : Context) (s : Sofar) → Ready ns fs c.locals s → is_empty bs ≡ false → (xs : List Variable) → variables_in quantifier_binder (live_sorts s.live) [] bs ≡ Ok xs → OnOk (Reads ns fs c.locals (λ E m. mean_list (quantifier_word q) (node part bs ⨾ body ⨾ none) E m) s) ((draws_names c xs >>= (λ names. read body (below_quantifier xs names c) >>= (λ t. quantified_over place q (renamed xs names) t))) s)
      over c s ready some xs h =
          let Q : Term × Sofar → Type 0 = Reads ns fs c.locals (λ E m. mean_list (quantifier_word q) (node part bs ⨾ body ⨾ none) E m) s in
          let r : List Name × Supply = constant_names (is_taken c.locals s.live) xs s.supply in
          let variables : VariablesRead ns quantifier_binder [] xs = variables_read ns quantifier_binder (live_sorts s.live) [] bs xs ready.sound.sorts within h in
          let known : Known ns fs s.supply = record { text = ready.sound.text; symbols = λ g k. (ready.sound.symbols g k).0 } in
          let R : Renames ns fs xs s.supply c.locals r = renames ns fs (is_taken c.locals s.live) [] xs s.supply c.locals variables.sound known ready.locals (untaken c.locals s ready.sound) in
          let drawn_moves : Moves ns fs s (record s { supply = r.1 }) = moves_supply ns fs s r.1 R.later ready.sound in
          then_on (read body (below_quantifier xs r.0 c) (record s { supply = r.1 })) (λ t. quantified_over place q (renamed xs r.0) t)
          (Reads ns fs (with_quantified xs r.0 c.locals) (λ E m. mean body E m) (record s { supply = r.1 })) Q
          (inner (below_quantifier xs r.0 c) (record s { supply = r.1 }) (record { sound = drawn_moves.sound; locals = R.locals; lets = R.lets s.live ready.lets }))
          (λ p b. on_last (unless (not (has_sort bool p.0)) WrongSort place (Ok (quantified q (renamed xs r.0) p.0))) p.1 Q (λ u k.
          let (sorted, last) = unless_passed (not (has_sort bool p.0)) WrongSort place (Ok (quantified q (renamed xs r.0) p.0)) u k in
          subst (λ v. Q (v, p.1)) (ok_same (quantified q (renamed xs r.0) p.0) u (Ok (quantified q (renamed xs r.0) p.0)) refl last) (record {
            moves = moves_both ns fs s (record s { supply = r.1 }) p.1 drawn_moves b.moves;
            spared = spared_both p.1.supply (map (λ x. x.name) (renamed xs r.0)) (names_within p.0) (spared_later r.1 p.1.supply (map (λ x. x.name) (renamed xs r.0)) b.moves.later R.spared) b.spared;
            means = λ m E e a.
                let same : quantified_variables E.sorts bs ≡ xs = ap (λ live. accepted_or [] (variables_in quantifier_binder live [] bs)) (a.sorts ∙ b.moves.sorts) ∙ ap (accepted_or []) h in
                let value : over_variables q xs m.sizes (λ E'. is_true_of (mean body E' m)) E ≡ runs q (renamed xs r.0) m.sizes (λ f. is_true (val m p.0 f)) e =
                R.runs q m p.1.live m.sizes (λ E'. is_true_of (mean body E' m)) (λ f. is_true (val m p.0 f)) (λ E' e' a'. ap is_true_of (b.means m E' e' a')) E e a in
                let sort : Some bool ≡ sort_of (quantified q (renamed xs r.0) p.0) =
                sym (sort_of-quantified q (renamed xs r.0) p.0 (bindable s.live bs xs (is_taken c.locals s.live) s.supply some h ready.sound.text variables.sound variables.kinds) (the_sort bool p.0 sorted)) in
                let both : quantifier_means q xs m.sizes (λ E'. mean body E' m) E ≡ denoted m e (quantified q (renamed xs r.0) p.0) = λ i. (truth (value i), sort i) in
                ap (λ ys. quantifier_means q ys m.sizes (λ E'. mean body E' m) E) same ∙ both;
          })))

  -- ---- annotations

  annotated_reads : (place : ℕ) (f : Form) (c : Context) (s : Sofar) (p : Term × Sofar) (names : List Name) → Ready ns fs c.locals s → Reads ns fs c.locals (λ E m. mean f E m) s p → AreNew p.1.live names → MeansAs (λ E m. mean f E m) c s (annotated place c f p.0 names p.1)
  annotated_reads place f c s p [] ready b new = on_given (Reads ns fs c.locals (λ E m. mean f E m) s) (p.0, p.1) (record { moves = b.moves; spared = b.spared; means = λ m E e a. b.means m E e a })
  annotated_reads place f c s p (n ∷ names) ready b new =
      let Q : Term × Sofar → Type 0 = Reads ns fs c.locals (λ E m. mean f E m) s in
      on_unless (mentions_local c.locals p.0) BadForm place (binds (named_as (n ∷ names) f p.0 c.locals) p.0) p.1 Q (λ apart.
      let moves : Moves ns fs p.1 (record p.1 { live = named_as (n ∷ names) f p.0 c.locals ∷ p.1.live }) = named_moves ns fs c.locals p.1 (ready_later ns fs c.locals s p.1 b.moves ready) f p.0 b.spared (λ m E e a. b.means m E e a) apart (n ∷ names) new in
      on_given Q (p.0, record p.1 { live = named_as (n ∷ names) f p.0 c.locals ∷ p.1.live }) (record {
        moves = moves_both ns fs s p.1 (record p.1 { live = named_as (n ∷ names) f p.0 c.locals ∷ p.1.live }) b.moves moves;
        spared = b.spared;
        means = λ m E e a. b.means m E e (agrees_before ns fs p.1 (record p.1 { live = named_as (n ∷ names) f p.0 c.locals ∷ p.1.live }) m c.locals e E moves a);
      }))

  annotation_reads : (place : ℕ) (f : Form) (attributes : Forms) → FormReads f → (c : Context) (s : Sofar) → Ready ns fs c.locals s → MeansAs (λ E m. mean_list annotation_word (f ⨾ attributes) E m) c s (read_list annotation_word (f ⨾ attributes) place c s)
  annotation_reads place f attributes inner c s ready =
      let Q : Term × Sofar → Type 0 = Reads ns fs c.locals (λ E m. mean f E m) s in
      let naming : Term → List Name → Reading Term = λ t names. annotated place c f t names in
      let after_term : Term → Reading Term = λ t. by_live (term_names c.defines place [] (named_parts attributes)) >>= (λ names. naming t names) in
      on_unless (not (are_attributes attributes)) BadForm place (read f c >>= after_term) s Q (λ fine.
      then_on (read f c s) after_term Q Q (inner c s ready) (λ p b.
      on_rule (term_names c.defines place [] (named_parts attributes) p.1.live) (λ names. naming p.0 names) p.1 Q (λ names h.
      annotated_reads place f c s p names ready b (names_new p.1.live c.defines place [] (named_parts attributes) names h))))

  -- ---- bit vectors that are written with `_`

  index_reads : (place : ℕ) (gs : Forms) (c : Context) (s : Sofar) → Ready ns fs c.locals s → MeansAs (λ E m. mean_list index_word gs E m) c s (read_list index_word gs place c s)
  index_reads place gs c s ready = on_last (vector_constant place gs) s (Reads ns fs c.locals (λ E m. mean_list index_word gs E m) s) (λ r h.
      let read : VectorRead gs r = vector_read place gs r h in
      record { moves = moves_none ns fs s ready.sound; spared = read.spared s.supply; means = λ m E e a. read.means m e })

  -- ---- applications

  pub callee_later : (s t : Supply) (k : Callee) → Later s t → CalleeSound s k → CalleeSound t k
  callee_later s t (called f) later h = later f.name h
  callee_later s t (defined xs u) later h = entry_later s t (definition_entry xs u) later h
  callee_later s t _ later h = tt

  application_reads : (place : ℕ) (f g : Form) (gs : Forms) → FormReads g → AllRead gs → (c : Context) (s : Sofar) → Ready ns fs c.locals s → MeansAs (λ E m. mean_list (head f) (g ⨾ gs) E m) c s (read_list (head f) (g ⨾ gs) place c s)
  application_reads place f g gs first others c s ready =
      let Q : Term × Sofar → Type 0 = Reads ns fs c.locals (λ E m. mean_list (head f) (g ⨾ gs) E m) s in
      let after_all : Callee → Term → List Term → Reading Term = λ callee t ts. applied callee place (t ∷ ts) in
      let after_first : Callee → Term → Reading Term = λ callee t. read_all gs c >>= (λ ts. after_all callee t ts) in
      on_rule (callee_of c.locals f s.live) (λ callee. read g c >>= (λ t. after_first callee t)) s Q (λ callee h.
      let called_read : CalleeRead fs s.live c.locals s.supply (λ E m. head_means f E m) callee = callee_read ns fs c.locals s ready.sound f callee h in
      then_on (read g c s) (λ t. after_first callee t) (Reads ns fs c.locals (λ E m. mean g E m) s) Q (first c s ready) (λ p b.
      then_on (read_all gs c p.1) (λ ts. after_all callee p.0 ts) (ReadsAll ns fs c.locals gs p.1) Q (others c p.1 (ready_later ns fs c.locals s p.1 b.moves ready)) (λ q b'.
      on_ok (applied callee place (p.0 ∷ q.0) q.1) Q (λ r k. finish c s callee called_read p b q b' r k))))
    where
      finish : (c : Context) (s : Sofar) (callee : Callee) → CalleeRead fs s.live c.locals s.supply (λ E m. head_means f E m) callee → (p : Term × Sofar) → Reads ns fs c.locals (λ E m. mean g E m) s p → (q : List Term × Sofar) → ReadsAll ns fs c.locals gs p.1 q → (r : Term × Sofar) → applied callee place (p.0 ∷ q.0) q.1 ≡ Ok r → Reads ns fs c.locals (λ E m. mean_list (head f) (g ⨾ gs) E m) s r
      finish c s callee called_read p b q b' r k =
          let operands : GivesNone q.1.supply (names_within_each (terms (p.0 ∷ q.0))) = spared_both q.1.supply (names_within p.0) (names_within_each (terms q.0)) (spared_later p.1.supply q.1.supply (names_within p.0) b'.moves.later b.spared) b'.spared in
          let sound : Sound ns fs q.1 = b'.moves.sound in
          let all_moves : Moves ns fs s q.1 = moves_both ns fs s p.1 q.1 b.moves b'.moves in
          let a : AppliedRead fs q.1 callee (p.0 ∷ q.0) r = applied_read ns fs q.1 sound callee place p.0 q.0 r (callee_later s.supply q.1.supply callee all_moves.later called_read.sound) operands k in
          let last_moves : Moves ns fs q.1 r.1 = subst (λ bs. Moves ns fs q.1 (record { live = bs; supply = r.1.supply })) (sym a.live) (moves_supply ns fs q.1 r.1.supply a.later sound) in
          record {
            moves = moves_both ns fs s q.1 r.1 all_moves last_moves;
            spared = a.spared;
            means = λ m E e agrees.
                let at_all : Agrees m fs q.1.live c.locals e E = agrees_before ns fs q.1 r.1 m c.locals e E last_moves agrees in
                let at_first : Agrees m fs p.1.live c.locals e E = agrees_before ns fs p.1 q.1 m c.locals e E b'.moves at_all in
                let at_head : Agrees m fs s.live c.locals e E = agrees_before ns fs s p.1 m c.locals e E b.moves at_first in
                let values : (mean g E m ∷ mean_all gs E m) ≡ map (denoted m e) (p.0 ∷ q.0) = λ i. b.means m E e at_first i ∷ b'.means m E e at_all i in
                ap (λ ds. head_means f E m ds) values ∙ a.means m (head_means f E m) e (called_read.means m E e at_head) agrees.own;
          }

  -- ---- names of a `let`

  let_name_in : (earlier : List Name) (part place : ℕ) (o : Option Name) (n : Name) → let_name earlier part place o ≡ Ok n → o ≡ Some n
  let_name_in earlier part place None n h = absurd cc
  let_name_in earlier part place (Some k) n h =
      let (allowed, next) = unless_passed (is_reserved_for_let k) ReservedName place (unless (is_among_names earlier k) Redeclared place (Ok k)) n h in
      let (other, last) = unless_passed (is_among_names earlier k) Redeclared place (Ok k) n next in
      ap Some (ok_same k n (Ok k) refl last)

  binding_reads : (part : ℕ) (x f : Form) (bs : Forms) → FormReads f → BindingsRead bs → BindingsRead (node part (x ⨾ f ⨾ none) ⨾ bs)
  binding_reads part x f bs inner others earlier c s ready =
      let Q : List (Name × Term) × Sofar → Type 0 = ReadsBindings ns fs c.locals (node part (x ⨾ f ⨾ none) ⨾ bs) s in
      let after_others : Name → Term → List (Name × Term) → Reading (List (Name × Term)) = λ n t ts. gives ((n, t) ∷ ts) in
      let after_term : Name → Term → Reading (List (Name × Term)) = λ n t. read_bindings bs (n ∷ earlier) c >>= (λ ts. after_others n t ts) in
      on_rule (let_name earlier part (place_of x) (symbol_in x)) (λ n. read f c >>= (λ t. after_term n t)) s Q (λ n h.
      then_on (read f c s) (λ t. after_term n t) (Reads ns fs c.locals (λ E m. mean f E m) s) Q (inner c s ready) (λ p b.
      then_on (read_bindings bs (n ∷ earlier) c p.1) (λ ts. after_others n p.0 ts) (ReadsBindings ns fs c.locals bs p.1) Q (others (n ∷ earlier) c p.1 (ready_later ns fs c.locals s p.1 b.moves ready)) (λ q b'.
      on_given Q ((n, p.0) ∷ q.0, q.1) (record {
        moves = moves_both ns fs s p.1 q.1 b.moves b'.moves;
        spared = λ k u e. names_of_pair n p q b b' k u (name_eq n k) e;
        means = λ m E e a.
            let first : mean f E m ≡ denoted m e p.0 = b.means m E e (agrees_before ns fs p.1 q.1 m c.locals e E b'.moves a) in
            let rest : mean_bindings bs E m ≡ pairs_denoted m e q.0 = b'.means m E e a in
            let both : ((n, mean f E m) ∷ mean_bindings bs E m) ≡ pairs_denoted m e ((n, p.0) ∷ q.0) = λ i. (n, first i) ∷ rest i in
            ap (λ o. let_pair o (mean f E m) (mean_bindings bs E m)) (let_name_in earlier part (place_of x) (symbol_in x) n h) ∙ both;
      }))))
    where
      names_of_pair : (n : Name) (p : Term × Sofar) (q : List (Name × Term) × Sofar) → Reads ns fs c.locals (λ E m. mean f E m) s p → ReadsBindings ns fs c.locals bs p.1 q → (k : Name) (u : Term) (b : Bool) → cond b (Some p.0) (term_among q.0 k) ≡ Some u → GivesNone q.1.supply (names_within u)
      names_of_pair n p q b b' k u true e = let same : p.0 ≡ u = cc in subst (λ t. GivesNone q.1.supply (names_within t)) same (spared_later p.1.supply q.1.supply (names_within p.0) b'.moves.later b.spared)
      names_of_pair n p q b b' k u false e = b'.spared k u e

  no_binding_reads : BindingsRead none
  no_binding_reads earlier c s ready = on_given (ReadsBindings ns fs c.locals none s) ([], s) (record { moves = moves_none ns fs s ready.sound; spared = λ n t h. nothing n t h; means = λ m E e a. refl })
    where
      nothing : (n : Name) (t : Term) → None ≡ Some t → GivesNone s.supply (names_within t)
      nothing n t h = absurd cc

  -- ---- operands

  all_reads_more : (f : Form) (gs : Forms) → FormReads f → AllRead gs → AllRead (f ⨾ gs)
  all_reads_more f gs inner others c s ready =
      let Q : List Term × Sofar → Type 0 = ReadsAll ns fs c.locals (f ⨾ gs) s in
      let after_term : Term → Reading (List Term) = λ t. read_all gs c >>= (λ ts. gives (t ∷ ts)) in
      then_on (read f c s) after_term (Reads ns fs c.locals (λ E m. mean f E m) s) Q (inner c s ready) (λ p b.
      then_on (read_all gs c p.1) (λ ts. gives (p.0 ∷ ts)) (ReadsAll ns fs c.locals gs p.1) Q (others c p.1 (ready_later ns fs c.locals s p.1 b.moves ready)) (λ q b'.
      on_given Q (p.0 ∷ q.0, q.1) (record {
        moves = moves_both ns fs s p.1 q.1 b.moves b'.moves;
        spared = spared_both q.1.supply (names_within p.0) (names_within_each (terms q.0)) (spared_later p.1.supply q.1.supply (names_within p.0) b'.moves.later b.spared) b'.spared;
        means = λ m E e a. (λ i. b.means m E e (agrees_before ns fs p.1 q.1 m c.locals e E b'.moves a) i ∷ b'.means m E e a i);
      })))

  no_reads : AllRead none
  no_reads c s ready = on_given (ReadsAll ns fs c.locals none s) ([], s) (record { moves = moves_none ns fs s ready.sound; spared = spared_none s.supply; means = λ m E e a. refl })

-- ---- the induction over forms

mutual
  pub form_reads : (f : Form) (ns : List Name) (fs : List Symbol) → Within ns f → FormReads ns fs f
  form_reads (atom t) ns fs within c s ready = atom_reads ns fs t c s ready
  form_reads (node place none) ns fs within c s ready = on_refused _ _
  form_reads (node place (f ⨾ gs)) ns fs within c s ready = list_reads (opening f) gs ns fs place within.1 c s ready

  list_reads : (o : Opening) (gs : Forms) (ns : List Name) (fs : List Symbol) (place : ℕ) → AllWithin ns gs → (c : Context) (s : Sofar) → Ready ns fs c.locals s → MeansAs ns fs (λ E m. mean_list o gs E m) c s (read_list o gs place c s)
  list_reads let_word (node part bs ⨾ body ⨾ none) ns fs place within c s ready = let_reads ns fs part place bs body (bindings_read bs ns fs within.0) (form_reads body ns fs within.1.0) c s ready
  list_reads let_word _ ns fs place within c s ready = on_refused _ _
  list_reads (quantifier_word q) (node part bs ⨾ body ⨾ none) ns fs place within c s ready = quantifier_reads ns fs q part place bs body within.0 (form_reads body ns fs within.1.0) c s ready
  list_reads (quantifier_word q) _ ns fs place within c s ready = on_refused _ _
  list_reads annotation_word (f ⨾ attributes) ns fs place within c s ready = annotation_reads ns fs place f attributes (form_reads f ns fs within.0) c s ready
  list_reads annotation_word none ns fs place within c s ready = on_refused _ _
  list_reads index_word gs ns fs place within c s ready = index_reads ns fs place gs c s ready
  list_reads (head f) (g ⨾ gs) ns fs place within c s ready = application_reads ns fs place f g gs (form_reads g ns fs within.0) (all_read gs ns fs within.1) c s ready
  list_reads (head f) none ns fs place within c s ready = on_refused _ _

  pub bindings_read : (bs : Forms) (ns : List Name) (fs : List Symbol) → AllWithin ns bs → BindingsRead ns fs bs
  bindings_read none ns fs within earlier c s ready = no_binding_reads ns fs earlier c s ready
  bindings_read (node part (x ⨾ f ⨾ none) ⨾ bs) ns fs within earlier c s ready = binding_reads ns fs part x f bs (form_reads f ns fs within.0.1.0) (bindings_read bs ns fs within.1) earlier c s ready
  bindings_read (f ⨾ bs) ns fs within earlier c s ready = on_refused _ _

  pub all_read : (gs : Forms) (ns : List Name) (fs : List Symbol) → AllWithin ns gs → AllRead ns fs gs
  all_read none ns fs within c s ready = no_reads ns fs c s ready
  all_read (f ⨾ gs) ns fs within c s ready = all_reads_more ns fs f gs (form_reads f ns fs within.0) (all_read gs ns fs within.1) c s ready
