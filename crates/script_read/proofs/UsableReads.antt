-- The terms that reading gives have live sorts, and quantified names that may be quantified; and reading a term opens and
-- declares nothing.
use Rattle.std.proofs.Common.{◌≡◌, ◌∙◌, sym, ap, subst, refl, ℕ, suc, Bool, true, false, not, cond, ◌&&◌, List, [], ◌∷◌, Option, Some, None, Result, Ok, Err}
use Rattle.std.specs.Prelude.{⊤}
use Rattle.std.specs.List.{list_all}
use Rattle.smt_lex.specs.Names.{Name}
use Rattle.smt_lex.specs.Lex.{Token}
use Rattle.smt_lex.specs.Forms.{Form, atom, node, Forms, none, ◌⨾◌}
use Rattle.smt_terms.specs.declared.op.Op.{Op}
use Rattle.smt_terms.specs.Equal.{name_eq}
use Rattle.smt_terms.specs.Fresh.{Supply}
use Rattle.smt_terms.specs.Rank.{Fault, rank}
use Rattle.smt_terms.specs.Sorts.{Sort, bool, Variable}
use Rattle.smt_terms.specs.Subst.{parameter, expand}
use Rattle.smt_terms.specs.Term.{Quantifier, op, symbol, const_array, Term, apply, quantified, none as no_terms, terms, over, constant}
use Rattle.smt_terms.specs.Written.{written_rank, build}
use Rattle.smt_terms.proofs.Tests.{and_true, both_true}
use Rattle.script_terms.specs.declared.causes.Cause.TheVariants.{WrongSort, BadForm}
use Rattle.script_read.specs.Commands.{throughout}
use Rattle.script_terms.specs.Heads.{atom_term, vector_constant, Callee, written, array_of_sort, called, defined, operandless, callee_of, term_algebra, operand_sorts, where_ranked, parameters_from, expanded, rank_of_arguments, applied}
use Rattle.script_terms.specs.Parts.{Opening, let_word, quantifier_word, annotation_word, index_word, head, opening, place_of, symbol_in, are_attributes, named_parts}
use Rattle.script_read.specs.Printable.{is_usable, sort_is_live, head_sorts, all_within, all_within_each}
use Rattle.script_terms.specs.Read.{Context, with_local, is_empty, let_name, constant_names, is_taken, draws_names, with_quantified, below_quantifier, renamed, has_sort, quantified_over, term_names, mentions_local, annotated, read, read_list, read_bindings, read_all}
use Rattle.script_terms.specs.Reading.{ReadLocal, lets_as, quantified_as, parameter_as, ReadBinding, named_as, Sofar, Entry, symbol_entry, definition_entry, term_entry, entry_of, live_sorts, term_among, term_or, bound_as, constant_as, Reading, ◌>>=◌, gives, by_live, binds}
use Rattle.script_terms.specs.Refusals.{Refused, unless}
use Rattle.script_terms.specs.Scope.{or_later}
use Rattle.script_read.specs.Script.{parameters_read}
use Rattle.script_terms.specs.Variables.{quantifier_binder, variables_in}
use Rattle.script_terms.proofs.NameFacts.{Within, AllWithin}
use Rattle.script_read.proofs.LiveSorts.{SortsLive, drawn_usable, sort_live, variables_are_usable, renamed_usable}
use Rattle.script_terms.proofs.Outcomes.{ok_same}
use Rattle.script_read.proofs.ShownLevels.{Bare, levels_of, sorts_known, known_sorts}
use Rattle.script_read.proofs.Sources.{entry_alone, AtomSource, of_constant, of_local, of_entry, atom_source, entry_called, CalleeSource, of_operator, of_sort_form, of_nothing, of_live, callee_source}
use Rattle.script_terms.proofs.SortFacts.{unless_passed}
use Rattle.script_read.proofs.TermsMean.{OnOk, then_on, on_rule, on_last, on_unless, on_given, on_refused, vector_source}
use Rattle.script_read.proofs.UsableBindings.{IsUsableTerm, AreUsableTerms, AllUsable, EntryUsable, entry_usable, sorts_usable}
use Rattle.script_read.proofs.UsableTerms.{over_fine, build_fine, variable_fine, expand_fine}
use Rattle.script_read.proofs.WritableText.{NamesFit}

-- the sorts that are declared at these levels
abbrev pub sorts_at : List Bare → List Name
sorts_at levels = throughout (λ l. l.sorts) levels

-- bindings that show these levels, and are usable
pub record Kept (levels : List Bare) (bs : List ReadBinding) : Type 0 where
  pub shown : levels_of bs ≡ levels
  pub usable : AllUsable bs

pub same_sorts : (levels : List Bare) (bs : List ReadBinding) → Kept levels bs → sorts_known bs ≡ sorts_at levels
same_sorts levels bs kept = sym (known_sorts bs) ∙ ap (throughout (λ l. l.sorts)) kept.shown

module _ (ns : List Name) (fit : NamesFit ns) (levels : List Bare) where
  abbrev ds : List Name
  ds = sorts_at levels

  abbrev IsUsable : Term → Type 0
  IsUsable t = IsUsableTerm ds t

  abbrev AreUsable : List Term → Type 0
  AreUsable ts = AreUsableTerms ds (terms ts)

  abbrev LocalsUsable : List ReadLocal → Type 0
  LocalsUsable ls = (n : Name) (t : Term) → bound_as ls n ≡ Some t → IsUsable t

  entry_kept : (bs : List ReadBinding) → Kept levels bs → (n : Name) (x : Entry) → entry_of bs n ≡ Some x → EntryUsable ds x
  entry_kept bs kept n x h = subst (λ es. EntryUsable es x) (same_sorts levels bs kept) (entry_usable bs kept.usable n x h)

  pub sorts_kept : (bs : List ReadBinding) → Kept levels bs → SortsLive (sorts_at levels) (live_sorts bs)
  sorts_kept bs kept = subst (λ es. SortsLive es (live_sorts bs)) (same_sorts levels bs kept) (sorts_usable bs kept.usable)

  -- ---- atoms

  usable_moved : (t r : Term) (a : Result Term Refused) → a ≡ Ok t → a ≡ Ok r → IsUsable t → IsUsable r
  usable_moved t r a h k fine = subst IsUsable (ok_same t r a h k) fine

  number_usable : (o : Op) → IsUsable (apply (op o) no_terms)
  number_usable o = refl

  constant_usable : (x : Entry) (r : Term) → EntryUsable ds x → entry_alone x ≡ Some r → IsUsable r
  constant_usable (symbol_entry f) r fine h = let same : constant f ≡ r = cc in subst IsUsable same (over_fine (sort_is_live ds) is_usable (symbol f) no_terms fine refl)
  constant_usable (definition_entry [] t) r fine h = let same : t ≡ r = cc in subst IsUsable same fine
  constant_usable (definition_entry (x ∷ xs) t) r fine h = absurd cc
  constant_usable (term_entry t) r fine h = let same : t ≡ r = cc in subst IsUsable same fine

  atom_usable : (ls : List ReadLocal) (live : List ReadBinding) → LocalsUsable ls → Kept levels live → (t : Token) (r : Term) → atom_term ls t live ≡ Ok r → IsUsable r
  atom_usable ls live locals kept t r h = go (atom_source ls live t r h)
    where
      go : AtomSource ls live r → IsUsable r
      go (of_constant o e) = subst IsUsable e (number_usable o)
      go (of_local n e) = locals n r e
      go (of_entry n x entry e) = constant_usable x r (entry_kept live kept n x entry) e

  -- ---- heads

  abbrev CalleeUsable : Callee → Type 0
  CalleeUsable (array_of_sort s) = sort_is_live ds s ≡ true
  CalleeUsable (called f) = list_all (sort_is_live ds) (head_sorts (symbol f)) ≡ true
  CalleeUsable (defined xs t) = IsUsable t
  CalleeUsable _ = ⊤

  called_usable : (x : Entry) → EntryUsable ds x → CalleeUsable (entry_called x)
  called_usable (symbol_entry f) fine = fine
  called_usable (definition_entry xs t) fine = fine
  called_usable (term_entry t) fine = tt

  callee_usable : (ls : List ReadLocal) (live : List ReadBinding) → Kept levels live → (f : Form) (c : Callee) → callee_of ls f live ≡ Ok c → CalleeUsable c
  callee_usable ls live kept f c h = go (callee_source ls live f c h)
    where
      go : CalleeSource live c → CalleeUsable c
      go (of_operator w e) = subst CalleeUsable e tt
      go (of_sort_form g to sorted e) = subst CalleeUsable e (sort_live ds g (live_sorts live) to (sorts_kept live kept) sorted)
      go (of_nothing e) = subst CalleeUsable e tt
      go (of_live n x entry e) = subst CalleeUsable e (called_usable x (entry_kept live kept n x entry))

  -- ---- applications

  pub record UsableRead (p : Term × Sofar) : Type 0 where
    pub usable : IsUsableTerm (sorts_at levels) p.0
    pub kept : Kept levels p.1.live

  record UsableAll (p : List Term × Sofar) : Type 0 where
    usable : AreUsable p.0
    kept : Kept levels p.1.live

  record UsableBindings (p : List (Name × Term) × Sofar) : Type 0 where
    usable : (n : Name) (t : Term) → term_among p.0 n ≡ Some t → IsUsable t
    kept : Kept levels p.1.live

  ranked_usable : (place : ℕ) (r : Result Sort Fault) (t u : Term) → IsUsable t → where_ranked place r t ≡ Ok u → IsUsable u
  ranked_usable place (Ok to) t u fine h = usable_moved t u (Ok t) refl h fine
  ranked_usable place (Err e) t u fine h = absurd cc

  expanded_usable : (place : ℕ) (xs : List Variable) (t : Term) (ts : List Term) (r : Result Sort Fault) (s : Sofar) → IsUsable t → AreUsable ts → Kept levels s.live → OnOk UsableRead (expanded place xs t ts r s)
  expanded_usable place xs t ts (Ok to) s fine operands kept =
      on_given UsableRead ((expand (parameters_from 0 xs) t ts s.supply).0, record s { supply = (expand (parameters_from 0 xs) t ts s.supply).1 }) (record { usable = expand_fine (sort_is_live ds) is_usable drawn_usable xs t ts s.supply fine operands; kept = kept })
  expanded_usable place xs t ts (Err e) s fine operands kept = on_refused _ _

  applied_usable : (c : Callee) (place : ℕ) (ts : List Term) (s : Sofar) → CalleeUsable c → AreUsable ts → Kept levels s.live → OnOk UsableRead (applied c place ts s)
  applied_usable (written w) place ts s fine operands kept =
      on_last (where_ranked place (written_rank w (operand_sorts ts)) (build term_algebra w ts)) s UsableRead (λ u h. record { usable = ranked_usable place (written_rank w (operand_sorts ts)) (build term_algebra w ts) u (build_fine (sort_is_live ds) is_usable w ts operands) h; kept = kept })
  applied_usable (array_of_sort to) place ts s fine operands kept =
      on_last (where_ranked place (rank (const_array to) (operand_sorts ts)) (over (const_array to) ts)) s UsableRead (λ u h. record { usable = ranked_usable place (rank (const_array to) (operand_sorts ts)) (over (const_array to) ts) u (over_fine (sort_is_live ds) is_usable (const_array to) (terms ts) (and_true (sort_is_live ds to) true fine refl) operands) h; kept = kept })
  applied_usable (called f) place ts s fine operands kept =
      on_last (where_ranked place (rank (symbol f) (operand_sorts ts)) (over (symbol f) ts)) s UsableRead (λ u h. record { usable = ranked_usable place (rank (symbol f) (operand_sorts ts)) (over (symbol f) ts) u (over_fine (sort_is_live ds) is_usable (symbol f) (terms ts) fine operands) h; kept = kept })
  applied_usable (defined xs t) place ts s fine operands kept = expanded_usable place xs t ts (rank_of_arguments xs ts) s fine operands kept
  applied_usable operandless place ts s fine operands kept = on_refused _ _

  -- ---- local names

  abbrev AreUsableVariables : List Variable → Type 0
  AreUsableVariables xs = list_all (λ x. sort_is_live ds x.sort && is_usable x.name) xs ≡ true

  constant_front : (x : Variable) (m k : Name) (t : Term) (b : Bool) (o : Option Term) → sort_is_live ds x.sort ≡ true → or_later b (constant_as x m) o ≡ Some t → (o ≡ Some t → IsUsable t) → IsUsable t
  constant_front x m k t true o fine h below = let same : constant_as x m ≡ t = cc in subst IsUsable same (variable_fine (sort_is_live ds) is_usable (record { name = m; sort = x.sort }) fine)
  constant_front x m k t false o fine h below = below h

  live_variable : (x : Variable) (xs : List Variable) → AreUsableVariables (x ∷ xs) → (sort_is_live ds x.sort ≡ true) × AreUsableVariables xs
  live_variable x xs fine =
      let parts = both_true (sort_is_live ds x.sort && is_usable x.name) (list_all (λ y. sort_is_live ds y.sort && is_usable y.name) xs) fine in
      ((both_true (sort_is_live ds x.sort) (is_usable x.name) parts.0).0, parts.1)

  quantified_usable : (xs : List Variable) (names : List Name) (ls : List ReadLocal) → AreUsableVariables xs → LocalsUsable ls → LocalsUsable (with_quantified xs names ls)
  quantified_usable [] names ls fine locals = locals
  quantified_usable (x ∷ xs) [] ls fine locals = locals
  quantified_usable (x ∷ xs) (n ∷ names) ls fine locals =
      let parts = live_variable x xs fine in
      quantified_usable xs names (quantified_as x n ∷ ls) parts.1 (λ k t h. constant_front x n k t (name_eq x.name k) (bound_as ls k) parts.0 h (λ e. locals k t e))

  pub parameters_usable : (i : ℕ) (xs : List Variable) (ls : List ReadLocal) → list_all (λ x. sort_is_live (sorts_at levels) x.sort && is_usable x.name) xs ≡ true → ((n : Name) (t : Term) → bound_as ls n ≡ Some t → IsUsableTerm (sorts_at levels) t)
      → (n : Name) (t : Term) → bound_as (parameters_read xs (parameters_from i xs) ls) n ≡ Some t → IsUsableTerm (sorts_at levels) t
  parameters_usable i [] ls fine locals = locals
  parameters_usable i (x ∷ xs) ls fine locals =
      let parts = live_variable x xs fine in
      parameters_usable (suc i) xs (parameter_as x (parameter i x.sort).name ∷ ls) parts.1 (λ k t h. constant_front x (parameter i x.sort).name k t (name_eq x.name k) (bound_as ls k) parts.0 h (λ e. locals k t e))

  pub nothing_usable : (n : Name) (t : Term) → bound_as [] n ≡ Some t → IsUsableTerm (sorts_at levels) t
  nothing_usable n t h = absurd cc

  let_usable : (ls : List ReadLocal) (bs : Forms) (ts : List (Name × Term)) → LocalsUsable ls → ((n : Name) (t : Term) → term_among ts n ≡ Some t → IsUsable t) → LocalsUsable (lets_as bs ts ∷ ls)
  let_usable ls bs ts locals fine n t h = go (term_among ts n) refl h
    where
      go : (o : Option Term) → term_among ts n ≡ o → term_or o (bound_as ls n) ≡ Some t → IsUsable t
      go (Some u) e k = fine n t (e ∙ k)
      go None e k = locals n t k

  -- ---- what is proved of each form

  abbrev FormUsable : Form → Type 0
  FormUsable f = (c : Context) (s : Sofar) → LocalsUsable c.locals → Kept levels s.live → OnOk UsableRead (read f c s)

  abbrev BindingsUsable : Forms → Type 0
  BindingsUsable bs = (earlier : List Name) (c : Context) (s : Sofar) → LocalsUsable c.locals → Kept levels s.live → OnOk UsableBindings (read_bindings bs earlier c s)

  abbrev AllFormsUsable : Forms → Type 0
  AllFormsUsable gs = (c : Context) (s : Sofar) → LocalsUsable c.locals → Kept levels s.live → OnOk UsableAll (read_all gs c s)

  let_reads : (part place : ℕ) (bs : Forms) (body : Form) → BindingsUsable bs → FormUsable body → (c : Context) (s : Sofar) → LocalsUsable c.locals → Kept levels s.live → OnOk UsableRead (read_list let_word (node part bs ⨾ body ⨾ none) place c s)
  let_reads part place bs body bindings inner c s locals kept =
      let next : List (Name × Term) → Reading Term = λ ts. read body (with_local (lets_as bs ts) c) in
      on_unless (is_empty bs) BadForm place (read_bindings bs [] c >>= next) s UsableRead (λ some.
      then_on (read_bindings bs [] c s) next UsableBindings UsableRead (bindings [] c s locals kept) (λ p b.
      inner (with_local (lets_as bs p.0) c) p.1 (let_usable c.locals bs p.0 locals b.usable) b.kept))

  quantifier_reads : (q : Quantifier) (part place : ℕ) (bs : Forms) (body : Form) → AllWithin ns bs → FormUsable body → (c : Context) (s : Sofar) → LocalsUsable c.locals → Kept levels s.live → OnOk UsableRead (read_list (quantifier_word q) (node part bs ⨾ body ⨾ none) place c s)
  quantifier_reads q part place bs body within inner c s locals kept =
      let closing : List Variable → List Name → Term → Reading Term = λ xs names t. quantified_over place q (renamed xs names) t in
      let after_names : List Variable → List Name → Reading Term = λ xs names. read body (below_quantifier xs names c) >>= (λ t. closing xs names t) in
      let after_variables : List Variable → Reading Term = λ xs. draws_names c xs >>= (λ names. after_names xs names) in
      on_unless (is_empty bs) BadForm place (by_live (λ known. variables_in quantifier_binder (live_sorts known) [] bs) >>= after_variables) s UsableRead (λ some.
      on_rule (variables_in quantifier_binder (live_sorts s.live) [] bs) after_variables s UsableRead (λ xs h. over_names c s locals kept xs h))
    where
      over_names : (c : Context) (s : Sofar) → LocalsUsable c.locals → Kept levels s.live → (xs : List Variable) → variables_in quantifier_binder (live_sorts s.live) [] bs ≡ Ok xs → OnOk UsableRead ((draws_names c xs >>= (λ names. read body (below_quantifier xs names c) >>= (λ t. quantified_over place q (renamed xs names) t))) s)
      over_names c s locals kept xs h =
          let r : List Name × Supply = constant_names (is_taken c.locals s.live) xs s.supply in
          let fine : AreUsableVariables xs = variables_are_usable ds ns fit quantifier_binder (live_sorts s.live) [] bs xs (sorts_kept s.live kept) within h in
          let drawn : AreUsableVariables (renamed xs r.0) = renamed_usable ds (is_taken c.locals s.live) xs s.supply fine in
          then_on (read body (below_quantifier xs r.0 c) (record s { supply = r.1 })) (λ t. quantified_over place q (renamed xs r.0) t) UsableRead UsableRead
          (inner (below_quantifier xs r.0 c) (record s { supply = r.1 }) (quantified_usable xs r.0 c.locals fine locals) kept)
          (λ p b. on_last (unless (not (has_sort bool p.0)) WrongSort place (Ok (quantified q (renamed xs r.0) p.0))) p.1 UsableRead (λ u k.
          let (sorted, last) = unless_passed (not (has_sort bool p.0)) WrongSort place (Ok (quantified q (renamed xs r.0) p.0)) u k in
          record {
            usable = usable_moved (quantified q (renamed xs r.0) p.0) u (Ok (quantified q (renamed xs r.0) p.0)) refl last (and_true (list_all (λ x. sort_is_live ds x.sort && is_usable x.name) (renamed xs r.0)) (all_within (sort_is_live ds) is_usable p.0) drawn b.usable);
            kept = b.kept;
          }))

  annotated_reads : (place : ℕ) (c : Context) (f : Form) (t : Term) (names : List Name) (s : Sofar) → IsUsable t → Kept levels s.live → OnOk UsableRead (annotated place c f t names s)
  annotated_reads place c f t [] s fine kept = on_given UsableRead (t, s) (record { usable = fine; kept = kept })
  annotated_reads place c f t (n ∷ names) s fine kept =
      on_unless (mentions_local c.locals t) BadForm place (binds (named_as (n ∷ names) f t c.locals) t) s UsableRead (λ apart.
      on_given UsableRead (t, record s { live = named_as (n ∷ names) f t c.locals ∷ s.live }) (record {
        usable = fine;
        kept = record { shown = kept.shown; usable = (subst (λ es. IsUsableTerm es t) (sym (same_sorts levels s.live kept)) fine, kept.usable) };
      }))

  annotation_reads : (place : ℕ) (f : Form) (attributes : Forms) → FormUsable f → (c : Context) (s : Sofar) → LocalsUsable c.locals → Kept levels s.live → OnOk UsableRead (read_list annotation_word (f ⨾ attributes) place c s)
  annotation_reads place f attributes inner c s locals kept =
      let naming : Term → List Name → Reading Term = λ t names. annotated place c f t names in
      let after_term : Term → Reading Term = λ t. by_live (term_names c.defines place [] (named_parts attributes)) >>= (λ names. naming t names) in
      on_unless (not (are_attributes attributes)) BadForm place (read f c >>= after_term) s UsableRead (λ fine.
      then_on (read f c s) after_term UsableRead UsableRead (inner c s locals kept) (λ p b.
      on_rule (term_names c.defines place [] (named_parts attributes) p.1.live) (λ names. naming p.0 names) p.1 UsableRead (λ names h.
      annotated_reads place c f p.0 names p.1 b.usable b.kept)))

  vector_usable : (place : ℕ) (gs : Forms) (r : Term) → vector_constant place gs ≡ Ok r → IsUsable r
  vector_usable place gs r h = let found = vector_source place gs r h in subst IsUsable found.1 (number_usable found.0)

  application_reads : (place : ℕ) (f g : Form) (gs : Forms) → FormUsable g → AllFormsUsable gs → (c : Context) (s : Sofar) → LocalsUsable c.locals → Kept levels s.live → OnOk UsableRead (read_list (head f) (g ⨾ gs) place c s)
  application_reads place f g gs first others c s locals kept =
      let after_all : Callee → Term → List Term → Reading Term = λ callee t ts. applied callee place (t ∷ ts) in
      let after_first : Callee → Term → Reading Term = λ callee t. read_all gs c >>= (λ ts. after_all callee t ts) in
      on_rule (callee_of c.locals f s.live) (λ callee. read g c >>= (λ t. after_first callee t)) s UsableRead (λ callee h.
      then_on (read g c s) (λ t. after_first callee t) UsableRead UsableRead (first c s locals kept) (λ p b.
      then_on (read_all gs c p.1) (λ ts. after_all callee p.0 ts) UsableAll UsableRead (others c p.1 locals b.kept) (λ q b'.
      applied_usable callee place (p.0 ∷ q.0) q.1 (callee_usable c.locals s.live kept f callee h) (and_true (all_within (sort_is_live ds) is_usable p.0) (all_within_each (sort_is_live ds) is_usable (terms q.0)) b.usable b'.usable) b'.kept)))

  binding_reads : (part : ℕ) (x f : Form) (bs : Forms) → FormUsable f → BindingsUsable bs → BindingsUsable (node part (x ⨾ f ⨾ none) ⨾ bs)
  binding_reads part x f bs inner others earlier c s locals kept =
      let after_others : Name → Term → List (Name × Term) → Reading (List (Name × Term)) = λ n t ts. gives ((n, t) ∷ ts) in
      let after_term : Name → Term → Reading (List (Name × Term)) = λ n t. read_bindings bs (n ∷ earlier) c >>= (λ ts. after_others n t ts) in
      on_rule (let_name earlier part (place_of x) (symbol_in x)) (λ n. read f c >>= (λ t. after_term n t)) s UsableBindings (λ n h.
      then_on (read f c s) (λ t. after_term n t) UsableRead UsableBindings (inner c s locals kept) (λ p b.
      then_on (read_bindings bs (n ∷ earlier) c p.1) (λ ts. after_others n p.0 ts) UsableBindings UsableBindings (others (n ∷ earlier) c p.1 locals b.kept) (λ q b'.
      on_given UsableBindings ((n, p.0) ∷ q.0, q.1) (record { usable = λ k u e. pair_usable n p.0 q.0 k u (name_eq n k) b.usable b'.usable e; kept = b'.kept }))))
    where
      pair_usable : (n : Name) (t : Term) (ts : List (Name × Term)) (k : Name) (u : Term) (b : Bool) → IsUsable t → ((j : Name) (v : Term) → term_among ts j ≡ Some v → IsUsable v) → cond b (Some t) (term_among ts k) ≡ Some u → IsUsable u
      pair_usable n t ts k u true fine below e = let same : t ≡ u = cc in subst IsUsable same fine
      pair_usable n t ts k u false fine below e = below k u e

  more_reads : (f : Form) (gs : Forms) → FormUsable f → AllFormsUsable gs → AllFormsUsable (f ⨾ gs)
  more_reads f gs inner others c s locals kept =
      let after_term : Term → Reading (List Term) = λ t. read_all gs c >>= (λ ts. gives (t ∷ ts)) in
      then_on (read f c s) after_term UsableRead UsableAll (inner c s locals kept) (λ p b.
      then_on (read_all gs c p.1) (λ ts. gives (p.0 ∷ ts)) UsableAll UsableAll (others c p.1 locals b.kept) (λ q b'.
      on_given UsableAll (p.0 ∷ q.0, q.1) (record { usable = and_true (all_within (sort_is_live ds) is_usable p.0) (all_within_each (sort_is_live ds) is_usable (terms q.0)) b.usable b'.usable; kept = b'.kept })))

  no_term_among : (n : Name) (t : Term) → None ≡ Some t → IsUsable t
  no_term_among n t h = absurd cc

  mutual
    pub form_usable : (f : Form) → Within ns f → (c : Context) (s : Sofar) → ((n : Name) (t : Term) → bound_as c.locals n ≡ Some t → IsUsableTerm (sorts_at levels) t) → Kept levels s.live → OnOk UsableRead (read f c s)
    form_usable (atom t) within c s locals kept = on_last (atom_term c.locals t s.live) s UsableRead (λ r h. record { usable = atom_usable c.locals s.live locals kept t r h; kept = kept })
    form_usable (node place none) within c s locals kept = on_refused _ _
    form_usable (node place (f ⨾ gs)) within c s locals kept = list_usable (opening f) gs place within.1 c s locals kept

    list_usable : (o : Opening) (gs : Forms) (place : ℕ) → AllWithin ns gs → (c : Context) (s : Sofar) → LocalsUsable c.locals → Kept levels s.live → OnOk UsableRead (read_list o gs place c s)
    list_usable let_word (node part bs ⨾ body ⨾ none) place within c s locals kept = let_reads part place bs body (bindings_usable bs within.0) (form_usable body within.1.0) c s locals kept
    list_usable let_word _ place within c s locals kept = on_refused _ _
    list_usable (quantifier_word q) (node part bs ⨾ body ⨾ none) place within c s locals kept = quantifier_reads q part place bs body within.0 (form_usable body within.1.0) c s locals kept
    list_usable (quantifier_word q) _ place within c s locals kept = on_refused _ _
    list_usable annotation_word (f ⨾ attributes) place within c s locals kept = annotation_reads place f attributes (form_usable f within.0) c s locals kept
    list_usable annotation_word none place within c s locals kept = on_refused _ _
    list_usable index_word gs place within c s locals kept = on_last (vector_constant place gs) s UsableRead (λ r h. record { usable = vector_usable place gs r h; kept = kept })
    list_usable (head f) (g ⨾ gs) place within c s locals kept = application_reads place f g gs (form_usable g within.0) (all_usable gs within.1) c s locals kept
    list_usable (head f) none place within c s locals kept = on_refused _ _

    bindings_usable : (bs : Forms) → AllWithin ns bs → BindingsUsable bs
    bindings_usable none within earlier c s locals kept = on_given UsableBindings ([], s) (record { usable = λ n t h. no_term_among n t h; kept = kept })
    bindings_usable (node part (x ⨾ f ⨾ none) ⨾ bs) within earlier c s locals kept = binding_reads part x f bs (form_usable f within.0.1.0) (bindings_usable bs within.1) earlier c s locals kept
    bindings_usable (f ⨾ bs) within earlier c s locals kept = on_refused _ _

    all_usable : (gs : Forms) → AllWithin ns gs → AllFormsUsable gs
    all_usable none within c s locals kept = on_given UsableAll ([], s) (record { usable = refl; kept = kept })
    all_usable (f ⨾ gs) within c s locals kept = more_reads f gs (form_usable f within.0) (all_usable gs within.1) c s locals kept
