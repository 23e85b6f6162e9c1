-- What heads of applications call, as the code finds it.
use Rattle.std.proofs.Common.{◌≡◌, ◌≢◌, ℕ, ◌<◌, ◌^◌, Bool, true, false, true≢false, List, [], ◌∷◌, map, length, get_or, All, IsTrue, Option, Some, None, option_map, is_some, Result, Ok, Err, refl, ap, sym, ◌∙◌, subst, arith, if◌then◌else◌}
use Rattle.std.proofs.lemmas.List.{length-map}
use Rattle.std.proofs.lemmas.List.Elements.{All-head, All-tail}
use Rattle.std.specs.Prelude.{codes, bytes_eq}
use Rattle.smt_lex.specs.Lex.{Token}
use Rattle.smt_lex.specs.Names.{Name, is_among, is_theory_name}
use Rattle.smt_lex.specs.Forms.{Form, atom, node, Forms, none, ◌⨾◌}
use Rattle.smt_terms.specs.Equal.{name_eq}
use Rattle.smt_terms.specs.Fresh.{Supply, NeverGives}
use Rattle.smt_terms.specs.Sorts.{Variable}
use Rattle.smt_terms.specs.Written.{Indexed, operator_named, at_indices}
use Rattle.smt_values.specs.SortIds.{sort_at, IsSortId}
use Rattle.smt_terms.specs.declared.ids.SortId.{SortId}
use Rattle.smt_terms.proofs.Equal.{name_same}
use Rattle.sort_check.specs.declared.written.Operator.{Operator}
use Rattle.sort_check.specs.Forms.{index_count, written_seen, is_apt}
use Rattle.term_table.specs.Formulas.{Formulas, tree, symbol_at}
use Rattle.script_terms.specs.declared.causes.Cause.{Cause}
use Rattle.script_terms.specs.declared.causes.Cause.TheVariants.{BadForm, UnknownName, NumberLimit}
use Rattle.script_terms.specs.declared.faults.ReadFault.{ReadFault}
use Rattle.script_terms.specs.declared.faults.ReadFault.TheVariants.{Refused as RefusedFor, Memory}
use Rattle.script_terms.specs.declared.scopes.Entry.{Entry}
use Rattle.script_terms.specs.declared.scopes.Entry.TheVariants.{Symbol as SymbolEntry, Constant as ConstantEntry, Definition as DefinitionEntry, Term as TermEntry}
use Rattle.script_terms.specs.declared.terms.callees.Callee.{Callee}
use Rattle.script_terms.specs.declared.terms.callees.Callee.TheVariants.{Written as WrittenCallee, ArrayOf, Called, Defined, Operandless}
use Rattle.script_terms.specs.declared.terms.indices.Indices.{Indices}
use Rattle.script_terms.specs.Bound.{LocalNames, HaveOwnNames, ShowsLocals, innermost}
use Rattle.script_terms.specs.Heads.{Callee as CalleeOf, written, array_of_sort, called, defined, operandless, indices_within, written_at, constant_head, theory_head, live_head, named_head, indexed_head, filling_head, list_head, atom_head, callee_of, real_names}
use Rattle.script_terms.specs.HeadClauses.{AreIndices, beyond_in, is_constant_with, world_of, indexed_list}
use Rattle.script_terms.specs.declared.locals.Local.{Local}
use Rattle.script_terms.specs.Known.{Scoped, Scoping, IsOwnName, HasOwnName, Shows, IsEntry, Meant, find, meant_by, no_definition, parameter_sorts}
use Rattle.script_terms.specs.Parts.{symbol_in, word_in, is_name, numeral_in, numerals_in}
use Rattle.script_terms.specs.Places.{capped}
use Rattle.script_terms.specs.Reading.{ReadBinding, ReadLocal, Entry as LiveEntry, symbol_entry, definition_entry, term_entry, entry_of, live_sorts}
use Rattle.script_terms.specs.Refusals.{Refused, at, unless, mapped}
use Rattle.script_terms.specs.Replies.{Refuses}
use Rattle.script_terms.specs.Scope.{or_later}
use Rattle.script_terms.specs.SortForms.{Sorts, sort_in}
use Rattle.script_terms.specs.Waiting.{World, ReadsCallee}
use Rattle.script_terms.proofs.HeadIndices.{numerals_parts, within_limit, beyond_limit, values_within, as_many_indices}
use Rattle.script_terms.proofs.ScopeNames.{entry_is}
use Rattle.script_terms.proofs.NameFacts.{operator_reserved}
use Rattle.script_terms.proofs.Showing.{entry_found, entry_meant}
use Rattle.script_terms.proofs.ShowingLocals.{bound_none, bound_some}

-- ---- answers

module _ (ts : List Token) (w : World) where
  pub callee_moved : (q r : Result CalleeOf Refused) (answer : Result Callee ReadFault) → q ≡ r → ReadsCallee ts w r answer → ReadsCallee ts w q answer
  callee_moved q r (Ok c) same is = (is.0, is.1, same ∙ is.2)
  callee_moved q r (Err (RefusedFor e)) same is = same ∙ is
  callee_moved q r (Err Memory) same is = tt

  pub callee_fault : (q : Result CalleeOf Refused) (e : ReadFault) (cause : Cause) (place : ℕ) → e ≡ RefusedFor (record { cause = cause; place = place }) → q ≡ at cause place → ReadsCallee ts w q (Err e)
  callee_fault q e cause place is refused = subst (λ x. ReadsCallee ts w q (Err x)) (sym is) refused

-- ---- written operators

module _ (fs : Forms) (ns : List ℕ) (x : Indices) (are : AreIndices fs ns x) where
  same_values : x.beyond ≡ None → (x.values.items ≡ ns) × All (λ i. i < 2 ^ 127) x.values.items
  same_values beyond =
      let values = values_within fs ns are.numerals (sym are.beyond ∙ beyond) in
      let here : x.values.items ≡ ns = are.values ∙ values.0 in (here, subst (All (λ i. i < 2 ^ 127)) (sym here) values.1)

  pub indices_small : x.beyond ≡ None → All (λ i. i < 2 ^ 127) x.values.items
  indices_small beyond = (same_values beyond).1

module _ (ts : List Token) (w : World) (place : ℕ) (fs : Forms) (ns : List ℕ) (x : Indices) (are : AreIndices fs ns x) where
  pub as_many : length x.values.items ≡ length ns
  as_many = ap length are.values ∙ length-map ns capped

  pub index_beyond : (o : Indexed) (n : ℕ) → length x.values.items ≡ index_count o → x.beyond ≡ Some n → written_at place fs (at_indices o ns) ≡ at NumberLimit n
  index_beyond o n same beyond =
      let found = as_many_indices o ns (sym as_many ∙ same) in
      ap (written_at place fs) found.1 ∙ beyond_limit fs (written found.0) n (sym are.beyond ∙ beyond)

  pub operator_called : (o : Indexed) (operator : Operator) → at_indices o x.values.items ≡ Some (written_seen operator) → IsTrue (is_apt (written_seen operator)) → x.beyond ≡ None
      → ReadsCallee ts w (written_at place fs (at_indices o ns)) (Ok (WrittenCallee operator))
  operator_called o operator named apt beyond =
      let given : at_indices o ns ≡ Some (written_seen operator) = ap (at_indices o) (sym (same_values fs ns x are beyond).0) ∙ named in (
        written (written_seen operator),
        (refl, apt),
        ap (written_at place fs) given ∙ within_limit fs (written (written_seen operator)) (sym are.beyond ∙ beyond),
      )

  -- ---- other names of the theories

  no_forms : (gs : Forms) → numerals_in gs ≡ Some [] → gs ≡ none
  no_forms none is = refl
  no_forms (f ⨾ gs) is =
      let parts = numerals_parts (numeral_in f) (numerals_in gs) [] is in
      let never : [] ≡ parts.0 ∷ parts.1 = parts.4 in
      absurd cc

  constant_beyond : (n : Name) (ms : List ℕ) (p : ℕ) → numerals_in fs ≡ Some ms → beyond_in fs ≡ Some p → is_constant_with n (length ms) ≡ true → constant_head place n fs ms ≡ at NumberLimit p
  constant_beyond n [] p numerals beyond is =
      let nothing_there : beyond_in fs ≡ None = ap beyond_in (no_forms fs numerals) in
      let never : None ≡ Some p = sym nothing_there ∙ beyond in
      absurd cc
  constant_beyond n (i ∷ []) p numerals beyond is = ap (λ b. if b then indices_within fs operandless else at BadForm place) is ∙ beyond_limit fs operandless p beyond
  constant_beyond n (i ∷ j ∷ ms) p numerals beyond is = absurd cc

  pub constant_limit : (n : Name) (p : ℕ) → x.beyond ≡ Some p → is_constant_with n (length x.values.items) ≡ true → constant_head place n fs ns ≡ at NumberLimit p
  constant_limit n p beyond is = constant_beyond n ns p are.numerals (sym are.beyond ∙ beyond) (ap (is_constant_with n) (sym as_many) ∙ is)

  constant_within : (n : Name) (ms : List ℕ) → beyond_in fs ≡ None → is_constant_with n (length ms) ≡ true → constant_head place n fs ms ≡ Ok operandless
  constant_within n [] beyond is = ap (λ b. if b then Ok operandless else at BadForm place) is
  constant_within n (i ∷ []) beyond is = ap (λ b. if b then indices_within fs operandless else at BadForm place) is ∙ within_limit fs operandless beyond
  constant_within n (i ∷ j ∷ ms) beyond is = absurd cc

  pub constant_called : (n : Name) → x.beyond ≡ None → is_constant_with n (length x.values.items) ≡ true → constant_head place n fs ns ≡ Ok operandless
  constant_called n beyond is = constant_within n ns (sym are.beyond ∙ beyond) (ap (is_constant_with n) (sym as_many) ∙ is)

  -- ---- live names

  empty_indices : (ms : List ℕ) → length ms ≡ 0 → ms ≡ []
  empty_indices [] is = refl
  empty_indices (m ∷ ms) is = absurd (omega (arith, is))

  pub no_indices : length x.values.items ≡ 0 → ns ≡ []
  no_indices is = empty_indices ns (sym as_many ∙ is)

-- ---- names of the theories

pub nothing_mapped : {A B : Type 0} (f : A → B) (o : Option A) → None ≡ option_map f o → o ≡ None
nothing_mapped f None is = refl
nothing_mapped f (Some a) is = absurd cc

module _ (place : ℕ) (n : Name) (fs : Forms) (ns : List ℕ) where
  pub constant_head_is : is_among real_names n ≡ false → is_theory_name n ≡ true → theory_head place n fs ns None ≡ constant_head place n fs ns
  constant_head_is real theory = rw (real, theory) refl

-- ---- live names

module _ (ts : List Token) (t : Formulas) (supply : Supply) (s : Scoping) (live : List ReadBinding) (shows : Shows t supply s live) (place : ℕ) (n : Name) (fs : Forms) where
  abbrev world : World
  world = world_of t supply s

  abbrev callee_for : Entry → Callee
  callee_for (SymbolEntry f) = Called f
  callee_for (ConstantEntry c) = Called c.symbol
  callee_for (DefinitionEntry k) = Defined k
  callee_for (TermEntry k) = Operandless

  entry_called : (e : Entry) (o : Option LiveEntry) → Some (meant_by t s.definitions e) ≡ option_map entry_meant o → IsEntry t supply s.definitions n e → ReadsCallee ts world (live_head place n fs [] o) (Ok (callee_for e))
  entry_called e None same is = absurd cc
  entry_called (SymbolEntry f) (Some (symbol_entry g)) same is =
      let symbol : g ≡ symbol_at t f = cc in
      (called g, (is.symbol, ap called symbol, subst (NeverGives supply) (sym is.name) is.spared), refl)
  entry_called (SymbolEntry f) (Some (definition_entry xs u)) same is = absurd cc
  entry_called (SymbolEntry f) (Some (term_entry u)) same is = absurd cc
  entry_called (ConstantEntry c) (Some (symbol_entry g)) same is =
      let symbol : g ≡ symbol_at t c.symbol = cc in
      (called g, (is.constant.symbol, ap called symbol, is.constant.spared), refl)
  entry_called (ConstantEntry c) (Some (definition_entry xs u)) same is = absurd cc
  entry_called (ConstantEntry c) (Some (term_entry u)) same is = absurd cc
  entry_called (DefinitionEntry k) (Some (symbol_entry g)) same is = absurd cc
  entry_called (DefinitionEntry k) (Some (definition_entry xs u)) same is =
      let sorts : map (λ (x : Variable). x.sort) xs ≡ parameter_sorts t (get_or s.definitions k no_definition) = cc in
      let body : u ≡ tree t (get_or s.definitions k no_definition).body = cc in
      (defined xs u, (xs, is, sorts, ap (defined xs) body), refl)
  entry_called (DefinitionEntry k) (Some (term_entry u)) same is = absurd cc
  entry_called (TermEntry k) (Some (symbol_entry g)) same is = absurd cc
  entry_called (TermEntry k) (Some (definition_entry xs u)) same is = absurd cc
  entry_called (TermEntry k) (Some (term_entry u)) same is = (operandless, refl, refl)

  some_entry : (e : Entry) → find s.terms n ≡ Some e → Some (meant_by t s.definitions e) ≡ option_map entry_meant (entry_of live n)
  some_entry e found = ap (option_map (meant_by t s.definitions)) (sym found) ∙ entry_found t s live shows.terms n

  pub live_called : (e : Entry) (ns : List ℕ) → find s.terms n ≡ Some e → ns ≡ [] → ReadsCallee ts world (live_head place n fs ns (entry_of live n)) (Ok (callee_for e))
  live_called e ns found empty =
      callee_moved ts world (live_head place n fs ns (entry_of live n)) (live_head place n fs [] (entry_of live n)) (Ok (callee_for e)) (ap (λ ms. live_head place n fs ms (entry_of live n)) empty)
      (entry_called e (entry_of live n) (some_entry e found) (entry_is t supply s.definitions n e s.terms shows.numbers.terms found))

  refused_indices : (o : Option LiveEntry) (m : Meant) (ns : List ℕ) → Some m ≡ option_map entry_meant o → length ns ≢ 0 → live_head place n fs ns o ≡ at BadForm place
  refused_indices None m ns same apart = absurd cc
  refused_indices (Some e) m [] same apart = absurd (apart refl)
  refused_indices (Some e) m (i ∷ ns) same apart = refl

  pub live_indices : (e : Entry) (ns : List ℕ) → find s.terms n ≡ Some e → length ns ≢ 0 → live_head place n fs ns (entry_of live n) ≡ at BadForm place
  live_indices e ns found apart = refused_indices (entry_of live n) (meant_by t s.definitions e) ns (some_entry e found) apart

  pub not_live : (ns : List ℕ) → find s.terms n ≡ None → live_head place n fs ns (entry_of live n) ≡ theory_head place n fs ns (operator_named n)
  not_live ns missing =
      ap (live_head place n fs ns) (nothing_mapped entry_meant (entry_of live n) (ap (option_map (meant_by t s.definitions)) (sym missing) ∙ entry_found t s live shows.terms n))

-- ---- names that are bound locally

module _ (t : Formulas) (supply : Supply) (ps : LocalNames) (bound : List ReadLocal) (shows : ShowsLocals t supply ps bound) (live : List ReadBinding) (place : ℕ) (n : Name) (fs : Forms) (ns : List ℕ) where
  pub local_head : (l : Local) → innermost ps n ≡ Some l → named_head bound live place n fs ns ≡ at UnknownName place
  local_head l is = ap (λ o. unless (is_some o) UnknownName place (live_head place n fs ns (entry_of live n))) (bound_some t supply ps bound shows n l is)

  pub not_local : innermost ps n ≡ None → named_head bound live place n fs ns ≡ live_head place n fs ns (entry_of live n)
  not_local is = ap (λ o. unless (is_some o) UnknownName place (live_head place n fs ns (entry_of live n))) (bound_none t supply ps bound shows n is)

-- ---- names of operators are neither bound locally nor live

no_own : {A : Type 0} (m n : Name) (b : Bool) (a : A) (later : Option A) → name_eq m n ≡ b → IsOwnName m → is_theory_name n ≡ true → later ≡ None → or_later b a later ≡ None
no_own m n true a later same own theory rest = absurd (true≢false (sym theory ∙ sym (ap is_theory_name (name_same m n same)) ∙ own))
no_own m n false a later same own theory rest = rest

none_live : {A : Type 0} (bs : List (Scoped A)) (n : Name) → All HasOwnName bs → is_theory_name n ≡ true → find bs n ≡ None
none_live [] n own theory = refl
none_live (None ∷ bs) n own theory = none_live bs n (All-tail HasOwnName None bs own) theory
none_live (Some p ∷ bs) n own theory = no_own p.0 n (name_eq p.0 n) p.1 (find bs n) refl (All-head HasOwnName (Some p) bs own) theory (none_live bs n (All-tail HasOwnName (Some p) bs own) theory)

none_local : (ps : LocalNames) (n : Name) → HaveOwnNames ps → is_theory_name n ≡ true → innermost ps n ≡ None
none_local [] n own theory = refl
none_local (p ∷ ps) n own theory = no_own p.0 n (name_eq p.0 n) p.1 (innermost ps n) refl (All-head (λ q. IsOwnName q.0) p ps own) theory (none_local ps n (All-tail (λ q. IsOwnName q.0) p ps own) theory)

module _ (ts : List Token) (t : Formulas) (supply : Supply) (s : Scoping) (live : List ReadBinding) (shows : Shows t supply s live) (ps : LocalNames) (bound : List ReadLocal) (locals : ShowsLocals t supply ps bound) where
  pub operator_head : (place : ℕ) (n : Name) (fs : Forms) (ns : List ℕ) (o : Indexed) → operator_named n ≡ Some o → named_head bound live place n fs ns ≡ written_at place fs (at_indices o ns)
  operator_head place n fs ns o named =
      let theory = operator_reserved n o named in
      not_local t supply ps bound locals live place n fs ns (none_local ps n locals.own theory)
      ∙ not_live ts t supply s live shows place n fs ns (none_live s.terms n shows.numbers.names theory)
      ∙ ap (theory_head place n fs ns) named

-- ---- lists

module _ (bound : List ReadLocal) (live : List ReadBinding) (place : ℕ) where
  begun_with : (o : Option Name) (gs : Forms) → is_name (codes "_") o ≡ true → list_head bound live place o gs ≡ indexed_list bound live place gs
  begun_with None gs is = absurd cc
  begun_with (Some w) none is = refl
  begun_with (Some w) (g ⨾ gs) is = rw is refl

  begun_as : (o : Option Name) (gs : Forms) → is_name (codes "_") o ≡ false → is_name (codes "as") o ≡ true → list_head bound live place o gs ≡ filling_head live place gs
  begun_as None gs is_no is = absurd cc
  begun_as (Some w) none is_no is = refl
  begun_as (Some w) (g ⨾ gs) is_no is = rw (is_no, is) refl

  module _ (fs gs : Forms) (f : Form) (forms : fs ≡ f ⨾ gs) where
    list_is : callee_of bound (node place fs) live ≡ list_head bound live place (word_in f) gs
    list_is = ap (λ hs. callee_of bound (node place hs) live) forms

    pub indexed_is : is_name (codes "_") (word_in f) ≡ true → callee_of bound (node place fs) live ≡ indexed_list bound live place gs
    indexed_is is = list_is ∙ begun_with (word_in f) gs is

    pub filling_is : is_name (codes "_") (word_in f) ≡ false → is_name (codes "as") (word_in f) ≡ true → callee_of bound (node place fs) live ≡ filling_head live place gs
    filling_is is_no is = list_is ∙ begun_as (word_in f) gs is_no is

    -- behind `_`
    pub name_with_numerals : (n : Name) (i : ℕ) (is : List ℕ) → symbol_in f ≡ Some n → numerals_in gs ≡ Some (i ∷ is) → indexed_list bound live place fs ≡ named_head bound live place n gs (i ∷ is)
    name_with_numerals n i is symbol numerals = ap (indexed_list bound live place) forms ∙ (λ j. indexed_head bound live place gs (symbol j) (numerals j))

-- ---- tokens

module _ (bound : List ReadLocal) (live : List ReadBinding) (t : Token) (f : Form) (token : f ≡ atom t) where
  pub symbol_is : (n : Name) → symbol_in f ≡ Some n → callee_of bound f live ≡ named_head bound live t.start n none []
  symbol_is n is = ap (λ g. callee_of bound g live) token ∙ ap (atom_head bound live t.start) (ap symbol_in (sym token) ∙ is)

-- ---- constant arrays

module _ (live : List ReadBinding) (place : ℕ) (fs : Forms) (f g : Form) (n : Name) (forms : fs ≡ f ⨾ g ⨾ none) (symbol : symbol_in f ≡ Some n) (word : bytes_eq n (codes "const") ≡ true) where
  filling_sort : filling_head live place fs ≡ mapped array_of_sort (sort_in (live_sorts live) g)
  filling_sort =
      ap (filling_head live place) forms
      ∙ ap (λ (o : Option Name). if is_name (codes "const") o then mapped array_of_sort (sort_in (live_sorts live) g) else at BadForm place) symbol ∙ rw word refl

  pub filling_fault : (ts : List Token) (w : World) (live_names : Sorts) (e : ReadFault) → live_names ≡ live_sorts live → Refuses (sort_in live_names g) e → ReadsCallee ts w (filling_head live place fs) (Err e)
  filling_fault ts w live_names (RefusedFor e) same refused = filling_sort ∙ ap (λ (known : Sorts). mapped array_of_sort (sort_in known g)) (sym same) ∙ ap (mapped array_of_sort) refused
  filling_fault ts w live_names Memory same refused = tt

  pub filling_called : (ts : List Token) (w : World) (live_names : Sorts) (k : SortId) → live_names ≡ live_sorts live → sort_in live_names g ≡ Ok (sort_at w.table.sorts k) → IsSortId w.table.sorts k → ReadsCallee ts w (filling_head live place fs) (Ok (ArrayOf k))
  filling_called ts w live_names k same sort within =
      (array_of_sort (sort_at w.table.sorts k), (within, refl), filling_sort ∙ ap (λ (known : Sorts). mapped array_of_sort (sort_in known g)) (sym same) ∙ ap (mapped array_of_sort) sort)

-- ---- whether a name is bound locally

pub some_local : (o : Option Local) → is_some o ≡ true → (l : Local) × (o ≡ Some l)
some_local None is = absurd cc
some_local (Some l) is = (l, refl)

pub no_local : (o : Option Local) → is_some o ≡ false → o ≡ None
no_local None is = refl
no_local (Some l) is = absurd cc
