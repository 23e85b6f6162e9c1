-- The terms that reading gives are regular: each sort is well formed, and no unary minus stands over a constant.
use Rattle.std.proofs.Common.{◌≡◌, ◌∙◌, sym, ap, subst, refl, ℕ, suc, Bool, true, false, not, cond, List, [], ◌∷◌, Option, Some, None, Result, Ok, Err}
use Rattle.std.specs.Prelude.{⊤}
use Rattle.smt_lex.specs.Names.{Name, is_among as is_among_names}
use Rattle.smt_lex.specs.Lex.{Token}
use Rattle.smt_lex.specs.Forms.{Form, atom, node, Forms, none, ◌⨾◌}
use Rattle.smt_terms.specs.declared.op.Op.{Op}
use Rattle.smt_terms.specs.Equal.{name_eq}
use Rattle.smt_terms.specs.Fresh.{Supply}
use Rattle.smt_terms.specs.Rank.{Fault, rank, is_sort, has_sorts, is_minus_of, is_regular, are_regular}
use Rattle.smt_terms.specs.Sorts.{Sort, bool, Variable}
use Rattle.smt_terms.specs.Subst.{parameter, expand}
use Rattle.smt_terms.specs.Term.{Quantifier, op, symbol, const_array, Term, apply, quantified, none as no_terms, terms, over, constant}
use Rattle.smt_terms.specs.Written.{written_rank, build}
use Rattle.smt_terms.proofs.SortsOfTerms.{regular_over}
use Rattle.smt_terms.proofs.Tests.{and_true, both_true}
use Rattle.script_terms.specs.declared.causes.Cause.TheVariants.{WrongSort, BadForm}
use Rattle.script_terms.specs.Heads.{atom_term, vector_constant, Callee, written, array_of_sort, called, defined, operandless, callee_of, term_algebra, operand_sorts, where_ranked, parameters_from, expanded, rank_of_arguments, applied}
use Rattle.script_terms.specs.Parts.{Opening, let_word, quantifier_word, annotation_word, index_word, head, opening, place_of, symbol_in, are_attributes, named_parts}
use Rattle.script_terms.specs.Read.{Context, with_local, is_empty, let_name, constant_names, is_taken, draws_names, with_quantified, below_quantifier, renamed, has_sort, quantified_over, term_names, mentions_local, annotated, read, read_list, read_bindings, read_all}
use Rattle.script_terms.specs.Reading.{ReadLocal, lets_as, quantified_as, parameter_as, ReadBinding, sort_known, function_known, definition_as, named_as, level_known, Sofar, Entry, symbol_entry, definition_entry, term_entry, entry_of, live_sorts, term_among, term_or, bound_as, constant_as, Reading, ◌>>=◌, gives, by_live, binds}
use Rattle.script_terms.specs.Refusals.{Refused, unless}
use Rattle.script_terms.specs.Scope.{or_later}
use Rattle.script_read.specs.Script.{parameters_read}
use Rattle.script_terms.specs.Variables.{quantifier_binder, variables_in}
use Rattle.script_terms.proofs.NameFacts.{Within, AllWithin}
use Rattle.script_read.proofs.Fitting.{have_sorts}
use Rattle.script_terms.proofs.Outcomes.{ok_same}
use Rattle.script_read.proofs.RegularTerms.{symbol_regular, build_regular, variable_regular, expand_regular}
use Rattle.script_read.proofs.Sources.{entry_alone, AtomSource, of_constant, of_local, of_entry, atom_source, entry_called, CalleeSource, of_operator, of_sort_form, of_nothing, of_live, callee_source}
use Rattle.script_terms.proofs.SortFacts.{SortsFine, sort_fine, unless_passed, VariablesRead, variables_read}
use Rattle.script_read.proofs.Defining.{variables_fine}
use Rattle.script_read.proofs.TermsMean.{OnOk, then_on, on_rule, on_last, on_unless, on_given, on_refused, vector_source}

-- ---- what is known

abbrev pub BindingRegular : ReadBinding → Type 0
BindingRegular (sort_known n r) = is_sort r ≡ true
BindingRegular (function_known f) = has_sorts (symbol f) ≡ true
BindingRegular (definition_as n xs body t) = is_regular t ≡ true
BindingRegular (named_as names f t ls) = is_regular t ≡ true
BindingRegular level_known = ⊤

abbrev pub AllRegular : List ReadBinding → Type 0
AllRegular [] = ⊤
AllRegular (b ∷ bs) = BindingRegular b × AllRegular bs

abbrev pub LocalsRegular : List ReadLocal → Type 0
LocalsRegular ls = (n : Name) (t : Term) → bound_as ls n ≡ Some t → is_regular t ≡ true

abbrev pub EntryRegular : Entry → Type 0
EntryRegular (symbol_entry f) = has_sorts (symbol f) ≡ true
EntryRegular (definition_entry xs t) = is_regular t ≡ true
EntryRegular (term_entry t) = is_regular t ≡ true

front_regular : (y x : Entry) (b : Bool) (o : Option Entry) → or_later b y o ≡ Some x → EntryRegular y → (o ≡ Some x → EntryRegular x) → EntryRegular x
front_regular y x true o h here below = let same : y ≡ x = cc in subst EntryRegular same here
front_regular y x false o h here below = below h

pub entry_regular : (bs : List ReadBinding) → AllRegular bs → (n : Name) (x : Entry) → entry_of bs n ≡ Some x → EntryRegular x
entry_regular [] all n x h = absurd cc
entry_regular (sort_known k r ∷ bs) all n x h = entry_regular bs all.1 n x h
entry_regular (function_known f ∷ bs) all n x h = front_regular (symbol_entry f) x (name_eq f.name n) (entry_of bs n) h all.0 (λ k. entry_regular bs all.1 n x k)
entry_regular (definition_as j xs body t ∷ bs) all n x h = front_regular (definition_entry xs t) x (name_eq j n) (entry_of bs n) h all.0 (λ k. entry_regular bs all.1 n x k)
entry_regular (named_as names f t ls ∷ bs) all n x h = front_regular (term_entry t) x (is_among_names names n) (entry_of bs n) h all.0 (λ k. entry_regular bs all.1 n x k)
entry_regular (level_known ∷ bs) all n x h = entry_regular bs all.1 n x h

pub sorts_regular : (bs : List ReadBinding) → AllRegular bs → SortsFine (live_sorts bs)
sorts_regular [] all n r h = absurd cc
sorts_regular (sort_known k q ∷ bs) all n r h = go (name_eq k n) h (sorts_regular bs all.1 n r)
  where
    go : (b : Bool) → or_later b q (live_sorts bs n) ≡ Some r → (live_sorts bs n ≡ Some r → is_sort r ≡ true) → is_sort r ≡ true
    go true e below = let same : q ≡ r = cc in ap is_sort (sym same) ∙ all.0
    go false e below = below e
sorts_regular (function_known f ∷ bs) all n r h = sorts_regular bs all.1 n r h
sorts_regular (definition_as j xs body t ∷ bs) all n r h = sorts_regular bs all.1 n r h
sorts_regular (named_as names f t ls ∷ bs) all n r h = sorts_regular bs all.1 n r h
sorts_regular (level_known ∷ bs) all n r h = sorts_regular bs all.1 n r h

-- ---- atoms

rules_moved : (t r : Term) (a : Result Term Refused) → a ≡ Ok t → a ≡ Ok r → is_regular t ≡ true → is_regular r ≡ true
rules_moved t r a h k fine = subst (λ u. is_regular u ≡ true) (ok_same t r a h k) fine

number_regular : (o : Op) → is_regular (apply (op o) no_terms) ≡ true
unfolding is_minus_of
number_regular o = refl

alone_regular : (x : Entry) (r : Term) → EntryRegular x → entry_alone x ≡ Some r → is_regular r ≡ true
alone_regular (symbol_entry f) r fine h = let same : constant f ≡ r = cc in subst (λ u. is_regular u ≡ true) same (symbol_regular f no_terms fine refl)
alone_regular (definition_entry [] t) r fine h = let same : t ≡ r = cc in subst (λ u. is_regular u ≡ true) same fine
alone_regular (definition_entry (x ∷ xs) t) r fine h = absurd cc
alone_regular (term_entry t) r fine h = let same : t ≡ r = cc in subst (λ u. is_regular u ≡ true) same fine

atom_regular : (ls : List ReadLocal) (live : List ReadBinding) → LocalsRegular ls → AllRegular live → (t : Token) (r : Term) → atom_term ls t live ≡ Ok r → is_regular r ≡ true
atom_regular ls live locals all t r h = go (atom_source ls live t r h)
  where
    go : AtomSource ls live r → is_regular r ≡ true
    go (of_constant o e) = subst (λ u. is_regular u ≡ true) e (number_regular o)
    go (of_local n e) = locals n r e
    go (of_entry n x entry e) = alone_regular x r (entry_regular live all n x entry) e

-- ---- heads

abbrev CalleeRegular : Callee → Type 0
CalleeRegular (array_of_sort s) = is_sort s ≡ true
CalleeRegular (called f) = has_sorts (symbol f) ≡ true
CalleeRegular (defined xs t) = is_regular t ≡ true
CalleeRegular _ = ⊤

called_regular : (x : Entry) → EntryRegular x → CalleeRegular (entry_called x)
called_regular (symbol_entry f) fine = fine
called_regular (definition_entry xs t) fine = fine
called_regular (term_entry t) fine = tt

callee_regular : (ls : List ReadLocal) (live : List ReadBinding) → AllRegular live → (f : Form) (c : Callee) → callee_of ls f live ≡ Ok c → CalleeRegular c
callee_regular ls live all f c h = go (callee_source ls live f c h)
  where
    go : CalleeSource live c → CalleeRegular c
    go (of_operator w e) = subst CalleeRegular e tt
    go (of_sort_form g to sorted e) = subst CalleeRegular e (sort_fine g (live_sorts live) to (sorts_regular live all) sorted)
    go (of_nothing e) = subst CalleeRegular e tt
    go (of_live n x entry e) = subst CalleeRegular e (called_regular x (entry_regular live all n x entry))

-- ---- applications

-- a term that is regular, beside what is known
pub record RegularRead (p : Term × Sofar) : Type 0 where
  pub rules : is_regular p.0 ≡ true
  pub live : AllRegular p.1.live

pub record RegularAll (p : List Term × Sofar) : Type 0 where
  pub rules : are_regular (terms p.0) ≡ true
  pub live : AllRegular p.1.live

pub record RegularBindings (p : List (Name × Term) × Sofar) : Type 0 where
  pub rules : (n : Name) (t : Term) → term_among p.0 n ≡ Some t → is_regular t ≡ true
  pub live : AllRegular p.1.live

ranked_regular : (place : ℕ) (r : Result Sort Fault) (t u : Term) → is_regular t ≡ true → where_ranked place r t ≡ Ok u → is_regular u ≡ true
ranked_regular place (Ok to) t u fine h = rules_moved t u (Ok t) refl h fine
ranked_regular place (Err e) t u fine h = absurd cc

array_regular : (s : Sort) (ts : List Term) → is_sort s ≡ true → are_regular (terms ts) ≡ true → is_regular (over (const_array s) ts) ≡ true
unfolding is_minus_of
array_regular s ts fine h = regular_over (const_array s) (terms ts) (record { head = fine; no_minus = refl; operands = h })

expanded_regular : (place : ℕ) (xs : List Variable) (t : Term) (ts : List Term) (r : Result Sort Fault) (s : Sofar) → is_regular t ≡ true → are_regular (terms ts) ≡ true → AllRegular s.live → OnOk RegularRead (expanded place xs t ts r s)
expanded_regular place xs t ts (Ok to) s fine operands live =
    on_given RegularRead ((expand (parameters_from 0 xs) t ts s.supply).0, record s { supply = (expand (parameters_from 0 xs) t ts s.supply).1 }) (record { rules = expand_regular xs t ts s.supply fine operands; live = live })
expanded_regular place xs t ts (Err e) s fine operands live = on_refused _ _

applied_regular : (c : Callee) (place : ℕ) (ts : List Term) (s : Sofar) → CalleeRegular c → are_regular (terms ts) ≡ true → AllRegular s.live → OnOk RegularRead (applied c place ts s)
applied_regular (written w) place ts s fine operands live =
    on_last (where_ranked place (written_rank w (operand_sorts ts)) (build term_algebra w ts)) s RegularRead (λ u h. record { rules = ranked_regular place (written_rank w (operand_sorts ts)) (build term_algebra w ts) u (build_regular w ts operands) h; live = live })
applied_regular (array_of_sort to) place ts s fine operands live =
    on_last (where_ranked place (rank (const_array to) (operand_sorts ts)) (over (const_array to) ts)) s RegularRead (λ u h. record { rules = ranked_regular place (rank (const_array to) (operand_sorts ts)) (over (const_array to) ts) u (array_regular to ts fine operands) h; live = live })
applied_regular (called f) place ts s fine operands live =
    on_last (where_ranked place (rank (symbol f) (operand_sorts ts)) (over (symbol f) ts)) s RegularRead (λ u h. record { rules = ranked_regular place (rank (symbol f) (operand_sorts ts)) (over (symbol f) ts) u (symbol_regular f (terms ts) fine operands) h; live = live })
applied_regular (defined xs t) place ts s fine operands live = expanded_regular place xs t ts (rank_of_arguments xs ts) s fine operands live
applied_regular operandless place ts s fine operands live = on_refused _ _

-- ---- local names

names_regular : (xs : List Variable) (ns : List Name) → have_sorts xs ≡ true → have_sorts (renamed xs ns) ≡ true
names_regular [] ns h = refl
names_regular (x ∷ xs) [] h = refl
names_regular (x ∷ xs) (n ∷ ns) h =
    let parts = both_true (is_sort x.sort) (have_sorts xs) h in
    and_true (is_sort x.sort) (have_sorts (renamed xs ns)) parts.0 (names_regular xs ns parts.1)

constant_front : (x : Variable) (m k : Name) (t : Term) (b : Bool) (o : Option Term) → is_sort x.sort ≡ true → or_later b (constant_as x m) o ≡ Some t → (o ≡ Some t → is_regular t ≡ true) → is_regular t ≡ true
constant_front x m k t true o fine h below = let same : constant_as x m ≡ t = cc in subst (λ u. is_regular u ≡ true) same (variable_regular (record { name = m; sort = x.sort }) fine)
constant_front x m k t false o fine h below = below h

pub quantified_regular : (xs : List Variable) (ns : List Name) (ls : List ReadLocal) → have_sorts xs ≡ true → LocalsRegular ls → LocalsRegular (with_quantified xs ns ls)
quantified_regular [] ns ls fine locals = locals
quantified_regular (x ∷ xs) [] ls fine locals = locals
quantified_regular (x ∷ xs) (n ∷ ns) ls fine locals =
    let parts = both_true (is_sort x.sort) (have_sorts xs) fine in
    quantified_regular xs ns (quantified_as x n ∷ ls) parts.1 (λ k t h. constant_front x n k t (name_eq x.name k) (bound_as ls k) parts.0 h (λ e. locals k t e))

pub parameters_regular : (i : ℕ) (xs : List Variable) (ls : List ReadLocal) → have_sorts xs ≡ true → LocalsRegular ls → LocalsRegular (parameters_read xs (parameters_from i xs) ls)
parameters_regular i [] ls fine locals = locals
parameters_regular i (x ∷ xs) ls fine locals =
    let parts = both_true (is_sort x.sort) (have_sorts xs) fine in
    parameters_regular (suc i) xs (parameter_as x (parameter i x.sort).name ∷ ls) parts.1 (λ k t h. constant_front x (parameter i x.sort).name k t (name_eq x.name k) (bound_as ls k) parts.0 h (λ e. locals k t e))

pub nothing_regular : LocalsRegular []
nothing_regular n t h = absurd cc

let_regular : (ls : List ReadLocal) (bs : Forms) (ts : List (Name × Term)) → LocalsRegular ls → ((n : Name) (t : Term) → term_among ts n ≡ Some t → is_regular t ≡ true) → LocalsRegular (lets_as bs ts ∷ ls)
let_regular ls bs ts locals fine n t h = go (term_among ts n) refl h
  where
    go : (o : Option Term) → term_among ts n ≡ o → term_or o (bound_as ls n) ≡ Some t → is_regular t ≡ true
    go (Some u) e k = fine n t (e ∙ k)
    go None e k = locals n t k

-- ---- what is proved of each form

abbrev pub FormRegular : Form → Type 0
FormRegular f = (c : Context) (s : Sofar) → LocalsRegular c.locals → AllRegular s.live → OnOk RegularRead (read f c s)

abbrev BindingsRegular : Forms → Type 0
BindingsRegular bs = (earlier : List Name) (c : Context) (s : Sofar) → LocalsRegular c.locals → AllRegular s.live → OnOk RegularBindings (read_bindings bs earlier c s)

abbrev AllFormsRegular : Forms → Type 0
AllFormsRegular gs = (c : Context) (s : Sofar) → LocalsRegular c.locals → AllRegular s.live → OnOk RegularAll (read_all gs c s)

let_reads : (part place : ℕ) (bs : Forms) (body : Form) → BindingsRegular bs → FormRegular body → (c : Context) (s : Sofar) → LocalsRegular c.locals → AllRegular s.live → OnOk RegularRead (read_list let_word (node part bs ⨾ body ⨾ none) place c s)
let_reads part place bs body bindings inner c s locals live =
    let next : List (Name × Term) → Reading Term = λ ts. read body (with_local (lets_as bs ts) c) in
    on_unless (is_empty bs) BadForm place (read_bindings bs [] c >>= next) s RegularRead (λ some.
    then_on (read_bindings bs [] c s) next RegularBindings RegularRead (bindings [] c s locals live) (λ p b.
    inner (with_local (lets_as bs p.0) c) p.1 (let_regular c.locals bs p.0 locals b.rules) b.live))

quantifier_reads : (ns : List Name) (q : Quantifier) (part place : ℕ) (bs : Forms) (body : Form) → AllWithin ns bs → FormRegular body → (c : Context) (s : Sofar) → LocalsRegular c.locals → AllRegular s.live → OnOk RegularRead (read_list (quantifier_word q) (node part bs ⨾ body ⨾ none) place c s)
quantifier_reads ns q part place bs body within inner c s locals live =
    let closing : List Variable → List Name → Term → Reading Term = λ xs names t. quantified_over place q (renamed xs names) t in
    let after_names : List Variable → List Name → Reading Term = λ xs names. read body (below_quantifier xs names c) >>= (λ t. closing xs names t) in
    let after_variables : List Variable → Reading Term = λ xs. draws_names c xs >>= (λ names. after_names xs names) in
    on_unless (is_empty bs) BadForm place (by_live (λ known. variables_in quantifier_binder (live_sorts known) [] bs) >>= after_variables) s RegularRead (λ some.
    on_rule (variables_in quantifier_binder (live_sorts s.live) [] bs) after_variables s RegularRead (λ xs h. over_names c s locals live xs h))
  where
    over_names : (c : Context) (s : Sofar) → LocalsRegular c.locals → AllRegular s.live → (xs : List Variable) → variables_in quantifier_binder (live_sorts s.live) [] bs ≡ Ok xs → OnOk RegularRead ((draws_names c xs >>= (λ names. read body (below_quantifier xs names c) >>= (λ t. quantified_over place q (renamed xs names) t))) s)
    over_names c s locals live xs h =
        let r : List Name × Supply = constant_names (is_taken c.locals s.live) xs s.supply in
        let variables : VariablesRead ns quantifier_binder [] xs = variables_read ns quantifier_binder (live_sorts s.live) [] bs xs (sorts_regular s.live live) within h in
        let fine : have_sorts xs ≡ true = variables_fine ns [] xs variables.sound in
        then_on (read body (below_quantifier xs r.0 c) (record s { supply = r.1 })) (λ t. quantified_over place q (renamed xs r.0) t) RegularRead RegularRead
        (inner (below_quantifier xs r.0 c) (record s { supply = r.1 }) (quantified_regular xs r.0 c.locals fine locals) live)
        (λ p b. on_last (unless (not (has_sort bool p.0)) WrongSort place (Ok (quantified q (renamed xs r.0) p.0))) p.1 RegularRead (λ u k.
        let (sorted, last) = unless_passed (not (has_sort bool p.0)) WrongSort place (Ok (quantified q (renamed xs r.0) p.0)) u k in
        record {
          rules = rules_moved (quantified q (renamed xs r.0) p.0) u (Ok (quantified q (renamed xs r.0) p.0)) refl last (and_true (have_sorts (renamed xs r.0)) (is_regular p.0) (names_regular xs r.0 fine) b.rules);
          live = b.live;
        }))

annotated_reads : (place : ℕ) (c : Context) (f : Form) (t : Term) (names : List Name) (s : Sofar) → is_regular t ≡ true → AllRegular s.live → OnOk RegularRead (annotated place c f t names s)
annotated_reads place c f t [] s fine live = on_given RegularRead (t, s) (record { rules = fine; live = live })
annotated_reads place c f t (n ∷ names) s fine live =
    on_unless (mentions_local c.locals t) BadForm place (binds (named_as (n ∷ names) f t c.locals) t) s RegularRead (λ apart.
    on_given RegularRead (t, record s { live = named_as (n ∷ names) f t c.locals ∷ s.live }) (record { rules = fine; live = (fine, live) }))

annotation_reads : (place : ℕ) (f : Form) (attributes : Forms) → FormRegular f → (c : Context) (s : Sofar) → LocalsRegular c.locals → AllRegular s.live → OnOk RegularRead (read_list annotation_word (f ⨾ attributes) place c s)
annotation_reads place f attributes inner c s locals live =
    let naming : Term → List Name → Reading Term = λ t names. annotated place c f t names in
    let after_term : Term → Reading Term = λ t. by_live (term_names c.defines place [] (named_parts attributes)) >>= (λ names. naming t names) in
    on_unless (not (are_attributes attributes)) BadForm place (read f c >>= after_term) s RegularRead (λ fine.
    then_on (read f c s) after_term RegularRead RegularRead (inner c s locals live) (λ p b.
    on_rule (term_names c.defines place [] (named_parts attributes) p.1.live) (λ names. naming p.0 names) p.1 RegularRead (λ names h.
    annotated_reads place c f p.0 names p.1 b.rules b.live)))

vector_regular : (place : ℕ) (gs : Forms) (r : Term) → vector_constant place gs ≡ Ok r → is_regular r ≡ true
vector_regular place gs r h = let found = vector_source place gs r h in subst (λ u. is_regular u ≡ true) found.1 (number_regular found.0)

application_reads : (place : ℕ) (f g : Form) (gs : Forms) → FormRegular g → AllFormsRegular gs → (c : Context) (s : Sofar) → LocalsRegular c.locals → AllRegular s.live → OnOk RegularRead (read_list (head f) (g ⨾ gs) place c s)
application_reads place f g gs first others c s locals live =
    let after_all : Callee → Term → List Term → Reading Term = λ callee t ts. applied callee place (t ∷ ts) in
    let after_first : Callee → Term → Reading Term = λ callee t. read_all gs c >>= (λ ts. after_all callee t ts) in
    on_rule (callee_of c.locals f s.live) (λ callee. read g c >>= (λ t. after_first callee t)) s RegularRead (λ callee h.
    then_on (read g c s) (λ t. after_first callee t) RegularRead RegularRead (first c s locals live) (λ p b.
    then_on (read_all gs c p.1) (λ ts. after_all callee p.0 ts) RegularAll RegularRead (others c p.1 locals b.live) (λ q b'.
    applied_regular callee place (p.0 ∷ q.0) q.1 (callee_regular c.locals s.live live f callee h) (and_true (is_regular p.0) (are_regular (terms q.0)) b.rules b'.rules) b'.live)))

binding_reads : (part : ℕ) (x f : Form) (bs : Forms) → FormRegular f → BindingsRegular bs → BindingsRegular (node part (x ⨾ f ⨾ none) ⨾ bs)
binding_reads part x f bs inner others earlier c s locals live =
    let after_others : Name → Term → List (Name × Term) → Reading (List (Name × Term)) = λ n t ts. gives ((n, t) ∷ ts) in
    let after_term : Name → Term → Reading (List (Name × Term)) = λ n t. read_bindings bs (n ∷ earlier) c >>= (λ ts. after_others n t ts) in
    on_rule (let_name earlier part (place_of x) (symbol_in x)) (λ n. read f c >>= (λ t. after_term n t)) s RegularBindings (λ n h.
    then_on (read f c s) (λ t. after_term n t) RegularRead RegularBindings (inner c s locals live) (λ p b.
    then_on (read_bindings bs (n ∷ earlier) c p.1) (λ ts. after_others n p.0 ts) RegularBindings RegularBindings (others (n ∷ earlier) c p.1 locals b.live) (λ q b'.
    on_given RegularBindings ((n, p.0) ∷ q.0, q.1) (record { rules = λ k u e. pair_regular n p.0 q.0 k u (name_eq n k) b.rules b'.rules e; live = b'.live }))))
  where
    pair_regular : (n : Name) (t : Term) (ts : List (Name × Term)) (k : Name) (u : Term) (b : Bool) → is_regular t ≡ true → ((j : Name) (v : Term) → term_among ts j ≡ Some v → is_regular v ≡ true) → cond b (Some t) (term_among ts k) ≡ Some u → is_regular u ≡ true
    pair_regular n t ts k u true fine below e = let same : t ≡ u = cc in subst (λ v. is_regular v ≡ true) same fine
    pair_regular n t ts k u false fine below e = below k u e

more_reads : (f : Form) (gs : Forms) → FormRegular f → AllFormsRegular gs → AllFormsRegular (f ⨾ gs)
more_reads f gs inner others c s locals live =
    let after_term : Term → Reading (List Term) = λ t. read_all gs c >>= (λ ts. gives (t ∷ ts)) in
    then_on (read f c s) after_term RegularRead RegularAll (inner c s locals live) (λ p b.
    then_on (read_all gs c p.1) (λ ts. gives (p.0 ∷ ts)) RegularAll RegularAll (others c p.1 locals b.live) (λ q b'.
    on_given RegularAll (p.0 ∷ q.0, q.1) (record { rules = and_true (is_regular p.0) (are_regular (terms q.0)) b.rules b'.rules; live = b'.live })))

no_term_among : (n : Name) (t : Term) → None ≡ Some t → is_regular t ≡ true
no_term_among n t h = absurd cc

mutual
  pub form_regular : (f : Form) (ns : List Name) → Within ns f → FormRegular f
  form_regular (atom t) ns within c s locals live = on_last (atom_term c.locals t s.live) s RegularRead (λ r h. record { rules = atom_regular c.locals s.live locals live t r h; live = live })
  form_regular (node place none) ns within c s locals live = on_refused _ _
  form_regular (node place (f ⨾ gs)) ns within c s locals live = list_regular (opening f) gs ns place within.1 c s locals live

  list_regular : (o : Opening) (gs : Forms) (ns : List Name) (place : ℕ) → AllWithin ns gs → (c : Context) (s : Sofar) → LocalsRegular c.locals → AllRegular s.live → OnOk RegularRead (read_list o gs place c s)
  list_regular let_word (node part bs ⨾ body ⨾ none) ns place within c s locals live = let_reads part place bs body (bindings_regular bs ns within.0) (form_regular body ns within.1.0) c s locals live
  list_regular let_word _ ns place within c s locals live = on_refused _ _
  list_regular (quantifier_word q) (node part bs ⨾ body ⨾ none) ns place within c s locals live = quantifier_reads ns q part place bs body within.0 (form_regular body ns within.1.0) c s locals live
  list_regular (quantifier_word q) _ ns place within c s locals live = on_refused _ _
  list_regular annotation_word (f ⨾ attributes) ns place within c s locals live = annotation_reads place f attributes (form_regular f ns within.0) c s locals live
  list_regular annotation_word none ns place within c s locals live = on_refused _ _
  list_regular index_word gs ns place within c s locals live = on_last (vector_constant place gs) s RegularRead (λ r h. record { rules = vector_regular place gs r h; live = live })
  list_regular (head f) (g ⨾ gs) ns place within c s locals live = application_reads place f g gs (form_regular g ns within.0) (all_regular gs ns within.1) c s locals live
  list_regular (head f) none ns place within c s locals live = on_refused _ _

  bindings_regular : (bs : Forms) (ns : List Name) → AllWithin ns bs → BindingsRegular bs
  bindings_regular none ns within earlier c s locals live = on_given RegularBindings ([], s) (record { rules = λ n t h. no_term_among n t h; live = live })
  bindings_regular (node part (x ⨾ f ⨾ none) ⨾ bs) ns within earlier c s locals live = binding_reads part x f bs (form_regular f ns within.0.1.0) (bindings_regular bs ns within.1) earlier c s locals live
  bindings_regular (f ⨾ bs) ns within earlier c s locals live = on_refused _ _

  all_regular : (gs : Forms) (ns : List Name) → AllWithin ns gs → AllFormsRegular gs
  all_regular none ns within c s locals live = on_given RegularAll ([], s) (record { rules = refl; live = live })
  all_regular (f ⨾ gs) ns within c s locals live = more_reads f gs (form_regular f ns within.0) (all_regular gs ns within.1) c s locals live
