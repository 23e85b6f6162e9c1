-- Terms as they are read: `let`, definitions and names of terms are replaced by their terms, and a bound name gets a fresh
-- one where it would be mistaken for another. SMT-LIB 2.6, section 3.6.
use Rattle.std.specs.Prelude.{ℕ, Bool, true, false, not, ◌||◌, List, [], ◌∷◌, Result, Ok, Option, Some, None, is_some}
use Rattle.std.specs.List.{list_any}
use Rattle.smt_lex.specs.Names.{Name, is_among, is_reserved_for_declaring, is_reserved_for_let}
use Rattle.smt_lex.specs.Forms.{Form, atom, node, Forms, none, ◌⨾◌}
use Rattle.smt_terms.specs.Equal.{name_eq, sort_eq}
use Rattle.smt_terms.specs.Free.{free, is_among as is_among_symbols}
use Rattle.smt_terms.specs.Fresh.{Supply, next_name, after_draw}
use Rattle.smt_terms.specs.Rank.{sort_of}
use Rattle.smt_terms.specs.Sorts.{Sort, bool, Symbol, Variable}
use Rattle.smt_terms.specs.Term.{Quantifier, Term, quantified, constant_of}
use Rattle.script_terms.specs.declared.causes.Cause.TheVariants.{WrongSort, BadForm, Redeclared, ReservedName}
use Rattle.script_terms.specs.Refusals.{Refused, at, and_then, unless, mapped}
use Rattle.script_terms.specs.Parts.{place_of, symbol_in, Opening, let_word, quantifier_word, annotation_word, index_word, head, opening, are_attributes, named_parts}
use Rattle.script_terms.specs.Variables.{quantifier_binder, variables_in}
use Rattle.script_terms.specs.Reading.{ReadLocal, lets_as, quantified_as, parameter_as, ReadBinding, named_as, Sofar, live_sorts, entry_of, is_declared, is_quantified, Reading, ◌>>=◌, gives, refuses, refused_if, by_live, by_rule, binds}
use Rattle.script_terms.specs.Heads.{atom_term, vector_constant, callee_of, applied}

-- where a term stands
pub record Context : Type 0 where
  -- what is bound locally, the innermost first
  pub locals : List ReadLocal
  -- the name that the command defines
  pub defines : Option Name

abbrev pub with_local : ReadLocal → Context → Context
with_local l c = record { locals = l ∷ c.locals; defines = c.defines }

abbrev pub is_empty : Forms → Bool
is_empty none = true
is_empty (f ⨾ fs) = false

-- ---- names of a `let`

-- a name that stands behind others of its `let`
abbrev pub let_name : List Name → ℕ → ℕ → Option Name → Result Name Refused
let_name earlier part place None = at BadForm part
let_name earlier part place (Some n) =
    unless (is_reserved_for_let n) ReservedName place (unless (is_among earlier n) Redeclared place (Ok n))

-- ---- quantified names

abbrev pub name_first : Name → List Name × Supply → List Name × Supply
name_first n r = (n ∷ r.0, r.1)

abbrev pub name_drawn_if : Bool → Name → Supply → (Supply → List Name × Supply) → List Name × Supply
name_drawn_if true n s more = name_first (next_name s) (more (after_draw s))
name_drawn_if false n s more = name_first n (more s)

-- names for the constants that variables are read as, from the first to the last: a fresh one for each name that is taken
abbrev pub constant_names : (Name → Bool) → List Variable → Supply → List Name × Supply
constant_names is_taken [] s = ([], s)
constant_names is_taken (x ∷ xs) s = name_drawn_if (is_taken x.name) x.name s (λ s'. constant_names is_taken xs s')

-- a live declared symbol has the name, or a quantifier around the place binds it
abbrev pub is_taken : List ReadLocal → List ReadBinding → Name → Bool
is_taken locals live n = is_declared live n || is_quantified locals n

abbrev pub given_names : Sofar → List Name × Supply → Result (List Name × Sofar) Refused
given_names s r = Ok (r.0, record s { supply = r.1 })

abbrev pub draws_names : Context → List Variable → Reading (List Name)
draws_names c xs s = given_names s (constant_names (is_taken c.locals s.live) xs s.supply)

abbrev pub with_quantified : List Variable → List Name → List ReadLocal → List ReadLocal
with_quantified (x ∷ xs) (n ∷ ns) ls = with_quantified xs ns (quantified_as x n ∷ ls)
with_quantified _ _ ls = ls

abbrev pub below_quantifier : List Variable → List Name → Context → Context
below_quantifier xs ns c = record { locals = with_quantified xs ns c.locals; defines = c.defines }

-- the variables under other names
abbrev pub renamed : List Variable → List Name → List Variable
renamed (x ∷ xs) (n ∷ ns) = record { name = n; sort = x.sort } ∷ renamed xs ns
renamed _ _ = []

-- a term has this sort
abbrev pub is_of_sort : Sort → Option Sort → Bool
is_of_sort s None = false
is_of_sort s (Some t) = sort_eq t s

abbrev pub has_sort : Sort → Term → Bool
has_sort s t = is_of_sort s (sort_of t)

abbrev pub quantified_over : ℕ → Quantifier → List Variable → Term → Reading Term
quantified_over place q xs t = by_rule (unless (not (has_sort bool t)) WrongSort place (Ok (quantified q xs t)))

-- ---- names of terms

abbrev pub is_the : Option Name → Name → Bool
is_the None n = false
is_the (Some m) n = name_eq m n

-- a live name, a name behind these of its annotation, or the name that is being defined
abbrev pub is_given : List ReadBinding → Option Name → List Name → Name → Bool
is_given live defines earlier n = is_some (entry_of live n) || (is_among earlier n || is_the defines n)

abbrev pub term_name : List ReadBinding → Option Name → List Name → ℕ → Option Name → Result Name Refused
term_name live defines earlier place None = at BadForm place
term_name live defines earlier place (Some n) =
    unless (is_reserved_for_declaring n) ReservedName place (unless (is_given live defines earlier n) Redeclared place (Ok n))

-- the form behind a `:named`, of an annotation at this place
abbrev pub term_name_in : List ReadBinding → Option Name → List Name → ℕ → Option Form → Result Name Refused
term_name_in live defines earlier place None = at BadForm place
term_name_in live defines earlier place (Some f) = term_name live defines earlier (place_of f) (symbol_in f)

abbrev pub term_names : Option Name → ℕ → List Name → List (Option Form) → List ReadBinding → Result (List Name) Refused
term_names defines place earlier [] live = Ok []
term_names defines place earlier (p ∷ ps) live =
    and_then (λ n. mapped (λ ns. n ∷ ns) (term_names defines place (n ∷ earlier) ps live)) (term_name_in live defines earlier place p)

-- the constants of quantified names and parameters
abbrev pub local_constants : List ReadLocal → List Symbol
local_constants [] = []
local_constants (lets_as fs ts ∷ ls) = local_constants ls
local_constants (quantified_as x n ∷ ls) = constant_of (record { name = n; sort = x.sort }) ∷ local_constants ls
local_constants (parameter_as x n ∷ ls) = constant_of (record { name = n; sort = x.sort }) ∷ local_constants ls

-- a quantified name or a parameter occurs free in the term
abbrev pub mentions_local : List ReadLocal → Term → Bool
mentions_local ls t = list_any (λ f. is_among_symbols (local_constants ls) f) (free t)

-- the term gets its names, if it is given any
abbrev pub annotated : ℕ → Context → Form → Term → List Name → Reading Term
annotated place c f t [] = gives t
annotated place c f t (n ∷ ns) = refused_if (mentions_local c.locals t) BadForm place (binds (named_as (n ∷ ns) f t c.locals) t)

-- ---- terms

abbrev mutual
  -- the term that a form is
  pub read : Form → Context → Reading Term
  read (atom t) c = by_live (atom_term c.locals t)
  read (node place none) c = refuses BadForm place
  read (node place (f ⨾ fs)) c = read_list (opening f) fs place c

  -- a list that begins so, from its second form on
  pub read_list : Opening → Forms → ℕ → Context → Reading Term
  read_list let_word (node part bs ⨾ body ⨾ none) place c = refused_if (is_empty bs) BadForm place do
    ts ← read_bindings bs [] c
    read body (with_local (lets_as bs ts) c)
  read_list let_word _ place c = refuses BadForm place
  read_list (quantifier_word q) (node part bs ⨾ body ⨾ none) place c = refused_if (is_empty bs) BadForm place do
    xs ← by_live (λ live. variables_in quantifier_binder (live_sorts live) [] bs)
    ns ← draws_names c xs
    t ← read body (below_quantifier xs ns c)
    quantified_over place q (renamed xs ns) t
  read_list (quantifier_word q) _ place c = refuses BadForm place
  read_list annotation_word (f ⨾ attributes) place c = refused_if (not (are_attributes attributes)) BadForm place do
    t ← read f c
    ns ← by_live (term_names c.defines place [] (named_parts attributes))
    annotated place c f t ns
  read_list annotation_word none place c = refuses BadForm place
  read_list index_word fs place c = by_rule (vector_constant place fs)
  read_list (head f) (g ⨾ gs) place c = do
    callee ← by_live (callee_of c.locals f)
    t ← read g c
    ts ← read_all gs c
    applied callee place (t ∷ ts)
  read_list (head f) none place c = refuses BadForm place

  -- the names of a `let` with their terms, in order, behind names that stand before them
  pub read_bindings : Forms → List Name → Context → Reading (List (Name × Term))
  read_bindings none earlier c = gives []
  read_bindings (node part (x ⨾ f ⨾ none) ⨾ bs) earlier c = do
    n ← by_rule (let_name earlier part (place_of x) (symbol_in x))
    t ← read f c
    ts ← read_bindings bs (n ∷ earlier) c
    gives ((n, t) ∷ ts)
  read_bindings (f ⨾ bs) earlier c = refuses BadForm (place_of f)

  pub read_all : Forms → Context → Reading (List Term)
  read_all none c = gives []
  read_all (f ⨾ fs) c = do
    t ← read f c
    ts ← read_all fs c
    gives (t ∷ ts)
