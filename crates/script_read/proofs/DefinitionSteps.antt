-- Definitions of functions: their parameters, and what reading the body makes of a session.
use Rattle.std.proofs.Common.{◌≡◌, ℕ, zero, suc, ◌+◌, ◌<◌, ◌≤◌, Bool, true, false, not, List, [], ◌∷◌, map, drop, length, get_or, All, Option, Some, None, option_map, Result, Ok, Err, refl, ap, sym, ◌∙◌, subst, arith}
use Rattle.std.proofs.lemmas.List.{get_or-map, length-map, drop_more, drop_all}
use Rattle.std.proofs.lemmas.List.Elements.{All-cons, All-weaker, All-map}
use Rattle.smt_lex.specs.Forms.{Form, Forms}
use Rattle.smt_lex.specs.Lex.{Token}
use Rattle.smt_lex.specs.Names.{Name}
use Rattle.smt_terms.specs.declared.ids.NodeId.{NodeId}
use Rattle.smt_terms.specs.Fresh.{Supply}
use Rattle.smt_terms.specs.Sorts.{Sort, Symbol, Variable}
use Rattle.smt_terms.specs.Subst.{parameter}
use Rattle.smt_terms.specs.Term.{Term}
use Rattle.smt_values.specs.SortIds.{sort_at}
use Rattle.term_table.specs.Formulas.{Formulas, tree, symbol_at, IsSymbol}
use Rattle.term_subst.specs.declared.maps.Definition.{Definition}
use Rattle.term_walk.specs.Walking.{GrowsTo}
use Rattle.script_terms.specs.declared.binders.SortedName.{SortedName}
use Rattle.script_terms.specs.declared.causes.Cause.TheVariants.{WrongSort}
use Rattle.script_terms.specs.declared.locals.Constant.{Constant}
use Rattle.script_terms.specs.declared.locals.Local.TheVariants.{Parameter}
use Rattle.script_read.specs.declared.session.Session.{Session}
use Rattle.script_terms.specs.BinderClauses.{IsSortedName, AreSortedNames}
use Rattle.script_terms.specs.Bound.{LocalNames, LocalMeant, parameter_meant, local_meant, locals_shown, IsLocal, ShowsLocals, name_at, variable_seen, variables_seen, symbols_seen}
use Rattle.script_terms.specs.Heads.{parameters_from}
use Rattle.script_terms.specs.Known.{Scoping, find, with_definition, Shows, IsSpared, IsDefinition, Gives, parameter_sorts, parameters_of, IsConstant, IsOwnName}
use Rattle.script_read.specs.Outlines.{At}
use Rattle.script_terms.specs.Parts.{place_of}
use Rattle.script_terms.specs.Read.{Context, has_sort, read}
use Rattle.script_terms.specs.Reading.{ReadLocal, parameter_as, ReadBinding, definition_as, Sofar, live_sorts, entry_of}
use Rattle.script_terms.specs.Refusals.{Refused, at, and_then, unless, mapped}
use Rattle.script_read.specs.Script.{Standing, Step, live_of, declarable, parameters_read, body_context, begun_after, defined_with, of_sort, read_body, defines_symbol}
use Rattle.script_terms.specs.SortForms.{Sorts, sort_in}
use Rattle.script_read.specs.Steps.{StandsAt, Steps, header_in}
use Rattle.script_terms.specs.Variables.{definition_binder, variables_in}
use Rattle.script_read.proofs.DefinedName.{body_free}
use Rattle.script_terms.proofs.Grown.{same_map, symbol_within, symbol_stays, sort_stays}
use Rattle.script_read.proofs.NewNames.{declarable_passed}
use Rattle.script_terms.proofs.Showing.{entry_found, entry_meant, shows_definition}

-- ---- the header

module _ (s : Standing) (n : At Name) (parameters : Forms) (f body : Form) (name : Unit {0}) (free : declarable (live_of s) n (Ok (tt {0})) ≡ Ok name) where
  abbrev after_header : Result (List Variable × Sort) Refused → Step
  after_header r = and_then (λ h. read_body n.it h.0 h.1 body s) r

  sort_behind : (xs : List Variable) (r : Result Sort Refused) → and_then (λ to. read_body n.it xs to body s) r ≡ after_header (mapped (λ to. (xs, to)) r)
  sort_behind xs (Ok to) = refl
  sort_behind xs (Err e) = refl

  header_behind : (r : Result (List Variable) Refused) → and_then (λ xs. and_then (λ to. read_body n.it xs to body s) (sort_in (live_sorts (live_of s)) f)) r ≡ after_header (and_then (λ xs. mapped (λ to. (xs, to)) (sort_in (live_sorts (live_of s)) f)) r)
  header_behind (Ok xs) = sort_behind xs (sort_in (live_sorts (live_of s)) f)
  header_behind (Err e) = refl

  header_first : defines_symbol n parameters f body s ≡ after_header (header_in (live_sorts (live_of s)) parameters f)
  header_first =
      declarable_passed (live_of s) n (and_then (λ xs. and_then (λ to. read_body n.it xs to body s) (sort_in (live_sorts (live_of s)) f)) (variables_in definition_binder (live_sorts (live_of s)) [] parameters)) name free
      ∙ header_behind (variables_in definition_binder (live_sorts (live_of s)) [] parameters)

  pub header_refused : (e : Refused) → header_in (live_sorts (live_of s)) parameters f ≡ Err e → defines_symbol n parameters f body s ≡ Err e
  header_refused e refused = header_first ∙ ap after_header refused

  pub header_read : (xs : List Variable) (to : Sort) → header_in (live_sorts (live_of s)) parameters f ≡ Ok (xs, to) → defines_symbol n parameters f body s ≡ read_body n.it xs to body s
  header_read xs to read = header_first ∙ ap after_header read

-- ---- parameters and their constants

pub parameters_alike : (i : ℕ) (xs : List Variable) → parameters_of i (map (λ x. x.sort) xs) ≡ parameters_from i xs
parameters_alike i [] = refl
parameters_alike i (x ∷ xs) = ap (λ ps. parameter i x.sort ∷ ps) (parameters_alike (suc i) xs)

pub sorts_of_parameters : (i : ℕ) (ss : List Sort) → map (λ (f : Symbol). f.result) (parameters_of i ss) ≡ ss
sorts_of_parameters i [] = refl
sorts_of_parameters i (s ∷ ss) = ap (λ rs. s ∷ rs) (sorts_of_parameters (suc i) ss)

pub sorts_seen : (t : Formulas) (ts : List Token) (xs : List SortedName) → map (λ (x : Variable). x.sort) (variables_seen t ts xs) ≡ map (λ x. sort_at t.sorts x.sort) xs
sorts_seen t ts [] = refl
sorts_seen t ts (x ∷ xs) = ap (λ ss. sort_at t.sorts x.sort ∷ ss) (sorts_seen t ts xs)

pub length_parameters : (i : ℕ) (ss : List Sort) → length (parameters_of i ss) ≡ length ss
length_parameters i [] = refl
length_parameters i (s ∷ ss) = ap suc (length_parameters (suc i) ss)

-- one parameter more is bound
module _ (t : Formulas) (supply : Supply) (n : Name) (x : Variable) (i : ℕ) (c : Constant) where
  bound_meant : n ≡ x.name → symbol_at t c.symbol ≡ parameter i x.sort → (later : List (Name × LocalMeant)) → (n, local_meant t (Parameter c)) ∷ later ≡ (x.name, parameter_meant (parameter i x.sort)) ∷ later
  bound_meant named is later = λ j. ((named j, parameter_meant (is j)) ∷ later)

  pub one_parameter : (ps : LocalNames) (ls : List ReadLocal) → ShowsLocals t supply ps ls → n ≡ x.name → symbol_at t c.symbol ≡ parameter i x.sort → IsConstant t supply c → IsOwnName n → ShowsLocals t supply ((n, Parameter c) ∷ ps) (parameter_as x (parameter i x.sort).name ∷ ls)
  one_parameter ps ls shows named is constant own = record {
    names = bound_meant named is (locals_shown t ps) ∙ ap (λ qs. (x.name, parameter_meant (parameter i x.sort)) ∷ qs) shows.names;
    numbers = All-cons (λ p. IsLocal t supply p.1) (n, Parameter c) ps constant shows.numbers;
    own = All-cons (λ p. IsOwnName p.0) (n, Parameter c) ps own shows.own;
  }

-- ---- the body

is_empty_entry : {A B C : Type 0} (f : A → C) (g : B → C) (a : Option A) (b : Option B) → option_map f a ≡ option_map g b → a ≡ None → b ≡ None
is_empty_entry f g a None same nothing = refl
is_empty_entry f g (Some a) (Some b) same nothing = absurd (cc)
is_empty_entry f g None (Some b) same nothing = absurd (cc)

is_empty_found : {A B C : Type 0} (f : A → C) (g : B → C) (a : Option A) (b : Option B) → option_map f a ≡ option_map g b → b ≡ None → a ≡ None
is_empty_found f g None b same nothing = refl
is_empty_found f g (Some a) (Some b) same nothing = absurd (cc)
is_empty_found f g (Some a) None same nothing = absurd (cc)

-- the name that is defined is still free behind the body
pub still_free : (t u : Formulas) (before after : Supply) (s r : Scoping) (live : List ReadBinding) (n : Name) (f : Form) (c : Context) (a : Term) → Shows t before s live → find s.terms n ≡ None → c.defines ≡ Some n → Gives u r after a (read f c (record { live = live; supply = before })) → find r.terms n ≡ None
still_free t u before after s r live n f c a shows free defines gives =
    is_empty_found _ entry_meant (find r.terms n) (entry_of gives.live n) (entry_found u r gives.live gives.shows.terms n)
    (body_free n f c (record { live = live; supply = before }) (record { live = gives.live; supply = after }) a defines
    (is_empty_entry _ entry_meant (find s.terms n) (entry_of live n) (entry_found t s live shows.terms n) free) gives.given)

-- a definition of the table, from its parameters' constants
pub is_definition : (t u : Formulas) (supply left : Supply) (cs : List Constant) (ss : List Sort) (d : Definition) → GrowsTo t u → symbols_seen t cs ≡ parameters_of 0 ss → All (IsConstant t supply) cs → d.params ≡ map (λ c. c.symbol) cs → IsSpared u left d.body → IsDefinition u left d × (parameter_sorts u d ≡ ss)
is_definition t u supply left cs ss d grows seen constants params body = (
  record {
    body = body;
    symbols = subst (All (IsSymbol u)) (sym params) (All-map (IsSymbol u) (λ (c : Constant). c.symbol) cs (All-weaker (IsConstant t supply) (λ c. IsSymbol u c.symbol) (λ c is. symbol_within t u grows c.symbol is.symbol) cs constants));
    params = ap (map (symbol_at u)) params ∙ symbols_in_now cs ∙ seen_now ∙ ap (parameters_of 0) (sym sorts_now);
  },
  sorts_now,
)
  where
    symbols_in_now : (cs : List Constant) → map (symbol_at u) (map (λ (c : Constant). c.symbol) cs) ≡ symbols_seen u cs
    symbols_in_now [] = refl
    symbols_in_now (c ∷ cs) = ap (λ fs. symbol_at u c.symbol ∷ fs) (symbols_in_now cs)

    results_in : (cs : List Constant) → map (λ f. (symbol_at u f).result) (map (λ (c : Constant). c.symbol) cs) ≡ map (λ (f : Symbol). f.result) (symbols_seen u cs)
    results_in [] = refl
    results_in (c ∷ cs) = ap (λ rs. (symbol_at u c.symbol).result ∷ rs) (results_in cs)

    seen_now : symbols_seen u cs ≡ parameters_of 0 ss
    seen_now = same_map (λ c. symbol_at u c.symbol) (λ c. symbol_at t c.symbol) cs (All-weaker (IsConstant t supply) (λ c. symbol_at u c.symbol ≡ symbol_at t c.symbol) (λ c is. symbol_stays t u grows c.symbol is.symbol) cs constants) ∙ seen

    sorts_now : parameter_sorts u d ≡ ss
    sorts_now = ap (map (λ f. (symbol_at u f).result)) params ∙ results_in cs ∙ ap (map (λ (f : Symbol). f.result)) seen_now ∙ sorts_of_parameters 0 ss

-- a session behind a definition
abbrev pub defined_at : Session → Scoping → Supply → Session
defined_at x scope left = record { sofar = record { scope = scope; fresh = left }; global = x.global; begun = true; asserted = x.asserted }

module _ (t u : Formulas) (x : Session) (s : Standing) (stands : StandsAt t x s) (n : Name) (xs : List Variable) (to : Sort) (body : Form) where
  abbrev reads_body : Result (Term × Sofar) Refused
  reads_body = read body (body_context n xs) (record { live = live_of s; supply = x.sofar.fresh })

  abbrev ends_body : Result (Term × Sofar) Refused → Step
  ends_body r = mapped (defined_with n xs body s) (of_sort to (place_of body) r)

  body_of_sofar : read_body n xs to body s ≡ ends_body reads_body
  body_of_sofar = ap (λ q. ends_body (read body (body_context n xs) (record { live = live_of s; supply = q }))) stands.supply

  pub body_refused : (e : Refused) → reads_body ≡ Err e → read_body n xs to body s ≡ Err e
  body_refused e refused = body_of_sofar ∙ ap ends_body refused

  module _ (k : NodeId) (r : Scoping) (left : Supply) (gives : Gives u r left (tree u k) reads_body) where
    abbrev of_answer : Bool → Step
    of_answer right = mapped (defined_with n xs body s) (unless (not right) WrongSort (place_of body) (Ok (tree u k, record { live = gives.live; supply = left })))

    pub body_missorted : has_sort to (tree u k) ≡ false → read_body n xs to body s ≡ at WrongSort (place_of body)
    body_missorted wrong = body_of_sofar ∙ ap ends_body gives.given ∙ ap of_answer wrong

    pub body_defined : (d : Definition) (scope : Scoping) → has_sort to (tree u k) ≡ true → IsDefinition u left d → parameter_sorts u d ≡ map (λ y. y.sort) xs → d.body ≡ k → IsOwnName n → scope ≡ with_definition n d r → Steps u (defined_at x scope left) [] (read_body n xs to body s)
    body_defined d scope right is sorts at_node own scope_is = record {
      standing = begun_after s (record { live = definition_as n xs body (tree u k) ∷ gives.live; supply = left });
      stands = record {
        shows =
            subst (λ (sc : Scoping). Shows u left sc (definition_as n xs body (tree u k) ∷ gives.live)) (sym scope_is)
            (shows_definition u left r gives.live gives.shows n d xs body (tree u k) is sorts (ap (tree u) at_node) own);
        supply = refl;
        global = stands.global;
        begun = refl;
        asserted = stands.asserted;
      };
      gives = body_of_sofar ∙ ap ends_body gives.given ∙ ap of_answer right;
    }

-- ---- all parameters

length_from : (i : ℕ) (xs : List Variable) → length (parameters_from i xs) ≡ length xs
length_from i [] = refl
length_from i (x ∷ xs) = ap suc (length_from (suc i) xs)

parameter_at : (first i : ℕ) (xs : List Variable) (d : Symbol) (e : Variable) → i < length xs → get_or (parameters_from first xs) i d ≡ parameter (first + i) (get_or xs i e).sort
parameter_at first i [] d e within = absurd (omega arith)
parameter_at first zero (x ∷ xs) d e within = let same : first ≡ first + 0 = omega arith in ap (λ n. parameter n x.sort) same
parameter_at first (suc i) (x ∷ xs) d e within =
    let same : suc first + i ≡ first + suc i = omega arith in
    parameter_at (suc first) i xs d e (omega arith) ∙ ap (λ n. parameter n (get_or xs i e).sort) same

module _ (s t : Formulas) (supply : Supply) (ts : List Token) (xs : List SortedName) (cs : List Constant) (seen : symbols_seen t cs ≡ parameters_from 0 (variables_seen s ts xs)) (constants : All (IsConstant t supply) cs) where
  abbrev vs : List Variable
  vs = variables_seen s ts xs

  abbrev whole : List ReadLocal
  whole = parameters_read vs (parameters_from 0 vs) []

  -- the first i are bound
  abbrev AreBound : ℕ → LocalNames → Type 0
  AreBound i ps = (ls : List ReadLocal) × ShowsLocals t supply ps ls × (parameters_read (drop i vs) (drop i (parameters_from 0 vs)) ls ≡ whole)

  count : length vs ≡ length xs
  count = length-map xs (variable_seen s ts)

  module _ (i : ℕ) (x : SortedName) (c : Constant) (within : i < length xs) (c_within : i < length cs) (x_is : x ≡ get_or xs i x) (c_is : c ≡ get_or cs i c) where
    here : get_or vs i (variable_seen s ts x) ≡ variable_seen s ts x
    here = get_or-map (variable_seen s ts) xs i x (variable_seen s ts x) within ∙ ap (variable_seen s ts) (sym x_is)

    symbol_here : symbol_at t c.symbol ≡ parameter i (sort_at s.sorts x.sort)
    symbol_here =
        let in_vs : i < length vs = let n = count in omega (arith, n) in
        ap (λ (k : Constant). symbol_at t k.symbol) c_is
        ∙ sym (get_or-map (λ (k : Constant). symbol_at t k.symbol) cs i c (symbol_at t c.symbol) c_within)
        ∙ ap (λ fs. get_or fs i (symbol_at t c.symbol)) seen
        ∙ parameter_at 0 i vs (symbol_at t c.symbol) (variable_seen s ts x) in_vs
        ∙ (let same : 0 + i ≡ i = omega arith in ap (λ n. parameter n (get_or vs i (variable_seen s ts x)).sort) same)
        ∙ ap (λ (y : Variable). parameter i y.sort) here

    next : (ls : List ReadLocal) → parameters_read (drop i vs) (drop i (parameters_from 0 vs)) ls ≡ parameters_read (drop (i + 1) vs) (drop (i + 1) (parameters_from 0 vs)) (parameter_as (variable_seen s ts x) (parameter i (sort_at s.sorts x.sort)).name ∷ ls)
    next ls =
        let in_vs : i < length vs = let n = count in omega (arith, n) in
        let in_ps : i < length (parameters_from 0 vs) = let n = length_from 0 vs in omega (arith, n) in
        let same : 0 + i ≡ i = omega arith in
        ap (λ ys. parameters_read ys (drop i (parameters_from 0 vs)) ls) (drop_more vs i (variable_seen s ts x) in_vs)
        ∙ ap (λ ps. parameters_read (get_or vs i (variable_seen s ts x) ∷ drop (i + 1) vs) ps ls) (drop_more (parameters_from 0 vs) i (symbol_at t c.symbol) in_ps)
        ∙ ap (λ y. parameters_read (drop (i + 1) vs) (drop (i + 1) (parameters_from 0 vs)) (parameter_as y (get_or (parameters_from 0 vs) i (symbol_at t c.symbol)).name ∷ ls)) here
        ∙ ap (λ (f : Symbol). parameters_read (drop (i + 1) vs) (drop (i + 1) (parameters_from 0 vs)) (parameter_as (variable_seen s ts x) f.name ∷ ls))
        (parameter_at 0 i vs (symbol_at t c.symbol) (variable_seen s ts x) in_vs ∙ ap (λ n. parameter n (get_or vs i (variable_seen s ts x)).sort) same ∙ ap (λ (y : Variable). parameter i y.sort) here)

    pub more_bound : (ps new : LocalNames) → IsOwnName (name_at ts x.name) → AreBound i ps → new ≡ (name_at ts x.name, Parameter c) ∷ ps → AreBound (i + 1) new
    more_bound ps new own (ls, shows, rest) is = (
      parameter_as (variable_seen s ts x) (parameter i (sort_at s.sorts x.sort)).name ∷ ls,
      subst (λ (qs : LocalNames). ShowsLocals t supply qs (parameter_as (variable_seen s ts x) (parameter i (sort_at s.sorts x.sort)).name ∷ ls)) (sym is)
          (one_parameter t supply (name_at ts x.name) (variable_seen s ts x) i c ps ls shows refl symbol_here (subst (IsConstant t supply) (sym c_is) (constants i c c_within)) own),
      sym (next ls) ∙ rest,
    )

  pub all_bound : (i : ℕ) (ps : LocalNames) → length xs ≤ i → AreBound i ps → ShowsLocals t supply ps whole
  all_bound i ps past (ls, shows, rest) =
      let past_vs : length vs ≤ i = let n = count in omega (arith, n) in
      let past_ps : length (parameters_from 0 vs) ≤ i = let n = length_from 0 vs in omega (arith, n) in
      subst (ShowsLocals t supply ps)
      ((λ j. parameters_read (sym (drop_all i vs past_vs) j) (sym (drop_all i (parameters_from 0 vs) past_ps) j) ls) ∙ rest)
      shows

-- ---- the header as it is read

module _ (known : Sorts) (parameters : Forms) (f : Form) (xs : List Variable) (read : variables_in definition_binder known [] parameters ≡ Ok xs) where
  abbrev with_variables : Result (List Variable) Refused → Result (List Variable × Sort) Refused
  with_variables r = and_then (λ ys. mapped (λ to. (ys, to)) (sort_in known f)) r

  pub header_sort_refused : (e : Refused) → sort_in known f ≡ Err e → header_in known parameters f ≡ Err e
  header_sort_refused e refused = ap with_variables read ∙ ap (mapped (λ to. (xs, to))) refused

  pub header_is : (to : Sort) → sort_in known f ≡ Ok to → header_in known parameters f ≡ Ok (xs, to)
  header_is to is = ap with_variables read ∙ ap (mapped (λ t. (xs, t))) is

pub variables_stay : (t u : Formulas) (ts : List Token) (xs : List SortedName) → GrowsTo t u → AreSortedNames t ts xs → variables_seen u ts xs ≡ variables_seen t ts xs
variables_stay t u ts xs grows are =
    same_map (variable_seen u ts) (variable_seen t ts) xs
    (All-weaker (IsSortedName t ts) (λ x. variable_seen u ts x ≡ variable_seen t ts x) (λ x is. ap (λ s. record { name = name_at ts x.name; sort = s }) (sort_stays t.sorts u.sorts grows.sorts x.sort is.sort)) xs are)

-- ---- constants and locals as the code holds them

pub same_lengths : (t s : Formulas) (cs : List Constant) (xs : List SortedName) → symbols_seen t cs ≡ parameters_of 0 (map (λ (x : SortedName). sort_at s.sorts x.sort) xs) → length cs ≡ length xs
same_lengths t s cs xs seen =
    sym (length-map cs (λ (c : Constant). symbol_at t c.symbol)) ∙ ap length seen ∙ length_parameters 0 (map (λ (x : SortedName). sort_at s.sorts x.sort) xs)
    ∙ length-map xs (λ (x : SortedName). sort_at s.sorts x.sort)

pub seen_from : (t s : Formulas) (ts : List Token) (cs : List Constant) (xs ys : List SortedName) → ys ≡ xs → symbols_seen t cs ≡ parameters_of 0 (map (λ (x : SortedName). sort_at s.sorts x.sort) ys) → symbols_seen t cs ≡ parameters_from 0 (variables_seen s ts xs)
seen_from t s ts cs xs ys same seen =
    seen ∙ ap (λ zs. parameters_of 0 (map (λ (x : SortedName). sort_at s.sorts x.sort) zs)) same ∙ ap (parameters_of 0) (sym (sorts_seen s ts xs)) ∙ parameters_alike 0 (variables_seen s ts xs)

abbrev pub ShowsParameters : Formulas → Formulas → Supply → List Token → List SortedName → LocalNames → Type 0
ShowsParameters s t supply ts xs ps = ShowsLocals t supply ps (parameters_read (variables_seen s ts xs) (parameters_from 0 (variables_seen s ts xs)) [])

pub locals_by : (ts : List Token) (xs ys : List SortedName) (cs ds : List Constant) (ps : LocalNames) → ((s t : Formulas) (supply : Supply) → symbols_seen t ds ≡ parameters_from 0 (variables_seen s ts ys) → All (IsConstant t supply) ds → ShowsParameters s t supply ts ys ps) → ys ≡ xs → ds ≡ cs
    → (s t : Formulas) (supply : Supply) → symbols_seen t cs ≡ parameters_from 0 (variables_seen s ts xs) → All (IsConstant t supply) cs → ShowsParameters s t supply ts xs ps
locals_by ts xs ys cs ds ps bound xs_are cs_are s t supply seen constants =
    subst (λ zs. ShowsParameters s t supply ts zs ps) xs_are
    (bound s t supply (ap (symbols_seen t) cs_are ∙ seen ∙ sym (ap (λ zs. parameters_from 0 (variables_seen s ts zs)) xs_are)) (subst (All (IsConstant t supply)) (sym cs_are) constants))
