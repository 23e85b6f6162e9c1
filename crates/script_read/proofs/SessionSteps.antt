-- What a command makes of a session: refusals, and sorts, symbols and definitions that come in front.
use Rattle.std.proofs.Common.{◌≡◌, ℕ, ◌==◌, true, false, not, List, [], ◌∷◌, Result, Ok, Err, refl, ap, sym, ◌∙◌, subst}
use Rattle.std.specs.Prelude.{IsErrAnd}
use Rattle.smt_lex.specs.Names.{Name}
use Rattle.smt_lex.specs.Forms.{Form, Forms, none, ◌⨾◌}
use Rattle.smt_terms.specs.declared.ids.SymId.{SymId}
use Rattle.smt_terms.specs.declared.ids.SortId.{SortId}
use Rattle.smt_terms.specs.Sorts.{Sort, free_sort}
use Rattle.smt_values.specs.SortIds.{sort_at, IsSortId}
use Rattle.term_table.specs.Formulas.{Formulas, symbol_at}
use Rattle.term_walk.specs.Walking.{GrowsTo}
use Rattle.script_terms.specs.declared.causes.Cause.TheVariants.{SortArity}
use Rattle.script_terms.specs.declared.faults.ReadFault.{ReadFault}
use Rattle.script_terms.specs.declared.faults.ReadFault.TheVariants.{Refused as RefusedFor, Memory}
use Rattle.script_terms.specs.declared.scopes.Entry.{Entry}
use Rattle.script_read.specs.declared.scripts.Command.{Command}
use Rattle.script_read.specs.declared.scripts.Command.TheVariants.{DeclareSort, Declare}
use Rattle.script_read.specs.declared.session.Session.{Session}
use Rattle.script_read.specs.CommandLists.{free_name}
use Rattle.script_read.specs.Commands.{declare_sort, declare}
use Rattle.script_terms.specs.Known.{Scoping, IsEntry, symbol_meant, meant_by, with_sort, with_entry, Shows}
use Rattle.script_read.specs.Outlines.{At}
use Rattle.script_terms.specs.Parts.{place_of}
use Rattle.script_terms.specs.Reading.{ReadBinding, sort_known, function_known, live_sorts}
use Rattle.script_terms.specs.Refusals.{Refused, at, and_then, unless, mapped}
use Rattle.script_terms.specs.Replies.{refused_seen, Refuses, Follows}
use Rattle.script_read.specs.Script.{Standing, Step, live_of, begun_with, declarable, sort_declarable, declares_sort, without_parameters, defines_sort, declares, symbol_of_sorts, declares_symbol}
use Rattle.script_terms.specs.SortForms.{sort_in, sorts_in}
use Rattle.script_read.specs.Steps.{StandsAt, Steps, StepsTo}
use Rattle.script_terms.proofs.Grown.{later_self}
use Rattle.script_read.proofs.NewNames.{declarable_own, declarable_passed, sort_declarable_passed}
use Rattle.script_terms.proofs.Showing.{shows_stays, shows_sort, shows_symbol}

-- ---- refusals

-- what refuses a part refuses the whole
pub refuses_whole : {A B : Type 0} (part : Result A Refused) (whole : Result B Refused) (f : ReadFault) → ((e : Refused) → part ≡ Err e → whole ≡ Err e) → Refuses part f → Refuses whole f
refuses_whole part whole (RefusedFor e) lifts refused = lifts (refused_seen e) refused
refuses_whole part whole Memory lifts refused = tt

module _ {A : Type 0} (value : A → List Command) (t : Formulas) (x : Session) (step : Step) where
  pub steps_refused : (r : Result A ReadFault) (f : ReadFault) → IsErrAnd r (λ made. made ≡ f) → Refuses step f → StepsTo value t x step r
  steps_refused (Ok a) f is refused = absurd is
  steps_refused (Err made) f is refused = subst (Refuses step) (sym is) refused

pub follows_refused : {A B : Type 0} (definition : Result B Refused) (value : A → B) (r : Result A ReadFault) (f : ReadFault) → IsErrAnd r (λ made. made ≡ f) → Refuses definition f → Follows definition value r
follows_refused definition value (Ok a) f is refused = absurd is
follows_refused definition value (Err made) f is refused = subst (Refuses definition) (sym is) refused

-- ---- what stays

pub stands_grown : (t u : Formulas) (x : Session) (s : Standing) → GrowsTo t u → StandsAt t x s → StandsAt u x s
stands_grown t u x s grows stands = record {
  shows = shows_stays t u x.sofar.fresh x.sofar.fresh grows (later_self x.sofar.fresh) x.sofar.scope s.sofar.live stands.shows;
  supply = stands.supply;
  global = stands.global;
  begun = stands.begun;
  asserted = stands.asserted;
}

-- a session behind a command that fixes the options, with this scope
abbrev pub begun_at : Session → Scoping → Session
begun_at x scope = record { sofar = record { scope = scope; fresh = x.sofar.fresh }; global = x.global; begun = true; asserted = x.asserted }

pub stands_begun : (t u : Formulas) (x : Session) (s : Standing) (scope : Scoping) (live : List ReadBinding) → StandsAt t x s → Shows u x.sofar.fresh scope live → StandsAt u (begun_at x scope) (begun_with s live)
stands_begun t u x s scope live stands shows = record { shows = shows; supply = stands.supply; global = stands.global; begun = refl; asserted = stands.asserted }

module _ (t u : Formulas) (x : Session) (s : Standing) (stands : StandsAt t x s) (grows : GrowsTo t u) where
  shown : Shows u x.sofar.fresh x.sofar.scope s.sofar.live
  shown = shows_stays t u x.sofar.fresh x.sofar.fresh grows (later_self x.sofar.fresh) x.sofar.scope s.sofar.live stands.shows

  -- ---- sorts

  module _ (n : At Name) (arity : At ℕ) (name : Unit {0}) (free : sort_declarable (live_of s) n (Ok (tt {0})) ≡ Ok name) where
    pub sort_arity_refused : (arity.it == 0) ≡ false → declares_sort n arity s ≡ at SortArity arity.place
    sort_arity_refused some =
        sort_declarable_passed (live_of s) n (unless (not (arity.it == 0)) SortArity arity.place (Ok (declare_sort n.it ∷ [], begun_with s (sort_known n.it (free_sort n.it) ∷ live_of s)))) name free
        ∙ ap (λ b. unless (not b) SortArity arity.place (Ok (declare_sort n.it ∷ [], begun_with s (sort_known n.it (free_sort n.it) ∷ live_of s)))) some

    pub sort_declared : (k : SortId) (scope : Scoping) → (arity.it == 0) ≡ true → IsSortId u.sorts k → sort_at u.sorts k ≡ free_sort n.it → scope ≡ with_sort n.it k x.sofar.scope → Steps u (begun_at x scope) (DeclareSort k ∷ []) (declares_sort n arity s)
    sort_declared k scope zero within is scope_is = record {
      standing = begun_with s (sort_known n.it (free_sort n.it) ∷ live_of s);
      stands =
          stands_begun t u x s scope (sort_known n.it (free_sort n.it) ∷ live_of s) stands
          (subst (λ (sc : Scoping). Shows u x.sofar.fresh sc (sort_known n.it (free_sort n.it) ∷ live_of s)) (sym scope_is) (shows_sort u x.sofar.fresh x.sofar.scope (live_of s) shown n.it k (free_sort n.it) within is));
      gives =
          sort_declarable_passed (live_of s) n (unless (not (arity.it == 0)) SortArity arity.place (Ok (declare_sort n.it ∷ [], begun_with s (sort_known n.it (free_sort n.it) ∷ live_of s)))) name free
          ∙ ap (λ b. unless (not b) SortArity arity.place (Ok (declare_sort n.it ∷ [], begun_with s (sort_known n.it (free_sort n.it) ∷ live_of s)))) zero
          ∙ ap (λ m. Ok (declare_sort m ∷ [], begun_with s (sort_known n.it (free_sort n.it) ∷ live_of s))) (sym (ap free_name is));
    }

  module _ (n : At Name) (parameters : Forms) (f : Form) (name : Unit {0}) (free : sort_declarable (live_of s) n (Ok (tt {0})) ≡ Ok name) where
    abbrev defined : Result Sort Refused → Step
    defined r = mapped (λ to. ([], begun_with s (sort_known n.it to ∷ live_of s))) r

    pub sort_parameters_refused : (g : Form) (gs : Forms) → parameters ≡ g ⨾ gs → defines_sort n parameters f s ≡ at SortArity (place_of g)
    sort_parameters_refused g gs some =
        sort_declarable_passed (live_of s) n (without_parameters parameters (defined (sort_in (live_sorts (live_of s)) f))) name free
        ∙ ap (λ fs. without_parameters fs (defined (sort_in (live_sorts (live_of s)) f))) some

    no_parameters : parameters ≡ none → defines_sort n parameters f s ≡ defined (sort_in (live_sorts (live_of s)) f)
    no_parameters nothing =
        sort_declarable_passed (live_of s) n (without_parameters parameters (defined (sort_in (live_sorts (live_of s)) f))) name free
        ∙ ap (λ fs. without_parameters fs (defined (sort_in (live_sorts (live_of s)) f))) nothing

    pub sort_refused : (e : Refused) → parameters ≡ none → sort_in (live_sorts (live_of s)) f ≡ Err e → defines_sort n parameters f s ≡ Err e
    sort_refused e nothing refused = no_parameters nothing ∙ ap defined refused

    pub sort_defined : (k : SortId) (scope : Scoping) → parameters ≡ none → sort_in (live_sorts (live_of s)) f ≡ Ok (sort_at u.sorts k) → IsSortId u.sorts k → scope ≡ with_sort n.it k x.sofar.scope → Steps u (begun_at x scope) [] (defines_sort n parameters f s)
    sort_defined k scope nothing read within scope_is = record {
      standing = begun_with s (sort_known n.it (sort_at u.sorts k) ∷ live_of s);
      stands =
          stands_begun t u x s scope (sort_known n.it (sort_at u.sorts k) ∷ live_of s) stands
          (subst (λ (sc : Scoping). Shows u x.sofar.fresh sc (sort_known n.it (sort_at u.sorts k) ∷ live_of s)) (sym scope_is) (shows_sort u x.sofar.fresh x.sofar.scope (live_of s) shown n.it k (sort_at u.sorts k) within refl));
      gives = no_parameters nothing ∙ ap defined read;
    }

  -- ---- symbols

  module _ (n : At Name) (arguments : Forms) (f : Form) (name : Unit {0}) (free : declarable (live_of s) n (Ok (tt {0})) ≡ Ok name) where
    abbrev with_result : List Sort → Result Sort Refused → Step
    with_result args r = mapped (λ to. declares s (symbol_of_sorts n.it args to)) r

    abbrev with_arguments : Result (List Sort) Refused → Step
    with_arguments r = and_then (λ args. with_result args (sort_in (live_sorts (live_of s)) f)) r

    new_symbol : declares_symbol n arguments f s ≡ with_arguments (sorts_in (live_sorts (live_of s)) arguments)
    new_symbol = declarable_passed (live_of s) n (with_arguments (sorts_in (live_sorts (live_of s)) arguments)) name free

    pub arguments_refused : (e : Refused) → sorts_in (live_sorts (live_of s)) arguments ≡ Err e → declares_symbol n arguments f s ≡ Err e
    arguments_refused e refused = new_symbol ∙ ap with_arguments refused

    pub result_refused : (args : List Sort) (e : Refused) → sorts_in (live_sorts (live_of s)) arguments ≡ Ok args → sort_in (live_sorts (live_of s)) f ≡ Err e → declares_symbol n arguments f s ≡ Err e
    result_refused args e read refused = new_symbol ∙ ap with_arguments read ∙ ap (with_result args) refused

    pub symbol_declared : (args : List Sort) (to : Sort) (k : SymId) (e : Entry) (scope : Scoping) → sorts_in (live_sorts (live_of s)) arguments ≡ Ok args → sort_in (live_sorts (live_of s)) f ≡ Ok to → symbol_at u k ≡ symbol_of_sorts n.it args to → IsEntry u x.sofar.fresh x.sofar.scope.definitions n.it e → meant_by u x.sofar.scope.definitions e ≡ symbol_meant (symbol_of_sorts n.it args to) → scope ≡ with_entry n.it e x.sofar.scope → Steps u (begun_at x scope) (Declare k ∷ []) (declares_symbol n arguments f s)
    symbol_declared args to k e scope read read_to is entry meant scope_is = record {
      standing = begun_with s (function_known (symbol_of_sorts n.it args to) ∷ live_of s);
      stands =
          stands_begun t u x s scope (function_known (symbol_of_sorts n.it args to) ∷ live_of s) stands
          (subst (λ (sc : Scoping). Shows u x.sofar.fresh sc (function_known (symbol_of_sorts n.it args to) ∷ live_of s)) (sym scope_is)
          (shows_symbol u x.sofar.fresh x.sofar.scope (live_of s) shown n.it e (symbol_of_sorts n.it args to) entry meant refl (declarable_own (live_of s) n name free)));
      gives =
          new_symbol ∙ ap with_arguments read ∙ ap (with_result args) read_to
          ∙ ap (λ g. Ok (declare g ∷ [], begun_with s (function_known (symbol_of_sorts n.it args to) ∷ live_of s))) (sym is);
    }
