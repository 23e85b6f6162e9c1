-- Models that are carried over passes are models over the other signature, and their whole numbers can be read where those that
-- are evaluated on the way lie in the range.
use Rattle.std.proofs.Common.{◌≡◌, ◌∙◌, sym, ap, subst, refl, ℕ, Bool, true, false, cond, List, [], ◌∷◌, ◌++◌, Option, Some, None, ◌⊎◌, inl, inr}
use Rattle.std.specs.Prelude.{IfSome}
use Rattle.std.specs.List.{list_all}
use Rattle.smt_terms.specs.Equal.{symbol_eq}
use Rattle.smt_terms.specs.Free.{is_among}
use Rattle.smt_terms.specs.Fresh.{Supply}
use Rattle.smt_terms.specs.Groups.{Named}
use Rattle.smt_terms.specs.Models.{Graph, Model, IsModelOver}
use Rattle.smt_terms.specs.Sorts.{Symbol}
use Rattle.smt_terms.specs.Term.{Term}
use Rattle.smt_terms.specs.Val.{no_variables, fits}
use Rattle.smt_terms.proofs.Tests.{both_true, and_true}
use Rattle.script_read.specs.Commands.{Command, Signature, signature}
use Rattle.ackermann.specs.Tables.{application_graph}
use Rattle.model_texts.specs.Laws.{is_readable_graph}
use Rattle.pass_laws.specs.declared.names.Pass.{Pass}
use Rattle.pass_laws.specs.declared.names.Pass.TheVariants.{Simplify, Nnf, Aig, Prenex, Reads, Shannon, SelfSub, Rules, Ite, Cnf, Ackermann}
use Rattle.pass_laws.specs.Carry.{live_symbols, new_symbols, with_graphs, has_arguments, graph_dropped, graph_applied, live_functions, back_over, back, term_for, declared_new, graph_kept, graph_given, forth_over, forth, Stage, asked_back, asked_forth, back_stages, forth_stages, beyond_at, beyond}
use Rattle.pass_laws.specs.Laws.{keeps_values, IsReady, PassKeepsCommands, PassesLeaveModels, PutsGroups, GroupsCarryModels, RemovalsCarryModels}
use Rattle.pass_laws.specs.Passed.{or_later, apply_pass, passed, refused_by, refused_assertion}
use Rattle.smtrw_answers.proofs.EvaluatedTerms.{FitEach, IsWithin, symbols_fit, all_operands_fit}
use Rattle.smtrw_answers.proofs.ReadableTables.{table_readable}
use Rattle.smtrw_answers.proofs.ReadableValues.{of_sort_readable, IsReadableModel, val_readable}

-- ---- graphs that can be read

abbrev HaveReadable : (Symbol → Option Graph) → Type 0
HaveReadable graphs = (f : Symbol) → IfSome (graphs f) (λ g. is_readable_graph g ≡ true)

dropped_readable : (fs : List Symbol) (graphs : Symbol → Option Graph) → HaveReadable graphs → HaveReadable (graph_dropped fs graphs)
dropped_readable fs graphs all f = by (is_among fs f)
  where
    by : (b : Bool) → IfSome (cond b None (graphs f)) (λ g. is_readable_graph g ≡ true)
    by true = tt
    by false = all f

applied_readable : (fs : List Symbol) (made : Symbol → Graph) (graphs : Symbol → Option Graph) → ((f : Symbol) → is_readable_graph (made f) ≡ true) → HaveReadable graphs → HaveReadable (graph_applied fs made graphs)
applied_readable fs made graphs rows all f = by (is_among fs f)
  where
    by : (b : Bool) → IfSome (cond b (Some (made f)) (graphs f)) (λ g. is_readable_graph g ≡ true)
    by true = rows f
    by false = all f

without_readable : (graphs : Symbol → Option Graph) → HaveReadable graphs → HaveReadable (graph_kept Ackermann graphs)
without_readable graphs all f = by (has_arguments f)
  where
    by : (b : Bool) → IfSome (cond b None (graphs f)) (λ g. is_readable_graph g ≡ true)
    by true = tt
    by false = all f

given_readable : (m : Model) (t : Option Term) (declared : Bool) (f : Symbol) (other : Option Graph) → IsReadableModel m → IfSome t (λ t. fits m t no_variables ≡ true) → IfSome other (λ g. is_readable_graph g ≡ true)
    → IfSome (graph_given m t declared f other) (λ g. is_readable_graph g ≡ true)
given_readable m (Some t) declared f other is fit before = val_readable m is t fit
given_readable m None true f other is fit before = of_sort_readable f.result
given_readable m None false f other is fit before = before

term_fits : (m : Model) (ns : Named) (f : Symbol) → FitEach m ns → IfSome (term_for ns f) (λ t. fits m t no_variables ≡ true)
term_fits m [] f all = tt
term_fits m (n ∷ ns) f all =
    let a = both_true (fits m n.1 no_variables) (list_all (λ (k : Symbol × Term). fits m k.1 no_variables) ns) all in
    by (symbol_eq n.0 f) a.0 (term_fits m ns f a.1)
  where
    by : (b : Bool) → fits m n.1 no_variables ≡ true → IfSome (term_for ns f) (λ t. fits m t no_variables ≡ true) → IfSome (cond b (Some n.1) (term_for ns f)) (λ t. fits m t no_variables ≡ true)
    by true here rest = here
    by false here rest = rest

with_readable : (m : Model) (graphs : Symbol → Option Graph) → IsReadableModel m → HaveReadable graphs → IsReadableModel (with_graphs m graphs)
with_readable m graphs is all = record { graphs = all; div_by_zero = is.div_by_zero; mod_by_zero = is.mod_by_zero }

-- ---- one pass

-- a model over what is declared at the point, whose whole numbers can be read
pub record IsCarriable (cs : List (Command Term)) (k : ℕ) (m : Model) : Type 0 where
  pub over : IsModelOver (signature cs k).sorts (signature cs k).symbols m
  pub readable : IsReadableModel m

pub record CarryingLaws : Type 0 where
  pub keep : PassKeepsCommands
  pub leave : PassesLeaveModels
  pub groups : GroupsCarryModels
  pub removals : RemovalsCarryModels

over_same : (m : Model) (g h : Signature) → g ≡ h → IsModelOver g.sorts g.symbols m → IsModelOver h.sorts h.symbols m
over_same m g h same over = subst (λ (f : Signature). IsModelOver f.sorts f.symbols m) same over

dropped_model : (p : Pass) (cs : List (Command Term)) (s : Supply) (m : Model) → IsReadableModel m → IsReadableModel (with_graphs m (graph_dropped (new_symbols p cs s) m.graphs))
dropped_model p cs s m is = with_readable m (graph_dropped (new_symbols p cs s) m.graphs) is (dropped_readable (new_symbols p cs s) m.graphs is.graphs)

back_readable : (p : Pass) (cs : List (Command Term)) (s : Supply) (k : ℕ) (m : Model) → IsWithin m (asked_back p cs s k) → IsReadableModel m → IsReadableModel (back_over p cs s k m)
back_readable Ackermann cs s k m within is =
    let ns = live_symbols Ackermann cs s k in
    let before = graph_dropped (new_symbols Ackermann cs s) m.graphs in
    with_readable m (graph_applied (live_functions cs k) (application_graph m ns) before) is
    (applied_readable (live_functions cs k) (application_graph m ns) before (λ f. table_readable m is ns f (all_operands_fit cs s k m within)) (dropped_readable (new_symbols Ackermann cs s) m.graphs is.graphs))
back_readable p cs s k m within is = dropped_model p cs s m is

graphs_stay : (p : Pass) (graphs : Symbol → Option Graph) → HaveReadable graphs → HaveReadable (graph_kept p graphs)
graphs_stay Ackermann graphs all = without_readable graphs all
graphs_stay p graphs all = all

forth_readable : (p : Pass) (cs : List (Command Term)) (s : Supply) (k : ℕ) (m : Model) → IsWithin m (asked_forth p cs s k) → IsReadableModel m → IsReadableModel (forth_over p cs s k m)
forth_readable p cs s k m within is =
    let ns = live_symbols p cs s k in
    with_readable m _ is
    (λ f. given_readable m (term_for ns f) (is_among (declared_new p cs s k) f) f (graph_kept p m.graphs f) is (term_fits m ns f (symbols_fit p cs s k m within)) (graphs_stay p m.graphs is.graphs f))

-- a pass keeps values, or carries models over groups
pub kind_of_pass : CarryingLaws → (p : Pass) (cs : List (Command Term)) (s : Supply) → refused_by p cs ≡ None → IsReady cs s → (keeps_values p ≡ true) ⊎ PutsGroups p cs s
kind_of_pass laws Simplify cs s taken ready = inl refl
kind_of_pass laws Nnf cs s taken ready = inl refl
kind_of_pass laws Aig cs s taken ready = inl refl
kind_of_pass laws Prenex cs s taken ready = inl refl
kind_of_pass laws Reads cs s taken ready = inl refl
kind_of_pass laws Shannon cs s taken ready = inl refl
kind_of_pass laws SelfSub cs s taken ready = inl refl
kind_of_pass laws Rules cs s taken ready = inl refl
kind_of_pass laws Ite cs s taken ready = inr (laws.groups Ite cs s refl ready)
kind_of_pass laws Cnf cs s taken ready = inr (laws.groups Cnf cs s refl ready)
kind_of_pass laws Ackermann cs s taken ready = inr (laws.removals cs s ready taken)

module _ (laws : CarryingLaws) (p : Pass) (cs : List (Command Term)) (s : Supply) (taken : refused_by p cs ≡ None) (ready : IsReady cs s) where
  abbrev ds : List (Command Term)
  ds = (apply_pass p cs s).0

  pub ready_behind : IsReady (apply_pass p cs s).0 (apply_pass p cs s).1
  ready_behind = elim (kind_of_pass laws p cs s taken ready) [
    | inl keeps ↦ (laws.keep p cs s keeps ready).ready
    | inr puts ↦ puts.ready
  ]

  one_back : (k : ℕ) (m : Model) → IsWithin m (asked_back p cs s k) → IsCarriable (apply_pass p cs s).0 k m → IsCarriable cs k (back_over p cs s k m)
  one_back k m within is = elim (kind_of_pass laws p cs s taken ready) [
    | inl keeps ↦
        let same = (laws.keep p cs s keeps ready).equivalent.signatures k in
        let stays : back_over p cs s k m ≡ m = (laws.leave (p ∷ []) cs s (and_true (keeps_values p) true keeps refl) k m).0 in
        subst (IsCarriable cs k) (sym stays) (record { over = over_same m (signature ds k) (signature cs k) same is.over; readable = is.readable })
    | inr puts ↦ record { over = puts.signatures.back k m is.over; readable = back_readable p cs s k m within is.readable }
  ]

  one_forth : (k : ℕ) (m : Model) → IsWithin m (asked_forth p cs s k) → IsCarriable cs k m → IsCarriable (apply_pass p cs s).0 k (forth_over p cs s k m)
  one_forth k m within is = elim (kind_of_pass laws p cs s taken ready) [
    | inl keeps ↦
        let same = (laws.keep p cs s keeps ready).equivalent.signatures k in
        let stays : forth_over p cs s k m ≡ m = (laws.leave (p ∷ []) cs s (and_true (keeps_values p) true keeps refl) k m).1 in
        subst (IsCarriable ds k) (sym stays) (record { over = over_same m (signature cs k) (signature ds k) (sym same) is.over; readable = is.readable })
    | inr puts ↦ record { over = puts.signatures.forth k m is.over; readable = forth_readable p cs s k m within is.readable }
  ]

-- ---- lists of passes

pub none_either : (a b : Option ℕ) → or_later a b ≡ None → (a ≡ None) × (b ≡ None)
none_either None b h = (refl, h)
none_either (Some n) b h = absurd cc

-- none of the stages but the last, and not the last
none_behind : (stages : List Stage) (st : Stage) → beyond (stages ++ st ∷ []) ≡ None → (beyond stages ≡ None) × (beyond_at st ≡ None)
none_behind [] st h = (refl, (none_either (beyond_at st) None h).0)
none_behind (q ∷ stages) st h =
    let a = none_either (beyond_at q) (beyond (stages ++ st ∷ [])) h in
    let b = none_behind stages st a.1 in
    (ap (λ o. or_later o (beyond stages)) a.0 ∙ b.0, b.1)

module _ (laws : CarryingLaws) where
  pub ready_passed : (ps : List Pass) (cs : List (Command Term)) (s : Supply) → refused_assertion ps cs s ≡ None → IsReady cs s → IsReady (passed ps cs s).0 (passed ps cs s).1
  ready_passed [] cs s taken ready = ready
  ready_passed (p ∷ ps) cs s taken ready =
      let a = none_either (refused_by p cs) (refused_assertion ps (apply_pass p cs s).0 (apply_pass p cs s).1) taken in
      ready_passed ps (apply_pass p cs s).0 (apply_pass p cs s).1 a.1 (ready_behind laws p cs s a.0 ready)

  pub carried_back : (ps : List Pass) (cs : List (Command Term)) (s : Supply) → refused_assertion ps cs s ≡ None → IsReady cs s → (k : ℕ) (m : Model) → beyond (back_stages ps cs s k m) ≡ None → IsCarriable (passed ps cs s).0 k m
      → IsCarriable cs k (back ps cs s k m)
  carried_back [] cs s taken ready k m within is = is
  carried_back (p ∷ ps) cs s taken ready k m within is =
      let a = none_either (refused_by p cs) (refused_assertion ps (apply_pass p cs s).0 (apply_pass p cs s).1) taken in
      let behind = back ps (apply_pass p cs s).0 (apply_pass p cs s).1 k m in
      let none = none_behind (back_stages ps (apply_pass p cs s).0 (apply_pass p cs s).1 k m) (record { model = behind; asked = asked_back p cs s k }) within in
      one_back laws p cs s a.0 ready k behind none.1
      (carried_back ps (apply_pass p cs s).0 (apply_pass p cs s).1 a.1 (ready_behind laws p cs s a.0 ready) k m none.0 is)

  pub carried_forth : (ps : List Pass) (cs : List (Command Term)) (s : Supply) → refused_assertion ps cs s ≡ None → IsReady cs s → (k : ℕ) (m : Model) → beyond (forth_stages ps cs s k m) ≡ None → IsCarriable cs k m
      → IsCarriable (passed ps cs s).0 k (forth ps cs s k m)
  carried_forth [] cs s taken ready k m within is = is
  carried_forth (p ∷ ps) cs s taken ready k m within is =
      let a = none_either (refused_by p cs) (refused_assertion ps (apply_pass p cs s).0 (apply_pass p cs s).1) taken in
      let rest = forth_stages ps (apply_pass p cs s).0 (apply_pass p cs s).1 k (forth_over p cs s k m) in
      let none = none_either (beyond_at (record { model = m; asked = asked_forth p cs s k })) (beyond rest) within in
      carried_forth ps (apply_pass p cs s).0 (apply_pass p cs s).1 a.1 (ready_behind laws p cs s a.0 ready) k (forth_over p cs s k m) none.1
      (one_forth laws p cs s a.0 ready k m none.0 is)
