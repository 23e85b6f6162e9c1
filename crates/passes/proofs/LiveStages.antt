-- The live symbols of each pass, one by one, stage by stage: the terms to be evaluated, the models and the refusals on the way
-- forth.
use Rattle.std.proofs.Common.{◌≡◌, ◌∙◌, sym, ap, refl, subst, ℕ, ◌+◌, ◌≤◌, Bool, true, false, cond, List, [], ◌∷◌, ◌++◌, map, filter, flat_map, take, drop, slice_get, Err, Option, Some, None, is_some, option_map, All, append_assoc}
use Rattle.std.proofs.lemmas.Bool.{ltb-false, le-ltb}
use Rattle.std.proofs.lemmas.List.{map-append, append-nil}
use Rattle.std.proofs.lemmas.List.Elements.{All-nil, All-cons, All-head, All-tail}
use Rattle.std.proofs.lemmas.Grind.{flat_map-append}
use Rattle.std.proofs.lemmas.Option.{slice_get_within, get_or_from_slice_get}
use Rattle.smt_terms.specs.declared.ids.NodeId.{NodeId}
use Rattle.smt_terms.specs.Groups.{Named}
use Rattle.smt_terms.specs.Free.{is_among}
use Rattle.smt_terms.specs.Models.{Graph, Model}
use Rattle.smt_terms.specs.Sorts.{Symbol}
use Rattle.smt_terms.specs.Val.{bits_bound}
use Rattle.smt_terms.proofs.Tests.{left_true, right_true}
use Rattle.smt_terms.specs.declared.ids.SymId.{SymId}
use Rattle.smt_terms.specs.Values.{default_value}
use Rattle.smt_values.specs.Meaning.{meaning}
use Rattle.smt_values.specs.SizeTable.{sizes_by}
use Rattle.smt_values.specs.Valid.{IsValue}
use Rattle.smt_values.specs.declared.value.Value.{Value}
use Rattle.term_table.specs.Formulas.{Formulas, symbol_at, tree, IsSymbol}
use Rattle.models.specs.ModelView.{ModelLists, model_at, with_graph, without_functions}
use Rattle.passes.specs.declared.carrying.CarryFault.{CarryFault}
use Rattle.passes.specs.declared.carrying.CarryFault.TheVariants.{NoSuchCheck, EvalWidth, Beyond128, Memory}
use Rattle.passes.specs.declared.searching.Live.{Live as FoundLive}
use Rattle.passes.specs.declared.searching.LiveSymbol.{LiveSymbol}
use Rattle.passes.specs.declared.plan.Stage.{Stage as PlanStage}
use Rattle.pass_laws.specs.Carry.{Asked, Stage, asked_for, beyond, constant_graph, with_graphs, graph_given, term_for, numbers, most_bits, all_asked}
use Rattle.passes.specs.Carrying.{breaks_in}
use Rattle.pass_laws.specs.LiveGroups.{Drawn, Operands, Met, Told, met_of, asked_of, symbols_in, forth_over_by, forth_by, forth_stages_by}
use Rattle.passes.specs.LiveSymbols.{Given, Live, given_by, live_of, live_at, lives_at, given_at, named_in, asked_in, all_asked_in, kept_over, with_live, beyond_of, breaks_among, widest_of, with_defaults, with_each, valued_at, AreLiveAt, AreValues, IsValueFor, IsBeyondAmong, Answers}
use Rattle.pass_laws.specs.Passed.{least, or_later}
use Rattle.passes.specs.Plans.{Uses, uses_of, told_operands}
use Rattle.passes.proofs.GivenModels.{given_live, each-more, default-more}
use Rattle.passes.proofs.GroupingSteps.{taken_more}
use Rattle.passes.proofs.LeastAsked.{is_wide}
use Rattle.passes.proofs.ListPlaces.{front, all_at, map_at}
use Rattle.pass_laws.proofs.NamedTerms.{all_apart}

-- ---- one element more

abbrev asked_of_given : Given → Asked
asked_of_given g = record { number = g.number; term = g.term }

pub given-more : (t : Formulas) (ls : List LiveSymbol) (i : ℕ) (a : LiveSymbol) → slice_get ls i ≡ Some a → map (given_at t) (take (i + 1) ls) ≡ map (given_at t) (take i ls) ++ given_at t a ∷ []
given-more t ls i a at = ap (map (given_at t)) (taken_more ls i a at) ∙ map-append (given_at t) (take i ls) (a ∷ [])

pub asked-given : (t : Formulas) (ls : List LiveSymbol) (i : ℕ) (a : LiveSymbol) → slice_get ls i ≡ Some a → (qs : List Asked)
    → qs ++ asked_in (map (given_at t) (take (i + 1) ls)) ≡ (qs ++ asked_in (map (given_at t) (take i ls))) ++ record { number = a.assertion; term = tree t a.term } ∷ []
asked-given t ls i a at qs =
    ap (λ gs. qs ++ asked_in gs) (given-more t ls i a at)
    ∙ ap (λ rs. qs ++ rs) (map-append asked_of_given (map (given_at t) (take i ls)) (given_at t a ∷ []))
    ∙ sym (append_assoc qs (asked_in (map (given_at t) (take i ls))) (record { number = a.assertion; term = tree t a.term } ∷ []))

pub stage-more : (t : Formulas) (rs : List FoundLive) (i : ℕ) (r : FoundLive) → slice_get rs i ≡ Some r
    → all_asked_in (lives_at t (take (i + 1) rs)) ≡ all_asked_in (lives_at t (take i rs)) ++ asked_in (live_at t r).given
stage-more t rs i r at =
    ap (λ xs. all_asked_in (lives_at t xs)) (taken_more rs i r at)
    ∙ ap all_asked_in (map-append (live_at t) (take i rs) (r ∷ []))
    ∙ flat_map-append (λ (x : Live). asked_in x.given) (lives_at t (take i rs)) (live_at t r ∷ [])
    ∙ ap (λ ys. all_asked_in (lives_at t (take i rs)) ++ ys) (append-nil (asked_in (live_at t r).given))

-- ---- terms that bind few bits

abbrev pub IsNarrow : Asked → Type 0
IsNarrow q = bits_bound q.term ≤ most_bits

narrow_first : (q : Asked) (qs : List Asked) (b : Bool) → is_wide q ≡ b → least (numbers (cond b (q ∷ filter is_wide qs) (filter is_wide qs))) ≡ None → (widest_of qs ≡ None → All IsNarrow qs) → All IsNarrow (q ∷ qs)
narrow_first q qs true wide none rest = absurd cc
narrow_first q qs false wide none rest = All-cons IsNarrow q qs (ltb-false most_bits (bits_bound q.term) wide) (rest none)

pub all_narrow : (qs : List Asked) → widest_of qs ≡ None → All IsNarrow qs
all_narrow [] none = All-nil IsNarrow
all_narrow (q ∷ qs) none = narrow_first q qs (is_wide q) refl none (all_narrow qs)

pub none_of_narrow : (qs : List Asked) → All IsNarrow qs → widest_of qs ≡ None
none_of_narrow [] all = refl
none_of_narrow (q ∷ qs) all =
    ap (λ b. least (numbers (cond b (q ∷ filter is_wide qs) (filter is_wide qs)))) (le-ltb most_bits (bits_bound q.term) (All-head IsNarrow q qs all))
    ∙ none_of_narrow qs (All-tail IsNarrow q qs all)

-- those of each stage, where all are
pub narrow_at : (rs : List Live) (i : ℕ) (r : Live) → slice_get rs i ≡ Some r → widest_of (all_asked_in rs) ≡ None → widest_of (asked_in r.given) ≡ None
narrow_at rs i r at none =
    none_of_narrow (asked_in r.given)
    (subst (λ (x : Live). All IsNarrow (asked_in x.given)) (get_or_from_slice_get rs i r r at)
    (all_apart IsNarrow (λ (x : Live). asked_in x.given) rs (all_narrow (all_asked_in rs) none) i r (slice_get_within rs i r at)))

pub narrow_term : (t : Formulas) (ls : List LiveSymbol) (i : ℕ) (a : LiveSymbol) → slice_get ls i ≡ Some a → widest_of (asked_in (map (given_at t) ls)) ≡ None → bits_bound (tree t a.term) ≤ 16
narrow_term t ls i a at none =
    all_at IsNarrow (asked_in (map (given_at t) ls)) i (asked_of_given (given_at t a)) (map_at asked_of_given (map (given_at t) ls) i (given_at t a) (map_at (given_at t) ls i a at))
    (all_narrow (asked_in (map (given_at t) ls)) none)

-- ---- as groups

named_by : (i : ℕ) (ns : Named) → named_in (given_by i ns) ≡ ns
named_by i [] = refl
named_by i (n ∷ ns) = ap (λ xs. n ∷ xs) (named_by i ns)

named_all : (ds : List Drawn) → named_in (flat_map (λ d. given_by d.number d.symbols) ds) ≡ flat_map (λ d. d.symbols) ds
named_all [] = refl
named_all (d ∷ ds) =
    map-append (λ (g : Given). (g.symbol, g.term)) (given_by d.number d.symbols) (flat_map (λ e. given_by e.number e.symbols) ds)
    ∙ (λ i. named_by d.number d.symbols i ++ named_all ds i)

asked_by : (i : ℕ) (ns : Named) → asked_in (given_by i ns) ≡ asked_for i (map (λ n. n.1) ns)
asked_by i [] = refl
asked_by i (n ∷ ns) = ap (λ qs. record { number = i; term = n.1 } ∷ qs) (asked_by i ns)

asked_all : (ds : List Drawn) → asked_in (flat_map (λ d. given_by d.number d.symbols) ds) ≡ flat_map (λ d. asked_for d.number (map (λ n. n.1) d.symbols)) ds
asked_all [] = refl
asked_all (d ∷ ds) =
    map-append asked_of_given (given_by d.number d.symbols) (flat_map (λ e. given_by e.number e.symbols) ds)
    ∙ (λ i. asked_by d.number d.symbols i ++ asked_all ds i)

pub named_met : (g : Met) → named_in (live_of g).given ≡ flat_map (λ d. d.symbols) g.live
named_met g = named_all g.live

live_met : (ops : Option Operands) (g : Met) (m : Model) → with_live (is_some ops) (live_of g) m ≡ forth_over_by ops g m
live_met None g m = ap (λ ns. with_graphs m (λ f. graph_given m (term_for ns f) (is_among (symbols_in g.idle) f) f (m.graphs f))) (named_all g.live)
live_met (Some ops) g m = ap (λ ns. with_graphs m (λ f. graph_given m (term_for ns f) (is_among (symbols_in g.idle) f) f ((without_functions m).graphs f))) (named_all g.live)

-- a stage removes applications where it has operands
some_operands : {A : Type 0} (t : Formulas) (o : Option A) (entries : A → Uses) → is_some o ≡ is_some (told_operands t (option_map entries o))
some_operands t (Some u) entries = refl
some_operands t None entries = refl

pub removes_operands : (t : Formulas) (st : PlanStage) → is_some st.uses ≡ is_some (told_operands t (uses_of st))
removes_operands t st = some_operands t st.uses (λ u. u.entries)

-- all terms of the stages
pub asked_forth_by : (k : ℕ) (sts : List Told) (m : Model) → all_asked (forth_stages_by k sts m) ≡ all_asked_in (map (λ st. live_of (met_of k st)) sts)
asked_forth_by k [] m = refl
asked_forth_by k (st ∷ sts) m = λ i. sym (asked_all (met_of k st).live) i ++ asked_forth_by k sts (forth_over_by st.operands (met_of k st) m) i

-- what is live of one stage
pub live_there : (t : Formulas) (k : ℕ) (sts : List Told) (rs : List FoundLive) → AreLiveAt t k sts rs → (i : ℕ) (st : Told) (r : FoundLive) → slice_get sts i ≡ Some st → slice_get rs i ≡ Some r → live_at t r ≡ live_of (met_of k st)
live_there t k sts rs are i st r at here =
    let first : slice_get (lives_at t rs) i ≡ Some (live_at t r) = map_at (live_at t) rs i r here in
    let second : slice_get (map (λ (x : Told). live_of (met_of k x)) sts) i ≡ Some (live_of (met_of k st)) = map_at (λ (x : Told). live_of (met_of k x)) sts i st at in
    let same : slice_get (lives_at t rs) i ≡ slice_get (map (λ (x : Told). live_of (met_of k x)) sts) i = ap (λ xs. slice_get xs i) are in
    let both : Some (live_at t r) ≡ Some (live_of (met_of k st)) = sym first ∙ same ∙ second in
    cc

-- ---- one stage after the other

module _ (t : Formulas) (k : ℕ) (sts : List Told) (i : ℕ) (st : Told) (at : slice_get sts i ≡ Some st) (m : Model) where
  abbrev next : Model
  next = forth_over_by st.operands (met_of k st) m

  abbrev rest : List Stage
  rest = forth_stages_by k (drop (i + 1) sts) next

  pub forth-step : forth_by k (drop i sts) m ≡ forth_by k (drop (i + 1) sts) next
  forth-step = ap (λ xs. forth_by k xs m) (front sts i st at)

  stages_front : forth_stages_by k (drop i sts) m ≡ record { model = m; asked = asked_of (met_of k st) } ∷ rest
  stages_front = ap (λ xs. forth_stages_by k xs m) (front sts i st at)

  pub beyond-step : beyond_of m (asked_of (met_of k st)) ≡ None → beyond (forth_stages_by k (drop i sts) m) ≡ beyond rest
  beyond-step none = ap beyond stages_front ∙ ap (λ o. or_later o (beyond rest)) none

  pub beyond-here : (a : ℕ) → beyond_of m (asked_of (met_of k st)) ≡ Some a → beyond (forth_stages_by k (drop i sts) m) ≡ Some a
  beyond-here a some = ap beyond stages_front ∙ ap (λ o. or_later o (beyond rest)) some

  pub breaks-step : (a : ℕ) (n : NodeId) → breaks_in t rest a n ≡ true → breaks_in t (forth_stages_by k (drop i sts) m) a n ≡ true
  breaks-step a n h =
      ap (λ xs. breaks_in t xs a n) stages_front
      ∙ right_true (breaks_among m (asked_of (met_of k st)) a (tree t n)) (breaks_in t rest a n) h

  pub breaks-here : (a : ℕ) (n : NodeId) → breaks_among m (asked_of (met_of k st)) a (tree t n) ≡ true → breaks_in t (forth_stages_by k (drop i sts) m) a n ≡ true
  breaks-here a n h =
      ap (λ xs. breaks_in t xs a n) stages_front
      ∙ left_true (breaks_among m (asked_of (met_of k st)) a (tree t n)) (breaks_in t rest a n) h

  -- what a stage gives
  module _ (r : FoundLive) (removes : Bool) (is : removes ≡ is_some st.operands) (live : live_at t r ≡ live_of (met_of k st)) where
    asked_here : asked_in (live_at t r).given ≡ asked_of (met_of k st)
    asked_here = ap (λ (x : Live). asked_in x.given) live ∙ asked_all (met_of k st).live

    pub given-within : beyond_of m (asked_in (live_at t r).given) ≡ None → beyond_of m (asked_of (met_of k st)) ≡ None
    given-within none = ap (beyond_of m) (sym asked_here) ∙ none

    pub given-next : (n : Model) → n ≡ with_live removes (live_at t r) m → n ≡ next
    given-next n gives = gives ∙ (λ j. with_live (is j) (live j) m) ∙ live_met st.operands (met_of k st) m

    pub given_refused : (first n : Model) → beyond (forth_stages_by k sts first) ≡ beyond (forth_stages_by k (drop i sts) m)
        → ((a : ℕ) (b : NodeId) → breaks_in t (forth_stages_by k (drop i sts) m) a b ≡ true → breaks_in t (forth_stages_by k sts first) a b ≡ true)
        → (e : CarryFault) → IsBeyondAmong t m (asked_in (live_at t r).given) e → Answers t (forth_stages_by k sts first) n (Err e)
    given_refused first n so breaks (NoSuchCheck c count) h = absurd h
    given_refused first n so breaks (EvalWidth a bits) h = absurd h
    given_refused first n so breaks (Beyond128 a b) h =
        (so ∙ beyond-here a (ap (beyond_of m) (sym asked_here) ∙ h.0), h.1, breaks a b (breaks-here a b (ap (λ qs. breaks_among m qs a (tree t b)) (sym asked_here) ∙ h.2)))
    given_refused first n so breaks Memory h = tt

-- ---- the model behind one stage

graphs_kept : (removes : Bool) (m : Model) (graphs : Symbol → Option Graph) → with_graphs (kept_over removes m) graphs ≡ with_graphs m graphs
graphs_kept true m graphs = refl
graphs_kept false m graphs = refl

module _ (t : Formulas) (r : Live) (removes : Bool) (old kept mid new : ModelLists) (vs : List (SymId × Value)) (are : AreValues t old r.given vs) where
  pub live_given : model_at t kept ≡ kept_over removes (model_at t old) → model_at t mid ≡ with_defaults r.idle (model_at t kept) → model_at t new ≡ with_each (map (valued_at t) vs) (model_at t mid)
      → model_at t new ≡ with_live removes r (model_at t old)
  live_given keeps defaults values =
      values
      ∙ (λ i. with_each (are.values i) ((defaults ∙ ap (with_defaults r.idle) keeps) i))
      ∙ given_live (model_at t old) (kept_over removes (model_at t old)) r.idle r.given
      ∙ graphs_kept removes (model_at t old) (λ f. graph_given (model_at t old) (term_for (named_in r.given) f) (is_among r.idle f) f ((kept_over removes (model_at t old)).graphs f))

-- ---- values, one after the other

pub values_for : (t : Formulas) (m n : ModelLists) (vs : List (SymId × Value)) → n.sizes ≡ m.sizes → All (IsValueFor t m) vs → All (IsValueFor t n) vs
values_for t m n vs same all = subst (λ ss. All (λ p. IsSymbol t p.0 × IsValue (symbol_at t p.0).result (sizes_by t.sorts ss) p.1) vs) (sym same) all

pub define-more : (t : Formulas) (items left : List (SymId × Value)) (p : SymId × Value) → items ≡ left ++ p ∷ [] → (m n : Model) → n ≡ with_graph (symbol_at t p.0) (Some (constant_graph (meaning p.1))) m
    → with_each (map (valued_at t) left) n ≡ with_each (map (valued_at t) items) m
define-more t items left p is m n defined =
    ap (with_each (map (valued_at t) left)) defined
    ∙ sym (each-more (map (valued_at t) left) (valued_at t p) m)
    ∙ ap (λ vs. with_each vs m) (sym (ap (map (valued_at t)) is ∙ map-append (valued_at t) left (p ∷ [])))

pub default-defined : (t : Formulas) (fs : List SymId) (i : ℕ) (f : SymId) → slice_get fs i ≡ Some f → (v : Value) → meaning v ≡ default_value (symbol_at t f).result → (m n o : Model)
    → n ≡ with_defaults (map (symbol_at t) (take i fs)) m → o ≡ with_graph (symbol_at t f) (Some (constant_graph (meaning v))) n → o ≡ with_defaults (map (symbol_at t) (take (i + 1) fs)) m
default-defined t fs i f at v is m n o before defined =
    defined
    ∙ (λ j. with_graph (symbol_at t f) (Some (constant_graph (is j))) (before j))
    ∙ default-more (symbol_at t f) m (map (symbol_at t) (take i fs))
    ∙ ap (λ gs. with_defaults gs m) (sym (ap (map (symbol_at t)) (taken_more fs i f at) ∙ map-append (symbol_at t) (take i fs) (f ∷ [])))
