-- A task that is done leaves a survey on its way.
use Rattle.std.proofs.Common.{◌≡◌, ℕ, ◌+◌, ◌<◌, ◌⊎◌, inl, inr, ◌==◌, Bool, true, false, not, ◌||◌, if◌then◌else◌, List, [], ◌∷◌, ◌++◌, filter, map, length, get_or, take, All, refl, ap, sym, subst, ◌∙◌}
use Rattle.std.proofs.lemmas.Bool.Decides.{Decides-eqb}
use Rattle.std.proofs.lemmas.List.{map-append, take_more}
use Rattle.std.proofs.lemmas.List.Elements.{All-nil, All-head, All-tail}
use Rattle.smt_terms.specs.declared.ids.NodeId.{NodeId}
use Rattle.smt_terms.specs.declared.ids.SymId.{SymId}
use Rattle.smt_terms.specs.Free.{free, free_of, is_among, with_more, without}
use Rattle.smt_terms.specs.Sorts.{Symbol, Variable}
use Rattle.smt_terms.specs.Term.{Term, apply, quantified, Terms, none, ◌⨾◌, list, constant_of}
use Rattle.smt_terms.proofs.Among.{is_among-append, is_among-with_more}
use Rattle.smt_terms.proofs.Tests.{either_true}
use Rattle.term_table.specs.Formulas.{Formulas, tree, trees_at, operands, variable_of, IsNode, AreNodes, IsSymbol}
use Rattle.term_walk.specs.FreeLists.{named, has_node, own_symbols, AreAmong, AreFree, EachOnce}
use Rattle.term_walk.specs.Binders.{is_quantified}
use Rattle.term_subst.specs.declared.survey.Inner.{Inner}
use Rattle.term_subst.specs.declared.survey.Scope.{Scope}
use Rattle.term_subst.specs.declared.survey.Task.{Task}
use Rattle.term_subst.specs.declared.survey.Task.TheVariants.{Visit, Leave, Close}
use Rattle.term_subst.specs.State.{variables_at}
use Rattle.term_subst.specs.Steps.{visit, build, body_of, bound_in, load}
use Rattle.term_subst.specs.Surveying.{symbols_in, IsScope, AreTasks, LeadsTo, Surveys, tasks_at}
use Rattle.term_subst.proofs.SymbolLists.{filter-same, with_more-none, with_more-same, with_more-grouped, first-among, second-among, once-free}
use Rattle.term_subst.proofs.Turning.{load-operands}

-- ---- a node whose symbols are listed already, or are listed now

pub visited : (t : Formulas) (s : Scope) (k : NodeId) (tasks : List Task) (goal : List Symbol) → has_node s.nodes.keys k ≡ true → Surveys t s (Visit k ∷ tasks) goal → Surveys t s tasks goal
visited t s k tasks goal met surveys = record {
  scope = surveys.scope;
  tasks_are = surveys.tasks_are.1;
  leads = subst (λ fs. LeadsTo t fs tasks goal) (with_more-same (symbols_in t s) (free (tree t k)) (surveys.scope.listed k met)) surveys.leads;
}

more-scope : (t : Formulas) (s new : Scope) (gs : List Symbol) → IsScope t s → new.nodes.keys ≡ s.nodes.keys → symbols_in t new ≡ with_more (symbols_in t s) gs → All (IsSymbol t) new.symbols.keys → IsScope t new
more-scope t s new gs scope same names symbols = record {
  symbols = symbols;
  listed = λ k met f e.
      subst (λ fs. is_among fs f ≡ true) (sym names) (first-among (symbols_in t s) gs f (scope.listed k (ap (λ ks. has_node ks k) (sym same) ∙ met) f e));
}

pub listed-now : (t : Formulas) (s new : Scope) (k : NodeId) (tasks : List Task) (goal : List Symbol) → new.nodes.keys ≡ s.nodes.keys → symbols_in t new ≡ with_more (symbols_in t s) (free (tree t k)) → All (IsSymbol t) new.symbols.keys
    → Surveys t s (Visit k ∷ tasks) goal → Surveys t new tasks goal
listed-now t s new k tasks goal same names symbols surveys = record {
  scope = more-scope t s new (free (tree t k)) surveys.scope same names symbols;
  tasks_are = surveys.tasks_are.1;
  leads = subst (λ fs. LeadsTo t fs tasks goal) (sym names) surveys.leads;
}

-- ---- a quantified node

body-free : (u : Term) → is_quantified u ≡ true → without (bound_in u) (free (body_of u)) ≡ free u
body-free (apply h ts) q = absurd cc
body-free (quantified p xs b) q = refl

pub binder-surveys : (t : Formulas) (s inner : Scope) (i : Inner) (k b : NodeId) (tasks : List Task) (goal : List Symbol) → i.node ≡ k → i.outer ≡ s → is_quantified (tree t k) ≡ true → IsNode t b → tree t b ≡ body_of (tree t k)
    → inner.symbols.keys ≡ [] → inner.nodes.keys ≡ [] → Surveys t s (Visit k ∷ tasks) goal → Surveys t inner (Visit b ∷ Close i ∷ tasks) goal
binder-surveys t s inner i k b tasks goal at out binder node body no_symbols no_nodes surveys =
    let empty : symbols_in t inner ≡ [] = ap (named t) no_symbols in
    let here : free (tree t b) ≡ with_more (symbols_in t inner) (free (tree t b)) = sym (ap (λ fs. with_more fs (free (tree t b))) empty ∙ with_more-none (free (tree t b))) in
    let bound : without (bound_in (tree t i.node)) (free (tree t b)) ≡ free (tree t i.node) =
    (λ j. without (bound_in (tree t (at j))) (free (body j))) ∙ body-free (tree t k) binder ∙ ap (λ n. free (tree t n)) (sym at) in
    let rest : LeadsTo t (with_more (symbols_in t i.outer) (free (tree t i.node))) tasks goal = subst (λ fs. LeadsTo t fs tasks goal) (λ j. with_more (symbols_in t (sym out j)) (free (tree t (sym at j)))) surveys.leads in
    record {
      scope = record {
        symbols = subst (All (IsSymbol t)) (sym no_symbols) (All-nil (IsSymbol t));
        listed = λ n met. absurd (let none : has_node inner.nodes.keys n ≡ false = ap (λ ks. has_node ks n) no_nodes in cc);
      };
      tasks_are = (
        node,
        (
          record {
            node = subst (IsNode t) (sym at) surveys.tasks_are.0;
            binder = ap (λ n. is_quantified (tree t n)) at ∙ binder;
            outer = subst (IsScope t) (sym out) surveys.scope;
          },
          surveys.tasks_are.1,
        ),
      );
      leads = subst (λ fs. LeadsTo t fs (Close i ∷ tasks) goal) here (bound, rest);
    }

-- ---- another node

leads-visits : (t : Formulas) (ts : Terms) (ks : List NodeId) (fs : List Symbol) (tasks : List Task) (goal : List Symbol) → trees_at t ks ≡ list ts → LeadsTo t (with_more fs (free_of ts)) tasks goal → LeadsTo t fs (map Visit ks ++ tasks) goal
leads-visits t none [] fs tasks goal e leads = subst (λ gs. LeadsTo t gs tasks goal) (with_more-same fs [] (λ f h. absurd cc)) leads
leads-visits t none (k ∷ ks) fs tasks goal e leads = absurd cc
leads-visits t (u ⨾ ts) [] fs tasks goal e leads = absurd cc
leads-visits t (u ⨾ ts) (k ∷ ks) fs tasks goal e leads =
    let first : tree t k ≡ u = cc in
    let rest : trees_at t ks ≡ list ts = cc in
    leads-visits t ts ks (with_more fs (free (tree t k))) tasks goal rest
    (subst (λ gs. LeadsTo t gs tasks goal) (sym (with_more-grouped fs (free u) (free_of ts)) ∙ ap (λ v. with_more (with_more fs (free v)) (free_of ts)) (sym first)) leads)

tasks-visits : (t : Formulas) (ks : List NodeId) (tasks : List Task) → AreNodes t ks → AreTasks t tasks → AreTasks t (map Visit ks ++ tasks)
tasks-visits t [] tasks nodes are = are
tasks-visits t (k ∷ ks) tasks nodes are = (All-head (IsNode t) k ks nodes, tasks-visits t ks tasks (All-tail (IsNode t) k ks nodes) are)

steps-visits : (t : Formulas) (ks : List NodeId) (tasks : List Task) → tasks_at t (map Visit ks ++ tasks) ≡ map visit (trees_at t ks) ++ tasks_at t tasks
steps-visits t [] tasks = refl
steps-visits t (k ∷ ks) tasks = ap (λ steps. visit (tree t k) ∷ steps) (steps-visits t ks tasks)

leads-applied : (t : Formulas) (u : Term) (k : NodeId) (ks : List NodeId) (fs : List Symbol) (tasks : List Task) (goal : List Symbol) → tree t k ≡ u → is_quantified u ≡ false → trees_at t ks ≡ operands u
    → LeadsTo t (with_more fs (free u)) tasks goal → LeadsTo t (with_more fs (own_symbols u)) (map Visit ks ++ Leave k ∷ tasks) goal
leads-applied t (apply h ts) k ks fs tasks goal is q same leads =
    let whole = with_more-grouped fs (own_symbols (apply h ts)) (free_of ts) in
    leads-visits t ts ks (with_more fs (own_symbols (apply h ts))) (Leave k ∷ tasks) goal same
    (subst (λ gs. LeadsTo t gs (Leave k ∷ tasks) goal) (sym whole) (subst (λ v. AreAmong (free v) (with_more fs (free (apply h ts)))) (sym is) (second-among fs (free (apply h ts))), leads))
leads-applied t (quantified p xs b) k ks fs tasks goal is q same leads = absurd cc

pub applied-surveys : (t : Formulas) (s new : Scope) (k : NodeId) (ks : List NodeId) (tasks : List Task) (goal : List Symbol) → is_quantified (tree t k) ≡ false → trees_at t ks ≡ operands (tree t k) → AreNodes t ks
    → new.nodes.keys ≡ s.nodes.keys → symbols_in t new ≡ with_more (symbols_in t s) (own_symbols (tree t k)) → All (IsSymbol t) new.symbols.keys
    → Surveys t s (Visit k ∷ tasks) goal → Surveys t new (map Visit ks ++ Leave k ∷ tasks) goal
applied-surveys t s new k ks tasks goal applied kids nodes same names symbols surveys = record {
  scope = more-scope t s new (own_symbols (tree t k)) surveys.scope same names symbols;
  tasks_are = tasks-visits t ks (Leave k ∷ tasks) nodes surveys.tasks_are;
  leads = subst (λ fs. LeadsTo t fs (map Visit ks ++ Leave k ∷ tasks) goal) (sym names) (leads-applied t (tree t k) k ks (symbols_in t s) tasks goal refl applied kids surveys.leads);
}

pub applied-nearer : (t : Formulas) (k : NodeId) (ks : List NodeId) (tasks : List Task) → is_quantified (tree t k) ≡ false → trees_at t ks ≡ operands (tree t k) → load (tasks_at t (map Visit ks ++ Leave k ∷ tasks)) < load (tasks_at t (Visit k ∷ tasks))
applied-nearer t k ks tasks applied kids =
    subst (λ steps. load steps < load (tasks_at t (Visit k ∷ tasks))) (sym (steps-visits t ks (Leave k ∷ tasks) ∙ ap (λ us. map visit us ++ build (tree t k) ∷ tasks_at t tasks) kids))
    (load-operands (tree t k) (tasks_at t tasks) applied)

-- ---- a node that is left

has_node-push : (ks : List NodeId) (k j : NodeId) → has_node (ks ++ k ∷ []) j ≡ (has_node ks j || (j.0 == k.0))
has_node-push [] k j = or-nothing (j.0 == k.0)
  where
    or-nothing : (b : Bool) → (b || false) ≡ b
    or-nothing true = refl
    or-nothing false = refl
has_node-push (i ∷ ks) k j = ap (λ b. j.0 == i.0 || b) (has_node-push ks k j) ∙ grouped (j.0 == i.0) (has_node ks j) (j.0 == k.0)
  where
    grouped : (a b c : Bool) → (a || (b || c)) ≡ ((a || b) || c)
    grouped true b c = refl
    grouped false b c = refl

either-met : (ks : List NodeId) (k j : NodeId) (b : Bool) → has_node (if b then ks else ks ++ k ∷ []) j ≡ true → (has_node ks j ≡ true) ⊎ (j.0 ≡ k.0)
either-met ks k j true e = inl e
either-met ks k j false e = elim (either_true (has_node ks j) (j.0 == k.0) (sym (has_node-push ks k j) ∙ e)) [ inl before ↦ inl before | inr last ↦ inr ((Decides-eqb j.0 k.0).0 last) ]

pub left-surveys : (t : Formulas) (s new : Scope) (k : NodeId) (tasks : List Task) (goal : List Symbol) (b : Bool) → new.symbols.keys ≡ s.symbols.keys → new.nodes.keys ≡ (if b then s.nodes.keys else s.nodes.keys ++ k ∷ [])
    → Surveys t s (Leave k ∷ tasks) goal → Surveys t new tasks goal
left-surveys t s new k tasks goal b same added surveys =
    let names : symbols_in t new ≡ symbols_in t s = ap (named t) same in
    record {
      scope = record {
        symbols = subst (All (IsSymbol t)) (sym same) surveys.scope.symbols;
        listed = λ j met. subst (AreAmong (free (tree t j))) (sym names) (one j (either-met s.nodes.keys k j b (ap (λ ks. has_node ks j) (sym added) ∙ met)));
      };
      tasks_are = surveys.tasks_are.1;
      leads = subst (λ fs. LeadsTo t fs tasks goal) (sym names) surveys.leads.1;
    }
  where
    one : (j : NodeId) → (has_node s.nodes.keys j ≡ true) ⊎ (j.0 ≡ k.0) → AreAmong (free (tree t j)) (symbols_in t s)
    one j (inl before) = surveys.scope.listed j before
    one j (inr number) = subst (λ n. AreAmong (free (tree t (record { 0 = n }))) (symbols_in t s)) (sym number) surveys.leads.0

-- ---- a scope that is left

module _ (t : Formulas) (s : Scope) (i : Inner) (tasks : List Task) (goal : List Symbol) (surveys : Surveys t s (Close i ∷ tasks) goal) (xs : List Variable) (bound unbound : List SymId)
    (names : (f : Symbol) → is_among (named t bound) f ≡ is_among (map constant_of xs) f) (are : xs ≡ bound_in (tree t i.node)) (rest : named t unbound ≡ filter (λ f. not (is_among (named t bound) f)) (symbols_in t s))
    (symbols : All (IsSymbol t) unbound) where
  free-list : named t unbound ≡ free (tree t i.node)
  free-list =
      rest ∙ filter-same (λ f. not (is_among (named t bound) f)) (λ f. not (is_among (map constant_of xs) f)) (symbols_in t s) (λ f. ap not (names f))
      ∙ ap (λ ys. without ys (symbols_in t s)) are ∙ surveys.leads.0

  pub closed-free : AreFree t (tree t i.node) unbound
  closed-free = record { names = free-list; symbols = symbols }

  pub closed-once : EachOnce (named t unbound)
  closed-once = subst EachOnce (sym free-list) (once-free (tree t i.node))

  pub closed-surveys : (new : Scope) → new.nodes.keys ≡ i.outer.nodes.keys → symbols_in t new ≡ with_more (symbols_in t i.outer) (named t unbound) → All (IsSymbol t) new.symbols.keys → Surveys t new tasks goal
  closed-surveys new same listed all = record {
    scope = more-scope t i.outer new (named t unbound) surveys.tasks_are.0.outer same listed all;
    tasks_are = surveys.tasks_are.1;
    leads = subst (λ fs. LeadsTo t fs tasks goal) (ap (with_more (symbols_in t i.outer)) (sym free-list) ∙ sym listed) surveys.leads.1;
  }

-- ---- the symbols that variables bind

pub bound-more : (t : Formulas) (ks : List NodeId) (n : ℕ) (d : NodeId) (old new : List SymId) (g : Symbol) → n < length ks
    → ((f : Symbol) → is_among (named t old) f ≡ is_among (map constant_of (variables_at t (take n ks))) f) → named t new ≡ with_more (named t old) (g ∷ []) → g ≡ constant_of (variable_of (tree t (get_or ks n d)))
    → (f : Symbol) → is_among (named t new) f ≡ is_among (map constant_of (variables_at t (take (n + 1) ks))) f
bound-more t ks n d old new g lt so added is f =
    let x = variable_of (tree t (get_or ks n d)) in
    let last : map constant_of (variables_at t (take (n + 1) ks)) ≡ map constant_of (variables_at t (take n ks)) ++ constant_of x ∷ [] =
    ap (λ js. map constant_of (variables_at t js)) (take_more ks n d lt) ∙ ap (λ us. map constant_of (map variable_of us)) (map-append (tree t) (take n ks) (get_or ks n d ∷ []))
    ∙ ap (map constant_of) (map-append variable_of (trees_at t (take n ks)) (tree t (get_or ks n d) ∷ [])) ∙ map-append constant_of (variables_at t (take n ks)) (x ∷ []) in
    ap (λ gs. is_among gs f) added ∙ is_among-with_more (named t old) (g ∷ []) f
    ∙ (λ j. so f j || is_among (is j ∷ []) f)
    ∙ sym (is_among-append (map constant_of (variables_at t (take n ks))) (constant_of x ∷ []) f)
    ∙ ap (λ gs. is_among gs f) (sym last)

-- ---- from the start to the end

pub survey-starts : (t : Formulas) (s : Scope) (root : NodeId) (tasks : List Task) → IsNode t root → s.symbols.keys ≡ [] → s.nodes.keys ≡ [] → tasks ≡ Visit root ∷ [] → Surveys t s tasks (free (tree t root))
survey-starts t s root tasks node no_symbols no_nodes one = subst (λ ts. Surveys t s ts (free (tree t root))) (sym one) (record {
  scope = record {
    symbols = subst (All (IsSymbol t)) (sym no_symbols) (All-nil (IsSymbol t));
    listed = λ n met. absurd (let none : has_node s.nodes.keys n ≡ false = ap (λ ks. has_node ks n) no_nodes in cc);
  };
  tasks_are = (node, tt);
  leads = ap (λ fs. with_more (named t fs) (free (tree t root))) no_symbols ∙ with_more-none (free (tree t root));
})

pub survey-ends : (t : Formulas) (s : Scope) (root : NodeId) (tasks : List Task) (fs : List SymId) → tasks ≡ [] → fs ≡ s.symbols.keys → Surveys t s tasks (free (tree t root)) → AreFree t (tree t root) fs
survey-ends t s root tasks fs done same surveys = record {
  names = ap (named t) same ∙ subst (λ ts. LeadsTo t (symbols_in t s) ts (free (tree t root))) done surveys.leads;
  symbols = subst (All (IsSymbol t)) (sym same) surveys.scope.symbols;
}
