-- Models in which symbols got values one after the other, and from which they were dropped.
use Rattle.std.proofs.Common.{◌≡◌, ◌∙◌, sym, ap, refl, subst, Bool, true, false, cond, ◌||◌, List, [], ◌∷◌, ◌++◌, Option, Some, None}
use Rattle.smt_terms.specs.Equal.{symbol_eq}
use Rattle.smt_terms.specs.Free.{is_among}
use Rattle.smt_terms.specs.Models.{Graph, Model}
use Rattle.smt_terms.specs.Sorts.{Symbol}
use Rattle.smt_terms.specs.Term.{Term}
use Rattle.smt_terms.specs.Val.{no_variables, val}
use Rattle.smt_terms.specs.Values.{Value, default_value}
use Rattle.smt_terms.proofs.Among.{is_among-append}
use Rattle.smt_terms.proofs.Equal.{Decides-symbol_eq, symbol_itself}
use Rattle.smt_terms.proofs.Tests.{alike_from}
use Rattle.models.specs.ModelView.{with_graph}
use Rattle.pass_laws.specs.Carry.{with_graphs, graph_dropped, graph_given, term_for, constant_graph}
use Rattle.passes.specs.LiveSymbols.{Given, named_in, with_defaults, with_each, values_in}

turned : (f g : Symbol) → symbol_eq f g ≡ true → symbol_eq g f ≡ true
turned f g h = subst (λ x. symbol_eq x f ≡ true) ((Decides-symbol_eq f g).0 h) (symbol_itself f)

flip : (f g : Symbol) → symbol_eq f g ≡ symbol_eq g f
flip f g = alike_from (symbol_eq f g) (symbol_eq g f) (turned f g) (turned g f)

or_none : (b : Bool) → (b || false) ≡ b
or_none true = refl
or_none false = refl

among_more : (fs : List Symbol) (f h : Symbol) → is_among (fs ++ f ∷ []) h ≡ (is_among fs h || symbol_eq f h)
among_more fs f h = is_among-append fs (f ∷ []) h ∙ ap (λ b. is_among fs h || b) (or_none (symbol_eq f h))

-- ---- dropped

either_dropped : (a b : Bool) (g : Option Graph) → cond a None (cond b None g) ≡ cond (b || a) None g
either_dropped true true g = refl
either_dropped true false g = refl
either_dropped false true g = refl
either_dropped false false g = refl

module _ (f : Symbol) (m : Model) where
  dropped : (fs : List Symbol) (h : Symbol) → cond (symbol_eq h f) None (cond (is_among fs h) None (m.graphs h)) ≡ cond (is_among (fs ++ f ∷ []) h) None (m.graphs h)
  dropped fs h =
      ap (λ b. cond b None (cond (is_among fs h) None (m.graphs h))) (flip h f)
      ∙ either_dropped (symbol_eq f h) (is_among fs h) (m.graphs h)
      ∙ ap (λ b. cond b None (m.graphs h)) (sym (among_more fs f h))

  -- one symbol more
  pub drop-more : (fs : List Symbol) → with_graph f None (with_graphs m (graph_dropped fs m.graphs)) ≡ with_graphs m (graph_dropped (fs ++ f ∷ []) m.graphs)
  drop-more fs = λ i. with_graphs m (λ h. dropped fs h i)

  -- these and then those
  drops : (fs gs : List Symbol) (h : Symbol) → cond (is_among gs h) None (cond (is_among fs h) None (m.graphs h)) ≡ cond (is_among (fs ++ gs) h) None (m.graphs h)
  drops fs gs h = either_dropped (is_among gs h) (is_among fs h) (m.graphs h) ∙ ap (λ b. cond b None (m.graphs h)) (sym (is_among-append fs gs h))

pub drop-append : (m : Model) (fs gs : List Symbol) → with_graphs (with_graphs m (graph_dropped fs m.graphs)) (graph_dropped gs (graph_dropped fs m.graphs)) ≡ with_graphs m (graph_dropped (fs ++ gs) m.graphs)
drop-append m fs gs = λ i. with_graphs m (λ h. drops h m fs gs h i)

pub drop-none : (m : Model) → m ≡ with_graphs m (graph_dropped [] m.graphs)
drop-none m = refl

-- ---- defaults

abbrev default_of : Symbol → Option Graph
default_of f = Some (constant_graph (default_value f.result))

either_default : (a b : Bool) (f h : Symbol) (g : Option Graph) → (a ≡ true → f ≡ h) → cond a (default_of f) (cond b (default_of h) g) ≡ cond (b || a) (default_of h) g
either_default true true f h g same = ap default_of (same refl)
either_default true false f h g same = ap default_of (same refl)
either_default false true f h g same = refl
either_default false false f h g same = refl

module _ (f : Symbol) (m : Model) (fs : List Symbol) where
  defaulted : (h : Symbol) → cond (symbol_eq h f) (default_of f) (cond (is_among fs h) (default_of h) (m.graphs h)) ≡ cond (is_among (fs ++ f ∷ []) h) (default_of h) (m.graphs h)
  defaulted h =
      ap (λ b. cond b (default_of f) (cond (is_among fs h) (default_of h) (m.graphs h))) (flip h f)
      ∙ either_default (symbol_eq f h) (is_among fs h) f h (m.graphs h) (Decides-symbol_eq f h).0
      ∙ ap (λ b. cond b (default_of h) (m.graphs h)) (sym (among_more fs f h))

  pub default-more : with_graph f (default_of f) (with_defaults fs m) ≡ with_defaults (fs ++ f ∷ []) m
  default-more = λ i. with_graphs m (λ h. defaulted h i)

-- ---- values

-- one value more behind the others, of which the first counts
pub each-more : (ps : List (Symbol × Value)) (p : Symbol × Value) (m : Model) → with_each (ps ++ p ∷ []) m ≡ with_each ps (with_graph p.0 (Some (constant_graph p.1)) m)
each-more [] p m = refl
each-more (q ∷ ps) p m = ap (with_graph q.0 (Some (constant_graph q.1))) (each-more ps p m)

abbrev graph_of_each : List (Symbol × Value) → (Symbol → Option Graph) → Symbol → Option Graph
graph_of_each [] graphs f = graphs f
graph_of_each (p ∷ ps) graphs f = cond (symbol_eq f p.0) (Some (constant_graph p.1)) (graph_of_each ps graphs f)

each_by_graphs : (ps : List (Symbol × Value)) (m : Model) → with_each ps m ≡ with_graphs m (graph_of_each ps m.graphs)
each_by_graphs [] m = refl
each_by_graphs (p ∷ ps) m = ap (with_graph p.0 (Some (constant_graph p.1))) (each_by_graphs ps m)

-- values in a model m, given in a model n
module _ (m n : Model) (fs : List Symbol) where
  first_given : (b : Bool) (g : Given) (h : Symbol) (o : Option Term) (rest : Option Graph) → rest ≡ graph_given m o (is_among fs h) h (n.graphs h)
      → cond b (Some (constant_graph (val m g.term no_variables))) rest ≡ graph_given m (cond b (Some g.term) o) (is_among fs h) h (n.graphs h)
  first_given true g h o rest later = refl
  first_given false g h o rest later = later

  none_given : (b : Bool) (h : Symbol) → cond b (default_of h) (n.graphs h) ≡ graph_given m None b h (n.graphs h)
  none_given true h = refl
  none_given false h = refl

  given_each : (gs : List Given) (h : Symbol) → graph_of_each (values_in m gs) (with_defaults fs n).graphs h ≡ graph_given m (term_for (named_in gs) h) (is_among fs h) h (n.graphs h)
  given_each [] h = none_given (is_among fs h) h
  given_each (g ∷ gs) h =
      ap (λ b. cond b (Some (constant_graph (val m g.term no_variables))) (graph_of_each (values_in m gs) (with_defaults fs n).graphs h)) (flip h g.symbol)
      ∙ first_given (symbol_eq g.symbol h) g h (term_for (named_in gs) h) (graph_of_each (values_in m gs) (with_defaults fs n).graphs h) (given_each gs h)

  pub given_live : (gs : List Given) → with_each (values_in m gs) (with_defaults fs n) ≡ with_graphs n (λ h. graph_given m (term_for (named_in gs) h) (is_among fs h) h (n.graphs h))
  given_live gs = each_by_graphs (values_in m gs) (with_defaults fs n) ∙ (λ i. with_graphs n (λ h. given_each gs h i))
