-- A formula keeps its truth in a model whose other graphs change, where no symbol whose graph changes is free in it; and which
-- symbols a model over a signature has.
use Rattle.std.proofs.Common.{◌≡◌, sym, ap, refl, true, ◌||◌, List, [], ◌∷◌, Option, Some, All}
use Rattle.std.specs.List.{list_any, list_all}
use Rattle.std.proofs.lemmas.List.Sums.{AllPass-from_list_all, list_all-from_AllPass}
use Rattle.smt_terms.specs.Equal.{symbol_eq}
use Rattle.smt_terms.specs.Free.{is_among, free}
use Rattle.smt_terms.specs.Laws.{symbol_at}
use Rattle.smt_terms.specs.Models.{Graph, Model, graph_or_default}
use Rattle.smt_terms.specs.Rank.{sort_of}
use Rattle.smt_terms.specs.Sorts.{bool, Symbol}
use Rattle.smt_terms.specs.Term.{Term}
use Rattle.smt_terms.specs.Val.{no_variables}
use Rattle.smt_terms.specs.Values.{Value, is_true}
use Rattle.smt_terms.proofs.Depends.{val_agrees}
use Rattle.smt_terms.proofs.Equal.{Decides-symbol_eq}
use Rattle.smt_terms.proofs.Tests.{alike_from}
use Rattle.script_read.specs.Satisfied.{is_true_in}
use Rattle.pass_laws.specs.Carry.{with_graphs}

pub truth_kept : (m : Model) (graphs : Symbol → Option Graph) (t : Term) → sort_of t ≡ Some bool → ((f : Symbol) → is_among (free t) f ≡ true → graphs f ≡ m.graphs f) → is_true_in (with_graphs m graphs) t ≡ is_true_in m t
truth_kept m graphs t formula same =
    ap is_true (val_agrees t bool (with_graphs m graphs) m no_variables no_variables formula (record { backgrounds = refl; symbols = λ f among vs len. at f (same f among) vs }))
  where
    at : (f : Symbol) → graphs f ≡ m.graphs f → (vs : List Value) → symbol_at (with_graphs m graphs) no_variables f vs ≡ symbol_at m no_variables f vs
    at f e [] = ap (λ g. graph_or_default f m.sizes g []) e
    at f e (v ∷ vs) = ap (λ g. graph_or_default f m.sizes g (v ∷ vs)) e

pub any_is_among : (fs : List Symbol) (f : Symbol) → list_any (symbol_eq f) fs ≡ is_among fs f
any_is_among [] f = refl
any_is_among (g ∷ fs) f = λ i. turned i || any_is_among fs f i
  where
    turned : symbol_eq f g ≡ symbol_eq g f
    turned = alike_from (symbol_eq f g) (symbol_eq g f) (λ h. (Decides-symbol_eq g f).1 (sym ((Decides-symbol_eq f g).0 h))) (λ h. (Decides-symbol_eq f g).1 (sym ((Decides-symbol_eq g f).0 h)))

-- ---- all of some formulas are true

abbrev pub AreTrue : Model → List Term → Type 0
AreTrue m ts = All (λ t. is_true_in m t ≡ true) ts

pub are_true : (m : Model) (ts : List Term) → list_all (is_true_in m) ts ≡ true → AreTrue m ts
are_true m ts h = AllPass-from_list_all (is_true_in m) ts h

pub all_true : (m : Model) (ts : List Term) → AreTrue m ts → list_all (is_true_in m) ts ≡ true
all_true m ts h = list_all-from_AllPass (is_true_in m) ts h
