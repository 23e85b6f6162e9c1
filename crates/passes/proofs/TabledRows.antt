-- Rows that functions got one after the other, as tables with a row for each live application.
use Rattle.std.proofs.Common.{◌≡◌, ◌∙◌, sym, ap, refl, Bool, true, false, cond, if◌then◌else◌, List, [], ◌∷◌, ◌++◌, flat_map, Option, Some, option_map, All, IsTrue}
use Rattle.std.specs.List.{list_any}
use Rattle.std.proofs.lemmas.Grind.{flat_map-append}
use Rattle.std.proofs.lemmas.List.{append-nil}
use Rattle.std.proofs.lemmas.List.Elements.{All-nil, All-cons, All-head, All-tail, All-append}
use Rattle.smt_terms.specs.Equal.{symbol_eq}
use Rattle.smt_terms.specs.Free.{is_among}
use Rattle.smt_terms.specs.Groups.{Named}
use Rattle.smt_terms.specs.Models.{Row, Graph, Model}
use Rattle.smt_terms.specs.Sorts.{Symbol}
use Rattle.smt_terms.specs.Term.{op, symbol, const_array, Term, apply, quantified}
use Rattle.smt_terms.specs.Values.{Sizes, all_same, default_value}
use Rattle.smt_terms.proofs.Equal.{Decides-symbol_eq, symbol_itself}
use Rattle.smt_terms.proofs.Tests.{contrary}
use Rattle.ackermann.specs.Tables.{with_rows}
use Rattle.script_read.specs.Commands.{Command}
use Rattle.models.specs.GraphRows.{row_added}
use Rattle.models.specs.ModelView.{with_row_for}
use Rattle.pass_laws.specs.Carry.{with_graphs, graph_dropped, constant_graph}
use Rattle.pass_laws.specs.LiveGroups.{Drawn, Operands, Met, symbols_in, all_drawn, without_drawn, row_by, graph_by, with_tables, is_applied, AreApplied}
use Rattle.passes.specs.LiveRows.{RowOf, row_for, rows_for, with_rows_for}
use Rattle.passes.specs.LiveSymbols.{Given, named_in, live_of, with_defaults}
use Rattle.passes.proofs.LiveStages.{named_met}
use Rattle.pass_laws.proofs.NamedTerms.{all_joined}

-- ---- rows one after the other

abbrev with_one : Sizes → RowOf → (Symbol → Option Graph) → Symbol → Option Graph
with_one ss p graphs h = cond (symbol_eq h p.0) (option_map (row_added p.0.args ss p.1.keys p.1.result) (graphs p.0)) (graphs h)

abbrev added : List RowOf → Sizes → (Symbol → Option Graph) → Symbol → Option Graph
added [] ss graphs = graphs
added (p ∷ ps) ss graphs = added ps ss (with_one ss p graphs)

added_graphs : (ps : List RowOf) (n : Model) → with_rows_for ps n ≡ with_graphs n (added ps n.sizes n.graphs)
added_graphs [] n = refl
added_graphs (p ∷ ps) n = added_graphs ps (with_row_for p.0 p.1.keys p.1.result n)

-- those of one function
abbrev row_of_symbol : Symbol → RowOf → List Row
row_of_symbol h p = cond (symbol_eq h p.0) (p.1 ∷ []) []

abbrev rows_of_symbol : Symbol → List RowOf → List Row
rows_of_symbol h ps = flat_map (row_of_symbol h) ps

added_once : (b : Bool) (rows : List Row) (r : Row) (g : Graph) → g.rows ≡ rows → (if b then g else record { rows = rows ++ r ∷ []; otherwise = g.otherwise }) ≡ record { rows = cond b rows (rows ++ r ∷ []); otherwise = g.otherwise }
added_once true rows r g is = λ i. record { rows = is i; otherwise = g.otherwise }
added_once false rows r g is = refl

module _ (ss : Sizes) (h : Symbol) where
  abbrev graph_with : List Row → Graph → Graph
  graph_with rows g = record { rows = rows; otherwise = g.otherwise }

  one_more : (b : Bool) (p : RowOf) (graphs : Symbol → Option Graph) (rows : List Row) (g : Graph) → symbol_eq h p.0 ≡ b → graphs h ≡ Some (graph_with rows g)
      → with_one ss p graphs h ≡ Some (graph_with (with_rows h.args ss rows (cond b (p.1 ∷ []) [])) g)
  one_more true p graphs rows g same here =
      let is : h ≡ p.0 = (Decides-symbol_eq h p.0).0 same in
      ap (λ b. cond b (option_map (row_added p.0.args ss p.1.keys p.1.result) (graphs p.0)) (graphs h)) same
      ∙ (λ i. option_map (row_added (sym is i).args ss p.1.keys p.1.result) (graphs (sym is i)))
      ∙ ap (option_map (row_added h.args ss p.1.keys p.1.result)) here
      ∙ ap Some (added_once (list_any (λ (q : Row). all_same h.args ss q.keys p.1.keys) rows) rows p.1 (graph_with rows g) refl)
  one_more false p graphs rows g other here = ap (λ b. cond b (option_map (row_added p.0.args ss p.1.keys p.1.result) (graphs p.0)) (graphs h)) other ∙ here

  rows_then : (rows : List Row) (b : Bool) (r : Row) (rs : List Row) → with_rows h.args ss (with_rows h.args ss rows (cond b (r ∷ []) [])) rs ≡ with_rows h.args ss rows (cond b (r ∷ []) [] ++ rs)
  rows_then rows true r rs = refl
  rows_then rows false r rs = refl

  -- a function that is there gets its rows
  added_rows : (ps : List RowOf) (graphs : Symbol → Option Graph) (rows : List Row) (g : Graph) → graphs h ≡ Some (graph_with rows g)
      → added ps ss graphs h ≡ Some (graph_with (with_rows h.args ss rows (rows_of_symbol h ps)) g)
  added_rows [] graphs rows g here = here
  added_rows (p ∷ ps) graphs rows g here =
      added_rows ps (with_one ss p graphs) (with_rows h.args ss rows (cond (symbol_eq h p.0) (p.1 ∷ []) [])) g (one_more (symbol_eq h p.0) p graphs rows g refl here)
      ∙ ap (λ rs. Some (graph_with rs g)) (rows_then rows (symbol_eq h p.0) p.1 (rows_of_symbol h ps))

  -- one for which there are none stays
  added_none : (fs : List Symbol) → is_among fs h ≡ false → (ps : List RowOf) → All (λ p. IsTrue (is_among fs p.0)) ps → (graphs : Symbol → Option Graph) → added ps ss graphs h ≡ graphs h
  added_none fs apart [] all graphs = refl
  added_none fs apart (p ∷ ps) all graphs =
      added_none fs apart ps (All-tail (λ q. IsTrue (is_among fs q.0)) p ps all) (with_one ss p graphs) ∙ other (symbol_eq h p.0) refl
    where
      other : (b : Bool) → symbol_eq h p.0 ≡ b → with_one ss p graphs h ≡ graphs h
      other true same = contrary (is_among fs h) (ap (is_among fs) ((Decides-symbol_eq h p.0).0 same) ∙ All-head (λ q. IsTrue (is_among fs q.0)) p ps all) apart
      other false differs = ap (λ b. cond b (option_map (row_added p.0.args ss p.1.keys p.1.result) (graphs p.0)) (graphs h)) differs

-- ---- the rows of live applications

module _ (m : Model) (ops : Operands) where
  abbrev rows_named : Named → List RowOf
  rows_named ns = flat_map (λ n. row_for m ops n.0 n.1) ns

  by_names : (gs : List Given) → rows_for m ops gs ≡ rows_named (named_in gs)
  by_names [] = refl
  by_names (g ∷ gs) = ap (λ ps. row_for m ops g.symbol g.term ++ ps) (by_names gs)

  row_alone : (h v : Symbol) (t : Term) → rows_of_symbol h (row_for m ops v t) ≡ row_by m ops h v t
  row_alone h v (apply (op o) ts) = refl
  row_alone h v (apply (symbol f) ts) = append-nil _
  row_alone h v (apply (const_array s) ts) = refl
  row_alone h v (quantified q xs t) = refl

  rows_alone : (h : Symbol) (ns : Named) → rows_of_symbol h (rows_named ns) ≡ flat_map (λ n. row_by m ops h n.0 n.1) ns
  rows_alone h [] = refl
  rows_alone h (n ∷ ns) = flat_map-append (row_of_symbol h) (row_for m ops n.0 n.1) (rows_named ns) ∙ (λ i. row_alone h n.0 n.1 i ++ rows_alone h ns i)

  module _ (fs : List Symbol) where
    abbrev IsApplied : Symbol × Term → Type 0
    IsApplied n = (f : Symbol) → IsTrue (is_applied f n.1) → IsTrue (is_among fs f)

    applied_row : (v : Symbol) (t : Term) → IsApplied (v, t) → All (λ p. IsTrue (is_among fs p.0)) (row_for m ops v t)
    applied_row v (apply (op o) ts) is = All-nil (λ p. IsTrue (is_among fs p.0))
    applied_row v (apply (symbol f) ts) is = All-cons (λ p. IsTrue (is_among fs p.0)) _ [] (is f (symbol_itself f)) (All-nil (λ p. IsTrue (is_among fs p.0)))
    applied_row v (apply (const_array s) ts) is = All-nil (λ p. IsTrue (is_among fs p.0))
    applied_row v (quantified q xs t) is = All-nil (λ p. IsTrue (is_among fs p.0))

    applied_rows : (ns : Named) → All IsApplied ns → All (λ p. IsTrue (is_among fs p.0)) (rows_named ns)
    applied_rows [] all = All-nil (λ p. IsTrue (is_among fs p.0))
    applied_rows (n ∷ ns) all =
        All-append (λ p. IsTrue (is_among fs p.0)) (row_for m ops n.0 n.1) (rows_named ns) (applied_row n.0 n.1 (All-head IsApplied n ns all)) (applied_rows ns (All-tail IsApplied n ns all))

-- ---- tables

module _ (ops : Operands) (cs : List (Command Drawn)) (g : Met) (applied : AreApplied g) (m : Model) where
  abbrev names : Named
  names = flat_map (λ d. d.symbols) g.live

  abbrev dropped : Symbol → Option Graph
  dropped = graph_dropped (symbols_in (all_drawn cs)) m.graphs

  abbrev filled : Symbol → Option Graph
  filled f = cond (is_among g.functions f) (Some (constant_graph (default_value f.result))) (dropped f)

  are_applied : All (λ p. IsTrue (is_among g.functions p.0)) (rows_named m ops names)
  are_applied = applied_rows m ops g.functions names (all_joined (IsApplied m ops g.functions) (λ (d : Drawn). d.symbols) g.live applied)

  tabled : (h : Symbol) (b : Bool) → is_among g.functions h ≡ b → added (rows_named m ops names) m.sizes filled h ≡ cond b (Some (graph_by m ops names h)) (dropped h)
  tabled h true is =
      added_rows m.sizes h (rows_named m ops names) filled [] (constant_graph (default_value h.result)) (ap (λ b. cond b (Some (constant_graph (default_value h.result))) (dropped h)) is)
      ∙ ap (λ rs. Some (record { rows = with_rows h.args m.sizes [] rs; otherwise = default_value h.result })) (rows_alone m ops h names)
  tabled h false is =
      added_none m.sizes h g.functions is (rows_named m ops names) are_applied filled
      ∙ ap (λ b. cond b (Some (constant_graph (default_value h.result))) (dropped h)) is

  pub tables_made : with_rows_for (rows_for m ops (live_of g).given) (with_defaults g.functions (without_drawn cs m)) ≡ with_tables ops cs g m
  tables_made =
      ap (λ ps. with_rows_for ps (with_defaults g.functions (without_drawn cs m))) (by_names m ops (live_of g).given ∙ ap (rows_named m ops) (named_met g))
      ∙ added_graphs (rows_named m ops names) (with_defaults g.functions (without_drawn cs m))
      ∙ (λ i. with_graphs m (λ h. tabled h (is_among g.functions h) refl i))
