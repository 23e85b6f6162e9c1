-- The applications of constants by the constants' numbers.
use Rattle.std.proofs.Common.{◌≡◌, ap, refl, subst, ℕ, ◌<◌, ◌==◌, Bool, true, false, cond, if◌then◌else◌, List, [], ◌∷◌, get_or, Option, Some, IfSome, arith}
use Rattle.std.specs.Map.{lookup}
use Rattle.std.proofs.lemmas.List.Sums.{position_or_len_is}
use Rattle.smt_terms.specs.contracts.ids.SymIdPartialEq.TheImpl.{ghosts}
use Rattle.smt_terms.specs.declared.ids.NodeId.{NodeId}
use Rattle.smt_terms.specs.declared.ids.SymId.{SymId}
use Rattle.smt_terms.specs.Equal.{symbol_eq}
use Rattle.smt_terms.proofs.Equal.{Decides-symbol_eq, symbol_itself}
use Rattle.term_table.specs.Formulas.{Formulas, no_symbol, symbol_at, AreNodes, IsSymbol, IsTable}
use Rattle.models.specs.ModelView.{symbol_number}
use Rattle.passes.specs.declared.plan.Use.{Use}
use Rattle.passes.specs.LiveRows.{operands_by}
use Rattle.passes.specs.Plans.{Uses, use_of, operands_at, IsUse}

pub use_of-lookup : (es : Uses) (v : SymId) → use_of es v ≡ lookup (ghosts.eq v) es
use_of-lookup [] v = refl
use_of-lookup (e ∷ es) v = by (use_of-lookup es v) (v.0 == e.0.0)
  where
    by : use_of es v ≡ lookup (ghosts.eq v) es → (b : Bool) → (if b then Some e.1 else use_of es v) ≡ cond {A = Option Use} b (Some e.1) (lookup (ghosts.eq v) es)
    by rest true = refl
    by rest false = rest

module _ (t : Formulas) (table : IsTable t) (s : SymId) (within : IsSymbol t s) where
  number_itself : symbol_number t.symbols (symbol_at t s) ≡ s
  number_itself =
      ap (λ n. record { 0 = n })
      (position_or_len_is (symbol_eq (symbol_at t s)) t.symbols s.0 no_symbol (omega (arith, within))
      (λ k less. by k less (symbol_eq (symbol_at t s) (get_or t.symbols k no_symbol)) refl)
      (λ _. symbol_itself (symbol_at t s)))
    where
      by : (k : ℕ) → k < s.0 → (b : Bool) → symbol_eq (symbol_at t s) (get_or t.symbols k no_symbol) ≡ b → symbol_eq (symbol_at t s) (get_or t.symbols k no_symbol) ≡ false
      by k less true h =
          let same : s.0 ≡ k = table.one_symbol s.0 k within (omega (arith, within, less)) ((Decides-symbol_eq (symbol_at t s) (get_or t.symbols k no_symbol)).0 h) in
          absurd (omega (arith, same, less))
      by k less false h = h

  -- what took the places of a constant's operands
  pub operands_there : (es : Uses) → operands_by t es (symbol_at t s) ≡ operands_at t (use_of es s)
  operands_there es = ap (λ n. operands_at t (use_of es n)) number_itself

pub nodes_of_use : (t : Formulas) (k : NodeId) (u : Use) (ks : List NodeId) (o : Option Use) → ks ≡ u.operands.items → o ≡ Some u → IfSome o (IsUse t k) → AreNodes t ks
nodes_of_use t k u ks o are is has = subst (AreNodes t) (λ i. (let back : u.operands.items ≡ ks = cc in back) i) (subst (λ x. IfSome x (IsUse t k)) is has).nodes
