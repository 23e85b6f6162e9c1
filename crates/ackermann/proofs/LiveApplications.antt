-- A live application by its place: its function, and what took the places of its operands.
use Rattle.std.proofs.Common.{◌≡◌, ℕ, true, length, map, slice_get, Some, ap, sym, ◌∙◌, subst, arith}
use Rattle.std.specs.Prelude.{option_map}
use Rattle.std.proofs.lemmas.List.{length-map}
use Rattle.std.proofs.lemmas.Option.{slice_get-map, slice_get_within, get_or_from_slice_get}
use Rattle.smt_terms.specs.Groups.{Named, with_constants}
use Rattle.smt_terms.specs.Rank.{sort_of, IsWellSorted}
use Rattle.smt_terms.specs.Sorts.{Sort, Symbol}
use Rattle.smt_terms.specs.Term.{Term, apply, quantified}
use Rattle.term_table.specs.Formulas.{Formulas, tree, trees_at, symbol_at, operands}
use Rattle.ackermann.specs.Ackermann.{live}
use Rattle.ackermann.specs.LevelsAt.{Live, levels_at, IsApplicationOf}
use Rattle.ackermann.specs.LiveUses.{named_uses, IsUseIn, IsSettled, AreUsesIn}
use Rattle.ackermann.specs.Removals.{is_use}
use Rattle.ackermann.specs.Tables.{operands_of}
use Rattle.ackermann.specs.declared.uses.LiveUse.{LiveUse}
use Rattle.ackermann.proofs.CutLevels.{live-cut}
use Rattle.ackermann.proofs.FoundUses.{use-over}
use Rattle.ackermann.proofs.PairedUses.{applied-sorts, alike-sorts}
use Rattle.ackermann.proofs.SettledUses.{each-list}

operands-replaced : (ns : Named) (u : Term) → is_use u ≡ true → map (with_constants ns) (operands u) ≡ operands_of ns u
operands-replaced ns (apply h ts) applied = each-list ns ts
operands-replaced ns (quantified q xs body) applied = absurd cc

of-use : (t : Formulas) (ns : Named) (u : LiveUse) → IsUseIn t u → IsSettled t ns u → IsApplicationOf ns (symbol_at t u.function) (trees_at t u.operands.items) (tree t u.node)
of-use t ns u use_in settled =
    let us = operands (tree t u.node) in
    let f = symbol_at t u.function in
    let sorts = (applied-sorts f us (subst IsWellSorted use_in.term use_in.sorted)).0 in
    let n = length-map us sort_of in
    let m = length-map f.args (λ (a : Sort). Some a) in
    let e = ap length sorts in
    let some = use_in.some in
    record {
      some = omega (arith, n, m, e);
      applied = use_in.term;
      replaced = settled ∙ operands-replaced ns (tree t u.node) (use-over t u use_in);
      sorts = alike-sorts us (trees_at t u.operands.items) use_in.alike ∙ sorts;
    }

pub live-application : (t : Formulas) (a : Live) → AreUsesIn t a.uses → (place : ℕ) (u : LiveUse) → slice_get a.uses place ≡ Some u
    → (p : Symbol × Term) → slice_get (live (levels_at t a)) place ≡ Some p → IsApplicationOf (live (levels_at t a)) (symbol_at t u.function) (trees_at t u.operands.items) p.1
live-application t a are place u at p here =
    let us = a.uses in
    let ns = named_uses t us in
    let all : live (levels_at t a) ≡ ns = live-cut ns a.starts in
    let within = slice_get_within us place u at in
    let same : Some (symbol_at t u.symbol, tree t u.node) ≡ Some p =
    sym (slice_get-map (λ (v : LiveUse). (symbol_at t v.symbol, tree t v.node)) us place ∙ ap (option_map (λ (v : LiveUse). (symbol_at t v.symbol, tree t v.node))) at)
    ∙ ap (λ (ms : Named). slice_get ms place) (sym all) ∙ here in
    let pair : (symbol_at t u.symbol, tree t u.node) ≡ p = cc in
    let own = get_or_from_slice_get us place u u at in
    subst (λ (ms : Named). IsApplicationOf ms (symbol_at t u.function) (trees_at t u.operands.items) p.1) (sym all)
    (subst (λ (q : Symbol × Term). IsApplicationOf ns (symbol_at t u.function) (trees_at t u.operands.items) q.1) pair
    (of-use t ns u (subst (IsUseIn t) own (are.each place u within)) (subst (IsSettled t ns) own (are.settled place u within))))
