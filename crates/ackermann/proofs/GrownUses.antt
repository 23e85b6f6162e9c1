-- Live applications stay so as a table gains.
use Rattle.std.proofs.Common.{◌≡◌, ◌<◌, List, [], ◌∷◌, length, map, get_or, All, refl, ap, sym, ◌∙◌, subst}
use Rattle.std.proofs.lemmas.List.Elements.{All-head, All-tail}
use Rattle.smt_terms.specs.Groups.{with_constants}
use Rattle.smt_terms.specs.Rank.{IsWellSorted}
use Rattle.smt_terms.specs.Term.{symbol, over, constant}
use Rattle.term_table.specs.Formulas.{Formulas, tree, trees_at, operands}
use Rattle.term_walk.specs.Walking.{GrowsTo}
use Rattle.term_subst.proofs.Growing.{tree-grows, node-grows, trees-grow, nodes-grow, symbol-grows, is_symbol-grows}
use Rattle.quantifier_forms.specs.Rebuilding.{IsLike, AreLike}
use Rattle.term_groups.specs.Grouping.{terms_of}
use Rattle.ackermann.specs.declared.uses.LiveUse.{LiveUse}
use Rattle.ackermann.specs.LevelsAt.{cut, LiveStays, LevelsCount}
use Rattle.ackermann.specs.LiveUses.{named_uses, IsUseIn, AreBehind, AreUsesIn}
use Rattle.ackermann.proofs.CutLevels.{levels-count}

module _ (old new : Formulas) (grows : GrowsTo old new) where
  pub use-grows : (u : LiveUse) → IsUseIn old u → IsUseIn new u
  use-grows u h =
      let stays = tree-grows old new grows u.node h.is_node in
      let constant_stays = tree-grows old new grows u.constant h.is_constant in
      let function_stays = symbol-grows old new grows u.function h.is_function in
      let symbol_stays = symbol-grows old new grows u.symbol h.is_symbol in
      record {
        is_node = node-grows old new grows u.node h.is_node;
        is_function = is_symbol-grows old new grows u.function h.is_function;
        is_symbol = is_symbol-grows old new grows u.symbol h.is_symbol;
        is_constant = node-grows old new grows u.constant h.is_constant;
        sorted = subst IsWellSorted (sym stays) h.sorted;
        are_results = nodes-grow old new grows u.operands.items h.are_results;
        some = subst (λ v. 0 < length (operands v)) (sym stays) h.some;
        term = stays ∙ h.term ∙ (λ i. over (symbol (sym function_stays i)) (operands (sym stays i)));
        constant_term = constant_stays ∙ h.constant_term ∙ ap constant (sym symbol_stays);
        like = subst (λ v. IsLike v (tree new u.constant)) (sym stays) (subst (IsLike (tree old u.node)) (sym constant_stays) h.like);
        alike = subst (λ v. AreLike (operands v) (trees_at new u.operands.items)) (sym stays) (subst (AreLike (operands (tree old u.node))) (sym (trees-grow old new grows u.operands.items h.are_results)) h.alike);
      }

  pub named-stay : (us : List LiveUse) → All (IsUseIn old) us → named_uses new us ≡ named_uses old us
  named-stay [] each = refl
  named-stay (u ∷ us) each =
      let h = All-head (IsUseIn old) u us each in
      let rest = named-stay us (All-tail (IsUseIn old) u us each) in
      λ i. (symbol-grows old new grows u.symbol h.is_symbol i, tree-grows old new grows u.node h.is_node i) ∷ rest i

  pub uses-grow : (us : List LiveUse) → AreUsesIn old us → AreUsesIn new us
  uses-grow us are =
      let same = named-stay us are.each in
      record {
        each = λ i d lt. use-grows (get_or us i d) (are.each i d lt);
        behind = subst (λ ns. AreBehind [] (terms_of ns)) (sym same) are.behind;
        settled = λ i d lt.
            let u = get_or us i d in
            let h = are.each i d lt in
            trees-grow old new grows u.operands.items h.are_results ∙ are.settled i d lt
            ∙ (λ j. map (with_constants (sym same j)) (operands (sym (tree-grows old new grows u.node h.is_node) j)));
      }

pub live-stays : LiveStays
live-stays old new a grows are = (uses-grow old new grows a.uses are, ap (λ ns. cut ns a.starts) (named-stay old new grows a.uses are.each))

pub count-levels : LevelsCount
count-levels t a = levels-count (named_uses t a.uses) a.starts
