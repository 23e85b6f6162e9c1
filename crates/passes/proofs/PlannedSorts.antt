-- The symbols of a plan have the sorts of the terms that they stand for.
use Rattle.std.proofs.Common.{List, [], ◌∷◌, All}
use Rattle.std.proofs.lemmas.List.Elements.{All-nil, All-cons, All-head, All-tail}
use Rattle.smt_terms.specs.declared.ids.NodeId.{NodeId}
use Rattle.smt_terms.specs.declared.ids.SymId.{SymId}
use Rattle.smt_terms.specs.Sorts.{Symbol}
use Rattle.smt_terms.specs.Term.{Term}
use Rattle.term_groups.specs.Seen.{named_at, ArePairs}
use Rattle.term_table.specs.Formulas.{Formulas, tree, symbol_at, IsNode, IsSymbol}
use Rattle.passes.specs.declared.plan.Step.{Step}
use Rattle.passes.specs.declared.plan.Step.TheVariants.{Declare, Group}
use Rattle.pass_laws.specs.Laws.{HaveSorts}
use Rattle.pass_laws.specs.LiveGroups.{all_drawn}
use Rattle.passes.specs.Plans.{steps_of, IsStepOf, IsPairOver, IsStepOver}
use Rattle.pass_laws.proofs.DrawnSorts.{HasSort}

module _ (t : Formulas) where
  abbrev IsPair : SymId × NodeId → Type 0
  IsPair p = IsSymbol t p.0 × IsNode t p.1

  pairs_over : (ps : List (SymId × NodeId)) → ArePairs t ps → All HasSort (named_at t ps) → All (IsPairOver t) ps
  pairs_over [] are sorts = All-nil (IsPairOver t)
  pairs_over (p ∷ ps) are sorts =
      let here : IsPair p = All-head IsPair p ps are in
      let named : Symbol × Term = (symbol_at t p.0, tree t p.1) in
      All-cons (IsPairOver t) p ps (here.0, here.1, All-head HasSort named (named_at t ps) sorts) (pairs_over ps (All-tail IsPair p ps are) (All-tail HasSort named (named_at t ps) sorts))

  pub steps_over : (ss : List Step) → All (IsStepOf t) ss → All HaveSorts (all_drawn (steps_of t ss)) → All (IsStepOver t) ss
  steps_over [] are sorts = All-nil (IsStepOver t)
  steps_over (Declare f ∷ ss) are sorts =
      All-cons (IsStepOver t) (Declare f) ss (All-head (IsStepOf t) (Declare f) ss are) (steps_over ss (All-tail (IsStepOf t) (Declare f) ss are) sorts)
  steps_over (Group number symbols ∷ ss) are sorts =
      All-cons (IsStepOver t) (Group number symbols) ss
      (pairs_over symbols (All-head (IsStepOf t) (Group number symbols) ss are) (All-head HaveSorts (record { number = number; symbols = named_at t symbols }) (all_drawn (steps_of t ss)) sorts))
      (steps_over ss (All-tail (IsStepOf t) (Group number symbols) ss are) (All-tail HaveSorts (record { number = number; symbols = named_at t symbols }) (all_drawn (steps_of t ss)) sorts))
  steps_over (st ∷ ss) are sorts = All-cons (IsStepOver t) st ss tt (steps_over ss (All-tail (IsStepOf t) st ss are) sorts)
