use Rattle.std.proofs.Common.{sym, ap, subst, ◌∙◌, All, List}
use Rattle.std.proofs.lemmas.List.Elements.{All-push}
use Rattle.smt_terms.specs.declared.ids.NodeId.{NodeId}
use Rattle.smt_terms.specs.declared.ids.SymId.{SymId}
use Rattle.term_subst.specs.Maps.{map_at}
use Rattle.term_subst.specs.Substituting.{IsPair}
use Rattle.term_subst.proofs.MapsAt.{pair-found, cut-found, cut-none}
use Rattle.term_subst.proofs.cut.take_along.Goals as goal

pub returns-in_ok-push-in-Some-clause-map : goal.returns-in_ok-push-in-Some-clause-map
returns-in_ok-push-in-Some-clause-map c =
    ap (map_at c.args.table.now) c.in_ok-push-in-Some.ensures.items
    ∙ cut-found c.args.table.now c.know_table.ensures c.args.map.now c.requires.map c.args.symbol c.requires.symbol c.in-Some.image (sym c.in-Some.ensures) c.args.cut.now.items

pub returns-in_ok-push-in-Some-clause-within : goal.returns-in_ok-push-in-Some-clause-within
returns-in_ok-push-in-Some-clause-within c =
    subst (λ (ps : List (SymId × NodeId)). All (IsPair c.args.table.now) ps) (sym c.in_ok-push-in-Some.ensures.items)
    (All-push (IsPair c.args.table.now) c.args.cut.now.items (c.args.symbol, c.in-Some.image) c.requires.cut (pair-found c.args.table.now c.args.map.now c.requires.map c.args.symbol c.in-Some.image (sym c.in-Some.ensures)))

pub returns-in-None-clause-map : goal.returns-in-None-clause-map
returns-in-None-clause-map c = cut-none c.args.table.now c.know_table.ensures c.args.map.now c.requires.map c.args.symbol c.requires.symbol (sym c.in-None.ensures) c.args.cut.now.items
