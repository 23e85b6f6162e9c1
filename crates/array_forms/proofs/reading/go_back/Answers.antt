use Rattle.std.proofs.Common.{Option, Some, ap, sym, ◌∙◌, subst, arith}
use Rattle.std.proofs.lemmas.List.Elements.{All-pop}
use Rattle.smt_terms.specs.Rank.{sort_of}
use Rattle.smt_terms.specs.Sorts.{Sort}
use Rattle.term_table.specs.Formulas.{tree}
use Rattle.array_forms.specs.Writes.{over_writes, Suits}
use Rattle.array_forms.proofs.OverWrites.{over-push, suits-still, choice-still, grows-through}
use Rattle.array_forms.proofs.reading.go_back.Goals as goal

pub loop-write-preserved : goal.loop-write-preserved
loop-write-preserved c =
    let t = c.args.table.now in
    let j = tree t c.args.index in
    let s : Option Sort = sort_of (tree t c.args.element) in
    let inv = c.loop-write.invariant in
    let w = c.in-Some.write in
    let left = c.pop.new.self.items in
    let suit = All-pop (Suits t j s) c.loop-write.passed.items left (Some w) c.in-Some.ensures.items inv.suit in
    let made = c.in_ok-element.ensures in
    record {
      grows = grows-through t c.loop-write.table c.choice.new.table inv.grows made.grows;
      symbols = made.symbols ∙ inv.symbols;
      sorts = made.sorts ∙ inv.sorts;
      node = made.node;
      sort = made.sort ∙ inv.sort;
      suit = suit.0;
      term =
          ap (over_writes t j left) (made.term ∙ choice-still t c.loop-write.table c.args.index s w (tree c.loop-write.table c.loop-write.element) inv.grows c.requires.index suit.1)
          ∙ sym (over-push t j left w (tree c.loop-write.table c.loop-write.element))
          ∙ ap (λ ws. over_writes t j ws (tree c.loop-write.table c.loop-write.element)) (sym c.in-Some.ensures.items)
          ∙ inv.term;
    }

pub choice-requires : goal.choice-requires
choice-requires c =
    let t = c.args.table.now in
    let j = tree t c.args.index in
    let s : Option Sort = sort_of (tree t c.args.element) in
    let inv = c.loop-write.invariant in
    let w = c.in-Some.write in
    let index = c.requires.index in
    let longer = inv.grows.trees.longer in
    let suit = All-pop (Suits t j s) c.loop-write.passed.items c.pop.new.self.items (Some w) c.in-Some.ensures.items inv.suit in
    record {
      index = omega arith;
      other = inv.node;
      suits = subst (λ o. Suits c.loop-write.table (tree c.loop-write.table c.args.index) o w) (sym inv.sort) (suits-still t c.loop-write.table c.args.index s w inv.grows c.requires.index suit.1);
    }
