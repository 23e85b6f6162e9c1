use Rattle.std.proofs.Common.{◌≡◌, ◌∷◌, [], ◌++◌, length, reverse, ap, sym, ◌∙◌}
use Rattle.std.specs.Prelude.{set}
use Rattle.std.proofs.lemmas.List.{length-set}
use Rattle.smt_print.specs.Defined.{place_in, taken_back}
use Rattle.smt_print.proofs.NumbersFound.{latest-back, rest-within, last-within}
use Rattle.smt_print.proofs.scope.take_back.Goals as goal

pub loop-defined-preserved : goal.loop-defined-preserved
loop-defined-preserved c =
    let d = c.in-Some.defined in
    let ps = c.loop-defined.places.items in
    let rest = c.pop.new.self.items in
    let split : c.loop-defined.definitions.items ≡ rest ++ d ∷ [] = c.in-Some.ensures.items in
    let lt = last-within rest d c.loop-defined.definitions.items (length ps) split c.loop-defined.invariant.within in
    record {
      within = rest-within rest d c.loop-defined.definitions.items (length ps) (length (set ps d.node.0 d.around)) split (sym (length-set ps d.node.0 d.around)) c.loop-defined.invariant.within;
      places = latest-back ps rest d lt ∙ ap (λ ds. taken_back (place_in ps) (reverse ds)) (sym split) ∙ c.loop-defined.invariant.places;
      long = length-set ps d.node.0 d.around ∙ c.loop-defined.invariant.long;
    }
