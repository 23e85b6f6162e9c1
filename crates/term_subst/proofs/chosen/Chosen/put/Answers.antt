use Rattle.std.proofs.Common.{◌≡◌, ◌∷◌, None, sym, ap, ◌∙◌}
use Rattle.indexmap.proofs.CallerLemmas.{insert_entry-new}
use Rattle.term_subst.specs.Keys.{chosen_in}
use Rattle.term_subst.proofs.KeysHeld.{key_eq, chosen_in-lookup, chosen-put, reads-alike}
use Rattle.term_subst.proofs.chosen.Chosen.put.Goals as goal

pub invariant_of-self-2 : goal.invariant_of-self-2
invariant_of-self-2 c =
    let es = c.self.inside.results.entries in
    let new : chosen_in es c.args.key.node c.args.key.cut.items ≡ None =
    sym (c.self.invariant c.args.key.node c.args.key.cut.items) ∙ ap (λ ds. chosen_in ds c.args.key.node c.args.key.cut.items) c.self.view_is ∙ c.requires in
    let pushed = c.in_ok-insert.ensures.entries ∙ insert_entry-new key_eq c.self.inside.results c.args.key c.args.value (chosen_in-lookup es c.args.key ∙ new) in
    reads-alike es c.insert.new.self.entries c.args.key c.args.value pushed c.self.invariant new

pub returns : goal.returns
returns c =
    let es = c.self.inside.results.entries in
    let new : chosen_in es c.args.key.node c.args.key.cut.items ≡ None =
    sym (c.self.invariant c.args.key.node c.args.key.cut.items) ∙ ap (λ ds. chosen_in ds c.args.key.node c.args.key.cut.items) c.self.view_is ∙ c.requires in
    let pushed = c.in_ok-insert.ensures.entries ∙ insert_entry-new key_eq c.self.inside.results c.args.key c.args.value (chosen_in-lookup es c.args.key ∙ new) in
    chosen-put es c.insert.new.self.entries c.args.key c.args.value pushed ∙ ap (λ ds. (c.args.key, c.args.value) ∷ ds) c.self.view_is
