use Rattle.std.proofs.Common.{is_some, sym, ap, ◌∙◌}
use Rattle.bit_blast.specs.KeptBits.{Lists, list_of}
use Rattle.bit_blast.proofs.KeptLists.{is_some-list_of}
use Rattle.bit_blast.proofs.bit_lists.BitLists.has.Goals as goal

pub returns : goal.returns
returns c =
    c.contains_key.ensures ∙ sym (is_some-list_of (λ v. v.items) c.self.inside.lists.entries c.args.id)
    ∙ ap (λ (ls : Lists). is_some (list_of ls c.args.id)) c.self.view_is
