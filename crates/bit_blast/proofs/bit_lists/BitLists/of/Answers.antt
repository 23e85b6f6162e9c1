use Rattle.std.proofs.Common.{Some, IsSome, sym, ap, subst, ◌∙◌}
use Rattle.std.specs.Option.{option_copied}
use Rattle.bit_blast.specs.KeptBits.{Lists, list_of}
use Rattle.bit_blast.proofs.KeptLists.{is_found, list_of_found}
use Rattle.bit_blast.proofs.bit_lists.BitLists.of.Goals as goal

pub unwrap-requires : goal.unwrap-requires
unwrap-requires c =
    is_found (λ v. v.items) c.self.inside.lists.entries c.args.id c.get.result c.get.ensures.value
    (subst (λ (ls : Lists). IsSome (list_of ls c.args.id)) (sym c.self.view_is) c.requires)

pub returns : goal.returns
returns c =
    ap (λ (ls : Lists). list_of ls c.args.id) (sym c.self.view_is)
    ∙ list_of_found (λ v. v.items) c.self.inside.lists.entries c.args.id c.unwrap.result (ap option_copied (sym c.unwrap.ensures) ∙ c.get.ensures.value)
    ∙ ap (λ ks. Some ks) (sym c.as_slice.ensures.value)
