use Rattle.std.proofs.Common.{◌≡◌, ℕ, List, length, max, refl, sym, ap, ◌∙◌, arith}
use Rattle.std.proofs.lemmas.List.{length-map}
use Rattle.std.specs.Borrow.{Bor}
use Rattle.model_texts.specs.Met.{MetNames, names_kept, names_read}
use Rattle.model_texts.proofs.MetNames.{kept_of, names_kept-seen, larger}
use Rattle.model_texts.proofs.elements.Elements.size.Goals as goal

pub returns-in-Some : goal.returns-in-Some
returns-in-Some c =
    c.max.ensures ∙ ap (λ n. max n 1) (c.len.ensures.len ∙ sym (length-map c.in-Some.names.now.keys (λ (k : Bor (List ℕ)). k.now)))
    ∙ larger (length (names_read c.in-Some.names.now.keys))
    ∙ ap (λ ns. max 1 (length ns)) (sym (names_kept-seen c.self.inside.names.entries c.args.sort ∙ ap kept_of (sym c.in-Some.ensures.value)) ∙ ap (λ (ms : MetNames). names_kept ms c.args.sort) c.self.view_is)

pub returns-in-None : goal.returns-in-None
returns-in-None c =
    ap (λ ns. max 1 (length ns)) (sym (names_kept-seen c.self.inside.names.entries c.args.sort ∙ ap kept_of (sym c.in-None.ensures.value)) ∙ ap (λ (ms : MetNames). names_kept ms c.args.sort) c.self.view_is)
