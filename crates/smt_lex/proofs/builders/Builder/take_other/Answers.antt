use Rattle.std.proofs.Common.{◌+◌, ◌<◌, ◌≤◌, length, length-drop, sym, ◌∙◌, ap, eqb, refl, subst, arith}
use Rattle.std.specs.Prelude.{◌&&◌}
use Rattle.std.proofs.lemmas.List.{take_rest}
use Rattle.smt_lex.specs.Lex.{front}
use Rattle.smt_lex.specs.Forms.{tokens_of}
use Rattle.smt_lex.specs.Forest.{Refuses}
use Rattle.smt_lex.specs.Building.{Going}
use Rattle.smt_lex.proofs.Outcomes.{going_gap, going_faulty, going_over}
use Rattle.smt_lex.proofs.Lexing.{fits_lexeme, lex_gap, lex_lexeme, lex_bad_byte, lex_bad_token, lex_open_text}
use Rattle.smt_lex.proofs.builders.Builder.take_other.Goals as goal

pub returns-in-Gap-clause-going : goal.returns-in-Gap-clause-going
returns-in-Gap-clause-going c =
    let before = c.args.self.now in
    let rest = take_rest c.args.bytes.now before.place in
    let fits : (0 < c.in-Gap.length) × (before.place + c.in-Gap.length ≤ length c.args.bytes.now) = (c.in-Gap.ensures.within.0, omega (arith, c.in-Gap.ensures.within.1, ap length rest, length-drop before.place c.args.bytes.now, c.requires.more)) in
    going_gap c.args.until c.args.bytes.now before.place before.entries.items before.lists.items c.requires.going (before.place + c.in-Gap.length)
    (lex_gap c.args.bytes.now before.place c.requires.more c.in-Gap.length (sym (c.in-Gap.ensures.value ∙ ap front rest)) fits.0 fits.1) (omega arith) fits.1

pub returns-in-Lexeme-clause-going : goal.returns-in-Lexeme-clause-going
returns-in-Lexeme-clause-going c =
    let before = c.args.self.now in
    let after = c.add_atom.new.self in
    let rest = take_rest c.args.bytes.now before.place in
    let fits : (0 < c.in-Lexeme.length) × (before.place + c.in-Lexeme.length ≤ length c.args.bytes.now) =
    (let w = fits_lexeme c.in-Lexeme.item _ c.in-Lexeme.length c.in-Lexeme.ensures.within in (w.0, omega (arith, w.1, ap length rest, length-drop before.place c.args.bytes.now, c.requires.more))) in
    let atom = c.in-Lexeme.ensures.atom in
    subst (λ p. Going c.args.until c.args.bytes.now p after.entries.items after.lists.items) (sym c.add_atom.ensures.place)
    (going_over c.args.until c.args.bytes.now before.place before.entries.items before.lists.items c.requires.going c.in-Lexeme.item (before.place + c.in-Lexeme.length) after.entries.items after.lists.items
    (lex_lexeme c.args.bytes.now before.place c.requires.more c.in-Lexeme.item c.in-Lexeme.length (sym (c.in-Lexeme.ensures.value ∙ ap front rest)) fits.0 fits.1)
    c.add_atom.ensures.puts (ap (λ b. b && eqb (length before.lists.items) 0) atom.1) fits.1 atom.1)

pub returns-in-BadByte-clause-fault : goal.returns-in-BadByte-clause-fault
returns-in-BadByte-clause-fault c =
    let before = c.args.self.now in
    let rest = take_rest c.args.bytes.now before.place in
    subst (Refuses c.args.bytes.now (tokens_of c.args.until c.args.bytes.now)) (sym c.bad_byte.ensures) (
      going_faulty c.args.until c.args.bytes.now before.place before.entries.items before.lists.items c.requires.going _
          (lex_bad_byte c.args.bytes.now before.place c.requires.more _ (sym (c.in-BadByte.ensures.value ∙ ap front rest))),
      refl,
    )

pub returns-in-BadToken-clause-fault : goal.returns-in-BadToken-clause-fault
returns-in-BadToken-clause-fault c =
    let before = c.args.self.now in
    let rest = take_rest c.args.bytes.now before.place in
    subst (Refuses c.args.bytes.now (tokens_of c.args.until c.args.bytes.now)) (sym c.bad_token.ensures) (
      going_faulty c.args.until c.args.bytes.now before.place before.entries.items before.lists.items c.requires.going _
          (lex_bad_token c.args.bytes.now before.place c.requires.more (sym (c.in-BadToken.ensures.value ∙ ap front rest))),
      refl,
    )

pub returns-in-OpenText-clause-fault : goal.returns-in-OpenText-clause-fault
returns-in-OpenText-clause-fault c =
    let before = c.args.self.now in
    let rest = take_rest c.args.bytes.now before.place in
    subst (Refuses c.args.bytes.now (tokens_of c.args.until c.args.bytes.now)) (sym c.open_text.ensures) (
      going_faulty c.args.until c.args.bytes.now before.place before.entries.items before.lists.items c.requires.going _
          (lex_open_text c.args.bytes.now before.place c.requires.more (sym (c.in-OpenText.ensures.value ∙ ap front rest))),
      refl,
    )
