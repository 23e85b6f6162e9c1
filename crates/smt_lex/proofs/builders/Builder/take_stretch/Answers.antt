use Rattle.std.proofs.Common.{◌≡◌, ◌+◌, ◌<◌, ◌≤◌, false, length, get_or, sym, ◌∙◌, ap, refl, subst, arith}
use Rattle.std.proofs.lemmas.Bool.Decides.{Decides-eqb}
use Rattle.smt_lex.specs.declared.items.Item.TheVariants.{Left, Word}
use Rattle.smt_lex.specs.Lexicon.{is_run_byte}
use Rattle.smt_lex.specs.Lex.{next, lex_at}
use Rattle.smt_lex.specs.Forms.{tokens_of}
use Rattle.smt_lex.specs.Forest.{Refuses}
use Rattle.smt_lex.specs.Building.{Going, token}
use Rattle.smt_lex.proofs.Outcomes.{going_gap, going_faulty, going_over, going_too_far}
use Rattle.smt_lex.proofs.Words.{lex_left, lex_right, lex_blank, lex_word, lex_no_word}
use Rattle.smt_lex.proofs.builders.Builder.take_stretch.Goals as goal
use Rattle.smt_lex.proofs.builders.Builder.take_stretch.Goals.{else-end-bytes-via-then-end-bytes+else-is_run_byte, else-end-bytes-via-else-end-bytes}

pub loop-self-preserved-in-Blank : goal.loop-self-preserved-in-Blank
loop-self-preserved-in-Blank c =
    let before = c.loop-self.self in
    let more : before.place < length c.args.bytes.now = omega (arith, c.loop-self-test.true, c.min-limit.ensures) in
    let going : Going c.args.until c.args.bytes.now (before.place + 1) before.entries.items before.lists.items =
    going_gap c.args.until c.args.bytes.now before.place before.entries.items before.lists.items c.loop-self.invariant.going (before.place + 1)
    (lex_blank c.args.bytes.now before.place more (sym c.class_of.ensures ∙ c.in-Blank.is)) (omega arith) (omega arith) in
    let room : before.entries.len + c.min-limit.result ≤ before.entries.cap + (before.place + 1) = omega (arith, c.loop-self.invariant.room) in
    let list_room : before.lists.len + c.min-limit.result ≤ before.lists.cap + (before.place + 1) = omega (arith, c.loop-self.invariant.list_room) in
    record { going = going; room = room; list_room = list_room }

pub returns-then-is_run_byte-clause-fault : goal.returns-then-is_run_byte-clause-fault
returns-then-is_run_byte-clause-fault c =
    let before = c.loop-self.self in
    let bytes = c.args.bytes.now in
    let more : before.place < length bytes = omega (arith, c.loop-self-test.true, c.min-limit.ensures) in
    let here = lex_no_word bytes before.place more (sym c.class_of.ensures ∙ c.in-Letter.is) c.symbols_end-end.result c.symbols_end-end.ensures.longest c.symbols_end-end.ensures.within.1
    c.if-end-bytes.true (sym c.is_run_byte.ensures ∙ c.if-is_run_byte.true) in
    subst (Refuses bytes (tokens_of c.args.until bytes)) (sym c.bad_token.ensures)
    (going_faulty c.args.until bytes before.place before.entries.items before.lists.items c.loop-self.invariant.going _ here, refl)

pub loop-self-preserved-in-Letter : goal.loop-self-preserved-in-Letter
loop-self-preserved-in-Letter c =
    let before = c.loop-self.self in
    let after = c.add_atom.new.self in
    let bytes = c.args.bytes.now in
    let end = c.symbols_end-end.result in
    let more : before.place < length bytes = omega (arith, c.loop-self-test.true, c.min-limit.ensures) in
    let stops : end < length bytes → is_run_byte (get_or bytes end 0) ≡ false =
    (elim c.else-end-bytes.branch [
      | else-end-bytes-via-then-end-bytes+else-is_run_byte w ↦ λ goes. sym w.is_run_byte.ensures ∙ w.if-is_run_byte.false
      | else-end-bytes-via-else-end-bytes w ↦ λ goes. absurd (omega (arith, goes, w.if-end-bytes.false))
    ]) in
    let here = lex_word bytes before.place more (sym c.class_of.ensures ∙ c.in-Letter.is) end c.symbols_end-end.ensures.longest c.symbols_end-end.ensures.within.1 stops in
    record {
      going = subst (λ p. Going c.args.until bytes p after.entries.items after.lists.items) (sym c.add_atom.ensures.place)
          (going_over c.args.until bytes before.place before.entries.items before.lists.items c.loop-self.invariant.going Word end after.entries.items after.lists.items
          here c.add_atom.ensures.puts refl c.symbols_end-end.ensures.within.1 refl);
      room = omega (arith, c.loop-self.invariant.room, c.add_atom.ensures.count, c.add_atom.ensures.capacity, c.add_atom.ensures.place, c.symbols_end-end.ensures.within.0);
      list_room = rw c.add_atom.ensures.lists (omega (arith, c.loop-self.invariant.list_room, c.add_atom.ensures.place, c.symbols_end-end.ensures.within.0));
    }

pub loop-self-preserved-in-Left : goal.loop-self-preserved-in-Left
loop-self-preserved-in-Left c =
    let before = c.loop-self.self in
    let after = c.add_left.new.self in
    let bytes = c.args.bytes.now in
    let more : before.place < length bytes = omega (arith, c.loop-self-test.true, c.min-limit.ensures) in
    let here = lex_left bytes before.place more (sym c.class_of.ensures ∙ c.in-Left.is) ∙ ap (λ n. next (token bytes Left before.place n) (lex_at bytes n)) (sym c.add_left.ensures.place) in
    record {
      going = going_over c.args.until bytes before.place before.entries.items before.lists.items c.loop-self.invariant.going Left after.place after.entries.items after.lists.items
          here c.add_left.ensures.puts refl (omega (arith, more, c.add_left.ensures.place)) refl;
      room = omega (arith, c.loop-self.invariant.room, c.add_left.ensures.count, c.add_left.ensures.capacity, c.add_left.ensures.place);
      list_room = omega (arith, c.loop-self.invariant.list_room, c.add_left.ensures.list_count, c.add_left.ensures.list_capacity, c.add_left.ensures.place);
    }

pub returns-then-is_empty-clause-fault : goal.returns-then-is_empty-clause-fault
returns-then-is_empty-clause-fault c =
    let before = c.loop-self.self in
    let bytes = c.args.bytes.now in
    let more : before.place < length bytes = omega (arith, c.loop-self-test.true, c.min-limit.ensures) in
    let empty : before.lists.len ≡ 0 = (Decides-eqb _ _).0 (sym c.is_empty.ensures ∙ c.if-is_empty.true) in
    subst (Refuses bytes (tokens_of c.args.until bytes)) (sym c.unbalanced.ensures) (
      going_too_far c.args.until bytes before.place before.entries.items before.lists.items c.loop-self.invariant.going (lex_at bytes (before.place + 1))
          (lex_right bytes before.place more (sym c.class_of.ensures ∙ c.in-Right.is)) (omega (arith, empty, before.lists.ok.0)),
      refl,
    )
