use Rattle.std.proofs.Common.{sym, ◌∙◌, arith}
use Rattle.smt_lex.proofs.Outcomes.{right_on, right_out}
use Rattle.smt_lex.proofs.Words.{lex_right}
use Rattle.smt_lex.proofs.builders.Builder.take_right.Goals as goal

pub returns-then-is_exit-clause-going : goal.returns-then-is_exit-clause-going
returns-then-is_exit-clause-going c =
    let before = c.args.self.now in
    right_out c.args.until c.args.bytes.now before.place c.add_right.new.self.place before.entries.items c.add_right.new.self.entries.items before.lists.items c.add_right.new.self.lists.items
    c.requires.going c.add_right.ensures.place (lex_right c.args.bytes.now before.place c.requires.more c.requires.here) c.add_right.ensures.puts
    (omega (arith, c.requires.closes, before.lists.ok.0)) c.requires.more (sym c.closes_exit-is_exit.ensures ∙ c.if-is_exit.true)

pub returns-else-is_exit-clause-going : goal.returns-else-is_exit-clause-going
returns-else-is_exit-clause-going c =
    let before = c.args.self.now in
    right_on c.args.until c.args.bytes.now before.place c.add_right.new.self.place before.entries.items c.add_right.new.self.entries.items before.lists.items c.add_right.new.self.lists.items
    c.requires.going c.add_right.ensures.place (lex_right c.args.bytes.now before.place c.requires.more c.requires.here) c.add_right.ensures.puts
    (omega (arith, c.requires.closes, before.lists.ok.0)) c.requires.more (sym c.closes_exit-is_exit.ensures ∙ c.if-is_exit.false)
