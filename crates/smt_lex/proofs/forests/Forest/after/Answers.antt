use Rattle.std.proofs.Common.{◌≡◌, ◌<◌, ◌≤◌, length, sym, ◌∙◌, subst, arith}
use Rattle.smt_lex.specs.Forest.{Source, after_at}
use Rattle.smt_lex.proofs.Keeping.{after_read, after_within, number_small}
use Rattle.smt_lex.proofs.forests.Forest.after.Goals as goal

pub after-requires : goal.after-requires
after-requires c =
    number_small c.self.inside.bytes.items c.self.inside.entries.items c.self.invariant c.args.i
    (subst (λ (s : Source). c.args.i < length s.tokens) (sym c.self.view_is) c.requires)

pub returns-clause-behind : goal.returns-clause-behind
returns-clause-behind c =
    subst (λ (s : Source). c.after.result ≡ after_at s.tokens c.args.i) c.self.view_is
    (c.after.ensures ∙ after_read c.self.inside.bytes.items c.self.inside.entries.items c.self.invariant c.args.i c.index.result.now c.index.ensures
    (subst (λ (s : Source). c.args.i < length s.tokens) (sym c.self.view_is) c.requires))

pub returns-clause-within : goal.returns-clause-within
returns-clause-within c =
    subst (λ (s : Source). (c.args.i < c.after.result) × (c.after.result ≤ length s.tokens)) c.self.view_is
    (let bounds = after_within c.self.inside.bytes.items c.self.inside.entries.items c.self.invariant c.args.i c.index.result.now c.index.ensures
    (subst (λ (s : Source). c.args.i < length s.tokens) (sym c.self.view_is) c.requires) in
    (omega (arith, c.after.ensures, bounds.0), omega (arith, c.after.ensures, bounds.1)))
