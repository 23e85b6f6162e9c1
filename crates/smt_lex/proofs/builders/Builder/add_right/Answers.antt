use Rattle.std.proofs.Common.{◌∙◌, ◌++◌, ap, refl, arith}
use Rattle.std.specs.Prelude.{option_to_list}
use Rattle.smt_lex.proofs.Putting.{puts_right}
use Rattle.smt_lex.proofs.builders.Builder.add_right.Goals as goal

pub returns-clause-puts : goal.returns-clause-puts
returns-clause-puts c =
    puts_right c.args.self.now.place _ c.args.self.now.entries.items _ c.args.self.now.lists.items c.pop.new.self.items c.unwrap-left.result
    c.index_mut.result.now (record c.index_mut.result.now { link = c.len.result }) c.push_reserved.new.self.items
    refl c.requires.nests (c.pop.ensures.items ∙ ap (λ o. c.pop.new.self.items ++ option_to_list o) (c.unwrap-left.ensures))
    c.push_reserved.ensures.items c.index_mut.ensures.value
    (ap (λ n. record c.index_mut.result.now { link = n }) (omega (arith, c.len.ensures, c.push_reserved.ensures.len, c.args.self.now.entries.ok.0))) refl
