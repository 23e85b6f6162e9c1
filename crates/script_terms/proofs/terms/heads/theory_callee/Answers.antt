use Rattle.std.proofs.Common.{◌≡◌, true, false, None, sym, ◌∙◌}
use Rattle.smt_lex.specs.Names.{is_among, is_theory_name}
use Rattle.script_terms.specs.Heads.{theory_head, constant_head, real_names}
use Rattle.script_terms.specs.HeadClauses.{world_of}
use Rattle.script_terms.proofs.HeadsCalled.{callee_moved, constant_head_is}
use Rattle.script_terms.proofs.terms.heads.theory_callee.Goals as goal

pub returns-then-is_theory_name : goal.returns-then-is_theory_name
returns-then-is_theory_name c ts t supply s fs ns are =
    let n = c.args.name.now in
    let real : is_among real_names n ≡ false = sym c.is_real_name.ensures ∙ c.if-is_real_name.false in
    let theory : is_theory_name n ≡ true = sym c.is_theory_name.ensures ∙ c.if-is_theory_name.true in
    callee_moved ts (world_of t supply s) (theory_head c.args.place n fs ns None) (constant_head c.args.place n fs ns) c.constant_callee.result
    (constant_head_is c.args.place n fs ns real theory)
    (c.constant_callee.ensures ts t supply s fs ns are)
