-- Printable commands close no level that isn't open.
use Rattle.std.proofs.Common.{◌≡◌, ℕ, suc, ◌-◌, ◌≤◌, Bool, true, false, ◌&&◌, List, [], ◌∷◌, ◌++◌, length, nat_le, refl, arith}
use Rattle.std.proofs.lemmas.Bool.{leb-true}
use Rattle.smt_terms.specs.Term.{Term}
use Rattle.smt_terms.proofs.Tests.{both_true}
use Rattle.script_read.specs.Commands.{Command, declare_sort, declare, assert, push, pop, reset, reset_assertions, State, start, with_sort, with_symbol, with_assertion, after}
use Rattle.script_read.specs.Printable.{open_levels, may_stand, fixes, may_be_followed, printable_from}
use Rattle.script_read.specs.Script.{most_levels}
use Rattle.pass_laws.specs.Laws.{LevelsAreOpen}
use Rattle.pass_laws.specs.LiveGroups.{opened_by, opened_from}
use Rattle.pass_laws.proofs.FoundGroups.{latest_length, popped_length, emptied_length, pushed_length}

few_closed : (n : ℕ) (begun : Bool) (st : State Term) (d : ℕ) → may_stand begun st (pop n) ≡ true → length st.levels ≡ suc d → n ≤ d
few_closed n begun st d may opened =
    let few : n ≤ length st.levels - 1 = leb-true n (open_levels st) (both_true (nat_le n most_levels) (nat_le n (open_levels st)) may).1 in
    omega (arith, few, opened)

opened_after : (c : Command Term) (begun : Bool) (st : State Term) (d : ℕ) → may_stand begun st c ≡ true → length st.levels ≡ suc d → length (after c st).levels ≡ suc (opened_by c d)
opened_after (declare_sort n) begun st d may opened = latest_length (with_sort n) st.levels d opened
opened_after (declare f) begun st d may opened = latest_length (with_symbol f) st.levels d opened
opened_after (assert i t) begun st d may opened = latest_length (with_assertion t) st.levels d opened
opened_after (push n) begun st d may opened = pushed_length n st.levels d opened
opened_after (pop n) begun st d may opened = popped_length st.global n st.levels d (few_closed n begun st d may opened) opened
opened_after reset_assertions begun st d may opened = emptied_length st.global st.levels
opened_after reset begun st d may opened = refl
opened_after _ begun st d may opened = opened

pops_opened : (n : ℕ) (behind cs : List (Command Term)) (begun : Bool) (st : State Term) (d : ℕ) → printable_from begun st (cs ++ pop n ∷ behind) ≡ true → length st.levels ≡ suc d → n ≤ opened_from d cs
pops_opened n behind [] begun st d printed opened =
    few_closed n begun st d (both_true (may_stand begun st (pop n)) (may_be_followed (pop n) behind && printable_from (fixes begun (pop n)) (after (pop n) st) behind) printed).0 opened
pops_opened n behind (c ∷ cs) begun st d printed opened =
    let rest : List (Command Term) = cs ++ pop n ∷ behind in
    let here = both_true (may_stand begun st c) (may_be_followed c rest && printable_from (fixes begun c) (after c st) rest) printed in
    let there = both_true (may_be_followed c rest) (printable_from (fixes begun c) (after c st) rest) here.1 in
    pops_opened n behind cs (fixes begun c) (after c st) (opened_by c d) there.1 (opened_after c begun st d here.0 opened)

pub levels-are-open : LevelsAreOpen
levels-are-open before n behind s ready = pops_opened n behind before false start 0 ready.printable refl
