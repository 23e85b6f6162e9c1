-- What can be printed can be rewritten.
use Rattle.std.proofs.Common.{◌≡◌, Bool, true, false, ◌&&◌, List, [], ◌∷◌}
use Rattle.std.specs.Prelude.{flat_map}
use Rattle.std.proofs.lemmas.List.Elements.{All-nil, All-cons}
use Rattle.smt_terms.specs.Fresh.{Supply}
use Rattle.smt_terms.specs.Rank.{sort_of}
use Rattle.smt_terms.specs.Sorts.{bool}
use Rattle.smt_terms.specs.SubstLaws.{GivesNone}
use Rattle.smt_terms.specs.Term.{Term}
use Rattle.smt_terms.proofs.Tests.{both_true}
use Rattle.normal_forms.proofs.Inside.{in-left, in-right}
use Rattle.script_read.specs.Commands.{Command, passed, declare_sort, declare, assert, check, check_assuming, push, pop, reset, reset_assertions, globals, exit, State, start, after}
use Rattle.script_read.specs.Laws.{names_in_command}
use Rattle.script_terms.specs.Read.{has_sort}
use Rattle.script_read.specs.Printable.{is_printable_term, may_stand, fixes, may_be_followed, printable_from}
use Rattle.pass_laws.specs.Laws.{IsReady}
use Rattle.pass_laws.specs.Behind.{IsRewritable, AreRewritable}
use Rattle.pass_laws.proofs.Literals.{sort_is_bool}

one_rewritable : (begun : Bool) (st : State Term) (s : Supply) (c : Command Term) → may_stand begun st c ≡ true → GivesNone s (names_in_command c) → IsRewritable s c
one_rewritable begun st s (passed text) h none = tt
one_rewritable begun st s (declare_sort n) h none = tt
one_rewritable begun st s (declare f) h none = tt
one_rewritable begun st s (assert i t) h none = (sort_is_bool (sort_of t) (both_true (has_sort bool t) (is_printable_term st t) h).0, none)
one_rewritable begun st s check h none = tt
one_rewritable begun st s (check_assuming ls) h none = tt
one_rewritable begun st s (push n) h none = tt
one_rewritable begun st s (pop n) h none = tt
one_rewritable begun st s reset h none = tt
one_rewritable begun st s reset_assertions h none = tt
one_rewritable begun st s (globals b) h none = tt
one_rewritable begun st s exit h none = tt

all_rewritable : (cs : List (Command Term)) (begun : Bool) (st : State Term) (s : Supply) → printable_from begun st cs ≡ true → GivesNone s (flat_map names_in_command cs) → AreRewritable cs s
all_rewritable [] begun st s h none = All-nil (IsRewritable s)
all_rewritable (c ∷ cs) begun st s h none =
    let parts = both_true (may_stand begun st c) (may_be_followed c cs && printable_from (fixes begun c) (after c st) cs) h in
    let rest = both_true (may_be_followed c cs) (printable_from (fixes begun c) (after c st) cs) parts.1 in
    All-cons (IsRewritable s) c cs
    (one_rewritable begun st s c parts.0 (λ n among. none n (in-left (names_in_command c) (flat_map names_in_command cs) n among)))
    (all_rewritable cs (fixes begun c) (after c st) s rest.1 (λ n among. none n (in-right (names_in_command c) (flat_map names_in_command cs) n among)))

pub ready_rewritable : (cs : List (Command Term)) (s : Supply) → IsReady cs s → AreRewritable cs s
ready_rewritable cs s ready = all_rewritable cs false start s ready.printable ready.names
