-- What is told of commands, one by one: of those before a check, and of all of them.
use Rattle.std.proofs.Common.{◌≡◌, ◌∙◌, sym, ap, refl, ℕ, ◌+◌, ◌-◌, ◌==◌, Bool, true, false, cond, if◌then◌else◌, List, [], ◌∷◌, ◌++◌, count_by}
use Rattle.std.proofs.lemmas.List.Sums.{sum_by-append, sum_by-cons}
use Rattle.smt_terms.specs.Sorts.{Sort, Symbol}
use Rattle.term_groups.specs.Grouping.{symbols_of}
use Rattle.script_read.specs.Commands.{Command, declare, assert, check, check_assuming, push, pop, reset, reset_assertions, globals, Level, State, start, is_check}
use Rattle.pass_laws.specs.GroupPoints.{drawn_in}
use Rattle.pass_laws.specs.LiveGroups.{Drawn, drawn_of, told_function, told, all_told, before_check, global_behind, symbols_in, all_drawn}
use Rattle.pass_laws.specs.Passed.{Replacement}
use Rattle.pass_laws.proofs.FoundGroups.{up_to, after_by, behind_by}

-- a declaration is told or not
pub told_declared : (P : List (Command Drawn) → Type 0) (f : Symbol) (cs : List (Command Drawn)) → P cs → P (declare f ∷ cs) → P (told_function f.args f ++ cs)
told_declared P f cs untold one_more = by f.args
  where
    by : (ss : List Sort) → P (told_function ss f ++ cs)
    by [] = untold
    by (s ∷ ss) = one_more

told_checked : (k : ℕ) (b : Bool) (c : Command Replacement) (rs : List (Command Replacement)) → told c ≡ check ∷ [] → ((j : ℕ) → all_told (up_to Replacement j rs) ≡ before_check j (all_told rs))
    → all_told (if b then [] else c ∷ up_to Replacement (k - 1) rs) ≡ (if b then [] else check ∷ before_check (k - 1) (all_told rs))
told_checked k true c rs is rest = refl
told_checked k false c rs is rest = λ i. is i ++ rest (k - 1) i

declared_before : (k : ℕ) (f : Symbol) (ss : List Sort) (cs ds : List (Command Drawn)) → cs ≡ before_check k ds → told_function ss f ++ cs ≡ before_check k (told_function ss f ++ ds)
declared_before k f [] cs ds same = same
declared_before k f (s ∷ ss) cs ds same = ap (λ es. declare f ∷ es) same

pub told_up_to : (rs : List (Command Replacement)) (k : ℕ) → all_told (up_to Replacement k rs) ≡ before_check k (all_told rs)
told_up_to [] k = refl
told_up_to (declare f ∷ rs) k = declared_before k f f.args (all_told (up_to Replacement k rs)) (all_told rs) (told_up_to rs k)
told_up_to (assert n r ∷ rs) k = ap (λ cs. assert n (drawn_of r) ∷ cs) (told_up_to rs k)
told_up_to (check ∷ rs) k = told_checked k (k == 1) check rs refl (told_up_to rs)
told_up_to (check_assuming ls ∷ rs) k = told_checked k (k == 1) (check_assuming ls) rs refl (told_up_to rs)
told_up_to (push n ∷ rs) k = ap (λ cs. push n ∷ cs) (told_up_to rs k)
told_up_to (pop n ∷ rs) k = ap (λ cs. pop n ∷ cs) (told_up_to rs k)
told_up_to (reset ∷ rs) k = ap (λ cs. reset ∷ cs) (told_up_to rs k)
told_up_to (reset_assertions ∷ rs) k = ap (λ cs. reset_assertions ∷ cs) (told_up_to rs k)
told_up_to (globals b ∷ rs) k = ap (λ cs. globals b ∷ cs) (told_up_to rs k)
told_up_to (c ∷ rs) k = told_up_to rs k

pub told_global : (A : Type 0) (change : Replacement → Level A → Level A) (rs : List (Command Replacement)) (s : State A) → global_behind s.global (all_told rs) ≡ (behind_by Replacement A change s rs).global
told_global A change [] s = refl
told_global A change (declare f ∷ rs) s =
    let rest : global_behind s.global (all_told rs) ≡ (behind_by Replacement A change (after_by Replacement A change (declare f) s) rs).global = told_global A change rs (after_by Replacement A change (declare f) s) in
    told_declared (λ cs. global_behind s.global cs ≡ (behind_by Replacement A change (after_by Replacement A change (declare f) s) rs).global) f (all_told rs) rest rest
told_global A change (reset ∷ rs) s = told_global A change rs start
told_global A change (globals b ∷ rs) s = told_global A change rs (record { levels = s.levels; global = b })
told_global A change (c ∷ rs) s = told_global A change rs (after_by Replacement A change c s)

no_check : (f : Symbol) (ss : List Sort) → count_by is_check (told_function ss f) ≡ 0
no_check f [] = refl
no_check f (s ∷ ss) = refl

told_one : (c : Command Replacement) → count_by is_check (told c) ≡ cond (is_check c) 1 0
told_one (declare f) = no_check f f.args
told_one (assert i r) = refl
told_one _ = refl

pub told_checks : (rs : List (Command Replacement)) → count_by is_check (all_told rs) ≡ count_by is_check rs
told_checks [] = refl
told_checks (c ∷ rs) =
    sum_by-append (λ d. cond (is_check d) 1 0) (told c) (all_told rs) ∙ (λ i. told_one c i + told_checks rs i) ∙ sym (sum_by-cons (λ d. cond (is_check d) 1 0) c rs)

pub told_drawn : (rs : List (Command Replacement)) → symbols_in (all_drawn (all_told rs)) ≡ drawn_in rs
told_drawn [] = refl
told_drawn (declare f ∷ rs) = told_declared (λ cs. symbols_in (all_drawn cs) ≡ drawn_in rs) f (all_told rs) (told_drawn rs) (told_drawn rs)
told_drawn (assert i r ∷ rs) = ap (λ fs. symbols_of r.group.symbols ++ fs) (told_drawn rs)
told_drawn (c ∷ rs) = told_drawn rs
