-- Lists of passes as they are written: names joined by commas, at most 32 of them.
use Rattle.std.specs.Prelude.{ℕ, ◌==◌, Bool, true, false, nat_lt, if◌then◌else◌, List, [], ◌∷◌, length, codes, bytes_eq, Result, Ok, Err, Option, Some, None}
use Rattle.std.specs.List.{list_all, list_any}
use Rattle.smt_terms.specs.Sorts.{Name}
use Rattle.pass_laws.specs.declared.names.Pass.{Pass}
use Rattle.pass_laws.specs.declared.names.Pass.TheVariants.{Simplify, Nnf, Aig, Prenex, Reads, Shannon, SelfSub, Rules, Ite, Cnf, Ackermann}
use Rattle.pass_laws.specs.declared.names.ListFault.{ListFault}
use Rattle.pass_laws.specs.declared.names.ListFault.TheVariants.{BadPass, AfterRules}

-- ---- names

abbrev pub pass_names : List (Name × Pass)
pass_names =
    (codes "simplify", Simplify)
    ∷ (codes "nnf", Nnf)
    ∷ (codes "aig", Aig)
    ∷ (codes "prenex", Prenex)
    ∷ (codes "reads", Reads)
    ∷ (codes "shannon", Shannon)
    ∷ (codes "selfsub", SelfSub)
    ∷ (codes "rules", Rules)
    ∷ (codes "ite", Ite)
    ∷ (codes "cnf", Cnf)
    ∷ (codes "ackermann", Ackermann)
    ∷ []

abbrev pub pass_among : List (Name × Pass) → Name → Option Pass
pass_among [] n = None
pass_among (p ∷ ps) n = if bytes_eq p.0 n then Some p.1 else pass_among ps n

unfoldable pub pass_named : Name → Option Pass
pass_named n = pass_among pass_names n

-- the passes of names, where each is one
abbrev pub with_pass : Option Pass → Option (List Pass) → Option (List Pass)
with_pass (Some p) (Some ps) = Some (p ∷ ps)
with_pass _ _ = None

abbrev pub passes_named : List Name → Option (List Pass)
passes_named [] = Some []
passes_named (n ∷ ns) = with_pass (pass_named n) (passes_named ns)

-- ---- kinds

-- a pass that puts a group in place of an assertion, with new symbols: no equivalence pass
abbrev pub makes_groups : Pass → Bool
makes_groups Ite = true
makes_groups Cnf = true
makes_groups Ackermann = true
makes_groups _ = false

-- such a pass stands somewhere behind `rules`
abbrev pub groups_after_rules : List Pass → Bool
groups_after_rules [] = false
groups_after_rules (Rules ∷ ps) = list_any makes_groups ps
groups_after_rules (p ∷ ps) = groups_after_rules ps

-- ---- lists

abbrev pub onto_first : ℕ → List Name → List Name
onto_first b [] = (b ∷ []) ∷ []
onto_first b (n ∷ ns) = (b ∷ n) ∷ ns

-- what stands between the commas: one name more than there are commas
abbrev pub between_commas : List ℕ → List Name
between_commas [] = [] ∷ []
between_commas (b ∷ bs) = if b == 44 then [] ∷ between_commas bs else onto_first b (between_commas bs)

abbrev pub most_passes : ℕ
most_passes = 32

abbrev pub in_order : List Pass → Result (List Pass) ListFault
in_order ps = if groups_after_rules ps then Err AfterRules else Ok ps

abbrev pub all_known : (Pass → Bool) → Option (List Pass) → Result (List Pass) ListFault
all_known runs (Some ps) = if list_all runs ps then in_order ps else Err BadPass
all_known runs None = Err BadPass

abbrev pub listed : (Pass → Bool) → List Name → Result (List Pass) ListFault
listed runs ns = if nat_lt most_passes (length ns) then Err BadPass else all_known runs (passes_named ns)

-- the passes of a text, where those that pass a test may stand in it
abbrev pub pass_list_of : (Pass → Bool) → List ℕ → Result (List Pass) ListFault
pass_list_of runs text = listed runs (between_commas text)

abbrev pub any_pass : Pass → Bool
any_pass p = true

-- the passes of a text
abbrev pub pass_list : List ℕ → Result (List Pass) ListFault
pass_list text = pass_list_of any_pass text
