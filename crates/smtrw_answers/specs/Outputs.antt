-- What the commands write: a script rewritten, the numbers of a script, and the line of the demonstration.
use Rattle.std.specs.Prelude.{◌≡◌, ℕ, zero, suc, ◌+◌, ◌*◌, ◌-◌, ◌/◌, ◌%◌, ◌^◌, Bool, true, false, nat_lt, if◌then◌else◌, List, [], ◌∷◌, ◌++◌, flat_map, length, count_by, codes, Result, Ok, Err}
use Rattle.smt_lex.specs.Lex.{Fault}
use Rattle.smt_lex.specs.Forms.{Forms, forms_to_exit, list as list_of_forms}
use Rattle.smt_terms.specs.Fresh.{Supply}
use Rattle.smt_terms.specs.Numeral.{numeral}
use Rattle.smt_terms.specs.Sorts.{Name}
use Rattle.smt_terms.specs.Term.{Term}
use Rattle.term_walk.specs.Subterms.{all_subterms}
use Rattle.script_terms.specs.Refusals.{Unaccepted}
use Rattle.script_read.specs.Commands.{Command, declare, assert, checks}
use Rattle.script_read.specs.Script.{script}
use Rattle.smt_print.specs.declared.layout.Layout.{Layout}
use Rattle.smt_print.specs.declared.layout.Layout.TheVariants.{Dag}
use Rattle.smt_print.specs.Text.{lines}
use Rattle.pass_laws.specs.declared.names.Pass.{Pass}
use Rattle.pass_laws.specs.declared.names.Pass.TheVariants.{Nnf, Simplify, Cnf}
use Rattle.pass_laws.specs.Passed.{passed}
use Rattle.pass_laws.specs.Led.{Leads}

-- ---- a text rewritten

-- the commands of a text and the names that reading leaves; of a text that isn't accepted, none
abbrev pub read_or_none : Result (List (Command Term) × Supply) Unaccepted → List (Command Term) × Supply
read_or_none (Ok r) = r
read_or_none (Err e) = ([], record { taken = []; number = 0 })

abbrev pub commands : List ℕ → List (Command Term)
commands b = (read_or_none (script b)).0

abbrev pub names_left : List ℕ → Supply
names_left b = (read_or_none (script b)).1

-- the commands of a text behind the passes, where stored rules count as changing nothing, and what is written of them
abbrev pub rewritten_commands : List ℕ → List Pass → List (Command Term)
rewritten_commands b ps = (passed ps (commands b) (names_left b)).0

abbrev pub rewritten : List ℕ → List Pass → Layout → List ℕ
rewritten b ps layout = lines layout (rewritten_commands b ps)

-- what may be written by any passes, with stored rules of these names
abbrev pub MayBeWritten : List ℕ → List Pass → List Name → Layout → List ℕ → Type 0
MayBeWritten b ps rules layout w =
    (cs : List (Command Term)) × Leads ps (commands b) (names_left b) rules cs × (w ≡ lines layout cs)

-- ---- the numbers of a script

abbrev pub asserted : Command Term → List Term
asserted (assert i t) = t ∷ []
asserted _ = []

abbrev pub assertions : List (Command Term) → List Term
assertions cs = flat_map asserted cs

-- of a function or a constant
abbrev pub is_declaration : Command Term → Bool
is_declaration (declare f) = true
is_declaration _ = false

abbrev pub form_count : Result Forms Fault → ℕ
form_count (Ok fs) = length (list_of_forms fs)
form_count (Err f) = 0

unfoldable pub count_line : List ℕ → ℕ → List ℕ
count_line word n = word ++ codes " " ++ numeral n ++ codes "\n"

-- the commands that were read, definitions among them; declarations; assertions; checks; and the nodes of all assertions
abbrev pub stats_lines : List ℕ → List ℕ
stats_lines b =
    count_line (codes "commands") (form_count (forms_to_exit b))
    ++ count_line (codes "declarations") (count_by is_declaration (commands b))
    ++ count_line (codes "assertions") (length (assertions (commands b)))
    ++ count_line (codes "checks") (checks (commands b))
    ++ count_line (codes "nodes") (length (all_subterms (assertions (commands b))))

-- ---- the demonstration: a script of so many steps, drawn from a seed

-- the next state of the generator, and the number that it gives
abbrev pub next_state : ℕ → ℕ
next_state s = (s * 1103515245 + 12345) % 2 ^ 31

abbrev pub drawn : ℕ → ℕ
drawn s = next_state s / 65536

-- the first eight names are `b0` to `b7`, and the others `t0`, `t1` and so on
abbrev pub pool_name : ℕ → List ℕ
pool_name i = if nat_lt i 8 then codes "b" ++ numeral i else codes "t" ++ numeral (i - 8)

abbrev pub over_two : List ℕ → ℕ → ℕ → List ℕ
over_two op i j = codes "(" ++ op ++ codes " " ++ pool_name i ++ codes " " ++ pool_name j ++ codes ")"

-- the term of an operator's number over two names
-- `and`, `or`, `not` of the first, `xor` and `=` have the numbers 0 to 4
abbrev pub step_term : ℕ → ℕ → ℕ → List ℕ
step_term zero i j = over_two (codes "and") i j
step_term (suc zero) i j = over_two (codes "or") i j
step_term (suc (suc zero)) i j = codes "(not " ++ pool_name i ++ codes ")"
step_term (suc (suc (suc zero))) i j = over_two (codes "xor") i j
step_term (suc (suc (suc (suc n)))) i j = over_two (codes "=") i j

-- the term of step k in a state: an operator is drawn, and then two names of the 8 and k that are there
abbrev pub step_at : ℕ → ℕ → List ℕ
step_at s k = step_term (drawn s % 5) (drawn (next_state s) % (8 + k)) (drawn (next_state (next_state s)) % (8 + k))

-- so many steps from step k on, in a state, and the last step's name within
abbrev pub steps_from : ℕ → ℕ → ℕ → List ℕ
steps_from zero k s = codes "t" ++ numeral (k - 1)
steps_from (suc n) k s =
    codes "(let ((t" ++ numeral k ++ codes " " ++ step_at s k ++ codes ")) "
    ++ steps_from n (suc k) (next_state (next_state (next_state s))) ++ codes ")"

abbrev pub flag_lines : List ℕ → List ℕ
flag_lines is = flat_map (λ i. codes "(declare-fun b" ++ numeral i ++ codes " () Bool)\n") is

abbrev pub demo_script : ℕ → ℕ → List ℕ
demo_script seed size =
    codes "(set-logic QF_UF)\n"
    ++ flag_lines (0 ∷ 1 ∷ 2 ∷ 3 ∷ 4 ∷ 5 ∷ 6 ∷ 7 ∷ [])
    ++ codes "(assert " ++ steps_from size 0 (seed % 2 ^ 31) ++ codes ")\n"
    ++ codes "(check-sat)\n"

abbrev pub demo_passes : List Pass
demo_passes = Nnf ∷ Simplify ∷ Cnf ∷ []

-- seed and size, the bytes of the script, and the assertions and bytes that rewriting makes of it
abbrev pub demo_line : ℕ → ℕ → List ℕ
demo_line seed size =
    codes "demo seed " ++ numeral seed ++ codes " size " ++ numeral size ++ codes ": "
    ++ numeral (length (demo_script seed size)) ++ codes " bytes in, "
    ++ numeral (length (assertions (rewritten_commands (demo_script seed size) demo_passes))) ++ codes " assertions out, "
    ++ numeral (length (rewritten (demo_script seed size) demo_passes Dag)) ++ codes " bytes out\n"
