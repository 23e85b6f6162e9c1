-- Worked rows of the program's words.
use Prim.Native.String.{String}
use Rattle.std.specs.Prelude.{◌≡◌, ℕ, List, [], ◌∷◌, map, codes, Result, Ok, Err, refl}
use Rattle.smt_print.specs.declared.layout.Layout.TheVariants.{Tree, Dag}
use Rattle.pass_laws.specs.declared.names.Pass.TheVariants.{Nnf, Aig, Prenex, Reads, Shannon, SelfSub, Simplify, Rules, Ite, Cnf, Ackermann}
use Rattle.pass_laws.specs.Lists.{pass_named}
use Rattle.smtrw_answers.specs.declared.status.Usage.{Usage}
use Rattle.smtrw_answers.specs.declared.status.Why.{Why}
use Rattle.smtrw_answers.specs.declared.status.Why.TheVariants.{Missing, UnknownCommand, BadOption, Repeated, BadValue, BadPass, AfterRules, Extra, TwoInputs}
use Rattle.smtrw_answers.specs.Words.{Numbered, Asked, rewrite, translate, extend, blast, unblast, dimacs, answer, stats, demo, asked}

abbrev asked_for : List String → Result Asked Usage
asked_for words = asked (map codes words)

abbrev fault : ℕ → Why → Result Asked Usage
fault i why = Err (record { word = i; why = why })

abbrev word : ℕ → String → Numbered
word i s = record { number = i; word = codes s }

-- ---- what each command takes

rewrite_alone : asked_for ("rewrite" ∷ "-" ∷ []) ≡ Ok (rewrite [] Tree (word 2 "-"))
rewrite_alone = refl

rewrite_with_options : asked_for ("rewrite" ∷ "--layout" ∷ "dag" ∷ "a.smt2" ∷ "--passes=nnf,simplify" ∷ []) ≡ Ok (rewrite (Nnf ∷ Simplify ∷ []) Dag (word 4 "a.smt2"))
unfolding pass_named
rewrite_with_options = refl

layout_in_one_word : asked_for ("rewrite" ∷ "--layout=tree" ∷ "f" ∷ []) ≡ Ok (rewrite [] Tree (word 3 "f"))
layout_in_one_word = refl

translate_alone : asked_for ("translate" ∷ "a" ∷ "-" ∷ []) ≡ Ok (translate [] 1 (word 2 "a") (word 3 "-"))
translate_alone = refl

translate_with_options : asked_for ("translate" ∷ "--check" ∷ "12" ∷ "a" ∷ "--passes" ∷ "ite,cnf,rules" ∷ "a" ∷ []) ≡ Ok (translate (Ite ∷ Cnf ∷ Rules ∷ []) 12 (word 4 "a") (word 7 "a"))
unfolding pass_named
translate_with_options = refl

extend_with_check : asked_for ("extend" ∷ "-" ∷ "m" ∷ "--check=2" ∷ []) ≡ Ok (extend [] 2 (word 2 "-") (word 3 "m"))
extend_with_check = refl

stats_alone : asked_for ("stats" ∷ "-" ∷ []) ≡ Ok (stats (word 2 "-"))
stats_alone = refl

demo_alone : asked_for ("demo" ∷ "0" ∷ "10000" ∷ []) ≡ Ok (demo 0 10000)
demo_alone = refl

-- eighteen digits
long_seed : asked_for ("demo" ∷ "123456789012345678" ∷ "1" ∷ []) ≡ Ok (demo 123456789012345678 1)
long_seed = refl

-- ---- the faults of rewriting, of lists and of files

after_rules : asked_for ("rewrite" ∷ "--passes" ∷ "rules,cnf" ∷ "-" ∷ []) ≡ fault 3 AfterRules
unfolding pass_named
after_rules = refl

bad_pass : asked_for ("rewrite" ∷ "--passes" ∷ "nnf,foo" ∷ "-" ∷ []) ≡ fault 3 BadPass
unfolding pass_named
bad_pass = refl

no_file : asked_for ("rewrite" ∷ "--passes=cnf" ∷ []) ≡ fault 3 Missing
unfolding pass_named
no_file = refl

two_inputs : asked_for ("translate" ∷ "-" ∷ "-" ∷ []) ≡ fault 3 TwoInputs
two_inputs = refl

two_dashes : asked_for ("rewrite" ∷ "--" ∷ "a" ∷ []) ≡ fault 2 BadOption
two_dashes = refl

-- ---- words that are missing

no_words : asked_for [] ≡ fault 1 Missing
no_words = refl

command_alone : asked_for ("stats" ∷ []) ≡ fault 2 Missing
command_alone = refl

one_file_of_two : asked_for ("extend" ∷ "a" ∷ []) ≡ fault 3 Missing
one_file_of_two = refl

no_value : asked_for ("rewrite" ∷ "-" ∷ "--passes" ∷ []) ≡ fault 4 Missing
no_value = refl

no_size : asked_for ("demo" ∷ "5" ∷ []) ≡ fault 3 Missing
no_size = refl

-- ---- commands and options

unknown_command : asked_for ("solve" ∷ "--x" ∷ []) ≡ fault 1 UnknownCommand
unknown_command = refl

empty_command : asked_for ("" ∷ "a" ∷ []) ≡ fault 1 UnknownCommand
empty_command = refl

help_first : asked_for ("--help" ∷ []) ≡ fault 1 UnknownCommand
help_first = refl

help_later : asked_for ("stats" ∷ "a" ∷ "--help" ∷ []) ≡ fault 3 BadOption
help_later = refl

-- an option of another command
layout_of_translate : asked_for ("translate" ∷ "--layout" ∷ "tree" ∷ []) ≡ fault 2 BadOption
layout_of_translate = refl

check_of_rewrite : asked_for ("rewrite" ∷ "--check=1" ∷ "a" ∷ []) ≡ fault 2 BadOption
check_of_rewrite = refl

passes_of_stats : asked_for ("stats" ∷ "--passes=nnf" ∷ "a" ∷ []) ≡ fault 2 BadOption
passes_of_stats = refl

cut_name : asked_for ("rewrite" ∷ "--pass" ∷ "nnf" ∷ "a" ∷ []) ≡ fault 2 BadOption
cut_name = refl

negative_seed : asked_for ("demo" ∷ "-5" ∷ "1" ∷ []) ≡ fault 2 BadOption
negative_seed = refl

-- an option given twice, before its value
repeated : asked_for ("rewrite" ∷ "--passes" ∷ "nnf" ∷ "--passes=foo" ∷ "a" ∷ []) ≡ fault 4 Repeated
unfolding pass_named
repeated = refl

repeated_at_end : asked_for ("translate" ∷ "--check=1" ∷ "a" ∷ "b" ∷ "--check" ∷ []) ≡ fault 5 Repeated
repeated_at_end = refl

-- ---- values

dashed_value : asked_for ("rewrite" ∷ "--passes" ∷ "--layout" ∷ "tree" ∷ "a" ∷ []) ≡ fault 3 BadValue
dashed_value = refl

dash_as_list : asked_for ("rewrite" ∷ "--passes" ∷ "-" ∷ []) ≡ fault 3 BadPass
unfolding pass_named
dash_as_list = refl

dash_as_layout : asked_for ("rewrite" ∷ "--layout" ∷ "-" ∷ []) ≡ fault 3 BadValue
dash_as_layout = refl

empty_list : asked_for ("rewrite" ∷ "--passes=" ∷ "a" ∷ []) ≡ fault 2 BadPass
unfolding pass_named
empty_list = refl

bad_layout : asked_for ("rewrite" ∷ "--layout=graph" ∷ "a" ∷ []) ≡ fault 2 BadValue
bad_layout = refl

check_zero : asked_for ("extend" ∷ "--check" ∷ "0" ∷ []) ≡ fault 3 BadValue
check_zero = refl

check_with_zero : asked_for ("extend" ∷ "--check=01" ∷ []) ≡ fault 2 BadValue
check_with_zero = refl

check_of_nineteen_digits : asked_for ("extend" ∷ "--check=1234567890123456789" ∷ []) ≡ fault 2 BadValue
check_of_nineteen_digits = refl

size_zero : asked_for ("demo" ∷ "1" ∷ "0" ∷ []) ≡ fault 3 BadValue
size_zero = refl

size_too_great : asked_for ("demo" ∷ "1" ∷ "10001" ∷ []) ≡ fault 3 BadValue
size_too_great = refl

dash_as_seed : asked_for ("demo" ∷ "-" ∷ []) ≡ fault 2 BadValue
dash_as_seed = refl

seed_with_letter : asked_for ("demo" ∷ "1a" ∷ "1" ∷ []) ≡ fault 2 BadValue
seed_with_letter = refl

-- ---- words too many, and empty ones

third_file : asked_for ("translate" ∷ "a" ∷ "b" ∷ "c" ∷ []) ≡ fault 4 Extra
third_file = refl

-- too many counts before the second `-`
second_dash_too_many : asked_for ("rewrite" ∷ "-" ∷ "-" ∷ []) ≡ fault 3 Extra
second_dash_too_many = refl

third_number : asked_for ("demo" ∷ "1" ∷ "2" ∷ "x" ∷ []) ≡ fault 4 Extra
third_number = refl

-- an empty word counts before one too many
empty_word_too_many : asked_for ("stats" ∷ "a" ∷ "" ∷ []) ≡ fault 3 BadValue
empty_word_too_many = refl

-- ---- several faults: the first counts

list_before_option : asked_for ("rewrite" ∷ "--passes" ∷ "foo" ∷ "--nothing" ∷ "-" ∷ "-" ∷ []) ≡ fault 3 BadPass
unfolding pass_named
list_before_option = refl

option_before_list : asked_for ("rewrite" ∷ "--nothing" ∷ "--passes" ∷ "foo" ∷ []) ≡ fault 2 BadOption
option_before_list = refl

inputs_before_value : asked_for ("translate" ∷ "-" ∷ "-" ∷ "--check=0" ∷ []) ≡ fault 3 TwoInputs
inputs_before_value = refl

-- what is missing is tested last
value_before_missing : asked_for ("translate" ∷ "--check=0" ∷ []) ≡ fault 2 BadValue
value_before_missing = refl

-- ---- lists of passes, and commands that read two files

every_pass : asked_for ("rewrite" ∷ "--passes=simplify,nnf,aig,prenex,reads,shannon,selfsub,ite,cnf,ackermann,rules" ∷ "-" ∷ []) ≡ Ok (rewrite (Simplify ∷ Nnf ∷ Aig ∷ Prenex ∷ Reads ∷ Shannon ∷ SelfSub ∷ Ite ∷ Cnf ∷ Ackermann ∷ Rules ∷ []) Tree (word 3 "-"))
unfolding pass_named
every_pass = refl

removal : asked_for ("rewrite" ∷ "--passes" ∷ "nnf,ackermann" ∷ "-" ∷ []) ≡ Ok (rewrite (Nnf ∷ Ackermann ∷ []) Tree (word 4 "-"))
unfolding pass_named
removal = refl

removal_in_wrong_order : asked_for ("rewrite" ∷ "--passes" ∷ "rules,ackermann" ∷ "-" ∷ []) ≡ fault 3 AfterRules
unfolding pass_named
removal_in_wrong_order = refl

input_as_script : asked_for ("translate" ∷ "--check=3" ∷ "-" ∷ "--passes" ∷ "ite,rules" ∷ "m" ∷ []) ≡ Ok (translate (Ite ∷ Rules ∷ []) 3 (word 3 "-") (word 6 "m"))
unfolding pass_named
input_as_script = refl

input_as_model : asked_for ("extend" ∷ "a" ∷ "-" ∷ []) ≡ Ok (extend [] 1 (word 2 "a") (word 3 "-"))
input_as_model = refl

-- ---- what is made of bits

blast_alone : asked_for ("blast" ∷ "-" ∷ []) ≡ Ok (blast [] 1 (word 2 "-"))
blast_alone = refl

blast_with_options : asked_for ("blast" ∷ "a" ∷ "--check=2" ∷ "--passes" ∷ "simplify,ite" ∷ []) ≡ Ok (blast (Simplify ∷ Ite ∷ []) 2 (word 2 "a"))
unfolding pass_named
blast_with_options = refl

unblast_alone : asked_for ("unblast" ∷ "a" ∷ "-" ∷ []) ≡ Ok (unblast [] 1 (word 2 "a") (word 3 "-"))
unblast_alone = refl

unblast_with_options : asked_for ("unblast" ∷ "--check" ∷ "3" ∷ "-" ∷ "--passes=ackermann" ∷ "m" ∷ []) ≡ Ok (unblast (Ackermann ∷ []) 3 (word 4 "-") (word 6 "m"))
unfolding pass_named
unblast_with_options = refl

rules_over_bits : asked_for ("blast" ∷ "--passes" ∷ "rules" ∷ "-" ∷ []) ≡ fault 3 BadPass
unfolding pass_named
rules_over_bits = refl

-- that stored rules stand there counts before the order
rules_before_groups : asked_for ("unblast" ∷ "--passes=rules,cnf" ∷ "s" ∷ "m" ∷ []) ≡ fault 2 BadPass
unfolding pass_named
rules_before_groups = refl

two_inputs_of_unblast : asked_for ("unblast" ∷ "-" ∷ "-" ∷ []) ≡ fault 3 TwoInputs
two_inputs_of_unblast = refl

layout_of_blast : asked_for ("blast" ∷ "--layout" ∷ "dag" ∷ "-" ∷ []) ≡ fault 2 BadOption
layout_of_blast = refl

second_file_of_blast : asked_for ("blast" ∷ "a" ∷ "b" ∷ []) ≡ fault 3 Extra
second_file_of_blast = refl

no_model : asked_for ("unblast" ∷ "s" ∷ []) ≡ fault 3 Missing
no_model = refl

-- ---- what is made of clauses

dimacs_alone : asked_for ("dimacs" ∷ "-" ∷ []) ≡ Ok (dimacs [] 1 (word 2 "-"))
dimacs_alone = refl

dimacs_with_options : asked_for ("dimacs" ∷ "a" ∷ "--check=2" ∷ "--passes" ∷ "simplify,cnf" ∷ []) ≡ Ok (dimacs (Simplify ∷ Cnf ∷ []) 2 (word 2 "a"))
unfolding pass_named
dimacs_with_options = refl

answer_alone : asked_for ("answer" ∷ "a" ∷ "-" ∷ []) ≡ Ok (answer [] 1 (word 2 "a") (word 3 "-"))
answer_alone = refl

answer_with_options : asked_for ("answer" ∷ "--check" ∷ "3" ∷ "-" ∷ "--passes=cnf" ∷ "m" ∷ []) ≡ Ok (answer (Cnf ∷ []) 3 (word 4 "-") (word 6 "m"))
unfolding pass_named
answer_with_options = refl

rules_over_clauses : asked_for ("dimacs" ∷ "--passes" ∷ "rules" ∷ "-" ∷ []) ≡ fault 3 BadPass
unfolding pass_named
rules_over_clauses = refl

rules_before_groups_of_answer : asked_for ("answer" ∷ "--passes=rules,cnf" ∷ "s" ∷ "m" ∷ []) ≡ fault 2 BadPass
unfolding pass_named
rules_before_groups_of_answer = refl

two_inputs_of_answer : asked_for ("answer" ∷ "-" ∷ "-" ∷ []) ≡ fault 3 TwoInputs
two_inputs_of_answer = refl

layout_of_dimacs : asked_for ("dimacs" ∷ "--layout" ∷ "dag" ∷ "-" ∷ []) ≡ fault 2 BadOption
layout_of_dimacs = refl

second_file_of_dimacs : asked_for ("dimacs" ∷ "a" ∷ "b" ∷ []) ≡ fault 3 Extra
second_file_of_dimacs = refl

no_answer : asked_for ("answer" ∷ "s" ∷ []) ≡ fault 3 Missing
no_answer = refl
