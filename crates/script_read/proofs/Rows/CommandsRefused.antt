-- Worked rows: what commands are refused for, their names, shapes, levels and options. Each text stands with its first refusal, or none.
use Rattle.std.specs.Prelude.{◌≡◌, [], ◌∷◌, Some, None, codes, refl}
use Rattle.smt_lex.specs.Lex.{bad_byte, bad_token, open_text, unbalanced}
use Rattle.smt_lex.specs.Names.{is_command_word, is_syntax_word, is_theory_name, is_theory_sort, is_reserved_for_declaring, is_reserved_for_let, is_reserved_for_sorts}
use Rattle.smt_terms.specs.Rank.{rank}
use Rattle.smt_terms.specs.Written.{operator_named, written_rank, build}
use Rattle.script_terms.specs.declared.causes.Cause.TheVariants.{BadForm, NumberLimit, PopTooFar, Redeclared, ReservedName, SortArity, UnknownCommand, UnknownName, UnsupportedCommand, UnsupportedOption}
use Rattle.script_terms.specs.Refusals.{unread}
use Rattle.script_read.specs.Outlines.{supported}
use Rattle.script_read.proofs.Rows.Cases.{Cases, refusal, found, wanted}

-- the first word is no command's name, whatever else is wrong
abbrev unknown_commands : Cases
unknown_commands =
    (codes "(foo)", refusal UnknownCommand 1 1 0)
    ∷ (codes "(check-sat)\n(declare-fun2 x () Real)", refusal UnknownCommand 2 2 12)
    ∷ (codes "(foo 1 (2 x) :k)", refusal UnknownCommand 1 1 0)
    ∷ (codes "(let)", refusal UnknownCommand 1 1 0)
    ∷ (codes "(check-sat) (! true)", refusal UnknownCommand 2 1 12)
    ∷ []

of_unknown_commands : found unknown_commands ≡ wanted unknown_commands
unfolding is_command_word is_syntax_word supported is_theory_name is_theory_sort is_reserved_for_declaring is_reserved_for_let is_reserved_for_sorts operator_named written_rank build rank
of_unknown_commands = refl

-- a command of the standard that isn't supported, whatever its shape
abbrev unsupported_commands : Cases
unsupported_commands =
    (codes "(get-value (x))", refusal UnsupportedCommand 1 1 0)
    ∷ (codes "(get-proof)", refusal UnsupportedCommand 1 1 0)
    ∷ (codes "(get-model)\n(define-fun-rec)", refusal UnsupportedCommand 2 2 12)
    ∷ (codes "(declare-datatypes x)", refusal UnsupportedCommand 1 1 0)
    ∷ []

of_unsupported_commands : found unsupported_commands ≡ wanted unsupported_commands
unfolding is_command_word is_syntax_word supported is_theory_name is_theory_sort is_reserved_for_declaring is_reserved_for_let is_reserved_for_sorts operator_named written_rank build rank
of_unsupported_commands = refl

-- a form that is no list or begins with no word
abbrev no_commands : Cases
no_commands =
    (codes "foo", refusal BadForm 1 1 0)
    ∷ (codes "()", refusal BadForm 1 1 0)
    ∷ (codes "(|assert| true)", refusal BadForm 1 1 0)
    ∷ (codes "(5)", refusal BadForm 1 1 0)
    ∷ (codes "(check-sat)\n ((assert) true)", refusal BadForm 2 2 13)
    ∷ []

of_no_commands : found no_commands ≡ wanted no_commands
unfolding is_command_word is_syntax_word supported is_theory_name is_theory_sort is_reserved_for_declaring is_reserved_for_let is_reserved_for_sorts operator_named written_rank build rank
of_no_commands = refl

-- another number or kind of parts
abbrev shapes_of_declarations : Cases
shapes_of_declarations =
    (codes "(declare-sort S x)", refusal BadForm 1 1 0)
    ∷ (codes "(declare-sort 5 0)", refusal BadForm 1 1 0)
    ∷ (codes "(declare-fun f 5 Int)", refusal BadForm 1 1 0)
    ∷ (codes "(declare-fun let () Int)", refusal BadForm 1 1 0)
    ∷ (codes "(declare-const x)", refusal BadForm 1 1 0)
    ∷ (codes "(define-sort S U Int)", refusal BadForm 1 1 0)
    ∷ (codes "(define-fun f 5 Int t)", refusal BadForm 1 1 0)
    ∷ (codes "(define-fun f () Int)", refusal BadForm 1 1 0)
    ∷ []

of_shapes_of_declarations : found shapes_of_declarations ≡ wanted shapes_of_declarations
unfolding is_command_word is_syntax_word supported is_theory_name is_theory_sort is_reserved_for_declaring is_reserved_for_let is_reserved_for_sorts operator_named written_rank build rank
of_shapes_of_declarations = refl

abbrev shapes_of_other_commands : Cases
shapes_of_other_commands =
    (codes "(push x)", refusal BadForm 1 1 0)
    ∷ (codes "(push 1 2)", refusal BadForm 1 1 0)
    ∷ (codes "(pop (1))", refusal BadForm 1 1 0)
    ∷ (codes "(assert)", refusal BadForm 1 1 0)
    ∷ (codes "(assert true false)", refusal BadForm 1 1 0)
    ∷ (codes "(check-sat 1)", refusal BadForm 1 1 0)
    ∷ (codes "(check-sat-assuming a)", refusal BadForm 1 1 0)
    ∷ (codes "(set-logic)", refusal BadForm 1 1 0)
    ∷ (codes "(set-logic :k)", refusal BadForm 1 1 0)
    ∷ (codes "(echo x)", refusal BadForm 1 1 0)
    ∷ (codes "(get-model 1)", refusal BadForm 1 1 0)
    ∷ (codes "(set-info x)", refusal BadForm 1 1 0)
    ∷ (codes "(set-option :k 1 2)", refusal BadForm 1 1 0)
    ∷ (codes "(reset 1)", refusal BadForm 1 1 0)
    ∷ (codes "(exit 1)", refusal BadForm 1 1 0)
    ∷ []

of_shapes_of_other_commands : found shapes_of_other_commands ≡ wanted shapes_of_other_commands
unfolding is_command_word is_syntax_word supported is_theory_name is_theory_sort is_reserved_for_declaring is_reserved_for_let is_reserved_for_sorts operator_named written_rank build rank
of_shapes_of_other_commands = refl

-- names of the theories, and those that begin with `@` or `.`
abbrev reserved_names : Cases
reserved_names =
    (codes "(declare-const @x Int)", refusal ReservedName 1 1 15)
    ∷ (codes "(declare-fun and () Bool)", refusal ReservedName 1 1 13)
    ∷ (codes "(declare-const |true| Bool)", refusal ReservedName 1 1 15)
    ∷ (codes "(declare-const to_real Int)", refusal ReservedName 1 1 15)
    ∷ (codes "(define-fun bv5 () Int 1)", refusal ReservedName 1 1 12)
    ∷ (codes "(declare-sort Int 0)", refusal ReservedName 1 1 14)
    ∷ (codes "(declare-sort .s 0)", refusal ReservedName 1 1 14)
    ∷ (codes "(define-sort BitVec () Int)", refusal ReservedName 1 1 13)
    ∷ (codes "(define-fun f ((.x Int)) Int 1)", refusal ReservedName 1 1 16)
    ∷ (codes "(assert (forall ((@q Bool)) true))", refusal ReservedName 1 1 18)
    ∷ (codes "(assert (let ((not true)) true))", refusal ReservedName 1 1 15)
    ∷ (codes "(assert (! true :named .n))", refusal ReservedName 1 1 23)
    ∷ (codes "(declare-const |let| Bool)(declare-const bv Bool)(assert (let ((.x true)) .x))", None)
    ∷ (codes "(declare-sort and 0)(declare-const Int Int)", None)
    ∷ []

of_reserved_names : found reserved_names ≡ wanted reserved_names
unfolding is_command_word is_syntax_word supported is_theory_name is_theory_sort is_reserved_for_declaring is_reserved_for_let is_reserved_for_sorts operator_named written_rank build rank
of_reserved_names = refl

-- a name that is live, or stands twice
abbrev names_given_twice : Cases
names_given_twice =
    (codes "(declare-const x Int)\n(declare-fun x () Bool)", refusal Redeclared 2 2 35)
    ∷ (codes "(declare-sort S 0)(define-sort S () Int)", refusal Redeclared 2 1 31)
    ∷ (codes "(define-fun f () Int 1)(declare-const f Int)", refusal Redeclared 2 1 38)
    ∷ (codes "(assert (! true :named n))(define-fun n () Int 1)", refusal Redeclared 2 1 38)
    ∷ (codes "(define-fun f ((x Int) (x Bool)) Int 1)", refusal Redeclared 1 1 24)
    ∷ (codes "(assert (let ((x true) (|x| false)) x))", refusal Redeclared 1 1 24)
    ∷ (codes "(assert (exists ((x Bool) (x Bool)) x))", refusal Redeclared 1 1 27)
    ∷ (codes "(assert (! true :named n :named n))", refusal Redeclared 1 1 32)
    ∷ (codes "(define-fun f () Bool (! true :named f))", refusal Redeclared 1 1 37)
    ∷ (codes "(declare-const x Bool)(assert (! x :named x))", refusal Redeclared 2 1 42)
    ∷ (codes "(assert (and (! true :named n) (! true :named n)))", refusal Redeclared 1 1 46)
    ∷ (codes "(declare-sort x 0)(declare-const x x)", None)
    ∷ (codes "(push 1)(declare-const x Int)(pop 1)(declare-const x Bool)", None)
    ∷ (codes "(declare-const x Int)(reset-assertions)(declare-const x Bool)", None)
    ∷ []

of_names_given_twice : found names_given_twice ≡ wanted names_given_twice
unfolding is_command_word is_syntax_word supported is_theory_name is_theory_sort is_reserved_for_declaring is_reserved_for_let is_reserved_for_sorts operator_named written_rank build rank
of_names_given_twice = refl

-- a name is examined before an arity, sorts and parameters
abbrev a_name_counts_first : Cases
a_name_counts_first =
    (codes "(declare-sort @S 2)", refusal ReservedName 1 1 14)
    ∷ (codes "(declare-sort S 0)\n(declare-sort S 3)", refusal Redeclared 2 2 33)
    ∷ (codes "(declare-fun not (Real) U)", refusal ReservedName 1 1 13)
    ∷ (codes "(define-sort Bool (x) Real)", refusal ReservedName 1 1 13)
    ∷ (codes "(define-fun - ((x U)) Real y)", refusal ReservedName 1 1 12)
    ∷ []

of_a_name_counts_first : found a_name_counts_first ≡ wanted a_name_counts_first
unfolding is_command_word is_syntax_word supported is_theory_name is_theory_sort is_reserved_for_declaring is_reserved_for_let is_reserved_for_sorts operator_named written_rank build rank
of_a_name_counts_first = refl

abbrev levels : Cases
levels =
    (codes "(push 1)\n(pop 2)\n", refusal PopTooFar 2 2 9)
    ∷ (codes "(pop)", refusal PopTooFar 1 1 0)
    ∷ (codes "(push 2)(pop 1) (pop 2)", refusal PopTooFar 3 1 16)
    ∷ (codes "(push)(reset)(pop)", refusal PopTooFar 3 1 13)
    ∷ (codes "(push 1000001)", refusal NumberLimit 1 1 6)
    ∷ (codes "(pop 1000001)", refusal NumberLimit 1 1 5)
    ∷ (codes "(push 1)(push 1000000)", refusal NumberLimit 2 1 14)
    ∷ (codes "(push)(push 2)(pop 3)(pop 0)", None)
    ∷ (codes "(push 0)(push 2)(pop)(pop)", None)
    ∷ []

of_levels : found levels ≡ wanted levels
unfolding is_command_word is_syntax_word supported is_theory_name is_theory_sort is_reserved_for_declaring is_reserved_for_let is_reserved_for_sorts operator_named written_rank build rank
of_levels = refl

abbrev arities_of_sorts : Cases
arities_of_sorts =
    (codes "(declare-sort S 1)", refusal SortArity 1 1 16)
    ∷ (codes "(define-sort S (x) Real)", refusal SortArity 1 1 16)
    ∷ (codes "(declare-sort S 0)(declare-const x (S Int))", refusal SortArity 2 1 35)
    ∷ (codes "(define-sort T () Int)(declare-const x (T Int))", refusal BadForm 2 1 39)
    ∷ []

of_arities_of_sorts : found arities_of_sorts ≡ wanted arities_of_sorts
unfolding is_command_word is_syntax_word supported is_theory_name is_theory_sort is_reserved_for_declaring is_reserved_for_let is_reserved_for_sorts operator_named written_rank build rank
of_arities_of_sorts = refl

-- `:global-declarations` stands before all that it would change
abbrev options : Cases
options =
    (codes "(set-option :global-declarations)", refusal UnsupportedOption 1 1 0)
    ∷ (codes "(set-option :global-declarations 1)", refusal UnsupportedOption 1 1 0)
    ∷ (codes "(set-option :global-declarations true false)", refusal BadForm 1 1 0)
    ∷ (codes "(declare-const x Int)\n(set-option :global-declarations true)", refusal UnsupportedOption 2 2 22)
    ∷ (codes "(push 0)(set-option :global-declarations false)", refusal UnsupportedOption 2 1 8)
    ∷ (codes "(check-sat-assuming ())(set-option :global-declarations false)", refusal UnsupportedOption 2 1 23)
    ∷ (codes "(define-sort S () Int)(set-option :global-declarations true)", refusal UnsupportedOption 2 1 22)
    ∷ (codes "(set-info :a)(get-model)(reset-assertions)(set-option :global-declarations true)(set-option :global-declarations false)", None)
    ∷ (codes "(check-sat)(reset)(set-option :global-declarations false)", None)
    ∷ (codes "(set-option :produce-models true)(check-sat)(set-option :k)", None)
    ∷ []

of_options : found options ≡ wanted options
unfolding is_command_word is_syntax_word supported is_theory_name is_theory_sort is_reserved_for_declaring is_reserved_for_let is_reserved_for_sorts operator_named written_rank build rank
of_options = refl

-- they outlive their level
abbrev global_declarations : Cases
global_declarations =
    (codes "(set-option :global-declarations true)\n(push 1)\n(declare-fun p () Bool)\n(assert (not (and p p)))\n(pop 1)\n(declare-fun p () Bool)\n(check-sat)\n", refusal Redeclared 6 6 118)
    ∷ (codes "(set-option :global-declarations true)(push 1)(declare-fun p () Bool)(define-sort S () Int)(pop 1)(assert p)(reset-assertions)(declare-const x S)(assert p)", None)
    ∷ (codes "(set-option :global-declarations true)(declare-const p Bool)(reset)(assert p)", refusal UnknownName 4 1 75)
    ∷ []

of_global_declarations : found global_declarations ≡ wanted global_declarations
unfolding is_command_word is_syntax_word supported is_theory_name is_theory_sort is_reserved_for_declaring is_reserved_for_let is_reserved_for_sorts operator_named written_rank build rank
of_global_declarations = refl

-- a literal is a declared Boolean constant or its negation
abbrev assumptions : Cases
assumptions =
    (codes "(declare-fun a () Bool)\n(check-sat-assuming (a (not (not a))))\n", refusal BadForm 2 2 47)
    ∷ (codes "(check-sat-assuming (a))", refusal BadForm 1 1 21)
    ∷ (codes "(declare-const x Int)(check-sat-assuming (x))", refusal BadForm 2 1 42)
    ∷ (codes "(define-fun d () Bool true)(check-sat-assuming (d))", refusal BadForm 2 1 48)
    ∷ (codes "(check-sat-assuming (true))", refusal BadForm 1 1 21)
    ∷ (codes "(check-sat-assuming ())", None)
    ∷ (codes "(declare-const a Bool)(check-sat-assuming (a (not a) |a| (|not| a)))", None)
    ∷ []

of_assumptions : found assumptions ≡ wanted assumptions
unfolding is_command_word is_syntax_word supported is_theory_name is_theory_sort is_reserved_for_declaring is_reserved_for_let is_reserved_for_sorts operator_named written_rank build rank
of_assumptions = refl

-- they come before all commands, and what follows `(exit)` isn't looked at
abbrev tokens_and_parentheses : Cases
tokens_and_parentheses =
    (codes "(foo)\n(assert a", Some (unread (unbalanced 15) 2))
    ∷ (codes "(foo)(assert a))", Some (unread (unbalanced 15) 1))
    ∷ (codes "(foo) 007", Some (unread (bad_token 6) 1))
    ∷ (codes "(exit 1) [", Some (unread (bad_byte 9) 1))
    ∷ (codes "(echo \"x)", Some (unread (open_text 6) 1))
    ∷ (codes "(check-sat)(exit) ]] 007 ( not examined", None)
    ∷ (codes "(check-sat)\n(exit true) (exit)", refusal BadForm 2 2 12)
    ∷ []

of_tokens_and_parentheses : found tokens_and_parentheses ≡ wanted tokens_and_parentheses
unfolding is_command_word is_syntax_word supported is_theory_name is_theory_sort is_reserved_for_declaring is_reserved_for_let is_reserved_for_sorts operator_named written_rank build rank
of_tokens_and_parentheses = refl
