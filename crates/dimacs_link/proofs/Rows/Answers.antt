-- Worked rows of answers.
use Rattle.std.specs.Prelude.{◌≡◌, true, false, [], ◌∷◌, codes, Ok, Err, refl}
use Rattle.smt_lex.specs.Lex.{line_at}
use Rattle.dimacs_link.specs.declared.answers.Answer.TheVariants.{Sat, Unsat, Unknown}
use Rattle.dimacs_link.specs.AnswerTexts.{reading}

both_true : reading 2 (codes "s SATISFIABLE\nv 1 2 0\n") ≡ Ok (Sat (true ∷ true ∷ []))
unfolding reading
both_true = refl

third_of_two : reading 2 (codes "s SATISFIABLE\nv 1 3 0\n") ≡ Err 18
unfolding reading
third_of_two = refl

on_the_second_line : line_at (codes "s SATISFIABLE\nv 1 3 0\n") 18 ≡ 2
on_the_second_line = refl

over_lines : reading 4 (codes "c a solver\ns SATISFIABLE\nv 1 -2\nv -3   4 0\n") ≡ Ok (Sat (true ∷ false ∷ false ∷ true ∷ []))
unfolding reading
over_lines = refl

not_named : reading 3 (codes "s SATISFIABLE\nv 2 0\n") ≡ Ok (Sat (false ∷ true ∷ false ∷ []))
unfolding reading
not_named = refl

comments : reading 1 (codes "c x\n\ns UNSATISFIABLE") ≡ Ok Unsat
unfolding reading
comments = refl

unknown : reading 1 (codes "s UNKNOWN\n") ≡ Ok Unknown
unfolding reading
unknown = refl

values_first : reading 1 (codes "v -1\nv\nv 0\ns SATISFIABLE\nc x") ≡ Ok (Sat (false ∷ []))
unfolding reading
values_first = refl

values_before_unsat : reading 1 (codes "v 1 0\ns UNSATISFIABLE\n") ≡ Err 6
unfolding reading
values_before_unsat = refl

values_behind_unknown : reading 1 (codes "s UNKNOWN\nv\n") ≡ Err 10
unfolding reading
values_behind_unknown = refl

both_signs : reading 1 (codes "s SATISFIABLE\nv 1 -1 0\n") ≡ Err 18
unfolding reading
both_signs = refl

twice_named : reading 1 (codes "s SATISFIABLE\nv 1 1 0\n") ≡ Ok (Sat (true ∷ []))
unfolding reading
twice_named = refl

leading_zero : reading 1 (codes "s SATISFIABLE\nv 01 0\n") ≡ Err 16
unfolding reading
leading_zero = refl

behind_the_end : reading 1 (codes "s SATISFIABLE\nv 0 1\n") ≡ Err 18
unfolding reading
behind_the_end = refl

negative_zero : reading 1 (codes "s SATISFIABLE\nv -0\n") ≡ Err 16
unfolding reading
negative_zero = refl

only_a_sign : reading 1 (codes "s SATISFIABLE\nv - 0\n") ≡ Err 16
unfolding reading
only_a_sign = refl

two_ends : reading 1 (codes "s UNSATISFIABLE\ns UNSATISFIABLE\n") ≡ Err 16
unfolding reading
two_ends = refl

no_zero : reading 1 (codes "s SATISFIABLE\nv 1\n") ≡ Err 18
unfolding reading
no_zero = refl

no_values : reading 0 (codes "s SATISFIABLE\n") ≡ Err 14
unfolding reading
no_values = refl

no_end : reading 1 (codes "v 1 0\n") ≡ Err 6
unfolding reading
no_end = refl

nothing : reading 1 [] ≡ Err 0
unfolding reading
nothing = refl

returns_left_out : reading 1 (codes "c x\r\n\r\ns SATISFIABLE\r\nv -1 0\r") ≡ Ok (Sat (false ∷ []))
unfolding reading
returns_left_out = refl

return_within : reading 1 (codes "s SATISFIABLE\nv 1\r 0\n") ≡ Err 16
unfolding reading
return_within = refl

blank_at_the_end : reading 1 (codes "s SATISFIABLE\nv 1 0 \n") ≡ Err 14
unfolding reading
blank_at_the_end = refl

no_blank : reading 1 (codes "s SATISFIABLE\nv1 0\n") ≡ Err 14
unfolding reading
no_blank = refl

tabs : reading 1 (codes "s SATISFIABLE\nv\t1 0\n") ≡ Err 14
unfolding reading
tabs = refl

another_line : reading 1 (codes "s SATISFIABLE\nv 1 0\np cnf 1 1\n") ≡ Err 20
unfolding reading
another_line = refl

longer_end : reading 1 (codes "s SATISFIABLE \n") ≡ Err 0
unfolding reading
longer_end = refl
