-- Worked rows of the groups that are live at a check, of those whose symbols alone are, of functions, and of open levels.
use Rattle.std.specs.Prelude.{◌≡◌, ℕ, true, List, [], ◌∷◌, refl}
use Rattle.smt_terms.specs.Sorts.{int, Symbol}
use Rattle.smt_terms.proofs.Written.{function}
use Rattle.script_read.specs.Commands.{Command, declare, assert, check, push, pop, reset, reset_assertions, globals}
use Rattle.pass_laws.specs.LiveGroups.{Drawn, met_at, levels_open}

abbrev drawn : ℕ → Drawn
drawn i = record { number = i; symbols = [] }

abbrev group : ℕ → Command Drawn
group i = assert i (drawn i)

-- ---- levels

abbrev levels : List (Command Drawn)
levels = group 1 ∷ push 2 ∷ group 2 ∷ check ∷ pop 1 ∷ group 3 ∷ push 1 ∷ group 4 ∷ pop 2 ∷ group 5 ∷ check ∷ []

both_levels : (met_at 1 levels).live ≡ drawn 1 ∷ drawn 2 ∷ []
both_levels = refl

open_levels_alone : (met_at 2 levels).live ≡ drawn 1 ∷ drawn 5 ∷ []
open_levels_alone = refl

closed_with_its_symbols : (met_at 2 levels).idle ≡ []
closed_with_its_symbols = refl

-- ---- global declarations

abbrev outliving : List (Command Drawn)
outliving = globals true ∷ group 1 ∷ push 1 ∷ group 2 ∷ pop 1 ∷ check ∷ reset_assertions ∷ group 3 ∷ check ∷ reset ∷ group 4 ∷ push 1 ∷ group 5 ∷ pop 1 ∷ check ∷ []

closed_level : (met_at 1 outliving).live ≡ drawn 1 ∷ []
closed_level = refl

symbols_of_closed_level : (met_at 1 outliving).idle ≡ drawn 2 ∷ []
symbols_of_closed_level = refl

assertions_reset : (met_at 2 outliving).live ≡ drawn 3 ∷ []
assertions_reset = refl

symbols_of_assertions_reset : (met_at 2 outliving).idle ≡ drawn 1 ∷ drawn 2 ∷ []
symbols_of_assertions_reset = refl

all_reset : (met_at 3 outliving).live ≡ drawn 4 ∷ []
all_reset = refl

-- a reset ends global declarations, too
nothing_outlives : (met_at 3 outliving).idle ≡ []
nothing_outlives = refl

-- ---- functions

abbrev f : Symbol
f = function "f" (int ∷ []) int

abbrev g : Symbol
g = function "g" (int ∷ []) int

abbrev declaring : List (Command Drawn)
declaring = declare f ∷ push 1 ∷ declare g ∷ check ∷ pop 1 ∷ check ∷ reset_assertions ∷ check ∷ []

functions_of_both_levels : (met_at 1 declaring).functions ≡ f ∷ g ∷ []
functions_of_both_levels = refl

function_of_the_open_level : (met_at 2 declaring).functions ≡ f ∷ []
function_of_the_open_level = refl

functions_reset : (met_at 3 declaring).functions ≡ []
functions_reset = refl

abbrev declaring_all : List (Command Drawn)
declaring_all = globals true ∷ push 1 ∷ declare f ∷ pop 1 ∷ reset_assertions ∷ check ∷ reset ∷ declare g ∷ reset_assertions ∷ check ∷ []

function_of_a_closed_level : (met_at 1 declaring_all).functions ≡ f ∷ []
function_of_a_closed_level = refl

no_function_outlives : (met_at 2 declaring_all).functions ≡ []
no_function_outlives = refl

-- ---- open levels

some_left : levels_open (push 2 ∷ pop 1 ∷ push 1 ∷ []) ≡ 2
some_left = refl

behind_a_reset : levels_open (push 2 ∷ reset ∷ push 1 ∷ []) ≡ 1
behind_a_reset = refl

behind_emptied_assertions : levels_open (push 2 ∷ reset_assertions ∷ []) ≡ 0
behind_emptied_assertions = refl
