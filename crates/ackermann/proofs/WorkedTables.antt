-- Worked rows of the tables of functions.
use Rattle.std.specs.Prelude.{◌≡◌, ℕ, cond, [], ◌∷◌, pos, Option, Some, None, refl}
use Rattle.smt_terms.specs.Sorts.{int, Symbol}
use Rattle.smt_terms.specs.Term.{Term, constant}
use Rattle.smt_terms.specs.Equal.{symbol_eq}
use Rattle.smt_terms.specs.Groups.{Named}
use Rattle.smt_terms.specs.Models.{Row, Graph, Model}
use Rattle.smt_terms.specs.Values.{Value, whole}
use Rattle.smt_terms.proofs.Written.{named, function, call}
use Rattle.ackermann.specs.Tables.{application_graph}

abbrev n : ℕ → Value
n i = whole (pos i)

abbrev a : Symbol
a = named "a" int

abbrev b : Symbol
b = named "b" int

abbrev f : Symbol
f = function "f" (int ∷ []) int

abbrev g : Symbol
g = function "g" (int ∷ []) int

abbrev i0 : Symbol
i0 = named "FV0" int

abbrev i1 : Symbol
i1 = named "FV1" int

abbrev i2 : Symbol
i2 = named "FV2" int

abbrev of_f : Term → Term
of_f t = call f (t ∷ [])

-- a value for all arguments
abbrev always : ℕ → Option Graph
always i = Some (record { rows = []; otherwise = n i })

-- a is 3, b is the given number, FV0 is 5, FV1 is the given number, and FV2 is 7
abbrev model : ℕ → ℕ → Model
model of_b of_i1 = record {
  sizes = λ s. 1;
  graphs = λ h. cond (symbol_eq a h) (always 3) (cond (symbol_eq b h) (always of_b) (cond (symbol_eq i0 h) (always 5) (cond (symbol_eq i1 h) (always of_i1) (cond (symbol_eq i2 h) (always 7) None))));
  div_by_zero = record { rows = []; otherwise = pos 0 };
  mod_by_zero = record { rows = []; otherwise = pos 0 };
}

abbrev row : ℕ → ℕ → Row
row key result = record { keys = n key ∷ []; result = n result }

abbrev of_two : Named
of_two = (i0, of_f (constant a)) ∷ (i1, of_f (constant b)) ∷ []

-- a row for each of the arguments
two_rows : application_graph (model 4 6) of_two f ≡ record { rows = row 3 5 ∷ row 4 6 ∷ []; otherwise = n 0 }
two_rows = refl

-- one for both where they are equal
one_row : application_graph (model 3 5) of_two f ≡ record { rows = row 3 5 ∷ []; otherwise = n 0 }
one_row = refl

-- the first one counts
first_row : application_graph (model 3 6) of_two f ≡ record { rows = row 3 5 ∷ []; otherwise = n 0 }
first_row = refl

-- the constant of an application inside another is its key
inner : application_graph (model 4 6) ((i0, of_f (constant a)) ∷ (i2, of_f (of_f (constant a))) ∷ []) f ≡ record { rows = row 3 5 ∷ row 5 7 ∷ []; otherwise = n 0 }
inner = refl

-- another function has no rows of this one
none_of_f : application_graph (model 4 6) of_two g ≡ record { rows = []; otherwise = n 0 }
none_of_f = refl
