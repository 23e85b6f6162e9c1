-- What is printed in parts: the same bytes so many times, and what values and keys have to be.
use Rattle.std.specs.Prelude.{ℕ, zero, suc, List, [], ◌++◌, IsTrue, IsSome, IfSome, ◌∷◌, ◌&&◌, codes}
use Rattle.std.specs.List.{list_all}
use Rattle.smt_lex.specs.Forms.{Form}
use Rattle.smt_terms.specs.Models.{Graph, Model, is_graph}
use Rattle.smt_terms.specs.Sorts.{Sort, Symbol}
use Rattle.smt_terms.specs.Values as plain
use Rattle.smt_terms.specs.Values.{Sizes, is_value, are_values}
use Rattle.smt_values.specs.Tables.{Table, as_value}
use Rattle.smt_values.specs.Valid.{IsValue}
use Rattle.smt_values.specs.declared.value.Value.{Value}
use Rattle.term_table.specs.WrittenForms.{list_form, word_form}
use Rattle.models.specs.GraphRows.{AreValues}
use Rattle.model_texts.specs.ModelLines.{parameter_name, value_form}

abbrev pub repeated : ℕ → List ℕ → List ℕ
repeated zero part = []
repeated (suc n) part = part ++ repeated n part

-- values of sorts, whatever the sizes of the declared sorts are

abbrev pub IsOfSort : Sort → Value → Type 0
IsOfSort s v = (sizes : Sizes) × IsValue s sizes v

abbrev pub IsArrayOf : Sort → Table → Type 0
IsArrayOf s a = (sizes : Sizes) × IsTrue (is_value s sizes (as_value a))

abbrev pub AreOfSorts : List Sort → List Value → Type 0
AreOfSorts ss vs = (sizes : Sizes) × AreValues ss sizes vs

abbrev pub AreRowsOf : List Sort → Sort → Graph → Type 0
AreRowsOf args to g = (sizes : Sizes) × IsTrue (is_value to sizes g.otherwise) × IsTrue (list_all (λ r. are_values args sizes r.keys && is_value to sizes r.result) g.rows)

abbrev pub IsGraphOf : Symbol → Graph → Type 0
IsGraphOf f g = (sizes : Sizes) × IsTrue (is_graph f sizes g)

-- a symbol with a function of its sorts
abbrev pub HasGraph : Model → Symbol → Type 0
HasGraph m f = IsSome (m.graphs f) × IfSome (m.graphs f) (IsGraphOf f)

-- the equation of the parameter of this number
abbrev pub equation_form : ℕ → Sort → plain.Value → Form
equation_form i s v = list_form (word_form (codes "=") ∷ word_form (parameter_name i) ∷ value_form s v ∷ [])
