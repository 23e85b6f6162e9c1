-- Connectives among terms. A quantified formula is an atom here.
use Rattle.std.specs.Prelude.{Bool, false}
use Rattle.smt_terms.specs.Connectives.{Kind, negation, is_connective, kind_of}
use Rattle.smt_terms.specs.Term.{Term, apply, quantified}

abbrev pub has_connective : Term → Bool
has_connective (apply h ts) = is_connective (kind_of h ts)
has_connective (quantified q xs body) = false

abbrev pub gets_name : Kind → Bool
gets_name negation = false
gets_name k = is_connective k

-- a connective other than `not`
abbrev pub is_named : Term → Bool
is_named (apply h ts) = gets_name (kind_of h ts)
is_named (quantified q xs body) = false
