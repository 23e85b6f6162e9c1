-- Clauses over Boolean constants, and their text: the format of DIMACS for formulas in conjunctive normal form. A clause is an `or`
-- of literals, or one literal; a literal is `true`, `false`, a constant, or `not` of a constant.
use Rattle.std.specs.Prelude.{◌≡◌, ℕ, suc, ◌<◌, Bool, true, false, not, List, [], ◌∷◌, ◌++◌, map, filter, flat_map, length, codes, decimal, get_or, Option, Some, None, is_some, if◌then◌else◌}
use Rattle.std.specs.List.{list_any, list_all}
use Rattle.smt_terms.specs.declared.op.Op.{Op}
use Rattle.smt_terms.specs.declared.op.Op.TheVariants.{Truth, Not, Or}
use Rattle.smt_terms.specs.Equal.{symbol_eq}
use Rattle.smt_terms.specs.Sorts.{Symbol}
use Rattle.smt_terms.specs.Term.{op, symbol, Term, apply, Terms, none, ◌⨾◌, list}
use Rattle.term_table.specs.Formulas.{no_tree}
use Rattle.dimacs_link.specs.declared.literals.Literal.{Literal}
use Rattle.dimacs_link.specs.declared.literals.Part.{Part}
use Rattle.dimacs_link.specs.declared.literals.Part.TheVariants.{Fixed, Named}
use Rattle.dimacs_link.specs.declared.clauses.LinkFault.{LinkFault}
use Rattle.dimacs_link.specs.declared.clauses.LinkFault.TheVariants.{NotClauses, Memory}

-- ---- literals

-- the number of a constant in a list whose first has the number n
abbrev pub number_from : ℕ → List Symbol → Symbol → Option ℕ
number_from n [] f = None
number_from n (c ∷ cs) f = if symbol_eq c f then Some n else number_from (suc n) cs f

-- the numbers of constants are counted from 1
abbrev pub constant_number : List Symbol → Term → Option ℕ
constant_number cs (apply (symbol f) none) = number_from 1 cs f
constant_number cs _ = None

abbrev pub literal_of : Bool → Option ℕ → Option Part
literal_of positive None = None
literal_of positive (Some n) = Some (Named (record { positive = positive; constant = n }))

-- `not` of a constant
abbrev pub inverse_part : List Symbol → Terms → Option Part
inverse_part cs (t ⨾ none) = literal_of false (constant_number cs t)
inverse_part cs _ = None

-- `true` and `false`, and `not` of a constant
abbrev pub connected_part : List Symbol → Op → Terms → Option Part
connected_part cs (Truth b) ts = Some (Fixed b)
connected_part cs Not ts = inverse_part cs ts
connected_part cs _ ts = None

-- the literal that a term is over these constants
abbrev pub part : List Symbol → Term → Option Part
part cs (apply (op o) ts) = connected_part cs o ts
part cs t = literal_of true (constant_number cs t)

-- ---- clauses

abbrev pub joined_by : Op → Terms → List Term
joined_by Or ts = list ts
joined_by o ts = apply (op o) ts ∷ []

-- what a clause is the `or` of
abbrev pub disjuncts : Term → List Term
disjuncts (apply (op o) ts) = joined_by o ts
disjuncts t = t ∷ []

abbrev pub are_parts : List Symbol → List Term → Bool
are_parts cs us = list_all (λ u. is_some (part cs u)) us

abbrev pub is_clause : List Symbol → Term → Bool
is_clause cs t = are_parts cs (disjuncts t)

abbrev pub is_true_part : Option Part → Bool
is_true_part (Some (Fixed b)) = b
is_true_part _ = false

abbrev pub has_true : List Symbol → List Term → Bool
has_true cs us = list_any (λ u. is_true_part (part cs u)) us

abbrev pub literals_in : Option Part → List Literal
literals_in (Some (Named l)) = l ∷ []
literals_in _ = []

abbrev pub literals : List Symbol → List Term → List Literal
literals cs us = flat_map (λ u. literals_in (part cs u)) us

-- the roots without the literal `true`, each as its literals without `false`, in order
abbrev pub clauses : List Symbol → List Term → List (List Literal)
clauses cs roots = map (λ t. literals cs (disjuncts t)) (filter (λ t. not (has_true cs (disjuncts t))) roots)

-- ---- text

-- the number of the constant, with `-` before the inverse
abbrev pub literal_text : Literal → List ℕ
literal_text l = if l.positive then decimal l.constant else codes "-" ++ decimal l.constant

-- with a space behind each
abbrev pub literals_text : List Literal → List ℕ
literals_text ls = flat_map (λ l. literal_text l ++ codes " ") ls

-- the literals and `0`, with one space between
abbrev pub clause_text : List Literal → List ℕ
clause_text ls = literals_text ls ++ codes "0\n"

abbrev pub header_text : ℕ → ℕ → List ℕ
header_text constants clauses = codes "p cnf " ++ decimal constants ++ codes " " ++ decimal clauses ++ codes "\n"

-- so many constants, and a line for each clause
abbrev pub text_of : ℕ → List (List Literal) → List ℕ
text_of constants cs = header_text constants (length cs) ++ flat_map clause_text cs

-- ---- faults

-- the root at this place isn't a clause, and all before it are
pub record IsFirstOther (cs : List Symbol) (roots : List Term) (place : ℕ) : Type 0 where
  pub within : place < length roots
  pub here : is_clause cs (get_or roots place no_tree) ≡ false
  pub before : (i : ℕ) → i < place → is_clause cs (get_or roots i no_tree) ≡ true

-- memory may be wanting anywhere
abbrev pub IsLinkFault : List Symbol → List Term → LinkFault → Type 0
IsLinkFault cs roots (NotClauses place) = IsFirstOther cs roots place
IsLinkFault cs roots Memory = Unit {0}
