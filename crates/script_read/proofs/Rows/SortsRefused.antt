-- Worked rows: what sorts are refused for. Each text stands with its first refusal, or none.
use Rattle.std.specs.Prelude.{◌≡◌, [], ◌∷◌, None, codes, refl}
use Rattle.smt_lex.specs.Names.{is_command_word, is_syntax_word, is_theory_name, is_theory_sort, is_reserved_for_declaring, is_reserved_for_let, is_reserved_for_sorts}
use Rattle.smt_terms.specs.Rank.{rank}
use Rattle.smt_terms.specs.Written.{operator_named, written_rank, build}
use Rattle.script_terms.specs.declared.causes.Cause.TheVariants.{BadForm, BadIndex, IndexSort, QuantifiedSort, RealSort, UnknownName, WidthLimit}
use Rattle.script_read.specs.Outlines.{supported}
use Rattle.script_read.proofs.Rows.Cases.{Cases, refusal, found, wanted}

abbrev unknown_sorts : Cases
unknown_sorts =
    (codes "(declare-const x U)", refusal UnknownName 1 1 17)
    ∷ (codes "(declare-const x (U Int))", refusal UnknownName 1 1 17)
    ∷ (codes "(declare-fun f (U Real) V)", refusal UnknownName 1 1 16)
    ∷ (codes "(push 1)(declare-sort U 0)(pop 1)(declare-const x U)", refusal UnknownName 4 1 50)
    ∷ (codes "(declare-sort U 0)(define-sort V () U)(declare-fun f (U (Array V Int)) V)", None)
    ∷ []

of_unknown_sorts : found unknown_sorts ≡ wanted unknown_sorts
unfolding is_command_word is_syntax_word supported is_theory_name is_theory_sort is_reserved_for_declaring is_reserved_for_let is_reserved_for_sorts operator_named written_rank build rank
of_unknown_sorts = refl

abbrev sorts_of_reals : Cases
sorts_of_reals =
    (codes "(declare-const x Real)", refusal RealSort 1 1 17)
    ∷ (codes "(declare-fun f (Int Real) U)", refusal RealSort 1 1 20)
    ∷ (codes "(define-sort S () (Array Int Real))", refusal RealSort 1 1 29)
    ∷ []

of_sorts_of_reals : found sorts_of_reals ≡ wanted sorts_of_reals
unfolding is_command_word is_syntax_word supported is_theory_name is_theory_sort is_reserved_for_declaring is_reserved_for_let is_reserved_for_sorts operator_named written_rank build rank
of_sorts_of_reals = refl

abbrev no_sorts : Cases
no_sorts =
    (codes "(declare-const x Array)", refusal BadForm 1 1 17)
    ∷ (codes "(declare-const x BitVec)", refusal BadForm 1 1 17)
    ∷ (codes "(declare-const x (Array Int))", refusal BadForm 1 1 17)
    ∷ (codes "(declare-const x (Real))", refusal BadForm 1 1 17)
    ∷ (codes "(declare-const x (BitVec 8))", refusal BadForm 1 1 17)
    ∷ (codes "(declare-const x (_ BitVec))", refusal BadForm 1 1 17)
    ∷ (codes "(declare-const x (_ BitVec x))", refusal BadForm 1 1 17)
    ∷ (codes "(declare-const x (_ Array Int))", refusal BadForm 1 1 17)
    ∷ (codes "(declare-const x ())", refusal BadForm 1 1 17)
    ∷ (codes "(declare-const x 5)", refusal BadForm 1 1 17)
    ∷ (codes "(declare-const x let)", refusal BadForm 1 1 17)
    ∷ (codes "(declare-const x ((Array) Int Int))", refusal BadForm 1 1 17)
    ∷ []

of_no_sorts : found no_sorts ≡ wanted no_sorts
unfolding is_command_word is_syntax_word supported is_theory_name is_theory_sort is_reserved_for_declaring is_reserved_for_let is_reserved_for_sorts operator_named written_rank build rank
of_no_sorts = refl

abbrev widths : Cases
widths =
    (codes "(declare-const x (_ BitVec 0))", refusal BadIndex 1 1 17)
    ∷ (codes "(declare-const x (_ BitVec 129))", refusal WidthLimit 1 1 17)
    ∷ (codes "(declare-const x (Array (_ BitVec 0) Real))", refusal BadIndex 1 1 24)
    ∷ (codes "(declare-const x (_ BitVec 1))(declare-const y (_ |BitVec| 128))", None)
    ∷ []

of_widths : found widths ≡ wanted widths
unfolding is_command_word is_syntax_word supported is_theory_name is_theory_sort is_reserved_for_declaring is_reserved_for_let is_reserved_for_sorts operator_named written_rank build rank
of_widths = refl

-- the index sort is examined, then that it is no array sort, then the element sort
abbrev index_sorts : Cases
index_sorts =
    (codes "(declare-const a (Array (Array Int Int) Int))", refusal IndexSort 1 1 24)
    ∷ (codes "(declare-const a (Array (Array Int Bool) Real))", refusal IndexSort 1 1 24)
    ∷ (codes "(declare-const a (Array (Array Real Int) U))", refusal RealSort 1 1 31)
    ∷ (codes "(define-sort A () (Array Int Int))(declare-const a (Array Bool (Array A Int)))", refusal IndexSort 2 1 70)
    ∷ (codes "(declare-const a (Array Int (Array Bool (Array Int Int))))", None)
    ∷ []

of_index_sorts : found index_sorts ≡ wanted index_sorts
unfolding is_command_word is_syntax_word supported is_theory_name is_theory_sort is_reserved_for_declaring is_reserved_for_let is_reserved_for_sorts operator_named written_rank build rank
of_index_sorts = refl

-- a quantifier is over truth values and bit vectors
abbrev quantified_sorts : Cases
quantified_sorts =
    (codes "(assert (forall ((x Int)) y))", refusal QuantifiedSort 1 1 20)
    ∷ (codes "(declare-sort S 0)(assert (exists ((x Bool) (y S)) true))", refusal QuantifiedSort 2 1 47)
    ∷ (codes "(assert (exists ((x (Array Int Int)) (x Real)) true))", refusal QuantifiedSort 1 1 20)
    ∷ (codes "(define-sort B () (_ BitVec 4))(assert (forall ((x B) (y Bool)) (or y (= x x))))", None)
    ∷ []

of_quantified_sorts : found quantified_sorts ≡ wanted quantified_sorts
unfolding is_command_word is_syntax_word supported is_theory_name is_theory_sort is_reserved_for_declaring is_reserved_for_let is_reserved_for_sorts operator_named written_rank build rank
of_quantified_sorts = refl
