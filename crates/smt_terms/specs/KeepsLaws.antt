-- What keeps its value may be put in place of what it was made of: SMT-LIB 2.6, section 5.3.
use Rattle.std.specs.Prelude.{List, IsFalse}
use Rattle.smt_terms.specs.Sorts.{Variable}
use Rattle.smt_terms.specs.Term.{Quantifier, Head, Term, apply, quantified, Terms, none, ◌⨾◌}
use Rattle.smt_terms.specs.Rank.{is_minus_of, IsWellSorted}
use Rattle.smt_terms.specs.Keeps.{Keeps}

-- each term of the first list keeps its value in the second
abbrev pub EachKeeps : Terms → Terms → Type 0
EachKeeps none none = Unit {0}
EachKeeps (t ⨾ ts) (u ⨾ us) = Keeps t u × EachKeeps ts us
EachKeeps _ _ = ⊥

-- a head over operands that keep their values keeps its own, unless it becomes a unary minus over a constant
abbrev pub HeadsKeep : Type 0
HeadsKeep = (h : Head) (ts us : Terms) → IsWellSorted (apply h ts) → EachKeeps ts us → IsFalse (is_minus_of h us) → Keeps (apply h ts) (apply h us)

abbrev pub QuantifiersKeep : Type 0
QuantifiersKeep = (q : Quantifier) (xs : List Variable) (t u : Term) → IsWellSorted (quantified q xs t) → Keeps t u → Keeps (quantified q xs t) (quantified q xs u)
