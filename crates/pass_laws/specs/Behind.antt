-- Commands behind a pass that puts one assertion in the place of each.
use Rattle.std.specs.Prelude.{◌≡◌, List, [], ◌∷◌, All, Some}
use Rattle.smt_terms.specs.Fresh.{Supply}
use Rattle.smt_terms.specs.Rank.{sort_of}
use Rattle.smt_terms.specs.Sorts.{bool}
use Rattle.smt_terms.specs.SubstLaws.{names_within, GivesNone}
use Rattle.smt_terms.specs.Term.{Term}
use Rattle.normal_forms.specs.Nnf.{nnf}
use Rattle.normal_forms.specs.Aig.{aig}
use Rattle.normal_forms.specs.Quantifiers.{shannon}
use Rattle.array_forms.specs.Reads.{reads}
use Rattle.simplify.specs.Simplify.{simp}
use Rattle.script_read.specs.Commands.{Command, assert}

-- what becomes of a term, and the names that are left
abbrev pub Form : Type 0
Form = Term → Supply → Term × Supply

abbrev pub simplified_form : Form
simplified_form t s = (simp t, s)

abbrev pub nnf_form : Form
nnf_form t s = (nnf t, s)

abbrev pub aig_form : Form
aig_form t s = (aig t, s)

abbrev pub reads_form : Form
reads_form t s = (reads t, s)

abbrev pub shannon_form : Form
shannon_form t s = (shannon t, s)

abbrev pub in_front : Command Term → List (Command Term) × Supply → List (Command Term) × Supply
in_front c r = (c ∷ r.0, r.1)

-- each assertion in its form, from the first to the last
abbrev pub in_form : Form → List (Command Term) → Supply → List (Command Term) × Supply
in_form form [] s = ([], s)
in_form form (assert i t ∷ cs) s = in_front (assert i (form t s).0) (in_form form cs (form t s).1)
in_form form (c ∷ cs) s = in_front c (in_form form cs s)

-- ---- commands whose assertions may be rewritten

-- an assertion is a formula, none of whose names the supply gives
abbrev pub IsRewritable : Supply → Command Term → Type 0
IsRewritable s (assert i t) = (sort_of t ≡ Some bool) × GivesNone s (names_within t)
IsRewritable s _ = Unit {0}

abbrev pub AreRewritable : List (Command Term) → Supply → Type 0
AreRewritable cs s = All (IsRewritable s) cs
