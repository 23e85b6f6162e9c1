-- Statements of the laws of printing.
use Rattle.std.specs.Prelude.{◌≡◌, ℕ, List, [], ◌∷◌, None, IsTrue}
use Rattle.smt_terms.specs.Models.{Model}
use Rattle.smt_terms.specs.Term.{Term}
use Rattle.smt_terms.specs.Val.{no_variables}
use Rattle.script_read.specs.Commands.{Command, kinds, live, literals, signature}
use Rattle.script_read.specs.Laws.{denoted}
use Rattle.script_read.specs.Mean.{mean, meaning}
use Rattle.script_read.specs.Printable.{printable}
use Rattle.script_read.specs.Scenes.{Asserted, forms_script}
use Rattle.script_read.specs.Script.{fault}
use Rattle.smt_print.specs.declared.layout.Layout.{Layout}
use Rattle.smt_print.specs.Text.{lines}

-- two lists are related one by one
abbrev pub Each : {A B : Type 0} → (A → B → Type 0) → List A → List B → Type 0
Each R [] [] = Unit {0}
Each R (a ∷ xs) (b ∷ bs) = R a b × Each R xs bs
Each R _ _ = ⊥

-- the form that was read means in every model what the term values to
abbrev pub MeansTheSame : Term → Asserted → Type 0
MeansTheSame t a = (m : Model) → mean a.form (meaning a.bindings m) m ≡ denoted m no_variables t

-- the printed text is accepted, and has the same checks; at each of its points the same is live, and each assertion and
-- each literal means what the printed term values to
pub record ReadsBack (layout : Layout) (cs : List (Command Term)) : Type 0 where
  pub accepted : fault (lines layout cs) ≡ None
  pub kinds : kinds (forms_script (lines layout cs)) ≡ kinds cs
  pub signatures : (k : ℕ) → signature (forms_script (lines layout cs)) k ≡ signature cs k
  pub live : (k : ℕ) → Each MeansTheSame (live cs k) (live (forms_script (lines layout cs)) k)
  pub literals : (k : ℕ) → Each MeansTheSame (literals cs k) (literals (forms_script (lines layout cs)) k)

-- printing reads back
abbrev pub PrintingReadsBack : Type 0
PrintingReadsBack = (layout : Layout) (cs : List (Command Term)) → IsTrue (printable cs) → ReadsBack layout cs
