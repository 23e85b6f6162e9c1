-- What rewriting keeps: the sentence that the program is for. Both texts mean what their forms mean (SMT-LIB 2.6, section
-- 5.3); nothing here knows of nodes, of definitions put in place of their names, or of names drawn anew.
use Rattle.std.specs.Prelude.{◌≡◌, ◌≤◌, ℕ, Bool, not, List, [], ◌∷◌, length, None, IsTrue}
use Rattle.std.specs.List.{list_any}
use Rattle.smt_terms.specs.Models.{Model, IsModelOver}
use Rattle.script_read.specs.Commands.{Signature, points, kinds, live, signature}
use Rattle.script_read.specs.Script.{fault}
use Rattle.script_read.specs.Mean.{Denoted, mean, meaning}
use Rattle.script_read.specs.Scenes.{Asserted, forms_script, holds}
use Rattle.pass_laws.specs.declared.names.Pass.{Pass}
use Rattle.pass_laws.specs.Lists.{makes_groups}
use Rattle.smtrw_answers.specs.Carrying.{translated, extended}

-- ---- texts at their points

-- the points of a text are its checks in order, and its end
abbrev pub IsPoint : List ℕ → ℕ → Type 0
IsPoint b k = (1 ≤ k) × (k ≤ length (points (forms_script b)))

abbrev pub signature_at : List ℕ → ℕ → Signature
signature_at b k = signature (forms_script b) k

abbrev pub IsModelAt : List ℕ → ℕ → Model → Type 0
IsModelAt b k m = IsModelOver (signature_at b k).sorts (signature_at b k).symbols m

-- ---- equivalence

abbrev pub are_equivalences : List Pass → Bool
are_equivalences ps = not (list_any makes_groups ps)

abbrev pub meaning_of : Asserted → Model → Denoted
meaning_of a m = mean a.form (meaning a.bindings m) m

-- as many assertions, each with the meaning of the one in its place
abbrev pub MeanTheSame : List Asserted → List Asserted → Model → Type 0
MeanTheSame [] [] m = Unit {0}
MeanTheSame (a ∷ as_forms) (c ∷ cs) m = (meaning_of a m ≡ meaning_of c m) × MeanTheSame as_forms cs m
MeanTheSame _ _ m = ⊥

pub record IsEquivalentAt (b w : List ℕ) (k : ℕ) : Type 0 where
  pub signatures : signature_at w k ≡ signature_at b k
  pub count : length (live (forms_script w) k) ≡ length (live (forms_script b) k)
  pub meanings : (m : Model) → IsModelAt b k m → MeanTheSame (live (forms_script b) k) (live (forms_script w) k) m

-- ---- the sentence

-- The text w that rewriting the text b by the passes ps has written is an accepted script with the same points. At each
-- point, under equivalence passes, each live assertion of b has one of w with the same meaning in every model; under any
-- passes, every model of w, translated, is a model of b, and every model of b, extended, is a model of w.
pub record IsRewriting (b : List ℕ) (ps : List Pass) (w : List ℕ) : Type 0 where
  pub accepted : fault w ≡ None
  pub same_points : kinds (forms_script w) ≡ kinds (forms_script b)
  pub equivalence : IsTrue (are_equivalences ps) → (k : ℕ) → IsPoint b k → IsEquivalentAt b w k
  pub translation : (k : ℕ) → IsPoint b k → (m : Model) → IsModelAt w k m → IsTrue (holds m w k) →
      IsModelAt b k (translated b ps k m) × IsTrue (holds (translated b ps k m) b k)
  pub extension : (k : ℕ) → IsPoint b k → (m : Model) → IsModelAt b k m → IsTrue (holds m b k) →
      IsModelAt w k (extended b ps k m) × IsTrue (holds (extended b ps k m) w k)
