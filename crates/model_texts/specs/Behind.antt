-- How far a part of a text is read: what is left to read of it then, with the elements that were met.
use Rattle.std.specs.Prelude.{◌≡◌, List}
use Rattle.term_table.specs.Formulas.{Formulas}
use Rattle.model_texts.specs.Met.{MetNames, names_kept}
use Rattle.model_texts.specs.Reading.{Element, Reading}
use Rattle.model_texts.specs.Replies.{AreElementsOf}

-- from the elements that were known before, the whole gives what the rest gives from those that are known now
abbrev pub LeavesToRead : {A : Type 0} → Formulas → MetNames → MetNames → Reading A → Reading A → Type 0
LeavesToRead t old now whole rest =
    (es : List Element) → AreElementsOf t (names_kept old) es → (fs : List Element) × (AreElementsOf t (names_kept now) fs × (whole es ≡ rest fs))
