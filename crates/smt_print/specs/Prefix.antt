-- Texts that are appended to another one: whole, cut short, or by way of a draft.
use Rattle.std.specs.Prelude.{◌≡◌, ℕ, ◌≤◌, List, ◌++◌, length, take}

-- a prefix of the text was appended
abbrev pub AppendsPrefix : List ℕ → List ℕ → List ℕ → Type 0
AppendsPrefix old new text = (n : ℕ) × (n ≤ length text) × (new ≡ old ++ take n text)

-- the text came behind what waited; a part of both was appended, and the rest waits
abbrev pub Drafts : List ℕ → List ℕ → List ℕ → List ℕ → List ℕ → Type 0
Drafts old waited new waits text = (done : List ℕ) × (new ≡ old ++ done) × (done ++ waits ≡ waited ++ text)
