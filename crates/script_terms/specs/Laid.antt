-- Names in order of declaration, cut into levels.
use Rattle.std.specs.Prelude.{◌≡◌, ℕ, ◌<◌, ◌≤◌, Bool, false, ◌||◌, List, [], ◌∷◌, ◌++◌, map, flat_map, reverse, replicate, take, drop, length, All, Some, None}
use Rattle.std.specs.Borrow.{Bor}
use Rattle.smt_lex.specs.Names.{Name}
use Rattle.smt_terms.specs.Equal.{name_eq}
use Rattle.script_terms.specs.Known.{Scoped}
use Rattle.script_terms.specs.declared.levels.Run.{Run}

-- what a map or a list of borrowed names holds
abbrev pub borrowed : {A : Type 0} → List (Bor (List ℕ) × A) → List (Name × A)
borrowed es = map (λ e. (e.0.now, e.1)) es

-- names in the order of their declarations, and how many of them stand below each level, that of the latest level first
abbrev pub laid : {A : Type 0} → List ℕ → List (Name × A) → List (Scoped A)
laid [] es = map Some (reverse es)
laid (m ∷ ms) es = map Some (reverse (drop m es)) ++ None ∷ laid ms (take m es)

-- each number is at most the one before it, and the first at most n
abbrev pub AreMarks : ℕ → List ℕ → Type 0
AreMarks n [] = Unit {0}
AreMarks n (m ∷ ms) = (m ≤ n) × AreMarks m ms

abbrev pub has : {A : Type 0} → List (Name × A) → Name → Bool
has [] n = false
has (e ∷ es) n = name_eq e.0 n || has es n

-- no name stands twice
abbrev pub AreOnce : {A : Type 0} → List (Name × A) → Type 0
AreOnce [] = Unit {0}
AreOnce (e ∷ es) = (has es e.0 ≡ false) × AreOnce es

pub record IsLaid {A : Type 0} (ms : List ℕ) (es : List (Name × A)) : Type 0 where
  pub marks : AreMarks (length es) ms
  pub once : AreOnce es

-- ---- as they are kept

-- how many names stand below each level; the levels of one run have the same, and the latest stand first
abbrev pub starts_of : List Run → List ℕ
starts_of rs = flat_map (λ r. replicate r.levels r.below) (reverse rs)

-- levels that are all closed aren't kept
abbrev pub AreOpen : List Run → Type 0
AreOpen rs = All (λ r. 0 < r.levels) rs

-- names cut into n levels
pub record IsCut {A : Type 0} (rs : List Run) (n : ℕ) (es : List (Name × A)) : Type 0 where
  pub runs : AreOpen rs
  pub count : n ≡ length (starts_of rs)
  pub names : IsLaid (starts_of rs) es
