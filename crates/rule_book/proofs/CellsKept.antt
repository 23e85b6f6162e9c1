-- The cells of one kind among the first of a view, and a hole among cells.
use Rattle.std.proofs.Common.{◌≡◌, ℕ, ◌+◌, ◌<◌, ◌≤◌, ◌≢◌, Bool, true, false, cond, ◌==◌, List, [], ◌∷◌, ◌++◌, length, take, get_or, slice_get, Some, refl, ap, ◌∙◌, arith}
use Rattle.std.proofs.lemmas.Bool.Decides.{Decides-eqb}
use Rattle.std.proofs.lemmas.List.{append-nil, length-take}
use Rattle.std.proofs.lemmas.List.Elements.{filter_more}
use Rattle.std.proofs.lemmas.List.Folds.{list_any_at, list_any_more}
use Rattle.std.proofs.lemmas.List.Sums.{length-filter, count_by-le-length}
use Rattle.std.proofs.lemmas.Option.{get_or_from_slice_get}
use Rattle.std.specs.List.{list_any}
use Rattle.smt_terms.proofs.Tests.{or_false}
use Rattle.rule_book.specs.declared.views.Cell.{Cell}
use Rattle.rule_book.specs.Operands.{cells_at}

pub few : (cs : List Cell) (up i : ℕ) → length (cells_at up (take i cs)) ≤ i
few cs up i = omega (arith, length-filter (λ c. c.up == up) (take i cs), count_by-le-length (λ c. c.up == up) (take i cs), length-take i cs)

-- one more
more : (cs : List Cell) (up i : ℕ) (c : Cell) (b : Bool) → i < length cs → slice_get cs i ≡ Some c → (c.up == up) ≡ b → cells_at up (take (i + 1) cs) ≡ cells_at up (take i cs) ++ cond b (c ∷ []) []
more cs up i c b within got is =
    filter_more (λ d. d.up == up) cs i c within
    ∙ ap (λ d. cells_at up (take i cs) ++ cond (d.up == up) (d ∷ []) []) (get_or_from_slice_get cs i c c got)
    ∙ ap (λ t. cells_at up (take i cs) ++ cond t (c ∷ []) []) is

pub more-kept : (cs : List Cell) (up i : ℕ) (c : Cell) → i < length cs → slice_get cs i ≡ Some c → c.up ≡ up → cells_at up (take (i + 1) cs) ≡ cells_at up (take i cs) ++ c ∷ []
more-kept cs up i c within got same = more cs up i c true within got ((Decides-eqb c.up up).1 same)

differs : (a b : ℕ) (t : Bool) → (a == b) ≡ t → a ≢ b → (a == b) ≡ false
differs a b true is other = absurd (other ((Decides-eqb a b).0 is))
differs a b false is other = is

pub more-passed : (cs : List Cell) (up i : ℕ) (c : Cell) → i < length cs → slice_get cs i ≡ Some c → c.up ≢ up → cells_at up (take (i + 1) cs) ≡ cells_at up (take i cs)
more-passed cs up i c within got other = more cs up i c false within got (differs c.up up (c.up == up) refl other) ∙ append-nil (cells_at up (take i cs))

-- ---- a hole

pub hole-here : (cs : List Cell) (hole i : ℕ) (c : Cell) → i < length cs → slice_get cs i ≡ Some c → c.hole ≡ hole → list_any (λ d. d.hole == hole) cs ≡ true
hole-here cs hole i c within got same =
    list_any_at (λ d. d.hole == hole) cs i c within (ap (λ d. d.hole == hole) (get_or_from_slice_get cs i c c got) ∙ (Decides-eqb c.hole hole).1 same)

pub hole-passed : (cs : List Cell) (hole i : ℕ) (c : Cell) → i < length cs → slice_get cs i ≡ Some c → c.hole ≢ hole → list_any (λ d. d.hole == hole) (take i cs) ≡ false → list_any (λ d. d.hole == hole) (take (i + 1) cs) ≡ false
hole-passed cs hole i c within got other before =
    list_any_more (λ d. d.hole == hole) cs i c within
    ∙ or_false (list_any (λ d. d.hole == hole) (take i cs)) ((get_or cs i c).hole == hole) before (ap (λ d. d.hole == hole) (get_or_from_slice_get cs i c c got) ∙ differs c.hole hole (c.hole == hole) refl other)
