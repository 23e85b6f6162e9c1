-- A text that is read part by part.
use Rattle.std.proofs.Common.{◌≡◌, ◌∙◌, sym, ap, refl, subst, ℕ, ◌+◌, Bool, true, false, List, [], ◌∷◌, ◌++◌, length, flat_map, Result, Ok, Err, if◌then◌else◌, ◌==◌}
use Rattle.std.specs.List.{slice_split}
use Rattle.dimacs_link.specs.declared.items.Item.{Item}
use Rattle.dimacs_link.specs.declared.progress.Progress.{Progress}
use Rattle.dimacs_link.specs.AnswerTexts.{Piece, placed, pieces, is_wrong, checked}
use Rattle.dimacs_link.specs.Readings.{HasRead, Leads, Reads}

-- reading what is left of a text gives what reading all of it gives
abbrev pub Continues : (ℕ → Piece → List (ℕ × Item)) → ℕ → ℕ → List ℕ → ℕ → List ℕ → Progress → Progress → Type 0
Continues f b place text start rest old new =
    (count : ℕ) (before : List Item) → HasRead count before old
    → (after : List Item) × HasRead count after new × (checked after (flat_map (f count) (pieces b start rest)) ≡ checked before (flat_map (f count) (pieces b place text)))

-- ---- one list behind another

abbrev okay : List Item → Result (List Item) ℕ
okay is = Ok is

ok_only : (a b : List Item) → okay a ≡ okay b → a ≡ b
ok_only a b h = cc

pub checked_on : (before after : List Item) (xs ys : List (ℕ × Item)) → checked before xs ≡ Ok after → checked before (xs ++ ys) ≡ checked after ys
checked_on before after [] ys e = ap (λ is. checked is ys) (ok_only before after e)
checked_on before after (x ∷ xs) ys e = go (is_wrong before x.1) e (checked_on (x.1 ∷ before) after xs ys)
  where
    go : (w : Bool) → (if w then Err x.0 else checked (x.1 ∷ before) xs) ≡ Ok after → (checked (x.1 ∷ before) xs ≡ Ok after → checked (x.1 ∷ before) (xs ++ ys) ≡ checked after ys)
        → (if w then Err x.0 else checked (x.1 ∷ before) (xs ++ ys)) ≡ checked after ys
    go true h rest = absurd cc
    go false h rest = rest h

pub checked_stop : (before : List Item) (p : ℕ) (xs ys : List (ℕ × Item)) → checked before xs ≡ Err p → checked before (xs ++ ys) ≡ Err p
checked_stop before p [] ys e = absurd cc
checked_stop before p (x ∷ xs) ys e = go (is_wrong before x.1) e (checked_stop (x.1 ∷ before) p xs ys)
  where
    go : (w : Bool) → (if w then Err x.0 else checked (x.1 ∷ before) xs) ≡ Err p → (checked (x.1 ∷ before) xs ≡ Err p → checked (x.1 ∷ before) (xs ++ ys) ≡ Err p)
        → (if w then Err x.0 else checked (x.1 ∷ before) (xs ++ ys)) ≡ Err p
    go true h rest = h
    go false h rest = rest h

-- ---- a part more

led : (count : ℕ) (r : Result (List Item) ℕ) (u : Unit {0}) (new : Progress) → Leads count r (Ok u) new → (after : List Item) × HasRead count after new × (r ≡ Ok after)
led count (Ok after) u new h = (after, h, refl)
led count (Err p) u new h = absurd h

halted : (count : ℕ) (r : Result (List Item) ℕ) (p : ℕ) (new : Progress) → Leads count r (Err p) new → r ≡ Err p
halted count (Ok after) p new h = absurd h
halted count (Err q) p new h = ap Err (sym h)

module _ (f : ℕ → Piece → List (ℕ × Item)) (b place : ℕ) (text : List ℕ) (start : ℕ) (rest part : List ℕ) (parts : List (List ℕ)) where
  abbrev here : Piece
  here = record { place = start; bytes = part }

  first_part : slice_split (λ c. c == b) rest ≡ part ∷ parts → (count : ℕ) (after : List Item)
      → checked after (flat_map (f count) (pieces b start rest)) ≡ checked after (f count here ++ flat_map (f count) (placed (start + length part + 1) parts))
  first_part split count after = ap (λ ps. checked after (flat_map (f count) (placed start ps))) split

  pub part_more : (old mid new : Progress) (u : Unit {0}) (next : ℕ) (behind : List ℕ) → slice_split (λ c. c == b) rest ≡ part ∷ parts → parts ≡ slice_split (λ c. c == b) behind → next ≡ start + length part + 1
      → Continues f b place text start rest old mid → Reads mid (λ count. f count here) (Ok u) new → Continues f b place text next behind old new
  part_more old mid new u next behind split others on was read count before h =
      let w = was count before h in
      let l = led count (checked w.0 (f count here)) u new (read count w.0 w.1) in (
        l.0,
        l.1,
        ap (λ n. checked l.0 (flat_map (f count) (pieces b n behind))) on
            ∙ ap (λ ps. checked l.0 (flat_map (f count) (placed (start + length part + 1) ps))) (sym others)
            ∙ sym (checked_on w.0 l.0 (f count here) (flat_map (f count) (placed (start + length part + 1) parts)) l.2)
            ∙ sym (first_part split count w.0) ∙ w.2,
      )

  pub part_stops : (old mid new : Progress) (p : ℕ) → slice_split (λ c. c == b) rest ≡ part ∷ parts
      → Continues f b place text start rest old mid → Reads mid (λ count. f count here) (Err p) new → Reads old (λ count. flat_map (f count) (pieces b place text)) (Err p) new
  part_stops old mid new p split was read count before h =
      let w = was count before h in
      let stop = checked_stop w.0 p (f count here) (flat_map (f count) (placed (start + length part + 1) parts)) (halted count (checked w.0 (f count here)) p new (read count w.0 w.1)) in
      subst (λ r. Leads count r (Err p) new) (sym (sym w.2 ∙ first_part split count w.0 ∙ stop)) refl
