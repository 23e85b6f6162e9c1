-- One word after the other, as `clap` takes them apart: what a command has to take of words that have no fault.
use Rattle.std.proofs.Common.{◌≡◌, ℕ, suc, Bool, true, false, nat_eq, nat_le, List, [], ◌∷◌, ◌++◌, length, Option, Some, None, refl, codes, arith}
use Rattle.std.specs.List.{list_any}
use Rattle.std.specs.Str.{bytes_eq}
use Rattle.std.proofs.lemmas.Bool.Decides.{nat_tests}
use Rattle.clap.specs.Lexer.{long_of, short_of}
use Rattle.clap.specs.Walk.{Held, Row, Rule, Text, Waiting, Walk, idle, option, used, has_row, first_of, finished, settled_rows, walk, walked, nothing_held}
use Rattle.clap.specs.Simple.{App, Shape, built, filled, matches_of}
use Rattle.clap.specs.Takes.{settle_passes, takes, turn_passes, walk_passes}
use Rattle.smtrw_answers.specs.Words.{Word, Numbered, Setting, of_passes, of_layout, of_check, setting_among, is_dashed}
use Rattle.smtrw_answers.proofs.ClapRows.{RowAdded, passes_rule, layout_rule, check_rule}

-- ---- where a walk stands

-- an argument whose values are being read
abbrev pub Pending : Type 0
Pending = Option (Text × List Text)

abbrev pub held_at : List Row → Pending → Held
held_at rows pending = record { rows = rows; pending = pending; skip = 0 }

abbrev pub walk_at : List Row → Pending → Waiting → ℕ → Walk
walk_at rows pending waiting position = record { held = held_at rows pending; waiting = waiting; position = position; is_trailing = false; stopped = None }

-- ---- words that aren't options

pub record IsPlainWord (w : Word) : Type 0 where
  pub no_long : long_of w ≡ None
  pub no_short : short_of w ≡ None
  pub no_end : bytes_eq w (45 ∷ 45 ∷ []) ≡ false

not_hyphen : (x : ℕ) (w : Word) → nat_eq x 45 ≡ false → IsPlainWord (x ∷ w)
not_hyphen x w other = record {
  no_long = rw other refl;
  no_short = rw other refl;
  no_end = rw other refl;
}

pub plain_word_is : (w : Word) → is_dashed w ≡ false → IsPlainWord w
plain_word_is [] e = record { no_long = refl; no_short = refl; no_end = refl }
plain_word_is (x ∷ []) e = go (nat_eq x 45) refl
  where
    go : (b : Bool) → nat_eq x 45 ≡ b → IsPlainWord (x ∷ [])
    go true same = record { no_long = rw same refl; no_short = rw same refl; no_end = rw same refl }
    go false other = not_hyphen x [] other
plain_word_is (x ∷ y ∷ w) e = go (nat_eq x 45) refl
  where
    go : (b : Bool) → nat_eq x 45 ≡ b → IsPlainWord (x ∷ y ∷ w)
    go true same =
        let hyphen : x ≡ 45 = grind (arith, nat_tests) in
        let wrong : is_dashed (45 ∷ y ∷ w) ≡ false = rw hyphen at e in
        absurd cc
    go false other = not_hyphen x (y ∷ w) other

-- ---- options

abbrev pub id_of : Setting → Text
id_of of_passes = codes "passes"
id_of of_layout = codes "layout"
id_of of_check = codes "check"

abbrev pub name_of : Setting → Word
name_of of_passes = codes "--passes"
name_of of_layout = codes "--layout"
name_of of_check = codes "--check"

-- the rule of an option, as `clap` completes it
abbrev pub rule_of : Setting → Rule
rule_of of_passes = filled passes_rule
rule_of of_layout = filled layout_rule
rule_of of_check = filled check_rule

abbrev pub with_value_in : Setting → Word → Word
with_value_in s v = (name_of s ++ codes "=") ++ v

-- where the walk stands behind an option or its value, and that `clap` takes them
pub record TakesOption (shape : Shape) (s : Setting) : Type 0 where
  pub attached : (rows : List Row) (p : Pending) (n : ℕ) (v : Word)
      → walked shape.rules [] (walk_at rows p idle n) (with_value_in s v) ≡ walk_at (used (rule_of s) (v ∷ []) (settled_rows shape.rules p rows)) None idle n
  pub attached_turn : (rows : List Row) (p : Pending) (n : ℕ) (v : Word) → settle_passes shape.rules false (held_at rows p) ≡ true
      → has_row (id_of s) (settled_rows shape.rules p rows) ≡ false → turn_passes shape [] (walk_at rows p idle n) (with_value_in s v) ≡ true
  pub begun : (rows : List Row) (p : Pending) (n : ℕ)
      → walked shape.rules [] (walk_at rows p idle n) (name_of s) ≡ walk_at (settled_rows shape.rules p rows) (Some (id_of s, [])) (option (id_of s)) n
  pub begun_turn : (rows : List Row) (p : Pending) (n : ℕ) → settle_passes shape.rules false (held_at rows p) ≡ true
      → turn_passes shape [] (walk_at rows p idle n) (name_of s) ≡ true
  pub value : (rows : List Row) (n : ℕ) (w : Word) → IsPlainWord w
      → walked shape.rules [] (walk_at rows (Some (id_of s, [])) (option (id_of s)) n) w ≡ walk_at rows (Some (id_of s, w ∷ [])) idle n
  pub value_turn : (rows : List Row) (n : ℕ) (w : Word) → IsPlainWord w
      → turn_passes shape [] (walk_at rows (Some (id_of s, [])) (option (id_of s)) n) w ≡ true
  pub settled : (rows : List Row) (w : Word) → settled_rows shape.rules (Some (id_of s, w ∷ [])) rows ≡ used (rule_of s) (w ∷ []) rows
  pub settles : (rows : List Row) (w : Word) → has_row (id_of s) rows ≡ false → settle_passes shape.rules false (held_at rows (Some (id_of s, w ∷ []))) ≡ true

-- the word is the option, with its value where it holds it
abbrev pub IsOptionWord : Setting × Option Word → Word → Type 0
IsOptionWord (s, None) w = w ≡ name_of s
IsOptionWord (s, Some v) w = w ≡ with_value_in s v

-- ---- words that are no options

-- those of a command, by the ids of its places
abbrev pub OperandsIn : List Text → List Numbered → List Row → Type 0
OperandsIn [] [] rows = Unit {0}
OperandsIn [] (f ∷ fs) rows = ⊥
OperandsIn (id ∷ ids) [] rows = (has_row id rows ≡ false) × OperandsIn ids [] rows
OperandsIn (id ∷ ids) (f ∷ fs) rows = (first_of id rows ≡ Some f.word) × OperandsIn ids fs rows

-- the place of one more
pub record TakesPlace (shape : Shape) (ids : List Text) (fs : List Numbered) : Type 0 where
  pub id : Text
  pub met : (rows : List Row) (p : Pending) (w : Word) → IsPlainWord w
      → walked shape.rules [] (walk_at rows p idle (suc (length fs))) w ≡ walk_at (settled_rows shape.rules p rows) (Some (id, w ∷ [])) idle (suc (suc (length fs)))
  pub turn : (rows : List Row) (p : Pending) (w : Word) → IsPlainWord w → settle_passes shape.rules false (held_at rows p) ≡ true
      → turn_passes shape [] (walk_at rows p idle (suc (length fs))) w ≡ true
  pub settles : (rows : List Row) (w : Word) → has_row id rows ≡ false → settle_passes shape.rules false (held_at rows (Some (id, w ∷ []))) ≡ true
  pub added : (rows : List Row) (w : Word) → has_row id rows ≡ false → RowAdded id w rows (settled_rows shape.rules (Some (id, w ∷ [])) rows)
  pub free : (rows : List Row) → OperandsIn ids fs rows → has_row id rows ≡ false
  pub put : (f : Numbered) (old new : List Row) → RowAdded id f.word old new → OperandsIn ids fs old → OperandsIn ids (fs ++ f ∷ []) new
  pub apart : (s : Setting) → bytes_eq id (id_of s) ≡ false

-- ---- a command

-- a command with these options and places takes what has no fault
pub record Taking (settings : List (Word × Setting)) (most : ℕ) (app : App) (ids : List Text) : Type 0 where
  pub options : (w : Word) (o : Setting × Option Word) → setting_among settings w ≡ Some o → IsOptionWord o w × TakesOption (built app).top o.0
  pub place : (fs : List Numbered) → nat_le most (length fs) ≡ false → TakesPlace (built app).top ids fs
  pub no_operands : OperandsIn ids [] []
  pub apart : (s : Setting) → list_any (bytes_eq (id_of s)) ids ≡ false
  -- without defaults
  pub finished_at : (rows : List Row) (p : Pending) → finished (built app).top.rules (held_at rows p) ≡ settled_rows (built app).top.rules p rows
  pub found : (name : Word) (ws : List Word) → matches_of app (name ∷ ws) ≡ finished (built app).top.rules (walk (built app).top.rules [] nothing_held ws).held
  pub taken : (name : Word) (ws : List Word) (rows : List Row) (p : Pending) (n : ℕ) → walk (built app).top.rules [] nothing_held ws ≡ walk_at rows p idle n
      → settle_passes (built app).top.rules false (held_at rows p) ≡ true → walk_passes (built app).top [] (walk_at [] None idle 1) ws ≡ true
      → takes app (name ∷ ws) ≡ true
