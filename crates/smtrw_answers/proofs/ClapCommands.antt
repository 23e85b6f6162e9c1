-- The commands of the program, as `clap` takes their words.
use Rattle.std.proofs.Common.{◌≡◌, ◌≤◌, ℕ, suc, ◌&&◌, Bool, true, false, cond, nat_eq, nat_le, List, [], ◌∷◌, ◌++◌, length, drop, ◌⊎◌, inl, inr, Option, Some, None, refl, sym, ap, ◌∙◌, subst, codes, arith}
use Rattle.std.specs.List.{list_any, starts_with}
use Rattle.std.specs.Str.{bytes_eq}
use Rattle.std.proofs.lemmas.Slice.Eq.{bytes_eq-Decides, starts_is}
use Rattle.std.proofs.lemmas.Bool.Decides.{Decides-eqb, nat_tests}
use Rattle.std.proofs.lemmas.List.{length-append}
use Rattle.clap.specs.Walk.{Row, Text, idle, finished, settled_rows, walk, walked, nothing_held}
use Rattle.clap.specs.Simple.{Shape, built}
use Rattle.clap.specs.Takes.{level_passes, settle_passes, walk_passes}
use Rattle.clap.proofs.TakesLemmas.{leaf_takes}
use Rattle.smtrw_answers.specs.Words.{Word, Numbered, rewriting, translating, blasting, counting, demonstrating, Setting, of_passes, of_layout, of_check, needed, settings_of, setting_among}
use Rattle.smtrw_answers.proofs.ClapRows.{rewrite_app, carry_app, blast_app, stats_app, demo_app, row_added}
use Rattle.smtrw_answers.proofs.ClapWalk.{Pending, held_at, walk_at, id_of, name_of, TakesOption, IsOptionWord, TakesPlace, Taking}

and_false : (b : Bool) → (b && false) ≡ false
and_false true = refl
and_false false = refl

same_either : (b : Bool) (rows : List Row) → cond b rows rows ≡ rows
same_either true rows = refl
same_either false rows = refl

-- ---- words of options

behind_name : (name w : Word) → starts_with nat_eq w (name ++ codes "=") ≡ true → w ≡ (name ++ codes "=") ++ drop (suc (length name)) w
behind_name name w starts =
    let longer : length (name ++ codes "=") ≡ suc (length name) = let n = length-append name (codes "=") in omega (arith, n) in
    (starts_is Decides-eqb w (name ++ codes "=") _ refl).0 starts ∙ ap (λ n. (name ++ codes "=") ++ drop n w) longer

-- the word is this option, or the rest has it
one_option : (s : Setting) (w : Word) (rest : Option (Setting × Option Word)) (o : Setting × Option Word)
    → cond (bytes_eq w (name_of s)) (Some (s, None)) (cond (starts_with nat_eq w (name_of s ++ codes "=")) (Some (s, Some (drop (suc (length (name_of s))) w))) rest) ≡ Some o
    → ((o.0 ≡ s) × IsOptionWord o w) ⊎ (rest ≡ Some o)
one_option s w rest o e = go (bytes_eq w (name_of s)) refl (starts_with nat_eq w (name_of s ++ codes "=")) refl e
  where
    go : (b : Bool) → bytes_eq w (name_of s) ≡ b → (c : Bool) → starts_with nat_eq w (name_of s ++ codes "=") ≡ c
        → cond b (Some (s, None)) (cond c (Some (s, Some (drop (suc (length (name_of s))) w))) rest) ≡ Some o
        → ((o.0 ≡ s) × IsOptionWord o w) ⊎ (rest ≡ Some o)
    go true same c starts is =
        let o_is : ◌≡◌ {A = Setting × Option Word} (s, None) o = cc in
        inl (ap (λ x. x.0) (sym o_is), subst (λ x. IsOptionWord x w) o_is ((bytes_eq-Decides w (name_of s)).0 same))
    go false same true starts is =
        let o_is : ◌≡◌ {A = Setting × Option Word} (s, Some (drop (suc (length (name_of s))) w)) o = cc in
        inl (ap (λ x. x.0) (sym o_is), subst (λ x. IsOptionWord x w) o_is (behind_name (name_of s) w starts))
    go false same false starts is = inr is

-- of two options
two_options : (shape : Shape) (s t : Setting) (w : Word) (o : Setting × Option Word) → TakesOption shape s → TakesOption shape t
    → setting_among ((name_of s, s) ∷ (name_of t, t) ∷ []) w ≡ Some o → IsOptionWord o w × TakesOption shape o.0
two_options shape s t w o first second e = elim (one_option s w _ o e) [
  | inl found ↦ (found.1, subst (TakesOption shape) (sym found.0) first)
  | inr later ↦ elim (one_option t w None o later) [
    | inl found ↦ (found.1, subst (TakesOption shape) (sym found.0) second)
    | inr missing ↦ absurd cc
  ]
]

-- no room for one more behind so many
no_room : (most : ℕ) (n : ℕ) → most ≤ n → nat_le most n ≡ false → ⊥
no_room most n le room = grind (arith, nat_tests)

file_apart : (s : Setting) → bytes_eq (codes "file") (id_of s) ≡ false
file_apart of_passes = refl
file_apart of_layout = refl
file_apart of_check = refl

no_file_option : (s : Setting) → list_any (bytes_eq (id_of s)) (codes "file" ∷ []) ≡ false
no_file_option of_passes = refl
no_file_option of_layout = refl
no_file_option of_check = refl

-- ---- rewriting

abbrev rewrite_shape : Shape
rewrite_shape = (built rewrite_app).top

rewrite_passes : TakesOption rewrite_shape of_passes
unfolding walked
rewrite_passes = record {
  attached = λ rows p n v. refl;
  attached_turn = λ rows p n v settles no_row. rw (settles, no_row) refl;
  begun = λ rows p n. refl;
  begun_turn = λ rows p n settles. rw settles refl;
  value = λ rows n w plain. rw (plain.no_end, plain.no_long, plain.no_short) refl;
  value_turn = λ rows n w plain. rw (plain.no_end, plain.no_long, plain.no_short) refl;
  settled = λ rows w. refl;
  settles = λ rows w no_row. rw no_row refl;
}

rewrite_layout : TakesOption rewrite_shape of_layout
unfolding walked
rewrite_layout = record {
  attached = λ rows p n v. refl;
  attached_turn = λ rows p n v settles no_row. rw (settles, no_row) refl;
  begun = λ rows p n. refl;
  begun_turn = λ rows p n settles. rw settles refl;
  value = λ rows n w plain. rw (plain.no_end, plain.no_long, plain.no_short) refl;
  value_turn = λ rows n w plain. rw (plain.no_end, plain.no_long, plain.no_short) refl;
  settled = λ rows w. refl;
  settles = λ rows w no_row. rw no_row refl;
}

rewrite_file : TakesPlace rewrite_shape (codes "file" ∷ []) []
unfolding walked
rewrite_file = record {
  id = codes "file";
  met = λ rows p w plain. rw (plain.no_end, plain.no_long, plain.no_short, and_false) refl;
  turn = λ rows p w plain settles. rw (plain.no_end, plain.no_long, plain.no_short, settles, and_false) refl;
  settles = λ rows w no_row. rw no_row refl;
  added = λ rows w no_row. row_added (codes "file") w _ rows refl no_row;
  free = λ rows is. is.0;
  put = λ f old new added is. (added.first, tt);
  apart = file_apart;
}

rewrite_place : (fs : List Numbered) → nat_le 1 (length fs) ≡ false → TakesPlace rewrite_shape (codes "file" ∷ []) fs
rewrite_place [] room = rewrite_file
rewrite_place (f ∷ fs) room = absurd (no_room 1 (suc (length fs)) (omega arith) room)

rewrite_finished : (rows : List Row) (p : Pending) → finished rewrite_shape.rules (held_at rows p) ≡ settled_rows rewrite_shape.rules p rows
rewrite_finished rows p = simp same_either

rewrite_level : (ws : List Word) (rows : List Row) (p : Pending) (n : ℕ) → walk rewrite_shape.rules [] nothing_held ws ≡ walk_at rows p idle n
    → settle_passes rewrite_shape.rules false (held_at rows p) ≡ true → walk_passes rewrite_shape [] (walk_at [] None idle 1) ws ≡ true
    → level_passes rewrite_shape [] nothing_held ws false ≡ true
rewrite_level ws rows p n stand settles turns = rw (stand, turns, settles) refl

pub rewrite_taking : Taking (settings_of rewriting) (needed rewriting) rewrite_app (codes "file" ∷ [])
rewrite_taking = record {
  options = λ w o among. two_options rewrite_shape of_passes of_layout w o rewrite_passes rewrite_layout among;
  place = rewrite_place;
  no_operands = (refl, tt);
  apart = no_file_option;
  finished_at = rewrite_finished;
  found = λ name ws. refl;
  taken = λ name ws rows p n stand settles turns. leaf_takes (built rewrite_app) nothing_held ws refl (rewrite_level ws rows p n stand settles turns);
}

-- ---- translating, extending, unblasting and answering

abbrev carry_ids : List Text
carry_ids = codes "script" ∷ codes "model" ∷ []

script_apart : (s : Setting) → bytes_eq (codes "script") (id_of s) ≡ false
script_apart of_passes = refl
script_apart of_layout = refl
script_apart of_check = refl

model_apart : (s : Setting) → bytes_eq (codes "model") (id_of s) ≡ false
model_apart of_passes = refl
model_apart of_layout = refl
model_apart of_check = refl

no_carried_option : (s : Setting) → list_any (bytes_eq (id_of s)) carry_ids ≡ false
no_carried_option of_passes = refl
no_carried_option of_layout = refl
no_carried_option of_check = refl

module _ (name : Text) where
  abbrev carry_shape : Shape
  carry_shape = (built (carry_app name)).top

  carry_passes : TakesOption carry_shape of_passes
  unfolding walked
  carry_passes = record {
    attached = λ rows p n v. refl;
    attached_turn = λ rows p n v settles no_row. rw (settles, no_row) refl;
    begun = λ rows p n. refl;
    begun_turn = λ rows p n settles. rw settles refl;
    value = λ rows n w plain. rw (plain.no_end, plain.no_long, plain.no_short) refl;
    value_turn = λ rows n w plain. rw (plain.no_end, plain.no_long, plain.no_short) refl;
    settled = λ rows w. refl;
    settles = λ rows w no_row. rw no_row refl;
  }

  carry_check : TakesOption carry_shape of_check
  unfolding walked
  carry_check = record {
    attached = λ rows p n v. refl;
    attached_turn = λ rows p n v settles no_row. rw (settles, no_row) refl;
    begun = λ rows p n. refl;
    begun_turn = λ rows p n settles. rw settles refl;
    value = λ rows n w plain. rw (plain.no_end, plain.no_long, plain.no_short) refl;
    value_turn = λ rows n w plain. rw (plain.no_end, plain.no_long, plain.no_short) refl;
    settled = λ rows w. refl;
    settles = λ rows w no_row. rw no_row refl;
  }

  carry_script : TakesPlace carry_shape carry_ids []
  unfolding walked
  carry_script = record {
    id = codes "script";
    met = λ rows p w plain. rw (plain.no_end, plain.no_long, plain.no_short, and_false) refl;
    turn = λ rows p w plain settles. rw (plain.no_end, plain.no_long, plain.no_short, settles, and_false) refl;
    settles = λ rows w no_row. rw no_row refl;
    added = λ rows w no_row. row_added (codes "script") w _ rows refl no_row;
    free = λ rows is. is.0;
    put = λ f old new added is. (added.first, (added.has (codes "model") refl ∙ is.1.0, tt));
    apart = script_apart;
  }

  carry_model : (f : Numbered) → TakesPlace carry_shape carry_ids (f ∷ [])
  unfolding walked
  carry_model f = record {
    id = codes "model";
    met = λ rows p w plain. rw (plain.no_end, plain.no_long, plain.no_short, and_false) refl;
    turn = λ rows p w plain settles. rw (plain.no_end, plain.no_long, plain.no_short, settles, and_false) refl;
    settles = λ rows w no_row. rw no_row refl;
    added = λ rows w no_row. row_added (codes "model") w _ rows refl no_row;
    free = λ rows is. is.1.0;
    put = λ g old new added is. (added.others (codes "script") refl ∙ is.0, (added.first, tt));
    apart = model_apart;
  }

  carry_place : (fs : List Numbered) → nat_le 2 (length fs) ≡ false → TakesPlace carry_shape carry_ids fs
  carry_place [] room = carry_script
  carry_place (f ∷ []) room = carry_model f
  carry_place (f ∷ g ∷ fs) room = absurd (no_room 2 (suc (suc (length fs))) (omega arith) room)

  carry_finished : (rows : List Row) (p : Pending) → finished carry_shape.rules (held_at rows p) ≡ settled_rows carry_shape.rules p rows
  carry_finished rows p = simp same_either

  carry_level : (ws : List Word) (rows : List Row) (p : Pending) (n : ℕ) → walk carry_shape.rules [] nothing_held ws ≡ walk_at rows p idle n
      → settle_passes carry_shape.rules false (held_at rows p) ≡ true → walk_passes carry_shape [] (walk_at [] None idle 1) ws ≡ true
      → level_passes carry_shape [] nothing_held ws false ≡ true
  carry_level ws rows p n stand settles turns = rw (stand, turns, settles) refl

  pub carry_taking : Taking (settings_of translating) (needed translating) (carry_app name) carry_ids
  carry_taking = record {
    options = λ w o among. two_options carry_shape of_passes of_check w o carry_passes carry_check among;
    place = carry_place;
    no_operands = (refl, (refl, tt));
    apart = no_carried_option;
    finished_at = carry_finished;
    found = λ word ws. refl;
    taken = λ word ws rows p n stand settles turns. leaf_takes (built (carry_app name)) nothing_held ws refl (carry_level ws rows p n stand settles turns);
  }

-- ---- blasting and linking

abbrev blast_ids : List Text
blast_ids = codes "script" ∷ []

no_blast_option : (s : Setting) → list_any (bytes_eq (id_of s)) blast_ids ≡ false
no_blast_option of_passes = refl
no_blast_option of_layout = refl
no_blast_option of_check = refl

module _ (name : Text) where
  abbrev blast_shape : Shape
  blast_shape = (built (blast_app name)).top

  blast_passes : TakesOption blast_shape of_passes
  unfolding walked
  blast_passes = record {
    attached = λ rows p n v. refl;
    attached_turn = λ rows p n v settles no_row. rw (settles, no_row) refl;
    begun = λ rows p n. refl;
    begun_turn = λ rows p n settles. rw settles refl;
    value = λ rows n w plain. rw (plain.no_end, plain.no_long, plain.no_short) refl;
    value_turn = λ rows n w plain. rw (plain.no_end, plain.no_long, plain.no_short) refl;
    settled = λ rows w. refl;
    settles = λ rows w no_row. rw no_row refl;
  }

  blast_check : TakesOption blast_shape of_check
  unfolding walked
  blast_check = record {
    attached = λ rows p n v. refl;
    attached_turn = λ rows p n v settles no_row. rw (settles, no_row) refl;
    begun = λ rows p n. refl;
    begun_turn = λ rows p n settles. rw settles refl;
    value = λ rows n w plain. rw (plain.no_end, plain.no_long, plain.no_short) refl;
    value_turn = λ rows n w plain. rw (plain.no_end, plain.no_long, plain.no_short) refl;
    settled = λ rows w. refl;
    settles = λ rows w no_row. rw no_row refl;
  }

  blast_script : TakesPlace blast_shape blast_ids []
  unfolding walked
  blast_script = record {
    id = codes "script";
    met = λ rows p w plain. rw (plain.no_end, plain.no_long, plain.no_short, and_false) refl;
    turn = λ rows p w plain settles. rw (plain.no_end, plain.no_long, plain.no_short, settles, and_false) refl;
    settles = λ rows w no_row. rw no_row refl;
    added = λ rows w no_row. row_added (codes "script") w _ rows refl no_row;
    free = λ rows is. is.0;
    put = λ f old new added is. (added.first, tt);
    apart = script_apart;
  }

  blast_place : (fs : List Numbered) → nat_le 1 (length fs) ≡ false → TakesPlace blast_shape blast_ids fs
  blast_place [] room = blast_script
  blast_place (f ∷ fs) room = absurd (no_room 1 (suc (length fs)) (omega arith) room)

  blast_finished : (rows : List Row) (p : Pending) → finished blast_shape.rules (held_at rows p) ≡ settled_rows blast_shape.rules p rows
  blast_finished rows p = simp same_either

  blast_level : (ws : List Word) (rows : List Row) (p : Pending) (n : ℕ) → walk blast_shape.rules [] nothing_held ws ≡ walk_at rows p idle n
      → settle_passes blast_shape.rules false (held_at rows p) ≡ true → walk_passes blast_shape [] (walk_at [] None idle 1) ws ≡ true
      → level_passes blast_shape [] nothing_held ws false ≡ true
  blast_level ws rows p n stand settles turns = rw (stand, turns, settles) refl

  pub blast_taking : Taking (settings_of blasting) (needed blasting) (blast_app name) blast_ids
  blast_taking = record {
    options = λ w o among. two_options blast_shape of_passes of_check w o blast_passes blast_check among;
    place = blast_place;
    no_operands = (refl, tt);
    apart = no_blast_option;
    finished_at = blast_finished;
    found = λ word ws. refl;
    taken = λ word ws rows p n stand settles turns. leaf_takes (built (blast_app name)) nothing_held ws refl (blast_level ws rows p n stand settles turns);
  }

-- ---- statistics

abbrev stats_shape : Shape
stats_shape = (built stats_app).top

stats_file : TakesPlace stats_shape (codes "file" ∷ []) []
unfolding walked
stats_file = record {
  id = codes "file";
  met = λ rows p w plain. rw (plain.no_end, plain.no_long, plain.no_short, and_false) refl;
  turn = λ rows p w plain settles. rw (plain.no_end, plain.no_long, plain.no_short, settles, and_false) refl;
  settles = λ rows w no_row. rw no_row refl;
  added = λ rows w no_row. row_added (codes "file") w _ rows refl no_row;
  free = λ rows is. is.0;
  put = λ f old new added is. (added.first, tt);
  apart = file_apart;
}

stats_place : (fs : List Numbered) → nat_le 1 (length fs) ≡ false → TakesPlace stats_shape (codes "file" ∷ []) fs
stats_place [] room = stats_file
stats_place (f ∷ fs) room = absurd (no_room 1 (suc (length fs)) (omega arith) room)

stats_finished : (rows : List Row) (p : Pending) → finished stats_shape.rules (held_at rows p) ≡ settled_rows stats_shape.rules p rows
stats_finished rows p = simp same_either

stats_level : (ws : List Word) (rows : List Row) (p : Pending) (n : ℕ) → walk stats_shape.rules [] nothing_held ws ≡ walk_at rows p idle n
    → settle_passes stats_shape.rules false (held_at rows p) ≡ true → walk_passes stats_shape [] (walk_at [] None idle 1) ws ≡ true
    → level_passes stats_shape [] nothing_held ws false ≡ true
stats_level ws rows p n stand settles turns = rw (stand, turns, settles) refl

pub stats_taking : Taking (settings_of counting) (needed counting) stats_app (codes "file" ∷ [])
stats_taking = record {
  options = λ w o among. absurd cc;
  place = stats_place;
  no_operands = (refl, tt);
  apart = no_file_option;
  finished_at = stats_finished;
  found = λ name ws. refl;
  taken = λ name ws rows p n stand settles turns. leaf_takes (built stats_app) nothing_held ws refl (stats_level ws rows p n stand settles turns);
}

-- ---- the demonstration

abbrev demo_ids : List Text
demo_ids = codes "seed" ∷ codes "size" ∷ []

seed_apart : (s : Setting) → bytes_eq (codes "seed") (id_of s) ≡ false
seed_apart of_passes = refl
seed_apart of_layout = refl
seed_apart of_check = refl

size_apart : (s : Setting) → bytes_eq (codes "size") (id_of s) ≡ false
size_apart of_passes = refl
size_apart of_layout = refl
size_apart of_check = refl

no_number_option : (s : Setting) → list_any (bytes_eq (id_of s)) demo_ids ≡ false
no_number_option of_passes = refl
no_number_option of_layout = refl
no_number_option of_check = refl

abbrev demo_shape : Shape
demo_shape = (built demo_app).top

demo_seed : TakesPlace demo_shape demo_ids []
unfolding walked
demo_seed = record {
  id = codes "seed";
  met = λ rows p w plain. rw (plain.no_end, plain.no_long, plain.no_short, and_false) refl;
  turn = λ rows p w plain settles. rw (plain.no_end, plain.no_long, plain.no_short, settles, and_false) refl;
  settles = λ rows w no_row. rw no_row refl;
  added = λ rows w no_row. row_added (codes "seed") w _ rows refl no_row;
  free = λ rows is. is.0;
  put = λ f old new added is. (added.first, (added.has (codes "size") refl ∙ is.1.0, tt));
  apart = seed_apart;
}

demo_size : (f : Numbered) → TakesPlace demo_shape demo_ids (f ∷ [])
unfolding walked
demo_size f = record {
  id = codes "size";
  met = λ rows p w plain. rw (plain.no_end, plain.no_long, plain.no_short, and_false) refl;
  turn = λ rows p w plain settles. rw (plain.no_end, plain.no_long, plain.no_short, settles, and_false) refl;
  settles = λ rows w no_row. rw no_row refl;
  added = λ rows w no_row. row_added (codes "size") w _ rows refl no_row;
  free = λ rows is. is.1.0;
  put = λ g old new added is. (added.others (codes "seed") refl ∙ is.0, (added.first, tt));
  apart = size_apart;
}

demo_place : (fs : List Numbered) → nat_le 2 (length fs) ≡ false → TakesPlace demo_shape demo_ids fs
demo_place [] room = demo_seed
demo_place (f ∷ []) room = demo_size f
demo_place (f ∷ g ∷ fs) room = absurd (no_room 2 (suc (suc (length fs))) (omega arith) room)

demo_finished : (rows : List Row) (p : Pending) → finished demo_shape.rules (held_at rows p) ≡ settled_rows demo_shape.rules p rows
demo_finished rows p = simp same_either

demo_level : (ws : List Word) (rows : List Row) (p : Pending) (n : ℕ) → walk demo_shape.rules [] nothing_held ws ≡ walk_at rows p idle n
    → settle_passes demo_shape.rules false (held_at rows p) ≡ true → walk_passes demo_shape [] (walk_at [] None idle 1) ws ≡ true
    → level_passes demo_shape [] nothing_held ws false ≡ true
demo_level ws rows p n stand settles turns = rw (stand, turns, settles) refl

pub demo_taking : Taking (settings_of demonstrating) (needed demonstrating) demo_app demo_ids
demo_taking = record {
  options = λ w o among. absurd cc;
  place = demo_place;
  no_operands = (refl, (refl, tt));
  apart = no_number_option;
  finished_at = demo_finished;
  found = λ name ws. refl;
  taken = λ name ws rows p n stand settles turns. leaf_takes (built demo_app) nothing_held ws refl (demo_level ws rows p n stand settles turns);
}
