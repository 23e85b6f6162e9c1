-- What `clap` keeps of the words: its commands, and the rows of arguments that are used once.
use Rattle.std.proofs.Common.{◌≡◌, ◌||◌, Bool, true, false, cond, List, [], ◌∷◌, ◌++◌, Some, None, refl, sym, ap, ◌∙◌, subst, codes}
use Rattle.std.specs.Prelude.{slice_get, option_and_then, find}
use Rattle.std.specs.Str.{bytes_eq}
use Rattle.clap.specs.Walk.{Row, Rule, Text, at_row, more_values, without, with_values, has_row, first_of}
use Rattle.clap.specs.declared.builder.value_parser.Reading.{Reading}
use Rattle.clap.specs.declared.parser.matches.ValueSource.TheVariants.{CommandLine}
use Rattle.clap.specs.Simple.{App, on_top, new_app, new_rule, with_rule, is_simple}

-- ---- the commands

abbrev pub passes_rule : Rule
passes_rule = record (new_rule (codes "passes")) { long = Some (codes "passes") }

abbrev pub layout_rule : Rule
layout_rule = record (new_rule (codes "layout")) { long = Some (codes "layout") }

abbrev pub check_rule : Rule
check_rule = record (new_rule (codes "check")) { long = Some (codes "check") }

abbrev pub file_rule : Rule
file_rule = new_rule (codes "file")

abbrev pub script_rule : Rule
script_rule = new_rule (codes "script")

abbrev pub model_rule : Rule
model_rule = new_rule (codes "model")

abbrev pub seed_rule : Rule
seed_rule = new_rule (codes "seed")

abbrev pub size_rule : Rule
size_rule = new_rule (codes "size")

-- a command without the flag that `clap` adds for help
abbrev pub app_named : Text → App
app_named name = on_top (λ s. record s { disable_help_flag = true }) (new_app name)

abbrev pub rewrite_app : App
rewrite_app = with_rule (with_rule (with_rule (app_named (codes "rewrite")) passes_rule) layout_rule) file_rule

-- the command of this name
abbrev pub carry_app : Text → App
carry_app name = with_rule (with_rule (with_rule (with_rule (app_named name) passes_rule) check_rule) script_rule) model_rule

abbrev pub blast_app : Text → App
blast_app name = with_rule (with_rule (with_rule (app_named name) passes_rule) check_rule) script_rule

abbrev pub stats_app : App
stats_app = with_rule (app_named (codes "stats")) file_rule

abbrev pub demo_app : App
demo_app = with_rule (with_rule (app_named (codes "demo")) seed_rule) size_rule

pub rewrite_is_simple : is_simple rewrite_app ≡ true
rewrite_is_simple = refl

pub carry_is_simple : (name : Text) → is_simple (carry_app name) ≡ true
carry_is_simple name = refl

pub blast_is_simple : (name : Text) → is_simple (blast_app name) ≡ true
blast_is_simple name = refl

pub stats_is_simple : is_simple stats_app ≡ true
stats_is_simple = refl

pub demo_is_simple : is_simple demo_app ≡ true
demo_is_simple = refl

-- ---- rows

without_none : (id : Text) (rows : List Row) → has_row id rows ≡ false → without id rows ≡ rows
without_none id [] none = refl
without_none id (r ∷ rs) none = go (bytes_eq r.id id) none (without_none id rs)
  where
    go : (b : Bool) → (b || has_row id rs) ≡ false → (has_row id rs ≡ false → without id rs ≡ rs) → cond b ([] ++ rs) (r ∷ without id rs) ≡ r ∷ rs
    go true e rest = absurd cc
    go false e rest = ap (λ xs. r ∷ xs) (rest e)

at_row-none : (id : Text) (change : Row → List Row) (missing rows : List Row) → has_row id rows ≡ false → at_row id change missing rows ≡ rows ++ missing
at_row-none id change missing [] none = refl
at_row-none id change missing (r ∷ rs) none = go (bytes_eq r.id id) none (at_row-none id change missing rs)
  where
    go : (b : Bool) → (b || has_row id rs) ≡ false → (has_row id rs ≡ false → at_row id change missing rs ≡ rs ++ missing)
        → cond b (change r ++ rs) (r ∷ at_row id change missing rs) ≡ r ∷ (rs ++ missing)
    go true e rest = absurd cc
    go false e rest = ap (λ xs. r ∷ xs) (rest e)

or_false : (b : Bool) → (b || false) ≡ b
or_false true = refl
or_false false = refl

has_row-append : (id : Text) (rows : List Row) (r : Row) → has_row id (rows ++ r ∷ []) ≡ (has_row id rows || bytes_eq r.id id)
has_row-append id [] r = or_false (bytes_eq r.id id)
has_row-append id (q ∷ rows) r = go (bytes_eq q.id id) (has_row-append id rows r)
  where
    go : (b : Bool) → has_row id (rows ++ r ∷ []) ≡ (has_row id rows || bytes_eq r.id id)
        → (b || has_row id (rows ++ r ∷ [])) ≡ ((b || has_row id rows) || bytes_eq r.id id)
    go true e = refl
    go false e = e

first_of-new : (id : Text) (rows : List Row) (r : Row) → has_row id rows ≡ false → bytes_eq r.id id ≡ true → first_of id (rows ++ r ∷ []) ≡ slice_get r.values 0
first_of-new id [] r none same = rw same refl
first_of-new id (q ∷ rows) r none same = go (bytes_eq q.id id) none (λ e. first_of-new id rows r e same)
  where
    go : (b : Bool) → (b || has_row id rows) ≡ false → (has_row id rows ≡ false → first_of id (rows ++ r ∷ []) ≡ slice_get r.values 0)
        → option_and_then (λ (x : Row). slice_get x.values 0) (cond b (Some q) (find (λ x. bytes_eq x.id id) (rows ++ r ∷ []))) ≡ slice_get r.values 0
    go true e rest = absurd cc
    go false e rest = rest e

first_of-other : (id : Text) (rows : List Row) (r : Row) → bytes_eq r.id id ≡ false → first_of id (rows ++ r ∷ []) ≡ first_of id rows
first_of-other id [] r other = rw other refl
first_of-other id (q ∷ rows) r other = go (bytes_eq q.id id) (first_of-other id rows r other)
  where
    go : (b : Bool) → first_of id (rows ++ r ∷ []) ≡ first_of id rows
        → option_and_then (λ (x : Row). slice_get x.values 0) (cond b (Some q) (find (λ x. bytes_eq x.id id) (rows ++ r ∷ [])))
        ≡ option_and_then (λ (x : Row). slice_get x.values 0) (cond b (Some q) (find (λ x. bytes_eq x.id id) rows))
    go true e = refl
    go false e = e

pub first_of-none : (id : Text) (rows : List Row) → has_row id rows ≡ false → first_of id rows ≡ None
first_of-none id [] none = refl
first_of-none id (r ∷ rows) none = go (bytes_eq r.id id) none (first_of-none id rows)
  where
    go : (b : Bool) → (b || has_row id rows) ≡ false → (has_row id rows ≡ false → first_of id rows ≡ None)
        → option_and_then (λ (x : Row). slice_get x.values 0) (cond b (Some r) (find (λ x. bytes_eq x.id id) rows)) ≡ None
    go true e rest = absurd cc
    go false e rest = rest e

-- ---- an argument that is used for the first time

pub record RowAdded (id v : Text) (old new : List Row) : Type 0 where
  pub first : first_of id new ≡ Some v
  pub has : (other : Text) → bytes_eq id other ≡ false → has_row other new ≡ has_row other old
  pub others : (other : Text) → bytes_eq id other ≡ false → first_of other new ≡ first_of other old

row_put : (id v : Text) (rows : List Row) (r : Row) → r.id ≡ id → r.values ≡ v ∷ [] → bytes_eq id id ≡ true → has_row id rows ≡ false → RowAdded id v rows (rows ++ r ∷ [])
row_put id v rows r named valued same none = record {
  first = first_of-new id rows r none (ap (λ x. bytes_eq x id) named ∙ same) ∙ ap (λ vs. slice_get vs 0) valued;
  has = λ other differs. has_row-append other rows r ∙ ap (λ x. has_row other rows || bytes_eq x other) named ∙ ap (λ b. has_row other rows || b) differs ∙ or_false (has_row other rows);
  others = λ other differs. first_of-other other rows r (ap (λ x. bytes_eq x other) named ∙ differs);
}

pub row_added : (id v : Text) (how : Reading) (rows : List Row) → bytes_eq id id ≡ true → has_row id rows ≡ false
    → RowAdded id v rows (with_values id how CommandLine (v ∷ []) (without id rows))
row_added id v how rows same none =
    let put = row_put id v rows (record { id = id; values = v ∷ []; count = None; source = Some CommandLine; reading = how }) refl refl same none in
    let is : with_values id how CommandLine (v ∷ []) (without id rows) ≡ rows ++ record { id = id; values = v ∷ []; count = None; source = Some CommandLine; reading = how } ∷ [] =
    ap (with_values id how CommandLine (v ∷ [])) (without_none id rows none) ∙ at_row-none id (more_values CommandLine (v ∷ [])) _ rows none in
    subst (RowAdded id v rows) (sym is) put
