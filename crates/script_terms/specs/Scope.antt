-- Bindings: what names stand for at a place of a script, as lists with the latest first. SMT-LIB 2.6, sections 3.6
-- (`let`, quantifiers, annotations) and 4.2 (declarations, definitions and the levels of assertions).
use Rattle.std.specs.Prelude.{ℕ, zero, suc, Bool, true, false, not, cond, List, [], ◌∷◌, ◌++◌, filter, replicate, Option, Some, None}
use Rattle.smt_lex.specs.Names.{Name}
use Rattle.smt_lex.specs.Forms.{Form, Forms}
use Rattle.smt_terms.specs.Equal.{name_eq}
use Rattle.smt_terms.specs.Sorts.{Sort, Symbol, Variable}

-- what a form binds for the forms inside it
pub data Local : Type 0 where
  -- a `let`: its list of names with their forms; all of them are bound at once
  let_names : Forms → Local
  -- a name of a quantifier
  quantified_name : Variable → Local
  -- a parameter of a definition
  parameter_name : Variable → Local

-- what a command binds for those behind it
pub data Binding : Type 0 where
  -- a declared or defined name of a sort
  sort_name : Name → Sort → Binding
  -- a declared symbol
  function : Symbol → Binding
  -- a definition: its name, parameters and body
  definition : Name → List Variable → Form → Binding
  -- names of a term, and what was bound locally where the term stands
  named : List Name → Form → List Local → Binding
  -- what is above it belongs to one more level
  level : Binding

-- ---- live names: functions, definitions and names of terms share one name space, sorts have another

abbrev pub or_later : {A : Type 0} → Bool → A → Option A → Option A
or_later here a later = cond here (Some a) later

-- the sort that a live name of a sort stands for
abbrev pub live_sort : List Binding → Name → Option Sort
live_sort [] n = None
live_sort (sort_name m s ∷ bs) n = or_later (name_eq m n) s (live_sort bs n)
live_sort (_ ∷ bs) n = live_sort bs n

-- ---- levels, in a list of bindings of any kind with marks between them

abbrev pub is_level : Binding → Bool
is_level level = true
is_level _ = false

-- n levels are opened
abbrev pub opened : {B : Type 0} → B → ℕ → List B → List B
opened mark n bs = replicate n mark ++ bs

-- the latest n levels are closed, and what they bound goes
abbrev pub closed : {B : Type 0} → (B → Bool) → ℕ → List B → List B
closed is_mark n [] = []
closed is_mark zero (b ∷ bs) = b ∷ bs
closed is_mark (suc n) (b ∷ bs) = cond (is_mark b) (closed is_mark n bs) (closed is_mark (suc n) bs)

-- the latest n levels are closed, and what they bound stays
abbrev pub merged : {B : Type 0} → (B → Bool) → ℕ → List B → List B
merged is_mark n [] = []
merged is_mark zero (b ∷ bs) = b ∷ bs
merged is_mark (suc n) (b ∷ bs) = cond (is_mark b) (merged is_mark n bs) (b ∷ merged is_mark (suc n) bs)

-- all levels are closed, and what they bound stays
abbrev pub flattened : {B : Type 0} → (B → Bool) → List B → List B
flattened is_mark bs = filter (λ b. not (is_mark b)) bs

-- after a `pop` of n levels, and after `reset-assertions`: where declarations are global, they stay
abbrev pub popped : {B : Type 0} → (B → Bool) → Bool → ℕ → List B → List B
popped is_mark true n bs = merged is_mark n bs
popped is_mark false n bs = closed is_mark n bs

abbrev pub emptied : {B : Type 0} → (B → Bool) → Bool → List B → List B
emptied is_mark true bs = flattened is_mark bs
emptied is_mark false bs = []
