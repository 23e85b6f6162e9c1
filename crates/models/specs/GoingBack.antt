-- How what is live at a check is found: from the check back through the commands before it.
use Rattle.std.specs.Prelude.{ℕ, ◌+◌, ◌-◌, ◌==◌, Bool, true, false, not, if◌then◌else◌, List, [], ◌∷◌}
use Rattle.smt_terms.specs.declared.ids.SortId.{SortId}
use Rattle.smt_terms.specs.declared.ids.SymId.{SymId}
use Rattle.script_read.specs.CommandLists.{is_check}
use Rattle.script_read.specs.declared.scripts.Command.{Command}
use Rattle.script_read.specs.declared.scripts.Command.TheVariants.{DeclareSort, Declare, Push, Pop, Reset, ResetAssertions, Globals}

-- the commands before check k, counted from 1
abbrev pub before_check : ℕ → List Command → List Command
before_check k [] = []
before_check k (c ∷ cs) = if is_check c then (if k == 1 then [] else c ∷ before_check (k - 1) cs) else c ∷ before_check k cs

-- whether declarations outlive their levels behind commands
abbrev pub global_behind : Bool → Command → Bool
global_behind global (Globals b) = b
global_behind global Reset = false
global_behind global _ = global

abbrev pub global_behind_all : Bool → List Command → Bool
global_behind_all global [] = global
global_behind_all global (c ∷ cs) = global_behind_all (global_behind global c) cs

-- nothing that is declared before the command is live behind it; the option stands before all declarations
abbrev pub begins_anew : Bool → Command → Bool
begins_anew global Reset = true
begins_anew global (Globals b) = true
begins_anew global ResetAssertions = not global
begins_anew global _ = false

-- what is found among commands that stand last: whether one of them begins anew, how many levels that were open before them
-- are closed behind them, and what they declare that is live behind them
pub record Found : Type 0 where
  pub anew : Bool
  pub closed : ℕ
  pub sorts : List SortId
  pub symbols : List SymId

abbrev pub nothing_found : Found
nothing_found = record { anew = false; closed = 0; sorts = []; symbols = [] }

abbrev pub with_sort : SortId → Found → Found
with_sort s f = record { anew = f.anew; closed = f.closed; sorts = s ∷ f.sorts; symbols = f.symbols }

abbrev pub with_symbol : SymId → Found → Found
with_symbol s f = record { anew = f.anew; closed = f.closed; sorts = f.sorts; symbols = s ∷ f.symbols }

abbrev pub with_closed : ℕ → Found → Found
with_closed n f = record { anew = f.anew; closed = n; sorts = f.sorts; symbols = f.symbols }

-- one command more, which stands before the others
abbrev pub met : Bool → Command → Found → Found
met global (DeclareSort s) f = if f.closed == 0 then with_sort s f else f
met global (Declare s) f = if f.closed == 0 then with_symbol s f else f
met global (Push n) f = with_closed (f.closed - n) f
met global (Pop n) f = if global then f else with_closed (f.closed + n) f
met global _ f = f

abbrev pub begun_anew : Found → Found
begun_anew f = record { anew = true; closed = f.closed; sorts = f.sorts; symbols = f.symbols }

abbrev pub found_before : Bool → Command → Found → Found
found_before global c f = if f.anew then f else (if begins_anew global c then begun_anew f else met global c f)

abbrev pub found_in : Bool → List Command → Found
found_in global [] = nothing_found
found_in global (c ∷ cs) = found_before global c (found_in global cs)
