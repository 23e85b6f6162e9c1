-- Whether declarations outlive their levels, step by step.
use Rattle.std.proofs.Common.{◌+◌, take, slice_get, Some, ◌≡◌, ◌∙◌, ap, refl, ℕ, Bool, false, List, [], ◌∷◌, ◌++◌}
use Rattle.script_read.specs.Commands.{Command, globals, reset}
use Rattle.pass_laws.specs.LiveGroups.{Drawn, global_behind}
use Rattle.passes.proofs.GroupingSteps.{taken_more}

pub global-append : (b : Bool) (cs ds : List (Command Drawn)) → global_behind b (cs ++ ds) ≡ global_behind (global_behind b cs) ds
global-append b [] ds = refl
global-append b (globals a ∷ cs) ds = global-append a cs ds
global-append b (reset ∷ cs) ds = global-append false cs ds
global-append b (c ∷ cs) ds = global-append b cs ds

pub global-more : (cs : List (Command Drawn)) (i : ℕ) (c : Command Drawn) → slice_get cs i ≡ Some c → global_behind false (take (i + 1) cs) ≡ global_behind (global_behind false (take i cs)) (c ∷ [])
global-more cs i c at = ap (global_behind false) (taken_more cs i c at) ∙ global-append false (take i cs) (c ∷ [])
