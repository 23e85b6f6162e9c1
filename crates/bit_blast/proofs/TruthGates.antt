-- Circuits over truth values.
use Rattle.std.specs.Prelude.{Bool, true, false, cond, not, ◌&&◌, ◌||◌, List, [], ◌∷◌}
use Rattle.std.specs.Bool.{beq}
use Rattle.std.specs.List.{list_any, list_all}
use Rattle.smt_terms.specs.declared.op.Op.TheVariants.{Truth, Not, And, Or, Xor, Implies, Equal, Distinct, Ite}
use Rattle.bit_blast.specs.Circuits.{Gates}

abbrev pub first : List Bool → Bool
first [] = false
first (a ∷ _) = a

abbrev pub later : List Bool → List Bool
later [] = []
later (_ ∷ us) = us

abbrev pub all_apart : List Bool → Bool
all_apart [] = true
all_apart (a ∷ us) = not (list_any (beq a) us) && all_apart us

abbrev pub truth_gates : Gates Bool
truth_gates (Truth b) us = b
truth_gates Not us = not (first us)
truth_gates And us = list_all (λ a. a) us
truth_gates Or us = list_any (λ a. a) us
truth_gates Xor us = not (beq (first us) (first (later us)))
truth_gates Implies us = not (first us) || first (later us)
truth_gates Equal us = beq (first us) (first (later us))
truth_gates Distinct us = all_apart us
truth_gates Ite us = cond (first us) (first (later us)) (first (later (later us)))
truth_gates _ us = false
