-- Words without a fault: what their plan says of what they ask for, and the values that `clap` found.
use Rattle.std.proofs.Common.{◌≡◌, ℕ, Option, Some, None, Result, Ok, Err, refl, sym, ap₂, ◌∙◌, codes}
use Rattle.std.specs.Result.{IsOk}
use Rattle.clap.specs.Matches.{first_value}
use Rattle.clap.specs.declared.parser.matches.Found.{Found}
use Rattle.smtrw_answers.specs.declared.status.Usage.{Usage as UsageFault}
use Rattle.smtrw_answers.specs.declared.grammar.Plan.{Plan}
use Rattle.smtrw_answers.specs.declared.grammar.Plan.TheVariants as plan
use Rattle.smtrw_answers.specs.Words.{Word, Asked, rewrite, translate, extend, blast, unblast, dimacs, answer, stats, demo}
use Rattle.smtrw_answers.specs.Asking.{EndFits, GivesCounting, GivesDemonstrating, number_of}

pub planned_ok : (p : Plan) (r : Result Asked UsageFault) → EndFits (Ok p) r → IsOk r
planned_ok p (Ok a) is = refl
planned_ok p (Err u) is = absurd is

-- ---- statistics

same_word : (w v : Word) → ◌≡◌ {A = Option Word} (Some w) (Some v) → w ≡ v
same_word w v e = cc

pub counting_answer : (r : Result Asked UsageFault) (found : Found) (number : ℕ) (name : Word) → EndFits (Ok (plan.Stats number)) r → GivesCounting r found
    → first_value found (codes "file") ≡ Some name → r ≡ Ok (stats (record { number = number; word = name }))
counting_answer (Ok (stats f)) found number name is gives at =
    let numbered : f.number ≡ number = cc in
    ap₂ (λ i w. Ok (stats (record { number = i; word = w }))) numbered (same_word f.word name (sym gives ∙ at))
counting_answer (Ok (rewrite ps l f)) found number name is gives at = absurd gives
counting_answer (Ok (translate ps k s m)) found number name is gives at = absurd gives
counting_answer (Ok (extend ps k s m)) found number name is gives at = absurd gives
counting_answer (Ok (blast ps k f)) found number name is gives at = absurd gives
counting_answer (Ok (dimacs ps k f)) found number name is gives at = absurd gives
counting_answer (Ok (unblast ps k s m)) found number name is gives at = absurd gives
counting_answer (Ok (answer ps k s m)) found number name is gives at = absurd gives
counting_answer (Ok (demo s n)) found number name is gives at = absurd gives
counting_answer (Err u) found number name is gives at = absurd gives

pub counting_found : (r : Result Asked UsageFault) (found : Found) → GivesCounting r found → first_value found (codes "file") ≡ None → ⊥
counting_found (Ok (stats f)) found gives none = some_none f.word (sym gives ∙ none)
  where
    some_none : (w : Word) → ◌≡◌ {A = Option Word} (Some w) None → ⊥
    some_none w e = absurd cc
counting_found (Ok (rewrite ps l f)) found gives none = absurd gives
counting_found (Ok (translate ps k s m)) found gives none = absurd gives
counting_found (Ok (extend ps k s m)) found gives none = absurd gives
counting_found (Ok (blast ps k f)) found gives none = absurd gives
counting_found (Ok (dimacs ps k f)) found gives none = absurd gives
counting_found (Ok (unblast ps k s m)) found gives none = absurd gives
counting_found (Ok (answer ps k s m)) found gives none = absurd gives
counting_found (Ok (demo s n)) found gives none = absurd gives
counting_found (Err u) found gives none = absurd gives

-- ---- the demonstration

pub seed_found : (r : Result Asked UsageFault) (found : Found) → GivesDemonstrating r found → number_of (first_value found (codes "seed")) ≡ None → ⊥
seed_found (Ok (demo s n)) found gives none = some_none s (sym gives.0 ∙ none)
  where
    some_none : (k : ℕ) → ◌≡◌ {A = Option ℕ} (Some k) None → ⊥
    some_none k e = absurd cc
seed_found (Ok (rewrite ps l f)) found gives none = absurd gives
seed_found (Ok (translate ps k s m)) found gives none = absurd gives
seed_found (Ok (extend ps k s m)) found gives none = absurd gives
seed_found (Ok (blast ps k f)) found gives none = absurd gives
seed_found (Ok (dimacs ps k f)) found gives none = absurd gives
seed_found (Ok (unblast ps k s m)) found gives none = absurd gives
seed_found (Ok (answer ps k s m)) found gives none = absurd gives
seed_found (Ok (stats f)) found gives none = absurd gives
seed_found (Err u) found gives none = absurd gives
