-- The names of commands.
use Rattle.std.proofs.Common.{◌≡◌, Bool, true, false, codes, None, refl, sym, ◌∙◌, true≢false}
use Rattle.std.specs.Str.{bytes_eq}
use Rattle.std.proofs.lemmas.Slice.Eq.{bytes_eq-Decides}
use Rattle.smtrw_answers.specs.Words.{Word, command_named}

other_way : (v w : Word) → false ≡ bytes_eq w v → bytes_eq v w ≡ false
other_way v w e = go (bytes_eq v w) refl
  where
    go : (b : Bool) → bytes_eq v w ≡ b → b ≡ false
    go true same = absurd (true≢false (sym ((bytes_eq-Decides w v).1 (sym ((bytes_eq-Decides v w).0 same))) ∙ sym e))
    go false other = refl

pub no_command : (w : Word) → false ≡ bytes_eq w (codes "rewrite") → false ≡ bytes_eq w (codes "translate") → false ≡ bytes_eq w (codes "extend") → false ≡ bytes_eq w (codes "blast")
    → false ≡ bytes_eq w (codes "unblast") → false ≡ bytes_eq w (codes "dimacs") → false ≡ bytes_eq w (codes "answer") → false ≡ bytes_eq w (codes "stats") → false ≡ bytes_eq w (codes "demo") → None ≡ command_named w
no_command w rewrite translate extend blast unblast dimacs answer stats demo =
    rw (other_way (codes "rewrite") w rewrite, other_way (codes "translate") w translate, other_way (codes "extend") w extend, other_way (codes "blast") w blast, other_way (codes "unblast") w unblast, other_way (codes "dimacs") w dimacs, other_way (codes "answer") w answer, other_way (codes "stats") w stats, other_way (codes "demo") w demo)
    refl
