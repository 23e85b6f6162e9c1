-- The words of the commands that are supported are among those of all commands.
use Rattle.std.proofs.Common.{◌≡◌, Bool, true, false, cond, ◌&&◌, List, [], ◌∷◌, Some, refl, ap, sym, ◌∙◌}
use Rattle.std.specs.Prelude.{bytes_eq}
use Rattle.std.specs.List.{list_all}
use Rattle.std.proofs.lemmas.Slice.Eq.{bytes_eq-Decides}
use Rattle.smt_lex.specs.Names.{Name, is_command_word}
use Rattle.script_read.specs.Outlines.{CommandWord, command_table, word_among, supported}

word_passes : (test : Name → Bool) (ps : List (Name × CommandWord)) (n : Name) (w : CommandWord) → list_all (λ p. test p.0) ps ≡ true → word_among ps n ≡ Some w → test n ≡ true
word_passes test [] n w all h = absurd cc
word_passes test (p ∷ ps) n w all h = go (test p.0) refl (bytes_eq p.0 n) refl all h (λ k l. word_passes test ps n w k l)
  where
    go : (b : Bool) → test p.0 ≡ b → (c : Bool) → bytes_eq p.0 n ≡ c → (b && list_all (λ q. test q.0) ps) ≡ true → cond c (Some p.1) (word_among ps n) ≡ Some w → (list_all (λ q. test q.0) ps ≡ true → word_among ps n ≡ Some w → test n ≡ true) → test n ≡ true
    go true here true same all found below = ap test (sym ((bytes_eq-Decides p.0 n).0 same)) ∙ here
    go true here false other all found below = below all found
    go false here c e all found below = absurd cc

all_commands : list_all (λ (p : Name × CommandWord). is_command_word p.0) command_table ≡ true
unfolding is_command_word
all_commands = refl

pub supported_is_command : (n : Name) (w : CommandWord) → supported n ≡ Some w → is_command_word n ≡ true
unfolding supported
supported_is_command n w h = word_passes is_command_word command_table n w all_commands h
