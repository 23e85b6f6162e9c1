-- What a call of `clap` gives on words without a fault.
use Rattle.std.proofs.Common.{◌≡◌, ℕ, suc, true, List, [], ◌∷◌, length, Option, Some, None, Result, Ok, Err, refl, sym, ap, ◌∙◌, subst, codes}
use Rattle.clap.specs.Matches.{first_value, found_of}
use Rattle.clap.specs.Walk.{Text, first_of}
use Rattle.clap.specs.Simple.{App, HasMatchesOf, app_of, app_of_fields, is_simple, matches_of, on_top}
use Rattle.clap.specs.Takes.{takes}
use Rattle.clap.specs.declared.builder.command.Command.{Command as ClapCommand}
use Rattle.clap.specs.declared.builder.command.Command.TheViews.{out-Command}
use Rattle.clap.specs.declared.parser.matches.ArgMatches.{ArgMatches}
use Rattle.clap.specs.declared.parser.matches.Found.{Found}
use Rattle.clap.proofs.WalkLemmas.{first_value-rows}
use Rattle.smtrw_answers.specs.declared.status.Usage.{Usage}
use Rattle.smtrw_answers.specs.Words.{Word, Numbered, Command, rewriting, translating, extending, blasting, unblasting, linking, answering, counting, demonstrating, takes_pass, Setting, Given, nothing_given, words_from, Asked, rewrite, translate, extend, blast, unblast, dimacs, answer, stats, demo, asked_with, asked_or_missing, at_end, asked_of, asked, command_named}
use Rattle.smtrw_answers.specs.Asking.{IsAskedBy, IsRewriting, IsCarrying, IsBlasting, IsCounting, IsDemonstrating, GivesRewriting, GivesCarrying, GivesBlasting, GivesCounting, GivesDemonstrating}
use Rattle.smtrw_answers.proofs.ClapRows.{rewrite_app, carry_app, blast_app, stats_app, demo_app, rewrite_is_simple, carry_is_simple, blast_is_simple, stats_is_simple, demo_is_simple}
use Rattle.smtrw_answers.proofs.ClapCommands.{rewrite_taking, carry_taking, blast_taking, stats_taking, demo_taking}
use Rattle.smtrw_answers.proofs.ClapWords.{and_then_ok, file_put}
use Rattle.smtrw_answers.proofs.ClapMatches.{Matched, all_matched, rewriting_given, translating_given, extending_given, unblasting_given, answering_given, blasting_given, linking_given, counting_given, demonstrating_given}
use Rattle.smtrw_answers.proofs.DemoWords.{number_put, numbers_given}

-- ---- a command without the flag for help

pub app_of-without_help : (old new : ClapCommand) → out-Command new ≡ record (out-Command old) { disable_help_flag = true }
    → app_of new ≡ on_top (λ s. record s { disable_help_flag = true }) (app_of old)
app_of-without_help old new is = ap app_of_fields is

-- ---- which command asks for what

ok_asked : (a b : Asked) → ◌≡◌ {A = Result Asked Usage} (Ok a) (Ok b) → a ≡ b
ok_asked a b e = cc

asked_with_by : (c : Command) (i : ℕ) (g : Given) (fs : List Numbered) (a : Asked) → asked_or_missing i (asked_with c g fs) ≡ Ok a → IsAskedBy c a
asked_with_by rewriting i g [] a e = absurd cc
asked_with_by rewriting i g (f ∷ []) a e = subst (IsAskedBy rewriting) (ok_asked _ a e) refl
asked_with_by rewriting i g (f ∷ x ∷ fs) a e = absurd cc
asked_with_by translating i g [] a e = absurd cc
asked_with_by translating i g (s ∷ []) a e = absurd cc
asked_with_by translating i g (s ∷ m ∷ []) a e = subst (IsAskedBy translating) (ok_asked _ a e) refl
asked_with_by translating i g (s ∷ m ∷ x ∷ fs) a e = absurd cc
asked_with_by extending i g [] a e = absurd cc
asked_with_by extending i g (s ∷ []) a e = absurd cc
asked_with_by extending i g (s ∷ m ∷ []) a e = subst (IsAskedBy extending) (ok_asked _ a e) refl
asked_with_by extending i g (s ∷ m ∷ x ∷ fs) a e = absurd cc
asked_with_by blasting i g [] a e = absurd cc
asked_with_by blasting i g (f ∷ []) a e = subst (IsAskedBy blasting) (ok_asked _ a e) refl
asked_with_by blasting i g (f ∷ x ∷ fs) a e = absurd cc
asked_with_by unblasting i g [] a e = absurd cc
asked_with_by unblasting i g (s ∷ []) a e = absurd cc
asked_with_by unblasting i g (s ∷ m ∷ []) a e = subst (IsAskedBy unblasting) (ok_asked _ a e) refl
asked_with_by unblasting i g (s ∷ m ∷ x ∷ fs) a e = absurd cc
asked_with_by linking i g [] a e = absurd cc
asked_with_by linking i g (f ∷ []) a e = subst (IsAskedBy linking) (ok_asked _ a e) refl
asked_with_by linking i g (f ∷ x ∷ fs) a e = absurd cc
asked_with_by answering i g [] a e = absurd cc
asked_with_by answering i g (s ∷ []) a e = absurd cc
asked_with_by answering i g (s ∷ m ∷ []) a e = subst (IsAskedBy answering) (ok_asked _ a e) refl
asked_with_by answering i g (s ∷ m ∷ x ∷ fs) a e = absurd cc
asked_with_by counting i g [] a e = absurd cc
asked_with_by counting i g (f ∷ []) a e = subst (IsAskedBy counting) (ok_asked _ a e) refl
asked_with_by counting i g (f ∷ x ∷ fs) a e = absurd cc
asked_with_by demonstrating i g [] a e = absurd cc
asked_with_by demonstrating i g (s ∷ []) a e = absurd cc
asked_with_by demonstrating i g (s ∷ n ∷ []) a e = subst (IsAskedBy demonstrating) (ok_asked _ a e) refl
asked_with_by demonstrating i g (s ∷ n ∷ x ∷ fs) a e = absurd cc

at_end_by : (c : Command) (i : ℕ) (g : Given) (s : Option Setting) (a : Asked) → at_end c i g s ≡ Ok a → IsAskedBy c a
at_end_by c i g None a e = asked_with_by c i g g.plain a e
at_end_by c i g (Some s) a e = absurd cc

asked_of_by : (o : Option Command) (ws : List Word) (a : Asked) → asked_of o ws ≡ Ok a → (c : Command) × (o ≡ Some c) × IsAskedBy c a
asked_of_by None ws a e = absurd cc
asked_of_by (Some c) ws a e =
    let all = and_then_ok (λ g. at_end c (suc (suc (length ws))) g g.awaited) (words_from (takes_pass c) c 2 ws nothing_given) a e in
    (c, refl, at_end_by c (suc (suc (length ws))) all.0 all.0.awaited a all.2)

-- ---- the values

-- `clap` takes the words of a command, and gives their values
pub record IsTaken (app : App) (Gives : Result Asked Usage → Found → Type 0) (words : List Word) : Type 0 where
  pub takes : takes app words ≡ true
  pub gives : (m : ArgMatches) → HasMatchesOf app words m → Gives (asked words) (found_of m)

module _ (c : Command) (app : App) (ids : List Text) (words : List Word) (g : Given) (simple : is_simple app ≡ true) (is : Matched c app ids g words) where
  same_values : (m : ArgMatches) → HasMatchesOf app words m → (id : Text) → first_value (found_of m) id ≡ first_of id (matches_of app words)
  same_values m has id = first_value-rows (found_of m) id ∙ ap (first_of id) (has simple).0

  taken_as : (Gives : Result Asked Usage → Found → Type 0) (a : Asked) → asked words ≡ Ok a
      → ((found : Found) → ((id : Text) → first_value found id ≡ first_of id (matches_of app words)) → Gives (Ok a) found) → IsTaken app Gives words
  taken_as Gives a e gives = record { takes = is.takes; gives = λ m has. subst (λ r. Gives r (found_of m)) (sym e) (gives (found_of m) (same_values m has)) }

-- what is asked for by words is asked for by their command
by_command : (c d : Command) (w : Word) (ws : List Word) (a : Asked) → command_named w ≡ Some d → d ≡ c → asked (w ∷ ws) ≡ Ok a → asked_of (Some c) ws ≡ Ok a
by_command c d w ws a named same e = ap (λ x. asked_of (Some x) ws) (sym same) ∙ ap (λ o. asked_of o ws) (sym named) ∙ e

pub rewriting_taken : (words : List Word) → IsRewriting (asked words) → IsTaken rewrite_app GivesRewriting words
rewriting_taken [] is = absurd is
rewriting_taken (w ∷ ws) is = go (asked (w ∷ ws)) refl is
  where
    go : (r : Result Asked Usage) → asked (w ∷ ws) ≡ r → IsRewriting r → IsTaken rewrite_app GivesRewriting (w ∷ ws)
    go (Ok (rewrite ps l f)) e is =
        let by = asked_of_by (command_named w) ws (rewrite ps l f) e in
        let of = by_command rewriting by.0 w ws (rewrite ps l f) by.1 by.2 e in
        let all = all_matched rewriting rewrite_app (codes "file" ∷ []) rewrite_taking file_put w ws (rewrite ps l f) of in
        taken_as rewriting rewrite_app (codes "file" ∷ []) (w ∷ ws) all.0 rewrite_is_simple all.1 GivesRewriting (rewrite ps l f) e
        (λ found same. rewriting_given (matches_of rewrite_app (w ∷ ws)) found same (suc (suc (length ws))) all.0 ps l f all.1.holds all.2)
    go (Ok (translate ps k s m)) e is = absurd is
    go (Ok (extend ps k s m)) e is = absurd is
    go (Ok (blast ps k f)) e is = absurd is
    go (Ok (dimacs ps k f)) e is = absurd is
    go (Ok (unblast ps k s m)) e is = absurd is
    go (Ok (answer ps k s m)) e is = absurd is
    go (Ok (stats f)) e is = absurd is
    go (Ok (demo s n)) e is = absurd is
    go (Err u) e is = absurd is

pub carrying_taken : (name : Text) (words : List Word) → IsCarrying (asked words) → IsTaken (carry_app name) GivesCarrying words
carrying_taken name [] is = absurd is
carrying_taken name (w ∷ ws) is = go (asked (w ∷ ws)) refl is
  where
    go : (r : Result Asked Usage) → asked (w ∷ ws) ≡ r → IsCarrying r → IsTaken (carry_app name) GivesCarrying (w ∷ ws)
    go (Ok (translate ps k s m)) e is =
        let by = asked_of_by (command_named w) ws (translate ps k s m) e in
        let of = by_command translating by.0 w ws (translate ps k s m) by.1 by.2 e in
        let all = all_matched translating (carry_app name) (codes "script" ∷ codes "model" ∷ []) (carry_taking name) file_put w ws (translate ps k s m) of in
        taken_as translating (carry_app name) (codes "script" ∷ codes "model" ∷ []) (w ∷ ws) all.0 (carry_is_simple name) all.1 GivesCarrying (translate ps k s m) e
        (λ found same. translating_given (matches_of (carry_app name) (w ∷ ws)) found same (suc (suc (length ws))) all.0 ps k s m all.1.holds all.2)
    go (Ok (extend ps k s m)) e is =
        let by = asked_of_by (command_named w) ws (extend ps k s m) e in
        let of = by_command extending by.0 w ws (extend ps k s m) by.1 by.2 e in
        let all = all_matched extending (carry_app name) (codes "script" ∷ codes "model" ∷ []) (carry_taking name) file_put w ws (extend ps k s m) of in
        taken_as extending (carry_app name) (codes "script" ∷ codes "model" ∷ []) (w ∷ ws) all.0 (carry_is_simple name) all.1 GivesCarrying (extend ps k s m) e
        (λ found same. extending_given (matches_of (carry_app name) (w ∷ ws)) found same (suc (suc (length ws))) all.0 ps k s m all.1.holds all.2)
    go (Ok (unblast ps k s m)) e is =
        let by = asked_of_by (command_named w) ws (unblast ps k s m) e in
        let of = by_command unblasting by.0 w ws (unblast ps k s m) by.1 by.2 e in
        let all = all_matched unblasting (carry_app name) (codes "script" ∷ codes "model" ∷ []) (carry_taking name) file_put w ws (unblast ps k s m) of in
        taken_as unblasting (carry_app name) (codes "script" ∷ codes "model" ∷ []) (w ∷ ws) all.0 (carry_is_simple name) all.1 GivesCarrying (unblast ps k s m) e
        (λ found same. unblasting_given (matches_of (carry_app name) (w ∷ ws)) found same (suc (suc (length ws))) all.0 ps k s m all.1.holds all.2)
    go (Ok (answer ps k s m)) e is =
        let by = asked_of_by (command_named w) ws (answer ps k s m) e in
        let of = by_command answering by.0 w ws (answer ps k s m) by.1 by.2 e in
        let all = all_matched answering (carry_app name) (codes "script" ∷ codes "model" ∷ []) (carry_taking name) file_put w ws (answer ps k s m) of in
        taken_as answering (carry_app name) (codes "script" ∷ codes "model" ∷ []) (w ∷ ws) all.0 (carry_is_simple name) all.1 GivesCarrying (answer ps k s m) e
        (λ found same. answering_given (matches_of (carry_app name) (w ∷ ws)) found same (suc (suc (length ws))) all.0 ps k s m all.1.holds all.2)
    go (Ok (rewrite ps l f)) e is = absurd is
    go (Ok (blast ps k f)) e is = absurd is
    go (Ok (dimacs ps k f)) e is = absurd is
    go (Ok (stats f)) e is = absurd is
    go (Ok (demo s n)) e is = absurd is
    go (Err u) e is = absurd is

pub blasting_taken : (name : Text) (words : List Word) → IsBlasting (asked words) → IsTaken (blast_app name) GivesBlasting words
blasting_taken name [] is = absurd is
blasting_taken name (w ∷ ws) is = go (asked (w ∷ ws)) refl is
  where
    go : (r : Result Asked Usage) → asked (w ∷ ws) ≡ r → IsBlasting r → IsTaken (blast_app name) GivesBlasting (w ∷ ws)
    go (Ok (blast ps k f)) e is =
        let by = asked_of_by (command_named w) ws (blast ps k f) e in
        let of = by_command blasting by.0 w ws (blast ps k f) by.1 by.2 e in
        let all = all_matched blasting (blast_app name) (codes "script" ∷ []) (blast_taking name) file_put w ws (blast ps k f) of in
        taken_as blasting (blast_app name) (codes "script" ∷ []) (w ∷ ws) all.0 (blast_is_simple name) all.1 GivesBlasting (blast ps k f) e
        (λ found same. blasting_given (matches_of (blast_app name) (w ∷ ws)) found same (suc (suc (length ws))) all.0 ps k f all.1.holds all.2)
    go (Ok (dimacs ps k f)) e is =
        let by = asked_of_by (command_named w) ws (dimacs ps k f) e in
        let of = by_command linking by.0 w ws (dimacs ps k f) by.1 by.2 e in
        let all = all_matched linking (blast_app name) (codes "script" ∷ []) (blast_taking name) file_put w ws (dimacs ps k f) of in
        taken_as linking (blast_app name) (codes "script" ∷ []) (w ∷ ws) all.0 (blast_is_simple name) all.1 GivesBlasting (dimacs ps k f) e
        (λ found same. linking_given (matches_of (blast_app name) (w ∷ ws)) found same (suc (suc (length ws))) all.0 ps k f all.1.holds all.2)
    go (Ok (rewrite ps l f)) e is = absurd is
    go (Ok (translate ps k s m)) e is = absurd is
    go (Ok (extend ps k s m)) e is = absurd is
    go (Ok (unblast ps k s m)) e is = absurd is
    go (Ok (answer ps k s m)) e is = absurd is
    go (Ok (stats f)) e is = absurd is
    go (Ok (demo s n)) e is = absurd is
    go (Err u) e is = absurd is

pub counting_taken : (words : List Word) → IsCounting (asked words) → IsTaken stats_app GivesCounting words
counting_taken [] is = absurd is
counting_taken (w ∷ ws) is = go (asked (w ∷ ws)) refl is
  where
    go : (r : Result Asked Usage) → asked (w ∷ ws) ≡ r → IsCounting r → IsTaken stats_app GivesCounting (w ∷ ws)
    go (Ok (stats f)) e is =
        let by = asked_of_by (command_named w) ws (stats f) e in
        let of = by_command counting by.0 w ws (stats f) by.1 by.2 e in
        let all = all_matched counting stats_app (codes "file" ∷ []) stats_taking file_put w ws (stats f) of in
        taken_as counting stats_app (codes "file" ∷ []) (w ∷ ws) all.0 stats_is_simple all.1 GivesCounting (stats f) e
        (λ found same. counting_given (matches_of stats_app (w ∷ ws)) found same (suc (suc (length ws))) all.0 f all.1.holds all.2)
    go (Ok (translate ps k s m)) e is = absurd is
    go (Ok (extend ps k s m)) e is = absurd is
    go (Ok (blast ps k f)) e is = absurd is
    go (Ok (dimacs ps k f)) e is = absurd is
    go (Ok (unblast ps k s m)) e is = absurd is
    go (Ok (answer ps k s m)) e is = absurd is
    go (Ok (rewrite ps l f)) e is = absurd is
    go (Ok (demo s n)) e is = absurd is
    go (Err u) e is = absurd is

pub demonstrating_taken : (words : List Word) → IsDemonstrating (asked words) → IsTaken demo_app GivesDemonstrating words
demonstrating_taken [] is = absurd is
demonstrating_taken (w ∷ ws) is = go (asked (w ∷ ws)) refl is
  where
    go : (r : Result Asked Usage) → asked (w ∷ ws) ≡ r → IsDemonstrating r → IsTaken demo_app GivesDemonstrating (w ∷ ws)
    go (Ok (demo s n)) e is =
        let by = asked_of_by (command_named w) ws (demo s n) e in
        let of = by_command demonstrating by.0 w ws (demo s n) by.1 by.2 e in
        let all = all_matched demonstrating demo_app (codes "seed" ∷ codes "size" ∷ []) demo_taking number_put w ws (demo s n) of in
        taken_as demonstrating demo_app (codes "seed" ∷ codes "size" ∷ []) (w ∷ ws) all.0 demo_is_simple all.1 GivesDemonstrating (demo s n) e
        (λ found same. demonstrating_given (matches_of demo_app (w ∷ ws)) found same (suc (suc (length ws))) all.0 s n all.1.holds (numbers_given ws all.0 all.3) all.2)
    go (Ok (translate ps k s m)) e is = absurd is
    go (Ok (extend ps k s m)) e is = absurd is
    go (Ok (blast ps k f)) e is = absurd is
    go (Ok (dimacs ps k f)) e is = absurd is
    go (Ok (unblast ps k s m)) e is = absurd is
    go (Ok (answer ps k s m)) e is = absurd is
    go (Ok (rewrite ps l f)) e is = absurd is
    go (Ok (stats f)) e is = absurd is
    go (Err u) e is = absurd is
