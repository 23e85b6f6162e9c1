-- A whole text's commands with terms are those with forms.
use Rattle.std.proofs.Common.{◌≡◌, ◌∙◌, sym, ap, subst, refl, ℕ, suc, List, [], ◌++◌, Result, Ok, Err}
use Rattle.std.proofs.lemmas.List.{map-append}
use Rattle.smt_lex.specs.Lex.{Fault}
use Rattle.smt_lex.specs.Forms.{Form, Forms, none, ◌⨾◌, forms_to_exit}
use Rattle.smt_terms.specs.Fresh.{Supply}
use Rattle.smt_terms.specs.Term.{Term}
use Rattle.script_terms.specs.Refusals.{Refused, and_then, mapped}
use Rattle.smt_lex.specs.FormText.{form_text}
use Rattle.script_terms.specs.Parts.{place_of}
use Rattle.script_read.specs.Commands.{Command, with_asserted}
use Rattle.script_read.specs.Laws.{blank, bare, SameCommands}
use Rattle.script_read.specs.Mean.{accepted_or}
use Rattle.script_read.specs.Outlines.{Outline, outline}
use Rattle.script_read.specs.Scenes.{Asserted, Scene, seen_or_none, seen_command, commands_seen, first_scene}
use Rattle.script_read.specs.Script.{Standing, Step, step, read_command, Numbered, numbered, behind, read_commands, first_standing, commands_or_refusal, read_forms}
use Rattle.script_terms.proofs.Outcomes.{and_then_ok, mapped_ok, ok_same}
use Rattle.script_read.proofs.Shown.{scene_of, Shows, step_shows}

outlined_shows : (f : Form) (s : Standing) (o : Result Outline Refused) → Shows (and_then (step (place_of f) (form_text f) s) o) (seen_or_none (form_text f) (scene_of s) o)
outlined_shows f s (Ok o) = step_shows (place_of f) (form_text f) s o
outlined_shows f s (Err e) = tt

pub command_shows : (f : Form) (s : Standing) → Shows (read_command f s) (seen_command f (scene_of s))
command_shows f s = outlined_shows f s (outline f)

pub shown_at : (r : Step) (p : List (Command Term) × Standing) (q : List (Command Asserted) × Scene) → r ≡ Ok p → Shows r q → (bare p.0 ≡ bare q.0) × (scene_of p.1 ≡ q.1)
shown_at r p q h k = subst (λ x. Shows x q) h k

pub numbered_ok : {A : Type 0} (i : ℕ) (r : Result A Refused) (a : A) → numbered i r ≡ Ok a → r ≡ Ok a
numbered_ok i (Ok b) a h = ap Ok (ok_same b a (numbered i (Ok b)) refl h)
numbered_ok i (Err e) a h = absurd (cc)

joined_bare : (cs rest : List (Command Term)) (ds more : List (Command Asserted)) → bare cs ≡ bare ds → bare rest ≡ bare more → bare (cs ++ rest) ≡ bare (ds ++ more)
joined_bare cs rest ds more h k =
    map-append (with_asserted blank) cs rest ∙ ap (λ xs. xs ++ bare rest) h ∙ ap (λ ys. bare ds ++ ys) k ∙ sym (map-append (with_asserted blank) ds more)

commands_show : (i : ℕ) (fs : Forms) (s : Standing) (r : List (Command Term) × Supply) → read_commands i fs s ≡ Ok r → bare r.0 ≡ bare (commands_seen fs (scene_of s))
commands_show i none s r h = ap (λ x. bare x.0) (sym (ok_same ([], s.sofar.supply) r (read_commands i none s) refl h))
commands_show i (f ⨾ fs) s r h =
    let (p, here, rest) = and_then_ok (λ p. mapped (behind p.0) (read_commands (suc i) fs p.1)) (numbered i (read_command f s)) r h in
    let (q, more, all) = mapped_ok (behind p.0) (read_commands (suc i) fs p.1) r rest in
    let (now, later) = shown_at (read_command f s) p (seen_command f (scene_of s)) (numbered_ok i (read_command f s) p here) (command_shows f s) in
    ap (λ x. bare x.0) (sym all)
    ∙ joined_bare p.0 q.0 (seen_command f (scene_of s)).0 (commands_seen fs (seen_command f (scene_of s)).1) now
    (commands_show (suc i) fs p.1 q more ∙ ap (λ sc. bare (commands_seen fs sc)) later)

pub read_ok : (b : List ℕ) (o : Result (List (Command Term) × Supply) Numbered) (r : List (Command Term) × Supply) → commands_or_refusal b o ≡ Ok r → o ≡ Ok r
read_ok b (Ok x) r h = ap Ok (ok_same x r (commands_or_refusal b (Ok x)) refl h)
read_ok b (Err e) r h = absurd (cc)

forms_show : (b : List ℕ) (o : Result Forms Fault) (r : List (Command Term) × Supply) → read_forms b o ≡ Ok r → bare r.0 ≡ bare (commands_seen (accepted_or none o) first_scene)
forms_show b (Ok fs) r h = commands_show 1 fs (first_standing fs) r (read_ok b (read_commands 1 fs (first_standing fs)) r h)
forms_show b (Err e) r h = absurd (cc)

pub same_commands : SameCommands
same_commands b r h = forms_show b (forms_to_exit b) r h
