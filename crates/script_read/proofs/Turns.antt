-- A command by its outline, and what it makes of a session.
use Rattle.std.proofs.Common.{◌≡◌, ℕ, List, [], ◌∷◌, Ok, Err, ap, sym, ◌∙◌, subst}
use Rattle.smt_lex.specs.Forest.{token_at}
use Rattle.smt_lex.specs.FormText.{form_text}
use Rattle.smt_lex.specs.Lex.{Token}
use Rattle.term_table.specs.Formulas.{Formulas}
use Rattle.script_terms.specs.declared.faults.ReadFault.{ReadFault}
use Rattle.script_read.specs.declared.scripts.Command.{Command}
use Rattle.script_read.specs.declared.session.Session.{Session}
use Rattle.script_read.specs.CommandLists.{command_of}
use Rattle.script_read.specs.Outlines.{Outline, outline}
use Rattle.script_terms.specs.Parts.{place_of}
use Rattle.script_terms.specs.Places.{IsForm, form_from}
use Rattle.script_terms.specs.Refusals.{Refused, and_then}
use Rattle.script_terms.specs.Replies.{Refuses}
use Rattle.script_read.specs.Script.{Standing, Step, step, read_command}
use Rattle.script_read.specs.Steps.{StandsAt, Steps}
use Rattle.script_terms.proofs.Placing.{place_here}

-- one command that takes nothing from the text
pub steps_alone : (t : Formulas) (x : Session) (made : Step) (c d : Command) (s : Standing) → c ≡ d → StandsAt t x s → made ≡ Ok (command_of t d ∷ [], s) → Steps t x (c ∷ []) made
steps_alone t x made c d s is stands gives = record { standing = s; stands = stands; gives = gives ∙ ap (λ e. Ok (command_of t e ∷ [], s)) (sym is) }

module _ (ts : List Token) (i : ℕ) (form : IsForm ts i) (s : Standing) where
  -- what the form that begins at token i makes of what is known, by its outline
  abbrev taken : Outline → Step
  taken o = step (token_at ts i).start (form_text (form_from ts i)) s o

  by_outline : read_command (form_from ts i) s ≡ and_then taken (outline (form_from ts i))
  by_outline = ap (λ place. and_then (step place (form_text (form_from ts i)) s) (outline (form_from ts i))) (place_here ts i form)

  pub outline_refused : (e : Refused) → outline (form_from ts i) ≡ Err e → read_command (form_from ts i) s ≡ Err e
  outline_refused e refused = ap (and_then (step (place_of (form_from ts i)) (form_text (form_from ts i)) s)) refused

  pub outline_taken : (o : Outline) → outline (form_from ts i) ≡ Ok o → read_command (form_from ts i) s ≡ taken o
  outline_taken o read = by_outline ∙ ap (and_then taken) read

  pub turn_taken : (t : Formulas) (x : Session) (o : Outline) (cs : List Command) → outline (form_from ts i) ≡ Ok o → Steps t x cs (taken o) → Steps t x cs (read_command (form_from ts i) s)
  turn_taken t x o cs read steps = subst (Steps t x cs) (sym (outline_taken o read)) steps

  pub turn_refused : (o : Outline) (e : ReadFault) → outline (form_from ts i) ≡ Ok o → Refuses (taken o) e → Refuses (read_command (form_from ts i) s) e
  turn_refused o e read refused = subst (λ (made : Step). Refuses made e) (sym (outline_taken o read)) refused
