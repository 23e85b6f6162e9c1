-- Steps of a reading as the code takes them.
use Rattle.std.proofs.Common.{◌≡◌, ℕ, List, [], ◌∷◌, ◌++◌, reverse, Result, Ok, Err, refl, ap, sym, ◌∙◌, subst}
use Rattle.smt_lex.specs.Lex.{Token}
use Rattle.smt_lex.specs.Forest.{token_at, after_at}
use Rattle.smt_lex.specs.Forms.{atom}
use Rattle.smt_terms.specs.declared.ids.NodeId.{NodeId}
use Rattle.smt_terms.specs.Term.{Term}
use Rattle.term_table.specs.Formulas.{Formulas}
use Rattle.term_walk.specs.Walking.{GrowsTo}
use Rattle.std.proofs.lemmas.List.{reverse-append}
use Rattle.script_terms.specs.declared.causes.Cause.{Cause}
use Rattle.script_terms.specs.declared.faults.Fault.{Fault}
use Rattle.script_terms.specs.declared.faults.ReadFault.{ReadFault}
use Rattle.script_terms.specs.declared.faults.ReadFault.TheVariants.{Refused as RefusedFor}
use Rattle.script_terms.specs.Parts.{Opening}
use Rattle.script_terms.specs.declared.sofar.Sofar.{Sofar as SofarSeen}
use Rattle.script_terms.specs.declared.terms.frames.Next.TheVariants.{Form as NextForm, Term as NextTerm}
use Rattle.script_terms.specs.declared.terms.term_reader.TermReader.{TermReader}
use Rattle.script_terms.specs.Refusals.{Refused}
use Rattle.script_terms.specs.Heads.{atom_term}
use Rattle.script_terms.specs.Reading.{ReadBinding, Sofar, beside}
use Rattle.script_terms.specs.Read.{read, read_list}
use Rattle.script_terms.specs.Replies.{refused_seen}
use Rattle.script_terms.specs.Known.{Shows}
use Rattle.script_terms.specs.TermClauses.{ReadsAlone}
use Rattle.script_terms.specs.Bound.{LocalNames}
use Rattle.script_terms.specs.Places.{form_from, forms_from}
use Rattle.script_terms.specs.Waiting.{Gains, Stacks, ComesBack, Opens, now_at, defined_by, stacks_of, Going, Stepped}
use Rattle.script_terms.proofs.Grown.{later_self}
use Rattle.script_terms.proofs.Showing.{shows_stays}
use Rattle.script_terms.proofs.Stepping.{at_state, came_back, refused_here, refuses_as}

-- the reader's stacks with other local names
abbrev pub stacks_with : TermReader → LocalNames → Stacks
stacks_with reader locals = record { locals = locals; callees = reverse reader.callees.items; operands = reader.operands.items }

-- the table alone gained
pub table_gains : (t u : Formulas) (sofar : SofarSeen) → GrowsTo t u → Gains (now_at t sofar) (now_at u sofar)
table_gains t u sofar grows = record { table = grows; supply = later_self sofar.fresh; definitions = refl }

pub still_shows : (t u : Formulas) (sofar : SofarSeen) (live : List ReadBinding) → GrowsTo t u → Shows t sofar.fresh sofar.scope live → Shows u sofar.fresh sofar.scope live
still_shows t u sofar live grows shows = shows_stays t u sofar.fresh sofar.fresh grows (later_self sofar.fresh) sofar.scope live shows

module _ (ts : List Token) (t : Formulas) (sofar : SofarSeen) (reader : TermReader) (i : ℕ) (r : Result (Term × Sofar) Refused) (going : Going ts t sofar reader (NextForm i) r) where
  abbrev pub state_of : Sofar
  state_of = at_state going.live (now_at t sofar)

  abbrev pub reading_of : Result (Term × Sofar) Refused
  reading_of = read (form_from ts i) going.context state_of

  -- what no reading has to give
  module _ (alone : Result Term Refused) (is : reading_of ≡ beside state_of alone) where
    pub alone_steps : (u : Formulas) → GrowsTo t u → (k : NodeId) → ReadsAlone u sofar.fresh alone (Ok k) → (n : ℕ) → n ≡ after_at ts i → Stepped ts u sofar reader r (Ok (NextTerm k n))
    alone_steps u grows k answer n behind = subst (λ m. ComesBack ts (defined_by ts reader) (now_at u sofar) sofar.scope (stacks_of reader) (reverse reader.frames.items) k m r) (sym behind)
        (came_back ts (defined_by ts reader) (now_at t sofar) sofar.scope (stacks_of reader) (reverse reader.frames.items) i r going
        (now_at u sofar) (table_gains t u sofar grows) sofar.scope going.live (still_shows t u sofar going.live grows going.known)
        k answer.0 (is ∙ ap (beside state_of) answer.1) refl)

    pub alone_refused : (u : Formulas) (e : ReadFault) → ReadsAlone u sofar.fresh alone (Err e) → Stepped ts u sofar reader r (Err e)
    alone_refused u e answer = refuses_as r alone e
        (λ x refused. refused_here ts (defined_by ts reader) (now_at t sofar) sofar.scope (stacks_of reader) (reverse reader.frames.items) i r going x (is ∙ ap (beside state_of) refused)) answer

  pub token_is : form_from ts i ≡ atom (token_at ts i) → reading_of ≡ beside state_of (atom_term going.context.locals (token_at ts i) going.live)
  token_is token = ap (λ f. read f going.context state_of) token

  -- ---- lists

  module _ (first : ℕ) (o : Opening) (opens : Opens ts i first o) where
    pub opened_is : reading_of ≡ read_list o (forms_from ts (after_at ts first)) (token_at ts i).start going.context state_of
    opened_is =
        ap (λ f. read f going.context state_of) opens.form
        ∙ ap (λ p. read_list p (forms_from ts (after_at ts first)) (token_at ts i).start going.context state_of) opens.begins

  pub refused_steps : (u : Formulas) (now : TermReader) (e : Fault) (x : Refused) → refused_seen e ≡ x → reading_of ≡ Err x → Stepped ts u sofar now r (Err (RefusedFor e))
  refused_steps u now e x same is = refused_here ts (defined_by ts reader) (now_at t sofar) sofar.scope (stacks_of reader) (reverse reader.frames.items) i r going (refused_seen e) (is ∙ ap Err (sym same))

pub fault_is : (e : Fault) (cause : Cause) (place : ℕ) → e.cause ≡ cause → e.place ≡ place → refused_seen e ≡ record { cause = cause; place = place }
fault_is e cause place same_cause same_place = λ i. record { cause = same_cause i; place = same_place i }

pub reverse_push : {A : Type 0} (xs : List A) (x : A) → reverse (xs ++ x ∷ []) ≡ x ∷ reverse xs
reverse_push xs x = reverse-append xs (x ∷ [])
