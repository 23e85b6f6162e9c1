-- Commands one behind the other: what was read stays, and what is left to read.
use Rattle.std.proofs.Common.{◌≡◌, ℕ, suc, ◌+◌, ◌==◌, count_by, min, false, List, [], ◌++◌, length, Option, Some, None, Result, Ok, Err, refl, ap, sym, ◌∙◌, subst, append_assoc, append-nil, add-one}
use Rattle.std.specs.Prelude.{option_to_list, IfSome, IsErrAnd}
use Rattle.std.proofs.lemmas.List.{map-append, take_min}
use Rattle.std.proofs.lemmas.List.Elements.{All-nil, All-cons, All-append, All-weaker}
use Rattle.smt_lex.specs.Forms.{Form, Forms, none, ◌⨾◌, as_forms}
use Rattle.smt_lex.specs.Forest.{Source}
use Rattle.smt_lex.specs.Lex.{Token, line_at}
use Rattle.smt_lex.specs.Lexicon.{line_feed}
use Rattle.smt_terms.specs.Fresh.{Supply}
use Rattle.smt_terms.specs.Term.{Term}
use Rattle.term_table.specs.Formulas.{Formulas}
use Rattle.term_walk.specs.Walking.{GrowsTo}
use Rattle.script_read.specs.declared.scripts.Command.{Command}
use Rattle.script_read.specs.declared.session.Session.{Session}
use Rattle.script_read.specs.declared.scripts.Script.{Script}
use Rattle.script_terms.specs.declared.faults.Refusal.{Refusal as RefusalOf}
use Rattle.script_terms.specs.declared.faults.ReadFault.{ReadFault}
use Rattle.script_terms.specs.declared.faults.ReadFault.TheVariants.{Refused as RefusedFor, Memory}
use Rattle.script_terms.specs.declared.faults.ScriptFault.{ScriptFault}
use Rattle.script_terms.specs.declared.faults.ScriptFault.TheVariants.{Refused as RefusedScript, Memory as Unread}
use Rattle.script_read.specs.CommandLists.{command_of, commands_of, IsCommandOf, AreCommandsOf, IsRefusal, ReadsScript}
use Rattle.script_read.specs.Commands.{Command as CommandOf}
use Rattle.script_terms.specs.Known.{nothing_known}
use Rattle.script_terms.specs.Places.{IsRead, forms_from}
use Rattle.script_terms.specs.Refusals.{Refused, and_then, mapped, Unaccepted, refused as refused_text}
use Rattle.script_terms.specs.Replies.{refused_seen, Refuses}
use Rattle.script_read.specs.Script.{Standing, Step, read_command, Numbered, numbered, behind, read_commands, fresh, first_standing, commands_or_refusal, read_forms, script, refusal}
use Rattle.script_read.specs.ScriptSteps.{IsScriptFault, ReadsCommands}
use Rattle.script_read.specs.Steps.{StandsAt, Steps}
use Rattle.script_read.proofs.CommandsStay.{command_within, command_stays}
use Rattle.script_terms.proofs.Grown.{same_map}
use Rattle.script_terms.proofs.Showing.{shows_nothing}

-- ---- commands that were read

module _ (t u : Formulas) (grows : GrowsTo t u) where
  module _ (cs new : List Command) (o : Option Command) (are : AreCommandsOf t cs) (is : new ≡ cs ++ option_to_list o) where
    pub commands_more : commands_of u new ≡ commands_of t cs ++ commands_of u (option_to_list o)
    commands_more =
        ap (commands_of u) is ∙ map-append (command_of u) cs (option_to_list o)
        ∙ ap (λ ds. ds ++ commands_of u (option_to_list o)) (same_map (command_of u) (command_of t) cs (All-weaker (IsCommandOf t) (λ c. command_of u c ≡ command_of t c) (command_stays t u grows) cs are))

    given_within : (p : Option Command) → IfSome p (IsCommandOf u) → AreCommandsOf u (option_to_list p)
    given_within None given = All-nil (IsCommandOf u)
    given_within (Some c) given = All-cons (IsCommandOf u) c [] given (All-nil (IsCommandOf u))

    pub commands_within : IfSome o (IsCommandOf u) → AreCommandsOf u new
    commands_within given = subst (AreCommandsOf u) (sym is) (All-append (IsCommandOf u) cs (option_to_list o) (All-weaker (IsCommandOf t) (IsCommandOf u) (command_within t u grows) cs are) (given_within o given))

-- ---- what is left to read

abbrev Answer : Type 0
Answer = Result (List (CommandOf Term) × Supply) Unaccepted

abbrev pub Outcome : Type 0
Outcome = Result (List (CommandOf Term) × Supply) Numbered

mapped_none : (r : Outcome) → r ≡ mapped (behind []) r
mapped_none (Ok p) = refl
mapped_none (Err e) = refl

mapped_more : (first cs : List (CommandOf Term)) (r : Outcome) → mapped (behind first) (mapped (behind cs) r) ≡ mapped (behind (first ++ cs)) r
mapped_more first cs (Ok p) = ap (λ ds. Ok (ds, p.1)) (sym (append_assoc first cs p.0))
mapped_more first cs (Err e) = refl

module _ (whole : Outcome) (first : List (CommandOf Term)) (i : ℕ) (fs : Forms) (s : Standing) (before : whole ≡ mapped (behind first) (read_commands i fs s)) where
  module _ (f : Form) (gs : Forms) (is : fs ≡ f ⨾ gs) where
    abbrev goes_on : Step → Outcome
    goes_on r = mapped (behind first) (and_then (λ p. mapped (behind p.0) (read_commands (suc i) gs p.1)) (numbered i r))

    at_command : whole ≡ goes_on (read_command f s)
    at_command = before ∙ ap (λ hs. mapped (behind first) (read_commands i hs s)) is

    pub one_command : (cs : List (CommandOf Term)) (next : Standing) → read_command f s ≡ Ok (cs, next) → whole ≡ mapped (behind (first ++ cs)) (read_commands (suc i) gs next)
    one_command cs next here = at_command ∙ ap goes_on here ∙ mapped_more first cs (read_commands (suc i) gs next)

    pub command_refused : (e : Refused) → read_command f s ≡ Err e → whole ≡ Err (record { command = i; refused = e })
    command_refused e refused = at_command ∙ ap goes_on refused

  pub all_read : fs ≡ none → whole ≡ Ok (first, s.sofar.supply)
  all_read is = before ∙ ap (λ hs. mapped (behind first) (read_commands i hs s)) is ∙ ap (λ cs. Ok (cs, s.sofar.supply)) (append-nil first)

-- the commands so far, and what is known behind them
pub record Going (t : Formulas) (x : Session) (cs : List Command) (ts : List Token) (read i : ℕ) (whole : Outcome) : Type 0 where
  pub standing : Standing
  pub stands : StandsAt t x standing
  pub left : whole ≡ mapped (behind (commands_of t cs)) (read_commands (suc read) (forms_from ts i) standing)

pub going_begun : (t : Formulas) (x : Session) (s : Standing) (cs : List Command) (ts : List Token) → StandsAt t x s → cs ≡ [] → Going t x cs ts 0 0 (read_commands 1 (forms_from ts 0) s)
going_begun t x s cs ts stands is = record {
  standing = s;
  stands = stands;
  left = mapped_none (read_commands 1 (forms_from ts 0) s) ∙ ap (λ ds. mapped (behind (commands_of t ds)) (read_commands 1 (forms_from ts 0) s)) (sym is);
}

module _ (t u : Formulas) (x : Session) (cs : List Command) (ts : List Token) (read i j : ℕ) (whole : Outcome) (going : Going t x cs ts read i whole) (f : Form) (begins : forms_from ts i ≡ f ⨾ forms_from ts j) where
  pub going_on : GrowsTo t u → AreCommandsOf t cs → (y : Session) (new : List Command) (o : Option Command) (here next : ℕ) → new ≡ cs ++ option_to_list o → Steps u y (option_to_list o) (read_command f going.standing) → here ≡ read + 1 → next ≡ j → Going u y new ts here next whole
  going_on grows are y new o here next is steps here_is next_is = record {
    standing = steps.standing;
    stands = steps.stands;
    left =
        one_command whole (commands_of t cs) (suc read) (forms_from ts i) going.standing going.left f (forms_from ts j) begins (commands_of u (option_to_list o)) steps.standing steps.gives
        ∙ ap (λ ds. mapped (behind ds) (read_commands (suc (suc read)) (forms_from ts j) steps.standing)) (sym (commands_more t u grows cs new o are is))
        ∙ ap (λ k. mapped (behind (commands_of u new)) (read_commands (suc k) (forms_from ts j) steps.standing)) (sym (here_is ∙ add-one read))
        ∙ ap (λ k. mapped (behind (commands_of u new)) (read_commands (suc here) (forms_from ts k) steps.standing)) (sym next_is);
  }

  -- the command is refused, and so is the text
  pub going_refused : (bytes : List ℕ) (left : Supply) (number : ℕ) (e : ReadFault) (r : ScriptFault) → number ≡ read + 1 → Refuses (read_command f going.standing) e → IsScriptFault bytes number e r → ReadsCommands u bytes left whole (Err r)
  going_refused bytes left number Memory Unread number_is refused is = tt
  going_refused bytes left number Memory (RefusedScript r) number_is refused is = absurd (cc)
  going_refused bytes left number (RefusedFor e) Unread number_is refused is = absurd is
  going_refused bytes left number (RefusedFor e) (RefusedScript r) number_is refused is =
      subst (λ (o : Outcome). IsErrAnd o (λ n. IsRefusal r (refused_text (refusal bytes n))))
      (sym (command_refused whole (commands_of t cs) (suc read) (forms_from ts i) going.standing going.left f (forms_from ts j) begins (refused_seen e) refused))
      (is.code, is.command ∙ number_is ∙ add-one read, is.line, is.byte)

-- ---- lines

pub line_past : (bytes : List ℕ) (place : ℕ) → line_at bytes (min place (length bytes)) ≡ line_at bytes place
line_past bytes place = ap (λ bs. suc (count_by (λ b. b == line_feed) bs)) (take_min place bytes)

-- ---- a text

pub script_is : (source : Source) → IsRead source → script source.bytes ≡ commands_or_refusal source.bytes (read_commands 1 (forms_from source.tokens 0) (first_standing (forms_from source.tokens 0)))
unfolding forms_from
script_is source read = ap (λ r. read_forms source.bytes (as_forms r)) read

pub first_stands : (t : Formulas) (fs : Forms) (names : Supply) → names ≡ fresh fs → StandsAt t (record { sofar = record { scope = nothing_known; fresh = names }; global = false; begun = false; asserted = 0 }) (first_standing fs)
first_stands t fs names is = record { shows = shows_nothing t names; supply = sym is; global = refl; begun = refl; asserted = refl }

-- ---- answers

refusal_told : (bytes : List ℕ) (r : RefusalOf) (whole : Outcome) → IsErrAnd whole (λ n. IsRefusal r (refused_text (refusal bytes n))) → IsErrAnd (commands_or_refusal bytes whole) (IsRefusal r)
refusal_told bytes r (Ok p) is = absurd is
refusal_told bytes r (Err n) is = is

module _ (t : Formulas) (source : Source) (read : IsRead source) where
  abbrev commands_read : Outcome
  commands_read = read_commands 1 (forms_from source.tokens 0) (first_standing (forms_from source.tokens 0))

  fault_told : (left : Supply) (e : ScriptFault) → ReadsCommands t source.bytes left commands_read (Err e) → ReadsScript t source.bytes (Err e)
  fault_told left (RefusedScript r) is = subst (λ (a : Answer). IsErrAnd a (IsRefusal r)) (sym (script_is source read)) (refusal_told source.bytes r commands_read is)
  fault_told left Unread is = tt

  pub script_refused : (left : Supply) (e : ScriptFault) (r : Result (Script × Supply) ScriptFault) → IsErrAnd r (λ made. made ≡ e) → ReadsCommands t source.bytes left commands_read (Err e) → ReadsScript t source.bytes r
  script_refused left e (Ok a) is told = absurd is
  script_refused left e (Err made) is told = subst (λ (f : ScriptFault). ReadsScript t source.bytes (Err f)) (sym is) (fault_told left e told)

  pub script_read : (cs : List Command) (left names : Supply) → names ≡ left → ReadsCommands t source.bytes left commands_read (Ok cs) → script source.bytes ≡ Ok (commands_of t cs, names)
  script_read cs left names is told = script_is source read ∙ ap (commands_or_refusal source.bytes) told ∙ ap (λ q. Ok (commands_of t cs, q)) (sym is)
