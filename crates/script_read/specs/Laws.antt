-- Statements of the laws of reading.
use Rattle.std.specs.Prelude.{◌≡◌, ◌↔◌, ℕ, List, [], ◌∷◌, ◌++◌, map, flat_map, length, None, Result, Ok, Err, is_ok, IsTrue, ⊤}
use Rattle.std.specs.List.{list_all}
use Rattle.smt_lex.specs.declared.items.Until.{Until}
use Rattle.smt_lex.specs.Forms.{Form, tokens_of}
use Rattle.smt_lex.specs.Lex.{Token, IsOneSymbol, lex}
use Rattle.smt_lex.specs.Names.{Name, IsName, printed_symbol}
use Rattle.smt_lex.proofs.Joining.{spaced, placed}
use Rattle.smt_terms.specs.Fresh.{Supply}
use Rattle.smt_terms.specs.Models.{Model}
use Rattle.smt_terms.specs.Rank.{sort_of, is_well_sorted}
use Rattle.smt_terms.specs.Sorts.{bool}
use Rattle.smt_terms.specs.SubstLaws.{names_within, GivesNone}
use Rattle.smt_terms.specs.Term.{Term}
use Rattle.smt_terms.specs.Val.{Env, no_variables, val}
use Rattle.smt_terms.specs.Written.{Written, build}
use Rattle.smt_terms.specs.Shapes.{is_clear}
use Rattle.script_read.specs.Commands.{Command, declare, assert, check_assuming, with_asserted, kinds, live, literals, signature, all_asserted, all_assumed}
use Rattle.script_terms.specs.Heads.{term_algebra}
use Rattle.script_read.specs.Mean.{Denoted, value_algebra, mean, meaning}
use Rattle.script_read.specs.Printable.{printable}
use Rattle.script_terms.specs.Refusals.{Refused}
use Rattle.script_terms.specs.Read.{Context, has_sort, read}
use Rattle.script_terms.specs.Reading.{as_local, as_bindings, Sofar}
use Rattle.script_read.specs.Satisfied.{sat}
use Rattle.script_read.specs.Scenes.{naming, Asserted, forms_script, holds}
use Rattle.script_terms.specs.Scope.{Binding}
use Rattle.script_read.specs.Script.{script, fault}

-- a symbol's printed text is read as that one symbol
abbrev pub PrintedSymbolsAreRead : Type 0
PrintedSymbolsAreRead = (name : Name) → IsName name → IsOneSymbol (printed_symbol name) name

-- the tokens of a text's forms, written one after the other with a space behind each, are read as the same tokens
abbrev pub WrittenTokensAreRead : Type 0
WrittenTokensAreRead = (until : Until) (bytes : List ℕ) (ts : List Token) → tokens_of until bytes ≡ Ok ts → lex (spaced ts) ≡ placed 0 ts

-- what is known after a reading, if it gives something, are these bindings
abbrev pub LeadsTo : {A : Type 0} → Result (A × Sofar) Refused → List Binding → Type 0
LeadsTo (Ok p) bs = as_bindings p.1.live ≡ bs
LeadsTo (Err refused) bs = ⊤

-- reading a term binds the names that its form gives, and nothing else
abbrev pub ReadingNames : Type 0
ReadingNames = (f : Form) (c : Context) (s : Sofar) → LeadsTo (read f c s) (naming f (map as_local c.locals) (as_bindings s.live))

abbrev pub blank : {A : Type 0} → A → ⊤
blank a = tt

-- commands without what they assert and assume
abbrev pub bare : {A : Type 0} → List (Command A) → List (Command ⊤)
bare cs = map (with_asserted blank) cs

-- the commands with terms of an accepted text are those with forms, one by one
abbrev pub SameCommands : Type 0
SameCommands = (b : List ℕ) (r : List (Command Term) × Supply) → script b ≡ Ok r → bare r.0 ≡ bare (forms_script b)

-- and so they have the same points, with the same signatures and as many live assertions
pub record SamePoints (b : List ℕ) (cs : List (Command Term)) : Type 0 where
  pub kinds : kinds cs ≡ kinds (forms_script b)
  pub signatures : (k : ℕ) → signature cs k ≡ signature (forms_script b) k
  pub live : (k : ℕ) → length (live cs k) ≡ length (live (forms_script b) k)

abbrev pub PointsAgree : Type 0
PointsAgree = (b : List ℕ) (r : List (Command Term) × Supply) → script b ≡ Ok r → SamePoints b r.0

-- a text is accepted, or there is a reason why it isn't
abbrev pub ReadingAnswers : Type 0
ReadingAnswers = (b : List ℕ) → IsTrue (is_ok (script b)) ↔ (fault b ≡ None)

-- ---- written operators

-- what a term denotes under values of the quantified variables
abbrev pub denoted : Model → Env → Term → Denoted
denoted m e t = (val m t e, sort_of t)

-- a written operator means over values what the term means that it is made into
abbrev pub WrittenMeaning : Type 0
WrittenMeaning = (m : Model) (e : Env) (w : Written) (ts : List Term) → build (value_algebra m) w (map (denoted m e) ts) ≡ denoted m e (build term_algebra w ts)

-- ---- the meaning of what is read

-- what an asserted form means
abbrev pub form_denoted : Model → Asserted → Denoted
form_denoted m a = mean a.form (meaning a.bindings m) m

-- the terms of point k have in a model the values and the sorts that the text's forms mean, one by one; they are
-- well-sorted truth values, and so the model satisfies the one where it satisfies the other
pub record SameMeaning (b : List ℕ) (cs : List (Command Term)) (m : Model) (k : ℕ) : Type 0 where
  pub asserted : map (form_denoted m) (live (forms_script b) k) ≡ map (denoted m no_variables) (live cs k)
  pub assumed : map (form_denoted m) (literals (forms_script b) k) ≡ map (denoted m no_variables) (literals cs k)
  pub truth_values : IsTrue (list_all (has_sort bool) (live cs k ++ literals cs k))
  pub well_sorted : IsTrue (list_all is_well_sorted (live cs k ++ literals cs k))
  pub satisfied : holds m b k ≡ sat m cs k

abbrev pub ReadingKeepsMeaning : Type 0
ReadingKeepsMeaning = (b : List ℕ) (r : List (Command Term) × Supply) → script b ≡ Ok r → (m : Model) (k : ℕ) → SameMeaning b r.0 m k

-- all terms that are asserted, and all literals of the checks, live at a point or not, have in a model the values and the
-- sorts that the text's forms mean, one by one, and are well-sorted truth values
pub record SameMeaningEverywhere (b : List ℕ) (cs : List (Command Term)) (m : Model) : Type 0 where
  pub asserted : map (form_denoted m) (all_asserted (forms_script b)) ≡ map (denoted m no_variables) (all_asserted cs)
  pub assumed : map (form_denoted m) (all_assumed (forms_script b)) ≡ map (denoted m no_variables) (all_assumed cs)
  pub truth_values : IsTrue (list_all (has_sort bool) (all_asserted cs ++ all_assumed cs))
  pub well_sorted : IsTrue (list_all is_well_sorted (all_asserted cs ++ all_assumed cs))

abbrev pub EachTermKeepsMeaning : Type 0
EachTermKeepsMeaning = (b : List ℕ) (r : List (Command Term) × Supply) → script b ≡ Ok r → (m : Model) → SameMeaningEverywhere b r.0 m

-- the terms of every point have clear names
abbrev pub ReadTermsAreClear : Type 0
ReadTermsAreClear = (b : List ℕ) (r : List (Command Term) × Supply) → script b ≡ Ok r → (k : ℕ) → IsTrue (list_all is_clear (live r.0 k ++ literals r.0 k))

-- ---- what is read can be printed, and its names aren't drawn again

-- the commands of an accepted text can be printed and read again
abbrev pub ReadScriptsArePrintable : Type 0
ReadScriptsArePrintable = (b : List ℕ) (r : List (Command Term) × Supply) → script b ≡ Ok r → IsTrue (printable r.0)

-- the names of the symbols of a command: of the one that it declares, and of those in its term or its literals, quantified
-- variables included
abbrev pub names_in_command : Command Term → List Name
names_in_command (declare f) = f.name ∷ []
names_in_command (assert i t) = names_within t
names_in_command (check_assuming ls) = flat_map names_within ls
names_in_command _ = []

-- the supply gives no name that stands in these commands
abbrev pub GivesNoNameOf : Supply → List (Command Term) → Type 0
GivesNoNameOf s cs = GivesNone s (flat_map names_in_command cs)

-- the names that are left to draw are new in the commands of an accepted text
abbrev pub NamesLeftAreNew : Type 0
NamesLeftAreNew = (b : List ℕ) (r : List (Command Term) × Supply) → script b ≡ Ok r → GivesNoNameOf r.1 r.0
