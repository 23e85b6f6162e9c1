-- A removal of applications goes over a command that asserts nothing.
use Rattle.std.proofs.Common.{◌≡◌, ◌∙◌, ap, sym, refl, subst, ℕ, Bool, true, false, List, [], ◌∷◌, ◌++◌, map, Option, Some, None, All}
use Rattle.std.specs.Prelude.{option_to_list}
use Rattle.std.specs.List.{list_any}
use Rattle.std.proofs.lemmas.List.Elements.{All-cons, All-nil}
use Rattle.smt_terms.specs.declared.ids.NodeId.{NodeId}
use Rattle.smt_terms.specs.Fresh.{Supply}
use Rattle.smt_terms.specs.Sorts.{Sort, Symbol}
use Rattle.smt_terms.specs.Term.{Term}
use Rattle.smt_terms.proofs.Tests.{contrary}
use Rattle.normal_forms.specs.Nodes.{IsFormula}
use Rattle.term_table.specs.Formulas.{Formulas, symbol_at, trees_at}
use Rattle.ackermann.specs.LevelsAt.{open_levels}
use Rattle.script_read.specs.declared.scripts.Command.{Command}
use Rattle.script_read.specs.declared.scripts.Command.TheVariants.{Passed, DeclareSort, Declare, Assert, Check, CheckAssuming, Push, Pop, Reset, ResetAssertions, Globals, Exit}
use Rattle.script_read.specs.CommandLists.{command_of, commands_of, IsCommandOf}
use Rattle.script_read.specs.Commands.{Command as CommandOf, check_assuming, assert, with_asserted}
use Rattle.pass_laws.specs.declared.names.Pass.TheVariants.{Ackermann}
use Rattle.passes.specs.declared.plan.Step.{Step}
use Rattle.passes.specs.declared.plan.Step.TheVariants.{Declare as DeclareStep, Group, Check as CheckStep, Push as PushStep, Pop as PopStep, Reset as ResetStep, ResetAssertions as ResetAssertionsStep, Globals as GlobalsStep}
use Rattle.passes.specs.declared.removing.Removal.{Removal}
use Rattle.pass_laws.specs.Behind.{IsRewritable}
use Rattle.pass_laws.specs.LiveGroups.{Drawn, told_function, told, opened_by, operands_behind}
use Rattle.pass_laws.specs.Passed.{Replacement, Way, literal_kept, onward, turn, written, quantified_use}
use Rattle.passes.specs.Plans.{steps_of, told_by, Uses, HaveUses}
use Rattle.passes.specs.Removing.{operands_kept, kept_of, way_of, Goes}

abbrev IsOther : Command → Type 0
IsOther c = (id : NodeId) (number : ℕ) → c ≡ Assert id number → ⊥

-- ---- what a command tells

asserts : CommandOf Drawn → Bool
asserts (assert i d) = true
asserts _ = false

tells_none : (ss : List Sort) (f : Symbol) → list_any asserts (told_function ss f) ≡ false
unfolding asserts
tells_none [] f = refl
tells_none (s ∷ ss) f = refl

no_assertion : (t : Formulas) (c : Command) → list_any asserts (told_by t c) ≡ false
unfolding asserts
no_assertion t (Passed text) = refl
no_assertion t (DeclareSort k) = refl
no_assertion t (Declare f) = tells_none (symbol_at t f).args (symbol_at t f)
no_assertion t (Assert id number) = refl
no_assertion t Check = refl
no_assertion t (CheckAssuming ids) = refl
no_assertion t (Push n) = refl
no_assertion t (Pop n) = refl
no_assertion t Reset = refl
no_assertion t ResetAssertions = refl
no_assertion t (Globals b) = refl
no_assertion t Exit = refl

-- its step has no symbols
pub step-uses : (t : Formulas) (c : Command) (uses : Option Uses) (o : Option Step) → steps_of t (option_to_list o) ≡ told_by t c → All (HaveUses t uses) (option_to_list o)
unfolding asserts
step-uses t c uses None is = All-nil (HaveUses t uses)
step-uses t c uses (Some (Group number symbols)) is = contrary (list_any asserts (told_by t c)) (sym (ap (list_any asserts) is)) (no_assertion t c)
step-uses t c uses (Some (DeclareStep f)) is = All-cons (HaveUses t uses) (DeclareStep f) [] tt (All-nil (HaveUses t uses))
step-uses t c uses (Some CheckStep) is = All-cons (HaveUses t uses) CheckStep [] tt (All-nil (HaveUses t uses))
step-uses t c uses (Some (PushStep n)) is = All-cons (HaveUses t uses) (PushStep n) [] tt (All-nil (HaveUses t uses))
step-uses t c uses (Some (PopStep n)) is = All-cons (HaveUses t uses) (PopStep n) [] tt (All-nil (HaveUses t uses))
step-uses t c uses (Some ResetStep) is = All-cons (HaveUses t uses) ResetStep [] tt (All-nil (HaveUses t uses))
step-uses t c uses (Some ResetAssertionsStep) is = All-cons (HaveUses t uses) ResetAssertionsStep [] tt (All-nil (HaveUses t uses))
step-uses t c uses (Some (GlobalsStep b)) is = All-cons (HaveUses t uses) (GlobalsStep b) [] tt (All-nil (HaveUses t uses))

-- ---- what becomes of it

literals_stay : (ls : List Term) → map (λ (r : Replacement). r.term) (map literal_kept ls) ≡ ls
literals_stay [] = refl
literals_stay (l ∷ ls) = ap (λ ms. l ∷ ms) (literals_stay ls)

turned : (t : Formulas) (c : Command) → IsOther c → (w : Way) → turn Ackermann (command_of t c) w ≡ (with_asserted literal_kept (command_of t c), onward (command_of t c) w)
turned t (Passed text) other w = refl
turned t (DeclareSort k) other w = refl
turned t (Declare f) other w = refl
turned t (Assert id number) other w = absurd (other id number refl)
turned t Check other w = refl
turned t (CheckAssuming ids) other w = refl
turned t (Push n) other w = refl
turned t (Pop n) other w = refl
turned t Reset other w = refl
turned t ResetAssertions other w = refl
turned t (Globals b) other w = refl
turned t Exit other w = refl

written-other : (t : Formulas) (c : Command) → IsOther c → written Ackermann (with_asserted literal_kept (command_of t c)) ≡ kept_of (command_of t c)
written-other t (Passed text) other = refl
written-other t (DeclareSort k) other = refl
written-other t (Declare f) other = refl
written-other t (Assert id number) other = absurd (other id number refl)
written-other t Check other = refl
written-other t (CheckAssuming ids) other = ap (λ ls. check_assuming ls ∷ []) (literals_stay (trees_at t ids))
written-other t (Push n) other = refl
written-other t (Pop n) other = refl
written-other t Reset other = refl
written-other t ResetAssertions other = refl
written-other t (Globals b) other = refl
written-other t Exit other = refl

told-other : (t : Formulas) (c : Command) → IsOther c → told (with_asserted literal_kept (command_of t c)) ≡ told_by t c
told-other t (Passed text) other = refl
told-other t (DeclareSort k) other = refl
told-other t (Declare f) other = refl
told-other t (Assert id number) other = absurd (other id number refl)
told-other t Check other = refl
told-other t (CheckAssuming ids) other = refl
told-other t (Push n) other = refl
told-other t (Pop n) other = refl
told-other t Reset other = refl
told-other t ResetAssertions other = refl
told-other t (Globals b) other = refl
told-other t Exit other = refl

operands-other : (t : Formulas) (c : Command) → IsOther c → (ps : List (Symbol × List Term)) (w : Way) → operands_behind ps (command_of t c ∷ []) w ≡ ps
operands-other t (Passed text) other ps w = refl
operands-other t (DeclareSort k) other ps w = refl
operands-other t (Declare f) other ps w = refl
operands-other t (Assert id number) other ps w = absurd (other id number refl)
operands-other t Check other ps w = refl
operands-other t (CheckAssuming ids) other ps w = refl
operands-other t (Push n) other ps w = refl
operands-other t (Pop n) other ps w = refl
operands-other t Reset other ps w = refl
operands-other t ResetAssertions other ps w = refl
operands-other t (Globals b) other ps w = refl
operands-other t Exit other ps w = refl

pub refused-other : (t : Formulas) (c : Command) → IsOther c → quantified_use (command_of t c) ≡ []
refused-other t (Passed text) other = refl
refused-other t (DeclareSort k) other = refl
refused-other t (Declare f) other = refl
refused-other t (Assert id number) other = absurd (other id number refl)
refused-other t Check other = refl
refused-other t (CheckAssuming ids) other = refl
refused-other t (Push n) other = refl
refused-other t (Pop n) other = refl
refused-other t Reset other = refl
refused-other t ResetAssertions other = refl
refused-other t (Globals b) other = refl
refused-other t Exit other = refl

module _ (t : Formulas) (s : Supply) (c : Command) (other : IsOther c) (old new : Removal) (uses : new.uses ≡ old.uses) where
  pub other-goes : commands_of t new.commands ≡ commands_of t old.commands ++ kept_of (command_of t c)
      → steps_of t new.steps.items ≡ steps_of t old.steps.items ++ told_by t c
      → onward (command_of t c) (way_of t old s) ≡ way_of t new s
      → open_levels new.ack ≡ opened_by (command_of t c) (open_levels old.ack)
      → Goes t t (command_of t c) s s old new
  other-goes commands steps way opened =
      let same = turned t c other (way_of t old s) in
      record {
        commands = commands ∙ ap (λ ds. commands_of t old.commands ++ ds) (sym (ap (λ r. written Ackermann r.0) same ∙ written-other t c other));
        steps = steps ∙ ap (λ ds. steps_of t old.steps.items ++ ds) (sym (ap (λ r. told r.0) same ∙ told-other t c other));
        way = sym way ∙ ap (λ r. r.1) (sym same);
        operands = ap (λ es. operands_kept t [] es.entries) uses ∙ sym (operands-other t c other (operands_kept t [] old.uses.entries) (way_of t old s));
        opened = opened;
      }

-- an assertion that may be rewritten asserts a formula
pub formula-of : (t : Formulas) (s : Supply) (c : Command) (id : NodeId) (number : ℕ) → c ≡ Assert id number → IsCommandOf t c → IsRewritable s (command_of t c) → IsFormula t id
formula-of t s c id number is within ready =
    record {
      node = subst (IsCommandOf t) is within;
      sort = (subst (λ d. IsRewritable s (command_of t d)) is ready).0;
    }
