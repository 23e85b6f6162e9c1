-- The literals of ready commands are formulas, whose symbols have no arguments and no name that the supply gives; and so it is at
-- each point.
use Rattle.std.proofs.Common.{◌≡◌, ◌∙◌, sym, subst, ℕ, eqb, Bool, true, false, ◌&&◌, inl, inr, List, [], ◌∷◌, length, Some, All}
use Rattle.std.specs.Prelude.{flat_map, ⊤}
use Rattle.std.specs.List.{list_all}
use Rattle.std.proofs.lemmas.List.Elements.{All-nil, All-cons}
use Rattle.smt_terms.specs.declared.op.Op.TheVariants.{Not}
use Rattle.smt_terms.specs.Free.{is_among, free}
use Rattle.smt_terms.specs.Fresh.{Supply, NeverGives}
use Rattle.smt_terms.specs.Rank.{sort_of}
use Rattle.smt_terms.specs.Shapes.{is_bool}
use Rattle.smt_terms.specs.Sorts.{bool, Symbol}
use Rattle.smt_terms.specs.SubstLaws.{names_within, GivesNone}
use Rattle.smt_terms.specs.Term.{op, symbol, Term, apply, none, ◌⨾◌}
use Rattle.smt_terms.proofs.Among.{is_among-with_more}
use Rattle.smt_terms.proofs.Substitution.{gives-left, gives-right, symbols-spared}
use Rattle.smt_terms.proofs.Tests.{both_true, either_true}
use Rattle.script_read.specs.Commands.{Command, check_assuming, State, start, after, symbols_of_state, literals}
use Rattle.script_read.specs.Laws.{names_in_command}
use Rattle.script_read.specs.Printable.{is_live_constant, is_live_literal, may_stand, fixes, may_be_followed, printable_from}
use Rattle.pass_laws.specs.Laws.{IsReady}
use Rattle.pass_laws.proofs.FittingPoints.{Fits, EachFits, fit_at}
use Rattle.pass_laws.proofs.Literals.{literal_fine, no_arguments}
use Rattle.pass_laws.proofs.ReadyLevels.{among_one}

pub record IsPlainFormula (s : Supply) (t : Term) : Type 0 where
  pub sort : sort_of t ≡ Some bool
  pub constants : (f : Symbol) → is_among (free t) f ≡ true → f.args ≡ []
  pub names : (f : Symbol) → is_among (free t) f ≡ true → NeverGives s f.name

constant_plain : (st : State Term) (t : Term) → is_live_constant st t ≡ true → (f : Symbol) → is_among (free t) f ≡ true → f.args ≡ []
constant_plain st (apply (symbol g) none) h f among =
    let parts = both_true (is_bool g.result) (eqb (length g.args) 0 && is_among (symbols_of_state st) g) h in
    let rest = both_true (eqb (length g.args) 0) (is_among (symbols_of_state st) g) parts.1 in
    subst (λ (k : Symbol). k.args ≡ []) (among_one g f among) (no_arguments g.args rest.0)
constant_plain st t h f among = absurd cc

under_not : (t : Term) (f : Symbol) → is_among (free (apply (op Not) (t ⨾ none))) f ≡ true → is_among (free t) f ≡ true
under_not t f among =
    elim (either_true (is_among (free t) f) false (sym (is_among-with_more [] _ f ∙ is_among-with_more (free t) [] f) ∙ among)) [
      | inl here ↦ here
      | inr there ↦ absurd cc
    ]

literal_plain : (st : State Term) (t : Term) → is_live_literal st t ≡ true → (f : Symbol) → is_among (free t) f ≡ true → f.args ≡ []
literal_plain st (apply (op Not) (u ⨾ none)) h f among = constant_plain st u h f (under_not u f among)
literal_plain st u h f among = constant_plain st u h f among

module _ (s : Supply) where
  literals_plain : (st : State Term) (ls : List Term) → list_all (is_live_literal st) ls ≡ true → GivesNone s (flat_map names_within ls) → All (IsPlainFormula s) ls
  literals_plain st [] all given = All-nil (IsPlainFormula s)
  literals_plain st (l ∷ ls) all given =
      let parts = both_true (is_live_literal st l) (list_all (is_live_literal st) ls) all in
      All-cons (IsPlainFormula s) l ls
      (record {
        sort = (literal_fine st l parts.0).sort;
        constants = literal_plain st l parts.0;
        names = symbols-spared s l (gives-left s (names_within l) (flat_map names_within ls) given);
      })
      (literals_plain st ls parts.1 (gives-right s (names_within l) (flat_map names_within ls) given))

  abbrev FitsPlainly : Command Term → Type 0
  FitsPlainly c = Fits Term (λ t. ⊤) (λ f. ⊤) (IsPlainFormula s) c

  command_plain : (begun : Bool) (st : State Term) (c : Command Term) → may_stand begun st c ≡ true → GivesNone s (names_in_command c) → FitsPlainly c
  command_plain begun st (check_assuming ls) h given = literals_plain st ls h given
  command_plain begun st _ h given = tt

  commands_plain : (cs : List (Command Term)) (begun : Bool) (st : State Term) → printable_from begun st cs ≡ true → GivesNone s (flat_map names_in_command cs) → EachFits Term (λ t. ⊤) (λ f. ⊤) (IsPlainFormula s) cs
  commands_plain [] begun st h given = tt
  commands_plain (c ∷ cs) begun st h given =
      let here = both_true (may_stand begun st c) (may_be_followed c cs && printable_from (fixes begun c) (after c st) cs) h in
      let there = both_true (may_be_followed c cs) (printable_from (fixes begun c) (after c st) cs) here.1 in (
        command_plain begun st c here.0 (gives-left s (names_in_command c) (flat_map names_in_command cs) given),
        commands_plain cs (fixes begun c) (after c st) there.1 (gives-right s (names_in_command c) (flat_map names_in_command cs) given),
      )

  pub plain_literals_at : (cs : List (Command Term)) → IsReady cs s → (k : ℕ) → All (IsPlainFormula s) (literals cs k)
  plain_literals_at cs ready k = (fit_at Term (λ t. ⊤) (λ f. ⊤) (IsPlainFormula s) cs (commands_plain cs false start ready.printable ready.names) k).literals
