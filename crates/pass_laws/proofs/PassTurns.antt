-- A pass turns each command into one.
use Rattle.std.proofs.Common.{◌≡◌, sym, ap, refl, ℕ, List, [], ◌∷◌, ◌++◌, map, true, subst}
use Rattle.std.specs.Prelude.{flat_map}
use Rattle.smt_terms.specs.Term.{Term}
use Rattle.smt_terms.specs.Fresh.{Supply}
use Rattle.script_read.specs.Commands.{Command, declare, assert, check_assuming, push, pop, reset, reset_assertions, with_asserted}
use Rattle.pass_laws.specs.declared.names.Pass.{Pass}
use Rattle.pass_laws.specs.Passed.{Way, in_place, Replacement, literal_kept, onward, behind, replacements_from, group_commands, written}
use Rattle.pass_laws.proofs.Assertions.{Rule}
use Rattle.pass_laws.proofs.Outlines.{asserts_nothing}
use Rattle.pass_laws.proofs.Walked.{TurnsInto, EachTurnsInto}

terms_kept : (ls : List Term) → map (λ (r : Replacement). r.term) (map literal_kept ls) ≡ ls
terms_kept [] = refl
terms_kept (l ∷ ls) = ap (λ more. l ∷ more) (terms_kept ls)

names_onward : (c : Command Term) (w : Way) → (onward c w).names ≡ w.names
names_onward (push n) w = refl
names_onward (pop n) w = refl
names_onward reset w = refl
names_onward reset_assertions w = refl
names_onward _ w = refl

turns_itself : (c : Command Term) (w r : Supply) → asserts_nothing c ≡ true → r ≡ w → TurnsInto c w c r
turns_itself (assert i t) w r plain is = absurd cc
turns_itself _ w r plain is = (refl, is)

module _ (p : Pass) (rule : Rule p) where
  abbrev Turns : List (Command Term) → Supply → List (Command Replacement) × Supply → Type 0
  Turns cs w r = EachTurnsInto cs w (flat_map (written p) r.0) r.1

  written_plain : (c : Command Term) → asserts_nothing c ≡ true → written p (with_asserted literal_kept c) ≡ c ∷ []
  written_plain (assert i t) plain = absurd cc
  written_plain (declare f) plain = rule.declares f
  written_plain (check_assuming ls) plain = ap (λ ts. check_assuming ts ∷ []) (terms_kept ls)
  written_plain _ plain = refl

  plain_turns : (c : Command Term) (cs : List (Command Term)) (w : Way) → asserts_nothing c ≡ true → Turns cs (onward c w).names (replacements_from p cs (onward c w)) → Turns (c ∷ cs) w.names (behind (with_asserted literal_kept c) (replacements_from p cs (onward c w)))
  plain_turns c cs w plain below =
      let r : List (Command Replacement) × Supply = replacements_from p cs (onward c w) in
      subst (λ xs. EachTurnsInto (c ∷ cs) w.names (xs ++ flat_map (written p) r.0) r.1) (sym (written_plain c plain))
      ((onward c w).names, (turns_itself c w.names (onward c w).names plain (names_onward c w), below))

  assert_turns : (i : ℕ) (a : Term) (cs : List (Command Term)) (w : Way) → Turns cs (in_place p a w).1.names (replacements_from p cs (in_place p a w).1) → Turns (assert i a ∷ cs) w.names (replacements_from p (assert i a ∷ cs) w)
  assert_turns i a cs w below =
      let r : List (Command Replacement) × Supply = replacements_from p cs (in_place p a w).1 in
      subst (λ g. EachTurnsInto (assert i a ∷ cs) w.names (group_commands i g ++ flat_map (written p) r.0) r.1) (sym (rule.group a w))
      ((in_place p a w).1.names, ((rule.term a w, (refl, rule.replaces a w)), below))

  pub pass_turns : (cs : List (Command Term)) (w : Way) → Turns cs w.names (replacements_from p cs w)
  pass_turns [] w = refl
  pass_turns (assert i a ∷ cs) w = assert_turns i a cs w (pass_turns cs (in_place p a w).1)
  pass_turns (c ∷ cs) w = plain_turns c cs w refl (pass_turns cs (onward c w))
