-- The words that are no options, as the code holds them.
use Rattle.std.proofs.Common.{◌≡◌, ◌==◌, ℕ, true, false, nat_le, List, [], ◌∷◌, length, Some, Err, refl, sym, ap, subst}
use Rattle.smtrw_answers.specs.declared.grammar.Name.{Name}
use Rattle.smtrw_answers.specs.declared.grammar.Name.TheVariants.{Rewrite, Translate, Extend, Blast, Unblast, Dimacs, Answer, Stats, Demo}
use Rattle.smtrw_answers.specs.declared.grammar.Operands.TheVariants.{Absent, One, Two}
use Rattle.smtrw_answers.specs.declared.grammar.Seen.{Seen}
use Rattle.smtrw_answers.specs.declared.status.Usage.{Usage}
use Rattle.smtrw_answers.specs.declared.status.Why.TheVariants.{Extra}
use Rattle.smtrw_answers.specs.Words.{Word, Numbered, Command, Given, needed, plain_word}
use Rattle.smtrw_answers.specs.Asking.{HasOperands, StepFits, TakesOperand, command_of}

needs_one : (c : Name) → nat_le (needed (command_of c)) 0 ≡ false
needs_one Rewrite = refl
needs_one Translate = refl
needs_one Extend = refl
needs_one Blast = refl
needs_one Unblast = refl
needs_one Dimacs = refl
needs_one Answer = refl
needs_one Stats = refl
needs_one Demo = refl

pub first_operand : (c : Name) (plain : List Numbered) (f : Numbered) (i : ℕ) → HasOperands Absent plain → f.number ≡ i → TakesOperand (command_of c) plain f (Some (One i))
first_operand c plain f i is number =
    subst (λ ws. TakesOperand (command_of c) ws f (Some (One i))) (sym is) (needs_one c, (f.word, ap (λ j. record { number = j; word = f.word } ∷ []) number))

needs_two : (c : Name) → nat_le 2 (needed (command_of c)) ≡ true → nat_le (needed (command_of c)) 1 ≡ false
needs_two Rewrite two = absurd cc
needs_two Translate two = refl
needs_two Extend two = refl
needs_two Blast two = absurd cc
needs_two Unblast two = refl
needs_two Dimacs two = absurd cc
needs_two Answer two = refl
needs_two Stats two = absurd cc
needs_two Demo two = refl

pub second_operand : (c : Name) (plain : List Numbered) (f : Numbered) (i j : ℕ) → nat_le 2 (needed (command_of c)) ≡ true → HasOperands (One i) plain → f.number ≡ j
    → TakesOperand (command_of c) plain f (Some (Two i j))
second_operand c plain f i j two (w, is) number =
    subst (λ ws. TakesOperand (command_of c) ws f (Some (Two i j))) (sym is)
    (needs_two c two, (w, f.word, ap (λ n. record { number = i; word = w } ∷ record { number = n; word = f.word } ∷ []) number))

pub too_many : (s : Seen) (c : Command) (i : ℕ) (w : Word) (g : Given) (u : Usage) → u ≡ record { word = i; why = Extra } → false ≡ (length w == 0)
    → nat_le (needed c) (length g.plain) ≡ true → StepFits s (Err u) (plain_word c i w g)
too_many s c i [] g u is some full = absurd cc
too_many s c i (b ∷ bs) g u is some full = rw full is
