use Rattle.std.proofs.Common.{not, sym, ◌∙◌, ap, arith}
use Rattle.std.proofs.lemmas.List.{take_rest}
use Rattle.smt_lex.specs.declared.classes.Class.TheVariants.{Digit, Colon, Hash, Quote, Bar, Semicolon, Other}
use Rattle.smt_lex.specs.declared.fronts.Front.TheVariants.{Gap}
use Rattle.smt_lex.specs.Lexicon.{is_line_end, length_while}
use Rattle.smt_lex.specs.Lex.{literal_front, quoted_front}
use Rattle.smt_lex.proofs.ClassFacts.{other_by}
use Rattle.smt_lex.proofs.Words.{front_first}
use Rattle.smt_lex.proofs.fronts.front_of.Goals as goal

pub returns-in-Semicolon-clause-value : goal.returns-in-Semicolon-clause-value
returns-in-Semicolon-clause-value c =
    let rest = ap (length_while (λ b. not (is_line_end b))) (take_rest c.args.text.now 1) in
    ap Gap (omega (arith, c.line_length.ensures.longest, rest)) ∙ sym (front_first c.args.text.now Semicolon c.requires.some (sym c.class_of.ensures ∙ c.in-Semicolon.is))

pub returns-in-Quote-clause-value : goal.returns-in-Quote-clause-value
returns-in-Quote-clause-value c = c.literal_front.ensures.value ∙ ap literal_front (take_rest c.args.text.now 1) ∙ sym (front_first c.args.text.now Quote c.requires.some (sym c.class_of.ensures ∙ c.in-Quote.is))

pub returns-in-Bar-clause-value : goal.returns-in-Bar-clause-value
returns-in-Bar-clause-value c = c.quoted_front.ensures.value ∙ ap quoted_front (take_rest c.args.text.now 1) ∙ sym (front_first c.args.text.now Bar c.requires.some (sym c.class_of.ensures ∙ c.in-Bar.is))

pub returns-in-Digit-clause-value : goal.returns-in-Digit-clause-value
returns-in-Digit-clause-value c = c.digit_front.ensures.value ∙ sym (front_first c.args.text.now Digit c.requires.some (sym c.class_of.ensures ∙ c.in-Digit.is))

pub returns-in-Hash-clause-value : goal.returns-in-Hash-clause-value
returns-in-Hash-clause-value c = c.hash_front.ensures.value ∙ sym (front_first c.args.text.now Hash c.requires.some (sym c.class_of.ensures ∙ c.in-Hash.is))

pub returns-in-Colon-clause-value : goal.returns-in-Colon-clause-value
returns-in-Colon-clause-value c = c.run_front.ensures.value ∙ sym (front_first c.args.text.now Colon c.requires.some (sym c.class_of.ensures ∙ c.in-Colon.is))

pub returns-in_default-clause-value : goal.returns-in_default-clause-value
returns-in_default-clause-value c =
    let class = sym c.class_of.ensures in
    sym (front_first c.args.text.now Other c.requires.some (class ∙ other_by c.class_of.result
    (λ is. c.requires.left (class ∙ is)) (λ is. c.requires.right (class ∙ is)) (λ is. c.requires.blank (class ∙ is)) (λ is. c.requires.letter (class ∙ is))
    c.in_default.not-Digit c.in_default.not-Colon c.in_default.not-Hash c.in_default.not-Quote c.in_default.not-Bar c.in_default.not-Semicolon))
