-- Where passes may make one list of commands alone of a script, one text may be written of it.
use Rattle.std.proofs.Common.{◌≡◌, ◌∙◌, sym, ap, refl, subst, Bool, true, false, List, [], ◌∷◌}
use Rattle.std.specs.List.{list_any}
use Rattle.smt_terms.specs.Fresh.{Supply}
use Rattle.smt_terms.specs.Sorts.{Name}
use Rattle.smt_terms.specs.Term.{Term}
use Rattle.rule_book.specs.EightRules.{all_eight}
use Rattle.rule_book.specs.Ruled.{ruled}
use Rattle.script_read.specs.Commands.{Command, assert}
use Rattle.smt_print.specs.Text.{lines}
use Rattle.pass_laws.specs.declared.names.Pass.{Pass}
use Rattle.pass_laws.specs.declared.names.Pass.TheVariants.{Rules}
use Rattle.pass_laws.specs.Led.{MadeBy, MayBecome, EachMayBecome, LeadsTo}
use Rattle.pass_laws.specs.Passed.{apply_pass, passed}
use Rattle.smtrw_answers.specs.Laws.{WithoutRulesOneText, WithoutRulesOneList, EightWriteOneText}
use Rattle.smtrw_answers.specs.Outputs.{commands, names_left}
use Rattle.smtrw_answers.specs.Words.{is_rules}

-- ---- without stored rules

one_list : (ps : List Pass) (cs : List (Command Term)) (s : Supply) (rules : List Name) (ds : List (Command Term)) (r : Supply) → list_any is_rules ps ≡ false → LeadsTo ps cs s rules ds r → ds ≡ (passed ps cs s).0
one_list [] cs s rules ds r unruled led = led.0
one_list (Rules ∷ ps) cs s rules ds r unruled led = absurd cc
one_list (p ∷ ps) cs s rules ds r unruled led = one_list ps (apply_pass p cs s).0 (apply_pass p cs s).1 rules ds r unruled led

pub without_rules_list : WithoutRulesOneList
without_rules_list b ps rules cs unruled led = one_list ps (commands b) (names_left b) rules cs led.0 unruled led.1

pub without_rules : WithoutRulesOneText
without_rules b w ps rules layout unruled may = may.2 ∙ ap (λ (ds : List (Command Term)). lines layout ds) (without_rules_list b ps rules may.0 unruled may.1)

-- ---- with stored rules among the eight

made_so : (told : Bool) (rules : List Name) (t u : Term) → told ≡ true → MadeBy told rules t u → u ≡ ruled rules t
made_so true rules t u all made = made
made_so false rules t u all made = absurd cc

one_command : (rules : List Name) → all_eight rules ≡ true → (c d e : Command Term) → MayBecome rules c d → MayBecome rules c e → d ≡ e
one_command rules all (assert i t) d e first second =
    first.1 ∙ ap (λ (u : Term). assert i u) (made_so (all_eight rules) rules t first.0 all first.2 ∙ sym (made_so (all_eight rules) rules t second.0 all second.2)) ∙ sym second.1
one_command rules all _ d e first second = first ∙ sym second

one_each : (rules : List Name) → all_eight rules ≡ true → (cs ds es : List (Command Term)) → EachMayBecome rules cs ds → EachMayBecome rules cs es → ds ≡ es
one_each rules all [] [] [] first second = refl
one_each rules all (c ∷ cs) (d ∷ ds) (e ∷ es) first second = λ i. one_command rules all c d e first.0 second.0 i ∷ one_each rules all cs ds es first.1 second.1 i
one_each rules all [] (d ∷ ds) es first second = absurd first
one_each rules all [] [] (e ∷ es) first second = absurd second
one_each rules all (c ∷ cs) [] es first second = absurd first
one_each rules all (c ∷ cs) (d ∷ ds) [] first second = absurd second

one_end : (rules : List Name) → all_eight rules ≡ true → (ps : List Pass) (cs : List (Command Term)) (s : Supply) (ds : List (Command Term)) (r : Supply) (es : List (Command Term)) (q : Supply) → LeadsTo ps cs s rules ds r → LeadsTo ps cs s rules es q → ds ≡ es
one_end rules all [] cs s ds r es q first second = first.0 ∙ sym second.0
one_end rules all (Rules ∷ ps) cs s ds r es q first second =
    let same : first.0 ≡ second.0 = one_each rules all cs first.0 second.0 first.1.0 second.1.0 in
    one_end rules all ps second.0 s ds r es q (subst (λ (ms : List (Command Term)). LeadsTo ps ms s rules ds r) same first.1.1) second.1.1
one_end rules all (p ∷ ps) cs s ds r es q first second = one_end rules all ps (apply_pass p cs s).0 (apply_pass p cs s).1 ds r es q first second

pub eight_write : EightWriteOneText
eight_write b v w ps rules layout all first second =
    first.2 ∙ ap (λ (ds : List (Command Term)). lines layout ds) (one_end rules all ps (commands b) (names_left b) first.0 first.1.0 second.0 second.1.0 first.1.1 second.1.1) ∙ sym second.2
