-- What words ask for is in range: checks are counted from 1, no stored rules are among the passes of a command that takes none, and a
-- demonstration has a size that it may have.
use Rattle.std.proofs.Common.{◌≡◌, refl, ℕ, suc, ◌≤◌, nat_le, Bool, true, false, cond, if◌then◌else◌, List, [], ◌∷◌, ◌++◌, length, Option, Some, None, Result, Ok, Err, arith}
use Rattle.std.proofs.lemmas.Bool.{and_parts, leb-true}
use Rattle.smt_lex.specs.Lexicon.{is_numeral}
use Rattle.smt_print.specs.declared.layout.Layout.{Layout}
use Rattle.pass_laws.specs.declared.names.Pass.{Pass}
use Rattle.pass_laws.specs.declared.names.ListFault.{ListFault}
use Rattle.pass_laws.specs.declared.names.ListFault.TheVariants.{BadPass as UnknownPass, AfterRules as GroupsAfterRules}
use Rattle.pass_laws.specs.Lists.{all_known, between_commas, groups_after_rules, in_order, most_passes, pass_list_of, passes_named}
use Rattle.std.specs.Prelude.{◌&&◌, ◌||◌, not, nat_lt, bytes_eq, codes}
use Rattle.std.specs.List.{list_all, list_any}
use Rattle.std.specs.Str.Parse.{digits_value}
use Rattle.smtrw_answers.specs.declared.status.Usage.{Usage}
use Rattle.smtrw_answers.specs.declared.status.Why.TheVariants.{BadValue, Repeated, Extra, TwoInputs}
use Rattle.smtrw_answers.specs.Words.{Word, Numbered, at, Command, rewriting, translating, extending, blasting, unblasting, linking, answering, counting, demonstrating, command_named, needed, Setting, of_passes, of_layout, of_check, settings_of, is_rules, takes_pass, setting_among, is_dashed, Given, nothing_given, is_given, number_in, is_from, is_up_to, layout_named, with_passes, with_layout, with_check, with_value, with_setting, option_word, with_plain, greatest_size, is_number_for, of_kind, plain_word, word_behind, and_then, words_from, Asked, asked_with, asked_or_missing, at_end, asked_of, asked}
use Rattle.smtrw_answers.specs.Asked.{IsInRange}
use Rattle.smtrw_run.specs.Run.{WhereAsked}

-- ---- what is in range

abbrev FromOne : Option ℕ → Type 0
FromOne None = Unit {0}
FromOne (Some k) = 1 ≤ k

abbrev IsSize : Word → Type 0
IsSize w = (1 ≤ digits_value 10 w) × (digits_value 10 w ≤ greatest_size)

-- what stands behind the seed is a size
abbrev SizeFits : List Numbered → Type 0
SizeFits [] = Unit {0}
SizeFits (seed ∷ []) = Unit {0}
SizeFits (seed ∷ size ∷ more) = IsSize size.word

-- no stored rules are among the passes of a command that takes none
abbrev WithoutRules : Option (List Pass) → Type 0
WithoutRules None = Unit {0}
WithoutRules (Some ps) = list_any is_rules ps ≡ false

abbrev ListFits : Command → Option (List Pass) → Type 0
ListFits blasting given = WithoutRules given
ListFits unblasting given = WithoutRules given
ListFits linking given = WithoutRules given
ListFits answering given = WithoutRules given
ListFits rewriting given = Unit {0}
ListFits translating given = Unit {0}
ListFits extending given = Unit {0}
ListFits counting given = Unit {0}
ListFits demonstrating given = Unit {0}

abbrev PlainFit : Command → List Numbered → Type 0
PlainFit demonstrating fs = SizeFits fs
PlainFit rewriting fs = Unit {0}
PlainFit translating fs = Unit {0}
PlainFit extending fs = Unit {0}
PlainFit blasting fs = Unit {0}
PlainFit unblasting fs = Unit {0}
PlainFit linking fs = Unit {0}
PlainFit answering fs = Unit {0}
PlainFit counting fs = Unit {0}

abbrev Fits : Command → Given → Type 0
Fits c g = FromOne g.check × ListFits c g.passes × PlainFit c g.plain

-- what is given is in range, where what was given before is
abbrev Keeps : Command → Given → Result Given Usage → Type 0
Keeps c g (Ok h) = Fits c g → Fits c h
Keeps c g (Err u) = Unit {0}

keeps_if : (c : Command) (g : Given) (b : Bool) (r q : Result Given Usage) → Keeps c g r → Keeps c g q → Keeps c g (cond b r q)
keeps_if c g true r q first second = first
keeps_if c g false r q first second = second

-- ---- values

none_ruled : (ps : List Pass) → list_all (λ p. not (is_rules p)) ps ≡ true → list_any is_rules ps ≡ false
none_ruled [] all = refl
none_ruled (p ∷ ps) all = by (is_rules p) (λ passed. none_ruled ps passed) all
  where
    by : (b : Bool) → (list_all (λ q. not (is_rules q)) ps ≡ true → list_any is_rules ps ≡ false) → (not b && list_all (λ q. not (is_rules q)) ps) ≡ true → (b || list_any is_rules ps) ≡ false
    by true rest passed = absurd cc
    by false rest passed = rest passed

list_fits : (c : Command) (ps : List Pass) → list_all (takes_pass c) ps ≡ true → ListFits c (Some ps)
list_fits blasting ps all = none_ruled ps all
list_fits unblasting ps all = none_ruled ps all
list_fits linking ps all = none_ruled ps all
list_fits answering ps all = none_ruled ps all
list_fits rewriting ps all = tt
list_fits translating ps all = tt
list_fits extending ps all = tt
list_fits counting ps all = tt
list_fits demonstrating ps all = tt

abbrev FitsIfRead : Command → Result (List Pass) ListFault → Type 0
FitsIfRead c (Ok ps) = ListFits c (Some ps)
FitsIfRead c (Err fault) = Unit {0}

ordered_fits : (c : Command) (ps : List Pass) (b : Bool) → list_all (takes_pass c) ps ≡ true → FitsIfRead c (cond b (Err GroupsAfterRules) (Ok ps))
ordered_fits c ps true all = tt
ordered_fits c ps false all = list_fits c ps all

known_fits : (c : Command) (o : Option (List Pass)) → FitsIfRead c (all_known (takes_pass c) o)
known_fits c None = tt
known_fits c (Some ps) = by (list_all (takes_pass c) ps) refl
  where
    by : (b : Bool) → list_all (takes_pass c) ps ≡ b → FitsIfRead c (cond b (in_order ps) (Err UnknownPass))
    by true all = ordered_fits c ps (groups_after_rules ps) all
    by false all = tt

read_fits : (c : Command) (w : Word) → FitsIfRead c (pass_list_of (takes_pass c) w)
read_fits c w = by (nat_lt most_passes (length (between_commas w)))
  where
    by : (b : Bool) → FitsIfRead c (cond b (Err UnknownPass) (all_known (takes_pass c) (passes_named (between_commas w))))
    by true = tt
    by false = known_fits c (passes_named (between_commas w))

passes_keep : (c : Command) (i : ℕ) (r : Result (List Pass) ListFault) (g : Given) → FitsIfRead c r → Keeps c g (with_passes i r g)
passes_keep c i (Ok ps) g fit = λ fits. (fits.0, fit, fits.2)
passes_keep c i (Err UnknownPass) g fit = tt
passes_keep c i (Err GroupsAfterRules) g fit = tt

layout_keeps : (c : Command) (i : ℕ) (o : Option Layout) (g : Given) → Keeps c g (with_layout i o g)
layout_keeps c i (Some l) g = λ fits. fits
layout_keeps c i None g = tt

check_keeps : (c : Command) (i : ℕ) (o : Option ℕ) (g : Given) → Keeps c g (with_check i o g)
check_keeps c i None g = tt
check_keeps c i (Some k) g = by (nat_le 1 k) refl
  where
    by : (b : Bool) → nat_le 1 k ≡ b → Keeps c g (cond b (Ok (record g { check = Some k; awaited = None })) (at i BadValue))
    by true is = λ fits. (leb-true 1 k is, fits.1, fits.2)
    by false is = tt

value_keeps : (c : Command) (i : ℕ) (s : Setting) (w : Word) (g : Given) → Keeps c g (with_value (takes_pass c) i s w g)
value_keeps c i of_passes w g = passes_keep c i (pass_list_of (takes_pass c) w) g (read_fits c w)
value_keeps c i of_layout w g = layout_keeps c i (layout_named w) g
value_keeps c i of_check w g = check_keeps c i (number_in w) g

-- ---- files and numbers

size_read : (w : Word) → (is_from 1 (number_in w) && is_up_to greatest_size (number_in w)) ≡ true → IsSize w
size_read w is = by (is_numeral w && nat_le (length w) 18) is
  where
    number : Bool → Option ℕ
    number b = if b then Some (digits_value 10 w) else None

    by : (b : Bool) → (is_from 1 (number b) && is_up_to greatest_size (number b)) ≡ true → IsSize w
    by true found =
        let tests = and_parts (nat_le 1 (digits_value 10 w)) (nat_le (digits_value 10 w) greatest_size) found in
        (leb-true 1 (digits_value 10 w) tests.0, leb-true (digits_value 10 w) greatest_size tests.1)
    by false found = absurd cc

more_fit : (i : ℕ) (w : Word) (fs : List Numbered) → SizeFits fs → is_number_for fs (number_in w) ≡ true → SizeFits (fs ++ record { number = i; word = w } ∷ [])
more_fit i w [] fits is = tt
more_fit i w (seed ∷ []) fits is = size_read w is
more_fit i w (seed ∷ size ∷ more) fits is = fits

number_keeps : (i : ℕ) (w : Word) (g : Given) (b : Bool) → is_number_for g.plain (number_in w) ≡ b → Keeps demonstrating g (cond b (with_plain i w g) (at i BadValue))
number_keeps i w g true is = λ fits. (fits.0, fits.1, more_fit i w g.plain fits.2 is)
number_keeps i w g false is = tt

file_keeps : (c : Command) → ((fs : List Numbered) → PlainFit c fs) → (i : ℕ) (w : Word) (g : Given) (b : Bool) → Keeps c g (cond b (at i TwoInputs) (with_plain i w g))
file_keeps c fit i w g true = tt
file_keeps c fit i w g false = λ fits. (fits.0, fits.1, fit (g.plain ++ record { number = i; word = w } ∷ []))

kind_keeps : (c : Command) (i : ℕ) (w : Word) (g : Given) → Keeps c g (of_kind c i w g)
kind_keeps demonstrating i w g = number_keeps i w g (is_number_for g.plain (number_in w)) refl
kind_keeps rewriting i w g = file_keeps rewriting (λ fs. tt) i w g (bytes_eq w (codes "-") && list_any (λ f. bytes_eq f.word (codes "-")) g.plain)
kind_keeps translating i w g = file_keeps translating (λ fs. tt) i w g (bytes_eq w (codes "-") && list_any (λ f. bytes_eq f.word (codes "-")) g.plain)
kind_keeps extending i w g = file_keeps extending (λ fs. tt) i w g (bytes_eq w (codes "-") && list_any (λ f. bytes_eq f.word (codes "-")) g.plain)
kind_keeps blasting i w g = file_keeps blasting (λ fs. tt) i w g (bytes_eq w (codes "-") && list_any (λ f. bytes_eq f.word (codes "-")) g.plain)
kind_keeps unblasting i w g = file_keeps unblasting (λ fs. tt) i w g (bytes_eq w (codes "-") && list_any (λ f. bytes_eq f.word (codes "-")) g.plain)
kind_keeps linking i w g = file_keeps linking (λ fs. tt) i w g (bytes_eq w (codes "-") && list_any (λ f. bytes_eq f.word (codes "-")) g.plain)
kind_keeps answering i w g = file_keeps answering (λ fs. tt) i w g (bytes_eq w (codes "-") && list_any (λ f. bytes_eq f.word (codes "-")) g.plain)
kind_keeps counting i w g = file_keeps counting (λ fs. tt) i w g (bytes_eq w (codes "-") && list_any (λ f. bytes_eq f.word (codes "-")) g.plain)

-- ---- word by word

setting_keeps : (c : Command) (i : ℕ) (s : Setting) (o : Option Word) (g : Given) → Keeps c g (with_setting (takes_pass c) i s o g)
setting_keeps c i s None g = λ fits. fits
setting_keeps c i s (Some w) g = value_keeps c i s w g

option_keeps : (c : Command) (i : ℕ) (o : Option (Setting × Option Word)) (g : Given) → Keeps c g (option_word (takes_pass c) i o g)
option_keeps c i None g = tt
option_keeps c i (Some o) g = keeps_if c g (is_given o.0 g) (at i Repeated) (with_setting (takes_pass c) i o.0 o.1 g) tt (setting_keeps c i o.0 o.1 g)

plain_keeps : (c : Command) (i : ℕ) (w : Word) (g : Given) → Keeps c g (plain_word c i w g)
plain_keeps c i [] g = tt
plain_keeps c i (b ∷ bs) g = keeps_if c g (nat_le (needed c) (length g.plain)) (at i Extra) (of_kind c i (b ∷ bs) g) tt (kind_keeps c i (b ∷ bs) g)

word_keeps : (c : Command) (i : ℕ) (w : Word) (g : Given) (o : Option Setting) → Keeps c g (word_behind (takes_pass c) c i w g o)
word_keeps c i w g (Some s) = keeps_if c g (is_dashed w) (at i BadValue) (with_value (takes_pass c) i s w g) tt (value_keeps c i s w g)
word_keeps c i w g None =
    keeps_if c g (is_dashed w) (option_word (takes_pass c) i (setting_among (settings_of c) w) g) (plain_word c i w g)
    (option_keeps c i (setting_among (settings_of c) w) g)
    (plain_keeps c i w g)

keeps_on : (c : Command) (g h : Given) (r : Result Given Usage) → (Fits c g → Fits c h) → Keeps c h r → Keeps c g r
keeps_on c g h (Ok x) first second = λ fits. second (first fits)
keeps_on c g h (Err u) first second = tt

keeps_then : (c : Command) (g : Given) (next : Given → Result Given Usage) (r : Result Given Usage) → Keeps c g r → ((h : Given) → Keeps c h (next h)) → Keeps c g (and_then next r)
keeps_then c g next (Ok h) first second = keeps_on c g h (next h) first (second h)
keeps_then c g next (Err u) first second = tt

words_keep : (c : Command) (i : ℕ) (ws : List Word) (g : Given) → Keeps c g (words_from (takes_pass c) c i ws g)
words_keep c i [] g = λ fits. fits
words_keep c i (w ∷ ws) g =
    keeps_then c g (words_from (takes_pass c) c (suc i) ws) (word_behind (takes_pass c) c i w g g.awaited) (word_keeps c i w g g.awaited) (λ h. words_keep c (suc i) ws h)

-- ---- what is asked for

check_from : (o : Option ℕ) → FromOne o → 1 ≤ (elim o [ Some k ↦ k | None ↦ 1 ])
check_from None from = omega arith
check_from (Some k) from = from

list_without : (o : Option (List Pass)) → WithoutRules o → list_any is_rules (elim o [ Some ps ↦ ps | None ↦ [] ]) ≡ false
list_without None without = refl
list_without (Some ps) without = without

with_plain_words : (c : Command) (i : ℕ) (g : Given) (fs : List Numbered) → FromOne g.check → ListFits c g.passes → PlainFit c fs → WhereAsked (asked_or_missing i (asked_with c g fs)) IsInRange
with_plain_words rewriting i g [] from list fit = tt
with_plain_words rewriting i g (f ∷ []) from list fit = tt
with_plain_words rewriting i g (f ∷ x ∷ fs) from list fit = tt
with_plain_words translating i g [] from list fit = tt
with_plain_words translating i g (s ∷ []) from list fit = tt
with_plain_words translating i g (s ∷ m ∷ []) from list fit = check_from g.check from
with_plain_words translating i g (s ∷ m ∷ x ∷ fs) from list fit = tt
with_plain_words extending i g [] from list fit = tt
with_plain_words extending i g (s ∷ []) from list fit = tt
with_plain_words extending i g (s ∷ m ∷ []) from list fit = check_from g.check from
with_plain_words extending i g (s ∷ m ∷ x ∷ fs) from list fit = tt
with_plain_words blasting i g [] from list fit = tt
with_plain_words blasting i g (f ∷ []) from list fit = (check_from g.check from, list_without g.passes list)
with_plain_words blasting i g (f ∷ x ∷ fs) from list fit = tt
with_plain_words unblasting i g [] from list fit = tt
with_plain_words unblasting i g (s ∷ []) from list fit = tt
with_plain_words unblasting i g (s ∷ m ∷ []) from list fit = (check_from g.check from, list_without g.passes list)
with_plain_words unblasting i g (s ∷ m ∷ x ∷ fs) from list fit = tt
with_plain_words linking i g [] from list fit = tt
with_plain_words linking i g (f ∷ []) from list fit = (check_from g.check from, list_without g.passes list)
with_plain_words linking i g (f ∷ x ∷ fs) from list fit = tt
with_plain_words answering i g [] from list fit = tt
with_plain_words answering i g (s ∷ []) from list fit = tt
with_plain_words answering i g (s ∷ m ∷ []) from list fit = (check_from g.check from, list_without g.passes list)
with_plain_words answering i g (s ∷ m ∷ x ∷ fs) from list fit = tt
with_plain_words counting i g [] from list fit = tt
with_plain_words counting i g (f ∷ []) from list fit = tt
with_plain_words counting i g (f ∷ x ∷ fs) from list fit = tt
with_plain_words demonstrating i g [] from list fit = tt
with_plain_words demonstrating i g (s ∷ []) from list fit = tt
with_plain_words demonstrating i g (s ∷ n ∷ []) from list fit = fit
with_plain_words demonstrating i g (s ∷ n ∷ x ∷ fs) from list fit = tt

at_last : (c : Command) (i : ℕ) (g : Given) (o : Option Setting) → Fits c g → WhereAsked (at_end c i g o) IsInRange
at_last c i g None fits = with_plain_words c i g g.plain fits.0 fits.1 fits.2
at_last c i g (Some s) fits = tt

nothing_fits : (c : Command) → Fits c nothing_given
nothing_fits rewriting = (tt, tt, tt)
nothing_fits translating = (tt, tt, tt)
nothing_fits extending = (tt, tt, tt)
nothing_fits blasting = (tt, tt, tt)
nothing_fits unblasting = (tt, tt, tt)
nothing_fits linking = (tt, tt, tt)
nothing_fits answering = (tt, tt, tt)
nothing_fits counting = (tt, tt, tt)
nothing_fits demonstrating = (tt, tt, tt)

asked_fits : (o : Option Command) (ws : List Word) → WhereAsked (asked_of o ws) IsInRange
asked_fits None ws = tt
asked_fits (Some c) ws = by (words_from (takes_pass c) c 2 ws nothing_given) (words_keep c 2 ws nothing_given)
  where
    by : (r : Result Given Usage) → Keeps c nothing_given r → WhereAsked (and_then (λ g. at_end c (suc (suc (length ws))) g g.awaited) r) IsInRange
    by (Ok g) keeps = at_last c (suc (suc (length ws))) g g.awaited (keeps (nothing_fits c))
    by (Err u) keeps = tt

words_fit : (words : List Word) → WhereAsked (asked words) IsInRange
words_fit [] = tt
words_fit (w ∷ ws) = asked_fits (command_named w) ws

one_asked : (r : Result Asked Usage) (a : Asked) → r ≡ Ok a → WhereAsked r IsInRange → IsInRange a
one_asked (Ok c) a is fits = let same : c ≡ a = cc in rw (← same) fits
one_asked (Err u) a is fits = absurd cc

pub asked_in_range : (words : List Word) (a : Asked) → asked words ≡ Ok a → IsInRange a
asked_in_range words a is = one_asked (asked words) a is (words_fit words)
