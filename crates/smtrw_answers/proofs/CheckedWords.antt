-- What `blast` and `dimacs` answer, by the values that they have in common.
use Rattle.std.proofs.Common.{◌≡◌, ℕ, List, Some, Result, Ok, Err, refl, sym, ap, ◌∙◌, subst, codes}
use Rattle.clap.specs.Matches.{first_value}
use Rattle.clap.specs.declared.parser.matches.Found.{Found}
use Rattle.pass_laws.specs.declared.names.Pass.{Pass}
use Rattle.smtrw_answers.specs.declared.status.Usage.{Usage as UsageFault}
use Rattle.smtrw_answers.specs.declared.grammar.Plan.TheVariants as plan
use Rattle.smtrw_answers.specs.declared.words.Checked.{Checked}
use Rattle.smtrw_answers.specs.declared.words.WordsFault.{WordsFault}
use Rattle.smtrw_answers.specs.Words.{Word, Numbered, Command, blasting, linking, Asked, rewrite, translate, extend, blast, unblast, dimacs, answer, stats, demo}
use Rattle.smtrw_answers.specs.Asking.{AsksBy, EndFits, IsBlasting, BlastingIn, GivesBlasting, passes_in, check_in}
use Rattle.smtrw_answers.specs.Asked.{Answers, ChecksFile, GivesChecked, numbered}
use Rattle.smtrw_answers.proofs.CarriedWords.{same_list, same_number, same_file}

pub memory_wanting : (r : Result Asked UsageFault) (w : WordsFault) → GivesChecked r (Err w) → Answers r (Err w)
memory_wanting (Ok a) w is = subst (λ x. Answers (Ok a) (Err x)) (sym is) refl
memory_wanting (Err u) w is = absurd is

pub blasted : (r : Result Asked UsageFault) (c : Checked) (script : ℕ) → EndFits (Ok (plan.Blast script)) r → GivesChecked r (Ok c)
    → r ≡ Ok (blast c.passes c.check (numbered c.script))
blasted (Ok (blast ps k f)) c script planned is = rw (is.0, is.1, is.2) refl
blasted (Ok (dimacs ps k f)) c script planned is = absurd cc
blasted (Ok (rewrite ps l f)) c script planned is = absurd is
blasted (Ok (translate ps k s m)) c script planned is = absurd is
blasted (Ok (extend ps k s m)) c script planned is = absurd is
blasted (Ok (unblast ps k s m)) c script planned is = absurd is
blasted (Ok (answer ps k s m)) c script planned is = absurd is
blasted (Ok (stats f)) c script planned is = absurd is
blasted (Ok (demo s n)) c script planned is = absurd is
blasted (Err u) c script planned is = absurd is

pub linked : (r : Result Asked UsageFault) (c : Checked) (script : ℕ) → EndFits (Ok (plan.Dimacs script)) r → GivesChecked r (Ok c)
    → r ≡ Ok (dimacs c.passes c.check (numbered c.script))
linked (Ok (dimacs ps k f)) c script planned is = rw (is.0, is.1, is.2) refl
linked (Ok (blast ps k f)) c script planned is = absurd cc
linked (Ok (rewrite ps l f)) c script planned is = absurd is
linked (Ok (translate ps k s m)) c script planned is = absurd is
linked (Ok (extend ps k s m)) c script planned is = absurd is
linked (Ok (unblast ps k s m)) c script planned is = absurd is
linked (Ok (answer ps k s m)) c script planned is = absurd is
linked (Ok (stats f)) c script planned is = absurd is
linked (Ok (demo s n)) c script planned is = absurd is
linked (Err u) c script planned is = absurd is

-- ---- the plan of each: its file and its command

pub blasting_planned : (r : Result Asked UsageFault) (script : ℕ) → EndFits (Ok (plan.Blast script)) r → ChecksFile script r × AsksBy blasting r
blasting_planned (Ok (rewrite ps l f)) script is = absurd cc
blasting_planned (Ok (translate ps k s m)) script is = absurd cc
blasting_planned (Ok (extend ps k s m)) script is = absurd cc
blasting_planned (Ok (blast ps k f)) script is = (cc, refl)
blasting_planned (Ok (unblast ps k s m)) script is = absurd cc
blasting_planned (Ok (dimacs ps k f)) script is = absurd cc
blasting_planned (Ok (answer ps k s m)) script is = absurd cc
blasting_planned (Ok (stats f)) script is = absurd cc
blasting_planned (Ok (demo s n)) script is = absurd cc
blasting_planned (Err u) script is = absurd is

pub linking_planned : (r : Result Asked UsageFault) (script : ℕ) → EndFits (Ok (plan.Dimacs script)) r → ChecksFile script r × AsksBy linking r
linking_planned (Ok (rewrite ps l f)) script is = absurd cc
linking_planned (Ok (translate ps k s m)) script is = absurd cc
linking_planned (Ok (extend ps k s m)) script is = absurd cc
linking_planned (Ok (blast ps k f)) script is = absurd cc
linking_planned (Ok (unblast ps k s m)) script is = absurd cc
linking_planned (Ok (dimacs ps k f)) script is = (cc, refl)
linking_planned (Ok (answer ps k s m)) script is = absurd cc
linking_planned (Ok (stats f)) script is = absurd cc
linking_planned (Ok (demo s n)) script is = absurd cc
linking_planned (Err u) script is = absurd is

-- ---- what `clap` found for the command that asks

pub is_checking : (r : Result Asked UsageFault) (script : ℕ) → ChecksFile script r → IsBlasting r
is_checking (Ok (blast ps k f)) script file = tt
is_checking (Ok (dimacs ps k f)) script file = tt
is_checking (Ok (rewrite ps l f)) script file = absurd file
is_checking (Ok (translate ps k s m)) script file = absurd file
is_checking (Ok (extend ps k s m)) script file = absurd file
is_checking (Ok (unblast ps k s m)) script file = absurd file
is_checking (Ok (answer ps k s m)) script file = absurd file
is_checking (Ok (stats f)) script file = absurd file
is_checking (Ok (demo s n)) script file = absurd file
is_checking (Err u) script file = absurd file

-- the values that were found
pub record HasValues (c : Command) (found : Found) : Type 0 where
  pub passes : List Pass
  pub check : ℕ
  pub script : Word
  pub has_passes : passes_in c (first_value found (codes "passes")) ≡ Ok passes
  pub has_check : check_in (first_value found (codes "check")) ≡ Some check
  pub has_script : first_value found (codes "script") ≡ Some script

values_in : (c d : Command) (found : Found) (ps : List Pass) (k : ℕ) (s : Numbered) → c ≡ d → BlastingIn d ps k s found → HasValues c found
values_in c d found ps k s named is = record {
  passes = ps;
  check = k;
  script = s.word;
  has_passes = ap (λ x. passes_in x (first_value found (codes "passes"))) named ∙ is.0;
  has_check = is.1;
  has_script = is.2;
}

pub values_found : (r : Result Asked UsageFault) (c : Command) (found : Found) (script : ℕ) → ChecksFile script r → AsksBy c r → GivesBlasting r found → HasValues c found
values_found (Ok (blast ps k f)) c found script file named is = values_in c blasting found ps k f named is
values_found (Ok (dimacs ps k f)) c found script file named is = values_in c linking found ps k f named is
values_found (Ok (rewrite ps l f)) c found script file named is = absurd file
values_found (Ok (translate ps k s m)) c found script file named is = absurd file
values_found (Ok (extend ps k s m)) c found script file named is = absurd file
values_found (Ok (unblast ps k s m)) c found script file named is = absurd file
values_found (Ok (answer ps k s m)) c found script file named is = absurd file
values_found (Ok (stats f)) c found script file named is = absurd file
values_found (Ok (demo s n)) c found script file named is = absurd file
values_found (Err u) c found script file named is = absurd file

-- ---- the values of the call are those of the words

abbrev pub IsFound : Command → Found → Checked → Type 0
IsFound c found v =
    (passes_in c (first_value found (codes "passes")) ≡ Ok v.passes)
    × (check_in (first_value found (codes "check")) ≡ Some v.check)
    × (first_value found (codes "script") ≡ Some v.script.name.now)

given_in : (c d : Command) (found : Found) (ps : List Pass) (k : ℕ) (s : Numbered) (v : Checked) → c ≡ d → s.number ≡ v.script.word → BlastingIn d ps k s found → IsFound c found v
    → (ps ≡ v.passes) × (k ≡ v.check) × (s ≡ numbered v.script)
given_in c d found ps k s v named file is has = (
  same_list ps v.passes (sym is.0 ∙ ap (λ x. passes_in x (first_value found (codes "passes"))) (sym named) ∙ has.0),
  same_number k v.check (sym is.1 ∙ has.1),
  same_file s v.script.word v.script.name.now (first_value found (codes "script")) file is.2 has.2,
)

pub values_given : (r : Result Asked UsageFault) (c : Command) (found : Found) (v : Checked) → ChecksFile v.script.word r → AsksBy c r → GivesBlasting r found → IsFound c found v
    → GivesChecked r (Ok v)
values_given (Ok (blast ps k f)) c found v file named is has = given_in c blasting found ps k f v named file is has
values_given (Ok (dimacs ps k f)) c found v file named is has = given_in c linking found ps k f v named file is has
values_given (Ok (rewrite ps l f)) c found v file named is has = absurd file
values_given (Ok (translate ps k s m)) c found v file named is has = absurd file
values_given (Ok (extend ps k s m)) c found v file named is has = absurd file
values_given (Ok (unblast ps k s m)) c found v file named is has = absurd file
values_given (Ok (answer ps k s m)) c found v file named is has = absurd file
values_given (Ok (stats f)) c found v file named is has = absurd file
values_given (Ok (demo s n)) c found v file named is has = absurd file
values_given (Err u) c found v file named is has = absurd file
