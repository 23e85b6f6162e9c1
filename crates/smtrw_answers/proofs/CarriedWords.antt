-- What `translate`, `extend`, `unblast` and `answer` answer, by the values that they have in common.
use Rattle.std.proofs.Common.{◌≡◌, ℕ, List, Option, Some, Result, Ok, Err, refl, sym, ap, ap₂, ◌∙◌, subst, codes}
use Rattle.clap.specs.Matches.{first_value}
use Rattle.clap.specs.declared.parser.matches.Found.{Found}
use Rattle.pass_laws.specs.declared.names.Pass.{Pass}
use Rattle.pass_laws.specs.declared.names.ListFault.{ListFault}
use Rattle.smtrw_answers.specs.declared.status.Usage.{Usage as UsageFault}
use Rattle.smtrw_answers.specs.declared.grammar.Plan.TheVariants as plan
use Rattle.smtrw_answers.specs.declared.words.Carried.{Carried}
use Rattle.smtrw_answers.specs.declared.words.WordsFault.{WordsFault}
use Rattle.smtrw_answers.specs.Words.{Word, Numbered, Command, translating, extending, unblasting, answering, Asked, rewrite, translate, extend, blast, unblast, dimacs, answer, stats, demo}
use Rattle.smtrw_answers.specs.Asking.{AsksBy, EndFits, IsCarrying, CarryingIn, GivesCarrying, passes_in, check_in}
use Rattle.smtrw_answers.specs.Asked.{Answers, CarriesFiles, GivesCarried, numbered}

pub memory_wanting : (r : Result Asked UsageFault) (w : WordsFault) → GivesCarried r (Err w) → Answers r (Err w)
memory_wanting (Ok a) w is = subst (λ x. Answers (Ok a) (Err x)) (sym is) refl
memory_wanting (Err u) w is = absurd is

pub translation : (r : Result Asked UsageFault) (c : Carried) (script model : ℕ) → EndFits (Ok (plan.Translate script model)) r → GivesCarried r (Ok c)
    → r ≡ Ok (translate c.passes c.check (numbered c.script) (numbered c.model))
translation (Ok (translate ps k s m)) c script model planned is = rw (is.0, is.1, is.2, is.3) refl
translation (Ok (extend ps k s m)) c script model planned is = absurd cc
translation (Ok (unblast ps k s m)) c script model planned is = absurd cc
translation (Ok (answer ps k s m)) c script model planned is = absurd cc
translation (Ok (rewrite ps l f)) c script model planned is = absurd is
translation (Ok (blast ps k f)) c script model planned is = absurd is
translation (Ok (dimacs ps k f)) c script model planned is = absurd is
translation (Ok (stats f)) c script model planned is = absurd is
translation (Ok (demo s n)) c script model planned is = absurd is
translation (Err u) c script model planned is = absurd is

pub extension : (r : Result Asked UsageFault) (c : Carried) (script model : ℕ) → EndFits (Ok (plan.Extend script model)) r → GivesCarried r (Ok c)
    → r ≡ Ok (extend c.passes c.check (numbered c.script) (numbered c.model))
extension (Ok (extend ps k s m)) c script model planned is = rw (is.0, is.1, is.2, is.3) refl
extension (Ok (translate ps k s m)) c script model planned is = absurd cc
extension (Ok (unblast ps k s m)) c script model planned is = absurd cc
extension (Ok (answer ps k s m)) c script model planned is = absurd cc
extension (Ok (rewrite ps l f)) c script model planned is = absurd is
extension (Ok (blast ps k f)) c script model planned is = absurd is
extension (Ok (dimacs ps k f)) c script model planned is = absurd is
extension (Ok (stats f)) c script model planned is = absurd is
extension (Ok (demo s n)) c script model planned is = absurd is
extension (Err u) c script model planned is = absurd is

pub unblasted : (r : Result Asked UsageFault) (c : Carried) (script model : ℕ) → EndFits (Ok (plan.Unblast script model)) r → GivesCarried r (Ok c)
    → r ≡ Ok (unblast c.passes c.check (numbered c.script) (numbered c.model))
unblasted (Ok (unblast ps k s m)) c script model planned is = rw (is.0, is.1, is.2, is.3) refl
unblasted (Ok (answer ps k s m)) c script model planned is = absurd cc
unblasted (Ok (translate ps k s m)) c script model planned is = absurd cc
unblasted (Ok (extend ps k s m)) c script model planned is = absurd cc
unblasted (Ok (rewrite ps l f)) c script model planned is = absurd is
unblasted (Ok (blast ps k f)) c script model planned is = absurd is
unblasted (Ok (dimacs ps k f)) c script model planned is = absurd is
unblasted (Ok (stats f)) c script model planned is = absurd is
unblasted (Ok (demo s n)) c script model planned is = absurd is
unblasted (Err u) c script model planned is = absurd is

pub answered : (r : Result Asked UsageFault) (c : Carried) (script model : ℕ) → EndFits (Ok (plan.Answer script model)) r → GivesCarried r (Ok c)
    → r ≡ Ok (answer c.passes c.check (numbered c.script) (numbered c.model))
answered (Ok (answer ps k s m)) c script model planned is = rw (is.0, is.1, is.2, is.3) refl
answered (Ok (translate ps k s m)) c script model planned is = absurd cc
answered (Ok (extend ps k s m)) c script model planned is = absurd cc
answered (Ok (unblast ps k s m)) c script model planned is = absurd cc
answered (Ok (rewrite ps l f)) c script model planned is = absurd is
answered (Ok (blast ps k f)) c script model planned is = absurd is
answered (Ok (dimacs ps k f)) c script model planned is = absurd is
answered (Ok (stats f)) c script model planned is = absurd is
answered (Ok (demo s n)) c script model planned is = absurd is
answered (Err u) c script model planned is = absurd is

-- ---- the plan of each: its files and its command

pub translating_planned : (r : Result Asked UsageFault) (script model : ℕ) → EndFits (Ok (plan.Translate script model)) r → CarriesFiles script model r × AsksBy translating r
translating_planned (Ok (rewrite ps l f)) script model is = absurd cc
translating_planned (Ok (translate ps k s m)) script model is = ((cc, cc), refl)
translating_planned (Ok (extend ps k s m)) script model is = absurd cc
translating_planned (Ok (blast ps k f)) script model is = absurd cc
translating_planned (Ok (dimacs ps k f)) script model is = absurd cc
translating_planned (Ok (unblast ps k s m)) script model is = absurd cc
translating_planned (Ok (answer ps k s m)) script model is = absurd cc
translating_planned (Ok (stats f)) script model is = absurd cc
translating_planned (Ok (demo s n)) script model is = absurd cc
translating_planned (Err u) script model is = absurd is

pub extending_planned : (r : Result Asked UsageFault) (script model : ℕ) → EndFits (Ok (plan.Extend script model)) r → CarriesFiles script model r × AsksBy extending r
extending_planned (Ok (rewrite ps l f)) script model is = absurd cc
extending_planned (Ok (translate ps k s m)) script model is = absurd cc
extending_planned (Ok (extend ps k s m)) script model is = ((cc, cc), refl)
extending_planned (Ok (blast ps k f)) script model is = absurd cc
extending_planned (Ok (dimacs ps k f)) script model is = absurd cc
extending_planned (Ok (unblast ps k s m)) script model is = absurd cc
extending_planned (Ok (answer ps k s m)) script model is = absurd cc
extending_planned (Ok (stats f)) script model is = absurd cc
extending_planned (Ok (demo s n)) script model is = absurd cc
extending_planned (Err u) script model is = absurd is

pub unblasting_planned : (r : Result Asked UsageFault) (script model : ℕ) → EndFits (Ok (plan.Unblast script model)) r → CarriesFiles script model r × AsksBy unblasting r
unblasting_planned (Ok (rewrite ps l f)) script model is = absurd cc
unblasting_planned (Ok (translate ps k s m)) script model is = absurd cc
unblasting_planned (Ok (extend ps k s m)) script model is = absurd cc
unblasting_planned (Ok (blast ps k f)) script model is = absurd cc
unblasting_planned (Ok (dimacs ps k f)) script model is = absurd cc
unblasting_planned (Ok (unblast ps k s m)) script model is = ((cc, cc), refl)
unblasting_planned (Ok (answer ps k s m)) script model is = absurd cc
unblasting_planned (Ok (stats f)) script model is = absurd cc
unblasting_planned (Ok (demo s n)) script model is = absurd cc
unblasting_planned (Err u) script model is = absurd is

pub answering_planned : (r : Result Asked UsageFault) (script model : ℕ) → EndFits (Ok (plan.Answer script model)) r → CarriesFiles script model r × AsksBy answering r
answering_planned (Ok (rewrite ps l f)) script model is = absurd cc
answering_planned (Ok (translate ps k s m)) script model is = absurd cc
answering_planned (Ok (extend ps k s m)) script model is = absurd cc
answering_planned (Ok (blast ps k f)) script model is = absurd cc
answering_planned (Ok (unblast ps k s m)) script model is = absurd cc
answering_planned (Ok (dimacs ps k f)) script model is = absurd cc
answering_planned (Ok (answer ps k s m)) script model is = ((cc, cc), refl)
answering_planned (Ok (stats f)) script model is = absurd cc
answering_planned (Ok (demo s n)) script model is = absurd cc
answering_planned (Err u) script model is = absurd is

-- ---- what `clap` found for the command that asks

pub is_carrying : (r : Result Asked UsageFault) (script model : ℕ) → CarriesFiles script model r → IsCarrying r
is_carrying (Ok (translate ps k s m)) script model files = tt
is_carrying (Ok (extend ps k s m)) script model files = tt
is_carrying (Ok (unblast ps k s m)) script model files = tt
is_carrying (Ok (answer ps k s m)) script model files = tt
is_carrying (Ok (rewrite ps l f)) script model files = absurd files
is_carrying (Ok (blast ps k f)) script model files = absurd files
is_carrying (Ok (dimacs ps k f)) script model files = absurd files
is_carrying (Ok (stats f)) script model files = absurd files
is_carrying (Ok (demo s n)) script model files = absurd files
is_carrying (Err u) script model files = absurd files

-- the values that were found
pub record HasValues (c : Command) (found : Found) : Type 0 where
  pub passes : List Pass
  pub check : ℕ
  pub script : Word
  pub model : Word
  pub has_passes : passes_in c (first_value found (codes "passes")) ≡ Ok passes
  pub has_check : check_in (first_value found (codes "check")) ≡ Some check
  pub has_script : first_value found (codes "script") ≡ Some script
  pub has_model : first_value found (codes "model") ≡ Some model

values_in : (c d : Command) (found : Found) (ps : List Pass) (k : ℕ) (s m : Numbered) → c ≡ d → CarryingIn d ps k s m found → HasValues c found
values_in c d found ps k s m named is = record {
  passes = ps;
  check = k;
  script = s.word;
  model = m.word;
  has_passes = ap (λ x. passes_in x (first_value found (codes "passes"))) named ∙ is.0;
  has_check = is.1;
  has_script = is.2;
  has_model = is.3;
}

pub values_found : (r : Result Asked UsageFault) (c : Command) (found : Found) (script model : ℕ) → CarriesFiles script model r → AsksBy c r → GivesCarrying r found → HasValues c found
values_found (Ok (translate ps k s m)) c found script model files named is = values_in c translating found ps k s m named is
values_found (Ok (extend ps k s m)) c found script model files named is = values_in c extending found ps k s m named is
values_found (Ok (unblast ps k s m)) c found script model files named is = values_in c unblasting found ps k s m named is
values_found (Ok (answer ps k s m)) c found script model files named is = values_in c answering found ps k s m named is
values_found (Ok (rewrite ps l f)) c found script model files named is = absurd files
values_found (Ok (blast ps k f)) c found script model files named is = absurd files
values_found (Ok (dimacs ps k f)) c found script model files named is = absurd files
values_found (Ok (stats f)) c found script model files named is = absurd files
values_found (Ok (demo s n)) c found script model files named is = absurd files
values_found (Err u) c found script model files named is = absurd files

pub no_list_fault : (c : Command) (found : Found) (o : Option Word) (r : Result (List Pass) ListFault) (f : ListFault) (ps : List Pass) → passes_in c (first_value found (codes "passes")) ≡ Ok ps
    → r ≡ passes_in c o → o ≡ first_value found (codes "passes") → r ≡ Err f → ⊥
no_list_fault c found o r f ps has is at fault = differ (sym fault ∙ is ∙ ap (passes_in c) at ∙ has)
  where
    differ : ◌≡◌ {A = Result (List Pass) ListFault} (Err f) (Ok ps) → ⊥
    differ e = absurd cc

-- ---- the values of the call are those of the words

abbrev pub IsFound : Command → Found → Carried → Type 0
IsFound c found v =
    (passes_in c (first_value found (codes "passes")) ≡ Ok v.passes)
    × (check_in (first_value found (codes "check")) ≡ Some v.check)
    × (first_value found (codes "script") ≡ Some v.script.name.now)
    × (first_value found (codes "model") ≡ Some v.model.name.now)

pub same_list : (ps qs : List Pass) → ◌≡◌ {A = Result (List Pass) ListFault} (Ok ps) (Ok qs) → ps ≡ qs
same_list ps qs e = cc

pub same_number : (i j : ℕ) → ◌≡◌ {A = Option ℕ} (Some i) (Some j) → i ≡ j
same_number i j e = cc

same_word : (w v : Word) → ◌≡◌ {A = Option Word} (Some w) (Some v) → w ≡ v
same_word w v e = cc

pub same_file : (f : Numbered) (number : ℕ) (word : Word) (o : Option Word) → f.number ≡ number → o ≡ Some f.word → o ≡ Some word → f ≡ record { number = number; word = word }
same_file f number word o placed is found = ap₂ (λ i w. record { number = i; word = w }) placed (same_word f.word word (sym is ∙ found))

given_in : (c d : Command) (found : Found) (ps : List Pass) (k : ℕ) (s m : Numbered) (v : Carried) → c ≡ d → (s.number ≡ v.script.word) × (m.number ≡ v.model.word) → CarryingIn d ps k s m found → IsFound c found v
    → (ps ≡ v.passes) × (k ≡ v.check) × (s ≡ numbered v.script) × (m ≡ numbered v.model)
given_in c d found ps k s m v named files is has = (
  same_list ps v.passes (sym is.0 ∙ ap (λ x. passes_in x (first_value found (codes "passes"))) (sym named) ∙ has.0),
  same_number k v.check (sym is.1 ∙ has.1),
  same_file s v.script.word v.script.name.now (first_value found (codes "script")) files.0 is.2 has.2,
  same_file m v.model.word v.model.name.now (first_value found (codes "model")) files.1 is.3 has.3,
)

pub values_given : (r : Result Asked UsageFault) (c : Command) (found : Found) (v : Carried) → CarriesFiles v.script.word v.model.word r → AsksBy c r → GivesCarrying r found → IsFound c found v
    → GivesCarried r (Ok v)
values_given (Ok (translate ps k s m)) c found v files named is has = given_in c translating found ps k s m v named files is has
values_given (Ok (extend ps k s m)) c found v files named is has = given_in c extending found ps k s m v named files is has
values_given (Ok (unblast ps k s m)) c found v files named is has = given_in c unblasting found ps k s m v named files is has
values_given (Ok (answer ps k s m)) c found v files named is has = given_in c answering found ps k s m v named files is has
values_given (Ok (rewrite ps l f)) c found v files named is has = absurd files
values_given (Ok (blast ps k f)) c found v files named is has = absurd files
values_given (Ok (dimacs ps k f)) c found v files named is has = absurd files
values_given (Ok (stats f)) c found v files named is has = absurd files
values_given (Ok (demo s n)) c found v files named is has = absurd files
values_given (Err u) c found v files named is has = absurd files
