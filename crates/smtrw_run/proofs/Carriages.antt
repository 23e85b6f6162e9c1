-- How a run ends, and what it prepares, where a model is carried.
use Rattle.std.proofs.Common.{◌≡◌, ◌∙◌, sym, ap, subst, refl, ℕ, ◌<◌, ◌⊎◌, inl, inr, cond, List, Option, Some, None, Ok, Err, arith}
use Rattle.std.specs.Prelude.{IfSome, option_map}
use Rattle.smt_terms.specs.Models.{Model}
use Rattle.smt_terms.specs.Term.{Term}
use Rattle.term_table.specs.Formulas.{Formulas}
use Rattle.script_read.specs.Commands.{Command, Signature, checks}
use Rattle.models.specs.ModelView.{ModelLists}
use Rattle.model_texts.specs.ModelText.{model_of}
use Rattle.passes.specs.declared.carrying.CarryFault.{CarryFault}
use Rattle.passes.specs.declared.carrying.CarryFault.TheVariants.{NoSuchCheck, EvalWidth, Beyond128 as ValueBeyond, Memory}
use Rattle.pass_laws.specs.Carry.{Stage, too_wide, beyond}
use Rattle.passes.specs.Carrying.{CarriesTo, IsCheck}
use Rattle.smtrw_answers.specs.declared.status.Usage.{Usage as UsageFault}
use Rattle.smtrw_answers.specs.declared.status.Status.{Status}
use Rattle.smtrw_answers.specs.declared.status.Status.TheVariants.{Done, Refused, Usage, ReadFailed, WriteFailed, OutOfMemory, ModelRefused, Beyond128, PassRefused}
use Rattle.smtrw_answers.specs.Endings.{longest_text, or_later, script_end, check_end, end_of, model_end, stages_end, text_end}
use Rattle.smtrw_answers.specs.Faults.{status_of_carrying}
use Rattle.smtrw_answers.specs.Words.{Word, Numbered, Asked, model_file_of}
use Rattle.smtrw_run.specs.Carrying.{EndsAtFile, EndsAtModel, EndsOnTheWay, GivesModel}
use Rattle.smtrw_run.specs.Prepared.{EndsBefore}
use Rattle.smtrw_run.specs.Run.{CarriesModel, IsMissing, MayEnd, MissesCheck, RoseFor, RoseForModel, TextsFit, check_end_of, early_end, passes_end_of}

-- ---- the end of a told model's text

-- such a status comes once the model's text is read, and with a told text only by the end that it has
abbrev pub EndsLate : (List ℕ → Option Status) → Option (List ℕ) → Status → Type 0
EndsLate tail told (ModelRefused code line byte) = IfSome told (λ g. tail g ≡ Some (ModelRefused code line byte))
EndsLate tail told (Beyond128 assertion) = IfSome told (λ g. tail g ≡ Some (Beyond128 assertion))
EndsLate tail told (PassRefused code assertion) = (code ≡ 71) × IfSome told (λ g. tail g ≡ Some (PassRefused code assertion))
EndsLate tail told (ReadFailed word) = Unit {0}
EndsLate tail told OutOfMemory = Unit {0}
EndsLate tail told _ = ⊥

abbrev pub tail_of : Signature → (Model → List Stage) → List ℕ → Option Status
tail_of sig stages g = text_end g (model_end stages (model_of g sig))

some_ends : (sig : Signature) (stages : Model → List Stage) (told : Option (List ℕ)) (status : Status) → IfSome told (λ g. (stages : Model → List Stage) → text_end g (model_end stages (model_of g sig)) ≡ Some status) → IfSome told (λ g. tail_of sig stages g ≡ Some status)
some_ends sig stages None status is = tt
some_ends sig stages (Some g) status is = is stages

model_ends_late : (sig : Signature) (stages : Model → List Stage) (told : Option (List ℕ)) (status : Status) → EndsAtModel sig told status → EndsLate (tail_of sig stages) told status
model_ends_late sig stages told Done is = absurd is
model_ends_late sig stages told (Refused r) is = absurd is
model_ends_late sig stages told (Usage u) is = absurd is
model_ends_late sig stages told (ReadFailed word) is = absurd is
model_ends_late sig stages told WriteFailed is = absurd is
model_ends_late sig stages told OutOfMemory is = tt
model_ends_late sig stages told (ModelRefused code line byte) is = some_ends sig stages told (ModelRefused code line byte) is
model_ends_late sig stages told (Beyond128 assertion) is = absurd is
model_ends_late sig stages told (PassRefused code assertion) is = absurd is

-- `ReadFailed` comes only where the count of faults rose for the file
abbrev pub FailsFor : (Word → ℕ) → (Word → ℕ) → Numbered → Status → Type 0
FailsFor before now file (ReadFailed word) = RoseFor before now word file
FailsFor before now file _ = Unit {0}

module _ (sig : Signature) (stages : Model → List Stage) (told : Option (List ℕ)) (before now : Word → ℕ) (file : Numbered) where
  pub file_ends_late : (status : Status) → EndsAtFile sig told before now file status → EndsLate (tail_of sig stages) told status
  file_ends_late (ReadFailed word) is = tt
  file_ends_late Done is = absurd is
  file_ends_late (Refused r) is = absurd is
  file_ends_late (Usage u) is = absurd is
  file_ends_late WriteFailed is = absurd is
  file_ends_late OutOfMemory is = tt
  file_ends_late (ModelRefused code line byte) is = model_ends_late sig stages told (ModelRefused code line byte) is
  file_ends_late (Beyond128 assertion) is = absurd is
  file_ends_late (PassRefused code assertion) is = absurd is

  pub file_fails : (status : Status) → EndsAtFile sig told before now file status → FailsFor before now file status
  file_fails (ReadFailed word) is = is
  file_fails Done is = tt
  file_fails (Refused r) is = tt
  file_fails (Usage u) is = tt
  file_fails WriteFailed is = tt
  file_fails OutOfMemory is = tt
  file_fails (ModelRefused code line byte) is = tt
  file_fails (Beyond128 assertion) is = tt
  file_fails (PassRefused code assertion) is = tt

-- the end of a text that gives a model
given_end : (sig : Signature) (stages : Model → List Stage) (g : List ℕ) (m : Model) → GivesModel sig g m → tail_of sig stages g ≡ stages_end (stages m)
given_end sig stages g m gives i = cond (gives.0 i) (Some (ModelRefused 2 0 longest_text)) (model_end stages (gives.1 i))

some_given : (sig : Signature) (stages : Model → List Stage) (told : Option (List ℕ)) (m : Model) (end : Option Status) → IfSome told (λ g. GivesModel sig g m) → stages_end (stages m) ≡ end → IfSome told (λ g. tail_of sig stages g ≡ end)
some_given sig stages None m end gives is = tt
some_given sig stages (Some g) m end gives is = given_end sig stages g m gives ∙ is

-- ---- carrying

pub wide_end : (stages : List Stage) (a : ℕ) → too_wide stages ≡ Some a → stages_end stages ≡ Some (PassRefused 71 a)
wide_end stages a wide = ap (λ (o : Option ℕ). or_later (option_map (λ (i : ℕ). PassRefused 71 i) o) (option_map (λ (i : ℕ). Beyond128 i) (beyond stages))) wide

pub beyond_end : (stages : List Stage) (o : Option ℕ) → too_wide stages ≡ None → beyond stages ≡ o → stages_end stages ≡ option_map (λ (i : ℕ). Beyond128 i) o
beyond_end stages o narrow is i = or_later (option_map (λ (a : ℕ). PassRefused 71 a) (narrow i)) (option_map (λ (a : ℕ). Beyond128 a) (is i))

module _ (t : Formulas) (cs : List (Command Term)) (k : ℕ) (within : IsCheck k cs) (sig : Signature) (stages : Model → List Stage) (m to : Model) (told : Option (List ℕ)) (gives : IfSome told (λ g. GivesModel sig g m)) where
  pub no_check : (k ≡ 0) ⊎ (checks cs < k) → ⊥
  no_check (inl zero) = let least = within.0 in omega (arith, least, zero)
  no_check (inr more) = let most = within.1 in omega (arith, most, more)

  late_fault : (f : CarryFault) → CarriesTo t cs k (stages m) to (Err f) → EndsLate (tail_of sig stages) told (status_of_carrying f)
  late_fault (NoSuchCheck check count) is = absurd (no_check is.2)
  late_fault (EvalWidth a bits) is = (refl, some_given sig stages told m (Some (PassRefused 71 a)) gives (wide_end (stages m) a is.1))
  late_fault (ValueBeyond a node) is = some_given sig stages told m (Some (Beyond128 a)) gives (beyond_end (stages m) (Some a) is.1 is.2)
  late_fault Memory is = tt

  pub carrying_ends_late : (f : CarryFault) (status : Status) → CarriesTo t cs k (stages m) to (Err f) → status ≡ status_of_carrying f → EndsLate (tail_of sig stages) told status
  carrying_ends_late f status is same = subst (λ (s : Status). EndsLate (tail_of sig stages) told s) (sym same) (late_fault f is)

  pub carried_well : (r : ModelLists) → CarriesTo t cs k (stages m) to (Ok r) → IfSome told (λ g. tail_of sig stages g ≡ None)
  carried_well r is = some_given sig stages told m None gives (beyond_end (stages m) None is.1 is.2)

-- ---- the run's end

-- a command that looks for a check and runs passes, which end the run so
module _ (b : List ℕ) (k : ℕ) (asked : Asked) (passing : Option Status) (may : (code assertion : ℕ) → passing ≡ Some (PassRefused code assertion) → MayEnd asked (PassRefused code assertion)) (misses : (u : UsageFault) → IsMissing k u → MissesCheck asked u) (check_is : check_end_of asked b ≡ check_end b k)
    (passes_is : passes_end_of asked b ≡ passing) (tail : List ℕ → Option Status) (end_is : (g : List ℕ) → end_of asked b g ≡ or_later (script_end b) (or_later (check_end b k) (or_later passing (tail g)))) where
  -- ---- before the model's text

  way_texts : (told : Option (List ℕ)) (status : Status) → EndsOnTheWay b k passing status → TextsFit (record { script = Some b; model = told }) status asked
  way_texts None (Refused r) is = ap (λ (o : Option Status). or_later o (or_later (check_end_of asked b) (passes_end_of asked b))) is
  way_texts (Some g) (Refused r) is = end_is g ∙ ap (λ (o : Option Status). or_later o (or_later (check_end b k) (or_later passing (tail g)))) is
  way_texts None (Usage u) is = λ i. or_later (is.1 i) (or_later ((check_is ∙ is.2) i) (passes_end_of asked b))
  way_texts (Some g) (Usage u) is = end_is g ∙ (λ i. or_later (is.1 i) (or_later (is.2 i) (or_later passing (tail g))))
  way_texts None OutOfMemory is = tt
  way_texts (Some g) OutOfMemory is = tt
  way_texts told Done is = absurd is
  way_texts told (ReadFailed word) is = absurd is
  way_texts told WriteFailed is = absurd is
  way_texts told (ModelRefused code line byte) is = absurd is
  way_texts told (Beyond128 assertion) is = absurd is
  way_texts None (PassRefused code assertion) is = inl (λ i. or_later (is.0 i) (or_later ((check_is ∙ is.1) i) ((passes_is ∙ is.2) i)))
  way_texts (Some g) (PassRefused code assertion) is = end_is g ∙ (λ i. or_later (is.0 i) (or_later (is.1 i) (or_later (is.2 i) (tail g))))

  pub way_before : (told : Option (List ℕ)) (before now : Word → ℕ) (status : Status) → EndsOnTheWay b k passing status → EndsBefore (record { script = Some b; model = told }) before now asked status
  way_before told before now (Refused r) is = record { early = tt; words = tt; ends = tt; read = tt; texts = way_texts told (Refused r) is }
  way_before told before now (Usage u) is = record { early = tt; words = misses u is.0; ends = tt; read = tt; texts = way_texts told (Usage u) is }
  way_before told before now OutOfMemory is = record { early = tt; words = tt; ends = tt; read = tt; texts = way_texts told OutOfMemory is }
  way_before told before now Done is = absurd is
  way_before told before now (ReadFailed word) is = absurd is
  way_before told before now WriteFailed is = absurd is
  way_before told before now (ModelRefused code line byte) is = absurd is
  way_before told before now (Beyond128 assertion) is = absurd is
  way_before told before now (PassRefused code assertion) is = record { early = tt; words = tt; ends = may code assertion is.2; read = tt; texts = way_texts told (PassRefused code assertion) is }

  -- ---- by the model's text

  module _ (script : script_end b ≡ None) (check : check_end b k ≡ None) (passes : passing ≡ None) where
    untold : early_end asked b ≡ None
    untold i = or_later (script i) (or_later ((check_is ∙ check) i) ((passes_is ∙ passes) i))

    by_tail : (g : List ℕ) (end : Option Status) → tail g ≡ end → end_of asked b g ≡ end
    by_tail g end is = end_is g ∙ (λ i. or_later (script i) (or_later (check i) (or_later (passes i) (is i))))

    pub done_texts : (told : Option (List ℕ)) → IfSome told (λ g. tail g ≡ None) → TextsFit (record { script = Some b; model = told }) Done asked
    done_texts None is = untold
    done_texts (Some g) is = by_tail g None is

    late_texts : (told : Option (List ℕ)) (status : Status) → EndsLate tail told status → TextsFit (record { script = Some b; model = told }) status asked
    late_texts None (ModelRefused code line byte) is = untold
    late_texts (Some g) (ModelRefused code line byte) is = by_tail g (Some (ModelRefused code line byte)) is
    late_texts None (Beyond128 assertion) is = untold
    late_texts (Some g) (Beyond128 assertion) is = by_tail g (Some (Beyond128 assertion)) is
    late_texts None (PassRefused code assertion) is = inr (is.0, untold)
    late_texts (Some g) (PassRefused code assertion) is = by_tail g (Some (PassRefused code assertion)) is.1
    late_texts None (ReadFailed word) is = tt
    late_texts (Some g) (ReadFailed word) is = tt
    late_texts None OutOfMemory is = tt
    late_texts (Some g) OutOfMemory is = tt
    late_texts told Done is = absurd is
    late_texts told (Refused r) is = absurd is
    late_texts told (Usage u) is = absurd is
    late_texts told WriteFailed is = absurd is

    pub late_before : CarriesModel asked → (told : Option (List ℕ)) (before now : Word → ℕ) (file : Numbered) → model_file_of asked ≡ Some file → (status : Status) → EndsLate tail told status → FailsFor before now file status → EndsBefore (record { script = Some b; model = told }) before now asked status
    late_before carries told before now file named (ModelRefused code line byte) is fails = record { early = tt; words = tt; ends = carries; read = tt; texts = late_texts told (ModelRefused code line byte) is }
    late_before carries told before now file named (Beyond128 assertion) is fails = record { early = tt; words = tt; ends = carries; read = tt; texts = late_texts told (Beyond128 assertion) is }
    late_before carries told before now file named (PassRefused code assertion) is fails = record { early = tt; words = tt; ends = inr (inl (is.0, carries)); read = tt; texts = late_texts told (PassRefused code assertion) is }
    late_before carries told before now file named (ReadFailed word) is fails = record { early = tt; words = tt; ends = tt; read = inr (subst (λ (o : Option Numbered). RoseForModel before now word o) (sym named) fails); texts = late_texts told (ReadFailed word) is }
    late_before carries told before now file named OutOfMemory is fails = record { early = tt; words = tt; ends = tt; read = tt; texts = late_texts told OutOfMemory is }
    late_before carries told before now file named Done is fails = absurd is
    late_before carries told before now file named (Refused r) is fails = absurd is
    late_before carries told before now file named (Usage u) is fails = absurd is
    late_before carries told before now file named WriteFailed is fails = absurd is
