-- What comes of a model that is carried over a way, in either direction.
use Rattle.std.proofs.Common.{◌≡◌, ◌∙◌, sym, ap, subst, refl, ℕ, inl, List, Option, Some, None, Result, Ok, Err}
use Rattle.std.specs.Prelude.{IfErr, IfSome, IsErrAnd}
use Rattle.smt_terms.specs.Models.{Model, IsModelOver}
use Rattle.smt_terms.specs.Sorts.{Name}
use Rattle.term_table.specs.Formulas.{Formulas}
use Rattle.script_read.specs.Commands.{Signature}
use Rattle.models.specs.LiveNumbers.{LiveNumbers, signature_of}
use Rattle.models.specs.ModelView.{ModelLists, model_at}
use Rattle.model_texts.specs.ModelLines.{model_lines}
use Rattle.model_texts.specs.ModelText.{model_of}
use Rattle.model_texts.specs.Proper.{IsProper}
use Rattle.model_texts.specs.Refusals.{Unmodelled}
use Rattle.pass_laws.specs.declared.names.Pass.{Pass}
use Rattle.passes.specs.declared.carrying.CarryFault.{CarryFault}
use Rattle.passes.specs.declared.carrying.CarryFault.TheVariants.{NoSuchCheck, EvalWidth, Beyond128 as ValueBeyond, Memory}
use Rattle.pass_laws.specs.Carry.{back_stages, forth_stages}
use Rattle.passes.specs.Carrying.{CarriesBack, CarriesForth}
use Rattle.smtrw_answers.specs.declared.status.Status.{Status}
use Rattle.smtrw_answers.specs.declared.status.Status.TheVariants.{PassRefused}
use Rattle.smtrw_answers.specs.Endings.{passes_end}
use Rattle.smtrw_answers.specs.Carrying.{carried_text, translated, extended, signature_before, signature_behind}
use Rattle.smtrw_answers.specs.Faults.{status_of_carrying}
use Rattle.smtrw_answers.specs.Outputs.{commands, names_left}
use Rattle.smtrw_answers.specs.Words.{Word, Numbered, translate, extend}
use Rattle.smtrw_answers.specs.Written.{IsOutputOf}
use Rattle.smtrw_run.specs.declared.carrying.Way.{Way}
use Rattle.smtrw_run.specs.Carrying.{AreNumbersOf, EndsAtFile, EndsOnTheWay, GivesModel, IsModelRead, IsWay}
use Rattle.smtrw_run.specs.Prepared.{EndsBefore, IsPrepared}
use Rattle.smtrw_run.specs.Run.{MayEnd, WhereTold}
use Rattle.smtrw_run.proofs.Endings.{passes_end_code}
use Rattle.smtrw_run.proofs.Carriages.{FailsFor, carried_well, carrying_ends_late, done_texts, file_ends_late, file_fails, late_before, tail_of, way_before}

-- what holds of the status of a refusal holds of the answer
pub if_refused : {A : Type 0} (r : Result A Status) (P : Status → Type 0) (status : Status) → IsErrAnd r (λ s. s ≡ status) → P status → IfErr r P
if_refused (Ok a) P status is holds = tt
if_refused (Err s) P status is holds = subst P (sym is) holds

pub never_unread : (before now : Word → ℕ) (file : Numbered) (f : CarryFault) → FailsFor before now file (status_of_carrying f)
never_unread before now file (NoSuchCheck check count) = tt
never_unread before now file (EvalWidth a bits) = tt
never_unread before now file (ValueBeyond a node) = tt
never_unread before now file Memory = tt

-- ---- the numbers of a signature

module _ (t : Formulas) (l : LiveNumbers) (sig : Signature) (are : AreNumbersOf t l sig) where
  pub numbers_proper : IsProper (signature_of t l)
  numbers_proper = subst IsProper (sym are.are) are.proper

  pub read_over : (told : Option (List ℕ)) (m : ModelLists) → IsModelRead t (signature_of t l) told m → IsModelRead t sig told m
  read_over told m reads = subst (λ (s : Signature). IsModelRead t s told m) are.are reads

  pub ends_over : (told : Option (List ℕ)) (before now : Word → ℕ) (file : Numbered) (status : Status) → EndsAtFile (signature_of t l) told before now file status → EndsAtFile sig told before now file status
  ends_over told before now file status ends = subst (λ (s : Signature). EndsAtFile s told before now file status) are.are ends

  pub over_numbers : (m : Model) → IsModelOver sig.sorts sig.symbols m → IsModelOver (signature_of t l).sorts (signature_of t l).symbols m
  over_numbers m over = subst (λ (s : Signature). IsModelOver s.sorts s.symbols m) (sym are.are) over

-- ---- the text of a carried model

pub lines_of : (carry : Model → Model) (to : Signature) (r : Result Model Unmodelled) (m : Model) (w : List ℕ) → r ≡ Ok m → w ≡ model_lines (carry m) to → carried_text carry to r ≡ Ok w
lines_of carry to r m w given is = ap (λ (x : Result Model Unmodelled). carried_text carry to x) given ∙ ap Ok (sym is)

-- ---- a run that ends on the way

translating_may : (b : List ℕ) (ps : List Pass) (k : ℕ) (script model : Numbered) (code assertion : ℕ) → passes_end b ps ≡ Some (PassRefused code assertion) → MayEnd (translate ps k script model) (PassRefused code assertion)
translating_may b ps k script model code assertion is = inl (passes_end_code b ps code assertion is, tt)

extending_may : (b : List ℕ) (ps : List Pass) (k : ℕ) (script model : Numbered) (code assertion : ℕ) → passes_end b ps ≡ Some (PassRefused code assertion) → MayEnd (extend ps k script model) (PassRefused code assertion)
extending_may b ps k script model code assertion is = inl (passes_end_code b ps code assertion is, tt)

module _ (b : List ℕ) (ps : List Pass) (k : ℕ) (told : Option (List ℕ)) (script model : Numbered) (before now : Word → ℕ) (status : Status) (ends : EndsOnTheWay b k (passes_end b ps) status) where
  pub translating_way : EndsBefore (record { script = Some b; model = told }) before now (translate ps k script model) status
  translating_way = way_before b k (translate ps k script model) (passes_end b ps) (translating_may b ps k script model) (λ u missing. missing) refl refl (tail_of (signature_behind b ps k) (back_stages ps (commands b) (names_left b) k)) (λ g. refl) told before now status ends

  pub extending_way : EndsBefore (record { script = Some b; model = told }) before now (extend ps k script model) status
  extending_way = way_before b k (extend ps k script model) (passes_end b ps) (extending_may b ps k script model) (λ u missing. missing) refl refl (tail_of (signature_before b k) (forth_stages ps (commands b) (names_left b) k)) (λ g. refl) told before now status ends

-- ---- a run over a way

module _ (b : List ℕ) (ps : List Pass) (k : ℕ) (way : Way) (is : IsWay b ps k way) (told : Option (List ℕ)) (script model : Numbered) where
  -- ---- back

  module _ (before now : Word → ℕ) where
    pub translating_read : (status : Status) → EndsAtFile (signature_of way.table way.behind) told before now model status → EndsBefore (record { script = Some b; model = told }) before now (translate ps k script model) status
    translating_read status ends =
        let over = ends_over way.table way.behind (signature_behind b ps k) is.leads.behind told before now model status ends in
        late_before b k (translate ps k script model) (passes_end b ps) (translating_may b ps k script model) (λ u missing. missing) refl refl (tail_of (signature_behind b ps k) (back_stages ps (commands b) (names_left b) k)) (λ g. refl) is.script is.check is.passes tt told before now model refl status
        (file_ends_late (signature_behind b ps k) (back_stages ps (commands b) (names_left b) k) told before now model status over)
        (file_fails (signature_behind b ps k) (back_stages ps (commands b) (names_left b) k) told before now model status over)

    pub translating_carried : (m : ModelLists) → IsModelRead way.table (signature_of way.table way.behind) told m → (f : CarryFault) → CarriesBack way.table ps (commands b) (names_left b) k (model_at way.table m) (Err f)
        → EndsBefore (record { script = Some b; model = told }) before now (translate ps k script model) (status_of_carrying f)
    translating_carried m reads f carries =
        late_before b k (translate ps k script model) (passes_end b ps) (translating_may b ps k script model) (λ u missing. missing) refl refl (tail_of (signature_behind b ps k) (back_stages ps (commands b) (names_left b) k)) (λ g. refl) is.script is.check is.passes tt told before now model refl (status_of_carrying f)
        (carrying_ends_late way.table (commands b) k is.leads.within (signature_behind b ps k) (back_stages ps (commands b) (names_left b) k) (model_at way.table m) (translated b ps k (model_at way.table m)) told
        (read_over way.table way.behind (signature_behind b ps k) is.leads.behind told m reads).given f (status_of_carrying f) carries refl)
        (never_unread before now model f)

  module _ (m : ModelLists) (reads : IsModelRead way.table (signature_of way.table way.behind) told m) (r : ModelLists) (carries : CarriesBack way.table ps (commands b) (names_left b) k (model_at way.table m) (Ok r)) where
    back_reads : IsModelRead way.table (signature_behind b ps k) told m
    back_reads = read_over way.table way.behind (signature_behind b ps k) is.leads.behind told m reads

    pub translated_over : IsModelOver (signature_of way.table way.before).sorts (signature_of way.table way.before).symbols (model_at way.table r)
    translated_over =
        subst (λ (n : Model). IsModelOver (signature_of way.table way.before).sorts (signature_of way.table way.before).symbols n) (sym carries.3)
        (over_numbers way.table way.before (signature_before b k) is.leads.before (translated b ps k (model_at way.table m)) (is.leads.back (model_at way.table m) back_reads.over))

    translated_lines : (w : List ℕ) → w ≡ model_lines (model_at way.table r) (signature_of way.table way.before) → w ≡ model_lines (translated b ps k (model_at way.table m)) (signature_before b k)
    translated_lines w is_text = is_text ∙ (λ i. model_lines (carries.3 i) (is.leads.before.are i))

    pub translated_prepared : (rules : List Name) (w : List ℕ) → w ≡ model_lines (model_at way.table r) (signature_of way.table way.before) → IsPrepared rules (record { script = Some b; model = told }) (translate ps k script model) w
    translated_prepared rules w is_text = record {
      texts = done_texts b k (translate ps k script model) (passes_end b ps) (translating_may b ps k script model) (λ u missing. missing) refl refl (tail_of (signature_behind b ps k) (back_stages ps (commands b) (names_left b) k)) (λ g. refl) is.script is.check is.passes told
          (carried_well way.table (commands b) k is.leads.within (signature_behind b ps k) (back_stages ps (commands b) (names_left b) k) (model_at way.table m) (translated b ps k (model_at way.table m)) told back_reads.given r carries);
      output = by told back_reads.given;
      promise = tt;
    }
      where
        by : (o : Option (List ℕ)) → IfSome o (λ g. GivesModel (signature_behind b ps k) g (model_at way.table m)) → WhereTold (record { script = Some b; model = o }) (λ d g. IsOutputOf rules (translate ps k script model) d g w)
        by None gives = tt
        by (Some g) gives = lines_of (translated b ps k) (signature_before b k) (model_of g (signature_behind b ps k)) (model_at way.table m) w gives.1 (translated_lines w is_text)

  -- ---- forth

  module _ (before now : Word → ℕ) where
    pub extending_read : (status : Status) → EndsAtFile (signature_of way.table way.before) told before now model status → EndsBefore (record { script = Some b; model = told }) before now (extend ps k script model) status
    extending_read status ends =
        let over = ends_over way.table way.before (signature_before b k) is.leads.before told before now model status ends in
        late_before b k (extend ps k script model) (passes_end b ps) (extending_may b ps k script model) (λ u missing. missing) refl refl (tail_of (signature_before b k) (forth_stages ps (commands b) (names_left b) k)) (λ g. refl) is.script is.check is.passes tt told before now model refl status
        (file_ends_late (signature_before b k) (forth_stages ps (commands b) (names_left b) k) told before now model status over)
        (file_fails (signature_before b k) (forth_stages ps (commands b) (names_left b) k) told before now model status over)

    pub extending_carried : (m : ModelLists) → IsModelRead way.table (signature_of way.table way.before) told m → (f : CarryFault) → CarriesForth way.table ps (commands b) (names_left b) k (model_at way.table m) (Err f)
        → EndsBefore (record { script = Some b; model = told }) before now (extend ps k script model) (status_of_carrying f)
    extending_carried m reads f carries =
        late_before b k (extend ps k script model) (passes_end b ps) (extending_may b ps k script model) (λ u missing. missing) refl refl (tail_of (signature_before b k) (forth_stages ps (commands b) (names_left b) k)) (λ g. refl) is.script is.check is.passes tt told before now model refl (status_of_carrying f)
        (carrying_ends_late way.table (commands b) k is.leads.within (signature_before b k) (forth_stages ps (commands b) (names_left b) k) (model_at way.table m) (extended b ps k (model_at way.table m)) told
        (read_over way.table way.before (signature_before b k) is.leads.before told m reads).given f (status_of_carrying f) carries refl)
        (never_unread before now model f)

  module _ (m : ModelLists) (reads : IsModelRead way.table (signature_of way.table way.before) told m) (r : ModelLists) (carries : CarriesForth way.table ps (commands b) (names_left b) k (model_at way.table m) (Ok r)) where
    forth_reads : IsModelRead way.table (signature_before b k) told m
    forth_reads = read_over way.table way.before (signature_before b k) is.leads.before told m reads

    pub extended_over : IsModelOver (signature_of way.table way.behind).sorts (signature_of way.table way.behind).symbols (model_at way.table r)
    extended_over =
        subst (λ (n : Model). IsModelOver (signature_of way.table way.behind).sorts (signature_of way.table way.behind).symbols n) (sym carries.3)
        (over_numbers way.table way.behind (signature_behind b ps k) is.leads.behind (extended b ps k (model_at way.table m)) (is.leads.forth (model_at way.table m) forth_reads.over))

    extended_lines : (w : List ℕ) → w ≡ model_lines (model_at way.table r) (signature_of way.table way.behind) → w ≡ model_lines (extended b ps k (model_at way.table m)) (signature_behind b ps k)
    extended_lines w is_text = is_text ∙ (λ i. model_lines (carries.3 i) (is.leads.behind.are i))

    pub extended_prepared : (rules : List Name) (w : List ℕ) → w ≡ model_lines (model_at way.table r) (signature_of way.table way.behind) → IsPrepared rules (record { script = Some b; model = told }) (extend ps k script model) w
    extended_prepared rules w is_text = record {
      texts = done_texts b k (extend ps k script model) (passes_end b ps) (extending_may b ps k script model) (λ u missing. missing) refl refl (tail_of (signature_before b k) (forth_stages ps (commands b) (names_left b) k)) (λ g. refl) is.script is.check is.passes told
          (carried_well way.table (commands b) k is.leads.within (signature_before b k) (forth_stages ps (commands b) (names_left b) k) (model_at way.table m) (extended b ps k (model_at way.table m)) told forth_reads.given r carries);
      output = by told forth_reads.given;
      promise = tt;
    }
      where
        by : (o : Option (List ℕ)) → IfSome o (λ g. GivesModel (signature_before b k) g (model_at way.table m)) → WhereTold (record { script = Some b; model = o }) (λ d g. IsOutputOf rules (extend ps k script model) d g w)
        by None gives = tt
        by (Some g) gives = lines_of (extended b ps k) (signature_behind b ps k) (model_of g (signature_before b k)) (model_at way.table m) w gives.1 (extended_lines w is_text)
