-- How a run ends, and what it prepares, where a check is taken for clauses, or a solver's answer to them is carried back.
use Rattle.std.proofs.Common.{◌≡◌, ◌∙◌, sym, ap, subst, refl, ℕ, ◌⊎◌, inl, inr, nat_lt, Bool, true, false, cond, List, [], length, Option, Some, None, Result, Ok, Err}
use Rattle.std.specs.Prelude.{IfErr, IfOk, IfSome, IsErrAnd, option_map, codes}
use Rattle.std.proofs.lemmas.List.{length-map}
use Rattle.smt_terms.specs.declared.ids.SymId.{SymId}
use Rattle.smt_terms.specs.Models.{Model, IsModelOver}
use Rattle.smt_terms.specs.Sorts.{Name, Symbol}
use Rattle.term_table.specs.Formulas.{symbol_at}
use Rattle.script_read.specs.Commands.{Signature}
use Rattle.models.specs.LiveNumbers.{signature_of}
use Rattle.models.specs.ModelView.{ModelLists, model_at}
use Rattle.model_texts.specs.ModelLines.{model_lines}
use Rattle.pass_laws.specs.declared.names.Pass.{Pass}
use Rattle.passes.specs.declared.carrying.CarryFault.{CarryFault}
use Rattle.passes.specs.declared.carrying.CarryFault.TheVariants.{NoSuchCheck, EvalWidth, Beyond128 as ValueBeyond, Memory}
use Rattle.passes.specs.Carrying.{CarriesBack, CarriesTo}
use Rattle.dimacs_link.specs.declared.answers.Answer.{Answer}
use Rattle.dimacs_link.specs.declared.answers.Answer.TheVariants.{Sat, Unsat, Unknown}
use Rattle.dimacs_link.specs.AnswerModels.{answered as answered_over, AreFlags}
use Rattle.dimacs_link.specs.AnswerTexts.{reading}
use Rattle.dimacs_link.specs.Constants.{constants_at}
use Rattle.smtrw_answers.specs.declared.status.Status.{Status}
use Rattle.smtrw_answers.specs.declared.status.Status.TheVariants.{Done, Refused, Usage, ReadFailed, WriteFailed, OutOfMemory, ModelRefused, Beyond128, PassRefused}
use Rattle.smtrw_answers.specs.Carrying.{signature_before, signature_behind}
use Rattle.smtrw_answers.specs.Endings.{longest_text, or_later, script_end, check_end, passes_end, clauses_end, linking_end, reading_end, text_end}
use Rattle.smtrw_answers.specs.Faults.{status_of_carrying}
use Rattle.smtrw_answers.specs.Linking.{linked_constants, linked_model, answered, answer_lines, lines_if_read, IsLinking}
use Rattle.smtrw_answers.specs.Outputs.{commands, names_left}
use Rattle.smtrw_answers.specs.Words.{Word, Numbered, dimacs, answer}
use Rattle.smtrw_answers.specs.Written.{IsOutputOf}
use Rattle.smtrw_run.specs.declared.carrying.Way.{Way}
use Rattle.smtrw_run.specs.Carrying.{EndsOnTheWay}
use Rattle.smtrw_run.specs.Linking.{CarriesAnswer, EndsAtAnswerFile, EndsAtStages, GivesAnswer, IsAnswerRead, IsLinkedWay, LinksText, linked_stages, reading_refusal}
use Rattle.smtrw_run.specs.Prepared.{EndsBefore, IsPrepared, texts_beside}
use Rattle.smtrw_run.specs.Run.{MayEnd, WhereTold}
use Rattle.smtrw_run.proofs.CarriedModels.{over_numbers}
use Rattle.smtrw_run.proofs.Carriages.{EndsLate, FailsFor, beyond_end, done_texts, late_before, no_check, way_before, wide_end}
use Rattle.smtrw_run.proofs.Endings.{passes_end_code}

-- ---- the codes of refusals

clauses_code : (o : Option ℕ) (code assertion : ℕ) → option_map (λ (a : ℕ). PassRefused 96 a) o ≡ Some (PassRefused code assertion) → code ≡ 96
clauses_code (Some a) code assertion is = cc
clauses_code None code assertion is = absurd cc

linking_code : (b : List ℕ) (ps : List Pass) (k code assertion : ℕ) → linking_end b ps k ≡ Some (PassRefused code assertion) → (code ≡ 50) ⊎ (code ≡ 96)
linking_code b ps k code assertion is = by (passes_end b ps) refl is
  where
    by : (o : Option Status) → passes_end b ps ≡ o → or_later o (clauses_end b ps k) ≡ Some (PassRefused code assertion) → (code ≡ 50) ⊎ (code ≡ 96)
    by None at found = inr (clauses_code _ code assertion found)
    by (Some s) at found = inl (passes_end_code b ps code assertion (at ∙ found))

linking_may : (b : List ℕ) (ps : List Pass) (k : ℕ) (script : Numbered) (code assertion : ℕ) → linking_end b ps k ≡ Some (PassRefused code assertion) → MayEnd (dimacs ps k script) (PassRefused code assertion)
linking_may b ps k script code assertion is = elim (linking_code b ps k code assertion is) [ inl passes ↦ inl (passes, tt) | inr clauses ↦ inr (inr (inr (clauses, tt))) ]

answering_may : (b : List ℕ) (ps : List Pass) (k : ℕ) (script text : Numbered) (code assertion : ℕ) → linking_end b ps k ≡ Some (PassRefused code assertion) → MayEnd (answer ps k script text) (PassRefused code assertion)
answering_may b ps k script text code assertion is = elim (linking_code b ps k code assertion is) [ inl passes ↦ inl (passes, tt) | inr clauses ↦ inr (inr (inr (clauses, tt))) ]

-- ---- the clauses

or_none : (o : Option Status) → o ≡ or_later o None
or_none None = refl
or_none (Some s) = refl

module _ (b : List ℕ) (ps : List Pass) (k : ℕ) (script : Numbered) (text : Word → Option (List ℕ)) where
  link_ends : or_later (script_end b) (or_later (check_end b k) (linking_end b ps k)) ≡ or_later (script_end b) (or_later (check_end b k) (or_later (linking_end b ps k) None))
  link_ends = ap (λ (o : Option Status). or_later (script_end b) (or_later (check_end b k) o)) (or_none (linking_end b ps k))

  pub linking_before : (before now : Word → ℕ) (status : Status) → EndsOnTheWay b k (linking_end b ps k) status → EndsBefore (texts_beside b text (dimacs ps k script)) before now (dimacs ps k script) status
  linking_before before now status ends = way_before b k (dimacs ps k script) (linking_end b ps k) (linking_may b ps k script) (λ u missing. missing) refl refl (λ g. None) (λ g. link_ends) (Some []) before now status ends

  pub linked_failed : (before now : Word → ℕ) (r : Result (List ℕ) Status) → LinksText b ps k r → IfErr r (EndsBefore (texts_beside b text (dimacs ps k script)) before now (dimacs ps k script))
  linked_failed before now (Ok w) links = tt
  linked_failed before now (Err status) links = linking_before before now status links

  prepared_clauses : (rules : List Name) (w : List ℕ) → script_end b ≡ None → check_end b k ≡ None → linking_end b ps k ≡ None → IsLinking b ps k w → IsPrepared rules (texts_beside b text (dimacs ps k script)) (dimacs ps k script) w
  prepared_clauses rules w whole found fine promise = record {
    texts = done_texts b k (dimacs ps k script) (linking_end b ps k) (linking_may b ps k script) (λ u missing. missing) refl refl (λ g. None) (λ g. link_ends) whole found fine (Some []) refl;
    output = promise.text;
    promise = promise;
  }

  pub linked_prepared : (rules : List Name) (r : Result (List ℕ) Status) → script_end b ≡ None → check_end b k ≡ None → LinksText b ps k r → IfOk r (IsPrepared rules (texts_beside b text (dimacs ps k script)) (dimacs ps k script))
  linked_prepared rules (Ok w) whole found links = prepared_clauses rules w whole found links.0 links.1
  linked_prepared rules (Err status) whole found links = tt

-- ---- an answer

module _ (b : List ℕ) (ps : List Pass) (k : ℕ) where
  abbrev n : ℕ
  n = length (linked_constants b ps k)

  abbrev pub tail : List ℕ → Option Status
  tail g = text_end g (reading_end b ps k g (reading (length (linked_constants b ps k)) g))

  -- a refusal of the text ends the run
  refusal_ends : (g : List ℕ) (long : Bool) (r : Result Answer ℕ) (s : Status) → cond long (Some (ModelRefused 2 0 longest_text)) (reading_refusal g r) ≡ Some s → cond long (Some (ModelRefused 2 0 longest_text)) (reading_end b ps k g r) ≡ Some s
  refusal_ends g true r s is = is
  refusal_ends g false (Err place) s is = is
  refusal_ends g false (Ok a) s is = absurd cc

  some_refused : (told : Option (List ℕ)) (s : Status) → IfSome told (λ g. text_end g (reading_refusal g (reading (length (linked_constants b ps k)) g)) ≡ Some s) → IfSome told (λ g. tail g ≡ Some s)
  some_refused None s is = tt
  some_refused (Some g) s is = refusal_ends g (nat_lt longest_text (length g)) (reading n g) s is

  module _ (told : Option (List ℕ)) (before now : Word → ℕ) (file : Numbered) where
    ends_late : (status : Status) → EndsAtAnswerFile (length (linked_constants b ps k)) told before now file status → EndsLate tail told status
    ends_late (ReadFailed word) is = tt
    ends_late Done is = absurd is
    ends_late (Refused r) is = absurd is
    ends_late (Usage u) is = absurd is
    ends_late WriteFailed is = absurd is
    ends_late OutOfMemory is = tt
    ends_late (ModelRefused code line byte) is = some_refused told (ModelRefused code line byte) is
    ends_late (Beyond128 assertion) is = absurd is
    ends_late (PassRefused code assertion) is = absurd is

    fails : (status : Status) → EndsAtAnswerFile (length (linked_constants b ps k)) told before now file status → FailsFor before now file status
    fails (ReadFailed word) is = is
    fails Done is = tt
    fails (Refused r) is = tt
    fails (Usage u) is = tt
    fails WriteFailed is = tt
    fails OutOfMemory is = tt
    fails (ModelRefused code line byte) is = tt
    fails (Beyond128 assertion) is = tt
    fails (PassRefused code assertion) is = tt

  -- the end of a text that gives an answer
  given_end : (told : Option (List ℕ)) (a : Answer) (end : Option Status) → IfSome told (λ g. GivesAnswer (length (linked_constants b ps k)) g a) → ((g : List ℕ) → reading_end b ps k g (Ok a) ≡ end) → IfSome told (λ g. tail g ≡ end)
  given_end None a end gives is = tt
  given_end (Some g) a end gives is = (λ i. cond (gives.0 i) (Some (ModelRefused 2 0 longest_text)) (reading_end b ps k g (gives.1 i))) ∙ is g

  pub answering_way : (told : Option (List ℕ)) (script text : Numbered) (before now : Word → ℕ) (status : Status) → EndsOnTheWay b k (linking_end b ps k) status → EndsBefore (record { script = Some b; model = told }) before now (answer ps k script text) status
  answering_way told script text before now status ends =
      way_before b k (answer ps k script text) (linking_end b ps k) (answering_may b ps k script text) (λ u missing. missing) refl refl tail (λ g. refl) told before now status ends

  module _ (way : Way) (constants : List SymId) (is : IsLinkedWay b ps k way constants) (told : Option (List ℕ)) (script text : Numbered) where
    late : (before now : Word → ℕ) (status : Status) → EndsLate tail told status → FailsFor before now text status → EndsBefore (record { script = Some b; model = told }) before now (answer ps k script text) status
    late before now status ends fail =
        late_before b k (answer ps k script text) (linking_end b ps k) (answering_may b ps k script text) (λ u missing. missing) refl refl tail (λ g. refl) is.way.script is.way.check is.fine tt told before now text refl status ends fail

    counted : length constants ≡ length (linked_constants b ps k)
    counted = sym (length-map constants (symbol_at way.table)) ∙ ap (λ (cs : List Symbol). length cs) is.are

    pub answering_read : (before now : Word → ℕ) (status : Status) → EndsAtAnswerFile (length constants) told before now text status → EndsBefore (record { script = Some b; model = told }) before now (answer ps k script text) status
    answering_read before now status ends =
        let over : EndsAtAnswerFile (length (linked_constants b ps k)) told before now text status = subst (λ (m : ℕ). EndsAtAnswerFile m told before now text status) counted ends in
        late before now status (ends_late told before now text status over) (fails told before now text status over)

    read_answer : (a : Answer) → IsAnswerRead (length constants) told a → IsAnswerRead (length (linked_constants b ps k)) told a
    read_answer a reads = subst (λ (m : ℕ). IsAnswerRead m told a) counted reads

    -- ---- the text of a line or of a model

    prepared : (a : Answer) → IsAnswerRead (length constants) told a → ((g : List ℕ) → reading_end b ps k g (Ok a) ≡ None) → (rules : List Name) (w : List ℕ) → w ≡ answer_lines b ps k a → IsPrepared rules (record { script = Some b; model = told }) (answer ps k script text) w
    prepared a reads fine rules w is_text = record {
      texts = done_texts b k (answer ps k script text) (linking_end b ps k) (answering_may b ps k script text) (λ u missing. missing) refl refl tail (λ g. refl) is.way.script is.way.check is.fine told (given_end told a None (read_answer a reads).given fine);
      output = by told (read_answer a reads).given;
      promise = tt;
    }
      where
        by : (o : Option (List ℕ)) → IfSome o (λ g. GivesAnswer (length (linked_constants b ps k)) g a) → WhereTold (record { script = Some b; model = o }) (λ d g. IsOutputOf rules (answer ps k script text) d g w)
        by None gives = tt
        by (Some g) gives = ap (λ (r : Result Answer ℕ). lines_if_read b ps k r) gives.1 ∙ ap Ok (sym is_text)

    pub unsat_prepared : IsAnswerRead (length constants) told Unsat → (rules : List Name) (r : Result (List ℕ) Status) → IfOk r (λ w. w ≡ codes "unsat\n") → IfOk r (IsPrepared rules (record { script = Some b; model = told }) (answer ps k script text))
    unsat_prepared reads rules (Ok w) is_text = prepared Unsat reads (λ g. refl) rules w is_text
    unsat_prepared reads rules (Err status) is_text = tt

    pub unknown_prepared : IsAnswerRead (length constants) told Unknown → (rules : List Name) (r : Result (List ℕ) Status) → IfOk r (λ w. w ≡ codes "unknown\n") → IfOk r (IsPrepared rules (record { script = Some b; model = told }) (answer ps k script text))
    unknown_prepared reads rules (Ok w) is_text = prepared Unknown reads (λ g. refl) rules w is_text
    unknown_prepared reads rules (Err status) is_text = tt

    module _ (vs : List Bool) (reads : IsAnswerRead (length constants) told (Sat vs)) where
      stages_late : (status : Status) → EndsAtStages (linked_stages b ps k vs) status → EndsLate tail told status
      stages_late (Beyond128 assertion) ends = given_end told (Sat vs) (Some (Beyond128 assertion)) (read_answer (Sat vs) reads).given (λ g. ends)
      stages_late (PassRefused code assertion) ends = (ends.0, given_end told (Sat vs) (Some (PassRefused code assertion)) (read_answer (Sat vs) reads).given (λ g. ends.1))
      stages_late OutOfMemory ends = tt
      stages_late Done ends = absurd ends
      stages_late (Refused r) ends = absurd ends
      stages_late (Usage u) ends = absurd ends
      stages_late (ReadFailed word) ends = absurd ends
      stages_late WriteFailed ends = absurd ends
      stages_late (ModelRefused code line byte) ends = absurd ends

      never_unread : (before now : Word → ℕ) (status : Status) → EndsAtStages (linked_stages b ps k vs) status → FailsFor before now text status
      never_unread before now (Beyond128 assertion) ends = tt
      never_unread before now (PassRefused code assertion) ends = tt
      never_unread before now OutOfMemory ends = tt
      never_unread before now Done ends = tt
      never_unread before now (Refused r) ends = tt
      never_unread before now (Usage u) ends = tt
      never_unread before now (ReadFailed word) ends = absurd ends
      never_unread before now WriteFailed ends = tt
      never_unread before now (ModelRefused code line byte) ends = tt

      pub values_before : (before now : Word → ℕ) (r : Result (List ℕ) Status) → CarriesAnswer b ps k vs r → IfErr r (EndsBefore (record { script = Some b; model = told }) before now (answer ps k script text))
      values_before before now (Ok w) carries = tt
      values_before before now (Err status) carries = late before now status (stages_late status carries) (never_unread before now status carries)

      pub values_prepared : (rules : List Name) (r : Result (List ℕ) Status) → CarriesAnswer b ps k vs r → IfOk r (IsPrepared rules (record { script = Some b; model = told }) (answer ps k script text))
      values_prepared rules (Ok w) carries = prepared (Sat vs) reads (λ g. carries.0) rules w carries.1
      values_prepared rules (Err status) carries = tt

  -- ---- truth values carried back

  pub values_wanting : (vs : List Bool) (r : Result (List ℕ) Status) → IsErrAnd r (λ s. s ≡ OutOfMemory) → CarriesAnswer b ps k vs r
  values_wanting vs (Err status) same = subst (λ (s : Status). EndsAtStages (linked_stages b ps k vs) s) (sym same) tt
  values_wanting vs (Ok w) same = absurd same

  module _ (way : Way) (constants : List SymId) (is : IsLinkedWay b ps k way constants) (vs : List Bool) (lengths : length vs ≡ length constants) where
    pub flags_there : AreFlags (signature_of way.table way.behind).symbols (constants_at way.table constants)
    flags_there =
        subst (λ (s : Signature). AreFlags s.symbols (constants_at way.table constants)) (sym is.way.leads.behind.are)
        (subst (λ (cs : List Symbol). AreFlags (signature_behind b ps k).symbols cs) (sym is.are) is.flags)

    module _ (m : ModelLists) (made : model_at way.table m ≡ answered_over (signature_of way.table way.behind) (constants_at way.table constants) vs) where
      linked_is : model_at way.table m ≡ linked_model b ps k vs
      linked_is = made ∙ (λ i. answered_over (is.way.leads.behind.are i) (is.are i) vs)

      linked_over : IsModelOver (signature_behind b ps k).sorts (signature_behind b ps k).symbols (linked_model b ps k vs)
      linked_over =
          let count : length constants ≡ length (linked_constants b ps k) = sym (length-map constants (symbol_at way.table)) ∙ ap (λ (cs : List Symbol). length cs) is.are in
          is.linked.over vs (lengths ∙ count)

      carried_fault : (f : CarryFault) → CarriesTo way.table (commands b) k (linked_stages b ps k vs) (answered b ps k vs) (Err f) → EndsAtStages (linked_stages b ps k vs) (status_of_carrying f)
      carried_fault (NoSuchCheck check count) carries = absurd (no_check way.table (commands b) k is.way.leads.within (signature_behind b ps k) (λ x. linked_stages b ps k vs) (linked_model b ps k vs) (answered b ps k vs) None tt carries.2)
      carried_fault (EvalWidth a bits) carries = (refl, wide_end (linked_stages b ps k vs) a carries.1)
      carried_fault (ValueBeyond a node) carries = beyond_end (linked_stages b ps k vs) (Some a) carries.1 carries.2
      carried_fault Memory carries = tt

      pub values_failed : (f : CarryFault) (r : Result (List ℕ) Status) → CarriesBack way.table ps (commands b) (names_left b) k (model_at way.table m) (Err f) → IsErrAnd r (λ s. s ≡ status_of_carrying f) → CarriesAnswer b ps k vs r
      values_failed f (Err status) carries same =
          subst (λ (s : Status). EndsAtStages (linked_stages b ps k vs) s) (sym same)
          (carried_fault f (subst (λ (x : Model). CarriesBack way.table ps (commands b) (names_left b) k x (Err f)) linked_is carries))
      values_failed f (Ok w) carries same = absurd same

      module _ (r : ModelLists) (carries : CarriesBack way.table ps (commands b) (names_left b) k (model_at way.table m) (Ok r)) where
        carries_linked : CarriesBack way.table ps (commands b) (names_left b) k (linked_model b ps k vs) (Ok r)
        carries_linked = subst (λ (x : Model). CarriesBack way.table ps (commands b) (names_left b) k x (Ok r)) linked_is carries

        pub values_over : IsModelOver (signature_of way.table way.before).sorts (signature_of way.table way.before).symbols (model_at way.table r)
        values_over =
            subst (λ (x : Model). IsModelOver (signature_of way.table way.before).sorts (signature_of way.table way.before).symbols x) (sym carries_linked.3)
            (over_numbers way.table way.before (signature_before b k) is.way.leads.before (answered b ps k vs) (is.way.leads.back (linked_model b ps k vs) linked_over))

        pub values_written : (w : List ℕ) → w ≡ model_lines (model_at way.table r) (signature_of way.table way.before) → CarriesAnswer b ps k vs (Ok w)
        values_written w is_text = (beyond_end (linked_stages b ps k vs) None carries_linked.1 carries_linked.2, is_text ∙ (λ i. model_lines (carries_linked.3 i) (is.way.leads.before.are i)))
