-- How a run ends, and what it prepares, where a check is made one over truth values, or a model of that is carried back.
use Rattle.std.proofs.Common.{◌≡◌, ◌∙◌, sym, ap, subst, refl, ℕ, ◌≤◌, ◌⊎◌, inl, inr, List, [], ◌++◌, length, Option, Some, None, Ok, Err, arith, IsTrue}
use Rattle.std.specs.Prelude.{IfSome, count_by, option_map}
use Rattle.smt_terms.specs.Groups.{Named}
use Rattle.smt_terms.specs.Models.{Model, IsModel, IsModelOver}
use Rattle.smt_terms.specs.Sorts.{Name}
use Rattle.smt_terms.specs.Term.{Term}
use Rattle.term_groups.specs.Seen.{named_at}
use Rattle.term_table.specs.Formulas.{Formulas}
use Rattle.script_read.specs.CommandLists.{commands_of, is_check as is_node_check}
use Rattle.script_read.specs.Commands.{Command, Kind, Signature, checks, kinds, signature}
use Rattle.script_read.specs.Printable.{printable}
use Rattle.smt_print.specs.declared.layout.Layout.TheVariants.{Dag}
use Rattle.smt_print.specs.Text.{lines}
use Rattle.models.specs.LiveNumbers.{LiveNumbers, signature_of, AreLiveNumbersOf}
use Rattle.models.specs.ModelView.{ModelLists, model_at}
use Rattle.model_texts.specs.ModelLines.{model_lines}
use Rattle.model_texts.specs.ModelText.{model_of}
use Rattle.pass_laws.specs.declared.names.Pass.{Pass}
use Rattle.passes.specs.declared.carrying.CarryFault.{CarryFault}
use Rattle.passes.specs.Carrying.{CarriesBack}
use Rattle.bit_blast.specs.Carried.{lifted as lifted_over}
use Rattle.bit_scripts.specs.Bits.{AreBitsOf}
use Rattle.smtrw_answers.specs.declared.status.Status.{Status}
use Rattle.smtrw_answers.specs.declared.status.Status.TheVariants.{PassRefused}
use Rattle.smtrw_answers.specs.Blasting.{blasted_commands, blasted_text, signature_blasted, lifted, unblasted, IsBlasting}
use Rattle.smtrw_answers.specs.Carrying.{signature_before, signature_behind}
use Rattle.smtrw_answers.specs.Endings.{or_later, script_end, check_end, passes_end, bits_end, blasting_end, unblast_stages}
use Rattle.smtrw_answers.specs.Faults.{status_of_carrying}
use Rattle.smtrw_answers.specs.Outputs.{commands, names_left}
use Rattle.smtrw_answers.specs.Words.{Word, Numbered, blast, unblast}
use Rattle.smtrw_answers.specs.Written.{IsOutputOf}
use Rattle.smtrw_run.specs.declared.blasting.BlastedWay.{BlastedWay}
use Rattle.smtrw_run.specs.Blasting.{IsBlastedWay}
use Rattle.smtrw_run.specs.Carrying.{AreNumbersOf, EndsAtFile, EndsOnTheWay, GivesModel, IsModelRead}
use Rattle.smtrw_run.specs.Prepared.{EndsBefore, IsPrepared, texts_beside}
use Rattle.smtrw_run.specs.Run.{MayEnd, WhereTold}
use Rattle.smtrw_run.proofs.CarriedModels.{ends_over, lines_of, never_unread, over_numbers, read_over}
use Rattle.smtrw_run.proofs.Carriages.{carried_well, carrying_ends_late, done_texts, file_ends_late, file_fails, late_before, tail_of, way_before}
use Rattle.smtrw_run.proofs.Commanded.{checks_are}
use Rattle.smtrw_run.proofs.Endings.{passes_end_code}
use Rattle.smtrw_run.proofs.Ways.{all_counted}

-- ---- the codes of refusals

bits_code : (o : Option ℕ) (code assertion : ℕ) → option_map (λ (a : ℕ). PassRefused 90 a) o ≡ Some (PassRefused code assertion) → code ≡ 90
bits_code (Some a) code assertion is = cc
bits_code None code assertion is = absurd cc

blasting_code : (b : List ℕ) (ps : List Pass) (k code assertion : ℕ) → blasting_end b ps k ≡ Some (PassRefused code assertion) → (code ≡ 50) ⊎ (code ≡ 90)
blasting_code b ps k code assertion is = by (passes_end b ps) refl is
  where
    by : (o : Option Status) → passes_end b ps ≡ o → or_later o (bits_end b ps k) ≡ Some (PassRefused code assertion) → (code ≡ 50) ⊎ (code ≡ 90)
    by None at found = inr (bits_code _ code assertion found)
    by (Some s) at found = inl (passes_end_code b ps code assertion (at ∙ found))

blasting_may : (b : List ℕ) (ps : List Pass) (k : ℕ) (script : Numbered) (code assertion : ℕ) → blasting_end b ps k ≡ Some (PassRefused code assertion) → MayEnd (blast ps k script) (PassRefused code assertion)
blasting_may b ps k script code assertion is = elim (blasting_code b ps k code assertion is) [ inl passes ↦ inl (passes, tt) | inr bits ↦ inr (inr (inl (bits, tt))) ]

unblasting_may : (b : List ℕ) (ps : List Pass) (k : ℕ) (script model : Numbered) (code assertion : ℕ) → blasting_end b ps k ≡ Some (PassRefused code assertion) → MayEnd (unblast ps k script model) (PassRefused code assertion)
unblasting_may b ps k script model code assertion is = elim (blasting_code b ps k code assertion is) [ inl passes ↦ inl (passes, tt) | inr bits ↦ inr (inr (inl (bits, tt))) ]

-- ---- the text over truth values

or_none : (o : Option Status) → o ≡ or_later o None
or_none None = refl
or_none (Some s) = refl

module _ (b : List ℕ) (ps : List Pass) (k : ℕ) (script : Numbered) (text : Word → Option (List ℕ)) where
  blast_ends : or_later (script_end b) (or_later (check_end b k) (blasting_end b ps k)) ≡ or_later (script_end b) (or_later (check_end b k) (or_later (blasting_end b ps k) None))
  blast_ends = ap (λ (o : Option Status). or_later (script_end b) (or_later (check_end b k) o)) (or_none (blasting_end b ps k))

  pub blasting_before : (before now : Word → ℕ) (status : Status) → EndsOnTheWay b k (blasting_end b ps k) status → EndsBefore (texts_beside b text (blast ps k script)) before now (blast ps k script) status
  blasting_before before now status ends = way_before b k (blast ps k script) (blasting_end b ps k) (blasting_may b ps k script) (λ u missing. missing) refl refl (λ g. None) (λ g. blast_ends) (Some []) before now status ends

  pub blasted_prepared : (rules : List Name) (w : List ℕ) (way : BlastedWay) → IsBlastedWay b ps k way → w ≡ blasted_text b ps k → IsPrepared rules (texts_beside b text (blast ps k script)) (blast ps k script) w
  blasted_prepared rules w way is is_text = record {
    texts = done_texts b k (blast ps k script) (blasting_end b ps k) (blasting_may b ps k script) (λ u missing. missing) refl refl (λ g. None) (λ g. blast_ends) is.way.script is.way.check is.fine (Some []) refl;
    output = is_text;
    promise = subst (λ (x : List ℕ). IsBlasting b ps k x) (sym is_text) is.promise;
  }

-- what is printed of it
pub blasted_lines : (b : List ℕ) (ps : List Pass) (k : ℕ) (way : BlastedWay) → IsBlastedWay b ps k way → (first second : BlastedWay) → first ≡ way → second ≡ way → (old new : List ℕ) → old ≡ [] → new ≡ old ++ lines Dag (commands_of first.way.table second.blasting.script.commands)
    → new ≡ blasted_text b ps k
blasted_lines b ps k way is first second one two old new empty printed =
    printed ∙ (λ i. empty i ++ lines Dag (commands_of (one i).way.table (two i).blasting.script.commands)) ∙ ap (λ (cs : List (Command Term)). lines Dag cs) is.blasting.commands

-- ---- a model of it, carried back

module _ (b : List ℕ) (ps : List Pass) (k : ℕ) (told : Option (List ℕ)) (script model : Numbered) (before now : Word → ℕ) where
  pub unblasting_way : (status : Status) → EndsOnTheWay b k (blasting_end b ps k) status → EndsBefore (record { script = Some b; model = told }) before now (unblast ps k script model) status
  unblasting_way status ends =
      way_before b k (unblast ps k script model) (blasting_end b ps k) (unblasting_may b ps k script model) (λ u missing. missing) refl refl (tail_of (signature_blasted b ps k) (unblast_stages b ps k)) (λ g. refl) told before now status ends

module _ (b : List ℕ) (ps : List Pass) (k : ℕ) (w : BlastedWay) (is : IsBlastedWay b ps k w) where
  abbrev t : Formulas
  t = w.way.table

  abbrev sig : Signature
  sig = signature_blasted b ps k

  -- ---- what is declared at its check

  one_check : checks (blasted_commands b ps k) ≡ 1
  one_check =
      let count = all_counted (blasted_commands b ps k) in
      let two : length (kinds (blasted_commands b ps k)) ≡ 2 = ap (λ (ks : List Kind). length ks) is.blasted.kinds in
      omega (arith, count, two)

  pub blasted_printable : IsTrue (printable (commands_of w.way.table w.blasting.script.commands))
  blasted_printable = subst (λ (cs : List (Command Term)). IsTrue (printable cs)) (sym is.blasting.commands) is.blasted.printable

  pub blasted_last : 1 ≤ count_by is_node_check w.blasting.script.commands
  blasted_last =
      let count = checks_are w.way.table w.blasting.script.commands in
      let same : checks (commands_of w.way.table w.blasting.script.commands) ≡ checks (blasted_commands b ps k) = ap (λ (cs : List (Command Term)). checks cs) is.blasting.commands in
      let one = one_check in
      omega (arith, count, same, one)

  module _ (declared : LiveNumbers) (live : AreLiveNumbersOf w.way.table declared) (at_check : signature_of w.way.table declared ≡ signature (commands_of w.way.table w.blasting.script.commands) 1) where
    pub declared_numbers : AreNumbersOf w.way.table declared (signature_blasted b ps k)
    declared_numbers = record { live = live; are = at_check ∙ ap (λ (cs : List (Command Term)). signature cs 1) is.blasting.commands; proper = is.proper }

    module _ (told : Option (List ℕ)) (script model : Numbered) where
      pub unblasting_read : (before now : Word → ℕ) (status : Status) → EndsAtFile (signature_of w.way.table declared) told before now model status → EndsBefore (record { script = Some b; model = told }) before now (unblast ps k script model) status
      unblasting_read before now status ends =
          let over = ends_over t declared sig declared_numbers told before now model status ends in
          late_before b k (unblast ps k script model) (blasting_end b ps k) (unblasting_may b ps k script model) (λ u missing. missing) refl refl (tail_of sig (unblast_stages b ps k)) (λ g. refl) is.way.script is.way.check is.fine tt told before now model refl status
          (file_ends_late sig (unblast_stages b ps k) told before now model status over)
          (file_fails sig (unblast_stages b ps k) told before now model status over)

      -- ---- the lifted model

      module _ (m : ModelLists) (reads : IsModelRead w.way.table (signature_of w.way.table declared) told m) where
        read_blasted : IsModelRead w.way.table (signature_blasted b ps k) told m
        read_blasted = read_over t declared sig declared_numbers told m reads

        lifted_is_over : IsModelOver (signature_behind b ps k).sorts (signature_behind b ps k).symbols (lifted b ps k (model_at w.way.table m))
        lifted_is_over = (is.blasted.lifts (model_at t m) read_blasted.over).0

        module _ (l : ModelLists) (lifts : model_at w.way.table l ≡ lifted_over (signature_of w.way.table w.way.behind).symbols (named_at w.way.table w.blasting.bits) (model_at w.way.table m)) where
          lifted_is : model_at w.way.table l ≡ lifted b ps k (model_at w.way.table m)
          lifted_is = lifts ∙ (λ i. lifted_over (is.way.leads.behind.are i).symbols (is.blasting.bits i) (model_at t m))

          pub lifted_valid : IsModel (model_at w.way.table l)
          lifted_valid = subst IsModel (sym lifted_is) lifted_is_over.valid

          pub unblasting_carried : (before now : Word → ℕ) (f : CarryFault) → CarriesBack w.way.table ps (commands b) (names_left b) k (model_at w.way.table l) (Err f) → EndsBefore (record { script = Some b; model = told }) before now (unblast ps k script model) (status_of_carrying f)
          unblasting_carried before now f carries =
              late_before b k (unblast ps k script model) (blasting_end b ps k) (unblasting_may b ps k script model) (λ u missing. missing) refl refl (tail_of sig (unblast_stages b ps k)) (λ g. refl) is.way.script is.way.check is.fine tt told before now model refl (status_of_carrying f)
              (carrying_ends_late t (commands b) k is.way.leads.within sig (unblast_stages b ps k) (model_at t m) (unblasted b ps k (model_at t m)) told read_blasted.given f (status_of_carrying f)
              (subst (λ (n : Model). CarriesBack t ps (commands b) (names_left b) k n (Err f)) lifted_is carries) refl)
              (never_unread before now model f)

          module _ (r : ModelLists) (carries : CarriesBack w.way.table ps (commands b) (names_left b) k (model_at w.way.table l) (Ok r)) where
            carries_lifted : CarriesBack w.way.table ps (commands b) (names_left b) k (lifted b ps k (model_at w.way.table m)) (Ok r)
            carries_lifted = subst (λ (n : Model). CarriesBack t ps (commands b) (names_left b) k n (Ok r)) lifted_is carries

            pub unblasted_over : IsModelOver (signature_of w.way.table w.way.before).sorts (signature_of w.way.table w.way.before).symbols (model_at w.way.table r)
            unblasted_over =
                subst (λ (n : Model). IsModelOver (signature_of t w.way.before).sorts (signature_of t w.way.before).symbols n) (sym carries_lifted.3)
                (over_numbers t w.way.before (signature_before b k) is.way.leads.before (unblasted b ps k (model_at t m)) (is.way.leads.back (lifted b ps k (model_at t m)) lifted_is_over))

            pub unblasted_prepared : (rules : List Name) (out : List ℕ) → out ≡ model_lines (model_at w.way.table r) (signature_of w.way.table w.way.before) → IsPrepared rules (record { script = Some b; model = told }) (unblast ps k script model) out
            unblasted_prepared rules out is_text = record {
              texts = done_texts b k (unblast ps k script model) (blasting_end b ps k) (unblasting_may b ps k script model) (λ u missing. missing) refl refl (tail_of sig (unblast_stages b ps k)) (λ g. refl) is.way.script is.way.check is.fine told
                  (carried_well t (commands b) k is.way.leads.within sig (unblast_stages b ps k) (model_at t m) (unblasted b ps k (model_at t m)) told read_blasted.given r carries_lifted);
              output = by told read_blasted.given;
              promise = tt;
            }
              where
                by : (o : Option (List ℕ)) → IfSome o (λ g. GivesModel (signature_blasted b ps k) g (model_at w.way.table m)) → WhereTold (record { script = Some b; model = o }) (λ d g. IsOutputOf rules (unblast ps k script model) d g out)
                by None gives = tt
                by (Some g) gives = lines_of (unblasted b ps k) (signature_before b k) (model_of g (signature_blasted b ps k)) (model_at w.way.table m) out gives.1 (is_text ∙ (λ i. model_lines (carries_lifted.3 i) (is.way.leads.before.are i)))

  -- ---- the bits that it is lifted by

  pub lifting_bits : AreBitsOf (signature_of w.way.table w.way.behind).symbols (named_at w.way.table w.blasting.bits)
  lifting_bits = subst (λ (s : Signature). AreBitsOf s.symbols (named_at t w.blasting.bits)) (sym is.way.leads.behind.are) (subst (λ (ns : Named). AreBitsOf (signature_behind b ps k).symbols ns) (sym is.blasting.bits) is.bits)
