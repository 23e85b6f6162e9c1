-- What is written of a carried model reads back as the carried model.
use Rattle.std.proofs.Common.{◌≡◌, ◌∙◌, sym, ap, refl, ℕ, true, List, [], ◌∷◌, Option, Some, None, Result, Ok}
use Rattle.std.specs.Prelude.{nat_lt, length}
use Rattle.std.specs.List.{list_all}
use Rattle.smt_terms.specs.Fresh.{Supply}
use Rattle.smt_terms.specs.Models.{Model}
use Rattle.smt_terms.specs.Rank.{is_sort}
use Rattle.smt_terms.specs.Sorts.{Sort, Symbol}
use Rattle.smt_terms.specs.Term.{Term}
use Rattle.smt_terms.proofs.Tests.{both_true, and_true}
use Rattle.script_read.specs.Commands.{Command, Signature, signature}
use Rattle.script_read.specs.Laws.{ReadingAnswers, ReadScriptsArePrintable, NamesLeftAreNew}
use Rattle.script_read.specs.Printable.{is_writable, printable}
use Rattle.script_read.specs.Script.{script, fault}
use Rattle.model_texts.specs.GivenFits.{has_sorts}
use Rattle.model_texts.specs.Laws.{has_writable_names, is_writable_sort, is_writable_symbol, is_writable_signature, ModelsReadBack, SignaturesAreWritable}
use Rattle.model_texts.specs.ModelLines.{model_lines}
use Rattle.model_texts.specs.ModelText.{model_of}
use Rattle.model_texts.specs.Proper.{IsProper}
use Rattle.model_texts.specs.Refusals.{Unmodelled}
use Rattle.pass_laws.specs.declared.names.Pass.{Pass}
use Rattle.pass_laws.specs.Carry.{Stage, back_stages, forth_stages, beyond}
use Rattle.pass_laws.specs.Laws.{IsReady}
use Rattle.pass_laws.specs.Passed.{passed, refused_assertion}
use Rattle.smtrw_answers.specs.Accepted.{nothing_mapped, nothing_first, accepted_text}
use Rattle.smtrw_answers.specs.Carrying.{translated, extended, signature_before, signature_behind, carried_text}
use Rattle.smtrw_answers.specs.Endings.{or_later, longest_text, script_end, check_end, passes_end, stages_end, model_end, text_end}
use Rattle.smtrw_answers.specs.Laws.{TranslatedTextsReadBack, ExtendedTextsReadBack}
use Rattle.smtrw_answers.specs.Outputs.{read_or_none, commands, names_left, rewritten_commands}
use Rattle.smtrw_answers.specs.declared.status.Status.{Status}
use Rattle.smtrw_answers.specs.declared.status.Status.TheVariants.{ModelRefused}
use Rattle.smtrw_answers.proofs.CarriedModels.{IsCarriable, CarryingLaws, ready_passed, carried_back, carried_forth}
use Rattle.smtrw_answers.proofs.ReadModels.{read_over}
use Rattle.smtrw_answers.proofs.ReadPoints.{read_found}
use Rattle.smtrw_answers.proofs.ReadableTexts.{read_from, read_readable}

-- ---- a run that ends well

pub none_met : (a b : Option Status) → or_later a b ≡ None → (a ≡ None) × (b ≡ None)
none_met None b h = (refl, h)
none_met (Some s) b h = absurd cc

pub within_stages : (stages : List Stage) → stages_end stages ≡ None → beyond stages ≡ None
within_stages stages h = nothing_mapped _ (beyond stages) (none_met _ _ h).1

pub read_text : (g : List ℕ) (o : Option Status) → text_end g o ≡ None → o ≡ None
read_text g o h = nothing_first (nat_lt longest_text (length g)) (ModelRefused 2 0 longest_text) o h

-- of the script, of the passes and of what is evaluated
record EndedWell (b : List ℕ) (ps : List Pass) (stages : List Stage) : Type 0 where
  whole : fault b ≡ None
  taken : refused_assertion ps (commands b) (names_left b) ≡ None
  within : beyond stages ≡ None

ended_well : (b : List ℕ) (ps : List Pass) (k : ℕ) (g : List ℕ) (m : Model) (stages : Model → List Stage) (o : Result Model Unmodelled)
    → or_later (script_end b) (or_later (check_end b k) (or_later (passes_end b ps) (text_end g (model_end stages o)))) ≡ None → o ≡ Ok m → EndedWell b ps (stages m)
ended_well b ps k g m stages o ends read =
    let first = none_met (script_end b) _ ends in
    let second = none_met (check_end b k) _ first.1 in
    let third = none_met (passes_end b ps) _ second.1 in
    let fourth = read_text g (model_end stages o) third.1 in
    record {
      whole = accepted_text b first.0;
      taken = nothing_mapped _ (refused_assertion ps (commands b) (names_left b)) third.0;
      within = within_stages (stages m) (sym (ap (model_end stages) read) ∙ fourth);
    }

-- ---- the commands of an accepted text

pub record TextLaws : Type 0 where
  pub answers : ReadingAnswers
  pub reads_printable : ReadScriptsArePrintable
  pub names : NamesLeftAreNew
  pub carrying : CarryingLaws
  pub proper : (cs : List (Command Term)) (k : ℕ) → printable cs ≡ true → IsProper (signature cs k)
  pub writable : SignaturesAreWritable
  pub back : ModelsReadBack

same_text : (p q : List ℕ) → ◌≡◌ {A = Result (List ℕ) Unmodelled} (Ok p) (Ok q) → p ≡ q
same_text p q h = cc

sorts_fine : (fs : List Symbol) → list_all is_writable_symbol fs ≡ true → list_all has_sorts fs ≡ true
sorts_fine [] all = refl
sorts_fine (f ∷ fs) all =
    let a = both_true (is_writable_symbol f) (list_all is_writable_symbol fs) all in
    let b = both_true (is_writable f.name) _ a.0 in
    let c = both_true _ (list_all is_writable_sort (f.result ∷ f.args)) b.1 in
    let d = both_true (is_writable_sort f.result) (list_all is_writable_sort f.args) c.1 in
    and_true (has_sorts f) (list_all has_sorts fs)
    (and_true (is_sort f.result) (list_all is_sort f.args) (both_true (is_sort f.result) (has_writable_names f.result) d.0).0 (args_fine f.args d.1)) (sorts_fine fs a.1)
  where
    args_fine : (ss : List Sort) → list_all is_writable_sort ss ≡ true → list_all is_sort ss ≡ true
    args_fine [] all = refl
    args_fine (s ∷ ss) all =
        let a = both_true (is_writable_sort s) (list_all is_writable_sort ss) all in
        and_true (is_sort s) (list_all is_sort ss) (both_true (is_sort s) (has_writable_names s) a.0).0 (args_fine ss a.1)

module _ (laws : TextLaws) where
  -- a model that was read over the signature at a point, and what is printed of one
  module _ (cs : List (Command Term)) (prints : printable cs ≡ true) (k : ℕ) (m : Model) where
    writable : is_writable_signature (signature cs k) ≡ true
    writable = laws.writable cs k prints

    pub read_carriable : (g : List ℕ) → model_of g (signature cs k) ≡ Ok m → IsCarriable cs k m
    read_carriable g h =
        let sig = signature cs k in
        let others = both_true (list_all is_writable sig.sorts) _ writable in
        let fine = sorts_fine sig.symbols (both_true (list_all is_writable_symbol sig.symbols) _ others.1).0 in
        let from = read_from sig m g h in
        record { over = read_over sig m (laws.proper cs k prints) fine from; readable = read_readable sig m from }

    pub printed_back : IsCarriable cs k m → model_of (model_lines m (signature cs k)) (signature cs k) ≡ Ok m
    printed_back is =
        laws.back (signature cs k) m (record { over = is.over; signature = writable; graphs = is.readable.graphs; div_by_zero = is.readable.div_by_zero; mod_by_zero = is.readable.mod_by_zero })

  module _ (b : List ℕ) (ps : List Pass) (taken : refused_assertion ps (commands b) (names_left b) ≡ None) (whole : fault b ≡ None) where
    abbrev found : List (Command Term) × Supply
    found = read_or_none (script b)

    reads : script b ≡ Ok (read_or_none (script b))
    reads = read_found (script b) ((laws.answers b).1 whole)

    pub ready : IsReady (commands b) (names_left b)
    ready = record { printable = laws.reads_printable b found reads; names = laws.names b found reads }

    pub ready_rewritten : IsReady (rewritten_commands b ps) (passed ps (commands b) (names_left b)).1
    ready_rewritten = ready_passed laws.carrying ps (commands b) (names_left b) taken ready

    translation_back : (k : ℕ) (g : List ℕ) (m : Model) → beyond (back_stages ps (commands b) (names_left b) k m) ≡ None → model_of g (signature_behind b ps k) ≡ Ok m
        → model_of (model_lines (translated b ps k m) (signature_before b k)) (signature_before b k) ≡ Ok (translated b ps k m)
    translation_back k g m within h =
        let is = read_carriable (rewritten_commands b ps) ready_rewritten.printable k m g h in
        printed_back (commands b) ready.printable k (translated b ps k m) (carried_back laws.carrying ps (commands b) (names_left b) taken ready k m within is)

    extension_back : (k : ℕ) (g : List ℕ) (m : Model) → beyond (forth_stages ps (commands b) (names_left b) k m) ≡ None → model_of g (signature_before b k) ≡ Ok m
        → model_of (model_lines (extended b ps k m) (signature_behind b ps k)) (signature_behind b ps k) ≡ Ok (extended b ps k m)
    extension_back k g m within h =
        let is = read_carriable (commands b) ready.printable k m g h in
        printed_back (rewritten_commands b ps) ready_rewritten.printable k (extended b ps k m) (carried_forth laws.carrying ps (commands b) (names_left b) taken ready k m within is)

  -- ---- texts

  pub printed_as : (m : Model) (carry : Model → Model) (sig : Signature) (o : Result Model Unmodelled) (out : List ℕ) → o ≡ Ok m → carried_text carry sig o ≡ Ok out → model_lines (carry m) sig ≡ out
  printed_as m carry sig o out read h = same_text (model_lines (carry m) sig) out (sym (ap (carried_text carry sig) read) ∙ h)

  pub translated_back : TranslatedTextsReadBack
  translated_back b ps k g out m ends read h =
      let ended = ended_well b ps k g m (back_stages ps (commands b) (names_left b) k) (model_of g (signature_behind b ps k)) ends read in
      ap (λ w. model_of w (signature_before b k)) (sym (printed_as m (translated b ps k) (signature_before b k) (model_of g (signature_behind b ps k)) out read h))
      ∙ translation_back b ps ended.taken ended.whole k g m ended.within read

  pub extended_back : ExtendedTextsReadBack
  extended_back b ps k g out m ends read h =
      let ended = ended_well b ps k g m (forth_stages ps (commands b) (names_left b) k) (model_of g (signature_before b k)) ends read in
      ap (λ w. model_of w (signature_behind b ps k)) (sym (printed_as m (extended b ps k) (signature_behind b ps k) (model_of g (signature_before b k)) out read h))
      ∙ extension_back b ps ended.taken ended.whole k g m ended.within read
