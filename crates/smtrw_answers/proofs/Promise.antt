-- Rewriting keeps its promise: reading keeps meaning, the passes carry models and, where none of them makes groups, keep
-- values, and printing reads back.
use Rattle.std.proofs.Common.{◌≡◌, ◌∙◌, sym, ap, refl, ℕ, suc, Bool, true, List, [], ◌∷◌, ◌++◌, map, length, Ok}
use Rattle.std.specs.List.{list_all}
use Rattle.smt_terms.specs.Fresh.{Supply}
use Rattle.smt_terms.specs.Keeps.{Keeps}
use Rattle.smt_terms.specs.Models.{Model, IsModel}
use Rattle.smt_terms.specs.Rank.{sort_of}
use Rattle.smt_terms.specs.Sorts.{bool}
use Rattle.smt_terms.specs.Term.{Term}
use Rattle.smt_terms.specs.Val.{no_variables}
use Rattle.smt_terms.proofs.Tests.{both_true, and_true}
use Rattle.script_read.specs.Commands.{Command, live, literals}
use Rattle.script_read.specs.Laws.{SamePoints, denoted, form_denoted}
use Rattle.script_read.specs.Mean.{Denoted}
use Rattle.script_terms.specs.Read.{has_sort}
use Rattle.script_read.specs.Scenes.{Asserted, forms_script}
use Rattle.script_read.specs.Script.{script}
use Rattle.smt_print.specs.declared.layout.Layout.{Layout}
use Rattle.smt_print.specs.Laws.{Each, MeansTheSame, ReadsBack}
use Rattle.smt_print.specs.Text.{lines}
use Rattle.pass_laws.specs.declared.names.Pass.{Pass}
use Rattle.pass_laws.specs.Laws.{IsReady, AreEquivalent, CarriesModels}
use Rattle.pass_laws.proofs.Literals.{sort_is_bool}
use Rattle.pass_laws.proofs.Truths.{same_truth}
use Rattle.smtrw_answers.specs.Carrying.{translated, extended}
use Rattle.smtrw_answers.specs.Headline.{are_equivalences, MeanTheSame, IsEquivalentAt, IsRewriting}
use Rattle.smtrw_answers.specs.Laws.{RewritingKeepsItsPromise}
use Rattle.smtrw_answers.specs.Outputs.{read_or_none, commands}
use Rattle.smtrw_answers.proofs.ReadPoints.{TextLaws, read_found, points, means, read_model, model_read, text, printed_model, model_printed}

-- ---- lists that are related one by one

each_length : {A B : Type 0} (R : A → B → Type 0) (xs : List A) (ys : List B) → Each R xs ys → length xs ≡ length ys
each_length R [] [] h = refl
each_length R (x ∷ xs) (y ∷ ys) h = ap suc (each_length R xs ys h.1)
each_length R [] (y ∷ ys) h = absurd h
each_length R (x ∷ xs) [] h = absurd h

all_first : (test : Term → Bool) (ts us : List Term) → list_all test (ts ++ us) ≡ true → list_all test ts ≡ true
all_first test [] us all = refl
all_first test (t ∷ ts) us all =
    let parts = both_true (test t) (list_all test (ts ++ us)) all in
    and_true (test t) (list_all test ts) parts.0 (all_first test ts us parts.1)

-- ---- assertions of the text, of its commands, of those in their place, and of the text that is printed of these

same_denoted : (m : Model) → IsModel m → (t u : Term) → has_sort bool t ≡ true → Keeps t u → denoted m no_variables t ≡ denoted m no_variables u
same_denoted m model t u formula keeps = λ i. (same_truth m model t u (sort_is_bool (sort_of t) formula) keeps i, sym keeps.sort i)

head_same : (d e : Denoted) (ds es : List Denoted) → ◌≡◌ {A = List Denoted} (d ∷ ds) (e ∷ es) → (d ≡ e) × (ds ≡ es)
head_same d e ds es h = (cc, cc)

meanings_same : (m : Model) → IsModel m → (as_read : List Asserted) (ts us : List Term) (as_printed : List Asserted) → map (form_denoted m) as_read ≡ map (denoted m no_variables) ts → list_all (has_sort bool) ts ≡ true → Each Keeps ts us → Each MeansTheSame us as_printed
    → MeanTheSame as_read as_printed m
meanings_same m model [] [] [] [] read formulas keeps means = tt
meanings_same m model (a ∷ as_read) (t ∷ ts) (u ∷ us) (c ∷ as_printed) read formulas keeps means =
    let parts = both_true (has_sort bool t) (list_all (has_sort bool) ts) formulas in
    let same = head_same (form_denoted m a) (denoted m no_variables t) (map (form_denoted m) as_read) (map (denoted m no_variables) ts) read in
    (same.0 ∙ same_denoted m model t u parts.0 keeps.0 ∙ sym (means.0 m), meanings_same m model as_read ts us as_printed same.1 parts.1 keeps.1 means.1)
meanings_same m model [] (t ∷ ts) us as_printed read formulas keeps means = absurd cc
meanings_same m model (a ∷ as_read) [] us as_printed read formulas keeps means = absurd cc
meanings_same m model [] [] (u ∷ us) as_printed read formulas keeps means = absurd keeps
meanings_same m model [] [] [] (c ∷ as_printed) read formulas keeps means = absurd means
meanings_same m model (a ∷ as_read) (t ∷ ts) [] as_printed read formulas keeps means = absurd keeps
meanings_same m model (a ∷ as_read) (t ∷ ts) (u ∷ us) [] read formulas keeps means = absurd means

-- ---- the sentence

module _ (laws : TextLaws) (b : List ℕ) (ps : List Pass) (layout : Layout) (ds : List (Command Term)) (left : Supply) (ready : IsReady ds left) (same : are_equivalences ps ≡ true → AreEquivalent (commands b) ds) (carried : CarriesModels (commands b) ds (translated b ps) (extended b ps)) (reads : script b ≡ Ok (read_or_none (script b))) where
  abbrev cs : List (Command Term)
  cs = commands b

  abbrev w : List ℕ
  w = lines layout ds

  read : SamePoints b (commands b)
  read = points laws.reading b reads

  printed : ReadsBack layout ds
  printed = text laws layout ds ready.printable

  equivalent_at : AreEquivalent (commands b) ds → (k : ℕ) → IsEquivalentAt b (lines layout ds) k
  equivalent_at equal k = record {
    signatures = printed.signatures k ∙ equal.signatures k ∙ read.signatures k;
    count = sym (each_length MeansTheSame (live ds k) (live (forms_script w) k) (printed.live k)) ∙ sym (each_length Keeps (live cs k) (live ds k) (equal.live k)) ∙ read.live k;
    meanings = λ m over.
        let meant = means laws.reading b reads m k in
        let formulas : list_all (has_sort bool) (live cs k) ≡ true = all_first (has_sort bool) (live cs k) (literals cs k) meant.truth_values in
        meanings_same m over.valid (live (forms_script b) k) (live cs k) (live ds k) (live (forms_script w) k) meant.asserted formulas (equal.live k) (printed.live k);
  }

  promise : IsRewriting b ps (lines layout ds)
  promise = record {
    accepted = printed.accepted;
    same_points = printed.kinds ∙ carried.kinds ∙ read.kinds;
    equivalence = λ equivalences k is. equivalent_at (same equivalences) k;
    translation = λ k is m over held. model_read laws.reading b reads (translated b ps k m) k (carried.back k m (printed_model laws layout ds ready.printable m k over held));
    extension = λ k is m over held. model_printed laws layout ds ready.printable (extended b ps k m) k (carried.forth k m (read_model laws.reading b reads m k over held));
  }

pub keeps_promise : TextLaws → RewritingKeepsItsPromise
keeps_promise laws b ps layout cs s accepted ready same carried = promise laws b ps layout cs s ready same carried (read_found (script b) ((laws.reading.answers b).1 accepted))
