-- Models of a text at its points and of its commands; and models of commands and of the text that is printed of them.
use Rattle.std.proofs.Common.{◌≡◌, ◌∙◌, sym, refl, ℕ, true, ◌&&◌, List, [], ◌∷◌, Result, Ok, Err, subst}
use Rattle.std.specs.Prelude.{is_ok}
use Rattle.std.specs.List.{list_all}
use Rattle.smt_terms.specs.Fresh.{Supply}
use Rattle.smt_terms.specs.Models.{Model, IsModelOver}
use Rattle.smt_terms.specs.Term.{Term}
use Rattle.script_read.specs.Commands.{Command, Signature, live, literals, signature}
use Rattle.script_read.specs.Laws.{PointsAgree, SamePoints, ReadingAnswers, SameMeaning, ReadingKeepsMeaning}
use Rattle.script_read.specs.Mean.{is_true_of}
use Rattle.script_read.specs.Printable.{printable}
use Rattle.script_read.specs.Satisfied.{is_true_in, sat}
use Rattle.script_read.specs.Scenes.{Asserted, forms_script, means_true, holds}
use Rattle.script_read.specs.Script.{script}
use Rattle.script_terms.specs.Refusals.{Unaccepted}
use Rattle.smt_print.specs.declared.layout.Layout.{Layout}
use Rattle.smt_print.specs.Laws.{Each, MeansTheSame, ReadsBack, PrintingReadsBack}
use Rattle.smt_print.specs.Text.{lines}
use Rattle.pass_laws.specs.Laws.{IsModelOf}
use Rattle.smtrw_answers.specs.Headline.{signature_at, IsModelAt}
use Rattle.smtrw_answers.specs.Outputs.{read_or_none, commands}

truths_meant : (m : Model) (us : List Term) (as_printed : List Asserted) → Each MeansTheSame us as_printed → list_all (means_true m) as_printed ≡ list_all (is_true_in m) us
truths_meant m [] [] means = refl
truths_meant m (u ∷ us) (c ∷ as_printed) means = λ i. is_true_of (means.0 m i) && truths_meant m us as_printed means.1 i
truths_meant m [] (c ∷ as_printed) means = absurd means
truths_meant m (u ∷ us) [] means = absurd means

pub read_found : (x : Result (List (Command Term) × Supply) Unaccepted) → is_ok x ≡ true → x ≡ Ok (read_or_none x)
read_found (Ok r) is = refl
read_found (Err e) is = absurd cc

pub record ReadingLaws : Type 0 where
  pub answers : ReadingAnswers
  pub points : PointsAgree
  pub meaning : ReadingKeepsMeaning

pub record TextLaws : Type 0 where
  pub reading : ReadingLaws
  pub printed : PrintingReadsBack

over_same : (m : Model) (g h : Signature) → g ≡ h → IsModelOver g.sorts g.symbols m → IsModelOver h.sorts h.symbols m
over_same m g h same over = subst (λ (f : Signature). IsModelOver f.sorts f.symbols m) same over

-- ---- a text that was read

module _ (laws : ReadingLaws) (b : List ℕ) (reads : script b ≡ Ok (read_or_none (script b))) where
  abbrev cs : List (Command Term)
  cs = commands b

  pub points : SamePoints b (commands b)
  points = laws.points b (read_or_none (script b)) reads

  pub means : (m : Model) (k : ℕ) → SameMeaning b (commands b) m k
  means m k = laws.meaning b (read_or_none (script b)) reads m k

  pub read_model : (m : Model) (k : ℕ) → IsModelAt b k m → holds m b k ≡ true → IsModelOf (commands b) k m
  read_model m k over held = record { over = over_same m (signature_at b k) (signature cs k) (sym (points.signatures k)) over; sat = sym (means m k).satisfied ∙ held }

  pub model_read : (m : Model) (k : ℕ) → IsModelOf (commands b) k m → IsModelAt b k m × (holds m b k ≡ true)
  model_read m k is = (over_same m (signature cs k) (signature_at b k) (points.signatures k) is.over, (means m k).satisfied ∙ is.sat)

-- ---- commands that are printed

module _ (laws : TextLaws) (layout : Layout) (ds : List (Command Term)) (fine : printable ds ≡ true) where
  abbrev w : List ℕ
  w = lines layout ds

  pub text : ReadsBack layout ds
  text = laws.printed layout ds fine

  holds_printed : (m : Model) (k : ℕ) → holds m (lines layout ds) k ≡ sat m ds k
  holds_printed m k i = truths_meant m (live ds k) (live (forms_script w) k) (text.live k) i && truths_meant m (literals ds k) (literals (forms_script w) k) (text.literals k) i

  pub printed_model : (m : Model) (k : ℕ) → IsModelAt (lines layout ds) k m → holds m (lines layout ds) k ≡ true → IsModelOf ds k m
  printed_model m k over held = record { over = over_same m (signature_at w k) (signature ds k) (text.signatures k) over; sat = sym (holds_printed m k) ∙ held }

  pub model_printed : (m : Model) (k : ℕ) → IsModelOf ds k m → IsModelAt (lines layout ds) k m × (holds m (lines layout ds) k ≡ true)
  model_printed m k is = (over_same m (signature ds k) (signature_at w k) (sym (text.signatures k)) is.over, holds_printed m k ∙ is.sat)
