-- What comes of a demonstration, where its script is accepted and its passes make one list of commands.
use Rattle.std.proofs.Common.{◌≡◌, ◌∙◌, refl, ap, ℕ, ◌≤◌, false, List, length, codes, Option, None, Result, Ok, Err}
use Rattle.std.specs.List.{list_any}
use Rattle.smt_print.specs.declared.layout.Layout.TheVariants.{Dag}
use Rattle.smt_print.specs.Text.{lines}
use Rattle.smt_terms.specs.Fresh.{Supply}
use Rattle.smt_terms.specs.Sorts.{Name}
use Rattle.smt_terms.specs.Term.{Term}
use Rattle.script_read.specs.Commands.{Command}
use Rattle.pass_laws.specs.declared.names.Pass.{Pass}
use Rattle.pass_laws.specs.declared.names.ListFault.{ListFault}
use Rattle.pass_laws.specs.Lists.{pass_list, pass_named}
use Rattle.pass_laws.specs.Passed.{refused_assertion}
use Rattle.smtrw_answers.specs.declared.status.Status.{Status}
use Rattle.smtrw_answers.specs.declared.status.Status.TheVariants.{Done, Refused, Usage, ReadFailed, WriteFailed, OutOfMemory, ModelRefused, Beyond128, PassRefused}
use Rattle.smtrw_answers.specs.Asked.{IsInRange}
use Rattle.smtrw_answers.specs.Endings.{or_later, rewrite_end, script_end}
use Rattle.smtrw_answers.specs.Laws.{DemoScriptsAreAccepted, DemoScriptsAreShort, WithoutRulesOneList}
use Rattle.smtrw_answers.specs.Outputs.{assertions, demo_line, demo_passes, demo_script, rewritten, rewritten_commands}
use Rattle.smtrw_answers.specs.Words.{greatest_size, is_rules, Asked, rewrite, translate, extend, blast, unblast, dimacs, answer, stats, demo, source_of}
use Rattle.smtrw_run.specs.declared.rewriting.Rewriting.{Rewriting}
use Rattle.smtrw_run.specs.Demo.{line_of}
use Rattle.smtrw_run.specs.Prepared.{EndsEarly, IsMadeFor}
use Rattle.smtrw_run.specs.Rewriting.{IsMadeBy}
use Rattle.smtrw_run.proofs.Endings.{faultless_ends}
use Rattle.smtrw_run.proofs.ReadTexts.{IsSoundFor}

-- ---- the passes

listed : pass_list (codes "nnf,simplify,cnf") ≡ Ok demo_passes
unfolding pass_named
listed = refl

pub passes_known : (r : Result (List Pass) ListFault) (fault : ListFault) → r ≡ pass_list (codes "nnf,simplify,cnf") → r ≡ Err fault → ⊥
passes_known r fault is refused = let same = listed in absurd cc

pub passes_are : (r : Result (List Pass) ListFault) (ps : List Pass) → r ≡ pass_list (codes "nnf,simplify,cnf") → r ≡ Ok ps → ps ≡ demo_passes
passes_are r ps is found = let same = listed in cc

none_refused : (cs : List (Command Term)) (s : Supply) → refused_assertion demo_passes cs s ≡ None
none_refused cs s = refl

-- ---- how it ends

memory_alone : (end : Option Status) → end ≡ None → (status : Status) → EndsEarly end status → status ≡ OutOfMemory
memory_alone end fine (Refused r) is = absurd cc
memory_alone end fine (PassRefused code assertion) is = absurd cc
memory_alone end fine OutOfMemory is = refl
memory_alone end fine Done is = absurd is
memory_alone end fine (Usage u) is = absurd is
memory_alone end fine (ReadFailed word) is = absurd is
memory_alone end fine WriteFailed is = absurd is
memory_alone end fine (ModelRefused code line byte) is = absurd is
memory_alone end fine (Beyond128 assertion) is = absurd is

module _ (accepted : DemoScriptsAreAccepted) (short : DemoScriptsAreShort) where
  script_sound : (seed size : ℕ) → 1 ≤ size → size ≤ greatest_size → (b : List ℕ) → b ≡ demo_script seed size → script_end b ≡ None
  script_sound seed size least most b is = ap (λ (d : List ℕ). script_end d) is ∙ faultless_ends (demo_script seed size) (short seed size most) (accepted seed size least)

  pub made_is_sound : (b : List ℕ) (a : Asked) → IsInRange a → IsMadeFor (source_of a) b → IsSoundFor (source_of a) b
  made_is_sound b (rewrite passes layout file) range made = tt
  made_is_sound b (translate passes check script model) range made = tt
  made_is_sound b (extend passes check script model) range made = tt
  made_is_sound b (blast passes check script) range made = tt
  made_is_sound b (unblast passes check script model) range made = tt
  made_is_sound b (dimacs passes check script) range made = tt
  made_is_sound b (answer passes check script text) range made = tt
  made_is_sound b (stats file) range made = tt
  made_is_sound b (demo seed size) range made = script_sound seed size range.0 range.1 b made

module _ (seed size : ℕ) (least : 1 ≤ size) (most : size ≤ greatest_size) (accepted : DemoScriptsAreAccepted) (short : DemoScriptsAreShort) where
  fine : (b : List ℕ) → b ≡ demo_script seed size → rewrite_end b demo_passes ≡ None
  fine b is i = or_later (script_sound accepted short seed size least most b is i) None

  pub demonstration_ends : (b : List ℕ) → b ≡ demo_script seed size → (ps : List Pass) → ps ≡ demo_passes → (status : Status) → EndsEarly (rewrite_end b ps) status → status ≡ OutOfMemory
  demonstration_ends b is ps are status ends = memory_alone (rewrite_end b ps) (ap (λ (qs : List Pass). rewrite_end b qs) are ∙ fine b is) status ends

  -- ---- the line

  pub demonstration_shows : WithoutRulesOneList → (b : List ℕ) → b ≡ demo_script seed size → (ps : List Pass) → ps ≡ demo_passes → (rules : List Name) (r : Rewriting) → IsMadeBy b ps rules Dag r → (bytes_in bytes_out : ℕ) → bytes_in ≡ length b → bytes_out ≡ length r.text
      → (w : List ℕ) → w ≡ line_of (record { seed = seed; size = size; bytes_in = bytes_in; assertions = r.assertions; bytes_out = bytes_out }) → w ≡ demo_line seed size
  demonstration_shows one b is ps are rules r made bytes_in bytes_out in_is out_is w shown =
      let without : list_any is_rules ps ≡ false = ap (λ (qs : List Pass). list_any is_rules qs) are in
      let same : made.0 ≡ rewritten_commands (demo_script seed size) demo_passes = one b ps rules made.0 without made.1 ∙ (λ i. rewritten_commands (is i) (are i)) in
      let inside : bytes_in ≡ length (demo_script seed size) = in_is ∙ ap (λ (d : List ℕ). length d) is in
      let count : r.assertions ≡ length (assertions (rewritten_commands (demo_script seed size) demo_passes)) = made.3 ∙ ap (λ (cs : List (Command Term)). length (assertions cs)) same in
      let outside : bytes_out ≡ length (rewritten (demo_script seed size) demo_passes Dag) = out_is ∙ ap (λ (text : List ℕ). length text) made.2 ∙ ap (λ (cs : List (Command Term)). length (lines Dag cs)) same in
      shown ∙ (λ i. line_of (record { seed = seed; size = size; bytes_in = inside i; assertions = count i; bytes_out = outside i }))
