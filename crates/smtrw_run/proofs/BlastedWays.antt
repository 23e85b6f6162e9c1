-- A check behind passes that is made one over truth values, with the way back from it.
use Rattle.std.proofs.Common.{◌≡◌, ◌∙◌, ap, ℕ, false, List, Option, Some, None}
use Rattle.std.specs.Prelude.{option_map}
use Rattle.std.specs.List.{list_any}
use Rattle.smt_terms.specs.Sorts.{Name}
use Rattle.smt_terms.specs.Term.{Term}
use Rattle.term_table.specs.Formulas.{Formulas}
use Rattle.term_walk.specs.Walking.{GrowsTo}
use Rattle.script_read.specs.CommandLists.{commands_of}
use Rattle.script_read.specs.Commands.{Command, Signature}
use Rattle.models.specs.LiveNumbers.{LiveNumbers}
use Rattle.model_texts.specs.Laws.{SignaturesAreProper}
use Rattle.pass_laws.specs.declared.names.Pass.{Pass}
use Rattle.passes.specs.Removing.{IsPlanKept}
use Rattle.passes.proofs.PlansStay.{plan_over_stays, plan_stays}
use Rattle.bit_scripts.specs.declared.scripts.Blasting.{Blasting}
use Rattle.bit_scripts.specs.declared.scripts.BlastScriptFault.{BlastScriptFault}
use Rattle.bit_scripts.specs.declared.scripts.BlastScriptFault.TheVariants.{NotBits, Memory}
use Rattle.bit_scripts.specs.Laws.{BlastedBitsAreLive, IsBlasted, ScriptsAreBlasted}
use Rattle.bit_scripts.specs.Nodes.{IsBlastingOf, IsRefusedBy}
use Rattle.bit_scripts.specs.Scripts.{refused_root}
use Rattle.smtrw_answers.specs.declared.status.Status.{Status}
use Rattle.smtrw_answers.specs.declared.status.Status.TheVariants.{Done, Refused, Usage, ReadFailed, WriteFailed, OutOfMemory, ModelRefused, Beyond128, PassRefused}
use Rattle.smtrw_answers.specs.Accepted.{accepted_text}
use Rattle.smtrw_answers.specs.Blasting.{names_behind, blasted_commands}
use Rattle.smtrw_answers.specs.Endings.{or_later, passes_end, bits_end, blasting_end}
use Rattle.smtrw_answers.specs.Faults.{status_of_blasting}
use Rattle.smtrw_answers.specs.Laws.{BlastingKeepsItsPromise}
use Rattle.smtrw_answers.specs.Outputs.{commands, names_left, rewritten_commands}
use Rattle.smtrw_answers.specs.Words.{is_rules}
use Rattle.smtrw_run.specs.declared.carrying.Passage.{Passage}
use Rattle.smtrw_run.specs.declared.carrying.Way.{Way}
use Rattle.smtrw_run.specs.Blasting.{IsBlastedWay}
use Rattle.smtrw_run.specs.Carrying.{AreNumbersOf, EndsOnTheWay, IsPassage, IsWay}
use Rattle.smtrw_run.proofs.Passages.{last, models, of_passed, ready}
use Rattle.smtrw_run.proofs.Ways.{live_stay, signature_stays}

-- ---- a way stays one as its table grows

numbers_stay : (t u : Formulas) → GrowsTo t u → (l : LiveNumbers) (sig : Signature) → AreNumbersOf t l sig → AreNumbersOf u l sig
numbers_stay t u grows l sig are = record { live = live_stay t u grows l are.live; are = signature_stays t u grows l are.live ∙ are.are; proper = are.proper }

way_stays : (b : List ℕ) (ps : List Pass) (k : ℕ) (way : Way) (u : Formulas) → GrowsTo way.table u → IsPlanKept way.table way.plan → IsWay b ps k way → IsWay b ps k (record { table = u; plan = way.plan; before = way.before; behind = way.behind })
way_stays b ps k way u grows kept is = record {
  script = is.script;
  check = is.check;
  passes = is.passes;
  leads = record {
    within = is.leads.within;
    before = numbers_stay way.table u grows way.before _ is.leads.before;
    behind = numbers_stay way.table u grows way.behind _ is.leads.behind;
    over = plan_over_stays way.table u grows way.plan is.leads.over;
    plan = plan_stays way.table u grows way.plan ps (commands b) (names_left b) kept is.leads.plan;
    ready = is.leads.ready;
    order = is.leads.order;
    back = is.leads.back;
    forth = is.leads.forth;
  };
}

-- ---- what the passes led to

module _ (b : List ℕ) (ps : List Pass) (k : ℕ) (rules : List Name) (p : Passage) (is : IsPassage b ps k rules p) (unruled : list_any is_rules ps ≡ false) where
  abbrev led : List (Command Term)
  led = commands_of p.way.table p.script.commands

  -- ---- a check over bits

  module _ (u : Formulas) (blasting : Blasting) (grows : GrowsTo p.way.table u) (made : IsBlastingOf u (commands_of p.way.table p.script.commands) k p.fresh blasting) where
    blasting_made : IsBlastingOf u (rewritten_commands b ps) k (names_behind b ps) blasting
    blasting_made = of_passed b ps k rules p is unruled (λ cs s. IsBlastingOf u cs k s blasting) made

    pub blasted_way_is : BlastingKeepsItsPromise → ScriptsAreBlasted → BlastedBitsAreLive → SignaturesAreProper → IsBlastedWay b ps k (record { way = record { table = u; plan = p.way.plan; before = p.way.before; behind = p.way.behind }; blasting = blasting })
    blasted_way_is promised scripts bits proper =
        let accepted : refused_root (rewritten_commands b ps) k ≡ None = blasting_made.accepted in
        let first = is.way.leads.within.0 in
        let blasted : IsBlasted (rewritten_commands b ps) k (names_behind b ps) (blasted_commands b ps k) = scripts (rewritten_commands b ps) k (names_behind b ps) (ready b ps k rules p is unruled).printable (ready b ps k rules p is unruled).names first (last b ps k rules p is unruled) accepted in
        record {
          way = way_stays b ps k p.way u grows is.kept is.way;
          fine = λ i. or_later (is.way.passes i) (option_map (λ (a : ℕ). PassRefused 90 a) (accepted i));
          blasting = blasting_made;
          blasted = blasted;
          bits = bits (rewritten_commands b ps) k (names_behind b ps) (ready b ps k rules p is unruled).printable (ready b ps k rules p is unruled).names accepted;
          proper = proper (blasted_commands b ps k) 1 blasted.printable;
          promise = promised b ps k (accepted_text b is.way.script) first (last b ps k rules p is unruled) accepted (ready b ps k rules p is unruled) (models b ps k rules p is unruled);
        }

  -- ---- a check that isn't one

  refused_bits : (a : ℕ) → refused_root led k ≡ Some a → bits_end b ps k ≡ Some (PassRefused 90 a)
  refused_bits a refused = ap (λ (o : Option ℕ). option_map (λ (n : ℕ). PassRefused 90 n) o) (of_passed b ps k rules p is unruled (λ cs s. refused_root cs k ≡ Some a) refused)

  pub blasting_refused : (f : BlastScriptFault) → IsRefusedBy (commands_of p.way.table p.script.commands) k f → EndsOnTheWay b k (blasting_end b ps k) (status_of_blasting f)
  blasting_refused (NotBits a) refused = (is.way.script, is.way.check, λ i. or_later (is.way.passes i) (refused_bits a refused i))
  blasting_refused Memory refused = tt

-- what ends the run at the passes ends it before the bits
pub passing_on_the_way : (b : List ℕ) (ps : List Pass) (k : ℕ) (status : Status) → EndsOnTheWay b k (passes_end b ps) status → EndsOnTheWay b k (blasting_end b ps k) status
passing_on_the_way b ps k Done ends = ends
passing_on_the_way b ps k (Refused r) ends = ends
passing_on_the_way b ps k (Usage u) ends = ends
passing_on_the_way b ps k (ReadFailed word) ends = ends
passing_on_the_way b ps k WriteFailed ends = ends
passing_on_the_way b ps k OutOfMemory ends = ends
passing_on_the_way b ps k (ModelRefused code line byte) ends = ends
passing_on_the_way b ps k (Beyond128 assertion) ends = ends
passing_on_the_way b ps k (PassRefused code assertion) ends = (ends.0, ends.1, ap (λ (o : Option Status). or_later o (bits_end b ps k)) ends.2)
