-- A check over truth values in the place of one over bit vectors, by the laws of blasted formulas.
use Rattle.std.proofs.Common.{◌≡◌, sym, subst, ℕ, true, List, All}
use Rattle.std.proofs.lemmas.List.Elements.{All-same, All-weaker}
use Rattle.smt_terms.specs.Fresh.{Supply}
use Rattle.smt_terms.specs.Sorts.{Symbol}
use Rattle.smt_terms.specs.Term.{Term}
use Rattle.script_read.specs.Commands.{Command, Signature, all_asserted}
use Rattle.bit_blast.specs.Laws.{is_boolean, BlastKeepsValues, BlastGivesFlagFormulas, BlastLifts, BlastLowers}
use Rattle.bit_scripts.specs.Laws.{IsBlasted, ScriptsAreBlasted}
use Rattle.models.specs.LiveRoots.{is_flag}
use Rattle.bit_scripts.specs.Scripts.{root_group}
use Rattle.bit_scripts.proofs.BlastableRoots.{RootsFit, roots_fit}
use Rattle.bit_scripts.proofs.BlastedFlags.{may_be_declared, may_be_asserted, all_flags}
use Rattle.bit_scripts.proofs.CarriedChecks.{lifts_over, lowers_over}
use Rattle.bit_scripts.proofs.DeclaredFlags.{script_over, declared_for, is_script_over, kinds_over, signature_over, asserted_over, assumed_over}
use Rattle.bit_scripts.proofs.PrintableScripts.{MayBeAsserted, script_prints}

module _ (values : BlastKeepsValues) (formulas : BlastGivesFlagFormulas) (lifts : BlastLifts) (lowers : BlastLowers) where
  is_blasted : (cs : List (Command Term)) (k : ℕ) (s : Supply) → RootsFit cs k s → IsBlasted cs k s (script_over (declared_for cs k s) (root_group cs k s).group.asserts)
  is_blasted cs k s fit = record {
    printable = script_prints fs us (may_be_declared cs k s fit) asserted;
    kinds = kinds_over fs us;
    sorts = λ i. (signature_over fs us i).sorts;
    flags = subst (λ (g : Signature). All (λ f. is_flag f ≡ true) g.symbols) (sym (signature_over fs us)) (all_flags cs k s fit);
    boolean = All-same (λ t. is_boolean t ≡ true) (all_asserted (script_over fs us)) us (asserted_over fs us) (All-weaker (MayBeAsserted fs) (λ t. is_boolean t ≡ true) (λ t formula. formula.boolean) us asserted);
    literals = assumed_over fs us;
    lifts = lifts_over values cs k s fit lifts;
    lowers = lowers_over values cs k s fit lowers;
  }
    where
      fs : List Symbol
      fs = declared_for cs k s

      us : List Term
      us = (root_group cs k s).group.asserts

      asserted : All (MayBeAsserted (declared_for cs k s)) (root_group cs k s).group.asserts
      asserted = may_be_asserted cs k s fit formulas

  pub scripts_blasted : ScriptsAreBlasted
  scripts_blasted cs k s prints names first last accepted = subst (IsBlasted cs k s) (is_script_over cs k s) (is_blasted cs k s (roots_fit cs k s prints names accepted))
