-- Formulas of one value are true in the same models.
use Rattle.std.proofs.Common.{◌≡◌, ◌∙◌, sym, ap, refl, true, ◌&&◌, List, [], ◌∷◌, Some}
use Rattle.std.specs.List.{list_all}
use Rattle.smt_terms.specs.Keeps.{Keeps}
use Rattle.smt_terms.specs.Models.{Model, IsModel}
use Rattle.smt_terms.specs.Rank.{sort_of}
use Rattle.smt_terms.specs.Sorts.{bool}
use Rattle.smt_terms.specs.Term.{Term}
use Rattle.smt_terms.specs.Val.{no_variables, val}
use Rattle.smt_terms.specs.Values.{Value, truth, Sizes, is_true, is_value}
use Rattle.smt_terms.proofs.Respects.{truths_alike}
use Rattle.smt_terms.proofs.Valid.{val_valid}
use Rattle.script_read.specs.Satisfied.{is_true_in}
use Rattle.smt_print.specs.Laws.{Each}
use Rattle.pass_laws.proofs.Literals.{IsFormula}

exactly : (v : Value) (sizes : Sizes) → is_value bool sizes v ≡ true → v ≡ truth (is_true v)
exactly (truth b) sizes e = refl
exactly _ sizes e = absurd cc

pub same_truth : (m : Model) → IsModel m → (t u : Term) → sort_of t ≡ Some bool → Keeps t u → val m t no_variables ≡ val m u no_variables
same_truth m model t u has keeps =
    exactly (val m t no_variables) m.sizes (val_valid t bool m no_variables model (λ f. tt) has)
    ∙ ap truth (truths_alike m.sizes (val m t no_variables) (val m u no_variables) (keeps.value m no_variables bool model (λ f. tt) has))
    ∙ sym (exactly (val m u no_variables) m.sizes (val_valid u bool m no_variables model (λ f. tt) (keeps.sort ∙ has)))

-- each term of the list is a formula
abbrev pub AreFormulas : List Term → Type 0
AreFormulas ts = Each (λ t u. IsFormula t) ts ts

pub truths_kept : (m : Model) → IsModel m → (ts us : List Term) → AreFormulas ts → Each Keeps ts us → list_all (is_true_in m) ts ≡ list_all (is_true_in m) us
truths_kept m model [] [] formulas keeps = refl
truths_kept m model (t ∷ ts) (u ∷ us) formulas keeps = λ i. is_true (same_truth m model t u formulas.0.sort keeps.0 i) && truths_kept m model ts us formulas.1 keeps.1 i
truths_kept m model [] (u ∷ us) formulas keeps = absurd keeps
truths_kept m model (t ∷ ts) [] formulas keeps = absurd keeps
