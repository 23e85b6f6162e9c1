-- A run with a book to which the eight rules were added, one after the other.
use Rattle.std.proofs.Common.{◌≡◌, ◌∙◌, ap, subst, ℕ, List, [], ◌∷◌, ◌++◌, Option}
use Rattle.std.specs.Prelude.{codes}
use Rattle.smt_terms.specs.Sorts.{Name}
use Rattle.rule_book.specs.EightRules.{eight_names}
use Rattle.smtrw_answers.specs.declared.status.Status.{Status}
use Rattle.smtrw_run.specs.WholeRun.{Sunk, IsRun}

pub eight_added : (a b c d e f g h i : List Name) (k l m n o p q r : Name) → a ≡ [] → b ≡ a ++ k ∷ [] → c ≡ b ++ l ∷ [] → d ≡ c ++ m ∷ [] → e ≡ d ++ n ∷ [] → f ≡ e ++ o ∷ [] → g ≡ f ++ p ∷ [] → h ≡ g ++ q ∷ [] → i ≡ h ++ r ∷ []
    → k ≡ codes "mul-pow2" → l ≡ codes "udiv-pow2" → m ≡ codes "urem-pow2" → n ≡ codes "absorb-and" → o ≡ codes "absorb-or" → p ≡ codes "sub-neg" → q ≡ codes "ite-not" → r ≡ codes "xor-not" → i ≡ eight_names
eight_added a b c d e f g h i k l m n o p q r none first second third fourth fifth sixth seventh eighth is_k is_l is_m is_n is_o is_p is_q is_r =
    eighth ∙ ap (λ ns. ns ++ r ∷ []) (seventh ∙ ap (λ ns. ns ++ q ∷ []) (sixth ∙ ap (λ ns. ns ++ p ∷ []) (fifth ∙ ap (λ ns. ns ++ o ∷ [])
    (fourth ∙ ap (λ ns. ns ++ n ∷ []) (third ∙ ap (λ ns. ns ++ m ∷ []) (second ∙ ap (λ ns. ns ++ l ∷ []) (first ∙ ap (λ ns. ns ++ k ∷ []) none)))))))
    ∙ (λ j. is_k j ∷ is_l j ∷ is_m j ∷ is_n j ∷ is_o j ∷ is_p j ∷ is_q j ∷ is_r j ∷ [])

pub run_named : (given : List (List ℕ)) (text : List ℕ → Option (List ℕ)) (before now : List ℕ → ℕ) (output output_now errors errors_now : Sunk) (status : Status) (rules names : List Name) → rules ≡ names → IsRun rules given text before now output output_now errors errors_now status
    → IsRun names given text before now output output_now errors errors_now status
run_named given text before now output output_now errors errors_now status rules names same run =
    subst (λ (ns : List Name). IsRun ns given text before now output output_now errors errors_now status) same run
