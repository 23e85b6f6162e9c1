-- An answer that carries a model over a plan carries it over the passes that the plan is of.
use Rattle.std.proofs.Common.{◌≡◌, ◌∙◌, sym, ap, refl, ℕ, ◌-◌, ◌^◌, ◌==◌, min, nat_lt, Bool, true, false, ◌&&◌, ◌||◌, List, [], ◌∷◌, ◌++◌, filter, Option, Some, None, Result, Ok, Err}
use Rattle.std.specs.List.{list_any}
use Rattle.std.proofs.lemmas.Grind.{flat_map-append}
use Rattle.std.proofs.lemmas.List.{append-nil}
use Rattle.std.proofs.lemmas.List.Folds.{list_any-append}
use Rattle.smt_terms.specs.declared.ids.NodeId.{NodeId}
use Rattle.smt_terms.specs.Fresh.{Supply}
use Rattle.smt_terms.specs.Models.{Model}
use Rattle.smt_terms.specs.Term.{Term}
use Rattle.smt_terms.specs.Val.{no_variables, bits_bound}
use Rattle.term_table.specs.Formulas.{Formulas, tree}
use Rattle.script_read.specs.Commands.{Command}
use Rattle.models.specs.ModelView.{ModelLists}
use Rattle.evaluation.specs.Evaluated.{breaks}
use Rattle.pass_laws.specs.declared.names.Pass.{Pass}
use Rattle.passes.specs.declared.plan.Plan.{Plan}
use Rattle.passes.specs.declared.carrying.CarryFault.{CarryFault}
use Rattle.passes.specs.declared.carrying.CarryFault.TheVariants.{NoSuchCheck, EvalWidth, Beyond128, Memory}
use Rattle.pass_laws.specs.Carry.{Asked, Stage, back, forth, back_stages, forth_stages, most_bits, numbers, all_asked, greatest_bound, beyond_at, beyond}
use Rattle.passes.specs.Carrying.{IsCheck, breaks_in, CarriesTo, CarriesBack, CarriesForth}
use Rattle.pass_laws.specs.Laws.{IsReady}
use Rattle.pass_laws.specs.LiveGroups.{back_by, back_stages_by, forth_by, forth_stages_by}
use Rattle.pass_laws.specs.Passed.{least, or_later}
use Rattle.passes.specs.Plans.{IsPlanOf, told_in}
use Rattle.passes.proofs.CarriedPlans.{CarryLaws, plan_back, plan_forth, plan_forth_found, plan_back_found}

-- the same is said of these stages and models as of those
record SaysAlike (t : Formulas) (xs ys : List Stage) (m n : Model) : Type 0 where
  asked : all_asked xs ≡ all_asked ys
  beyond : beyond xs ≡ beyond ys
  breaks : (a : ℕ) (node : NodeId) → breaks_in t xs a node ≡ breaks_in t ys a node
  model : m ≡ n

abbrev widest : List Asked → Option ℕ
widest asked = least (numbers (filter (λ a. nat_lt most_bits (bits_bound a.term)) asked))

abbrev bits_among : ℕ → List Asked → ℕ
bits_among a asked = min (2 ^ 32 - 1) (greatest_bound (filter (λ q. q.number == a) asked))

carries_alike : (t : Formulas) (cs : List (Command Term)) (k : ℕ) (xs ys : List Stage) (m n : Model) → (IsCheck k cs → SaysAlike t xs ys m n)
    → (result : Result ModelLists CarryFault) → CarriesTo t cs k ys n result → CarriesTo t cs k xs m result
carries_alike t cs k xs ys m n alike (Ok r) has =
    let same = alike has.0 in
    (has.0, ap widest same.asked ∙ has.1, same.beyond ∙ has.2, has.3 ∙ sym same.model, has.4, has.5)
carries_alike t cs k xs ys m n alike (Err (NoSuchCheck c count)) has = has
carries_alike t cs k xs ys m n alike (Err (EvalWidth a bits)) has =
    let same = alike has.0 in
    (has.0, ap widest same.asked ∙ has.1, has.2 ∙ sym (ap (bits_among a) same.asked))
carries_alike t cs k xs ys m n alike (Err (Beyond128 a node)) has =
    let same = alike has.0 in
    (has.0, ap widest same.asked ∙ has.1, same.beyond ∙ has.2, has.3, same.breaks a node ∙ has.4)
carries_alike t cs k xs ys m n alike (Err Memory) has = tt

-- ---- a stage more at the end

later_then : (a b c : Option ℕ) → or_later a (or_later b c) ≡ or_later (or_later a b) c
later_then (Some n) b c = refl
later_then None b c = refl

later_none : (a : Option ℕ) → or_later a None ≡ a
later_none (Some n) = refl
later_none None = refl

or_none : (b : Bool) → (b || false) ≡ b
or_none true = refl
or_none false = refl

pub beyond_both : (xs ys : List Stage) → beyond (xs ++ ys) ≡ or_later (beyond xs) (beyond ys)
beyond_both [] ys = refl
beyond_both (x ∷ xs) ys = ap (or_later (beyond_at x)) (beyond_both xs ys) ∙ later_then (beyond_at x) (beyond xs) (beyond ys)

pub beyond_last : (xs : List Stage) (x : Stage) → beyond (xs ++ x ∷ []) ≡ or_later (beyond xs) (beyond_at x)
beyond_last xs x = beyond_both xs (x ∷ []) ∙ ap (or_later (beyond xs)) (later_none (beyond_at x))

pub asked_last : (xs : List Stage) (x : Stage) → all_asked (xs ++ x ∷ []) ≡ all_asked xs ++ x.asked
asked_last xs x = flat_map-append (λ (st : Stage). st.asked) xs (x ∷ []) ∙ ap (λ qs. all_asked xs ++ qs) (append-nil x.asked)

module _ (t : Formulas) (a : ℕ) (node : NodeId) where
  abbrev pub breaks_at : Stage → Bool
  breaks_at st = list_any (λ q. (q.number == a) && breaks st.model (tree t node) q.term no_variables) st.asked

  pub breaks_last : (xs : List Stage) (x : Stage) → breaks_in t (xs ++ x ∷ []) a node ≡ (breaks_in t xs a node || breaks_at x)
  breaks_last xs x = list_any-append breaks_at xs (x ∷ []) ∙ ap (λ b. breaks_in t xs a node || b) (or_none (breaks_at x))

-- ---- a plan

module _ (laws : CarryLaws) (t : Formulas) (plan : Plan) (ps : List Pass) (cs : List (Command Term)) (s : Supply)
    (is : IsPlanOf t plan ps cs s) (ready : IsReady cs s) (k : ℕ) (m : Model) where
  alike_forth : IsCheck k cs → SaysAlike t (forth_stages ps cs s k m) (forth_stages_by k (told_in t plan) m) (forth ps cs s k m) (forth_by k (told_in t plan) m)
  alike_forth check = record {
    asked = plan_forth_found laws t plan ps cs s is ready k check.0 check.1 all_asked (λ st asked. st.asked ++ asked) (λ st sts. refl) (λ n asked. refl) m;
    beyond = plan_forth_found laws t plan ps cs s is ready k check.0 check.1 beyond (λ st later. or_later (beyond_at st) later) (λ st sts. refl) (λ n later. refl) m;
    breaks = λ a node.
        plan_forth_found laws t plan ps cs s is ready k check.0 check.1 (λ sts. breaks_in t sts a node) (λ st later. breaks_at t a node st || later) (λ st sts. refl) (λ n later. refl) m;
    model = plan_forth laws t plan ps cs s is ready k check.0 check.1 m;
  }

  pub carries_forth : (result : Result ModelLists CarryFault) → CarriesTo t cs k (forth_stages_by k (told_in t plan) m) (forth_by k (told_in t plan) m) result → CarriesForth t ps cs s k m result
  carries_forth = carries_alike t cs k (forth_stages ps cs s k m) (forth_stages_by k (told_in t plan) m) (forth ps cs s k m) (forth_by k (told_in t plan) m) alike_forth

  alike_back : IsCheck k cs → SaysAlike t (back_stages ps cs s k m) (back_stages_by k (told_in t plan) m) (back ps cs s k m) (back_by k (told_in t plan) m)
  alike_back check = record {
    asked = plan_back_found laws t plan ps cs s is ready k check.0 check.1 all_asked (λ asked st. asked ++ st.asked) asked_last (λ asked n. append-nil asked) m;
    beyond = plan_back_found laws t plan ps cs s is ready k check.0 check.1 beyond (λ found st. or_later found (beyond_at st)) beyond_last (λ found n. later_none found) m;
    breaks = λ a node.
        plan_back_found laws t plan ps cs s is ready k check.0 check.1 (λ sts. breaks_in t sts a node) (λ found st. found || breaks_at t a node st) (breaks_last t a node) (λ found n. or_none found) m;
    model = plan_back laws t plan ps cs s is ready k check.0 check.1 m;
  }

  pub carries_back : (result : Result ModelLists CarryFault) → CarriesTo t cs k (back_stages_by k (told_in t plan) m) (back_by k (told_in t plan) m) result → CarriesBack t ps cs s k m result
  carries_back = carries_alike t cs k (back_stages ps cs s k m) (back_stages_by k (told_in t plan) m) (back ps cs s k m) (back_by k (told_in t plan) m) alike_back
