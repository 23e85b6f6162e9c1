-- What a written operator is made of keeps its meaning from terms to values.
use Rattle.std.proofs.Common.{◌≡◌, ◌∙◌, sym, ap, refl, List, [], ◌∷◌, map, Option}
use Rattle.std.specs.Prelude.{unwrap_or}
use Rattle.smt_terms.specs.declared.op.Op.{Op}
use Rattle.smt_terms.specs.Models.{Model, background}
use Rattle.smt_terms.specs.Operators.{op_value}
use Rattle.smt_terms.specs.Rank.{with_sort, sort_of, sorts_of, sort_over}
use Rattle.smt_terms.specs.Sorts.{Sort}
use Rattle.smt_terms.specs.Term.{op, Term, terms}
use Rattle.smt_terms.specs.Val.{Env, val, vals}
use Rattle.smt_terms.specs.Values.{Value}
use Rattle.smt_terms.proofs.Made.{made-sort, made-value}
use Rattle.script_terms.specs.Heads.{term_algebra}
use Rattle.script_read.specs.Laws.{denoted, WrittenMeaning}
use Rattle.script_read.specs.Mean.{Denoted, values_of, sorts_denoted, over_op, value_algebra}
use Rattle.script_terms.proofs.Builds.{builds}

pub sorts_of_denoted : (m : Model) (e : Env) (ts : List Term) → sorts_denoted (map (denoted m e) ts) ≡ sorts_of (terms ts)
sorts_of_denoted m e [] = refl
sorts_of_denoted m e (t ∷ ts) = ap (λ o. with_sort (sort_of t) o) (sorts_of_denoted m e ts)

pub values_of_denoted : (m : Model) (e : Env) (ts : List Term) → values_of (map (denoted m e) ts) ≡ vals m (terms ts) e
values_of_denoted m e [] = refl
values_of_denoted m e (t ∷ ts) = ap (λ vs. val m t e ∷ vs) (values_of_denoted m e ts)

-- an operator over what operands of these sorts and values denote
abbrev over_parts : Model → Op → Option (List Sort) → List Value → Denoted
over_parts m o ss vs = (op_value (background m) o (unwrap_or ss []) vs, sort_over (op o) ss)

pub made_denotes : (m : Model) (e : Env) (o : Op) (ts : List Term) → over_op m o (map (denoted m e) ts) ≡ denoted m e (term_algebra.make o ts)
made_denotes m e o ts =
    ap (λ ss. over_parts m o ss (values_of (map (denoted m e) ts))) (sorts_of_denoted m e ts)
    ∙ ap (λ vs. over_parts m o (sorts_of (terms ts)) vs) (values_of_denoted m e ts)
    ∙ ap (λ v. (v, sort_over (op o) (sorts_of (terms ts)))) (sym (made-value m (op o) (terms ts) e))
    ∙ ap (λ s. (val m (term_algebra.make o ts) e, s)) (sym (made-sort (op o) (terms ts)))

pub written_meaning : WrittenMeaning
written_meaning m e w ts =
    builds term_algebra (value_algebra m) (denoted m e) (record { applications = λ o us. made_denotes m e o us; widths = λ t. refl }) w ts
