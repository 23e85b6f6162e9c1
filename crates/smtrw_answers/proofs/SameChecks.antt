-- Commands with the same kinds of points have as many checks; and the passes keep these kinds.
use Rattle.std.proofs.Common.{◌≡◌, ◌∙◌, ap, refl, ◌+◌, cond, List, [], ◌∷◌, length, inl, inr, None, arith}
use Rattle.std.proofs.lemmas.List.{length-map}
use Rattle.std.proofs.lemmas.List.Sums.{sum_by-cons}
use Rattle.smt_terms.specs.Fresh.{Supply}
use Rattle.smt_terms.specs.Term.{Term}
use Rattle.script_read.specs.Commands.{Command, passed as passing, check, check_assuming, State, start, after, Point, with_point, points_from, points, kinds, is_check, checks}
use Rattle.pass_laws.specs.declared.names.Pass.{Pass}
use Rattle.pass_laws.specs.Laws.{IsReady}
use Rattle.pass_laws.specs.Passed.{apply_pass, passed, refused_by, refused_assertion}
use Rattle.smtrw_answers.proofs.CarriedModels.{CarryingLaws, kind_of_pass, ready_behind, none_either}

-- ---- points are counted by checks

point_made : (c : Command Term) (s : State Term) (ps : List (Point Term)) → length (with_point c s ps) ≡ cond (is_check c) 1 0 + length ps
point_made check s ps = omega arith
point_made (check_assuming ls) s ps = omega arith
point_made (passing text) s ps = omega arith
point_made _ s ps = omega arith

points_counted : (cs : List (Command Term)) (s : State Term) → length (points_from s cs) ≡ checks cs + 1
points_counted [] s = refl
points_counted (c ∷ cs) s =
    let here = point_made c s (points_from (after c s) cs) in
    let rest = points_counted cs (after c s) in
    let sum = sum_by-cons (λ d. cond (is_check d) 1 0) c cs in
    omega (arith, here, rest, sum)

checks_alike : (cs ds : List (Command Term)) → kinds ds ≡ kinds cs → checks ds ≡ checks cs
checks_alike cs ds same =
    let before = points_counted cs start in
    let behind = points_counted ds start in
    let first = length-map (points cs) (λ p. p.kind) in
    let second = length-map (points ds) (λ p. p.kind) in
    let both = ap length same in
    omega (arith, before, behind, first, second, both)

-- ---- behind passes

module _ (laws : CarryingLaws) where
  kinds_behind : (p : Pass) (cs : List (Command Term)) (s : Supply) → refused_by p cs ≡ None → IsReady cs s → kinds (apply_pass p cs s).0 ≡ kinds cs
  kinds_behind p cs s taken ready = elim (kind_of_pass laws p cs s taken ready) [
    | inl keeps ↦ (laws.keep p cs s keeps ready).equivalent.kinds
    | inr puts ↦ puts.models.kinds
  ]

  kinds_passed : (ps : List Pass) (cs : List (Command Term)) (s : Supply) → refused_assertion ps cs s ≡ None → IsReady cs s → kinds (passed ps cs s).0 ≡ kinds cs
  kinds_passed [] cs s taken ready = refl
  kinds_passed (p ∷ ps) cs s taken ready =
      let a = none_either (refused_by p cs) (refused_assertion ps (apply_pass p cs s).0 (apply_pass p cs s).1) taken in
      kinds_passed ps (apply_pass p cs s).0 (apply_pass p cs s).1 a.1 (ready_behind laws p cs s a.0 ready) ∙ kinds_behind p cs s a.0 ready

  pub checks_passed : (ps : List Pass) (cs : List (Command Term)) (s : Supply) → refused_assertion ps cs s ≡ None → IsReady cs s → checks (passed ps cs s).0 ≡ checks cs
  checks_passed ps cs s taken ready = checks_alike cs (passed ps cs s).0 (kinds_passed ps cs s taken ready)
