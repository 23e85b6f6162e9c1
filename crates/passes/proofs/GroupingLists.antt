-- Commands behind a pass that makes groups are made of one command after the other.
use Rattle.std.proofs.Common.{◌≡◌, ◌∙◌, ap, refl, ℕ, List, [], ◌∷◌, ◌++◌, map, append-nil}
use Rattle.std.specs.Prelude.{flat_map}
use Rattle.std.proofs.lemmas.Grind.{flat_map-append}
use Rattle.smt_terms.specs.Fresh.{Supply}
use Rattle.smt_terms.specs.Term.{Term}
use Rattle.script_read.specs.Commands.{Command, passed, declare_sort, declare, assert, check, check_assuming, push, pop, reset, reset_assertions, globals, exit, with_asserted}
use Rattle.pass_laws.specs.Groups.{Making, replacement, groups_from, spelled, in_groups}
use Rattle.pass_laws.specs.Passed.{Replacement, literal_kept, behind, group_commands}

-- what was made so far, and then what becomes of the rest
abbrev pub continued : {A : Type 0} → List A × Supply → (Supply → List A × Supply) → List A × Supply
continued r rest = (r.0 ++ (rest r.1).0, (rest r.1).1)

module _ (make : Making) where
  pub made_on : (cs ds : List (Command Term)) (s : Supply) → groups_from make (cs ++ ds) s ≡ continued (groups_from make cs s) (groups_from make ds)
  made_on [] ds s = refl
  made_on (passed text ∷ cs) ds s = ap (behind (passed text)) (made_on cs ds s)
  made_on (declare_sort n ∷ cs) ds s = ap (behind (declare_sort n)) (made_on cs ds s)
  made_on (declare f ∷ cs) ds s = ap (behind (declare f)) (made_on cs ds s)
  made_on (assert i t ∷ cs) ds s = ap (behind (assert i (replacement i t (make t s)))) (made_on cs ds (make t s).names)
  made_on (check ∷ cs) ds s = ap (behind check) (made_on cs ds s)
  made_on (check_assuming ls ∷ cs) ds s = ap (behind (with_asserted literal_kept (check_assuming ls))) (made_on cs ds s)
  made_on (push n ∷ cs) ds s = ap (behind (push n)) (made_on cs ds s)
  made_on (pop n ∷ cs) ds s = ap (behind (pop n)) (made_on cs ds s)
  made_on (reset ∷ cs) ds s = ap (behind reset) (made_on cs ds s)
  made_on (reset_assertions ∷ cs) ds s = ap (behind reset_assertions) (made_on cs ds s)
  made_on (globals b ∷ cs) ds s = ap (behind (globals b)) (made_on cs ds s)
  made_on (exit ∷ cs) ds s = ap (behind exit) (made_on cs ds s)

  pub grouped_on : (cs ds : List (Command Term)) (s : Supply) → in_groups make (cs ++ ds) s ≡ continued (in_groups make cs s) (in_groups make ds)
  grouped_on cs ds s =
      let left : Supply = (groups_from make cs s).1 in
      ap (λ r. (flat_map spelled r.0, r.1)) (made_on cs ds s)
      ∙ ap (λ es. (es, (groups_from make ds left).1)) (flat_map-append spelled (groups_from make cs s).0 (groups_from make ds left).0)

  -- ---- one command

  pub grouped_assertion : (i : ℕ) (t : Term) (s : Supply) → in_groups make (assert i t ∷ []) s ≡ (group_commands i (make t s).group, (make t s).names)
  grouped_assertion i t s = ap (λ ds. (ds, (make t s).names)) (append-nil (group_commands i (make t s).group))

  pub grouped_check : (ls : List Term) (s : Supply) → in_groups make (check_assuming ls ∷ []) s ≡ (check_assuming ls ∷ [], s)
  grouped_check ls s = ap (λ ms. (check_assuming ms ∷ [], s)) (literals_kept ls)
    where
      literals_kept : (ls : List Term) → map (λ (r : Replacement). r.term) (map literal_kept ls) ≡ ls
      literals_kept [] = refl
      literals_kept (l ∷ more) = ap (λ rest. l ∷ rest) (literals_kept more)
