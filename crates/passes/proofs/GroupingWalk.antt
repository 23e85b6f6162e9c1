-- A pass that makes groups goes from the first command to the last.
use Rattle.std.proofs.Common.{◌≡◌, ◌∙◌, ap, sym, refl, ℕ, ◌+◌, ◌≤◌, List, [], ◌∷◌, ◌++◌, take, length, slice_get, Some, option_map}
use Rattle.std.proofs.lemmas.List.{take_all}
use Rattle.std.proofs.lemmas.Option.{slice_get-map}
use Rattle.smt_terms.specs.Fresh.{Supply}
use Rattle.smt_terms.specs.SubstLaws.{names_within}
use Rattle.smt_terms.specs.Term.{Term}
use Rattle.term_table.specs.Formulas.{Formulas}
use Rattle.term_subst.specs.Substituting.{IsLater}
use Rattle.term_walk.specs.Walking.{GrowsTo}
use Rattle.script_terms.proofs.Grown.{none_later}
use Rattle.script_read.specs.declared.scripts.Command.{Command}
use Rattle.script_read.specs.CommandLists.{command_of, commands_of, IsCommandOf, AreCommandsOf}
use Rattle.script_read.specs.Commands.{Command as CommandOf, passed, declare_sort, declare, assert, check, check_assuming, push, pop, reset, reset_assertions, globals, exit}
use Rattle.script_read.proofs.CommandsStay.{command_within, command_stays}
use Rattle.pass_laws.specs.Behind.{IsRewritable, AreRewritable}
use Rattle.pass_laws.specs.Groups.{Making, in_groups}
use Rattle.passes.proofs.GroupingLists.{continued, grouped_on}
use Rattle.passes.proofs.GroupingSteps.{taken_more, holds_there}

-- what the first i commands became, and the names that are left then
pub record IsGrouped (make : Making) (cs : List (CommandOf Term)) (s : Supply) (i : ℕ) (ds : List (CommandOf Term)) (r : Supply) : Type 0 where
  pub commands : ds ≡ (in_groups make (take i cs) s).0
  pub names : r ≡ (in_groups make (take i cs) s).1

module _ (make : Making) where
  pub none_grouped : (cs : List (CommandOf Term)) (s : Supply) → IsGrouped make cs s 0 [] s
  none_grouped [] s = record { commands = refl; names = refl }
  none_grouped (c ∷ cs) s = record { commands = refl; names = refl }

  pub all_grouped : (cs : List (CommandOf Term)) (s : Supply) (i : ℕ) (ds : List (CommandOf Term)) (r : Supply) → length cs ≤ i → IsGrouped make cs s i ds r
      → (ds ≡ (in_groups make cs s).0) × (r ≡ (in_groups make cs s).1)
  all_grouped cs s i ds r past is =
      let all = take_all i cs past in
      (is.commands ∙ ap (λ es. (in_groups make es s).0) all, is.names ∙ ap (λ es. (in_groups make es s).1) all)

  more_grouped : (cs : List (CommandOf Term)) (s : Supply) (i : ℕ) (c : CommandOf Term) → slice_get cs i ≡ Some c
      → in_groups make (take (i + 1) cs) s ≡ continued (in_groups make (take i cs) s) (in_groups make (c ∷ []))
  more_grouped cs s i c e = ap (λ es. in_groups make es s) (taken_more cs i c e) ∙ grouped_on make (take i cs) (c ∷ []) s

  next_grouped : (cs : List (CommandOf Term)) (s : Supply) (i : ℕ) (c : CommandOf Term) (ds : List (CommandOf Term)) (r : Supply) (es : List (CommandOf Term)) (q : Supply) → slice_get cs i ≡ Some c
      → IsGrouped make cs s i ds r → es ≡ ds ++ (in_groups make (c ∷ []) r).0 → q ≡ (in_groups make (c ∷ []) r).1 → IsGrouped make cs s (i + 1) es q
  next_grouped cs s i c ds r es q e is commands names =
      let more = more_grouped cs s i c e in
      record {
        commands = commands ∙ (λ j. is.commands j ++ (in_groups make (c ∷ []) (is.names j)).0) ∙ ap (λ z. z.0) (sym more);
        names = names ∙ ap (λ p. (in_groups make (c ∷ []) p).1) is.names ∙ ap (λ z. z.1) (sym more);
      }

-- what may be rewritten may be so later, too
rewritable_later : (s r : Supply) → IsLater s r → (c : CommandOf Term) → IsRewritable s c → IsRewritable r c
rewritable_later s r later (assert i t) is = (is.0, none_later s r later (names_within t) is.1)
rewritable_later s r later (passed text) is = tt
rewritable_later s r later (declare_sort n) is = tt
rewritable_later s r later (declare f) is = tt
rewritable_later s r later check is = tt
rewritable_later s r later (check_assuming ls) is = tt
rewritable_later s r later (push n) is = tt
rewritable_later s r later (pop n) is = tt
rewritable_later s r later reset is = tt
rewritable_later s r later reset_assertions is = tt
rewritable_later s r later (globals b) is = tt
rewritable_later s r later exit is = tt

-- ---- the command at a place, in a table that only gained

module _ (t : Formulas) (ks : List Command) (numbers : AreCommandsOf t ks) (u : Formulas) (grows : GrowsTo t u) (i : ℕ) (c : Command) (found : slice_get ks i ≡ Some c) where
  numbered : IsCommandOf t c
  numbered = holds_there (IsCommandOf t) ks i c found numbers

  same : command_of u c ≡ command_of t c
  same = command_stays t u grows c numbered

  pub there : slice_get (commands_of t ks) i ≡ Some (command_of u c)
  there = slice_get-map (command_of t) ks i ∙ (λ j. option_map (command_of t) (found j)) ∙ ap Some (sym same)

  pub command_there : IsCommandOf u c
  command_there = command_within t u grows c numbered

  module _ (s r : Supply) where
    pub rewritable_there : AreRewritable (commands_of t ks) s → IsLater s r → IsRewritable r (command_of u c)
    rewritable_there ready later = rewritable_later s r later (command_of u c) (holds_there (IsRewritable s) (commands_of t ks) i (command_of u c) there ready)

    pub grouped_there : (make : Making) (ds es : List (CommandOf Term)) (q : Supply) → IsGrouped make (commands_of t ks) s i ds r
        → es ≡ ds ++ (in_groups make (command_of u c ∷ []) r).0 → q ≡ (in_groups make (command_of u c ∷ []) r).1 → IsGrouped make (commands_of t ks) s (i + 1) es q
    grouped_there make ds es q is commands names = next_grouped make (commands_of t ks) s i (command_of u c) ds r es q there is commands names
