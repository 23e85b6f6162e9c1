-- Commands that can be printed are those before a pass that makes groups, and each assertion's group is one for it.
use Rattle.std.proofs.Common.{◌≡◌, ◌∙◌, ap, refl, sym, subst, ℕ, Bool, true, false, ◌&&◌, List, [], ◌∷◌, map, flat_map, Option, Some, None}
use Rattle.smt_terms.specs.Fresh.{Supply}
use Rattle.smt_terms.specs.Rank.{sort_of}
use Rattle.smt_terms.specs.Sorts.{Name, Sort, bool}
use Rattle.smt_terms.specs.SubstLaws.{names_within, GivesNone, Later}
use Rattle.smt_terms.specs.Term.{Term}
use Rattle.smt_terms.proofs.Equal.{Decides-sort_eq}
use Rattle.smt_terms.proofs.Substitution.{gives-left, gives-right}
use Rattle.smt_terms.proofs.Tests.{both_true}
use Rattle.term_groups.specs.Drawing.{ConstantsAreNew}
use Rattle.term_groups.specs.Grouping.{IsGroupOf, MakesGroups, terms_of}
use Rattle.script_terms.specs.Read.{is_of_sort}
use Rattle.script_read.specs.Commands.{Command, passed, declare_sort, declare, assert, check, check_assuming, push, pop, reset, reset_assertions, globals, exit, State, start, after}
use Rattle.script_read.specs.Laws.{names_in_command}
use Rattle.script_read.specs.Printable.{may_stand, fixes, may_be_followed, printable_from}
use Rattle.pass_laws.specs.GroupPoints.{inputs, AreGrouped, ReadyCommandsAreGrouped}
use Rattle.pass_laws.specs.Groups.{Making, groups_from}
use Rattle.pass_laws.specs.Passed.{literal_kept}
use Rattle.pass_laws.proofs.Standing.{Stands, stands}

-- ---- the commands before the pass

literals_before : (ls : List Term) → map (λ r. r.term) (map literal_kept ls) ≡ ls
literals_before [] = refl
literals_before (l ∷ ls) = ap (λ ts. l ∷ ts) (literals_before ls)

commands_before : (make : Making) (cs : List (Command Term)) (s : Supply) → inputs (groups_from make cs s).0 ≡ cs
commands_before make [] s = refl
commands_before make (passed text ∷ cs) s = ap (λ ds. passed text ∷ ds) (commands_before make cs s)
commands_before make (declare_sort n ∷ cs) s = ap (λ ds. declare_sort n ∷ ds) (commands_before make cs s)
commands_before make (declare f ∷ cs) s = ap (λ ds. declare f ∷ ds) (commands_before make cs s)
commands_before make (assert i t ∷ cs) s = ap (λ ds. assert i t ∷ ds) (commands_before make cs (make t s).names)
commands_before make (check ∷ cs) s = ap (λ ds. check ∷ ds) (commands_before make cs s)
commands_before make (check_assuming ls ∷ cs) s =
    ap (λ ts. check_assuming ts ∷ inputs (groups_from make cs s).0) (literals_before ls) ∙ ap (λ ds. check_assuming ls ∷ ds) (commands_before make cs s)
commands_before make (push n ∷ cs) s = ap (λ ds. push n ∷ ds) (commands_before make cs s)
commands_before make (pop n ∷ cs) s = ap (λ ds. pop n ∷ ds) (commands_before make cs s)
commands_before make (reset ∷ cs) s = ap (λ ds. reset ∷ ds) (commands_before make cs s)
commands_before make (reset_assertions ∷ cs) s = ap (λ ds. reset_assertions ∷ ds) (commands_before make cs s)
commands_before make (globals b ∷ cs) s = ap (λ ds. globals b ∷ ds) (commands_before make cs s)
commands_before make (exit ∷ cs) s = ap (λ ds. exit ∷ ds) (commands_before make cs s)

-- ---- each assertion's group

formula_sort : (o : Option Sort) → is_of_sort bool o ≡ true → o ≡ Some bool
formula_sort None h = absurd cc
formula_sort (Some r) h = ap (λ q. Some q) ((Decides-sort_eq r bool).0 h)

-- a supply that is left gives none of these names, either
none_left : (s r : Supply) (ns : List Name) → Later s r → GivesNone s ns → GivesNone r ns
none_left s r ns later given n among = later n (given n among)

module _ (make : Making) (makes : MakesGroups make) (new : ConstantsAreNew) where
  group_made : (begun : Bool) (st : State Term) (i : ℕ) (t : Term) (s : Supply) → may_stand begun st (assert i t) ≡ true → GivesNone s (names_within t) → IsGroupOf t s (make t s)
  group_made begun st i t s may given =
      let parts : Stands st t = stands begun st i t may in
      makes t s (record { sorted = parts.sorted; sort = formula_sort (sort_of t) parts.formula; names = given })

  group_later : (t : Term) (s : Supply) → IsGroupOf t s (make t s) → Later s (make t s).names
  group_later t s is = subst (λ q. Later s q) (sym is.names) (new.later (terms_of (make t s).group.symbols) s)

  -- what is shown of these commands from any state and supply on
  abbrev GroupedFromAnywhere : List (Command Term) → Type 0
  GroupedFromAnywhere cs = (begun : Bool) (st : State Term) (s : Supply) → printable_from begun st cs ≡ true → GivesNone s (flat_map names_in_command cs) → AreGrouped (groups_from make cs s).0 s (groups_from make cs s).1

  one_more : (c : Command Term) (cs : List (Command Term)) → GroupedFromAnywhere cs → (begun : Bool) (st : State Term) (s : Supply) → may_stand begun st c ≡ true → GivesNone s (names_in_command c)
      → printable_from (fixes begun c) (after c st) cs ≡ true → GivesNone s (flat_map names_in_command cs) → AreGrouped (groups_from make (c ∷ cs) s).0 s (groups_from make (c ∷ cs) s).1
  one_more (assert i t) cs others begun st s may own printable given =
      let is : IsGroupOf t s (make t s) = group_made begun st i t s may own in
      let left : GivesNone (make t s).names (flat_map names_in_command cs) = none_left s (make t s).names (flat_map names_in_command cs) (group_later t s is) given in
      ((make t s).names, (is, others (fixes begun (assert i t)) (after (assert i t) st) (make t s).names printable left))
  one_more c cs others begun st s may own printable given = others (fixes begun c) (after c st) s printable given

  commands_grouped : (cs : List (Command Term)) → GroupedFromAnywhere cs
  commands_grouped [] begun st s printable given = refl
  commands_grouped (c ∷ cs) begun st s printable given =
      let parts = both_true (may_stand begun st c) (may_be_followed c cs && printable_from (fixes begun c) (after c st) cs) printable in
      let rest = both_true (may_be_followed c cs) (printable_from (fixes begun c) (after c st) cs) parts.1 in
      one_more c cs (commands_grouped cs) begun st s parts.0
      (gives-left s (names_in_command c) (flat_map names_in_command cs) given) rest.1 (gives-right s (names_in_command c) (flat_map names_in_command cs) given)

pub ready-commands-are-grouped : ReadyCommandsAreGrouped
ready-commands-are-grouped make makes new cs s ready = record {
  before = commands_before make cs s;
  grouped = commands_grouped make makes new cs false start s ready.printable ready.names;
}
