-- The assertion at a place of a list of commands, and another one in its place.
use Rattle.std.proofs.Common.{◌≡◌, ◌∙◌, sym, ap, refl, subst, ℕ, ◌+◌, ◌<◌, false, List, length, set, slice_get, All, Option, Some, None, option_map}
use Rattle.std.proofs.lemmas.List.{map-set}
use Rattle.std.proofs.lemmas.List.Elements.{All-get_or, All-set}
use Rattle.std.proofs.lemmas.Option.{slice_get-map, slice_get_within, get_or_from_slice_get}
use Rattle.smt_terms.specs.declared.ids.NodeId.{NodeId}
use Rattle.smt_terms.specs.Fresh.{Supply}
use Rattle.smt_terms.specs.SubstLaws.{names_within, GivesNone}
use Rattle.smt_terms.specs.Term.{Term}
use Rattle.term_table.specs.Formulas.{Formulas, tree, IsNode}
use Rattle.term_walk.specs.Walking.{GrowsTo}
use Rattle.term_subst.specs.Substituting.{IsLater}
use Rattle.normal_forms.specs.Nodes.{IsFormula}
use Rattle.script_read.specs.declared.scripts.Command.{Command}
use Rattle.script_read.specs.declared.scripts.Command.TheVariants.{Passed, DeclareSort, Declare, Assert, Check, CheckAssuming, Push, Pop, Reset, ResetAssertions, Globals, Exit}
use Rattle.script_read.specs.CommandLists.{command_of, commands_of, IsCommandOf, AreCommandsOf}
use Rattle.script_read.specs.Commands.{Command as CommandOf, assert}
use Rattle.script_terms.proofs.Grown.{none_later}
use Rattle.passes.specs.Assertion.{assertion_of}
use Rattle.pass_laws.specs.Behind.{Form, IsRewritable, AreRewritable}
use Rattle.script_read.proofs.CommandsStay.{commands_within, commands_stay}
use Rattle.pass_laws.proofs.InForm.{IsUnderWay, is_assertion, kept_step, changed_step, its_own}

all_at : {X : Type 0} (P : X → Type 0) (xs : List X) (i : ℕ) (x : X) → slice_get xs i ≡ Some x → All P xs → P x
all_at P xs i x e all = subst P (get_or_from_slice_get xs i x x e) (All-get_or P xs i x (slice_get_within xs i x e) all)

abbrev from_found : Option (Option (NodeId × ℕ)) → Option Command
from_found (Some (Some p)) = Some (Assert p.0 p.1)
from_found _ = None

is_assert : (o : Option Command) (id : NodeId) (n : ℕ) → option_map assertion_of o ≡ Some (Some (id, n)) → o ≡ Some (Assert id n)
is_assert None id n e = absurd cc
is_assert (Some (Passed text)) id n e = absurd cc
is_assert (Some (DeclareSort s)) id n e = absurd cc
is_assert (Some (Declare f)) id n e = absurd cc
is_assert (Some (Assert k m)) id n e = ap from_found e
is_assert (Some Check) id n e = absurd cc
is_assert (Some (CheckAssuming ids)) id n e = absurd cc
is_assert (Some (Push m)) id n e = absurd cc
is_assert (Some (Pop m)) id n e = absurd cc
is_assert (Some Reset) id n e = absurd cc
is_assert (Some ResetAssertions) id n e = absurd cc
is_assert (Some (Globals b)) id n e = absurd cc
is_assert (Some Exit) id n e = absurd cc

-- what is found is a command, and no assertion
pub record IsOther (o : Option (CommandOf Term)) : Type 0 where
  pub command : CommandOf Term
  pub is : o ≡ Some command
  pub other : is_assertion command ≡ false

is_other : (t : Formulas) (o : Option Command) → option_map assertion_of o ≡ Some None → IsOther (option_map (command_of t) o)
is_other t None e = absurd cc
is_other t (Some (Assert k m)) e = absurd cc
is_other t (Some c) e = record { command = command_of t c; is = refl; other = refl }

-- ---- the command at a place

module _ (t : Formulas) (ks : List Command) (i : ℕ) where
  pub other_seen : option_map assertion_of (slice_get ks i) ≡ Some None → IsOther (slice_get (commands_of t ks) i)
  other_seen e = subst IsOther (sym (slice_get-map (command_of t) ks i)) (is_other t (slice_get ks i) e)

  module _ (id : NodeId) (n : ℕ) (e : option_map assertion_of (slice_get ks i) ≡ Some (Some (id, n))) where
    found : slice_get ks i ≡ Some (Assert id n)
    found = is_assert (slice_get ks i) id n e

    pub seen : slice_get (commands_of t ks) i ≡ Some (assert n (tree t id))
    seen = slice_get-map (command_of t) ks i ∙ ap (option_map (command_of t)) found

    pub node_there : AreCommandsOf t ks → IsNode t id
    node_there numbers = all_at (IsCommandOf t) ks i (Assert id n) found numbers

-- ---- another assertion in its place

module _ (t : Formulas) (ks : List Command) (numbers : AreCommandsOf t ks) (u : Formulas) (grows : GrowsTo t u) (i : ℕ) (n : ℕ) (k : NodeId) where
  pub numbers_then : IsNode u k → AreCommandsOf u (set ks i (Assert k n))
  numbers_then node = All-set (IsCommandOf u) ks i (Assert k n) node (commands_within t u grows ks numbers)

  pub commands_then : commands_of u (set ks i (Assert k n)) ≡ set (commands_of t ks) i (assert n (tree u k))
  commands_then = map-set (command_of u) ks i (Assert k n) ∙ ap (λ ds. set ds i (assert n (tree u k))) (commands_stay t u grows ks numbers)

-- ---- forms, one assertion after the other

module _ (form : Form) (cs : List (CommandOf Term)) (s : Supply) (t : Formulas) (ks : List Command) (i : ℕ) (r : Supply)
    (few : i < length cs) (numbers : AreCommandsOf t ks) (is : IsUnderWay form cs s i (commands_of t ks) r) where
  pub other_stays : option_map assertion_of (slice_get ks i) ≡ Some None → IsUnderWay form cs s (i + 1) (commands_of t ks) r
  other_stays e =
      let o : IsOther (slice_get (commands_of t ks) i) = other_seen t ks i e in
      kept_step form cs s i (commands_of t ks) r o.command few is o.is o.other

  module _ (id : NodeId) (n : ℕ) (e : option_map assertion_of (slice_get ks i) ≡ Some (Some (id, n))) where
    module _ (ready : AreRewritable cs s) where
      may : IsRewritable s (assert n (tree t id))
      may = all_at (IsRewritable s) cs i (assert n (tree t id)) (its_own form cs s i (commands_of t ks) r (assert n (tree t id)) few is (seen t ks i id n e)) ready

      pub formula_there : IsFormula t id
      formula_there = record { node = node_there t ks i id n e numbers; sort = may.0 }

      pub names_there : IsLater s r → GivesNone r (names_within (tree t id))
      names_there later = none_later s r later (names_within (tree t id)) may.1

    pub replaced : (u : Formulas) (k : NodeId) (q : Supply) → GrowsTo t u → tree u k ≡ (form (tree t id) r).0 → q ≡ (form (tree t id) r).1
        → IsUnderWay form cs s (i + 1) (commands_of u (set ks i (Assert k n))) q
    replaced u k q grows term left =
        subst (λ ds. IsUnderWay form cs s (i + 1) ds q) (sym (commands_then t ks numbers u grows i n k))
        (changed_step form cs s i (commands_of t ks) r n (tree t id) (tree u k) q few is (seen t ks i id n e) term left)
