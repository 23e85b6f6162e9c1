-- Passes that draw no symbols leave models as they are.
use Rattle.std.proofs.Common.{◌≡◌, ◌∙◌, ap, refl, ℕ, true, List, [], ◌∷◌, ◌++◌, map, Option}
use Rattle.std.specs.Prelude.{filter, flat_map}
use Rattle.std.specs.List.{list_all}
use Rattle.smt_terms.specs.Sorts.{Symbol}
use Rattle.smt_terms.specs.Term.{Term}
use Rattle.smt_terms.specs.Free.{is_among}
use Rattle.smt_terms.specs.Fresh.{Supply}
use Rattle.smt_terms.specs.Models.{Graph, Model}
use Rattle.smt_terms.proofs.Tests.{both_true}
use Rattle.ackermann.specs.Ackermann.{one_level}
use Rattle.script_read.specs.Commands.{Command, passed, declare_sort, declare, assert, check, check_assuming, push, pop, reset, reset_assertions, globals, exit, live, signature}
use Rattle.smt_print.specs.Laws.{Each}
use Rattle.smt_print.proofs.LikePoints.{LikeCommand, like_passed, like_sort, like_symbol, like_assert, like_check, like_assuming, like_push, like_pop, like_reset, like_emptying, like_globals, like_exit, LikeCommands, alike}
use Rattle.pass_laws.specs.declared.names.Pass.{Pass}
use Rattle.pass_laws.specs.declared.names.Pass.TheVariants.{Simplify, Nnf, Aig, Prenex, Reads, Shannon, SelfSub, Rules, Ite, Cnf, Ackermann}
use Rattle.pass_laws.specs.Carry.{live_symbols, drawn_by, new_symbols, with_graphs, graph_dropped, back_over, back, term_for, declared_new, graph_kept, graph_given, forth_over, forth, asked_for, asked_forth}
use Rattle.pass_laws.specs.Laws.{keeps_values, PassesLeaveModels}
use Rattle.pass_laws.specs.Passed.{Way, in_place, Replacement, literal_kept, turn, replacements_from, replacements, apply_pass}

-- ---- no symbols

no_symbols : (p : Pass) → keeps_values p ≡ true → (t : Term) (w : Way) → (in_place p t w).0.symbols ≡ []
no_symbols Nnf is t w = refl
no_symbols Aig is t w = refl
no_symbols Prenex is t w = refl
no_symbols Shannon is t w = refl
no_symbols SelfSub is t w = refl
no_symbols Rules is t w = refl
no_symbols Simplify is t w = refl
no_symbols Reads is t w = refl
no_symbols Ite is t w = absurd cc
no_symbols Cnf is t w = absurd cc
no_symbols Ackermann is t w = absurd cc

-- a replacement that draws none
abbrev Plain : Replacement → Replacement → Type 0
Plain r q = r.group.symbols ≡ []

plain_literals : (ls : List Term) → Each Plain (map literal_kept ls) (map literal_kept ls)
plain_literals [] = tt
plain_literals (l ∷ ls) = (refl, plain_literals ls)

plain_turn : (p : Pass) → keeps_values p ≡ true → (c : Command Term) (w : Way) → LikeCommand Replacement Replacement Plain (turn p c w).0 (turn p c w).0
plain_turn p is (passed text) w = like_passed text text
plain_turn p is (declare_sort n) w = like_sort n
plain_turn p is (declare f) w = like_symbol f
plain_turn p is (assert i t) w = let r : Replacement = record { number = i; term = t; group = (in_place p t w).0 } in like_assert i i r r (no_symbols p is t w)
plain_turn p is check w = like_check
plain_turn p is (check_assuming ls) w = like_assuming (map literal_kept ls) (map literal_kept ls) (plain_literals ls)
plain_turn p is (push n) w = like_push n
plain_turn p is (pop n) w = like_pop n
plain_turn p is reset w = like_reset
plain_turn p is reset_assertions w = like_emptying
plain_turn p is (globals b) w = like_globals b
plain_turn p is exit w = like_exit

plain_turns : (p : Pass) → keeps_values p ≡ true → (cs : List (Command Term)) (w : Way) → LikeCommands Replacement Replacement Plain (replacements_from p cs w).0 (replacements_from p cs w).0
plain_turns p is [] w = tt
plain_turns p is (c ∷ cs) w = (plain_turn p is c w, plain_turns p is cs (turn p c w).1)

none_drawn : (c d : Command Replacement) → LikeCommand Replacement Replacement Plain c d → drawn_by c ≡ []
none_drawn _ _ (like_passed s t) = refl
none_drawn _ _ (like_sort n) = refl
none_drawn _ _ (like_symbol f) = refl
none_drawn _ _ (like_assert i j a b r) = ap (map (λ n. n.0)) r
none_drawn _ _ like_check = refl
none_drawn _ _ (like_assuming xs bs e) = refl
none_drawn _ _ (like_push n) = refl
none_drawn _ _ (like_pop n) = refl
none_drawn _ _ like_reset = refl
none_drawn _ _ like_emptying = refl
none_drawn _ _ (like_globals b) = refl
none_drawn _ _ like_exit = refl

none_new : (cs : List (Command Replacement)) → LikeCommands Replacement Replacement Plain cs cs → flat_map drawn_by cs ≡ []
none_new [] h = refl
none_new (c ∷ cs) h = λ i. none_drawn c c h.0 i ++ none_new cs h.1 i

none_live : (rs : List Replacement) → Each Plain rs rs → flat_map (λ (r : Replacement). r.group.symbols) rs ≡ []
none_live [] h = refl
none_live (r ∷ rs) h = λ i. h.0 i ++ none_live rs h.1 i

none_asked : (rs : List Replacement) → Each Plain rs rs → flat_map (λ (r : Replacement). asked_for r.number (map (λ n. n.1) r.group.symbols)) rs ≡ []
none_asked [] h = refl
none_asked (r ∷ rs) h = λ i. asked_for r.number (map (λ n. n.1) (h.0 i)) ++ none_asked rs h.1 i

none_of : (fs : List Symbol) → filter (is_among []) fs ≡ []
none_of [] = refl
none_of (f ∷ fs) = none_of fs

-- ---- models

module _ (p : Pass) (is : keeps_values p ≡ true) (cs : List (Command Term)) (s : Supply) (k : ℕ) where
  turns : LikeCommands Replacement Replacement Plain (replacements p cs s).0 (replacements p cs s).0
  turns = plain_turns p is cs (record { levels = one_level; names = s })

  new_none : new_symbols p cs s ≡ []
  new_none = none_new (replacements p cs s).0 turns

  live_none : live_symbols p cs s k ≡ []
  live_none = none_live (live (replacements p cs s).0 k) ((alike Replacement Replacement Plain (replacements p cs s).0 (replacements p cs s).0 turns).live k)

  -- and no term must be evaluated
  pub nothing_asked : asked_forth p cs s k ≡ []
  nothing_asked = none_asked (live (replacements p cs s).0 k) ((alike Replacement Replacement Plain (replacements p cs s).0 (replacements p cs s).0 turns).live k)

  declared_none : declared_new p cs s k ≡ []
  declared_none = ap (λ fs. filter (is_among fs) (signature (apply_pass p cs s).0 k).symbols) new_none ∙ none_of (signature (apply_pass p cs s).0 k).symbols

back_plain : (p : Pass) → keeps_values p ≡ true → (cs : List (Command Term)) (s : Supply) (k : ℕ) (m : Model) → back_over p cs s k m ≡ with_graphs m (graph_dropped (new_symbols p cs s) m.graphs)
back_plain Ackermann is cs s k m = absurd cc
back_plain _ is cs s k m = refl

kept_plain : (p : Pass) → keeps_values p ≡ true → (graphs : Symbol → Option Graph) → graph_kept p graphs ≡ graphs
kept_plain Ackermann is graphs = absurd cc
kept_plain _ is graphs = refl

pub back_stays : (p : Pass) → keeps_values p ≡ true → (cs : List (Command Term)) (s : Supply) (k : ℕ) (m : Model) → back_over p cs s k m ≡ m
back_stays p is cs s k m = back_plain p is cs s k m ∙ ap (λ fs. with_graphs m (graph_dropped fs m.graphs)) (new_none p is cs s k)

pub forth_stays : (p : Pass) → keeps_values p ≡ true → (cs : List (Command Term)) (s : Supply) (k : ℕ) (m : Model) → forth_over p cs s k m ≡ m
forth_stays p is cs s k m i =
    with_graphs m (λ f. graph_given m (term_for (live_none p is cs s k i) f) (is_among (declared_none p is cs s k i) f) f (kept_plain p is m.graphs i f))

pub passes_leave : PassesLeaveModels
passes_leave [] cs s all k m = (refl, refl)
passes_leave (p ∷ ps) cs s all k m =
    let parts = both_true (keeps_values p) (list_all keeps_values ps) all in
    let ds : List (Command Term) = (apply_pass p cs s).0 in
    let left : Supply = (apply_pass p cs s).1 in (
      back_stays p parts.0 cs s k (back ps ds left k m) ∙ (passes_leave ps ds left parts.1 k m).0,
      ap (λ n. forth ps ds left k n) (forth_stays p parts.0 cs s k m) ∙ (passes_leave ps ds left parts.1 k m).1,
    )
