-- A pass, and a list of passes, lead from commands that can be printed to equivalent ones that can be printed.
use Rattle.std.proofs.Common.{◌≡◌, ◌∙◌, sym, refl, false, List, [], ◌∷◌, Some}
use Rattle.std.specs.Prelude.{is_some}
use Rattle.std.specs.List.{list_all}
use Rattle.smt_terms.specs.Term.{Term}
use Rattle.smt_terms.specs.Fresh.{Supply}
use Rattle.smt_terms.specs.Keeps.{Keeps}
use Rattle.smt_terms.specs.Rank.{sort_of, is_regular}
use Rattle.smt_terms.specs.Val.{val}
use Rattle.smt_terms.proofs.Same.{same-through}
use Rattle.smt_terms.proofs.SortsOfTerms.{sort_is_sort}
use Rattle.smt_terms.proofs.Tests.{both_true}
use Rattle.smt_terms.proofs.Valid.{val_valid}
use Rattle.ackermann.specs.Ackermann.{one_level}
use Rattle.script_read.specs.Commands.{Command, start, live}
use Rattle.smt_print.specs.Laws.{Each}
use Rattle.smt_print.proofs.LikePoints.{Alike, alike}
use Rattle.pass_laws.specs.declared.names.Pass.{Pass}
use Rattle.pass_laws.specs.Laws.{keeps_values, IsReady, AreEquivalent, KeepsCommands, PassKeepsCommands, PassesKeepCommands}
use Rattle.pass_laws.specs.Passed.{Way, apply_pass, passed}
use Rattle.pass_laws.proofs.Assertions.{Rule, FormLaws, rule_of}
use Rattle.pass_laws.proofs.Literals.{same_literals}
use Rattle.pass_laws.proofs.PassTurns.{pass_turns}
use Rattle.pass_laws.proofs.Walked.{Walked, EachTurnsInto, walked, all_like, keeps_own}

-- ---- commands, one by one

pub turned_keep : (cs ds : List (Command Term)) (s r : Supply) → EachTurnsInto cs s ds r → IsReady cs s → KeepsCommands cs (ds, r)
turned_keep cs ds s r turns ready =
    let out : Walked cs false start s ds r = walked cs s r ds turns false start start refl ready.printable ready.names in
    let same : Alike Term Term Keeps cs ds = alike Term Term Keeps cs ds out.like in
    record {
      ready = record { printable = out.printable; names = out.names };
      equivalent = record { kinds = sym same.kinds; signatures = λ k. sym (same.signatures k); live = same.live; literals = same_literals cs ds out.literals };
    }

-- ---- one pass

abbrev first_way : Supply → Way
first_way s = record { levels = one_level; names = s }

by_rule : (p : Pass) → Rule p → (cs : List (Command Term)) (s : Supply) → IsReady cs s → KeepsCommands cs (apply_pass p cs s)
by_rule p rule cs s ready = turned_keep cs (apply_pass p cs s).0 s (apply_pass p cs s).1 (pass_turns p rule cs (first_way s)) ready

pub pass_keeps : FormLaws → PassKeepsCommands
pass_keeps laws p cs s is ready = by_rule p (rule_of laws p is) cs s ready

-- ---- one after the other

keeps_then : (t u w : Term) → Keeps t u → Keeps u w → Keeps t w
keeps_then t u w k l = record {
  sorted = l.sorted;
  sort = l.sort ∙ k.sort;
  value = λ m e s model env has.
      let middle : sort_of u ≡ Some s = k.sort ∙ has in
      let last : sort_of w ≡ Some s = l.sort ∙ middle in
      same-through s m.sizes (val m t e) (val m u e) (val m w e)
      (sort_is_sort u s (both_true (is_some (sort_of u)) (is_regular u) k.sorted).1 middle)
      (val_valid t s m e model env has) (val_valid u s m e model env middle) (val_valid w s m e model env last)
      (k.value m e s model env has) (l.value m e s model env middle);
}

each_then : (ts us ws : List Term) → Each Keeps ts us → Each Keeps us ws → Each Keeps ts ws
each_then [] [] [] h k = tt
each_then (t ∷ ts) (u ∷ us) (w ∷ ws) h k = (keeps_then t u w h.0 k.0, each_then ts us ws h.1 k.1)
each_then [] [] (w ∷ ws) h k = absurd k
each_then [] (u ∷ us) ws h k = absurd h
each_then (t ∷ ts) [] ws h k = absurd h
each_then (t ∷ ts) (u ∷ us) [] h k = absurd k

pub equivalent_then : (cs ds es : List (Command Term)) → AreEquivalent cs ds → AreEquivalent ds es → AreEquivalent cs es
equivalent_then cs ds es h k = record {
  kinds = k.kinds ∙ h.kinds;
  signatures = λ n. k.signatures n ∙ h.signatures n;
  live = λ n. each_then (live cs n) (live ds n) (live es n) (h.live n) (k.live n);
  literals = λ n. k.literals n ∙ h.literals n;
}

pub equivalent_itself : (cs : List (Command Term)) (s : Supply) → IsReady cs s → AreEquivalent cs cs
equivalent_itself cs s ready =
    let same : Alike Term Term Keeps cs cs = alike Term Term Keeps cs cs (all_like Keeps keeps_own cs false start ready.printable) in
    record { kinds = refl; signatures = λ k. refl; live = same.live; literals = λ k. refl }

pub passes_keep : FormLaws → PassesKeepCommands
passes_keep laws [] cs s all ready = record { ready = ready; equivalent = equivalent_itself cs s ready }
passes_keep laws (p ∷ ps) cs s all ready =
    let parts = both_true (keeps_values p) (list_all keeps_values ps) all in
    let here : KeepsCommands cs (apply_pass p cs s) = pass_keeps laws p cs s parts.0 ready in
    let rest : KeepsCommands (apply_pass p cs s).0 (passed ps (apply_pass p cs s).0 (apply_pass p cs s).1) = passes_keep laws ps (apply_pass p cs s).0 (apply_pass p cs s).1 parts.1 here.ready in
    record { ready = rest.ready; equivalent = equivalent_then cs (apply_pass p cs s).0 (passed ps (apply_pass p cs s).0 (apply_pass p cs s).1).0 here.equivalent rest.equivalent }
