-- Rules that are asked in turn.
use Rattle.std.proofs.Common.{◌≡◌, ℕ, ◌+◌, ◌<◌, ◌≤◌, List, [], ◌∷◌, length, map, drop, get_or, Option, Some, None, refl, ap, sym, ◌∙◌, subst}
use Rattle.std.proofs.lemmas.List.{at_drop_more, at_drop_all}
use Rattle.std.specs.Prelude.{IsTrue}
use Rattle.smt_terms.specs.Free.{name_among}
use Rattle.smt_terms.specs.Sorts.{Name}
use Rattle.smt_terms.proofs.Tests.{both_true}
use Rattle.rule_book.specs.View.{TermView}
use Rattle.rule_book.specs.Template.{Template}
use Rattle.rule_book.specs.EightRules.{eight_names, or_else, all_eight}
use Rattle.rule_book.specs.Ruled.{first_answer}
use Rattle.rule_book.specs.Told.{IsRuleAnswer, IsBookAnswer}

-- of rules of these names, those before the ones that are left answer nothing on the view
pub record IsAskedOf (ns left : List Name) (v : TermView) : Type 0 where
  pub eight : IsTrue (all_eight ns) → IsTrue (all_eight left)
  pub answer : IsTrue (all_eight ns) → first_answer ns v ≡ first_answer left v

pub none-asked : (ns : List Name) (v : TermView) → IsAskedOf ns ns v
none-asked ns v = record { eight = λ h. h; answer = λ h. refl }

module _ (ns : List Name) (n : Name) (left : List Name) (v : TermView) (asked : IsAskedOf ns (n ∷ left) v) where
  told : (p : Option Template) → IsRuleAnswer n v p → IsTrue (all_eight ns) → first_answer ns v ≡ or_else p (first_answer left v)
  told p is h =
      let parts = both_true (name_among eight_names n) (all_eight left) (asked.eight h) in
      asked.answer h ∙ ap (λ q. or_else q (first_answer left v)) (sym (is.told parts.0))

  pub asked-more : IsRuleAnswer n v None → IsAskedOf ns left v
  asked-more is = record {
    eight = λ h. (both_true (name_among eight_names n) (all_eight left) (asked.eight h)).1;
    answer = told None is;
  }

  pub answers : (p : Template) → IsRuleAnswer n v (Some p) → IsBookAnswer ns v (Some p)
  answers p is = record { sound = is.sound; told = λ h. sym (told (Some p) is h) }

none-answers : (ns : List Name) (v : TermView) → IsAskedOf ns [] v → IsBookAnswer ns v None
none-answers ns v asked = record { sound = tt; told = λ h. sym (asked.answer h) }

-- the rule at a place is the next one
pub asked-next : {X : Type 0} (rs : List X) (name : X → Name) (i : ℕ) (r : X) (v : TermView) → i < length rs → r ≡ get_or rs i r → IsAskedOf (map name rs) (map name (drop i rs)) v → IsAskedOf (map name rs) (name r ∷ map name (drop (i + 1) rs)) v
asked-next rs name i r v lt is asked =
    let next = at_drop_more (map name) rs i r lt ∙ ap (λ q. name q ∷ map name (drop (i + 1) rs)) (sym is) in
    subst (λ left. IsAskedOf (map name rs) left v) next asked

pub all-asked : {X : Type 0} (rs : List X) (name : X → Name) (i : ℕ) (v : TermView) → length rs ≤ i → IsAskedOf (map name rs) (map name (drop i rs)) v → IsBookAnswer (map name rs) v None
all-asked rs name i v le asked = none-answers (map name rs) v (subst (λ left. IsAskedOf (map name rs) left v) (at_drop_all (map name) rs i le) asked)
