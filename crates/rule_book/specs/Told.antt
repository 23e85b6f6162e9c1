-- What is known of the answers of a rule and of a book: a template that is answered may take the view's place, and a name of the
-- eight stands for that rule.
use Rattle.std.specs.Prelude.{◌≡◌, List, Option, IfSome, IsTrue}
use Rattle.smt_terms.specs.Free.{name_among}
use Rattle.smt_terms.specs.Sorts.{Name}
use Rattle.rule_book.specs.View.{TermView}
use Rattle.rule_book.specs.Template.{Template}
use Rattle.rule_book.specs.Soundness.{MayReplace}
use Rattle.rule_book.specs.EightRules.{eight_names, eight, all_eight}
use Rattle.rule_book.specs.Ruled.{first_answer}

-- of the rule of that name
pub record IsRuleAnswer (n : Name) (v : TermView) (p : Option Template) : Type 0 where
  pub sound : IfSome p (MayReplace v)
  pub told : IsTrue (name_among eight_names n) → p ≡ eight n v

-- of a book with rules of these names
pub record IsBookAnswer (ns : List Name) (v : TermView) (p : Option Template) : Type 0 where
  pub sound : IfSome p (MayReplace v)
  pub told : IsTrue (all_eight ns) → p ≡ first_answer ns v
