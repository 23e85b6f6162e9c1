-- What is known of the answers of a rule is known in one way at most, so that a rule may keep it.
use Rattle.std.specs.Prelude.{◌≡◌, ℕ, ◌<◌, Option, Some, IfSome, IsTrue}
use Rattle.std.specs.Coded.{Coded, coded_ℕ, coded_list, coded_option, Coded-set}
use Rattle.std.proofs.Common.{ap, arith}
use base.Stored.{Gv, gnum, gcons}
use denote.Struct.Props.{props}
use Rattle.std.specs.Option.{MatchOption-prop}
use Rattle.smt_terms.specs.contracts.op.Op as operator
use Rattle.smt_terms.specs.Free.{name_among}
use Rattle.smt_terms.specs.Sorts.{Name}
use Rattle.smt_terms.specs.Values.{Value, same}
use Rattle.smt_terms.specs.Operators.{Background}
use Rattle.smt_values.specs.Codes.{head, tail, apart, coded_sort}
use Rattle.rule_book.specs.View.{TermView}
use Rattle.rule_book.specs.Template.{TermPiece, hole, literal, applied, Template, applies_theory, template_sort, template_value}
use Rattle.rule_book.specs.Soundness.{hole_sort, view_value, denoted_hole, AreHoleValues, MayReplace}
use Rattle.rule_book.specs.EightRules.{eight_names, eight}
use Rattle.rule_book.specs.Told.{IsRuleAnswer}

-- ---- codes of templates

abbrev pub piece_code : TermPiece → Gv
piece_code (hole i) = gcons (gnum 0) (gnum i)
piece_code (literal o) = gcons (gnum 1) (operator.the_row.coded.code o)
piece_code (applied o n) = gcons (gnum 2) (gcons (operator.the_row.coded.code o) (gnum n))

pub piece_inj : (p q : TermPiece) → piece_code p ≡ piece_code q → p ≡ q
piece_inj (hole i) (hole j) e = ap hole (coded_ℕ.inj i j (ap tail e))
piece_inj (hole i) (literal o) e = absurd (apart 0 1 e (omega arith))
piece_inj (hole i) (applied o n) e = absurd (apart 0 2 e (omega arith))
piece_inj (literal o) (hole i) e = absurd (apart 1 0 e (omega arith))
piece_inj (literal o) (literal p) e = ap literal (operator.the_row.coded.inj o p (ap tail e))
piece_inj (literal o) (applied p n) e = absurd (apart 1 2 e (omega arith))
piece_inj (applied o n) (hole i) e = absurd (apart 2 0 e (omega arith))
piece_inj (applied o n) (literal p) e = absurd (apart 2 1 e (omega arith))
piece_inj (applied o m) (applied p n) e = λ i. applied (operator.the_row.coded.inj o p (ap (λ g. head (tail g)) e) i) (coded_ℕ.inj m n (ap (λ g. tail (tail g)) e) i)

abbrev pub coded_piece : Coded TermPiece
coded_piece = record { code = piece_code; inj = piece_inj }

abbrev pub coded_answer : Coded (Option Template)
coded_answer = coded_option (coded_list coded_piece)

-- ---- facts with one proof at most

pub MayReplace-prop : (v : TermView) (p : Template) → IsProp (MayReplace v p)
MayReplace-prop v p x y =
    let operators_prop : IsProp (IsTrue (applies_theory p)) = hlevel props in
    let sort_prop : IsProp (template_sort (hole_sort v.cells) p ≡ Some v.sort) = Coded-set (coded_option coded_sort) (template_sort (hole_sort v.cells) p) (Some v.sort) in
    let value_prop :
    IsProp ((b : Background) (holes : ℕ → Value) → ((s : Name) → 0 < b.sizes s) → AreHoleValues b holes v.cells → IfSome (template_value b (λ i. denoted_hole holes i (hole_sort v.cells i)) p) (λ d. IsTrue (same v.sort b.sizes d.value (view_value b holes v)))) =
    hlevel (props, MatchOption-prop) in
    λ i. record {
      operators = operators_prop x.operators y.operators i;
      sort = sort_prop x.sort y.sort i;
      value = value_prop x.value y.value i;
    }

pub IsRuleAnswer-prop : (n : Name) (v : TermView) (p : Option Template) → IsProp (IsRuleAnswer n v p)
IsRuleAnswer-prop n v p x y =
    let sound_prop : IsProp (IfSome p (MayReplace v)) = hlevel (props, MatchOption-prop, MayReplace-prop) in
    let told_prop : IsProp (IsTrue (name_among eight_names n) → p ≡ eight n v) = hlevel (Coded-set coded_answer) in
    λ i. record {
      sound = sound_prop x.sound y.sound i;
      told = told_prop x.told y.told i;
    }
