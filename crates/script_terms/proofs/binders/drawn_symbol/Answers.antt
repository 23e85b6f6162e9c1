use Rattle.std.proofs.Common.{sym, subst}
use Rattle.smt_terms.specs.Fresh.{Supply, NeverGives, next_name}
use Rattle.smt_terms.specs.Sorts.{Symbol}
use Rattle.smt_terms.proofs.Fresh.{never-drawn}
use Rattle.smt_values.specs.SortIds.{IsPlain}
use Rattle.term_subst.specs.Substituting.{IsLater}
use Rattle.script_terms.specs.Bound.{name_at}
use Rattle.script_terms.proofs.DrawnConstants.{drawn-later}
use Rattle.script_terms.proofs.Lexemes.{symbol_plain}
use Rattle.script_terms.proofs.binders.drawn_symbol.Goals as goal

pub returns-then-is_taken-clause-spared : goal.returns-then-is_taken-clause-spared
returns-then-is_taken-clause-spared c =
    subst (λ (f : Symbol). NeverGives c.next.new.self f.name) (sym c.in_ok-symbol.ensures.symbol) (subst (λ (s : Supply). NeverGives s (next_name c.args.fresh.now)) (sym c.in_ok-symbol.ensures.left) (never-drawn c.args.fresh.now))

pub returns-then-is_taken-clause-later : goal.returns-then-is_taken-clause-later
returns-then-is_taken-clause-later c = subst (IsLater c.args.fresh.now) (sym c.in_ok-symbol.ensures.left) (drawn-later c.args.fresh.now)

pub symbol-requires-clause-name : goal.symbol-requires-clause-name
symbol-requires-clause-name c =
    subst IsPlain (sym c.name.ensures) (symbol_plain c.args.forest.now.bytes c.args.forest.now.tokens c.args.variable.name (name_at c.args.forest.now.tokens c.args.variable.name) c.requires.read c.requires.variable.symbol)

pub returns-clause-spared : goal.returns-clause-spared
returns-clause-spared c =
    subst (λ (f : Symbol). NeverGives c.args.fresh.now f.name) (sym c.in_ok-symbol-2.ensures.symbol)
    (subst (NeverGives c.args.fresh.now) (sym c.name.ensures) (c.requires.text c.args.variable.name (name_at c.args.forest.now.tokens c.args.variable.name) c.requires.variable.token c.requires.variable.symbol))
