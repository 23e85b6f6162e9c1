-- The symbols that passes draw have the sorts of the terms that they stand for.
use Rattle.std.proofs.Common.{◌≡◌, ap, sym, refl, subst, List, [], ◌∷◌, Option, Some, None, All}
use Rattle.std.specs.Prelude.{unwrap_or}
use Rattle.std.proofs.lemmas.List.Elements.{All-nil, All-cons}
use Rattle.smt_terms.specs.Fresh.{Supply}
use Rattle.smt_terms.specs.Groups.{draw_each}
use Rattle.smt_terms.specs.Rank.{sort_of}
use Rattle.smt_terms.specs.Sorts.{Sort, bool, Symbol}
use Rattle.smt_terms.specs.Term.{Term}
use Rattle.ite_free.specs.Ite.{ite}
use Rattle.cnf_polarity.specs.Cnf.{cnf}
use Rattle.term_groups.specs.Drawing.{ConstantsAreNew}
use Rattle.term_groups.specs.Grouping.{IsGroupOf, MakesGroups, terms_of}
use Rattle.term_table.specs.Formulas.{sort_or_bool}
use Rattle.script_read.specs.Commands.{Command, declare, assert}
use Rattle.pass_laws.specs.declared.names.Pass.{Pass}
use Rattle.pass_laws.specs.declared.names.Pass.TheVariants.{Simplify, Nnf, Aig, Prenex, Reads, Shannon, SelfSub, Rules, Ite, Cnf, Ackermann}
use Rattle.pass_laws.specs.GroupPoints.{AreGrouped}
use Rattle.pass_laws.specs.Groups.{Making, groups_from}
use Rattle.pass_laws.specs.Laws.{IsReady, HaveSorts, DrawnHaveSorts}
use Rattle.pass_laws.specs.LiveGroups.{drawn_of, all_told, all_drawn}
use Rattle.pass_laws.specs.Passed.{Replacement, replacements}
use Rattle.pass_laws.proofs.GroupPasses.{IsMaking, ite_is_making, cnf_is_making, replaced}
use Rattle.pass_laws.proofs.GroupPointsHold.{ready-commands-are-grouped}
use Rattle.pass_laws.proofs.ToldCommands.{told_declared}

abbrev pub HasSort : Symbol × Term → Type 0
HasSort n = n.0.result ≡ sort_or_bool (sort_of n.1)

sort_or_truth : (o : Option Sort) → unwrap_or o bool ≡ sort_or_bool o
sort_or_truth None = refl
sort_or_truth (Some to) = refl

pub drawn_sorts : (ts : List Term) (s : Supply) → All HasSort (draw_each ts s).symbols
drawn_sorts [] s = All-nil HasSort
drawn_sorts (t ∷ ts) s = All-cons HasSort _ _ (sort_or_truth (sort_of t)) (drawn_sorts ts _)

grouped_sorts : (rs : List (Command Replacement)) (s r : Supply) → AreGrouped rs s r → All HaveSorts (all_drawn (all_told rs))
grouped_sorts [] s r are = All-nil HaveSorts
grouped_sorts (declare f ∷ rs) s r are = told_declared (λ cs. All HaveSorts (all_drawn cs)) f (all_told rs) (grouped_sorts rs s r are) (grouped_sorts rs s r are)
grouped_sorts (assert i a ∷ rs) s r are =
    let here : IsGroupOf a.term s (record { group = a.group; names = are.0 }) = are.1.0 in
    All-cons HaveSorts (drawn_of a) (all_drawn (all_told rs)) (subst (All HasSort) (sym here.symbols) (drawn_sorts (terms_of a.group.symbols) s)) (grouped_sorts rs are.0 r are.1.1)
grouped_sorts (c ∷ rs) s r are = grouped_sorts rs s r are

making_sorts : (p : Pass) (make : Making) → IsMaking p make → MakesGroups make → ConstantsAreNew → (cs : List (Command Term)) (s : Supply) → IsReady cs s → All HaveSorts (all_drawn (all_told (replacements p cs s).0))
making_sorts p make is makes constants cs s ready =
    subst (λ rs. All HaveSorts (all_drawn (all_told rs))) (sym (ap (λ r. r.0) (replaced p make is cs s)))
    (grouped_sorts (groups_from make cs s).0 s (groups_from make cs s).1 (ready-commands-are-grouped make makes constants cs s ready).grouped)

pub drawn-have-sorts : ConstantsAreNew → MakesGroups ite → MakesGroups cnf → DrawnHaveSorts
drawn-have-sorts constants ites cnfs Ite cs s is ready = making_sorts Ite ite ite_is_making ites constants cs s ready
drawn-have-sorts constants ites cnfs Cnf cs s is ready = making_sorts Cnf cnf cnf_is_making cnfs constants cs s ready
drawn-have-sorts constants ites cnfs Simplify cs s is ready = absurd cc
drawn-have-sorts constants ites cnfs Nnf cs s is ready = absurd cc
drawn-have-sorts constants ites cnfs Aig cs s is ready = absurd cc
drawn-have-sorts constants ites cnfs Prenex cs s is ready = absurd cc
drawn-have-sorts constants ites cnfs Reads cs s is ready = absurd cc
drawn-have-sorts constants ites cnfs Shannon cs s is ready = absurd cc
drawn-have-sorts constants ites cnfs SelfSub cs s is ready = absurd cc
drawn-have-sorts constants ites cnfs Rules cs s is ready = absurd cc
drawn-have-sorts constants ites cnfs Ackermann cs s is ready = absurd cc
