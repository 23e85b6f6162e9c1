-- Scripts behind passes. A pass goes through the assertions in order (SMT-LIB 2.6, section 4.2.4) and puts a group in the
-- place of each: the declarations of its new symbols in the order in which they were drawn, and then its assertions, which
-- keep the number of the one that they replace. An equivalence pass puts one assertion there and declares nothing. Other
-- commands stay, but the removal of applications takes the declarations of functions with arguments away.
use Rattle.std.specs.Prelude.{ℕ, min, cond, List, [], ◌∷◌, ◌++◌, map, flat_map, Option, Some, None}
use Rattle.std.specs.List.{reduce}
use Rattle.smt_terms.specs.Sorts.{Sort}
use Rattle.smt_terms.specs.Term.{Term}
use Rattle.smt_terms.specs.Fresh.{Supply}
use Rattle.smt_terms.specs.Groups.{Group, Grouped}
use Rattle.simplify.specs.Simplify.{simp}
use Rattle.normal_forms.specs.Nnf.{nnf}
use Rattle.normal_forms.specs.Aig.{aig}
use Rattle.normal_forms.specs.Prenex.{prenex}
use Rattle.normal_forms.specs.Quantifiers.{shannon, selfsub}
use Rattle.array_forms.specs.Reads.{reads}
use Rattle.ite_free.specs.Ite.{ite}
use Rattle.cnf_polarity.specs.Cnf.{cnf}
use Rattle.ackermann.specs.Ackermann.{Levels, one_level, pushed, popped, Acked, ack, has_quantified_use}
use Rattle.script_read.specs.Commands.{Command, with_asserted, declare, assert, push, pop, reset, reset_assertions}
use Rattle.pass_laws.specs.declared.names.Pass.{Pass}
use Rattle.pass_laws.specs.declared.names.Pass.TheVariants.{Simplify, Nnf, Aig, Prenex, Reads, Shannon, SelfSub, Rules, Ite, Cnf, Ackermann}

-- ---- one assertion

-- what a pass knows between two commands: the live applications, level by level, and the names that are left
pub record Way : Type 0 where
  pub levels : Levels
  pub names : Supply

abbrev pub with_levels : Way → Levels → Way
with_levels w ls = record { levels = ls; names = w.names }

abbrev pub with_names : Way → Supply → Way
with_names w s = record { levels = w.levels; names = s }

-- a group of one assertion
abbrev pub alone : Term → Group
alone t = record { symbols = []; asserts = t ∷ [] }

abbrev pub rewritten : Term × Supply → Way → Group × Way
rewritten r w = (alone r.0, with_names w r.1)

abbrev pub grouped : Grouped → Way → Group × Way
grouped g w = (g.group, with_names w g.names)

abbrev pub acked : Acked → Group × Way
acked a = (a.group, record { levels = a.levels; names = a.names })

-- the group in place of an assertion, and what is known behind it; stored rules count as changing nothing here
abbrev pub in_place : Pass → Term → Way → Group × Way
in_place Simplify t w = (alone (simp t), w)
in_place Nnf t w = (alone (nnf t), w)
in_place Aig t w = (alone (aig t), w)
in_place Prenex t w = rewritten (prenex t w.names) w
in_place Reads t w = (alone (reads t), w)
in_place Shannon t w = (alone (shannon t), w)
in_place SelfSub t w = rewritten (selfsub t w.names) w
in_place Rules t w = (alone t, w)
in_place Ite t w = grouped (ite t w.names) w
in_place Cnf t w = grouped (cnf t w.names) w
in_place Ackermann t w = acked (ack t w.levels w.names)

-- ---- the commands, each with the groups of what it asserts

pub record Replacement : Type 0 where
  -- of the assertion
  pub number : ℕ
  -- what was asserted
  pub term : Term
  pub group : Group

-- a literal of a check stays
abbrev pub literal_kept : Term → Replacement
literal_kept t = record { number = 0; term = t; group = alone t }

abbrev pub replaced_by : ℕ → Term → Group × Way → Command Replacement × Way
replaced_by i t r = (assert i (record { number = i; term = t; group = r.0 }), r.1)

-- levels of applications open and close with those of the script, and go with a reset
abbrev pub onward : Command Term → Way → Way
onward (push n) w = with_levels w (pushed n w.levels)
onward (pop n) w = with_levels w (popped n w.levels)
onward reset w = with_levels w one_level
onward reset_assertions w = with_levels w one_level
onward _ w = w

abbrev pub turn : Pass → Command Term → Way → Command Replacement × Way
turn p (assert i t) w = replaced_by i t (in_place p t w)
turn p c w = (with_asserted literal_kept c, onward c w)

abbrev pub behind : Command Replacement → List (Command Replacement) × Supply → List (Command Replacement) × Supply
behind c r = (c ∷ r.0, r.1)

abbrev pub replacements_from : Pass → List (Command Term) → Way → List (Command Replacement) × Supply
replacements_from p [] w = ([], w.names)
replacements_from p (c ∷ cs) w = let r : Command Replacement × Way = turn p c w in behind r.0 (replacements_from p cs r.1)

abbrev pub replacements : Pass → List (Command Term) → Supply → List (Command Replacement) × Supply
replacements p cs s = replacements_from p cs (record { levels = one_level; names = s })

-- ---- the commands that come of it

abbrev pub group_commands : ℕ → Group → List (Command Term)
group_commands i g = map (λ n. declare n.0) g.symbols ++ map (λ t. assert i t) g.asserts

-- a list of one where there are no arguments
abbrev pub without_arguments : List Sort → List (Command Term) → List (Command Term)
without_arguments [] cs = cs
without_arguments (s ∷ ss) cs = []

abbrev pub written : Pass → Command Replacement → List (Command Term)
written p (assert i r) = group_commands i r.group
written Ackermann (declare f) = without_arguments f.args (declare f ∷ [])
written p c = with_asserted (λ r. r.term) c ∷ []

-- the commands behind a pass, and the names that are left
abbrev pub apply_pass : Pass → List (Command Term) → Supply → List (Command Term) × Supply
apply_pass p cs s = let r : List (Command Replacement) × Supply = replacements p cs s in (flat_map (written p) r.0, r.1)

-- the same behind a list of passes, from the first to the last
abbrev pub passed : List Pass → List (Command Term) → Supply → List (Command Term) × Supply
passed [] cs s = (cs, s)
passed (p ∷ ps) cs s = let r : List (Command Term) × Supply = apply_pass p cs s in passed ps r.0 r.1

-- ---- the refusal: an application below a quantifier, where applications are to be removed

abbrev pub least : List ℕ → Option ℕ
least ns = reduce min ns

abbrev pub quantified_use : Command Term → List ℕ
quantified_use (assert i t) = cond (has_quantified_use t) (i ∷ []) []
quantified_use _ = []

abbrev pub refused_by : Pass → List (Command Term) → Option ℕ
refused_by Ackermann cs = least (flat_map quantified_use cs)
refused_by _ cs = None

abbrev pub or_later : Option ℕ → Option ℕ → Option ℕ
or_later (Some n) later = Some n
or_later None later = later

-- the number of the assertion that the first refusing pass refuses, the least such number there
abbrev pub refused_assertion : List Pass → List (Command Term) → Supply → Option ℕ
refused_assertion [] cs s = None
refused_assertion (p ∷ ps) cs s =
    let r : List (Command Term) × Supply = apply_pass p cs s in or_later (refused_by p cs) (refused_assertion ps r.0 r.1)
