-- The names that are left behind a pass that makes groups are none of those in its commands.
use Rattle.std.proofs.Common.{sym, subst, ℕ, List, [], ◌∷◌, ◌++◌, map}
use Rattle.std.specs.Prelude.{All, flat_map}
use Rattle.std.proofs.lemmas.List.Elements.{All-head, All-tail}
use Rattle.smt_terms.specs.Free.{names_of}
use Rattle.smt_terms.specs.Fresh.{Supply, NeverGives}
use Rattle.smt_terms.specs.Groups.{Named, Group}
use Rattle.smt_terms.specs.SubstLaws.{names_within, GivesNone, Later}
use Rattle.smt_terms.specs.Term.{Term}
use Rattle.term_groups.specs.Drawing.{ConstantsAreNew}
use Rattle.term_groups.specs.Grouping.{IsGroupOf, IsMadeOf, symbols_of}
use Rattle.script_read.specs.Commands.{Command, with_asserted, declare, assert}
use Rattle.script_read.specs.Laws.{names_in_command, GivesNoNameOf}
use Rattle.pass_laws.specs.GroupPoints.{inputs, outputs, AreGrouped}
use Rattle.pass_laws.specs.Passed.{Replacement, group_commands}
use Rattle.pass_laws.proofs.ReadyNames.{given_later, given_left, given_right, given_both, names_within_made}
use Rattle.pass_laws.proofs.ReadySymbols.{NamesOfGroup, names_of_group}

-- ---- one group

-- q gives none of the names in the assertions of a group
asserted_names : (q : Supply) (i : ℕ) (t : Term) (ns : Named) (us : List Term) → GivesNone q (names_within t ++ names_of (symbols_of ns)) → All (IsMadeOf t ns) us → GivesNoNameOf q (map (λ u. assert i u) us)
asserted_names q i t ns [] given made = λ n among. absurd cc
asserted_names q i t ns (u ∷ us) given made =
    given_both q (names_within u) (flat_map names_in_command (map (λ v. assert i v) us))
    (λ n among. given n (names_within_made t u ns (All-head (IsMadeOf t ns) u us made) n among))
    (asserted_names q i t ns us given (All-tail (IsMadeOf t ns) u us made))

pub spared_behind : (q : Supply) (cs ds : List (Command Term)) → GivesNoNameOf q cs → GivesNoNameOf q ds → GivesNoNameOf q (cs ++ ds)
spared_behind q [] ds first second = second
spared_behind q (c ∷ cs) ds first second =
    given_both q (names_in_command c) (flat_map names_in_command (cs ++ ds)) (given_left q (names_in_command c) (flat_map names_in_command cs) first)
    (spared_behind q cs ds (given_right q (names_in_command c) (flat_map names_in_command cs) first) second)

pub declared_names : (q : Supply) (ns : Named) → GivesNone q (names_of (symbols_of ns)) → GivesNoNameOf q (map (λ n. declare n.0) ns)
declared_names q [] given = given
declared_names q (n ∷ ns) given =
    given_both q (n.0.name ∷ []) (flat_map names_in_command (map (λ m. declare m.0) ns)) (given_left q (n.0.name ∷ []) (names_of (symbols_of ns)) given)
    (declared_names q ns (given_right q (n.0.name ∷ []) (names_of (symbols_of ns)) given))

group_spared : ConstantsAreNew → (r q : Supply) (i : ℕ) (t : Term) (g : Group) → IsGroupOf t r (record { group = g; names = q }) → GivesNone r (names_within t) → GivesNoNameOf q (group_commands i g)
group_spared constants r q i t g is given =
    let names : NamesOfGroup r q g.symbols = names_of_group constants t r q g is in
    spared_behind q (map (λ n. declare n.0) g.symbols) (map (λ u. assert i u) g.asserts)
    (declared_names q g.symbols names.gone)
    (asserted_names q i t g.symbols g.asserts (given_both q (names_within t) (names_of (symbols_of g.symbols)) (given_later r q (names_within t) names.later given) names.gone) is.made)

-- ---- all commands

pub grouped_later : ConstantsAreNew → (rs : List (Command Replacement)) (s r : Supply) → AreGrouped rs s r → Later s r
grouped_later constants [] s r is = λ n never. subst (λ q. NeverGives q n) (sym is) never
grouped_later constants (assert i a ∷ rs) s r is =
    λ n never. grouped_later constants rs is.0 r is.1.1 n ((names_of_group constants a.term s is.0 a.group is.1.0).later n never)
grouped_later constants (c ∷ rs) s r is = grouped_later constants rs s r is

-- a command that stays, and what is left behind it
pub command_spared : (s r : Supply) (c : Command Term) (cs ds : List (Command Term)) → Later s r → GivesNoNameOf s (c ∷ cs) → GivesNoNameOf r ds → GivesNoNameOf r (c ∷ ds)
command_spared s r c cs ds later given rest =
    given_both r (names_in_command c) (flat_map names_in_command ds)
    (given_later s r (names_in_command c) later (given_left s (names_in_command c) (flat_map names_in_command cs) given)) rest

pub names_spared : ConstantsAreNew → (rs : List (Command Replacement)) (s r : Supply) → AreGrouped rs s r → GivesNoNameOf s (inputs rs) → GivesNoNameOf r (outputs rs)
names_spared constants [] s r is given = λ n among. absurd cc
names_spared constants (assert i a ∷ rs) s r is given =
    let names : NamesOfGroup s is.0 a.group.symbols = names_of_group constants a.term s is.0 a.group is.1.0 in
    spared_behind r (group_commands i a.group) (outputs rs)
    (given_later is.0 r (flat_map names_in_command (group_commands i a.group)) (grouped_later constants rs is.0 r is.1.1)
    (group_spared constants s is.0 i a.term a.group is.1.0 (given_left s (names_within a.term) (flat_map names_in_command (inputs rs)) given)))
    (names_spared constants rs is.0 r is.1.1 (given_later s is.0 (flat_map names_in_command (inputs rs)) names.later (given_right s (names_within a.term) (flat_map names_in_command (inputs rs)) given)))
names_spared constants (c ∷ rs) s r is given =
    command_spared s r (with_asserted (λ a. a.term) c) (inputs rs) (outputs rs) (grouped_later constants rs s r is) given
    (names_spared constants rs s r is (given_right s (names_in_command (with_asserted (λ a. a.term) c)) (flat_map names_in_command (inputs rs)) given))
