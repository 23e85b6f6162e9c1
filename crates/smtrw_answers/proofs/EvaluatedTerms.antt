-- Terms that are evaluated where models are carried lie in the range where no assertion is told to have one beyond it.
use Rattle.std.proofs.Common.{◌≡◌, refl, ℕ, Bool, true, false, not, if◌then◌else◌, ◌&&◌, List, [], ◌∷◌, ◌++◌, map, filter, None}
use Rattle.std.specs.Prelude.{flat_map}
use Rattle.std.specs.List.{list_all}
use Rattle.smt_terms.specs.Fresh.{Supply}
use Rattle.smt_terms.specs.Groups.{Named}
use Rattle.smt_terms.specs.Models.{Model}
use Rattle.smt_terms.specs.Sorts.{Symbol}
use Rattle.smt_terms.specs.Term.{Term}
use Rattle.smt_terms.specs.Val.{no_variables, fits}
use Rattle.smt_terms.proofs.Tests.{both_true, and_true}
use Rattle.script_read.specs.Commands.{Command}
use Rattle.ackermann.specs.Tables.{operands_of}
use Rattle.pass_laws.specs.declared.names.Pass.{Pass}
use Rattle.pass_laws.specs.declared.names.Pass.TheVariants.{Ackermann}
use Rattle.pass_laws.specs.Carry.{live_groups, live_symbols, Asked, asked_for, asked_back, asked_forth, numbers, beyond_at}
use Rattle.pass_laws.specs.Passed.{Replacement, least}
use Rattle.smtrw_answers.proofs.ReadableTables.{all_both, operands_fit}

none_least : (ns : List ℕ) → least ns ≡ None → ns ≡ []
none_least [] h = refl
none_least (n ∷ ns) h = absurd cc

abbrev beyond_range : Model → List Asked → List Asked
beyond_range m qs = filter (λ (a : Asked). not (fits m a.term no_variables)) qs

nothing_beyond : (m : Model) (qs : List Asked) → numbers (beyond_range m qs) ≡ [] → list_all (λ (a : Asked). fits m a.term no_variables) qs ≡ true
nothing_beyond m [] none = refl
nothing_beyond m (q ∷ qs) none = by (fits m q.term no_variables) none (nothing_beyond m qs)
  where
    by : (b : Bool) → numbers (if not b then q ∷ beyond_range m qs else beyond_range m qs) ≡ [] → (numbers (beyond_range m qs) ≡ [] → list_all (λ (a : Asked). fits m a.term no_variables) qs ≡ true)
        → (b && list_all (λ (a : Asked). fits m a.term no_variables) qs) ≡ true
    by true none later = later none
    by false none later = absurd cc

all_first : {A : Type 0} (test : A → Bool) (xs ys : List A) → list_all test (xs ++ ys) ≡ true → (list_all test xs ≡ true) × (list_all test ys ≡ true)
all_first test [] ys all = (refl, all)
all_first test (x ∷ xs) ys all =
    let a = both_true (test x) (list_all test (xs ++ ys)) all in
    let b = all_first test xs ys a.1 in
    (and_true (test x) (list_all test xs) a.0 b.0, b.1)

abbrev pub FitEach : Model → Named → Type 0
FitEach m ns = list_all (λ (n : Symbol × Term). fits m n.1 no_variables) ns ≡ true

asked_fit : (m : Model) (i : ℕ) (ts : List Term) → list_all (λ (a : Asked). fits m a.term no_variables) (asked_for i ts) ≡ true → list_all (λ (t : Term). fits m t no_variables) ts ≡ true
asked_fit m i [] all = refl
asked_fit m i (t ∷ ts) all =
    let a = both_true (fits m t no_variables) (list_all (λ (q : Asked). fits m q.term no_variables) (asked_for i ts)) all in
    and_true (fits m t no_variables) (list_all (λ (u : Term). fits m u no_variables) ts) a.0 (asked_fit m i ts a.1)

group_fits : (m : Model) (i : ℕ) (ns : Named) → list_all (λ (a : Asked). fits m a.term no_variables) (asked_for i (map (λ (n : Symbol × Term). n.1) ns)) ≡ true → FitEach m ns
group_fits m i [] all = refl
group_fits m i (n ∷ ns) all =
    let a = both_true (fits m n.1 no_variables) (list_all (λ (q : Asked). fits m q.term no_variables) (asked_for i (map (λ (k : Symbol × Term). k.1) ns))) all in
    and_true (fits m n.1 no_variables) (list_all (λ (k : Symbol × Term). fits m k.1 no_variables) ns) a.0 (group_fits m i ns a.1)

groups_fit : (m : Model) (rs : List Replacement) → list_all (λ (a : Asked). fits m a.term no_variables) (flat_map (λ (r : Replacement). asked_for r.number (map (λ (n : Symbol × Term). n.1) r.group.symbols)) rs) ≡ true
    → FitEach m (flat_map (λ (r : Replacement). r.group.symbols) rs)
groups_fit m [] all = refl
groups_fit m (r ∷ rs) all =
    let a = all_first (λ (q : Asked). fits m q.term no_variables) (asked_for r.number (map (λ (n : Symbol × Term). n.1) r.group.symbols)) _ all in
    all_both (λ (n : Symbol × Term). fits m n.1 no_variables) r.group.symbols (flat_map (λ (q : Replacement). q.group.symbols) rs) (group_fits m r.number r.group.symbols a.0) (groups_fit m rs a.1)

-- nothing of these has a value beyond the range
abbrev pub IsWithin : Model → List Asked → Type 0
IsWithin m qs = beyond_at (record { model = m; asked = qs }) ≡ None

pub symbols_fit : (p : Pass) (cs : List (Command Term)) (s : Supply) (k : ℕ) (m : Model) → IsWithin m (asked_forth p cs s k) → FitEach m (live_symbols p cs s k)
symbols_fit p cs s k m none =
    groups_fit m (live_groups p cs s k) (nothing_beyond m (asked_forth p cs s k) (none_least (numbers (beyond_range m (asked_forth p cs s k))) none))

-- the operands of live applications, in which the applications ns gave way to their constants
operands_asked : (m : Model) (ns : Named) (i : ℕ) (ks : Named) → list_all (λ (a : Asked). fits m a.term no_variables) (flat_map (λ (n : Symbol × Term). asked_for i (operands_of ns n.1)) ks) ≡ true
    → list_all (operands_fit m ns) ks ≡ true
operands_asked m ns i [] all = refl
operands_asked m ns i (k ∷ ks) all =
    let a = all_first (λ (q : Asked). fits m q.term no_variables) (asked_for i (operands_of ns k.1)) (flat_map (λ (n : Symbol × Term). asked_for i (operands_of ns n.1)) ks) all in
    and_true (operands_fit m ns k) (list_all (operands_fit m ns) ks) (asked_fit m i (operands_of ns k.1) a.0) (operands_asked m ns i ks a.1)

groups_asked : (m : Model) (ns : Named) (rs : List Replacement)
    → list_all (λ (a : Asked). fits m a.term no_variables) (flat_map (λ (r : Replacement). flat_map (λ (n : Symbol × Term). asked_for r.number (operands_of ns n.1)) r.group.symbols) rs) ≡ true
    → list_all (operands_fit m ns) (flat_map (λ (r : Replacement). r.group.symbols) rs) ≡ true
groups_asked m ns [] all = refl
groups_asked m ns (r ∷ rs) all =
    let a = all_first (λ (q : Asked). fits m q.term no_variables) (flat_map (λ (n : Symbol × Term). asked_for r.number (operands_of ns n.1)) r.group.symbols) _ all in
    all_both (operands_fit m ns) r.group.symbols (flat_map (λ (q : Replacement). q.group.symbols) rs) (operands_asked m ns r.number r.group.symbols a.0) (groups_asked m ns rs a.1)

pub all_operands_fit : (cs : List (Command Term)) (s : Supply) (k : ℕ) (m : Model) → IsWithin m (asked_back Ackermann cs s k)
    → list_all (operands_fit m (live_symbols Ackermann cs s k)) (live_symbols Ackermann cs s k) ≡ true
all_operands_fit cs s k m none =
    groups_asked m (live_symbols Ackermann cs s k) (live_groups Ackermann cs s k) (nothing_beyond m (asked_back Ackermann cs s k) (none_least (numbers (beyond_range m (asked_back Ackermann cs s k))) none))
