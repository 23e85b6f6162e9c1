-- Commands that turn into others, one by one: alike, with the same literals, and printable again.
use Rattle.std.proofs.Common.{◌≡◌, ◌∙◌, sym, ap, refl, ℕ, Bool, true, ◌&&◌, ◌⊎◌, inl, inr, List, [], ◌∷◌, ◌++◌, subst}
use Rattle.std.specs.Prelude.{flat_map}
use Rattle.std.specs.List.{list_all}
use Rattle.smt_terms.specs.Sorts.{Name}
use Rattle.smt_terms.specs.Term.{Term}
use Rattle.smt_terms.specs.Free.{name_among}
use Rattle.smt_terms.specs.Fresh.{Supply, NeverGives}
use Rattle.smt_terms.specs.Keeps.{Keeps}
use Rattle.smt_terms.specs.Rank.{IsWellSorted}
use Rattle.smt_terms.specs.SubstLaws.{names_within, GivesNone, Later}
use Rattle.smt_terms.proofs.Keeping.{keeps_itself}
use Rattle.smt_terms.proofs.Tests.{both_true, and_true}
use Rattle.normal_forms.proofs.Inside.{in-left, in-right, in-both}
use Rattle.script_read.specs.Commands.{Command, passed, declare_sort, declare, assert, check, check_assuming, push, pop, reset, reset_assertions, globals, exit, State, after}
use Rattle.script_read.specs.Laws.{names_in_command}
use Rattle.script_read.specs.Printable.{is_live_literal, may_stand, fixes, may_be_followed, printable_from}
use Rattle.smt_print.specs.Laws.{Each}
use Rattle.smt_print.proofs.LikePoints.{LikeCommand, like_passed, like_sort, like_symbol, like_assert, like_check, like_assuming, like_push, like_pop, like_reset, like_emptying, like_globals, like_exit, LikeCommands}
use Rattle.pass_laws.proofs.Assertions.{Replaces}
use Rattle.pass_laws.proofs.Literals.{literals_in, literals_before, IsFormula, formula_sorted, sorted_formula, literal_fine}
use Rattle.pass_laws.proofs.Outlines.{asserts_nothing, outline, same_after, asserted_after, declare_the_same, stands_alike}
use Rattle.pass_laws.proofs.Standing.{Stands, stands, stands_still}

abbrev LikeTerms : List (Command Term) → List (Command Term) → Type 0
LikeTerms cs ds = LikeCommands Term Term Keeps cs ds

-- ---- the first of commands

-- what is known of a command that may stand first
pub record First (begun : Bool) (s : State Term) (c : Command Term) (cs : List (Command Term)) : Type 0 where
  pub stands : may_stand begun s c ≡ true
  pub followed : may_be_followed c cs ≡ true
  pub rest : printable_from (fixes begun c) (after c s) cs ≡ true

pub first : (begun : Bool) (s : State Term) (c : Command Term) (cs : List (Command Term)) → printable_from begun s (c ∷ cs) ≡ true → First begun s c cs
first begun s c cs h =
    let a = both_true (may_stand begun s c) (may_be_followed c cs && printable_from (fixes begun c) (after c s) cs) h in
    let b = both_true (may_be_followed c cs) (printable_from (fixes begun c) (after c s) cs) a.1 in
    record { stands = a.0; followed = b.0; rest = b.1 }

-- ---- commands that stay

module _ (R : Term → Term → Type 0) (own : (t : Term) → IsFormula t → R t t) where
  literals_own : (s : State Term) (ls : List Term) → list_all (is_live_literal s) ls ≡ true → Each R ls ls
  literals_own s [] all = tt
  literals_own s (l ∷ ls) all =
      let parts = both_true (is_live_literal s l) (list_all (is_live_literal s) ls) all in
      (own l (literal_fine s l parts.0), literals_own s ls parts.1)

  like_itself : (begun : Bool) (s : State Term) (c : Command Term) → may_stand begun s c ≡ true → LikeCommand Term Term R c c
  like_itself begun s (passed text) h = like_passed text text
  like_itself begun s (declare_sort n) h = like_sort n
  like_itself begun s (declare f) h = like_symbol f
  like_itself begun s (assert i t) h = let stand : Stands s t = stands begun s i t h in like_assert i i t t (own t (sorted_formula t stand.formula stand.sorted))
  like_itself begun s check h = like_check
  like_itself begun s (check_assuming ls) h = like_assuming ls ls (literals_own s ls h)
  like_itself begun s (push n) h = like_push n
  like_itself begun s (pop n) h = like_pop n
  like_itself begun s reset h = like_reset
  like_itself begun s reset_assertions h = like_emptying
  like_itself begun s (globals b) h = like_globals b
  like_itself begun s exit h = like_exit

  pub all_like : (cs : List (Command Term)) (begun : Bool) (s : State Term) → printable_from begun s cs ≡ true → LikeCommands Term Term R cs cs
  all_like [] begun s h = tt
  all_like (c ∷ cs) begun s h = let f : First begun s c cs = first begun s c cs h in (like_itself begun s c f.stands, all_like cs (fixes begun c) (after c s) f.rest)

pub keeps_own : (t : Term) → IsFormula t → Keeps t t
keeps_own t fine = keeps_itself t (formula_sorted t fine)

followed : (c : Command Term) (cs ds : List (Command Term)) → LikeTerms cs ds → may_be_followed c cs ≡ true → may_be_followed c ds ≡ true
followed exit [] [] like h = refl
followed exit [] (d ∷ ds) like h = absurd like
followed exit (c ∷ cs) ds like h = absurd cc
followed _ cs ds like h = refl

-- ---- what becomes of commands from a state on, where w are the names that are left before, and left those behind

pub record Walked (cs : List (Command Term)) (begun : Bool) (s : State Term) (w : Supply) (ds : List (Command Term)) (left : Supply) : Type 0 where
  pub like : LikeCommands Term Term Keeps cs ds
  pub literals : literals_in ds ≡ literals_in cs
  pub printable : printable_from begun s ds ≡ true
  pub later : Later w left
  pub names : GivesNone left (flat_map names_in_command ds)

named_later : (w left : Supply) (c : Command Term) (cs ds : List (Command Term)) → Later w left → GivesNone w (flat_map names_in_command (c ∷ cs)) → GivesNone left (flat_map names_in_command ds) → GivesNone left (names_in_command c ++ flat_map names_in_command ds)
named_later w left c cs ds later given rest n among = go (in-both (names_in_command c) (flat_map names_in_command ds) n among)
  where
    go : (name_among (names_in_command c) n ≡ true) ⊎ (name_among (flat_map names_in_command ds) n ≡ true) → NeverGives left n
    go (inl here) = later n (given n (in-left (names_in_command c) (flat_map names_in_command cs) n here))
    go (inr there) = rest n there

names_behind : (w : Supply) (c : Command Term) (cs : List (Command Term)) → GivesNone w (flat_map names_in_command (c ∷ cs)) → GivesNone w (flat_map names_in_command cs)
names_behind w c cs given n among = given n (in-right (names_in_command c) (flat_map names_in_command cs) n among)

prints : (begun : Bool) (s : State Term) (c : Command Term) (cs : List (Command Term)) → First begun s c cs → printable_from begun s (c ∷ cs) ≡ true
prints begun s c cs h =
    and_true (may_stand begun s c) (may_be_followed c cs && printable_from (fixes begun c) (after c s) cs) h.stands
    (and_true (may_be_followed c cs) (printable_from (fixes begun c) (after c s) cs) h.followed h.rest)

-- a command that stays, in front of what becomes of the others
stays : (begun : Bool) (s t : State Term) (w left : Supply) (c : Command Term) (cs ds : List (Command Term)) → asserts_nothing c ≡ true → outline s ≡ outline t → First begun s c cs → GivesNone w (flat_map names_in_command (c ∷ cs))
    → Walked cs (fixes begun c) (after c t) w ds left → Walked (c ∷ cs) begun t w (c ∷ ds) left
stays begun s t w left c cs ds plain same h given rest = record {
  like = (like_itself Keeps keeps_own begun s c h.stands, rest.like);
  literals = ap (literals_before c) rest.literals;
  printable = prints begun t c ds (record {
    stands = sym (stands_alike s t (declare_the_same s t same) begun c plain) ∙ h.stands;
    followed = followed c cs ds rest.like h.followed;
    rest = rest.printable;
  });
  later = rest.later;
  names = named_later w left c cs ds rest.later given rest.names;
}

-- an assertion, in the place of which another one comes
gives_way : (begun : Bool) (s t : State Term) (w r left : Supply) (i : ℕ) (a u : Term) (cs ds : List (Command Term)) → outline s ≡ outline t → First begun s (assert i a) cs → Stands s a → GivesNone w (flat_map names_in_command (assert i a ∷ cs))
    → Replaces a u w r
    → Walked cs true (after (assert i u) t) r ds left → Walked (assert i a ∷ cs) begun t w (assert i u ∷ ds) left
gives_way begun s t w r left i a u cs ds same h stand given by rest = record {
  like = (like_assert i i a u by.kept.keeps, rest.like);
  literals = rest.literals;
  printable = prints begun t (assert i u) ds (record {
    stands = stands_still begun s t (declare_the_same s t same) i a u by.kept stand;
    followed = refl;
    rest = rest.printable;
  });
  later = λ n never. rest.later n (by.later n never);
  names = λ n among. go n (in-both (names_within u) (flat_map names_in_command ds) n among);
}
  where
    go : (n : Name) → (name_among (names_within u) n ≡ true) ⊎ (name_among (flat_map names_in_command ds) n ≡ true) → NeverGives left n
    go n (inl here) = rest.later n (by.names n here)
    go n (inr there) = rest.names n there

-- ---- commands that turn into others, one by one

-- c turns into d, where the names to draw are w before it and r behind it
abbrev pub TurnsInto : Command Term → Supply → Command Term → Supply → Type 0
TurnsInto (assert i a) w d r = (u : Term) × ((d ≡ assert i u) × (IsWellSorted a → GivesNone w (names_within a) → Replaces a u w r))
TurnsInto c w d r = (d ≡ c) × (r ≡ w)

abbrev pub EachTurnsInto : List (Command Term) → Supply → List (Command Term) → Supply → Type 0
EachTurnsInto [] w [] left = left ≡ w
EachTurnsInto (c ∷ cs) w (d ∷ ds) left = (r : Supply) × (TurnsInto c w d r × EachTurnsInto cs r ds left)
EachTurnsInto _ w _ left = ⊥

abbrev Goes : List (Command Term) → Type 0
Goes cs = (w left : Supply) (ds : List (Command Term)) → EachTurnsInto cs w ds left → (begun : Bool) (s t : State Term) → outline s ≡ outline t → printable_from begun s cs ≡ true → GivesNone w (flat_map names_in_command cs) → Walked cs begun t w ds left

plain_step : (c : Command Term) (cs : List (Command Term)) → asserts_nothing c ≡ true → Goes cs → (w r left : Supply) (d : Command Term) (ds : List (Command Term)) → d ≡ c → r ≡ w → EachTurnsInto cs r ds left
    → (begun : Bool) (s t : State Term) → outline s ≡ outline t → printable_from begun s (c ∷ cs) ≡ true → GivesNone w (flat_map names_in_command (c ∷ cs)) → Walked (c ∷ cs) begun t w (d ∷ ds) left
plain_step c cs plain below w r left d ds is names turns begun s t same h given =
    let f : First begun s c cs = first begun s c cs h in
    let rest : Walked cs (fixes begun c) (after c t) w ds left =
    below w left ds (subst (λ x. EachTurnsInto cs x ds left) names turns) (fixes begun c) (after c s) (after c t) (same_after c s t same) f.rest (names_behind w c cs given) in
    subst (λ x. Walked (c ∷ cs) begun t w (x ∷ ds) left) (sym is) (stays begun s t w left c cs ds plain same f given rest)

assert_step : (i : ℕ) (a : Term) (cs : List (Command Term)) → Goes cs → (w r left : Supply) (d : Command Term) (ds : List (Command Term)) → TurnsInto (assert i a) w d r → EachTurnsInto cs r ds left
    → (begun : Bool) (s t : State Term) → outline s ≡ outline t → printable_from begun s (assert i a ∷ cs) ≡ true → GivesNone w (flat_map names_in_command (assert i a ∷ cs)) → Walked (assert i a ∷ cs) begun t w (d ∷ ds) left
assert_step i a cs below w r left d ds turn turns begun s t same h given =
    let f : First begun s (assert i a) cs = first begun s (assert i a) cs h in
    let stand : Stands s a = stands begun s i a f.stands in
    let by : Replaces a turn.0 w r = turn.1.1 stand.sorted (λ n among. given n (in-left (names_within a) (flat_map names_in_command cs) n among)) in
    let rest : Walked cs true (after (assert i turn.0) t) r ds left =
    below r left ds turns true (after (assert i a) s) (after (assert i turn.0) t) (asserted_after i a turn.0 s t same) f.rest (λ n among. by.later n (names_behind w (assert i a) cs given n among)) in
    subst (λ x. Walked (assert i a ∷ cs) begun t w (x ∷ ds) left) (sym turn.1.0) (gives_way begun s t w r left i a turn.0 cs ds same f stand given by rest)

step : (c : Command Term) (cs : List (Command Term)) → Goes cs → Goes (c ∷ cs)
step c cs below w left [] turns begun s t same h given = absurd turns
step (assert i a) cs below w left (d ∷ ds) turns begun s t same h given = assert_step i a cs below w turns.0 left d ds turns.1.0 turns.1.1 begun s t same h given
step c cs below w left (d ∷ ds) turns begun s t same h given = plain_step c cs refl below w turns.0 left d ds turns.1.0.0 turns.1.0.1 turns.1.1 begun s t same h given

pub walked : (cs : List (Command Term)) → Goes cs
walked [] w left [] turns begun s t same h given = record { like = tt; literals = refl; printable = refl; later = λ n never. subst (λ x. NeverGives x n) (sym turns) never; names = λ n among. absurd cc }
walked [] w left (d ∷ ds) turns begun s t same h given = absurd turns
walked (c ∷ cs) w left ds turns begun s t same h given = step c cs (walked cs) w left ds turns begun s t same h given
