-- Lists of names that a supply doesn't give, and the names within a formula that is made of parts of another one.
use Rattle.std.proofs.Common.{◌≡◌, ◌∙◌, sym, ap, refl, Bool, true, false, ◌&&◌, ◌⊎◌, inl, inr, List, [], ◌∷◌, ◌++◌, map, subst}
use Rattle.std.specs.List.{list_all}
use Rattle.smt_terms.specs.Equal.{name_eq, symbol_eq}
use Rattle.smt_terms.specs.Free.{name_among, names_of, head_symbols, is_among}
use Rattle.smt_terms.specs.Fresh.{Supply, NeverGives}
use Rattle.smt_terms.specs.Groups.{Named}
use Rattle.smt_terms.specs.Sorts.{Name, Symbol, Variable}
use Rattle.smt_terms.specs.SubstLaws.{names_within, names_within_each, GivesNone, Later}
use Rattle.smt_terms.specs.Term.{Head, symbol, Term, apply, quantified, Terms, none, ◌⨾◌}
use Rattle.smt_terms.proofs.Cuts.{name_among-append}
use Rattle.smt_terms.proofs.Equal.{name_same, name_itself, Decides-symbol_eq}
use Rattle.smt_terms.proofs.Tests.{both_true, and_true, either_true, left_true, right_true}
use Rattle.term_groups.specs.Every.{every, every_of}
use Rattle.term_groups.specs.Grouping.{symbols_of, IsMadeOf}

-- ---- lists of names

pub given_later : (s r : Supply) (ns : List Name) → Later s r → GivesNone s ns → GivesNone r ns
given_later s r ns later given n among = later n (given n among)

pub given_left : (s : Supply) (ms ns : List Name) → GivesNone s (ms ++ ns) → GivesNone s ms
given_left s ms ns given n among = given n (name_among-append ms ns n ∙ left_true (name_among ms n) (name_among ns n) among)

pub given_right : (s : Supply) (ms ns : List Name) → GivesNone s (ms ++ ns) → GivesNone s ns
given_right s ms ns given n among = given n (name_among-append ms ns n ∙ right_true (name_among ms n) (name_among ns n) among)

pub given_both : (s : Supply) (ms ns : List Name) → GivesNone s ms → GivesNone s ns → GivesNone s (ms ++ ns)
given_both s ms ns first second n among = go (either_true (name_among ms n) (name_among ns n) (sym (name_among-append ms ns n) ∙ among))
  where
    go : (name_among ms n ≡ true) ⊎ (name_among ns n ≡ true) → NeverGives s n
    go (inl here) = first n here
    go (inr there) = second n there

pub given_first : (s : Supply) (n : Name) (ns : List Name) → GivesNone s (n ∷ ns) → NeverGives s n
given_first s n ns given = given n (left_true (name_eq n n) (name_among ns n) (name_itself n))

-- the name of a symbol is among theirs
pub named_among : (fs : List Symbol) (f : Symbol) → is_among fs f ≡ true → name_among (names_of fs) f.name ≡ true
named_among [] f among = absurd cc
named_among (g ∷ fs) f among =
    elim (either_true (symbol_eq g f) (is_among fs f) among) [
      | inl here ↦ left_true (name_eq g.name f.name) (name_among (names_of fs) f.name) (subst (λ (h : Symbol). name_eq g.name h.name ≡ true) ((Decides-symbol_eq g f).0 here) (name_itself g.name))
      | inr there ↦ right_true (name_eq g.name f.name) (name_among (names_of fs) f.name) (named_among fs f there)
    ]

-- ---- tests of names

all_joined : (test : Name → Bool) (ms ns : List Name) → list_all test (ms ++ ns) ≡ (list_all test ms && list_all test ns)
all_joined test [] ns = refl
all_joined test (m ∷ ms) ns = ap (λ b. test m && b) (all_joined test ms ns) ∙ grouped (test m) (list_all test ms) (list_all test ns)
  where
    grouped : (a b c : Bool) → (a && (b && c)) ≡ ((a && b) && c)
    grouped true b c = refl
    grouped false b c = refl

pub name_passes : (test : Name → Bool) (ns : List Name) (n : Name) → list_all test ns ≡ true → name_among ns n ≡ true → test n ≡ true
name_passes test [] n all among = absurd cc
name_passes test (m ∷ ns) n all among =
    let parts = both_true (test m) (list_all test ns) all in
    elim (either_true (name_eq m n) (name_among ns n) among) [
      | inl here ↦ subst (λ k. test k ≡ true) (name_same m n here) parts.0
      | inr there ↦ name_passes test ns n parts.1 there
    ]

pub names_pass : (test : Name → Bool) (ns : List Name) → ((n : Name) → name_among ns n ≡ true → test n ≡ true) → list_all test ns ≡ true
names_pass test [] each = refl
names_pass test (m ∷ ns) each =
    and_true (test m) (list_all test ns) (each m (left_true (name_eq m m) (name_among ns m) (name_itself m)))
    (names_pass test ns (λ n among. each n (right_true (name_eq m n) (name_among ns n) among)))

-- ---- all names within a term

abbrev pub head_passes : (Name → Bool) → Head → Bool
head_passes test h = list_all test (names_of (head_symbols h))

abbrev pub binders_pass : (Name → Bool) → List Variable → Bool
binders_pass test xs = list_all test (map (λ x. x.name) xs)

module _ (test : Name → Bool) where
  mutual
    pub every_name : (t : Term) → every (head_passes test) (binders_pass test) t ≡ list_all test (names_within t)
    every_name (apply h ts) = ap (λ b. head_passes test h && b) (every_names ts) ∙ sym (all_joined test (names_of (head_symbols h)) (names_within_each ts))
    every_name (quantified q xs t) = ap (λ b. binders_pass test xs && b) (every_name t) ∙ sym (all_joined test (map (λ x. x.name) xs) (names_within t))

    every_names : (ts : Terms) → every_of (head_passes test) (binders_pass test) ts ≡ list_all test (names_within_each ts)
    every_names none = refl
    every_names (t ⨾ ts) = (λ i. every_name t i && every_names ts i) ∙ sym (all_joined test (names_within t) (names_within_each ts))

pub symbols_pass : (test : Name → Bool) (fs : List Symbol) → list_all test (names_of fs) ≡ true → list_all (λ f. head_passes test (symbol f)) fs ≡ true
symbols_pass test [] all = refl
symbols_pass test (f ∷ fs) all =
    let parts = both_true (test f.name) (list_all test (names_of fs)) all in
    and_true (test f.name && true) (list_all (λ g. head_passes test (symbol g)) fs) (and_true (test f.name) true parts.0 refl) (symbols_pass test fs parts.1)

-- a name within a formula that is made of parts of t and new symbols stands within t, or a new symbol has it
pub names_within_made : (t u : Term) (ns : Named) → IsMadeOf t ns u → (n : Name) → name_among (names_within u) n ≡ true → name_among (names_within t ++ names_of (symbols_of ns)) n ≡ true
names_within_made t u ns made n among = name_passes known (names_within u) n (sym (every_name known u) ∙ all) among
  where
    known : Name → Bool
    known m = name_among (names_within t ++ names_of (symbols_of ns)) m

    all : every (head_passes known) (binders_pass known) u ≡ true
    all =
        made.within (head_passes known) (binders_pass known) (λ o. refl)
        (every_name known t ∙ names_pass known (names_within t) (λ m h. name_among-append (names_within t) (names_of (symbols_of ns)) m ∙ left_true (name_among (names_within t) m) (name_among (names_of (symbols_of ns)) m) h))
        (symbols_pass known (symbols_of ns) (names_pass known (names_of (symbols_of ns)) (λ m h. name_among-append (names_within t) (names_of (symbols_of ns)) m ∙ right_true (name_among (names_within t) m) (name_among (names_of (symbols_of ns)) m) h)))
