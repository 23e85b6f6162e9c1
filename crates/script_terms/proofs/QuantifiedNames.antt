-- The names that a quantifier's variables are read as: apart from all that is known, so that they may be bound.
use Rattle.std.proofs.Common.{◌≡◌, sym, refl, Bool, true, false, not, ◌&&◌, List, [], ◌∷◌, map}
use Rattle.std.specs.Prelude.{bytes_eq}
use Rattle.std.specs.List.{list_all}
use Rattle.smt_lex.specs.Names.{Name, is_among as is_among_names}
use Rattle.smt_terms.specs.Equal.{name_eq}
use Rattle.smt_terms.specs.Fresh.{Supply, next_name, after_draw, NeverGives}
use Rattle.smt_terms.specs.Rank.{has_name, are_distinct, is_quantifiable, are_bindable}
use Rattle.smt_terms.specs.Sorts.{Variable}
use Rattle.smt_terms.specs.SubstLaws.{GivesNone}
use Rattle.smt_terms.proofs.Equal.{name_itself, names_differ}
use Rattle.smt_terms.proofs.Fresh.{never-next, never-after, never-drawn}
use Rattle.smt_terms.proofs.Tests.{and_true, both_true, both_false, or_false, left_true}
use Rattle.script_terms.specs.Read.{constant_names, name_drawn_if, renamed}
use Rattle.script_terms.specs.Variables.{quantifier_binder, may_have}
use Rattle.script_terms.proofs.SortFacts.{VariablesSound, earlier_apart}

abbrev new_names : (Name → Bool) → List Variable → Supply → List Name
new_names taken xs s = map (λ y. y.name) (renamed xs (constant_names taken xs s).0)

named_apart : (b : Bool) (taken : Name → Bool) (x : Variable) (xs : List Variable) (s : Supply) (n : Name) → NeverGives s n → name_eq n x.name ≡ false → ((t : Supply) → NeverGives t n → has_name n (new_names taken xs t) ≡ false) → has_name n (map (λ y. y.name) (renamed (x ∷ xs) (name_drawn_if b x.name s (λ t. constant_names taken xs t)).0)) ≡ false
named_apart true taken x xs s n never other below =
    or_false (name_eq n (next_name s)) (has_name n (new_names taken xs (after_draw s))) (names_differ n (next_name s) (never-next s n never)) (below (after_draw s) (never-after s n never))
named_apart false taken x xs s n never other below = or_false (name_eq n x.name) (has_name n (new_names taken xs s)) other (below s never)

names_apart : (taken : Name → Bool) (xs : List Variable) (s : Supply) (n : Name) → NeverGives s n → has_name n (map (λ y. y.name) xs) ≡ false → has_name n (new_names taken xs s) ≡ false
names_apart taken [] s n never apart = refl
names_apart taken (x ∷ xs) s n never apart =
    let parts = both_false (name_eq n x.name) (has_name n (map (λ y. y.name) xs)) apart in
    named_apart (taken x.name) taken x xs s n never parts.0 (λ t h. names_apart taken xs t n h parts.1)

drawn_apart : (ns earlier : List Name) (s : Supply) (xs : List Variable) → GivesNone s ns → VariablesSound ns earlier xs → has_name (next_name s) (map (λ y. y.name) xs) ≡ false
drawn_apart ns earlier s [] text sound = refl
drawn_apart ns earlier s (x ∷ xs) text sound =
    or_false (name_eq (next_name s) x.name) (has_name (next_name s) (map (λ y. y.name) xs))
    (names_differ (next_name s) x.name (λ e. never-next s x.name (text x.name sound.0.text) (sym e))) (drawn_apart ns (x.name ∷ earlier) s xs text sound.2)

not_and_also : (a b : Bool) → a ≡ false → b ≡ true → (not a && b) ≡ true
not_and_also false b h k = k
not_and_also true b h k = absurd cc

named_distinct : (b : Bool) (ns earlier : List Name) (taken : Name → Bool) (x : Variable) (xs : List Variable) (s : Supply) → GivesNone s ns → VariablesSound ns earlier (x ∷ xs) → ((t : Supply) → GivesNone t ns → are_distinct (new_names taken xs t) ≡ true) → are_distinct (map (λ y. y.name) (renamed (x ∷ xs) (name_drawn_if b x.name s (λ t. constant_names taken xs t)).0)) ≡ true
named_distinct true ns earlier taken x xs s text sound below =
    not_and_also (has_name (next_name s) (new_names taken xs (after_draw s))) (are_distinct (new_names taken xs (after_draw s)))
    (names_apart taken xs (after_draw s) (next_name s) (never-drawn s) (drawn_apart ns (x.name ∷ earlier) s xs text sound.2))
    (below (after_draw s) (λ n h. never-after s n (text n h)))
named_distinct false ns earlier taken x xs s text sound below =
    not_and_also (has_name x.name (new_names taken xs s)) (are_distinct (new_names taken xs s))
    (names_apart taken xs s x.name (text x.name sound.0.text) (earlier_apart ns (x.name ∷ earlier) xs x.name sound.2 (left_true (bytes_eq x.name x.name) (is_among_names earlier x.name) (name_itself x.name))))
    (below s text)

names_distinct : (ns earlier : List Name) (taken : Name → Bool) (xs : List Variable) (s : Supply) → GivesNone s ns → VariablesSound ns earlier xs → are_distinct (new_names taken xs s) ≡ true
names_distinct ns earlier taken [] s text sound = refl
names_distinct ns earlier taken (x ∷ xs) s text sound = named_distinct (taken x.name) ns earlier taken x xs s text sound (λ t h. names_distinct ns (x.name ∷ earlier) taken xs t h sound.2)

abbrev quantifiable : List Variable → Bool
quantifiable xs = list_all (λ x. is_quantifiable x.sort) xs

named_quantifiable : (b : Bool) (taken : Name → Bool) (x : Variable) (xs : List Variable) (s : Supply) → is_quantifiable x.sort ≡ true → ((t : Supply) → quantifiable (renamed xs (constant_names taken xs t).0) ≡ true) → quantifiable (renamed (x ∷ xs) (name_drawn_if b x.name s (λ t. constant_names taken xs t)).0) ≡ true
named_quantifiable true taken x xs s here below = and_true (is_quantifiable x.sort) (quantifiable (renamed xs (constant_names taken xs (after_draw s)).0)) here (below (after_draw s))
named_quantifiable false taken x xs s here below = and_true (is_quantifiable x.sort) (quantifiable (renamed xs (constant_names taken xs s).0)) here (below s)

names_quantifiable : (taken : Name → Bool) (xs : List Variable) (s : Supply) → list_all (λ x. may_have quantifier_binder x.sort) xs ≡ true → quantifiable (renamed xs (constant_names taken xs s).0) ≡ true
names_quantifiable taken [] s all = refl
names_quantifiable taken (x ∷ xs) s all =
    let parts = both_true (is_quantifiable x.sort) (list_all (λ y. may_have quantifier_binder y.sort) xs) all in
    named_quantifiable (taken x.name) taken x xs s parts.0 (λ t. names_quantifiable taken xs t parts.1)

named_bindable : (b : Bool) (taken : Name → Bool) (x : Variable) (xs : List Variable) (s : Supply) → are_distinct (map (λ y. y.name) (renamed (x ∷ xs) (name_drawn_if b x.name s (λ t. constant_names taken xs t)).0)) ≡ true → quantifiable (renamed (x ∷ xs) (name_drawn_if b x.name s (λ t. constant_names taken xs t)).0) ≡ true → are_bindable (renamed (x ∷ xs) (name_drawn_if b x.name s (λ t. constant_names taken xs t)).0) ≡ true
named_bindable true taken x xs s distinct all = and_true _ _ distinct all
named_bindable false taken x xs s distinct all = and_true _ _ distinct all

pub names_bindable : (ns : List Name) (taken : Name → Bool) (x : Variable) (xs : List Variable) (s : Supply) → GivesNone s ns → VariablesSound ns [] (x ∷ xs) → list_all (λ y. may_have quantifier_binder y.sort) (x ∷ xs) ≡ true → are_bindable (renamed (x ∷ xs) (constant_names taken (x ∷ xs) s).0) ≡ true
names_bindable ns taken x xs s text sound all =
    named_bindable (taken x.name) taken x xs s (names_distinct ns [] taken (x ∷ xs) s text sound) (names_quantifiable taken (x ∷ xs) s all)
