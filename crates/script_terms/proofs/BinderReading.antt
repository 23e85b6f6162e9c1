-- Sorted variables as the reader comes by them.
use Rattle.std.proofs.Common.{◌≡◌, ℕ, Bool, true, false, not, ◌||◌, List, [], ◌∷◌, ◌++◌, append_assoc, append-nil, Option, Some, refl, ap, sym, ◌∙◌, if◌then◌else◌}
use Rattle.std.specs.Prelude.{Result, Ok, Err}
use Rattle.std.proofs.lemmas.List.{map-append}
use Rattle.std.proofs.lemmas.List.Elements.{All-weaker}
use Rattle.smt_lex.specs.Lex.{Token}
use Rattle.smt_lex.specs.Forms.{Form, atom, node, Forms, none, ◌⨾◌}
use Rattle.smt_lex.specs.Names.{Name, is_among, is_reserved_for_declaring}
use Rattle.smt_terms.specs.Equal.{name_eq}
use Rattle.smt_terms.specs.Free.{name_among}
use Rattle.smt_terms.specs.Sorts.{Sort, Variable}
use Rattle.smt_terms.proofs.Equal.{name_same}
use Rattle.term_table.specs.Formulas.{Formulas, Grows}
use Rattle.term_subst.specs.Names.{with_name}
use Rattle.script_terms.specs.declared.binders.SortedName.{SortedName}
use Rattle.script_terms.specs.declared.causes.Cause.TheVariants.{Redeclared, QuantifiedSort}
use Rattle.script_terms.specs.BinderClauses.{IsSortedName, AreSortedNames}
use Rattle.script_terms.specs.BinderSteps.{SameNames, sorted_name}
use Rattle.script_terms.specs.Bound.{name_at, variable_seen, variables_seen}
use Rattle.script_terms.specs.Known.{Scoping, sorts_known, AreScopedSorts}
use Rattle.script_terms.specs.Parts.{place_of, symbol_in}
use Rattle.script_terms.specs.Places.{pair_in}
use Rattle.script_terms.specs.Refusals.{Refused, at, and_then, unless, mapped}
use Rattle.script_terms.specs.SortForms.{Sorts, sort_in}
use Rattle.script_terms.specs.Variables.{Binder, may_have, variable_of, variable_in, variables_in}
use Rattle.script_terms.proofs.Grown.{same_map, sort_within, sort_stays}
use Rattle.script_terms.proofs.NameFacts.{among_alike}
use Rattle.script_terms.proofs.SortReading.{known_stays}

-- ---- one variable

module _ (b : Binder) (live : Sorts) (earlier : List Name) where
  pub variable-pair : (f x s : Form) → Some (x, s) ≡ pair_in f → variable_in b live earlier f ≡ variable_of b live earlier (place_of f) (place_of x) s (symbol_in x)
  variable-pair (atom t) x s is = absurd (cc)
  variable-pair (node part none) x s is = absurd (cc)
  variable-pair (node part (y ⨾ none)) x s is = absurd (cc)
  variable-pair (node part (y ⨾ r ⨾ none)) x s is =
      let second : ◌≡◌ {A = Form × Form} (y, r) (x, s) = cc in
      λ i. variable_of b live earlier part (place_of (second i).0) (second i).1 (symbol_in (second i).0)
  variable-pair (node part (y ⨾ r ⨾ f ⨾ fs)) x s is = absurd (cc)

  module _ (part place : ℕ) (f : Form) (o : Option Name) (n : Name) (symbol : o ≡ Some n) (plain : is_reserved_for_declaring n ≡ false) where
    pub variable-new : is_among earlier n ≡ false → variable_of b live earlier part place f o ≡ sorted_name b live f n
    variable-new new = ap (variable_of b live earlier part place f) symbol ∙ rw (plain, new) refl

    pub variable-again : is_among earlier n ≡ true → variable_of b live earlier part place f o ≡ at Redeclared place
    variable-again again = ap (variable_of b live earlier part place f) symbol ∙ rw (plain, again) refl

pub among-same : (ms ns : List Name) (n : Name) → SameNames ms ns → is_among ms n ≡ name_among ns n
among-same ms ns n same = among_alike ms n ∙ same n

module _ (b : Binder) (live : Sorts) (f : Form) (n : Name) where
  pub sorted-refused : (e : Refused) → sort_in live f ≡ Err e → sorted_name b live f n ≡ Err e
  sorted-refused e sort = ap (and_then (λ s. unless (not (may_have b s)) QuantifiedSort (place_of f) (Ok (record { name = n; sort = s })))) sort

  pub sorted-not : (s : Sort) → sort_in live f ≡ Ok s → may_have b s ≡ false → sorted_name b live f n ≡ at QuantifiedSort (place_of f)
  sorted-not s sort fails = ap (and_then (λ t. unless (not (may_have b t)) QuantifiedSort (place_of f) (Ok (record { name = n; sort = t })))) sort ∙ rw fails refl

  pub sorted-well : (s : Sort) → sort_in live f ≡ Ok s → may_have b s ≡ true → sorted_name b live f n ≡ Ok (record { name = n; sort = s })
  sorted-well s sort holds = ap (and_then (λ t. unless (not (may_have b t)) QuantifiedSort (place_of f) (Ok (record { name = n; sort = t })))) sort ∙ rw holds refl

-- ---- lists of variables

module _ (b : Binder) (live : Sorts) (earlier : List Name) where
  joined : (xs : List Variable) (x : Variable) (r : Result (List Variable) Refused) → mapped (λ ys. xs ++ ys) (mapped (λ ys. x ∷ ys) r) ≡ mapped (λ ys. (xs ++ x ∷ []) ++ ys) r
  joined xs x (Ok ys) = ap Ok (sym (append_assoc xs (x ∷ []) ys))
  joined xs x (Err e) = refl

  pub variables-next : (fs gs : Forms) (f : Form) (xs : List Variable) (x : Variable) → fs ≡ f ⨾ gs → variable_in b live earlier f ≡ Ok x → mapped (λ ys. xs ++ ys) (variables_in b live earlier fs) ≡ mapped (λ ys. (xs ++ x ∷ []) ++ ys) (variables_in b live (x.name ∷ earlier) gs)
  variables-next fs gs f xs x is variable =
      ap (λ hs. mapped (λ ys. xs ++ ys) (variables_in b live earlier hs)) is
      ∙ ap (λ r. mapped (λ ys. xs ++ ys) (and_then (λ y. mapped (λ ys. y ∷ ys) (variables_in b live (y.name ∷ earlier) gs)) r)) variable
      ∙ joined xs x (variables_in b live (x.name ∷ earlier) gs)

  pub variables-refused : (fs gs : Forms) (f : Form) (xs : List Variable) (e : Refused) → fs ≡ f ⨾ gs → variable_in b live earlier f ≡ Err e → mapped (λ ys. xs ++ ys) (variables_in b live earlier fs) ≡ Err e
  variables-refused fs gs f xs e is variable =
      ap (λ hs. mapped (λ ys. xs ++ ys) (variables_in b live earlier hs)) is
      ∙ ap (λ r. mapped (λ ys. xs ++ ys) (and_then (λ y. mapped (λ ys. y ∷ ys) (variables_in b live (y.name ∷ earlier) gs)) r)) variable

  pub variables-end : (fs : Forms) (xs : List Variable) → fs ≡ none → mapped (λ ys. xs ++ ys) (variables_in b live earlier fs) ≡ Ok xs
  variables-end fs xs is = ap (λ hs. mapped (λ ys. xs ++ ys) (variables_in b live earlier hs)) is ∙ ap Ok (append-nil xs)

-- ---- names that stand in the list before

name_last : (ns : List Name) (n m : Name) → name_among (ns ++ n ∷ []) m ≡ (name_eq n m || name_among ns m)
name_last [] n m = refl
name_last (k ∷ ns) n m = ap (λ b. name_eq k m || b) (name_last ns n m) ∙ turned (name_eq k m) (name_eq n m) (name_among ns m)
  where
    turned : (a b c : Bool) → (a || (b || c)) ≡ (b || (a || c))
    turned true true c = refl
    turned true false c = refl
    turned false b c = refl

held : (ns : List Name) (n m : Name) → name_among ns n ≡ true → name_among ns m ≡ (name_eq n m || name_among ns m)
held ns n m among = by (name_eq n m) refl
  where
    by : (b : Bool) → name_eq n m ≡ b → name_among ns m ≡ (b || name_among ns m)
    by true same = sym (ap (name_among ns) (name_same n m same)) ∙ among
    by false other = refl

with_name-among : (ns : List Name) (n m : Name) → name_among (with_name ns n) m ≡ (name_eq n m || name_among ns m)
with_name-among ns n m = by (name_among ns n) refl
  where
    by : (b : Bool) → name_among ns n ≡ b → name_among (if b then ns else ns ++ n ∷ []) m ≡ (name_eq n m || name_among ns m)
    by true among = held ns n m among
    by false new = name_last ns n m

pub same-more : (ms ns ks : List Name) (n : Name) → SameNames ms ns → ks ≡ with_name ns n → SameNames (n ∷ ms) ks
same-more ms ns ks n same is m = ap (λ b. name_eq n m || b) (same m) ∙ sym (with_name-among ns n m) ∙ ap (λ ls. name_among ls m) (sym is)

-- ---- a table that gained

module _ (u v : Formulas) (more : Grows u.sorts v.sorts) (ts : List Token) where
  sorted_name_stays : (x : SortedName) → IsSortedName u ts x → IsSortedName v ts x
  sorted_name_stays x is = record { token = is.token; symbol = is.symbol; own = is.own; sort = sort_within u.sorts v.sorts more x.sort is.sort }

  pub sorted_names_stay : (xs : List SortedName) → AreSortedNames u ts xs → AreSortedNames v ts xs
  sorted_names_stay xs all = All-weaker (IsSortedName u ts) (IsSortedName v ts) sorted_name_stays xs all

  variable_stays : (x : SortedName) → IsSortedName u ts x → variable_seen v ts x ≡ variable_seen u ts x
  variable_stays x is = λ i. record { name = name_at ts x.name; sort = sort_stays u.sorts v.sorts more x.sort is.sort i }

  pub variables_stay : (xs : List SortedName) → AreSortedNames u ts xs → variables_seen v ts xs ≡ variables_seen u ts xs
  variables_stay xs all = same_map (variable_seen v ts) (variable_seen u ts) xs (All-weaker (IsSortedName u ts) (λ x. variable_seen v ts x ≡ variable_seen u ts x) variable_stays xs all)

  pub variables-put : (xs ys : List SortedName) (x : SortedName) → AreSortedNames u ts xs → ys ≡ xs ++ x ∷ [] → variables_seen u ts xs ++ variable_seen v ts x ∷ [] ≡ variables_seen v ts ys
  variables-put xs ys x all is =
      ap (λ vs. vs ++ variable_seen v ts x ∷ []) (sym (variables_stay xs all))
      ∙ sym (map-append (variable_seen v ts) xs (x ∷ []))
      ∙ ap (variables_seen v ts) (sym is)

-- what is known of the whole where one variable more is read
module _ (t u v : Formulas) (s : Scoping) (grown : Grows t.sorts u.sorts) (more : Grows u.sorts v.sorts) (all : AreScopedSorts t.sorts s.sorts) (ts : List Token) (b : Binder) where
  here : (earlier : List Name) (f : Form) → variable_in b (sorts_known t s) earlier f ≡ variable_in b (sorts_known u s) earlier f
  here earlier f = ap (λ (live : Sorts). variable_in b live earlier f) (sym (known_stays t u s grown all))

  pub variables-pushed : (q : Result (List Variable) Refused) (fs gs : Forms) (f : Form) (earlier : List Name) (xs ys : List SortedName) (x : SortedName) → AreSortedNames u ts xs → q ≡ mapped (λ zs. variables_seen u ts xs ++ zs) (variables_in b (sorts_known t s) earlier fs) → fs ≡ f ⨾ gs → variable_in b (sorts_known u s) earlier f ≡ Ok (variable_seen v ts x) → ys ≡ xs ++ x ∷ [] → q ≡ mapped (λ zs. variables_seen v ts ys ++ zs) (variables_in b (sorts_known t s) (name_at ts x.name ∷ earlier) gs)
  variables-pushed q fs gs f earlier xs ys x within so is variable pushed =
      so
      ∙ variables-next b (sorts_known t s) earlier fs gs f (variables_seen u ts xs) (variable_seen v ts x) is (here earlier f ∙ variable)
      ∙ ap (λ vs. mapped (λ zs. vs ++ zs) (variables_in b (sorts_known t s) (name_at ts x.name ∷ earlier) gs)) (variables-put u v more ts xs ys x within pushed)

  pub variables-fail : (q : Result (List Variable) Refused) (fs gs : Forms) (f : Form) (earlier : List Name) (vs : List Variable) (e : Refused) → q ≡ mapped (λ zs. vs ++ zs) (variables_in b (sorts_known t s) earlier fs) → fs ≡ f ⨾ gs → variable_in b (sorts_known u s) earlier f ≡ Err e → q ≡ Err e
  variables-fail q fs gs f earlier vs e so is variable = so ∙ variables-refused b (sorts_known t s) earlier fs gs f vs e is (here earlier f ∙ variable)
