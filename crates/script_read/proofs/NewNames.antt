-- Parts of commands: names that are declared or defined, and numerals.
use Rattle.std.proofs.Common.{◌≡◌, ℕ, ◌==◌, inl, inr, arith, Bool, true, false, List, Some, Result, Ok, Err, refl, ap, ◌∙◌}
use Rattle.std.specs.Prelude.{is_some}
use Rattle.std.proofs.lemmas.Bool.Decides.{eqb_tells}
use Rattle.smt_lex.specs.Lex.{Token}
use Rattle.smt_lex.specs.Forest.{token_at}
use Rattle.smt_lex.specs.Names.{Name, is_reserved_for_declaring, is_reserved_for_sorts}
use Rattle.term_table.specs.Formulas.{Formulas}
use Rattle.script_terms.specs.declared.causes.Cause.{Cause}
use Rattle.script_terms.specs.declared.causes.Cause.TheVariants.{Redeclared, ReservedName}
use Rattle.script_terms.specs.Known.{Scoping, IsOwnName, find, terms_shown, sorts_shown, terms_live, sorts_live}
use Rattle.script_read.specs.Outlines.{At}
use Rattle.script_terms.specs.Parts.{numeral_by, numeral_in}
use Rattle.script_terms.specs.Places.{form_from, capped}
use Rattle.script_terms.specs.Reading.{ReadBinding, entry_of, live_sorts}
use Rattle.script_terms.specs.Refusals.{Refused, at, unless}
use Rattle.script_read.specs.ShapeClauses.{IsNumeralAt, counted_at}
use Rattle.script_read.specs.Script.{declarable, sort_declarable}
use Rattle.script_terms.proofs.NameFacts.{not_theory}
use Rattle.script_terms.proofs.Placing.{numeral_here}
use Rattle.script_terms.proofs.ScopeNames.{entry_live, sort_live}

-- ---- two tests before what is given

module _ {A : Type 0} (first second : Bool) (a b : Cause) (place : ℕ) (r : Result A Refused) where
  first_refuses : first ≡ true → unless first a place (unless second b place r) ≡ at a place
  first_refuses is = rw is refl

  second_refuses : first ≡ false → second ≡ true → unless first a place (unless second b place r) ≡ at b place
  second_refuses is is' = rw (is, is') refl

  neither_refuses : first ≡ false → second ≡ false → unless first a place (unless second b place r) ≡ r
  neither_refuses is is' = rw (is, is') refl

-- a refusal comes before what is given, whatever that is
refused_anyway : {A B : Type 0} (first second : Bool) (a b : Cause) (place : ℕ) (x : B) (r : Result A Refused) (e : Refused) → unless first a place (unless second b place (Ok x)) ≡ Err e → unless first a place (unless second b place r) ≡ Err e
refused_anyway true second a b place x r e h = (λ i. Err (same i))
  where
    same : record { cause = a; place = place } ≡ e
    same = cc
refused_anyway false true a b place x r e h = (λ i. Err (same i))
  where
    same : record { cause = b; place = place } ≡ e
    same = cc
refused_anyway false false a b place x r e h = absurd (cc)

passed_through : {A B : Type 0} (first second : Bool) (a b : Cause) (place : ℕ) (x y : B) (r : Result A Refused) → unless first a place (unless second b place (Ok x)) ≡ Ok y → unless first a place (unless second b place r) ≡ r
passed_through true second a b place x y r h = absurd (cc)
passed_through false true a b place x y r h = absurd (cc)
passed_through false false a b place x y r h = refl

module _ (live : List ReadBinding) (n : At Name) where
  -- a name that may be declared isn't one of the theories
  pub declarable_own : (u : Unit {0}) → declarable live n (Ok (tt {0})) ≡ Ok u → IsOwnName n.it
  declarable_own u h = by (is_reserved_for_declaring n.it) refl h
    where
      by : (b : Bool) → is_reserved_for_declaring n.it ≡ b → unless b ReservedName n.place (unless (is_some (entry_of live n.it)) Redeclared n.place (Ok (tt {0}))) ≡ Ok u → IsOwnName n.it
      by true is h = absurd (cc)
      by false is h = not_theory n.it is

  module _ {A : Type 0} (r : Result A Refused) where
    pub declarable_refused : (e : Refused) → declarable live n (Ok (tt {0})) ≡ Err e → declarable live n r ≡ Err e
    declarable_refused e h = refused_anyway (is_reserved_for_declaring n.it) (is_some (entry_of live n.it)) ReservedName Redeclared n.place (tt {0}) r e h

    pub declarable_passed : (u : Unit {0}) → declarable live n (Ok (tt {0})) ≡ Ok u → declarable live n r ≡ r
    declarable_passed u h = passed_through (is_reserved_for_declaring n.it) (is_some (entry_of live n.it)) ReservedName Redeclared n.place (tt {0}) u r h

    pub sort_declarable_refused : (e : Refused) → sort_declarable live n (Ok (tt {0})) ≡ Err e → sort_declarable live n r ≡ Err e
    sort_declarable_refused e h = refused_anyway (is_reserved_for_sorts n.it) (is_some (live_sorts live n.it)) ReservedName Redeclared n.place (tt {0}) r e h

    pub sort_declarable_passed : (u : Unit {0}) → sort_declarable live n (Ok (tt {0})) ≡ Ok u → sort_declarable live n r ≡ r
    sort_declarable_passed u h = passed_through (is_reserved_for_sorts n.it) (is_some (live_sorts live n.it)) ReservedName Redeclared n.place (tt {0}) u r h

  module _ (t : Formulas) (s : Scoping) (shown : terms_shown t s ≡ terms_live live) (allowed : is_reserved_for_declaring n.it ≡ false) where
    pub live_refused : is_some (find s.terms n.it) ≡ true → declarable live n (Ok (tt {0})) ≡ at {A = Unit {0}} Redeclared n.place
    live_refused there = second_refuses (is_reserved_for_declaring n.it) (is_some (entry_of live n.it)) ReservedName Redeclared n.place (Ok (tt {0})) allowed (entry_live t s live shown n.it ∙ there)

    pub new_passed : is_some (find s.terms n.it) ≡ false → declarable live n (Ok (tt {0})) ≡ Ok (tt {0})
    new_passed free = neither_refuses (is_reserved_for_declaring n.it) (is_some (entry_of live n.it)) ReservedName Redeclared n.place (Ok (tt {0})) allowed (entry_live t s live shown n.it ∙ free)

  module _ (t : Formulas) (s : Scoping) (shown : sorts_shown t s ≡ sorts_live live) (allowed : is_reserved_for_sorts n.it ≡ false) where
    pub live_sort_refused : is_some (find s.sorts n.it) ≡ true → sort_declarable live n (Ok (tt {0})) ≡ at {A = Unit {0}} Redeclared n.place
    live_sort_refused there = second_refuses (is_reserved_for_sorts n.it) (is_some (live_sorts live n.it)) ReservedName Redeclared n.place (Ok (tt {0})) allowed (sort_live t s live shown n.it ∙ there)

    pub new_sort_passed : is_some (find s.sorts n.it) ≡ false → sort_declarable live n (Ok (tt {0})) ≡ Ok (tt {0})
    new_sort_passed free = neither_refuses (is_reserved_for_sorts n.it) (is_some (live_sorts live n.it)) ReservedName Redeclared n.place (Ok (tt {0})) allowed (sort_live t s live shown n.it ∙ free)

-- ---- numerals

pub numeral_here_is : (ts : List Token) (i : ℕ) → IsNumeralAt ts i → numeral_in (form_from ts i) ≡ Some (counted_at ts i).it
numeral_here_is ts i is = numeral_here ts i is.form ∙ ap (λ item. numeral_by item (token_at ts i).text) is.item

zero_capped : (n : ℕ) → capped n ≡ 0 → n ≡ 0
zero_capped n is = grind arith

pub is_zero : (n : ℕ) → capped n ≡ 0 → (n == 0) ≡ true
is_zero n is = ap (λ m. m == 0) (zero_capped n is)

pub is_not_zero : (n : ℕ) → (capped n ≡ 0 → ⊥) → (n == 0) ≡ false
is_not_zero n some = elim (eqb_tells n 0) [ inl same ↦ absurd (some (ap capped same.1)) | inr differs ↦ differs.0 ]
