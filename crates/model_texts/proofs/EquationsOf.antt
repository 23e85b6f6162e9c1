-- What the equations of a condition are about: parameters, each the first one of its name.
use Rattle.std.proofs.Common.{◌≡◌, ◌∙◌, sym, ap, subst, refl, ℕ, Bool, true, false, if◌then◌else◌, List, [], ◌∷◌, codes, Option, Some, None}
use Rattle.std.specs.Prelude.{option_and_then}
use Rattle.std.proofs.lemmas.Option.{none-some, same_Some}
use Rattle.smt_lex.specs.Forms.{Form, atom, node, Forms, none, ◌⨾◌}
use Rattle.smt_terms.specs.Equal.{name_eq, sort_eq}
use Rattle.smt_terms.specs.Sorts.{Name, Sort, bool, Variable}
use Rattle.smt_terms.proofs.Equal.{name_same, name_itself, Decides-sort_eq}
use Rattle.script_terms.specs.Parts.{symbol_in, is_name}
use Rattle.model_texts.specs.Tables.{Side, holds, written, Equation, parameter_named, parameter_in, truth_equation, equation_of, equation, with_equation, all_equations, conjuncts, names_each_once, where_each_once, equations}

abbrev pub SideFits : Sort → Side → Type 0
SideFits s (holds b) = s ≡ bool
SideFits s (written f) = Unit {0}

pub record IsEquationOf (xs : List Variable) (e : Equation) : Type 0 where
  pub named : parameter_named xs e.parameter.name ≡ Some e.parameter
  pub side : SideFits e.parameter.sort e.side

abbrev pub AreEquationsOf : List Variable → List Equation → Type 0
AreEquationsOf xs [] = Unit {0}
AreEquationsOf xs (e ∷ es) = IsEquationOf xs e × AreEquationsOf xs es

-- a parameter that is found by a name is found by its own
pub found_again : (xs : List Variable) (n : Name) (x : Variable) → parameter_named xs n ≡ Some x → (x.name ≡ n) × (parameter_named xs x.name ≡ Some x)
found_again [] n x h = absurd (none-some x h)
found_again (y ∷ ys) n x h = by (name_eq y.name n) refl h (found_again ys n x)
  where
    by : (b : Bool) → name_eq y.name n ≡ b → (if b then Some y else parameter_named ys n) ≡ Some x → (parameter_named ys n ≡ Some x → (x.name ≡ n) × (parameter_named ys x.name ≡ Some x))
        → (x.name ≡ n) × ((if name_eq y.name x.name then Some y else parameter_named ys x.name) ≡ Some x)
    by true e h rest =
        let same : y ≡ x = same_Some y x h in (
          ap (λ (z : Variable). z.name) (sym same) ∙ name_same y.name n e,
          ap (λ b. if b then Some y else parameter_named ys x.name) (ap (λ (z : Variable). name_eq y.name z.name) (sym same) ∙ name_itself y.name) ∙ ap Some same,
        )
    by false e h rest =
        ((rest h).0, ap (λ b. if b then Some y else parameter_named ys x.name) (ap (name_eq y.name) (rest h).0 ∙ e) ∙ (rest h).1)

-- what holds of all parameters holds of one that is found
pub named_has : (P : Variable → Type 0) (xs : List Variable) (n : Name) (x : Variable) → ((y : Variable) → parameter_named xs y.name ≡ Some y → P y) → parameter_named xs n ≡ Some x → P x
named_has P xs n x all h = all x (found_again xs n x h).1

module _ (xs : List Variable) where
  parameter_found : (o : Option Name) (x : Variable) → option_and_then (parameter_named xs) o ≡ Some x → parameter_named xs x.name ≡ Some x
  parameter_found None x h = absurd (none-some x h)
  parameter_found (Some n) x h = (found_again xs n x h).1

  truth_fits : (b : Bool) (o : Option Variable) (e : Equation) → ((x : Variable) → o ≡ Some x → parameter_named xs x.name ≡ Some x) → truth_equation b o ≡ Some e → IsEquationOf xs e
  truth_fits b None e found h = absurd (none-some e h)
  truth_fits b (Some x) e found h = by (sort_eq x.sort bool) refl h (found x refl)
    where
      by : (c : Bool) → sort_eq x.sort bool ≡ c → (if c then Some (record { parameter = x; side = holds b }) else None) ≡ Some e → parameter_named xs x.name ≡ Some x → IsEquationOf xs e
      by true s h named =
          subst (IsEquationOf xs) (same_Some (record { parameter = x; side = holds b }) e h)
          (record { named = named; side = (Decides-sort_eq x.sort bool).0 s })
      by false s h named = absurd (none-some e h)

  written_fits : (o p : Option Variable) (f g : Form) (e : Equation) → ((x : Variable) → o ≡ Some x → parameter_named xs x.name ≡ Some x) → ((x : Variable) → p ≡ Some x → parameter_named xs x.name ≡ Some x)
      → equation_of o p f g ≡ Some e → IsEquationOf xs e
  written_fits (Some x) p f g e first second h = subst (IsEquationOf xs) (same_Some (record { parameter = x; side = written g }) e h) (record { named = first x refl; side = tt })
  written_fits None (Some x) f g e first second h = subst (IsEquationOf xs) (same_Some (record { parameter = x; side = written f }) e h) (record { named = second x refl; side = tt })
  written_fits None None f g e first second h = absurd (none-some e h)

  if_some : (b : Bool) (o : Option Equation) (e : Equation) → (o ≡ Some e → IsEquationOf xs e) → (if b then o else None) ≡ Some e → IsEquationOf xs e
  if_some true o e f h = f h
  if_some false o e f h = absurd (none-some e h)

  pub equation_is_of : (f : Form) (e : Equation) → equation xs f ≡ Some e → IsEquationOf xs e
  equation_is_of (atom t) e h = truth_fits true (parameter_in xs (atom t)) e (parameter_found (symbol_in (atom t))) h
  equation_is_of (node place none) e h = absurd (none-some e h)
  equation_is_of (node place (f ⨾ none)) e h = absurd (none-some e h)
  equation_is_of (node place (f ⨾ g ⨾ none)) e h =
      if_some (is_name (codes "not") (symbol_in f)) (truth_equation false (parameter_in xs g)) e (truth_fits false (parameter_in xs g) e (parameter_found (symbol_in g))) h
  equation_is_of (node place (f ⨾ g ⨾ k ⨾ none)) e h =
      if_some (is_name (codes "=") (symbol_in f)) (equation_of (parameter_in xs g) (parameter_in xs k) g k) e
      (written_fits (parameter_in xs g) (parameter_in xs k) g k e (parameter_found (symbol_in g)) (parameter_found (symbol_in k))) h
  equation_is_of (node place (f ⨾ g ⨾ k ⨾ l ⨾ ls)) e h = absurd (none-some e h)

  with_is_of : (o : Option Equation) (p : Option (List Equation)) (es : List Equation) → ((e : Equation) → o ≡ Some e → IsEquationOf xs e) → ((ds : List Equation) → p ≡ Some ds → AreEquationsOf xs ds)
      → with_equation o p ≡ Some es → AreEquationsOf xs es
  with_is_of (Some e) (Some ds) es first rest h = subst (AreEquationsOf xs) (same_Some (e ∷ ds) es h) (first e refl, rest ds refl)
  with_is_of (Some e) None es first rest h = absurd (none-some es h)
  with_is_of None p es first rest h = absurd (none-some es h)

  all_are_of : (fs : Forms) (es : List Equation) → all_equations xs fs ≡ Some es → AreEquationsOf xs es
  all_are_of none es h = subst (AreEquationsOf xs) (same_Some [] es h) tt
  all_are_of (f ⨾ fs) es h = with_is_of (equation xs f) (all_equations xs fs) es (equation_is_of f) (all_are_of fs) h

  pub once_from : (es ds : List Equation) → where_each_once xs es ≡ Some ds → (es ≡ ds) × (names_each_once xs ds ≡ true)
  once_from es ds h = by (names_each_once xs es) refl h
    where
      by : (b : Bool) → names_each_once xs es ≡ b → (if b then Some es else None) ≡ Some ds → (es ≡ ds) × (names_each_once xs ds ≡ true)
      by true e h = let same : es ≡ ds = same_Some es ds h in (same, ap (names_each_once xs) (sym same) ∙ e)
      by false e h = absurd (none-some ds h)

  chosen_are_of : (o : Option (List Equation)) (es : List Equation) → ((ds : List Equation) → o ≡ Some ds → AreEquationsOf xs ds) → option_and_then (where_each_once xs) o ≡ Some es
      → AreEquationsOf xs es × (names_each_once xs es ≡ true)
  chosen_are_of None es all h = absurd (none-some es h)
  chosen_are_of (Some ds) es all h = let one = once_from ds es h in (subst (AreEquationsOf xs) one.0 (all ds refl), one.1)

  -- the equations of a condition are about parameters, and name each once
  pub equations_are_of : (f : Form) (es : List Equation) → equations xs f ≡ Some es → AreEquationsOf xs es × (names_each_once xs es ≡ true)
  equations_are_of f es h = chosen_are_of (all_equations xs (conjuncts f)) es (all_are_of (conjuncts f)) h

-- no condition is about no parameters
no_parameter : (o : Option Name) → option_and_then (parameter_named []) o ≡ None
no_parameter None = refl
no_parameter (Some n) = refl

if_none : (b : Bool) (o : Option Equation) → o ≡ None → (if b then o else None) ≡ None
if_none true o h = h
if_none false o h = refl

no_equation : (f : Form) → equation [] f ≡ None
no_equation (atom t) = ap (truth_equation true) (no_parameter (symbol_in (atom t)))
no_equation (node place none) = refl
no_equation (node place (f ⨾ none)) = refl
no_equation (node place (f ⨾ g ⨾ none)) =
    if_none (is_name (codes "not") (symbol_in f)) (truth_equation false (parameter_in [] g)) (ap (truth_equation false) (no_parameter (symbol_in g)))
no_equation (node place (f ⨾ g ⨾ k ⨾ none)) =
    if_none (is_name (codes "=") (symbol_in f)) (equation_of (parameter_in [] g) (parameter_in [] k) g k)
    (ap (λ o. equation_of o (parameter_in [] k) g k) (no_parameter (symbol_in g)) ∙ ap (λ o. equation_of None o g k) (no_parameter (symbol_in k)))
no_equation (node place (f ⨾ g ⨾ k ⨾ l ⨾ ls)) = refl

first_none : (f : Form) (fs : Forms) → option_and_then (where_each_once []) (all_equations [] (f ⨾ fs)) ≡ None
first_none f fs = ap (λ o. option_and_then (where_each_once []) (with_equation o (all_equations [] fs))) (no_equation f)

pub no_equations : (f : Form) → equations [] f ≡ None
no_equations (atom t) = first_none (atom t) none
no_equations (node place none) = first_none (node place none) none
no_equations (node place (f ⨾ none)) = first_none (node place (f ⨾ none)) none
no_equations (node place (f ⨾ g ⨾ gs)) = by (is_name (codes "and") (symbol_in f))
  where
    by : (b : Bool) → option_and_then (where_each_once []) (all_equations [] (if b then g ⨾ gs else node place (f ⨾ g ⨾ gs) ⨾ none)) ≡ None
    by true = first_none g gs
    by false = first_none (node place (f ⨾ g ⨾ gs)) none
