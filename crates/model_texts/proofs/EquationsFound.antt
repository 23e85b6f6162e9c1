-- The equations of a condition are found by the places of the parameters.
use Rattle.std.proofs.Common.{◌≡◌, ◌∙◌, sym, ap, refl, ℕ, zero, suc, ◌<◌, ◌==◌, Bool, true, false, if◌then◌else◌, List, [], ◌∷◌, ◌++◌, map, length, get_or, codes, Option, Some, None, All, append-nil, append_assoc, arith}
use Rattle.std.specs.Prelude.{option_map, option_and_then}
use Rattle.std.proofs.lemmas.Bool.Decides.{Decides-eqb}
use Rattle.std.proofs.lemmas.List.{length-map, map-append}
use Rattle.std.proofs.lemmas.List.Elements.{All-get_or, All-same, All-nil, All-push}
use Rattle.smt_lex.specs.Lex.{Token}
use Rattle.smt_lex.specs.Forms.{Form, node, Forms, none, ◌⨾◌}
use Rattle.smt_terms.specs.Equal.{name_eq, sort_eq}
use Rattle.smt_terms.specs.Sorts.{Name, Sort, bool, Variable}
use Rattle.smt_terms.specs.declared.ids.SortId.{SortId}
use Rattle.smt_terms.proofs.Equal.{Decides-sort_eq}
use Rattle.smt_terms.proofs.Tests.{alike_from}
use Rattle.smt_values.specs.SortIds.{sort_at, IsSortId, IsSortList}
use Rattle.smt_values.proofs.SortIds.{sort_one}
use Rattle.term_table.specs.Formulas.{Formulas}
use Rattle.script_terms.specs.ListClauses.{AreFew}
use Rattle.script_terms.specs.Parts.{symbol_in, is_name}
use Rattle.script_terms.specs.Places.{IsForm, form_from}
use Rattle.script_terms.specs.declared.lists.Few.{Few}
use Rattle.script_terms.specs.declared.lists.Few.TheVariants.{Empty, One, Two, Three, Four, More}
use Rattle.model_texts.specs.Conditions.{no_variable, equation_at, equations_at, AreSortsOf, sort_of, IsEquationAt, GivesEquation, GivesEquations}
use Rattle.model_texts.specs.Entries.{variables}
use Rattle.model_texts.specs.GivenParameters.{NamedSorts, place_named, parameters_of, variables_at}
use Rattle.model_texts.specs.Tables as plain
use Rattle.model_texts.specs.Tables.{parameter_named, parameter_in, truth_equation, equation_of, equation, with_equation, all_equations}
use Rattle.model_texts.specs.declared.conditions.Side.TheVariants.{Holds, Written}
use Rattle.model_texts.specs.declared.conditions.Equation.{Equation}

-- ---- sorts

-- the sort of a variable, by its place
pub sort_at_place : (ss : List Sort) (args : List SortId) (xs : List Variable) → map (λ (x : Variable). x.sort) xs ≡ map (sort_at ss) args → (i : ℕ)
    → (get_or xs i no_variable).sort ≡ sort_at ss (sort_of args i)
sort_at_place ss args xs sorts i = placed xs i ∙ ap (λ zs. get_or zs i bool) sorts ∙ numbered args i
  where
    placed : (xs : List Variable) (i : ℕ) → (get_or xs i no_variable).sort ≡ get_or (map (λ (x : Variable). x.sort) xs) i bool
    placed [] i = refl
    placed (x ∷ xs) zero = refl
    placed (x ∷ xs) (suc i) = placed xs i

    numbered : (args : List SortId) (i : ℕ) → get_or (map (sort_at ss) args) i bool ≡ sort_at ss (sort_of args i)
    numbered [] i = refl
    numbered (s ∷ args) zero = refl
    numbered (s ∷ args) (suc i) = numbered args i

bool_sort : (ss : List Sort) → IsSortList ss → (s : SortId) → IsSortId ss s → sort_eq (sort_at ss s) bool ≡ (s.0 == 0)
bool_sort ss table s within =
    alike_from (sort_eq (sort_at ss s) bool) (s.0 == 0)
    (λ h. (Decides-eqb s.0 0).1 (sort_one ss table s.0 0 within (omega arith) ((Decides-sort_eq (sort_at ss s) bool).0 h)))
    (λ h. (Decides-sort_eq (sort_at ss s) bool).1 (ap (λ n. sort_at ss (record { 0 = n })) ((Decides-eqb s.0 0).0 h)))

-- ---- parameters

module _ (ts : List Token) where
  pub sorts_of_variables : (ss : List Sort) (ps : NamedSorts) → length ss ≡ length ps → map (λ (x : Variable). x.sort) (variables ss (parameters_of ts ps)) ≡ ss
  sorts_of_variables [] [] e = refl
  sorts_of_variables (s ∷ ss) (p ∷ ps) e = ap (λ zs. s ∷ zs) (sorts_of_variables ss ps (omega (arith, e)))
  sorts_of_variables [] (p ∷ ps) e = absurd (omega (arith, e))
  sorts_of_variables (s ∷ ss) [] e = absurd (omega (arith, e))

  pub names_of_variables : (ss : List Sort) (ps : NamedSorts) → length ss ≡ length ps → map (λ (x : Variable). x.name) (variables ss (parameters_of ts ps)) ≡ map (λ p. p.0) ps
  names_of_variables [] [] e = refl
  names_of_variables (s ∷ ss) (p ∷ ps) e = ap (λ ns. p.0 ∷ ns) (names_of_variables ss ps (omega (arith, e)))
  names_of_variables [] (p ∷ ps) e = absurd (omega (arith, e))
  names_of_variables (s ∷ ss) [] e = absurd (omega (arith, e))

  found_by_name : (ss : List Sort) (ps : NamedSorts) → length ss ≡ length ps → (n : Name)
      → parameter_named (variables ss (parameters_of ts ps)) n ≡ option_map (λ i. get_or (variables ss (parameters_of ts ps)) i no_variable) (place_named ps n)
  found_by_name [] [] e n = refl
  found_by_name (s ∷ ss) (p ∷ ps) e n = by (name_eq p.0 n) (found_by_name ss ps (omega (arith, e)) n)
    where
      x : Variable
      x = record { name = p.0; sort = s }

      xs : List Variable
      xs = variables ss (parameters_of ts ps)

      next : (o : Option ℕ) → option_map (λ i. get_or xs i no_variable) o ≡ option_map (λ i. get_or (x ∷ xs) i no_variable) (option_map suc o)
      next None = refl
      next (Some i) = refl

      by : (b : Bool) → parameter_named xs n ≡ option_map (λ i. get_or xs i no_variable) (place_named ps n)
          → (if b then Some x else parameter_named xs n) ≡ option_map (λ i. get_or (x ∷ xs) i no_variable) (if b then Some 0 else option_map suc (place_named ps n))
      by true h = refl
      by false h = h ∙ next (place_named ps n)
  found_by_name [] (p ∷ ps) e n = absurd (omega (arith, e))
  found_by_name (s ∷ ss) [] e n = absurd (omega (arith, e))

  module _ (args : List SortId) (ps : NamedSorts) (count : length args ≡ length ps) where
    abbrev xs : Formulas → List Variable
    xs t = variables_at t ts args ps

    abbrev at : Formulas → ℕ → Variable
    at t i = get_or (xs t) i no_variable

    many : (t : Formulas) → length (map (sort_at t.sorts) args) ≡ length ps
    many t = length-map args (sort_at t.sorts) ∙ count

    found : (t : Formulas) (f : Form) (r : Option ℕ) → r ≡ option_and_then (place_named ps) (symbol_in f) → parameter_in (xs t) f ≡ option_map (at t) r
    found t f r e = by (symbol_in f) e
      where
        by : (o : Option Name) → r ≡ option_and_then (place_named ps) o → option_and_then (parameter_named (xs t)) o ≡ option_map (at t) r
        by None e = ap (option_map (at t)) (sym e)
        by (Some n) e = found_by_name (map (sort_at t.sorts) args) ps (many t) n ∙ ap (option_map (at t)) (sym e)

    test : (t : Formulas) → AreSortsOf t args → (i : ℕ) → i < length args → sort_eq (at t i).sort bool ≡ ((sort_of args i).0 == 0)
    test t s i within =
        ap (λ z. sort_eq z bool) (sort_at_place t.sorts args (xs t) (sorts_of_variables (map (sort_at t.sorts) args) ps (many t)) i)
        ∙ bool_sort t.sorts s.table (sort_of args i) (All-get_or (IsSortId t.sorts) args i (record { 0 = 0 }) within s.within)

    -- ---- one equation

    pub alike : (read other : List Variable → Option plain.Equation) (r : Option Equation) → ((ys : List Variable) → other ys ≡ read ys) → GivesEquation ts args ps read r → GivesEquation ts args ps other r
    alike read other r is gives = record { equation = λ t s. is (xs t) ∙ gives.equation t s; held = gives.held }

    pub unnamed : (truth : Bool) (f : Form) → None ≡ option_and_then (place_named ps) (symbol_in f) → GivesEquation ts args ps (λ ys. truth_equation truth (parameter_in ys f)) None
    unnamed truth f e = record { equation = λ t s. ap (truth_equation truth) (found t f None e); held = tt }

    pub of_other_sort : (truth : Bool) (f : Form) (i : ℕ) → Some i ≡ option_and_then (place_named ps) (symbol_in f) → i < length args → ((sort_of args i).0 == 0) ≡ false
        → GivesEquation ts args ps (λ ys. truth_equation truth (parameter_in ys f)) None
    of_other_sort truth f i e within other = record {
      equation = λ t s.
          ap (truth_equation truth) (found t f (Some i) e)
          ∙ ap (λ b. if b then Some (record { parameter = at t i; side = plain.holds truth }) else None) (test t s i within ∙ other);
      held = tt;
    }

    pub of_truth : (truth : Bool) (f : Form) (i : ℕ) → Some i ≡ option_and_then (place_named ps) (symbol_in f) → i < length args → ((sort_of args i).0 == 0) ≡ true
        → GivesEquation ts args ps (λ ys. truth_equation truth (parameter_in ys f)) (Some (record { parameter = i; side = Holds truth }))
    of_truth truth f i e within is = record {
      equation = λ t s.
          ap (truth_equation truth) (found t f (Some i) e)
          ∙ ap (λ b. if b then Some (record { parameter = at t i; side = plain.holds truth }) else None) (test t s i within ∙ is);
      held = record { within = within; side = (Decides-eqb (sort_of args i).0 0).0 is };
    }

    pub taken : (b : Bool) (read : List Variable → Option plain.Equation) (r : Option Equation) → b ≡ true → GivesEquation ts args ps read r → GivesEquation ts args ps (λ ys. if b then read ys else None) r
    taken b read r is gives = alike read (λ ys. if b then read ys else None) r (λ ys. ap (λ c. if c then read ys else None) is) gives

    pub left_out : (b : Bool) (read : List Variable → Option plain.Equation) → b ≡ false → GivesEquation ts args ps (λ ys. if b then read ys else None) None
    left_out b read is = record { equation = λ t s. ap (λ c. if c then read (xs t) else None) is; held = tt }

    module _ (j k : ℕ) where
      abbrev sides : List Variable → Option plain.Equation
      sides ys = equation_of (parameter_in ys (form_from ts j)) (parameter_in ys (form_from ts k)) (form_from ts j) (form_from ts k)

      pub left_named : (i : ℕ) → Some i ≡ option_and_then (place_named ps) (symbol_in (form_from ts j)) → i < length args → IsForm ts k → GivesEquation ts args ps sides (Some (record { parameter = i; side = Written k }))
      left_named i e within form = record {
        equation = λ t s. ap (λ o. equation_of o (parameter_in (xs t) (form_from ts k)) (form_from ts j) (form_from ts k)) (found t (form_from ts j) (Some i) e);
        held = record { within = within; side = form };
      }

      pub right_named : (i : ℕ) → None ≡ option_and_then (place_named ps) (symbol_in (form_from ts j)) → Some i ≡ option_and_then (place_named ps) (symbol_in (form_from ts k)) → i < length args → IsForm ts j
          → GivesEquation ts args ps sides (Some (record { parameter = i; side = Written j }))
      right_named i n e within form = record {
        equation = λ t s.
            ap (λ o. equation_of o (parameter_in (xs t) (form_from ts k)) (form_from ts j) (form_from ts k)) (found t (form_from ts j) None n)
            ∙ ap (λ o. equation_of None o (form_from ts j) (form_from ts k)) (found t (form_from ts k) (Some i) e);
        held = record { within = within; side = form };
      }

      pub none_named : None ≡ option_and_then (place_named ps) (symbol_in (form_from ts j)) → None ≡ option_and_then (place_named ps) (symbol_in (form_from ts k)) → GivesEquation ts args ps sides None
      none_named n e = record {
        equation = λ t s.
            ap (λ o. equation_of o (parameter_in (xs t) (form_from ts k)) (form_from ts j) (form_from ts k)) (found t (form_from ts j) None n)
            ∙ ap (λ o. equation_of None o (form_from ts j) (form_from ts k)) (found t (form_from ts k) None e);
        held = tt;
      }

    pub no_equation_in : (f : Form) (place : ℕ) (fs : Forms) (few : Few) → f ≡ node place fs → AreFew ts fs few → ((i j : ℕ) → few ≡ Two i j → ⊥) → ((i j k : ℕ) → few ≡ Three i j k → ⊥)
        → GivesEquation ts args ps (λ ys. equation ys f) None
    no_equation_in f place fs few is are two three = record { equation = λ t s. ap (equation (xs t)) is ∙ by (xs t) few are two three; held = tt }
      where
        by : (ys : List Variable) (few : Few) → AreFew ts fs few → ((i j : ℕ) → few ≡ Two i j → ⊥) → ((i j k : ℕ) → few ≡ Three i j k → ⊥) → equation ys (node place fs) ≡ None
        by ys Empty h two three = ap (λ gs. equation ys (node place gs)) h
        by ys (One i) h two three = ap (λ gs. equation ys (node place gs)) h.forms
        by ys (Two i j) h two three = absurd (two i j refl)
        by ys (Three i j k) h two three = absurd (three i j k refl)
        by ys (Four i j k l) h two three = ap (λ gs. equation ys (node place gs)) h.forms
        by ys More h two three = ap (λ gs. equation ys (node place gs)) h.forms

-- ---- equations one after the other

module _ (ts : List Token) (args : List SortId) (ps : NamedSorts) where
  abbrev vars : Formulas → List Variable
  vars t = variables_at t ts args ps

  with_some : (e : plain.Equation) (o : Option (List plain.Equation)) → with_equation (Some e) o ≡ option_map (λ ds. e ∷ ds) o
  with_some e None = refl
  with_some e (Some ds) = refl

  pushed : (es : List plain.Equation) (e : plain.Equation) (o : Option (List plain.Equation)) → option_map (λ ds. es ++ ds) (option_map (λ ds. e ∷ ds) o) ≡ option_map (λ ds. (es ++ e ∷ []) ++ ds) o
  pushed es e None = refl
  pushed es e (Some ds) = ap Some (sym (append_assoc es (e ∷ []) ds))

  module _ (fs : Forms) where
    -- what was found, in front of what the forms that are left give
    pub record Collects (es : List Equation) (rest : Forms) : Type 0 where
      pub held : All (IsEquationAt ts args) es
      pub reads : (t : Formulas) → AreSortsOf t args → all_equations (vars t) fs ≡ option_map (λ ds. equations_at ts (vars t) es ++ ds) (all_equations (vars t) rest)

    pub collects_none : (rest : Forms) (es : List Equation) → es ≡ [] → fs ≡ rest → Collects es rest
    collects_none rest es empty same = record {
      held = All-same (IsEquationAt ts args) es [] empty (All-nil (IsEquationAt ts args));
      reads = λ t s.
          ap (all_equations (vars t)) same ∙ nothing (all_equations (vars t) rest)
          ∙ ap (λ ds. option_map (λ cs. equations_at ts (vars t) ds ++ cs) (all_equations (vars t) rest)) (sym empty);
    }
      where
        nothing : (o : Option (List plain.Equation)) → o ≡ option_map (λ ds. [] ++ ds) o
        nothing None = refl
        nothing (Some ds) = refl

    module _ (es : List Equation) (f : Form) (rest behind : Forms) (so_far : Collects es rest) (forms : rest ≡ f ⨾ behind) where
      pub collects_more : (e : Equation) (more : List Equation) → GivesEquation ts args ps (λ ys. equation ys f) (Some e) → more ≡ es ++ e ∷ [] → Collects more behind
      collects_more e more gives last = record {
        held = All-same (IsEquationAt ts args) more (es ++ e ∷ []) last (All-push (IsEquationAt ts args) es e so_far.held gives.held);
        reads = λ t s.
            let d : plain.Equation = equation_at ts (vars t) e in
            so_far.reads t s
            ∙ ap (λ gs. option_map (λ ds. equations_at ts (vars t) es ++ ds) (all_equations (vars t) gs)) forms
            ∙ ap (λ o. option_map (λ ds. equations_at ts (vars t) es ++ ds) (with_equation o (all_equations (vars t) behind))) (gives.equation t s)
            ∙ ap (option_map (λ ds. equations_at ts (vars t) es ++ ds)) (with_some d (all_equations (vars t) behind))
            ∙ pushed (equations_at ts (vars t) es) d (all_equations (vars t) behind)
            ∙ ap (λ cs. option_map (λ ds. cs ++ ds) (all_equations (vars t) behind)) (sym (ap (equations_at ts (vars t)) last ∙ map-append (equation_at ts (vars t)) es (e ∷ [])));
      }

      pub collects_nothing : GivesEquation ts args ps (λ ys. equation ys f) None → GivesEquations ts args ps (λ ys. all_equations ys fs) None
      collects_nothing gives = record {
        equations = λ t s.
            so_far.reads t s
            ∙ ap (λ gs. option_map (λ ds. equations_at ts (vars t) es ++ ds) (all_equations (vars t) gs)) forms
            ∙ ap (λ o. option_map (λ ds. equations_at ts (vars t) es ++ ds) (with_equation o (all_equations (vars t) behind))) (gives.equation t s);
        held = tt;
      }

    pub all_collected : (es : List Equation) (rest : Forms) → Collects es rest → rest ≡ none → GivesEquations ts args ps (λ ys. all_equations ys fs) (Some es)
    all_collected es rest so_far end = record {
      equations = λ t s.
          so_far.reads t s ∙ ap (λ gs. option_map (λ ds. equations_at ts (vars t) es ++ ds) (all_equations (vars t) gs)) end
          ∙ ap Some (append-nil (equations_at ts (vars t) es));
      held = so_far.held;
    }

  pub same_equations : (read other : List Variable → Option (List plain.Equation)) (r : Option (List Equation)) → ((ys : List Variable) → other ys ≡ read ys) → GivesEquations ts args ps read r → GivesEquations ts args ps other r
  same_equations read other r is gives = record { equations = λ t s. is (vars t) ∙ gives.equations t s; held = gives.held }

-- the forms that a condition is over
pub one_conjunct : (place : ℕ) (fs : Forms) → fs ≡ none → plain.conjuncts (node place fs) ≡ node place fs ⨾ none
one_conjunct place fs h = ap (λ gs. plain.conjuncts (node place gs)) h ∙ ap (λ gs. node place gs ⨾ none) (sym h)

pub alone : (place : ℕ) (fs : Forms) (f : Form) (gs : Forms) → fs ≡ f ⨾ gs → gs ≡ none → plain.conjuncts (node place fs) ≡ node place fs ⨾ none
alone place fs f gs h k = let is : fs ≡ f ⨾ none = h ∙ ap (λ ds. f ⨾ ds) k in ap (λ ds. plain.conjuncts (node place ds)) is ∙ ap (λ ds. node place ds ⨾ none) (sym is)

pub other_word : (place : ℕ) (fs : Forms) (f : Form) (gs : Forms) (g : Form) (hs : Forms) → fs ≡ f ⨾ gs → gs ≡ g ⨾ hs → is_name (codes "and") (symbol_in f) ≡ false → plain.conjuncts (node place fs) ≡ node place fs ⨾ none
other_word place fs f gs g hs h k e =
    let is : fs ≡ f ⨾ g ⨾ hs = h ∙ ap (λ ds. f ⨾ ds) k in
    ap (λ ds. plain.conjuncts (node place ds)) is ∙ ap (λ b. if b then g ⨾ hs else node place (f ⨾ g ⨾ hs) ⨾ none) e ∙ ap (λ ds. node place ds ⨾ none) (sym is)

pub joined_by_and : (place : ℕ) (fs : Forms) (f : Form) (gs : Forms) (g : Form) (hs : Forms) → fs ≡ f ⨾ gs → gs ≡ g ⨾ hs → is_name (codes "and") (symbol_in f) ≡ true → plain.conjuncts (node place fs) ≡ gs
joined_by_and place fs f gs g hs h k e =
    let is : fs ≡ f ⨾ g ⨾ hs = h ∙ ap (λ ds. f ⨾ ds) k in
    ap (λ ds. plain.conjuncts (node place ds)) is ∙ ap (λ b. if b then g ⨾ hs else node place (f ⨾ g ⨾ hs) ⨾ none) e ∙ sym k
