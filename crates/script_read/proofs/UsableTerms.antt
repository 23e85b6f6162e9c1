-- Terms whose sorts pass one test and whose quantified names pass another: what is made of them, and substitution.
use Rattle.std.proofs.Common.{◌≡◌, sym, ap, subst as carry, refl, ℕ, suc, Bool, true, false, cond, ◌&&◌, List, [], ◌∷◌, map, zip, Option, Some, None}
use Rattle.std.specs.Prelude.{⊤}
use Rattle.std.specs.List.{list_all}
use Rattle.smt_terms.specs.declared.op.Op.TheVariants.{Whole, Neg}
use Rattle.smt_terms.specs.Equal.{symbol_eq, term_eq}
use Rattle.smt_terms.specs.Free.{name_among, without, free}
use Rattle.smt_terms.specs.Fresh.{Supply, numbered_name, next_number, after_draw, fresh_for}
use Rattle.smt_terms.specs.Made.{minus, made}
use Rattle.smt_terms.specs.Sorts.{Name, Sort, Symbol, Variable}
use Rattle.smt_terms.specs.Subst.{Map, image, cut_to, names_in, Renamed, bind, renaming, Chosen, Choices, map_eq, chosen_for, keep, kept_or, quantify, image_or_itself, rebuilt, subst_from, substs_from, subst, parameter, expand}
use Rattle.smt_terms.specs.Term.{Quantifier, Head, op, symbol, const_array, Term, apply, quantified, Terms, none, ◌⨾◌, terms, constant_of, variable}
use Rattle.smt_terms.specs.Written.{Algebra, Written, build}
use Rattle.smt_terms.proofs.Cuts.{cut-image}
use Rattle.smt_terms.proofs.Tests.{and_true, both_true}
use Rattle.script_terms.specs.Heads.{term_width, term_algebra, parameters_from}
use Rattle.script_read.specs.Printable.{head_sorts, all_within, all_within_each}
use Rattle.script_terms.proofs.Builds.{builds}

module _ (sorts : Sort → Bool) (names : Name → Bool) where
  abbrev Fine : Term → Type 0
  Fine t = all_within sorts names t ≡ true

  abbrev AllFine : Terms → Type 0
  AllFine ts = all_within_each sorts names ts ≡ true

  abbrev pub variables_pass : List Variable → Bool
  variables_pass xs = list_all (λ x. sorts x.sort && names x.name) xs

  -- ---- what is made of such terms

  pub over_fine : (h : Head) (ts : Terms) → list_all sorts (head_sorts h) ≡ true → all_within_each sorts names ts ≡ true → all_within sorts names (apply h ts) ≡ true
  over_fine h ts head operands = and_true (list_all sorts (head_sorts h)) (all_within_each sorts names ts) head operands

  minus_fine : (t : Term) → Fine t → Fine (minus t)
  minus_fine (apply (op (Whole n)) none) h = refl
  minus_fine t h = and_true (all_within sorts names t) true h refl

  pub made_fine : (h : Head) (ts : Terms) → list_all sorts (head_sorts h) ≡ true → all_within_each sorts names ts ≡ true → all_within sorts names (made h ts) ≡ true
  made_fine (op Neg) (t ⨾ none) head operands = minus_fine t (both_true (all_within sorts names t) true operands).0
  made_fine h ts head operands = over_fine h ts head operands

  -- ---- written operators

  abbrev FineTerm : Type 0
  FineTerm = (t : Term) × Fine t

  abbrev plain_terms : List FineTerm → List Term
  plain_terms xs = map (λ x. x.0) xs

  each_fine : (xs : List FineTerm) → AllFine (terms (plain_terms xs))
  each_fine [] = refl
  each_fine (x ∷ xs) = and_true (all_within sorts names x.0) (all_within_each sorts names (terms (plain_terms xs))) x.1 (each_fine xs)

  with_facts : (ts : List Term) → AllFine (terms ts) → (xs : List FineTerm) × (plain_terms xs ≡ ts)
  with_facts [] h = ([], refl)
  with_facts (t ∷ ts) h =
      let parts = both_true (all_within sorts names t) (all_within_each sorts names (terms ts)) h in
      let rest = with_facts ts parts.1 in
      ((t, parts.0) ∷ rest.0, ap (λ us. t ∷ us) rest.1)

  fine_algebra : Algebra FineTerm
  fine_algebra = record {
    make = λ o xs. (made (op o) (terms (plain_terms xs)), made_fine (op o) (terms (plain_terms xs)) refl (each_fine xs));
    width_in = λ x. term_width x.0;
  }

  pub build_fine : (w : Written) (ts : List Term) → all_within_each sorts names (terms ts) ≡ true → all_within sorts names (build term_algebra w ts) ≡ true
  unfolding fine_algebra
  build_fine w ts h =
      let found = with_facts ts h in
      let same : build term_algebra w (plain_terms found.0) ≡ (build fine_algebra w found.0).0 = builds fine_algebra term_algebra (λ x. x.0) (record { applications = λ o xs. refl; widths = λ x. refl }) w found.0 in
      carry (λ us. Fine (build term_algebra w us)) found.1
      (carry Fine (sym same) (build fine_algebra w found.0).1)

  pub variable_fine : (y : Variable) → sorts y.sort ≡ true → all_within sorts names (variable y) ≡ true
  variable_fine y h = over_fine (symbol (constant_of y)) none (and_true (sorts y.sort) true h refl) refl

  -- ---- substitution

  abbrev MapFine : Map → Type 0
  MapFine f = (g : Symbol) (u : Term) → image f g ≡ Some u → Fine u

  record RenamedFine (r : Renamed) : Type 0 where
    variables : variables_pass r.variables ≡ true
    images : MapFine r.map

  front_fine : (x y : Variable) (f : Map) → sorts y.sort ≡ true → MapFine f → MapFine ((constant_of x, variable y) ∷ f)
  front_fine x y f fine images g u found = go (symbol_eq (constant_of x) g) found
    where
      go : (b : Bool) → cond b (Some (variable y)) (image f g) ≡ Some u → Fine u
      go true e = let same : variable y ≡ u = cc in carry Fine same (variable_fine y fine)
      go false e = images g u e

  KeptFine : List Chosen → Type 0
  KeptFine [] = ⊤
  KeptFine (c ∷ cs) = Fine c.result × KeptFine cs

  chosen_fine : (cs : List Chosen) (f : Map) (t r : Term) → KeptFine cs → chosen_for cs f t ≡ Some r → Fine r
  unfolding KeptFine
  chosen_fine [] f t r kept found = absurd cc
  chosen_fine (c ∷ cs) f t r kept found = go (map_eq c.cut f && term_eq c.term t) found (chosen_fine cs f t r kept.1)
    where
      go : (b : Bool) → cond b (Some c.result) (chosen_for cs f t) ≡ Some r → (chosen_for cs f t ≡ Some r → Fine r) → Fine r
      go true e below = let same : c.result ≡ r = cc in carry Fine same kept.0
      go false e below = below e

  record Outcome (r : Term × Choices) : Type 0 where
    fine : Fine r.0
    kept : KeptFine r.1.chosen

  record Outcomes (r : Terms × Choices) : Type 0 where
    fine : AllFine r.0
    kept : KeptFine r.1.chosen

  image_fine : (f : Map) (g : Symbol) (o : Option Term) → image f g ≡ o → MapFine f → list_all sorts (head_sorts (symbol g)) ≡ true → Fine (image_or_itself o g)
  image_fine f g None e images head = over_fine (symbol g) none head refl
  image_fine f g (Some u) e images head = images g u e

  rebuilt_fine : (f : Map) (h : Head) (us : Terms) → MapFine f → list_all sorts (head_sorts h) ≡ true → AllFine us → Fine (rebuilt f h us)
  rebuilt_fine f (symbol g) none images head h = image_fine f g (image f g) refl images head
  rebuilt_fine f (symbol g) (u ⨾ us) images head h = over_fine (symbol g) (u ⨾ us) head h
  rebuilt_fine f (op o) us images head h = made_fine (op o) us head h
  rebuilt_fine f (const_array t) us images head h = made_fine (const_array t) us head h

  -- where each name that may be drawn passes
  module _ (fresh : (i : ℕ) → names (numbered_name i) ≡ true) where
    bind_fine : (b : Bool) (c : List Name) (x : Variable) (xs : List Variable) (f : Map) (s : Supply) → sorts x.sort ≡ true → names x.name ≡ true → MapFine f → ((g : Map) (t : Supply) → MapFine g → RenamedFine (renaming c xs g t)) → RenamedFine (bind b x f s (λ g t. renaming c xs g t))
    bind_fine true c x xs f s sort name images below =
        let rest : RenamedFine (renaming c xs ((constant_of x, variable (fresh_for x s)) ∷ f) (after_draw s)) = below ((constant_of x, variable (fresh_for x s)) ∷ f) (after_draw s) (front_fine x (fresh_for x s) f sort images) in
        record {
          variables = and_true (sorts x.sort && names (fresh_for x s).name) (variables_pass (renaming c xs ((constant_of x, variable (fresh_for x s)) ∷ f) (after_draw s)).variables) (and_true (sorts x.sort) (names (fresh_for x s).name) sort (fresh (next_number s))) rest.variables;
          images = rest.images;
        }
    bind_fine false c x xs f s sort name images below =
        let rest : RenamedFine (renaming c xs f s) = below f s images in
        record { variables = and_true (sorts x.sort && names x.name) (variables_pass (renaming c xs f s).variables) (and_true (sorts x.sort) (names x.name) sort name) rest.variables; images = rest.images }

    renamed_fine : (c : List Name) (xs : List Variable) (f : Map) (s : Supply) → variables_pass xs ≡ true → MapFine f → RenamedFine (renaming c xs f s)
    renamed_fine c [] f s fine images = record { variables = refl; images = images }
    renamed_fine c (x ∷ xs) f s fine images =
        let parts = both_true (sorts x.sort && names x.name) (variables_pass xs) fine in
        let here = both_true (sorts x.sort) (names x.name) parts.0 in
        bind_fine (name_among c x.name) c x xs f s here.0 here.1 images (λ g t h. renamed_fine c xs g t parts.1 h)

    kept_outcome : (f : Map) (q : Quantifier) (xs : List Variable) (body : Term) (s : Choices) → Fine (quantified q xs body) → MapFine f → KeptFine s.chosen
        → ((g : Map) (t : Choices) → MapFine g → KeptFine t.chosen → Outcome (subst_from g body t))
        → (o : Option Term) → chosen_for s.chosen (cut_to (without xs (free body)) f) (quantified q xs body) ≡ o
        → Outcome (kept_or o s λ s'. keep (cut_to (without xs (free body)) f) (quantified q xs body) (quantify q (renaming (names_in (cut_to (without xs (free body)) f)) xs (cut_to (without xs (free body)) f) s'.names) s'.chosen (λ m' s''. subst_from m' body s'')))
    unfolding KeptFine
    kept_outcome f q xs body s fine images kept below (Some r) found = record { fine = chosen_fine s.chosen (cut_to (without xs (free body)) f) (quantified q xs body) r kept found; kept = kept }
    kept_outcome f q xs body s fine images kept below None found =
        let cut : Map = cut_to (without xs (free body)) f in
        let c : List Name = names_in cut in
        let t : Choices = record { names = (renaming c xs cut s.names).names; chosen = s.chosen } in
        let parts = both_true (variables_pass xs) (all_within sorts names body) fine in
        let renamed : RenamedFine (renaming c xs cut s.names) = renamed_fine c xs cut s.names parts.0 (λ g u e. images g u (cut-image (without xs (free body)) f g u e).1) in
        let out : Outcome (subst_from (renaming c xs cut s.names).map body t) = below (renaming c xs cut s.names).map t renamed.images kept in
        let rules : Fine (quantified q (renaming c xs cut s.names).variables (subst_from (renaming c xs cut s.names).map body t).0) =
        and_true (variables_pass (renaming c xs cut s.names).variables) (all_within sorts names (subst_from (renaming c xs cut s.names).map body t).0) renamed.variables out.fine in
        record { fine = rules; kept = (rules, out.kept) }

    mutual
      subst_outcome : (t : Term) (f : Map) (s : Choices) → Fine t → MapFine f → KeptFine s.chosen → Outcome (subst_from f t s)
      subst_outcome (apply h ts) f s fine images kept =
          let parts = both_true (list_all sorts (head_sorts h)) (all_within_each sorts names ts) fine in
          let out : Outcomes (substs_from f ts s) = substs_outcome ts f s parts.1 images kept in
          record { fine = rebuilt_fine f h (substs_from f ts s).0 images parts.0 out.fine; kept = out.kept }
      subst_outcome (quantified q xs body) f s fine images kept =
          kept_outcome f q xs body s fine images kept (λ g t i k. subst_outcome body g t (both_true (variables_pass xs) (all_within sorts names body) fine).1 i k) (chosen_for s.chosen (cut_to (without xs (free body)) f) (quantified q xs body)) refl

      substs_outcome : (ts : Terms) (f : Map) (s : Choices) → AllFine ts → MapFine f → KeptFine s.chosen → Outcomes (substs_from f ts s)
      substs_outcome none f s fine images kept = record { fine = refl; kept = kept }
      substs_outcome (t ⨾ ts) f s fine images kept =
          let parts = both_true (all_within sorts names t) (all_within_each sorts names ts) fine in
          let first : Outcome (subst_from f t s) = subst_outcome t f s parts.0 images kept in
          let rest : Outcomes (substs_from f ts (subst_from f t s).1) = substs_outcome ts f (subst_from f t s).1 parts.1 images first.kept in
          record {
            fine = and_true (all_within sorts names (subst_from f t s).0) (all_within_each sorts names (substs_from f ts (subst_from f t s).1).0) first.fine rest.fine;
            kept = rest.kept;
          }

    pub subst_fine : (f : Map) (t : Term) (s : Supply) → all_within sorts names t ≡ true → ((g : Symbol) (u : Term) → image f g ≡ Some u → all_within sorts names u ≡ true) → all_within sorts names (subst f t s).0 ≡ true
    unfolding KeptFine
    subst_fine f t s fine images = (subst_outcome t f (record { names = s; chosen = [] }) fine images tt).fine

    -- ---- arguments for parameters

    arguments_fine : (i : ℕ) (xs : List Variable) (ts : List Term) → AllFine (terms ts) → MapFine (zip (parameters_from i xs) ts)
    arguments_fine i [] ts fine g u found = absurd cc
    arguments_fine i (x ∷ xs) [] fine g u found = absurd cc
    arguments_fine i (x ∷ xs) (t ∷ ts) fine g u found =
        let parts = both_true (all_within sorts names t) (all_within_each sorts names (terms ts)) fine in
        go (symbol_eq (parameter i x.sort) g) found parts.0 (arguments_fine (suc i) xs ts parts.1 g u)
      where
        go : (b : Bool) → cond b (Some t) (image (zip (parameters_from (suc i) xs) ts) g) ≡ Some u → Fine t → (image (zip (parameters_from (suc i) xs) ts) g ≡ Some u → Fine u) → Fine u
        go true e first below = let same : t ≡ u = cc in carry Fine same first
        go false e first below = below e

    pub expand_fine : (xs : List Variable) (t : Term) (ts : List Term) (s : Supply) → all_within sorts names t ≡ true → all_within_each sorts names (terms ts) ≡ true → all_within sorts names (expand (parameters_from 0 xs) t ts s).0 ≡ true
    expand_fine xs t ts s fine operands = subst_fine (zip (parameters_from 0 xs) ts) t s fine (arguments_fine 0 xs ts operands)
