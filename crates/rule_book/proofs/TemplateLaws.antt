-- A template that has a sort over the sorts of terms is a term over the terms, which has that sort, and the template's value.
use Rattle.std.proofs.Common.{◌≡◌, ℕ, zero, suc, Bool, true, false, cond, nat_le, List, [], ◌∷◌, ◌++◌, map, length, take, drop, reverse, slice_get, Option, Some, None, All, refl, ap, sym, ◌∙◌}
use Rattle.std.specs.Prelude.{unwrap_or}
use Rattle.std.proofs.lemmas.List.{reverse-append, map-append, length-map, take-map, drop-map}
use Rattle.std.proofs.lemmas.List.Elements.{All-head, All-tail}
use Rattle.smt_terms.specs.declared.op.Op.{Op}
use Rattle.smt_terms.specs.Sorts.{Sort, bool}
use Rattle.smt_terms.specs.Term.{op, Term, Terms, terms}
use Rattle.smt_terms.specs.Made.{made}
use Rattle.smt_terms.specs.Rank.{sort_over, sorts_of, is_regular, are_regular, IsWellSorted}
use Rattle.smt_terms.specs.Operators.{op_value}
use Rattle.smt_terms.specs.Models.{Model, background}
use Rattle.smt_terms.specs.Val.{Env, val, vals}
use Rattle.smt_terms.proofs.Made.{made-sort, made-value}
use Rattle.smt_terms.proofs.Operands.{more_sorts, well_sorted}
use Rattle.smt_terms.proofs.StoredTerms.{Fine, fine_term}
use Rattle.smt_terms.proofs.Tests.{and_true}
use Rattle.rule_book.specs.Template.{hole, literal, applied, Template, and_more, over_last, give, term_over, Denoted, sorts, values, with_value, sort_made, denoted_over}
use Rattle.rule_book.specs.Soundness.{denoted_hole}
use Rattle.rule_book.specs.RuleLaws.{sorts_of_terms, values_at, TemplatesAreFilled}
use Rattle.rule_book.proofs.MadeTerms.{made-regular}

-- ---- well-sorted terms, with their sorts

record Typed : Type 0 where
  term : Term
  fine : Fine term

abbrev term_in : Typed → Term
term_in r = r.term

abbrev sort_in : Typed → Sort
sort_in r = r.fine.sort

abbrev denoted_in : Model → Env → Typed → Denoted
denoted_in m e r = record { sort = r.fine.sort; value = val m r.term e }

abbrev operands : List Typed → Terms
operands rs = terms (map term_in rs)

operand-sorts : (rs : List Typed) → sorts_of (operands rs) ≡ Some (map sort_in rs)
operand-sorts [] = refl
operand-sorts (r ∷ rs) = more_sorts r.term (operands rs) (sort_in r) (map sort_in rs) r.fine.has (operand-sorts rs)

operand-rules : (rs : List Typed) → are_regular (operands rs) ≡ true
operand-rules [] = refl
operand-rules (r ∷ rs) = and_true (is_regular r.term) (are_regular (operands rs)) r.fine.rules (operand-rules rs)

sorts-denoted : (m : Model) (e : Env) (rs : List Typed) → sorts (map (denoted_in m e) rs) ≡ map sort_in rs
sorts-denoted m e [] = refl
sorts-denoted m e (r ∷ rs) = ap (λ ss. sort_in r ∷ ss) (sorts-denoted m e rs)

values-denoted : (m : Model) (e : Env) (rs : List Typed) → values (map (denoted_in m e) rs) ≡ vals m (operands rs) e
values-denoted m e [] = refl
values-denoted m e (r ∷ rs) = ap (λ vs. val m r.term e ∷ vs) (values-denoted m e rs)

-- ---- one result in terms, in sorts and in values

record Gives (t : Option Term) (s : Option Sort) (d : Model → Env → Option Denoted) : Type 0 where
  result : Typed
  term : t ≡ Some (term_in result)
  sort : s ≡ Some (sort_in result)
  value : (m : Model) (e : Env) → d m e ≡ Some (denoted_in m e result)

gives-as : (t u : Option Term) (s r : Option Sort) (d f : Model → Env → Option Denoted) → t ≡ u → s ≡ r → ((m : Model) (e : Env) → d m e ≡ f m e) → Gives u r f → Gives t s d
gives-as t u s r d f same_term same_sort same_value g = record {
  result = g.result;
  term = same_term ∙ g.term;
  sort = same_sort ∙ g.sort;
  value = λ m e. same_value m e ∙ g.value m e;
}

-- ---- an operator over results

abbrev typed_over : (o : Op) (rs : List Typed) (s : Sort) → sort_made o (map sort_in rs) ≡ Some s → Typed
typed_over o rs s has = record {
  term = made (op o) (operands rs);
  fine = record {
    sort = s;
    has = made-sort (op o) (operands rs) ∙ ap (sort_over (op o)) (operand-sorts rs) ∙ has;
    rules = made-regular o (operands rs) (operand-rules rs);
  };
}

made-denotes : (m : Model) (e : Env) (o : Op) (rs : List Typed) → val m (made (op o) (operands rs)) e ≡ op_value (background m) o (map sort_in rs) (vals m (operands rs) e)
made-denotes m e o rs =
    made-value m (op o) (operands rs) e
    ∙ ap (λ (ss : Option (List Sort)). op_value (background m) o (unwrap_or ss []) (vals m (operands rs) e)) (operand-sorts rs)

denoted-made : (m : Model) (e : Env) (o : Op) (rs : List Typed) (s : Sort) (has : sort_made o (map sort_in rs) ≡ Some s) → denoted_over (background m) o (map (denoted_in m e) rs) ≡ Some (denoted_in m e (typed_over o rs s has))
denoted-made m e o rs s has =
    (λ i. with_value (op_value (background m) o (sorts-denoted m e rs i) (values-denoted m e rs i)) (sort_made o (sorts-denoted m e rs i)))
    ∙ ap (λ r. with_value (op_value (background m) o (map sort_in rs) (vals m (operands rs) e)) r) has
    ∙ ap (λ v. Some (record { sort = s; value = v })) (sym (made-denotes m e o rs))

made-gives : (o : Op) (rs : List Typed) (s : Sort) → sort_made o (map sort_in rs) ≡ Some s → Gives (term_over o (map term_in rs)) (sort_made o (map sort_in rs)) (λ m e. denoted_over (background m) o (map (denoted_in m e) rs))
made-gives o rs s has = record { result = typed_over o rs s has; term = refl; sort = has; value = λ m e. denoted-made m e o rs s has }

-- where there are so many results
made-if : (b : Bool) (o : Op) (rs : List Typed) (s : Sort) → cond b (sort_made o (map sort_in rs)) None ≡ Some s → Gives (cond b (term_over o (map term_in rs)) None) (cond b (sort_made o (map sort_in rs)) None) (λ m e. cond b (denoted_over (background m) o (map (denoted_in m e) rs)) None)
made-if true o rs s has = made-gives o rs s has
made-if false o rs s has = absurd cc

map-reverse : {A B : Type 0} (f : A → B) (xs : List A) → map f (reverse xs) ≡ reverse (map f xs)
map-reverse f [] = refl
map-reverse f (x ∷ xs) = ap (map f) (reverse-append (x ∷ []) xs) ∙ map-append f (reverse xs) (x ∷ []) ∙ ap (λ ys. ys ++ f x ∷ []) (map-reverse f xs) ∙ sym (reverse-append (f x ∷ []) (map f xs))

over_last-map : {A B : Type 0} (f : A → B) (make : List B → Option B) (n : ℕ) (xs : List A) → over_last make n (map f xs) ≡ cond (nat_le n (length xs)) (make (map f (reverse (take n xs)))) None
over_last-map f make n xs =
    (λ i. cond (nat_le n (length-map xs f i)) (make (reverse (take-map f n xs i))) None)
    ∙ ap (λ ys. cond (nat_le n (length xs)) (make ys) None) (sym (map-reverse f (take n xs)))

last-gives : (o : Op) (n : ℕ) (rs : List Typed) (s : Sort) → over_last (sort_made o) n (map sort_in rs) ≡ Some s → Gives (over_last (term_over o) n (map term_in rs)) (over_last (sort_made o) n (map sort_in rs)) (λ m e. over_last (denoted_over (background m) o) n (map (denoted_in m e) rs))
last-gives o n rs s has =
    let last = reverse (take n rs) in
    let enough = nat_le n (length rs) in
    gives-as
    (over_last (term_over o) n (map term_in rs)) (cond enough (term_over o (map term_in last)) None)
    (over_last (sort_made o) n (map sort_in rs)) (cond enough (sort_made o (map sort_in last)) None)
    (λ m e. over_last (denoted_over (background m) o) n (map (denoted_in m e) rs)) (λ m e. cond enough (denoted_over (background m) o (map (denoted_in m e) last)) None)
    (over_last-map term_in (term_over o) n rs) (over_last-map sort_in (sort_made o) n rs) (λ m e. over_last-map (denoted_in m e) (denoted_over (background m) o) n rs)
    (made-if enough o last s (sym (over_last-map sort_in (sort_made o) n rs) ∙ has))

-- ---- the term of a hole

hole-gives : (hs : List Term) → All IsWellSorted hs → (i : ℕ) (s : Sort) → slice_get (sorts_of_terms hs) i ≡ Some s → Gives (slice_get hs i) (slice_get (sorts_of_terms hs) i) (λ m e. denoted_hole (values_at m e hs) i (slice_get (sorts_of_terms hs) i))
hole-gives [] fine i s has = absurd cc
hole-gives (t ∷ hs) fine zero s has =
    let f = fine_term t (All-head IsWellSorted t hs fine) in
    record {
      result = record { term = t; fine = f };
      term = refl;
      sort = ap (λ o. Some (unwrap_or o bool)) f.has;
      value = λ m e. ap (λ o. Some (record { sort = unwrap_or o bool; value = val m t e })) f.has;
    }
hole-gives (t ∷ hs) fine (suc i) s has = hole-gives hs (All-tail IsWellSorted t hs fine) i s has

-- ---- a template, from the results so far on

some_result : {A : Type 0} (done : List A) (r : Option A) (more : List A → Option A) (a : A) → and_more done r more ≡ Some a → (b : A) × (r ≡ Some b)
some_result done None more a has = absurd cc
some_result done (Some b) more a has = (b, refl)

module _ (hs : List Term) (fine : All IsWellSorted hs) where
  abbrev terms_given : Template → List Term → Option Term
  terms_given ps ts = give (slice_get hs) term_over ps ts

  abbrev sorts_given : Template → List Sort → Option Sort
  sorts_given ps ss = give (slice_get (sorts_of_terms hs)) sort_made ps ss

  abbrev values_given : Model → Env → Template → List Denoted → Option Denoted
  values_given m e ps ds = give (λ i. denoted_hole (values_at m e hs) i (slice_get (sorts_of_terms hs) i)) (denoted_over (background m)) ps ds

  abbrev GivesFrom : Template → List Typed → Type 0
  GivesFrom ps rs = Gives (terms_given ps (map term_in rs)) (sorts_given ps (map sort_in rs)) (λ m e. values_given m e ps (map (denoted_in m e) rs))

  -- one result more, and the rest of the template
  next-gives : (ps : Template) (rs : List Typed) (s : Sort) (t : Option Term) (r : Option Sort) (d : Model → Env → Option Denoted) →
      and_more (map sort_in rs) r (sorts_given ps) ≡ Some s →
      ((q : Sort) → r ≡ Some q → Gives t r d) →
      ((qs : List Typed) → sorts_given ps (map sort_in qs) ≡ Some s → GivesFrom ps qs) →
      Gives (and_more (map term_in rs) t (terms_given ps)) (and_more (map sort_in rs) r (sorts_given ps)) (λ m e. and_more (map (denoted_in m e) rs) (d m e) (values_given m e ps))
  next-gives ps rs s t r d has here behind =
      let found = some_result (map sort_in rs) r (sorts_given ps) s has in
      let g = here found.0 found.1 in
      let same_sort = ap (λ x. and_more (map sort_in rs) x (sorts_given ps)) g.sort in
      gives-as
      (and_more (map term_in rs) t (terms_given ps)) (terms_given ps (map term_in (g.result ∷ rs)))
      (and_more (map sort_in rs) r (sorts_given ps)) (sorts_given ps (map sort_in (g.result ∷ rs)))
      (λ m e. and_more (map (denoted_in m e) rs) (d m e) (values_given m e ps)) (λ m e. values_given m e ps (map (denoted_in m e) (g.result ∷ rs)))
      (ap (λ x. and_more (map term_in rs) x (terms_given ps)) g.term) same_sort (λ m e. ap (λ x. and_more (map (denoted_in m e) rs) x (values_given m e ps)) (g.value m e))
      (behind (g.result ∷ rs) (sym same_sort ∙ has))

  gives-from : (ps : Template) (rs : List Typed) (s : Sort) → sorts_given ps (map sort_in rs) ≡ Some s → GivesFrom ps rs
  gives-from [] [] s has = absurd cc
  gives-from [] (r ∷ []) s has = record { result = r; term = refl; sort = refl; value = λ m e. refl }
  gives-from [] (r ∷ q ∷ rs) s has = absurd cc
  gives-from (hole i ∷ ps) rs s has =
      next-gives ps rs s (slice_get hs i) (slice_get (sorts_of_terms hs) i) (λ m e. denoted_hole (values_at m e hs) i (slice_get (sorts_of_terms hs) i)) has
      (hole-gives hs fine i) (λ qs. gives-from ps qs s)
  gives-from (literal o ∷ ps) rs s has =
      next-gives ps rs s (term_over o []) (sort_made o []) (λ m e. denoted_over (background m) o []) has
      (made-gives o []) (λ qs. gives-from ps qs s)
  gives-from (applied o n ∷ ps) rs s has =
      let terms_last = over_last (term_over o) n (map term_in rs) in
      let sorts_last = over_last (sort_made o) n (map sort_in rs) in
      let values_last = λ (m : Model) (e : Env). over_last (denoted_over (background m) o) n (map (denoted_in m e) rs) in
      let same_sort = ap (λ ss. and_more ss sorts_last (sorts_given ps)) (drop-map sort_in n rs) in
      gives-as
      (terms_given (applied o n ∷ ps) (map term_in rs)) (and_more (map term_in (drop n rs)) terms_last (terms_given ps))
      (sorts_given (applied o n ∷ ps) (map sort_in rs)) (and_more (map sort_in (drop n rs)) sorts_last (sorts_given ps))
      (λ m e. values_given m e (applied o n ∷ ps) (map (denoted_in m e) rs)) (λ m e. and_more (map (denoted_in m e) (drop n rs)) (values_last m e) (values_given m e ps))
      (ap (λ ts. and_more ts terms_last (terms_given ps)) (drop-map term_in n rs)) same_sort (λ m e. ap (λ ds. and_more ds (values_last m e) (values_given m e ps)) (drop-map (denoted_in m e) n rs))
      (next-gives ps (drop n rs) s terms_last sorts_last values_last (sym same_sort ∙ has) (last-gives o n rs) (λ qs. gives-from ps qs s))

-- ---- the law

pub templates-are-filled : TemplatesAreFilled
templates-are-filled hs p s fine theory has =
    let g = gives-from hs fine p [] s has in
    let some : Some (sort_in g.result) ≡ Some s = sym g.sort ∙ has in
    let one : sort_in g.result ≡ s = cc in
    record {
      term = g.result.term;
      filled = g.term;
      sorted = well_sorted g.result.term (sort_in g.result) g.result.fine.has g.result.fine.rules;
      sort = g.result.fine.has ∙ some;
      value = λ m e model env. g.value m e ∙ ap (λ r. Some (record { sort = r; value = val m g.result.term e })) one;
    }
