-- Templates over one to three holes in place of a view: what has to be known of the sorts and the values of the holes.
use Rattle.std.proofs.Common.{◌≡◌, ◌∙◌, ℕ, true, List, [], ◌∷◌, drop, Option, Some, None, Ok, Err, refl, ap, sym, subst}
use Rattle.std.specs.Prelude.{IfSome}
use Rattle.smt_terms.specs.declared.op.Op.{Op}
use Rattle.smt_terms.specs.Sorts.{Sort}
use Rattle.smt_terms.specs.Term.{op}
use Rattle.smt_terms.specs.Rank.{rank}
use Rattle.smt_terms.specs.Values.{Value, same}
use Rattle.smt_terms.specs.Operators.{Background, op_value}
use Rattle.smt_terms.proofs.Tests.{and_true}
use Rattle.rule_book.specs.View.{TermView, is_theory}
use Rattle.rule_book.specs.Template.{hole, applied, and_more, result_of, over_last, given, Denoted, sorts, values, with_value, sort_made, denoted_over}
use Rattle.rule_book.specs.Soundness.{AreHoleValues, MayReplace, hole_sort, view_value, denoted_hole}

-- ---- what a template gives, where each hole and each operator gives something

module _ {A : Type 0} (holes : ℕ → Option A) (make : Op → List A → Option A) where
  give_one : (i : ℕ) (a : A) → holes i ≡ Some a → given holes make (hole i ∷ []) ≡ Some a
  give_one i a h = ap (λ r. and_more [] r (λ done. result_of done)) h

  give_two : (i j : ℕ) (o : Op) (a b r : A) → holes i ≡ Some a → holes j ≡ Some b → make o (a ∷ b ∷ []) ≡ Some r → given holes make (hole i ∷ hole j ∷ applied o 2 ∷ []) ≡ Some r
  give_two i j o a b r h k e =
      (λ x. and_more [] (h x) (λ done. and_more done (k x) (λ more. and_more (drop 2 more) (over_last (make o) 2 more) (λ last. result_of last))))
      ∙ ap (λ x. and_more [] x (λ last. result_of last)) e

  give_three : (i j k : ℕ) (o : Op) (a b c r : A) → holes i ≡ Some a → holes j ≡ Some b → holes k ≡ Some c → make o (a ∷ b ∷ c ∷ []) ≡ Some r → given holes make (hole i ∷ hole j ∷ hole k ∷ applied o 3 ∷ []) ≡ Some r
  give_three i j k o a b c r h g f e =
      (λ x. and_more [] (h x) (λ done. and_more done (g x) (λ more. and_more more (f x) (λ most. and_more (drop 3 most) (over_last (make o) 3 most) (λ last. result_of last)))))
      ∙ ap (λ x. and_more [] x (λ last. result_of last)) e

-- ---- sorts and values

sort_made_ok : (o : Op) (ss : List Sort) (s : Sort) → rank (op o) ss ≡ Ok s → sort_made o ss ≡ Some s
sort_made_ok o ss s h = ap (λ r. elim r [ Ok s ↦ Some s | Err _ ↦ None ]) h

denoted_made : (b : Background) (o : Op) (ds : List Denoted) (s : Sort) → rank (op o) (sorts ds) ≡ Ok s → denoted_over b o ds ≡ Some (record { sort = s; value = op_value b o (sorts ds) (values ds) })
denoted_made b o ds s h = ap (λ r. with_value (op_value b o (sorts ds) (values ds)) r) (sort_made_ok o (sorts ds) s h)

hole_denoted : (holes : ℕ → Value) (i : ℕ) (r : Option Sort) (s : Sort) → r ≡ Some s → denoted_hole holes i r ≡ Some (record { sort = s; value = holes i })
hole_denoted holes i r s h = ap (λ q. denoted_hole holes i q) h

-- ---- templates

-- what a template gives has the value of the view, whatever values the holes have
abbrev pub HasValue : TermView → (Background → (ℕ → Value) → Value) → Type 0
HasValue v given = (b : Background) (holes : ℕ → Value) → AreHoleValues b holes v.cells → same v.sort b.sizes (given b holes) (view_value b holes v) ≡ true

module _ (v : TermView) where
  abbrev HasSort : ℕ → Sort → Type 0
  HasSort i s = hole_sort v.cells i ≡ Some s

  abbrev IsValue : (b : Background) (holes : ℕ → Value) → Option Denoted → Type 0
  IsValue b holes r = IfSome r (λ d. same v.sort b.sizes d.value (view_value b holes v) ≡ true)

  pub replaced_by_hole : (i : ℕ) → HasSort i v.sort → HasValue v (λ b holes. holes i) → MayReplace v (hole i ∷ [])
  replaced_by_hole i h value = record {
    operators = refl;
    sort = give_one (hole_sort v.cells) sort_made i v.sort h;
    value = λ b holes sizes valid.
        subst (IsValue b holes)
        (sym (give_one (λ k. denoted_hole holes k (hole_sort v.cells k)) (denoted_over b) i (record { sort = v.sort; value = holes i }) (hole_denoted holes i (hole_sort v.cells i) v.sort h)))
        (value b holes valid);
  }

  pub replaced_by_two : (i j : ℕ) (o : Op) (r s : Sort) → is_theory o ≡ true → HasSort i r → HasSort j s → rank (op o) (r ∷ s ∷ []) ≡ Ok v.sort → HasValue v (λ b holes. op_value b o (r ∷ s ∷ []) (holes i ∷ holes j ∷ [])) → MayReplace v (hole i ∷ hole j ∷ applied o 2 ∷ [])
  replaced_by_two i j o r s theory h g ranked value = record {
    operators = and_true (is_theory o) true theory refl;
    sort = give_two (hole_sort v.cells) sort_made i j o r s v.sort h g (sort_made_ok o (r ∷ s ∷ []) v.sort ranked);
    value = λ b holes sizes valid.
        let x : Denoted = record { sort = r; value = holes i } in
        let y : Denoted = record { sort = s; value = holes j } in
        let z : Denoted = record { sort = v.sort; value = op_value b o (r ∷ s ∷ []) (holes i ∷ holes j ∷ []) } in
        subst (IsValue b holes)
        (sym (give_two (λ k. denoted_hole holes k (hole_sort v.cells k)) (denoted_over b) i j o x y z (hole_denoted holes i (hole_sort v.cells i) r h) (hole_denoted holes j (hole_sort v.cells j) s g) (denoted_made b o (x ∷ y ∷ []) v.sort ranked)))
        (value b holes valid);
  }

  pub replaced_by_three : (i j k : ℕ) (o : Op) (q r s : Sort) → is_theory o ≡ true → HasSort i q → HasSort j r → HasSort k s → rank (op o) (q ∷ r ∷ s ∷ []) ≡ Ok v.sort → HasValue v (λ b holes. op_value b o (q ∷ r ∷ s ∷ []) (holes i ∷ holes j ∷ holes k ∷ [])) → MayReplace v (hole i ∷ hole j ∷ hole k ∷ applied o 3 ∷ [])
  replaced_by_three i j k o q r s theory h g f ranked value = record {
    operators = and_true (is_theory o) true theory refl;
    sort = give_three (hole_sort v.cells) sort_made i j k o q r s v.sort h g f (sort_made_ok o (q ∷ r ∷ s ∷ []) v.sort ranked);
    value = λ b holes sizes valid.
        let w : Denoted = record { sort = q; value = holes i } in
        let x : Denoted = record { sort = r; value = holes j } in
        let y : Denoted = record { sort = s; value = holes k } in
        let z : Denoted = record { sort = v.sort; value = op_value b o (q ∷ r ∷ s ∷ []) (holes i ∷ holes j ∷ holes k ∷ []) } in
        subst (IsValue b holes)
        (sym (give_three (λ n. denoted_hole holes n (hole_sort v.cells n)) (denoted_over b) i j k o w x y z (hole_denoted holes i (hole_sort v.cells i) q h) (hole_denoted holes j (hole_sort v.cells j) r g) (hole_denoted holes k (hole_sort v.cells k) s f) (denoted_made b o (w ∷ x ∷ y ∷ []) v.sort ranked)))
        (value b holes valid);
  }
