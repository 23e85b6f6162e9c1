-- Formulas that are made of parts of a formula and new symbols: operators over them are, and constants.
use Rattle.std.proofs.Common.{◌≡◌, ◌≤◌, Bool, true, false, not, ◌&&◌, ◌||◌, List, [], ◌∷◌, Some, inl, inr, refl, ap, sym, ◌∙◌, arith}
use Rattle.std.specs.Prelude.{is_some}
use Rattle.std.specs.List.{list_all}
use Rattle.smt_terms.specs.declared.op.Op.{Op}
use Rattle.smt_terms.specs.declared.op.Op.TheVariants.{Truth, Not}
use Rattle.smt_terms.specs.Sorts.{bool, Symbol, Variable}
use Rattle.smt_terms.specs.Term.{Head, op, symbol, Term, apply, Terms, none, ◌⨾◌, constant}
use Rattle.smt_terms.specs.Equal.{symbol_eq}
use Rattle.smt_terms.specs.Rank.{width, most_bits, sort_of, is_sort, is_minus, is_minus_of, is_regular, are_regular}
use Rattle.smt_terms.specs.Free.{is_among, free, free_of}
use Rattle.smt_terms.specs.Shapes.{is_clear_below, are_clear_below}
use Rattle.smt_terms.specs.Connectives.{truth_term, negated}
use Rattle.smt_terms.specs.Groups.{Named}
use Rattle.smt_terms.proofs.Tests.{both_true, and_true, either_true, left_true, right_true}
use Rattle.smt_terms.proofs.Equal.{Decides-symbol_eq}
use Rattle.smt_terms.proofs.Among.{is_among-with_more}
use Rattle.smt_terms.proofs.Ranked.{takes-rank}
use Rattle.smt_terms.proofs.Sorted.{sort_of-apply}
use Rattle.smt_terms.proofs.SortsOfTerms.{regular, regular_over}
use Rattle.smt_terms.proofs.Operands.{well_sorted}
use Rattle.smt_terms.proofs.Keeping.{not_minus}
use Rattle.smt_terms.proofs.Built.{sense, means-itself, means-truth, means-negated, means-opposite}
use Rattle.term_groups.specs.Every.{every, every_of}
use Rattle.term_groups.specs.Grouping.{symbols_of, IsMadeOf}
use Rattle.cnf_polarity.proofs.ConnectiveParts.{IsFormulaIn}

module _ (t : Term) (ns : Named) where
  pub formula-made : (u : Term) → IsFormulaIn t u → IsMadeOf t ns u
  formula-made u a = record {
    sorted = a.sorted;
    sort = a.sort;
    free = λ f e. left_true (is_among (free t) f) (is_among (symbols_of ns) f) (a.free f e);
    clear = a.clear;
    within = λ heads binders operators here new. a.within heads binders here;
  }

  -- ---- an operator over operands

  pub record AreMadeOf (us : Terms) : Type 0 where
    pub regular : are_regular us ≡ true
    pub free : (f : Symbol) → is_among (free_of us) f ≡ true → (is_among (free t) f || is_among (symbols_of ns) f) ≡ true
    pub clear : is_clear_below [] t ≡ true → are_clear_below [] us ≡ true
    pub within : (heads : Head → Bool) (binders : List Variable → Bool) → ((o : Op) → heads (op o) ≡ true)
        → every heads binders t ≡ true → list_all (λ f. heads (symbol f)) (symbols_of ns) ≡ true → every_of heads binders us ≡ true

  pub none-made : AreMadeOf none
  none-made = record { regular = refl; free = λ f e. absurd cc; clear = λ e. refl; within = λ heads binders operators here new. refl }

  pub more-made : (u : Term) (us : Terms) → IsMadeOf t ns u → AreMadeOf us → AreMadeOf (u ⨾ us)
  more-made u us a b = record {
    regular = and_true (is_regular u) (are_regular us) (both_true (is_some (sort_of u)) (is_regular u) a.sorted).1 b.regular;
    free = λ f e. elim (either_true (is_among (free u) f) (is_among (free_of us) f) (sym (is_among-with_more (free u) (free_of us) f) ∙ e)) [
      | inl first ↦ a.free f first
      | inr later ↦ b.free f later
    ];
    clear = λ e. and_true (is_clear_below [] u) (are_clear_below [] us) (a.clear e) (b.clear e);
    within = λ heads binders operators here new. and_true (every heads binders u) (every_of heads binders us) (a.within heads binders operators here new) (b.within heads binders operators here new);
  }

  pub over-made : (o : Op) (us : Terms) → is_minus o ≡ false → sort_of (apply (op o) us) ≡ Some bool → AreMadeOf us → IsMadeOf t ns (apply (op o) us)
  over-made o us plain has a = record {
    sorted = well_sorted (apply (op o) us) bool has (regular_over (op o) us (record { head = refl; no_minus = ap not (not_minus o us plain); operands = a.regular }));
    sort = has;
    free = λ f e. a.free f (sym (is_among-with_more [] (free_of us) f) ∙ e);
    clear = a.clear;
    within = λ heads binders operators here new. and_true (heads (op o)) (every_of heads binders us) (operators o) (a.within heads binders operators here new);
  }

  pub truth-made : (b : Bool) → IsMadeOf t ns (truth_term b)
  unfolding is_minus
  truth-made b = over-made (Truth b) none refl (means-truth b).sort none-made

  pub negated-made : (u : Term) → IsMadeOf t ns u → IsMadeOf t ns (negated u)
  unfolding is_minus
  negated-made u a = over-made Not (u ⨾ none) refl (means-negated u (sense u) (means-itself u a.sort)).sort (more-made u none a none-made)

  -- what stands below a `not`
  pub below-made : (u : Term) → IsMadeOf t ns (negated u) → IsMadeOf t ns u
  below-made u a =
      let has : sort_of u ≡ Some bool = (means-opposite (negated u) (sense (negated u)) (means-itself (negated u) a.sort)).sort in
      let rules = regular (op Not) (u ⨾ none) (both_true (is_some (sort_of (negated u))) (is_regular (negated u)) a.sorted).1 in
      record {
        sorted = well_sorted u bool has (both_true (is_regular u) true rules.operands).0;
        sort = has;
        free = λ f e. a.free f (is_among-with_more [] (free_of (u ⨾ none)) f ∙ is_among-with_more (free u) [] f ∙ left_true (is_among (free u) f) false e);
        clear = λ e. (both_true (is_clear_below [] u) true (a.clear e)).0;
        within = λ heads binders operators here new.
            (both_true (every heads binders u) true (both_true (heads (op Not)) (every heads binders u && true) (a.within heads binders operators here new)).1).0;
      }

  -- ---- a new constant

  passes : (test : Symbol → Bool) (fs : List Symbol) (f : Symbol) → is_among fs f ≡ true → list_all test fs ≡ true → test f ≡ true
  passes test [] f among all = absurd cc
  passes test (g ∷ fs) f among all =
      let parts = both_true (test g) (list_all test fs) all in
      elim (either_true (symbol_eq g f) (is_among fs f) among) [
        | inl here ↦ ap test (sym ((Decides-symbol_eq g f).0 here)) ∙ parts.0
        | inr later ↦ passes test fs f later parts.1
      ]

  pub constant-made : (f : Symbol) → f.args ≡ [] → f.result ≡ bool → is_among (symbols_of ns) f ≡ true → IsMadeOf t ns (constant f)
  unfolding is_minus_of
  constant-made f args result among =
      let narrow : width bool ≤ most_bits = omega arith in
      let has : sort_of (constant f) ≡ Some bool = sort_of-apply (symbol f) none [] bool refl (takes-rank (symbol f) [] bool (sym args, sym result) narrow) in
      let sorts : (list_all is_sort f.args && is_sort f.result) ≡ true = λ i. list_all is_sort (args i) && is_sort (result i) in
      record {
        sorted = well_sorted (constant f) bool has (regular_over (symbol f) none (record { head = sorts; no_minus = refl; operands = refl }));
        sort = has;
        free = λ g e. right_true (is_among (free t) g) (is_among (symbols_of ns) g) (ap (is_among (symbols_of ns)) (sym (alone f g e)) ∙ among);
        clear = λ e. refl;
        within = λ heads binders operators here new. and_true (heads (symbol f)) true (passes (λ g. heads (symbol g)) (symbols_of ns) f among new) refl;
      }
    where
      alone : (f g : Symbol) → is_among (free (constant f)) g ≡ true → f ≡ g
      alone f g e =
          elim (either_true (symbol_eq f g || false) false (sym (is_among-with_more (f ∷ []) [] g) ∙ e)) [
            | inl same ↦ elim (either_true (symbol_eq f g) false same) [
              | inl here ↦ (Decides-symbol_eq f g).0 here
              | inr never ↦ absurd cc
            ]
            | inr never ↦ absurd cc
          ]
