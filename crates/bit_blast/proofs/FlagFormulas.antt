-- What stands for a root is a formula over truth values alone, whose symbols are those of the roots and the new constants.
use Rattle.std.proofs.Common.{◌≡◌, Bool, true, false, not, ◌&&◌, ◌||◌, ◌⊎◌, inl, inr, List, [], ◌∷◌, map, get_or, All, Some, None, refl, ap, sym, ◌∙◌, subst, arith}
use Rattle.std.specs.Prelude.{is_some}
use Rattle.std.specs.List.{list_all}
use Rattle.std.proofs.lemmas.List.Elements.{All-nil, All-cons, All-weaker, All-map}
use Rattle.smt_terms.specs.Sorts.{bool, Symbol}
use Rattle.smt_terms.specs.Term.{op, symbol, Term, apply, none, terms, constant}
use Rattle.smt_terms.specs.Equal.{symbol_eq}
use Rattle.smt_terms.specs.Free.{is_among, free, free_of}
use Rattle.smt_terms.specs.Fresh.{Supply}
use Rattle.smt_terms.specs.Groups.{Named}
use Rattle.smt_terms.specs.Models.{Model, IsModel}
use Rattle.smt_terms.specs.Rank.{sort_of, sorts_of, is_sort, is_minus_of, is_regular, are_regular}
use Rattle.smt_terms.proofs.Among.{is_among-with_more}
use Rattle.smt_terms.proofs.Equal.{Decides-symbol_eq, symbol_itself}
use Rattle.smt_terms.proofs.Keeping.{not_minus}
use Rattle.smt_terms.proofs.Operands.{more_sorts, well_sorted}
use Rattle.smt_terms.proofs.Sorted.{sort_of-apply}
use Rattle.smt_terms.proofs.SortsOfTerms.{regular_over}
use Rattle.smt_terms.proofs.Tests.{both_true, and_true, either_true, left_true, right_true}
use Rattle.bit_blast.specs.Blasted.{bit_of, term_gates, bits, formula, drawn_bits}
use Rattle.bit_blast.specs.Carried.{zero_everywhere}
use Rattle.bit_blast.specs.Laws.{is_bool, is_boolean, are_boolean, is_flag, has_symbol, IsFlagFormula, BlastGivesFlagFormulas}
use Rattle.bit_blast.proofs.BitConstants.{IsConstantOf, constant_sort, IsFlag, flag_constant, drawn_are_flags, at_constant, bit_constants}
use Rattle.bit_blast.proofs.BitsRelated.{only-both, OfBits, roots_of_bits, ConstantsRelated, bits_related}
use Rattle.bit_blast.proofs.BoolGates.{no_minus}
use Rattle.bit_blast.proofs.CircuitsOverTerms.{keeps_circuits}
use Rattle.bit_blast.proofs.CircuitStatements.{Both, both_none, both_more, Keep}
use Rattle.bit_blast.proofs.TruthGates.{truth_gates}

-- ---- connectives over such formulas

-- a symbol that may stand in a formula
abbrev May : List Term → Named → Symbol → Type 0
May roots ns f = (is_flag f && (is_among (free_of (terms roots)) f || has_symbol ns f)) ≡ true

-- whatever truth value stands with it
abbrev IsFormula : List Term → Named → Term → Bool → Type 0
IsFormula roots ns t b = IsFlagFormula roots ns t

record AreFormulas (roots : List Term) (ns : Named) (ts : List Term) : Type 0 where
  sorts : sorts_of (terms ts) ≡ Some (map (λ _. bool) ts)
  rules : are_regular (terms ts) ≡ true
  boolean : are_boolean (terms ts) ≡ true
  free : (f : Symbol) → is_among (free_of (terms ts)) f ≡ true → May roots ns f

are_formulas : (roots : List Term) (ns : Named) {ts : List Term} {bs : List Bool} → Both (IsFormula roots ns) ts bs → AreFormulas roots ns ts
are_formulas roots ns both_none = record { sorts = refl; rules = refl; boolean = refl; free = λ f among. absurd cc }
are_formulas roots ns (both_more {u = t} {us = ts} here both) =
    let behind = are_formulas roots ns both in
    record {
      sorts = more_sorts t (terms ts) bool (map (λ _. bool) ts) here.sort behind.sorts;
      rules = and_true (is_regular t) (are_regular (terms ts)) (both_true (is_some (sort_of t)) (is_regular t) here.sorted).1 behind.rules;
      boolean = and_true (is_boolean t) (are_boolean (terms ts)) here.boolean behind.boolean;
      free = λ f among. either_here (here.free f) (behind.free f) (either_true (is_among (free t) f) (is_among (free_of (terms ts)) f) (sym (is_among-with_more (free t) (free_of (terms ts)) f) ∙ among));
    }
  where
    either_here : {P Q : Type 0} {M : Type 0} → (P → M) → (Q → M) → P ⊎ Q → M
    either_here f g (inl p) = f p
    either_here f g (inr q) = g q

connectives_give : (roots : List Term) (ns : Named) → Keep (IsFormula roots ns) term_gates truth_gates
connectives_give roots ns o ts bs ranked both =
    let all = are_formulas roots ns both in
    let sort : sort_of (apply (op o) (terms ts)) ≡ Some bool = sort_of-apply (op o) (terms ts) (map (λ _. bool) ts) bool all.sorts ranked in
    record {
      sorted = well_sorted (apply (op o) (terms ts)) bool sort
          (regular_over (op o) (terms ts) (record { head = refl; no_minus = ap not (not_minus o (terms ts) (no_minus o ts ranked)); operands = all.rules }));
      sort = sort;
      boolean = and_true (is_bool (sort_of (apply (op o) (terms ts)))) (are_boolean (terms ts)) (ap is_bool sort) all.boolean;
      free = λ f among. all.free f (sym (is_among-with_more [] (free_of (terms ts)) f) ∙ among);
    }

-- ---- constants

symbol_no_minus : (f : Symbol) → not (is_minus_of (symbol f) none) ≡ true
unfolding is_minus_of
symbol_no_minus f = refl

-- the one symbol in a constant
only_symbol : (f g : Symbol) → is_among (free (constant f)) g ≡ true → f ≡ g
only_symbol f g among = go (either_true (symbol_eq f g) false among)
  where
    go : (symbol_eq f g ≡ true) ⊎ (false ≡ true) → f ≡ g
    go (inl same) = (Decides-symbol_eq f g).0 same
    go (inr never) = absurd cc

flag_formula : (roots : List Term) (ns : Named) (f : Symbol) → IsConstantOf f bool → (is_among (free_of (terms roots)) f || has_symbol ns f) ≡ true → IsFlagFormula roots ns (constant f)
flag_formula roots ns f c known =
    let sort = constant_sort f bool c in
    let args : list_all is_sort f.args ≡ true = ap (list_all is_sort) c.args in
    let result : is_sort f.result ≡ true = ap is_sort c.result in
    record {
      sorted = well_sorted (constant f) bool sort
          (regular_over (symbol f) none (record { head = and_true (list_all is_sort f.args) (is_sort f.result) args result; no_minus = symbol_no_minus f; operands = refl }));
      sort = sort;
      boolean = and_true (is_bool (sort_of (constant f))) true (ap is_bool sort) refl;
      free = λ g among. subst (May roots ns) (only_symbol f g among) (and_true (is_flag f) (is_among (free_of (terms roots)) f || has_symbol ns f) (ap (λ s. is_bool (Some s)) c.result) known);
    }

-- ---- each bit of a constant

-- everything has its default in this model
any_model : Model
any_model = record { sizes = λ s. 1; graphs = λ f. None; div_by_zero = zero_everywhere; mod_by_zero = zero_everywhere }

any_is_model : IsModel any_model
unfolding any_model
any_is_model = record { sizes = λ s. omega arith; graphs = λ f. tt; div_by_zero = refl; mod_by_zero = refl }

-- a drawn constant is a flag, and is among the new ones
abbrev IsNew : Named → Symbol × Term → Type 0
IsNew ns p = IsFlag p.0 × (has_symbol ns p.0 ≡ true)

each_new : (ns : Named) → All (λ p. has_symbol ns p.0 ≡ true) ns
each_new [] = All-nil (λ (p : Symbol × Term). false ≡ true)
each_new (n ∷ ns) =
    All-cons (λ (p : Symbol × Term). has_symbol (n ∷ ns) p.0 ≡ true) n ns (left_true (symbol_eq n.0 n.0) (has_symbol ns n.0) (symbol_itself n.0))
    (All-weaker (λ (p : Symbol × Term). has_symbol ns p.0 ≡ true) (λ (p : Symbol × Term). has_symbol (n ∷ ns) p.0 ≡ true) (λ p among. right_true (symbol_eq n.0 p.0) (has_symbol ns p.0) among) ns (each_new ns))

module _ (roots : List Term) (s : Supply) where
  all_new : All (IsNew (drawn_bits roots s).symbols) (drawn_bits roots s).symbols
  all_new k d less = (drawn_are_flags roots s k d less, each_new (drawn_bits roots s).symbols k d less)

  constants_give : ConstantsRelated (IsFormula roots (drawn_bits roots s).symbols) (drawn_bits roots s).symbols (free_of (terms roots)) any_model
  constants_give = record {
    flags = λ f among c. flag_formula roots (drawn_bits roots s).symbols f c (left_true (is_among (free_of (terms roots)) f) (has_symbol (drawn_bits roots s).symbols f) among);
    vectors = λ f w i among c less.
        at_constant (IsNew (drawn_bits roots s).symbols) (IsFlagFormula roots (drawn_bits roots s).symbols) (drawn_bits roots s).symbols (bit_of f i)
        (λ g new. flag_formula roots (drawn_bits roots s).symbols g (flag_constant g new.0) (right_true (is_among (free_of (terms roots)) g) (has_symbol (drawn_bits roots s).symbols g) new.1))
        (bit_constants (IsNew (drawn_bits roots s).symbols) roots s f w i among c.result less all_new);
  }

  root_gives : (t : Term) → OfBits (free_of (terms roots)) t bool → IsFlagFormula roots (drawn_bits roots s).symbols (formula (drawn_bits roots s).symbols t)
  root_gives t of_bits =
      let R = IsFormula roots (drawn_bits roots s).symbols in
      let keep = connectives_give roots (drawn_bits roots s).symbols in
      let related = bits_related R (drawn_bits roots s).symbols (free_of (terms roots)) any_model (keeps_circuits R keep) any_is_model constants_give t bool of_bits in
      only-both R keep (bits (drawn_bits roots s).symbols t) related.truths related.related

pub gives_flag_formulas : BlastGivesFlagFormulas
gives_flag_formulas roots s blastable =
    All-map (IsFlagFormula roots (drawn_bits roots s).symbols) (formula (drawn_bits roots s).symbols) roots
    (λ k d less. root_gives roots s (get_or roots k d) (roots_of_bits roots s blastable k d less))
