-- Each formula that stands for a root is true in a model of the truth values where the root is true in the model whose bits it reads.
use Rattle.std.proofs.Common.{◌≡◌, ℕ, ◌<◌, Bool, true, false, List, [], ◌∷◌, map, get_or, length, All, Option, Some, refl, ap, ◌∙◌}
use Rattle.std.specs.Prelude.{unwrap_or}
use Rattle.std.proofs.lemmas.List.Elements.{All-head, All-tail}
use Rattle.smt_terms.specs.Sorts.{Sort, bool, bit_vector, Symbol}
use Rattle.smt_terms.specs.Term.{op, Term, terms}
use Rattle.smt_terms.specs.Free.{is_among, free_of}
use Rattle.smt_terms.specs.Fresh.{Supply}
use Rattle.smt_terms.specs.Models.{Model, symbol_value, background, IsModel}
use Rattle.smt_terms.specs.Operators.{op_value}
use Rattle.smt_terms.specs.Rank.{sort_of, sorts_of}
use Rattle.smt_terms.specs.Val.{no_variables, vals}
use Rattle.smt_terms.specs.Values.{is_true, bits_of}
use Rattle.smt_terms.proofs.Operands.{more_sorts}
use Rattle.smt_terms.proofs.Sorted.{sort_of-apply}
use Rattle.smt_terms.proofs.Valid.{length-bits_of}
use Rattle.bit_blast.specs.Blasted.{bit_of, term_gates, bit_constant, bits, formula, drawn_bits}
use Rattle.bit_blast.specs.Laws.{holds, ReadsBits, BlastKeepsValues}
use Rattle.bit_blast.proofs.BitConstants.{IsConstantOf, constant_sort, holds_bit, IsFlag, flag_constant, drawn_are_flags, at_constant, bit_constants}
use Rattle.bit_blast.proofs.BitsRelated.{only-both, OfBits, roots_of_bits, ConstantsRelated, bits_related, constant_value}
use Rattle.bit_blast.proofs.BoolGates.{gate_value}
use Rattle.bit_blast.proofs.CircuitsOverTerms.{keeps_circuits}
use Rattle.bit_blast.proofs.CircuitStatements.{Both, both_none, both_more, Keep}
use Rattle.bit_blast.proofs.TruthGates.{truth_gates}

-- ---- a formula that has this truth value

record HasTruth (m : Model) (t : Term) (b : Bool) : Type 0 where
  sort : sort_of t ≡ Some bool
  value : holds m t ≡ b

record HaveTruths (m : Model) (ts : List Term) (bs : List Bool) : Type 0 where
  sorts : sorts_of (terms ts) ≡ Some (map (λ _. bool) ts)
  values : map is_true (vals m (terms ts) no_variables) ≡ bs

have_truths : (m : Model) {ts : List Term} {bs : List Bool} → Both (HasTruth m) ts bs → HaveTruths m ts bs
have_truths m both_none = record { sorts = refl; values = refl }
have_truths m (both_more {u = t} {us = ts} here both) =
    let behind = have_truths m both in
    record { sorts = more_sorts t (terms ts) bool (map (λ _. bool) ts) here.sort behind.sorts; values = λ i. here.value i ∷ behind.values i }

connectives_keep : (m : Model) → Keep (HasTruth m) term_gates truth_gates
connectives_keep m o ts bs ranked both =
    let all = have_truths m both in
    record {
      sort = sort_of-apply (op o) (terms ts) (map (λ _. bool) ts) bool all.sorts ranked;
      value = ap (λ (ss : Option (List Sort)). is_true (op_value (background m) o (unwrap_or ss []) (vals m (terms ts) no_variables))) all.sorts
          ∙ gate_value (background m) o ts (vals m (terms ts) no_variables) ranked
          ∙ ap (truth_gates o) all.values;
    }

-- ---- a model that reads the bits of another

module _ (roots : List Term) (s : Supply) (m n : Model) (valid : IsModel n) (reads : ReadsBits roots (drawn_bits roots s).symbols m n) where
  -- the constant of a bit is a flag, and is in m what its term is in n
  abbrev Reads : Symbol × Term → Type 0
  Reads p = IsFlag p.0 × (is_true (symbol_value m p.0 []) ≡ holds n p.1)

  each_reads : All Reads (drawn_bits roots s).symbols
  each_reads k d less = (drawn_are_flags roots s k d less, reads.bits k d less)

  bit_read : (f : Symbol) (w i : ℕ) → is_among (free_of (terms roots)) f ≡ true → IsConstantOf f (bit_vector w) → i < w → HasTruth m (bit_constant (drawn_bits roots s).symbols (bit_of f i)) (get_or (bits_of (symbol_value n f [])) i false)
  bit_read f w i among c less =
      let number : length (bits_of (symbol_value n f [])) ≡ w = length-bits_of w n.sizes (symbol_value n f []) (constant_value n f (bit_vector w) valid c.result) in
      at_constant Reads (λ t. HasTruth m t (get_or (bits_of (symbol_value n f [])) i false)) (drawn_bits roots s).symbols (bit_of f i)
      (λ g read. record { sort = constant_sort g bool (flag_constant g read.0); value = read.1 ∙ holds_bit n f w i c less number })
      (bit_constants Reads roots s f w i among c.result less each_reads)

  constants_read : ConstantsRelated (HasTruth m) (drawn_bits roots s).symbols (free_of (terms roots)) n
  constants_read = record {
    flags = λ f among c. record { sort = constant_sort f bool c; value = reads.flags f among c.result };
    vectors = bit_read;
  }

  root_kept : (t : Term) → OfBits (free_of (terms roots)) t bool → holds m (formula (drawn_bits roots s).symbols t) ≡ holds n t
  root_kept t of_bits =
      let related = bits_related (HasTruth m) (drawn_bits roots s).symbols (free_of (terms roots)) n (keeps_circuits (HasTruth m) (connectives_keep m)) valid constants_read t bool of_bits in
      (only-both (HasTruth m) (connectives_keep m) (bits (drawn_bits roots s).symbols t) related.truths related.related).value ∙ ap is_true related.value

values_alike : (f g : Term → Bool) (h : Term → Term) (ts : List Term) → All (λ t. f (h t) ≡ g t) ts → map f (map h ts) ≡ map g ts
values_alike f g h [] all = refl
values_alike f g h (t ∷ ts) all =
    λ i. All-head (λ u. f (h u) ≡ g u) t ts all i ∷ values_alike f g h ts (All-tail (λ u. f (h u) ≡ g u) t ts all) i

pub keeps_values : BlastKeepsValues
keeps_values roots s m n blastable valid reads =
    values_alike (holds m) (holds n) (formula (drawn_bits roots s).symbols) roots
    (λ k d less. root_kept roots s m n valid reads (get_or roots k d) (roots_of_bits roots s blastable k d less))
