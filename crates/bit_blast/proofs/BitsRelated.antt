-- The bits of a term and those of its value in a model: what connectives keep, and what holds of the formulas that stand for the
-- bits of constants, holds between the two.
use Rattle.std.proofs.Common.{◌≡◌, ℕ, zero, suc, ◌+◌, ◌<◌, ◌≤◌, Bool, true, false, ◌&&◌, List, [], ◌∷◌, map, get_or, length, All, Option, Some, refl, ap, sym, ◌∙◌, subst, arith}
use Rattle.std.specs.Prelude.{unwrap_or, is_some, nat_le}
use Rattle.std.proofs.lemmas.Bool.{leb-true}
use Rattle.std.proofs.lemmas.List.Elements.{All-nil, All-cons, All-weaker}
use Rattle.smt_terms.specs.declared.op.Op.{Op}
use Rattle.smt_terms.specs.declared.op.Op.TheVariants.{Truth}
use Rattle.smt_terms.specs.Sorts.{Sort, bool, bit_vector, array, Symbol}
use Rattle.smt_terms.specs.Term.{Head, op, symbol, const_array, Term, apply, quantified, Terms, none, ◌⨾◌, list, terms, constant}
use Rattle.smt_terms.specs.Free.{is_among, head_symbols, free, free_of}
use Rattle.smt_terms.specs.Fresh.{Supply}
use Rattle.smt_terms.specs.Groups.{Named}
use Rattle.smt_terms.specs.Models.{Model, symbol_value, background, IsModel}
use Rattle.smt_terms.specs.Operators.{op_value}
use Rattle.smt_terms.specs.Rank.{shape, width, most_bits, sort_of, sorts_of, is_sort, is_regular, are_regular}
use Rattle.smt_terms.specs.Val.{no_variables, val, vals}
use Rattle.smt_terms.specs.Values.{Value, truth, bits as vector_value, Sizes, is_true, bits_of, is_value}
use Rattle.smt_terms.proofs.Among.{is_among-with_more}
use Rattle.smt_terms.proofs.Equal.{symbol_itself}
use Rattle.smt_terms.proofs.Ranked.{rank-takes, rank-narrow, takes-rank}
use Rattle.smt_terms.proofs.Sorted.{IsApplied, applied, sorted, length-sorts_of}
use Rattle.smt_terms.proofs.SortsOfTerms.{regular, sort_is_sort}
use Rattle.smt_terms.proofs.Tests.{both_true, left_true, right_true}
use Rattle.smt_terms.proofs.Valid.{length-bits_of, is_value-symbol}
use Rattle.bit_blast.specs.Blasted.{is_bits_sort, is_bits_head, is_bits, are_bits, bit_of, bits_from, term_gates, bit_constant, symbol_bits, bits, bits_each}
use Rattle.bit_blast.specs.Circuits.{circuit, only_bit}
use Rattle.bit_blast.specs.Laws.{AreBlastable}
use Rattle.bit_blast.proofs.BitConstants.{IsConstantOf}
use Rattle.bit_blast.proofs.CircuitStatements.{bits_in, Fit, fit_none, fit_more, bits_value, bits_values, IsOnBits, Both, both_none, both_more, Keep}
use Rattle.bit_blast.proofs.CircuitValues.{circuits_have_values}
use Rattle.bit_blast.proofs.TruthGates.{truth_gates}

-- ---- lists in a relation

length-both : {A B : Type 0} {R : A → B → Type 0} {us : List A} {vs : List B} → Both R us vs → length us ≡ length vs
length-both both_none = refl
length-both (both_more r both) = ap suc (length-both both)

pub only-both : (R : Term → Bool → Type 0) → Keep R term_gates truth_gates → (us : List Term) (vs : List Bool) → Both R us vs → R (only_bit term_gates us) (only_bit truth_gates vs)
unfolding shape
only-both R keep us vs both_none =
    let narrow : width bool ≤ most_bits = omega arith in
    keep (Truth false) [] [] (takes-rank (op (Truth false)) [] bool (refl, refl) narrow) both_none
only-both R keep us vs (both_more r both) = r

-- ---- terms of bits, whose symbols are among these

pub record OfBits (fs : List Symbol) (t : Term) (s : Sort) : Type 0 where
  pub rules : is_regular t ≡ true
  pub bits : is_bits t ≡ true
  pub has : sort_of t ≡ Some s
  pub free : (f : Symbol) → is_among (free t) f ≡ true → is_among fs f ≡ true

-- a term whose free symbols are among these, as those of each root are among those of all
abbrev Within : List Symbol → Term → Type 0
Within fs t = (f : Symbol) → is_among (free t) f ≡ true → is_among fs f ≡ true

roots_within : (ts : List Term) → All (Within (free_of (terms ts))) ts
roots_within [] = All-nil (Within [])
roots_within (t ∷ ts) =
    All-cons (Within (free_of (terms (t ∷ ts)))) t ts
    (λ f among. is_among-with_more (free t) (free_of (terms ts)) f ∙ left_true (is_among (free t) f) (is_among (free_of (terms ts)) f) among)
    (All-weaker (Within (free_of (terms ts))) (Within (free_of (terms (t ∷ ts))))
    (λ u within f among. is_among-with_more (free t) (free_of (terms ts)) f ∙ right_true (is_among (free t) f) (is_among (free_of (terms ts)) f) (within f among))
    ts (roots_within ts))

pub roots_of_bits : (roots : List Term) (s : Supply) → AreBlastable roots s → All (λ t. OfBits (free_of (terms roots)) t bool) roots
roots_of_bits roots s blastable k d less =
    let root : Term = get_or roots k d in
    record {
      rules = (both_true (is_some (sort_of root)) (is_regular root) (blastable.sorted k d less)).1;
      bits = blastable.bits k d less;
      has = blastable.sorts k d less;
      free = roots_within roots k d less;
    }

record AllOfBits (fs : List Symbol) (ts : Terms) (ss : List Sort) : Type 0 where
  rules : are_regular ts ≡ true
  bits : are_bits ts ≡ true
  have : sorts_of ts ≡ Some ss
  free : (f : Symbol) → is_among (free_of ts) f ≡ true → is_among fs f ≡ true

-- what it says of a head
record HeadOfBits (fs : List Symbol) (h : Head) (ts : Terms) (s : Sort) : Type 0 where
  head : is_bits_head h ≡ true
  sort : is_bits_sort (Some s) ≡ true
  over : IsApplied h ts s
  operands : AllOfBits fs ts over.sorts

head_of_bits : (fs : List Symbol) (h : Head) (ts : Terms) (s : Sort) → OfBits fs (apply h ts) s → HeadOfBits fs h ts s
head_of_bits fs h ts s t =
    let all = both_true (is_bits_head h && is_bits_sort (sort_of (apply h ts))) (are_bits ts) t.bits in
    let first = both_true (is_bits_head h) (is_bits_sort (sort_of (apply h ts))) all.0 in
    record {
      head = first.0;
      sort = sym (ap is_bits_sort t.has) ∙ first.1;
      over = applied h ts s t.has;
      operands = record {
        rules = (regular h ts t.rules).operands;
        bits = all.1;
        have = (applied h ts s t.has).operands;
        free = λ f among. t.free f (is_among-with_more (head_symbols h) (free_of ts) f ∙ right_true (is_among (head_symbols h) f) (is_among (free_of ts) f) among);
      };
    }

first_of_bits : (fs : List Symbol) (t : Term) (ts : Terms) (ss : List Sort) (all : AllOfBits fs (t ⨾ ts) ss) → OfBits fs t (sorted t ts ss all.have).sort
first_of_bits fs t ts ss all = record {
  rules = (both_true (is_regular t) (are_regular ts) all.rules).0;
  bits = (both_true (is_bits t) (are_bits ts) all.bits).0;
  has = (sorted t ts ss all.have).first;
  free = λ f among. all.free f (is_among-with_more (free t) (free_of ts) f ∙ left_true (is_among (free t) f) (is_among (free_of ts) f) among);
}

others_of_bits : (fs : List Symbol) (t : Term) (ts : Terms) (ss : List Sort) (all : AllOfBits fs (t ⨾ ts) ss) → AllOfBits fs ts (sorted t ts ss all.have).sorts
others_of_bits fs t ts ss all = record {
  rules = (both_true (is_regular t) (are_regular ts) all.rules).1;
  bits = (both_true (is_bits t) (are_bits ts) all.bits).1;
  have = (sorted t ts ss all.have).others;
  free = λ f among. all.free f (is_among-with_more (free t) (free_of ts) f ∙ right_true (is_among (free t) f) (is_among (free_of ts) f) among);
}

bits_sort : (t : Term) (s : Sort) → is_bits t ≡ true → sort_of t ≡ Some s → is_bits_sort (Some s) ≡ true
bits_sort (apply h ts) s made has =
    let all = both_true (is_bits_head h && is_bits_sort (sort_of (apply h ts))) (are_bits ts) made in
    sym (ap is_bits_sort has) ∙ (both_true (is_bits_head h) (is_bits_sort (sort_of (apply h ts))) all.0).1
bits_sort (quantified q xs t) s made has = absurd cc

-- a symbol in such a term is a constant
record SymbolOfBits (fs : List Symbol) (f : Symbol) (ts : Terms) (s : Sort) : Type 0 where
  constant : IsConstantOf f s
  none : ts ≡ none
  among : is_among fs f ≡ true
  fine : is_sort s ≡ true
  sort : is_bits_sort (Some s) ≡ true

no_arguments : (f : Symbol) → is_bits_head (symbol f) ≡ true → f.args ≡ []
no_arguments f h = go f.args refl
  where
    go : (ss : List Sort) → f.args ≡ ss → f.args ≡ []
    go [] e = e
    go (s ∷ ss) e =
        let clash : false ≡ true = sym (λ i. is_bits_head (symbol (record { name = f.name; args = e i; result = f.result }))) ∙ h in
        absurd cc

symbol_of_bits : (fs : List Symbol) (f : Symbol) (ts : Terms) (s : Sort) → OfBits fs (apply (symbol f) ts) s → SymbolOfBits fs f ts s
symbol_of_bits fs f ts s t =
    let parts = head_of_bits fs (symbol f) ts s t in
    let taken = rank-takes (symbol f) parts.over.sorts s parts.over.rank in
    let args : f.args ≡ [] = no_arguments f parts.head in
    record {
      constant = record { args = args; result = sym taken.1; narrow = rank-narrow (symbol f) parts.over.sorts s parts.over.rank };
      none = no_operands ts (sym (length-sorts_of ts parts.over.sorts parts.over.operands) ∙ ap length (taken.0 ∙ args));
      among = t.free f (is_among-with_more (f ∷ []) (free_of ts) f ∙ left_true (is_among (f ∷ []) f) (is_among (free_of ts) f) (left_true _ false (symbol_itself f)));
      fine = sort_is_sort (apply (symbol f) ts) s t.rules t.has;
      sort = parts.sort;
    }
  where
    no_operands : (us : Terms) → length (list us) ≡ 0 → us ≡ none
    no_operands none e = refl
    no_operands (u ⨾ us) e = absurd (omega arith)

-- ---- values of constants

truth_again : (sizes : Sizes) (v : Value) → is_value bool sizes v ≡ true → truth (is_true v) ≡ v
truth_again sizes (truth b) h = refl
truth_again sizes _ h = absurd cc

vector_again : (w : ℕ) (sizes : Sizes) (v : Value) → is_value (bit_vector w) sizes v ≡ true → vector_value (bits_of v) ≡ v
vector_again w sizes (vector_value bs) h = refl
vector_again w sizes _ h = absurd cc

pub constant_value : (n : Model) (f : Symbol) (s : Sort) → IsModel n → f.result ≡ s → is_value s n.sizes (symbol_value n f []) ≡ true
constant_value n f s valid result = subst (λ r. is_value r n.sizes (symbol_value n f []) ≡ true) result (is_value-symbol n f [] valid)

-- ---- the bits of a term

-- what is known of circuits over terms and over truth values
pub record KeepsCircuits (R : Term → Bool → Type 0) : Type 0 where
  pub widths : (o : Op) (ss : List Sort) (s : Sort) (uss : List (List Bool)) → IsOnBits o ss s → Fit ss uss → (length (circuit truth_gates o ss uss) ≡ bits_in s) × (0 < length (circuit truth_gates o ss uss))
  pub related : (o : Op) (ss : List Sort) (s : Sort) (uss : List (List Term)) (vss : List (List Bool)) → IsOnBits o ss s → Fit ss uss → Both (Both R) uss vss → Both R (circuit term_gates o ss uss) (circuit truth_gates o ss vss)

-- what stands for each bit of a constant is in the relation with this bit of its value
pub record ConstantsRelated (R : Term → Bool → Type 0) (ns : Named) (fs : List Symbol) (n : Model) : Type 0 where
  pub flags : (f : Symbol) → is_among fs f ≡ true → IsConstantOf f bool → R (constant f) (is_true (symbol_value n f []))
  pub vectors : (f : Symbol) (w i : ℕ) → is_among fs f ≡ true → IsConstantOf f (bit_vector w) → i < w → R (bit_constant ns (bit_of f i)) (get_or (bits_of (symbol_value n f [])) i false)

module _ (R : Term → Bool → Type 0) (ns : Named) (fs : List Symbol) (n : Model) (circuits : KeepsCircuits R) (valid : IsModel n) (constants : ConstantsRelated R ns fs n) where
  -- the bits of the term are in the relation with those of its value
  pub record IsRelated (t : Term) (s : Sort) : Type 0 where
    pub truths : List Bool
    pub related : Both R (bits ns t) truths
    pub value : bits_value s truths ≡ val n t no_variables
    pub number : length truths ≡ bits_in s
    pub some : 0 < length truths

  record AreRelated (ts : Terms) (ss : List Sort) : Type 0 where
    truths : List (List Bool)
    related : Both (Both R) (bits_each ns ts) truths
    values : bits_values ss truths ≡ vals n ts no_variables
    fit : Fit ss truths
    fit_terms : Fit ss (bits_each ns ts)

  none_related : AreRelated none []
  none_related = record { truths = []; related = both_none; values = refl; fit = fit_none; fit_terms = fit_none }

  more_related : (t : Term) (ts : Terms) (s : Sort) (ss : List Sort) → is_bits_sort (Some s) ≡ true → IsRelated t s → AreRelated ts ss → AreRelated (t ⨾ ts) (s ∷ ss)
  more_related t ts s ss sort first others =
      let same : length (bits ns t) ≡ length first.truths = length-both first.related in
      let first_some : 0 < length first.truths = first.some in
      let some : 0 < length (bits ns t) = omega arith in
      record {
        truths = first.truths ∷ others.truths;
        related = both_more first.related others.related;
        values = λ i. first.value i ∷ others.values i;
        fit = fit_more sort first.some first.number others.fit;
        fit_terms = fit_more sort some (same ∙ first.number) others.fit_terms;
      }

  operator_related : (o : Op) (ts : Terms) (s : Sort) → HeadOfBits fs (op o) ts s → ((ss : List Sort) → AllOfBits fs ts ss → AreRelated ts ss) → IsRelated (apply (op o) ts) s
  operator_related o ts s parts below =
      let ss = parts.over.sorts in
      let all = below ss parts.operands in
      let on : IsOnBits o ss s = record { ranked = parts.over.rank; result = parts.sort } in
      let widths = circuits.widths o ss s all.truths on all.fit in
      record {
        truths = circuit truth_gates o ss all.truths;
        related = subst (λ (k : Option (List Sort)). Both R (circuit term_gates o (unwrap_or k []) (bits_each ns ts)) (circuit truth_gates o ss all.truths)) (sym parts.over.operands)
            (circuits.related o ss s (bits_each ns ts) all.truths on all.fit_terms all.related);
        value = circuits_have_values (background n) o ss s all.truths on all.fit
            ∙ ap (op_value (background n) o ss) all.values
            ∙ ap (λ (k : Option (List Sort)). op_value (background n) o (unwrap_or k []) (vals n ts no_variables)) (sym parts.over.operands);
        number = widths.0;
        some = widths.1;
      }

  vector_related : (f : Symbol) (i w : ℕ) (bs : List Bool) → length bs ≡ w → ((k : ℕ) → k < w → R (bit_constant ns (bit_of f (i + k))) (get_or bs k false)) → Both R (map (bit_constant ns) (bits_from f i w)) bs
  vector_related f i zero [] len each = both_none
  vector_related f i zero (b ∷ bs) len each = absurd (omega arith)
  vector_related f i (suc w) [] len each = absurd (omega arith)
  vector_related f i (suc w) (b ∷ bs) len each =
      let here : i + 0 ≡ i = omega arith in
      let some : 0 < suc w = omega arith in
      both_more (subst (λ j. R (bit_constant ns (bit_of f j)) b) here (each 0 some))
      (vector_related f (suc i) w bs (omega arith)
      (λ k less.
      let there : i + suc k ≡ suc i + k = omega arith in
      let below : suc k < suc w = omega arith in
      subst (λ j. R (bit_constant ns (bit_of f j)) (get_or bs k false)) there (each (suc k) below)))

  constant_related : (f : Symbol) (s : Sort) → IsConstantOf f s → is_among fs f ≡ true → is_sort s ≡ true → is_bits_sort (Some s) ≡ true → IsRelated (constant f) s
  constant_related f bool c among fine sort = record {
    truths = is_true (symbol_value n f []) ∷ [];
    related = subst (λ r. Both R (symbol_bits ns f r) (is_true (symbol_value n f []) ∷ [])) (sym c.result) (both_more (constants.flags f among c) both_none);
    value = truth_again n.sizes (symbol_value n f []) (constant_value n f bool valid c.result);
    number = refl;
    some = omega arith;
  }
  constant_related f (bit_vector w) c among fine sort =
      let good = constant_value n f (bit_vector w) valid c.result in
      let number : length (bits_of (symbol_value n f [])) ≡ w = length-bits_of w n.sizes (symbol_value n f []) good in
      let one : 1 ≤ w = leb-true 1 w (both_true (nat_le 1 w) (nat_le w most_bits) fine).0 in
      let truths : List Bool = bits_of (symbol_value n f []) in
      record {
        truths = truths;
        related = subst (λ r. Both R (symbol_bits ns f r) truths) (sym c.result)
            (vector_related f 0 w truths number
            (λ k less. let same : k ≡ 0 + k = omega arith in subst (λ j. R (bit_constant ns (bit_of f j)) (get_or truths k false)) same (constants.vectors f w k among c less)));
        value = vector_again w n.sizes (symbol_value n f []) good;
        number = number;
        some = omega arith;
      }
  constant_related f _ c among fine sort = absurd cc

  symbol_related : (f : Symbol) (ts : Terms) (s : Sort) → SymbolOfBits fs f ts s → IsRelated (apply (symbol f) ts) s
  symbol_related f ts s parts = subst (λ us. IsRelated (apply (symbol f) us) s) (sym parts.none) (constant_related f s parts.constant parts.among parts.fine parts.sort)

  no_array : (r : Sort) (ts : Terms) (s : Sort) → HeadOfBits fs (const_array r) ts s → ⊥
  no_array r ts s parts =
      let taken = rank-takes (const_array r) parts.over.sorts s parts.over.rank in
      never (taken.4 ∙ taken.2)
    where
      never : {i e : Sort} → s ≡ array i e → ⊥
      never same =
          let clash : false ≡ true = sym (ap (λ q. is_bits_sort (Some q)) same) ∙ parts.sort in
          absurd cc

  mutual
    pub bits_related : (t : Term) (s : Sort) → OfBits fs t s → IsRelated t s
    bits_related (apply (op o) ts) s t = operator_related o ts s (head_of_bits fs (op o) ts s t) (λ ss all. each_related ts ss all)
    bits_related (apply (symbol f) ts) s t = symbol_related f ts s (symbol_of_bits fs f ts s t)
    bits_related (apply (const_array r) ts) s t = absurd (no_array r ts s (head_of_bits fs (const_array r) ts s t))
    bits_related (quantified q xs body) s t = let made : false ≡ true = t.bits in absurd cc

    each_related : (ts : Terms) (ss : List Sort) → AllOfBits fs ts ss → AreRelated ts ss
    each_related none ss all =
        let given : Some [] ≡ Some ss = all.have in
        let empty : [] ≡ ss = cc in
        subst (λ rs. AreRelated none rs) empty none_related
    each_related (t ⨾ ts) ss all =
        let parts = sorted t ts ss all.have in
        let first = first_of_bits fs t ts ss all in
        subst (λ rs. AreRelated (t ⨾ ts) rs) (sym parts.all)
        (more_related t ts parts.sort parts.sorts (bits_sort t parts.sort first.bits first.has) (bits_related t parts.sort first)
        (each_related ts parts.sorts (others_of_bits fs t ts ss all)))
