-- A model of the new constants gives a model of the bit vectors, which reads the same bits.
use Rattle.std.proofs.Common.{◌≡◌, ℕ, zero, suc, ◌+◌, ◌<◌, Bool, true, false, cond, List, [], map, flat_map, length, get_or, Some, None, All, IfSome, IsTrue, refl, ap, sym, ◌∙◌, arith}
use Rattle.std.specs.List.{list_any}
use Rattle.std.proofs.lemmas.Bool.Decides.{Decides-eqb}
use Rattle.smt_terms.specs.Equal.{symbol_eq}
use Rattle.smt_terms.specs.Free.{is_among, free_of}
use Rattle.smt_terms.specs.Fresh.{Supply}
use Rattle.smt_terms.specs.Groups.{Named, constant_for}
use Rattle.smt_terms.specs.Models.{Model, IsModel, graph_or_default, symbol_value, is_graph}
use Rattle.smt_terms.specs.Sorts.{Name, Sort, bool, bit_vector, Symbol}
use Rattle.smt_terms.specs.Term.{Term, terms}
use Rattle.smt_terms.specs.Values.{Value, bits, is_true, is_value}
use Rattle.smt_terms.proofs.Tests.{and_true}
use Rattle.smt_terms.proofs.Valid.{is_value-default, is_value-symbol}
use Rattle.bit_blast.specs.Blasted.{bit_of, bits_from, bits_of_constant, vector_constants, blasted}
use Rattle.bit_blast.specs.Carried.{everywhere, bit_value, lifted_value, lifted}
use Rattle.bit_blast.specs.Laws.{holds, AreBlastable, are_among, BlastLifts}
use Rattle.bit_blast.proofs.BitsOfConstants.{symbols-plain, listed, bits-different, IsBit, bits-are, bit-holds}
use Rattle.bit_blast.proofs.DrawnBits.{drawn-each, FindsItself, finds-itself}

-- ---- it is a model

length-values : (g : Term → Bool) (f : Symbol) (i n : ℕ) → length (map g (bits_from f i n)) ≡ n
length-values g f i zero = refl
length-values g f i (suc n) = ap suc (length-values g f (suc i) n)

value-at : (g : Term → Bool) (f : Symbol) (i n j : ℕ) → j < n → get_or (map g (bits_from f i n)) j false ≡ g (bit_of f (i + j))
value-at g f i zero j less = absurd (omega arith)
value-at g f i (suc n) zero less = ap (λ k. g (bit_of f k)) place
  where
    place : i ≡ i + 0
    place = omega arith
value-at g f i (suc n) (suc j) less = value-at g f (suc i) n j (omega arith) ∙ ap (λ k. g (bit_of f k)) place
  where
    place : suc i + j ≡ i + suc j
    place = omega arith

-- the graph that is one value of the symbol's sort
pub everywhere-valid : (f : Symbol) (v : Value) → is_value f.result (λ s. 1) v ≡ true → is_graph f (λ s. 1) (everywhere v) ≡ true
everywhere-valid f v valid = and_true (is_value f.result (λ s. 1) v) true valid refl

lifted-valid : (ns : Named) (m : Model) (f : Symbol) → IsModel m → is_value f.result (λ s. 1) (lifted_value ns m f f.args f.result) ≡ true
lifted-valid ns m f model = go f.args f.result (is_value-symbol m f [] model)
  where
    ones : (s : Name) → 0 < 1
    ones s = omega arith

    go : (ss : List Sort) (s : Sort) → is_value s m.sizes (symbol_value m f []) ≡ true → is_value s (λ r. 1) (lifted_value ns m f ss s) ≡ true
    go [] bool valid = valid
    go [] (bit_vector w) valid = (Decides-eqb _ w).1 (length-values (λ u. bit_value m (constant_for ns u)) f 0 w)
    go _ s valid = is_value-default s (λ r. 1) ones

lifted-model : (symbols : List Symbol) (ns : Named) (m : Model) → IsModel m → IsModel (lifted symbols ns m)
lifted-model symbols ns m model = record {
  sizes = λ s. omega arith;
  graphs = λ f. go f (list_any (symbol_eq f) symbols);
  div_by_zero = refl;
  mod_by_zero = refl;
}
  where
    go : (f : Symbol) (b : Bool) → IfSome (cond b (Some (everywhere (lifted_value ns m f f.args f.result))) None) (λ g. IsTrue (is_graph f (λ s. 1) g))
    go f true = everywhere-valid f (lifted_value ns m f f.args f.result) (lifted-valid ns m f model)
    go f false = tt

-- ---- it reads the same bits

-- what a symbol of the list is
lifted-symbol : (symbols : List Symbol) (ns : Named) (m : Model) (f : Symbol) → list_any (symbol_eq f) symbols ≡ true → symbol_value (lifted symbols ns m) f [] ≡ lifted_value ns m f f.args f.result
lifted-symbol symbols ns m f there = ap (λ b. graph_or_default f (λ s. 1) (cond b (Some (everywhere (lifted_value ns m f f.args f.result))) None) []) there

lifted-vector : (symbols : List Symbol) (ns : Named) (m : Model) (f : Symbol) (w : ℕ) → list_any (symbol_eq f) symbols ≡ true → f.args ≡ [] → f.result ≡ bit_vector w
    → symbol_value (lifted symbols ns m) f [] ≡ bits (map (λ u. bit_value m (constant_for ns u)) (bits_from f 0 w))
lifted-vector symbols ns m f w there args result = lifted-symbol symbols ns m f there ∙ (λ i. lifted_value ns m f (args i) (result i))

lifted-bit : (symbols fs : List Symbol) (ns : Named) (m : Model) → are_among symbols fs ≡ true → (p : Symbol × Term) → IsBit fs p.1 → FindsItself ns p → is_true (symbol_value m p.0 []) ≡ holds (lifted symbols ns m) p.1
lifted-bit symbols fs ns m all p b found =
    sym (ap (bit_value m) (ap (constant_for ns) (sym b.is) ∙ found))
    ∙ ap (λ k. value (bit_of b.constant k)) place
    ∙ sym (value-at value b.constant 0 b.width b.place b.below)
    ∙ sym (bit-holds fs (lifted symbols ns m) p.1 b (map value (bits_from b.constant 0 b.width))
    (lifted-vector symbols ns m b.constant b.width (listed symbols fs b.constant all b.among) b.args b.result)
    (length-values value b.constant 0 b.width))
  where
    value : Term → Bool
    value u = bit_value m (constant_for ns u)

    place : b.place ≡ 0 + b.place
    place = omega arith

lifted-flag : (roots : List Term) (s : Supply) (symbols : List Symbol) (ns : Named) (m : Model) → AreBlastable roots s → are_among symbols (free_of (terms roots)) ≡ true
    → (f : Symbol) → is_among (free_of (terms roots)) f ≡ true → f.result ≡ bool → is_true (symbol_value m f []) ≡ is_true (symbol_value (lifted symbols ns m) f [])
lifted-flag roots s symbols ns m blastable all f among flag =
    ap is_true (sym (lifted-symbol symbols ns m f (listed symbols (free_of (terms roots)) f all among) ∙ (λ i. lifted_value ns m f (args i) (flag i))))
  where
    args : f.args ≡ []
    args = (symbols-plain roots s blastable f among).constant.args

pub lifts : BlastLifts
lifts roots s symbols m blastable all model = (
  lifted-model symbols (blasted roots s).group.symbols m model,
  record {
    flags = lifted-flag roots s symbols (blasted roots s).group.symbols m blastable all;
    bits = λ k d lt. lifted-bit symbols (free_of (terms roots)) (blasted roots s).group.symbols m all _ (are k d lt) (found k d lt);
  },
)
  where
    us : List Term
    us = flat_map bits_of_constant (vector_constants roots)

    are : All (λ (p : Symbol × Term). IsBit (free_of (terms roots)) p.1) (blasted roots s).group.symbols
    are = drawn-each (λ (p : Symbol × Term). IsBit (free_of (terms roots)) p.1) (IsBit (free_of (terms roots))) (λ t r b. b) us s (bits-are roots s blastable)

    found : All (FindsItself (blasted roots s).group.symbols) (blasted roots s).group.symbols
    found = finds-itself us s (bits-different roots)
