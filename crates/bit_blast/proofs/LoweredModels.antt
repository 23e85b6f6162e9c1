-- A model of the bit vectors gives a model of the truth values and of the new constants, which reads the same bits.
use Rattle.std.proofs.Common.{◌≡◌, ◌≢◌, Bool, true, false, cond, List, [], ◌∷◌, flat_map, Option, Some, None, All, IfSome, IsTrue, unwrap_or, refl, ap, sym, ◌∙◌, arith}
use Rattle.std.specs.List.{list_any}
use Rattle.std.proofs.lemmas.List.Elements.{All-nil, All-cons, All-head, All-tail}
use Rattle.smt_terms.specs.Equal.{symbol_eq}
use Rattle.smt_terms.specs.Free.{is_among, free_of}
use Rattle.smt_terms.specs.Fresh.{Supply, next_name, after_draw, fresh_constant}
use Rattle.smt_terms.specs.Groups.{Named, draw_each}
use Rattle.smt_terms.specs.Models.{Graph, Model, IsModel, graph_or_default, symbol_value, is_graph}
use Rattle.smt_terms.specs.Rank.{sort_of}
use Rattle.smt_terms.specs.Sorts.{Sort, bool, Symbol}
use Rattle.smt_terms.specs.Term.{Term, terms}
use Rattle.smt_terms.specs.Val.{no_variables, val}
use Rattle.smt_terms.specs.Values.{is_true, is_value}
use Rattle.smt_terms.proofs.Equal.{symbol_itself, Decides-symbol_eq}
use Rattle.smt_terms.proofs.Fresh.{never-drawn}
use Rattle.smt_terms.proofs.Valid.{is_value-symbol, val_valid}
use Rattle.bit_blast.specs.Blasted.{bits_of_constant, vector_constants, blasted}
use Rattle.bit_blast.specs.Carried.{everywhere, kept_flag, lowered_graph, lowered}
use Rattle.bit_blast.specs.Laws.{holds, AreBlastable, are_among, BlastLowers}
use Rattle.bit_blast.proofs.BitsOfConstants.{IsPlain, symbols-plain, listed, IsBit, bits-are, bit-sorted}
use Rattle.bit_blast.proofs.DrawnBits.{drawn-each, IsNamedElse, drawn-new, other-symbol}
use Rattle.bit_blast.proofs.LiftedModels.{everywhere-valid}

-- ---- it is a model

abbrev IsValid : Symbol → Option Graph → Type 0
IsValid f o = IfSome o (λ g. IsTrue (is_graph f (λ s. 1) g))

-- a new constant is a flag, and its term is a truth value
record IsFlag (p : Symbol × Term) : Type 0 where
  result : p.0.result ≡ bool
  sort : sort_of p.1 ≡ Some bool

kept-valid : (symbols : List Symbol) (n : Model) (f : Symbol) → IsModel n → IsValid f (kept_flag symbols n f f.args f.result)
kept-valid symbols n f model = go f.args f.result refl (is_value-symbol n f [] model)
  where
    listed_or_not : (b : Bool) → f.result ≡ bool → is_value f.result n.sizes (symbol_value n f []) ≡ true → IsValid f (cond b (Some (everywhere (symbol_value n f []))) None)
    listed_or_not true flag valid = everywhere-valid f (symbol_value n f []) (ap (λ s. is_value s (λ r. 1) (symbol_value n f [])) flag ∙ sym (ap (λ s. is_value s n.sizes (symbol_value n f [])) flag) ∙ valid)
    listed_or_not false flag valid = tt

    go : (ss : List Sort) (s : Sort) → f.result ≡ s → is_value f.result n.sizes (symbol_value n f []) ≡ true → IsValid f (kept_flag symbols n f ss s)
    go [] bool flag valid = listed_or_not (list_any (symbol_eq f) symbols) flag valid
    go _ _ is valid = tt

flag-valid : (n : Model) (p : Symbol × Term) (f : Symbol) → IsModel n → IsFlag p → symbol_eq p.0 f ≡ true → is_value f.result (λ s. 1) (val n p.1 no_variables) ≡ true
flag-valid n p f model flag same =
    ap (λ s. is_value s (λ r. 1) (val n p.1 no_variables)) (ap (λ (g : Symbol). g.result) (sym ((Decides-symbol_eq p.0 f).0 same)) ∙ flag.result)
    ∙ val_valid p.1 bool n no_variables model (λ g. tt) flag.sort

graph-valid : (symbols : List Symbol) (ns : Named) (n : Model) (f : Symbol) → IsModel n → All IsFlag ns → IsValid f (lowered_graph symbols ns n f)
graph-valid symbols [] n f model flags = kept-valid symbols n f model
graph-valid symbols (p ∷ ns) n f model flags = go (symbol_eq p.0 f) refl (graph-valid symbols ns n f model (All-tail IsFlag p ns flags))
  where
    go : (b : Bool) → symbol_eq p.0 f ≡ b → IsValid f (lowered_graph symbols ns n f) → IsValid f (cond b (Some (everywhere (val n p.1 no_variables))) (lowered_graph symbols ns n f))
    go true same behind = everywhere-valid f (val n p.1 no_variables) (flag-valid n p f model (All-head IsFlag p ns flags) same)
    go false other behind = behind

lowered-model : (symbols : List Symbol) (ns : Named) (n : Model) → IsModel n → All IsFlag ns → IsModel (lowered symbols ns n)
lowered-model symbols ns n model flags = record {
  sizes = λ s. omega arith;
  graphs = λ f. graph-valid symbols ns n f model flags;
  div_by_zero = refl;
  mod_by_zero = refl;
}

-- ---- it reads the same bits

abbrev HasItsValue : List Symbol → Named → Model → Symbol × Term → Type 0
HasItsValue symbols ns n p = lowered_graph symbols ns n p.0 ≡ Some (everywhere (val n p.1 no_variables))

value-behind : (symbols : List Symbol) (q : Symbol × Term) (ns : Named) (n : Model) (p : Symbol × Term) → p.0.name ≢ q.0.name → HasItsValue symbols ns n p → HasItsValue symbols (q ∷ ns) n p
value-behind symbols q ns n p apart found =
    ap (λ b. cond b (Some (everywhere (val n q.1 no_variables))) (lowered_graph symbols ns n p.0)) (other-symbol q.0 p.0 (λ e. apart (sym e))) ∙ found

-- each new constant is what its term is in n
drawn-values : (symbols : List Symbol) (n : Model) (ts : List Term) (s : Supply) → All (HasItsValue symbols (draw_each ts s).symbols n) (draw_each ts s).symbols
drawn-values symbols n [] s = All-nil (HasItsValue symbols [] n)
drawn-values symbols n (t ∷ ts) s =
    All-cons (HasItsValue symbols (draw_each (t ∷ ts) s).symbols n) (c, t) rest
    (ap (λ b. cond b (Some (everywhere (val n t no_variables))) (lowered_graph symbols rest n c)) (symbol_itself c))
    (λ k d lt. value-behind symbols (c, t) rest n _ (drawn-new ts (after_draw s) (next_name s) (never-drawn s) k d lt) (drawn-values symbols n ts (after_draw s) k d lt))
  where
    c : Symbol
    c = fresh_constant (unwrap_or (sort_of t) bool) s

    rest : Named
    rest = (draw_each ts (after_draw s)).symbols

lowered-bit : (symbols : List Symbol) (ns : Named) (n : Model) (p : Symbol × Term) → HasItsValue symbols ns n p → is_true (symbol_value (lowered symbols ns n) p.0 []) ≡ holds n p.1
lowered-bit symbols ns n p found = ap (λ o. is_true (graph_or_default p.0 (λ r. 1) o [])) found

-- a symbol that isn't new is kept if it is a flag
not-drawn : (symbols : List Symbol) (ns : Named) (n : Model) (f : Symbol) → All (IsNamedElse f.name) ns → lowered_graph symbols ns n f ≡ kept_flag symbols n f f.args f.result
not-drawn symbols [] n f others = refl
not-drawn symbols (p ∷ ns) n f others =
    ap (λ b. cond b (Some (everywhere (val n p.1 no_variables))) (lowered_graph symbols ns n f)) (other-symbol p.0 f (All-head (IsNamedElse f.name) p ns others))
    ∙ not-drawn symbols ns n f (All-tail (IsNamedElse f.name) p ns others)

lowered-flag : (roots : List Term) (s : Supply) (symbols : List Symbol) (n : Model) (us : List Term) → AreBlastable roots s → are_among symbols (free_of (terms roots)) ≡ true
    → (f : Symbol) → is_among (free_of (terms roots)) f ≡ true → f.result ≡ bool → is_true (symbol_value (lowered symbols (draw_each us s).symbols n) f []) ≡ is_true (symbol_value n f [])
lowered-flag roots s symbols n us blastable all f among flag =
    ap (λ o. is_true (graph_or_default f (λ r. 1) o []))
    (not-drawn symbols (draw_each us s).symbols n f (drawn-new us s f.name plain.never)
    ∙ (λ i. kept_flag symbols n f (plain.constant.args i) (flag i))
    ∙ ap (λ b. cond b (Some (everywhere (symbol_value n f []))) None) (listed symbols (free_of (terms roots)) f all among))
  where
    plain : IsPlain s f
    plain = symbols-plain roots s blastable f among

pub lowers : BlastLowers
lowers roots s symbols n blastable all model = (
  lowered-model symbols (blasted roots s).group.symbols n model flags,
  record {
    flags = lowered-flag roots s symbols n us blastable all;
    bits = λ k d lt. lowered-bit symbols (blasted roots s).group.symbols n _ (drawn-values symbols n us s k d lt);
  },
)
  where
    us : List Term
    us = flat_map bits_of_constant (vector_constants roots)

    flag : (t : Term) (r : Supply) → IsBit (free_of (terms roots)) t → IsFlag (fresh_constant (unwrap_or (sort_of t) bool) r, t)
    flag t r b = record { result = ap (λ o. unwrap_or o bool) (bit-sorted (free_of (terms roots)) t b); sort = bit-sorted (free_of (terms roots)) t b }

    flags : All IsFlag (blasted roots s).group.symbols
    flags = drawn-each IsFlag (IsBit (free_of (terms roots))) flag us s (bits-are roots s blastable)
