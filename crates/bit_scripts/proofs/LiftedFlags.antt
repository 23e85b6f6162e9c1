-- Truth values that are lifted one after the other, and the model that this leads to.
use Rattle.std.proofs.Common.{◌≡◌, ◌∙◌, sym, ap, refl, ℕ, zero, suc, Bool, true, false, cond, ◌&&◌, ◌||◌, List, [], ◌∷◌, ◌++◌, map, Option, Some, None, if◌then◌else◌}
use Rattle.std.specs.List.{list_any}
use Rattle.std.proofs.lemmas.List.Folds.{list_any-append}
use Rattle.smt_terms.specs.BitVectors.{zeros}
use Rattle.smt_terms.specs.Equal.{symbol_eq}
use Rattle.smt_terms.specs.Models.{Graph, Model, IsModel, symbol_value}
use Rattle.smt_terms.specs.Sorts.{Sort, bool, int, bit_vector, array, free_sort, Symbol}
use Rattle.smt_terms.specs.Values.{truth, bits, is_true, is_value, default_value}
use Rattle.smt_terms.proofs.Equal.{Decides-symbol_eq}
use Rattle.smt_terms.proofs.Valid.{is_value-symbol}
use Rattle.script_read.specs.Commands.{Signature}
use Rattle.models.specs.GraphRows.{constant_graph, default_graph}
use Rattle.models.specs.ModelView.{default_model, with_graph}
use Rattle.bit_blast.specs.Blasted.{bits_from}
use Rattle.bit_blast.specs.Carried.{everywhere, bit_value, lifted_value, lifted}
use Rattle.bit_scripts.specs.Lifting.{with_flags}
use Rattle.models.specs.LiveRoots.{is_flag_over, is_flag}
use Rattle.bit_scripts.proofs.ModelTruths.{truth_read}

-- the model n with these functions
abbrev with_graphs : Model → (Symbol → Option Graph) → Model
with_graphs n graphs = record { sizes = n.sizes; graphs = graphs; div_by_zero = n.div_by_zero; mod_by_zero = n.mod_by_zero }

flag_sort : (args : List Sort) (s : Sort) → is_flag_over args s ≡ true → s ≡ bool
flag_sort [] bool e = refl
flag_sort [] int e = absurd cc
flag_sort [] (bit_vector w) e = absurd cc
flag_sort [] (free_sort n) e = absurd cc
flag_sort [] (array i s) e = absurd cc
flag_sort (a ∷ args) s e = absurd cc

-- a truth value without arguments has a truth value
pub flag_value : (m : Model) (f : Symbol) → IsModel m → is_flag f ≡ true → symbol_value m f [] ≡ truth (is_true (symbol_value m f []))
flag_value m f valid flag =
    truth_read m.sizes (symbol_value m f [])
    (ap (λ s. is_value s m.sizes (symbol_value m f [])) (sym (flag_sort f.args f.result flag)) ∙ is_value-symbol m f [] valid)

-- ---- one symbol more

and_false : (a : Bool) → (a && false) ≡ false
and_false true = refl
and_false false = refl

pub no_flags : (m n : Model) → with_flags [] m n ≡ n
no_flags m n = λ i. with_graphs n (λ f. ap (λ b. cond b (Some (everywhere (symbol_value m f []))) (n.graphs f)) (and_false (is_flag f)) i)

among_last : (h f : Symbol) (fs : List Symbol) (b : Bool) → symbol_eq h f ≡ b → list_any (symbol_eq h) (fs ++ f ∷ []) ≡ (list_any (symbol_eq h) fs || b)
among_last h f fs b e = list_any-append (symbol_eq h) fs (f ∷ []) ∙ ap (λ c. list_any (symbol_eq h) fs || c) (or_none (symbol_eq h f) ∙ e)
  where
    or_none : (c : Bool) → (c || false) ≡ c
    or_none true = refl
    or_none false = refl

or_true : (a : Bool) → (a || true) ≡ true
or_true true = refl
or_true false = refl

or_false_right : (a : Bool) → (a || false) ≡ a
or_false_right true = refl
or_false_right false = refl

module _ (fs : List Symbol) (f : Symbol) (m n : Model) where
  abbrev flagged : Bool → Symbol → Option Graph
  flagged among h = cond (is_flag h && among) (Some (everywhere (symbol_value m h []))) (n.graphs h)

  -- a truth value gets what m has for it
  pub flag_more : IsModel m → is_flag f ≡ true → with_graph f (Some (constant_graph (truth (is_true (symbol_value m f []))))) (with_flags fs m n) ≡ with_flags (fs ++ f ∷ []) m n
  flag_more valid flag = λ i. with_graphs n (λ h. at h (symbol_eq h f) refl i)
    where
      at : (h : Symbol) (b : Bool) → symbol_eq h f ≡ b
          → cond (symbol_eq h f) (Some (everywhere (truth (is_true (symbol_value m f []))))) (flagged (list_any (symbol_eq h) fs) h) ≡ flagged (list_any (symbol_eq h) (fs ++ f ∷ [])) h
      at h true e =
          let same : f ≡ h = sym ((Decides-symbol_eq h f).0 e) in
          ap (λ b. cond b (Some (everywhere (truth (is_true (symbol_value m f []))))) (flagged (list_any (symbol_eq h) fs) h)) e
          ∙ ap (λ v. Some (everywhere v)) (sym (flag_value m f valid flag) ∙ ap (λ g. symbol_value m g []) same)
          ∙ ap (λ b. cond (b && true) (Some (everywhere (symbol_value m h []))) (n.graphs h)) (sym flag ∙ ap is_flag same)
          ∙ ap (λ b. flagged b h) (sym (among_last h f fs true e ∙ or_true (list_any (symbol_eq h) fs)))
      at h false e =
          ap (λ b. cond b (Some (everywhere (truth (is_true (symbol_value m f []))))) (flagged (list_any (symbol_eq h) fs) h)) e
          ∙ ap (λ b. flagged b h) (sym (among_last h f fs false e ∙ or_false_right (list_any (symbol_eq h) fs)))

  -- other symbols stay
  pub other_more : is_flag f ≡ false → with_flags fs m n ≡ with_flags (fs ++ f ∷ []) m n
  other_more other = λ i. with_graphs n (λ h. at h (symbol_eq h f) refl i)
    where
      at : (h : Symbol) (b : Bool) → symbol_eq h f ≡ b → flagged (list_any (symbol_eq h) fs) h ≡ flagged (list_any (symbol_eq h) (fs ++ f ∷ [])) h
      at h true e =
          let none : is_flag h ≡ false = ap is_flag ((Decides-symbol_eq h f).0 e) ∙ other in
          ap (λ b. cond (b && list_any (symbol_eq h) fs) (Some (everywhere (symbol_value m h []))) (n.graphs h)) none
          ∙ ap (λ b. cond (b && list_any (symbol_eq h) (fs ++ f ∷ [])) (Some (everywhere (symbol_value m h []))) (n.graphs h)) (sym none)
      at h false e = ap (λ b. flagged b h) (sym (among_last h f fs false e ∙ or_false_right (list_any (symbol_eq h) fs)))

-- ---- all symbols

-- bits that have no constants are zeros
no_bits : (m : Model) (f : Symbol) (i w : ℕ) → zeros w ≡ map (λ u. bit_value m None) (bits_from f i w)
no_bits m f i zero = refl
no_bits m f i (suc w) = ap (λ bs. false ∷ bs) (no_bits m f (suc i) w)

-- without bits, each symbol has its default but for the truth values
pub flags_lifted : (sig : Signature) (m : Model) → with_flags sig.symbols m (default_model sig) ≡ lifted sig.symbols [] m
flags_lifted sig m = λ i. with_graphs (default_model sig) (λ f. at f (list_any (symbol_eq f) sig.symbols) i)
  where
    others : (f : Symbol) (args : List Sort) (s : Sort) → is_flag_over args s ≡ false → default_value s ≡ lifted_value [] m f args s
    others f [] bool e = absurd cc
    others f [] int e = refl
    others f [] (bit_vector w) e = ap bits (no_bits m f 0 w)
    others f [] (free_sort n) e = refl
    others f [] (array i s) e = refl
    others f (a ∷ args) s e = refl

    flags : (f : Symbol) (args : List Sort) (s : Sort) → is_flag_over args s ≡ true → symbol_value m f [] ≡ lifted_value [] m f args s
    flags f [] bool e = refl
    flags f [] int e = absurd cc
    flags f [] (bit_vector w) e = absurd cc
    flags f [] (free_sort n) e = absurd cc
    flags f [] (array i s) e = absurd cc
    flags f (a ∷ args) s e = absurd cc

    there : (f : Symbol) (b : Bool) → is_flag f ≡ b → cond (b && true) (Some (everywhere (symbol_value m f []))) (Some (default_graph f.result)) ≡ Some (everywhere (lifted_value [] m f f.args f.result))
    there f true e = ap (λ v. Some (everywhere v)) (flags f f.args f.result e)
    there f false e = ap (λ v. Some (everywhere v)) (others f f.args f.result e)

    at : (f : Symbol) (b : Bool) → cond (is_flag f && b) (Some (everywhere (symbol_value m f []))) (if b then Some (default_graph f.result) else None) ≡ cond b (Some (everywhere (lifted_value [] m f f.args f.result))) None
    at f true = there f (is_flag f) refl
    at f false = ap (λ c. cond c (Some (everywhere (symbol_value m f []))) None) (and_false (is_flag f))
