-- Bit vectors that are lifted from their bits, from the last bit back to the first.
use Rattle.std.proofs.Common.{◌≡◌, ◌∙◌, sym, ap, refl, ℕ, zero, suc, ◌+◌, ◌*◌, ◌≤◌, Bool, true, false, cond, List, [], ◌∷◌, ◌++◌, map, take, drop, length, All, Option, Some, None, arith}
use Rattle.std.specs.Prelude.{flat_map}
use Rattle.std.specs.List.{list_any}
use Rattle.std.proofs.lemmas.List.{length-map, take-append-drop}
use Rattle.std.proofs.lemmas.List.Elements.{All-head, All-tail}
use Rattle.smt_terms.specs.declared.op.Op.TheVariants.{Extract}
use Rattle.smt_terms.specs.BitVectors.{bit_number, bv2nat, nat2bv}
use Rattle.smt_terms.specs.Equal.{symbol_eq, term_eq}
use Rattle.smt_terms.specs.Groups.{Named, constant_for}
use Rattle.smt_terms.specs.Models.{Graph, Model, symbol_value}
use Rattle.smt_terms.specs.Sorts.{Sort, bool, int, bit_vector, array, free_sort, Symbol}
use Rattle.smt_terms.specs.Term.{op, symbol, Term, apply, ◌⨾◌}
use Rattle.smt_terms.specs.Values.{bits, is_true}
use Rattle.smt_terms.proofs.BitLaws.{at_width}
use Rattle.smt_terms.proofs.Equal.{Decides-symbol_eq, Decides-term_eq}
use Rattle.smt_terms.proofs.Tests.{contrary}
use Rattle.term_groups.specs.Grouping.{terms_of}
use Rattle.bit_blast.specs.Blasted.{bit_of, bits_from, width_of, bits_of_constant}
use Rattle.bit_blast.specs.Carried.{everywhere, zero_everywhere, bit_value, lifted_value, lifted}
use Rattle.bit_scripts.specs.Lifting.{with_vector}
use Rattle.bit_scripts.proofs.BitRuns.{same_bit, HasNoArguments}

-- the place of a bit, and its constant
abbrev pub place_of : Term → ℕ
place_of (apply h (apply (op (Extract high low)) ts ⨾ us)) = low
place_of _ = 0

abbrev no_vector : Symbol
no_vector = record { name = []; args = []; result = bool }

abbrev pub vector_of : Term → Symbol
vector_of (apply h (apply g (apply (symbol f) ts ⨾ us) ⨾ vs)) = f
vector_of _ = no_vector

-- a model that has the bit vectors behind a place, and the number of the bits so far
pub record Lifting : Type 0 where
  pub model : Model
  pub number : ℕ

-- one bit more of a constant, which is complete with its lowest one
abbrev pub with_bit : ℕ → Symbol → ℕ → Model → Lifting
with_bit zero f number n = record { model = with_vector f number n; number = 0 }
with_bit (suc i) f number n = record { model = n; number = number }

other_term : (t u : Term) → (t ≡ u → ⊥) → term_eq t u ≡ false
other_term t u apart = go (term_eq t u) refl
  where
    go : (b : Bool) → term_eq t u ≡ b → b ≡ false
    go true e = absurd (apart ((Decides-term_eq t u).0 e))
    go false e = refl

module _ (symbols : List Symbol) (m : Model) where
  -- the bit that a new constant is
  abbrev pub bit_in : Symbol × Term → Bool
  bit_in p = is_true (symbol_value m p.0 [])

  abbrev pub next : Symbol × Term → Lifting → Lifting
  next p l = with_bit (place_of p.1) (vector_of p.1) (bit_number (bit_in p) + 2 * l.number) l.model

  abbrev pub lifting : Named → Lifting
  lifting [] = record { model = lifted symbols [] m; number = 0 }
  lifting (p ∷ ns) = next p (lifting ns)

  -- ---- the constants of bits

  found_behind : (p : Symbol × Term) (ns : Named) (u : Term) → (p.1 ≡ u → ⊥) → constant_for (p ∷ ns) u ≡ constant_for ns u
  found_behind p ns u apart = ap (λ b. cond b (Some p.0) (constant_for ns u)) (other_term p.1 u apart)

  -- what isn't a bit of this constant has its own behind the bits
  others_found : (run rest : Named) (f : Symbol) (i n : ℕ) (u : Term) → terms_of run ≡ bits_from f i n → ((j : ℕ) → bit_of f j ≡ u → ⊥) → constant_for (run ++ rest) u ≡ constant_for rest u
  others_found [] rest f i n u e apart = refl
  others_found (p ∷ run) rest f i zero u e apart = absurd cc
  others_found (p ∷ run) rest f i (suc n) u e apart =
      let first : p.1 ≡ bit_of f i = cc in
      let behind : terms_of run ≡ bits_from f (suc i) n = cc in
      found_behind p (run ++ rest) u (λ same. apart i (sym first ∙ same)) ∙ others_found run rest f (suc i) n u behind apart

  map_bits : (g h : Term → Bool) (f : Symbol) (i n : ℕ) → ((j : ℕ) → i ≤ j → g (bit_of f j) ≡ h (bit_of f j)) → map g (bits_from f i n) ≡ map h (bits_from f i n)
  map_bits g h f i zero same = refl
  map_bits g h f i (suc n) same = let first = same i (omega arith) in let rest = map_bits g h f (suc i) n (λ j le. same j (omega (arith, le))) in λ k. first k ∷ rest k

  abbrev told_in : Named → Term → Bool
  told_in ns u = bit_value m (constant_for ns u)

  -- each bit of this constant has the next one
  own_found : (run rest : Named) (f : Symbol) (i n : ℕ) → terms_of run ≡ bits_from f i n → map (told_in (run ++ rest)) (bits_from f i n) ≡ map bit_in run
  own_found [] rest f i zero e = refl
  own_found [] rest f i (suc n) e = absurd cc
  own_found (p ∷ run) rest f i zero e = absurd cc
  own_found (p ∷ run) rest f i (suc n) e =
      let first : p.1 ≡ bit_of f i = cc in
      let behind : terms_of run ≡ bits_from f (suc i) n = cc in
      let here : told_in (p ∷ run ++ rest) (bit_of f i) ≡ bit_in p =
      ap (λ b. bit_value m (cond b (Some p.0) (constant_for (run ++ rest) (bit_of f i)))) ((Decides-term_eq p.1 (bit_of f i)).1 first) in
      let there : map (told_in (p ∷ run ++ rest)) (bits_from f (suc i) n) ≡ map bit_in run =
      map_bits (told_in (p ∷ run ++ rest)) (told_in (run ++ rest)) f (suc i) n
      (λ j le. ap (bit_value m) (found_behind p (run ++ rest) (bit_of f j) (λ same. omega (arith, le, (same_bit f f i j (sym first ∙ same)).place))))
      ∙ own_found run rest f (suc i) n behind in
      λ k. here k ∷ there k

  -- ---- a bit vector more

  -- a declared constant of a bit vector, which has no arguments where it has bits
  pub record IsOwn (f : Symbol) : Type 0 where
    pub vector : f.result ≡ bit_vector (width_of f.result)
    pub args : HasNoArguments f
    pub among : list_any (symbol_eq f) symbols ≡ true

  abbrev graph_with : Named → Symbol → Option Graph
  graph_with ns h = cond (list_any (symbol_eq h) symbols) (Some (everywhere (lifted_value ns m h h.args h.result))) None

  own_value : (f : Symbol) (args : List Sort) (s : Sort) (w : ℕ) (run rest : Named) → args ≡ [] → s ≡ bit_vector w → terms_of run ≡ bits_from f 0 w → lifted_value (run ++ rest) m f args s ≡ bits (map bit_in run)
  own_value f args s w run rest none_of vector e =
      (λ i. lifted_value (run ++ rest) m f (none_of i) (vector i)) ∙ ap bits (own_found run rest f 0 w e)

  other_value : (f h : Symbol) (args : List Sort) (s : Sort) (n : ℕ) (run rest : Named) → (f ≡ h → ⊥) → terms_of run ≡ bits_from f 0 n → lifted_value rest m h args s ≡ lifted_value (run ++ rest) m h args s
  other_value f h [] bool n run rest apart e = refl
  other_value f h [] int n run rest apart e = refl
  other_value f h [] (bit_vector w) n run rest apart e =
      ap bits (sym (map_bits (told_in (run ++ rest)) (told_in rest) h 0 w (λ j le. ap (bit_value m) (others_found run rest f 0 n (bit_of h j) e (λ k same. apart (same_bit f h k j same).constant)))))
  other_value f h [] (free_sort k) n run rest apart e = refl
  other_value f h [] (array i s) n run rest apart e = refl
  other_value f h (a ∷ args) s n run rest apart e = refl

  with_run : (f : Symbol) (w number : ℕ) (run rest : Named) → IsOwn f → width_of f.result ≡ suc w → terms_of run ≡ bits_of_constant f → nat2bv (width_of f.result) number ≡ map bit_in run
      → with_vector f number (lifted symbols rest m) ≡ lifted symbols (run ++ rest) m
  with_run f w number run rest own wide e is = λ i. record { sizes = λ s. 1; graphs = λ h. at h (symbol_eq h f) refl i; div_by_zero = zero_everywhere; mod_by_zero = zero_everywhere }
    where
      at : (h : Symbol) (b : Bool) → symbol_eq h f ≡ b → cond (symbol_eq h f) (Some (everywhere (bits (nat2bv (width_of f.result) number)))) (graph_with rest h) ≡ graph_with (run ++ rest) h
      at h true same =
          ap (λ b. cond b (Some (everywhere (bits (nat2bv (width_of f.result) number)))) (graph_with rest h)) same
          ∙ ap (λ bs. Some (everywhere (bits bs))) is
          ∙ ap (λ v. Some (everywhere v)) (sym (own_value f f.args f.result (width_of f.result) run rest (own.args w wide) own.vector e))
          ∙ ap (λ b. cond b (Some (everywhere (lifted_value (run ++ rest) m f f.args f.result))) None) (sym own.among)
          ∙ ap (graph_with (run ++ rest)) (sym ((Decides-symbol_eq h f).0 same))
      at h false other =
          ap (λ b. cond b (Some (everywhere (bits (nat2bv (width_of f.result) number)))) (graph_with rest h)) other
          ∙ ap (λ v. cond (list_any (symbol_eq h) symbols) (Some (everywhere v)) None)
          (other_value f h h.args h.result (width_of f.result) run rest (λ same. contrary (symbol_eq h f) ((Decides-symbol_eq h f).1 (sym same)) other) e)

  -- ---- all bits behind a place

  -- the first bits make the number, and the bits behind them are lifted
  pub record IsLifted (q : ℕ) (ns : Named) : Type 0 where
    pub number : (lifting ns).number ≡ bv2nat (map bit_in (take q ns))
    pub model : (lifting ns).model ≡ lifted symbols (drop q ns) m

  pub one_more : (p : Symbol × Term) (ns : Named) (f : Symbol) (i : ℕ) → p.1 ≡ bit_of f i → lifting (p ∷ ns) ≡ with_bit i f (bit_number (bit_in p) + 2 * (lifting ns).number) (lifting ns).model
  one_more p ns f i e = ap (λ t. with_bit (place_of t) (vector_of t) (bit_number (bit_in p) + 2 * (lifting ns).number) (lifting ns).model) e

  pub run_lifted : (f : Symbol) (i q : ℕ) (fs : List Symbol) → ((ns : Named) → terms_of ns ≡ flat_map bits_of_constant fs → IsLifted 0 ns)
      → (ns : Named) → terms_of ns ≡ bits_from f (suc i) q ++ flat_map bits_of_constant fs → IsLifted q ns
  run_lifted f i zero fs all ns e = all ns e
  run_lifted f i (suc q) fs all [] e = absurd cc
  run_lifted f i (suc q) fs all (p ∷ ns) e =
      let first : p.1 ≡ bit_of f (suc i) = cc in
      let behind : terms_of ns ≡ bits_from f (suc (suc i)) q ++ flat_map bits_of_constant fs = cc in
      let rest = run_lifted f (suc i) q fs all ns behind in
      let more = one_more p ns f (suc i) first in
      record {
        number = ap (λ (l : Lifting). l.number) more ∙ ap (λ n. bit_number (bit_in p) + 2 * n) rest.number;
        model = ap (λ (l : Lifting). l.model) more ∙ rest.model;
      }

  run_terms : (f : Symbol) (i n : ℕ) (ts : List Term) (ns : Named) → terms_of ns ≡ bits_from f i n ++ ts → terms_of (take n ns) ≡ bits_from f i n
  run_terms f i zero ts ns e = refl
  run_terms f i (suc n) ts [] e = absurd cc
  run_terms f i (suc n) ts (p ∷ ns) e =
      let first : p.1 ≡ bit_of f i = cc in
      let behind : terms_of ns ≡ bits_from f (suc i) n ++ ts = cc in
      let rest = run_terms f (suc i) n ts ns behind in
      λ k. first k ∷ rest k

  length_bits : (f : Symbol) (i n : ℕ) → length (bits_from f i n) ≡ n
  length_bits f i zero = refl
  length_bits f i (suc n) = ap suc (length_bits f (suc i) n)

  -- bits of which the lowest stands first here
  first_lifted : (f : Symbol) (w : ℕ) (ts : List Term) (p : Symbol × Term) (ns : Named) → IsOwn f → width_of f.result ≡ suc w → p.1 ≡ bit_of f 0 → terms_of ns ≡ bits_from f 1 w ++ ts → IsLifted w ns → IsLifted 0 (p ∷ ns)
  first_lifted f w ts p ns own wide first behind rest = record {
    number = ap (λ (l : Lifting). l.number) more;
    model =
        ap (λ (l : Lifting). l.model) more
        ∙ (λ i. with_vector f (number i) (rest.model i))
        ∙ with_run f w (bv2nat (map bit_in run)) run (drop w ns) own wide terms value
        ∙ ap (λ ms. lifted symbols (p ∷ ms) m) (take-append-drop w ns);
  }
    where
      run : Named
      run = p ∷ take w ns

      more : lifting (p ∷ ns) ≡ with_bit 0 f (bit_number (bit_in p) + 2 * (lifting ns).number) (lifting ns).model
      more = one_more p ns f 0 first

      number : bit_number (bit_in p) + 2 * (lifting ns).number ≡ bv2nat (map bit_in run)
      number = ap (λ n. bit_number (bit_in p) + 2 * n) rest.number

      terms : terms_of run ≡ bits_of_constant f
      terms = (λ i. first i ∷ run_terms f 1 w ts ns behind i) ∙ ap (bits_from f 0) (sym wide)

      long : length (map bit_in run) ≡ width_of f.result
      long = length-map run bit_in ∙ sym (length-map run (λ (q : Symbol × Term). q.1)) ∙ ap length terms ∙ length_bits f 0 (width_of f.result)

      value : nat2bv (width_of f.result) (bv2nat (map bit_in run)) ≡ map bit_in run
      value = at_width (width_of f.result) (map bit_in run) long

  pub all_lifted : (fs : List Symbol) → All IsOwn fs → (ns : Named) → terms_of ns ≡ flat_map bits_of_constant fs → IsLifted 0 ns
  all_lifted [] own [] e = record { number = refl; model = refl }
  all_lifted [] own (p ∷ ns) e = absurd cc
  all_lifted (f ∷ fs) own ns e = go (width_of f.result) refl ns e (all_lifted fs (All-tail IsOwn f fs own))
    where
      go : (w : ℕ) → width_of f.result ≡ w → (ms : Named) → terms_of ms ≡ bits_from f 0 (width_of f.result) ++ flat_map bits_of_constant fs
          → ((ks : Named) → terms_of ks ≡ flat_map bits_of_constant fs → IsLifted 0 ks) → IsLifted 0 ms
      go zero wide ms is behind = behind ms (is ∙ ap (λ w. bits_from f 0 w ++ flat_map bits_of_constant fs) wide)
      go (suc w) wide [] is behind = let none_left : [] ≡ bit_of f 0 ∷ bits_from f 1 w ++ flat_map bits_of_constant fs = is ∙ ap (λ n. bits_from f 0 n ++ flat_map bits_of_constant fs) wide in absurd cc
      go (suc w) wide (p ∷ ms) is behind =
          let all : p.1 ∷ terms_of ms ≡ bit_of f 0 ∷ bits_from f 1 w ++ flat_map bits_of_constant fs = is ∙ ap (λ n. bits_from f 0 n ++ flat_map bits_of_constant fs) wide in
          let first : p.1 ≡ bit_of f 0 = cc in
          let later : terms_of ms ≡ bits_from f 1 w ++ flat_map bits_of_constant fs = cc in
          first_lifted f w (flat_map bits_of_constant fs) p ms (All-head IsOwn f fs own) wide first later (run_lifted f 0 w fs behind ms later)
