-- Models that truth values of constants stand for.
use Rattle.std.proofs.Common.{◌≡◌, ◌∙◌, sym, ap, refl, subst, ℕ, ◌+◌, ◌<◌, Bool, true, false, cond, not, ◌&&◌, ◌||◌, if◌then◌else◌, List, [], ◌∷◌, ◌++◌, map, length, get_or, take, All, Option, Some, None, ◌⊎◌, inl, inr, min, arith}
use Rattle.std.specs.Prelude.{is_some, IfSome, IsTrue, slice_get}
use Rattle.std.specs.List.{list_any}
use Rattle.std.proofs.lemmas.List.{take_more, map_more, length-take}
use Rattle.std.proofs.lemmas.List.Elements.{All-head, All-tail, All-get_or}
use Rattle.std.proofs.lemmas.Option.{get_or_from_slice_get}
use Rattle.smt_terms.specs.declared.ids.SymId.{SymId}
use Rattle.smt_terms.specs.Equal.{symbol_eq}
use Rattle.smt_terms.specs.Free.{is_among}
use Rattle.smt_terms.specs.Models.{Graph, Model, IsModelOver, is_graph, symbol_value, graph_or_default}
use Rattle.smt_terms.specs.Sorts.{Sort, bool, int, bit_vector, array, free_sort, Symbol}
use Rattle.smt_terms.specs.Values.{Sizes, truth, is_true, is_value, default_value}
use Rattle.smt_terms.proofs.Equal.{Decides-symbol_eq}
use Rattle.smt_terms.proofs.Tests.{both_true, both_false, either_true, not_true}
use Rattle.smt_terms.proofs.Valid.{is_value-default}
use Rattle.term_table.specs.Formulas.{Formulas, symbol_at, no_symbol}
use Rattle.script_read.specs.Commands.{Signature}
use Rattle.models.specs.GraphRows.{constant_graph, default_graph}
use Rattle.models.specs.ModelView.{default_model, with_graph}
use Rattle.models.specs.LiveRoots.{is_flag_over, is_flag}
use Rattle.dimacs_link.specs.AnswerModels.{AreFlags, value_of, given_graph, with_truths, answered, truths_in}
use Rattle.dimacs_link.specs.Constants.{are_distinct, constants_at, AreConstants}
use Rattle.dimacs_link.proofs.Numbering.{symmetric, none_before, take-constants, get_or-constants, length-constants}

-- ---- symbols among others

same_symbol : (f : Symbol) → symbol_eq f f ≡ true
same_symbol f = (Decides-symbol_eq f f).1 refl

-- what holds of each symbol of a list holds of one that is among them
of_among : (P : Symbol → Type 0) (fs : List Symbol) (f : Symbol) → All P fs → is_among fs f ≡ true → P f
of_among P [] f all among = absurd cc
of_among P (g ∷ fs) f all among = go (either_true (symbol_eq g f) (is_among fs f) among) (of_among P fs f (All-tail P g fs all))
  where
    go : (symbol_eq g f ≡ true) ⊎ (is_among fs f ≡ true) → (is_among fs f ≡ true → P f) → P f
    go (inl here) below = subst P ((Decides-symbol_eq g f).0 here) (All-head P g fs all)
    go (inr there) below = below there

among-any : (fs : List Symbol) (f : Symbol) → is_among fs f ≡ list_any (symbol_eq f) fs
among-any [] f = refl
among-any (g ∷ fs) f = ap (λ b. b || is_among fs f) (symmetric g f) ∙ ap (λ b. symbol_eq f g || b) (among-any fs f)

-- ---- the values that are given

value_among : (cs : List Symbol) (vs : List Bool) (f : Symbol) (v : Bool) → value_of cs vs f ≡ Some v → is_among cs f ≡ true
value_among [] vs f v e = absurd cc
value_among (c ∷ cs) [] f v e = absurd cc
value_among (c ∷ cs) (w ∷ vs) f v e = by (symbol_eq c f) e (value_among cs vs f v)
  where
    by : (b : Bool) → (if b then Some w else value_of cs vs f) ≡ Some v → (value_of cs vs f ≡ Some v → is_among cs f ≡ true) → (b || is_among cs f) ≡ true
    by true h rest = refl
    by false h rest = rest h

others_given : (c : Symbol) (w : Bool) (g : Symbol → Option Bool) (ds : List Symbol) → is_among ds c ≡ false → map (λ f. if symbol_eq c f then Some w else g f) ds ≡ map g ds
others_given c w g [] none = refl
others_given c w g (d ∷ ds) none =
    let parts = both_false (symbol_eq d c) (is_among ds c) none in
    ap (λ b. (if b then Some w else g d) ∷ map (λ f. if symbol_eq c f then Some w else g f) ds) (symmetric c d ∙ parts.0)
    ∙ ap (λ os. g d ∷ os) (others_given c w g ds parts.1)

all_given : (cs : List Symbol) (vs : List Bool) → are_distinct cs ≡ true → length vs ≡ length cs → map (value_of cs vs) cs ≡ map (λ v. Some v) vs
all_given [] [] distinct size = refl
all_given [] (v ∷ vs) distinct size = absurd (omega arith)
all_given (c ∷ cs) [] distinct size = absurd (omega arith)
all_given (c ∷ cs) (v ∷ vs) distinct size =
    let parts = both_true (not (is_among cs c)) (are_distinct cs) distinct in
    ap (λ b. (if b then Some v else value_of cs vs c) ∷ map (λ f. if symbol_eq c f then Some v else value_of cs vs f) cs) (same_symbol c)
    ∙ ap (λ os. Some v ∷ os) (others_given c v (value_of cs vs) cs (not_true (is_among cs c) parts.0) ∙ all_given cs vs parts.1 (omega arith))

by_values : (g : Symbol → Option Bool) (h : Symbol → Bool) → ((f : Symbol) (v : Bool) → g f ≡ Some v → h f ≡ v) → (cs : List Symbol) (vs : List Bool) → map g cs ≡ map (λ v. Some v) vs → map h cs ≡ vs
by_values g h says [] [] e = refl
by_values g h says [] (v ∷ vs) e = absurd cc
by_values g h says (c ∷ cs) [] e = absurd cc
by_values g h says (c ∷ cs) (v ∷ vs) e =
    let first : g c ≡ Some v = cc in
    let rest : map g cs ≡ map (λ w. Some w) vs = cc in
    ap (λ b. b ∷ map h cs) (says c v first) ∙ ap (λ bs. v ∷ bs) (by_values g h says cs vs rest)

-- ---- the model

flag_sort : (args : List Sort) (s : Sort) → is_flag_over args s ≡ true → s ≡ bool
flag_sort [] bool e = refl
flag_sort [] int e = absurd cc
flag_sort [] (bit_vector w) e = absurd cc
flag_sort [] (free_sort n) e = absurd cc
flag_sort [] (array i s) e = absurd cc
flag_sort (a ∷ args) s e = absurd cc

pub flag_value : (f : Symbol) (sizes : Sizes) (v : Bool) → is_flag f ≡ true → is_value f.result sizes (truth v) ≡ true
flag_value f sizes v flag = ap (λ s. is_value s sizes (truth v)) (flag_sort f.args f.result flag)

abbrev one_each : Sizes
one_each n = 1

and_true_right : (b : Bool) → b ≡ true → (b && true) ≡ true
and_true_right true e = refl
and_true_right false e = e

module _ (sig : Signature) (cs : List Symbol) (vs : List Bool) where
  value_there : (f : Symbol) (v : Bool) → value_of cs vs f ≡ Some v → is_true (symbol_value (answered sig cs vs) f []) ≡ v
  value_there f v e = ap (λ o. is_true (graph_or_default f one_each (given_graph o ((default_model sig).graphs f)) [])) e

  -- the truth values that were given are those of the constants
  pub truths_back : are_distinct cs ≡ true → length vs ≡ length cs → truths_in (answered sig cs vs) cs ≡ vs
  truths_back distinct size = by_values (value_of cs vs) (λ f. is_true (symbol_value (answered sig cs vs) f [])) value_there cs vs (all_given cs vs distinct size)

  module _ (flags : AreFlags sig.symbols cs) where
    default_fits : (f : Symbol) (b : Bool) → IfSome (if b then Some (default_graph f.result) else None) (λ g. IsTrue (is_graph f one_each g))
    default_fits f true = and_true_right (is_value f.result one_each (default_value f.result)) (is_value-default f.result one_each (λ n. omega arith))
    default_fits f false = tt

    graph_fits : (f : Symbol) (o : Option Bool) → value_of cs vs f ≡ o → IfSome (given_graph o ((default_model sig).graphs f)) (λ g. IsTrue (is_graph f one_each g))
    graph_fits f None e = default_fits f (list_any (symbol_eq f) sig.symbols)
    graph_fits f (Some v) e =
        and_true_right (is_value f.result one_each (truth v)) (flag_value f one_each v (of_among (λ g. is_flag g ≡ true) cs f flags.flags (value_among cs vs f v e)))

    there : (f : Symbol) (o : Option Bool) → value_of cs vs f ≡ o → is_some (given_graph o ((default_model sig).graphs f)) ≡ list_any (symbol_eq f) sig.symbols
    there f None e = by (list_any (symbol_eq f) sig.symbols)
      where
        by : (b : Bool) → is_some (if b then Some (default_graph f.result) else None) ≡ b
        by true = refl
        by false = refl
    there f (Some v) e = sym (sym (among-any sig.symbols f) ∙ of_among (λ g. is_among sig.symbols g ≡ true) cs f flags.among (value_among cs vs f v e))

    pub answered_over : IsModelOver sig.sorts sig.symbols (answered sig cs vs)
    answered_over = record {
      valid = record {
        sizes = λ n. omega arith;
        graphs = λ f. graph_fits f (value_of cs vs f) refl;
        div_by_zero = refl;
        mod_by_zero = refl;
      };
      graphs = λ f. there f (value_of cs vs f) refl;
      sizes = λ n _. refl;
    }

-- ---- a constant more

value_last : (cs : List Symbol) (vs : List Bool) (f h : Symbol) (v : Bool) → length vs ≡ length cs → symbol_eq f h ≡ false → value_of (cs ++ f ∷ []) (vs ++ v ∷ []) h ≡ value_of cs vs h
value_last [] [] f h v size other = ap (λ b. if b then Some v else None) other
value_last [] (w ∷ vs) f h v size other = absurd (omega arith)
value_last (c ∷ cs) [] f h v size other = absurd (omega arith)
value_last (c ∷ cs) (w ∷ vs) f h v size other = ap (λ o. if symbol_eq c h then Some w else o) (value_last cs vs f h v (omega arith) other)

value_new : (cs : List Symbol) (vs : List Bool) (f h : Symbol) (v : Bool) → length vs ≡ length cs → symbol_eq f h ≡ true → is_among cs h ≡ false → value_of (cs ++ f ∷ []) (vs ++ v ∷ []) h ≡ Some v
value_new [] [] f h v size same none = ap (λ b. if b then Some v else None) same
value_new [] (w ∷ vs) f h v size same none = absurd (omega arith)
value_new (c ∷ cs) [] f h v size same none = absurd (omega arith)
value_new (c ∷ cs) (w ∷ vs) f h v size same none =
    let parts = both_false (symbol_eq c h) (is_among cs h) none in
    ap (λ b. if b then Some w else value_of (cs ++ f ∷ []) (vs ++ v ∷ []) h) parts.0 ∙ value_new cs vs f h v (omega arith) same parts.1

abbrev with_graphs : Model → (Symbol → Option Graph) → Model
with_graphs m graphs = record { sizes = m.sizes; graphs = graphs; div_by_zero = m.div_by_zero; mod_by_zero = m.mod_by_zero }

pub one_given : (cs : List Symbol) (vs : List Bool) (f : Symbol) (v : Bool) (m : Model) → length vs ≡ length cs → is_among cs f ≡ false
    → with_graph f (Some (constant_graph (truth v))) (with_truths cs vs m) ≡ with_truths (cs ++ f ∷ []) (vs ++ v ∷ []) m
one_given cs vs f v m size none = λ i. with_graphs m (λ h. at h (symbol_eq h f) refl i)
  where
    at : (h : Symbol) (b : Bool) → symbol_eq h f ≡ b
        → cond (symbol_eq h f) (Some (constant_graph (truth v))) (given_graph (value_of cs vs h) (m.graphs h)) ≡ given_graph (value_of (cs ++ f ∷ []) (vs ++ v ∷ []) h) (m.graphs h)
    at h true e =
        let same : h ≡ f = (Decides-symbol_eq h f).0 e in
        ap (λ b. cond b (Some (constant_graph (truth v))) (given_graph (value_of cs vs h) (m.graphs h))) e
        ∙ ap (λ o. given_graph o (m.graphs h)) (sym (value_new cs vs f h v size (symmetric f h ∙ e) (ap (is_among cs) same ∙ none)))
    at h false e =
        ap (λ b. cond b (Some (constant_graph (truth v))) (given_graph (value_of cs vs h) (m.graphs h))) e
        ∙ ap (λ o. given_graph o (m.graphs h)) (sym (value_last cs vs f h v size (symmetric f h ∙ e)))

-- ---- in a table

module _ (t : Formulas) (fs : List SymId) (are : AreConstants t fs) (vs : List Bool) (size : length vs ≡ length fs) (i : ℕ) (d : SymId) (within : i < length fs) where
  pub none_yet : is_among (constants_at t (take i fs)) (symbol_at t (get_or fs i d)) ≡ false
  none_yet =
      ap (λ cs. is_among cs (symbol_at t (get_or fs i d))) (sym (take-constants t fs i)) ∙ ap (is_among (take i (constants_at t fs))) (sym (get_or-constants t fs i d within))
      ∙ none_before (constants_at t fs) no_symbol i are.distinct (subst (λ n. i < n) (sym (length-constants t fs)) within)

  as_many : length (take i vs) ≡ length (constants_at t (take i fs))
  as_many = length-take i vs ∙ ap (min i) size ∙ sym (length-take i fs) ∙ sym (length-constants t (take i fs))

  -- the values so far and the next one
  pub value_more : (v : Bool) (m : Model) → slice_get vs i ≡ Some v
      → with_graph (symbol_at t (get_or fs i d)) (Some (constant_graph (truth v))) (with_truths (constants_at t (take i fs)) (take i vs) m) ≡ with_truths (constants_at t (take (i + 1) fs)) (take (i + 1) vs) m
  value_more v m e =
      let below : i < length vs = subst (λ n. i < n) (sym size) within in
      one_given (constants_at t (take i fs)) (take i vs) (symbol_at t (get_or fs i d)) v m as_many none_yet
      ∙ ap (λ ws. with_truths (constants_at t (take i fs) ++ symbol_at t (get_or fs i d) ∷ []) ws m) (ap (λ w. take i vs ++ w ∷ []) (sym (get_or_from_slice_get vs i v false e)) ∙ sym (take_more vs i false below))
      ∙ ap (λ cs. with_truths cs (take (i + 1) vs) m) (sym (map_more (symbol_at t) fs i d within))

  pub constant_at : (P : Symbol → Type 0) → All P (constants_at t fs) → P (symbol_at t (get_or fs i d))
  constant_at P all =
      subst P (get_or-constants t fs i d within) (All-get_or P (constants_at t fs) i no_symbol (subst (λ n. i < n) (sym (length-constants t fs)) within) all)
