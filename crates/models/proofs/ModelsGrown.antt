-- Models over a table that gains.
use Rattle.std.proofs.Common.{◌≡◌, ◌∙◌, sym, ap, refl, ℕ, ◌+◌, ◌<◌, ◌≤◌, ◌⊎◌, inl, inr, nat_lt, Bool, true, false, List, length, get_or, arith}
use Rattle.std.specs.List.{position_or_len}
use Rattle.std.proofs.lemmas.Bool.{ltb-true, ltb-false}
use Rattle.std.proofs.lemmas.List.Sums.{position_or_len_is, passes_at_first, fails_before_first}
use Rattle.smt_terms.specs.Equal.{sort_eq, symbol_eq}
use Rattle.smt_terms.specs.Sorts.{Name, bool, free_sort, Symbol}
use Rattle.smt_terms.proofs.Tests.{contrary}
use Rattle.smt_values.specs.SizeTable.{size_at, sizes_by, number_of}
use Rattle.term_table.specs.Formulas.{Formulas, no_symbol, Grows}
use Rattle.term_walk.specs.Walking.{GrowsTo}
use Rattle.models.specs.ModelView.{ModelLists, graph_in, symbol_number, graphs_by, model_at, IsModelOf}

module _ {X : Type 0} (p : X → Bool) (old new : List X) (grows : Grows old new) (d : X) where
  before : (k : ℕ) → k < position_or_len p old → k < length old → p (get_or new k d) ≡ false
  before k less within = ap p (grows.same k d within) ∙ fails_before_first p old k d less

  -- the first place that passes is as before, or there was none, and there is none so far
  pub first_place : (position_or_len p new ≡ position_or_len p old) ⊎ ((length old ≤ position_or_len p old) × (length old ≤ position_or_len p new))
  first_place = by (nat_lt (position_or_len p old) (length old)) refl (nat_lt (position_or_len p new) (length old)) refl
    where
      by : (b : Bool) → nat_lt (position_or_len p old) (length old) ≡ b → (c : Bool) → nat_lt (position_or_len p new) (length old) ≡ c
          → (position_or_len p new ≡ position_or_len p old) ⊎ ((length old ≤ position_or_len p old) × (length old ≤ position_or_len p new))
      by true h c e =
          let within : position_or_len p old < length old = ltb-true (position_or_len p old) (length old) h in
          let longer = grows.longer in
          inl
          (position_or_len_is p new (position_or_len p old) d (omega (arith, within, longer)) (λ k less. before k less (omega (arith, less, within)))
          (λ _. ap p (grows.same (position_or_len p old) d within) ∙ passes_at_first p old d within))
      by false h true e =
          let none : length old ≤ position_or_len p old = ltb-false (position_or_len p old) (length old) h in
          let within : position_or_len p new < length old = ltb-true (position_or_len p new) (length old) e in
          let longer = grows.longer in
          contrary (p (get_or new (position_or_len p new) d)) (passes_at_first p new d (omega (arith, within, longer))) (before (position_or_len p new) (omega (arith, within, none)) within)
      by false h false e = inr (ltb-false (position_or_len p old) (length old) h, ltb-false (position_or_len p new) (length old) e)

module _ (old new : Formulas) (m : ModelLists) (grows : GrowsTo old new) (is : IsModelOf old m) where
  graphs_stay : (f : Symbol) → graphs_by new.symbols m.graphs f ≡ graphs_by old.symbols m.graphs f
  unfolding graphs_by
  graphs_stay f = by (first_place (symbol_eq f) old.symbols new.symbols grows.symbols no_symbol)
    where
      by : (position_or_len (symbol_eq f) new.symbols ≡ position_or_len (symbol_eq f) old.symbols)
          ⊎ ((length old.symbols ≤ position_or_len (symbol_eq f) old.symbols) × (length old.symbols ≤ position_or_len (symbol_eq f) new.symbols))
          → graph_in m.graphs (symbol_number new.symbols f) ≡ graph_in m.graphs (symbol_number old.symbols f)
      by (inl same) = ap (λ n. graph_in m.graphs (record { 0 = n })) same
      by (inr far) = is.graphs (symbol_number new.symbols f) far.1 ∙ sym (is.graphs (symbol_number old.symbols f) far.0)

  sizes_stay : (s : Name) → sizes_by new.sorts m.sizes s ≡ sizes_by old.sorts m.sizes s
  unfolding sizes_by
  sizes_stay s = by (first_place (sort_eq (free_sort s)) old.sorts new.sorts grows.sorts bool)
    where
      by : (position_or_len (sort_eq (free_sort s)) new.sorts ≡ position_or_len (sort_eq (free_sort s)) old.sorts)
          ⊎ ((length old.sorts ≤ position_or_len (sort_eq (free_sort s)) old.sorts) × (length old.sorts ≤ position_or_len (sort_eq (free_sort s)) new.sorts))
          → size_at m.sizes (number_of new.sorts (free_sort s)) ≡ size_at m.sizes (number_of old.sorts (free_sort s))
      by (inl same) = ap (λ n. size_at m.sizes (record { 0 = 130 + n })) same
      by (inr far) =
          let after = far.1 in
          let before = far.0 in
          is.sizes (number_of new.sorts (free_sort s)) (omega (arith, after)) ∙ sym (is.sizes (number_of old.sorts (free_sort s)) (omega (arith, before)))

  pub model_stays : model_at new m ≡ model_at old m
  model_stays = λ i. record { sizes = λ s. sizes_stay s i; graphs = λ f. graphs_stay f i; div_by_zero = m.div_by_zero; mod_by_zero = m.mod_by_zero }

  pub numbers_stay : IsModelOf new m
  numbers_stay =
      let more_sorts = grows.sorts.longer in
      let more_symbols = grows.symbols.longer in
      record { sizes = λ s far. is.sizes s (omega (arith, far, more_sorts)); graphs = λ f far. is.graphs f (omega (arith, far, more_symbols)) }
