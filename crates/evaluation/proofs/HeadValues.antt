-- The values of nodes from those of their operands, operator by operator.
use Rattle.std.proofs.Common.{◌≡◌, ◌∙◌, sym, ap, subst, refl, ℕ, suc, ◌<◌, Bool, true, cond, List, [], ◌∷◌, length, All, replicate, IsOk, arith}
use Rattle.smt_terms.specs.declared.ids.NodeId.{NodeId}
use Rattle.smt_terms.specs.declared.ids.SortId.{SortId}
use Rattle.smt_terms.specs.declared.ids.SymId.{SymId}
use Rattle.smt_terms.specs.declared.op.Op.{Op}
use Rattle.smt_terms.specs.declared.op.Op.TheVariants.{Sym, ConstArray, Equal, Distinct, Ite, Select, Store}
use Rattle.smt_terms.specs.Models.{background, symbol_value}
use Rattle.smt_terms.specs.Operators.{op_value, first_sort, first_value, second_value, third_value, index_sort, all_distinct}
use Rattle.smt_terms.specs.Rank.{is_array, element_sort, shape, rank}
use Rattle.smt_terms.specs.Sorts.{Sort, array}
use Rattle.smt_terms.specs.Term.{op, symbol, const_array, terms}
use Rattle.smt_terms.specs.Values as plain
use Rattle.smt_terms.specs.Values.{Sizes, is_true, same, table, no_pairs, select, store}
use Rattle.smt_values.specs.Applied.{TakesOperands}
use Rattle.smt_values.specs.Meaning.{IsScalar}
use Rattle.smt_values.specs.SizeTable.{sizes_by}
use Rattle.smt_values.specs.SortIds.{sort_at}
use Rattle.smt_values.specs.Valid.{IsValue}
use Rattle.smt_values.specs.declared.value.Value.{Value}
use Rattle.term_table.specs.Formulas.{Formulas, kind, tree, operands, symbol_at, term_over, IsOpOf, IsNode, IsSymbol, IsTable}
use Rattle.models.specs.GraphRows.{meanings, AreValues}
use Rattle.models.specs.ModelView.{ModelLists, model_at}
use Rattle.evaluation.specs.Operated.{operand_sorts, applied_at}
use Rattle.evaluation.specs.ScalarOperands.{scalars_in, scalar_result}
use Rattle.evaluation.proofs.AppliedNodes.{IsHeaded, headed, of-operator, of-symbol, called, theory-left}
use Rattle.evaluation.proofs.OperandPlaces.{values-count, alike-values}
use Rattle.evaluation.proofs.ScalarLaws.{NoOther, scalars-left, scalar-sorts, AreScalars, are-scalars}

pub symbol-number : (t : Formulas) (o : Op) (f : SymId) → o ≡ Sym f → IsOpOf t o → IsSymbol t f
unfolding kind
symbol-number t o f same numbers = subst (IsOpOf t) same numbers

module _ (t : Formulas) (table_holds : IsTable t) (id : NodeId) (node : IsNode t id) (o : Op) (e : tree t id ≡ term_over t o (operands (tree t id))) (m : ModelLists) (args : List Value) (are : AreValues (operand_sorts (tree t id)) (sizes_by t.sorts m.sizes) args) where
  abbrev ss : List Sort
  ss = operand_sorts (tree t id)

  abbrev value : plain.Value
  value = applied_at (model_at t m) (tree t id) (meanings args)

  -- as many values as operands
  count : length args ≡ length ss
  count = values-count (sizes_by t.sorts m.sizes) ss args are.valid

  -- the same, by the sorts, the sizes and the operands as a function has them
  moved : (g : List Sort → List Sort) (rs : List Sort) (zs : List (SortId × ℕ)) (vs : List Value) → rs ≡ t.sorts → zs ≡ m.sizes → vs ≡ args → g t.sorts ≡ ss → AreValues (g rs) (sizes_by rs zs) vs
  moved g rs zs vs er ez ev told =
      subst (λ r. AreValues (g r) (sizes_by r zs) vs) (sym er)
      (subst (λ z. AreValues (g t.sorts) (sizes_by t.sorts z) vs) (sym ez)
      (subst (λ l. AreValues (g t.sorts) (sizes_by t.sorts m.sizes) l) (sym ev)
      (subst (λ q. AreValues q (sizes_by t.sorts m.sizes) args) (sym told) are)))

  -- ---- symbols and constant arrays

  module _ (f : SymId) (is : o ≡ Sym f) where
    symbol_headed : IsHeaded (tree t id) (symbol (symbol_at t f))
    symbol_headed = of-symbol t table_holds id node o f is e

    pub symbol-args : (vs : List Value) → vs ≡ args → AreValues (symbol_at t f).args (sizes_by t.sorts m.sizes) vs
    symbol-args vs ev = moved (λ _. (symbol_at t f).args) t.sorts m.sizes vs refl refl ev (sym symbol_headed.takes.0)

    pub symbol-is : (vs : List Value) (v : plain.Value) → vs ≡ args → v ≡ symbol_value (model_at t m) (symbol_at t f) (meanings vs) → v ≡ value
    symbol-is vs v ev told =
        told ∙ ap (λ l. symbol_value (model_at t m) (symbol_at t f) (meanings l)) ev
        ∙ sym (symbol_headed.value (model_at t m) (meanings args) ∙ called (model_at t m) (symbol_at t f) ss (meanings args))

  module _ (s : SortId) (is : o ≡ ConstArray s) where
    filled_headed : IsHeaded (tree t id) (const_array (sort_at t.sorts s))
    unfolding kind
    filled_headed = headed t table_holds id node (const_array (sort_at t.sorts s)) (terms (operands (tree t id))) (e ∙ ap (λ p. term_over t p (operands (tree t id))) is)

    pub filled-one : length args ≡ 1
    filled-one = count ∙ ap length filled_headed.takes.3

    pub filled-is : (v : plain.Value) → v ≡ table (first_value (meanings args)) no_pairs → v ≡ value
    filled-is v told = told ∙ sym (filled_headed.value (model_at t m) (meanings args))

  -- ---- equality

  module _ (is : o ≡ Equal) where
    equal_headed : IsHeaded (tree t id) (op Equal)
    unfolding kind
    equal_headed = of-operator t table_holds id node o Equal refl is e

    equal_sorts : (s : Sort) × (ss ≡ s ∷ s ∷ [])
    unfolding shape
    equal_sorts = (equal_headed.takes.0, equal_headed.takes.1)

    pub equal-there : 0 < length ss
    equal-there = let n = ap length equal_sorts.1 in omega (arith, n)

    pub equal-two : (vs : List Value) → vs ≡ args → length vs ≡ 2
    equal-two vs ev = ap length ev ∙ count ∙ ap length equal_sorts.1

    module _ (rs : List Sort) (zs : List (SortId × ℕ)) (vs : List Value) (r : SortId) (er : rs ≡ t.sorts) (ez : zs ≡ m.sizes) (ev : vs ≡ args) (first : sort_at t.sorts r ≡ first_sort ss) where
      pub equal-args : AreValues (sort_at rs r ∷ sort_at rs r ∷ []) (sizes_by rs zs) vs
      equal-args =
          let one : sort_at t.sorts r ≡ equal_sorts.0 = first ∙ ap first_sort equal_sorts.1 in
          moved (λ q. sort_at q r ∷ sort_at q r ∷ []) rs zs vs er ez ev (ap (λ s. s ∷ s ∷ []) one ∙ sym equal_sorts.1)

      pub equal-is : (v : plain.Value) (b : Bool) → v ≡ plain.truth b → b ≡ same (sort_at rs r) (sizes_by rs zs) (first_value (meanings vs)) (second_value (meanings vs)) → v ≡ value
      unfolding op_value
      equal-is v b is_truth told =
          is_truth ∙ ap plain.truth (told
          ∙ (λ i. same (sort_at (er i) r) (sizes_by (er i) (ez i)) (first_value (meanings (ev i))) (second_value (meanings (ev i))))
          ∙ ap (λ s. same s (sizes_by t.sorts m.sizes) (first_value (meanings args)) (second_value (meanings args))) first)
          ∙ sym (equal_headed.value (model_at t m) (meanings args))

  module _ (is : o ≡ Distinct) where
    distinct_headed : IsHeaded (tree t id) (op Distinct)
    unfolding kind
    distinct_headed = of-operator t table_holds id node o Distinct refl is e

    distinct_sorts : (s : Sort) × (n : ℕ) × (ss ≡ replicate (suc (suc n)) s)
    unfolding shape
    distinct_sorts = (distinct_headed.takes.0, distinct_headed.takes.1, distinct_headed.takes.2)

    pub distinct-there : 0 < length ss
    distinct-there = let n = ap length distinct_sorts.2 in omega (arith, n)

    module _ (rs : List Sort) (zs : List (SortId × ℕ)) (vs : List Value) (r : SortId) (er : rs ≡ t.sorts) (ez : zs ≡ m.sizes) (ev : vs ≡ args) (first : sort_at t.sorts r ≡ first_sort ss) where
      pub distinct-args : All (IsValue (sort_at rs r) (sizes_by rs zs)) vs
      distinct-args =
          let one : sort_at t.sorts r ≡ distinct_sorts.0 = first ∙ ap first_sort distinct_sorts.2 in
          alike-values (sizes_by rs zs) (sort_at rs r) (suc (suc distinct_sorts.1)) vs
          (moved (λ q. replicate (suc (suc distinct_sorts.1)) (sort_at q r)) rs zs vs er ez ev (ap (λ s. replicate (suc (suc distinct_sorts.1)) s) one ∙ sym distinct_sorts.2))

      pub distinct-is : (v : plain.Value) (b : Bool) → v ≡ plain.truth b → b ≡ all_distinct (same (sort_at rs r) (sizes_by rs zs)) (meanings vs) → v ≡ value
      unfolding op_value
      distinct-is v b is_truth told =
          is_truth ∙ ap plain.truth (told
          ∙ (λ i. all_distinct (same (sort_at (er i) r) (sizes_by (er i) (ez i))) (meanings (ev i)))
          ∙ ap (λ s. all_distinct (same s (sizes_by t.sorts m.sizes)) (meanings args)) first)
          ∙ sym (distinct_headed.value (model_at t m) (meanings args))

  -- ---- choice

  module _ (is : o ≡ Ite) where
    choice_headed : IsHeaded (tree t id) (op Ite)
    unfolding kind
    choice_headed = of-operator t table_holds id node o Ite refl is e

    pub choice-three : length args ≡ 3
    unfolding shape
    choice-three = count ∙ ap length choice_headed.takes.1

    pub choice-is : (v : plain.Value) → v ≡ cond (is_true (first_value (meanings args))) (second_value (meanings args)) (third_value (meanings args)) → v ≡ value
    unfolding op_value
    choice-is v told = told ∙ sym (choice_headed.value (model_at t m) (meanings args))

  -- ---- arrays

  module _ (is : o ≡ Select) where
    select_headed : IsHeaded (tree t id) (op Select)
    unfolding kind
    select_headed = of-operator t table_holds id node o Select refl is e

    select_sorts : (i : Sort) × (s : Sort) × (ss ≡ array i s ∷ i ∷ [])
    unfolding shape
    select_sorts = (select_headed.takes.0, select_headed.sort, select_headed.takes.1)

    pub select-there : 0 < length ss
    select-there = let n = ap length select_sorts.2 in omega (arith, n)

    pub select-two : (vs : List Value) → vs ≡ args → length vs ≡ 2
    select-two vs ev = ap length ev ∙ count ∙ ap length select_sorts.2

    module _ (rs : List Sort) (zs : List (SortId × ℕ)) (vs : List Value) (r : SortId) (er : rs ≡ t.sorts) (ez : zs ≡ m.sizes) (ev : vs ≡ args) (first : sort_at t.sorts r ≡ first_sort ss) where
      select_array : sort_at t.sorts r ≡ array select_sorts.0 select_sorts.1
      select_array = first ∙ ap first_sort select_sorts.2

      pub select-array : is_array (sort_at rs r) ≡ true
      select-array = ap (λ q. is_array (sort_at q r)) er ∙ ap is_array select_array

      pub select-args : AreValues (sort_at rs r ∷ index_sort (sort_at rs r) ∷ []) (sizes_by rs zs) vs
      select-args = moved (λ q. sort_at q r ∷ index_sort (sort_at q r) ∷ []) rs zs vs er ez ev (ap (λ s. s ∷ index_sort s ∷ []) select_array ∙ sym select_sorts.2)

      pub select-is : (v : plain.Value) → v ≡ select (index_sort (sort_at rs r)) (sizes_by rs zs) (first_value (meanings vs)) (second_value (meanings vs)) → v ≡ value
      unfolding op_value
      select-is v told =
          told
          ∙ (λ i. select (index_sort (sort_at (er i) r)) (sizes_by (er i) (ez i)) (first_value (meanings (ev i))) (second_value (meanings (ev i))))
          ∙ ap (λ s. select (index_sort s) (sizes_by t.sorts m.sizes) (first_value (meanings args)) (second_value (meanings args))) first
          ∙ sym (select_headed.value (model_at t m) (meanings args))

  module _ (is : o ≡ Store) where
    store_headed : IsHeaded (tree t id) (op Store)
    unfolding kind
    store_headed = of-operator t table_holds id node o Store refl is e

    store_sorts : (i : Sort) × (s : Sort) × (ss ≡ array i s ∷ i ∷ s ∷ [])
    unfolding shape
    store_sorts = (store_headed.takes.0, store_headed.takes.1, store_headed.takes.2)

    pub store-there : 0 < length ss
    store-there = let n = ap length store_sorts.2 in omega (arith, n)

    pub store-three : length args ≡ 3
    store-three = count ∙ ap length store_sorts.2

    module _ (rs : List Sort) (zs : List (SortId × ℕ)) (r : SortId) (er : rs ≡ t.sorts) (ez : zs ≡ m.sizes) (first : sort_at t.sorts r ≡ first_sort ss) where
      store_array : sort_at t.sorts r ≡ array store_sorts.0 store_sorts.1
      store_array = first ∙ ap first_sort store_sorts.2

      pub store-array : is_array (sort_at rs r) ≡ true
      store-array = ap (λ q. is_array (sort_at q r)) er ∙ ap is_array store_array

      pub store-args : AreValues (sort_at rs r ∷ index_sort (sort_at rs r) ∷ element_sort (sort_at rs r) ∷ []) (sizes_by rs zs) args
      store-args = moved (λ q. sort_at q r ∷ index_sort (sort_at q r) ∷ element_sort (sort_at q r) ∷ []) rs zs args er ez refl (ap (λ s. s ∷ index_sort s ∷ element_sort s ∷ []) store_array ∙ sym store_sorts.2)

      pub store-is : (v : plain.Value) → v ≡ store (index_sort (sort_at rs r)) (sizes_by rs zs) (first_value (meanings args)) (second_value (meanings args)) (third_value (meanings args)) → v ≡ value
      unfolding op_value
      store-is v told =
          told
          ∙ (λ i. store (index_sort (sort_at (er i) r)) (sizes_by (er i) (ez i)) (first_value (meanings args)) (second_value (meanings args)) (third_value (meanings args)))
          ∙ ap (λ s. store (index_sort s) (sizes_by t.sorts m.sizes) (first_value (meanings args)) (second_value (meanings args)) (third_value (meanings args))) first
          ∙ sym (store_headed.value (model_at t m) (meanings args))

  -- ---- operators that take scalars alone

  module _ (none : NoOther o) where
    scalar_headed : IsHeaded (tree t id) (op o)
    scalar_headed = of-operator t table_holds id node o o (theory-left o none.is_symbol none.is_filled (record { is_forall = none.is_forall; is_exists = none.is_exists })) refl e

    scalar_operands : AreScalars ss args
    scalar_operands = are-scalars ss (sizes_by t.sorts m.sizes) args (scalar-sorts (shape o) ss scalar_headed.sort (scalars-left o none) scalar_headed.takes) are

    pub scalar-takes : (vs : List Value) → vs ≡ args → TakesOperands o (scalars_in vs)
    scalar-takes vs ev =
        subst (λ l. TakesOperands o (scalars_in l)) (sym ev)
        (subst (λ q. IsOk (rank (op o) q)) (sym scalar_operands.sorts) (subst IsOk (sym scalar_headed.ranked) refl))

    pub scalar-held : (vs : List Value) → vs ≡ args → All IsScalar (scalars_in vs)
    scalar-held vs ev = subst (λ l. All IsScalar (scalars_in l)) (sym ev) scalar_operands.held

    pub scalar-is : (vs : List Value) → vs ≡ args → scalar_result (model_at t m) o (scalars_in vs) ≡ value
    scalar-is vs ev =
        ap (λ l. scalar_result (model_at t m) o (scalars_in l)) ev
        ∙ (λ i. op_value (background (model_at t m)) o (scalar_operands.sorts i) (scalar_operands.values i))
        ∙ sym (scalar_headed.value (model_at t m) (meanings args))
