-- What a stage tells of the operands of applications: what was kept of them, also over a table that only gains.
use Rattle.std.proofs.Common.{◌≡◌, ◌∙◌, ap, sym, refl, subst, ℕ, ◌<◌, ◌≤◌, ◌==◌, nat_lt, if◌then◌else◌, Bool, true, false, cond, List, [], ◌∷◌, length, get_or, Option, Some, None, All, arith}
use Rattle.std.proofs.lemmas.Bool.{ltb-false, ltb-true, ne_eqb}
use Rattle.std.proofs.lemmas.Bool.Decides.{Decides-eqb}
use Rattle.std.proofs.lemmas.List.Elements.{All-head, All-nil, All-cons, All-tail}
use Rattle.std.proofs.lemmas.List.Sums.{fails_before_first, position_or_len_is, passes_at_first}
use Rattle.std.specs.List.{position_or_len}
use Rattle.smt_terms.specs.declared.ids.SymId.{SymId}
use Rattle.smt_terms.specs.Equal.{symbol_eq}
use Rattle.smt_terms.specs.Sorts.{Symbol}
use Rattle.smt_terms.specs.Term.{Term}
use Rattle.smt_terms.proofs.Equal.{Decides-symbol_eq, symbol_itself}
use Rattle.smt_terms.proofs.Tests.{contrary}
use Rattle.term_table.specs.Formulas.{Formulas, no_symbol, symbol_at, trees_at, IsSymbol, IsTable}
use Rattle.term_walk.specs.Walking.{GrowsTo}
use Rattle.script_terms.proofs.Grown.{trees_stay}
use Rattle.models.specs.ModelView.{symbol_number}
use Rattle.passes.specs.declared.plan.Use.{Use}
use Rattle.pass_laws.specs.LiveGroups.{operands_in}
use Rattle.passes.specs.Plans.{use_of, Uses, operands_at, told_operands}
use Rattle.passes.specs.Removing.{keys_of, operands_kept, AreApart, IsKept, AreKept}
use Rattle.passes.proofs.KeptOperands.{IsNew, use-new}

-- ---- numbers of symbols

module _ (t : Formulas) (table : IsTable t) (s : SymId) (within : IsSymbol t s) where
  number-itself : symbol_number t.symbols (symbol_at t s) ≡ s
  number-itself =
      ap (λ n. record { 0 = n })
      (position_or_len_is (symbol_eq (symbol_at t s)) t.symbols s.0 no_symbol (omega (arith, within))
      (λ k less. by k less (symbol_eq (symbol_at t s) (get_or t.symbols k no_symbol)) refl)
      (λ _. symbol_itself (symbol_at t s)))
    where
      by : (k : ℕ) → k < s.0 → (b : Bool) → symbol_eq (symbol_at t s) (get_or t.symbols k no_symbol) ≡ b → symbol_eq (symbol_at t s) (get_or t.symbols k no_symbol) ≡ false
      by k less true h =
          let same : s.0 ≡ k = table.one_symbol s.0 k within (omega (arith, within, less)) ((Decides-symbol_eq (symbol_at t s) (get_or t.symbols k no_symbol)).0 h) in
          absurd (omega (arith, same, less))
      by k less false h = h

  number-other : (f : Symbol) → symbol_eq f (symbol_at t s) ≡ false → ((symbol_number t.symbols f).0 == s.0) ≡ false
  number-other f differs =
      ne_eqb (position_or_len (symbol_eq f) t.symbols) s.0
      (λ same.
      contrary (symbol_eq f (symbol_at t s))
      (ap (λ n. symbol_eq f (get_or t.symbols n no_symbol)) (sym same)
      ∙ passes_at_first (symbol_eq f) t.symbols no_symbol (subst (λ n. n < length t.symbols) (sym same) within)) differs)

-- ---- look-ups by numbers and by symbols

abbrev operands_or : Formulas → Option Use → List Term → List Term
operands_or t None ts = ts
operands_or t (Some u) ts = trees_at t u.operands.items

later_new : (k : SymId) (ks : List SymId) → All (λ (j : SymId). (j.0 == k.0) ≡ false) ks → IsNew k ks
later_new k [] apart = All-nil (λ (j : SymId). (k.0 == j.0) ≡ false)
later_new k (j ∷ ks) apart =
    All-cons (λ (i : SymId). (k.0 == i.0) ≡ false) j ks
    (ne_eqb k.0 j.0 (λ same. contrary (j.0 == k.0) ((Decides-eqb j.0 k.0).1 (sym same)) (All-head (λ (i : SymId). (i.0 == k.0) ≡ false) j ks apart)))
    (later_new k ks (All-tail (λ (i : SymId). (i.0 == k.0) ≡ false) j ks apart))

module _ (t : Formulas) (table : IsTable t) where
  found : (es : Uses) → All (IsKept t) es → AreApart (keys_of es) → (ps : List (Symbol × List Term)) (v : Symbol)
      → operands_in (operands_kept t ps es) v ≡ operands_or t (use_of es (symbol_number t.symbols v)) (operands_in ps v)
  found [] kept apart ps v = refl
  found (e ∷ es) kept apart ps v =
      found es (All-tail (IsKept t) e es kept) apart.1 ((symbol_at t e.0, trees_at t e.1.operands.items) ∷ ps) v
      ∙ by (symbol_eq v (symbol_at t e.0)) refl
    where
      within : IsSymbol t e.0
      within = (All-head (IsKept t) e es kept).0

      by : (b : Bool) → symbol_eq v (symbol_at t e.0) ≡ b
          → operands_or t (use_of es (symbol_number t.symbols v)) (cond (symbol_eq v (symbol_at t e.0)) (trees_at t e.1.operands.items) (operands_in ps v))
          ≡ operands_or t (if (symbol_number t.symbols v).0 == e.0.0 then Some e.1 else use_of es (symbol_number t.symbols v)) (operands_in ps v)
      by true same =
          let number : symbol_number t.symbols v ≡ e.0 = ap (symbol_number t.symbols) ((Decides-symbol_eq v (symbol_at t e.0)).0 same) ∙ number-itself t table e.0 within in
          let none : use_of es (symbol_number t.symbols v) ≡ None = ap (use_of es) number ∙ use-new es e.0 (later_new e.0 (keys_of es) apart.0) in
          let here : ((symbol_number t.symbols v).0 == e.0.0) ≡ true = (Decides-eqb (symbol_number t.symbols v).0 e.0.0).1 (ap (λ (k : SymId). k.0) number) in
          (λ i. operands_or t (none i) (cond (same i) (trees_at t e.1.operands.items) (operands_in ps v)))
          ∙ ap (λ b. operands_or t (if b then Some e.1 else use_of es (symbol_number t.symbols v)) (operands_in ps v)) (sym here)
      by false differs =
          ap (λ b. operands_or t (use_of es (symbol_number t.symbols v)) (cond b (trees_at t e.1.operands.items) (operands_in ps v))) differs
          ∙ ap (λ b. operands_or t (if b then Some e.1 else use_of es (symbol_number t.symbols v)) (operands_in ps v)) (sym (number-other t table e.0 within v differs))

  or_none : (o : Option Use) → operands_or t o [] ≡ operands_at t o
  or_none None = refl
  or_none (Some u) = refl

  pub told-kept : (es : Uses) → AreKept t es → told_operands t (Some es) ≡ Some (operands_in (operands_kept t [] es))
  told-kept es are = λ i. Some (λ v. sym (found es are.each are.apart [] v ∙ or_none (use_of es (symbol_number t.symbols v))) i)

-- ---- a table that gained

-- a number behind those of the table has no use
past-new : (t : Formulas) (es : Uses) → All (IsKept t) es → (k : SymId) → length t.symbols ≤ k.0 → IsNew k (keys_of es)
past-new t [] kept k past = All-nil (λ (j : SymId). (k.0 == j.0) ≡ false)
past-new t (e ∷ es) kept k past =
    All-cons (λ (j : SymId). (k.0 == j.0) ≡ false) e.0 (keys_of es)
    (ne_eqb k.0 e.0.0 (λ same. let within = (All-head (IsKept t) e es kept).0 in omega (arith, same, past, within)))
    (past-new t es (All-tail (IsKept t) e es kept) k past)

module _ (t u : Formulas) (grows : GrowsTo t u) where
  module _ (es : Uses) (kept : All (IsKept t) es) (v : Symbol) where
    abbrev place : List Symbol → ℕ
    place fs = position_or_len (symbol_eq v) fs

    differs : (k : ℕ) → k < place t.symbols → k < length t.symbols → symbol_eq v (get_or u.symbols k no_symbol) ≡ false
    differs k less within = ap (symbol_eq v) (grows.symbols.same k no_symbol within) ∙ fails_before_first (symbol_eq v) t.symbols k no_symbol less

    use-of-number : use_of es (symbol_number u.symbols v) ≡ use_of es (symbol_number t.symbols v)
    use-of-number = by (nat_lt (place t.symbols) (length t.symbols)) refl (nat_lt (place u.symbols) (length t.symbols)) refl
      where
        longer : length t.symbols ≤ length u.symbols
        longer = grows.symbols.longer

        by : (b : Bool) → nat_lt (place t.symbols) (length t.symbols) ≡ b → (c : Bool) → nat_lt (place u.symbols) (length t.symbols) ≡ c
            → use_of es (symbol_number u.symbols v) ≡ use_of es (symbol_number t.symbols v)
        by true h c e =
            let within : place t.symbols < length t.symbols = ltb-true (place t.symbols) (length t.symbols) h in
            ap (λ n. use_of es (record { 0 = n }))
            (position_or_len_is (symbol_eq v) u.symbols (place t.symbols) no_symbol (omega (arith, within, longer)) (λ k less. differs k less (omega (arith, less, within)))
            (λ _. ap (symbol_eq v) (grows.symbols.same (place t.symbols) no_symbol within) ∙ passes_at_first (symbol_eq v) t.symbols no_symbol within))
        by false h true e =
            let past : length t.symbols ≤ place t.symbols = ltb-false (place t.symbols) (length t.symbols) h in
            let within : place u.symbols < length t.symbols = ltb-true (place u.symbols) (length t.symbols) e in
            contrary (symbol_eq v (get_or u.symbols (place u.symbols) no_symbol)) (passes_at_first (symbol_eq v) u.symbols no_symbol (omega (arith, within, longer)))
            (differs (place u.symbols) (omega (arith, within, past)) within)
        by false h false e =
            use-new es (symbol_number u.symbols v) (past-new t es kept (symbol_number u.symbols v) (ltb-false (place u.symbols) (length t.symbols) e))
            ∙ sym (use-new es (symbol_number t.symbols v) (past-new t es kept (symbol_number t.symbols v) (ltb-false (place t.symbols) (length t.symbols) h)))

  operands-stay : (es : Uses) → All (IsKept t) es → (k : SymId) → operands_at u (use_of es k) ≡ operands_at t (use_of es k)
  operands-stay [] kept k = refl
  operands-stay (e ∷ es) kept k = by (k.0 == e.0.0) (operands-stay es (All-tail (IsKept t) e es kept) k)
    where
      by : (b : Bool) → operands_at u (use_of es k) ≡ operands_at t (use_of es k) → operands_at u (if b then Some e.1 else use_of es k) ≡ operands_at t (if b then Some e.1 else use_of es k)
      by true rest = trees_stay t u grows e.1.operands.items (All-head (IsKept t) e es kept).1
      by false rest = rest

  pub told-stays : (es : Uses) → AreKept t es → told_operands u (Some es) ≡ told_operands t (Some es)
  told-stays es are = λ i. Some (λ v. (ap (operands_at u) (use-of-number es are.each v) ∙ operands-stay es are.each (symbol_number t.symbols v)) i)
