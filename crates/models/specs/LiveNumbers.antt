-- Live sorts and symbols by their numbers in a table, and the signature that they are.
use Rattle.std.specs.Prelude.{◌≡◌, true, List, map, All, refl}
use Rattle.std.specs.Coded.{Coded, code_by, coded×, coded_ℕ, coded_list}
use Rattle.smt_terms.specs.declared.ids.SortId.{SortId}
use Rattle.smt_terms.specs.declared.ids.SymId.{SymId}
use Rattle.smt_values.specs.SortIds.{sort_at, is_free, IsSortId}
use Rattle.term_table.specs.Formulas.{Formulas, symbol_at, IsSymbol}
use Rattle.script_read.specs.CommandLists.{free_name}
use Rattle.script_read.specs.Commands.{Signature}

-- each in order of declaration
pub record LiveNumbers : Type 0 where
  pub sorts : List SortId
  pub symbols : List SymId

abbrev pub coded_sort_id : Coded SortId
coded_sort_id = code_by _ coded_ℕ (λ s. s.0) (λ n. record { 0 = n }) (λ _. refl)

abbrev pub coded_symbol_id : Coded SymId
coded_symbol_id = code_by _ coded_ℕ (λ f. f.0) (λ n. record { 0 = n }) (λ _. refl)

abbrev pub coded_live_numbers : Coded LiveNumbers
coded_live_numbers =
    code_by (List SortId × List SymId) (coded× (coded_list coded_sort_id) (coded_list coded_symbol_id)) (λ l. (l.sorts, l.symbols))
    (λ p. record { sorts = p.0; symbols = p.1 }) (λ _. refl)

-- the signature of the sorts and symbols of these numbers
abbrev pub signature_of : Formulas → LiveNumbers → Signature
signature_of t l = record { sorts = map (λ s. free_name (sort_at t.sorts s)) l.sorts; symbols = map (symbol_at t) l.symbols }

abbrev pub IsFreeSort : Formulas → SortId → Type 0
IsFreeSort t s = IsSortId t.sorts s × (is_free (sort_at t.sorts s) ≡ true)

-- numbers of the table
abbrev pub AreLiveNumbersOf : Formulas → LiveNumbers → Type 0
AreLiveNumbersOf t l = All (IsFreeSort t) l.sorts × All (IsSymbol t) l.symbols
