-- Flags among the symbols of a table, one symbol after the other.
use Rattle.std.proofs.Common.{◌≡◌, ◌∙◌, ap, ℕ, ◌+◌, ◌<◌, ◌≤◌, Bool, cond, List, [], ◌∷◌, ◌++◌, map, filter, take, get_or, length}
use Rattle.std.proofs.lemmas.List.{map_more, take_all}
use Rattle.std.proofs.lemmas.List.Elements.{filter-append}
use Rattle.smt_terms.specs.declared.ids.SymId.{SymId}
use Rattle.smt_terms.specs.Sorts.{Symbol}
use Rattle.term_table.specs.Formulas.{Formulas, symbol_at}
use Rattle.models.specs.LiveRoots.{is_flag}

pub flags_more : (t : Formulas) (fs : List SymId) (i : ℕ) (d : SymId) (b : Bool) → i < length fs → is_flag (symbol_at t (get_or fs i d)) ≡ b
    → filter is_flag (map (symbol_at t) (take (i + 1) fs)) ≡ filter is_flag (map (symbol_at t) (take i fs)) ++ cond b (symbol_at t (get_or fs i d) ∷ []) []
flags_more t fs i d b less e =
    let before = map (symbol_at t) (take i fs) in
    let f = symbol_at t (get_or fs i d) in
    ap (filter is_flag) (map_more (symbol_at t) fs i d less)
    ∙ filter-append is_flag before (f ∷ [])
    ∙ ap (λ c. filter is_flag before ++ cond c (f ∷ []) []) e

pub flags_all : (t : Formulas) (fs gs : List SymId) (i : ℕ) (sig : List Symbol) → fs ≡ gs → map (symbol_at t) gs ≡ sig → length fs ≤ i → filter is_flag (map (symbol_at t) (take i fs)) ≡ filter is_flag sig
flags_all t fs gs i sig listed same past = ap (λ (hs : List SymId). filter is_flag (map (symbol_at t) hs)) (take_all i fs past ∙ listed) ∙ ap (filter is_flag) same
