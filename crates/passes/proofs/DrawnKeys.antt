-- The constants that are drawn for a group stand among those that were kept for the first time.
use Rattle.std.proofs.Common.{◌≡◌, ◌∙◌, ap, sym, subst, ◌<◌, ◌==◌, true, false, not, List, [], ◌∷◌, ◌++◌, map, length, get_or, All}
use Rattle.std.proofs.lemmas.Bool.{ne_eqb}
use Rattle.std.proofs.lemmas.List.Elements.{All-cons, All-head, All-nil, All-tail}
use Rattle.smt_terms.specs.declared.ids.NodeId.{NodeId}
use Rattle.smt_terms.specs.declared.ids.SymId.{SymId}
use Rattle.smt_terms.specs.Equal.{name_eq}
use Rattle.smt_terms.specs.Free.{name_among, names_of}
use Rattle.smt_terms.specs.Fresh.{Supply, NeverGives}
use Rattle.smt_terms.specs.Groups.{draw_each}
use Rattle.smt_terms.specs.Rank.{has_name, are_distinct}
use Rattle.smt_terms.specs.Sorts.{Name}
use Rattle.smt_terms.specs.SubstLaws.{Later}
use Rattle.smt_terms.specs.Term.{Term}
use Rattle.smt_terms.proofs.Equal.{name_itself}
use Rattle.smt_terms.proofs.Tests.{both_false, both_true, contrary, left_true, not_true, right_true}
use Rattle.term_groups.specs.Drawing.{ConstantsAreNew}
use Rattle.term_groups.specs.Grouping.{symbols_of}
use Rattle.term_groups.specs.Seen.{named_at}
use Rattle.term_table.specs.Formulas.{Formulas, no_symbol, symbol_at}
use Rattle.term_walk.specs.Walking.{GrowsTo}
use Rattle.script_terms.proofs.Grown.{symbol_stays}
use Rattle.passes.specs.Plans.{Uses}
use Rattle.passes.specs.Removing.{keys_of, AreApart, IsKept}
use Rattle.passes.proofs.KeptOperands.{apart-both}

abbrev pub first_of : SymId × NodeId → SymId
first_of p = p.0

module _ (u : Formulas) where
  abbrev names_at : List (SymId × NodeId) → List Name
  names_at ps = names_of (symbols_of (named_at u ps))

  -- symbols of different names have different numbers
  differ-behind : (j k : SymId) → name_eq (symbol_at u k).name (symbol_at u j).name ≡ false → (j.0 == k.0) ≡ false
  differ-behind j k e =
      ne_eqb j.0 k.0
      (λ same. contrary (name_eq (symbol_at u k).name (symbol_at u j).name) (ap (λ n. name_eq (symbol_at u k).name (get_or u.symbols n no_symbol).name) same ∙ name_itself (symbol_at u k).name) e)

  differ-before : (j k : SymId) → name_eq (symbol_at u j).name (symbol_at u k).name ≡ false → (j.0 == k.0) ≡ false
  differ-before j k e =
      ne_eqb j.0 k.0
      (λ same. contrary (name_eq (symbol_at u j).name (symbol_at u k).name) (ap (λ n. name_eq (get_or u.symbols n no_symbol).name (symbol_at u k).name) same ∙ name_itself (symbol_at u k).name) e)

  none-named : (k : SymId) (ps : List (SymId × NodeId)) → has_name (symbol_at u k).name (names_at ps) ≡ false → All (λ (j : SymId). (j.0 == k.0) ≡ false) (map first_of ps)
  none-named k [] h = All-nil (λ (j : SymId). (j.0 == k.0) ≡ false)
  none-named k (p ∷ ps) h =
      let parts = both_false (name_eq (symbol_at u k).name (symbol_at u p.0).name) (has_name (symbol_at u k).name (names_at ps)) h in
      All-cons (λ (j : SymId). (j.0 == k.0) ≡ false) p.0 (map first_of ps) (differ-behind p.0 k parts.0) (none-named k ps parts.1)

  none-among : (k : SymId) (ps : List (SymId × NodeId)) → name_among (names_at ps) (symbol_at u k).name ≡ false → All (λ (j : SymId). (j.0 == k.0) ≡ false) (map first_of ps)
  none-among k [] h = All-nil (λ (j : SymId). (j.0 == k.0) ≡ false)
  none-among k (p ∷ ps) h =
      let parts = both_false (name_eq (symbol_at u p.0).name (symbol_at u k).name) (name_among (names_at ps) (symbol_at u k).name) h in
      All-cons (λ (j : SymId). (j.0 == k.0) ≡ false) p.0 (map first_of ps) (differ-before p.0 k parts.0) (none-among k ps parts.1)

  constants-apart : (ps : List (SymId × NodeId)) → are_distinct (names_at ps) ≡ true → AreApart (map first_of ps)
  constants-apart [] h = tt
  constants-apart (p ∷ ps) h =
      let parts = both_true (not (has_name (symbol_at u p.0).name (names_at ps))) (are_distinct (names_at ps)) h in
      (none-named p.0 ps (not_true (has_name (symbol_at u p.0).name (names_at ps)) parts.0), constants-apart ps parts.1)

  -- their names aren't given any more
  names-gone : (q : Supply) (ps : List (SymId × NodeId)) → ((n : Name) → name_among (names_at ps) n ≡ true → NeverGives q n) → All (λ k. NeverGives q (symbol_at u k).name) (map first_of ps)
  names-gone q [] gone = All-nil (λ k. NeverGives q (symbol_at u k).name)
  names-gone q (p ∷ ps) gone =
      let m : Name = (symbol_at u p.0).name in
      All-cons (λ k. NeverGives q (symbol_at u k).name) p.0 (map first_of ps)
      (gone m (left_true (name_eq m m) (name_among (names_at ps) m) (name_itself m)))
      (names-gone q ps (λ n among. gone n (right_true (name_eq m n) (name_among (names_at ps) n) among)))

module _ (t u : Formulas) (grows : GrowsTo t u) where
  same-name : (k : SymId) → k.0 < length t.symbols → (symbol_at u k).name ≡ (symbol_at t k).name
  same-name k is = ap (λ f. f.name) (symbol_stays t u grows k is)

  names-later : (s q : Supply) → Later s q → (es : Uses) → All (IsKept t) es → All (λ k. NeverGives s (symbol_at t k).name) (keys_of es) → All (λ k. NeverGives q (symbol_at u k).name) (keys_of es)
  names-later s q later [] are never = All-nil (λ k. NeverGives q (symbol_at u k).name)
  names-later s q later (e ∷ es) are never =
      All-cons (λ k. NeverGives q (symbol_at u k).name) e.0 (keys_of es)
      (subst (NeverGives q) (sym (same-name e.0 (All-head (IsKept t) e es are).0)) (later (symbol_at t e.0).name (All-head (λ k. NeverGives s (symbol_at t k).name) e.0 (keys_of es) never)))
      (names-later s q later es (All-tail (IsKept t) e es are) (All-tail (λ k. NeverGives s (symbol_at t k).name) e.0 (keys_of es) never))

  between : (s : Supply) (ps : List (SymId × NodeId)) → ((n : Name) → NeverGives s n → name_among (names_at u ps) n ≡ false) → (es : Uses) → All (IsKept t) es → All (λ k. NeverGives s (symbol_at t k).name) (keys_of es)
      → All (λ k. All (λ (j : SymId). (j.0 == k.0) ≡ false) (map first_of ps)) (keys_of es)
  between s ps new [] are never = All-nil (λ (k : SymId). All (λ (j : SymId). (j.0 == k.0) ≡ false) (map first_of ps))
  between s ps new (e ∷ es) are never =
      All-cons (λ (k : SymId). All (λ (j : SymId). (j.0 == k.0) ≡ false) (map first_of ps)) e.0 (keys_of es)
      (none-among u e.0 ps (subst (λ n. name_among (names_at u ps) n ≡ false) (sym (same-name e.0 (All-head (IsKept t) e es are).0)) (new (symbol_at t e.0).name (All-head (λ k. NeverGives s (symbol_at t k).name) e.0 (keys_of es) never))))
      (between s ps new es (All-tail (IsKept t) e es are) (All-tail (λ k. NeverGives s (symbol_at t k).name) e.0 (keys_of es) never))

  -- these constants were drawn for terms
  module _ (law : ConstantsAreNew) (ts : List Term) (s : Supply) (ps : List (SymId × NodeId)) (drawn : named_at u ps ≡ (draw_each ts s).symbols) where
    pub keys-apart : (es : Uses) → All (IsKept t) es → AreApart (keys_of es) → All (λ k. NeverGives s (symbol_at t k).name) (keys_of es) → AreApart (keys_of es ++ map first_of ps)
    keys-apart es are apart never =
        apart-both (keys_of es) (map first_of ps) apart
        (constants-apart u ps (subst (λ ns. are_distinct (names_of (symbols_of ns)) ≡ true) (sym drawn) (law.apart ts s)))
        (between s ps (subst (λ ns. (n : Name) → NeverGives s n → name_among (names_of (symbols_of ns)) n ≡ false) (sym drawn) (law.new ts s)) es are never)

    pub drawn-gone : All (λ k. NeverGives (draw_each ts s).names (symbol_at u k).name) (map first_of ps)
    drawn-gone = names-gone u (draw_each ts s).names ps (subst (λ ns. (n : Name) → name_among (names_of (symbols_of ns)) n ≡ true → NeverGives (draw_each ts s).names n) (sym drawn) (law.gone ts s))

    pub earlier-gone : (es : Uses) → All (IsKept t) es → All (λ k. NeverGives s (symbol_at t k).name) (keys_of es) → All (λ k. NeverGives (draw_each ts s).names (symbol_at u k).name) (keys_of es)
    earlier-gone es are never = names-later s (draw_each ts s).names (law.later ts s) es are never
