use Rattle.std.proofs.Common.{◌≡◌, ◌==◌, inl, inr, Bool, true, false, ◌||◌, if◌then◌else◌, List, [], ◌∷◌, ◌++◌, get_or, refl, ap, sym, ◌∙◌}
use Rattle.std.proofs.lemmas.Bool.Decides.{eqb_tells}
use Rattle.std.proofs.lemmas.List.Folds.{list_any-append, list_any_more}
use Rattle.smt_terms.specs.declared.ids.SymId.{SymId}
use Rattle.script_terms.specs.SymbolClauses.{has_symbol}
use Rattle.script_terms.proofs.terms.annotations.set_of.Goals as goal

or_nothing : (a b : Bool) → (a || (b || false)) ≡ (a || b)
or_nothing a true = refl
or_nothing a false = refl

settled : (a b : Bool) → a ≡ true → a ≡ (a || b)
settled true b e = refl
settled false b e = absurd (cc)

unsettled : (a b : Bool) → b ≡ false → a ≡ (a || b)
unsettled true b e = refl
unsettled false true e = absurd (cc)
unsettled false false e = refl

-- a symbol more
held_more : (b : Bool) (held : List SymId) (x f : SymId) → has_symbol held x ≡ b → has_symbol (if b then held else (held ++ x ∷ [])) f ≡ (has_symbol held f || (f.0 == x.0))
held_more false held x f is = list_any-append (λ g. f.0 == g.0) held (x ∷ []) ∙ or_nothing (has_symbol held f) (f.0 == x.0)
held_more true held x f is = elim (eqb_tells f.0 x.0) [
  | inl same ↦ settled (has_symbol held f) (f.0 == x.0) (ap (λ n. has_symbol held (record { 0 = n })) same.1 ∙ is)
  | inr other ↦ unsettled (has_symbol held f) (f.0 == x.0) other.0
]

pub loop-symbol-preserved : goal.loop-symbol-preserved
loop-symbol-preserved c f =
    let x = get_or c.args.symbols.now c.loop-symbol.symbol-index (record { 0 = 0 }) in
    ap (λ ks. has_symbol ks f) c.in_ok-insert.ensures.keys
    ∙ held_more (has_symbol c.loop-symbol.set.keys x) c.loop-symbol.set.keys x f refl
    ∙ ap (λ b. b || (f.0 == x.0)) (c.loop-symbol.invariant f)
    ∙ sym (list_any_more (λ g. f.0 == g.0) c.args.symbols.now c.loop-symbol.symbol-index (record { 0 = 0 }) c.loop-symbol-test.true)
