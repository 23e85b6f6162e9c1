-- Which nodes are applications of symbols with arguments.
use Rattle.std.proofs.Common.{◌≡◌, ◌<◌, ◌==◌, true, false, List, [], ◌∷◌, length, refl, ap, sym, ◌∙◌, subst, arith}
use Rattle.smt_terms.specs.declared.op.Op.{Op}
use Rattle.smt_terms.specs.declared.op.Op.TheVariants.{Sym}
use Rattle.std.proofs.lemmas.List.{length-map}
use Rattle.smt_terms.specs.declared.ids.NodeId.{NodeId}
use Rattle.smt_terms.specs.declared.ids.SymId.{SymId}
use Rattle.smt_terms.specs.Term.{symbol, Term, over}
use Rattle.term_table.specs.Formulas.{Formulas, Kind, theory, applied, filled, binder, kind, kind_term, term_over, symbol_at, tree_in, trees_at, IsOpOf, IsSymbol}
use Rattle.ackermann.specs.Removals.{is_use}

pub use-term : (t : Formulas) (f : SymId) (u : Term) (us : List Term) → u ≡ term_over t (Sym f) us → u ≡ over (symbol (symbol_at t f)) us
unfolding kind
use-term t f u us is = is

pub use-of : (t : Formulas) (f : SymId) (u : Term) (us : List Term) → 0 < length us → u ≡ term_over t (Sym f) us → is_use u ≡ true
use-of t f u [] some is = absurd (omega arith)
use-of t f u (v ∷ us) some is = ap is_use (use-term t f u (v ∷ us) is)

pub no-use : (t : Formulas) (f : SymId) (u : Term) (us : List Term) → us ≡ [] → u ≡ term_over t (Sym f) us → is_use u ≡ false
no-use t f u us none is = ap is_use (use-term t f u us is ∙ ap (over (symbol (symbol_at t f))) none)

pub other-use : (t : Formulas) (u : Term) (p : Op) (us : List Term) → ((f : SymId) → p ≡ Sym f → ⊥) → u ≡ term_over t p us → is_use u ≡ false
unfolding kind
other-use t u p us other same = ap is_use same ∙ by (kind p) refl
  where
    symbols : (q : Op) (f : SymId) → kind q ≡ applied f → q ≡ Sym f
    symbols (Sym g) f e = let same_symbol : g ≡ f = cc in ap Sym same_symbol
    symbols _ f e = absurd cc

    by : (k : Kind) → kind p ≡ k → is_use (kind_term t.symbols t.sorts (kind p) us) ≡ false
    by (theory q) e = ap (λ k. is_use (kind_term t.symbols t.sorts k us)) e
    by (applied f) e = absurd (other f (symbols p f e))
    by (filled s) e = ap (λ k. is_use (kind_term t.symbols t.sorts k us)) e
    by (binder q) e = ap (λ k. is_use (kind_term t.symbols t.sorts k us)) e

pub use-symbol : (t : Formulas) (p : Op) (f : SymId) → p ≡ Sym f → IsOpOf t p → IsSymbol t f
unfolding kind
use-symbol t p f is numbers = subst (IsOpOf t) is numbers

-- ---- operands

pub some-operands : (t : Formulas) (ks : List NodeId) (us : List Term) → trees_at t ks ≡ us → 0 < length ks → 0 < length us
some-operands t ks us same some = let n = sym (length-map ks (tree_in t.trees)) ∙ ap length same in omega (arith, n)

pub no-operands : (t : Formulas) (ks : List NodeId) (us : List Term) → trees_at t ks ≡ us → ks ≡ [] → us ≡ []
no-operands t ks us same none = sym same ∙ ap (trees_at t) none

pub some-kids : (ks : List NodeId) → (length ks == 0) ≡ false → 0 < length ks
some-kids [] e = absurd cc
some-kids (k ∷ ks) e = omega arith
