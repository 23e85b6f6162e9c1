-- The complement of the formula of a node, by its operator.
use Rattle.std.proofs.Common.{◌≡◌, Bool, not, [], ◌∷◌, List, Some, refl, ap, sym, ◌∙◌}
use Rattle.smt_terms.specs.declared.op.Op.{Op}
use Rattle.smt_terms.specs.declared.op.Op.TheVariants.{Truth, Not}
use Rattle.smt_terms.specs.Sorts.{bool}
use Rattle.smt_terms.specs.Term.{op, Term, apply, Terms, none, ◌⨾◌, terms, over}
use Rattle.smt_terms.specs.Rank.{shape, sort_of, sorts_of}
use Rattle.smt_terms.specs.Connectives.{truth_term, opposite}
use Rattle.smt_terms.proofs.Ranked.{rank-takes}
use Rattle.smt_terms.proofs.Sorted.{applied, sorted}
use Rattle.term_table.specs.Formulas.{Formulas, Kind, kind, theory, applied as applied_kind, filled, binder, kind_term, term_over, operands}
use Rattle.term_table.proofs.Operators.{kind-theory}
use Rattle.cnf_polarity.specs.Cnf.{complement}

-- ---- of a truth value

no-operands : (ts : Terms) → sorts_of ts ≡ Some [] → ts ≡ none
no-operands none e = refl
no-operands (t ⨾ ts) e = let a = sorted t ts [] e in let never : [] ≡ a.sort ∷ a.sorts = a.all in absurd cc

alone : (u : Term) (us : List Term) (b : Bool) → u ≡ over (op (Truth b)) us → sort_of u ≡ Some bool → u ≡ truth_term b
unfolding shape
alone u us b e has =
    let a = applied (op (Truth b)) (terms us) bool (ap sort_of (sym e) ∙ has) in
    let takes = rank-takes (op (Truth b)) a.sorts bool a.rank in
    let empty : terms us ≡ none = no-operands (terms us) (a.operands ∙ ap Some takes.0) in
    e ∙ ap (apply (op (Truth b))) empty

pub complement-truth : (u : Term) (us : List Term) (b : Bool) → u ≡ over (op (Truth b)) us → sort_of u ≡ Some bool → truth_term (not b) ≡ complement u
complement-truth u us b e has = sym (ap complement (alone u us b e has))

-- ---- of another formula

never-truth : (t : Formulas) (p : Op) (u : Term) → u ≡ term_over t p (operands u) → ((b : Bool) → p ≡ Truth b → ⊥) → (b : Bool) → u ≡ truth_term b → ⊥
never-truth t p u term other b is = by (kind p) refl
  where
    by : (k : Kind) → kind p ≡ k → ⊥
    by (theory q) e =
        let same : over (op q) (operands u) ≡ truth_term b = sym (term ∙ ap (λ l. kind_term t.symbols t.sorts l (operands u)) e) ∙ is in
        let head : op q ≡ op (Truth b) = cc in
        let one : q ≡ Truth b = cc in
        other b (kind-theory p q e ∙ one)
    by (applied_kind f) e = let same = sym (term ∙ ap (λ l. kind_term t.symbols t.sorts l (operands u)) e) ∙ is in absurd cc
    by (filled s) e = let same = sym (term ∙ ap (λ l. kind_term t.symbols t.sorts l (operands u)) e) ∙ is in absurd cc
    by (binder q) e = let same = sym (term ∙ ap (λ l. kind_term t.symbols t.sorts l (operands u)) e) ∙ is in absurd cc

complement-plain : (u : Term) → ((b : Bool) → u ≡ truth_term b → ⊥) → opposite u ≡ complement u
complement-plain (apply (op (Truth b)) none) other = absurd (other b refl)
complement-plain (apply (op Not) (t ⨾ none)) other = refl
complement-plain _ other = refl

pub complement-other : (t : Formulas) (p : Op) (u : Term) → u ≡ term_over t p (operands u) → ((b : Bool) → p ≡ Truth b → ⊥) → opposite u ≡ complement u
complement-other t p u term other = complement-plain u (never-truth t p u term other)
