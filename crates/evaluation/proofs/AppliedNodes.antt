-- What the operator of a node says of its operands and of its value.
use Rattle.std.proofs.Common.{◌≡◌, ◌∙◌, sym, ap, subst, refl, ◌<◌, false, List, [], ◌∷◌, length, get_or, Option, Some, None, Ok, arith}
use Rattle.std.specs.Prelude.{unwrap_or}
use Rattle.smt_terms.specs.declared.ids.NodeId.{NodeId}
use Rattle.smt_terms.specs.declared.ids.SortId.{SortId}
use Rattle.smt_terms.specs.declared.ids.SymId.{SymId}
use Rattle.smt_terms.specs.declared.op.Op.{Op}
use Rattle.smt_terms.specs.declared.op.Op.TheVariants.{Sym, Forall, Exists, ConstArray}
use Rattle.smt_terms.specs.Models.{Model, symbol_value}
use Rattle.smt_terms.specs.Operators.{first_sort}
use Rattle.smt_terms.specs.Rank.{shape_of, rank, sort_of, sorts_of}
use Rattle.smt_terms.specs.Sorts.{Sort, Symbol}
use Rattle.smt_terms.specs.Takes.{Takes}
use Rattle.smt_terms.specs.Term.{Head, op, symbol, Term, apply, quantified, Terms, none, ◌⨾◌, list, terms}
use Rattle.smt_terms.specs.Val.{no_variables, head_value}
use Rattle.smt_terms.specs.Values.{Value}
use Rattle.smt_terms.proofs.Keeping.{the_sort}
use Rattle.smt_terms.proofs.Ranked.{rank-takes}
use Rattle.smt_terms.proofs.Sorted.{applied, sorted}
use Rattle.smt_terms.proofs.Tests.{both_true}
use Rattle.term_table.specs.Formulas.{Formulas, theory, kind, kind_term, tree, trees_at, term_over, operands, symbol_at, no_tree, IsNode, IsTable}
use Rattle.term_walk.specs.Binders.{is_quantified}
use Rattle.evaluation.specs.Operated.{operand_sorts, applied_at}

-- ---- a term with a head

pub record IsHeaded (u : Term) (h : Head) : Type 0 where
  pub sort : Sort
  pub takes : Takes (shape_of h) (operand_sorts u) sort
  pub ranked : rank h (operand_sorts u) ≡ Ok sort
  pub value : (m : Model) (vs : List Value) → applied_at m u vs ≡ head_value m no_variables h (operand_sorts u) vs

headed-apply : (h : Head) (ts : Terms) (s : Sort) → sort_of (apply h ts) ≡ Some s → IsHeaded (apply h ts) h
headed-apply h ts s e =
    let found = applied h ts s e in
    let ranked : rank h (unwrap_or (sorts_of ts) []) ≡ Ok s = ap (λ o. rank h (unwrap_or o [])) found.operands ∙ found.rank in
    record { sort = s; takes = rank-takes h (unwrap_or (sorts_of ts) []) s ranked; ranked = ranked; value = λ m vs. refl }

pub headed : (t : Formulas) → IsTable t → (k : NodeId) → IsNode t k → (h : Head) (ts : Terms) → tree t k ≡ apply h ts → IsHeaded (tree t k) h
headed t table k node h ts e =
    let s = the_sort (sort_of (tree t k)) (both_true _ _ (table.sorted k.0 node)).0 in
    subst (λ u. IsHeaded u h) (sym e) (headed-apply h ts s.0 (ap sort_of (sym e) ∙ s.1))

module _ (t : Formulas) (table : IsTable t) (k : NodeId) (node : IsNode t k) where
  pub of-operator : (o p : Op) → kind p ≡ theory p → o ≡ p → tree t k ≡ term_over t o (operands (tree t k)) → IsHeaded (tree t k) (op p)
  of-operator o p theory_kind same e =
      headed t table k node (op p) (terms (operands (tree t k)))
      (e ∙ ap (λ q. kind_term t.symbols t.sorts q (operands (tree t k))) (ap kind same ∙ theory_kind))

  pub of-symbol : (o : Op) (f : SymId) → o ≡ Sym f → tree t k ≡ term_over t o (operands (tree t k)) → IsHeaded (tree t k) (symbol (symbol_at t f))
  unfolding kind
  of-symbol o f same e =
      headed t table k node (symbol (symbol_at t f)) (terms (operands (tree t k))) (e ∙ ap (λ p. term_over t p (operands (tree t k))) same)

-- a symbol where no variable is bound
pub called : (m : Model) (f : Symbol) (ss : List Sort) (vs : List Value) → head_value m no_variables (symbol f) ss vs ≡ symbol_value m f vs
called m f ss [] = refl
called m f ss (v ∷ vs) = refl

-- ---- operators of the theories

pub record NoBinder (o : Op) : Type 0 where
  pub is_forall : o ≡ Forall → ⊥
  pub is_exists : o ≡ Exists → ⊥

pub no-binder : (t : Formulas) (o : Op) (u : Term) → is_quantified u ≡ false → u ≡ term_over t o (operands u) → NoBinder o
unfolding kind
no-binder t o u plain e = record {
  is_forall = λ same. let bound = sym plain ∙ ap is_quantified (e ∙ ap (λ p. term_over t p (operands u)) same) in cc;
  is_exists = λ same. let bound = sym plain ∙ ap is_quantified (e ∙ ap (λ p. term_over t p (operands u)) same) in cc;
}

pub theory-left : (o : Op) → ((f : SymId) → o ≡ Sym f → ⊥) → ((s : SortId) → o ≡ ConstArray s → ⊥) → NoBinder o → kind o ≡ theory o
unfolding kind
theory-left (Sym f) is_symbol is_filled n = absurd (is_symbol f refl)
theory-left (ConstArray s) is_symbol is_filled n = absurd (is_filled s refl)
theory-left Forall is_symbol is_filled n = absurd (n.is_forall refl)
theory-left Exists is_symbol is_filled n = absurd (n.is_exists refl)
theory-left _ is_symbol is_filled n = refl

-- ---- the first operand

-- a node's first operand has the first sort
record First (t : Formulas) (ks : List NodeId) (ss : List Sort) : Type 0 where
  there : 0 < length ks
  sort : (d : NodeId) (s : Sort) → sort_of (tree t (get_or ks 0 d)) ≡ Some s → s ≡ first_sort ss

first-sorted : (t : Formulas) (ks : List NodeId) (ts : Terms) → trees_at t ks ≡ list ts → 0 < length (unwrap_or (sorts_of ts) []) → First t ks (unwrap_or (sorts_of ts) [])
first-sorted t ks none e lt = absurd (omega (arith, lt))
first-sorted t [] (u ⨾ us) e lt = absurd cc
first-sorted t (j ∷ ks) (u ⨾ us) e lt = by (sorts_of (u ⨾ us)) refl lt
  where
    here : tree t j ≡ u
    here = ap (λ ws. get_or ws 0 no_tree) e

    by : (o : Option (List Sort)) → sorts_of (u ⨾ us) ≡ o → 0 < length (unwrap_or o []) → First t (j ∷ ks) (unwrap_or (sorts_of (u ⨾ us)) [])
    by None g l = absurd (omega (arith, l))
    by (Some ss) g l =
        let all = sorted u us ss g in
        record {
          there = omega arith;
          sort = λ d s told.
              let one : Some all.sort ≡ Some s = sym all.first ∙ ap sort_of (sym here) ∙ told in
              let same : all.sort ≡ s = cc in
              sym same ∙ ap first_sort (sym all.all) ∙ ap (λ o. first_sort (unwrap_or o [])) (sym g);
        }

first-of : (t : Formulas) (ks : List NodeId) (u : Term) → trees_at t ks ≡ operands u → 0 < length (operand_sorts u) → First t ks (operand_sorts u)
first-of t ks (apply h ts) e lt = first-sorted t ks ts e lt
first-of t ks (quantified q xs b) e lt = absurd (omega (arith, lt))

module _ (t : Formulas) (ks : List NodeId) (u : Term) (same : trees_at t ks ≡ operands u) (some : 0 < length (operand_sorts u)) where
  pub first-there : 0 < length ks
  first-there = (first-of t ks u same some).there

  pub first-sort : (d : NodeId) (s : Sort) → sort_of (tree t (get_or ks 0 d)) ≡ Some s → s ≡ first_sort (operand_sorts u)
  first-sort = (first-of t ks u same some).sort
