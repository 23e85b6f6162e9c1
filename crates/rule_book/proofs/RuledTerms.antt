-- Terms over rewritten subterms.
use Rattle.std.proofs.Common.{◌≡◌, ℕ, suc, ◌<◌, true, false, List, [], ◌∷◌, length, get_or, slice_get, All, Option, Some, None, Bor, option_copied, IsSome, IsOk, inr, refl, ap, sym, ◌∙◌, subst, arith}
use Rattle.std.specs.Prelude.{is_some, unwrap_or}
use Rattle.std.proofs.lemmas.List.Elements.{All-head, All-tail}
use Rattle.smt_terms.specs.declared.ids.NodeId.{NodeId}
use Rattle.smt_terms.specs.declared.op.Op.{Op}
use Rattle.smt_terms.specs.Made.{made}
use Rattle.smt_terms.specs.Rank.{rank, sort_of, sorts_of, IsWellSorted}
use Rattle.smt_terms.specs.Sorts.{Name, Sort, bool}
use Rattle.smt_terms.specs.Term.{universal, existential, Head, op, symbol, const_array, Term, apply, quantified, Terms, none, ◌⨾◌, list, terms, over}
use Rattle.smt_terms.proofs.Sorted.{applied, sorted, quantified_sort}
use Rattle.smt_terms.proofs.StoredTerms.{fine_term}
use Rattle.smt_values.specs.SortIds.{sort_at}
use Rattle.term_table.specs.Formulas.{Formulas, tree, trees_at, symbol_at, operands, sort_or_bool, sorts_in, Kind, theory, applied as applied_kind, filled as filled_kind, binder, kind, kind_term, kind_rank, term_over, rank_over, IsNode, AreNodes, IsTable}
use Rattle.term_walk.specs.declared.kept.Place.{Place}
use Rattle.term_walk.specs.Walking.{AreRelated}
use Rattle.normal_forms.specs.Results.{AreResults}
use Rattle.normal_forms.specs.Shape.{is_universally_quantified, quantifier_seen, variables_of, body_in}
use Rattle.term_walk.specs.Binders.{is_quantified}
use Rattle.normal_forms.proofs.KeptResults.{each-related, nodes-of-results}
use Rattle.rule_book.specs.Filling.{remade, with_operands}
use Rattle.rule_book.specs.Rewriting.{Replaces, Rewrites, RewritesEach, RewritingKeepsValues}
use Rattle.rule_book.specs.RuleLaws.{sorts_of_terms}
use Rattle.rule_book.specs.Ruled.{answer_for, in_place_of}
use Rattle.rule_book.specs.RuledNodes.{IsRuled}
use Rattle.rule_book.specs.Soundness.{hole_sort, MayReplace}
use Rattle.rule_book.specs.Template.{Template, filled, template_sort}
use Rattle.rule_book.specs.Told.{IsBookAnswer}
use Rattle.rule_book.specs.View.{TermView, view_of, view_holes}
use Rattle.rule_book.proofs.Fillings.{sorted-trees}
use Rattle.rule_book.proofs.ViewLaws.{holes-have-sorts}

-- ---- a head over operands of the same sorts

same-list : (ts : Terms) → terms (list ts) ≡ ts
same-list none = refl
same-list (t ⨾ ts) = ap (λ us. t ⨾ us) (same-list ts)

sorts-told : (us : List Term) (ss : List Sort) → sorts_of (terms us) ≡ Some ss → sorts_in us ≡ ss
sorts-told [] ss e = cc
sorts-told (u ∷ us) ss e =
    let parts = sorted u (terms us) ss e in
    let first : sort_or_bool (sort_of u) ≡ parts.sort = ap sort_or_bool parts.first in
    (λ i. first i ∷ sorts-told us parts.sorts parts.others i) ∙ sym parts.all

ranked-so : (h : Head) (us vs : List Term) → IsWellSorted (over h us) → sorts_in vs ≡ sorts_in us → IsOk (rank h (sorts_in vs))
ranked-so h us vs fine same =
    let f = fine_term (over h us) fine in
    let parts = applied h (terms us) f.sort f.has in
    subst IsOk (sym (ap (rank h) (same ∙ sorts-told us parts.sorts parts.operands) ∙ parts.rank)) refl

record IsHead (t : Formulas) (p : Op) (h : Head) : Type 0 where
  term : (us : List Term) → term_over t p us ≡ over h us
  rank : (us : List Term) → rank_over t p us ≡ rank h (sorts_in us)

head-of : (t : Formulas) (p : Op) (h : Head) (ts : Terms) → apply h ts ≡ term_over t p (list ts) → IsHead t p h
head-of t p h ts seen = by (kind p) refl
  where
    by : (k : Kind) → kind p ≡ k → IsHead t p h
    by (theory q) e =
        let whole : apply h ts ≡ over (op q) (list ts) = seen ∙ ap (λ k. kind_term t.symbols t.sorts k (list ts)) e in
        let same : op q ≡ h = cc in
        record {
          term = λ us. ap (λ k. kind_term t.symbols t.sorts k us) e ∙ ap (λ g. over g us) same;
          rank = λ us. ap (λ k. kind_rank t.symbols t.sorts k us) e ∙ ap (λ g. rank g (sorts_in us)) same;
        }
    by (applied_kind f) e =
        let whole : apply h ts ≡ over (symbol (symbol_at t f)) (list ts) = seen ∙ ap (λ k. kind_term t.symbols t.sorts k (list ts)) e in
        let same : symbol (symbol_at t f) ≡ h = cc in
        record {
          term = λ us. ap (λ k. kind_term t.symbols t.sorts k us) e ∙ ap (λ g. over g us) same;
          rank = λ us. ap (λ k. kind_rank t.symbols t.sorts k us) e ∙ ap (λ g. rank g (sorts_in us)) same;
        }
    by (filled_kind s) e =
        let whole : apply h ts ≡ over (const_array (sort_at t.sorts s)) (list ts) = seen ∙ ap (λ k. kind_term t.symbols t.sorts k (list ts)) e in
        let same : const_array (sort_at t.sorts s) ≡ h = cc in
        record {
          term = λ us. ap (λ k. kind_term t.symbols t.sorts k us) e ∙ ap (λ g. over g us) same;
          rank = λ us. ap (λ k. kind_rank t.symbols t.sorts k us) e ∙ ap (λ g. rank g (sorts_in us)) same;
        }
    by (binder q) e = let whole = seen ∙ ap (λ k. kind_term t.symbols t.sorts k (list ts)) e in absurd cc

pub record IsOver (t : Formulas) (p : Op) (u : Term) (vs : List Term) : Type 0 where
  pub ranked : IsOk (rank_over t p vs)
  pub term : remade (term_over t p vs) ≡ with_operands u vs

pub over-operands : (t : Formulas) (p : Op) (u : Term) (vs : List Term) → IsWellSorted u → is_quantified u ≡ false → u ≡ term_over t p (operands u) → sorts_in vs ≡ sorts_in (operands u) → IsOver t p u vs
over-operands t p (quantified q xs b) vs fine plain seen same = absurd cc
over-operands t p (apply h ts) vs fine plain seen same =
    let is : IsHead t p h = head-of t p h ts seen in
    record {
      ranked = subst IsOk (sym (is.rank vs)) (ranked-so h (list ts) vs (subst (λ us. IsWellSorted (apply h us)) (sym (same-list ts)) fine) same);
      term = ap remade (is.term vs);
    }

-- ---- results of operands

each-rewrites : (ns : List Name) (t : Formulas) (kids ids : List NodeId) → length ids ≡ length kids → ((i : ℕ) (d : NodeId) → i < length kids → IsRuled ns t (tree t (get_or kids i d)) (get_or ids i d)) → RewritesEach ns (terms (trees_at t kids)) (terms (trees_at t ids))
each-rewrites ns t [] [] count each = refl
each-rewrites ns t [] (j ∷ ids) count each = absurd (omega arith)
each-rewrites ns t (k ∷ kids) [] count each = absurd (omega arith)
each-rewrites ns t (k ∷ kids) (j ∷ ids) count each = (
  tree t j,
  (
    terms (trees_at t ids),
    (
      refl,
      (
        (each 0 k (omega arith)).term,
        each-rewrites ns t kids ids (omega arith) (λ i d lt. each (suc i) d (let below = lt in omega arith)),
      ),
    ),
  ),
)

below-nodes : (t : Formulas) (a : NodeId) (kids : List NodeId) → IsNode t a → All (λ (k : NodeId). k.0 < a.0) kids → AreNodes t kids
below-nodes t a kids node below i d lt = let less = below i d lt in omega arith

same-sorts : RewritingKeepsValues → (ns : List Name) (us vs : List Term) → All IsWellSorted us → RewritesEach ns (terms us) (terms vs) → sorts_in vs ≡ sorts_in us
same-sorts law ns [] [] fine r = refl
same-sorts law ns [] (v ∷ vs) fine r = absurd cc
same-sorts law ns (u ∷ us) [] fine r = let there : none ≡ r.0 ⨾ r.1.0 = r.1.1.0 in absurd cc
same-sorts law ns (u ∷ us) (v ∷ vs) fine r =
    let there : v ⨾ terms vs ≡ r.0 ⨾ r.1.0 = r.1.1.0 in
    let first : v ≡ r.0 = cc in
    let others : terms vs ≡ r.1.0 = cc in
    let sort : sort_of r.0 ≡ sort_of u = (law ns u r.0 (All-head IsWellSorted u us fine) r.1.1.1.0).sort in
    let here : sort_or_bool (sort_of v) ≡ sort_or_bool (sort_of u) = ap (λ w. sort_or_bool (sort_of w)) first ∙ ap sort_or_bool sort in
    let behind = same-sorts law ns us vs (All-tail IsWellSorted u us fine) (subst (λ ws. RewritesEach ns (terms us) ws) (sym others) r.1.1.1.1) in
    λ i. here i ∷ behind i

module _ {ns : List Name} (t : Formulas) (id : NodeId) (ks : List (Place NodeId)) (kids ids : List NodeId)
    (related : AreRelated (IsRuled ns) t ks) (found : AreResults ks kids ids) where
  kids-rewrite : RewritesEach ns (terms (trees_at t kids)) (terms (trees_at t ids))
  kids-rewrite = each-rewrites ns t kids ids found.number (each-related (IsRuled ns) t ks kids ids related found)

  pub results-nodes : AreNodes t ids
  results-nodes = nodes-of-results (IsRuled ns) t ks kids ids related found (λ u k is. is.node)

  pub results-rewrite : trees_at t kids ≡ operands (tree t id) → RewritesEach ns (terms (operands (tree t id))) (terms (trees_at t ids))
  results-rewrite are = subst (λ us. RewritesEach ns (terms us) (terms (trees_at t ids))) are kids-rewrite

  pub results-sorts : RewritingKeepsValues → IsTable t → IsNode t id → All (λ (k : NodeId). k.0 < id.0) kids → trees_at t kids ≡ operands (tree t id) → sorts_in (trees_at t ids) ≡ sorts_in (operands (tree t id))
  results-sorts law table node below are =
      same-sorts law ns (trees_at t kids) (trees_at t ids) (sorted-trees t kids table (below-nodes t id kids node below)) kids-rewrite ∙ ap sorts_in are

-- ---- a rewritten term by its rewritten subterms

applied-rewrites : (ns : List Name) (u v : Term) (us : List Term) → is_quantified u ≡ false → RewritesEach ns (terms (operands u)) (terms us) → Replaces ns (with_operands u us) v → Rewrites ns u v
applied-rewrites ns (quantified q xs b) v us plain each replaces = absurd cc
applied-rewrites ns (apply h ts) v us plain each replaces = (terms us, subst (λ ws. RewritesEach ns ws (terms us)) (same-list ts) each, replaces)

pub applied-ruled : {ns : List Name} (t : Formulas) (u made : Term) (us : List Term) (k : NodeId) → is_quantified u ≡ false → RewritesEach ns (terms (operands u)) (terms us) → made ≡ with_operands u us → IsNode t k → Replaces ns made (tree t k) → IsRuled ns t u k
applied-ruled {ns} t u made us k plain each is node replaces =
    record { node = node; term = applied-rewrites ns u (tree t k) us plain each (subst (λ w. Replaces ns w (tree t k)) is replaces) }

quantified-rewrites : (ns : List Name) (u b v : Term) → is_quantified u ≡ true → Rewrites ns (body_in u) b → v ≡ quantified (quantifier_seen (is_universally_quantified u)) (variables_of u) b → Rewrites ns u v
quantified-rewrites ns (apply h ts) b v quant rewrites is = absurd cc
quantified-rewrites ns (quantified universal xs t) b v quant rewrites is = (b, rewrites, is)
quantified-rewrites ns (quantified existential xs t) b v quant rewrites is = (b, rewrites, is)

pub quantified-ruled : {ns : List Name} (s t : Formulas) (u : Term) (b r k : NodeId) → is_quantified u ≡ true → tree s b ≡ body_in u → IsRuled ns s (tree s b) r → IsNode t k → tree t k ≡ quantified (quantifier_seen (is_universally_quantified u)) (variables_of u) (tree s r) → IsRuled ns t u k
quantified-ruled {ns} s t u b r k quant body is node term =
    record { node = node; term = quantified-rewrites ns u (tree s r) (tree t k) quant (subst (λ w. Rewrites ns w (tree s r)) body is.term) term }

pub ruled-at : {ns : List Name} (t : Formulas) (u v : Term) (k : NodeId) → u ≡ v → IsRuled ns t u k → IsRuled ns t v k
ruled-at {ns} t u v k same is = subst (λ w. IsRuled ns t w k) same is

pub quantified-bool : (u : Term) → is_quantified u ≡ true → IsWellSorted u → (sort_of u ≡ Some bool) × (sort_of (body_in u) ≡ Some bool)
quantified-bool (apply h ts) quant fine = absurd cc
quantified-bool (quantified q xs b) quant fine =
    let f = fine_term (quantified q xs b) fine in
    let parts = quantified_sort q xs b f.sort f.has in
    (f.has ∙ ap (λ s. Some s) parts.sort, parts.body)

pub copied-some : {T : Type 0} (o : Option (Bor T)) → is_some (option_copied o) ≡ true → is_some o ≡ true
copied-some (Some r) h = refl
copied-some None h = h

-- ---- what takes the place of a term

pub replaces-filled : {ns : List Name} (t : Term) (v : TermView) (p : Template) (u : Term) → view_of t ≡ Some v → IsBookAnswer ns v (Some p) → filled (slice_get (view_holes t)) p ≡ Some u → Replaces ns t u
replaces-filled {ns} t v p u seen answer fills = record {
  replaced = inr (record { view = v; template = p; viewed = seen; sound = answer.sound; filled = fills });
  told = λ eight. sym (ap (λ o. unwrap_or o t) fills) ∙ ap (in_place_of t) (answer.told eight ∙ ap (answer_for ns) (sym seen));
}

or-bool : (o : Option Sort) → sort_or_bool o ≡ unwrap_or o bool
or-bool (Some s) = refl
or-bool None = refl

same-sorts-of : (us : List Term) → sorts_of_terms us ≡ sorts_in us
same-sorts-of [] = refl
same-sorts-of (u ∷ us) = λ i. sym (or-bool (sort_of u)) i ∷ same-sorts-of us i

-- a template that may be put there has a sort over the terms of the holes
pub sorted-template : (t : Term) (v : TermView) (p : Template) (us : List Term) → view_of t ≡ Some v → MayReplace v p → us ≡ view_holes t → IsSome (template_sort (slice_get (sorts_in us)) p)
sorted-template t v p us seen may are =
    let there : hole_sort v.cells ≡ slice_get (sorts_in us) = λ k i. (holes-have-sorts t v seen i ∙ ap (λ ss. slice_get ss i) (same-sorts-of (view_holes t) ∙ ap sorts_in (sym are))) k in
    ap (λ holes. is_some (template_sort holes p)) (sym there) ∙ ap is_some may.sort
