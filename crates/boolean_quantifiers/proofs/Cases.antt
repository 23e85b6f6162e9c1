-- Cases as versions, and a node that lacks a constant.
use Rattle.std.proofs.Common.{◌≡◌, ℕ, ◌<◌, ◌==◌, inl, inr, Bool, true, false, cond, if◌then◌else◌, List, [], ◌∷◌, ◌++◌, length, get_or, All, Some, None, refl, ap, sym, ◌∙◌, subst, arith, length-append}
use Rattle.std.specs.List.{list_any}
use Rattle.std.proofs.Math.ListN.{get_or-append}
use Rattle.std.proofs.Math.Seq.{get_or-append_seam}
use Rattle.std.proofs.lemmas.Bool.Decides.{eqb_tells}
use Rattle.smt_terms.specs.declared.ids.NodeId.{NodeId}
use Rattle.smt_terms.specs.Equal.{term_eq}
use Rattle.smt_terms.specs.Term.{Quantifier, Term, apply, quantified, Terms, none, ◌⨾◌}
use Rattle.smt_terms.specs.Sorts.{Variable}
use Rattle.smt_terms.proofs.Tests.{both_true, both_false}
use Rattle.term_table.specs.Formulas.{Formulas, tree, IsNode}
use Rattle.term_walk.specs.FreeLists.{has_node}
use Rattle.term_walk.specs.Walking.{GrowsTo}
use Rattle.quantifier_forms.specs.Memos.{Results, result_in}
use Rattle.quantifier_forms.proofs.Sweeps.{at-number, node-stays}
use Rattle.quantifier_forms.proofs.Stands.{same-number}
use Rattle.boolean_quantifiers.specs.declared.work.Case.{Case}
use Rattle.boolean_quantifiers.specs.declared.work.Work.{Work}
use Rattle.boolean_quantifiers.specs.contracts.work.CasePartialEq.TheImpl.{ghosts}
use Rattle.boolean_quantifiers.specs.Occurrences.{Notes, occurs, occurs_each, lacks, AreTrue}
use Rattle.boolean_quantifiers.specs.Replacing.{or_else, put, put_each, binds_image, AreImages, ArePut, Spares, Extends}
use Rattle.boolean_quantifiers.specs.Working.{single, AreCases, IsWork}
use Rattle.boolean_quantifiers.proofs.Noted.{no-notes, notes-stay}
use Rattle.boolean_quantifiers.proofs.Puts.{put-stays, are-images-stay}

-- ---- a term in which a constant doesn't occur

bound-apart : (b : Bool) (q : Quantifier) (xs : List Variable) (body new : Term) → new ≡ body → cond b (quantified q xs body) (quantified q xs new) ≡ quantified q xs body
bound-apart true q xs body new e = refl
bound-apart false q xs body new e = ap (quantified q xs) e

mutual
  pub put-apart : (c w u : Term) → occurs c u ≡ false → put ((c, w) ∷ []) u ≡ u
  put-apart c w (apply h ts) e =
      let parts = both_false (term_eq c (apply h ts)) (occurs_each c ts) e in
      ap (λ b. or_else (cond b (Some w) None) (apply h (put_each ((c, w) ∷ []) ts))) parts.0 ∙ ap (apply h) (puts-apart c w ts parts.1)
  put-apart c w (quantified q xs body) e =
      let parts = both_false (term_eq c (quantified q xs body)) (occurs c body) e in
      bound-apart (binds_image ((c, w) ∷ []) xs) q xs body (put ((c, w) ∷ []) body) (put-apart c w body parts.1)

  puts-apart : (c w : Term) (ts : Terms) → occurs_each c ts ≡ false → put_each ((c, w) ∷ []) ts ≡ ts
  puts-apart c w none e = refl
  puts-apart c w (t ⨾ ts) e =
      let parts = both_false (occurs c t) (occurs_each c ts) e in
      λ i. put-apart c w t parts.0 i ⨾ puts-apart c w ts parts.1 i

pub case-spares : (t : Formulas) (cs : List NodeId) (ns : Notes) (c : Case) → IsNode t c.variable → AreTrue t cs ns → Spares t (single c) (lacks cs ns c.variable)
case-spares t cs ns c node true_notes k there e = put-apart (tree t c.variable) (tree t c.image) (tree t k) (true_notes.lacking c.variable k node e)

-- ---- versions

pub case-same : (a b : Case) → ghosts.eq a b ≡ true → a ≡ b
case-same a b e =
    let parts = both_true (a.variable.0 == b.variable.0) (a.image.0 == b.image.0) e in
    let from = same-number a.variable.0 b.variable.0 parts.0 in
    let to = same-number a.image.0 b.image.0 parts.1 in
    λ i. record { variable = record { 0 = from i }; image = record { 0 = to i } }

more-cases : (t : Formulas) (cs : List Case) (c : Case) (m : Results) → AreImages t (single c) → AreCases t cs m → AreCases t (cs ++ c ∷ []) m
more-cases t cs c m images are = record {
  images = λ v d lt. elim (eqb_tells v (length cs)) [
    | inl same ↦ subst (λ (x : Case). AreImages t (single x)) (sym (last v d same.1)) images
    | inr apart ↦ let lt2 = before v lt apart.1 in subst (λ (x : Case). AreImages t (single x)) (sym (get_or-append cs (c ∷ []) d v lt2)) (are.images v d lt2)
  ];
  put = λ v d lt. elim (eqb_tells v (length cs)) [
    | inl same ↦ λ k r e. let no : None ≡ Some r = sym (are.unused v k (let s = same.1 in omega arith)) ∙ e in absurd cc
    | inr apart ↦ let lt2 = before v lt apart.1 in subst (λ (x : Case). ArePut t (single x) m v) (sym (get_or-append cs (c ∷ []) d v lt2)) (are.put v d lt2)
  ];
  unused = λ v k le. are.unused v k (let n = length-append cs (c ∷ []) in omega (arith, n));
}
  where
    last : (v : ℕ) (d : Case) → v ≡ length cs → get_or (cs ++ c ∷ []) v d ≡ c
    last v d same = ap (λ i. get_or (cs ++ c ∷ []) i d) same ∙ get_or-append_seam cs c [] d

    before : (v : ℕ) → v < length (cs ++ c ∷ []) → (v ≡ length cs → ⊥) → v < length cs
    before v lt apart = let n = length-append cs (c ∷ []) in omega (arith, n)

pub inserted-cases : (t : Formulas) (cs new : List Case) (c : Case) (m : Results) → AreImages t (single c) → AreCases t cs m → new ≡ (if list_any (ghosts.eq c) cs then cs else cs ++ c ∷ []) → AreCases t new m
inserted-cases t cs new c m images are e = subst (λ (ds : List Case). AreCases t ds m) (sym e) (by (list_any (ghosts.eq c) cs))
  where
    by : (b : Bool) → AreCases t (if◌then◌else◌ {A = List Case} b cs (cs ++ c ∷ [])) m
    by true = are
    by false = more-cases t cs c m images are

-- ---- after a walk in one version

pub cases-put : (old new : Formulas) (cs : List Case) (m0 m1 : Results) (v : ℕ) (c : Case) → GrowsTo old new → AreCases old cs m0 → v < length cs → ((d : Case) → get_or cs v d ≡ c) → ArePut new (single c) m1 v → Extends m0 m1 v → AreCases new cs m1
cases-put old new cs m0 m1 v c grows are within here put more = record {
  images = λ w d lt. are-images-stay old new (single (get_or cs w d)) grows (are.images w d lt);
  put = λ w d lt. elim (eqb_tells w v) [
    | inl same ↦ subst (λ (x : ℕ). ArePut new (single (get_or cs w d)) m1 x) (sym same.1) (subst (λ (x : Case). ArePut new (single x) m1 v) (sym (ap (λ i. get_or cs i d) same.1 ∙ here d)) put)
    | inr apart ↦ λ k r e. put-stays old new (single (get_or cs w d)) k r grows (are.images w d lt) (are.put w d lt k r (sym (more.others w k (λ s. apart.1 s)) ∙ e))
  ];
  unused = λ w k le. more.others w k (λ s. omega arith) ∙ are.unused w k le;
}

pub cases-stay : (old new : Formulas) (cs : List Case) (m : Results) → GrowsTo old new → AreCases old cs m → AreCases new cs m
cases-stay old new cs m grows are = record {
  images = λ v d lt. are-images-stay old new (single (get_or cs v d)) grows (are.images v d lt);
  put = λ v d lt k r e. put-stays old new (single (get_or cs v d)) k r grows (are.images v d lt) (are.put v d lt k r e);
  unused = are.unused;
}

pub work-stays : (old new : Formulas) (w : Work) → GrowsTo old new → IsWork old w → IsWork new w
work-stays old new w grows is = record {
  notes = notes-stay old new w.occurrences.candidates.keys w.occurrences.notes.entries grows is.candidates is.notes;
  candidates = λ c e. node-stays old new c grows (is.candidates c e);
  cases = cases-stay old new w.cases.keys w.memo grows is.cases;
}

pub new-work : (t : Formulas) (w : Work) → w.occurrences.notes.entries ≡ [] → All (IsNode t) w.occurrences.candidates.keys → w.cases.keys ≡ [] → w.memo ≡ [] → IsWork t w
new-work t w notes nodes cases memo = record {
  notes = subst (AreTrue t w.occurrences.candidates.keys) (sym notes) (no-notes t w.occurrences.candidates.keys);
  candidates = among w.occurrences.candidates.keys nodes;
  cases = subst (λ (cs : List Case). AreCases t cs w.memo) (sym cases) (record { images = λ v d lt. absurd (omega arith); put = λ v d lt. absurd (omega arith); unused = λ v k le. ap (λ (m : Results). result_in m v k) memo });
}
  where
    among : (cs : List NodeId) → All (IsNode t) cs → (c : NodeId) → has_node cs c ≡ true → IsNode t c
    among cs all c e =
        let place = at-number cs c e in
        let here : IsNode t (get_or cs place.0 c) = all place.0 c place.1 in
        let same : (get_or cs place.0 c).0 ≡ c.0 = place.2 c in
        omega arith
