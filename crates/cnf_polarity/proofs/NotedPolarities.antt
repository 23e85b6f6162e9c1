-- Marks of the nodes of an order, which is gone through from its end.
use Rattle.std.proofs.Common.{◌≡◌, ℕ, suc, ◌<◌, ◌≤◌, Bool, true, false, ◌&&◌, ◌||◌, List, [], ◌∷◌, ◌++◌, take, drop, length, get_or, take-append-drop, refl, ap, sym, ◌∙◌, arith, drop-cons, drop_of_length-le}
use Rattle.std.proofs.lemmas.List.{map-append}
use Rattle.smt_terms.specs.declared.ids.NodeId.{NodeId}
use Rattle.smt_terms.specs.Equal.{term_eq}
use Rattle.term_table.specs.Formulas.{Formulas, tree, trees_at, IsNode, IsTable}
use Rattle.term_groups.specs.Parts.{collected, AreParts}
use Rattle.cnf_polarity.specs.declared.polarities.Polarities.{Polarities}
use Rattle.cnf_polarity.specs.Cnf.{occurrences, occurs}
use Rattle.cnf_polarity.specs.Marks.{Marks, has_sign, marked, AddsMark, passes_on}
use Rattle.cnf_polarity.specs.Shapes.{has_connective}
use Rattle.cnf_polarity.proofs.GivenPolarities.{polarities_in, given, given-is, given-behind}
use Rattle.cnf_polarity.proofs.PassedMarks.{mark-added}

-- the marks are what the root and these nodes give
abbrev pub Noted : Formulas → NodeId → List NodeId → Marks → Type 0
Noted t root ks ms = (k : NodeId) (s : Bool) → IsNode t k → has_sign s (marked ms k) ≡ given (tree t root) (trees_at t ks) s (tree t k)

abbrev pub only_positive : Polarities
only_positive = record { positive = true; negative = false }

-- at first, those of the root
pub noted-root : (t : Formulas) → IsTable t → (root : NodeId) (old new : Marks) (n : ℕ) (ks : List NodeId) → old ≡ [] → length ks ≤ n → IsNode t root → AddsMark old new root only_positive → Noted t root (drop n ks) new
noted-root t table root old new n ks empty le node adds k s there =
    mark-added t table old new root only_positive adds node k s there
    ∙ ap (λ (ms : Marks). has_sign s (marked ms k) || (has_sign s only_positive && term_eq (tree t root) (tree t k))) empty
    ∙ by s
    ∙ ap (λ js. given (tree t root) (trees_at t js) s (tree t k)) (sym (drop_of_length-le ks le))
  where
    by : (x : Bool) → (has_sign x (marked [] k) || (has_sign x only_positive && term_eq (tree t root) (tree t k))) ≡ given (tree t root) [] x (tree t k)
    by true = refl
    by false = refl

same-polarities : (p q : Polarities) → p.positive ≡ q.positive → p.negative ≡ q.negative → p ≡ q
same-polarities p q e f = λ i. record { positive = e i; negative = f i }

split-at : (t : Formulas) (ks : List NodeId) (n : ℕ) (d : NodeId) → n < length ks → trees_at t ks ≡ trees_at t (take n ks) ++ tree t (get_or ks n d) ∷ trees_at t (drop (suc n) ks)
split-at t ks n d lt =
    ap (trees_at t) (sym (take-append-drop n ks) ∙ ap (λ js. take n ks ++ js) (drop-cons ks n d lt))
    ∙ map-append (tree t) (take n ks) (get_or ks n d ∷ drop (suc n) ks)

module _ (t : Formulas) (root : NodeId) (ks : List NodeId) (parts : AreParts has_connective (tree t root) (trees_at t ks)) (reached : trees_at t ks ≡ collected has_connective (λ _. true) (tree t root)) where
  -- and then those of one node more, whose own marks are known
  pub noted-more : (place n : ℕ) (d : NodeId) (old new : Marks) → place ≡ suc n → n < length ks → IsNode t (get_or ks n d) → Noted t root (drop place ks) old
      → ((k : NodeId) (s : Bool) → IsNode t k → has_sign s (marked new k) ≡ (has_sign s (marked old k) || passes_on (marked old (get_or ks n d)) s (tree t k) (tree t (get_or ks n d))))
      → Noted t root (drop n ks) new
  noted-more place n d old new at lt node noted passed k s there =
      let id = get_or ks n d in
      let behind = trees_at t (drop (suc n) ks) in
      let own : marked old id ≡ polarities_in (occurrences true (tree t root)) (tree t id) =
      same-polarities (marked old id) (polarities_in (occurrences true (tree t root)) (tree t id)) (own-sign true) (own-sign false) in
      passed k s there
      ∙ ap (λ b. b || passes_on (marked old id) s (tree t k) (tree t id)) (noted k s there ∙ ap (λ m. given (tree t root) (trees_at t (drop m ks)) s (tree t k)) at)
      ∙ ap (λ p. given (tree t root) behind s (tree t k) || passes_on p s (tree t k) (tree t id)) own
      ∙ ap (λ js. given (tree t root) (trees_at t js) s (tree t k)) (sym (drop-cons ks n d lt))
    where
      own-sign : (s : Bool) → has_sign s (marked old (get_or ks n d)) ≡ occurs s (tree t (get_or ks n d)) (occurrences true (tree t root))
      own-sign s =
          noted (get_or ks n d) s node ∙ ap (λ m. given (tree t root) (trees_at t (drop m ks)) s (tree t (get_or ks n d))) at
          ∙ given-behind (tree t root) (trees_at t ks) parts reached (trees_at t (take n ks)) (tree t (get_or ks n d)) (trees_at t (drop (suc n) ks)) (split-at t ks n d lt) s

  -- and last those of all nodes
  pub noted-all : (place : ℕ) (ms : Marks) → place ≤ 0 → Noted t root (drop place ks) ms → (k : NodeId) (s : Bool) → IsNode t k → has_sign s (marked ms k) ≡ occurs s (tree t k) (occurrences true (tree t root))
  noted-all place ms le noted k s there =
      noted k s there ∙ ap (λ m. given (tree t root) (trees_at t (drop m ks)) s (tree t k)) (none place le) ∙ given-is (tree t root) (trees_at t ks) parts reached s (tree t k)
    where
      none : (n : ℕ) → n ≤ 0 → n ≡ 0
      none n le = omega arith
