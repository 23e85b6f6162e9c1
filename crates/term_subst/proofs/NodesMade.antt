-- What makes the nodes of a substitution: a head over operands of the same sorts, and a quantifier over other variables.
use Rattle.std.proofs.Common.{◌≡◌, ◌+◌, ◌-◌, ◌<◌, ◌==◌, Bool, true, false, List, [], ◌∷◌, ◌++◌, map, length, get_or, take, All, Option, Some, None, is_some, Ok, refl, ap, sym, ◌∙◌, subst, arith, length-append}
use Rattle.std.proofs.lemmas.Bool.Decides.{Decides-eqb}
use Rattle.std.proofs.lemmas.List.{get_or-map, length-map, take-map}
use Rattle.std.proofs.Math.Seq.{take-append_seam}
use Rattle.smt_terms.specs.declared.ids.NodeId.{NodeId}
use Rattle.smt_terms.specs.declared.ids.SymId.{SymId}
use Rattle.smt_terms.specs.declared.op.Op.{Op}
use Rattle.smt_terms.specs.declared.op.Op.TheVariants.{Sym, Neg}
use Rattle.smt_terms.specs.Sorts.{Sort, bool, int, Symbol, Variable}
use Rattle.smt_terms.specs.Term.{Quantifier, Head, op, symbol, const_array, Term, apply, quantified, Terms, none, ◌⨾◌, list, terms, over, variable}
use Rattle.smt_terms.specs.Rank.{shape, rank, rank_quantifier, sort_of, sorts_of, is_minus, are_bindable, is_regular, IsWellSorted}
use Rattle.smt_terms.specs.Made.{minus, made}
use Rattle.smt_terms.specs.Subst.{Map, image, image_or_itself, rebuilt}
use Rattle.smt_terms.proofs.Binders.{binder-rank_quantifier}
use Rattle.smt_terms.proofs.Ranked.{rank-takes}
use Rattle.smt_terms.proofs.Tests.{both_true}
use Rattle.smt_terms.proofs.Sorted.{applied as is_applied, sorted}
use Rattle.smt_values.specs.SortIds.{sort_at}
use Rattle.term_table.specs.Formulas.{Formulas, no_tree, tree, tree_in, trees_at, symbol_at, operands, binders, body, variable_of, sort_or_bool, sorts_in, Kind, kind, theory, applied, filled, binder, kind_term, kind_rank, rank_over, term_over, IsKindOf, IsOpOf, Makes, IsTable, IsNode, AreNodes}
use Rattle.term_table.proofs.Made.{makes_ranked}
use Rattle.term_table.proofs.Operators.{kind-theory}
use Rattle.term_walk.specs.Binders.{is_quantified}
use Rattle.term_subst.specs.Steps.{operands_of, bound_in, body_of, built, requantified}
use Rattle.term_subst.specs.State.{AreVariables, variables_at}

-- ---- a quantified node's operands

quantified-operands : (u : Term) → is_quantified u ≡ true → operands u ≡ map variable (bound_in u) ++ body_of u ∷ []
quantified-operands (quantified q xs t) e = refl
quantified-operands (apply h ts) e = absurd cc

get-last : (us : List Term) (v : Term) → get_or (us ++ v ∷ []) (length us) no_tree ≡ v
get-last [] v = refl
get-last (u ∷ us) v = get-last us v

variables-back : (xs : List Variable) → map variable_of (map variable xs) ≡ xs
variables-back [] = refl
variables-back (x ∷ xs) = ap (λ ys. x ∷ ys) (variables-back xs)

module _ (t : Formulas) (u : Term) (quant : is_quantified u ≡ true) (kids : List NodeId) (terms_are : trees_at t kids ≡ operands u) where
  kids_are : trees_at t kids ≡ map variable (bound_in u) ++ body_of u ∷ []
  kids_are = terms_are ∙ quantified-operands u quant

  kids_number : length kids ≡ length (map variable (bound_in u)) + 1
  kids_number = sym (length-map kids (tree_in t.trees)) ∙ ap length kids_are ∙ length-append (map variable (bound_in u)) (body_of u ∷ [])

  pub some_kids : 0 < length kids
  some_kids = let n = kids_number in omega (arith, n)

  last_place : length kids - 1 ≡ length (map variable (bound_in u))
  last_place = let n = kids_number in omega (arith, n)

  pub body-term : (d : NodeId) → tree t (get_or kids (length kids - 1) d) ≡ body_of u
  body-term d =
      let n = kids_number in
      sym (get_or-map (tree_in t.trees) kids (length kids - 1) d no_tree (omega (arith, n)))
      ∙ (λ i. get_or (kids_are i) (last_place i) no_tree) ∙ get-last (map variable (bound_in u)) (body_of u)

  front-terms : trees_at t (take (length kids - 1) kids) ≡ map variable (bound_in u)
  front-terms = sym (take-map (tree_in t.trees) (length kids - 1) kids) ∙ (λ i. take (last_place i) (kids_are i)) ∙ take-append_seam (map variable (bound_in u)) (body_of u ∷ [])

  pub front-variables : variables_at t (take (length kids - 1) kids) ≡ bound_in u
  front-variables = ap (map variable_of) front-terms ∙ variables-back (bound_in u)

  pub front-are : AreNodes t (take (length kids - 1) kids) → AreVariables t (take (length kids - 1) kids)
  front-are nodes = record { nodes = nodes; terms = front-terms ∙ ap (map variable) (sym front-variables) }

-- nodes below a node
pub nodes-below : (t : Formulas) (n : NodeId) (ks : List NodeId) → IsNode t n → All (λ k. k.0 < n.0) ks → AreNodes t ks
nodes-below t n ks node below i d lt = (let less = below i d lt in omega arith)

-- ---- a head over operands of the same sorts

pub terms-list : (ts : Terms) → terms (list ts) ≡ ts
terms-list none = refl
terms-list (t ⨾ ts) = ap (λ us. t ⨾ us) (terms-list ts)

sorts_in-some : (us : List Term) (ss : List Sort) → sorts_of (terms us) ≡ Some ss → sorts_in us ≡ ss
sorts_in-some [] ss e = cc
sorts_in-some (u ∷ us) ss e =
    let parts = sorted u (terms us) ss e in
    let rest = sorts_in-some us parts.sorts parts.others in
    (λ i. sort_or_bool (parts.first i) ∷ rest i) ∙ sym parts.all

ranks-head : (h : Head) (ts us : List Term) (s : Sort) → sort_of (over h ts) ≡ Some s → sorts_of (terms us) ≡ sorts_of (terms ts) → rank h (sorts_in us) ≡ Ok s
ranks-head h ts us s has same =
    let parts = is_applied h (terms ts) s has in
    ap (rank h) (sorts_in-some us parts.sorts (same ∙ parts.operands)) ∙ parts.rank

-- operands as they are read off a term that isn't quantified
listed-operands : (u : Term) → is_quantified u ≡ false → terms (operands u) ≡ operands_of u
listed-operands (apply h ts) e = terms-list ts
listed-operands (quantified q xs t) e = absurd cc

made-plain : (p : Op) (ts : Terms) → is_minus p ≡ false → made (op p) ts ≡ apply (op p) ts
unfolding is_minus
made-plain Neg ts e = absurd cc
made-plain _ ts e = refl

-- a symbol over some operands has no image
some-operands : (m : Map) (f : Symbol) (us : List Term) → 0 < length us → rebuilt m (symbol f) (terms us) ≡ apply (symbol f) (terms us)
some-operands m f [] lt = absurd (omega arith)
some-operands m f (u ∷ us) lt = refl

module _ (t : Formulas) (p : Op) (u : Term) (term : u ≡ term_over t p (operands u)) (plain : is_quantified u ≡ false) where
  of-kind : (l : Kind) → kind p ≡ l → u ≡ kind_term t.symbols t.sorts l (operands u)
  of-kind l e = term ∙ ap (λ j. kind_term t.symbols t.sorts j (operands u)) e

  no-binder : (q : Quantifier) → kind p ≡ binder q → ⊥
  no-binder q e = absurd (let b : is_quantified u ≡ true = ap is_quantified (of-kind (binder q) e) in cc)

  module _ (s : Sort) (has : sort_of u ≡ Some s) (us : List Term) (same : sorts_of (terms us) ≡ sorts_of (operands_of u)) where
    sorts-same : sorts_of (terms us) ≡ sorts_of (terms (operands u))
    sorts-same = same ∙ ap sorts_of (sym (listed-operands u plain))

    ranks-kind : (l : Kind) → kind p ≡ l → kind_rank t.symbols t.sorts l us ≡ Ok s
    ranks-kind (theory q) e = ranks-head (op q) (operands u) us s (sym (ap sort_of (of-kind (theory q) e)) ∙ has) sorts-same
    ranks-kind (applied f) e = ranks-head (symbol (symbol_at t f)) (operands u) us s (sym (ap sort_of (of-kind (applied f) e)) ∙ has) sorts-same
    ranks-kind (filled r) e = ranks-head (const_array (sort_at t.sorts r)) (operands u) us s (sym (ap sort_of (of-kind (filled r) e)) ∙ has) sorts-same
    ranks-kind (binder q) e = absurd (no-binder q e)

    -- the operands of a unary minus
    pub minus-operand : kind p ≡ theory Neg → (v : Term) × (us ≡ v ∷ []) × (sort_of v ≡ Some int)
    unfolding shape
    minus-operand e =
        let parts = is_applied (op Neg) (terms (operands u)) s (sym (ap sort_of (of-kind (theory Neg) e)) ∙ has) in
        let takes = rank-takes (op Neg) parts.sorts s parts.rank in
        one us (sorts-same ∙ parts.operands ∙ ap Some takes.0)
      where
        one : (vs : List Term) → sorts_of (terms vs) ≡ Some (int ∷ []) → (v : Term) × (vs ≡ v ∷ []) × (sort_of v ≡ Some int)
        one [] h = absurd cc
        one (v ∷ vs) h =
            let found = sorted v (terms vs) (int ∷ []) h in
            let first : int ≡ found.sort = cc in
            let rest : [] ≡ found.sorts = cc in
            (v, ap (λ ws. v ∷ ws) (none-left vs (found.others ∙ ap Some (sym rest))), found.first ∙ ap Some (sym first))
          where
            none-left : (ws : List Term) → sorts_of (terms ws) ≡ Some [] → ws ≡ []
            none-left [] h = refl
            none-left (w ∷ ws) h = (let found = sorted w (terms ws) [] h in absurd (let all = found.all in cc))

  pub makes-head : (s : Sort) → sort_of u ≡ Some s → (ks : List NodeId) → sorts_of (terms (trees_at t ks)) ≡ sorts_of (operands_of u) → AreNodes t ks → IsOpOf t p → is_minus p ≡ false → Makes t p ks
  makes-head s has ks same nodes numbers other = makes_ranked t p ks s nodes numbers other (sym (ranks-kind s has (trees_at t ks) same (kind p) refl))

  -- and the node's term
  pub built-head : (m : Map) (us : List Term) → is_minus p ≡ false → ((f : SymId) → kind p ≡ applied f → 0 < length us) → term_over t p us ≡ built m u (terms us)
  built-head m us other some = by (kind p) refl
    where
      by : (l : Kind) → kind p ≡ l → kind_term t.symbols t.sorts l us ≡ built m u (terms us)
      by (theory q) e = sym (made-plain q (terms us) (ap is_minus (sym (kind-theory p q e)) ∙ other)) ∙ ap (λ v. built m v (terms us)) (sym (of-kind (theory q) e))
      by (applied f) e = sym (some-operands m (symbol_at t f) us (some f e)) ∙ ap (λ v. built m v (terms us)) (sym (of-kind (applied f) e))
      by (filled r) e = ap (λ v. built m v (terms us)) (sym (of-kind (filled r) e))
      by (binder q) e = absurd (no-binder q e)

  pub built-minus : (m : Map) (us : List Term) (v : Term) → kind p ≡ theory Neg → us ≡ v ∷ [] → minus v ≡ built m u (terms us)
  built-minus m us v e one = ap (λ w. built m w (v ⨾ none)) (sym (of-kind (theory Neg) e)) ∙ ap (λ ws. built m u (terms ws)) (sym one)

-- ---- a symbol without operands

no-operands : (ts : Terms) → sorts_of none ≡ sorts_of ts → ts ≡ none
no-operands none e = refl
no-operands (t ⨾ ts) e = (let found = sorted t ts [] (sym e) in absurd (let all = found.all in cc))

module _ (t : Formulas) (m : Map) (f : Symbol) (u : Term) (term : u ≡ over (symbol f) (operands u)) (us : List Term) (empty : us ≡ []) where
  built-symbol : built m u (terms us) ≡ image_or_itself (image m f) f
  built-symbol = ap (λ ws. built m u (terms ws)) empty ∙ ap (λ v. built m v none) term

  pub built-image : (v : Term) → image m f ≡ Some v → v ≡ built m u (terms us)
  built-image v found = sym (built-symbol ∙ ap (λ o. image_or_itself o f) found)

  pub built-itself : image m f ≡ None → sorts_of (terms us) ≡ sorts_of (operands_of u) → u ≡ built m u (terms us)
  built-itself missing same =
      let alone : terms (operands u) ≡ none = no-operands (terms (operands u)) (ap (λ ws. sorts_of (terms ws)) (sym empty) ∙ same ∙ ap sorts_of (applied-operands u term)) in
      term ∙ ap (apply (symbol f)) alone ∙ sym (built-symbol ∙ ap (λ o. image_or_itself o f) missing)
    where
      applied-operands : (v : Term) → v ≡ over (symbol f) (operands v) → operands_of v ≡ terms (operands v)
      applied-operands (apply h ts) e = sym (terms-list ts)
      applied-operands (quantified q xs b) e = absurd (let no : true ≡ false = ap is_quantified e in cc)

-- ---- a quantifier over other variables and another body

binders-are : (xs : List Variable) (v : Term) → binders (map variable xs ++ v ∷ []) ≡ xs
binders-are [] v = refl
binders-are (x ∷ []) v = refl
binders-are (x ∷ y ∷ xs) v = ap (λ ys. x ∷ ys) (binders-are (y ∷ xs) v)

body-is : (xs : List Variable) (v : Term) → body (map variable xs ++ v ∷ []) ≡ v
body-is [] v = refl
body-is (x ∷ []) v = refl
body-is (x ∷ y ∷ xs) v = body-is (y ∷ xs) v

sorts-push : (us : List Term) (v : Term) → sort_of v ≡ Some bool → sorts_in (us ++ v ∷ []) ≡ sorts_in us ++ bool ∷ []
sorts-push [] v has = ap (λ o. sort_or_bool o ∷ []) has
sorts-push (u ∷ us) v has = ap (λ ss. sort_or_bool (sort_of u) ∷ ss) (sorts-push us v has)

ranked : (xs : List Variable) (v : Term) → are_bindable xs ≡ true → sort_of v ≡ Some bool → rank_quantifier (map variable xs ++ v ∷ []) (sorts_in (map variable xs ++ v ∷ [])) ≡ Ok bool
ranked xs v fine has = binder-rank_quantifier (map variable xs ++ v ∷ []) (sorts_in (map variable xs ++ v ∷ [])) bool (record {
  variables = xs;
  body = v;
  sorts = sorts_in (map variable xs);
  operands = refl;
  operand_sorts = sorts-push (map variable xs) v has;
  number = length-map (map variable xs) (λ t. sort_or_bool (sort_of t)) ∙ length-map xs variable;
  bindable = fine;
  result = refl;
})

binder-other : (p : Op) (q : Quantifier) → kind p ≡ binder q → is_minus p ≡ false
unfolding kind is_minus
binder-other Neg q e = absurd cc
binder-other _ q e = refl

module _ (t : Formulas) (p : Op) (u : Term) (term : u ≡ term_over t p (operands u)) (quant : is_quantified u ≡ true) (ks : List NodeId) (nodes : AreNodes t ks) (ys : List Variable) (v : Term)
    (operands_are : trees_at t ks ≡ map variable ys ++ v ∷ []) where
  binder-kind : (l : Kind) → kind p ≡ l → (q : Quantifier) × (kind p ≡ binder q) × (u ≡ quantified q (binders (operands u)) (body (operands u)))
  binder-kind (theory o) e = absurd (let no : is_quantified u ≡ false = ap is_quantified (term ∙ ap (λ j. kind_term t.symbols t.sorts j (operands u)) e) in cc)
  binder-kind (applied f) e = absurd (let no : is_quantified u ≡ false = ap is_quantified (term ∙ ap (λ j. kind_term t.symbols t.sorts j (operands u)) e) in cc)
  binder-kind (filled r) e = absurd (let no : is_quantified u ≡ false = ap is_quantified (term ∙ ap (λ j. kind_term t.symbols t.sorts j (operands u)) e) in cc)
  binder-kind (binder q) e = (q, e, term ∙ ap (λ j. kind_term t.symbols t.sorts j (operands u)) e)

  pub makes-binder : are_bindable ys ≡ true → sort_of v ≡ Some bool → Makes t p ks
  makes-binder fine has =
      let found = binder-kind (kind p) refl in
      let rank : rank_over t p (trees_at t ks) ≡ Ok bool =
      ap (λ l. kind_rank t.symbols t.sorts l (trees_at t ks)) found.1 ∙ ap (λ us. rank_quantifier us (sorts_in us)) operands_are ∙ ranked ys v fine has in
      makes_ranked t p ks bool nodes (subst (λ l. IsKindOf t.symbols t.sorts l) (sym found.1) tt) (binder-other p found.0 found.1) (sym rank)

  pub made-binder : term_over t p (trees_at t ks) ≡ requantified u ys v
  made-binder =
      let found = binder-kind (kind p) refl in
      ap (λ l. kind_term t.symbols t.sorts l (trees_at t ks)) found.1
      ∙ ap (λ us. quantified found.0 (binders us) (body us)) operands_are
      ∙ (λ i. quantified found.0 (binders-are ys v i) (body-is ys v i))
      ∙ ap (λ w. requantified w ys v) (sym found.2)

-- ---- tests and sorts

pub symbol-other : (f : SymId) → is_minus (Sym f) ≡ false
unfolding is_minus
symbol-other f = refl

pub other-operator : (p : Op) → (p ≡ Neg → ⊥) → is_minus p ≡ false
unfolding is_minus
other-operator Neg apart = absurd (apart refl)
other-operator _ apart = refl

pub minus-kind : kind Neg ≡ theory Neg
unfolding kind
minus-kind = refl

pub other-kind : (p : Op) → ((f : SymId) → p ≡ Sym f → ⊥) → (f : SymId) → kind p ≡ applied f → ⊥
unfolding kind
other-kind (Sym g) apart f e = absurd (apart g refl)
other-kind _ apart f e = absurd cc

pub has-sort : (t : Term) → IsWellSorted t → (r : Sort) × (sort_of t ≡ Some r)
has-sort t sorted = by (sort_of t) refl (both_true (is_some (sort_of t)) (is_regular t) sorted).0
  where
    by : (o : Option Sort) → sort_of t ≡ o → is_some o ≡ true → (r : Sort) × (sort_of t ≡ Some r)
    by None e h = absurd cc
    by (Some r) e h = (r, e)

pub node-sort : (t : Formulas) → IsTable t → (k : NodeId) → IsNode t k → (r : Sort) × (sort_of (tree t k) ≡ Some r)
node-sort t table k node = has-sort (tree t k) (table.sorted k.0 node)

-- ---- no operands, some, and one

pub no-terms : (t : Formulas) (ks : List NodeId) (b : Bool) → b ≡ (length ks == 0) → b ≡ true → trees_at t ks ≡ []
no-terms t [] b e h = refl
no-terms t (k ∷ ks) b e h = absurd (let none : (length (k ∷ ks) == 0) ≡ true = sym e ∙ h in let zero : length (k ∷ ks) ≡ 0 = (Decides-eqb (length (k ∷ ks)) 0).0 none in omega arith)

pub some-terms : (t : Formulas) (ks : List NodeId) (b : Bool) → b ≡ (length ks == 0) → b ≡ false → 0 < length (trees_at t ks)
some-terms t [] b e h = absurd (let none : false ≡ true = sym h ∙ e in cc)
some-terms t (k ∷ ks) b e h = omega arith

pub one-term : (t : Formulas) (ks : List NodeId) (v : Term) → trees_at t ks ≡ v ∷ [] → (0 < length ks) × ((d : NodeId) → tree t (get_or ks 0 d) ≡ v)
one-term t [] v e = absurd cc
one-term t (k ∷ ks) v e = (omega arith, λ d. (let first : tree t k ≡ v = cc in first))
