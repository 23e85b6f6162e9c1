-- What operands inherit and theory operators pass on, a term has that fills another which has it.
use Rattle.std.proofs.Common.{◌≡◌, ℕ, zero, suc, Bool, true, false, cond, nat_le, List, [], ◌∷◌, ◌++◌, map, take, drop, length, reverse, filter, Option, Some, None, IfSome, All, ◌⊎◌, inl, inr, sym, subst}
use Rattle.std.specs.Prelude.{⊤, not, is_some, slice_get}
use Rattle.std.proofs.lemmas.List.{reverse-append}
use Rattle.std.proofs.lemmas.List.Elements.{All-nil, All-cons, All-head, All-tail, All-append, All-map, All-filter, All-same, All-take, All-drop}
use Rattle.smt_terms.specs.declared.op.Op.{Op}
use Rattle.smt_terms.specs.declared.op.Op.TheVariants.{Whole, Neg}
use Rattle.smt_terms.specs.Equal.{term_eq}
use Rattle.smt_terms.specs.Made.{minus, made}
use Rattle.smt_terms.specs.Sorts.{Name}
use Rattle.smt_terms.specs.Term.{Head, op, Term, apply, quantified, Terms, none, ◌⨾◌, list, terms}
use Rattle.rule_book.specs.Rewriting.{Fills, Replaces}
use Rattle.rule_book.specs.Template.{hole, literal, applied, Template, and_more, result_of, over_last, give, term_over, filled}
use Rattle.rule_book.specs.View.{Place, shown_operand, shown_below, operands_of, operands_if, places_below, all_below, places, holes_of, view_holes}

abbrev pub AllOf : (Term → Type 0) → Terms → Type 0
AllOf P none = ⊤
AllOf P (t ⨾ ts) = P t × AllOf P ts

module _ (P : Term → Type 0) (down : (h : Head) (ts : Terms) → P (apply h ts) → AllOf P ts) (over : (o : Op) (ts : Terms) → AllOf P ts → P (apply (op o) ts)) where
  listed : (ts : Terms) → AllOf P ts → All P (list ts)
  listed none each = All-nil P
  listed (t ⨾ ts) each = All-cons P t (list ts) each.0 (listed ts each.1)

  of_list : (ts : List Term) → All P ts → AllOf P (terms ts)
  of_list [] all = tt
  of_list (t ∷ ts) all = (All-head P t ts all, of_list ts (All-tail P t ts all))

  -- ---- a term that is made

  minus-has : (t : Term) → P t → P (minus t)
  minus-has (apply (op (Whole n)) none) given = over _ none tt
  minus-has t given = over Neg (t ⨾ none) (given, tt)

  pub made-has : (h : Head) (ts : Terms) → P (apply h ts) → P (made h ts)
  made-has (op Neg) (t ⨾ none) given = minus-has t (down (op Neg) (t ⨾ none) given).0
  made-has h ts given = given

  -- ---- the holes of a view

  abbrev OfPlace : Place → Type 0
  OfPlace p = P p.term

  operands-have : (t : Term) → P t → All P (operands_of t)
  operands-have (apply h ts) given = listed ts (down h ts given)
  operands-have (quantified q xs t) given = All-nil P

  shown-have : (shown : Bool) (t : Term) → P t → All P (operands_if shown t)
  shown-have true t given = operands-have t given
  shown-have false t given = All-nil P

  places_below-have : (k : ℕ) (t : Term) → P t → All OfPlace (places_below k t)
  places_below-have k t given =
      All-map OfPlace (λ u. record { up = suc k; shown = shown_below u; term = u }) (operands_if (is_some (shown_operand t)) t) (shown-have (is_some (shown_operand t)) t given)

  all_below-have : (k : ℕ) (ts : List Term) → All P ts → All OfPlace (all_below k ts)
  all_below-have k [] all = All-nil OfPlace
  all_below-have k (t ∷ ts) all =
      All-append OfPlace (places_below k t) (all_below (suc k) ts) (places_below-have k t (All-head P t ts all)) (all_below-have (suc k) ts (All-tail P t ts all))

  places-have : (ts : List Term) → All P ts → All OfPlace (places ts)
  places-have ts all =
      All-append OfPlace (map (λ t. record { up = 0; shown = shown_operand t; term = t }) ts) (all_below 0 ts)
      (All-map OfPlace (λ t. record { up = 0; shown = shown_operand t; term = t }) ts all) (all_below-have 0 ts all)

  holes-have : (ps : List Place) → All OfPlace ps → All P (holes_of ps)
  holes-have [] all = All-nil P
  holes-have (p ∷ ps) all =
      All-cons P p.term (filter (λ u. not (term_eq p.term u)) (holes_of ps)) (All-head OfPlace p ps all)
      (All-filter (λ u. not (term_eq p.term u)) P (holes_of ps) (holes-have ps (All-tail OfPlace p ps all)))

  pub hole-has : (t : Term) → P t → All P (view_holes t)
  hole-has t given = holes-have (places (operands_of t)) (places-have (operands_of t) (operands-have t given))

  -- ---- a template over terms

  at-hole : (hs : List Term) (i : ℕ) → All P hs → IfSome (slice_get hs i) P
  at-hole [] i all = tt
  at-hole (t ∷ ts) zero all = All-head P t ts all
  at-hole (t ∷ ts) (suc i) all = at-hole ts i (All-tail P t ts all)

  reversed-have : (ts : List Term) → All P ts → All P (reverse ts)
  reversed-have [] all = All-nil P
  reversed-have (t ∷ ts) all =
      All-same P (reverse (t ∷ ts)) (reverse ts ++ t ∷ []) (reverse-append (t ∷ []) ts)
      (All-append P (reverse ts) (t ∷ []) (reversed-have ts (All-tail P t ts all)) (All-cons P t [] (All-head P t ts all) (All-nil P)))

  term_over-has : (o : Op) (ts : List Term) → All P ts → IfSome (term_over o ts) P
  term_over-has o ts all = made-has (op o) (terms ts) (over o (terms ts) (of_list ts all))

  over_last-has : (o : Op) (n : ℕ) (done : List Term) → All P done → IfSome (over_last (term_over o) n done) P
  over_last-has o n done all = enough (nat_le n (length done))
    where
      enough : (b : Bool) → IfSome (cond b (term_over o (reverse (take n done))) None) P
      enough true = term_over-has o (reverse (take n done)) (reversed-have (take n done) (All-take P n done all))
      enough false = tt

  result-has : (done : List Term) → All P done → IfSome (result_of done) P
  result-has [] all = tt
  result-has (t ∷ []) all = All-head P t [] all
  result-has (t ∷ u ∷ ts) all = tt

  and_more-has : (done : List Term) (next : Option Term) (more : List Term → Option Term) → All P done → IfSome next P → ((ts : List Term) → All P ts → IfSome (more ts) P) → IfSome (and_more done next more) P
  and_more-has done None more all here rest = tt
  and_more-has done (Some t) more all here rest = rest (t ∷ done) (All-cons P t done here all)

  give-has : (holes : ℕ → Option Term) → ((i : ℕ) → IfSome (holes i) P) → (ps : Template) (done : List Term) → All P done → IfSome (give holes term_over ps done) P
  give-has holes have [] done all = result-has done all
  give-has holes have (hole i ∷ ps) done all =
      and_more-has done (holes i) (λ ts. give holes term_over ps ts) all (have i) (give-has holes have ps)
  give-has holes have (literal o ∷ ps) done all =
      and_more-has done (term_over o []) (λ ts. give holes term_over ps ts) all (term_over-has o [] (All-nil P)) (give-has holes have ps)
  give-has holes have (applied o n ∷ ps) done all =
      and_more-has (drop n done) (over_last (term_over o) n done) (λ ts. give holes term_over ps ts) (All-drop P n done all) (over_last-has o n done all) (give-has holes have ps)

  pub filled-has : (hs : List Term) (p : Template) (u : Term) → All P hs → filled (slice_get hs) p ≡ Some u → P u
  filled-has hs p u all is = subst (λ o. IfSome o P) is (give-has (slice_get hs) (λ i. at-hole hs i all) p [] (All-nil P))

  -- ---- what takes a term's place

  pub fills-has : (t u : Term) → P t → Fills t u → P u
  fills-has t u given f = filled-has (view_holes t) f.template u (hole-has t given) f.filled

  pub replaces-has : (ns : List Name) (t u : Term) → P t → Replaces ns t u → P u
  replaces-has ns t u given r = either r.replaced
    where
      either : (u ≡ t) ⊎ Fills t u → P u
      either (inl same) = subst P (sym same) given
      either (inr fills) = fills-has t u given fills
