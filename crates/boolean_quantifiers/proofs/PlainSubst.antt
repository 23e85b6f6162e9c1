-- In a term without quantifiers, substitution of a formula for a variable puts it in its places.
use Rattle.std.proofs.Common.{◌≡◌, Bool, true, false, not, cond, ◌&&◌, [], ◌∷◌, map, Some, None, refl, ap, sym, ◌∙◌, arith}
use Rattle.smt_terms.specs.declared.op.Op.TheVariants.{Whole, Neg}
use Rattle.smt_terms.specs.Equal.{symbol_eq, term_eq}
use Rattle.smt_terms.specs.Made.{minus, made}
use Rattle.smt_terms.specs.Rank.{is_minus_of, is_regular, are_regular}
use Rattle.smt_terms.specs.Sorts.{Symbol, Variable}
use Rattle.smt_terms.specs.Subst.{Choices, image_or_itself, rebuilt, subst_from, substs_from}
use Rattle.smt_terms.specs.Term.{Head, op, symbol, const_array, Term, apply, quantified, Terms, none, ◌⨾◌, list, constant_of, constant, variable}
use Rattle.smt_terms.proofs.SortsOfTerms.{regular}
use Rattle.smt_terms.proofs.Tests.{both_true, not_true}
use Rattle.normal_forms.specs.Prenex.{quantifiers, quantifiers_of}
use Rattle.quantifier_forms.specs.Rebuilding.{is_number}
use Rattle.quantifier_forms.proofs.Rebuilt.{terms-list, minus_over, minus-numbers}
use Rattle.boolean_quantifiers.specs.Replacing.{or_else, binds_image, put, put_each}

made-minus : (t : Term) → is_minus_of (op Neg) (t ⨾ none) ≡ false → minus t ≡ apply (op Neg) (t ⨾ none)
unfolding is_minus_of
made-minus (apply (op (Whole n)) none) e = absurd cc
made-minus t e = refl

pub made-plain : (h : Head) (us : Terms) → is_minus_of h us ≡ false → made h us ≡ apply h us
made-plain (op Neg) (t ⨾ none) e = made-minus t e
made-plain h us e = refl

module _ (x : Variable) (w : Term) (other : is_number w ≡ false) where
  put-symbol : (b : Bool) (u : Term) → is_number u ≡ false → is_number (or_else (cond b (Some w) None) u) ≡ false
  put-symbol true u e = other
  put-symbol false u e = e

  put-number : (t : Term) → is_number (put ((variable x, w) ∷ []) t) ≡ is_number t
  put-number (apply (op p) none) = refl
  put-number (apply (op p) (t ⨾ ts)) = refl
  put-number (apply (symbol f) none) = put-symbol (term_eq (variable x) (constant f)) (constant f) refl
  put-number (apply (symbol f) (t ⨾ ts)) = put-symbol (term_eq (variable x) (apply (symbol f) (t ⨾ ts))) (apply (symbol f) (put_each ((variable x, w) ∷ []) (t ⨾ ts))) refl
  put-number (apply (const_array s) ts) = refl
  put-number (quantified q xs body) = quantified-number (binds_image ((variable x, w) ∷ []) xs)
    where
      quantified-number : (b : Bool) → is_number (cond b (quantified q xs body) (quantified q xs (put ((variable x, w) ∷ []) body))) ≡ false
      quantified-number true = refl
      quantified-number false = refl

  puts-numbers : (ts : Terms) → map is_number (list (put_each ((variable x, w) ∷ []) ts)) ≡ map is_number (list ts)
  puts-numbers none = refl
  puts-numbers (t ⨾ ts) = λ i. put-number t i ∷ puts-numbers ts i

  puts-minus : (h : Head) (ts : Terms) → not (is_minus_of h ts) ≡ true → is_minus_of h (put_each ((variable x, w) ∷ []) ts) ≡ false
  puts-minus h ts e =
      ap (is_minus_of h) (sym (terms-list (put_each ((variable x, w) ∷ []) ts)))
      ∙ minus-numbers h (list (put_each ((variable x, w) ∷ []) ts))
      ∙ ap (minus_over h) (puts-numbers ts)
      ∙ sym (minus-numbers h (list ts))
      ∙ ap (is_minus_of h) (terms-list ts)
      ∙ not_true (is_minus_of h ts) e

  symbol-put : (f : Symbol) (b : Bool) → image_or_itself (cond b (Some w) None) f ≡ or_else (cond (b && true) (Some w) None) (constant f)
  symbol-put f true = refl
  symbol-put f false = refl

  symbol-with : (f : Symbol) (t : Term) (ts : Terms) (b : Bool) → apply (symbol f) (t ⨾ ts) ≡ or_else (cond (b && false) (Some w) None) (apply (symbol f) (t ⨾ ts))
  symbol-with f t ts true = refl
  symbol-with f t ts false = refl

  head-put : (h : Head) (ts : Terms) → not (is_minus_of h ts) ≡ true → rebuilt ((constant_of x, w) ∷ []) h (put_each ((variable x, w) ∷ []) ts) ≡ put ((variable x, w) ∷ []) (apply h ts)
  head-put (op p) ts e = made-plain (op p) (put_each ((variable x, w) ∷ []) ts) (puts-minus (op p) ts e)
  head-put (const_array s) ts e = made-plain (const_array s) (put_each ((variable x, w) ∷ []) ts) (puts-minus (const_array s) ts e)
  head-put (symbol f) none e = symbol-put f (symbol_eq (constant_of x) f)
  head-put (symbol f) (t ⨾ ts) e = symbol-with f (put ((variable x, w) ∷ []) t) (put_each ((variable x, w) ∷ []) ts) (symbol_eq (constant_of x) f)

  mutual
    pub plain-subst : (t : Term) (c : Choices) → quantifiers t ≡ 0 → is_regular t ≡ true → subst_from ((constant_of x, w) ∷ []) t c ≡ (put ((variable x, w) ∷ []) t, c)
    plain-subst (apply h ts) c e fine =
        let r = regular h ts fine in
        ap (λ (r : Terms × Choices). (rebuilt ((constant_of x, w) ∷ []) h r.0, r.1)) (plains-subst ts c e r.operands)
        ∙ ap (λ u. (u, c)) (head-put h ts r.no_minus)
    plain-subst (quantified q xs body) c e fine = absurd (omega (arith, e))

    plains-subst : (ts : Terms) (c : Choices) → quantifiers_of ts ≡ 0 → are_regular ts ≡ true → substs_from ((constant_of x, w) ∷ []) ts c ≡ (put_each ((variable x, w) ∷ []) ts, c)
    plains-subst none c e fine = refl
    plains-subst (t ⨾ ts) c e fine =
        let parts = both_true (is_regular t) (are_regular ts) fine in
        ap (λ (a : Term × Choices). let r : Terms × Choices = substs_from ((constant_of x, w) ∷ []) ts a.1 in (a.0 ⨾ r.0, r.1)) (plain-subst t c (omega (arith, e)) parts.0)
        ∙ ap (λ (r : Terms × Choices). (put ((variable x, w) ∷ []) t ⨾ r.0, r.1)) (plains-subst ts c (omega (arith, e)) parts.1)
