-- Removal of `ite` over terms (SMT-LIB 2.6, theory Core). The distinct `ite` subterms of a sort other than Bool, outside
-- quantifiers, get constants in post-order of first occurrence, operands from left to right. For each of them, in order,
-- come `(=> c (= v a))` and `(=> (not c) (= v b))`, and last comes the assertion, all with the constants in place.
use Rattle.std.specs.Prelude.{List, [], ◌∷◌, ◌++◌, flat_map}
use Rattle.smt_terms.specs.Sorts.{Symbol}
use Rattle.smt_terms.specs.Term.{Term, apply, quantified, Terms, none, ◌⨾◌, constant}
use Rattle.smt_terms.specs.Fresh.{Supply}
use Rattle.smt_terms.specs.Connectives.{negated, implies, equal}
use Rattle.smt_terms.specs.Groups.{Named, Grouped, Drawn, draw_each, with_new, with_constants, where_so}
use Rattle.smt_terms.specs.Shapes.{is_term_ite}

abbrev mutual
  pub term_ites : Term → List Term
  term_ites (apply h ts) = with_new (term_ites_of ts) (where_so (is_term_ite h ts) (apply h ts ∷ []))
  term_ites (quantified q xs body) = []

  pub term_ites_of : Terms → List Term
  term_ites_of none = []
  term_ites_of (t ⨾ ts) = with_new (term_ites t) (term_ites_of ts)

-- what the constant v of an `ite` is
abbrev pub defining : Named → Symbol → Term → List Term
defining ns v (apply h (c ⨾ a ⨾ b ⨾ none)) =
    implies (with_constants ns c) (equal (constant v) (with_constants ns a))
    ∷ implies (negated (with_constants ns c)) (equal (constant v) (with_constants ns b))
    ∷ []
defining ns v _ = []

-- the group of an assertion, and the names that are left
abbrev pub ite : Term → Supply → Grouped
ite t s =
    let d : Drawn = draw_each (term_ites t) s in
    record {
      group = record {
        symbols = d.symbols;
        asserts = flat_map (λ n. defining d.symbols n.0 n.1) d.symbols ++ with_constants d.symbols t ∷ [];
      };
      names = d.names;
    }
