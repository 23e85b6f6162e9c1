-- Terms that stand in the inputs: they have sorts, their free symbols are free in the inputs, and what holds of all that stands
-- in the inputs holds of them.
use Rattle.std.proofs.Common.{◌≡◌, Bool, true, false, List, [], Some, ◌∙◌}
use Rattle.std.specs.List.{list_all}
use Rattle.smt_terms.specs.Free.{is_among, head_symbols, free, free_of}
use Rattle.smt_terms.specs.Groups.{has_term}
use Rattle.smt_terms.specs.Rank.{sort_of, sorts_of, is_regular, are_regular}
use Rattle.smt_terms.specs.Shapes.{is_head_seen, is_clear_below, are_clear_below}
use Rattle.smt_terms.specs.Sorts.{Sort, Symbol, Variable}
use Rattle.smt_terms.specs.Term.{Head, Term, apply, Terms, ◌⨾◌}
use Rattle.smt_terms.proofs.Among.{is_among-with_more}
use Rattle.smt_terms.proofs.Sorted.{applied, sorted}
use Rattle.smt_terms.proofs.SortsOfTerms.{regular}
use Rattle.smt_terms.proofs.StoredTerms.{fine_term}
use Rattle.smt_terms.proofs.Tests.{both_true, both_false, left_true, right_true}
use Rattle.term_groups.specs.Every.{every, every_of}
use Rattle.ackermann.specs.Ackermann.{has_quantified_use, have_quantified_use}
use Rattle.ackermann.specs.Removals.{is_use, is_free_in}
use Rattle.ackermann.proofs.UseLists.{has-All, has-any, passes-All}
use Rattle.ackermann.proofs.UseParts.{IsPiece}

pub record IsFrom (inputs : List Term) (t : Term) : Type 0 where
  pub sort : Sort
  pub has : sort_of t ≡ Some sort
  pub rules : is_regular t ≡ true
  pub symbols : (f : Symbol) → is_among (free t) f ≡ true → is_free_in inputs f ≡ true
  pub clear : list_all (is_clear_below []) inputs ≡ true → is_clear_below [] t ≡ true
  pub within : (heads : Head → Bool) (binders : List Variable → Bool) → list_all (every heads binders) inputs ≡ true → every heads binders t ≡ true
  pub outside : has_quantified_use t ≡ false

pub record AreFrom (inputs : List Term) (ts : Terms) : Type 0 where
  pub sorts : List Sort
  pub have : sorts_of ts ≡ Some sorts
  pub rules : are_regular ts ≡ true
  pub symbols : (f : Symbol) → is_among (free_of ts) f ≡ true → is_free_in inputs f ≡ true
  pub clear : list_all (is_clear_below []) inputs ≡ true → are_clear_below [] ts ≡ true
  pub within : (heads : Head → Bool) (binders : List Variable → Bool) → list_all (every heads binders) inputs ≡ true → every_of heads binders ts ≡ true
  pub outside : have_quantified_use ts ≡ false

-- a part of an input
pub from-piece : (inputs : List Term) (t u : Term) → has_term inputs t ≡ true → has_quantified_use t ≡ false → IsPiece t u → IsFrom inputs u
from-piece inputs t u among outside p =
    let fine = fine_term u p.part.sorted in
    record {
      sort = fine.sort;
      has = fine.has;
      rules = fine.rules;
      symbols = λ f there. has-any (λ v. is_among (free v) f) inputs t among (p.part.free f there);
      clear = λ clear. p.clear (has-All (λ v. is_clear_below [] v ≡ true) inputs t (passes-All (is_clear_below []) inputs clear) among);
      within = λ heads binders holds. p.part.within heads binders (has-All (λ v. every heads binders v ≡ true) inputs t (passes-All (every heads binders) inputs holds) among);
      outside = p.outside outside;
    }

pub from-operands : (inputs : List Term) (h : Head) (ts : Terms) → IsFrom inputs (apply h ts) → AreFrom inputs ts
from-operands inputs h ts t =
    let parts = applied h ts t.sort t.has in
    record {
      sorts = parts.sorts;
      have = parts.operands;
      rules = (regular h ts t.rules).operands;
      symbols = λ f among. t.symbols f (is_among-with_more (head_symbols h) (free_of ts) f ∙ right_true (is_among (head_symbols h) f) (is_among (free_of ts) f) among);
      clear = λ clear. (both_true (is_head_seen [] h) (are_clear_below [] ts) (t.clear clear)).1;
      within = λ heads binders holds. (both_true (heads h) (every_of heads binders ts) (t.within heads binders holds)).1;
      outside = t.outside;
    }

pub from-first : (inputs : List Term) (t : Term) (ts : Terms) → AreFrom inputs (t ⨾ ts) → IsFrom inputs t
from-first inputs t ts all =
    let parts = sorted t ts all.sorts all.have in
    record {
      sort = parts.sort;
      has = parts.first;
      rules = (both_true (is_regular t) (are_regular ts) all.rules).0;
      symbols = λ f among. all.symbols f (is_among-with_more (free t) (free_of ts) f ∙ left_true (is_among (free t) f) (is_among (free_of ts) f) among);
      clear = λ clear. (both_true (is_clear_below [] t) (are_clear_below [] ts) (all.clear clear)).0;
      within = λ heads binders holds. (both_true (every heads binders t) (every_of heads binders ts) (all.within heads binders holds)).0;
      outside = (both_false (has_quantified_use t) (have_quantified_use ts) all.outside).0;
    }

pub from-others : (inputs : List Term) (t : Term) (ts : Terms) → AreFrom inputs (t ⨾ ts) → AreFrom inputs ts
from-others inputs t ts all =
    let parts = sorted t ts all.sorts all.have in
    record {
      sorts = parts.sorts;
      have = parts.others;
      rules = (both_true (is_regular t) (are_regular ts) all.rules).1;
      symbols = λ f among. all.symbols f (is_among-with_more (free t) (free_of ts) f ∙ right_true (is_among (free t) f) (is_among (free_of ts) f) among);
      clear = λ clear. (both_true (is_clear_below [] t) (are_clear_below [] ts) (all.clear clear)).1;
      within = λ heads binders holds. (both_true (every heads binders t) (every_of heads binders ts) (all.within heads binders holds)).1;
      outside = (both_false (has_quantified_use t) (have_quantified_use ts) all.outside).1;
    }

-- ---- applications that stand in the inputs outside quantifiers

pub record IsUsed (inputs : List Term) (u : Term) : Type 0 where
  pub whole : Term
  pub among : has_term inputs whole ≡ true
  pub outside : has_quantified_use whole ≡ false
  pub piece : IsPiece whole u
  pub application : is_use u ≡ true

pub from-used : (inputs : List Term) (u : Term) → IsUsed inputs u → IsFrom inputs u
from-used inputs u used = from-piece inputs used.whole u used.among used.outside used.piece
