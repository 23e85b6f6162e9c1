-- What stands in the list of the `ite` terms of a term: `ite`s that are well sorted and have no other free symbols than the
-- term; and what is known of their constants.
use Rattle.std.proofs.Common.{◌≡◌, Bool, true, false, List, [], get_or, All, Some, sym, ◌∙◌, subst}
use Rattle.smt_terms.specs.Free.{is_among, head_symbols, free, free_of}
use Rattle.smt_terms.specs.Fresh.{Supply}
use Rattle.smt_terms.specs.Groups.{draw_each}
use Rattle.smt_terms.specs.Rank.{sort_of, sorts_of, is_regular, are_regular, IsWellSorted}
use Rattle.smt_terms.specs.Shapes.{is_ite, is_atom_kind}
use Rattle.smt_terms.specs.Connectives.{kind_of}
use Rattle.smt_terms.specs.Sorts.{Sort, Symbol}
use Rattle.smt_terms.specs.Term.{Head, Term, apply, quantified, Terms, ◌⨾◌}
use Rattle.smt_terms.proofs.Among.{is_among-with_more}
use Rattle.smt_terms.proofs.Sorted.{applied, sorted}
use Rattle.smt_terms.proofs.SortsOfTerms.{regular}
use Rattle.smt_terms.proofs.StoredTerms.{fine_term}
use Rattle.smt_terms.proofs.Tests.{both_true, left_true, right_true}
use Rattle.term_groups.specs.Drawing.{ConstantsAreNew}
use Rattle.term_groups.specs.Grouping.{terms_of}
use Rattle.ite_free.specs.Ite.{term_ites}
use Rattle.term_groups.proofs.NamedTerms.{All-of_terms}
use Rattle.ite_free.proofs.IteParts.{IsClearPart, ites-parts, IsChoice, ites-choices}

-- ---- terms with a sort, whose free symbols are among these

pub record IsInside (fs : List Symbol) (t : Term) : Type 0 where
  pub sort : Sort
  pub has : sort_of t ≡ Some sort
  pub rules : is_regular t ≡ true
  pub free : (f : Symbol) → is_among (free t) f ≡ true → is_among fs f ≡ true

pub record AreInside (fs : List Symbol) (ts : Terms) : Type 0 where
  pub sorts : List Sort
  pub have : sorts_of ts ≡ Some sorts
  pub rules : are_regular ts ≡ true
  pub free : (f : Symbol) → is_among (free_of ts) f ≡ true → is_among fs f ≡ true

pub inside_itself : (t : Term) → IsWellSorted t → IsInside (free t) t
inside_itself t fine =
    let f = fine_term t fine in
    record { sort = f.sort; has = f.has; rules = f.rules; free = λ g among. among }

pub inside_operands : (fs : List Symbol) (h : Head) (ts : Terms) → IsInside fs (apply h ts) → AreInside fs ts
inside_operands fs h ts t =
    let parts = applied h ts t.sort t.has in
    record {
      sorts = parts.sorts;
      have = parts.operands;
      rules = (regular h ts t.rules).operands;
      free = λ f among. t.free f (is_among-with_more (head_symbols h) (free_of ts) f ∙ right_true (is_among (head_symbols h) f) (is_among (free_of ts) f) among);
    }

pub inside_first : (fs : List Symbol) (t : Term) (ts : Terms) → AreInside fs (t ⨾ ts) → IsInside fs t
inside_first fs t ts all =
    let parts = sorted t ts all.sorts all.have in
    record {
      sort = parts.sort;
      has = parts.first;
      rules = (both_true (is_regular t) (are_regular ts) all.rules).0;
      free = λ f among. all.free f (is_among-with_more (free t) (free_of ts) f ∙ left_true (is_among (free t) f) (is_among (free_of ts) f) among);
    }

pub inside_others : (fs : List Symbol) (t : Term) (ts : Terms) → AreInside fs (t ⨾ ts) → AreInside fs ts
inside_others fs t ts all =
    let parts = sorted t ts all.sorts all.have in
    record {
      sorts = parts.sorts;
      have = parts.others;
      rules = (both_true (is_regular t) (are_regular ts) all.rules).1;
      free = λ f among. all.free f (is_among-with_more (free t) (free_of ts) f ∙ right_true (is_among (free t) f) (is_among (free_of ts) f) among);
    }

-- ---- the list of the `ite`s

abbrev pub has_ite : Term → Bool
has_ite (apply h ts) = is_ite h
has_ite (quantified q xs t) = false

pub record IsMember (fs : List Symbol) (t : Term) : Type 0 where
  pub inside : IsInside fs t
  pub ite : has_ite t ≡ true

-- a part of a term that is an `ite` is a member
member-of : (t u : Term) → IsClearPart t u → IsChoice u → IsMember (free t) u
member-of t (quantified q xs body) part choice = absurd cc
member-of t (apply h ts) part choice =
    let fine = fine_term (apply h ts) part.part.sorted in
    record {
      inside = record { sort = fine.sort; has = fine.has; rules = fine.rules; free = part.part.free };
      ite = (both_true (is_ite h) (is_atom_kind (kind_of h ts)) choice).0;
    }

-- ---- constants that stand for them

-- a constant of its term's sort, which is a member
pub record Stands (fs : List Symbol) (p : Symbol × Term) : Type 0 where
  pub args : p.0.args ≡ []
  pub result : (to : Sort) → sort_of p.1 ≡ Some to → p.0.result ≡ to
  pub member : IsMember fs p.1

pub stand : ConstantsAreNew → (t : Term) (s : Supply) → IsWellSorted t → All (Stands (free t)) (draw_each (term_ites t) s).symbols
stand new t s fine k d less =
    let ns = (draw_each (term_ites t) s).symbols in
    let constants = new.constants (term_ites t) s k d less in
    let terms : terms_of ns ≡ term_ites t = new.each (term_ites t) s in
    let parts : All (λ n. IsClearPart t n.1) ns = All-of_terms (IsClearPart t) ns (subst (All (IsClearPart t)) (sym terms) (ites-parts t fine)) in
    let choices : All (λ n. IsChoice n.1) ns = All-of_terms IsChoice ns (subst (All IsChoice) (sym terms) (ites-choices t)) in
    record { args = constants.0; result = constants.1; member = member-of t (get_or ns k d).1 (parts k d less) (choices k d less) }
