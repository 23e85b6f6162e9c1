-- The constants that are drawn for the `ite` terms of a formula.
use Rattle.std.proofs.Common.{◌≡◌, Bool, true, false, List, [], ◌∷◌, get_or, map, All, refl, ap, sym, ◌∙◌, subst}
use Rattle.std.specs.Prelude.{is_some}
use Rattle.smt_terms.specs.declared.ids.NodeId.{NodeId}
use Rattle.smt_terms.specs.declared.ids.SymId.{SymId}
use Rattle.smt_terms.specs.declared.op.Op.{Op}
use Rattle.smt_terms.specs.declared.op.Op.TheVariants.{Ite}
use Rattle.smt_terms.specs.Connectives.{kind_of}
use Rattle.smt_terms.specs.Fresh.{Supply}
use Rattle.smt_terms.specs.Groups.{Named, with_new, draw_each, where_so, with_constants}
use Rattle.smt_terms.specs.Rank.{sort_of, is_regular, is_whole, IsWellSorted}
use Rattle.smt_terms.specs.Shapes.{is_ite_operator, is_atom_kind, is_term_ite}
use Rattle.smt_terms.specs.Sorts.{Symbol}
use Rattle.smt_terms.specs.Term.{op, symbol, const_array, Term, apply, quantified, Terms, none, ◌⨾◌, constant}
use Rattle.smt_terms.proofs.Keeping.{the_sort}
use Rattle.smt_terms.proofs.Tests.{both_true}
use Rattle.term_table.specs.Formulas.{Formulas, trees_at, AreNodes, IsTable}
use Rattle.term_subst.proofs.MapsAt.{sort-narrow}
use Rattle.term_walk.specs.Binders.{is_quantified}
use Rattle.quantifier_forms.specs.Memos.{Results, result_in}
use Rattle.quantifier_forms.specs.Rebuilding.{is_number, IsLike}
use Rattle.term_groups.specs.declared.constants.Constants.{Constants}
use Rattle.term_groups.specs.Grouping.{terms_of}
use Rattle.term_groups.specs.Parts.{collected, collected_of}
use Rattle.term_groups.specs.Seen.{named_at, ArePairs}
use Rattle.term_groups.specs.Replacing.{is_open, AreApart, AreConstantsFor, AreReplaced, AreStarted}
use Rattle.term_groups.proofs.Draws.{constants-are_new}
use Rattle.term_groups.proofs.NamedTerms.{All-of_terms, apart-new, apart-where, own-constants}
use Rattle.term_groups.proofs.OrderedNodes.{missing-constant}
use Rattle.term_groups.proofs.ReplacedNodes.{own-become}
use Rattle.ite_free.specs.Ite.{term_ites, term_ites_of}
use Rattle.ite_free.specs.Removing.{is_choice, AreConstants}
use Rattle.ite_free.proofs.IteConstants.{IsConstantOf, constant-sort}
use Rattle.ite_free.proofs.IteParts.{IsClearPart, ites-parts, ites-choices}

-- ---- the `ite`s are those parts of a formula that are one

mutual
  pub collected-ites : (t : Term) → collected is_open is_choice t ≡ term_ites t
  collected-ites (apply h ts) = ap (λ us. with_new us (where_so (is_term_ite h ts) (apply h ts ∷ []))) (collected-ites_of ts)
  collected-ites (quantified q xs body) = refl

  collected-ites_of : (ts : Terms) → collected_of is_open is_choice ts ≡ term_ites_of ts
  collected-ites_of none = refl
  collected-ites_of (t ⨾ ts) = λ i. with_new (collected-ites t i) (collected-ites_of ts i)

-- ---- no two of them are one term

mutual
  ites-apart : (t : Term) → AreApart (term_ites t)
  ites-apart (apply h ts) = apart-new (term_ites_of ts) (where_so (is_term_ite h ts) (apply h ts ∷ [])) (ites-apart_each ts) (apart-where (is_term_ite h ts) (apply h ts))
  ites-apart (quantified q xs body) = tt

  ites-apart_each : (ts : Terms) → AreApart (term_ites_of ts)
  ites-apart_each none = tt
  ites-apart_each (t ⨾ ts) = apart-new (term_ites t) (term_ites_of ts) (ites-apart t) (ites-apart_each ts)

-- ---- a constant may take the place of its `ite`

choice-operator : (p : Op) → is_ite_operator p ≡ true → is_whole p ≡ false
unfolding is_ite_operator is_whole
choice-operator Ite e = refl
choice-operator _ e = absurd cc

choice-number : (u : Term) → is_choice u ≡ true → is_number u ≡ false
choice-number (apply (op p) none) choice = choice-operator p (both_true (is_ite_operator p) (is_atom_kind (kind_of (op p) none)) choice).0
choice-number (apply (op p) (t ⨾ ts)) choice = refl
choice-number (apply (symbol f) ts) choice = refl
choice-number (apply (const_array s) ts) choice = refl
choice-number (quantified q xs body) choice = refl

constant-like : (n : Symbol × Term) → IsConstantOf n → IsWellSorted n.1 → is_choice n.1 ≡ true → IsLike n.1 (constant n.0)
constant-like n is fine choice =
    let found = the_sort (sort_of n.1) (both_true (is_some (sort_of n.1)) (is_regular n.1) fine).0 in
    record {
      sort = constant-sort n.0 found.0 is.0 (is.1 found.0 found.1) (sort-narrow n.1 found.0 found.1) ∙ sym found.1;
      number = sym (choice-number n.1 choice);
    }

-- ---- all of them

pub are-constants : (old new : Formulas) (ites : List NodeId) (c : Constants) (t : Term) (s : Supply) → IsWellSorted t → trees_at old ites ≡ term_ites t → ArePairs new c.symbols → AreNodes new c.nodes
    → named_at new c.symbols ≡ (draw_each (trees_at old ites) s).symbols → trees_at new c.nodes ≡ map (λ n. constant n.0) (draw_each (trees_at old ites) s).symbols → AreConstants new c
are-constants old new ites c t s fine ites_are pairs nodes symbols terms =
    let drawn : named_at new c.symbols ≡ (draw_each (term_ites t) s).symbols = symbols ∙ ap (λ us. (draw_each us s).symbols) ites_are in
    let terms_are : terms_of (named_at new c.symbols) ≡ term_ites t = ap terms_of drawn ∙ constants-are_new.each (term_ites t) s in
    let constants : All IsConstantOf (named_at new c.symbols) = subst (All IsConstantOf) (sym drawn) (constants-are_new.constants (term_ites t) s) in
    let choices : All (λ n. is_choice n.1 ≡ true) (named_at new c.symbols) = All-of_terms (λ u. is_choice u ≡ true) (named_at new c.symbols) (subst (All (λ u. is_choice u ≡ true)) (sym terms_are) (ites-choices t)) in
    let parts : All (λ n. IsClearPart t n.1) (named_at new c.symbols) = All-of_terms (IsClearPart t) (named_at new c.symbols) (subst (All (IsClearPart t)) (sym terms_are) (ites-parts t fine)) in
    record {
      pairs = pairs;
      nodes = nodes;
      terms = terms ∙ ap (map (λ n. constant n.0)) (sym symbols);
      each = choices;
      like = λ k d lt. constant-like (get_or (named_at new c.symbols) k d) (constants k d lt) (parts k d lt).part.sorted (choices k d lt);
      apart = subst AreApart (sym terms_are) (ites-apart t);
    }

-- an `ite` isn't quantified
pub plain-choice : (u : Term) → is_choice u ≡ true → is_quantified u ≡ false
plain-choice (apply h ts) choice = refl
plain-choice (quantified q xs body) choice = absurd cc

-- each `ite` becomes its constant
pub ites-become : (t : Formulas) (c : Constants) → AreConstants t c → All (λ n. with_constants (named_at t c.symbols) n.1 ≡ constant n.0) (named_at t c.symbols)
ites-become t c are =
    let ns = named_at t c.symbols in
    own-become ns ns (λ k d lt. plain-choice (get_or ns k d).1 (are.each k d lt)) (own-constants ns are.apart)

-- m: the constants, as results of their `ite`s
pub ites-started : (t : Formulas) → IsTable t → (c : Constants) → AreConstants t c → (m : Results) (ks : List NodeId) → AreNodes t ks
    → ((wanted : Term → Bool) (ns : Named) → AreConstantsFor t wanted c → All (λ n. with_constants ns n.1 ≡ constant n.0) (named_at t c.symbols) → AreReplaced t ns m)
    → All (λ (p : SymId × NodeId). is_some (result_in m 0 p.1) ≡ true) c.symbols → AreStarted t (named_at t c.symbols) m ks
ites-started t table c are m ks nodes replaced kept = record {
  replaced = replaced is_choice (named_at t c.symbols) are (ites-become t c are);
  missing = λ i d lt none_there. missing-constant t table m c.symbols are.pairs kept (get_or ks i d) (nodes i d lt) none_there;
}
