-- Terms over truth values alone whose symbols are truth values without arguments: their names are clear, and their sorts may stand where
-- no sort is declared.
use Rattle.std.proofs.Common.{◌≡◌, ◌∙◌, sym, ap, refl, Bool, true, false, List, [], Option, Some}
use Rattle.std.specs.List.{list_all}
use Rattle.smt_terms.specs.Equal.{symbol_eq}
use Rattle.smt_terms.specs.Free.{is_among, head_symbols, free, free_of}
use Rattle.smt_terms.specs.Rank.{sort_of}
use Rattle.smt_terms.specs.Shapes.{is_head_seen, is_clear_below, are_clear_below}
use Rattle.smt_terms.specs.Sorts.{Name, Sort, bool, Symbol}
use Rattle.smt_terms.specs.Term.{Head, op, symbol, const_array, Term, apply, quantified, Terms, none, ◌⨾◌}
use Rattle.smt_terms.proofs.Among.{is_among-with_more}
use Rattle.smt_terms.proofs.Equal.{symbol_itself}
use Rattle.smt_terms.proofs.Ranked.{rank-takes}
use Rattle.smt_terms.proofs.Sorted.{applied}
use Rattle.smt_terms.proofs.Tests.{both_true, and_true, left_true, right_true}
use Rattle.script_read.specs.Printable.{sort_is_live, head_sorts, all_within, all_within_each}
use Rattle.bit_blast.specs.Laws.{is_bool, is_boolean, are_boolean}

-- ---- clear names

head_seen : (h : Head) → is_head_seen [] h ≡ true
head_seen (op o) = refl
head_seen (symbol f) = refl
head_seen (const_array s) = refl

mutual
  pub boolean_clear : (t : Term) → is_boolean t ≡ true → is_clear_below [] t ≡ true
  boolean_clear (apply h ts) boolean =
      let parts = both_true (is_bool (sort_of (apply h ts))) (are_boolean ts) boolean in
      and_true (is_head_seen [] h) (are_clear_below [] ts) (head_seen h) (booleans_clear ts parts.1)
  boolean_clear (quantified q xs t) boolean = absurd cc

  booleans_clear : (ts : Terms) → are_boolean ts ≡ true → are_clear_below [] ts ≡ true
  booleans_clear none boolean = refl
  booleans_clear (t ⨾ ts) boolean =
      let parts = both_true (is_boolean t) (are_boolean ts) boolean in
      and_true (is_clear_below [] t) (are_clear_below [] ts) (boolean_clear t parts.0) (booleans_clear ts parts.1)

-- ---- sorts

-- a truth value without arguments
pub record IsFlag (f : Symbol) : Type 0 where
  pub args : f.args ≡ []
  pub result : f.result ≡ bool

abbrev AreFlags : List Symbol → Type 0
AreFlags fs = (f : Symbol) → is_among fs f ≡ true → IsFlag f

bool_sort : (o : Option Sort) → is_bool o ≡ true → o ≡ Some bool
bool_sort (Some bool) boolean = refl
bool_sort _ boolean = absurd cc

module _ (names : Name → Bool) where
  abbrev is_plain : Sort → Bool
  is_plain s = sort_is_live [] s

  head_plain : (h : Head) (ts : Terms) → is_bool (sort_of (apply h ts)) ≡ true → AreFlags (head_symbols h) → list_all is_plain (head_sorts h) ≡ true
  head_plain (op o) ts boolean flags = refl
  head_plain (symbol f) ts boolean flags =
      let flag : IsFlag f = flags f (left_true (symbol_eq f f) false (symbol_itself f)) in
      and_true (is_plain f.result) (list_all is_plain f.args) (ap is_plain flag.result) (ap (list_all is_plain) flag.args)
  head_plain (const_array s) ts boolean flags =
      let parts = applied (const_array s) ts bool (bool_sort (sort_of (apply (const_array s) ts)) boolean) in
      and_true (is_plain s) true (ap is_plain (sym (rank-takes (const_array s) parts.sorts bool parts.rank).4)) refl

  mutual
    pub boolean_within : (t : Term) → is_boolean t ≡ true → AreFlags (free t) → all_within (sort_is_live []) names t ≡ true
    boolean_within (apply h ts) boolean flags =
        let parts = both_true (is_bool (sort_of (apply h ts))) (are_boolean ts) boolean in
        and_true (list_all is_plain (head_sorts h)) (all_within_each (sort_is_live []) names ts)
        (head_plain h ts parts.0 (λ f among. flags f (is_among-with_more (head_symbols h) (free_of ts) f ∙ left_true (is_among (head_symbols h) f) (is_among (free_of ts) f) among)))
        (booleans_within ts parts.1 (λ f among. flags f (is_among-with_more (head_symbols h) (free_of ts) f ∙ right_true (is_among (head_symbols h) f) (is_among (free_of ts) f) among)))
    boolean_within (quantified q xs t) boolean flags = absurd cc

    booleans_within : (ts : Terms) → are_boolean ts ≡ true → AreFlags (free_of ts) → all_within_each (sort_is_live []) names ts ≡ true
    booleans_within none boolean flags = refl
    booleans_within (t ⨾ ts) boolean flags =
        let parts = both_true (is_boolean t) (are_boolean ts) boolean in
        and_true (all_within (sort_is_live []) names t) (all_within_each (sort_is_live []) names ts)
        (boolean_within t parts.0 (λ f among. flags f (is_among-with_more (free t) (free_of ts) f ∙ left_true (is_among (free t) f) (is_among (free_of ts) f) among)))
        (booleans_within ts parts.1 (λ f among. flags f (is_among-with_more (free t) (free_of ts) f ∙ right_true (is_among (free t) f) (is_among (free_of ts) f) among)))
