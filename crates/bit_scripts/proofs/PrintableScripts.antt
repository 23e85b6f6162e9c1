-- A list of declarations of truth values, assertions over them and a check can be printed.
use Rattle.std.proofs.Common.{◌≡◌, ◌∙◌, ap, refl, subst, ℕ, suc, Bool, true, false, not, ◌&&◌, List, [], ◌∷◌, ◌++◌, map, append_assoc, append-nil, Some, All}
use Rattle.std.specs.List.{list_all}
use Rattle.std.proofs.lemmas.List.Elements.{All-head, All-tail}
use Rattle.smt_lex.specs.Names.{is_among as is_among_names}
use Rattle.smt_terms.specs.Equal.{symbol_eq}
use Rattle.smt_terms.specs.Free.{is_among, free, names_of}
use Rattle.smt_terms.specs.Rank.{sort_of, is_sort, are_distinct, is_well_sorted, IsWellSorted}
use Rattle.smt_terms.specs.Shapes.{is_clear_below, is_clear}
use Rattle.smt_terms.specs.Sorts.{bool, Symbol}
use Rattle.smt_terms.specs.Term.{Term}
use Rattle.smt_terms.proofs.ClearTerms.{free_distinct}
use Rattle.smt_terms.proofs.Equal.{symbol_itself}
use Rattle.smt_terms.proofs.Tests.{and_true, left_true, right_true}
use Rattle.script_terms.specs.Read.{is_of_sort, has_sort}
use Rattle.script_read.specs.Commands.{Command, declare, assert, check, State}
use Rattle.script_read.specs.Printable.{is_usable, sort_is_live, all_within, symbols_are_live, is_printable_term, may_stand, printable_from, printable}
use Rattle.bit_blast.specs.Laws.{is_boolean}
use Rattle.bit_scripts.specs.Scripts.{asserting}
use Rattle.bit_scripts.proofs.BooleanTerms.{IsFlag, boolean_clear, boolean_within}
use Rattle.bit_scripts.proofs.DeclaredFlags.{script_over, standing}
use Rattle.bit_scripts.proofs.DistinctNames.{of_among, parts_differ, not_among, distinct_apart}

-- truth values that can be declared one after the other
pub record MayBeDeclared (fs : List Symbol) : Type 0 where
  pub flags : All IsFlag fs
  pub usable : All (λ f. is_usable f.name ≡ true) fs
  pub distinct : are_distinct (names_of fs) ≡ true

-- a formula over these that can be asserted
pub record MayBeAsserted (fs : List Symbol) (u : Term) : Type 0 where
  pub sort : sort_of u ≡ Some bool
  pub sorted : IsWellSorted u
  pub boolean : is_boolean u ≡ true
  pub free : (f : Symbol) → is_among (free u) f ≡ true → is_among fs f ≡ true

-- ---- assertions

of_all : (test : Symbol → Bool) (gs : List Symbol) → ((g : Symbol) → is_among gs g ≡ true → test g ≡ true) → list_all test gs ≡ true
of_all test [] each = refl
of_all test (g ∷ gs) each =
    and_true (test g) (list_all test gs) (each g (left_true (symbol_eq g g) (is_among gs g) (symbol_itself g)))
    (of_all test gs (λ h among. each h (right_true (symbol_eq g h) (is_among gs h) among)))

module _ (fs : List Symbol) (may : MayBeDeclared fs) where
  term_prints : (ts : List Term) (u : Term) → MayBeAsserted fs u → is_printable_term (standing fs ts) u ≡ true
  term_prints ts u may_be =
      and_true (is_well_sorted u) (is_clear u && (symbols_are_live st u && all_within (sort_is_live []) is_usable u)) may_be.sorted
      (and_true (is_clear u) (symbols_are_live st u && all_within (sort_is_live []) is_usable u)
      (and_true (is_clear_below [] u) (are_distinct (names_of (free u))) (boolean_clear u may_be.boolean) (free_distinct fs u (distinct_apart fs may.distinct) may_be.free))
      (and_true (symbols_are_live st u) (all_within (sort_is_live []) is_usable u)
      (of_all (λ f. is_among fs f) (free u) may_be.free)
      (boolean_within is_usable u may_be.boolean (λ f among. of_among IsFlag fs f may.flags (may_be.free f among)))))
    where
      st : State Term
      st = standing fs ts

  assertion_stands : (begun : Bool) (ts : List Term) (i : ℕ) (u : Term) → MayBeAsserted fs u → may_stand begun (standing fs ts) (assert i u) ≡ true
  assertion_stands begun ts i u may_be = and_true (has_sort bool u) (is_printable_term (standing fs ts) u) (ap (is_of_sort bool) may_be.sort) (term_prints ts u may_be)

  assertions_print : (begun : Bool) (i : ℕ) (ts us : List Term) → All (MayBeAsserted fs) us → printable_from begun (standing fs ts) (asserting i us ++ check ∷ []) ≡ true
  assertions_print begun i ts [] all = refl
  assertions_print begun i ts (u ∷ us) all =
      and_true (may_stand begun (standing fs ts) (assert i u)) (printable_from true (standing fs (ts ++ u ∷ [])) (asserting (suc i) us ++ check ∷ []))
      (assertion_stands begun ts i u (All-head (MayBeAsserted fs) u us all))
      (assertions_print true (suc i) (ts ++ u ∷ []) us (All-tail (MayBeAsserted fs) u us all))

-- ---- declarations

declaration_stands : (begun : Bool) (fs gs : List Symbol) (g : Symbol) → IsFlag g → is_usable g.name ≡ true → are_distinct (names_of (fs ++ g ∷ gs)) ≡ true → may_stand begun (standing fs []) (declare g) ≡ true
declaration_stands begun fs gs g flag usable distinct =
    and_true (is_usable g.name) (not (is_among_names (names_of fs) g.name) && list_all (λ to. is_sort to && sort_is_live [] to) (g.result ∷ g.args)) usable
    (and_true (not (is_among_names (names_of fs) g.name)) (list_all (λ to. is_sort to && sort_is_live [] to) (g.result ∷ g.args))
    (ap not (not_among fs g gs (parts_differ fs (g ∷ gs) distinct)))
    (λ i. list_all (λ to. is_sort to && sort_is_live [] to) (flag.result i ∷ flag.args i)))

declarations_print : (begun : Bool) (fs gs : List Symbol) (cs : List (Command Term)) → All IsFlag gs → All (λ g. is_usable g.name ≡ true) gs → are_distinct (names_of (fs ++ gs)) ≡ true
    → ((later : Bool) → printable_from later (standing (fs ++ gs) []) cs ≡ true) → printable_from begun (standing fs []) (map declare gs ++ cs) ≡ true
declarations_print begun fs [] cs flags usable distinct rest = subst (λ hs. printable_from begun (standing hs []) cs ≡ true) (append-nil fs) (rest begun)
declarations_print begun fs (g ∷ gs) cs flags usable distinct rest =
    and_true (may_stand begun (standing fs []) (declare g)) (printable_from true (standing (fs ++ g ∷ []) []) (map declare gs ++ cs))
    (declaration_stands begun fs gs g (All-head IsFlag g gs flags) (All-head (λ (h : Symbol). is_usable h.name ≡ true) g gs usable) distinct)
    (declarations_print true (fs ++ g ∷ []) gs cs (All-tail IsFlag g gs flags) (All-tail (λ (h : Symbol). is_usable h.name ≡ true) g gs usable)
    (ap (λ hs. are_distinct (names_of hs)) (append_assoc fs (g ∷ []) gs) ∙ distinct)
    (λ later. ap (λ hs. printable_from later (standing hs []) cs) (append_assoc fs (g ∷ []) gs) ∙ rest later))

pub script_prints : (fs : List Symbol) (us : List Term) → MayBeDeclared fs → All (MayBeAsserted fs) us → printable (script_over fs us) ≡ true
script_prints fs us may all =
    declarations_print false [] fs (asserting 1 us ++ check ∷ []) may.flags may.usable may.distinct (λ later. assertions_print fs may later 1 [] us all)
