-- Printed heads of applications are read.
use Rattle.std.proofs.Common.{◌≡◌, ℕ, suc, true, false, not, Ok, Some, None, List, [], ◌∷◌, map, refl, ap, sym, subst, ◌∙◌}
use Rattle.std.specs.Prelude.{◌&&◌, nat_lt, codes, unwrap_or, is_some}
use Rattle.smt_lex.specs.Names.{Name, is_reserved, is_syntax_word, is_command_word, is_theory_name, is_internal}
use Rattle.smt_lex.specs.Forms.{Form, Forms, none, ◌⨾◌, forms_of_list}
use Rattle.smt_terms.specs.declared.op.Op.{Op}
use Rattle.smt_terms.specs.Free.{is_among as is_among_symbols}
use Rattle.smt_terms.specs.Rank.{width, rank, sort_of, sorts_of}
use Rattle.smt_terms.specs.Sorts.{Sort, bool, Symbol, Variable}
use Rattle.smt_terms.specs.Term.{Head, op, symbol, const_array, Term, terms, over}
use Rattle.smt_terms.specs.Written.{Written, Indexed, operator_named, at_indices, written_rank, build}
use Rattle.smt_terms.proofs.Made.{made-sort}
use Rattle.smt_terms.proofs.Operands.{fewer_sorts}
use Rattle.smt_terms.proofs.Sorted.{sort_of-apply, sorted}
use Rattle.smt_terms.proofs.Tests.{both_true, not_true}
use Rattle.script_terms.specs.declared.causes.Cause.TheVariants.{UnknownName, NumberLimit}
use Rattle.script_read.specs.Commands.{Signature}
use Rattle.script_terms.specs.Heads.{Callee, written, array_of_sort, called, indices_within, written_at, theory_head, live_head, named_head, indexed_head, atom_head, callee_of, applied, term_algebra, term_width, operand_sorts, where_ranked}
use Rattle.script_terms.specs.Parts.{greatest_number, numeral_in, numerals_with, numerals_in, head, opening}
use Rattle.script_terms.specs.Reading.{ReadLocal, ReadBinding, Sofar, entry_of, bound_as, beside, live_sorts}
use Rattle.script_terms.specs.Refusals.{unless, mapped}
use Rattle.term_table.specs.WrittenForms.{word_form, symbol_form, numeral_form, constant_array_form}
use Rattle.smt_print.specs.TermForms.{Definition, operator_form}
use Rattle.smt_print.proofs.Contexts.{lookup, InScope}
use Rattle.smt_print.proofs.FormTexts.{end_of, placed, placed_behind}
use Rattle.smt_print.proofs.OperatorViews.{is_operator_name, named_form, AreSmall, View}
use Rattle.smt_print.proofs.Readings.{HeadReads}
use Rattle.smt_print.proofs.SortsRead.{SortFits, sort_read}
use Rattle.smt_print.proofs.SymbolsRead.{word_opening, word_symbol, symbol_opening, symbol_read, numeral_read}

-- ---- what a name of the theories is

pub record IsOperatorName (n : Name) : Type 0 where
  pub free : is_reserved n ≡ false
  pub theory : is_theory_name n ≡ true
  pub outer : is_internal n ≡ false

pub operator_name : (n : Name) → is_operator_name n ≡ true → IsOperatorName n
operator_name n h =
    let parts = both_true (not (is_reserved n)) (is_theory_name n && not (is_internal n)) h in
    let more = both_true (is_theory_name n) (not (is_internal n)) parts.1 in
    record { free = not_true (is_reserved n) parts.0; theory = more.0; outer = not_true (is_internal n) more.1 }

-- nothing else has it
theory_unbound : (scope : List Variable) (ds : List Definition) (ls : List ReadLocal) (n : Name) → InScope scope ds ls → is_theory_name n ≡ true → is_internal n ≡ false → bound_as ls n ≡ None
theory_unbound scope ds ls n known theory outer = known.unbound n outer (known.theories n theory)

-- ---- callees

unbound_head : (ls : List ReadLocal) (bs : List ReadBinding) (place : ℕ) (n : Name) (fs : Forms) (indices : List ℕ) → bound_as ls n ≡ None → named_head ls bs place n fs indices ≡ live_head place n fs indices (entry_of bs n)
unbound_head ls bs place n fs indices free = ap (λ o. unless (is_some o) UnknownName place (live_head place n fs indices (entry_of bs n))) free

theory_callee : (ls : List ReadLocal) (bs : List ReadBinding) (place : ℕ) (n : Name) (fs : Forms) (indices : List ℕ) (i : Indexed) (w : Written) → bound_as ls n ≡ None → entry_of bs n ≡ None → operator_named n ≡ Some i
    → at_indices i indices ≡ Some w → indices_within fs (written w) ≡ Ok (written w) → named_head ls bs place n fs indices ≡ Ok (written w)
theory_callee ls bs place n fs indices i w free unused named at within =
    unbound_head ls bs place n fs indices free ∙ ap (live_head place n fs indices) unused ∙ ap (theory_head place n fs indices) named ∙ ap (written_at place fs) at ∙ within

more_numerals : (f : Form) (fs : Forms) (n : ℕ) (ns : List ℕ) → numeral_in f ≡ Some n → numerals_in fs ≡ Some ns → numerals_in (f ⨾ fs) ≡ Some (n ∷ ns)
more_numerals f fs n ns first others = ap (λ o. numerals_with o (numerals_in fs)) first ∙ ap (numerals_with (Some n)) others

pub indices_read : (p : ℕ) (is : List ℕ) → numerals_in (placed_behind p (forms_of_list (map numeral_form is)) none) ≡ Some is
indices_read p [] = refl
indices_read p (i ∷ is) =
    more_numerals (placed (suc p) (numeral_form i)) (placed_behind (end_of (suc p) (numeral_form i)) (forms_of_list (map numeral_form is)) none) i is (numeral_read i) (indices_read (end_of (suc p) (numeral_form i)) is)

small_within : (p : ℕ) (is : List ℕ) (c : Callee) → AreSmall is → indices_within (placed_behind p (forms_of_list (map numeral_form is)) none) c ≡ Ok c
small_within p [] c small = refl
small_within p (i ∷ is) c small =
    let rest = indices_within (placed_behind (end_of (suc p) (numeral_form i)) (forms_of_list (map numeral_form is)) none) c in
    ap (λ o. unless (nat_lt greatest_number (unwrap_or o 0)) NumberLimit (suc p) rest) (numeral_read i) ∙ ap (λ b. unless b NumberLimit (suc p) rest) small.0
    ∙ small_within (end_of (suc p) (numeral_form i)) is c small.1

operator_callee : (ls : List ReadLocal) (bs : List ReadBinding) (n : Name) (is : List ℕ) (i : Indexed) (w : Written) (p : ℕ) → IsOperatorName n → bound_as ls n ≡ None → entry_of bs n ≡ None → operator_named n ≡ Some i
    → at_indices i is ≡ Some w → AreSmall is → callee_of ls (placed p (named_form n is)) bs ≡ Ok (written w)
unfolding is_syntax_word is_command_word
operator_callee ls bs n [] i w p usual free unused named at small =
    ap (atom_head ls bs p) (word_symbol n usual.free) ∙ theory_callee ls bs p n none [] i w free unused named at refl
operator_callee ls bs n (k ∷ ks) i w p usual free unused named at small =
    let q = suc (end_of (suc p) (word_form (codes "_"))) in
    let fs = placed_behind (end_of q (word_form n)) (forms_of_list (map numeral_form (k ∷ ks))) none in
    ap (λ o. indexed_head ls bs p fs o (numerals_in fs)) (word_symbol n usual.free)
    ∙ ap (indexed_head ls bs p fs (Some n)) (indices_read (end_of q (word_form n)) (k ∷ ks))
    ∙ theory_callee ls bs p n fs (k ∷ ks) i w free unused named at (small_within (end_of q (word_form n)) (k ∷ ks) (written w) small)

named_opening : (p : ℕ) (n : Name) (is : List ℕ) → is_reserved n ≡ false → opening (placed p (named_form n is)) ≡ head (placed p (named_form n is))
named_opening p n [] free = word_opening p n free
named_opening p n (i ∷ is) free = refl

-- ---- applications of written operators

pub term_widths : (ts : List Term) (ss : List Sort) → sorts_of (terms ts) ≡ Some ss → map term_width ts ≡ map width ss
term_widths [] [] h = refl
term_widths [] (s ∷ ss) h = absurd (cc)
term_widths (t ∷ ts) [] h = absurd (let r = sorted t (terms ts) [] h in let e : [] ≡ r.sort ∷ r.sorts = r.all in cc)
term_widths (t ∷ ts) (s ∷ ss) h =
    let parts = fewer_sorts t (terms ts) s ss h in
    ap (λ o. width (unwrap_or o bool) ∷ map term_width ts) parts.0 ∙ ap (λ ws. width s ∷ ws) (term_widths ts ss parts.1)

made_sort : (o : Op) (ts : List Term) (ss : List Sort) (s : Sort) → sorts_of (terms ts) ≡ Some ss → rank (op o) ss ≡ Ok s → sort_of (term_algebra.make o ts) ≡ Some s
made_sort o ts ss s sorts ranked = made-sort (op o) (terms ts) ∙ sort_of-apply (op o) (terms ts) ss s sorts ranked

written_applied : (o : Op) (w : Written) (ss : List Sort) (s : Sort) (place : ℕ) (ts : List Term) (st : Sofar) → written_rank w ss ≡ Ok s → sorts_of (terms ts) ≡ Some ss
    → applied (written w) place ts st ≡ Ok (build term_algebra w ts, st)
written_applied o w ss s place ts st ranked sorts =
    ap (λ q. beside st (where_ranked place (written_rank w (unwrap_or q [])) (build term_algebra w ts))) sorts
    ∙ ap (λ r. beside st (where_ranked place r (build term_algebra w ts))) ranked

pub operator_reads : (g : Signature) (scope : List Variable) (ds : List Definition) (o : Op) (ss : List Sort) (s : Sort) → View o ss s → rank (op o) ss ≡ Ok s → HeadReads g scope ds (operator_form o) ss s
operator_reads g scope ds o ss s view ranked =
    let usual = operator_name view.name view.usual in
    subst (λ f. HeadReads g scope ds f ss s) (sym view.form) (record {
      begins = λ p. named_opening p view.name view.indices usual.free;
      calls = λ bs c p live known. (
        written view.written,
        operator_callee c.locals bs view.name view.indices view.indexed view.written p usual (theory_unbound scope ds c.locals view.name known usual.theory usual.outer) (live.theories view.name usual.theory)
            view.named view.taken view.small,
        λ place ts st sorts. (
          build term_algebra view.written ts,
          written_applied o view.written ss s place ts st view.ranked sorts,
          ap sort_of (view.made term_algebra ts (term_widths ts ss sorts)) ∙ made_sort o ts ss s sorts ranked,
        ),
      );
    })

-- ---- symbols

ranked_applied : (h : Head) (ss : List Sort) (s : Sort) (place : ℕ) (ts : List Term) (st : Sofar) → rank h ss ≡ Ok s → sorts_of (terms ts) ≡ Some ss
    → beside st (where_ranked place (rank h (operand_sorts ts)) (over h ts)) ≡ Ok (over h ts, st)
ranked_applied h ss s place ts st ranked sorts =
    ap (λ q. beside st (where_ranked place (rank h (unwrap_or q [])) (over h ts))) sorts ∙ ap (λ r. beside st (where_ranked place r (over h ts))) ranked

pub symbol_reads : (g : Signature) (scope : List Variable) (ds : List Definition) (f : Symbol) (ss : List Sort) (s : Sort) → is_internal f.name ≡ false → lookup scope f.name ≡ None → is_among_symbols g.symbols f ≡ true
    → rank (symbol f) ss ≡ Ok s → HeadReads g scope ds (symbol_form f.name) ss s
symbol_reads g scope ds f ss s outer free live_symbol ranked = record {
  begins = λ p. symbol_opening p f.name;
  calls = λ bs c p live known. (
    called f,
    ap (atom_head c.locals bs p) (symbol_read f.name) ∙ unbound_head c.locals bs p f.name none [] (known.unbound f.name outer free) ∙ ap (live_head p f.name none []) (live.symbols f live_symbol),
    λ place ts st sorts. (over (symbol f) ts, ranked_applied (symbol f) ss s place ts st ranked sorts, sort_of-apply (symbol f) (terms ts) ss s sorts ranked),
  );
}

-- ---- constant arrays

pub array_reads : (g : Signature) (scope : List Variable) (ds : List Definition) (a : Sort) (ss : List Sort) (s : Sort) → SortFits g a → rank (const_array a) ss ≡ Ok s → HeadReads g scope ds (constant_array_form a) ss s
unfolding is_syntax_word is_command_word
array_reads g scope ds a ss s fits ranked = record {
  begins = λ p. refl;
  calls = λ bs c p live known.
      let q = suc (end_of (suc (end_of (suc p) (word_form (codes "as")))) (word_form (codes "const"))) in (
        array_of_sort a,
        ap (mapped array_of_sort) (sort_read g (live_sorts bs) live.sorts a q fits),
        λ place ts st sorts. (over (const_array a) ts, ranked_applied (const_array a) ss s place ts st ranked sorts, sort_of-apply (const_array a) (terms ts) ss s sorts ranked),
      );
}
