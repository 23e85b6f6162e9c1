-- What printed heads mean over operands, and printed terms without operands.
use Rattle.std.proofs.Common.{◌≡◌, ℕ, suc, ◌/◌, ◌%◌, ◌^◌, ◌<◌, ◌≤◌, inl, inr, Bool, true, false, eqb, Ok, Some, None, List, [], ◌∷◌, ◌++◌, map, refl, ap, sym, subst, ◌∙◌, arith}
use Rattle.std.specs.Prelude.{codes, unwrap_or, nat_abs, ℤ, pos, negsuc, option_and_then}
use Rattle.std.proofs.lemmas.Bool.{le-ltb}
use Rattle.smt_lex.specs.declared.items.Item.TheVariants.{Numeral, Hex, Bin, Word}
use Rattle.smt_lex.specs.Lex.{Token, symbol_of}
use Rattle.smt_lex.specs.Names.{Name, printed_symbol, is_syntax_word, is_command_word, is_internal}
use Rattle.smt_lex.specs.Forms.{Form, atom, none, forms_of_list}
use Rattle.smt_terms.specs.declared.op.Op.{Op}
use Rattle.smt_terms.specs.declared.op.Op.TheVariants.{Truth, Whole, Bits, Neg}
use Rattle.smt_terms.specs.Free.{is_among as is_among_symbols}
use Rattle.smt_terms.specs.Models.{Model, background, symbol_value}
use Rattle.smt_terms.specs.Numeral.{numeral}
use Rattle.smt_terms.specs.Operators.{op_value, first_value}
use Rattle.smt_terms.specs.Rank.{most_bits, width, rank, sorts_of, sort_over, with_sort}
use Rattle.smt_terms.specs.Sorts.{Sort, bool, int, Symbol, Variable}
use Rattle.smt_terms.specs.Term.{Head, op, symbol, const_array, Term, apply, Terms, none as no_terms, ◌⨾◌}
use Rattle.smt_terms.specs.Val.{Env}
use Rattle.smt_terms.specs.Values.{Value, table, no_pairs, whole}
use Rattle.smt_terms.specs.Written.{Written, Indexed, operator_named, at_indices, written_named}
use Rattle.smt_terms.proofs.Operands.{fewer_sorts}
use Rattle.smt_terms.proofs.Sorted.{sort_of-apply, sorted}
use Rattle.smt_terms.proofs.Ranked.{rank-takes}
use Rattle.script_read.specs.Commands.{Signature}
use Rattle.script_read.specs.Laws.{denoted}
use Rattle.script_read.specs.Mean.{Denoted, Meaning, values_of, over_op, over_symbol, over_array, denoted_width, value_algebra, over_written, denoted_as, over_constant, truth_of, live_or, denoted_or, symbol_or_nothing, token_means, array_of, named_means, symbol_head_means, head_means, mean}
use Rattle.script_terms.specs.Parts.{constant_by, numerals_in}
use Rattle.term_table.specs.WrittenForms.{word_form, symbol_form, numeral_form, constant_array_form, truth_form, integer_form, last_digits, vector_form}
use Rattle.smt_print.specs.TermForms.{Definition, operator_form, head_form, application_form}
use Rattle.smt_print.proofs.Digits.{numeral_value, binary_constant}
use Rattle.smt_print.proofs.FormTexts.{end_of, token_at, placed, placed_behind}
use Rattle.smt_print.proofs.HeadsRead.{IsOperatorName, operator_name, indices_read, operator_reads}
use Rattle.smt_print.proofs.LeavesRead.{IsLeaf, truth_leaf, whole_leaf, bits_leaf, leaf, hex_vector, usual_true, usual_false, SymbolFits, HeadFits, no_filling, live_head_symbol, whole_rank, minus_rank, constant_sort}
use Rattle.smt_print.proofs.Meanings.{Means, HeadMeans, each_denoted, denoted_sorts, denoted_values, means_application, bound_means}
use Rattle.smt_print.proofs.OperatorViews.{named_form, View, view}
use Rattle.smt_print.proofs.SortsRead.{SortFits, sort_read}
use Rattle.smt_print.proofs.SymbolsRead.{word_symbol, symbol_item, symbol_read, symbol_no_constant}
use Rattle.smt_print.proofs.Writable.{tell}

-- ---- operators over operands

value_widths : (m : Model) (v : Env) (ts : Terms) (ss : List Sort) → sorts_of ts ≡ Some ss → map denoted_width (each_denoted m v ts) ≡ map width ss
value_widths m v no_terms [] h = refl
value_widths m v no_terms (s ∷ ss) h = absurd (cc)
value_widths m v (t ⨾ ts) [] h = absurd (let r = sorted t ts [] h in let e : [] ≡ r.sort ∷ r.sorts = r.all in cc)
value_widths m v (t ⨾ ts) (s ∷ ss) h =
    let parts = fewer_sorts t ts s ss h in
    ap (λ o. width (unwrap_or o bool) ∷ map denoted_width (each_denoted m v ts)) parts.0 ∙ ap (λ ws. width s ∷ ws) (value_widths m v ts ss parts.1)

op_denotes : (m : Model) (v : Env) (o : Op) (ts : Terms) → over_op m o (each_denoted m v ts) ≡ denoted m v (apply (op o) ts)
op_denotes m v o ts =
    ap (λ ss. (op_value (background m) o (unwrap_or ss []) (values_of (each_denoted m v ts)), sort_over (op o) ss)) (denoted_sorts m v ts)
    ∙ ap (λ vs. (op_value (background m) o (unwrap_or (sorts_of ts) []) vs, sort_over (op o) (sorts_of ts))) (denoted_values m v ts)

symbol_denotes : (m : Model) (v : Env) (f : Symbol) (t : Term) (ts : Terms) → over_symbol m f (each_denoted m v (t ⨾ ts)) ≡ denoted m v (apply (symbol f) (t ⨾ ts))
symbol_denotes m v f t ts =
    ap (λ ss. (symbol_value m f (values_of (each_denoted m v (t ⨾ ts))), sort_over (symbol f) ss)) (denoted_sorts m v (t ⨾ ts))
    ∙ ap (λ vs. (symbol_value m f vs, sort_over (symbol f) (sorts_of (t ⨾ ts)))) (denoted_values m v (t ⨾ ts))

array_denotes : (m : Model) (v : Env) (a : Sort) (ts : Terms) → over_array a (each_denoted m v ts) ≡ denoted m v (apply (const_array a) ts)
array_denotes m v a ts =
    ap (λ ss. (table (first_value (values_of (each_denoted m v ts))) no_pairs, sort_over (const_array a) ss)) (denoted_sorts m v ts)
    ∙ ap (λ vs. (table (first_value vs) no_pairs, sort_over (const_array a) (sorts_of ts))) (denoted_values m v ts)

written_as : (n : Name) (is : List ℕ) (i : Indexed) (w : Written) → operator_named n ≡ Some i → at_indices i is ≡ Some w → written_named n is ≡ Some w
written_as n is i w named at = ap (option_and_then (λ o. at_indices o is)) named ∙ at

-- a name with its indices, as the head over operands
named_head_means : (m : Model) (e : Meaning) (n : Name) (is : List ℕ) (w : Written) (qs : List Denoted) (p : ℕ) → IsOperatorName n → e.live n ≡ None → written_named n is ≡ Some w
    → head_means (placed p (named_form n is)) e m qs ≡ over_written m (Some w) qs
unfolding is_syntax_word is_command_word
named_head_means m e n [] w qs p usual unused named =
    ap (λ o. symbol_head_means e m o qs) (word_symbol n usual.free) ∙ ap (λ o. live_or o qs (over_written m (written_named n []) qs)) unused ∙ ap (λ o. over_written m o qs) named
named_head_means m e n (k ∷ []) w qs p usual unused named =
    let q = suc (end_of (suc p) (word_form (codes "_"))) in
    let fs = placed_behind (end_of q (word_form n)) (forms_of_list (map numeral_form (k ∷ []))) none in
    ap (λ o. named_means e m o (numerals_in fs) qs) (word_symbol n usual.free)
    ∙ ap (λ o. named_means e m (Some n) o qs) (indices_read (end_of q (word_form n)) (k ∷ [])) ∙ ap (λ o. over_written m o qs) named
named_head_means m e n (k ∷ j ∷ ks) w qs p usual unused named =
    let q = suc (end_of (suc p) (word_form (codes "_"))) in
    let fs = placed_behind (end_of q (word_form n)) (forms_of_list (map numeral_form (k ∷ j ∷ ks))) none in
    ap (λ o. named_means e m o (numerals_in fs) qs) (word_symbol n usual.free)
    ∙ ap (λ o. named_means e m (Some n) o qs) (indices_read (end_of q (word_form n)) (k ∷ j ∷ ks)) ∙ ap (λ o. over_written m o qs) named

operator_means : (g : Signature) (scope : List Variable) (ds : List Definition) (o : Op) (ss : List Sort) (s : Sort) → View o ss s → HeadMeans g scope ds (operator_form o) (op o) ss
operator_means g scope ds o ss s view =
    let usual = operator_name view.name view.usual in
    subst (λ f. HeadMeans g scope ds f (op o) ss) (sym view.form) (record {
      means = λ m e v p t ts live known sorts.
          named_head_means m e view.name view.indices view.written (each_denoted m v (t ⨾ ts)) p usual (live.theories view.name usual.theory) (written_as view.name view.indices view.indexed view.written view.named view.taken)
          ∙ view.made (value_algebra m) (each_denoted m v (t ⨾ ts)) (value_widths m v (t ⨾ ts) ss sorts)
          ∙ op_denotes m v o (t ⨾ ts);
    })

symbol_means_over : (g : Signature) (scope : List Variable) (ds : List Definition) (f : Symbol) (ss : List Sort) → is_among_symbols g.symbols f ≡ true → HeadMeans g scope ds (symbol_form f.name) (symbol f) ss
symbol_means_over g scope ds f ss live_symbol = record {
  means = λ m e v p t ts live known sorts.
      let qs = each_denoted m v (t ⨾ ts) in
      ap (λ o. symbol_head_means e m o qs) (symbol_read f.name) ∙ ap (λ o. live_or o qs (over_written m (written_named f.name []) qs)) (live.symbols f live_symbol) ∙ symbol_denotes m v f t ts;
}

array_means : (g : Signature) (scope : List Variable) (ds : List Definition) (a : Sort) (ss : List Sort) → SortFits g a → HeadMeans g scope ds (constant_array_form a) (const_array a) ss
array_means g scope ds a ss fits = record {
  means = λ m e v p t ts live known sorts.
      let q = suc (end_of (suc (end_of (suc p) (word_form (codes "as")))) (word_form (codes "const"))) in
      ap (λ r. array_of r (each_denoted m v (t ⨾ ts))) (sort_read g e.sorts live.sorts a q fits) ∙ array_denotes m v a (t ⨾ ts);
}

pub head_means_over : (g : Signature) (scope : List Variable) (ds : List Definition) (h : Head) (u : Sort) (us : List Sort) (s : Sort) → HeadFits g scope h → width u ≤ most_bits → rank h (u ∷ us) ≡ Ok s
    → HeadMeans g scope ds (head_form h) h (u ∷ us)
head_means_over g scope ds (op o) u us s fits narrow ranked = operator_means g scope ds o (u ∷ us) s (view o (u ∷ us) s ranked (omega arith) narrow)
head_means_over g scope ds (symbol f) u us s fits narrow ranked = symbol_means_over g scope ds f (u ∷ us) (live_head_symbol g scope f u us s fits.1 ranked).1
head_means_over g scope ds (const_array a) u us s fits narrow ranked = array_means g scope ds a (u ∷ us) fits

-- ---- constants

-- a token that is a constant
constant_means : (g : Signature) (scope : List Variable) (ds : List Definition) (t : Token) (o : Op) → constant_by t.item t.text ≡ Some o → Means g scope ds (atom t) (apply (op o) no_terms)
constant_means g scope ds t o is = record { means = λ m e v p live known. ap (token_means e m (token_at p t.item t.text)) is }

truth_means : (g : Signature) (scope : List Variable) (ds : List Definition) (n : Name) (b : Bool) → IsOperatorName n → constant_by Word n ≡ None → truth_of n ≡ Some (Truth b) → Means g scope ds (word_form n) (apply (op (Truth b)) no_terms)
truth_means g scope ds n b usual other is = record {
  means = λ m e v p live known.
      ap (symbol_or_nothing e m) (word_symbol n usual.free)
      ∙ ap (λ o. denoted_or o (live_or (e.live n) [] (over_constant m (truth_of n)))) (known.unbound n usual.outer (known.theories n usual.theory))
      ∙ ap (λ o. live_or o [] (over_constant m (truth_of n))) (live.theories n usual.theory)
      ∙ ap (over_constant m) is;
}

numeral_means : (g : Signature) (scope : List Variable) (ds : List Definition) (n : ℕ) → Means g scope ds (numeral_form n) (apply (op (Whole (pos n))) no_terms)
numeral_means g scope ds n = constant_means g scope ds (record { item = Numeral; start = 0; text = numeral n }) (Whole (pos n)) (ap (λ k. Some (Whole (pos k))) (numeral_value n))

-- a term that has the same value everywhere
like : (g : Signature) (scope : List Variable) (ds : List Definition) (f : Form) (t u : Term) → ((m : Model) (v : Env) → denoted m v t ≡ denoted m v u) → Means g scope ds f t → Means g scope ds f u
like g scope ds f t u same h = record { means = λ m e v p live known. h.means m e v p live known ∙ same m v }

abbrev whole_constant : ℤ → Term
whole_constant n = apply (op (Whole n)) no_terms

minus_sorts : (n : ℕ) → nat_abs (negsuc n) < 2 ^ 127 → sorts_of (whole_constant (pos (suc n)) ⨾ no_terms) ≡ Some (int ∷ [])
minus_sorts n few = ap (λ o. with_sort o (Some [])) (constant_sort (Whole (pos (suc n))) int (whole_rank (pos (suc n)) few))

minus_denotes : (m : Model) (v : Env) (n : ℕ) → nat_abs (negsuc n) < 2 ^ 127 → denoted m v (apply (op Neg) (whole_constant (pos (suc n)) ⨾ no_terms)) ≡ denoted m v (whole_constant (negsuc n))
unfolding op_value
minus_denotes m v n few =
    ap (λ s. (whole (negsuc n), s))
    (sort_of-apply (op Neg) (whole_constant (pos (suc n)) ⨾ no_terms) (int ∷ []) int (minus_sorts n few) minus_rank ∙ sym (constant_sort (Whole (negsuc n)) int (whole_rank (negsuc n) few)))

minus_means : (g : Signature) (scope : List Variable) (ds : List Definition) (n : ℕ) → nat_abs (negsuc n) < 2 ^ 127 → Means g scope ds (application_form (operator_form Neg) (numeral_form (suc n) ∷ [])) (whole_constant (negsuc n))
minus_means g scope ds n few =
    let seen = view Neg (int ∷ []) int minus_rank (omega arith) (omega arith) in
    like g scope ds (application_form (operator_form Neg) (numeral_form (suc n) ∷ [])) (apply (op Neg) (whole_constant (pos (suc n)) ⨾ no_terms)) (whole_constant (negsuc n)) (λ m v. minus_denotes m v n few)
    (means_application g scope ds (operator_form Neg) (numeral_form (suc n)) [] (op Neg) (whole_constant (pos (suc n))) no_terms (int ∷ []) (operator_reads g scope ds Neg (int ∷ []) int seen minus_rank).begins
    (operator_means g scope ds Neg (int ∷ []) int seen) (minus_sorts n few) (numeral_means g scope ds (suc n), tt))

integer_means : (g : Signature) (scope : List Variable) (ds : List Definition) (n : ℤ) → nat_abs n < 2 ^ 127 → Means g scope ds (integer_form n) (whole_constant n)
unfolding operator_form
integer_means g scope ds (pos n) few = rw (le-ltb n 0 (omega arith)) (numeral_means g scope ds n)
integer_means g scope ds (negsuc n) few = minus_means g scope ds n few

bits_means : (g : Signature) (scope : List Variable) (ds : List Definition) (w n : ℕ) → n < 2 ^ w → Means g scope ds (vector_form w n) (apply (op (Bits w n)) no_terms)
bits_means g scope ds w n less = elim (tell (eqb (w % 4) 0)) [
  | inl four ↦ rw four (constant_means g scope ds (record { item = Hex; start = 0; text = codes "#x" ++ last_digits 16 (w / 4) n [] }) (Bits w n) (hex_vector w n four less))
  | inr other ↦ rw other (constant_means g scope ds (record { item = Bin; start = 0; text = codes "#b" ++ last_digits 2 w n [] }) (Bits w n) (binary_constant w n less))
]

truths_mean : (g : Signature) (scope : List Variable) (ds : List Definition) (b : Bool) → Means g scope ds (truth_form b) (apply (op (Truth b)) no_terms)
truths_mean g scope ds true = truth_means g scope ds (codes "true") true usual_true refl refl
truths_mean g scope ds false = truth_means g scope ds (codes "false") false usual_false refl refl

leaf_means : (g : Signature) (scope : List Variable) (ds : List Definition) (o : Op) (s : Sort) → IsLeaf o s → Means g scope ds (operator_form o) (apply (op o) no_terms)
unfolding operator_form
leaf_means g scope ds _ _ (truth_leaf b) = truths_mean g scope ds b
leaf_means g scope ds _ _ (whole_leaf n few) = integer_means g scope ds n few
leaf_means g scope ds _ _ (bits_leaf w n some few less) = bits_means g scope ds w n less

-- ---- symbols

variable_denotes : (m : Model) (v : Env) (f : Symbol) (w : Value) (s : Sort) → v f ≡ Some w → rank (symbol f) [] ≡ Ok s → denoted_as w s ≡ denoted m v (apply (symbol f) no_terms)
variable_denotes m v f w s is ranked =
    ap (λ o. (unwrap_or o (symbol_value m f []), Some s)) (sym is) ∙ ap (λ r. (unwrap_or (v f) (symbol_value m f []), r)) (sym (sort_of-apply (symbol f) no_terms [] s refl ranked))

constant_denotes : (m : Model) (v : Env) (f : Symbol) → v f ≡ None → over_symbol m f [] ≡ denoted m v (apply (symbol f) no_terms)
constant_denotes m v f free = ap (λ o. (unwrap_or o (symbol_value m f []), sort_over (symbol f) (Some []))) (sym free)

live_means : (e : Meaning) (m : Model) (t : Token) (f : Symbol) → constant_by t.item t.text ≡ None → symbol_of t ≡ Some f.name → e.bound f.name ≡ None → e.live f.name ≡ Some (over_symbol m f) → mean (atom t) e m ≡ over_symbol m f []
live_means e m t f other is unbound live =
    ap (token_means e m t) other ∙ ap (symbol_or_nothing e m) is ∙ ap (λ o. denoted_or o (live_or (e.live f.name) [] (over_constant m (truth_of f.name)))) unbound
    ∙ ap (λ o. live_or o [] (over_constant m (truth_of f.name))) live

symbol_alone : (g : Signature) (scope : List Variable) (ds : List Definition) (f : Symbol) (s : Sort) → is_internal f.name ≡ false → SymbolFits g scope f → rank (symbol f) [] ≡ Ok s → Means g scope ds (symbol_form f.name) (apply (symbol f) no_terms)
symbol_alone g scope ds f s outer (inl there) ranked = record {
  means = λ m e v p live known.
      let x = there.0 in
      let r = known.bound f.name x outer there.1 in
      let result : x.sort ≡ s = sym ((rank-takes (symbol f) [] s ranked).1 ∙ ap (λ h. h.result) there.2) in
      bound_means e m (token_at p (symbol_item f.name) (printed_symbol f.name)) f.name (denoted_as r.0 x.sort) (symbol_no_constant f.name) (symbol_read f.name) r.1
      ∙ ap (denoted_as r.0) result ∙ variable_denotes m v f r.0 s (ap v there.2 ∙ r.2) ranked;
}
symbol_alone g scope ds f s outer (inr free) ranked = record {
  means = λ m e v p live known.
      live_means e m (token_at p (symbol_item f.name) (printed_symbol f.name)) f (symbol_no_constant f.name) (symbol_read f.name) (known.unbound f.name outer free.0) (live.symbols f free.1)
      ∙ constant_denotes m v f (known.free f free.0);
}

pub means_head : (g : Signature) (scope : List Variable) (ds : List Definition) (h : Head) (s : Sort) → HeadFits g scope h → rank h [] ≡ Ok s → Means g scope ds (head_form h) (apply h no_terms)
means_head g scope ds (op o) s fits ranked = leaf_means g scope ds o s (leaf o s ranked)
means_head g scope ds (symbol f) s fits ranked = symbol_alone g scope ds f s fits.0 fits.1 ranked
means_head g scope ds (const_array a) s fits ranked = absurd (no_filling a s ranked)
