-- Printed terms without operands are read: constants of the theories, symbols and quantified variables.
use Rattle.std.proofs.Common.{◌≡◌, ℕ, zero, suc, ◌*◌, ◌/◌, ◌%◌, ◌^◌, ◌<◌, ◌≤◌, inl, inr, ◌⊎◌, Bool, true, false, eqb, Ok, Some, None, List, [], ◌∷◌, ◌++◌, refl, ap, sym, subst, ◌∙◌, arith}
use Rattle.std.specs.Prelude.{nat_abs, codes, ℤ, pos, negsuc}
use Rattle.std.proofs.lemmas.Bool.{le-ltb, eqb-true}
use Rattle.std.proofs.lemmas.Nat.{div-add-mod'}
use Rattle.std.proofs.Math.Nat.{pow-suc}
use Rattle.smt_lex.specs.declared.items.Item.TheVariants.{Numeral, Hex, Bin, Word}
use Rattle.smt_lex.specs.Names.{Name, IsName, printed_symbol, is_reserved, is_syntax_word, is_command_word, is_theory_name, is_internal}
use Rattle.smt_lex.specs.Lex.{Token, symbol_of}
use Rattle.smt_lex.specs.Forms.{atom}
use Rattle.smt_terms.specs.declared.op.Op.{Op}
use Rattle.smt_terms.specs.declared.op.Op.TheVariants.{Truth, Whole, Bits, Neg}
use Rattle.smt_terms.specs.Free.{is_among as is_among_symbols}
use Rattle.smt_terms.specs.Numeral.{numeral}
use Rattle.smt_terms.specs.Rank.{shape, most_bits, width, rank, sort_of}
use Rattle.smt_terms.specs.Sorts.{Sort, bool, int, bit_vector, Symbol, Variable}
use Rattle.smt_terms.specs.Term.{Head, op, symbol, const_array, Term, apply, none as no_terms, constant, constant_of}
use Rattle.smt_terms.proofs.Ranked.{rank-takes, rank-narrow, takes-rank}
use Rattle.smt_terms.proofs.Sorted.{sort_of-apply}
use Rattle.script_terms.specs.declared.causes.Cause.TheVariants.{NumberLimit, WidthLimit}
use Rattle.script_read.specs.Commands.{Signature}
use Rattle.script_terms.specs.Heads.{atom_term, atom_by, name_or_other, symbol_term, live_symbol, theory_symbol, constant_or_refused, token_constant}
use Rattle.script_terms.specs.Parts.{constant_by, greatest_number}
use Rattle.script_terms.specs.Reading.{ReadLocal, ReadBinding, symbol_entry, entry_of, beside, bound_as}
use Rattle.script_terms.specs.Refusals.{unless}
use Rattle.term_table.specs.WrittenForms.{word_form, symbol_form, numeral_form, truth_form, integer_form, last_digits, vector_form}
use Rattle.smt_print.specs.TermForms.{Definition, operator_form, head_form, application_form}
use Rattle.smt_print.proofs.BindersRead.{bound_atom}
use Rattle.smt_print.proofs.Contexts.{lookup, LiveRead, InScope}
use Rattle.smt_print.proofs.Digits.{numeral_value, hex_constant, binary_constant}
use Rattle.smt_print.proofs.FormTexts.{token_at}
use Rattle.smt_print.proofs.HeadsRead.{IsOperatorName, operator_reads, symbol_reads, array_reads}
use Rattle.smt_print.proofs.OperatorViews.{view}
use Rattle.smt_print.proofs.Writable.{tell}
use Rattle.smt_print.proofs.Readings.{knowing, Reads, HeadReads, reads_application}
use Rattle.smt_print.proofs.SortsRead.{SortFits}
use Rattle.smt_print.proofs.SymbolsRead.{symbol_item, symbol_read, symbol_no_constant, word_symbol}

-- ---- which operators have no operands

pub data IsLeaf : Op → Sort → Type 0 where
  truth_leaf : (b : Bool) → IsLeaf (Truth b) bool
  whole_leaf : (n : ℤ) → nat_abs n < 2 ^ 127 → IsLeaf (Whole n) int
  bits_leaf : (w n : ℕ) → 0 < w → w ≤ most_bits → n < 2 ^ w → IsLeaf (Bits w n) (bit_vector w)

whole_is : (n : ℤ) (s : Sort) → nat_abs n < 2 ^ 127 → s ≡ int → IsLeaf (Whole n) s
whole_is n s few is = subst (λ t. IsLeaf (Whole n) t) (sym is) (whole_leaf n few)

bits_is : (w n : ℕ) (s : Sort) → 0 < w → n < 2 ^ w → width s ≤ most_bits → s ≡ bit_vector w → IsLeaf (Bits w n) s
bits_is w n s some less narrow is =
    let few : w ≤ most_bits = subst (λ t. width t ≤ most_bits) is narrow in
    subst (λ t. IsLeaf (Bits w n) t) (sym is) (bits_leaf w n some few less)

pub leaf : (o : Op) (s : Sort) → rank (op o) [] ≡ Ok s → IsLeaf o s
unfolding rank shape
leaf (Truth b) s r = subst (λ t. IsLeaf (Truth b) t) (sym (rank-takes (op (Truth b)) [] s r).1) (truth_leaf b)
leaf (Whole n) s r = let t = rank-takes (op (Whole n)) [] s r in whole_is n s t.1 t.2
leaf (Bits w n) s r = let t = rank-takes (op (Bits w n)) [] s r in bits_is w n s t.1 t.2 (rank-narrow (op (Bits w n)) [] s r) t.3
leaf _ s r = absurd (cc)

-- ---- tokens

pub reads_atom : (g : Signature) (scope : List Variable) (ds : List Definition) (t : Token) (s : Sort)
    → ((bs : List ReadBinding) (ls : List ReadLocal) (p : ℕ) → LiveRead g bs → InScope scope ds ls → (u : Term) × (atom_term ls (token_at p t.item t.text) bs ≡ Ok u) × (sort_of u ≡ Some s)) → Reads g scope ds (atom t) (Some s)
reads_atom g scope ds t s found = record {
  reads = λ bs taken c p i live known all.
      let r = found bs c.locals p live known in
      (r.0, i, ap (beside (knowing bs taken i)) r.1, r.2);
}

pub constant_sort : (o : Op) (s : Sort) → rank (op o) [] ≡ Ok s → sort_of (apply (op o) no_terms) ≡ Some s
constant_sort o s r = sort_of-apply (op o) no_terms [] s refl r

numeral_atom : (ls : List ReadLocal) (bs : List ReadBinding) (p n : ℕ) → n < 2 ^ 127 → atom_term ls (token_at p Numeral (numeral n)) bs ≡ Ok (apply (op (Whole (pos n))) no_terms)
numeral_atom ls bs p n few =
    ap (λ k. token_constant p (Whole (pos k))) (numeral_value n) ∙ ap (λ b. unless b NumberLimit p (Ok (apply (op (Whole (pos n))) no_terms))) (le-ltb greatest_number n (omega (arith, few)))

bits_atom : (ls : List ReadLocal) (bs : List ReadBinding) (t : Token) (w n : ℕ) → constant_by t.item t.text ≡ Some (Bits w n) → w ≤ most_bits → atom_term ls t bs ≡ Ok (apply (op (Bits w n)) no_terms)
bits_atom ls bs t w n is few = ap (atom_by ls bs t) is ∙ ap (λ b. unless b WidthLimit t.start (Ok (apply (op (Bits w n)) no_terms))) (le-ltb most_bits w few)

-- ---- constants of the theories

pub whole_rank : (n : ℤ) → nat_abs n < 2 ^ 127 → rank (op (Whole n)) [] ≡ Ok int
unfolding shape
whole_rank n few = takes-rank (op (Whole n)) [] int (refl, few, refl) (omega arith)

reads_numeral : (g : Signature) (scope : List Variable) (ds : List Definition) (n : ℕ) → n < 2 ^ 127 → Reads g scope ds (numeral_form n) (Some int)
reads_numeral g scope ds n few =
    reads_atom g scope ds (record { item = Numeral; start = 0; text = numeral n }) int (λ bs ls p live known.
    (apply (op (Whole (pos n))) no_terms, numeral_atom ls bs p n few, constant_sort (Whole (pos n)) int (whole_rank (pos n) few)))

pub minus_rank : rank (op Neg) (int ∷ []) ≡ Ok int
unfolding rank shape
minus_rank = refl

reads_minus : (g : Signature) (scope : List Variable) (ds : List Definition) (n : ℕ) → n < 2 ^ 127 → Reads g scope ds (application_form (operator_form Neg) (numeral_form n ∷ [])) (Some int)
reads_minus g scope ds n few =
    reads_application g scope ds (operator_form Neg) (numeral_form n) [] (int ∷ []) int
    (operator_reads g scope ds Neg (int ∷ []) int (view Neg (int ∷ []) int minus_rank (omega arith) (omega arith)) minus_rank) (reads_numeral g scope ds n few, tt)

reads_integer : (g : Signature) (scope : List Variable) (ds : List Definition) (n : ℤ) → nat_abs n < 2 ^ 127 → Reads g scope ds (integer_form n) (Some int)
unfolding operator_form
reads_integer g scope ds (pos n) few = rw (le-ltb n 0 (omega arith)) (reads_numeral g scope ds n few)
reads_integer g scope ds (negsuc n) few = reads_minus g scope ds (suc n) few

sixteen_powers : (c : ℕ) → 2 ^ (4 * c) ≡ 16 ^ c
sixteen_powers zero = refl
sixteen_powers (suc c) =
    let k = 4 * c in
    let four : 4 * suc c ≡ suc (suc (suc (suc k))) = omega arith in
    let a : 2 ^ suc k ≡ 2 ^ k * 2 = pow-suc 2 k in
    let b : 2 ^ suc (suc k) ≡ 2 ^ suc k * 2 = pow-suc 2 (suc k) in
    let d : 2 ^ suc (suc (suc k)) ≡ 2 ^ suc (suc k) * 2 = pow-suc 2 (suc (suc k)) in
    let e : 2 ^ suc (suc (suc (suc k))) ≡ 2 ^ suc (suc (suc k)) * 2 = pow-suc 2 (suc (suc (suc k))) in
    let f : 16 ^ suc c ≡ 16 ^ c * 16 = pow-suc 16 c in
    let before : 2 ^ k ≡ 16 ^ c = sixteen_powers c in
    ap (λ n. 2 ^ n) four ∙ omega (arith, a, b, d, e, f, before)

whole_digits : (w : ℕ) → w % 4 ≡ 0 → 4 * (w / 4) ≡ w
whole_digits w even = let whole = div-add-mod' w 4 in omega (arith, whole, even)

pub hex_vector : (w n : ℕ) → eqb (w % 4) 0 ≡ true → n < 2 ^ w → constant_by Hex (codes "#x" ++ last_digits 16 (w / 4) n []) ≡ Some (Bits w n)
hex_vector w n four less =
    let same : 4 * (w / 4) ≡ w = whole_digits w (eqb-true (w % 4) 0 four) in
    let within : n < 16 ^ (w / 4) = subst (λ k. n < k) (sym (ap (λ k. 2 ^ k) same) ∙ sixteen_powers (w / 4)) less in
    hex_constant (w / 4) n within ∙ ap (λ k. Some (Bits k n)) same

bits_rank : (w n : ℕ) → 0 < w → w ≤ most_bits → n < 2 ^ w → rank (op (Bits w n)) [] ≡ Ok (bit_vector w)
unfolding shape
bits_rank w n some few less = takes-rank (op (Bits w n)) [] (bit_vector w) (refl, some, less, refl) few

reads_bits : (g : Signature) (scope : List Variable) (ds : List Definition) (w n : ℕ) → 0 < w → w ≤ most_bits → n < 2 ^ w → Reads g scope ds (vector_form w n) (Some (bit_vector w))
reads_bits g scope ds w n some few less =
    let sort = constant_sort (Bits w n) (bit_vector w) (bits_rank w n some few less) in
    elim (tell (eqb (w % 4) 0)) [
      | inl four ↦
          let text = codes "#x" ++ last_digits 16 (w / 4) n [] in
          rw four (reads_atom g scope ds (record { item = Hex; start = 0; text = text }) (bit_vector w) (λ bs ls p live known.
          (apply (op (Bits w n)) no_terms, bits_atom ls bs (token_at p Hex text) w n (hex_vector w n four less) few, sort)))
      | inr other ↦
          let text = codes "#b" ++ last_digits 2 w n [] in
          rw other (reads_atom g scope ds (record { item = Bin; start = 0; text = text }) (bit_vector w) (λ bs ls p live known.
          (apply (op (Bits w n)) no_terms, bits_atom ls bs (token_at p Bin text) w n (binary_constant w n less) few, sort)))
    ]

theory_atom : (ls : List ReadLocal) (bs : List ReadBinding) (p : ℕ) (n : Name) → is_reserved n ≡ false → bound_as ls n ≡ None → entry_of bs n ≡ None → atom_term ls (token_at p Word n) bs ≡ theory_symbol p n
theory_atom ls bs p n free unbound unused =
    ap (name_or_other ls bs (token_at p Word n)) (word_symbol n free) ∙ ap (λ o. symbol_term p n o (entry_of bs n)) unbound ∙ ap (live_symbol p n) unused

truth_rank : (b : Bool) → rank (op (Truth b)) [] ≡ Ok bool
unfolding rank shape
truth_rank b = refl

reads_truth_word : (g : Signature) (scope : List Variable) (ds : List Definition) (n : Name) (b : Bool) → IsOperatorName n → ((p : ℕ) → theory_symbol p n ≡ Ok (apply (op (Truth b)) no_terms)) → Reads g scope ds (word_form n) (Some bool)
reads_truth_word g scope ds n b usual is =
    reads_atom g scope ds (record { item = Word; start = 0; text = n }) bool (λ bs ls p live known.
    (apply (op (Truth b)) no_terms, theory_atom ls bs p n usual.free (known.unbound n usual.outer (known.theories n usual.theory)) (live.theories n usual.theory) ∙ is p, constant_sort (Truth b) bool (truth_rank b)))

pub usual_true : IsOperatorName (codes "true")
unfolding is_syntax_word is_command_word is_theory_name
usual_true = record { free = refl; theory = refl; outer = refl }

pub usual_false : IsOperatorName (codes "false")
unfolding is_syntax_word is_command_word is_theory_name
usual_false = record { free = refl; theory = refl; outer = refl }

reads_truth : (g : Signature) (scope : List Variable) (ds : List Definition) (b : Bool) → Reads g scope ds (truth_form b) (Some bool)
reads_truth g scope ds true = reads_truth_word g scope ds (codes "true") true usual_true (λ p. refl)
reads_truth g scope ds false = reads_truth_word g scope ds (codes "false") false usual_false (λ p. refl)

leaf_reads : (g : Signature) (scope : List Variable) (ds : List Definition) (o : Op) (s : Sort) → IsLeaf o s → Reads g scope ds (operator_form o) (Some s)
unfolding operator_form
leaf_reads g scope ds _ _ (truth_leaf b) = reads_truth g scope ds b
leaf_reads g scope ds _ _ (whole_leaf n few) = reads_integer g scope ds n few
leaf_reads g scope ds _ _ (bits_leaf w n some few less) = reads_bits g scope ds w n some few less

-- ---- symbols

-- the symbol is a quantified variable, or live
abbrev pub SymbolFits : Signature → List Variable → Symbol → Type 0
SymbolFits g scope f = ((x : Variable) × (lookup scope f.name ≡ Some x) × (f ≡ constant_of x)) ⊎ ((lookup scope f.name ≡ None) × (is_among_symbols g.symbols f ≡ true))

live_atom : (ls : List ReadLocal) (bs : List ReadBinding) (t : Token) (f : Symbol) → constant_by t.item t.text ≡ None → symbol_of t ≡ Some f.name → bound_as ls f.name ≡ None → entry_of bs f.name ≡ Some (symbol_entry f)
    → f.args ≡ [] → atom_term ls t bs ≡ Ok (constant f)
live_atom ls bs t f other is unbound entry alone =
    ap (atom_by ls bs t) other ∙ ap (name_or_other ls bs t) is ∙ ap (λ o. symbol_term t.start f.name o (entry_of bs f.name)) unbound ∙ ap (live_symbol t.start f.name) entry ∙ ap (constant_or_refused t.start f) alone

pub no_arguments : (f : Symbol) (s : Sort) → rank (symbol f) [] ≡ Ok s → f.args ≡ []
no_arguments f s r = sym (rank-takes (symbol f) [] s r).0

pub reads_symbol : (g : Signature) (scope : List Variable) (ds : List Definition) (f : Symbol) (s : Sort) → is_internal f.name ≡ false → SymbolFits g scope f → rank (symbol f) [] ≡ Ok s → Reads g scope ds (symbol_form f.name) (Some s)
reads_symbol g scope ds f s outer (inl there) ranked =
    let result : s ≡ f.result = (rank-takes (symbol f) [] s ranked).1 in
    reads_atom g scope ds (record { item = symbol_item f.name; start = 0; text = printed_symbol f.name }) s (λ bs ls p live known.
    let r = known.bound f.name there.0 outer there.1 in
    (r.0, bound_atom ls bs (token_at p (symbol_item f.name) (printed_symbol f.name)) f.name r.0 (symbol_no_constant f.name) (symbol_read f.name) r.1, r.2 ∙ ap Some (sym (result ∙ ap (λ h. h.result) there.2))))
reads_symbol g scope ds f s outer (inr free) ranked =
    reads_atom g scope ds (record { item = symbol_item f.name; start = 0; text = printed_symbol f.name }) s (λ bs ls p live known. (
      constant f,
      live_atom ls bs (token_at p (symbol_item f.name) (printed_symbol f.name)) f (symbol_no_constant f.name) (symbol_read f.name) (known.unbound f.name outer free.0) (live.symbols f free.1) (no_arguments f s ranked),
      sort_of-apply (symbol f) no_terms [] s refl ranked,
    ))

-- ---- heads that stand alone

abbrev pub HeadFits : Signature → List Variable → Head → Type 0
HeadFits g scope (op o) = Unit {0}
HeadFits g scope (symbol f) = (is_internal f.name ≡ false) × SymbolFits g scope f × IsName f.name
HeadFits g scope (const_array s) = SortFits g s

pub no_filling : (a s : Sort) → rank (const_array a) [] ≡ Ok s → ⊥
unfolding rank
no_filling a s r = absurd (cc)

pub reads_head : (g : Signature) (scope : List Variable) (ds : List Definition) (h : Head) (s : Sort) → HeadFits g scope h → rank h [] ≡ Ok s → Reads g scope ds (head_form h) (Some s)
reads_head g scope ds (op o) s fits ranked = leaf_reads g scope ds o s (leaf o s ranked)
reads_head g scope ds (symbol f) s fits ranked = reads_symbol g scope ds f s fits.0 fits.1 ranked
reads_head g scope ds (const_array a) s fits ranked = absurd (no_filling a s ranked)

-- over operands
not_variable : (x : Variable) (u : Sort) (us : List Sort) (s : Sort) → rank (symbol (constant_of x)) (u ∷ us) ≡ Ok s → ⊥
not_variable x u us s ranked = absurd (let alone : u ∷ us ≡ [] = (rank-takes (symbol (constant_of x)) (u ∷ us) s ranked).0 in cc)

pub live_head_symbol : (g : Signature) (scope : List Variable) (f : Symbol) (u : Sort) (us : List Sort) (s : Sort) → SymbolFits g scope f → rank (symbol f) (u ∷ us) ≡ Ok s
    → (lookup scope f.name ≡ None) × (is_among_symbols g.symbols f ≡ true)
live_head_symbol g scope f u us s (inl there) ranked = absurd (not_variable there.0 u us s (subst (λ k. rank (symbol k) (u ∷ us) ≡ Ok s) there.2 ranked))
live_head_symbol g scope f u us s (inr free) ranked = free

pub head_reads : (g : Signature) (scope : List Variable) (ds : List Definition) (h : Head) (u : Sort) (us : List Sort) (s : Sort) → HeadFits g scope h → width u ≤ most_bits → rank h (u ∷ us) ≡ Ok s
    → HeadReads g scope ds (head_form h) (u ∷ us) s
head_reads g scope ds (op o) u us s fits narrow ranked = operator_reads g scope ds o (u ∷ us) s (view o (u ∷ us) s ranked (omega arith) narrow) ranked
head_reads g scope ds (symbol f) u us s fits narrow ranked =
    let free = live_head_symbol g scope f u us s fits.1 ranked in
    symbol_reads g scope ds f (u ∷ us) s fits.0 free.0 free.1 ranked
head_reads g scope ds (const_array a) u us s fits narrow ranked = array_reads g scope ds a (u ∷ us) s fits ranked
