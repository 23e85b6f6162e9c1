-- Worked rows: what is live at the points of scripts, in the commands with terms and in those with forms.
use Rattle.std.specs.Prelude.{◌≡◌, ℕ, List, [], ◌∷◌, pos, codes, refl}
use Rattle.smt_lex.specs.Names.{is_command_word, is_syntax_word, is_theory_name, is_theory_sort, is_reserved_for_declaring, is_reserved_for_let, is_reserved_for_sorts}
use Rattle.smt_terms.specs.Equal.{op_eq}
use Rattle.smt_terms.specs.Rank.{rank}
use Rattle.smt_terms.specs.Written.{operator_named, written_rank, build}
use Rattle.script_read.specs.Outlines.{supported}
use Rattle.smt_terms.specs.declared.op.Op.TheVariants.{Equal, Lt, BvUlt, Not}
use Rattle.smt_terms.specs.Sorts.{Symbol, bool, int, bit_vector, free_sort}
use Rattle.smt_terms.specs.Term.{constant}
use Rattle.script_read.specs.Commands.{checked, assumed, ended, Signature, kinds, live, literals, signature, checks, all_asserted, all_assumed}
use Rattle.script_read.specs.Scenes.{forms_script}
use Rattle.script_read.proofs.Rows.Given.{read_as, texts_of, symbol_named, constant_named, whole, bits, over_one, over_two, call}

abbrev symbols_alone : List Symbol → Signature
symbols_alone fs = record { sorts = []; symbols = fs }

-- ---- a symbol that is declared anew on another level

abbrev x : Symbol
x = constant_named (codes "x") int

abbrev byte_x : Symbol
byte_x = constant_named (codes "x") (bit_vector 8)

abbrev anew : List ℕ
anew = codes "(push 1)\n(declare-fun x () Int)\n(assert (< x 3))\n(check-sat)\n(pop 1)\n(declare-fun x () (_ BitVec 8))\n(assert (bvult x #x03))\n(check-sat)\n"

anew_kinds : kinds (read_as anew) ≡ checked ∷ checked ∷ ended ∷ []
unfolding is_command_word is_syntax_word supported is_theory_name is_theory_sort is_reserved_for_declaring is_reserved_for_let is_reserved_for_sorts operator_named written_rank build rank op_eq
anew_kinds = refl

anew_form_kinds : kinds (forms_script anew) ≡ checked ∷ checked ∷ ended ∷ []
unfolding is_command_word is_syntax_word supported is_theory_name is_theory_sort is_reserved_for_declaring is_reserved_for_let is_reserved_for_sorts operator_named written_rank build rank op_eq
anew_form_kinds = refl

anew_at_1 : live (read_as anew) 1 ≡ over_two Lt (constant x) (whole (pos 3)) ∷ []
unfolding is_command_word is_syntax_word supported is_theory_name is_theory_sort is_reserved_for_declaring is_reserved_for_let is_reserved_for_sorts operator_named written_rank build rank op_eq
anew_at_1 = refl

anew_at_2 : live (read_as anew) 2 ≡ over_two BvUlt (constant byte_x) (bits 8 3) ∷ []
unfolding is_command_word is_syntax_word supported is_theory_name is_theory_sort is_reserved_for_declaring is_reserved_for_let is_reserved_for_sorts operator_named written_rank build rank op_eq
anew_at_2 = refl

anew_at_end : live (read_as anew) 3 ≡ over_two BvUlt (constant byte_x) (bits 8 3) ∷ []
unfolding is_command_word is_syntax_word supported is_theory_name is_theory_sort is_reserved_for_declaring is_reserved_for_let is_reserved_for_sorts operator_named written_rank build rank op_eq
anew_at_end = refl

anew_forms_at_1 : texts_of (live (forms_script anew) 1) ≡ codes "(< x 3)" ∷ []
unfolding is_command_word is_syntax_word supported is_theory_name is_theory_sort is_reserved_for_declaring is_reserved_for_let is_reserved_for_sorts operator_named written_rank build rank op_eq
anew_forms_at_1 = refl

anew_forms_at_2 : texts_of (live (forms_script anew) 2) ≡ codes "(bvult x #x03)" ∷ []
unfolding is_command_word is_syntax_word supported is_theory_name is_theory_sort is_reserved_for_declaring is_reserved_for_let is_reserved_for_sorts operator_named written_rank build rank op_eq
anew_forms_at_2 = refl

anew_forms_at_end : texts_of (live (forms_script anew) 3) ≡ codes "(bvult x #x03)" ∷ []
unfolding is_command_word is_syntax_word supported is_theory_name is_theory_sort is_reserved_for_declaring is_reserved_for_let is_reserved_for_sorts operator_named written_rank build rank op_eq
anew_forms_at_end = refl

anew_signature_at_1 : signature (read_as anew) 1 ≡ symbols_alone (x ∷ [])
unfolding is_command_word is_syntax_word supported is_theory_name is_theory_sort is_reserved_for_declaring is_reserved_for_let is_reserved_for_sorts operator_named written_rank build rank op_eq
anew_signature_at_1 = refl

anew_signature_at_2 : signature (read_as anew) 2 ≡ symbols_alone (byte_x ∷ [])
unfolding is_command_word is_syntax_word supported is_theory_name is_theory_sort is_reserved_for_declaring is_reserved_for_let is_reserved_for_sorts operator_named written_rank build rank op_eq
anew_signature_at_2 = refl

anew_signature_of_forms_at_1 : signature (forms_script anew) 1 ≡ symbols_alone (x ∷ [])
unfolding is_command_word is_syntax_word supported is_theory_name is_theory_sort is_reserved_for_declaring is_reserved_for_let is_reserved_for_sorts operator_named written_rank build rank op_eq
anew_signature_of_forms_at_1 = refl

anew_signature_of_forms_at_2 : signature (forms_script anew) 2 ≡ symbols_alone (byte_x ∷ [])
unfolding is_command_word is_syntax_word supported is_theory_name is_theory_sort is_reserved_for_declaring is_reserved_for_let is_reserved_for_sorts operator_named written_rank build rank op_eq
anew_signature_of_forms_at_2 = refl

anew_checks : checks (read_as anew) ≡ 2
unfolding is_command_word is_syntax_word supported is_theory_name is_theory_sort is_reserved_for_declaring is_reserved_for_let is_reserved_for_sorts operator_named written_rank build rank op_eq
anew_checks = refl

-- ---- assertions on levels

abbrev g : Symbol
g = symbol_named (codes "g") (int ∷ []) int

abbrev levelled : List ℕ
levelled = codes "(declare-fun g (Int) Int)\n(assert (= (g 1) 2))\n(push 1)\n(assert (= (g 2) 3))\n(check-sat)\n(pop 1)\n(assert (= (g 2) 4))\n(check-sat)\n"

levelled_at_1 : live (read_as levelled) 1 ≡ over_two Equal (call g (whole (pos 1))) (whole (pos 2)) ∷ over_two Equal (call g (whole (pos 2))) (whole (pos 3)) ∷ []
unfolding is_command_word is_syntax_word supported is_theory_name is_theory_sort is_reserved_for_declaring is_reserved_for_let is_reserved_for_sorts operator_named written_rank build rank op_eq
levelled_at_1 = refl

levelled_at_2 : live (read_as levelled) 2 ≡ over_two Equal (call g (whole (pos 1))) (whole (pos 2)) ∷ over_two Equal (call g (whole (pos 2))) (whole (pos 4)) ∷ []
unfolding is_command_word is_syntax_word supported is_theory_name is_theory_sort is_reserved_for_declaring is_reserved_for_let is_reserved_for_sorts operator_named written_rank build rank op_eq
levelled_at_2 = refl

levelled_at_end : live (read_as levelled) 3 ≡ over_two Equal (call g (whole (pos 1))) (whole (pos 2)) ∷ over_two Equal (call g (whole (pos 2))) (whole (pos 4)) ∷ []
unfolding is_command_word is_syntax_word supported is_theory_name is_theory_sort is_reserved_for_declaring is_reserved_for_let is_reserved_for_sorts operator_named written_rank build rank op_eq
levelled_at_end = refl

levelled_forms_at_1 : texts_of (live (forms_script levelled) 1) ≡ codes "(= (g 1) 2)" ∷ codes "(= (g 2) 3)" ∷ []
unfolding is_command_word is_syntax_word supported is_theory_name is_theory_sort is_reserved_for_declaring is_reserved_for_let is_reserved_for_sorts operator_named written_rank build rank op_eq
levelled_forms_at_1 = refl

levelled_forms_at_2 : texts_of (live (forms_script levelled) 2) ≡ codes "(= (g 1) 2)" ∷ codes "(= (g 2) 4)" ∷ []
unfolding is_command_word is_syntax_word supported is_theory_name is_theory_sort is_reserved_for_declaring is_reserved_for_let is_reserved_for_sorts operator_named written_rank build rank op_eq
levelled_forms_at_2 = refl

levelled_signature_at_1 : signature (read_as levelled) 1 ≡ symbols_alone (g ∷ [])
unfolding is_command_word is_syntax_word supported is_theory_name is_theory_sort is_reserved_for_declaring is_reserved_for_let is_reserved_for_sorts operator_named written_rank build rank op_eq
levelled_signature_at_1 = refl

levelled_signature_of_forms_at_3 : signature (forms_script levelled) 3 ≡ symbols_alone (g ∷ [])
unfolding is_command_word is_syntax_word supported is_theory_name is_theory_sort is_reserved_for_declaring is_reserved_for_let is_reserved_for_sorts operator_named written_rank build rank op_eq
levelled_signature_of_forms_at_3 = refl

-- there is no fourth point
levelled_beyond : live (read_as levelled) 4 ≡ []
unfolding is_command_word is_syntax_word supported is_theory_name is_theory_sort is_reserved_for_declaring is_reserved_for_let is_reserved_for_sorts operator_named written_rank build rank op_eq
levelled_beyond = refl

levelled_before : live (read_as levelled) 0 ≡ []
unfolding is_command_word is_syntax_word supported is_theory_name is_theory_sort is_reserved_for_declaring is_reserved_for_let is_reserved_for_sorts operator_named written_rank build rank op_eq
levelled_before = refl

-- ---- global declarations outlive their levels, assertions don't

abbrev p : Symbol
p = constant_named (codes "p") bool

abbrev global : List ℕ
global = codes "(set-option :global-declarations true)\n(push 1)\n(declare-fun p () Bool)\n(assert (not (and p p)))\n(pop 1)\n(assert p)\n(check-sat)\n"

global_at_1 : live (read_as global) 1 ≡ constant p ∷ []
unfolding is_command_word is_syntax_word supported is_theory_name is_theory_sort is_reserved_for_declaring is_reserved_for_let is_reserved_for_sorts operator_named written_rank build rank op_eq
global_at_1 = refl

global_at_end : live (read_as global) 2 ≡ constant p ∷ []
unfolding is_command_word is_syntax_word supported is_theory_name is_theory_sort is_reserved_for_declaring is_reserved_for_let is_reserved_for_sorts operator_named written_rank build rank op_eq
global_at_end = refl

global_forms_at_1 : texts_of (live (forms_script global) 1) ≡ codes "p" ∷ []
unfolding is_command_word is_syntax_word supported is_theory_name is_theory_sort is_reserved_for_declaring is_reserved_for_let is_reserved_for_sorts operator_named written_rank build rank op_eq
global_forms_at_1 = refl

global_signature_at_1 : signature (read_as global) 1 ≡ symbols_alone (p ∷ [])
unfolding is_command_word is_syntax_word supported is_theory_name is_theory_sort is_reserved_for_declaring is_reserved_for_let is_reserved_for_sorts operator_named written_rank build rank op_eq
global_signature_at_1 = refl

global_signature_of_forms_at_1 : signature (forms_script global) 1 ≡ symbols_alone (p ∷ [])
unfolding is_command_word is_syntax_word supported is_theory_name is_theory_sort is_reserved_for_declaring is_reserved_for_let is_reserved_for_sorts operator_named written_rank build rank op_eq
global_signature_of_forms_at_1 = refl

-- ---- all in turn: levels, assumptions and resets

abbrev named_bool : ℕ → Symbol
named_bool letter = constant_named (letter ∷ []) bool

abbrev of_s : Symbol
of_s = constant_named (codes "b") (free_sort (codes "S"))

abbrev in_turn : List ℕ
in_turn = codes "(set-option :global-declarations true)(declare-const a Bool)(push 1)(declare-sort S 0)(declare-const b S)(push 1)(declare-const c Bool)(assert c)(check-sat)(pop 2)(declare-const d Bool)(assert d)(check-sat)(reset-assertions)(check-sat-assuming (c (not a)))(reset)(check-sat)"

abbrev local_in_turn : List ℕ
local_in_turn = codes "(declare-const a Bool)(assert a)(push 1)(declare-sort S 0)(declare-const b S)(push 1)(declare-const c Bool)(assert c)(check-sat)(pop 2)(declare-const d Bool)(check-sat)(push 2)(reset-assertions)(declare-const a Bool)(check-sat)"

in_turn_kinds : kinds (read_as in_turn) ≡ checked ∷ checked ∷ assumed ∷ checked ∷ ended ∷ []
unfolding is_command_word is_syntax_word supported is_theory_name is_theory_sort is_reserved_for_declaring is_reserved_for_let is_reserved_for_sorts operator_named written_rank build rank op_eq
in_turn_kinds = refl

in_turn_at_1 : signature (read_as in_turn) 1 ≡ record { sorts = codes "S" ∷ []; symbols = named_bool 97 ∷ of_s ∷ named_bool 99 ∷ [] }
unfolding is_command_word is_syntax_word supported is_theory_name is_theory_sort is_reserved_for_declaring is_reserved_for_let is_reserved_for_sorts operator_named written_rank build rank op_eq
in_turn_at_1 = refl

in_turn_at_2 : signature (read_as in_turn) 2 ≡ record { sorts = codes "S" ∷ []; symbols = named_bool 97 ∷ of_s ∷ named_bool 99 ∷ named_bool 100 ∷ [] }
unfolding is_command_word is_syntax_word supported is_theory_name is_theory_sort is_reserved_for_declaring is_reserved_for_let is_reserved_for_sorts operator_named written_rank build rank op_eq
in_turn_at_2 = refl

in_turn_forms_at_2 : signature (forms_script in_turn) 2 ≡ record { sorts = codes "S" ∷ []; symbols = named_bool 97 ∷ of_s ∷ named_bool 99 ∷ named_bool 100 ∷ [] }
unfolding is_command_word is_syntax_word supported is_theory_name is_theory_sort is_reserved_for_declaring is_reserved_for_let is_reserved_for_sorts operator_named written_rank build rank op_eq
in_turn_forms_at_2 = refl

in_turn_live_at_2 : live (read_as in_turn) 2 ≡ constant (named_bool 100) ∷ []
unfolding is_command_word is_syntax_word supported is_theory_name is_theory_sort is_reserved_for_declaring is_reserved_for_let is_reserved_for_sorts operator_named written_rank build rank op_eq
in_turn_live_at_2 = refl

in_turn_at_3 : signature (forms_script in_turn) 3 ≡ record { sorts = codes "S" ∷ []; symbols = named_bool 97 ∷ of_s ∷ named_bool 99 ∷ named_bool 100 ∷ [] }
unfolding is_command_word is_syntax_word supported is_theory_name is_theory_sort is_reserved_for_declaring is_reserved_for_let is_reserved_for_sorts operator_named written_rank build rank op_eq
in_turn_at_3 = refl

in_turn_live_at_3 : live (read_as in_turn) 3 ≡ []
unfolding is_command_word is_syntax_word supported is_theory_name is_theory_sort is_reserved_for_declaring is_reserved_for_let is_reserved_for_sorts operator_named written_rank build rank op_eq
in_turn_live_at_3 = refl

in_turn_literals : literals (read_as in_turn) 3 ≡ constant (named_bool 99) ∷ over_one Not (constant (named_bool 97)) ∷ []
unfolding is_command_word is_syntax_word supported is_theory_name is_theory_sort is_reserved_for_declaring is_reserved_for_let is_reserved_for_sorts operator_named written_rank build rank op_eq
in_turn_literals = refl

in_turn_literal_forms : texts_of (literals (forms_script in_turn) 3) ≡ codes "c" ∷ codes "(not a)" ∷ []
unfolding is_command_word is_syntax_word supported is_theory_name is_theory_sort is_reserved_for_declaring is_reserved_for_let is_reserved_for_sorts operator_named written_rank build rank op_eq
in_turn_literal_forms = refl

in_turn_no_literals : literals (read_as in_turn) 2 ≡ []
unfolding is_command_word is_syntax_word supported is_theory_name is_theory_sort is_reserved_for_declaring is_reserved_for_let is_reserved_for_sorts operator_named written_rank build rank op_eq
in_turn_no_literals = refl

in_turn_at_4 : signature (read_as in_turn) 4 ≡ symbols_alone []
unfolding is_command_word is_syntax_word supported is_theory_name is_theory_sort is_reserved_for_declaring is_reserved_for_let is_reserved_for_sorts operator_named written_rank build rank op_eq
in_turn_at_4 = refl

locally_at_1 : signature (forms_script local_in_turn) 1 ≡ record { sorts = codes "S" ∷ []; symbols = named_bool 97 ∷ of_s ∷ named_bool 99 ∷ [] }
unfolding is_command_word is_syntax_word supported is_theory_name is_theory_sort is_reserved_for_declaring is_reserved_for_let is_reserved_for_sorts operator_named written_rank build rank op_eq
locally_at_1 = refl

locally_live_at_1 : texts_of (live (forms_script local_in_turn) 1) ≡ codes "a" ∷ codes "c" ∷ []
unfolding is_command_word is_syntax_word supported is_theory_name is_theory_sort is_reserved_for_declaring is_reserved_for_let is_reserved_for_sorts operator_named written_rank build rank op_eq
locally_live_at_1 = refl

locally_at_2 : signature (read_as local_in_turn) 2 ≡ symbols_alone (named_bool 97 ∷ named_bool 100 ∷ [])
unfolding is_command_word is_syntax_word supported is_theory_name is_theory_sort is_reserved_for_declaring is_reserved_for_let is_reserved_for_sorts operator_named written_rank build rank op_eq
locally_at_2 = refl

locally_at_3 : signature (forms_script local_in_turn) 3 ≡ symbols_alone (named_bool 97 ∷ [])
unfolding is_command_word is_syntax_word supported is_theory_name is_theory_sort is_reserved_for_declaring is_reserved_for_let is_reserved_for_sorts operator_named written_rank build rank op_eq
locally_at_3 = refl

locally_live_at_3 : live (read_as local_in_turn) 3 ≡ []
unfolding is_command_word is_syntax_word supported is_theory_name is_theory_sort is_reserved_for_declaring is_reserved_for_let is_reserved_for_sorts operator_named written_rank build rank op_eq
locally_live_at_3 = refl

-- ---- all that is asserted and assumed, of which no assertion is live at a check or at the end

abbrev dropped : List ℕ
dropped = codes "(declare-fun p () Bool)\n(push 1)\n(assert p)\n(pop 1)\n(check-sat-assuming ((not p) p))\n(check-sat-assuming (p))\n(assert (not p))\n(reset-assertions)\n"

dropped_at_1 : live (read_as dropped) 1 ≡ []
unfolding is_command_word is_syntax_word supported is_theory_name is_theory_sort is_reserved_for_declaring is_reserved_for_let is_reserved_for_sorts operator_named written_rank build rank op_eq
dropped_at_1 = refl

dropped_at_end : live (read_as dropped) 3 ≡ []
unfolding is_command_word is_syntax_word supported is_theory_name is_theory_sort is_reserved_for_declaring is_reserved_for_let is_reserved_for_sorts operator_named written_rank build rank op_eq
dropped_at_end = refl

dropped_asserted : all_asserted (read_as dropped) ≡ constant p ∷ over_one Not (constant p) ∷ []
unfolding is_command_word is_syntax_word supported is_theory_name is_theory_sort is_reserved_for_declaring is_reserved_for_let is_reserved_for_sorts operator_named written_rank build rank op_eq
dropped_asserted = refl

dropped_forms_asserted : texts_of (all_asserted (forms_script dropped)) ≡ codes "p" ∷ codes "(not p)" ∷ []
unfolding is_command_word is_syntax_word supported is_theory_name is_theory_sort is_reserved_for_declaring is_reserved_for_let is_reserved_for_sorts operator_named written_rank build rank op_eq
dropped_forms_asserted = refl

dropped_assumed : all_assumed (read_as dropped) ≡ over_one Not (constant p) ∷ constant p ∷ constant p ∷ []
unfolding is_command_word is_syntax_word supported is_theory_name is_theory_sort is_reserved_for_declaring is_reserved_for_let is_reserved_for_sorts operator_named written_rank build rank op_eq
dropped_assumed = refl

dropped_forms_assumed : texts_of (all_assumed (forms_script dropped)) ≡ codes "(not p)" ∷ codes "p" ∷ codes "p" ∷ []
unfolding is_command_word is_syntax_word supported is_theory_name is_theory_sort is_reserved_for_declaring is_reserved_for_let is_reserved_for_sorts operator_named written_rank build rank op_eq
dropped_forms_assumed = refl
