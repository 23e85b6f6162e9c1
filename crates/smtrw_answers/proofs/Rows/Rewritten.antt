-- Worked rows of rewritten texts.
use Rattle.std.specs.Prelude.{◌≡◌, [], ◌∷◌, codes, refl}
use Rattle.smt_lex.specs.Names.{is_syntax_word, is_command_word, is_theory_name, is_theory_sort, is_reserved_for_declaring, is_reserved_for_let, is_reserved_for_sorts}
use Rattle.smt_terms.specs.Connectives.{operator_kind}
use Rattle.smt_terms.specs.Constants.{literal_value}
use Rattle.smt_terms.specs.Equal.{op_eq}
use Rattle.smt_terms.specs.Operators.{op_value}
use Rattle.smt_terms.specs.Rank.{rank}
use Rattle.smt_terms.specs.Shapes.{is_ite_operator}
use Rattle.smt_terms.specs.Written.{operator_named, written_rank, build}
use Rattle.simplify.specs.Simplify.{law}
use Rattle.script_read.specs.Outlines.{supported}
use Rattle.smt_print.specs.declared.layout.Layout.TheVariants.{Tree, Dag}
use Rattle.smt_print.specs.TermForms.{operator_form}
use Rattle.pass_laws.specs.declared.names.Pass.TheVariants.{Simplify, Nnf, Ite, Cnf, Ackermann}
use Rattle.smtrw_answers.specs.Outputs.{rewritten}

nothing : rewritten [] [] Tree ≡ []
nothing = refl

negation : rewritten (codes "(declare-fun a () Bool)\n(declare-fun b () Bool)\n(declare-fun c () Bool)\n(assert (not (and a (or b (not c)))))\n(check-sat)\n") (Nnf ∷ []) Tree ≡ codes "(declare-fun a () Bool)\n(declare-fun b () Bool)\n(declare-fun c () Bool)\n(assert (or (not a) (and (not b) c)))\n(check-sat)\n"
unfolding operator_kind is_syntax_word is_command_word supported is_theory_name is_theory_sort is_reserved_for_declaring is_reserved_for_let is_reserved_for_sorts operator_named written_rank build rank op_eq operator_form
negation = refl

bars : rewritten (codes "(declare-const |let| Bool) (declare-fun |abc| () Bool) (assert (or |let| abc))") [] Tree ≡ codes "(declare-fun |let| () Bool)\n(declare-fun abc () Bool)\n(assert (or |let| abc))\n"
unfolding is_syntax_word is_command_word supported is_theory_name is_theory_sort is_reserved_for_declaring is_reserved_for_let is_reserved_for_sorts operator_named written_rank build rank op_eq operator_form
bars = refl

hidden : rewritten (codes "(define-fun f ((a Bool)) Bool (exists ((x Bool)) (xor x a)))\n(assert (forall ((x Bool)) (f x)))\n") [] Tree ≡ codes "(assert (forall ((x Bool)) (exists ((FV0 Bool)) (xor FV0 x))))\n"
unfolding is_syntax_word is_command_word supported is_theory_name is_theory_sort is_reserved_for_declaring is_reserved_for_let is_reserved_for_sorts operator_named written_rank build rank op_eq operator_form
hidden = refl

-- applications of a function of a declared sort
applications : rewritten (codes "(declare-sort U 0)\n(declare-fun f (U) U)\n(declare-fun x () U)\n(declare-fun y () U)\n(assert (= (f (f x)) x))\n(assert (= (f y) x))\n(check-sat)\n") (Ackermann ∷ []) Tree ≡ codes "(declare-sort U 0)\n(declare-fun x () U)\n(declare-fun y () U)\n(declare-fun FV0 () U)\n(declare-fun FV1 () U)\n(assert (=> (= x FV0) (= FV0 FV1)))\n(assert (= FV1 x))\n(declare-fun FV2 () U)\n(assert (=> (= x y) (= FV0 FV2)))\n(assert (=> (= FV0 y) (= FV1 FV2)))\n(assert (= FV2 x))\n(check-sat)\n"
unfolding is_syntax_word is_command_word supported is_theory_name is_theory_sort is_reserved_for_declaring is_reserved_for_let is_reserved_for_sorts operator_named written_rank build rank op_eq operator_form
applications = refl

-- a name that is declared later isn't drawn
clauses : rewritten (codes "(declare-fun a () Bool)\n(declare-fun b () Bool)\n(declare-fun c () Bool)\n(declare-fun d () Bool)\n(assert (= (and a b) (or c d)))\n(declare-fun FV0 () Bool)\n(check-sat)\n") (Cnf ∷ []) Tree ≡ codes "(declare-fun a () Bool)\n(declare-fun b () Bool)\n(declare-fun c () Bool)\n(declare-fun d () Bool)\n(declare-fun FV1 () Bool)\n(declare-fun FV2 () Bool)\n(declare-fun FV3 () Bool)\n(assert (or (not FV1) a))\n(assert (or (not FV1) b))\n(assert (or FV1 (not a) (not b)))\n(assert (or (not FV2) c d))\n(assert (or FV2 (not c)))\n(assert (or FV2 (not d)))\n(assert (or (not FV3) (not FV1) FV2))\n(assert (or (not FV3) FV1 (not FV2)))\n(assert FV3)\n(declare-fun FV0 () Bool)\n(check-sat)\n"
unfolding operator_kind is_syntax_word is_command_word supported is_theory_name is_theory_sort is_reserved_for_declaring is_reserved_for_let is_reserved_for_sorts operator_named written_rank build rank op_eq operator_form
clauses = refl

-- three passes, and a text behind `exit` that isn't examined
three_passes : rewritten (codes "(set-info :source |written by hand; x: |)\n(set-logic QF_BV)\n(declare-fun p () Bool)\n(declare-fun x () (_ BitVec 8))\n(declare-fun y () (_ BitVec 8))\n(assert (let ((.def_0 (ite p x y))) (let ((.def_1 (bvult .def_0 (_ bv3 8)))) .def_1)))\n(check-sat)\n(exit)\n ]] not examined\n") (Simplify ∷ Ite ∷ Cnf ∷ []) Tree ≡ codes "(set-info :source |written by hand; x: |)\n(set-logic QF_BV)\n(declare-fun p () Bool)\n(declare-fun x () (_ BitVec 8))\n(declare-fun y () (_ BitVec 8))\n(declare-fun FV0 () (_ BitVec 8))\n(declare-fun FV1 () Bool)\n(assert (or (not FV1) (not p) (= FV0 x)))\n(assert FV1)\n(declare-fun FV2 () Bool)\n(assert (or (not FV2) p (= FV0 y)))\n(assert FV2)\n(assert (bvult FV0 #x03))\n(check-sat)\n(exit)\n"
unfolding law literal_value op_value operator_kind is_ite_operator is_syntax_word is_command_word supported is_theory_name is_theory_sort is_reserved_for_declaring is_reserved_for_let is_reserved_for_sorts operator_named written_rank build rank op_eq operator_form
three_passes = refl

-- levels
levels : rewritten (codes "(declare-fun g (Int) Int)\n(assert (= (g 1) 2))\n(push 1)\n(assert (= (g 2) 3))\n(check-sat)\n(pop 1)\n(assert (= (g 2) 4))\n(check-sat)\n") (Ackermann ∷ []) Tree ≡ codes "(declare-fun FV0 () Int)\n(assert (= FV0 2))\n(push 1)\n(declare-fun FV1 () Int)\n(assert (=> (= 1 2) (= FV0 FV1)))\n(assert (= FV1 3))\n(check-sat)\n(pop 1)\n(declare-fun FV2 () Int)\n(assert (=> (= 1 2) (= FV0 FV2)))\n(assert (= FV2 4))\n(check-sat)\n"
unfolding is_syntax_word is_command_word supported is_theory_name is_theory_sort is_reserved_for_declaring is_reserved_for_let is_reserved_for_sorts operator_named written_rank build rank op_eq operator_form
levels = refl

-- declarations that outlive their level
outliving : rewritten (codes "(set-option :global-declarations true)\n(push 1)\n(declare-fun p () Bool)\n(assert (not (and p p)))\n(pop 1)\n(assert p)\n(check-sat)\n") (Cnf ∷ []) Tree ≡ codes "(set-option :global-declarations true)\n(push 1)\n(declare-fun p () Bool)\n(declare-fun FV0 () Bool)\n(assert (or FV0 (not p) (not p)))\n(assert (not FV0))\n(pop 1)\n(assert p)\n(check-sat)\n"
unfolding operator_kind is_syntax_word is_command_word supported is_theory_name is_theory_sort is_reserved_for_declaring is_reserved_for_let is_reserved_for_sorts operator_named written_rank build rank op_eq operator_form
outliving = refl

-- no pass changes a literal of a check
literals : rewritten (codes "(declare-fun a () Bool)\n(declare-fun b () Bool)\n(assert (or a b))\n(check-sat-assuming ((not a) b))\n") (Cnf ∷ []) Tree ≡ codes "(declare-fun a () Bool)\n(declare-fun b () Bool)\n(assert (or a b))\n(check-sat-assuming ((not a) b))\n"
unfolding operator_kind is_syntax_word is_command_word supported is_theory_name is_theory_sort is_reserved_for_declaring is_reserved_for_let is_reserved_for_sorts operator_named written_rank build rank op_eq operator_form
literals = refl

-- each distinct subterm once
shared : rewritten (codes "(declare-fun p () Bool)(declare-fun a () Bool)(assert (and (or p a) (or p a)))") [] Dag ≡ codes "(declare-fun p () Bool)\n(declare-fun a () Bool)\n(assert (let ((.def_0 (or p a))) (let ((.def_1 (and .def_0 .def_0))) .def_1)))\n"
unfolding is_syntax_word is_command_word supported is_theory_name is_theory_sort is_reserved_for_declaring is_reserved_for_let is_reserved_for_sorts operator_named written_rank build rank op_eq operator_form
shared = refl
