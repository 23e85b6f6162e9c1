-- Worked rows: what terms are refused for. Each text stands with its first refusal, or none.
use Rattle.std.specs.Prelude.{◌≡◌, [], ◌∷◌, None, codes, refl}
use Rattle.smt_lex.specs.Names.{is_command_word, is_syntax_word, is_theory_name, is_theory_sort, is_reserved_for_declaring, is_reserved_for_let, is_reserved_for_sorts}
use Rattle.smt_terms.specs.Rank.{rank}
use Rattle.smt_terms.specs.Written.{operator_named, written_rank, build}
use Rattle.script_terms.specs.declared.causes.Cause.TheVariants.{BadForm, BadIndex, NumberLimit, QuantifiedSort, RealSort, Redeclared, ReservedName, UnknownName, WidthLimit, WrongArity, WrongSort}
use Rattle.script_read.specs.Outlines.{supported}
use Rattle.script_read.proofs.Rows.Cases.{Cases, refusal, found, wanted}

abbrev numbers_of_operands : Cases
numbers_of_operands =
    (codes "(declare-fun f (Int) Int)\n(assert (= (f 1) f))", refusal WrongArity 2 2 43)
    ∷ (codes "(assert (not true false))", refusal WrongArity 1 1 8)
    ∷ (codes "(assert (true true))", refusal WrongArity 1 1 8)
    ∷ (codes "(assert and)", refusal WrongArity 1 1 8)
    ∷ (codes "(assert (= 1))", refusal WrongArity 1 1 8)
    ∷ (codes "(assert (= #b1 ((_ bv1 1) true)))", refusal WrongArity 1 1 15)
    ∷ (codes "(assert (const 1))", refusal WrongArity 1 1 8)
    ∷ (codes "(assert ((as const (Array Int Int)) 1 2))", refusal WrongArity 1 1 8)
    ∷ (codes "(declare-const c Bool)(assert (c true))", refusal WrongArity 2 1 30)
    ∷ (codes "(assert (! true :named n))(assert (n true))", refusal WrongArity 2 1 34)
    ∷ (codes "(define-fun g ((x Bool)) Bool x)(assert g)", refusal WrongArity 2 1 40)
    ∷ (codes "(define-fun g ((x Bool)) Bool x)(assert (g true true))", refusal WrongArity 2 1 40)
    ∷ (codes "(assert (distinct 1))", refusal WrongArity 1 1 8)
    ∷ (codes "(assert (< 1 (ite true 1)))", refusal WrongArity 1 1 13)
    ∷ (codes "(assert (bvult #b1 #b1 #b1))", refusal WrongArity 1 1 8)
    ∷ (codes "(assert bv5)", refusal WrongArity 1 1 8)
    ∷ []

of_numbers_of_operands : found numbers_of_operands ≡ wanted numbers_of_operands
unfolding is_command_word is_syntax_word supported is_theory_name is_theory_sort is_reserved_for_declaring is_reserved_for_let is_reserved_for_sorts operator_named written_rank build rank
of_numbers_of_operands = refl

abbrev sorts_of_operands : Cases
sorts_of_operands =
    (codes "(assert 1)", refusal WrongSort 1 1 8)
    ∷ (codes "(assert (and true 1))", refusal WrongSort 1 1 8)
    ∷ (codes "(assert (= 1 true))", refusal WrongSort 1 1 8)
    ∷ (codes "(assert (< 1 2 true))", refusal WrongSort 1 1 8)
    ∷ (codes "(assert (distinct 1 2 true))", refusal WrongSort 1 1 8)
    ∷ (codes "(assert (xor true false 1))", refusal WrongSort 1 1 8)
    ∷ (codes "(assert (= #b1 (bvadd #b1 #b1 #b10)))", refusal WrongSort 1 1 15)
    ∷ (codes "(declare-fun f (Int) Bool)(assert (f true))", refusal WrongSort 2 1 34)
    ∷ (codes "(define-fun g ((x Int)) Int x)(assert (= (g true) 1))", refusal WrongSort 2 1 41)
    ∷ (codes "(define-fun f () Int true)", refusal WrongSort 1 1 21)
    ∷ (codes "(assert (forall ((x Bool)) 1))", refusal WrongSort 1 1 8)
    ∷ (codes "(assert ((as const Int) 1))", refusal WrongSort 1 1 8)
    ∷ (codes "(assert ((as const (Array Int Bool)) 1))", refusal WrongSort 1 1 8)
    ∷ (codes "(declare-const a (Array Int Int))(assert (= 1 (select a true)))", refusal WrongSort 2 1 46)
    ∷ (codes "(assert (ite 1 true true))", refusal WrongSort 1 1 8)
    ∷ []

of_sorts_of_operands : found sorts_of_operands ≡ wanted sorts_of_operands
unfolding is_command_word is_syntax_word supported is_theory_name is_theory_sort is_reserved_for_declaring is_reserved_for_let is_reserved_for_sorts operator_named written_rank build rank
of_sorts_of_operands = refl

abbrev indices_and_widths : Cases
indices_and_widths =
    (codes "(assert (= #b1 ((_ extract 5 0) #b1)))", refusal BadIndex 1 1 15)
    ∷ (codes "(assert (= #b1 ((_ extract 0 1) #b11)))", refusal BadIndex 1 1 15)
    ∷ (codes "(assert (= #b1 ((_ repeat 0) #b1)))", refusal BadIndex 1 1 15)
    ∷ (codes "(assert ((_ divisible 0) 1))", refusal BadIndex 1 1 8)
    ∷ (codes "(assert (= (_ bv2 1) #b1))", refusal BadIndex 1 1 11)
    ∷ (codes "(assert (= (_ bv1 0) #b1))", refusal BadIndex 1 1 11)
    ∷ (codes "(assert (= (_ bv0 129) #b1))", refusal WidthLimit 1 1 11)
    ∷ (codes "(assert (= #x000000000000000000000000000000000 #b1))", refusal WidthLimit 1 1 11)
    ∷ (codes "(assert (= #b1 ((_ zero_extend 128) #b1)))", refusal WidthLimit 1 1 15)
    ∷ (codes "(assert (= #b1 ((_ repeat 65) #b11)))", refusal WidthLimit 1 1 15)
    ∷ (codes "(declare-fun u () (_ BitVec 65))\n(declare-fun v () (_ BitVec 64))\n(assert (= (concat u v) (concat u v)))\n", refusal WidthLimit 3 3 77)
    ∷ (codes "(declare-fun u () (_ BitVec 64))\n(declare-fun v () (_ BitVec 64))\n(assert (= (concat u v) (concat u v)))\n", None)
    ∷ (codes "(assert (= ((_ rotate_left 1000) #b10) ((_ repeat 2) #b1)))", None)
    ∷ (codes "(assert (= (_ |bv3| 2) #b11 #b11))", None)
    ∷ []

of_indices_and_widths : found indices_and_widths ≡ wanted indices_and_widths
unfolding is_command_word is_syntax_word supported is_theory_name is_theory_sort is_reserved_for_declaring is_reserved_for_let is_reserved_for_sorts operator_named written_rank build rank
of_indices_and_widths = refl

abbrev great_numbers : Cases
great_numbers =
    (codes "(declare-fun x () Int)\n(assert (< x (- 170141183460469231731687303715884105728)))\n", refusal NumberLimit 2 2 39)
    ∷ (codes "(assert (= ((_ zero_extend 170141183460469231731687303715884105728) #b1) #b1))", refusal NumberLimit 1 1 27)
    ∷ (codes "(assert (= ((_ extract 0 170141183460469231731687303715884105728) x) #b1))", refusal NumberLimit 1 1 25)
    ∷ (codes "(declare-fun x () Int)\n(assert (< x (+ 170141183460469231731687303715884105727 1)))\n", None)
    ∷ (codes "(declare-fun x () Int)\n(assert (< x (- 170141183460469231731687303715884105727)))\n", None)
    ∷ []

of_great_numbers : found great_numbers ≡ wanted great_numbers
unfolding is_command_word is_syntax_word supported is_theory_name is_theory_sort is_reserved_for_declaring is_reserved_for_let is_reserved_for_sorts operator_named written_rank build rank
of_great_numbers = refl

abbrev reals : Cases
reals =
    (codes "(assert (< 1.5 1))", refusal RealSort 1 1 11)
    ∷ (codes "(assert (= (/ 1 x) 1))", refusal RealSort 1 1 12)
    ∷ (codes "(assert /)", refusal RealSort 1 1 8)
    ∷ (codes "(assert (is_int 1))", refusal RealSort 1 1 9)
    ∷ (codes "(assert ((_ to_int 1) 1))", refusal RealSort 1 1 9)
    ∷ []

of_reals : found reals ≡ wanted reals
unfolding is_command_word is_syntax_word supported is_theory_name is_theory_sort is_reserved_for_declaring is_reserved_for_let is_reserved_for_sorts operator_named written_rank build rank
of_reals = refl

abbrev no_terms : Cases
no_terms =
    (codes "(assert ())", refusal BadForm 1 1 8)
    ∷ (codes "(assert (foo))", refusal BadForm 1 1 8)
    ∷ (codes "(assert \"x\")", refusal BadForm 1 1 8)
    ∷ (codes "(assert :k)", refusal BadForm 1 1 8)
    ∷ (codes "(assert let)", refusal BadForm 1 1 8)
    ∷ (codes "(assert (as const Int))", refusal BadForm 1 1 9)
    ∷ (codes "(assert (match x))", refusal BadForm 1 1 9)
    ∷ (codes "(assert (push 1))", refusal BadForm 1 1 9)
    ∷ (codes "(assert (5 true))", refusal BadForm 1 1 9)
    ∷ (codes "(assert ((foo) true))", refusal BadForm 1 1 9)
    ∷ (codes "(assert (_ foo 1))", refusal BadForm 1 1 8)
    ∷ (codes "(assert (_ bv01 8))", refusal BadForm 1 1 8)
    ∷ (codes "(assert (_ bv1 x))", refusal BadForm 1 1 8)
    ∷ (codes "(assert (_ bv1))", refusal BadForm 1 1 8)
    ∷ (codes "(assert (_))", refusal BadForm 1 1 8)
    ∷ []

of_no_terms : found no_terms ≡ wanted no_terms
unfolding is_command_word is_syntax_word supported is_theory_name is_theory_sort is_reserved_for_declaring is_reserved_for_let is_reserved_for_sorts operator_named written_rank build rank
of_no_terms = refl

abbrev heads : Cases
heads =
    (codes "(assert ((_ and) true))", refusal BadForm 1 1 9)
    ∷ (codes "(assert ((_ and 1) true true))", refusal BadForm 1 1 9)
    ∷ (codes "(assert (extract #b1))", refusal BadForm 1 1 9)
    ∷ (codes "(assert ((_ extract 1) #b1))", refusal BadForm 1 1 9)
    ∷ (codes "(assert ((_ extract x 0) #b1))", refusal BadForm 1 1 9)
    ∷ (codes "(assert ((as foo Int) 1))", refusal BadForm 1 1 9)
    ∷ (codes "(assert ((as const) 1))", refusal BadForm 1 1 9)
    ∷ (codes "(assert ((as const Real) 1))", refusal RealSort 1 1 19)
    ∷ (codes "(assert (bv3 1))", refusal BadForm 1 1 9)
    ∷ (codes "(assert ((_ true 1) 1))", refusal BadForm 1 1 9)
    ∷ (codes "(declare-fun f (Bool) Bool)(assert ((_ f 1) true))", refusal BadForm 2 1 36)
    ∷ []

of_heads : found heads ≡ wanted heads
unfolding is_command_word is_syntax_word supported is_theory_name is_theory_sort is_reserved_for_declaring is_reserved_for_let is_reserved_for_sorts operator_named written_rank build rank
of_heads = refl

abbrev unknown_names : Cases
unknown_names =
    (codes "(assert x)", refusal UnknownName 1 1 8)
    ∷ (codes "(assert (f true))", refusal UnknownName 1 1 9)
    ∷ (codes "(assert (let ((x true)) (x true)))", refusal UnknownName 1 1 25)
    ∷ (codes "(assert (forall ((x Bool)) (x true)))", refusal UnknownName 1 1 28)
    ∷ (codes "(assert ((_ foo 1) true))", refusal UnknownName 1 1 9)
    ∷ (codes "(assert (let ((x true) (y x)) y))", refusal UnknownName 1 1 26)
    ∷ (codes "(assert (! (and true n) :named n))", refusal UnknownName 1 1 21)
    ∷ (codes "(define-fun f () Bool f)", refusal UnknownName 1 1 22)
    ∷ (codes "(push 1)(declare-const x Bool)(pop 1)(assert x)", refusal UnknownName 4 1 45)
    ∷ (codes "(define-fun f ((a Bool)) Bool a)(assert a)", refusal UnknownName 2 1 40)
    ∷ (codes "(declare-sort S 0)(assert S)", refusal UnknownName 2 1 26)
    ∷ (codes "(assert (and (! true :named n) n))(assert n)", None)
    ∷ (codes "(declare-fun f (Bool) Bool)(assert (let ((f true)) f))", None)
    ∷ []

of_unknown_names : found unknown_names ≡ wanted unknown_names
unfolding is_command_word is_syntax_word supported is_theory_name is_theory_sort is_reserved_for_declaring is_reserved_for_let is_reserved_for_sorts operator_named written_rank build rank
of_unknown_names = refl

abbrev binders : Cases
binders =
    (codes "(assert (let))", refusal BadForm 1 1 8)
    ∷ (codes "(assert (let () true))", refusal BadForm 1 1 8)
    ∷ (codes "(assert (let ((x true))))", refusal BadForm 1 1 8)
    ∷ (codes "(assert (let ((x y)) x x))", refusal BadForm 1 1 8)
    ∷ (codes "(assert (let (x) true))", refusal BadForm 1 1 14)
    ∷ (codes "(assert (let ((x)) true))", refusal BadForm 1 1 14)
    ∷ (codes "(assert (let ((5 true)) true))", refusal BadForm 1 1 14)
    ∷ (codes "(assert (let ((x y) 5) true))", refusal UnknownName 1 1 17)
    ∷ (codes "(assert (forall () true))", refusal BadForm 1 1 8)
    ∷ (codes "(assert (exists (x Bool)))", refusal BadForm 1 1 8)
    ∷ (codes "(assert (forall (x) true))", refusal BadForm 1 1 17)
    ∷ (codes "(assert (forall ((x Bool) (let Bool)) y))", refusal BadForm 1 1 26)
    ∷ (codes "(define-fun f (x) Int 1)", refusal BadForm 1 1 15)
    ∷ []

of_binders : found binders ≡ wanted binders
unfolding is_command_word is_syntax_word supported is_theory_name is_theory_sort is_reserved_for_declaring is_reserved_for_let is_reserved_for_sorts operator_named written_rank build rank
of_binders = refl

abbrev annotations : Cases
annotations =
    (codes "(assert (! true))", refusal BadForm 1 1 8)
    ∷ (codes "(assert (! true x))", refusal BadForm 1 1 8)
    ∷ (codes "(assert (! true :a b c))", refusal BadForm 1 1 8)
    ∷ (codes "(assert (!))", refusal BadForm 1 1 8)
    ∷ (codes "(assert (! true :named))", refusal BadForm 1 1 8)
    ∷ (codes "(assert (! true :named :b c))", refusal BadForm 1 1 8)
    ∷ (codes "(assert (! true :named 5))", refusal BadForm 1 1 23)
    ∷ (codes "(assert (! true :named (x)))", refusal BadForm 1 1 23)
    ∷ (codes "(assert (! true :a b :named let))", refusal BadForm 1 1 28)
    ∷ (codes "(assert (! true :a :b (c d) :named n :c))(assert n)", None)
    ∷ []

of_annotations : found annotations ≡ wanted annotations
unfolding is_command_word is_syntax_word supported is_theory_name is_theory_sort is_reserved_for_declaring is_reserved_for_let is_reserved_for_sorts operator_named written_rank build rank
of_annotations = refl

-- a name's term mentions no quantified name and no parameter
abbrev names_of_open_terms : Cases
names_of_open_terms =
    (codes "(assert (forall ((x Bool)) (! x :named n)))", refusal BadForm 1 1 27)
    ∷ (codes "(define-fun f ((a Bool)) Bool (! a :named n))", refusal BadForm 1 1 30)
    ∷ (codes "(assert (forall ((x Bool)) (let ((y x)) (! (not y) :named n))))", refusal BadForm 1 1 40)
    ∷ (codes "(define-fun g ((a Bool)) Bool a)(assert (exists ((x Bool)) (! (g x) :named n)))", refusal BadForm 2 1 59)
    ∷ (codes "(assert (forall ((x Bool)) (! x :named @n)))", refusal ReservedName 1 1 39)
    ∷ (codes "(assert (forall ((x Bool)) (! (exists ((x Bool)) x) :named n)))(assert n)", None)
    ∷ (codes "(define-fun f ((a Bool)) Bool (or a (! true :named n)))(assert n)", None)
    ∷ []

of_names_of_open_terms : found names_of_open_terms ≡ wanted names_of_open_terms
unfolding is_command_word is_syntax_word supported is_theory_name is_theory_sort is_reserved_for_declaring is_reserved_for_let is_reserved_for_sorts operator_named written_rank build rank
of_names_of_open_terms = refl

-- the earlier step counts: the list, the head, the operands from the left, their number, their sorts, an index, the width
abbrev orders : Cases
orders =
    (codes "(assert (5))", refusal BadForm 1 1 8)
    ∷ (codes "(assert (f y))", refusal UnknownName 1 1 9)
    ∷ (codes "(assert (and x 1.5))", refusal UnknownName 1 1 13)
    ∷ (codes "(assert (not 1 x))", refusal UnknownName 1 1 15)
    ∷ (codes "(assert ((_ extract 1) y))", refusal BadForm 1 1 9)
    ∷ (codes "(assert (not 1 2))", refusal WrongArity 1 1 8)
    ∷ (codes "(assert (= #b1 ((_ extract 5 0) true)))", refusal WrongSort 1 1 15)
    ∷ (codes "(assert ((_ divisible 0) true))", refusal WrongSort 1 1 8)
    ∷ (codes "(assert (forall ((x Bool) (x Int)) 1))", refusal Redeclared 1 1 27)
    ∷ (codes "(assert (forall ((x Int) (x Bool)) 1))", refusal QuantifiedSort 1 1 20)
    ∷ (codes "(define-fun f ((x U)) Real y)", refusal UnknownName 1 1 18)
    ∷ (codes "(define-fun f ((x Int)) Real y)", refusal RealSort 1 1 24)
    ∷ (codes "(define-fun f ((x Int)) Bool y)", refusal UnknownName 1 1 29)
    ∷ (codes "(define-fun f ((x Int)) Bool x)", refusal WrongSort 1 1 29)
    ∷ (codes "(assert (! x :named 5))", refusal UnknownName 1 1 11)
    ∷ (codes "(assert (! x y))", refusal BadForm 1 1 8)
    ∷ []

of_orders : found orders ≡ wanted orders
unfolding is_command_word is_syntax_word supported is_theory_name is_theory_sort is_reserved_for_declaring is_reserved_for_let is_reserved_for_sorts operator_named written_rank build rank
of_orders = refl
