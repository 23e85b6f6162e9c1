-- The live assertions and the literals of commands that can be printed are formulas.
use Rattle.std.proofs.Common.{◌≡◌, sym, ap, refl, subst, ℕ, suc, eqb, Bool, true, false, ◌&&◌, List, [], ◌∷◌, map, length, Option, Some, None, All, arith}
use Rattle.std.specs.List.{list_all}
use Rattle.std.proofs.lemmas.Bool.{ne_eqb}
use Rattle.std.proofs.lemmas.List.Elements.{All-nil, All-cons, All-head, All-tail}
use Rattle.smt_terms.specs.declared.ids.NodeId.{NodeId}
use Rattle.smt_terms.specs.declared.op.Op.TheVariants.{Not}
use Rattle.smt_terms.specs.Free.{is_among as is_among_symbols}
use Rattle.smt_terms.specs.Rank.{rank, with_sort, sort_over, sort_of}
use Rattle.smt_terms.specs.Shapes.{is_bool}
use Rattle.smt_terms.specs.Sorts.{Name, Sort, bool, Symbol}
use Rattle.smt_terms.specs.Term.{op, symbol, const_array, Term, apply, quantified, none, ◌⨾◌, constant}
use Rattle.smt_terms.proofs.Equal.{Decides-sort_eq}
use Rattle.smt_terms.proofs.Tests.{both_true}
use Rattle.normal_forms.specs.Nodes.{IsFormula}
use Rattle.script_terms.specs.Read.{is_of_sort, has_sort}
use Rattle.script_read.specs.Commands.{Command, passed, declare_sort, declare, assert, check, check_assuming, push, pop, reset, reset_assertions, globals, exit, State, start, after, symbols_of_state}
use Rattle.script_read.specs.Printable.{is_live_constant, is_live_literal, is_printable_term, may_stand, fixes, may_be_followed, printable_from, printable}
use Rattle.term_table.specs.Formulas.{Formulas, tree, IsNode}
use Rattle.models.specs.LiveTerms.{with_number, live_terms, numbered_at, AreNumbered}
use Rattle.bit_scripts.proofs.LiveFits.{Fits, EachFits, live_fits}

-- ---- terms that can be printed

sort_is_bool : (o : Option Sort) → is_of_sort bool o ≡ true → o ≡ Some bool
sort_is_bool None e = absurd cc
sort_is_bool (Some s) e = ap Some ((Decides-sort_eq s bool).0 e)

bool_sort : (s : Sort) → is_bool s ≡ true → s ≡ bool
bool_sort bool h = refl
bool_sort _ h = absurd cc

none_left : (ss : List Sort) → eqb (length ss) 0 ≡ true → ss ≡ []
none_left [] h = refl
none_left (s ∷ ss) h = let more : eqb (suc (length ss)) 0 ≡ false = ne_eqb (suc (length ss)) 0 (λ none. omega (arith, none)) in absurd cc

flag : Name → Symbol
flag n = record { name = n; args = []; result = bool }

flag_sort : (n : Name) → sort_of (constant (flag n)) ≡ Some bool
unfolding rank flag
flag_sort n = refl

constant_sort : (s : State Term) (t : Term) → is_live_constant s t ≡ true → sort_of t ≡ Some bool
unfolding flag
constant_sort s (apply (symbol f) none) h =
    let parts = both_true (is_bool f.result) (eqb (length f.args) 0 && is_among_symbols (symbols_of_state s) f) h in
    let rest = both_true (eqb (length f.args) 0) (is_among_symbols (symbols_of_state s) f) parts.1 in
    let same : flag f.name ≡ f = λ i. record { name = f.name; args = sym (none_left f.args rest.0) i; result = sym (bool_sort f.result parts.0) i } in
    subst (λ g. sort_of (constant g) ≡ Some bool) same (flag_sort f.name)
constant_sort s (apply (symbol f) (u ⨾ us)) h = absurd cc
constant_sort s (apply (op o) us) h = absurd cc
constant_sort s (apply (const_array a) us) h = absurd cc
constant_sort s (quantified q xs u) h = absurd cc

not_sort : (t : Term) → sort_of t ≡ Some bool → sort_of (apply (op Not) (t ⨾ none)) ≡ Some bool
unfolding rank
not_sort t sort = ap (λ o. sort_over (op Not) (with_sort o (Some []))) sort

literal_sort : (s : State Term) (t : Term) → is_live_literal s t ≡ true → sort_of t ≡ Some bool
literal_sort s (apply (op Not) (u ⨾ none)) h = not_sort u (constant_sort s u h)
literal_sort s u h = constant_sort s u h

-- ---- with their numbers

abbrev pub IsBool : Term × ℕ → Type 0
IsBool r = sort_of r.0 ≡ Some bool

literals_bool : (s : State Term) (ls : List Term) → list_all (is_live_literal s) ls ≡ true → All IsBool (map (λ l. (l, 0)) ls)
literals_bool s [] h = All-nil IsBool
literals_bool s (l ∷ ls) h =
    let parts = both_true (is_live_literal s l) (list_all (is_live_literal s) ls) h in
    All-cons IsBool (l, 0) (map (λ k. (k, 0)) ls) (literal_sort s l parts.0) (literals_bool s ls parts.1)

command_bool : (begun : Bool) (s : State Term) (c : Command Term) → may_stand begun s c ≡ true → Fits IsBool (with_number c)
command_bool begun s (assert i t) h = sort_is_bool (sort_of t) (both_true (has_sort bool t) (is_printable_term s t) h).0
command_bool begun s (check_assuming ls) h = literals_bool s ls h
command_bool begun s (passed text) h = tt
command_bool begun s (declare_sort n) h = tt
command_bool begun s (declare f) h = tt
command_bool begun s check h = tt
command_bool begun s (push n) h = tt
command_bool begun s (pop n) h = tt
command_bool begun s reset h = tt
command_bool begun s reset_assertions h = tt
command_bool begun s (globals b) h = tt
command_bool begun s exit h = tt

commands_bool : (cs : List (Command Term)) (begun : Bool) (s : State Term) → printable_from begun s cs ≡ true → EachFits IsBool (map with_number cs)
commands_bool [] begun s h = tt
commands_bool (c ∷ cs) begun s h =
    let here = both_true (may_stand begun s c) (may_be_followed c cs && printable_from (fixes begun c) (after c s) cs) h in
    let there = both_true (may_be_followed c cs) (printable_from (fixes begun c) (after c s) cs) here.1 in
    (command_bool begun s c here.0, commands_bool cs (fixes begun c) (after c s) there.1)

pub live_bool : (cs : List (Command Term)) (k : ℕ) → printable cs ≡ true → All IsBool (live_terms cs k)
live_bool cs k h = live_fits IsBool (map with_number cs) (commands_bool cs false start h) k

-- ---- over a table

-- their nodes are formulas
pub live_nodes : (t : Formulas) (ls : List (NodeId × ℕ)) → AreNumbered t ls → All IsBool (numbered_at t ls) → All (IsFormula t) (map (λ l. l.0) ls)
live_nodes t [] nodes sorts = All-nil (IsFormula t)
live_nodes t (l ∷ ls) nodes sorts =
    All-cons (IsFormula t) l.0 (map (λ k. k.0) ls)
    (record { node = All-head (λ k. IsNode t k.0) l ls nodes; sort = All-head IsBool (tree t l.0, l.1) (numbered_at t ls) sorts })
    (live_nodes t ls (All-tail (λ k. IsNode t k.0) l ls nodes) (All-tail IsBool (tree t l.0, l.1) (numbered_at t ls) sorts))
