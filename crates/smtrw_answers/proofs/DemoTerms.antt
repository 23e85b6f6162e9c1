-- The steps of a script of the demonstration are read as Boolean terms, each where the earlier ones are bound around it.
use Rattle.std.proofs.Common.{◌≡◌, ℕ, zero, suc, ◌+◌, ◌-◌, ◌<◌, ◌≤◌, true, false, not, inl, inr, Ok, Some, None, List, [], ◌∷◌, ◌++◌, length, refl, ap, sym, subst, ◌∙◌, arith}
use Rattle.std.specs.Prelude.{codes, nat_lt}
use Rattle.std.proofs.Math.Nat.{mod-lt}
use Rattle.std.proofs.lemmas.Bool.{ltb-true, ltb-false}
use Rattle.std.proofs.lemmas.Bool.Decides.{eqb_tells}
use Rattle.smt_lex.specs.declared.items.Item.TheVariants.{Word}
use Rattle.smt_lex.specs.Forms.{Form, atom, node, Forms, none, ◌⨾◌}
use Rattle.smt_lex.specs.Lex.{symbol_by}
use Rattle.smt_lex.specs.Names.{Name, is_theory_name, is_reserved_for_let, is_syntax_word, is_command_word}
use Rattle.smt_terms.specs.declared.op.Op.{Op}
use Rattle.smt_terms.specs.declared.op.Op.TheVariants.{And, Or, Xor, Equal}
use Rattle.smt_terms.specs.Equal.{name_eq}
use Rattle.smt_terms.specs.Free.{is_among as is_among_symbols}
use Rattle.smt_terms.specs.Numeral.{numeral}
use Rattle.smt_terms.specs.Rank.{rank, shape, sort_of}
use Rattle.smt_terms.specs.Sorts.{bool, Variable}
use Rattle.smt_terms.specs.Term.{op, symbol, Term}
use Rattle.smt_terms.proofs.Numeral.{numeral-injective}
use Rattle.smt_terms.proofs.Tests.{true_or_false, not_true}
use Rattle.script_read.specs.Commands.{Signature}
use Rattle.script_terms.specs.Parts.{let_word, opening}
use Rattle.script_terms.specs.Read.{with_local, let_name}
use Rattle.script_terms.specs.Reading.{ReadLocal, lets_as, bound_as}
use Rattle.smt_print.specs.TermForms.{tree_form, let_form}
use Rattle.smt_print.proofs.Contexts.{lookup, InScope, other_name, same_name}
use Rattle.smt_print.proofs.FormTexts.{end_of, token_at, placed}
use Rattle.smt_print.proofs.Readings.{knowing, Reads, let_steps}
use Rattle.smt_print.proofs.Scopes.{free_outer, first_none, here_or_later, behind_other, at_first}
use Rattle.smt_print.proofs.Stands.{Fits, tree_stands}
use Rattle.smt_print.proofs.SymbolsRead.{word_symbol}
use Rattle.smtrw_answers.specs.Outputs.{next_state, drawn, pool_name}
use Rattle.smtrw_answers.proofs.DemoForms.{operator_drawn, first_drawn, second_drawn, state_behind, truth_symbol, truth_constant, term_over, term_of_step, term_at, form_from}
use Rattle.smtrw_answers.proofs.DemoNames.{step_name, step_unreserved, step_no_theory, step_plain, flags_pass, pool_step, pool_plain}

-- ---- what is bound around a step: a Boolean term for each earlier one

abbrev pub step_variable : ℕ → Variable
step_variable k = record { name = step_name k; sort = bool }

-- those of so many steps, the latest first
abbrev pub step_variables : ℕ → List Variable
step_variables zero = []
step_variables (suc k) = step_variable k ∷ step_variables k

flag_is_other : (k i : ℕ) → i < 8 → name_eq (step_name k) (pool_name i) ≡ false
flag_is_other k i few = not_true (name_eq (step_name k) (pool_name i)) (flags_pass (λ i. not (name_eq (step_name k) (pool_name i))) refl i few)

flag_unbound : (k i : ℕ) → i < 8 → lookup (step_variables k) (pool_name i) ≡ None
flag_unbound zero i few = refl
flag_unbound (suc k) i few = behind_other (name_eq (step_name k) (pool_name i)) (step_variable k) (lookup (step_variables k) (pool_name i)) (flag_is_other k i few) ∙ flag_unbound k i few

same_digits : (xs ys : List ℕ) → codes "t" ++ xs ≡ codes "t" ++ ys → xs ≡ ys
same_digits xs ys h = cc

step_is_other : (j k : ℕ) → (j ≡ k → ⊥) → name_eq (step_name k) (step_name j) ≡ false
step_is_other j k differ = other_name (step_name k) (step_name j) (λ same. differ (sym (numeral-injective k j (same_digits (numeral k) (numeral j) same))))

step_bound : (k j : ℕ) → j < k → lookup (step_variables k) (step_name j) ≡ Some (step_variable j)
step_bound zero j before = absurd (omega arith)
step_bound (suc k) j before = elim (eqb_tells j k) [
  | inl same ↦
      at_first (name_eq (step_name k) (step_name j)) (step_variable k) (lookup (step_variables k) (step_name j)) (same_name (step_name k) (step_name j) (ap step_name (sym same.1)))
      ∙ ap (λ i. Some (step_variable i)) (sym same.1)
  | inr differs ↦
      behind_other (name_eq (step_name k) (step_name j)) (step_variable k) (lookup (step_variables k) (step_name j)) (step_is_other j k differs.1) ∙ step_bound k j (omega (arith, before, differs.1))
]

-- ---- terms behind so many steps

-- the declared names are live
abbrev pub FlagsAreLive : Signature → Type 0
FlagsAreLive g = (i : ℕ) → i < 8 → is_among_symbols g.symbols (truth_symbol (pool_name i)) ≡ true

abbrev FitsBehind : Signature → ℕ → Term → Type 0
FitsBehind g k t = Fits g (step_variables k) t bool

constant_rank : (n : Name) → rank (symbol (truth_symbol n)) [] ≡ Ok bool
unfolding rank
constant_rank n = refl

step_fits : (g : Signature) (k j : ℕ) → j < k → FitsBehind g k (truth_constant (step_name j))
step_fits g k j before = ([], refl, (free_outer (step_name j) (step_plain j).free, inl (step_variable j, step_bound k j before, refl), (step_plain j).name), constant_rank (step_name j))

flag_fits : (g : Signature) (k i : ℕ) → FlagsAreLive g → i < 8 → FitsBehind g k (truth_constant (pool_name i))
flag_fits g k i live few = ([], refl, (free_outer (pool_name i) (pool_plain i).free, inr (flag_unbound k i few, live i few), (pool_plain i).name), constant_rank (pool_name i))

name_fits : (g : Signature) (k i : ℕ) → FlagsAreLive g → i < 8 + k → FitsBehind g k (truth_constant (pool_name i))
name_fits g k i live there = elim (true_or_false (nat_lt i 8)) [
  | inl few ↦ flag_fits g k i live (ltb-true i 8 few)
  | inr many ↦
      let behind : 8 ≤ i = ltb-false i 8 many in
      subst (λ n. FitsBehind g k (truth_constant n)) (sym (pool_step i behind)) (step_fits g k (i - 8) (omega (arith, there, behind)))
]

over_fits : (g : Signature) (k i j : ℕ) (o : Op) → rank (op o) (bool ∷ bool ∷ []) ≡ Ok bool → FitsBehind g k (truth_constant (pool_name i)) → FitsBehind g k (truth_constant (pool_name j)) → FitsBehind g k (term_over o i j)
over_fits g k i j o ranked first second = (bool ∷ bool ∷ [], (bool, bool ∷ [], first, (bool, [], second, refl, refl), refl), tt, ranked)

operator_fits : (g : Signature) (k o i j : ℕ) → FitsBehind g k (truth_constant (pool_name i)) → FitsBehind g k (truth_constant (pool_name j)) → FitsBehind g k (term_of_step o i j)
unfolding rank shape
operator_fits g k zero i j first second = over_fits g k i j And refl first second
operator_fits g k (suc zero) i j first second = over_fits g k i j Or refl first second
operator_fits g k (suc (suc zero)) i j first second = (bool ∷ [], (bool, [], first, refl, refl), tt, refl)
operator_fits g k (suc (suc (suc zero))) i j first second = over_fits g k i j Xor refl first second
operator_fits g k (suc (suc (suc (suc n)))) i j first second = over_fits g k i j Equal refl first second

term_fits : (g : Signature) (k s : ℕ) → FlagsAreLive g → FitsBehind g k (term_at s k)
term_fits g k s live =
    operator_fits g k (operator_drawn s) (first_drawn s k) (second_drawn s k) (name_fits g k (first_drawn s k) live (mod-lt (drawn (next_state s)) (omega arith)))
    (name_fits g k (second_drawn s k) live (mod-lt (drawn (next_state (next_state s))) (omega arith)))

-- ---- below a step's `let`

abbrev step_let : Forms → ℕ → Term → ReadLocal
step_let fs k t = lets_as fs ((step_name k, t) ∷ [])

step_no_operator : (k : ℕ) (n : Name) → is_theory_name n ≡ true → name_eq (step_name k) n ≡ false
step_no_operator k n theory = other_name (step_name k) n (λ same. absurd (let no : is_theory_name n ≡ false = subst (λ m. is_theory_name m ≡ false) same (step_no_theory k) in cc))

behind_let : (fs : Forms) (k : ℕ) (t : Term) (ls : List ReadLocal) (n : Name) → name_eq (step_name k) n ≡ false → bound_as (step_let fs k t ∷ ls) n ≡ bound_as ls n
behind_let fs k t ls n other = rw other refl

at_let : (fs : Forms) (k : ℕ) (t : Term) (ls : List ReadLocal) (n : Name) → name_eq (step_name k) n ≡ true → bound_as (step_let fs k t ∷ ls) n ≡ Some t
at_let fs k t ls n same = rw same refl

below_let : (k : ℕ) (scope : List Variable) (ls : List ReadLocal) (fs : Forms) (t : Term) → sort_of t ≡ Some bool → InScope scope [] ls → InScope (step_variable k ∷ scope) [] (step_let fs k t ∷ ls)
below_let k scope ls fs t sort known = record {
  theories = λ n theory. behind_other (name_eq (step_name k) n) (step_variable k) (lookup scope n) (step_no_operator k n theory) ∙ known.theories n theory;
  unbound = λ n outer h.
      let parts = first_none (name_eq (step_name k) n) (step_variable k) (lookup scope n) h in
      behind_let fs k t ls n parts.0 ∙ known.unbound n outer parts.1;
  bound = λ n x outer h. elim (here_or_later (name_eq (step_name k) n) (step_variable k) x (lookup scope n) h) [
    | inl here ↦ (t, at_let fs k t ls n here.0, sort ∙ ap (λ y. Some y.sort) here.1)
    | inr later ↦
        let r = known.bound n x outer later.1 in
        (r.0, behind_let fs k t ls n later.0 ∙ r.1, r.2)
  ];
  definitions = tt;
}

-- ---- reading

let_begins : (p : ℕ) → opening (atom (token_at p Word (codes "let"))) ≡ let_word
unfolding is_syntax_word is_command_word
let_begins p = refl

name_is_read : (part place k : ℕ) → let_name [] part place (symbol_by Word (step_name k)) ≡ Ok (step_name k)
unfolding is_reserved_for_let
name_is_read part place k = ap (let_name [] part place) (word_symbol (step_name k) (step_unreserved k)) ∙ rw (step_no_theory k) refl

reads_step : (g : Signature) (scope : List Variable) (k : ℕ) (f body : Form) → Reads g scope [] f (Some bool) → Reads g (step_variable k ∷ scope) [] body (Some bool) → Reads g scope [] (let_form (step_name k) f body) (Some bool)
reads_step g scope k f body first further = record {
  reads = λ bs taken c p i live known all.
      let part = suc (suc p + length (codes "let")) in
      let inner = suc part in
      let value = suc (suc inner + length (step_name k)) in
      let last = suc (suc (suc (end_of value f))) in
      let name = atom (token_at (suc inner) Word (step_name k)) in
      let bindings : Forms = node inner (name ⨾ placed value f ⨾ none) ⨾ none in
      let read_first = first.reads bs taken c value i live known all.1.0.0.1.0 in
      let read_body = further.reads bs taken (with_local (step_let bindings k read_first.0) c) last read_first.1 live (below_let k scope c.locals bindings read_first.0 read_first.3 known) all.1.1.0 in (
        read_body.0,
        read_body.1,
        let_steps (atom (token_at (suc p) Word (codes "let"))) name (placed value f) (placed last body) p part inner c (step_name k) (knowing bs taken i) (knowing bs taken read_first.1) (knowing bs taken read_body.1)
            read_first.0 read_body.0 (let_begins (suc p)) (name_is_read inner (suc inner) k) read_first.2 read_body.2,
        read_body.3,
      );
}

-- so many steps from step k on, where the earlier ones are bound
pub steps_read : (g : Signature) → FlagsAreLive g → (n k s : ℕ) → 1 ≤ n + k → Reads g (step_variables k) [] (form_from n k s) (Some bool)
steps_read g live zero k s some = (tree_stands g (step_variables k) (truth_constant (step_name (k - 1))) bool (step_fits g k (k - 1) (omega (arith, some)))).reads
steps_read g live (suc n) k s some =
    reads_step g (step_variables k) k (tree_form (term_at s k)) (form_from n (suc k) (state_behind s)) (tree_stands g (step_variables k) (term_at s k) bool (term_fits g k s live)).reads
    (steps_read g live n (suc k) (state_behind s) (omega arith))
