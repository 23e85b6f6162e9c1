-- Printed literals of `check-sat-assuming` are read, and mean what they value to.
use Rattle.std.proofs.Common.{◌≡◌, ℕ, suc, inr, Bool, true, cond, Ok, Some, None, List, [], ◌∷◌, length, map, refl, ap, sym, subst, ◌∙◌, arith}
use Rattle.std.specs.Prelude.{◌&&◌, ◌==◌, codes, option_map}
use Rattle.std.specs.List.{list_all}
use Rattle.std.proofs.lemmas.Bool.{eqb-true}
use Rattle.smt_lex.specs.Names.{Name, is_syntax_word, is_command_word}
use Rattle.smt_lex.specs.Forms.{Form, Forms, none, forms_of_list}
use Rattle.smt_terms.specs.declared.op.Op.TheVariants.{Not}
use Rattle.smt_terms.specs.Connectives.{negated}
use Rattle.smt_terms.specs.Equal.{sort_eq}
use Rattle.smt_terms.specs.Free.{is_among as is_among_symbols}
use Rattle.smt_terms.specs.Rank.{rank, shape}
use Rattle.smt_terms.specs.Shapes.{is_bool}
use Rattle.smt_terms.specs.Sorts.{Sort, bool, int, bit_vector, array, free_sort, Symbol}
use Rattle.smt_terms.specs.Term.{op, symbol, const_array, Term, apply, quantified, none as no_terms, ◌⨾◌, constant}
use Rattle.smt_terms.specs.Val.{no_variables}
use Rattle.smt_terms.proofs.Ranked.{takes-rank}
use Rattle.smt_terms.proofs.Tests.{both_true}
use Rattle.script_read.specs.Commands.{check_assuming, State, Signature, symbols_of_state}
use Rattle.script_read.specs.Mean.{meaning}
use Rattle.script_read.specs.Outlines.{assuming, supported, outline}
use Rattle.script_read.specs.Printable.{is_live_constant, is_live_literal}
use Rattle.script_terms.specs.Reading.{ReadBinding, as_bindings}
use Rattle.script_terms.specs.Refusals.{and_then, given, mapped}
use Rattle.script_read.specs.Scenes.{literals_meant}
use Rattle.script_read.specs.Script.{Standing, begun_with, boolean_constant, constant_entry, declared_constant, literal, literals_in}
use Rattle.script_terms.specs.declared.causes.Cause.TheVariants.{BadForm}
use Rattle.script_terms.specs.Parts.{place_of}
use Rattle.term_table.specs.WrittenForms.{word_form, list_form}
use Rattle.smt_print.specs.TermForms.{operator_form, tree_form}
use Rattle.smt_print.specs.Text.{command_form}
use Rattle.smt_print.specs.Laws.{Each, MeansTheSame}
use Rattle.smt_print.proofs.CommandsRead.{Follows, IsReadFrom, from_outline}
use Rattle.smt_print.proofs.Contexts.{first_form, LiveRead}
use Rattle.smt_print.proofs.FormTexts.{end_of, placed, placed_in, placed_behind}
use Rattle.smt_print.proofs.LikePoints.{like_assuming}
use Rattle.smt_print.proofs.LiveNames.{AreDeclared, shown, shown_usual, shown_read, shown_meant, nothing_meant}
use Rattle.smt_print.proofs.Printables.{signature_of, IsUsual, usable_parts}
use Rattle.smt_print.proofs.Scopes.{free_outer}
use Rattle.smt_print.proofs.Stands.{Fits, tree_stands}
use Rattle.smt_print.proofs.SymbolsRead.{symbol_read}
use Rattle.smt_print.proofs.Tracks.{same_signature}

-- a live Boolean constant, or its negation
pub data IsLiteral (g : Signature) : Term → Type 0 where
  positive : (f : Symbol) → f.args ≡ [] → f.result ≡ bool → is_among_symbols g.symbols f ≡ true → IsLiteral g (apply (symbol f) no_terms)
  negative : (f : Symbol) → f.args ≡ [] → f.result ≡ bool → is_among_symbols g.symbols f ≡ true → IsLiteral g (apply (op Not) (apply (symbol f) no_terms ⨾ no_terms))

no_length : (ss : List Sort) → (length ss == 0) ≡ true → ss ≡ []
no_length [] h = refl
no_length (s ∷ ss) h = absurd (let e : length (s ∷ ss) ≡ 0 = eqb-true (length (s ∷ ss)) 0 h in omega (arith, e))

bool_sort : (s : Sort) → is_bool s ≡ true → s ≡ bool
bool_sort bool h = refl
bool_sort int h = absurd (cc)
bool_sort (bit_vector w) h = absurd (cc)
bool_sort (array i e) h = absurd (cc)
bool_sort (free_sort n) h = absurd (cc)

-- what is known of a live constant
record IsConstant (g : Signature) (f : Symbol) : Type 0 where
  alone : f.args ≡ []
  result : f.result ≡ bool
  live : is_among_symbols g.symbols f ≡ true

constant_parts : (st : State Term) (f : Symbol) → (is_bool f.result && (length f.args == 0 && is_among_symbols (symbols_of_state st) f)) ≡ true → IsConstant (signature_of st) f
constant_parts st f h =
    let a = both_true (is_bool f.result) (length f.args == 0 && is_among_symbols (symbols_of_state st) f) h in
    let b = both_true (length f.args == 0) (is_among_symbols (symbols_of_state st) f) a.1 in
    record { alone = no_length f.args b.0; result = bool_sort f.result a.0; live = b.1 }

constant_literal : (st : State Term) (t : Term) → is_live_constant st t ≡ true → IsLiteral (signature_of st) t
constant_literal st (apply (symbol f) no_terms) h = let k = constant_parts st f h in positive f k.alone k.result k.live
constant_literal st (apply (symbol f) (t ⨾ ts)) h = absurd (cc)
constant_literal st (apply (op o) ts) h = absurd (cc)
constant_literal st (apply (const_array s) ts) h = absurd (cc)
constant_literal st (quantified q xs t) h = absurd (cc)

negation_literal : (st : State Term) (t : Term) → is_live_constant st t ≡ true → IsLiteral (signature_of st) (apply (op Not) (t ⨾ no_terms))
negation_literal st (apply (symbol f) no_terms) h = let k = constant_parts st f h in negative f k.alone k.result k.live
negation_literal st (apply (symbol f) (t ⨾ ts)) h = absurd (cc)
negation_literal st (apply (op o) ts) h = absurd (cc)
negation_literal st (apply (const_array s) ts) h = absurd (cc)
negation_literal st (quantified q xs t) h = absurd (cc)

live_literal : (st : State Term) (t : Term) → is_live_literal st t ≡ true → IsLiteral (signature_of st) t
live_literal st (apply (op Not) (t ⨾ no_terms)) h = negation_literal st t h
live_literal st t h = constant_literal st t h

-- ---- reading

constant_read : (g : Signature) (bs : List ReadBinding) (f : Symbol) → LiveRead g bs → f.args ≡ [] → f.result ≡ bool → is_among_symbols g.symbols f ≡ true → declared_constant bs (Some f.name) ≡ Some (constant f)
constant_read g bs f live alone result there =
    ap constant_entry (live.symbols f there) ∙ ap (boolean_constant f) alone ∙ ap (λ s. cond (sort_eq s bool) (Some (constant f)) None) result

literal_read : (g : Signature) (bs : List ReadBinding) (t : Term) → LiveRead g bs → IsLiteral g t → (p : ℕ) → (u : Term) × (literal bs (placed p (tree_form t)) ≡ Some u)
unfolding operator_form is_syntax_word is_command_word
literal_read g bs _ live (positive f alone result there) p = (constant f, ap (declared_constant bs) (symbol_read f.name) ∙ constant_read g bs f live alone result there)
literal_read g bs _ live (negative f alone result there) p = (
  negated (constant f),
  ap (λ o. option_map negated (declared_constant bs o)) (symbol_read f.name) ∙ ap (option_map negated) (constant_read g bs f live alone result there),
)

next_literal : (bs : List ReadBinding) (f : Form) (fs : Forms) (t : Term) (ts : List Term) → literal bs f ≡ Some t → literals_in bs fs ≡ Ok ts → literals_in bs (first_form f fs) ≡ Ok (t ∷ ts)
next_literal bs f fs t ts here behind =
    ap (λ o. and_then (λ t. mapped (λ ts. t ∷ ts) (literals_in bs fs)) (given BadForm (place_of f) o)) here ∙ ap (mapped (λ ts. t ∷ ts)) behind

-- ---- meaning

constant_rank : (f : Symbol) → f.args ≡ [] → f.result ≡ bool → rank (symbol f) [] ≡ Ok bool
constant_rank f alone result = takes-rank (symbol f) [] bool (sym alone, sym result) (omega arith)

negation_rank : rank (op Not) (bool ∷ []) ≡ Ok bool
unfolding rank shape
negation_rank = refl

symbol_of_literal : (g : Signature) (f : Symbol) → IsUsual g → f.args ≡ [] → f.result ≡ bool → is_among_symbols g.symbols f ≡ true → Fits g [] (apply (symbol f) no_terms) bool
symbol_of_literal g f usual alone result there =
    let parts = usable_parts f.name (usual.symbols f there) in
    ([], refl, (free_outer f.name parts.1, inr (refl, there), parts.0), constant_rank f alone result)

pub literal_fits : (g : Signature) (t : Term) → IsUsual g → IsLiteral g t → Fits g [] t bool
literal_fits g _ usual (positive f alone result there) = symbol_of_literal g f usual alone result there
literal_fits g _ usual (negative f alone result there) =
    (bool ∷ [], (bool, [], symbol_of_literal g f usual alone result there, refl, refl), tt, negation_rank)

literal_means : (bs : List ReadBinding) (t : Term) → AreDeclared bs → IsLiteral (shown bs) t → (p : ℕ) → MeansTheSame t (record { form = placed p (tree_form t); bindings = as_bindings bs })
literal_means bs t are is p m =
    (tree_stands (shown bs) [] t bool (literal_fits (shown bs) t (shown_usual bs are) is)).means.means m (meaning (as_bindings bs) m) no_variables p (shown_meant bs m are) (nothing_meant bs m are)

-- ---- lists of literals

abbrev pub AreLiterals : Signature → List Term → Type 0
AreLiterals g [] = Unit {0}
AreLiterals g (t ∷ ts) = IsLiteral g t × AreLiterals g ts

pub all_literals : (st : State Term) (ts : List Term) → list_all (is_live_literal st) ts ≡ true → AreLiterals (signature_of st) ts
all_literals st [] all = tt
all_literals st (t ∷ ts) all =
    let parts = both_true (is_live_literal st t) (list_all (is_live_literal st) ts) all in
    (live_literal st t parts.0, all_literals st ts parts.1)

abbrev trees : List Term → Forms
trees ts = forms_of_list (map tree_form ts)

literals_behind : (bs : List ReadBinding) (ts : List Term) (p : ℕ) → AreDeclared bs → AreLiterals (shown bs) ts → (us : List Term) × (literals_in bs (placed_behind p (trees ts) none) ≡ Ok us)
literals_behind bs [] p are all = ([], refl)
literals_behind bs (t ∷ ts) p are all =
    let here = literal_read (shown bs) bs t (shown_read bs are) all.0 (suc p) in
    let behind = literals_behind bs ts (end_of (suc p) (tree_form t)) are all.1 in
    (here.0 ∷ behind.0, next_literal bs (placed (suc p) (tree_form t)) (placed_behind (end_of (suc p) (tree_form t)) (trees ts) none) here.0 behind.0 here.1 behind.1)

literals_read : (bs : List ReadBinding) (ts : List Term) (p : ℕ) → AreDeclared bs → AreLiterals (shown bs) ts → (us : List Term) × (literals_in bs (placed_in p (trees ts) none) ≡ Ok us)
literals_read bs [] p are all = ([], refl)
literals_read bs (t ∷ ts) p are all =
    let here = literal_read (shown bs) bs t (shown_read bs are) all.0 p in
    let behind = literals_behind bs ts (end_of p (tree_form t)) are all.1 in
    (here.0 ∷ behind.0, next_literal bs (placed p (tree_form t)) (placed_behind (end_of p (tree_form t)) (trees ts) none) here.0 behind.0 here.1 behind.1)

meant_behind : (bs : List ReadBinding) (ts : List Term) (p : ℕ) → AreDeclared bs → AreLiterals (shown bs) ts → Each MeansTheSame ts (literals_meant (as_bindings bs) (placed_behind p (trees ts) none))
meant_behind bs [] p are all = tt
meant_behind bs (t ∷ ts) p are all = (literal_means bs t are all.0 (suc p), meant_behind bs ts (end_of (suc p) (tree_form t)) are all.1)

literals_mean : (bs : List ReadBinding) (ts : List Term) (p : ℕ) → AreDeclared bs → AreLiterals (shown bs) ts → Each MeansTheSame ts (literals_meant (as_bindings bs) (placed_in p (trees ts) none))
literals_mean bs [] p are all = tt
literals_mean bs (t ∷ ts) p are all = (literal_means bs t are all.0 p, meant_behind bs ts (end_of p (tree_form t)) are all.1)

-- ---- the command

assuming_outline : (p : ℕ) (ts : List Term) → outline (placed p (command_form (codes "check-sat-assuming") (list_form (map tree_form ts) ∷ [])))
    ≡ Ok (assuming (placed_in (suc (suc (end_of (suc p) (word_form (codes "check-sat-assuming"))))) (trees ts) none))
unfolding is_command_word supported
assuming_outline p ts = refl

pub assuming_read : (taken : List Name) (begun : Bool) (st : State Term) (s : Standing) (ts : List Term) (p : ℕ) → Follows taken begun st s → list_all (is_live_literal st) ts ≡ true
    → IsReadFrom taken begun st (check_assuming ts) s (placed p (command_form (codes "check-sat-assuming") (list_form (map tree_form ts) ∷ [])))
assuming_read taken begun st s ts p follows may =
    let bs = s.sofar.live in
    let are = follows.tracks.declared in
    let all : AreLiterals (shown bs) ts = subst (λ g. AreLiterals g ts) (same_signature st bs follows.tracks) (all_literals st ts may) in
    let q = suc (suc (end_of (suc p) (word_form (codes "check-sat-assuming")))) in
    let fs = placed_in q (trees ts) none in
    let read = literals_read bs ts q are all in
    from_outline taken begun st (check_assuming ts) s (placed p (command_form (codes "check-sat-assuming") (list_form (map tree_form ts) ∷ []))) (assuming fs) (check_assuming read.0 ∷ []) (begun_with s bs)
    (check_assuming (literals_meant (as_bindings bs) fs)) (assuming_outline p ts) (ap (mapped (λ us. (check_assuming us ∷ [], begun_with s bs))) read.1)
    (record { tracks = record { levels = follows.tracks.levels; declared = are }; global = follows.global; begun = refl; taken = follows.taken })
    refl (like_assuming ts (literals_meant (as_bindings bs) fs) (literals_mean bs ts q are all))
