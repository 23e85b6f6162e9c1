-- What is known below a quantifier, and below a `let`.
use Rattle.std.proofs.Common.{◌≡◌, ℕ, ◌≤◌, ◌⊎◌, inl, inr, Bool, true, false, Option, Some, None, List, [], ◌∷◌, length, refl, ap, sym, subst, ◌∙◌, arith}
use Rattle.smt_lex.specs.Names.{Name, IsName, is_internal, is_theory_name, is_reserved_for_declaring}
use Rattle.smt_lex.specs.Forms.{Forms}
use Rattle.smt_terms.specs.Equal.{name_eq, symbol_eq}
use Rattle.smt_terms.specs.Fresh.{Supply, next_name, after_draw}
use Rattle.smt_terms.specs.Models.{Model}
use Rattle.smt_terms.specs.Rank.{most_bits, width, is_quantifiable, sort_of}
use Rattle.smt_terms.specs.Sorts.{Symbol, Variable}
use Rattle.smt_terms.specs.Term.{symbol, Term, none as no_terms, constant_of}
use Rattle.smt_terms.specs.Val.{Env, assign}
use Rattle.smt_terms.specs.Values.{Value}
use Rattle.smt_terms.proofs.Equal.{Decides-symbol_eq}
use Rattle.smt_terms.proofs.Ranked.{takes-rank}
use Rattle.smt_terms.proofs.Sorted.{sort_of-apply}
use Rattle.smt_terms.proofs.Tests.{true_or_false, both_false}
use Rattle.script_read.specs.Commands.{Signature}
use Rattle.script_read.specs.Laws.{denoted}
use Rattle.script_read.specs.Mean.{Denoted, Meaning, with_bound, denoted_as}
use Rattle.script_terms.specs.Read.{constant_names, with_quantified}
use Rattle.script_terms.specs.Reading.{ReadLocal, lets_as, quantified_as, bound_as, constant_as}
use Rattle.script_terms.specs.Scope.{or_later}
use Rattle.smt_print.specs.TermForms.{Definition, definition_name}
use Rattle.smt_print.proofs.Contexts.{lookup, pushed, AreRead, InScope, AreMeant, LiveMeant, MeantScope, other_name, same_name, no_definition, other_definition, lookup_name}
use Rattle.smt_print.proofs.SortsRead.{SortFits, sort_narrow}

-- ---- variables that may be quantified

pub record IsUsable (g : Signature) (x : Variable) : Type 0 where
  pub name : IsName x.name
  pub free : is_reserved_for_declaring x.name ≡ false
  pub sort : SortFits g x.sort
  pub quantifiable : is_quantifiable x.sort ≡ true

abbrev pub AreUsable : Signature → List Variable → Type 0
AreUsable g [] = Unit {0}
AreUsable g (x ∷ xs) = IsUsable g x × AreUsable g xs

pub free_outer : (n : Name) → is_reserved_for_declaring n ≡ false → is_internal n ≡ false
unfolding is_reserved_for_declaring
free_outer n free = (both_false (is_internal n) (is_theory_name n) free).0

pub free_no_theory : (n : Name) → is_reserved_for_declaring n ≡ false → is_theory_name n ≡ false
unfolding is_reserved_for_declaring
free_no_theory n free = (both_false (is_internal n) (is_theory_name n) free).1

not_theory : (m n : Name) → is_reserved_for_declaring m ≡ false → is_theory_name n ≡ true → name_eq m n ≡ false
not_theory m n free theory =
    other_name m n (λ same. absurd (let no : is_theory_name n ≡ false = subst (λ k. is_theory_name k ≡ false) same (free_no_theory m free) in cc))

-- ---- a name in front of others

pub first_none : {A : Type 0} (b : Bool) (a : A) (o : Option A) → or_later b a o ≡ None → (b ≡ false) × (o ≡ None)
first_none true a o h = absurd (cc)
first_none false a o h = (refl, h)

pub here_or_later : {A : Type 0} (b : Bool) (a c : A) (o : Option A) → or_later b a o ≡ Some c → ((b ≡ true) × (a ≡ c)) ⊎ ((b ≡ false) × (o ≡ Some c))
here_or_later true a c o h = inl (refl, cc)
here_or_later false a c o h = inr (refl, h)

pub behind_other : {A : Type 0} (b : Bool) (a : A) (o : Option A) → b ≡ false → or_later b a o ≡ o
behind_other b a o other = rw other refl

pub at_first : {A : Type 0} (b : Bool) (a : A) (o : Option A) → b ≡ true → or_later b a o ≡ Some a
at_first b a o here = rw here refl

-- ---- reading

pub variable_sort : (x : Variable) (n : Name) → width x.sort ≤ most_bits → sort_of (constant_as x n) ≡ Some x.sort
variable_sort x n narrow =
    let f : Symbol = constant_of (record { name = n; sort = x.sort }) in
    sort_of-apply (symbol f) no_terms [] x.sort refl (takes-rank (symbol f) [] x.sort (refl, refl) narrow)

pub in_variable : (g : Signature) (x : Variable) (m : Name) (scope : List Variable) (ds : List Definition) (ls : List ReadLocal) → IsUsable g x → InScope scope ds ls → InScope (x ∷ scope) [] (quantified_as x m ∷ ls)
in_variable g x m scope ds ls usable known = record {
  theories = λ n theory. behind_other (name_eq x.name n) x (lookup scope n) (not_theory x.name n usable.free theory) ∙ known.theories n theory;
  unbound = λ n outer h.
      let parts = first_none (name_eq x.name n) x (lookup scope n) h in
      behind_other (name_eq x.name n) (constant_as x m) (bound_as ls n) parts.0 ∙ known.unbound n outer parts.1;
  bound = λ n y outer h. elim (here_or_later (name_eq x.name n) x y (lookup scope n) h) [
    | inl here ↦ (
      constant_as x m,
      at_first (name_eq x.name n) (constant_as x m) (bound_as ls n) here.0,
      variable_sort x m (sort_narrow g x.sort usable.sort) ∙ ap (λ z. Some z.sort) here.1,
    )
    | inr later ↦
        let r = known.bound n y outer later.1 in
        (r.0, behind_other (name_eq x.name n) (constant_as x m) (bound_as ls n) later.0 ∙ r.1, r.2)
  ];
  definitions = tt;
}

without_definitions : (scope : List Variable) (ds : List Definition) (ls : List ReadLocal) → InScope scope ds ls → InScope scope [] ls
without_definitions scope ds ls known = record { theories = known.theories; unbound = known.unbound; bound = known.bound; definitions = tt }

-- below a quantifier, whatever names were drawn
pub in_variables : (g : Signature) (is_taken : Name → Bool) (xs : List Variable) (s : Supply) (scope : List Variable) (ds : List Definition) (ls : List ReadLocal) → AreUsable g xs → InScope scope ds ls
    → InScope (pushed xs scope) [] (with_quantified xs (constant_names is_taken xs s).0 ls)
in_variables g is_taken [] s scope ds ls usable known = without_definitions scope ds ls known
in_variables g is_taken (x ∷ xs) s scope ds ls usable known = elim (true_or_false (is_taken x.name)) [
  | inl taken ↦ rw taken (in_variables g is_taken xs (after_draw s) (x ∷ scope) [] (quantified_as x (next_name s) ∷ ls) usable.1 (in_variable g x (next_name s) scope ds ls usable.0 known))
  | inr new ↦ rw new (in_variables g is_taken xs s (x ∷ scope) [] (quantified_as x x.name ∷ ls) usable.1 (in_variable g x x.name scope ds ls usable.0 known))
]

-- ---- reading below a `let`

abbrev one_let : Forms → ℕ → Term → ReadLocal
one_let fs k t = lets_as fs ((definition_name k, t) ∷ [])

behind_let : (fs : Forms) (k : ℕ) (t : Term) (ls : List ReadLocal) (n : Name) → name_eq (definition_name k) n ≡ false → bound_as (one_let fs k t ∷ ls) n ≡ bound_as ls n
behind_let fs k t ls n other = rw other refl

definitions_behind : (fs : Forms) (k : ℕ) (t : Term) (ls : List ReadLocal) (ds : List Definition) → length ds ≤ k → AreRead ds ls → AreRead ds (one_let fs k t ∷ ls)
definitions_behind fs k t ls [] few known = tt
definitions_behind fs k t ls (d ∷ ds) few known =
    let r = known.0 in (
      (r.0, behind_let fs k t ls (definition_name (length ds)) (other_definition k (length ds) (λ same. omega (arith, same, few))) ∙ r.1, r.2),
      definitions_behind fs k t ls ds (omega (arith, few)) known.1,
    )

pub in_let : (scope : List Variable) (d : Definition) (ds : List Definition) (ls : List ReadLocal) (fs : Forms) (t : Term) → sort_of t ≡ sort_of d.term → InScope scope ds ls
    → InScope scope (d ∷ ds) (one_let fs (length ds) t ∷ ls)
in_let scope d ds ls fs t sort known = record {
  theories = known.theories;
  unbound = λ n outer h. behind_let fs (length ds) t ls n (no_definition (length ds) n outer) ∙ known.unbound n outer h;
  bound = λ n x outer h.
      let r = known.bound n x outer h in
      (r.0, behind_let fs (length ds) t ls n (no_definition (length ds) n outer) ∙ r.1, r.2);
  definitions = (
    (t, rw (same_name (definition_name (length ds)) (definition_name (length ds)) refl) refl, sort),
    definitions_behind fs (length ds) t ls ds (omega arith) known.definitions,
  );
}

-- ---- meaning

other_constant : (x y : Variable) → name_eq x.name y.name ≡ false → symbol_eq (constant_of x) (constant_of y) ≡ false
other_constant x y other = rw other refl

pub meant_variable : (g : Signature) (m : Model) (x : Variable) (w : Value) (scope : List Variable) (ds : List Definition) (e : Meaning) (v : Env) → IsUsable g x → MeantScope m scope ds e v
    → MeantScope m (x ∷ scope) [] (with_bound x.name (denoted_as w x.sort) e) (assign x w v)
meant_variable g m x w scope ds e v usable known = record {
  theories = λ n theory. behind_other (name_eq x.name n) x (lookup scope n) (not_theory x.name n usable.free theory) ∙ known.theories n theory;
  unbound = λ n outer h.
      let parts = first_none (name_eq x.name n) x (lookup scope n) h in
      behind_other (name_eq x.name n) (denoted_as w x.sort) (e.bound n) parts.0 ∙ known.unbound n outer parts.1;
  bound = λ n y outer h. elim (here_or_later (name_eq x.name n) x y (lookup scope n) h) [
    | inl here ↦ (
      w,
      at_first (name_eq x.name n) (denoted_as w x.sort) (e.bound n) here.0 ∙ ap (λ z. Some (denoted_as w z.sort)) here.1,
      ap (λ z. assign x w v (constant_of z)) (sym here.1) ∙ at_first (symbol_eq (constant_of x) (constant_of x)) w (v (constant_of x)) ((Decides-symbol_eq (constant_of x) (constant_of x)).1 refl),
    )
    | inr later ↦
        let r = known.bound n y outer later.1 in
        let other : name_eq x.name y.name ≡ false = subst (λ k. name_eq x.name k ≡ false) (sym (lookup_name scope n y later.1)) later.0 in (
          r.0,
          behind_other (name_eq x.name n) (denoted_as w x.sort) (e.bound n) later.0 ∙ r.1,
          behind_other (symbol_eq (constant_of x) (constant_of y)) w (v (constant_of y)) (other_constant x y other) ∙ r.2,
        )
  ];
  free = λ f h.
      let parts = first_none (name_eq x.name f.name) x (lookup scope f.name) h in
      behind_other (symbol_eq (constant_of x) f) w (v f) (rw (parts.0) refl) ∙ known.free f parts.1;
  definitions = tt;
}

pub meant_without : (m : Model) (scope : List Variable) (ds : List Definition) (e : Meaning) (v : Env) → MeantScope m scope ds e v → MeantScope m scope [] e v
meant_without m scope ds e v known = record { theories = known.theories; unbound = known.unbound; bound = known.bound; free = known.free; definitions = tt }

-- ---- meaning below a `let`

behind_bound : (k : ℕ) (d : Denoted) (e : Meaning) (n : Name) → name_eq (definition_name k) n ≡ false → (with_bound (definition_name k) d e).bound n ≡ e.bound n
behind_bound k d e n other = rw other refl

meant_behind : (m : Model) (v : Env) (k : ℕ) (a : Denoted) (e : Meaning) (ds : List Definition) → length ds ≤ k → AreMeant m v ds e → AreMeant m v ds (with_bound (definition_name k) a e)
meant_behind m v k a e [] few known = tt
meant_behind m v k a e (d ∷ ds) few known = (
  behind_bound k a e (definition_name (length ds)) (other_definition k (length ds) (λ same. omega (arith, same, few))) ∙ known.0,
  meant_behind m v k a e ds (omega (arith, few)) known.1,
)

pub meant_let : (m : Model) (scope : List Variable) (d : Definition) (ds : List Definition) (e : Meaning) (v : Env) → MeantScope m scope ds e v
    → MeantScope m scope (d ∷ ds) (with_bound (definition_name (length ds)) (denoted m v d.term) e) v
meant_let m scope d ds e v known = record {
  theories = known.theories;
  unbound = λ n outer h. behind_bound (length ds) (denoted m v d.term) e n (no_definition (length ds) n outer) ∙ known.unbound n outer h;
  bound = λ n x outer h.
      let r = known.bound n x outer h in
      (r.0, behind_bound (length ds) (denoted m v d.term) e n (no_definition (length ds) n outer) ∙ r.1, r.2);
  free = known.free;
  definitions = (
    rw (same_name (definition_name (length ds)) (definition_name (length ds)) refl) refl,
    meant_behind m v (length ds) (denoted m v d.term) e ds (omega arith) known.definitions,
  );
}

pub live_let : (g : Signature) (m : Model) (n : Name) (d : Denoted) (e : Meaning) → LiveMeant g m e → LiveMeant g m (with_bound n d e)
live_let g m n d e known = record { symbols = known.symbols; sorts = known.sorts; theories = known.theories }
