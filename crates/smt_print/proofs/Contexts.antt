-- Where a printed term stands: what is live there, which variables are quantified around it and which definitions stand
-- above it; and what reading and meaning know of all these.
use Rattle.std.proofs.Common.{◌≡◌, ℕ, inl, inr, true, false, cond, Option, Some, None, List, [], ◌∷◌, ◌++◌, length, refl, ap, sym, subst, ◌∙◌}
use Rattle.std.specs.Prelude.{codes}
use Rattle.smt_lex.specs.Names.{Name, is_among, is_internal, is_theory_name}
use Rattle.smt_lex.specs.Lex.{symbol_of}
use Rattle.smt_lex.specs.Forms.{Form, atom, node, Forms, none, ◌⨾◌}
use Rattle.smt_terms.specs.Equal.{name_eq}
use Rattle.smt_terms.specs.Free.{is_among as is_among_symbols, name_among}
use Rattle.smt_terms.specs.Models.{Model}
use Rattle.smt_terms.specs.Numeral.{numeral}
use Rattle.smt_terms.specs.Rank.{sort_of}
use Rattle.smt_terms.specs.Sorts.{Sort, free_sort, Symbol, Variable}
use Rattle.smt_terms.specs.Term.{Term, constant_of}
use Rattle.smt_terms.specs.Val.{Env}
use Rattle.smt_terms.specs.Values.{Value}
use Rattle.smt_terms.proofs.Equal.{Decides-name_eq}
use Rattle.smt_terms.proofs.Numeral.{numeral-injective}
use Rattle.smt_terms.proofs.Tests.{true_or_false}
use Rattle.script_read.specs.Commands.{Signature}
use Rattle.script_read.specs.Laws.{denoted}
use Rattle.script_read.specs.Mean.{Meaning, over_symbol, denoted_as}
use Rattle.script_terms.specs.Reading.{ReadLocal, ReadBinding, symbol_entry, entry_of, bound_as, live_sorts}
use Rattle.script_terms.specs.Scope.{or_later}
use Rattle.smt_print.specs.TermForms.{Definition, definition_name}

-- ---- quantified variables, the innermost first

abbrev pub lookup : List Variable → Name → Option Variable
lookup [] n = None
lookup (x ∷ xs) n = or_later (name_eq x.name n) x (lookup xs n)

-- the variables of a quantifier come in front, the last of them first
abbrev pub pushed : List Variable → List Variable → List Variable
pushed [] scope = scope
pushed (x ∷ xs) scope = pushed xs (x ∷ scope)

-- a form in front of others
abbrev pub first_form : Form → Forms → Forms
first_form f fs = f ⨾ fs

-- ---- names in forms

abbrev pub IsTaken : List Name → Option Name → Type 0
IsTaken taken None = Unit {0}
IsTaken taken (Some n) = name_among taken n ≡ true

abbrev mutual
  -- each symbol of the form is one of these names
  pub AllTaken : List Name → Form → Type 0
  AllTaken taken (atom t) = IsTaken taken (symbol_of t)
  AllTaken taken (node place fs) = EachTaken taken fs

  pub EachTaken : List Name → Forms → Type 0
  EachTaken taken none = Unit {0}
  EachTaken taken (f ⨾ fs) = AllTaken taken f × EachTaken taken fs

-- ---- what is known while reading

-- of the live bindings
pub record LiveRead (g : Signature) (bs : List ReadBinding) : Type 0 where
  pub symbols : (f : Symbol) → is_among_symbols g.symbols f ≡ true → entry_of bs f.name ≡ Some (symbol_entry f)
  pub sorts : (n : Name) → is_among g.sorts n ≡ true → live_sorts bs n ≡ Some (free_sort n)
  pub theories : (n : Name) → is_theory_name n ≡ true → entry_of bs n ≡ None

-- a name is read as a term of this sort
abbrev pub IsReadAs : List ReadLocal → Name → Option Sort → Type 0
IsReadAs ls n s = (t : Term) × (bound_as ls n ≡ Some t) × (sort_of t ≡ s)

-- the names of the definitions are read as terms of their sorts
abbrev pub AreRead : List Definition → List ReadLocal → Type 0
AreRead [] ls = Unit {0}
AreRead (d ∷ ds) ls = IsReadAs ls (definition_name (length ds)) (sort_of d.term) × AreRead ds ls

-- of what is bound locally
pub record InScope (scope : List Variable) (ds : List Definition) (ls : List ReadLocal) : Type 0 where
  pub theories : (n : Name) → is_theory_name n ≡ true → lookup scope n ≡ None
  pub unbound : (n : Name) → is_internal n ≡ false → lookup scope n ≡ None → bound_as ls n ≡ None
  pub bound : (n : Name) (x : Variable) → is_internal n ≡ false → lookup scope n ≡ Some x → IsReadAs ls n (Some x.sort)
  pub definitions : AreRead ds ls

-- ---- what is known of meanings

pub record LiveMeant (g : Signature) (m : Model) (e : Meaning) : Type 0 where
  pub symbols : (f : Symbol) → is_among_symbols g.symbols f ≡ true → e.live f.name ≡ Some (over_symbol m f)
  pub sorts : (n : Name) → is_among g.sorts n ≡ true → e.sorts n ≡ Some (free_sort n)
  pub theories : (n : Name) → is_theory_name n ≡ true → e.live n ≡ None

abbrev pub AreMeant : Model → Env → List Definition → Meaning → Type 0
AreMeant m v [] e = Unit {0}
AreMeant m v (d ∷ ds) e = (e.bound (definition_name (length ds)) ≡ Some (denoted m v d.term)) × AreMeant m v ds e

-- a name means what the variable's constant is
abbrev pub IsMeantAs : Meaning → Env → Name → Variable → Type 0
IsMeantAs e v n x = (w : Value) × (e.bound n ≡ Some (denoted_as w x.sort)) × (v (constant_of x) ≡ Some w)

pub record MeantScope (m : Model) (scope : List Variable) (ds : List Definition) (e : Meaning) (v : Env) : Type 0 where
  pub theories : (n : Name) → is_theory_name n ≡ true → lookup scope n ≡ None
  pub unbound : (n : Name) → is_internal n ≡ false → lookup scope n ≡ None → e.bound n ≡ None
  pub bound : (n : Name) (x : Variable) → is_internal n ≡ false → lookup scope n ≡ Some x → IsMeantAs e v n x
  pub free : (f : Symbol) → lookup scope f.name ≡ None → v f ≡ None
  pub definitions : AreMeant m v ds e

-- ---- names

pub other_name : (m n : Name) → (m ≡ n → ⊥) → name_eq m n ≡ false
other_name m n differ = elim (true_or_false (name_eq m n)) [ inl same ↦ absurd (differ ((Decides-name_eq m n).0 same)) | inr other ↦ other ]

pub same_name : (m n : Name) → m ≡ n → name_eq m n ≡ true
same_name m n same = (Decides-name_eq m n).1 same

pub definition_internal : (k : ℕ) → is_internal (definition_name k) ≡ true
definition_internal k = refl

pub no_definition : (k : ℕ) (n : Name) → is_internal n ≡ false → name_eq (definition_name k) n ≡ false
no_definition k n outer = other_name (definition_name k) n (λ same. absurd (let inner : is_internal n ≡ true = subst (λ m. is_internal m ≡ true) same (definition_internal k) in cc))

cut_prefix : (xs ys : List ℕ) → codes ".def_" ++ xs ≡ codes ".def_" ++ ys → xs ≡ ys
cut_prefix xs ys h = cc

pub other_definition : (j k : ℕ) → (j ≡ k → ⊥) → name_eq (definition_name j) (definition_name k) ≡ false
other_definition j k differ = other_name (definition_name j) (definition_name k) (λ same. differ (numeral-injective j k (cut_prefix (numeral j) (numeral k) same)))

-- the variable of a name has it
pub lookup_name : (scope : List Variable) (n : Name) (x : Variable) → lookup scope n ≡ Some x → x.name ≡ n
lookup_name [] n x h = absurd (cc)
lookup_name (y ∷ ys) n x h = elim (true_or_false (name_eq y.name n)) [
  | inl here ↦
      let first : Some y ≡ Some x = sym (ap (λ b. cond b (Some y) (lookup ys n)) here) ∙ h in
      let same : y ≡ x = cc in
      ap (λ z. z.name) (sym same) ∙ (Decides-name_eq y.name n).0 here
  | inr behind ↦ lookup_name ys n x (sym (ap (λ b. cond b (Some y) (lookup ys n)) behind) ∙ h)
]
