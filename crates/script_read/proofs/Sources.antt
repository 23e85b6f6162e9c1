-- Where the terms of atoms come from, and what heads call.
use Rattle.std.proofs.Common.{◌≡◌, ◌∙◌, ap, refl, ℕ, Bool, true, false, List, [], ◌∷◌, Option, Some, None, Ok}
use Rattle.std.specs.Prelude.{nat_lt, nat_abs, codes, bytes_eq, is_some, if◌then◌else◌}
use Rattle.smt_lex.specs.Names.{Name, is_among as is_among_names, is_theory_name}
use Rattle.smt_lex.specs.Lex.{Token, symbol_of}
use Rattle.smt_lex.specs.Forms.{Form, atom, node, Forms, none, ◌⨾◌}
use Rattle.smt_lex.specs.declared.items.Item.{Item}
use Rattle.smt_lex.specs.declared.items.Item.TheVariants.{Decimal}
use Rattle.smt_terms.specs.declared.op.Op.{Op}
use Rattle.smt_terms.specs.declared.op.Op.TheVariants.{Truth, Whole, Bits}
use Rattle.smt_terms.specs.Connectives.{truth_term}
use Rattle.smt_terms.specs.Rank.{most_bits}
use Rattle.smt_terms.specs.Sorts.{Sort, Symbol}
use Rattle.smt_terms.specs.Term.{op, Term, apply, none as no_terms, constant}
use Rattle.smt_terms.specs.Written.{Written, Indexed, operator_named}
use Rattle.script_terms.specs.declared.causes.Cause.TheVariants.{WrongArity, WidthLimit, BadForm, UnknownName, NumberLimit, RealSort}
use Rattle.script_terms.specs.Heads.{real_names, theory_symbol, constant_or_refused, live_symbol, symbol_term, token_constant, other_atom, name_or_other, atom_by, atom_term, Callee, written, array_of_sort, called, defined, operandless, theory_head, live_head, named_head, indexed_head, filling_head, list_head, atom_head, callee_of}
use Rattle.script_terms.specs.Parts.{symbol_in, word_in, is_name, numerals_in, constant_by, greatest_number}
use Rattle.script_terms.specs.Reading.{ReadLocal, ReadBinding, Entry, symbol_entry, definition_entry, term_entry, entry_of, bound_as, live_sorts}
use Rattle.script_terms.specs.Refusals.{at, mapped}
use Rattle.script_terms.specs.SortForms.{sort_in}
use Rattle.script_read.proofs.Calling.{theory_called}
use Rattle.script_terms.proofs.Outcomes.{mapped_ok, ok_same}
use Rattle.script_terms.proofs.SortFacts.{unless_passed}

-- ---- atoms

-- the term of a live name that stands alone
abbrev pub entry_alone : Entry → Option Term
entry_alone (symbol_entry f) = Some (constant f)
entry_alone (definition_entry [] t) = Some t
entry_alone (definition_entry (x ∷ xs) t) = None
entry_alone (term_entry t) = Some t

pub data AtomSource (ls : List ReadLocal) (live : List ReadBinding) (r : Term) : Type 0 where
  of_constant : (o : Op) → apply (op o) no_terms ≡ r → AtomSource ls live r
  of_local : (n : Name) → bound_as ls n ≡ Some r → AtomSource ls live r
  of_entry : (n : Name) (x : Entry) → entry_of live n ≡ Some x → entry_alone x ≡ Some r → AtomSource ls live r

module _ (ls : List ReadLocal) (live : List ReadBinding) where
  token_source : (place : ℕ) (o : Op) (r : Term) → token_constant place o ≡ Ok r → AtomSource ls live r
  token_source place (Whole n) r h =
      of_constant (Whole n) (ok_same (apply (op (Whole n)) no_terms) r (Ok (apply (op (Whole n)) no_terms)) refl (unless_passed (nat_lt greatest_number (nat_abs n)) NumberLimit place (Ok (apply (op (Whole n)) no_terms)) r h).1)
  token_source place (Bits w n) r h =
      of_constant (Bits w n) (ok_same (apply (op (Bits w n)) no_terms) r (Ok (apply (op (Bits w n)) no_terms)) refl (unless_passed (nat_lt most_bits w) WidthLimit place (Ok (apply (op (Bits w n)) no_terms)) r h).1)
  token_source place _ r h = absurd cc

  theory_source : (place : ℕ) (n : Name) (r : Term) → theory_symbol place n ≡ Ok r → AtomSource ls live r
  theory_source place n r h = go (bytes_eq n (codes "true")) (bytes_eq n (codes "false")) (is_among_names real_names n) (is_theory_name n) h
    where
      go : (a b c d : Bool) → (if a then Ok (truth_term true) else (if b then Ok (truth_term false) else (if c then at RealSort place else (if d then at WrongArity place else at UnknownName place)))) ≡ Ok r → AtomSource ls live r
      go true b c d k = of_constant (Truth true) (ok_same (truth_term true) r (Ok (truth_term true)) refl k)
      go false true c d k = of_constant (Truth false) (ok_same (truth_term false) r (Ok (truth_term false)) refl k)
      go false false true d k = absurd cc
      go false false false true k = absurd cc
      go false false false false k = absurd cc

  symbol_source : (place : ℕ) (n : Name) (f : Symbol) (args : List Sort) (r : Term) → entry_of live n ≡ Some (symbol_entry f) → constant_or_refused place f args ≡ Ok r → AtomSource ls live r
  symbol_source place n f [] r entry h = of_entry n (symbol_entry f) entry (ap Some (ok_same (constant f) r (Ok (constant f)) refl h))
  symbol_source place n f (a ∷ args) r entry h = absurd cc

  live_source : (place : ℕ) (n : Name) (o : Option Entry) (r : Term) → entry_of live n ≡ o → live_symbol place n o ≡ Ok r → AtomSource ls live r
  live_source place n (Some (symbol_entry f)) r entry h = symbol_source place n f f.args r entry h
  live_source place n (Some (definition_entry [] t)) r entry h = of_entry n (definition_entry [] t) entry (ap Some (ok_same t r (Ok t) refl h))
  live_source place n (Some (definition_entry (x ∷ xs) t)) r entry h = absurd cc
  live_source place n (Some (term_entry t)) r entry h = of_entry n (term_entry t) entry (ap Some (ok_same t r (Ok t) refl h))
  live_source place n None r entry h = theory_source place n r h

  name_source : (place : ℕ) (n : Name) (o : Option Term) (r : Term) → bound_as ls n ≡ o → symbol_term place n o (entry_of live n) ≡ Ok r → AtomSource ls live r
  name_source place n (Some t) r bound h = of_local n (bound ∙ ap Some (ok_same t r (Ok t) refl h))
  name_source place n None r bound h = live_source place n (entry_of live n) r refl h

  other_refused : (place : ℕ) (i : Item) (r : Term) → other_atom place i ≡ Ok r → ⊥
  other_refused place Decimal r h = absurd cc
  other_refused place _ r h = absurd cc

  named_source : (t : Token) (o : Option Name) (r : Term) → name_or_other ls live t o ≡ Ok r → AtomSource ls live r
  named_source t (Some n) r h = name_source t.start n (bound_as ls n) r refl h
  named_source t None r h = absurd (other_refused t.start t.item r h)

  constant_source : (t : Token) (o : Option Op) (r : Term) → atom_by ls live t o ≡ Ok r → AtomSource ls live r
  constant_source t (Some o) r h = token_source t.start o r h
  constant_source t None r h = named_source t (symbol_of t) r h

  pub atom_source : (t : Token) (r : Term) → atom_term ls t live ≡ Ok r → AtomSource ls live r
  atom_source t r h = constant_source t (constant_by t.item t.text) r h

-- ---- heads

-- what a live name calls at a head
abbrev pub entry_called : Entry → Callee
entry_called (symbol_entry f) = called f
entry_called (definition_entry xs t) = defined xs t
entry_called (term_entry t) = operandless

pub data CalleeSource (live : List ReadBinding) (c : Callee) : Type 0 where
  of_operator : (w : Written) → written w ≡ c → CalleeSource live c
  of_sort_form : (g : Form) (to : Sort) → sort_in (live_sorts live) g ≡ Ok to → array_of_sort to ≡ c → CalleeSource live c
  of_nothing : operandless ≡ c → CalleeSource live c
  of_live : (n : Name) (x : Entry) → entry_of live n ≡ Some x → entry_called x ≡ c → CalleeSource live c

module _ (ls : List ReadLocal) (live : List ReadBinding) where
  theory_head_source : (place : ℕ) (n : Name) (gs : Forms) (indices : List ℕ) (o : Option Indexed) (c : Callee) → theory_head place n gs indices o ≡ Ok c → CalleeSource live c
  theory_head_source place n gs indices (Some x) c h = let found = (theory_called place n gs indices (Some x) c h).1 x refl in of_operator found.0 found.2
  theory_head_source place n gs indices None c h = of_nothing ((theory_called place n gs indices None c h).0 refl)

  live_head_source : (place : ℕ) (n : Name) (gs : Forms) (is : List ℕ) (o : Option Entry) (c : Callee) → entry_of live n ≡ o → live_head place n gs is o ≡ Ok c → CalleeSource live c
  live_head_source place n gs is None c entry h = theory_head_source place n gs is (operator_named n) c h
  live_head_source place n gs [] (Some (symbol_entry f)) c entry h = of_live n (symbol_entry f) entry (ok_same (called f) c (Ok (called f)) refl h)
  live_head_source place n gs [] (Some (definition_entry xs t)) c entry h = of_live n (definition_entry xs t) entry (ok_same (defined xs t) c (Ok (defined xs t)) refl h)
  live_head_source place n gs [] (Some (term_entry t)) c entry h = of_live n (term_entry t) entry (ok_same operandless c (Ok operandless) refl h)
  live_head_source place n gs (i ∷ is) (Some (symbol_entry f)) c entry h = absurd cc
  live_head_source place n gs (i ∷ is) (Some (definition_entry xs t)) c entry h = absurd cc
  live_head_source place n gs (i ∷ is) (Some (term_entry t)) c entry h = absurd cc

  named_head_source : (place : ℕ) (n : Name) (gs : Forms) (is : List ℕ) (c : Callee) → named_head ls live place n gs is ≡ Ok c → CalleeSource live c
  named_head_source place n gs is c h = live_head_source place n gs is (entry_of live n) c refl (unless_passed (is_some (bound_as ls n)) UnknownName place (live_head place n gs is (entry_of live n)) c h).1

  atom_head_source : (place : ℕ) (o : Option Name) (c : Callee) → atom_head ls live place o ≡ Ok c → CalleeSource live c
  atom_head_source place None c h = absurd cc
  atom_head_source place (Some n) c h = named_head_source place n none [] c h

  indexed_head_source : (place : ℕ) (gs : Forms) (o : Option Name) (is : Option (List ℕ)) (c : Callee) → indexed_head ls live place gs o is ≡ Ok c → CalleeSource live c
  indexed_head_source place gs (Some n) (Some (i ∷ is)) c h = named_head_source place n gs (i ∷ is) c h
  indexed_head_source place gs (Some n) (Some []) c h = absurd cc
  indexed_head_source place gs (Some n) None c h = absurd cc
  indexed_head_source place gs None is c h = absurd cc

  filling_head_source : (place : ℕ) (gs : Forms) (c : Callee) → filling_head live place gs ≡ Ok c → CalleeSource live c
  filling_head_source place (f ⨾ g ⨾ none) c h = go (is_name (codes "const") (symbol_in f)) h
    where
      go : (b : Bool) → (if b then mapped array_of_sort (sort_in (live_sorts live) g) else at BadForm place) ≡ Ok c → CalleeSource live c
      go true e = let found = mapped_ok array_of_sort (sort_in (live_sorts live) g) c e in of_sort_form g found.0 found.1 found.2
      go false e = absurd cc
  filling_head_source place _ c h = absurd cc

  list_head_source : (place : ℕ) (w : Option Name) (gs : Forms) (c : Callee) → list_head ls live place w gs ≡ Ok c → CalleeSource live c
  list_head_source place None gs c h = absurd cc
  list_head_source place (Some w) none c h = absurd cc
  list_head_source place (Some w) (f ⨾ gs) c h = go (bytes_eq w (codes "_")) (bytes_eq w (codes "as")) h
    where
      go : (a b : Bool) → (if a then indexed_head ls live place gs (symbol_in f) (numerals_in gs) else (if b then filling_head live place (f ⨾ gs) else at BadForm place)) ≡ Ok c → CalleeSource live c
      go true b k = indexed_head_source place gs (symbol_in f) (numerals_in gs) c k
      go false true k = filling_head_source place (f ⨾ gs) c k
      go false false k = absurd cc

  pub callee_source : (f : Form) (c : Callee) → callee_of ls f live ≡ Ok c → CalleeSource live c
  callee_source (atom t) c h = atom_head_source t.start (symbol_of t) c h
  callee_source (node place none) c h = absurd cc
  callee_source (node place (f ⨾ gs)) c h = list_head_source place (word_in f) gs c h
