-- What atoms and heads of applications are read as means what they mean, where the reader agrees with the meaning.
use Rattle.std.proofs.Common.{◌≡◌, ◌∙◌, sym, ap, subst, refl, ℕ, Bool, true, false, cond, List, [], ◌∷◌, Option, Some, None, Result, Ok}
use Rattle.std.specs.Prelude.{⊤, option_map, option_and_then, unwrap_or, codes, bytes_eq, nat_lt, nat_abs, is_some, if◌then◌else◌}
use Rattle.smt_lex.specs.Names.{Name, is_among as is_among_names, is_theory_name, is_bit_vector_constant}
use Rattle.smt_lex.specs.Lex.{Token, symbol_of}
use Rattle.smt_lex.specs.Forms.{Form, atom, node, Forms, none, ◌⨾◌}
use Rattle.smt_lex.specs.declared.items.Item.{Item}
use Rattle.smt_lex.specs.declared.items.Item.TheVariants.{Decimal}
use Rattle.smt_terms.specs.declared.op.Op.{Op}
use Rattle.smt_terms.specs.declared.op.Op.TheVariants.{Truth, Whole, Bits}
use Rattle.smt_terms.specs.Connectives.{truth_term}
use Rattle.smt_terms.specs.Fresh.{Supply, NeverGives}
use Rattle.smt_terms.specs.Models.{Model, symbol_value}
use Rattle.smt_terms.specs.Rank.{most_bits, sort_of}
use Rattle.smt_terms.specs.Sorts.{Sort, Symbol}
use Rattle.smt_terms.specs.SubstLaws.{names_within, GivesNone}
use Rattle.smt_terms.specs.Term.{op, Term, apply, none as no_terms, constant}
use Rattle.smt_terms.specs.Val.{Env}
use Rattle.smt_terms.specs.Written.{Written, Indexed, operator_named, at_indices, written_named, build}
use Rattle.smt_terms.proofs.Equal.{name_same}
use Rattle.script_terms.specs.declared.causes.Cause.TheVariants.{WrongArity, WidthLimit, BadForm, UnknownName, NumberLimit, RealSort}
use Rattle.script_terms.specs.Heads.{real_names, theory_symbol, constant_or_refused, live_symbol, symbol_term, token_constant, other_atom, name_or_other, atom_by, atom_term, Callee, written, array_of_sort, called, defined, operandless, indices_within, written_at, takes_no_index, constant_head, theory_head, live_head, indexed_head, filling_head, list_head, atom_head, callee_of}
use Rattle.script_read.specs.Laws.{denoted}
use Rattle.script_read.specs.Mean.{Denoted, Meaning, over_op, over_symbol, over_array, value_algebra, over_written, denoted_or, truth_of, over_constant, live_or, symbol_means, symbol_or_nothing, token_means, array_of, named_means, list_head_means, symbol_head_means, head_means, mean}
use Rattle.script_terms.specs.Parts.{place_of, symbol_in, word_in, is_name, numeral_in, numerals_in, constant_by, greatest_number}
use Rattle.script_terms.specs.Reading.{ReadLocal, ReadBinding, Sofar, live_sorts, Entry, symbol_entry, definition_entry, term_entry, entry_of, bound_as}
use Rattle.script_terms.specs.Refusals.{Refused, at, mapped}
use Rattle.script_terms.specs.SortForms.{sort_in}
use Rattle.script_read.proofs.Fitting.{Unassigned, Given, EntryMeans, Agrees, EntrySound, LocalsSound, Sound}
use Rattle.script_terms.proofs.NameFacts.{operator_reserved, true_reserved, false_reserved, spared_first, spared_none}
use Rattle.script_terms.proofs.Outcomes.{mapped_ok, ok_same}
use Rattle.script_terms.proofs.SortFacts.{unless_passed}

-- ---- atoms

-- a term that means what something means wherever the reader agrees, and of whose names the supply gives none
pub record AtomRead (fs : List Symbol) (bs : List ReadBinding) (ls : List ReadLocal) (s : Supply) (means_at : Meaning → Model → Denoted) (r : Term) : Type 0 where
  pub means : (m : Model) (E : Meaning) (e : Env) → Agrees m fs bs ls e E → means_at E m ≡ denoted m e r
  pub spared : GivesNone s (names_within r)

-- a local name
bound_now : (m : Model) (fs : List Symbol) (bs : List ReadBinding) (ls : List ReadLocal) (e : Env) (E : Meaning) (n : Name) (o : Option Term) → Agrees m fs bs ls e E → bound_as ls n ≡ o → E.bound n ≡ option_map (denoted m e) o
bound_now m fs bs ls e E n o a h = a.bound e (λ g among. refl) a.own n ∙ ap (option_map (denoted m e)) h

module _ (ns : List Name) (fs : List Symbol) (ls : List ReadLocal) (s : Sofar) (sound : Sound ns fs s) (locals : LocalsSound ns fs s.supply ls) where
  abbrev Atom : (Meaning → Model → Denoted) → Term → Type 0
  Atom means_at r = AtomRead fs s.live ls s.supply means_at r

  atom_same : (means_at : Meaning → Model → Denoted) (t r : Term) (a : Result Term Refused) → a ≡ Ok t → a ≡ Ok r → Atom means_at t → Atom means_at r
  atom_same means_at t r a h k read = subst (λ u. Atom means_at u) (ok_same t r a h k) read

  constant_read : (o : Op) → Atom (λ E m. over_op m o []) (apply (op o) no_terms)
  constant_read o = record { means = λ m E e a. refl; spared = spared_none s.supply }

  token_read : (place : ℕ) (o : Op) (r : Term) → token_constant place o ≡ Ok r → Atom (λ E m. over_op m o []) r
  token_read place (Whole n) r h =
      let (fits, given) = unless_passed (nat_lt greatest_number (nat_abs n)) NumberLimit place (Ok (apply (op (Whole n)) no_terms)) r h in
      atom_same (λ E m. over_op m (Whole n) []) (apply (op (Whole n)) no_terms) r (Ok (apply (op (Whole n)) no_terms)) refl given (constant_read (Whole n))
  token_read place (Bits w n) r h =
      let (fits, given) = unless_passed (nat_lt most_bits w) WidthLimit place (Ok (apply (op (Bits w n)) no_terms)) r h in
      atom_same (λ E m. over_op m (Bits w n) []) (apply (op (Bits w n)) no_terms) r (Ok (apply (op (Bits w n)) no_terms)) refl given (constant_read (Bits w n))
  token_read place _ r h = absurd cc

  -- what a name means that isn't bound locally
  abbrev alone : Name → Meaning → Model → Denoted
  alone n E m = live_or (E.live n) [] (over_constant m (truth_of n))

  live_alone : (n : Name) (x : Entry) (r : Term) → entry_of s.live n ≡ Some x → ((m : Model) (e : Env) → Unassigned fs e → (F : List Denoted → Denoted) → EntryMeans m fs x F → F [] ≡ denoted m e r) → GivesNone s.supply (names_within r) → Atom (alone n) r
  live_alone n x r entry means spared = record {
    means = λ m E e a.
        let found = a.live.entries n x entry in
        ap (λ o. live_or o [] (over_constant m (truth_of n))) found.1 ∙ means m e a.own found.0 found.2;
    spared = spared;
  }

  symbol_alone : (place : ℕ) (n : Name) (f : Symbol) (args : List Sort) (r : Term) → entry_of s.live n ≡ Some (symbol_entry f) → constant_or_refused place f args ≡ Ok r → Atom (alone n) r
  symbol_alone place n f [] r entry h =
      atom_same (alone n) (constant f) r (Ok (constant f)) refl h
      (live_alone n (symbol_entry f) (constant f) entry
      (λ m e own F means. means.1 [] ∙ ap (λ o. (unwrap_or o (symbol_value m f []), sort_of (constant f))) (sym (own f means.0)))
      (spared_first s.supply f.name [] (sound.entries n (symbol_entry f) entry).0 (spared_none s.supply)))
  symbol_alone place n f (a ∷ args) r entry h = absurd cc

  theory_alone : (n : Name) (b : Bool) (r : Term) → is_theory_name n ≡ true → truth_of n ≡ Some (Truth b) → Atom (alone n) (truth_term b)
  theory_alone n b r theory is = record {
    means = λ m E e a. ap (λ o. live_or o [] (over_constant m (truth_of n))) (a.live.theories n theory) ∙ ap (over_constant m) is;
    spared = spared_none s.supply;
  }

  theory_read : (place : ℕ) (n : Name) (r : Term) → theory_symbol place n ≡ Ok r → Atom (alone n) r
  theory_read place n r h = go (bytes_eq n (codes "true")) refl (bytes_eq n (codes "false")) refl (is_among_names real_names n) (is_theory_name n) h
    where
      go : (a : Bool) → bytes_eq n (codes "true") ≡ a → (b : Bool) → bytes_eq n (codes "false") ≡ b → (c d : Bool) → (if a then Ok (truth_term true) else (if b then Ok (truth_term false) else (if c then at RealSort place else (if d then at WrongArity place else at UnknownName place)))) ≡ Ok r → Atom (alone n) r
      go true ea b eb c d k =
          let name : n ≡ codes "true" = name_same n (codes "true") ea in
          atom_same (alone n) (truth_term true) r (Ok (truth_term true)) refl k (theory_alone n true r (ap is_theory_name name ∙ true_reserved) (ap truth_of name))
      go false ea true eb c d k =
          let name : n ≡ codes "false" = name_same n (codes "false") eb in
          atom_same (alone n) (truth_term false) r (Ok (truth_term false)) refl k (theory_alone n false r (ap is_theory_name name ∙ false_reserved) (ap truth_of name))
      go false ea false eb true d k = absurd cc
      go false ea false eb false true k = absurd cc
      go false ea false eb false false k = absurd cc

  alone_read : (place : ℕ) (n : Name) (o : Option Entry) (r : Term) → entry_of s.live n ≡ o → live_symbol place n o ≡ Ok r → Atom (alone n) r
  alone_read place n (Some (symbol_entry f)) r entry h = symbol_alone place n f f.args r entry h
  alone_read place n (Some (definition_entry [] t)) r entry h =
      atom_same (alone n) t r (Ok t) refl h
      (live_alone n (definition_entry [] t) t entry (λ m e own F means. means [] e own tt) (sound.entries n (definition_entry [] t) entry).0.0)
  alone_read place n (Some (definition_entry (x ∷ xs) t)) r entry h = absurd cc
  alone_read place n (Some (term_entry t)) r entry h =
      atom_same (alone n) t r (Ok t) refl h (live_alone n (term_entry t) t entry (λ m e own F means. means e own) (sound.entries n (term_entry t) entry).0)
  alone_read place n None r entry h = theory_read place n r h

  symbol_read : (place : ℕ) (n : Name) (o : Option Term) (r : Term) → bound_as ls n ≡ o → symbol_term place n o (entry_of s.live n) ≡ Ok r → Atom (λ E m. symbol_means E m n) r
  symbol_read place n (Some t) r bound h =
      atom_same (λ E m. symbol_means E m n) t r (Ok t) refl h (record {
        means = λ m E e a. ap (λ d. denoted_or d (alone n E m)) (bound_now m fs s.live ls e E n (Some t) a bound);
        spared = locals.terms n t bound;
      })
  symbol_read place n None r bound h =
      let read : Atom (alone n) r = alone_read place n (entry_of s.live n) r refl h in
      record {
        means = λ m E e a. ap (λ d. denoted_or d (alone n E m)) (bound_now m fs s.live ls e E n None a bound) ∙ read.means m E e a;
        spared = read.spared;
      }

  other_refused : (place : ℕ) (i : Item) (r : Term) → other_atom place i ≡ Ok r → ⊥
  other_refused place Decimal r h = absurd cc
  other_refused place _ r h = absurd cc

  name_read : (t : Token) (o : Option Name) (r : Term) → name_or_other ls s.live t o ≡ Ok r → Atom (λ E m. symbol_or_nothing E m o) r
  name_read t (Some n) r h = symbol_read t.start n (bound_as ls n) r refl h
  name_read t None r h = absurd (other_refused t.start t.item r h)

  atom_by_read : (t : Token) (o : Option Op) (r : Term) → atom_by ls s.live t o ≡ Ok r → Atom (λ E m. token_means E m t o) r
  atom_by_read t (Some o) r h = token_read t.start o r h
  atom_by_read t None r h = name_read t (symbol_of t) r h

  pub atom_read : (t : Token) (r : Term) → atom_term ls t s.live ≡ Ok r → AtomRead fs s.live ls s.supply (λ E m. mean (atom t) E m) r
  atom_read t r h = atom_by_read t (constant_by t.item t.text) r h

-- ---- heads

-- what a head calls is a function of what its operands denote
abbrev pub CalleeMeans : Model → List Symbol → Callee → (List Denoted → Denoted) → Type 0
CalleeMeans m fs (written w) F = (ds : List Denoted) → F ds ≡ build (value_algebra m) w ds
CalleeMeans m fs (array_of_sort s) F = (ds : List Denoted) → F ds ≡ over_array s ds
CalleeMeans m fs (called f) F = (ds : List Denoted) → F ds ≡ over_symbol m f ds
CalleeMeans m fs (defined xs t) F = (ds : List Denoted) (d : Env) → Unassigned fs d → Given 0 xs ds d → F ds ≡ denoted m d t
CalleeMeans m fs operandless F = ⊤

abbrev pub CalleeSound : Supply → Callee → Type 0
CalleeSound s (called f) = NeverGives s f.name
CalleeSound s (defined xs t) = EntrySound s (definition_entry xs t)
CalleeSound s _ = ⊤

pub record CalleeRead (fs : List Symbol) (bs : List ReadBinding) (ls : List ReadLocal) (s : Supply) (F : Meaning → Model → List Denoted → Denoted) (c : Callee) : Type 0 where
  pub means : (m : Model) (E : Meaning) (e : Env) → Agrees m fs bs ls e E → CalleeMeans m fs c (F E m)
  pub sound : CalleeSound s c

-- the same function, said otherwise
callee_moved : (m : Model) (fs : List Symbol) (c : Callee) (F G : List Denoted → Denoted) → ((ds : List Denoted) → G ds ≡ F ds) → CalleeMeans m fs c F → CalleeMeans m fs c G
callee_moved m fs (written w) F G same means = λ ds. same ds ∙ means ds
callee_moved m fs (array_of_sort s) F G same means = λ ds. same ds ∙ means ds
callee_moved m fs (called f) F G same means = λ ds. same ds ∙ means ds
callee_moved m fs (defined xs t) F G same means = λ ds d own given. same ds ∙ means ds d own given
callee_moved m fs operandless F G same means = tt

indices_same : (fs : Forms) (c d : Callee) → indices_within fs c ≡ Ok d → c ≡ d
indices_same none c d h = ok_same c d (Ok c) refl h
indices_same (f ⨾ fs) c d h =
    let (few, next) = unless_passed (nat_lt greatest_number (unwrap_or (numeral_in f) 0)) NumberLimit (place_of f) (indices_within fs c) d h in
    indices_same fs c d next

written_theory : (place : ℕ) (gs : Forms) (o : Option Written) (c : Callee) → written_at place gs o ≡ Ok c → (w : Written) × (o ≡ Some w) × (written w ≡ c)
written_theory place gs None c h = absurd cc
written_theory place gs (Some w) c h = (w, refl, indices_same gs (written w) c h)

constant_theory : (place : ℕ) (n : Name) (gs : Forms) (is : List ℕ) (c : Callee) → constant_head place n gs is ≡ Ok c → operandless ≡ c
constant_theory place n gs [] c h = go (takes_no_index n) h
  where
    go : (b : Bool) → (if b then Ok operandless else at BadForm place) ≡ Ok c → operandless ≡ c
    go true e = ok_same operandless c (Ok operandless) refl e
    go false e = absurd cc
constant_theory place n gs (i ∷ []) c h = go (is_bit_vector_constant n) h
  where
    go : (b : Bool) → (if b then indices_within gs operandless else at BadForm place) ≡ Ok c → operandless ≡ c
    go true e = indices_same gs operandless c e
    go false e = absurd cc
constant_theory place n gs (i ∷ j ∷ is) c h = absurd cc

pub theory_called : (place : ℕ) (n : Name) (gs : Forms) (indices : List ℕ) (o : Option Indexed) (c : Callee) → theory_head place n gs indices o ≡ Ok c → (o ≡ None → operandless ≡ c) × ((x : Indexed) → o ≡ Some x → (w : Written) × (at_indices x indices ≡ Some w) × (written w ≡ c))
theory_called place n gs indices (Some o) c h =
    (λ e. absurd cc, λ x e. let found = written_theory place gs (at_indices o indices) c h in let same : o ≡ x = cc in (found.0, ap (λ y. at_indices y indices) (sym same) ∙ found.1, found.2))
theory_called place n gs indices None c h = (λ e. go (is_among_names real_names n) (is_theory_name n) h, λ x e. absurd cc)
  where
    go : (a b : Bool) → (if a then at RealSort place else (if b then constant_head place n gs indices else at UnknownName place)) ≡ Ok c → operandless ≡ c
    go true b e = absurd cc
    go false true e = constant_theory place n gs indices c e
    go false false e = absurd cc

-- a name of the theories at indices
theory_means : (m : Model) (fs : List Symbol) (place : ℕ) (n : Name) (gs : Forms) (indices : List ℕ) (o : Option Indexed) (c : Callee) → theory_head place n gs indices o ≡ Ok c → CalleeMeans m fs c (over_written m (option_and_then (λ x. at_indices x indices) o))
theory_means m fs place n gs indices (Some x) c h =
    let found = (theory_called place n gs indices (Some x) c h).1 x refl in
    subst (λ k. CalleeMeans m fs k (over_written m (at_indices x indices))) found.2 (λ ds. ap (λ w. over_written m w ds) found.1)
theory_means m fs place n gs indices None c h =
    subst (λ k. CalleeMeans m fs k (over_written m None)) ((theory_called place n gs indices None c h).0 refl) tt

theory_sound : (s : Supply) (place : ℕ) (n : Name) (gs : Forms) (indices : List ℕ) (o : Option Indexed) (c : Callee) → theory_head place n gs indices o ≡ Ok c → CalleeSound s c
theory_sound s place n gs indices (Some x) c h =
    let found = (theory_called place n gs indices (Some x) c h).1 x refl in subst (CalleeSound s) found.2 tt
theory_sound s place n gs indices None c h = subst (CalleeSound s) ((theory_called place n gs indices None c h).0 refl) tt

module _ (ns : List Name) (fs : List Symbol) (ls : List ReadLocal) (s : Sofar) (sound : Sound ns fs s) where
  abbrev Called : (Meaning → Model → List Denoted → Denoted) → Callee → Type 0
  Called F c = CalleeRead fs s.live ls s.supply F c

  callee_same : (F : Meaning → Model → List Denoted → Denoted) (c d : Callee) → c ≡ d → Called F c → Called F d
  callee_same F c d h read = subst (λ k. Called F k) h read

  -- a name alone, that isn't bound locally
  abbrev by_name : Name → Meaning → Model → List Denoted → Denoted
  by_name n E m ds = live_or (E.live n) ds (over_written m (written_named n []) ds)

  -- a live name means its entry
  abbrev EntryIs : Entry → Callee → Type 0
  EntryIs x c = (m : Model) (F : List Denoted → Denoted) → EntryMeans m fs x F → CalleeMeans m fs c F

  live_called : (n : Name) (x : Entry) (c : Callee) → entry_of s.live n ≡ Some x → EntryIs x c → CalleeSound s.supply c → Called (by_name n) c
  live_called n x c entry is fine = record {
    means = λ m E e a.
        let found = a.live.entries n x entry in
        callee_moved m fs c found.0 (by_name n E m) (λ ds. ap (λ o. live_or o ds (over_written m (written_named n []) ds)) found.1) (is m found.0 found.2);
    sound = fine;
  }

  -- a name of the theories isn't live in any meaning
  theory_by_name : (place : ℕ) (n : Name) (gs : Forms) (o : Option Indexed) (c : Callee) → operator_named n ≡ o → theory_head place n gs [] o ≡ Ok c → Called (by_name n) c
  theory_by_name place n gs (Some x) c named h = record {
    means = λ m E e a.
        callee_moved m fs c (over_written m (at_indices x [])) (by_name n E m)
        (λ ds. ap (λ o. live_or o ds (over_written m (written_named n []) ds)) (a.live.theories n (operator_reserved n x named)) ∙ ap (λ o. over_written m (option_and_then (λ y. at_indices y []) o) ds) named)
        (theory_means m fs place n gs [] (Some x) c h);
    sound = theory_sound s.supply place n gs [] (Some x) c h;
  }
  theory_by_name place n gs None c named h = callee_same (by_name n) operandless c ((theory_called place n gs [] None c h).0 refl) (record { means = λ m E e a. tt; sound = tt })

  head_by_name : (place : ℕ) (n : Name) (gs : Forms) (o : Option Entry) (c : Callee) → entry_of s.live n ≡ o → live_head place n gs [] o ≡ Ok c → Called (by_name n) c
  head_by_name place n gs None c entry h = theory_by_name place n gs (operator_named n) c refl h
  head_by_name place n gs (Some (symbol_entry f)) c entry h =
      callee_same (by_name n) (called f) c (ok_same (called f) c (Ok (called f)) refl h)
      (live_called n (symbol_entry f) (called f) entry (λ m F means. means.1) (sound.entries n (symbol_entry f) entry).0)
  head_by_name place n gs (Some (definition_entry xs t)) c entry h =
      callee_same (by_name n) (defined xs t) c (ok_same (defined xs t) c (Ok (defined xs t)) refl h)
      (live_called n (definition_entry xs t) (defined xs t) entry (λ m F means. means) (sound.entries n (definition_entry xs t) entry).0)
  head_by_name place n gs (Some (term_entry t)) c entry h =
      callee_same (by_name n) operandless c (ok_same operandless c (Ok operandless) refl h) (record { means = λ m E e a. tt; sound = tt })

  head_of_atom : (place : ℕ) (o : Option Name) (c : Callee) → atom_head ls s.live place o ≡ Ok c → Called (λ E m ds. symbol_head_means E m o ds) c
  head_of_atom place None c h = absurd cc
  head_of_atom place (Some n) c h =
      let (free, next) = unless_passed (is_some (bound_as ls n)) UnknownName place (live_head place n none [] (entry_of s.live n)) c h in
      head_by_name place n none (entry_of s.live n) c refl next

  head_with_indices : (place : ℕ) (gs : Forms) (o : Option Name) (is : Option (List ℕ)) (c : Callee) → indexed_head ls s.live place gs o is ≡ Ok c → Called (λ E m ds. named_means E m o is ds) c
  head_with_indices place gs (Some n) (Some (i ∷ is)) c h =
      let (free, next) = unless_passed (is_some (bound_as ls n)) UnknownName place (live_head place n gs (i ∷ is) (entry_of s.live n)) c h in
      let theory : theory_head place n gs (i ∷ is) (operator_named n) ≡ Ok c = only_theory n (entry_of s.live n) i is next in
      record { means = λ m E e a. theory_means m fs place n gs (i ∷ is) (operator_named n) c theory; sound = theory_sound s.supply place n gs (i ∷ is) (operator_named n) c theory }
    where
      -- a live name takes no index
      only_theory : (k : Name) (x : Option Entry) (j : ℕ) (js : List ℕ) → live_head place k gs (j ∷ js) x ≡ Ok c → theory_head place k gs (j ∷ js) (operator_named k) ≡ Ok c
      only_theory k None j js e = e
      only_theory k (Some (symbol_entry f)) j js e = absurd cc
      only_theory k (Some (definition_entry xs t)) j js e = absurd cc
      only_theory k (Some (term_entry t)) j js e = absurd cc
  head_with_indices place gs (Some n) (Some []) c h = absurd cc
  head_with_indices place gs (Some n) None c h = absurd cc
  head_with_indices place gs None is c h = absurd cc

  -- what is written with `_` means its name at its indices
  list_means_named : (E : Meaning) (m : Model) (w : Option Name) (f : Form) (gs : Forms) (ds : List Denoted) → is_name (codes "as") w ≡ false → list_head_means E m w (f ⨾ gs) ds ≡ named_means E m (symbol_in f) (numerals_in gs) ds
  list_means_named E m w f none ds h = refl
  list_means_named E m w f (g ⨾ none) ds h = ap (λ b. cond b (array_of (sort_in E.sorts g) ds) (named_means E m (symbol_in f) (numerals_in (g ⨾ none)) ds)) h
  list_means_named E m w f (g ⨾ k ⨾ ks) ds h = refl

  filled : (place : ℕ) (w : Option Name) (gs : Forms) (c : Callee) → is_name (codes "as") w ≡ true → filling_head s.live place gs ≡ Ok c → Called (λ E m ds. list_head_means E m w gs ds) c
  filled place w (f ⨾ g ⨾ none) c here h = go (is_name (codes "const") (symbol_in f)) h
    where
      go : (b : Bool) → (if b then mapped array_of_sort (sort_in (live_sorts s.live) g) else at BadForm place) ≡ Ok c → Called (λ E m ds. list_head_means E m w (f ⨾ g ⨾ none) ds) c
      go true e =
          let (to, sorted, made) = mapped_ok array_of_sort (sort_in (live_sorts s.live) g) c e in
          callee_same (λ E m ds. list_head_means E m w (f ⨾ g ⨾ none) ds) (array_of_sort to) c made (record {
            means = λ m E d a ds.
                ap (λ b. cond b (array_of (sort_in E.sorts g) ds) (named_means E m (symbol_in f) (numerals_in (g ⨾ none)) ds)) here
                ∙ ap (λ live. array_of (sort_in live g) ds) a.sorts
                ∙ ap (λ r. array_of r ds) sorted;
            sound = tt;
          })
      go false e = absurd cc
  filled place w _ c here h = absurd cc

  head_of_list : (place : ℕ) (w : Option Name) (gs : Forms) (c : Callee) → list_head ls s.live place w gs ≡ Ok c → Called (λ E m ds. list_head_means E m w gs ds) c
  head_of_list place None gs c h = absurd cc
  head_of_list place (Some w) none c h = absurd cc
  head_of_list place (Some w) (f ⨾ gs) c h = go (bytes_eq w (codes "_")) refl (bytes_eq w (codes "as")) refl h
    where
      go : (a : Bool) → bytes_eq w (codes "_") ≡ a → (b : Bool) → bytes_eq w (codes "as") ≡ b → (if a then indexed_head ls s.live place gs (symbol_in f) (numerals_in gs) else (if b then filling_head s.live place (f ⨾ gs) else at BadForm place)) ≡ Ok c → Called (λ E m ds. list_head_means E m (Some w) (f ⨾ gs) ds) c
      go true ea b eb k =
          let read : Called (λ E m ds. named_means E m (symbol_in f) (numerals_in gs) ds) c = head_with_indices place gs (symbol_in f) (numerals_in gs) c k in
          let other : bytes_eq w (codes "as") ≡ false = ap (λ n. bytes_eq n (codes "as")) (name_same w (codes "_") ea) in
          record {
            means = λ m E e a. callee_moved m fs c (λ ds. named_means E m (symbol_in f) (numerals_in gs) ds) (λ ds. list_head_means E m (Some w) (f ⨾ gs) ds) (λ ds. list_means_named E m (Some w) f gs ds other) (read.means m E e a);
            sound = read.sound;
          }
      go false ea true eb k = filled place (Some w) (f ⨾ gs) c eb k
      go false ea false eb k = absurd cc

  pub callee_read : (f : Form) (c : Callee) → callee_of ls f s.live ≡ Ok c → CalleeRead fs s.live ls s.supply (λ E m. head_means f E m) c
  callee_read (atom t) c h = head_of_atom t.start (symbol_of t) c h
  callee_read (node place none) c h = absurd cc
  callee_read (node place (f ⨾ gs)) c h = head_of_list place (word_in f) gs c h
