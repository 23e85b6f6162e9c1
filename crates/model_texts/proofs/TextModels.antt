-- The tables that a text gives make the model that it gives, and are refused where it is.
use Rattle.std.proofs.Common.{◌≡◌, ◌∙◌, sym, ap, subst, refl, ℕ, ◌<◌, Bool, true, false, List, [], ◌∷◌, map, length, get_or, suc, codes, arith, Option, Some, None, Result, Ok, Err, All, IfSome}
use Rattle.std.specs.Prelude.{option_map}
use Rattle.std.specs.Borrow.{Bor}
use Rattle.std.specs.List.{list_all}
use Rattle.std.proofs.lemmas.List.Elements.{All-head, All-tail, All-weaker}
use Rattle.std.proofs.lemmas.Option.{none-some, same_Some}
use Rattle.smt_lex.specs.Lex.{line_at}
use Rattle.smt_lex.specs.Forest.{Source}
use Rattle.smt_lex.specs.Forms.{Forms, none, ◌⨾◌, as_forms, forms_of}
use Rattle.smt_terms.specs.Equal.{name_eq}
use Rattle.smt_terms.specs.Models.{Model}
use Rattle.smt_terms.specs.Rank.{is_sort}
use Rattle.smt_terms.specs.Sorts.{Name, Sort, bool}
use Rattle.smt_terms.specs.declared.ids.SymId.{SymId}
use Rattle.smt_terms.proofs.Equal.{name_same}
use Rattle.smt_terms.proofs.Tests.{and_true, or_false}
use Rattle.smt_values.proofs.SortIds.{sort_is}
use Rattle.term_table.specs.Formulas.{Formulas, symbol_at, IsSymbol, IsSymbolOver, IsTable}
use Rattle.script_read.specs.Commands.{Signature}
use Rattle.script_terms.specs.Places.{forms_from}
use Rattle.script_terms.specs.Refusals.{and_then}
use Rattle.models.specs.LiveNumbers.{LiveNumbers, signature_of, AreLiveNumbersOf}
use Rattle.models.specs.declared.model.Division.TheVariants.{Quotient, Remainder}
use Rattle.model_texts.specs.Entries as plain
use Rattle.model_texts.specs.Entries.{division_table, modulus_table, entries_given}
use Rattle.model_texts.specs.GivenEntries.{NamedTables, tables_given, IsNamedBy, AreNamedBy, AreNamesIn, IsNameOfOwner, IsTableOf, AreTablesOf}
use Rattle.model_texts.specs.GivenFits.{has_sorts, AreFit}
use Rattle.model_texts.specs.Met.{MetNames, names_kept}
use Rattle.model_texts.specs.ModelText.{model_over, parts, nothing_behind, model_of_entries, model_in, with_line, model_from, model_of, without_word}
use Rattle.model_texts.specs.Proper.{is_table_name, IsProper}
use Rattle.model_texts.specs.ReadModel.{ReadsModel}
use Rattle.model_texts.specs.Reading.{Element, sizes}
use Rattle.model_texts.specs.Refusals as refusals
use Rattle.model_texts.specs.Replies.{cause_of, AreElementsOf, Replies}
use Rattle.model_texts.specs.SignatureNames.{SignatureNames, at_name, owner_of_name, owned, IsOwnerOf, AreNamesOf}
use Rattle.model_texts.specs.TextTables.{tables_of_entries, tables_in, AreOfText, fault_at, fault_in}
use Rattle.model_texts.specs.Whole.{IsWhole}
use Rattle.model_texts.specs.declared.entries.Given.{Given}
use Rattle.model_texts.specs.declared.faults.Cause.{Cause}
use Rattle.model_texts.specs.declared.faults.Cause.TheVariants.{ModelForm, ModelSort, NotATable, ModelNumber, ModelTwice}
use Rattle.model_texts.specs.declared.faults.TextFault.{TextFault}
use Rattle.model_texts.specs.declared.faults.TextFault.TheVariants.{Refused, Memory}
use Rattle.model_texts.specs.declared.names.Owner.{Owner}
use Rattle.model_texts.specs.declared.names.Owner.TheVariants.{Symbol as OfSymbol, Numbers}
use Rattle.model_texts.proofs.EntriesFit.{entries_fit, nothing_fits}
use Rattle.model_texts.proofs.Readings.{same_answer, no_answer}
use Rattle.model_texts.proofs.ValuesFit.{values_fit}
use Rattle.model_texts.proofs.StoreReading.{accepted}

-- ---- the model of the tables

abbrev pub Tables : Type 0
Tables = List plain.Given × List Element

abbrev pub modelled : Signature → Result Tables refusals.Refused → Result Model refusals.Refused
modelled sig r = and_then (λ (p : Tables). Ok (model_over sig p.0 (sizes p.1))) r

behind_alike : (sig : Signature) (behind : Forms) (r : Result Tables refusals.Refused)
    → and_then (λ (p : Tables). nothing_behind behind (model_over sig p.0 (sizes p.1))) r ≡ modelled sig (and_then (nothing_behind behind) r)
behind_alike sig behind (Err e) = refl
behind_alike sig behind (Ok p) = by behind
  where
    by : (fs : Forms) → nothing_behind fs (model_over sig p.0 (sizes p.1)) ≡ modelled sig (nothing_behind fs p)
    by none = refl
    by (f ⨾ fs) = refl

parts_alike : (sig : Signature) (r : Result (Forms × Forms) refusals.Refused) → and_then (model_of_entries sig) r ≡ modelled sig (and_then (tables_of_entries sig) r)
parts_alike sig (Err e) = refl
parts_alike sig (Ok p) = behind_alike sig p.1 (entries_given sig [] p.0 [])

model_of_tables : (sig : Signature) (end : ℕ) (fs : Forms) → model_in sig end fs ≡ modelled sig (tables_in sig end fs)
model_of_tables sig end fs = parts_alike sig (parts end (without_word (codes "sat") fs))

-- ---- tables that fit

module _ (sig : Signature) (proper : IsProper sig) (fine : list_all has_sorts sig.symbols ≡ true) (gs : List plain.Given) (es : List Element) where
  behind_fit : (behind entries : Forms) (r : Result Tables refusals.Refused) → entries_given sig [] entries [] ≡ r → and_then (nothing_behind behind) r ≡ Ok (gs, es) → AreFit sig es gs
  behind_fit behind entries (Err e) given h = absurd (no_answer e (gs, es) h)
  behind_fit behind entries (Ok p) given h = by behind h
    where
      by : (fs : Forms) → nothing_behind fs p ≡ Ok (gs, es) → AreFit sig es gs
      by none k = entries_fit values_fit sig proper fine entries [] gs [] es (nothing_fits values_fit sig proper fine) (given ∙ ap Ok (same_answer p (gs, es) k))
      by (f ⨾ fs) k = absurd (no_answer _ (gs, es) k)

  parts_fit : (r : Result (Forms × Forms) refusals.Refused) → and_then (tables_of_entries sig) r ≡ Ok (gs, es) → AreFit sig es gs
  parts_fit (Err e) h = absurd (no_answer e (gs, es) h)
  parts_fit (Ok p) h = behind_fit p.1 p.0 (entries_given sig [] p.0 []) refl h

  tables_fit : (end : ℕ) (fs : Forms) → tables_in sig end fs ≡ Ok (gs, es) → AreFit sig es gs
  tables_fit end fs h = parts_fit (parts end (without_word (codes "sat") fs)) h

-- ---- symbols of a table

sorts_all : (ss : List Sort) → ((i : ℕ) → i < length ss → is_sort (get_or ss i bool) ≡ true) → list_all is_sort ss ≡ true
sorts_all [] h = refl
sorts_all (s ∷ ss) h = and_true (is_sort s) (list_all is_sort ss) (h 0 (omega arith)) (sorts_all ss (λ i lt. h (suc i) (omega arith)))

symbol_has_sorts : (t : Formulas) → IsTable t → (f : SymId) → IsSymbol t f → has_sorts (symbol_at t f) ≡ true
symbol_has_sorts t table f lt =
    let over : IsSymbolOver t.sorts (symbol_at t f) = table.symbols f.0 lt in
    and_true (is_sort (symbol_at t f).result) (list_all is_sort (symbol_at t f).args)
    (ap is_sort over.result.2 ∙ sort_is t.sorts table.sorts over.result.0.0 over.result.1)
    (sorts_all (symbol_at t f).args (λ i within. let k = over.args i within in ap is_sort k.2 ∙ sort_is t.sorts table.sorts k.0.0 k.1))

symbols_have_sorts : (t : Formulas) → IsTable t → (fs : List SymId) → All (IsSymbol t) fs → list_all has_sorts (map (symbol_at t) fs) ≡ true
symbols_have_sorts t table [] all = refl
symbols_have_sorts t table (f ∷ fs) all =
    and_true (has_sorts (symbol_at t f)) (list_all has_sorts (map (symbol_at t) fs)) (symbol_has_sorts t table f (All-head (IsSymbol t) f fs all)) (symbols_have_sorts t table fs (All-tail (IsSymbol t) f fs all))

-- ---- what the tables are for

owner_named : (names : SignatureNames) (n : Name) (o : Owner) → owner_of_name names n ≡ Some o → IsNameOfOwner n o
owner_named names n o h = by (name_eq n division_table) (name_eq n modulus_table) refl refl
  where
    of_symbol : (x : Option SymId) → is_table_name n ≡ false → option_map OfSymbol x ≡ Some o → IsNameOfOwner n o
    of_symbol None other e = absurd (none-some o e)
    of_symbol (Some f) other e = subst (IsNameOfOwner n) (same_Some (OfSymbol f) o e) other

    by : (a b : Bool) → name_eq n division_table ≡ a → name_eq n modulus_table ≡ b → IsNameOfOwner n o
    by true b p q =
        let is : owner_of_name names n ≡ Some (Numbers Quotient) = rw p refl in
        subst (IsNameOfOwner n) (same_Some (Numbers Quotient) o (sym is ∙ h)) (name_same n division_table p)
    by false true p q =
        let is : owner_of_name names n ≡ Some (Numbers Remainder) = rw (p, q) refl in
        subst (IsNameOfOwner n) (same_Some (Numbers Remainder) o (sym is ∙ h)) (name_same n modulus_table q)
    by false false p q =
        let is : owner_of_name names n ≡ option_map OfSymbol (at_name names.symbols n) = rw (p, q) refl in
        of_symbol (at_name names.symbols n) (or_false (name_eq n division_table) (name_eq n modulus_table) p q) (sym is ∙ h)

module _ (t : Formulas) (l : LiveNumbers) where
  named_table : (names : SignatureNames) → AreNamesOf t l names → (e : Bor (List ℕ) × Given) → IsNamedBy names e → IsTableOf t (signature_of t l) e
  named_table names are e named = record {
    named = sym (are.owners e.0.now) ∙ ap (option_map (owned t)) named.owner;
    name = owner_named names e.0.now e.1.owner named.owner;
    owner = subst (λ o. IfSome o (IsOwnerOf t)) named.owner (are.symbols e.0.now);
    held = named.held;
  }

  -- the names of a signature are of its table
  pub names_within : (names : SignatureNames) → AreNamesOf t l names → AreNamesIn t names
  names_within names are = record { sorts = are.free; owners = are.symbols }

  -- tables with names of the signature are for its symbols
  pub named_tables : (names : SignatureNames) (tables : NamedTables) → AreNamesOf t l names → AreNamedBy names tables → AreTablesOf t (signature_of t l) tables
  named_tables names tables are named = All-weaker (IsNamedBy names) (IsTableOf t (signature_of t l)) (named_table names are) tables named

  abbrev sig : Signature
  sig = signature_of t l

  -- the tables that were read from a text
  pub record AreReadFrom (end : ℕ) (fs : Forms) (tables : NamedTables) (ms : MetNames) : Type 0 where
    pub elements : List Element
    pub text : AreOfText t l tables ms elements
    pub is : tables_in sig end fs ≡ Ok (tables_given tables, elements)

  pub tables_read : IsTable t → AreLiveNumbersOf t l → IsProper sig → (end : ℕ) (fs : Forms) (tables : NamedTables) (ms : MetNames) {P : Type 0} (p : P)
      → Replies (λ _ gs. gs ≡ tables_given tables) (AreElementsOf t (names_kept ms)) (tables_in sig end fs) (Ok p) → AreReadFrom end fs tables ms
  tables_read table live proper end fs tables ms {P = P} p h =
      let read = accepted {A = P} (λ _ gs. gs ≡ tables_given tables) (AreElementsOf t (names_kept ms)) (tables_in sig end fs) p h in
      let is : tables_in sig end fs ≡ Ok (tables_given tables, read.1) = read.2 ∙ ap (λ gs. Ok (gs, read.1)) read.3 in
      record {
        elements = read.1;
        text = record { known = read.4; fit = tables_fit sig proper (symbols_have_sorts t table l.symbols live.1) (tables_given tables) read.1 end fs is };
        is = is;
      }

-- ---- texts

module _ (t : Formulas) (s : Source) (whole : IsWhole s) (sig : Signature) where
  abbrev read : Result Tables refusals.Refused
  read = tables_in sig (length s.bytes) (forms_from s.tokens 0)

  text_model : model_of s.bytes sig ≡ with_line s.bytes (modelled sig read)
  unfolding forms_from
  text_model = ap (λ ts. model_from s.bytes sig (as_forms ts)) whole ∙ ap (with_line s.bytes) (model_of_tables sig (length s.bytes) (forms_of s.tokens))

  -- the model that the tables make is that of the text
  pub text_made : (gs : List plain.Given) (es : List Element) (m : Model) → read ≡ Ok (gs, es) → m ≡ model_over sig gs (sizes es) → model_of s.bytes sig ≡ Ok m
  text_made gs es m h is = text_model ∙ ap (λ r. with_line s.bytes (modelled sig r)) h ∙ ap Ok (sym is)

  cause_refused : (cause : Cause) (byte : ℕ) → model_of s.bytes sig ≡ Err (refusals.refused (record { cause = cause_of cause; line = line_at s.bytes byte; byte = byte }))
      → ReadsModel t s.bytes sig (Err (fault_at cause (line_at s.bytes byte) byte))
  cause_refused ModelForm byte h = h
  cause_refused ModelSort byte h = h
  cause_refused NotATable byte h = h
  cause_refused ModelNumber byte h = h
  cause_refused ModelTwice byte h = h

  -- the refusal of the tables is that of the text
  pub text_refused : {P : Type 0} (R : P → List plain.Given → Type 0) (known : List Element → Type 0) (x : TextFault) → Replies R known read (Err x) → ReadsModel t s.bytes sig (Err (fault_in s.bytes x))
  text_refused R known Memory h = tt
  text_refused R known (Refused cause byte) h = by read refl h
    where
      by : (r : Result Tables refusals.Refused) → read ≡ r → Replies R known r (Err (Refused cause byte)) → ReadsModel t s.bytes sig (Err (fault_at cause (line_at s.bytes byte) byte))
      by (Ok p) e k = absurd k
      by (Err r) e k = cause_refused cause byte (text_model ∙ ap (λ q. with_line s.bytes (modelled sig q)) (e ∙ ap Err k))
