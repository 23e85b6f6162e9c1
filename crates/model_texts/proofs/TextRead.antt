-- A text is one list of entries, with a word before it and one in it, or is refused where it isn't.
use Rattle.std.proofs.Common.{◌≡◌, ◌∙◌, sym, ap, subst, refl, ℕ, List, [], codes, Result, Ok, Err}
use Rattle.smt_lex.specs.Lex.{Token}
use Rattle.smt_lex.specs.Forms.{Form, atom, node, Forms, none, ◌⨾◌}
use Rattle.term_table.specs.Formulas.{Formulas}
use Rattle.script_read.specs.Commands.{Signature}
use Rattle.script_terms.specs.Parts.{place_of}
use Rattle.script_terms.specs.Refusals.{and_then}
use Rattle.model_texts.specs.Entries.{Given, entries_given}
use Rattle.model_texts.specs.GivenEntries.{NamedTables, tables_given}
use Rattle.model_texts.specs.Met.{MetNames, names_kept}
use Rattle.model_texts.specs.ModelText.{parts, nothing_behind, without_word}
use Rattle.model_texts.specs.Reading.{Element}
use Rattle.model_texts.specs.Refusals as refusals
use Rattle.model_texts.specs.Replies.{AreElementsOf, Replies}
use Rattle.model_texts.specs.TextTables.{tables_of_entries}
use Rattle.model_texts.specs.declared.faults.Cause.TheVariants.{ModelForm}
use Rattle.model_texts.specs.declared.faults.TextFault.{TextFault}
use Rattle.model_texts.specs.declared.faults.TextFault.TheVariants.{Refused, Memory}
use Rattle.model_texts.proofs.StoreReading.{memory, accepted}

-- no table is given and no element was met before the first entry
pub from_nothing : {P : Type 0} (R : P → List Given → Type 0) (known : List Element → Type 0) (t : Formulas) (sig : Signature) (fs : Forms) (tables : NamedTables) (ms : MetNames) (r : Result P TextFault) → tables ≡ [] → ms ≡ []
    → ((es : List Element) → AreElementsOf t (names_kept ms) es → Replies R known (entries_given sig (tables_given tables) fs es) r) → Replies R known (entries_given sig [] fs []) r
from_nothing R known t sig fs tables ms r none_given none_met read =
    subst (λ gs. Replies R known (entries_given sig (tables_given gs) fs []) r) none_given
    (read [] (subst (λ ns. AreElementsOf t (names_kept ns) []) (sym none_met) (λ s free. refl)))

module _ {P : Type 0} (R : P → List Given → Type 0) (known : List Element → Type 0) (sig : Signature) (end : ℕ) (whole : Forms) where
  -- the answer for the text of these forms, behind the first word
  abbrev pub Replied : Result P TextFault → Type 0
  Replied r = Replies R known (and_then (tables_of_entries sig) (parts end whole)) r

  -- nothing stands there
  pub text_over : (x : TextFault) → x ≡ Refused ModelForm end → whole ≡ none → Replied (Err x)
  text_over x is over =
      subst (λ y. Replied (Err y)) (sym is)
      (subst (λ fs. Replies R known (and_then (tables_of_entries sig) (parts end fs)) (Err (Refused ModelForm end))) (sym over) refl)

  module _ (f : Form) (behind : Forms) (are : whole ≡ f ⨾ behind) where
    first_is : (g : Form) → f ≡ g → whole ≡ g ⨾ behind
    first_is g is = are ∙ ap (λ h. h ⨾ behind) is

    -- no list stands there
    pub no_list : (u : Token) (x : TextFault) → f ≡ atom u → x ≡ Refused ModelForm (place_of f) → Replied (Err x)
    no_list u x alone is =
        subst (λ y. Replied (Err y)) (sym (is ∙ ap (λ g. Refused ModelForm (place_of g)) alone))
        (subst (λ fs. Replies R known (and_then (tables_of_entries sig) (parts end fs)) (Err (Refused ModelForm (place_of (atom u))))) (sym (first_is (atom u) alone)) refl)

    module _ (place : ℕ) (inner entries : Forms) (list : f ≡ node place inner) (from : entries ≡ without_word (codes "model") inner) where
      -- what the list and what stands behind it give
      given_by : and_then (nothing_behind behind) (entries_given sig [] entries []) ≡ and_then (tables_of_entries sig) (parts end whole)
      given_by =
          ap (λ es. and_then (nothing_behind behind) (entries_given sig [] es [])) from
          ∙ sym (ap (λ fs. and_then (tables_of_entries sig) (parts end fs)) (first_is (node place inner) list))

      module _ {Q : Type 0} (S : Q → List Given → Type 0) (met : List Element → Type 0) where
        refused_by : (o : Result (List Given × List Element) refusals.Refused) (x : TextFault) → Replies S met o (Err x) → Replies R known (and_then (nothing_behind behind) o) (Err x)
        refused_by (Ok p) (Refused cause byte) h = absurd h
        refused_by (Ok p) Memory h = memory R known (nothing_behind behind p)
        refused_by (Err q) (Refused cause byte) h = h
        refused_by (Err q) Memory h = tt

        -- an entry is refused
        pub entry_refused : (x : TextFault) → Replies S met (entries_given sig [] entries []) (Err x) → Replied (Err x)
        entry_refused x h = subst (λ o. Replies R known o (Err x)) given_by (refused_by (entries_given sig [] entries []) x h)

        -- something stands behind the list
        pub more_behind : (q : Q) (x : TextFault) (g : Form) (gs : Forms) → Replies S met (entries_given sig [] entries []) (Ok q) → behind ≡ g ⨾ gs → x ≡ Refused ModelForm (place_of g) → Replied (Err x)
        more_behind q x g gs h more is =
            let p = accepted S met (entries_given sig [] entries []) q h in
            let r : and_then (tables_of_entries sig) (parts end whole) ≡ refusals.at refusals.model_form (place_of g) = sym given_by ∙ ap (and_then (nothing_behind behind)) p.2 ∙ ap (λ fs. nothing_behind fs (p.0, p.1)) more in
            subst (λ y. Replied (Err y)) (sym is) (subst (λ o. Replies R known o (Err (Refused ModelForm (place_of g)))) (sym r) refl)

      -- all was read
      pub text_read : (q : P) → Replies R known (entries_given sig [] entries []) (Ok q) → behind ≡ none → Replied (Ok q)
      text_read q h over =
          let p = accepted R known (entries_given sig [] entries []) q h in
          let r : and_then (tables_of_entries sig) (parts end whole) ≡ Ok (p.0, p.1) = sym given_by ∙ ap (and_then (nothing_behind behind)) p.2 ∙ ap (λ fs. nothing_behind fs (p.0, p.1)) over in
          subst (λ o. Replies R known o (Ok q)) (sym r) (p.3, p.4)
