-- Printed forms give no names to terms.
use Rattle.std.proofs.Common.{◌≡◌, ℕ, suc, ◌/◌, ◌%◌, inl, inr, eqb, List, [], ◌∷◌, ◌++◌, map, refl, ap, ◌∙◌, arith}
use Rattle.std.specs.Prelude.{codes, ℤ, pos, negsuc}
use Rattle.std.proofs.lemmas.Bool.{le-ltb}
use Rattle.smt_lex.specs.declared.items.Item.TheVariants.{Hex, Bin}
use Rattle.smt_lex.specs.Lex.{Token}
use Rattle.smt_lex.specs.Forms.{Form, atom, node, none, ◌⨾◌, forms_of_list}
use Rattle.smt_terms.specs.Sorts.{Variable}
use Rattle.smt_terms.specs.Term.{Quantifier}
use Rattle.smt_terms.proofs.Tests.{true_or_false}
use Rattle.script_read.specs.Mean.{quantified_variables}
use Rattle.script_terms.specs.Parts.{head, opening}
use Rattle.script_read.specs.Scenes.{quantified_locals, naming, naming_list, naming_all}
use Rattle.script_terms.specs.Scope.{Local, let_names, Binding, live_sort}
use Rattle.term_table.specs.WrittenForms.{list_form, word_form, numeral_form, integer_form, last_digits, vector_form, variable_form}
use Rattle.smt_print.specs.TermForms.{application_form, quantifier_word, quantified_form, definition_name, let_form}
use Rattle.smt_print.proofs.BindersRead.{word_begins, let_begins}
use Rattle.smt_print.proofs.FormTexts.{end_of, placed, placed_in, placed_behind}

-- the bindings behind the form are those before it
pub record IsSilent (f : Form) : Type 0 where
  pub names : (p : ℕ) (ls : List Local) (bs : List Binding) → naming (placed p f) ls bs ≡ bs

abbrev pub AreSilent : List Form → Type 0
AreSilent [] = Unit {0}
AreSilent (f ∷ fs) = IsSilent f × AreSilent fs

pub atom_silent : (t : Token) → IsSilent (atom t)
atom_silent t = record { names = λ p ls bs. refl }

each_silent : (fs : List Form) → AreSilent fs → (p : ℕ) (ls : List Local) (bs : List Binding) → naming_all (placed_behind p (forms_of_list fs) none) ls bs ≡ bs
each_silent [] are p ls bs = refl
each_silent (f ∷ fs) are p ls bs =
    ap (naming_all (placed_behind (end_of (suc p) f) (forms_of_list fs) none) ls) (are.0.names (suc p) ls bs) ∙ each_silent fs are.1 (end_of (suc p) f) ls bs

pub application_silent : (h f : Form) (fs : List Form) → ((p : ℕ) → opening (placed p h) ≡ head (placed p h)) → AreSilent (f ∷ fs) → IsSilent (application_form h (f ∷ fs))
application_silent h f fs begins are = record {
  names = λ p ls bs.
      let q = suc (end_of (suc p) h) in
      let behind = placed_behind (end_of q f) (forms_of_list fs) none in
      ap (λ o. naming_list o (placed q f ⨾ behind) ls bs) (begins (suc p)) ∙ ap (naming_all behind ls) (are.0.names q ls bs) ∙ each_silent fs are.1 (end_of q f) ls bs;
}

pub quantified_silent : (q : Quantifier) (xs : List Variable) (f : Form) → IsSilent f → IsSilent (quantified_form q xs f)
quantified_silent q xs f is = record {
  names = λ p ls bs.
      let part = suc (end_of (suc p) (quantifier_word q)) in
      let inner = suc (end_of part (list_form (map variable_form xs))) in
      let ps = placed_in (suc part) (forms_of_list (map variable_form xs)) none in
      ap (λ o. naming_list o (node part ps ⨾ placed inner f ⨾ none) ls bs) (word_begins q (suc p)) ∙ is.names inner (quantified_locals (quantified_variables (live_sort bs) ps) ls) bs;
}

pub let_silent : (k : ℕ) (f body : Form) → IsSilent f → IsSilent body → IsSilent (let_form (definition_name k) f body)
let_silent k f body first last = record {
  names = λ p ls bs.
      let n = definition_name k in
      let part = suc (end_of (suc p) (word_form (codes "let"))) in
      let inner = suc part in
      let value = suc (end_of (suc inner) (word_form n)) in
      let behind = suc (end_of part (list_form (list_form (word_form n ∷ f ∷ []) ∷ []))) in
      let ps = node inner (placed (suc inner) (word_form n) ⨾ placed value f ⨾ none) ⨾ none in
      ap (λ o. naming_list o (node part ps ⨾ placed behind body ⨾ none) ls bs) (let_begins (suc p))
      ∙ ap (naming (placed behind body) (let_names ps ∷ ls)) (first.names value ls bs)
      ∙ last.names behind (let_names ps ∷ ls) bs;
}

pub vector_silent : (w n : ℕ) → IsSilent (vector_form w n)
vector_silent w n = elim (true_or_false (eqb (w % 4) 0)) [
  | inl four ↦ rw four (atom_silent (record { item = Hex; start = 0; text = codes "#x" ++ last_digits 16 (w / 4) n [] }))
  | inr other ↦ rw other (atom_silent (record { item = Bin; start = 0; text = codes "#b" ++ last_digits 2 w n [] }))
]

minus_begins : (p : ℕ) → opening (placed p (word_form (codes "-"))) ≡ head (placed p (word_form (codes "-")))
minus_begins p = refl

numeral_silent : (n : ℕ) → IsSilent (numeral_form n)
numeral_silent n = record { names = λ p ls bs. refl }

pub integer_silent : (n : ℤ) → IsSilent (integer_form n)
integer_silent (pos n) = rw (le-ltb n 0 (omega arith)) (numeral_silent n)
integer_silent (negsuc n) = application_silent (word_form (codes "-")) (numeral_form (suc n)) [] minus_begins (numeral_silent (suc n), tt)
