-- Entries are read one by one: what was read so far are these tables, and behind them comes the rest.
use Rattle.std.proofs.Common.{◌≡◌, ◌∙◌, sym, ap, subst, refl, ℕ, Bool, true, false, if◌then◌else◌, ◌&&◌, List, [], ◌∷◌, ◌++◌, map, Option, Some, None, Ok, Err, true≢false}
use Rattle.std.specs.Prelude.{option_map, is_some}
use Rattle.std.proofs.lemmas.Option.{none-some, same_Some}
use Rattle.smt_lex.specs.Names.{is_among}
use Rattle.smt_lex.specs.Lex.{Token, name_of}
use Rattle.smt_lex.specs.Forest.{token_at, after_at}
use Rattle.smt_lex.specs.Forms.{Form, atom, node, Forms, none}
use Rattle.smt_terms.specs.Models.{Graph}
use Rattle.smt_terms.specs.Sorts.{Name, Sort, free_sort, Symbol}
use Rattle.smt_terms.specs.Values as plain
use Rattle.smt_terms.specs.declared.ids.SortId.{SortId}
use Rattle.smt_values.specs.Meaning.{meaning, IsHeld}
use Rattle.smt_values.specs.SortIds.{sort_at}
use Rattle.smt_values.specs.declared.value.Value.{Value}
use Rattle.script_read.specs.Commands.{Signature}
use Rattle.script_terms.specs.Parts.{place_of}
use Rattle.script_terms.specs.PlaceClauses.{BeginsForm, IsListAt}
use Rattle.script_terms.specs.Places.{form_from, forms_from}
use Rattle.term_table.specs.Formulas.{Formulas}
use Rattle.models.specs.LiveNumbers.{LiveNumbers, signature_of}
use Rattle.model_texts.specs.Behind.{LeavesToRead}
use Rattle.model_texts.specs.Entries.{Parameter, Given, have_sorts, variables, symbol_named, with_table, function_given, elements_met, sort_given, entry_in, entry_given, entries_given}
use Rattle.model_texts.specs.GivenTables.{graph_given, IsGivenGraph}
use Rattle.model_texts.specs.Met.{MetNames}
use Rattle.model_texts.specs.Reading.{Element, Reading, ◌>>=◌, gives, refuses}
use Rattle.model_texts.specs.Refusals as refusals
use Rattle.model_texts.specs.Replies.{Replies}
use Rattle.model_texts.specs.SignatureNames.{SignatureNames, sort_of_name, AreNamesOf}
use Rattle.model_texts.specs.Tables.{body_in}
use Rattle.model_texts.specs.ValueForms.{is_sort_form, value_in}
use Rattle.model_texts.specs.declared.faults.Cause.TheVariants.{ModelSort, ModelTwice}
use Rattle.model_texts.specs.declared.faults.TextFault.{TextFault}
use Rattle.model_texts.specs.declared.faults.TextFault.TheVariants.{Refused}
use Rattle.model_texts.specs.declared.tables.GivenTable.{GivenTable}
use Rattle.model_texts.proofs.EntryForms.{no_sort_named, sort_named, name_of_named}
use Rattle.model_texts.proofs.ReadSteps.{Known, Answers, part_refused, part_read, all_read}
use Rattle.model_texts.proofs.SimpleValues.{refused_reply}

-- ---- values of a sort

abbrev ValueIs : Value → plain.Value → Type 0
ValueIs v w = IsHeld v × (meaning v ≡ w)

module _ (t : Formulas) (ts : List Token) (s : Sort) (old : MetNames) (first next : ℕ) (now : MetNames)
    (left : (gs : List Given) → LeavesToRead t old now (elements_met s (forms_from ts first) gs) (elements_met s (forms_from ts next) gs)) where
  module _ (begins : BeginsForm ts next) where
    value_left : (gs : List Given) → LeavesToRead t old now (elements_met s (forms_from ts first) gs) (value_in (form_from ts next) s >>= λ _. elements_met s (forms_from ts (after_at ts next)) gs)
    value_left gs = subst (λ fs. LeavesToRead t old now (elements_met s (forms_from ts first) gs) (elements_met s fs gs)) begins.forms (left gs)

    pub element_refused : (P : Type 0) (new : MetNames) (x : TextFault) → Answers {P = Value} ValueIs t now new (value_in (form_from ts next) s) (Err x)
        → (gs : List Given) → Answers {P = P} (λ _ hs. hs ≡ gs) t old new (elements_met s (forms_from ts first) gs) (Err x)
    element_refused P new x refused gs =
        part_refused ValueIs t old now new (elements_met s (forms_from ts first) gs) (value_in (form_from ts next) s) (λ _. elements_met s (forms_from ts (after_at ts next)) gs) (value_left gs) {Q = P} (λ _ hs. hs ≡ gs) x refused

    pub element_read : (new : MetNames) (v : Value) (after : ℕ) → after ≡ after_at ts next → Answers ValueIs t now new (value_in (form_from ts next) s) (Ok v)
        → (gs : List Given) → LeavesToRead t old new (elements_met s (forms_from ts first) gs) (elements_met s (forms_from ts after) gs)
    element_read new v after is read gs =
        subst (λ k. LeavesToRead t old new (elements_met s (forms_from ts first) gs) (elements_met s (forms_from ts k) gs)) (sym is)
        (part_read ValueIs t old now new (elements_met s (forms_from ts first) gs) (value_in (form_from ts next) s) (λ _. elements_met s (forms_from ts (after_at ts next)) gs) (value_left gs) v (meaning v) (λ w h. sym h.1) read)

  pub elements_end : {P : Type 0} (p : P) → forms_from ts next ≡ none → (gs : List Given) → Answers (λ _ hs. hs ≡ gs) t old now (elements_met s (forms_from ts first) gs) (Ok p)
  elements_end p empty gs =
      all_read (λ _ hs. hs ≡ gs) t old now (elements_met s (forms_from ts first) gs) p gs
      (subst (λ fs. LeavesToRead t old now (elements_met s (forms_from ts first) gs) (elements_met s fs gs)) empty (left gs)) refl

-- ---- elements of a sort of the signature

-- a list begins at the token, or a token stands alone
pub list_at : (ts : List Token) (i : ℕ) (o : Option ℕ) → IsListAt ts i o → is_some o ≡ true → (fs : Forms) × (form_from ts i ≡ node (token_at ts i).start fs)
list_at ts i None at is = absurd (true≢false (sym is))
list_at ts i (Some j) at is = (forms_from ts j, at.0)

pub token_alone : (ts : List Token) (i : ℕ) (o : Option ℕ) → IsListAt ts i o → is_some o ≡ false → form_from ts i ≡ atom (token_at ts i)
token_alone ts i None at is = at
token_alone ts i (Some j) at is = absurd (true≢false is)

module _ (t : Formulas) (ms : MetNames) (ns : List Name) (gs : List Given) (es : List Element) (known : Known t ms es) where
  pub list_unread : {P : Type 0} (p : P) (f : Form) (place : ℕ) (fs vs : Forms) → f ≡ node place fs → Replies (λ _ hs. hs ≡ gs) (Known t ms) (sort_given ns f vs gs es) (Ok p)
  list_unread p f place fs vs is =
      subst (λ r. Replies (λ _ hs. hs ≡ gs) (Known t ms) r (Ok p)) (sym (ap (λ g. sort_given ns g vs gs es) is ∙ ap (λ r. r es) (no_sort_named ns place fs vs gs))) (refl, known)

module _ (t : Formulas) (l : LiveNumbers) (names : SignatureNames) (are : AreNamesOf t l names) (f : Form) (u : Token) (is : f ≡ atom u) (vs : Forms) (gs : List Given) where
  chosen_sort : Bool → Reading (List Given)
  chosen_sort b = if b then elements_met (free_sort (name_of u)) vs gs else gives gs

  named_reads : sort_given (signature_of t l).sorts f vs gs ≡ (if is_among (signature_of t l).sorts (name_of u) then elements_met (free_sort (name_of u)) vs gs else gives gs)
  named_reads = ap (λ g. sort_given (signature_of t l).sorts g vs gs) is ∙ sort_named (signature_of t l).sorts u vs gs

  -- no sort has the name
  not_among : sort_of_name names (name_of u) ≡ None → is_among (signature_of t l).sorts (name_of u) ≡ false
  not_among unknown = by (is_among (signature_of t l).sorts (name_of u)) (sym (ap (option_map (λ s. sort_at t.sorts s)) unknown) ∙ are.sorts (name_of u))
    where
      by : (b : Bool) → None ≡ (if b then Some (free_sort (name_of u)) else None) → b ≡ false
      by true h = absurd (none-some (free_sort (name_of u)) h)
      by false h = refl

  is_the_sort : (s : SortId) → sort_of_name names (name_of u) ≡ Some s → (is_among (signature_of t l).sorts (name_of u) ≡ true) × (sort_at t.sorts s ≡ free_sort (name_of u))
  is_the_sort s known = by (is_among (signature_of t l).sorts (name_of u)) (sym (ap (option_map (λ s. sort_at t.sorts s)) known) ∙ are.sorts (name_of u))
    where
      by : (b : Bool) → Some (sort_at t.sorts s) ≡ (if b then Some (free_sort (name_of u)) else None) → (b ≡ true) × (sort_at t.sorts s ≡ free_sort (name_of u))
      by true h = (refl, same_Some (sort_at t.sorts s) (free_sort (name_of u)) h)
      by false h = absurd (none-some (sort_at t.sorts s) (sym h))

  pub other_unread : {P : Type 0} (p : P) (ms : MetNames) (es : List Element) → Known t ms es → sort_of_name names (name_of u) ≡ None
      → Replies (λ _ hs. hs ≡ gs) (Known t ms) (sort_given (signature_of t l).sorts f vs gs es) (Ok p)
  other_unread p ms es known unknown =
      subst (λ r. Replies (λ _ hs. hs ≡ gs) (Known t ms) r (Ok p))
      (sym (ap (λ r. r es) (named_reads ∙ ap (λ b. if b then elements_met (free_sort (name_of u)) vs gs else gives gs) (not_among unknown)))) (refl, known)

  pub sort_reads : (s : SortId) → sort_of_name names (name_of u) ≡ Some s → sort_given (signature_of t l).sorts f vs gs ≡ elements_met (sort_at t.sorts s) vs gs
  sort_reads s known =
      named_reads ∙ ap (λ b. if b then elements_met (free_sort (name_of u)) vs gs else gives gs) (is_the_sort s known).0 ∙ ap (λ r. elements_met r vs gs) (sym (is_the_sort s known).1)

-- ---- functions

module _ (sig : Signature) (n : Name) (place : ℕ) (gs : List Given) (ps : List Parameter) (s b : Form) where
  abbrev function_read : Reading (List Given)
  function_read = function_given place gs (symbol_named sig n) ps s b

  pub unnamed_unread : {P : Type 0} (p : P) (t : Formulas) (ms : MetNames) (es : List Element) → Known t ms es → symbol_named sig n ≡ None
      → Replies (λ _ hs. hs ≡ gs) (Known t ms) (function_read es) (Ok p)
  unnamed_unread p t ms es known unnamed =
      subst (λ o. Replies (λ _ hs. hs ≡ gs) (Known t ms) (function_given place gs o ps s b es) (Ok p)) (sym unnamed) (refl, known)

  module _ (f : Symbol) (named : symbol_named sig n ≡ Some f) where
    abbrev before : Name → Bool
    before m = is_among (map (λ (g : Given). g.name) gs) m

    abbrev checked : Bool → Bool → Reading (List Given)
    checked a c = if a then refuses refusals.model_twice place else (if c then with_table gs f ps b else refuses refusals.model_sort place)

    reads_checked : (a c : Bool) → before n ≡ a → (have_sorts f.args ps && is_sort_form f.result s) ≡ c → (es : List Element) → function_read es ≡ checked a c es
    reads_checked a c twice rank es =
        ap (λ o. function_given place gs o ps s b es) named ∙ ap (λ d. checked d (have_sorts f.args ps && is_sort_form f.result s) es) (ap before (name_of_named sig n f named) ∙ twice) ∙ ap (λ d. checked a d es) rank

    pub twice_refused : {P : Type 0} (R : P → List Given → Type 0) (known : List Element → Type 0) (x : TextFault) (es : List Element) → before n ≡ true → x ≡ Refused ModelTwice place → Replies R known (function_read es) (Err x)
    twice_refused R known x es twice is =
        refused_reply R known (function_read es) x ModelTwice place (reads_checked true (have_sorts f.args ps && is_sort_form f.result s) twice refl es) is

    module _ (t : Formulas) (old : MetNames) (args : List Sort) (result : Sort) (args_are : args ≡ f.args) (result_is : result ≡ f.result) (once : before n ≡ false) where
      has_rank : (c : Bool) → (have_sorts args ps && is_sort_form result s) ≡ c → (have_sorts f.args ps && is_sort_form f.result s) ≡ c
      has_rank c rank = sym (λ j. have_sorts (args_are j) ps && is_sort_form (result_is j) s) ∙ rank

      pub rank_refused : {P : Type 0} (R : P → List Given → Type 0) (known : List Element → Type 0) (x : TextFault) (es : List Element) → (have_sorts args ps && is_sort_form result s) ≡ false → x ≡ Refused ModelSort place → Replies R known (function_read es) (Err x)
      rank_refused R known x es rank is = refused_reply R known (function_read es) x ModelSort place (reads_checked false false once (has_rank false rank) es) is

      abbrev body : Reading Graph
      body = body_in b (variables args ps) result

      abbrev with_graph : Graph → Reading (List Given)
      with_graph g = gives (gs ++ record { name = n; graph = g } ∷ [])

      body_left : (have_sorts args ps && is_sort_form result s) ≡ true → LeavesToRead t old old function_read (body >>= with_graph)
      body_left rank es known = (
        es,
        (
          known,
          reads_checked false true once (has_rank true rank) es
              ∙ sym (λ j. (body_in b (variables (args_are j) ps) (result_is j) >>= λ g. gives (gs ++ record { name = sym (name_of_named sig n f named) j; graph = g } ∷ [])) es),
        ),
      )

      pub body_refused : {P : Type 0} (R : P → List Given → Type 0) (new : MetNames) (x : TextFault) → (have_sorts args ps && is_sort_form result s) ≡ true → Answers {P = GivenTable} IsGivenGraph t old new body (Err x) → Answers R t old new function_read (Err x)
      body_refused R new x rank refused = part_refused IsGivenGraph t old old new function_read body with_graph (body_left rank) R x refused

      pub body_read : {P : Type 0} (p : P) (new : MetNames) (g : GivenTable) (hs : List Given) → (have_sorts args ps && is_sort_form result s) ≡ true → hs ≡ gs ++ record { name = n; graph = graph_given g } ∷ [] → Answers IsGivenGraph t old new body (Ok g)
          → Answers (λ _ ks. ks ≡ hs) t old new function_read (Ok p)
      body_read p new g hs rank are read =
          all_read (λ _ ks. ks ≡ hs) t old new function_read p (gs ++ record { name = n; graph = graph_given g } ∷ [])
          (part_read IsGivenGraph t old old new function_read body with_graph (body_left rank) g (graph_given g) (λ h is. sym is.1) read) (sym are)

-- ---- entries

module _ (t : Formulas) (ts : List Token) (sig : Signature) (old : MetNames) (whole : Reading (List Given)) (gs : List Given) (next : ℕ) (now : MetNames)
    (left : LeavesToRead t old now whole (entries_given sig gs (forms_from ts next))) where
  module _ (begins : BeginsForm ts next) where
    abbrev entry : Reading (List Given)
    entry = entry_given sig gs (place_of (form_from ts next)) (entry_in (form_from ts next))

    entry_left : LeavesToRead t old now whole (entry >>= λ hs. entries_given sig hs (forms_from ts (after_at ts next)))
    entry_left = subst (λ fs. LeavesToRead t old now whole (entries_given sig gs fs)) begins.forms left

    pub entry_refused : {P Q : Type 0} (R : P → List Given → Type 0) (S : Q → List Given → Type 0) (new : MetNames) (x : TextFault) → Answers R t now new entry (Err x) → Answers S t old new whole (Err x)
    entry_refused R S new x refused = part_refused R t old now new whole entry (λ hs. entries_given sig hs (forms_from ts (after_at ts next))) entry_left S x refused

    pub entry_read : {P : Type 0} (p : P) (new : MetNames) (hs : List Given) (after : ℕ) → after ≡ after_at ts next → Answers (λ _ ks. ks ≡ hs) t now new entry (Ok p)
        → LeavesToRead t old new whole (entries_given sig hs (forms_from ts after))
    entry_read {P} p new hs after is read =
        subst (λ k. LeavesToRead t old new whole (entries_given sig hs (forms_from ts k))) (sym is)
        (part_read {P = P} (λ _ ks. ks ≡ hs) t old now new whole entry (λ ks. entries_given sig ks (forms_from ts (after_at ts next))) entry_left p hs (λ ks h. h) read)

  pub entries_end : {P : Type 0} (p : P) → forms_from ts next ≡ none → Answers (λ _ ks. ks ≡ gs) t old now whole (Ok p)
  entries_end p empty =
      all_read (λ _ ks. ks ≡ gs) t old now whole p gs (subst (λ fs. LeavesToRead t old now whole (entries_given sig gs fs)) empty left) refl
