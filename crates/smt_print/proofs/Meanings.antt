-- What printed forms mean, put together: applications, quantifiers, `let` and names of definitions.
use Rattle.std.proofs.Common.{◌≡◌, ℕ, suc, inl, inr, Bool, true, false, Some, None, List, [], ◌∷◌, length, map, refl, ap, sym, ◌∙◌}
use Rattle.std.specs.Prelude.{codes}
use Rattle.smt_lex.specs.declared.items.Item.TheVariants.{Word}
use Rattle.smt_lex.specs.Lex.{Token, symbol_of}
use Rattle.smt_lex.specs.Names.{Name, is_reserved}
use Rattle.smt_lex.specs.Forms.{Form, atom, node, none, forms_of_list}
use Rattle.smt_terms.specs.Equal.{term_eq}
use Rattle.smt_terms.specs.Models.{Model}
use Rattle.smt_terms.specs.Rank.{with_sort, sort_of, sorts_of, are_bindable}
use Rattle.smt_terms.specs.Sorts.{Sort, bool, Variable}
use Rattle.smt_terms.specs.Term.{Quantifier, Head, Term, apply, quantified, Terms, none as no_terms, ◌⨾◌, list}
use Rattle.smt_terms.specs.Val.{Env, assign, val, vals, runs}
use Rattle.smt_terms.specs.Values.{truth, is_true, over_values}
use Rattle.smt_terms.proofs.Equal.{Decides-term_eq}
use Rattle.smt_terms.proofs.Sorted.{sort_of-quantified}
use Rattle.smt_terms.proofs.Tests.{true_or_false}
use Rattle.script_read.specs.Commands.{Signature}
use Rattle.script_read.specs.Laws.{denoted}
use Rattle.script_read.specs.Mean.{Denoted, Meaning, is_true_of, values_of, sorts_denoted, with_bound, denoted_as, over_variables, accepted_or, quantified_variables, quantifier_means, let_pair, with_all, symbol_or_nothing, denoted_or, live_or, over_constant, truth_of, token_means, head_means, mean, mean_list, mean_all}
use Rattle.script_terms.specs.Parts.{head, opening, symbol_in, constant_by}
use Rattle.term_table.specs.WrittenForms.{word_form, list_form, variable_form}
use Rattle.smt_print.specs.TermForms.{Definition, definition_name, is_defined, defined_name, application_form, quantifier_word, quantified_form, let_form}
use Rattle.smt_print.proofs.BindersRead.{word_begins, let_begins, variables_read, definition_unreserved, defined_is}
use Rattle.smt_print.proofs.Contexts.{pushed, first_form, LiveMeant, AreMeant, MeantScope}
use Rattle.smt_print.proofs.DrawnNames.{bindable_parts}
use Rattle.smt_print.proofs.FormTexts.{end_of, token_at, placed, placed_in, placed_behind}
use Rattle.smt_print.proofs.Scopes.{AreUsable, meant_variable, meant_without, meant_let, live_let}
use Rattle.smt_print.proofs.SymbolsRead.{word_symbol}

-- the form means what the term does, wherever these variables and definitions are known
pub record Means (g : Signature) (scope : List Variable) (ds : List Definition) (f : Form) (t : Term) : Type 0 where
  pub means : (m : Model) (e : Meaning) (v : Env) (p : ℕ) → LiveMeant g m e → MeantScope m scope ds e v → mean (placed p f) e m ≡ denoted m v t

-- forms and terms, one by one
abbrev pub EachMeans : Signature → List Variable → List Definition → List Form → Terms → Type 0
EachMeans g scope ds [] no_terms = Unit {0}
EachMeans g scope ds (f ∷ fs) (t ⨾ ts) = Means g scope ds f t × EachMeans g scope ds fs ts
EachMeans g scope ds _ _ = ⊥

-- what operands denote
abbrev pub each_denoted : Model → Env → Terms → List Denoted
each_denoted m v ts = map (denoted m v) (list ts)

-- the head of an application to operands of these sorts
pub record HeadMeans (g : Signature) (scope : List Variable) (ds : List Definition) (h : Form) (head : Head) (ss : List Sort) : Type 0 where
  pub means : (m : Model) (e : Meaning) (v : Env) (p : ℕ) (t : Term) (ts : Terms) → LiveMeant g m e → MeantScope m scope ds e v → sorts_of (t ⨾ ts) ≡ Some ss
      → head_means (placed p h) e m (each_denoted m v (t ⨾ ts)) ≡ denoted m v (apply head (t ⨾ ts))

-- ---- what is known of operands

pub denoted_sorts : (m : Model) (v : Env) (ts : Terms) → sorts_denoted (each_denoted m v ts) ≡ sorts_of ts
denoted_sorts m v no_terms = refl
denoted_sorts m v (t ⨾ ts) = ap (with_sort (sort_of t)) (denoted_sorts m v ts)

pub denoted_values : (m : Model) (v : Env) (ts : Terms) → values_of (each_denoted m v ts) ≡ vals m ts v
denoted_values m v no_terms = refl
denoted_values m v (t ⨾ ts) = ap (λ ws. val m t v ∷ ws) (denoted_values m v ts)

-- ---- operands and applications

mean_each : (g : Signature) (scope : List Variable) (ds : List Definition) (fs : List Form) (ts : Terms) → EachMeans g scope ds fs ts → (m : Model) (e : Meaning) (v : Env) (p : ℕ) → LiveMeant g m e → MeantScope m scope ds e v
    → mean_all (placed_behind p (forms_of_list fs) none) e m ≡ each_denoted m v ts
mean_each g scope ds [] no_terms each m e v p live known = refl
mean_each g scope ds [] (t ⨾ ts) each m e v p live known = absurd each
mean_each g scope ds (f ∷ fs) no_terms each m e v p live known = absurd each
mean_each g scope ds (f ∷ fs) (t ⨾ ts) each m e v p live known =
    ap (λ d. d ∷ mean_all (placed_behind (end_of (suc p) f) (forms_of_list fs) none) e m) (each.0.means m e v (suc p) live known)
    ∙ ap (λ qs. denoted m v t ∷ qs) (mean_each g scope ds fs ts each.1 m e v (end_of (suc p) f) live known)

pub means_application : (g : Signature) (scope : List Variable) (ds : List Definition) (h f : Form) (fs : List Form) (hd : Head) (t : Term) (ts : Terms) (ss : List Sort) → ((p : ℕ) → opening (placed p h) ≡ head (placed p h))
    → HeadMeans g scope ds h hd ss → sorts_of (t ⨾ ts) ≡ Some ss → EachMeans g scope ds (f ∷ fs) (t ⨾ ts) → Means g scope ds (application_form h (f ∷ fs)) (apply hd (t ⨾ ts))
means_application g scope ds h f fs hd t ts ss begins heads sorts each = record {
  means = λ m e v p live known.
      let q = suc (end_of (suc p) h) in
      let behind = placed_behind (end_of q f) (forms_of_list fs) none in
      ap (λ o. mean_list o (first_form (placed q f) behind) e m) (begins (suc p))
      ∙ ap (λ d. head_means (placed (suc p) h) e m (d ∷ mean_all behind e m)) (each.0.means m e v q live known)
      ∙ ap (λ qs. head_means (placed (suc p) h) e m (denoted m v t ∷ qs)) (mean_each g scope ds fs ts each.1 m e v (end_of q f) live known)
      ∙ heads.means m e v (suc p) t ts live known sorts;
}

-- ---- quantifiers

-- a test under all choices of values, as forms and as terms have it
over_runs : (g : Signature) (m : Model) (q : Quantifier) (a : Meaning → Bool) (b : Env → Bool) (xs : List Variable) (scope : List Variable) (ds : List Definition) (e : Meaning) (v : Env) → AreUsable g xs → LiveMeant g m e → MeantScope m scope ds e v
    → ((e' : Meaning) (v' : Env) → LiveMeant g m e' → MeantScope m (pushed xs scope) [] e' v' → a e' ≡ b v') → over_variables q xs m.sizes a e ≡ runs q xs m.sizes b v
over_runs g m q a b [] scope ds e v usable live known same = same e v live (meant_without m scope ds e v known)
over_runs g m q a b (x ∷ xs) scope ds e v usable live known same =
    ap (over_values q x.sort m.sizes)
    (λ i w. over_runs g m q a b xs (x ∷ scope) [] (with_bound x.name (denoted_as w x.sort) e) (assign x w v) usable.1 (live_let g m x.name (denoted_as w x.sort) e live)
    (meant_variable g m x w scope ds e v usable.0 known) same i)

pub means_quantified : (g : Signature) (scope : List Variable) (ds : List Definition) (q : Quantifier) (x : Variable) (xs : List Variable) (f : Form) (t : Term) → AreUsable g (x ∷ xs) → are_bindable (x ∷ xs) ≡ true → sort_of t ≡ Some bool
    → Means g (pushed (x ∷ xs) scope) [] f t → Means g scope ds (quantified_form q (x ∷ xs) f) (quantified q (x ∷ xs) t)
means_quantified g scope ds q x xs f t usable distinct sort body = record {
  means = λ m e v p live known.
      let part = suc (end_of (suc p) (quantifier_word q)) in
      let inner = suc (end_of part (list_form (map variable_form (x ∷ xs)))) in
      let bs = placed_in (suc part) (forms_of_list (map variable_form (x ∷ xs))) none in
      let variables : quantified_variables e.sorts bs ≡ x ∷ xs = ap (accepted_or []) (variables_read g e.sorts live.sorts x xs (suc part) usable (bindable_parts x xs distinct).0) in
      ap (λ o. mean_list o (first_form (node part bs) (first_form (placed inner f) none)) e m) (word_begins q (suc p))
      ∙ ap (λ ys. quantifier_means q ys m.sizes (λ e'. mean (placed inner f) e' m) e) variables
      ∙ ap (λ b. denoted_as (truth b) bool)
      (over_runs g m q (λ e'. is_true_of (mean (placed inner f) e' m)) (λ v'. is_true (val m t v')) (x ∷ xs) scope ds e v usable live known (λ e' v' live' known'. ap is_true_of (body.means m e' v' inner live' known')))
      ∙ ap (λ s. (val m (quantified q (x ∷ xs) t) v, s)) (sym (sort_of-quantified q (x ∷ xs) t distinct sort));
}

-- ---- `let`

definition_symbol : (p k : ℕ) → symbol_in (placed p (word_form (definition_name k))) ≡ Some (definition_name k)
definition_symbol p k = word_symbol (definition_name k) (definition_unreserved k)

pub means_let : (g : Signature) (scope : List Variable) (d : Definition) (ds : List Definition) (f : Form) (t : Term) → Means g scope ds d.form d.term → Means g scope (d ∷ ds) f t
    → Means g scope ds (let_form (definition_name (length ds)) d.form f) t
means_let g scope d ds f t first body = record {
  means = λ m e v p live known.
      let n = definition_name (length ds) in
      let part = suc (end_of (suc p) (word_form (codes "let"))) in
      let inner = suc part in
      let value = suc (end_of (suc inner) (word_form n)) in
      let last = suc (end_of part (list_form (list_form (word_form n ∷ d.form ∷ []) ∷ []))) in
      let bs = first_form (node inner (first_form (placed (suc inner) (word_form n)) (first_form (placed value d.form) none))) none in
      ap (λ o. mean_list o (first_form (node part bs) (first_form (placed last f) none)) e m) (let_begins (suc p))
      ∙ ap (λ o. mean (placed last f) (with_all (let_pair o (mean (placed value d.form) e m) []) e) m) (definition_symbol (suc inner) (length ds))
      ∙ ap (λ a. mean (placed last f) (with_bound n a e) m) (first.means m e v value live known)
      ∙ body.means m (with_bound n (denoted m v d.term) e) v last (live_let g m n (denoted m v d.term) e live) (meant_let m scope d ds e v known);
}

-- ---- names of definitions

definition_meant : (m : Model) (v : Env) (ds : List Definition) (t : Term) (e : Meaning) → is_defined ds t ≡ true → AreMeant m v ds e → e.bound (defined_name ds t) ≡ Some (denoted m v t)
definition_meant m v [] t e there are = absurd (cc)
definition_meant m v (d ∷ ds) t e there are = elim (true_or_false (term_eq d.term t)) [
  | inl here ↦ rw here (are.0 ∙ ap (λ u. Some (denoted m v u)) ((Decides-term_eq d.term t).0 here))
  | inr behind ↦ rw behind (definition_meant m v ds t e (rw behind at there) are.1)
]

-- a symbol that is bound locally
pub bound_means : (e : Meaning) (m : Model) (t : Token) (n : Name) (d : Denoted) → constant_by t.item t.text ≡ None → symbol_of t ≡ Some n → e.bound n ≡ Some d → mean (atom t) e m ≡ d
bound_means e m t n d other is bound =
    ap (token_means e m t) other ∙ ap (symbol_or_nothing e m) is ∙ ap (λ o. denoted_or o (live_or (e.live n) [] (over_constant m (truth_of n)))) bound

pub means_defined : (g : Signature) (scope : List Variable) (ds : List Definition) (t : Term) → is_defined ds t ≡ true → Means g scope ds (word_form (defined_name ds t)) t
means_defined g scope ds t there = record {
  means = λ m e v p live known.
      let named = defined_is ds t in
      let free : is_reserved (defined_name ds t) ≡ false = ap is_reserved named.1 ∙ definition_unreserved named.0 in
      bound_means e m (token_at p Word (defined_name ds t)) (defined_name ds t) (denoted m v t) refl (word_symbol (defined_name ds t) free) (definition_meant m v ds t e there known.definitions);
}
