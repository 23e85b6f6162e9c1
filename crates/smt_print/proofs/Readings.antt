-- Readings of printed forms, put together: applications, quantifiers and `let`.
use Rattle.std.proofs.Common.{◌≡◌, ℕ, suc, true, false, not, Result, Ok, Option, Some, List, [], ◌∷◌, refl, ap, ◌∙◌}
use Rattle.smt_lex.specs.Names.{Name}
use Rattle.smt_lex.specs.Forms.{Form, node, Forms, none, ◌⨾◌, forms_of_list}
use Rattle.smt_terms.specs.Fresh.{Supply}
use Rattle.smt_terms.specs.Rank.{sort_of, sorts_of}
use Rattle.smt_terms.specs.Sorts.{Sort, bool, Variable}
use Rattle.smt_terms.specs.Term.{Quantifier, Term, quantified, terms}
use Rattle.smt_terms.proofs.Operands.{more_sorts}
use Rattle.script_read.specs.Commands.{Signature}
use Rattle.script_terms.specs.Heads.{Callee, callee_of, applied}
use Rattle.script_terms.specs.Parts.{let_word, quantifier_word, head, opening, place_of, symbol_in}
use Rattle.script_terms.specs.Read.{Context, with_local, is_empty, let_name, constant_names, is_taken, below_quantifier, renamed, has_sort, draws_names, quantified_over, read, read_list, read_bindings, read_all}
use Rattle.script_terms.specs.Reading.{lets_as, ReadBinding, Sofar, live_sorts, Reading, continued, ◌>>=◌, gives, refused_if, beside, by_live}
use Rattle.script_terms.specs.declared.causes.Cause.TheVariants.{WrongSort, BadForm}
use Rattle.script_terms.specs.Refusals.{Refused, unless}
use Rattle.script_terms.specs.Variables.{quantifier_binder, variables_in}
use Rattle.smt_print.specs.TermForms.{Definition, application_form}
use Rattle.smt_print.proofs.Contexts.{AllTaken, EachTaken, LiveRead, InScope}
use Rattle.smt_print.proofs.FormTexts.{end_of, placed, placed_behind}

-- what is known: these live bindings, and the names that are left
abbrev pub knowing : List ReadBinding → List Name → ℕ → Sofar
knowing bs taken i = record { live = bs; supply = record { taken = taken; number = i } }

-- a term of this sort is read, and nothing is bound
abbrev pub IsRead : List ReadBinding → List Name → Option Sort → Result (Term × Sofar) Refused → Type 0
IsRead bs taken s r = (t : Term) × (i : ℕ) × (r ≡ Ok (t, knowing bs taken i)) × (sort_of t ≡ s)

-- the form is read wherever these variables and definitions are known
pub record Reads (g : Signature) (scope : List Variable) (ds : List Definition) (f : Form) (s : Option Sort) : Type 0 where
  pub reads : (bs : List ReadBinding) (taken : List Name) (c : Context) (p i : ℕ) → LiveRead g bs → InScope scope ds c.locals → AllTaken taken f
      → IsRead bs taken s (read (placed p f) c (knowing bs taken i))

-- forms, one by one
abbrev pub EachReads : Signature → List Variable → List Definition → List Form → List Sort → Type 0
EachReads g scope ds [] [] = Unit {0}
EachReads g scope ds (f ∷ fs) (s ∷ ss) = Reads g scope ds f (Some s) × EachReads g scope ds fs ss
EachReads g scope ds _ _ = ⊥

-- the head of an application to operands of these sorts, which has this sort
pub record HeadReads (g : Signature) (scope : List Variable) (ds : List Definition) (h : Form) (ss : List Sort) (s : Sort) : Type 0 where
  pub begins : (p : ℕ) → opening (placed p h) ≡ head (placed p h)
  pub calls : (bs : List ReadBinding) (c : Context) (p : ℕ) → LiveRead g bs → InScope scope ds c.locals
      → (callee : Callee) × (callee_of c.locals (placed p h) bs ≡ Ok callee)
      × ((place : ℕ) (ts : List Term) (st : Sofar) → sorts_of (terms ts) ≡ Some ss → (t : Term) × (applied callee place ts st ≡ Ok (t, st)) × (sort_of t ≡ Some s))

-- ---- steps

pub application_steps : (h f : Form) (fs : Forms) (p : ℕ) (c : Context) (s0 s1 s2 : Sofar) (callee : Callee) (t r : Term) (ts : List Term) → opening h ≡ head h → callee_of c.locals h s0.live ≡ Ok callee
    → read f c s0 ≡ Ok (t, s1) → read_all fs c s1 ≡ Ok (ts, s2) → applied callee p (t ∷ ts) s2 ≡ Ok (r, s2) → read (node p (h ⨾ f ⨾ fs)) c s0 ≡ Ok (r, s2)
application_steps h f fs p c s0 s1 s2 callee t r ts begins calls first others last =
    ap (λ o. read_list o (f ⨾ fs) p c s0) begins
    ∙ ap (λ q. continued (λ callee. read f c >>= (λ t. read_all fs c >>= (λ ts. applied callee p (t ∷ ts)))) (beside s0 q)) calls
    ∙ ap (continued (λ t. read_all fs c >>= (λ ts. applied callee p (t ∷ ts)))) first
    ∙ ap (continued (λ ts. applied callee p (t ∷ ts))) others
    ∙ last

next_steps : (f : Form) (fs : Forms) (c : Context) (s0 s1 s2 : Sofar) (t : Term) (ts : List Term) → read f c s0 ≡ Ok (t, s1) → read_all fs c s1 ≡ Ok (ts, s2) → read_all (f ⨾ fs) c s0 ≡ Ok (t ∷ ts, s2)
next_steps f fs c s0 s1 s2 t ts first others =
    ap (continued (λ t. read_all fs c >>= (λ ts. gives (t ∷ ts)))) first ∙ ap (continued (λ ts. gives (t ∷ ts))) others

-- the names that a quantifier's variables get
abbrev pub names_for : Context → List Variable → Sofar → List Name × Supply
names_for c xs s = constant_names (is_taken c.locals s.live) xs s.supply

pub quantified_steps : (w body : Form) (bs : Forms) (q : Quantifier) (part p : ℕ) (c : Context) (s0 s2 : Sofar) (xs : List Variable) (t : Term) → opening w ≡ quantifier_word q → is_empty bs ≡ false
    → variables_in quantifier_binder (live_sorts s0.live) [] bs ≡ Ok xs → read body (below_quantifier xs (names_for c xs s0).0 c) (record s0 { supply = (names_for c xs s0).1 }) ≡ Ok (t, s2)
    → has_sort bool t ≡ true → read (node p (w ⨾ node part bs ⨾ body ⨾ none)) c s0 ≡ Ok (quantified q (renamed xs (names_for c xs s0).0) t, s2)
quantified_steps w body bs q part p c s0 s2 xs t begins some variables inner truth =
    let rest : List Name → Reading Term = λ ns. read body (below_quantifier xs ns c) >>= (λ t. quantified_over p q (renamed xs ns) t) in
    let sorted : List Variable → Reading Term = λ xs. draws_names c xs >>= (λ ns. read body (below_quantifier xs ns c) >>= (λ t. quantified_over p q (renamed xs ns) t)) in
    ap (λ o. read_list o (node part bs ⨾ body ⨾ none) p c s0) begins
    ∙ ap (λ b. refused_if b BadForm p (by_live (λ live. variables_in quantifier_binder (live_sorts live) [] bs) >>= sorted) s0) some
    ∙ ap (λ r. continued sorted (beside s0 r)) variables
    ∙ ap (continued (λ t. quantified_over p q (renamed xs (names_for c xs s0).0) t)) inner
    ∙ ap (λ b. beside s2 (unless (not b) WrongSort p (Ok (quantified q (renamed xs (names_for c xs s0).0) t)))) truth

pub let_steps : (w x f body : Form) (p part inner : ℕ) (c : Context) (n : Name) (s0 s1 s2 : Sofar) (t u : Term) → opening w ≡ let_word → let_name [] inner (place_of x) (symbol_in x) ≡ Ok n → read f c s0 ≡ Ok (t, s1)
    → read body (with_local (lets_as (node inner (x ⨾ f ⨾ none) ⨾ none) ((n, t) ∷ [])) c) s1 ≡ Ok (u, s2)
    → read (node p (w ⨾ node part (node inner (x ⨾ f ⨾ none) ⨾ none) ⨾ body ⨾ none)) c s0 ≡ Ok (u, s2)
let_steps w x f body p part inner c n s0 s1 s2 t u begins name first last =
    let bs : Forms = node inner (x ⨾ f ⨾ none) ⨾ none in
    let bound : read_bindings bs [] c s0 ≡ Ok ((n, t) ∷ [], s1) =
    ap (λ r. continued (λ n. read f c >>= (λ t. read_bindings none (n ∷ []) c >>= (λ ts. gives ((n, t) ∷ ts)))) (beside s0 r)) name
    ∙ ap (continued (λ t. read_bindings none (n ∷ []) c >>= (λ ts. gives ((n, t) ∷ ts)))) first in
    ap (λ o. read_list o (node part bs ⨾ body ⨾ none) p c s0) begins ∙ ap (continued (λ ts. read body (with_local (lets_as bs ts) c))) bound ∙ last

-- ---- operands and applications

read_each : (g : Signature) (scope : List Variable) (ds : List Definition) (fs : List Form) (ss : List Sort) → EachReads g scope ds fs ss → (bs : List ReadBinding) (taken : List Name) (c : Context) (p i : ℕ)
    → LiveRead g bs → InScope scope ds c.locals → EachTaken taken (forms_of_list fs)
    → (ts : List Term) × (j : ℕ) × (read_all (placed_behind p (forms_of_list fs) none) c (knowing bs taken i) ≡ Ok (ts, knowing bs taken j)) × (sorts_of (terms ts) ≡ Some ss)
read_each g scope ds [] [] each bs taken c p i live known all = ([], i, refl, refl)
read_each g scope ds [] (s ∷ ss) each bs taken c p i live known all = absurd each
read_each g scope ds (f ∷ fs) [] each bs taken c p i live known all = absurd each
read_each g scope ds (f ∷ fs) (s ∷ ss) each bs taken c p i live known all =
    let first = each.0.reads bs taken c (suc p) i live known all.0 in
    let others = read_each g scope ds fs ss each.1 bs taken c (end_of (suc p) f) first.1 live known all.1 in (
      first.0 ∷ others.0,
      others.1,
      next_steps (placed (suc p) f) (placed_behind (end_of (suc p) f) (forms_of_list fs) none) c (knowing bs taken i) (knowing bs taken first.1) (knowing bs taken others.1) first.0 others.0 first.2 others.2,
      more_sorts first.0 (terms others.0) s ss first.3 others.3,
    )

pub reads_application : (g : Signature) (scope : List Variable) (ds : List Definition) (h f : Form) (fs : List Form) (ss : List Sort) (s : Sort) → HeadReads g scope ds h ss s → EachReads g scope ds (f ∷ fs) ss
    → Reads g scope ds (application_form h (f ∷ fs)) (Some s)
reads_application g scope ds h f fs [] s heads each = absurd each
reads_application g scope ds h f fs (u ∷ us) s heads each = record {
  reads = λ bs taken c p i live known all.
      let q = suc (end_of (suc p) h) in
      let called = heads.calls bs c (suc p) live known in
      let first = each.0.reads bs taken c q i live known all.1.0 in
      let others = read_each g scope ds fs us each.1 bs taken c (end_of q f) first.1 live known all.1.1 in
      let made = called.2 p (first.0 ∷ others.0) (knowing bs taken others.1) (more_sorts first.0 (terms others.0) u us first.3 others.3) in (
        made.0,
        others.1,
        application_steps (placed (suc p) h) (placed q f) (placed_behind (end_of q f) (forms_of_list fs) none) p c (knowing bs taken i) (knowing bs taken first.1) (knowing bs taken others.1)
            called.0 first.0 made.0 others.0 (heads.begins (suc p)) called.1 first.2 others.2 made.1,
        made.2,
      );
}
