-- Printed terms stand for the terms, in both layouts: their forms are read as terms of the same sort, and mean the same.
use Rattle.std.proofs.Common.{◌≡◌, ◌≤◌, inl, inr, true, false, Ok, Some, List, [], ◌∷◌, length, refl, ap, sym, subst, ◌∙◌, arith}
use Rattle.smt_lex.specs.Forms.{Form}
use Rattle.smt_terms.specs.declared.op.Op.{Op}
use Rattle.smt_terms.specs.declared.op.Op.TheVariants.{Bits}
use Rattle.smt_terms.specs.Equal.{term_eq}
use Rattle.smt_terms.specs.Rank.{most_bits, width, rank, sort_of, sorts_of, are_bindable, shape}
use Rattle.smt_terms.specs.Sorts.{Sort, bool, int, bit_vector, array, free_sort, Variable}
use Rattle.smt_terms.specs.Term.{Quantifier, Head, op, symbol, const_array, Term, apply, quantified, Terms, none, ◌⨾◌}
use Rattle.smt_terms.proofs.Equal.{Decides-term_eq}
use Rattle.smt_terms.proofs.Operands.{more_sorts}
use Rattle.smt_terms.proofs.Ranked.{rank-takes, rank-narrow}
use Rattle.smt_terms.proofs.Sorted.{sort_of-apply, sort_of-quantified}
use Rattle.smt_terms.proofs.Tests.{true_or_false, left_true, right_true}
use Rattle.script_read.specs.Commands.{Signature}
use Rattle.term_table.specs.WrittenForms.{word_form}
use Rattle.smt_print.specs.TermForms.{operator_form, head_form, application_form, quantified_form, tree_form, tree_forms, Definition, definition_name, is_defined, defined_name, reference, references, with_definition, with_application, let_form, below_lets, defined_form, definitions, definitions_in, dag_form}
use Rattle.smt_print.proofs.BindersRead.{reads_quantified, reads_let, reads_defined}
use Rattle.smt_print.proofs.Contexts.{pushed}
use Rattle.smt_print.proofs.HeadsMeant.{head_means_over, means_head}
use Rattle.smt_print.proofs.LeavesRead.{IsLeaf, truth_leaf, whole_leaf, bits_leaf, leaf, no_filling, HeadFits, head_reads, reads_head}
use Rattle.smt_print.proofs.Meanings.{Means, EachMeans, means_application, means_quantified, means_let, means_defined}
use Rattle.smt_print.proofs.Readings.{Reads, EachReads, reads_application}
use Rattle.smt_print.proofs.Scopes.{AreUsable}
use Rattle.smt_print.proofs.Silent.{IsSilent, AreSilent, atom_silent, application_silent, quantified_silent, let_silent, integer_silent, vector_silent}
use Rattle.smt_print.proofs.SortsRead.{SortFits}
use Rattle.smt_print.proofs.Writable.{HasNames}
use Rattle.smt_print.proofs.WritableTerms.{HasBits, IsWritableHead, AreWritableVariables, IsWritable, AreWritable}

-- ---- terms that fit where these symbols and sorts are live and these variables are quantified

abbrev mutual
  pub Fits : Signature → List Variable → Term → Sort → Type 0
  Fits g scope (apply h ts) s = (ss : List Sort) × AllFit g scope ts ss × HeadFits g scope h × (rank h ss ≡ Ok s)
  Fits g scope (quantified q xs t) s = AreUsable g xs × (are_bindable xs ≡ true) × Fits g (pushed xs scope) t bool × (s ≡ bool)

  pub AllFit : Signature → List Variable → Terms → List Sort → Type 0
  AllFit g scope none ss = ss ≡ []
  AllFit g scope (t ⨾ ts) ss = (s : Sort) × (us : List Sort) × Fits g scope t s × AllFit g scope ts us × (ss ≡ s ∷ us)

mutual
  pub fits_sort : (g : Signature) (scope : List Variable) (t : Term) (s : Sort) → Fits g scope t s → sort_of t ≡ Some s
  fits_sort g scope (apply h ts) s fits = sort_of-apply h ts fits.0 s (fit_sorts g scope ts fits.0 fits.1) fits.3
  fits_sort g scope (quantified q xs t) s fits = sort_of-quantified q xs t fits.1 (fits_sort g (pushed xs scope) t bool fits.2) ∙ ap Some (sym fits.3)

  fit_sorts : (g : Signature) (scope : List Variable) (ts : Terms) (ss : List Sort) → AllFit g scope ts ss → sorts_of ts ≡ Some ss
  fit_sorts g scope none ss fit = ap Some (sym fit)
  fit_sorts g scope (t ⨾ ts) ss fit = more_sorts t ts fit.0 fit.1 (fits_sort g scope t fit.0 fit.2) (fit_sorts g scope ts fit.1 fit.3) ∙ ap Some (sym fit.4)

fits_narrow : (g : Signature) (scope : List Variable) (t : Term) (s : Sort) → Fits g scope t s → width s ≤ most_bits
fits_narrow g scope (apply h ts) s fits = rank-narrow h fits.0 s fits.3
fits_narrow g scope (quantified q xs t) s fits = subst (λ u. width u ≤ most_bits) (sym fits.3) (omega arith)

-- ---- forms that stand for terms

pub record Stands (g : Signature) (scope : List Variable) (ds : List Definition) (f : Form) (t : Term) (s : Sort) : Type 0 where
  pub reads : Reads g scope ds f (Some s)
  pub means : Means g scope ds f t
  pub silent : IsSilent f

pub record EachStands (g : Signature) (scope : List Variable) (ds : List Definition) (fs : List Form) (ts : Terms) (ss : List Sort) : Type 0 where
  pub reads : EachReads g scope ds fs ss
  pub means : EachMeans g scope ds fs ts
  pub silent : AreSilent fs

constant_silent : (o : Op) (s : Sort) → IsLeaf o s → IsSilent (operator_form o)
unfolding operator_form
constant_silent _ _ (truth_leaf true) = atom_silent _
constant_silent _ _ (truth_leaf false) = atom_silent _
constant_silent _ _ (whole_leaf n few) = integer_silent n
constant_silent _ _ (bits_leaf w n some few less) = vector_silent w n

head_silent : (h : Head) (s : Sort) → rank h [] ≡ Ok s → IsSilent (head_form h)
head_silent (op o) s ranked = constant_silent o s (leaf o s ranked)
head_silent (symbol f) s ranked = atom_silent _
head_silent (const_array a) s ranked = absurd (no_filling a s ranked)

leaf_stands : (g : Signature) (scope : List Variable) (ds : List Definition) (h : Head) (s : Sort) → Fits g scope (apply h none) s → Stands g scope ds (head_form h) (apply h none) s
leaf_stands g scope ds h s fits =
    let ranked : rank h [] ≡ Ok s = subst (λ us. rank h us ≡ Ok s) fits.1 fits.3 in
    record { reads = reads_head g scope ds h s fits.2 ranked; means = means_head g scope ds h s fits.2 ranked; silent = head_silent h s ranked }

application_stands : (g : Signature) (scope : List Variable) (ds : List Definition) (h : Head) (f : Form) (fs : List Form) (t : Term) (ts : Terms) (s : Sort) → (fits : Fits g scope (apply h (t ⨾ ts)) s) → EachStands g scope ds (f ∷ fs) (t ⨾ ts) fits.0
    → Stands g scope ds (application_form (head_form h) (f ∷ fs)) (apply h (t ⨾ ts)) s
application_stands g scope ds h f fs t ts s fits each =
    let u = fits.1.0 in
    let us = fits.1.1 in
    let same : fits.0 ≡ u ∷ us = fits.1.4 in
    let ranked : rank h (u ∷ us) ≡ Ok s = subst (λ vs. rank h vs ≡ Ok s) same fits.3 in
    let narrow : width u ≤ most_bits = fits_narrow g scope t u fits.1.2 in
    let sorts : sorts_of (t ⨾ ts) ≡ Some (u ∷ us) = fit_sorts g scope (t ⨾ ts) fits.0 fits.1 ∙ ap Some same in
    let heads = head_reads g scope ds h u us s fits.2 narrow ranked in
    record {
      reads = reads_application g scope ds (head_form h) f fs (u ∷ us) s heads (subst (EachReads g scope ds (f ∷ fs)) same each.reads);
      means = means_application g scope ds (head_form h) f fs h t ts (u ∷ us) heads.begins (head_means_over g scope ds h u us s fits.2 narrow ranked) sorts each.means;
      silent = application_silent (head_form h) f fs heads.begins each.silent;
    }

quantified_stands : (g : Signature) (scope : List Variable) (ds : List Definition) (q : Quantifier) (xs : List Variable) (f : Form) (t : Term) → AreUsable g xs → are_bindable xs ≡ true → sort_of t ≡ Some bool
    → Stands g (pushed xs scope) [] f t bool → Stands g scope ds (quantified_form q xs f) (quantified q xs t) bool
quantified_stands g scope ds q [] f t usable distinct sort body = absurd (cc)
quantified_stands g scope ds q (x ∷ xs) f t usable distinct sort body = record {
  reads = reads_quantified g scope ds q x xs f usable distinct body.reads;
  means = means_quantified g scope ds q x xs f t usable distinct sort body.means;
  silent = quantified_silent q (x ∷ xs) f body.silent;
}

let_stands : (g : Signature) (scope : List Variable) (d : Definition) (ds : List Definition) (f : Form) (t : Term) (u s : Sort) → sort_of d.term ≡ Some u → Stands g scope ds d.form d.term u → Stands g scope (d ∷ ds) f t s
    → Stands g scope ds (let_form (definition_name (length ds)) d.form f) t s
let_stands g scope d ds f t u s sort first body = record {
  reads = reads_let g scope d ds f (Some s) (subst (Reads g scope ds d.form) (sym sort) first.reads) body.reads;
  means = means_let g scope d ds f t first.means body.means;
  silent = let_silent (length ds) d.form f first.silent body.silent;
}

at_sort : (g : Signature) (scope : List Variable) (ds : List Definition) (f : Form) (t : Term) (r s : Sort) → r ≡ s → Stands g scope ds f t r → Stands g scope ds f t s
at_sort g scope ds f t r s same stands = subst (Stands g scope ds f t) same stands

-- one more operand
one_more : (g : Signature) (scope : List Variable) (ds : List Definition) (f : Form) (fs : List Form) (t : Term) (ts : Terms) (s : Sort) (us ss : List Sort) → ss ≡ s ∷ us → Stands g scope ds f t s → EachStands g scope ds fs ts us
    → EachStands g scope ds (f ∷ fs) (t ⨾ ts) ss
one_more g scope ds f fs t ts s us ss same first others =
    record { reads = subst (EachReads g scope ds (f ∷ fs)) (sym same) (first.reads, others.reads); means = (first.means, others.means); silent = (first.silent, others.silent) }

no_more : (g : Signature) (scope : List Variable) (ds : List Definition) (ss : List Sort) → ss ≡ [] → EachStands g scope ds [] none ss
no_more g scope ds ss same = record { reads = subst (EachReads g scope ds []) (sym same) tt; means = tt; silent = tt }

-- ---- as a tree

mutual
  pub tree_stands : (g : Signature) (scope : List Variable) (t : Term) (s : Sort) → Fits g scope t s → Stands g scope [] (tree_form t) t s
  tree_stands g scope (apply h none) s fits = leaf_stands g scope [] h s fits
  tree_stands g scope (apply h (t ⨾ ts)) s fits =
      application_stands g scope [] h (tree_form t) (tree_forms ts) t ts s fits
      (one_more g scope [] (tree_form t) (tree_forms ts) t ts fits.1.0 fits.1.1 fits.0 fits.1.4 (tree_stands g scope t fits.1.0 fits.1.2) (trees_stand g scope ts fits.1.1 fits.1.3))
  tree_stands g scope (quantified q xs t) s fits =
      at_sort g scope [] (quantified_form q xs (tree_form t)) (quantified q xs t) bool s (sym fits.3)
      (quantified_stands g scope [] q xs (tree_form t) t fits.0 fits.1 (fits_sort g (pushed xs scope) t bool fits.2) (tree_stands g (pushed xs scope) t bool fits.2))

  trees_stand : (g : Signature) (scope : List Variable) (ts : Terms) (ss : List Sort) → AllFit g scope ts ss → EachStands g scope [] (tree_forms ts) ts ss
  trees_stand g scope none ss fit = no_more g scope [] ss fit
  trees_stand g scope (t ⨾ ts) ss fit =
      one_more g scope [] (tree_form t) (tree_forms ts) t ts fit.0 fit.1 ss fit.4 (tree_stands g scope t fit.0 fit.2) (trees_stand g scope ts fit.1 fit.3)

-- ---- as a graph: what is defined

-- the term has no operands, or it is defined
abbrev IsKnown : List Definition → Term → Type 0
IsKnown ds (apply h none) = Unit {0}
IsKnown ds t = is_defined ds t ≡ true

abbrev AllKnown : List Definition → Terms → Type 0
AllKnown ds none = Unit {0}
AllKnown ds (t ⨾ ts) = IsKnown ds t × AllKnown ds ts

-- what is defined stays so
abbrev Grows : List Definition → List Definition → Type 0
Grows ds es = (u : Term) → is_defined ds u ≡ true → is_defined es u ≡ true

definition_grows : (t : Term) (f : Form) (ds : List Definition) → Grows ds (with_definition t f ds)
definition_grows t f ds u there = elim (true_or_false (is_defined ds t)) [ inl known ↦ rw known there | inr new ↦ rw new (right_true (term_eq t u) (is_defined ds u) there) ]

definition_known : (t : Term) (f : Form) (ds : List Definition) → is_defined (with_definition t f ds) t ≡ true
definition_known t f ds = elim (true_or_false (is_defined ds t)) [
  | inl known ↦ rw known known
  | inr new ↦ rw new (left_true (term_eq t t) (is_defined ds t) ((Decides-term_eq t t).1 refl))
]

application_grows : (h : Head) (ts : Terms) (ds : List Definition) → Grows ds (with_application h ts ds)
application_grows h none ds u there = there
application_grows h (t ⨾ ts) ds u there = definition_grows (apply h (t ⨾ ts)) (application_form (head_form h) (references ds (t ⨾ ts))) ds u there

mutual
  term_grows : (t : Term) (ds : List Definition) → Grows ds (definitions t ds)
  term_grows (apply h ts) ds u there = application_grows h ts (definitions_in ts ds) u (terms_grow ts ds u there)
  term_grows (quantified q xs t) ds u there = definition_grows (quantified q xs t) (quantified_form q xs (defined_form (definitions t []) t)) ds u there

  terms_grow : (ts : Terms) (ds : List Definition) → Grows ds (definitions_in ts ds)
  terms_grow none ds u there = there
  terms_grow (t ⨾ ts) ds u there = terms_grow ts (definitions t ds) u (term_grows t ds u there)

known_grows : (ds es : List Definition) (t : Term) → Grows ds es → IsKnown ds t → IsKnown es t
known_grows ds es (apply h none) grows known = tt
known_grows ds es (apply h (t ⨾ ts)) grows known = grows (apply h (t ⨾ ts)) known
known_grows ds es (quantified q xs t) grows known = grows (quantified q xs t) known

term_known : (t : Term) (ds : List Definition) → IsKnown (definitions t ds) t
term_known (apply h none) ds = tt
term_known (apply h (t ⨾ ts)) ds = definition_known (apply h (t ⨾ ts)) (application_form (head_form h) (references (definitions_in (t ⨾ ts) ds) (t ⨾ ts))) (definitions_in (t ⨾ ts) ds)
term_known (quantified q xs t) ds = definition_known (quantified q xs t) (quantified_form q xs (defined_form (definitions t []) t)) ds

terms_known : (ts : Terms) (ds : List Definition) → AllKnown (definitions_in ts ds) ts
terms_known none ds = tt
terms_known (t ⨾ ts) ds = (known_grows (definitions t ds) (definitions_in ts (definitions t ds)) t (terms_grow ts (definitions t ds)) (term_known t ds), terms_known ts (definitions t ds))

-- ---- as a graph: definitions and references

-- each definition's form stands for its term where the earlier ones stand above it
abbrev AreDefinitions : Signature → List Variable → List Definition → Type 0
AreDefinitions g scope [] = Unit {0}
AreDefinitions g scope (d ∷ ds) = (s : Sort) × (sort_of d.term ≡ Some s) × Stands g scope ds d.form d.term s × AreDefinitions g scope ds

defined_stands : (g : Signature) (scope : List Variable) (ds : List Definition) (t : Term) (s : Sort) → sort_of t ≡ Some s → is_defined ds t ≡ true → Stands g scope ds (word_form (defined_name ds t)) t s
defined_stands g scope ds t s sort there =
    record { reads = subst (Reads g scope ds (word_form (defined_name ds t))) sort (reads_defined g scope ds t there); means = means_defined g scope ds t there; silent = atom_silent _ }

reference_stands : (g : Signature) (scope : List Variable) (ds : List Definition) (t : Term) (s : Sort) → Fits g scope t s → IsKnown ds t → Stands g scope ds (reference ds t) t s
reference_stands g scope ds (apply h none) s fits known = leaf_stands g scope ds h s fits
reference_stands g scope ds (apply h (t ⨾ ts)) s fits known = defined_stands g scope ds (apply h (t ⨾ ts)) s (fits_sort g scope (apply h (t ⨾ ts)) s fits) known
reference_stands g scope ds (quantified q xs t) s fits known = defined_stands g scope ds (quantified q xs t) s (fits_sort g scope (quantified q xs t) s fits) known

references_stand : (g : Signature) (scope : List Variable) (ds : List Definition) (ts : Terms) (ss : List Sort) → AllFit g scope ts ss → AllKnown ds ts → EachStands g scope ds (references ds ts) ts ss
references_stand g scope ds none ss fit known = no_more g scope ds ss fit
references_stand g scope ds (t ⨾ ts) ss fit known =
    one_more g scope ds (reference ds t) (references ds ts) t ts fit.0 fit.1 ss fit.4 (reference_stands g scope ds t fit.0 fit.2 known.0) (references_stand g scope ds ts fit.1 fit.3 known.1)

with_one : (g : Signature) (scope : List Variable) (t : Term) (f : Form) (ds : List Definition) (s : Sort) → sort_of t ≡ Some s → Stands g scope ds f t s → AreDefinitions g scope ds → AreDefinitions g scope (with_definition t f ds)
with_one g scope t f ds s sort stands are = elim (true_or_false (is_defined ds t)) [ inl known ↦ rw known are | inr new ↦ rw new (s, sort, stands, are) ]

lets_stand : (g : Signature) (scope : List Variable) (ds : List Definition) (f : Form) (t : Term) (s : Sort) → AreDefinitions g scope ds → Stands g scope ds f t s → Stands g scope [] (below_lets ds f) t s
lets_stand g scope [] f t s are stands = stands
lets_stand g scope (d ∷ ds) f t s are stands =
    lets_stand g scope ds (let_form (definition_name (length ds)) d.form f) t s are.3 (let_stands g scope d ds f t are.0 s are.1 are.2 stands)

below_definitions : (g : Signature) (scope : List Variable) (t : Term) (s : Sort) → Fits g scope t s → AreDefinitions g scope (definitions t []) → Stands g scope [] (defined_form (definitions t []) t) t s
below_definitions g scope t s fits are =
    lets_stand g scope (definitions t []) (reference (definitions t []) t) t s are (reference_stands g scope (definitions t []) t s fits (term_known t []))

in_application : (g : Signature) (scope : List Variable) (h : Head) (ts : Terms) (ds : List Definition) (s : Sort) → (fits : Fits g scope (apply h ts) s) → AllKnown ds ts → AreDefinitions g scope ds → AreDefinitions g scope (with_application h ts ds)
in_application g scope h none ds s fits known are = are
in_application g scope h (t ⨾ ts) ds s fits known are =
    with_one g scope (apply h (t ⨾ ts)) (application_form (head_form h) (references ds (t ⨾ ts))) ds s (fits_sort g scope (apply h (t ⨾ ts)) s fits)
    (application_stands g scope ds h (reference ds t) (references ds ts) t ts s fits (references_stand g scope ds (t ⨾ ts) fits.0 fits.1 known)) are

mutual
  term_defined : (g : Signature) (t : Term) (scope : List Variable) (s : Sort) (ds : List Definition) → Fits g scope t s → AreDefinitions g scope ds → AreDefinitions g scope (definitions t ds)
  term_defined g (apply h ts) scope s ds fits are = in_application g scope h ts (definitions_in ts ds) s fits (terms_known ts ds) (terms_defined g ts scope fits.0 ds fits.1 are)
  term_defined g (quantified q xs t) scope s ds fits are =
      with_one g scope (quantified q xs t) (quantified_form q xs (defined_form (definitions t []) t)) ds bool (fits_sort g scope (quantified q xs t) s fits ∙ ap Some fits.3)
      (quantified_stands g scope ds q xs (defined_form (definitions t []) t) t fits.0 fits.1 (fits_sort g (pushed xs scope) t bool fits.2)
      (below_definitions g (pushed xs scope) t bool fits.2 (term_defined g t (pushed xs scope) bool [] fits.2 tt))) are

  terms_defined : (g : Signature) (ts : Terms) (scope : List Variable) (ss : List Sort) (ds : List Definition) → AllFit g scope ts ss → AreDefinitions g scope ds → AreDefinitions g scope (definitions_in ts ds)
  terms_defined g none scope ss ds fit are = are
  terms_defined g (t ⨾ ts) scope ss ds fit are = terms_defined g ts scope fit.1 (definitions t ds) fit.3 (term_defined g t scope fit.0 ds fit.2 are)

pub dag_stands : (g : Signature) (t : Term) (s : Sort) → Fits g [] t s → Stands g [] [] (dag_form t) t s
dag_stands g t s fits = below_definitions g [] t s fits (term_defined g t [] s [] fits tt)

-- ---- terms that fit can be written

pub sort_names : (g : Signature) (s : Sort) → SortFits g s → HasNames s
sort_names g bool fits = tt
sort_names g int fits = tt
sort_names g (bit_vector w) fits = tt
sort_names g (array i e) fits = (sort_names g i fits.1, sort_names g e fits.2)
sort_names g (free_sort n) fits = fits.2

has_bits : (o : Op) (ss : List Sort) (s : Sort) → rank (op o) ss ≡ Ok s → HasBits o
unfolding shape
has_bits (Bits w n) ss s r = (rank-takes (op (Bits w n)) ss s r).1
has_bits _ ss s r = tt

writable_head : (g : Signature) (scope : List Variable) (h : Head) (ss : List Sort) (s : Sort) → HeadFits g scope h → rank h ss ≡ Ok s → IsWritableHead h
writable_head g scope (op o) ss s fits ranked = has_bits o ss s ranked
writable_head g scope (symbol f) ss s fits ranked = fits.2
writable_head g scope (const_array a) ss s fits ranked = sort_names g a fits

writable_variables : (g : Signature) (xs : List Variable) → AreUsable g xs → AreWritableVariables xs
writable_variables g [] usable = tt
writable_variables g (x ∷ xs) usable = (usable.0.name, sort_names g x.sort usable.0.sort, writable_variables g xs usable.1)

mutual
  pub writable : (g : Signature) (t : Term) (scope : List Variable) (s : Sort) → Fits g scope t s → IsWritable t
  writable g (apply h ts) scope s fits = (writable_head g scope h fits.0 s fits.2 fits.3, all_writable g ts scope fits.0 fits.1)
  writable g (quantified q xs t) scope s fits = (writable_variables g xs fits.0, writable g t (pushed xs scope) bool fits.2)

  all_writable : (g : Signature) (ts : Terms) (scope : List Variable) (ss : List Sort) → AllFit g scope ts ss → AreWritable ts
  all_writable g none scope ss fit = tt
  all_writable g (t ⨾ ts) scope ss fit = (writable g t scope fit.0 fit.2, all_writable g ts scope fit.1 fit.3)
