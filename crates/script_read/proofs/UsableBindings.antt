-- Live bindings whose sorts and terms have declared sorts that are live behind them, and quantified names that may be
-- quantified.
use Rattle.std.proofs.Common.{◌≡◌, ◌∙◌, sym, ap, subst, refl, ℕ, zero, suc, inl, inr, Bool, true, false, List, [], ◌∷◌, ◌++◌, Option, Some}
use Rattle.std.specs.Prelude.{⊤, ◌&&◌}
use Rattle.std.specs.List.{list_all}
use Rattle.smt_lex.specs.Names.{Name, is_among}
use Rattle.smt_terms.specs.Equal.{name_eq}
use Rattle.smt_terms.specs.Sorts.{Sort, bool, int, bit_vector, array, free_sort, Variable}
use Rattle.smt_terms.specs.Term.{symbol, Term, apply, quantified, Terms, none, ◌⨾◌}
use Rattle.smt_terms.proofs.Tests.{and_true, both_true, either_true, left_true, right_true}
use Rattle.script_read.specs.Printable.{is_usable, sort_is_live, head_sorts, all_within, all_within_each}
use Rattle.script_terms.specs.Reading.{ReadBinding, sort_known, function_known, definition_as, named_as, level_known, is_level_known, Entry, symbol_entry, definition_entry, term_entry, entry_of, live_sorts}
use Rattle.script_terms.specs.Scope.{or_later, opened, closed, merged, flattened, popped, emptied}
use Rattle.script_read.proofs.LiveSorts.{SortsLive}
use Rattle.script_read.proofs.ShownLevels.{is_own, name_last_if, sorts_known}

-- ---- more declared sorts

abbrev pub More : List Name → List Name → Type 0
More ds es = (n : Name) → is_among ds n ≡ true → is_among es n ≡ true

-- sorts and names that are usable where these sorts are live
abbrev pub IsUsableTerm : List Name → Term → Type 0
IsUsableTerm ds t = all_within (sort_is_live ds) is_usable t ≡ true

abbrev pub AreUsableTerms : List Name → Terms → Type 0
AreUsableTerms ds ts = all_within_each (sort_is_live ds) is_usable ts ≡ true

module _ (ds es : List Name) (more : More ds es) where
  pub sort_more : (s : Sort) → sort_is_live ds s ≡ true → sort_is_live es s ≡ true
  sort_more bool h = refl
  sort_more int h = refl
  sort_more (bit_vector w) h = refl
  sort_more (array i e) h = let parts = both_true (sort_is_live ds i) (sort_is_live ds e) h in and_true (sort_is_live es i) (sort_is_live es e) (sort_more i parts.0) (sort_more e parts.1)
  sort_more (free_sort n) h = more n h

  sorts_more : (ss : List Sort) → list_all (sort_is_live ds) ss ≡ true → list_all (sort_is_live es) ss ≡ true
  sorts_more [] h = refl
  sorts_more (s ∷ ss) h = let parts = both_true (sort_is_live ds s) (list_all (sort_is_live ds) ss) h in and_true (sort_is_live es s) (list_all (sort_is_live es) ss) (sort_more s parts.0) (sorts_more ss parts.1)

  variables_more : (xs : List Variable) → list_all (λ x. sort_is_live ds x.sort && is_usable x.name) xs ≡ true → list_all (λ x. sort_is_live es x.sort && is_usable x.name) xs ≡ true
  variables_more [] h = refl
  variables_more (x ∷ xs) h =
      let parts = both_true (sort_is_live ds x.sort && is_usable x.name) (list_all (λ x. sort_is_live ds x.sort && is_usable x.name) xs) h in
      let here = both_true (sort_is_live ds x.sort) (is_usable x.name) parts.0 in
      and_true (sort_is_live es x.sort && is_usable x.name) (list_all (λ x. sort_is_live es x.sort && is_usable x.name) xs) (and_true (sort_is_live es x.sort) (is_usable x.name) (sort_more x.sort here.0) here.1) (variables_more xs parts.1)

  mutual
    term_more : (t : Term) → IsUsableTerm ds t → IsUsableTerm es t
    term_more (apply h ts) fine =
        let parts = both_true (list_all (sort_is_live ds) (head_sorts h)) (all_within_each (sort_is_live ds) is_usable ts) fine in
        and_true (list_all (sort_is_live es) (head_sorts h)) (all_within_each (sort_is_live es) is_usable ts) (sorts_more (head_sorts h) parts.0) (terms_more ts parts.1)
    term_more (quantified q xs t) fine =
        let parts = both_true (list_all (λ x. sort_is_live ds x.sort && is_usable x.name) xs) (all_within (sort_is_live ds) is_usable t) fine in
        and_true (list_all (λ x. sort_is_live es x.sort && is_usable x.name) xs) (all_within (sort_is_live es) is_usable t) (variables_more xs parts.0) (term_more t parts.1)

    terms_more : (ts : Terms) → AreUsableTerms ds ts → AreUsableTerms es ts
    terms_more none fine = refl
    terms_more (t ⨾ ts) fine =
        let parts = both_true (all_within (sort_is_live ds) is_usable t) (all_within_each (sort_is_live ds) is_usable ts) fine in
        and_true (all_within (sort_is_live es) is_usable t) (all_within_each (sort_is_live es) is_usable ts) (term_more t parts.0) (terms_more ts parts.1)

-- ---- what is known of bindings

-- where these sorts are declared, by it or behind it
abbrev pub BindingUsable : List Name → ReadBinding → Type 0
BindingUsable ds (sort_known n r) = sort_is_live ds r ≡ true
BindingUsable ds (function_known f) = list_all (sort_is_live ds) (head_sorts (symbol f)) ≡ true
BindingUsable ds (definition_as n xs body t) = IsUsableTerm ds t
BindingUsable ds (named_as names f t ls) = IsUsableTerm ds t
BindingUsable ds level_known = ⊤

abbrev pub AllUsable : List ReadBinding → Type 0
AllUsable [] = ⊤
AllUsable (b ∷ bs) = BindingUsable (sorts_known (b ∷ bs)) b × AllUsable bs

abbrev pub EntryUsable : List Name → Entry → Type 0
EntryUsable ds (symbol_entry f) = list_all (sort_is_live ds) (head_sorts (symbol f)) ≡ true
EntryUsable ds (definition_entry xs t) = IsUsableTerm ds t
EntryUsable ds (term_entry t) = IsUsableTerm ds t

among_before : (ns : List Name) (m n : Name) → is_among ns n ≡ true → is_among (ns ++ m ∷ []) n ≡ true
among_before [] m n h = absurd (cc)
among_before (k ∷ ns) m n h = elim (either_true (name_eq n k) (is_among ns n) h) [
  | inl here ↦ left_true (name_eq n k) (is_among (ns ++ m ∷ []) n) here
  | inr behind ↦ right_true (name_eq n k) (is_among (ns ++ m ∷ []) n) (among_before ns m n behind)
]

last_more : (b : Bool) (m : Name) (ns : List Name) → More ns (name_last_if b m ns)
last_more true m ns n h = among_before ns m n h
last_more false m ns n h = h

entry_more : (ds es : List Name) → More ds es → (x : Entry) → EntryUsable ds x → EntryUsable es x
entry_more ds es more (symbol_entry f) h = sorts_more ds es more (head_sorts (symbol f)) h
entry_more ds es more (definition_entry xs t) h = term_more ds es more t h
entry_more ds es more (term_entry t) h = term_more ds es more t h

front_usable : (ds : List Name) (y x : Entry) (b : Bool) (o : Option Entry) → or_later b y o ≡ Some x → EntryUsable ds y → (o ≡ Some x → EntryUsable ds x) → EntryUsable ds x
front_usable ds y x true o h here below = let same : y ≡ x = cc in subst (EntryUsable ds) same here
front_usable ds y x false o h here below = below h

pub entry_usable : (bs : List ReadBinding) → AllUsable bs → (n : Name) (x : Entry) → entry_of bs n ≡ Some x → EntryUsable (sorts_known bs) x
entry_usable [] all n x h = absurd cc
entry_usable (sort_known k r ∷ bs) all n x h = entry_more (sorts_known bs) (name_last_if (is_own k r) k (sorts_known bs)) (last_more (is_own k r) k (sorts_known bs)) x (entry_usable bs all.1 n x h)
entry_usable (function_known f ∷ bs) all n x h = front_usable (sorts_known bs) (symbol_entry f) x (name_eq f.name n) (entry_of bs n) h all.0 (λ k. entry_usable bs all.1 n x k)
entry_usable (definition_as j xs body t ∷ bs) all n x h = front_usable (sorts_known bs) (definition_entry xs t) x (name_eq j n) (entry_of bs n) h all.0 (λ k. entry_usable bs all.1 n x k)
entry_usable (named_as names f t ls ∷ bs) all n x h = front_usable (sorts_known bs) (term_entry t) x (is_among names n) (entry_of bs n) h all.0 (λ k. entry_usable bs all.1 n x k)
entry_usable (level_known ∷ bs) all n x h = entry_usable bs all.1 n x h

pub sorts_usable : (bs : List ReadBinding) → AllUsable bs → SortsLive (sorts_known bs) (live_sorts bs)
sorts_usable [] all n r h = absurd cc
sorts_usable (sort_known k q ∷ bs) all n r h = go (name_eq k n) h (sorts_usable bs all.1 n r)
  where
    go : (b : Bool) → or_later b q (live_sorts bs n) ≡ Some r → (live_sorts bs n ≡ Some r → sort_is_live (sorts_known bs) r ≡ true) → sort_is_live (sorts_known (sort_known k q ∷ bs)) r ≡ true
    go true e below = let same : q ≡ r = cc in ap (sort_is_live (sorts_known (sort_known k q ∷ bs))) (sym same) ∙ all.0
    go false e below = sort_more (sorts_known bs) (name_last_if (is_own k q) k (sorts_known bs)) (last_more (is_own k q) k (sorts_known bs)) r (below e)
sorts_usable (function_known f ∷ bs) all n r h = sorts_usable bs all.1 n r h
sorts_usable (definition_as j xs body t ∷ bs) all n r h = sorts_usable bs all.1 n r h
sorts_usable (named_as names f t ls ∷ bs) all n r h = sorts_usable bs all.1 n r h
sorts_usable (level_known ∷ bs) all n r h = sorts_usable bs all.1 n r h

-- ---- levels

same_front : (b : ReadBinding) (bs cs : List ReadBinding) → sorts_known bs ≡ sorts_known cs → sorts_known (b ∷ bs) ≡ sorts_known (b ∷ cs)
same_front (sort_known n r) bs cs same = ap (name_last_if (is_own n r) n) same
same_front (function_known f) bs cs same = same
same_front (definition_as n xs body t) bs cs same = same
same_front (named_as names f t ls) bs cs same = same
same_front level_known bs cs same = same

merged_known : (n : ℕ) (bs : List ReadBinding) → sorts_known (merged is_level_known n bs) ≡ sorts_known bs
merged_known n [] = refl
merged_known zero (b ∷ bs) = refl
merged_known (suc n) (level_known ∷ bs) = merged_known n bs
merged_known (suc n) (b ∷ bs) = same_front b (merged is_level_known (suc n) bs) bs (merged_known (suc n) bs)

flattened_known : (bs : List ReadBinding) → sorts_known (flattened is_level_known bs) ≡ sorts_known bs
flattened_known [] = refl
flattened_known (level_known ∷ bs) = flattened_known bs
flattened_known (b ∷ bs) = same_front b (flattened is_level_known bs) bs (flattened_known bs)

pub usable_opened : (n : ℕ) (bs : List ReadBinding) → AllUsable bs → AllUsable (opened level_known n bs)
usable_opened zero bs all = all
usable_opened (suc n) bs all = (tt, usable_opened n bs all)

usable_closed : (n : ℕ) (bs : List ReadBinding) → AllUsable bs → AllUsable (closed is_level_known n bs)
usable_closed n [] all = tt
usable_closed zero (b ∷ bs) all = all
usable_closed (suc n) (level_known ∷ bs) all = usable_closed n bs all.1
usable_closed (suc n) (_ ∷ bs) all = usable_closed (suc n) bs all.1

usable_merged : (n : ℕ) (bs : List ReadBinding) → AllUsable bs → AllUsable (merged is_level_known n bs)
usable_merged n [] all = tt
usable_merged zero (b ∷ bs) all = all
usable_merged (suc n) (level_known ∷ bs) all = usable_merged n bs all.1
usable_merged (suc n) (b ∷ bs) all = (subst (λ ds. BindingUsable ds b) (sym (same_front b (merged is_level_known (suc n) bs) bs (merged_known (suc n) bs))) all.0, usable_merged (suc n) bs all.1)

usable_flattened : (bs : List ReadBinding) → AllUsable bs → AllUsable (flattened is_level_known bs)
usable_flattened [] all = tt
usable_flattened (level_known ∷ bs) all = usable_flattened bs all.1
usable_flattened (b ∷ bs) all = (subst (λ ds. BindingUsable ds b) (sym (same_front b (flattened is_level_known bs) bs (flattened_known bs))) all.0, usable_flattened bs all.1)

pub usable_popped : (global : Bool) (n : ℕ) (bs : List ReadBinding) → AllUsable bs → AllUsable (popped is_level_known global n bs)
usable_popped true n bs all = usable_merged n bs all
usable_popped false n bs all = usable_closed n bs all

pub usable_emptied : (global : Bool) (bs : List ReadBinding) → AllUsable bs → AllUsable (emptied is_level_known global bs)
usable_emptied true bs all = usable_flattened bs all
usable_emptied false bs all = tt
