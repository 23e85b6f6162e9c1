-- Sorts as the reader comes by them, step by step.
use Rattle.std.proofs.Common.{◌≡◌, ℕ, ◌+◌, ◌≤◌, ◌^◌, ◌==◌, Bool, true, false, List, [], ◌∷◌, ◌++◌, append_assoc, append-nil, map, refl, ap, sym, ◌∙◌, Option, Some, None, option_map, is_some, MatchOption, All, arith, inl, inr, if◌then◌else◌}
use Rattle.std.specs.Prelude.{codes, bytes_eq, nat_lt, Result, Ok, Err}
use Rattle.std.specs.Result.{IsErrAnd}
use Rattle.std.proofs.lemmas.Bool.{cases_lt, ne_eqb, lt-ltb}
use Rattle.std.proofs.lemmas.List.{map-append}
use Rattle.std.proofs.lemmas.List.Elements.{All-head, All-tail, All-weaker}
use Rattle.smt_lex.specs.Forms.{Form, atom, node, Forms, none, ◌⨾◌}
use Rattle.smt_lex.specs.Lex.{Token}
use Rattle.smt_lex.specs.Names.{Name}
use Rattle.smt_terms.specs.Equal.{name_eq}
use Rattle.smt_terms.specs.Rank.{is_array, most_bits}
use Rattle.smt_terms.specs.Sorts.{Sort, array}
use Rattle.smt_terms.specs.declared.ids.SortId.{SortId}
use Rattle.smt_values.specs.SortIds.{sort_at, IsSortId, AddsSort}
use Rattle.script_terms.specs.declared.causes.Cause.TheVariants.{BadForm, IndexSort}
use Rattle.script_terms.specs.declared.faults.Fault.{Fault}
use Rattle.term_table.specs.Formulas.{Formulas, Grows}
use Rattle.script_terms.specs.declared.faults.ReadFault.{ReadFault}
use Rattle.script_terms.specs.declared.faults.ReadFault.TheVariants.{Refused as RefusedFor, Memory}
use Rattle.script_terms.specs.declared.sorts.Frame.{Frame}
use Rattle.script_terms.specs.declared.sorts.Frame.TheVariants.{Index, Element}
use Rattle.script_terms.specs.declared.sorts.Part.{Part}
use Rattle.script_terms.specs.declared.sorts.Part.TheVariants.{Whole, Array}
use Rattle.script_terms.specs.Known.{Scoping, Scoped, find, sorts_known, IsScopedSort, AreScopedSorts}
use Rattle.script_terms.specs.Parts.{place_of, symbol_in, word_in, is_name, numeral_in}
use Rattle.script_terms.specs.Places.{form_from, capped}
use Rattle.script_terms.specs.Refusals.{Refused, at, and_then, mapped}
use Rattle.script_terms.specs.Replies.{refused_seen, Follows}
use Rattle.script_terms.specs.Scope.{or_later}
use Rattle.script_terms.specs.SortForms.{Sorts, Part as SortPart, sort_of_symbol, vectors_of, indexed_sort, array_sort, applied_sort, sort_in, parts_in, sorts_in}
use Rattle.script_terms.specs.SortSteps.{filled, all_filled, form_size, forms_size, IsFrame, AreFrames, IsPartOf, Leads}
use Rattle.script_terms.proofs.Grown.{same_map, grows_as, grows_behind, sort_within, sort_stays}

-- ---- names of sorts

later_sort : (ss : List Sort) (here : Bool) (k : SortId) (later : Option SortId) (found : SortId) → IsSortId ss k → (later ≡ Some found → IsSortId ss found) → or_later here k later ≡ Some found → IsSortId ss found
later_sort ss true k later found fits more is = let same : k ≡ found = cc in rw (← same) fits
later_sort ss false k later found fits more is = more is

-- the sorts that names stand for are those of the table
pub find-sort : (ss : List Sort) (bs : List (Scoped SortId)) (n : Name) (k : SortId) → AreScopedSorts ss bs → find bs n ≡ Some k → IsSortId ss k
find-sort ss [] n k all is = absurd (cc)
find-sort ss (Some p ∷ bs) n k all is = later_sort ss (name_eq p.0 n) p.1 (find bs n) k (All-head (IsScopedSort ss) (Some p) bs all) (λ more. find-sort ss bs n k (All-tail (IsScopedSort ss) (Some p) bs all) more) is
find-sort ss (None ∷ bs) n k all is = find-sort ss bs n k (All-tail (IsScopedSort ss) None bs all) is

-- ---- bit vectors

same_width : (place n : ℕ) → vectors_of place (Some (capped n)) ≡ vectors_of place (Some n)
same_width place n = elim (cases_lt n (2 ^ 127)) [
  | inl small ↦ let here : capped n ≡ n = omega (arith, small) in ap (λ w. vectors_of place (Some w)) here
  | inr large ↦
      let here : capped n ≡ 2 ^ 127 = omega (arith, large) in
      let some : (n == 0) ≡ false = ne_eqb n 0 (λ is. omega arith) in
      let wide : nat_lt most_bits n ≡ true = lt-ltb 128 n (omega arith) in
      ap (λ w. vectors_of place (Some w)) here ∙ sym (rw (some, wide) refl)
]

-- a width beyond the greatest numeral that is read is beyond the greatest width
pub capped-width : (place : ℕ) (o : Option ℕ) → vectors_of place (option_map capped o) ≡ vectors_of place o
capped-width place None = refl
capped-width place (Some n) = same_width place n

-- `(_ BitVec n)`
pub indexed-sort : (place : ℕ) (fs : Forms) (f w : Form) (n : Name) → fs ≡ f ⨾ w ⨾ none → symbol_in f ≡ Some n → bytes_eq n (codes "BitVec") ≡ true → indexed_sort place fs ≡ vectors_of place (numeral_in w)
indexed-sort place fs f w n is symbol same = ap (indexed_sort place) is ∙ ap (λ (o : Option Name). if is_name (codes "BitVec") o then vectors_of place (numeral_in w) else at BadForm place) symbol ∙ rw same refl

-- ---- lists

module _ (live : Sorts) (place : ℕ) where
  pub list-indexed : (fs gs : Forms) (f : Form) → fs ≡ f ⨾ gs → is_name (codes "_") (word_in f) ≡ true → sort_in live (node place fs) ≡ indexed_sort place gs
  list-indexed fs gs f is word = ap (λ hs. sort_in live (node place hs)) is ∙ rw word refl

  pub list-applied : (fs gs : Forms) (f : Form) (n : Name) → fs ≡ f ⨾ gs → is_name (codes "_") (word_in f) ≡ false → symbol_in f ≡ Some n → sort_in live (node place fs) ≡ applied_sort live place (parts_in live gs) (Some n)
  list-applied fs gs f n is word symbol = ap (λ hs. sort_in live (node place hs)) is ∙ rw word (ap (applied_sort live place (parts_in live gs)) symbol)

pub atom-sort : (live : Sorts) (f : Form) (t : Token) → f ≡ atom t → sort_in live f ≡ sort_of_symbol live (place_of f) (symbol_in f)
atom-sort live f t is = ap (sort_in live) is ∙ sym (ap (λ g. sort_of_symbol live (place_of g) (symbol_in g)) is)

some_size : (f : Form) → 1 ≤ form_size f
some_size (atom t) = omega arith
some_size (node place fs) = omega arith

pub list-size : (place : ℕ) (fs gs : Forms) (f : Form) → fs ≡ f ⨾ gs → forms_size gs + 2 ≤ form_size (node place fs)
list-size place fs gs f is = let some = some_size f in let size = ap forms_size is in omega (arith, some, size)

-- `(Array I E)`
pub applied-array : (live : Sorts) (place : ℕ) (ps : List SortPart) (n : Name) → bytes_eq n (codes "Array") ≡ true → applied_sort live place ps (Some n) ≡ array_sort place ps
applied-array live place ps n word = rw word refl

-- ---- answers

module _ (live : Sorts) (ts : List Token) (ss : List Sort) where
  pub part-moved : (r q : Result Sort Refused) (m n : ℕ) (part : Result Part Fault) → q ≡ r → m ≤ n → IsPartOf live ts ss r m part → IsPartOf live ts ss q n part
  part-moved r q m n (Ok (Whole k)) same less is = (same ∙ is.0, is.1)
  part-moved r q m n (Ok (Array index element)) same less is = record { first = is.first; second = is.second; sort = same ∙ is.sort; size = omega (arith, less, is.size) }
  part-moved r q m n (Err e) same less is = same ∙ is

  pub part-refused : (r : Result Sort Refused) (n : ℕ) (e : Fault) (part : Result Part Fault) → IsErrAnd part (λ d. d ≡ e) → r ≡ Err (refused_seen e) → IsPartOf live ts ss r n part
  part-refused r n e (Ok part) is refused = absurd is
  part-refused r n e (Err d) same refused = refused ∙ ap (λ (x : Fault). Err (refused_seen x)) (sym same)

  -- a refusal inside array sorts is theirs
  pub all_filled-refused : (fs : List Frame) (e : Refused) → all_filled live ts ss fs (Err e) ≡ Err e
  all_filled-refused [] e = refl
  all_filled-refused (Index index element ∷ fs) e = all_filled-refused fs e
  all_filled-refused (Element index ∷ fs) e = all_filled-refused fs e

  pub leads-refused : (fs : List Frame) (r : Result Sort Refused) (e : Fault) (answer : Result SortId ReadFault) → IsErrAnd answer (λ d. d ≡ RefusedFor e) → r ≡ Err (refused_seen e) → Leads live ts ss fs r answer
  leads-refused fs r e (Ok k) is refused = absurd is
  leads-refused fs r e (Err (RefusedFor d)) same refused = refused ∙ ap (λ (x : Fault). Err (refused_seen x)) (let back : e ≡ d = cc in back)
  leads-refused fs r e (Err Memory) same refused = tt

  -- ---- one array sort

  -- its index sort is no array sort, and its element sort is read next
  pub filled-index : (index element : ℕ) (k : SortId) → is_array (sort_at ss k) ≡ false → filled live ts ss (Index index element) (Ok (sort_at ss k)) ≡ filled live ts ss (Element k) (sort_in live (form_from ts element))
  filled-index index element k plain = rw plain refl

  pub refused-index : (index element : ℕ) (k : SortId) → is_array (sort_at ss k) ≡ true → filled live ts ss (Index index element) (Ok (sort_at ss k)) ≡ at IndexSort (place_of (form_from ts index))
  refused-index index element k holds = rw holds refl

-- ---- a table that gained

module _ (ts : List Token) (ss us : List Sort) (grows : Grows ss us) where
  pub frame_stays : (f : Frame) → IsFrame ts ss f → IsFrame ts us f
  frame_stays (Index index element) is = is
  frame_stays (Element index) is = (sort_within ss us grows index is.0, ap is_array (sort_stays ss us grows index is.0) ∙ is.1)

  pub frames_stay : (fs : List Frame) → AreFrames ts ss fs → AreFrames ts us fs
  frames_stay fs all = All-weaker (IsFrame ts ss) (IsFrame ts us) frame_stays fs all

  filled_stays : (live : Sorts) (f : Frame) (r : Result Sort Refused) → IsFrame ts ss f → filled live ts us f r ≡ filled live ts ss f r
  filled_stays live (Index index element) r is = refl
  filled_stays live (Element index) r is = ap (λ s. mapped (λ t. array s t) r) (sort_stays ss us grows index is.0)

  pub all_filled_stays : (live : Sorts) (fs : List Frame) (r : Result Sort Refused) → AreFrames ts ss fs → all_filled live ts us fs r ≡ all_filled live ts ss fs r
  all_filled_stays live [] r all = refl
  all_filled_stays live (f ∷ fs) r all =
      all_filled_stays live fs (filled live ts us f r) (All-tail (IsFrame ts ss) f fs all)
      ∙ ap (all_filled live ts ss fs) (filled_stays live f r (All-head (IsFrame ts ss) f fs all))

module _ (ss us : List Sort) (grows : Grows ss us) where
  scoped_stays : (s : Scoped SortId) → IsScopedSort ss s → IsScopedSort us s
  scoped_stays None is = tt
  scoped_stays (Some p) is = sort_within ss us grows p.1 is

  pub scoped_stay : (bs : List (Scoped SortId)) → AreScopedSorts ss bs → AreScopedSorts us bs
  scoped_stay bs all = All-weaker (IsScopedSort ss) (IsScopedSort us) scoped_stays bs all

  same_sorts : (o : Option SortId) → ((k : SortId) → o ≡ Some k → IsSortId ss k) → option_map (sort_at us) o ≡ option_map (sort_at ss) o
  same_sorts None fits = refl
  same_sorts (Some k) fits = ap Some (sort_stays ss us grows k (fits k refl))

-- names of sorts stand for the same sorts
pub known_stays : (t u : Formulas) (s : Scoping) → Grows t.sorts u.sorts → AreScopedSorts t.sorts s.sorts → sorts_known u s ≡ sorts_known t s
known_stays t u s grows all = λ i n. same_sorts t.sorts u.sorts grows (find s.sorts n) (λ k is. find-sort t.sorts s.sorts n k all is) i

-- ---- sorts that are array sorts

pub is-array : (ss : List Sort) (k : SortId) (o : Option (SortId × SortId)) → MatchOption o (is_array (sort_at ss k) ≡ false) (λ p. sort_at ss k ≡ array (sort_at ss p.0) (sort_at ss p.1)) → is_some o ≡ true → is_array (sort_at ss k) ≡ true
is-array ss k None parts some = absurd (cc)
is-array ss k (Some p) parts some = ap is_array parts

pub added_grows : (ss us : List Sort) (s : Sort) → AddsSort ss us s → Grows ss us
added_grows ss us s (inl same) = grows_as ss us same
added_grows ss us s (inr more) = grows_behind ss us (s ∷ []) more.0

-- ---- answers

pub follows-refused : {A B : Type 0} (r : Result B Refused) (value : A → B) (e : Fault) (answer : Result A ReadFault) → IsErrAnd answer (λ d. d ≡ RefusedFor e) → r ≡ Err (refused_seen e) → Follows r value answer
follows-refused r value e (Ok a) is refused = absurd is
follows-refused r value e (Err (RefusedFor d)) same refused = refused ∙ ap (λ (x : Fault). Err (refused_seen x)) (let back : e ≡ d = cc in back)
follows-refused r value e (Err Memory) same refused = tt

-- the answer of a turn is that of the whole
pub follows-leads : (live : Sorts) (ts : List Token) (ss us : List Sort) (fs : List Frame) (q r : Result Sort Refused) (e : ReadFault) (answer : Result SortId ReadFault) → IsErrAnd answer (λ d. d ≡ e) → Leads live ts us fs r (Err e) → q ≡ r → Follows q (sort_at ss) answer
follows-leads live ts ss us fs q r e (Ok k) is leads same = absurd is
follows-leads live ts ss us fs q r (RefusedFor e) (Err (RefusedFor d)) is leads same = same ∙ leads ∙ ap (λ (x : Fault). Err (refused_seen x)) (let back : e ≡ d = cc in back)
follows-leads live ts ss us fs q r Memory (Err (RefusedFor d)) is leads same = absurd (cc)
follows-leads live ts ss us fs q r e (Err Memory) is leads same = tt

-- a frame comes off the stack, and the names are those of the table as it is
pub known-turn : (t u : Formulas) (s : Scoping) → Grows t.sorts u.sorts → AreScopedSorts t.sorts s.sorts → (ts : List Token) (q : Result Sort Refused) (fs gs : List Frame) (f : Frame) (k : SortId) → q ≡ all_filled (sorts_known t s) ts u.sorts fs (Ok (sort_at u.sorts k)) → fs ≡ f ∷ gs → q ≡ all_filled (sorts_known u s) ts u.sorts (f ∷ gs) (Ok (sort_at u.sorts k))
known-turn t u s grows all ts q fs gs f k rest is =
    rest
    ∙ ap (λ hs. all_filled (sorts_known t s) ts u.sorts hs (Ok (sort_at u.sorts k))) is
    ∙ ap (λ (live : Sorts). all_filled live ts u.sorts (f ∷ gs) (Ok (sort_at u.sorts k))) (sym (known_stays t u s grows all))

known-back : (t u : Formulas) (s : Scoping) → Grows t.sorts u.sorts → AreScopedSorts t.sorts s.sorts → (ts : List Token) (ss : List Sort) (fs : List Frame) (r : Result Sort Refused) → all_filled (sorts_known u s) ts ss fs r ≡ all_filled (sorts_known t s) ts ss fs r
known-back t u s grows all ts ss fs r = ap (λ (live : Sorts). all_filled live ts ss fs r) (known_stays t u s grows all)

-- a turn of the reading keeps what comes of the whole
pub turn-kept : (t u : Formulas) (s : Scoping) → Grows t.sorts u.sorts → AreScopedSorts t.sorts s.sorts → (ts : List Token) (q r : Result Sort Refused) (fs gs hs : List Frame) (f : Frame) (k : SortId) (ss : List Sort)
    → q ≡ all_filled (sorts_known t s) ts u.sorts fs (Ok (sort_at u.sorts k)) → fs ≡ f ∷ gs
    → all_filled (sorts_known u s) ts u.sorts (f ∷ gs) (Ok (sort_at u.sorts k)) ≡ all_filled (sorts_known u s) ts ss hs r
    → q ≡ all_filled (sorts_known t s) ts ss hs r
turn-kept t u s grows all ts q r fs gs hs f k ss rest is turn = known-turn t u s grows all ts q fs gs f k rest is ∙ turn ∙ known-back t u s grows all ts ss hs r

-- ---- lists of sorts

module _ (live : Sorts) where
  joined : (xs : List Sort) (s : Sort) (r : Result (List Sort) Refused) → mapped (λ ss. xs ++ ss) (mapped (λ ss. s ∷ ss) r) ≡ mapped (λ ss. (xs ++ s ∷ []) ++ ss) r
  joined xs s (Ok ss) = ap Ok (sym (append_assoc xs (s ∷ []) ss))
  joined xs s (Err e) = refl

  pub sorts-next : (fs gs : Forms) (f : Form) (xs : List Sort) (s : Sort) → fs ≡ f ⨾ gs → sort_in live f ≡ Ok s → mapped (λ ss. xs ++ ss) (sorts_in live fs) ≡ mapped (λ ss. (xs ++ s ∷ []) ++ ss) (sorts_in live gs)
  sorts-next fs gs f xs s is sort =
      ap (λ hs. mapped (λ ss. xs ++ ss) (sorts_in live hs)) is
      ∙ ap (λ r. mapped (λ ss. xs ++ ss) (and_then (λ t. mapped (λ ts. t ∷ ts) (sorts_in live gs)) r)) sort
      ∙ joined xs s (sorts_in live gs)

  pub sorts-refused : (fs gs : Forms) (f : Form) (xs : List Sort) (e : Refused) → fs ≡ f ⨾ gs → sort_in live f ≡ Err e → mapped (λ ss. xs ++ ss) (sorts_in live fs) ≡ Err e
  sorts-refused fs gs f xs e is sort =
      ap (λ hs. mapped (λ ss. xs ++ ss) (sorts_in live hs)) is
      ∙ ap (λ r. mapped (λ ss. xs ++ ss) (and_then (λ t. mapped (λ ts. t ∷ ts) (sorts_in live gs)) r)) sort

  pub sorts-end : (fs : Forms) (xs : List Sort) → fs ≡ none → mapped (λ ss. xs ++ ss) (sorts_in live fs) ≡ Ok xs
  sorts-end fs xs is = ap (λ hs. mapped (λ ss. xs ++ ss) (sorts_in live hs)) is ∙ ap Ok (append-nil xs)

-- what is known of the whole where one sort more is read
module _ (t u v : Formulas) (s : Scoping) (grown : Grows t.sorts u.sorts) (more : Grows u.sorts v.sorts) (all : AreScopedSorts t.sorts s.sorts) where
  here : (f : Form) → sort_in (sorts_known t s) f ≡ sort_in (sorts_known u s) f
  here f = ap (λ (live : Sorts). sort_in live f) (sym (known_stays t u s grown all))

  pub sorts-pushed : (q : Result (List Sort) Refused) (fs gs : Forms) (f : Form) (ks ls : List SortId) (k : SortId) → All (IsSortId u.sorts) ks → q ≡ mapped (λ ss. map (sort_at u.sorts) ks ++ ss) (sorts_in (sorts_known t s) fs) → fs ≡ f ⨾ gs → sort_in (sorts_known u s) f ≡ Ok (sort_at v.sorts k) → ls ≡ ks ++ k ∷ [] → q ≡ mapped (λ ss. map (sort_at v.sorts) ls ++ ss) (sorts_in (sorts_known t s) gs)
  sorts-pushed q fs gs f ks ls k within so is sort pushed =
      let same : map (sort_at u.sorts) ks ≡ map (sort_at v.sorts) ks = sym (same_map (sort_at v.sorts) (sort_at u.sorts) ks (All-weaker (IsSortId u.sorts) (λ j. sort_at v.sorts j ≡ sort_at u.sorts j) (sort_stays u.sorts v.sorts more) ks within)) in
      let last : map (sort_at u.sorts) ks ++ sort_at v.sorts k ∷ [] ≡ map (sort_at v.sorts) ls = ap (λ ss. ss ++ sort_at v.sorts k ∷ []) same ∙ sym (map-append (sort_at v.sorts) ks (k ∷ [])) ∙ ap (map (sort_at v.sorts)) (sym pushed) in
      so
      ∙ sorts-next (sorts_known t s) fs gs f (map (sort_at u.sorts) ks) (sort_at v.sorts k) is (here f ∙ sort)
      ∙ ap (λ xs. mapped (λ ss. xs ++ ss) (sorts_in (sorts_known t s) gs)) last

  pub sorts-fail : (q : Result (List Sort) Refused) (fs gs : Forms) (f : Form) (ks : List SortId) (e : Refused) → q ≡ mapped (λ ss. map (sort_at u.sorts) ks ++ ss) (sorts_in (sorts_known t s) fs) → fs ≡ f ⨾ gs → sort_in (sorts_known u s) f ≡ Err e → q ≡ Err e
  sorts-fail q fs gs f ks e so is sort = so ∙ sorts-refused (sorts_known t s) fs gs f (map (sort_at u.sorts) ks) e is (here f ∙ sort)

-- the refusal of a part is that of the whole
pub follows-fail : {A B C D : Type 0} (q : Result B Refused) (value : A → B) (p : Result D Refused) (part : C → D) (e : ReadFault) (answer : Result A ReadFault) → IsErrAnd answer (λ d. d ≡ e) → Follows p part (Err e) → ((x : Refused) → p ≡ Err x → q ≡ Err x) → Follows q value answer
follows-fail q value p part e (Ok a) is fails same = absurd is
follows-fail q value p part (RefusedFor e) (Err (RefusedFor d)) is fails same = same (refused_seen e) fails ∙ ap (λ (x : Fault). Err (refused_seen x)) (let back : e ≡ d = cc in back)
follows-fail q value p part Memory (Err (RefusedFor d)) is fails same = absurd (cc)
follows-fail q value p part e (Err Memory) is fails same = tt
