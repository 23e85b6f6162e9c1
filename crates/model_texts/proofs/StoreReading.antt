-- Arrays are read from the inside out: what was read so far is the array in which these values are stored yet.
use Rattle.std.proofs.Common.{◌≡◌, ℕ, ◌+◌, ◌<◌, ◌==◌, if◌then◌else◌, Bool, true, false, max, List, [], ◌∷◌, ◌++◌, length, get_or, ◌⊎◌, inl, inr, Some, Result, Ok, Err, IsTrue, refl, ap, sym, ◌∙◌, subst, arith, true≢false}
use Rattle.std.proofs.lemmas.List.{length-append}
use Rattle.std.proofs.lemmas.List.Elements.{All-pop}
use Rattle.std.proofs.lemmas.Bool.Decides.{Decides-eqb, nat_tests}
use Rattle.smt_lex.specs.Lex.{Token}
use Rattle.smt_lex.specs.Forms.{Form}
use Rattle.smt_terms.specs.declared.ids.SortId.{SortId}
use Rattle.smt_terms.specs.Rank.{is_array, is_sort}
use Rattle.smt_terms.specs.Sorts.{Name, Sort, bool, int, bit_vector, array, free_sort}
use Rattle.smt_terms.specs.Values as plain
use Rattle.smt_terms.specs.Values.{Sizes, truth, whole, bits, element as numbered, table, no_pairs, is_value, same, store, put, every_pair, default_of, pairs_of}
use Rattle.smt_terms.proofs.Same.{array_sorts}
use Rattle.smt_terms.proofs.Tests.{and_true}
use Rattle.smt_terms.proofs.Valid.{is_value-store}
use Rattle.smt_values.specs.Meaning.{meaning, IsHeld}
use Rattle.smt_values.specs.SizeTable.{size_at, number_of, sizes_by}
use Rattle.smt_values.specs.SortIds.{sort_at, is_free, IsSortId, IsSortList}
use Rattle.smt_values.specs.Tables.{Table, as_value}
use Rattle.smt_values.specs.Valid.{IsValue, HasKeys}
use Rattle.smt_values.specs.declared.value.Value.{Value}
use Rattle.smt_values.proofs.Numbered.{number_of-sort}
use Rattle.smt_values.proofs.Sameness.{table_keys}
use Rattle.smt_values.proofs.SortIds.{basic, placed, sort_basic, sort_is, sort_placed}
use Rattle.script_terms.specs.Places.{IsForm, form_from}
use Rattle.script_read.specs.CommandLists.{free_name}
use Rattle.term_table.specs.Formulas.{Formulas}
use Rattle.model_texts.specs.Chains.{with_stored, all_stored, AreStored, IsChainOf, ReadsEverywhere}
use Rattle.model_texts.specs.Met.{MetNames, names_kept, Gains, AreSizesFor, IsMetValue}
use Rattle.model_texts.specs.Reading.{Element, Reading, ◌>>=◌, continued, gives}
use Rattle.model_texts.specs.Refusals as refusals
use Rattle.model_texts.specs.Replies.{AreElementsOf, Replies}
use Rattle.model_texts.specs.ValueForms.{value_in}
use Rattle.model_texts.specs.declared.faults.TextFault.{TextFault}
use Rattle.model_texts.specs.declared.faults.TextFault.TheVariants.{Refused, Memory}
use Rattle.model_texts.specs.declared.values.Chain.{Chain}
use Rattle.model_texts.specs.declared.values.Stored.{Stored}
use Rattle.model_texts.proofs.MetNames.{gains_through}
use Rattle.model_texts.proofs.ValueShapes.{stored_last}

-- ---- answers

pub memory : {A B : Type 0} (R : A → B → Type 0) (known : List Element → Type 0) (r : Result (B × List Element) refusals.Refused) → Replies R known r (Err Memory)
memory R known (Ok p) = tt
memory R known (Err q) = tt

-- a refusal is that of all that comes behind
pub refused_on : {A B C D : Type 0} (R : A → B → Type 0) (S : C → D → Type 0) (known later : List Element → Type 0) (next : B → Reading D) (r : Result (B × List Element) refusals.Refused) (x : TextFault)
    → Replies R known r (Err x) → Replies S later (continued next r) (Err x)
refused_on R S known later next (Ok p) (Refused cause place) h = absurd h
refused_on R S known later next (Ok p) Memory h = memory S later (next p.0 p.1)
refused_on R S known later next (Err q) (Refused cause place) h = h
refused_on R S known later next (Err q) Memory h = tt

pub accepted : {A B : Type 0} (R : A → B → Type 0) (known : List Element → Type 0) (r : Result (B × List Element) refusals.Refused) (a : A)
    → Replies R known r (Ok a) → (b : B) × (es : List Element) × (r ≡ Ok (b, es)) × R a b × known es
accepted R known (Ok p) a h = (p.0, p.1, refl, h.0, h.1)
accepted R known (Err q) a h = absurd h

abbrev Means : Value → plain.Value → Type 0
Means v w = IsHeld v × (meaning v ≡ w)

abbrev Known : Formulas → MetNames → List Element → Type 0
Known t ms es = AreElementsOf t (names_kept ms) es

-- a value's reading is answered so, from the elements that were met before
abbrev pub Reads : Formulas → MetNames → MetNames → Reading plain.Value → Result Value TextFault → Type 0
Reads t old new reading r = (es : List Element) → Known t old es → Replies Means (Known t new) (reading es) r

-- ---- sizes

-- sizes for all that was met are sizes for what was met before
pub sizes_before : (t : Formulas) (old new : MetNames) → Gains old new → (sizes : Sizes) → AreSizesFor t new sizes → AreSizesFor t old sizes
sizes_before t old new gains sizes large s free =
    let g = gains s in
    let long : length (names_kept new s) ≡ length (names_kept old s) + length g.0 = ap length g.1 ∙ length-append (names_kept old s) g.0 in
    omega (arith, large s free, long)

pub met_later : (t : Formulas) (old new : MetNames) (s : SortId) (v : Value) → Gains old new → IsMetValue t old s v → IsMetValue t new s v
met_later t old new s v gains met = record { held = met.held; valid = λ sizes large. met.valid sizes (sizes_before t old new gains sizes large) }

-- only the size of a key's own sort counts
key_alike : (i : Sort) (a b : Sizes) (k : plain.Value) → is_array i ≡ false → ((n : Name) → i ≡ free_sort n → a n ≡ b n) → is_value i a k ≡ is_value i b k
key_alike bool a b (truth c) no_array sizes = refl
key_alike bool a b (whole n) no_array sizes = refl
key_alike bool a b (bits bs) no_array sizes = refl
key_alike bool a b (numbered n) no_array sizes = refl
key_alike bool a b (table d ps) no_array sizes = refl
key_alike int a b (truth c) no_array sizes = refl
key_alike int a b (whole n) no_array sizes = refl
key_alike int a b (bits bs) no_array sizes = refl
key_alike int a b (numbered n) no_array sizes = refl
key_alike int a b (table d ps) no_array sizes = refl
key_alike (bit_vector w) a b (truth c) no_array sizes = refl
key_alike (bit_vector w) a b (whole n) no_array sizes = refl
key_alike (bit_vector w) a b (bits bs) no_array sizes = refl
key_alike (bit_vector w) a b (numbered n) no_array sizes = refl
key_alike (bit_vector w) a b (table d ps) no_array sizes = refl
key_alike (free_sort s) a b (truth c) no_array sizes = refl
key_alike (free_sort s) a b (whole n) no_array sizes = refl
key_alike (free_sort s) a b (bits bs) no_array sizes = refl
key_alike (free_sort s) a b (numbered n) no_array sizes = ap (λ m. is_value (free_sort s) (λ _. m) (numbered n)) (sizes s refl)
key_alike (free_sort s) a b (table d ps) no_array sizes = refl
key_alike (array i e) a b k no_array sizes = absurd (true≢false no_array)

-- how many elements there are doesn't matter for equality of keys
same_anywhere : (i : Sort) (a b : Sizes) → is_array i ≡ false → same i a ≡ same i b
same_anywhere bool a b no_array = refl
same_anywhere int a b no_array = refl
same_anywhere (bit_vector w) a b no_array = refl
same_anywhere (free_sort s) a b no_array = refl
same_anywhere (array i e) a b no_array = absurd (true≢false no_array)

pub store_anywhere : (i : Sort) (a b : Sizes) (x k v : plain.Value) → is_array i ≡ false → store i a x k v ≡ store i b x k v
store_anywhere i a b x k v no_array = ap (λ alike. table (default_of x) (put alike k v (pairs_of x))) (same_anywhere i a b no_array)

-- ---- the sizes of what was met

abbrev met_sizes : List Sort → MetNames → Sizes
met_sizes ss ms n = max 1 (length (names_kept ms (number_of ss (free_sort n))))

basic_kept : (n : ℕ) → is_free (basic n) ≡ false
unfolding basic
basic_kept n = grind (arith, nat_tests)

pub number_is : (ss : List Sort) → IsSortList ss → (s : SortId) → IsSortId ss s → is_free (sort_at ss s) ≡ true → number_of ss (sort_at ss s) ≡ s
number_is ss list s within free = by (placed s.0)
  where
    by : (s.0 < 130) ⊎ ((k : ℕ) × (s.0 ≡ 130 + k)) → number_of ss (sort_at ss s) ≡ s
    by (inl low) = absurd (true≢false (sym free ∙ ap is_free (sort_basic ss s.0 low) ∙ basic_kept s.0))
    by (inr p) =
        let k : p.0 < length ss = omega (arith, within, p.1) in
        let sort : sort_at ss s ≡ get_or ss p.0 bool = ap (λ n. sort_at ss (record { 0 = n })) p.1 ∙ sort_placed ss p.0 in
        let is : (number_of ss (get_or ss p.0 bool)).0 ≡ s.0 = number_of-sort ss list p.0 k ∙ sym p.1 in
        ap (number_of ss) sort ∙ (λ j. record { 0 = is j })

free_itself : (s : Sort) → is_free s ≡ true → free_sort (free_name s) ≡ s
free_itself (free_sort n) free = refl
free_itself bool free = absurd (true≢false (sym free))
free_itself int free = absurd (true≢false (sym free))
free_itself (bit_vector w) free = absurd (true≢false (sym free))
free_itself (array i e) free = absurd (true≢false (sym free))

are_met_sizes : (t : Formulas) (ms : MetNames) → IsSortList t.sorts → AreSizesFor t ms (met_sizes t.sorts ms)
are_met_sizes t ms list s free =
    let is : number_of t.sorts (free_sort (free_name (sort_at t.sorts s))) ≡ s = ap (number_of t.sorts) (free_itself (sort_at t.sorts s) free.1) ∙ number_is t.sorts list s free.0 free.1 in
    let long : length (names_kept ms (number_of t.sorts (free_sort (free_name (sort_at t.sorts s))))) ≡ length (names_kept ms s) = ap (λ q. length (names_kept ms q)) is in
    omega (arith, long)

-- a table of sizes that has what was met of one sort
sizes_alike : (ss : List Sort) (ms : MetNames) (sizes : List (SortId × ℕ)) (index : SortId) → IsSortList ss → IsSortId ss index → size_at sizes index ≡ max 1 (length (names_kept ms index))
    → (n : Name) → sort_at ss index ≡ free_sort n → met_sizes ss ms n ≡ sizes_by ss sizes n
unfolding sizes_by
sizes_alike ss ms sizes index list within size n is =
    let number : number_of ss (free_sort n) ≡ index = ap (number_of ss) (sym is) ∙ number_is ss list index within (ap is_free is) in
    ap (λ q. max 1 (length (names_kept ms q))) number ∙ sym size ∙ ap (size_at sizes) (sym number)

-- ---- what a `store` asks for

abbrev pub IsArrayFor : Formulas → MetNames → Sort → Sort → Table → Type 0
IsArrayFor t ms i e a = (sizes : Sizes) → AreSizesFor t ms sizes → IsTrue (is_value (array i e) sizes (as_value a))

module _ (t : Formulas) (ms : MetNames) (sizes : List (SortId × ℕ)) (index : SortId) (list : IsSortList t.sorts) (within : IsSortId t.sorts index)
    (no_array : is_array (sort_at t.sorts index) ≡ false) (size : size_at sizes index ≡ max 1 (length (names_kept ms index))) where
  met_alike : (k : plain.Value) → is_value (sort_at t.sorts index) (met_sizes t.sorts ms) k ≡ is_value (sort_at t.sorts index) (sizes_by t.sorts sizes) k
  met_alike k = key_alike (sort_at t.sorts index) (met_sizes t.sorts ms) (sizes_by t.sorts sizes) k no_array (sizes_alike t.sorts ms sizes index list within size)

  pub key_stored : (k : Value) → IsMetValue t ms index k → IsValue (sort_at t.sorts index) (sizes_by t.sorts sizes) k
  key_stored k met = record { held = met.held; valid = sym (met_alike (meaning k)) ∙ met.valid (met_sizes t.sorts ms) (are_met_sizes t ms list) }

  pub keys_stored : (e : Sort) (a : Table) → IsArrayFor t ms (sort_at t.sorts index) e a → HasKeys (sort_at t.sorts index) (sizes_by t.sorts sizes) a.pairs
  keys_stored e a valid =
      ap (λ (test : plain.Value → Bool). every_pair (λ k _. test k) a.pairs) (λ j k. sym (met_alike k) j)
      ∙ table_keys (sort_at t.sorts index) e (met_sizes t.sorts ms) a (valid (met_sizes t.sorts ms) (are_met_sizes t ms list))

-- ---- the array so far

pub record Storing (t : Formulas) (ts : List Token) (reading : Reading plain.Value) (i e : Sort) (old : MetNames) (stores : List Stored) (a : Table) (now : MetNames) : Type 0 where
  pub stored : AreStored ts stores
  pub gains : Gains old now
  pub valid : IsArrayFor t now i e a
  pub reads : (es : List Element) → Known t old es → (ds : List Element) × Known t now ds × (reading es ≡ with_stored i e (all_stored ts stores) (as_value a) ds)

module _ (t : Formulas) (ts : List Token) (f : Form) (s i e : Sort) (is : s ≡ array i e) (c : Chain) (chain : IsChainOf ts f c) where
  chain_reads : (es : List Element) → value_in f s es ≡ continued (with_stored i e (all_stored ts c.stores.items)) (value_in (form_from ts c.innermost) (array i e) es)
  chain_reads es = ap (λ u. value_in f u es) is ∙ chain.reads i e es

  module _ (everywhere : ℕ) (reads : ReadsEverywhere ts e (value_in (form_from ts c.innermost) (array i e)) (Ok everywhere)) where
    all_reads : (es : List Element) → value_in f s es ≡ continued (with_stored i e (all_stored ts c.stores.items)) (continued (λ v. gives (table v no_pairs)) (value_in (form_from ts everywhere) e es))
    all_reads es = chain_reads es ∙ ap (continued (with_stored i e (all_stored ts c.stores.items))) (reads.1 es)

    pub everywhere_refused : (old new : MetNames) (x : TextFault) → Reads t old new (value_in (form_from ts everywhere) e) (Err x) → Reads t old new (value_in f s) (Err x)
    everywhere_refused old new x refused es known =
        subst (λ r. Replies Means (Known t new) r (Err x)) (sym (all_reads es))
        (refused_on {C = Value} Means Means (Known t new) (Known t new) (with_stored i e (all_stored ts c.stores.items)) (continued (λ v. gives (table v no_pairs)) (value_in (form_from ts everywhere) e es)) x
        (refused_on {C = Value} Means Means (Known t new) (Known t new) (λ v. gives (table v no_pairs)) (value_in (form_from ts everywhere) e es) x (refused es known)))

    pub storing_begins : (old new : MetNames) (element : SortId) (v : Value) (a : Table) → e ≡ sort_at t.sorts element → Reads t old new (value_in (form_from ts everywhere) e) (Ok v) → IsMetValue t new element v → Gains old new
        → a ≡ record { fallback = meaning v; pairs = no_pairs } → Storing t ts (value_in f s) i e old c.stores.items a new
    storing_begins old new element v a sort read met gains made = record {
      stored = chain.stored;
      gains = gains;
      valid = λ sizes large. ap (λ (x : Table). is_value (array i e) sizes (as_value x)) made ∙ and_true (is_value e sizes (meaning v)) true (ap (λ u. is_value u sizes (meaning v)) sort ∙ met.valid sizes large) refl;
      reads = λ es known.
          let r = accepted Means (Known t new) (value_in (form_from ts everywhere) e es) v (read es known) in (
            r.1,
            r.4,
            all_reads es ∙ ap (λ q. continued (with_stored i e (all_stored ts c.stores.items)) (continued (λ w. gives (table w no_pairs)) q)) r.2
                ∙ ap (λ w. with_stored i e (all_stored ts c.stores.items) (table w no_pairs) r.1) (sym r.3.1)
                ∙ ap (λ (x : Table). with_stored i e (all_stored ts c.stores.items) (as_value x) r.1) (sym made),
          );
    }

-- one thing more is stored
module _ (t : Formulas) (ts : List Token) (reading : Reading plain.Value) (i e : Sort) (old : MetNames) (stores rest : List Stored) (p : Stored) (a : Table) (now : MetNames)
    (so_far : Storing t ts reading i e old stores a now) (last : stores ≡ rest ++ p ∷ []) where
  left : (ds : List Element) → with_stored i e (all_stored ts stores) (as_value a) ds
      ≡ continued (λ k. value_in (form_from ts p.value) e >>= λ v. with_stored i e (all_stored ts rest) (store i (λ _. 1) (as_value a) k v)) (value_in (form_from ts p.key) i ds)
  left ds = ap (λ ps. with_stored i e ps (as_value a) ds) (ap (all_stored ts) last ∙ stored_last ts rest p)

  stored_split : AreStored ts rest × (IsForm ts p.key × IsForm ts p.value)
  stored_split = All-pop (λ (r : Stored). IsForm ts r.key × IsForm ts r.value) stores rest (Some p) last so_far.stored

  pub key_form : IsForm ts p.key
  key_form = stored_split.1.0

  pub value_form : IsForm ts p.value
  value_form = stored_split.1.1

  pub key_refused : (new : MetNames) (x : TextFault) → Reads t now new (value_in (form_from ts p.key) i) (Err x) → Reads t old new reading (Err x)
  key_refused new x refused es known =
      let d = so_far.reads es known in
      subst (λ r. Replies Means (Known t new) r (Err x)) (sym (d.2 ∙ left d.0))
      (refused_on {C = Value} Means Means (Known t new) (Known t new) (λ w. value_in (form_from ts p.value) e >>= λ v. with_stored i e (all_stored ts rest) (store i (λ _. 1) (as_value a) w v)) (value_in (form_from ts p.key) i d.0) x (refused d.0 d.1))

  module _ (middle : MetNames) (k : Value) (key : Reads t now middle (value_in (form_from ts p.key) i) (Ok k)) where
    -- what is read behind the key
    behind_key : (es : List Element) → Known t old es → (ds : List Element) × Known t middle ds
        × (reading es ≡ continued (λ v. with_stored i e (all_stored ts rest) (store i (λ _. 1) (as_value a) (meaning k) v)) (value_in (form_from ts p.value) e ds))
    behind_key es known =
        let d = so_far.reads es known in
        let r = accepted Means (Known t middle) (value_in (form_from ts p.key) i d.0) k (key d.0 d.1) in
        let next : plain.Value → Reading plain.Value = λ w. value_in (form_from ts p.value) e >>= λ v. with_stored i e (all_stored ts rest) (store i (λ _. 1) (as_value a) w v) in
        (r.1, r.4, d.2 ∙ left d.0 ∙ ap (continued next) r.2 ∙ ap (λ w. next w r.1) (sym r.3.1))

    pub value_refused : (new : MetNames) (x : TextFault) → Reads t middle new (value_in (form_from ts p.value) e) (Err x) → Reads t old new reading (Err x)
    value_refused new x refused es known =
        let d = behind_key es known in
        subst (λ r. Replies Means (Known t new) r (Err x)) (sym d.2)
        (refused_on {C = Value} Means Means (Known t new) (Known t new) (λ v. with_stored i e (all_stored ts rest) (store i (λ _. 1) (as_value a) (meaning k) v)) (value_in (form_from ts p.value) e d.0) x (refused d.0 d.1))

    pub storing_goes_on : (new : MetNames) (v : Value) (index element : SortId) (sizes : Sizes) (b : Table) → i ≡ sort_at t.sorts index → e ≡ sort_at t.sorts element → is_array i ≡ false
        → Reads t middle new (value_in (form_from ts p.value) e) (Ok v) → IsMetValue t middle index k → IsMetValue t new element v → Gains now middle → Gains middle new
        → as_value b ≡ store i sizes (as_value a) (meaning k) (meaning v) → Storing t ts reading i e old rest b new
    storing_goes_on new v index element sizes b index_is element_is no_array read key_met met first second made = record {
      stored = stored_split.0;
      gains = gains_through old middle new (gains_through old now middle so_far.gains first) second;
      valid = λ others large.
          let before = sizes_before t middle new second others large in
          ap (is_value (array i e) others) (made ∙ store_anywhere i sizes others (as_value a) (meaning k) (meaning v) no_array)
          ∙ is_value-store i e others (as_value a) (meaning k) (meaning v) (so_far.valid others (sizes_before t now middle first others before))
          (ap (λ u. is_value u others (meaning k)) index_is ∙ key_met.valid others before) (ap (λ u. is_value u others (meaning v)) element_is ∙ met.valid others large);
      reads = λ es known.
          let d = behind_key es known in
          let r = accepted Means (Known t new) (value_in (form_from ts p.value) e d.0) v (read d.0 d.1) in
          let next : plain.Value → Reading plain.Value = λ w. with_stored i e (all_stored ts rest) (store i (λ _. 1) (as_value a) (meaning k) w) in (
            r.1,
            r.4,
            d.2 ∙ ap (continued next) r.2 ∙ ap (λ w. next w r.1) (sym r.3.1)
                ∙ ap (λ w. with_stored i e (all_stored ts rest) w r.1) (sym (made ∙ store_anywhere i sizes (λ _. 1) (as_value a) (meaning k) (meaning v) no_array)),
          );
    }

-- nothing is left
module _ (t : Formulas) (ts : List Token) (reading : Reading plain.Value) (i e : Sort) (old : MetNames) (stores : List Stored) (a : Table) (now : MetNames)
    (so_far : Storing t ts reading i e old stores a now) (empty : stores ≡ []) where
  pub storing_ends : (v : Value) → IsHeld v → meaning v ≡ as_value a → Reads t old now reading (Ok v)
  storing_ends v held is es known =
      let d = so_far.reads es known in
      subst (λ r. Replies Means (Known t now) r (Ok v)) (sym (d.2 ∙ ap (λ ss. with_stored i e (all_stored ts ss) (as_value a) d.0) empty)) ((held, is), d.1)

-- ---- by the steps of the code

pub fewer : (stores rest : List Stored) (p : Stored) → stores ≡ rest ++ p ∷ [] → length rest < length stores
fewer stores rest p last =
    let long : length stores ≡ length rest + 1 = ap length last ∙ length-append rest (p ∷ []) in
    omega (arith, long)

pub itself : (n a b : ℕ) → (if n == n then a else b) ≡ a
itself n a b = ap (λ c. if c then a else b) ((Decides-eqb n n).1 refl)

pub no_array_index : (ss : List Sort) (s index element : SortId) → IsSortList ss → IsSortId ss s → sort_at ss s ≡ array (sort_at ss index) (sort_at ss element) → is_array (sort_at ss index) ≡ false
no_array_index ss s index element list within is = (array_sorts (sort_at ss index) (sort_at ss element) (ap is_sort (sym is) ∙ sort_is ss list s.0 within)).0

-- an array stays valid where more was met
pub array_before : (t : Formulas) (old new : MetNames) (i e : Sort) (a : Table) → Gains old new → IsArrayFor t old i e a → IsArrayFor t new i e a
array_before t old new i e a gains valid sizes large = valid sizes (sizes_before t old new gains sizes large)

pub empty_list : (ss : List Stored) → length ss ≡ 0 → ss ≡ []
empty_list [] none = refl
empty_list (s ∷ ss) none = absurd (omega (arith, none))
