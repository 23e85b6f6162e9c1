-- The values of equations, from left to right, are put in the order of the parameters.
use Rattle.std.proofs.Common.{◌≡◌, ◌≢◌, ◌∙◌, sym, ap, subst, refl, ℕ, zero, suc, ◌+◌, ◌<◌, ◌≤◌, ◌==◌, Bool, true, false, cond, not, ◌||◌, ◌⊎◌, inl, inr, if◌then◌else◌, List, [], ◌∷◌, ◌++◌, map, length, get_or, set, take, drop, replicate, count_by, Result, Ok, Err, Vec, Global, All, append_assoc, append-nil, arith}
use Rattle.std.proofs.lemmas.Bool.Decides.{Decides-eqb, nat_tests}
use Rattle.std.proofs.lemmas.List.{get_or-map, length-map, map-append, drop_more, get_or-replicate, length-replicate, length-set, drop_all, take_all, get_or-set_same, get_or-set_other, take-append-drop}
use Rattle.std.proofs.lemmas.List.Elements.{All-get_or, All-from_get_or}
use Rattle.std.proofs.lemmas.List.Sums.{count_by_more_yes, count_by_more_no, sum_by-append}
use Rattle.smt_lex.specs.Names.{is_among}
use Rattle.smt_lex.specs.Lex.{Token}
use Rattle.smt_terms.specs.Equal.{name_eq}
use Rattle.smt_terms.specs.Sorts.{Name, Variable}
use Rattle.smt_terms.specs.Values as plain
use Rattle.smt_terms.specs.declared.ids.SortId.{SortId}
use Rattle.smt_terms.proofs.Equal.{name_same, name_itself}
use Rattle.smt_terms.proofs.Tests.{both_true, and_true, contrary}
use Rattle.smt_values.specs.Meaning.{meaning, IsHeld}
use Rattle.smt_values.specs.SortIds.{sort_at}
use Rattle.smt_values.specs.declared.scalar.Scalar.TheVariants.{Truth}
use Rattle.smt_values.specs.declared.value.Value.{Value}
use Rattle.smt_values.specs.declared.value.Value.TheVariants.{Scalar as OfScalar}
use Rattle.term_table.specs.Formulas.{Formulas}
use Rattle.models.specs.GraphRows.{meanings}
use Rattle.model_texts.specs.Conditions.{no_variable, side_at, equations_at, sort_of, NamesEachOnce, AreVariablesOf}
use Rattle.model_texts.specs.Met.{MetNames, names_kept, Gains, AreSizesFor, IsMetValue, AreMetValues}
use Rattle.model_texts.specs.Proper.{are_distinct}
use Rattle.model_texts.specs.Reading.{Element, Reading, continued, ◌>>=◌, gives}
use Rattle.model_texts.specs.Refusals.{Refused}
use Rattle.model_texts.specs.Replies.{AreElementsOf, Replies}
use Rattle.model_texts.specs.Tables.{Key, side_value, keys_of, key_named, keys_in_order}
use Rattle.model_texts.specs.declared.conditions.Side.TheVariants.{Holds}
use Rattle.model_texts.specs.declared.conditions.Equation.{Equation}
use Rattle.model_texts.specs.declared.faults.TextFault.{TextFault}
use Rattle.model_texts.proofs.EquationsFound.{sort_at_place}
use Rattle.model_texts.proofs.MetNames.{gains_through}
use Rattle.model_texts.proofs.SignatureOwners.{among_last}
use Rattle.model_texts.proofs.StoreReading.{Reads, refused_on, accepted, met_later}

-- ---- keys by their names

abbrev key_names : List Key → List Name
key_names ks = map (λ k. k.name) ks

key_last : (ks : List Key) (k : Key) (n : Name) → is_among (key_names ks) n ≡ false → name_eq n k.name ≡ true → key_named (ks ++ k ∷ []) n ≡ k.value
key_last [] k n apart same = ap (λ m. if name_eq m n then k.value else plain.truth false) (sym (name_same n k.name same)) ∙ ap (λ b. if b then k.value else plain.truth false) (name_itself n)
key_last (j ∷ ks) k n apart same = by (name_eq j.name n) refl apart (key_last ks k n)
  where
    by : (b : Bool) → name_eq j.name n ≡ b → (name_eq n j.name || is_among (key_names ks) n) ≡ false → (is_among (key_names ks) n ≡ false → name_eq n k.name ≡ true → key_named (ks ++ k ∷ []) n ≡ k.value)
        → (if b then j.value else key_named (ks ++ k ∷ []) n) ≡ k.value
    by true e apart rest =
        contrary (name_eq n j.name || is_among (key_names ks) n)
        (ap (λ m. name_eq m j.name || is_among (key_names ks) n) (sym (name_same j.name n e)) ∙ ap (λ b. b || is_among (key_names ks) n) (name_itself j.name)) apart
    by false e apart rest = rest (other (name_eq n j.name) apart) same
      where
        other : (b : Bool) → (b || is_among (key_names ks) n) ≡ false → is_among (key_names ks) n ≡ false
        other true h = absurd cc
        other false h = h

key_before : (ks : List Key) (k : Key) (n : Name) → name_eq k.name n ≡ false → key_named (ks ++ k ∷ []) n ≡ key_named ks n
key_before [] k n other = ap (λ b. if b then k.value else plain.truth false) other
key_before (j ∷ ks) k n other = ap (λ v. if name_eq j.name n then j.value else v) (key_before ks k n other)

-- ---- names of which no two are alike

name_there : (ns : List Name) (i : ℕ) (d : Name) → i < length ns → is_among ns (get_or ns i d) ≡ true
name_there [] i d less = absurd (omega (arith, less))
name_there (n ∷ ns) zero d less = ap (λ b. b || is_among ns n) (name_itself n)
name_there (n ∷ ns) (suc i) d less = by (name_eq (get_or ns i d) n) (name_there ns i d (omega (arith, less)))
  where
    by : (b : Bool) → is_among ns (get_or ns i d) ≡ true → (b || is_among ns (get_or ns i d)) ≡ true
    by true h = refl
    by false h = h

apart_at : (ns : List Name) (i j : ℕ) (d : Name) → are_distinct ns ≡ true → i < length ns → j < length ns → i ≢ j → name_eq (get_or ns i d) (get_or ns j d) ≡ false
apart_at [] i j d distinct less few apart = absurd (omega (arith, less))
apart_at (n ∷ ns) zero zero d distinct less few apart = absurd (apart refl)
apart_at (n ∷ ns) zero (suc j) d distinct less few apart =
    let parts = both_true (not (is_among ns n)) (are_distinct ns) distinct in
    by (name_eq n (get_or ns j d)) refl parts.0 (name_there ns j d (omega (arith, few)))
  where
    by : (b : Bool) → name_eq n (get_or ns j d) ≡ b → not (is_among ns n) ≡ true → is_among ns (get_or ns j d) ≡ true → b ≡ false
    by true e new there = contrary (not (is_among ns n)) new (ap (λ m. not (is_among ns m)) (name_same n (get_or ns j d) e) ∙ ap not there)
    by false e new there = refl
apart_at (n ∷ ns) (suc i) zero d distinct less few apart =
    let parts = both_true (not (is_among ns n)) (are_distinct ns) distinct in
    by (name_eq (get_or ns i d) n) refl parts.0 (name_there ns i d (omega (arith, less)))
  where
    by : (b : Bool) → name_eq (get_or ns i d) n ≡ b → not (is_among ns n) ≡ true → is_among ns (get_or ns i d) ≡ true → b ≡ false
    by true e new there = contrary (not (is_among ns n)) new (ap (λ m. not (is_among ns m)) (sym (name_same (get_or ns i d) n e)) ∙ ap not there)
    by false e new there = refl
apart_at (n ∷ ns) (suc i) (suc j) d distinct less few apart =
    let parts = both_true (not (is_among ns n)) (are_distinct ns) distinct in
    apart_at ns i j d parts.1 (omega (arith, less)) (omega (arith, few)) (λ e. apart (ap suc e))

abbrev variable_names : List Variable → List Name
variable_names xs = map (λ x. x.name) xs

pub names_apart : (xs : List Variable) (i j : ℕ) → are_distinct (variable_names xs) ≡ true → i < length xs → j < length xs → i ≢ j → name_eq (get_or xs i no_variable).name (get_or xs j no_variable).name ≡ false
names_apart xs i j distinct less few apart =
    let size = length-map xs (λ (x : Variable). x.name) in
    let at = λ (k : ℕ) (h : k < length xs). get_or-map (λ (x : Variable). x.name) xs k no_variable [] h in
    ap (λ n. name_eq n (get_or xs j no_variable).name) (sym (at i less)) ∙ ap (name_eq (get_or (variable_names xs) i [])) (sym (at j few))
    ∙ apart_at (variable_names xs) i j [] distinct (omega (arith, less, size)) (omega (arith, few, size)) apart

-- ---- what was read

abbrev pub AreThese : Vec Value Global → List plain.Value → Type 0
AreThese vs ws = All IsHeld vs.items × (meanings vs.items ≡ ws)

abbrev pub no_value : Value
no_value = OfScalar (Truth false)

abbrev pub no_equation : Equation
no_equation = record { parameter = 0; side = Holds false }

-- how often the first equations are about a parameter
abbrev pub times : List Equation → ℕ → ℕ → ℕ
times es k i = count_by (λ e. e.parameter == i) (take k es)

pub more_times : (es : List Equation) (k i : ℕ) → k < length es → ((get_or es k no_equation).parameter == i) ≡ true → times es (k + 1) i ≡ times es k i + 1
more_times es k i less same = count_by_more_yes (λ e. e.parameter == i) es k no_equation less same

pub same_times : (es : List Equation) (k i : ℕ) → k < length es → ((get_or es k no_equation).parameter == i) ≡ false → times es (k + 1) i ≡ times es k i
same_times es k i less other = count_by_more_no (λ e. e.parameter == i) es k no_equation less other

-- a parameter that is named once isn't named before
pub not_before : (n : ℕ) (es : List Equation) (k : ℕ) → NamesEachOnce n es → k < length es → (get_or es k no_equation).parameter < n → times es k (get_or es k no_equation).parameter ≡ 0
not_before n es k once less within =
    let p = (get_or es k no_equation).parameter in
    let whole : count_by (λ e. e.parameter == p) es ≡ 1 = once p within in
    let parts = sum_by-append (λ (e : Equation). cond (e.parameter == p) 1 0) (take (k + 1) es) (drop (k + 1) es) in
    let same = ap (count_by (λ e. e.parameter == p)) (take-append-drop (k + 1) es) in
    let more = more_times es k p less ((Decides-eqb p p).1 refl) in
    omega (arith, whole, parts, same, more)

module _ (t : Formulas) (ts : List Token) (args : List SortId) (es : List Equation) where
  -- what is left to read behind these keys
  abbrev rest_of : List Variable → List Key → List Equation → Reading (List plain.Value)
  rest_of xs done ds = keys_of (equations_at ts xs ds) >>= λ ks. gives (map (λ x. key_named (done ++ ks) x.name) xs)

  -- the values at the places of these keys
  pub record Done (xs : List Variable) (k : ℕ) (vs : List Value) (done : List Key) : Type 0 where
    pub values : (i : ℕ) → i < length args → meaning (get_or vs i no_value) ≡ key_named done (get_or xs i no_variable).name
    pub apart : (i : ℕ) → i < length args → times es k i ≡ 0 → is_among (key_names done) (get_or xs i no_variable).name ≡ false

  pub record Keying (old : MetNames) (k : ℕ) (vs : List Value) (now : MetNames) : Type 0 where
    pub size : length vs ≡ length args
    pub gains : Gains old now
    pub held : All IsHeld vs
    pub valid : (i : ℕ) → i < length args → (times es k i ≡ 0) ⊎ IsMetValue t now (sort_of args i) (get_or vs i no_value)
    pub reads : (xs : List Variable) → AreVariablesOf t.sorts args xs → (ds : List Element) → AreElementsOf t (names_kept old) ds
        → (fs : List Element) × AreElementsOf t (names_kept now) fs × ((done : List Key) × Done xs k vs done × (keys_in_order xs (equations_at ts xs es) ds ≡ rest_of xs done (drop k es) fs))

  pub keying_begins : (old : MetNames) (vs : List Value) → vs ≡ replicate (length args) no_value → Keying old 0 vs old
  keying_begins old vs made =
      let size = length-replicate (length args) no_value in
      let at = λ (i : ℕ) (h : i < length args). ap (λ us. get_or us i no_value) made ∙ get_or-replicate (length args) i no_value no_value h in
      record {
        size = ap length made ∙ size;
        gains = λ s. ([], sym (append-nil (names_kept old s)));
        held = All-from_get_or IsHeld vs no_value (λ i less. subst IsHeld (sym (at i (subst (λ n. i < n) (ap length made ∙ size) less))) tt);
        valid = λ i less. inl refl;
        reads = λ xs are ds known. (ds, known, ([], record { values = λ i less. ap meaning (at i less); apart = λ i less h. refl }, refl));
      }

  module _ (old now : MetNames) (k : ℕ) (vs : List Value) (so_far : Keying old k vs now) (less : k < length es) (within : (get_or es k no_equation).parameter < length args) where
    abbrev pub e : Equation
    e = get_or es k no_equation

    abbrev pub p : ℕ
    p = e.parameter

    abbrev key_of : List Variable → plain.Value → Key
    key_of xs w = record { name = (get_or xs p no_variable).name; value = w }

    -- the value of the next equation, and then what is left
    abbrev next : List Variable → List Key → plain.Value → Reading (List plain.Value)
    next xs done w = rest_of xs (done ++ key_of xs w ∷ []) (drop (k + 1) es)

    abbrev side_reading : Reading plain.Value
    side_reading = side_value (sort_at t.sorts (sort_of args p)) (side_at ts e.side)

    first_key : (xs : List Variable) (done : List Key) (w : plain.Value) (r : Result (List Key × List Element) Refused)
        → continued (λ ks. gives (map (λ (x : Variable). key_named (done ++ ks) x.name) xs)) (continued (λ ks. gives (key_of xs w ∷ ks)) r)
        ≡ continued (λ ks. gives (map (λ (x : Variable). key_named ((done ++ key_of xs w ∷ []) ++ ks) x.name) xs)) r
    first_key xs done w (Ok q) = ap (λ ks. Ok (map (λ (x : Variable). key_named ks x.name) xs, q.1)) (sym (append_assoc done (key_of xs w ∷ []) q.0))
    first_key xs done w (Err r) = refl

    one_by_one : (xs : List Variable) (done : List Key) (r : Result (plain.Value × List Element) Refused)
        → continued (λ ks. gives (map (λ (x : Variable). key_named (done ++ ks) x.name) xs)) (continued (λ w. keys_of (equations_at ts xs (drop (k + 1) es)) >>= λ ks. gives (key_of xs w ∷ ks)) r)
        ≡ continued (next xs done) r
    one_by_one xs done (Ok q) = first_key xs done q.0 (keys_of (equations_at ts xs (drop (k + 1) es)) q.1)
    one_by_one xs done (Err r) = refl

    left : (xs : List Variable) → AreVariablesOf t.sorts args xs → (done : List Key) (fs : List Element) → rest_of xs done (drop k es) fs ≡ continued (next xs done) (side_reading fs)
    left xs are done fs =
        ap (λ ds. rest_of xs done ds fs) (drop_more es k no_equation less)
        ∙ one_by_one xs done (side_value (get_or xs p no_variable).sort (side_at ts e.side) fs)
        ∙ ap (λ s. continued (next xs done) (side_value s (side_at ts e.side) fs)) (sort_at_place t.sorts args xs are.sorts p)

    pub side_refused : (new : MetNames) (x : TextFault) → Reads t now new side_reading (Err x) → (A : Type 0) (R : A → List plain.Value → Type 0)
        → (xs : List Variable) → AreVariablesOf t.sorts args xs → (ds : List Element) → AreElementsOf t (names_kept old) ds
        → Replies R (AreElementsOf t (names_kept new)) (keys_in_order xs (equations_at ts xs es) ds) (Err x)
    side_refused new x refused A R xs are ds known =
        let d = so_far.reads xs are ds known in
        subst (λ r. Replies R (AreElementsOf t (names_kept new)) r (Err x)) (sym (d.2.2 ∙ left xs are d.2.0 d.0))
        (refused_on {C = A} (λ v w. IsHeld v × (meaning v ≡ w)) R (AreElementsOf t (names_kept new)) (AreElementsOf t (names_kept new)) (next xs d.2.0) (side_reading d.0) x (refused d.0 d.1))

    module _ (new : MetNames) (v : Value) (us : List Value) (read : Reads t now new side_reading (Ok v)) (met : IsMetValue t new (sort_of args p) v) (gains : Gains now new)
        (put : us ≡ set vs p v) (once : NamesEachOnce (length args) es) where
      at_same : (i : ℕ) → i ≡ p → get_or us i no_value ≡ v
      at_same i is = ap (λ ws. get_or ws i no_value) put ∙ ap (λ j. get_or (set vs p v) j no_value) is ∙ get_or-set_same vs p v no_value (subst (λ n. p < n) (sym so_far.size) within)

      at_other : (i : ℕ) → i ≢ p → get_or us i no_value ≡ get_or vs i no_value
      at_other i other = ap (λ ws. get_or ws i no_value) put ∙ get_or-set_other vs p i v no_value other

      same_size : length us ≡ length args
      same_size = ap length put ∙ length-set vs p v ∙ so_far.size

      other_number : (i : ℕ) → (i == p) ≡ false → (i ≢ p) × ((p == i) ≡ false)
      other_number i h = ((λ e. contrary (i == p) ((Decides-eqb i p).1 e) h), grind (arith, nat_tests, h))

      all_held : All IsHeld us
      all_held = All-from_get_or IsHeld us no_value (λ i few. by i (subst (λ n. i < n) same_size few) (i == p) refl)
        where
          by : (i : ℕ) → i < length args → (b : Bool) → (i == p) ≡ b → IsHeld (get_or us i no_value)
          by i few true h = subst IsHeld (sym (at_same i ((Decides-eqb i p).0 h))) met.held
          by i few false h = subst IsHeld (sym (at_other i (other_number i h).0)) (All-get_or IsHeld vs i no_value (subst (λ n. i < n) (sym so_far.size) few) so_far.held)

      all_valid : (i : ℕ) → i < length args → (times es (k + 1) i ≡ 0) ⊎ IsMetValue t new (sort_of args i) (get_or us i no_value)
      all_valid i few = by (i == p) refl (so_far.valid i few)
        where
          by : (b : Bool) → (i == p) ≡ b → (times es k i ≡ 0) ⊎ IsMetValue t now (sort_of args i) (get_or vs i no_value) → (times es (k + 1) i ≡ 0) ⊎ IsMetValue t new (sort_of args i) (get_or us i no_value)
          by true h before =
              let is : i ≡ p = (Decides-eqb i p).0 h in
              inr (subst (IsMetValue t new (sort_of args i)) (sym (at_same i is)) (subst (λ j. IsMetValue t new (sort_of args j) v) (sym is) met))
          by false h (inl none) = inl (same_times es k i less (other_number i h).1 ∙ none)
          by false h (inr before) = inr (subst (IsMetValue t new (sort_of args i)) (sym (at_other i (other_number i h).0)) (met_later t now new (sort_of args i) (get_or vs i no_value) gains before))

      one_more : (xs : List Variable) → AreVariablesOf t.sorts args xs → (done : List Key) → Done xs k vs done → (w : plain.Value) → meaning v ≡ w → Done xs (k + 1) us (done ++ key_of xs w ∷ [])
      one_more xs are done so w is = record {
        values = λ i few. value i few (i == p) refl;
        apart = λ i few none. away i few none (i == p) refl;
      }
        where
          many : length xs ≡ length args
          many = let a = length-map xs (λ (x : Variable). x.sort) in let b = length-map args (sort_at t.sorts) in let c = ap length are.sorts in omega (arith, a, b, c)

          differ : (i j : ℕ) → i < length args → j < length args → i ≢ j → name_eq (get_or xs i no_variable).name (get_or xs j no_variable).name ≡ false
          differ i j few least = names_apart xs i j are.distinct (subst (λ n. i < n) (sym many) few) (subst (λ n. j < n) (sym many) least)

          value : (i : ℕ) → i < length args → (b : Bool) → (i == p) ≡ b → meaning (get_or us i no_value) ≡ key_named (done ++ key_of xs w ∷ []) (get_or xs i no_variable).name
          value i few true h =
              let same : i ≡ p = (Decides-eqb i p).0 h in
              ap meaning (at_same i same) ∙ is
              ∙ sym (ap (λ j. key_named (done ++ key_of xs w ∷ []) (get_or xs j no_variable).name) same
              ∙ key_last done (key_of xs w) (get_or xs p no_variable).name (so.apart p within (not_before (length args) es k once less within)) (name_itself (get_or xs p no_variable).name))
          value i few false h =
              let other = (other_number i h).0 in
              ap meaning (at_other i other) ∙ so.values i few ∙ sym (key_before done (key_of xs w) (get_or xs i no_variable).name (differ p i within few (λ e. other (sym e))))

          away : (i : ℕ) → i < length args → times es (k + 1) i ≡ 0 → (b : Bool) → (i == p) ≡ b → is_among (key_names (done ++ key_of xs w ∷ [])) (get_or xs i no_variable).name ≡ false
          away i few none true h =
              let same : (p == i) ≡ true = grind (arith, nat_tests, h) in
              let more = more_times es k i less same in
              absurd (omega (arith, none, more))
          away i few none false h =
              let other = other_number i h in
              ap (λ ns. is_among ns (get_or xs i no_variable).name) (map-append (λ (d : Key). d.name) done (key_of xs w ∷ []))
              ∙ among_last (key_names done) (get_or xs p no_variable).name (get_or xs i no_variable).name
              ∙ ap (λ b. if b then true else is_among (key_names done) (get_or xs i no_variable).name) (differ i p few within other.0)
              ∙ so.apart i few (sym (same_times es k i less other.1) ∙ none)

      pub keying_goes_on : Keying old (k + 1) us new
      keying_goes_on = record {
        size = same_size;
        gains = gains_through old now new so_far.gains gains;
        held = all_held;
        valid = all_valid;
        reads = λ xs are ds known.
            let d = so_far.reads xs are ds known in
            let r = accepted (λ a w. IsHeld a × (meaning a ≡ w)) (AreElementsOf t (names_kept new)) (side_reading d.0) v (read d.0 d.1) in (
              r.1,
              r.4,
              (d.2.0 ++ key_of xs r.0 ∷ [], one_more xs are d.2.0 d.2.1 r.0 r.3.1, d.2.2 ∙ left xs are d.2.0 d.0 ∙ ap (continued (next xs d.2.0)) r.2),
            );
      }

  -- ---- at the end

  module _ (old now : MetNames) (k : ℕ) (vs : List Value) (so_far : Keying old k vs now) (end : length es ≤ k) where
    same_lists : (vs : List Value) (xs : List Variable) (done : List Key) → length vs ≡ length xs → ((i : ℕ) → i < length vs → meaning (get_or vs i no_value) ≡ key_named done (get_or xs i no_variable).name)
        → meanings vs ≡ map (λ x. key_named done x.name) xs
    same_lists [] [] done size same = refl
    same_lists (v ∷ vs) (x ∷ xs) done size same =
        λ j. same zero (omega arith) j ∷ same_lists vs xs done (omega (arith, size)) (λ i few. same (suc i) (omega (arith, few))) j
    same_lists [] (x ∷ xs) done size same = absurd (omega (arith, size))
    same_lists (v ∷ vs) [] done size same = absurd (omega (arith, size))

    pub keying_ends : (xs : List Variable) → AreVariablesOf t.sorts args xs → (ds : List Element) → AreElementsOf t (names_kept old) ds → (us : List Value) → us ≡ vs
        → (fs : List Element) × AreElementsOf t (names_kept now) fs × (keys_in_order xs (equations_at ts xs es) ds ≡ Ok (meanings us, fs))
    keying_ends xs are ds known us is =
        let d = so_far.reads xs are ds known in
        let a = length-map xs (λ (x : Variable). x.sort) in
        let b = length-map args (sort_at t.sorts) in
        let c = ap length are.sorts in
        let many : length vs ≡ length xs = omega (arith, a, b, c, so_far.size) in (
          d.0,
          d.1,
          d.2.2 ∙ ap (λ cs. rest_of xs d.2.0 cs d.0) (drop_all k es end)
              ∙ ap (λ ws. Ok (ws, d.0)) (ap (λ ks. map (λ (x : Variable). key_named ks x.name) xs) (append-nil d.2.0)
              ∙ sym (same_lists vs xs d.2.0 many (λ i few. d.2.1.values i (subst (λ n. i < n) so_far.size few))) ∙ ap meanings (sym is)),
        )

    met_lists : (ss : List SortId) (ws : List Value) → length ws ≡ length ss → ((i : ℕ) → i < length ss → IsMetValue t now (sort_of ss i) (get_or ws i no_value)) → (sizes : plain.Sizes) → AreSizesFor t now sizes
        → plain.are_values (map (sort_at t.sorts) ss) sizes (meanings ws) ≡ true
    met_lists [] [] size all sizes large = refl
    met_lists (s ∷ ss) (w ∷ ws) size all sizes large =
        and_true (plain.is_value (sort_at t.sorts s) sizes (meaning w)) (plain.are_values (map (sort_at t.sorts) ss) sizes (meanings ws)) ((all zero (omega arith)).valid sizes large)
        (met_lists ss ws (omega (arith, size)) (λ i few. all (suc i) (omega (arith, few))) sizes large)
    met_lists [] (w ∷ ws) size all sizes large = absurd (omega (arith, size))
    met_lists (s ∷ ss) [] size all sizes large = absurd (omega (arith, size))

    pub keys_met : NamesEachOnce (length args) es → AreMetValues t now args vs
    keys_met once = record {
      held = so_far.held;
      valid = met_lists args vs so_far.size (λ i few. by i few (so_far.valid i few));
    }
      where
        by : (i : ℕ) → i < length args → (times es k i ≡ 0) ⊎ IsMetValue t now (sort_of args i) (get_or vs i no_value) → IsMetValue t now (sort_of args i) (get_or vs i no_value)
        by i few (inl none) =
            let whole : times es k i ≡ 1 = ap (count_by (λ d. d.parameter == i)) (take_all k es end) ∙ once i few in
            absurd (omega (arith, none, whole))
        by i few (inr met) = met
