-- The model of what a text gives: the sizes of its sorts, and what each table makes of the model, one after the other.
use Rattle.std.proofs.Common.{◌≡◌, ◌∙◌, sym, ap, subst, refl, ℕ, suc, ◌+◌, ◌<◌, ◌≤◌, ◌==◌, max, Bool, true, false, not, cond, if◌then◌else◌, ◌||◌, List, [], ◌∷◌, ◌++◌, map, filter, length, get_or, All, Some, None, ◌⊎◌, inl, inr, true≢false, append-nil, append_assoc, arith}
use Rattle.std.specs.Prelude.{is_some}
use Rattle.std.specs.Borrow.{Bor}
use Rattle.std.specs.List.{list_any, list_all, position_or_len}
use Rattle.std.specs.Map.{values_of}
use Rattle.std.proofs.lemmas.Bool.Decides.{Decides-eqb}
use Rattle.std.proofs.lemmas.List.{map-append}
use Rattle.std.proofs.lemmas.List.Sums.{passes_at_first}
use Rattle.smt_lex.specs.Names.{is_among}
use Rattle.smt_terms.specs.declared.ids.SortId.{SortId}
use Rattle.smt_terms.specs.declared.ids.SymId.{SymId}
use Rattle.smt_terms.specs.Equal.{name_eq, sort_eq, symbol_eq}
use Rattle.smt_terms.specs.Models.{NumberGraph, Model, IsModel, IsModelOver}
use Rattle.smt_terms.specs.Sorts.{Name, bool, int, free_sort}
use Rattle.smt_terms.specs.Values.{Sizes}
use Rattle.smt_terms.proofs.Equal.{Decides-sort_eq, name_same, name_itself}
use Rattle.smt_terms.proofs.Tests.{both_true, either_true, left_true, right_true, not_true, contrary}
use Rattle.smt_values.specs.SizeTable.{size_at, sizes_by, number_of}
use Rattle.smt_values.specs.SortIds.{sort_at, IsSortId, IsSortList}
use Rattle.smt_values.proofs.SortIds.{sort_placed}
use Rattle.term_table.specs.Formulas.{Formulas, symbol_at, IsSymbol}
use Rattle.script_read.specs.CommandLists.{free_name}
use Rattle.script_read.specs.Commands.{Signature}
use Rattle.models.specs.Division.{with_numbers}
use Rattle.models.specs.LiveNumbers.{LiveNumbers, signature_of, IsFreeSort}
use Rattle.models.specs.ModelView.{ModelLists, model_at, AreSizesOf, default_model_of, with_graph}
use Rattle.models.specs.declared.model.Division.{Division}
use Rattle.models.specs.declared.model.Division.TheVariants.{Quotient, Remainder}
use Rattle.model_texts.specs.Entries as plain
use Rattle.model_texts.specs.Entries.{symbol_among, symbol_named, table_symbol}
use Rattle.model_texts.specs.GivenEntries.{NamedTables, table_given, tables_given, IsNameOfOwner, IsTableOf, AreTablesOf}
use Rattle.model_texts.specs.GivenFits.{table_fits, fits_symbol, given_fits, names_apart, are_elements_of}
use Rattle.model_texts.specs.GivenTables.{graph_given, IsHeldTable}
use Rattle.model_texts.specs.Met.{MetNames, names_kept}
use Rattle.model_texts.specs.ModelText.{with_first_rows, table_of, number_graph, model_over}
use Rattle.model_texts.specs.Proper.{is_table_name, IsProper}
use Rattle.model_texts.specs.Reading.{Element, names_in, sizes}
use Rattle.model_texts.specs.Replies.{AreElementsOf}
use Rattle.model_texts.specs.SignatureNames.{table_name, owned, IsOwnerOf}
use Rattle.model_texts.specs.TextTables.{AreOfText}
use Rattle.model_texts.specs.declared.entries.Given.{Given}
use Rattle.model_texts.specs.declared.names.Owner.TheVariants.{Symbol as OfSymbol, Numbers}
use Rattle.model_texts.proofs.ElementNames.{free_is}
use Rattle.model_texts.proofs.GivenModels.{symbol_given, quotients_given, remainders_given}
use Rattle.model_texts.proofs.StoreReading.{number_is}
use Rattle.model_texts.proofs.TablesTaken.{held_in_middle, passes_in_middle, numbers_everywhere}

-- ---- the sizes of sorts

no_names : (es : List Element) (ns : List Name) (n : Name) → are_elements_of ns es ≡ true → is_among ns n ≡ false → names_in es n ≡ []
no_names [] ns n all new = refl
no_names (e ∷ es) ns n all new =
    let parts = both_true (is_among ns e.sort) (are_elements_of ns es) all in
    by (name_eq e.sort n) refl parts.0 (no_names es ns n parts.1 new)
  where
    by : (b : Bool) → name_eq e.sort n ≡ b → is_among ns e.sort ≡ true → names_in es n ≡ [] → map (λ (x : Element). x.name) (cond b (e ∷ filter (λ (x : Element). name_eq x.sort n) es) (filter (λ (x : Element). name_eq x.sort n) es)) ≡ []
    by true same there rest = absurd (contrary (is_among ns n) (ap (is_among ns) (sym (name_same e.sort n same)) ∙ there) new)
    by false other there rest = rest

module _ (t : Formulas) where
  abbrev name_at : SortId → Name
  name_at s = free_name (sort_at t.sorts s)

  abbrev is_live : List SortId → SortId → Bool
  is_live ss s = list_any (λ (q : SortId). s.0 == q.0) ss

  live_is_free : (ss : List SortId) → All (IsFreeSort t) ss → (s : SortId) → is_live ss s ≡ true → IsFreeSort t s
  live_is_free [] all s h = absurd (true≢false (sym h))
  live_is_free (q ∷ ss) all s h = by (either_true (s.0 == q.0) (is_live ss s) h) (live_is_free ss (λ i d lt. all (suc i) d (omega (arith, lt))) s)
    where
      by : ((s.0 == q.0) ≡ true) ⊎ (is_live ss s ≡ true) → (is_live ss s ≡ true → IsFreeSort t s) → IsFreeSort t s
      by (inl e) rest =
          let same : q.0 ≡ s.0 = sym ((Decides-eqb s.0 q.0).0 e) in
          subst (λ n. IsFreeSort t record { 0 = n }) same (all 0 q (omega arith))
      by (inr later) rest = rest later

  live_has_name : (ss : List SortId) (s : SortId) → is_live ss s ≡ true → list_any (λ (q : SortId). name_eq (name_at s) (name_at q)) ss ≡ true
  live_has_name [] s h = absurd (true≢false (sym h))
  live_has_name (q ∷ ss) s h = by (either_true (s.0 == q.0) (is_live ss s) h) (live_has_name ss s)
    where
      by : ((s.0 == q.0) ≡ true) ⊎ (is_live ss s ≡ true) → (is_live ss s ≡ true → list_any (λ (p : SortId). name_eq (name_at s) (name_at p)) ss ≡ true)
          → (name_eq (name_at s) (name_at q) || list_any (λ (p : SortId). name_eq (name_at s) (name_at p)) ss) ≡ true
      by (inl e) rest =
          left_true (name_eq (name_at s) (name_at q)) (list_any (λ (p : SortId). name_eq (name_at s) (name_at p)) ss)
          (ap (λ n. name_eq (name_at s) (name_at record { 0 = n })) (sym ((Decides-eqb s.0 q.0).0 e)) ∙ name_itself (name_at s))
      by (inr later) rest = right_true (name_eq (name_at s) (name_at q)) (list_any (λ (p : SortId). name_eq (name_at s) (name_at p)) ss) (rest later)

  pub among_names : (n : Name) (ss : List SortId) → is_among (map name_at ss) n ≡ list_any (λ (s : SortId). name_eq n (name_at s)) ss
  among_names n [] = refl
  among_names n (s ∷ ss) = ap (λ b. name_eq n (name_at s) || b) (among_names n ss)

  abbrev number_named : Name → SortId
  number_named n = number_of t.sorts (free_sort n)

  -- the sort of a name that the table has
  sort_of_number : (n : Name) → IsSortId t.sorts (number_named n) → sort_at t.sorts (number_named n) ≡ free_sort n
  sort_of_number n within =
      let place = position_or_len (sort_eq (free_sort n)) t.sorts in
      sort_placed t.sorts place
      ∙ sym ((Decides-sort_eq (free_sort n) (get_or t.sorts place bool)).0 (passes_at_first (sort_eq (free_sort n)) t.sorts bool (omega (arith, within))))

  module _ (list : IsSortList t.sorts) where
    -- a live name is that of a live number
    number_live : (ss : List SortId) → All (IsFreeSort t) ss → (n : Name) → list_any (λ (s : SortId). name_eq n (name_at s)) ss ≡ true → is_live ss (number_named n) ≡ true
    number_live [] all n h = absurd (true≢false (sym h))
    number_live (q ∷ ss) all n h =
        by (either_true (name_eq n (name_at q)) (list_any (λ (s : SortId). name_eq n (name_at s)) ss) h) (number_live ss (λ i d lt. all (suc i) d (omega (arith, lt))) n) (all 0 q (omega arith))
      where
        by : (name_eq n (name_at q) ≡ true) ⊎ (list_any (λ (s : SortId). name_eq n (name_at s)) ss ≡ true) → (list_any (λ (s : SortId). name_eq n (name_at s)) ss ≡ true → is_live ss (number_named n) ≡ true)
            → IsFreeSort t q → ((number_named n).0 == q.0 || is_live ss (number_named n)) ≡ true
        by (inl e) rest free =
            let sort : free_sort n ≡ sort_at t.sorts q = ap free_sort (name_same n (name_at q) e) ∙ sym (free_is (sort_at t.sorts q) free.1) in
            let number : number_named n ≡ q = ap (number_of t.sorts) sort ∙ number_is t.sorts list q free.0 free.1 in
            left_true ((number_named n).0 == q.0) (is_live ss (number_named n)) ((Decides-eqb (number_named n).0 q.0).1 (ap (λ (s : SortId). s.0) number))
        by (inr later) rest free = right_true ((number_named n).0 == q.0) (is_live ss (number_named n)) (rest later)

    module _ (sorts : List SortId) (free : All (IsFreeSort t) sorts) (ms : MetNames) (ns : List (SortId × ℕ))
        (are : (s : SortId) → size_at ns s ≡ (if is_live sorts s then max 1 (length (names_kept ms s)) else 1)) where
      pub sizes_of_signature : AreSizesOf t sorts ns
      unfolding sizes_by
      sizes_of_signature = record {
        positive = λ s. positive s (is_live sorts s) (are s);
        table = λ s far. table s far (is_live sorts s) refl;
        others = λ n h. others n h (is_live sorts (number_named n)) refl;
      }
        where
          positive : (s : SortId) (b : Bool) → size_at ns s ≡ (if b then max 1 (length (names_kept ms s)) else 1) → 0 < size_at ns s
          positive s true e = omega (arith, e)
          positive s false e = omega (arith, e)

          table : (s : SortId) → 130 + length t.sorts ≤ s.0 → (b : Bool) → is_live sorts s ≡ b → size_at ns s ≡ 1
          table s far true e = let live = live_is_free sorts free s e in let within = live.0 in absurd (omega (arith, within, far))
          table s far false e = are s ∙ ap (λ b. if b then max 1 (length (names_kept ms s)) else 1) e

          others : (n : Name) → list_any (λ (s : SortId). name_eq n (name_at s)) sorts ≡ false → (b : Bool) → is_live sorts (number_named n) ≡ b → size_at ns (number_named n) ≡ 1
          others n new true e =
              let live = live_is_free sorts free (number_named n) e in
              let name : name_at (number_named n) ≡ n = ap free_name (sort_of_number n live.0) in
              absurd (contrary (list_any (λ (s : SortId). name_eq n (name_at s)) sorts)
              (ap (λ m. list_any (λ (s : SortId). name_eq m (name_at s)) sorts) (sym name) ∙ live_has_name sorts (number_named n) e) new)
          others n new false e = are (number_named n) ∙ ap (λ b. if b then max 1 (length (names_kept ms (number_named n))) else 1) e

      pub sizes_of_text : (es : List Element) → AreElementsOf t (names_kept ms) es → are_elements_of (map name_at sorts) es ≡ true → (n : Name) → sizes_by t.sorts ns n ≡ sizes es n
      unfolding sizes_by
      sizes_of_text es known within n = by (is_live sorts (number_named n)) refl
        where
          by : (b : Bool) → is_live sorts (number_named n) ≡ b → size_at ns (number_named n) ≡ max 1 (length (names_in es n))
          by true e =
              let live = live_is_free sorts free (number_named n) e in
              let name : name_at (number_named n) ≡ n = ap free_name (sort_of_number n live.0) in
              are (number_named n) ∙ ap (λ b. if b then max 1 (length (names_kept ms (number_named n))) else 1) e
              ∙ ap (λ ms. max 1 (length ms)) (sym (known (number_named n) live) ∙ ap (names_in es) name)
          by false e =
              are (number_named n) ∙ ap (λ b. if b then max 1 (length (names_kept ms (number_named n))) else 1) e
              ∙ ap (λ ms. max 1 (length ms)) (sym (no_names es (map name_at sorts) n within (new (is_among (map name_at sorts) n) refl)))
            where
              new : (c : Bool) → is_among (map name_at sorts) n ≡ c → is_among (map name_at sorts) n ≡ false
              new true k = absurd (contrary (is_live sorts (number_named n)) (number_live sorts free n (sym (among_names n sorts) ∙ k)) e)
              new false k = k

-- ---- table by table

-- of tables with names apart each is new behind those before it
new_behind : (gs hs : List plain.Given) (g : plain.Given) → names_apart (gs ++ g ∷ hs) ≡ true → is_among (map (λ (h : plain.Given). h.name) gs) g.name ≡ false
new_behind [] hs g apart = refl
new_behind (k ∷ gs) hs g apart =
    let parts = both_true (not (is_among (map (λ (h : plain.Given). h.name) (gs ++ g ∷ hs)) k.name)) (names_apart (gs ++ g ∷ hs)) apart in
    by (name_eq g.name k.name) refl (not_true (is_among (map (λ (h : plain.Given). h.name) (gs ++ g ∷ hs)) k.name) parts.0) (new_behind gs hs g parts.1)
  where
    there : (fs : List plain.Given) (n : Name) → n ≡ g.name → is_among (map (λ (h : plain.Given). h.name) (fs ++ g ∷ hs)) n ≡ true
    there [] n same = left_true (name_eq n g.name) (is_among (map (λ (h : plain.Given). h.name) hs) n) (ap (λ m. name_eq m g.name) same ∙ name_itself g.name)
    there (f ∷ fs) n same = right_true (name_eq n f.name) (is_among (map (λ (h : plain.Given). h.name) (fs ++ g ∷ hs)) n) (there fs n same)

    by : (b : Bool) → name_eq g.name k.name ≡ b → is_among (map (λ (h : plain.Given). h.name) (gs ++ g ∷ hs)) k.name ≡ false → is_among (map (λ (h : plain.Given). h.name) gs) g.name ≡ false
        → (name_eq g.name k.name || is_among (map (λ (h : plain.Given). h.name) gs) g.name) ≡ false
    by true same new rest = absurd (contrary (is_among (map (λ (h : plain.Given). h.name) (gs ++ g ∷ hs)) k.name) (there gs k.name (sym (name_same g.name k.name same))) new)
    by false other new rest = ap (λ b. b || is_among (map (λ (h : plain.Given). h.name) gs) g.name) other ∙ rest

abbrev Named : Type 0
Named = Bor (List ℕ) × Given

-- some tables stand in the model, and the rest is left
pub record Taking (sig : Signature) (tables : NamedTables) (left : List Given) (counts : Sizes) (m : Model) : Type 0 where
  pub before : NamedTables
  pub after : NamedTables
  pub all : before ++ after ≡ tables
  pub rest : values_of after ≡ left
  pub model : m ≡ model_over sig (tables_given before) counts

pub taking_begins : (sig : Signature) (tables : NamedTables) (left : List Given) (counts : Sizes) (m : Model) → left ≡ values_of tables → m ≡ default_model_of counts sig → Taking sig tables left counts m
taking_begins sig tables left counts m are is = record { before = []; after = tables; all = refl; rest = sym are; model = is }

pub taking_ends : (sig : Signature) (tables : NamedTables) (left : List Given) (counts : Sizes) (m : Model) → left ≡ [] → Taking sig tables left counts m → m ≡ model_over sig (tables_given tables) counts
taking_ends sig tables left counts m none so_far =
    so_far.model ∙ ap (λ (ts : NamedTables). model_over sig (tables_given ts) counts) (sym (append-nil so_far.before) ∙ ap (λ ts. so_far.before ++ ts) (sym (nothing so_far.after (so_far.rest ∙ none))) ∙ so_far.all)
  where
    nothing : (ts : NamedTables) → values_of ts ≡ [] → ts ≡ []
    nothing [] h = refl
    nothing (e ∷ ts) h = let short : suc (length (values_of ts)) ≡ 0 = ap (λ (gs : List Given). length gs) h in absurd (omega (arith, short))

first_left : (ts : NamedTables) (x : Given) (more : List Given) → values_of ts ≡ x ∷ more → (e : Named) × (rest : NamedTables) × (ts ≡ e ∷ rest) × (e.1 ≡ x) × (values_of rest ≡ more)
first_left [] x more h = let short : 0 ≡ suc (length more) = ap (λ (gs : List Given). length gs) h in absurd (omega (arith, short))
first_left (e ∷ ts) x more h = (e, ts, refl, ap (head_or x) h, ap tail h)
  where
    head_or : Given → List Given → Given
    head_or d [] = d
    head_or d (g ∷ gs) = g

    tail : List Given → List Given
    tail [] = []
    tail (g ∷ gs) = gs

-- the model over a table with another part of what divides by zero
abbrev pub by_zero : Division → NumberGraph → Model → Model
by_zero Quotient g m = record m { div_by_zero = g }
by_zero Remainder g m = record m { mod_by_zero = g }

pub numbers_set : (t : Formulas) (part : Division) (g : NumberGraph) (m : ModelLists) → model_at t (with_numbers part g m) ≡ by_zero part g (model_at t m)
numbers_set t Quotient g m = refl
numbers_set t Remainder g m = refl

module _ (t : Formulas) (sig : Signature) (proper : IsProper sig) (tables : NamedTables) (are : AreTablesOf t sig tables) (counts : Sizes) (fit : list_all (given_fits sig counts) (tables_given tables) ≡ true)
    (apart : names_apart (tables_given tables) ≡ true) (m : Model) (left more : List Given) (x : Given) (steps : left ≡ x ∷ more) (so_far : Taking sig tables left counts m) where
  next : (e : Named) × (rest : NamedTables) × (so_far.after ≡ e ∷ rest) × (e.1 ≡ x) × (values_of rest ≡ more)
  next = first_left so_far.after x more (so_far.rest ∙ steps)

  whole : so_far.before ++ next.0 ∷ next.1 ≡ tables
  whole = ap (λ ts. so_far.before ++ ts) (sym next.2) ∙ so_far.all

  this_table : IsTableOf t sig next.0
  this_table = held_in_middle (IsTableOf t sig) so_far.before next.1 next.0 (subst (All (IsTableOf t sig)) (sym whole) are)

  given_whole : tables_given so_far.before ++ table_given next.0 ∷ tables_given next.1 ≡ tables_given tables
  given_whole = sym (map-append table_given so_far.before (next.0 ∷ next.1)) ∙ ap tables_given whole

  this_fits : table_fits (owned t next.0.1.owner) counts (graph_given next.0.1.table) ≡ true
  this_fits =
      ap (fits_symbol counts (graph_given next.0.1.table)) (sym this_table.named)
      ∙ passes_in_middle (given_fits sig counts) (tables_given so_far.before) (tables_given next.1) (table_given next.0) (ap (list_all (given_fits sig counts)) given_whole ∙ fit)

  this_is_new : is_among (map (λ (g : plain.Given). g.name) (tables_given so_far.before)) (table_given next.0).name ≡ false
  this_is_new = new_behind (tables_given so_far.before) (tables_given next.1) (table_given next.0) (ap names_apart given_whole ∙ apart)

  pub this_is_held : IsHeldTable x.table
  this_is_held = subst (λ (g : Given). IsHeldTable g.table) next.3 this_table.held

  one_more : (m' : Model) → m' ≡ model_over sig (tables_given so_far.before ++ table_given next.0 ∷ []) counts → Taking sig tables more counts m'
  one_more m' is = record {
    before = so_far.before ++ next.0 ∷ [];
    after = next.1;
    all = append_assoc so_far.before (next.0 ∷ []) next.1 ∙ whole;
    rest = next.4;
    model = is ∙ ap (λ (gs : List plain.Given). model_over sig gs counts) (sym (map-append table_given so_far.before (next.0 ∷ [])));
  }

  module _ (s : SymId) (owner : x.owner ≡ OfSymbol s) where
    owner_is : next.0.1.owner ≡ OfSymbol s
    owner_is = ap (λ (g : Given). g.owner) next.3 ∙ owner

    pub symbol_there : IsSymbol t s
    symbol_there = subst (IsOwnerOf t) owner_is this_table.owner

    pub symbol_fits : table_fits (symbol_at t s) counts (graph_given x.table) ≡ true
    symbol_fits = (λ i. table_fits (owned t (sym owner_is i)) counts (graph_given (sym next.3 i).table)) ∙ this_fits

    no_table_name : is_table_name next.0.0.now ≡ false
    no_table_name = subst (IsNameOfOwner next.0.0.now) owner_is this_table.name

    symbol_is : symbol_among sig.symbols next.0.0.now ≡ Some (symbol_at t s)
    symbol_is =
        ap (λ b. if b then Some (table_symbol next.0.0.now) else symbol_among sig.symbols next.0.0.now) (sym no_table_name)
        ∙ this_table.named ∙ ap (λ o. Some (owned t o)) owner_is

    pub symbol_taken : (m' : Model) → m' ≡ with_graph (symbol_at t s) (Some (with_first_rows (symbol_at t s).args counts (graph_given x.table))) m → Taking sig tables more counts m'
    symbol_taken m' is =
        one_more m'
        (is
        ∙ (λ i. with_graph (symbol_at t s) (Some (with_first_rows (symbol_at t s).args counts (graph_given (sym next.3 i).table))) (so_far.model i))
        ∙ sym (symbol_given sig proper counts (tables_given so_far.before) (table_given next.0) this_is_new (symbol_at t s) symbol_is no_table_name))

  module _ (part : Division) (owner : x.owner ≡ Numbers part) where
    part_is : next.0.1.owner ≡ Numbers part
    part_is = ap (λ (g : Given). g.owner) next.3 ∙ owner

    pub numbers_fit : table_fits (table_symbol []) (λ _. 1) (graph_given x.table) ≡ true
    numbers_fit =
        numbers_everywhere (graph_given x.table) (λ _. 1) counts
        ∙ (λ i. table_fits (owned t (sym part_is i)) counts (graph_given (sym next.3 i).table)) ∙ this_fits

    name_is : next.0.0.now ≡ table_name part
    name_is = subst (IsNameOfOwner next.0.0.now) part_is this_table.name

    given_part : (p : Division) → next.0.0.now ≡ table_name p → model_over sig (tables_given so_far.before ++ table_given next.0 ∷ []) counts
        ≡ by_zero p (number_graph (with_first_rows (int ∷ []) counts (graph_given next.0.1.table))) (model_over sig (tables_given so_far.before) counts)
    given_part Quotient is = quotients_given sig proper counts (tables_given so_far.before) (table_given next.0) this_is_new is
    given_part Remainder is = remainders_given sig proper counts (tables_given so_far.before) (table_given next.0) this_is_new is

    pub numbers_taken : (g : NumberGraph) (m' : Model) → g ≡ number_graph (with_first_rows (int ∷ []) counts (graph_given x.table)) → m' ≡ by_zero part g m → Taking sig tables more counts m'
    numbers_taken g m' numbers is =
        one_more m'
        (is
        ∙ (λ i. by_zero part (numbers i) (so_far.model i))
        ∙ (λ i. by_zero part (number_graph (with_first_rows (int ∷ []) counts (graph_given (sym next.3 i).table))) (model_over sig (tables_given so_far.before) counts))
        ∙ sym (given_part part name_is))

-- ---- the whole model

module _ (t : Formulas) (l : LiveNumbers) (tables : List plain.Given) (ns : List (SortId × ℕ)) (sizes_are : AreSizesOf t l.sorts ns) (m : Model)
    (is : m ≡ model_over (signature_of t l) tables (sizes_by t.sorts ns)) (valid : IsModel m) where
  among : {A : Type 0} (x : A) (b : Bool) → is_some (if b then Some x else None) ≡ b
  among x true = refl
  among x false = refl

  pub over_signature : IsModelOver (signature_of t l).sorts (signature_of t l).symbols m
  over_signature = record {
    valid = valid;
    graphs = λ f. ap (λ (k : Model). is_some (k.graphs f)) is ∙ among (table_of tables (sizes_by t.sorts ns) f) (list_any (symbol_eq f) (signature_of t l).symbols);
    sizes = λ n h. ap (λ (k : Model). k.sizes n) is ∙ sizes_are.others n (sym (among_names t n l.sorts) ∙ h);
  }

pub model_of_text : (sig : Signature) (tables : List plain.Given) (es : List Element) (counts : Sizes) (m : Model) → ((n : Name) → counts n ≡ sizes es n) → m ≡ model_over sig tables counts → m ≡ model_over sig tables (sizes es)
model_of_text sig tables es counts m alike is = is ∙ (λ i. model_over sig tables (λ n. alike n i))

pub fits_sizes : (t : Formulas) (l : LiveNumbers) (tables : NamedTables) (ms : MetNames) (es : List Element) → AreOfText t l tables ms es → (counts : Sizes) → ((n : Name) → counts n ≡ sizes es n)
    → list_all (given_fits (signature_of t l) counts) (tables_given tables) ≡ true
fits_sizes t l tables ms es text counts alike = text.fit.fit counts (λ n. let same = alike n in omega (arith, same))

pub numbers_keep_sizes : (part : Division) (g : NumberGraph) (m : ModelLists) → (with_numbers part g m).sizes ≡ m.sizes
numbers_keep_sizes Quotient g m = refl
numbers_keep_sizes Remainder g m = refl
