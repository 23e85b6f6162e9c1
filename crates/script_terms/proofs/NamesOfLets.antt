-- The names of a `let` as they are kept: which are among them, and one more.
use Rattle.std.proofs.Common.{◌≡◌, ℕ, zero, suc, ◌+◌, ◌-◌, ◌<◌, ◌≤◌, arith, length, drop, get_or, slice_get, Bool, true, false, cond, ◌||◌, List, [], ◌∷◌, ◌++◌, map, reverse, Some, None, is_some, unwrap_or, option_map, Bor, Ok, refl, ap, sym, ◌∙◌, true≢false, if◌then◌else◌}
use Rattle.std.proofs.lemmas.List.{reverse-append, drop_all, drop_more}
use Rattle.std.proofs.lemmas.Option.{slice_get-get_or, slice_get-map}
use Rattle.smt_terms.specs.declared.ids.NodeId.{NodeId}
use Rattle.script_terms.specs.Bound.{LocalNames, let_local}
use Rattle.std.specs.Str.{bytes_eq}
use Rattle.std.specs.Map.{lookup}
use Rattle.indexmap.specs.IndexMap.{insert_entry}
use Rattle.smt_lex.specs.Names.{Name, is_among, is_theory_name, is_reserved_for_let}
use Rattle.smt_lex.specs.Forms.{Form, atom, node, none, ◌⨾◌}
use Rattle.script_terms.specs.declared.causes.Cause.TheVariants.{BadForm, Redeclared, ReservedName}
use Rattle.script_terms.specs.Refusals.{at, unless, mapped}
use Rattle.script_terms.specs.Parts.{place_of, symbol_in}
use Rattle.script_terms.specs.Read.{let_name}
use Rattle.script_terms.specs.Openings.{binding_in}
use Rattle.script_terms.specs.Places.{pair_in}
use Rattle.script_terms.specs.Sizes.{form_size}
use Rattle.script_terms.proofs.Linking.{keys_eq}
use Rattle.script_terms.proofs.Placing.{pair_is}
use Rattle.script_terms.specs.Laid.{borrowed}

either_assoc : (a b c : Bool) → (a || (b || c)) ≡ ((a || b) || c)
either_assoc true b c = refl
either_assoc false b c = refl

-- ---- the first names, which are compared one by one, and those behind them

module _ {A : Type 0} where
  found : (ls : List (Bor (List ℕ) × A)) (n : Name) → is_among (map (λ p. p.0) (borrowed ls)) n ≡ is_some (lookup (λ k. bytes_eq n k.now) ls)
  found [] n = refl
  found (l ∷ ls) n = by (bytes_eq n l.0.now) (found ls n)
    where
      by : (b : Bool) → is_among (map (λ p. p.0) (borrowed ls)) n ≡ is_some (lookup (λ k. bytes_eq n k.now) ls) → (b || is_among (map (λ p. p.0) (borrowed ls)) n) ≡ is_some (cond b (Some l.1) (lookup (λ k. bytes_eq n k.now) ls))
      by true rest = refl
      by false rest = rest

  pub has_name : (fs ls : List (Bor (List ℕ) × A)) (n : Name)
      → is_among (map (λ p. p.0) (borrowed (fs ++ ls))) n ≡ (is_among (map (λ e. e.0.now) fs) n || is_some (lookup (λ k. bytes_eq n k.now) ls))
  has_name [] ls n = found ls n
  has_name (f ∷ fs) ls n =
      ap (λ b. bytes_eq n f.0.now || b) (has_name fs ls n)
      ∙ either_assoc (bytes_eq n f.0.now) (is_among (map (λ e. e.0.now) fs) n) (is_some (lookup (λ k. bytes_eq n k.now) ls))

  pub has_first : (fs ls : List (Bor (List ℕ) × A)) (n : Name) (r : Bool) → r ≡ is_among (map (λ e. e.0.now) fs) n → r ≡ true
      → r ≡ is_among (map (λ p. p.0) (borrowed (fs ++ ls))) n
  has_first fs ls n r is h = h ∙ sym (has_name fs ls n ∙ ap (λ b. b || is_some (lookup (λ k. bytes_eq n k.now) ls)) (sym is ∙ h))

  pub has_later : (fs ls : List (Bor (List ℕ) × A)) (n : Name) (r : Bool) → r ≡ is_among (map (λ e. e.0.now) fs) n → r ≡ false
      → is_some (lookup (λ k. bytes_eq n k.now) ls) ≡ is_among (map (λ p. p.0) (borrowed (fs ++ ls))) n
  has_later fs ls n r is h = sym (has_name fs ls n ∙ ap (λ b. b || is_some (lookup (λ k. bytes_eq n k.now) ls)) (sym is ∙ h))

  pub has_none : (fs ls : List (Bor (List ℕ) × A)) (n : Name) (r : Bool) → r ≡ is_among (map (λ e. e.0.now) fs) n → r ≡ false → length ls ≡ 0
      → false ≡ is_among (map (λ p. p.0) (borrowed (fs ++ ls))) n
  has_none fs ls n r is h empty = sym (nothing ls empty) ∙ has_later fs ls n r is h
    where
      nothing : (ls : List (Bor (List ℕ) × A)) → length ls ≡ 0 → is_some (lookup (λ k. bytes_eq n k.now) ls) ≡ false
      nothing [] empty = refl
      nothing (l ∷ ls) empty = absurd (omega (arith, empty))

  pub added_later : (fs ls : List (Bor (List ℕ) × A)) (k : Bor (List ℕ)) (v : A) → is_among (map (λ p. p.0) (borrowed (fs ++ ls))) k.now ≡ false
      → borrowed (fs ++ insert_entry keys_eq ls k v) ≡ borrowed (fs ++ ls) ++ (k.now, v) ∷ []
  added_later [] [] k v new = refl
  added_later [] (l ∷ ls) k v new = by (bytes_eq k.now l.0.now) refl new (added_later [] ls k v)
    where
      by : (b : Bool) → bytes_eq k.now l.0.now ≡ b → (b || is_among (map (λ p. p.0) (borrowed ls)) k.now) ≡ false
          → (is_among (map (λ p. p.0) (borrowed ls)) k.now ≡ false → borrowed (insert_entry keys_eq ls k v) ≡ borrowed ls ++ (k.now, v) ∷ [])
          → borrowed (if bytes_eq k.now l.0.now then (l.0, v) ∷ ls else l ∷ insert_entry keys_eq ls k v) ≡ (l.0.now, l.1) ∷ (borrowed ls ++ (k.now, v) ∷ [])
      by true same new rest = absurd (true≢false new)
      by false other new rest =
          ap (λ b. borrowed (if◌then◌else◌ {A = List (Bor (List ℕ) × A)} b ((l.0, v) ∷ ls) (l ∷ insert_entry keys_eq ls k v))) other
          ∙ ap (λ xs. (l.0.now, l.1) ∷ xs) (rest new)
  added_later (f ∷ fs) ls k v new = by (bytes_eq k.now f.0.now) new (added_later fs ls k v)
    where
      by : (b : Bool) → (b || is_among (map (λ p. p.0) (borrowed (fs ++ ls))) k.now) ≡ false
          → (is_among (map (λ p. p.0) (borrowed (fs ++ ls))) k.now ≡ false → borrowed (fs ++ insert_entry keys_eq ls k v) ≡ borrowed (fs ++ ls) ++ (k.now, v) ∷ [])
          → (f.0.now, f.1) ∷ borrowed (fs ++ insert_entry keys_eq ls k v) ≡ (f.0.now, f.1) ∷ (borrowed (fs ++ ls) ++ (k.now, v) ∷ [])
      by true new rest = absurd (true≢false new)
      by false new rest = ap (λ xs. (f.0.now, f.1) ∷ xs) (rest new)

  at_later : (fs ls : List (Bor (List ℕ) × A)) (i : ℕ) → length fs ≤ i
      → slice_get (borrowed (fs ++ ls)) i ≡ option_map (λ e. (e.0.now, e.1)) (slice_get ls (i - length fs))
  at_later [] ls i past = slice_get-map (λ e. (e.0.now, e.1)) ls i ∙ ap (λ j. option_map (λ e. (e.0.now, e.1)) (slice_get ls j)) (whole i)
    where
      whole : (i : ℕ) → i ≡ i - 0
      whole i = omega arith
  at_later (f ∷ fs) ls zero past = absurd (omega (arith, past))
  at_later (f ∷ fs) ls (suc i) past = at_later fs ls i (omega (arith, past)) ∙ ap (λ j. option_map (λ e. (e.0.now, e.1)) (slice_get ls j)) (less i (length fs))
    where
      less : (i n : ℕ) → i - n ≡ suc i - suc n
      less i n = omega arith

  pub later_is : (fs ls : List (Bor (List ℕ) × A)) (i n : ℕ) (e : Bor (List ℕ) × A) (p : Name × A) → n ≡ length fs → n ≤ i → Some e ≡ slice_get ls (i - n)
      → slice_get (borrowed (fs ++ ls)) i ≡ Some p → (e.0.now, e.1) ≡ p
  later_is fs ls i n e p all past is stands =
      ap (λ o. unwrap_or o (e.0.now, e.1))
      (ap (option_map (λ e. (e.0.now, e.1))) (is ∙ ap (λ m. slice_get ls (i - m)) all) ∙ sym (at_later fs ls i (omega (arith, all, past))) ∙ stands)

  pub later_none : (fs ls : List (Bor (List ℕ) × A)) (i n : ℕ) (p : Name × A) → n ≡ length fs → n ≤ i → None ≡ slice_get ls (i - n)
      → slice_get (borrowed (fs ++ ls)) i ≡ Some p → ⊥
  later_none fs ls i n p all past is stands =
      true≢false
      (sym
      (ap (λ o. is_some {T = Name × A} (option_map (λ e. (e.0.now, e.1)) o)) (is ∙ ap (λ m. slice_get ls (i - m)) all)
      ∙ ap (is_some {T = Name × A}) (sym (at_later fs ls i (omega (arith, all, past))) ∙ stands)))

-- the order of names doesn't matter to whether one is among them
among_append : (ms ns : List Name) (n : Name) → is_among (ms ++ ns) n ≡ (is_among ms n || is_among ns n)
among_append [] ns n = refl
among_append (m ∷ ms) ns n = ap (λ b. bytes_eq n m || b) (among_append ms ns n) ∙ either_assoc (bytes_eq n m) (is_among ms n) (is_among ns n)

either_turned : (a b : Bool) → (a || (b || false)) ≡ (b || a)
either_turned true true = refl
either_turned true false = refl
either_turned false true = refl
either_turned false false = refl

pub among_reversed : (ns : List Name) (n : Name) → is_among (reverse ns) n ≡ is_among ns n
among_reversed [] n = refl
among_reversed (m ∷ ms) n =
    ap (λ xs. is_among xs n) (reverse-append (m ∷ []) ms)
    ∙ among_append (reverse ms) (m ∷ []) n
    ∙ ap (λ b. b || (bytes_eq n m || false)) (among_reversed ms n)
    ∙ either_turned (is_among ms n) (bytes_eq n m)

-- ---- one binding

module _ (earlier : List Name) (e f g : Form) (pair : pair_in e ≡ Some (f, g)) where
  binding_is : binding_in earlier e ≡ mapped (λ n. (n, g)) (let_name earlier (place_of e) (place_of f) (symbol_in f))
  binding_is = ap (binding_in earlier) (pair_is e f g pair)

  pub binds_none : symbol_in f ≡ None → binding_in earlier e ≡ at BadForm (place_of e)
  binds_none is = binding_is ∙ ap (λ o. mapped (λ n. (n, g)) (let_name earlier (place_of e) (place_of f) o)) is

  module _ (n : Name) (symbol : symbol_in f ≡ Some n) where
    named_is : binding_in earlier e ≡ mapped (λ n. (n, g)) (unless (is_reserved_for_let n) ReservedName (place_of f) (unless (is_among earlier n) Redeclared (place_of f) (Ok n)))
    named_is = binding_is ∙ ap (λ o. mapped (λ n. (n, g)) (let_name earlier (place_of e) (place_of f) o)) symbol

    pub binds_reserved : is_theory_name n ≡ true → binding_in earlier e ≡ at ReservedName (place_of f)
    unfolding is_reserved_for_let
    binds_reserved is = named_is ∙ ap (λ b. mapped (λ n. (n, g)) (unless b ReservedName (place_of f) (unless (is_among earlier n) Redeclared (place_of f) (Ok n)))) is

    module _ (free : is_theory_name n ≡ false) where
      free_is : binding_in earlier e ≡ mapped (λ n. (n, g)) (unless (is_among earlier n) Redeclared (place_of f) (Ok n))
      unfolding is_reserved_for_let
      free_is = named_is ∙ ap (λ b. mapped (λ n. (n, g)) (unless b ReservedName (place_of f) (unless (is_among earlier n) Redeclared (place_of f) (Ok n)))) free

      pub binds_again : is_among earlier n ≡ true → binding_in earlier e ≡ at Redeclared (place_of f)
      binds_again is = free_is ∙ ap (λ b. mapped (λ n. (n, g)) (unless b Redeclared (place_of f) (Ok n))) is

      pub binds_new : is_among earlier n ≡ false → binding_in earlier e ≡ Ok (n, g)
      binds_new is = free_is ∙ ap (λ b. mapped (λ n. (n, g)) (unless b Redeclared (place_of f) (Ok n))) is

pub pair_size : (e f g : Form) → pair_in e ≡ Some (f, g) → form_size g + 3 ≤ form_size e
pair_size e f g pair = let size = ap form_size (pair_is e f g pair) in omega (arith, size)

no_pair_in : (e : Form) (earlier : List Name) → pair_in e ≡ None → binding_in earlier e ≡ at BadForm (place_of e)
no_pair_in (atom t) earlier is = refl
no_pair_in (node place none) earlier is = refl
no_pair_in (node place (f ⨾ none)) earlier is = refl
no_pair_in (node place (f ⨾ g ⨾ none)) earlier is = absurd (cc)
no_pair_in (node place (f ⨾ g ⨾ h ⨾ fs)) earlier is = refl

pub binds_no_pair : (earlier : List Name) (e : Form) → pair_in e ≡ None → binding_in earlier e ≡ at BadForm (place_of e)
binds_no_pair earlier e is = no_pair_in e earlier is

-- ---- names in order, from the last

no_name : Name × NodeId
no_name = ([], record { 0 = 0 })

pub entered_last : (ps : List (Name × NodeId)) (n : ℕ) (first : LocalNames) → n ≡ length ps → first ≡ map let_local (drop n ps) ++ first
entered_last ps n first all = sym (ap (λ qs. map let_local qs ++ first) (drop_all n ps (omega (arith, all))))

pub entered_next : (ps : List (Name × NodeId)) (n : ℕ) (first old new : LocalNames) → 0 < n → n ≤ length ps → old ≡ map let_local (drop n ps) ++ first
    → ((p : Name × NodeId) → slice_get ps (n - 1) ≡ Some p → new ≡ let_local p ∷ old) → new ≡ map let_local (drop (n - 1) ps) ++ first
entered_next ps n first old new some within before enters =
    let below : n - 1 < length ps = omega (arith, some, within) in
    let here : n - 1 + 1 ≡ n = omega (arith, some) in
    enters (get_or ps (n - 1) no_name) (slice_get-get_or ps (n - 1) no_name below)
    ∙ ap (λ qs. let_local (get_or ps (n - 1) no_name) ∷ qs) (before ∙ ap (λ m. map let_local (drop m ps) ++ first) (sym here))
    ∙ sym (ap (λ qs. map let_local qs ++ first) (drop_more ps (n - 1) no_name below))
