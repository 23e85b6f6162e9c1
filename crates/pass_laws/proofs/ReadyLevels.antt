-- The levels of commands behind a pass that declares new symbols, against those of the commands before it: the same sorts, and
-- the same symbols beside new ones.
use Rattle.std.proofs.Common.{◌≡◌, ◌∙◌, sym, ap, refl, subst, ℕ, zero, suc, ◌<◌, Bool, true, false, ◌⊎◌, inl, inr, List, [], ◌∷◌, ◌++◌, length, drop, replicate, append_assoc, append-nil, arith}
use Rattle.smt_terms.specs.Equal.{symbol_eq}
use Rattle.smt_terms.specs.Free.{is_among}
use Rattle.smt_terms.specs.Fresh.{Supply, NeverGives}
use Rattle.smt_terms.specs.Sorts.{Name, Symbol}
use Rattle.smt_terms.specs.Term.{Term}
use Rattle.smt_terms.proofs.Among.{is_among-append}
use Rattle.smt_terms.proofs.Equal.{Decides-symbol_eq}
use Rattle.smt_terms.proofs.Tests.{either_true, left_true, right_true}
use Rattle.script_read.specs.Commands.{Level, empty_level, throughout, on_latest, with_sort, with_symbol, with_assertion, with_declarations, folded, levels_popped, levels_emptied}

-- ---- symbols

pub among_left : (fs gs : List Symbol) (f : Symbol) → is_among fs f ≡ true → is_among (fs ++ gs) f ≡ true
among_left fs gs f among = is_among-append fs gs f ∙ left_true (is_among fs f) (is_among gs f) among

pub among_right : (fs gs : List Symbol) (f : Symbol) → is_among gs f ≡ true → is_among (fs ++ gs) f ≡ true
among_right fs gs f among = is_among-append fs gs f ∙ right_true (is_among fs f) (is_among gs f) among

pub among_either : (fs gs : List Symbol) (f : Symbol) → is_among (fs ++ gs) f ≡ true → (is_among fs f ≡ true) ⊎ (is_among gs f ≡ true)
among_either fs gs f among = either_true (is_among fs f) (is_among gs f) (sym (is_among-append fs gs f) ∙ among)

pub among_one : (f g : Symbol) → is_among (f ∷ []) g ≡ true → f ≡ g
among_one f g among =
    elim (either_true (symbol_eq f g) false among) [
      | inl same ↦ (Decides-symbol_eq f g).0 same
      | inr other ↦ absurd cc
    ]

-- a symbol that none of the commands before the pass declares: the supply that was there first gives its name
abbrev pub IsNew : Supply → Symbol → Type 0
IsNew s f = NeverGives s f.name → ⊥

module _ (s : Supply) where
  -- the second symbols are the first ones and new ones
  pub record More (fs gs : List Symbol) : Type 0 where
    pub stays : (f : Symbol) → is_among fs f ≡ true → is_among gs f ≡ true
    pub comes : (f : Symbol) → is_among gs f ≡ true → (is_among fs f ≡ true) ⊎ IsNew s f

  more_itself : (fs : List Symbol) → More fs fs
  more_itself fs = record { stays = λ f among. among; comes = λ f among. inl among }

  more_joined : (fs gs hs js : List Symbol) → More fs gs → More hs js → More (fs ++ hs) (gs ++ js)
  more_joined fs gs hs js m n = record {
    stays = λ f among. kept f (among_either fs hs f among);
    comes = λ f among. known f (among_either gs js f among);
  }
    where
      kept : (f : Symbol) → (is_among fs f ≡ true) ⊎ (is_among hs f ≡ true) → is_among (gs ++ js) f ≡ true
      kept f (inl here) = among_left gs js f (m.stays f here)
      kept f (inr there) = among_right gs js f (n.stays f there)

      left_known : (f : Symbol) → (is_among fs f ≡ true) ⊎ IsNew s f → (is_among (fs ++ hs) f ≡ true) ⊎ IsNew s f
      left_known f (inl old) = inl (among_left fs hs f old)
      left_known f (inr new) = inr new

      right_known : (f : Symbol) → (is_among hs f ≡ true) ⊎ IsNew s f → (is_among (fs ++ hs) f ≡ true) ⊎ IsNew s f
      right_known f (inl old) = inl (among_right fs hs f old)
      right_known f (inr new) = inr new

      known : (f : Symbol) → (is_among gs f ≡ true) ⊎ (is_among js f ≡ true) → (is_among (fs ++ hs) f ≡ true) ⊎ IsNew s f
      known f (inl here) = left_known f (m.comes f here)
      known f (inr there) = right_known f (n.comes f there)

  more_new : (fs gs : List Symbol) (h : Symbol) → More fs gs → IsNew s h → More fs (gs ++ h ∷ [])
  more_new fs gs h m new = record {
    stays = λ f among. among_left gs (h ∷ []) f (m.stays f among);
    comes = λ f among. known f (among_either gs (h ∷ []) f among);
  }
    where
      known : (f : Symbol) → (is_among gs f ≡ true) ⊎ (is_among (h ∷ []) f ≡ true) → (is_among fs f ≡ true) ⊎ IsNew s f
      known f (inl here) = m.comes f here
      known f (inr there) = inr (subst (IsNew s) (among_one h f there) new)

  -- ---- levels

  pub record GrownLevel (k l : Level Term) : Type 0 where
    pub sorts : k.sorts ≡ l.sorts
    pub symbols : More k.symbols l.symbols

  abbrev GrownBelow : List (Level Term) → List (Level Term) → Type 0
  GrownBelow [] [] = Unit {0}
  GrownBelow (k ∷ ks) (l ∷ ls) = GrownLevel k l × GrownBelow ks ls
  GrownBelow _ _ = ⊥

  -- one level at least
  abbrev pub GrownLevels : List (Level Term) → List (Level Term) → Type 0
  GrownLevels (k ∷ ks) (l ∷ ls) = GrownLevel k l × GrownBelow ks ls
  GrownLevels _ _ = ⊥

  empty_grown : GrownLevel empty_level empty_level
  empty_grown = record { sorts = refl; symbols = more_itself [] }

  pub one_level_grown : GrownLevels (empty_level ∷ []) (empty_level ∷ [])
  one_level_grown = (empty_grown, tt)

  -- the latest level changed
  pub latest_grown : (change turn : Level Term → Level Term) → ((k l : Level Term) → GrownLevel k l → GrownLevel (change k) (turn l)) → (ks ls : List (Level Term)) → GrownLevels ks ls → GrownLevels (on_latest change ks) (on_latest turn ls)
  latest_grown change turn each (k ∷ ks) (l ∷ ls) g = (each k l g.0, g.1)
  latest_grown change turn each (k ∷ ks) [] g = absurd g
  latest_grown change turn each [] ls g = absurd g

  -- the latest level changed in the second alone
  pub second_grown : (turn : Level Term → Level Term) → ((k l : Level Term) → GrownLevel k l → GrownLevel k (turn l)) → (ks ls : List (Level Term)) → GrownLevels ks ls → GrownLevels ks (on_latest turn ls)
  second_grown turn each (k ∷ ks) (l ∷ ls) g = (each k l g.0, g.1)
  second_grown turn each (k ∷ ks) [] g = absurd g
  second_grown turn each [] ls g = absurd g

  -- and in the first alone
  pub first_grown : (change : Level Term → Level Term) → ((k l : Level Term) → GrownLevel k l → GrownLevel (change k) l) → (ks ls : List (Level Term)) → GrownLevels ks ls → GrownLevels (on_latest change ks) ls
  first_grown change each (k ∷ ks) (l ∷ ls) g = (each k l g.0, g.1)
  first_grown change each (k ∷ ks) [] g = absurd g
  first_grown change each [] ls g = absurd g

  pub sort_grown : (n : Name) (k l : Level Term) → GrownLevel k l → GrownLevel (with_sort n k) (with_sort n l)
  sort_grown n k l g = record { sorts = ap (λ ns. ns ++ n ∷ []) g.sorts; symbols = g.symbols }

  pub symbol_grown : (f : Symbol) (k l : Level Term) → GrownLevel k l → GrownLevel (with_symbol f k) (with_symbol f l)
  symbol_grown f k l g = record { sorts = g.sorts; symbols = more_joined k.symbols l.symbols (f ∷ []) (f ∷ []) g.symbols (more_itself (f ∷ [])) }

  pub new_symbol_grown : (f : Symbol) → IsNew s f → (k l : Level Term) → GrownLevel k l → GrownLevel k (with_symbol f l)
  new_symbol_grown f new k l g = record { sorts = g.sorts; symbols = more_new k.symbols l.symbols f g.symbols new }

  pub assertion_grown : (t : Term) (k l : Level Term) → GrownLevel k l → GrownLevel k (with_assertion t l)
  assertion_grown t k l g = record { sorts = g.sorts; symbols = g.symbols }

  pub assertion_before : (t : Term) (k l : Level Term) → GrownLevel k l → GrownLevel (with_assertion t k) l
  assertion_before t k l g = record { sorts = g.sorts; symbols = g.symbols }

  -- ---- levels that are opened and closed

  pub pushed_grown : (n : ℕ) (ks ls : List (Level Term)) → GrownLevels ks ls → GrownLevels (replicate n empty_level ++ ks) (replicate n empty_level ++ ls)
  pushed_grown zero ks ls g = g
  pushed_grown (suc n) ks ls g = (empty_grown, below (replicate n empty_level ++ ks) (replicate n empty_level ++ ls) (pushed_grown n ks ls g))
    where
      below : (ms ns : List (Level Term)) → GrownLevels ms ns → GrownBelow ms ns
      below (m ∷ ms) (n ∷ ns) h = h
      below (m ∷ ms) [] h = absurd h
      below [] ns h = absurd h

  dropped_grown : (n : ℕ) (ks ls : List (Level Term)) → GrownLevels ks ls → n < length ks → GrownLevels (drop n ks) (drop n ls)
  dropped_grown zero ks ls g few = g
  dropped_grown (suc n) [] ls g few = absurd g
  dropped_grown (suc n) (k ∷ ks) [] g few = absurd g
  dropped_grown (suc n) (k ∷ []) (l ∷ ls) g few = absurd (omega arith)
  dropped_grown (suc n) (k ∷ j ∷ ks) (l ∷ []) g few = absurd g.1
  dropped_grown (suc n) (k ∷ j ∷ ks) (l ∷ m ∷ ls) g few = dropped_grown n (j ∷ ks) (m ∷ ls) g.1 (omega arith)

  folded_grown : (n : ℕ) (ks ls : List (Level Term)) → GrownLevels ks ls → GrownLevels (folded n ks) (folded n ls)
  folded_grown zero ks ls g = g
  folded_grown (suc n) [] ls g = absurd g
  folded_grown (suc n) (k ∷ ks) [] g = absurd g
  folded_grown (suc n) (k ∷ []) (l ∷ []) g = g
  folded_grown (suc n) (k ∷ []) (l ∷ m ∷ ls) g = absurd g.1
  folded_grown (suc n) (k ∷ j ∷ ks) (l ∷ []) g = absurd g.1
  folded_grown (suc n) (k ∷ j ∷ ks) (l ∷ m ∷ ls) g =
      folded_grown n (with_declarations k j ∷ ks) (with_declarations l m ∷ ls)
      (record { sorts = λ i. g.1.0.sorts i ++ g.0.sorts i; symbols = more_joined j.symbols m.symbols k.symbols l.symbols g.1.0.symbols g.0.symbols }, g.1.1)

  pub popped_grown : (b : Bool) (n : ℕ) (ks ls : List (Level Term)) → GrownLevels ks ls → n < length ks → GrownLevels (levels_popped b n ks) (levels_popped b n ls)
  popped_grown true n ks ls g few = folded_grown n ks ls g
  popped_grown false n ks ls g few = dropped_grown n ks ls g few

  -- ---- all levels' sorts and symbols

  sorts_below : (ks ls : List (Level Term)) → GrownBelow ks ls → throughout (λ l. l.sorts) ks ≡ throughout (λ l. l.sorts) ls
  sorts_below [] [] g = refl
  sorts_below [] (l ∷ ls) g = absurd g
  sorts_below (k ∷ ks) [] g = absurd g
  sorts_below (k ∷ ks) (l ∷ ls) g = λ i. sorts_below ks ls g.1 i ++ g.0.sorts i

  symbols_below : (ks ls : List (Level Term)) → GrownBelow ks ls → More (throughout (λ l. l.symbols) ks) (throughout (λ l. l.symbols) ls)
  symbols_below [] [] g = more_itself []
  symbols_below [] (l ∷ ls) g = absurd g
  symbols_below (k ∷ ks) [] g = absurd g
  symbols_below (k ∷ ks) (l ∷ ls) g = more_joined (throughout (λ l. l.symbols) ks) (throughout (λ l. l.symbols) ls) k.symbols l.symbols (symbols_below ks ls g.1) g.0.symbols

  length_below : (ks ls : List (Level Term)) → GrownBelow ks ls → length ks ≡ length ls
  length_below [] [] g = refl
  length_below [] (l ∷ ls) g = absurd g
  length_below (k ∷ ks) [] g = absurd g
  length_below (k ∷ ks) (l ∷ ls) g = ap suc (length_below ks ls g.1)

  all_below : (ks ls : List (Level Term)) → GrownLevels ks ls → GrownBelow ks ls
  all_below (k ∷ ks) (l ∷ ls) g = g
  all_below (k ∷ ks) [] g = absurd g
  all_below [] ls g = absurd g

  pub grown_sorts : (ks ls : List (Level Term)) → GrownLevels ks ls → throughout (λ l. l.sorts) ks ≡ throughout (λ l. l.sorts) ls
  grown_sorts ks ls g = sorts_below ks ls (all_below ks ls g)

  pub grown_symbols : (ks ls : List (Level Term)) → GrownLevels ks ls → More (throughout (λ l. l.symbols) ks) (throughout (λ l. l.symbols) ls)
  grown_symbols ks ls g = symbols_below ks ls (all_below ks ls g)

  pub grown_length : (ks ls : List (Level Term)) → GrownLevels ks ls → length ks ≡ length ls
  grown_length ks ls g = length_below ks ls (all_below ks ls g)

  pub some_levels : (ks ls : List (Level Term)) → GrownLevels ks ls → 0 < length ks
  some_levels (k ∷ ks) ls g = omega arith
  some_levels [] ls g = absurd g

  pub emptied_grown : (b : Bool) (ks ls : List (Level Term)) → GrownLevels ks ls → GrownLevels (levels_emptied b ks) (levels_emptied b ls)
  emptied_grown true ks ls g = (record { sorts = grown_sorts ks ls g; symbols = grown_symbols ks ls g }, tt)
  emptied_grown false ks ls g = one_level_grown

-- ---- what a command leaves of the symbols

pub latest_symbols : (change : Level Term → Level Term) → ((l : Level Term) → (change l).symbols ≡ l.symbols) → (ls : List (Level Term)) → throughout (λ l. l.symbols) (on_latest change ls) ≡ throughout (λ l. l.symbols) ls
latest_symbols change same [] = same empty_level
latest_symbols change same (l ∷ ls) = ap (λ fs. throughout (λ k. k.symbols) ls ++ fs) (same l)

pub declared_symbols : (f : Symbol) (ls : List (Level Term)) → throughout (λ l. l.symbols) (on_latest (with_symbol f) ls) ≡ throughout (λ l. l.symbols) ls ++ f ∷ []
declared_symbols f [] = refl
declared_symbols f (l ∷ ls) = sym (append_assoc (throughout (λ k. k.symbols) ls) l.symbols (f ∷ []))

pub pushed_symbols : (n : ℕ) (ls : List (Level Term)) → throughout (λ l. l.symbols) (replicate n empty_level ++ ls) ≡ throughout (λ l. l.symbols) ls
pushed_symbols zero ls = refl
pushed_symbols (suc n) ls = append-nil (throughout (λ l. l.symbols) (replicate n empty_level ++ ls)) ∙ pushed_symbols n ls

dropped_symbols : (n : ℕ) (ls : List (Level Term)) (f : Symbol) → is_among (throughout (λ l. l.symbols) (drop n ls)) f ≡ true → is_among (throughout (λ l. l.symbols) ls) f ≡ true
dropped_symbols zero ls f among = among
dropped_symbols (suc n) [] f among = among
dropped_symbols (suc n) (l ∷ ls) f among = among_left (throughout (λ k. k.symbols) ls) l.symbols f (dropped_symbols n ls f among)

folded_symbols : (n : ℕ) (ls : List (Level Term)) → throughout (λ l. l.symbols) (folded n ls) ≡ throughout (λ l. l.symbols) ls
folded_symbols zero ls = refl
folded_symbols (suc n) [] = refl
folded_symbols (suc n) (l ∷ []) = refl
folded_symbols (suc n) (k ∷ l ∷ ls) = folded_symbols n (with_declarations k l ∷ ls) ∙ sym (append_assoc (throughout (λ m. m.symbols) ls) l.symbols k.symbols)

pub popped_symbols : (b : Bool) (n : ℕ) (ls : List (Level Term)) (f : Symbol) → is_among (throughout (λ l. l.symbols) (levels_popped b n ls)) f ≡ true → is_among (throughout (λ l. l.symbols) ls) f ≡ true
popped_symbols true n ls f among = ap (λ fs. is_among fs f) (sym (folded_symbols n ls)) ∙ among
popped_symbols false n ls f among = dropped_symbols n ls f among

pub emptied_symbols : (b : Bool) (ls : List (Level Term)) (f : Symbol) → is_among (throughout (λ l. l.symbols) (levels_emptied b ls)) f ≡ true → is_among (throughout (λ l. l.symbols) ls) f ≡ true
emptied_symbols true ls f among = among
emptied_symbols false ls f among = absurd cc
