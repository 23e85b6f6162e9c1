-- Levels behind a pass that puts groups in the place of assertions: the same sorts, the groups' assertions, and the symbols
-- that were declared before with those that are new.
use Rattle.std.proofs.Common.{◌≡◌, ◌∙◌, sym, ap, refl, subst, ℕ, zero, suc, Bool, true, false, ◌||◌, ◌⊎◌, inl, inr, List, [], ◌∷◌, ◌++◌, flat_map, length, replicate, drop, append-nil}
use Rattle.std.proofs.lemmas.List.{map-append}
use Rattle.std.proofs.lemmas.List.Concat.{flat_map-append}
use Rattle.smt_terms.specs.Free.{is_among}
use Rattle.smt_terms.specs.Groups.{Group}
use Rattle.smt_terms.specs.Sorts.{Name, Symbol}
use Rattle.smt_terms.specs.Term.{Term}
use Rattle.smt_terms.proofs.Among.{is_among-append}
use Rattle.smt_terms.proofs.Tests.{either_true, left_true, right_true}
use Rattle.term_groups.specs.Grouping.{symbols_of}
use Rattle.script_read.specs.Commands.{Level, empty_level, throughout, on_latest, with_sort, with_symbol, with_assertion, with_declarations, folded, levels_popped, levels_emptied}
use Rattle.pass_laws.specs.Passed.{Replacement}

-- ---- symbols of lists that are put together

pub among_first : (fs gs : List Symbol) (f : Symbol) → is_among fs f ≡ true → is_among (fs ++ gs) f ≡ true
among_first fs gs f h = is_among-append fs gs f ∙ left_true (is_among fs f) (is_among gs f) h

pub among_second : (fs gs : List Symbol) (f : Symbol) → is_among gs f ≡ true → is_among (fs ++ gs) f ≡ true
among_second fs gs f h = is_among-append fs gs f ∙ right_true (is_among fs f) (is_among gs f) h

among_either : (fs gs : List Symbol) (f : Symbol) → is_among (fs ++ gs) f ≡ true → (is_among fs f ≡ true) ⊎ (is_among gs f ≡ true)
among_either fs gs f h = either_true (is_among fs f) (is_among gs f) (sym (is_among-append fs gs f) ∙ h)

-- all that is among the first is among the second
abbrev pub AllAmong : List Symbol → List Symbol → Type 0
AllAmong fs gs = (f : Symbol) → is_among fs f ≡ true → is_among gs f ≡ true

-- among the second stands all of the first, and nothing else but what is new
pub record Widened (new fs gs : List Symbol) : Type 0 where
  pub stays : AllAmong fs gs
  pub comes : (f : Symbol) → is_among gs f ≡ true → (is_among fs f || is_among new f) ≡ true

-- the new symbols of these groups
abbrev pub symbols_for : List Replacement → List Symbol
symbols_for rs = symbols_of (flat_map (λ r. r.group.symbols) rs)

symbols_for-append : (rs qs : List Replacement) → symbols_for (rs ++ qs) ≡ symbols_for rs ++ symbols_for qs
symbols_for-append rs qs = ap symbols_of (flat_map-append (λ r. r.group.symbols) rs qs) ∙ map-append (λ n. n.0) (flat_map (λ r. r.group.symbols) rs) (flat_map (λ r. r.group.symbols) qs)

-- a group's symbols and assertions behind those of a level
abbrev pub with_group : Group → Level Term → Level Term
with_group g l = record { sorts = l.sorts; symbols = l.symbols ++ symbols_of g.symbols; asserted = l.asserted ++ g.asserts }

module _ (new : List Symbol) where
  widened_itself : (fs : List Symbol) → Widened new fs fs
  widened_itself fs = record { stays = λ f h. h; comes = λ f h. left_true (is_among fs f) (is_among new f) h }

  -- ---- put together

  widened_more : (fs gs hs ks : List Symbol) → Widened new fs hs → Widened new gs ks → Widened new (fs ++ gs) (hs ++ ks)
  widened_more fs gs hs ks w v = record { stays = stays; comes = comes }
    where
      stays : AllAmong (fs ++ gs) (hs ++ ks)
      stays f h = go (among_either fs gs f h)
        where
          go : (is_among fs f ≡ true) ⊎ (is_among gs f ≡ true) → is_among (hs ++ ks) f ≡ true
          go (inl here) = among_first hs ks f (w.stays f here)
          go (inr there) = among_second hs ks f (v.stays f there)

      comes : (f : Symbol) → is_among (hs ++ ks) f ≡ true → (is_among (fs ++ gs) f || is_among new f) ≡ true
      comes f h = go (among_either hs ks f h)
        where
          old_first : (is_among fs f ≡ true) ⊎ (is_among new f ≡ true) → (is_among (fs ++ gs) f || is_among new f) ≡ true
          old_first (inl here) = left_true (is_among (fs ++ gs) f) (is_among new f) (among_first fs gs f here)
          old_first (inr fresh) = right_true (is_among (fs ++ gs) f) (is_among new f) fresh

          old_second : (is_among gs f ≡ true) ⊎ (is_among new f ≡ true) → (is_among (fs ++ gs) f || is_among new f) ≡ true
          old_second (inl there) = left_true (is_among (fs ++ gs) f) (is_among new f) (among_second fs gs f there)
          old_second (inr fresh) = right_true (is_among (fs ++ gs) f) (is_among new f) fresh

          go : (is_among hs f ≡ true) ⊎ (is_among ks f ≡ true) → (is_among (fs ++ gs) f || is_among new f) ≡ true
          go (inl here) = old_first (either_true (is_among fs f) (is_among new f) (w.comes f here))
          go (inr there) = old_second (either_true (is_among gs f) (is_among new f) (v.comes f there))

  -- new symbols behind
  widened_by : (fs hs ks : List Symbol) → Widened new fs hs → AllAmong ks new → Widened new fs (hs ++ ks)
  widened_by fs hs ks w among =
      subst (λ gs. Widened new gs (hs ++ ks)) (append-nil fs)
      (widened_more fs [] hs ks w (record { stays = λ f h. absurd cc; comes = λ f h. among f h }))

  all_among_more : (fs gs hs ks : List Symbol) → AllAmong fs hs → AllAmong gs ks → AllAmong (fs ++ gs) (hs ++ ks)
  all_among_more fs gs hs ks a b f h = go (among_either fs gs f h)
    where
      go : (is_among fs f ≡ true) ⊎ (is_among gs f ≡ true) → is_among (hs ++ ks) f ≡ true
      go (inl here) = among_first hs ks f (a f here)
      go (inr there) = among_second hs ks f (b f there)

  -- ---- levels

  pub record GroupLevel (k : Level Replacement) (l : Level Term) : Type 0 where
    pub sorts : l.sorts ≡ k.sorts
    pub symbols : Widened new k.symbols l.symbols
    pub asserted : l.asserted ≡ flat_map (λ r. r.group.asserts) k.asserted
    pub declared : AllAmong (symbols_for k.asserted) l.symbols

  abbrev pub GroupLevels : List (Level Replacement) → List (Level Term) → Type 0
  GroupLevels [] [] = Unit {0}
  GroupLevels (k ∷ ks) (l ∷ ls) = GroupLevel k l × GroupLevels ks ls
  GroupLevels _ _ = ⊥

  nothing_among : (fs : List Symbol) → AllAmong [] fs
  nothing_among fs f h = absurd cc

  pub empty_grouped : GroupLevel empty_level empty_level
  empty_grouped = record { sorts = refl; symbols = widened_itself []; asserted = refl; declared = nothing_among [] }

  -- ---- all that is declared, and all that is asserted

  pub sorts_grouped : (ks : List (Level Replacement)) (ls : List (Level Term)) → GroupLevels ks ls → throughout (λ l. l.sorts) ls ≡ throughout (λ l. l.sorts) ks
  sorts_grouped [] [] h = refl
  sorts_grouped [] (l ∷ ls) h = absurd h
  sorts_grouped (k ∷ ks) [] h = absurd h
  sorts_grouped (k ∷ ks) (l ∷ ls) h = ap (λ ns. ns ++ l.sorts) (sorts_grouped ks ls h.1) ∙ ap (λ ns. throughout (λ l. l.sorts) ks ++ ns) h.0.sorts

  pub symbols_grouped : (ks : List (Level Replacement)) (ls : List (Level Term)) → GroupLevels ks ls → Widened new (throughout (λ l. l.symbols) ks) (throughout (λ l. l.symbols) ls)
  symbols_grouped [] [] h = widened_itself []
  symbols_grouped [] (l ∷ ls) h = absurd h
  symbols_grouped (k ∷ ks) [] h = absurd h
  symbols_grouped (k ∷ ks) (l ∷ ls) h =
      widened_more (throughout (λ l. l.symbols) ks) k.symbols (throughout (λ l. l.symbols) ls) l.symbols (symbols_grouped ks ls h.1) h.0.symbols

  pub asserted_grouped : (ks : List (Level Replacement)) (ls : List (Level Term)) → GroupLevels ks ls → throughout (λ l. l.asserted) ls ≡ flat_map (λ r. r.group.asserts) (throughout (λ l. l.asserted) ks)
  asserted_grouped [] [] h = refl
  asserted_grouped [] (l ∷ ls) h = absurd h
  asserted_grouped (k ∷ ks) [] h = absurd h
  asserted_grouped (k ∷ ks) (l ∷ ls) h =
      ap (λ ts. ts ++ l.asserted) (asserted_grouped ks ls h.1)
      ∙ ap (λ ts. flat_map (λ r. r.group.asserts) (throughout (λ l. l.asserted) ks) ++ ts) h.0.asserted
      ∙ sym (flat_map-append (λ r. r.group.asserts) (throughout (λ l. l.asserted) ks) k.asserted)

  pub declared_grouped : (ks : List (Level Replacement)) (ls : List (Level Term)) → GroupLevels ks ls → AllAmong (symbols_for (throughout (λ l. l.asserted) ks)) (throughout (λ l. l.symbols) ls)
  declared_grouped [] [] h = nothing_among []
  declared_grouped [] (l ∷ ls) h = absurd h
  declared_grouped (k ∷ ks) [] h = absurd h
  declared_grouped (k ∷ ks) (l ∷ ls) h =
      subst (λ fs. AllAmong fs (throughout (λ l. l.symbols) ls ++ l.symbols)) (sym (symbols_for-append (throughout (λ l. l.asserted) ks) k.asserted))
      (all_among_more (symbols_for (throughout (λ l. l.asserted) ks)) (symbols_for k.asserted) (throughout (λ l. l.symbols) ls) l.symbols (declared_grouped ks ls h.1) h.0.declared)

  pub length_grouped : (ks : List (Level Replacement)) (ls : List (Level Term)) → GroupLevels ks ls → length ks ≡ length ls
  length_grouped [] [] h = refl
  length_grouped [] (l ∷ ls) h = absurd h
  length_grouped (k ∷ ks) [] h = absurd h
  length_grouped (k ∷ ks) (l ∷ ls) h = ap suc (length_grouped ks ls h.1)

  -- ---- the latest level changed

  sort_grouped : (n : Name) (k : Level Replacement) (l : Level Term) → GroupLevel k l → GroupLevel (with_sort n k) (with_sort n l)
  sort_grouped n k l h = record { sorts = ap (λ ns. ns ++ n ∷ []) h.sorts; symbols = h.symbols; asserted = h.asserted; declared = h.declared }

  symbol_grouped : (f : Symbol) (k : Level Replacement) (l : Level Term) → GroupLevel k l → GroupLevel (with_symbol f k) (with_symbol f l)
  symbol_grouped f k l h = record {
    sorts = h.sorts;
    symbols = widened_more k.symbols (f ∷ []) l.symbols (f ∷ []) h.symbols (widened_itself (f ∷ []));
    asserted = h.asserted;
    declared = λ g among. among_first l.symbols (f ∷ []) g (h.declared g among);
  }

  assertion_grouped : (r : Replacement) → AllAmong (symbols_of r.group.symbols) new → (k : Level Replacement) (l : Level Term) → GroupLevel k l → GroupLevel (with_assertion r k) (with_group r.group l)
  assertion_grouped r among k l h = record {
    sorts = h.sorts;
    symbols = widened_by k.symbols l.symbols (symbols_of r.group.symbols) h.symbols among;
    asserted = ap (λ ts. ts ++ r.group.asserts) h.asserted
        ∙ ap (λ ts. flat_map (λ q. q.group.asserts) k.asserted ++ ts) (sym (append-nil r.group.asserts))
        ∙ sym (flat_map-append (λ q. q.group.asserts) k.asserted (r ∷ []));
    declared = subst (λ fs. AllAmong fs (l.symbols ++ symbols_of r.group.symbols)) (sym (symbols_for-append k.asserted (r ∷ [])))
        (all_among_more (symbols_for k.asserted) (symbols_for (r ∷ [])) l.symbols (symbols_of r.group.symbols) h.declared (of_one r));
  }
    where
      of_one : (r : Replacement) → AllAmong (symbols_for (r ∷ [])) (symbols_of r.group.symbols)
      of_one r f among = ap (λ ns. is_among (symbols_of ns) f) (sym (append-nil r.group.symbols)) ∙ among

  latest_grouped : (change : Level Replacement → Level Replacement) (behind : Level Term → Level Term) → ((k : Level Replacement) (l : Level Term) → GroupLevel k l → GroupLevel (change k) (behind l))
      → (ks : List (Level Replacement)) (ls : List (Level Term)) → GroupLevels ks ls → GroupLevels (on_latest change ks) (on_latest behind ls)
  latest_grouped change behind keeps [] [] h = (keeps empty_level empty_level empty_grouped, tt)
  latest_grouped change behind keeps [] (l ∷ ls) h = absurd h
  latest_grouped change behind keeps (k ∷ ks) [] h = absurd h
  latest_grouped change behind keeps (k ∷ ks) (l ∷ ls) h = (keeps k l h.0, h.1)

  pub latest_sort : (n : Name) (ks : List (Level Replacement)) (ls : List (Level Term)) → GroupLevels ks ls → GroupLevels (on_latest (with_sort n) ks) (on_latest (with_sort n) ls)
  latest_sort n = latest_grouped (with_sort n) (with_sort n) (sort_grouped n)

  pub latest_symbol : (f : Symbol) (ks : List (Level Replacement)) (ls : List (Level Term)) → GroupLevels ks ls → GroupLevels (on_latest (with_symbol f) ks) (on_latest (with_symbol f) ls)
  latest_symbol f = latest_grouped (with_symbol f) (with_symbol f) (symbol_grouped f)

  pub latest_group : (r : Replacement) → AllAmong (symbols_of r.group.symbols) new → (ks : List (Level Replacement)) (ls : List (Level Term)) → GroupLevels ks ls → GroupLevels (on_latest (with_assertion r) ks) (on_latest (with_group r.group) ls)
  latest_group r among = latest_grouped (with_assertion r) (with_group r.group) (assertion_grouped r among)

  -- ---- levels opened, closed and emptied

  pub pushed_grouped : (n : ℕ) (ks : List (Level Replacement)) (ls : List (Level Term)) → GroupLevels ks ls → GroupLevels (replicate n empty_level ++ ks) (replicate n empty_level ++ ls)
  pushed_grouped zero ks ls h = h
  pushed_grouped (suc n) ks ls h = (empty_grouped, pushed_grouped n ks ls h)

  dropped_grouped : (n : ℕ) (ks : List (Level Replacement)) (ls : List (Level Term)) → GroupLevels ks ls → GroupLevels (drop n ks) (drop n ls)
  dropped_grouped zero ks ls h = h
  dropped_grouped (suc n) [] [] h = tt
  dropped_grouped (suc n) [] (l ∷ ls) h = absurd h
  dropped_grouped (suc n) (k ∷ ks) [] h = absurd h
  dropped_grouped (suc n) (k ∷ ks) (l ∷ ls) h = dropped_grouped n ks ls h.1

  below_grouped : (k j : Level Replacement) (l m : Level Term) → GroupLevel k l → GroupLevel j m → GroupLevel (with_declarations k j) (with_declarations l m)
  below_grouped k j l m above h = record {
    sorts = ap (λ ns. ns ++ l.sorts) h.sorts ∙ ap (λ ns. j.sorts ++ ns) above.sorts;
    symbols = widened_more j.symbols k.symbols m.symbols l.symbols h.symbols above.symbols;
    asserted = h.asserted;
    declared = λ f among. among_first m.symbols l.symbols f (h.declared f among);
  }

  folded_grouped : (n : ℕ) (ks : List (Level Replacement)) (ls : List (Level Term)) → GroupLevels ks ls → GroupLevels (folded n ks) (folded n ls)
  folded_grouped zero ks ls h = h
  folded_grouped (suc n) [] [] h = tt
  folded_grouped (suc n) [] (l ∷ ls) h = absurd h
  folded_grouped (suc n) (k ∷ ks) [] h = absurd h
  folded_grouped (suc n) (k ∷ []) (l ∷ []) h = h
  folded_grouped (suc n) (k ∷ []) (l ∷ m ∷ ls) h = absurd h.1
  folded_grouped (suc n) (k ∷ j ∷ ks) (l ∷ []) h = absurd h.1
  folded_grouped (suc n) (k ∷ j ∷ ks) (l ∷ m ∷ ls) h =
      folded_grouped n (with_declarations k j ∷ ks) (with_declarations l m ∷ ls) (below_grouped k j l m h.0 h.1.0, h.1.1)

  pub popped_grouped : (b : Bool) (n : ℕ) (ks : List (Level Replacement)) (ls : List (Level Term)) → GroupLevels ks ls → GroupLevels (levels_popped b n ks) (levels_popped b n ls)
  popped_grouped true n ks ls h = folded_grouped n ks ls h
  popped_grouped false n ks ls h = dropped_grouped n ks ls h

  pub emptied_grouped : (b : Bool) (ks : List (Level Replacement)) (ls : List (Level Term)) → GroupLevels ks ls → GroupLevels (levels_emptied b ks) (levels_emptied b ls)
  emptied_grouped true ks ls h =
      (record { sorts = sorts_grouped ks ls h; symbols = symbols_grouped ks ls h; asserted = refl; declared = nothing_among (throughout (λ l. l.symbols) ls) }, tt)
  emptied_grouped false ks ls h = (empty_grouped, tt)
