-- The sorts and symbols of a signature are found by their names.
use Rattle.std.proofs.Common.{◌≡◌, ◌∙◌, sym, ap, subst, refl, Bool, true, false, if◌then◌else◌, ◌||◌, List, [], ◌∷◌, ◌++◌, map, reverse, length, ◌<◌, ◌-◌, All, arith, Option, Some, None, IfSome}
use Rattle.std.specs.Prelude.{option_map}
use Rattle.std.proofs.lemmas.List.{map-append, get_or-reverse, length-reverse}
use Rattle.std.proofs.lemmas.List.Elements.{All-get_or}
use Rattle.smt_lex.specs.Names.{is_among}
use Rattle.smt_terms.specs.Equal.{name_eq}
use Rattle.smt_terms.specs.Sorts.{Name, free_sort}
use Rattle.smt_terms.specs.declared.ids.SortId.{SortId}
use Rattle.smt_terms.specs.declared.ids.SymId.{SymId}
use Rattle.smt_terms.proofs.Equal.{name_same}
use Rattle.smt_values.specs.SortIds.{sort_at}
use Rattle.term_table.specs.Formulas.{Formulas, symbol_at, IsSymbol}
use Rattle.script_read.specs.CommandLists.{free_name}
use Rattle.script_read.specs.Commands.{Signature}
use Rattle.models.specs.LiveNumbers.{LiveNumbers, signature_of, IsFreeSort}
use Rattle.models.specs.declared.model.Division.{Division}
use Rattle.models.specs.declared.model.Division.TheVariants.{Quotient, Remainder}
use Rattle.model_texts.specs.declared.names.Owner.TheVariants.{Symbol as OfSymbol}
use Rattle.model_texts.specs.Entries.{division_table, modulus_table, table_symbol, symbol_among, symbol_named}
use Rattle.model_texts.specs.SignatureNames.{SignatureNames, at_name, part_named, part_or_symbol, owned, IsOwnerOf, AreSortsNamed, AreSymbolsNamed, AreNamesOf}
use Rattle.model_texts.proofs.MetNames.{turned}

pub all_reversed : {A : Type 0} (P : A → Type 0) (xs : List A) → All P xs → All P (reverse xs)
all_reversed P xs all k d less =
    let whole = length-reverse xs in
    let within : k < length xs = omega (arith, less, whole) in
    subst P (sym (get_or-reverse xs k d within)) (All-get_or P xs (length xs - 1 - k) d (omega (arith, within)) all)

-- ---- one sort more

pub among_last : (ns : List Name) (m n : Name) → is_among (ns ++ m ∷ []) n ≡ (if name_eq n m then true else is_among ns n)
among_last [] m n = by (name_eq n m)
  where
    by : (b : Bool) → (b || false) ≡ (if b then true else false)
    by true = refl
    by false = refl
among_last (k ∷ ns) m n = ap (λ b. name_eq n k || b) (among_last ns m n) ∙ by (name_eq n k) (name_eq n m)
  where
    by : (a b : Bool) → (a || (if b then true else is_among ns n)) ≡ (if b then true else (a || is_among ns n))
    by true true = refl
    by true false = refl
    by false true = refl
    by false false = refl

module _ (t : Formulas) where
  abbrev name_of_sort : SortId → Name
  name_of_sort s = free_name (sort_at t.sorts s)

  pub no_sorts_named : AreSortsNamed t [] []
  no_sorts_named = record { sorts = λ n. refl; free = λ n. tt }

  pub one_sort_more : (ss : List SortId) (s : SortId) (k : Name) (old new : List (Name × SortId)) → AreSortsNamed t ss old → IsFreeSort t s → sort_at t.sorts s ≡ free_sort k
      → ((n : Name) → at_name new n ≡ (if name_eq n k then Some s else at_name old n)) → AreSortsNamed t (ss ++ s ∷ []) new
  one_sort_more ss s k old new are free is puts = record {
    sorts = λ n.
        ap (option_map (λ s. sort_at t.sorts s)) (puts n)
        ∙ found n (name_eq n k) refl (are.sorts n)
        ∙ ap (λ (b : Bool). if b then Some (free_sort n) else None) (sym (ap (λ ns. is_among ns n) (map-append name_of_sort ss (s ∷ [])) ∙ among_last (map name_of_sort ss) (name_of_sort s) n ∙ ap (λ m. if name_eq n m then true else is_among (map name_of_sort ss) n) (ap free_name is)));
    free = λ n. subst (λ o. IfSome o (IsFreeSort t)) (sym (puts n)) (either_free (name_eq n k) (at_name old n) (are.free n));
  }
    where
      found : (n : Name) (b : Bool) → name_eq n k ≡ b → option_map (λ s. sort_at t.sorts s) (at_name old n) ≡ (if is_among (map name_of_sort ss) n then Some (free_sort n) else None)
          → option_map (λ s. sort_at t.sorts s) (if b then Some s else at_name old n) ≡ (if (if b then true else is_among (map name_of_sort ss) n) then Some (free_sort n) else None)
      found n true same h = ap Some (is ∙ ap free_sort (sym (name_same n k same)))
      found n false other h = h

      either_free : (b : Bool) (o : Option SortId) → IfSome o (IsFreeSort t) → IfSome (if b then Some s else o) (IsFreeSort t)
      either_free true o h = free
      either_free false o h = h

  -- ---- one symbol more, in front of the others

  pub no_symbols_named : AreSymbolsNamed t [] []
  no_symbols_named = record { symbols = λ n. refl; within = λ n. tt }

  pub one_symbol_more : (fs : List SymId) (f : SymId) (k : Name) (old new : List (Name × SymId)) → AreSymbolsNamed t fs old → IsSymbol t f → k ≡ (symbol_at t f).name
      → ((n : Name) → at_name new n ≡ (if name_eq n k then Some f else at_name old n)) → AreSymbolsNamed t (f ∷ fs) new
  one_symbol_more fs f k old new are there is puts = record {
    symbols = λ n.
        ap (option_map (symbol_at t)) (puts n ∙ ap (λ b. if b then Some f else at_name old n) (turned n k ∙ ap (λ m. name_eq m n) is))
        ∙ found n (name_eq (symbol_at t f).name n) (are.symbols n);
    within = λ n. subst (λ o. IfSome o (IsSymbol t)) (sym (puts n)) (either_there (name_eq n k) (at_name old n) (are.within n));
  }
    where
      found : (n : Name) (b : Bool) → option_map (symbol_at t) (at_name old n) ≡ symbol_among (map (symbol_at t) fs) n
          → option_map (symbol_at t) (if b then Some f else at_name old n) ≡ (if b then Some (symbol_at t f) else symbol_among (map (symbol_at t) fs) n)
      found n true h = refl
      found n false h = h

      either_there : (b : Bool) (o : Option SymId) → IfSome o (IsSymbol t) → IfSome (if b then Some f else o) (IsSymbol t)
      either_there true o h = there
      either_there false o h = h

  -- ---- what tables are for

  of_symbol : (o : Option SymId) → option_map (owned t) (option_map OfSymbol o) ≡ option_map (symbol_at t) o
  of_symbol None = refl
  of_symbol (Some f) = refl

  owner_is : (sig : Signature) (n : Name) (o : Option SymId) → option_map (symbol_at t) o ≡ symbol_among sig.symbols n → option_map (owned t) (part_or_symbol (part_named n) o) ≡ symbol_named sig n
  owner_is sig n o h = by (name_eq n division_table) (name_eq n modulus_table) refl refl
    where
      by : (a b : Bool) → name_eq n division_table ≡ a → name_eq n modulus_table ≡ b
          → option_map (owned t) (part_or_symbol (if a then Some Quotient else (if b then Some Remainder else None)) o) ≡ (if a || b then Some (table_symbol n) else symbol_among sig.symbols n)
      by true b d m = ap (λ k. Some (table_symbol k)) (sym (name_same n division_table d))
      by false true d m = ap (λ k. Some (table_symbol k)) (sym (name_same n modulus_table m))
      by false false d m = of_symbol o ∙ h

  owner_there : (p : Option Division) (o : Option SymId) → IfSome o (IsSymbol t) → IfSome (part_or_symbol p o) (IsOwnerOf t)
  owner_there (Some part) o h = tt
  owner_there None None h = tt
  owner_there None (Some f) h = h

  pub all_named : (l : LiveNumbers) (names : SignatureNames) → AreSortsNamed t l.sorts names.sorts → AreSymbolsNamed t l.symbols names.symbols → AreNamesOf t l names
  all_named l names sorts symbols = record {
    owners = λ n. owner_is (signature_of t l) n (at_name names.symbols n) (symbols.symbols n);
    symbols = λ n. owner_there (part_named n) (at_name names.symbols n) (symbols.within n);
    sorts = sorts.sorts;
    free = sorts.free;
  }
