-- Whether a term mentions local constants, by the numbers of symbols.
use Rattle.std.proofs.Common.{◌≡◌, ◌==◌, Bool, true, false, ◌||◌, List, [], ◌∷◌, ◌++◌, length, map, reverse, All, refl, ap, sym, ◌∙◌, arith}
use Rattle.std.proofs.lemmas.Bool.Decides.{Decides-eqb}
use Rattle.std.specs.List.{list_any}
use Rattle.std.proofs.lemmas.List.Elements.{All-nil, All-cons, All-head, All-tail}
use Rattle.std.proofs.lemmas.List.{reverse-append}
use Rattle.std.proofs.lemmas.List.Folds.{list_any-append}
use Rattle.smt_terms.specs.declared.ids.SymId.{SymId}
use Rattle.smt_terms.specs.Free.{free, is_among}
use Rattle.smt_terms.specs.Fresh.{Supply}
use Rattle.smt_terms.specs.Sorts.{Symbol}
use Rattle.smt_terms.specs.Term.{Term}
use Rattle.term_table.specs.Formulas.{Formulas, symbol_at, IsSymbol, IsTable}
use Rattle.term_subst.proofs.MapsAt.{symbols-alike}
use Rattle.term_walk.specs.FreeLists.{AreFree}
use Rattle.script_terms.specs.declared.locals.Local.TheVariants.{Let, Quantified, Parameter}
use Rattle.script_terms.specs.Bound.{LocalNames, constants_in, IsLocal, AreLocals, ShowsLocals}
use Rattle.script_terms.specs.Read.{mentions_local}
use Rattle.script_terms.specs.Reading.{ReadLocal}
use Rattle.script_terms.specs.SymbolClauses.{has_symbol}
use Rattle.script_terms.proofs.ShowingLocals.{constants_found}

-- ---- one symbol, one number

module _ (t : Formulas) (table : IsTable t) where
  among_number : (gs : List SymId) (f : SymId) → All (IsSymbol t) gs → IsSymbol t f → is_among (map (symbol_at t) gs) (symbol_at t f) ≡ has_symbol gs f
  among_number [] f all is = refl
  among_number (g ∷ gs) f all is =
      (λ i. symbols-alike t table f g is (All-head (IsSymbol t) g gs all) i || among_number gs f (All-tail (IsSymbol t) g gs all) is i)

  any_number : (gs fs : List SymId) → All (IsSymbol t) gs → All (IsSymbol t) fs → list_any (λ f. is_among (map (symbol_at t) gs) f) (map (symbol_at t) fs) ≡ list_any (has_symbol gs) fs
  any_number gs [] all are = refl
  any_number gs (f ∷ fs) all are =
      (λ i. among_number gs f all (All-head (IsSymbol t) f fs are) i || any_number gs fs all (All-tail (IsSymbol t) f fs are) i)

-- ---- the order doesn't matter

or_turned : (a b : Bool) → (a || b) ≡ (b || a)
or_turned true true = refl
or_turned true false = refl
or_turned false true = refl
or_turned false false = refl

or_nothing : (b : Bool) → (b || false) ≡ b
or_nothing true = refl
or_nothing false = refl

reverse_first : {A : Type 0} (x : A) (xs : List A) → reverse (x ∷ xs) ≡ reverse xs ++ x ∷ []
reverse_first x xs = reverse-append (x ∷ []) xs

has_reversed : (gs : List SymId) (f : SymId) → has_symbol (reverse gs) f ≡ has_symbol gs f
has_reversed [] f = refl
has_reversed (g ∷ gs) f =
    ap (λ hs. has_symbol hs f) (reverse_first g gs)
    ∙ list_any-append (λ h. f.0 == h.0) (reverse gs) (g ∷ [])
    ∙ ap (λ b. b || ((f.0 == g.0) || false)) (has_reversed gs f)
    ∙ ap (λ b. has_symbol gs f || b) (or_nothing (f.0 == g.0))
    ∙ or_turned (has_symbol gs f) (f.0 == g.0)

any_alike : (p q : SymId → Bool) (fs : List SymId) → ((f : SymId) → p f ≡ q f) → list_any p fs ≡ list_any q fs
any_alike p q [] same = refl
any_alike p q (f ∷ fs) same = λ i. same f i || any_alike p q fs same i

-- ---- local constants

constants_are : (t : Formulas) (supply : Supply) (ps : LocalNames) → AreLocals t supply ps → All (IsSymbol t) (constants_in ps)
constants_are t supply [] are = All-nil (IsSymbol t)
constants_are t supply ((n, Let k) ∷ ps) are = constants_are t supply ps (All-tail (λ p. IsLocal t supply p.1) (n, Let k) ps are)
constants_are t supply ((n, Quantified c) ∷ ps) are =
    All-cons (IsSymbol t) c.symbol (constants_in ps) (All-head (λ p. IsLocal t supply p.1) (n, Quantified c) ps are).symbol (constants_are t supply ps (All-tail (λ p. IsLocal t supply p.1) (n, Quantified c) ps are))
constants_are t supply ((n, Parameter c) ∷ ps) are =
    All-cons (IsSymbol t) c.symbol (constants_in ps) (All-head (λ p. IsLocal t supply p.1) (n, Parameter c) ps are).symbol (constants_are t supply ps (All-tail (λ p. IsLocal t supply p.1) (n, Parameter c) ps are))

nothing_any : (fs : List Symbol) → list_any (λ f. is_among [] f) fs ≡ false
nothing_any [] = refl
nothing_any (f ∷ fs) = nothing_any fs

-- the constants as they are listed, the same as a set, and the free symbols of the term
module _ (t : Formulas) (table : IsTable t) (supply : Supply) (ps : LocalNames) (ls : List ReadLocal) (shows : ShowsLocals t supply ps ls) where
  pub mentions_found : (listed held : List SymId) (u : Term) (fs : List SymId) → reverse listed ≡ constants_in ps → ((f : SymId) → has_symbol held f ≡ has_symbol listed f) → AreFree t u fs
      → list_any (has_symbol held) fs ≡ mentions_local ls u
  mentions_found listed held u fs order same are =
      any_alike (has_symbol held) (has_symbol (constants_in ps)) fs (λ f. same f ∙ sym (has_reversed listed f) ∙ ap (λ gs. has_symbol gs f) order)
      ∙ sym (any_number t table (constants_in ps) fs (constants_are t supply ps shows.numbers) are.symbols)
      ∙ (λ i. list_any (λ f. is_among (sym (constants_found t supply ps ls shows) i) f) (are.names i))

  pub nothing_mentioned : (listed : List SymId) (b : Bool) (u : Term) → reverse listed ≡ constants_in ps → b ≡ (length listed == 0) → b ≡ true → false ≡ mentions_local ls u
  nothing_mentioned [] b u order e h =
      sym (nothing_any (free u))
      ∙ (λ i. list_any (λ f. is_among (map (symbol_at t) (order i)) f) (free u))
      ∙ (λ i. list_any (λ f. is_among (sym (constants_found t supply ps ls shows) i) f) (free u))
  nothing_mentioned (g ∷ gs) b u order e h =
      absurd (let none_there : (length (g ∷ gs) == 0) ≡ true = sym e ∙ h in let zero_there : length (g ∷ gs) ≡ 0 = (Decides-eqb (length (g ∷ gs)) 0).0 none_there in omega arith)
