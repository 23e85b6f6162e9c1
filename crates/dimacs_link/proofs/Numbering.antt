-- Numbers of constants, by the numbers that their symbols have in a table.
use Rattle.std.proofs.Common.{◌≡◌, ◌∙◌, sym, ap, refl, subst, ℕ, zero, suc, ◌+◌, ◌<◌, ◌==◌, Bool, true, false, cond, not, if◌then◌else◌, List, [], ◌∷◌, ◌++◌, length, get_or, take, Option, Some, None, arith}
use Rattle.std.specs.Map.{lookup}
use Rattle.std.proofs.lemmas.Bool.Decides.{Decides-eqb}
use Rattle.std.proofs.lemmas.List.{map_more, length-take}
use Rattle.std.proofs.lemmas.List.Elements.{All-get_or}
use Rattle.indexmap.specs.IndexMap.{insert_entry}
use Rattle.smt_terms.specs.declared.ids.SymId.{SymId}
use Rattle.smt_terms.specs.contracts.ids.SymIdPartialEq.TheImpl.{ghosts}
use Rattle.smt_terms.specs.Equal.{symbol_eq}
use Rattle.smt_terms.specs.Free.{is_among}
use Rattle.smt_terms.specs.Sorts.{Symbol}
use Rattle.smt_terms.proofs.Equal.{Decides-symbol_eq}
use Rattle.smt_terms.proofs.Tests.{both_true, both_false, or_false, not_true, alike_from}
use Rattle.term_table.specs.Formulas.{Formulas, IsTable, symbol_at, no_symbol, IsSymbol}
use Rattle.dimacs_link.specs.Clauses.{number_from}
use Rattle.dimacs_link.specs.Constants.{Numbered, number_in, with_number, are_distinct, constants_at, AreConstants}

-- ---- as the map of the kit has them

pub with_number-insert : (ps : Numbered) (k : SymId) (n : ℕ) → insert_entry ghosts.eq ps k n ≡ with_number ps k n
with_number-insert [] k n = refl
with_number-insert (p ∷ ps) k n = ap (λ (rest : Numbered). if◌then◌else◌ {A = Numbered} (k.0 == p.0.0) ((p.0, n) ∷ ps) (p ∷ rest)) (with_number-insert ps k n)

pub number_in-lookup : (ps : Numbered) (f : SymId) → number_in ps f ≡ lookup (ghosts.eq f) ps
number_in-lookup [] f = refl
number_in-lookup (p ∷ ps) f = by (number_in-lookup ps f) (f.0 == p.0.0)
  where
    by : number_in ps f ≡ lookup (ghosts.eq f) ps → (b : Bool) → (if b then Some p.1 else number_in ps f) ≡ cond {A = Option ℕ} b (Some p.1) (lookup (ghosts.eq f) ps)
    by rest true = refl
    by rest false = rest

-- ---- the number that was given is found, and others as before

pub given : (ps : Numbered) (k f : SymId) (n : ℕ) → (f.0 == k.0) ≡ true → number_in (with_number ps k n) f ≡ Some n
given [] k f n e = ap (λ b. if b then Some n else None) e
given (p ∷ ps) k f n e = by (k.0 == p.0.0) refl (given ps k f n e)
  where
    same : f.0 ≡ k.0
    same = (Decides-eqb f.0 k.0).0 e

    by : (b : Bool) → (k.0 == p.0.0) ≡ b → number_in (with_number ps k n) f ≡ Some n → number_in (if◌then◌else◌ {A = Numbered} b ((p.0, n) ∷ ps) (p ∷ with_number ps k n)) f ≡ Some n
    by true h rest = ap (λ b. if b then Some n else number_in ps f) (ap (λ m. m == p.0.0) same ∙ h)
    by false h rest = ap (λ b. if b then Some p.1 else number_in (with_number ps k n) f) (ap (λ m. m == p.0.0) same ∙ h) ∙ rest

pub kept : (ps : Numbered) (k f : SymId) (n : ℕ) → (f.0 == k.0) ≡ false → number_in (with_number ps k n) f ≡ number_in ps f
kept [] k f n e = ap (λ b. if b then Some n else None) e
kept (p ∷ ps) k f n e = by (k.0 == p.0.0) refl (kept ps k f n e)
  where
    by : (b : Bool) → (k.0 == p.0.0) ≡ b → number_in (with_number ps k n) f ≡ number_in ps f → number_in (if◌then◌else◌ {A = Numbered} b ((p.0, n) ∷ ps) (p ∷ with_number ps k n)) f ≡ (if f.0 == p.0.0 then Some p.1 else number_in ps f)
    by true h rest =
        let other : (f.0 == p.0.0) ≡ false = ap (λ m. f.0 == m) (sym ((Decides-eqb k.0 p.0.0).0 h)) ∙ e in
        ap (λ b. if b then Some n else number_in ps f) other ∙ sym (ap (λ b. if b then Some p.1 else number_in ps f) other)
    by false h rest = ap (λ o. if f.0 == p.0.0 then Some p.1 else o) rest

-- ---- a constant more

pub number_other : (n : ℕ) (cs : List Symbol) (c f : Symbol) → symbol_eq c f ≡ false → number_from n (cs ++ c ∷ []) f ≡ number_from n cs f
number_other n [] c f e = ap (λ b. if b then Some n else None) e
number_other n (d ∷ cs) c f e = ap (λ o. if symbol_eq d f then Some n else o) (number_other (suc n) cs c f e)

pub number_new : (n : ℕ) (cs : List Symbol) (c f : Symbol) → is_among cs f ≡ false → symbol_eq c f ≡ true → number_from n (cs ++ c ∷ []) f ≡ Some (n + length cs)
number_new n [] c f none e = let on : n ≡ n + 0 = omega arith in ap (λ b. if b then Some n else None) e ∙ ap Some on
number_new n (d ∷ cs) c f none e =
    let parts = both_false (symbol_eq d f) (is_among cs f) none in
    let on : suc n + length cs ≡ n + suc (length cs) = omega arith in
    ap (λ b. if b then Some n else number_from (suc n) (cs ++ c ∷ []) f) parts.0 ∙ number_new (suc n) cs c f parts.1 e ∙ ap Some on

-- ---- different symbols

pub symmetric : (f g : Symbol) → symbol_eq f g ≡ symbol_eq g f
symmetric f g =
    alike_from (symbol_eq f g) (symbol_eq g f) (λ e. (Decides-symbol_eq g f).1 (sym ((Decides-symbol_eq f g).0 e)))
    (λ e. (Decides-symbol_eq f g).1 (sym ((Decides-symbol_eq g f).0 e)))

none_at : (fs : List Symbol) (f d : Symbol) (i : ℕ) → is_among fs f ≡ false → i < length fs → symbol_eq (get_or fs i d) f ≡ false
none_at [] f d i none within = absurd (omega arith)
none_at (g ∷ fs) f d zero none within = (both_false (symbol_eq g f) (is_among fs f) none).0
none_at (g ∷ fs) f d (suc i) none within = none_at fs f d i (both_false (symbol_eq g f) (is_among fs f) none).1 (omega arith)

pub none_before : (fs : List Symbol) (d : Symbol) (i : ℕ) → are_distinct fs ≡ true → i < length fs → is_among (take i fs) (get_or fs i d) ≡ false
none_before [] d i all within = absurd (omega arith)
none_before (f ∷ fs) d zero all within = refl
none_before (f ∷ fs) d (suc i) all within =
    let parts = both_true (not (is_among fs f)) (are_distinct fs) all in
    or_false (symbol_eq f (get_or fs i d)) (is_among (take i fs) (get_or fs i d))
    (symmetric f (get_or fs i d) ∙ none_at fs f d i (not_true (is_among fs f) parts.0) (omega arith))
    (none_before fs d i parts.1 (omega arith))

-- ---- in a table

-- symbols of one table are told apart by their numbers
pub symbols_alike : (t : Formulas) → IsTable t → (f g : SymId) → IsSymbol t f → IsSymbol t g → symbol_eq (symbol_at t g) (symbol_at t f) ≡ (f.0 == g.0)
symbols_alike t table f g within also =
    alike_from (symbol_eq (symbol_at t g) (symbol_at t f)) (f.0 == g.0)
    (λ e. (Decides-eqb f.0 g.0).1 (sym (table.one_symbol g.0 f.0 also within ((Decides-symbol_eq (symbol_at t g) (symbol_at t f)).0 e))))
    (λ e. (Decides-symbol_eq (symbol_at t g) (symbol_at t f)).1 (let same : f.0 ≡ g.0 = (Decides-eqb f.0 g.0).0 e in ap (λ n. symbol_at t (record { 0 = n })) (sym same)))

pub get_or-constants : (t : Formulas) (fs : List SymId) (i : ℕ) (d : SymId) → i < length fs → get_or (constants_at t fs) i no_symbol ≡ symbol_at t (get_or fs i d)
get_or-constants t [] i d within = absurd (omega arith)
get_or-constants t (f ∷ fs) zero d within = refl
get_or-constants t (f ∷ fs) (suc i) d within = get_or-constants t fs i d (omega arith)

pub take-constants : (t : Formulas) (fs : List SymId) (i : ℕ) → take i (constants_at t fs) ≡ constants_at t (take i fs)
take-constants t [] zero = refl
take-constants t [] (suc i) = refl
take-constants t (f ∷ fs) zero = refl
take-constants t (f ∷ fs) (suc i) = ap (λ gs. symbol_at t f ∷ gs) (take-constants t fs i)

pub length-constants : (t : Formulas) (fs : List SymId) → length (constants_at t fs) ≡ length fs
length-constants t [] = refl
length-constants t (f ∷ fs) = ap suc (length-constants t fs)

-- the constants of a list up to a place have their numbers
abbrev pub AreFirst : Formulas → List SymId → ℕ → Numbered → Type 0
AreFirst t fs i ns = (f : SymId) → IsSymbol t f → number_in ns f ≡ number_from 1 (constants_at t (take i fs)) (symbol_at t f)

pub one_more : (t : Formulas) → IsTable t → (fs : List SymId) → AreConstants t fs → (i : ℕ) (d : SymId) (old new : Numbered) → i < length fs → new ≡ with_number old (get_or fs i d) (i + 1)
    → AreFirst t fs i old → AreFirst t fs (i + 1) new
one_more t table fs are i d old new within set was f there =
    ap (λ (ns : Numbered). number_in ns f) set ∙ by (f.0 == c.0) refl ∙ sym (ap (λ cs. number_from 1 cs (symbol_at t f)) (map_more (symbol_at t) fs i d within))
  where
    c : SymId
    c = get_or fs i d

    before : List Symbol
    before = constants_at t (take i fs)

    symbol : IsSymbol t c
    symbol = All-get_or (IsSymbol t) fs i d within are.symbols

    by : (b : Bool) → (f.0 == c.0) ≡ b → number_in (with_number old c (i + 1)) f ≡ number_from 1 (before ++ symbol_at t c ∷ []) (symbol_at t f)
    by true e =
        let same : c ≡ f = let number : f.0 ≡ c.0 = (Decides-eqb f.0 c.0).0 e in ap (λ n. record { 0 = n }) (sym number) in
        let size : i < length (constants_at t fs) = subst (λ n. i < n) (sym (length-constants t fs)) within in
        let none : is_among before (symbol_at t c) ≡ false =
        ap (λ cs. is_among cs (symbol_at t c)) (sym (take-constants t fs i)) ∙ ap (is_among (take i (constants_at t fs))) (sym (get_or-constants t fs i d within))
        ∙ none_before (constants_at t fs) no_symbol i are.distinct size in
        let count : 1 + length before ≡ i + 1 = omega (arith, length-constants t (take i fs), length-take i fs) in
        given old c f (i + 1) e ∙ ap Some (sym count)
        ∙ sym (number_new 1 before (symbol_at t c) (symbol_at t f) (ap (λ g. is_among before (symbol_at t g)) (sym same) ∙ none) (symbols_alike t table f c there symbol ∙ e))
    by false e =
        kept old c f (i + 1) e ∙ was f there ∙ sym (number_other 1 before (symbol_at t c) (symbol_at t f) (symbols_alike t table f c there symbol ∙ e))
