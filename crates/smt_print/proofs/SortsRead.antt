-- The form of a sort is read as the sort.
use Rattle.std.proofs.Common.{◌≡◌, ℕ, suc, ◌<◌, ◌≤◌, true, false, Ok, Option, Some, List, [], ◌∷◌, map, refl, ap, ◌∙◌, arith}
use Rattle.std.specs.Prelude.{codes}
use Rattle.std.proofs.lemmas.Bool.{le-ltb, ne_eqb}
use Rattle.smt_lex.specs.Names.{Name, IsName, is_among, is_syntax_word, is_command_word, is_theory_sort, theory_sorts}
use Rattle.smt_lex.specs.Forms.{Form, none, forms_of_list}
use Rattle.smt_terms.specs.Rank.{is_array, most_bits, width}
use Rattle.smt_terms.specs.Sorts.{Sort, bool, int, bit_vector, array, free_sort}
use Rattle.script_read.specs.Commands.{Signature}
use Rattle.script_terms.specs.Parts.{place_of}
use Rattle.script_terms.specs.Refusals.{mapped}
use Rattle.script_terms.specs.SortForms.{Sorts, sort_of_symbol, sort_of_name, vectors_of, array_sort, Part, sort_in, sorts_in, all_sorts, parts_in}
use Rattle.term_table.specs.WrittenForms.{word_form, sort_form}
use Rattle.smt_print.proofs.FormTexts.{end_of, placed, placed_in, placed_behind}
use Rattle.smt_print.proofs.SymbolsRead.{other_word, symbol_read, numeral_read}

-- the sort can be written where these are the declared sorts
abbrev pub SortFits : Signature → Sort → Type 0
SortFits g bool = Unit {0}
SortFits g int = Unit {0}
SortFits g (bit_vector w) = (0 < w) × (w ≤ most_bits)
SortFits g (array i e) = (is_array i ≡ false) × SortFits g i × SortFits g e
SortFits g (free_sort n) = (is_among g.sorts n ≡ true) × (is_theory_sort n ≡ false) × IsName n

-- names of sorts stand for the declared sorts
abbrev pub KnowsSorts : Signature → Sorts → Type 0
KnowsSorts g live = (n : Name) → is_among g.sorts n ≡ true → live n ≡ Some (free_sort n)

pub sort_narrow : (g : Signature) (s : Sort) → SortFits g s → width s ≤ most_bits
sort_narrow g bool fits = omega arith
sort_narrow g int fits = omega arith
sort_narrow g (bit_vector w) fits = fits.1
sort_narrow g (array i e) fits = omega arith
sort_narrow g (free_sort n) fits = omega arith

vector_sort : (place w : ℕ) (o : Option ℕ) → o ≡ Some w → 0 < w → w ≤ most_bits → vectors_of place o ≡ Ok (bit_vector w)
vector_sort place w o is some few =
    ap (vectors_of place) is ∙ rw (ne_eqb w 0 (λ none. omega (arith, none, some)), le-ltb most_bits w few) refl

name_sort : (live : Sorts) (place : ℕ) (n : Name) → is_theory_sort n ≡ false → live n ≡ Some (free_sort n) → sort_of_name live place n ≡ Ok (free_sort n)
unfolding is_theory_sort
name_sort live place n other is =
    rw (other_word theory_sorts n (codes "Bool") other refl, other_word theory_sorts n (codes "Int") other refl, other_word theory_sorts n (codes "Real") other refl)
    (rw (other_word theory_sorts n (codes "Array") other refl, other_word theory_sorts n (codes "BitVec") other refl, is) refl)

array_of_parts : (place : ℕ) (i e : Sort) (p q : Part) → is_array i ≡ false → p.sort ≡ Ok i → q.sort ≡ Ok e → array_sort place (p ∷ (q ∷ [])) ≡ Ok (array i e)
array_of_parts place i e p q flat first second = rw first (rw flat (ap (λ r. mapped (λ element. array i element) r) second))

-- a form as a part of a list
abbrev part_of : Sorts → Form → Part
part_of live f = record { place = place_of f; sort = sort_in live f }

pub sort_read : (g : Signature) (live : Sorts) → KnowsSorts g live → (s : Sort) (p : ℕ) → SortFits g s → sort_in live (placed p (sort_form s)) ≡ Ok s
unfolding is_syntax_word is_command_word
sort_read g live knows bool p fits = refl
sort_read g live knows int p fits = refl
sort_read g live knows (bit_vector w) p fits = vector_sort _ w _ (numeral_read w) fits.0 fits.1
sort_read g live knows (array i e) p fits =
    let first = suc (end_of (suc p) (word_form (codes "Array"))) in
    let second = suc (end_of first (sort_form i)) in
    array_of_parts p i e (part_of live (placed first (sort_form i))) (part_of live (placed second (sort_form e))) fits.0
    (sort_read g live knows i first fits.1) (sort_read g live knows e second fits.2)
sort_read g live knows (free_sort n) p fits =
    ap (λ o. sort_of_symbol live p o) (symbol_read n) ∙ name_sort live p n fits.1 (knows n fits.0)

-- ---- lists of sorts

abbrev pub SortsFit : Signature → List Sort → Type 0
SortsFit g [] = Unit {0}
SortsFit g (s ∷ ss) = SortFits g s × SortsFit g ss

next_sorts : (p : Part) (ps : List Part) (s : Sort) (ss : List Sort) → p.sort ≡ Ok s → all_sorts ps ≡ Ok ss → all_sorts (p ∷ ps) ≡ Ok (s ∷ ss)
next_sorts p ps s ss here behind = rw here (ap (λ r. mapped (λ us. s ∷ us) r) behind)

sorts_behind : (g : Signature) (live : Sorts) → KnowsSorts g live → (ss : List Sort) (p : ℕ) → SortsFit g ss
    → sorts_in live (placed_behind p (forms_of_list (map sort_form ss)) none) ≡ Ok ss
sorts_behind g live knows [] p fit = refl
sorts_behind g live knows (s ∷ ss) p fit =
    next_sorts (part_of live (placed (suc p) (sort_form s))) (parts_in live (placed_behind (end_of (suc p) (sort_form s)) (forms_of_list (map sort_form ss)) none)) s ss
    (sort_read g live knows s (suc p) fit.0) (sorts_behind g live knows ss (end_of (suc p) (sort_form s)) fit.1)

pub sorts_read : (g : Signature) (live : Sorts) → KnowsSorts g live → (ss : List Sort) (p : ℕ) → SortsFit g ss
    → sorts_in live (placed_in p (forms_of_list (map sort_form ss)) none) ≡ Ok ss
sorts_read g live knows [] p fit = refl
sorts_read g live knows (s ∷ ss) p fit =
    next_sorts (part_of live (placed p (sort_form s))) (parts_in live (placed_behind (end_of p (sort_form s)) (forms_of_list (map sort_form ss)) none)) s ss
    (sort_read g live knows s p fit.0) (sorts_behind g live knows ss (end_of p (sort_form s)) fit.1)
