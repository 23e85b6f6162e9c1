-- Maps of symbols to terms, read by the numbers of symbols.
use Rattle.std.proofs.Common.{◌≡◌, ◌<◌, ◌≤◌, ◌+◌, ℕ, ◌==◌, Bool, true, false, cond, if◌then◌else◌, List, [], ◌∷◌, ◌++◌, length, get_or, take, Option, Some, None, refl, ap, sym, subst, ◌∙◌, arith}
use Rattle.std.specs.Prelude.{option_map}
use Rattle.std.specs.List.{cons_option}
use Rattle.std.proofs.lemmas.Bool.Decides.{Decides-eqb}
use Rattle.std.proofs.lemmas.List.{map-append, take_more}
use Rattle.std.proofs.lemmas.List.Elements.{All-head, All-tail, filter_map-append}
use Rattle.smt_terms.specs.declared.ids.NodeId.{NodeId}
use Rattle.smt_terms.specs.declared.ids.SymId.{SymId}
use Rattle.smt_terms.specs.Sorts.{Sort, Symbol}
use Rattle.smt_terms.specs.Term.{Term, apply, quantified, symbol, none, constant}
use Rattle.smt_terms.specs.Equal.{symbol_eq}
use Rattle.smt_terms.specs.Rank.{sort_of, width, most_bits}
use Rattle.smt_terms.specs.Subst.{Map, image, cut_to}
use Rattle.smt_terms.specs.SubstLaws.{HaveSorts}
use Rattle.smt_terms.proofs.Equal.{Decides-symbol_eq}
use Rattle.smt_terms.proofs.Tests.{alike_from}
use Rattle.smt_terms.proofs.Ranked.{takes-rank, rank-narrow}
use Rattle.smt_terms.proofs.Sorted.{applied, quantified_sort, sort_of-apply}
use Rattle.term_table.specs.Formulas.{Formulas, IsTable, tree, symbol_at, IsSymbol}
use Rattle.term_subst.specs.Maps.{Pairs, image_in, map_at, with_image}
use Rattle.term_walk.specs.FreeLists.{named}
use Rattle.term_subst.specs.Substituting.{IsPair, IsMap}
use Rattle.term_subst.proofs.Turns.{append-nothing}

-- symbols of one table are told apart by their numbers
pub symbols-alike : (t : Formulas) → IsTable t → (f g : SymId) → IsSymbol t f → IsSymbol t g → symbol_eq (symbol_at t g) (symbol_at t f) ≡ (f.0 == g.0)
symbols-alike t table f g within also =
    alike_from (symbol_eq (symbol_at t g) (symbol_at t f)) (f.0 == g.0)
    (λ e. (Decides-eqb f.0 g.0).1 (sym (table.one_symbol g.0 f.0 also within ((Decides-symbol_eq (symbol_at t g) (symbol_at t f)).0 e))))
    (λ e. (Decides-symbol_eq (symbol_at t g) (symbol_at t f)).1 (let same : f.0 ≡ g.0 = (Decides-eqb f.0 g.0).0 e in ap (λ n. symbol_at t (record { 0 = n })) (sym same)))

chosen-alike : (t : Formulas) (b c : Bool) (d : Option Term) (k : NodeId) (o : Option NodeId) → b ≡ c → d ≡ option_map (tree t) o → cond b (Some (tree t k)) d ≡ option_map (tree t) (if c then Some k else o)
chosen-alike t true true d k o e h = refl
chosen-alike t false false d k o e h = h
chosen-alike t true false d k o e h = absurd cc
chosen-alike t false true d k o e h = absurd cc

pub image-at : (t : Formulas) → IsTable t → (ps : Pairs) → IsMap t ps → (f : SymId) → IsSymbol t f → image (map_at t ps) (symbol_at t f) ≡ option_map (tree t) (image_in ps f)
image-at t table [] pairs f within = refl
image-at t table (p ∷ ps) pairs f within =
    let pair = All-head (IsPair t) p ps pairs in
    chosen-alike t (symbol_eq (symbol_at t p.0) (symbol_at t f)) (f.0 == p.0.0) (image (map_at t ps) (symbol_at t f)) p.1 (image_in ps f)
    (symbols-alike t table f p.0 within pair.symbol) (image-at t table ps (All-tail (IsPair t) p ps pairs) f within)

-- ---- sorts

pub sort-narrow : (t : Term) (s : Sort) → sort_of t ≡ Some s → width s ≤ most_bits
sort-narrow (apply h ts) s e = let parts = applied h ts s e in rank-narrow h parts.sorts s parts.rank
sort-narrow (quantified q xs t) s e =
    let parts = quantified_sort q xs t s e in
    subst (λ r. width r ≤ most_bits) (sym parts.sort) (let none : 0 ≤ most_bits = omega arith in none)

pub constant-sort : (f : Symbol) → f.args ≡ [] → width f.result ≤ most_bits → sort_of (constant f) ≡ Some f.result
constant-sort f args narrow = sort_of-apply (symbol f) none [] f.result refl (takes-rank (symbol f) [] f.result (sym args, refl) narrow)

image-sort : (t : Formulas) (p : SymId × NodeId) → IsPair t p → sort_of (tree t p.1) ≡ sort_of (constant (symbol_at t p.0))
image-sort t p pair = pair.sort ∙ sym (constant-sort (symbol_at t p.0) pair.constant (sort-narrow (tree t p.1) (symbol_at t p.0).result pair.sort))

pub have-sorts : (t : Formulas) (ps : Pairs) → IsMap t ps → HaveSorts (map_at t ps)
have-sorts t [] pairs g u found = absurd cc
have-sorts t (p ∷ ps) pairs g u found = by (symbol_eq (symbol_at t p.0) g) refl found (have-sorts t ps (All-tail (IsPair t) p ps pairs) g u)
  where
    by : (b : Bool) → symbol_eq (symbol_at t p.0) g ≡ b → cond b (Some (tree t p.1)) (image (map_at t ps) g) ≡ Some u → (image (map_at t ps) g ≡ Some u → sort_of u ≡ sort_of (constant g)) → sort_of u ≡ sort_of (constant g)
    by true here e rest =
        let same : tree t p.1 ≡ u = cc in
        let key : symbol_at t p.0 ≡ g = (Decides-symbol_eq (symbol_at t p.0) g).0 here in
        ap sort_of (sym same) ∙ image-sort t p (All-head (IsPair t) p ps pairs) ∙ ap (λ f. sort_of (constant f)) key
    by false other e rest = rest e

-- ---- a map that gets one image more

pub image-with : (t : Formulas) → IsTable t → (ps : Pairs) → IsMap t ps → (f : SymId) (k : NodeId) → IsSymbol t f → (g : Symbol)
    → image (map_at t (with_image ps f k)) g ≡ image ((symbol_at t f, tree t k) ∷ map_at t ps) g
image-with t table [] pairs f k within g = refl
image-with t table (p ∷ ps) pairs f k within g =
    by (f.0 == p.0.0) refl (image-with t table ps (All-tail (IsPair t) p ps pairs) f k within g)
  where
    pair : IsPair t p
    pair = All-head (IsPair t) p ps pairs

    same : (f.0 == p.0.0) ≡ true → symbol_at t p.0 ≡ symbol_at t f
    same e = (let number : f.0 ≡ p.0.0 = (Decides-eqb f.0 p.0.0).0 e in ap (λ n. symbol_at t (record { 0 = n })) (sym number))

    passed : (b c : Bool) (u v w : Option Term) → (b ≡ true → c ≡ true → ⊥) → cond b u (cond c v w) ≡ cond c v (cond b u w)
    passed true true u v w never = absurd (never refl refl)
    passed true false u v w never = refl
    passed false c u v w never = refl

    twice : (b : Bool) (u v w : Option Term) → cond b u w ≡ cond b u (cond b v w)
    twice true u v w = refl
    twice false u v w = refl

    apart : (f.0 == p.0.0) ≡ false → symbol_eq (symbol_at t p.0) g ≡ true → symbol_eq (symbol_at t f) g ≡ true → ⊥
    apart e a b =
        let one : symbol_at t f ≡ symbol_at t p.0 = (Decides-symbol_eq (symbol_at t f) g).0 b ∙ sym ((Decides-symbol_eq (symbol_at t p.0) g).0 a) in
        absurd (let number : (f.0 == p.0.0) ≡ true = (Decides-eqb f.0 p.0.0).1 (table.one_symbol f.0 p.0.0 within pair.symbol one) in cc)

    by : (b : Bool) → (f.0 == p.0.0) ≡ b → image (map_at t (with_image ps f k)) g ≡ image ((symbol_at t f, tree t k) ∷ map_at t ps) g
        → image (map_at t (if◌then◌else◌ {A = Pairs} b ((p.0, k) ∷ ps) (p ∷ with_image ps f k))) g ≡ image ((symbol_at t f, tree t k) ∷ map_at t (p ∷ ps)) g
    by true e rest =
        ap (λ h. cond (symbol_eq h g) (Some (tree t k)) (image (map_at t ps) g)) (same e)
        ∙ twice (symbol_eq (symbol_at t f) g) (Some (tree t k)) (Some (tree t p.1)) (image (map_at t ps) g)
        ∙ ap (λ h. cond (symbol_eq (symbol_at t f) g) (Some (tree t k)) (cond (symbol_eq h g) (Some (tree t p.1)) (image (map_at t ps) g))) (sym (same e))
    by false e rest =
        ap (λ o. cond (symbol_eq (symbol_at t p.0) g) (Some (tree t p.1)) o) rest
        ∙ passed (symbol_eq (symbol_at t p.0) g) (symbol_eq (symbol_at t f) g) (Some (tree t p.1)) (Some (tree t k)) (image (map_at t ps) g) (apart e)

-- ---- a map that is cut down

pub pair-found : (t : Formulas) (ps : Pairs) → IsMap t ps → (f : SymId) (k : NodeId) → image_in ps f ≡ Some k → IsPair t (f, k)
pair-found t [] pairs f k found = absurd cc
pair-found t (p ∷ ps) pairs f k found = by (f.0 == p.0.0) refl found (pair-found t ps (All-tail (IsPair t) p ps pairs) f k)
  where
    by : (b : Bool) → (f.0 == p.0.0) ≡ b → (if b then Some p.1 else image_in ps f) ≡ Some k → (image_in ps f ≡ Some k → IsPair t (f, k)) → IsPair t (f, k)
    by true e h rest =
        let number : p.0.0 ≡ f.0 = sym ((Decides-eqb f.0 p.0.0).0 e) in
        let image : p.1 ≡ k = cc in
        subst (IsPair t) (let key : p ≡ (f, k) = (λ i. (record { 0 = number i }, image i)) in key) (All-head (IsPair t) p ps pairs)
    by false e h rest = rest h

module _ (t : Formulas) (table : IsTable t) (ps : Pairs) (pairs : IsMap t ps) (f : SymId) (within : IsSymbol t f) where
  pub cut-found : (k : NodeId) → image_in ps f ≡ Some k → (cut : Pairs) → map_at t (cut ++ (f, k) ∷ []) ≡ map_at t cut ++ cut_to (symbol_at t f ∷ []) (map_at t ps)
  cut-found k found cut =
      map-append (λ p. (symbol_at t p.0, tree t p.1)) cut ((f, k) ∷ [])
      ∙ ap (λ o. map_at t cut ++ cons_option (option_map (λ u. (symbol_at t f, u)) o) []) (sym (image-at t table ps pairs f within ∙ ap (option_map (tree t)) found))

  pub cut-none : image_in ps f ≡ None → (cut : Pairs) → map_at t cut ≡ map_at t cut ++ cut_to (symbol_at t f ∷ []) (map_at t ps)
  cut-none missing cut =
      sym (append-nothing (map_at t cut))
      ∙ ap (λ o. map_at t cut ++ cons_option (option_map (λ u. (symbol_at t f, u)) o) []) (sym (image-at t table ps pairs f within ∙ ap (option_map (tree t)) missing))

-- one symbol more
pub cut-more : (t : Formulas) (m : Map) (fs : List SymId) (i : ℕ) (d f : SymId) (cut more : Map) → i < length fs → f ≡ get_or fs i d → cut ≡ cut_to (named t (take i fs)) m → more ≡ cut ++ cut_to (symbol_at t f ∷ []) m
    → more ≡ cut_to (named t (take (i + 1) fs)) m
cut-more t m fs i d f cut more lt is so step =
    step ∙ (λ j. so j ++ cut_to (symbol_at t (is j) ∷ []) m)
    ∙ sym (filter_map-append (λ g. option_map (λ u. (g, u)) (image m g)) (named t (take i fs)) (symbol_at t (get_or fs i d) ∷ []))
    ∙ ap (λ gs. cut_to gs m) (sym (ap (named t) (take_more fs i d lt) ∙ map-append (symbol_at t) (take i fs) (get_or fs i d ∷ [])))

-- ---- maps that say the same by numbers

key-found : (t : Formulas) (ps : Pairs) → IsMap t ps → (f : Symbol) (u : Term) → image (map_at t ps) f ≡ Some u → (g : SymId) × IsSymbol t g × (symbol_at t g ≡ f)
key-found t [] pairs f u found = absurd cc
key-found t (p ∷ ps) pairs f u found = by (symbol_eq (symbol_at t p.0) f) refl found (key-found t ps (All-tail (IsPair t) p ps pairs) f u)
  where
    by : (b : Bool) → symbol_eq (symbol_at t p.0) f ≡ b → cond b (Some (tree t p.1)) (image (map_at t ps) f) ≡ Some u
        → (image (map_at t ps) f ≡ Some u → (g : SymId) × IsSymbol t g × (symbol_at t g ≡ f)) → (g : SymId) × IsSymbol t g × (symbol_at t g ≡ f)
    by true e h rest = (p.0, (All-head (IsPair t) p ps pairs).symbol, (Decides-symbol_eq (symbol_at t p.0) f).0 e)
    by false e h rest = rest h

module _ (t : Formulas) (table : IsTable t) (ps qs : Pairs) (pairs : IsMap t ps) (others : IsMap t qs) (same : (f : SymId) → image_in ps f ≡ image_in qs f) where
  at-number : (f : Symbol) (g : SymId) → IsSymbol t g → symbol_at t g ≡ f → image (map_at t ps) f ≡ image (map_at t qs) f
  at-number f g within is =
      ap (image (map_at t ps)) (sym is) ∙ image-at t table ps pairs g within ∙ ap (option_map (tree t)) (same g) ∙ sym (image-at t table qs others g within) ∙ ap (image (map_at t qs)) is

  pub images-same : (f : Symbol) → image (map_at t ps) f ≡ image (map_at t qs) f
  images-same f = by (image (map_at t ps) f) (image (map_at t qs) f) refl refl
    where
      by : (o p : Option Term) → image (map_at t ps) f ≡ o → image (map_at t qs) f ≡ p → image (map_at t ps) f ≡ image (map_at t qs) f
      by (Some u) p a b = (let g = key-found t ps pairs f u a in at-number f g.0 g.1 g.2)
      by None (Some v) a b = (let g = key-found t qs others f v b in at-number f g.0 g.1 g.2)
      by None None a b = a ∙ sym b
