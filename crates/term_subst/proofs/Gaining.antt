-- What a table gains and what is drawn from a supply, one after the other.
use Rattle.std.proofs.Common.{◌≡◌, ◌<◌, ◌+◌, inl, inr, Bool, true, false, nat_lt, List, [], ◌∷◌, length, get_or, refl, ap, sym, subst, ◌∙◌, arith, length-append}
use Rattle.std.proofs.Math.ListN.{get_or-append}
use Rattle.std.proofs.Math.Seq.{get_or-append_seam}
use Rattle.std.proofs.lemmas.Bool.{ltb-true, ltb-false}
use Rattle.smt_terms.specs.Sorts.{Name, Sort, Symbol}
use Rattle.smt_terms.specs.Free.{name_among}
use Rattle.smt_terms.specs.Fresh.{Supply, after_draw, fresh_constant, NeverGives}
use Rattle.smt_terms.proofs.Fresh.{never-drawn, next-later}
use Rattle.term_table.specs.Formulas.{Formulas, no_symbol, Adds, Grows, IsUnchanged}
use Rattle.term_subst.specs.State.{Gains}
use Rattle.term_subst.specs.Substituting.{IsLater, NeverGivesGained}

-- ---- supplies

pub later-same : (s : Supply) → IsLater s s
later-same s = record { taken = refl; number = omega arith }

pub later-both : (r s t : Supply) → IsLater r s → IsLater s t → IsLater r t
later-both r s t a b = record { taken = b.taken ∙ a.taken; number = (let x = a.number in let y = b.number in omega arith) }

pub draw-later : (s : Supply) → IsLater s (after_draw s)
draw-later s = record { taken = refl; number = (let h = next-later s in omega arith) }

pub never-later : (s t : Supply) (n : Name) → IsLater s t → NeverGives s n → NeverGives t n
never-later s t n later never i le same =
    let number = later.number in
    subst (λ ns. name_among ns n ≡ true) (sym later.taken) (never i (omega arith) same)

-- ---- lists that grow

pub grows-same : {X : Type 0} (old new : List X) → new ≡ old → Grows old new
grows-same old new e = record { longer = (let count = ap length e in omega arith); same = λ i d lt. ap (λ xs. get_or xs i d) e }

pub grows-both : {X : Type 0} (xs ys zs : List X) → Grows xs ys → Grows ys zs → Grows xs zs
grows-both xs ys zs a b = record {
  longer = (let x = a.longer in let y = b.longer in omega arith);
  same = λ i d lt. b.same i d (let x = a.longer in omega arith) ∙ a.same i d lt;
}

grows-added : {X : Type 0} (old new : List X) (x : X) → Adds old new x → Grows old new
grows-added old new x (inl same) = grows-same old new same
grows-added old new x (inr more) = record {
  longer = (let count = ap length more.0 in let long = length-append old (x ∷ []) in omega arith);
  same = λ i d lt. ap (λ xs. get_or xs i d) more.0 ∙ get_or-append old (x ∷ []) d i lt;
}

-- ---- symbols that are gained

pub none-gained : (s : Supply) (old new : List Symbol) → new ≡ old → NeverGivesGained s old new
none-gained s old new e i le lt = absurd (let count = ap length e in omega arith)

drawn-gained : (s : Supply) (old new : List Symbol) (to : Sort) → Adds old new (fresh_constant to s) → NeverGivesGained (after_draw s) old new
drawn-gained s old new to (inl same) i le lt = none-gained (after_draw s) old new same i le lt
drawn-gained s old new to (inr more) i le lt =
    let count : length new ≡ length old + 1 = ap length more.0 ∙ length-append old (fresh_constant to s ∷ []) in
    let last : i ≡ length old = omega arith in
    let here : get_or new i no_symbol ≡ fresh_constant to s = (λ j. get_or (more.0 j) (last j) no_symbol) ∙ get_or-append_seam old (fresh_constant to s) [] no_symbol in
    subst (NeverGives (after_draw s)) (sym (ap (λ f. f.name) here)) (never-drawn s)

pub gained-both : (s t : Supply) (xs ys zs : List Symbol) → IsLater s t → Grows ys zs → NeverGivesGained s xs ys → NeverGivesGained t ys zs → NeverGivesGained t xs zs
gained-both s t xs ys zs later grows first second i le lt = by (nat_lt i (length ys)) refl
  where
    by : (b : Bool) → nat_lt i (length ys) ≡ b → NeverGives t (get_or zs i no_symbol).name
    by true e =
        let before : i < length ys = ltb-true i (length ys) e in
        subst (NeverGives t) (sym (ap (λ f. f.name) (grows.same i no_symbol before))) (never-later s t (get_or ys i no_symbol).name later (first i le before))
    by false e = second i (ltb-false i (length ys) e) lt

-- ---- both

pub gains-none : (t : Formulas) (s : Supply) → Gains t t s s
gains-none t s = record {
  grows = record { trees = grows-same t.trees t.trees refl; symbols = grows-same t.symbols t.symbols refl; sorts = grows-same t.sorts t.sorts refl };
  sorts = refl;
  later = later-same s;
  drawn = none-gained s t.symbols t.symbols refl;
}

pub gains-both : (old mid new : Formulas) (r s t : Supply) → Gains old mid r s → Gains mid new s t → Gains old new r t
gains-both old mid new r s t a b = record {
  grows = record {
    trees = grows-both old.trees mid.trees new.trees a.grows.trees b.grows.trees;
    symbols = grows-both old.symbols mid.symbols new.symbols a.grows.symbols b.grows.symbols;
    sorts = grows-both old.sorts mid.sorts new.sorts a.grows.sorts b.grows.sorts;
  };
  sorts = b.sorts ∙ a.sorts;
  later = later-both r s t a.later b.later;
  drawn = gained-both s t old.symbols mid.symbols new.symbols b.later b.grows.symbols a.drawn b.drawn;
}

-- a node more
pub gains-nodes : (old new : Formulas) (s : Supply) → Grows old.trees new.trees → new.symbols ≡ old.symbols → new.sorts ≡ old.sorts → Gains old new s s
gains-nodes old new s trees symbols sorts = record {
  grows = record { trees = trees; symbols = grows-same old.symbols new.symbols symbols; sorts = grows-same old.sorts new.sorts sorts };
  sorts = sorts;
  later = later-same s;
  drawn = none-gained s old.symbols new.symbols symbols;
}

pub gains-unchanged : (old new : Formulas) (s : Supply) → IsUnchanged old new → Gains old new s s
gains-unchanged old new s same = gains-nodes old new s (grows-same old.trees new.trees same.trees) same.symbols same.sorts

-- a name that is drawn, with its symbol
pub gains-draw : (old new : Formulas) (s t : Supply) (to : Sort) → Adds old.symbols new.symbols (fresh_constant to s) → new.trees ≡ old.trees → new.sorts ≡ old.sorts → t ≡ after_draw s → Gains old new s t
gains-draw old new s t to added trees sorts left = subst (Gains old new s) (sym left) (record {
  grows = record {
    trees = grows-same old.trees new.trees trees;
    symbols = grows-added old.symbols new.symbols (fresh_constant to s) added;
    sorts = grows-same old.sorts new.sorts sorts;
  };
  sorts = sorts;
  later = draw-later s;
  drawn = drawn-gained s old.symbols new.symbols to added;
})
