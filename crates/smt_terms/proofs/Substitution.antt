-- The law of substitution: what substitution makes of a well-sorted term has its sort, and has the value that the term has
-- where each replaced constant has the value of its image.
use Rattle.std.proofs.Common.{◌≡◌, Bool, true, false, not, cond, ◌&&◌, ◌||◌, List, [], ◌∷◌, ◌++◌, map, Option, Some, None, refl, ap, sym, ◌∙◌, subst as carry}
use Rattle.std.specs.Prelude.{⊤, unwrap_or}
use Rattle.smt_terms.specs.Sorts.{Name, Sort, bool, Symbol, Variable}
use Rattle.smt_terms.specs.Term.{Quantifier, Head, op, symbol, const_array, Term, apply, quantified, Terms, none, ◌⨾◌, constant_of, constant}
use Rattle.smt_terms.specs.Equal.{name_eq, term_eq}
use Rattle.smt_terms.specs.Free.{is_among, name_among, names_of, without, head_symbols, free, free_of}
use Rattle.smt_terms.specs.Rank.{sorts_of, sort_over, with_sort, are_bindable}
use Rattle.smt_terms.specs.Values.{is_true, truth}
use Rattle.smt_terms.specs.Models.{Model, symbol_value}
use Rattle.smt_terms.specs.Val.{Env, runs, head_value, val, vals}
use Rattle.smt_terms.specs.Fresh.{Supply}
use Rattle.smt_terms.specs.Made.{made}
use Rattle.smt_terms.specs.Subst.{Map, image, cut_to, names_in, renaming, Chosen, Choices, map_eq, chosen_for, keep, kept_or, quantify, image_or_itself, rebuilt, subst_from, substs_from}
use Rattle.smt_terms.specs.SubstLaws.{value_or, under, HaveSorts, names_within, names_within_each, GivesNone, GivesNoImage, IsResult, AreResults, Later, SubstKeepsMeaning, SubstGivesLater}
use Rattle.smt_terms.proofs.Tests.{both_true, left_true, right_true}
use Rattle.smt_terms.proofs.Equal.{Decides-name_eq, Decides-term_eq}
use Rattle.smt_terms.proofs.Among.{is_among-with_more, is_among-without}
use Rattle.smt_terms.proofs.Agree.{val_same}
use Rattle.smt_terms.proofs.Sorted.{sorted, quantified_sort, sort_of-quantified}
use Rattle.smt_terms.proofs.Made.{made-sort, made-value}
use Rattle.smt_terms.proofs.Renaming.{VariablesSpared, renaming-later, renaming-sorts, renaming-spared, renaming-bindable}
use Rattle.smt_terms.proofs.Runs.{SymbolsSpared, among-name, renaming-runs}
use Rattle.smt_terms.proofs.Cuts.{name_among-append, image-cut, cut-sorts, cut-spared, names-apart, keys-free, map-same}

-- ---- the names of a term

pub gives-left : (s : Supply) (ms ns : List Name) → GivesNone s (ms ++ ns) → GivesNone s ms
gives-left s ms ns given n among = given n (name_among-append ms ns n ∙ left_true (name_among ms n) (name_among ns n) among)

pub gives-right : (s : Supply) (ms ns : List Name) → GivesNone s (ms ++ ns) → GivesNone s ns
gives-right s ms ns given n among = given n (name_among-append ms ns n ∙ right_true (name_among ms n) (name_among ns n) among)

pub variables-spared : (s : Supply) (xs : List Variable) → GivesNone s (map (λ x. x.name) xs) → VariablesSpared s xs
variables-spared s [] given = tt
variables-spared s (x ∷ xs) given = (
  given x.name (left_true (name_eq x.name x.name) (name_among (map (λ y. y.name) xs) x.name) ((Decides-name_eq x.name x.name).1 refl)),
  variables-spared s xs (λ n among. given n (right_true (name_eq x.name n) (name_among (map (λ y. y.name) xs) n) among)),
)

or-else : (a b c d : Bool) → (a || b) ≡ true → (a ≡ true → c ≡ true) → (b ≡ true → d ≡ true) → (c || d) ≡ true
or-else true b c d h f g = left_true c d (f refl)
or-else false b c d h f g = right_true c d (g h)

mutual
  free-named : (t : Term) (g : Symbol) → is_among (free t) g ≡ true → name_among (names_within t) g.name ≡ true
  free-named (apply h ts) g among =
      name_among-append (names_of (head_symbols h)) (names_within_each ts) g.name
      ∙ or-else (is_among (head_symbols h) g) (is_among (free_of ts) g) (name_among (names_of (head_symbols h)) g.name) (name_among (names_within_each ts) g.name)
      (sym (is_among-with_more (head_symbols h) (free_of ts) g) ∙ among) (among-name (head_symbols h) g) (free-named-each ts g)
  free-named (quantified q xs body) g among =
      name_among-append (map (λ x. x.name) xs) (names_within body) g.name
      ∙ right_true (name_among (map (λ x. x.name) xs) g.name) (name_among (names_within body) g.name)
      (free-named body g (both_true (is_among (free body) g) (not (is_among (map constant_of xs) g)) (sym (is_among-without xs (free body) g) ∙ among)).0)

  free-named-each : (ts : Terms) (g : Symbol) → is_among (free_of ts) g ≡ true → name_among (names_within_each ts) g.name ≡ true
  free-named-each none g among = among
  free-named-each (t ⨾ ts) g among =
      name_among-append (names_within t) (names_within_each ts) g.name
      ∙ or-else (is_among (free t) g) (is_among (free_of ts) g) (name_among (names_within t) g.name) (name_among (names_within_each ts) g.name)
      (sym (is_among-with_more (free t) (free_of ts) g) ∙ among) (free-named t g) (free-named-each ts g)

pub symbols-spared : (s : Supply) (t : Term) → GivesNone s (names_within t) → SymbolsSpared s (free t)
symbols-spared s t given g among = given g.name (free-named t g among)

-- ---- results that are kept

abbrev pub Valid : List Chosen → Type 0
Valid [] = ⊤
Valid (c ∷ cs) = IsResult c.cut c.term c.result × Valid cs

chosen-result : (cs : List Chosen) (f : Map) (t r : Term) → Valid cs → chosen_for cs f t ≡ Some r → IsResult f t r
chosen-result [] f t r valid found = absurd cc
chosen-result (c ∷ cs) f t r valid found = go (map_eq c.cut f && term_eq c.term t) refl found (chosen-result cs f t r valid.1)
  where
    go : (b : Bool) → (map_eq c.cut f && term_eq c.term t) ≡ b → cond b (Some c.result) (chosen_for cs f t) ≡ Some r → (chosen_for cs f t ≡ Some r → IsResult f t r) → IsResult f t r
    go true e h below =
        let parts = both_true (map_eq c.cut f) (term_eq c.term t) e in
        let cut : c.cut ≡ f = map-same c.cut f parts.0 in
        let term : c.term ≡ t = (Decides-term_eq c.term t).0 parts.1 in
        let result : c.result ≡ r = cc in
        carry (λ g. IsResult g t r) cut (carry (λ u. IsResult c.cut u r) term (carry (λ u. IsResult c.cut c.term u) result valid.0))
    go false e h below = below h

-- a result for the cut map is one for the map
uncut : (f : Map) (t r : Term) → IsResult (cut_to (free t) f) t r → IsResult f t r
uncut f t r result s has =
    let told = result s has in
    (told.0, λ m e. told.1 m e ∙ val_same t m (under m (cut_to (free t) f) e) (under m f e) (λ g among. ap (λ o. value_or m o e g) (image-cut (free t) f g ∙ ap (λ b. cond b (image f g) None) among)))

-- ---- what is known at a start and at an end

pub record Start (f : Map) (ns : List Name) (s : Choices) : Type 0 where
  pub sorts : HaveSorts f
  pub images : GivesNoImage s.names f
  pub names : GivesNone s.names ns
  pub valid : Valid s.chosen

pub record Outcome (f : Map) (t : Term) (s : Choices) (r : Term × Choices) : Type 0 where
  pub result : IsResult f t r.0
  pub valid : Valid r.1.chosen
  pub later : Later s.names r.1.names

abbrev is_none : Terms → Bool
is_none none = true
is_none (t ⨾ ts) = false

record Outcomes (f : Map) (ts : Terms) (s : Choices) (r : Terms × Choices) : Type 0 where
  results : AreResults f ts r.0
  shape : is_none r.0 ≡ is_none ts
  valid : Valid r.1.chosen
  later : Later s.names r.1.names

-- ---- applied heads

-- a constant itself or its image
constant-result : (f : Map) (g : Symbol) (o : Option Term) → HaveSorts f → image f g ≡ o → IsResult f (constant g) (image_or_itself o g)
constant-result f g None have e s has = (has, λ m d. ap (λ o. unwrap_or (value_or m o d g) (symbol_value m g [])) (sym e))
constant-result f g (Some u) have e s has = (have g u e ∙ has, λ m d. ap (λ o. unwrap_or (value_or m o d g) (symbol_value m g [])) (sym e))

some_sorts : (h : Head) (o : Option (List Sort)) (s : Sort) → sort_over h o ≡ Some s → (ss : List Sort) × (o ≡ Some ss)
some_sorts h None s e = absurd cc
some_sorts h (Some ss) s e = (ss, refl)

over-results : (f : Map) (h : Head) (ts us : Terms) → ((m : Model) (d e : Env) (ss : List Sort) → head_value m d h ss (vals m ts e) ≡ head_value m e h ss (vals m ts e)) → AreResults f ts us → IsResult f (apply h ts) (made h us)
over-results f h ts us fixed results s has =
    let found = some_sorts h (sorts_of ts) s has in
    let told = results found.0 found.1 in
    let sorts : sorts_of us ≡ sorts_of ts = told.0 ∙ sym found.1 in
    (made-sort h us ∙ ap (sort_over h) sorts ∙ has, λ m e. made-value m h us e ∙ ap (λ o. head_value m e h (unwrap_or o []) (vals m us e)) sorts ∙ ap (head_value m e h (unwrap_or (sorts_of ts) [])) (told.1 m e) ∙ fixed m e (under m f e) (unwrap_or (sorts_of ts) []))

rebuilt-result : (f : Map) (h : Head) (ts us : Terms) → HaveSorts f → is_none us ≡ is_none ts → AreResults f ts us → IsResult f (apply h ts) (rebuilt f h us)
rebuilt-result f (symbol g) none none have shape results = constant-result f g (image f g) have refl
rebuilt-result f (symbol g) (t ⨾ ts) (u ⨾ us) have shape results = over-results f (symbol g) (t ⨾ ts) (u ⨾ us) (λ m d e ss. refl) results
rebuilt-result f (symbol g) none (u ⨾ us) have shape results = absurd cc
rebuilt-result f (symbol g) (t ⨾ ts) none have shape results = absurd cc
rebuilt-result f (op o) ts us have shape results = over-results f (op o) ts us (λ m d e ss. refl) results
rebuilt-result f (const_array s) ts us have shape results = over-results f (const_array s) ts us (λ m d e ss. refl) results

both-results : (f : Map) (t : Term) (ts : Terms) (u : Term) (us : Terms) → IsResult f t u → AreResults f ts us → AreResults f (t ⨾ ts) (u ⨾ us)
both-results f t ts u us first rest ss has =
    let parts = sorted t ts ss has in
    let one = first parts.sort parts.first in
    let others = rest parts.sorts parts.others in
    (ap (λ o. with_sort o (sorts_of us)) one.0 ∙ ap (with_sort (Some parts.sort)) others.0 ∙ ap Some (sym parts.all), λ m e i. one.1 m e i ∷ others.1 m e i)

-- ---- quantified terms

quantified-result : (f : Map) (q : Quantifier) (xs : List Variable) (body b : Term) (s : Supply) → GivesNoImage s f → GivesNone s (names_within (quantified q xs body)) → IsResult (renaming (names_in (cut_to (without xs (free body)) f)) xs (cut_to (without xs (free body)) f) s).map body b → IsResult (cut_to (without xs (free body)) f) (quantified q xs body) (quantified q (renaming (names_in (cut_to (without xs (free body)) f)) xs (cut_to (without xs (free body)) f) s).variables b)
quantified-result f q xs body b s images names result sort has =
    let cut : Map = cut_to (without xs (free body)) f in
    let parts = quantified_sort q xs body sort has in
    let told = result bool parts.body in
    let variables : VariablesSpared s xs = variables-spared s xs (gives-left s (map (λ x. x.name) xs) (names_within body) names) in
    let bindable : are_bindable (renaming (names_in cut) xs cut s).variables ≡ true = renaming-bindable (names_in cut) xs cut s parts.bindable variables in
    let symbols : SymbolsSpared s (free body) = symbols-spared s body (gives-right s (map (λ x. x.name) xs) (names_within body) names) in (
      sort_of-quantified q (renaming (names_in cut) xs cut s).variables b bindable told.0 ∙ ap Some (sym parts.sort),
      λ m e. ap (λ (A : Env → Bool). truth (runs q (renaming (names_in cut) xs cut s).variables m.sizes A e)) (λ i k. is_true (told.1 m k i))
          ∙ ap truth (renaming-runs (names_in cut) xs cut s q m.sizes m (free body) (λ k. is_true (val m body k)) (λ d k same. ap is_true (val_same body m d k same)) e (under m cut e)
          (names-apart xs cut) (keys-free (names_in cut) xs (free body) f) variables (cut-spared s (without xs (free body)) f images) symbols (λ g among. refl)),
    )

-- a quantified term, by what was kept
kept-outcome : (f : Map) (q : Quantifier) (xs : List Variable) (body : Term) (s : Choices) → Start f (names_within (quantified q xs body)) s
    → ((g : Map) (t : Choices) → Start g (names_within body) t → Outcome g body t (subst_from g body t))
    → (o : Option Term) → chosen_for s.chosen (cut_to (without xs (free body)) f) (quantified q xs body) ≡ o
    → Outcome f (quantified q xs body) s (kept_or o s λ s'. keep (cut_to (without xs (free body)) f) (quantified q xs body) (quantify q (renaming (names_in (cut_to (without xs (free body)) f)) xs (cut_to (without xs (free body)) f) s'.names) s'.chosen (λ m' s''. subst_from m' body s'')))
kept-outcome f q xs body s start below (Some r) found = record {
  result = uncut f (quantified q xs body) r (chosen-result s.chosen (cut_to (without xs (free body)) f) (quantified q xs body) r start.valid found);
  valid = start.valid;
  later = λ n never. never;
}
kept-outcome f q xs body s start below None found =
    let cut : Map = cut_to (without xs (free body)) f in
    let c : List Name = names_in cut in
    let t : Choices = record { names = (renaming c xs cut s.names).names; chosen = s.chosen } in
    let spared : GivesNoImage s.names cut = cut-spared s.names (without xs (free body)) f start.images in
    let later : Later s.names t.names = renaming-later c xs cut s.names in
    let inner : Start (renaming c xs cut s.names).map (names_within body) t = record {
      sorts = renaming-sorts c xs cut s.names (cut-sorts (without xs (free body)) f start.sorts);
      images = renaming-spared c xs cut s.names spared;
      names = λ n among. later n (gives-right s.names (map (λ x. x.name) xs) (names_within body) start.names n among);
      valid = start.valid;
    } in
    let out : Outcome (renaming c xs cut s.names).map body t (subst_from (renaming c xs cut s.names).map body t) = below (renaming c xs cut s.names).map t inner in
    let result : IsResult cut (quantified q xs body) (quantified q (renaming c xs cut s.names).variables (subst_from (renaming c xs cut s.names).map body t).0) = quantified-result f q xs body (subst_from (renaming c xs cut s.names).map body t).0 s.names start.images start.names out.result in
    record {
      result = uncut f (quantified q xs body) (quantified q (renaming c xs cut s.names).variables (subst_from (renaming c xs cut s.names).map body t).0) result;
      valid = (result, out.valid);
      later = λ n never. out.later n (later n never);
    }

-- ---- all terms

mutual
  pub subst_from-outcome : (t : Term) (f : Map) (s : Choices) → Start f (names_within t) s → Outcome f t s (subst_from f t s)
  subst_from-outcome (apply h ts) f s start =
      let inner : Start f (names_within_each ts) s = record { sorts = start.sorts; images = start.images; names = gives-right s.names (names_of (head_symbols h)) (names_within_each ts) start.names; valid = start.valid } in
      let out : Outcomes f ts s (substs_from f ts s) = substs_from-outcomes ts f s inner in
      record { result = rebuilt-result f h ts (substs_from f ts s).0 start.sorts out.shape out.results; valid = out.valid; later = out.later }
  subst_from-outcome (quantified q xs body) f s start =
      kept-outcome f q xs body s start (λ g t st. subst_from-outcome body g t st) (chosen_for s.chosen (cut_to (without xs (free body)) f) (quantified q xs body)) refl

  substs_from-outcomes : (ts : Terms) (f : Map) (s : Choices) → Start f (names_within_each ts) s → Outcomes f ts s (substs_from f ts s)
  substs_from-outcomes none f s start = record { results = λ ss has. (has, λ m e. refl); shape = refl; valid = start.valid; later = λ n never. never }
  substs_from-outcomes (t ⨾ ts) f s start =
      let first : Outcome f t s (subst_from f t s) = subst_from-outcome t f s (record { sorts = start.sorts; images = start.images; names = gives-left s.names (names_within t) (names_within_each ts) start.names; valid = start.valid }) in
      let rest : Outcomes f ts (subst_from f t s).1 (substs_from f ts (subst_from f t s).1) = substs_from-outcomes ts f (subst_from f t s).1 (record { sorts = start.sorts; images = λ g u found n among. first.later n (start.images g u found n among); names = λ n among. first.later n (gives-right s.names (names_within t) (names_within_each ts) start.names n among); valid = first.valid }) in
      record {
        results = both-results f t ts (subst_from f t s).0 (substs_from f ts (subst_from f t s).1).0 first.result rest.results;
        shape = refl;
        valid = rest.valid;
        later = λ n never. rest.later n (first.later n never);
      }

-- ---- the law

started : (f : Map) (t : Term) (s : Supply) → HaveSorts f → GivesNoImage s f → GivesNone s (names_within t) → Start f (names_within t) (record { names = s; chosen = [] })
started f t s sorts images names = record { sorts = sorts; images = images; names = names; valid = tt }

pub subst-keeps_meaning : SubstKeepsMeaning
subst-keeps_meaning f t s sorts images names = (subst_from-outcome t f (record { names = s; chosen = [] }) (started f t s sorts images names)).result

pub subst-gives_later : SubstGivesLater
subst-gives_later f t s sorts images names = (subst_from-outcome t f (record { names = s; chosen = [] }) (started f t s sorts images names)).later
