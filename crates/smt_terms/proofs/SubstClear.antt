-- Substitution keeps names clear: a bound name that an image mentions is renamed, and so nothing is captured.
use Rattle.std.proofs.Common.{◌≡◌, ◌≢◌, ◌∙◌, sym, ap, subst as carry, refl, Bool, true, false, not, cond, ◌&&◌, ◌||◌, List, [], ◌∷◌, ◌++◌, map, append_assoc, Option, Some, None}
use Rattle.std.specs.Prelude.{⊤, reverse}
use Rattle.smt_terms.specs.declared.op.Op.TheVariants.{Whole, Neg}
use Rattle.smt_terms.specs.Equal.{name_eq, symbol_eq, term_eq}
use Rattle.smt_terms.specs.Free.{is_among, name_among, names_of, with_more, without, head_symbols, free, free_of}
use Rattle.smt_terms.specs.Fresh.{Supply, after_draw, fresh_for}
use Rattle.smt_terms.specs.Made.{minus, made}
use Rattle.smt_terms.specs.Rank.{has_name, are_distinct, are_bindable, sort_of, sorts_of}
use Rattle.smt_terms.specs.Shapes.{is_seen, is_head_seen, is_clear_below, are_clear_below}
use Rattle.smt_terms.specs.Sorts.{Name, Sort, bool, Symbol, Variable}
use Rattle.smt_terms.specs.Subst.{Map, image, cut_to, names_in, Renamed, bind, renaming, Chosen, Choices, map_eq, chosen_for, keep, kept_or, quantify, image_or_itself, subst_from, substs_from, subst}
use Rattle.smt_terms.specs.SubstLaws.{names_within, names_within_each, GivesNone, GivesNoImage, Later, ReplacesConstants, LeftFree, SubstHidesNothing, SubstKeepsClear}
use Rattle.smt_terms.specs.Term.{Quantifier, Head, op, symbol, const_array, Term, apply, quantified, Terms, none, ◌⨾◌, constant_of, variable}
use Rattle.smt_terms.proofs.Among.{is_among-with_more, is_among-without}
use Rattle.smt_terms.proofs.ClearTerms.{binds_name, reverse_front, unbound, clear_wider, seen_past, constants-reverse, free_seen, free_distinct}
use Rattle.smt_terms.proofs.Cuts.{image-cut, cut-spared, names-apart, keys-free, map-same}
use Rattle.smt_terms.proofs.Equal.{Decides-name_eq, name_itself, names_differ, symbol_itself, Decides-symbol_eq, Decides-term_eq}
use Rattle.smt_terms.proofs.Fresh.{never-next, never-after, never-drawn}
use Rattle.smt_terms.proofs.Renaming.{VariablesSpared, renaming-later, renaming-spared, spared-later, after-later, images-later, front-spared}
use Rattle.smt_terms.proofs.Runs.{ImagesApart, KeysFree, SymbolsSpared, fresh-unnamed, front-apart, front-keys, among-name}
use Rattle.smt_terms.proofs.Sorted.{applied, sorted, quantified_sort}
use Rattle.smt_terms.proofs.Substitution.{gives-left, gives-right, variables-spared, symbols-spared}
use Rattle.smt_terms.proofs.SubstFree.{applied-none, cut-constants, renaming-constants, subst-leaves_free}
use Rattle.smt_terms.proofs.Tests.{and_true, both_true, both_false, or_false, left_true, right_true, not_true, contrary}

-- ---- what takes a symbol's place is clear where it comes to stand

abbrev pub placed : Option Term → List Variable → Symbol → Bool
placed None ws g = is_seen ws g
placed (Some u) ws g = is_clear_below ws u

abbrev pub Placed : Map → List Variable → List Symbol → Type 0
Placed f ws fs = (g : Symbol) → is_among fs g ≡ true → placed (image f g) ws g ≡ true

-- ---- names of their own

-- a symbol of a variable's name is that variable
abbrev OwnNames : List Symbol → List Variable → Type 0
OwnNames fs [] = ⊤
OwnNames fs (x ∷ xs) = ((g : Symbol) → is_among fs g ≡ true → x.name ≡ g.name → constant_of x ≡ g) × OwnNames fs xs

unnamed_variables : (xs : List Variable) (n : Name) → has_name n (map (λ x. x.name) xs) ≡ false → binds_name xs n ≡ false
unnamed_variables [] n h = refl
unnamed_variables (x ∷ xs) n h =
    let parts = both_false (name_eq n x.name) (has_name n (map (λ y. y.name) xs)) h in
    or_false (name_eq x.name n) (binds_name xs n) (names_differ x.name n (λ e. absurd (contrary {A = ⊥} (name_eq n x.name) (ap (λ k. name_eq n k) e ∙ name_itself n) parts.0))) (unnamed_variables xs n parts.1)

reversed : (x : Variable) (xs zs : List Variable) → reverse (x ∷ xs) ++ zs ≡ reverse xs ++ x ∷ zs
reversed x xs zs = ap (λ ws. ws ++ zs) (reverse_front x xs) ∙ append_assoc (reverse xs) (x ∷ []) zs

constants-reversed : (xs : List Variable) (g : Symbol) → is_among (map constant_of xs) g ≡ false → is_among (map constant_of (reverse xs)) g ≡ false
constants-reversed xs g h = constants-reverse xs g ∙ h

seen_front : (x : Variable) (zs : List Variable) (g : Symbol) → is_seen (x ∷ zs) g ≡ true → x.name ≡ g.name → constant_of x ≡ g
seen_front x zs g seen same = (Decides-symbol_eq (constant_of x) g).0 (go (name_eq x.name g.name) ((Decides-name_eq x.name g.name).1 same) seen)
  where
    go : (b : Bool) → b ≡ true → elim b as (λ _. Bool) [ true ↦ symbol_eq (constant_of x) g | false ↦ is_seen zs g ] ≡ true → symbol_eq (constant_of x) g ≡ true
    go true e h = h
    go false e h = absurd cc

own_names : (fs : List Symbol) (xs zs : List Variable) → are_distinct (map (λ x. x.name) xs) ≡ true → ((g : Symbol) → is_among fs g ≡ true → is_seen (reverse xs ++ zs) g ≡ true) → OwnNames fs xs
own_names fs [] zs distinct seen = tt
own_names fs (x ∷ xs) zs distinct seen =
    let parts = both_true (not (has_name x.name (map (λ y. y.name) xs))) (are_distinct (map (λ y. y.name) xs)) distinct in
    let moved : (g : Symbol) → is_among fs g ≡ true → is_seen (reverse xs ++ x ∷ zs) g ≡ true = λ g among. ap (λ ws. is_seen ws g) (sym (reversed x xs zs)) ∙ seen g among in (
      λ g among same. seen_front x zs g (seen_past (reverse xs) (x ∷ zs) g (moved g among) (constants-reversed xs g (unbound xs g (ap (binds_name xs) (sym same) ∙ unnamed_variables xs x.name (not_true (has_name x.name (map (λ y. y.name) xs)) parts.0))))) same,
      own_names fs xs (x ∷ zs) parts.1 moved,
    )

-- ---- one variable more

-- a variable of another name in front
seen_behind : (y : Variable) (ws : List Variable) (g : Symbol) → y.name ≢ g.name → is_seen ws g ≡ true → is_seen (y ∷ ws) g ≡ true
seen_behind y ws g apart seen = go (name_eq y.name g.name) (names_differ y.name g.name apart)
  where
    go : (b : Bool) → b ≡ false → elim b as (λ _. Bool) [ true ↦ symbol_eq (constant_of y) g | false ↦ is_seen ws g ] ≡ true
    go true e = absurd cc
    go false e = seen

placed_behind : (o : Option Term) (y : Variable) (ws : List Variable) (g : Symbol) → (o ≡ None → y.name ≢ g.name) → ((u : Term) → o ≡ Some u → (n : Name) → name_among (names_of (free u)) n ≡ true → y.name ≢ n) → placed o ws g ≡ true → placed o (y ∷ ws) g ≡ true
placed_behind None y ws g other images h = seen_behind y ws g (other refl) h
placed_behind (Some u) y ws g other images h = clear_wider u [] ws (y ∷ ws) h (λ k among unbound_name seen. seen_behind y ws k (images u refl k.name (among-name (free u) k among)) seen)

itself_seen : (y : Variable) (ws : List Variable) → is_seen (y ∷ ws) (constant_of y) ≡ true
itself_seen y ws = go (name_eq y.name y.name) (name_itself y.name)
  where
    go : (b : Bool) → b ≡ true → elim b as (λ _. Bool) [ true ↦ symbol_eq (constant_of y) (constant_of y) | false ↦ is_seen ws (constant_of y) ] ≡ true
    go true e = symbol_itself (constant_of y)
    go false e = absurd cc

record Around (c : List Name) (fs : List Symbol) (xs : List Variable) (f : Map) (s : Supply) (ws : List Variable) : Type 0 where
  places : (g : Symbol) → is_among fs g ≡ true → is_among (map constant_of xs) g ≡ false → placed (image f g) ws g ≡ true
  own : OwnNames fs xs
  apart : ImagesApart c xs f
  keys : KeysFree c f xs
  variables : VariablesSpared s xs
  images : GivesNoImage s f
  symbols : SymbolsSpared s fs

around_fresh : (c : List Name) (fs : List Symbol) (x : Variable) (xs : List Variable) (f : Map) (s : Supply) (ws : List Variable) → name_among c x.name ≡ true → Around c fs (x ∷ xs) f s ws → Around c fs xs ((constant_of x, variable (fresh_for x s)) ∷ f) (after_draw s) (fresh_for x s ∷ ws)
around_fresh c fs x xs f s ws captured a = record {
  places = λ g among outside. go g among outside (symbol_eq (constant_of x) g) refl;
  own = a.own.1;
  apart = front-apart c x (fresh_for x s) xs f (fresh-unnamed c s xs a.variables.1) a.apart;
  keys = front-keys c x (variable (fresh_for x s)) xs f captured a.keys.1;
  variables = spared-later s (after_draw s) xs (after-later s) a.variables.1;
  images = front-spared (after_draw s) x (fresh_for x s) f (never-drawn s) (images-later s (after_draw s) f (after-later s) a.images);
  symbols = λ g among. never-after s g.name (a.symbols g among);
}
  where
    go : (g : Symbol) → is_among fs g ≡ true → is_among (map constant_of xs) g ≡ false → (b : Bool) → symbol_eq (constant_of x) g ≡ b → placed (cond b (Some (variable (fresh_for x s))) (image f g)) (fresh_for x s ∷ ws) g ≡ true
    go g among outside true e = and_true (is_seen (fresh_for x s ∷ ws) (constant_of (fresh_for x s))) true (itself_seen (fresh_for x s) ws) refl
    go g among outside false e =
        placed_behind (image f g) (fresh_for x s) ws g
        (λ none_there same. never-next s g.name (a.symbols g among) (sym same))
        (λ u found n there same. never-next s n (a.images g u found n there) (sym same))
        (a.places g among (or_false (symbol_eq (constant_of x) g) (is_among (map constant_of xs) g) e outside))

around_kept : (c : List Name) (fs : List Symbol) (x : Variable) (xs : List Variable) (f : Map) (s : Supply) (ws : List Variable) → name_among c x.name ≡ false → Around c fs (x ∷ xs) f s ws → Around c fs xs f s (x ∷ ws)
around_kept c fs x xs f s ws kept a = record {
  places = λ g among outside. go g among outside (symbol_eq (constant_of x) g) refl;
  own = a.own.1;
  apart = λ g u found n among. (a.apart g u found n among).1;
  keys = a.keys.1;
  variables = a.variables.1;
  images = a.images;
  symbols = a.symbols;
}
  where
    go : (g : Symbol) → is_among fs g ≡ true → is_among (map constant_of xs) g ≡ false → (b : Bool) → symbol_eq (constant_of x) g ≡ b → placed (image f g) (x ∷ ws) g ≡ true
    go g among outside true e =
        carry (λ k. placed (image f k) (x ∷ ws) k ≡ true) ((Decides-symbol_eq (constant_of x) g).0 e)
        (ap (λ o. placed o (x ∷ ws) (constant_of x)) (a.keys.0 kept) ∙ itself_seen x ws)
    go g among outside false e =
        placed_behind (image f g) x ws g
        (λ none_there same. contrary (symbol_eq (constant_of x) g) ((Decides-symbol_eq (constant_of x) g).1 (a.own.0 g among same)) e)
        (λ u found n there. (a.apart g u found n there).0 kept)
        (a.places g among (or_false (symbol_eq (constant_of x) g) (is_among (map constant_of xs) g) e outside))

abbrev AllPlaced : List Symbol → List Variable → Renamed → Type 0
AllPlaced fs ws r = (g : Symbol) → is_among fs g ≡ true → placed (image r.map g) (reverse r.variables ++ ws) g ≡ true

bind_placed : (b : Bool) (c : List Name) (fs : List Symbol) (x : Variable) (xs : List Variable) (f : Map) (s : Supply) (ws : List Variable) → name_among c x.name ≡ b → Around c fs (x ∷ xs) f s ws → ((g : Map) (t : Supply) (vs : List Variable) → Around c fs xs g t vs → AllPlaced fs vs (renaming c xs g t)) → AllPlaced fs ws (bind b x f s (λ g t. renaming c xs g t))
bind_placed true c fs x xs f s ws is a below g among =
    let f' : Map = (constant_of x, variable (fresh_for x s)) ∷ f in
    ap (λ vs. placed (image (renaming c xs f' (after_draw s)).map g) vs g) (reversed (fresh_for x s) (renaming c xs f' (after_draw s)).variables ws)
    ∙ below f' (after_draw s) (fresh_for x s ∷ ws) (around_fresh c fs x xs f s ws is a) g among
bind_placed false c fs x xs f s ws is a below g among =
    ap (λ vs. placed (image (renaming c xs f s).map g) vs g) (reversed x (renaming c xs f s).variables ws)
    ∙ below f s (x ∷ ws) (around_kept c fs x xs f s ws is a) g among

renamed_placed : (c : List Name) (fs : List Symbol) (xs : List Variable) (f : Map) (s : Supply) (ws : List Variable) → Around c fs xs f s ws → AllPlaced fs ws (renaming c xs f s)
renamed_placed c fs [] f s ws a g among = a.places g among refl
renamed_placed c fs (x ∷ xs) f s ws a g among = bind_placed (name_among c x.name) c fs x xs f s ws refl a (λ h t vs b. renamed_placed c fs xs h t vs b) g among

-- ---- results that are kept

KeptClear : List Chosen → Type 0
KeptClear [] = ⊤
KeptClear (c ∷ cs) = ((ws : List Variable) → Placed c.cut ws (free c.term) → is_clear_below ws c.result ≡ true) × KeptClear cs

chosen_clear : (cs : List Chosen) (f : Map) (t r : Term) → KeptClear cs → chosen_for cs f t ≡ Some r → (ws : List Variable) → Placed f ws (free t) → is_clear_below ws r ≡ true
unfolding KeptClear
chosen_clear [] f t r kept found ws places = absurd cc
chosen_clear (c ∷ cs) f t r kept found ws places = go (map_eq c.cut f && term_eq c.term t) refl found (λ e. chosen_clear cs f t r kept.1 e ws places)
  where
    go : (b : Bool) → (map_eq c.cut f && term_eq c.term t) ≡ b → cond b (Some c.result) (chosen_for cs f t) ≡ Some r → (chosen_for cs f t ≡ Some r → is_clear_below ws r ≡ true) → is_clear_below ws r ≡ true
    go true e h below =
        let parts = both_true (map_eq c.cut f) (term_eq c.term t) e in
        let cut : c.cut ≡ f = map-same c.cut f parts.0 in
        let term : c.term ≡ t = (Decides-term_eq c.term t).0 parts.1 in
        let result : c.result ≡ r = cc in
        let there : Placed c.cut ws (free c.term) = carry (λ g. Placed g ws (free c.term)) (sym cut) (carry (λ u. Placed f ws (free u)) (sym term) places) in
        ap (is_clear_below ws) (sym result) ∙ kept.0 ws there
    go false e h below = below h

-- ---- what is known at a start and at an end

record Start (f : Map) (ns : List Name) (s : Choices) : Type 0 where
  images : GivesNoImage s.names f
  names : GivesNone s.names ns
  constants : ReplacesConstants f
  kept : KeptClear s.chosen

record End (f : Map) (fs : List Symbol) (s : Choices) (r : Term × Choices) : Type 0 where
  clear : (ws : List Variable) → Placed f ws fs → is_clear_below ws r.0 ≡ true
  kept : KeptClear r.1.chosen
  later : Later s.names r.1.names

record AllEnd (f : Map) (fs : List Symbol) (s : Choices) (r : Terms × Choices) : Type 0 where
  clear : (ws : List Variable) → Placed f ws fs → are_clear_below ws r.0 ≡ true
  kept : KeptClear r.1.chosen
  later : Later s.names r.1.names

placed_left : (f : Map) (ws : List Variable) (fs gs : List Symbol) → Placed f ws (with_more fs gs) → Placed f ws fs
placed_left f ws fs gs places g among = places g (is_among-with_more fs gs g ∙ left_true (is_among fs g) (is_among gs g) among)

placed_right : (f : Map) (ws : List Variable) (fs gs : List Symbol) → Placed f ws (with_more fs gs) → Placed f ws gs
placed_right f ws fs gs places g among = places g (is_among-with_more fs gs g ∙ right_true (is_among fs g) (is_among gs g) among)

-- ---- applied heads

minus_clear : (ws : List Variable) (t : Term) → is_clear_below ws t ≡ true → is_clear_below ws (minus t) ≡ true
minus_clear ws (apply (op (Whole n)) none) clear = refl
minus_clear ws t clear = and_true (is_clear_below ws t) true clear refl

pub made_clear : (ws : List Variable) (h : Head) (us : Terms) → is_head_seen ws h ≡ true → are_clear_below ws us ≡ true → is_clear_below ws (made h us) ≡ true
made_clear ws (op Neg) (t ⨾ none) seen clear = minus_clear ws t (both_true (is_clear_below ws t) true clear).0
made_clear ws h us seen clear = and_true (is_head_seen ws h) (are_clear_below ws us) seen clear

constant_clear : (f : Map) (ws : List Variable) (g : Symbol) (o : Option Term) → placed o ws g ≡ true → is_clear_below ws (image_or_itself o g) ≡ true
constant_clear f ws g (Some u) h = h
constant_clear f ws g None h = and_true (is_seen ws g) true h refl

-- ---- quantified terms

cut_placed : (f : Map) (ws : List Variable) (fs : List Symbol) → Placed f ws fs → Placed (cut_to fs f) ws fs
cut_placed f ws fs places g among = ap (λ o. placed o ws g) (image-cut fs f g ∙ ap (λ b. cond b (image f g) None) among) ∙ places g among

distinct_of : (xs : List Variable) → are_bindable xs ≡ true → are_distinct (map (λ x. x.name) xs) ≡ true
distinct_of [] h = absurd cc
distinct_of (x ∷ xs) h = (both_true (are_distinct (map (λ y. y.name) (x ∷ xs))) _ h).0

body_clear : (xs : List Variable) (body : Term) → is_clear_below (reverse xs ++ []) body ≡ true → is_clear_below [] body ≡ true
body_clear xs body clear = clear_wider body [] (reverse xs ++ []) [] clear (λ g among unbound_name seen. refl)

kept_end : (f : Map) (q : Quantifier) (xs : List Variable) (body : Term) (s : Choices) → Start f (names_within (quantified q xs body)) s → are_bindable xs ≡ true → is_clear_below (reverse xs ++ []) body ≡ true
    → ((g : Map) (t : Choices) → Start g (names_within body) t → End g (free body) t (subst_from g body t))
    → (o : Option Term) → chosen_for s.chosen (cut_to (without xs (free body)) f) (quantified q xs body) ≡ o
    → End f (free (quantified q xs body)) s (kept_or o s λ s'. keep (cut_to (without xs (free body)) f) (quantified q xs body) (quantify q (renaming (names_in (cut_to (without xs (free body)) f)) xs (cut_to (without xs (free body)) f) s'.names) s'.chosen (λ m' s''. subst_from m' body s'')))
unfolding KeptClear
kept_end f q xs body s start bindable clear below (Some r) found = record {
  clear = λ ws places. chosen_clear s.chosen (cut_to (without xs (free body)) f) (quantified q xs body) r start.kept found ws (cut_placed f ws (without xs (free body)) places);
  kept = start.kept;
  later = λ n never. never;
}
kept_end f q xs body s start bindable clear below None found =
    let cut : Map = cut_to (without xs (free body)) f in
    let c : List Name = names_in cut in
    let t : Choices = record { names = (renaming c xs cut s.names).names; chosen = s.chosen } in
    let images : GivesNoImage s.names cut = cut-spared s.names (without xs (free body)) f start.images in
    let later : Later s.names t.names = renaming-later c xs cut s.names in
    let out : End (renaming c xs cut s.names).map (free body) t (subst_from (renaming c xs cut s.names).map body t) = below (renaming c xs cut s.names).map t (record {
      images = renaming-spared c xs cut s.names images;
      names = λ n among. later n (gives-right s.names (map (λ x. x.name) xs) (names_within body) start.names n among);
      constants = renaming-constants c xs cut s.names (cut-constants (without xs (free body)) f start.constants);
      kept = start.kept;
    }) in
    let at_cut : (ws : List Variable) → Placed cut ws (without xs (free body)) → is_clear_below ws (quantified q (renaming c xs cut s.names).variables (subst_from (renaming c xs cut s.names).map body t).0) ≡ true = λ ws places.
    out.clear (reverse (renaming c xs cut s.names).variables ++ ws) (renamed_placed c (free body) xs cut s.names ws (record {
      places = λ g among outside. places g (is_among-without xs (free body) g ∙ and_true (is_among (free body) g) (not (is_among (map constant_of xs) g)) among (ap not outside));
      own = own_names (free body) xs [] (distinct_of xs bindable) (λ g among. free_seen body (reverse xs ++ []) g clear among);
      apart = names-apart xs cut;
      keys = keys-free c xs (free body) f;
      variables = variables-spared s.names xs (gives-left s.names (map (λ x. x.name) xs) (names_within body) start.names);
      images = images;
      symbols = symbols-spared s.names body (gives-right s.names (map (λ x. x.name) xs) (names_within body) start.names);
    })) in
    record {
      clear = λ ws places. at_cut ws (cut_placed f ws (without xs (free body)) places);
      kept = (at_cut, out.kept);
      later = λ n never. out.later n (later n never);
    }

-- ---- all terms

operands_start : (f : Map) (h : Head) (ts : Terms) (s : Choices) → Start f (names_within (apply h ts)) s → Start f (names_within_each ts) s
operands_start f h ts s start = record { images = start.images; names = gives-right s.names (names_of (head_symbols h)) (names_within_each ts) start.names; constants = start.constants; kept = start.kept }

mutual
  subst_end : (t : Term) (r : Sort) (f : Map) (s : Choices) → Start f (names_within t) s → sort_of t ≡ Some r → is_clear_below [] t ≡ true → End f (free t) s (subst_from f t s)
  subst_end (apply (symbol g) none) r f s start has clear = record {
    clear = λ ws places. constant_clear f ws g (image f g) (places g (left_true (symbol_eq g g) false (symbol_itself g)));
    kept = start.kept;
    later = λ n never. never;
  }
  subst_end (apply (symbol g) (t ⨾ ts)) r f s start has clear =
      let parts = applied (symbol g) (t ⨾ ts) r has in
      let out : AllEnd f (free_of (t ⨾ ts)) s (substs_from f (t ⨾ ts) s) = substs_end (t ⨾ ts) parts.sorts f s (operands_start f (symbol g) (t ⨾ ts) s start) parts.operands (both_true (is_seen [] g) (are_clear_below [] (t ⨾ ts)) clear).1 in
      record {
        clear = λ ws places. and_true (is_seen ws g) (are_clear_below ws (substs_from f (t ⨾ ts) s).0)
            (ap (λ o. placed o ws g) (sym (applied-none f g t ts r start.constants has)) ∙ places g (is_among-with_more (g ∷ []) (free_of (t ⨾ ts)) g ∙ left_true (symbol_eq g g || false) (is_among (free_of (t ⨾ ts)) g) (left_true (symbol_eq g g) false (symbol_itself g))))
            (out.clear ws (placed_right f ws (g ∷ []) (free_of (t ⨾ ts)) places));
        kept = out.kept;
        later = out.later;
      }
  subst_end (apply (op o) ts) r f s start has clear =
      let parts = applied (op o) ts r has in
      let out : AllEnd f (free_of ts) s (substs_from f ts s) = substs_end ts parts.sorts f s (operands_start f (op o) ts s start) parts.operands (both_true true (are_clear_below [] ts) clear).1 in
      record { clear = λ ws places. made_clear ws (op o) (substs_from f ts s).0 refl (out.clear ws (placed_right f ws [] (free_of ts) places)); kept = out.kept; later = out.later }
  subst_end (apply (const_array k) ts) r f s start has clear =
      let parts = applied (const_array k) ts r has in
      let out : AllEnd f (free_of ts) s (substs_from f ts s) = substs_end ts parts.sorts f s (operands_start f (const_array k) ts s start) parts.operands (both_true true (are_clear_below [] ts) clear).1 in
      record { clear = λ ws places. made_clear ws (const_array k) (substs_from f ts s).0 refl (out.clear ws (placed_right f ws [] (free_of ts) places)); kept = out.kept; later = out.later }
  subst_end (quantified q xs body) r f s start has clear =
      let parts = quantified_sort q xs body r has in
      kept_end f q xs body s start parts.bindable clear (λ g t st. subst_end body bool g t st parts.body (body_clear xs body clear)) (chosen_for s.chosen (cut_to (without xs (free body)) f) (quantified q xs body)) refl

  substs_end : (ts : Terms) (ss : List Sort) (f : Map) (s : Choices) → Start f (names_within_each ts) s → sorts_of ts ≡ Some ss → are_clear_below [] ts ≡ true → AllEnd f (free_of ts) s (substs_from f ts s)
  substs_end none ss f s start has clear = record { clear = λ ws places. refl; kept = start.kept; later = λ n never. never }
  substs_end (t ⨾ ts) ss f s start has clear =
      let parts = sorted t ts ss has in
      let clears = both_true (is_clear_below [] t) (are_clear_below [] ts) clear in
      let first : End f (free t) s (subst_from f t s) = subst_end t parts.sort f s (record { images = start.images; names = gives-left s.names (names_within t) (names_within_each ts) start.names; constants = start.constants; kept = start.kept }) parts.first clears.0 in
      let rest : AllEnd f (free_of ts) (subst_from f t s).1 (substs_from f ts (subst_from f t s).1) = substs_end ts parts.sorts f (subst_from f t s).1 (record {
        images = λ g u found n among. first.later n (start.images g u found n among);
        names = λ n among. first.later n (gives-right s.names (names_within t) (names_within_each ts) start.names n among);
        constants = start.constants;
        kept = first.kept;
      }) parts.others clears.1 in
      record {
        clear = λ ws places. and_true (is_clear_below ws (subst_from f t s).0) (are_clear_below ws (substs_from f ts (subst_from f t s).1).0)
            (first.clear ws (placed_left f ws (free t) (free_of ts) places)) (rest.clear ws (placed_right f ws (free t) (free_of ts) places));
        kept = rest.kept;
        later = λ n never. rest.later n (first.later n never);
      }

-- ---- the law

pub subst-hides_nothing : SubstHidesNothing
unfolding KeptClear
subst-hides_nothing f t s r has constants images names clear fine =
    (subst_end t r f (record { names = s; chosen = [] }) (record { images = images; names = names; constants = constants; kept = tt }) has clear).clear [] (λ g among. at_place g (image f g) refl)
  where
    at_place : (g : Symbol) (o : Option Term) → image f g ≡ o → placed o [] g ≡ true
    at_place g None found = refl
    at_place g (Some u) found = fine g u found

pub subst-keeps_clear : SubstKeepsClear
subst-keeps_clear f t s r has constants images names clear fine apart =
    let left : (g : Symbol) → is_among (free (subst f t s).0) g ≡ true → LeftFree f (free t) g = subst-leaves_free f t s r has constants in
    and_true (is_clear_below [] (subst f t s).0) (are_distinct (names_of (free (subst f t s).0)))
    (subst-hides_nothing f t s r has constants images names (both_true (is_clear_below [] t) (are_distinct (names_of (free t))) clear).0 (λ g u found. (both_true (is_clear_below [] u) (are_distinct (names_of (free u))) (fine g u found)).0))
    (free_distinct (free (subst f t s).0) (subst f t s).0 (λ g h a b same. apart g h (left g a) (left h b) same) (λ g among. among))
