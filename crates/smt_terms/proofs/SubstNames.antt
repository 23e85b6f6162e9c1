-- Substitution leaves no name that the rest of the supply could give.
use Rattle.std.proofs.Common.{◌≡◌, Bool, true, false, cond, ◌&&◌, ◌⊎◌, inl, inr, List, [], ◌∷◌, ◌++◌, map, Option, Some, None, refl, sym, ◌∙◌, subst as carry}
use Rattle.std.specs.Prelude.{⊤}
use Rattle.smt_terms.specs.declared.op.Op.TheVariants.{Whole, Neg}
use Rattle.smt_terms.specs.Sorts.{Name, Symbol, Variable}
use Rattle.smt_terms.specs.Term.{Quantifier, Head, op, symbol, const_array, Term, apply, quantified, Terms, none, ◌⨾◌, constant_of, constant, variable}
use Rattle.smt_terms.specs.Equal.{name_eq, symbol_eq, term_eq}
use Rattle.smt_terms.specs.Free.{name_among, names_of, without, head_symbols, free}
use Rattle.smt_terms.specs.Fresh.{Supply, next_name, after_draw, fresh_for, NeverGives}
use Rattle.smt_terms.specs.Made.{minus, made}
use Rattle.smt_terms.specs.Subst.{Map, image, cut_to, names_in, Renamed, bind, renaming, Chosen, Choices, map_eq, chosen_for, keep, kept_or, quantify, image_or_itself, rebuilt, subst_from, substs_from}
use Rattle.smt_terms.specs.SubstLaws.{names_within, names_within_each, GivesNone, Later, GivesNoNameIn, SubstSparesNames}
use Rattle.smt_terms.proofs.Tests.{left_true, right_true, either_true}
use Rattle.smt_terms.proofs.Equal.{Decides-name_eq}
use Rattle.smt_terms.proofs.Fresh.{never-drawn}
use Rattle.smt_terms.proofs.Renaming.{renaming-later, after-later}
use Rattle.smt_terms.proofs.Cuts.{name_among-append, cut-image}

-- ---- lists of names

spare-later : (s t : Supply) (ns : List Name) → Later s t → GivesNone s ns → GivesNone t ns
spare-later s t ns later given n among = later n (given n among)

spare-both : (s : Supply) (ms ns : List Name) → GivesNone s ms → GivesNone s ns → GivesNone s (ms ++ ns)
spare-both s ms ns a b n among = go (either_true (name_among ms n) (name_among ns n) (sym (name_among-append ms ns n) ∙ among))
  where
    go : (name_among ms n ≡ true) ⊎ (name_among ns n ≡ true) → NeverGives s n
    go (inl h) = a n h
    go (inr h) = b n h

spare-left : (s : Supply) (ms ns : List Name) → GivesNone s (ms ++ ns) → GivesNone s ms
spare-left s ms ns given n among = given n (name_among-append ms ns n ∙ left_true (name_among ms n) (name_among ns n) among)

spare-right : (s : Supply) (ms ns : List Name) → GivesNone s (ms ++ ns) → GivesNone s ns
spare-right s ms ns given n among = given n (name_among-append ms ns n ∙ right_true (name_among ms n) (name_among ns n) among)

spare-first : (s : Supply) (m : Name) (ns : List Name) → NeverGives s m → GivesNone s ns → GivesNone s (m ∷ ns)
spare-first s m ns never given n among = go (either_true (name_eq m n) (name_among ns n) among)
  where
    go : (name_eq m n ≡ true) ⊎ (name_among ns n ≡ true) → NeverGives s n
    go (inl h) = carry (NeverGives s) ((Decides-name_eq m n).0 h) never
    go (inr h) = given n h

spare-head : (s : Supply) (m : Name) (ns : List Name) → GivesNone s (m ∷ ns) → NeverGives s m
spare-head s m ns given = given m (left_true (name_eq m m) (name_among ns m) ((Decides-name_eq m m).1 refl))

spare-tail : (s : Supply) (m : Name) (ns : List Name) → GivesNone s (m ∷ ns) → GivesNone s ns
spare-tail s m ns given n among = given n (right_true (name_eq m n) (name_among ns n) among)

-- ---- renaming

front-named : (s : Supply) (x y : Variable) (f : Map) → NeverGives s y.name → GivesNoNameIn s f → GivesNoNameIn s ((constant_of x, variable y) ∷ f)
front-named s x y f never given g u found = go (symbol_eq (constant_of x) g) found
  where
    go : (b : Bool) → cond b (Some (variable y)) (image f g) ≡ Some u → GivesNone s (names_within u)
    go true e = let same : variable y ≡ u = cc in carry (λ t. GivesNone s (names_within t)) same (spare-first s y.name [] never (λ n among. absurd cc))
    go false e = given g u e

images-later : (s t : Supply) (f : Map) → Later s t → GivesNoNameIn s f → GivesNoNameIn t f
images-later s t f later given g u found = spare-later s t (names_within u) later (given g u found)

pub record RenamedSpared (r : Renamed) : Type 0 where
  pub variables : GivesNone r.names (map (λ x. x.name) r.variables)
  pub images : GivesNoNameIn r.names r.map

bind-spared : (b : Bool) (c : List Name) (x : Variable) (xs : List Variable) (f : Map) (s : Supply) → ((g : Map) (t : Supply) → GivesNone t (map (λ y. y.name) xs) → GivesNoNameIn t g → RenamedSpared (renaming c xs g t)) → GivesNone s (map (λ y. y.name) (x ∷ xs)) → GivesNoNameIn s f → RenamedSpared (bind b x f s (λ g t. renaming c xs g t))
bind-spared true c x xs f s below names images =
    let g : Map = (constant_of x, variable (fresh_for x s)) ∷ f in
    let rest : RenamedSpared (renaming c xs g (after_draw s)) =
    below g (after_draw s) (spare-later s (after_draw s) (map (λ y. y.name) xs) (after-later s) (spare-tail s x.name (map (λ y. y.name) xs) names))
    (front-named (after_draw s) x (fresh_for x s) f (never-drawn s) (images-later s (after_draw s) f (after-later s) images)) in
    record {
      variables = spare-first (renaming c xs g (after_draw s)).names (next_name s) (map (λ y. y.name) (renaming c xs g (after_draw s)).variables) (renaming-later c xs g (after_draw s) (next_name s) (never-drawn s)) rest.variables;
      images = rest.images;
    }
bind-spared false c x xs f s below names images =
    let rest : RenamedSpared (renaming c xs f s) = below f s (spare-tail s x.name (map (λ y. y.name) xs) names) images in
    record {
      variables = spare-first (renaming c xs f s).names x.name (map (λ y. y.name) (renaming c xs f s).variables) (renaming-later c xs f s x.name (spare-head s x.name (map (λ y. y.name) xs) names)) rest.variables;
      images = rest.images;
    }

pub renaming-named : (c : List Name) (xs : List Variable) (f : Map) (s : Supply) → GivesNone s (map (λ x. x.name) xs) → GivesNoNameIn s f → RenamedSpared (renaming c xs f s)
renaming-named c [] f s names images = record { variables = names; images = images }
renaming-named c (x ∷ xs) f s names images = bind-spared (name_among c x.name) c x xs f s (λ g t n i. renaming-named c xs g t n i) names images

-- ---- kept results

KeptSpared : Supply → List Chosen → Type 0
KeptSpared s [] = ⊤
KeptSpared s (c ∷ cs) = GivesNone s (names_within c.result) × KeptSpared s cs

kept-later : (s t : Supply) (cs : List Chosen) → Later s t → KeptSpared s cs → KeptSpared t cs
unfolding KeptSpared
kept-later s t [] later kept = tt
kept-later s t (c ∷ cs) later kept = (spare-later s t (names_within c.result) later kept.0, kept-later s t cs later kept.1)

chosen-spared : (s : Supply) (cs : List Chosen) (f : Map) (t r : Term) → KeptSpared s cs → chosen_for cs f t ≡ Some r → GivesNone s (names_within r)
unfolding KeptSpared
chosen-spared s [] f t r kept found = absurd cc
chosen-spared s (c ∷ cs) f t r kept found = go (map_eq c.cut f && term_eq c.term t) found (chosen-spared s cs f t r kept.1)
  where
    go : (b : Bool) → cond b (Some c.result) (chosen_for cs f t) ≡ Some r → (chosen_for cs f t ≡ Some r → GivesNone s (names_within r)) → GivesNone s (names_within r)
    go true e below = let same : c.result ≡ r = cc in carry (λ u. GivesNone s (names_within u)) same kept.0
    go false e below = below e

-- ---- terms

record Start (f : Map) (ns : List Name) (s : Choices) : Type 0 where
  names : GivesNone s.names ns
  images : GivesNoNameIn s.names f
  kept : KeptSpared s.names s.chosen

record End (s : Choices) (ns : List Name) (t : Choices) : Type 0 where
  names : GivesNone t.names ns
  kept : KeptSpared t.names t.chosen
  later : Later s.names t.names

minus-named : (s : Supply) (t : Term) → GivesNone s (names_within (apply (op Neg) (t ⨾ none))) → GivesNone s (names_within (minus t))
minus-named s (apply (op (Whole n)) none) given = λ m among. absurd cc
minus-named s t given = given

made-named : (s : Supply) (h : Head) (ts : Terms) → GivesNone s (names_within (apply h ts)) → GivesNone s (names_within (made h ts))
made-named s (op Neg) (t ⨾ none) given = minus-named s t given
made-named s h ts given = given

image-named : (s : Supply) (f : Map) (g : Symbol) (o : Option Term) → image f g ≡ o → GivesNoNameIn s f → GivesNone s (names_within (constant g)) → GivesNone s (names_within (image_or_itself o g))
image-named s f g None e images given = given
image-named s f g (Some u) e images given = images g u e

rebuilt-named : (s : Supply) (f : Map) (h : Head) (us : Terms) → GivesNoNameIn s f → GivesNone s (names_of (head_symbols h)) → GivesNone s (names_within_each us) → GivesNone s (names_within (rebuilt f h us))
rebuilt-named s f (symbol g) none images head each = image-named s f g (image f g) refl images (spare-both s (names_of (head_symbols (symbol g))) [] head each)
rebuilt-named s f (symbol g) (u ⨾ us) images head each = spare-both s (names_of (head_symbols (symbol g))) (names_within_each (u ⨾ us)) head each
rebuilt-named s f (op o) us images head each = made-named s (op o) us each
rebuilt-named s f (const_array t) us images head each = each

cut-named : (s : Supply) (fs : List Symbol) (f : Map) → GivesNoNameIn s f → GivesNoNameIn s (cut_to fs f)
cut-named s fs f images g u found = images g u (cut-image fs f g u found).1

record Ended (s : Choices) (r : Term × Choices) : Type 0 where
  end : End s (names_within r.0) r.1

kept-end : (f : Map) (q : Quantifier) (xs : List Variable) (body : Term) (s : Choices) → Start f (names_within (quantified q xs body)) s
    → ((g : Map) (t : Choices) → Start g (names_within body) t → End t (names_within (subst_from g body t).0) (subst_from g body t).1)
    → (o : Option Term) → chosen_for s.chosen (cut_to (without xs (free body)) f) (quantified q xs body) ≡ o
    → Ended s (kept_or o s λ s'. keep (cut_to (without xs (free body)) f) (quantified q xs body) (quantify q (renaming (names_in (cut_to (without xs (free body)) f)) xs (cut_to (without xs (free body)) f) s'.names) s'.chosen (λ m' s''. subst_from m' body s'')))
unfolding KeptSpared
kept-end f q xs body s start below (Some r) found = record { end = record { names = chosen-spared s.names s.chosen (cut_to (without xs (free body)) f) (quantified q xs body) r start.kept found; kept = start.kept; later = λ n never. never } }
kept-end f q xs body s start below None found =
    let cut : Map = cut_to (without xs (free body)) f in
    let c : List Name = names_in cut in
    let t : Choices = record { names = (renaming c xs cut s.names).names; chosen = s.chosen } in
    let later : Later s.names t.names = renaming-later c xs cut s.names in
    let renamed : RenamedSpared (renaming c xs cut s.names) = renaming-named c xs cut s.names (spare-left s.names (map (λ x. x.name) xs) (names_within body) start.names) (cut-named s.names (without xs (free body)) f start.images) in
    let out : End t (names_within (subst_from (renaming c xs cut s.names).map body t).0) (subst_from (renaming c xs cut s.names).map body t).1 = below (renaming c xs cut s.names).map t (record {
      names = spare-later s.names t.names (names_within body) later (spare-right s.names (map (λ x. x.name) xs) (names_within body) start.names);
      images = renamed.images;
      kept = kept-later s.names t.names s.chosen later start.kept;
    }) in
    let left : Supply = (subst_from (renaming c xs cut s.names).map body t).1.names in
    let names : GivesNone left (map (λ x. x.name) (renaming c xs cut s.names).variables ++ names_within (subst_from (renaming c xs cut s.names).map body t).0) =
    spare-both left (map (λ x. x.name) (renaming c xs cut s.names).variables) (names_within (subst_from (renaming c xs cut s.names).map body t).0)
    (spare-later t.names left (map (λ x. x.name) (renaming c xs cut s.names).variables) out.later renamed.variables) out.names in
    record { end = record { names = names; kept = (names, out.kept); later = λ n never. out.later n (later n never) } }

mutual
  subst_from-end : (t : Term) (f : Map) (s : Choices) → Start f (names_within t) s → End s (names_within (subst_from f t s).0) (subst_from f t s).1
  subst_from-end (apply h ts) f s start =
      let inner : Start f (names_within_each ts) s = record { names = spare-right s.names (names_of (head_symbols h)) (names_within_each ts) start.names; images = start.images; kept = start.kept } in
      let out : End s (names_within_each (substs_from f ts s).0) (substs_from f ts s).1 = substs_from-end ts f s inner in
      record {
        names = rebuilt-named (substs_from f ts s).1.names f h (substs_from f ts s).0 (images-later s.names (substs_from f ts s).1.names f out.later start.images)
            (spare-later s.names (substs_from f ts s).1.names (names_of (head_symbols h)) out.later (spare-left s.names (names_of (head_symbols h)) (names_within_each ts) start.names)) out.names;
        kept = out.kept;
        later = out.later;
      }
  subst_from-end (quantified q xs body) f s start =
      (kept-end f q xs body s start (λ g t st. subst_from-end body g t st) (chosen_for s.chosen (cut_to (without xs (free body)) f) (quantified q xs body)) refl).end

  substs_from-end : (ts : Terms) (f : Map) (s : Choices) → Start f (names_within_each ts) s → End s (names_within_each (substs_from f ts s).0) (substs_from f ts s).1
  substs_from-end none f s start = record { names = start.names; kept = start.kept; later = λ n never. never }
  substs_from-end (t ⨾ ts) f s start =
      let s1 : Choices = (subst_from f t s).1 in
      let s2 : Choices = (substs_from f ts (subst_from f t s).1).1 in
      let first : End s (names_within (subst_from f t s).0) (subst_from f t s).1 = subst_from-end t f s (record { names = spare-left s.names (names_within t) (names_within_each ts) start.names; images = start.images; kept = start.kept }) in
      let rest : End (subst_from f t s).1 (names_within_each (substs_from f ts (subst_from f t s).1).0) (substs_from f ts (subst_from f t s).1).1 = substs_from-end ts f (subst_from f t s).1 (record {
        names = spare-later s.names s1.names (names_within_each ts) first.later (spare-right s.names (names_within t) (names_within_each ts) start.names);
        images = images-later s.names s1.names f first.later start.images;
        kept = first.kept;
      }) in
      record {
        names = spare-both s2.names (names_within (subst_from f t s).0) (names_within_each (substs_from f ts (subst_from f t s).1).0) (spare-later s1.names s2.names (names_within (subst_from f t s).0) rest.later first.names) rest.names;
        kept = rest.kept;
        later = λ n never. rest.later n (first.later n never);
      }

pub subst-spares_names : SubstSparesNames
unfolding KeptSpared
subst-spares_names f t s names images = (subst_from-end t f (record { names = s; chosen = [] }) (record { names = names; images = images; kept = tt })).names
