-- Counts of faults by name, as one of them is raised or a place is added.
use Rattle.std.proofs.Common.{◌≡◌, ℕ, zero, suc, ◌+◌, ◌<◌, Bool, true, false, cond, List, [], ◌∷◌, ◌++◌, length, get_or, Option, None, Some, unwrap_or, zero-add, refl, sym, ap, subst, ◌∙◌, arith}
use Rattle.std.proofs.Math.ListN.{set, get_or-append}
use Rattle.std.proofs.Math.Seq.{get_or-append_seam}
use Rattle.std.proofs.lemmas.List.{get_or-set_same}
use Rattle.std.proofs.lemmas.Slice.Eq.{bytes_eq-Decides}
use Rattle.std.specs.List.{position_from}
use Rattle.std.specs.Option.{option_map, option_map_or}
use Rattle.std.specs.Str.{bytes_eq}
use Rattle.smt_io.specs.Counts.{NeverFalls, Rose, raised}
use Rattle.smt_io.specs.NameCounts.{NamedCount, NameCounts, no_place, at_place, place_of, count_of, raised_place, raise_at, with_new_place, IsPlaceOfName}

-- the test of a name
abbrev pub named : List ℕ → NamedCount → Bool
named name place = bytes_eq place.name name

-- a place that keeps its name leaves each name where it is
position_from-set : (name : List ℕ) (k : ℕ) (ps : List NamedCount) (i : ℕ) (y : NamedCount) → y.name ≡ (get_or ps i no_place).name
    → position_from (named name) k (set ps i y) ≡ position_from (named name) k ps
position_from-set name k [] i y same = refl
position_from-set name k (p ∷ ps) zero y same = ap (λ n. cond (bytes_eq n name) (Some k) (position_from (named name) (k + 1) ps)) same
position_from-set name k (p ∷ ps) (suc i) y same = ap (λ q. cond (bytes_eq p.name name) (Some k) q) (position_from-set name (k + 1) ps i y same)

pub place_of-raise_at : (name : List ℕ) (place : Option ℕ) (c : NameCounts) → place_of name (raise_at place c) ≡ place_of name c
place_of-raise_at name None c = refl
place_of-raise_at name (Some i) c = position_from-set name 0 c.places i (raised_place (at_place i c)) refl

raised-kept : (n : ℕ) → NeverFalls n n
raised-kept n = (omega arith, omega arith)

raised-more : (n : ℕ) → NeverFalls n (raised n)
raised-more n = (omega arith, omega arith)

raised-rose : (n : ℕ) → Rose n (raised n)
raised-rose n = omega arith

-- the places with one raised
abbrev raised_in : List NamedCount → ℕ → List NamedCount
raised_in ps i = set ps i (raised_place (get_or ps i no_place))

faults_at-falls : (ps : List NamedCount) (i j : ℕ) → NeverFalls (get_or ps j no_place).faults (get_or (raised_in ps i) j no_place).faults
faults_at-falls [] i j = raised-kept 0
faults_at-falls (p ∷ ps) zero zero = raised-more p.faults
faults_at-falls (p ∷ ps) zero (suc j) = raised-kept (get_or ps j no_place).faults
faults_at-falls (p ∷ ps) (suc i) zero = raised-kept p.faults
faults_at-falls (p ∷ ps) (suc i) (suc j) = faults_at-falls ps i j

name_at-raised : (ps : List NamedCount) (i j : ℕ) → (get_or (raised_in ps i) j no_place).name ≡ (get_or ps j no_place).name
name_at-raised [] i j = refl
name_at-raised (p ∷ ps) zero zero = refl
name_at-raised (p ∷ ps) zero (suc j) = refl
name_at-raised (p ∷ ps) (suc i) zero = refl
name_at-raised (p ∷ ps) (suc i) (suc j) = name_at-raised ps i j

pub name_at-raise_at : (c : NameCounts) (place : Option ℕ) (j : ℕ) → (at_place j (raise_at place c)).name ≡ (at_place j c).name
name_at-raise_at c None j = refl
name_at-raise_at c (Some i) j = name_at-raised c.places i j

length-raised : (ps : List NamedCount) (i : ℕ) → length (raised_in ps i) ≡ length ps
length-raised [] i = refl
length-raised (p ∷ ps) zero = refl
length-raised (p ∷ ps) (suc i) = ap suc (length-raised ps i)

pub length-raise_at : (c : NameCounts) (place : Option ℕ) → length (raise_at place c).places ≡ length c.places
length-raise_at c None = refl
length-raise_at c (Some i) = length-raised c.places i

falls_of : (c : NameCounts) (i : ℕ) (q : Option ℕ)
    → NeverFalls (option_map_or (λ j. (at_place j c).faults) q c.others) (option_map_or (λ j. (at_place j (raise_at (Some i) c)).faults) q c.others)
falls_of c i None = raised-kept c.others
falls_of c i (Some j) = faults_at-falls c.places i j

others_of : (c : NameCounts) (q : Option ℕ) → NeverFalls (option_map_or (λ j. (at_place j c).faults) q c.others) (option_map_or (λ j. (at_place j c).faults) q (raised c.others))
others_of c None = raised-more c.others
others_of c (Some j) = raised-kept (at_place j c).faults

falls_here : (c : NameCounts) (place : Option ℕ) (name : List ℕ) → NeverFalls (count_of name c) (count_of name (raise_at place c))
falls_here c None name = others_of c (place_of name c)
falls_here c (Some i) name =
    subst (λ (q : Option ℕ). NeverFalls (count_of name c) (option_map_or (λ j. (at_place j (raise_at (Some i) c)).faults) q c.others))
    (sym (place_of-raise_at name (Some i) c)) (falls_of c i (place_of name c))

-- no count falls where one is raised
pub count_of-falls : (old new : NameCounts) (place : Option ℕ) (name : List ℕ) → new ≡ raise_at place old → NeverFalls (count_of name old) (count_of name new)
count_of-falls old new place name e = subst (λ (c : NameCounts). NeverFalls (count_of name old) (count_of name c)) (sym e) (falls_here old place name)

-- a name was found: its place has it
abbrev Found : List ℕ → ℕ → List NamedCount → ℕ → Type 0
Found name k ps i = (j : ℕ) × (i ≡ k + j) × (j < length ps) × ((get_or ps j no_place).name ≡ name)

found_cons : (name : List ℕ) (k : ℕ) (p : NamedCount) (ps : List NamedCount) (i : ℕ) (b : Bool) → bytes_eq p.name name ≡ b
    → cond b (Some k) (position_from (named name) (k + 1) ps) ≡ Some i
    → (position_from (named name) (k + 1) ps ≡ Some i → Found name (k + 1) ps i) → Found name k (p ∷ ps) i
found_cons name k p ps i true e h later = let same : k ≡ i = cc in (0, omega arith, omega arith, (bytes_eq-Decides p.name name).0 e)
found_cons name k p ps i false e h later =
    let found = later h in
    (suc found.0, (let is = found.1 in omega arith), (let lt = found.2 in omega arith), found.3)

found_in : (name : List ℕ) (k : ℕ) (ps : List NamedCount) (i : ℕ) → position_from (named name) k ps ≡ Some i → Found name k ps i
found_in name k [] i e = absurd (cc)
found_in name k (p ∷ ps) i e = found_cons name k p ps i (bytes_eq p.name name) refl e (found_in name (k + 1) ps i)

-- the place of a name is one of the places, and has that name
pub place_of-found : (name : List ℕ) (c : NameCounts) (i : ℕ) → place_of name c ≡ Some i → (i < length c.places) × ((at_place i c).name ≡ name)
place_of-found name c i e =
    let found = found_in name 0 c.places i e in
    let here : i ≡ found.0 = (let is = found.1 in omega arith) in
    ((let lt = found.2 in omega arith), ap (λ j. (at_place j c).name) here ∙ found.3)

rose_here : (c : NameCounts) (place : Option ℕ) (name : List ℕ) → place_of name c ≡ place → Rose (count_of name c) (count_of name (raise_at place c))
rose_here c None name e =
    subst (λ (q : Option ℕ). Rose (option_map_or (λ j. (at_place j c).faults) q c.others) (option_map_or (λ j. (at_place j c).faults) q (raised c.others))) (sym e) (raised-rose c.others)
rose_here c (Some i) name e =
    subst (λ (q : Option ℕ). Rose (option_map_or (λ j. (at_place j c).faults) q c.others) (count_of name (raise_at (Some i) c))) (sym e)
    (subst (λ (q : Option ℕ). Rose (at_place i c).faults (option_map_or (λ j. (at_place j (raise_at (Some i) c)).faults) q c.others)) (sym (place_of-raise_at name (Some i) c ∙ e))
    (subst (λ (p : NamedCount). Rose (at_place i c).faults p.faults) (sym (get_or-set_same c.places i (raised_place (at_place i c)) no_place (place_of-found name c i e).0)) (raised-rose (at_place i c).faults)))

-- the count of the name that is at the raised place rose
pub count_of-rose : (old new : NameCounts) (place : Option ℕ) (name : List ℕ) → new ≡ raise_at place old → place_of name old ≡ place → Rose (count_of name old) (count_of name new)
count_of-rose old new place name e at = subst (λ (c : NameCounts). Rose (count_of name old) (count_of name c)) (sym e) (rose_here old place name at)

-- a search in a list with one more behind it
appended_some_cons : (t : NamedCount → Bool) (k : ℕ) (ps : List NamedCount) (y : NamedCount) (j : ℕ) (b : Bool)
    → cond b (Some k) (position_from t (k + 1) ps) ≡ Some j → (position_from t (k + 1) ps ≡ Some j → position_from t (k + 1) (ps ++ y ∷ []) ≡ Some j)
    → cond b (Some k) (position_from t (k + 1) (ps ++ y ∷ [])) ≡ Some j
appended_some_cons t k ps y j true e later = e
appended_some_cons t k ps y j false e later = later e

appended_some : (t : NamedCount → Bool) (k : ℕ) (ps : List NamedCount) (y : NamedCount) (j : ℕ) → position_from t k ps ≡ Some j → position_from t k (ps ++ y ∷ []) ≡ Some j
appended_some t k [] y j e = absurd (cc)
appended_some t k (p ∷ ps) y j e = appended_some_cons t k ps y j (t p) e (appended_some t (k + 1) ps y j)

appended_none_cons : (k : ℕ) (q r : Option ℕ) (b : Bool) (n : ℕ) (c : Bool) → cond b (Some k) q ≡ None → (q ≡ None → r ≡ cond c (Some (k + 1 + n)) None)
    → cond b (Some k) r ≡ cond c (Some (k + suc n)) None
appended_none_cons k q r true n c e later = absurd (cc)
appended_none_cons k q r false n c e later = later e ∙ ap (λ m. cond c (Some m) None) (let same : k + 1 + n ≡ k + suc n = omega arith in same)

appended_none : (t : NamedCount → Bool) (k : ℕ) (ps : List NamedCount) (y : NamedCount) → position_from t k ps ≡ None
    → position_from t k (ps ++ y ∷ []) ≡ cond (t y) (Some (k + length ps)) None
appended_none t k [] y e = ap (λ m. cond (t y) (Some m) None) (let same : k ≡ k + 0 = omega arith in same)
appended_none t k (p ∷ ps) y e = appended_none_cons k (position_from t (k + 1) ps) (position_from t (k + 1) (ps ++ y ∷ [])) (t p) (length ps) (t y) e (appended_none t (k + 1) ps y)

-- an added name is at the end
pub place_of-added : (name : List ℕ) (c : NameCounts) → place_of name c ≡ None → place_of name (with_new_place name c) ≡ Some (length c.places)
place_of-added name c e =
    appended_none (named name) 0 c.places (record { name = name; faults = c.others }) e
    ∙ ap (λ b. cond b (Some (0 + length c.places)) None) ((bytes_eq-Decides name name).1 refl)
    ∙ ap Some (let same : 0 + length c.places ≡ length c.places = omega arith in same)

added_here : (c : NameCounts) (name : List ℕ) (b : Bool) → option_map_or (λ j. (at_place j (with_new_place name c)).faults) (cond b (Some (0 + length c.places)) None) c.others ≡ c.others
added_here c name true =
    ap (λ i. (at_place i (with_new_place name c)).faults) (zero-add (length c.places))
    ∙ ap (λ (p : NamedCount). p.faults) (get_or-append_seam c.places (record { name = name; faults = c.others }) [] no_place)
added_here c name false = refl

added_of : (c : NameCounts) (name n : List ℕ) (q : Option ℕ) → place_of n c ≡ q → count_of n (with_new_place name c) ≡ option_map_or (λ j. (at_place j c).faults) q c.others
added_of c name n None e =
    ap (λ q. option_map_or (λ j. (at_place j (with_new_place name c)).faults) q c.others) (appended_none (named n) 0 c.places (record { name = name; faults = c.others }) e)
    ∙ added_here c name (bytes_eq name n)
added_of c name n (Some j) e =
    ap (λ q. option_map_or (λ j. (at_place j (with_new_place name c)).faults) q c.others) (appended_some (named n) 0 c.places (record { name = name; faults = c.others }) j e)
    ∙ ap (λ (p : NamedCount). p.faults) (get_or-append c.places (record { name = name; faults = c.others } ∷ []) no_place j (place_of-found n c j e).0)

-- no count changes where a name is added
pub count_of-added : (c : NameCounts) (name n : List ℕ) → count_of n (with_new_place name c) ≡ count_of n c
count_of-added c name n = added_of c name n (place_of n c) refl

-- a place was made where there was none, and then a count raised
pub count_of-falls_later : (old mid new : NameCounts) (place : Option ℕ) (n : List ℕ) → count_of n mid ≡ count_of n old → new ≡ raise_at place mid → NeverFalls (count_of n old) (count_of n new)
count_of-falls_later old mid new place n kept e = subst (λ (m : ℕ). NeverFalls m (count_of n new)) kept (count_of-falls mid new place n e)

pub count_of-rose_later : (old mid new : NameCounts) (place : Option ℕ) (n : List ℕ) → count_of n mid ≡ count_of n old → new ≡ raise_at place mid → place_of n mid ≡ place → Rose (count_of n old) (count_of n new)
count_of-rose_later old mid new place n kept e at = subst (λ (m : ℕ). Rose m (count_of n new)) kept (count_of-rose mid new place n e at)

-- the place of a name has it
pub place_of-place : (name : List ℕ) (c : NameCounts) (i : ℕ) → place_of name c ≡ Some i → place_of (at_place i c).name c ≡ Some i
place_of-place name c i e = ap (λ n. place_of n c) (place_of-found name c i e).1 ∙ e

named_raised : (c : NameCounts) (place q : Option ℕ) → IsPlaceOfName q c → IsPlaceOfName q (raise_at place c)
named_raised c place None h = tt
named_raised c place (Some i) h = ap (λ n. place_of n (raise_at place c)) (name_at-raise_at c place i) ∙ place_of-raise_at (at_place i c).name place c ∙ h

pub IsPlaceOfName-raised : (old new : NameCounts) (place q : Option ℕ) → new ≡ raise_at place old → IsPlaceOfName q old → IsPlaceOfName q new
IsPlaceOfName-raised old new place q e h = subst (λ (c : NameCounts). IsPlaceOfName q c) (sym e) (named_raised old place q h)

-- the name of the text that is begun has its place
pub begun_place : (c : NameCounts) (begun : Option ℕ) (i : ℕ) → begun ≡ Some i → IsPlaceOfName begun c
    → place_of (unwrap_or (option_map (λ j. (at_place j c).name) begun) []) c ≡ Some i
begun_place c None i e h = absurd (cc)
begun_place c (Some j) i e h = h ∙ e

pub begun_within : (c : NameCounts) (begun : Option ℕ) (i : ℕ) → begun ≡ Some i → IsPlaceOfName begun c → i < length c.places
begun_within c begun i e h = (place_of-found _ c i (begun_place c begun i e h)).0
