-- Where the symbols of a term are seen: clear names below more or fewer quantified variables.
use Rattle.std.proofs.Common.{◌≡◌, ◌≢◌, ◌∙◌, sym, ap, refl, Bool, true, false, not, cond, ◌&&◌, ◌||◌, ◌⊎◌, inl, inr, List, [], ◌∷◌, ◌++◌, map, filter, append_assoc}
use Rattle.std.specs.Prelude.{⊤, reverse}
use Rattle.std.proofs.lemmas.Bool.{false_from_ne_true}
use Rattle.std.proofs.lemmas.List.{reverse-append}
use Rattle.smt_terms.specs.Equal.{name_eq, symbol_eq}
use Rattle.smt_terms.specs.Free.{is_among, with_more, head_symbols, free, free_of, names_of}
use Rattle.smt_terms.specs.Rank.{has_name, are_distinct}
use Rattle.smt_terms.specs.Shapes.{is_seen, is_head_seen, is_clear_below, are_clear_below}
use Rattle.smt_terms.specs.Sorts.{Name, Symbol, Variable}
use Rattle.smt_terms.specs.Term.{Head, op, symbol, const_array, Term, apply, quantified, Terms, none, ◌⨾◌, constant_of}
use Rattle.smt_terms.proofs.Among.{is_among-append, is_among-with_more, is_among-without, is_among-filter}
use Rattle.smt_terms.proofs.Equal.{name_same, name_itself, symbol_itself, Decides-symbol_eq}
use Rattle.smt_terms.proofs.Tests.{and_true, both_true, both_false, or_false, either_true, left_true, right_true, not_true, contrary}

-- ---- one variable in front

abbrev seen_by : Bool → Bool → Bool → Bool
seen_by b here below = elim b as (λ _. Bool) [ true ↦ here | false ↦ below ]

-- a variable of the list has the name
abbrev pub binds_name : List Variable → Name → Bool
binds_name [] n = false
binds_name (x ∷ xs) n = name_eq x.name n || binds_name xs n

binds-append : (xs ys : List Variable) (n : Name) → binds_name (xs ++ ys) n ≡ (binds_name xs n || binds_name ys n)
binds-append [] ys n = refl
binds-append (x ∷ xs) ys n = ap (λ b. name_eq x.name n || b) (binds-append xs ys n) ∙ or_grouped (name_eq x.name n) (binds_name xs n) (binds_name ys n)
  where
    or_grouped : (a b c : Bool) → (a || (b || c)) ≡ ((a || b) || c)
    or_grouped true b c = refl
    or_grouped false b c = refl

pub reverse_front : (x : Variable) (xs : List Variable) → reverse (x ∷ xs) ≡ reverse xs ++ x ∷ []
reverse_front x xs = reverse-append (x ∷ []) xs

or_turned : (a b : Bool) → (a || (b || false)) ≡ (b || a)
or_turned true true = refl
or_turned true false = refl
or_turned false true = refl
or_turned false false = refl

pub binds-reverse : (xs : List Variable) (n : Name) → binds_name (reverse xs) n ≡ binds_name xs n
binds-reverse [] n = refl
binds-reverse (x ∷ xs) n =
    ap (λ ys. binds_name ys n) (reverse_front x xs)
    ∙ binds-append (reverse xs) (x ∷ []) n
    ∙ ap (λ b. b || (name_eq x.name n || false)) (binds-reverse xs n)
    ∙ or_turned (binds_name xs n) (name_eq x.name n)

-- a variable of another name is another constant
pub unbound : (xs : List Variable) (g : Symbol) → binds_name xs g.name ≡ false → is_among (map constant_of xs) g ≡ false
unbound [] g h = refl
unbound (x ∷ xs) g h =
    let parts = both_false (name_eq x.name g.name) (binds_name xs g.name) h in
    or_false (symbol_eq (constant_of x) g) (is_among (map constant_of xs) g)
    (false_from_ne_true (symbol_eq (constant_of x) g) (λ e. absurd (contrary {A = ⊥} (name_eq x.name g.name) (ap (λ (k : Symbol). name_eq x.name k.name) (sym ((Decides-symbol_eq (constant_of x) g).0 e)) ∙ name_itself x.name) parts.0)))
    (unbound xs g parts.1)

-- ---- below other variables

seen_wider : (ws zs vs : List Variable) (f : Symbol) → is_seen (ws ++ zs) f ≡ true → (binds_name ws f.name ≡ false → is_seen zs f ≡ true → is_seen vs f ≡ true) → is_seen (ws ++ vs) f ≡ true
seen_wider [] zs vs f h k = k refl h
seen_wider (x ∷ ws) zs vs f h k = go (name_eq x.name f.name) refl h (λ e l. seen_wider ws zs vs f l (λ n m. k (or_false (name_eq x.name f.name) (binds_name ws f.name) e n) m))
  where
    go : (b : Bool) → name_eq x.name f.name ≡ b → seen_by b (symbol_eq (constant_of x) f) (is_seen (ws ++ zs) f) ≡ true → (name_eq x.name f.name ≡ false → is_seen (ws ++ zs) f ≡ true → is_seen (ws ++ vs) f ≡ true) → seen_by b (symbol_eq (constant_of x) f) (is_seen (ws ++ vs) f) ≡ true
    go true e l below = l
    go false e l below = below e l

-- what is free in the term and of no name that these variables bind is seen in other surroundings
abbrev SeenToo : List Symbol → List Variable → List Variable → List Variable → Type 0
SeenToo fs ws zs vs = (g : Symbol) → is_among fs g ≡ true → binds_name ws g.name ≡ false → is_seen zs g ≡ true → is_seen vs g ≡ true

head_wider : (ws zs vs : List Variable) (h : Head) → is_head_seen (ws ++ zs) h ≡ true → SeenToo (head_symbols h) ws zs vs → is_head_seen (ws ++ vs) h ≡ true
head_wider ws zs vs (op o) seen k = refl
head_wider ws zs vs (symbol f) seen k = seen_wider ws zs vs f seen (λ n m. k f (left_true (symbol_eq f f) false (symbol_itself f)) n m)
head_wider ws zs vs (const_array s) seen k = refl

mutual
  pub clear_wider : (t : Term) (ws zs vs : List Variable) → is_clear_below (ws ++ zs) t ≡ true → SeenToo (free t) ws zs vs → is_clear_below (ws ++ vs) t ≡ true
  clear_wider (apply h ts) ws zs vs clear k =
      let parts = both_true (is_head_seen (ws ++ zs) h) (are_clear_below (ws ++ zs) ts) clear in
      and_true (is_head_seen (ws ++ vs) h) (are_clear_below (ws ++ vs) ts)
      (head_wider ws zs vs h parts.0 (λ g among. k g (is_among-with_more (head_symbols h) (free_of ts) g ∙ left_true (is_among (head_symbols h) g) (is_among (free_of ts) g) among)))
      (all_wider ts ws zs vs parts.1 (λ g among. k g (is_among-with_more (head_symbols h) (free_of ts) g ∙ right_true (is_among (head_symbols h) g) (is_among (free_of ts) g) among)))
  clear_wider (quantified q xs body) ws zs vs clear k =
      ap (λ ys. is_clear_below ys body) (sym (append_assoc (reverse xs) ws vs))
      ∙ clear_wider body (reverse xs ++ ws) zs vs (ap (λ ys. is_clear_below ys body) (append_assoc (reverse xs) ws zs) ∙ clear) (λ g among n m. beyond g among n m)
    where
      beyond : (g : Symbol) → is_among (free body) g ≡ true → binds_name (reverse xs ++ ws) g.name ≡ false → is_seen zs g ≡ true → is_seen vs g ≡ true
      beyond g among n m =
          let parts = both_false (binds_name (reverse xs) g.name) (binds_name ws g.name) (sym (binds-append (reverse xs) ws g.name) ∙ n) in
          let outside : is_among (map constant_of xs) g ≡ false = unbound xs g (sym (binds-reverse xs g.name) ∙ parts.0) in
          k g (is_among-without xs (free body) g ∙ and_true (is_among (free body) g) (not (is_among (map constant_of xs) g)) among (ap not outside)) parts.1 m

  pub all_wider : (ts : Terms) (ws zs vs : List Variable) → are_clear_below (ws ++ zs) ts ≡ true → SeenToo (free_of ts) ws zs vs → are_clear_below (ws ++ vs) ts ≡ true
  all_wider none ws zs vs clear k = refl
  all_wider (t ⨾ ts) ws zs vs clear k =
      let parts = both_true (is_clear_below (ws ++ zs) t) (are_clear_below (ws ++ zs) ts) clear in
      and_true (is_clear_below (ws ++ vs) t) (are_clear_below (ws ++ vs) ts)
      (clear_wider t ws zs vs parts.0 (λ g among. k g (is_among-with_more (free t) (free_of ts) g ∙ left_true (is_among (free t) g) (is_among (free_of ts) g) among)))
      (all_wider ts ws zs vs parts.1 (λ g among. k g (is_among-with_more (free t) (free_of ts) g ∙ right_true (is_among (free t) g) (is_among (free_of ts) g) among)))

-- ---- what is free is seen

pub seen_past : (ws zs : List Variable) (g : Symbol) → is_seen (ws ++ zs) g ≡ true → is_among (map constant_of ws) g ≡ false → is_seen zs g ≡ true
seen_past [] zs g seen outside = seen
seen_past (x ∷ ws) zs g seen outside =
    let parts = both_false (symbol_eq (constant_of x) g) (is_among (map constant_of ws) g) outside in
    go (name_eq x.name g.name) seen parts.0 (λ l. seen_past ws zs g l parts.1)
  where
    go : (b : Bool) → seen_by b (symbol_eq (constant_of x) g) (is_seen (ws ++ zs) g) ≡ true → symbol_eq (constant_of x) g ≡ false → (is_seen (ws ++ zs) g ≡ true → is_seen zs g ≡ true) → is_seen zs g ≡ true
    go true l other below = contrary (symbol_eq (constant_of x) g) l other
    go false l other below = below l

pub constants-append : (xs ys : List Variable) (g : Symbol) → is_among (map constant_of (xs ++ ys)) g ≡ (is_among (map constant_of xs) g || is_among (map constant_of ys) g)
constants-append [] ys g = refl
constants-append (x ∷ xs) ys g = ap (λ b. symbol_eq (constant_of x) g || b) (constants-append xs ys g) ∙ or_grouped (symbol_eq (constant_of x) g) (is_among (map constant_of xs) g) (is_among (map constant_of ys) g)
  where
    or_grouped : (a b c : Bool) → (a || (b || c)) ≡ ((a || b) || c)
    or_grouped true b c = refl
    or_grouped false b c = refl

pub constants-reverse : (xs : List Variable) (g : Symbol) → is_among (map constant_of (reverse xs)) g ≡ is_among (map constant_of xs) g
constants-reverse [] g = refl
constants-reverse (x ∷ xs) g =
    ap (λ ys. is_among (map constant_of ys) g) (reverse_front x xs)
    ∙ constants-append (reverse xs) (x ∷ []) g
    ∙ ap (λ b. b || (symbol_eq (constant_of x) g || false)) (constants-reverse xs g)
    ∙ or_turned (is_among (map constant_of xs) g) (symbol_eq (constant_of x) g)

seen_head : (ws : List Variable) (h : Head) (g : Symbol) → is_head_seen ws h ≡ true → is_among (head_symbols h) g ≡ true → is_seen ws g ≡ true
seen_head ws (op o) g seen among = absurd cc
seen_head ws (const_array s) g seen among = absurd cc
seen_head ws (symbol f) g seen among = go (either_true (symbol_eq f g) false among)
  where
    go : (symbol_eq f g ≡ true) ⊎ (false ≡ true) → is_seen ws g ≡ true
    go (inl e) = ap (is_seen ws) (sym ((Decides-symbol_eq f g).0 e)) ∙ seen
    go (inr e) = absurd cc

mutual
  pub free_seen : (t : Term) (ws : List Variable) (g : Symbol) → is_clear_below ws t ≡ true → is_among (free t) g ≡ true → is_seen ws g ≡ true
  free_seen (apply h ts) ws g clear among =
      let parts = both_true (is_head_seen ws h) (are_clear_below ws ts) clear in
      go (either_true (is_among (head_symbols h) g) (is_among (free_of ts) g) (sym (is_among-with_more (head_symbols h) (free_of ts) g) ∙ among)) (seen_head ws h g parts.0) (all_seen ts ws g parts.1)
    where
      go : (is_among (head_symbols h) g ≡ true) ⊎ (is_among (free_of ts) g ≡ true) → (is_among (head_symbols h) g ≡ true → is_seen ws g ≡ true) → (is_among (free_of ts) g ≡ true → is_seen ws g ≡ true) → is_seen ws g ≡ true
      go (inl e) first rest = first e
      go (inr e) first rest = rest e
  free_seen (quantified q xs body) ws g clear among =
      let parts = both_true (is_among (free body) g) (not (is_among (map constant_of xs) g)) (sym (is_among-without xs (free body) g) ∙ among) in
      seen_past (reverse xs) ws g (free_seen body (reverse xs ++ ws) g clear parts.0) (constants-reverse xs g ∙ not_true (is_among (map constant_of xs) g) parts.1)

  pub all_seen : (ts : Terms) (ws : List Variable) (g : Symbol) → are_clear_below ws ts ≡ true → is_among (free_of ts) g ≡ true → is_seen ws g ≡ true
  all_seen none ws g clear among = absurd cc
  all_seen (t ⨾ ts) ws g clear among =
      let parts = both_true (is_clear_below ws t) (are_clear_below ws ts) clear in
      go (either_true (is_among (free t) g) (is_among (free_of ts) g) (sym (is_among-with_more (free t) (free_of ts) g) ∙ among)) (free_seen t ws g parts.0) (all_seen ts ws g parts.1)
    where
      go : (is_among (free t) g ≡ true) ⊎ (is_among (free_of ts) g ≡ true) → (is_among (free t) g ≡ true → is_seen ws g ≡ true) → (is_among (free_of ts) g ≡ true → is_seen ws g ≡ true) → is_seen ws g ≡ true
      go (inl e) first rest = first e
      go (inr e) first rest = rest e

-- ---- no symbol stands twice among the free ones

-- no two symbols of the list have one name
abbrev pub Apart : List Symbol → Type 0
Apart gs = (g h : Symbol) → is_among gs g ≡ true → is_among gs h ≡ true → g.name ≡ h.name → g ≡ h

pub apart_front : (c : Symbol) (gs : List Symbol) → Apart gs → ((g : Symbol) → is_among gs g ≡ true → c.name ≢ g.name) → Apart (c ∷ gs)
apart_front c gs apart other g h a b same = go (either_true (symbol_eq c g) (is_among gs g) a) (either_true (symbol_eq c h) (is_among gs h) b)
  where
    go : (symbol_eq c g ≡ true) ⊎ (is_among gs g ≡ true) → (symbol_eq c h ≡ true) ⊎ (is_among gs h ≡ true) → g ≡ h
    go (inl k) (inl l) = sym ((Decides-symbol_eq c g).0 k) ∙ (Decides-symbol_eq c h).0 l
    go (inl k) (inr l) = absurd (other h l (ap (λ (f : Symbol). f.name) ((Decides-symbol_eq c g).0 k) ∙ same))
    go (inr k) (inl l) = absurd (other g k (ap (λ (f : Symbol). f.name) ((Decides-symbol_eq c h).0 l) ∙ sym same))
    go (inr k) (inr l) = apart g h k l same

-- no symbol of the list stands in it again
abbrev Once : List Symbol → Type 0
Once [] = ⊤
Once (f ∷ fs) = (is_among fs f ≡ false) × Once fs

once_joined : (fs gs : List Symbol) → Once fs → Once gs → ((g : Symbol) → is_among fs g ≡ true → is_among gs g ≡ true → ⊥) → Once (fs ++ gs)
once_joined [] gs a b apart = b
once_joined (f ∷ fs) gs a b apart = (
  is_among-append fs gs f ∙ or_false (is_among fs f) (is_among gs f) a.0 (false_from_ne_true (is_among gs f) (λ e. apart f (left_true (symbol_eq f f) (is_among fs f) (symbol_itself f)) e)),
  once_joined fs gs a.1 b (λ g h k. apart g (right_true (symbol_eq f g) (is_among fs g) h) k),
)

filtered_once : (p : Symbol → Bool) (fs : List Symbol) → Once fs → Once (filter p fs)
filtered_once p [] once = tt
filtered_once p (f ∷ fs) once = go (p f) (filtered_once p fs once.1)
  where
    gone : is_among (filter p fs) f ≡ false
    gone = is_among-filter p fs f ∙ ap (λ b. b && p f) once.0

    go : (b : Bool) → Once (filter p fs) → Once (cond b (f ∷ filter p fs) (filter p fs))
    go true below = (gone, below)
    go false below = below

with_more_once : (fs gs : List Symbol) → Once fs → Once gs → Once (with_more fs gs)
with_more_once fs gs a b = once_joined fs (filter (λ g. not (is_among fs g)) gs) a (filtered_once (λ g. not (is_among fs g)) gs b) (λ g h k. clash g h (both_true (is_among gs g) (not (is_among fs g)) (sym (is_among-filter (λ g. not (is_among fs g)) gs g) ∙ k)).1)
  where
    clash : (g : Symbol) → is_among fs g ≡ true → not (is_among fs g) ≡ true → ⊥
    clash g h k = contrary (is_among fs g) h (not_true (is_among fs g) k)

head_once : (h : Head) → Once (head_symbols h)
head_once (op o) = tt
head_once (symbol f) = (refl, tt)
head_once (const_array s) = tt

mutual
  free_once : (t : Term) → Once (free t)
  free_once (apply h ts) = with_more_once (head_symbols h) (free_of ts) (head_once h) (all_once ts)
  free_once (quantified q xs body) = filtered_once (λ f. not (is_among (map constant_of xs) f)) (free body) (free_once body)

  all_once : (ts : Terms) → Once (free_of ts)
  all_once none = tt
  all_once (t ⨾ ts) = with_more_once (free t) (free_of ts) (free_once t) (all_once ts)

unnamed_by : (fs : List Symbol) (f : Symbol) → is_among fs f ≡ false → ((g : Symbol) → is_among fs g ≡ true → f.name ≡ g.name → f ≡ g) → has_name f.name (names_of fs) ≡ false
unnamed_by [] f outside apart = refl
unnamed_by (g ∷ fs) f outside apart =
    let parts = both_false (symbol_eq g f) (is_among fs f) outside in
    or_false (name_eq f.name g.name) (has_name f.name (names_of fs))
    (false_from_ne_true (name_eq f.name g.name) (λ e. absurd (contrary {A = ⊥} (symbol_eq g f) ((Decides-symbol_eq g f).1 (sym (apart g (left_true (symbol_eq g g) (is_among fs g) (symbol_itself g)) (name_same f.name g.name e)))) parts.0)))
    (unnamed_by fs f parts.1 (λ h among. apart h (right_true (symbol_eq g h) (is_among fs h) among)))

distinct_names : (fs : List Symbol) → Once fs → Apart fs → are_distinct (names_of fs) ≡ true
distinct_names [] once apart = refl
distinct_names (f ∷ fs) once apart =
    and_true (not (has_name f.name (names_of fs))) (are_distinct (names_of fs))
    (ap not (unnamed_by fs f once.0 (λ g among same. apart f g (left_true (symbol_eq f f) (is_among fs f) (symbol_itself f)) (right_true (symbol_eq f g) (is_among fs g) among) same)))
    (distinct_names fs once.1 (λ g h a b. apart g h (right_true (symbol_eq f g) (is_among fs g) a) (right_true (symbol_eq f h) (is_among fs h) b)))

-- the free symbols of a term have different names where those do among which they are
pub free_distinct : (gs : List Symbol) (t : Term) → Apart gs → ((g : Symbol) → is_among (free t) g ≡ true → is_among gs g ≡ true) → are_distinct (names_of (free t)) ≡ true
free_distinct gs t apart within = distinct_names (free t) (free_once t) (λ g h a b. apart g h (within g a) (within h b))
