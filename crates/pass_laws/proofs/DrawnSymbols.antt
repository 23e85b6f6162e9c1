-- The new symbols of grouped commands: none has a name that the supply doesn't give, each has one term, and the term's sort.
use Rattle.std.proofs.Common.{◌≡◌, ◌∙◌, sym, ap, refl, ℕ, ◌+◌, ◌≤◌, Bool, true, false, not, cond, ◌||◌, ◌⊎◌, inl, inr, List, [], ◌∷◌, ◌++◌, count_by, Some, subst, All, arith}
use Rattle.std.specs.Prelude.{flat_map, ⊤}
use Rattle.std.proofs.lemmas.List.Elements.{All-nil, All-weaker}
use Rattle.std.proofs.lemmas.List.Sums.{sum_by-append, sum_by-cons}
use Rattle.smt_terms.specs.Equal.{symbol_eq}
use Rattle.smt_terms.specs.Free.{is_among, name_among, names_of}
use Rattle.smt_terms.specs.Fresh.{Supply, NeverGives}
use Rattle.smt_terms.specs.Groups.{Named, draw_each}
use Rattle.smt_terms.specs.Rank.{sort_of, has_name, are_distinct}
use Rattle.smt_terms.specs.Sorts.{Sort, Symbol}
use Rattle.smt_terms.specs.SubstLaws.{Later}
use Rattle.smt_terms.specs.Term.{Term}
use Rattle.smt_terms.proofs.Among.{is_among-append}
use Rattle.smt_terms.proofs.Equal.{Decides-symbol_eq}
use Rattle.smt_terms.proofs.Runs.{among-name}
use Rattle.smt_terms.proofs.Tests.{both_true, both_false, or_false, not_true, contrary, true_or_false}
use Rattle.term_groups.specs.Drawing.{ConstantsAreNew}
use Rattle.term_groups.specs.Grouping.{IsGroupOf, symbols_of, terms_of}
use Rattle.script_read.specs.Commands.{Command, assert, check_assuming}
use Rattle.pass_laws.specs.Carry.{term_for}
use Rattle.pass_laws.specs.GroupPoints.{AreGrouped, drawn_in}
use Rattle.pass_laws.specs.Passed.{Replacement}
use Rattle.pass_laws.proofs.FittingPoints.{EachFits}
use Rattle.pass_laws.proofs.NamedTerms.{all_parted, HaveOwn, named, own_of_both, own_of_distinct}

-- the new symbols with their terms
abbrev pub pairs_by : Command Replacement → Named
pairs_by (assert i r) = r.group.symbols
pairs_by _ = []

abbrev pub pairs_in : List (Command Replacement) → Named
pairs_in rs = flat_map pairs_by rs

both_symbols : (xs ys : Named) → symbols_of (xs ++ ys) ≡ symbols_of xs ++ symbols_of ys
both_symbols [] ys = refl
both_symbols (n ∷ xs) ys = ap (λ fs. n.0 ∷ fs) (both_symbols xs ys)

pub drawn_are : (rs : List (Command Replacement)) → drawn_in rs ≡ symbols_of (pairs_in rs)
drawn_are [] = refl
drawn_are (assert i r ∷ rs) = ap (λ fs. symbols_of r.group.symbols ++ fs) (drawn_are rs) ∙ sym (both_symbols r.group.symbols (pairs_in rs))
drawn_are (c ∷ rs) = drawn_are rs

among_both : (xs ys : Named) (f : Symbol) → is_among (symbols_of (xs ++ ys)) f ≡ (is_among (symbols_of xs) f || is_among (symbols_of ys) f)
among_both xs ys f = ap (λ fs. is_among fs f) (both_symbols xs ys) ∙ is_among-append (symbols_of xs) (symbols_of ys) f

-- ---- how often a symbol stands among others

abbrev times : Symbol → List Symbol → ℕ
times f fs = count_by (symbol_eq f) fs

times_more : (f g : Symbol) (fs : List Symbol) (b : Bool) → symbol_eq f g ≡ b → times f (g ∷ fs) ≡ cond b 1 0 + times f fs
times_more f g fs b is = sum_by-cons (λ h. cond (symbol_eq f h) 1 0) g fs ∙ ap (λ c. cond c 1 0 + times f fs) is

pub other_way : (f g : Symbol) → symbol_eq g f ≡ false → symbol_eq f g ≡ false
other_way f g apart = go (true_or_false (symbol_eq f g))
  where
    go : (symbol_eq f g ≡ true) ⊎ (symbol_eq f g ≡ false) → symbol_eq f g ≡ false
    go (inl same) = contrary (symbol_eq g f) ((Decides-symbol_eq g f).1 (sym ((Decides-symbol_eq f g).0 same))) apart
    go (inr other) = other

never_there : (f : Symbol) (fs : List Symbol) → is_among fs f ≡ false → times f fs ≡ 0
never_there f [] apart = refl
never_there f (g ∷ fs) apart =
    let parts = both_false (symbol_eq g f) (is_among fs f) apart in
    let all = times_more f g fs false (other_way f g parts.0) in
    let rest = never_there f fs parts.1 in
    omega (arith, all, rest)

-- a symbol whose name none of them has
unnamed_symbol : (fs : List Symbol) (f : Symbol) → has_name f.name (names_of fs) ≡ false → is_among fs f ≡ false
unnamed_symbol fs f other = go (true_or_false (is_among fs f))
  where
    go : (is_among fs f ≡ true) ⊎ (is_among fs f ≡ false) → is_among fs f ≡ false
    go (inl among) = contrary (has_name f.name (names_of fs)) (named (names_of fs) f.name (among-name fs f among)) other
    go (inr apart) = apart

-- of symbols of different names, once at most
once_of_distinct : (fs : List Symbol) → are_distinct (names_of fs) ≡ true → (f : Symbol) → times f fs ≤ 1
once_of_distinct [] h f = let none : times f [] ≡ 0 = refl in omega (arith, none)
once_of_distinct (g ∷ fs) h f =
    let parts = both_true (not (has_name g.name (names_of fs))) (are_distinct (names_of fs)) h in
    go (true_or_false (symbol_eq f g)) (not_true (has_name g.name (names_of fs)) parts.0) (once_of_distinct fs parts.1 f)
  where
    go : (symbol_eq f g ≡ true) ⊎ (symbol_eq f g ≡ false) → has_name g.name (names_of fs) ≡ false → times f fs ≤ 1 → times f (g ∷ fs) ≤ 1
    go (inl same) other rest =
        let is : f ≡ g = (Decides-symbol_eq f g).0 same in
        let all = times_more f g fs true same in
        let none : times f fs ≡ 0 = never_there f fs (subst (λ h. is_among fs h ≡ false) (sym is) (unnamed_symbol fs g other)) in
        omega (arith, all, none)
    go (inr apart) other rest = let all = times_more f g fs false apart in omega (arith, all, rest)

-- of two lists that have no symbol in common
pub once_of_both : (xs ys : Named) (f : Symbol) → count_by (symbol_eq f) (symbols_of xs) ≤ 1 → count_by (symbol_eq f) (symbols_of ys) ≤ 1 → (is_among (symbols_of xs) f ≡ true → is_among (symbols_of ys) f ≡ false) → count_by (symbol_eq f) (symbols_of (xs ++ ys)) ≤ 1
once_of_both xs ys f first second apart = go (true_or_false (is_among (symbols_of xs) f))
  where
    both : times f (symbols_of (xs ++ ys)) ≡ times f (symbols_of xs) + times f (symbols_of ys)
    both = ap (times f) (both_symbols xs ys) ∙ sum_by-append (λ g. cond (symbol_eq f g) 1 0) (symbols_of xs) (symbols_of ys)

    go : (is_among (symbols_of xs) f ≡ true) ⊎ (is_among (symbols_of xs) f ≡ false) → times f (symbols_of (xs ++ ys)) ≤ 1
    go (inl among) = let none = never_there f (symbols_of ys) (apart among) in omega (arith, both, first, none)
    go (inr out) = let none = never_there f (symbols_of xs) out in omega (arith, both, second, none)

-- ---- one group

abbrev pub HasSortOf : Symbol → Term → Type 0
HasSortOf f t = (to : Sort) → sort_of t ≡ Some to → f.result ≡ to

-- symbols that were drawn from s, where q is left
pub record AreDrawn (ns : Named) (s q : Supply) : Type 0 where
  pub new : (f : Symbol) → NeverGives s f.name → is_among (symbols_of ns) f ≡ false
  pub own : HaveOwn ns ns
  pub gone : (f : Symbol) → is_among (symbols_of ns) f ≡ true → NeverGives q f.name
  pub later : Later s q
  pub sorts : All (λ n. HasSortOf n.0 n.1) ns
  pub once : (f : Symbol) → times f (symbols_of ns) ≤ 1

unnamed : (fs : List Symbol) (f : Symbol) → name_among (names_of fs) f.name ≡ false → is_among fs f ≡ false
unnamed fs f other = go (true_or_false (is_among fs f))
  where
    go : (is_among fs f ≡ true) ⊎ (is_among fs f ≡ false) → is_among fs f ≡ false
    go (inl among) = contrary (name_among (names_of fs) f.name) (among-name fs f among) other
    go (inr apart) = apart

pub by_drawing : ConstantsAreNew → (ts : List Term) (s : Supply) → AreDrawn (draw_each ts s).symbols s (draw_each ts s).names
by_drawing law ts s = record {
  new = λ f never. unnamed (symbols_of (draw_each ts s).symbols) f (law.new ts s f.name never);
  own = own_of_distinct (draw_each ts s).symbols (law.apart ts s);
  gone = λ f among. law.gone ts s f.name (among-name (symbols_of (draw_each ts s).symbols) f among);
  later = law.later ts s;
  sorts = All-weaker (λ (n : Symbol × Term). (n.0.args ≡ []) × HasSortOf n.0 n.1) (λ n. HasSortOf n.0 n.1) (λ n h. h.1) (draw_each ts s).symbols (law.constants ts s);
  once = once_of_distinct (symbols_of (draw_each ts s).symbols) (law.apart ts s);
}

group_drawn : ConstantsAreNew → (r : Replacement) (s q : Supply) → IsGroupOf r.term s (record { group = r.group; names = q }) → AreDrawn r.group.symbols s q
group_drawn law r s q is =
    let ts : List Term = terms_of r.group.symbols in
    subst (λ ns. AreDrawn ns s q) (sym is.symbols) (subst (AreDrawn (draw_each ts s).symbols s) (sym is.names) (by_drawing law ts s))

-- ---- all groups

pub not_drawn : ConstantsAreNew → (rs : List (Command Replacement)) (s r : Supply) → AreGrouped rs s r → (f : Symbol) → NeverGives s f.name → is_among (symbols_of (pairs_in rs)) f ≡ false
not_drawn law [] s r grouped f never = refl
not_drawn law (assert i a ∷ rs) s r grouped f never =
    let here : AreDrawn a.group.symbols s grouped.0 = group_drawn law a s grouped.0 grouped.1.0 in
    among_both a.group.symbols (pairs_in rs) f
    ∙ or_false (is_among (symbols_of a.group.symbols) f) (is_among (symbols_of (pairs_in rs)) f) (here.new f never) (not_drawn law rs grouped.0 r grouped.1.1 f (here.later f.name never))
not_drawn law (c ∷ rs) s r grouped f never = not_drawn law rs s r grouped f never

pub have_own : ConstantsAreNew → (rs : List (Command Replacement)) (s r : Supply) → AreGrouped rs s r → HaveOwn (pairs_in rs) (pairs_in rs)
have_own law [] s r grouped = All-nil _
have_own law (assert i a ∷ rs) s r grouped =
    let here : AreDrawn a.group.symbols s grouped.0 = group_drawn law a s grouped.0 grouped.1.0 in
    own_of_both a.group.symbols (pairs_in rs) here.own (have_own law rs grouped.0 r grouped.1.1) (λ f among. go here f among (true_or_false (is_among (symbols_of a.group.symbols) f)))
  where
    go : AreDrawn a.group.symbols s grouped.0 → (f : Symbol) → is_among (symbols_of (pairs_in rs)) f ≡ true → (is_among (symbols_of a.group.symbols) f ≡ true) ⊎ (is_among (symbols_of a.group.symbols) f ≡ false) → is_among (symbols_of a.group.symbols) f ≡ false
    go here f among (inl before) = contrary (is_among (symbols_of (pairs_in rs)) f) among (not_drawn law rs grouped.0 r grouped.1.1 f (here.gone f before))
    go here f among (inr apart) = apart
have_own law (c ∷ rs) s r grouped = have_own law rs s r grouped

-- each symbol is drawn once
pub drawn_once : ConstantsAreNew → (rs : List (Command Replacement)) (s r : Supply) → AreGrouped rs s r → (f : Symbol) → count_by (symbol_eq f) (symbols_of (pairs_in rs)) ≤ 1
drawn_once law [] s r grouped f = let none : times f [] ≡ 0 = refl in omega (arith, none)
drawn_once law (assert i a ∷ rs) s r grouped f =
    let here : AreDrawn a.group.symbols s grouped.0 = group_drawn law a s grouped.0 grouped.1.0 in
    once_of_both a.group.symbols (pairs_in rs) f (here.once f) (drawn_once law rs grouped.0 r grouped.1.1 f) (λ among. not_drawn law rs grouped.0 r grouped.1.1 f (here.gone f among))
drawn_once law (c ∷ rs) s r grouped f = drawn_once law rs s r grouped f

-- a group for its assertion, whose symbols have their own terms among these
pub record IsGroupWithin (all : Named) (a : Replacement) : Type 0 where
  pub before : Supply
  pub behind : Supply
  pub is : IsGroupOf a.term before (record { group = a.group; names = behind })
  pub own : HaveOwn all a.group.symbols
  pub sorts : All (λ n. HasSortOf n.0 n.1) a.group.symbols

abbrev pub EachIsGroup : Named → List (Command Replacement) → Type 0
EachIsGroup all rs = EachFits Replacement (IsGroupWithin all) (λ f. ⊤) (λ t. ⊤) rs

groups_within : ConstantsAreNew → (all : Named) (rs : List (Command Replacement)) (s r : Supply) → AreGrouped rs s r → HaveOwn all (pairs_in rs) → EachIsGroup all rs
groups_within law all [] s r grouped own = tt
groups_within law all (assert i a ∷ rs) s r grouped own =
    let here : AreDrawn a.group.symbols s grouped.0 = group_drawn law a s grouped.0 grouped.1.0 in
    let parts = all_parted (λ n. term_for all n.0 ≡ Some n.1) a.group.symbols (pairs_in rs) own in
    (record { before = s; behind = grouped.0; is = grouped.1.0; own = parts.0; sorts = here.sorts }, groups_within law all rs grouped.0 r grouped.1.1 parts.1)
groups_within law all (check_assuming ls ∷ rs) s r grouped own = (λ k d lt. tt, groups_within law all rs s r grouped own)
groups_within law all (c ∷ rs) s r grouped own = (tt, groups_within law all rs s r grouped own)

pub each_is_group : ConstantsAreNew → (rs : List (Command Replacement)) (s r : Supply) → AreGrouped rs s r → EachIsGroup (pairs_in rs) rs
each_is_group law rs s r grouped = groups_within law (pairs_in rs) rs s r grouped (have_own law rs s r grouped)
