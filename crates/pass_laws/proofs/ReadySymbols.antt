-- The new symbols of a group: constants of live sorts with usable names, which neither stand in the commands before the pass nor
-- are drawn again.
use Rattle.std.proofs.Common.{◌≡◌, ◌∙◌, sym, ap, refl, subst, ℕ, zero, suc, ◌<◌, true, false, List, [], ◌∷◌, length, get_or, Option, Some, None, arith}
use Rattle.std.specs.Prelude.{All, is_some, unwrap_or}
use Rattle.std.proofs.lemmas.List.Elements.{All-nil, All-cons, All-same}
use Rattle.smt_terms.specs.Equal.{name_eq}
use Rattle.smt_terms.specs.Free.{name_among, names_of}
use Rattle.smt_terms.specs.Fresh.{Supply, numbered_name, next_number, after_draw, fresh_constant, NeverGives}
use Rattle.smt_terms.specs.Groups.{Named, Group, draw_each}
use Rattle.smt_terms.specs.Rank.{sort_of, is_sort, is_regular, are_distinct, IsWellSorted}
use Rattle.smt_terms.specs.Sorts.{bool, Name, Sort, Symbol}
use Rattle.smt_terms.specs.SubstLaws.{Later}
use Rattle.smt_terms.specs.Term.{Term}
use Rattle.smt_terms.proofs.Equal.{name_itself}
use Rattle.smt_terms.proofs.SortsOfTerms.{sort_is_sort}
use Rattle.smt_terms.proofs.Tests.{both_true, left_true, right_true, contrary}
use Rattle.term_groups.specs.Drawing.{ConstantsAreNew, drawn_names}
use Rattle.term_groups.specs.Grouping.{IsGroupOf, IsPart, symbols_of, terms_of}
use Rattle.script_read.specs.Printable.{is_usable, sort_is_live, all_within}
use Rattle.pass_laws.proofs.ReadySorts.{every_within, heads_within, binders_within, sort_of_live}

-- ---- names

pub drawn_usable : ((i : ℕ) → is_usable (numbered_name i) ≡ true) → (ts : List Term) (s : Supply) → All (λ p. is_usable p.0.name ≡ true) (draw_each ts s).symbols
drawn_usable usable [] s = All-nil (λ (p : Symbol × Term). is_usable p.0.name ≡ true)
drawn_usable usable (t ∷ ts) s =
    All-cons (λ (p : Symbol × Term). is_usable p.0.name ≡ true) (fresh_constant (unwrap_or (sort_of t) bool) s, t) (draw_each ts (after_draw s)).symbols
    (usable (next_number s)) (drawn_usable usable ts (after_draw s))

pub name_at : (ns : Named) (k : ℕ) (d : Symbol × Term) → k < length ns → name_among (names_of (symbols_of ns)) (get_or ns k d).0.name ≡ true
name_at [] k d lt = absurd (omega arith)
name_at (n ∷ ns) zero d lt = left_true (name_eq n.0.name n.0.name) (name_among (names_of (symbols_of ns)) n.0.name) (name_itself n.0.name)
name_at (n ∷ ns) (suc k) d lt = right_true (name_eq n.0.name (get_or ns k d).0.name) (name_among (names_of (symbols_of ns)) (get_or ns k d).0.name) (name_at ns k d (omega arith))

-- what is known of the names of a group for t, with names drawn from s and q left
pub record NamesOfGroup (s q : Supply) (ns : Named) : Type 0 where
  pub new : (n : Name) → NeverGives s n → name_among (names_of (symbols_of ns)) n ≡ false
  pub apart : are_distinct (names_of (symbols_of ns)) ≡ true
  pub gone : (n : Name) → name_among (names_of (symbols_of ns)) n ≡ true → NeverGives q n
  pub later : Later s q

pub names_of_group : ConstantsAreNew → (t : Term) (s q : Supply) (g : Group) → IsGroupOf t s (record { group = g; names = q }) → NamesOfGroup s q g.symbols
names_of_group constants t s q g is = record {
  new = λ n never. ap (λ ms. name_among ms n) same ∙ constants.new (terms_of g.symbols) s n never;
  apart = ap are_distinct same ∙ constants.apart (terms_of g.symbols) s;
  gone = λ n among. subst (λ r. NeverGives r n) (sym is.names) (constants.gone (terms_of g.symbols) s n (sym (ap (λ ms. name_among ms n) same) ∙ among));
  later = subst (λ r. Later s r) (sym is.names) (constants.later (terms_of g.symbols) s);
}
  where
    same : names_of (symbols_of g.symbols) ≡ drawn_names (terms_of g.symbols) s
    same = ap (λ ns. names_of (symbols_of ns)) is.symbols

-- ---- sorts

pub record HasSort (t : Term) : Type 0 where
  pub sort : Sort
  pub has : sort_of t ≡ Some sort

pub has_sort_of : (t : Term) → IsWellSorted t → HasSort t
has_sort_of t fine = go (sort_of t) refl (both_true (is_some (sort_of t)) (is_regular t) fine).0
  where
    go : (o : Option Sort) → sort_of t ≡ o → is_some o ≡ true → HasSort t
    go (Some r) e some = record { sort = r; has = e }
    go None e some = absurd cc

-- ---- symbols

abbrev IsUsable : Symbol × Term → Type 0
IsUsable p = is_usable p.0.name ≡ true

-- a constant of the sort of its term
abbrev IsConstant : Symbol × Term → Type 0
IsConstant p = (p.0.args ≡ []) × ((to : Sort) → sort_of p.1 ≡ Some to → p.0.result ≡ to)

-- what is known of a new symbol, where s gives no name of the commands, ds are the sorts that are declared and q is left
pub record MayCome (s q : Supply) (ds : List Name) (f : Symbol) : Type 0 where
  pub usable : is_usable f.name ≡ true
  pub args : f.args ≡ []
  pub sort : is_sort f.result ≡ true
  pub live : sort_is_live ds f.result ≡ true
  pub new : NeverGives s f.name → ⊥
  pub gone : NeverGives q f.name

pub may_come : ((i : ℕ) → is_usable (numbered_name i) ≡ true) → ConstantsAreNew → (t : Term) (s r q : Supply) (g : Group) → IsGroupOf t r (record { group = g; names = q })
    → Later s r → (ds : List Name) → all_within (sort_is_live ds) is_usable t ≡ true → All (λ p. MayCome s q ds p.0) g.symbols
may_come usable constants t s r q g is later ds within = λ k d lt. come k d lt
  where
    names : NamesOfGroup r q g.symbols
    names = names_of_group constants t r q g is

    all_usable : All IsUsable g.symbols
    all_usable = All-same IsUsable g.symbols (draw_each (terms_of g.symbols) r).symbols is.symbols (drawn_usable usable (terms_of g.symbols) r)

    all_constants : All IsConstant g.symbols
    all_constants = All-same IsConstant g.symbols (draw_each (terms_of g.symbols) r).symbols is.symbols (constants.constants (terms_of g.symbols) r)

    part_within : (p : Symbol × Term) → IsPart t p.1 → all_within (sort_is_live ds) is_usable p.1 ≡ true
    part_within p part =
        sym (every_within (sort_is_live ds) is_usable p.1)
        ∙ part.within (heads_within (sort_is_live ds)) (binders_within (sort_is_live ds) is_usable) (every_within (sort_is_live ds) is_usable t ∙ within)

    comes : (p : Symbol × Term) → IsUsable p → IsConstant p → IsPart t p.1 → name_among (names_of (symbols_of g.symbols)) p.0.name ≡ true → MayCome s q ds p.0
    comes p fine constant part among =
        let own : HasSort p.1 = has_sort_of p.1 part.sorted in
        let same : p.0.result ≡ own.sort = constant.1 own.sort own.has in
        record {
          usable = fine;
          args = constant.0;
          sort = ap is_sort same ∙ sort_is_sort p.1 own.sort (both_true (is_some (sort_of p.1)) (is_regular p.1) part.sorted).1 own.has;
          live = ap (sort_is_live ds) same ∙ sort_of_live ds is_usable p.1 own.sort (part_within p part) own.has;
          new = λ never. contrary {A = ⊥} (name_among (names_of (symbols_of g.symbols)) p.0.name) among (names.new p.0.name (later p.0.name never));
          gone = names.gone p.0.name among;
        }

    come : (k : ℕ) (d : Symbol × Term) → k < length g.symbols → MayCome s q ds (get_or g.symbols k d).0
    come k d lt = comes (get_or g.symbols k d) (all_usable k d lt) (all_constants k d lt) (is.parts k d lt) (name_at g.symbols k d lt)
