-- Constants that are drawn for terms that are all different: their names are new and different, and each term finds its own.
use Rattle.std.proofs.Common.{◌≡◌, ◌≢◌, Bool, true, false, cond, List, [], ◌∷◌, ◌++◌, All, Some, unwrap_or, refl, ap, sym, ◌∙◌}
use Rattle.std.specs.Prelude.{⊤}
use Rattle.std.proofs.lemmas.List.Elements.{All-nil, All-cons, All-head, All-tail, All-append}
use Rattle.smt_terms.specs.Equal.{symbol_eq, term_eq}
use Rattle.smt_terms.specs.Fresh.{Supply, after_draw, fresh_constant, NeverGives}
use Rattle.smt_terms.specs.Groups.{Named, constant_for, draw_each}
use Rattle.smt_terms.specs.Rank.{sort_of}
use Rattle.smt_terms.specs.Sorts.{Name, bool, Symbol}
use Rattle.smt_terms.specs.Term.{Term}
use Rattle.smt_terms.proofs.Equal.{Decides-symbol_eq, Decides-term_eq}
use Rattle.smt_terms.proofs.Fresh.{never-next, never-after}

-- ---- what is drawn

-- what holds of each constant that is drawn for a term of this kind
pub drawn-each : (P : Symbol × Term → Type 0) (Q : Term → Type 0) → ((t : Term) (s : Supply) → Q t → P (fresh_constant (unwrap_or (sort_of t) bool) s, t)) → (ts : List Term) (s : Supply) → All Q ts → All P (draw_each ts s).symbols
drawn-each P Q holds [] s all = All-nil P
drawn-each P Q holds (t ∷ ts) s all =
    All-cons P (fresh_constant (unwrap_or (sort_of t) bool) s, t) (draw_each ts (after_draw s)).symbols
    (holds t s (All-head Q t ts all))
    (drawn-each P Q holds ts (after_draw s) (All-tail Q t ts all))

abbrev pub IsNamedElse : Name → Symbol × Term → Type 0
IsNamedElse n p = p.0.name ≢ n

-- no constant has a name that the supply doesn't give
pub drawn-new : (ts : List Term) (s : Supply) (n : Name) → NeverGives s n → All (IsNamedElse n) (draw_each ts s).symbols
drawn-new [] s n never = All-nil (IsNamedElse n)
drawn-new (t ∷ ts) s n never =
    All-cons (IsNamedElse n) (fresh_constant (unwrap_or (sort_of t) bool) s, t) (draw_each ts (after_draw s)).symbols
    (λ same. never-next s n never (sym same))
    (drawn-new ts (after_draw s) n (never-after s n never))

pub other-symbol : (f g : Symbol) → f.name ≢ g.name → symbol_eq f g ≡ false
other-symbol f g apart = go (symbol_eq f g) refl
  where
    go : (b : Bool) → symbol_eq f g ≡ b → b ≡ false
    go true e = absurd (apart (ap (λ (h : Symbol). h.name) ((Decides-symbol_eq f g).0 e)))
    go false e = refl

-- ---- terms that are all different

abbrev pub IsOther : Term → Term → Type 0
IsOther t u = t ≢ u

abbrev pub AreDifferent : List Term → Type 0
AreDifferent [] = ⊤
AreDifferent (t ∷ ts) = All (IsOther t) ts × AreDifferent ts

pub different-append : (ts us : List Term) → AreDifferent ts → AreDifferent us → All (λ t. All (IsOther t) us) ts → AreDifferent (ts ++ us)
different-append [] us first second apart = second
different-append (t ∷ ts) us first second apart = (
  All-append (IsOther t) ts us first.0 (All-head (λ t. All (IsOther t) us) t ts apart),
  different-append ts us first.1 second (All-tail (λ t. All (IsOther t) us) t ts apart),
)

other-term : (t u : Term) → t ≢ u → term_eq t u ≡ false
other-term t u apart = go (term_eq t u) refl
  where
    go : (b : Bool) → term_eq t u ≡ b → b ≡ false
    go true e = absurd (apart ((Decides-term_eq t u).0 e))
    go false e = refl

abbrev pub FindsItself : Named → Symbol × Term → Type 0
FindsItself ns p = constant_for ns p.1 ≡ Some p.0

finds-behind : (c : Symbol) (t : Term) (ns : Named) (p : Symbol × Term) → t ≢ p.1 → FindsItself ns p → FindsItself ((c, t) ∷ ns) p
finds-behind c t ns p apart found = ap (λ b. cond b (Some c) (constant_for ns p.1)) (other-term t p.1 apart) ∙ found

pub finds-itself : (ts : List Term) (s : Supply) → AreDifferent ts → All (FindsItself (draw_each ts s).symbols) (draw_each ts s).symbols
finds-itself [] s different = All-nil (FindsItself [])
finds-itself (t ∷ ts) s different =
    All-cons (FindsItself (draw_each (t ∷ ts) s).symbols) (c, t) rest
    (ap (λ b. cond b (Some c) (constant_for rest t)) ((Decides-term_eq t t).1 refl))
    (λ k d lt. finds-behind c t rest _ (others k d lt) (finds-itself ts (after_draw s) different.1 k d lt))
  where
    c : Symbol
    c = fresh_constant (unwrap_or (sort_of t) bool) s

    rest : Named
    rest = (draw_each ts (after_draw s)).symbols

    others : All (λ (p : Symbol × Term). t ≢ p.1) rest
    others = drawn-each (λ (p : Symbol × Term). t ≢ p.1) (IsOther t) (λ u r apart. apart) ts (after_draw s) different.0
