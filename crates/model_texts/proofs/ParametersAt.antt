-- Parameters are read from left to right.
use Rattle.std.proofs.Common.{◌≡◌, ◌∙◌, sym, ap, refl, ℕ, Bool, true, false, not, if◌then◌else◌, inl, inr, List, [], ◌∷◌, ◌++◌, map, Option, Some, None}
use Rattle.std.proofs.lemmas.Option.{none-some, same_Some}
use Rattle.std.specs.Borrow.{Bor}
use Rattle.smt_lex.specs.Names.{is_among}
use Rattle.smt_lex.specs.Lex.{Token}
use Rattle.smt_lex.specs.Forms.{Form}
use Rattle.smt_terms.specs.Equal.{name_eq}
use Rattle.smt_terms.specs.Sorts.{Name}
use Rattle.smt_terms.proofs.Equal.{name_itself, name_same}
use Rattle.smt_terms.proofs.Tests.{both_true, either_true, left_true, right_true, not_true}
use Rattle.model_texts.specs.Entries.{Parameter, with_parameter}
use Rattle.model_texts.specs.GivenParameters.{NamedSorts, parameter_of, parameters_of}
use Rattle.model_texts.specs.Proper.{are_distinct}

abbrev names : List Parameter → List Name
names ps = map (λ p. p.name) ps

-- parameters in front of others
abbrev pub joined : List Parameter → Option (List Parameter) → Option (List Parameter)
joined [] o = o
joined (p ∷ ps) o = with_parameter p.sort (Some p.name) (joined ps o)

pub joined_last : (qs : List Parameter) (p : Parameter) (o : Option (List Parameter)) → joined (qs ++ p ∷ []) o ≡ joined qs (with_parameter p.sort (Some p.name) o)
joined_last [] p o = refl
joined_last (q ∷ qs) p o = ap (with_parameter q.sort (Some q.name)) (joined_last qs p o)

pub joined_none : (qs : List Parameter) → joined qs None ≡ None
joined_none [] = refl
joined_none (q ∷ qs) = ap (with_parameter q.sort (Some q.name)) (joined_none qs)

pub joined_all : (qs : List Parameter) → are_distinct (names qs) ≡ true → joined qs (Some []) ≡ Some qs
joined_all [] apart = refl
joined_all (q ∷ qs) apart =
    let parts = both_true (not (is_among (names qs) q.name)) (are_distinct (names qs)) apart in
    ap (with_parameter q.sort (Some q.name)) (joined_all qs parts.1)
    ∙ ap (λ b. if b then None else Some (q ∷ qs)) (not_true (is_among (names qs) q.name) parts.0)

-- ---- a name that is there already

module _ (s : Form) (n : Name) (o : Option (List Parameter)) where
  abbrev behind : List Parameter → Option (List Parameter)
  behind qs = joined qs (with_parameter s (Some n) o)

  first_has : (p : Option (List Parameter)) (ps : List Parameter) → with_parameter s (Some n) p ≡ Some ps → is_among (names ps) n ≡ true
  first_has None ps h = absurd (none-some ps h)
  first_has (Some qs) ps h = by (is_among (names qs) n) h
    where
      by : (b : Bool) → (if b then None else Some (record { name = n; sort = s } ∷ qs)) ≡ Some ps → is_among (names ps) n ≡ true
      by true h = absurd (none-some ps h)
      by false h =
          ap (λ rs. is_among (names rs) n) (sym (same_Some (record { name = n; sort = s } ∷ qs) ps h))
          ∙ left_true (name_eq n n) (is_among (names qs) n) (name_itself n)

  next_has : (q : Parameter) (r : Option (List Parameter)) (ps : List Parameter) → ((rs : List Parameter) → r ≡ Some rs → is_among (names rs) n ≡ true)
      → with_parameter q.sort (Some q.name) r ≡ Some ps → is_among (names ps) n ≡ true
  next_has q None ps rest h = absurd (none-some ps h)
  next_has q (Some rs) ps rest h = by (is_among (names rs) q.name) h
    where
      by : (b : Bool) → (if b then None else Some (q ∷ rs)) ≡ Some ps → is_among (names ps) n ≡ true
      by true h = absurd (none-some ps h)
      by false h =
          ap (λ ds. is_among (names ds) n) (sym (same_Some (q ∷ rs) ps h))
          ∙ right_true (name_eq n q.name) (is_among (names rs) n) (rest rs refl)

  all_have : (qs ps : List Parameter) → behind qs ≡ Some ps → is_among (names ps) n ≡ true
  all_have [] ps h = first_has o ps h
  all_have (q ∷ qs) ps h = next_has q (behind qs) ps (all_have qs) h

  refused_here : (q : Parameter) (r : Option (List Parameter)) → ((rs : List Parameter) → r ≡ Some rs → is_among (names rs) q.name ≡ true) → with_parameter q.sort (Some q.name) r ≡ None
  refused_here q None has = refl
  refused_here q (Some rs) has = ap (λ b. if b then None else Some (q ∷ rs)) (has rs refl)

  pub joined_again : (qs : List Parameter) → is_among (names qs) n ≡ true → behind qs ≡ None
  joined_again [] there = absurd cc
  joined_again (q ∷ qs) there =
      elim (either_true (name_eq n q.name) (is_among (names qs) n) there) [
        | inl same ↦ refused_here q (behind qs) (λ rs h. ap (is_among (names rs)) (sym (name_is same)) ∙ all_have qs rs h)
        | inr later ↦ ap (with_parameter q.sort (Some q.name)) (joined_again qs later)
      ]
    where
      name_is : name_eq n q.name ≡ true → n ≡ q.name
      name_is same = name_same n q.name same

-- ---- by the numbers of tokens

module _ (ts : List Token) where
  pub names_at : (ps : NamedSorts) → names (parameters_of ts ps) ≡ map (λ p. p.0) ps
  names_at [] = refl
  names_at (p ∷ ps) = ap (λ ns. p.0 ∷ ns) (names_at ps)

  abbrev pub seen : List (Bor (List ℕ) × ℕ) → List Parameter
  seen es = parameters_of ts (map (λ e. (e.0.now, e.1)) es)

  pub seen_last : (es : List (Bor (List ℕ) × ℕ)) (e : Bor (List ℕ) × ℕ) → seen (es ++ e ∷ []) ≡ seen es ++ parameter_of ts (e.0.now, e.1) ∷ []
  seen_last [] e = refl
  seen_last (d ∷ es) e = ap (λ ps. parameter_of ts (d.0.now, d.1) ∷ ps) (seen_last es e)
