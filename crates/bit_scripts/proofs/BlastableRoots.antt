-- The roots of a check that isn't refused can be blasted: they are well-sorted formulas of bits over constants that are live at the
-- check, and the supply gives none of their names.
use Rattle.std.proofs.Common.{◌≡◌, ◌∙◌, sym, refl, subst, ℕ, Bool, true, false, ◌&&◌, ◌⊎◌, inl, inr, List, [], ◌∷◌, map, Some, None, All, IsTrue}
use Rattle.std.specs.Prelude.{if◌then◌else◌}
use Rattle.std.proofs.lemmas.List.Elements.{All-nil, All-cons, All-head, All-tail, All-append, All-weaker}
use Rattle.smt_terms.specs.Equal.{symbol_eq}
use Rattle.smt_terms.specs.Free.{is_among, with_more, head_symbols, free, free_of}
use Rattle.smt_terms.specs.Fresh.{Supply}
use Rattle.smt_terms.specs.Rank.{sort_of, IsWellSorted}
use Rattle.smt_terms.specs.Sorts.{Sort, bool, Symbol}
use Rattle.smt_terms.specs.SubstLaws.{names_within, GivesNone}
use Rattle.smt_terms.specs.Term.{Head, op, symbol, const_array, Term, apply, quantified, Terms, none, ◌⨾◌, terms}
use Rattle.smt_terms.proofs.Among.{is_among-with_more}
use Rattle.smt_terms.proofs.Equal.{symbol_itself}
use Rattle.smt_terms.proofs.Tests.{both_true, and_true, either_true, left_true, right_true}
use Rattle.script_read.specs.Commands.{Command, live, literals, signature}
use Rattle.script_read.specs.Laws.{GivesNoNameOf}
use Rattle.script_read.specs.Printable.{printable}
use Rattle.models.specs.LiveTerms.{live_terms}
use Rattle.bit_blast.specs.Blasted.{is_bits_head, is_bits_sort, is_bits, are_bits}
use Rattle.bit_blast.specs.Laws.{AreBlastable, are_among}
use Rattle.models.specs.LiveRoots.{roots}
use Rattle.bit_scripts.specs.Scripts.{first_refused, refused_root}
use Rattle.bit_scripts.proofs.DistinctNames.{among_one}
use Rattle.bit_scripts.proofs.LiveFormulas.{IsLiveFormula}
use Rattle.models.proofs.LiveRoots.{roots_are}
use Rattle.bit_scripts.proofs.LivePoints.{LiveAt, live_at}
use Rattle.bit_scripts.proofs.LiveStates.{AreLive}

-- ---- they are formulas of bits

abbrev IsOfBits : Term → Type 0
IsOfBits t = is_bits t ≡ true

all_of_bits : (rs : List (Term × ℕ)) → first_refused rs ≡ None → All IsOfBits (map (λ r. r.0) rs)
all_of_bits [] accepted = All-nil IsOfBits
all_of_bits (r ∷ rs) accepted = go (is_bits r.0) refl accepted (all_of_bits rs)
  where
    go : (b : Bool) → is_bits r.0 ≡ b → (if b then first_refused rs else Some r.1) ≡ None → (first_refused rs ≡ None → All IsOfBits (map (λ q. q.0) rs)) → All IsOfBits (map (λ q. q.0) (r ∷ rs))
    go true here passed below = All-cons IsOfBits r.0 (map (λ q. q.0) rs) here (below passed)
    go false here passed below = absurd cc

-- ---- their symbols

either_among : (fs gs : List Symbol) (f : Symbol) → is_among (with_more fs gs) f ≡ true → (is_among fs f ≡ true) ⊎ (is_among gs f ≡ true)
either_among fs gs f among = either_true (is_among fs f) (is_among gs f) (sym (is_among-with_more fs gs f) ∙ among)

either : {P Q R : Type 0} → P ⊎ Q → (P → R) → (Q → R) → R
either (inl p) first second = first p
either (inr q) first second = second q

no_arguments : (f : Symbol) → is_bits_head (symbol f) ≡ true → f.args ≡ []
no_arguments f plain = go f.args plain
  where
    go : (ss : List Sort) → is_bits_head (symbol (record { name = f.name; args = ss; result = f.result })) ≡ true → ss ≡ []
    go [] plain = refl
    go (s ∷ ss) plain = absurd cc

head_constant : (h : Head) → is_bits_head h ≡ true → (f : Symbol) → is_among (head_symbols h) f ≡ true → f.args ≡ []
head_constant (op o) plain f among = absurd cc
head_constant (const_array s) plain f among = absurd cc
head_constant (symbol g) plain f among = subst (λ (k : Symbol). k.args ≡ []) (among_one g f among) (no_arguments g plain)

mutual
  free_constant : (t : Term) → is_bits t ≡ true → (f : Symbol) → is_among (free t) f ≡ true → f.args ≡ []
  free_constant (apply h ts) plain f among =
      let parts = both_true (is_bits_head h && is_bits_sort (sort_of (apply h ts))) (are_bits ts) plain in
      let head = both_true (is_bits_head h) (is_bits_sort (sort_of (apply h ts))) parts.0 in
      either (either_among (head_symbols h) (free_of ts) f among) (head_constant h head.0 f) (free_constants ts parts.1 f)
  free_constant (quantified q xs t) plain f among = absurd cc

  free_constants : (ts : Terms) → are_bits ts ≡ true → (f : Symbol) → is_among (free_of ts) f ≡ true → f.args ≡ []
  free_constants none plain f among = absurd cc
  free_constants (t ⨾ ts) plain f among =
      let parts = both_true (is_bits t) (are_bits ts) plain in
      either (either_among (free t) (free_of ts) f among) (free_constant t parts.0 f) (free_constants ts parts.1 f)

all_bits : (ts : List Term) → All IsOfBits ts → are_bits (terms ts) ≡ true
all_bits [] all = refl
all_bits (t ∷ ts) all = and_true (is_bits t) (are_bits (terms ts)) (All-head IsOfBits t ts all) (all_bits ts (All-tail IsOfBits t ts all))

free_live : (s : Supply) (fs : List Symbol) (ts : List Term) → All (IsLiveFormula s fs) ts → (f : Symbol) → is_among (free_of (terms ts)) f ≡ true → is_among fs f ≡ true
free_live s fs [] all f among = absurd cc
free_live s fs (t ∷ ts) all f among =
    let first : IsLiveFormula s fs t = All-head (IsLiveFormula s fs) t ts all in
    either (either_among (free t) (free_of (terms ts)) f among) (first.free f) (free_live s fs ts (All-tail (IsLiveFormula s fs) t ts all) f)

each_among : (fs gs : List Symbol) → ((f : Symbol) → is_among gs f ≡ true → is_among fs f ≡ true) → are_among fs gs ≡ true
each_among fs [] each = refl
each_among fs (g ∷ gs) each =
    and_true (is_among fs g) (are_among fs gs) (each g (left_true (symbol_eq g g) (is_among gs g) (symbol_itself g)))
    (each_among fs gs (λ f among. each f (right_true (symbol_eq g f) (is_among gs f) among)))

-- ---- the roots of a check

abbrev root_symbols : List (Command Term) → ℕ → List Symbol
root_symbols cs k = free_of (terms (roots cs k))

pub record RootsFit (cs : List (Command Term)) (k : ℕ) (s : Supply) : Type 0 where
  pub blastable : AreBlastable (roots cs k) s
  pub among : IsTrue (are_among (signature cs k).symbols (free_of (terms (roots cs k))))
  pub live : (f : Symbol) → is_among (free_of (terms (roots cs k))) f ≡ true → is_among (signature cs k).symbols f ≡ true
  pub constants : (f : Symbol) → is_among (free_of (terms (roots cs k))) f ≡ true → f.args ≡ []
  pub symbols : AreLive s (signature cs k).symbols

pub roots_fit : (cs : List (Command Term)) (k : ℕ) (s : Supply) → printable cs ≡ true → GivesNoNameOf s cs → refused_root cs k ≡ None → RootsFit cs k s
roots_fit cs k s prints names accepted = record {
  blastable = record {
    sorted = All-weaker (IsLiveFormula s fs) IsWellSorted (λ t formula. formula.sorted) (roots cs k) formulas;
    sorts = All-weaker (IsLiveFormula s fs) (λ t. sort_of t ≡ Some bool) (λ t formula. formula.sort) (roots cs k) formulas;
    bits = of_bits;
    names = All-weaker (IsLiveFormula s fs) (λ t. GivesNone s (names_within t)) (λ t formula. formula.names) (roots cs k) formulas;
  };
  among = each_among fs (root_symbols cs k) (free_live s fs (roots cs k) formulas);
  live = free_live s fs (roots cs k) formulas;
  constants = free_constants (terms (roots cs k)) (all_bits (roots cs k) of_bits);
  symbols = at.symbols;
}
  where
    fs : List Symbol
    fs = (signature cs k).symbols

    at : LiveAt s (signature cs k).symbols (live cs k) (literals cs k)
    at = live_at s cs k prints names

    formulas : All (IsLiveFormula s (signature cs k).symbols) (roots cs k)
    formulas =
        subst (All (IsLiveFormula s (signature cs k).symbols)) (sym (roots_are cs k))
        (All-append (IsLiveFormula s (signature cs k).symbols) (live cs k) (literals cs k) at.live at.literals)

    of_bits : All IsOfBits (roots cs k)
    of_bits = all_of_bits (live_terms cs k) accepted
