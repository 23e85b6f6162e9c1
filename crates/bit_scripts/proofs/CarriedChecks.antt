-- Models of a check, lowered, are models of the truth values that are declared for it, and models of these, lifted, are models of the
-- check; each satisfies its commands where the other does.
use Rattle.std.proofs.Common.{◌≡◌, ◌∙◌, sym, ap, refl, subst, ℕ, Bool, true, false, cond, ◌&&◌, ◌||◌, List, [], ◌∷◌, ◌++◌, map, filter, Some, None}
use Rattle.std.specs.Prelude.{is_some}
use Rattle.std.specs.List.{list_any, list_all}
use Rattle.std.proofs.lemmas.List.Folds.{list_any-append, list_all-append}
use Rattle.smt_terms.specs.Equal.{symbol_eq}
use Rattle.smt_terms.specs.Fresh.{Supply}
use Rattle.smt_terms.specs.Groups.{Named}
use Rattle.smt_terms.specs.Models.{Model, IsModel, IsModelOver, symbol_value}
use Rattle.smt_terms.specs.Sorts.{Sort, bool, Symbol}
use Rattle.smt_terms.specs.Term.{Term}
use Rattle.smt_terms.specs.Val.{no_variables, val}
use Rattle.smt_terms.proofs.Equal.{Decides-symbol_eq}
use Rattle.smt_terms.proofs.Tests.{alike_from}
use Rattle.term_groups.specs.Grouping.{symbols_of}
use Rattle.script_read.specs.Commands.{Command, Signature, signature, live, literals}
use Rattle.script_read.specs.Satisfied.{sat}
use Rattle.bit_blast.specs.Carried.{everywhere, lifted_value, kept_flag, lowered_graph}
use Rattle.bit_blast.specs.Laws.{holds, ReadsBits, BlastKeepsValues, BlastLifts, BlastLowers}
use Rattle.bit_scripts.specs.Laws.{IsModelAt}
use Rattle.models.specs.LiveRoots.{roots, is_flag_over, is_flag}
use Rattle.bit_scripts.specs.Scripts.{root_group, new_bits, lifted_model, lowered_model}
use Rattle.bit_scripts.proofs.BlastableRoots.{RootsFit}
use Rattle.bit_scripts.proofs.DeclaredFlags.{script_over, declared_for, signature_over, live_over, literals_over}
use Rattle.models.proofs.LiveRoots.{roots_are}

-- ---- satisfaction

all_hold : (m n : Model) (ts us : List Term) → map (holds m) ts ≡ map (holds n) us → list_all (holds m) ts ≡ list_all (holds n) us
all_hold m n ts us same = sym (by_values m ts) ∙ ap (list_all (λ b. b)) same ∙ by_values n us
  where
    by_values : (m : Model) (ts : List Term) → list_all (λ b. b) (map (holds m) ts) ≡ list_all (holds m) ts
    by_values m [] = refl
    by_values m (t ∷ ts) = ap (λ b. holds m t && b) (by_values m ts)

-- at the check
sat_roots : (n : Model) (cs : List (Command Term)) (k : ℕ) → list_all (holds n) (roots cs k) ≡ sat n cs k
sat_roots n cs k = ap (list_all (holds n)) (roots_are cs k) ∙ list_all-append (holds n) (live cs k) (literals cs k)

-- and in its place
sat_over : (m : Model) (fs : List Symbol) (us : List Term) → list_all (holds m) us ≡ sat m (script_over fs us) 1
sat_over m fs us = sym (no_literals (list_all (holds m) us)) ∙ (λ i. list_all (holds m) (sym (live_over fs us) i) && list_all (holds m) (sym (literals_over fs us) i))
  where
    no_literals : (b : Bool) → (b && true) ≡ b
    no_literals true = refl
    no_literals false = refl

-- ---- which symbols the models have

some_if : {A : Type 0} (b : Bool) (a : A) → is_some (cond b (Some a) None) ≡ b
some_if true a = refl
some_if false a = refl

eq_turned : (f g : Symbol) → symbol_eq f g ≡ symbol_eq g f
eq_turned f g =
    alike_from (symbol_eq f g) (symbol_eq g f)
    (λ same. (Decides-symbol_eq g f).1 (sym ((Decides-symbol_eq f g).0 same)))
    (λ same. (Decides-symbol_eq f g).1 (sym ((Decides-symbol_eq g f).0 same)))

any_if : (test : Symbol → Bool) (b : Bool) (g : Symbol) (fs : List Symbol) → list_any test (cond b (g ∷ fs) fs) ≡ ((test g && b) || list_any test fs)
any_if test b g fs = go b (test g) refl
  where
    go : (b c : Bool) → test g ≡ c → list_any test (cond b (g ∷ fs) fs) ≡ ((c && b) || list_any test fs)
    go true true is = ap (λ d. d || list_any test fs) is
    go true false is = ap (λ d. d || list_any test fs) is
    go false true is = refl
    go false false is = refl

let_through : (same earlier p q : Bool) → (same ≡ true → q ≡ p) → ((same && q) || (earlier && p)) ≡ ((same || earlier) && p)
let_through true earlier p q alike = ap (λ b. b || (earlier && p)) (alike refl) ∙ absorbed earlier p
  where
    absorbed : (a b : Bool) → (b || (a && b)) ≡ b
    absorbed true true = refl
    absorbed true false = refl
    absorbed false true = refl
    absorbed false false = refl
let_through false earlier p q alike = refl

-- a symbol is among the truth values of a list where it is in the list and is one
any_flag : (fs : List Symbol) (f : Symbol) → list_any (symbol_eq f) (filter is_flag fs) ≡ (list_any (symbol_eq f) fs && is_flag f)
any_flag [] f = refl
any_flag (g ∷ fs) f =
    any_if (symbol_eq f) (is_flag g) g (filter is_flag fs)
    ∙ ap (λ b. (symbol_eq f g && is_flag g) || b) (any_flag fs f)
    ∙ let_through (symbol_eq f g) (list_any (symbol_eq f) fs) (is_flag f) (is_flag g) (λ same. ap is_flag (sym ((Decides-symbol_eq f g).0 same)))

kept_some : (fs : List Symbol) (n : Model) (f : Symbol) → is_some (kept_flag fs n f f.args f.result) ≡ list_any (symbol_eq f) (filter is_flag fs)
kept_some fs n f = go f.args f.result ∙ sym (any_flag fs f)
  where
    go : (ss : List Sort) (to : Sort) → is_some (kept_flag fs n f ss to) ≡ (list_any (symbol_eq f) fs && is_flag_over ss to)
    go [] bool = some_if (list_any (symbol_eq f) fs) (everywhere (symbol_value n f [])) ∙ both (list_any (symbol_eq f) fs)
      where
        both : (b : Bool) → b ≡ (b && true)
        both true = refl
        both false = refl
    go _ _ = neither (list_any (symbol_eq f) fs)
      where
        neither : (b : Bool) → false ≡ (b && false)
        neither true = refl
        neither false = refl

lowered_some : (fs : List Symbol) (ns : Named) (n : Model) (f : Symbol) → is_some (lowered_graph fs ns n f) ≡ (list_any (symbol_eq f) (symbols_of ns) || list_any (symbol_eq f) (filter is_flag fs))
lowered_some fs [] n f = kept_some fs n f
lowered_some fs (p ∷ ns) n f =
    go (symbol_eq p.0 f)
    ∙ (λ i. eq_turned p.0 f i || lowered_some fs ns n f i)
    ∙ grouped (symbol_eq f p.0) (list_any (symbol_eq f) (symbols_of ns)) (list_any (symbol_eq f) (filter is_flag fs))
  where
    go : (b : Bool) → is_some (cond b (Some (everywhere (val n p.1 no_variables))) (lowered_graph fs ns n f)) ≡ (b || is_some (lowered_graph fs ns n f))
    go true = refl
    go false = refl

    grouped : (a b c : Bool) → (a || (b || c)) ≡ ((a || b) || c)
    grouped true b c = refl
    grouped false b c = refl

lowered_has : (fs : List Symbol) (ns : Named) (n : Model) (f : Symbol) → is_some (lowered_graph fs ns n f) ≡ list_any (symbol_eq f) (filter is_flag fs ++ symbols_of ns)
lowered_has fs ns n f =
    lowered_some fs ns n f
    ∙ other_way (list_any (symbol_eq f) (symbols_of ns)) (list_any (symbol_eq f) (filter is_flag fs))
    ∙ sym (list_any-append (symbol_eq f) (filter is_flag fs) (symbols_of ns))
  where
    other_way : (a b : Bool) → (a || b) ≡ (b || a)
    other_way true true = refl
    other_way true false = refl
    other_way false true = refl
    other_way false false = refl

-- ---- a check

module _ (values : BlastKeepsValues) (cs : List (Command Term)) (k : ℕ) (s : Supply) (fit : RootsFit cs k s) where
  abbrev us : List Term
  us = (root_group cs k s).group.asserts

  abbrev ds : List (Command Term)
  ds = script_over (declared_for cs k s) us

  same_sat : (m n : Model) → IsModel n → ReadsBits (roots cs k) (new_bits cs k s) m n → sat n cs k ≡ sat m ds 1
  same_sat m n model reads =
      sym (sat_roots n cs k)
      ∙ sym (all_hold m n us (roots cs k) (values (roots cs k) s m n fit.blastable model reads))
      ∙ sat_over m (declared_for cs k s) us

  pub lifts_over : BlastLifts → (m : Model) → IsModelAt (script_over (declared_for cs k s) (root_group cs k s).group.asserts) 1 m
      → IsModelAt cs k (lifted_model cs k s m) × (sat (lifted_model cs k s m) cs k ≡ sat m (script_over (declared_for cs k s) (root_group cs k s).group.asserts) 1)
  lifts_over lifts m over =
      let lifted = lifts (roots cs k) s (signature cs k).symbols m fit.blastable fit.among over.valid in (
        record {
          valid = lifted.0;
          graphs = λ f. some_if (list_any (symbol_eq f) (signature cs k).symbols) (everywhere (lifted_value (new_bits cs k s) m f f.args f.result));
          sizes = λ n missing. refl;
        },
        same_sat m (lifted_model cs k s m) lifted.0 lifted.1,
      )

  over_declared : (m : Model) → IsModelOver [] (declared_for cs k s) m → IsModelAt ds 1 m
  over_declared m over = subst (λ (g : Signature). IsModelOver g.sorts g.symbols m) (sym (signature_over (declared_for cs k s) us)) over

  pub lowers_over : BlastLowers → (n : Model) → IsModelAt cs k n
      → IsModelAt (script_over (declared_for cs k s) (root_group cs k s).group.asserts) 1 (lowered_model cs k s n) × (sat (lowered_model cs k s n) (script_over (declared_for cs k s) (root_group cs k s).group.asserts) 1 ≡ sat n cs k)
  lowers_over lowers n over =
      let lowered = lowers (roots cs k) s (signature cs k).symbols n fit.blastable fit.among over.valid in (
        over_declared (lowered_model cs k s n) (record { valid = lowered.0; graphs = λ f. lowered_has (signature cs k).symbols (new_bits cs k s) n f; sizes = λ r missing. refl }),
        sym (same_sat (lowered_model cs k s n) n over.valid lowered.1),
      )
