-- A list of declarations, assertions and a check: its points, and what it asserts and assumes.
use Rattle.std.proofs.Common.{◌≡◌, ◌∙◌, sym, ap, refl, ℕ, suc, false, List, [], ◌∷◌, ◌++◌, map, append_assoc, append-nil}
use Rattle.std.proofs.lemmas.List.{map-append}
use Rattle.smt_terms.specs.Fresh.{Supply}
use Rattle.smt_terms.specs.Groups.{Named}
use Rattle.smt_terms.specs.Sorts.{Symbol}
use Rattle.smt_terms.specs.Term.{Term}
use Rattle.term_groups.specs.Grouping.{symbols_of}
use Rattle.script_read.specs.Commands.{Command, declare, check, checked, ended, State, Point, points_from, points, nth_point, at_point, live_in, sorts_of_state, symbols_of_state, kinds, live, literals, Signature, signature, all_asserted, all_assumed}
use Rattle.models.specs.LiveRoots.{flags}
use Rattle.bit_scripts.specs.Scripts.{root_group, new_bits, asserting, blasted_script}

abbrev pub script_over : List Symbol → List Term → List (Command Term)
script_over fs us = map declare fs ++ (asserting 1 us ++ check ∷ [])

-- the symbols that are declared for a check
abbrev pub declared_for : List (Command Term) → ℕ → Supply → List Symbol
declared_for cs k s = flags cs k ++ symbols_of (new_bits cs k s)

named_declared : (ns : Named) → map {B = Command Term} (λ n. declare n.0) ns ≡ map declare (symbols_of ns)
named_declared [] = refl
named_declared (n ∷ ns) = ap (λ cs. declare n.0 ∷ cs) (named_declared ns)

pub is_script_over : (cs : List (Command Term)) (k : ℕ) (s : Supply) → script_over (declared_for cs k s) (root_group cs k s).group.asserts ≡ blasted_script cs k s
is_script_over cs k s =
    ap (λ ds. ds ++ (asserted ++ check ∷ [])) (map-append declare (flags cs k) (symbols_of (new_bits cs k s)))
    ∙ ap (λ ds. (map declare (flags cs k) ++ ds) ++ (asserted ++ check ∷ [])) (sym (named_declared (new_bits cs k s)))
    ∙ sym (append_assoc (map declare (flags cs k) ++ map (λ n. declare n.0) (new_bits cs k s)) asserted (check ∷ []))
  where
    asserted : List (Command Term)
    asserted = asserting 1 (root_group cs k s).group.asserts

-- ---- states

-- one level with these symbols and assertions
abbrev pub standing : List Symbol → List Term → State Term
standing fs us = record { levels = record { sorts = []; symbols = fs; asserted = us } ∷ []; global = false }

declared_points : (fs gs : List Symbol) (cs : List (Command Term)) → points_from (standing fs []) (map declare gs ++ cs) ≡ points_from (standing (fs ++ gs) []) cs
declared_points fs [] cs = ap (λ hs. points_from (standing hs []) cs) (sym (append-nil fs))
declared_points fs (g ∷ gs) cs = declared_points (fs ++ g ∷ []) gs cs ∙ ap (λ hs. points_from (standing hs []) cs) (append_assoc fs (g ∷ []) gs)

asserted_points : (fs : List Symbol) (i : ℕ) (ts us : List Term) (cs : List (Command Term)) → points_from (standing fs ts) (asserting i us ++ cs) ≡ points_from (standing fs (ts ++ us)) cs
asserted_points fs i ts [] cs = ap (λ vs. points_from (standing fs vs) cs) (sym (append-nil ts))
asserted_points fs i ts (u ∷ us) cs = asserted_points fs (suc i) (ts ++ u ∷ []) us cs ∙ ap (λ vs. points_from (standing fs vs) cs) (append_assoc ts (u ∷ []) us)

-- the check and the end
abbrev points_over : List Symbol → List Term → List (Point Term)
points_over fs us = points_from (standing fs us) (check ∷ [])

module _ (fs : List Symbol) (us : List Term) where
  all_points : points (script_over fs us) ≡ points_over fs us
  all_points = declared_points [] fs (asserting 1 us ++ check ∷ []) ∙ asserted_points fs 1 [] us (check ∷ [])

  pub kinds_over : kinds (script_over fs us) ≡ checked ∷ ended ∷ []
  kinds_over = ap (map (λ p. p.kind)) all_points

  abbrev signature_at : List (Point Term) → Signature
  signature_at ps = record { sorts = at_point (λ p. sorts_of_state p.state) (nth_point ps 1); symbols = at_point (λ p. symbols_of_state p.state) (nth_point ps 1) }

  pub signature_over : signature (script_over fs us) 1 ≡ record { sorts = []; symbols = fs }
  signature_over = ap signature_at all_points

  pub live_over : live (script_over fs us) 1 ≡ us
  live_over = ap (λ ps. at_point (λ p. live_in p.state) (nth_point ps 1)) all_points

  pub literals_over : literals (script_over fs us) 1 ≡ []
  literals_over = ap (λ ps. at_point (λ p. p.literals) (nth_point ps 1)) all_points

-- ---- all that is asserted and assumed

declared_asserted : (fs : List Symbol) (cs : List (Command Term)) → all_asserted (map declare fs ++ cs) ≡ all_asserted cs
declared_asserted [] cs = refl
declared_asserted (f ∷ fs) cs = declared_asserted fs cs

asserting_asserted : (i : ℕ) (us : List Term) → all_asserted (asserting i us ++ check ∷ []) ≡ us
asserting_asserted i [] = refl
asserting_asserted i (u ∷ us) = ap (λ vs. u ∷ vs) (asserting_asserted (suc i) us)

pub asserted_over : (fs : List Symbol) (us : List Term) → all_asserted (script_over fs us) ≡ us
asserted_over fs us = declared_asserted fs (asserting 1 us ++ check ∷ []) ∙ asserting_asserted 1 us

declared_assumed : (fs : List Symbol) (cs : List (Command Term)) → all_assumed (map declare fs ++ cs) ≡ all_assumed cs
declared_assumed [] cs = refl
declared_assumed (f ∷ fs) cs = declared_assumed fs cs

asserting_assumed : (i : ℕ) (us : List Term) → all_assumed (asserting i us ++ check ∷ []) ≡ []
asserting_assumed i [] = refl
asserting_assumed i (u ∷ us) = asserting_assumed (suc i) us

pub assumed_over : (fs : List Symbol) (us : List Term) → all_assumed (script_over fs us) ≡ []
assumed_over fs us = declared_assumed fs (asserting 1 us ++ check ∷ []) ∙ asserting_assumed 1 us
