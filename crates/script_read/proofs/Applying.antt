-- Applications of what heads call to operands that were read.
use Rattle.std.proofs.Common.{◌≡◌, ◌∙◌, ap, subst, refl, ℕ, List, ◌∷◌, map, Result, Ok, Err}
use Rattle.smt_lex.specs.Names.{Name}
use Rattle.smt_terms.specs.Models.{Model, symbol_value}
use Rattle.smt_terms.specs.Operators.{first_value}
use Rattle.smt_terms.specs.Rank.{Fault, rank, sort_over}
use Rattle.smt_terms.specs.Sorts.{Sort, Symbol, Variable}
use Rattle.smt_terms.specs.Subst.{expand}
use Rattle.smt_terms.specs.SubstLaws.{names_within, names_within_each, GivesNone, Later}
use Rattle.smt_terms.specs.Term.{symbol, const_array, Term, terms, over}
use Rattle.smt_terms.specs.Val.{Env, vals}
use Rattle.smt_terms.specs.Values.{table, no_pairs}
use Rattle.smt_terms.specs.Written.{written_rank, build}
use Rattle.script_terms.specs.declared.causes.Cause.TheVariants.{WrongArity}
use Rattle.script_terms.specs.Heads.{Callee, written, array_of_sort, called, defined, operandless, term_algebra, operand_sorts, where_ranked, parameters_from, expanded, rank_of_arguments, applied}
use Rattle.script_read.specs.Laws.{denoted}
use Rattle.script_read.specs.Mean.{Denoted, values_of, sorts_denoted}
use Rattle.script_terms.specs.Reading.{Sofar, beside}
use Rattle.script_terms.specs.Refusals.{Refused, at}
use Rattle.script_read.proofs.BuiltValues.{sorts_of_denoted, values_of_denoted, written_meaning}
use Rattle.script_read.proofs.Calling.{CalleeMeans, CalleeSound}
use Rattle.script_read.proofs.Expanding.{Expanded, expansion}
use Rattle.script_read.proofs.Fitting.{Unassigned, Sound}
use Rattle.script_terms.proofs.NameFacts.{spared_first}
use Rattle.script_terms.proofs.Outcomes.{ok_same}
use Rattle.script_terms.proofs.BuiltNames.{build_spared}

-- ---- results

pub beside_ok : {A : Type 0} (s : Sofar) (r : Result A Refused) (p : A × Sofar) → beside s r ≡ Ok p → (a : A) × (r ≡ Ok a) × ((a, s) ≡ p)
beside_ok s (Ok a) p h = (a, refl, ok_same (a, s) p (Ok (a, s)) refl h)
beside_ok s (Err e) p h = absurd cc

ranked_same : (place : ℕ) (r : Result Sort Fault) (t u : Term) → where_ranked place r t ≡ Ok u → t ≡ u
ranked_same place (Ok to) t u h = ok_same t u (Ok t) refl h
ranked_same place (Err e) t u h = absurd cc

pub record AppliedRead (fs : List Symbol) (s : Sofar) (c : Callee) (ts : List Term) (p : Term × Sofar) : Type 0 where
  pub live : p.1.live ≡ s.live
  pub later : Later s.supply p.1.supply
  pub spared : GivesNone p.1.supply (names_within p.0)
  pub means : (m : Model) (F : List Denoted → Denoted) (e : Env) → CalleeMeans m fs c F → Unassigned fs e → F (map (denoted m e) ts) ≡ denoted m e p.0

-- what is applied without a change of what is known
unchanged : (fs : List Symbol) (s : Sofar) (c : Callee) (ts : List Term) (place : ℕ) (r : Result Sort Fault) (t : Term) (p : Term × Sofar) → beside s (where_ranked place r t) ≡ Ok p → GivesNone s.supply (names_within t) → ((m : Model) (F : List Denoted → Denoted) (e : Env) → CalleeMeans m fs c F → Unassigned fs e → F (map (denoted m e) ts) ≡ denoted m e t) → AppliedRead fs s c ts p
unchanged fs s c ts place r t p h spared means =
    let found = beside_ok s (where_ranked place r t) p h in
    let same : t ≡ found.0 = ranked_same place r t found.0 found.1 in
    subst (λ q. AppliedRead fs s c ts q) (ap (λ u. (u, s)) same ∙ found.2) (record { live = refl; later = λ n k. k; spared = spared; means = means })

array_denotes : (m : Model) (e : Env) (to : Sort) (ts : List Term) → (table (first_value (values_of (map (denoted m e) ts))) no_pairs, sort_over (const_array to) (sorts_denoted (map (denoted m e) ts))) ≡ denoted m e (over (const_array to) ts)
array_denotes m e to ts =
    ap (λ vs. (table (first_value vs) no_pairs, sort_over (const_array to) (sorts_denoted (map (denoted m e) ts)))) (values_of_denoted m e ts)
    ∙ ap (λ ss. (table (first_value (vals m (terms ts) e)) no_pairs, sort_over (const_array to) ss)) (sorts_of_denoted m e ts)

call_denotes : (m : Model) (e : Env) (f : Symbol) (t : Term) (ts : List Term) → (symbol_value m f (values_of (map (denoted m e) (t ∷ ts))), sort_over (symbol f) (sorts_denoted (map (denoted m e) (t ∷ ts)))) ≡ denoted m e (over (symbol f) (t ∷ ts))
call_denotes m e f t ts =
    ap (λ vs. (symbol_value m f vs, sort_over (symbol f) (sorts_denoted (map (denoted m e) (t ∷ ts))))) (values_of_denoted m e (t ∷ ts))
    ∙ ap (λ ss. (symbol_value m f (vals m (terms (t ∷ ts)) e), sort_over (symbol f) ss)) (sorts_of_denoted m e (t ∷ ts))

module _ (ns : List Name) (fs : List Symbol) (s : Sofar) (sound : Sound ns fs s) where
  expanded_read : (place : ℕ) (xs : List Variable) (t : Term) (ts : List Term) (r : Result Sort Fault) (p : Term × Sofar) → rank_of_arguments xs ts ≡ r → CalleeSound s.supply (defined xs t) → GivesNone s.supply (names_within_each (terms ts)) → expanded place xs t ts r s ≡ Ok p → AppliedRead fs s (defined xs t) ts p
  expanded_read place xs t ts (Ok to) p ranked fine spared h =
      let r = expand (parameters_from 0 xs) t ts s.supply in
      let law : Expanded fs s.supply xs t ts = expansion fs s.supply xs t ts fine.1.0 to fine.1.1 fine.2 fine.0 spared (λ g k. (sound.symbols g k).1) ranked in
      subst (λ q. AppliedRead fs s (defined xs t) ts q) (ok_same (r.0, record s { supply = r.1 }) p (Ok (r.0, record s { supply = r.1 })) refl h) (record {
        live = refl;
        later = law.later;
        spared = law.spared;
        means = λ m F e means own. let found = law.means m e own in means (map (denoted m e) ts) found.0 found.1 found.2 ∙ found.3;
      })
  expanded_read place xs t ts (Err e) p ranked fine spared h = absurd cc

  pub applied_read : (c : Callee) (place : ℕ) (t : Term) (ts : List Term) (p : Term × Sofar) → CalleeSound s.supply c → GivesNone s.supply (names_within_each (terms (t ∷ ts))) → applied c place (t ∷ ts) s ≡ Ok p → AppliedRead fs s c (t ∷ ts) p
  applied_read (written w) place t ts p fine spared h =
      unchanged fs s (written w) (t ∷ ts) place (written_rank w (operand_sorts (t ∷ ts))) (build term_algebra w (t ∷ ts)) p h (build_spared s.supply w (t ∷ ts) spared)
      (λ m F e means own. means (map (denoted m e) (t ∷ ts)) ∙ written_meaning m e w (t ∷ ts))
  applied_read (array_of_sort to) place t ts p fine spared h =
      unchanged fs s (array_of_sort to) (t ∷ ts) place (rank (const_array to) (operand_sorts (t ∷ ts))) (over (const_array to) (t ∷ ts)) p h spared
      (λ m F e means own. means (map (denoted m e) (t ∷ ts)) ∙ array_denotes m e to (t ∷ ts))
  applied_read (called f) place t ts p fine spared h =
      unchanged fs s (called f) (t ∷ ts) place (rank (symbol f) (operand_sorts (t ∷ ts))) (over (symbol f) (t ∷ ts)) p h (spared_first s.supply f.name (names_within_each (terms (t ∷ ts))) fine spared)
      (λ m F e means own. means (map (denoted m e) (t ∷ ts)) ∙ call_denotes m e f t ts)
  applied_read (defined xs u) place t ts p fine spared h = expanded_read place xs u (t ∷ ts) (rank_of_arguments xs (t ∷ ts)) p refl fine spared h
  applied_read operandless place t ts p fine spared h = absurd (never h)
    where
      never : beside s (at WrongArity place) ≡ Ok p → ⊥
      never k = absurd cc
