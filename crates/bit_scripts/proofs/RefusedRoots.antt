-- The first of the live terms that isn't a formula of bits.
use Rattle.std.proofs.Common.{◌≡◌, ◌∙◌, sym, ap, refl, subst, ℕ, zero, suc, true, List, [], ◌∷◌, map, get_or, Some, None, All, arith, if◌then◌else◌}
use Rattle.std.proofs.lemmas.List.Elements.{All-head, All-tail}
use Rattle.smt_terms.specs.declared.ids.NodeId.{NodeId}
use Rattle.smt_terms.specs.Term.{Term}
use Rattle.term_table.specs.Formulas.{Formulas, trees_at}
use Rattle.script_read.specs.Commands.{Command}
use Rattle.models.specs.LiveTerms.{live_terms, numbered_at}
use Rattle.models.proofs.LiveRoots.{live_trees, live_numbers}
use Rattle.bit_blast.specs.declared.blasting.BlastFault.{BlastFault}
use Rattle.bit_blast.specs.declared.blasting.BlastFault.TheVariants.{NotBits, Memory}
use Rattle.bit_blast.specs.Blasted.{is_bits}
use Rattle.bit_blast.specs.Faults.{IsFirstFault, IsFault}
use Rattle.bit_scripts.specs.Nodes.{IsRefusedBy}
use Rattle.bit_scripts.specs.Places.{fault_at}
use Rattle.bit_scripts.specs.Scripts.{first_refused, refused_root}

abbrev terms_in : List (Term × ℕ) → List Term
terms_in rs = map (λ r. r.0) rs

abbrev numbers_in : List (Term × ℕ) → List ℕ
numbers_in rs = map (λ r. r.1) rs

none_refused : (rs : List (Term × ℕ)) → All (λ u. is_bits u ≡ true) (map (λ r. r.0) rs) → first_refused rs ≡ None
none_refused [] all = refl
none_refused (r ∷ rs) all =
    ap (λ b. if b then first_refused rs else Some r.1) (All-head (λ u. is_bits u ≡ true) r.0 (terms_in rs) all)
    ∙ none_refused rs (All-tail (λ u. is_bits u ≡ true) r.0 (terms_in rs) all)

one_refused : (rs : List (Term × ℕ)) (place : ℕ) → IsFirstFault (terms_in rs) place → first_refused rs ≡ Some (get_or (numbers_in rs) place 0)
one_refused [] place first = let within = first.within in absurd (omega arith)
one_refused (r ∷ rs) zero first = ap (λ b. if b then first_refused rs else Some r.1) first.here
one_refused (r ∷ rs) (suc place) first =
    let within = first.within in
    ap (λ b. if b then first_refused rs else Some r.1) (first.before 0 (omega arith))
    ∙ one_refused rs place (record { within = omega arith; here = first.here; before = λ i less. first.before (suc i) (omega (arith, less)) })

-- the fault of the roots is that of the check
pub refused : (t : Formulas) (ls : List (NodeId × ℕ)) (cs : List (Command Term)) (k : ℕ) (fault : BlastFault) → numbered_at t ls ≡ live_terms cs k
    → IsFault (trees_at t (map (λ l. l.0) ls)) fault → IsRefusedBy cs k (fault_at ls fault)
refused t ls cs k (NotBits place) same first =
    let here : IsFirstFault (terms_in (numbered_at t ls)) place = subst (λ us. IsFirstFault us place) (live_trees t ls) first in
    ap first_refused (sym same) ∙ one_refused (numbered_at t ls) place here ∙ ap (λ ns. Some (get_or ns place 0)) (live_numbers t ls)
refused t ls cs k Memory same first = tt

pub accepted : (t : Formulas) (ls : List (NodeId × ℕ)) (cs : List (Command Term)) (k : ℕ) → numbered_at t ls ≡ live_terms cs k
    → All (λ u. is_bits u ≡ true) (trees_at t (map (λ l. l.0) ls)) → refused_root cs k ≡ None
accepted t ls cs k same all =
    ap first_refused (sym same) ∙ none_refused (numbered_at t ls) (subst (All (λ u. is_bits u ≡ true)) (live_trees t ls) all)
