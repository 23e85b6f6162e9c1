-- The first of the live terms that isn't a clause, and the text, over a table.
use Rattle.std.proofs.Common.{◌≡◌, ◌∙◌, sym, ap, refl, subst, ℕ, zero, suc, true, List, [], ◌∷◌, map, get_or, length, Some, None, arith, if◌then◌else◌}
use Rattle.std.proofs.lemmas.List.Elements.{All-nil, All-cons, All-head, All-tail}
use Rattle.smt_terms.specs.declared.ids.NodeId.{NodeId}
use Rattle.smt_terms.specs.declared.ids.SymId.{SymId}
use Rattle.smt_terms.specs.Sorts.{Symbol}
use Rattle.smt_terms.specs.Term.{Term}
use Rattle.term_table.specs.Formulas.{Formulas, trees_at, IsNode, AreNodes}
use Rattle.script_read.specs.Commands.{Command}
use Rattle.models.specs.LiveTerms.{live_terms, numbered_at, AreNumbered}
use Rattle.models.proofs.LiveRoots.{live_trees, live_numbers}
use Rattle.dimacs_link.specs.declared.clauses.LinkFault.{LinkFault}
use Rattle.dimacs_link.specs.declared.clauses.LinkFault.TheVariants.{NotClauses, Memory}
use Rattle.models.specs.LiveRoots.{roots, flags}
use Rattle.dimacs_link.specs.CheckFaults.{fault_at, IsLinkCheckFault}
use Rattle.dimacs_link.specs.Checks.{first_other, unlinked_root, linked_text}
use Rattle.dimacs_link.specs.Clauses.{is_clause, clauses, text_of, IsFirstOther, IsLinkFault}
use Rattle.dimacs_link.specs.Constants.{constants_at}
use Rattle.dimacs_link.specs.Laws.{AreClauses}
use Rattle.dimacs_link.proofs.Numbering.{length-constants}

abbrev terms_in : List (Term × ℕ) → List Term
terms_in rs = map (λ r. r.0) rs

abbrev numbers_in : List (Term × ℕ) → List ℕ
numbers_in rs = map (λ r. r.1) rs

abbrev nodes_in : List (NodeId × ℕ) → List NodeId
nodes_in ls = map (λ l. l.0) ls

-- ---- in a list of numbered terms

all_linked : (fs : List Symbol) (rs : List (Term × ℕ)) → AreClauses fs (map (λ r. r.0) rs) → first_other fs rs ≡ None
all_linked fs [] all = refl
all_linked fs (r ∷ rs) all =
    ap (λ b. if b then first_other fs rs else Some r.1) (All-head (λ u. is_clause fs u ≡ true) r.0 (terms_in rs) all)
    ∙ all_linked fs rs (All-tail (λ u. is_clause fs u ≡ true) r.0 (terms_in rs) all)

one_other : (fs : List Symbol) (rs : List (Term × ℕ)) (place : ℕ) → IsFirstOther fs (terms_in rs) place → first_other fs rs ≡ Some (get_or (numbers_in rs) place 0)
one_other fs [] place first = let within = first.within in absurd (omega arith)
one_other fs (r ∷ rs) zero first = ap (λ b. if b then first_other fs rs else Some r.1) first.here
one_other fs (r ∷ rs) (suc place) first =
    let within = first.within in
    ap (λ b. if b then first_other fs rs else Some r.1) (first.before 0 (omega arith))
    ∙ one_other fs rs place (record { within = omega arith; here = first.here; before = λ i less. first.before (suc i) (omega (arith, less)) })

-- ---- over a table

pub live_nodes : (t : Formulas) (ls : List (NodeId × ℕ)) → AreNumbered t ls → AreNodes t (map (λ l. l.0) ls)
live_nodes t [] nodes = All-nil (IsNode t)
live_nodes t (l ∷ ls) nodes = All-cons (IsNode t) l.0 (nodes_in ls) (All-head (λ k. IsNode t k.0) l ls nodes) (live_nodes t ls (All-tail (λ k. IsNode t k.0) l ls nodes))

-- the fault of the roots is that of the check
pub unlinked : (t : Formulas) (ls : List (NodeId × ℕ)) (cs : List (Command Term)) (k : ℕ) (fault : LinkFault) → numbered_at t ls ≡ live_terms cs k
    → IsLinkFault (flags cs k) (trees_at t (map (λ l. l.0) ls)) fault → IsLinkCheckFault cs k (fault_at ls fault)
unlinked t ls cs k (NotClauses place) same first =
    let here : IsFirstOther (flags cs k) (terms_in (numbered_at t ls)) place = subst (λ us. IsFirstOther (flags cs k) us place) (live_trees t ls) first in
    ap (first_other (flags cs k)) (sym same) ∙ one_other (flags cs k) (numbered_at t ls) place here ∙ ap (λ ns. Some (get_or ns place 0)) (live_numbers t ls)
unlinked t ls cs k Memory same first = tt

pub linked : (t : Formulas) (ls : List (NodeId × ℕ)) (cs : List (Command Term)) (k : ℕ) → numbered_at t ls ≡ live_terms cs k
    → AreClauses (flags cs k) (trees_at t (map (λ l. l.0) ls)) → unlinked_root cs k ≡ None
linked t ls cs k same all =
    ap (first_other (flags cs k)) (sym same) ∙ all_linked (flags cs k) (numbered_at t ls) (subst (AreClauses (flags cs k)) (live_trees t ls) all)

-- ---- the text

pub text_so : (t : Formulas) (fs : List SymId) (ks : List NodeId) (cs : List (Command Term)) (k : ℕ) → constants_at t fs ≡ flags cs k → trees_at t ks ≡ roots cs k
    → text_of (length fs) (clauses (constants_at t fs) (trees_at t ks)) ≡ linked_text cs k
text_so t fs ks cs k so are =
    ap (λ n. text_of n (clauses (constants_at t fs) (trees_at t ks))) (sym (length-constants t fs) ∙ ap length so)
    ∙ (λ i. text_of (length (flags cs k)) (clauses (so i) (are i)))
