-- What a node asks for beside a rank.
use Rattle.std.proofs.Common.{◌≡◌, false, ◌&&◌, refl, ap, List, Result, Ok, IsOk, subst}
use Rattle.smt_terms.specs.declared.op.Op.{Op}
use Rattle.smt_terms.specs.declared.ids.NodeId.{NodeId}
use Rattle.smt_terms.specs.Sorts.{Sort}
use Rattle.smt_terms.specs.Term.{Terms, apply, op, none, ◌⨾◌}
use Rattle.smt_terms.specs.Rank.{Fault, is_minus, is_whole, is_minus_of}
use Rattle.term_table.specs.Formulas.{Formulas, AreNodes, IsOpOf, Makes, rank_over, trees_at}

not_minus : (p : Op) (ts : Terms) → is_minus p ≡ false → is_minus_of (op p) ts ≡ false
unfolding is_minus_of
not_minus p (apply (op c) none ⨾ none) e = ap (λ b. b && is_whole c) e
not_minus p _ e = refl

ok_from : (s : Sort) (q : Result Sort Fault) → Ok s ≡ q → IsOk q
ok_from s q e = subst IsOk e refl

-- an operator other than the unary minus makes a node where `rank` answers a sort
pub makes_ranked : (t : Formulas) (p : Op) (ks : List NodeId) (s : Sort) → AreNodes t ks → IsOpOf t p → is_minus p ≡ false → Ok s ≡ rank_over t p (trees_at t ks) → Makes t p ks
makes_ranked t p ks s kids numbers other ranked = record { kids = kids; numbers = numbers; ranked = ok_from s _ ranked; minus = not_minus p _ other }
