-- The answer of `make` as that of a written operator.
use Rattle.std.proofs.Common.{◌≡◌, List, Result, Ok, Err, IsOk, IfOk, OnErr, ◌∙◌, subst}
use Rattle.smt_terms.specs.declared.ids.NodeId.{NodeId}
use Rattle.smt_terms.specs.declared.op.Op.{Op}
use Rattle.smt_terms.specs.Rank.{Fault}
use Rattle.smt_terms.specs.Sorts.{Sort}
use Rattle.smt_terms.specs.Written.{Written, written_rank, build}
use Rattle.term_table.specs.Formulas.{Formulas, tree, trees_at, IsNode, GrowsByOne, IsUnchanged}
use Rattle.term_table.specs.ShapeRank.{kid_sorts}
use Rattle.sort_check.specs.declared.fault.MakeFault.{MakeFault}
use Rattle.sort_check.specs.declared.fault.MakeFault.TheVariants.{Rank, Memory}
use Rattle.sort_check.specs.Making.{made_over, term_algebra, FollowsRank, OnRefusal, Builds}

refused_trees : (old new : Formulas) (answer : Result NodeId MakeFault) → OnErr answer (IsUnchanged old new) → OnRefusal answer (new.trees ≡ old.trees)
refused_trees old new (Ok k) same = tt
refused_trees old new (Err (Rank e)) same = same.trees
refused_trees old new (Err Memory) same = tt

ranked_answer : (ss : List Sort) (r : Result Sort Fault) (k : NodeId) → FollowsRank ss r (Ok k) → IsOk r
ranked_answer ss r k ok = ok

built_term : (old new : Formulas) (o : Op) (w : Written) (ks : List NodeId) (answer : Result NodeId MakeFault) (r : Result Sort Fault) → FollowsRank old.sorts r answer
    → (IsOk r → made_over old o (trees_at old ks) ≡ build term_algebra w (trees_at old ks)) → IfOk answer (λ k. tree new k ≡ made_over old o (trees_at old ks)) → IfOk answer (λ k. tree new k ≡ build term_algebra w (trees_at old ks))
built_term old new o w ks (Ok k) r rank same term = term ∙ same rank
built_term old new o w ks (Err e) r rank same term = tt

module _ (old new : Formulas) (w : Written) (ks : List NodeId) (answer : Result NodeId MakeFault) (r : Result Sort Fault) (is : r ≡ written_rank w (kid_sorts old ks)) (rank : FollowsRank old.sorts r answer)
    (node : IfOk answer (λ k. IsNode new k)) (grows : GrowsByOne old.trees new.trees) (symbols : new.symbols ≡ old.symbols) (sorts : new.sorts ≡ old.sorts) (err : OnErr answer (IsUnchanged old new)) where
  pub make_builds : (o : Op) → (IsOk (written_rank w (kid_sorts old ks)) → made_over old o (trees_at old ks) ≡ build term_algebra w (trees_at old ks)) → IfOk answer (λ k. tree new k ≡ made_over old o (trees_at old ks)) → Builds old new w ks answer
  make_builds o same term = record {
    rank = subst (λ q. FollowsRank old.sorts q answer) is rank;
    node = node;
    term = built_term old new o w ks answer (written_rank w (kid_sorts old ks)) (subst (λ q. FollowsRank old.sorts q answer) is rank) same term;
    extends = record { trees = grows.grows; symbols = symbols; sorts = sorts };
    refused = refused_trees old new answer err;
  }

pub failed_builds : (old new : Formulas) (w : Written) (ks : List NodeId) (e : MakeFault) (r : Result Sort Fault) → r ≡ written_rank w (kid_sorts old ks) → FollowsRank old.sorts r (Err e)
    → GrowsByOne old.trees new.trees → new.symbols ≡ old.symbols → new.sorts ≡ old.sorts → IsUnchanged old new → Builds old new w ks (Err e)
failed_builds old new w ks e r is rank grows symbols sorts same = record {
  rank = subst (λ q. FollowsRank old.sorts q (Err e)) is rank;
  node = tt;
  term = tt;
  extends = record { trees = grows.grows; symbols = symbols; sorts = sorts };
  refused = refused_trees old new (Err e) same;
}

-- the same table and answer as those of another written operator
pub alike_builds : (old new : Formulas) (v w : Written) (ks : List NodeId) (answer : Result NodeId MakeFault) → written_rank v (kid_sorts old ks) ≡ written_rank w (kid_sorts old ks)
    → build term_algebra v (trees_at old ks) ≡ build term_algebra w (trees_at old ks) → Builds old new v ks answer → Builds old new w ks answer
alike_builds old new v w ks answer ranks terms b = record {
  rank = subst (λ q. FollowsRank old.sorts q answer) ranks b.rank;
  node = b.node;
  term = subst (λ u. IfOk answer (λ k. tree new k ≡ u)) terms b.term;
  extends = b.extends;
  refused = b.refused;
}
