-- What the calls that make nodes answer, and what they leave.
use Rattle.std.specs.Prelude.{◌≡◌, ℕ, List, unwrap_or, Result, Ok, Err, IsOk, IfOk}
use Rattle.smt_terms.specs.declared.ids.NodeId.{NodeId}
use Rattle.smt_terms.specs.declared.op.Op.{Op}
use Rattle.smt_terms.specs.Made.{made}
use Rattle.smt_terms.specs.Rank.{Fault, width, sort_of}
use Rattle.smt_terms.specs.Sorts.{Sort, bool, Symbol}
use Rattle.smt_terms.specs.Term.{op, Term, terms}
use Rattle.smt_terms.specs.Written.{Written, written_rank, Algebra, build}
use Rattle.term_table.specs.Faults.{fault_seen, IsFaultOver}
use Rattle.term_table.specs.Formulas.{Formulas, tree, trees_at, Kind, theory, kind, kind_term, IsNode, Grows}
use Rattle.term_table.specs.ShapeRank.{kid_sorts}
use Rattle.sort_check.specs.declared.fault.MakeFault.{MakeFault}
use Rattle.sort_check.specs.declared.fault.MakeFault.TheVariants.{Rank, Memory}

-- ---- terms

abbrev pub made_kind : List Symbol → List Sort → Kind → List Term → Term
made_kind fs ss (theory o) ts = made (op o) (terms ts)
made_kind fs ss k ts = kind_term fs ss k ts

-- the term of an operator over operands, where a unary minus over an integer constant is the constant
abbrev pub made_over : Formulas → Op → List Term → Term
made_over t o ts = made_kind t.symbols t.sorts (kind o) ts

abbrev pub term_width : Term → ℕ
term_width t = width (unwrap_or (sort_of t) bool)

-- terms, of which a unary minus over a constant is the constant
abbrev pub term_algebra : Algebra Term
term_algebra = record { make = λ o ts. made (op o) (terms ts); width_in = term_width }

-- ---- answers

-- a call answers a fault exactly where the rank has one, and that one; memory can be wanting only where there is a rank
abbrev pub FollowsRank : List Sort → Result Sort Fault → Result NodeId MakeFault → Type 0
FollowsRank ss r (Ok k) = IsOk r
FollowsRank ss r (Err (Rank e)) = (r ≡ Err (fault_seen ss e)) × IsFaultOver ss e
FollowsRank ss r (Err Memory) = IsOk r

abbrev pub OnRefusal : Result NodeId MakeFault → Type 0 → Type 0
OnRefusal (Ok k) P = Unit {0}
OnRefusal (Err (Rank e)) P = P
OnRefusal (Err Memory) P = Unit {0}

-- the nodes that were there keep their trees, and the symbols and sorts are the same
pub record Extends (old new : Formulas) : Type 0 where
  pub trees : Grows old.trees new.trees
  pub symbols : new.symbols ≡ old.symbols
  pub sorts : new.sorts ≡ old.sorts

-- the answer is the written operator over these operands, or its fault
pub record Builds (old new : Formulas) (w : Written) (ks : List NodeId) (answer : Result NodeId MakeFault) : Type 0 where
  pub rank : FollowsRank old.sorts (written_rank w (kid_sorts old ks)) answer
  pub node : IfOk answer (λ k. IsNode new k)
  pub term : IfOk answer (λ k. tree new k ≡ build term_algebra w (trees_at old ks))
  pub extends : Extends old new
  pub refused : OnRefusal answer (new.trees ≡ old.trees)
