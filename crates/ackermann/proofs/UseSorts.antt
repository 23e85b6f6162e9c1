-- Applications that stand in the inputs, with their constants: sorts of both, and of the operands.
use Rattle.std.proofs.Common.{◌≡◌, true, List, All, Some, Ok, get_or, ap, sym, ◌∙◌}
use Rattle.std.specs.List.{list_all}
use Rattle.smt_terms.specs.Free.{is_among}
use Rattle.smt_terms.specs.Groups.{Named, with_constants_each}
use Rattle.smt_terms.specs.Rank.{rank, sort_of, sorts_of, is_sort}
use Rattle.smt_terms.specs.Sorts.{Symbol}
use Rattle.smt_terms.specs.Term.{symbol, Term, apply, Terms, constant}
use Rattle.smt_terms.proofs.Ranked.{rank-takes}
use Rattle.smt_terms.proofs.Sorted.{applied}
use Rattle.smt_terms.proofs.SortsOfTerms.{sort_is_sort, sorts_are_sorts}
use Rattle.term_groups.specs.Grouping.{symbols_of, terms_of}
use Rattle.ackermann.specs.Removals.{is_use, inner_uses}
use Rattle.ackermann.proofs.FromInputs.{IsFrom, AreFrom, from-operands, from-used}
use Rattle.ackermann.proofs.RemovalChains.{AreUses, uses-closed}
use Rattle.ackermann.proofs.ReplacedUses.{IsConstantOf, built-parts}
use Rattle.ackermann.proofs.UseBuilt.{IsBuilt, AreBuilt, built-constant}
use Rattle.ackermann.proofs.UseLists.{HasAll}
use Rattle.term_groups.proofs.NamedTerms.{All-among}

pub record IsPairOf (inputs : List Term) (ns : Named) (p : Symbol × Term) : Type 0 where
  pub constant_of : IsConstantOf p
  pub among : is_among (symbols_of ns) p.0 ≡ true
  pub from : IsFrom inputs p.1
  pub application : is_use p.1 ≡ true
  pub closed : HasAll (terms_of ns) (inner_uses p.1)

pub all-pairs_of : (inputs : List Term) (ns : Named) → AreUses inputs ns → All (IsPairOf inputs ns) ns
all-pairs_of inputs ns uses k d less = record {
  constant_of = uses.constants k d less;
  among = All-among ns k d less;
  from = from-used inputs (get_or ns k d).1 (uses.used k d less);
  application = (uses.used k d less).application;
  closed = uses-closed inputs ns uses k d less;
}

-- an application of f with its constant v
pub record IsUseOf (inputs : List Term) (ns : Named) (v : Symbol) (f : Symbol) (ts : Terms) : Type 0 where
  pub has : sort_of (apply (symbol f) ts) ≡ Some f.result
  pub operands : sorts_of ts ≡ Some f.args
  pub ranked : rank (symbol f) f.args ≡ Ok f.result
  pub fine : is_sort f.result ≡ true
  pub fine_args : list_all is_sort f.args ≡ true
  pub from : AreFrom inputs ts
  pub closed : HasAll (terms_of ns) (inner_uses (apply (symbol f) ts))
  pub constant : IsBuilt inputs ns (constant v) f.result
  pub replaced : AreBuilt inputs ns (with_constants_each ns ts) f.args

pub use_of : (inputs : List Term) (ns : Named) → AreUses inputs ns → (v f : Symbol) (ts : Terms) → IsPairOf inputs ns (v, apply (symbol f) ts) → IsUseOf inputs ns v f ts
use_of inputs ns uses v f ts p =
    let parts = applied (symbol f) ts p.from.sort p.from.has in
    let taken = rank-takes (symbol f) parts.sorts p.from.sort parts.rank in
    let has : sort_of (apply (symbol f) ts) ≡ Some f.result = p.from.has ∙ ap Some taken.1 in
    let operands : sorts_of ts ≡ Some f.args = parts.operands ∙ ap Some taken.0 in
    let fine = sort_is_sort (apply (symbol f) ts) f.result p.from.rules has in
    let from = from-operands inputs (symbol f) ts p.from in
    record {
      has = has;
      operands = operands;
      ranked = (λ i. rank (symbol f) (sym taken.0 i)) ∙ parts.rank ∙ ap Ok taken.1;
      fine = fine;
      fine_args = sorts_are_sorts ts f.args from.rules operands;
      from = from;
      closed = p.closed;
      constant = built-constant inputs ns v f.result p.among p.constant_of.0 (p.constant_of.1 f.result has) fine;
      replaced = built-parts inputs ns uses.constants ts f.args operands from p.closed;
    }
