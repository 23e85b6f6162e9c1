-- A term with constants in place of its `ite` terms has the sort that it had.
use Rattle.std.proofs.Common.{◌≡◌, List, All, Some}
use Rattle.smt_terms.specs.Groups.{Named, with_constants, with_constants_each}
use Rattle.smt_terms.specs.Rank.{sort_of, sorts_of}
use Rattle.smt_terms.specs.Sorts.{Sort, Symbol}
use Rattle.smt_terms.specs.Term.{Head, Term, apply, Terms, constant}
use Rattle.smt_terms.proofs.Ranked.{rank-narrow}
use Rattle.smt_terms.proofs.Sorted.{applied}
use Rattle.ite_free.proofs.IteConstants.{IsConstantOf, constant-sort, constants-sort, constants-sorts}
use Rattle.ite_free.proofs.IteMembers.{Stands}

module _ (fs : List Symbol) where
  -- the constant of a term has its sort
  pub stands_sort : (f : Symbol) (h : Head) (ts : Terms) (s : Sort) → Stands fs (f, apply h ts) → sort_of (apply h ts) ≡ Some s → sort_of (constant f) ≡ Some s
  stands_sort f h ts s stands has =
      let parts = applied h ts s has in
      constant-sort f s stands.args (stands.result s has) (rank-narrow h parts.sorts s parts.rank)

module _ (fs : List Symbol) (ns : Named) (all : All (Stands fs) ns) where
  constants : All IsConstantOf ns
  constants k d lt = let stands = all k d lt in (stands.args, stands.result)

  pub replaced_sort : (t : Term) (s : Sort) → sort_of t ≡ Some s → sort_of (with_constants ns t) ≡ Some s
  replaced_sort t s has = constants-sort ns constants t s has

  pub replaced_sorts : (ts : Terms) (ss : List Sort) → sorts_of ts ≡ Some ss → sorts_of (with_constants_each ns ts) ≡ Some ss
  replaced_sorts ts ss has = constants-sorts ns constants ts ss has
