-- What holds of the assertions of a chain of removals, and what holds of the pairs of its constants and of its inputs.
use Rattle.std.proofs.Common.{List, [], ◌∷◌, ◌++◌, All, sym, subst}
use Rattle.std.proofs.lemmas.List.Elements.{All-nil, All-cons, All-head, All-tail, All-append}
use Rattle.smt_terms.specs.Groups.{Named, with_constants}
use Rattle.smt_terms.specs.Term.{Term}
use Rattle.ackermann.specs.Ackermann.{pairs}
use Rattle.ackermann.specs.Removals.{Removal, all_inputs, all_symbols}
use Rattle.ackermann.proofs.RemovalChains.{gathered}
use Rattle.ackermann.proofs.UseLists.{All-first, All-second}
use Rattle.ackermann.proofs.UsePairs.{pairs-append}

module _ (P : Term → Type 0) (ns : Named) where
  abbrev pub OfInput : Term → Type 0
  OfInput t = P (with_constants ns t)

  pub gathered-from : (earlier : Named) (rs : List Removal) → All P (pairs ns earlier (all_symbols rs)) → All OfInput (all_inputs rs) → All P (gathered ns earlier rs)
  gathered-from earlier [] of_pairs of_inputs = All-nil P
  gathered-from earlier (r ∷ rs) of_pairs of_inputs =
      let here = pairs ns earlier r.symbols in
      let there = pairs ns (earlier ++ r.symbols) (all_symbols rs) in
      let all : All P (here ++ there) = subst (All P) (pairs-append ns earlier r.symbols (all_symbols rs)) of_pairs in
      All-append P (here ++ with_constants ns r.input ∷ []) (gathered ns (earlier ++ r.symbols) rs)
      (All-append P here (with_constants ns r.input ∷ []) (All-first P here there all) (All-cons P (with_constants ns r.input) [] (All-head OfInput r.input (all_inputs rs) of_inputs) (All-nil P)))
      (gathered-from (earlier ++ r.symbols) rs (All-second P here there all) (All-tail OfInput r.input (all_inputs rs) of_inputs))

  pub gathered-pairs : (earlier : Named) (rs : List Removal) → All P (gathered ns earlier rs) → All P (pairs ns earlier (all_symbols rs))
  gathered-pairs earlier [] all = All-nil P
  gathered-pairs earlier (r ∷ rs) all =
      let here = pairs ns earlier r.symbols in
      let there = pairs ns (earlier ++ r.symbols) (all_symbols rs) in
      let rest = gathered ns (earlier ++ r.symbols) rs in
      subst (All P) (sym (pairs-append ns earlier r.symbols (all_symbols rs)))
      (All-append P here there
      (All-first P here (with_constants ns r.input ∷ []) (All-first P (here ++ with_constants ns r.input ∷ []) rest all))
      (gathered-pairs (earlier ++ r.symbols) rs (All-second P (here ++ with_constants ns r.input ∷ []) rest all)))

  pub gathered-inputs : (earlier : Named) (rs : List Removal) → All P (gathered ns earlier rs) → All OfInput (all_inputs rs)
  gathered-inputs earlier [] all = All-nil OfInput
  gathered-inputs earlier (r ∷ rs) all =
      let here = pairs ns earlier r.symbols in
      let rest = gathered ns (earlier ++ r.symbols) rs in
      All-cons OfInput r.input (all_inputs rs)
      (All-head P (with_constants ns r.input) [] (All-second P here (with_constants ns r.input ∷ []) (All-first P (here ++ with_constants ns r.input ∷ []) rest all)))
      (gathered-inputs (earlier ++ r.symbols) rs (All-second P (here ++ with_constants ns r.input ∷ []) rest all))
