-- What stored rules may make of a term brings nothing in: no free symbol, no name and no sort but those of the term, which stays
-- clear.
use Rattle.std.proofs.Common.{◌≡◌, Bool, true, List, sym, subst}
use Rattle.std.specs.Prelude.{is_some}
use Rattle.std.specs.List.{list_all}
use Rattle.smt_terms.specs.declared.op.Op.{Op}
use Rattle.smt_terms.specs.Free.{is_among, names_of, head_symbols, free, free_of}
use Rattle.smt_terms.specs.Made.{made}
use Rattle.smt_terms.specs.Rank.{sort_of, is_regular, IsWellSorted}
use Rattle.smt_terms.specs.Shapes.{is_clear}
use Rattle.smt_terms.specs.Sorts.{Name, Sort, Symbol}
use Rattle.smt_terms.specs.SubstLaws.{names_within, names_within_each}
use Rattle.smt_terms.specs.Term.{Head, op, Term, apply, quantified, Terms, none, ◌⨾◌}
use Rattle.smt_terms.proofs.Keeping.{the_sort}
use Rattle.smt_terms.proofs.Runs.{among-name}
use Rattle.smt_terms.proofs.Tests.{both_true, and_true}
use Rattle.rule_book.specs.Rewriting.{Replaces, Rewrites, RewritesEach}
use Rattle.rule_book.proofs.DrawnFrom.{made-has, replaces-has}
use Rattle.normal_forms.proofs.Clear.{ClearEach, in-first, stays-clear}
use Rattle.normal_forms.proofs.Inside.{in-left, NamedIn, Inside, InsideOne, inside-first, inside-rest, inside-operand, inside-body, head-within, op-within}
use Rattle.normal_forms.proofs.Replaced.{operands-within}
use Rattle.script_read.specs.Printable.{all_within}
use Rattle.pass_laws.proofs.ReadsInside.{AllOf, all-map, IsWithin, passes, together, operands, over}

module _ (rules : List Name) where
  -- what operands inherit and operators pass on, a rewritten term has where the term over its rewritten operands has it
  anew-has : (P : Term → Type 0) → ((h : Head) (ts : Terms) → P (apply h ts) → AllOf P ts) → ((o : Op) (ts : Terms) → AllOf P ts → P (apply (op o) ts)) → (h : Head) (us : Terms) (u : Term) → P (apply h us) → Replaces rules (made h us) u → P u
  anew-has P down over h us u given r = replaces-has P down over rules (made h us) u (made-has P down over h us given) r

  -- ---- symbols, names and clearness

  mutual
    rewrites-inside : (t u : Term) → Rewrites rules t u → Inside t u
    rewrites-inside (apply h ts) u r =
        let fs : List Symbol = free (apply h ts) in
        let ns : List Name = names_within (apply h ts) in
        anew-has (Inside (apply h ts)) (operands-within fs (NamedIn ns) (ClearEach ts)) (op-within fs (NamedIn ns) (ClearEach ts)) h r.0 u
        (head-within fs (NamedIn ns) (ClearEach ts) h r.0
        (λ g among. (in-first (head_symbols h) (free_of ts) g among, in-left (names_of (head_symbols h)) (names_within_each ts) g.name (among-name (head_symbols h) g among)))
        (all-map (InsideOne ts) (Inside (apply h ts)) (inside-operand h ts) r.0 (each-inside ts r.0 r.1)))
        r.2
    rewrites-inside (quantified q xs body) u r = subst (Inside (quantified q xs body)) (sym r.2) (inside-body q q xs body r.0 (rewrites-inside body r.0 r.1))

    each-inside : (ts us : Terms) → RewritesEach rules ts us → AllOf (InsideOne ts) us
    each-inside none us r = subst (AllOf (InsideOne none)) (sym r) tt
    each-inside (t ⨾ ts) us r =
        subst (AllOf (InsideOne (t ⨾ ts))) (sym r.1.1.0)
        (inside-first t ts r.0 (rewrites-inside t r.0 r.1.1.1.0), all-map (InsideOne ts) (InsideOne (t ⨾ ts)) (inside-rest t ts) r.1.0 (each-inside ts r.1.0 r.1.1.1.1))

  pub rewrites-symbols : (t u : Term) → Rewrites rules t u → (g : Symbol) → is_among (free u) g ≡ true → is_among (free t) g ≡ true
  rewrites-symbols t u r = (rewrites-inside t u r).symbols

  pub rewrites-names : (t u : Term) → Rewrites rules t u → (n : Name) → NamedIn (names_within u) n → NamedIn (names_within t) n
  rewrites-names t u r = (rewrites-inside t u r).names

  pub rewrites-clear : (t u : Term) → IsWellSorted t → Rewrites rules t u → is_clear t ≡ true → is_clear u ≡ true
  rewrites-clear t u fine r =
      let found = the_sort (sort_of t) (both_true (is_some (sort_of t)) (is_regular t) fine).0 in
      stays-clear t u found.0 found.1 (rewrites-inside t u r).symbols (rewrites-inside t u r).clear

  -- ---- sorts and quantified names

  module _ (sorts : Sort → Bool) (names : Name → Bool) where
    abbrev Passing : Term → Type 0
    Passing = IsWithin sorts names

    mutual
      pub rewrites-within : (t u : Term) → Rewrites rules t u → IsWithin sorts names t → IsWithin sorts names u
      rewrites-within (apply h ts) u r given =
          anew-has Passing (operands sorts names) (λ o us each. together sorts names us each) h r.0 u (over sorts names h ts r.0 given (each-within ts r.0 r.1 (operands sorts names h ts given))) r.2
      rewrites-within (quantified q xs body) u r given =
          let parts = both_true (list_all (passes sorts names) xs) (all_within sorts names body) given in
          subst Passing (sym r.2) (and_true (list_all (passes sorts names) xs) (all_within sorts names r.0) parts.0 (rewrites-within body r.0 r.1 parts.1))

      each-within : (ts us : Terms) → RewritesEach rules ts us → AllOf Passing ts → AllOf Passing us
      each-within none us r each = subst (AllOf Passing) (sym r) tt
      each-within (t ⨾ ts) us r each = subst (AllOf Passing) (sym r.1.1.0) (rewrites-within t r.0 r.1.1.1.0 each.0, each-within ts r.1.0 r.1.1.1.1 each.1)
