use Rattle.std.proofs.Common.{◌≡◌, false, ◌∷◌, [], ◌++◌, take, get_or, ◌+◌, subst, ap, sym, ◌∙◌, true≢false}
use Rattle.std.proofs.lemmas.List.{take_more}
use Rattle.std.proofs.lemmas.List.Elements.{All-get_or}
use Rattle.smt_terms.specs.Sorts.{free_sort}
use Rattle.smt_terms.specs.declared.ids.SortId.{SortId}
use Rattle.smt_values.specs.SortIds.{sort_at, is_free}
use Rattle.models.specs.LiveNumbers.{IsFreeSort}
use Rattle.model_texts.specs.SignatureNames.{AreSortsNamed, by_name, at_name}
use Rattle.model_texts.proofs.NamedEntries.{put_in}
use Rattle.model_texts.proofs.SignatureOwners.{one_sort_more}
use Rattle.model_texts.proofs.names.names_of_sorts.Goals as goal
use Rattle.model_texts.proofs.names.names_of_sorts.Goals.{in-Some+in_ok-insert, in_default}

pub loop-sort-preserved : goal.loop-sort-preserved
loop-sort-preserved c =
    let t = c.args.table.now in
    let ss = c.args.sorts.now in
    let i = c.loop-sort.sort-index in
    let d : SortId = record { 0 = 0 } in
    let s = get_or ss i d in
    let free : IsFreeSort t s = All-get_or (IsFreeSort t) ss i d c.loop-sort-test.true c.requires in
    let next : take (i + 1) ss ≡ take i ss ++ s ∷ [] = take_more ss i d c.loop-sort-test.true in
    let old = c.loop-sort.names.entries in
    elim c.match-name.branch [
      | in-Some+in_ok-insert w ↦
          let is : sort_at t.sorts s ≡ free_sort w.in-Some.name.now = subst (λ zs. sort_at zs s ≡ free_sort w.in-Some.name.now) c.sorts.ensures w.in-Some.ensures.name in
          let named : AreSortsNamed t (take i ss ++ s ∷ []) (by_name w.insert.new.self.entries) =
          one_sort_more t (take i ss) s w.in-Some.name.now (by_name old) (by_name w.insert.new.self.entries) c.loop-sort.invariant free is
          (λ n. ap (λ es. at_name (by_name es) n) w.in_ok-insert.ensures.entries ∙ put_in old w.in-Some.name s n) in
          rw (w.names-is, next) named
      | in_default w ↦
          let other : is_free (sort_at t.sorts s) ≡ false = subst (λ zs. is_free (sort_at zs s) ≡ false) c.sorts.ensures w.in_default.ensures.name in
          absurd (true≢false (sym free.1 ∙ other))
    ]
