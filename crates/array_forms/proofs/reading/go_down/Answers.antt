use Rattle.std.proofs.Common.{◌≡◌, ap, sym, ◌∙◌, subst}
use Rattle.smt_terms.specs.ArrayTerms.{selected, stored}
use Rattle.smt_terms.specs.Rank.{sort_of, IsWellSorted}
use Rattle.smt_terms.proofs.StoredTerms.{Stored, stored_term, before_sort, before_fine}
use Rattle.term_table.specs.Formulas.{tree}
use Rattle.array_forms.specs.Reads.{read}
use Rattle.array_forms.specs.Writes.{over_writes}
use Rattle.array_forms.proofs.OverWrites.{read-stored}
use Rattle.array_forms.proofs.reading.go_down.Goals as goal

pub loop-write-preserved : goal.loop-write-preserved
loop-write-preserved c =
    let t = c.args.table.now in
    let j = tree t c.args.index in
    let w = c.in-Some.write in
    let b = tree t w.before in
    let i = tree t w.index in
    let v = tree t w.value in
    let inv = c.loop-write.invariant in
    let last = c.in-Some.ensures.write in
    let g : Stored b i v j = stored_term b i v j (subst (λ a. IsWellSorted (selected a j)) last.term inv.sorted) in
    let here : sort_of (selected (stored b i v) j) ≡ sort_of (selected (tree t c.args.array) j) = ap (λ a. sort_of (selected a j)) (sym last.term) ∙ inv.sort in
    record {
      node = last.before;
      sorted = before_fine b i v j g;
      sort = before_sort b i v j g ∙ sym g.has ∙ here;
      suit = c.in_ok-pass.ensures.suit (sort_of (selected (tree t c.args.array) j)) inv.suit (record {
        index = last.index;
        value = last.value;
        index_sort = g.key_sort ∙ sym g.asked_sort;
        value_sort = g.element ∙ sym g.has ∙ here;
      });
      term = inv.term ∙ ap (over_writes t j c.loop-write.passed.items) (ap (λ a. read a j) last.term ∙ read-stored b i v j) ∙ sym (c.in_ok-pass.ensures.term (read b j));
    }
