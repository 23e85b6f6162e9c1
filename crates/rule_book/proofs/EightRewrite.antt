-- What a book makes of a term by rules of the eight alone is the one term that they give.
use Rattle.std.proofs.Common.{◌≡◌, List, IsTrue, ap, ◌∙◌}
use Rattle.smt_terms.specs.Made.{made}
use Rattle.smt_terms.specs.Sorts.{Name}
use Rattle.smt_terms.specs.Term.{apply, quantified, Terms, none, ◌⨾◌}
use Rattle.rule_book.specs.EightRules.{all_eight}
use Rattle.rule_book.specs.Rewriting.{RewritesEach, EightRewriteSo}
use Rattle.rule_book.specs.Ruled.{rewritten, ruled_all}

mutual
  pub eight-rewrite-so : EightRewriteSo
  eight-rewrite-so ns (apply h ts) u eight r = r.2.told eight ∙ ap (λ us. rewritten ns (made h us)) (each-so ns ts r.0 eight r.1)
  eight-rewrite-so ns (quantified q xs t) u eight r = r.2 ∙ ap (λ b. quantified q xs b) (eight-rewrite-so ns t r.0 eight r.1)

  each-so : (ns : List Name) (ts us : Terms) → IsTrue (all_eight ns) → RewritesEach ns ts us → us ≡ ruled_all ns ts
  each-so ns none us eight r = r
  each-so ns (t ⨾ ts) us eight r = r.1.1.0 ∙ (λ i. eight-rewrite-so ns t r.0 eight r.1.1.1.0 i ⨾ each-so ns ts r.1.0 eight r.1.1.1.1 i)
