use Rattle.smt_terms.specs.Term.{Terms, none, ◌⨾◌}
use Rattle.smt_terms.specs.KeepsLaws.{EachKeeps}
use Rattle.smt_terms.proofs.Keeping.{KeepsAll, keeps_none, keeps_more, keeps_apply, keeps_quantified}
use Rattle.smt_terms.proofs.laws.values_are_kept_in_context.Goals as goal

all_keep : (ts us : Terms) → EachKeeps ts us → KeepsAll ts us
all_keep none none h = keeps_none
all_keep (t ⨾ ts) (u ⨾ us) h = keeps_more t u ts us h.0 (all_keep ts us h.1)
all_keep none (u ⨾ us) h = absurd h
all_keep (t ⨾ ts) none h = absurd h

pub returns : goal.returns
returns c = record {
  heads = λ h ts us well each other. keeps_apply h ts us well (all_keep ts us each) other;
  quantifiers = keeps_quantified;
}
