-- The inputs hold in each model that has the tables of a model in which all that took their places holds.
use Rattle.std.proofs.Common.{◌≡◌, Bool, true, false, cond, List, [], ◌∷◌, All, Some, refl, ap, ◌∙◌, subst}
use Rattle.smt_terms.specs.Free.{free}
use Rattle.smt_terms.specs.Groups.{Named, with_constants}
use Rattle.smt_terms.specs.Laws.{AgreeOn}
use Rattle.smt_terms.specs.Models.{Model, background, number_value, graph_or_default, IsModel}
use Rattle.smt_terms.specs.Rank.{is_empty}
use Rattle.smt_terms.specs.Sorts.{bool, Sort, Symbol}
use Rattle.smt_terms.specs.Term.{symbol, Term}
use Rattle.smt_terms.specs.Val.{no_variables, head_value, val}
use Rattle.smt_terms.specs.Values.{Value, is_true}
use Rattle.smt_terms.proofs.Depends.{val_agrees}
use Rattle.smt_terms.proofs.Respects.{truths_alike}
use Rattle.term_groups.specs.Drawing.{ConstantsAreNew}
use Rattle.term_groups.specs.Grouping.{holds_in}
use Rattle.ackermann.specs.Laws.{IsTabled, TablesAreModels}
use Rattle.ackermann.specs.Removals.{Removal, all_inputs, all_symbols, all_asserts, is_free_in}
use Rattle.ackermann.specs.Tables.{application_graph}
use Rattle.ackermann.proofs.GatheredTerms.{gathered-pairs, gathered-inputs}
use Rattle.ackermann.proofs.RemovalChains.{AreUses, IsCovered, IsChain, gathered, chain}
use Rattle.ackermann.proofs.TableValues.{tables, with_tables, tabled_same}
use Rattle.ackermann.proofs.UseLists.{All-passes, passes-All}
use Rattle.ackermann.proofs.UsePairs.{LinkedTo, all-linked}

module _ (rs : List Removal) (m n : Model) (tabled : IsTabled m n rs) where
  abbrev inputs : List Term
  inputs = all_inputs rs

  abbrev ns : Named
  ns = all_symbols rs

  backgrounds : background n ≡ background (with_tables m ns)
  backgrounds = λ i. record { sizes = tabled.sizes i; div_by_zero = number_value (tabled.div_by_zero i); mod_by_zero = number_value (tabled.mod_by_zero i) }

  none_there : (us : List Sort) → is_empty us ≡ true → us ≡ []
  none_there [] e = refl
  none_there (s ∷ us) e = absurd cc

  same_graph : (f : Symbol) → is_free_in inputs f ≡ true → n.graphs f ≡ tables m ns f
  same_graph f among = go (is_empty f.args) refl
    where
      go : (b : Bool) → is_empty f.args ≡ b → n.graphs f ≡ cond b (m.graphs f) (Some (application_graph m ns f))
      go true e = tabled.constants f among (none_there f.args e)
      go false e = tabled.functions f among e

  same_symbol : (f : Symbol) → is_free_in inputs f ≡ true → (vs : List Value) → head_value n no_variables (symbol f) [] vs ≡ head_value (with_tables m ns) no_variables (symbol f) [] vs
  same_symbol f among [] = λ i. graph_or_default f (tabled.sizes i) (same_graph f among i) []
  same_symbol f among (v ∷ vs) = λ i. graph_or_default f (tabled.sizes i) (same_graph f among i) (v ∷ vs)

  pub input_holds : AreUses inputs ns → IsModel m → All (LinkedTo (λ r. holds_in m r ≡ true) ns ns) ns → (t : Term) → IsCovered inputs ns t → holds_in m (with_constants ns t) ≡ true → holds_in n t ≡ true
  input_holds uses model linked t covered holds =
      let agree : AgreeOn (free t) n (with_tables m ns) no_variables no_variables = record {
        backgrounds = backgrounds;
        symbols = λ f among vs len. same_symbol f (covered.from.symbols f among) vs;
      } in
      ap is_true (val_agrees t bool n (with_tables m ns) no_variables no_variables covered.sort agree)
      ∙ truths_alike m.sizes (val (with_tables m ns) t no_variables) (val m (with_constants ns t) no_variables) (tabled_same inputs ns uses m model linked t bool covered.sort covered.from covered.closed)
      ∙ holds

pub tables-are-models : ConstantsAreNew → TablesAreModels
tables-are-models laws rs m n removals model tabled holds =
    let inputs = all_inputs rs in
    let ns = all_symbols rs in
    let HoldsThere : Term → Type 0 = λ r. holds_in m r ≡ true in
    let c : IsChain inputs [] rs ns = chain laws rs removals in
    let all : All HoldsThere (gathered ns [] rs) = subst (All HoldsThere) c.asserts (passes-All (holds_in m) (all_asserts rs) holds) in
    let linked = all-linked HoldsThere ns ns (gathered-pairs HoldsThere ns [] rs all) in
    let each = gathered-inputs HoldsThere ns [] rs all in
    All-passes (holds_in n) inputs
    (λ k d less. input_holds rs m n tabled c.uses model linked _ (c.covered k d less) (each k d less))
