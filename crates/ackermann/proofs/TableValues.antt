-- Where all that is said of the constants of applications is true in a model, the model with the tables gives each term of the
-- inputs the value that it has in the first one with the constants in place.
use Rattle.std.proofs.Common.{◌≡◌, Bool, true, false, cond, List, [], ◌∷◌, All, Option, Some, None, IfSome, IsTrue, refl, ap, sym, ◌∙◌, subst}
use Rattle.std.specs.Prelude.{unwrap_or}
use Rattle.smt_terms.specs.Groups.{Named, constant_for, constant_or, with_constants, with_constants_each}
use Rattle.smt_terms.specs.Models.{Graph, Model, graph_or_default, graph_value, is_graph, IsModel}
use Rattle.smt_terms.specs.Rank.{is_empty, sort_of, sorts_of}
use Rattle.smt_terms.specs.Shapes.{is_application, no_application}
use Rattle.smt_terms.specs.Sorts.{Sort, Symbol}
use Rattle.smt_terms.specs.Term.{Head, op, symbol, const_array, Term, apply, quantified, Terms, none, ◌⨾◌, constant}
use Rattle.smt_terms.specs.Val.{no_variables, head_value, val, vals}
use Rattle.smt_terms.specs.Values.{Value, same, all_same, is_value}
use Rattle.smt_terms.proofs.Depends.{val_agrees}
use Rattle.smt_terms.proofs.Respects.{equal_same}
use Rattle.smt_terms.proofs.Same.{same-through}
use Rattle.smt_terms.proofs.SameOperands.{head_gives}
use Rattle.smt_terms.proofs.Sorted.{applied, sorted}
use Rattle.smt_terms.proofs.SortsOfTerms.{regular, sorts_are_sorts}
use Rattle.smt_terms.proofs.Tests.{and_true}
use Rattle.smt_terms.proofs.Valid.{is_value-symbol, val_valid, vals_valid}
use Rattle.term_groups.specs.Grouping.{holds_in, terms_of}
use Rattle.ackermann.specs.Ackermann.{applications, applications_of}
use Rattle.ackermann.specs.Removals.{is_use}
use Rattle.ackermann.specs.Tables.{application_graph}
use Rattle.ackermann.proofs.FoundRows.{found_result}
use Rattle.ackermann.proofs.FromInputs.{IsFrom, AreFrom, from-operands, from-first, from-others}
use Rattle.ackermann.proofs.PairValues.{none_assigned, no_more}
use Rattle.ackermann.proofs.PlainTerms.{constant-args, plain-args}
use Rattle.ackermann.proofs.RemovalChains.{AreUses}
use Rattle.ackermann.proofs.ReplacedUses.{not-used, closed-operands, closed-first, closed-others, built-parts}
use Rattle.ackermann.proofs.TablesValid.{table_valid}
use Rattle.ackermann.proofs.UseLists.{HasAll, found-holds, not_false}
use Rattle.ackermann.proofs.UsePairs.{LinkedTo}
use Rattle.ackermann.proofs.UseSorts.{IsPairOf, all-pairs_of, IsUseOf, use_of}

-- ---- the model with the tables

abbrev pub tables : Model → Named → Symbol → Option Graph
tables m ns f = cond (is_empty f.args) (m.graphs f) (Some (application_graph m ns f))

abbrev pub with_tables : Model → Named → Model
with_tables m ns = record { sizes = m.sizes; graphs = tables m ns; div_by_zero = m.div_by_zero; mod_by_zero = m.mod_by_zero }

module _ (inputs : List Term) (ns : Named) (uses : AreUses inputs ns) (m : Model) (model : IsModel m) where
  abbrev n : Model
  n = with_tables m ns

  pub tables_model : IsModel n
  tables_model = record {
    sizes = model.sizes;
    graphs = λ f. go f (is_empty f.args) refl;
    div_by_zero = model.div_by_zero;
    mod_by_zero = model.mod_by_zero;
  }
    where
      go : (f : Symbol) (b : Bool) → is_empty f.args ≡ b → IfSome (cond b (m.graphs f) (Some (application_graph m ns f))) (λ g. IsTrue (is_graph f m.sizes g))
      go f true e = model.graphs f
      go f false e = table_valid inputs ns uses m model f e

  constant_graph : (f : Symbol) → f.args ≡ [] → n.graphs f ≡ m.graphs f
  constant_graph f empty = ap (λ us. cond (is_empty us) (m.graphs f) (Some (application_graph m ns f))) empty

  kept_symbol : (f : Symbol) → f.args ≡ [] → (ss : List Sort) (vs : List Value) → head_value n no_variables (symbol f) ss vs ≡ head_value m no_variables (symbol f) ss vs
  kept_symbol f empty ss [] = λ i. graph_or_default f m.sizes (constant_graph f empty i) []
  kept_symbol f empty ss (v ∷ vs) = λ i. graph_or_default f m.sizes (constant_graph f empty i) (v ∷ vs)

  kept_head : (h : Head) (ts : Terms) (s : Sort) → sort_of (apply h ts) ≡ Some s → is_application h ts ≡ false → (ss : List Sort) → head_value n no_variables h ss (vals n ts no_variables) ≡ head_value m no_variables h ss (vals n ts no_variables)
  kept_head (op o) ts s has plain ss = refl
  kept_head (const_array r) ts s has plain ss = refl
  kept_head (symbol f) (t ⨾ ts) s has plain ss = absurd cc
  kept_head (symbol f) none s has plain ss = kept_symbol f (constant-args f s has) ss []

  -- ---- terms of the inputs

  module _ (linked : All (LinkedTo (λ r. holds_in m r ≡ true) ns ns) ns) where
    abbrev replaced : Terms → List Value
    replaced ts = vals m (with_constants_each ns ts) no_variables

    -- the operands have the same values as those that take their places
    abbrev OperandsSame : Terms → Type 0
    OperandsSame ts = (ss : List Sort) → sorts_of ts ≡ Some ss → all_same ss m.sizes (vals n ts no_variables) (replaced ts) ≡ true

    table_graph : (f : Symbol) (t : Term) (ts : Terms) → sorts_of (t ⨾ ts) ≡ Some f.args → n.graphs f ≡ Some (application_graph m ns f)
    table_graph f t ts have = go f.args refl
      where
        go : (us : List Sort) → us ≡ f.args → cond (is_empty us) (m.graphs f) (Some (application_graph m ns f)) ≡ Some (application_graph m ns f)
        go [] e = absurd (no_more t ts f.args have e)
        go (s ∷ us) e = refl

    use_same : (f v : Symbol) (t : Term) (ts : Terms) → constant_for ns (apply (symbol f) (t ⨾ ts)) ≡ Some v → OperandsSame (t ⨾ ts) → same f.result m.sizes (val n (apply (symbol f) (t ⨾ ts)) no_variables) (val m (constant v) no_variables) ≡ true
    use_same f v t ts found operands =
        let mine : IsUseOf inputs ns v f (t ⨾ ts) = use_of inputs ns uses v f (t ⨾ ts) (found-holds (IsPairOf inputs ns) ns (apply (symbol f) (t ⨾ ts)) v (all-pairs_of inputs ns uses) found) in
        let whole = val n (apply (symbol f) (t ⨾ ts)) no_variables in
        let table = graph_value f.args m.sizes (application_graph m ns f) (replaced (t ⨾ ts)) in
        let graph : n.graphs f ≡ Some (application_graph m ns f) = table_graph f t ts mine.operands in
        let at_table : graph_or_default f m.sizes (n.graphs f) (replaced (t ⨾ ts)) ≡ table = ap (λ o. graph_or_default f m.sizes o (replaced (t ⨾ ts))) graph in
        let first : same f.result m.sizes whole (graph_or_default f m.sizes (n.graphs f) (replaced (t ⨾ ts))) ≡ true =
        head_gives n no_variables (symbol f) f.args f.result (vals n (t ⨾ ts) no_variables) (replaced (t ⨾ ts)) tables_model mine.ranked mine.fine_args
        (vals_valid (t ⨾ ts) f.args n no_variables tables_model (none_assigned n) mine.operands)
        (vals_valid (with_constants_each ns (t ⨾ ts)) f.args m no_variables model (none_assigned m) mine.replaced.sorts)
        (operands f.args mine.operands) in
        same-through f.result m.sizes whole table (val m (constant v) no_variables) mine.fine
        (val_valid (apply (symbol f) (t ⨾ ts)) f.result n no_variables tables_model (none_assigned n) mine.has)
        (subst (λ w. is_value f.result m.sizes w ≡ true) at_table (is_value-symbol n f (replaced (t ⨾ ts)) tables_model))
        (val_valid (constant v) f.result m no_variables model (none_assigned m) mine.constant.sort)
        (subst (λ w. same f.result m.sizes whole w ≡ true) at_table first)
        (found_result inputs ns uses m model linked f v (t ⨾ ts) found)

    at_constant : (h : Head) (ts : Terms) (s : Sort) (v : Symbol) → sort_of (apply h ts) ≡ Some s → constant_for ns (apply h ts) ≡ Some v → is_use (apply h ts) ≡ true → OperandsSame ts → same s m.sizes (val n (apply h ts) no_variables) (val m (constant v) no_variables) ≡ true
    at_constant (symbol f) (t ⨾ ts) s v has found application operands =
        let mine : IsUseOf inputs ns v f (t ⨾ ts) = use_of inputs ns uses v f (t ⨾ ts) (found-holds (IsPairOf inputs ns) ns (apply (symbol f) (t ⨾ ts)) v (all-pairs_of inputs ns uses) found) in
        let both : Some f.result ≡ Some s = sym mine.has ∙ has in
        let sort : f.result ≡ s = cc in
        subst (λ r. same r m.sizes (val n (apply (symbol f) (t ⨾ ts)) no_variables) (val m (constant v) no_variables) ≡ true) sort (use_same f v t ts found operands)
    at_constant (symbol f) none s v has found application operands = absurd cc
    at_constant (op o) ts s v has found application operands = absurd cc
    at_constant (const_array r) ts s v has found application operands = absurd cc

    at_operands : (h : Head) (ts : Terms) (s : Sort) → sort_of (apply h ts) ≡ Some s → IsFrom inputs (apply h ts) → HasAll (terms_of ns) (applications (apply h ts)) → constant_for ns (apply h ts) ≡ None → OperandsSame ts → same s m.sizes (val n (apply h ts) no_variables) (val m (apply h (with_constants_each ns ts)) no_variables) ≡ true
    at_operands h ts s has from closed missing operands =
        let parts = applied h ts s has in
        let us = with_constants_each ns ts in
        let us_have : sorts_of us ≡ Some parts.sorts = (built-parts inputs ns uses.constants ts parts.sorts parts.operands (from-operands inputs h ts from) (closed-operands ns h ts closed)).sorts in
        let left : val n (apply h ts) no_variables ≡ head_value m no_variables h parts.sorts (vals n ts no_variables) =
        ap (λ o. head_value n no_variables h (unwrap_or o []) (vals n ts no_variables)) parts.operands ∙ kept_head h ts s has (not-used ns h ts closed missing) parts.sorts in
        let right : val m (apply h us) no_variables ≡ head_value m no_variables h parts.sorts (vals m us no_variables) = ap (λ o. head_value m no_variables h (unwrap_or o []) (vals m us no_variables)) us_have in
        (λ i. same s m.sizes (left i) (right i))
        ∙ head_gives m no_variables h parts.sorts s (vals n ts no_variables) (vals m us no_variables) model parts.rank
        (sorts_are_sorts ts parts.sorts (regular h ts from.rules).operands parts.operands)
        (vals_valid ts parts.sorts n no_variables tables_model (none_assigned n) parts.operands)
        (vals_valid us parts.sorts m no_variables model (none_assigned m) us_have)
        (operands parts.sorts parts.operands)

    at_head : (h : Head) (ts : Terms) (s : Sort) → sort_of (apply h ts) ≡ Some s → IsFrom inputs (apply h ts) → HasAll (terms_of ns) (applications (apply h ts)) → OperandsSame ts → (o : Option Symbol) → constant_for ns (apply h ts) ≡ o → same s m.sizes (val n (apply h ts) no_variables) (val m (constant_or o (apply h (with_constants_each ns ts))) no_variables) ≡ true
    at_head h ts s has from closed operands (Some v) found =
        at_constant h ts s v has found (found-holds (IsPairOf inputs ns) ns (apply h ts) v (all-pairs_of inputs ns uses) found).application operands
    at_head h ts s has from closed operands None found = at_operands h ts s has from closed found operands

    mutual
      pub tabled_same : (u : Term) (s : Sort) → sort_of u ≡ Some s → IsFrom inputs u → HasAll (terms_of ns) (applications u) → same s m.sizes (val n u no_variables) (val m (with_constants ns u) no_variables) ≡ true
      tabled_same (apply h ts) s has from closed =
          at_head h ts s has from closed (λ ss have. tabled_all_same ts ss have (from-operands inputs h ts from) (closed-operands ns h ts closed)) (constant_for ns (apply h ts)) refl
      tabled_same (quantified q xs u) s has from closed =
          equal_same s m.sizes (val_agrees (quantified q xs u) s n m no_variables no_variables has (record {
            backgrounds = refl;
            symbols = λ f among vs len. kept_symbol f (plain-args (quantified q xs u) s has (not_false (no_application u) from.outside) f among) [] vs;
          }))

      pub tabled_all_same : (us : Terms) (ss : List Sort) → sorts_of us ≡ Some ss → AreFrom inputs us → HasAll (terms_of ns) (applications_of us) → all_same ss m.sizes (vals n us no_variables) (replaced us) ≡ true
      tabled_all_same none ss have from closed = let empty : [] ≡ ss = cc in subst (λ rs. all_same rs m.sizes [] [] ≡ true) empty refl
      tabled_all_same (u ⨾ us) ss have from closed =
          let parts = sorted u us ss have in
          let first = tabled_same u parts.sort parts.first (from-first inputs u us from) (closed-first ns u us closed) in
          let others = tabled_all_same us parts.sorts parts.others (from-others inputs u us from) (closed-others ns u us closed) in
          ap (λ rs. all_same rs m.sizes (vals n (u ⨾ us) no_variables) (replaced (u ⨾ us))) parts.all
          ∙ and_true (same parts.sort m.sizes (val n u no_variables) (val m (with_constants ns u) no_variables)) (all_same parts.sorts m.sizes (vals n us no_variables) (replaced us)) first others
