-- What waits for a term stays as the table gains and names are drawn.
use Rattle.std.proofs.Common.{◌≡◌, ℕ, suc, ◌<◌, List, [], ◌∷◌, ◌++◌, map, length, drop, get_or, All, Option, ap, sym, ◌∙◌, subst}
use Rattle.std.proofs.lemmas.List.Elements.{All-head, All-tail, All-weaker, All-get_or, All-nil, All-cons}
use Rattle.smt_lex.specs.Lex.{Token}
use Rattle.smt_lex.specs.Names.{Name}
use Rattle.smt_lex.specs.Forest.{token_at, after_at}
use Rattle.smt_terms.specs.declared.ids.NodeId.{NodeId}
use Rattle.smt_terms.specs.Fresh.{NeverGives}
use Rattle.smt_terms.specs.Rank.{are_bindable}
use Rattle.smt_terms.specs.Sorts.{Variable}
use Rattle.term_table.specs.Formulas.{tree, trees_at, symbol_at, IsNode}
use Rattle.term_subst.specs.declared.maps.Definition.{Definition}
use Rattle.script_terms.specs.declared.locals.Constant.{Constant}
use Rattle.script_terms.specs.declared.terms.callees.Callee.{Callee}
use Rattle.script_terms.specs.declared.terms.callees.Callee.TheVariants.{Written as WrittenCallee, ArrayOf, Called, Defined, Operandless}
use Rattle.script_terms.specs.declared.terms.frames.Frame.{Frame}
use Rattle.script_terms.specs.declared.terms.frames.Frame.TheVariants.{Operands, Binding, Body, Quantified, Annotated}
use Rattle.script_terms.specs.Reading.{lets_as, ◌>>=◌}
use Rattle.script_terms.specs.Heads.{Callee as CalleeOf, array_of_sort, called, defined, applied}
use Rattle.script_terms.specs.Read.{Context, read, read_all, read_bindings, with_local, quantified_over}
use Rattle.script_terms.specs.Known.{IsDefinition, IsSpared, AreSpared, no_definition, parameter_sorts, IsConstant}
use Rattle.script_terms.specs.Bound.{LocalNames, variable_for, variables_of, name_at}
use Rattle.script_terms.specs.Waiting.{World, Gains, ShowsCallee, Stands, Waits, AllWait, Later, Stacks, list_of, below, name_with_term, names_with_terms, reversed_names}
use Rattle.script_terms.specs.Quantifiers.{quantifier_of}
use Rattle.script_terms.specs.Places.{forms_from, form_from}
use Rattle.script_terms.proofs.Grown.{tree_stays, trees_stay, symbol_within, symbol_stays, sort_within, sort_stays, never_later, same_map}
use Rattle.script_terms.proofs.Showing.{spared_stays, constant_stays}
use Rattle.script_terms.proofs.ShowingLocals.{locals_stay}

module _ (ts : List Token) (defines : Option Name) (v w : World) (gains : Gains v w) where
  pub nodes_spared : (ks : List NodeId) → AreSpared v.table v.supply ks → AreSpared w.table w.supply ks
  nodes_spared ks spared = All-weaker (IsSpared v.table v.supply) (IsSpared w.table w.supply) (spared_stays v.table w.table v.supply w.supply gains.table gains.supply) ks spared

  pub spared_trees : (ks : List NodeId) → AreSpared v.table v.supply ks → trees_at w.table ks ≡ trees_at v.table ks
  spared_trees ks spared = trees_stay v.table w.table gains.table ks (All-weaker (IsSpared v.table v.supply) (IsNode v.table) (λ k is. is.node) ks spared)

  definition_sorts : (d : Definition) → IsDefinition v.table v.supply d → parameter_sorts w.table d ≡ parameter_sorts v.table d
  definition_sorts d is = same_map (λ f. (symbol_at w.table f).result) (λ f. (symbol_at v.table f).result) d.params
      (All-weaker _ _ (λ f within. ap (λ g. g.result) (symbol_stays v.table w.table gains.table f within)) d.params is.symbols)

  pub callee_stays : All (IsDefinition v.table v.supply) v.definitions → (c : Callee) (o : CalleeOf) → ShowsCallee ts v c o → ShowsCallee ts w c o
  callee_stays definitions (WrittenCallee operator) o shows = shows
  callee_stays definitions (ArrayOf s) o shows =
      (sort_within v.table.sorts w.table.sorts gains.table.sorts s shows.0, shows.1 ∙ ap array_of_sort (sym (sort_stays v.table.sorts w.table.sorts gains.table.sorts s shows.0)))
  callee_stays definitions (Called f) o shows =
      let same = symbol_stays v.table w.table gains.table f shows.0 in (
        symbol_within v.table w.table gains.table f shows.0,
        shows.1 ∙ ap called (sym same),
        never_later v.supply w.supply gains.supply (symbol_at w.table f).name (subst (λ g. NeverGives v.supply g.name) (sym same) shows.2),
      )
  callee_stays definitions (Defined k) o shows =
      let is = All-get_or (IsDefinition v.table v.supply) v.definitions k no_definition shows.1 definitions in
      let rest : (k < length w.definitions) × (map (λ (x : Variable). x.sort) shows.0 ≡ parameter_sorts w.table (get_or w.definitions k no_definition)) × (o ≡ defined shows.0 (tree w.table (get_or w.definitions k no_definition).body)) =
      subst (λ ds. (k < length ds) × (map (λ (x : Variable). x.sort) shows.0 ≡ parameter_sorts w.table (get_or ds k no_definition)) × (o ≡ defined shows.0 (tree w.table (get_or ds k no_definition).body))) (sym gains.definitions) (
        shows.1,
        shows.2 ∙ sym (definition_sorts (get_or v.definitions k no_definition) is),
        shows.3 ∙ ap (defined shows.0) (sym (tree_stays v.table w.table gains.table (get_or v.definitions k no_definition).body is.body.node)),
      ) in
      (shows.0, rest.0, rest.1, rest.2)
  callee_stays definitions Operandless o shows = shows

  pub stands_still : (locals : LocalNames) (c : Context) → Stands ts defines v locals c → Stands ts defines w locals c
  stands_still locals c stands = record {
    shown = locals_stay v.table w.table v.supply w.supply gains.table gains.supply locals c.locals stands.shown;
    named = stands.named;
  }

  names_same : (ps : List (Name × NodeId)) → AreSpared v.table v.supply (map (λ p. p.1) ps) → All (λ p. name_with_term w.table p ≡ name_with_term v.table p) ps
  names_same [] spared = All-nil (λ p. name_with_term w.table p ≡ name_with_term v.table p)
  names_same (p ∷ ps) spared = All-cons (λ p. name_with_term w.table p ≡ name_with_term v.table p) p ps
      (let same = tree_stays v.table w.table gains.table p.1 (All-head (IsSpared v.table v.supply) p.1 (map (λ q. q.1) ps) spared).node in λ i. (p.0, same i))
      (names_same ps (All-tail (IsSpared v.table v.supply) p.1 (map (λ q. q.1) ps) spared))

  names_still : (ps : List (Name × NodeId)) → AreSpared v.table v.supply (map (λ p. p.1) ps) → names_with_terms w.table ps ≡ names_with_terms v.table ps
  names_still ps spared = same_map (name_with_term w.table) (name_with_term v.table) ps (names_same ps spared)

  variables_still : (cs : List Constant) → All (IsConstant v.table v.supply) cs → variables_of w.table cs ≡ variables_of v.table cs
  variables_still cs are = same_map (λ c. variable_for (symbol_at w.table c.symbol)) (λ c. variable_for (symbol_at v.table c.symbol)) cs
      (All-weaker (IsConstant v.table v.supply) _ (λ c is. ap variable_for (symbol_stays v.table w.table gains.table c.symbol is.symbol)) cs are)

  waits_still : All (IsDefinition v.table v.supply) v.definitions → (f : Frame) (at : ℕ) (stacks : Stacks) (later outer : Later) → Waits ts defines v f at stacks later outer → Waits ts defines w f at stacks later outer
  waits_still definitions (Operands f) at stacks later outer waits = record {
    context = waits.context;
    stands = stands_still stacks.locals waits.context waits.stands;
    callee = waits.callee;
    callees = waits.callees;
    innermost = waits.innermost;
    within = waits.within;
    called = waits.called;
    shows = callee_stays definitions waits.callee waits.called waits.shows;
    spared = nodes_spared (drop f.first stacks.operands) waits.spared;
    place = waits.place;
    next = λ u s. waits.next u s
        ∙ ap (λ us. ((read_all (forms_from ts at) waits.context >>= λ more. applied waits.called (token_at ts f.list).start (us ++ u ∷ more)) >>= outer) s) (sym (spared_trees (drop f.first stacks.operands) waits.spared));
  }
  waits_still definitions (Binding f) at stacks later outer waits = record {
    context = waits.context;
    stands = stands_still stacks.locals waits.context waits.stands;
    bindings = waits.bindings;
    terms = nodes_spared (map (λ p. p.1) f.names.value) waits.terms;
    own = waits.own;
    new_name = waits.new_name;
    own_name = waits.own_name;
    named_token = waits.named_token;
    part_form = waits.part_form;
    body_form = waits.body_form;
    next = λ u s. waits.next u s
        ∙ ap (λ ps. ((read_bindings (forms_from ts (after_at ts f.part)) (name_at ts (suc f.part) ∷ reversed_names f.names.value) waits.context >>= λ us.
        read (form_from ts f.body) (with_local (lets_as waits.bindings (ps ++ (name_at ts (suc f.part), u) ∷ us)) waits.context)) >>= outer) s) (sym (names_still f.names.value waits.terms));
  }
  waits_still definitions (Body f) at stacks later outer waits = waits
  waits_still definitions (Quantified f) at stacks later outer waits = record {
    within = waits.within;
    known = All-weaker (IsConstant v.table v.supply) (IsConstant w.table w.supply) (constant_stays v.table w.table v.supply w.supply gains.table gains.supply) f.constants.items waits.known;
    bindable = ap are_bindable (variables_still f.constants.items waits.known) ∙ waits.bindable;
    next = λ u s. waits.next u s ∙ ap (λ xs. (quantified_over (token_at ts f.list).start (quantifier_of f.quantifier) xs u >>= outer) s) (sym (variables_still f.constants.items waits.known));
  }
  waits_still definitions (Annotated f) at stacks later outer waits = record {
    context = waits.context;
    stands = stands_still stacks.locals waits.context waits.stands;
    form = waits.form;
    place = waits.place;
    next = waits.next;
  }

  -- what all frames do
  pub all_still : All (IsDefinition v.table v.supply) v.definitions → (fs : List Frame) (at : ℕ) (stacks : Stacks) (later : Later) → AllWait ts defines v fs at stacks later → AllWait ts defines w fs at stacks later
  all_still definitions [] at stacks later waiting = waiting
  all_still definitions (f ∷ fs) at stacks later waiting =
      (waiting.0, waiting.1, waits_still definitions f at stacks later waiting.0 waiting.2, all_still definitions fs (after_at ts (list_of f)) (below f stacks) waiting.0 waiting.3)
