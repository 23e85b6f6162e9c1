-- Nodes of applications, as the code makes them.
use Rattle.std.proofs.Common.{◌≡◌, ℕ, suc, ◌<◌, Bool, true, false, cond, List, [], ◌∷◌, map, zip, length, get_or, All, Option, Some, None, Result, Ok, Err, refl, ap, sym, ◌∙◌, subst}
use Rattle.std.specs.Prelude.{slice_get, unwrap_or, is_some, ◌&&◌, IfOk, IsTrue}
use Rattle.std.proofs.lemmas.Option.{get_or_from_slice_get}
use Rattle.std.proofs.lemmas.List.{length-map}
use Rattle.std.proofs.lemmas.List.Elements.{All-head, All-tail, All-weaker, All-nil, All-cons}
use Rattle.smt_lex.specs.Lex.{Token}
use Rattle.smt_terms.specs.declared.ids.NodeId.{NodeId}
use Rattle.smt_terms.specs.declared.ids.SymId.{SymId}
use Rattle.smt_terms.specs.declared.ids.SortId.{SortId}
use Rattle.smt_terms.specs.declared.op.Op.TheVariants.{Sym, ConstArray}
use Rattle.smt_terms.specs.Equal.{symbol_eq}
use Rattle.smt_terms.specs.Free.{name_among}
use Rattle.smt_terms.proofs.Cuts.{name_among-append}
use Rattle.smt_terms.proofs.Tests.{left_true, right_true}
use Rattle.smt_terms.specs.Fresh.{Supply, NeverGives}
use Rattle.smt_terms.specs.Rank.{Fault, rank, sort_of, sorts_of, with_sort, is_regular}
use Rattle.smt_terms.specs.Sorts.{Sort, bool, Symbol, Variable}
use Rattle.smt_terms.specs.Subst.{image, parameter, expand}
use Rattle.smt_terms.specs.SubstLaws.{names_within, names_within_each, GivesNone, GivesNoNameIn}
use Rattle.smt_terms.specs.Term.{symbol, const_array, Term, terms, over}
use Rattle.smt_terms.specs.Written.{Written, build}
use Rattle.smt_terms.proofs.Ranked.{rank-takes}
use Rattle.smt_terms.proofs.SubstNames.{subst-spares_names}
use Rattle.smt_values.specs.SortIds.{sort_at}
use Rattle.term_table.specs.declared.fault.RankFault.{RankFault}
use Rattle.term_table.specs.declared.fault.RankFault.TheVariants.{WrongArity as WrongArityFault, WrongSort as WrongSortFault, BadIndex as BadIndexFault, WidthLimit as WidthLimitFault}
use Rattle.term_table.specs.Faults.{fault_seen}
use Rattle.term_table.specs.Formulas.{Formulas, tree, trees_at, symbol_at, kind, sort_or_bool, sorts_in, rank_over, IsTable, IsNode, AreNodes, IsSymbol}
use Rattle.term_table.specs.ShapeRank.{kid_sorts}
use Rattle.term_subst.specs.declared.maps.Definition.{Definition}
use Rattle.term_subst.specs.Substituting.{IsPair, IsMap}
use Rattle.sort_check.specs.declared.fault.MakeFault.{MakeFault}
use Rattle.sort_check.specs.declared.fault.MakeFault.TheVariants.{Rank, Memory as MakeMemory}
use Rattle.sort_check.specs.Making.{FollowsRank, made_over}
use Rattle.script_terms.specs.declared.causes.Cause.{Cause}
use Rattle.script_terms.specs.declared.faults.ReadFault.{ReadFault}
use Rattle.script_terms.specs.ApplicationClauses.{cause_for, answer_of, ReadsWith, arguments_rank, MeetsFault}
use Rattle.script_terms.specs.Heads.{Callee as CalleeOf, defined, term_algebra, operand_sorts, where_ranked, parameters_from, rank_of_arguments, expanded, applied}
use Rattle.script_terms.specs.declared.sofar.Sofar.{Sofar as SofarSeen}
use Rattle.script_terms.specs.declared.terms.callees.Callee.TheVariants.{Defined}
use Rattle.script_terms.specs.Waiting.{ShowsCallee, now_at}
use Rattle.script_terms.specs.Known.{no_definition, Scoping, Shows, IsSpared, AreSpared, IsDefinition, parameter_sorts, parameters_of, ReadsTerm}
use Rattle.script_terms.specs.Reading.{ReadBinding, Sofar, beside}
use Rattle.script_terms.specs.Refusals.{Refused, at, cause_of}
use Rattle.script_terms.proofs.BuiltNames.{build_spared}
use Rattle.script_terms.proofs.NameFacts.{spared_first, spared_none, spared_both}

-- ---- the sorts of operands

has_sort : (o : Option Sort) (regular : Bool) → IsTrue (is_some o && regular) → o ≡ Some (sort_or_bool o)
has_sort None regular is = absurd cc
has_sort (Some s) regular is = refl

module _ (t : Formulas) (table : IsTable t) where
  pub node_sort : (k : NodeId) → IsNode t k → sort_of (tree t k) ≡ Some (sort_or_bool (sort_of (tree t k)))
  node_sort k node = has_sort (sort_of (tree t k)) (is_regular (tree t k)) (table.sorted k.0 node)

  listed_sorts : (ks : List NodeId) → AreNodes t ks → sorts_of (terms (trees_at t ks)) ≡ Some (kid_sorts t ks)
  listed_sorts [] nodes = refl
  listed_sorts (k ∷ ks) nodes =
      let first = node_sort k (All-head (λ j. IsNode t j) k ks nodes) in
      let rest = listed_sorts ks (All-tail (λ j. IsNode t j) k ks nodes) in
      λ i. with_sort (first i) (rest i)

  -- the operands have the sorts that the table knows
  pub same_sorts : (ks : List NodeId) → AreNodes t ks → operand_sorts (trees_at t ks) ≡ kid_sorts t ks
  same_sorts ks nodes = ap (λ o. unwrap_or o []) (listed_sorts ks nodes)

-- ---- names

module _ (t : Formulas) (supply : Supply) where
  pub nodes_of : (ks : List NodeId) → AreSpared t supply ks → AreNodes t ks
  nodes_of ks spared = All-weaker (IsSpared t supply) (λ k. IsNode t k) (λ k is. is.node) ks spared

  names_spared : (ks : List NodeId) → AreSpared t supply ks → GivesNone supply (names_within_each (terms (trees_at t ks)))
  names_spared [] spared = spared_none supply
  names_spared (k ∷ ks) spared =
      spared_both supply (names_within (tree t k)) (names_within_each (terms (trees_at t ks)))
      (All-head (IsSpared t supply) k ks spared).spared (names_spared ks (All-tail (IsSpared t supply) k ks spared))

  pub operator_spared : (w : Written) (ks : List NodeId) → AreSpared t supply ks → GivesNone supply (names_within (build term_algebra w (trees_at t ks)))
  operator_spared w ks spared = build_spared supply w (trees_at t ks) (names_spared ks spared)

  pub symbol_spared : (f : Symbol) (ks : List NodeId) → NeverGives supply f.name → AreSpared t supply ks → GivesNone supply (names_within (over (symbol f) (trees_at t ks)))
  symbol_spared f ks never spared = spared_first supply f.name (names_within_each (terms (trees_at t ks))) never (names_spared ks spared)

  pub array_spared : (s : Sort) (ks : List NodeId) → AreSpared t supply ks → GivesNone supply (names_within (over (const_array s) (trees_at t ks)))
  array_spared s ks spared = names_spared ks spared

-- ---- the operator of a node

module _ (t : Formulas) where
  pub symbol_rank : (f : SymId) (ts : List Term) → rank_over t (Sym f) ts ≡ rank (symbol (symbol_at t f)) (sorts_in ts)
  unfolding kind
  symbol_rank f ts = refl

  pub symbol_made : (f : SymId) (ts : List Term) → made_over t (Sym f) ts ≡ over (symbol (symbol_at t f)) ts
  unfolding kind
  symbol_made f ts = refl

  pub array_rank : (s : SortId) (ts : List Term) → rank_over t (ConstArray s) ts ≡ rank (const_array (sort_at t.sorts s)) (sorts_in ts)
  unfolding kind
  array_rank s ts = refl

  pub array_made : (s : SortId) (ts : List Term) → made_over t (ConstArray s) ts ≡ over (const_array (sort_at t.sorts s)) ts
  unfolding kind
  array_made s ts = refl

  pub made_as : (u : Formulas) (made : Result NodeId MakeFault) (x y : Term) → x ≡ y → IfOk made (λ k. tree u k ≡ x) → IfOk made (λ k. tree u k ≡ y)
  made_as u (Ok k) x y same is = is ∙ same
  made_as u (Err e) x y same is = tt

-- ---- answers

same_cause : (ss : List Sort) (e : RankFault) → cause_of (fault_seen ss e) ≡ cause_for e
same_cause ss WrongArityFault = refl
same_cause ss (WrongSortFault k have want) = refl
same_cause ss BadIndexFault = refl
same_cause ss WidthLimitFault = refl

module _ (u : Formulas) (place : ℕ) (supply : Supply) (live : List ReadBinding) where
  abbrev state : Sofar
  state = record { live = live; supply = supply }

  -- a node that was made where its operator has a rank
  made_where : (ss : List Sort) (r : Result Sort Fault) (x : Term) (made : Result NodeId MakeFault) → FollowsRank ss r made → IfOk made (λ k. IsNode u k) → IfOk made (λ k. tree u k ≡ x) → GivesNone supply (names_within x)
      → ReadsWith u supply live (beside state (where_ranked place r x)) (answer_of place made)
  made_where ss (Ok s) x (Ok k) follows node term spared =
      (record { node = node; spared = subst (λ y. GivesNone supply (names_within y)) (sym term) spared }, ap (λ y. Ok (y, state)) (sym term))
  made_where ss (Err e) x (Ok k) follows node term spared = absurd cc
  made_where ss r x (Err (Rank e)) follows node term spared =
      ap (λ q. beside state (where_ranked place q x)) follows.0 ∙ ap (λ cause. Err (record { cause = cause; place = place })) (same_cause ss e)
  made_where ss r x (Err MakeMemory) follows node term spared = tt

  pub made_ranked : (ss : List Sort) (r q : Result Sort Fault) (x : Term) (made : Result NodeId MakeFault) (answer : Result NodeId ReadFault) → r ≡ q → answer ≡ answer_of place made → FollowsRank ss q made → IfOk made (λ k. IsNode u k) → IfOk made (λ k. tree u k ≡ x) → GivesNone supply (names_within x)
      → ReadsWith u supply live (beside state (where_ranked place r x)) answer
  made_ranked ss r q x made answer same is follows node term spared =
      subst (λ a. ReadsWith u supply live (beside state (where_ranked place r x)) a) (sym is)
      (subst (λ p. ReadsWith u supply live (beside state (where_ranked place p x)) (answer_of place made)) (sym same) (made_where ss q x made follows node term spared))

-- what holds of the scope still holds of it
pub reads_term : (u : Formulas) (s : Scoping) (supply : Supply) (live : List ReadBinding) (r : Result (Term × Sofar) Refused) (answer : Result NodeId ReadFault) → Shows u supply s live → ReadsWith u supply live r answer → ReadsTerm u s supply r answer
reads_term u s supply live r (Ok k) shows is = (is.0, record { live = live; shows = shows; given = is.1 })
reads_term u s supply live r (Err e) shows is = is

-- ---- the arguments of a definition

parameters_same : (i : ℕ) (xs : List Variable) → parameters_from i xs ≡ parameters_of i (map (λ x. x.sort) xs)
parameters_same i [] = refl
parameters_same i (x ∷ xs) = ap (λ fs. parameter i x.sort ∷ fs) (parameters_same (suc i) xs)

cons_parts : {A : Type 0} (x y : A) (xs ys : List A) → x ∷ xs ≡ y ∷ ys → (x ≡ y) × (xs ≡ ys)
cons_parts x y xs ys is = (cc, cc)

pairs_fit : (t : Formulas) → IsTable t → (i : ℕ) (fs : List SymId) (ks : List NodeId) (ss : List Sort) → All (IsSymbol t) fs → AreNodes t ks → map (symbol_at t) fs ≡ parameters_of i ss → kid_sorts t ks ≡ map (λ f. (symbol_at t f).result) fs → IsMap t (zip fs ks)
pairs_fit t table i [] ks ss symbols nodes params sorts = All-nil (IsPair t)
pairs_fit t table i (f ∷ fs) [] ss symbols nodes params sorts = All-nil (IsPair t)
pairs_fit t table i (f ∷ fs) (k ∷ ks) [] symbols nodes params sorts = absurd cc
pairs_fit t table i (f ∷ fs) (k ∷ ks) (s ∷ ss) symbols nodes params sorts =
    let here = cons_parts (symbol_at t f) (parameter i s) (map (symbol_at t) fs) (parameters_of (suc i) ss) params in
    let sort = cons_parts (sort_or_bool (sort_of (tree t k))) (symbol_at t f).result (kid_sorts t ks) (map (λ g. (symbol_at t g).result) fs) sorts in
    All-cons (IsPair t) (f, k) (zip fs ks)
    (record {
      symbol = All-head (IsSymbol t) f fs symbols;
      constant = ap (λ (g : Symbol). g.args) here.0;
      image = All-head (λ j. IsNode t j) k ks nodes;
      sort = node_sort t table k (All-head (λ j. IsNode t j) k ks nodes) ∙ ap Some sort.0;
    })
    (pairs_fit t table (suc i) fs ks ss (All-tail (IsSymbol t) f fs symbols) (All-tail (λ j. IsNode t j) k ks nodes) here.1 sort.1)

images_named : (supply : Supply) (gs : List Symbol) (ts : List Term) → GivesNone supply (names_within_each (terms ts)) → GivesNoNameIn supply (zip gs ts)
images_named supply [] ts spared g u found = absurd cc
images_named supply (h ∷ gs) [] spared g u found = absurd cc
images_named supply (h ∷ gs) (t ∷ ts) spared g u found = by (symbol_eq h g) found
    (λ e. images_named supply gs ts (λ n among. spared n (name_among-append (names_within t) (names_within_each (terms ts)) n ∙ right_true (name_among (names_within t) n) (name_among (names_within_each (terms ts)) n) among)) g u e)
  where
    by : (b : Bool) → cond b (Some t) (image (zip gs ts) g) ≡ Some u → (image (zip gs ts) g ≡ Some u → GivesNone supply (names_within u)) → GivesNone supply (names_within u)
    by true here below =
        let same : t ≡ u = cc in
        λ n among. spared n (name_among-append (names_within t) (names_within_each (terms ts)) n ∙ left_true (name_among (names_within t) n) (name_among (names_within_each (terms ts)) n) (ap (λ v. name_among (names_within v) n) same ∙ among))
    by false here below = below here

module _ (t : Formulas) (table : IsTable t) (supply : Supply) (d : Definition) (is : IsDefinition t supply d) (ks : List NodeId) (spared : AreSpared t supply ks) where
  argument_sorts : arguments_rank t d.params ks ≡ Ok bool → kid_sorts t ks ≡ parameter_sorts t d
  argument_sorts ranked = (rank-takes (symbol (record { name = []; args = parameter_sorts t d; result = bool })) (kid_sorts t ks) bool ranked).0

  pub arguments_fit : arguments_rank t d.params ks ≡ Ok bool → IsMap t (zip d.params ks)
  arguments_fit ranked = pairs_fit t table 0 d.params ks (parameter_sorts t d) is.symbols (nodes_of t supply ks spared) is.params (argument_sorts ranked)

  pub arguments_number : arguments_rank t d.params ks ≡ Ok bool → length ks ≡ length d.params
  arguments_number ranked =
      sym (length-map (trees_at t ks) (λ u. sort_or_bool (sort_of u)) ∙ length-map ks (tree t))
      ∙ ap length (argument_sorts ranked) ∙ length-map d.params (λ f. (symbol_at t f).result)

  module _ (xs : List Variable) (sorts : map (λ x. x.sort) xs ≡ parameter_sorts t d) where
    ranks_same : rank_of_arguments xs (trees_at t ks) ≡ arguments_rank t d.params ks
    ranks_same = λ i. rank (symbol (record { name = []; args = sorts i; result = bool })) (same_sorts t table ks (nodes_of t supply ks spared) i)

    abbrev reading : ℕ → List ReadBinding → Result (Term × Sofar) Refused
    reading place live = applied (defined xs (tree t d.body)) place (trees_at t ks) (record { live = live; supply = supply })

    pub arguments_refused : (place : ℕ) (live : List ReadBinding) (cause : Cause) → MeetsFault (arguments_rank t d.params ks) (Some cause) → reading place live ≡ at cause place
    arguments_refused place live cause meets =
        ap (λ r. expanded place xs (tree t d.body) (trees_at t ks) r (record { live = live; supply = supply })) (ranks_same ∙ meets.1)
        ∙ ap (λ c. at c place) meets.2

    abbrev result : Term × Supply
    result = expand (map (symbol_at t) d.params) (tree t d.body) (trees_at t ks) supply

    pub definition_expanded : (place : ℕ) (live : List ReadBinding) (u : Formulas) (left : Supply) (k : NodeId) → arguments_rank t d.params ks ≡ Ok bool → IsNode u k → tree u k ≡ result.0 → left ≡ result.1 → ReadsWith u left live (reading place live) (Ok k)
    definition_expanded place live u left k ranked node term rest = (
      record {
        node = node;
        spared = subst (λ s. GivesNone s (names_within (tree u k))) (sym rest)
            (subst (λ x. GivesNone result.1 (names_within x)) (sym term)
            (subst-spares_names (zip (map (symbol_at t) d.params) (trees_at t ks)) (tree t d.body) supply is.body.spared
            (images_named supply (map (symbol_at t) d.params) (trees_at t ks) (names_spared t supply ks spared))));
      },
      ap (λ r. expanded place xs (tree t d.body) (trees_at t ks) r (record { live = live; supply = supply })) (ranks_same ∙ ranked)
          ∙ ap (λ gs. Ok ((expand gs (tree t d.body) (trees_at t ks) supply).0, record { live = live; supply = (expand gs (tree t d.body) (trees_at t ks) supply).1 })) (parameters_same 0 xs ∙ ap (parameters_of 0) sorts ∙ sym is.params)
          ∙ (λ i. Ok (sym term i, record { live = live; supply = sym rest i })),
    )

-- ---- a definition by its number

module _ (ts : List Token) (t : Formulas) (sofar : SofarSeen) (k : ℕ) (d : Definition) (found : slice_get sofar.scope.definitions k ≡ Some d) where
  same_definition : get_or sofar.scope.definitions k no_definition ≡ d
  same_definition = get_or_from_slice_get sofar.scope.definitions k d no_definition found

  pub definition_is : (live : List ReadBinding) → Shows t sofar.fresh sofar.scope live → k < length sofar.scope.definitions → IsDefinition t sofar.fresh d
  definition_is live shows within = subst (IsDefinition t sofar.fresh) same_definition (shows.numbers.definitions k no_definition within)

  pub definition_meant : (c : CalleeOf) → ShowsCallee ts (now_at t sofar) (Defined k) c → (xs : List Variable) × (map (λ (x : Variable). x.sort) xs ≡ parameter_sorts t d) × (c ≡ defined xs (tree t d.body))
  definition_meant c is = (is.0, is.2 ∙ ap (parameter_sorts t) same_definition, is.3 ∙ ap (λ (e : Definition). defined is.0 (tree t e.body)) same_definition)
