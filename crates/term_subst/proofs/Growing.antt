-- What holds of a substitution over a table holds as the table gains.
use Rattle.std.proofs.Common.{◌≡◌, List, [], ◌∷◌, map, All, Some, refl, ap, sym, subst, ◌∙◌, arith}
use Rattle.std.proofs.lemmas.List.Elements.{All-head, All-tail, All-weaker}
use Rattle.smt_terms.specs.declared.ids.NodeId.{NodeId}
use Rattle.smt_terms.specs.declared.ids.SymId.{SymId}
use Rattle.smt_terms.specs.Term.{Term, variable}
use Rattle.smt_terms.specs.Free.{free}
use Rattle.smt_terms.specs.Fresh.{Supply}
use Rattle.smt_terms.specs.Rank.{sort_of, are_bindable}
use Rattle.smt_terms.specs.Subst.{cut_to, Chosen}
use Rattle.term_table.specs.Formulas.{Formulas, no_tree, no_symbol, tree, trees_at, symbol_at, variable_of, IsNode, AreNodes, IsSymbol}
use Rattle.term_walk.specs.FreeLists.{named, AreFree}
use Rattle.term_walk.specs.Binders.{is_quantified}
use Rattle.term_walk.specs.Walking.{GrowsTo}
use Rattle.term_subst.specs.declared.chosen.Key.{Key}
use Rattle.term_subst.specs.declared.findings.Findings.{Findings}
use Rattle.term_subst.specs.declared.todo.Level.{Level}
use Rattle.term_subst.specs.declared.todo.Opened.{Opened}
use Rattle.term_subst.specs.declared.todo.Frame.{Frame}
use Rattle.term_subst.specs.declared.todo.Frame.TheVariants.{Visit, Build, Close}
use Rattle.term_subst.specs.Done.{done, KeepSorts}
use Rattle.term_subst.specs.Maps.{Pairs, map_at}
use Rattle.term_subst.specs.State.{variables_at, AreVariables, chosen_at, opening_at, step_at, steps_at, IsLevel, IsChosen, Spares, IsOpened, IsFrame, AreFrames, AreNamesOf, AreFindings, Going}
use Rattle.term_subst.specs.Steps.{visit, build, close, End, Leads}
use Rattle.term_subst.specs.Substituting.{IsPair, IsMap}

module _ (old new : Formulas) (grows : GrowsTo old new) where
  pub tree-grows : (k : NodeId) → IsNode old k → tree new k ≡ tree old k
  tree-grows k node = grows.trees.same k.0 no_tree node

  pub node-grows : (k : NodeId) → IsNode old k → IsNode new k
  node-grows k node = let longer = grows.trees.longer in omega arith

  pub symbol-grows : (f : SymId) → IsSymbol old f → symbol_at new f ≡ symbol_at old f
  symbol-grows f within = grows.symbols.same f.0 no_symbol within

  pub is_symbol-grows : (f : SymId) → IsSymbol old f → IsSymbol new f
  is_symbol-grows f within = let longer = grows.symbols.longer in omega arith

  pub nodes-grow : (ks : List NodeId) → AreNodes old ks → AreNodes new ks
  nodes-grow ks nodes i d lt = node-grows _ (nodes i d lt)

  pub trees-grow : (ks : List NodeId) → AreNodes old ks → trees_at new ks ≡ trees_at old ks
  trees-grow [] nodes = refl
  trees-grow (k ∷ ks) nodes =
      let first = tree-grows k (All-head (IsNode old) k ks nodes) in
      let rest = trees-grow ks (All-tail (IsNode old) k ks nodes) in
      λ i. first i ∷ rest i

  pub named-grow : (fs : List SymId) → All (IsSymbol old) fs → named new fs ≡ named old fs
  named-grow [] within = refl
  named-grow (f ∷ fs) within =
      let first = symbol-grows f (All-head (IsSymbol old) f fs within) in
      let rest = named-grow fs (All-tail (IsSymbol old) f fs within) in
      λ i. first i ∷ rest i

  -- ---- maps

  pub pair-grows : (p : SymId × NodeId) → IsPair old p → IsPair new p
  pair-grows p pair = record {
    symbol = is_symbol-grows p.0 pair.symbol;
    constant = ap (λ f. f.args) (symbol-grows p.0 pair.symbol) ∙ pair.constant;
    image = node-grows p.1 pair.image;
    sort = ap sort_of (tree-grows p.1 pair.image) ∙ pair.sort ∙ ap (λ f. Some f.result) (sym (symbol-grows p.0 pair.symbol));
  }

  pub is_map-grows : (ps : Pairs) → IsMap old ps → IsMap new ps
  is_map-grows ps pairs = All-weaker (IsPair old) (IsPair new) pair-grows ps pairs

  pub map-grows : (ps : Pairs) → IsMap old ps → map_at new ps ≡ map_at old ps
  map-grows [] pairs = refl
  map-grows (p ∷ ps) pairs =
      let pair = All-head (IsPair old) p ps pairs in
      let key = symbol-grows p.0 pair.symbol in
      let image = tree-grows p.1 pair.image in
      let rest = map-grows ps (All-tail (IsPair old) p ps pairs) in
      λ i. (key i, image i) ∷ rest i

  -- ---- variables

  pub variables-grow : (ks : List NodeId) → AreNodes old ks → variables_at new ks ≡ variables_at old ks
  variables-grow ks nodes = ap (map variable_of) (trees-grow ks nodes)

  pub are_variables-grow : (ks : List NodeId) → AreVariables old ks → AreVariables new ks
  are_variables-grow ks vars = record {
    nodes = nodes-grow ks vars.nodes;
    terms = trees-grow ks vars.nodes ∙ vars.terms ∙ ap (map variable) (sym (variables-grow ks vars.nodes));
  }

  -- ---- what is kept

  pub level-grows : (cs : List Chosen) (l : Level) → IsLevel old cs l → IsLevel new cs l
  level-grows cs l level = record {
    map = is_map-grows l.map level.map;
    kept = λ k r found.
        (let kept = level.kept k r found in
        let m = map-grows l.map level.map in
        let term = tree-grows k kept.node in
        let image = tree-grows r kept.image in
        record { node = node-grows k kept.node; image = node-grows r kept.image; known = (λ i. done (m i) cs (term i)) ∙ kept.known ∙ ap Some (sym image) });
  }

  pub is_chosen-grows : (e : Key × NodeId) → IsChosen old e → IsChosen new e
  is_chosen-grows e chosen = record {
    node = node-grows e.0.node chosen.node;
    cut = is_map-grows e.0.cut.items chosen.cut;
    image = node-grows e.1 chosen.image;
  }

  pub chosen-grow : (es : List (Key × NodeId)) → All (IsChosen old) es → chosen_at new es ≡ chosen_at old es
  chosen-grow [] all = refl
  chosen-grow (e ∷ es) all =
      let first = All-head (IsChosen old) e es all in
      let cut = map-grows e.0.cut.items first.cut in
      let term = tree-grows e.0.node first.node in
      let image = tree-grows e.1 first.image in
      let rest = chosen-grow es (All-tail (IsChosen old) e es all) in
      λ i. record { cut = cut i; term = term i; result = image i } ∷ rest i

  -- ---- what is left to do

  pub opened-grows : (cs : List Chosen) (o : Opened) → IsOpened old cs o → IsOpened new cs o
  opened-grows cs o opened =
      let term = tree-grows o.key.node opened.node in
      record {
        node = node-grows o.key.node opened.node;
        binder = ap is_quantified term ∙ opened.binder;
        cut = is_map-grows o.key.cut.items opened.cut;
        fits = map-grows o.key.cut.items opened.cut ∙ opened.fits ∙ (λ i. cut_to (free (sym term i)) (sym (map-grows o.outer.map opened.outer.map) i));
        variables = are_variables-grow o.variables.items opened.variables;
        bindable = ap are_bindable (variables-grow o.variables.items opened.variables.nodes) ∙ opened.bindable;
        outer = level-grows cs o.outer opened.outer;
      }

  opening-grows : (cs : List Chosen) (o : Opened) → IsOpened old cs o → opening_at new o ≡ opening_at old o
  opening-grows cs o opened =
      let term = tree-grows o.key.node opened.node in
      let cut = map-grows o.key.cut.items opened.cut in
      let vars = variables-grow o.variables.items opened.variables.nodes in
      let outer = map-grows o.outer.map opened.outer.map in
      λ i. record { term = term i; cut = cut i; renamed = vars i; outer = outer i }

  frame-grows : (cs : List Chosen) (s : Supply) (f : Frame) → IsFrame old cs s f → IsFrame new cs s f
  frame-grows cs s (Visit k) frame = (node-grows k frame.0, subst (Spares s) (sym (tree-grows k frame.0)) frame.1)
  frame-grows cs s (Build k) frame = (node-grows k frame.0, ap is_quantified (tree-grows k frame.0) ∙ frame.1)
  frame-grows cs s (Close o) frame = opened-grows cs o frame

  pub frames-grow : (cs : List Chosen) (s : Supply) (fs : List Frame) → AreFrames old cs s fs → AreFrames new cs s fs
  frames-grow cs s [] frames = tt
  frames-grow cs s (f ∷ fs) frames = (frame-grows cs s f frames.0, frames-grow cs s fs frames.1)

  step-grows : (cs : List Chosen) (s : Supply) (f : Frame) → IsFrame old cs s f → step_at new f ≡ step_at old f
  step-grows cs s (Visit k) frame = ap visit (tree-grows k frame.0)
  step-grows cs s (Build k) frame = ap build (tree-grows k frame.0)
  step-grows cs s (Close o) frame = ap close (opening-grows cs o frame)

  pub steps-grow : (cs : List Chosen) (s : Supply) (fs : List Frame) → AreFrames old cs s fs → steps_at new fs ≡ steps_at old fs
  steps-grow cs s [] frames = refl
  steps-grow cs s (f ∷ fs) frames =
      let first = step-grows cs s f frames.0 in
      let rest = steps-grow cs s fs frames.1 in
      λ i. first i ∷ rest i

  -- ---- what is found out

  free-grows : (k : NodeId) (fs : List SymId) → IsNode old k → AreFree old (tree old k) fs → AreFree new (tree new k) fs
  free-grows k fs node free_in = record {
    names = named-grow fs free_in.symbols ∙ free_in.names ∙ ap free (sym (tree-grows k node));
    symbols = All-weaker (IsSymbol old) (IsSymbol new) is_symbol-grows fs free_in.symbols;
  }

  pub findings-grow : (f : Findings) → AreFindings old f → AreFindings new f
  findings-grow f findings = record {
    lists = λ k fs found. (let have = findings.lists k fs found in (node-grows k have.0, free-grows k fs.items have.0 have.1));
    names = λ k ns found. (let have = findings.names k ns found in (node-grows k have.0, subst (λ (t : Term). AreNamesOf t ns) (sym (tree-grows k have.0)) have.1));
  }

  -- ---- all of it

  pub going-grows : (names first : Supply) (es : List (Key × NodeId)) (l : Level) (fs : List Frame) (vs : List NodeId) (f : Findings) (end : End)
      → Going old names first es l fs vs f end → Going new names first es l fs vs f end
  going-grows names first es l fs vs f end going =
      let cs = chosen-grow es going.chosen in
      let m = map-grows l.map going.level.map in
      let steps = steps-grow (chosen_at old es) first fs going.frames in
      let values = trees-grow vs going.values in
      record {
        chosen = All-weaker (IsChosen old) (IsChosen new) is_chosen-grows es going.chosen;
        sorts = subst KeepSorts (sym cs) going.sorts;
        level = subst (λ ds. IsLevel new ds l) (sym cs) (level-grows (chosen_at old es) l going.level);
        frames = subst (λ ds. AreFrames new ds first fs) (sym cs) (frames-grow (chosen_at old es) first fs going.frames);
        values = nodes-grow vs going.values;
        findings = findings-grow f going.findings;
        later = going.later;
        leads = leads-moved m steps values cs going.leads;
      }
    where
      leads-moved : map_at new l.map ≡ map_at old l.map → steps_at new fs ≡ steps_at old fs → trees_at new vs ≡ trees_at old vs → chosen_at new es ≡ chosen_at old es
          → Leads (map_at old l.map) (steps_at old fs) (trees_at old vs) (record { names = names; chosen = chosen_at old es }) end
          → Leads (map_at new l.map) (steps_at new fs) (trees_at new vs) (record { names = names; chosen = chosen_at new es }) end
      leads-moved m steps values cs leads =
          let a = subst (λ n. Leads n (steps_at old fs) (trees_at old vs) (record { names = names; chosen = chosen_at old es }) end) (sym m) leads in
          let b = subst (λ us. Leads (map_at new l.map) us (trees_at old vs) (record { names = names; chosen = chosen_at old es }) end) (sym steps) a in
          let c = subst (λ us. Leads (map_at new l.map) (steps_at new fs) us (record { names = names; chosen = chosen_at old es }) end) (sym values) b in
          subst (λ ds. Leads (map_at new l.map) (steps_at new fs) (trees_at new vs) (record { names = names; chosen = ds }) end) (sym cs) c
