-- A step that is done leaves a substitution on its way.
use Rattle.std.proofs.Common.{◌≡◌, ℕ, suc, ◌+◌, ◌-◌, ◌<◌, ◌≤◌, ◌==◌, ◌&&◌, Bool, true, false, cond, if◌then◌else◌, List, [], ◌∷◌, ◌++◌, map, length, get_or, take, drop, All, Option, Some, None, refl, ap, sym, subst, ◌∙◌, arith, length-append}
use Rattle.std.specs.Prelude.{option_map}
use Rattle.std.proofs.lemmas.Bool.Decides.{Decides-eqb}
use Rattle.std.proofs.Math.ListN.{get_or-append}
use Rattle.std.proofs.Math.Seq.{get_or-append_seam, take-append_seam, drop-append_seam, take-length}
use Rattle.std.proofs.lemmas.List.{map-append, length-map, length-drop, take-map, drop-map}
use Rattle.std.proofs.lemmas.List.Elements.{All-nil, All-cons, All-head, All-tail, All-take, All-drop, All-push}
use Rattle.smt_terms.specs.declared.ids.NodeId.{NodeId}
use Rattle.smt_terms.specs.Sorts.{Name, Sort, bool, Symbol, Variable}
use Rattle.smt_terms.specs.Term.{Term, apply, quantified, Terms, none, ◌⨾◌, list, terms}
use Rattle.smt_terms.specs.Free.{free, name_among, names_of, head_symbols}
use Rattle.smt_terms.specs.Fresh.{Supply}
use Rattle.smt_terms.specs.Rank.{sort_of, sort_bound, sorts_of, are_bindable, IsWellSorted}
use Rattle.smt_terms.specs.Subst.{Map, image, cut_to, names_in, Renamed, Chosen, Choices, chosen_for, map_eq, rebuilt, subst_from, subst as subst_by}
use Rattle.smt_terms.specs.Equal.{term_eq}
use Rattle.smt_terms.specs.SubstLaws.{GivesNone, names_within, names_within_each}
use Rattle.smt_terms.proofs.Cuts.{name_among-append}
use Rattle.smt_terms.proofs.Equal.{Decides-term_eq}
use Rattle.smt_terms.proofs.Renaming.{renaming-bindable}
use Rattle.smt_terms.proofs.Sorted.{quantified_sort}
use Rattle.smt_terms.proofs.Substitution.{variables-spared}
use Rattle.smt_terms.proofs.Tests.{both_true, left_true, right_true}
use Rattle.term_table.specs.Formulas.{Formulas, IsTable, tree, tree_in, trees_at, operands, IsNode, AreNodes}
use Rattle.term_walk.specs.Binders.{is_quantified}
use Rattle.term_walk.specs.Walking.{GrowsTo}
use Rattle.term_subst.specs.declared.chosen.Key.{Key}
use Rattle.term_subst.specs.declared.findings.Findings.{Findings}
use Rattle.term_subst.specs.declared.todo.Level.{Level}
use Rattle.term_subst.specs.declared.todo.Opened.{Opened}
use Rattle.term_subst.specs.declared.todo.Frame.{Frame}
use Rattle.term_subst.specs.declared.todo.Frame.TheVariants.{Visit, Build, Close}
use Rattle.term_subst.specs.ByNode.{found_in}
use Rattle.term_subst.specs.Done.{done, dones, KeepSorts}
use Rattle.term_subst.specs.Keys.{is_key, chosen_in}
use Rattle.term_subst.specs.Maps.{Pairs, map_at}
use Rattle.term_subst.specs.Renaming.{renamed_under, Renames}
use Rattle.term_subst.specs.Running.{end_of}
use Rattle.term_subst.specs.State.{variables_at, chosen_at, opening_at, step_at, steps_at, IsKept, IsLevel, IsChosen, Spares, IsOpened, IsFrame, AreFrames, AreFindings, Going}
use Rattle.term_subst.specs.Steps.{Opening, Step, visit, build, close, operands_of, body_of, bound_in, built, requantified, result_of, End, Leads, load}
use Rattle.term_subst.specs.Substituting.{IsMap, IsLater}
use Rattle.term_subst.proofs.DoneLaws.{StaysChosen, both-some, done-stays, done-after, stays-new, chosen-first}
use Rattle.term_subst.proofs.Gaining.{later-both, later-same}
use Rattle.term_subst.proofs.Growing.{tree-grows, node-grows, going-grows, map-grows, is_map-grows, trees-grow, steps-grow, variables-grow}
use Rattle.term_subst.proofs.KeysAt.{chosen-alike}
use Rattle.term_subst.proofs.MapsAt.{have-sorts}
use Rattle.term_subst.proofs.NodesMade.{terms-list, has-sort, one-term}
use Rattle.term_subst.proofs.SortsKept.{done-sort, dones-sorts}
use Rattle.term_subst.proofs.Turns.{leads-known, leads-apply, leads-open, load-apply, load-open}

-- ---- values

values-push : (t : Formulas) (vs : List NodeId) (r : NodeId) → trees_at t (vs ++ r ∷ []) ≡ trees_at t vs ++ tree t r ∷ []
values-push t vs r = map-append (tree_in t.trees) vs (r ∷ [])

-- ---- a node whose result is kept

module _ (t : Formulas) (names first : Supply) (es : List (Key × NodeId)) (l : Level) (fs : List Frame) (vs : List NodeId) (f : Findings) (end : End) (k : NodeId) where
  cs : List Chosen
  cs = chosen_at t es

  module _ (going : Going t names first es l (Visit k ∷ fs) vs f end) where
    pub known-going : (r : NodeId) → IsNode t r → done (map_at t l.map) (chosen_at t es) (tree t k) ≡ Some (tree t r) → Going t names first es l fs (vs ++ r ∷ []) f end
    known-going r node known = record {
      chosen = going.chosen;
      sorts = going.sorts;
      level = going.level;
      frames = going.frames.1;
      values = All-push (IsNode t) vs r going.values node;
      findings = going.findings;
      later = going.later;
      leads =
          subst (λ us. Leads (map_at t l.map) (steps_at t fs) us (record { names = names; chosen = chosen_at t es }) end) (sym (values-push t vs r))
          (leads-known (map_at t l.map) (tree t k) (tree t r) (steps_at t fs) (trees_at t vs) (record { names = names; chosen = chosen_at t es }) end known going.leads);
    }

    pub found-going : (new : Findings) → AreFindings t new → Going t names first es l (Visit k ∷ fs) vs new end
    found-going new findings = record {
      chosen = going.chosen;
      sorts = going.sorts;
      level = going.level;
      frames = going.frames;
      values = going.values;
      findings = findings;
      later = going.later;
      leads = going.leads;
    }

    pub kept-going : (r : NodeId) → found_in l.kept k ≡ Some r → Going t names first es l fs (vs ++ r ∷ []) f end
    kept-going r found = (let kept = going.level.kept k r found in known-going r kept.image kept.known)

-- ---- names in operands

gives-first : (s : Supply) (ms ns : List Name) → GivesNone s (ms ++ ns) → GivesNone s ms
gives-first s ms ns given n among = given n (name_among-append ms ns n ∙ left_true (name_among ms n) (name_among ns n) among)

gives-second : (s : Supply) (ms ns : List Name) → GivesNone s (ms ++ ns) → GivesNone s ns
gives-second s ms ns given n among = given n (name_among-append ms ns n ∙ right_true (name_among ms n) (name_among ns n) among)

first-alike : {a b : Term} {us vs : List Term} → a ∷ us ≡ b ∷ vs → a ≡ b
first-alike e = cc

rest-alike : {a b : Term} {us vs : List Term} → a ∷ us ≡ b ∷ vs → us ≡ vs
rest-alike e = cc

frames-visits : (t : Formulas) (cs : List Chosen) (s : Supply) (ts : Terms) (ks : List NodeId) (fs : List Frame) → trees_at t ks ≡ list ts → AreNodes t ks → GivesNone s (names_within_each ts) → AreFrames t cs s fs → AreFrames t cs s (map Visit ks ++ fs)
frames-visits t cs s none [] fs e nodes spare frames = frames
frames-visits t cs s none (k ∷ ks) fs e nodes spare frames = absurd cc
frames-visits t cs s (u ⨾ ts) [] fs e nodes spare frames = absurd cc
frames-visits t cs s (u ⨾ ts) (k ∷ ks) fs e nodes spare frames = (
  (All-head (IsNode t) k ks nodes, subst (Spares s) (sym (first-alike e)) (gives-first s (names_within u) (names_within_each ts) spare)),
  frames-visits t cs s ts ks fs (rest-alike e) (All-tail (IsNode t) k ks nodes) (gives-second s (names_within u) (names_within_each ts) spare) frames,
)

frames-operands : (t : Formulas) (cs : List Chosen) (s : Supply) (u : Term) (ks : List NodeId) (fs : List Frame) → is_quantified u ≡ false → trees_at t ks ≡ operands u → AreNodes t ks → Spares s u → AreFrames t cs s fs → AreFrames t cs s (map Visit ks ++ fs)
frames-operands t cs s (apply h ts) ks fs q e nodes spare frames = frames-visits t cs s ts ks fs e nodes (gives-second s (names_of (head_symbols h)) (names_within_each ts) spare) frames
frames-operands t cs s (quantified p xs b) ks fs q e nodes spare frames = absurd cc

steps-visits : (t : Formulas) (ks : List NodeId) (fs : List Frame) → steps_at t (map Visit ks ++ fs) ≡ map visit (trees_at t ks) ++ steps_at t fs
steps-visits t [] fs = refl
steps-visits t (k ∷ ks) fs = ap (λ steps. visit (tree t k) ∷ steps) (steps-visits t ks fs)

leads-operands : (m : Map) (u : Term) (steps : List Step) (vs : List Term) (s : Choices) (end : End) → is_quantified u ≡ false → Leads m (visit u ∷ steps) vs s end → Leads m (map visit (operands u) ++ build u ∷ steps) vs s end
leads-operands m (apply h ts) steps vs s end q leads = leads-apply m h ts steps vs s end leads
leads-operands m (quantified p xs b) steps vs s end q leads = absurd cc

pub load-operands : (u : Term) (steps : List Step) → is_quantified u ≡ false → load (map visit (operands u) ++ build u ∷ steps) < load (visit u ∷ steps)
load-operands (apply h ts) steps q = load-apply h ts steps
load-operands (quantified p xs b) steps q = absurd cc

module _ (t : Formulas) (k : NodeId) (ks : List NodeId) (fs : List Frame) (applied : is_quantified (tree t k) ≡ false) (same : trees_at t ks ≡ operands (tree t k)) where
  operand-steps : steps_at t (map Visit ks ++ Build k ∷ fs) ≡ map visit (operands (tree t k)) ++ build (tree t k) ∷ steps_at t fs
  operand-steps = steps-visits t ks (Build k ∷ fs) ∙ ap (λ us. map visit us ++ build (tree t k) ∷ steps_at t fs) same

  pub operands-load : load (steps_at t (map Visit ks ++ Build k ∷ fs)) < load (steps_at t (Visit k ∷ fs))
  operands-load = subst (λ steps. load steps < load (steps_at t (Visit k ∷ fs))) (sym operand-steps) (load-operands (tree t k) (steps_at t fs) applied)

  pub operands-going : (names first : Supply) (es : List (Key × NodeId)) (l : Level) (vs : List NodeId) (f : Findings) (end : End) → AreNodes t ks
      → Going t names first es l (Visit k ∷ fs) vs f end → Going t names first es l (map Visit ks ++ Build k ∷ fs) vs f end
  operands-going names first es l vs f end nodes going = record {
    chosen = going.chosen;
    sorts = going.sorts;
    level = going.level;
    frames = frames-operands t (chosen_at t es) first (tree t k) ks (Build k ∷ fs) applied same nodes going.frames.0.1 ((going.frames.0.0, applied), going.frames.1);
    values = going.values;
    findings = going.findings;
    later = going.later;
    leads =
        subst (λ steps. Leads (map_at t l.map) steps (trees_at t vs) (record { names = names; chosen = chosen_at t es }) end) (sym operand-steps)
        (leads-operands (map_at t l.map) (tree t k) (steps_at t fs) (trees_at t vs) (record { names = names; chosen = chosen_at t es }) end applied going.leads);
  }

-- ---- what a level keeps

pub level-put : (t : Formulas) (cs : List Chosen) (l new : Level) (k r : NodeId) → IsLevel t cs l → IsKept t (map_at t l.map) cs k r → new.map ≡ l.map → ((n : NodeId) → found_in new.kept n ≡ (if n.0 == k.0 then Some r else found_in l.kept n)) → IsLevel t cs new
level-put t cs l new k r level kept same put = record {
  map = subst (IsMap t) (sym same) level.map;
  kept = λ n u found. subst (λ ps. IsKept t (map_at t ps) cs n u) (sym same) (by (n.0 == k.0) n u refl (sym (put n) ∙ found));
}
  where
    by : (b : Bool) (n u : NodeId) → (n.0 == k.0) ≡ b → (if b then Some r else found_in l.kept n) ≡ Some u → IsKept t (map_at t l.map) cs n u
    by true n u e found =
        let number : n.0 ≡ k.0 = (Decides-eqb n.0 k.0).0 e in
        let image : r ≡ u = cc in
        subst (λ i. IsKept t (map_at t l.map) cs (record { 0 = i }) u) (sym number) (subst (λ v. IsKept t (map_at t l.map) cs k v) image kept)
    by false n u e found = level.kept n u found

pub level-stays : (t : Formulas) (old new : List Chosen) → StaysChosen old new → (l : Level) → IsLevel t old l → IsLevel t new l
level-stays t old new stays l level = record {
  map = level.map;
  kept = λ k r found.
      (let kept = level.kept k r found in
      record { node = kept.node; image = kept.image; known = done-stays (map_at t l.map) old new stays (tree t k) (tree t r) kept.known });
}

pub frames-stay : (t : Formulas) (old new : List Chosen) → StaysChosen old new → (s : Supply) (fs : List Frame) → AreFrames t old s fs → AreFrames t new s fs
frames-stay t old new stays s [] frames = tt
frames-stay t old new stays s (f ∷ fs) frames = (one f frames.0, frames-stay t old new stays s fs frames.1)
  where
    one : (f : Frame) → IsFrame t old s f → IsFrame t new s f
    one (Visit k) frame = frame
    one (Build k) frame = frame
    one (Close o) frame = record {
      node = frame.node;
      binder = frame.binder;
      cut = frame.cut;
      fits = frame.fits;
      variables = frame.variables;
      bindable = frame.bindable;
      outer = level-stays t old new stays o.outer frame.outer;
    }

-- a level that keeps one result more
pub put-going : (t : Formulas) (names first : Supply) (es : List (Key × NodeId)) (l new : Level) (fs : List Frame) (vs : List NodeId) (f : Findings) (end : End) (k r : NodeId)
    → IsKept t (map_at t l.map) (chosen_at t es) k r → new.map ≡ l.map → ((n : NodeId) → found_in new.kept n ≡ (if n.0 == k.0 then Some r else found_in l.kept n))
    → Going t names first es l fs vs f end → Going t names first es new fs vs f end
put-going t names first es l new fs vs f end k r kept same put going = record {
  chosen = going.chosen;
  sorts = going.sorts;
  level = level-put t (chosen_at t es) l new k r going.level kept same put;
  frames = going.frames;
  values = going.values;
  findings = going.findings;
  later = going.later;
  leads = subst (λ ps. Leads (map_at t ps) (steps_at t fs) (trees_at t vs) (record { names = names; chosen = chosen_at t es }) end) (sym same) going.leads;
}

pub chosen-node : (t : Formulas) (es : List (Key × NodeId)) → All (IsChosen t) es → (k : NodeId) (ps : Pairs) (r : NodeId) → chosen_in es k ps ≡ Some r → IsNode t r
chosen-node t [] all k ps r found = absurd cc
chosen-node t (e ∷ es) all k ps r found = by (is_key e.0 k ps) found (chosen-node t es (All-tail (IsChosen t) e es all) k ps r)
  where
    by : (b : Bool) → (if b then Some e.1 else chosen_in es k ps) ≡ Some r → (chosen_in es k ps ≡ Some r → IsNode t r) → IsNode t r
    by true h rest = (let same : e.1 ≡ r = cc in subst (IsNode t) same (All-head (IsChosen t) e es all).image)
    by false h rest = rest h

-- ---- a quantified node

pub done-binder : (m : Map) (cs : List Chosen) (u : Term) → is_quantified u ≡ true → done m cs u ≡ chosen_for cs (cut_to (free u) m) u
done-binder m cs (apply h ts) q = absurd cc
done-binder m cs (quantified p xs b) q = refl

module _ (t : Formulas) (table : IsTable t) (es : List (Key × NodeId)) (all : All (IsChosen t) es) (l : Level) (k : NodeId) (node : IsNode t k) (cut : Pairs) (pairs : IsMap t cut)
    (fits : map_at t cut ≡ cut_to (free (tree t k)) (map_at t l.map)) where
  pub chosen-known : (r : NodeId) → is_quantified (tree t k) ≡ true → chosen_in es k cut ≡ Some r → done (map_at t l.map) (chosen_at t es) (tree t k) ≡ Some (tree t r)
  chosen-known r binder found =
      done-binder (map_at t l.map) (chosen_at t es) (tree t k) binder
      ∙ ap (λ m. chosen_for (chosen_at t es) m (tree t k)) (sym fits)
      ∙ chosen-alike t table es all k node cut pairs
      ∙ ap (option_map (tree t)) found

  pub chosen-unknown : chosen_in es k cut ≡ None → chosen_for (chosen_at t es) (cut_to (free (tree t k)) (map_at t l.map)) (tree t k) ≡ None
  chosen-unknown found =
      ap (λ m. chosen_for (chosen_at t es) m (tree t k)) (sym fits)
      ∙ chosen-alike t table es all k node cut pairs
      ∙ ap (option_map (tree t)) found

-- ---- an operator over its operands' results

dones-count : (m : Map) (cs : List Chosen) (ts us : Terms) → dones m cs ts ≡ Some us → length (list us) ≡ length (list ts)
dones-count m cs none us e = (let nothing : none ≡ us = cc in ap (λ vs. length (list vs)) (sym nothing))
dones-count m cs (t ⨾ ts) us e =
    let found = both-some (done m cs t) (dones m cs ts) us e in
    ap (λ vs. length (list vs)) (sym found.4) ∙ ap suc (dones-count m cs ts found.1 found.3)

operands-count : (u : Term) → is_quantified u ≡ false → length (list (operands_of u)) ≡ length (operands u)
operands-count (apply h ts) q = refl
operands-count (quantified p xs b) q = absurd cc

-- the last n values
pub record Splits (t : Formulas) (vs : List NodeId) (n : ℕ) (before us : List Term) : Type 0 where
  pub room : n ≤ length vs
  pub first : trees_at t (take (length vs - n) vs) ≡ before
  pub last : trees_at t (drop (length vs - n) vs) ≡ us

pub splits : (t : Formulas) (vs : List NodeId) (n : ℕ) (before us : List Term) → trees_at t vs ≡ before ++ us → length us ≡ n → Splits t vs n before us
splits t vs n before us e count =
    let all : length vs ≡ length before + length us = sym (length-map vs (tree_in t.trees)) ∙ ap length e ∙ length-append before us in
    let start : length vs - n ≡ length before = omega (arith, all, count) in
    record {
      room = omega (arith, all, count);
      first = sym (take-map (tree_in t.trees) (length vs - n) vs) ∙ (λ i. take (start i) (e i)) ∙ take-append_seam before us;
      last = sym (drop-map (tree_in t.trees) (length vs - n) vs) ∙ (λ i. drop (start i) (e i)) ∙ drop-append_seam before us;
    }

module _ (t : Formulas) (names first : Supply) (es : List (Key × NodeId)) (l : Level) (fs : List Frame) (vs : List NodeId) (f : Findings) (end : End) (k : NodeId)
    (going : Going t names first es l (Build k ∷ fs) vs f end) where
  build-count : length (list going.leads.1) ≡ length (operands (tree t k))
  build-count = dones-count (map_at t l.map) (chosen_at t es) (operands_of (tree t k)) going.leads.1 going.leads.3 ∙ operands-count (tree t k) going.frames.0.1

  pub build-splits : Splits t vs (length (operands (tree t k))) going.leads.0 (list going.leads.1)
  build-splits = splits t vs (length (operands (tree t k))) going.leads.0 (list going.leads.1) going.leads.2 build-count

  pub build-sorts : sorts_of (terms (trees_at t (drop (length vs - length (operands (tree t k))) vs))) ≡ sorts_of (operands_of (tree t k))
  build-sorts =
      ap (λ us. sorts_of (terms us)) build-splits.last ∙ ap sorts_of (terms-list going.leads.1)
      ∙ dones-sorts (map_at t l.map) (chosen_at t es) (have-sorts t l.map going.level.map) going.sorts (operands_of (tree t k)) going.leads.1 going.leads.3

  done-built : (u : Term) (us : Terms) → is_quantified u ≡ false → dones (map_at t l.map) (chosen_at t es) (operands_of u) ≡ Some us → done (map_at t l.map) (chosen_at t es) u ≡ Some (built (map_at t l.map) u us)
  done-built (apply h ts) us q e = ap (option_map (rebuilt (map_at t l.map) h)) e
  done-built (quantified p xs b) us q e = absurd cc

  -- where the node r is made of them
  module _ (r : NodeId) (node : IsNode t r) (term : tree t r ≡ built (map_at t l.map) (tree t k) (terms (trees_at t (drop (length vs - length (operands (tree t k))) vs))))
      (new : Level) (same : new.map ≡ l.map) (put : (n : NodeId) → found_in new.kept n ≡ (if n.0 == k.0 then Some r else found_in l.kept n)) where
    made : tree t r ≡ built (map_at t l.map) (tree t k) going.leads.1
    made = term ∙ ap (λ us. built (map_at t l.map) (tree t k) (terms us)) build-splits.last ∙ ap (built (map_at t l.map) (tree t k)) (terms-list going.leads.1)

    pub build-going : Going t names first es new fs (take (length vs - length (operands (tree t k))) vs ++ r ∷ []) f end
    build-going =
        let start = length vs - length (operands (tree t k)) in
        let known = done-built (tree t k) going.leads.1 going.frames.0.1 going.leads.3 ∙ ap Some (sym made) in
        let values : trees_at t (take start vs ++ r ∷ []) ≡ going.leads.0 ++ built (map_at t l.map) (tree t k) going.leads.1 ∷ [] = values-push t (take start vs) r ∙ (λ i. build-splits.first i ++ made i ∷ []) in
        record {
          chosen = going.chosen;
          sorts = going.sorts;
          level = level-put t (chosen_at t es) l new k r going.level (record { node = going.frames.0.0; image = node; known = known }) same put;
          frames = going.frames.1;
          values = All-push (IsNode t) (take start vs) r (All-take (IsNode t) start vs going.values) node;
          findings = going.findings;
          later = going.later;
          leads =
              subst (λ ps. Leads (map_at t ps) (steps_at t fs) (trees_at t (take start vs ++ r ∷ [])) (record { names = names; chosen = chosen_at t es }) end) (sym same)
              (subst (λ us. Leads (map_at t l.map) (steps_at t fs) us (record { names = names; chosen = chosen_at t es }) end) (sym values) going.leads.4);
        }

-- the last values, as a slice of them
pub last-slice : (vs ds : List NodeId) (start : ℕ) → ds ≡ vs → take (length ds - start) (drop start ds) ≡ drop start vs
last-slice vs ds start same =
    ap (λ js. take (length js - start) (drop start js)) same
    ∙ ap (λ n. take n (drop start vs)) (sym (length-drop start vs)) ∙ take-length (drop start vs)

module _ (old t : Formulas) (grows : GrowsTo old t) (names first : Supply) (es : List (Key × NodeId)) (l : Level) (fs : List Frame) (vs : List NodeId) (f : Findings) (end : End) (k : NodeId)
    (going : Going old names first es l (Build k ∷ fs) vs f end) (kids : List NodeId) (start : ℕ) (from : start ≡ length vs - length (operands (tree old k))) (last : kids ≡ drop start vs)
    (r : NodeId) (node : IsNode t r) (term : tree t r ≡ built (map_at old l.map) (tree old k) (terms (trees_at old kids)))
    (new : Level) (same : new.map ≡ l.map) (put : (n : NodeId) → found_in new.kept n ≡ (if n.0 == k.0 then Some r else found_in l.kept n)) where
  grown : Going t names first es l (Build k ∷ fs) vs f end
  grown = going-grows old t grows names first es l (Build k ∷ fs) vs f end going

  node-same : tree t k ≡ tree old k
  node-same = tree-grows old t grows k going.frames.0.0

  from-now : start ≡ length vs - length (operands (tree t k))
  from-now = from ∙ ap (λ u. length vs - length (operands u)) (sym node-same)

  kids-same : trees_at old kids ≡ trees_at t (drop (length vs - length (operands (tree t k))) vs)
  kids-same =
      ap (trees_at old) (last ∙ ap (λ n. drop n vs) from-now)
      ∙ sym (trees-grow old t grows (drop (length vs - length (operands (tree t k))) vs) (All-drop (IsNode old) (length vs - length (operands (tree t k))) vs going.values))

  pub build-after : Going t names first es new fs (take start vs ++ r ∷ []) f end
  build-after =
      let m = sym (map-grows old t grows l.map going.level.map) in
      let u = sym node-same in
      let now = term ∙ (λ i. built (m i) (u i) (terms (kids-same i))) in
      subst (λ n. Going t names first es new fs (take n vs ++ r ∷ []) f end) (sym from-now) (build-going t names first es l fs vs f end k grown r node now new same put)

-- ---- a quantifier over its body's result

requantified-sort : (u : Term) (ys : List Variable) (b : Term) → is_quantified u ≡ true → (r : Sort) → sort_of u ≡ Some r → sort_of b ≡ sort_of (body_of u) → are_bindable ys ≡ true → sort_of (requantified u ys b) ≡ sort_of u
requantified-sort (apply h ts) ys b q r has sorts bindable = absurd cc
requantified-sort (quantified p xs t) ys b q r has sorts bindable =
    let parts = quantified_sort p xs t r has in
    ap (λ o. sort_bound (are_bindable ys) o) (sorts ∙ parts.body) ∙ ap (λ c. sort_bound c (Some bool)) bindable ∙ ap Some (sym parts.sort) ∙ sym has

sorts-more : (c : Chosen) (cs : List Chosen) → sort_of c.result ≡ sort_of c.term → KeepSorts cs → KeepSorts (c ∷ cs)
sorts-more c cs same keep m t r found = by (map_eq c.cut m && term_eq c.term t) refl found
  where
    by : (b : Bool) → (map_eq c.cut m && term_eq c.term t) ≡ b → cond b (Some c.result) (chosen_for cs m t) ≡ Some r → sort_of r ≡ sort_of t
    by true e h =
        let parts = both_true (map_eq c.cut m) (term_eq c.term t) e in
        let term : c.term ≡ t = (Decides-term_eq c.term t).0 parts.1 in
        let result : c.result ≡ r = cc in
        ap sort_of (sym result) ∙ same ∙ ap sort_of term
    by false e h = keep m t r h

-- equal lists have equal last elements
last-alike : (us vs : List Term) (a b : Term) → us ++ a ∷ [] ≡ vs ++ b ∷ [] → (us ≡ vs) × (a ≡ b)
last-alike [] [] a b e = (refl, first-alike e)
last-alike [] (y ∷ vs) a b e = absurd (nothing-left vs b (rest-alike e))
  where
    nothing-left : (cs : List Term) (c : Term) → [] ≡ cs ++ c ∷ [] → ⊥
    nothing-left [] c h = cc
    nothing-left (x ∷ cs) c h = cc
last-alike (x ∷ us) [] a b e = absurd (nothing-left us a (sym (rest-alike e)))
  where
    nothing-left : (cs : List Term) (c : Term) → [] ≡ cs ++ c ∷ [] → ⊥
    nothing-left [] c h = cc
    nothing-left (x ∷ cs) c h = cc
last-alike (x ∷ us) (y ∷ vs) a b e =
    let rest = last-alike us vs a b (rest-alike e) in
    (λ i. first-alike e i ∷ rest.0 i, rest.1)

module _ (t : Formulas) (table : IsTable t) (names first : Supply) (es : List (Key × NodeId)) (l : Level) (fs : List Frame) (vs : List NodeId) (b : NodeId) (f : Findings) (end : End) (o : Opened)
    (going : Going t names first es l (Close o ∷ fs) (vs ++ b ∷ []) f end) where
  close-values : (trees_at t vs ≡ going.leads.0) × (tree t b ≡ going.leads.1)
  close-values = last-alike (trees_at t vs) going.leads.0 (tree t b) going.leads.1 (sym (values-push t vs b) ∙ going.leads.2)

  pub close-sort : sort_of (tree t b) ≡ sort_of (body_of (tree t o.key.node))
  close-sort =
      ap sort_of close-values.1
      ∙ done-sort (map_at t l.map) (chosen_at t es) (have-sorts t l.map going.level.map) going.sorts (body_of (tree t o.key.node)) going.leads.1 going.leads.3

  pub close-unknown : chosen_in es o.key.node o.key.cut.items ≡ None
  close-unknown = by (chosen_in es o.key.node o.key.cut.items) (sym (chosen-alike t table es going.chosen o.key.node going.frames.0.node o.key.cut.items going.frames.0.cut) ∙ going.leads.4)
    where
      by : (r : Option NodeId) → option_map (tree t) r ≡ None → r ≡ None
      by None e = refl
      by (Some r) e = absurd cc

  -- where the node r is made of it
  module _ (r : NodeId) (node : IsNode t r) (term : tree t r ≡ requantified (tree t o.key.node) (variables_at t o.variables.items) (tree t b))
      (new : Level) (same : new.map ≡ o.outer.map) (put : (n : NodeId) → found_in new.kept n ≡ (if n.0 == o.key.node.0 then Some r else found_in o.outer.kept n)) where
    abbrev kept : Chosen
    kept = record { cut = map_at t o.key.cut.items; term = tree t o.key.node; result = tree t r }

    stays : StaysChosen (chosen_at t es) (kept ∷ chosen_at t es)
    stays = stays-new kept (chosen_at t es) going.leads.4

    close-sorts : KeepSorts (kept ∷ chosen_at t es)
    close-sorts =
        let has = has-sort (tree t o.key.node) (table.sorted o.key.node.0 going.frames.0.node) in
        sorts-more kept (chosen_at t es)
        (ap sort_of term ∙ requantified-sort (tree t o.key.node) (variables_at t o.variables.items) (tree t b) going.frames.0.binder has.0 has.1 close-sort going.frames.0.bindable)
        going.sorts

    close-known : done (map_at t o.outer.map) (kept ∷ chosen_at t es) (tree t o.key.node) ≡ Some (tree t r)
    close-known =
        done-binder (map_at t o.outer.map) (kept ∷ chosen_at t es) (tree t o.key.node) going.frames.0.binder
        ∙ ap (λ m. chosen_for (kept ∷ chosen_at t es) m (tree t o.key.node)) (sym going.frames.0.fits)
        ∙ chosen-first kept (chosen_at t es)

    close-leads : Leads (map_at t o.outer.map) (steps_at t fs) (trees_at t (vs ++ r ∷ [])) (record { names = names; chosen = kept ∷ chosen_at t es }) end
    close-leads =
        let made : tree t r ≡ result_of (opening_at t o) going.leads.1 = term ∙ ap (requantified (tree t o.key.node) (variables_at t o.variables.items)) close-values.1 in
        let values : trees_at t (vs ++ r ∷ []) ≡ going.leads.0 ++ result_of (opening_at t o) going.leads.1 ∷ [] = values-push t vs r ∙ (λ i. close-values.0 i ++ made i ∷ []) in
        subst (λ us. Leads (map_at t o.outer.map) (steps_at t fs) us (record { names = names; chosen = kept ∷ chosen_at t es }) end) (sym values)
        (subst (λ u. Leads (map_at t o.outer.map) (steps_at t fs) (going.leads.0 ++ result_of (opening_at t o) going.leads.1 ∷ [])
        (record { names = names; chosen = record { cut = map_at t o.key.cut.items; term = tree t o.key.node; result = u } ∷ chosen_at t es }) end) (sym made) going.leads.5)

    pub close-going : Going t names first ((o.key, r) ∷ es) new fs (vs ++ r ∷ []) f end
    close-going = record {
      chosen = All-cons (IsChosen t) (o.key, r) es (record { node = going.frames.0.node; cut = going.frames.0.cut; image = node }) going.chosen;
      sorts = close-sorts;
      level =
          level-put t (kept ∷ chosen_at t es) o.outer new o.key.node r (level-stays t (chosen_at t es) (kept ∷ chosen_at t es) stays o.outer going.frames.0.outer)
          (record { node = going.frames.0.node; image = node; known = close-known }) same put;
      frames = frames-stay t (chosen_at t es) (kept ∷ chosen_at t es) stays first fs going.frames.1;
      values = All-push (IsNode t) vs r (All-front vs going.values) node;
      findings = going.findings;
      later = going.later;
      leads = subst (λ ps. Leads (map_at t ps) (steps_at t fs) (trees_at t (vs ++ r ∷ [])) (record { names = names; chosen = kept ∷ chosen_at t es }) end) (sym same) close-leads;
    }
      where
        All-front : (us : List NodeId) → AreNodes t (us ++ b ∷ []) → AreNodes t us
        All-front us nodes i d lt = (let many = length-append us (b ∷ []) in subst (IsNode t) (get_or-append us (b ∷ []) d i lt) (nodes i d (omega (arith, many))))

-- ---- a quantified node that is opened

binder-leads : (m n : Map) (u : Term) (steps : List Step) (vs : List Term) (s : Choices) (end : End) → is_quantified u ≡ true → chosen_for s.chosen (cut_to (free u) m) u ≡ None
    → ((g : Symbol) → image n g ≡ image (renamed_under (cut_to (free u) m) (bound_in u) s.names).map g)
    → Leads m (visit u ∷ steps) vs s end
    → Leads n (visit (body_of u) ∷ close (record { term = u; cut = cut_to (free u) m; renamed = (renamed_under (cut_to (free u) m) (bound_in u) s.names).variables; outer = m }) ∷ steps) vs
    (record { names = (renamed_under (cut_to (free u) m) (bound_in u) s.names).names; chosen = s.chosen }) end
binder-leads m n (apply h ts) steps vs s end q new images leads = absurd cc
binder-leads m n (quantified p xs b) steps vs s end q new images leads = leads-open m p xs b s n steps vs end new images leads

binder-bindable : (u : Term) (cut : Map) (s : Supply) → is_quantified u ≡ true → IsWellSorted u → Spares s u → are_bindable (renamed_under cut (bound_in u) s).variables ≡ true
binder-bindable (apply h ts) cut s q sorted spare = absurd cc
binder-bindable (quantified p xs b) cut s q sorted spare =
    let has = has-sort (quantified p xs b) sorted in
    renaming-bindable (names_in cut) xs cut s (quantified_sort p xs b has.0 has.1).bindable (variables-spared s xs (gives-first s (map (λ x. x.name) xs) (names_within b) spare))

body-spared : (s : Supply) (u : Term) → Spares s u → Spares s (body_of u)
body-spared s (apply h ts) spare = spare
body-spared s (quantified p xs b) spare = gives-second s (map (λ x. x.name) xs) (names_within b) spare

pub load-binder : (u : Term) (o : Opening) (steps : List Step) → is_quantified u ≡ true → load (visit (body_of u) ∷ close o ∷ steps) < load (visit u ∷ steps)
load-binder (apply h ts) o steps q = absurd cc
load-binder (quantified p xs b) o steps q = load-open p xs b o steps

pub spares-later : (s t : Supply) (u : Term) → IsLater s t → Spares s u → Spares t u
spares-later s t u later spare n among i le same =
    let number = later.number in
    subst (λ ns. name_among ns n ≡ true) (sym later.taken) (spare n among i (omega arith) same)

module _ (old t : Formulas) (grows : GrowsTo old t) (table : IsTable t) (names left first : Supply) (es : List (Key × NodeId)) (fs : List Frame) (vs : List NodeId) (before f : Findings) (end : End)
    (o : Opened) (b : NodeId) (after : Pairs) (ks : List NodeId) (going : Going old names first es o.outer (Visit o.key.node ∷ fs) vs before end)
    (binder : is_quantified (tree old o.key.node) ≡ true) (pairs : IsMap old o.key.cut.items) (fits : map_at old o.key.cut.items ≡ cut_to (free (tree old o.key.node)) (map_at old o.outer.map))
    (new : chosen_in es o.key.node o.key.cut.items ≡ None) (variables : variables_at old ks ≡ bound_in (tree old o.key.node)) (inner : IsNode old b) (body : tree old b ≡ body_of (tree old o.key.node))
    (renames : Renames old t o.key.cut.items ks o.variables.items after names left) (later : IsLater names left) (findings : AreFindings t f) where
  now : Going t names first es o.outer (Visit o.key.node ∷ fs) vs before end
  now = going-grows old t grows names first es o.outer (Visit o.key.node ∷ fs) vs before end going

  u : Term
  u = tree t o.key.node

  m : Map
  m = map_at t o.outer.map

  tree-same : tree t o.key.node ≡ tree old o.key.node
  tree-same = tree-grows old t grows o.key.node going.frames.0.0

  cut-same : map_at t o.key.cut.items ≡ map_at old o.key.cut.items
  cut-same = map-grows old t grows o.key.cut.items pairs

  fits-now : map_at t o.key.cut.items ≡ cut_to (free (tree t o.key.node)) (map_at t o.outer.map)
  fits-now = cut-same ∙ fits ∙ (λ i. cut_to (free (sym tree-same i)) (sym (map-grows old t grows o.outer.map going.level.map) i))

  abbrev wanted : Renamed
  wanted = renamed_under (cut_to (free (tree t o.key.node)) (map_at t o.outer.map)) (bound_in (tree t o.key.node)) names

  renamed-same : renamed_under (map_at old o.key.cut.items) (variables_at old ks) names ≡ wanted
  renamed-same =
      let cut : map_at old o.key.cut.items ≡ cut_to (free (tree t o.key.node)) (map_at t o.outer.map) = sym cut-same ∙ fits-now in
      let bound : variables_at old ks ≡ bound_in (tree t o.key.node) = variables ∙ ap bound_in (sym tree-same) in
      λ i. renamed_under (cut i) (bound i) names

  binder-now : is_quantified (tree t o.key.node) ≡ true
  binder-now = ap is_quantified tree-same ∙ binder

  variables-same : variables_at t o.variables.items ≡ wanted.variables
  variables-same = renames.renamed ∙ ap (λ r. r.variables) renamed-same

  spared : Spares names (tree t o.key.node)
  spared = spares-later first names (tree t o.key.node) now.later now.frames.0.1

  body-same : tree t b ≡ body_of (tree t o.key.node)
  body-same = tree-grows old t grows b inner ∙ body ∙ ap body_of (sym tree-same)

  opened-frame : IsOpened t (chosen_at t es) o
  opened-frame = record {
    node = now.frames.0.0;
    binder = binder-now;
    cut = is_map-grows old t grows o.key.cut.items pairs;
    fits = fits-now;
    variables = renames.variables;
    bindable =
        ap are_bindable variables-same
        ∙ binder-bindable (tree t o.key.node) (cut_to (free (tree t o.key.node)) (map_at t o.outer.map)) names binder-now (table.sorted o.key.node.0 now.frames.0.0) spared;
    outer = now.level;
  }

  open-unknown : chosen_for (chosen_at t es) (cut_to (free (tree t o.key.node)) (map_at t o.outer.map)) (tree t o.key.node) ≡ None
  open-unknown = chosen-unknown t table es now.chosen o.outer o.key.node now.frames.0.0 o.key.cut.items (is_map-grows old t grows o.key.cut.items pairs) fits-now new

  open-images : (g : Symbol) → image (map_at t after) g ≡ image wanted.map g
  open-images g = renames.images g ∙ ap (λ r. image r.map g) renamed-same

  open-leads : Leads (map_at t after) (visit (tree t b) ∷ close (opening_at t o) ∷ steps_at t fs) (trees_at t vs) (record { names = left; chosen = chosen_at t es }) end
  open-leads =
      let made = binder-leads (map_at t o.outer.map) (map_at t after) (tree t o.key.node) (steps_at t fs) (trees_at t vs) (record { names = names; chosen = chosen_at t es }) end binder-now open-unknown open-images now.leads in
      let opening : record { term = tree t o.key.node; cut = cut_to (free (tree t o.key.node)) (map_at t o.outer.map); renamed = wanted.variables; outer = map_at t o.outer.map } ≡ opening_at t o =
      (λ i. record { term = tree t o.key.node; cut = sym fits-now i; renamed = sym variables-same i; outer = map_at t o.outer.map }) in
      let drawn : wanted.names ≡ left = sym (renames.names ∙ ap (λ r. r.names) renamed-same) in
      subst (λ s. Leads (map_at t after) (visit (tree t b) ∷ close (opening_at t o) ∷ steps_at t fs) (trees_at t vs) (record { names = s; chosen = chosen_at t es }) end) drawn
      (subst (λ p. Leads (map_at t after) (visit (tree t b) ∷ close p ∷ steps_at t fs) (trees_at t vs) (record { names = wanted.names; chosen = chosen_at t es }) end) opening
      (subst (λ c. Leads (map_at t after) (visit c ∷ close (record { term = tree t o.key.node; cut = cut_to (free (tree t o.key.node)) (map_at t o.outer.map); renamed = wanted.variables; outer = map_at t o.outer.map }) ∷ steps_at t fs) (trees_at t vs) (record { names = wanted.names; chosen = chosen_at t es }) end) (sym body-same) made))

  module _ (inside : Level) (map_is : inside.map ≡ after) (none_kept : inside.kept ≡ []) where
    nothing-kept : (j r : NodeId) → found_in inside.kept j ≡ Some r → IsKept t (map_at t inside.map) (chosen_at t es) j r
    nothing-kept j r found = (let none : found_in inside.kept j ≡ None = ap (λ (ps : List (NodeId × NodeId)). found_in ps j) none_kept in absurd cc)

    pub open-going : Going t left first es inside (Visit b ∷ Close o ∷ fs) vs f end
    open-going = record {
      chosen = now.chosen;
      sorts = now.sorts;
      level = record { map = subst (IsMap t) (sym map_is) renames.map; kept = nothing-kept };
      frames = ((node-grows old t grows b inner, subst (Spares first) (sym body-same) (body-spared first (tree t o.key.node) now.frames.0.1)), (opened-frame, now.frames.1));
      values = now.values;
      findings = findings;
      later = later-both first names left now.later later;
      leads = subst (λ ps. Leads (map_at t ps) (visit (tree t b) ∷ close (opening_at t o) ∷ steps_at t fs) (trees_at t vs) (record { names = left; chosen = chosen_at t es }) end) (sym map_is) open-leads;
    }

-- ---- a quantifier that is made anew, over a table that gained its node

module _ (old t : Formulas) (grows : GrowsTo old t) (table : IsTable t) (names first : Supply) (es : List (Key × NodeId)) (l : Level) (fs : List Frame) (vs rest : List NodeId) (b : NodeId) (f : Findings) (end : End)
    (o : Opened) (last : vs ≡ rest ++ b ∷ []) (going : Going old names first es l (Close o ∷ fs) vs f end) where
  closing : Going old names first es l (Close o ∷ fs) (rest ++ b ∷ []) f end
  closing = subst (λ us. Going old names first es l (Close o ∷ fs) us f end) last going

  closing-now : Going t names first es l (Close o ∷ fs) (rest ++ b ∷ []) f end
  closing-now = going-grows old t grows names first es l (Close o ∷ fs) (rest ++ b ∷ []) f end closing

  pub close-none : chosen_in es o.key.node o.key.cut.items ≡ None
  close-none = close-unknown t table names first es l fs rest b f end o closing-now

  last-node : IsNode old b
  last-node =
      subst (IsNode old) (get_or-append_seam rest b [] b)
      (closing.values (length rest) b (let many = length-append rest (b ∷ []) in omega (arith, many)))

  -- the result has the node r
  module _ (r : NodeId) (node : IsNode t r) (term : tree t r ≡ requantified (tree old o.key.node) (variables_at old o.variables.items) (tree old b))
      (more : List (Key × NodeId)) (added : more ≡ (o.key, r) ∷ es) (new : Level) (same : new.map ≡ o.outer.map) (put : (n : NodeId) → found_in new.kept n ≡ (if n.0 == o.key.node.0 then Some r else found_in o.outer.kept n))
      (us : List NodeId) (pushed : us ≡ rest ++ r ∷ []) where
    pub close-after : Going t names first more new fs us f end
    close-after =
        let whole = sym (tree-grows old t grows o.key.node closing.frames.0.node) in
        let vars = sym (variables-grow old t grows o.variables.items closing.frames.0.variables.nodes) in
        let inner = sym (tree-grows old t grows b last-node) in
        let now = term ∙ (λ i. requantified (whole i) (vars i) (inner i)) in
        subst (λ ds. Going t names first ds new fs us f end) (sym added)
        (subst (λ ws. Going t names first ((o.key, r) ∷ es) new fs ws f end) (sym pushed) (close-going t table names first es l fs rest b f end o closing-now r node now new same put))

-- the body's result is a truth value
pub close-truth : (t : Formulas) (table : IsTable t) (names first : Supply) (es : List (Key × NodeId)) (l : Level) (fs : List Frame) (vs rest : List NodeId) (b : NodeId) (f : Findings) (end : End) (o : Opened)
    → vs ≡ rest ++ b ∷ [] → Going t names first es l (Close o ∷ fs) vs f end → sort_of (tree t b) ≡ Some bool
close-truth t table names first es l fs vs rest b f end o last going =
    let now = subst (λ us. Going t names first es l (Close o ∷ fs) us f end) last going in
    close-sort t table names first es l fs rest b f end o now ∙ truth (tree t o.key.node) now.frames.0.binder (table.sorted o.key.node.0 now.frames.0.node)
  where
    truth : (u : Term) → is_quantified u ≡ true → IsWellSorted u → sort_of (body_of u) ≡ Some bool
    truth (apply h ts) q sorted = absurd cc
    truth (quantified p xs c) q sorted = (let has = has-sort (quantified p xs c) sorted in (quantified_sort p xs c has.0 has.1).body)

-- ---- what is left once a node is made

module _ (old t : Formulas) (grows : GrowsTo old t) (names first : Supply) (es : List (Key × NodeId)) (l : Level) (frame : Frame) (fs : List Frame) (vs : List NodeId) (f : Findings) (end : End)
    (going : Going old names first es l (frame ∷ fs) vs f end) (left : List Frame) (same : left ≡ fs) where
  rest-same : steps_at t left ≡ steps_at old fs
  rest-same = ap (steps_at t) same ∙ steps-grow old t grows (chosen_at old es) first fs going.frames.1

  pub built-nearer : (k : NodeId) → frame ≡ Build k → load (steps_at t left) < load (steps_at old (frame ∷ fs))
  built-nearer k is =
      let less : load (steps_at old fs) < 1 + load (steps_at old fs) = omega arith in
      subst (λ g. load (steps_at t left) < load (step_at old g ∷ steps_at old fs)) (sym is) (subst (λ ss. load ss < 1 + load (steps_at old fs)) (sym rest-same) less)

  pub closed-nearer : (o : Opened) → frame ≡ Close o → load (steps_at t left) < load (steps_at old (frame ∷ fs))
  closed-nearer o is =
      let less : load (steps_at old fs) < 1 + load (steps_at old fs) = omega arith in
      subst (λ g. load (steps_at t left) < load (step_at old g ∷ steps_at old fs)) (sym is) (subst (λ ss. load ss < 1 + load (steps_at old fs)) (sym rest-same) less)

-- ---- from the start to the end

pub starting : (t : Formulas) (s : Supply) (root : NodeId) (ps : Pairs) (l : Level) (f : Findings) (es : List (Key × NodeId)) (fs : List Frame) (vs : List NodeId)
    → IsNode t root → IsMap t ps → Spares s (tree t root) → l.map ≡ ps → l.kept ≡ [] → es ≡ [] → fs ≡ Visit root ∷ [] → vs ≡ [] → AreFindings t f → Going t s s es l fs vs f (end_of t ps root s)
starting t s root ps l f es fs vs node pairs spare map_is none_kept none_chosen one_frame no_values findings =
    subst (λ ds. Going t s s ds l fs vs f (end_of t ps root s)) (sym none_chosen)
    (subst (λ gs. Going t s s [] l gs vs f (end_of t ps root s)) (sym one_frame)
    (subst (λ us. Going t s s [] l (Visit root ∷ []) us f (end_of t ps root s)) (sym no_values) (record {
      chosen = All-nil (IsChosen t);
      sorts = λ m u r found. absurd cc;
      level = record { map = subst (IsMap t) (sym map_is) pairs; kept = λ k r found. (let none : found_in l.kept k ≡ None = ap (λ (qs : List (NodeId × NodeId)). found_in qs k) none_kept in absurd cc) };
      frames = ((node, spare), tt);
      values = All-nil (IsNode t);
      findings = findings;
      later = later-same s;
      leads =
          subst (λ qs. Leads (map_at t qs) (visit (tree t root) ∷ []) [] (record { names = s; chosen = [] }) (end_of t ps root s)) (sym map_is) (refl, refl);
    })))

module _ (old t : Formulas) (s names : Supply) (root : NodeId) (ps : Pairs) (pairs : IsMap old ps) (l : Level) (f : Findings) (es : List (Key × NodeId)) (fs : List Frame) (vs : List NodeId)
    (done_all : fs ≡ []) (going : Going t names s es l fs vs f (end_of old ps root s)) where
  last-leads : (trees_at t vs ≡ (subst_from (map_at old ps) (tree old root) (record { names = s; chosen = [] })).0 ∷ [])
      × (record { names = names; chosen = chosen_at t es } ≡ (subst_from (map_at old ps) (tree old root) (record { names = s; chosen = [] })).1)
  last-leads = subst (λ gs. Leads (map_at t l.map) (steps_at t gs) (trees_at t vs) (record { names = names; chosen = chosen_at t es }) (end_of old ps root s)) done_all going.leads

  pub end-some : 0 < length vs
  end-some = (one-term t vs (subst_from (map_at old ps) (tree old root) (record { names = s; chosen = [] })).0 last-leads.0).0

  pub end-term : (d : NodeId) → tree t (get_or vs 0 d) ≡ (subst_by (map_at old ps) (tree old root) s).0
  end-term = (one-term t vs (subst_from (map_at old ps) (tree old root) (record { names = s; chosen = [] })).0 last-leads.0).1

  pub end-left : names ≡ (subst_by (map_at old ps) (tree old root) s).1
  end-left = ap (λ r. r.names) last-leads.1

  pub end-sort : (d : NodeId) → sort_of (tree t (get_or vs 0 d)) ≡ sort_of (tree old root)
  end-sort d =
      let start : Choices = record { names = s; chosen = [] } in
      let r = subst_from (map_at old ps) (tree old root) start in
      let keeps = subst (λ c. KeepSorts c.chosen) last-leads.1 going.sorts in
      ap sort_of (end-term d) ∙ done-sort (map_at old ps) r.1.chosen (have-sorts old ps pairs) keeps (tree old root) r.0 (done-after (map_at old ps) (tree old root) start)
