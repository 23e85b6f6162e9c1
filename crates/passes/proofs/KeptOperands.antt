-- What is kept of the applications that gave way to constants: with one more, and over a table that only gains.
use Rattle.std.proofs.Common.{◌≡◌, ◌∙◌, ap, sym, refl, subst, ◌<◌, ◌==◌, if◌then◌else◌, Bool, true, false, true≢false, List, [], ◌∷◌, ◌++◌, map, length, Option, Some, None, All}
use Rattle.std.specs.Prelude.{is_some, IfSome, IsSome}
use Rattle.std.proofs.lemmas.Bool.Decides.{Decides-eqb}
use Rattle.std.proofs.lemmas.List.Elements.{All-append, All-cons, All-head, All-nil, All-tail, All-weaker}
use Rattle.indexmap.specs.IndexMap.{insert_entry}
use Rattle.smt_terms.specs.declared.ids.NodeId.{NodeId}
use Rattle.smt_terms.specs.declared.ids.SymId.{SymId}
use Rattle.smt_terms.specs.contracts.ids.SymIdPartialEq.TheImpl.{ghosts as symbols}
use Rattle.smt_terms.specs.Groups.{Named}
use Rattle.smt_terms.specs.Rank.{sort_of}
use Rattle.smt_terms.specs.Sorts.{Symbol}
use Rattle.smt_terms.specs.Term.{symbol, Term, over}
use Rattle.term_table.specs.Formulas.{Formulas, operands, symbol_at, tree, trees_at, IsNode, IsSymbol}
use Rattle.term_walk.specs.Walking.{GrowsTo}
use Rattle.script_terms.proofs.Grown.{nodes_stay, symbol_stays, symbol_within, tree_stays, trees_stay}
use Rattle.ackermann.specs.Tables.{operands_of}
use Rattle.passes.specs.declared.plan.Step.{Step}
use Rattle.passes.specs.declared.plan.Step.TheVariants.{Declare, Group, Check, Push, Pop, Reset, ResetAssertions, Globals}
use Rattle.passes.specs.declared.plan.Use.{Use}
use Rattle.pass_laws.specs.LiveGroups.{operands_with}
use Rattle.passes.specs.Plans.{use_of, Uses, IsStepOf, IsUse, HasUse, HaveUses}
use Rattle.passes.specs.Removing.{keys_of, operands_kept, AreApart, IsKept, AreKept}

-- ---- one more

pub kept-push : (t : Formulas) (ps : List (Symbol × List Term)) (es : Uses) (e : SymId × Use) → operands_kept t ps (es ++ e ∷ []) ≡ (symbol_at t e.0, trees_at t e.1.operands.items) ∷ operands_kept t ps es
kept-push t ps [] e = refl
kept-push t ps (d ∷ es) e = kept-push t ((symbol_at t d.0, trees_at t d.1.operands.items) ∷ ps) es e

pub with-push : (ps : List (Symbol × List Term)) (ns new : Named) (n : Symbol × Term) → operands_with ps ns (new ++ n ∷ []) ≡ (n.0, operands_of ns n.1) ∷ operands_with ps ns new
with-push ps ns [] n = refl
with-push ps ns (m ∷ new) n = with-push ((m.0, operands_of ns m.1) ∷ ps) ns new n

-- ---- symbols that stand once

-- it is none of these
abbrev pub IsNew : SymId → List SymId → Type 0
IsNew k ks = All (λ j. (k.0 == j.0) ≡ false) ks

pub new-among : (ks : List SymId) (k : SymId) (more : List SymId) → AreApart (ks ++ k ∷ more) → IsNew k ks
new-among [] k more apart = All-nil (λ (j : SymId). (k.0 == j.0) ≡ false)
new-among (j ∷ ks) k more apart =
    All-cons (λ (i : SymId). (k.0 == i.0) ≡ false) j ks (in_middle (λ (i : SymId). (i.0 == j.0) ≡ false) ks k more apart.0) (new-among ks k more apart.1)
  where
    in_middle : (P : SymId → Type 0) (is : List SymId) (k : SymId) (more : List SymId) → All P (is ++ k ∷ more) → P k
    in_middle P [] k more all = All-head P k more all
    in_middle P (i ∷ is) k more all = in_middle P is k more (All-tail P i (is ++ k ∷ more) all)

pub apart-both : (ks js : List SymId) → AreApart ks → AreApart js → All (λ k. All (λ (j : SymId). (j.0 == k.0) ≡ false) js) ks → AreApart (ks ++ js)
apart-both [] js first second between = second
apart-both (k ∷ ks) js first second between = (
  All-append (λ (j : SymId). (j.0 == k.0) ≡ false) ks js first.0 (All-head (λ (i : SymId). All (λ (j : SymId). (j.0 == i.0) ≡ false) js) k ks between),
  apart-both ks js first.1 second (All-tail (λ (i : SymId). All (λ (j : SymId). (j.0 == i.0) ≡ false) js) k ks between),
)

-- ---- look-ups

pub insert-new : (es : Uses) (k : SymId) (u : Use) → IsNew k (keys_of es) → insert_entry symbols.eq es k u ≡ es ++ (k, u) ∷ []
insert-new [] k u new = refl
insert-new (e ∷ es) k u new =
    ap (λ b. if b then (e.0, u) ∷ es else e ∷ insert_entry symbols.eq es k u) (All-head (λ (j : SymId). (k.0 == j.0) ≡ false) e.0 (keys_of es) new)
    ∙ ap (λ ds. e ∷ ds) (insert-new es k u (All-tail (λ (j : SymId). (k.0 == j.0) ≡ false) e.0 (keys_of es) new))

pub use-new : (es : Uses) (v : SymId) → IsNew v (keys_of es) → use_of es v ≡ None
use-new [] v new = refl
use-new (e ∷ es) v new =
    ap (λ b. if b then Some e.1 else use_of es v) (All-head (λ (j : SymId). (v.0 == j.0) ≡ false) e.0 (keys_of es) new)
    ∙ use-new es v (All-tail (λ (j : SymId). (v.0 == j.0) ≡ false) e.0 (keys_of es) new)

pub use-last : (es : Uses) (k : SymId) (u : Use) → IsNew k (keys_of es) → use_of (es ++ (k, u) ∷ []) k ≡ Some u
use-last [] k u new = ap (λ b. if b then Some u else None) ((Decides-eqb k.0 k.0).1 refl)
use-last (e ∷ es) k u new =
    ap (λ b. if b then Some e.1 else use_of (es ++ (k, u) ∷ []) k) (All-head (λ (j : SymId). (k.0 == j.0) ≡ false) e.0 (keys_of es) new)
    ∙ use-last es k u (All-tail (λ (j : SymId). (k.0 == j.0) ≡ false) e.0 (keys_of es) new)

pub use-first : (es ds : Uses) (v : SymId) (u : Use) → use_of es v ≡ Some u → use_of (es ++ ds) v ≡ Some u
use-first [] ds v u found = absurd (true≢false (sym (ap is_some found)))
use-first (e ∷ es) ds v u found = by (v.0 == e.0.0) (use-first es ds v u) found
  where
    by : (b : Bool) → (use_of es v ≡ Some u → use_of (es ++ ds) v ≡ Some u) → (if b then Some e.1 else use_of es v) ≡ Some u → (if b then Some e.1 else use_of (es ++ ds) v) ≡ Some u
    by true rest e = e
    by false rest e = rest e

-- the application of a constant stays behind others
pub use-stays : (t : Formulas) (es ds : Uses) (p : SymId × NodeId) → HasUse t (Some es) p → HasUse t (Some (es ++ ds)) p
use-stays t es ds p has = by (use_of es p.0) refl has.0 has.1
  where
    by : (o : Option Use) → use_of es p.0 ≡ o → IfSome o (IsUse t p.1) → IsSome o → HasUse t (Some (es ++ ds)) p
    by None is uses some = absurd (true≢false (sym some))
    by (Some u) is uses some = subst (λ o. IfSome o (IsUse t p.1) × IsSome o) (sym (use-first es ds p.0 u is)) (uses, some)

-- ---- over a table that only gains

module _ (t u : Formulas) (grows : GrowsTo t u) where
  pub kept-stays : (ps : List (Symbol × List Term)) (es : Uses) → All (IsKept t) es → operands_kept u ps es ≡ operands_kept t ps es
  kept-stays ps [] all = refl
  kept-stays ps (e ∷ es) all =
      let here : IsKept t e = All-head (IsKept t) e es all in
      ap (λ (q : Symbol × List Term). operands_kept u (q ∷ ps) es) (λ i. (symbol_stays t u grows e.0 here.0 i, trees_stay t u grows e.1.operands.items here.1 i))
      ∙ kept-stays ((symbol_at t e.0, trees_at t e.1.operands.items) ∷ ps) es (All-tail (IsKept t) e es all)

  pub kept-within : (es : Uses) → All (IsKept t) es → All (IsKept u) es
  kept-within es all = All-weaker (IsKept t) (IsKept u) (λ e is. (symbol_within t u grows e.0 is.0, nodes_stay t u grows e.1.operands.items is.1)) es all

  pub kept-still : (es : Uses) → AreKept t es → AreKept u es
  kept-still es are = record { each = kept-within es are.each; apart = are.apart }

  use-within : (k : NodeId) (x : Use) → IsNode t k → IsUse t k x → IsUse u k x
  use-within k x node is =
      let f : symbol_at u x.function ≡ symbol_at t x.function = symbol_stays t u grows x.function is.function in
      let k_stays : tree u k ≡ tree t k = tree_stays t u grows k node in
      record {
        function = symbol_within t u grows x.function is.function;
        some = subst (λ (g : Symbol). 0 < length g.args) (sym f) is.some;
        applied = k_stays ∙ is.applied ∙ (λ i. over (symbol (sym f i)) (operands (sym k_stays i)));
        nodes = nodes_stay t u grows x.operands.items is.nodes;
        sorts = ap (map sort_of) (trees_stay t u grows x.operands.items is.nodes) ∙ is.sorts ∙ ap (λ (g : Symbol). map (λ a. Some a) g.args) (sym f);
      }

  has-within : (es : Uses) (p : SymId × NodeId) → IsNode t p.1 → HasUse t (Some es) p → HasUse u (Some es) p
  has-within es p node has = (by (use_of es p.0) has.0, has.1)
    where
      by : (o : Option Use) → IfSome o (IsUse t p.1) → IfSome o (IsUse u p.1)
      by None is = tt
      by (Some x) is = use-within p.1 x node is

  pub have-within : (es : Uses) (st : Step) → IsStepOf t st → HaveUses t (Some es) st → HaveUses u (Some es) st
  have-within es (Group number symbols) are have = each symbols are have
    where
      each : (ps : List (SymId × NodeId)) → All (λ p. IsSymbol t p.0 × IsNode t p.1) ps → All (HasUse t (Some es)) ps → All (HasUse u (Some es)) ps
      each [] are have = All-nil (HasUse u (Some es))
      each (p ∷ ps) are have =
          All-cons (HasUse u (Some es)) p ps
          (has-within es p (All-head (λ (q : SymId × NodeId). IsSymbol t q.0 × IsNode t q.1) p ps are).1 (All-head (HasUse t (Some es)) p ps have))
          (each ps (All-tail (λ (q : SymId × NodeId). IsSymbol t q.0 × IsNode t q.1) p ps are) (All-tail (HasUse t (Some es)) p ps have))
  have-within es (Declare f) are have = tt
  have-within es Check are have = tt
  have-within es (Push n) are have = tt
  have-within es (Pop n) are have = tt
  have-within es Reset are have = tt
  have-within es ResetAssertions are have = tt
  have-within es (Globals b) are have = tt

  pub all-have-within : (es : Uses) (ss : List Step) → All (IsStepOf t) ss → All (HaveUses t (Some es)) ss → All (HaveUses u (Some es)) ss
  all-have-within es [] are have = All-nil (HaveUses u (Some es))
  all-have-within es (st ∷ ss) are have =
      All-cons (HaveUses u (Some es)) st ss
      (have-within es st (All-head (IsStepOf t) st ss are) (All-head (HaveUses t (Some es)) st ss have))
      (all-have-within es ss (All-tail (IsStepOf t) st ss are) (All-tail (HaveUses t (Some es)) st ss have))

-- the uses of steps stay behind others
pub have-stays : (t : Formulas) (old new : Uses) → ((p : SymId × NodeId) → HasUse t (Some old) p → HasUse t (Some new) p) → (ss : List Step) → All (HaveUses t (Some old)) ss → All (HaveUses t (Some new)) ss
have-stays t old new stays ss have = All-weaker (HaveUses t (Some old)) (HaveUses t (Some new)) each ss have
  where
    each : (st : Step) → HaveUses t (Some old) st → HaveUses t (Some new) st
    each (Group number symbols) have = All-weaker (HasUse t (Some old)) (HasUse t (Some new)) stays symbols have
    each (Declare f) have = tt
    each Check have = tt
    each (Push n) have = tt
    each (Pop n) have = tt
    each Reset have = tt
    each ResetAssertions have = tt
    each (Globals b) have = tt
