-- Live applications are kept and found by the numbers of their nodes, and from each there is the way to the one before it.
use Rattle.std.proofs.Common.{◌≡◌, ℕ, zero, suc, ◌+◌, ◌-◌, ◌==◌, Bool, true, false, cond, if◌then◌else◌, List, [], ◌∷◌, ◌++◌, append_assoc, append-nil, length, take, slice_get, Option, Some, None, refl, ap, sym, ◌∙◌, subst, arith}
use Rattle.std.specs.Prelude.{unwrap_or, option_map, Result, Ok, Err, OnOk, OnErr}
use Rattle.std.specs.Map.{lookup}
use Rattle.std.proofs.lemmas.Bool.Decides.{Decides-eqb}
use Rattle.std.proofs.lemmas.List.{map-append, length-map, length-append}
use Rattle.std.proofs.Math.Seq.{take-append_seam}
use Rattle.indexmap.specs.IndexMap.{IndexMap, insert_entry}
use Rattle.indexmap.proofs.CallerLemmas.{insert_entry-new}
use Rattle.smt_terms.specs.declared.ids.NodeId.{NodeId}
use Rattle.smt_terms.specs.declared.ids.SymId.{SymId}
use Rattle.smt_terms.specs.contracts.ids.NodeIdPartialEq.TheImpl.{ghosts as nodes}
use Rattle.smt_terms.specs.contracts.ids.SymIdPartialEq.TheImpl.{ghosts as symbols}
use Rattle.smt_terms.proofs.Tests.{alike_from}
use Rattle.ackermann.specs.declared.uses.Entry.{Entry}
use Rattle.ackermann.specs.declared.uses.LiveUse.{LiveUse}
use Rattle.ackermann.specs.KeptUses.{uses_in, reach_in, AreChained, AreKept}
use Rattle.ackermann.specs.LiveUses.{constant_in, is_use_of, reach}
use Rattle.ackermann.proofs.ReachedUses.{reach-last}

-- ---- look-ups

constant-lookup : (before : List LiveUse) (es : List (NodeId × Entry)) (k : NodeId) → AreChained before es → constant_in (uses_in es) k ≡ option_map (λ (e : Entry). e.live.constant) (lookup (nodes.eq k) es)
constant-lookup before [] k chained = refl
constant-lookup before (p ∷ es) k chained =
    ap (λ n. if k.0 == n then Some p.1.live.constant else constant_in (uses_in es) k) (sym chained.0)
    ∙ by (k.0 == p.0.0) (constant-lookup (before ++ p.1.live ∷ []) es k chained.2)
  where
    by : (b : Bool) → constant_in (uses_in es) k ≡ option_map (λ (e : Entry). e.live.constant) (lookup (nodes.eq k) es)
        → (if b then Some p.1.live.constant else constant_in (uses_in es) k) ≡ option_map (λ (e : Entry). e.live.constant) (cond {A = Option Entry} b (Some p.1) (lookup (nodes.eq k) es))
    by true rest = refl
    by false rest = rest

pub found-constant : (es : List (NodeId × Entry)) (us : List LiveUse) (k : NodeId) (o : Option Entry) → AreChained [] es → uses_in es ≡ us → o ≡ lookup (nodes.eq k) es → option_map (λ (e : Entry). e.live.constant) o ≡ constant_in us k
found-constant es us k o chained view is =
    ap (option_map (λ (e : Entry). e.live.constant)) is ∙ sym (constant-lookup [] es k chained) ∙ ap (λ vs. constant_in vs k) view

pub absent-node : (es : List (NodeId × Entry)) (us : List LiveUse) (k : NodeId) → AreChained [] es → uses_in es ≡ us → constant_in us k ≡ None → lookup (nodes.eq k) es ≡ None
absent-node es us k chained view none = by (lookup (nodes.eq k) es) (sym (constant-lookup [] es k chained) ∙ ap (λ vs. constant_in vs k) view ∙ none)
  where
    by : (o : Option Entry) → option_map (λ (e : Entry). e.live.constant) o ≡ None → o ≡ None
    by None e = refl
    by (Some x) e = absurd cc

pub reach-lookup : (ps : List (SymId × ℕ)) (f : SymId) → unwrap_or (lookup (symbols.eq f) ps) 0 ≡ reach_in ps f
reach-lookup [] f = refl
reach-lookup (p ∷ ps) f = by (f.0 == p.0.0) (reach-lookup ps f)
  where
    by : (b : Bool) → unwrap_or (lookup (symbols.eq f) ps) 0 ≡ reach_in ps f → unwrap_or (cond {A = Option ℕ} b (Some p.1) (lookup (symbols.eq f) ps)) 0 ≡ (if b then p.1 else reach_in ps f)
    by true rest = refl
    by false rest = rest

-- ---- a function reaches farther

equal-turned : (a b : ℕ) → (a == b) ≡ (b == a)
equal-turned a b = alike_from (a == b) (b == a) (λ e. (Decides-eqb b a).1 (sym ((Decides-eqb a b).0 e))) (λ e. (Decides-eqb a b).1 (sym ((Decides-eqb b a).0 e)))

-- after a look-up in the map of the kit
abbrev pub IsSet : List (SymId × ℕ) → List (SymId × ℕ) → SymId → ℕ → Type 0
IsSet old new f n = (q : SymId) → lookup (symbols.eq q) new ≡ cond {A = Option ℕ} (symbols.eq f q) (Some n) (lookup (symbols.eq q) old)

reach-set : (old new : List (SymId × ℕ)) (f : SymId) (n : ℕ) → IsSet old new f n → (g : SymId) → reach_in new g ≡ (if g.0 == f.0 then n else reach_in old g)
reach-set old new f n told g =
    sym (reach-lookup new g) ∙ ap (λ o. unwrap_or o 0) (told g) ∙ by (f.0 == g.0) ∙ ap (λ b. if b then n else reach_in old g) (equal-turned f.0 g.0)
  where
    by : (b : Bool) → unwrap_or (cond {A = Option ℕ} b (Some n) (lookup (symbols.eq g) old)) 0 ≡ (if b then n else reach_in old g)
    by true = refl
    by false = reach-lookup old g

-- ---- the chain

chain-push : (before : List LiveUse) (es : List (NodeId × Entry)) (e : NodeId × Entry) → AreChained before es → e.0.0 ≡ e.1.live.node.0 → e.1.earlier ≡ reach e.1.live.function (before ++ uses_in es) → AreChained before (es ++ e ∷ [])
chain-push before [] e chained node earlier = (node, earlier ∙ ap (reach e.1.live.function) (append-nil before), tt)
chain-push before (x ∷ es) e chained node earlier =
    (chained.0, chained.1, chain-push (before ++ x.1.live ∷ []) es e chained.2 node (earlier ∙ ap (reach e.1.live.function) (sym (append_assoc before (x.1.live ∷ []) (uses_in es)))))

chain-pop : (before : List LiveUse) (es : List (NodeId × Entry)) (e : NodeId × Entry) → AreChained before (es ++ e ∷ []) → AreChained before es × (e.1.earlier ≡ reach e.1.live.function (before ++ uses_in es))
chain-pop before [] e chained = (tt, chained.1 ∙ ap (reach e.1.live.function) (sym (append-nil before)))
chain-pop before (x ∷ es) e chained =
    let rest = chain-pop (before ++ x.1.live ∷ []) es e chained.2 in
    ((chained.0, chained.1, rest.0), rest.1 ∙ ap (reach e.1.live.function) (append_assoc before (x.1.live ∷ []) (uses_in es)))

pub earlier-at : (before : List LiveUse) (es : List (NodeId × Entry)) (i : ℕ) (e : NodeId × Entry) (u : LiveUse) → AreChained before es → slice_get es i ≡ Some e → slice_get (uses_in es) i ≡ Some u → e.1.earlier ≡ reach u.function (before ++ take i (uses_in es))
earlier-at before [] i e u chained at there = absurd cc
earlier-at before (x ∷ es) zero e u chained at there =
    let same : x ≡ e = cc in
    let live : x.1.live ≡ u = cc in
    ap (λ (p : NodeId × Entry). p.1.earlier) (sym same) ∙ chained.1 ∙ ap (λ (v : LiveUse). reach v.function before) live ∙ ap (reach u.function) (sym (append-nil before))
earlier-at before (x ∷ es) (suc i) e u chained at there =
    earlier-at (before ++ x.1.live ∷ []) es i e u chained.2 at there ∙ ap (reach u.function) (append_assoc before (x.1.live ∷ []) (take i (uses_in es)))

-- ---- what is kept stays so

-- a function that reaches as far as before
pub kept-same : (es : List (NodeId × Entry)) (old new : List (SymId × ℕ)) (f : SymId) (n : ℕ) → AreKept es old → n ≡ reach f (uses_in es) → IsSet old new f n → AreKept es new
kept-same es old new f n kept is told = record {
  chained = kept.chained;
  reached = λ g. reach-set old new f n told g ∙ by g (g.0 == f.0) refl;
}
  where
    by : (g : SymId) (b : Bool) → (g.0 == f.0) ≡ b → (if b then n else reach_in old g) ≡ reach g (uses_in es)
    by g true e = is ∙ ap (λ (h : SymId). reach h (uses_in es)) (λ i. record { 0 = sym ((Decides-eqb g.0 f.0).0 e) i })
    by g false e = kept.reached g

-- one more is live
pub kept-more : (es more : List (NodeId × Entry)) (old new : List (SymId × ℕ)) (e : NodeId × Entry) (n : ℕ) → AreKept es old → more ≡ es ++ e ∷ [] → e.0.0 ≡ e.1.live.node.0 → e.1.earlier ≡ reach e.1.live.function (uses_in es) → n ≡ suc (length es) → IsSet old new e.1.live.function n → AreKept more new
kept-more es more old new e n kept put node earlier is told = subst (λ xs. AreKept xs new) (sym put) (record {
  chained = chain-push [] es e kept.chained node earlier;
  reached = λ g.
      reach-set old new e.1.live.function n told g
      ∙ (λ i. if g.0 == e.1.live.function.0 then (is ∙ ap suc (sym (length-map es (λ (x : NodeId × Entry). x.1.live)))) i else kept.reached g i)
      ∙ sym (reach-last g (uses_in es) e.1.live)
      ∙ ap (reach g) (sym (map-append (λ (x : NodeId × Entry). x.1.live) es (e ∷ [])));
})

-- the last one goes
pub kept-less : (es more : List (NodeId × Entry)) (old new : List (SymId × ℕ)) (e : NodeId × Entry) → AreKept more old → more ≡ es ++ e ∷ [] → IsSet old new e.1.live.function e.1.earlier → AreKept es new
kept-less es more old new e kept put told =
    let parts = chain-pop [] es e (subst (AreChained []) put kept.chained) in
    record {
      chained = parts.0;
      reached = λ g. reach-set old new e.1.live.function e.1.earlier told g ∙ by parts.1 g (g.0 == e.1.live.function.0) refl;
    }
  where
    far : (g : SymId) → reach_in old g ≡ (if is_use_of g e.1.live then suc (length (uses_in es)) else reach g (uses_in es))
    far g = kept.reached g ∙ ap (λ xs. reach g (uses_in xs)) put ∙ ap (reach g) (map-append (λ (x : NodeId × Entry). x.1.live) es (e ∷ [])) ∙ reach-last g (uses_in es) e.1.live

    by : e.1.earlier ≡ reach e.1.live.function (uses_in es) → (g : SymId) (b : Bool) → (g.0 == e.1.live.function.0) ≡ b → (if b then e.1.earlier else reach_in old g) ≡ reach g (uses_in es)
    by earlier g true same = earlier ∙ ap (λ (h : SymId). reach h (uses_in es)) (λ i. record { 0 = sym ((Decides-eqb g.0 e.1.live.function.0).0 same) i })
    by earlier g false other = far g ∙ ap (λ b. if b then suc (length (uses_in es)) else reach g (uses_in es)) other

-- the function of the last one reaches to it
pub last-reached : (es more : List (NodeId × Entry)) (ps : List (SymId × ℕ)) (e : NodeId × Entry) → AreKept more ps → more ≡ es ++ e ∷ [] → lookup (symbols.eq e.1.live.function) ps ≡ None → ⊥
last-reached es more ps e kept put none =
    let far : reach_in ps e.1.live.function ≡ suc (length (uses_in es)) =
    kept.reached e.1.live.function ∙ ap (λ xs. reach e.1.live.function (uses_in xs)) put ∙ ap (reach e.1.live.function) (map-append (λ (x : NodeId × Entry). x.1.live) es (e ∷ []))
    ∙ reach-last e.1.live.function (uses_in es) e.1.live
    ∙ ap (λ b. if b then suc (length (uses_in es)) else reach e.1.live.function (uses_in es)) ((Decides-eqb e.1.live.function.0 e.1.live.function.0).1 refl) in
    let nothing : reach_in ps e.1.live.function ≡ 0 = sym (reach-lookup ps e.1.live.function) ∙ ap (λ o. unwrap_or o 0) none in
    omega (arith, far, nothing)

pub kept-popped : {A E : Type 0} (r : Result A E) (U : Type 0) (es more : List (NodeId × Entry)) (old new : List (SymId × ℕ)) (e : NodeId × Entry) → AreKept more old → more ≡ es ++ e ∷ []
    → (U → IsSet old new e.1.live.function e.1.earlier) → OnOk r U → OnErr r (lookup (symbols.eq e.1.live.function) old ≡ None) → AreKept es new
kept-popped (Ok x) U es more old new e kept put told ok err = kept-less es more old new e kept put (told ok)
kept-popped (Err x) U es more old new e kept put told ok err = absurd (last-reached es more old e kept put err)

pub uses-popped : (es more : List (NodeId × Entry)) (e : NodeId × Entry) (us : List LiveUse) → more ≡ es ++ e ∷ [] → uses_in more ≡ us → uses_in es ≡ take (length us - 1) us
uses-popped es more e us put view =
    let all : us ≡ uses_in es ++ e.1.live ∷ [] = sym view ∙ ap uses_in put ∙ map-append (λ (x : NodeId × Entry). x.1.live) es (e ∷ []) in
    let long : length us ≡ length (uses_in es) + 1 = ap length all ∙ length-append (uses_in es) (e.1.live ∷ []) in
    let less : length us - 1 ≡ length (uses_in es) = omega (arith, long) in
    sym (ap (λ n. take n us) less ∙ ap (take (length (uses_in es))) all ∙ take-append_seam (uses_in es) (e.1.live ∷ []))

-- a node without a constant goes last
pub put-last : {S : Type 0} (m : IndexMap NodeId Entry S) (us : List LiveUse) (k : NodeId) (v : Entry) → AreChained [] m.entries → uses_in m.entries ≡ us → constant_in us k ≡ None → insert_entry nodes.eq m.entries k v ≡ m.entries ++ (k, v) ∷ []
put-last m us k v chained view none = insert_entry-new nodes.eq m k v (absent-node m.entries us k chained view none)

pub uses-pushed : (es more : List (NodeId × Entry)) (e : NodeId × Entry) (us : List LiveUse) → more ≡ es ++ e ∷ [] → uses_in es ≡ us → uses_in more ≡ us ++ e.1.live ∷ []
uses-pushed es more e us put view = ap uses_in put ∙ map-append (λ (x : NodeId × Entry). x.1.live) es (e ∷ []) ∙ ap (λ vs. vs ++ e.1.live ∷ []) view

pub one-longer : (es more : List (NodeId × Entry)) (e : NodeId × Entry) → more ≡ es ++ e ∷ [] → length more ≡ suc (length es)
one-longer es more e put = let n = ap length put ∙ length-append es (e ∷ []) in omega (arith, n)
