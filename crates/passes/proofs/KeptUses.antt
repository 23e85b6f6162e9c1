-- The applications of the constants of a group, kept one after the other.
use Rattle.std.proofs.Common.{◌≡◌, ◌∙◌, ap, sym, refl, subst, ℕ, suc, ◌+◌, ◌≤◌, List, [], ◌∷◌, ◌++◌, append_assoc, map, take, drop, length, slice_get, Some, option_map, All, arith}
use Rattle.std.specs.Prelude.{IfSome, IsSome}
use Rattle.std.proofs.lemmas.List.{length-append, length-map, map-append, take-append-drop, take_all}
use Rattle.std.proofs.lemmas.List.Elements.{All-nil, All-push, All-weaker}
use Rattle.std.proofs.lemmas.Option.{slice_get-map}
use Rattle.indexmap.specs.IndexMap.{insert_entry}
use Rattle.smt_terms.specs.declared.ids.NodeId.{NodeId}
use Rattle.smt_terms.specs.declared.ids.SymId.{SymId}
use Rattle.smt_terms.specs.contracts.ids.SymIdPartialEq.TheImpl.{ghosts as symbols}
use Rattle.smt_terms.specs.Groups.{Named}
use Rattle.smt_terms.specs.Sorts.{Symbol}
use Rattle.smt_terms.specs.Term.{Term}
use Rattle.term_groups.specs.Seen.{named_at}
use Rattle.term_table.specs.Formulas.{Formulas, symbol_at, tree, trees_at, AreNodes, IsSymbol}
use Rattle.ackermann.specs.Ackermann.{live}
use Rattle.ackermann.specs.LevelsAt.{Live, levels_at, IsApplicationOf}
use Rattle.ackermann.specs.LiveUses.{named_uses}
use Rattle.ackermann.proofs.CutLevels.{live-cut}
use Rattle.passes.specs.declared.plan.Use.{Use}
use Rattle.pass_laws.specs.LiveGroups.{operands_with}
use Rattle.passes.specs.Plans.{Uses, IsUse, HasUse}
use Rattle.passes.specs.Removing.{keys_of, operands_kept, AreApart, Keeps}
use Rattle.passes.proofs.GroupingSteps.{taken_more}
use Rattle.passes.proofs.KeptOperands.{kept-push, with-push, IsNew, new-among, insert-new, use-last, use-stays}
use Rattle.passes.proofs.RefusedCommands.{first_left}

-- ---- what stands behind others

pub behind-others : {A : Type 0} (xs ys : List A) (n i : ℕ) → length xs ≡ n → slice_get (xs ++ ys) (n + i) ≡ slice_get ys i
behind-others [] ys n i is = ap (λ k. slice_get ys k) (let e : n + i ≡ i = omega (arith, is) in e)
behind-others (x ∷ xs) ys n i is =
    ap (λ k. slice_get (x ∷ xs ++ ys) k) (let e : n + i ≡ suc (length xs + i) = omega (arith, is) in e) ∙ behind-others xs ys (length xs) i refl

pub named-there : (t : Formulas) (earlier : Named) (ps : List (SymId × NodeId)) (n i : ℕ) (p : SymId × NodeId) → length earlier ≡ n → slice_get ps i ≡ Some p
    → slice_get (earlier ++ named_at t ps) (n + i) ≡ Some (symbol_at t p.0, tree t p.1)
named-there t earlier ps n i p is at =
    behind-others earlier (named_at t ps) n i is
    ∙ slice_get-map (λ (q : SymId × NodeId). (symbol_at t q.0, tree t q.1)) ps i
    ∙ ap (option_map (λ (q : SymId × NodeId). (symbol_at t q.0, tree t q.1))) at

-- as many as are live stand in the list of uses
pub live-length : (t : Formulas) (a : Live) → length (live (levels_at t a)) ≡ length a.uses
live-length t a = ap length (live-cut (named_uses t a.uses) a.starts) ∙ length-map {B = Symbol × Term} a.uses (λ u. (symbol_at t u.symbol, tree t u.node))

abbrev no_formulas : Formulas
no_formulas = record { symbols = []; sorts = []; trees = []; spare = 0 }

pub live-count : (a : Live) (n : ℕ) → ((t : Formulas) → n ≡ length (live (levels_at t a))) → n ≡ length a.uses
live-count a n is = is no_formulas ∙ live-length no_formulas a

-- those before the last ones
pub earlier-count : (t : Formulas) (a : Live) (n : ℕ) (earlier : Named) (ps : List (SymId × NodeId)) → ((t : Formulas) → n ≡ length (live (levels_at t a))) → live (levels_at t a) ≡ earlier ++ named_at t ps → length earlier + length ps ≡ n
earlier-count t a n earlier ps count is =
    let all : n ≡ length (earlier ++ named_at t ps) = count t ∙ ap length is in
    let two = length-append earlier (named_at t ps) in
    let last = length-map {B = Symbol × Term} ps (λ (q : SymId × NodeId). (symbol_at t q.0, tree t q.1)) in
    omega (arith, all, two, last)

-- ---- none yet, and all

pub keeps-none : (t : Formulas) (ns : Named) (es : Uses) → Keeps t ns [] es es
keeps-none t ns es = record { operands = refl; nodes = λ are. are; these = All-nil (HasUse t (Some es)); others = λ p has. has }

pub keeps-all : (t : Formulas) (ns : Named) (ps : List (SymId × NodeId)) (i : ℕ) (old new : Uses) → length ps ≤ i → Keeps t ns (take i ps) old new → Keeps t ns ps old new
keeps-all t ns ps i old new past keeps = subst (λ qs. Keeps t ns qs old new) (take_all i ps past) keeps

-- ---- one more

abbrev AreNodesOf : Formulas → SymId × Use → Type 0
AreNodesOf t e = AreNodes t e.1.operands.items

module _ (ps : List (SymId × NodeId)) (old es new : Uses) (i : ℕ) (p : SymId × NodeId) (u : Use) (at : slice_get ps i ≡ Some p) (apart : AreApart (keys_of old ++ map (λ q. q.0) ps))
    (keys : keys_of es ≡ keys_of old ++ map (λ q. q.0) (take i ps)) (entries : new ≡ insert_entry symbols.eq es p.0 u) where
  in_two : keys_of old ++ map (λ q. q.0) ps ≡ keys_of es ++ p.0 ∷ map (λ q. q.0) (drop (i + 1) ps)
  in_two =
      ap (λ qs. keys_of old ++ map (λ (q : SymId × NodeId). q.0) qs) (sym (take-append-drop i ps) ∙ ap (λ qs. take i ps ++ qs) (first_left ps i p at))
      ∙ ap (λ ks. keys_of old ++ ks) (map-append (λ (q : SymId × NodeId). q.0) (take i ps) (p ∷ drop (i + 1) ps))
      ∙ sym (append_assoc (keys_of old) (map (λ q. q.0) (take i ps)) (p.0 ∷ map (λ q. q.0) (drop (i + 1) ps)))
      ∙ ap (λ ks. ks ++ p.0 ∷ map (λ (q : SymId × NodeId). q.0) (drop (i + 1) ps)) (sym keys)

  is_new : IsNew p.0 (keys_of es)
  is_new = new-among (keys_of es) p.0 (map (λ q. q.0) (drop (i + 1) ps)) (subst AreApart in_two apart)

  pushed : new ≡ es ++ (p.0, u) ∷ []
  pushed = entries ∙ insert-new es p.0 u is_new

  more : take (i + 1) ps ≡ take i ps ++ p ∷ []
  more = taken_more ps i p at

  pub next-keys : keys_of new ≡ keys_of old ++ map (λ q. q.0) (take (i + 1) ps)
  next-keys =
      ap keys_of pushed ∙ map-append (λ (e : SymId × Use). e.0) es ((p.0, u) ∷ []) ∙ ap (λ ks. ks ++ p.0 ∷ []) keys
      ∙ append_assoc (keys_of old) (map (λ q. q.0) (take i ps)) (p.0 ∷ [])
      ∙ ap (λ ks. keys_of old ++ ks) (sym (map-append (λ (q : SymId × NodeId). q.0) (take i ps) (p ∷ [])))
      ∙ ap (λ qs. keys_of old ++ map (λ (q : SymId × NodeId). q.0) qs) (sym more)

  module _ (t : Formulas) (ns : Named) (keeps : Keeps t ns (take i ps) old es) (function : IsSymbol t u.function) (nodes : AreNodes t u.operands.items)
      (application : IsApplicationOf ns (symbol_at t u.function) (trees_at t u.operands.items) (tree t p.1)) where
    here : IsUse t p.1 u
    here = record { function = function; some = application.some; applied = application.applied; nodes = nodes; sorts = application.sorts }

    has_here : HasUse t (Some new) p
    has_here =
        subst (λ (ds : Uses). HasUse t (Some ds) p) (sym pushed)
        (subst (λ o. IfSome o (IsUse t p.1) × IsSome o) (sym (use-last es p.0 u is_new)) (here, refl))

    stays : (q : SymId × NodeId) → HasUse t (Some es) q → HasUse t (Some new) q
    stays q has = subst (λ (ds : Uses). HasUse t (Some ds) q) (sym pushed) (use-stays t es ((p.0, u) ∷ []) q has)

    operands_more : operands_kept t [] new ≡ operands_with (operands_kept t [] old) ns (named_at t (take (i + 1) ps))
    operands_more =
        ap (operands_kept t []) pushed ∙ kept-push t [] es (p.0, u)
        ∙ (λ j. (symbol_at t p.0, application.replaced j) ∷ keeps.operands j)
        ∙ sym (with-push (operands_kept t [] old) ns (named_at t (take i ps)) (symbol_at t p.0, tree t p.1))
        ∙ ap (operands_with (operands_kept t [] old) ns) (sym (map-append (λ (q : SymId × NodeId). (symbol_at t q.0, tree t q.1)) (take i ps) (p ∷ [])))
        ∙ ap (λ qs. operands_with (operands_kept t [] old) ns (named_at t qs)) (sym more)

    pub next-keeps : Keeps t ns (take (i + 1) ps) old new
    next-keeps = record {
      operands = operands_more;
      nodes = λ are. subst (All (AreNodesOf t)) (sym pushed) (All-push (AreNodesOf t) es (p.0, u) (keeps.nodes are) nodes);
      these =
          subst (All (HasUse t (Some new))) (sym more)
          (All-push (HasUse t (Some new)) (take i ps) p (All-weaker (HasUse t (Some es)) (HasUse t (Some new)) stays (take i ps) keeps.these) has_here);
      others = λ q has. stays q (keeps.others q has);
    }
