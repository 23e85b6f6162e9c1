-- Constants of terms, and of nodes that are live.
use Rattle.std.proofs.Common.{◌≡◌, ◌<◌, ◌==◌, Bool, true, false, not, cond, if◌then◌else◌, List, [], ◌∷◌, ◌++◌, length, All, Option, Some, None, refl, ap, sym, ◌∙◌, subst, arith}
use Rattle.std.specs.Prelude.{is_none, is_some}
use Rattle.std.proofs.lemmas.List.Elements.{All-head, All-tail}
use Rattle.smt_terms.specs.declared.ids.NodeId.{NodeId}
use Rattle.smt_terms.specs.Equal.{term_eq}
use Rattle.smt_terms.specs.Groups.{Named, constant_for}
use Rattle.smt_terms.specs.Sorts.{Symbol}
use Rattle.smt_terms.specs.Term.{symbol, Term, over, constant}
use Rattle.smt_terms.proofs.Equal.{Decides-term_eq}
use Rattle.smt_terms.proofs.Tests.{contrary}
use Rattle.term_table.specs.Formulas.{Formulas, symbol_at, tree, operands, IsNode, IsTable}
use Rattle.quantifier_forms.specs.Rebuilding.{IsLike}
use Rattle.quantifier_forms.proofs.Stands.{same-number, number-same}
use Rattle.ackermann.specs.declared.uses.LiveUse.{LiveUse}
use Rattle.ackermann.specs.LiveUses.{constant_in, named_uses, IsUseIn}
use Rattle.ackermann.specs.Removals.{is_use}

-- ---- constants of terms

pub told-none : {X : Type 0} (o : Option X) (b : Bool) → is_some o ≡ not b → b ≡ is_none o
told-none None true e = refl
told-none None false e = absurd cc
told-none (Some x) true e = absurd cc
told-none (Some x) false e = refl

pub is-none : {X : Type 0} (o : Option X) → is_none o ≡ true → o ≡ None
is-none (Some x) e = absurd cc
is-none None e = refl

pub missing-first : (ns ms : Named) (u : Term) → constant_for ns u ≡ None → constant_for (ns ++ ms) u ≡ constant_for ms u
missing-first [] ms u missing = refl
missing-first (n ∷ ns) ms u missing = by (term_eq n.1 u) missing (missing-first ns ms u)
  where
    by : (b : Bool) → cond b (Some n.0) (constant_for ns u) ≡ None → (constant_for ns u ≡ None → constant_for (ns ++ ms) u ≡ constant_for ms u) → cond b (Some n.0) (constant_for (ns ++ ms) u) ≡ constant_for ms u
    by true e rest = absurd cc
    by false e rest = rest e

pub found-first : (ns ms : Named) (u : Term) (f : Symbol) → constant_for ns u ≡ Some f → constant_for (ns ++ ms) u ≡ Some f
found-first [] ms u f found = absurd cc
found-first (n ∷ ns) ms u f found = by (term_eq n.1 u) found (found-first ns ms u f)
  where
    by : (b : Bool) → cond b (Some n.0) (constant_for ns u) ≡ Some f → (constant_for ns u ≡ Some f → constant_for (ns ++ ms) u ≡ Some f) → cond b (Some n.0) (constant_for (ns ++ ms) u) ≡ Some f
    by true e rest = e
    by false e rest = rest e

-- ---- constants of nodes

pub use-over : (t : Formulas) (u : LiveUse) → IsUseIn t u → is_use (tree t u.node) ≡ true
use-over t u use_in = ap is_use use_in.term ∙ by (operands (tree t u.node)) use_in.some
  where
    by : (us : List Term) → 0 < length us → is_use (over (symbol (symbol_at t u.function)) us) ≡ true
    by [] lt = absurd (omega arith)
    by (v ∷ us) lt = refl

pub record IsFound (t : Formulas) (ns : Named) (k r : NodeId) : Type 0 where
  pub symbol : Symbol
  pub found : constant_for ns (tree t k) ≡ Some symbol
  pub applied : is_use (tree t k) ≡ true
  pub result : IsNode t r
  pub constant_term : tree t r ≡ constant symbol
  pub like : IsLike (tree t k) (tree t r)

module _ (t : Formulas) (table : IsTable t) where
  other-term : (j k : NodeId) → IsNode t j → IsNode t k → (k.0 == j.0) ≡ false → (b : Bool) → term_eq (tree t j) (tree t k) ≡ b → b ≡ false
  other-term j k first second apart false e = refl
  other-term j k first second apart true e =
      let same : j.0 ≡ k.0 = table.one_tree j.0 k.0 first second ((Decides-term_eq (tree t j) (tree t k)).0 e) in
      contrary (k.0 == j.0) (number-same k.0 j.0 (sym same)) apart

  pub found-use : (us : List LiveUse) → All (IsUseIn t) us → (k r : NodeId) → IsNode t k → constant_in us k ≡ Some r → IsFound t (named_uses t us) k r
  found-use [] uses k r node found = absurd cc
  found-use (u ∷ us) uses k r node found = by (k.0 == u.node.0) refl found (found-use us (All-tail (IsUseIn t) u us uses) k r node)
    where
      here : IsUseIn t u
      here = All-head (IsUseIn t) u us uses

      by : (b : Bool) → (k.0 == u.node.0) ≡ b → (if b then Some u.constant else constant_in us k) ≡ Some r → (constant_in us k ≡ Some r → IsFound t (named_uses t us) k r) → IsFound t (named_uses t (u ∷ us)) k r
      by true e f behind =
          let same : u.constant ≡ r = cc in
          let number = same-number k.0 u.node.0 e in
          let term : tree t u.node ≡ tree t k = ap (λ n. tree t (record { 0 = n })) (sym number) in
          record {
            symbol = symbol_at t u.symbol;
            found = ap (λ b. cond b (Some (symbol_at t u.symbol)) (constant_for (named_uses t us) (tree t k))) ((Decides-term_eq (tree t u.node) (tree t k)).1 term);
            applied = ap is_use (sym term) ∙ use-over t u here;
            result = subst (IsNode t) same here.is_constant;
            constant_term = ap (tree t) (sym same) ∙ here.constant_term;
            like = subst (λ (x : NodeId). IsLike (tree t k) (tree t x)) same (subst (λ v. IsLike v (tree t u.constant)) term here.like);
          }
      by false e f behind =
          let rest = behind f in
          record {
            symbol = rest.symbol;
            found = ap (λ b. cond b (Some (symbol_at t u.symbol)) (constant_for (named_uses t us) (tree t k))) (other-term u.node k here.is_node node e (term_eq (tree t u.node) (tree t k)) refl) ∙ rest.found;
            applied = rest.applied;
            result = rest.result;
            constant_term = rest.constant_term;
            like = rest.like;
          }

  pub missing-use : (us : List LiveUse) → All (IsUseIn t) us → (k : NodeId) → IsNode t k → constant_in us k ≡ None → constant_for (named_uses t us) (tree t k) ≡ None
  missing-use [] uses k node none = refl
  missing-use (u ∷ us) uses k node none = by (k.0 == u.node.0) refl none (missing-use us (All-tail (IsUseIn t) u us uses) k node)
    where
      by : (b : Bool) → (k.0 == u.node.0) ≡ b → (if b then Some u.constant else constant_in us k) ≡ None → (constant_in us k ≡ None → constant_for (named_uses t us) (tree t k) ≡ None) → constant_for (named_uses t (u ∷ us)) (tree t k) ≡ None
      by true e f behind = absurd cc
      by false e f behind =
          ap (λ b. cond b (Some (symbol_at t u.symbol)) (constant_for (named_uses t us) (tree t k))) (other-term u.node k (All-head (IsUseIn t) u us uses).is_node node e (term_eq (tree t u.node) (tree t k)) refl)
          ∙ behind f

  pub none-alike : (us : List LiveUse) → All (IsUseIn t) us → (k : NodeId) → IsNode t k → is_none (constant_in us k) ≡ is_none (constant_for (named_uses t us) (tree t k))
  none-alike us uses k node = by (constant_in us k) refl
    where
      by : (o : Option NodeId) → constant_in us k ≡ o → is_none o ≡ is_none (constant_for (named_uses t us) (tree t k))
      by None e = ap is_none (sym (missing-use us uses k node e))
      by (Some r) e = ap is_none (sym (found-use us uses k r node e).found)

  -- a term without a constant is that of a node that isn't live
  pub absent-use : (us : List LiveUse) → All (IsUseIn t) us → (k : NodeId) → IsNode t k → constant_for (named_uses t us) (tree t k) ≡ None → constant_in us k ≡ None
  absent-use us uses k node none = is-none (constant_in us k) (none-alike us uses k node ∙ ap is_none none)
