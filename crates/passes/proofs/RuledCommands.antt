-- Stored rules go from the first command to the last.
use Rattle.std.proofs.Common.{◌≡◌, ◌∙◌, sym, ap, refl, subst, ℕ, zero, suc, ◌+◌, ◌≤◌, false, List, [], ◌∷◌, length, set, slice_get, Some, None, option_map, add-one, arith}
use Rattle.smt_terms.specs.declared.ids.NodeId.{NodeId}
use Rattle.smt_terms.specs.Sorts.{Name}
use Rattle.smt_terms.specs.Term.{Term}
use Rattle.term_table.specs.Formulas.{Formulas, tree}
use Rattle.term_walk.specs.Walking.{GrowsTo}
use Rattle.rule_book.specs.Rewriting.{Rewrites}
use Rattle.script_read.specs.declared.scripts.Command.{Command}
use Rattle.script_read.specs.declared.scripts.Command.TheVariants.{Assert}
use Rattle.script_read.specs.CommandLists.{commands_of, AreCommandsOf}
use Rattle.script_read.specs.Commands.{Command as CommandOf, assert}
use Rattle.passes.specs.Assertion.{assertion_of}
use Rattle.pass_laws.specs.Ruling.{RewritesCommand, RewritesCommands}
use Rattle.pass_laws.proofs.InForm.{is_assertion}
use Rattle.passes.proofs.RewrittenCommands.{IsOther, other_seen, seen, commands_then}

-- the first i commands are rewritten, the others stand as they were
abbrev pub RewrittenTo : List Name → ℕ → List (CommandOf Term) → List (CommandOf Term) → Type 0
RewrittenTo ns zero cs ds = ds ≡ cs
RewrittenTo ns (suc i) [] [] = Unit {0}
RewrittenTo ns (suc i) (c ∷ cs) (d ∷ ds) = RewritesCommand ns c d × RewrittenTo ns i cs ds
RewrittenTo ns (suc i) _ _ = ⊥

module _ (ns : List Name) where
  same : (c d : CommandOf Term) → Some c ≡ Some d → c ≡ d
  same c d e = ap (λ o. elim o [ Some z ↦ z | None ↦ c ]) e

  itself : (c : CommandOf Term) → is_assertion c ≡ false → RewritesCommand ns c c
  itself (assert n t) other = absurd cc
  itself c other = refl

  other_then : (i : ℕ) (cs ds : List (CommandOf Term)) (d : CommandOf Term) → RewrittenTo ns i cs ds → slice_get ds i ≡ Some d → is_assertion d ≡ false → RewrittenTo ns (suc i) cs ds
  other_then zero cs ds d is at other = subst (λ bs. RewrittenTo ns (suc zero) bs ds) is (first ds at)
    where
      first : (bs : List (CommandOf Term)) → slice_get bs zero ≡ Some d → RewrittenTo ns (suc zero) bs bs
      first [] at = absurd cc
      first (b ∷ bs) at = (itself b (ap is_assertion (same b d at) ∙ other), refl)
  other_then (suc i) [] [] d is at other = tt
  other_then (suc i) [] (b ∷ bs) d is at other = absurd is
  other_then (suc i) (c ∷ cs) [] d is at other = absurd is
  other_then (suc i) (c ∷ cs) (b ∷ bs) d is at other = (is.0, other_then i cs bs d is.1 at other)

  assertion_then : (i : ℕ) (cs ds : List (CommandOf Term)) (n : ℕ) (t u : Term) → RewrittenTo ns i cs ds → slice_get ds i ≡ Some (assert n t) → Rewrites ns t u → RewrittenTo ns (suc i) cs (set ds i (assert n u))
  assertion_then zero cs ds n t u is at new = subst (λ bs. RewrittenTo ns (suc zero) bs (set ds zero (assert n u))) is (first ds at)
    where
      first : (bs : List (CommandOf Term)) → slice_get bs zero ≡ Some (assert n t) → RewrittenTo ns (suc zero) bs (set bs zero (assert n u))
      first [] at = absurd cc
      first (b ∷ bs) at = (subst (λ c. RewritesCommand ns c (assert n u)) (sym (same b (assert n t) at)) (u, (refl, new)), refl)
  assertion_then (suc i) [] [] n t u is at new = absurd cc
  assertion_then (suc i) [] (b ∷ bs) n t u is at new = absurd is
  assertion_then (suc i) (c ∷ cs) [] n t u is at new = absurd is
  assertion_then (suc i) (c ∷ cs) (b ∷ bs) n t u is at new = (is.0, assertion_then i cs bs n t u is.1 at new)

  pub all_rewritten : (i : ℕ) (cs ds : List (CommandOf Term)) → length cs ≤ i → RewrittenTo ns i cs ds → RewritesCommands ns cs ds
  all_rewritten zero [] ds past is = subst (λ bs. RewritesCommands ns [] bs) (sym is) tt
  all_rewritten zero (c ∷ cs) ds past is = absurd (omega (arith, past))
  all_rewritten (suc i) [] [] past is = tt
  all_rewritten (suc i) [] (d ∷ ds) past is = absurd is
  all_rewritten (suc i) (c ∷ cs) [] past is = absurd is
  all_rewritten (suc i) (c ∷ cs) (d ∷ ds) past is = (is.0, all_rewritten i cs ds (omega (arith, past)) is.1)

module _ (ns : List Name) (cs : List (CommandOf Term)) (t : Formulas) (ks : List Command) (i : ℕ) (is : RewrittenTo ns i cs (commands_of t ks)) where
  pub other_kept : option_map assertion_of (slice_get ks i) ≡ Some None → RewrittenTo ns (i + 1) cs (commands_of t ks)
  other_kept e =
      let o : IsOther (slice_get (commands_of t ks) i) = other_seen t ks i e in
      subst (λ n. RewrittenTo ns n cs (commands_of t ks)) (sym (add-one i)) (other_then ns i cs (commands_of t ks) o.command is o.is o.other)

  pub assertion_rewritten : (id : NodeId) (n : ℕ) → option_map assertion_of (slice_get ks i) ≡ Some (Some (id, n)) → AreCommandsOf t ks
      → (u : Formulas) (k : NodeId) → GrowsTo t u → Rewrites ns (tree t id) (tree u k) → RewrittenTo ns (i + 1) cs (commands_of u (set ks i (Assert k n)))
  assertion_rewritten id n e numbers u k grows new =
      subst (λ m. RewrittenTo ns m cs (commands_of u (set ks i (Assert k n)))) (sym (add-one i))
      (subst (λ ds. RewrittenTo ns (suc i) cs ds) (sym (commands_then t ks numbers u grows i n k))
      (assertion_then ns i cs (commands_of t ks) n (tree t id) (tree u k) is (seen t ks i id n e) new))
