-- Bits are kept and found by the numbers of nodes.
use Rattle.std.proofs.Common.{◌≡◌, ◌==◌, Bool, true, false, cond, if◌then◌else◌, List, [], ◌∷◌, map, Option, Some, None, is_some, IsSome, Bor, refl, ap, sym, subst, ◌∙◌}
use Rattle.std.specs.Map.{lookup}
use Rattle.std.specs.Option.{option_map, option_copied}
use Rattle.std.proofs.lemmas.Bool.Decides.{Decides-eqb}
use Rattle.smt_terms.specs.declared.ids.NodeId.{NodeId}
use Rattle.smt_terms.specs.contracts.ids.NodeIdPartialEq.TheImpl.{ghosts}
use Rattle.bit_blast.specs.KeptBits.{Lists, list_of, Sets}

module _ {V : Type 0} (items : V → List NodeId) where
  -- what a contract sees of a map of the kit
  abbrev pub lists : List (NodeId × V) → Lists
  lists es = map (λ e. (e.0, items e.1)) es

  pub list_of-lookup : (es : List (NodeId × V)) (k : NodeId) → list_of (lists es) k ≡ option_map items (lookup (ghosts.eq k) es)
  list_of-lookup [] k = refl
  list_of-lookup (e ∷ es) k = by (list_of-lookup es k) (k.0 == e.0.0)
    where
      by : list_of (lists es) k ≡ option_map items (lookup (ghosts.eq k) es) → (b : Bool)
          → (if b then Some (items e.1) else list_of (lists es) k) ≡ option_map items (cond {A = Option V} b (Some e.1) (lookup (ghosts.eq k) es))
      by rest true = refl
      by rest false = rest

  pub is_some-list_of : (es : List (NodeId × V)) (k : NodeId) → is_some (list_of (lists es) k) ≡ is_some (lookup (ghosts.eq k) es)
  is_some-list_of es k = ap is_some (list_of-lookup es k) ∙ by (lookup (ghosts.eq k) es)
    where
      by : (o : Option V) → is_some (option_map items o) ≡ is_some o
      by (Some v) = refl
      by None = refl

  -- what a look-up in the map of the kit finds, where a node has bits
  pub is_found : (es : List (NodeId × V)) (k : NodeId) (o : Option (Bor V)) → option_copied o ≡ lookup (ghosts.eq k) es → IsSome (list_of (lists es) k) → IsSome o
  is_found es k (Some b) e h = refl
  is_found es k None e h =
      let none : list_of (lists es) k ≡ None = list_of-lookup es k ∙ ap (option_map items) (sym e) in
      subst IsSome none h

  pub list_of_found : (es : List (NodeId × V)) (k : NodeId) (b : Bor V) → option_copied (Some b) ≡ lookup (ghosts.eq k) es → list_of (lists es) k ≡ Some (items b.now)
  list_of_found es k b e = list_of-lookup es k ∙ ap (option_map items) (sym e)

  -- after a put in it
  pub sets_from : (old new : List (NodeId × V)) (k : NodeId) (v : V)
      → ((q : NodeId) → lookup (ghosts.eq q) new ≡ cond {A = Option V} (ghosts.eq k q) (Some v) (lookup (ghosts.eq q) old)) → Sets (lists old) (lists new) k (items v)
  sets_from old new k v told = record {
    here = λ j same.
        list_of-lookup new j ∙ ap (option_map items) (told j)
        ∙ ap (λ b. option_map items (cond {A = Option V} b (Some v) (lookup (ghosts.eq j) old))) ((Decides-eqb k.0 j.0).1 (sym same));
    others = λ j apart. list_of-lookup new j ∙ ap (option_map items) (told j) ∙ by j apart (ghosts.eq k j) refl;
  }
    where
      by : (j : NodeId) → (j.0 ≡ k.0 → ⊥) → (b : Bool) → ghosts.eq k j ≡ b → option_map items (cond {A = Option V} (ghosts.eq k j) (Some v) (lookup (ghosts.eq j) old)) ≡ list_of (lists old) j
      by j apart true e = absurd (apart (sym ((Decides-eqb k.0 j.0).0 e)))
      by j apart false e = ap (λ b. option_map items (cond {A = Option V} b (Some v) (lookup (ghosts.eq j) old))) e ∙ sym (list_of-lookup old j)
