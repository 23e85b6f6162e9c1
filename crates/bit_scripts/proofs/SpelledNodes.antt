-- The commands that are made, over the nodes of a table: one after the other, and as commands with terms.
use Rattle.std.proofs.Common.{◌≡◌, ◌∙◌, sym, ap, refl, ℕ, suc, ◌+◌, List, [], ◌∷◌, ◌++◌, map, take, length, slice_get, Some, All, append_assoc, arith}
use Rattle.std.proofs.lemmas.List.{map-append, take_more, length-take}
use Rattle.std.proofs.lemmas.List.Elements.{All-nil, All-cons, All-head, All-tail, All-append, All-push, All-map, All-weaker}
use Rattle.std.proofs.lemmas.Option.{slice_get_within, get_or_from_slice_get}
use Rattle.smt_terms.specs.declared.ids.NodeId.{NodeId}
use Rattle.smt_terms.specs.declared.ids.SymId.{SymId}
use Rattle.smt_terms.specs.Fresh.{Supply}
use Rattle.smt_terms.specs.Groups.{Group}
use Rattle.smt_terms.specs.Sorts.{Symbol}
use Rattle.smt_terms.specs.Term.{Term}
use Rattle.term_table.specs.Formulas.{Formulas, tree, symbol_at, trees_at, IsNode, IsSymbol}
use Rattle.term_subst.specs.declared.maps.Group.{Group as NodeGroup}
use Rattle.term_groups.specs.Seen.{named_at, IsGroup}
use Rattle.script_read.specs.declared.scripts.Command.{Command}
use Rattle.script_read.specs.declared.scripts.Command.TheVariants.{Declare, Assert, Check}
use Rattle.script_read.specs.CommandLists.{command_of, commands_of, IsCommandOf, AreCommandsOf}
use Rattle.script_read.specs.Commands.{Command as CommandOf, declare, assert, check}
use Rattle.models.specs.LiveRoots.{flags}
use Rattle.bit_scripts.specs.Scripts.{new_bits, asserting, root_group, blasted_script}
use Rattle.bit_scripts.specs.Spelled.{declarations, assertions, group_commands}

-- ---- one after the other

taken_more : {A : Type 0} (xs : List A) (i : ℕ) (x : A) → slice_get xs i ≡ Some x → take (i + 1) xs ≡ take i xs ++ x ∷ []
taken_more xs i x e = take_more xs i x (slice_get_within xs i x e) ∙ ap (λ y. take i xs ++ y ∷ []) (get_or_from_slice_get xs i x x e)

pub declared_more : (cs : List Command) (ps : List (SymId × NodeId)) (i : ℕ) (p : SymId × NodeId) → slice_get ps i ≡ Some p
    → (cs ++ declarations (take i ps)) ++ Declare p.0 ∷ [] ≡ cs ++ declarations (take (i + 1) ps)
declared_more cs ps i p e =
    append_assoc cs (declarations (take i ps)) (Declare p.0 ∷ [])
    ∙ ap (λ ds. cs ++ ds) (sym (map-append (λ q. Declare q.0) (take i ps) (p ∷ [])) ∙ ap declarations (sym (taken_more ps i p e)))

one_asserted : (n : ℕ) (ks : List NodeId) (k : NodeId) → assertions n (ks ++ k ∷ []) ≡ assertions n ks ++ Assert k (n + length ks) ∷ []
one_asserted n [] k = let same : n ≡ n + 0 = omega arith in ap (λ i. Assert k i ∷ []) same
one_asserted n (j ∷ ks) k =
    let same : suc n + length ks ≡ n + suc (length ks) = omega arith in
    ap (λ cs. Assert j n ∷ cs) (one_asserted (suc n) ks k ∙ ap (λ i. assertions (suc n) ks ++ Assert k i ∷ []) same)

pub asserted_more : (cs : List Command) (ks : List NodeId) (i : ℕ) (k : NodeId) → slice_get ks i ≡ Some k
    → (cs ++ assertions 1 (take i ks)) ++ Assert k (i + 1) ∷ [] ≡ cs ++ assertions 1 (take (i + 1) ks)
asserted_more cs ks i k e =
    let within = slice_get_within ks i k e in
    let count : i + 1 ≡ 1 + length (take i ks) = omega (arith, within, length-take i ks) in
    append_assoc cs (assertions 1 (take i ks)) (Assert k (i + 1) ∷ [])
    ∙ ap (λ j. cs ++ (assertions 1 (take i ks) ++ Assert k j ∷ [])) count
    ∙ ap (λ ds. cs ++ ds) (sym (one_asserted 1 (take i ks) k) ∙ ap (assertions 1) (sym (taken_more ks i k e)))

-- ---- declarations of truth values

abbrev pub declares : List Symbol → List (CommandOf Term)
declares fs = map declare fs

-- ---- as commands with terms

module _ (t : Formulas) where
  declared_so : (ps : List (SymId × NodeId)) → commands_of t (declarations ps) ≡ map (λ n. declare n.0) (named_at t ps)
  declared_so [] = refl
  declared_so (p ∷ ps) = ap (λ cs. declare (symbol_at t p.0) ∷ cs) (declared_so ps)

  asserted_so : (n : ℕ) (ks : List NodeId) → commands_of t (assertions n ks) ≡ asserting n (trees_at t ks)
  asserted_so n [] = refl
  asserted_so n (k ∷ ks) = ap (λ cs. assert n (tree t k) ∷ cs) (asserted_so (suc n) ks)

  asserted_within : (n : ℕ) (ks : List NodeId) → All (IsNode t) ks → AreCommandsOf t (assertions n ks)
  asserted_within n [] nodes = All-nil (IsCommandOf t)
  asserted_within n (k ∷ ks) nodes =
      All-cons (IsCommandOf t) (Assert k n) (assertions (suc n) ks) (All-head (IsNode t) k ks nodes) (asserted_within (suc n) ks (All-tail (IsNode t) k ks nodes))

  module _ (n : NodeGroup) (g : Group) (is : IsGroup t n g) where
    pub spelled_so : commands_of t (group_commands n) ≡ map (λ n. declare n.0) g.symbols ++ asserting 1 g.asserts ++ check ∷ []
    spelled_so =
        map-append (command_of t) (declarations n.symbols ++ assertions 1 n.asserts) (Check ∷ [])
        ∙ ap (λ cs. cs ++ check ∷ []) (map-append (command_of t) (declarations n.symbols) (assertions 1 n.asserts))
        ∙ (λ j. ((declared_so n.symbols ∙ ap (λ ps. map (λ p. declare p.0) ps) is.symbols) j ++ (asserted_so 1 n.asserts ∙ ap (asserting 1) is.asserts) j) ++ check ∷ [])

    pub spelled_within : AreCommandsOf t (group_commands n)
    spelled_within =
        All-push (IsCommandOf t) (declarations n.symbols ++ assertions 1 n.asserts) Check
        (All-append (IsCommandOf t) (declarations n.symbols) (assertions 1 n.asserts)
        (All-map (IsCommandOf t) (λ p. Declare p.0) n.symbols (All-weaker (λ p. IsSymbol t p.0 × IsNode t p.1) (λ p. IsSymbol t p.0) (λ p both. both.0) n.symbols is.pairs))
        (asserted_within 1 n.asserts is.nodes))
        tt

-- the whole script
pub spelled_behind : (cs : List (CommandOf Term)) (k : ℕ) (s : Supply)
    → declares (flags cs k) ++ (map (λ n. declare n.0) (new_bits cs k s) ++ asserting 1 (root_group cs k s).group.asserts ++ check ∷ []) ≡ blasted_script cs k s
spelled_behind cs k s =
    sym (append_assoc (declares (flags cs k)) (map (λ n. declare n.0) (new_bits cs k s) ++ asserting 1 (root_group cs k s).group.asserts) (check ∷ []))
    ∙ ap (λ ds. ds ++ check ∷ []) (sym (append_assoc (declares (flags cs k)) (map (λ n. declare n.0) (new_bits cs k s)) (asserting 1 (root_group cs k s).group.asserts)))
