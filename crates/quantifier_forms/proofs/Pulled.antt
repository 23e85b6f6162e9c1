-- Quantifiers in front, over fresh names: from terms to nodes.
use Rattle.std.proofs.Common.{◌≡◌, ℕ, zero, suc, ◌+◌, ◌<◌, ◌≤◌, true, List, [], ◌∷◌, ◌++◌, length, map, get_or, drop, Some, refl, ap, sym, ◌∙◌, subst as carry, arith}
use Rattle.std.proofs.Math.ListN.{drop_of_length-le}
use Rattle.std.proofs.Math.Seq.{drop-cons}
use Rattle.std.proofs.lemmas.List.{map-append, get_or-map}
use Rattle.std.proofs.lemmas.List.Elements.{All-nil, All-push, All-head, All-tail}
use Rattle.smt_terms.specs.declared.ids.NodeId.{NodeId}
use Rattle.smt_terms.specs.Equal.{name_eq}
use Rattle.smt_terms.specs.Free.{name_among}
use Rattle.smt_terms.specs.Fresh.{Supply, fresh_for, after_draw}
use Rattle.smt_terms.specs.Rank.{sort_of, are_bindable}
use Rattle.smt_terms.specs.Sorts.{Name, bool, Variable}
use Rattle.smt_terms.specs.Subst.{Map, image, Renamed, bound_first, bind, renaming, subst}
use Rattle.smt_terms.specs.SubstLaws.{GivesNone, names_within}
use Rattle.smt_terms.specs.Term.{universal, existential, Term, apply, quantified, constant_of, variable}
use Rattle.smt_terms.proofs.Equal.{Decides-name_eq}
use Rattle.smt_terms.proofs.Tests.{left_true, right_true}
use Rattle.term_table.specs.Formulas.{Formulas, tree, tree_in, trees_at, variable_of, IsNode}
use Rattle.term_walk.specs.Walking.{GrowsTo}
use Rattle.term_subst.specs.Maps.{Pairs, map_at}
use Rattle.term_subst.specs.Renaming.{Binds}
use Rattle.term_subst.specs.State.{Gains, SameImages}
use Rattle.term_subst.specs.Substituting.{IsMap, IsLater, NeverGivesGained}
use Rattle.term_subst.proofs.Alike.{subst-by-images}
use Rattle.term_subst.proofs.Gaining.{never-later}
use Rattle.term_subst.proofs.Renamed.{bound_all}
use Rattle.normal_forms.specs.Prenex.{whole}
use Rattle.normal_forms.specs.Shape.{is_universally_quantified, quantifier_seen, variables_of, body_in}
use Rattle.term_walk.specs.Binders.{is_quantified}
use Rattle.normal_forms.proofs.Drawn.{draws}
use Rattle.normal_forms.proofs.Inside.{in-right}
use Rattle.quantifier_forms.specs.declared.pulling.Bound.{Bound}
use Rattle.quantifier_forms.specs.Pulling.{all_fresh, fresh_body, AreFresh, Front, front_at, fronts_at, IsFront, AreFronts}
use Rattle.quantifier_forms.specs.Reaching.{parts_of, IsBinder}
use Rattle.quantifier_forms.specs.Variables.{AreVariables}
use Rattle.quantifier_forms.proofs.Variables.{variables-stay, variables-number, variable-at}
use Rattle.quantifier_forms.proofs.Sweeps.{tree-stays}

-- ---- the parts of a quantified term

pub parts-variables : (u : Term) → (parts_of u).variables ≡ variables_of u
parts-variables (quantified q xs body) = refl
parts-variables (apply h ts) = refl

pub parts-body : (u : Term) → (parts_of u).body ≡ body_in u
parts-body (quantified q xs body) = refl
parts-body (apply h ts) = refl

pub parts-quantifier : (u : Term) → is_quantified u ≡ true → quantifier_seen (is_universally_quantified u) ≡ (parts_of u).quantifier
parts-quantifier (quantified universal xs body) is = refl
parts-quantifier (quantified existential xs body) is = refl
parts-quantifier (apply h ts) is = absurd cc

pub parts-whole : (u : Term) → is_quantified u ≡ true → whole (parts_of u) ≡ u
parts-whole (quantified q xs body) is = refl
parts-whole (apply h ts) is = absurd cc

-- ---- one fresh variable after another

bound_all-push : (ys : List Variable) (y : Variable) (r : Renamed) → bound_all (ys ++ y ∷ []) r ≡ bound_all ys (bound_first y r)
bound_all-push [] y r = refl
bound_all-push (x ∷ ys) y r = ap (bound_first x) (bound_all-push ys y r)

bound_all-parts : (ys : List Variable) (m : Map) (s : Supply) → bound_all ys (record { variables = []; map = m; names = s }) ≡ record { variables = ys; map = m; names = s }
bound_all-parts [] m s = refl
bound_all-parts (y ∷ ys) m s = ap (bound_first y) (bound_all-parts ys m s)

abbrev names : List Variable → List Name
names xs = map (λ x. x.name) xs

name-at : (xs : List Variable) (n : ℕ) (d : Variable) → n < length xs → name_among (names xs) (get_or xs n d).name ≡ true
name-at [] n d lt = absurd (omega arith)
name-at (x ∷ xs) zero d lt = left_true (name_eq x.name x.name) (name_among (names xs) x.name) ((Decides-name_eq x.name x.name).1 refl)
name-at (x ∷ xs) (suc n) d lt = right_true (name_eq x.name (get_or xs n d).name) (name_among (names xs) (get_or xs n d).name) (name-at xs n d (omega arith))

-- the first n variables have fresh names
pub record FreshSome (t : Formulas) (xs : List Variable) (n : ℕ) (ys : List NodeId) (ps : Pairs) (s left : Supply) : Type 0 where
  pub so_far : Map
  pub front : List Variable
  pub variables : AreVariables t ys front
  pub pairs : IsMap t ps
  pub images : SameImages t ps so_far
  pub whole : all_fresh xs s ≡ bound_all front (renaming (names xs) (drop n xs) so_far left)

pub fresh-none : (t : Formulas) (xs : List Variable) (ys : List NodeId) (ps : Pairs) (s : Supply) → ys ≡ [] → ps ≡ [] → FreshSome t xs 0 ys ps s s
fresh-none t xs ys ps s empty no_pairs = carry (λ (zs : List NodeId). FreshSome t xs 0 zs ps s s) (sym empty) (carry (λ (qs : Pairs). FreshSome t xs 0 [] qs s s) (sym no_pairs) (record {
  so_far = [];
  front = [];
  variables = record { nodes = All-nil (IsNode t); terms = refl };
  pairs = λ i d lt. absurd (omega arith);
  images = λ f. refl;
  whole = refl;
}))

pub fresh-all : (t : Formulas) (xs : List Variable) (n : ℕ) (ys : List NodeId) (ps : Pairs) (s left : Supply) → length xs ≤ n → FreshSome t xs n ys ps s left → AreFresh t xs ys ps s left
fresh-all t xs n ys ps s left le some =
    let all : all_fresh xs s ≡ record { variables = some.front; map = some.so_far; names = left } =
    some.whole ∙ ap (λ zs. bound_all some.front (renaming (names xs) zs some.so_far left)) (drop_of_length-le xs le) ∙ bound_all-parts some.front some.so_far left in
    record {
      variables = carry (λ (zs : List Variable). AreVariables t ys zs) (sym (ap (λ (r : Renamed). r.variables) all)) some.variables;
      map = some.pairs;
      images = λ f. some.images f ∙ ap (λ (r : Renamed). image r.map f) (sym all);
      names = sym (ap (λ (r : Renamed). r.names) all);
    }

module _ (mid new : Formulas) (xs : List Variable) (ks ys more : List NodeId) (n : ℕ) (d k : NodeId) (before after : Pairs) (s left rest : Supply)
    (grows : GrowsTo mid new) (are : AreVariables mid ks xs) (lt : n < length ks) (some : FreshSome mid xs n ys before s left)
    (binds : Binds mid new true (variable_of (tree mid (get_or ks n d))) k before after left rest) (pushed : more ≡ ys ++ k ∷ []) where
  x : Variable
  x = get_or xs n (variable_of (tree mid k))

  within : n < length xs
  within = let count = variables-number mid ks xs are in omega (arith, count)

  same : variable_of (tree mid (get_or ks n d)) ≡ get_or xs n (variable_of (tree mid k))
  same = ap variable_of (variable-at mid ks xs are n d (variable_of (tree mid k)) lt)

  bound : Binds mid new true (get_or xs n (variable_of (tree mid k))) k before after left rest
  bound = carry (λ (z : Variable). Binds mid new true z k before after left rest) same binds

  pub fresh-more : FreshSome new xs (n + 1) more after s rest
  fresh-more =
      let z : Variable = get_or xs n (variable_of (tree mid k)) in
      let y : Variable = fresh_for z left in
      let next : Map = (constant_of z, variable y) ∷ some.so_far in
      let place : suc n ≡ n + 1 = omega arith in
      let made : tree new k ≡ variable y = bound.term in
      let stay : AreVariables new ys some.front = variables-stay mid new ys some.front grows some.variables in
      record {
        so_far = next;
        front = some.front ++ y ∷ [];
        variables = carry (λ (zs : List NodeId). AreVariables new zs (some.front ++ y ∷ [])) (sym pushed) (record {
          nodes = All-push (IsNode new) ys k stay.nodes bound.node;
          terms = map-append (tree_in new.trees) ys (k ∷ []) ∙ (λ i. stay.terms i ++ made i ∷ []) ∙ sym (map-append variable some.front (y ∷ []));
        });
        pairs = bound.map;
        images = bound.images some.so_far some.images;
        whole =
            some.whole
            ∙ ap (λ zs. bound_all some.front (renaming (names xs) zs some.so_far left)) (drop-cons xs n (variable_of (tree mid k)) within)
            ∙ ap (λ b. bound_all some.front (bind b z some.so_far left (λ m t. renaming (names xs) (drop (suc n) xs) m t))) (name-at xs n (variable_of (tree mid k)) within)
            ∙ sym (bound_all-push some.front y (renaming (names xs) (drop (suc n) xs) next (after_draw left)))
            ∙ (λ i. bound_all (some.front ++ y ∷ []) (renaming (names xs) (drop (place i) xs) next (sym bound.names i)));
      }

-- a node of a variable
pub variable-read : (t : Formulas) (k : NodeId) (x : Variable) → tree t k ≡ variable x → tree t k ≡ variable (variable_of (tree t k))
variable-read t k x is = is ∙ ap (λ u. variable (variable_of u)) (sym is)

-- ---- the body

pub body-spared : (t0 t1 : Formulas) (id body : NodeId) (s0 s1 : Supply) → GrowsTo t0 t1 → IsNode t0 body → is_quantified (tree t0 id) ≡ true → tree t0 body ≡ body_in (tree t0 id) → IsLater s0 s1 → GivesNone s0 (names_within (tree t0 id)) → GivesNone s1 (names_within (tree t1 body))
body-spared t0 t1 id body s0 s1 grows node is term later given n among =
    never-later s0 s1 n later (given n (inner (tree t0 id) is (ap (λ u. name_among (names_within u) n) (sym term ∙ sym (tree-stays t0 t1 body grows node)) ∙ among)))
  where
    inner : (u : Term) → is_quantified u ≡ true → name_among (names_within (body_in u)) n ≡ true → name_among (names_within u) n ≡ true
    inner (quantified q xs b) quant there = in-right (names xs) (names_within b) n there
    inner (apply h ts) quant there = absurd cc

module _ (t0 t1 : Formulas) (id body : NodeId) (ys : List NodeId) (ps : Pairs) (s0 s1 : Supply) (grows : GrowsTo t0 t1) (node : IsNode t0 body) (term : tree t0 body ≡ body_in (tree t0 id)) (fresh : AreFresh t1 (variables_of (tree t0 id)) ys ps s0 s1) where
  pub body-fresh : subst (map_at t1 ps) (tree t1 body) s1 ≡ fresh_body (parts_of (tree t0 id)) s0
  body-fresh =
      let f = parts_of (tree t0 id) in
      let xs = variables_of (tree t0 id) in
      subst-by-images (map_at t1 ps) (all_fresh xs s0).map fresh.images (tree t1 body) s1
      ∙ (λ i. subst (all_fresh xs s0).map ((tree-stays t0 t1 body grows node ∙ term ∙ sym (parts-body (tree t0 id))) i) (fresh.names i))
      ∙ ap (λ zs. subst (all_fresh zs s0).map f.body (all_fresh zs s0).names) (sym (parts-variables (tree t0 id)))

-- what a substitution gains
pub substituted-gains : (old new : Formulas) (s left : Supply) → GrowsTo old new → new.sorts ≡ old.sorts → IsLater s left → NeverGivesGained left old.symbols new.symbols → Gains old new s left
substituted-gains old new s left grows sorts later drawn = record { grows = grows; sorts = sorts; later = later; drawn = drawn }

-- ---- the quantifier

read-back : (xs : List Variable) → map variable_of (map variable xs) ≡ xs
read-back [] = refl
read-back (x ∷ xs) = ap (λ ys. x ∷ ys) (read-back xs)

pub variables-read : (t : Formulas) (ys : List NodeId) (xs : List Variable) → AreVariables t ys xs → map variable_of (trees_at t ys) ≡ xs
variables-read t ys xs are = ap (map variable_of) are.terms ∙ read-back xs

pub fresh-bindable : (t : Formulas) (id : NodeId) (s : Supply) → IsBinder t id → GivesNone s (names_within (tree t id)) → are_bindable (all_fresh (variables_of (tree t id)) s).variables ≡ true
fresh-bindable t id s is given =
    let f = parts_of (tree t id) in
    let same = parts-whole (tree t id) is.quantified in
    let sort : sort_of (whole f) ≡ Some bool = ap sort_of same ∙ is.formula.sort in
    let none_given : GivesNone s (names_within (whole f)) = carry (λ u. GivesNone s (names_within u)) (sym same) given in
    ap (λ xs. are_bindable (all_fresh xs s).variables) (sym (parts-variables (tree t id))) ∙ (draws f s bool sort none_given).bindable

front-stays : (old new : Formulas) (b : Bound) → GrowsTo old new → IsFront old b → front_at new b ≡ front_at old b
front-stays old new b grows is =
    let same : map variable_of (trees_at new b.variables.items) ≡ map variable_of (trees_at old b.variables.items) =
    ap (map variable_of) ((variables-stay old new b.variables.items (front_at old b).variables grows is.are).terms ∙ sym is.are.terms) in
    λ i. record { quantifier = quantifier_seen b.universal; variables = same i }

is_front-stays : (old new : Formulas) (b : Bound) → GrowsTo old new → IsFront old b → IsFront new b
is_front-stays old new b grows is =
    let same : (front_at old b).variables ≡ (front_at new b).variables = ap (λ (f : Front). f.variables) (sym (front-stays old new b grows is)) in
    record {
      are = carry (λ (xs : List Variable). AreVariables new b.variables.items xs) same (variables-stay old new b.variables.items (front_at old b).variables grows is.are);
      bindable = ap are_bindable (sym same) ∙ is.bindable;
    }

pub fronts-stay : (old new : Formulas) (bs : List Bound) → GrowsTo old new → AreFronts old bs → fronts_at new bs ≡ fronts_at old bs
fronts-stay old new [] grows are = refl
fronts-stay old new (b ∷ bs) grows are =
    let first = front-stays old new b grows (All-head (IsFront old) b bs are) in
    let rest = fronts-stay old new bs grows (All-tail (IsFront old) b bs are) in
    λ i. first i ∷ rest i

pub are_fronts-stay : (old new : Formulas) (bs : List Bound) → GrowsTo old new → AreFronts old bs → AreFronts new bs
are_fronts-stay old new bs grows are i d lt = is_front-stays old new (get_or bs i d) grows (are i d lt)

module _ (t0 t1 t2 : Formulas) (id : NodeId) (bs more : List Bound) (b : Bound) (ps : Pairs) (s0 s1 : Supply) (is : IsBinder t0 id) (given : GivesNone s0 (names_within (tree t0 id))) (first : GrowsTo t0 t1) (then : GrowsTo t1 t2) (all : GrowsTo t0 t2)
    (every : b.universal ≡ is_universally_quantified (tree t0 id)) (fresh : AreFresh t1 (variables_of (tree t0 id)) b.variables.items ps s0 s1) (fronts : AreFronts t0 bs) (pushed : more ≡ bs ++ b ∷ []) where
  now : AreVariables t2 b.variables.items (all_fresh (variables_of (tree t0 id)) s0).variables
  now = variables-stay t1 t2 b.variables.items (all_fresh (variables_of (tree t0 id)) s0).variables then fresh.variables

  read : map variable_of (trees_at t2 b.variables.items) ≡ (all_fresh (variables_of (tree t0 id)) s0).variables
  read = variables-read t2 b.variables.items (all_fresh (variables_of (tree t0 id)) s0).variables now

  is-front : IsFront t2 b
  is-front = record {
    are = carry (λ (xs : List Variable). AreVariables t2 b.variables.items xs) (sym read) now;
    bindable = ap are_bindable read ∙ fresh-bindable t0 id s0 is given;
  }

  pub fronts-pushed : AreFronts t2 more
  fronts-pushed = carry (AreFronts t2) (sym pushed) (All-push (IsFront t2) bs b (are_fronts-stay t0 t2 bs all fronts) is-front)

  pub front-pushed : fronts_at t2 more ≡ fronts_at t0 bs ++ record { quantifier = (parts_of (tree t0 id)).quantifier; variables = (all_fresh (parts_of (tree t0 id)).variables s0).variables } ∷ []
  front-pushed =
      let u = tree t0 id in
      let q : quantifier_seen b.universal ≡ (parts_of u).quantifier = ap quantifier_seen every ∙ parts-quantifier u is.quantified in
      let xs : map variable_of (trees_at t2 b.variables.items) ≡ (all_fresh (parts_of u).variables s0).variables = read ∙ ap (λ zs. (all_fresh zs s0).variables) (sym (parts-variables u)) in
      ap (fronts_at t2) pushed ∙ map-append (front_at t2) bs (b ∷ [])
      ∙ (λ i. fronts-stay t0 t2 bs all fronts i ++ record { quantifier = q i; variables = xs i } ∷ [])

-- ---- quantifiers that are put around, from the last to the first

pub front-at : (t : Formulas) (bs : List Bound) (i : ℕ) (b : Bound) (d : Front) → i < length bs → b ≡ get_or bs i b → get_or (fronts_at t bs) i d ≡ front_at t b
front-at t bs i b d lt is = get_or-map (front_at t) bs i b d lt ∙ ap (front_at t) (sym is)

pub is-front-at : (t : Formulas) (bs : List Bound) (i : ℕ) (b : Bound) → AreFronts t bs → i < length bs → b ≡ get_or bs i b → IsFront t b
is-front-at t bs i b are lt is = carry (IsFront t) (sym is) (are i b lt)
