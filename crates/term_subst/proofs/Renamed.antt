-- Variables that are renamed or not, one after the other.
use Rattle.std.proofs.Common.{◌≡◌, ℕ, zero, suc, ◌+◌, ◌<◌, ◌≤◌, Bool, true, false, cond, ◌||◌, List, [], ◌∷◌, ◌++◌, map, length, get_or, take, drop, Some, refl, ap, sym, subst, ◌∙◌, arith}
use Rattle.std.proofs.Math.ListN.{drop_of_length-le}
use Rattle.std.proofs.Math.Seq.{drop-cons}
use Rattle.std.proofs.lemmas.List.{map-append, take_more, length-map, get_or-map}
use Rattle.std.proofs.lemmas.List.Elements.{All-nil, All-push}
use Rattle.smt_terms.specs.declared.ids.NodeId.{NodeId}
use Rattle.smt_terms.specs.declared.ids.SymId.{SymId}
use Rattle.smt_terms.specs.declared.op.Op.TheVariants.{Sym}
use Rattle.smt_terms.specs.Sorts.{Name, Sort, Variable}
use Rattle.smt_terms.specs.Term.{symbol, none, constant, constant_of, variable}
use Rattle.smt_terms.specs.Equal.{symbol_eq}
use Rattle.smt_terms.specs.Free.{free, name_among, names_of}
use Rattle.smt_terms.specs.Fresh.{Supply, fresh_for, fresh_constant, after_draw}
use Rattle.smt_terms.specs.Rank.{sort_of, width, most_bits}
use Rattle.smt_terms.specs.Subst.{Map, image, names_in, Renamed, bound_first, bind, renaming}
use Rattle.smt_terms.proofs.Cuts.{name_among-append}
use Rattle.smt_terms.proofs.Ranked.{takes-rank, rank-takes}
use Rattle.smt_terms.proofs.Sorted.{applied as is_applied}
use Rattle.smt_terms.proofs.Tests.{left_true, right_true, or_false}
use Rattle.term_table.specs.Formulas.{Formulas, no_tree, IsTable, tree, tree_in, trees_at, symbol_at, variable_of, kind, term_over, IsNode, AreNodes, IsSymbol, Makes}
use Rattle.term_table.proofs.Made.{makes_ranked}
use Rattle.term_walk.specs.Walking.{GrowsTo}
use Rattle.term_subst.specs.Maps.{Pairs, map_at, with_image}
use Rattle.term_subst.specs.Renaming.{variable_after, map_after, names_after, Binds, renamed_under, Renames}
use Rattle.term_subst.specs.State.{SameImages, AreVariables, variables_at}
use Rattle.term_subst.specs.Substituting.{IsPair, IsMap}
use Rattle.term_subst.proofs.Growing.{tree-grows, symbol-grows, is_symbol-grows, map-grows, is_map-grows, nodes-grow, variables-grow, are_variables-grow}
use Rattle.term_subst.proofs.Images.{with_image-All}
use Rattle.term_subst.proofs.MapsAt.{constant-sort, sort-narrow, image-with}
use Rattle.term_subst.proofs.NodesMade.{symbol-other}

-- ---- names that are free in an image

pub captured-at : (t : Formulas) (cut : Pairs) (i : ℕ) (d : SymId × NodeId) (n : Name) → i < length cut → name_among (names_of (free (tree t (get_or cut i d).1))) n ≡ true → name_among (names_in (map_at t cut)) n ≡ true
captured-at t [] i d n lt e = absurd (omega arith)
captured-at t (p ∷ ps) zero d n lt e = name_among-append (names_of (free (tree t p.1))) (names_in (map_at t ps)) n ∙ left_true (name_among (names_of (free (tree t p.1))) n) (name_among (names_in (map_at t ps)) n) e
captured-at t (p ∷ ps) (suc i) d n lt e =
    name_among-append (names_of (free (tree t p.1))) (names_in (map_at t ps)) n
    ∙ right_true (name_among (names_of (free (tree t p.1))) n) (name_among (names_in (map_at t ps)) n) (captured-at t ps i d n (omega arith) e)

names_in-append : (m n : Map) (k : Name) → name_among (names_in (m ++ n)) k ≡ (name_among (names_in m) k || name_among (names_in n) k)
names_in-append [] n k = refl
names_in-append (p ∷ ps) n k =
    name_among-append (names_of (free p.1)) (names_in (ps ++ n)) k ∙ ap (λ b. name_among (names_of (free p.1)) k || b) (names_in-append ps n k)
    ∙ grouped (name_among (names_of (free p.1)) k) (name_among (names_in ps) k) (name_among (names_in n) k)
    ∙ ap (λ b. b || name_among (names_in n) k) (sym (name_among-append (names_of (free p.1)) (names_in ps) k))
  where
    grouped : (a b c : Bool) → (a || (b || c)) ≡ ((a || b) || c)
    grouped true b c = refl
    grouped false b c = refl

pub not-captured : (t : Formulas) (cut : Pairs) (i : ℕ) (d : SymId × NodeId) (n : Name) → i < length cut → name_among (names_in (map_at t (take i cut))) n ≡ false
    → name_among (names_of (free (tree t (get_or cut i d).1))) n ≡ false → name_among (names_in (map_at t (take (i + 1) cut))) n ≡ false
not-captured t cut i d n lt before here =
    let p = get_or cut i d in
    let last : name_among (names_in (map_at t (p ∷ []))) n ≡ false = name_among-append (names_of (free (tree t p.1))) [] n ∙ or_false (name_among (names_of (free (tree t p.1))) n) false here refl in
    ap (λ ps. name_among (names_in (map_at t ps)) n) (take_more cut i d lt)
    ∙ ap (λ m. name_among (names_in m) n) (map-append (λ q. (symbol_at t q.0, tree t q.1)) (take i cut) (p ∷ []))
    ∙ names_in-append (map_at t (take i cut)) (map_at t (p ∷ [])) n
    ∙ or_false (name_among (names_in (map_at t (take i cut))) n) (name_among (names_in (map_at t (p ∷ []))) n) before last

-- ---- a variable that stays

pub binds-itself : (t : Formulas) (captured : Bool) (x : Variable) (k : NodeId) (ps : Pairs) (s : Supply) → captured ≡ false → IsNode t k → tree t k ≡ variable x → IsMap t ps → Binds t t captured x k ps ps s s
binds-itself t captured x k ps s stays node term pairs = subst (λ b. Binds t t b x k ps ps s s) (sym stays) (record { node = node; term = term; map = pairs; images = λ m same. same; names = refl })

-- ---- a variable that gets a fresh name

variable-sort : (x : Variable) (r : Sort) → sort_of (variable x) ≡ Some r → r ≡ x.sort
variable-sort x r has = (let parts = is_applied (symbol (constant_of x)) none r has in (rank-takes (symbol (constant_of x)) parts.sorts r parts.rank).1)

pub makes-constant : (t : Formulas) (f : SymId) → IsSymbol t f → (symbol_at t f).args ≡ [] → width (symbol_at t f).result ≤ most_bits → Makes t (Sym f) []
unfolding kind
makes-constant t f within args narrow =
    makes_ranked t (Sym f) [] (symbol_at t f).result (All-nil (IsNode t)) within (symbol-other f) (sym (takes-rank (symbol (symbol_at t f)) [] (symbol_at t f).result (sym args, refl) narrow))

-- over: the sort of the given variable's node; mid: the table with the new symbol
module _ (old mid : Formulas) (given : NodeId) (over : Sort) (x : Variable) (f drawn : SymId) (s : Supply) (is : tree old given ≡ variable x) (has : sort_of (tree old given) ≡ Some over)
    (key : symbol_at old f ≡ constant_of x) (found : symbol_at mid drawn ≡ fresh_constant over s) (there : IsSymbol mid drawn) where
  same-sort : over ≡ x.sort
  same-sort = variable-sort x over (ap sort_of (sym is) ∙ has)

  narrow : width over ≤ most_bits
  narrow = sort-narrow (tree old given) over has

  pub drawn-makes : Makes mid (Sym drawn) []
  drawn-makes = makes-constant mid drawn there (ap (λ g. g.args) found) (subst (λ r. width r ≤ most_bits) (ap (λ g. g.result) (sym found)) narrow)

  fresh-term : constant (symbol_at mid drawn) ≡ variable (fresh_for x s)
  fresh-term = ap constant (found ∙ (λ i. fresh_constant (same-sort i) s))

  module _ (new : Formulas) (grows : GrowsTo old new) (table : IsTable new) (k : NodeId) (node : IsNode new k) (term : tree new k ≡ term_over mid (Sym drawn) []) (within : IsSymbol old f)
      (before after : Pairs) (pairs : IsMap old before) (set : after ≡ with_image before f k) (left : Supply) (draws : left ≡ after_draw s) where
    term-is : tree new k ≡ variable (fresh_for x s)
    unfolding kind
    term-is = term ∙ fresh-term

    key-is : symbol_at new f ≡ constant_of x
    key-is = symbol-grows old new grows f within ∙ key

    pair-is : IsPair new (f, k)
    pair-is = record {
      symbol = is_symbol-grows old new grows f within;
      constant = ap (λ g. g.args) key-is;
      image = node;
      sort = ap sort_of term-is ∙ constant-sort (constant_of (fresh_for x s)) refl (subst (λ r. width r ≤ most_bits) same-sort narrow) ∙ ap (λ g. Some g.result) (sym key-is);
    }

    map-is : IsMap new after
    map-is =
        subst (IsMap new) (sym set)
        (with_image-All (IsPair new) before f k (λ g e. subst (λ h. IsPair new (h, k)) (let same : f ≡ g = (λ i. record { 0 = sym e i }) in same) pair-is) (is_map-grows old new grows before pairs))

    images-are : (m : Map) → SameImages old before m → SameImages new after ((constant_of x, variable (fresh_for x s)) ∷ m)
    images-are m same g =
        ap (λ ps. image (map_at new ps) g) set
        ∙ image-with new table before (is_map-grows old new grows before pairs) f k (is_symbol-grows old new grows f within) g
        ∙ (λ i. image ((key-is i, term-is i) ∷ map-grows old new grows before pairs i) g)
        ∙ ap (λ o. cond (symbol_eq (constant_of x) g) (Some (variable (fresh_for x s))) o) (same g)

    pub binds-fresh : (captured : Bool) → captured ≡ true → Binds old new captured x k before after s left
    binds-fresh captured goes = subst (λ b. Binds old new b x k before after s left) (sym goes) (record { node = node; term = term-is; map = map-is; images = images-are; names = draws })

-- ---- one variable after another

abbrev pub bound_all : List Variable → Renamed → Renamed
bound_all [] r = r
bound_all (y ∷ ys) r = bound_first y (bound_all ys r)

bound_all-push : (ys : List Variable) (y : Variable) (r : Renamed) → bound_all (ys ++ y ∷ []) r ≡ bound_all ys (bound_first y r)
bound_all-push [] y r = refl
bound_all-push (x ∷ ys) y r = ap (bound_first x) (bound_all-push ys y r)

bound_all-parts : (ys : List Variable) (m : Map) (s : Supply) → bound_all ys (record { variables = []; map = m; names = s }) ≡ record { variables = ys; map = m; names = s }
bound_all-parts [] m s = refl
bound_all-parts (y ∷ ys) m s = ap (bound_first y) (bound_all-parts ys m s)

bind-after : (c : List Name) (captured : Bool) (x : Variable) (xs : List Variable) (m : Map) (s : Supply)
    → bind captured x m s (λ n t. renaming c xs n t) ≡ bound_first (variable_after captured x s) (renaming c xs (map_after captured x m s) (names_after captured s))
bind-after c true x xs m s = refl
bind-after c false x xs m s = refl

-- the first n variables are renamed
pub record RenamesSome (old new : Formulas) (cut : Pairs) (ks : List NodeId) (n : ℕ) (ys : List NodeId) (after : Pairs) (s left : Supply) : Type 0 where
  pub so_far : Map
  pub variables : AreVariables new ys
  pub map : IsMap new after
  pub images : SameImages new after so_far
  pub whole : renamed_under (map_at old cut) (variables_at old ks) s ≡ bound_all (variables_at new ys) (renaming (names_in (map_at old cut)) (drop n (variables_at old ks)) so_far left)

pub renames-none : (t : Formulas) (cut : Pairs) (ks ys : List NodeId) (after : Pairs) (s : Supply) → ys ≡ [] → IsMap t after → SameImages t after (map_at t cut) → RenamesSome t t cut ks 0 ys after s s
renames-none t cut ks ys after s empty pairs images = subst (λ zs. RenamesSome t t cut ks 0 zs after s s) (sym empty) (record {
  so_far = map_at t cut;
  variables = record { nodes = All-nil (IsNode t); terms = refl };
  map = pairs;
  images = images;
  whole = refl;
})

pub renames-all : (old new : Formulas) (cut : Pairs) (ks ys : List NodeId) (n : ℕ) (after : Pairs) (s left : Supply) → length ks ≤ n → RenamesSome old new cut ks n ys after s left → Renames old new cut ks ys after s left
renames-all old new cut ks ys n after s left le some =
    let count : length (variables_at old ks) ≡ length ks = length-map (trees_at old ks) variable_of ∙ length-map ks (tree_in old.trees) in
    let whole : renamed_under (map_at old cut) (variables_at old ks) s ≡ record { variables = variables_at new ys; map = some.so_far; names = left } =
    some.whole ∙ ap (λ xs. bound_all (variables_at new ys) (renaming (names_in (map_at old cut)) xs some.so_far left)) (drop_of_length-le (variables_at old ks) (omega (arith, count)))
    ∙ bound_all-parts (variables_at new ys) some.so_far left in
    record {
      variables = some.variables;
      renamed = ap (λ r. r.variables) (sym whole);
      map = some.map;
      images = λ f. some.images f ∙ ap (λ r. image r.map f) (sym whole);
      names = ap (λ r. r.names) (sym whole);
    }

-- a variable's node among others
pub variable-at : (t : Formulas) (ks : List NodeId) (n : ℕ) (d : NodeId) → n < length ks → AreVariables t ks → tree t (get_or ks n d) ≡ variable (variable_of (tree t (get_or ks n d)))
variable-at t ks n d lt vars =
    let trees : length (trees_at t ks) ≡ length ks = length-map ks (tree_in t.trees) in
    let bound : length (variables_at t ks) ≡ length ks = length-map (trees_at t ks) variable_of ∙ trees in
    let x : Variable = variable_of no_tree in
    sym (get_or-map (tree_in t.trees) ks n d no_tree lt)
    ∙ ap (λ us. get_or us n no_tree) vars.terms
    ∙ get_or-map variable (variables_at t ks) n x no_tree (omega (arith, bound))
    ∙ ap variable (get_or-map variable_of (trees_at t ks) n no_tree x (omega (arith, trees)) ∙ ap variable_of (get_or-map (tree_in t.trees) ks n d no_tree lt))

module _ (old mid new : Formulas) (cut : Pairs) (ks ys more : List NodeId) (n : ℕ) (d k : NodeId) (before after : Pairs) (s left rest : Supply)
    (first : GrowsTo old mid) (then : GrowsTo mid new) (pairs : IsMap old cut) (nodes : AreNodes old ks) (lt : n < length ks) (some : RenamesSome old mid cut ks n ys before s left)
    (binds : Binds mid new (name_among (names_in (map_at mid cut)) (variable_of (tree mid (get_or ks n d))).name) (variable_of (tree mid (get_or ks n d))) k before after left rest)
    (pushed : more ≡ ys ++ k ∷ []) where
  given : Variable
  given = variable_of (tree old (get_or ks n d))

  captured : Bool
  captured = name_among (names_in (map_at old cut)) (variable_of (tree old (get_or ks n d))).name

  given-same : variable_of (tree mid (get_or ks n d)) ≡ variable_of (tree old (get_or ks n d))
  given-same = ap variable_of (tree-grows old mid first (get_or ks n d) (nodes n d lt))

  binds-old : Binds mid new (name_among (names_in (map_at old cut)) (variable_of (tree old (get_or ks n d))).name) (variable_of (tree old (get_or ks n d))) k before after left rest
  binds-old =
      subst (λ x. Binds mid new (name_among (names_in (map_at old cut)) x.name) x k before after left rest) given-same
      (subst (λ m. Binds mid new (name_among (names_in m) (variable_of (tree mid (get_or ks n d))).name) (variable_of (tree mid (get_or ks n d))) k before after left rest) (map-grows old mid first cut pairs) binds)

  next-variable : drop n (variables_at old ks) ≡ variable_of (tree old (get_or ks n d)) ∷ drop (suc n) (variables_at old ks)
  next-variable =
      let trees : length (trees_at old ks) ≡ length ks = length-map ks (tree_in old.trees) in
      let bound : length (variables_at old ks) ≡ length ks = length-map (trees_at old ks) variable_of ∙ trees in
      let x : Variable = variable_of no_tree in
      drop-cons (variables_at old ks) n x (omega (arith, bound))
      ∙ ap (λ y. y ∷ drop (suc n) (variables_at old ks)) (get_or-map variable_of (trees_at old ks) n no_tree x (omega (arith, trees)) ∙ ap variable_of (get_or-map (tree_in old.trees) ks n d no_tree lt))

  bound-is : variables_at new more ≡ variables_at mid ys ++ variable_after (name_among (names_in (map_at old cut)) (variable_of (tree old (get_or ks n d))).name) (variable_of (tree old (get_or ks n d))) left ∷ []
  bound-is =
      ap (variables_at new) pushed ∙ ap (map variable_of) (map-append (tree_in new.trees) ys (k ∷ [])) ∙ map-append variable_of (trees_at new ys) (tree new k ∷ [])
      ∙ (λ i. variables-grow mid new then ys some.variables.nodes i ++ variable_of (binds-old.term i) ∷ [])

  vars-are : AreVariables new more
  vars-are = subst (AreVariables new) (sym pushed) (record {
    nodes = All-push (IsNode new) ys k (nodes-grow mid new then ys some.variables.nodes) binds-old.node;
    terms =
        map-append (tree_in new.trees) ys (k ∷ []) ∙ (λ i. (are_variables-grow mid new then ys some.variables).terms i ++ again i ∷ [])
        ∙ sym (map-append variable (variables_at new ys) (variable_of (tree new k) ∷ []))
        ∙ ap (map variable) (sym (ap (map variable_of) (map-append (tree_in new.trees) ys (k ∷ [])) ∙ map-append variable_of (trees_at new ys) (tree new k ∷ [])));
  })
    where
      again : tree new k ≡ variable (variable_of (tree new k))
      again = binds-old.term ∙ ap (λ u. variable (variable_of u)) (sym binds-old.term)

  pub renames-more : RenamesSome old new cut ks (n + 1) more after s rest
  renames-more =
      let x = variable_of (tree old (get_or ks n d)) in
      let c = names_in (map_at old cut) in
      let b = name_among c x.name in
      let place : suc n ≡ n + 1 = omega arith in
      record {
        so_far = map_after b x some.so_far left;
        variables = vars-are;
        map = binds-old.map;
        images = binds-old.images some.so_far some.images;
        whole =
            some.whole
            ∙ ap (λ xs. bound_all (variables_at mid ys) (renaming c xs some.so_far left)) next-variable
            ∙ ap (bound_all (variables_at mid ys)) (bind-after c b x (drop (suc n) (variables_at old ks)) some.so_far left)
            ∙ sym (bound_all-push (variables_at mid ys) (variable_after b x left) (renaming c (drop (suc n) (variables_at old ks)) (map_after b x some.so_far left) (names_after b left)))
            ∙ ap (λ zs. bound_all zs (renaming c (drop (suc n) (variables_at old ks)) (map_after b x some.so_far left) (names_after b left))) (sym bound-is)
            ∙ (λ i. bound_all (variables_at new more) (renaming c (drop (place i) (variables_at old ks)) (map_after b x some.so_far left) (sym binds-old.names i)));
      }
