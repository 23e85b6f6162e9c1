-- What is known of linked replacements: as a chain of removals, and of their constants.
use Rattle.std.proofs.Common.{◌≡◌, ◌∙◌, sym, ap, subst, ℕ, true, false, ◌⊎◌, inl, inr, List, [], ◌∷◌, ◌++◌, map, append_assoc, append-nil, All}
use Rattle.std.proofs.lemmas.List.Elements.{All-nil, All-cons, All-head, All-tail, All-append, All-weaker}
use Rattle.smt_terms.specs.Free.{is_among, name_among, names_of}
use Rattle.smt_terms.specs.Fresh.{Supply, NeverGives, numbered_name}
use Rattle.smt_terms.specs.Groups.{Named, draw_each}
use Rattle.smt_terms.specs.Rank.{are_distinct, IsWellSorted}
use Rattle.smt_terms.specs.Sorts.{Name, Symbol}
use Rattle.smt_terms.specs.SubstLaws.{names_within, GivesNone, Later}
use Rattle.smt_terms.specs.Term.{Term}
use Rattle.smt_terms.proofs.Runs.{among-name}
use Rattle.smt_terms.proofs.Tests.{contrary, true_or_false}
use Rattle.term_groups.specs.Drawing.{ConstantsAreNew, drawn_names}
use Rattle.term_groups.specs.Grouping.{symbols_of}
use Rattle.ackermann.specs.Ackermann.{applications, without_constant}
use Rattle.ackermann.specs.Laws.{RemovalsMade, AreMadeFrom, IsUseIn}
use Rattle.ackermann.specs.Removals.{AreRemovals, all_inputs, all_symbols}
use Rattle.script_read.specs.Printable.{is_usable}
use Rattle.pass_laws.specs.Passed.{Replacement}
use Rattle.pass_laws.proofs.DrawnSymbols.{HasSortOf, AreDrawn, by_drawing}
use Rattle.pass_laws.proofs.NamedTerms.{HaveOwn, own_of_both}
use Rattle.pass_laws.proofs.ReadyNames.{given_later}
use Rattle.pass_laws.proofs.ReadySymbols.{NamesOfGroup, drawn_usable}
use Rattle.pass_laws.proofs.RemovalLinks.{removals, pairs_of, inputs_are, symbols_are, IsAcked, IsLink, AreLinks, IsInput}

-- of terms none of whose names s gives
module _ (s : Supply) (inputs : List Term) (names : All (λ t. GivesNone s (names_within t)) inputs) where
  removals_from : (ds : List Name) (fs : List Symbol) (earlier : Named) (xs : List Replacement) → AreLinks s earlier xs → All (λ (x : Replacement). IsInput s ds fs x.term) xs → AreRemovals inputs earlier (removals xs)
  removals_from ds fs earlier [] links are = tt
  removals_from ds fs earlier (x ∷ xs) links are =
      let link : IsLink s earlier x = links.0 in
      let is : IsInput s ds fs x.term = All-head (λ (y : Replacement). IsInput s ds fs y.term) x xs are in (
        record {
          supply = link.before;
          sorted = is.sorted;
          sort = is.sort;
          outside = is.outside;
          names = All-weaker (λ t. GivesNone s (names_within t)) (λ t. GivesNone link.before (names_within t)) (λ t given. given_later s link.before (names_within t) link.later given) inputs names;
          apart = link.is.apart;
          symbols = link.is.symbols;
          asserts = link.is.asserts;
        },
        removals_from ds fs (earlier ++ x.group.symbols) xs links.1 (All-tail (λ (y : Replacement). IsInput s ds fs y.term) x xs are),
      )

module _ (s : Supply) (ds : List Name) (fs : List Symbol) where
  abbrev AreAllInputs : List Replacement → Type 0
  AreAllInputs xs = All (λ (x : Replacement). IsInput s ds fs x.term) xs

  inputs_spared : (xs : List Replacement) → AreAllInputs xs → All (λ t. GivesNone s (names_within t)) (map (λ x. x.term) xs)
  inputs_spared [] are = All-nil _
  inputs_spared (x ∷ xs) are =
      let is : IsInput s ds fs x.term = All-head (λ (y : Replacement). IsInput s ds fs y.term) x xs are in
      All-cons (λ t. GivesNone s (names_within t)) x.term (map (λ x. x.term) xs) is.names (inputs_spared xs (All-tail (λ (y : Replacement). IsInput s ds fs y.term) x xs are))

  pub are_removals : (xs : List Replacement) → AreLinks s [] xs → AreAllInputs xs → AreRemovals (all_inputs (removals xs)) [] (removals xs)
  are_removals xs links are =
      removals_from s (all_inputs (removals xs)) (subst (All (λ t. GivesNone s (names_within t))) (sym (inputs_are xs)) (inputs_spared xs are)) ds fs [] xs links are

  -- ---- sorts of the applications

  pub uses_sorted : RemovalsMade → (xs : List Replacement) → AreLinks s [] xs → AreAllInputs xs → All (λ n. IsWellSorted n.1) (pairs_of xs)
  uses_sorted law xs links are =
      let made : AreMadeFrom (removals xs) = law (removals xs) (are_removals xs links are) in
      subst (All (λ n. IsWellSorted n.1)) (symbols_are xs)
      (All-weaker (λ (n : Symbol × Term). IsUseIn (all_inputs (removals xs)) n.1) (λ n. IsWellSorted n.1) (λ n applied. applied.part.sorted) (all_symbols (removals xs)) made.uses)

-- ---- constants

module _ (law : ConstantsAreNew) where
  pub acked_drawn : (earlier : Named) (x : Replacement) (p q : Supply) → IsAcked earlier x p q → AreDrawn x.group.symbols p q
  acked_drawn earlier x p q is =
      subst (λ ns. AreDrawn ns p q) (sym is.symbols) (subst (AreDrawn (draw_each (without_constant earlier (applications x.term)) p).symbols p) (sym is.names) (by_drawing law (without_constant earlier (applications x.term)) p))

  pub acked_constants : (earlier : Named) (x : Replacement) (p q : Supply) → IsAcked earlier x p q → All (λ n. n.0.args ≡ []) x.group.symbols
  acked_constants earlier x p q is =
      let ts : List Term = without_constant earlier (applications x.term) in
      subst (All (λ n. n.0.args ≡ [])) (sym is.symbols)
      (All-weaker (λ (n : Symbol × Term). (n.0.args ≡ []) × HasSortOf n.0 n.1) (λ n. n.0.args ≡ []) (λ n h. h.0) (draw_each ts p).symbols (law.constants ts p))

  module _ (s : Supply) where
    -- no constant of an earlier one is drawn again
    apart_drawn : (earlier : Named) (x : Replacement) → IsLink s earlier x → (f : Symbol) → is_among (symbols_of x.group.symbols) f ≡ true → is_among (symbols_of earlier) f ≡ false
    apart_drawn earlier x link f among = go (true_or_false (is_among (symbols_of earlier) f))
      where
        here : AreDrawn x.group.symbols link.before link.behind
        here = acked_drawn earlier x link.before link.behind link.is

        go : (is_among (symbols_of earlier) f ≡ true) ⊎ (is_among (symbols_of earlier) f ≡ false) → is_among (symbols_of earlier) f ≡ false
        go (inl old) = contrary (is_among (symbols_of x.group.symbols) f) among (here.new f (link.is.apart f.name (among-name (symbols_of earlier) f old)))
        go (inr apart) = apart

    own_behind : (earlier : Named) (xs : List Replacement) → AreLinks s earlier xs → HaveOwn earlier earlier → HaveOwn (earlier ++ pairs_of xs) (earlier ++ pairs_of xs)
    own_behind earlier [] links own = subst (λ ns. HaveOwn ns ns) (sym (append-nil earlier)) own
    own_behind earlier (x ∷ xs) links own =
        let link : IsLink s earlier x = links.0 in
        let here : AreDrawn x.group.symbols link.before link.behind = acked_drawn earlier x link.before link.behind link.is in
        subst (λ ns. HaveOwn ns ns) (append_assoc earlier x.group.symbols (pairs_of xs))
        (own_behind (earlier ++ x.group.symbols) xs links.1 (own_of_both earlier x.group.symbols own here.own (apart_drawn earlier x link)))

    -- each constant has one application
    pub own_linked : (xs : List Replacement) → AreLinks s [] xs → HaveOwn (pairs_of xs) (pairs_of xs)
    own_linked xs links = own_behind [] xs links (All-nil _)

    pub sorts_linked : (earlier : Named) (xs : List Replacement) → AreLinks s earlier xs → All (λ n. HasSortOf n.0 n.1) (pairs_of xs)
    sorts_linked earlier [] links = All-nil _
    sorts_linked earlier (x ∷ xs) links =
        let link : IsLink s earlier x = links.0 in
        let here : AreDrawn x.group.symbols link.before link.behind = acked_drawn earlier x link.before link.behind link.is in
        All-append (λ n. HasSortOf n.0 n.1) x.group.symbols (pairs_of xs) here.sorts (sorts_linked (earlier ++ x.group.symbols) xs links.1)

    pub constants_linked : (earlier : Named) (xs : List Replacement) → AreLinks s earlier xs → All (λ n. n.0.args ≡ []) (pairs_of xs)
    constants_linked earlier [] links = All-nil _
    constants_linked earlier (x ∷ xs) links =
        let link : IsLink s earlier x = links.0 in
        All-append (λ n. n.0.args ≡ []) x.group.symbols (pairs_of xs) (acked_constants earlier x link.before link.behind link.is) (constants_linked (earlier ++ x.group.symbols) xs links.1)

  -- ---- their names

  pub acked_names : (earlier : Named) (x : Replacement) (p q : Supply) → IsAcked earlier x p q → NamesOfGroup p q x.group.symbols
  acked_names earlier x p q is = record {
    new = λ n never. ap (λ ms. name_among ms n) same ∙ law.new ts p n never;
    apart = ap are_distinct same ∙ law.apart ts p;
    gone = λ n among. subst (λ r. NeverGives r n) (sym is.names) (law.gone ts p n (sym (ap (λ ms. name_among ms n) same) ∙ among));
    later = subst (λ r. Later p r) (sym is.names) (law.later ts p);
  }
    where
      ts : List Term
      ts = without_constant earlier (applications x.term)

      same : names_of (symbols_of x.group.symbols) ≡ drawn_names ts p
      same = ap (λ ns. names_of (symbols_of ns)) is.symbols

  pub acked_usable : ((i : ℕ) → is_usable (numbered_name i) ≡ true) → (earlier : Named) (x : Replacement) (p q : Supply) → IsAcked earlier x p q → All (λ n. is_usable n.0.name ≡ true) x.group.symbols
  acked_usable usable earlier x p q is = subst (All (λ n. is_usable n.0.name ≡ true)) (sym is.symbols) (drawn_usable usable (without_constant earlier (applications x.term)) p)
