-- What takes the place of an assertion, behind the live replacements: what it is made from, and what is known of the constants there.
use Rattle.std.proofs.Common.{◌≡◌, ◌∙◌, sym, ap, refl, subst, ℕ, Bool, true, inl, inr, List, [], ◌∷◌, ◌++◌, flat_map, get_or, All}
use Rattle.std.specs.List.{list_all}
use Rattle.std.proofs.lemmas.List.Elements.{All-nil, All-cons, All-head, All-tail, All-push, All-weaker}
use Rattle.smt_terms.specs.Equal.{term_eq}
use Rattle.smt_terms.specs.Free.{free, is_among, name_among, names_of}
use Rattle.smt_terms.specs.Fresh.{Supply, numbered_name}
use Rattle.smt_terms.specs.Groups.{Named, has_term}
use Rattle.smt_terms.specs.Rank.{sort_of, is_sort, is_regular}
use Rattle.smt_terms.specs.Shapes.{is_clear_below}
use Rattle.smt_terms.specs.Sorts.{Name, Symbol}
use Rattle.smt_terms.specs.SubstLaws.{Later}
use Rattle.smt_terms.specs.Term.{symbol, Term}
use Rattle.smt_terms.proofs.Equal.{Decides-term_eq}
use Rattle.smt_terms.proofs.SortsOfTerms.{sort_is_sort}
use Rattle.smt_terms.proofs.Tests.{both_true, and_true, either_true, contrary}
use Rattle.std.specs.Prelude.{is_some}
use Rattle.term_groups.specs.Drawing.{ConstantsAreNew}
use Rattle.term_groups.specs.Every.{every}
use Rattle.term_groups.specs.Grouping.{symbols_of}
use Rattle.ackermann.specs.Laws.{RemovalsMade, IsMadeFrom, IsUseIn, AreMadeFrom}
use Rattle.ackermann.specs.Removals.{all_inputs, all_symbols, is_free_in}
use Rattle.script_read.specs.Commands.{State, live_in, sorts_of_state, symbols_of_state}
use Rattle.script_read.specs.Printable.{is_usable, sort_is_live, all_within}
use Rattle.pass_laws.specs.Passed.{Replacement}
use Rattle.pass_laws.proofs.DrawnSymbols.{HasSortOf}
use Rattle.pass_laws.proofs.NamedTerms.{all_parted}
use Rattle.pass_laws.proofs.ReadySorts.{every_within, heads_within, binders_within, sort_of_live}
use Rattle.pass_laws.proofs.ReadySymbols.{NamesOfGroup, name_at, HasSort, has_sort_of, MayCome}
use Rattle.pass_laws.proofs.RemovalChains.{are_removals, constants_linked, sorts_linked, acked_names, acked_usable}
use Rattle.pass_laws.proofs.RemovalLinks.{removals, pairs_of, symbols_are, asserts_are, pairs-push, IsAcked, AreLinks, IsInput, links_push, all_inputs_of}
use Rattle.pass_laws.proofs.RemovalStates.{Sound}

-- ---- lists

-- of the last one
last_part : {A B : Type 0} (P : B → Type 0) (part : A → List B) (xs : List A) (x : A) → All P (flat_map part (xs ++ x ∷ [])) → All P (part x)
last_part P part [] x all = (all_parted P (part x) [] all).0
last_part P part (y ∷ xs) x all = last_part P part xs x (all_parted P (part y) (flat_map part (xs ++ x ∷ [])) all).1

of_each_term : (P : Term → Type 0) (ts : List Term) (t : Term) → All P ts → has_term ts t ≡ true → P t
of_each_term P [] t all among = absurd cc
of_each_term P (u ∷ ts) t all among =
    elim (either_true (term_eq u t) (has_term ts t) among) [
      | inl here ↦ subst P ((Decides-term_eq u t).0 here) (All-head P u ts all)
      | inr there ↦ of_each_term P ts t (All-tail P u ts all) there
    ]

pub all_pass : (test : Term → Bool) (ts : List Term) → All (λ t. test t ≡ true) ts → list_all test ts ≡ true
all_pass test [] all = refl
all_pass test (t ∷ ts) all = and_true (test t) (list_all test ts) (All-head (λ u. test u ≡ true) t ts all) (all_pass test ts (All-tail (λ u. test u ≡ true) t ts all))

input_terms : (P : Term → Type 0) (xs : List Replacement) → All (λ (x : Replacement). P x.term) xs → All P (all_inputs (removals xs))
input_terms P [] all = All-nil P
input_terms P (x ∷ xs) all = All-cons P x.term (all_inputs (removals xs)) (All-head (λ (y : Replacement). P y.term) x xs all) (input_terms P xs (All-tail (λ (y : Replacement). P y.term) x xs all))

-- ---- what is known of inputs

-- a symbol that is free in one of them
pub free_there : (s : Supply) (ds : List Name) (fs : List Symbol) (ts : List Term) → All (IsInput s ds fs) ts → (f : Symbol) → is_free_in ts f ≡ true → is_among fs f ≡ true
free_there s ds fs [] all f h = absurd cc
free_there s ds fs (t ∷ ts) all f h =
    elim (either_true (is_among (free t) f) (is_free_in ts f) h) [
      | inl here ↦ (All-head (IsInput s ds fs) t ts all).symbols f here
      | inr there ↦ free_there s ds fs ts (All-tail (IsInput s ds fs) t ts all) f there
    ]

-- ---- constants of live sorts

pub record IsLiveConstant (ds : List Name) (f : Symbol) : Type 0 where
  pub args : f.args ≡ []
  pub sort : is_sort f.result ≡ true
  pub live : sort_is_live ds f.result ≡ true

module _ (law : ConstantsAreNew) (made : RemovalsMade) (s : Supply) (st : State Replacement) (sound : Sound s st) (x : Replacement) (p q : Supply) (later : Later s p)
    (input : IsInput s (sorts_of_state st) (symbols_of_state st) x.term) (is : IsAcked (pairs_of (live_in st)) x p q) where
  -- the live replacements with this one
  abbrev xs : List Replacement
  xs = live_in st ++ x ∷ []

  abbrev ds : List Name
  ds = sorts_of_state st

  abbrev fs : List Symbol
  fs = symbols_of_state st

  abbrev ts : List Term
  ts = all_inputs (removals xs)

  abbrev ns : Named
  ns = all_symbols (removals xs)

  links : AreLinks s [] xs
  links = links_push s [] (live_in st) x sound.links (record { before = p; behind = q; later = later; is = is })

  inputs : All (λ (y : Replacement). IsInput s ds fs y.term) xs
  inputs = All-push (λ (y : Replacement). IsInput s ds fs y.term) (live_in st) x (all_inputs_of s st.levels sound.inputs) input

  pub inputs_known : All (IsInput s ds fs) ts
  inputs_known = input_terms (IsInput s ds fs) xs inputs

  chain : AreMadeFrom (removals xs)
  chain = made (removals xs) (are_removals s ds fs xs links inputs)

  pub asserts_made : All (IsMadeFrom ts ns) x.group.asserts
  asserts_made = last_part (IsMadeFrom ts ns) (λ (y : Replacement). y.group.asserts) (live_in st) x (subst (All (IsMadeFrom ts ns)) (asserts_are xs) chain.asserts)

  pub pairs_are : ns ≡ pairs_of (live_in st) ++ x.group.symbols
  pairs_are = symbols_are xs ∙ pairs-push (live_in st) x

  -- ---- the constants

  constant_live : (n : Symbol × Term) → n.0.args ≡ [] → HasSortOf n.0 n.1 → IsUseIn ts n.1 → IsLiveConstant ds n.0
  constant_live n none sorts applied =
      let own : HasSort n.1 = has_sort_of n.1 applied.part.sorted in
      let same : n.0.result ≡ own.sort = sorts own.sort own.has in
      let whole : all_within (sort_is_live ds) is_usable applied.whole ≡ true = (of_each_term (IsInput s ds fs) ts applied.whole inputs_known applied.among).within in
      let within : all_within (sort_is_live ds) is_usable n.1 ≡ true =
      sym (every_within (sort_is_live ds) is_usable n.1)
      ∙ applied.part.within (heads_within (sort_is_live ds)) (binders_within (sort_is_live ds) is_usable) (every_within (sort_is_live ds) is_usable applied.whole ∙ whole) in
      record {
        args = none;
        sort = ap is_sort same ∙ sort_is_sort n.1 own.sort (both_true (is_some (sort_of n.1)) (is_regular n.1) applied.part.sorted).1 own.has;
        live = ap (sort_is_live ds) same ∙ sort_of_live ds is_usable n.1 own.sort within own.has;
      }

  pub constants_live : All (λ n. IsLiveConstant ds n.0) ns
  constants_live i d lt = constant_live (get_or ns i d) (none i d lt) (sorts i d lt) (chain.uses i d lt)
    where
      none : All (λ n. n.0.args ≡ []) ns
      none = subst (All (λ n. n.0.args ≡ [])) (sym (symbols_are xs)) (constants_linked law s [] xs links)

      sorts : All (λ n. HasSortOf n.0 n.1) ns
      sorts = subst (All (λ n. HasSortOf n.0 n.1)) (sym (symbols_are xs)) (sorts_linked law s [] xs links)

  pub new_live : All (λ n. IsLiveConstant ds n.0) x.group.symbols
  new_live = (all_parted (λ n. IsLiveConstant ds n.0) (pairs_of (live_in st)) x.group.symbols (subst (All (λ n. IsLiveConstant ds n.0)) pairs_are constants_live)).1

  -- those that are drawn now
  pub new_come : ((i : ℕ) → is_usable (numbered_name i) ≡ true) → All (λ n. MayCome s q ds n.0) x.group.symbols
  new_come usable i d lt = come (get_or x.group.symbols i d) (acked_usable law usable (pairs_of (live_in st)) x p q is i d lt) (new_live i d lt) (name_at x.group.symbols i d lt)
    where
      names : NamesOfGroup p q x.group.symbols
      names = acked_names law (pairs_of (live_in st)) x p q is

      come : (n : Symbol × Term) → is_usable n.0.name ≡ true → IsLiveConstant ds n.0 → name_among (names_of (symbols_of x.group.symbols)) n.0.name ≡ true → MayCome s q ds n.0
      come n fine constant among = record {
        usable = fine;
        args = constant.args;
        sort = constant.sort;
        live = constant.live;
        new = λ never. contrary {A = ⊥} (name_among (names_of (symbols_of x.group.symbols)) n.0.name) among (names.new n.0.name (later n.0.name never));
        gone = names.gone n.0.name among;
      }

  -- ---- the assertions

  pub made_within : (u : Term) → IsMadeFrom ts ns u → all_within (sort_is_live ds) is_usable u ≡ true
  made_within u from =
      sym (every_within (sort_is_live ds) is_usable u)
      ∙ from.within (heads_within (sort_is_live ds)) (binders_within (sort_is_live ds) is_usable) (λ o. refl)
      (all_pass (every (heads_within (sort_is_live ds)) (binders_within (sort_is_live ds) is_usable)) ts
      (All-weaker (IsInput s ds fs) (λ t. every (heads_within (sort_is_live ds)) (binders_within (sort_is_live ds) is_usable) t ≡ true) (λ t known. every_within (sort_is_live ds) is_usable t ∙ known.within) ts inputs_known))
      (constants_within ns constants_live)
    where
      constants_within : (ms : Named) → All (λ n. IsLiveConstant ds n.0) ms → list_all (λ f. heads_within (sort_is_live ds) (symbol f)) (symbols_of ms) ≡ true
      constants_within [] all = refl
      constants_within (n ∷ ms) all =
          let first : IsLiveConstant ds n.0 = All-head (λ (m : Symbol × Term). IsLiveConstant ds m.0) n ms all in
          and_true (heads_within (sort_is_live ds) (symbol n.0)) (list_all (λ f. heads_within (sort_is_live ds) (symbol f)) (symbols_of ms))
          (and_true (sort_is_live ds n.0.result) (list_all (sort_is_live ds) n.0.args) first.live (ap (list_all (sort_is_live ds)) first.args))
          (constants_within ms (All-tail (λ (m : Symbol × Term). IsLiveConstant ds m.0) n ms all))

  pub made_clear : (u : Term) → IsMadeFrom ts ns u → is_clear_below [] u ≡ true
  made_clear u from = from.clear (all_pass (is_clear_below []) ts (All-weaker (IsInput s ds fs) (λ t. is_clear_below [] t ≡ true) (λ t known. known.clear) ts inputs_known))
