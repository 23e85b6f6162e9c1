-- The commands of a group may stand in the place of its assertion: the declarations of its new symbols, and then its assertions.
use Rattle.std.proofs.Common.{◌≡◌, ◌∙◌, sym, ap, refl, subst, ℕ, ◌<◌, Bool, true, false, not, ◌&&◌, ◌⊎◌, inl, inr, List, [], ◌∷◌, ◌++◌, map, length, append_assoc, arith}
use Rattle.std.specs.Prelude.{All}
use Rattle.std.specs.List.{list_all}
use Rattle.std.proofs.lemmas.List.Elements.{All-head, All-tail}
use Rattle.smt_lex.specs.Names.{is_among as is_among_names}
use Rattle.smt_terms.specs.Equal.{symbol_eq}
use Rattle.smt_terms.specs.Free.{free, is_among, name_among, names_of}
use Rattle.smt_terms.specs.Fresh.{Supply, numbered_name}
use Rattle.smt_terms.specs.Groups.{Named, Group}
use Rattle.smt_terms.specs.Rank.{has_name, are_distinct, is_sort}
use Rattle.smt_terms.specs.Shapes.{is_clear_below}
use Rattle.smt_terms.specs.Sorts.{bool, Symbol}
use Rattle.smt_terms.specs.SubstLaws.{Later}
use Rattle.smt_terms.specs.Term.{symbol, Term}
use Rattle.smt_terms.proofs.ClearTerms.{free_distinct}
use Rattle.smt_terms.proofs.Equal.{symbol_itself}
use Rattle.smt_terms.proofs.Tests.{both_true, and_true, either_true, left_true, right_true, not_true, contrary}
use Rattle.term_groups.specs.Drawing.{ConstantsAreNew}
use Rattle.term_groups.specs.Grouping.{IsGroupOf, IsMadeOf, symbols_of}
use Rattle.script_terms.specs.Read.{is_of_sort}
use Rattle.script_read.specs.Commands.{Command, declare, assert, State, with_assertion, with_levels, after, sorts_of_state, symbols_of_state}
use Rattle.script_read.specs.Printable.{is_usable, sort_is_live, all_within, is_new_symbol, may_stand, printable_from}
use Rattle.pass_laws.specs.Passed.{group_commands}
use Rattle.pass_laws.proofs.GroupRuns.{declared_on}
use Rattle.pass_laws.proofs.ReadyLevels.{among_left, among_right, among_either, among_one, latest_symbols, declared_symbols}
use Rattle.pass_laws.proofs.ReadyNames.{named_among}
use Rattle.pass_laws.proofs.ReadySorts.{heads_within, binders_within, every_within}
use Rattle.pass_laws.proofs.ReadyStates.{unnamed, named, Grown, same_sorts, more_symbols, later_grown, asserted_behind, declared_behind}
use Rattle.pass_laws.proofs.ReadySymbols.{NamesOfGroup, names_of_group, MayCome, may_come}
use Rattle.pass_laws.proofs.Standing.{of_each, of_all, Stands, may}

abbrev pub AreDeclared : Named → State Term → Type 0
AreDeclared ns b = (f : Symbol) → is_among (symbols_of ns) f ≡ true → is_among (symbols_of_state b) f ≡ true

-- no symbol of the state has the name of one of these
abbrev pub HaveOtherNames : Named → State Term → Type 0
HaveOtherNames ns b = (f : Symbol) → is_among (symbols_of ns) f ≡ true → (h : Symbol) → is_among (symbols_of_state b) h ≡ true → h.name ≡ f.name → ⊥

-- s was there first, q is left behind the group, and a is the state before the pass
module _ (s q : Supply) (a : State Term) where
  abbrev pub AllMayCome : Named → Type 0
  AllMayCome ns = All (λ p. MayCome s q (sorts_of_state a) p.0) ns

  new_live : (ns : Named) → AllMayCome ns → list_all (λ f. heads_within (sort_is_live (sorts_of_state a)) (symbol f)) (symbols_of ns) ≡ true
  new_live [] come = refl
  new_live (n ∷ ns) come =
      let first : MayCome s q (sorts_of_state a) n.0 = All-head (λ (p : Symbol × Term). MayCome s q (sorts_of_state a) p.0) n ns come in
      and_true (heads_within (sort_is_live (sorts_of_state a)) (symbol n.0)) (list_all (λ f. heads_within (sort_is_live (sorts_of_state a)) (symbol f)) (symbols_of ns))
      (and_true (sort_is_live (sorts_of_state a) n.0.result) (list_all (sort_is_live (sorts_of_state a)) n.0.args) first.live (ap (list_all (sort_is_live (sorts_of_state a))) first.args))
      (new_live ns (All-tail (λ (p : Symbol × Term). MayCome s q (sorts_of_state a) p.0) n ns come))

  -- ---- assertions

  module _ (t : Term) (ns : Named) (stand : Stands a t) (come : AllMayCome ns) where
    made_within : (u : Term) → IsMadeOf t ns u → all_within (sort_is_live (sorts_of_state a)) is_usable u ≡ true
    made_within u made =
        sym (every_within (sort_is_live (sorts_of_state a)) is_usable u)
        ∙ made.within (heads_within (sort_is_live (sorts_of_state a))) (binders_within (sort_is_live (sorts_of_state a)) is_usable) (λ o. refl)
        (every_within (sort_is_live (sorts_of_state a)) is_usable t ∙ stand.within) (new_live ns come)

    module _ (b : State Term) (g : Grown s q a b) (declared : AreDeclared ns b) where
      free_there : (u : Term) → IsMadeOf t ns u → (f : Symbol) → is_among (free u) f ≡ true → is_among (symbols_of_state b) f ≡ true
      free_there u made f among = go (either_true (is_among (free t) f) (is_among (symbols_of ns) f) (made.free f among))
        where
          go : (is_among (free t) f ≡ true) ⊎ (is_among (symbols_of ns) f ≡ true) → is_among (symbols_of_state b) f ≡ true
          go (inl old) = (more_symbols s q a b g).stays f (of_each (λ h. is_among (symbols_of_state a) h) (free t) f stand.symbols old)
          go (inr new) = declared f new

      made_stands : (u : Term) → IsMadeOf t ns u → Stands b u
      made_stands u made = record {
        formula = ap (is_of_sort bool) made.sort;
        sorted = made.sorted;
        clear =
            and_true (is_clear_below [] u) (are_distinct (names_of (free u)))
            (made.clear (both_true (is_clear_below [] t) (are_distinct (names_of (free t))) stand.clear).0)
            (free_distinct (symbols_of_state b) u g.apart (free_there u made));
        symbols = of_all (λ f. is_among (symbols_of_state b) f) (free u) (free_there u made);
        within = ap (λ ds. all_within (sort_is_live ds) is_usable u) (sym (same_sorts s q a b g)) ∙ made_within u made;
      }

    module _ (i : ℕ) (ds : List (Command Term)) (rest : (c : State Term) → Grown s q a c → printable_from true c ds ≡ true) where
      one_prints : (begun : Bool) (b : State Term) → Grown s q a b → AreDeclared ns b → (u : Term) → IsMadeOf t ns u → (cs : List (Command Term)) → printable_from true (after (assert i u) b) cs ≡ true → printable_from begun b (assert i u ∷ cs) ≡ true
      one_prints begun b g declared u made cs h =
          and_true (may_stand begun b (assert i u)) (printable_from true (after (assert i u) b) cs) (may begun b i u (made_stands b g declared u made)) h

      declared_still : (b : State Term) (u : Term) → AreDeclared ns b → AreDeclared ns (after (assert i u) b)
      declared_still b u declared f among = ap (λ fs. is_among fs f) (latest_symbols (with_assertion u) (λ l. refl) b.levels) ∙ declared f among

      asserts_print : (us : List Term) → All (IsMadeOf t ns) us → (b : State Term) → Grown s q a b → AreDeclared ns b → printable_from true b (map (λ u. assert i u) us ++ ds) ≡ true
      asserts_print [] made b g declared = rest b g
      asserts_print (u ∷ us) made b g declared =
          one_prints true b g declared u (All-head (IsMadeOf t ns) u us made) (map (λ v. assert i v) us ++ ds)
          (asserts_print us (All-tail (IsMadeOf t ns) u us made) (after (assert i u) b) (asserted_behind s q a b g i u) (declared_still b u declared))

      some_print : (us : List Term) → 0 < length us → All (IsMadeOf t ns) us → (begun : Bool) (b : State Term) → Grown s q a b → AreDeclared ns b → printable_from begun b (map (λ u. assert i u) us ++ ds) ≡ true
      some_print [] some made begun b g declared = absurd (omega arith)
      some_print (u ∷ us) some made begun b g declared =
          one_prints begun b g declared u (All-head (IsMadeOf t ns) u us made) (map (λ v. assert i v) us ++ ds)
          (asserts_print us (All-tail (IsMadeOf t ns) u us made) (after (assert i u) b) (asserted_behind s q a b g i u) (declared_still b u declared))

  -- ---- declarations

  new_stands : (b : State Term) → Grown s q a b → (f : Symbol) → MayCome s q (sorts_of_state a) f → ((h : Symbol) → is_among (symbols_of_state b) h ≡ true → h.name ≡ f.name → ⊥) → is_new_symbol b f ≡ true
  new_stands b g f come other =
      and_true (is_usable f.name) (not (is_among_names (names_of (symbols_of_state b)) f.name) && list_all (λ to. is_sort to && sort_is_live (sorts_of_state b) to) (f.result ∷ f.args)) come.usable
      (and_true (not (is_among_names (names_of (symbols_of_state b)) f.name)) (list_all (λ to. is_sort to && sort_is_live (sorts_of_state b) to) (f.result ∷ f.args))
      (ap not (unnamed (symbols_of_state b) f.name other))
      (and_true (is_sort f.result && sort_is_live (sorts_of_state b) f.result) (list_all (λ to. is_sort to && sort_is_live (sorts_of_state b) to) f.args)
      (and_true (is_sort f.result) (sort_is_live (sorts_of_state b) f.result) come.sort (ap (λ ds. sort_is_live ds f.result) (sym (same_sorts s q a b g)) ∙ come.live))
      (ap (list_all (λ to. is_sort to && sort_is_live (sorts_of_state b) to)) come.args)))

  there_then : (f : Symbol) (b : State Term) (h : Symbol) → is_among (symbols_of_state (after (declare f) b)) h ≡ true → (is_among (symbols_of_state b) h ≡ true) ⊎ (f ≡ h)
  there_then f b h among = go (among_either (symbols_of_state b) (f ∷ []) h (ap (λ fs. is_among fs h) (sym (declared_symbols f b.levels)) ∙ among))
    where
      go : (is_among (symbols_of_state b) h ≡ true) ⊎ (is_among (f ∷ []) h ≡ true) → (is_among (symbols_of_state b) h ≡ true) ⊎ (f ≡ h)
      go (inl old) = inl old
      go (inr new) = inr (among_one f h new)

  stays_then : (f : Symbol) (b : State Term) (h : Symbol) → is_among (symbols_of_state b) h ≡ true → is_among (symbols_of_state (after (declare f) b)) h ≡ true
  stays_then f b h among = ap (λ fs. is_among fs h) (declared_symbols f b.levels) ∙ among_left (symbols_of_state b) (f ∷ []) h among

  itself_then : (f : Symbol) (b : State Term) → is_among (symbols_of_state (after (declare f) b)) f ≡ true
  itself_then f b =
      ap (λ fs. is_among fs f) (declared_symbols f b.levels)
      ∙ among_right (symbols_of_state b) (f ∷ []) f (left_true (symbol_eq f f) false (symbol_itself f))

  others_then : (n : Symbol × Term) (ns : Named) (b : State Term) → has_name n.0.name (names_of (symbols_of ns)) ≡ false → HaveOtherNames (n ∷ ns) b → HaveOtherNames ns (after (declare n.0) b)
  others_then n ns b single other f among h there same = go (there_then n.0 b h there)
    where
      go : (is_among (symbols_of_state b) h ≡ true) ⊎ (n.0 ≡ h) → ⊥
      go (inl old) = other f (right_true (symbol_eq n.0 f) (is_among (symbols_of ns) f) among) h old same
      go (inr new) = named (symbols_of ns) f among n.0.name (sym same ∙ sym (ap (λ (k : Symbol). k.name) new)) single

  pub declares_print : (cs : List (Command Term)) (ns : Named) (begun : Bool) (b : State Term) → Grown s q a b → AllMayCome ns → are_distinct (names_of (symbols_of ns)) ≡ true → HaveOtherNames ns b
      → ((later : Bool) (c : State Term) → c ≡ with_levels b (declared_on ns b.levels) → Grown s q a c → ((h : Symbol) → is_among (symbols_of_state b) h ≡ true → is_among (symbols_of_state c) h ≡ true) → AreDeclared ns c → printable_from later c cs ≡ true)
      → printable_from begun b (map (λ n. declare n.0) ns ++ cs) ≡ true
  unfolding declared_on
  declares_print cs [] begun b g come apart other rest = rest begun b refl g (λ h among. among) (λ f among. absurd cc)
  declares_print cs (n ∷ ns) begun b g come apart other rest =
      let first : MayCome s q (sorts_of_state a) n.0 = All-head (λ (p : Symbol × Term). MayCome s q (sorts_of_state a) p.0) n ns come in
      let single = both_true (not (has_name n.0.name (names_of (symbols_of ns)))) (are_distinct (names_of (symbols_of ns))) apart in
      let unlike : (h : Symbol) → is_among (symbols_of_state b) h ≡ true → h.name ≡ n.0.name → ⊥ = other n.0 (left_true (symbol_eq n.0 n.0) (is_among (symbols_of ns) n.0) (symbol_itself n.0)) in
      and_true (may_stand begun b (declare n.0)) (printable_from true (after (declare n.0) b) (map (λ m. declare m.0) ns ++ cs))
      (new_stands b g n.0 first unlike)
      (declares_print cs ns true (after (declare n.0) b) (declared_behind s q a b g n.0 first.new first.gone unlike)
      (All-tail (λ (p : Symbol × Term). MayCome s q (sorts_of_state a) p.0) n ns come) single.1
      (others_then n ns b (not_true (has_name n.0.name (names_of (symbols_of ns))) single.0) other)
      (λ later c is grown kept declared. rest later c is grown (λ h among. kept h (stays_then n.0 b h among)) (λ f among. all_declared c kept declared f (either_true (symbol_eq n.0 f) (is_among (symbols_of ns) f) among))))
    where
      all_declared : (c : State Term) → ((h : Symbol) → is_among (symbols_of_state (after (declare n.0) b)) h ≡ true → is_among (symbols_of_state c) h ≡ true) → AreDeclared ns c → (f : Symbol) → (symbol_eq n.0 f ≡ true) ⊎ (is_among (symbols_of ns) f ≡ true) → is_among (symbols_of_state c) f ≡ true
      all_declared c kept declared f (inl same) = subst (λ k. is_among (symbols_of_state c) k ≡ true) (among_one n.0 f (left_true (symbol_eq n.0 f) false same)) (kept n.0 (itself_then n.0 b))
      all_declared c kept declared f (inr more) = declared f more

-- ---- groups

pub other_than_drawn : (s r q : Supply) (a b : State Term) (ns : Named) → Grown s r a b → NamesOfGroup r q ns → HaveOtherNames ns b
other_than_drawn s r q a b ns g names f among h there same =
    contrary {A = ⊥} (name_among (names_of (symbols_of ns)) h.name)
    (ap (λ n. name_among (names_of (symbols_of ns)) n) same ∙ named_among (symbols_of ns) f among) (names.new h.name (g.gone h there))

pub group_prints : ((i : ℕ) → is_usable (numbered_name i) ≡ true) → ConstantsAreNew → (s r q : Supply) (a b : State Term) (i : ℕ) (t : Term) (x : Group) (ds : List (Command Term)) → IsGroupOf t r (record { group = x; names = q })
    → Later s r → Grown s r a b → Stands a t → ((c : State Term) → Grown s q a c → printable_from true c ds ≡ true) → (begun : Bool) → printable_from begun b (group_commands i x ++ ds) ≡ true
group_prints usable constants s r q a b i t x ds is later g stand rest begun =
    ap (printable_from begun b) (append_assoc (map (λ n. declare n.0) x.symbols) (map (λ u. assert i u) x.asserts) ds)
    ∙ declares_print s q a (map (λ u. assert i u) x.asserts ++ ds) x.symbols begun b (later_grown s r a b g q names.later) come names.apart (other_than_drawn s r q a b x.symbols g names)
    (λ then c exactly grown kept declared. some_print s q a t x.symbols stand come i ds rest x.asserts is.some is.made then c grown declared)
  where
    names : NamesOfGroup r q x.symbols
    names = names_of_group constants t r q x is

    come : All (λ p. MayCome s q (sorts_of_state a) p.0) x.symbols
    come = may_come usable constants t s r q x is later (sorts_of_state a) stand.within
