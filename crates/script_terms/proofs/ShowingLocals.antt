-- What the names that are kept of local bindings say of these.
use Rattle.std.proofs.Common.{◌≡◌, Bool, true, false, ◌||◌, List, [], ◌∷◌, ◌++◌, map, Option, Some, None, option_map, refl, ap, sym, ◌∙◌, subst}
use Rattle.std.proofs.lemmas.List.Elements.{All-head, All-tail, All-weaker}
use Rattle.smt_lex.specs.Names.{Name}
use Rattle.smt_terms.specs.Equal.{name_eq}
use Rattle.smt_terms.specs.Fresh.{Supply}
use Rattle.smt_terms.specs.Sorts.{Symbol}
use Rattle.smt_terms.specs.Term.{Term, constant, constant_of}
use Rattle.term_table.specs.Formulas.{Formulas, tree, symbol_at}
use Rattle.term_walk.specs.Walking.{GrowsTo}
use Rattle.term_subst.specs.Substituting.{IsLater}
use Rattle.script_terms.specs.declared.locals.Local.{Local}
use Rattle.script_terms.specs.declared.locals.Local.TheVariants.{Let, Quantified, Parameter}
use Rattle.script_terms.specs.Scope.{or_later}
use Rattle.script_terms.specs.Reading.{ReadLocal, lets_as, quantified_as, parameter_as, term_among, term_or, bound_as, is_quantified}
use Rattle.script_terms.specs.Read.{local_constants}
use Rattle.script_terms.specs.Known.{IsSpared}
use Rattle.script_terms.specs.Bound.{LocalNames, innermost, node_of, quantified_among, constants_in, LocalMeant, let_meant, quantified_meant, parameter_meant, local_meant, locals_shown, IsLocal, AreLocals, locals_live, ShowsLocals}
use Rattle.script_terms.proofs.Grown.{tree_stays, symbol_stays}
use Rattle.script_terms.proofs.Showing.{spared_stays, constant_spared, constant_stays}

Meant : Type 0
Meant = Name × LocalMeant

-- ---- what a name is read as

abbrev local_term : LocalMeant → Term
local_term (let_meant t) = t
local_term (quantified_meant f) = constant f
local_term (parameter_meant f) = constant f

abbrev bound_in : List (Name × LocalMeant) → Name → Option Term
bound_in [] n = None
bound_in (p ∷ ps) n = or_later (name_eq p.0 n) (local_term p.1) (bound_in ps n)

let_first : (b : Bool) (t : Term) (o p : Option Term) → term_or (or_later b t o) p ≡ or_later b t (term_or o p)
let_first true t o p = refl
let_first false t o p = refl

bound_lets : (ts : List (Name × Term)) (ps : List (Name × LocalMeant)) (n : Name) → term_or (term_among ts n) (bound_in ps n) ≡ bound_in (map (λ p. (p.0, let_meant p.1)) ts ++ ps) n
bound_lets [] ps n = refl
bound_lets (p ∷ ts) ps n = let_first (name_eq p.0 n) p.1 (term_among ts n) (bound_in ps n) ∙ ap (or_later (name_eq p.0 n) p.1) (bound_lets ts ps n)

bound_live : (ls : List ReadLocal) (n : Name) → bound_as ls n ≡ bound_in (locals_live ls) n
bound_live [] n = refl
bound_live (lets_as fs ts ∷ ls) n = ap (term_or (term_among ts n)) (bound_live ls n) ∙ bound_lets ts (locals_live ls) n
bound_live (quantified_as x m ∷ ls) n = ap (or_later (name_eq x.name n) (constant (constant_of (record { name = m; sort = x.sort })))) (bound_live ls n)
bound_live (parameter_as x m ∷ ls) n = ap (or_later (name_eq x.name n) (constant (constant_of (record { name = m; sort = x.sort })))) (bound_live ls n)

term_of : (t : Formulas) (supply : Supply) (l : Local) → IsLocal t supply l → local_term (local_meant t l) ≡ tree t (node_of l)
term_of t supply (Let k) is = refl
term_of t supply (Quantified c) is = sym is.term
term_of t supply (Parameter c) is = sym is.term

bound_shown : (t : Formulas) (supply : Supply) (ps : LocalNames) (n : Name) → AreLocals t supply ps → bound_in (locals_shown t ps) n ≡ option_map (λ l. tree t (node_of l)) (innermost ps n)
bound_shown t supply [] n are = refl
bound_shown t supply (p ∷ ps) n are = by (name_eq p.0 n) (term_of t supply p.1 (All-head (λ q. IsLocal t supply q.1) p ps are)) (bound_shown t supply ps n (All-tail (λ q. IsLocal t supply q.1) p ps are))
  where
    by : (b : Bool) → local_term (local_meant t p.1) ≡ tree t (node_of p.1) → bound_in (locals_shown t ps) n ≡ option_map (λ l. tree t (node_of l)) (innermost ps n)
        → or_later b (local_term (local_meant t p.1)) (bound_in (locals_shown t ps) n) ≡ option_map (λ l. tree t (node_of l)) (or_later b p.1 (innermost ps n))
    by true same further = ap Some same
    by false same further = further

found_local : (t : Formulas) (supply : Supply) (ps : LocalNames) (n : Name) (l : Local) → AreLocals t supply ps → innermost ps n ≡ Some l → IsLocal t supply l
found_local t supply [] n l are is = absurd (cc)
found_local t supply (p ∷ ps) n l are is = by (name_eq p.0 n) is (All-head (λ q. IsLocal t supply q.1) p ps are) (found_local t supply ps n l (All-tail (λ q. IsLocal t supply q.1) p ps are))
  where
    by : (b : Bool) → or_later b p.1 (innermost ps n) ≡ Some l → IsLocal t supply p.1 → (innermost ps n ≡ Some l → IsLocal t supply l) → IsLocal t supply l
    by true is here further = let same : p.1 ≡ l = cc in subst (IsLocal t supply) same here
    by false is here further = further is

pub local_spared : (t : Formulas) (supply : Supply) (l : Local) → IsLocal t supply l → IsSpared t supply (node_of l)
local_spared t supply (Let k) is = is
local_spared t supply (Quantified c) is = constant_spared t supply c is
local_spared t supply (Parameter c) is = constant_spared t supply c is

module _ (t : Formulas) (supply : Supply) (ps : LocalNames) (ls : List ReadLocal) (shows : ShowsLocals t supply ps ls) where
  bound_found : (n : Name) → bound_as ls n ≡ option_map (λ l. tree t (node_of l)) (innermost ps n)
  bound_found n = bound_live ls n ∙ sym (ap (λ qs. bound_in qs n) shows.names) ∙ bound_shown t supply ps n shows.numbers

  pub bound_none : (n : Name) → innermost ps n ≡ None → bound_as ls n ≡ None
  bound_none n is = bound_found n ∙ ap (option_map (λ l. tree t (node_of l))) is

  pub bound_some : (n : Name) (l : Local) → innermost ps n ≡ Some l → bound_as ls n ≡ Some (tree t (node_of l))
  bound_some n l is = bound_found n ∙ ap (option_map (λ l. tree t (node_of l))) is

  pub bound_spared : (n : Name) (l : Local) → innermost ps n ≡ Some l → IsSpared t supply (node_of l)
  bound_spared n l is = local_spared t supply l (found_local t supply ps n l shows.numbers is)

-- ---- names that quantifiers bind

abbrev quantified_in : List (Name × LocalMeant) → Name → Bool
quantified_in [] n = false
quantified_in ((m, quantified_meant f) ∷ ps) n = name_eq m n || quantified_in ps n
quantified_in ((m, let_meant t) ∷ ps) n = quantified_in ps n
quantified_in ((m, parameter_meant f) ∷ ps) n = quantified_in ps n

quantified_lets : (ts : List (Name × Term)) (ps : List (Name × LocalMeant)) (n : Name) → quantified_in (map (λ p. (p.0, let_meant p.1)) ts ++ ps) n ≡ quantified_in ps n
quantified_lets [] ps n = refl
quantified_lets (p ∷ ts) ps n = quantified_lets ts ps n

quantified_live : (ls : List ReadLocal) (n : Name) → is_quantified ls n ≡ quantified_in (locals_live ls) n
quantified_live [] n = refl
quantified_live (lets_as fs ts ∷ ls) n = quantified_live ls n ∙ sym (quantified_lets ts (locals_live ls) n)
quantified_live (quantified_as x m ∷ ls) n = ap (λ b. name_eq x.name n || b) (quantified_live ls n)
quantified_live (parameter_as x m ∷ ls) n = quantified_live ls n

quantified_shown : (t : Formulas) (ps : LocalNames) (n : Name) → quantified_in (locals_shown t ps) n ≡ quantified_among ps n
quantified_shown t [] n = refl
quantified_shown t ((m, Let k) ∷ ps) n = quantified_shown t ps n
quantified_shown t ((m, Quantified c) ∷ ps) n = ap (λ b. name_eq m n || b) (quantified_shown t ps n)
quantified_shown t ((m, Parameter c) ∷ ps) n = quantified_shown t ps n

-- ---- constants of quantified names and parameters

abbrev constants_meant : List (Name × LocalMeant) → List Symbol
constants_meant [] = []
constants_meant ((m, let_meant t) ∷ ps) = constants_meant ps
constants_meant ((m, quantified_meant f) ∷ ps) = f ∷ constants_meant ps
constants_meant ((m, parameter_meant f) ∷ ps) = f ∷ constants_meant ps

constants_lets : (ts : List (Name × Term)) (ps : List (Name × LocalMeant)) → constants_meant (map (λ p. (p.0, let_meant p.1)) ts ++ ps) ≡ constants_meant ps
constants_lets [] ps = refl
constants_lets (p ∷ ts) ps = constants_lets ts ps

constants_live : (ls : List ReadLocal) → local_constants ls ≡ constants_meant (locals_live ls)
constants_live [] = refl
constants_live (lets_as fs ts ∷ ls) = constants_live ls ∙ sym (constants_lets ts (locals_live ls))
constants_live (quantified_as x m ∷ ls) = ap (λ fs. constant_of (record { name = m; sort = x.sort }) ∷ fs) (constants_live ls)
constants_live (parameter_as x m ∷ ls) = ap (λ fs. constant_of (record { name = m; sort = x.sort }) ∷ fs) (constants_live ls)

constants_shown : (t : Formulas) (ps : LocalNames) → constants_meant (locals_shown t ps) ≡ map (symbol_at t) (constants_in ps)
constants_shown t [] = refl
constants_shown t ((m, Let k) ∷ ps) = constants_shown t ps
constants_shown t ((m, Quantified c) ∷ ps) = ap (λ fs. symbol_at t c.symbol ∷ fs) (constants_shown t ps)
constants_shown t ((m, Parameter c) ∷ ps) = ap (λ fs. symbol_at t c.symbol ∷ fs) (constants_shown t ps)

module _ (t : Formulas) (supply : Supply) (ps : LocalNames) (ls : List ReadLocal) (shows : ShowsLocals t supply ps ls) where
  pub quantified_found : (n : Name) → is_quantified ls n ≡ quantified_among ps n
  quantified_found n = quantified_live ls n ∙ sym (ap (λ qs. quantified_in qs n) shows.names) ∙ quantified_shown t ps n

  pub constants_found : local_constants ls ≡ map (symbol_at t) (constants_in ps)
  constants_found = constants_live ls ∙ sym (ap constants_meant shows.names) ∙ constants_shown t ps

-- ---- a table that gained, and names that were drawn

module _ (t u : Formulas) (supply left : Supply) (grows : GrowsTo t u) (later : IsLater supply left) where
  local_stays : (l : Local) → IsLocal t supply l → IsLocal u left l
  local_stays (Let k) is = spared_stays t u supply left grows later k is
  local_stays (Quantified c) is = constant_stays t u supply left grows later c is
  local_stays (Parameter c) is = constant_stays t u supply left grows later c is

  meant_stays : (l : Local) → IsLocal t supply l → local_meant u l ≡ local_meant t l
  meant_stays (Let k) is = ap let_meant (tree_stays t u grows k is.node)
  meant_stays (Quantified c) is = ap quantified_meant (symbol_stays t u grows c.symbol is.symbol)
  meant_stays (Parameter c) is = ap parameter_meant (symbol_stays t u grows c.symbol is.symbol)

  shown_stay : (ps : LocalNames) → AreLocals t supply ps → locals_shown u ps ≡ locals_shown t ps
  shown_stay [] are = refl
  shown_stay (p ∷ ps) are =
      ap (λ m. (p.0, m) ∷ locals_shown u ps) (meant_stays p.1 (All-head (λ q. IsLocal t supply q.1) p ps are))
      ∙ ap (λ qs. (p.0, local_meant t p.1) ∷ qs) (shown_stay ps (All-tail (λ q. IsLocal t supply q.1) p ps are))

  pub locals_stay : (ps : LocalNames) (ls : List ReadLocal) → ShowsLocals t supply ps ls → ShowsLocals u left ps ls
  locals_stay ps ls shows = record {
    names = shown_stay ps shows.numbers ∙ shows.names;
    numbers = All-weaker (λ p. IsLocal t supply p.1) (λ p. IsLocal u left p.1) (λ p is. local_stays p.1 is) ps shows.numbers;
    own = shows.own;
  }
