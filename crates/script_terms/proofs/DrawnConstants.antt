-- The constants of quantified names and of parameters: they have nodes, and names that the supply doesn't give.
use Rattle.std.proofs.Common.{◌≡◌, ℕ, zero, suc, ◌+◌, ◌*◌, ◌/◌, ◌%◌, ◌^◌, ◌<◌, ◌≤◌, Bool, true, false, not, ◌&&◌, ◌==◌, nat_lt, List, [], ◌∷◌, ◌++◌, map, length, get_or, take, drop, refl, ap, sym, ◌∙◌, subst, All, arith}
use Rattle.std.specs.Prelude.{nat_le, Ok, IsOk}
use Rattle.std.specs.Fmt.{decimal, digits, digits_onto}
use Rattle.std.proofs.lemmas.Bool.{ltb-true, ltb-false, ne_eqb}
use Rattle.std.proofs.lemmas.Bool.Decides.{nat_tests}
use Rattle.std.proofs.lemmas.List.{append_assoc, map-append, take_more, length-map, length-take-le}
use Rattle.std.proofs.lemmas.List.Elements.{All-nil, All-weaker, All-same, All-push}
use Rattle.std.proofs.Math.Seq.{drop-cons}
use Rattle.std.proofs.Math.Nat.{div-lt_iff_lt-mul, div-lt_self, pow-suc}
use Rattle.smt_lex.specs.Lex.{Token}
use Rattle.smt_lex.specs.Names.{Name}
use Rattle.smt_terms.specs.declared.ids.NodeId.{NodeId}
use Rattle.smt_terms.specs.declared.ids.SymId.{SymId}
use Rattle.smt_terms.specs.declared.op.Op.TheVariants.{Sym}
use Rattle.smt_terms.specs.Fresh.{Supply, after_draw, NeverGives}
use Rattle.smt_terms.specs.Numeral.{digits_before, numeral}
use Rattle.smt_terms.specs.Rank.{rank, is_minus_of, is_sort, width, most_bits}
use Rattle.smt_terms.specs.Sorts.{Sort, bool, int, bit_vector, array, free_sort, Symbol, Variable}
use Rattle.smt_terms.specs.Subst.{parameter}
use Rattle.smt_terms.specs.Term.{symbol, constant_of, constant as constant_term}
use Rattle.smt_terms.proofs.Fresh.{number-rises}
use Rattle.smt_terms.proofs.Tests.{both_true}
use Rattle.smt_values.specs.SortIds.{sort_at, is_plain, IsPlain}
use Rattle.smt_values.proofs.SortIds.{sort_is}
use Rattle.term_table.specs.Formulas.{Formulas, no_symbol, kind, symbol_at, tree, term_over, IsNode, IsSymbol, IsTable, Makes}
use Rattle.term_subst.specs.Substituting.{IsLater}
use Rattle.script_terms.specs.BinderSteps.{drawn_if, drawn_for, symbol_first, all_drawn}
use Rattle.term_walk.specs.Walking.{GrowsTo}
use Rattle.script_terms.specs.declared.binders.SortedName.{SortedName}
use Rattle.script_terms.specs.declared.locals.Constant.{Constant}
use Rattle.script_terms.specs.Bound.{symbols_seen, name_at, variable_seen, variables_seen}
use Rattle.script_terms.specs.Known.{parameters_of, IsConstant}
use Rattle.script_terms.specs.Places.{SparesText}
use Rattle.script_terms.specs.Read.{name_drawn_if, constant_names, renamed}
use Rattle.script_terms.proofs.Grown.{never_later, same_map, symbol_stays}
use Rattle.script_terms.proofs.Showing.{constant_stays}

-- ---- nodes

sort-width : (s : Sort) → is_sort s ≡ true → nat_le (width s) most_bits ≡ true
sort-width bool fine = refl
sort-width int fine = refl
sort-width (bit_vector w) fine = (both_true (nat_le 1 w) (nat_le w most_bits) fine).1
sort-width (array i e) fine = refl
sort-width (free_sort n) fine = refl

rank-named : (n : Name) (s : Sort) → nat_le (width s) most_bits ≡ true → rank (symbol (record { name = n; args = []; result = s })) [] ≡ Ok s
unfolding rank
rank-named n s narrow = rw narrow refl

rank-constant : (g : Symbol) → g.args ≡ [] → is_sort g.result ≡ true → rank (symbol g) [] ≡ Ok g.result
rank-constant g args fine = ap (λ (ss : List Sort). rank (symbol (record { name = g.name; args = ss; result = g.result })) []) args ∙ rank-named g.name g.result (sort-width g.result fine)

pub makes-constant : (t : Formulas) (f : SymId) → IsTable t → IsSymbol t f → (symbol_at t f).args ≡ [] → Makes t (Sym f) []
unfolding kind is_minus_of
makes-constant t f table within args =
    let result = (table.symbols f.0 within).result in
    let fine : is_sort (symbol_at t f).result ≡ true = ap is_sort result.2 ∙ sort_is t.sorts table.sorts result.0.0 result.1 in
    record {
      kids = All-nil _;
      numbers = within;
      ranked = subst IsOk (sym (rank-constant (symbol_at t f) args fine)) refl;
      minus = refl;
    }

-- ---- constants

pub constant-made : (t u : Formulas) (supply : Supply) (f : SymId) (k : NodeId) → IsSymbol t f → (symbol_at t f).args ≡ [] → NeverGives supply (symbol_at t f).name → u.symbols ≡ t.symbols → IsNode u k → tree u k ≡ term_over t (Sym f) [] → IsConstant u supply (record { symbol = f; node = k })
unfolding kind
constant-made t u supply f k within args spared same node term =
    let there : symbol_at u f ≡ symbol_at t f = ap (λ fs. get_or fs f.0 no_symbol) same in
    record {
      symbol = subst (λ (fs : List Symbol). f.0 < length fs) (sym same) within;
      node = node;
      term = term ∙ ap constant_term (sym there);
      args = ap (λ (g : Symbol). g.args) there ∙ args;
      spared = subst (λ (g : Symbol). NeverGives supply g.name) (sym there) spared;
    }

-- ---- drawn names, one by one

drawn_names : (b : Bool) (is_taken : Name → Bool) (x : Variable) (xs : List Variable) (s : Supply)
    → (name_drawn_if b x.name s (λ r. constant_names is_taken xs r)).1 ≡ (constant_names is_taken xs (drawn_if b x s).1).1
drawn_names true is_taken x xs s = refl
drawn_names false is_taken x xs s = refl

drawn_symbols : (b : Bool) (is_taken : Name → Bool) (x : Variable) (xs : List Variable) (s : Supply)
    → map constant_of (renamed (x ∷ xs) (name_drawn_if b x.name s (λ r. constant_names is_taken xs r)).0) ≡ (drawn_if b x s).0 ∷ map constant_of (renamed xs (constant_names is_taken xs (drawn_if b x s).1).0)
drawn_symbols true is_taken x xs s = refl
drawn_symbols false is_taken x xs s = refl

-- the names that are left, and the constants
pub drawn-left : (is_taken : Name → Bool) (xs : List Variable) (s : Supply) → (constant_names is_taken xs s).1 ≡ (all_drawn is_taken xs s).1
drawn-left is_taken [] s = refl
drawn-left is_taken (x ∷ xs) s = drawn_names (is_taken x.name) is_taken x xs s ∙ drawn-left is_taken xs (drawn_for is_taken x s).1

pub drawn-symbols : (is_taken : Name → Bool) (xs : List Variable) (s : Supply) → map constant_of (renamed xs (constant_names is_taken xs s).0) ≡ (all_drawn is_taken xs s).0
drawn-symbols is_taken [] s = refl
drawn-symbols is_taken (x ∷ xs) s = drawn_symbols (is_taken x.name) is_taken x xs s ∙ ap (λ fs. (drawn_for is_taken x s).0 ∷ fs) (drawn-symbols is_taken xs (drawn_for is_taken x s).1)

-- ---- names of parameters

digit_plain : (d : ℕ) → d < 10 → (not (48 + d == 124) && not (48 + d == 92)) ≡ true
digit_plain d small = rw (ne_eqb (48 + d) 124 (λ is. omega arith), ne_eqb (48 + d) 92 (λ is. omega arith)) refl

remainder_small : (n : ℕ) → n % 10 < 10
remainder_small n = omega arith

digits_plain : (room n : ℕ) (after : List ℕ) → is_plain after ≡ true → is_plain (digits_before room n after) ≡ true
digits_plain zero n after plain = plain
digits_plain (suc room) n after plain =
    by (nat_lt n 10) refl (digits_plain room (n / 10) ((48 + n % 10) ∷ after) (rw (digit_plain (n % 10) (remainder_small n)) plain))
  where
    by : (b : Bool) → nat_lt n 10 ≡ b → is_plain (digits_before room (n / 10) ((48 + n % 10) ∷ after)) ≡ true → is_plain (elim b [ true ↦ (48 + n) ∷ after | false ↦ digits_before room (n / 10) ((48 + n % 10) ∷ after) ]) ≡ true
    by true small more = rw (digit_plain n (ltb-true n 10 small)) plain
    by false large more = more

pub parameter-plain : (i : ℕ) → IsPlain (64 ∷ 112 ∷ numeral i)
parameter-plain i = digits_plain (suc i) i [] refl

-- ---- numerals as they are printed

onto_last : (k n : ℕ) (after : List ℕ) → n < 10 → digits_onto (suc k) 10 false n after ≡ (48 + n) ∷ after
onto_last k n after lt = grind (arith, nat_tests)

onto_more : (k n : ℕ) (after : List ℕ) → 10 ≤ n → digits_onto (suc k) 10 false n after ≡ digits_onto k 10 false (n / 10) ((48 + n % 10) ∷ after)
onto_more k n after le = grind (arith, nat_tests)

before_last : (room n : ℕ) (after : List ℕ) → n < 10 → digits_before (suc room) n after ≡ (48 + n) ∷ after
before_last room n after lt = grind (arith, nat_tests)

before_more : (room n : ℕ) (after : List ℕ) → 10 ≤ n → digits_before (suc room) n after ≡ digits_before room (n / 10) ((48 + n % 10) ∷ after)
before_more room n after le = grind (arith, nat_tests)

fewer : (k n : ℕ) → n < 10 ^ suc k → n / 10 < 10 ^ k
fewer k n h =
    let next : 10 ^ suc k ≡ 10 ^ k * 10 = pow-suc 10 k in
    (div-lt_iff_lt-mul {k = 10} {x = n} {y = 10 ^ k} (omega arith)).1 (omega arith)

-- the digits of a number that has no more than so many
digits-numeral : (k room n : ℕ) (after : List ℕ) → n < 10 ^ suc k → n < room → digits_onto (suc k) 10 false n after ≡ digits_before room n after
digits-numeral k zero n after few within = absurd (omega arith)
digits-numeral zero (suc room) n after few within = onto_last zero n after few ∙ sym (before_last room n after few)
digits-numeral (suc k) (suc room) n after few within = by (nat_lt n 10) refl (digits-numeral k room (n / 10) ((48 + n % 10) ∷ after))
  where
    by : (b : Bool) → nat_lt n 10 ≡ b
        → (n / 10 < 10 ^ suc k → n / 10 < room → digits_onto (suc k) 10 false (n / 10) ((48 + n % 10) ∷ after) ≡ digits_before room (n / 10) ((48 + n % 10) ∷ after))
        → digits_onto (suc (suc k)) 10 false n after ≡ digits_before (suc room) n after
    by true e rest = let lt : n < 10 = ltb-true n 10 e in onto_last (suc k) n after lt ∙ sym (before_last room n after lt)
    by false e rest =
        let le : 10 ≤ n = ltb-false n 10 e in
        let less : n / 10 < n = div-lt_self (omega arith) (omega arith) in
        onto_more (suc k) n after le ∙ rest (fewer (suc k) n few) (omega arith) ∙ sym (before_more room n after le)

pub decimal-numeral : (n : ℕ) → n < 2 ^ 64 → decimal n ≡ numeral n
unfolding digits
decimal-numeral n h = digits-numeral 63 (suc n) n [] (omega arith) (omega arith)

-- ---- parameters, one by one

pub parameters-put : (i : ℕ) (ss : List Sort) (s : Sort) → parameters_of i (ss ++ s ∷ []) ≡ parameters_of i ss ++ parameter (i + length ss) s ∷ []
parameters-put i [] s = let first : i ≡ i + 0 = omega arith in ap (λ n. parameter n s ∷ []) first
parameters-put i (r ∷ ss) s =
    let next : suc i + length ss ≡ i + suc (length ss) = omega arith in
    ap (λ fs. parameter i r ∷ fs) (parameters-put (suc i) ss s ∙ ap (λ n. parameters_of (suc i) ss ++ parameter n s ∷ []) next)

-- ---- supplies

pub drawn-later : (s : Supply) → IsLater s (after_draw s)
drawn-later s = let rises : s.number < (after_draw s).number = number-rises s in record { taken = refl; number = omega arith }

pub spares_later : (ts : List Token) (s r : Supply) → IsLater s r → SparesText ts s → SparesText ts r
spares_later ts s r later spares i n within is = never_later s r later n (spares i n within is)

-- ---- one constant more

pub symbols_stay : (u w : Formulas) (supply : Supply) (cs : List Constant) → GrowsTo u w → All (IsConstant u supply) cs → symbols_seen w cs ≡ symbols_seen u cs
symbols_stay u w supply cs grows all =
    same_map (λ c. symbol_at w c.symbol) (λ c. symbol_at u c.symbol) cs (All-weaker (IsConstant u supply) (λ c. symbol_at w c.symbol ≡ symbol_at u c.symbol) (λ c is. symbol_stays u w grows c.symbol is.symbol) cs all)

pub symbols-put : (u w : Formulas) (cs ds : List Constant) (c : Constant) (f : Symbol) → symbols_seen w cs ≡ symbols_seen u cs → symbol_at w c.symbol ≡ f → ds ≡ cs ++ c ∷ [] → symbols_seen w ds ≡ symbols_seen u cs ++ f ∷ []
symbols-put u w cs ds c f stay last is =
    ap (symbols_seen w) is ∙ map-append (λ d. symbol_at w d.symbol) cs (c ∷ []) ∙ (λ i. stay i ++ last i ∷ [])

pub same_variable : (t u : Formulas) (ts : List Token) (x : SortedName) → u.sorts ≡ t.sorts → variable_seen u ts x ≡ variable_seen t ts x
same_variable t u ts x same = ap (λ (ss : List Sort). record { name = name_at ts x.name; sort = sort_at ss x.sort }) same

pub constants-put : (w : Formulas) (cs ds : List Constant) (c : Constant) (u : Formulas) (s r : Supply) → GrowsTo u w → IsLater s r → All (IsConstant u s) cs → IsConstant w r c → ds ≡ cs ++ c ∷ [] → All (IsConstant w r) ds
constants-put w cs ds c u s r grows later all last is =
    All-same (IsConstant w r) ds (cs ++ c ∷ []) is (All-push (IsConstant w r) cs c (All-weaker (IsConstant u s) (IsConstant w r) (constant_stays u w s r grows later) cs all) last)

module _ (is_taken : Name → Bool) (t : Formulas) (ts : List Token) (xs : List SortedName) (i : ℕ) (d : SortedName) (s : Supply) where
  abbrev now : SortedName
  now = get_or xs i d

  rest : i < length xs → all_drawn is_taken (variables_seen t ts (drop i xs)) s ≡ symbol_first (drawn_for is_taken (variable_seen t ts now) s).0 (all_drawn is_taken (variables_seen t ts (drop (i + 1) xs)) (drawn_for is_taken (variable_seen t ts now) s).1)
  rest within = let next : suc i ≡ i + 1 = omega arith in ap (λ ys. all_drawn is_taken (variables_seen t ts ys) s) (drop-cons xs i d within ∙ ap (λ n. now ∷ drop n xs) next)

  pub drawn-next : (q fs gs : List Symbol) (r : Supply) → i < length xs → q ≡ fs ++ (all_drawn is_taken (variables_seen t ts (drop i xs)) s).0 → gs ≡ fs ++ (drawn_for is_taken (variable_seen t ts now) s).0 ∷ [] → r ≡ (drawn_for is_taken (variable_seen t ts now) s).1 → q ≡ gs ++ (all_drawn is_taken (variables_seen t ts (drop (i + 1) xs)) r).0
  drawn-next q fs gs r within so put left =
      let f = (drawn_for is_taken (variable_seen t ts now) s).0 in
      let left_then = (drawn_for is_taken (variable_seen t ts now) s).1 in
      so
      ∙ ap (λ (p : List Symbol × Supply). fs ++ p.0) (rest within)
      ∙ sym (append_assoc fs (f ∷ []) (all_drawn is_taken (variables_seen t ts (drop (i + 1) xs)) left_then).0)
      ∙ ap (λ (hs : List Symbol). hs ++ (all_drawn is_taken (variables_seen t ts (drop (i + 1) xs)) left_then).0) (sym put)
      ∙ ap (λ (q : Supply). gs ++ (all_drawn is_taken (variables_seen t ts (drop (i + 1) xs)) q).0) (sym left)

  pub left-next : (q r : Supply) → i < length xs → q ≡ (all_drawn is_taken (variables_seen t ts (drop i xs)) s).1 → r ≡ (drawn_for is_taken (variable_seen t ts now) s).1 → q ≡ (all_drawn is_taken (variables_seen t ts (drop (i + 1) xs)) r).1
  left-next q r within so left =
      so
      ∙ ap (λ (p : List Symbol × Supply). p.1) (rest within)
      ∙ ap (λ (p : Supply). (all_drawn is_taken (variables_seen t ts (drop (i + 1) xs)) p).1) (sym left)

-- ---- one parameter more

pub parameters-next : (to : SortedName → Sort) (xs : List SortedName) (i : ℕ) (d : SortedName) → i < length xs → parameters_of 0 (map to (take (i + 1) xs)) ≡ parameters_of 0 (map to (take i xs)) ++ parameter i (to (get_or xs i d)) ∷ []
parameters-next to xs i d within =
    let count : 0 + length (map to (take i xs)) ≡ i = omega (arith, length-map (take i xs) to, length-take-le i xs (omega arith)) in
    ap (λ ys. parameters_of 0 (map to ys)) (take_more xs i d within)
    ∙ ap (parameters_of 0) (map-append to (take i xs) (get_or xs i d ∷ []))
    ∙ parameters-put 0 (map to (take i xs)) (to (get_or xs i d))
    ∙ ap (λ n. parameters_of 0 (map to (take i xs)) ++ parameter n (to (get_or xs i d)) ∷ []) count
