-- Where each new constant has the value of its application, what took the places of the inputs says what they say.
use Rattle.std.proofs.Common.{◌≡◌, Bool, true, false, not, ◌||◌, List, [], ◌∷◌, All, Option, Some, None, refl, ap, sym, ◌∙◌, subst}
use Rattle.std.specs.Prelude.{unwrap_or}
use Rattle.std.proofs.lemmas.List.Elements.{All-nil}
use Rattle.smt_terms.specs.Connectives.{implies, equal}
use Rattle.smt_terms.specs.Equal.{symbol_eq}
use Rattle.smt_terms.specs.Free.{is_among}
use Rattle.smt_terms.specs.Groups.{Named, constant_for, constant_or, with_constants, with_constants_each}
use Rattle.smt_terms.specs.Models.{Model, background, number_value, graph_or_default, IsModel}
use Rattle.smt_terms.specs.Operators.{op_value}
use Rattle.smt_terms.specs.Rank.{sorts_of}
use Rattle.smt_terms.specs.Shapes.{is_application, no_application}
use Rattle.smt_terms.specs.Sorts.{Sort, Symbol}
use Rattle.smt_terms.specs.Term.{Head, op, symbol, const_array, Term, apply, quantified, Terms, none, ◌⨾◌, constant}
use Rattle.smt_terms.specs.Val.{no_variables, head_value, val, vals}
use Rattle.smt_terms.specs.Values.{Value, is_true, same, all_same}
use Rattle.smt_terms.proofs.Among.{is_among-with_more}
use Rattle.smt_terms.proofs.Depends.{val_agrees}
use Rattle.smt_terms.proofs.Equal.{Decides-symbol_eq, symbol_itself}
use Rattle.smt_terms.proofs.SameOperands.{head_gives}
use Rattle.smt_terms.proofs.Sorted.{applied}
use Rattle.smt_terms.proofs.Tests.{left_true}
use Rattle.smt_terms.proofs.Valid.{vals_valid}
use Rattle.term_groups.specs.Drawing.{ConstantsAreNew}
use Rattle.term_groups.specs.Grouping.{holds_in, terms_of}
use Rattle.ackermann.specs.Ackermann.{applications, applications_of, equations, all_equal, pair, pairs}
use Rattle.ackermann.specs.Laws.{IsValued, ValuesAreModels}
use Rattle.ackermann.specs.Removals.{Removal, all_inputs, all_symbols, all_asserts, is_free_in}
use Rattle.ackermann.proofs.FromInputs.{IsFrom, AreFrom, from-operands, from-first, from-others}
use Rattle.ackermann.proofs.GatheredTerms.{gathered-from}
use Rattle.ackermann.proofs.PairValues.{none_assigned, pair_holds}
use Rattle.ackermann.proofs.PlainTerms.{constant-args, plain-args}
use Rattle.ackermann.proofs.RemovalChains.{AreUses, IsCovered, IsChain, chain}
use Rattle.ackermann.proofs.ReplacedUses.{not-used, closed-operands, closed-first, closed-others, built-parts}
use Rattle.ackermann.proofs.UseLists.{HasAll, All-passes, passes-All, found-holds, not_false}
use Rattle.term_groups.proofs.NamedTerms.{All-where_so}
use Rattle.ackermann.proofs.UsePairs.{pairs-all}
use Rattle.ackermann.proofs.UseSorts.{IsPairOf, all-pairs_of, IsUseOf, use_of}

implied : (a b : Bool) → (a ≡ true → b ≡ true) → (not a || b) ≡ true
implied true b f = f refl
implied false b f = refl

module _ (rs : List Removal) (m n : Model) (model : IsModel m) (valued : IsValued m n rs) (uses : AreUses (all_inputs rs) (all_symbols rs)) where
  abbrev inputs : List Term
  inputs = all_inputs rs

  abbrev ns : Named
  ns = all_symbols rs

  -- the constant has in n the value that its term has in m
  abbrev HasValue : Symbol × Term → Type 0
  HasValue p = n.graphs p.0 ≡ Some (record { rows = []; otherwise = val m p.1 no_variables })

  backgrounds : background n ≡ background m
  backgrounds = λ i. record { sizes = valued.sizes i; div_by_zero = number_value (valued.div_by_zero i); mod_by_zero = number_value (valued.mod_by_zero i) }

  kept_symbol : (f : Symbol) → is_free_in inputs f ≡ true → f.args ≡ [] → (ss : List Sort) (vs : List Value) → head_value n no_variables (symbol f) ss vs ≡ head_value m no_variables (symbol f) ss vs
  kept_symbol f among empty ss [] = λ i. graph_or_default f (valued.sizes i) (valued.constants f among empty i) []
  kept_symbol f among empty ss (v ∷ vs) = λ i. graph_or_default f (valued.sizes i) (valued.constants f among empty i) (v ∷ vs)

  kept_head : (h : Head) (ts : Terms) → IsFrom inputs (apply h ts) → is_application h ts ≡ false → (ss : List Sort) → head_value n no_variables h ss (vals m ts no_variables) ≡ head_value m no_variables h ss (vals m ts no_variables)
  kept_head (op o) ts from plain ss = λ i. op_value (backgrounds i) o ss (vals m ts no_variables)
  kept_head (const_array s) ts from plain ss = refl
  kept_head (symbol f) (t ⨾ ts) from plain ss = absurd cc
  kept_head (symbol f) none from plain ss =
      kept_symbol f (from.symbols f (is_among-with_more (f ∷ []) [] f ∙ left_true (is_among (f ∷ []) f) false (left_true (symbol_eq f f) false (symbol_itself f)))) (constant-args f from.sort from.has) ss []

  constant_value : (f : Symbol) (u : Term) → HasValue (f, u) → val n (constant f) no_variables ≡ val m u no_variables
  constant_value f u e = ap (λ o. graph_or_default f n.sizes o []) e

  at_head : (h : Head) (ts : Terms) → IsFrom inputs (apply h ts) → HasAll (terms_of ns) (applications (apply h ts)) → vals n (with_constants_each ns ts) no_variables ≡ vals m ts no_variables → (o : Option Symbol) → constant_for ns (apply h ts) ≡ o → val n (constant_or o (apply h (with_constants_each ns ts))) no_variables ≡ val m (apply h ts) no_variables
  at_head h ts from closed operands (Some f) found = constant_value f (apply h ts) (found-holds HasValue ns (apply h ts) f valued.given found)
  at_head h ts from closed operands None found =
      let parts = applied h ts from.sort from.has in
      let sorts : sorts_of (with_constants_each ns ts) ≡ sorts_of ts =
      (built-parts inputs ns uses.constants ts parts.sorts parts.operands (from-operands inputs h ts from) (closed-operands ns h ts closed)).sorts ∙ sym parts.operands in
      (λ i. head_value n no_variables h (unwrap_or (sorts i) []) (operands i))
      ∙ kept_head h ts from (not-used ns h ts closed found) (unwrap_or (sorts_of ts) [])

  mutual
    pub replaced_value : (u : Term) → IsFrom inputs u → HasAll (terms_of ns) (applications u) → val n (with_constants ns u) no_variables ≡ val m u no_variables
    replaced_value (apply h ts) from closed =
        at_head h ts from closed (replaced_values ts (from-operands inputs h ts from) (closed-operands ns h ts closed)) (constant_for ns (apply h ts)) refl
    replaced_value (quantified q xs u) from closed =
        val_agrees (quantified q xs u) from.sort n m no_variables no_variables from.has (record {
          backgrounds = backgrounds;
          symbols = λ f among vs len. kept_symbol f (from.symbols f among) (plain-args (quantified q xs u) from.sort from.has (not_false (no_application u) from.outside) f among) [] vs;
        })

    pub replaced_values : (us : Terms) → AreFrom inputs us → HasAll (terms_of ns) (applications_of us) → vals n (with_constants_each ns us) no_variables ≡ vals m us no_variables
    replaced_values none from closed = refl
    replaced_values (u ⨾ us) from closed =
        let first = replaced_value u (from-first inputs u us from) (closed-first ns u us closed) in
        let others = replaced_values us (from-others inputs u us from) (closed-others ns u us closed) in
        λ i. first i ∷ others i

  -- ---- what is said of two constants

  abbrev HoldsThere : Term → Type 0
  HoldsThere r = holds_in n r ≡ true

  said : (f u v : Symbol) (ts ss : Terms) → IsUseOf inputs ns u f ts → IsUseOf inputs ns v f ss → HasValue (u, apply (symbol f) ts) → HasValue (v, apply (symbol f) ss) → HoldsThere (implies (all_equal (equations ns ts ss)) (equal (constant u) (constant v)))
  said f u v ts ss first second left right =
      let rs = with_constants_each ns ts in
      let qs = with_constants_each ns ss in
      pair_holds n ns u v ts ss f.args f.result first.replaced.sorts second.replaced.sorts first.constant.sort second.constant.sort
      ∙ implied (all_same f.args n.sizes (vals n rs no_variables) (vals n qs no_variables)) (same f.result n.sizes (val n (constant u) no_variables) (val n (constant v) no_variables))
      (λ alike.
      let in_first = replaced_values ts first.from first.closed in
      let in_second = replaced_values ss second.from second.closed in
      let operands : all_same f.args m.sizes (vals m ts no_variables) (vals m ss no_variables) ≡ true =
      sym (λ i. all_same f.args (valued.sizes i) (in_first i) (in_second i)) ∙ alike in
      let whole_first = constant_value u (apply (symbol f) ts) left ∙ ap (λ o. head_value m no_variables (symbol f) (unwrap_or o []) (vals m ts no_variables)) first.operands in
      let whole_second = constant_value v (apply (symbol f) ss) right ∙ ap (λ o. head_value m no_variables (symbol f) (unwrap_or o []) (vals m ss no_variables)) second.operands in
      (λ i. same f.result (valued.sizes i) (whole_first i) (whole_second i))
      ∙ head_gives m no_variables (symbol f) f.args f.result (vals m ts no_variables) (vals m ss no_variables) model first.ranked first.fine_args
      (vals_valid ts f.args m no_variables model (none_assigned m) first.operands)
      (vals_valid ss f.args m no_variables model (none_assigned m) second.operands) operands)

  record IsGiven (p : Symbol × Term) : Type 0 where
    pair_of : IsPairOf inputs ns p
    value : HasValue p

  pair_said : (u : Symbol) (a : Term) (v : Symbol) (b : Term) → IsGiven (u, a) → IsGiven (v, b) → All HoldsThere (pair ns u a v b)
  pair_said u (apply (symbol f) ts) v (apply (symbol g) ss) first second =
      All-where_so HoldsThere (symbol_eq f g) (implies (all_equal (equations ns ts ss)) (equal (constant u) (constant v)))
      (λ same.
      let is : g ≡ f = sym ((Decides-symbol_eq f g).0 same) in
      said f u v ts ss (use_of inputs ns uses u f ts first.pair_of) (subst (λ k. IsUseOf inputs ns v k ss) is (use_of inputs ns uses v g ss second.pair_of))
      first.value (subst (λ k. HasValue (v, apply (symbol k) ss)) is second.value))
  pair_said u _ v _ first second = All-nil HoldsThere

  pub all_said : All HoldsThere (pairs ns [] ns)
  all_said =
      pairs-all HoldsThere ns IsGiven (λ p q first second. pair_said p.0 p.1 q.0 q.1 first second) [] ns (All-nil IsGiven)
      (λ k d less. record { pair_of = all-pairs_of inputs ns uses k d less; value = valued.given k d less })

  pub input_said : (t : Term) → IsCovered inputs ns t → holds_in m t ≡ true → HoldsThere (with_constants ns t)
  input_said t covered holds = ap is_true (replaced_value t covered.from covered.closed) ∙ holds

pub values-are-models : ConstantsAreNew → ValuesAreModels
values-are-models laws rs m n removals model valued holds =
    let ns = all_symbols rs in
    let c : IsChain (all_inputs rs) [] rs ns = chain laws rs removals in
    let each = passes-All (holds_in m) (all_inputs rs) holds in
    All-passes (holds_in n) (all_asserts rs)
    (subst (All (λ r. holds_in n r ≡ true)) (sym c.asserts)
    (gathered-from (λ r. holds_in n r ≡ true) ns [] rs (all_said rs m n model valued c.uses)
    (λ k d less. input_said rs m n model valued c.uses _ (c.covered k d less) (each k d less))))
