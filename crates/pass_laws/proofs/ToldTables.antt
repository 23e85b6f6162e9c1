-- Rows and terms that are asked for, where what took the places of operands is what the live constants make of them.
use Rattle.std.proofs.Common.{◌≡◌, ◌∙◌, sym, ap, refl, cond, List, [], ◌∷◌, ◌++◌, map, flat_map, All}
use Rattle.std.proofs.lemmas.List.Elements.{All-head, All-tail, All-weaker}
use Rattle.smt_terms.specs.Groups.{Named, with_constants_each}
use Rattle.smt_terms.specs.Models.{Row, Model}
use Rattle.smt_terms.specs.Sorts.{Symbol}
use Rattle.smt_terms.specs.Term.{Term, apply, quantified, Terms, none, ◌⨾◌, list, constant}
use Rattle.smt_terms.specs.Val.{Env, no_variables, val, vals}
use Rattle.smt_terms.specs.Values.{Value, default_value}
use Rattle.ackermann.specs.Tables.{applies, operands_of, application_row, with_rows, application_graph}
use Rattle.pass_laws.specs.Carry.{asked_for}
use Rattle.pass_laws.specs.LiveGroups.{Operands, row_by, graph_by}
use Rattle.pass_laws.specs.Passed.{Replacement}

pub alike_each : {A B : Type 0} (h g : A → List B) (xs : List A) → All (λ x. h x ≡ g x) xs → flat_map h xs ≡ flat_map g xs
alike_each h g [] all = refl
alike_each h g (x ∷ xs) all = λ i. All-head (λ y. h y ≡ g y) x xs all i ++ alike_each h g xs (All-tail (λ y. h y ≡ g y) x xs all) i

vals_of : (m : Model) (ts : Terms) (e : Env) → map (λ u. val m u e) (list ts) ≡ vals m ts e
vals_of m none e = refl
vals_of m (t ⨾ ts) e = ap (λ vs. val m t e ∷ vs) (vals_of m ts e)

module _ (ops : Operands) (ns : Named) where
  abbrev pub IsToldBy : Symbol × Term → Type 0
  IsToldBy n = ops n.0 ≡ operands_of ns n.1

  same_row : (m : Model) (f v : Symbol) (t : Term) → ops v ≡ operands_of ns t → row_by m ops f v t ≡ application_row m ns f v t
  same_row m f v (apply h ts) told =
      ap (λ (ks : List Value). cond (applies f h) (record { keys = ks; result = val m (constant v) no_variables } ∷ []) [])
      (ap (map (λ u. val m u no_variables)) told ∙ vals_of m (with_constants_each ns ts) no_variables)
  same_row m f v (quantified q xs t) told = refl

  pub same_graph : (m : Model) (f : Symbol) → All IsToldBy ns → graph_by m ops ns f ≡ application_graph m ns f
  same_graph m f told =
      ap (λ (rows : List Row). record { rows = with_rows f.args m.sizes [] rows; otherwise = default_value f.result })
      (alike_each (λ (n : Symbol × Term). row_by m ops f n.0 n.1) (λ n. application_row m ns f n.0 n.1) ns
      (All-weaker IsToldBy (λ (n : Symbol × Term). row_by m ops f n.0 n.1 ≡ application_row m ns f n.0 n.1) (λ n is. same_row m f n.0 n.1 is) ns told))

  abbrev pub AreToldBy : Replacement → Type 0
  AreToldBy x = All IsToldBy x.group.symbols

  pub same_asked : (xs : List Replacement) → All AreToldBy xs
      → flat_map (λ (x : Replacement). flat_map (λ n. asked_for x.number (operands_of ns n.1)) x.group.symbols) xs ≡ flat_map (λ (x : Replacement). flat_map (λ n. asked_for x.number (ops n.0)) x.group.symbols) xs
  same_asked xs told =
      alike_each (λ (x : Replacement). flat_map (λ n. asked_for x.number (operands_of ns n.1)) x.group.symbols) (λ (x : Replacement). flat_map (λ n. asked_for x.number (ops n.0)) x.group.symbols) xs
      (All-weaker AreToldBy
      (λ (x : Replacement). flat_map (λ n. asked_for x.number (operands_of ns n.1)) x.group.symbols ≡ flat_map (λ n. asked_for x.number (ops n.0)) x.group.symbols)
      (λ x are. alike_each (λ (n : Symbol × Term). asked_for x.number (operands_of ns n.1)) (λ n. asked_for x.number (ops n.0)) x.group.symbols
      (All-weaker IsToldBy (λ (n : Symbol × Term). asked_for x.number (operands_of ns n.1) ≡ asked_for x.number (ops n.0)) (λ n is. ap (asked_for x.number) (sym is)) x.group.symbols are))
      xs told)
