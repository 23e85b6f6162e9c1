use Rattle.std.proofs.Common.{◌≡◌, ◌∷◌, ◌++◌, ◌+◌, ◌-◌, [], List, take, length, ap, sym, ◌∙◌, subst, arith, length-append}
use Rattle.smt_terms.specs.declared.ids.NodeId.{NodeId}
use Rattle.smt_terms.specs.Term.{constant_of}
use Rattle.term_table.specs.Formulas.{tree, variable_of, IsNode}
use Rattle.simplify.specs.Occurring.{Searches}
use Rattle.simplify.proofs.Occurrences.{searches-begun, searches-node, searches-found, searches-over}
use Rattle.simplify.proofs.occurrence.occurs.Goals as goal

pub loop-id-init : goal.loop-id-init
loop-id-init c =
    let t = c.args.table.now in
    let f = constant_of (variable_of (tree t c.args.variable)) in
    let waits : c.push.new.self.items ≡ c.args.root ∷ [] = c.in_ok-push.ensures.items ∙ ap (λ ks. ks ++ c.args.root ∷ []) c.new-waiting.ensures.items in
    let none_met : c.new-met.result.keys ≡ [] = c.new-met.ensures.empty in
    record {
      searches =
          subst (λ (ks : List NodeId). Searches t f c.args.root ks c.new-met.result.keys) (sym waits)
          (subst (λ (ks : List NodeId). Searches t f c.args.root (c.args.root ∷ []) ks) (sym none_met) (searches-begun t f c.args.root c.requires.root));
    }

pub take_off-requires-clause-node : goal.take_off-requires-clause-node
take_off-requires-clause-node c =
    let t = c.args.table.now in
    let f = constant_of (variable_of (tree t c.args.variable)) in
    searches-node t f c.args.root c.in-Some.id c.pop.new.self.items c.loop-id.met.keys
    (subst (λ (ks : List NodeId). Searches t f c.args.root ks c.loop-id.met.keys) c.in-Some.ensures.items c.loop-id.invariant.searches)

pub returns-then-id-variable : goal.returns-then-id-variable
returns-then-id-variable c =
    let t = c.args.table.now in
    let f = constant_of (variable_of (tree t c.args.variable)) in
    sym (searches-found t c.args.variable c.args.root c.in-Some.id c.pop.new.self.items c.loop-id.met.keys c.requires.constant
    (subst (λ (ks : List NodeId). Searches t f c.args.root ks c.loop-id.met.keys) c.in-Some.ensures.items c.loop-id.invariant.searches) c.if-id-variable.true)

pub loop-id-preserved : goal.loop-id-preserved
loop-id-preserved c =
    let t = c.args.table.now in
    let f = constant_of (variable_of (tree t c.args.variable)) in
    record {
      searches =
          c.in_ok-take_off.ensures.searches c.args.root
          (subst (λ (ks : List NodeId). Searches t f c.args.root ks c.loop-id.met.keys) c.in-Some.ensures.items c.loop-id.invariant.searches);
    }

pub loop-id-smaller : goal.loop-id-smaller
loop-id-smaller c =
    let t = c.args.table.now in
    let f = constant_of (variable_of (tree t c.args.variable)) in
    let node : IsNode t c.in-Some.id =
    searches-node t f c.args.root c.in-Some.id c.pop.new.self.items c.loop-id.met.keys
    (subst (λ (ks : List NodeId). Searches t f c.args.root ks c.loop-id.met.keys) c.in-Some.ensures.items c.loop-id.invariant.searches) in
    let near = c.in_ok-take_off.ensures.nearer (length t.trees) node in
    let long : length c.loop-id.waiting.items ≡ length c.pop.new.self.items + 1 = ap length c.in-Some.ensures.items ∙ length-append c.pop.new.self.items (c.in-Some.id ∷ []) in
    omega (arith, near, long)

pub returns : goal.returns
returns c =
    let t = c.args.table.now in
    let f = constant_of (variable_of (tree t c.args.variable)) in
    let left : c.pop.new.self.items ≡ [] = c.in_default.ensures.rest ∙ ap (λ n. take (n - 1) c.loop-id.waiting.items) c.in_default.ensures.cases.0 in
    let empty : c.loop-id.waiting.items ≡ [] = c.in_default.ensures.items ∙ ap (λ ks. ks ++ []) left in
    sym (searches-over t f c.args.root c.loop-id.met.keys (subst (λ (ks : List NodeId). Searches t f c.args.root ks c.loop-id.met.keys) empty c.loop-id.invariant.searches))
