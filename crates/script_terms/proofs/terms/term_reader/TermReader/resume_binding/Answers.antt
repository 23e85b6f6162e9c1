use Rattle.std.proofs.Common.{◌≡◌, suc, ◌+◌, ◌<◌, false, List, [], ◌∷◌, ◌++◌, map, refl, ap, ◌∙◌, arith}
use Rattle.std.specs.Box.{with_value}
use Rattle.std.proofs.lemmas.Result.{IfOk-weaker}
use Rattle.smt_lex.specs.Names.{Name, is_among}
use Rattle.smt_terms.specs.declared.ids.NodeId.{NodeId}
use Rattle.script_terms.specs.Bound.{name_at}
use Rattle.script_terms.specs.Waiting.{left_of, left_behind}
use Rattle.script_terms.specs.declared.terms.frames.Frame.TheVariants.{Binding}
use Rattle.script_terms.proofs.StepsOfLets.{new_name, binding_next}
use Rattle.script_terms.proofs.terms.term_reader.TermReader.resume_binding.Goals as goal

-- the names with one more, which was new
added : (names held now : List (Name × NodeId)) (n m : Name) (k : NodeId) → held ≡ names → m ≡ n → is_among (map (λ p. p.0) names) n ≡ false
    → (is_among (map (λ p. p.0) held) m ≡ false → now ≡ held ++ (m, k) ∷ []) → now ≡ names ++ (n, k) ∷ []
added names held now n m k kept same new adds =
    adds (ap (λ (ns : List (Name × NodeId)). is_among (map (λ p. p.0) ns) m) kept ∙ ap (is_among (map (λ p. p.0) names)) same ∙ new)
    ∙ ap (λ (ns : List (Name × NodeId)). ns ++ (m, k) ∷ []) kept ∙ ap (λ x. names ++ (x, k) ∷ []) same

pub returns-then-begins-clause-steps : goal.returns-then-begins-clause-steps
returns-then-begins-clause-steps c t s at r come =
    let here : c.args.lets.part + 1 ≡ suc c.args.lets.part = omega arith in
    c.open_binding.ensures.steps t s r
    (binding_next c.args.forest.now.tokens t s c.args.self.now c.args.lets c.args.node at r come c.add.new.self
    (added c.args.lets.names.value c.deref_mut.result.now c.add.new.self (name_at c.args.forest.now.tokens (suc c.args.lets.part)) c.name-name.result.now c.args.node c.deref_mut.ensures.value (c.name-name.ensures ∙ ap (name_at c.args.forest.now.tokens) here)
    (new_name c.args.forest.now.tokens t s c.args.self.now c.args.lets c.args.node at r come) c.in_ok-add.ensures)
    (record { list = c.args.lets.list; part = c.after.result; body = c.args.lets.body; names = with_value c.args.lets.names c.add.new.self }) refl c.after.ensures.behind refl refl)

pub returns-clause-steps : goal.returns-clause-steps
returns-clause-steps c t s at r come =
    let here : c.args.lets.part + 1 ≡ suc c.args.lets.part = omega arith in
    c.open_body.ensures.steps c.args.forest.now.tokens t s r (c.begins.ensures.no c.if-begins.false)
    (binding_next c.args.forest.now.tokens t s c.args.self.now c.args.lets c.args.node at r come c.add.new.self
    (added c.args.lets.names.value c.deref_mut.result.now c.add.new.self (name_at c.args.forest.now.tokens (suc c.args.lets.part)) c.name-name.result.now c.args.node c.deref_mut.ensures.value (c.name-name.ensures ∙ ap (name_at c.args.forest.now.tokens) here)
    (new_name c.args.forest.now.tokens t s c.args.self.now c.args.lets c.args.node at r come) c.in_ok-add.ensures)
    (record { list = c.args.lets.list; part = c.after.result; body = c.args.lets.body; names = with_value c.args.lets.names c.add.new.self }) refl c.after.ensures.behind refl refl)

pub returns-clause-less : goal.returns-clause-less
returns-clause-less c at =
    IfOk-weaker c.open_body.result _ (λ next. left_of c.args.forest.now.tokens c.open_body.new.self next < left_behind c.args.forest.now.tokens c.args.self.now (Binding c.args.lets) at)
    (λ next most. let m = most in omega (arith, m)) (c.open_body.ensures.less c.args.forest.now.tokens)
