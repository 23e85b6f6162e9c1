use Rattle.std.proofs.Common.{◌≡◌, ◌<◌, true, false, List, map, reverse, length, get_or, ap, sym, ◌∙◌, subst, arith, Vec, Global}
use Rattle.smt_print.specs.declared.scope.Defined.{Defined}
use Rattle.smt_print.specs.Defined.{Nodes, has_node, number_of, nodes_of, place_in}
use Rattle.smt_print.proofs.NumbersFound.{not_true, has-found, found-has}
use Rattle.smt_print.proofs.scope.Scopes.number.Goals as goal

some_definition : Defined
some_definition = record { node = record { 0 = 0 }; around = 0 }

pub returns-in_default : goal.returns-in_default
returns-in_default c =
    let items : Vec Defined Global → List Defined = λ v. v.items in
    let outer = map items (reverse c.self.inside.outer.items) in
    let size = ap length c.deref.ensures.value in
    let past = c.in_default.ensures.lookup.3 in
    subst (λ (ns : Nodes). has_node ns.current c.args.id ≡ false) c.self.view_is
    (not_true (has_node (nodes_of c.self.inside.current.items) c.args.id)
    (λ has. let found = has-found c.self.inside.places.items c.self.inside.current.items outer c.args.id some_definition c.self.invariant has in
    let room = found.room in
    absurd (omega arith)))

pub returns-in_default-get : goal.returns-in_default-get
returns-in_default-get c =
    let items : Vec Defined Global → List Defined = λ v. v.items in
    let outer = map items (reverse c.self.inside.outer.items) in
    let size = ap length c.deref-2.ensures.value in
    let past = c.in_default-get.ensures.lookup.3 in
    let place : c.in-Some.place.now ≡ place_in c.self.inside.places.items c.args.id.0 = c.in-Some.ensures.lookup.3.1 0 ∙ ap (λ xs. get_or xs c.args.id.0 0) c.deref.ensures.value in
    subst (λ (ns : Nodes). has_node ns.current c.args.id ≡ false) c.self.view_is
    (not_true (has_node (nodes_of c.self.inside.current.items) c.args.id)
    (λ has. let found = has-found c.self.inside.places.items c.self.inside.current.items outer c.args.id some_definition c.self.invariant has in
    let within = found.within in
    absurd (omega arith)))

pub returns-then-defined-id : goal.returns-then-defined-id
returns-then-defined-id c =
    let items : Vec Defined Global → List Defined = λ v. v.items in
    let outer = map items (reverse c.self.inside.outer.items) in
    let current = c.self.inside.current.items in
    let size = ap length c.deref-2.ensures.value in
    let below = c.in-Some-get.ensures.lookup.3.0 in
    let lt : c.in-Some.place.now < length current = omega arith in
    let place : c.in-Some.place.now ≡ place_in c.self.inside.places.items c.args.id.0 = c.in-Some.ensures.lookup.3.1 0 ∙ ap (λ xs. get_or xs c.args.id.0 0) c.deref.ensures.value in
    let there : c.in-Some-get.defined.now ≡ get_or current c.in-Some.place.now some_definition =
    c.in-Some-get.ensures.lookup.3.1 some_definition ∙ ap (λ xs. get_or xs c.in-Some.place.now some_definition) c.deref-2.ensures.value in
    let has = found-has current c.in-Some.place.now c.args.id some_definition lt (ap (λ d. d.node.0) (sym there) ∙ c.if-defined-id.true) in
    let found = has-found c.self.inside.places.items current outer c.args.id some_definition c.self.invariant has in
    subst (λ (ns : Nodes). (has_node ns.current c.args.id ≡ true) × (c.in-Some.place.now ≡ number_of ns.current c.args.id)) c.self.view_is (has, place ∙ found.number)

pub returns : goal.returns
returns c =
    let items : Vec Defined Global → List Defined = λ v. v.items in
    let outer = map items (reverse c.self.inside.outer.items) in
    let current = c.self.inside.current.items in
    let place : c.in-Some.place.now ≡ place_in c.self.inside.places.items c.args.id.0 = c.in-Some.ensures.lookup.3.1 0 ∙ ap (λ xs. get_or xs c.args.id.0 0) c.deref.ensures.value in
    let there : c.in-Some-get.defined.now ≡ get_or current c.in-Some.place.now some_definition =
    c.in-Some-get.ensures.lookup.3.1 some_definition ∙ ap (λ xs. get_or xs c.in-Some.place.now some_definition) c.deref-2.ensures.value in
    subst (λ (ns : Nodes). has_node ns.current c.args.id ≡ false) c.self.view_is
    (not_true (has_node (nodes_of current) c.args.id)
    (λ has. let found = has-found c.self.inside.places.items current outer c.args.id some_definition c.self.invariant has in
    c.if-defined-id.false (ap (λ d. d.node.0) there ∙ ap (λ n. (get_or current n some_definition).node.0) place ∙ found.node)))
