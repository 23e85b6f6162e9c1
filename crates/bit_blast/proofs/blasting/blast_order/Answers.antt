use Rattle.std.proofs.Common.{◌≡◌, true, List, filter, map, All, ap, sym, ◌∙◌, subst}
use Rattle.std.specs.List.{flat_map}
use Rattle.smt_terms.specs.declared.ids.NodeId.{NodeId}
use Rattle.smt_terms.specs.Groups.{draw_each}
use Rattle.smt_terms.specs.Sorts.{Symbol}
use Rattle.smt_terms.specs.Term.{constant}
use Rattle.term_groups.specs.Seen.{named_at}
use Rattle.term_subst.specs.Substituting.{NeverGivesGained}
use Rattle.term_subst.proofs.Growing.{trees-grow}
use Rattle.term_table.specs.Formulas.{trees_at}
use Rattle.term_walk.specs.Walking.{GrowsTo}
use Rattle.term_walk.proofs.Visits.{table-grows}
use Rattle.bit_blast.specs.Blasted.{is_bits, vector_constants, drawn_bits, blasted}
use Rattle.bit_blast.specs.Subterms.{is_vector_term, constant_bits, first_bit, IsVector, AreDrawn}
use Rattle.bit_blast.proofs.BlastedNodes.{names-left, names-are, are-drawn, roots-first, roots-nodes, roots-formulas, blasted-group}
use Rattle.bit_blast.proofs.SettledNodes.{order-stays}
use Rattle.bit_blast.proofs.VectorNodes.{are-vectors}
use Rattle.bit_blast.proofs.blasting.blast_order.Goals as goal
use Rattle.bit_blast.proofs.blasting.blast_order.Goals.{In_ok-constants, In_ok-lists}

-- ---- what is known after each step

vectors-are : (c : In_ok-constants) → All (IsVector c.args.table.now) c.in_ok-vectors.vectors.items
vectors-are c = are-vectors c.args.table.now c.args.order.now c.in_ok-vectors.vectors.items c.in_ok-vectors.ensures.nodes c.in_ok-vectors.ensures.terms (c.requires.order.bits c.requires.bits)

vectors-terms : (c : In_ok-constants) → trees_at c.args.table.now c.in_ok-vectors.vectors.items ≡ map constant (vector_constants (trees_at c.args.table.now c.args.roots.now))
vectors-terms c = c.in_ok-vectors.ensures.terms ∙ c.requires.order.vectors c.requires.bits

wanted-terms : (c : In_ok-constants) → trees_at c.all_bits_of.new.table c.in_ok-wanted.wanted.items ≡ flat_map constant_bits (trees_at c.args.table.now c.in_ok-vectors.vectors.items)
wanted-terms c = c.in_ok-wanted.ensures.terms ∙ ap (λ (ks : List NodeId). flat_map constant_bits (trees_at c.args.table.now ks)) c.deref.ensures.value

grows : (c : In_ok-constants) → GrowsTo c.args.table.now c.draw_constants.new.table
grows c = table-grows c.args.table.now c.all_bits_of.new.table c.draw_constants.new.table c.in_ok-wanted.ensures.grows c.in_ok-constants.ensures.grows

drawn-symbols : (c : In_ok-constants) → named_at c.draw_constants.new.table c.in_ok-constants.constants.symbols ≡ (draw_each (trees_at c.all_bits_of.new.table c.in_ok-wanted.wanted.items) c.args.fresh.now).symbols
drawn-symbols c = c.in_ok-constants.ensures.symbols ∙ ap (λ (ks : List NodeId). (draw_each (trees_at c.all_bits_of.new.table ks) c.args.fresh.now).symbols) c.deref-2.ensures.value

drawn-terms : (c : In_ok-constants) → trees_at c.draw_constants.new.table c.in_ok-constants.constants.nodes ≡ map (λ n. constant n.0) (draw_each (trees_at c.all_bits_of.new.table c.in_ok-wanted.wanted.items) c.args.fresh.now).symbols
drawn-terms c = c.in_ok-constants.ensures.terms ∙ ap (λ (ks : List NodeId). map (λ n. constant n.0) (draw_each (trees_at c.all_bits_of.new.table ks) c.args.fresh.now).symbols) c.deref-2.ensures.value

drawn : (c : In_ok-constants) → AreDrawn c.draw_constants.new.table c.in_ok-vectors.vectors.items c.in_ok-constants.constants
drawn c =
    are-drawn c.args.table.now c.all_bits_of.new.table c.draw_constants.new.table (trees_at c.args.table.now c.args.roots.now) c.in_ok-vectors.vectors.items c.in_ok-wanted.wanted.items c.in_ok-constants.constants c.args.fresh.now
    c.in_ok-wanted.ensures.grows c.in_ok-constants.ensures.grows (vectors-are c) (vectors-terms c) (wanted-terms c) c.in_ok-constants.ensures.nodes (drawn-symbols c) (drawn-terms c)

names : (c : In_ok-constants) → named_at c.draw_constants.new.table c.in_ok-constants.constants.symbols ≡ (drawn_bits (trees_at c.args.table.now c.args.roots.now) c.args.fresh.now).symbols
names c =
    names-are c.args.table.now c.all_bits_of.new.table c.draw_constants.new.table (trees_at c.args.table.now c.args.roots.now) c.in_ok-vectors.vectors.items c.in_ok-wanted.wanted.items c.in_ok-constants.constants c.args.fresh.now
    c.in_ok-wanted.ensures.grows c.in_ok-constants.ensures.grows (vectors-are c) (vectors-terms c) (wanted-terms c) c.in_ok-constants.ensures.nodes (drawn-symbols c) (drawn-terms c)

left : (c : In_ok-constants) → c.draw_constants.new.fresh ≡ (blasted (trees_at c.args.table.now c.args.roots.now) c.args.fresh.now).names
left c =
    names-left c.args.table.now c.all_bits_of.new.table c.draw_constants.new.table (trees_at c.args.table.now c.args.roots.now) c.in_ok-vectors.vectors.items c.in_ok-wanted.wanted.items c.in_ok-constants.constants c.args.fresh.now
    c.in_ok-wanted.ensures.grows c.in_ok-constants.ensures.grows (vectors-are c) (vectors-terms c) (wanted-terms c) c.draw_constants.new.fresh
    (c.in_ok-constants.ensures.left ∙ ap (λ (ks : List NodeId). (draw_each (trees_at c.all_bits_of.new.table ks) c.args.fresh.now).names) c.deref-2.ensures.value)

never-gained : (c : In_ok-lists) → NeverGivesGained c.draw_constants.new.fresh c.args.table.now.symbols c.keep_all.new.table.symbols
never-gained c =
    subst (λ (fs : List Symbol). NeverGivesGained c.draw_constants.new.fresh c.args.table.now.symbols fs) (sym c.in_ok-lists.ensures.symbols)
    (subst (λ (fs : List Symbol). NeverGivesGained c.draw_constants.new.fresh fs c.draw_constants.new.table.symbols) c.in_ok-wanted.ensures.symbols c.in_ok-constants.ensures.drawn)

-- ---- the goals

pub all_bits_of-requires : goal.all_bits_of-requires
all_bits_of-requires c =
    subst (λ (ks : List NodeId). All (IsVector c.args.table.now) ks) (sym c.deref.ensures.value)
    (are-vectors c.args.table.now c.args.order.now c.in_ok-vectors.vectors.items c.in_ok-vectors.ensures.nodes c.in_ok-vectors.ensures.terms (c.requires.order.bits c.requires.bits))

pub keep_all-requires-clause-order : goal.keep_all-requires-clause-order
keep_all-requires-clause-order c =
    order-stays c.args.table.now c.draw_constants.new.table c.args.order.now (grows (goal.at.keep_all-requires-clause-order c).In_ok-constants) c.requires.order.order

pub keep_all-requires-clause-bits : goal.keep_all-requires-clause-bits
keep_all-requires-clause-bits c =
    subst (All (λ u. is_bits u ≡ true))
    (sym (trees-grow c.args.table.now c.draw_constants.new.table (grows (goal.at.keep_all-requires-clause-bits c).In_ok-constants) c.args.order.now c.requires.order.order.nodes))
    (c.requires.order.bits c.requires.bits)

pub keep_all-requires-clause-vectors : goal.keep_all-requires-clause-vectors
keep_all-requires-clause-vectors c =
    let more = grows (goal.at.keep_all-requires-clause-vectors c).In_ok-constants in
    ap (trees_at c.draw_constants.new.table) c.deref-3.ensures.value
    ∙ trees-grow c.args.table.now c.draw_constants.new.table more c.in_ok-vectors.vectors.items c.in_ok-vectors.ensures.nodes
    ∙ c.in_ok-vectors.ensures.terms
    ∙ ap (filter is_vector_term) (sym (trees-grow c.args.table.now c.draw_constants.new.table more c.args.order.now c.requires.order.order.nodes))

pub keep_all-requires-clause-drawn : goal.keep_all-requires-clause-drawn
keep_all-requires-clause-drawn c =
    subst (λ (ks : List NodeId). AreDrawn c.draw_constants.new.table ks c.in_ok-constants.constants) (sym c.deref-3.ensures.value) (drawn (goal.at.keep_all-requires-clause-drawn c).In_ok-constants)

pub formulas-requires : goal.formulas-requires
formulas-requires c =
    roots-first c.args.table.now c.keep_all.new.table c.know_table.ensures
    (table-grows c.args.table.now c.draw_constants.new.table c.keep_all.new.table (grows (goal.at.formulas-requires c).In_ok-constants) c.in_ok-lists.ensures.grows)
    c.args.order.now c.args.roots.now c.requires.roots c.requires.bits c.requires.order (named_at c.draw_constants.new.table c.in_ok-constants.constants.symbols) c.in_ok-lists.lists c.in_ok-lists.ensures.kept c.in_ok-lists.ensures.done

pub returns-in_err-asserts-clause-drawn : goal.returns-in_err-asserts-clause-drawn
returns-in_err-asserts-clause-drawn c = never-gained (goal.at.returns-in_err-asserts-clause-drawn c).In_ok-lists

pub returns-clause-group : goal.returns-clause-group
returns-clause-group c =
    let t0 = c.args.table.now in
    let t2 = c.draw_constants.new.table in
    let t = c.keep_all.new.table in
    let roots = c.args.roots.now in
    let cs = c.in_ok-constants.constants in
    let ns = named_at t2 cs.symbols in
    let ls = c.in_ok-lists.lists in
    let more = table-grows t0 t2 t (grows (goal.at.returns-clause-group c).In_ok-constants) c.in_ok-lists.ensures.grows in
    blasted-group t2 t cs (trees_at t0 roots) c.args.fresh.now c.in_ok-asserts.asserts (map (first_bit ls) roots) c.in_ok-lists.ensures.grows c.in_ok-constants.ensures.pairs
    (names (goal.at.returns-clause-group c).In_ok-constants) c.in_ok-asserts.ensures
    (roots-nodes t0 t c.know_table.ensures more c.args.order.now roots c.requires.roots c.requires.bits c.requires.order ns ls c.in_ok-lists.ensures.kept c.in_ok-lists.ensures.done)
    (roots-formulas t0 t c.know_table.ensures more c.args.order.now roots c.requires.roots c.requires.bits c.requires.order ns ls c.in_ok-lists.ensures.kept c.in_ok-lists.ensures.done)

pub returns-clause-left : goal.returns-clause-left
returns-clause-left c = left (goal.at.returns-clause-left c).In_ok-constants

pub returns-clause-drawn : goal.returns-clause-drawn
returns-clause-drawn c = never-gained (goal.at.returns-clause-drawn c).In_ok-lists
