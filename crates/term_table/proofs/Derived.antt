-- The comparisons of the table's rows, which tell rows apart.
use Rattle.std.proofs.Common.{◌≡◌, Bool, true, ◌&&◌, ◌==◌, List, refl, ap}
use Rattle.std.proofs.lemmas.Bool.Decides.{Decides-eqb}
use Rattle.std.proofs.lemmas.Slice.Eq.{bytes_eq-Decides, slice_eq-Decides}
use lib.Pointwise.{pointwise}
use Rattle.std.specs.Bool.{Decides}
use Rattle.std.specs.Str.{bytes_eq}
use Rattle.std.proofs.lemmas.Bool.Decides.{Decides-like}
use Rattle.smt_terms.specs.declared.ids.NodeId.{NodeId}
use Rattle.smt_terms.specs.declared.ids.SortId.{SortId}
use Rattle.smt_terms.specs.contracts.ids.SortIdPartialEq.TheImpl.{ghosts as sort_ghosts}
use Rattle.smt_terms.proofs.Operators.{Decides-derived}
use Rattle.smt_terms.proofs.Tests.{both_true, and_true}
use Rattle.term_table.specs.declared.table.Node.{Node}
use Rattle.term_table.specs.declared.table.Entry.{Entry}
use Rattle.term_table.specs.SameNodes.{op_eq, id_eq, id_eq-Decides}
use Rattle.term_table.specs.contracts.table.NodePartialEq.TheImpl.{ghosts as node_ghosts}
use Rattle.term_table.specs.contracts.table.EntryPartialEq.TheImpl.{ghosts as entry_ghosts}

abbrev pub node_eq : Node → Node → Bool
node_eq = node_ghosts.eq

abbrev pub entry_eq : Entry → Entry → Bool
entry_eq = entry_ghosts.eq

sort_ids : (a b : SortId) → Decides (sort_ghosts.eq a b) (a ≡ b)
sort_ids a b = Decides-like (a.0 == b.0) (λ e. λ i. record { 0 = e i }) (λ e. ap (λ c. c.0) e) (Decides-eqb a.0 b.0)

abbrev node_lists : List NodeId → List NodeId → Bool
node_lists = pointwise id_eq

abbrev sort_lists : List SortId → List SortId → Bool
sort_lists = pointwise sort_ghosts.eq

pub node_eq-true : (a b : Node) → node_eq a b ≡ true → (a.op ≡ b.op) × (a.kids.items ≡ b.kids.items)
node_eq-true a b h =
    let both = both_true (op_eq a.op b.op) (node_lists a.kids.items b.kids.items) h in
    ((Decides-derived a.op b.op).0 both.0, (slice_eq-Decides id_eq-Decides a.kids.items b.kids.items (node_lists a.kids.items b.kids.items) refl).0 both.1)

pub node_eq-from : (a b : Node) → a.op ≡ b.op → a.kids.items ≡ b.kids.items → node_eq a b ≡ true
node_eq-from a b e f =
    and_true (op_eq a.op b.op) (node_lists a.kids.items b.kids.items) ((Decides-derived a.op b.op).1 e)
    ((slice_eq-Decides id_eq-Decides a.kids.items b.kids.items (node_lists a.kids.items b.kids.items) refl).1 f)

pub entry_eq-true : (a b : Entry) → entry_eq a b ≡ true → (a.name.items ≡ b.name.items) × (a.args.items ≡ b.args.items) × (a.to ≡ b.to)
entry_eq-true a b h =
    let first = both_true (bytes_eq a.name.items b.name.items) (sort_lists a.args.items b.args.items && sort_ghosts.eq a.to b.to) h in
    let rest = both_true (sort_lists a.args.items b.args.items) (sort_ghosts.eq a.to b.to) first.1 in
    ((bytes_eq-Decides a.name.items b.name.items).0 first.0, (slice_eq-Decides sort_ids a.args.items b.args.items (sort_lists a.args.items b.args.items) refl).0 rest.0, (sort_ids a.to b.to).0 rest.1)

pub entry_eq-from : (a b : Entry) → a.name.items ≡ b.name.items → a.args.items ≡ b.args.items → a.to ≡ b.to → entry_eq a b ≡ true
entry_eq-from a b e f g =
    and_true (bytes_eq a.name.items b.name.items) (sort_lists a.args.items b.args.items && sort_ghosts.eq a.to b.to) ((bytes_eq-Decides a.name.items b.name.items).1 e)
    (and_true (sort_lists a.args.items b.args.items) (sort_ghosts.eq a.to b.to)
    ((slice_eq-Decides sort_ids a.args.items b.args.items (sort_lists a.args.items b.args.items) refl).1 f) ((sort_ids a.to b.to).1 g))
