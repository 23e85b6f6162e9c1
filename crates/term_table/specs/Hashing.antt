-- What a hasher of nodes computes, and what a node feeds it.
use Rattle.std.specs.Prelude.{◌≡◌, ℕ, Bool, true, false, ◌&&◌, ◌||◌, IsTrue, drop, ◌+◌, ◌-◌, ◌/◌, List, length, flat_map, ◌++◌, max, min, nat_eq, nat_le, nat_lt, if◌then◌else◌, bit_and, bit_or}
use Rattle.std.specs.Hash.{le_bytes, HashWrites, same_Alike, items_Alike}
use Rattle.std.specs.Cmp.{first_so, second_so}
use Rattle.smt_terms.proofs.Operators.{Decides-derived}
use Rattle.std.specs.Cmp.Lexicographic.{pointwise}
use mathlib.Core.Path.{ap}
use Rattle.std.specs.Hash.FoldHasher as folding
use Rattle.std.specs.Int.{from_le_bytes, w64}
use Rattle.smt_terms.specs.declared.ids.NodeId.{NodeId}
use Rattle.smt_terms.specs.contracts.ids.NodeIdHash.TheImpl.{ghosts as id_ghosts}
use Rattle.smt_terms.specs.contracts.op.OpHash.TheImpl.{ghosts as op_ghosts}
use Rattle.term_table.specs.declared.hashing.NodeHasher.{NodeHasher}
use Rattle.term_table.specs.declared.table.Node.{Node}
use Rattle.term_table.specs.SameNodes.{are_same, op_eq, id_eq, id_eq-Decides}

-- before anything is written
abbrev pub initial : NodeHasher
initial = record { whole = folding.initial; block = folding.initial; greatest = 0; is_far = false }

-- a late number, 65,536 or more before another
abbrev pub is_far_from : ℕ → ℕ → Bool
is_far_from number greater = nat_le 4096 number && nat_le 65_536 (greater - number)

abbrev pub block_of : ℕ → Bool → ℕ
block_of number is_far = if is_far then number / 64 else number / 32

-- what a number that isn't the greatest counts for: an early one for itself, and a later one for its block
abbrev pub counted : ℕ → Bool → ℕ
counted number is_far = if nat_lt number 4096 then number else 4096 + block_of number is_far

-- after a number; the greatest so far is kept aside
abbrev pub ranked : NodeHasher → ℕ → NodeHasher
ranked h n =
    let less = min h.greatest n in
    let is_far = is_far_from less (max h.greatest n) in
    record {
      whole = folding.write h.whole (le_bytes 8 n);
      block = folding.write h.block (le_bytes 8 (counted less is_far));
      greatest = max h.greatest n;
      is_far = h.is_far || is_far;
    }

-- after bytes, eight of which are a number
abbrev pub written : NodeHasher → List ℕ → NodeHasher
written h bytes =
    if nat_eq (length bytes) 8
    then ranked h (from_le_bytes w64 bytes)
    else record h { whole = folding.write h.whole bytes; block = folding.write h.block bytes }

-- the tag is of all that was written, the other bits of what neighbours write alike and of the greatest number's block
abbrev pub finished : NodeHasher → ℕ
finished h =
    let block = folding.write h.block (le_bytes 8 (block_of h.greatest h.is_far)) in
    bit_or (bit_and (folding.finish h.whole) 0xFF00_0000) (bit_and (folding.finish block) 0x00FF_FFFF)

-- ---- what a node feeds a hasher

-- each operand
abbrev pub kids_writes : List NodeId → HashWrites
kids_writes ks = flat_map id_ghosts.hash_input ks

-- its operator, and then its operands
abbrev pub node_writes : Node → HashWrites
node_writes n = op_ghosts.hash_input n.op ++ kids_writes n.kids.items

ids-alike : (xs ys : List NodeId) → pointwise id_eq xs ys ≡ true → kids_writes xs ≡ kids_writes ys
ids-alike xs ys h = ap (drop 1) ((items_Alike (same_Alike id_ghosts.hash_input id_eq-Decides)).fed xs ys h)

-- equal nodes feed it alike
pub node_writes_alike : (x y : Node) → IsTrue (are_same x y) → node_writes x ≡ node_writes y
node_writes_alike x y h =
    let ops : x.op ≡ y.op = (Decides-derived x.op y.op).0 (first_so (op_eq x.op y.op) (pointwise id_eq x.kids.items y.kids.items) h) in
    let kids = ids-alike x.kids.items y.kids.items (second_so (op_eq x.op y.op) (pointwise id_eq x.kids.items y.kids.items) h) in
    λ i. op_ghosts.hash_input (ops i) ++ kids i
