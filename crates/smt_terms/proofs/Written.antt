-- Terms as they are written, for worked rows: constants and symbols by name, and operators over their operands.
use Prim.Native.String.{String}
use Rattle.std.specs.Prelude.{ℕ, pos, List, [], map, codes}
use Rattle.smt_terms.specs.declared.op.Op.TheVariants.{Whole, Xor, Distinct, Ite}
use Rattle.smt_terms.specs.Sorts.{Sort, bool, Symbol, Variable}
use Rattle.smt_terms.specs.Term.{universal, existential, op, symbol, Term, apply, quantified, none, ◌⨾◌, over}
use Rattle.smt_terms.specs.Fresh.{Supply}

abbrev pub named : String → Sort → Symbol
named s to = record { name = codes s; args = []; result = to }

-- a Boolean constant
abbrev pub flag : String → Symbol
flag s = named s bool

abbrev pub function : String → List Sort → Sort → Symbol
function s from to = record { name = codes s; args = from; result = to }

abbrev pub call : Symbol → List Term → Term
call f ts = over (symbol f) ts

abbrev pub bound : Symbol → Variable
bound f = record { name = f.name; sort = f.result }

abbrev pub for_all : List Symbol → Term → Term
for_all fs t = quantified universal (map bound fs) t

abbrev pub there_is : List Symbol → Term → Term
there_is fs t = quantified existential (map bound fs) t

abbrev pub xor : Term → Term → Term
xor s t = apply (op Xor) (s ⨾ t ⨾ none)

abbrev pub distinct : List Term → Term
distinct ts = over (op Distinct) ts

abbrev pub ite : Term → Term → Term → Term
ite c s t = apply (op Ite) (c ⨾ s ⨾ t ⨾ none)

abbrev pub whole : ℕ → Term
whole n = apply (op (Whole (pos n))) none

-- a supply that skips these names, at this number
abbrev pub supply : List String → ℕ → Supply
supply taken n = record { taken = map codes taken; number = n }
