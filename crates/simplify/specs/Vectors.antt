-- The laws of the operators on bit vectors (SMT-LIB 2.6, theory FixedSizeBitVectors and logic QF_BV) over operands that are
-- simplified already. The first line that applies counts; none is where none applies.
use Rattle.std.specs.Prelude.{ℕ, suc, ◌-◌, ◌^◌, ◌&&◌, ◌==◌, if◌then◌else◌, Option, Some, None, unwrap_or}
use Rattle.smt_terms.specs.Sorts.{bool}
use Rattle.smt_terms.specs.Term.{Term}
use Rattle.smt_terms.specs.Equal.{term_eq}
use Rattle.smt_terms.specs.Rank.{sort_of, width}
use Rattle.smt_terms.specs.Constants.{bits_term}
use Rattle.simplify.specs.Folding.{is_bits, is_ones}

abbrev pub width_of : Term → ℕ
width_of t = width (unwrap_or (sort_of t) bool)

-- zero, and all ones, of a term's width
abbrev pub zero_like : Term → Term
zero_like t = bits_term (width_of t) 0

abbrev pub ones_like : Term → Term
ones_like t = bits_term (width_of t) (2 ^ width_of t - 1)

abbrev pub bit_and : Term → Term → Option Term
bit_and s t =
    if is_bits 0 s then Some s else
    if is_bits 0 t then Some t else
    if is_ones s then Some t else
    if is_ones t then Some s else
    if term_eq s t then Some s else None

abbrev pub bit_or : Term → Term → Option Term
bit_or s t =
    if is_ones s then Some s else
    if is_ones t then Some t else
    if is_bits 0 s then Some t else
    if is_bits 0 t then Some s else
    if term_eq s t then Some s else None

abbrev pub bit_exclusive : Term → Term → Option Term
bit_exclusive s t =
    if term_eq s t then Some (zero_like s) else
    if is_bits 0 s then Some t else
    if is_bits 0 t then Some s else None

abbrev pub addition : Term → Term → Option Term
addition s t =
    if is_bits 0 s then Some t else
    if is_bits 0 t then Some s else None

abbrev pub subtraction : Term → Term → Option Term
subtraction s t =
    if is_bits 0 t then Some s else
    if term_eq s t then Some (zero_like s) else None

abbrev pub multiplication : Term → Term → Option Term
multiplication s t =
    if is_bits 0 s then Some s else
    if is_bits 0 t then Some t else
    if is_bits 1 s then Some t else
    if is_bits 1 t then Some s else None

abbrev pub division : Term → Term → Option Term
division s t =
    if is_bits 0 t then Some (ones_like t) else
    if is_bits 1 t then Some s else None

abbrev pub remainder : Term → Term → Option Term
remainder s t =
    if is_bits 0 t then Some s else
    if is_bits 1 t then Some (zero_like t) else None

abbrev pub shift : Term → Term → Option Term
shift s t = if is_bits 0 t then Some s else None

abbrev pub comparison : Term → Term → Option Term
comparison s t = if term_eq s t then Some (bits_term 1 1) else None

-- all bits, from the highest to the lowest
abbrev pub extraction : ℕ → ℕ → Term → Option Term
extraction high low t = if (low == 0) && (width_of t == suc high) then Some t else None

-- by so many bits
abbrev pub movement : ℕ → Term → Option Term
movement i t = if i == 0 then Some t else None
