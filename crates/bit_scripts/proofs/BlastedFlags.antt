-- The symbols that are declared for a check are truth values with usable names that are different, and what is made of its roots are
-- formulas over them.
use Rattle.std.proofs.Common.{◌≡◌, ◌∙◌, refl, ℕ, zero, suc, true, false, ◌||◌, ◌⊎◌, inl, inr, List, [], ◌∷◌, flat_map, Option, Some, None, unwrap_or, All}
use Rattle.std.proofs.lemmas.List.Elements.{All-nil, All-cons, All-head, All-tail, All-append, All-filter, All-weaker, filter_passes}
use Rattle.smt_terms.specs.declared.op.Op.TheVariants.{Equal, Extract}
use Rattle.smt_terms.specs.Constants.{bits_term}
use Rattle.smt_terms.specs.Free.{is_among, free_of, names_of}
use Rattle.smt_terms.specs.Fresh.{Supply, next_number, after_draw, fresh_constant, NeverGives}
use Rattle.smt_terms.specs.Groups.{draw_each}
use Rattle.smt_terms.specs.Rank.{shape, has_name, sort_of}
use Rattle.smt_terms.specs.Sorts.{Sort, bool, Symbol}
use Rattle.smt_terms.specs.Term.{op, Term, apply, Terms, none, ◌⨾◌, terms, constant}
use Rattle.smt_terms.proofs.Among.{is_among-filter}
use Rattle.smt_terms.proofs.Ranked.{rank-takes}
use Rattle.smt_terms.proofs.Sorted.{applied}
use Rattle.smt_terms.proofs.Tests.{both_true, and_true, either_true}
use Rattle.term_groups.specs.Drawing.{drawn_names}
use Rattle.term_groups.specs.Grouping.{symbols_of}
use Rattle.term_groups.proofs.Draws.{has_name-among, draws-new_names, draws-apart}
use Rattle.script_read.specs.Commands.{Command, signature}
use Rattle.script_read.specs.Printable.{is_usable}
use Rattle.script_read.proofs.LiveSorts.{drawn_usable}
use Rattle.bit_blast.specs.Blasted.{bit_of, bits_from, width_of, bits_of_constant, vector_constants}
use Rattle.bit_blast.specs.Laws.{is_flag as has_truth_value, has_symbol, IsFlagFormula, BlastGivesFlagFormulas}
use Rattle.models.specs.LiveRoots.{roots, is_flag_over, is_flag, flags}
use Rattle.bit_scripts.specs.Scripts.{root_group, new_bits}
use Rattle.bit_scripts.proofs.BlastableRoots.{RootsFit}
use Rattle.bit_scripts.proofs.BooleanTerms.{IsFlag}
use Rattle.bit_scripts.proofs.DeclaredFlags.{declared_for}
use Rattle.bit_scripts.proofs.DistinctNames.{among_left, among_right, AreOthers, joined_distinct, kept_distinct}
use Rattle.bit_scripts.proofs.PrintableScripts.{MayBeDeclared, MayBeAsserted}

abbrev IsUsable : Symbol → Type 0
IsUsable f = is_usable f.name ≡ true

-- ---- constants that are drawn for bits

-- the constant that is drawn for it is a truth value
abbrev DrawsFlag : Term → Type 0
DrawsFlag t = unwrap_or (sort_of t) bool ≡ bool

equation_draws_flag : (ts : Terms) (o : Option Sort) → sort_of (apply (op Equal) ts) ≡ o → unwrap_or o bool ≡ bool
unfolding shape
equation_draws_flag ts None is = refl
equation_draws_flag ts (Some to) is = let parts = applied (op Equal) ts to is in (rank-takes (op Equal) parts.sorts to parts.rank).2

bit_draws_flag : (f : Symbol) (i : ℕ) → DrawsFlag (bit_of f i)
bit_draws_flag f i = equation_draws_flag (apply (op (Extract i i)) (constant f ⨾ none) ⨾ bits_term 1 1 ⨾ none) (sort_of (bit_of f i)) refl

each_draws_flag : (f : Symbol) (i n : ℕ) → All DrawsFlag (bits_from f i n)
each_draws_flag f i zero = All-nil DrawsFlag
each_draws_flag f i (suc n) = All-cons DrawsFlag (bit_of f i) (bits_from f (suc i) n) (bit_draws_flag f i) (each_draws_flag f (suc i) n)

all_draw_flags : (fs : List Symbol) → All DrawsFlag (flat_map bits_of_constant fs)
all_draw_flags [] = All-nil DrawsFlag
all_draw_flags (f ∷ fs) = All-append DrawsFlag (bits_of_constant f) (flat_map bits_of_constant fs) (each_draws_flag f 0 (width_of f.result)) (all_draw_flags fs)

drawn_flags : (ts : List Term) (s : Supply) → All DrawsFlag ts → All IsFlag (symbols_of (draw_each ts s).symbols)
drawn_flags [] s all = All-nil IsFlag
drawn_flags (t ∷ ts) s all =
    All-cons IsFlag (fresh_constant (unwrap_or (sort_of t) bool) s) (symbols_of (draw_each ts (after_draw s)).symbols)
    (record { args = refl; result = All-head DrawsFlag t ts all })
    (drawn_flags ts (after_draw s) (All-tail DrawsFlag t ts all))

drawn_names_usable : (ts : List Term) (s : Supply) → All IsUsable (symbols_of (draw_each ts s).symbols)
drawn_names_usable [] s = All-nil IsUsable
drawn_names_usable (t ∷ ts) s =
    All-cons IsUsable (fresh_constant (unwrap_or (sort_of t) bool) s) (symbols_of (draw_each ts (after_draw s)).symbols)
    (drawn_usable (next_number s)) (drawn_names_usable ts (after_draw s))

-- ---- truth values that are live

flag_parts : (f : Symbol) → is_flag f ≡ true → IsFlag f
flag_parts f flag = go f.args f.result refl refl flag
  where
    go : (ss : List Sort) (to : Sort) → f.args ≡ ss → f.result ≡ to → is_flag_over ss to ≡ true → IsFlag f
    go [] bool args result flag = record { args = args; result = result }
    go _ _ args result flag = absurd cc

flag_of_parts : (f : Symbol) → f.args ≡ [] → f.result ≡ bool → is_flag f ≡ true
flag_of_parts f args result = λ i. is_flag_over (args i) (result i)

result_of_flag : (f : Symbol) → has_truth_value f ≡ true → f.result ≡ bool
result_of_flag f flag = go f.result refl flag
  where
    go : (to : Sort) → f.result ≡ to → has_truth_value (record { name = f.name; args = f.args; result = to }) ≡ true → f.result ≡ bool
    go bool is flag = is
    go _ is flag = absurd cc

module _ (cs : List (Command Term)) (k : ℕ) (s : Supply) (fit : RootsFit cs k s) where
  abbrev terms_of_bits : List Term
  terms_of_bits = flat_map bits_of_constant (vector_constants (roots cs k))

  live_flags : All IsFlag (flags cs k)
  live_flags = All-weaker (λ f. is_flag f ≡ true) IsFlag flag_parts (flags cs k) (filter_passes is_flag (signature cs k).symbols)

  others : AreOthers (flags cs k) (symbols_of (new_bits cs k s))
  others =
      All-weaker (λ f. NeverGives s f.name) (λ f. has_name f.name (names_of (symbols_of (new_bits cs k s))) ≡ false)
      (λ f never. has_name-among f.name (drawn_names terms_of_bits s) (draws-new_names terms_of_bits s f.name never))
      (flags cs k) (All-filter is_flag (λ f. NeverGives s f.name) (signature cs k).symbols fit.symbols.spared)

  pub may_be_declared : MayBeDeclared (declared_for cs k s)
  may_be_declared = record {
    flags = All-append IsFlag (flags cs k) (symbols_of (new_bits cs k s)) live_flags (drawn_flags terms_of_bits s (all_draw_flags (vector_constants (roots cs k))));
    usable = All-append IsUsable (flags cs k) (symbols_of (new_bits cs k s)) (All-filter is_flag IsUsable (signature cs k).symbols fit.symbols.usable) (drawn_names_usable terms_of_bits s);
    distinct = joined_distinct (flags cs k) (symbols_of (new_bits cs k s)) (kept_distinct is_flag (signature cs k).symbols fit.symbols.distinct) (draws-apart terms_of_bits s) others;
  }

  root_declared : (f : Symbol) → f.result ≡ bool → (is_among (free_of (terms (roots cs k))) f ≡ true) ⊎ (has_symbol (new_bits cs k s) f ≡ true) → is_among (declared_for cs k s) f ≡ true
  root_declared f flag (inl old) =
      among_left (flags cs k) (symbols_of (new_bits cs k s)) f
      (is_among-filter is_flag (signature cs k).symbols f ∙ and_true (is_among (signature cs k).symbols f) (is_flag f) (fit.live f old) (flag_of_parts f (fit.constants f old) flag))
  root_declared f flag (inr new) = among_right (flags cs k) (symbols_of (new_bits cs k s)) f new

  formula_asserted : (u : Term) → IsFlagFormula (roots cs k) (new_bits cs k s) u → MayBeAsserted (declared_for cs k s) u
  formula_asserted u formula = record {
    sort = formula.sort;
    sorted = formula.sorted;
    boolean = formula.boolean;
    free = λ f among.
        let parts = both_true (has_truth_value f) (is_among (free_of (terms (roots cs k))) f || has_symbol (new_bits cs k s) f) (formula.free f among) in
        root_declared f (result_of_flag f parts.0) (either_true (is_among (free_of (terms (roots cs k))) f) (has_symbol (new_bits cs k s) f) parts.1);
  }

  pub may_be_asserted : BlastGivesFlagFormulas → All (MayBeAsserted (declared_for cs k s)) (root_group cs k s).group.asserts
  may_be_asserted formulas = All-weaker (IsFlagFormula (roots cs k) (new_bits cs k s)) (MayBeAsserted (declared_for cs k s)) formula_asserted (root_group cs k s).group.asserts (formulas (roots cs k) s fit.blastable)

  -- ---- as the law says it

  pub all_flags : All (λ f. is_flag f ≡ true) (declared_for cs k s)
  all_flags = All-weaker IsFlag (λ f. is_flag f ≡ true) (λ f flag. flag_of_parts f flag.args flag.result) (declared_for cs k s) may_be_declared.flags
