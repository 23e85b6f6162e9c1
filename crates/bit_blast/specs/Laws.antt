-- Statements of the laws of blasted formulas: what they mean, and that they are formulas over truth values alone.
use Rattle.std.specs.Prelude.{◌≡◌, Bool, true, false, ◌&&◌, ◌||◌, List, [], ◌∷◌, map, Option, Some, All, IsTrue}
use Rattle.smt_terms.specs.Sorts.{Sort, bool, Symbol}
use Rattle.smt_terms.specs.Term.{Term, apply, quantified, Terms, none, ◌⨾◌, terms}
use Rattle.smt_terms.specs.Free.{is_among, free, free_of}
use Rattle.smt_terms.specs.Fresh.{Supply}
use Rattle.smt_terms.specs.Groups.{Named}
use Rattle.smt_terms.specs.Models.{Model, IsModel, symbol_value}
use Rattle.smt_terms.specs.Rank.{sort_of, IsWellSorted}
use Rattle.smt_terms.specs.SubstLaws.{names_within, GivesNone}
use Rattle.smt_terms.specs.Val.{no_variables, val}
use Rattle.smt_terms.specs.Values.{is_true}
use Rattle.bit_blast.specs.Blasted.{is_bits, blasted}
use Rattle.bit_blast.specs.Carried.{lifted, lowered}

abbrev pub holds : Model → Term → Bool
holds m t = is_true (val m t no_variables)

-- well-sorted formulas of bits, none of whose names the supply gives
pub record AreBlastable (roots : List Term) (s : Supply) : Type 0 where
  pub sorted : All IsWellSorted roots
  pub sorts : All (λ t. sort_of t ≡ Some bool) roots
  pub bits : All (λ t. is_bits t ≡ true) roots
  pub names : All (λ t. GivesNone s (names_within t)) roots

-- m gives the truth values of the roots what n gives them, and each new constant what the bit that it stands for is in n
pub record ReadsBits (roots : List Term) (ns : Named) (m n : Model) : Type 0 where
  pub flags : (f : Symbol) → IsTrue (is_among (free_of (terms roots)) f) → f.result ≡ bool → is_true (symbol_value m f []) ≡ is_true (symbol_value n f [])
  pub bits : All (λ p. is_true (symbol_value m p.0 []) ≡ holds n p.1) ns

-- each formula is true in m where its root is in n, and nowhere else
abbrev pub BlastKeepsValues : Type 0
BlastKeepsValues = (roots : List Term) (s : Supply) (m n : Model) → AreBlastable roots s → IsModel n → ReadsBits roots (blasted roots s).group.symbols m n
    → map (holds m) (blasted roots s).group.asserts ≡ map (holds n) roots

-- ---- models both ways

abbrev pub are_among : List Symbol → List Symbol → Bool
are_among all [] = true
are_among all (f ∷ fs) = is_among all f && are_among all fs

-- a model of the truth values gives one over these symbols, which reads the same bits
abbrev pub BlastLifts : Type 0
BlastLifts = (roots : List Term) (s : Supply) (symbols : List Symbol) (m : Model) → AreBlastable roots s → IsTrue (are_among symbols (free_of (terms roots))) → IsModel m
    → IsModel (lifted symbols (blasted roots s).group.symbols m) × ReadsBits roots (blasted roots s).group.symbols m (lifted symbols (blasted roots s).group.symbols m)

-- and a model of the roots gives one of the truth values among these symbols and of the new constants
abbrev pub BlastLowers : Type 0
BlastLowers = (roots : List Term) (s : Supply) (symbols : List Symbol) (n : Model) → AreBlastable roots s → IsTrue (are_among symbols (free_of (terms roots))) → IsModel n
    → IsModel (lowered symbols (blasted roots s).group.symbols n) × ReadsBits roots (blasted roots s).group.symbols (lowered symbols (blasted roots s).group.symbols n) n

-- ---- what is made

abbrev pub is_bool : Option Sort → Bool
is_bool (Some bool) = true
is_bool _ = false

abbrev mutual
  -- all subterms are truth values, and nothing is quantified
  pub is_boolean : Term → Bool
  is_boolean (apply h ts) = is_bool (sort_of (apply h ts)) && are_boolean ts
  is_boolean (quantified q xs body) = false

  pub are_boolean : Terms → Bool
  are_boolean none = true
  are_boolean (t ⨾ ts) = is_boolean t && are_boolean ts

abbrev pub is_flag : Symbol → Bool
is_flag f = is_bool (Some f.result)

abbrev pub has_symbol : Named → Symbol → Bool
has_symbol ns f = is_among (map (λ n. n.0) ns) f

-- a formula over truth values, whose symbols are those of the roots and new ones
pub record IsFlagFormula (roots : List Term) (ns : Named) (u : Term) : Type 0 where
  pub sorted : IsWellSorted u
  pub sort : sort_of u ≡ Some bool
  pub boolean : is_boolean u ≡ true
  pub free : (f : Symbol) → IsTrue (is_among (free u) f) → IsTrue (is_flag f && (is_among (free_of (terms roots)) f || has_symbol ns f))

abbrev pub BlastGivesFlagFormulas : Type 0
BlastGivesFlagFormulas = (roots : List Term) (s : Supply) → AreBlastable roots s → All (IsFlagFormula roots (blasted roots s).group.symbols) (blasted roots s).group.asserts
