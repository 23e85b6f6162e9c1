-- Free symbols: SMT-LIB 2.6, sections 3.6 (binders) and 5.3. A quantifier binds, for each of its variables, the constant of
-- that name and that sort alone; other symbols of that name stay free below it.
use Rattle.std.specs.Prelude.{Bool, false, not, ◌||◌, List, [], ◌∷◌, ◌++◌, map, filter}
use Rattle.smt_terms.specs.Equal.{name_eq, symbol_eq}
use Rattle.smt_terms.specs.Sorts.{Name, Symbol, Variable}
use Rattle.smt_terms.specs.Term.{Head, op, symbol, const_array, Term, apply, quantified, Terms, none, ◌⨾◌, constant_of}

abbrev pub is_among : List Symbol → Symbol → Bool
is_among [] f = false
is_among (g ∷ gs) f = symbol_eq g f || is_among gs f

abbrev pub name_among : List Name → Name → Bool
name_among [] n = false
name_among (m ∷ ms) n = name_eq m n || name_among ms n

-- the first symbols, and then those of the second that aren't among them
abbrev pub with_more : List Symbol → List Symbol → List Symbol
with_more fs gs = fs ++ filter (λ g. not (is_among fs g)) gs

-- the symbols that these variables don't bind
abbrev pub without : List Variable → List Symbol → List Symbol
without xs fs = filter (λ f. not (is_among (map constant_of xs) f)) fs

abbrev pub head_symbols : Head → List Symbol
head_symbols (op _) = []
head_symbols (symbol f) = f ∷ []
head_symbols (const_array _) = []

-- the free symbols in order of first occurrence, each once; a symbol stands before its operands
abbrev mutual
  pub free : Term → List Symbol
  free (apply h ts) = with_more (head_symbols h) (free_of ts)
  free (quantified q xs body) = without xs (free body)

  pub free_of : Terms → List Symbol
  free_of none = []
  free_of (t ⨾ ts) = with_more (free t) (free_of ts)

abbrev pub names_of : List Symbol → List Name
names_of fs = map (λ f. f.name) fs
