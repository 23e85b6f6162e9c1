-- Substitution of terms for free constants, without capture: SMT-LIB 2.6, sections 3.6 and 5.3. All replacements happen
-- at once. A bound name is renamed exactly where it occurs free in the image of a symbol that is free below its quantifier.
use Rattle.std.specs.Prelude.{ℕ, Bool, true, false, cond, ◌&&◌, List, [], ◌∷◌, flat_map, filter_map, zip, Option, Some, None, option_map}
use Rattle.smt_terms.specs.Sorts.{Name, Sort, Symbol, Variable}
use Rattle.smt_terms.specs.Term.{Quantifier, Head, symbol, Term, apply, quantified, Terms, none, ◌⨾◌, constant_of, variable}
use Rattle.smt_terms.specs.Equal.{symbol_eq, term_eq}
use Rattle.smt_terms.specs.Free.{free, name_among, names_of, without}
use Rattle.smt_terms.specs.Fresh.{Supply, fresh_for, after_draw}
use Rattle.smt_terms.specs.Made.{made}
use Rattle.smt_terms.specs.Numeral.{numeral}

-- what takes the place of which symbol; the first image of a symbol counts
abbrev pub Map : Type 0
Map = List (Symbol × Term)

abbrev pub image : Map → Symbol → Option Term
image [] f = None
image (p ∷ ps) f = cond (symbol_eq p.0 f) (Some p.1) (image ps f)

-- the map cut down to these symbols, in their order
abbrev pub cut_to : List Symbol → Map → Map
cut_to fs m = filter_map (λ f. option_map (λ t. (f, t)) (image m f)) fs

-- the names that occur free in its images
abbrev pub names_in : Map → List Name
names_in m = flat_map (λ p. names_of (free p.1)) m

-- a quantifier's variables after renaming, the map for its body, and the names that are left
pub record Renamed : Type 0 where
  pub variables : List Variable
  pub map : Map
  pub names : Supply

abbrev pub bound_first : Variable → Renamed → Renamed
bound_first x r = record { variables = x ∷ r.variables; map = r.map; names = r.names }

-- a variable whose name is captured gets a fresh name, and stands for it in what is below
abbrev pub bind : Bool → Variable → Map → Supply → (Map → Supply → Renamed) → Renamed
bind true x m s below = bound_first (fresh_for x s) (below ((constant_of x, variable (fresh_for x s)) ∷ m) (after_draw s))
bind false x m s below = bound_first x (below m s)

-- the variables of a quantifier from left to right
abbrev pub renaming : List Name → List Variable → Map → Supply → Renamed
renaming captured [] m s = record { variables = []; map = m; names = s }
renaming captured (x ∷ xs) m s = bind (name_among captured x.name) x m s (λ m' s'. renaming captured xs m' s')

-- the result of a quantified term under a cut map
pub record Chosen : Type 0 where
  pub cut : Map
  pub term : Term
  pub result : Term

-- what one substitution keeps: the names that are left, and the results of quantified terms, so that one term under one
-- cut map gets one choice of names
pub record Choices : Type 0 where
  pub names : Supply
  pub chosen : List Chosen

abbrev pub map_eq : Map → Map → Bool
map_eq [] [] = true
map_eq (p ∷ ps) (q ∷ qs) = symbol_eq p.0 q.0 && (term_eq p.1 q.1 && map_eq ps qs)
map_eq _ _ = false

abbrev pub chosen_for : List Chosen → Map → Term → Option Term
chosen_for [] m t = None
chosen_for (c ∷ cs) m t = cond (map_eq c.cut m && term_eq c.term t) (Some c.result) (chosen_for cs m t)

abbrev pub keep : Map → Term → Term × Choices → Term × Choices
keep cut t r = (r.0, record { names = r.1.names; chosen = record { cut = cut; term = t; result = r.0 } ∷ r.1.chosen })

-- the result that was kept, or else the one to be made
abbrev pub kept_or : Option Term → Choices → (Choices → Term × Choices) → Term × Choices
kept_or (Some r) s more = (r, s)
kept_or None s more = more s

-- the quantifier over its renamed variables and what becomes of the body
abbrev pub quantify : Quantifier → Renamed → List Chosen → (Map → Choices → Term × Choices) → Term × Choices
quantify q r chosen body =
    let b : Term × Choices = body r.map (record { names = r.names; chosen = chosen }) in
    (quantified q r.variables b.0, b.1)

abbrev pub image_or_itself : Option Term → Symbol → Term
image_or_itself (Some t) f = t
image_or_itself None f = apply (symbol f) none

-- a head over what became of its operands; a symbol without operands gives way to its image
abbrev pub rebuilt : Map → Head → Terms → Term
rebuilt m (symbol f) none = image_or_itself (image m f) f
rebuilt m h ts = made h ts

abbrev mutual
  pub subst_from : Map → Term → Choices → Term × Choices
  subst_from m (apply h ts) s =
      let r : Terms × Choices = substs_from m ts s in (rebuilt m h r.0, r.1)
  subst_from m (quantified q xs body) s =
      let cut : Map = cut_to (without xs (free body)) m in
      kept_or (chosen_for s.chosen cut (quantified q xs body)) s λ s'.
      keep cut (quantified q xs body) (quantify q (renaming (names_in cut) xs cut s'.names) s'.chosen (λ m' s''. subst_from m' body s''))

  pub substs_from : Map → Terms → Choices → Terms × Choices
  substs_from m none s = (none, s)
  substs_from m (t ⨾ ts) s =
      let a : Term × Choices = subst_from m t s in
      let r : Terms × Choices = substs_from m ts a.1 in
      (a.0 ⨾ r.0, r.1)

-- the term after all replacements, and the names that are left
abbrev pub subst : Map → Term → Supply → Term × Supply
subst m t s =
    let r : Term × Choices = subst_from m t (record { names = s; chosen = [] }) in
    (r.0, r.1.names)

-- the constant that stands for parameter i of a definition
abbrev pub parameter : ℕ → Sort → Symbol
parameter i s = record { name = 64 ∷ 112 ∷ numeral i; args = []; result = s }

-- the body of a definition with arguments for its parameters
abbrev pub expand : List Symbol → Term → List Term → Supply → Term × Supply
expand parameters body arguments s = subst (zip parameters arguments) body s
