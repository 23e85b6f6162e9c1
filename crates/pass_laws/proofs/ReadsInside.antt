-- Reading over writing brings nothing in: no free symbol, no name and no sort but those of the term, which stays clear.
use Rattle.std.proofs.Common.{◌≡◌, Bool, true, false, cond, ◌&&◌, List, refl}
use Rattle.std.specs.Prelude.{⊤, is_some}
use Rattle.std.specs.List.{list_all}
use Rattle.smt_terms.specs.declared.op.Op.{Op}
use Rattle.smt_terms.specs.declared.op.Op.TheVariants.{Neg, Equal, Ite, Select, Store, Whole}
use Rattle.smt_terms.specs.Sorts.{Name, Sort, Symbol, Variable}
use Rattle.smt_terms.specs.Term.{Head, op, const_array, Term, apply, quantified, Terms, none, ◌⨾◌}
use Rattle.smt_terms.specs.ArrayTerms.{selected}
use Rattle.smt_terms.specs.Connectives.{equal}
use Rattle.smt_terms.specs.Constants.{are_different_constants}
use Rattle.smt_terms.specs.Equal.{op_eq, term_eq}
use Rattle.smt_terms.specs.Free.{is_among, names_of, head_symbols, free, free_of}
use Rattle.smt_terms.specs.Made.{minus, made}
use Rattle.smt_terms.specs.Rank.{sort_of, is_regular, IsWellSorted}
use Rattle.smt_terms.specs.Shapes.{is_clear}
use Rattle.smt_terms.specs.SubstLaws.{names_within, names_within_each}
use Rattle.smt_terms.proofs.Keeping.{the_sort}
use Rattle.smt_terms.proofs.Runs.{among-name}
use Rattle.smt_terms.proofs.Tests.{both_true, and_true}
use Rattle.array_forms.specs.Reads.{where_equal, over_store, read, made_by_reading, reads, reads_all}
use Rattle.normal_forms.proofs.Clear.{ClearEach, in-first, stays-clear}
use Rattle.normal_forms.proofs.Inside.{in-left, Within, NamedIn, Inside, InsideOne, inside-first, inside-rest, inside-operand, inside-body, head-within, op-within}
use Rattle.normal_forms.proofs.Replaced.{operands-within}
use Rattle.script_read.specs.Printable.{head_sorts, all_within, all_within_each}

abbrev pub AllOf : (Term → Type 0) → Terms → Type 0
AllOf P none = ⊤
AllOf P (t ⨾ ts) = P t × AllOf P ts

-- ---- what operands inherit and operators keep

module _ (P : Term → Type 0) (down : (h : Head) (ts : Terms) → P (apply h ts) → AllOf P ts) (over : (o : Op) (ts : Terms) → AllOf P ts → P (apply (op o) ts)) where
  choice-has : (i j v w : Term) → P i → P j → P v → P w → P (where_equal i j v w)
  choice-has i j v w pi pj pv pw = over Ite (equal i j ⨾ v ⨾ w ⨾ none) (over Equal (i ⨾ j ⨾ none) (pi, (pj, tt)), (pv, (pw, tt)))

  over_store-has : (i j v w : Term) → P i → P j → P v → P w → P (over_store i j v w)
  over_store-has i j v w pi pj pv pw = go (term_eq i j) (are_different_constants i j)
    where
      go : (b c : Bool) → P (cond b v (cond c w (where_equal i j v w)))
      go true c = pv
      go false true = pw
      go false false = choice-has i j v w pi pj pv pw

  select-has : (a j : Term) → P a → P j → P (selected a j)
  select-has a j pa pj = over Select (a ⨾ j ⨾ none) (pa, (pj, tt))

  three-has : (o : Op) (b i v j r : Term) → P (apply (op o) (b ⨾ i ⨾ v ⨾ none)) → P j → P r → P (cond (op_eq o Store) (over_store i j v r) (selected (apply (op o) (b ⨾ i ⨾ v ⨾ none)) j))
  three-has o b i v j r given pj pr = go (op_eq o Store) (down (op o) (b ⨾ i ⨾ v ⨾ none) given)
    where
      go : (c : Bool) → AllOf P (b ⨾ i ⨾ v ⨾ none) → P (cond c (over_store i j v r) (selected (apply (op o) (b ⨾ i ⨾ v ⨾ none)) j))
      go true each = over_store-has i j v r each.1.0 pj each.1.1.0 pr
      go false each = select-has (apply (op o) (b ⨾ i ⨾ v ⨾ none)) j given pj

  read-has : (a j : Term) → P a → P j → P (read a j)
  read-has (apply (const_array s) (v ⨾ none)) j given pj = (down (const_array s) (v ⨾ none) given).0
  read-has (apply (op o) (b ⨾ i ⨾ v ⨾ none)) j given pj =
      three-has o b i v j (read b j) given pj (read-has b j (down (op o) (b ⨾ i ⨾ v ⨾ none) given).0 pj)
  read-has a j given pj = select-has a j given pj

  minus-has : (t : Term) → P t → P (minus t)
  minus-has (apply (op (Whole n)) none) given = over _ none tt
  minus-has t given = over Neg (t ⨾ none) (given, tt)

  made-has : (h : Head) (ts : Terms) → P (apply h ts) → P (made h ts)
  made-has (op Neg) (t ⨾ none) given = minus-has t (down (op Neg) (t ⨾ none) given).0
  made-has h ts given = given

  two-has : (o : Op) (a j : Term) → P (apply (op o) (a ⨾ j ⨾ none)) → P (cond (op_eq o Select) (read a j) (apply (op o) (a ⨾ j ⨾ none)))
  two-has o a j given = go (op_eq o Select) (down (op o) (a ⨾ j ⨾ none) given)
    where
      go : (c : Bool) → AllOf P (a ⨾ j ⨾ none) → P (cond c (read a j) (apply (op o) (a ⨾ j ⨾ none)))
      go true each = read-has a j each.0 each.1.0
      go false each = given

  made_by_reading-has : (h : Head) (ts : Terms) → P (apply h ts) → P (made_by_reading h ts)
  made_by_reading-has (op o) (a ⨾ j ⨾ none) given = two-has o a j given
  made_by_reading-has h ts given = made-has h ts given

-- ---- symbols, names and clearness

pub all-map : (P Q : Term → Type 0) → ((r : Term) → P r → Q r) → (ts : Terms) → AllOf P ts → AllOf Q ts
all-map P Q step none all = tt
all-map P Q step (t ⨾ ts) all = (step t all.0, all-map P Q step ts all.1)

mutual
  reads-inside : (t : Term) → Inside t (reads t)
  reads-inside (apply h ts) =
      let fs : List Symbol = free (apply h ts) in
      let ns : List Name = names_within (apply h ts) in
      made_by_reading-has (Within (free (apply h ts)) (NamedIn (names_within (apply h ts))) (ClearEach ts)) (operands-within fs (NamedIn ns) (ClearEach ts)) (op-within fs (NamedIn ns) (ClearEach ts)) h (reads_all ts)
      (head-within fs (NamedIn ns) (ClearEach ts) h (reads_all ts)
      (λ g among. (in-first (head_symbols h) (free_of ts) g among, in-left (names_of (head_symbols h)) (names_within_each ts) g.name (among-name (head_symbols h) g among)))
      (all-map (InsideOne ts) (Inside (apply h ts)) (inside-operand h ts) (reads_all ts) (all-inside ts)))
  reads-inside (quantified q xs body) = inside-body q q xs body (reads body) (reads-inside body)

  all-inside : (ts : Terms) → AllOf (InsideOne ts) (reads_all ts)
  all-inside none = tt
  all-inside (t ⨾ ts) = (inside-first t ts (reads t) (reads-inside t), all-map (InsideOne ts) (InsideOne (t ⨾ ts)) (inside-rest t ts) (reads_all ts) (all-inside ts))

pub reads-symbols : (t : Term) (g : Symbol) → is_among (free (reads t)) g ≡ true → is_among (free t) g ≡ true
reads-symbols t = (reads-inside t).symbols

pub reads-names : (t : Term) (n : Name) → NamedIn (names_within (reads t)) n → NamedIn (names_within t) n
reads-names t = (reads-inside t).names

pub reads-clear : (t : Term) → IsWellSorted t → is_clear t ≡ true → is_clear (reads t) ≡ true
reads-clear t fine =
    let found = the_sort (sort_of t) (both_true (is_some (sort_of t)) (is_regular t) fine).0 in
    stays-clear t (reads t) found.0 found.1 (reads-inside t).symbols (reads-inside t).clear

-- ---- sorts and quantified names

module _ (sorts : Sort → Bool) (names : Name → Bool) where
  abbrev within : Term → Bool
  within t = all_within sorts names t

  abbrev pub IsWithin : Term → Type 0
  IsWithin t = within t ≡ true

  abbrev pub passes : Variable → Bool
  passes x = sorts x.sort && names x.name

  apart : (ts : Terms) → all_within_each sorts names ts ≡ true → AllOf IsWithin ts
  apart none all = tt
  apart (t ⨾ ts) all = let parts = both_true (within t) (all_within_each sorts names ts) all in (parts.0, apart ts parts.1)

  pub together : (ts : Terms) → AllOf IsWithin ts → all_within_each sorts names ts ≡ true
  together none all = refl
  together (t ⨾ ts) all = and_true (within t) (all_within_each sorts names ts) all.0 (together ts all.1)

  pub operands : (h : Head) (ts : Terms) → IsWithin (apply h ts) → AllOf IsWithin ts
  operands h ts given = apart ts (both_true (list_all sorts (head_sorts h)) (all_within_each sorts names ts) given).1

  pub over : (h : Head) (ts us : Terms) → IsWithin (apply h ts) → AllOf IsWithin us → IsWithin (apply h us)
  over h ts us given each = and_true (list_all sorts (head_sorts h)) (all_within_each sorts names us) (both_true (list_all sorts (head_sorts h)) (all_within_each sorts names ts) given).0 (together us each)

  mutual
    pub reads-within : (t : Term) → IsWithin t → IsWithin (reads t)
    reads-within (apply h ts) given =
        made_by_reading-has IsWithin operands (λ o us each. together us each) h (reads_all ts) (over h ts (reads_all ts) given (all-reads-within ts (operands h ts given)))
    reads-within (quantified q xs body) given =
        let parts = both_true (list_all passes xs) (within body) given in
        and_true (list_all passes xs) (within (reads body)) parts.0 (reads-within body parts.1)

    all-reads-within : (ts : Terms) → AllOf IsWithin ts → AllOf IsWithin (reads_all ts)
    all-reads-within none each = tt
    all-reads-within (t ⨾ ts) each = (reads-within t each.0, all-reads-within ts each.1)
