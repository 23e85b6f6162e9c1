-- The reading of a sort step by step: array sorts wait for their parts, the innermost first.
use Rattle.std.specs.Prelude.{◌≡◌, ℕ, suc, ◌+◌, ◌*◌, ◌≤◌, false, List, [], ◌∷◌, All, Result, Ok, Err, if◌then◌else◌}
use Rattle.smt_lex.specs.Lex.{Token}
use Rattle.smt_lex.specs.Names.{Name, is_theory_sort}
use Rattle.smt_lex.specs.Forms.{Form, atom, node, Forms, none, ◌⨾◌}
use Rattle.smt_terms.specs.Rank.{is_array}
use Rattle.smt_terms.specs.Sorts.{Sort, array}
use Rattle.smt_terms.specs.declared.ids.SortId.{SortId}
use Rattle.smt_values.specs.SortIds.{sort_at, IsSortId}
use Rattle.script_terms.specs.declared.causes.Cause.TheVariants.{BadForm, IndexSort}
use Rattle.script_terms.specs.declared.faults.Fault.{Fault}
use Rattle.script_terms.specs.declared.faults.ReadFault.{ReadFault}
use Rattle.script_terms.specs.declared.faults.ReadFault.TheVariants.{Refused as RefusedFor, Memory}
use Rattle.script_terms.specs.declared.sorts.Frame.{Frame}
use Rattle.script_terms.specs.declared.sorts.Frame.TheVariants.{Index, Element}
use Rattle.script_terms.specs.declared.sorts.Part.{Part}
use Rattle.script_terms.specs.declared.sorts.Part.TheVariants.{Whole, Array}
use Rattle.script_terms.specs.Parts.{place_of}
use Rattle.script_terms.specs.Places.{IsForm, form_from}
use Rattle.script_terms.specs.Refusals.{Refused, at, and_then, unless, mapped}
use Rattle.script_terms.specs.Replies.{refused_seen}
use Rattle.script_terms.specs.SortForms.{Sorts, sort_in, applied_name}

-- a name in front of others that isn't `Array`
abbrev pub without_parameters : Sorts → ℕ → Name → Result Sort Refused
without_parameters live place n = if is_theory_sort n then at BadForm place else applied_name place n (live n)

-- ---- what waits for a sort

-- the array sort of the forms at these tokens, where the first of them is this as a sort
abbrev pub array_of : Sorts → List Token → ℕ → ℕ → Result Sort Refused → Result Sort Refused
array_of live ts index element r =
    and_then (λ s. unless (is_array s) IndexSort (place_of (form_from ts index)) (mapped (λ t. array s t) (sort_in live (form_from ts element)))) r

-- what a frame makes of the sort that it waits for
abbrev pub filled : Sorts → List Token → List Sort → Frame → Result Sort Refused → Result Sort Refused
filled live ts ss (Index index element) r = array_of live ts index element r
filled live ts ss (Element index) r = mapped (λ t. array (sort_at ss index) t) r

-- and what the frames of a stack make, the innermost first
abbrev pub all_filled : Sorts → List Token → List Sort → List Frame → Result Sort Refused → Result Sort Refused
all_filled live ts ss [] r = r
all_filled live ts ss (f ∷ fs) r = all_filled live ts ss fs (filled live ts ss f r)

-- forms of the text, and an index sort of the table
abbrev pub IsFrame : List Token → List Sort → Frame → Type 0
IsFrame ts ss (Index index element) = IsForm ts index × IsForm ts element
IsFrame ts ss (Element index) = IsSortId ss index × (is_array (sort_at ss index) ≡ false)

abbrev pub AreFrames : List Token → List Sort → List Frame → Type 0
AreFrames ts ss fs = All (IsFrame ts ss) fs

-- ---- how much is left to read

abbrev mutual
  pub form_size : Form → ℕ
  form_size (atom t) = 1
  form_size (node place fs) = suc (forms_size fs)

  pub forms_size : Forms → ℕ
  forms_size none = 0
  forms_size (f ⨾ fs) = form_size f + forms_size fs

abbrev pub frame_size : List Token → Frame → ℕ
frame_size ts (Index index element) = 2 * form_size (form_from ts element) + 2
frame_size ts (Element index) = 1

abbrev pub frames_size : List Token → List Frame → ℕ
frames_size ts [] = 0
frames_size ts (f ∷ fs) = frame_size ts f + frames_size ts fs

-- ---- answers

-- this is the array sort of the forms at these tokens, which have fewer parts than n
pub record IsArrayOf (live : Sorts) (ts : List Token) (r : Result Sort Refused) (n index element : ℕ) : Type 0 where
  pub first : IsForm ts index
  pub second : IsForm ts element
  pub sort : r ≡ array_of live ts index element (sort_in live (form_from ts index))
  pub size : form_size (form_from ts index) + form_size (form_from ts element) + 2 ≤ n

-- this is what a form of n parts is as a sort
abbrev pub IsPartOf : Sorts → List Token → List Sort → Result Sort Refused → ℕ → Result Part Fault → Type 0
IsPartOf live ts ss r n (Ok (Whole k)) = (r ≡ Ok (sort_at ss k)) × IsSortId ss k
IsPartOf live ts ss r n (Ok (Array index element)) = IsArrayOf live ts r n index element
IsPartOf live ts ss r n (Err e) = r ≡ Err (refused_seen e)

abbrev pub IsPartAt : Sorts → List Token → List Sort → Form → Result Part Fault → Type 0
IsPartAt live ts ss f part = IsPartOf live ts ss (sort_in live f) (form_size f) part

-- a sort that the frames wait for, where in the end this comes of it
abbrev pub Leads : Sorts → List Token → List Sort → List Frame → Result Sort Refused → Result SortId ReadFault → Type 0
Leads live ts ss fs r (Ok k) = r ≡ all_filled live ts ss fs (Ok (sort_at ss k))
Leads live ts ss fs r (Err (RefusedFor e)) = r ≡ Err (refused_seen e)
Leads live ts ss fs r (Err Memory) = Unit {0}
