-- Chains of `store`s: an innermost form, and what is stored in it, one after the other.
use Rattle.std.specs.Prelude.{◌≡◌, ℕ, List, [], ◌∷◌, map, reverse, All, Result, Ok, Err}
use Rattle.smt_lex.specs.Lex.{Token}
use Rattle.smt_lex.specs.Forms.{Form}
use Rattle.smt_terms.specs.Sorts.{Sort, array}
use Rattle.smt_terms.specs.Values.{Value, table, no_pairs, store}
use Rattle.script_terms.specs.Places.{IsForm, form_from}
use Rattle.model_texts.specs.Refusals.{Refused as RefusedAt, at}
use Rattle.model_texts.specs.Reading.{Element, Reading, ◌>>=◌, gives}
use Rattle.model_texts.specs.Replies.{cause_of}
use Rattle.model_texts.specs.Shapes.{shape_of, change}
use Rattle.model_texts.specs.ValueForms.{value_in}
use Rattle.model_texts.specs.declared.faults.TextFault.{TextFault}
use Rattle.model_texts.specs.declared.faults.TextFault.TheVariants.{Refused, Memory}
use Rattle.model_texts.specs.declared.values.Stored.{Stored}
use Rattle.model_texts.specs.declared.values.Chain.{Chain}

-- the array with a value at each of these keys, the first one first
abbrev pub with_stored : Sort → Sort → List (Form × Form) → Value → Reading Value
with_stored i e [] a = gives a
with_stored i e (p ∷ ps) a = do
  k ← value_in p.0 i
  v ← value_in p.1 e
  with_stored i e ps (store i (λ _. 1) a k v)

-- the array that has the value of a form everywhere
abbrev pub everywhere_in : Form → Sort → Reading Value
everywhere_in f e = value_in f e >>= λ v. gives (table v no_pairs)

-- ---- by the numbers of tokens

abbrev pub stored_forms : List Token → Stored → Form × Form
stored_forms ts s = (form_from ts s.key, form_from ts s.value)

-- what is stored, the first one first
abbrev pub all_stored : List Token → List Stored → List (Form × Form)
all_stored ts ss = map (stored_forms ts) (reverse ss)

abbrev pub AreStored : List Token → List Stored → Type 0
AreStored ts ss = All (λ s. IsForm ts s.key × IsForm ts s.value) ss

-- no form of a `store`
abbrev pub IsInnermost : Form → Type 0
IsInnermost f = (a k v : Form) → shape_of f ≡ change a k v → ⊥

pub record IsChainOf (ts : List Token) (f : Form) (c : Chain) : Type 0 where
  pub form : IsForm ts c.innermost
  pub stored : AreStored ts c.stores.items
  pub innermost : IsInnermost (form_from ts c.innermost)
  pub reads : (i e : Sort) (es : List Element) → value_in f (array i e) es ≡ (value_in (form_from ts c.innermost) (array i e) >>= with_stored i e (all_stored ts c.stores.items)) es

-- the token of the value that an innermost form has everywhere, or its refusal
abbrev pub ReadsEverywhere : List Token → Sort → Reading Value → Result ℕ TextFault → Type 0
ReadsEverywhere ts e reading (Ok v) = IsForm ts v × ((es : List Element) → reading es ≡ everywhere_in (form_from ts v) e es)
ReadsEverywhere ts e reading (Err (Refused cause place)) = (es : List Element) → reading es ≡ at (cause_of cause) place
ReadsEverywhere ts e reading (Err Memory) = ⊥
