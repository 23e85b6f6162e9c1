-- Terms under way: what waits for the term that is being read, from the innermost form out, and what the reading then gives.
use Rattle.std.specs.Prelude.{◌≡◌, Bool, true, false, ℕ, suc, ◌+◌, ◌<◌, ◌≤◌, List, [], ◌∷◌, ◌++◌, map, reverse, length, take, drop, get_or, All, IsTrue, Option, option_map, Result, Ok, Err}
use Rattle.smt_lex.specs.Lex.{Token}
use Rattle.smt_lex.specs.Names.{Name, is_among}
use Rattle.smt_lex.specs.Forest.{token_at, after_at}
use Rattle.smt_lex.specs.Forms.{Form, node, Forms, ◌⨾◌}
use Rattle.smt_terms.specs.declared.ids.NodeId.{NodeId}
use Rattle.smt_terms.specs.Fresh.{Supply, NeverGives}
use Rattle.smt_terms.specs.Rank.{are_bindable}
use Rattle.smt_terms.specs.Sorts.{Variable}
use Rattle.smt_terms.specs.Term.{Term}
use Rattle.smt_values.specs.SortIds.{sort_at, IsSortId}
use Rattle.term_table.specs.Formulas.{Formulas, tree, trees_at, symbol_at, IsSymbol}
use Rattle.sort_check.specs.Forms.{written_seen, is_apt}
use Rattle.term_subst.specs.declared.maps.Definition.{Definition}
use Rattle.term_subst.specs.Substituting.{IsLater}
use Rattle.term_walk.specs.Walking.{GrowsTo}
use Rattle.script_terms.specs.declared.locals.Constant.{Constant}
use Rattle.script_terms.specs.declared.faults.ReadFault.{ReadFault}
use Rattle.script_terms.specs.declared.terms.callees.Callee.{Callee}
use Rattle.script_terms.specs.declared.terms.callees.Callee.TheVariants.{Written as WrittenCallee, ArrayOf, Called, Defined, Operandless}
use Rattle.script_terms.specs.declared.sofar.Sofar.{Sofar as SofarSeen}
use Rattle.script_terms.specs.declared.terms.term_reader.TermReader.{TermReader}
use Rattle.script_terms.specs.declared.terms.frames.Lets.{Lets}
use Rattle.script_terms.specs.declared.terms.frames.Frame.{Frame}
use Rattle.script_terms.specs.declared.terms.frames.Frame.TheVariants.{Operands, Binding, Body, Quantified, Annotated}
use Rattle.script_terms.specs.declared.terms.frames.Quantifier.{Quantifier as QuantifierWord}
use Rattle.script_terms.specs.Quantifiers.{quantifier_of}
use Rattle.script_terms.specs.declared.terms.frames.Next.{Next}
use Rattle.script_terms.specs.declared.terms.frames.Next.TheVariants.{Form as NextForm, Term as NextTerm}
use Rattle.script_terms.specs.Refusals.{Refused}
use Rattle.script_terms.specs.Replies.{Refuses}
use Rattle.script_terms.specs.Parts.{named_parts, Opening, opening}
use Rattle.script_terms.specs.Reading.{lets_as, ReadBinding, Sofar, Reading, ◌>>=◌, by_live}
use Rattle.script_terms.specs.Heads.{Callee as CalleeOf, written, array_of_sort, called, defined, operandless, applied}
use Rattle.script_terms.specs.Read.{Context, with_local, read, read_all, read_bindings, quantified_over, term_names, annotated}
use Rattle.script_terms.specs.Known.{Scoping, Shows, IsSpared, AreSpared, no_definition, parameter_sorts, IsConstant, IsOwnName}
use Rattle.script_terms.specs.Bound.{LocalNames, ShowsLocals, variables_of, name_at, HaveOwnNames}
use Rattle.script_terms.specs.Sizes.{form_size, forms_size}
use Rattle.script_terms.specs.Places.{IsForm, form_from, forms_from}

-- ---- what stays the same or only gains while a term is read

pub record World : Type 0 where
  pub table : Formulas
  pub supply : Supply
  pub definitions : List Definition

pub record Gains (old new : World) : Type 0 where
  pub table : GrowsTo old.table new.table
  pub supply : IsLater old.supply new.supply
  pub definitions : new.definitions ≡ old.definitions

-- ---- frames

-- the token of the list that is read
abbrev pub list_of : Frame → ℕ
list_of (Operands f) = f.list
list_of (Binding f) = f.list
list_of (Body f) = f.list
list_of (Quantified f) = f.list
list_of (Annotated f) = f.list

-- an application waits for an operand
abbrev pub is_call : Frame → Bool
is_call (Operands f) = true
is_call _ = false

abbrev pub awaits_operand : List Frame → Bool
awaits_operand [] = false
awaits_operand (f ∷ fs) = is_call f

-- what stands beside the frames: local names and the callees of the applications under way, the innermost first, and the operands of all of these, the outermost first
pub record Stacks : Type 0 where
  pub locals : LocalNames
  pub callees : List Callee
  pub operands : List NodeId

abbrev pub without_locals : ℕ → Stacks → Stacks
without_locals n stacks = record { locals = drop n stacks.locals; callees = stacks.callees; operands = stacks.operands }

-- what of it was there before the frame
abbrev pub below : Frame → Stacks → Stacks
below (Operands f) stacks = record { locals = stacks.locals; callees = drop 1 stacks.callees; operands = take f.first stacks.operands }
below (Binding f) stacks = stacks
below (Body f) stacks = without_locals f.names stacks
below (Quantified f) stacks = without_locals (length f.constants.items) stacks
below (Annotated f) stacks = stacks

abbrev pub Later : Type 0
Later = Term → Reading Term

-- the names of a `let` with their terms, in order
abbrev pub name_with_term : Formulas → Name × NodeId → Name × Term
name_with_term t p = (p.0, tree t p.1)

abbrev pub names_with_terms : Formulas → List (Name × NodeId) → List (Name × Term)
names_with_terms t ps = map (name_with_term t) ps

-- the names, the last first
abbrev pub reversed_names : List (Name × NodeId) → List Name
reversed_names ps = reverse (map (λ p. p.0) ps)

module _ (ts : List Token) where
  -- ---- heads of applications

  -- the callee that the code's stands for
  abbrev pub ShowsCallee : World → Callee → CalleeOf → Type 0
  ShowsCallee w (WrittenCallee operator) c = (c ≡ written (written_seen operator)) × IsTrue (is_apt (written_seen operator))
  ShowsCallee w (ArrayOf s) c = IsSortId w.table.sorts s × (c ≡ array_of_sort (sort_at w.table.sorts s))
  ShowsCallee w (Called f) c = IsSymbol w.table f × (c ≡ called (symbol_at w.table f)) × NeverGives w.supply (symbol_at w.table f).name
  ShowsCallee w (Defined k) c =
      (xs : List Variable) × (k < length w.definitions) × (map (λ x. x.sort) xs ≡ parameter_sorts w.table (get_or w.definitions k no_definition))
      × (c ≡ defined xs (tree w.table (get_or w.definitions k no_definition).body))
  ShowsCallee w Operandless c = c ≡ operandless

  -- the answer is what the head calls
  abbrev pub ReadsCallee : World → Result CalleeOf Refused → Result Callee ReadFault → Type 0
  ReadsCallee w r (Ok callee) = (c : CalleeOf) × ShowsCallee w callee c × (r ≡ Ok c)
  ReadsCallee w r (Err e) = Refuses r e

-- the tokens of the text, and the name that the command defines
module _ (ts : List Token) (defines : Option Name) where
  abbrev pub start_of : ℕ → ℕ
  start_of i = (token_at ts i).start

  -- where a frame's form stands
  pub record Stands (w : World) (locals : LocalNames) (c : Context) : Type 0 where
    pub shown : ShowsLocals w.table w.supply locals c.locals
    pub named : c.defines ≡ defines

  -- an application whose operand was read, behind those from number `first` on, with those from token `at` on still to come
  pub record WaitsForOperand (w : World) (list first at : ℕ) (stacks : Stacks) (later outer : Later) : Type 0 where
    pub context : Context
    pub stands : Stands w stacks.locals context
    pub callee : Callee
    pub callees : List Callee
    pub innermost : stacks.callees ≡ callee ∷ callees
    pub within : first ≤ length stacks.operands
    pub called : CalleeOf
    pub shows : ShowsCallee ts w callee called
    pub spared : AreSpared w.table w.supply (drop first stacks.operands)
    pub place : at ≤ length ts
    pub next : (u : Term) (s : Sofar) → later u s
        ≡ ((read_all (forms_from ts at) context >>= λ us. applied called (start_of list) (trees_at w.table (drop first stacks.operands) ++ u ∷ us)) >>= outer) s

  -- a `let` with a binding `(x f)` whose f was read; `part` is the token of the binding
  pub record WaitsForBinding (w : World) (part body : ℕ) (names : List (Name × NodeId)) (locals : LocalNames) (later outer : Later) : Type 0 where
    pub context : Context
    pub stands : Stands w locals context
    pub bindings : Forms
    pub terms : AreSpared w.table w.supply (map (λ p. p.1) names)
    pub own : HaveOwnNames names
    pub new_name : is_among (map (λ p. p.0) names) (name_at ts (suc part)) ≡ false
    pub own_name : IsOwnName (name_at ts (suc part))
    pub named_token : suc part < length ts
    pub part_form : IsForm ts part
    pub body_form : IsForm ts body
    pub next : (u : Term) (s : Sofar) → later u s
        ≡ ((read_bindings (forms_from ts (after_at ts part)) (name_at ts (suc part) ∷ reversed_names names) context >>= λ us.
        read (form_from ts body) (with_local (lets_as bindings (names_with_terms w.table names ++ (name_at ts (suc part), u) ∷ us)) context)) >>= outer) s

  -- the body of a `let`
  pub record WaitsForBody (names : ℕ) (locals : LocalNames) (later outer : Later) : Type 0 where
    pub within : names ≤ length locals
    pub next : (u : Term) (s : Sofar) → later u s ≡ outer u s

  pub record WaitsForQuantified (w : World) (list : ℕ) (q : QuantifierWord) (constants : List Constant) (locals : LocalNames) (later outer : Later) : Type 0 where
    pub within : length constants ≤ length locals
    pub known : All (IsConstant w.table w.supply) constants
    pub bindable : are_bindable (variables_of w.table constants) ≡ true
    pub next : (u : Term) (s : Sofar) → later u s ≡ (quantified_over (start_of list) (quantifier_of q) (variables_of w.table constants) u >>= outer) s

  -- a term that may get names
  pub record WaitsForAnnotated (w : World) (list attributes : ℕ) (locals : LocalNames) (later outer : Later) : Type 0 where
    pub context : Context
    pub stands : Stands w locals context
    pub form : Form
    pub place : attributes ≤ length ts
    pub next : (u : Term) (s : Sofar) → later u s
        ≡ ((by_live (term_names context.defines (start_of list) [] (named_parts (forms_from ts attributes))) >>= λ ns. annotated (start_of list) context form u ns) >>= outer) s

  -- what a frame does with a term, whose form ends before token `at`, and what then comes
  abbrev pub Waits : World → Frame → ℕ → Stacks → Later → Later → Type 0
  Waits w (Operands f) at stacks later outer = WaitsForOperand w f.list f.first at stacks later outer
  Waits w (Binding f) at stacks later outer = WaitsForBinding w f.part f.body f.names.value stacks.locals later outer
  Waits w (Body f) at stacks later outer = WaitsForBody f.names stacks.locals later outer
  Waits w (Quantified f) at stacks later outer = WaitsForQuantified w f.list f.quantifier f.constants.items stacks.locals later outer
  Waits w (Annotated f) at stacks later outer = WaitsForAnnotated w f.list f.attributes stacks.locals later outer

  -- what all frames do, the innermost first
  abbrev pub AllWait : World → List Frame → ℕ → Stacks → Later → Type 0
  AllWait w [] at stacks later = (u : Term) (s : Sofar) → later u s ≡ Ok (u, s)
  AllWait w (f ∷ fs) at stacks later = (outer : Later) × IsForm ts (list_of f) × Waits w f at stacks later outer × AllWait w fs (after_at ts (list_of f)) (below f stacks) outer

  -- ---- a reading under way

  -- a form is read next
  pub record GoesOn (w : World) (s : Scoping) (stacks : Stacks) (frames : List Frame) (i : ℕ) (r : Result (Term × Sofar) Refused) : Type 0 where
    pub context : Context
    pub live : List ReadBinding
    pub later : Later
    pub form : IsForm ts i
    pub known : Shows w.table w.supply s live
    pub numbered : s.definitions ≡ w.definitions
    pub stands : Stands w stacks.locals context
    pub waiting : AllWait w frames (after_at ts i) stacks later
    pub is : r ≡ (read (form_from ts i) context >>= later) (record { live = live; supply = w.supply })

  -- a form was read as a term, and ends before token `at`
  pub record ComesBack (w : World) (s : Scoping) (stacks : Stacks) (frames : List Frame) (k : NodeId) (at : ℕ) (r : Result (Term × Sofar) Refused) : Type 0 where
    pub live : List ReadBinding
    pub later : Later
    pub known : Shows w.table w.supply s live
    pub numbered : s.definitions ≡ w.definitions
    pub spared : IsSpared w.table w.supply k
    pub place : at ≤ length ts
    pub waiting : AllWait w frames at stacks later
    pub is : r ≡ later (tree w.table k) (record { live = live; supply = w.supply })

  -- a binding of a `let` is read next, behind these names
  pub record BindsNext (w : World) (s : Scoping) (stacks : Stacks) (frames : List Frame) (list part body : ℕ) (names : List (Name × NodeId)) (r : Result (Term × Sofar) Refused) : Type 0 where
    pub context : Context
    pub live : List ReadBinding
    pub outer : Later
    pub bindings : Forms
    pub known : Shows w.table w.supply s live
    pub numbered : s.definitions ≡ w.definitions
    pub stands : Stands w stacks.locals context
    pub terms : AreSpared w.table w.supply (map (λ p. p.1) names)
    pub own : HaveOwnNames names
    pub list_form : IsForm ts list
    pub body_form : IsForm ts body
    pub waiting : AllWait w frames (after_at ts list) stacks outer
    pub is : r ≡ ((read_bindings (forms_from ts part) (reversed_names names) context >>= λ us.
        read (form_from ts body) (with_local (lets_as bindings (names_with_terms w.table names ++ us)) context)) >>= outer) (record { live = live; supply = w.supply })

  abbrev pub IsGoing : World → Scoping → Stacks → List Frame → Next → Result (Term × Sofar) Refused → Type 0
  IsGoing w s stacks frames (NextForm i) r = GoesOn w s stacks frames i r
  IsGoing w s stacks frames (NextTerm k at) r = ComesBack w s stacks frames k at r

  -- a step leads on to the same reading, or finds it refused
  abbrev pub Steps : World → Scoping → Stacks → List Frame → Result (Term × Sofar) Refused → Result Next ReadFault → Type 0
  Steps w s stacks frames r (Ok next) = IsGoing w s stacks frames next r
  Steps w s stacks frames r (Err e) = Refuses r e

-- ---- how much is left

abbrev pub frame_left : List Token → Frame → ℕ → ℕ
frame_left ts (Operands f) at = 1 + forms_size (forms_from ts at)
frame_left ts (Binding f) at = 2 + forms_size (forms_from ts (after_at ts f.part)) + form_size (form_from ts f.body)
frame_left ts _ at = 1

abbrev pub frames_left : List Token → List Frame → ℕ → ℕ
frames_left ts [] at = 0
frames_left ts (f ∷ fs) at = frame_left ts f at + frames_left ts fs (after_at ts (list_of f))

abbrev pub all_left : List Token → List Frame → Next → ℕ
all_left ts fs (NextForm i) = form_size (form_from ts i) + frames_left ts fs (after_at ts i)
all_left ts fs (NextTerm k at) = 1 + frames_left ts fs at

-- ---- the reader's parts

abbrev pub now_at : Formulas → SofarSeen → World
now_at t sofar = record { table = t; supply = sofar.fresh; definitions = sofar.scope.definitions }

abbrev pub defined_by : List Token → TermReader → Option Name
defined_by ts reader = option_map (name_at ts) reader.defines

abbrev pub stacks_of : TermReader → Stacks
stacks_of reader = record { locals = reader.locals; callees = reverse reader.callees.items; operands = reader.operands.items }

-- a reading under way, where these frames wait, the outermost first
abbrev pub Going : List Token → Formulas → SofarSeen → TermReader → Next → Result (Term × Sofar) Refused → Type 0
Going ts t sofar reader next r = IsGoing ts (defined_by ts reader) (now_at t sofar) sofar.scope (stacks_of reader) (reverse reader.frames.items) next r

abbrev pub Stepped : List Token → Formulas → SofarSeen → TermReader → Result (Term × Sofar) Refused → Result Next ReadFault → Type 0
Stepped ts t sofar reader r answer = Steps ts (defined_by ts reader) (now_at t sofar) sofar.scope (stacks_of reader) (reverse reader.frames.items) r answer

-- a reading in which a binding of this `let` is next
abbrev pub BindingNext : List Token → Formulas → SofarSeen → TermReader → Lets → Result (Term × Sofar) Refused → Type 0
BindingNext ts t sofar reader lets r = BindsNext ts (defined_by ts reader) (now_at t sofar) sofar.scope (stacks_of reader) (reverse reader.frames.items) lets.list lets.part lets.body lets.names.value r

-- a reading in which this frame waits for a term that was read
abbrev pub GoingBack : List Token → Formulas → SofarSeen → TermReader → Frame → NodeId → ℕ → Result (Term × Sofar) Refused → Type 0
GoingBack ts t sofar reader f k at r = ComesBack ts (defined_by ts reader) (now_at t sofar) sofar.scope (stacks_of reader) (f ∷ reverse reader.frames.items) k at r

pub record SomeGoingBack (ts : List Token) (t : Formulas) (sofar : SofarSeen) (reader : TermReader) (f : Frame) (k : NodeId) (at : ℕ) : Type 0 where
  pub reading : Result (Term × Sofar) Refused
  pub going : GoingBack ts t sofar reader f k at reading

-- some reading is under way
pub record SomeGoing (ts : List Token) (t : Formulas) (sofar : SofarSeen) (reader : TermReader) (next : Next) : Type 0 where
  pub reading : Result (Term × Sofar) Refused
  pub going : Going ts t sofar reader next reading

abbrev pub left_of : List Token → TermReader → Next → ℕ
left_of ts reader next = all_left ts (reverse reader.frames.items) next

abbrev pub left_behind : List Token → TermReader → Frame → ℕ → ℕ
left_behind ts reader f at = 1 + frames_left ts (f ∷ reverse reader.frames.items) at

-- what the reader's calls keep
pub record Keeps (old new : Formulas) (before now : SofarSeen) (reader_before reader_now : TermReader) : Type 0 where
  pub gains : Gains (now_at old before) (now_at new now)
  pub defines : reader_now.defines ≡ reader_before.defines

-- the list of token `list` begins with the form of token `first`, which opens it so
pub record Opens (ts : List Token) (list first : ℕ) (o : Opening) : Type 0 where
  pub form : form_from ts list ≡ node (token_at ts list).start (form_from ts first ⨾ forms_from ts (after_at ts first))
  pub begins : opening (form_from ts first) ≡ o
  pub first_form : IsForm ts first
