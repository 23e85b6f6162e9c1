-- A reading from its first form to its term: how lists open, what is kept from step to step, and where it ends.
use Rattle.std.proofs.Common.{◌≡◌, ℕ, ◌<◌, List, [], ◌∷◌, ◌++◌, reverse, length, false, Option, Some, IfSome, Result, Ok, Err, refl, ap, sym, ◌∙◌, subst}
use Rattle.smt_lex.specs.Lex.{Token}
use Rattle.smt_lex.specs.Forest.{token_at, after_at}
use Rattle.smt_lex.specs.Forms.{node}
use Rattle.smt_terms.specs.declared.ids.NodeId.{NodeId}
use Rattle.smt_terms.specs.Term.{Term}
use Rattle.term_table.specs.Formulas.{Formulas, tree}
use Rattle.term_walk.proofs.Visits.{table-grows}
use Rattle.script_terms.specs.declared.sofar.Sofar.{Sofar as SofarSeen}
use Rattle.script_terms.specs.declared.terms.frames.Frame.{Frame}
use Rattle.script_terms.specs.declared.terms.frames.Next.{Next}
use Rattle.script_terms.specs.declared.terms.frames.Next.TheVariants.{Form as NextForm, Term as NextTerm}
use Rattle.script_terms.specs.declared.terms.term_reader.TermReader.{TermReader}
use Rattle.script_terms.specs.Refusals.{Refused}
use Rattle.script_terms.specs.Parts.{Opening, opening, index_word}
use Rattle.script_terms.specs.Heads.{vector_constant}
use Rattle.script_terms.specs.Reading.{ReadBinding, Sofar, continued, gives, beside}
use Rattle.script_terms.specs.Read.{Context, read}
use Rattle.script_terms.specs.Known.{Shows, ReadsTerm}
use Rattle.script_terms.specs.Bound.{LocalNames, ShowsLocals}
use Rattle.script_terms.specs.PlaceClauses.{BeginsForm, IsListAt}
use Rattle.script_terms.specs.Places.{IsForm, SparesText, form_from, forms_from}
use Rattle.script_terms.specs.TermClauses.{defined_name}
use Rattle.script_terms.specs.Waiting.{AllWait, is_call, awaits_operand, ComesBack, Opens, SomeGoing, Keeps, now_at, defined_by, stacks_of, Going, GoingBack}
use Rattle.script_terms.proofs.Grown.{later_on, never_later}
use Rattle.script_terms.proofs.Stepping.{at_state, gains_self}
use Rattle.script_terms.proofs.Stepped.{reading_of, opened_is, reverse_push}

-- ---- a list opens

module _ (ts : List Token) (list first : ℕ) (inside : IsListAt ts list (Some first)) where
  pub opens_so : BeginsForm ts first → (o : Opening) → o ≡ opening (form_from ts first) → Opens ts list first o
  opens_so begins o is = record {
    form = inside.0 ∙ ap (node (token_at ts list).start) begins.forms;
    begins = sym is;
    first_form = begins.form;
  }

module _ (ts : List Token) (t : Formulas) (sofar : SofarSeen) (reader : TermReader) (list : ℕ) (r : Result (Term × Sofar) Refused) (going : Going ts t sofar reader (NextForm list) r) where
  -- a bit-vector constant
  pub vector_is : (first : ℕ) → Opens ts list first index_word → (name : ℕ) → name ≡ after_at ts first
      → reading_of ts t sofar reader list r going ≡ beside (at_state going.live (now_at t sofar)) (vector_constant (token_at ts list).start (forms_from ts name))
  vector_is first opens name is = opened_is ts t sofar reader list r going first index_word opens
      ∙ ap (λ n. beside (at_state going.live (now_at t sofar)) (vector_constant (token_at ts list).start (forms_from ts n))) (sym is)

-- ---- what steps keep

pub keeps_self : (t : Formulas) (sofar : SofarSeen) (reader now : TermReader) → now.defines ≡ reader.defines → Keeps t t sofar sofar reader now
keeps_self t sofar reader now same = record { gains = gains_self (now_at t sofar); defines = same }

pub keeps_on : (t u v : Formulas) (a b c : SofarSeen) (x y z : TermReader) → Keeps t u a b x y → Keeps u v b c y z → Keeps t v a c x z
keeps_on t u v a b c x y z first second = record {
  gains = record {
    table = table-grows t u v first.gains.table second.gains.table;
    supply = later_on a.fresh b.fresh c.fresh first.gains.supply second.gains.supply;
    definitions = second.gains.definitions ∙ first.gains.definitions;
  };
  defines = second.defines ∙ first.defines;
}

pub text_later : (ts : List Token) (t u : Formulas) (a b : SofarSeen) (x y : TermReader) → Keeps t u a b x y → SparesText ts a.fresh → SparesText ts b.fresh
text_later ts t u a b x y keeps spares i n within symbol = never_later a.fresh b.fresh keeps.gains.supply n (spares i n within symbol)

-- ---- a frame is taken off

module _ (ts : List Token) (t : Formulas) (sofar : SofarSeen) (reader now : TermReader) (f : Frame) (same : now ≡ record { alloc = reader.alloc; defines = reader.defines; locals = reader.locals; frames = now.frames; operands = reader.operands; callees = reader.callees })
    (popped : reader.frames.items ≡ now.frames.items ++ f ∷ []) where
  turned : reverse reader.frames.items ≡ f ∷ reverse now.frames.items
  turned = ap reverse popped ∙ reverse_push now.frames.items f

  pub frame_other : awaits_operand (reverse reader.frames.items) ≡ false → is_call f ≡ false
  frame_other is = ap awaits_operand (sym turned) ∙ is

  pub frame_waits : (k : NodeId) (at : ℕ) (r : Result (Term × Sofar) Refused) → Going ts t sofar reader (NextTerm k at) r → GoingBack ts t sofar now f k at r
  frame_waits k at r going = subst (λ x. ComesBack ts (defined_by ts x) (now_at t sofar) sofar.scope (stacks_of x) (f ∷ reverse now.frames.items) k at r) (sym same)
      (subst (λ fs. ComesBack ts (defined_by ts reader) (now_at t sofar) sofar.scope (stacks_of reader) fs k at r) turned going)

-- ---- where a reading begins and ends

module _ (ts : List Token) (t : Formulas) (sofar : SofarSeen) (reader : TermReader) (empty : reader.frames.items ≡ []) where
  none_waits : reverse reader.frames.items ≡ []
  none_waits = ap reverse empty

  given_alone : (r : Result (Term × Sofar) Refused) → r ≡ continued (λ u. gives u) r
  given_alone (Ok p) = refl
  given_alone (Err e) = refl

  pub begins_reading : (i : ℕ) (c : Context) (live : List ReadBinding) → IsForm ts i → Shows t sofar.fresh sofar.scope live → ShowsLocals t sofar.fresh reader.locals c.locals → c.defines ≡ defined_name ts reader.defines
      → Going ts t sofar reader (NextForm i) (read (form_from ts i) c (record { live = live; supply = sofar.fresh }))
  begins_reading i c live form shows locals named = record {
    context = c;
    live = live;
    later = λ u. gives u;
    form = form;
    known = shows;
    numbered = refl;
    stands = record { shown = locals; named = named };
    waiting = subst (λ fs. AllWait ts (defined_by ts reader) (now_at t sofar) fs (after_at ts i) (stacks_of reader) (λ u. gives u)) (sym none_waits) (λ u s. refl);
    is = given_alone (read (form_from ts i) c (record { live = live; supply = sofar.fresh }));
  }

  -- the same of a reader that was given these local names, and the token of the name that is defined
  pub begins_below : (ps : LocalNames) (d : Option ℕ) → reader.locals ≡ ps → reader.defines ≡ d
      → (i : ℕ) (c : Context) (live : List ReadBinding) → IsForm ts i → Shows t sofar.fresh sofar.scope live → ShowsLocals t sofar.fresh ps c.locals → c.defines ≡ defined_name ts d
      → Going ts t sofar reader (NextForm i) (read (form_from ts i) c (record { live = live; supply = sofar.fresh }))
  begins_below ps d locals_are defines_is i c live form shows locals named =
      begins_reading i c live form shows (subst (λ (qs : LocalNames). ShowsLocals t sofar.fresh qs c.locals) (sym locals_are) locals) (named ∙ ap (defined_name ts) (sym defines_is))

  pub ends_reading : (k : NodeId) (at : ℕ) (r : Result (Term × Sofar) Refused) → Going ts t sofar reader (NextTerm k at) r → ReadsTerm t sofar.scope sofar.fresh r (Ok k)
  ends_reading k at r going =
      let come : ComesBack ts (defined_by ts reader) (now_at t sofar) sofar.scope (stacks_of reader) [] k at r =
      subst (λ fs. ComesBack ts (defined_by ts reader) (now_at t sofar) sofar.scope (stacks_of reader) fs k at r) none_waits going in
      (come.spared, record { live = come.live; shows = come.known; given = come.is ∙ come.waiting (tree t k) (at_state come.live (now_at t sofar)) })

-- ---- from its first form on

-- what holds of a reading that began with the form of token `i` and goes on so
pub record RunsFrom (ts : List Token) (t u : Formulas) (a b : SofarSeen) (x y : TermReader) (i : ℕ) (next : Next) : Type 0 where
  pub going : SomeGoing ts u b y next
  pub steps : (r : Result (Term × Sofar) Refused) → Going ts t a x (NextForm i) r → Going ts u b y next r
  pub keeps : Keeps t u a b x y
  pub text : SparesText ts b.fresh
  pub defined : IfSome y.defines (λ j. j < length ts)

module _ (ts : List Token) (t : Formulas) (a : SofarSeen) (x : TermReader) (i : ℕ) where
  pub runs_first : SomeGoing ts t a x (NextForm i) → SparesText ts a.fresh → IfSome x.defines (λ j. j < length ts) → RunsFrom ts t t a a x x i (NextForm i)
  runs_first some text defined = record {
    going = some;
    steps = λ r going. going;
    keeps = keeps_self t a x x refl;
    text = text;
    defined = defined;
  }

  module _ (u : Formulas) (b : SofarSeen) (y : TermReader) (next : Next) (runs : RunsFrom ts t u a b x y i next) where
    pub runs_on : (v : Formulas) (c : SofarSeen) (z : TermReader) (after : Next) → Keeps u v b c y z → ((r : Result (Term × Sofar) Refused) → Going ts u b y next r → Going ts v c z after r)
        → RunsFrom ts t v a c x z i after
    runs_on v c z after keeps steps = record {
      going = record { reading = runs.going.reading; going = steps runs.going.reading runs.going.going };
      steps = λ r going. steps r (runs.steps r going);
      keeps = keeps_on t u v a b c x y z runs.keeps keeps;
      text = text_later ts u v b c y z keeps runs.text;
      defined = subst (λ d. IfSome d (λ j. j < length ts)) (sym keeps.defines) runs.defined;
    }
