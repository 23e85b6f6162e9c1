-- Steps of an application: its head is read, then its operands, and then it is made.
use Rattle.std.proofs.Common.{◌≡◌, ℕ, suc, ◌+◌, ◌<◌, ◌≤◌, List, [], ◌∷◌, ◌++◌, reverse, length, take, drop, arith, true, Vec, Result, Ok, Err, refl, ap, sym, ◌∙◌, subst, append_assoc}
use Rattle.std.specs.Global.{Global}
use Rattle.std.proofs.lemmas.List.{map_push, reverse-reverse, length-append, length-reverse, take-append-le, drop-append-le, take_all, drop_all}
use Rattle.std.proofs.lemmas.List.Elements.{All-nil, All-push}
use Rattle.smt_lex.specs.Lex.{Token}
use Rattle.smt_lex.specs.Forest.{token_at, after_at}
use Rattle.smt_lex.specs.Forms.{none}
use Rattle.smt_terms.specs.declared.ids.NodeId.{NodeId}
use Rattle.smt_terms.specs.Term.{Term}
use Rattle.term_table.specs.Formulas.{Formulas, tree, trees_at}
use Rattle.term_walk.specs.Walking.{GrowsTo}
use Rattle.script_terms.specs.declared.causes.Cause.TheVariants.{BadForm}
use Rattle.script_terms.specs.declared.faults.Fault.{Fault}
use Rattle.script_terms.specs.declared.faults.ReadFault.{ReadFault}
use Rattle.script_terms.specs.declared.faults.ReadFault.TheVariants.{Refused as RefusedFor}
use Rattle.script_terms.specs.declared.sofar.Sofar.{Sofar as SofarSeen}
use Rattle.script_terms.specs.declared.terms.callees.Callee.{Callee}
use Rattle.script_terms.specs.declared.terms.frames.Call.{Call}
use Rattle.script_terms.specs.declared.terms.frames.Frame.{Frame}
use Rattle.script_terms.specs.declared.terms.frames.Frame.TheVariants.{Operands, Binding, Body, Quantified, Annotated}
use Rattle.script_terms.specs.declared.terms.frames.Next.TheVariants.{Form as NextForm, Term as NextTerm}
use Rattle.script_terms.specs.declared.terms.term_reader.TermReader.{TermReader}
use Rattle.script_terms.specs.Refusals.{Refused}
use Rattle.script_terms.specs.Parts.{head}
use Rattle.script_terms.specs.Heads.{Callee as CalleeOf, callee_of, applied}
use Rattle.script_terms.specs.Reading.{Sofar, Reading, continued, gives, ◌>>=◌, beside}
use Rattle.script_terms.specs.Read.{read, read_list, read_all}
use Rattle.script_terms.specs.Replies.{refused_seen}
use Rattle.script_terms.specs.Known.{IsSpared, AreSpared, ReadsTerm}
use Rattle.script_terms.specs.PlaceClauses.{BeginsForm}
use Rattle.script_terms.specs.Places.{form_from, forms_from}
use Rattle.script_terms.specs.Sizes.{form_size, forms_size}
use Rattle.script_terms.specs.Waiting.{Gains, GoesOn, ComesBack, Opens, ShowsCallee, ReadsCallee, Stacks, below, awaits_operand, WaitsForOperand, Later, now_at, defined_by, stacks_of, frames_left, Going, Stepped}
use Rattle.script_terms.proofs.Gaining.{stands_still}
use Rattle.script_terms.proofs.Stepping.{at_state, bound_twice, bound_alike, gains_self, goes_inside, goes_further, ends_with, refused_here, refused_behind, refuses_as}
use Rattle.script_terms.proofs.Stepped.{state_of, reading_of, opened_is, refused_steps, table_gains, still_shows, reverse_push}

module _ (ts : List Token) (t : Formulas) (sofar : SofarSeen) (reader : TermReader) (list : ℕ) (r : Result (Term × Sofar) Refused) (going : Going ts t sofar reader (NextForm list) r)
    (first : ℕ) (opens : Opens ts list first (head (form_from ts first))) where
  abbrev place : ℕ
  place = (token_at ts list).start

  abbrev reading : Result (Term × Sofar) Refused
  reading = reading_of ts t sofar reader list r going

  abbrev state : Sofar
  state = state_of ts t sofar reader list r going

  -- there is no operand
  pub lacks_operand : (e : Fault) → refused_seen e ≡ record { cause = BadForm; place = place } → forms_from ts (after_at ts first) ≡ none → Stepped ts t sofar reader r (Err (RefusedFor e))
  lacks_operand e same empty = refused_steps ts t sofar reader list r going t reader e _ same
      (opened_is ts t sofar reader list r going first (head (form_from ts first)) opens ∙ ap (λ fs. read_list (head (form_from ts first)) fs place going.context state) empty)

  module _ (operand : ℕ) (begins : BeginsForm ts operand) (is : operand ≡ after_at ts first) where
    abbrev after_head : CalleeOf → Reading Term
    after_head c = read (form_from ts operand) going.context >>= λ u. read_all (forms_from ts (after_at ts operand)) going.context >>= λ us. applied c place (u ∷ us)

    head_is : reading ≡ continued after_head (beside state (callee_of going.context.locals (form_from ts first) going.live))
    head_is =
        opened_is ts t sofar reader list r going first (head (form_from ts first)) opens
        ∙ ap (λ fs. read_list (head (form_from ts first)) fs place going.context state) (ap (forms_from ts) (sym is) ∙ begins.forms)

    pub head_refused : (u : Formulas) (e : ReadFault) → ReadsCallee ts (now_at u sofar) (callee_of going.context.locals (form_from ts first) going.live) (Err e) → Stepped ts u sofar reader r (Err e)
    head_refused u e answer = refuses_as r (callee_of going.context.locals (form_from ts first) going.live) e
        (λ x refused. refused_here ts (defined_by ts reader) (now_at t sofar) sofar.scope (stacks_of reader) (reverse reader.frames.items) list r going x
        (head_is ∙ ap (λ c. continued after_head (beside state c)) refused)) answer

    -- the first operand begins
    pub operand_begins : (u : Formulas) → GrowsTo t u → (callee : Callee) → ReadsCallee ts (now_at u sofar) (callee_of going.context.locals (form_from ts first) going.live) (Ok callee)
        → (callees : Vec Callee Global) → callees.items ≡ reader.callees.items ++ callee ∷ [] → (many : ℕ) → many ≡ length reader.operands.items
        → (frames : Vec Frame Global) → frames.items ≡ reader.frames.items ++ Operands (record { list = list; first = many }) ∷ []
        → Stepped ts u sofar (record { alloc = reader.alloc; defines = reader.defines; locals = reader.locals; frames = frames; operands = reader.operands; callees = callees }) r (Ok (NextForm operand))
    operand_begins u grows callee answer callees one_more many all frames pushed =
        let gains = table_gains t u sofar grows in
        let still = stands_still ts (defined_by ts reader) (now_at t sofar) (now_at u sofar) gains reader.locals going.context going.stands in
        let inner : Later = λ x. read_all (forms_from ts (after_at ts operand)) going.context >>= λ us. applied answer.0 place (x ∷ us) in
        let last : reverse callees.items ≡ callee ∷ reverse reader.callees.items = ap reverse one_more ∙ reverse_push reader.callees.items callee in
        let no_operands : drop many reader.operands.items ≡ [] = drop_all many reader.operands.items (omega (arith, all)) in
        let more : Stacks = record { locals = reader.locals; callees = reverse callees.items; operands = reader.operands.items } in
        let left : below (Operands (record { list = list; first = many })) more ≡ stacks_of reader =
        λ i. record { locals = reader.locals; callees = ap (drop 1) last i; operands = take_all many reader.operands.items (omega (arith, all)) i } in
        subst (λ fs. GoesOn ts (defined_by ts reader) (now_at u sofar) sofar.scope more fs operand r) (sym (ap reverse pushed ∙ reverse_push reader.frames.items _))
        (goes_inside ts (defined_by ts reader) (now_at t sofar) sofar.scope (stacks_of reader) (reverse reader.frames.items) list r going
        (now_at u sofar) gains sofar.scope going.live (still_shows t u sofar going.live grows going.known)
        (Operands (record { list = list; first = many })) operand more going.context inner begins.form still refl left
        (head_is ∙ ap (λ c. continued after_head (beside state c)) answer.2)
        (record {
          context = going.context;
          stands = still;
          callee = callee;
          callees = reverse reader.callees.items;
          innermost = last;
          within = omega (arith, all);
          called = answer.0;
          shows = answer.1;
          spared = subst (AreSpared u sofar.fresh) (sym no_operands) (All-nil (IsSpared u sofar.fresh));
          place = begins.behind;
          next = λ x s. ap (λ ks. ((read_all (forms_from ts (after_at ts operand)) going.context >>= λ us. applied answer.0 place (trees_at u ks ++ x ∷ us)) >>= going.later) s) (sym no_operands);
        }) refl)

-- ---- an operand comes back

first_call : (fs : List Frame) → awaits_operand fs ≡ true → (later : List Frame) × (call : Call) × (fs ≡ Operands call ∷ later)
first_call [] awaits = absurd cc
first_call (Operands call ∷ fs) awaits = (fs, call, refl)
first_call (Binding lets ∷ fs) awaits = absurd cc
first_call (Body body ∷ fs) awaits = absurd cc
first_call (Quantified scoped ∷ fs) awaits = absurd cc
first_call (Annotated annotation ∷ fs) awaits = absurd cc

pub last_call : (fs : List Frame) → awaits_operand (reverse fs) ≡ true → (earlier : List Frame) × (call : Call) × (fs ≡ earlier ++ Operands call ∷ [])
last_call fs awaits =
    let first = first_call (reverse fs) awaits in (
      reverse first.0,
      first.1,
      sym (reverse-reverse fs) ∙ ap reverse (first.2 ∙ ap (λ gs. Operands first.1 ∷ gs) (sym (reverse-reverse first.0))) ∙ ap reverse (sym (reverse_push (reverse first.0) (Operands first.1))) ∙ reverse-reverse (reverse first.0 ++ Operands first.1 ∷ []),
    )

module _ (ts : List Token) (t : Formulas) (sofar : SofarSeen) (reader : TermReader) (k : NodeId) (at : ℕ) (r : Result (Term × Sofar) Refused) (going : Going ts t sofar reader (NextTerm k at) r)
    (earlier : List Frame) (call : Call) (waiting : reader.frames.items ≡ earlier ++ Operands call ∷ []) where
  -- the frames around the application
  abbrev around : List Frame
  around = reverse earlier

  abbrev turned : reverse reader.frames.items ≡ Operands call ∷ around
  turned = ap reverse waiting ∙ reverse_push earlier (Operands call)

  abbrev pub come : ComesBack ts (defined_by ts reader) (now_at t sofar) sofar.scope (stacks_of reader) (Operands call ∷ around) k at r
  come = subst (λ fs. ComesBack ts (defined_by ts reader) (now_at t sofar) sofar.scope (stacks_of reader) fs k at r) turned going

  abbrev pub waits : WaitsForOperand ts (defined_by ts reader) (now_at t sofar) call.list call.first at (stacks_of reader) come.later come.waiting.0
  waits = come.waiting.2

  abbrev pub start : ℕ
  start = (token_at ts call.list).start

  abbrev then_state : Sofar
  then_state = at_state come.live (now_at t sofar)

  pub has_callee : 0 < length reader.callees.items
  has_callee = let size : length reader.callees.items ≡ suc (length waits.callees) = sym (length-reverse reader.callees.items) ∙ ap length waits.innermost in omega (arith, size)

  -- its operands before
  abbrev before : List NodeId
  before = drop call.first reader.operands.items

  abbrev made_of : List Term → Reading Term
  made_of us = applied waits.called start (trees_at t before ++ tree t k ∷ us)

  abbrev rest : Reading Term
  rest = read_all (forms_from ts at) waits.context >>= made_of

  leads : come.later (tree t k) then_state ≡ (rest >>= come.waiting.0) then_state
  leads = waits.next (tree t k) then_state

  module _ (operands : Vec NodeId Global) (one_more : operands.items ≡ reader.operands.items ++ k ∷ []) where
    abbrev kids : List NodeId
    kids = drop call.first operands.items

    pub first_within : call.first ≤ length operands.items
    first_within = let size = ap length one_more ∙ length-append reader.operands.items (k ∷ []) in let within = waits.within in omega (arith, within, size)

    kids_are : kids ≡ before ++ k ∷ []
    kids_are = ap (drop call.first) one_more ∙ drop-append-le call.first reader.operands.items (k ∷ []) waits.within

    earlier_operands : take call.first operands.items ≡ take call.first reader.operands.items
    earlier_operands = ap (take call.first) one_more ∙ take-append-le call.first reader.operands.items (k ∷ []) waits.within

    trees_are : trees_at t kids ≡ trees_at t before ++ tree t k ∷ []
    trees_are = ap (trees_at t) kids_are ∙ map_push (tree t) before k

    pub kids_spared : AreSpared t sofar.fresh kids
    kids_spared = subst (AreSpared t sofar.fresh) (sym kids_are) (All-push (IsSpared t sofar.fresh) before k waits.spared come.spared)

    -- the next operand begins
    module _ (begins : BeginsForm ts at) where
      abbrev inner : Later
      inner x = read_all (forms_from ts (after_at ts at)) waits.context >>= λ us. applied waits.called start (trees_at t kids ++ x ∷ us)

      same_operands : (x : Term) (us : List Term) → trees_at t before ++ tree t k ∷ (x ∷ us) ≡ trees_at t kids ++ x ∷ us
      same_operands x us =
          sym (append_assoc (trees_at t before) (tree t k ∷ []) (x ∷ us))
          ∙ ap (λ vs. vs ++ x ∷ us) (sym trees_are)

      rest_is : rest then_state ≡ (read (form_from ts at) waits.context >>= inner) then_state
      rest_is =
          ap (λ fs. (read_all fs waits.context >>= made_of) then_state) begins.forms
          ∙ bound_twice (λ x. read_all (forms_from ts (after_at ts at)) waits.context >>= λ us. gives (x ∷ us)) made_of (read (form_from ts at) waits.context) then_state
          ∙ bound_alike (λ x. (read_all (forms_from ts (after_at ts at)) waits.context >>= λ us. gives (x ∷ us)) >>= made_of) inner
          (λ x s. bound_twice (λ us. gives (x ∷ us)) made_of (read_all (forms_from ts (after_at ts at)) waits.context) s
          ∙ bound_alike (λ us. made_of (x ∷ us)) (λ us. applied waits.called start (trees_at t kids ++ x ∷ us)) (λ us s. ap (λ vs. applied waits.called start vs s) (same_operands x us)) (read_all (forms_from ts (after_at ts at)) waits.context) s)
          (read (form_from ts at) waits.context) then_state

      abbrev more : Stacks
      more = record { locals = reader.locals; callees = reverse reader.callees.items; operands = operands.items }

      left : below (Operands call) more ≡ below (Operands call) (stacks_of reader)
      left = λ i. record { locals = reader.locals; callees = drop 1 (reverse reader.callees.items); operands = earlier_operands i }

      pub next_operand : Stepped ts t sofar (record { alloc = reader.alloc; defines = reader.defines; locals = reader.locals; frames = reader.frames; operands = operands; callees = reader.callees }) r (Ok (NextForm at))
      next_operand =
          subst (λ fs. GoesOn ts (defined_by ts reader) (now_at t sofar) sofar.scope more fs at r) (sym turned)
          (goes_further ts (defined_by ts reader) (now_at t sofar) sofar.scope (stacks_of reader) (Operands call) around k at r come rest leads
          (now_at t sofar) (gains_self (now_at t sofar)) sofar.scope come.live come.known refl
          (Operands call) at more waits.context inner begins.form waits.stands refl left rest_is
          (record {
            context = waits.context;
            stands = waits.stands;
            callee = waits.callee;
            callees = waits.callees;
            innermost = waits.innermost;
            within = first_within;
            called = waits.called;
            shows = waits.shows;
            spared = kids_spared;
            place = begins.behind;
            next = λ x s. refl;
          }))

    -- the application is made
    module _ (empty : forms_from ts at ≡ none) (callees : Vec Callee Global) (callee : Callee) (popped : reader.callees.items ≡ callees.items ++ callee ∷ []) (passed : List NodeId) (are_kids : passed ≡ kids) where
      both : waits.callee ∷ waits.callees ≡ callee ∷ reverse callees.items
      both = sym waits.innermost ∙ ap reverse popped ∙ reverse_push callees.items callee

      callee_is : waits.callee ≡ callee
      callee_is = let e = both in cc

      pub passed_shows : ShowsCallee ts (now_at t sofar) callee waits.called
      passed_shows = subst (λ c. ShowsCallee ts (now_at t sofar) c waits.called) callee_is waits.shows

      pub passed_spared : AreSpared t sofar.fresh passed
      passed_spared = subst (AreSpared t sofar.fresh) (sym are_kids) kids_spared

      abbrev pub made : Result (Term × Sofar) Refused
      made = applied waits.called start (trees_at t passed) then_state

      made_is : rest then_state ≡ made
      made_is =
          ap (λ fs. (read_all fs waits.context >>= made_of) then_state) empty
          ∙ ap (λ vs. applied waits.called start vs then_state) (sym trees_are ∙ ap (trees_at t) (sym are_kids))

      pub application_refused : (u : Formulas) (now : SofarSeen) (after : TermReader) (e : ReadFault) → ReadsTerm u now.scope now.fresh made (Err e) → Stepped ts u now after r (Err e)
      application_refused u now after e answer = refuses_as r made e
          (λ x refused. refused_behind ts (defined_by ts reader) (now_at t sofar) sofar.scope (stacks_of reader) (Operands call) around k at r come rest leads x (made_is ∙ refused)) answer

      pub application_made : (u : Formulas) (now : SofarSeen) → Gains (now_at t sofar) (now_at u now) → (j : NodeId) → ReadsTerm u now.scope now.fresh made (Ok j) → (n : ℕ) → n ≡ after_at ts call.list
          → (frames : Vec Frame Global) → frames.items ≡ earlier → (left : Vec NodeId Global) → left.items ≡ take call.first operands.items
          → Stepped ts u now (record { alloc = reader.alloc; defines = reader.defines; locals = reader.locals; frames = frames; operands = left; callees = callees }) r (Ok (NextTerm j n))
      application_made u now gains j answer n behind frames taken left truncated =
          let stacks : Stacks = record { locals = reader.locals; callees = reverse callees.items; operands = left.items } in
          let stacks_are : below (Operands call) (stacks_of reader) ≡ stacks =
          λ i. record { locals = reader.locals; callees = ap (drop 1) (ap reverse popped ∙ reverse_push callees.items callee) i; operands = (sym earlier_operands ∙ sym truncated) i } in
          subst (λ fs. ComesBack ts (defined_by ts reader) (now_at u now) now.scope stacks (reverse fs) j n r) (sym taken)
          (subst (λ m. ComesBack ts (defined_by ts reader) (now_at u now) now.scope stacks around j m r) (sym behind)
          (subst (λ left_over. ComesBack ts (defined_by ts reader) (now_at u now) now.scope left_over around j (after_at ts call.list) r) stacks_are
          (ends_with ts (defined_by ts reader) (now_at t sofar) sofar.scope (stacks_of reader) (Operands call) around k at r come rest leads
          (now_at u now) gains now.scope answer.1.live answer.1.shows refl j answer.0 (made_is ∙ answer.1.given))))

-- ---- how much is left

module _ (ts : List Token) (frames earlier : List Frame) (call : Call) (at : ℕ) (waiting : frames ≡ earlier ++ Operands call ∷ []) where
  waiting_left : (n : ℕ) → frames_left ts (reverse frames) n ≡ 1 + forms_size (forms_from ts n) + frames_left ts (reverse earlier) (after_at ts call.list)
  waiting_left n = ap (λ fs. frames_left ts fs n) (ap reverse waiting ∙ reverse_push earlier (Operands call))

  pub operand_less : BeginsForm ts at → form_size (form_from ts at) + frames_left ts (reverse frames) (after_at ts at) < 1 + frames_left ts (reverse frames) at
  operand_less begins =
      let size : forms_size (forms_from ts at) ≡ form_size (form_from ts at) + forms_size (forms_from ts (after_at ts at)) = ap forms_size begins.forms in
      omega (arith, size, waiting_left at, waiting_left (after_at ts at))

  pub application_less : (n : ℕ) → n ≡ after_at ts call.list → 1 + frames_left ts (reverse earlier) n < 1 + frames_left ts (reverse frames) at
  application_less n behind =
      let same : frames_left ts (reverse earlier) n ≡ frames_left ts (reverse earlier) (after_at ts call.list) = ap (frames_left ts (reverse earlier)) behind in
      omega (arith, same, waiting_left at)
