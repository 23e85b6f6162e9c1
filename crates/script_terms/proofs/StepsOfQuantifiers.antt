-- Steps of a quantifier: its variables are read, constants are drawn for them, then its body is read.
use Rattle.std.proofs.Common.{◌≡◌, ℕ, Bool, true, false, not, ◌||◌, List, [], ◌∷◌, ◌++◌, map, reverse, length, drop, All, Vec, Result, Ok, Err, refl, ap, sym, ◌∙◌, subst, arith}
use Rattle.std.specs.Global.{Global}
use Rattle.std.proofs.Math.Path.{fun_ext}
use Rattle.std.proofs.lemmas.List.Elements.{All-weaker}
use Rattle.smt_lex.specs.Lex.{Token}
use Rattle.smt_lex.specs.Names.{Name}
use Rattle.smt_lex.specs.Forest.{token_at, after_at}
use Rattle.smt_lex.specs.Forms.{Form, atom, node, Forms, none, ◌⨾◌}
use Rattle.smt_terms.specs.declared.ids.NodeId.{NodeId}
use Rattle.smt_terms.specs.Fresh.{Supply}
use Rattle.smt_terms.specs.Rank.{are_bindable}
use Rattle.smt_terms.specs.Sorts.{bool, Variable}
use Rattle.smt_terms.specs.Term.{Quantifier, Term, quantified, constant_of}
use Rattle.smt_values.specs.SortIds.{IsSortList}
use Rattle.term_table.specs.Formulas.{Formulas, tree}
use Rattle.term_subst.specs.Substituting.{IsLater}
use Rattle.term_walk.specs.Walking.{GrowsTo}
use Rattle.script_terms.specs.declared.binders.SortedName.{SortedName}
use Rattle.script_terms.specs.declared.causes.Cause.TheVariants.{BadForm, WrongSort}
use Rattle.script_terms.specs.declared.faults.Fault.{Fault}
use Rattle.script_terms.specs.declared.faults.ReadFault.{ReadFault}
use Rattle.script_terms.specs.declared.faults.ReadFault.TheVariants.{Refused as RefusedFor}
use Rattle.script_terms.specs.declared.locals.Constant.{Constant}
use Rattle.script_terms.specs.declared.sofar.Sofar.{Sofar as SofarSeen}
use Rattle.script_terms.specs.declared.terms.frames.Quantifier.{Quantifier as QuantifierWord}
use Rattle.script_terms.specs.declared.terms.frames.Scoped.{Scoped}
use Rattle.script_terms.specs.declared.terms.frames.Frame.{Frame}
use Rattle.script_terms.specs.declared.terms.frames.Frame.TheVariants.{Quantified}
use Rattle.script_terms.specs.declared.terms.frames.Next.TheVariants.{Form as NextForm, Term as NextTerm}
use Rattle.script_terms.specs.declared.terms.term_reader.TermReader.{TermReader}
use Rattle.script_terms.specs.Refusals.{Refused, at, unless}
use Rattle.script_terms.specs.Parts.{quantifier_word}
use Rattle.script_terms.specs.Quantifiers.{quantifier_of}
use Rattle.script_terms.specs.Variables.{quantifier_binder, variables_in}
use Rattle.script_terms.specs.Reading.{Sofar, Reading, continued, by_rule, beside, live_sorts, is_declared, ◌>>=◌}
use Rattle.script_terms.specs.Read.{Context, is_empty, has_sort, is_taken, draws_names, below_quantifier, renamed, constant_names, quantified_over, read, read_list}
use Rattle.script_terms.specs.Replies.{Refuses}
use Rattle.script_terms.specs.Known.{sorts_known, IsConstant, IsOwnName}
use Rattle.script_terms.specs.Bound.{LocalNames, ShowsLocals, name_at, quantified_among, is_taken_in, variables_seen, symbols_seen, variables_of, entered}
use Rattle.script_terms.specs.BinderClauses.{IsSortedName, AreSortedNames}
use Rattle.script_terms.specs.Openings.{binds, BindsAt}
use Rattle.script_terms.specs.Places.{SparesText, form_from, forms_from}
use Rattle.script_terms.specs.TermClauses.{ReadsAlone}
use Rattle.script_terms.specs.Waiting.{Gains, Stands, GoesOn, ComesBack, Opens, Later, now_at, defined_by, stacks_of, Going, GoingBack, Stepped}
use Rattle.term_walk.proofs.Visits.{table-grows}
use Rattle.script_terms.proofs.Showing.{sorts_found, declared_found, shows_stays}
use Rattle.script_terms.proofs.ShowingLocals.{quantified_found, locals_stay}
use Rattle.script_terms.proofs.BoundVariables.{known_fine, drawn_bindable, drawn_count, drawn_variables, entered_shows, entered_leaves, entered_length}
use Rattle.script_terms.proofs.Stepping.{at_state, goes_inside, ends_with, refused_here, refused_behind, refuses_as}
use Rattle.script_terms.proofs.Stepped.{stacks_with, reading_of, opened_is, refused_steps, table_gains, still_shows, reverse_push}

-- ---- a quantifier opens

-- what comes behind the variables
abbrev pub behind_variables : ℕ → Quantifier → Form → Context → List Variable → Reading Term
behind_variables place q body c xs = draws_names c xs >>= λ ns. read body (below_quantifier xs ns c) >>= λ t. quantified_over place q (renamed xs ns) t

quantifier_bound : (q : Quantifier) (fs : Forms) (place : ℕ) (c : Context) (s : Sofar) (part : ℕ) (bs : Forms) (body : Form) → fs ≡ node part bs ⨾ body ⨾ none → binds fs ≡ true
    → read_list (quantifier_word q) fs place c s ≡ continued (behind_variables place q body c) (beside s (variables_in quantifier_binder (live_sorts s.live) [] bs))
quantifier_bound q fs place c s part bs body is some = ap (λ gs. read_list (quantifier_word q) gs place c s) is ∙ by bs (ap binds (sym is) ∙ some)
  where
    by : (bs : Forms) → binds (node part bs ⨾ body ⨾ none) ≡ true → read_list (quantifier_word q) (node part bs ⨾ body ⨾ none) place c s ≡ continued (behind_variables place q body c) (beside s (variables_in quantifier_binder (live_sorts s.live) [] bs))
    by none some = absurd (cc)
    by (b ⨾ bs) some = refl

quantifier_unbound : (q : Quantifier) (fs : Forms) (place : ℕ) (c : Context) (s : Sofar) → binds fs ≡ false → read_list (quantifier_word q) fs place c s ≡ at BadForm place
quantifier_unbound q none place c s unbound = refl
quantifier_unbound q (atom t ⨾ fs) place c s unbound = refl
quantifier_unbound q (node part bs ⨾ none) place c s unbound = refl
quantifier_unbound q (node part none ⨾ body ⨾ none) place c s unbound = refl
quantifier_unbound q (node part (b ⨾ bs) ⨾ body ⨾ none) place c s unbound = absurd (cc)
quantifier_unbound q (node part bs ⨾ body ⨾ f ⨾ fs) place c s unbound = refl

not_empty : (place : ℕ) (bs : Forms) (body : Form) → binds (node place bs ⨾ body ⨾ none) ≡ true → is_empty bs ≡ false
not_empty place none body some = absurd (cc)
not_empty place (b ⨾ bs) body some = refl

module _ (ts : List Token) (t : Formulas) (sofar : SofarSeen) (reader : TermReader) (list : ℕ) (r : Result (Term × Sofar) Refused) (going : Going ts t sofar reader (NextForm list) r)
    (q : QuantifierWord) (first : ℕ) (opens : Opens ts list first (quantifier_word (quantifier_of q))) where
  abbrev place : ℕ
  place = (token_at ts list).start

  pub quantifier_refused : (u : Formulas) (now : TermReader) (e : Fault) → BindsAt ts list (forms_from ts (after_at ts first)) (Err e) → Stepped ts u sofar now r (Err (RefusedFor e))
  quantifier_refused u now e unbound = refused_steps ts t sofar reader list r going u now e _ unbound.1
      (opened_is ts t sofar reader list r going first (quantifier_word (quantifier_of q)) opens ∙ quantifier_unbound (quantifier_of q) (forms_from ts (after_at ts first)) _ going.context _ unbound.0)

  module _ (part body : ℕ) (bound : BindsAt ts list (forms_from ts (after_at ts first)) (Ok (part, body))) where
    abbrev state : Sofar
    state = at_state going.live (now_at t sofar)

    abbrev read_variables : Result (List Variable) Refused
    read_variables = variables_in quantifier_binder (sorts_known t sofar.scope) [] (forms_from ts part)

    variables_is : reading_of ts t sofar reader list r going ≡ continued (behind_variables place (quantifier_of q) (form_from ts body) going.context) (beside state read_variables)
    variables_is =
        opened_is ts t sofar reader list r going first (quantifier_word (quantifier_of q)) opens
        ∙ quantifier_bound (quantifier_of q) (forms_from ts (after_at ts first)) place going.context state bound.0 (forms_from ts part) (form_from ts body) bound.1 bound.4
        ∙ ap (λ live. continued (behind_variables place (quantifier_of q) (form_from ts body) going.context) (beside state (variables_in quantifier_binder live [] (forms_from ts part))))
        (sym (sorts_found t sofar.scope going.live going.known.sorts))

    pub variables_refused : (u : Formulas) (now : TermReader) (e : ReadFault) → Refuses read_variables e → Stepped ts u sofar now r (Err e)
    variables_refused u now e refuses = refuses_as r read_variables e
        (λ x refused. refused_here ts (defined_by ts reader) (now_at t sofar) sofar.scope (stacks_of reader) (reverse reader.frames.items) list r going x
        (variables_is ∙ ap (λ v. continued (behind_variables place (quantifier_of q) (form_from ts body) going.context) (beside state v)) refused)) refuses

    same_taken : is_taken_in sofar.scope reader.locals ≡ is_taken going.context.locals going.live
    same_taken = fun_ext (λ n.
        ap (λ b. b || quantified_among reader.locals n) (declared_found t sofar.scope going.live going.known.terms n)
        ∙ ap (λ b. is_declared going.live n || b) (sym (quantified_found t sofar.fresh reader.locals going.context.locals going.stands.shown n)))

    -- constants were drawn for the variables, and the body begins
    module _ (u v : Formulas) (grows : GrowsTo t u) (grows_more : GrowsTo u v) (left : Supply) (later : IsLater sofar.fresh left) (vs : List SortedName) (cs : List Constant)
        (read_is : read_variables ≡ Ok (variables_seen u ts vs))
        (left_is : left ≡ (constant_names (is_taken_in sofar.scope reader.locals) (variables_seen u ts vs) sofar.fresh).1)
        (symbols_are : symbols_seen v cs ≡ map constant_of (renamed (variables_seen u ts vs) (constant_names (is_taken_in sofar.scope reader.locals) (variables_seen u ts vs) sofar.fresh).0))
        (constants : All (IsConstant v left) cs) where
      abbrev xs : List Variable
      xs = variables_seen u ts vs

      abbrev names : List Name
      names = (constant_names (is_taken_in sofar.scope reader.locals) xs sofar.fresh).0

      abbrev below : Context
      below = below_quantifier xs names going.context

      abbrev inner : Later
      inner y = quantified_over place (quantifier_of q) (renamed xs names) y

      abbrev begins_with : (Name → Bool) → Result (Term × Sofar) Refused
      begins_with taken =
          (read (form_from ts body) (below_quantifier xs (constant_names taken xs sofar.fresh).0 going.context) >>= λ y. quantified_over place (quantifier_of q) (renamed xs (constant_names taken xs sofar.fresh).0) y)
          (record { live = going.live; supply = (constant_names taken xs sofar.fresh).1 })

      body_is : reading_of ts t sofar reader list r going ≡ (read (form_from ts body) below >>= inner) (record { live = going.live; supply = left })
      body_is =
          variables_is
          ∙ ap (λ w. continued (behind_variables place (quantifier_of q) (form_from ts body) going.context) (beside state w)) read_is
          ∙ ap begins_with (sym same_taken)
          ∙ ap (λ w. (read (form_from ts body) below >>= inner) (record { live = going.live; supply = w })) (sym left_is)

      all_grows : GrowsTo t v
      all_grows = table-grows t u v grows grows_more

      as_many : length vs ≡ length cs
      as_many = drawn_count u v ts sofar.fresh (is_taken_in sofar.scope reader.locals) vs cs symbols_are

      variables_are : variables_of v cs ≡ renamed xs names
      variables_are = drawn_variables v cs (renamed xs names) symbols_are

      pub quantified_begins : IsSortList t.sorts → SparesText ts sofar.fresh → AreSortedNames u ts vs
          → (items : Vec Constant Global) → items.items ≡ cs → (locals : LocalNames) → locals ≡ entered ts vs cs reader.locals
          → (frames : Vec Frame Global) → frames.items ≡ reader.frames.items ++ Quantified (record { list = list; quantifier = q; constants = items }) ∷ []
          → Stepped ts v (record { scope = sofar.scope; fresh = left }) (record { alloc = reader.alloc; defines = reader.defines; locals = locals; frames = frames; operands = reader.operands; callees = reader.callees }) r (Ok (NextForm body))
      quantified_begins sorts text sorted items same locals bound_is frames pushed =
          let gains : Gains (now_at t sofar) (now_at v (record { scope = sofar.scope; fresh = left })) = record { table = all_grows; supply = later; definitions = refl } in
          let inside : Stands ts (defined_by ts reader) (now_at v (record { scope = sofar.scope; fresh = left })) locals below = record {
            shown = subst (λ ps. ShowsLocals v left ps below.locals) (sym bound_is)
                (entered_shows u v ts left vs names cs reader.locals going.context.locals symbols_are constants (All-weaker (IsSortedName u ts) (λ w. IsOwnName (name_at ts w.name)) (λ w is. is.own) vs sorted) (locals_stay t v sofar.fresh left all_grows later reader.locals going.context.locals going.stands.shown));
            named = going.stands.named;
          } in
          let many : length items.items ≡ length cs = ap length same in
          subst (λ fs. GoesOn ts (defined_by ts reader) (now_at v (record { scope = sofar.scope; fresh = left })) sofar.scope (stacks_with reader locals) fs body r) (sym (ap reverse pushed ∙ reverse_push reader.frames.items _))
          (goes_inside ts (defined_by ts reader) (now_at t sofar) sofar.scope (stacks_of reader) (reverse reader.frames.items) list r going
          (now_at v (record { scope = sofar.scope; fresh = left })) gains sofar.scope going.live (shows_stays t v sofar.fresh left all_grows later sofar.scope going.live going.known)
          (Quantified (record { list = list; quantifier = q; constants = items })) body (stacks_with reader locals) below inner bound.3 inside refl
          (ap (stacks_with reader) (ap (λ n. drop n locals) many ∙ ap (drop (length cs)) bound_is ∙ entered_leaves ts vs cs reader.locals as_many))
          body_is
          (record {
            within = let size = ap length bound_is ∙ entered_length ts vs cs reader.locals as_many in omega (arith, many, size);
            known = subst (All (IsConstant v left)) (sym same) constants;
            bindable = ap (λ ds. are_bindable (variables_of v ds)) same ∙ ap are_bindable variables_are
                ∙ drawn_bindable u ts sofar.fresh (sorts_known t sofar.scope) (forms_from ts part) vs (is_taken_in sofar.scope reader.locals) (known_fine t sofar.scope sorts going.known.numbers.sorts) text sorted
                (not_empty bound.0 (forms_from ts part) (form_from ts body) (ap binds (sym bound.1) ∙ bound.4)) read_is;
            next = λ y s. ap (λ zs. (quantified_over place (quantifier_of q) zs y >>= going.later) s) (sym (ap (variables_of v) same ∙ variables_are));
          }) refl)

-- ---- the body comes back

module _ (ts : List Token) (t : Formulas) (sofar : SofarSeen) (reader : TermReader) (frame : Scoped) (k : NodeId) (at : ℕ) (r : Result (Term × Sofar) Refused) (come : GoingBack ts t sofar reader (Quantified frame) k at r) where
  abbrev pub closed : Result Term Refused
  closed = unless (not (has_sort bool (tree t k))) WrongSort (token_at ts frame.list).start (Ok (quantified (quantifier_of frame.quantifier) (variables_of t frame.constants.items) (tree t k)))

  pub quantifier_not_made : (u : Formulas) (now : TermReader) (e : ReadFault) → ReadsAlone u sofar.fresh closed (Err e) → Stepped ts u sofar now r (Err e)
  quantifier_not_made u now e answer = refuses_as r closed e
      (λ x refused. refused_behind ts (defined_by ts reader) (now_at t sofar) sofar.scope (stacks_of reader) (Quantified frame) (reverse reader.frames.items) k at r come
      (by_rule closed) (come.waiting.2.next (tree t k) (at_state come.live (now_at t sofar))) x (ap (beside (at_state come.live (now_at t sofar))) refused)) answer

  pub quantifier_made : (u : Formulas) → GrowsTo t u → (j : NodeId) → ReadsAlone u sofar.fresh closed (Ok j) → (locals : LocalNames) → locals ≡ drop (length frame.constants.items) reader.locals
      → (n : ℕ) → n ≡ after_at ts frame.list → Stepped ts u sofar (record { alloc = reader.alloc; defines = reader.defines; locals = locals; frames = reader.frames; operands = reader.operands; callees = reader.callees }) r (Ok (NextTerm j n))
  quantifier_made u grows j answer locals left n behind =
      subst (λ m. ComesBack ts (defined_by ts reader) (now_at u sofar) sofar.scope (stacks_with reader locals) (reverse reader.frames.items) j m r) (sym behind)
      (subst (λ ls. ComesBack ts (defined_by ts reader) (now_at u sofar) sofar.scope (stacks_with reader ls) (reverse reader.frames.items) j (after_at ts frame.list) r) (sym left)
      (ends_with ts (defined_by ts reader) (now_at t sofar) sofar.scope (stacks_of reader) (Quantified frame) (reverse reader.frames.items) k at r come
      (by_rule closed) (come.waiting.2.next (tree t k) (at_state come.live (now_at t sofar)))
      (now_at u sofar) (table_gains t u sofar grows) sofar.scope come.live (still_shows t u sofar come.live grows come.known) refl j answer.0 (ap (beside (at_state come.live (now_at t sofar))) answer.1)))
