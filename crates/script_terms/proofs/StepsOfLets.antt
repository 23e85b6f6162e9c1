-- Steps of a `let`: its bindings one after the other, then its body.
use Rattle.std.proofs.Common.{◌≡◌, ℕ, suc, ◌<◌, ◌≤◌, true, false, List, [], ◌∷◌, ◌++◌, map, reverse, length, drop, Vec, Result, Ok, Err, refl, ap, sym, ◌∙◌, subst, arith, append_assoc, append-nil}
use Rattle.std.specs.Global.{Global}
use Rattle.std.proofs.lemmas.List.{map_push, length-map, length-append, drop-append-le, drop_all}
use Rattle.std.proofs.lemmas.List.Elements.{All-nil, All-cons, All-head, All-tail, All-push, All-append}
use Rattle.smt_lex.specs.Lex.{Token}
use Rattle.smt_lex.specs.Names.{Name, is_among}
use Rattle.smt_lex.specs.Forest.{token_at, after_at}
use Rattle.smt_lex.specs.Forms.{Form, atom, node, Forms, none, ◌⨾◌}
use Rattle.smt_terms.specs.declared.ids.NodeId.{NodeId}
use Rattle.smt_terms.specs.Fresh.{Supply}
use Rattle.smt_terms.specs.Term.{Term}
use Rattle.term_table.specs.Formulas.{Formulas, tree}
use Rattle.script_terms.specs.declared.causes.Cause.TheVariants.{BadForm}
use Rattle.script_terms.specs.declared.faults.Fault.{Fault}
use Rattle.script_terms.specs.declared.faults.ReadFault.TheVariants.{Refused as RefusedFor}
use Rattle.script_terms.specs.declared.sofar.Sofar.{Sofar as SofarSeen}
use Rattle.script_terms.specs.declared.terms.frames.Lets.{Lets}
use Rattle.script_terms.specs.declared.terms.frames.LetBody.{LetBody}
use Rattle.script_terms.specs.declared.terms.frames.Frame.{Frame}
use Rattle.script_terms.specs.declared.terms.frames.Frame.TheVariants.{Binding, Body}
use Rattle.script_terms.specs.declared.terms.frames.Next.TheVariants.{Form as NextForm, Term as NextTerm}
use Rattle.script_terms.specs.declared.terms.term_reader.TermReader.{TermReader}
use Rattle.script_terms.specs.Refusals.{Refused, at, mapped}
use Rattle.script_terms.specs.Parts.{let_word, place_of, symbol_in}
use Rattle.script_terms.specs.Reading.{Sofar, Reading, continued, gives, by_rule, beside, lets_as, ◌>>=◌}
use Rattle.script_terms.specs.Read.{Context, with_local, let_name, read, read_list, read_bindings}
use Rattle.script_terms.specs.Replies.{refused_seen}
use Rattle.script_terms.specs.Known.{IsSpared, AreSpared, IsOwnName}
use Rattle.script_terms.specs.Bound.{LocalNames, let_local, local_meant, let_meant, locals_shown, IsLocal, AreLocals, name_at, HaveOwnNames}
use Rattle.script_terms.specs.Openings.{binds, binding_in, BindsAt}
use Rattle.script_terms.specs.PlaceClauses.{BeginsForm}
use Rattle.script_terms.specs.Places.{IsForm, form_from, forms_from}
use Rattle.script_terms.specs.Waiting.{Stands, GoesOn, ComesBack, BindsNext, BindingNext, Opens, WaitsForBinding, Later, now_at, defined_by, stacks_of, Going, GoingBack, Stepped, name_with_term, names_with_terms, reversed_names, AllWait}
use Rattle.script_terms.proofs.Stepping.{at_state, bound_twice, bound_alike, gains_self, ends_with}
use Rattle.script_terms.proofs.Stepped.{stacks_with, opened_is, refused_steps, reverse_push}

-- ---- one binding after the other

module _ (bs : Forms) (earlier : List Name) (context : Context) where
  -- what comes behind the name of a binding
  abbrev pub behind_name : Name × Form → Reading (List (Name × Term))
  behind_name p = read p.1 context >>= λ t. read_bindings bs (p.0 ∷ earlier) context >>= λ us. gives ((p.0, t) ∷ us)

  named_first : (r : Result Name Refused) (f : Form) (s : Sofar) → continued (λ n. behind_name (n, f)) (beside s r) ≡ continued behind_name (beside s (mapped (λ n. (n, f)) r))
  named_first (Ok n) f s = refl
  named_first (Err e) f s = refl

  pub first_binding : (b : Form) (s : Sofar) → read_bindings (b ⨾ bs) earlier context s ≡ (by_rule (binding_in earlier b) >>= behind_name) s
  first_binding (atom t) s = refl
  first_binding (node part none) s = refl
  first_binding (node part (x ⨾ none)) s = refl
  first_binding (node part (x ⨾ f ⨾ none)) s = named_first (let_name earlier part (place_of x) (symbol_in x)) f s
  first_binding (node part (x ⨾ f ⨾ g ⨾ gs)) s = refl

-- ---- a `let` opens

let_bound : (fs : Forms) (place : ℕ) (c : Context) (s : Sofar) (part : ℕ) (bs : Forms) (body : Form) → fs ≡ node part bs ⨾ body ⨾ none → binds fs ≡ true
    → read_list let_word fs place c s ≡ (read_bindings bs [] c >>= λ ts. read body (with_local (lets_as bs ts) c)) s
let_bound fs place c s part bs body is some = ap (λ gs. read_list let_word gs place c s) is ∙ by bs (ap binds (sym is) ∙ some)
  where
    by : (bs : Forms) → binds (node part bs ⨾ body ⨾ none) ≡ true → read_list let_word (node part bs ⨾ body ⨾ none) place c s ≡ (read_bindings bs [] c >>= λ ts. read body (with_local (lets_as bs ts) c)) s
    by none some = absurd (cc)
    by (b ⨾ bs) some = refl

let_unbound : (fs : Forms) (place : ℕ) (c : Context) (s : Sofar) → binds fs ≡ false → read_list let_word fs place c s ≡ at BadForm place
let_unbound none place c s unbound = refl
let_unbound (atom t ⨾ fs) place c s unbound = refl
let_unbound (node part bs ⨾ none) place c s unbound = refl
let_unbound (node part none ⨾ body ⨾ none) place c s unbound = refl
let_unbound (node part (b ⨾ bs) ⨾ body ⨾ none) place c s unbound = absurd (cc)
let_unbound (node part bs ⨾ body ⨾ f ⨾ fs) place c s unbound = refl

-- the parts of a `let` that is kept
binds_with : (ts : List Token) (t : Formulas) (sofar : SofarSeen) (reader : TermReader) (lets : Lets) (list part body : ℕ) (names : List (Name × NodeId)) (r : Result (Term × Sofar) Refused)
    → lets.list ≡ list → lets.part ≡ part → lets.body ≡ body → lets.names.value ≡ names
    → BindsNext ts (defined_by ts reader) (now_at t sofar) sofar.scope (stacks_of reader) (reverse reader.frames.items) list part body names r → BindingNext ts t sofar reader lets r
binds_with ts t sofar reader lets list part body names r same_list same_part same_body same_names next =
    subst (λ l. BindsNext ts (defined_by ts reader) (now_at t sofar) sofar.scope (stacks_of reader) (reverse reader.frames.items) l lets.part lets.body lets.names.value r) (sym same_list)
    (subst (λ p. BindsNext ts (defined_by ts reader) (now_at t sofar) sofar.scope (stacks_of reader) (reverse reader.frames.items) list p lets.body lets.names.value r) (sym same_part)
    (subst (λ b. BindsNext ts (defined_by ts reader) (now_at t sofar) sofar.scope (stacks_of reader) (reverse reader.frames.items) list part b lets.names.value r) (sym same_body)
    (subst (λ ns. BindsNext ts (defined_by ts reader) (now_at t sofar) sofar.scope (stacks_of reader) (reverse reader.frames.items) list part body ns r) (sym same_names) next)))

module _ (ts : List Token) (t : Formulas) (sofar : SofarSeen) (reader : TermReader) (list : ℕ) (r : Result (Term × Sofar) Refused) (going : Going ts t sofar reader (NextForm list) r)
    (first : ℕ) (opens : Opens ts list first let_word) where
  pub let_refused : (e : Fault) → BindsAt ts list (forms_from ts (after_at ts first)) (Err e) → Stepped ts t sofar reader r (Err (RefusedFor e))
  let_refused e unbound = refused_steps ts t sofar reader list r going t reader e _ unbound.1
      (opened_is ts t sofar reader list r going first let_word opens ∙ let_unbound (forms_from ts (after_at ts first)) _ going.context _ unbound.0)

  pub let_begins : (part body : ℕ) → BindsAt ts list (forms_from ts (after_at ts first)) (Ok (part, body)) → (lets : Lets) → lets.list ≡ list → lets.part ≡ part → lets.body ≡ body → lets.names.value ≡ []
      → BindingNext ts t sofar reader lets r
  let_begins part body bound lets same_list same_part same_body no_names =
      let read_is = opened_is ts t sofar reader list r going first let_word opens
      ∙ let_bound (forms_from ts (after_at ts first)) (token_at ts list).start going.context (at_state going.live (now_at t sofar)) bound.0 (forms_from ts part) (form_from ts body) bound.1 bound.4 in
      let start : BindsNext ts (defined_by ts reader) (now_at t sofar) sofar.scope (stacks_of reader) (reverse reader.frames.items) list part body [] r = record {
        context = going.context;
        live = going.live;
        outer = going.later;
        bindings = forms_from ts part;
        known = going.known;
        numbered = going.numbered;
        stands = going.stands;
        terms = All-nil (IsSpared t sofar.fresh);
        own = All-nil (λ p. IsOwnName p.0);
        list_form = going.form;
        body_form = bound.3;
        waiting = going.waiting;
        is = going.is ∙ ap (continued going.later) read_is;
      } in
      binds_with ts t sofar reader lets list part body [] r same_list same_part same_body no_names start

-- ---- a binding opens

module _ (ts : List Token) (t : Formulas) (sofar : SofarSeen) (reader : TermReader) (lets : Lets) (r : Result (Term × Sofar) Refused) (next : BindingNext ts t sofar reader lets r)
    (begins : BeginsForm ts lets.part) where
  abbrev earlier : List Name
  earlier = reversed_names lets.names.value

  abbrev state : Sofar
  state = at_state next.live (now_at t sofar)

  abbrev body_of : List (Name × Term) → Reading Term
  body_of us = read (form_from ts lets.body) (with_local (lets_as next.bindings (names_with_terms t lets.names.value ++ us)) next.context)

  abbrev named : Result (Name × Form) Refused
  named = binding_in earlier (form_from ts lets.part)

  binding_is : (read_bindings (forms_from ts lets.part) earlier next.context >>= body_of) state
      ≡ continued body_of (continued (behind_name (forms_from ts (after_at ts lets.part)) earlier next.context) (beside state named))
  binding_is =
      ap (λ fs. (read_bindings fs earlier next.context >>= body_of) state) begins.forms
      ∙ ap (continued body_of) (first_binding (forms_from ts (after_at ts lets.part)) earlier next.context (form_from ts lets.part) state)

  pub binding_refused : (e : Fault) → named ≡ Err (refused_seen e) → Stepped ts t sofar reader r (Err (RefusedFor e))
  binding_refused e refused =
      next.is ∙ ap (continued next.outer) (binding_is ∙ ap (λ n. continued body_of (continued (behind_name (forms_from ts (after_at ts lets.part)) earlier next.context) (beside state n))) refused)

  module _ (term : ℕ) (form : IsForm ts term) (named_is : named ≡ Ok (name_at ts (suc lets.part), form_from ts term)) (new_name : is_among (map (λ p. p.0) lets.names.value) (name_at ts (suc lets.part)) ≡ false) (own_name : IsOwnName (name_at ts (suc lets.part))) (named_token : suc lets.part < length ts) where
    abbrev name : Name
    name = name_at ts (suc lets.part)

    abbrev others : Reading (List (Name × Term))
    others = read_bindings (forms_from ts (after_at ts lets.part)) (name ∷ earlier) next.context

    abbrev inner : Later
    inner u = others >>= λ us. body_of ((name, u) ∷ us)

    term_is : (read_bindings (forms_from ts lets.part) earlier next.context >>= body_of) state ≡ (read (form_from ts term) next.context >>= inner) state
    term_is =
        binding_is
        ∙ ap (λ n. continued body_of (continued (behind_name (forms_from ts (after_at ts lets.part)) earlier next.context) (beside state n))) named_is
        ∙ bound_twice (λ u. others >>= λ us. gives ((name, u) ∷ us)) body_of (read (form_from ts term) next.context) state
        ∙ bound_alike (λ u. (others >>= λ us. gives ((name, u) ∷ us)) >>= body_of) inner (λ u s. bound_twice (λ us. gives ((name, u) ∷ us)) body_of others s) (read (form_from ts term) next.context) state

    pub binding_begins : (frames : Vec Frame Global) → frames.items ≡ reader.frames.items ++ Binding lets ∷ []
        → Stepped ts t sofar (record { alloc = reader.alloc; defines = reader.defines; locals = reader.locals; frames = frames; operands = reader.operands; callees = reader.callees }) r (Ok (NextForm term))
    binding_begins frames pushed =
        subst (λ fs. GoesOn ts (defined_by ts reader) (now_at t sofar) sofar.scope (stacks_of reader) fs term r) (sym (ap reverse pushed ∙ reverse_push reader.frames.items _))
        (record {
          context = next.context;
          live = next.live;
          later = λ u. inner u >>= next.outer;
          form = form;
          known = next.known;
          numbered = next.numbered;
          stands = next.stands;
          waiting = (
            next.outer,
            next.list_form,
            record {
              context = next.context;
              stands = next.stands;
              bindings = next.bindings;
              terms = next.terms;
              own = next.own;
              new_name = new_name;
              own_name = own_name;
              named_token = named_token;
              part_form = begins.form;
              body_form = next.body_form;
              next = λ u s. refl;
            },
            next.waiting,
          );
          is = next.is ∙ ap (continued next.outer) term_is ∙ bound_twice inner next.outer (read (form_from ts term) next.context) state;
        })

-- ---- the term of a binding comes back

module _ (ts : List Token) (t : Formulas) (sofar : SofarSeen) (reader : TermReader) (lets : Lets) (k : NodeId) (at : ℕ) (r : Result (Term × Sofar) Refused) (come : GoingBack ts t sofar reader (Binding lets) k at r) where
  abbrev waits : WaitsForBinding ts (defined_by ts reader) (now_at t sofar) lets.part lets.body lets.names.value reader.locals come.later come.waiting.0
  waits = come.waiting.2

  abbrev bound_name : Name
  bound_name = name_at ts (suc lets.part)

  pub new_name : is_among (map (λ p. p.0) lets.names.value) bound_name ≡ false
  new_name = waits.new_name

  module _ (names : List (Name × NodeId)) (one_more : names ≡ lets.names.value ++ (bound_name, k) ∷ []) where
    names_reversed : bound_name ∷ reversed_names lets.names.value ≡ reversed_names names
    names_reversed =
        sym (ap reversed_names one_more
        ∙ ap reverse (map_push (λ (p : Name × NodeId). p.0) lets.names.value (bound_name, k))
        ∙ reverse_push (map (λ p. p.0) lets.names.value) bound_name)

    terms_more : (us : List (Name × Term)) → names_with_terms t lets.names.value ++ (bound_name, tree t k) ∷ us ≡ names_with_terms t names ++ us
    terms_more us =
        sym (append_assoc (names_with_terms t lets.names.value) ((bound_name, tree t k) ∷ []) us)
        ∙ ap (λ ps. ps ++ us) (sym (ap (names_with_terms t) one_more ∙ map_push (name_with_term t) lets.names.value (bound_name, k)))

    abbrev then_body : List (Name × Term) → Reading Term
    then_body ps = read (form_from ts lets.body) (with_local (lets_as waits.bindings ps) waits.context)

    further_is : come.later (tree t k) (at_state come.live (now_at t sofar))
        ≡ ((read_bindings (forms_from ts (after_at ts lets.part)) (reversed_names names) waits.context >>= λ us. then_body (names_with_terms t names ++ us)) >>= come.waiting.0) (at_state come.live (now_at t sofar))
    further_is =
        waits.next (tree t k) (at_state come.live (now_at t sofar))
        ∙ ap (λ ns. ((read_bindings (forms_from ts (after_at ts lets.part)) ns waits.context >>= λ us. then_body (names_with_terms t lets.names.value ++ (bound_name, tree t k) ∷ us)) >>= come.waiting.0) (at_state come.live (now_at t sofar))) names_reversed
        ∙ ap (continued come.waiting.0)
        (bound_alike (λ us. then_body (names_with_terms t lets.names.value ++ (bound_name, tree t k) ∷ us)) (λ us. then_body (names_with_terms t names ++ us)) (λ us s. ap (λ ps. then_body ps s) (terms_more us))
        (read_bindings (forms_from ts (after_at ts lets.part)) (reversed_names names) waits.context) (at_state come.live (now_at t sofar)))

    terms_spared : AreSpared t sofar.fresh (map (λ p. p.1) names)
    terms_spared = subst (AreSpared t sofar.fresh) (sym (ap (map (λ (p : Name × NodeId). p.1)) one_more ∙ map_push (λ (p : Name × NodeId). p.1) lets.names.value (bound_name, k)))
        (All-push (IsSpared t sofar.fresh) (map (λ p. p.1) lets.names.value) k waits.terms come.spared)

    pub binding_next : (now : Lets) → now.list ≡ lets.list → now.part ≡ after_at ts lets.part → now.body ≡ lets.body → now.names.value ≡ names → BindingNext ts t sofar reader now r
    binding_next now same_list further same_body same_names =
        let next : BindsNext ts (defined_by ts reader) (now_at t sofar) sofar.scope (stacks_of reader) (reverse reader.frames.items) lets.list (after_at ts lets.part) lets.body names r = record {
          context = waits.context;
          live = come.live;
          outer = come.waiting.0;
          bindings = waits.bindings;
          known = come.known;
          numbered = come.numbered;
          stands = waits.stands;
          terms = terms_spared;
          own = subst HaveOwnNames (sym one_more) (All-push (λ p. IsOwnName p.0) lets.names.value (bound_name, k) waits.own waits.own_name);
          list_form = come.waiting.1;
          body_form = waits.body_form;
          waiting = come.waiting.3;
          is = come.is ∙ further_is;
        } in
        binds_with ts t sofar reader now lets.list (after_at ts lets.part) lets.body names r same_list further same_body same_names next

-- ---- the body opens

shown_append : (t : Formulas) (ps qs : LocalNames) → locals_shown t (ps ++ qs) ≡ locals_shown t ps ++ locals_shown t qs
shown_append t [] qs = refl
shown_append t (p ∷ ps) qs = ap (λ rs. (p.0, local_meant t p.1) ∷ rs) (shown_append t ps qs)

shown_lets : (t : Formulas) (names : List (Name × NodeId)) → locals_shown t (map let_local names) ≡ map (λ p. (p.0, let_meant p.1)) (names_with_terms t names)
shown_lets t [] = refl
shown_lets t (p ∷ ps) = ap (λ rs. (p.0, let_meant (tree t p.1)) ∷ rs) (shown_lets t ps)

spared_lets : (t : Formulas) (supply : Supply) (names : List (Name × NodeId)) → AreSpared t supply (map (λ p. p.1) names) → AreLocals t supply (map let_local names)
spared_lets t supply [] spared = All-nil (λ p. IsLocal t supply p.1)
spared_lets t supply (p ∷ ps) spared = All-cons (λ p. IsLocal t supply p.1) (let_local p) (map let_local ps)
    (All-head (IsSpared t supply) p.1 (map (λ q. q.1) ps) spared) (spared_lets t supply ps (All-tail (IsSpared t supply) p.1 (map (λ q. q.1) ps) spared))

own_lets : (names : List (Name × NodeId)) → HaveOwnNames names → HaveOwnNames (map let_local names)
own_lets [] own = All-nil (λ p. IsOwnName p.0)
own_lets (p ∷ ps) own = All-cons (λ q. IsOwnName q.0) (let_local p) (map let_local ps) (All-head (λ q. IsOwnName q.0) p ps own) (own_lets ps (All-tail (λ q. IsOwnName q.0) p ps own))

dropped : {A : Type 0} (xs ys : List A) (n : ℕ) → n ≡ length xs → drop n (xs ++ ys) ≡ ys
dropped xs ys n all = drop-append-le n xs ys (omega (arith, all)) ∙ ap (λ zs. zs ++ ys) (drop_all n xs (omega (arith, all)))

module _ (ts : List Token) (t : Formulas) (sofar : SofarSeen) (reader : TermReader) (lets : Lets) (r : Result (Term × Sofar) Refused) (next : BindingNext ts t sofar reader lets r)
    (empty : forms_from ts lets.part ≡ none) where
  abbrev inside : Context
  inside = with_local (lets_as next.bindings (names_with_terms t lets.names.value ++ [])) next.context

  body_is : r ≡ (read (form_from ts lets.body) inside >>= next.outer) (at_state next.live (now_at t sofar))
  body_is = next.is ∙ ap (λ fs. ((read_bindings fs (reversed_names lets.names.value) next.context >>= λ us. read (form_from ts lets.body) (with_local (lets_as next.bindings (names_with_terms t lets.names.value ++ us)) next.context)) >>= next.outer) (at_state next.live (now_at t sofar))) empty

  pub body_begins : (locals : LocalNames) → locals ≡ map let_local lets.names.value ++ reader.locals → (n : ℕ) → n ≡ length lets.names.value
      → (frames : Vec Frame Global) → frames.items ≡ reader.frames.items ++ Body (record { list = lets.list; names = n }) ∷ []
      → Stepped ts t sofar (record { alloc = reader.alloc; defines = reader.defines; locals = locals; frames = frames; operands = reader.operands; callees = reader.callees }) r (Ok (NextForm lets.body))
  body_begins locals entered n all frames pushed =
      let stands : Stands ts (defined_by ts reader) (now_at t sofar) locals inside = record {
        shown = record {
          names = ap (locals_shown t) entered ∙ shown_append t (map let_local lets.names.value) reader.locals
              ∙ ap (λ ps. ps ++ locals_shown t reader.locals) (shown_lets t lets.names.value ∙ ap (map (λ p. (p.0, let_meant p.1))) (sym (append-nil (names_with_terms t lets.names.value))))
              ∙ ap (λ ps. map (λ p. (p.0, let_meant p.1)) (names_with_terms t lets.names.value ++ []) ++ ps) next.stands.shown.names;
          numbers = subst (AreLocals t sofar.fresh) (sym entered) (All-append (λ p. IsLocal t sofar.fresh p.1) (map let_local lets.names.value) reader.locals (spared_lets t sofar.fresh lets.names.value next.terms) next.stands.shown.numbers);
          own = subst HaveOwnNames (sym entered) (All-append (λ p. IsOwnName p.0) (map let_local lets.names.value) reader.locals (own_lets lets.names.value next.own) next.stands.shown.own);
        };
        named = next.stands.named;
      } in
      let many : n ≡ length (map let_local lets.names.value) = all ∙ sym (length-map lets.names.value let_local) in
      let left : drop n locals ≡ reader.locals = ap (drop n) entered ∙ dropped (map let_local lets.names.value) reader.locals n many in
      subst (λ fs. GoesOn ts (defined_by ts reader) (now_at t sofar) sofar.scope (stacks_with reader locals) fs lets.body r) (sym (ap reverse pushed ∙ reverse_push reader.frames.items _))
      (record {
        context = inside;
        live = next.live;
        later = next.outer;
        form = next.body_form;
        known = next.known;
        numbered = next.numbered;
        stands = stands;
        waiting = (
          next.outer,
          next.list_form,
          record { within = let size = ap length entered ∙ length-append (map let_local lets.names.value) reader.locals in omega (arith, many, size); next = λ u s. refl },
          subst (λ ls. AllWait ts (defined_by ts reader) (now_at t sofar) (reverse reader.frames.items) (after_at ts lets.list) (stacks_with reader ls) next.outer) (sym left) next.waiting,
        );
        is = body_is;
      })

-- ---- the body comes back

module _ (ts : List Token) (t : Formulas) (sofar : SofarSeen) (reader : TermReader) (frame : LetBody) (k : NodeId) (at : ℕ) (r : Result (Term × Sofar) Refused) (come : GoingBack ts t sofar reader (Body frame) k at r) where
  pub names_within : frame.names ≤ length reader.locals
  names_within = come.waiting.2.within

  pub body_ends : (locals : LocalNames) → locals ≡ drop frame.names reader.locals → (n : ℕ) → n ≡ after_at ts frame.list
      → Stepped ts t sofar (record { alloc = reader.alloc; defines = reader.defines; locals = locals; frames = reader.frames; operands = reader.operands; callees = reader.callees }) r (Ok (NextTerm k n))
  body_ends locals left n behind =
      subst (λ m. ComesBack ts (defined_by ts reader) (now_at t sofar) sofar.scope (stacks_with reader locals) (reverse reader.frames.items) k m r) (sym behind)
      (subst (λ ls. ComesBack ts (defined_by ts reader) (now_at t sofar) sofar.scope (stacks_with reader ls) (reverse reader.frames.items) k (after_at ts frame.list) r) (sym left)
      (ends_with ts (defined_by ts reader) (now_at t sofar) sofar.scope (stacks_of reader) (Body frame) (reverse reader.frames.items) k at r come (gives (tree t k)) (come.waiting.2.next (tree t k) (at_state come.live (now_at t sofar)))
      (now_at t sofar) (gains_self (now_at t sofar)) sofar.scope come.live come.known refl k come.spared refl))
