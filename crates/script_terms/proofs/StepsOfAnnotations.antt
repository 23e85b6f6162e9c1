-- Steps of an annotation: its term is read, and then it gets its names.
use Rattle.std.proofs.Common.{◌≡◌, ℕ, ◌+◌, ◌<◌, false, not, List, [], ◌∷◌, ◌++◌, reverse, Vec, Result, Ok, Err, refl, ap, sym, ◌∙◌, subst, arith}
use Rattle.std.specs.Global.{Global}
use Rattle.smt_lex.specs.Lex.{Token}
use Rattle.smt_lex.specs.Forest.{token_at, after_at}
use Rattle.smt_lex.specs.Forms.{Forms, none, ◌⨾◌}
use Rattle.smt_terms.specs.declared.ids.NodeId.{NodeId}
use Rattle.smt_terms.specs.Term.{Term}
use Rattle.term_table.specs.Formulas.{Formulas, tree}
use Rattle.script_terms.specs.declared.causes.Cause.TheVariants.{BadForm}
use Rattle.script_terms.specs.declared.faults.Fault.{Fault}
use Rattle.script_terms.specs.declared.faults.ReadFault.{ReadFault}
use Rattle.script_terms.specs.declared.faults.ReadFault.TheVariants.{Refused as RefusedFor}
use Rattle.script_terms.specs.declared.sofar.Sofar.{Sofar as SofarSeen}
use Rattle.script_terms.specs.declared.terms.frames.Annotation.{Annotation}
use Rattle.script_terms.specs.declared.terms.frames.Frame.{Frame}
use Rattle.script_terms.specs.declared.terms.frames.Frame.TheVariants.{Annotated}
use Rattle.script_terms.specs.declared.terms.frames.Next.TheVariants.{Form as NextForm, Term as NextTerm}
use Rattle.script_terms.specs.declared.terms.term_reader.TermReader.{TermReader}
use Rattle.script_terms.specs.Refusals.{Refused, at}
use Rattle.script_terms.specs.Parts.{annotation_word, named_parts}
use Rattle.script_terms.specs.Openings.{annotates, AnnotatesAt}
use Rattle.script_terms.specs.Reading.{Sofar, by_live, refused_if, ◌>>=◌}
use Rattle.script_terms.specs.Read.{term_names, annotated, read, read_list}
use Rattle.script_terms.specs.Known.{Scoping}
use Rattle.script_terms.specs.Places.{form_from, forms_from}
use Rattle.script_terms.specs.TermClauses.{naming, NamesGiven}
use Rattle.script_terms.specs.Sizes.{form_size, forms_size}
use Rattle.script_terms.specs.Waiting.{frames_left, left_of, GoesOn, ComesBack, Opens, Later, now_at, defined_by, stacks_of, Going, GoingBack, Stepped}
use Rattle.script_terms.proofs.Grown.{grown_self, later_self}
use Rattle.script_terms.proofs.Stepping.{at_state, gains_self, goes_inside, ends_with, refused_behind, refuses_as}
use Rattle.script_terms.proofs.Stepped.{reading_of, opened_is, refused_steps, reverse_push}

-- ---- an annotation opens

module _ (ts : List Token) (t : Formulas) (sofar : SofarSeen) (reader : TermReader) (list : ℕ) (r : Result (Term × Sofar) Refused) (going : Going ts t sofar reader (NextForm list) r)
    (first : ℕ) (opens : Opens ts list first annotation_word) where
  abbrev place : ℕ
  place = (token_at ts list).start

  abbrev state : Sofar
  state = at_state going.live (now_at t sofar)

  annotation_is : reading_of ts t sofar reader list r going ≡ read_list annotation_word (forms_from ts (after_at ts first)) place going.context state
  annotation_is = opened_is ts t sofar reader list r going first annotation_word opens

  no_annotation : (fs : Forms) → annotates fs ≡ false → read_list annotation_word fs place going.context state ≡ at BadForm place
  no_annotation none lacks = refl
  no_annotation (f ⨾ fs) lacks = ap (λ b. refused_if (not b) BadForm place (read f going.context >>= λ u.
      by_live (term_names going.context.defines place [] (named_parts fs)) >>= λ ns. annotated place going.context f u ns) state) lacks

  pub annotation_refused : (e : Fault) → AnnotatesAt ts list (forms_from ts (after_at ts first)) (Err e) → Stepped ts t sofar reader r (Err (RefusedFor e))
  annotation_refused e answer = refused_steps ts t sofar reader list r going t reader e _ answer.fault (annotation_is ∙ no_annotation (forms_from ts (after_at ts first)) answer.lacks)

  module _ (term attributes : ℕ) (parts : AnnotatesAt ts list (forms_from ts (after_at ts first)) (Ok (term, attributes))) where
    abbrev inner : Later
    inner u = by_live (term_names going.context.defines place [] (named_parts (forms_from ts attributes))) >>= λ ns. annotated place going.context (form_from ts term) u ns

    term_is : reading_of ts t sofar reader list r going ≡ (read (form_from ts term) going.context >>= inner) state
    term_is = annotation_is ∙ ap (λ fs. read_list annotation_word fs place going.context state) parts.parts
        ∙ ap (λ b. refused_if (not b) BadForm place (read (form_from ts term) going.context >>= inner) state) (sym (ap annotates parts.parts) ∙ parts.holds)

    pub annotated_begins : (frames : Vec Frame Global) → frames.items ≡ reader.frames.items ++ Annotated (record { list = list; attributes = attributes }) ∷ []
        → Stepped ts t sofar (record { alloc = reader.alloc; defines = reader.defines; locals = reader.locals; frames = frames; operands = reader.operands; callees = reader.callees }) r (Ok (NextForm term))
    annotated_begins frames pushed =
        subst (λ fs. GoesOn ts (defined_by ts reader) (now_at t sofar) sofar.scope (stacks_of reader) fs term r) (sym (ap reverse pushed ∙ reverse_push reader.frames.items _))
        (goes_inside ts (defined_by ts reader) (now_at t sofar) sofar.scope (stacks_of reader) (reverse reader.frames.items) list r going
        (now_at t sofar) (gains_self (now_at t sofar)) sofar.scope going.live going.known
        (Annotated (record { list = list; attributes = attributes })) term (stacks_of reader) going.context inner parts.form.form going.stands refl refl
        term_is
        (record {
          context = going.context;
          stands = going.stands;
          form = form_from ts term;
          place = parts.place;
          next = λ u s. refl;
        }) refl)

-- the term is less than the annotation
pub annotation_less : (ts : List Token) (reader : TermReader) (list first term attributes : ℕ) → Opens ts list first annotation_word
    → AnnotatesAt ts list (forms_from ts (after_at ts first)) (Ok (term, attributes))
    → (frames : Vec Frame Global) → frames.items ≡ reader.frames.items ++ Annotated (record { list = list; attributes = attributes }) ∷ []
    → form_size (form_from ts term) + frames_left ts (reverse frames.items) (after_at ts term) < left_of ts reader (NextForm list)
annotation_less ts reader list first term attributes opens parts frames pushed =
    let size : form_size (form_from ts list) ≡ 3 + (form_size (form_from ts first) + (form_size (form_from ts term) + forms_size (forms_from ts attributes))) =
    ap form_size opens.form ∙ ap (λ fs. 3 + (form_size (form_from ts first) + forms_size fs)) parts.parts in
    let left : frames_left ts (reverse frames.items) (after_at ts term) ≡ 1 + frames_left ts (reverse reader.frames.items) (after_at ts list) =
    ap (λ fs. frames_left ts fs (after_at ts term)) (ap reverse pushed ∙ reverse_push reader.frames.items (Annotated (record { list = list; attributes = attributes }))) in
    omega (arith, size, left)

-- ---- the term comes back

module _ (ts : List Token) (t : Formulas) (sofar : SofarSeen) (reader : TermReader) (frame : Annotation) (k : NodeId) (at : ℕ) (r : Result (Term × Sofar) Refused) (come : GoingBack ts t sofar reader (Annotated frame) k at r) where
  abbrev pub named : Result (Term × Sofar) Refused
  named = naming (token_at ts frame.list).start (forms_from ts frame.attributes) come.waiting.2.context come.waiting.2.form (tree t k) (record { live = come.live; supply = sofar.fresh })

  pub names_refused : (now : SofarSeen) (u : TermReader) (e : ReadFault) → NamesGiven t sofar.fresh sofar.scope k named (Err e) → Stepped ts t now u r (Err e)
  names_refused now u e answer = refuses_as r named e
      (λ x refused. refused_behind ts (defined_by ts reader) (now_at t sofar) sofar.scope (stacks_of reader) (Annotated frame) (reverse reader.frames.items) k at r come
      (naming (token_at ts frame.list).start (forms_from ts frame.attributes) come.waiting.2.context come.waiting.2.form (tree t k)) (come.waiting.2.next (tree t k) (at_state come.live (now_at t sofar))) x refused) answer

  pub names_given : (s : Scoping) → s.definitions ≡ sofar.scope.definitions → NamesGiven t sofar.fresh s k named (Ok tt) → (n : ℕ) → n ≡ after_at ts frame.list
      → Stepped ts t (record { scope = s; fresh = sofar.fresh }) reader r (Ok (NextTerm k n))
  names_given s same answer n behind =
      subst (λ m. ComesBack ts (defined_by ts reader) (now_at t (record { scope = s; fresh = sofar.fresh })) s (stacks_of reader) (reverse reader.frames.items) k m r) (sym behind)
      (ends_with ts (defined_by ts reader) (now_at t sofar) sofar.scope (stacks_of reader) (Annotated frame) (reverse reader.frames.items) k at r come
      (naming (token_at ts frame.list).start (forms_from ts frame.attributes) come.waiting.2.context come.waiting.2.form (tree t k)) (come.waiting.2.next (tree t k) (at_state come.live (now_at t sofar)))
      (now_at t (record { scope = s; fresh = sofar.fresh })) (record { table = grown_self t; supply = later_self sofar.fresh; definitions = same }) s answer.live answer.shows refl k come.spared answer.given)
