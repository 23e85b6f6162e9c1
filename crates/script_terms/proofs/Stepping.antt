-- One step of a reading: a form opens, and comes back as a term or refused.
use Rattle.std.proofs.Common.{◌≡◌, ℕ, List, ◌∷◌, All, Option, Result, Ok, Err, refl, ap, sym, ◌∙◌, subst}
use Rattle.smt_lex.specs.Lex.{Token}
use Rattle.smt_lex.specs.Names.{Name}
use Rattle.smt_lex.specs.Forest.{after_at}
use Rattle.smt_terms.specs.declared.ids.NodeId.{NodeId}
use Rattle.smt_terms.specs.Term.{Term}
use Rattle.term_table.specs.Formulas.{tree}
use Rattle.script_terms.specs.declared.terms.frames.Frame.{Frame}
use Rattle.script_terms.specs.declared.faults.ReadFault.{ReadFault}
use Rattle.script_terms.specs.declared.faults.ReadFault.TheVariants.{Refused as RefusedFor, Memory}
use Rattle.script_terms.specs.Refusals.{Refused}
use Rattle.script_terms.specs.Replies.{refused_seen, Refuses}
use Rattle.script_terms.specs.Reading.{ReadBinding, Sofar, Reading, continued, ◌>>=◌}
use Rattle.script_terms.specs.Read.{Context, read}
use Rattle.script_terms.specs.Known.{Scoping, Shows, IsDefinition, IsSpared}
use Rattle.script_terms.specs.Places.{IsForm, form_from}
use Rattle.script_terms.specs.Waiting.{World, Gains, Later, Stacks, list_of, below, Stands, Waits, AllWait, GoesOn, ComesBack}
use Rattle.script_terms.proofs.Placing.{form_within, after_within}
use Rattle.script_terms.proofs.Gaining.{all_still}
use Rattle.script_terms.proofs.Grown.{grown_self, later_self}

-- ---- readings one after the other

module _ {A B C : Type 0} (f : A → Reading B) (g : B → Reading C) where
  continued_twice : (r : Result (A × Sofar) Refused) → continued g (continued f r) ≡ continued (λ x. f x >>= g) r
  continued_twice (Ok p) = refl
  continued_twice (Err e) = refl

  pub bound_twice : (m : Reading A) (s : Sofar) → ((m >>= f) >>= g) s ≡ (m >>= (λ x. f x >>= g)) s
  bound_twice m s = continued_twice (m s)

module _ {A B : Type 0} (m : Reading A) (f : A → Reading B) (s : Sofar) where
  pub bound_ok : (a : A) (t : Sofar) → m s ≡ Ok (a, t) → (m >>= f) s ≡ f a t
  bound_ok a t is = ap (continued f) is

  pub bound_err : (e : Refused) → m s ≡ Err e → (m >>= f) s ≡ Err e
  bound_err e is = ap (continued f) is

abbrev pub at_state : List ReadBinding → World → Sofar
at_state live w = record { live = live; supply = w.supply }

module _ (ts : List Token) (defines : Option Name) (w : World) (s : Scoping) (stacks : Stacks) where
  -- ---- a form opens

  module _ (frames : List Frame) (i : ℕ) (r : Result (Term × Sofar) Refused) (going : GoesOn ts defines w s stacks frames i r) where
    abbrev reading : Reading Term
    reading = read (form_from ts i) going.context

    pub refused_here : (e : Refused) → reading (at_state going.live w) ≡ Err e → r ≡ Err e
    refused_here e is = going.is ∙ bound_err reading going.later (at_state going.live w) e is

    kept : All (IsDefinition w.table w.supply) w.definitions
    kept = subst (All (IsDefinition w.table w.supply)) going.numbered going.known.numbers.definitions

    module _ (v : World) (gains : Gains w v) (known : Scoping) (live : List ReadBinding) (shows : Shows v.table v.supply known live) where
      pub came_back : (k : NodeId) → IsSpared v.table v.supply k → reading (at_state going.live w) ≡ Ok (tree v.table k, at_state live v)
          → known.definitions ≡ v.definitions → ComesBack ts defines v known stacks frames k (after_at ts i) r
      came_back k spared is definitions = record {
        live = live;
        later = going.later;
        known = shows;
        numbered = definitions;
        spared = spared;
        place = after_within ts i (form_within ts i going.form);
        waiting = all_still ts defines w v gains kept frames (after_at ts i) stacks going.later going.waiting;
        is = going.is ∙ bound_ok reading going.later (at_state going.live w) (tree v.table k) (at_state live v) is;
      }

      -- it waits for a form inside it
      pub goes_inside : (f : Frame) (j : ℕ) (inside : Stacks) (context : Context) (inner : Later) → IsForm ts j → Stands ts defines v inside.locals context
          → list_of f ≡ i → below f inside ≡ stacks
          → reading (at_state going.live w) ≡ (read (form_from ts j) context >>= inner) (at_state live v)
          → Waits ts defines v f (after_at ts j) inside (λ u. inner u >>= going.later) going.later
          → known.definitions ≡ v.definitions → GoesOn ts defines v known inside (f ∷ frames) j r
      goes_inside f j inside context inner form stands list left is waits definitions = record {
        context = context;
        live = live;
        later = λ u. inner u >>= going.later;
        form = form;
        known = shows;
        numbered = definitions;
        stands = stands;
        waiting = (
          going.later,
          subst (IsForm ts) (sym list) going.form,
          waits,
          subst (λ n. AllWait ts defines v frames (after_at ts n) (below f inside) going.later) (sym list)
              (subst (λ below_it. AllWait ts defines v frames (after_at ts i) below_it going.later) (sym left)
              (all_still ts defines w v gains kept frames (after_at ts i) stacks going.later going.waiting)),
        );
        is = going.is ∙ ap (continued going.later) is ∙ bound_twice inner going.later (read (form_from ts j) context) (at_state live v);
      }

  -- ---- a term comes back to the form around it

  module _ (f : Frame) (frames : List Frame) (k : NodeId) (at : ℕ) (r : Result (Term × Sofar) Refused) (come : ComesBack ts defines w s stacks (f ∷ frames) k at r) (rest : Reading Term)
      (leads : come.later (tree w.table k) (at_state come.live w) ≡ (rest >>= come.waiting.0) (at_state come.live w)) where
    pub refused_behind : (e : Refused) → rest (at_state come.live w) ≡ Err e → r ≡ Err e
    refused_behind e is = come.is ∙ leads ∙ bound_err rest come.waiting.0 (at_state come.live w) e is

    defined_before : All (IsDefinition w.table w.supply) w.definitions
    defined_before = subst (All (IsDefinition w.table w.supply)) come.numbered come.known.numbers.definitions

    module _ (v : World) (gains : Gains w v) (known : Scoping) (live : List ReadBinding) (shows : Shows v.table v.supply known live) (numbered : known.definitions ≡ v.definitions) where
      pub ends_with : (j : NodeId) → IsSpared v.table v.supply j → rest (at_state come.live w) ≡ Ok (tree v.table j, at_state live v)
          → ComesBack ts defines v known (below f stacks) frames j (after_at ts (list_of f)) r
      ends_with j spared is = record {
        live = live;
        later = come.waiting.0;
        known = shows;
        numbered = numbered;
        spared = spared;
        place = after_within ts (list_of f) (form_within ts (list_of f) come.waiting.1);
        waiting = all_still ts defines w v gains defined_before frames (after_at ts (list_of f)) (below f stacks) come.waiting.0 come.waiting.3;
        is = come.is ∙ leads ∙ bound_ok rest come.waiting.0 (at_state come.live w) (tree v.table j) (at_state live v) is;
      }

      pub goes_further : (g : Frame) (j : ℕ) (inside : Stacks) (context : Context) (inner : Later) → IsForm ts j → Stands ts defines v inside.locals context
          → list_of g ≡ list_of f → below g inside ≡ below f stacks
          → rest (at_state come.live w) ≡ (read (form_from ts j) context >>= inner) (at_state live v)
          → Waits ts defines v g (after_at ts j) inside (λ u. inner u >>= come.waiting.0) come.waiting.0
          → GoesOn ts defines v known inside (g ∷ frames) j r
      goes_further g j inside context inner form stands list left is waits = record {
        context = context;
        live = live;
        later = λ u. inner u >>= come.waiting.0;
        form = form;
        known = shows;
        numbered = numbered;
        stands = stands;
        waiting = (
          come.waiting.0,
          subst (IsForm ts) (sym list) come.waiting.1,
          waits,
          subst (λ n. AllWait ts defines v frames (after_at ts n) (below g inside) come.waiting.0) (sym list)
              (subst (λ below_it. AllWait ts defines v frames (after_at ts (list_of f)) below_it come.waiting.0) (sym left)
              (all_still ts defines w v gains defined_before frames (after_at ts (list_of f)) (below f stacks) come.waiting.0 come.waiting.3)),
        );
        is = come.is ∙ leads ∙ ap (continued come.waiting.0) is ∙ bound_twice inner come.waiting.0 (read (form_from ts j) context) (at_state live v);
      }

-- ---- answers

-- what is refused as something else is
pub refuses_as : {A B : Type 0} (r : Result A Refused) (p : Result B Refused) (e : ReadFault) → ((x : Refused) → p ≡ Err x → r ≡ Err x) → Refuses p e → Refuses r e
refuses_as r p (RefusedFor e) means refuses = means (refused_seen e) refuses
refuses_as r p Memory means refuses = tt

-- readings that go on alike
module _ {A B : Type 0} (f g : A → Reading B) (alike : (a : A) (s : Sofar) → f a s ≡ g a s) where
  continued_alike : (r : Result (A × Sofar) Refused) → continued f r ≡ continued g r
  continued_alike (Ok p) = alike p.0 p.1
  continued_alike (Err e) = refl

  pub bound_alike : (m : Reading A) (s : Sofar) → (m >>= f) s ≡ (m >>= g) s
  bound_alike m s = continued_alike (m s)

pub gains_self : (w : World) → Gains w w
gains_self w = record { table = grown_self w.table; supply = later_self w.supply; definitions = refl }
