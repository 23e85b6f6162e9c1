use Rattle.std.proofs.Common.{◌≡◌, ℕ, Bool, cond, List, [], ◌∷◌, Result, Ok, Err, OnErr, Option, Some, None, IsSome, refl, sym, ap, subst, ◌∙◌, ◌==◌, if◌then◌else◌}
use Rattle.std.specs.Borrow.{Bor}
use Rattle.smt_lex.specs.Names.{Name}
use Rattle.smt_terms.specs.declared.ids.SortId.{SortId}
use Rattle.smt_terms.specs.contracts.ids.SortIdPartialEq.TheImpl.{ghosts}
use Rattle.std.specs.Map.{lookup}
use Rattle.model_texts.specs.Reading.{place_among}
use Rattle.model_texts.specs.Met.{MetNames, names_kept, with_name, names_read, Gains}
use Rattle.model_texts.proofs.MetNames.{inserted, placed, kept_of, seen, names_kept-seen, written, either, gains_by, gains_none}
use Rattle.model_texts.proofs.elements.Elements.meet.Goals as goal

anyway : {A E P : Type 0} (r : Result A E) → P → OnErr r P
anyway (Ok a) p = tt
anyway (Err e) p = p

pub returns-in_err-number-clause-err : goal.returns-in_err-number-clause-err
returns-in_err-number-clause-err c = anyway c.from_residual.result (λ s.
    written c.self.inside.names.entries (c.get_mut.follows.lender c.insert_full.new.self).entries c.args.sort c.insert_full.new.self
    (((c.get_mut.follows.holds c.insert_full.new.self).3 (subst IsSome c.in-Some.ensures.value refl)).0)
    (λ ns. ns) (ap names_read c.in_err-number.ensures.err ∙ sym (names_kept-seen c.self.inside.names.entries c.args.sort ∙ ap kept_of (sym c.in-Some.ensures.value))) s
    ∙ either (s.0 == c.args.sort.0) _ ∙ ap (λ (ms : MetNames). names_kept ms s) c.self.view_is)

pub returns-in_err-number-clause-gains : goal.returns-in_err-number-clause-gains
returns-in_err-number-clause-gains c = gains_none _ _ (λ s.
    written c.self.inside.names.entries (c.get_mut.follows.lender c.insert_full.new.self).entries c.args.sort c.insert_full.new.self
    (((c.get_mut.follows.holds c.insert_full.new.self).3 (subst IsSome c.in-Some.ensures.value refl)).0)
    (λ ns. ns) (ap names_read c.in_err-number.ensures.err ∙ sym (names_kept-seen c.self.inside.names.entries c.args.sort ∙ ap kept_of (sym c.in-Some.ensures.value))) s
    ∙ either (s.0 == c.args.sort.0) _ ∙ ap (λ (ms : MetNames). names_kept ms s) c.self.view_is)

pub returns-in-Some-clause-number : goal.returns-in-Some-clause-number
returns-in-Some-clause-number c =
    c.in_ok-number.ensures.index ∙ placed c.in-Some.names.now.keys c.args.name
    ∙ ap (λ ns. place_among ns c.args.name.now) (sym (names_kept-seen c.self.inside.names.entries c.args.sort ∙ ap kept_of (sym c.in-Some.ensures.value)) ∙ ap (λ (ms : MetNames). names_kept ms c.args.sort) c.self.view_is)

pub returns-in-Some-clause-met : goal.returns-in-Some-clause-met
returns-in-Some-clause-met c = (λ s.
    written c.self.inside.names.entries (c.get_mut.follows.lender c.insert_full.new.self).entries c.args.sort c.insert_full.new.self
    (((c.get_mut.follows.holds c.insert_full.new.self).3 (subst IsSome c.in-Some.ensures.value refl)).0)
    (with_name c.args.name.now) (ap names_read c.in_ok-number.ensures.keys ∙ inserted c.in-Some.names.now.keys c.args.name ∙ ap (with_name c.args.name.now) (sym (names_kept-seen c.self.inside.names.entries c.args.sort ∙ ap kept_of (sym c.in-Some.ensures.value)))) s
    ∙ ap (λ (ms : MetNames). if s.0 == c.args.sort.0 then with_name c.args.name.now (names_kept ms s) else names_kept ms s) c.self.view_is)

pub returns-in-Some-clause-gains : goal.returns-in-Some-clause-gains
returns-in-Some-clause-gains c = gains_by _ _ c.args.sort c.args.name.now (λ s.
    written c.self.inside.names.entries (c.get_mut.follows.lender c.insert_full.new.self).entries c.args.sort c.insert_full.new.self
    (((c.get_mut.follows.holds c.insert_full.new.self).3 (subst IsSome c.in-Some.ensures.value refl)).0)
    (with_name c.args.name.now) (ap names_read c.in_ok-number.ensures.keys ∙ inserted c.in-Some.names.now.keys c.args.name ∙ ap (with_name c.args.name.now) (sym (names_kept-seen c.self.inside.names.entries c.args.sort ∙ ap kept_of (sym c.in-Some.ensures.value)))) s
    ∙ ap (λ (ms : MetNames). if s.0 == c.args.sort.0 then with_name c.args.name.now (names_kept ms s) else names_kept ms s) c.self.view_is)

pub returns-clause-number : goal.returns-clause-number
returns-clause-number c =
    sym (ap (λ ns. place_among ns c.args.name.now) (sym (ap (λ (ms : MetNames). names_kept ms c.args.sort) c.self.view_is) ∙ (names_kept-seen c.self.inside.names.entries c.args.sort ∙ ap kept_of (sym c.in_default.ensures.value))))

pub returns-clause-met : goal.returns-clause-met
returns-clause-met c = (λ s.
    written c.self.inside.names.entries c.insert-2.new.self.entries c.args.sort c.insert.new.self
    (λ q. c.in_ok-insert-2.ensures.updates.0 q ∙ ap (λ m. cond (ghosts.eq c.args.sort q) (Some c.insert.new.self) (lookup (ghosts.eq q) m.entries)) c.get_mut.follows.holds-at-none)
    (with_name c.args.name.now) (ap names_read c.in_ok-insert.ensures.keys ∙ inserted c.with_hasher-names.result.keys c.args.name ∙ ap (λ ks. with_name c.args.name.now (names_read ks)) c.with_hasher-names.ensures.empty ∙ ap (with_name c.args.name.now) (sym (names_kept-seen c.self.inside.names.entries c.args.sort ∙ ap kept_of (sym c.in_default.ensures.value)))) s
    ∙ ap (λ (ms : MetNames). if s.0 == c.args.sort.0 then with_name c.args.name.now (names_kept ms s) else names_kept ms s) c.self.view_is)

pub returns-clause-gains : goal.returns-clause-gains
returns-clause-gains c = gains_by _ _ c.args.sort c.args.name.now (λ s.
    written c.self.inside.names.entries c.insert-2.new.self.entries c.args.sort c.insert.new.self
    (λ q. c.in_ok-insert-2.ensures.updates.0 q ∙ ap (λ m. cond (ghosts.eq c.args.sort q) (Some c.insert.new.self) (lookup (ghosts.eq q) m.entries)) c.get_mut.follows.holds-at-none)
    (with_name c.args.name.now) (ap names_read c.in_ok-insert.ensures.keys ∙ inserted c.with_hasher-names.result.keys c.args.name ∙ ap (λ ks. with_name c.args.name.now (names_read ks)) c.with_hasher-names.ensures.empty ∙ ap (with_name c.args.name.now) (sym (names_kept-seen c.self.inside.names.entries c.args.sort ∙ ap kept_of (sym c.in_default.ensures.value)))) s
    ∙ ap (λ (ms : MetNames). if s.0 == c.args.sort.0 then with_name c.args.name.now (names_kept ms s) else names_kept ms s) c.self.view_is)
