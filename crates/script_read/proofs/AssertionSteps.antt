-- Assertions: what reading the term makes of a session.
use Rattle.std.proofs.Common.{◌≡◌, ℕ, suc, ◌+◌, Bool, true, false, not, [], ◌∷◌, Result, Ok, Err, refl, ap, sym, ◌∙◌, subst, add-one}
use Rattle.std.proofs.lemmas.List.Elements.{All-nil}
use Rattle.smt_lex.specs.Forms.{Form}
use Rattle.smt_terms.specs.declared.ids.NodeId.{NodeId}
use Rattle.smt_terms.specs.Fresh.{Supply}
use Rattle.smt_terms.specs.Sorts.{bool}
use Rattle.smt_terms.specs.Term.{Term}
use Rattle.term_table.specs.Formulas.{Formulas, tree}
use Rattle.script_terms.specs.declared.causes.Cause.TheVariants.{WrongSort}
use Rattle.script_read.specs.declared.scripts.Command.TheVariants.{Assert}
use Rattle.script_read.specs.declared.session.Session.{Session}
use Rattle.script_terms.specs.Bound.{LocalNames, locals_shown, IsLocal, AreLocals, HaveOwnNames, ShowsLocals}
use Rattle.script_read.specs.Commands.{assert}
use Rattle.script_terms.specs.Known.{Scoping, IsOwnName, Gives}
use Rattle.script_terms.specs.Parts.{place_of}
use Rattle.script_terms.specs.Read.{has_sort, read}
use Rattle.script_terms.specs.Reading.{Sofar}
use Rattle.script_terms.specs.Refusals.{Refused, at, unless, mapped}
use Rattle.script_read.specs.Script.{Standing, Step, live_of, no_context, asserted_with, of_sort, asserts}
use Rattle.script_read.specs.Steps.{StandsAt, Steps}

-- nothing is bound locally
pub no_locals : (t : Formulas) (supply : Supply) (ps : LocalNames) → ps ≡ [] → ShowsLocals t supply ps []
no_locals t supply ps is = record { names = ap (locals_shown t) is; numbers = subst (AreLocals t supply) (sym is) (All-nil (λ p. IsLocal t supply p.1)); own = subst HaveOwnNames (sym is) (All-nil (λ p. IsOwnName p.0)) }

-- a session behind an assertion
abbrev pub asserted_at : Session → Scoping → Supply → ℕ → Session
asserted_at x scope left number = record { sofar = record { scope = scope; fresh = left }; global = x.global; begun = true; asserted = number }

module _ (t u : Formulas) (x : Session) (s : Standing) (stands : StandsAt t x s) (f : Form) where
  abbrev reads_term : Result (Term × Sofar) Refused
  reads_term = read f no_context (record { live = live_of s; supply = x.sofar.fresh })

  abbrev ends_term : Result (Term × Sofar) Refused → Step
  ends_term r = mapped (asserted_with s) (of_sort bool (place_of f) r)

  term_of_sofar : asserts f s ≡ ends_term reads_term
  term_of_sofar = ap (λ q. ends_term (read f no_context (record { live = live_of s; supply = q }))) stands.supply

  pub assertion_refused : (e : Refused) → reads_term ≡ Err e → asserts f s ≡ Err e
  assertion_refused e refused = term_of_sofar ∙ ap ends_term refused

  module _ (k : NodeId) (r : Scoping) (left : Supply) (gives : Gives u r left (tree u k) reads_term) where
    abbrev of_answer : Bool → Step
    of_answer right = mapped (asserted_with s) (unless (not right) WrongSort (place_of f) (Ok (tree u k, record { live = gives.live; supply = left })))

    pub assertion_missorted : has_sort bool (tree u k) ≡ false → asserts f s ≡ at WrongSort (place_of f)
    assertion_missorted wrong = term_of_sofar ∙ ap ends_term gives.given ∙ ap of_answer wrong

    pub asserted : (number : ℕ) → has_sort bool (tree u k) ≡ true → number ≡ x.asserted + 1 → Steps u (asserted_at x r left number) (Assert k number ∷ []) (asserts f s)
    asserted number right is = record {
      standing = record { sofar = record { live = gives.live; supply = left }; global = s.global; begun = true; asserted = suc s.asserted };
      stands = record {
        shows = gives.shows;
        supply = refl;
        global = stands.global;
        begun = refl;
        asserted = same;
      };
      gives =
          term_of_sofar ∙ ap ends_term gives.given ∙ ap of_answer right
          ∙ ap (λ n. Ok (assert n (tree u k) ∷ [], record { sofar = record { live = gives.live; supply = left }; global = s.global; begun = true; asserted = suc s.asserted })) same;
    }
      where
        same : suc s.asserted ≡ number
        same = ap suc stands.asserted ∙ sym (add-one x.asserted) ∙ sym is
