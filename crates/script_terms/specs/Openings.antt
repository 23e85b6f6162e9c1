-- How lists begin, as the code holds it; and the shapes of `let`, of quantifiers and of their parts.
use Rattle.std.specs.Prelude.{◌≡◌, ℕ, ◌≤◌, length, Bool, true, false, List, Result, Ok, Err}
use Rattle.smt_lex.specs.Lex.{Token}
use Rattle.smt_lex.specs.Names.{Name}
use Rattle.smt_lex.specs.Forms.{Form, node, Forms, none, ◌⨾◌}
use Rattle.script_terms.specs.declared.causes.Cause.TheVariants.{BadForm}
use Rattle.script_terms.specs.declared.terms.openings.Opening.{Opening as OpeningSeen}
use Rattle.script_terms.specs.declared.terms.openings.Opening.TheVariants.{Let, Quantifier as QuantifierOpening, Annotation, Index, Head}
use Rattle.script_terms.specs.Refusals.{Refused, at, mapped}
use Rattle.script_terms.specs.Parts.{place_of, symbol_in, after_keyword, after_attribute, are_attributes, Opening, let_word, quantifier_word, annotation_word, index_word, head}
use Rattle.script_terms.specs.declared.faults.Fault.{Fault}
use Rattle.smt_lex.specs.Forest.{token_at, after_at}
use Rattle.script_terms.specs.Replies.{refused_seen}
use Rattle.script_terms.specs.Places.{IsForm, form_from, forms_from}
use Rattle.script_terms.specs.PlaceClauses.{BeginsForm}
use Rattle.script_terms.specs.Read.{let_name}
use Rattle.script_terms.specs.Quantifiers.{quantifier_of}

abbrev pub opening_seen : List Token → ℕ → OpeningSeen → Opening
opening_seen ts first Let = let_word
opening_seen ts first (QuantifierOpening q) = quantifier_word (quantifier_of q)
opening_seen ts first Annotation = annotation_word
opening_seen ts first Index = index_word
opening_seen ts first Head = head (form_from ts first)

-- a list that isn't empty, and one form more
abbrev pub binds : Forms → Bool
binds (node part (b ⨾ bs) ⨾ body ⨾ none) = true
binds _ = false

-- the name of a binding, which is examined behind others, and its form
abbrev pub binding_in : List Name → Form → Result (Name × Form) Refused
binding_in earlier (node part (x ⨾ f ⨾ none)) = mapped (λ n. (n, f)) (let_name earlier part (place_of x) (symbol_in x))
binding_in earlier f = at BadForm (place_of f)

-- the first bound part and the body by their tokens, or the fault of a list that doesn't bind so
abbrev pub BindsAt : List Token → ℕ → Forms → Result (ℕ × ℕ) Fault → Type 0
BindsAt ts list fs (Ok p) = (place : ℕ) × (fs ≡ node place (forms_from ts p.0) ⨾ form_from ts p.1 ⨾ none) × BeginsForm ts p.0 × IsForm ts p.1 × (binds fs ≡ true)
BindsAt ts list fs (Err e) = (binds fs ≡ false) × (refused_seen e ≡ record { cause = BadForm; place = (token_at ts list).start })

-- a form with attributes behind it
abbrev pub annotates : Forms → Bool
annotates none = false
annotates (f ⨾ fs) = are_attributes fs

pub record Annotates (ts : List Token) (fs : Forms) (term attributes : ℕ) : Type 0 where
  pub form : BeginsForm ts term
  pub parts : fs ≡ form_from ts term ⨾ forms_from ts attributes
  pub place : attributes ≤ length ts
  pub ends : attributes ≡ after_at ts term
  pub holds : annotates fs ≡ true

pub record LacksAnnotation (ts : List Token) (list : ℕ) (fs : Forms) (e : Fault) : Type 0 where
  pub lacks : annotates fs ≡ false
  pub fault : refused_seen e ≡ record { cause = BadForm; place = (token_at ts list).start }

-- the term of an annotation and its attributes by their tokens, or the fault of a list that is no annotation
abbrev pub AnnotatesAt : List Token → ℕ → Forms → Result (ℕ × ℕ) Fault → Type 0
AnnotatesAt ts list fs (Ok p) = Annotates ts fs p.0 p.1
AnnotatesAt ts list fs (Err e) = LacksAnnotation ts list fs e

-- what stands behind a keyword, or behind what is no keyword, can go on an attribute
abbrev pub attributes_from : Bool → Forms → Bool
attributes_from true fs = after_keyword fs
attributes_from false fs = after_attribute fs
