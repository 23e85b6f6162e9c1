-- What readers of terms are given, and what they answer.
use Rattle.std.specs.Prelude.{◌≡◌, ℕ, Bool, true, false, ◌||◌, is_some, List, [], ◌∷◌, Option, option_map, Result, Ok, Err}
use Rattle.smt_lex.specs.Lex.{Token}
use Rattle.smt_lex.specs.Names.{Name, is_among}
use Rattle.smt_terms.specs.declared.ids.NodeId.{NodeId}
use Rattle.smt_terms.specs.Fresh.{Supply}
use Rattle.smt_terms.specs.Term.{Term}
use Rattle.term_table.specs.Formulas.{Formulas, tree}
use Rattle.script_terms.specs.declared.faults.ReadFault.{ReadFault}
use Rattle.script_terms.specs.declared.scopes.Entry.TheVariants.{Term as TermEntry}
use Rattle.script_terms.specs.Refusals.{Refused}
use Rattle.script_terms.specs.Replies.{Refuses}
use Rattle.script_terms.specs.Reading.{ReadBinding, ReadLocal, entry_of, Sofar, Reading, by_live, ◌>>=◌}
use Rattle.script_terms.specs.Read.{Context, term_names, annotated}
use Rattle.script_terms.specs.Parts.{named_parts}
use Rattle.smt_lex.specs.Forms.{Form, Forms}
use Rattle.script_terms.specs.Known.{Scoping, find, with_entry, terms_shown, terms_live, Shows, IsSpared, Gives}
use Rattle.script_terms.specs.Bound.{LocalNames, ShowsLocals, name_at}

-- the name that a command defines, by its token
abbrev pub defined_name : List Token → Option ℕ → Option Name
defined_name ts i = option_map (name_at ts) i

-- what is known shows some bindings
pub record SomeKnown (t : Formulas) (s : Scoping) (ps : LocalNames) : Type 0 where
  pub supply : Supply
  pub live : List ReadBinding
  pub bound : List ReadLocal
  pub shows : Shows t supply s live
  pub shows_locals : ShowsLocals t supply ps bound

-- the answer is the term that no reading has to give
abbrev pub ReadsAlone : Formulas → Supply → Result Term Refused → Result NodeId ReadFault → Type 0
ReadsAlone t supply r (Ok k) = IsSpared t supply k × (r ≡ Ok (tree t k))
ReadsAlone t supply r (Err e) = Refuses r e

abbrev pub is_some_name : List Name → Bool
is_some_name [] = false
is_some_name (n ∷ ns) = true

-- the scope with these names of a term, the last one latest
abbrev pub with_names : List Name → NodeId → Scoping → Scoping
with_names [] k s = s
with_names (n ∷ ns) k s = with_names ns k (with_entry n (TermEntry k) s)

-- the answer tells whether there are names, and the scope has them; the names are what the live bindings give
abbrev pub NamesTerm : (List ReadBinding → Result (List Name) Refused) → NodeId → Scoping → Scoping → Result Bool ReadFault → Type 0
NamesTerm names k old new (Ok named) = (ns : List Name) × (new ≡ with_names ns k old) × (named ≡ is_some_name ns) × ((t : Formulas) (live : List ReadBinding) → terms_shown t old ≡ terms_live live → names live ≡ Ok ns)
NamesTerm names k old new (Err e) = (t : Formulas) (live : List ReadBinding) → terms_shown t old ≡ terms_live live → Refuses (names live) e

-- the names of the scope are the live ones and these of an annotation
abbrev pub HasNames : Scoping → List ReadBinding → List Name → Type 0
HasNames s live earlier = (n : Name) → is_some (find s.terms n) ≡ (is_some (entry_of live n) || is_among earlier n)

-- what an annotation at this place makes of the term of a form, which it may give names
abbrev pub naming : ℕ → Forms → Context → Form → Term → Reading Term
naming place attributes c f t = by_live (term_names c.defines place [] (named_parts attributes)) >>= λ ns. annotated place c f t ns

-- the reading gives the term of the node, and bindings that the scope shows
abbrev pub NamesGiven : Formulas → Supply → Scoping → NodeId → Result (Term × Sofar) Refused → Result (Unit {0}) ReadFault → Type 0
NamesGiven t supply s k r (Ok u) = Gives t s supply (tree t k) r
NamesGiven t supply s k r (Err e) = Refuses r e
