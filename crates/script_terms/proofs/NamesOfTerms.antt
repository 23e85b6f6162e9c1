-- The names that an annotation gives a term, one after the other.
use Rattle.std.proofs.Common.{◌≡◌, true≢false, ℕ, Bool, true, false, ◌||◌, List, [], ◌∷◌, ◌++◌, reverse, All, Option, Some, None, Result, Ok, Err, refl, ap, sym, ◌∙◌, subst}
use Rattle.std.specs.Prelude.{is_some, codes}
use Rattle.std.proofs.lemmas.List.{append_assoc, append-nil}
use Rattle.std.proofs.lemmas.List.Elements.{All-nil, All-head, All-tail, All-cons}
use Rattle.smt_lex.specs.Forms.{Form, Forms, ◌⨾◌}
use Rattle.smt_lex.specs.Names.{Name, is_among, is_reserved_for_declaring}
use Rattle.smt_terms.specs.declared.ids.NodeId.{NodeId}
use Rattle.smt_terms.specs.Equal.{name_eq}
use Rattle.term_table.specs.Formulas.{Formulas, tree}
use Rattle.script_terms.specs.declared.scopes.Entry.{Entry}
use Rattle.script_terms.specs.declared.scopes.Entry.TheVariants.{Term as TermEntry}
use Rattle.script_terms.specs.Refusals.{Refused, at, mapped, and_then, unless}
use Rattle.script_terms.specs.Parts.{is_name, keyword_in, value_first, named_parts, place_of, symbol_in}
use Rattle.script_terms.specs.Reading.{ReadBinding, ReadLocal, named_as, entry_of, Sofar, continued, beside, refused_if, binds}
use Rattle.script_terms.specs.Scope.{or_later}
use Rattle.script_terms.specs.Read.{Context, is_the, term_name, term_name_in, term_names, annotated, mentions_local}
use Rattle.script_terms.specs.Known.{Scoping, IsOwnName, HasOwnName, find, with_entry, terms_shown, sorts_shown, terms_live, names_meant, Shows, IsScoping, IsScopedEntry, IsSpared}
use Rattle.script_terms.specs.TermClauses.{is_some_name, with_names, HasNames, naming, NamesGiven}
use Rattle.script_terms.specs.Replies.{Refuses}
use Rattle.script_terms.specs.declared.causes.Cause.TheVariants.{BadForm, Redeclared, ReservedName}
use Rattle.script_terms.specs.declared.faults.ReadFault.{ReadFault}
use Rattle.script_terms.specs.declared.faults.ReadFault.TheVariants.{Refused as RefusedFor, Memory}
use Rattle.smt_terms.specs.Fresh.{Supply}
use Rattle.smt_terms.specs.Term.{Term}
use Rattle.script_terms.proofs.NameFacts.{name_turned, not_theory}
use Rattle.script_terms.proofs.ScopeNames.{entry_live}
use Rattle.script_terms.proofs.Stepped.{reverse_push}

pub with_one_more : (ns : List Name) (n : Name) (k : NodeId) (s : Scoping) → with_names (ns ++ n ∷ []) k s ≡ with_entry n (TermEntry k) (with_names ns k s)
with_one_more [] n k s = refl
with_one_more (m ∷ ns) n k s = with_one_more ns n k (with_entry m (TermEntry k) s)

pub one_is_some : (ns : List Name) (n : Name) → is_some_name (ns ++ n ∷ []) ≡ true
one_is_some [] n = refl
one_is_some (m ∷ ns) n = refl

-- ---- the names of a scope

or_nothing : (b : Bool) → b ≡ (b || false)
or_nothing true = refl
or_nothing false = refl

pub has_live : (t : Formulas) (s : Scoping) (live : List ReadBinding) → terms_shown t s ≡ terms_live live → HasNames s live []
has_live t s live shown n = sym (entry_live t s live shown n) ∙ or_nothing (is_some (entry_of live n))

found_or : {A : Type 0} (here : Bool) (a : A) (later : Option A) (b e : Bool) → is_some later ≡ (b || e) → is_some (or_later here a later) ≡ (b || (here || e))
found_or true a later true e is = refl
found_or true a later false e is = refl
found_or false a later b e is = is

pub has_one_more : (s : Scoping) (live : List ReadBinding) (ns : List Name) (n : Name) (e : Entry) → HasNames s live (reverse ns) → HasNames (with_entry n e s) live (reverse (ns ++ n ∷ []))
has_one_more s live ns n e has m =
    found_or (name_eq n m) e (find s.terms m) (is_some (entry_of live m)) (is_among (reverse ns) m) (has m)
    ∙ ap (λ b. is_some (entry_of live m) || (b || is_among (reverse ns) m)) (name_turned n m)
    ∙ ap (λ es. is_some (entry_of live m) || is_among es m) (sym (reverse_push ns n))

-- ---- what is left of the attributes

module _ (f : Form) (fs : Forms) where
  pub unnamed_part : is_name (codes ":named") (keyword_in f) ≡ false → named_parts (f ⨾ fs) ≡ named_parts fs
  unnamed_part other = rw other refl

  pub named_part : is_name (codes ":named") (keyword_in f) ≡ true → named_parts (f ⨾ fs) ≡ value_first fs ∷ named_parts fs
  named_part is = rw is refl

pub mapped_from_none : (r : Result (List Name) Refused) → r ≡ mapped (λ ns. [] ++ ns) r
mapped_from_none (Ok ns) = refl
mapped_from_none (Err e) = refl

joined : (ns : List Name) (n : Name) (r : Result (List Name) Refused) → mapped (λ ms. ns ++ ms) (mapped (λ ms. n ∷ ms) r) ≡ mapped (λ ms. (ns ++ n ∷ []) ++ ms) r
joined ns n (Ok ms) = ap Ok (sym (append_assoc ns (n ∷ []) ms))
joined ns n (Err e) = refl

module _ (defines : Option Name) (place : ℕ) (live : List ReadBinding) (ns : List Name) (p : Option Form) (ps : List (Option Form)) where
  pub one_more_named : (n : Name) → term_name_in live defines (reverse ns) place p ≡ Ok n
      → mapped (λ ms. ns ++ ms) (term_names defines place (reverse ns) (p ∷ ps) live) ≡ mapped (λ ms. (ns ++ n ∷ []) ++ ms) (term_names defines place (reverse (ns ++ n ∷ [])) ps live)
  one_more_named n is =
      ap (λ r. mapped (λ ms. ns ++ ms) (and_then (λ m. mapped (λ ms. m ∷ ms) (term_names defines place (m ∷ reverse ns) ps live)) r)) is
      ∙ joined ns n (term_names defines place (n ∷ reverse ns) ps live)
      ∙ ap (λ es. mapped (λ ms. (ns ++ n ∷ []) ++ ms) (term_names defines place es ps live)) (sym (reverse_push ns n))

  pub name_refused : (e : Refused) → term_name_in live defines (reverse ns) place p ≡ Err e → mapped (λ ms. ns ++ ms) (term_names defines place (reverse ns) (p ∷ ps) live) ≡ Err e
  name_refused e is = ap (λ r. mapped (λ ms. ns ++ ms) (and_then (λ m. mapped (λ ms. m ∷ ms) (term_names defines place (m ∷ reverse ns) ps live)) r)) is

pub all_named : (ns : List Name) → mapped {E = Refused} (λ ms. ns ++ ms) (Ok []) ≡ Ok ns
all_named ns = ap Ok (append-nil ns)

-- none of them is one of the theories

name_own : (live : List ReadBinding) (defines : Option Name) (earlier : List Name) (place : ℕ) (o : Option Name) (n : Name) → term_name live defines earlier place o ≡ Ok n → IsOwnName n
name_own live defines earlier place None n is = absurd (cc)
name_own live defines earlier place (Some m) n is = by (is_reserved_for_declaring m) refl is
  where
    by : (b : Bool) → is_reserved_for_declaring m ≡ b → unless b ReservedName place (unless (is_some (entry_of live m) || (is_among earlier m || is_the defines m)) Redeclared place (Ok m)) ≡ Ok n → IsOwnName n
    by true reserved is = absurd (cc)
    by false free is = again (is_some (entry_of live m) || (is_among earlier m || is_the defines m)) is
      where
        again : (b : Bool) → unless b Redeclared place (Ok m) ≡ Ok n → IsOwnName n
        again true is = absurd (cc)
        again false is = let same : m ≡ n = cc in subst IsOwnName same (not_theory m free)

term_own : (live : List ReadBinding) (defines : Option Name) (earlier : List Name) (place : ℕ) (p : Option Form) (n : Name) → term_name_in live defines earlier place p ≡ Ok n → IsOwnName n
term_own live defines earlier place None n is = absurd (cc)
term_own live defines earlier place (Some f) n is = name_own live defines earlier (place_of f) (symbol_in f) n is

terms_own : (defines : Option Name) (place : ℕ) (live : List ReadBinding) (earlier : List Name) (ps : List (Option Form)) (ns : List Name) → term_names defines place earlier ps live ≡ Ok ns → All IsOwnName ns
terms_own defines place live earlier [] ns is = let same : [] ≡ ns = cc in subst (All IsOwnName) same (All-nil IsOwnName)
terms_own defines place live earlier (p ∷ ps) ns is =
    by (term_name_in live defines earlier place p) refl (λ n ms more. terms_own defines place live (n ∷ earlier) ps ms more) is
  where
    by : (r : Result Name Refused) → term_name_in live defines earlier place p ≡ r → ((n : Name) (ms : List Name) → term_names defines place (n ∷ earlier) ps live ≡ Ok ms → All IsOwnName ms) → and_then (λ n. mapped (λ ms. n ∷ ms) (term_names defines place (n ∷ earlier) ps live)) r ≡ Ok ns → All IsOwnName ns
    by (Err e) first later is = absurd (cc)
    by (Ok n) first later is = rest (term_names defines place (n ∷ earlier) ps live) refl is
      where
        rest : (q : Result (List Name) Refused) → term_names defines place (n ∷ earlier) ps live ≡ q → mapped (λ ms. n ∷ ms) q ≡ Ok ns → All IsOwnName ns
        rest (Err e) more is = absurd (cc)
        rest (Ok ms) more is =
            let same : n ∷ ms ≡ ns = cc in
            subst (All IsOwnName) same (All-cons IsOwnName n ms (term_own live defines earlier place p n first) (later n ms more))

-- ---- a term gets its names

names_shown : (t : Formulas) (ns : List Name) (k : NodeId) (s : Scoping) → terms_shown t (with_names ns k s) ≡ names_meant ns (tree t k) (terms_shown t s)
names_shown t [] k s = refl
names_shown t (n ∷ ns) k s = names_shown t ns k (with_entry n (TermEntry k) s)

names_sorts : (t : Formulas) (ns : List Name) (k : NodeId) (s : Scoping) → sorts_shown t (with_names ns k s) ≡ sorts_shown t s
names_sorts t [] k s = refl
names_sorts t (n ∷ ns) k s = names_sorts t ns k (with_entry n (TermEntry k) s)

names_numbers : (t : Formulas) (supply : Supply) (ns : List Name) (k : NodeId) (s : Scoping) → IsSpared t supply k → All IsOwnName ns → IsScoping t supply s → IsScoping t supply (with_names ns k s)
names_numbers t supply [] k s spared own is = is
names_numbers t supply (n ∷ ns) k s spared own is =
    names_numbers t supply ns k (with_entry n (TermEntry k) s) spared (All-tail IsOwnName n ns own)
    (record {
      terms = All-cons (IsScopedEntry t supply s.definitions) (Some (n, TermEntry k)) s.terms spared is.terms;
      names = All-cons HasOwnName (Some (n, TermEntry k)) s.terms (All-head IsOwnName n ns own) is.names;
      sorts = is.sorts;
      definitions = is.definitions;
    })

module _ (t : Formulas) (supply : Supply) (s : Scoping) (live : List ReadBinding) (shows : Shows t supply s live) (k : NodeId) (spared : IsSpared t supply k) where
  shows_named : (ns : List Name) (f : Form) (ls : List ReadLocal) → All IsOwnName ns → Shows t supply (with_names ns k s) (named_as ns f (tree t k) ls ∷ live)
  shows_named ns f ls own = record {
    terms = names_shown t ns k s ∙ ap (names_meant ns (tree t k)) shows.terms;
    sorts = names_sorts t ns k s ∙ shows.sorts;
    numbers = names_numbers t supply ns k s spared own shows.numbers;
  }

  module _ (place : ℕ) (attributes : Forms) (c : Context) (f : Form) where
    abbrev named : Result (Term × Sofar) Refused
    named = naming place attributes c f (tree t k) (record { live = live; supply = supply })

    abbrev names : Result (List Name) Refused
    names = term_names c.defines place [] (named_parts attributes) live

    names_first : (r : Result (List Name) Refused) → names ≡ r → named ≡ continued (annotated place c f (tree t k)) (beside (record { live = live; supply = supply }) r)
    names_first r is = ap (λ x. continued (annotated place c f (tree t k)) (beside (record { live = live; supply = supply }) x)) is

    pub naming_refused : (e : ReadFault) → Refuses names e → NamesGiven t supply s k named (Err e)
    naming_refused Memory refused = tt
    naming_refused (RefusedFor e) refused = names_first _ refused

    pub no_names : (ns : List Name) → names ≡ Ok ns → is_some_name ns ≡ false → NamesGiven t supply (with_names ns k s) k named (Ok tt)
    no_names [] is some = record { live = live; shows = shows; given = names_first _ is }
    no_names (n ∷ ns) is some = absurd (true≢false some)

    pub some_names : (ns : List Name) → names ≡ Ok ns → is_some_name ns ≡ true → mentions_local c.locals (tree t k) ≡ false → NamesGiven t supply (with_names ns k s) k named (Ok tt)
    some_names [] is some mentions = absurd (true≢false (sym some))
    some_names (n ∷ ns) is some mentions = record {
      live = named_as (n ∷ ns) f (tree t k) c.locals ∷ live;
      shows = shows_named (n ∷ ns) f c.locals (terms_own c.defines place live [] (named_parts attributes) (n ∷ ns) is);
      given = names_first _ is ∙ ap (λ b. refused_if b BadForm place (binds (named_as (n ∷ ns) f (tree t k) c.locals) (tree t k)) (record { live = live; supply = supply })) mentions;
    }

    pub names_mention : (ns : List Name) → names ≡ Ok ns → is_some_name ns ≡ true → mentions_local c.locals (tree t k) ≡ true → named ≡ at BadForm place
    names_mention [] is some mentions = absurd (true≢false (sym some))
    names_mention (n ∷ ns) is some mentions =
        names_first _ is ∙ ap (λ b. refused_if b BadForm place (binds (named_as (n ∷ ns) f (tree t k) c.locals) (tree t k)) (record { live = live; supply = supply })) mentions
