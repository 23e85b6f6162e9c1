-- The name that a command defines is given to no term in its body.
use Rattle.std.proofs.Common.{◌≡◌, ◌∙◌, sym, ap, subst, refl, ℕ, Bool, true, false, ◌||◌, List, [], ◌∷◌, Result, Ok, Err, Option, Some, None}
use Rattle.std.specs.Prelude.{bytes_eq, is_some, not}
use Rattle.smt_lex.specs.Names.{Name, is_among, is_reserved_for_declaring}
use Rattle.smt_lex.specs.Forms.{Form, atom, node, Forms, none, ◌⨾◌}
use Rattle.smt_terms.specs.Equal.{name_eq}
use Rattle.smt_terms.specs.Fresh.{Supply}
use Rattle.smt_terms.specs.Rank.{Fault as RankFault}
use Rattle.smt_terms.specs.Sorts.{Sort, bool, Variable}
use Rattle.smt_terms.specs.Term.{Term, quantified}
use Rattle.smt_terms.proofs.Tests.{both_false}
use Rattle.script_terms.specs.declared.causes.Cause.{Cause}
use Rattle.script_terms.specs.declared.causes.Cause.TheVariants.{WrongSort, BadForm, Redeclared, ReservedName}
use Rattle.script_terms.specs.Refusals.{Refused, unless, mapped}
use Rattle.script_terms.specs.Parts.{Opening, let_word, quantifier_word, annotation_word, index_word, head, opening, symbol_in, are_attributes, named_parts, place_of}
use Rattle.script_terms.specs.Heads.{Callee, written, array_of_sort, called, defined, operandless, expanded, applied, callee_of, atom_term, vector_constant}
use Rattle.script_terms.specs.Read.{Context, with_local, is_empty, let_name, below_quantifier, renamed, draws_names, has_sort, quantified_over, read, read_list, read_bindings, read_all, is_the, is_given, term_name, term_name_in, term_names, mentions_local, annotated, constant_names, is_taken}
use Rattle.script_terms.specs.Reading.{lets_as, ReadBinding, named_as, Sofar, term_entry, entry_of, Reading, continued, ◌>>=◌, gives, refused_if, beside, by_live, binds, live_sorts}
use Rattle.script_terms.specs.Scope.{or_later}
use Rattle.script_terms.specs.Variables.{quantifier_binder, variables_in}
use Rattle.script_terms.proofs.Outcomes.{and_then_ok, mapped_ok, ok_same}
use Rattle.script_terms.proofs.SortFacts.{unless_passed}

module _ (n : Name) where
  -- ---- names of an annotation

  name_apart : (live : List ReadBinding) (earlier : List Name) (place : ℕ) (o : Option Name) (k : Name) → term_name live (Some n) earlier place o ≡ Ok k → bytes_eq n k ≡ false
  name_apart live earlier place None k h = absurd (cc)
  name_apart live earlier place (Some j) k h =
      let (allowed, next) = unless_passed (is_reserved_for_declaring j) ReservedName place (unless (is_given live (Some n) earlier j) Redeclared place (Ok j)) k h in
      let (ungiven, last) = unless_passed (is_given live (Some n) earlier j) Redeclared place (Ok j) k next in
      let other : name_eq n j ≡ false = (both_false (is_among earlier j) (is_the (Some n) j) (both_false (is_some (entry_of live j)) (is_among earlier j || is_the (Some n) j) ungiven).1).1 in
      let same : j ≡ k = ok_same j k (Ok j) refl last in
      ap (λ m. name_eq n m) (sym same) ∙ other

  name_apart_in : (live : List ReadBinding) (earlier : List Name) (place : ℕ) (p : Option Form) (k : Name) → term_name_in live (Some n) earlier place p ≡ Ok k → bytes_eq n k ≡ false
  name_apart_in live earlier place None k h = absurd (cc)
  name_apart_in live earlier place (Some f) k h = name_apart live earlier (place_of f) (symbol_in f) k h

  neither : (a b : Bool) → a ≡ false → b ≡ false → (a || b) ≡ false
  neither true b h k = h
  neither false b h k = k

  names_apart : (live : List ReadBinding) (place : ℕ) (earlier : List Name) (ps : List (Option Form)) (ns : List Name) → term_names (Some n) place earlier ps live ≡ Ok ns → is_among ns n ≡ false
  names_apart live place earlier [] ns h = ap (λ ms. is_among ms n) (sym (ok_same [] ns (Ok []) refl h))
  names_apart live place earlier (p ∷ ps) ns h =
      let (k, here, rest) = and_then_ok (λ k. mapped (λ ks. k ∷ ks) (term_names (Some n) place (k ∷ earlier) ps live)) (term_name_in live (Some n) earlier place p) ns h in
      let (ks, behind, all) = mapped_ok (λ ks. k ∷ ks) (term_names (Some n) place (k ∷ earlier) ps live) ns rest in
      ap (λ ms. is_among ms n) (sym all) ∙ neither (bytes_eq n k) (is_among ks n) (name_apart_in live earlier place p k here) (names_apart live place (k ∷ earlier) ps ks behind)

  -- ---- readings

  abbrev Free : Sofar → Type 0
  Free s = entry_of s.live n ≡ None

  abbrev StaysFree : {A : Type 0} → Result (A × Sofar) Refused → Type 0
  StaysFree (Ok p) = Free p.1
  StaysFree (Err e) = Unit {0}

  then_free : {A B : Type 0} (r : Result (A × Sofar) Refused) (next : A → Reading B) → StaysFree r → ((a : A) (s : Sofar) → Free s → StaysFree (next a s)) → StaysFree (continued next r)
  then_free (Ok p) next free k = k p.0 p.1 free
  then_free (Err e) next free k = tt

  decided_free : {A B : Type 0} (r : Result A Refused) (next : A → Reading B) (s : Sofar) → ((a : A) → r ≡ Ok a → StaysFree (next a s)) → StaysFree (continued next (beside s r))
  decided_free (Ok a) next s k = k a refl
  decided_free (Err e) next s k = tt

  last_free : {A : Type 0} (r : Result A Refused) (s : Sofar) → Free s → StaysFree (beside s r)
  last_free (Ok a) s free = free
  last_free (Err e) s free = tt

  unless_free : {A : Type 0} (b : Bool) (cause : Cause) (place : ℕ) (next : Reading A) (s : Sofar) → StaysFree (next s) → StaysFree (refused_if b cause place next s)
  unless_free true cause place next s free = tt
  unless_free false cause place next s free = free

  expanded_free : (place : ℕ) (xs : List Variable) (t : Term) (ts : List Term) (r : Result Sort RankFault) (s : Sofar) → Free s → StaysFree (expanded place xs t ts r s)
  expanded_free place xs t ts (Ok to) s free = free
  expanded_free place xs t ts (Err e) s free = tt

  applied_free : (callee : Callee) (place : ℕ) (ts : List Term) (s : Sofar) → Free s → StaysFree (applied callee place ts s)
  applied_free (written w) place ts s free = last_free _ s free
  applied_free (array_of_sort to) place ts s free = last_free _ s free
  applied_free (called f) place ts s free = last_free _ s free
  applied_free (defined xs t) place ts s free = expanded_free place xs t ts _ s free
  applied_free operandless place ts s free = tt

  other_entry : (b : Bool) (t : Term) (live : List ReadBinding) → b ≡ false → entry_of live n ≡ None → or_later b (term_entry t) (entry_of live n) ≡ None
  other_entry true t live apart free = absurd (cc)
  other_entry false t live apart free = free

  annotated_free : (place : ℕ) (c : Context) (f : Form) (t : Term) (ns : List Name) (s : Sofar) → is_among ns n ≡ false → Free s → StaysFree (annotated place c f t ns s)
  annotated_free place c f t [] s apart free = free
  annotated_free place c f t (m ∷ ms) s apart free =
      unless_free (mentions_local c.locals t) BadForm place (binds (named_as (m ∷ ms) f t c.locals) t) s (other_entry (is_among (m ∷ ms) n) t s.live apart free)

  given_free : (c : Context) (place : ℕ) (f : Form) (t : Term) (ps : List (Option Form)) (s : Sofar) (ns : List Name) → c.defines ≡ Some n → Free s → term_names c.defines place [] ps s.live ≡ Ok ns → StaysFree (annotated place c f t ns s)
  given_free c place f t ps s ns defines free h =
      annotated_free place c f t ns s (names_apart s.live place [] ps ns (ap (λ d. term_names d place [] ps s.live) (sym defines) ∙ h)) free

  mutual
    pub read_free : (f : Form) (c : Context) (s : Sofar) → c.defines ≡ Some n → Free s → StaysFree (read f c s)
    read_free (atom t) c s defines free = last_free (atom_term c.locals t s.live) s free
    read_free (node place none) c s defines free = tt
    read_free (node place (f ⨾ fs)) c s defines free = list_free (opening f) fs place c s defines free

    list_free : (o : Opening) (fs : Forms) (place : ℕ) (c : Context) (s : Sofar) → c.defines ≡ Some n → Free s → StaysFree (read_list o fs place c s)
    list_free let_word (node part bs ⨾ body ⨾ none) place c s defines free =
        unless_free (is_empty bs) BadForm place (read_bindings bs [] c >>= (λ ts. read body (with_local (lets_as bs ts) c))) s
        (then_free (read_bindings bs [] c s) (λ ts. read body (with_local (lets_as bs ts) c)) (bindings_free bs [] c s defines free)
        (λ ts s' free'. read_free body (with_local (lets_as bs ts) c) s' defines free'))
    list_free let_word _ place c s defines free = tt
    list_free (quantifier_word q) (node part bs ⨾ body ⨾ none) place c s defines free =
        let sorted : List Variable → Reading Term = λ xs. draws_names c xs >>= (λ ns. read body (below_quantifier xs ns c) >>= (λ t. quantified_over place q (renamed xs ns) t)) in
        unless_free (is_empty bs) BadForm place (by_live (λ live. variables_in quantifier_binder (live_sorts live) [] bs) >>= sorted) s
        (decided_free (variables_in quantifier_binder (live_sorts s.live) [] bs) sorted s (λ xs h.
        let drawn : List Name × Supply = constant_names (is_taken c.locals s.live) xs s.supply in
        let left : Sofar = record s { supply = drawn.1 } in
        then_free (read body (below_quantifier xs drawn.0 c) left) (λ t. quantified_over place q (renamed xs drawn.0) t)
        (read_free body (below_quantifier xs drawn.0 c) left defines free)
        (λ t s' free'. last_free (unless (not (has_sort bool t)) WrongSort place (Ok (quantified q (renamed xs drawn.0) t))) s' free')))
    list_free (quantifier_word q) _ place c s defines free = tt
    list_free annotation_word (f ⨾ attributes) place c s defines free =
        let named : Term → Reading Term = λ t. by_live (term_names c.defines place [] (named_parts attributes)) >>= (λ ns. annotated place c f t ns) in
        unless_free (not (are_attributes attributes)) BadForm place (read f c >>= named) s
        (then_free (read f c s) named (read_free f c s defines free) (λ t s' free'.
        decided_free (term_names c.defines place [] (named_parts attributes) s'.live) (λ ns. annotated place c f t ns) s' (λ ns h.
        given_free c place f t (named_parts attributes) s' ns defines free' h)))
    list_free annotation_word none place c s defines free = tt
    list_free index_word fs place c s defines free = last_free (vector_constant place fs) s free
    list_free (head f) (g ⨾ gs) place c s defines free =
        decided_free (callee_of c.locals f s.live) (λ callee. read g c >>= (λ t. read_all gs c >>= (λ ts. applied callee place (t ∷ ts)))) s (λ callee _.
        then_free (read g c s) (λ t. read_all gs c >>= (λ ts. applied callee place (t ∷ ts))) (read_free g c s defines free) (λ t s' free'.
        then_free (read_all gs c s') (λ ts. applied callee place (t ∷ ts)) (all_free gs c s' defines free')
        (λ ts s'' free''. applied_free callee place (t ∷ ts) s'' free'')))
    list_free (head f) none place c s defines free = tt

    bindings_free : (fs : Forms) (earlier : List Name) (c : Context) (s : Sofar) → c.defines ≡ Some n → Free s → StaysFree (read_bindings fs earlier c s)
    bindings_free none earlier c s defines free = free
    bindings_free (node part (x ⨾ f ⨾ none) ⨾ bs) earlier c s defines free =
        decided_free (let_name earlier part (place_of x) (symbol_in x)) (λ m. read f c >>= (λ t. read_bindings bs (m ∷ earlier) c >>= (λ ts. gives ((m, t) ∷ ts)))) s (λ m _.
        then_free (read f c s) (λ t. read_bindings bs (m ∷ earlier) c >>= (λ ts. gives ((m, t) ∷ ts))) (read_free f c s defines free) (λ t s' free'.
        then_free (read_bindings bs (m ∷ earlier) c s') (λ ts. gives ((m, t) ∷ ts)) (bindings_free bs (m ∷ earlier) c s' defines free')
        (λ ts s'' free''. free'')))
    bindings_free (f ⨾ bs) earlier c s defines free = tt

    all_free : (fs : Forms) (c : Context) (s : Sofar) → c.defines ≡ Some n → Free s → StaysFree (read_all fs c s)
    all_free none c s defines free = free
    all_free (f ⨾ fs) c s defines free =
        then_free (read f c s) (λ t. read_all fs c >>= (λ ts. gives (t ∷ ts))) (read_free f c s defines free)
        (λ t s' free'. then_free (read_all fs c s') (λ ts. gives (t ∷ ts)) (all_free fs c s' defines free') (λ ts s'' free''. free''))

  -- a body that was read leaves the name free
  pub body_free : (f : Form) (c : Context) (s left : Sofar) (t : Term) → c.defines ≡ Some n → entry_of s.live n ≡ None → read f c s ≡ Ok (t, left) → entry_of left.live n ≡ None
  body_free f c s left t defines free given = subst StaysFree given (read_free f c s defines free)
