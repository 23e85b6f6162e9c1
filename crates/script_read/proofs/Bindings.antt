-- Reading a term binds the names that its form gives.
use Rattle.std.proofs.Common.{◌≡◌, ◌∙◌, sym, ap, subst, refl, ℕ, Bool, true, false, List, [], ◌∷◌, map, Result, Ok, Err, Option, Some, None}
use Rattle.std.specs.Prelude.{option_and_then, not}
use Rattle.smt_lex.specs.Names.{Name, is_reserved_for_declaring}
use Rattle.smt_lex.specs.Forms.{Form, atom, node, Forms, none, ◌⨾◌}
use Rattle.smt_terms.specs.Fresh.{Supply}
use Rattle.smt_terms.specs.Rank.{Fault as RankFault}
use Rattle.smt_terms.specs.Sorts.{Sort, bool, Variable}
use Rattle.smt_terms.specs.Term.{Term, quantified}
use Rattle.script_terms.specs.declared.causes.Cause.{Cause}
use Rattle.script_terms.specs.declared.causes.Cause.TheVariants.{WrongSort, BadForm, Redeclared, ReservedName}
use Rattle.script_terms.specs.Refusals.{Refused, unless, mapped}
use Rattle.script_terms.specs.Parts.{Opening, let_word, quantifier_word, annotation_word, index_word, head, opening, symbol_in, are_attributes, named_parts, place_of}
use Rattle.script_terms.specs.Heads.{Callee, written, array_of_sort, called, defined, operandless, expanded, applied, callee_of, atom_term, vector_constant}
use Rattle.script_read.specs.Laws.{LeadsTo}
use Rattle.script_read.specs.Mean.{accepted_or, quantified_variables}
use Rattle.script_terms.specs.Read.{Context, with_local, is_empty, let_name, below_quantifier, renamed, draws_names, has_sort, quantified_over, read, read_list, read_bindings, read_all, is_given, term_name, term_names, term_name_in, mentions_local, annotated, with_quantified, constant_names, name_drawn_if, is_taken}
use Rattle.script_terms.specs.Reading.{ReadLocal, lets_as, as_local, ReadBinding, named_as, as_bindings, Sofar, Reading, continued, ◌>>=◌, gives, refused_if, beside, by_live, binds, live_sorts}
use Rattle.script_read.specs.Scenes.{names_among, with_names, quantified_locals, naming, naming_list, naming_parts, naming_all}
use Rattle.script_terms.specs.Scope.{let_names, Binding, live_sort}
use Rattle.script_terms.specs.Variables.{quantifier_binder, variables_in}
use Rattle.script_terms.proofs.Outcomes.{and_then_ok, mapped_ok}

-- ---- readings one behind the other

pub then_leads : {A B : Type 0} (r : Result (A × Sofar) Refused) (next : A → Reading B) (mid final : List Binding) → LeadsTo r mid → ((a : A) (s : Sofar) → as_bindings s.live ≡ mid → LeadsTo (next a s) final) → LeadsTo (continued next r) final
then_leads (Ok p) next mid final h k = k p.0 p.1 h
then_leads (Err e) next mid final h k = tt

-- what live bindings or a rule decide
pub decided : {A B : Type 0} (r : Result A Refused) (next : A → Reading B) (s : Sofar) (final : List Binding) → ((a : A) → r ≡ Ok a → LeadsTo (next a s) final) → LeadsTo (continued next (beside s r)) final
decided (Ok a) next s final k = k a refl
decided (Err e) next s final k = tt

pub decided_last : {A : Type 0} (r : Result A Refused) (s : Sofar) → LeadsTo (beside s r) (as_bindings s.live)
decided_last (Ok a) s = refl
decided_last (Err e) s = tt

pub unless_refused : {A : Type 0} (b : Bool) (cause : Cause) (place : ℕ) (next : Reading A) (s : Sofar) (final : List Binding) → LeadsTo (next s) final → LeadsTo (refused_if b cause place next s) final
unless_refused true cause place next s final h = tt
unless_refused false cause place next s final h = h

-- ---- applications bind nothing

pub expanded_leads : (place : ℕ) (xs : List Variable) (t : Term) (ts : List Term) (r : Result Sort RankFault) (s : Sofar) → LeadsTo (expanded place xs t ts r s) (as_bindings s.live)
expanded_leads place xs t ts (Ok to) s = refl
expanded_leads place xs t ts (Err e) s = tt

pub applied_leads : (callee : Callee) (place : ℕ) (ts : List Term) (s : Sofar) → LeadsTo (applied callee place ts s) (as_bindings s.live)
applied_leads (written w) place ts s = decided_last _ s
applied_leads (array_of_sort to) place ts s = decided_last _ s
applied_leads (called f) place ts s = decided_last _ s
applied_leads (defined xs t) place ts s = expanded_leads place xs t ts _ s
applied_leads operandless place ts s = tt

-- ---- quantified names

drawn_first : (b : Bool) (x : Variable) (xs : List Variable) (s : Supply) (taken : Name → Bool) (ls : List ReadLocal) → ((s' : Supply) (ks : List ReadLocal) → map as_local (with_quantified xs (constant_names taken xs s').0 ks) ≡ quantified_locals xs (map as_local ks)) → map as_local (with_quantified (x ∷ xs) (name_drawn_if b x.name s (λ s'. constant_names taken xs s')).0 ls) ≡ quantified_locals (x ∷ xs) (map as_local ls)
drawn_first true x xs s taken ls h = h _ _
drawn_first false x xs s taken ls h = h _ _

pub locals_agree : (xs : List Variable) (taken : Name → Bool) (s : Supply) (ls : List ReadLocal) → map as_local (with_quantified xs (constant_names taken xs s).0 ls) ≡ quantified_locals xs (map as_local ls)
locals_agree [] taken s ls = refl
locals_agree (x ∷ xs) taken s ls = drawn_first (taken x.name) x xs s taken ls (λ s' ks. locals_agree xs taken s' ks)

-- ---- names of terms

-- two tests before a name
name_behind_tests : (a b : Bool) (c d : Cause) (place : ℕ) (m n : Name) → unless a c place (unless b d place (Ok m)) ≡ Ok n → m ≡ n
name_behind_tests true b c d place m n h = absurd (cc)
name_behind_tests false true c d place m n h = absurd (cc)
name_behind_tests false false c d place m n h = cc

term_name_ok : (live : List ReadBinding) (defines : Option Name) (earlier : List Name) (place : ℕ) (o : Option Name) (n : Name) → term_name live defines earlier place o ≡ Ok n → o ≡ Some n
term_name_ok live defines earlier place None n h = absurd (cc)
term_name_ok live defines earlier place (Some m) n h =
    ap Some (name_behind_tests (is_reserved_for_declaring m) (is_given live defines earlier m) ReservedName Redeclared place m n h)

term_name_in_ok : (live : List ReadBinding) (defines : Option Name) (earlier : List Name) (place : ℕ) (p : Option Form) (n : Name) → term_name_in live defines earlier place p ≡ Ok n → option_and_then symbol_in p ≡ Some n
term_name_in_ok live defines earlier place None n h = absurd (cc)
term_name_in_ok live defines earlier place (Some f) n h = term_name_ok live defines earlier (place_of f) (symbol_in f) n h

one_more : (o : Option Name) (p : Option Form) (ps : List (Option Form)) (n : Name) (ns : List Name) → option_and_then symbol_in p ≡ Some n → ns ≡ names_among ps → n ∷ ns ≡ names_among (p ∷ ps)
one_more o p ps n ns h k = rw h (ap (λ ms. n ∷ ms) k)

pub term_names_ok : (defines : Option Name) (place : ℕ) (earlier : List Name) (ps : List (Option Form)) (live : List ReadBinding) (ns : List Name) → term_names defines place earlier ps live ≡ Ok ns → ns ≡ names_among ps
term_names_ok defines place earlier [] live ns h = cc
term_names_ok defines place earlier (p ∷ ps) live ns h =
    let (n, here, rest) = and_then_ok (λ n. mapped (λ ns. n ∷ ns) (term_names defines place (n ∷ earlier) ps live)) (term_name_in live defines earlier place p) ns h in
    let (ms, behind, all) = mapped_ok (λ ns. n ∷ ns) (term_names defines place (n ∷ earlier) ps live) ns rest in
    sym all ∙ one_more None p ps n ms (term_name_in_ok live defines earlier place p n here) (term_names_ok defines place (n ∷ earlier) ps live ms behind)

pub annotated_leads : (place : ℕ) (c : Context) (f : Form) (t : Term) (ns : List Name) (s : Sofar) → LeadsTo (annotated place c f t ns s) (with_names ns f (map as_local c.locals) (as_bindings s.live))
annotated_leads place c f t [] s = refl
annotated_leads place c f t (n ∷ ns) s =
    unless_refused (mentions_local c.locals t) BadForm place (binds (named_as (n ∷ ns) f t c.locals) t) s
    (with_names (n ∷ ns) f (map as_local c.locals) (as_bindings s.live)) refl

-- ---- what a form leads to, of bindings that are the same

moved : {A : Type 0} (r : Result (A × Sofar) Refused) (names : List Binding → List Binding) (x mid : List Binding) → x ≡ mid → LeadsTo r (names x) → LeadsTo r (names mid)
moved r names x mid e h = subst (λ bs. LeadsTo r (names bs)) e h

at_last : {A : Type 0} (r : Result A Refused) (s : Sofar) (mid : List Binding) → as_bindings s.live ≡ mid → LeadsTo (beside s r) mid
at_last r s mid e = subst (λ bs. LeadsTo (beside s r) bs) e (decided_last r s)

annotated_behind : (place : ℕ) (c : Context) (f : Form) (t : Term) (ns qs : List Name) (s : Sofar) (mid : List Binding) → ns ≡ qs → as_bindings s.live ≡ mid → LeadsTo (annotated place c f t ns s) (with_names qs f (map as_local c.locals) mid)
annotated_behind place c f t ns qs s mid same e =
    subst (λ bs. LeadsTo (annotated place c f t ns s) (with_names qs f (map as_local c.locals) bs)) e
    (subst (λ ms. LeadsTo (annotated place c f t ns s) (with_names ms f (map as_local c.locals) (as_bindings s.live))) same (annotated_leads place c f t ns s))

applied_behind : (callee : Callee) (place : ℕ) (ts : List Term) (s : Sofar) (mid : List Binding) → as_bindings s.live ≡ mid → LeadsTo (applied callee place ts s) mid
applied_behind callee place ts s mid e = subst (λ bs. LeadsTo (applied callee place ts s) bs) e (applied_leads callee place ts s)

-- the names that the variables of a quantifier are read as, and what is known behind them
abbrev names_for : Context → List Variable → Sofar → List Name × Supply
names_for c xs s = constant_names (is_taken c.locals s.live) xs s.supply

abbrev behind_names : Context → List Variable → Sofar → Sofar
behind_names c xs s = record s { supply = (names_for c xs s).1 }

-- the locals below a quantifier, without terms
below : (c : Context) (s : Sofar) (bs : Forms) (xs : List Variable) → variables_in quantifier_binder (live_sorts s.live) [] bs ≡ Ok xs → map as_local (with_quantified xs (names_for c xs s).0 c.locals) ≡ quantified_locals (quantified_variables (live_sort (as_bindings s.live)) bs) (map as_local c.locals)
below c s bs xs h =
    locals_agree xs (is_taken c.locals s.live) s.supply c.locals ∙ ap (λ ys. quantified_locals ys (map as_local c.locals)) (sym (ap (accepted_or []) h))

-- ---- terms

mutual
  pub read_leads : (f : Form) (c : Context) (s : Sofar) → LeadsTo (read f c s) (naming f (map as_local c.locals) (as_bindings s.live))
  read_leads (atom t) c s = decided_last (atom_term c.locals t s.live) s
  read_leads (node place none) c s = tt
  read_leads (node place (f ⨾ fs)) c s = list_leads (opening f) fs place c s

  list_leads : (o : Opening) (fs : Forms) (place : ℕ) (c : Context) (s : Sofar) → LeadsTo (read_list o fs place c s) (naming_list o fs (map as_local c.locals) (as_bindings s.live))
  list_leads let_word (node part bs ⨾ body ⨾ none) place c s =
      unless_refused (is_empty bs) BadForm place (read_bindings bs [] c >>= (λ ts. read body (with_local (lets_as bs ts) c))) s
      (naming body (let_names bs ∷ map as_local c.locals) (naming_parts bs (map as_local c.locals) (as_bindings s.live)))
      (then_leads (read_bindings bs [] c s) (λ ts. read body (with_local (lets_as bs ts) c))
      (naming_parts bs (map as_local c.locals) (as_bindings s.live))
      (naming body (let_names bs ∷ map as_local c.locals) (naming_parts bs (map as_local c.locals) (as_bindings s.live)))
      (bindings_lead bs [] c s)
      (λ ts s' e. moved (read body (with_local (lets_as bs ts) c) s') (naming body (let_names bs ∷ map as_local c.locals)) (as_bindings s'.live)
      (naming_parts bs (map as_local c.locals) (as_bindings s.live)) e (read_leads body (with_local (lets_as bs ts) c) s')))
  list_leads let_word _ place c s = tt
  list_leads (quantifier_word q) (node part bs ⨾ body ⨾ none) place c s =
      let final : List Binding = naming body (quantified_locals (quantified_variables (live_sort (as_bindings s.live)) bs) (map as_local c.locals)) (as_bindings s.live) in
      let sorted : List Variable → Reading Term = λ xs. draws_names c xs >>= (λ ns. read body (below_quantifier xs ns c) >>= (λ t. quantified_over place q (renamed xs ns) t)) in
      unless_refused (is_empty bs) BadForm place (by_live (λ live. variables_in quantifier_binder (live_sorts live) [] bs) >>= sorted) s final
      (decided (variables_in quantifier_binder (live_sorts s.live) [] bs) sorted s final (λ xs h.
      then_leads (read body (below_quantifier xs (names_for c xs s).0 c) (behind_names c xs s)) (λ t. quantified_over place q (renamed xs (names_for c xs s).0) t) final final
      (subst (λ ks. LeadsTo (read body (below_quantifier xs (names_for c xs s).0 c) (behind_names c xs s)) (naming body ks (as_bindings s.live))) (below c s bs xs h)
      (read_leads body (below_quantifier xs (names_for c xs s).0 c) (behind_names c xs s)))
      (λ t s' e. at_last (unless (not (has_sort bool t)) WrongSort place (Ok (quantified q (renamed xs (names_for c xs s).0) t))) s' final e)))
  list_leads (quantifier_word q) _ place c s = tt
  list_leads annotation_word (f ⨾ attributes) place c s =
      let final : List Binding = with_names (names_among (named_parts attributes)) f (map as_local c.locals) (naming f (map as_local c.locals) (as_bindings s.live)) in
      let named : Term → Reading Term = λ t. by_live (term_names c.defines place [] (named_parts attributes)) >>= (λ ns. annotated place c f t ns) in
      unless_refused (not (are_attributes attributes)) BadForm place (read f c >>= named) s final
      (then_leads (read f c s) named (naming f (map as_local c.locals) (as_bindings s.live)) final (read_leads f c s) (λ t s' e.
      decided (term_names c.defines place [] (named_parts attributes) s'.live) (λ ns. annotated place c f t ns) s' final (λ ns h.
      annotated_behind place c f t ns (names_among (named_parts attributes)) s' (naming f (map as_local c.locals) (as_bindings s.live))
      (term_names_ok c.defines place [] (named_parts attributes) s'.live ns h) e)))
  list_leads annotation_word none place c s = tt
  list_leads index_word fs place c s = decided_last (vector_constant place fs) s
  list_leads (head f) (g ⨾ gs) place c s =
      let mid : List Binding = naming g (map as_local c.locals) (as_bindings s.live) in
      let final : List Binding = naming_all gs (map as_local c.locals) mid in
      decided (callee_of c.locals f s.live) (λ callee. read g c >>= (λ t. read_all gs c >>= (λ ts. applied callee place (t ∷ ts)))) s final (λ callee _.
      then_leads (read g c s) (λ t. read_all gs c >>= (λ ts. applied callee place (t ∷ ts))) mid final (read_leads g c s) (λ t s' e.
      then_leads (read_all gs c s') (λ ts. applied callee place (t ∷ ts)) final final
      (moved (read_all gs c s') (naming_all gs (map as_local c.locals)) (as_bindings s'.live) mid e (all_lead gs c s'))
      (λ ts s'' e'. applied_behind callee place (t ∷ ts) s'' final e')))
  list_leads (head f) none place c s = tt

  bindings_lead : (fs : Forms) (earlier : List Name) (c : Context) (s : Sofar) → LeadsTo (read_bindings fs earlier c s) (naming_parts fs (map as_local c.locals) (as_bindings s.live))
  bindings_lead none earlier c s = refl
  bindings_lead (node part (x ⨾ f ⨾ none) ⨾ bs) earlier c s =
      let mid : List Binding = naming f (map as_local c.locals) (as_bindings s.live) in
      let final : List Binding = naming_parts bs (map as_local c.locals) mid in
      decided (let_name earlier part (place_of x) (symbol_in x)) (λ n. read f c >>= (λ t. read_bindings bs (n ∷ earlier) c >>= (λ ts. gives ((n, t) ∷ ts)))) s final (λ n _.
      then_leads (read f c s) (λ t. read_bindings bs (n ∷ earlier) c >>= (λ ts. gives ((n, t) ∷ ts))) mid final (read_leads f c s) (λ t s' e.
      then_leads (read_bindings bs (n ∷ earlier) c s') (λ ts. gives ((n, t) ∷ ts)) final final
      (moved (read_bindings bs (n ∷ earlier) c s') (naming_parts bs (map as_local c.locals)) (as_bindings s'.live) mid e (bindings_lead bs (n ∷ earlier) c s'))
      (λ ts s'' e'. e')))
  bindings_lead (f ⨾ bs) earlier c s = tt

  all_lead : (fs : Forms) (c : Context) (s : Sofar) → LeadsTo (read_all fs c s) (naming_all fs (map as_local c.locals) (as_bindings s.live))
  all_lead none c s = refl
  all_lead (f ⨾ fs) c s =
      then_leads (read f c s) (λ t. read_all fs c >>= (λ ts. gives (t ∷ ts))) (naming f (map as_local c.locals) (as_bindings s.live))
      (naming_all fs (map as_local c.locals) (naming f (map as_local c.locals) (as_bindings s.live))) (read_leads f c s)
      (λ t s' e. then_leads (read_all fs c s') (λ ts. gives (t ∷ ts)) (naming_all fs (map as_local c.locals) (naming f (map as_local c.locals) (as_bindings s.live)))
      (naming_all fs (map as_local c.locals) (naming f (map as_local c.locals) (as_bindings s.live)))
      (moved (read_all fs c s') (naming_all fs (map as_local c.locals)) (as_bindings s'.live) (naming f (map as_local c.locals) (as_bindings s.live)) e (all_lead fs c s'))
      (λ ts s'' e'. e'))
