-- Names: which are among those of a text, which are reserved, and which a supply never gives.
use Rattle.std.proofs.Common.{◌≡◌, ℕ, true, List, [], Some, ◌≢◌, ◌∙◌, sym, ap, subst, refl, ◌==◌, Bool, false, not, cond, ◌&&◌, ◌||◌, ◌⊎◌, inl, inr, ◌∷◌, ◌++◌, Option, None}
use Rattle.std.specs.Prelude.{⊤, codes}
use Rattle.smt_lex.specs.Names.{Name, is_among, is_reserved, is_syntax_word, is_command_word, is_theory_name, is_reserved_for_declaring}
use Rattle.smt_lex.specs.Lex.{symbol_of}
use Rattle.smt_lex.specs.Forms.{Form, atom, node, Forms, none, ◌⨾◌}
use Rattle.smt_terms.specs.Free.{name_among}
use Rattle.std.specs.List.{list_all}
use Rattle.smt_terms.specs.Equal.{name_eq, symbol_eq}
use Rattle.smt_terms.specs.Sorts.{Sort, Symbol}
use Rattle.smt_terms.specs.Fresh.{Supply, next_name, NeverGives}
use Rattle.smt_terms.specs.Subst.{parameter}
use Rattle.smt_terms.specs.SubstLaws.{GivesNone, Later}
use Rattle.smt_terms.specs.Written.{Indexed, core_operators, number_operators, vector_operators, array_operators, named_in, or_else, operator_named}
use Rattle.smt_terms.proofs.Tests.{left_true, right_true, either_true, alike_from}
use Rattle.smt_terms.proofs.Equal.{Decides-name_eq, name_same, name_itself, Decides-symbol_eq}
use Rattle.smt_terms.proofs.Fresh.{never-next}
use Rattle.smt_terms.proofs.Cuts.{name_among-append}
use Rattle.smt_terms.proofs.Numeral.{numeral-injective}
use Rattle.script_terms.specs.TextNames.{with_name, names_with, names_with_all}

-- ---- forms and the names of a text

abbrev mutual
  -- each symbol of the form is among these names
  pub Within : List Name → Form → Type 0
  Within ns (atom t) = (n : Name) → symbol_of t ≡ Some n → name_among ns n ≡ true
  Within ns (node place fs) = AllWithin ns fs

  pub AllWithin : List Name → Forms → Type 0
  AllWithin ns none = ⊤
  AllWithin ns (f ⨾ fs) = Within ns f × AllWithin ns fs

-- ---- equal names

pub name_turned : (m n : Name) → name_eq m n ≡ name_eq n m
name_turned m n = alike_from (name_eq m n) (name_eq n m) (λ h. (Decides-name_eq n m).1 (sym (name_same m n h))) (λ h. (Decides-name_eq m n).1 (sym (name_same n m h)))

-- one test of membership is the other
pub among_alike : (ns : List Name) (n : Name) → is_among ns n ≡ name_among ns n
among_alike [] n = refl
among_alike (m ∷ ns) n = ap (λ b. b || is_among ns n) (name_turned n m) ∙ ap (λ b. name_eq m n || b) (among_alike ns n)

-- ---- the names of a text

pub among_more : (ns : List Name) (o : Option Name) (n : Name) → name_among ns n ≡ true → name_among (with_name ns o) n ≡ true
among_more ns None n h = h
among_more ns (Some m) n h = go (is_among ns m)
  where
    go : (b : Bool) → name_among (cond b ns (ns ++ m ∷ [])) n ≡ true
    go true = h
    go false = name_among-append ns (m ∷ []) n ∙ left_true (name_among ns n) (name_among (m ∷ []) n) h

pub among_new : (ns : List Name) (n : Name) → name_among (with_name ns (Some n)) n ≡ true
among_new ns n = go (is_among ns n) refl
  where
    go : (b : Bool) → is_among ns n ≡ b → name_among (cond b ns (ns ++ n ∷ [])) n ≡ true
    go true e = sym (among_alike ns n) ∙ e
    go false e = name_among-append ns (n ∷ []) n ∙ right_true (name_among ns n) (name_among (n ∷ []) n) (left_true (name_eq n n) false (name_itself n))

mutual
  pub kept_by_form : (f : Form) (ns : List Name) (n : Name) → name_among ns n ≡ true → name_among (names_with ns f) n ≡ true
  kept_by_form (atom t) ns n h = among_more ns (symbol_of t) n h
  kept_by_form (node place fs) ns n h = kept_by_forms fs ns n h

  pub kept_by_forms : (fs : Forms) (ns : List Name) (n : Name) → name_among ns n ≡ true → name_among (names_with_all ns fs) n ≡ true
  kept_by_forms none ns n h = h
  kept_by_forms (f ⨾ fs) ns n h = kept_by_forms fs (names_with ns f) n (kept_by_form f ns n h)

abbrev pub Wider : List Name → List Name → Type 0
Wider ms ns = (n : Name) → name_among ms n ≡ true → name_among ns n ≡ true

mutual
  pub within_wider : (f : Form) (ms ns : List Name) → Wider ms ns → Within ms f → Within ns f
  within_wider (atom t) ms ns w h = λ n e. w n (h n e)
  within_wider (node place fs) ms ns w h = all_wider fs ms ns w h

  pub all_wider : (fs : Forms) (ms ns : List Name) → Wider ms ns → AllWithin ms fs → AllWithin ns fs
  all_wider none ms ns w h = tt
  all_wider (f ⨾ fs) ms ns w h = (within_wider f ms ns w h.0, all_wider fs ms ns w h.1)

mutual
  own_names : (f : Form) (ns : List Name) → Within (names_with ns f) f
  own_names (atom t) ns = λ n e. ap (λ o. name_among (with_name ns o) n) e ∙ among_new ns n
  own_names (node place fs) ns = all_own fs ns

  all_own : (fs : Forms) (ns : List Name) → AllWithin (names_with_all ns fs) fs
  all_own none ns = tt
  all_own (f ⨾ fs) ns = (within_wider f (names_with ns f) (names_with_all (names_with ns f) fs) (λ n h. kept_by_forms fs (names_with ns f) n h) (own_names f ns), all_own fs (names_with ns f))

pub all_within_text : (fs : Forms) → AllWithin (names_with_all [] fs) fs
all_within_text fs = all_own fs []

-- ---- reserved names

named_passes : (test : Name → Bool) (ps : List (Name × Indexed)) (n : Name) (o : Indexed) → list_all (λ p. test p.0) ps ≡ true → named_in ps n ≡ Some o → test n ≡ true
named_passes test [] n o all h = absurd cc
named_passes test (p ∷ ps) n o all h = go (test p.0) refl (name_eq p.0 n) refl all h (λ k l. named_passes test ps n o k l)
  where
    go : (b : Bool) → test p.0 ≡ b → (c : Bool) → name_eq p.0 n ≡ c → (b && list_all (λ q. test q.0) ps) ≡ true → cond c (Some p.1) (named_in ps n) ≡ Some o → (list_all (λ q. test q.0) ps ≡ true → named_in ps n ≡ Some o → test n ≡ true) → test n ≡ true
    go true here true same all found below = ap test (sym (name_same p.0 n same)) ∙ here
    go true here false other all found below = below all found
    go false here c e all found below = absurd cc

core_reserved : list_all (λ (p : Name × Indexed). is_theory_name p.0) core_operators ≡ true
unfolding is_theory_name
core_reserved = refl

number_reserved : list_all (λ (p : Name × Indexed). is_theory_name p.0) number_operators ≡ true
unfolding is_theory_name
number_reserved = refl

vector_reserved : list_all (λ (p : Name × Indexed). is_theory_name p.0) vector_operators ≡ true
unfolding is_theory_name
vector_reserved = refl

array_reserved : list_all (λ (p : Name × Indexed). is_theory_name p.0) array_operators ≡ true
unfolding is_theory_name
array_reserved = refl

module _ (test : Name → Bool) where
  abbrev All_pass : List (Name × Indexed) → Type 0
  All_pass ps = list_all (λ p. test p.0) ps ≡ true

  operator_passes : All_pass core_operators → All_pass number_operators → All_pass vector_operators → All_pass array_operators → (n : Name) (o : Indexed) → operator_named n ≡ Some o → test n ≡ true
  unfolding operator_named
  operator_passes core number vector array n o h = go (named_in core_operators n) refl (named_in number_operators n) refl (named_in vector_operators n) refl h
    where
      go : (a : Option Indexed) → named_in core_operators n ≡ a → (b : Option Indexed) → named_in number_operators n ≡ b → (c : Option Indexed) → named_in vector_operators n ≡ c → or_else a (or_else b (or_else c (named_in array_operators n))) ≡ Some o → test n ≡ true
      go (Some x) ea b eb c ec found = named_passes test core_operators n x core ea
      go None ea (Some x) eb c ec found = named_passes test number_operators n x number eb
      go None ea None eb (Some x) ec found = named_passes test vector_operators n x vector ec
      go None ea None eb None ec found = named_passes test array_operators n o array found

pub operator_reserved : (n : Name) (o : Indexed) → operator_named n ≡ Some o → is_theory_name n ≡ true
operator_reserved n o h = operator_passes is_theory_name core_reserved number_reserved vector_reserved array_reserved n o h

-- no operator has the name of a reserved word

abbrev is_free : Name → Bool
is_free n = not (is_reserved n)

core_free : list_all (λ (p : Name × Indexed). is_free p.0) core_operators ≡ true
unfolding is_syntax_word is_command_word
core_free = refl

number_free : list_all (λ (p : Name × Indexed). is_free p.0) number_operators ≡ true
unfolding is_syntax_word is_command_word
number_free = refl

vector_free : list_all (λ (p : Name × Indexed). is_free p.0) vector_operators ≡ true
unfolding is_syntax_word is_command_word
vector_free = refl

array_free : list_all (λ (p : Name × Indexed). is_free p.0) array_operators ≡ true
unfolding is_syntax_word is_command_word
array_free = refl

pub turned_false : (b : Bool) → not b ≡ true → b ≡ false
turned_false false h = refl
turned_false true h = absurd cc

pub operator_free : (n : Name) (o : Indexed) → operator_named n ≡ Some o → is_reserved n ≡ false
operator_free n o h = turned_false (is_reserved n) (operator_passes is_free core_free number_free vector_free array_free n o h)

pub theory_reserved : (n : Name) → is_theory_name n ≡ true → is_reserved_for_declaring n ≡ true
unfolding is_reserved_for_declaring
theory_reserved n h = right_true _ (is_theory_name n) h

pub not_theory : (n : Name) → is_reserved_for_declaring n ≡ false → is_theory_name n ≡ false
not_theory n h = go (is_theory_name n) refl
  where
    go : (b : Bool) → is_theory_name n ≡ b → b ≡ false
    go true e = let both : is_reserved_for_declaring n ≡ true = theory_reserved n e in absurd cc
    go false e = refl

pub true_reserved : is_theory_name (codes "true") ≡ true
unfolding is_theory_name
true_reserved = refl

pub false_reserved : is_theory_name (codes "false") ≡ true
unfolding is_theory_name
false_reserved = refl

-- ---- the constants of parameters

pub parameter_reserved : (i : ℕ) (s : Sort) → is_reserved_for_declaring (parameter i s).name ≡ true
unfolding is_reserved_for_declaring
parameter_reserved i s = refl

begins_internal : List ℕ → Bool
begins_internal [] = false
begins_internal (n ∷ ns) = n == 64

true_not_false : true ≡ false → ⊥
true_not_false h = absurd cc

pub parameter_never : (i : ℕ) (s : Sort) (supply : Supply) → NeverGives supply (parameter i s).name
unfolding begins_internal
parameter_never i s supply j h e = absurd (true_not_false (ap begins_internal e))

tail_of : List ℕ → List ℕ
tail_of [] = []
tail_of (n ∷ ns) = ns

pub parameter_numbers : (i j : ℕ) (s t : Sort) → (parameter i s).name ≡ (parameter j t).name → i ≡ j
unfolding tail_of
parameter_numbers i j s t same = numeral-injective i j (ap (λ ns. tail_of (tail_of ns)) same)

pub parameters_apart : (i j : ℕ) (s t : Sort) → i ≢ j → symbol_eq (parameter i s) (parameter j t) ≡ false
unfolding tail_of
parameters_apart i j s t apart = go (symbol_eq (parameter i s) (parameter j t)) refl
  where
    go : (b : Bool) → symbol_eq (parameter i s) (parameter j t) ≡ b → b ≡ false
    go true e =
        let same : (parameter i s).name ≡ (parameter j t).name = ap (λ (g : Symbol). g.name) ((Decides-symbol_eq (parameter i s) (parameter j t)).0 e) in
        absurd (apart (numeral-injective i j (ap (λ ns. tail_of (tail_of ns)) same)))
    go false e = refl

-- ---- symbols

pub symbols_differ : (g h : Symbol) → g.name ≢ h.name → symbol_eq g h ≡ false
symbols_differ g h apart = go (symbol_eq g h) refl
  where
    go : (b : Bool) → symbol_eq g h ≡ b → b ≡ false
    go true e = absurd (apart (ap (λ (k : Symbol). k.name) ((Decides-symbol_eq g h).0 e)))
    go false e = refl

-- ---- names that a supply never gives

pub spared_later : (s t : Supply) (ns : List Name) → Later s t → GivesNone s ns → GivesNone t ns
spared_later s t ns later given n among = later n (given n among)

pub spared_both : (s : Supply) (ms ns : List Name) → GivesNone s ms → GivesNone s ns → GivesNone s (ms ++ ns)
spared_both s ms ns a b n among = go (either_true (name_among ms n) (name_among ns n) (sym (name_among-append ms ns n) ∙ among))
  where
    go : (name_among ms n ≡ true) ⊎ (name_among ns n ≡ true) → NeverGives s n
    go (inl h) = a n h
    go (inr h) = b n h

pub spared_first : (s : Supply) (m : Name) (ns : List Name) → NeverGives s m → GivesNone s ns → GivesNone s (m ∷ ns)
spared_first s m ns never given n among = go (either_true (name_eq m n) (name_among ns n) among)
  where
    go : (name_eq m n ≡ true) ⊎ (name_among ns n ≡ true) → NeverGives s n
    go (inl h) = subst (NeverGives s) (name_same m n h) never
    go (inr h) = given n h

pub spared_none : (s : Supply) → GivesNone s []
spared_none s n among = absurd cc

pub drawn_outside : (s : Supply) (ns : List Name) → GivesNone s ns → name_among ns (next_name s) ≡ false
drawn_outside s ns given = go (name_among ns (next_name s)) refl
  where
    go : (b : Bool) → name_among ns (next_name s) ≡ b → b ≡ false
    go true e = absurd (never-next s (next_name s) (given (next_name s) e) refl)
    go false e = refl
