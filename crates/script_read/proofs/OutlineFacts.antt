-- What outlines tell of forms: a passed command stays one when it is written again, the name of a declared sort is one of
-- the text, and `(exit)` alone ends.
use Rattle.std.proofs.Common.{◌≡◌, ◌∙◌, sym, ap, subst, refl, ℕ, suc, Bool, true, false, cond, List, [], ◌∷◌, Option, Some, None, Ok}
use Rattle.std.specs.Prelude.{⊤, ◌&&◌, not, ◌||◌, codes, bytes_eq, option_map, if◌then◌else◌}
use Rattle.std.specs.List.{list_all}
use Rattle.smt_lex.specs.declared.items.Item.{Item}
use Rattle.smt_lex.specs.declared.items.Item.TheVariants.{Word}
use Rattle.smt_lex.specs.Names.{Name, is_command_word}
use Rattle.smt_lex.specs.Lex.{symbol_of}
use Rattle.smt_lex.specs.Forms.{Form, atom, node, Forms, none, ◌⨾◌, is_exit_word}
use Rattle.smt_lex.specs.FormText.{form_text}
use Rattle.smt_terms.specs.Free.{name_among}
use Rattle.smt_terms.proofs.Equal.{name_same}
use Rattle.script_terms.specs.declared.causes.Cause.TheVariants.{BadForm, UnknownCommand}
use Rattle.script_read.specs.Outlines.{At, CommandWord, set_logic_word, set_info_word, set_option_word, get_info_word, get_option_word, echo_word, get_model_word, declare_sort_word, define_sort_word, declare_const_word, declare_fun_word, define_fun_word, assert_word, check_sat_word, check_sat_assuming_word, push_word, pop_word, reset_word, reset_assertions_word, exit_word, command_table, word_among, supported, Outline, passing, global_option, sort_declaration, sort_definition, symbol_declaration, symbol_definition, assertion, checking, assuming, pushing, popping, resetting, resetting_assertions, ending, where_so, of_both, symbol_at, numeral_at, list_in, is_globals, option_shape, shape, shaped, outline_by, outline, is_passing, is_passing_alone, is_passed_text, placed as placed_part}
use Rattle.script_terms.specs.Parts.{place_of, is_symbol, word_by, word_in, keyword_in, is_keyword, is_text}
use Rattle.script_terms.specs.Refusals.{at, given}
use Rattle.script_terms.proofs.NameFacts.{Within, AllWithin}
use Rattle.script_read.proofs.FormTexts.{IsWritten, end_of, placed, placed_behind, forms_of_text}
use Rattle.script_terms.proofs.Outcomes.{given_ok}

-- ---- commands that are passed on, at other places

symbol_placed : (p : ℕ) (f : Form) → is_symbol (placed p f) ≡ is_symbol f
symbol_placed p (atom t) = refl
symbol_placed p (node place fs) = refl

word_placed : (p : ℕ) (f : Form) → word_in (placed p f) ≡ word_in f
word_placed p (atom t) = refl
word_placed p (node place fs) = refl

keyword_placed : (p : ℕ) (f : Form) → keyword_in (placed p f) ≡ keyword_in f
keyword_placed p (atom t) = refl
keyword_placed p (node place fs) = refl

is_keyword_placed : (p : ℕ) (f : Form) → is_keyword (placed p f) ≡ is_keyword f
is_keyword_placed p (atom t) = refl
is_keyword_placed p (node place fs) = refl

text_placed : (p : ℕ) (f : Form) → is_text (placed p f) ≡ is_text f
text_placed p (atom t) = refl
text_placed p (node place fs) = refl

-- an option without a value, or with one
option_placed : (p : ℕ) (k : Form) (f g : Option Form) → option_shape k f ≡ Some passing → option_shape (placed p k) g ≡ Some passing
option_placed p k f g h =
    ap (λ b. where_so b (cond (is_globals (keyword_in (placed p k))) (global_option g) passing)) (is_keyword_placed p k)
    ∙ ap (λ n. where_so (is_keyword k) (cond (is_globals n) (global_option g) passing)) (keyword_placed p k)
    ∙ other (is_keyword k) (is_globals (keyword_in k)) h
  where
    other : (b c : Bool) → where_so b (cond c (global_option f) passing) ≡ Some passing → where_so b (cond c (global_option g) passing) ≡ Some passing
    other true true h = absurd (cc)
    other true false h = refl
    other false c h = absurd (cc)

no_pair : {A B : Type 0} (make : A → B → Outline) (a : Option A) (b : Option B) → ((x : A) (y : B) → make x y ≡ passing → ⊥) → of_both make a b ≡ Some passing → ⊥
no_pair make (Some a) (Some b) never h = never a b (cc)
no_pair make (Some a) None never h = cc
no_pair make None (Some b) never h = cc
no_pair make None None never h = cc

no_one : {A : Type 0} (make : A → Outline) (a : Option A) → ((x : A) → make x ≡ passing → ⊥) → option_map make a ≡ Some passing → ⊥
no_one make (Some a) never h = never a (cc)
no_one make None never h = cc

shape_placed : (p : ℕ) (w : CommandWord) (fs : Forms) → shape w fs ≡ Some passing → shape w (placed_behind p fs none) ≡ Some passing
shape_placed p set_logic_word (w ⨾ none) h = ap (λ b. where_so b passing) (symbol_placed (suc p) w) ∙ h
shape_placed p set_info_word (k ⨾ none) h = ap (λ b. where_so b passing) (is_keyword_placed (suc p) k) ∙ h
shape_placed p set_info_word (k ⨾ f ⨾ none) h = ap (λ b. where_so b passing) (is_keyword_placed (suc p) k) ∙ h
shape_placed p set_option_word (k ⨾ none) h = option_placed (suc p) k None None h
shape_placed p set_option_word (k ⨾ f ⨾ none) h = option_placed (suc p) k (Some f) (Some (placed (suc (end_of (suc p) k)) f)) h
shape_placed p get_info_word (k ⨾ none) h = ap (λ b. where_so b passing) (is_keyword_placed (suc p) k) ∙ h
shape_placed p get_option_word (k ⨾ none) h = ap (λ b. where_so b passing) (is_keyword_placed (suc p) k) ∙ h
shape_placed p echo_word (t ⨾ none) h = ap (λ b. where_so b passing) (text_placed (suc p) t) ∙ h
shape_placed p get_model_word none h = refl
shape_placed p declare_sort_word (n ⨾ i ⨾ none) h = absurd (no_pair sort_declaration (symbol_at n) (numeral_at i) (λ x y e. cc) h)
shape_placed p define_sort_word (n ⨾ ps ⨾ s ⨾ none) h = absurd (no_pair (λ name parameters. sort_definition name parameters s) (symbol_at n) (list_in ps) (λ x y e. cc) h)
shape_placed p declare_const_word (n ⨾ s ⨾ none) h = absurd (no_one (λ name. symbol_declaration name none s) (symbol_at n) (λ x e. cc) h)
shape_placed p declare_fun_word (n ⨾ ss ⨾ s ⨾ none) h = absurd (no_pair (λ name arguments. symbol_declaration name arguments s) (symbol_at n) (list_in ss) (λ x y e. cc) h)
shape_placed p define_fun_word (n ⨾ ps ⨾ s ⨾ t ⨾ none) h = absurd (no_pair (λ name parameters. symbol_definition name parameters s t) (symbol_at n) (list_in ps) (λ x y e. cc) h)
shape_placed p check_sat_assuming_word (ls ⨾ none) h = absurd (no_one assuming (list_in ls) (λ x e. cc) h)
shape_placed p push_word (i ⨾ none) h = absurd (no_one (λ n. pushing (Some n)) (numeral_at i) (λ x e. cc) h)
shape_placed p pop_word (i ⨾ none) h = absurd (no_one (λ n. popping (Some n)) (numeral_at i) (λ x e. cc) h)
shape_placed p assert_word (t ⨾ none) h = absurd (cc)
shape_placed p check_sat_word none h = absurd (cc)
shape_placed p push_word none h = absurd (cc)
shape_placed p pop_word none h = absurd (cc)
shape_placed p reset_word none h = absurd (cc)
shape_placed p reset_assertions_word none h = absurd (cc)
shape_placed p exit_word none h = absurd (cc)
shape_placed p _ _ h = absurd (cc)

shaped_placed : (p place other : ℕ) (w : Option CommandWord) (fs : Forms) → shaped place fs w ≡ Ok passing → shaped other (placed_behind p fs none) w ≡ Ok passing
shaped_placed p place other None fs h = absurd (cc)
shaped_placed p place other (Some w) fs h = ap (given BadForm other) (shape_placed p w fs (given_ok BadForm place (shape w fs) passing h))

outline_by_placed : (p place other : ℕ) (o : Option Name) (fs : Forms) → outline_by place o fs ≡ Ok passing → outline_by other o (placed_behind p fs none) ≡ Ok passing
outline_by_placed p place other None fs h = absurd (cc)
outline_by_placed p place other (Some w) fs h = go (is_command_word w) h
  where
    go : (b : Bool) → (if b then shaped place fs (supported w) else at UnknownCommand place) ≡ Ok passing → (if b then shaped other (placed_behind p fs none) (supported w) else at UnknownCommand other) ≡ Ok passing
    go true k = shaped_placed p place other (supported w) fs k
    go false k = absurd (cc)

outline_placed : (f : Form) → outline f ≡ Ok passing → outline (placed 0 f) ≡ Ok passing
outline_placed (atom t) h = absurd (cc)
outline_placed (node place none) h = absurd (cc)
outline_placed (node place (f ⨾ fs)) h =
    ap (λ o. outline_by 0 o (placed_behind (end_of 1 f) fs none)) (word_placed 1 f) ∙ outline_by_placed (end_of 1 f) place 0 (word_in f) fs h

-- the text of a command that is passed on is one of a command that is passed on
pub passed_again : (f : Form) → IsWritten f → outline f ≡ Ok passing → is_passed_text (form_text f) ≡ true
passed_again f written h = ap is_passing_alone (forms_of_text f written) ∙ ap is_passing (outline_placed f h)

-- ---- which outlines have a name of a sort, and which end

-- of the forms behind a word
abbrev Told : List Name → CommandWord → Forms → Outline → Type 0
Told ns w fs (sort_declaration n arity) = name_among ns n.it ≡ true
Told ns w fs ending = (w ≡ exit_word) × (fs ≡ none)
Told ns w fs _ = ⊤

module _ (P : Outline → Type 0) where
  some_told : (x o : Outline) → P x → Some x ≡ Some o → P o
  some_told x o h e = let same : x ≡ o = cc in subst P same h

  where_told : (b : Bool) (x o : Outline) → P x → where_so b x ≡ Some o → P o
  where_told true x o h e = some_told x o h e
  where_told false x o h e = absurd cc

  option_told : (b g : Bool) (f : Option Form) (o : Outline) → P (global_option f) → P passing → where_so b (cond g (global_option f) passing) ≡ Some o → P o
  option_told b true f o h k e = where_told b (global_option f) o h e
  option_told b false f o h k e = where_told b passing o k e

  both_told : {A B : Type 0} (make : A → B → Outline) (a : Option A) (b : Option B) (o : Outline) → ((x : A) (y : B) → a ≡ Some x → P (make x y)) → of_both make a b ≡ Some o → P o
  both_told make (Some a) (Some b) o h e = some_told (make a b) o (h a b refl) e
  both_told make (Some a) None o h e = absurd cc
  both_told make None b o h e = absurd cc

  mapped_told : {A : Type 0} (make : A → Outline) (a : Option A) (o : Outline) → ((x : A) → P (make x)) → option_map make a ≡ Some o → P o
  mapped_told make (Some a) o h e = some_told (make a) o (h a) e
  mapped_told make None o h e = absurd cc

symbol_within : (ns : List Name) (f : Form) (n : At Name) → Within ns f → symbol_at f ≡ Some n → name_among ns n.it ≡ true
symbol_within ns (node place fs) n within e = absurd cc
symbol_within ns (atom t) n within e = go (symbol_of t) refl e
  where
    go : (o : Option Name) → symbol_of t ≡ o → placed_part (atom t) o ≡ Some n → name_among ns n.it ≡ true
    go None eo k = absurd cc
    go (Some m) eo k = let same : record { it = m; place = place_of (atom t) } ≡ n = cc in ap (λ (a : At Name). name_among ns a.it) (sym same) ∙ within m eo

shape_told : (ns : List Name) (w : CommandWord) (fs : Forms) (o : Outline) → AllWithin ns fs → shape w fs ≡ Some o → Told ns w fs o
shape_told ns set_logic_word (f ⨾ none) o within e = where_told (Told ns set_logic_word (f ⨾ none)) (is_symbol f) passing o tt e
shape_told ns set_info_word (k ⨾ none) o within e = where_told (Told ns set_info_word (k ⨾ none)) (is_keyword k) passing o tt e
shape_told ns set_info_word (k ⨾ f ⨾ none) o within e = where_told (Told ns set_info_word (k ⨾ f ⨾ none)) (is_keyword k) passing o tt e
shape_told ns set_option_word (k ⨾ none) o within e = option_told (Told ns set_option_word (k ⨾ none)) (is_keyword k) (is_globals (keyword_in k)) None o tt tt e
shape_told ns set_option_word (k ⨾ f ⨾ none) o within e = option_told (Told ns set_option_word (k ⨾ f ⨾ none)) (is_keyword k) (is_globals (keyword_in k)) (Some f) o tt tt e
shape_told ns get_info_word (k ⨾ none) o within e = where_told (Told ns get_info_word (k ⨾ none)) (is_keyword k) passing o tt e
shape_told ns get_option_word (k ⨾ none) o within e = where_told (Told ns get_option_word (k ⨾ none)) (is_keyword k) passing o tt e
shape_told ns echo_word (t ⨾ none) o within e = where_told (Told ns echo_word (t ⨾ none)) (is_text t) passing o tt e
shape_told ns get_model_word none o within e = some_told (Told ns get_model_word none) passing o tt e
shape_told ns declare_sort_word (n ⨾ i ⨾ none) o within e = both_told (Told ns declare_sort_word (n ⨾ i ⨾ none)) sort_declaration (symbol_at n) (numeral_at i) o (λ x y h. symbol_within ns n x within.0 h) e
shape_told ns define_sort_word (n ⨾ ps ⨾ s ⨾ none) o within e = both_told (Told ns define_sort_word (n ⨾ ps ⨾ s ⨾ none)) (λ name parameters. sort_definition name parameters s) (symbol_at n) (list_in ps) o (λ x y h. tt) e
shape_told ns declare_const_word (n ⨾ s ⨾ none) o within e = mapped_told (Told ns declare_const_word (n ⨾ s ⨾ none)) (λ name. symbol_declaration name none s) (symbol_at n) o (λ x. tt) e
shape_told ns declare_fun_word (n ⨾ ss ⨾ s ⨾ none) o within e = both_told (Told ns declare_fun_word (n ⨾ ss ⨾ s ⨾ none)) (λ name arguments. symbol_declaration name arguments s) (symbol_at n) (list_in ss) o (λ x y h. tt) e
shape_told ns define_fun_word (n ⨾ ps ⨾ s ⨾ t ⨾ none) o within e = both_told (Told ns define_fun_word (n ⨾ ps ⨾ s ⨾ t ⨾ none)) (λ name parameters. symbol_definition name parameters s t) (symbol_at n) (list_in ps) o (λ x y h. tt) e
shape_told ns assert_word (t ⨾ none) o within e = some_told (Told ns assert_word (t ⨾ none)) (assertion t) o tt e
shape_told ns check_sat_word none o within e = some_told (Told ns check_sat_word none) checking o tt e
shape_told ns check_sat_assuming_word (ls ⨾ none) o within e = mapped_told (Told ns check_sat_assuming_word (ls ⨾ none)) assuming (list_in ls) o (λ x. tt) e
shape_told ns push_word none o within e = some_told (Told ns push_word none) (pushing None) o tt e
shape_told ns push_word (i ⨾ none) o within e = mapped_told (Told ns push_word (i ⨾ none)) (λ n. pushing (Some n)) (numeral_at i) o (λ x. tt) e
shape_told ns pop_word none o within e = some_told (Told ns pop_word none) (popping None) o tt e
shape_told ns pop_word (i ⨾ none) o within e = mapped_told (Told ns pop_word (i ⨾ none)) (λ n. popping (Some n)) (numeral_at i) o (λ x. tt) e
shape_told ns reset_word none o within e = some_told (Told ns reset_word none) resetting o tt e
shape_told ns reset_assertions_word none o within e = some_told (Told ns reset_assertions_word none) resetting_assertions o tt e
shape_told ns exit_word none o within e = some_told (Told ns exit_word none) ending o (refl, refl) e
shape_told ns _ _ o within e = absurd cc

-- ---- the word of `exit`

is_exit : CommandWord → Bool
is_exit exit_word = true
is_exit _ = false

-- if the word is that of `exit`, the name is
abbrev named_exit : Name × CommandWord → Bool
named_exit p = not (is_exit p.1) || bytes_eq p.0 (codes "exit")

exit_alone : list_all named_exit command_table ≡ true
unfolding is_exit
exit_alone = refl

exit_named : (ps : List (Name × CommandWord)) (n : Name) → list_all named_exit ps ≡ true → word_among ps n ≡ Some exit_word → n ≡ codes "exit"
unfolding is_exit
exit_named [] n all h = absurd cc
exit_named (p ∷ ps) n all h = go (bytes_eq p.0 n) refl h (named_exit p) refl all (exit_named ps n)
  where
    here : (w : CommandWord) → w ≡ exit_word → (not (is_exit w) || bytes_eq p.0 (codes "exit")) ≡ true → bytes_eq p.0 (codes "exit") ≡ true
    here w same k = ap (λ v. not (is_exit v) || bytes_eq p.0 (codes "exit")) (sym same) ∙ k

    go : (b : Bool) → bytes_eq p.0 n ≡ b → cond b (Some p.1) (word_among ps n) ≡ Some exit_word → (c : Bool) → named_exit p ≡ c → (c && list_all named_exit ps) ≡ true → (list_all named_exit ps ≡ true → word_among ps n ≡ Some exit_word → n ≡ codes "exit") → n ≡ codes "exit"
    go true eb k true ec a below = let same : p.1 ≡ exit_word = cc in sym (name_same p.0 n eb) ∙ name_same p.0 (codes "exit") (here p.1 same ec)
    go true eb k false ec a below = absurd cc
    go false eb k true ec a below = below a k
    go false eb k false ec a below = absurd cc

exit_supported : (n : Name) → supported n ≡ Some exit_word → n ≡ codes "exit"
unfolding supported
exit_supported n h = exit_named command_table n exit_alone h

abbrev pub is_exit_form : Form → Bool
is_exit_form (node place (atom t ⨾ none)) = is_exit_word t.item t.text
is_exit_form _ = false

-- what is known of a command's outline
abbrev pub OutlineTold : List Name → Form → Outline → Type 0
OutlineTold ns f (sort_declaration n arity) = name_among ns n.it ≡ true
OutlineTold ns f ending = is_exit_form f ≡ true
OutlineTold ns f _ = ⊤

exit_word_in : (place : ℕ) (f : Form) (n : Name) → word_in f ≡ Some n → n ≡ codes "exit" → is_exit_form (node place (f ⨾ none)) ≡ true
exit_word_in place (node part fs) n h same = absurd cc
exit_word_in place (atom t) n h same = go t.item h
  where
    go : (item : Item) → word_by item t.text ≡ Some n → is_exit_word item t.text ≡ true
    go Word k = let text : t.text ≡ n = cc in ap (λ xs. bytes_eq xs (codes "exit")) (text ∙ same)
    go _ k = absurd cc

told_outline : (ns : List Name) (place : ℕ) (f : Form) (fs : Forms) (n : Name) (w : CommandWord) (o : Outline) → word_in f ≡ Some n → supported n ≡ Some w → Told ns w fs o → OutlineTold ns (node place (f ⨾ fs)) o
told_outline ns place f fs n w (sort_declaration m arity) word is told = told
told_outline ns place f fs n w ending word is told =
    ap (λ gs. is_exit_form (node place (f ⨾ gs))) told.1 ∙ exit_word_in place f n word (exit_supported n (is ∙ ap Some told.0))
told_outline ns place f fs n w _ word is told = tt

pub outline_told : (ns : List Name) (f : Form) (o : Outline) → Within ns f → outline f ≡ Ok o → OutlineTold ns f o
outline_told ns (atom t) o within e = absurd cc
outline_told ns (node place none) o within e = absurd cc
outline_told ns (node place (f ⨾ fs)) o within e = by_word (word_in f) refl e
  where
    by_support : (n : Name) (w : Option CommandWord) → word_in f ≡ Some n → supported n ≡ w → shaped place fs w ≡ Ok o → OutlineTold ns (node place (f ⨾ fs)) o
    by_support n None word is k = absurd cc
    by_support n (Some w) word is k = told_outline ns place f fs n w o word is (shape_told ns w fs o within.1 (given_ok BadForm place (shape w fs) o k))

    known : (n : Name) (b : Bool) → word_in f ≡ Some n → (if b then shaped place fs (supported n) else at UnknownCommand place) ≡ Ok o → OutlineTold ns (node place (f ⨾ fs)) o
    known n true word k = by_support n (supported n) word refl k
    known n false word k = absurd cc

    by_word : (w : Option Name) → word_in f ≡ w → outline_by place w fs ≡ Ok o → OutlineTold ns (node place (f ⨾ fs)) o
    by_word None word k = absurd cc
    by_word (Some n) word k = known n (is_command_word n) word k
