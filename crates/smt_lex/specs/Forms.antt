-- The forms of a text, which SMT-LIB 2.6, section 3.2, calls its s-expressions.
use Rattle.std.specs.Prelude.{ℕ, zero, suc, ◌-◌, Bool, true, false, ◌&&◌, List, [], ◌∷◌, codes, bytes_eq, Result, Ok, Err, ◌==◌, if◌then◌else◌}
use Rattle.smt_lex.specs.Lex.{Token, Fault, unbalanced, Lexed, ended, faulty, next, lex}
use Rattle.smt_lex.specs.declared.items.Item.{Item}
use Rattle.smt_lex.specs.declared.items.Item.TheVariants.{Left, Right, Word}
use Rattle.smt_lex.specs.declared.items.Until.{Until}
use Rattle.smt_lex.specs.declared.items.Until.TheVariants.{End, Exit}

-- a form is a token, or a list of forms with the place of its `(`
infixr 6 ◌⨾◌
mutual
  pub data Form : Type 0 where
    atom : Token → Form
    node : ℕ → Forms → Form

  pub data Forms : Type 0 where
    none : Forms
    ◌⨾◌ : Form → Forms → Forms

abbrev pub list : Forms → List Form
list none = []
list (f ⨾ fs) = f ∷ list fs

abbrev pub forms_of_list : List Form → Forms
forms_of_list [] = none
forms_of_list (f ∷ fs) = f ⨾ forms_of_list fs

abbrev pub is_left : Item → Bool
is_left Left = true
is_left _ = false

abbrev pub is_right : Item → Bool
is_right Right = true
is_right _ = false

abbrev pub is_exit_word : Item → List ℕ → Bool
is_exit_word Word text = bytes_eq text (codes "exit")
is_exit_word _ text = false

-- how many lists are open behind a token
abbrev pub depth_after : Item → ℕ → ℕ
depth_after Left depth = suc depth
depth_after Right depth = depth - 1
depth_after _ depth = depth

abbrev pub with_token : Token → Result (List Token) Fault → Result (List Token) Fault
with_token t (Ok ts) = Ok (t ∷ ts)
with_token t (Err fault) = Err fault

-- the tokens, or the first fault, where depth lists are open: a `)` closes none, or a list is open at the end
abbrev pub balanced : ℕ → Lexed → Result (List Token) Fault
balanced zero (ended n) = Ok []
balanced (suc depth) (ended n) = Err (unbalanced n)
balanced depth (faulty fault) = Err fault
balanced depth (next t ts) =
    if is_right t.item && depth == 0 then Err (unbalanced t.start)
    else with_token t (balanced (depth_after t.item depth) ts)

-- the first tokens alone
abbrev pub first_tokens : ℕ → Lexed → Lexed
first_tokens zero ts = ended 0
first_tokens (suc n) (next t ts) = next t (first_tokens n ts)
first_tokens (suc n) ts = ts

-- the tokens begin with `)`, with `exit)`, with `(exit)`
abbrev pub begins_with_right : Lexed → Bool
begins_with_right (next t ts) = is_right t.item
begins_with_right _ = false

abbrev pub begins_with_name : Lexed → Bool
begins_with_name (next t ts) = is_exit_word t.item t.text && begins_with_right ts
begins_with_name _ = false

abbrev pub begins_with_exit : Lexed → Bool
begins_with_exit (next t ts) = is_left t.item && begins_with_name ts
begins_with_exit _ = false

-- the tokens up to and including the first form `(exit)` that stands in no other, where depth lists are open
abbrev pub to_exit : ℕ → Lexed → Lexed
to_exit depth (ended n) = ended n
to_exit depth (faulty fault) = faulty fault
to_exit depth (next t ts) =
    if depth == 0 && begins_with_exit (next t ts) then first_tokens 3 (next t ts)
    else next t (to_exit (depth_after t.item depth) ts)

-- the part of the tokens that is examined
abbrev pub examined : Until → Lexed → Lexed
examined End ts = ts
examined Exit ts = to_exit 0 ts

-- the tokens of a text whose parentheses match, or its first fault
abbrev pub tokens_of : Until → List ℕ → Result (List Token) Fault
tokens_of until bytes = balanced 0 (examined until (lex bytes))

-- the forms that begin with a token: those of the innermost list, and what is left of each list around it
abbrev pub before : Item → Token → Forms × List Forms → Forms × List Forms
before Left t (fs, []) = (node t.start fs ⨾ none, [])
before Left t (fs, gs ∷ around) = (node t.start fs ⨾ gs, around)
before Right t (fs, around) = (none, fs ∷ around)
before _ t (fs, around) = (atom t ⨾ fs, around)

-- what is left to read: the forms left of the innermost open list, and those of each list around it
abbrev pub rest : List Token → Forms × List Forms
rest [] = (none, [])
rest (t ∷ ts) = before t.item t (rest ts)

abbrev pub forms_of : List Token → Forms
forms_of ts = (rest ts).0

abbrev pub as_forms : Result (List Token) Fault → Result Forms Fault
as_forms (Ok ts) = Ok (forms_of ts)
as_forms (Err fault) = Err fault

-- the forms of a text, or its first fault
abbrev pub forms_until : Until → List ℕ → Result Forms Fault
forms_until until bytes = as_forms (tokens_of until bytes)

abbrev pub forms : List ℕ → Result Forms Fault
forms bytes = forms_until End bytes

-- the same up to and including the first form `(exit)` that stands in no other
abbrev pub forms_to_exit : List ℕ → Result Forms Fault
forms_to_exit bytes = forms_until Exit bytes
