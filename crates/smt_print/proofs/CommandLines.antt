-- The texts of commands, part by part.
use Rattle.std.proofs.Common.{◌≡◌, ℕ, ◌+◌, ◌<◌, ◌≤◌, List, [], ◌∷◌, ◌++◌, map, take, drop, length, Some, refl, ap, sym, ◌∙◌, append_assoc, append-nil}
use Rattle.std.specs.Prelude.{codes, slice_get}
use Rattle.std.proofs.lemmas.List.{take_more, map-append, take-append-drop}
use Rattle.std.proofs.lemmas.Grind.{flat_map-append}
use Rattle.std.proofs.lemmas.Option.{get_or_from_slice_get}
use Rattle.smt_lex.specs.Lexicon.{left_parenthesis, right_parenthesis, space, line_feed}
use Rattle.smt_lex.specs.Names.{Name, printed_symbol}
use Rattle.smt_lex.specs.Forms.{Form}
use Rattle.smt_lex.specs.FormText.{form_text}
use Rattle.smt_terms.specs.Sorts.{Symbol}
use Rattle.script_read.specs.declared.scripts.Command.{Command}
use Rattle.script_read.specs.CommandLists.{command_of, commands_of}
use Rattle.term_table.specs.Formulas.{Formulas}
use Rattle.term_table.specs.WrittenForms.{list_form, sort_form}
use Rattle.smt_print.specs.declared.layout.Layout.{Layout}
use Rattle.smt_print.specs.Text.{term_form, command_form, command_text, declaration, sort_declaration, lines}
use Rattle.smt_print.proofs.ListTexts.{list_begun, parts-end, parts-split}

-- one byte more
pub byte-more : (old now new bytes : List ℕ) (i b : ℕ) → i < length bytes → slice_get bytes i ≡ Some b → now ≡ old ++ take i bytes → new ≡ now ++ b ∷ [] → new ≡ old ++ take (i + 1) bytes
byte-more old now new bytes i b lt at before after =
    after ∙ ap (λ xs. xs ++ b ∷ []) before ∙ append_assoc old (take i bytes) (b ∷ [])
    ∙ ap (λ xs. old ++ xs) (sym (take_more bytes i 0 lt ∙ ap (λ x. take i bytes ++ x ∷ []) (get_or_from_slice_get bytes i b 0 at)))

pub map-map : {A B C : Type 0} (f : B → C) (g : A → B) (xs : List A) → map (λ x. f (g x)) xs ≡ map f (map g xs)
map-map f g [] = refl
map-map f g (x ∷ xs) = ap (λ ys. f (g x) ∷ ys) (map-map f g xs)

pub sort-declared : (old a b c : List ℕ) (name : Name) → a ≡ old ++ codes "(declare-sort " → b ≡ a ++ printed_symbol name → c ≡ b ++ codes " 0)" → c ≡ old ++ form_text (sort_declaration name)
sort-declared old a b c name first second third =
    third ∙ ap (λ xs. xs ++ codes " 0)") (second ∙ ap (λ xs. xs ++ printed_symbol name) first) ∙ pieces old (codes "(declare-sort ") (printed_symbol name) (codes " 0") (right_parenthesis ∷ [])
  where
    pieces : (old before name blank end : List ℕ) → ((old ++ before) ++ name) ++ (blank ++ end) ≡ old ++ (before ++ ((name ++ blank) ++ end))
    pieces old before name blank end = simp append_assoc

pub function-declared : (old a b c d e f g : List ℕ) (s : Symbol) → a ≡ old ++ codes "(declare-fun " → b ≡ a ++ printed_symbol s.name → c ≡ b ++ space ∷ []
    → d ≡ c ++ form_text (list_form (map sort_form s.args)) → e ≡ d ++ space ∷ [] → f ≡ e ++ form_text (sort_form s.result) → g ≡ f ++ right_parenthesis ∷ [] → g ≡ old ++ form_text (declaration s)
function-declared old a b c d e f g s first second third fourth fifth sixth seventh =
    let args = form_text (list_form (map sort_form s.args)) in
    let to = form_text (sort_form s.result) in
    seventh
    ∙ ap (λ xs. xs ++ right_parenthesis ∷ [])
    (sixth ∙ ap (λ xs. xs ++ to) (fifth ∙ ap (λ xs. xs ++ space ∷ []) (fourth ∙ ap (λ xs. xs ++ args) (third ∙ ap (λ xs. xs ++ space ∷ []) (second ∙ ap (λ xs. xs ++ printed_symbol s.name) first)))))
    ∙ pieces old (codes "(declare-fun ") (printed_symbol s.name) args to (space ∷ []) (right_parenthesis ∷ [])
  where
    pieces : (old before name args to blank end : List ℕ) → ((((((old ++ before) ++ name) ++ blank) ++ args) ++ blank) ++ to) ++ end ≡ old ++ (before ++ ((name ++ (blank ++ (args ++ (blank ++ (to ++ []))))) ++ end))
    pieces old before name args to blank end = simp (append_assoc, append-nil)

-- a command over a list, behind the list's last part
pub list-command-ended : {X : Type 0} (to : X → Form) (xs : List X) (old now new name : List ℕ) (i : ℕ) → length xs ≤ i → now ≡ (old ++ (left_parenthesis ∷ (name ++ space ∷ []))) ++ list_begun to xs i → new ≡ now ++ codes "))"
    → new ≡ old ++ form_text (command_form name (list_form (map to xs) ∷ []))
list-command-ended to xs old now new name i past before after =
    let front = old ++ (left_parenthesis ∷ (name ++ space ∷ [])) in
    let whole = form_text (list_form (map to xs)) in
    after ∙ sym (append_assoc now (right_parenthesis ∷ []) (right_parenthesis ∷ []))
    ∙ ap (λ ys. ys ++ right_parenthesis ∷ []) (parts-end to xs front now (now ++ right_parenthesis ∷ []) i past before refl)
    ∙ pieces old name whole
  where
    pieces : (old name whole : List ℕ) → ((old ++ (left_parenthesis ∷ (name ++ space ∷ []))) ++ whole) ++ right_parenthesis ∷ [] ≡ old ++ (left_parenthesis ∷ ((name ++ (space ∷ (whole ++ []))) ++ right_parenthesis ∷ []))
    pieces old name whole = simp (append_assoc, append-nil)

-- its line begins as the list does
pub list-command-split : {X : Type 0} (to : X → Form) (xs : List X) (name : List ℕ) (i : ℕ)
    → (rest : List ℕ) × (((left_parenthesis ∷ (name ++ space ∷ [])) ++ list_begun to xs i) ++ rest ≡ form_text (command_form name (list_form (map to xs) ∷ [])) ++ line_feed ∷ [])
list-command-split to xs name i =
    let (rest, same) = parts-split to xs i in
    let whole = form_text (list_form (map to xs)) in
    let begun = list_begun to xs i in (
      rest ++ (right_parenthesis ∷ (line_feed ∷ [])),
      around name begun rest (right_parenthesis ∷ []) (line_feed ∷ []) ∙ ap (λ ys. left_parenthesis ∷ (name ++ (space ∷ (ys ++ (right_parenthesis ∷ [] ++ line_feed ∷ []))))) same
          ∙ ended name whole (right_parenthesis ∷ []) (line_feed ∷ []),
    )
  where
    around : (name begun rest end feed : List ℕ) → ((left_parenthesis ∷ (name ++ space ∷ [])) ++ begun) ++ (rest ++ (end ++ feed)) ≡ left_parenthesis ∷ (name ++ (space ∷ ((begun ++ rest) ++ (end ++ feed))))
    around name begun rest end feed = simp (append_assoc, append-nil)

    ended : (name whole end feed : List ℕ) → left_parenthesis ∷ (name ++ (space ∷ (whole ++ (end ++ feed)))) ≡ (left_parenthesis ∷ ((name ++ (space ∷ (whole ++ []))) ++ end)) ++ feed
    ended name whole end feed = simp (append_assoc, append-nil)

-- ---- lines

-- the line of an assertion
pub assertion-line : (shown : List ℕ) → (left_parenthesis ∷ ((codes "assert" ++ (space ∷ (shown ++ []))) ++ right_parenthesis ∷ [])) ++ line_feed ∷ [] ≡ codes "(assert " ++ (shown ++ codes ")\n")
assertion-line shown = ap (λ xs. codes "(assert " ++ xs) (pieces shown (right_parenthesis ∷ []) (line_feed ∷ []))
  where
    pieces : (shown end feed : List ℕ) → ((shown ++ []) ++ end) ++ feed ≡ shown ++ (end ++ feed)
    pieces shown end feed = simp (append_assoc, append-nil)

module _ (layout : Layout) (t : Formulas) where
  abbrev pub line_of : Command → List ℕ
  line_of c = command_text (term_form layout) (command_of t c) ++ line_feed ∷ []

  -- one line more
  pub lines-more : (cs : List Command) (i : ℕ) (c : Command) → i < length cs → slice_get cs i ≡ Some c → lines layout (commands_of t (take (i + 1) cs)) ≡ lines layout (commands_of t (take i cs)) ++ line_of c
  lines-more cs i c lt at =
      ap (λ ds. lines layout (commands_of t ds)) (take_more cs i c lt ∙ ap (λ d. take i cs ++ d ∷ []) (get_or_from_slice_get cs i c c at))
      ∙ ap (lines layout) (map-append (command_of t) (take i cs) (c ∷ []))
      ∙ flat_map-append (λ d. command_text (term_form layout) d ++ line_feed ∷ []) (commands_of t (take i cs)) (command_of t c ∷ [])
      ∙ ap (λ xs. lines layout (commands_of t (take i cs)) ++ xs) (append-nil (line_of c))

  -- the lines so far are the beginning of all lines
  pub lines-split : (cs : List Command) (i : ℕ) → lines layout (commands_of t (take i cs)) ++ lines layout (commands_of t (drop i cs)) ≡ lines layout (commands_of t cs)
  lines-split cs i =
      sym (flat_map-append (λ d. command_text (term_form layout) d ++ line_feed ∷ []) (commands_of t (take i cs)) (commands_of t (drop i cs)))
      ∙ ap (lines layout) (sym (map-append (command_of t) (take i cs) (drop i cs)) ∙ ap (commands_of t) (take-append-drop i cs))
