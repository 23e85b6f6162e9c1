-- The text of a list of forms, part by part.
use Rattle.std.proofs.Common.{◌≡◌, ℕ, suc, ◌+◌, ◌<◌, ◌≤◌, List, [], ◌∷◌, ◌++◌, map, take, get_or, length, drop, refl, ap, sym, ◌∙◌, arith, append_assoc, append-nil}
use Rattle.std.specs.Prelude.{◌==◌, if◌then◌else◌}
use Rattle.std.proofs.lemmas.Bool.Decides.{nat_tests}
use Rattle.std.proofs.lemmas.List.{take_more, map-append, length-map, length-take-le, take_all, take-append-drop}
use Rattle.smt_lex.specs.Lexicon.{left_parenthesis, right_parenthesis, space}
use Rattle.smt_lex.specs.Forms.{Form, forms_of_list}
use Rattle.smt_lex.specs.FormText.{form_text, forms_text, further_text}
use Rattle.term_table.specs.WrittenForms.{list_form}

abbrev pub separator : ℕ → List ℕ
separator i = if i == 0 then [] else space ∷ []

further-push : (fs : List Form) (f : Form) → further_text (forms_of_list (fs ++ f ∷ [])) ≡ further_text (forms_of_list fs) ++ (space ∷ form_text f)
further-push [] f = ap (λ xs. space ∷ xs) (append-nil (form_text f))
further-push (g ∷ fs) f =
    ap (λ xs. space ∷ (form_text g ++ xs)) (further-push fs f) ∙ ap (λ xs. space ∷ xs) (sym (append_assoc (form_text g) (further_text (forms_of_list fs)) (space ∷ form_text f)))

separator-suc : (n : ℕ) → separator (suc n) ≡ space ∷ []
separator-suc n = grind (arith, nat_tests)

forms_text-push : (fs : List Form) (f : Form) → forms_text (forms_of_list (fs ++ f ∷ [])) ≡ forms_text (forms_of_list fs) ++ (separator (length fs) ++ form_text f)
forms_text-push [] f = append-nil (form_text f)
forms_text-push (g ∷ fs) f = ap (λ xs. form_text g ++ xs) (further-push fs f) ∙ sym (append_assoc (form_text g) (further_text (forms_of_list fs)) (space ∷ form_text f))
    ∙ ap (λ ys. (form_text g ++ further_text (forms_of_list fs)) ++ (ys ++ form_text f)) (sym (separator-suc (length fs)))

further-append : (fs gs : List Form) → further_text (forms_of_list (fs ++ gs)) ≡ further_text (forms_of_list fs) ++ further_text (forms_of_list gs)
further-append [] gs = refl
further-append (f ∷ fs) gs =
    ap (λ xs. space ∷ (form_text f ++ xs)) (further-append fs gs) ∙ ap (λ xs. space ∷ xs) (sym (append_assoc (form_text f) (further_text (forms_of_list fs)) (further_text (forms_of_list gs))))

-- the text of a list begins with that of its first forms
forms_text-split : (fs gs : List Form) → (rest : List ℕ) × (forms_text (forms_of_list (fs ++ gs)) ≡ forms_text (forms_of_list fs) ++ rest)
forms_text-split [] gs = (forms_text (forms_of_list gs), refl)
forms_text-split (f ∷ fs) gs = (
  further_text (forms_of_list gs),
  ap (λ xs. form_text f ++ xs) (further-append fs gs) ∙ sym (append_assoc (form_text f) (further_text (forms_of_list fs)) (further_text (forms_of_list gs))),
)

module _ {X : Type 0} (to : X → Form) (xs : List X) where
  -- the beginning of the list, with the first i parts
  abbrev pub list_begun : ℕ → List ℕ
  list_begun i = left_parenthesis ∷ forms_text (forms_of_list (map to (take i xs)))

  pub part-more : (old now between new : List ℕ) (i : ℕ) (d : X) → i < length xs → now ≡ old ++ list_begun i
      → between ≡ now ++ separator i → new ≡ between ++ form_text (to (get_or xs i d)) → new ≡ old ++ list_begun (i + 1)
  part-more old now between new i d lt before middle after =
      let size : length (map to (take i xs)) ≡ i = length-map (take i xs) to ∙ length-take-le i xs (omega arith) in
      let more : forms_text (forms_of_list (map to (take (i + 1) xs))) ≡ forms_text (forms_of_list (map to (take i xs))) ++ (separator i ++ form_text (to (get_or xs i d))) =
      ap (λ ys. forms_text (forms_of_list (map to ys))) (take_more xs i d lt) ∙ ap (λ fs. forms_text (forms_of_list fs)) (map-append to (take i xs) (get_or xs i d ∷ []))
      ∙ forms_text-push (map to (take i xs)) (to (get_or xs i d))
      ∙ ap (λ n. forms_text (forms_of_list (map to (take i xs))) ++ (separator n ++ form_text (to (get_or xs i d)))) size
      in
      after ∙ ap (λ ys. ys ++ form_text (to (get_or xs i d))) (middle ∙ ap (λ ys. ys ++ separator i) before)
      ∙ append_assoc (old ++ list_begun i) (separator i) (form_text (to (get_or xs i d)))
      ∙ append_assoc old (list_begun i) (separator i ++ form_text (to (get_or xs i d)))
      ∙ ap (λ ys. old ++ (left_parenthesis ∷ ys)) (sym more)

  pub parts-end : (old now new : List ℕ) (i : ℕ) → length xs ≤ i → now ≡ old ++ list_begun i → new ≡ now ++ right_parenthesis ∷ [] → new ≡ old ++ form_text (list_form (map to xs))
  parts-end old now new i past before after =
      after ∙ ap (λ ys. ys ++ right_parenthesis ∷ []) (before ∙ ap (λ ys. old ++ (left_parenthesis ∷ forms_text (forms_of_list (map to ys)))) (take_all i xs past))
      ∙ append_assoc old (left_parenthesis ∷ forms_text (forms_of_list (map to xs))) (right_parenthesis ∷ [])

  -- the beginning of the list is one of its text
  pub parts-split : (i : ℕ) → (rest : List ℕ) × (list_begun i ++ rest ≡ form_text (list_form (map to xs)))
  parts-split i =
      let (rest, same) = forms_text-split (map to (take i xs)) (map to (drop i xs)) in
      let all : forms_text (forms_of_list (map to xs)) ≡ forms_text (forms_of_list (map to (take i xs))) ++ rest =
      ap (λ ys. forms_text (forms_of_list (map to ys))) (sym (take-append-drop i xs)) ∙ ap (λ fs. forms_text (forms_of_list fs)) (map-append to (take i xs) (drop i xs)) ∙ same
      in (
        rest ++ right_parenthesis ∷ [],
        ap (λ ys. left_parenthesis ∷ ys) (sym (append_assoc (forms_text (forms_of_list (map to (take i xs)))) rest (right_parenthesis ∷ [])) ∙ ap (λ ys. ys ++ right_parenthesis ∷ []) (sym all)),
      )
