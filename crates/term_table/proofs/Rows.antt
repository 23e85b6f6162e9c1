-- Worked texts of scalars and sorts, written by hand.
use Rattle.std.proofs.Common.{◌≡◌, ℕ, pos, negsuc, true, false, List, [], ◌∷◌, map, refl}
use Rattle.std.specs.Prelude.{codes}
use Rattle.smt_lex.specs.FormText.{form_text}
use Rattle.smt_lex.specs.Names.{is_syntax_word, is_command_word}
use Rattle.smt_terms.specs.Sorts.{Sort, bool, int, bit_vector, array, free_sort}
use Rattle.smt_values.specs.declared.scalar.Scalar.{Scalar}
use Rattle.smt_values.specs.declared.scalar.Scalar.TheVariants.{Truth, Whole, Bits}
use Rattle.term_table.specs.WrittenForms.{sort_form, scalar_form}

scalars_text : List Scalar → List (List ℕ)
scalars_text ss = map (λ s. form_text (scalar_form s)) ss

truths : scalars_text (Truth true ∷ Truth false ∷ []) ≡ codes "true" ∷ codes "false" ∷ []
unfolding scalars_text
truths = refl

integers : scalars_text (Whole (pos 0) ∷ Whole (pos 10) ∷ Whole (negsuc 4) ∷ Whole (pos 170141183460469231731687303715884105727) ∷ Whole (negsuc 170141183460469231731687303715884105726) ∷ [])
    ≡ codes "0" ∷ codes "10" ∷ codes "(- 5)" ∷ codes "170141183460469231731687303715884105727" ∷ codes "(- 170141183460469231731687303715884105727)" ∷ []
unfolding scalars_text
integers = refl

-- hexadecimal digits where 4 divides the width
bit_vectors : scalars_text (Bits 8 255 ∷ Bits 12 10 ∷ Bits 3 5 ∷ Bits 1 0 ∷ Bits 6 1 ∷ []) ≡ codes "#xff" ∷ codes "#x00a" ∷ codes "#b101" ∷ codes "#b0" ∷ codes "#b000001" ∷ []
unfolding scalars_text
bit_vectors = refl

sorts_text : List Sort → List (List ℕ)
sorts_text ss = map (λ s. form_text (sort_form s)) ss

sorts : sorts_text (bool ∷ int ∷ bit_vector 128 ∷ array int (array bool (bit_vector 8)) ∷ free_sort (codes "U") ∷ free_sort (codes "a b") ∷ free_sort (codes "let") ∷ [])
    ≡ codes "Bool" ∷ codes "Int" ∷ codes "(_ BitVec 128)" ∷ codes "(Array Int (Array Bool (_ BitVec 8)))" ∷ codes "U" ∷ codes "|a b|" ∷ codes "|let|" ∷ []
unfolding sorts_text is_syntax_word is_command_word
sorts = refl
