-- Which tokens are string literals.
use Rattle.std.proofs.Common.{◌≡◌, false, refl}
use Rattle.smt_lex.specs.declared.items.Item.{Item}
use Rattle.smt_lex.specs.declared.items.Item.TheVariants.{Left, Right, Numeral, Decimal, Hex, Bin, Text, Word, Quoted, Keyword}
use Rattle.script_terms.specs.Parts.{is_text_by}

pub no_text_by : (item : Item) → (item ≡ Text → ⊥) → is_text_by item ≡ false
no_text_by Text text = absurd (text refl)
no_text_by Keyword text = refl
no_text_by Numeral text = refl
no_text_by Word text = refl
no_text_by Quoted text = refl
no_text_by Left text = refl
no_text_by Right text = refl
no_text_by Decimal text = refl
no_text_by Hex text = refl
no_text_by Bin text = refl
