-- Which tokens are keywords.
use Rattle.std.proofs.Common.{◌≡◌, ℕ, List, Some, None, refl}
use Rattle.smt_lex.specs.Lex.{Token}
use Rattle.smt_lex.specs.declared.items.Item.{Item}
use Rattle.smt_lex.specs.declared.items.Item.TheVariants.{Left, Right, Numeral, Decimal, Hex, Bin, Text, Word, Quoted, Keyword}
use Rattle.script_terms.specs.Parts.{keyword_by}

no_keyword_by : (item : Item) (text : List ℕ) → (item ≡ Keyword → ⊥) → keyword_by item text ≡ None
no_keyword_by Keyword text keyword = absurd (keyword refl)
no_keyword_by Numeral text keyword = refl
no_keyword_by Word text keyword = refl
no_keyword_by Quoted text keyword = refl
no_keyword_by Left text keyword = refl
no_keyword_by Right text keyword = refl
no_keyword_by Decimal text keyword = refl
no_keyword_by Hex text keyword = refl
no_keyword_by Bin text keyword = refl
no_keyword_by Text text keyword = refl

pub no_keyword : (t : Token) → (t.item ≡ Keyword → ⊥) → keyword_by t.item t.text ≡ None
no_keyword t keyword = no_keyword_by t.item t.text keyword

pub keyword_is : (t : Token) → t.item ≡ Keyword → keyword_by t.item t.text ≡ Some t.text
keyword_is t is = rw is refl
