-- The table is held against the definition at each of the 256 bytes, by computing.
use Rattle.std.proofs.Common.{◌≡◌, ℕ, ◌<◌, true, List, [], ◌∷◌, get_or, nat_eq, ap, sym, ◌∙◌, refl, arith}
use Rattle.std.proofs.lemmas.Bool.{agree_below, agree_below_at}
use Rattle.std.proofs.lemmas.Bool.Decides.{Decides-eqb}
use Rattle.smt_lex.specs.declared.classes.TheConstants.{CLASSES}
use Rattle.smt_lex.specs.declared.classes.Class.{Class}
use Rattle.smt_lex.specs.declared.classes.Class.TheVariants.{Left, Right, Blank, Letter, Digit, Colon, Hash, Quote, Bar, Semicolon, Other}
use Rattle.smt_lex.specs.ByteClasses.{class_of}
use Rattle.smt_lex.proofs.classes.class_of.Goals as goal

abbrev number : Class → ℕ
number Left = 0
number Right = 1
number Blank = 2
number Letter = 3
number Digit = 4
number Colon = 5
number Hash = 6
number Quote = 7
number Bar = 8
number Semicolon = 9
number Other = 10

abbrev numbered : ℕ → Class
numbered n = get_or (Left ∷ Right ∷ Blank ∷ Letter ∷ Digit ∷ Colon ∷ Hash ∷ Quote ∷ Bar ∷ Semicolon ∷ []) n Other

numbered_back : (a : Class) → numbered (number a) ≡ a
numbered_back Left = refl
numbered_back Right = refl
numbered_back Blank = refl
numbered_back Letter = refl
numbered_back Digit = refl
numbered_back Colon = refl
numbered_back Hash = refl
numbered_back Quote = refl
numbered_back Bar = refl
numbered_back Semicolon = refl
numbered_back Other = refl

from_table : (table : List Class) (b : ℕ) → b < 256 → agree_below (λ k. nat_eq (number (get_or table k Letter)) (number (class_of k))) (λ k. true) 256 ≡ true → get_or table b Letter ≡ class_of b
from_table table b below agree =
    let same : nat_eq (number (get_or table b Letter)) (number (class_of b)) ≡ true = agree_below_at (λ k. nat_eq (number (get_or table k Letter)) (number (class_of k))) (λ k. true) 256 b agree below in
    sym (numbered_back (get_or table b Letter)) ∙ ap numbered ((Decides-eqb _ _).0 same) ∙ numbered_back (class_of b)

pub returns : goal.returns
unfolding class_of
returns c = from_table CLASSES c.args.byte (omega arith) refl
