-- Lists of few forms, by the numbers of their first tokens.
use Rattle.std.specs.Prelude.{◌≡◌, ℕ, List}
use Rattle.smt_lex.specs.Lex.{Token}
use Rattle.smt_lex.specs.Forms.{Form, Forms, none, ◌⨾◌}
use Rattle.script_terms.specs.declared.lists.Few.{Few}
use Rattle.script_terms.specs.declared.lists.Few.TheVariants.{Empty, One, Two, Three, Four, More}
use Rattle.script_terms.specs.Places.{IsForm, form_from}

-- five forms or more
pub record AreMany (fs : Forms) : Type 0 where
  pub first : Form
  pub second : Form
  pub third : Form
  pub fourth : Form
  pub fifth : Form
  pub others : Forms
  pub forms : fs ≡ first ⨾ second ⨾ third ⨾ fourth ⨾ fifth ⨾ others

pub record IsOne (ts : List Token) (fs : Forms) (i : ℕ) : Type 0 where
  pub forms : fs ≡ form_from ts i ⨾ none
  pub first : IsForm ts i

pub record AreTwo (ts : List Token) (fs : Forms) (i j : ℕ) : Type 0 where
  pub forms : fs ≡ form_from ts i ⨾ form_from ts j ⨾ none
  pub first : IsForm ts i
  pub second : IsForm ts j

pub record AreThree (ts : List Token) (fs : Forms) (i j k : ℕ) : Type 0 where
  pub forms : fs ≡ form_from ts i ⨾ form_from ts j ⨾ form_from ts k ⨾ none
  pub first : IsForm ts i
  pub second : IsForm ts j
  pub third : IsForm ts k

pub record AreFour (ts : List Token) (fs : Forms) (i j k l : ℕ) : Type 0 where
  pub forms : fs ≡ form_from ts i ⨾ form_from ts j ⨾ form_from ts k ⨾ form_from ts l ⨾ none
  pub first : IsForm ts i
  pub second : IsForm ts j
  pub third : IsForm ts k
  pub fourth : IsForm ts l

-- the forms are those that begin at these tokens
abbrev pub AreFew : List Token → Forms → Few → Type 0
AreFew ts fs Empty = fs ≡ none
AreFew ts fs (One i) = IsOne ts fs i
AreFew ts fs (Two i j) = AreTwo ts fs i j
AreFew ts fs (Three i j k) = AreThree ts fs i j k
AreFew ts fs (Four i j k l) = AreFour ts fs i j k l
AreFew ts fs More = AreMany fs
