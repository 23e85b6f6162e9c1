-- How many operands an operator takes, by the groups of operators that the code tells apart.
use Rattle.std.proofs.Common.{◌≡◌, ℕ, ◌⊎◌, inl, inr, Bool, List, refl, sym, subst}
use Rattle.smt_terms.specs.declared.op.Op.{Op}
use Rattle.smt_terms.specs.declared.op.Op.TheVariants.{Truth, Bits, Not, And, Or, Xor, Implies, Distinct, Ite, Extract, BvNot, BvNeg, ZeroExt, SignExt, RotL, RotR}
use Rattle.bit_blast.specs.OperandBits.{TakesBits, TakesOne, TakesTwo, IsConnective}

abbrev pub IsOfFlags : Op → Type 0
IsOfFlags o = ((b : Bool) × (o ≡ Truth b)) ⊎ ((o ≡ Not) ⊎ ((o ≡ And) ⊎ ((o ≡ Or) ⊎ ((o ≡ Xor) ⊎ (o ≡ Implies)))))

abbrev pub IsOfOne : Op → Type 0
IsOfOne o = ((high : ℕ) × (low : ℕ) × (o ≡ Extract high low))
    ⊎ ((o ≡ BvNot) ⊎ ((o ≡ BvNeg) ⊎ (((i : ℕ) × (o ≡ ZeroExt i)) ⊎ (((i : ℕ) × (o ≡ SignExt i)) ⊎ (((i : ℕ) × (o ≡ RotL i)) ⊎ ((i : ℕ) × (o ≡ RotR i)))))))

module _ (o : Op) (ws : List ℕ) (takes : TakesBits o ws) where
  -- what it takes, where it is this operator
  as_is : (P : Op → List ℕ → Type 0) (p : Op) → o ≡ p → (TakesBits p ws → P p ws) → P o ws
  as_is P p e given = subst (λ q. P q ws) (sym e) (given (subst (λ q. TakesBits q ws) e takes))

  pub takes-flags : IsOfFlags o → IsConnective o ws
  takes-flags (inl (b, e)) = as_is IsConnective (Truth b) e (λ h. h)
  takes-flags (inr (inl e)) = as_is IsConnective Not e (λ h. h)
  takes-flags (inr (inr (inl e))) = as_is IsConnective And e (λ h. h)
  takes-flags (inr (inr (inr (inl e)))) = as_is IsConnective Or e (λ h. h)
  takes-flags (inr (inr (inr (inr (inl e))))) = as_is IsConnective Xor e (λ h. h)
  takes-flags (inr (inr (inr (inr (inr e))))) = as_is IsConnective Implies e (λ h. h)

  pub takes-one : IsOfOne o → TakesOne o ws
  takes-one (inl (high, low, e)) = as_is TakesOne (Extract high low) e (λ h. h)
  takes-one (inr (inl e)) = as_is TakesOne BvNot e (λ h. h)
  takes-one (inr (inr (inl e))) = as_is TakesOne BvNeg e (λ h. h)
  takes-one (inr (inr (inr (inl (i, e))))) = as_is TakesOne (ZeroExt i) e (λ h. h)
  takes-one (inr (inr (inr (inr (inl (i, e)))))) = as_is TakesOne (SignExt i) e (λ h. h)
  takes-one (inr (inr (inr (inr (inr (inl (i, e))))))) = as_is TakesOne (RotL i) e (λ h. h)
  takes-one (inr (inr (inr (inr (inr (inr (i, e))))))) = as_is TakesOne (RotR i) e (λ h. h)

-- an operator that none of the others is
pub record IsOther (o : Op) : Type 0 where
  pub truth : (b : Bool) → o ≡ Truth b → ⊥
  pub constant : (width n : ℕ) → o ≡ Bits width n → ⊥
  pub negation : o ≡ Not → ⊥
  pub conjunction : o ≡ And → ⊥
  pub disjunction : o ≡ Or → ⊥
  pub exclusive : o ≡ Xor → ⊥
  pub implication : o ≡ Implies → ⊥
  pub distinction : o ≡ Distinct → ⊥
  pub choice : o ≡ Ite → ⊥
  pub part : (high low : ℕ) → o ≡ Extract high low → ⊥
  pub inverse : o ≡ BvNot → ⊥
  pub opposite : o ≡ BvNeg → ⊥
  pub zero_extension : (i : ℕ) → o ≡ ZeroExt i → ⊥
  pub sign_extension : (i : ℕ) → o ≡ SignExt i → ⊥
  pub turn_left : (i : ℕ) → o ≡ RotL i → ⊥
  pub turn_right : (i : ℕ) → o ≡ RotR i → ⊥

pub takes-two : (o : Op) (ws : List ℕ) → TakesBits o ws → IsOther o → TakesTwo o ws
takes-two (Truth b) ws takes other = absurd (other.truth b refl)
takes-two (Bits width n) ws takes other = absurd (other.constant width n refl)
takes-two Not ws takes other = absurd (other.negation refl)
takes-two And ws takes other = absurd (other.conjunction refl)
takes-two Or ws takes other = absurd (other.disjunction refl)
takes-two Xor ws takes other = absurd (other.exclusive refl)
takes-two Implies ws takes other = absurd (other.implication refl)
takes-two Distinct ws takes other = absurd (other.distinction refl)
takes-two Ite ws takes other = absurd (other.choice refl)
takes-two (Extract high low) ws takes other = absurd (other.part high low refl)
takes-two BvNot ws takes other = absurd (other.inverse refl)
takes-two BvNeg ws takes other = absurd (other.opposite refl)
takes-two (ZeroExt i) ws takes other = absurd (other.zero_extension i refl)
takes-two (SignExt i) ws takes other = absurd (other.sign_extension i refl)
takes-two (RotL i) ws takes other = absurd (other.turn_left i refl)
takes-two (RotR i) ws takes other = absurd (other.turn_right i refl)
takes-two _ ws takes other = takes
