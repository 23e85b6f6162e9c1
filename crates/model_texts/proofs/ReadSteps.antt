-- A text is read part by part: what one part gives is passed on to the rest, and its refusal is that of the whole.
use Rattle.std.proofs.Common.{◌≡◌, ◌∙◌, sym, ap, subst, refl, List, Result, Ok, Err}
use Rattle.term_table.specs.Formulas.{Formulas}
use Rattle.model_texts.specs.Behind.{LeavesToRead}
use Rattle.model_texts.specs.Met.{MetNames, names_kept}
use Rattle.model_texts.specs.Reading.{Element, Reading, ◌>>=◌, continued}
use Rattle.model_texts.specs.Replies.{AreElementsOf, Replies}
use Rattle.model_texts.specs.declared.faults.TextFault.{TextFault}
use Rattle.model_texts.proofs.StoreReading.{refused_on, accepted}

abbrev pub Known : Formulas → MetNames → List Element → Type 0
Known t ms es = AreElementsOf t (names_kept ms) es

-- the code's answer for a reading, from elements that are known before to those that are known then
abbrev pub Answers : {P A : Type 0} → (P → A → Type 0) → Formulas → MetNames → MetNames → Reading A → Result P TextFault → Type 0
Answers R t old new reading r = (es : List Element) → Known t old es → Replies R (Known t new) (reading es) r

pub nothing_read : {A : Type 0} (t : Formulas) (ms : MetNames) (whole : Reading A) → LeavesToRead t ms ms whole whole
nothing_read t ms whole es known = (es, (known, refl))

module _ {P A B : Type 0} (R : P → A → Type 0) (t : Formulas) (old now new : MetNames) (whole : Reading B) (r : Reading A) (next : A → Reading B)
    (left : LeavesToRead t old now whole (r >>= next)) where
  pub part_refused : {Q : Type 0} (S : Q → B → Type 0) (x : TextFault) → Answers R t now new r (Err x) → Answers S t old new whole (Err x)
  part_refused S x refused es known =
      let d = left es known in
      subst (λ q. Replies S (Known t new) q (Err x)) (sym d.1.1) (refused_on R S (Known t new) (Known t new) next (r d.0) x (refused d.0 d.1.0))

  pub part_read : (p : P) (a : A) → ((b : A) → R p b → b ≡ a) → Answers R t now new r (Ok p) → LeavesToRead t old new whole (next a)
  part_read p a is read es known =
      let d = left es known in
      let q = accepted R (Known t new) (r d.0) p (read d.0 d.1.0) in
      (q.1, (q.4, d.1.1 ∙ ap (continued next) q.2 ∙ ap (λ b. next b q.1) (is q.0 q.3)))

-- nothing is left to read
pub all_read : {P A : Type 0} (R : P → A → Type 0) (t : Formulas) (old now : MetNames) (whole : Reading A) (p : P) (a : A) → LeavesToRead t old now whole (λ fs. Ok (a, fs)) → R p a → Answers R t old now whole (Ok p)
all_read R t old now whole p a left is es known =
    let d = left es known in
    subst (λ q. Replies R (Known t now) q (Ok p)) (sym d.1.1) (is, d.1.0)
