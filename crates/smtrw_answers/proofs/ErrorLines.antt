-- Lines on the error stream, sent whole or in parts.
use Rattle.std.proofs.Common.{◌≡◌, ◌⊎◌, ℕ, List, [], ◌∷◌, ◌++◌, Option, Result, Ok, Err, OnOk, OnErr, refl, sym, ap, ◌∙◌, subst, append_assoc, codes}
use Rattle.smt_io.specs.Told.{with_bytes}
use Rattle.smt_io.proofs.Prefixes.{SentPrefix, SentPrefix-front, SentPrefix-behind, SentPrefix-whole, sent_both}
use Rattle.smtrw_answers.specs.Answers.{program_line}
use Rattle.smtrw_answers.specs.Said.{GotPrefix}

-- the same line in other words
pub got_line : (before now : Option (List ℕ)) (a b : List ℕ) → a ≡ b → GotPrefix before now a → GotPrefix before now b
got_line before now a b e = subst (GotPrefix before now) e

pub whole_line : (Rises : Type 0) (before now : Option (List ℕ)) (a b : List ℕ) → a ≡ b → Rises ⊎ (now ≡ with_bytes before a) → Rises ⊎ (now ≡ with_bytes before b)
whole_line Rises before now a b e = let P : List ℕ → Type 0 = λ line. Rises ⊎ (now ≡ with_bytes before line) in subst P e

-- a prefix is what an end of either kind leaves
pub got_prefix : {T E : Type 0} (r : Result T E) (before now : Option (List ℕ)) (line : List ℕ)
    → OnOk r (now ≡ with_bytes before line) → OnErr r (GotPrefix before now line) → GotPrefix before now line
got_prefix (Ok x) before now line whole part = let p = SentPrefix-whole before now line whole in (p.0, p.2)
got_prefix (Err e) before now line whole part = part

pub sent_prefix : {T E : Type 0} (r : Result T E) (before now : Option (List ℕ)) (line : List ℕ)
    → OnOk r (now ≡ with_bytes before line) → OnErr r (SentPrefix before now line) → GotPrefix before now line
sent_prefix (Ok x) before now line whole part = let p = SentPrefix-whole before now line whole in (p.0, p.2)
sent_prefix (Err e) before now line whole part = (part.0, part.2)

-- ---- a file that wasn't read, in three parts

abbrev pub unread_line : List ℕ → List ℕ
unread_line name = program_line (codes "reading " ++ name ++ codes " failed")

unread_parts : (name : List ℕ) → codes "smtrw: reading " ++ (name ++ codes " failed\n") ≡ unread_line name
unread_parts name = ap (λ xs. codes "smtrw: reading " ++ xs) (sym (append_assoc name (codes " failed") (10 ∷ [])))

unread_ends : (name : List ℕ) → (codes "smtrw: reading " ++ name) ++ codes " failed\n" ≡ unread_line name
unread_ends name = append_assoc (codes "smtrw: reading ") name (codes " failed\n") ∙ unread_parts name

module _ (name : List ℕ) (first one two three : Option (List ℕ)) where
  pub first_part : SentPrefix first one (codes "smtrw: reading ") → GotPrefix first one (unread_line name)
  first_part p =
      let q = SentPrefix-front first one (codes "smtrw: reading ") (name ++ codes " failed\n") (unread_line name) (unread_parts name) p in
      (q.0, q.2)

  pub second_part : one ≡ with_bytes first (codes "smtrw: reading ") → SentPrefix one two name → GotPrefix first two (unread_line name)
  second_part sent p =
      let longer = SentPrefix-front one two name (codes " failed\n") (name ++ codes " failed\n") refl p in
      let q = SentPrefix-behind first one two (codes "smtrw: reading ") (name ++ codes " failed\n") (unread_line name) (unread_parts name) sent longer in
      (q.0, q.2)

  pub third_part : one ≡ with_bytes first (codes "smtrw: reading ") → two ≡ with_bytes one name → SentPrefix two three (codes " failed\n") → GotPrefix first three (unread_line name)
  third_part sent sent_name p =
      let both = sent_both first one two (codes "smtrw: reading ") name (codes "smtrw: reading " ++ name) refl sent sent_name in
      let q = SentPrefix-behind first two three (codes "smtrw: reading " ++ name) (codes " failed\n") (unread_line name) (unread_ends name) both p in
      (q.0, q.2)

  pub all_parts : one ≡ with_bytes first (codes "smtrw: reading ") → two ≡ with_bytes one name → three ≡ with_bytes two (codes " failed\n") → three ≡ with_bytes first (unread_line name)
  all_parts sent sent_name sent_end =
      let both = sent_both first one two (codes "smtrw: reading ") name (codes "smtrw: reading " ++ name) refl sent sent_name in
      sent_both first two three (codes "smtrw: reading " ++ name) (codes " failed\n") (unread_line name) (unread_ends name) both sent_end
