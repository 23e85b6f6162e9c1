-- A text that is moved in parts.
use Rattle.std.proofs.Common.{◌≡◌, ℕ, ◌+◌, ◌-◌, List, ◌++◌, length, take, drop, Option, None, Some, refl, sym, ap, ◌∙◌, append_assoc, take_all, length-drop, arith}
use Rattle.std.proofs.Math.Seq.{take-add}
use Rattle.smt_io.specs.Counts.{NeverFalls, RoseBy, raised_by}
use Rattle.smt_io.specs.Told.{with_bytes, behind}

pub with_bytes-twice : (told : Option (List ℕ)) (xs ys : List ℕ) → with_bytes (with_bytes told xs) ys ≡ with_bytes told (xs ++ ys)
with_bytes-twice None xs ys = refl
with_bytes-twice (Some zs) xs ys = ap Some (append_assoc zs xs ys)

pub behind-twice : (told : Option (List ℕ)) (xs ys : List ℕ) → behind xs (behind ys told) ≡ behind (xs ++ ys) told
behind-twice None xs ys = refl
behind-twice (Some zs) xs ys = ap Some (sym (append_assoc xs ys zs))

-- what a range to the end of a slice is
pub take-rest : (bytes : List ℕ) (done : ℕ) → take (length bytes - done) (drop done bytes) ≡ drop done bytes
take-rest bytes done = take_all (length bytes - done) (drop done bytes) (simp length-drop (omega arith))

-- one more piece was sent
pub sent_more : (first before now : Option (List ℕ)) (bytes : List ℕ) (done n : ℕ)
    → before ≡ with_bytes first (take done bytes)
    → now ≡ with_bytes before (take n (take (length bytes - done) (drop done bytes)))
    → now ≡ with_bytes first (take (done + n) bytes)
sent_more first before now bytes done n e f =
    f ∙ ap (λ xs. with_bytes before (take n xs)) (take-rest bytes done) ∙ ap (λ t. with_bytes t (take n (drop done bytes))) e
    ∙ with_bytes-twice first _ _ ∙ ap (λ xs. with_bytes first xs) (sym (take-add done n bytes))

-- one more block was read
pub taken_more : (text before now : Option (List ℕ)) (old new : List ℕ) (filled n : ℕ)
    → text ≡ behind (take filled old) before → take filled new ≡ take filled old
    → before ≡ behind (take n (drop filled new)) now
    → text ≡ behind (take (filled + n) new) now
taken_more text before now old new filled n e same f =
    e ∙ ap (λ xs. behind xs before) (sym same) ∙ ap (λ t. behind (take filled new) t) f ∙ behind-twice now _ _ ∙ ap (λ xs. behind xs now) (sym (take-add filled n new))

pub given_more : (first before now filled n : ℕ) → RoseBy filled first before → now ≡ raised_by n before → RoseBy (filled + n) first now
given_more first before now filled n rose e = omega arith

pub NeverFalls-trans : (a b c : ℕ) → NeverFalls a b → NeverFalls b c → NeverFalls a c
NeverFalls-trans a b c p q = (omega arith, omega arith)
