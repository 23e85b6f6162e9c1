-- A prefix of a text that was sent in parts.
use Rattle.std.proofs.Common.{◌≡◌, ℕ, suc, ◌+◌, ◌<◌, ◌≤◌, List, ◌++◌, length, get_or, take, drop, Option, Result, Ok, Err, OnErr, refl, sym, ap, ◌∙◌, append_assoc, take_all, le_refl, length-append, arith}
use Rattle.std.proofs.Math.Seq.{drop-cons, take-append-add}
use Rattle.std.proofs.lemmas.List.{take-append-le, take-append-drop}
use Rattle.std.proofs.lemmas.List.Concat.{flat_map-append, flat_map-cons}
use Rattle.std.specs.List.{flat_map}
use Rattle.smt_io.specs.Told.{with_bytes}
use Rattle.smt_io.proofs.Transfers.{with_bytes-twice}

pub OnErr-from : {T E P : Type 0} (r : Result T E) → P → OnErr r P
OnErr-from (Ok x) p = tt
OnErr-from (Err e) p = p

-- a prefix of the bytes was sent
abbrev pub SentPrefix : Option (List ℕ) → Option (List ℕ) → List ℕ → Type 0
SentPrefix first now bytes = (n : ℕ) × (n ≤ length bytes) × (now ≡ with_bytes first (take n bytes))

-- of a longer text too
pub SentPrefix-front : (first now : Option (List ℕ)) (a b whole : List ℕ) → a ++ b ≡ whole → SentPrefix first now a → SentPrefix first now whole
SentPrefix-front first now a b whole e p = (
  p.0,
  (let l = ap length (sym e) in let m = length-append a b in let h = p.1 in omega arith),
  p.2 ∙ ap (λ xs. with_bytes first xs) (sym (take-append-le p.0 a b p.1) ∙ ap (λ xs. take p.0 xs) e),
)

-- after what was sent before
pub SentPrefix-behind : (first before now : Option (List ℕ)) (a b whole : List ℕ) → a ++ b ≡ whole → before ≡ with_bytes first a → SentPrefix before now b → SentPrefix first now whole
SentPrefix-behind first before now a b whole e sent p = (
  length a + p.0,
  (let l = ap length (sym e) in let m = length-append a b in let h = p.1 in omega arith),
  p.2 ∙ ap (λ t. with_bytes t (take p.0 b)) sent ∙ with_bytes-twice first a (take p.0 b)
      ∙ ap (λ xs. with_bytes first xs) (sym (take-append-add a b p.0) ∙ ap (λ xs. take (length a + p.0) xs) e),
)

-- the whole text
pub SentPrefix-whole : (first now : Option (List ℕ)) (bytes : List ℕ) → now ≡ with_bytes first bytes → SentPrefix first now bytes
SentPrefix-whole first now bytes e = (length bytes, le_refl _, e ∙ ap (λ xs. with_bytes first xs) (sym (take_all (length bytes) bytes (le_refl _))))

-- the pieces before one, that piece, and those behind it
flat_map-parts : {X : Type 0} (f : X → List ℕ) (xs : List X) (i : ℕ) (d : X) → i < length xs
    → (flat_map f (take i xs) ++ f (get_or xs i d)) ++ flat_map f (drop (suc i) xs) ≡ flat_map f xs
flat_map-parts f xs i d lt =
    append_assoc (flat_map f (take i xs)) (f (get_or xs i d)) (flat_map f (drop (suc i) xs))
    ∙ ap (λ ys. flat_map f (take i xs) ++ ys) (sym (ap (flat_map f) (drop-cons xs i d lt) ∙ flat_map-cons f (get_or xs i d) (drop (suc i) xs)))
    ∙ sym (flat_map-append f (take i xs) (drop i xs))
    ∙ ap (flat_map f) (take-append-drop i xs)

-- a prefix of one piece, after the pieces before it
pub SentPrefix-piece : {X : Type 0} (f : X → List ℕ) (xs : List X) (i : ℕ) (x : X) (piece : List ℕ) (first before now : Option (List ℕ))
    → i < length xs → x ≡ get_or xs i x → piece ≡ f x
    → before ≡ with_bytes first (flat_map f (take i xs)) → SentPrefix before now piece → SentPrefix first now (flat_map f xs)
SentPrefix-piece f xs i x piece first before now lt is same sent p =
    SentPrefix-front first now (flat_map f (take i xs) ++ piece) (flat_map f (drop (suc i) xs)) (flat_map f xs)
    (ap (λ ys. (flat_map f (take i xs) ++ ys) ++ flat_map f (drop (suc i) xs)) (same ∙ ap f is) ∙ flat_map-parts f xs i x lt)
    (SentPrefix-behind first before now (flat_map f (take i xs)) piece _ refl sent p)

-- two parts were sent, one after the other
pub sent_both : (first before now : Option (List ℕ)) (a b whole : List ℕ) → a ++ b ≡ whole → before ≡ with_bytes first a → now ≡ with_bytes before b → now ≡ with_bytes first whole
sent_both first before now a b whole e p q = q ∙ ap (λ t. with_bytes t b) p ∙ with_bytes-twice first a b ∙ ap (λ xs. with_bytes first xs) e

-- the bytes of the full pieces and of the last one, as they are lent
pub lent_bytes : {X : Type 0} (f : X → List ℕ) (full lent : List X) (last lent_last whole : List ℕ) → lent ≡ full → lent_last ≡ last → flat_map f full ++ last ≡ whole → flat_map f lent ++ lent_last ≡ whole
lent_bytes f full lent last lent_last whole p q e = ap (λ xs. flat_map f xs ++ lent_last) p ∙ ap (λ xs. flat_map f full ++ xs) q ∙ e
