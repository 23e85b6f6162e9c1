-- Prefixes of a text that is appended in pieces.
use Rattle.std.proofs.Common.{◌≡◌, ℕ, List, [], ◌++◌, length, take, drop, Result, Ok, Err, OnOk, OnErr, refl, ap, sym, ◌∙◌, arith, append_assoc, append-nil, length-append}
use Rattle.std.proofs.lemmas.List.{take-append-drop}
use Rattle.std.proofs.Math.Seq.{take-append_seam}
use Rattle.smt_print.specs.Prefix.{AppendsPrefix, Drafts}

pub on_err : {T E : Type 0} (r : Result T E) (P : Type 0) → P → OnErr r P
on_err (Ok x) P p = tt
on_err (Err e) P p = p

pub on_ok : {T E : Type 0} (r : Result T E) (P Q : Type 0) → (P → Q) → OnOk r P → OnOk r Q
on_ok (Ok x) P Q to p = to p
on_ok (Err e) P Q to p = tt

-- what was appended is a part of the text
pub prefix-whole : (old now done rest text : List ℕ) → now ≡ old ++ done → done ++ rest ≡ text → AppendsPrefix old now text
prefix-whole old now done rest text is whole = (
  length done,
  (let long = ap length (sym whole) ∙ length-append done rest in omega (arith, long)),
  is ∙ ap (λ xs. old ++ xs) (sym (ap (take (length done)) (sym whole) ∙ take-append_seam done rest)),
)

-- a prefix of the next piece was appended
pub prefix-piece : (old now new done bytes piece rest text : List ℕ) → now ≡ old ++ done → AppendsPrefix now new bytes → bytes ≡ piece → (done ++ piece) ++ rest ≡ text → AppendsPrefix old new text
prefix-piece old now new done bytes piece rest text is (n, few, more) same whole =
    prefix-whole old new (done ++ take n bytes) (drop n bytes ++ rest) text
    (more ∙ ap (λ xs. xs ++ take n bytes) is ∙ append_assoc old done (take n bytes))
    (append_assoc done (take n bytes) (drop n bytes ++ rest) ∙ ap (λ xs. done ++ xs) (sym (append_assoc (take n bytes) (drop n bytes) rest) ∙ ap (λ xs. xs ++ rest) (take-append-drop n bytes ∙ same))
    ∙ sym (append_assoc done piece rest) ∙ whole)

-- ---- drafts

-- text that waits behind what waited
pub drafts-waiting : (old waited waits text : List ℕ) → waits ≡ waited ++ text → Drafts old waited old waits text
drafts-waiting old waited waits text is = ([], sym (append-nil old), is)

-- one text behind the other
pub drafts-more : (old waited now waits new last text more : List ℕ) → Drafts old waited now waits text → Drafts now waits new last more → Drafts old waited new last (text ++ more)
drafts-more old waited now waits new last text more (done, is, same) (next, after, last_same) = (
  done ++ next,
  after ∙ ap (λ xs. xs ++ next) is ∙ append_assoc old done next,
  append_assoc done next last ∙ ap (λ xs. done ++ xs) last_same ∙ sym (append_assoc done waits more) ∙ ap (λ xs. xs ++ more) same ∙ append_assoc waited text more,
)

-- a prefix of the next text was appended
pub prefix-behind : (old waited now waits new text piece rest whole : List ℕ) → Drafts old waited now waits text → AppendsPrefix now new (waits ++ piece) → (text ++ piece) ++ rest ≡ whole → AppendsPrefix old new (waited ++ whole)
prefix-behind old waited now waits new text piece rest whole (done, is, same) more all =
    prefix-piece old now new done (waits ++ piece) (waits ++ piece) rest (waited ++ whole) is more refl
    (ap (λ xs. xs ++ rest) (sym (append_assoc done waits piece) ∙ ap (λ xs. xs ++ piece) same) ∙ pieces waited text piece rest ∙ ap (λ xs. waited ++ xs) all)
  where
    pieces : (waited text piece rest : List ℕ) → ((waited ++ text) ++ piece) ++ rest ≡ waited ++ ((text ++ piece) ++ rest)
    pieces waited text piece rest = simp append_assoc

-- nothing was appended since
pub prefix-drafted : (old waited now waits text rest whole : List ℕ) → Drafts old waited now waits text → text ++ rest ≡ whole → AppendsPrefix old now (waited ++ whole)
prefix-drafted old waited now waits text rest whole (done, is, same) all =
    prefix-whole old now done (waits ++ rest) (waited ++ whole) is (sym (append_assoc done waits rest) ∙ ap (λ xs. xs ++ rest) same ∙ append_assoc waited text rest ∙ ap (λ xs. waited ++ xs) all)

-- some of what waited was appended
pub passed : (done waited more waits : List ℕ) → more ++ waits ≡ waited ++ [] → done ++ waited ≡ (done ++ more) ++ waits
passed done waited more waits same = ap (λ xs. done ++ xs) (sym (append-nil waited) ∙ sym same) ∙ sym (append_assoc done more waits)

-- a prefix of what waited was appended
pub prefix-waiting : (old now waits new text rest whole : List ℕ) → Drafts old [] now waits text → AppendsPrefix now new waits → text ++ rest ≡ whole → AppendsPrefix old new whole
prefix-waiting old now waits new text rest whole (done, is, same) more all = prefix-piece old now new done waits waits rest whole is more refl (ap (λ xs. xs ++ rest) same ∙ all)

-- all that waited was appended
pub drafts-all : (old now waits new text : List ℕ) → Drafts old [] now waits text → new ≡ now ++ waits → new ≡ old ++ text
drafts-all old now waits new text (done, is, same) after = after ∙ ap (λ xs. xs ++ waits) is ∙ append_assoc old done waits ∙ ap (λ xs. old ++ xs) same
