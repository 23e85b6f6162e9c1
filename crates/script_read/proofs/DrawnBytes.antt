-- Where the bytes that a drawn name begins with stand nowhere in a text, no symbol of it begins so.
use Rattle.std.proofs.Common.{◌≡◌, ℕ, ◌+◌, ◌-◌, ◌<◌, ◌≤◌, Bool, true, false, cond, List, [], ◌∷◌, ◌++◌, length, take, drop, get_or, codes, None, Some, refl, ap, sym, ◌∙◌, arith, Option}
use Rattle.std.proofs.lemmas.Bool.Decides.{Decides-eqb}
use Rattle.std.proofs.lemmas.List.{get_or-take, get_or-drop, length-take}
use Rattle.std.proofs.lemmas.List.Elements.{filter-append}
use Rattle.std.proofs.lemmas.Slice.Eq.{starts_is}
use Rattle.memchr.specs.Find.{OccursAt, Nowhere}
use Rattle.memchr.proofs.lemmas.MatchLemmas.{OccursAt-from_part}
use Rattle.smt_lex.specs.declared.items.Item.{Item}
use Rattle.smt_lex.specs.declared.items.Item.TheVariants.{Word, Quoted}
use Rattle.smt_lex.specs.Lex.{symbol_by, symbol_of}
use Rattle.smt_lex.specs.Names.{Name, is_reserved, is_among}
use Rattle.smt_lex.specs.Forest.{Source, IsScanned, token_at, end_of}
use Rattle.term_subst.specs.Names.{begins_as_drawn}
use Rattle.script_read.specs.DrawnNames.{drawn_among}
use Rattle.script_terms.specs.Places.{forms_from}
use Rattle.script_terms.specs.TextNames.{with_name, names_with_all}
use Rattle.script_read.proofs.TextNames.{holds_of_names}

-- ---- in a part, and so in the whole

module _ (whole part needle : List ℕ) (start m k : ℕ) (is : part ≡ take m (drop start whole)) (within : start + length part ≤ length whole) (occurs : OccursAt part needle k) where
  part_is_short : length part ≤ m
  part_is_short = let long = ap length is ∙ length-take m (drop start whole) in omega (arith, long)

  reads_there : (j : ℕ) → j < length needle → get_or whole (start + k + j) 0 ≡ get_or needle j 0
  reads_there j below =
      let place : start + (k + j) ≡ start + k + j = omega arith in
      let inside : k + j < m = omega (arith, part_is_short, occurs.fits) in
      sym (ap (λ i. get_or whole i 0) place) ∙ sym (get_or-drop start whole (k + j) 0) ∙ sym (get_or-take m (drop start whole) (k + j) 0 inside)
      ∙ sym (ap (λ xs. get_or xs (k + j) 0) is) ∙ occurs.reads j below

  occurs_in_whole : OccursAt whole needle (start + k)
  occurs_in_whole = record { fits = omega (arith, within, occurs.fits); reads = reads_there }

-- ---- in the text of a symbol

drawn_start : (n : Name) → begins_as_drawn n ≡ true → n ≡ codes "FV" ++ drop 2 n
drawn_start n drawn = (starts_is Decides-eqb n (codes "FV") (begins_as_drawn n) refl).0 drawn

at_start : (n : Name) → begins_as_drawn n ≡ true → OccursAt n (codes "FV") 0
at_start n drawn =
    let is = drawn_start n drawn in
    let long = ap length is in
    OccursAt-from_part n (codes "FV") 0 (omega (arith, long)) (ap (take 2) is)

in_quoted : (text n : Name) → n ≡ take (length text - 2) (drop 1 text) → OccursAt n (codes "FV") 0 → OccursAt text (codes "FV") 1
in_quoted text n is occurs =
    let long = ap length is ∙ length-take (length text - 2) (drop 1 text) in
    occurs_in_whole text n (codes "FV") 1 (length text - 2) 0 is (omega (arith, long, occurs.fits)) occurs

in_text : (item : Item) (text n : Name) → symbol_by item text ≡ Some n → begins_as_drawn n ≡ true → (k : ℕ) × OccursAt text (codes "FV") k
in_text Word text n is drawn = word (is_reserved text) is
  where
    word : (reserved : Bool) → cond reserved None (Some text) ≡ Some n → (k : ℕ) × OccursAt text (codes "FV") k
    word true symbol = absurd cc
    word false symbol = let same : text ≡ n = cc in (0, at_start text (ap begins_as_drawn same ∙ drawn))
in_text Quoted text n is drawn = let same : n ≡ take (length text - 2) (drop 1 text) = cc in (1, in_quoted text n same (at_start n drawn))
in_text _ text n is drawn = absurd cc

-- ---- in no symbol of the text

abbrev IsUndrawn : List Name → Type 0
IsUndrawn ns = drawn_among ns ≡ []

undrawn_with : (ns : List Name) (n : Name) → begins_as_drawn n ≡ false → (there : Bool) → IsUndrawn ns → IsUndrawn (cond there ns (ns ++ n ∷ []))
undrawn_with ns n other true undrawn = undrawn
undrawn_with ns n other false undrawn = filter-append begins_as_drawn ns (n ∷ []) ∙ ap (λ ks. ks ++ drawn_among (n ∷ [])) undrawn ∙ ap (λ b. cond b (n ∷ []) []) other

module _ (s : Source) (scanned : IsScanned s) (absent : Nowhere (OccursAt s.bytes (codes "FV")) 0 (length s.bytes + 1)) where
  other_name : (i : ℕ) (n : Name) → i < length s.tokens → symbol_of (token_at s.tokens i) ≡ Some n → begins_as_drawn n ≡ false
  other_name i n within symbol = by (begins_as_drawn n) refl
    where
      by : (b : Bool) → begins_as_drawn n ≡ b → b ≡ false
      by true drawn =
          let t = token_at s.tokens i in
          let (k, occurs) = in_text t.item t.text n symbol drawn in
          let there = occurs_in_whole s.bytes t.text (codes "FV") t.start (end_of t - t.start) k (scanned.texts i within) (scanned.within i within) occurs in
          absurd (absent (t.start + k) (omega arith) (omega (arith, there.fits)) there)
      by false other = refl

  undrawn_next : (i : ℕ) → i < length s.tokens → (ns : List Name) → IsUndrawn ns → IsUndrawn (with_name ns (symbol_of (token_at s.tokens i)))
  undrawn_next i within ns undrawn = by (symbol_of (token_at s.tokens i)) refl
    where
      by : (o : Option Name) → symbol_of (token_at s.tokens i) ≡ o → IsUndrawn (with_name ns o)
      by None is = undrawn
      by (Some n) is = undrawn_with ns n (other_name i n within is) (is_among ns n) undrawn

  pub none_drawn : drawn_among (names_with_all [] (forms_from s.tokens 0)) ≡ []
  none_drawn = holds_of_names s.tokens IsUndrawn refl undrawn_next scanned.balanced
