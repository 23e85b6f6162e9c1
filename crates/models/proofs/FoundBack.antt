-- What is found from the last command back, where the search ends at a command that begins anew.
use Rattle.std.proofs.Common.{◌≡◌, ◌∙◌, sym, ap, refl, ℕ, zero, suc, ◌+◌, ◌-◌, ◌==◌, ◌<◌, ◌≤◌, Bool, true, false, if◌then◌else◌, List, [], ◌∷◌, length, drop, get_or, arith}
use Rattle.std.proofs.lemmas.List.{drop_more}
use Rattle.script_read.specs.declared.scripts.Command.{Command}
use Rattle.script_read.specs.declared.scripts.Command.TheVariants.{Passed, DeclareSort, Declare, Assert, Check, CheckAssuming, Push, Pop, Reset, ResetAssertions, Globals, Exit}
use Rattle.models.specs.GoingBack.{begins_anew, Found, with_sort, with_symbol, with_closed, met, begun_anew, found_before, found_in}

module _ (g : Bool) where
  -- commands before one that begins anew change nothing
  pub stays : (c : Command) (f : Found) → f.anew ≡ true → found_before g c f ≡ f
  stays c f h = ap (λ b. if b then f else (if begins_anew g c then begun_anew f else met g c f)) h

  settled : (n : ℕ) (cs : List Command) → (found_in g (drop n cs)).anew ≡ true → found_in g cs ≡ found_in g (drop n cs)
  settled zero cs h = refl
  settled (suc n) [] h = refl
  settled (suc n) (c ∷ cs) h =
      let same = settled n cs h in
      stays c (found_in g cs) (ap (λ (f : Found). f.anew) same ∙ h) ∙ same

  pub begins : (c : Command) (f : Found) → f.anew ≡ false → begins_anew g c ≡ true → found_before g c f ≡ begun_anew f
  begins c f going h =
      ap (λ b. if b then f else (if begins_anew g c then begun_anew f else met g c f)) going ∙ ap (λ b. if b then begun_anew f else met g c f) h

  pub goes_on : (c : Command) (f : Found) → f.anew ≡ false → begins_anew g c ≡ false → found_before g c f ≡ met g c f
  goes_on c f going h =
      ap (λ b. if b then f else (if begins_anew g c then begun_anew f else met g c f)) going ∙ ap (λ b. if b then begun_anew f else met g c f) h

  either_anew : (f k : Found) (b : Bool) → k.anew ≡ f.anew → (if b then k else f).anew ≡ f.anew
  either_anew f k true h = h
  either_anew f k false h = refl

  pub met_on : (c : Command) (f : Found) → (met g c f).anew ≡ f.anew
  met_on (Passed text) f = refl
  met_on (DeclareSort s) f = either_anew f (with_sort s f) (f.closed == 0) refl
  met_on (Declare s) f = either_anew f (with_symbol s f) (f.closed == 0) refl
  met_on (Assert id number) f = refl
  met_on Check f = refl
  met_on (CheckAssuming ids) f = refl
  met_on (Push n) f = refl
  met_on (Pop n) f = popped g
    where
      popped : (b : Bool) → (if b then f else with_closed (f.closed + n) f).anew ≡ f.anew
      popped true = refl
      popped false = refl
  met_on Reset f = refl
  met_on ResetAssertions f = refl
  met_on (Globals b) f = refl
  met_on Exit f = refl

  ended : (cs : List Command) (i : ℕ) (c : Command) → i < length cs → c ≡ get_or cs i c → begins_anew g c ≡ true
      → (found_in g (drop (i + 1) cs)).anew ≡ false → found_in g cs ≡ begun_anew (found_in g (drop (i + 1) cs))
  ended cs i c within is anew going =
      let last : found_in g (drop i cs) ≡ begun_anew (found_in g (drop (i + 1) cs)) =
      ap (found_in g) (drop_more cs i c within ∙ ap (λ d. d ∷ drop (i + 1) cs) (sym is)) ∙ begins c (found_in g (drop (i + 1) cs)) going anew in
      settled i cs (ap (λ (f : Found). f.anew) last) ∙ last

  -- all is found where the search ends at a command that begins anew
  pub found-ended : (cs : List Command) (n : ℕ) (c : Command) → 0 < n → n ≤ length cs → c ≡ get_or cs (n - 1) c → begins_anew g c ≡ true
      → (found_in g (drop n cs)).anew ≡ false → found_in g cs ≡ begun_anew (found_in g (drop n cs))
  found-ended cs n c some within is anew going =
      let one_more : n - 1 + 1 ≡ n = omega (arith, some) in
      ended cs (n - 1) c (omega (arith, some, within)) is anew (ap (λ i. (found_in g (drop i cs)).anew) one_more ∙ going)
      ∙ ap (λ i. begun_anew (found_in g (drop i cs))) one_more
