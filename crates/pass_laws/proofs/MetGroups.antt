-- What is met among commands, going back, is what is found among those that they are told of.
use Rattle.std.proofs.Common.{◌≡◌, ◌∙◌, sym, ap, refl, ◌+◌, ◌-◌, ◌==◌, Bool, true, false, true≢false, not, ◌&&◌, ◌||◌, if◌then◌else◌, List, [], ◌∷◌, ◌++◌, map, flat_map}
use Rattle.smt_terms.specs.Free.{is_among}
use Rattle.smt_terms.specs.Sorts.{Symbol}
use Rattle.smt_terms.proofs.Among.{is_among-append}
use Rattle.term_groups.specs.Grouping.{symbols_of}
use Rattle.script_read.specs.Commands.{Command, declare, assert, push, pop, reset, reset_assertions}
use Rattle.pass_laws.specs.LiveGroups.{Drawn, drawn_of, all_told, Met, met_in, symbols_in}
use Rattle.pass_laws.specs.Passed.{Replacement}
use Rattle.pass_laws.proofs.FoundGroups.{Found, found_in, none_closed}
use Rattle.pass_laws.proofs.ToldCommands.{told_declared}

-- ---- what is met of one assertion

abbrev chosen : Bool → Bool → Drawn → Met → Met
chosen lives idles d m = if lives then record m { live = d ∷ m.live } else (if idles then record m { idle = d ∷ m.idle } else m)

module _ (d : Drawn) (m : Met) where
  chosen_anew : (a b : Bool) → (chosen a b d m).anew ≡ m.anew
  chosen_anew true b = refl
  chosen_anew false true = refl
  chosen_anew false false = refl

  chosen_gone : (a b : Bool) → (chosen a b d m).gone ≡ m.gone
  chosen_gone true b = refl
  chosen_gone false true = refl
  chosen_gone false false = refl

  chosen_closed : (a b : Bool) → (chosen a b d m).closed ≡ m.closed
  chosen_closed true b = refl
  chosen_closed false true = refl
  chosen_closed false false = refl

  chosen_live : (a b : Bool) → (chosen a b d m).live ≡ (if a then d ∷ m.live else m.live)
  chosen_live true b = refl
  chosen_live false true = refl
  chosen_live false false = refl

  chosen_idle : (a : Bool) → (chosen a false d m).idle ≡ m.idle
  chosen_idle true = refl
  chosen_idle false = refl

-- a function more, or none
pub noted : (P : Met → Type 0) (b : Bool) (f : Symbol) (m : Met) → P m → P (record m { functions = f ∷ m.functions }) → P (if b then record m { functions = f ∷ m.functions } else m)
noted P true f m without one_more = one_more
noted P false f m without one_more = without

-- ---- the live ones

pub record IsMet (m : Met) (w : Found Replacement) : Type 0 where
  pub anew : m.anew ≡ w.anew
  pub closed : m.closed ≡ w.closed
  pub live : m.live ≡ map drawn_of w.found

one_more : (b : Bool) (r : Replacement) (rs : List Replacement) → (if b then drawn_of r ∷ map drawn_of rs else map drawn_of rs) ≡ map drawn_of (if b then r ∷ rs else rs)
one_more true r rs = refl
one_more false r rs = refl

or_not_false : (b : Bool) → true ≡ (b || not false)
or_not_false true = refl
or_not_false false = refl

module _ (global : Bool) where
  pub is_met : (rs : List (Command Replacement)) → IsMet (met_in global (all_told rs)) (found_in Replacement false rs)
  is_met [] = record { anew = refl; closed = refl; live = refl }
  is_met (declare f ∷ rs) =
      let m : Met = met_in global (all_told rs) in
      let w : Found Replacement = found_in Replacement false rs in
      let h : IsMet m w = is_met rs in
      told_declared (λ cs. IsMet (met_in global cs) w) f (all_told rs) h
      (noted (λ n. IsMet n w) (not m.gone && (global || m.closed == 0)) f m h (record { anew = h.anew; closed = h.closed; live = h.live }))
  is_met (assert i r ∷ rs) =
      let m : Met = met_in global (all_told rs) in
      let w : Found Replacement = found_in Replacement false rs in
      let h : IsMet m w = is_met rs in
      let lives : Bool = not m.anew && m.closed == 0 in
      record {
        anew = chosen_anew (drawn_of r) m lives (global && not m.gone) ∙ h.anew;
        closed = chosen_closed (drawn_of r) m lives (global && not m.gone) ∙ h.closed;
        live = chosen_live (drawn_of r) m lives (global && not m.gone)
            ∙ (λ j. if not (h.anew j) && h.closed j == 0 then drawn_of r ∷ h.live j else h.live j)
            ∙ one_more (not w.anew && w.closed == 0) r w.found;
      }
  is_met (push n ∷ rs) = let h = is_met rs in record { anew = h.anew; closed = ap (λ k. k - n) h.closed; live = h.live }
  is_met (pop n ∷ rs) = let h = is_met rs in record { anew = h.anew; closed = ap (λ k. k + n) h.closed; live = h.live }
  is_met (reset ∷ rs) = let h = is_met rs in record { anew = refl; closed = h.closed; live = h.live }
  is_met (reset_assertions ∷ rs) = let h = is_met rs in record { anew = or_not_false (found_in Replacement false rs).anew; closed = h.closed; live = h.live }
  is_met (c ∷ rs) = is_met rs

-- ---- those whose symbols are live

abbrev pub symbols_for : List Replacement → List Symbol
symbols_for rs = flat_map (λ r. symbols_of r.group.symbols) rs

-- a symbol of what is met
abbrev pub is_met_symbol : Met → Symbol → Bool
is_met_symbol m f = is_among (symbols_in m.live) f || is_among (symbols_in m.idle) f

symbols_told : (rs : List Replacement) → symbols_in (map drawn_of rs) ≡ symbols_for rs
symbols_told [] = refl
symbols_told (r ∷ rs) = ap (λ fs. symbols_of r.group.symbols ++ fs) (symbols_told rs)

or_nothing : (b : Bool) → b ≡ (b || false)
or_nothing true = refl
or_nothing false = refl

-- where declarations aren't global, those of the live ones alone
none_idle : (rs : List (Command Replacement)) → (met_in false (all_told rs)).idle ≡ []
none_idle [] = refl
none_idle (declare f ∷ rs) =
    let m : Met = met_in false (all_told rs) in
    told_declared (λ cs. (met_in false cs).idle ≡ []) f (all_told rs) (none_idle rs)
    (noted (λ n. n.idle ≡ []) (not m.gone && (false || m.closed == 0)) f m (none_idle rs) (none_idle rs))
none_idle (assert i r ∷ rs) = let m : Met = met_in false (all_told rs) in chosen_idle (drawn_of r) m (not m.anew && m.closed == 0) ∙ none_idle rs
none_idle (c ∷ rs) = none_idle rs

local_symbols : (rs : List (Command Replacement)) (f : Symbol) → is_among (symbols_for (found_in Replacement false rs).found) f ≡ is_met_symbol (met_in false (all_told rs)) f
local_symbols rs f =
    ap (λ fs. is_among fs f) (sym (symbols_told (found_in Replacement false rs).found)) ∙ ap (λ ds. is_among (symbols_in ds) f) (sym (is_met false rs).live)
    ∙ or_nothing (is_among (symbols_in (met_in false (all_told rs)).live) f) ∙ ap (λ ds. is_among (symbols_in (met_in false (all_told rs)).live) f || is_among (symbols_in ds) f) (sym (none_idle rs))

-- where declarations are global, those of all but what stands before a reset
record AllMet (m : Met) (w : Found Replacement) : Type 0 where
  gone : m.gone ≡ w.anew
  anew : m.gone ≡ true → m.anew ≡ true
  among : (f : Symbol) → is_among (symbols_for w.found) f ≡ is_met_symbol m f

or_in_front : (a b c : Bool) → (a || (b || c)) ≡ ((a || b) || c)
or_in_front true b c = refl
or_in_front false b c = refl

or_between : (a b c : Bool) → (a || (b || c)) ≡ (b || (a || c))
or_between true true c = refl
or_between true false c = refl
or_between false b c = refl

module _ (r : Replacement) (m : Met) (w : Found Replacement) (h : AllMet m w) (none : w.closed ≡ 0) where
  more_met : (a : Bool) (f : Symbol) → (is_among (symbols_of r.group.symbols) f || is_met_symbol m f) ≡ is_met_symbol (chosen a true (drawn_of r) m) f
  more_met true f =
      or_in_front (is_among (symbols_of r.group.symbols) f) (is_among (symbols_in m.live) f) (is_among (symbols_in m.idle) f)
      ∙ ap (λ b. b || is_among (symbols_in m.idle) f) (sym (is_among-append (symbols_of r.group.symbols) (symbols_in m.live) f))
  more_met false f =
      or_between (is_among (symbols_of r.group.symbols) f) (is_among (symbols_in m.live) f) (is_among (symbols_in m.idle) f)
      ∙ ap (λ b. is_among (symbols_in m.live) f || b) (sym (is_among-append (symbols_of r.group.symbols) (symbols_in m.idle) f))

  among_more : (f : Symbol) (gone anew : Bool) → m.gone ≡ gone → m.anew ≡ anew → (gone ≡ true → anew ≡ true)
      → is_among (symbols_for (if not gone && w.closed == 0 then r ∷ w.found else w.found)) f ≡ is_met_symbol (chosen (not anew && m.closed == 0) (true && not gone) (drawn_of r) m) f
  among_more f true true is also later = h.among f
  among_more f true false is also later = absurd (true≢false (sym (later refl)))
  among_more f false anew is also later =
      ap (λ k. is_among (symbols_for (if k == 0 then r ∷ w.found else w.found)) f) none
      ∙ is_among-append (symbols_of r.group.symbols) (symbols_for w.found) f
      ∙ ap (λ b. is_among (symbols_of r.group.symbols) f || b) (h.among f)
      ∙ more_met (not anew && m.closed == 0) f

all_met : (rs : List (Command Replacement)) → AllMet (met_in true (all_told rs)) (found_in Replacement true rs)
all_met [] = record { gone = refl; anew = λ no. absurd (true≢false (sym no)); among = λ f. refl }
all_met (declare f ∷ rs) =
    let m : Met = met_in true (all_told rs) in
    let w : Found Replacement = found_in Replacement true rs in
    let h : AllMet m w = all_met rs in
    told_declared (λ cs. AllMet (met_in true cs) w) f (all_told rs) h
    (noted (λ n. AllMet n w) (not m.gone && (true || m.closed == 0)) f m h (record { gone = h.gone; anew = h.anew; among = h.among }))
all_met (assert i r ∷ rs) =
    let m : Met = met_in true (all_told rs) in
    let w : Found Replacement = found_in Replacement true rs in
    let h : AllMet m w = all_met rs in
    let lives : Bool = not m.anew && m.closed == 0 in
    let idles : Bool = true && not m.gone in
    record {
      gone = chosen_gone (drawn_of r) m lives idles ∙ h.gone;
      anew = λ gone. chosen_anew (drawn_of r) m lives idles ∙ h.anew (sym (chosen_gone (drawn_of r) m lives idles) ∙ gone);
      among = λ f. ap (λ b. is_among (symbols_for (if not b && w.closed == 0 then r ∷ w.found else w.found)) f) (sym h.gone)
          ∙ among_more r m w h (none_closed Replacement rs) f m.gone m.anew refl refl h.anew;
    }
all_met (push n ∷ rs) = let h = all_met rs in record { gone = h.gone; anew = h.anew; among = h.among }
all_met (pop n ∷ rs) = let h = all_met rs in record { gone = h.gone; anew = h.anew; among = h.among }
all_met (reset ∷ rs) = let h = all_met rs in record { gone = refl; anew = λ _. refl; among = h.among }
all_met (reset_assertions ∷ rs) =
    let h = all_met rs in
    record { gone = ap (λ b. b || not true) h.gone; anew = λ _. refl; among = h.among }
all_met (c ∷ rs) = all_met rs

pub met_symbols : (global : Bool) (rs : List (Command Replacement)) (f : Symbol) → is_among (symbols_for (found_in Replacement global rs).found) f ≡ is_met_symbol (met_in global (all_told rs)) f
met_symbols true rs f = (all_met rs).among f
met_symbols false rs f = local_symbols rs f
