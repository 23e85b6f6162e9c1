-- What a source in memory holds, as a count is raised, a text begun or a read made.
use Rattle.std.proofs.Common.{◌≡◌, ℕ, zero, suc, ◌+◌, ◌-◌, ◌<◌, ◌≤◌, false, map, List, [], ◌∷◌, ◌++◌, length, get_or, take, drop, Option, None, Some, unwrap_or, IfSome, is_none, refl, sym, ap, subst, ◌∙◌, length-take, arith}
use Rattle.std.proofs.lemmas.List.{take_at, take-append-drop, drop-drop}
use Rattle.std.specs.Option.{option_map, option_map_or}
use Rattle.smt_io.specs.NameCounts.{NameCounts, at_place, place_of, raise_at}
use Rattle.smt_io.specs.Memory.{IsHeld}
use Rattle.smt_io.specs.Told.{behind}
use Rattle.smt_io.proofs.Transfers.{take-rest}
use Rattle.smt_io.proofs.CountLemmas.{place_of-raise_at, name_at-raise_at, length-raise_at, place_of-found}

-- the texts stay where a count is raised
pub text_of-raised : (old new : NameCounts) (place : Option ℕ) (texts : List (List ℕ)) (name : List ℕ) → new ≡ raise_at place old
    → option_map (λ i. get_or texts i []) (place_of name new) ≡ option_map (λ i. get_or texts i []) (place_of name old)
text_of-raised old new place texts name e =
    ap (λ q. option_map (λ i. get_or texts i []) q) (ap (place_of name) e ∙ place_of-raise_at name place old)

-- the place of a name is held
pub place_of-held : (counts : NameCounts) (texts : List (List ℕ)) (name : List ℕ) (place : Option ℕ) → place ≡ place_of name counts → length texts ≡ length counts.places
    → IfSome place (λ i. (i < length texts) × (place_of (at_place i counts).name counts ≡ Some i) × (0 ≤ length (get_or texts i [])))
place_of-held counts texts name None e same = tt
place_of-held counts texts name (Some i) e same =
    let found = place_of-found name counts i (sym e) in
    ((let lt = found.0 in omega arith), ap (λ n. place_of n counts) found.1 ∙ sym e, omega arith)

-- the text that is begun has the name that was asked for
pub begun_name : (counts : NameCounts) (name : List ℕ) (place : Option ℕ) → place ≡ place_of name counts → is_none place ≡ false
    → option_map (λ i. (at_place i counts).name) place ≡ Some name
begun_name counts name None e some = absurd (cc)
begun_name counts name (Some i) e some = ap Some (place_of-found name counts i (sym e)).1

begun_here-raised : (old : NameCounts) (place : Option ℕ) (texts : List (List ℕ)) (taken : ℕ) (begun : Option ℕ)
    → IfSome begun (λ i. (i < length texts) × (place_of (at_place i old).name old ≡ Some i) × (taken ≤ length (get_or texts i [])))
    → IfSome begun (λ i. (i < length texts) × (place_of (at_place i (raise_at place old)).name (raise_at place old) ≡ Some i) × (taken ≤ length (get_or texts i [])))
begun_here-raised old place texts taken None h = tt
begun_here-raised old place texts taken (Some i) h =
    (h.0, ap (λ n. place_of n (raise_at place old)) (name_at-raise_at old place i) ∙ place_of-raise_at (at_place i old).name place old ∙ h.1, h.2)

held_raised : (old : NameCounts) (place : Option ℕ) (texts : List (List ℕ)) (step : ℕ) (begun : Option ℕ) (taken : ℕ) → IsHeld old texts step begun taken → IsHeld (raise_at place old) texts step begun taken
held_raised old place texts step begun taken h = record {
  one_text_each = h.one_text_each ∙ sym (length-raise_at old place);
  some_step = h.some_step;
  begun_here = begun_here-raised old place texts taken begun h.begun_here;
}

-- what is held stays where a count is raised
pub IsHeld-raised : (old new : NameCounts) (place : Option ℕ) (texts : List (List ℕ)) (step : ℕ) (begun : Option ℕ) (taken : ℕ) → new ≡ raise_at place old → IsHeld old texts step begun taken → IsHeld new texts step begun taken
IsHeld-raised old new place texts step begun taken e h = subst (λ (c : NameCounts). IsHeld c texts step begun taken) (sym e) (held_raised old place texts step begun taken h)

-- the count that a failing read raises is that of the begun text's name, or of the empty name
pub blamed_place : (counts : NameCounts) (texts : List (List ℕ)) (taken : ℕ) (begun : Option ℕ)
    → IfSome begun (λ i. (i < length texts) × (place_of (at_place i counts).name counts ≡ Some i) × (taken ≤ length (get_or texts i [])))
    → place_of (unwrap_or (option_map (λ i. (at_place i counts).name) begun) []) counts ≡ option_map_or (λ i. Some i) begun (place_of [] counts)
blamed_place counts texts taken None h = refl
blamed_place counts texts taken (Some i) h = h.1

-- a read moves the next bytes
pub rest_moved : (text copied buf : List ℕ) (taken n : ℕ) → n ≤ length (drop taken text) → copied ≡ take n (drop taken text)
    → Some (drop taken text) ≡ behind (take n (copied ++ drop n buf)) (Some (drop (taken + n) text))
rest_moved text copied buf taken n le e =
    ap Some (sym (ap (λ xs. xs ++ drop (taken + n) text)
    (take_at copied (drop n buf) n (ap length e ∙ simp length-take (omega arith)) ∙ e)
    ∙ ap (λ xs. take n (drop taken text) ++ xs) (sym (drop-drop n taken text))
    ∙ take-append-drop n (drop taken text)))

pub rest_read : (texts : List (List ℕ)) (begun : Option ℕ) (place : ℕ) (copied buf : List ℕ) (taken n : ℕ) → begun ≡ Some place
    → n ≤ length (drop taken (get_or texts place [])) → copied ≡ take n (drop taken (get_or texts place []))
    → option_map (λ i. drop taken (get_or texts i [])) begun ≡ behind (take n (copied ++ drop n buf)) (option_map (λ i. drop (taken + n) (get_or texts i [])) begun)
rest_read texts begun place copied buf taken n at le e =
    subst (λ (q : Option ℕ). option_map (λ i. drop taken (get_or texts i [])) q ≡ behind (take n (copied ++ drop n buf)) (option_map (λ i. drop (taken + n) (get_or texts i [])) q))
    (sym at) (rest_moved (get_or texts place []) copied buf taken n le e)

-- the text at a place, as it is lent
pub text_here : {X : Type 0} (f : X → List ℕ) (xs : List X) (i : ℕ) (x : X) → i < length (map f xs) → x ≡ get_or xs i x → get_or (map f xs) i [] ≡ f x
text_here f [] i x lt e = absurd (omega arith)
text_here f (p ∷ ps) zero x lt e = ap f (sym e)
text_here f (p ∷ ps) (suc i) x lt e = text_here f ps i x (omega arith) e

-- the same of a read from the text as it is lent
pub rest_lent : (texts : List (List ℕ)) (begun : Option ℕ) (place : ℕ) (text copied buf : List ℕ) (taken n : ℕ) → begun ≡ Some place → get_or texts place [] ≡ text
    → n ≤ length (take (length text - taken) (drop taken text)) → copied ≡ take n (take (length text - taken) (drop taken text))
    → option_map (λ i. drop taken (get_or texts i [])) begun ≡ behind (take n (copied ++ drop n buf)) (option_map (λ i. drop (taken + n) (get_or texts i [])) begun)
rest_lent texts begun place text copied buf taken n at here le e =
    let rest = take-rest text taken ∙ ap (drop taken) (sym here) in
    rest_read texts begun place copied buf taken n at (subst (λ (xs : List ℕ). n ≤ length xs) rest le) (e ∙ ap (take n) rest)
