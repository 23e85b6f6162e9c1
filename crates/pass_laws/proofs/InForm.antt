-- A pass that puts one assertion in the place of each goes from the first command to the last.
use Rattle.std.proofs.Common.{◌≡◌, ◌∙◌, sym, ap, refl, ℕ, zero, suc, ◌+◌, ◌<◌, ◌≤◌, Bool, true, false, List, [], ◌∷◌, ◌++◌, map, take, drop, length, append-nil, append_assoc, get_or, set, subst, slice_get, is_some, Some, None, true≢false, arith}
use Rattle.std.specs.Prelude.{flat_map}
use Rattle.std.proofs.lemmas.List.{take_all, drop_all, set_at}
use Rattle.std.proofs.lemmas.Option.{slice_get-get_or}
use Rattle.smt_terms.specs.Sorts.{Symbol}
use Rattle.smt_terms.specs.Term.{Term}
use Rattle.smt_terms.specs.Fresh.{Supply}
use Rattle.normal_forms.specs.Prenex.{prenex}
use Rattle.normal_forms.specs.Quantifiers.{selfsub}
use Rattle.script_read.specs.Commands.{Command, passed, declare_sort, declare, assert, check, check_assuming, push, pop, reset, reset_assertions, globals, exit}
use Rattle.ackermann.specs.Ackermann.{one_level}
use Rattle.pass_laws.specs.declared.names.Pass.{Pass}
use Rattle.pass_laws.specs.declared.names.Pass.TheVariants.{Simplify, Nnf, Aig, Prenex, Reads, Shannon, SelfSub, Rules}
use Rattle.pass_laws.specs.Passed.{Way, with_names, alone, in_place, Replacement, literal_kept, onward, replacements_from, group_commands, written, apply_pass}
use Rattle.pass_laws.specs.Behind.{Form, simplified_form, nnf_form, aig_form, reads_form, shannon_form, in_front, in_form}
use Rattle.pass_laws.specs.Laws.{keeps_values}

abbrev pub asks_rules : Pass → Bool
asks_rules Rules = true
asks_rules _ = false

-- the pass puts the form of each assertion in its place
pub record IsForm (p : Pass) (form : Form) : Type 0 where
  pub itself : asks_rules p ≡ false
  pub keeps : keeps_values p ≡ true
  pub places : (t : Term) (w : Way) → in_place p t w ≡ (alone (form t w.names).0, with_names w (form t w.names).1)
  pub declares : (f : Symbol) → written p (declare f) ≡ declare f ∷ []

pub is_simplified_form : IsForm Simplify simplified_form
is_simplified_form = record { itself = refl; keeps = refl; places = λ t w. refl; declares = λ f. refl }

pub is_nnf_form : IsForm Nnf nnf_form
is_nnf_form = record { itself = refl; keeps = refl; places = λ t w. refl; declares = λ f. refl }

pub is_aig_form : IsForm Aig aig_form
is_aig_form = record { itself = refl; keeps = refl; places = λ t w. refl; declares = λ f. refl }

pub is_prenex_form : IsForm Prenex prenex
is_prenex_form = record { itself = refl; keeps = refl; places = λ t w. refl; declares = λ f. refl }

pub is_reads_form : IsForm Reads reads_form
is_reads_form = record { itself = refl; keeps = refl; places = λ t w. refl; declares = λ f. refl }

pub is_shannon_form : IsForm Shannon shannon_form
is_shannon_form = record { itself = refl; keeps = refl; places = λ t w. refl; declares = λ f. refl }

pub is_selfsub_form : IsForm SelfSub selfsub
is_selfsub_form = record { itself = refl; keeps = refl; places = λ t w. refl; declares = λ f. refl }

-- ---- all commands

literals_kept : (ls : List Term) → map (λ (r : Replacement). r.term) (map literal_kept ls) ≡ ls
literals_kept [] = refl
literals_kept (l ∷ ls) = ap (λ more. l ∷ more) (literals_kept ls)

abbrev commands_of_pass : Pass → List (Command Term) → Way → List (Command Term) × Supply
commands_of_pass p cs w = (flat_map (written p) (replacements_from p cs w).0, (replacements_from p cs w).1)

module _ (p : Pass) (form : Form) (is : IsForm p form) where
  abbrev Goal : List (Command Term) → Way → Type 0
  Goal cs w = commands_of_pass p cs w ≡ in_form form cs w.names

  from : (cs : List (Command Term)) (w : Way) → Goal cs w
  from [] w = refl
  from (passed text ∷ cs) w = ap (in_front (passed text)) (from cs w)
  from (declare_sort n ∷ cs) w = ap (in_front (declare_sort n)) (from cs w)
  from (declare f ∷ cs) w =
      ap (λ ds. (ds ++ flat_map (written p) (replacements_from p cs w).0, (replacements_from p cs w).1)) (is.declares f) ∙ ap (in_front (declare f)) (from cs w)
  from (assert i t ∷ cs) w =
      ap (λ r. (group_commands i r.0 ++ flat_map (written p) (replacements_from p cs r.1).0, (replacements_from p cs r.1).1)) (is.places t w)
      ∙ ap (in_front (assert i (form t w.names).0)) (from cs (with_names w (form t w.names).1))
  from (check ∷ cs) w = ap (in_front check) (from cs w)
  from (check_assuming ls ∷ cs) w =
      ap (λ ms. (check_assuming ms ∷ flat_map (written p) (replacements_from p cs w).0, (replacements_from p cs w).1)) (literals_kept ls)
      ∙ ap (in_front (check_assuming ls)) (from cs w)
  from (push n ∷ cs) w = ap (in_front (push n)) (from cs (onward (push n) w))
  from (pop n ∷ cs) w = ap (in_front (pop n)) (from cs (onward (pop n) w))
  from (reset ∷ cs) w = ap (in_front reset) (from cs (onward reset w))
  from (reset_assertions ∷ cs) w = ap (in_front reset_assertions) (from cs (onward reset_assertions w))
  from (globals b ∷ cs) w = ap (in_front (globals b)) (from cs w)
  from (exit ∷ cs) w = ap (in_front exit) (from cs w)

  pub applied : (cs : List (Command Term)) (s : Supply) → apply_pass p cs s ≡ in_form form cs s
  applied cs s = from cs (record { levels = one_level; names = s })

-- ---- one assertion after the other

-- commands, the first i of which are in their forms, and the names that are left then
pub record IsUnderWay (form : Form) (cs : List (Command Term)) (s : Supply) (i : ℕ) (ds : List (Command Term)) (r : Supply) : Type 0 where
  pub commands : ds ≡ (in_form form (take i cs) s).0 ++ drop i cs
  pub names : r ≡ (in_form form (take i cs) s).1

module _ (form : Form) where
  pub start : (cs : List (Command Term)) (s : Supply) → IsUnderWay form cs s 0 cs s
  start [] s = record { commands = refl; names = refl }
  start (c ∷ cs) s = record { commands = refl; names = refl }

  -- behind the last command
  pub at_end : (cs : List (Command Term)) (s : Supply) (i : ℕ) (ds : List (Command Term)) (r : Supply) → length cs ≤ i → IsUnderWay form cs s i ds r → (ds ≡ (in_form form cs s).0) × (r ≡ (in_form form cs s).1)
  at_end cs s i ds r past is =
      let all = take_all i cs past in
      (is.commands ∙ (λ j. (in_form form (all j) s).0 ++ drop_all i cs past j) ∙ append-nil (in_form form cs s).0, is.names ∙ ap (λ ds. (in_form form ds s).1) all)

  snoc_assert : (cs : List (Command Term)) (s : Supply) (i : ℕ) (t : Term)
      → in_form form (cs ++ assert i t ∷ []) s ≡ ((in_form form cs s).0 ++ assert i (form t (in_form form cs s).1).0 ∷ [], (form t (in_form form cs s).1).1)
  snoc_assert [] s i t = refl
  snoc_assert (passed text ∷ cs) s i t = ap (in_front (passed text)) (snoc_assert cs s i t)
  snoc_assert (declare_sort n ∷ cs) s i t = ap (in_front (declare_sort n)) (snoc_assert cs s i t)
  snoc_assert (declare f ∷ cs) s i t = ap (in_front (declare f)) (snoc_assert cs s i t)
  snoc_assert (assert j u ∷ cs) s i t = ap (in_front (assert j (form u s).0)) (snoc_assert cs (form u s).1 i t)
  snoc_assert (check ∷ cs) s i t = ap (in_front check) (snoc_assert cs s i t)
  snoc_assert (check_assuming ls ∷ cs) s i t = ap (in_front (check_assuming ls)) (snoc_assert cs s i t)
  snoc_assert (push n ∷ cs) s i t = ap (in_front (push n)) (snoc_assert cs s i t)
  snoc_assert (pop n ∷ cs) s i t = ap (in_front (pop n)) (snoc_assert cs s i t)
  snoc_assert (reset ∷ cs) s i t = ap (in_front reset) (snoc_assert cs s i t)
  snoc_assert (reset_assertions ∷ cs) s i t = ap (in_front reset_assertions) (snoc_assert cs s i t)
  snoc_assert (globals b ∷ cs) s i t = ap (in_front (globals b)) (snoc_assert cs s i t)
  snoc_assert (exit ∷ cs) s i t = ap (in_front exit) (snoc_assert cs s i t)

-- ---- the command at a place

record At {A : Type 0} (xs : List A) (i : ℕ) (x : A) : Type 0 where
  taken : take (i + 1) xs ≡ take i xs ++ x ∷ []
  rest : drop i xs ≡ x ∷ drop (i + 1) xs
  count : length (take i xs) ≡ i

next : (i : ℕ) → suc i + 1 ≡ suc (i + 1)
next i = omega arith

one : 0 + 1 ≡ 1
one = refl

at : {A : Type 0} (xs : List A) (i : ℕ) (x : A) → slice_get xs i ≡ Some x → At xs i x
at [] i x e = absurd (true≢false (sym (ap is_some e)))
at {A = A} (y ∷ xs) zero x e = let same : y ≡ x = some_same y x e in record { taken = first xs ∙ ap (λ z. z ∷ []) same; rest = same_first xs same; count = refl }
  where
    some_same : (y x : A) → Some y ≡ Some x → y ≡ x
    some_same y x e = ap (λ o. elim o [ Some z ↦ z | None ↦ y ]) e

    first : (xs : List A) → take (0 + 1) (y ∷ xs) ≡ y ∷ []
    first [] = refl
    first (z ∷ zs) = refl

    same_first : (xs : List A) → y ≡ x → y ∷ xs ≡ x ∷ drop (0 + 1) (y ∷ xs)
    same_first [] same = ap (λ z. z ∷ []) same
    same_first (z ∷ zs) same = ap (λ a. a ∷ z ∷ zs) same
at (y ∷ xs) (suc i) x e =
    let is = at xs i x e in
    record {
      taken = ap (λ n. take n (y ∷ xs)) (next i) ∙ ap (λ zs. y ∷ zs) is.taken;
      rest = is.rest ∙ ap (λ n. x ∷ drop n (y ∷ xs)) (sym (next i));
      count = ap suc is.count;
    }

abbrev pub is_assertion : Command Term → Bool
is_assertion (assert i t) = true
is_assertion _ = false

module _ (form : Form) where
  -- as many commands as before
  count : (cs : List (Command Term)) (s : Supply) → length (in_form form cs s).0 ≡ length cs
  count [] s = refl
  count (passed text ∷ cs) s = ap suc (count cs s)
  count (declare_sort n ∷ cs) s = ap suc (count cs s)
  count (declare f ∷ cs) s = ap suc (count cs s)
  count (assert j u ∷ cs) s = ap suc (count cs (form u s).1)
  count (check ∷ cs) s = ap suc (count cs s)
  count (check_assuming ls ∷ cs) s = ap suc (count cs s)
  count (push n ∷ cs) s = ap suc (count cs s)
  count (pop n ∷ cs) s = ap suc (count cs s)
  count (reset ∷ cs) s = ap suc (count cs s)
  count (reset_assertions ∷ cs) s = ap suc (count cs s)
  count (globals b ∷ cs) s = ap suc (count cs s)
  count (exit ∷ cs) s = ap suc (count cs s)

  snoc_other : (cs : List (Command Term)) (s : Supply) (c : Command Term) → is_assertion c ≡ false → in_form form (cs ++ c ∷ []) s ≡ ((in_form form cs s).0 ++ c ∷ [], (in_form form cs s).1)
  snoc_other [] s (passed text) h = refl
  snoc_other [] s (declare_sort n) h = refl
  snoc_other [] s (declare f) h = refl
  snoc_other [] s (assert j u) h = absurd (true≢false h)
  snoc_other [] s check h = refl
  snoc_other [] s (check_assuming ls) h = refl
  snoc_other [] s (push n) h = refl
  snoc_other [] s (pop n) h = refl
  snoc_other [] s reset h = refl
  snoc_other [] s reset_assertions h = refl
  snoc_other [] s (globals b) h = refl
  snoc_other [] s exit h = refl
  snoc_other (passed text ∷ cs) s c h = ap (in_front (passed text)) (snoc_other cs s c h)
  snoc_other (declare_sort n ∷ cs) s c h = ap (in_front (declare_sort n)) (snoc_other cs s c h)
  snoc_other (declare f ∷ cs) s c h = ap (in_front (declare f)) (snoc_other cs s c h)
  snoc_other (assert j u ∷ cs) s c h = ap (in_front (assert j (form u s).0)) (snoc_other cs (form u s).1 c h)
  snoc_other (check ∷ cs) s c h = ap (in_front check) (snoc_other cs s c h)
  snoc_other (check_assuming ls ∷ cs) s c h = ap (in_front (check_assuming ls)) (snoc_other cs s c h)
  snoc_other (push n ∷ cs) s c h = ap (in_front (push n)) (snoc_other cs s c h)
  snoc_other (pop n ∷ cs) s c h = ap (in_front (pop n)) (snoc_other cs s c h)
  snoc_other (reset ∷ cs) s c h = ap (in_front reset) (snoc_other cs s c h)
  snoc_other (reset_assertions ∷ cs) s c h = ap (in_front reset_assertions) (snoc_other cs s c h)
  snoc_other (globals b ∷ cs) s c h = ap (in_front (globals b)) (snoc_other cs s c h)
  snoc_other (exit ∷ cs) s c h = ap (in_front exit) (snoc_other cs s c h)

  -- ---- the next command

  record Next (cs : List (Command Term)) (s : Supply) (i : ℕ) (ds : List (Command Term)) (c : Command Term) : Type 0 where
    place : At cs i c
    found : slice_get cs i ≡ Some c
    front : ds ≡ (in_form form (take i cs) s).0 ++ c ∷ drop (i + 1) cs
    count : length (in_form form (take i cs) s).0 ≡ i

  joined : (xs ys : List (Command Term)) (i : ℕ) (c d : Command Term) → length xs ≡ i → slice_get (xs ++ c ∷ ys) i ≡ Some d → c ≡ d
  joined [] ys zero c d e h = ap (λ o. elim o [ Some z ↦ z | None ↦ c ]) h
  joined [] ys (suc i) c d e h = absurd (omega (arith, e))
  joined (x ∷ xs) ys zero c d e h = absurd (omega (arith, e))
  joined (x ∷ xs) ys (suc i) c d e h = joined xs ys i c d (omega (arith, e)) h

  next_command : (cs : List (Command Term)) (s : Supply) (i : ℕ) (ds : List (Command Term)) (r : Supply) (d : Command Term) → i < length cs
      → IsUnderWay form cs s i ds r → slice_get ds i ≡ Some d → Next cs s i ds d
  next_command cs s i ds r d few is e =
      let c = get_or cs i exit in
      let there : At cs i c = at cs i c (slice_get-get_or cs i exit few) in
      let front : ds ≡ (in_form form (take i cs) s).0 ++ c ∷ drop (i + 1) cs = is.commands ∙ ap (λ zs. (in_form form (take i cs) s).0 ++ zs) there.rest in
      let long : length (in_form form (take i cs) s).0 ≡ i = count (take i cs) s ∙ there.count in
      let same : c ≡ d = joined (in_form form (take i cs) s).0 (drop (i + 1) cs) i c d long (sym (ap (λ zs. slice_get zs i) front) ∙ e) in
      record {
        place = subst (At cs i) same there;
        found = slice_get-get_or cs i exit few ∙ ap Some same;
        front = front ∙ ap (λ z. (in_form form (take i cs) s).0 ++ z ∷ drop (i + 1) cs) same;
        count = long;
      }

  pub kept_step : (cs : List (Command Term)) (s : Supply) (i : ℕ) (ds : List (Command Term)) (r : Supply) (d : Command Term) → i < length cs
      → IsUnderWay form cs s i ds r → slice_get ds i ≡ Some d → is_assertion d ≡ false → IsUnderWay form cs s (i + 1) ds r
  kept_step cs s i ds r d few is e other =
      let n : Next cs s i ds d = next_command cs s i ds r d few is e in
      let longer = ap (λ zs. in_form form zs s) n.place.taken ∙ snoc_other (take i cs) s d other in
      record {
        commands = n.front ∙ sym (append_assoc (in_form form (take i cs) s).0 (d ∷ []) (drop (i + 1) cs)) ∙ ap (λ z. z.0 ++ drop (i + 1) cs) (sym longer);
        names = is.names ∙ ap (λ z. z.1) (sym longer);
      }

  pub changed_step : (cs : List (Command Term)) (s : Supply) (i : ℕ) (ds : List (Command Term)) (r : Supply) (j : ℕ) (t u : Term) (q : Supply) → i < length cs
      → IsUnderWay form cs s i ds r → slice_get ds i ≡ Some (assert j t) → u ≡ (form t r).0 → q ≡ (form t r).1 → IsUnderWay form cs s (i + 1) (set ds i (assert j u)) q
  changed_step cs s i ds r j t u q few is e term left =
      let n : Next cs s i ds (assert j t) = next_command cs s i ds r (assert j t) few is e in
      let longer = ap (λ zs. in_form form zs s) n.place.taken ∙ snoc_assert form (take i cs) s j t in
      let value : u ≡ (form t (in_form form (take i cs) s).1).0 = term ∙ ap (λ z. (form t z).0) is.names in
      record {
        commands =
            ap (λ zs. set zs i (assert j u)) n.front
            ∙ set_at (in_form form (take i cs) s).0 (assert j t) (drop (i + 1) cs) (assert j u) i n.count
            ∙ ap (λ z. (in_form form (take i cs) s).0 ++ assert j z ∷ drop (i + 1) cs) value
            ∙ sym (append_assoc (in_form form (take i cs) s).0 (assert j (form t (in_form form (take i cs) s).1).0 ∷ []) (drop (i + 1) cs))
            ∙ ap (λ z. z.0 ++ drop (i + 1) cs) (sym longer);
        names = left ∙ ap (λ z. (form t z).1) is.names ∙ ap (λ z. z.1) (sym longer);
      }

  -- the assertion at a place is one of the commands
  pub its_own : (cs : List (Command Term)) (s : Supply) (i : ℕ) (ds : List (Command Term)) (r : Supply) (d : Command Term) → i < length cs
      → IsUnderWay form cs s i ds r → slice_get ds i ≡ Some d → slice_get cs i ≡ Some d
  its_own cs s i ds r d few is e = let n : Next cs s i ds d = next_command cs s i ds r d few is e in n.found
