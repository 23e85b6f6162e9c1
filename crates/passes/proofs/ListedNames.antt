-- A list of names, taken one after the other.
use Rattle.std.proofs.Common.{◌≡◌, ℕ, suc, ◌+◌, ◌<◌, ◌≤◌, Bool, true, false, cond, eqb, nat_lt, List, [], ◌∷◌, ◌++◌, map, drop, length, get_or, Option, Some, None, Err, refl, sym, ap, ◌∙◌, arith, add-one, append-nil, append_assoc}
use Rattle.std.specs.Str.{bytes_eq}
use Rattle.std.specs.List.{list_all, list_any, prefix_len, slice_split, onto_first as first_onto}
use Rattle.std.proofs.Math.Seq.{drop-cons}
use Rattle.std.proofs.lemmas.Bool.Decides.{nat_tests}
use Rattle.std.proofs.lemmas.List.{drop_all, get_or-map, length-append, length-map}
use Rattle.smt_terms.specs.Sorts.{Name}
use Rattle.pass_laws.specs.Lists.{all_known, any_pass, between_commas, groups_after_rules, in_order, listed, makes_groups, onto_first, pass_among, pass_named, passes_named, with_pass}
use Rattle.pass_laws.specs.declared.names.Pass.{Pass}
use Rattle.pass_laws.specs.declared.names.Pass.TheVariants.{Rules}
use Rattle.pass_laws.specs.declared.names.ListFault.TheVariants.{BadPass}

-- ---- what stands between commas, in the words of `split`

same_onto : (b : ℕ) (ns : List Name) → onto_first b ns ≡ first_onto b ns
same_onto b [] = refl
same_onto b (n ∷ ns) = refl

pub between_commas-split : (bs : List ℕ) → between_commas bs ≡ slice_split (λ b. eqb b 44) bs
between_commas-split [] = refl
between_commas-split (b ∷ bs) =
    (λ i. cond (eqb b 44) ([] ∷ between_commas-split bs i) (onto_first b (between_commas-split bs i)))
    ∙ ap (λ ns. cond (eqb b 44) ([] ∷ slice_split (λ c. eqb c 44) bs) ns) (same_onto b (slice_split (λ c. eqb c 44) bs))

-- ---- one name after the other

abbrev pub joined : List Pass → Option (List Pass) → Option (List Pass)
joined ps None = None
joined ps (Some qs) = Some (ps ++ qs)

-- the first k names are those of these passes
pub record Taken (ns : List Name) (k : ℕ) (ps : List Pass) : Type 0 where
  pub count : length ps ≡ k
  pub few : k ≤ 32
  pub rest : passes_named ns ≡ joined ps (passes_named (drop k ns))

joined-none : (o : Option (List Pass)) → o ≡ joined [] o
joined-none None = refl
joined-none (Some qs) = refl

pub none_taken : (ns : List Name) → Taken ns 0 []
none_taken ns = record { count = refl; few = omega arith; rest = joined-none (passes_named ns) }

joined-with : (p : Pass) (ps : List Pass) (o : Option (List Pass)) → joined ps (with_pass (Some p) o) ≡ joined (ps ++ p ∷ []) o
joined-with p ps None = refl
joined-with p ps (Some qs) = ap Some (sym (append_assoc ps (p ∷ []) qs))

any_listed : (ps : List Pass) → list_all any_pass ps ≡ true
any_listed [] = refl
any_listed (p ∷ ps) = any_listed ps

-- whatever their number
refused : (ns : List Name) → all_known any_pass (passes_named ns) ≡ Err BadPass → listed any_pass ns ≡ Err BadPass
refused ns e = go (nat_lt 32 (length ns))
  where
    go : (b : Bool) → cond b (Err BadPass) (all_known any_pass (passes_named ns)) ≡ Err BadPass
    go true = refl
    go false = e

module _ (ns : List Name) (k : ℕ) (ps : List Pass) (name : Name) (lt : k < length ns) (at : name ≡ get_or ns k name) (t : Taken ns k ps) where
  from_here : passes_named ns ≡ joined ps (with_pass (pass_named name) (passes_named (drop (suc k) ns)))
  from_here =
      t.rest ∙ ap (λ xs. joined ps (passes_named xs)) (drop-cons ns k name lt)
      ∙ ap (λ n. joined ps (with_pass (pass_named n) (passes_named (drop (suc k) ns)))) (sym at)

  pub one_taken : (p : Pass) → pass_named name ≡ Some p → k < 32 → Taken ns (k + 1) (ps ++ p ∷ [])
  one_taken p named room = record {
    count = let n = length-append ps (p ∷ []) in omega (arith, n, t.count);
    few = omega arith;
    rest = from_here ∙ ap (λ o. joined ps (with_pass o (passes_named (drop (suc k) ns)))) named
        ∙ joined-with p ps (passes_named (drop (suc k) ns))
        ∙ ap (λ j. joined (ps ++ p ∷ []) (passes_named (drop j ns))) (sym (add-one k));
  }

  pub no_such_pass : pass_named name ≡ None → Err BadPass ≡ listed any_pass ns
  no_such_pass none =
      sym (refused ns (ap (all_known any_pass) (from_here ∙ ap (λ o. joined ps (with_pass o (passes_named (drop (suc k) ns)))) none)))

  pub too_many_names : k ≡ 32 → Err BadPass ≡ listed any_pass ns
  too_many_names full =
      let more : nat_lt 32 (length ns) ≡ true = grind (arith, nat_tests) in
      sym (ap (λ b. cond b (Err BadPass) (all_known any_pass (passes_named ns))) more)

pub all_taken : (ns : List Name) (k : ℕ) (ps : List Pass) → k ≡ length ns → Taken ns k ps → in_order ps ≡ listed any_pass ns
all_taken ns k ps end t =
    let few : nat_lt 32 (length ns) ≡ false = let most = t.few in grind (arith, nat_tests) in
    let none : drop k ns ≡ [] = drop_all k ns (omega arith) in
    let known : passes_named ns ≡ Some ps = t.rest ∙ ap (λ xs. joined ps (passes_named xs)) none ∙ ap Some (append-nil ps) in
    sym (ap (λ b. cond b (Err BadPass) (all_known any_pass (passes_named ns))) few
    ∙ ap (all_known any_pass) known
    ∙ ap (λ b. cond b (in_order ps) (Err BadPass)) (any_listed ps))

-- ---- what stands behind stored rules

-- every pass but that of the stored rules
abbrev pub not_rules : Pass → Bool
not_rules Rules = false
not_rules _ = true

-- among the passes from the first `rules` on, one that makes groups stands behind it: `rules` makes none
pub groups_from_rules : (ps : List Pass) → list_any makes_groups (drop (prefix_len not_rules ps) ps) ≡ groups_after_rules ps
groups_from_rules [] = refl
groups_from_rules (Rules ∷ ps) = refl
groups_from_rules (p ∷ ps) =
    let next : 1 + prefix_len not_rules ps ≡ suc (prefix_len not_rules ps) = omega arith in
    ap (λ n. list_any makes_groups (drop n (p ∷ ps))) next ∙ groups_from_rules ps

-- ---- passes by their names, one place after the other

module _ {X : Type 0} (f : X → Name × Pass) (xs : List X) (n : Name) (k : ℕ) (d : X) (lt : k < length xs) where
  at_place : pass_among (drop k (map f xs)) n ≡ cond (bytes_eq (f (get_or xs k d)).0 n) (Some (f (get_or xs k d)).1) (pass_among (drop (suc k) (map f xs)) n)
  at_place =
      let within : k < length (map f xs) = let count = length-map xs f in omega (arith, count) in
      ap (λ qs. pass_among qs n) (drop-cons (map f xs) k (f d) within)
      ∙ ap (λ q. cond (bytes_eq q.0 n) (Some q.1) (pass_among (drop (suc k) (map f xs)) n)) (get_or-map f xs k d (f d) lt)

  pub named_here : bytes_eq (f (get_or xs k d)).0 n ≡ true → pass_among (drop k (map f xs)) n ≡ Some (f (get_or xs k d)).1
  named_here e = at_place ∙ ap (λ b. cond b (Some (f (get_or xs k d)).1) (pass_among (drop (suc k) (map f xs)) n)) e

  pub named_next : bytes_eq (f (get_or xs k d)).0 n ≡ false → pass_among (drop k (map f xs)) n ≡ pass_among (drop (k + 1) (map f xs)) n
  named_next e =
      at_place ∙ ap (λ b. cond b (Some (f (get_or xs k d)).1) (pass_among (drop (suc k) (map f xs)) n)) e
      ∙ ap (λ j. pass_among (drop j (map f xs)) n) (sym (add-one k))

-- ---- the names, where they are those that `split` gives

pub turn_at : (text : List ℕ) (k : ℕ) (name : Name) → (k < length (slice_split (λ b. eqb b 44) text)) × (name ≡ get_or (slice_split (λ b. eqb b 44) text) k name)
    → (k < length (between_commas text)) × (name ≡ get_or (between_commas text) k name)
turn_at text k name h = rw between_commas-split h

pub all_taken_at : (text : List ℕ) (k : ℕ) (ps : List Pass) → k ≡ length (slice_split (λ b. eqb b 44) text) → Taken (between_commas text) k ps
    → in_order ps ≡ listed any_pass (between_commas text)
all_taken_at text k ps end t = all_taken (between_commas text) k ps (end ∙ sym (ap length (between_commas-split text))) t
