-- Levels that commands open and close.
use Rattle.std.proofs.Common.{◌≡◌, ℕ, ◌+◌, ◌<◌, ◌≤◌, Bool, true, false, ◌||◌, List, [], ◌∷◌, Option, Some, None, option_map, unwrap_or, Ok, refl, ap, sym, ◌∙◌, subst, arith}
use Rattle.std.specs.Prelude.{nat_lt}
use Rattle.std.proofs.lemmas.Bool.Decides.{nat_tests}
use Rattle.smt_lex.specs.Lex.{Token}
use Rattle.smt_lex.specs.Forest.{token_at}
use Rattle.term_table.specs.Formulas.{Formulas}
use Rattle.script_terms.specs.declared.causes.Cause.TheVariants.{NumberLimit, PopTooFar}
use Rattle.script_read.specs.declared.scripts.Command.TheVariants.{Push, Pop}
use Rattle.script_read.specs.declared.session.Session.{Session}
use Rattle.script_read.specs.Commands.{push, pop}
use Rattle.script_terms.specs.Known.{Scoping, is_mark, levels_in, Shows}
use Rattle.script_terms.specs.Places.{capped}
use Rattle.script_terms.specs.Reading.{level_known, is_level_known}
use Rattle.script_terms.specs.Refusals.{at, unless}
use Rattle.script_terms.specs.Scope.{opened, popped}
use Rattle.script_read.specs.Script.{Standing, Step, live_of, begun_with, most_levels, open_levels, place_or, pushed_unless, pushes, pops}
use Rattle.script_read.specs.ShapeClauses.{counted_at}
use Rattle.script_read.specs.Steps.{StandsAt, Steps}
use Rattle.script_read.proofs.SessionSteps.{begun_at, stands_begun}
use Rattle.script_terms.proofs.Showing.{levels_found, shows_opened, shows_popped}

-- where the number of levels stands, or the command
pub place_of_levels : (ts : List Token) (levels : Option ℕ) (i : ℕ) → (token_at ts (unwrap_or levels i)).start ≡ place_or (option_map (counted_at ts) levels) (token_at ts i).start
place_of_levels ts (Some j) i = refl
place_of_levels ts None i = refl

-- ---- numbers of levels, seen up to 2^127

over_limit : (n o : ℕ) → most_levels < o + capped n → (nat_lt most_levels n || nat_lt most_levels (o + n)) ≡ true
over_limit n o over = grind (arith, nat_tests)

within_limit : (n o : ℕ) → o + capped n ≤ most_levels → n ≡ capped n
within_limit n o within = grind arith

no_limit : (n o : ℕ) → o + n ≤ most_levels → (nat_lt most_levels n || nat_lt most_levels (o + n)) ≡ false
no_limit n o within = grind (arith, nat_tests)

beyond : (n : ℕ) → most_levels < capped n → nat_lt most_levels n ≡ true
beyond n over = grind (arith, nat_tests)

not_beyond : (n : ℕ) → capped n ≤ most_levels → nat_lt most_levels n ≡ false
not_beyond n within = grind (arith, nat_tests)

capped_alone : (n : ℕ) → capped n ≤ most_levels → n ≡ capped n
capped_alone n within = grind arith

less : (m n : ℕ) → m < n → nat_lt m n ≡ true
less m n h = grind (arith, nat_tests)

not_less : (m n : ℕ) → n ≤ m → nat_lt m n ≡ false
not_less m n h = grind (arith, nat_tests)

module _ (t : Formulas) (x : Session) (s : Standing) (stands : StandsAt t x s) (n : ℕ) (place : ℕ) where
  open_is : levels_in x.sofar.scope ≡ open_levels s
  open_is = levels_found t x.sofar.scope (live_of s) stands.shows.terms

  -- ---- push

  pub push_refused : (m o : ℕ) → m ≡ capped n → o ≡ levels_in x.sofar.scope → most_levels < o + m → pushes place n s ≡ at NumberLimit place
  push_refused m o m_is o_is over =
      let here : most_levels < open_levels s + capped n = subst (λ k. most_levels < k + capped n) (o_is ∙ open_is) (subst (λ k. most_levels < o + k) m_is over) in
      ap (λ b. pushed_unless b place n s) (over_limit n (open_levels s) here)

  pub pushed : (m o : ℕ) (scope : Scoping) → m ≡ capped n → o ≡ levels_in x.sofar.scope → o + m ≤ most_levels → scope ≡ record { terms = opened None m x.sofar.scope.terms; sorts = opened None m x.sofar.scope.sorts; definitions = x.sofar.scope.definitions } → Steps t (begun_at x scope) (Push m ∷ []) (pushes place n s)
  pushed m o scope m_is o_is within scope_is =
      let here : open_levels s + capped n ≤ most_levels = subst (λ k. k + capped n ≤ most_levels) (o_is ∙ open_is) (subst (λ k. o + k ≤ most_levels) m_is within) in
      let same : n ≡ m = within_limit n (open_levels s) here ∙ sym m_is in
      let small : open_levels s + n ≤ most_levels = subst (λ k. open_levels s + k ≤ most_levels) (sym (within_limit n (open_levels s) here)) here in
      record {
        standing = begun_with s (opened level_known m (live_of s));
        stands =
            stands_begun t t x s scope (opened level_known m (live_of s)) stands
            (subst (λ (sc : Scoping). Shows t x.sofar.fresh sc (opened level_known m (live_of s))) (sym scope_is) (shows_opened t x.sofar.fresh x.sofar.scope (live_of s) stands.shows m));
        gives =
            ap (λ b. pushed_unless b place n s) (no_limit n (open_levels s) small)
            ∙ ap (λ k. Ok (push k ∷ [], begun_with s (opened level_known k (live_of s)))) same;
      }

  -- ---- pop

  module _ (command : ℕ) (m : ℕ) (m_is : m ≡ capped n) where
    abbrev closing_levels : Bool → Bool → Step
    closing_levels many far = unless many NumberLimit place (unless far PopTooFar command (Ok (pop n ∷ [], begun_with s (popped is_level_known s.global n (live_of s)))))

    pub pop_refused : most_levels < m → pops command place n s ≡ at NumberLimit place
    pop_refused over = ap (λ b. closing_levels b (nat_lt (open_levels s) n)) (beyond n (subst (λ k. most_levels < k) m_is over))

    module _ (within : m ≤ most_levels) where
      same : n ≡ m
      same = capped_alone n (subst (λ k. k ≤ most_levels) m_is within) ∙ sym m_is

      few : nat_lt most_levels n ≡ false
      few = not_beyond n (subst (λ k. k ≤ most_levels) m_is within)

      pub pop_too_far : (o : ℕ) → o ≡ levels_in x.sofar.scope → o < m → pops command place n s ≡ at PopTooFar command
      pop_too_far o o_is far =
          let here : open_levels s < n = subst (λ k. open_levels s < k) (sym same) (subst (λ k. k < m) (o_is ∙ open_is) far) in
          ap (λ b. closing_levels b (nat_lt (open_levels s) n)) few ∙ ap (closing_levels false) (less (open_levels s) n here)

      pub popped_levels : (o : ℕ) (scope : Scoping) → o ≡ levels_in x.sofar.scope → m ≤ o → scope ≡ record { terms = popped is_mark x.global m x.sofar.scope.terms; sorts = popped is_mark x.global m x.sofar.scope.sorts; definitions = x.sofar.scope.definitions } → Steps t (begun_at x scope) (Pop m ∷ []) (pops command place n s)
      popped_levels o scope o_is enough scope_is =
          let here : n ≤ open_levels s = subst (λ k. k ≤ open_levels s) (sym same) (subst (λ k. m ≤ k) (o_is ∙ open_is) enough) in
          record {
            standing = begun_with s (popped is_level_known x.global m (live_of s));
            stands =
                stands_begun t t x s scope (popped is_level_known x.global m (live_of s)) stands
                (subst (λ (sc : Scoping). Shows t x.sofar.fresh sc (popped is_level_known x.global m (live_of s))) (sym scope_is) (shows_popped t x.sofar.fresh x.sofar.scope (live_of s) stands.shows x.global m));
            gives =
                ap (λ b. closing_levels b (nat_lt (open_levels s) n)) few ∙ ap (closing_levels false) (not_less (open_levels s) n here)
                ∙ ap (λ k. Ok (pop k ∷ [], begun_with s (popped is_level_known s.global k (live_of s)))) same
                ∙ ap (λ b. Ok (pop m ∷ [], begun_with s (popped is_level_known b m (live_of s)))) stands.global;
          }
