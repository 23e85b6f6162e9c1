-- Stored rules lead from commands that can be printed to equivalent ones that can be printed, and that are such as the rules of
-- their names may make.
use Rattle.std.proofs.Common.{◌≡◌, refl, Bool, true, false, List, [], ◌∷◌}
use Rattle.smt_terms.specs.Fresh.{Supply}
use Rattle.smt_terms.specs.Rank.{IsWellSorted}
use Rattle.smt_terms.specs.Sorts.{Name}
use Rattle.smt_terms.specs.Term.{Term}
use Rattle.rule_book.specs.EightRules.{all_eight}
use Rattle.rule_book.specs.Rewriting.{Rewrites, RewritingKeepsValues, EightRewriteSo}
use Rattle.script_read.specs.Commands.{Command, assert, State, start, after}
use Rattle.script_read.specs.Printable.{sort_is_live, may_stand, fixes, printable_from}
use Rattle.pass_laws.specs.Laws.{RulesKeepCommands}
use Rattle.pass_laws.specs.Led.{IsRewriting, MadeBy, MayBecome, EachMayBecome}
use Rattle.pass_laws.specs.Ruling.{RewritesCommand, RewritesCommands}
use Rattle.pass_laws.proofs.Assertions.{Kept}
use Rattle.pass_laws.proofs.Kept.{turned_keep}
use Rattle.pass_laws.proofs.RewritesInside.{rewrites-symbols, rewrites-names, rewrites-clear, rewrites-within}
use Rattle.pass_laws.proofs.Standing.{stands}
use Rattle.pass_laws.proofs.Walked.{First, first, TurnsInto, EachTurnsInto}

module _ (keep : RewritingKeepsValues) (so : EightRewriteSo) (rules : List Name) where
  -- ---- one assertion

  module _ (t u : Term) (fine : IsWellSorted t) (r : Rewrites rules t u) where
    kept : Kept t u
    kept = record {
      keeps = keep rules t u fine r;
      symbols = rewrites-symbols rules t u r;
      clear = rewrites-clear rules t u fine r;
      within = λ sorts names numbered all. rewrites-within rules sorts names t u r all;
    }

    rewriting : IsRewriting t u
    rewriting = record {
      keeps = keep rules t u fine r;
      symbols = rewrites-symbols rules t u r;
      names = λ sorts is_name all. rewrites-within rules (sort_is_live sorts) is_name t u r all;
    }

    made_by : (eight : Bool) → all_eight rules ≡ eight → MadeBy eight rules t u
    made_by true eight = so rules t u eight r
    made_by false eight = rewriting

  -- ---- one command after the other

  turns : (s : Supply) (c d : Command Term) → RewritesCommand rules c d → TurnsInto c s d s
  turns s (assert i t) d r = (r.0, (r.1.0, λ fine given. record { kept = kept t r.0 fine r.1.1; later = λ n never. never; names = λ n among. given n (rewrites-names rules t r.0 r.1.1 n among) }))
  turns s _ d is = (is, refl)

  each_turns : (s : Supply) (cs ds : List (Command Term)) → RewritesCommands rules cs ds → EachTurnsInto cs s ds s
  each_turns s [] [] r = refl
  each_turns s [] (d ∷ ds) r = absurd r
  each_turns s (c ∷ cs) [] r = absurd r
  each_turns s (c ∷ cs) (d ∷ ds) r = (s, (turns s c d r.0, each_turns s cs ds r.1))

  becomes : (begun : Bool) (s : State Term) (c d : Command Term) → may_stand begun s c ≡ true → RewritesCommand rules c d → MayBecome rules c d
  becomes begun s (assert i t) d h r = (r.0, r.1.0, made_by t r.0 (stands begun s i t h).sorted r.1.1 (all_eight rules) refl)
  becomes begun s _ d h is = is

  each_becomes : (cs ds : List (Command Term)) (begun : Bool) (s : State Term) → printable_from begun s cs ≡ true → RewritesCommands rules cs ds → EachMayBecome rules cs ds
  each_becomes [] [] begun s h r = tt
  each_becomes [] (d ∷ ds) begun s h r = absurd r
  each_becomes (c ∷ cs) [] begun s h r = absurd r
  each_becomes (c ∷ cs) (d ∷ ds) begun s h r =
      let f : First begun s c cs = first begun s c cs h in
      (becomes begun s c d f.stands r.0, each_becomes cs ds (fixes begun c) (after c s) f.rest r.1)

pub rules_keep : RewritingKeepsValues → EightRewriteSo → RulesKeepCommands
rules_keep keep so rules cs ds s ready r = (turned_keep cs ds s s (each_turns keep so rules s cs ds r) ready, each_becomes keep so rules cs ds false start ready.printable r)
