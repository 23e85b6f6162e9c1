-- The matches of `clap` on words that the definition accepts, for each command.
use Rattle.std.proofs.Common.{◌≡◌, ℕ, suc, true, List, [], ◌∷◌, length, Option, Some, None, Ok, refl, sym, ap, ◌∙◌, subst, codes}
use Rattle.std.specs.Str.Parse.{digits_value}
use Rattle.clap.specs.Matches.{first_value}
use Rattle.clap.specs.Walk.{Row, Text, Walk, idle, first_of, finished, settled_rows, walk, nothing_held}
use Rattle.clap.specs.Simple.{App, built, matches_of}
use Rattle.clap.specs.Takes.{takes}
use Rattle.clap.specs.declared.parser.matches.Found.{Found}
use Rattle.smt_print.specs.declared.layout.Layout.{Layout}
use Rattle.smt_print.specs.declared.layout.Layout.TheVariants.{Tree}
use Rattle.pass_laws.specs.declared.names.Pass.{Pass}
use Rattle.smtrw_answers.specs.Words.{Word, Numbered, Command, rewriting, translating, extending, blasting, unblasting, linking, answering, counting, demonstrating, needed, takes_pass, Setting, settings_of, Given, nothing_given, passes_of, layout_of, check_of, words_from, Asked, rewrite, translate, extend, blast, unblast, dimacs, answer, stats, demo, asked_with, asked_or_missing, at_end, asked_of}
use Rattle.smtrw_answers.specs.Asking.{passes_in, layout_in, check_in, CarryingIn, BlastingIn, GivesRewriting, GivesCounting, GivesDemonstrating, number_of}
use Rattle.smtrw_answers.proofs.ClapRows.{first_of-none}
use Rattle.smtrw_answers.proofs.ClapWalk.{walk_at, OperandsIn, Taking}
use Rattle.smtrw_answers.proofs.ClapWords.{PassesIn, LayoutIn, CheckIn, Holds, Stands, waiting_of, PutsWords, along_all, nothing_along, and_then_ok}
use Rattle.smtrw_answers.proofs.DemoWords.{AreNumbers}

-- ---- any command

-- `clap` takes the words, and its rows hold what they give
pub record Matched (c : Command) (app : App) (ids : List Text) (g : Given) (words : List Word) : Type 0 where
  pub takes : takes app words ≡ true
  pub holds : Holds c ids g (matches_of app words)

nothing_awaited : (c : Command) (i : ℕ) (g : Given) (a : Asked) (s : Option Setting) → g.awaited ≡ s → at_end c i g s ≡ Ok a → (g.awaited ≡ None) × (asked_or_missing i (asked_with c g g.plain) ≡ Ok a)
nothing_awaited c i g a None idles e = (idles, e)
nothing_awaited c i g a (Some s) awaits e = absurd cc

pub all_matched : (c : Command) (app : App) (ids : List Text) → Taking (settings_of c) (needed c) app ids → PutsWords c
    → (name : Word) (ws : List Word) (a : Asked) → asked_of (Some c) ws ≡ Ok a
    → (g : Given) × Matched c app ids g (name ∷ ws) × (asked_or_missing (suc (suc (length ws))) (asked_with c g g.plain) ≡ Ok a) × (words_from (takes_pass c) c 2 ws nothing_given ≡ Ok g)
all_matched c app ids t puts name ws a e =
    let rules = (built app).top.rules in
    let all = and_then_ok (λ g. at_end c (suc (suc (length ws))) g g.awaited) (words_from (takes_pass c) c 2 ws nothing_given) a e in
    let g = all.0 in
    let end = nothing_awaited c (suc (suc (length ws))) g a g.awaited refl all.2 in
    let along = along_all c app ids t puts 2 ws nothing_given g (walk_at [] None idle 1) (nothing_along c app ids t puts) all.1 in
    let rows = along.along.rows in
    let p = along.along.pending in
    let n = suc (length g.plain) in
    let stand : walk rules [] nothing_held ws ≡ walk_at rows p idle n = along.along.stand ∙ ap (λ s. walk_at rows p (waiting_of s) n) end.0 in
    let stands = subst (λ s. Stands c (built app).top ids s g rows p) end.0 along.along.holds in
    let rows_are : matches_of app (name ∷ ws) ≡ settled_rows rules p rows = t.found name ws ∙ ap (λ (w : Walk). finished rules w.held) stand ∙ t.finished_at rows p in
    (g, record { takes = t.taken name ws rows p n stand stands.1 along.passes; holds = subst (Holds c ids g) (sym rows_are) stands.0 }, end.1, all.1)

-- ---- what the rows say

passes_found : (c : Command) (o : Option (List Pass)) (rows : List Row) → PassesIn c o rows → passes_in c (first_of (codes "passes") rows) ≡ Ok (elim o [ Some ps ↦ ps | None ↦ [] ])
passes_found c None rows no_row = ap (passes_in c) (first_of-none (codes "passes") rows no_row)
passes_found c (Some ps) rows (t, found, read) = ap (passes_in c) found ∙ read

layout_found : (o : Option Layout) (rows : List Row) → LayoutIn o rows → layout_in (first_of (codes "layout") rows) ≡ Some (elim o [ Some l ↦ l | None ↦ Tree ])
layout_found None rows no_row = ap layout_in (first_of-none (codes "layout") rows no_row)
layout_found (Some l) rows (t, found, read) = ap layout_in found ∙ read

check_found : (o : Option ℕ) (rows : List Row) → CheckIn o rows → check_in (first_of (codes "check") rows) ≡ Some (elim o [ Some k ↦ k | None ↦ 1 ])
check_found None rows no_row = ap check_in (first_of-none (codes "check") rows no_row)
check_found (Some k) rows (t, found, read) = ap check_in found ∙ read

-- ---- each command: what is given, and the rows that `clap` found

module _ (rows : List Row) (found : Found) (same : (id : Text) → first_value found id ≡ first_of id rows) where
  pub rewriting_given : (i : ℕ) (g : Given) (ps : List Pass) (l : Layout) (f : Numbered) → Holds rewriting (codes "file" ∷ []) g rows
      → asked_or_missing i (asked_with rewriting g g.plain) ≡ Ok (rewrite ps l f) → GivesRewriting (Ok (rewrite ps l f)) found
  rewriting_given i g ps l f holds e =
      let is = parts g.plain e in (
        ap (passes_in rewriting) (same (codes "passes")) ∙ passes_found rewriting g.passes rows holds.passes ∙ ap Ok is.1,
        ap layout_in (same (codes "layout")) ∙ layout_found g.layout rows holds.layout ∙ ap Some is.2,
        same (codes "file") ∙ (subst (λ fs. OperandsIn (codes "file" ∷ []) fs rows) is.0 holds.operands).0,
      )
    where
      parts : (fs : List Numbered) → asked_or_missing i (asked_with rewriting g fs) ≡ Ok (rewrite ps l f) → (fs ≡ f ∷ []) × (passes_of g ≡ ps) × (layout_of g ≡ l)
      parts [] is = absurd cc
      parts (x ∷ []) is = (cc, cc, cc)
      parts (x ∷ y ∷ xs) is = absurd cc

  carried : (c : Command) (g : Given) (ps : List Pass) (k : ℕ) (s m : Numbered) → Holds c (codes "script" ∷ codes "model" ∷ []) g rows
      → (g.plain ≡ s ∷ m ∷ []) × (passes_of g ≡ ps) × (check_of g ≡ k) → CarryingIn c ps k s m found
  carried c g ps k s m holds is =
      let files = subst (λ fs. OperandsIn (codes "script" ∷ codes "model" ∷ []) fs rows) is.0 holds.operands in (
        ap (passes_in c) (same (codes "passes")) ∙ passes_found c g.passes rows holds.passes ∙ ap Ok is.1,
        ap check_in (same (codes "check")) ∙ check_found g.check rows holds.check ∙ ap Some is.2,
        same (codes "script") ∙ files.0,
        same (codes "model") ∙ files.1.0,
      )

  pub translating_given : (i : ℕ) (g : Given) (ps : List Pass) (k : ℕ) (s m : Numbered) → Holds translating (codes "script" ∷ codes "model" ∷ []) g rows
      → asked_or_missing i (asked_with translating g g.plain) ≡ Ok (translate ps k s m) → CarryingIn translating ps k s m found
  translating_given i g ps k s m holds e = carried translating g ps k s m holds (parts g.plain e)
    where
      parts : (fs : List Numbered) → asked_or_missing i (asked_with translating g fs) ≡ Ok (translate ps k s m) → (fs ≡ s ∷ m ∷ []) × (passes_of g ≡ ps) × (check_of g ≡ k)
      parts [] is = absurd cc
      parts (x ∷ []) is = absurd cc
      parts (x ∷ y ∷ []) is = (cc, cc, cc)
      parts (x ∷ y ∷ z ∷ xs) is = absurd cc

  pub extending_given : (i : ℕ) (g : Given) (ps : List Pass) (k : ℕ) (s m : Numbered) → Holds extending (codes "script" ∷ codes "model" ∷ []) g rows
      → asked_or_missing i (asked_with extending g g.plain) ≡ Ok (extend ps k s m) → CarryingIn extending ps k s m found
  extending_given i g ps k s m holds e = carried extending g ps k s m holds (parts g.plain e)
    where
      parts : (fs : List Numbered) → asked_or_missing i (asked_with extending g fs) ≡ Ok (extend ps k s m) → (fs ≡ s ∷ m ∷ []) × (passes_of g ≡ ps) × (check_of g ≡ k)
      parts [] is = absurd cc
      parts (x ∷ []) is = absurd cc
      parts (x ∷ y ∷ []) is = (cc, cc, cc)
      parts (x ∷ y ∷ z ∷ xs) is = absurd cc

  pub unblasting_given : (i : ℕ) (g : Given) (ps : List Pass) (k : ℕ) (s m : Numbered) → Holds unblasting (codes "script" ∷ codes "model" ∷ []) g rows
      → asked_or_missing i (asked_with unblasting g g.plain) ≡ Ok (unblast ps k s m) → CarryingIn unblasting ps k s m found
  unblasting_given i g ps k s m holds e = carried unblasting g ps k s m holds (parts g.plain e)
    where
      parts : (fs : List Numbered) → asked_or_missing i (asked_with unblasting g fs) ≡ Ok (unblast ps k s m) → (fs ≡ s ∷ m ∷ []) × (passes_of g ≡ ps) × (check_of g ≡ k)
      parts [] is = absurd cc
      parts (x ∷ []) is = absurd cc
      parts (x ∷ y ∷ []) is = (cc, cc, cc)
      parts (x ∷ y ∷ z ∷ xs) is = absurd cc

  pub answering_given : (i : ℕ) (g : Given) (ps : List Pass) (k : ℕ) (s m : Numbered) → Holds answering (codes "script" ∷ codes "model" ∷ []) g rows
      → asked_or_missing i (asked_with answering g g.plain) ≡ Ok (answer ps k s m) → CarryingIn answering ps k s m found
  answering_given i g ps k s m holds e = carried answering g ps k s m holds (parts g.plain e)
    where
      parts : (fs : List Numbered) → asked_or_missing i (asked_with answering g fs) ≡ Ok (answer ps k s m) → (fs ≡ s ∷ m ∷ []) × (passes_of g ≡ ps) × (check_of g ≡ k)
      parts [] is = absurd cc
      parts (x ∷ []) is = absurd cc
      parts (x ∷ y ∷ []) is = (cc, cc, cc)
      parts (x ∷ y ∷ z ∷ xs) is = absurd cc

  alone : (c : Command) (g : Given) (ps : List Pass) (k : ℕ) (f : Numbered) → Holds c (codes "script" ∷ []) g rows → (g.plain ≡ f ∷ []) × (passes_of g ≡ ps) × (check_of g ≡ k) → BlastingIn c ps k f found
  alone c g ps k f holds is = (
    ap (passes_in c) (same (codes "passes")) ∙ passes_found c g.passes rows holds.passes ∙ ap Ok is.1,
    ap check_in (same (codes "check")) ∙ check_found g.check rows holds.check ∙ ap Some is.2,
    same (codes "script") ∙ (subst (λ fs. OperandsIn (codes "script" ∷ []) fs rows) is.0 holds.operands).0,
  )

  pub blasting_given : (i : ℕ) (g : Given) (ps : List Pass) (k : ℕ) (f : Numbered) → Holds blasting (codes "script" ∷ []) g rows
      → asked_or_missing i (asked_with blasting g g.plain) ≡ Ok (blast ps k f) → BlastingIn blasting ps k f found
  blasting_given i g ps k f holds e = alone blasting g ps k f holds (parts g.plain e)
    where
      parts : (fs : List Numbered) → asked_or_missing i (asked_with blasting g fs) ≡ Ok (blast ps k f) → (fs ≡ f ∷ []) × (passes_of g ≡ ps) × (check_of g ≡ k)
      parts [] is = absurd cc
      parts (x ∷ []) is = (cc, cc, cc)
      parts (x ∷ y ∷ xs) is = absurd cc

  pub linking_given : (i : ℕ) (g : Given) (ps : List Pass) (k : ℕ) (f : Numbered) → Holds linking (codes "script" ∷ []) g rows
      → asked_or_missing i (asked_with linking g g.plain) ≡ Ok (dimacs ps k f) → BlastingIn linking ps k f found
  linking_given i g ps k f holds e = alone linking g ps k f holds (parts g.plain e)
    where
      parts : (fs : List Numbered) → asked_or_missing i (asked_with linking g fs) ≡ Ok (dimacs ps k f) → (fs ≡ f ∷ []) × (passes_of g ≡ ps) × (check_of g ≡ k)
      parts [] is = absurd cc
      parts (x ∷ []) is = (cc, cc, cc)
      parts (x ∷ y ∷ xs) is = absurd cc

  pub counting_given : (i : ℕ) (g : Given) (f : Numbered) → Holds counting (codes "file" ∷ []) g rows → asked_or_missing i (asked_with counting g g.plain) ≡ Ok (stats f)
      → GivesCounting (Ok (stats f)) found
  counting_given i g f holds e = same (codes "file") ∙ (subst (λ fs. OperandsIn (codes "file" ∷ []) fs rows) (parts g.plain e) holds.operands).0
    where
      parts : (fs : List Numbered) → asked_or_missing i (asked_with counting g fs) ≡ Ok (stats f) → fs ≡ f ∷ []
      parts [] is = absurd cc
      parts (x ∷ []) is = cc
      parts (x ∷ y ∷ xs) is = absurd cc

  pub demonstrating_given : (i : ℕ) (g : Given) (seed size : ℕ) → Holds demonstrating (codes "seed" ∷ codes "size" ∷ []) g rows → AreNumbers g.plain
      → asked_or_missing i (asked_with demonstrating g g.plain) ≡ Ok (demo seed size) → GivesDemonstrating (Ok (demo seed size)) found
  demonstrating_given i g seed size holds = parts g.plain holds.operands
    where
      parts : (ws : List Numbered) → OperandsIn (codes "seed" ∷ codes "size" ∷ []) ws rows → AreNumbers ws
          → asked_or_missing i (asked_with demonstrating g ws) ≡ Ok (demo seed size) → GivesDemonstrating (Ok (demo seed size)) found
      parts [] held numbers is = absurd cc
      parts (s ∷ []) held numbers is = absurd cc
      parts (s ∷ n ∷ []) held numbers is =
          let both : (digits_value 10 s.word ≡ seed) × (digits_value 10 n.word ≡ size) = (cc, cc) in
          (ap number_of (same (codes "seed") ∙ held.0) ∙ numbers.0 ∙ ap Some both.0, ap number_of (same (codes "size") ∙ held.1.0) ∙ numbers.1.0 ∙ ap Some both.1)
      parts (s ∷ n ∷ x ∷ ws) held numbers is = absurd cc
