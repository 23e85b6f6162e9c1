use Rattle.std.proofs.Common.{◌≡◌, ◌-◌, ◌++◌, List, length, replicate, set, take, slice_get, Some, ap, sym, ◌∙◌, subst, arith, option_copied}
use Rattle.script_terms.specs.Laid.{starts_of, AreOpen}
use Rattle.script_terms.specs.declared.levels.Run.{Run}
use Rattle.script_terms.proofs.EndedRuns.{all-starts, all-some, all-open, some-starts, some-open}
use Rattle.script_terms.proofs.levels.end_latest.Goals as goal

pub returns-then-latest-most-clause-some : goal.returns-then-latest-most-clause-some
returns-then-latest-most-clause-some c =
    let rs = c.args.marks.now.items in
    let r = c.unwrap-latest.result.now in
    let at : slice_get rs (length rs - 1) ≡ Some r =
    ap (λ (ps : List Run). slice_get ps (length ps - 1)) (sym c.deref.ensures.value) ∙ sym c.last.ensures.value ∙ ap option_copied c.unwrap-latest.ensures in
    all-some rs r at c.requires.runs

pub returns-then-latest-most-clause-starts : goal.returns-then-latest-most-clause-starts
returns-then-latest-most-clause-starts c =
    let rs = c.args.marks.now.items in
    let r = c.unwrap-latest.result.now in
    let at : slice_get rs (length rs - 1) ≡ Some r =
    ap (λ (ps : List Run). slice_get ps (length ps - 1)) (sym c.deref.ensures.value) ∙ sym c.last.ensures.value ∙ ap option_copied c.unwrap-latest.ensures in
    let rest = c.pop.ensures.rest ∙ ap (λ n. take (n - 1) rs) c.args.marks.now.ok.0 in
    all-starts rs r at ∙ ap (λ (ps : List Run). replicate r.levels r.below ++ starts_of ps) (sym rest)

pub returns-then-latest-most-clause-runs : goal.returns-then-latest-most-clause-runs
returns-then-latest-most-clause-runs c =
    let rs = c.args.marks.now.items in
    let r = c.unwrap-latest.result.now in
    let at : slice_get rs (length rs - 1) ≡ Some r =
    ap (λ (ps : List Run). slice_get ps (length ps - 1)) (sym c.deref.ensures.value) ∙ sym c.last.ensures.value ∙ ap option_copied c.unwrap-latest.ensures in
    let rest = c.pop.ensures.rest ∙ ap (λ n. take (n - 1) rs) c.args.marks.now.ok.0 in
    subst AreOpen (sym rest) (all-open rs r at c.requires.runs)

pub returns-clause-starts : goal.returns-clause-starts
returns-clause-starts c =
    let rs = c.args.marks.now.items in
    let r = c.unwrap-latest.result.now in
    let left : Run = record { levels = r.levels - c.args.most; below = r.below } in
    let at : slice_get rs (length rs - 1) ≡ Some r =
    ap (λ (ps : List Run). slice_get ps (length ps - 1)) (sym c.deref.ensures.value) ∙ sym c.last.ensures.value ∙ ap option_copied c.unwrap-latest.ensures in
    let long = c.len-last.ensures ∙ c.args.marks.now.ok.0 in
    let less = c.if-latest-most.false in
    some-starts rs r at c.args.most (omega (arith, less)) ∙ ap (λ n. replicate c.args.most r.below ++ starts_of (set rs (n - 1) left)) (sym long)

pub returns-clause-runs : goal.returns-clause-runs
returns-clause-runs c =
    let rs = c.args.marks.now.items in
    let r = c.unwrap-latest.result.now in
    let left : Run = record { levels = r.levels - c.args.most; below = r.below } in
    let at : slice_get rs (length rs - 1) ≡ Some r =
    ap (λ (ps : List Run). slice_get ps (length ps - 1)) (sym c.deref.ensures.value) ∙ sym c.last.ensures.value ∙ ap option_copied c.unwrap-latest.ensures in
    let long = c.len-last.ensures ∙ c.args.marks.now.ok.0 in
    let less = c.if-latest-most.false in
    subst (λ n. AreOpen (set rs (n - 1) left)) (sym long) (some-open rs r at c.args.most (omega (arith, less)) c.requires.runs)
