use Rattle.std.proofs.Common.{◌≡◌, ℕ, ◌<◌, ◌≤◌, false, not, List, [], length, Option, None, Some, is_some, codes, ap, sym, ◌∙◌, subst, arith}
use Rattle.memchr.specs.Find.{FindsNeedle}
use Rattle.smt_lex.specs.Lex.{Token, symbol_of}
use Rattle.smt_lex.specs.Forest.{token_at}
use Rattle.script_read.specs.DrawnNames.{drawn_among}
use Rattle.script_terms.specs.Places.{forms_from}
use Rattle.script_terms.specs.TextNames.{with_name, names_with_all}
use Rattle.script_read.proofs.DrawnBytes.{none_drawn}
use Rattle.script_read.proofs.TextNames.{names_next, names_at_start, names_at_end}
use Rattle.script_read.proofs.text_names.names_in.Goals as goal

pub loop-token-init : goal.loop-token-init
loop-token-init c = ([], c.new-names.ensures, names_at_start c.args.forest.now.tokens [] c.len-count.ensures.scanned.balanced)

pub loop-token-preserved : goal.loop-token-preserved
loop-token-preserved c =
    let ts : List Token = c.args.forest.now.tokens in
    let i : ℕ = c.loop-token.token in
    let within : i < length ts = omega arith in
    let (ns, kept, left) = c.loop-token.invariant in
    (with_name ns (symbol_of (token_at ts i)), c.in_ok-add_symbol.ensures ns kept, sym (names_next ts i within ns) ∙ left)

pub returns : goal.returns
returns c =
    let ts : List Token = c.args.forest.now.tokens in
    let i : ℕ = c.loop-token.token in
    let past : length ts ≤ i = omega arith in
    let (ns, kept, left) = c.loop-token.invariant in
    kept ∙ ap drawn_among (sym (names_at_end ts i ns past) ∙ left)

pub returns-then-is_none : goal.returns-then-is_none
returns-then-is_none c = c.new-names.ensures ∙ sym (by c.find.result (c.is_none.ensures ∙ ap not c.if-is_none.true) (subst (λ bytes. FindsNeedle bytes (codes "FV") 0 c.find.result) c.bytes.ensures c.find.ensures))
  where
    by : (o : Option ℕ) → is_some o ≡ false → FindsNeedle c.args.forest.now.bytes (codes "FV") 0 o → drawn_among (names_with_all [] (forms_from c.args.forest.now.tokens 0)) ≡ []
    by None none found = none_drawn c.args.forest.now c.len-count.ensures.scanned found
    by (Some k) none found = absurd cc
