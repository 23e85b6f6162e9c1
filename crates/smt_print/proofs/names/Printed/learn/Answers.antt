use Rattle.std.proofs.Common.{◌≡◌, rules, true, length, get_or, ◌++◌, ap, sym, ◌∙◌}
use Rattle.smt_lex.specs.Names.{is_simple, printed_symbol}
use Rattle.term_table.specs.Formulas.{no_symbol}
use Rattle.smt_print.proofs.PlainTexts.{simple-by-length, plain-learned}
use Rattle.smt_print.proofs.names.Printed.learn.Goals as goal

pub invariant_of-self : goal.invariant_of-self
invariant_of-self c =
    let t = c.self.inside.table.now in
    let name = c.symbol_name-name.result.now in
    let shown : c.symbol_text.new.out.items ≡ printed_symbol name = c.in_ok-symbol_text.ensures.ok ∙ ap (λ xs. xs ++ printed_symbol name) c.clear.ensures.items in
    let long : length c.symbol_text.new.out.items ≡ length name = search rules in
    let simple : is_simple (get_or t.symbols c.args.symbol.0 no_symbol).name ≡ true = ap is_simple (sym c.symbol_name-name.ensures.name) ∙ simple-by-length name (ap length (sym shown) ∙ long) in
    plain-learned t c.self.inside.plain.items c.set_plain.new.plain.items c.args.symbol.0 c.self.invariant simple c.set_plain.ensures

pub invariant_of-self-in_err-set_plain : goal.invariant_of-self-in_err-set_plain
invariant_of-self-in_err-set_plain c =
    let t = c.self.inside.table.now in
    let name = c.symbol_name-name.result.now in
    let shown : c.symbol_text.new.out.items ≡ printed_symbol name = c.in_ok-symbol_text.ensures.ok ∙ ap (λ xs. xs ++ printed_symbol name) c.clear.ensures.items in
    let long : length c.symbol_text.new.out.items ≡ length name = search rules in
    let simple : is_simple (get_or t.symbols c.args.symbol.0 no_symbol).name ≡ true = ap is_simple (sym c.symbol_name-name.ensures.name) ∙ simple-by-length name (ap length (sym shown) ∙ long) in
    plain-learned t c.self.inside.plain.items c.set_plain.new.plain.items c.args.symbol.0 c.self.invariant simple c.set_plain.ensures
