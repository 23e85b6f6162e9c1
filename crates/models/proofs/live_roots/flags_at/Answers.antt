use Rattle.std.proofs.Common.{◌∙◌, ◌++◌, ◌∷◌, [], sym, ap, subst, get_or, map, All, append-nil}
use Rattle.std.proofs.lemmas.List.{map-append}
use Rattle.std.proofs.lemmas.List.Elements.{All-push, All-get_or}
use Rattle.smt_terms.specs.declared.ids.SymId.{SymId}
use Rattle.term_table.specs.Formulas.{symbol_at, IsSymbol}
use Rattle.script_read.specs.CommandLists.{commands_of}
use Rattle.script_read.specs.Commands.{Signature, signature}
use Rattle.models.proofs.FlagsFound.{flags_more, flags_all}
use Rattle.models.proofs.live_roots.flags_at.Goals as goal
use Rattle.models.proofs.live_roots.flags_at.Goals.{then-is_flag+in_ok-push, else-is_flag}

pub loop-symbol-preserved : goal.loop-symbol-preserved
loop-symbol-preserved c =
    let t = c.args.table.now in
    let fs = c.symbols-symbol-items.result.now in
    let i = c.loop-symbol.symbol-index in
    let d : SymId = record { 0 = 0 } in
    let f = get_or fs i d in
    let was = c.loop-symbol.invariant in
    let symbols : All (IsSymbol t) fs = subst (All (IsSymbol t)) (sym c.symbols-symbol-items.ensures) c.in_ok-signature.ensures.numbers.1 in
    let within : IsSymbol t f = All-get_or (IsSymbol t) fs i d c.loop-symbol-test.true symbols in
    elim c.if-is_flag.branch [
      | then-is_flag+in_ok-push w ↦
          let all = ap (λ v. v.items) w.found-is ∙ w.in_ok-push.ensures.items in
          record {
            symbols = subst (All (IsSymbol t)) (sym all) (All-push (IsSymbol t) c.loop-symbol.found.items f was.symbols within);
            flags =
                ap (λ gs. map (symbol_at t) gs) all ∙ map-append (symbol_at t) c.loop-symbol.found.items (f ∷ [])
                ∙ ap (λ gs. gs ++ symbol_at t f ∷ []) was.flags
                ∙ sym (flags_more t fs i d _ c.loop-symbol-test.true (sym c.is_flag.ensures ∙ w.if-is_flag.true));
          }
      | else-is_flag w ↦
          let all = ap (λ v. v.items) w.found-is in
          record {
            symbols = subst (All (IsSymbol t)) (sym all) was.symbols;
            flags =
                ap (λ gs. map (symbol_at t) gs) all ∙ was.flags ∙ sym (append-nil _)
                ∙ sym (flags_more t fs i d _ c.loop-symbol-test.true (sym c.is_flag.ensures ∙ w.if-is_flag.false));
          }
    ]

pub returns-clause-flags : goal.returns-clause-flags
returns-clause-flags c =
    let t = c.args.table.now in
    let cs = commands_of t c.args.script.now.commands in
    c.loop-symbol.invariant.flags
    ∙ flags_all t c.symbols-symbol-items.result.now c.in_ok-signature.signature.symbols c.loop-symbol.symbol-index (signature cs c.args.check).symbols
    c.symbols-symbol-items.ensures (ap (λ (s : Signature). s.symbols) c.in_ok-signature.ensures.signature) c.loop-symbol-test.false
