use Rattle.std.proofs.Common.{◌≡◌, length, ◌∷◌, [], ◌++◌, map, reverse, subst, ap, sym, ◌∙◌}
use Rattle.std.proofs.lemmas.Iterator.Adapters.{YieldsList-from_rev_slice}
use Rattle.std.proofs.lemmas.Iterator.Consumers.{YieldsList-turn}
use Rattle.std.proofs.lemmas.List.{map-append, reverse-append}
use Rattle.std.proofs.lemmas.List.Elements.{All-get_or}
use Rattle.term_table.specs.Formulas.{IsSymbol}
use Rattle.model_texts.specs.SignatureNames.{AreSymbolsNamed, by_name, at_name}
use Rattle.model_texts.proofs.NamedEntries.{put_in}
use Rattle.model_texts.proofs.SignatureOwners.{all_reversed, one_symbol_more}
use Rattle.model_texts.proofs.names.names_of_symbols.Goals as goal

pub loop-symbol-preserved : goal.loop-symbol-preserved
loop-symbol-preserved c =
    let t = c.args.table.now in
    let f = c.in-Some.symbol.now in
    let turn = YieldsList-turn (YieldsList-from_rev_slice c.args.symbols.now cc) c.loop-symbol.yielded _ c.loop-symbol.yielded_by _ _ c.in-Some.symbol c.in-Some.is c.next.ensures.steps in
    let there : IsSymbol t f = subst (IsSymbol t) (sym turn.1) (All-get_or (IsSymbol t) (reverse c.args.symbols.now) (length c.loop-symbol.yielded) f turn.0 (all_reversed (IsSymbol t) c.args.symbols.now c.requires)) in
    let earlier = map (λ f. f.now) c.loop-symbol.yielded in
    let last : reverse (map (λ f. f.now) (c.loop-symbol.yielded ++ c.in-Some.symbol ∷ [])) ≡ f ∷ reverse earlier =
    ap reverse (map-append (λ f. f.now) c.loop-symbol.yielded (c.in-Some.symbol ∷ [])) ∙ reverse-append earlier (f ∷ []) in
    subst (λ fs. AreSymbolsNamed t fs (by_name c.insert.new.self.entries)) (sym last)
    (one_symbol_more t (reverse earlier) f c.symbol_name.result.now (by_name c.loop-symbol.names.entries) (by_name c.insert.new.self.entries) c.loop-symbol.invariant there c.symbol_name.ensures.name
    (λ n. ap (λ es. at_name (by_name es) n) c.in_ok-insert.ensures.entries ∙ put_in c.loop-symbol.names.entries c.symbol_name.result f n))
