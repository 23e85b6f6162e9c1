-- What took the places of operands as applications were removed: of each constant it is what the constants that were live then make
-- of the operands of its application, since no constant is drawn twice.
use Rattle.std.proofs.Common.{◌≡◌, ◌∙◌, sym, ap, refl, ℕ, Bool, true, false, cond, ◌⊎◌, inl, inr, List, [], ◌∷◌, ◌++◌, get_or, All, Some, None}
use Rattle.std.proofs.lemmas.List.Elements.{All-head, All-tail, All-weaker}
use Rattle.std.proofs.lemmas.Option.{same_Some}
use Rattle.smt_terms.specs.Equal.{symbol_eq}
use Rattle.smt_terms.specs.Free.{is_among}
use Rattle.smt_terms.specs.Fresh.{Supply}
use Rattle.smt_terms.specs.Groups.{Named}
use Rattle.smt_terms.specs.Sorts.{Symbol}
use Rattle.smt_terms.specs.Term.{Term}
use Rattle.smt_terms.proofs.Among.{is_among-append}
use Rattle.smt_terms.proofs.Equal.{Decides-symbol_eq}
use Rattle.smt_terms.proofs.Tests.{either_true, both_false, contrary}
use Rattle.term_groups.specs.Drawing.{ConstantsAreNew}
use Rattle.term_groups.specs.Grouping.{symbols_of}
use Rattle.ackermann.specs.Ackermann.{one_level, live as live_pairs, ack}
use Rattle.ackermann.specs.Tables.{operands_of}
use Rattle.script_read.specs.Commands.{Command, assert, with_asserted, State, start, after, live_in}
use Rattle.script_read.specs.Printable.{fixes}
use Rattle.pass_laws.specs.declared.names.Pass.TheVariants.{Ackermann}
use Rattle.pass_laws.specs.Carry.{term_for}
use Rattle.pass_laws.specs.GroupPoints.{drawn_in}
use Rattle.pass_laws.specs.Laws.{IsReady}
use Rattle.pass_laws.specs.LiveGroups.{Operands, operands_in, operands_with, operands_behind, removed_operands}
use Rattle.pass_laws.specs.Passed.{Way, Replacement, literal_kept, onward, replacements_from, replacements, refused_by}
use Rattle.pass_laws.proofs.AckedCommands.{Before, acked_by, live_there, is_acked, assert_then, next_before, all_acked, before_all}
use Rattle.pass_laws.proofs.DrawnSymbols.{AreDrawn, other_way}
use Rattle.pass_laws.proofs.NamedTerms.{HaveOwn, each_among}
use Rattle.pass_laws.proofs.RemovalChains.{acked_drawn}
use Rattle.pass_laws.proofs.RemovalDrawn.{none_drawn}
use Rattle.pass_laws.proofs.RemovalLinks.{pairs_of}

-- ---- what is known of a constant's operands

abbrev Known : Type 0
Known = List (Symbol × List Term)

-- other constants change nothing
other_operands : (ns new : Named) (ps : Known) (v : Symbol) → is_among (symbols_of new) v ≡ false → operands_in (operands_with ps ns new) v ≡ operands_in ps v
other_operands ns [] ps v apart = refl
other_operands ns (n ∷ new) ps v apart =
    let parts = both_false (symbol_eq n.0 v) (is_among (symbols_of new) v) apart in
    other_operands ns new ((n.0, operands_of ns n.1) ∷ ps) v parts.1 ∙ ap (λ b. cond b (operands_of ns n.1) (operands_in ps v)) (other_way v n.0 parts.0)

abbrev StandsFor : Symbol → Term → Symbol × Term → Type 0
StandsFor v t n = symbol_eq v n.0 ≡ true → n.1 ≡ t

own_operands : (ns new : Named) (ps : Known) (v : Symbol) (t : Term) → All (StandsFor v t) new → (is_among (symbols_of new) v ≡ true) ⊎ (operands_in ps v ≡ operands_of ns t) → operands_in (operands_with ps ns new) v ≡ operands_of ns t
own_operands ns [] ps v t all (inl among) = absurd cc
own_operands ns [] ps v t all (inr here) = here
own_operands ns (n ∷ new) ps v t all known = own_operands ns new ((n.0, operands_of ns n.1) ∷ ps) v t (All-tail (StandsFor v t) n new all) (by (symbol_eq v n.0) refl known)
  where
    later : symbol_eq v n.0 ≡ false → (symbol_eq n.0 v ≡ true) ⊎ (is_among (symbols_of new) v ≡ true) → is_among (symbols_of new) v ≡ true
    later apart (inl here) = contrary (symbol_eq n.0 v) here (other_way n.0 v apart)
    later apart (inr there) = there

    by : (b : Bool) → symbol_eq v n.0 ≡ b → (is_among (symbols_of (n ∷ new)) v ≡ true) ⊎ (operands_in ps v ≡ operands_of ns t)
        → (is_among (symbols_of new) v ≡ true) ⊎ (operands_in ((n.0, operands_of ns n.1) ∷ ps) v ≡ operands_of ns t)
    by true e before = inr (ap (λ b. cond b (operands_of ns n.1) (operands_in ps v)) e ∙ ap (operands_of ns) (All-head (StandsFor v t) n new all e))
    by false e (inl among) = inl (later e (either_true (symbol_eq n.0 v) (is_among (symbols_of new) v) among))
    by false e (inr here) = inr (ap (λ b. cond b (operands_of ns n.1) (operands_in ps v)) e ∙ here)

stands_for : (new : Named) (v : Symbol) (t : Term) → HaveOwn new new → term_for new v ≡ Some t → All (StandsFor v t) new
stands_for new v t own found =
    All-weaker (λ n. term_for new n.0 ≡ Some n.1) (StandsFor v t) (λ n at same. same_Some n.1 t (sym at ∙ ap (term_for new) (sym ((Decides-symbol_eq v n.0).0 same)) ∙ found)) new own

-- each of the new constants has the operands of its application
group_operands : (ns new : Named) (ps : Known) → HaveOwn new new → All (λ n. operands_in (operands_with ps ns new) n.0 ≡ operands_of ns n.1) new
group_operands ns new ps own k d lt =
    let n : Symbol × Term = get_or new k d in
    own_operands ns new ps n.0 n.1 (stands_for new n.0 n.1 own (own k d lt)) (inl (each_among new k d lt))

abbrev way_then : Term → Way → Way
way_then t w = record { levels = (ack t w.levels w.names).levels; names = (ack t w.levels w.names).names }

later_operands : (cs : List (Command Term)) (w : Way) (ps : Known) (v : Symbol) → is_among (drawn_in (replacements_from Ackermann cs w).0) v ≡ false → operands_in (operands_behind ps cs w) v ≡ operands_in ps v
later_operands [] w ps v apart = refl
later_operands (assert i t ∷ cs) w ps v apart =
    let new : Named = (ack t w.levels w.names).group.symbols in
    let others : List Symbol = drawn_in (replacements_from Ackermann cs (way_then t w)).0 in
    let parts = both_false (is_among (symbols_of new) v) (is_among others v) (sym (is_among-append (symbols_of new) others v) ∙ apart) in
    later_operands cs (way_then t w) (operands_with ps (live_pairs w.levels ++ new) new) v parts.1 ∙ other_operands (live_pairs w.levels ++ new) new ps v parts.0
later_operands (c ∷ cs) w ps v apart = later_operands cs (onward c w) ps v apart

-- ---- at each assertion

-- the constants that are live behind an assertion tell the operands of the new ones
abbrev pub AreOperands : Operands → Named → Replacement → Type 0
AreOperands ops earlier x = All (λ n. ops n.0 ≡ operands_of (earlier ++ x.group.symbols) n.1) x.group.symbols

abbrev pub TellsOperands : Operands → List (Command Replacement) → State Replacement → Type 0
TellsOperands ops [] st = Unit {0}
TellsOperands ops (assert i x ∷ rs) st = AreOperands ops (pairs_of (live_in st)) x × TellsOperands ops rs (after (assert i x) st)
TellsOperands ops (c ∷ rs) st = TellsOperands ops rs (after c st)

module _ (law : ConstantsAreNew) (s : Supply) where
  told_here : (i : ℕ) (t : Term) (cs : List (Command Term)) (begun : Bool) (st : State Replacement) (w : Way) (ps : Known) → Before law s begun st w (assert i t ∷ cs)
      → AreOperands (operands_in (operands_behind ps (assert i t ∷ cs) w)) (pairs_of (live_in st)) (acked_by law s i t w)
  told_here i t cs begun st w ps h k d lt =
      later_operands cs (way_then t w) (operands_with ps ns new) n.0 (none_drawn law s (replacements_from Ackermann cs (way_then t w)).0 (after (assert i (acked_by law s i t w)) st) (ack t w.levels w.names).names (replacements_from Ackermann cs (way_then t w)).1
      (all_acked law s cs true (after (assert i (acked_by law s i t w)) st) (way_then t w) (assert_then law s begun st w cs i t h)) n.0 (drawn.gone n.0 (each_among new k d lt)))
      ∙ group_operands ns new ps drawn.own k d lt ∙ ap (λ ms. operands_of (ms ++ new) n.1) (live_there law s st w h.levels)
    where
      new : Named
      new = (acked_by law s i t w).group.symbols

      ns : Named
      ns = live_pairs w.levels ++ new

      n : Symbol × Term
      n = get_or new k d

      drawn : AreDrawn (acked_by law s i t w).group.symbols w.names (ack t w.levels w.names).names
      drawn = acked_drawn law (pairs_of (live_in st)) (acked_by law s i t w) w.names (ack t w.levels w.names).names (is_acked law s begun st w (assert i t ∷ cs) h i t)

  all_tell : (cs : List (Command Term)) (begun : Bool) (st : State Replacement) (w : Way) (ps : Known) → Before law s begun st w cs → TellsOperands (operands_in (operands_behind ps cs w)) (replacements_from Ackermann cs w).0 st
  all_tell [] begun st w ps h = tt
  all_tell (assert i t ∷ cs) begun st w ps h = (
    told_here i t cs begun st w ps h,
    all_tell cs true (after (assert i (acked_by law s i t w)) st) (way_then t w) (operands_with ps (live_pairs w.levels ++ (acked_by law s i t w).group.symbols) (acked_by law s i t w).group.symbols) (assert_then law s begun st w cs i t h),
  )
  all_tell (c ∷ cs) begun st w ps h = all_tell cs (fixes begun c) (after (with_asserted literal_kept c) st) (onward c w) ps (next_before law s c tt cs begun st w h)

  pub operands_told : (cs : List (Command Term)) → IsReady cs s → refused_by Ackermann cs ≡ None → TellsOperands (removed_operands cs s) (replacements Ackermann cs s).0 start
  operands_told cs ready taken = all_tell cs false start (record { levels = one_level; names = s }) [] (before_all law s cs ready taken)
