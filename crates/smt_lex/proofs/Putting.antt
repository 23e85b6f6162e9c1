-- What the steps that add an entry do.
use Rattle.std.proofs.Common.{◌≡◌, ℕ, ◌+◌, ◌<◌, List, [], ◌∷◌, ◌++◌, length, get_or, set, refl, ap, sym, ◌∙◌, subst, inl, inr, arith}
use Rattle.std.proofs.lemmas.List.{map_push, length_push, get_or_push, get_or_append_left, get_or-set_other, get_or-set_same, length-set, get_or_default}
use Rattle.std.proofs.Math.Seq.{map-set_same}
use Rattle.std.proofs.lemmas.Bool.Decides.{eqb_tells}
use Rattle.smt_lex.specs.declared.items.Item.{Item}
use Rattle.smt_lex.specs.declared.items.Item.TheVariants.{Left, Right, Quoted}
use Rattle.smt_lex.specs.declared.entries.Entry.{Entry}
use Rattle.smt_lex.specs.Building.{IsAtom, Nests, Spans, Stands, Puts, entry_at, entry_end, no_entry, token, token_of, tokens_in}
use Rattle.smt_lex.proofs.Nesting.{nests_atom, nests_left, nests_right, closed_below, closed_left}

-- one more entry behind the others
pub spans_push : (start end : ℕ) (es : List Entry) (e : Entry) → Stands end e → e.start ≡ start → Spans start es → Spans end (es ++ e ∷ [])
spans_push start end es e stands begins spans =
    let before : (i : ℕ) → i < length es → entry_at (es ++ e ∷ []) i ≡ entry_at es i = λ i within. get_or_append_left es (e ∷ []) no_entry i within in
    let last : entry_at (es ++ e ∷ []) (length es) ≡ e = get_or_push es e no_entry (length es) refl in
    record {
      count = omega (arith, spans.count, length_push es e, stands.some, stands.within, begins);
      stands = λ i within. elim (eqb_tells i (length es)) [
        | inl is ↦ subst (λ i. Stands end (entry_at (es ++ e ∷ []) i)) (sym is.1) (subst (Stands end) (sym last) stands)
        | inr differs ↦
            let earlier : i < length es = omega (arith, length_push es e, differs.1) in
            let old = spans.stands i earlier in
            subst (Stands end) (sym (before i earlier)) (record {
              some = old.some;
              within = omega (arith, old.within, stands.some, stands.within, begins);
              bars = old.bars;
            })
      ];
      order = λ i j below within.
          let first : i < length es = omega (arith, length_push es e) in
          let old = spans.stands i first in
          let ends = ap entry_end (before i first) in
          elim (eqb_tells j (length es)) [
            | inl is ↦
                let starts = ap (λ n. (entry_at (es ++ e ∷ []) n).start) is.1 ∙ ap (λ (e : Entry). e.start) last in
                omega (arith, ends, old.within, starts, begins)
            | inr differs ↦
                let earlier : j < length es = omega (arith, length_push es e, differs.1) in
                let starts = ap (λ (e : Entry). e.start) (before j earlier) in
                omega (arith, ends, starts, spans.order i j below earlier)
          ];
    }

-- another entry in the same place
spans_set : (place : ℕ) (es : List Entry) (o : ℕ) (closed : Entry) → closed.start ≡ (entry_at es o).start → entry_end closed ≡ entry_end (entry_at es o) → closed.item ≡ (entry_at es o).item → o < length es → Spans place es → Spans place (set es o closed)
spans_set place es o closed starts ends item below spans =
    let at : (i : ℕ) → ((entry_at (set es o closed) i).start ≡ (entry_at es i).start) × (entry_end (entry_at (set es o closed) i) ≡ entry_end (entry_at es i)) × ((entry_at (set es o closed) i).item ≡ (entry_at es i).item) =
    λ i. elim (eqb_tells i o) [
      | inl is ↦
          let here : entry_at (set es o closed) i ≡ closed = ap (entry_at (set es o closed)) is.1 ∙ get_or-set_same es o closed no_entry below in
          let there : entry_at es o ≡ entry_at es i = ap (entry_at es) (sym is.1) in
          (ap (λ (e : Entry). e.start) here ∙ starts ∙ ap (λ (e : Entry). e.start) there, ap entry_end here ∙ ends ∙ ap entry_end there, ap (λ (e : Entry). e.item) here ∙ item ∙ ap (λ (e : Entry). e.item) there)
      | inr differs ↦
          let same : entry_at (set es o closed) i ≡ entry_at es i = get_or-set_other es o i closed no_entry differs.1 in
          (ap (λ (e : Entry). e.start) same, ap entry_end same, ap (λ (e : Entry). e.item) same)
    ] in
    record {
      count = omega (arith, spans.count, length-set es o closed);
      stands = λ i within.
          let old = spans.stands i (omega (arith, within, length-set es o closed)) in
          record {
            some = omega (arith, old.some, (at i).0, (at i).1);
            within = omega (arith, old.within, (at i).1);
            bars = λ quoted. let n = old.bars (sym (at i).2 ∙ quoted) in omega (arith, n, (at i).0, (at i).1);
          };
      order = λ i j below within.
          let old = spans.order i j below (omega (arith, within, length-set es o closed)) in
          omega (arith, old, (at i).1, (at j).0);
    }

tokens_push : (es : List Entry) (e : Entry) (bytes : List ℕ) → tokens_in bytes (es ++ e ∷ []) ≡ tokens_in bytes es ++ token_of bytes e ∷ []
tokens_push es e bytes = map_push (token_of bytes) es e

pub puts_atom : (item : Item) (start end : ℕ) (es fs : List Entry) (lists : List ℕ) → IsAtom item → start < end → (item ≡ Quoted → start + 1 < end) → Nests es lists
    → fs ≡ es ++ record { start = start; link = end; item = item } ∷ [] → Puts item start end es fs lists lists
puts_atom item start end es fs lists atom some bars nests is =
    let e : Entry = record { start = start; link = end; item = item } in
    let ends : entry_end e ≡ end = rw atom.0 refl in
    subst (λ fs. Puts item start end es fs lists lists) (sym is) (record {
      tokens = λ bytes. tokens_push es e bytes ∙ ap (λ n. tokens_in bytes es ++ token bytes item start n ∷ []) ends;
      depth = sym (atom.2 (length lists));
      nests = nests_atom es e lists atom nests;
      spans = spans_push start end es e (record { some = omega (arith, some, ends); within = omega (arith, ends); bars = λ quoted. omega (arith, bars quoted, ends) }) refl;
    })

pub puts_left : (start end : ℕ) (es fs : List Entry) (lists left : List ℕ) → end ≡ start + 1 → Nests es lists
    → left ≡ lists ++ length es ∷ [] → fs ≡ es ++ record { start = start; link = 0; item = Left } ∷ [] → Puts Left start end es fs lists left
puts_left start end es fs lists left one nests listed is =
    let e : Entry = record { start = start; link = 0; item = Left } in
    subst (λ fs. Puts Left start end es fs lists left) (sym is) (subst (Puts Left start end es (es ++ e ∷ []) lists) (sym listed) (record {
      tokens = λ bytes. tokens_push es e bytes ∙ ap (λ n. tokens_in bytes es ++ token bytes Left start n ∷ []) (sym one);
      depth = omega (arith, length_push lists (length es));
      nests = nests_left es e lists refl nests;
      spans = spans_push start end es e (record { some = omega arith; within = omega arith; bars = λ quoted. absurd (cc) }) refl;
    }))

pub puts_right : (start end : ℕ) (es fs : List Entry) (lists left : List ℕ) (o : ℕ) (read closed : Entry) (gs : List Entry) → end ≡ start + 1 → Nests es lists → lists ≡ left ++ o ∷ []
    → gs ≡ es ++ record { start = start; link = start + 1; item = Right } ∷ [] → read ≡ get_or gs o read → closed ≡ record read { link = length es + 1 }
    → fs ≡ set gs o closed → Puts Right start end es fs lists left
puts_right start end es fs lists left o read closed gs one nests popped pushed reads made is =
    let e : Entry = record { start = start; link = start + 1; item = Right } in
    let nests : Nests es (left ++ o ∷ []) = subst (Nests es) popped nests in
    let below = closed_below es e left o refl nests in
    let opens = closed_left es e left o refl nests in
    let there : entry_at (es ++ e ∷ []) o ≡ entry_at es o = get_or_append_left es (e ∷ []) no_entry o below in
    let reads : read ≡ entry_at es o =
    reads ∙ ap (λ gs. get_or gs o read) pushed ∙ get_or_append_left es (e ∷ []) read o below ∙ get_or_default es o read no_entry below in
    let closes : closed ≡ record (entry_at es o) { link = length es + 1 } = made ∙ ap (λ (e : Entry). record e { link = length es + 1 }) reads in
    let item : closed.item ≡ (entry_at (es ++ e ∷ []) o).item = ap (λ (e : Entry). e.item) closes ∙ sym (ap (λ (e : Entry). e.item) there) in
    let start_is : closed.start ≡ (entry_at (es ++ e ∷ []) o).start = ap (λ (e : Entry). e.start) closes ∙ sym (ap (λ (e : Entry). e.start) there) in
    let closed_left_item : closed.item ≡ Left = ap (λ (e : Entry). e.item) closes ∙ opens in
    let ends : entry_end closed ≡ entry_end (entry_at (es ++ e ∷ []) o) = left_ends closed closed_left_item ∙ ap (λ n. n + 1) start_is ∙ sym (left_ends (entry_at (es ++ e ∷ []) o) (sym item ∙ closed_left_item)) in
    subst (λ fs. Puts Right start end es fs lists left) (sym (is ∙ ap (λ gs. set gs o closed) pushed)) (record {
      tokens = λ bytes. map-set_same (token_of bytes) (es ++ e ∷ []) o closed no_entry (same_token bytes closed (entry_at (es ++ e ∷ []) o) item start_is ends)
          ∙ tokens_push es e bytes ∙ ap (λ n. tokens_in bytes es ++ token bytes Right start n ∷ []) (sym one);
      depth = let n = ap length popped in omega (arith, n, length_push left o);
      nests = nests_right es e left o refl nests closed closed_left_item (ap (λ (e : Entry). e.link) closes ∙ omega arith);
      spans = λ spans. spans_set end (es ++ e ∷ []) o closed start_is ends item (omega (arith, below, length_push es e))
          (spans_push start end es e (record { some = omega arith; within = omega (arith, one); bars = λ quoted. absurd (cc) }) refl spans);
    })
  where
    left_ends : (e : Entry) → e.item ≡ Left → entry_end e ≡ e.start + 1
    left_ends e is = rw is refl

    same_token : (bytes : List ℕ) (e f : Entry) → e.item ≡ f.item → e.start ≡ f.start → entry_end e ≡ entry_end f → token_of bytes e ≡ token_of bytes f
    same_token bytes e f item start ends =
        ap (λ i. token bytes i e.start (entry_end e)) item ∙ ap (λ n. token bytes f.item n (entry_end e)) start ∙ ap (token bytes f.item f.start) ends
