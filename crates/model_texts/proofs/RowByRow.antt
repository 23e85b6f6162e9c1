-- Bodies are read row by row: what was read so far are these rows, and behind them comes the rest.
use Rattle.std.proofs.Common.{◌≡◌, ℕ, suc, ◌<◌, Bool, true, false, if◌then◌else◌, List, [], ◌∷◌, ◌++◌, All, codes, Option, Some, None, Vec, Result, Ok, Err, refl, ap, sym, ◌∙◌, subst, arith, append-nil}
use Rattle.std.specs.Global.{Global}
use Rattle.std.proofs.lemmas.List.{append_assoc, map-append}
use Rattle.std.proofs.lemmas.List.Elements.{All-nil, All-push}
use Rattle.std.proofs.lemmas.Option.{none-some, same_Some}
use Rattle.smt_lex.specs.Lex.{Token}
use Rattle.smt_lex.specs.Forms.{Form, atom, node, none, ◌⨾◌}
use Rattle.smt_terms.specs.Models.{Row, Graph}
use Rattle.smt_terms.specs.Sorts.{Sort, Variable}
use Rattle.smt_terms.specs.Values as plain
use Rattle.smt_values.specs.Meaning.{meaning, IsHeld}
use Rattle.smt_values.specs.declared.value.Value.{Value}
use Rattle.models.specs.GraphRows.{meanings}
use Rattle.script_terms.specs.Parts.{symbol_in, is_name}
use Rattle.script_terms.specs.Places.{IsForm, form_from}
use Rattle.term_table.specs.Formulas.{Formulas}
use Rattle.model_texts.specs.Behind.{LeavesToRead}
use Rattle.model_texts.specs.Choices.{choice_in, IsChoiceAt}
use Rattle.model_texts.specs.GivenTables.{row_given, rows_given, graph_given, IsHeldRow, IsGivenGraph}
use Rattle.model_texts.specs.Met.{MetNames}
use Rattle.model_texts.specs.Reading.{Element, Reading, ◌>>=◌, continued, gives}
use Rattle.model_texts.specs.Refusals as refusals
use Rattle.model_texts.specs.Replies.{Replies}
use Rattle.model_texts.specs.Tables.{condition, value_everywhere, row_first, body_in}
use Rattle.model_texts.specs.ValueForms.{value_in}
use Rattle.model_texts.specs.declared.faults.TextFault.{TextFault}
use Rattle.model_texts.specs.declared.tables.Choice.{Choice}
use Rattle.model_texts.specs.declared.tables.GivenRow.{GivenRow}
use Rattle.model_texts.specs.declared.tables.GivenTable.{GivenTable}
use Rattle.model_texts.proofs.StoreReading.{refused_on, accepted}
use Rattle.model_texts.proofs.ReadSteps.{Known}

-- ---- how a body begins

module _ (xs : List Variable) (s : Sort) where
  pub choice_reads : (f c v b : Form) → choice_in f ≡ Some (c, v, b) → body_in f xs s ≡ row_first (condition xs c) (value_in v s) (body_in b xs s)
  choice_reads (atom t) c v b is = absurd (none-some (c, v, b) is)
  choice_reads (node place none) c v b is = absurd (none-some (c, v, b) is)
  choice_reads (node place (f ⨾ none)) c v b is = absurd (none-some (c, v, b) is)
  choice_reads (node place (f ⨾ d ⨾ none)) c v b is = absurd (none-some (c, v, b) is)
  choice_reads (node place (f ⨾ d ⨾ w ⨾ none)) c v b is = absurd (none-some (c, v, b) is)
  choice_reads (node place (f ⨾ d ⨾ w ⨾ a ⨾ none)) c v b is = by (is_name (codes "ite") (symbol_in f)) is
    where
      by : (t : Bool) → if◌then◌else◌ {A = Option (Form × Form × Form)} t (Some (d, w, a)) None ≡ Some (c, v, b)
          → (if t then row_first (condition xs d) (value_in w s) (body_in a xs s) else value_everywhere (value_in (node place (f ⨾ d ⨾ w ⨾ a ⨾ none)) s)) ≡ row_first (condition xs c) (value_in v s) (body_in b xs s)
      by true e = ap (λ (p : Form × Form × Form). row_first (condition xs p.0) (value_in p.1 s) (body_in p.2 xs s)) (same_Some (d, w, a) (c, v, b) e)
      by false e = absurd (none-some (c, v, b) e)
  choice_reads (node place (f ⨾ d ⨾ w ⨾ a ⨾ x ⨾ ys)) c v b is = absurd (none-some (c, v, b) is)

  pub last_reads : (f : Form) → choice_in f ≡ None → body_in f xs s ≡ value_everywhere (value_in f s)
  last_reads (atom t) is = refl
  last_reads (node place none) is = refl
  last_reads (node place (f ⨾ none)) is = refl
  last_reads (node place (f ⨾ d ⨾ none)) is = refl
  last_reads (node place (f ⨾ d ⨾ w ⨾ none)) is = refl
  last_reads (node place (f ⨾ d ⨾ w ⨾ a ⨾ none)) is = by (is_name (codes "ite") (symbol_in f)) is
    where
      by : (t : Bool) → if◌then◌else◌ {A = Option (Form × Form × Form)} t (Some (d, w, a)) None ≡ None
          → (if t then row_first (condition xs d) (value_in w s) (body_in a xs s) else value_everywhere (value_in (node place (f ⨾ d ⨾ w ⨾ a ⨾ none)) s)) ≡ value_everywhere (value_in (node place (f ⨾ d ⨾ w ⨾ a ⨾ none)) s)
      by true e = absurd (none-some (d, w, a) (sym e))
      by false e = refl
  last_reads (node place (f ⨾ d ⨾ w ⨾ a ⨾ x ⨾ ys)) is = refl

abbrev pub body_length : Form → ℕ
body_length (node place (f ⨾ c ⨾ v ⨾ b ⨾ none)) = suc (body_length b)
body_length _ = 0

pub choice_shorter : (f c v b : Form) → choice_in f ≡ Some (c, v, b) → body_length b < body_length f
choice_shorter (atom t) c v b is = absurd (none-some (c, v, b) is)
choice_shorter (node place none) c v b is = absurd (none-some (c, v, b) is)
choice_shorter (node place (f ⨾ none)) c v b is = absurd (none-some (c, v, b) is)
choice_shorter (node place (f ⨾ d ⨾ none)) c v b is = absurd (none-some (c, v, b) is)
choice_shorter (node place (f ⨾ d ⨾ w ⨾ none)) c v b is = absurd (none-some (c, v, b) is)
choice_shorter (node place (f ⨾ d ⨾ w ⨾ a ⨾ none)) c v b is = by (is_name (codes "ite") (symbol_in f)) is
  where
    by : (t : Bool) → if◌then◌else◌ {A = Option (Form × Form × Form)} t (Some (d, w, a)) None ≡ Some (c, v, b) → body_length b < suc (body_length a)
    by true e = let same : body_length a ≡ body_length b = ap (λ (p : Form × Form × Form). body_length p.2) (same_Some (d, w, a) (c, v, b) e) in omega (arith, same)
    by false e = absurd (none-some (c, v, b) e)
choice_shorter (node place (f ⨾ d ⨾ w ⨾ a ⨾ x ⨾ ys)) c v b is = absurd (none-some (c, v, b) is)

-- ---- rows before a body

abbrev ValueIs : Value → plain.Value → Type 0
ValueIs v w = IsHeld v × (meaning v ≡ w)

abbrev KeysAre : Vec Value Global → List plain.Value → Type 0
KeysAre vs ws = All IsHeld vs.items × (meanings vs.items ≡ ws)

abbrev with_rows : List Row → Graph → Graph
with_rows rs g = record { rows = rs ++ g.rows; otherwise = g.otherwise }

abbrev with_row_first : List plain.Value → plain.Value → Graph → Graph
with_row_first ks v g = record { rows = record { keys = ks; result = v } ∷ g.rows; otherwise = g.otherwise }

abbrev behind_rows : List Row → Reading Graph → Reading Graph
behind_rows rs r = r >>= λ g. gives (with_rows rs g)

no_rows_before : (r : Result (Graph × List Element) refusals.Refused) → continued (λ g. gives (with_rows [] g)) r ≡ r
no_rows_before (Ok p) = refl
no_rows_before (Err e) = refl

one_row_before : (rs : List Row) (ks : List plain.Value) (v : plain.Value) (r : Result (Graph × List Element) refusals.Refused)
    → continued (λ g. gives (with_rows rs g)) (continued (λ g. gives (with_row_first ks v g)) r) ≡ continued (λ g. gives (with_rows (rs ++ record { keys = ks; result = v } ∷ []) g)) r
one_row_before rs ks v (Ok p) =
    ap (λ (qs : List Row). Ok (record { rows = qs; otherwise = p.0.otherwise }, p.1)) (sym (append_assoc rs (record { keys = ks; result = v } ∷ []) p.0.rows))
one_row_before rs ks v (Err e) = refl

-- the rows so far, and the body behind them
pub record Rowing (t : Formulas) (ts : List Token) (whole : Reading Graph) (xs : List Variable) (s : Sort) (old : MetNames) (rest : ℕ) (rows : List GivenRow) (now : MetNames) : Type 0 where
  pub form : IsForm ts rest
  pub held : All IsHeldRow rows
  pub reads : LeavesToRead t old now whole (behind_rows (rows_given rows) (body_in (form_from ts rest) xs s))

pub rowing_begins : (t : Formulas) (ts : List Token) (xs : List Variable) (s : Sort) (old : MetNames) (at : ℕ) (rows : List GivenRow) → IsForm ts at → rows ≡ []
    → Rowing t ts (body_in (form_from ts at) xs s) xs s old at rows old
rowing_begins t ts xs s old at rows form empty = record {
  form = form;
  held = subst (All IsHeldRow) (sym empty) (All-nil IsHeldRow);
  reads = λ es known.
      let body = body_in (form_from ts at) xs s in
      (es, (known, sym (no_rows_before (body es)) ∙ ap (λ rs. behind_rows (rows_given rs) body es) (sym empty)));
}

module _ (t : Formulas) (ts : List Token) (whole : Reading Graph) (xs : List Variable) (s : Sort) (old : MetNames) (rest : ℕ) (rows : List GivenRow) (now : MetNames)
    (so_far : Rowing t ts whole xs s old rest rows now) where
  abbrev before : Graph → Reading Graph
  before g = gives (with_rows (rows_given rows) g)

  -- one row more
  module _ (c : Choice) (choice : IsChoiceAt ts (form_from ts rest) c) where
    abbrev keys : Reading (List plain.Value)
    keys = condition xs (form_from ts c.condition)

    abbrev result : Reading plain.Value
    result = value_in (form_from ts c.value) s

    abbrev others : Reading Graph
    others = body_in (form_from ts c.otherwise) xs s

    abbrev behind_value : List plain.Value → plain.Value → Reading Graph
    behind_value ks v = others >>= λ g. gives (with_row_first ks v g)

    abbrev behind_keys : List plain.Value → Reading Graph
    behind_keys ks = result >>= behind_value ks

    left : (ds : List Element) → behind_rows (rows_given rows) (body_in (form_from ts rest) xs s) ds ≡ continued before (continued behind_keys (keys ds))
    left ds = ap (λ r. behind_rows (rows_given rows) r ds) (choice_reads xs s (form_from ts rest) (form_from ts c.condition) (form_from ts c.value) (form_from ts c.otherwise) choice.is)

    pub keys_refused : (new : MetNames) (x : TextFault)
        → ((es : List Element) → Known t now es → Replies {A = Vec Value Global} KeysAre (Known t new) (keys es) (Err x))
        → (es : List Element) → Known t old es → Replies {A = GivenTable} IsGivenGraph (Known t new) (whole es) (Err x)
    keys_refused new x refused es known =
        let d = so_far.reads es known in
        subst (λ r. Replies {A = GivenTable} IsGivenGraph (Known t new) r (Err x)) (sym (d.1.1 ∙ left d.0))
        (refused_on {C = GivenTable} IsGivenGraph IsGivenGraph (Known t new) (Known t new) before (continued behind_keys (keys d.0)) x
        (refused_on {C = GivenTable} KeysAre IsGivenGraph (Known t new) (Known t new) behind_keys (keys d.0) x (refused d.0 d.1.0)))

    module _ (middle : MetNames) (ks : Vec Value Global) (read : (es : List Element) → Known t now es → Replies KeysAre (Known t middle) (keys es) (Ok ks)) where
      keys_read : (es : List Element) → Known t old es → (ds : List Element) × (Known t middle ds × (whole es ≡ continued before (behind_keys (meanings ks.items) ds)))
      keys_read es known =
          let d = so_far.reads es known in
          let r = accepted KeysAre (Known t middle) (keys d.0) ks (read d.0 d.1.0) in
          (r.1, (r.4, d.1.1 ∙ left d.0 ∙ ap (λ q. continued before (continued behind_keys q)) r.2 ∙ ap (λ ws. continued before (behind_keys ws r.1)) (sym r.3.1)))

      pub value_refused : (new : MetNames) (x : TextFault)
          → ((es : List Element) → Known t middle es → Replies {A = Value} ValueIs (Known t new) (result es) (Err x))
          → (es : List Element) → Known t old es → Replies {A = GivenTable} IsGivenGraph (Known t new) (whole es) (Err x)
      value_refused new x refused es known =
          let d = keys_read es known in
          subst (λ r. Replies {A = GivenTable} IsGivenGraph (Known t new) r (Err x)) (sym d.1.1)
          (refused_on {C = GivenTable} IsGivenGraph IsGivenGraph (Known t new) (Known t new) before (behind_keys (meanings ks.items) d.0) x
          (refused_on {C = GivenTable} ValueIs IsGivenGraph (Known t new) (Known t new) (behind_value (meanings ks.items)) (result d.0) x (refused d.0 d.1.0)))

      pub rowing_goes_on : (new : MetNames) (v : Value) (more : List GivenRow) (row : GivenRow)
          → ((es : List Element) → Known t middle es → Replies ValueIs (Known t new) (result es) (Ok v))
          → more ≡ rows ++ row ∷ [] → row.keys ≡ ks → row.value ≡ v → All IsHeld ks.items → IsHeld v
          → Rowing t ts whole xs s old c.otherwise more new
      rowing_goes_on new v more row value_read is keys_are value_is keys_held value_held = record {
        form = choice.otherwise;
        held = subst (All IsHeldRow) (sym is) (All-push IsHeldRow rows row so_far.held (subst (λ (vs : Vec Value Global). All IsHeld vs.items) (sym keys_are) keys_held, subst IsHeld (sym value_is) value_held));
        reads = λ es known.
            let d = keys_read es known in
            let r = accepted ValueIs (Known t new) (result d.0) v (value_read d.0 d.1.0) in (
              r.1,
              (
                r.4,
                d.1.1
                    ∙ ap (λ q. continued before (continued (behind_value (meanings ks.items)) q)) r.2
                    ∙ ap (λ w. continued before (behind_value (meanings ks.items) w r.1)) (sym r.3.1)
                    ∙ one_row_before (rows_given rows) (meanings ks.items) (meaning v) (others r.1)
                    ∙ ap (λ (rs : List Row). behind_rows rs others r.1)
                    ((λ j. rows_given rows ++ record { keys = meanings (sym keys_are j).items; result = meaning (sym value_is j) } ∷ [])
                    ∙ sym (map-append row_given rows (row ∷ [])) ∙ ap rows_given (sym is)),
              ),
            );
      }

  -- the last value
  module _ (ends : choice_in (form_from ts rest) ≡ None) where
    abbrev last : Reading plain.Value
    last = value_in (form_from ts rest) s

    abbrev everywhere : plain.Value → Reading Graph
    everywhere v = gives (record { rows = []; otherwise = v })

    last_left : (ds : List Element) → behind_rows (rows_given rows) (body_in (form_from ts rest) xs s) ds ≡ continued before (continued everywhere (last ds))
    last_left ds = ap (λ r. behind_rows (rows_given rows) r ds) (last_reads xs s (form_from ts rest) ends)

    pub last_refused : (new : MetNames) (x : TextFault)
        → ((es : List Element) → Known t now es → Replies {A = Value} ValueIs (Known t new) (last es) (Err x))
        → (es : List Element) → Known t old es → Replies {A = GivenTable} IsGivenGraph (Known t new) (whole es) (Err x)
    last_refused new x refused es known =
        let d = so_far.reads es known in
        subst (λ r. Replies {A = GivenTable} IsGivenGraph (Known t new) r (Err x)) (sym (d.1.1 ∙ last_left d.0))
        (refused_on {C = GivenTable} IsGivenGraph IsGivenGraph (Known t new) (Known t new) before (continued everywhere (last d.0)) x
        (refused_on {C = GivenTable} ValueIs IsGivenGraph (Known t new) (Known t new) everywhere (last d.0) x (refused d.0 d.1.0)))

    pub rowing_ends : (new : MetNames) (v : Value) (g : GivenTable)
        → ((es : List Element) → Known t now es → Replies ValueIs (Known t new) (last es) (Ok v))
        → g.rows.items ≡ rows → g.otherwise ≡ v → IsHeld v
        → (es : List Element) → Known t old es → Replies IsGivenGraph (Known t new) (whole es) (Ok g)
    rowing_ends new v g read rows_are value_is held es known =
        let d = so_far.reads es known in
        let r = accepted ValueIs (Known t new) (last d.0) v (read d.0 d.1.0) in
        let is : whole es ≡ Ok (graph_given g, r.1) =
        d.1.1 ∙ last_left d.0 ∙ ap (λ q. continued before (continued everywhere q)) r.2
        ∙ ap (λ w. continued before (everywhere w r.1)) (sym r.3.1)
        ∙ ap (λ (qs : List Row). Ok (record { rows = qs; otherwise = meaning v }, r.1)) (append-nil (rows_given rows))
        ∙ (λ j. Ok (record { rows = rows_given (sym rows_are j); otherwise = meaning (sym value_is j) }, r.1)) in
        subst (λ q. Replies IsGivenGraph (Known t new) q (Ok g)) (sym is)
        ((record { rows = subst (All IsHeldRow) (sym rows_are) so_far.held; otherwise = subst IsHeld (sym value_is) held }, refl), r.4)
