-- The words that the definition accepts are taken by `clap`, and its matches are what they give.
use Rattle.std.proofs.Common.{◌≡◌, ℕ, suc, ◌&&◌, ◌||◌, Bool, true, false, cond, nat_le, List, [], ◌∷◌, ◌++◌, length, fold, Option, Some, None, Result, Ok, Err, refl, sym, ap, ap₂, ◌∙◌, subst, codes}
use Rattle.std.specs.List.{list_any}
use Rattle.std.specs.Str.{bytes_eq}
use Rattle.std.specs.Option.{is_some}
use Rattle.clap.specs.Walk.{Row, Text, Waiting, Walk, idle, option, used, has_row, first_of, settled_rows, walked}
use Rattle.clap.specs.Simple.{App, Shape, built}
use Rattle.clap.specs.Takes.{settle_passes, turn_passes, walk_passes}
use Rattle.smt_print.specs.declared.layout.Layout.{Layout}
use Rattle.pass_laws.specs.declared.names.Pass.{Pass}
use Rattle.pass_laws.specs.declared.names.ListFault.{ListFault}
use Rattle.pass_laws.specs.declared.names.ListFault.TheVariants.{BadPass as UnknownPass, AfterRules as GroupsAfterRules}
use Rattle.pass_laws.specs.Lists.{pass_list_of}
use Rattle.smtrw_answers.specs.declared.status.Usage.{Usage}
use Rattle.smtrw_answers.specs.declared.status.Why.TheVariants.{BadValue}
use Rattle.smtrw_answers.specs.Words.{Word, Numbered, Command, needed, takes_pass, Setting, of_passes, of_layout, of_check, settings_of, setting_among, is_dashed, Given, nothing_given, is_given, is_from, number_in, layout_named, with_passes, with_layout, with_check, with_value, value_word, with_setting, option_word, with_plain, file_word, of_kind, plain_word, word_behind, words_from, and_then}
use Rattle.smtrw_answers.specs.Asking.{check_named}
use Rattle.smtrw_answers.proofs.ClapRows.{RowAdded, row_added}
use Rattle.smtrw_answers.proofs.ClapWalk.{Pending, held_at, walk_at, plain_word_is, id_of, name_of, rule_of, with_value_in, TakesOption, IsOptionWord, OperandsIn, Taking}

-- ---- what was given, in rows

-- the value of an option, where the text of a row reads as it
abbrev pub ValueIn : {A : Type 0} → (Text → A → Type 0) → Text → Option A → List Row → Type 0
ValueIn Reads id None rows = has_row id rows ≡ false
ValueIn Reads id (Some a) rows = (t : Text) × (first_of id rows ≡ Some t) × Reads t a

abbrev pub PassesIn : Command → Option (List Pass) → List Row → Type 0
PassesIn c = ValueIn (λ t ps. pass_list_of (takes_pass c) t ≡ Ok ps) (id_of of_passes)

abbrev pub LayoutIn : Option Layout → List Row → Type 0
LayoutIn = ValueIn (λ t l. layout_named t ≡ Some l) (id_of of_layout)

abbrev pub CheckIn : Option ℕ → List Row → Type 0
CheckIn = ValueIn (λ t k. check_named t ≡ Some k) (id_of of_check)

pub record Holds (c : Command) (ids : List Text) (g : Given) (rows : List Row) : Type 0 where
  pub passes : PassesIn c g.passes rows
  pub layout : LayoutIn g.layout rows
  pub check : CheckIn g.check rows
  pub operands : OperandsIn ids g.plain rows

neither : (a b : Bool) → (a || b) ≡ false → (a ≡ false) × (b ≡ false)
neither true b e = absurd cc
neither false b e = (refl, e)

module _ {id v : Text} {old new : List Row} (added : RowAdded id v old new) where
  value_kept : {A : Type 0} (Reads : Text → A → Type 0) (other : Text) (o : Option A) → bytes_eq id other ≡ false → ValueIn Reads other o old → ValueIn Reads other o new
  value_kept Reads other None differs no_row = added.has other differs ∙ no_row
  value_kept Reads other (Some a) differs (t, found, read) = (t, added.others other differs ∙ found, read)

  operands_kept : (ids : List Text) (fs : List Numbered) → list_any (bytes_eq id) ids ≡ false → OperandsIn ids fs old → OperandsIn ids fs new
  operands_kept [] [] apart is = is
  operands_kept [] (f ∷ fs) apart is = absurd is
  operands_kept (other ∷ ids) [] apart is =
      let parts = neither (bytes_eq id other) (list_any (bytes_eq id) ids) apart in
      (added.has other parts.0 ∙ is.0, operands_kept ids [] parts.1 is.1)
  operands_kept (other ∷ ids) (f ∷ fs) apart is =
      let parts = neither (bytes_eq id other) (list_any (bytes_eq id) ids) apart in
      (added.others other parts.0 ∙ is.0, operands_kept ids fs parts.1 is.1)

-- ---- what the definition makes of a word

pub ok_same : (a b : Given) → ◌≡◌ {A = Result Given Usage} (Ok a) (Ok b) → a ≡ b
ok_same a b e = cc

pub else_taken : {A E : Type 0} (b : Bool) (fault : E) (r : Result A E) (a : A) → cond b (Err fault) r ≡ Ok a → (b ≡ false) × (r ≡ Ok a)
else_taken true fault r a e = absurd cc
else_taken false fault r a e = (refl, e)

pub then_taken : {A E : Type 0} (b : Bool) (fault : E) (r : Result A E) (a : A) → cond b r (Err fault) ≡ Ok a → (b ≡ true) × (r ≡ Ok a)
then_taken true fault r a e = (refl, e)
then_taken false fault r a e = absurd cc

with_passes_taken : (i : ℕ) (r : Result (List Pass) ListFault) (g h : Given) → with_passes i r g ≡ Ok h → (ps : List Pass) × (r ≡ Ok ps) × (record g { passes = Some ps; awaited = None } ≡ h)
with_passes_taken i (Ok ps) g h e = (ps, refl, ok_same _ _ e)
with_passes_taken i (Err UnknownPass) g h e = absurd cc
with_passes_taken i (Err GroupsAfterRules) g h e = absurd cc

with_layout_taken : (i : ℕ) (o : Option Layout) (g h : Given) → with_layout i o g ≡ Ok h → (l : Layout) × (o ≡ Some l) × (record g { layout = Some l; awaited = None } ≡ h)
with_layout_taken i (Some l) g h e = (l, refl, ok_same _ _ e)
with_layout_taken i None g h e = absurd cc

with_check_taken : (i : ℕ) (o : Option ℕ) (g h : Given) → with_check i o g ≡ Ok h
    → (k : ℕ) × (cond (is_from 1 o) o None ≡ Some k) × (record g { check = Some k; awaited = None } ≡ h)
with_check_taken i None g h e = absurd cc
with_check_taken i (Some k) g h e = go (nat_le 1 k) e
  where
    go : (b : Bool) → cond {A = Result Given Usage} b (Ok (record g { check = Some k; awaited = None })) (Err (record { word = i; why = BadValue })) ≡ Ok h
        → (n : ℕ) × (cond b (Some k) None ≡ Some n) × (record g { check = Some n; awaited = None } ≡ h)
    go true is = (k, refl, ok_same _ _ is)
    go false is = absurd cc

-- ---- values

given_none : {A : Type 0} (o : Option A) → is_some o ≡ false → o ≡ None
given_none None e = refl
given_none (Some a) e = absurd cc

pub option_added : (s : Setting) (v : Text) (rows : List Row) → has_row (id_of s) rows ≡ false → RowAdded (id_of s) v rows (used (rule_of s) (v ∷ []) rows)
option_added of_passes v rows no_row = row_added (codes "passes") v _ rows refl no_row
option_added of_layout v rows no_row = row_added (codes "layout") v _ rows refl no_row
option_added of_check v rows no_row = row_added (codes "check") v _ rows refl no_row

-- the option is given for the first time, behind rows without it
pub record Comes (c : Command) (ids : List Text) (s : Setting) (v : Text) (g h : Given) (rows : List Row) : Type 0 where
  pub no_row : has_row (id_of s) rows ≡ false
  pub holds : Holds c ids h (used (rule_of s) (v ∷ []) rows)
  pub idles : h.awaited ≡ None
  pub plain : h.plain ≡ g.plain

module _ (c : Command) (ids : List Text) (i : ℕ) (v : Text) (g h : Given) (rows : List Row) (holds : Holds c ids g rows) where
  passes_come : list_any (bytes_eq (id_of of_passes)) ids ≡ false → is_some g.passes ≡ false → with_passes i (pass_list_of (takes_pass c) v) g ≡ Ok h → Comes c ids of_passes v g h rows
  passes_come apart new e =
      let read = with_passes_taken i (pass_list_of (takes_pass c) v) g h e in
      let no_row : has_row (codes "passes") rows ≡ false = subst (λ o. PassesIn c o rows) (given_none g.passes new) holds.passes in
      let added = option_added of_passes v rows no_row in
      subst (λ x. Comes c ids of_passes v g x rows) read.2 (record {
        no_row = no_row;
        holds = record {
          passes = (v, added.first, read.1);
          layout = value_kept added _ (codes "layout") g.layout refl holds.layout;
          check = value_kept added _ (codes "check") g.check refl holds.check;
          operands = operands_kept added ids g.plain apart holds.operands;
        };
        idles = refl;
        plain = refl;
      })

  layout_comes : list_any (bytes_eq (id_of of_layout)) ids ≡ false → is_some g.layout ≡ false → with_layout i (layout_named v) g ≡ Ok h → Comes c ids of_layout v g h rows
  layout_comes apart new e =
      let read = with_layout_taken i (layout_named v) g h e in
      let no_row : has_row (codes "layout") rows ≡ false = subst (λ o. LayoutIn o rows) (given_none g.layout new) holds.layout in
      let added = option_added of_layout v rows no_row in
      subst (λ x. Comes c ids of_layout v g x rows) read.2 (record {
        no_row = no_row;
        holds = record {
          passes = value_kept added _ (codes "passes") g.passes refl holds.passes;
          layout = (v, added.first, read.1);
          check = value_kept added _ (codes "check") g.check refl holds.check;
          operands = operands_kept added ids g.plain apart holds.operands;
        };
        idles = refl;
        plain = refl;
      })

  check_comes : list_any (bytes_eq (id_of of_check)) ids ≡ false → is_some g.check ≡ false → with_check i (number_in v) g ≡ Ok h → Comes c ids of_check v g h rows
  check_comes apart new e =
      let read = with_check_taken i (number_in v) g h e in
      let no_row : has_row (codes "check") rows ≡ false = subst (λ o. CheckIn o rows) (given_none g.check new) holds.check in
      let added = option_added of_check v rows no_row in
      subst (λ x. Comes c ids of_check v g x rows) read.2 (record {
        no_row = no_row;
        holds = record {
          passes = value_kept added _ (codes "passes") g.passes refl holds.passes;
          layout = value_kept added _ (codes "layout") g.layout refl holds.layout;
          check = (v, added.first, read.1);
          operands = operands_kept added ids g.plain apart holds.operands;
        };
        idles = refl;
        plain = refl;
      })

  value_comes : (s : Setting) → list_any (bytes_eq (id_of s)) ids ≡ false → is_given s g ≡ false → with_value (takes_pass c) i s v g ≡ Ok h → Comes c ids s v g h rows
  value_comes of_passes apart new e = passes_come apart new e
  value_comes of_layout apart new e = layout_comes apart new e
  value_comes of_check apart new e = check_comes apart new e

-- ---- where `clap` stands behind words

abbrev pub waiting_of : Option Setting → Waiting
waiting_of None = idle
waiting_of (Some s) = option (id_of s)

abbrev pub Stands : Command → Shape → List Text → Option Setting → Given → List Row → Pending → Type 0
Stands c shape ids None g rows p = Holds c ids g (settled_rows shape.rules p rows) × (settle_passes shape.rules false (held_at rows p) ≡ true)
Stands c shape ids (Some s) g rows p = (p ≡ Some (id_of s, [])) × Holds c ids g rows × (is_given s g ≡ false) × TakesOption shape s

pub record Along (c : Command) (shape : Shape) (ids : List Text) (g : Given) (walk : Walk) : Type 0 where
  pub rows : List Row
  pub pending : Pending
  pub stand : walk ≡ walk_at rows pending (waiting_of g.awaited) (suc (length g.plain))
  pub holds : Stands c shape ids g.awaited g rows pending

-- behind one more word, which is taken
pub record Next (c : Command) (shape : Shape) (ids : List Text) (g : Given) (from : Walk) (w : Word) : Type 0 where
  pub along : Along c shape ids g (walked shape.rules [] from w)
  pub turn : turn_passes shape [] from w ≡ true

pub and_then_ok : {A B : Type 0} (next : A → Result B Usage) (r : Result A Usage) (b : B) → and_then next r ≡ Ok b → (a : A) × (r ≡ Ok a) × (next a ≡ Ok b)
and_then_ok next (Ok a) b e = (a, refl, e)
and_then_ok next (Err fault) b e = absurd cc

-- a word that is no option and that the command takes is put behind the others
abbrev pub PutsWords : Command → Type 0
PutsWords c = (i : ℕ) (w : Word) (g h : Given) → of_kind c i w g ≡ Ok h → with_plain i w g ≡ Ok h

pub file_put : (i : ℕ) (w : Word) (g h : Given) → file_word i w g ≡ Ok h → with_plain i w g ≡ Ok h
file_put i w g h e = (else_taken (bytes_eq w (codes "-") && list_any (λ f. bytes_eq f.word (codes "-")) g.plain) _ (with_plain i w g) h e).1

-- all words are taken
pub record AlongAll (c : Command) (shape : Shape) (ids : List Text) (g : Given) (from : Walk) (ws : List Word) : Type 0 where
  pub along : Along c shape ids g (fold (walked shape.rules []) from ws)
  pub passes : walk_passes shape [] from ws ≡ true

module _ (c : Command) (app : App) (ids : List Text) (t : Taking (settings_of c) (needed c) app ids) (puts : PutsWords c) where
  abbrev shape : Shape
  shape = (built app).top

  abbrev Follows : Given → Walk → Word → Type 0
  Follows = Next c shape ids

  -- ---- options

  -- the walk behind a value: nothing is awaited, and the words that are no options are those from before
  behind_value : (g h : Given) (rows : List Row) (p : Pending) → h.awaited ≡ None → h.plain ≡ g.plain
      → walk_at rows p idle (suc (length g.plain)) ≡ walk_at rows p (waiting_of h.awaited) (suc (length h.plain))
  behind_value g h rows p idles plain = ap₂ (λ s fs. walk_at rows p (waiting_of s) (suc (length fs))) (sym idles) (sym plain)

  stands_idle : (h : Given) (rows : List Row) (p : Pending) → h.awaited ≡ None → Stands c shape ids None h rows p → Stands c shape ids h.awaited h rows p
  stands_idle h rows p idles stands = subst (λ s. Stands c shape ids s h rows p) (sym idles) stands

  value_next : (i : ℕ) (w : Word) (g h : Given) (rows : List Row) (s : Setting) → TakesOption shape s → Holds c ids g rows → is_given s g ≡ false → value_word (takes_pass c) i s w g ≡ Ok h
      → Follows h (walk_at rows (Some (id_of s, [])) (option (id_of s)) (suc (length g.plain))) w
  value_next i w g h rows s takes holds new e =
      let taken = else_taken (is_dashed w) _ (with_value (takes_pass c) i s w g) h e in
      let come = value_comes c ids i w g h rows holds s (t.apart s) new taken.1 in
      let plain = plain_word_is w taken.0 in
      record {
        along = record {
          rows = rows;
          pending = Some (id_of s, w ∷ []);
          stand = takes.value rows (suc (length g.plain)) w plain ∙ behind_value g h rows (Some (id_of s, w ∷ [])) come.idles come.plain;
          holds = stands_idle h rows (Some (id_of s, w ∷ [])) come.idles (subst (Holds c ids h) (sym (takes.settled rows w)) come.holds, takes.settles rows w come.no_row);
        };
        turn = takes.value_turn rows (suc (length g.plain)) w plain;
      }

  module _ (i : ℕ) (w : Word) (g h : Given) (rows : List Row) (p : Pending) (stands : Stands c shape ids None g rows p) where
    abbrev here : Walk
    here = walk_at rows p idle (suc (length g.plain))

    begun_next : (s : Setting) → TakesOption shape s → is_given s g ≡ false → record g { awaited = Some s } ≡ h → Follows h here (name_of s)
    begun_next s takes new is = subst (λ x. Follows x here (name_of s)) is (record {
      along = record {
        rows = settled_rows shape.rules p rows;
        pending = Some (id_of s, []);
        stand = takes.begun rows p (suc (length g.plain));
        holds = (refl, record { passes = stands.0.passes; layout = stands.0.layout; check = stands.0.check; operands = stands.0.operands }, same_given s new, takes);
      };
      turn = takes.begun_turn rows p (suc (length g.plain)) stands.1;
    })
      where
        same_given : (s : Setting) → is_given s g ≡ false → is_given s (record g { awaited = Some s }) ≡ false
        same_given of_passes e = e
        same_given of_layout e = e
        same_given of_check e = e

    attached_next : (s : Setting) (v : Word) → TakesOption shape s → is_given s g ≡ false → with_value (takes_pass c) i s v g ≡ Ok h → Follows h here (with_value_in s v)
    attached_next s v takes new e =
        let before : List Row = settled_rows shape.rules p rows in
        let come = value_comes c ids i v g h before stands.0 s (t.apart s) new e in
        let behind : List Row = used (rule_of s) (v ∷ []) before in
        record {
          along = record {
            rows = behind;
            pending = None;
            stand = takes.attached rows p (suc (length g.plain)) v ∙ behind_value g h behind None come.idles come.plain;
            holds = stands_idle h behind None come.idles (come.holds, refl);
          };
          turn = takes.attached_turn rows p (suc (length g.plain)) v stands.1 come.no_row;
        }

    option_met_next : (o : Setting × Option Word) → IsOptionWord o w → TakesOption shape o.0 → is_given o.0 g ≡ false → with_setting (takes_pass c) i o.0 o.1 g ≡ Ok h → Follows h here w
    option_met_next (s, None) is takes new e = subst (Follows h here) (sym is) (begun_next s takes new (ok_same _ _ e))
    option_met_next (s, Some v) is takes new e = subst (Follows h here) (sym is) (attached_next s v takes new e)

    option_next : option_word (takes_pass c) i (setting_among (settings_of c) w) g ≡ Ok h → Follows h here w
    option_next e = go (setting_among (settings_of c) w) refl e
      where
        go : (o : Option (Setting × Option Word)) → setting_among (settings_of c) w ≡ o → option_word (takes_pass c) i o g ≡ Ok h → Follows h here w
        go None among is = absurd cc
        go (Some o) among is =
            let met = t.options w o among in
            let taken = else_taken (is_given o.0 g) _ (with_setting (takes_pass c) i o.0 o.1 g) h is in
            option_met_next o met.0 met.1 taken.0 taken.1

  -- ---- words that are no options

  operand_taken : (i : ℕ) (w : Word) (g h : Given) → plain_word c i w g ≡ Ok h
      → (nat_le (needed c) (length g.plain) ≡ false) × (record g { plain = g.plain ++ record { number = i; word = w } ∷ [] } ≡ h)
  operand_taken i [] g h e = absurd cc
  operand_taken i (b ∷ bs) g h e =
      let room = else_taken (nat_le (needed c) (length g.plain)) _ (of_kind c i (b ∷ bs) g) h e in
      (room.0, ok_same _ _ (puts i (b ∷ bs) g h room.1))

  operand_next : (i : ℕ) (w : Word) (g h : Given) (rows : List Row) (p : Pending) → Stands c shape ids None g rows p → g.awaited ≡ None → is_dashed w ≡ false
      → plain_word c i w g ≡ Ok h → Follows h (walk_at rows p idle (suc (length g.plain))) w
  operand_next i w g h rows p stands idles plain e =
      let taken = operand_taken i w g h e in
      let place = t.place g.plain taken.0 in
      let before : List Row = settled_rows shape.rules p rows in
      let operand : Numbered = record { number = i; word = w } in
      let given : Given = record g { plain = g.plain ++ operand ∷ [] } in
      let pending : Pending = Some (place.id, w ∷ []) in
      let no_row = place.free before stands.0.operands in
      let added = place.added before w no_row in
      let is = plain_word_is w plain in
      let holds : Holds c ids given (settled_rows shape.rules pending before) = record {
        passes = value_kept added _ (codes "passes") g.passes (place.apart of_passes) stands.0.passes;
        layout = value_kept added _ (codes "layout") g.layout (place.apart of_layout) stands.0.layout;
        check = value_kept added _ (codes "check") g.check (place.apart of_check) stands.0.check;
        operands = place.put operand before _ added stands.0.operands;
      } in
      let count : suc (length g.plain) ≡ length (g.plain ++ operand ∷ []) = one_more g.plain operand in
      subst (λ x. Follows x (walk_at rows p idle (suc (length g.plain))) w) taken.1 (record {
        along = record {
          rows = before;
          pending = pending;
          stand = place.met rows p w is ∙ ap₂ (λ s n. walk_at before pending (waiting_of s) (suc n)) (sym idles) count;
          holds = stands_idle given before pending idles (holds, place.settles before w no_row);
        };
        turn = place.turn rows p w is stands.1;
      })
    where
      one_more : (fs : List Numbered) (f : Numbered) → suc (length fs) ≡ length (fs ++ f ∷ [])
      one_more [] f = refl
      one_more (x ∷ fs) f = ap suc (one_more fs f)

  -- ---- word by word

  next_at : (i : ℕ) (w : Word) (g h : Given) (rows : List Row) (p : Pending) (s : Option Setting) → g.awaited ≡ s → Stands c shape ids s g rows p
      → word_behind (takes_pass c) c i w g s ≡ Ok h → Follows h (walk_at rows p (waiting_of s) (suc (length g.plain))) w
  next_at i w g h rows p None idles stands e = go (is_dashed w) refl e
    where
      go : (b : Bool) → is_dashed w ≡ b → cond b (option_word (takes_pass c) i (setting_among (settings_of c) w) g) (plain_word c i w g) ≡ Ok h
          → Follows h (walk_at rows p idle (suc (length g.plain))) w
      go true dashed is = option_next i w g h rows p stands is
      go false plain is = operand_next i w g h rows p stands idles plain is
  next_at i w g h rows p (Some s) awaits stands e =
      subst (λ q. Follows h (walk_at rows q (option (id_of s)) (suc (length g.plain))) w) (sym stands.0) (value_next i w g h rows s stands.3 stands.1 stands.2 e)

  next_along : (i : ℕ) (w : Word) (g h : Given) (walk : Walk) → Along c shape ids g walk → word_behind (takes_pass c) c i w g g.awaited ≡ Ok h → Follows h walk w
  next_along i w g h walk a e = subst (λ x. Follows h x w) (sym a.stand) (next_at i w g h a.rows a.pending g.awaited refl a.holds e)

  pub along_all : (i : ℕ) (ws : List Word) (g h : Given) (walk : Walk) → Along c shape ids g walk → words_from (takes_pass c) c i ws g ≡ Ok h → AlongAll c shape ids h walk ws
  unfolding walk_passes
  along_all i [] g h walk a e = record { along = subst (λ x. Along c shape ids x walk) (ok_same g h e) a; passes = refl }
  along_all i (w ∷ ws) g h walk a e =
      let step = and_then_ok (words_from (takes_pass c) c (suc i) ws) (word_behind (takes_pass c) c i w g g.awaited) h e in
      let next = next_along i w g step.0 walk a step.1 in
      let rest = along_all (suc i) ws step.0 h (walked shape.rules [] walk w) next.along step.2 in
      record { along = rest.along; passes = ap (λ b. b && walk_passes shape [] (walked shape.rules [] walk w) ws) next.turn ∙ rest.passes }

  pub nothing_along : Along c shape ids nothing_given (walk_at [] None idle 1)
  nothing_along = record { rows = []; pending = None; stand = refl; holds = (record { passes = refl; layout = refl; check = refl; operands = t.no_operands }, refl) }
