-- The model of what a text gives, with one table more.
use Rattle.std.proofs.Common.{◌≡◌, ◌∙◌, sym, ap, refl, Bool, true, false, cond, not, if◌then◌else◌, ◌||◌, List, [], ◌∷◌, ◌++◌, map, Option, Some, None, ◌⊎◌, inl, inr, true≢false}
use Rattle.std.specs.Prelude.{option_map, unwrap_or}
use Rattle.std.specs.List.{list_any, list_all}
use Rattle.std.proofs.lemmas.Option.{none-some, same_Some}
use Rattle.smt_lex.specs.Names.{is_among}
use Rattle.smt_terms.specs.Free.{names_of}
use Rattle.smt_terms.specs.Equal.{name_eq, symbol_eq}
use Rattle.smt_terms.specs.Models.{Graph, Model}
use Rattle.smt_terms.specs.Sorts.{Name, Sort, int, Symbol}
use Rattle.smt_terms.specs.Values.{Value, Sizes}
use Rattle.smt_terms.proofs.Equal.{name_same, name_itself, symbol_itself, Decides-symbol_eq}
use Rattle.smt_terms.proofs.Tests.{both_true, both_false, contrary, not_true, either_true, left_true, right_true}
use Rattle.script_read.specs.Commands.{Signature}
use Rattle.models.specs.GraphRows.{constant_graph, default_graph, row_added}
use Rattle.models.specs.ModelView.{default_model_of, with_graph, with_row_for}
use Rattle.model_texts.specs.Entries.{Given, symbol_among, division_table, modulus_table}
use Rattle.model_texts.specs.ModelText.{graph_named, with_first_rows, table_of, number_graph, number_table, model_over}
use Rattle.model_texts.specs.Proper.{are_distinct, is_table_name, IsProper}

-- ---- symbols of one name

name_among : (fs : List Symbol) (h : Symbol) → list_any (symbol_eq h) fs ≡ true → is_among (map (λ g. g.name) fs) h.name ≡ true
name_among [] h is = absurd (true≢false (sym is))
name_among (f ∷ fs) h is = by (either_true (symbol_eq h f) (list_any (symbol_eq h) fs) is) (name_among fs h)
  where
    by : (symbol_eq h f ≡ true) ⊎ (list_any (symbol_eq h) fs ≡ true) → (list_any (symbol_eq h) fs ≡ true → is_among (map (λ g. g.name) fs) h.name ≡ true)
        → (name_eq h.name f.name || is_among (map (λ g. g.name) fs) h.name) ≡ true
    by (inl e) rest =
        left_true (name_eq h.name f.name) (is_among (map (λ g. g.name) fs) h.name)
        (ap (λ (g : Symbol). name_eq h.name g.name) (sym ((Decides-symbol_eq h f).0 e)) ∙ name_itself h.name)
    by (inr later) rest = right_true (name_eq h.name f.name) (is_among (map (λ g. g.name) fs) h.name) (rest later)

-- a symbol of the signature is the first one of its name
pub first_of_name : (fs : List Symbol) (h : Symbol) → are_distinct (names_of fs) ≡ true → list_any (symbol_eq h) fs ≡ true → symbol_among fs h.name ≡ Some h
first_of_name [] h apart is = absurd (true≢false (sym is))
first_of_name (f ∷ fs) h apart is =
    let parts = both_true (not (is_among (map (λ g. g.name) fs) f.name)) (are_distinct (names_of fs)) apart in
    by (either_true (symbol_eq h f) (list_any (symbol_eq h) fs) is) (not_true (is_among (map (λ g. g.name) fs) f.name) parts.0) (first_of_name fs h parts.1)
  where
    later : (b : Bool) → name_eq f.name h.name ≡ b → is_among (map (λ g. g.name) fs) f.name ≡ false → list_any (symbol_eq h) fs ≡ true → symbol_among fs h.name ≡ Some h
        → (if b then Some f else symbol_among fs h.name) ≡ Some h
    later true e new there rest =
        absurd (contrary (is_among (map (λ g. g.name) fs) f.name) (ap (is_among (map (λ g. g.name) fs)) (name_same f.name h.name e) ∙ name_among fs h there) new)
    later false e new there rest = rest

    by : (symbol_eq h f ≡ true) ⊎ (list_any (symbol_eq h) fs ≡ true) → is_among (map (λ g. g.name) fs) f.name ≡ false → (list_any (symbol_eq h) fs ≡ true → symbol_among fs h.name ≡ Some h)
        → (if name_eq f.name h.name then Some f else symbol_among fs h.name) ≡ Some h
    by (inl e) new rest =
        let same : h ≡ f = (Decides-symbol_eq h f).0 e in
        ap (λ b. if b then Some f else symbol_among fs h.name) (ap (λ (g : Symbol). name_eq f.name g.name) same ∙ name_itself f.name) ∙ ap Some (sym same)
    by (inr there) new rest = later (name_eq f.name h.name) refl new there (rest there)

-- a symbol that is found by a name
pub found_symbol : (fs : List Symbol) (n : Name) (f : Symbol) → symbol_among fs n ≡ Some f → (f.name ≡ n) × (list_any (symbol_eq f) fs ≡ true)
found_symbol [] n f is = absurd (none-some f is)
found_symbol (g ∷ fs) n f is = by (name_eq g.name n) refl (found_symbol fs n f) is
  where
    by : (b : Bool) → name_eq g.name n ≡ b → (symbol_among fs n ≡ Some f → (f.name ≡ n) × (list_any (symbol_eq f) fs ≡ true)) → (if b then Some g else symbol_among fs n) ≡ Some f
        → (f.name ≡ n) × ((symbol_eq f g || list_any (symbol_eq f) fs) ≡ true)
    by true e rest h =
        let same : g ≡ f = same_Some g f h in
        (sym (ap (λ (k : Symbol). k.name) same) ∙ name_same g.name n e, left_true (symbol_eq f g) (list_any (symbol_eq f) fs) (ap (symbol_eq f) same ∙ symbol_itself f))
    by false e rest h = ((rest h).0, right_true (symbol_eq f g) (list_any (symbol_eq f) fs) (rest h).1)

-- ---- tables that are given

pub graph_more : (gs : List Given) (g : Given) (n : Name) → is_among (map (λ h. h.name) gs) g.name ≡ false
    → graph_named (gs ++ g ∷ []) n ≡ (if name_eq g.name n then Some g.graph else graph_named gs n)
graph_more [] g n new = refl
graph_more (h ∷ gs) g n new =
    let parts = both_false (name_eq g.name h.name) (is_among (map (λ k. k.name) gs) g.name) new in
    ap (λ o. if name_eq h.name n then Some h.graph else o) (graph_more gs g n parts.1)
    ∙ by (name_eq h.name n) refl (name_eq g.name n) refl parts.0
  where
    by : (a : Bool) → name_eq h.name n ≡ a → (b : Bool) → name_eq g.name n ≡ b → name_eq g.name h.name ≡ false
        → (if a then Some h.graph else (if b then Some g.graph else graph_named gs n)) ≡ (if b then Some g.graph else (if a then Some h.graph else graph_named gs n))
    by true p true q differ = absurd (contrary (name_eq g.name h.name) (ap (name_eq g.name) (name_same h.name n p) ∙ q) differ)
    by true p false q differ = refl
    by false p true q differ = refl
    by false p false q differ = refl

module _ (sig : Signature) (proper : IsProper sig) (sizes : Sizes) (gs : List Given) (g : Given) (new : is_among (map (λ h. h.name) gs) g.name ≡ false) where
  abbrev graphs_of : List Given → Symbol → Option Graph
  graphs_of hs h = if list_any (symbol_eq h) sig.symbols then Some (table_of hs sizes h) else None

  numbers_stay : (n : Name) → name_eq g.name n ≡ false → number_table (gs ++ g ∷ []) sizes n ≡ number_table gs sizes n
  numbers_stay n differ =
      ap (λ o. number_graph (with_first_rows (int ∷ []) sizes (unwrap_or o (default_graph int))))
      (graph_more gs g n new ∙ ap (λ b. if b then Some g.graph else graph_named gs n) differ)

  numbers_given : (n : Name) → g.name ≡ n → number_table (gs ++ g ∷ []) sizes n ≡ number_graph (with_first_rows (int ∷ []) sizes g.graph)
  numbers_given n same =
      ap (λ o. number_graph (with_first_rows (int ∷ []) sizes (unwrap_or o (default_graph int))))
      (graph_more gs g n new ∙ ap (λ m. if name_eq g.name m then Some g.graph else graph_named gs n) (sym same) ∙ ap (λ b. if b then Some g.graph else graph_named gs n) (name_itself g.name))

  table_stays : (h : Symbol) → name_eq g.name h.name ≡ false → table_of (gs ++ g ∷ []) sizes h ≡ table_of gs sizes h
  table_stays h differ =
      ap (λ o. with_first_rows h.args sizes (unwrap_or o (default_graph h.result)))
      (graph_more gs g h.name new ∙ ap (λ b. if b then Some g.graph else graph_named gs h.name) differ)

  table_given : (h : Symbol) → g.name ≡ h.name → table_of (gs ++ g ∷ []) sizes h ≡ with_first_rows h.args sizes g.graph
  table_given h same =
      ap (λ o. with_first_rows h.args sizes (unwrap_or o (default_graph h.result)))
      (graph_more gs g h.name new ∙ ap (λ m. if name_eq g.name m then Some g.graph else graph_named gs h.name) (sym same)
      ∙ ap (λ b. if b then Some g.graph else graph_named gs h.name) (name_itself g.name))

  -- the table of a symbol
  module _ (f : Symbol) (owner : symbol_among sig.symbols g.name ≡ Some f) (no_table : is_table_name g.name ≡ false) where
    graph_given : (h : Symbol) → graphs_of (gs ++ g ∷ []) h ≡ cond (symbol_eq h f) (Some (with_first_rows f.args sizes g.graph)) (graphs_of gs h)
    graph_given h = by (symbol_eq h f) refl (list_any (symbol_eq h) sig.symbols) refl
      where
        by : (a : Bool) → symbol_eq h f ≡ a → (b : Bool) → list_any (symbol_eq h) sig.symbols ≡ b
            → (if b then Some (table_of (gs ++ g ∷ []) sizes h) else None) ≡ cond a (Some (with_first_rows f.args sizes g.graph)) (if b then Some (table_of gs sizes h) else None)
        by true e true k =
            let same : h ≡ f = (Decides-symbol_eq h f).0 e in
            ap Some (table_given h (sym (found_symbol sig.symbols g.name f owner).0 ∙ ap (λ (k : Symbol). k.name) (sym same)) ∙ ap (λ (k : Symbol). with_first_rows k.args sizes g.graph) same)
        by true e false k =
            absurd (contrary (list_any (symbol_eq h) sig.symbols)
            (ap (λ k. list_any (symbol_eq k) sig.symbols) ((Decides-symbol_eq h f).0 e) ∙ (found_symbol sig.symbols g.name f owner).1) k)
        by false e false k = refl
        by false e true k = named (name_eq g.name h.name) refl
          where
            named : (c : Bool) → name_eq g.name h.name ≡ c → Some (table_of (gs ++ g ∷ []) sizes h) ≡ Some (table_of gs sizes h)
            named false differ = ap Some (table_stays h differ)
            named true alike =
                let same : h ≡ f = same_Some h f (sym (first_of_name sig.symbols h proper.names k) ∙ ap (symbol_among sig.symbols) (sym (name_same g.name h.name alike)) ∙ owner) in
                absurd (contrary (symbol_eq h f) ((Decides-symbol_eq h f).1 same) e)

    pub symbol_given : model_over sig (gs ++ g ∷ []) sizes ≡ with_graph f (Some (with_first_rows f.args sizes g.graph)) (model_over sig gs sizes)
    symbol_given =
        let apart = both_false (name_eq g.name division_table) (name_eq g.name modulus_table) no_table in
        λ i. record {
          sizes = sizes;
          graphs = λ h. graph_given h i;
          div_by_zero = numbers_stay division_table apart.0 i;
          mod_by_zero = numbers_stay modulus_table apart.1 i;
        }

  -- the table of `div` or `mod` by zero
  no_symbol_named : (fs : List Symbol) (h : Symbol) → list_all (λ f. not (is_table_name f.name)) fs ≡ true → list_any (symbol_eq h) fs ≡ true → is_table_name h.name ≡ false
  no_symbol_named [] h apart is = absurd (true≢false (sym is))
  no_symbol_named (f ∷ fs) h apart is =
      let parts = both_true (not (is_table_name f.name)) (list_all (λ k. not (is_table_name k.name)) fs) apart in
      by (either_true (symbol_eq h f) (list_any (symbol_eq h) fs) is) parts.0 (no_symbol_named fs h parts.1)
    where
      by : (symbol_eq h f ≡ true) ⊎ (list_any (symbol_eq h) fs ≡ true) → not (is_table_name f.name) ≡ true → (list_any (symbol_eq h) fs ≡ true → is_table_name h.name ≡ false) → is_table_name h.name ≡ false
      by (inl e) apart rest = ap (λ (k : Symbol). is_table_name k.name) ((Decides-symbol_eq h f).0 e) ∙ not_true (is_table_name f.name) apart
      by (inr later) apart rest = rest later

  graph_stays : is_table_name g.name ≡ true → (h : Symbol) → graphs_of (gs ++ g ∷ []) h ≡ graphs_of gs h
  graph_stays table h = by (list_any (symbol_eq h) sig.symbols) refl (name_eq g.name h.name) refl
    where
      by : (b : Bool) → list_any (symbol_eq h) sig.symbols ≡ b → (c : Bool) → name_eq g.name h.name ≡ c
          → (if b then Some (table_of (gs ++ g ∷ []) sizes h) else None) ≡ (if b then Some (table_of gs sizes h) else None)
      by false k c e = refl
      by true k false e = ap Some (table_stays h e)
      by true k true e =
          absurd (contrary (is_table_name h.name) (ap is_table_name (sym (name_same g.name h.name e)) ∙ table) (no_symbol_named sig.symbols h proper.tables k))

  pub quotients_given : g.name ≡ division_table
      → model_over sig (gs ++ g ∷ []) sizes ≡ record (model_over sig gs sizes) { div_by_zero = number_graph (with_first_rows (int ∷ []) sizes g.graph) }
  quotients_given same =
      λ i. record {
        sizes = sizes;
        graphs = λ h. graph_stays (ap is_table_name same) h i;
        div_by_zero = numbers_given division_table same i;
        mod_by_zero = numbers_stay modulus_table (ap (λ n. name_eq n modulus_table) same) i;
      }

  pub remainders_given : g.name ≡ modulus_table
      → model_over sig (gs ++ g ∷ []) sizes ≡ record (model_over sig gs sizes) { mod_by_zero = number_graph (with_first_rows (int ∷ []) sizes g.graph) }
  remainders_given same =
      λ i. record {
        sizes = sizes;
        graphs = λ h. graph_stays (ap is_table_name same) h i;
        div_by_zero = numbers_stay division_table (ap (λ n. name_eq n division_table) same) i;
        mod_by_zero = numbers_given modulus_table same i;
      }

-- ---- the model before any table, and a table's rows one by one

pub none_given : (sig : Signature) (sizes : Sizes) → model_over sig [] sizes ≡ default_model_of sizes sig
none_given sig sizes = refl

pub no_rows : (args : List Sort) (sizes : Sizes) (otherwise : Value) → with_first_rows args sizes record { rows = []; otherwise = otherwise } ≡ constant_graph otherwise
no_rows args sizes otherwise = refl

module _ (f : Symbol) (m : Model) where
  graph_again : (o p : Option Graph) (h : Symbol) → cond (symbol_eq h f) o (cond (symbol_eq h f) p (m.graphs h)) ≡ cond (symbol_eq h f) o (m.graphs h)
  graph_again o p h = by (symbol_eq h f)
    where
      by : (b : Bool) → cond b o (cond b p (m.graphs h)) ≡ cond b o (m.graphs h)
      by true = refl
      by false = refl

  pub row_more : (ks : List Value) (v : Value) (g : Graph) → with_row_for f ks v (with_graph f (Some g) m) ≡ with_graph f (Some (row_added f.args m.sizes ks v g)) m
  row_more ks v g =
      ap (λ b. with_graph f (option_map (row_added f.args m.sizes ks v) (cond b (Some g) (m.graphs f))) (with_graph f (Some g) m)) (symbol_itself f)
      ∙ (λ i. record {
        sizes = m.sizes;
        graphs = λ h. graph_again (Some (row_added f.args m.sizes ks v g)) (Some g) h i;
        div_by_zero = m.div_by_zero;
        mod_by_zero = m.mod_by_zero;
      })
