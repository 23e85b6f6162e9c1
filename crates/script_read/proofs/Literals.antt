-- Literals of a check mean what they are read as.
use Rattle.std.proofs.Common.{◌≡◌, ◌∙◌, ap, subst, refl, ℕ, Bool, true, false, cond, List, [], ◌∷◌, Option, Some, None}
use Rattle.std.specs.Prelude.{option_map, codes, if◌then◌else◌}
use Rattle.smt_lex.specs.Names.{Name, is_reserved, is_theory_name}
use Rattle.smt_lex.specs.Lex.{Token, symbol_by, symbol_of}
use Rattle.smt_lex.specs.Forms.{Form, atom, node, none, ◌⨾◌}
use Rattle.smt_lex.specs.declared.items.Item.{Item}
use Rattle.smt_lex.specs.declared.items.Item.TheVariants.{Word, Quoted}
use Rattle.smt_terms.specs.declared.op.Op.TheVariants.{Not}
use Rattle.smt_terms.specs.Connectives.{negated}
use Rattle.smt_terms.specs.Equal.{sort_eq}
use Rattle.smt_terms.specs.Models.{Model}
use Rattle.smt_terms.specs.Rank.{rank, sort_over, with_sort, sort_of}
use Rattle.smt_terms.specs.Sorts.{Sort, bool, Symbol}
use Rattle.smt_terms.specs.Term.{op, Term, constant}
use Rattle.smt_terms.specs.Val.{no_variables}
use Rattle.smt_terms.specs.Written.{plain, operator_named, written_named, build}
use Rattle.smt_terms.proofs.Equal.{Decides-sort_eq, name_same}
use Rattle.script_read.specs.Laws.{denoted}
use Rattle.script_read.specs.Mean.{Denoted, Meaning, over_written, denoted_or, over_constant, truth_of, live_or, symbol_means, symbol_or_nothing, token_means, symbol_head_means, head_means, mean, mean_list, meaning}
use Rattle.script_terms.specs.Parts.{symbol_in, word_by, word_in, is_name, constant_by, head, opening, opening_word}
use Rattle.script_terms.specs.Reading.{Sofar, as_bindings, Entry, symbol_entry, entry_of}
use Rattle.script_read.specs.Script.{boolean_constant, constant_entry, declared_constant, literal}
use Rattle.script_read.proofs.BuiltValues.{written_meaning}
use Rattle.script_read.proofs.Fitting.{Sound}
use Rattle.script_read.proofs.Naming.{meaning_bound}

-- ---- tokens that are symbols

no_constant : (i : Item) (text : List ℕ) (n : Name) → symbol_by i text ≡ Some n → constant_by i text ≡ None
no_constant Word text n h = refl
no_constant Quoted text n h = refl
no_constant _ text n h = absurd cc

-- `not`, with bars or without, begins an application
plain_opening : (f : Form) (o : Option Name) → ((w : Name) → o ≡ Some w → w ≡ codes "not") → opening_word f o ≡ head f
plain_opening f None is = refl
plain_opening f (Some w) is = ap (λ v. opening_word f (Some v)) (is w refl)

word_of_symbol : (i : Item) (text : List ℕ) (n w : Name) → symbol_by i text ≡ Some n → word_by i text ≡ Some w → w ≡ n
word_of_symbol Word text n w h k = go (is_reserved text) h
  where
    go : (b : Bool) → (if b then None else Some text) ≡ Some n → w ≡ n
    go true e = absurd cc
    go false e = cc
word_of_symbol _ text n w h k = absurd cc

word_of_form : (f : Form) (n w : Name) → symbol_in f ≡ Some n → word_in f ≡ Some w → w ≡ n
word_of_form (atom t) n w h k = word_of_symbol t.item t.text n w h k
word_of_form (node place fs) n w h k = absurd cc

named_not : (o : Option Name) → is_name (codes "not") o ≡ true → o ≡ Some (codes "not")
named_not None h = absurd cc
named_not (Some n) h = ap Some (name_same n (codes "not") h)

not_opens : (f : Form) → symbol_in f ≡ Some (codes "not") → opening f ≡ head f
not_opens f h = plain_opening f (word_in f) (λ w k. word_of_form f (codes "not") w h k)

-- ---- literals

-- a term of sort Bool that means what something means
pub record LiteralRead (d : Model → Denoted) (t : Term) : Type 0 where
  pub means : (m : Model) → d m ≡ denoted m no_variables t
  pub sort : sort_of t ≡ Some bool

constant_sorted : (n : Name) → sort_of (constant (record { name = n; args = []; result = bool })) ≡ Some bool
unfolding rank
constant_sorted n = refl

negated_sorted : (t : Term) → sort_of t ≡ Some bool → sort_of (negated t) ≡ Some bool
unfolding rank
negated_sorted t h = ap (λ o. sort_over (op Not) (with_sort o (Some []))) h

module _ (ns : List Name) (fs : List Symbol) (s : Sofar) (sound : Sound ns fs s) where
  abbrev all_live : Model → Meaning
  all_live m = meaning (as_bindings s.live) m

  -- a symbol that is declared and Boolean
  constant_means : (n : Name) (f : Symbol) (args : List Sort) (t : Term) → entry_of s.live n ≡ Some (symbol_entry f) → f.args ≡ args → boolean_constant f args ≡ Some t → LiteralRead (λ m. symbol_means (all_live m) m n) t
  constant_means n f [] t entry none_of h = go (sort_eq f.result bool) refl h
    where
      symbol_is : f.result ≡ bool → f ≡ record { name = f.name; args = []; result = bool }
      symbol_is e = λ i. record { name = f.name; args = none_of i; result = e i }

      go : (b : Bool) → sort_eq f.result bool ≡ b → cond b (Some (constant f)) None ≡ Some t → LiteralRead (λ m. symbol_means (all_live m) m n) t
      go true e k =
          let same : constant f ≡ t = cc in
          subst (λ u. LiteralRead (λ m. symbol_means (all_live m) m n) u) same (record {
            means = λ m.
                let found = (sound.meant m).entries n (symbol_entry f) entry in
                ap (λ d. denoted_or d (live_or ((all_live m).live n) [] (over_constant m (truth_of n)))) (meaning_bound (as_bindings s.live) m n)
                ∙ ap (λ o. live_or o [] (over_constant m (truth_of n))) found.1
                ∙ found.2.1 [];
            sort = ap (λ g. sort_of (constant g)) (symbol_is ((Decides-sort_eq f.result bool).0 e)) ∙ constant_sorted f.name;
          })
      go false e k = absurd cc
  constant_means n f (a ∷ args) t entry none_of h = absurd cc

  entry_means : (n : Name) (o : Option Entry) (t : Term) → entry_of s.live n ≡ o → constant_entry o ≡ Some t → LiteralRead (λ m. symbol_means (all_live m) m n) t
  entry_means n (Some (symbol_entry f)) t entry h = constant_means n f f.args t entry refl h
  entry_means n _ t entry h = absurd cc

  declared_means : (o : Option Name) (t : Term) → declared_constant s.live o ≡ Some t → LiteralRead (λ m. symbol_or_nothing (all_live m) m o) t
  declared_means None t h = absurd cc
  declared_means (Some n) t h = entry_means n (entry_of s.live n) t refl h

  atom_means : (k : Token) (t : Term) → declared_constant s.live (symbol_of k) ≡ Some t → LiteralRead (λ m. mean (atom k) (all_live m) m) t
  atom_means k t h = go (symbol_of k) refl h
    where
      go : (o : Option Name) → symbol_of k ≡ o → declared_constant s.live o ≡ Some t → LiteralRead (λ m. mean (atom k) (all_live m) m) t
      go None e g = absurd cc
      go (Some n) e g =
          let read : LiteralRead (λ m. symbol_or_nothing (all_live m) m (Some n)) t = declared_means (Some n) t g in
          record {
            means = λ m.
                ap (λ o. token_means (all_live m) m k o) (no_constant k.item k.text n e)
                ∙ ap (λ o. symbol_or_nothing (all_live m) m o) e
                ∙ read.means m;
            sort = read.sort;
          }

  constant_form_means : (c : Form) (t : Term) → declared_constant s.live (symbol_in c) ≡ Some t → LiteralRead (λ m. mean c (all_live m) m) t
  constant_form_means (atom k) t h = atom_means k t h
  constant_form_means (node place fs) t h = absurd cc

  not_theory_live : (m : Model) → (all_live m).live (codes "not") ≡ None
  unfolding is_theory_name
  not_theory_live m = (sound.meant m).theories (codes "not") refl

  not_written : written_named (codes "not") [] ≡ Some (plain Not)
  unfolding operator_named
  not_written = refl

  not_means : (m : Model) (f : Form) (t : Term) → symbol_in f ≡ Some (codes "not") → head_means f (all_live m) m (denoted m no_variables t ∷ []) ≡ denoted m no_variables (negated t)
  unfolding build
  not_means m (atom k) t h =
      ap (λ o. symbol_head_means (all_live m) m o (denoted m no_variables t ∷ [])) h
      ∙ ap (λ o. live_or o (denoted m no_variables t ∷ []) (over_written m (written_named (codes "not") []) (denoted m no_variables t ∷ []))) (not_theory_live m)
      ∙ ap (λ w. over_written m w (denoted m no_variables t ∷ [])) not_written
      ∙ written_meaning m no_variables (plain Not) (t ∷ [])
  not_means m (node place fs) t h = absurd cc

  negation_means : (place : ℕ) (f c : Form) (t : Term) → is_name (codes "not") (symbol_in f) ≡ true → (o : Option Term) → declared_constant s.live (symbol_in c) ≡ o → option_map negated o ≡ Some t → LiteralRead (λ m. mean (node place (f ⨾ c ⨾ none)) (all_live m) m) t
  negation_means place f c t named None entry h = absurd cc
  negation_means place f c t named (Some u) entry h =
      let read : LiteralRead (λ m. mean c (all_live m) m) u = constant_form_means c u entry in
      let is : symbol_in f ≡ Some (codes "not") = named_not (symbol_in f) named in
      let same : negated u ≡ t = cc in
      subst (λ v. LiteralRead (λ m. mean (node place (f ⨾ c ⨾ none)) (all_live m) m) v) same (record {
        means = λ m.
            ap (λ o. mean_list o (c ⨾ none) (all_live m) m) (not_opens f is)
            ∙ ap (λ d. head_means f (all_live m) m (d ∷ [])) (read.means m)
            ∙ not_means m f u is;
        sort = negated_sorted u read.sort;
      })

  pub literal_means : (f : Form) (t : Term) → literal s.live f ≡ Some t → LiteralRead (λ m. mean f (meaning (as_bindings s.live) m) m) t
  literal_means (atom k) t h = atom_means k t h
  literal_means (node place (f ⨾ c ⨾ none)) t h = go (is_name (codes "not") (symbol_in f)) refl h
    where
      go : (b : Bool) → is_name (codes "not") (symbol_in f) ≡ b → cond b (option_map negated (declared_constant s.live (symbol_in c))) None ≡ Some t → LiteralRead (λ m. mean (node place (f ⨾ c ⨾ none)) (meaning (as_bindings s.live) m) m) t
      go true e k = negation_means place f c t e (declared_constant s.live (symbol_in c)) refl k
      go false e k = absurd cc
  literal_means (node place _) t h = absurd cc
