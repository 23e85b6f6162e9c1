-- What passes put in the place of one assertion: a term of the same value, in which nothing is new but drawn names.
use Rattle.std.proofs.Common.{◌≡◌, ℕ, Bool, true, [], ◌∷◌, refl}
use Rattle.smt_terms.specs.Sorts.{Name, Sort, Symbol}
use Rattle.smt_terms.specs.Term.{Term}
use Rattle.smt_terms.specs.Free.{is_among, free}
use Rattle.smt_terms.specs.Fresh.{Supply, numbered_name}
use Rattle.smt_terms.specs.Keeps.{Keeps, KeepsValues}
use Rattle.smt_terms.specs.Rank.{IsWellSorted}
use Rattle.smt_terms.specs.Shapes.{is_clear}
use Rattle.smt_terms.specs.SubstLaws.{names_within, GivesNone, Later}
use Rattle.smt_terms.proofs.Keeping.{keeps_itself}
use Rattle.array_forms.specs.Reads.{reads}
use Rattle.simplify.specs.Simplify.{simp}
use Rattle.normal_forms.specs.Laws.{RewritesAlone, RewritesAs, RewritesFresh, RewritesWith}
use Rattle.normal_forms.specs.Nnf.{nnf}
use Rattle.normal_forms.specs.Aig.{aig}
use Rattle.normal_forms.specs.Prenex.{prenex}
use Rattle.normal_forms.specs.Quantifiers.{shannon, selfsub}
use Rattle.script_read.specs.Commands.{declare}
use Rattle.script_read.specs.Printable.{all_within}
use Rattle.pass_laws.specs.declared.names.Pass.{Pass}
use Rattle.pass_laws.specs.declared.names.Pass.TheVariants.{Simplify, Nnf, Aig, Prenex, Reads, Shannon, SelfSub, Rules, Ite, Cnf, Ackermann}
use Rattle.pass_laws.specs.Laws.{keeps_values}
use Rattle.pass_laws.specs.Passed.{Way, alone, in_place, written}
use Rattle.pass_laws.proofs.ReadsInside.{reads-symbols, reads-names, reads-clear, reads-within}
use Rattle.pass_laws.proofs.SimplifiesInside.{simplify-symbols, simplify-names, simplify-clear, simplify-within}
use Rattle.pass_laws.proofs.WithinForms.{nnf-within, aig-within}
use Rattle.pass_laws.proofs.WithinPrenex.{prenex-within}
use Rattle.pass_laws.proofs.WithinQuantifiers.{shannon-within, selfsub-within}

-- what passes tests of sorts and of quantified names passes them still, where drawn names do
abbrev pub StaysWithin : Term → Term → Type 0
StaysWithin t u = (sorts : Sort → Bool) (names : Name → Bool) → ((i : ℕ) → names (numbered_name i) ≡ true) → all_within sorts names t ≡ true → all_within sorts names u ≡ true

-- u may take the place of the assertion t
pub record Kept (t u : Term) : Type 0 where
  pub keeps : Keeps t u
  pub symbols : (g : Symbol) → is_among (free u) g ≡ true → is_among (free t) g ≡ true
  pub clear : is_clear t ≡ true → is_clear u ≡ true
  pub within : StaysWithin t u

-- the same where names are drawn: of those that are left none is a name of u
pub record Replaces (t u : Term) (before left : Supply) : Type 0 where
  pub kept : Kept t u
  pub later : Later before left
  pub names : GivesNone left (names_within u)

-- of a pass: the one term that it puts in the place of each
pub record Rule (p : Pass) : Type 0 where
  pub term : Term → Way → Term
  pub group : (t : Term) (w : Way) → (in_place p t w).0 ≡ alone (term t w)
  pub replaces : (t : Term) (w : Way) → IsWellSorted t → GivesNone w.names (names_within t) → Replaces t (term t w) w.names (in_place p t w).1.names
  pub declares : (f : Symbol) → written p (declare f) ≡ declare f ∷ []

-- ---- forms that draw no names, and forms that do

as_form : (form : Term → Term) → RewritesAs form → ((t : Term) → StaysWithin t (form t)) → (t : Term) (w : Way) → IsWellSorted t → GivesNone w.names (names_within t) → Replaces t (form t) w.names w.names
as_form form rewrites within t w fine given =
    let r : RewritesAlone t (form t) = rewrites t fine in
    record {
      kept = record { keeps = r.rewrites.keeps; symbols = r.rewrites.symbols; clear = r.rewrites.clear; within = within t };
      later = λ n never. never;
      names = λ n among. given n (r.names n among);
    }

with_form : (form : Term → Supply → Term × Supply) → RewritesWith form → ((t : Term) (s : Supply) → StaysWithin t (form t s).0) → (t : Term) (w : Way) → IsWellSorted t → GivesNone w.names (names_within t) → Replaces t (form t w.names).0 w.names (form t w.names).1
with_form form rewrites within t w fine given =
    let r : RewritesFresh t (form t w.names).0 w.names (form t w.names).1 = rewrites t w.names fine given in
    record {
      kept = record { keeps = r.rewrites.keeps; symbols = r.rewrites.symbols; clear = r.rewrites.clear; within = within t w.names };
      later = r.later;
      names = r.names;
    }

unchanged : (t : Term) (w : Way) → IsWellSorted t → GivesNone w.names (names_within t) → Replaces t t w.names w.names
unchanged t w fine given = record {
  kept = record { keeps = keeps_itself t fine; symbols = λ g among. among; clear = λ c. c; within = λ sorts names numbered all. all };
  later = λ n never. never;
  names = given;
}

-- ---- the passes

reads_replaces : KeepsValues reads → (t : Term) (w : Way) → IsWellSorted t → GivesNone w.names (names_within t) → Replaces t (reads t) w.names w.names
reads_replaces keeps t w fine given = record {
  kept = record { keeps = keeps t fine; symbols = reads-symbols t; clear = reads-clear t fine; within = λ sorts names numbered all. reads-within sorts names t all };
  later = λ n never. never;
  names = λ n among. given n (reads-names t n among);
}

simplified_replaces : KeepsValues simp → (t : Term) (w : Way) → IsWellSorted t → GivesNone w.names (names_within t) → Replaces t (simp t) w.names w.names
simplified_replaces keeps t w fine given = record {
  kept = record { keeps = keeps t fine; symbols = simplify-symbols t; clear = simplify-clear t fine; within = λ sorts names numbered all. simplify-within sorts names t all };
  later = λ n never. never;
  names = λ n among. given n (simplify-names t n among);
}

pub record FormLaws : Type 0 where
  pub simplify : KeepsValues simp
  pub nnf : RewritesAs nnf
  pub aig : RewritesAs aig
  pub prenex : RewritesWith prenex
  pub reads : KeepsValues reads
  pub shannon : RewritesAs shannon
  pub selfsub : RewritesWith selfsub

pub rule_of : FormLaws → (p : Pass) → keeps_values p ≡ true → Rule p
rule_of laws Simplify is = record { term = λ t w. simp t; group = λ t w. refl; replaces = simplified_replaces laws.simplify; declares = λ f. refl }
rule_of laws Nnf is = record { term = λ t w. nnf t; group = λ t w. refl; replaces = as_form nnf laws.nnf (λ t sorts names numbered all. nnf-within sorts names t all); declares = λ f. refl }
rule_of laws Aig is = record { term = λ t w. aig t; group = λ t w. refl; replaces = as_form aig laws.aig (λ t sorts names numbered all. aig-within sorts names t all); declares = λ f. refl }
rule_of laws Prenex is = record { term = λ t w. (prenex t w.names).0; group = λ t w. refl; replaces = with_form prenex laws.prenex (λ t s sorts names numbered all. prenex-within sorts names numbered t s all); declares = λ f. refl }
rule_of laws Reads is = record { term = λ t w. reads t; group = λ t w. refl; replaces = reads_replaces laws.reads; declares = λ f. refl }
rule_of laws Shannon is = record { term = λ t w. shannon t; group = λ t w. refl; replaces = as_form shannon laws.shannon (λ t sorts names numbered all. shannon-within sorts names t all); declares = λ f. refl }
rule_of laws SelfSub is = record { term = λ t w. (selfsub t w.names).0; group = λ t w. refl; replaces = with_form selfsub laws.selfsub (λ t s sorts names numbered all. selfsub-within sorts names numbered t s all); declares = λ f. refl }
rule_of laws Rules is = record { term = λ t w. t; group = λ t w. refl; replaces = unchanged; declares = λ f. refl }
rule_of laws Ite is = absurd cc
rule_of laws Cnf is = absurd cc
rule_of laws Ackermann is = absurd cc
