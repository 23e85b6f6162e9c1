-- The connectives that get names are truth values, whose free symbols are free in the formula.
use Rattle.std.proofs.Common.{◌≡◌, Bool, true, false, not, List, [], ◌∷◌, All, filter, Some, refl, ◌∙◌}
use Rattle.std.proofs.lemmas.List.Elements.{All-nil, All-cons, All-append, All-filter}
use Rattle.smt_terms.specs.Connectives.{Kind, truth_value, negation, atom, is_connective, kind_of}
use Rattle.smt_terms.specs.Free.{is_among, head_symbols, free, free_of}
use Rattle.smt_terms.specs.Groups.{has_term, with_new}
use Rattle.smt_terms.specs.Rank.{sort_of}
use Rattle.smt_terms.specs.Sorts.{bool, Symbol}
use Rattle.smt_terms.specs.Term.{Head, Term, apply, quantified, Terms, none, ◌⨾◌}
use Rattle.smt_terms.proofs.Among.{is_among-with_more}
use Rattle.smt_terms.proofs.BoolOperands.{IfBool, Each, each-bool}
use Rattle.smt_terms.proofs.Connected.{Connected, connected}
use Rattle.smt_terms.proofs.Tests.{left_true, right_true}
use Rattle.cnf_polarity.specs.Cnf.{named_at, named_connectives, named_connectives_of}
use Rattle.cnf_polarity.proofs.CnfValueSound.{logical}

all-with-new : (P : Term → Type 0) (ts us : List Term) → All P ts → All P us → All P (with_new ts us)
all-with-new P ts us a b = All-append P ts (filter (λ u. not (has_term ts u)) us) a (All-filter (λ u. not (has_term ts u)) P us b)

-- ---- free symbols among these

-- the symbols that are free in the term are among these
abbrev pub Within : List Symbol → Term → Type 0
Within fs t = (f : Symbol) → is_among (free t) f ≡ true → is_among fs f ≡ true

each-within : (fs : List Symbol) (ts : Terms) → ((f : Symbol) → is_among (free_of ts) f ≡ true → is_among fs f ≡ true) → Each (Within fs) ts
each-within fs none inside = tt
each-within fs (t ⨾ ts) inside = (
  (λ f among. inside f (is_among-with_more (free t) (free_of ts) f ∙ left_true (is_among (free t) f) (is_among (free_of ts) f) among)),
  each-within fs ts (λ f among. inside f (is_among-with_more (free t) (free_of ts) f ∙ right_true (is_among (free t) f) (is_among (free_of ts) f) among)),
)

pub operands-within : (fs : List Symbol) (h : Head) (ts : Terms) → Within fs (apply h ts) → Each (Within fs) ts
operands-within fs h ts inside =
    each-within fs ts (λ f among. inside f (is_among-with_more (head_symbols h) (free_of ts) f ∙ right_true (is_among (head_symbols h) f) (is_among (free_of ts) f) among))

-- ---- the named connectives

-- a truth value over these symbols
pub record IsTruthOver (fs : List Symbol) (t : Term) : Type 0 where
  pub sort : sort_of t ≡ Some bool
  pub within : Within fs t

module _ (fs : List Symbol) where
  -- where its free symbols are among these, its named connectives are truth values over them
  abbrev Leads : Term → Type 0
  Leads t = Within fs t → All (IsTruthOver fs) (named_connectives t)

  all-named : (ts : Terms) → Each Leads ts → Each (Within fs) ts → All (IsTruthOver fs) (named_connectives_of ts)
  all-named none leads inside = All-nil (IsTruthOver fs)
  all-named (t ⨾ ts) leads inside = all-with-new (IsTruthOver fs) (named_connectives t) (named_connectives_of ts) (leads.0 inside.0) (all-named ts leads.1 inside.1)

  named-at : (k : Kind) (t : Term) (inner : List Term) → is_connective k ≡ true → IsTruthOver fs t → All (IsTruthOver fs) inner → All (IsTruthOver fs) (named_at k t inner)
  named-at negation t inner c part all = all
  named-at (truth_value b) t inner c part all = absurd cc
  named-at atom t inner c part all = absurd cc
  named-at _ t inner c part all = all-with-new (IsTruthOver fs) inner (t ∷ []) all (All-cons (IsTruthOver fs) t [] part (All-nil (IsTruthOver fs)))

  by_kind : (h : Head) (ts : Terms) → sort_of (apply h ts) ≡ Some bool → IfBool Leads ts → (b : Bool) → is_connective (kind_of h ts) ≡ b → Leads (apply h ts)
  by_kind h ts has waiting true c inside =
      let joined : Connected h ts bool = connected h ts bool has (logical (kind_of h ts) c) in
      named-at (kind_of h ts) (apply h ts) (named_connectives_of ts) c (record { sort = has; within = inside })
      (all-named ts (each-bool Leads ts joined.number joined.sorts waiting) (operands-within fs h ts inside))
  by_kind h ts has waiting false c inside = plain (kind_of h ts) c
    where
      plain : (k : Kind) → is_connective k ≡ false → All (IsTruthOver fs) (named_at k (apply h ts) (named_connectives_of ts))
      plain atom e = All-nil (IsTruthOver fs)
      plain (truth_value b) e = All-nil (IsTruthOver fs)
      plain _ e = absurd cc

  mutual
    pub named-are-truths : (t : Term) → sort_of t ≡ Some bool → Leads t
    named-are-truths (apply h ts) has = by_kind h ts has (waiting ts) (is_connective (kind_of h ts)) refl
    named-are-truths (quantified q xs body) has = λ inside. All-nil (IsTruthOver fs)

    waiting : (ts : Terms) → IfBool Leads ts
    waiting none = tt
    waiting (t ⨾ ts) = (named-are-truths t, waiting ts)
