-- What the results that are kept of quantified terms say of a term: its own result, where all below it are kept.
use Rattle.std.specs.Prelude.{◌≡◌, List, Option, Some, None, option_map}
use Rattle.smt_terms.specs.Term.{Term, apply, quantified, Terms, none, ◌⨾◌}
use Rattle.smt_terms.specs.Free.{free, without}
use Rattle.smt_terms.specs.Rank.{sort_of}
use Rattle.smt_terms.specs.Subst.{Map, cut_to, Chosen, chosen_for, rebuilt}

abbrev pub with_first : Option Term → Option Terms → Option Terms
with_first (Some t) (Some ts) = Some (t ⨾ ts)
with_first _ _ = None

abbrev mutual
  pub done : Map → List Chosen → Term → Option Term
  done m cs (apply h ts) = option_map (rebuilt m h) (dones m cs ts)
  done m cs (quantified q xs body) = chosen_for cs (cut_to (without xs (free body)) m) (quantified q xs body)

  pub dones : Map → List Chosen → Terms → Option Terms
  dones m cs none = Some none
  dones m cs (t ⨾ ts) = with_first (done m cs t) (dones m cs ts)

-- each result that is kept has the sort of its term
abbrev pub KeepSorts : List Chosen → Type 0
KeepSorts cs = (m : Map) (t r : Term) → chosen_for cs m t ≡ Some r → sort_of r ≡ sort_of t
