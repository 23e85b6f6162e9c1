-- Worked rows of lists of passes.
use Rattle.std.specs.Prelude.{◌≡◌, ℕ, List, [], ◌∷◌, ◌++◌, flat_map, replicate, codes, Ok, Err, refl}
use Rattle.pass_laws.specs.declared.names.Pass.TheVariants.{Simplify, Nnf, Aig, Prenex, Reads, Shannon, SelfSub, Rules, Ite, Cnf, Ackermann}
use Rattle.pass_laws.specs.declared.names.ListFault.TheVariants.{BadPass, AfterRules}
use Rattle.pass_laws.specs.Lists.{pass_named, pass_list}

all_names : pass_list (codes "simplify,nnf,aig,prenex,reads,shannon,selfsub,ite,cnf,ackermann,rules") ≡ Ok (Simplify ∷ Nnf ∷ Aig ∷ Prenex ∷ Reads ∷ Shannon ∷ SelfSub ∷ Ite ∷ Cnf ∷ Ackermann ∷ Rules ∷ [])
unfolding pass_named
all_names = refl

clauses_after_rules : pass_list (codes "rules,cnf") ≡ Err AfterRules
unfolding pass_named
clauses_after_rules = refl

ite_some_way_after_rules : pass_list (codes "rules,nnf,ite") ≡ Err AfterRules
unfolding pass_named
ite_some_way_after_rules = refl

forms_after_rules : pass_list (codes "cnf,rules,nnf,rules") ≡ Ok (Cnf ∷ Rules ∷ Nnf ∷ Rules ∷ [])
unfolding pass_named
forms_after_rules = refl

unknown : pass_list (codes "nnf,foo") ≡ Err BadPass
unfolding pass_named
unknown = refl

-- an unknown name counts before the order
unknown_first : pass_list (codes "rules,cnf,foo") ≡ Err BadPass
unfolding pass_named
unknown_first = refl

no_name : pass_list [] ≡ Err BadPass
unfolding pass_named
no_name = refl

no_last_name : pass_list (codes "nnf,") ≡ Err BadPass
unfolding pass_named
no_last_name = refl

a_blank : pass_list (codes "nnf, aig") ≡ Err BadPass
unfolding pass_named
a_blank = refl

-- so many names
abbrev more : ℕ → List ℕ
more n = flat_map (λ text. text) (replicate n (codes ",nnf"))

thirty_two : pass_list (codes "aig" ++ more 31) ≡ Ok (Aig ∷ replicate 31 Nnf)
unfolding pass_named
thirty_two = refl

thirty_three : pass_list (codes "aig" ++ more 32) ≡ Err BadPass
unfolding pass_named
thirty_three = refl

-- too many names count before their order
rules_and_too_many : pass_list (codes "rules,cnf" ++ more 31) ≡ Err BadPass
unfolding pass_named
rules_and_too_many = refl

removal_after_rules : pass_list (codes "rules,ackermann") ≡ Err AfterRules
unfolding pass_named
removal_after_rules = refl

removal_before_others : pass_list (codes "nnf,ackermann,cnf") ≡ Ok (Nnf ∷ Ackermann ∷ Cnf ∷ [])
unfolding pass_named
removal_before_others = refl
