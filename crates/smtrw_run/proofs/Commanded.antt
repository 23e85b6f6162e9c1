-- What is counted of commands, as the code holds them and as they are defined.
use Rattle.std.proofs.Common.{◌≡◌, ◌∙◌, refl, ap, sym, ◌+◌, ◌<◌, Bool, cond, List, [], ◌∷◌, ◌++◌, length, length-append, arith}
use Rattle.std.specs.Prelude.{count_by}
use Rattle.std.proofs.lemmas.List.{length-map}
use Rattle.std.proofs.lemmas.List.Elements.{All-append, All-cons, All-head, All-tail}
use Rattle.std.proofs.lemmas.List.Sums.{sum_by-cons}
use Rattle.smt_terms.specs.declared.ids.NodeId.{NodeId}
use Rattle.smt_terms.specs.Term.{Term}
use Rattle.term_table.specs.Formulas.{Formulas, AreNodes, tree, trees_at}
use Rattle.script_read.specs.declared.scripts.Command.{Command}
use Rattle.script_read.specs.declared.scripts.Command.TheVariants.{Passed, DeclareSort, Declare, Assert, Check, CheckAssuming, Push, Pop, Reset, ResetAssertions, Globals, Exit}
use Rattle.script_read.specs.CommandLists.{IsCommandOf, AreCommandsOf, command_of, commands_of, is_check}
use Rattle.script_read.specs.Commands.{Command as CommandOf, checks, is_check as is_check_of}
use Rattle.smtrw_answers.specs.Outputs.{asserted, assertions, is_declaration as is_declaration_of}
use Rattle.smtrw_run.specs.Counted.{asserted_by, declarations_in, ids_of, is_assertion, is_declaration}

asserted_term : (t : Formulas) (c : Command) → trees_at t (asserted_by c) ≡ asserted (command_of t c)
asserted_term t (Passed text) = refl
asserted_term t (DeclareSort s) = refl
asserted_term t (Declare f) = refl
asserted_term t (Assert id number) = refl
asserted_term t Check = refl
asserted_term t (CheckAssuming ids) = refl
asserted_term t (Push n) = refl
asserted_term t (Pop n) = refl
asserted_term t Reset = refl
asserted_term t ResetAssertions = refl
asserted_term t (Globals b) = refl
asserted_term t Exit = refl

trees_joined : (t : Formulas) (ks js : List NodeId) → trees_at t (ks ++ js) ≡ trees_at t ks ++ trees_at t js
trees_joined t [] js = refl
trees_joined t (k ∷ ks) js = ap (λ (us : List Term). tree t k ∷ us) (trees_joined t ks js)

pub asserted_terms : (t : Formulas) (cs : List Command) → trees_at t (ids_of cs) ≡ assertions (commands_of t cs)
asserted_terms t [] = refl
asserted_terms t (c ∷ cs) =
    trees_joined t (asserted_by c) (ids_of cs)
    ∙ (λ i. asserted_term t c i ++ asserted_terms t cs i)

-- ---- what is counted

declaration_is : (t : Formulas) (c : Command) → is_declaration c ≡ is_declaration_of (command_of t c)
declaration_is t (Passed text) = refl
declaration_is t (DeclareSort s) = refl
declaration_is t (Declare f) = refl
declaration_is t (Assert id number) = refl
declaration_is t Check = refl
declaration_is t (CheckAssuming ids) = refl
declaration_is t (Push n) = refl
declaration_is t (Pop n) = refl
declaration_is t Reset = refl
declaration_is t ResetAssertions = refl
declaration_is t (Globals b) = refl
declaration_is t Exit = refl

check_is : (t : Formulas) (c : Command) → is_check c ≡ is_check_of (command_of t c)
check_is t (Passed text) = refl
check_is t (DeclareSort s) = refl
check_is t (Declare f) = refl
check_is t (Assert id number) = refl
check_is t Check = refl
check_is t (CheckAssuming ids) = refl
check_is t (Push n) = refl
check_is t (Pop n) = refl
check_is t Reset = refl
check_is t ResetAssertions = refl
check_is t (Globals b) = refl
check_is t Exit = refl

counted_alike : (t : Formulas) (p : Command → Bool) (q : CommandOf Term → Bool) → ((c : Command) → p c ≡ q (command_of t c)) → (cs : List Command) → count_by p cs ≡ count_by q (commands_of t cs)
counted_alike t p q alike [] = refl
counted_alike t p q alike (c ∷ cs) =
    sum_by-cons (λ c. cond (p c) 1 0) c cs
    ∙ (λ i. cond (alike c i) 1 0 + counted_alike t p q alike cs i)
    ∙ sym (sum_by-cons (λ d. cond (q d) 1 0) (command_of t c) (commands_of t cs))

pub declarations_are : (t : Formulas) (cs : List Command) → declarations_in cs ≡ count_by is_declaration_of (commands_of t cs)
declarations_are t cs = counted_alike t is_declaration is_declaration_of (declaration_is t) cs

pub checks_are : (t : Formulas) (cs : List Command) → count_by is_check cs ≡ checks (commands_of t cs)
checks_are t cs = counted_alike t is_check is_check_of (check_is t) cs

pub assertions_are : (t : Formulas) (cs : List Command) → length (ids_of cs) ≡ length (assertions (commands_of t cs))
assertions_are t cs = sym (length-map (ids_of cs) (tree t)) ∙ ap (λ (us : List Term). length us) (asserted_terms t cs)

one_asserted : (t : Formulas) (c : Command) → cond (is_assertion c) 1 0 ≡ length (asserted (command_of t c))
one_asserted t (Passed text) = refl
one_asserted t (DeclareSort s) = refl
one_asserted t (Declare f) = refl
one_asserted t (Assert id number) = refl
one_asserted t Check = refl
one_asserted t (CheckAssuming ids) = refl
one_asserted t (Push n) = refl
one_asserted t (Pop n) = refl
one_asserted t Reset = refl
one_asserted t ResetAssertions = refl
one_asserted t (Globals b) = refl
one_asserted t Exit = refl

pub assertions_counted : (t : Formulas) (cs : List Command) → count_by is_assertion cs ≡ length (assertions (commands_of t cs))
assertions_counted t [] = refl
assertions_counted t (c ∷ cs) =
    sum_by-cons (λ c. cond (is_assertion c) 1 0) c cs
    ∙ (λ i. one_asserted t c i + assertions_counted t cs i)
    ∙ sym (length-append (asserted (command_of t c)) (assertions (commands_of t cs)))

-- ---- numbers of the table

no_node : (t : Formulas) → AreNodes t []
no_node t k d within = absurd (omega (arith, within))

asserted_nodes : (t : Formulas) (c : Command) → IsCommandOf t c → AreNodes t (asserted_by c)
asserted_nodes t (Passed text) is = no_node t
asserted_nodes t (DeclareSort s) is = no_node t
asserted_nodes t (Declare f) is = no_node t
asserted_nodes t (Assert id number) is = All-cons (λ k. k.0 < length t.trees) id [] is (no_node t)
asserted_nodes t Check is = no_node t
asserted_nodes t (CheckAssuming ids) is = no_node t
asserted_nodes t (Push n) is = no_node t
asserted_nodes t (Pop n) is = no_node t
asserted_nodes t Reset is = no_node t
asserted_nodes t ResetAssertions is = no_node t
asserted_nodes t (Globals b) is = no_node t
asserted_nodes t Exit is = no_node t

pub nodes_asserted : (t : Formulas) (cs : List Command) → AreCommandsOf t cs → AreNodes t (ids_of cs)
nodes_asserted t [] are = no_node t
nodes_asserted t (c ∷ cs) are =
    All-append (λ k. k.0 < length t.trees) (asserted_by c) (ids_of cs)
    (asserted_nodes t c (All-head (IsCommandOf t) c cs are))
    (nodes_asserted t cs (All-tail (IsCommandOf t) c cs are))
