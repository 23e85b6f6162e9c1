-- A script behind passes, with what is declared at a check before and behind them.
use Rattle.std.proofs.Common.{◌≡◌, ◌∙◌, sym, ap, subst, refl, ℕ, ◌+◌, ◌<◌, ◌≤◌, nat_lt, Bool, true, false, cond, List, [], ◌∷◌, length, Option, Some, None, Result, Ok, Err, arith}
use Rattle.std.specs.Prelude.{count_by}
use Rattle.std.proofs.lemmas.Bool.Decides.{nat_tests}
use Rattle.std.proofs.lemmas.List.{length-map}
use Rattle.std.proofs.lemmas.List.Elements.{All-weaker}
use Rattle.std.proofs.lemmas.List.Sums.{sum_by-cons}
use Rattle.smt_terms.specs.declared.ids.SortId.{SortId}
use Rattle.smt_terms.specs.Fresh.{Supply}
use Rattle.smt_terms.specs.Models.{Model, IsModelOver}
use Rattle.smt_terms.specs.Sorts.{Name}
use Rattle.smt_terms.specs.Term.{Term}
use Rattle.smt_values.specs.SortIds.{is_free, sort_at}
use Rattle.term_table.specs.Formulas.{Formulas, symbol_at, IsSymbol}
use Rattle.term_walk.specs.Walking.{GrowsTo}
use Rattle.script_terms.proofs.Grown.{same_map, symbol_within, symbol_stays, sort_within, sort_stays}
use Rattle.script_terms.specs.Refusals.{Unaccepted}
use Rattle.script_terms.specs.declared.faults.ScriptFault.{ScriptFault}
use Rattle.script_terms.specs.declared.faults.ScriptFault.TheVariants.{Refused as ScriptRefused, Memory}
use Rattle.script_read.specs.declared.scripts.Command.{Command as NodeCommand}
use Rattle.script_read.specs.CommandLists.{ReadsScript, commands_of, free_name, is_check as is_node_check}
use Rattle.script_read.specs.Commands.{Command, passed as passed_on, declare_sort, declare, assert, check, check_assuming, push, pop, reset, reset_assertions, globals, exit, State, Kind, Signature, signature, after, start, checks, is_check, kinds, points, points_from}
use Rattle.script_read.specs.Script.{script}
use Rattle.models.specs.LiveNumbers.{LiveNumbers, signature_of, AreLiveNumbersOf, IsFreeSort}
use Rattle.pass_laws.specs.declared.names.Pass.{Pass}
use Rattle.passes.specs.declared.running.PassFault.{PassFault}
use Rattle.passes.specs.declared.running.PassFault.TheVariants.{QuantifiedUse, Memory as NoMemoryForPassing}
use Rattle.pass_laws.specs.Carry.{back, forth}
use Rattle.pass_laws.specs.Laws.{AreCarried, CarriesSignatures, IsReady}
use Rattle.pass_laws.specs.Led.{LeadsTo}
use Rattle.pass_laws.specs.Lists.{groups_after_rules}
use Rattle.pass_laws.specs.Passed.{passed, refused_assertion}
use Rattle.passes.specs.Plans.{IsPlanOf, IsPlanOver}
use Rattle.model_texts.specs.Proper.{IsProper}
use Rattle.smtrw_answers.specs.declared.status.Status.{Status}
use Rattle.smtrw_answers.specs.declared.status.Status.TheVariants.{Done, Refused, Usage, ReadFailed, WriteFailed, OutOfMemory, ModelRefused, Beyond128, PassRefused}
use Rattle.smtrw_answers.specs.declared.status.Why.TheVariants.{NoSuchCheck}
use Rattle.smtrw_answers.specs.Endings.{longest_text, check_end, passes_end}
use Rattle.smtrw_answers.specs.Faults.{status_of_passing, status_of_reading}
use Rattle.smtrw_answers.specs.Outputs.{commands, names_left, read_or_none}
use Rattle.smtrw_run.specs.declared.carrying.Way.{Way}
use Rattle.model_texts.specs.Laws.{SignaturesAreProper}
use Rattle.smtrw_run.specs.Carrying.{AreNumbersOf, EndsAtScript, EndsOnTheWay, LeadsOver, IsWay}
use Rattle.smtrw_run.proofs.Commanded.{checks_are}
use Rattle.smtrw_run.proofs.Endings.{accepted_ends, passes_end_so, reading_ends}

-- ---- numbers stay those of a table that grows

module _ (t u : Formulas) (grows : GrowsTo t u) where
  sort_is_free : (s : SortId) → IsFreeSort t s → IsFreeSort u s
  sort_is_free s is = (sort_within t.sorts u.sorts grows.sorts s is.0, ap is_free (sort_stays t.sorts u.sorts grows.sorts s is.0) ∙ is.1)

  pub live_stay : (l : LiveNumbers) → AreLiveNumbersOf t l → AreLiveNumbersOf u l
  live_stay l are = (All-weaker (IsFreeSort t) (IsFreeSort u) sort_is_free l.sorts are.0, All-weaker (IsSymbol t) (IsSymbol u) (symbol_within t u grows) l.symbols are.1)

  sort_named : (s : SortId) → IsFreeSort t s → free_name (sort_at u.sorts s) ≡ free_name (sort_at t.sorts s)
  sort_named s is = ap free_name (sort_stays t.sorts u.sorts grows.sorts s is.0)

  pub signature_stays : (l : LiveNumbers) → AreLiveNumbersOf t l → signature_of u l ≡ signature_of t l
  signature_stays l are i = record {
    sorts = same_map (λ s. free_name (sort_at u.sorts s)) (λ s. free_name (sort_at t.sorts s)) l.sorts (All-weaker (IsFreeSort t) (λ s. free_name (sort_at u.sorts s) ≡ free_name (sort_at t.sorts s)) sort_named l.sorts are.0) i;
    symbols = same_map (symbol_at u) (symbol_at t) l.symbols (All-weaker (IsSymbol t) (λ f. symbol_at u f ≡ symbol_at t f) (symbol_stays t u grows) l.symbols are.1) i;
  }

-- ---- as many checks as points before the last

more_checks : (c : Command Term) (cs : List (Command Term)) (b : Bool) → is_check c ≡ b → checks (c ∷ cs) ≡ cond b 1 0 + checks cs
more_checks c cs b is = sum_by-cons (λ d. cond (is_check d) 1 0) c cs ∙ ap (λ (a : Bool). cond a 1 0 + checks cs) is

counted : (s : State Term) (cs : List (Command Term)) → length (points_from s cs) ≡ checks cs + 1
counted s [] = refl
counted s (c ∷ cs) = by c (counted (after c s) cs)
  where
    by : (c : Command Term) → length (points_from (after c s) cs) ≡ checks cs + 1 → length (points_from s (c ∷ cs)) ≡ checks (c ∷ cs) + 1
    by (passed_on text) rest = let all = more_checks (passed_on text) cs false refl in omega (arith, rest, all)
    by (declare_sort n) rest = let all = more_checks (declare_sort n) cs false refl in omega (arith, rest, all)
    by (declare f) rest = let all = more_checks (declare f) cs false refl in omega (arith, rest, all)
    by (assert n t) rest = let all = more_checks (assert n t) cs false refl in omega (arith, rest, all)
    by check rest = let all = more_checks check cs true refl in omega (arith, rest, all)
    by (check_assuming ts) rest = let all = more_checks (check_assuming ts) cs true refl in omega (arith, rest, all)
    by (push n) rest = let all = more_checks (push n) cs false refl in omega (arith, rest, all)
    by (pop n) rest = let all = more_checks (pop n) cs false refl in omega (arith, rest, all)
    by reset rest = let all = more_checks reset cs false refl in omega (arith, rest, all)
    by reset_assertions rest = let all = more_checks reset_assertions cs false refl in omega (arith, rest, all)
    by (globals g) rest = let all = more_checks (globals g) cs false refl in omega (arith, rest, all)
    by exit rest = let all = more_checks exit cs false refl in omega (arith, rest, all)

pub all_counted : (cs : List (Command Term)) → length (kinds cs) ≡ checks cs + 1
all_counted cs = length-map (points cs) (λ p. p.kind) ∙ counted start cs

pub same_checks : (cs ds : List (Command Term)) → kinds ds ≡ kinds cs → checks ds ≡ checks cs
same_checks cs ds same =
    let first = all_counted cs in
    let second = all_counted ds in
    let alike = ap (λ (ks : List Kind). length ks) same in
    omega (arith, first, second, alike)

-- ---- the check

few_enough : (k n : ℕ) → k ≤ n → nat_lt n k ≡ false
few_enough k n within = grind (arith, nat_tests)

too_many : (k n : ℕ) → n < k → nat_lt n k ≡ true
too_many k n beyond = grind (arith, nat_tests)

module _ (b : List ℕ) (read : List (Command Term) × Supply) (is : script b ≡ Ok read) where
  read_commands : commands b ≡ read.0
  read_commands = ap (λ (r : Result (List (Command Term) × Supply) Unaccepted). (read_or_none r).0) is

  pub check_found : (k : ℕ) → k ≤ checks read.0 → check_end b k ≡ None
  check_found k within =
      ap (λ (cs : List (Command Term)). cond (nat_lt (checks cs) k) (Some (Usage (record { word = 0; why = NoSuchCheck k (checks cs) }))) None) read_commands
      ∙ ap (λ (c : Bool). cond c (Some (Usage (record { word = 0; why = NoSuchCheck k (checks read.0) }))) None) (few_enough k (checks read.0) within)

  pub check_not_found : (k : ℕ) → checks read.0 < k → check_end b k ≡ Some (Usage (record { word = 0; why = NoSuchCheck k (checks read.0) }))
  check_not_found k beyond =
      ap (λ (cs : List (Command Term)). cond (nat_lt (checks cs) k) (Some (Usage (record { word = 0; why = NoSuchCheck k (checks cs) }))) None) read_commands
      ∙ ap (λ (c : Bool). cond c (Some (Usage (record { word = 0; why = NoSuchCheck k (checks read.0) }))) None) (too_many k (checks read.0) beyond)

  -- what holds of the commands that were read and of the names that are left holds of the text's
  of_text : (P : List (Command Term) → Supply → Type 0) → P read.0 read.1 → P (commands b) (names_left b)
  of_text P holds = subst (λ (r : Result (List (Command Term) × Supply) Unaccepted). P (read_or_none r).0 (read_or_none r).1) (sym is) holds

  pub led_from : (ps : List Pass) (rules : List Name) (ds : List (Command Term)) (r : Supply) → LeadsTo ps read.0 read.1 rules ds r → LeadsTo ps (commands b) (names_left b) rules ds r
  led_from ps rules ds r = of_text (λ cs s. LeadsTo ps cs s rules ds r)

  pub carried_from : (ps : List Pass) (ds : List (Command Term)) (r : Supply) → AreCarried ps read.0 ds read.1 r → AreCarried ps (commands b) ds (names_left b) r
  carried_from ps ds r = of_text (λ cs s. AreCarried ps cs ds s r)

  pub leads_from : (ps : List Pass) (k : ℕ) (way : Way) → LeadsOver read.0 read.1 ps k way → LeadsOver (commands b) (names_left b) ps k way
  leads_from ps k way = of_text (λ cs s. LeadsOver cs s ps k way)

-- ---- models over a signature

over_same : (m : Model) (g h : Signature) → g ≡ h → IsModelOver g.sorts g.symbols m → IsModelOver h.sorts h.symbols m
over_same m g h same over = subst (λ (f : Signature). IsModelOver f.sorts f.symbols m) same over

module _ (cs ds : List (Command Term)) (ps : List Pass) (s : Supply) (k : ℕ) (led : signature ds k ≡ signature (passed ps cs s).0 k) (carried : CarriesSignatures cs ds (back ps cs s) (forth ps cs s)) where
  pub back_over_signatures : (m : Model) → IsModelOver (signature (passed ps cs s).0 k).sorts (signature (passed ps cs s).0 k).symbols m → IsModelOver (signature cs k).sorts (signature cs k).symbols (back ps cs s k m)
  back_over_signatures m over = carried.back k m (over_same m (signature (passed ps cs s).0 k) (signature ds k) (sym led) over)

  pub forth_over_signatures : (m : Model) → IsModelOver (signature cs k).sorts (signature cs k).symbols m → IsModelOver (signature (passed ps cs s).0 k).sorts (signature (passed ps cs s).0 k).symbols (forth ps cs s k m)
  forth_over_signatures m over = over_same (forth ps cs s k m) (signature ds k) (signature (passed ps cs s).0 k) led (carried.forth k m over)

-- ---- all together

module _ (b : List ℕ) (ps : List Pass) (k : ℕ) (cs ds : List (Command Term)) (s r : Supply) (ready : IsReady cs s) (carried : AreCarried ps cs ds s r) (led : signature ds k ≡ signature (passed ps cs s).0 k) (law : SignaturesAreProper)
    (old : Formulas) (way : Way) (grows : GrowsTo old way.table) where
  numbers_before : AreLiveNumbersOf old way.before → signature_of old way.before ≡ signature cs k → AreNumbersOf way.table way.before (signature cs k)
  numbers_before live are = record { live = live_stay old way.table grows way.before live; are = signature_stays old way.table grows way.before live ∙ are; proper = law cs k ready.printable }

  numbers_behind : AreLiveNumbersOf way.table way.behind → signature_of way.table way.behind ≡ signature ds k → AreNumbersOf way.table way.behind (signature (passed ps cs s).0 k)
  numbers_behind live are = record { live = live; are = are ∙ led; proper = subst IsProper led (law ds k carried.ready.printable) }

  pub leads_over : 1 ≤ k → k ≤ checks cs → groups_after_rules ps ≡ false → AreLiveNumbersOf old way.before → signature_of old way.before ≡ signature cs k → AreLiveNumbersOf way.table way.behind → signature_of way.table way.behind ≡ signature ds k
      → IsPlanOver way.table way.plan → IsPlanOf way.table way.plan ps cs s → LeadsOver cs s ps k way
  leads_over first last order live_before before live_behind behind over plan = record {
    within = (first, last);
    before = numbers_before live_before before;
    behind = numbers_behind live_behind behind;
    over = over;
    plan = plan;
    ready = ready;
    order = order;
    back = back_over_signatures cs ds ps s k led carried.signatures;
    forth = forth_over_signatures cs ds ps s k led carried.signatures;
  }

  pub way_is : script b ≡ Ok (cs, s) → length b ≤ longest_text → refused_assertion ps cs s ≡ None → LeadsOver cs s ps k way → IsWay b ps k way
  way_is reads short accepted leads = record {
    script = accepted_ends b short (cs, s) reads;
    check = check_found b (cs, s) reads k leads.within.1;
    passes = passes_end_so b (cs, s) reads ps None accepted;
    leads = leads_from b (cs, s) reads ps k way leads;
  }

-- ---- refusals on the way

pub unread_way : (b : List ℕ) (k : ℕ) (t : Formulas) → length b ≤ longest_text → (f : ScriptFault) → ReadsScript t b (Err f) → EndsAtScript b k (status_of_reading f)
unread_way b k t short (ScriptRefused r) reads = reading_ends b short r reads
unread_way b k t short Memory reads = tt

pub missing_way : (b : List ℕ) (k : ℕ) (t : Formulas) (cs : List NodeCommand) (s : Supply) → script b ≡ Ok (commands_of t cs, s) → length b ≤ longest_text → count_by is_node_check cs < k → EndsAtScript b k (Usage (record { word = 0; why = NoSuchCheck k (count_by is_node_check cs) }))
missing_way b k t cs s reads short beyond =
    let same = checks_are t cs in
    let fewer : checks (commands_of t cs) < k = omega (arith, beyond, same) in
    ((count_by is_node_check cs, refl, beyond), accepted_ends b short (commands_of t cs, s) reads, check_not_found b (commands_of t cs, s) reads k fewer ∙ ap (λ (n : ℕ). Some (Usage (record { word = 0; why = NoSuchCheck k n }))) (sym same))

-- what ends the run before the passes ends it on the way
pub script_on_the_way : (b : List ℕ) (k : ℕ) (passing : Option Status) (status : Status) → EndsAtScript b k status → EndsOnTheWay b k passing status
script_on_the_way b k passing Done ends = ends
script_on_the_way b k passing (Refused r) ends = ends
script_on_the_way b k passing (Usage u) ends = ends
script_on_the_way b k passing (ReadFailed word) ends = ends
script_on_the_way b k passing WriteFailed ends = ends
script_on_the_way b k passing OutOfMemory ends = ends
script_on_the_way b k passing (ModelRefused code line byte) ends = ends
script_on_the_way b k passing (Beyond128 assertion) ends = ends
script_on_the_way b k passing (PassRefused code assertion) ends = absurd ends

pub refused_way : (b : List ℕ) (ps : List Pass) (k : ℕ) (read : List (Command Term) × Supply) → script b ≡ Ok read → length b ≤ longest_text → k ≤ checks read.0 → (f : PassFault) → ((a : ℕ) → f ≡ QuantifiedUse a → refused_assertion ps read.0 read.1 ≡ Some a)
    → EndsOnTheWay b k (passes_end b ps) (status_of_passing f)
refused_way b ps k read reads short last (QuantifiedUse a) refused = (accepted_ends b short read reads, check_found b read reads k last, passes_end_so b read reads ps (Some a) (refused a refl))
refused_way b ps k read reads short last NoMemoryForPassing refused = tt
