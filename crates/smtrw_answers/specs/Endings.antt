-- How a run ends by its texts alone, where no device fails and memory is there: the first of these refusals, in this order,
-- or well. The script is read before the check's number is looked at, then come the passes, then the live terms that aren't ones
-- over bits, or clauses, then the text of the model or the answer, and last the terms that have to be evaluated.
use Rattle.std.specs.Prelude.{ℕ, nat_lt, if◌then◌else◌, List, length, Result, Ok, Err, Option, Some, None, option_map}
use Rattle.smt_lex.specs.Lex.{Fault, bad_byte, bad_token, open_text, unbalanced, line_at}
use Rattle.smt_terms.specs.Models.{Model}
use Rattle.script_terms.specs.declared.faults.Refusal.{Refusal}
use Rattle.script_terms.specs.Refusals.{code_of, Unaccepted, unread, refused}
use Rattle.script_read.specs.Commands.{checks}
use Rattle.script_read.specs.Script.{fault_place, fault}
use Rattle.model_texts.specs.Refusals.{Unmodelled, code_of as model_code_of, unread as unread_model, refused as refused_model}
use Rattle.model_texts.specs.ModelText.{model_of}
use Rattle.pass_laws.specs.declared.names.Pass.{Pass}
use Rattle.pass_laws.specs.Passed.{refused_assertion}
use Rattle.pass_laws.specs.Carry.{Stage, back_stages, forth_stages, too_wide, beyond}
use Rattle.smtrw_answers.specs.declared.status.Why.TheVariants.{NoSuchCheck}
use Rattle.smtrw_answers.specs.declared.status.Status.{Status}
use Rattle.smtrw_answers.specs.declared.status.Status.TheVariants.{Refused, Usage, ModelRefused, Beyond128, PassRefused}
use Rattle.bit_scripts.specs.Scripts.{refused_root}
use Rattle.smtrw_answers.specs.Words.{Asked, rewrite, translate, extend, blast, unblast, dimacs, answer, stats, demo}
use Rattle.smtrw_answers.specs.Outputs.{commands, names_left, rewritten_commands}
use Rattle.dimacs_link.specs.declared.answers.Answer.{Answer}
use Rattle.dimacs_link.specs.declared.answers.Answer.TheVariants.{Sat, Unsat, Unknown}
use Rattle.dimacs_link.specs.AnswerTexts.{reading}
use Rattle.dimacs_link.specs.Checks.{unlinked_root}
use Rattle.smtrw_answers.specs.Blasting.{lifted, signature_blasted}
use Rattle.smtrw_answers.specs.Linking.{linked_constants, linked_model}
use Rattle.smtrw_answers.specs.Carrying.{signature_before, signature_behind}

abbrev pub or_later : Option Status → Option Status → Option Status
or_later (Some s) later = Some s
or_later None later = later

-- ---- the script

abbrev pub longest_text : ℕ
longest_text = 67108864

abbrev pub fault_code : Fault → ℕ
fault_code (bad_byte place) = 10
fault_code (bad_token place) = 11
fault_code (open_text place) = 12
fault_code (unbalanced place) = 13

-- a fault of tokens or parentheses is one of no command
abbrev pub refusal_of : Unaccepted → Status
refusal_of (unread f line) = Refused (record { code = fault_code f; command = 0; line = line; byte = fault_place f })
refusal_of (refused r) = Refused (record { code = code_of r.cause; command = r.command; line = r.line; byte = r.byte })

-- of a text that has more bytes than may be read
abbrev pub too_long : Refusal
too_long = record { code = 2; command = 0; line = 0; byte = longest_text }

abbrev pub script_end : List ℕ → Option Status
script_end b =
    if nat_lt longest_text (length b)
    then Some (Refused too_long)
    else option_map refusal_of (fault b)

-- ---- the check and the passes

abbrev pub check_end : List ℕ → ℕ → Option Status
check_end b k =
    if nat_lt (checks (commands b)) k
    then Some (Usage (record { word = 0; why = NoSuchCheck k (checks (commands b)) }))
    else None

abbrev pub passes_end : List ℕ → List Pass → Option Status
passes_end b ps = option_map (λ i. PassRefused 50 i) (refused_assertion ps (commands b) (names_left b))

-- a term that is live at the check behind the passes isn't one over bits
abbrev pub bits_end : List ℕ → List Pass → ℕ → Option Status
bits_end b ps k = option_map (λ i. PassRefused 90 i) (refused_root (rewritten_commands b ps) k)

-- the passes, and then the bits
abbrev pub blasting_end : List ℕ → List Pass → ℕ → Option Status
blasting_end b ps k = or_later (passes_end b ps) (bits_end b ps k)

-- a term that is live at the check behind the passes isn't a clause
abbrev pub clauses_end : List ℕ → List Pass → ℕ → Option Status
clauses_end b ps k = option_map (λ i. PassRefused 96 i) (unlinked_root (rewritten_commands b ps) k)

-- the passes, and then the clauses
abbrev pub linking_end : List ℕ → List Pass → ℕ → Option Status
linking_end b ps k = or_later (passes_end b ps) (clauses_end b ps k)

-- ---- the model

abbrev pub model_refusal_of : Unmodelled → Status
model_refusal_of (unread_model f line) = ModelRefused (fault_code f) line (fault_place f)
model_refusal_of (refused_model r) = ModelRefused (model_code_of r.cause) r.line r.byte

-- too many bits of quantifiers come before whole numbers beyond the range
abbrev pub stages_end : List Stage → Option Status
stages_end stages = or_later (option_map (λ i. PassRefused 71 i) (too_wide stages)) (option_map (λ i. Beyond128 i) (beyond stages))

abbrev pub model_end : (Model → List Stage) → Result Model Unmodelled → Option Status
model_end stages (Ok m) = stages_end (stages m)
model_end stages (Err u) = Some (model_refusal_of u)

abbrev pub text_end : List ℕ → Option Status → Option Status
text_end g otherwise = if nat_lt longest_text (length g) then Some (ModelRefused 2 0 longest_text) else otherwise

-- ---- the commands: none of these where the run ends well

abbrev pub rewrite_end : List ℕ → List Pass → Option Status
rewrite_end b ps = or_later (script_end b) (passes_end b ps)

abbrev pub translate_end : List ℕ → List Pass → ℕ → List ℕ → Option Status
translate_end b ps k g =
    or_later (script_end b)
    (or_later (check_end b k)
    (or_later (passes_end b ps)
    (text_end g (model_end (back_stages ps (commands b) (names_left b) k) (model_of g (signature_behind b ps k))))))

abbrev pub extend_end : List ℕ → List Pass → ℕ → List ℕ → Option Status
extend_end b ps k g =
    or_later (script_end b)
    (or_later (check_end b k)
    (or_later (passes_end b ps)
    (text_end g (model_end (forth_stages ps (commands b) (names_left b) k) (model_of g (signature_before b k))))))

abbrev pub blast_end : List ℕ → List Pass → ℕ → Option Status
blast_end b ps k = or_later (script_end b) (or_later (check_end b k) (blasting_end b ps k))

-- the terms that are evaluated have their values in the lifted model
abbrev pub unblast_stages : List ℕ → List Pass → ℕ → Model → List Stage
unblast_stages b ps k m = back_stages ps (commands b) (names_left b) k (lifted b ps k m)

abbrev pub unblast_end : List ℕ → List Pass → ℕ → List ℕ → Option Status
unblast_end b ps k g =
    or_later (script_end b)
    (or_later (check_end b k)
    (or_later (blasting_end b ps k)
    (text_end g (model_end (unblast_stages b ps k) (model_of g (signature_blasted b ps k))))))

abbrev pub dimacs_end : List ℕ → List Pass → ℕ → Option Status
dimacs_end b ps k = or_later (script_end b) (or_later (check_end b k) (linking_end b ps k))

-- terms are evaluated for the model that an answer gives alone
abbrev pub answer_stages : List ℕ → List Pass → ℕ → Answer → Option Status
answer_stages b ps k (Sat vs) = stages_end (back_stages ps (commands b) (names_left b) k (linked_model b ps k vs))
answer_stages b ps k Unsat = None
answer_stages b ps k Unknown = None

abbrev pub reading_end : List ℕ → List Pass → ℕ → List ℕ → Result Answer ℕ → Option Status
reading_end b ps k g (Ok a) = answer_stages b ps k a
reading_end b ps k g (Err place) = Some (ModelRefused 95 (line_at g place) place)

abbrev pub answer_end : List ℕ → List Pass → ℕ → List ℕ → Option Status
answer_end b ps k g =
    or_later (script_end b)
    (or_later (check_end b k)
    (or_later (linking_end b ps k)
    (text_end g (reading_end b ps k g (reading (length (linked_constants b ps k)) g)))))

abbrev pub stats_end : List ℕ → Option Status
stats_end b = script_end b

-- of the script b, and the model's text g where the command reads one
abbrev pub end_of : Asked → List ℕ → List ℕ → Option Status
end_of (rewrite passes layout script) b g = rewrite_end b passes
end_of (translate passes check script model) b g = translate_end b passes check g
end_of (extend passes check script model) b g = extend_end b passes check g
end_of (blast passes check script) b g = blast_end b passes check
end_of (unblast passes check script model) b g = unblast_end b passes check g
end_of (dimacs passes check script) b g = dimacs_end b passes check
end_of (answer passes check script reply) b g = answer_end b passes check g
end_of (stats script) b g = stats_end b
end_of (demo seed size) b g = None
