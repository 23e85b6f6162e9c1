-- The statuses that faults of a script's or a model's text lead to, those of passes, of carrying a model, of blasting a check and of clauses.
use Rattle.smt_lex.specs.declared.faults.LexFault.{LexFault}
use Rattle.smt_lex.specs.declared.faults.LexFault.TheVariants.{BadByte, BadToken, OpenText, Unbalanced, Memory}
use Rattle.script_terms.specs.declared.faults.ScriptFault.{ScriptFault}
use Rattle.script_terms.specs.declared.faults.ScriptFault.TheVariants.{Refused as ScriptRefused, Memory as NoMemory}
use Rattle.model_texts.specs.declared.faults.ModelFault.{ModelFault}
use Rattle.model_texts.specs.declared.faults.ModelFault.TheVariants.{ModelForm, ModelSort, NotATable, ModelNumber, ModelTwice, Memory as NoMemoryForModel}
use Rattle.passes.specs.declared.carrying.CarryFault.{CarryFault}
use Rattle.passes.specs.declared.carrying.CarryFault.TheVariants.{NoSuchCheck as CheckMissing, EvalWidth, Beyond128 as ValueBeyond, Memory as NoMemoryForCarrying}
use Rattle.passes.specs.declared.running.PassFault.{PassFault}
use Rattle.passes.specs.declared.running.PassFault.TheVariants.{QuantifiedUse, Memory as NoMemoryForPassing}
use Rattle.bit_scripts.specs.declared.scripts.BlastScriptFault.{BlastScriptFault}
use Rattle.bit_scripts.specs.declared.scripts.BlastScriptFault.TheVariants.{NotBits, Memory as NoMemoryForBits}
use Rattle.dimacs_link.specs.declared.checks.LinkCheckFault.{LinkCheckFault}
use Rattle.dimacs_link.specs.declared.checks.LinkCheckFault.TheVariants.{NotClauses, Memory as NoMemoryForClauses}
use Rattle.dimacs_link.specs.declared.answers.AnswerFault.{AnswerFault}
use Rattle.dimacs_link.specs.declared.answers.AnswerFault.TheVariants.{Form, Memory as NoMemoryForAnswer}
use Rattle.smtrw_answers.specs.declared.status.Why.TheVariants.{NoSuchCheck}
use Rattle.smtrw_answers.specs.declared.status.Status.{Status}
use Rattle.smtrw_answers.specs.declared.status.Status.TheVariants.{Refused, Usage, OutOfMemory, ModelRefused, Beyond128, PassRefused}

abbrev pub status_of_lexing : LexFault → Status
status_of_lexing (BadByte place line) = Refused (record { code = 10; command = 0; line = line; byte = place })
status_of_lexing (BadToken place line) = Refused (record { code = 11; command = 0; line = line; byte = place })
status_of_lexing (OpenText place line) = Refused (record { code = 12; command = 0; line = line; byte = place })
status_of_lexing (Unbalanced place line) = Refused (record { code = 13; command = 0; line = line; byte = place })
status_of_lexing Memory = OutOfMemory

abbrev pub status_of_reading : ScriptFault → Status
status_of_reading (ScriptRefused r) = Refused r
status_of_reading NoMemory = OutOfMemory

-- ---- of a model's text

abbrev pub status_of_model_lexing : LexFault → Status
status_of_model_lexing (BadByte place line) = ModelRefused 10 line place
status_of_model_lexing (BadToken place line) = ModelRefused 11 line place
status_of_model_lexing (OpenText place line) = ModelRefused 12 line place
status_of_model_lexing (Unbalanced place line) = ModelRefused 13 line place
status_of_model_lexing Memory = OutOfMemory

abbrev pub status_of_model : ModelFault → Status
status_of_model (ModelForm line byte) = ModelRefused 60 line byte
status_of_model (ModelSort line byte) = ModelRefused 61 line byte
status_of_model (NotATable line byte) = ModelRefused 62 line byte
status_of_model (ModelNumber line byte) = ModelRefused 63 line byte
status_of_model (ModelTwice line byte) = ModelRefused 64 line byte
status_of_model NoMemoryForModel = OutOfMemory

-- ---- of passes

abbrev pub status_of_passing : PassFault → Status
status_of_passing (QuantifiedUse assertion) = PassRefused 50 assertion
status_of_passing NoMemoryForPassing = OutOfMemory

-- ---- of carrying

abbrev pub status_of_carrying : CarryFault → Status
status_of_carrying (CheckMissing check checks) = Usage (record { word = 0; why = NoSuchCheck check checks })
status_of_carrying (EvalWidth assertion bits) = PassRefused 71 assertion
status_of_carrying (ValueBeyond assertion node) = Beyond128 assertion
status_of_carrying NoMemoryForCarrying = OutOfMemory

-- ---- of blasting

abbrev pub status_of_blasting : BlastScriptFault → Status
status_of_blasting (NotBits assertion) = PassRefused 90 assertion
status_of_blasting NoMemoryForBits = OutOfMemory

-- ---- of clauses and answers

abbrev pub status_of_linking : LinkCheckFault → Status
status_of_linking (NotClauses assertion) = PassRefused 96 assertion
status_of_linking NoMemoryForClauses = OutOfMemory

abbrev pub status_of_answer : AnswerFault → Status
status_of_answer (Form line byte) = ModelRefused 95 line byte
status_of_answer NoMemoryForAnswer = OutOfMemory
