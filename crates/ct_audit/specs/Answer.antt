-- The texts of the answers of an audit, and what is reported of them.
use Rattle.std.specs.Prelude.{ℕ, List, ◌++◌, Option, None, Some, codes}
use Rattle.std.specs.Fmt.{decimal}
use Rattle.ct_words.specs.Errors.{error_text}
use Rattle.ct_audit.specs.declared.answer.AuditAnswer.{AuditAnswer}
use Rattle.ct_audit.specs.declared.answer.AuditAnswer.TheVariants.{Verified, Rejected, Wrong}

-- the text of an error of an item, counted from 0
abbrev pub wrong_text : ℕ → ℕ → List ℕ
wrong_text item code = codes "(error \"item " ++ (decimal item ++ (codes ": [E" ++ (decimal code ++ (codes "] " ++ (error_text code ++ codes "\")")))))

abbrev pub audit_text : AuditAnswer → List ℕ
audit_text Verified = codes "verified"
audit_text (Rejected number) = codes "rejected " ++ decimal number
audit_text (Wrong item code) = wrong_text item code

-- the item and the number of its error; or the number of the line that is not accepted, or of the assertion that is not true, and 0
abbrev pub audit_error : AuditAnswer → Option (ℕ × ℕ)
audit_error Verified = None
audit_error (Rejected number) = Some (number, 0)
audit_error (Wrong item code) = Some (item, code)
