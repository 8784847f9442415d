-- How a reason is said.
use Rattle.std.specs.Prelude.{ℕ, List, codes}
use Rattle.line_fields.specs.declared.fault.LineReason.{LineReason}
use Rattle.line_fields.specs.declared.fault.LineReason.TheVariants as reasons

-- a reason in one word
abbrev pub reason_name : LineReason → List ℕ
reason_name reasons.Word = codes "word"
reason_name reasons.Number = codes "number"
reason_name reasons.Hex = codes "hex"
reason_name reasons.Missing = codes "missing"
reason_name reasons.Extra = codes "extra"
reason_name reasons.LineTooLong = codes "line-too-long"
reason_name reasons.ClockBack = codes "clock-back"
reason_name reasons.TooMany = codes "too-many"
reason_name reasons.FileTooLong = codes "file-too-long"
reason_name reasons.Size = codes "size"
