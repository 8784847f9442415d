-- How the fault of an input is said.
use Rattle.std.specs.Prelude.{ℕ, List, [], ◌∷◌, ◌++◌, codes}
use Rattle.std.specs.Fmt.{decimal}
use Rattle.line_fields.specs.Faults.{reason_name}
use Rattle.input_lines.specs.declared.fault.InputFault.{InputFault}

-- the line that says where an input is faulty, and why
abbrev pub fault_line : InputFault → List ℕ
fault_line f =
    codes "ha: line " ++ decimal f.line ++ codes ", column " ++ decimal f.column ++ codes ": "
    ++ reason_name f.reason ++ 10 ∷ []
