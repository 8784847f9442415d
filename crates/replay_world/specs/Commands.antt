-- What the words of a command line ask for.
use Rattle.std.specs.Prelude.{ℕ, if◌then◌else◌, List, [], ◌∷◌, Option, Some, None, codes, string_bytes, String}
use Rattle.std.specs.Str.{bytes_eq}
use Rattle.replay_world.specs.declared.top.Command.{Command}
use Rattle.replay_world.specs.declared.top.Command.TheVariants.{Run, Show}

-- the command that a word names
abbrev pub command_named : List ℕ → Option Command
command_named word =
    if bytes_eq word (codes "run") then Some Run
    else if bytes_eq word (codes "show") then Some Show
    else None

-- the command that the words are, which is one word
abbrev pub command_of : {A : Type 0} → List (String A) → Option Command
command_of [] = None
command_of (word ∷ []) = command_named (string_bytes word)
command_of (word ∷ other ∷ more) = None
