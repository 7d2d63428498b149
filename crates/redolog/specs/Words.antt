-- The command that the one word behind the program's name is.
use Rattle.std.specs.Prelude.{ℕ, List, if◌then◌else◌, codes}
use Rattle.rl_value.specs.Order.{same_bytes}
use Rattle.redolog.specs.declared.words.Command.{Command}
use Rattle.redolog.specs.declared.words.Command.TheVariants as commands

abbrev pub command_in : List ℕ → Command
command_in word =
    if same_bytes word (codes "write") then commands.Write
    else if same_bytes word (codes "show") then commands.Show
    else if same_bytes word (codes "head") then commands.Head
    else commands.Wrong
