-- What the words of the command line ask for.
-- fold SEQ: SEQ is 1 to 4294967295 in decimal, without a sign or a leading zero. run, mine and load are not built yet.
use Rattle.std.specs.Prelude.{ℕ, List, [], ◌∷◌, Bool, ◌||◌, if◌then◌else◌, codes, Option, Some, None}
use Rattle.rl_value.specs.Order.{same_bytes}
use Rattle.script_words.specs.Numbers.{sequence}
use Rattle.standby.specs.declared.command.Command.{Command}
use Rattle.standby.specs.declared.command.Command.TheVariants.{Fold, Later, Wrong}

-- fold of a log's sequence, if there is one
abbrev pub fold_at : Option ℕ → Command
fold_at None = Wrong
fold_at (Some seq) = Fold seq

-- fold with one word behind it
abbrev pub fold_of : List ℕ → Command
fold_of word = fold_at (sequence word)

-- fold with these words behind it
abbrev pub fold_with : List (List ℕ) → Command
fold_with [] = Wrong
fold_with (word ∷ []) = fold_of word
fold_with (word ∷ other ∷ more) = Wrong

-- run, mine or load
abbrev pub is_later : List ℕ → Bool
is_later word = same_bytes word (codes "run") || same_bytes word (codes "mine") || same_bytes word (codes "load")

-- what the words ask for
abbrev pub command_of : List (List ℕ) → Command
command_of [] = Wrong
command_of (first ∷ rest) =
    if same_bytes first (codes "fold") then fold_with rest
    else if is_later first then Later
    else Wrong
