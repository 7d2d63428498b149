-- What a line is: bytes without a line end among them. The line end is written behind it and is no part of it.
use Rattle.std.specs.Prelude.{ℕ, List, Bool, not, ◌==◌}
use Rattle.std.specs.List.{list_all}

-- the byte that ends a line, LF
abbrev pub line_end : ℕ
line_end = 10

-- a byte that may stand in a line
abbrev pub is_inside : ℕ → Bool
is_inside b = not (b == line_end)

-- no byte of these ends a line
abbrev pub is_line : List ℕ → Bool
is_line bytes = list_all is_inside bytes
