-- What lists of columns are.
use Rattle.std.specs.Prelude.{List, length, Bool, true, ◌&&◌, nat_le}
use Rattle.std.specs.List.{list_all}
use Rattle.redo_vec.specs.declared.columns.Kind.{Kind}
use Rattle.redo_vec.specs.declared.columns.Kind.TheVariants as kinds
use Rattle.redo_vec.specs.declared.columns.Column.{Column}

-- the size of a text's or a raw value's type is 1 to 500
abbrev pub is_kind : Kind → Bool
is_kind kinds.Number = true
is_kind (kinds.Text size) = nat_le 1 size && nat_le size 500
is_kind (kinds.Raw size) = nat_le 1 size && nat_le size 500

-- 1 to 32 columns, the type of each in its range
abbrev pub are_columns : List Column → Bool
are_columns columns = nat_le 1 (length columns) && nat_le (length columns) 32 && list_all (λ c. is_kind c.kind) columns
