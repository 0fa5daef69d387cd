-- A timetable has eight tables, numbered from 0.
use Rattle.std.specs.Prelude.{ℕ}

abbrev pub max_tables : ℕ
max_tables = 8

abbrev pub last_table : ℕ
last_table = 7
