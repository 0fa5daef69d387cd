-- The refusals by number: 1 to 14 are 01's, 15 to 23 are 02's. No call gives 15 to 23 yet; the change requests of 02 add them.
use Rattle.std.specs.Prelude.{ℕ}
use Rattle.refusal.specs.declared.Refusal.{Refusal}
use Rattle.refusal.specs.declared.Refusal.TheVariants.{Region, Argument, Mark, Seal, Span, Source, Data, Identity, Small, Full, Turn, Obsolete, Unfit, Row, Key, Future, Line, Rights, LastKeeper, List, Absent, Layout, Table}

abbrev pub number_of : Refusal → ℕ
number_of Region = 1
number_of Argument = 2
number_of Mark = 3
number_of Seal = 4
number_of Span = 5
number_of Source = 6
number_of Data = 7
number_of Identity = 8
number_of Small = 9
number_of Full = 10
number_of Turn = 11
number_of Obsolete = 12
number_of Unfit = 13
number_of Row = 14
number_of Key = 15
number_of Future = 16
number_of Line = 17
number_of Rights = 18
number_of LastKeeper = 19
number_of List = 20
number_of Absent = 21
number_of Layout = 22
number_of Table = 23
