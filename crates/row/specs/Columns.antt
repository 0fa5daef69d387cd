-- The columns of the eight tables: GTFS's names, in the order of the Rust's `columns`. A name is its bytes.
use Rattle.std.specs.Prelude.{ℕ, List, [], ◌∷◌, ◌++◌, length, get_or}
use Rattle.rfc4180.specs.Write.{delimiter}

-- ---- the names

-- route_id
abbrev pub route_id : List ℕ
route_id = 114 ∷ 111 ∷ 117 ∷ 116 ∷ 101 ∷ 95 ∷ 105 ∷ 100 ∷ []

-- route_short_name
abbrev pub route_short_name : List ℕ
route_short_name = 114 ∷ 111 ∷ 117 ∷ 116 ∷ 101 ∷ 95 ∷ 115 ∷ 104 ∷ 111 ∷ 114 ∷ 116 ∷ 95 ∷ 110 ∷ 97 ∷ 109 ∷ 101 ∷ []

-- route_type
abbrev pub route_type : List ℕ
route_type = 114 ∷ 111 ∷ 117 ∷ 116 ∷ 101 ∷ 95 ∷ 116 ∷ 121 ∷ 112 ∷ 101 ∷ []

-- stop_id
abbrev pub stop_id : List ℕ
stop_id = 115 ∷ 116 ∷ 111 ∷ 112 ∷ 95 ∷ 105 ∷ 100 ∷ []

-- stop_code
abbrev pub stop_code : List ℕ
stop_code = 115 ∷ 116 ∷ 111 ∷ 112 ∷ 95 ∷ 99 ∷ 111 ∷ 100 ∷ 101 ∷ []

-- stop_name
abbrev pub stop_name : List ℕ
stop_name = 115 ∷ 116 ∷ 111 ∷ 112 ∷ 95 ∷ 110 ∷ 97 ∷ 109 ∷ 101 ∷ []

-- service_id
abbrev pub service_id : List ℕ
service_id = 115 ∷ 101 ∷ 114 ∷ 118 ∷ 105 ∷ 99 ∷ 101 ∷ 95 ∷ 105 ∷ 100 ∷ []

-- trip_id
abbrev pub trip_id : List ℕ
trip_id = 116 ∷ 114 ∷ 105 ∷ 112 ∷ 95 ∷ 105 ∷ 100 ∷ []

-- trip_headsign
abbrev pub trip_headsign : List ℕ
trip_headsign = 116 ∷ 114 ∷ 105 ∷ 112 ∷ 95 ∷ 104 ∷ 101 ∷ 97 ∷ 100 ∷ 115 ∷ 105 ∷ 103 ∷ 110 ∷ []

-- direction_id
abbrev pub direction_id : List ℕ
direction_id = 100 ∷ 105 ∷ 114 ∷ 101 ∷ 99 ∷ 116 ∷ 105 ∷ 111 ∷ 110 ∷ 95 ∷ 105 ∷ 100 ∷ []

-- stop_sequence
abbrev pub stop_sequence : List ℕ
stop_sequence = 115 ∷ 116 ∷ 111 ∷ 112 ∷ 95 ∷ 115 ∷ 101 ∷ 113 ∷ 117 ∷ 101 ∷ 110 ∷ 99 ∷ 101 ∷ []

-- arrival_time
abbrev pub arrival_time : List ℕ
arrival_time = 97 ∷ 114 ∷ 114 ∷ 105 ∷ 118 ∷ 97 ∷ 108 ∷ 95 ∷ 116 ∷ 105 ∷ 109 ∷ 101 ∷ []

-- departure_time
abbrev pub departure_time : List ℕ
departure_time = 100 ∷ 101 ∷ 112 ∷ 97 ∷ 114 ∷ 116 ∷ 117 ∷ 114 ∷ 101 ∷ 95 ∷ 116 ∷ 105 ∷ 109 ∷ 101 ∷ []

-- pickup_type
abbrev pub pickup_type : List ℕ
pickup_type = 112 ∷ 105 ∷ 99 ∷ 107 ∷ 117 ∷ 112 ∷ 95 ∷ 116 ∷ 121 ∷ 112 ∷ 101 ∷ []

-- drop_off_type
abbrev pub drop_off_type : List ℕ
drop_off_type = 100 ∷ 114 ∷ 111 ∷ 112 ∷ 95 ∷ 111 ∷ 102 ∷ 102 ∷ 95 ∷ 116 ∷ 121 ∷ 112 ∷ 101 ∷ []

-- stop_headsign
abbrev pub stop_headsign : List ℕ
stop_headsign = 115 ∷ 116 ∷ 111 ∷ 112 ∷ 95 ∷ 104 ∷ 101 ∷ 97 ∷ 100 ∷ 115 ∷ 105 ∷ 103 ∷ 110 ∷ []

-- monday
abbrev pub monday : List ℕ
monday = 109 ∷ 111 ∷ 110 ∷ 100 ∷ 97 ∷ 121 ∷ []

-- tuesday
abbrev pub tuesday : List ℕ
tuesday = 116 ∷ 117 ∷ 101 ∷ 115 ∷ 100 ∷ 97 ∷ 121 ∷ []

-- wednesday
abbrev pub wednesday : List ℕ
wednesday = 119 ∷ 101 ∷ 100 ∷ 110 ∷ 101 ∷ 115 ∷ 100 ∷ 97 ∷ 121 ∷ []

-- thursday
abbrev pub thursday : List ℕ
thursday = 116 ∷ 104 ∷ 117 ∷ 114 ∷ 115 ∷ 100 ∷ 97 ∷ 121 ∷ []

-- friday
abbrev pub friday : List ℕ
friday = 102 ∷ 114 ∷ 105 ∷ 100 ∷ 97 ∷ 121 ∷ []

-- saturday
abbrev pub saturday : List ℕ
saturday = 115 ∷ 97 ∷ 116 ∷ 117 ∷ 114 ∷ 100 ∷ 97 ∷ 121 ∷ []

-- sunday
abbrev pub sunday : List ℕ
sunday = 115 ∷ 117 ∷ 110 ∷ 100 ∷ 97 ∷ 121 ∷ []

-- start_date
abbrev pub start_date : List ℕ
start_date = 115 ∷ 116 ∷ 97 ∷ 114 ∷ 116 ∷ 95 ∷ 100 ∷ 97 ∷ 116 ∷ 101 ∷ []

-- end_date
abbrev pub end_date : List ℕ
end_date = 101 ∷ 110 ∷ 100 ∷ 95 ∷ 100 ∷ 97 ∷ 116 ∷ 101 ∷ []

-- date
abbrev pub date : List ℕ
date = 100 ∷ 97 ∷ 116 ∷ 101 ∷ []

-- exception_type
abbrev pub exception_type : List ℕ
exception_type = 101 ∷ 120 ∷ 99 ∷ 101 ∷ 112 ∷ 116 ∷ 105 ∷ 111 ∷ 110 ∷ 95 ∷ 116 ∷ 121 ∷ 112 ∷ 101 ∷ []

-- feed_start_date
abbrev pub feed_start_date : List ℕ
feed_start_date = 102 ∷ 101 ∷ 101 ∷ 100 ∷ 95 ∷ 115 ∷ 116 ∷ 97 ∷ 114 ∷ 116 ∷ 95 ∷ 100 ∷ 97 ∷ 116 ∷ 101 ∷ []

-- feed_end_date
abbrev pub feed_end_date : List ℕ
feed_end_date = 102 ∷ 101 ∷ 101 ∷ 100 ∷ 95 ∷ 101 ∷ 110 ∷ 100 ∷ 95 ∷ 100 ∷ 97 ∷ 116 ∷ 101 ∷ []

-- from_stop_id
abbrev pub from_stop_id : List ℕ
from_stop_id = 102 ∷ 114 ∷ 111 ∷ 109 ∷ 95 ∷ 115 ∷ 116 ∷ 111 ∷ 112 ∷ 95 ∷ 105 ∷ 100 ∷ []

-- to_stop_id
abbrev pub to_stop_id : List ℕ
to_stop_id = 116 ∷ 111 ∷ 95 ∷ 115 ∷ 116 ∷ 111 ∷ 112 ∷ 95 ∷ 105 ∷ 100 ∷ []

-- transfer_type
abbrev pub transfer_type : List ℕ
transfer_type = 116 ∷ 114 ∷ 97 ∷ 110 ∷ 115 ∷ 102 ∷ 101 ∷ 114 ∷ 95 ∷ 116 ∷ 121 ∷ 112 ∷ 101 ∷ []

-- min_transfer_time
abbrev pub min_transfer_time : List ℕ
min_transfer_time = 109 ∷ 105 ∷ 110 ∷ 95 ∷ 116 ∷ 114 ∷ 97 ∷ 110 ∷ 115 ∷ 102 ∷ 101 ∷ 114 ∷ 95 ∷ 116 ∷ 105 ∷ 109 ∷ 101 ∷ []

-- from_route_id
abbrev pub from_route_id : List ℕ
from_route_id = 102 ∷ 114 ∷ 111 ∷ 109 ∷ 95 ∷ 114 ∷ 111 ∷ 117 ∷ 116 ∷ 101 ∷ 95 ∷ 105 ∷ 100 ∷ []

-- to_route_id
abbrev pub to_route_id : List ℕ
to_route_id = 116 ∷ 111 ∷ 95 ∷ 114 ∷ 111 ∷ 117 ∷ 116 ∷ 101 ∷ 95 ∷ 105 ∷ 100 ∷ []

-- from_trip_id
abbrev pub from_trip_id : List ℕ
from_trip_id = 102 ∷ 114 ∷ 111 ∷ 109 ∷ 95 ∷ 116 ∷ 114 ∷ 105 ∷ 112 ∷ 95 ∷ 105 ∷ 100 ∷ []

-- to_trip_id
abbrev pub to_trip_id : List ℕ
to_trip_id = 116 ∷ 111 ∷ 95 ∷ 116 ∷ 114 ∷ 105 ∷ 112 ∷ 95 ∷ 105 ∷ 100 ∷ []

-- ---- the tables

-- by number: 0 Routes, 1 Stops, 2 Trips, 3 StopTimes, 4 Calendar, 5 CalendarDates, 6 FeedInfo, 7 Transfers
unfoldable pub columns : List (List (List ℕ))
columns =
    (route_id ∷ route_short_name ∷ route_type ∷ [])
    ∷ (stop_id ∷ stop_code ∷ stop_name ∷ [])
    ∷ (route_id ∷ service_id ∷ trip_id ∷ trip_headsign ∷ direction_id ∷ [])
    ∷ (trip_id ∷ stop_id ∷ stop_sequence ∷ arrival_time ∷ departure_time ∷ pickup_type ∷ drop_off_type ∷ stop_headsign ∷ [])
    ∷ (service_id ∷ monday ∷ tuesday ∷ wednesday ∷ thursday ∷ friday ∷ saturday ∷ sunday ∷ start_date ∷ end_date ∷ [])
    ∷ (service_id ∷ date ∷ exception_type ∷ [])
    ∷ (feed_start_date ∷ feed_end_date ∷ [])
    ∷ (from_stop_id ∷ to_stop_id ∷ transfer_type ∷ min_transfer_time ∷ from_route_id ∷ to_route_id ∷ from_trip_id ∷ to_trip_id ∷ [])
    ∷ []

-- the columns of a table, none past the last table
unfoldable pub columns_of : ℕ → List (List ℕ)
columns_of table = get_or columns table []

-- how many columns a table has
abbrev pub column_count : ℕ → ℕ
column_count table = length (columns_of table)

-- names "joined by commas, and LF"
unfoldable pub line : List (List ℕ) → List ℕ
line [] = []
line (v ∷ vs) = v ++ (delimiter vs ∷ line vs)

-- the names line of a table
abbrev pub names_line : ℕ → List ℕ
names_line table = line (columns_of table)
