-- How many items of each kind a history has.
use Rattle.std.specs.Prelude.{ℕ, ◌+◌, ◌-◌, ◌^◌, min, Bool, true, false, List}
use Rattle.std.specs.List.{count_by}
use Rattle.socket_station.specs.Items.{Item, Call, Polled, Failed, PollCall, Shut}
use Rattle.history_book.specs.declared.tally.Tally.{Tally}

-- whether an item is of a call that may fail
abbrev pub is_call : Item → Bool
is_call (Shut s) = false
is_call _ = true

abbrev pub is_poll_call : Call → Bool
is_poll_call PollCall = true
is_poll_call _ = false

-- whether an item is of a poll, failed or not
abbrev pub is_poll : Item → Bool
is_poll (Polled list) = true
is_poll (Failed call) = is_poll_call call
is_poll _ = false

-- how many calls were answered, `shut` not counted
abbrev pub calls_in : List Item → ℕ
calls_in items = count_by is_call items

-- how many polls were answered, failed ones too
abbrev pub polls_in : List Item → ℕ
polls_in items = count_by is_poll items

-- a count in 64 bits and one in 32: it stays at its last value
abbrev pub long : ℕ → ℕ
long n = min n (2 ^ 64 - 1)

abbrev pub short : ℕ → ℕ
short n = min n (2 ^ 32 - 1)

abbrev pub no_tally : Tally
no_tally = record { calls = 0; told = 0; polls = 0 }

-- the counts behind one more item
abbrev pub called : Tally → Tally
called t = record { calls = long (t.calls + 1); told = long (t.told + 1); polls = t.polls }

abbrev pub polled : Tally → Tally
polled t = record { calls = long (t.calls + 1); told = long (t.told + 1); polls = short (t.polls + 1) }

abbrev pub shut : Tally → Tally
shut t = record { calls = t.calls; told = long (t.told + 1); polls = t.polls }
